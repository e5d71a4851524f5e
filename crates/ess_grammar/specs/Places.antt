-- Places in a text: lines and columns from 1, columns in bytes.
use Rattle.std.specs.Prelude.{ℕ, ◌+◌, Bool, not, [], ◌∷◌, length, take, min, nat_eq, count_by}
use Rattle.std.specs.List.{suffix_len}
use Rattle.ess_rows.specs.declared.place.Place.{Place}
use Rattle.ess_semantics.specs.Values.{Text}

-- whether a byte ends a line
abbrev pub is_line_feed : ℕ → Bool
is_line_feed b = nat_eq b 10

-- a line or column above this number is given as it: 2^32 - 1
abbrev pub largest : ℕ
largest = 4294967295

-- the place in this line and column, each kept at the largest number
abbrev pub at_line_and_column : ℕ → ℕ → Place
at_line_and_column line col = record { line = min line largest; col = min col largest }

-- how many line feeds stand among the bytes
abbrev pub lines_before : Text → ℕ
lines_before before = count_by is_line_feed before

-- how many bytes stand after the last line feed
abbrev pub bytes_in_line : Text → ℕ
bytes_in_line before = suffix_len (λ b. not (is_line_feed b)) before

-- the place of a byte that stands behind these
abbrev pub place : Text → Place
place before = at_line_and_column (lines_before before + 1) (bytes_in_line before + 1)

-- the end of a text stands one column past its last byte
abbrev pub end_place : Text → Place
end_place [] = place []
end_place (b ∷ bs) =
    let front : Text = take (length bs) (b ∷ bs) in
    at_line_and_column (lines_before front + 1) (bytes_in_line front + 2)
