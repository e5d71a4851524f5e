-- Worked examples of places.
use Rattle.std.specs.Prelude.{◌≡◌, refl, ℕ, [], ◌∷◌, codes}
use Rattle.ess_rows.specs.declared.place.Place.{Place}
use Rattle.ess_grammar.specs.Places.{place, end_place, at_line_and_column}

abbrev at : ℕ → ℕ → Place
at line col = record { line = line; col = col }

first : place [] ≡ at 1 1
first = refl

-- tabs and carriage returns are a column each, and so is each byte of a character of two bytes
columns : place (97 ∷ 9 ∷ 13 ∷ 195 ∷ 164 ∷ []) ≡ at 1 6
columns = refl

behind_line_feed : place (97 ∷ 98 ∷ 10 ∷ []) ≡ at 2 1
behind_line_feed = refl

third_line : place (97 ∷ 10 ∷ 13 ∷ 10 ∷ 32 ∷ 32 ∷ []) ≡ at 3 3
third_line = refl

-- a line feed is the last byte of its line
at_line_feed : place (97 ∷ 98 ∷ []) ≡ at 1 3
at_line_feed = refl

capped : at_line_and_column 4294967296 4294967295 ≡ at 4294967295 4294967295
capped = refl

end_of_line : end_place (codes "find x :") ≡ at 1 9
end_of_line = refl

end_behind_line_feed : end_place (97 ∷ 10 ∷ 98 ∷ 99 ∷ 10 ∷ []) ≡ at 2 4
end_behind_line_feed = refl

end_of_nothing : end_place [] ≡ at 1 1
end_of_nothing = refl
