-- How a line is read, from left to right. Only the reader's own functions speak of it: what callers
-- rely on is the small grammar.
use Rattle.std.specs.Prelude.{ℕ, suc, ◌^◌, nat_le, Bool, true, not, ◌&&◌, ◌++◌, List, [], ◌∷◌, codes, if◌then◌else◌, ◌==◌, take, drop, Option, Some, None}
use Rattle.std.specs.Option.{option_and_then}
use Rattle.conjure_cli_laws.specs.SmallGrammar.{Statement, find, such_that, is_name_byte, is_digit, is_name, value_from, fits_after, found_names}

infixl 10 ◌>>=◌
abbrev pub ◌>>=◌ : {A B : Type 0} → Option A → (A → Option B) → Option B
o >>= f = option_and_then f o

-- how many bytes at the front pass the test
abbrev pub run_len : (ℕ → Bool) → List ℕ → ℕ
run_len test [] = 0
run_len test (b ∷ bytes) = if test b then suc (run_len test bytes) else 0

-- what follows the piece
abbrev pub behind : List ℕ → List ℕ → Option (List ℕ)
behind [] bytes = Some bytes
behind (c ∷ piece) [] = None
behind (c ∷ piece) (b ∷ bytes) = if b == c then behind piece bytes else None

-- the name at the front, as long as it can be, and what follows it
unfoldable pub name_at : List ℕ → Option (List ℕ × List ℕ)
name_at bytes =
    if is_name (take (run_len is_name_byte bytes) bytes)
    then Some (take (run_len is_name_byte bytes) bytes, drop (run_len is_name_byte bytes) bytes) else None

-- the number that is written with all of the digits, and what follows them
abbrev pub number_from : List ℕ → List ℕ → Option (ℕ × List ℕ)
number_from [] rest = None
number_from (d ∷ digits) rest =
    if nat_le (2 ^ 63) (value_from 0 (d ∷ digits)) then None else Some (value_from 0 (d ∷ digits), rest)

-- the number at the front, and what follows its digits
unfoldable pub number_at : List ℕ → Option (ℕ × List ℕ)
number_at bytes = number_from (take (run_len is_digit bytes) bytes) (drop (run_len is_digit bytes) bytes)

-- nothing follows
abbrev pub at_end : {A : Type 0} → List ℕ → A → Option A
at_end [] x = Some x
at_end (b ∷ bytes) x = None

-- what stands behind `find `
unfoldable pub find_at : List ℕ → Option Statement
find_at bytes =
    name_at bytes >>= (λ name.
    behind (codes " : set of int(") name.1 >>= (λ lows.
    number_at lows >>= (λ low.
    behind (codes "..") low.1 >>= (λ highs.
    number_at highs >>= (λ high.
    behind (codes ")") high.1 >>= (λ rest.
    at_end rest (find name.0 low.0 high.0)))))))

-- what stands behind `such that `
unfoldable pub such_that_at : List ℕ → Option Statement
such_that_at bytes =
    number_at bytes >>= (λ number.
    behind (codes " in ") number.1 >>= (λ name.
    if is_name name then Some (such_that number.0 name) else None))

unfoldable pub otherwise : Option (List ℕ) → List ℕ → Option Statement
otherwise (Some rest) line = find_at rest
otherwise None line = behind (codes "such that ") line >>= such_that_at

-- the line
unfoldable pub line_at : List ℕ → Option Statement
line_at line = otherwise (behind (codes "find ") line) line

-- a byte that ends no line
abbrev pub is_in_line : ℕ → Bool
is_in_line b = not (b == 10)

-- all lines, where each says a statement
abbrev pub read_lines : List (List ℕ) → Option (List Statement)
read_lines [] = Some []
read_lines (line ∷ lines) = line_at line >>= (λ statement. read_lines lines >>= (λ more. Some (statement ∷ more)))

-- whether each statement fits after the names known and those that are found before it
abbrev pub fit_from : List (List ℕ) → List Statement → Bool
fit_from known [] = true
fit_from known (statement ∷ more) = fits_after known statement && fit_from (known ++ found_names (statement ∷ [])) more
