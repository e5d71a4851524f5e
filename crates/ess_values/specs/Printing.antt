-- Parts of the texts of values, and which runs a list of numbers has so far.
use Rattle.std.specs.Prelude.{ℕ, List, [], ◌∷◌, ◌++◌, codes, if◌then◌else◌, pos, ◌+ℤ◌}
use Rattle.std.specs.Ordering.{int_eq}
use Rattle.ess_semantics.specs.Values.{Text, Value, from_of, to_of}
use Rattle.ess_grammar.specs.ValueTexts.{Run, value_text}

-- What stands behind the items of a matrix: its index domain where it has items, and the bracket.
abbrev pub matrix_end : {A : Type 0} → Text → List A → Text
matrix_end i [] = codes "]"
matrix_end i (x ∷ xs) = codes "; " ++ i ++ codes "]"

-- A pair of a function: the argument, and the value there.
unfoldable pub pair_text : (Text → ℕ → Text) → Value → Text
pair_text name_of p = value_text name_of (from_of p) ++ codes " --> " ++ value_text name_of (to_of p)

-- A run before runs: it goes on in the first one where that stands directly above it.
abbrev pub run_before : Run → List Run → List Run
run_before r [] = r ∷ []
run_before r (s ∷ rs) = if int_eq (r.1 +ℤ pos 1) s.0 then (r.0, s.1) ∷ rs else r ∷ s ∷ rs

-- Runs before runs: the last one may go on in the first one behind it.
abbrev pub runs_before : List Run → List Run → List Run
runs_before [] ss = ss
runs_before (r ∷ []) ss = run_before r ss
runs_before (r ∷ s ∷ rs) ss = r ∷ runs_before (s ∷ rs) ss
