-- The numbers of an index domain's ranges.
use Rattle.std.specs.Prelude.{ℕ, if◌then◌else◌, List, [], ◌∷◌, ◌++◌, length, ℤ, Option, Some, None, nat_le, option_map}
use Rattle.ess_semantics.specs.Lists.{and_then}
use Rattle.ess_semantics.specs.Values.{Value}
use Rattle.ess_semantics.specs.Trees.{Ends, one_value, both_ends}
use Rattle.ess_semantics.specs.Domains.{interval}
use Rattle.ess_core.specs.TreeViews.{With}
use Rattle.ess_values.specs.TypedLiterals.{both, literal_number}

-- The bounds of a range of literals.
abbrev pub literal_interval : With Ends → Option (ℤ × ℤ)
literal_interval (one_value, e ∷ []) = option_map (λ n. (n, n)) (literal_number e)
literal_interval (both_ends, a ∷ b ∷ []) = both (literal_number a) (literal_number b)
literal_interval w = None

-- The numbers of ranges of literals one behind the other, where each range has no more than so many.
abbrev pub numbers_of : ℕ → List (With Ends) → Option (List Value)
numbers_of n [] = Some []
numbers_of n (w ∷ ws) =
    and_then (literal_interval w) (λ i. if nat_le (length (interval i.0 i.1)) n then option_map (λ more. interval i.0 i.1 ++ more) (numbers_of n ws) else None)
