-- Factors.
use Rattle.std.specs.Prelude.{Bool, List, pos}
use Rattle.std.specs.List.{list_any}
use Rattle.std.specs.Ordering.{int_eq}
use Rattle.ess_semantics.specs.Values.{Value}
use Rattle.ess_semantics.specs.Operators.{number_in}

-- Whether a factor is 0.
abbrev pub has_zero : List Value → Bool
has_zero xs = list_any (λ x. int_eq (number_in x) (pos 0)) xs
