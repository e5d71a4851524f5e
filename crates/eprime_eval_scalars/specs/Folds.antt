-- Words that the folds over lists of values are computed by.
use Rattle.std.specs.Prelude.{Bool, List, pos, if◌then◌else◌, Option, Some, None}
use Rattle.std.specs.List.{list_any}
use Rattle.std.specs.Ordering.{int_eq}
use Rattle.ess_semantics.specs.Values.{Value}
use Rattle.ess_semantics.specs.Order.{below}
use Rattle.ess_semantics.specs.Operators.{number_in}

-- Whether a factor is 0.
abbrev pub has_zero : List Value → Bool
has_zero xs = list_any (λ x. int_eq (number_in x) (pos 0)) xs

-- What was found, where it is below the item.
abbrev pub lower_of : Option Value → Value → Value
lower_of None x = x
lower_of (Some m) x = if below m x then m else x

-- What was found, where the item is below it.
abbrev pub higher_of : Option Value → Value → Value
higher_of None x = x
higher_of (Some m) x = if below x m then m else x
