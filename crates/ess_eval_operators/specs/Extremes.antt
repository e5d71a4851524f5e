-- The choice between a value that was found and one more item.
use Rattle.std.specs.Prelude.{if◌then◌else◌, Option, Some, None}
use Rattle.ess_semantics.specs.Values.{Value}
use Rattle.ess_semantics.specs.Order.{below}

-- What was found, where it is below the item.
abbrev pub lower_of : Option Value → Value → Value
lower_of None x = x
lower_of (Some m) x = if below m x then m else x

-- What was found, where the item is below it.
abbrev pub higher_of : Option Value → Value → Value
higher_of None x = x
higher_of (Some m) x = if below x m then m else x
