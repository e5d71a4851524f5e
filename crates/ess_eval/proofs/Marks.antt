-- A number outside 64 bits is no truth value.
use Rattle.std.proofs.Common.{◌≡◌, refl, true, false, Bool, Option, Some, None}
use Rattle.ess_semantics.specs.Values.{Value, number, truth, item, node}
use Rattle.ess_semantics.specs.Operators.{false_where_undefined}
use Rattle.ess_semantics.specs.Large.{is_big}

-- Where a Boolean node would have a number outside 64 bits, it is false.
pub big_is_false : (o : Option Value) → is_big o ≡ true → false_where_undefined true o ≡ Some (truth false)
big_is_false None h = refl
big_is_false (Some (number n)) h = refl
big_is_false (Some (truth b)) h = cc
big_is_false (Some (item t k)) h = refl
big_is_false (Some (node k xs)) h = refl
