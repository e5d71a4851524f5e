-- The parts of a partition, which are sets.
use Rattle.std.specs.Prelude.{List, []}
use Rattle.ess_semantics.specs.Values.{Value, node, a_set, to_list}

-- The members of a set; none of any other value.
abbrev pub set_members : Value → List Value
set_members (node a_set xs) = to_list xs
set_members _ = []
