-- Values whose items rise, so that they can be looked for by halves.
use Rattle.std.specs.Prelude.{Bool, false}
use Rattle.ess_semantics.specs.Values.{Value, node, a_set, a_function, a_relation, to_list, itself, from_of}
use Rattle.ess_semantics.specs.Collections.{rises}

-- Whether the value is a set or a relation whose items rise strictly, or a function whose arguments do.
abbrev pub has_rising_items : Value → Bool
has_rising_items (node a_set xs) = rises itself (to_list xs)
has_rising_items (node a_relation xs) = rises itself (to_list xs)
has_rising_items (node a_function xs) = rises from_of (to_list xs)
has_rising_items _ = false
