-- The pure assignment that an assignment stands for.
use Rattle.std.specs.Prelude.{List, Option, map, option_map}
use Rattle.ess_semantics.specs.Values.{Text, Value}
use Rattle.ess_semantics.specs.Assignments as pure
use Rattle.ess_core.specs.ValueViews.{pure_val}
use Rattle.ess_domains.specs.declared.assignments.TypeNames.{TypeNames}
use Rattle.ess_domains.specs.declared.assignments.NamedValue.{NamedValue}
use Rattle.ess_domains.specs.declared.assignments.Assignment.{Assignment}

-- A type with the names of its values.
abbrev pub pure_type_names : TypeNames → Text × List Text
pure_type_names t = (t.name, t.names)

-- A name with its value, where it has one.
abbrev pub pure_named_value : NamedValue → Text × Option Value
pure_named_value g = (g.name, option_map pure_val g.val)

-- The types and values, in order.
abbrev pub pure_assignment : Assignment → pure.Assignment
pure_assignment a = record { types = map pure_type_names a.types; vals = map pure_named_value a.vals }
