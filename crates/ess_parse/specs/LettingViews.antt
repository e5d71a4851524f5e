-- What files of lettings and their reader stand for.
use Rattle.std.specs.Prelude.{List, map}
use Rattle.ess_semantics.specs.Trees.{Stm, let_ex, let_enum}
use Rattle.ess_core.specs.TreeViews.{pure_ex}
use Rattle.ess_parse_machine.specs.Parsers.{view_parser}
use Rattle.ess_parse.specs.Machines.{LettingsState}
use Rattle.ess_parse.specs.declared.lettings.statements.Letting.{Letting}
use Rattle.ess_parse.specs.declared.lettings.statements.Letting.TheVariants as L
use Rattle.ess_parse.specs.declared.lettings.statements.Lettings.{Lettings}
use Rattle.ess_parse.specs.declared.lettings.machine.Machine.{Machine}

-- The statement of a letting.
abbrev pub pure_letting : Letting → Stm
pure_letting (L.Value a e) = let_ex a (pure_ex e)
pure_letting (L.Enum a ns) = let_enum a ns

-- The statements of a file, in order.
abbrev pub pure_lettings : Lettings → List Stm
pure_lettings f = map pure_letting f.list

-- The state of the reader.
abbrev pub view_machine : Machine → LettingsState
view_machine m = record { behind_type = m.behind_type; state = view_parser m.parser }
