-- One layer of a function on rows: its parts, its tables and its value, by the form in which it is kept.
use Rattle.std.specs.Prelude.{Bool, true, List, [], ◌∷◌, map, length, take, drop, Option, Some, is_some, option_map}
use Rattle.ess_semantics.specs.Lists.{and_then, only_of}
use Rattle.ess_semantics.specs.Values.{a_relation, Value, node, of_list, items_of}
use Rattle.ess_semantics.specs.Collections.{value_at}
use Rattle.ess_semantics.specs.Domains.{Domain, member_list}
use Rattle.ess_semantics.specs.Tables.{Tables, volume}
use Rattle.ess_semantics.specs.Cells.{Axes}
use Rattle.ess_semantics.specs.Layers.{everywhere, where_flagged}
use Rattle.ess_semantics.specs.FunctionLayers.{function_with, function_from}
use Rattle.ess_semantics.specs.Canonical.{somes}
use Rattle.ess_repr_rows_laws.specs.Cutting.{first_items}
use Rattle.ess_repr_rows_laws.specs.RowLayers.{spread, flagged_tables, picked}
use Rattle.ess_repr_rows_laws.specs.Stacking.{stacked}
use Rattle.ess_repr_functions.specs.declared.forms.Form.{Form}
use Rattle.ess_repr_functions.specs.declared.forms.Form.TheVariants.{ForEach, Flagged, AsRelation}

-- The values of a function at the members of d, where it has one.
abbrev pub values_at_members : Domain → Value → List Value
values_at_members d v = somes (map (value_at (items_of v)) (member_list d))

-- Of each member of d whether the function has a value there.
abbrev pub has_values : Domain → Value → List Bool
has_values d v = map is_some (map (value_at (items_of v)) (member_list d))

-- The relation of a function's pairs.
abbrev pub relation_of_pairs : Value → Value
relation_of_pairs v = node a_relation (of_list (items_of v))

-- The parts of a function: the values by argument, or the relation.
abbrev pub parts_by : Form → Domain → Value → List Value
parts_by AsRelation d v = relation_of_pairs v ∷ []
parts_by _ d v = values_at_members d v

-- Its tables, where tss are those of the parts, over the axes ass.
abbrev pub tables_by : Form → Domain → Value → List Axes → List Tables → Tables
tables_by (ForEach as') d v ass tss = stacked as' ass (spread (has_values d v) tss)
tables_by (Flagged as') d v ass tss = flagged_tables as' ass (spread (has_values d v) tss)
tables_by AsRelation d v ass tss = stacked [] ass (spread (true ∷ []) tss)

-- The function of the values of the parts in use.
abbrev pub value_by : Form → Domain → Tables → List Value → Option Value
value_by (ForEach as') d ts vs = Some (function_with (member_list d) vs)
value_by (Flagged as') d ts vs = option_map (λ xs. function_with xs vs) (picked (first_items ts) (member_list d))
value_by AsRelation d ts vs = and_then (only_of vs) function_from
