-- Steps to parts of values, as the code holds them, and the domain that one reaches.
use Rattle.std.specs.Prelude.{Option}
use Rattle.ess_semantics.specs.Trees.{Dom}
use Rattle.ess_ordered_laws.specs.ToldAxes.{results_of, component_dom, field_dom, items_dom}
use Rattle.ess_numbered_laws.specs.MostItems.{Pick, an_item, a_result, a_component, a_field}
use Rattle.ess_rules_numbered.specs.declared.picks.Pick as code

-- The step that the code holds.
abbrev pub pure_pick : code.Pick → Pick
pure_pick code.Pick.Item = an_item
pure_pick code.Pick.Result = a_result
pure_pick (code.Pick.Component k) = a_component k
pure_pick (code.Pick.Field a) = a_field a.now

-- The domain that one step reaches.
abbrev pub dom_picked : Pick → Option Dom → Option Dom
dom_picked an_item o = items_dom o
dom_picked a_result o = results_of o
dom_picked (a_component k) o = component_dom k o
dom_picked (a_field a) o = field_dom a o
