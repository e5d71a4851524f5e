use Rattle.std.proofs.Common.{◌≡◌, drop}
use Rattle.ess_core_nodes.specs.NodeViews.{pure_nodes}
use Rattle.ess_rules_laws.specs.FieldLiterals.{field_term}
use Rattle.ess_rules_lists.proofs.items.field_item.Given as goal

abbrev pub invariant-loop-name : goal.invariant-loop-name
invariant-loop-name l = field_term l.names (pure_nodes l.items) l.field ≡ field_term (drop l.name-index l.names) (pure_nodes l.rest) l.field
