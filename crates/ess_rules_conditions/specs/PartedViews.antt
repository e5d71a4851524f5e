-- Generators taken apart at a condition, as the definitions have them.
use Rattle.std.specs.Prelude.{Option, Some, None, if◌then◌else◌}
use Rattle.ess_semantics.specs.Trees.{Ex}
use Rattle.ess_semantics.specs.Occurrences.{has_cells}
use Rattle.ess_core.specs.TreeViews.{Item, cond_item}
use Rattle.ess_core_nodes.specs.NodeViews.{pure_node, pure_gens}
use Rattle.ess_refine_laws.specs.LeavingConditions as pure
use Rattle.ess_rules_conditions.specs.declared.parted.Parted.{Parted}

-- What generators taken apart stand for.
abbrev pub pure_parted : Parted → pure.Parted
pure_parted t = record { before = pure_gens t.before.now; condition = pure_node t.condition.now; after = pure_gens t.after.now }

-- The condition, where the item is one that reads a cell.
abbrev pub read_condition : Item → Option Ex
read_condition (cond_item c) = if has_cells c then Some c else None
read_condition i = None
