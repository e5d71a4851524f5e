-- What the code's parts of views stand for.
use Rattle.ess_core.specs.TreeViews.{pure_repr}
use Rattle.ess_core_nodes.specs.NodeViews.{pure_dom, pure_nodes}
use Rattle.ess_rules_views.specs.ViewForms.{OneTable, Arguments, Slots}
use Rattle.ess_rules_views.specs.declared.parts.TableParts.{TableParts}
use Rattle.ess_rules_views.specs.declared.parts.FunctionParts.{FunctionParts}
use Rattle.ess_rules_views.specs.declared.parts.SlotParts.{SlotParts}

-- A view over one table.
abbrev pub pure_table : TableParts → OneTable
pure_table t = record { kind = t.kind; dom = pure_dom t.dom.now; table = t.table.now; at = pure_nodes t.at.now }

-- A view of a function with one child.
abbrev pub pure_function : FunctionParts → Arguments
pure_function v = record {
  kind = v.kind;
  child = pure_repr v.child.now;
  first = pure_dom v.first.now;
  last = pure_dom v.last.now;
  cells = v.cells.now;
  at = pure_nodes v.at.now;
}

-- A view of a set with one child.
abbrev pub pure_slots : SlotParts → Slots
pure_slots v = record { kind = v.kind; cells = v.cells.now; at = pure_nodes v.at.now }
