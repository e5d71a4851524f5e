-- What the parts of views in the code stand for.
use Rattle.ess_core.specs.TreeViews.{pure_repr}
use Rattle.ess_core_nodes.specs.NodeViews.{pure_nodes, pure_dom}
use Rattle.ess_rules_kinds.specs.ViewParts.{LeafParts, NestedParts, PairParts}
use Rattle.ess_rules_kinds.specs.declared.parts.Leaf.{Leaf}
use Rattle.ess_rules_kinds.specs.declared.parts.Nested.{Nested}
use Rattle.ess_rules_kinds.specs.declared.parts.Pair.{Pair}

-- The parts of a view over one table.
abbrev pub pure_leaf : Leaf → LeafParts
pure_leaf p = record { kind = p.kind; dom = pure_dom p.dom.now; table = p.table.now; at = pure_nodes p.at.now }

-- The parts of one with a child.
abbrev pub pure_nested : Nested → NestedParts
pure_nested p = record {
  kind = p.kind;
  child = pure_repr p.child.now;
  dom = pure_dom p.dom.now;
  cells = p.cells.now;
  at = pure_nodes p.at.now;
}

-- The parts of one over two tables.
abbrev pub pure_pair : Pair → PairParts
pure_pair p = record { kind = p.kind; dom = pure_dom p.dom.now; first = p.first.now; second = p.second.now; at = pure_nodes p.at.now }
