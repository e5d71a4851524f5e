-- Views by their parts: those over one table without children, and those with one child.
use Rattle.std.specs.Prelude.{List, [], ◌∷◌, Option, Some, None, option_map}
use Rattle.ess_semantics.specs.declared.words.ReprKind.{ReprKind}
use Rattle.ess_semantics.specs.Values.{Text}
use Rattle.ess_semantics.specs.Trees.{Repr, repr, no_reprs, more_reprs, Ex, Exs, seen_ex, Dom}

-- ---- representations and tables

-- The kind of a representation without children.
abbrev pub leaf_kind : Repr → Option ReprKind
leaf_kind (repr k no_reprs) = Some k
leaf_kind r = None

-- The kind of one with one child, and the child.
abbrev pub one_child : Repr → Option (ReprKind × Repr)
one_child (repr k (more_reprs r no_reprs)) = Some (k, r)
one_child r = None

-- The only table.
abbrev pub only_table : List Text → Option Text
only_table (n ∷ []) = Some n
only_table ns = None

-- ---- views over one table

-- The parts of a view over one table without children.
pub record LeafParts : Type 0 where
  pub kind : ReprKind
  pub dom : Dom
  pub table : Text
  pub at : Exs

-- They are there where the kind and the table are.
abbrev pub leaf_in : Dom → Exs → Option ReprKind → Option Text → Option LeafParts
leaf_in d js (Some k) (Some n) = Some (record { kind = k; dom = d; table = n; at = js })
leaf_in d js o p = None

-- The parts of such a view.
abbrev pub leaf : Ex → Option LeafParts
leaf (seen_ex r d ns js) = leaf_in d js (leaf_kind r) (only_table ns)
leaf e = None

-- The view of these parts.
abbrev pub leaf_view : LeafParts → Ex
leaf_view p = seen_ex (repr p.kind no_reprs) p.dom (p.table ∷ []) p.at

-- ---- views with one child

-- The parts of a view with one child.
pub record NestedParts : Type 0 where
  pub kind : ReprKind
  pub child : Repr
  pub dom : Dom
  pub cells : List Text
  pub at : Exs

-- The parts of such a view.
abbrev pub nested : Ex → Option NestedParts
nested (seen_ex r d ns js) = option_map (λ p. record { kind = p.0; child = p.1; dom = d; cells = ns; at = js }) (one_child r)
nested e = None

-- The view of these parts.
abbrev pub nested_view : NestedParts → Ex
nested_view p = seen_ex (repr p.kind (more_reprs p.child no_reprs)) p.dom p.cells p.at

-- ---- views over two tables

-- The parts of a view over two tables without children.
pub record PairParts : Type 0 where
  pub kind : ReprKind
  pub dom : Dom
  pub first : Text
  pub second : Text
  pub at : Exs

-- The only two tables.
abbrev pub two_tables : List Text → Option (Text × Text)
two_tables (m ∷ n ∷ []) = Some (m, n)
two_tables ns = None

-- They are there where the kind and the tables are.
abbrev pub pair_in : Dom → Exs → Option ReprKind → Option (Text × Text) → Option PairParts
pair_in d js (Some k) (Some p) = Some (record { kind = k; dom = d; first = p.0; second = p.1; at = js })
pair_in d js o p = None

-- The parts of such a view.
abbrev pub pair_leaf : Ex → Option PairParts
pair_leaf (seen_ex r d ns js) = pair_in d js (leaf_kind r) (two_tables ns)
pair_leaf e = None

-- The view of these parts.
abbrev pub pair_view : PairParts → Ex
pair_view p = seen_ex (repr p.kind no_reprs) p.dom (p.first ∷ p.second ∷ []) p.at
