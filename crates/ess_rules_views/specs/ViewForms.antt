-- The forms of views that have shorter rules: the parts of a view that has the form, and nothing of another tree.
use Rattle.std.specs.Prelude.{Bool, false, List, [], ◌∷◌, Option, Some, None}
use Rattle.ess_semantics.specs.declared.words.Op1.{Op1}
use Rattle.ess_semantics.specs.declared.words.Fun.{Fun}
use Rattle.ess_semantics.specs.declared.words.ReprKind.{ReprKind}
use Rattle.ess_semantics.specs.Lists.{and_then}
use Rattle.ess_semantics.specs.Values.{Text}
use Rattle.ess_semantics.specs.Trees.{word, application, tuple_literal, Repr, repr, no_reprs, more_reprs, Ex, Exs, node_ex}
use Rattle.ess_semantics.specs.Trees.{seen_ex, ex1, no_exs, more_exs, Dom, tuple_dom, set_dom, function_dom, relation_dom}

-- ---- representations

-- The kind of a representation without children.
abbrev pub leaf_kind : Repr → Option ReprKind
leaf_kind (repr k no_reprs) = Some k
leaf_kind r = None

-- The kind of one with one child, and the child.
abbrev pub one_child : Repr → Option (ReprKind × Repr)
one_child (repr k (more_reprs r no_reprs)) = Some (k, r)
one_child r = None

-- ---- trees

-- The tree, where it is a view.
abbrev pub a_view : Ex → Option Ex
a_view (seen_ex r d ns js) = Some (seen_ex r d ns js)
a_view e = None

-- The items of a tuple.
abbrev pub tuple_items : Ex → Option Exs
tuple_items (node_ex false tuple_literal es) = Some es
tuple_items e = None

-- The container whose size a term is.
abbrev pub a_size : Ex → Option Ex
a_size (ex1 false Op1.Bar a) = Some a
a_size e = None

-- The function and the argument of an application or of `image`, and whether it is Boolean.
abbrev pub applied : Ex → Option (Bool × (Ex × Ex))
applied (node_ex b application (more_exs f (more_exs a no_exs))) = Some (b, (f, a))
applied (node_ex b (word Fun.Image) (more_exs f (more_exs a no_exs))) = Some (b, (f, a))
applied e = None

-- The only text.
abbrev pub only_text : List Text → Option Text
only_text (n ∷ []) = Some n
only_text ns = None

-- ---- views

-- A view over one table without children.
pub record OneTable : Type 0 where
  pub kind : ReprKind
  pub dom : Dom
  pub table : Text
  pub at : Exs

-- The parts of such a view, by the kind and the table.
abbrev pub table_in : Dom → Exs → Option ReprKind → Option Text → Option OneTable
table_in d js (Some k) (Some n) = Some (record { kind = k; dom = d; table = n; at = js })
table_in d js o p = None

-- The parts of such a view.
abbrev pub one_table : Ex → Option OneTable
one_table (seen_ex r d ns js) = table_in d js (leaf_kind r) (only_text ns)
one_table e = None

-- A view of a function with one child.
pub record Arguments : Type 0 where
  pub kind : ReprKind
  pub child : Repr
  pub first : Dom
  pub last : Dom
  pub cells : List Text
  pub at : Exs

-- The parts of such a view, by the kind and the child.
abbrev pub arguments_in : Dom → List Text → Exs → ReprKind × Repr → Option Arguments
arguments_in (function_dom ms es d c) ns js p = Some (record { kind = p.0; child = p.1; first = d; last = c; cells = ns; at = js })
arguments_in d ns js p = None

-- The parts of such a view.
abbrev pub by_argument : Ex → Option Arguments
by_argument (seen_ex r d ns js) = and_then (one_child r) (arguments_in d ns js)
by_argument e = None

-- A view of a set with one child.
pub record Slots : Type 0 where
  pub kind : ReprKind
  pub cells : List Text
  pub at : Exs

-- The parts of such a view, by the kind and the child.
abbrev pub slots_in : Dom → List Text → Exs → ReprKind × Repr → Option Slots
slots_in (set_dom ms es d) ns js p = Some (record { kind = p.0; cells = ns; at = js })
slots_in d ns js p = None

-- The parts of such a view.
abbrev pub in_slots : Ex → Option Slots
in_slots (seen_ex r d ns js) = and_then (one_child r) (slots_in d ns js)
in_slots e = None

-- ---- indices

-- The indices of an argument: an atom is its own, a tuple that is written as a literal has those of its items. The kinds are that
-- of a function from atoms and that of one from tuples of atoms.
abbrev pub total_keys : ReprKind → Dom → Ex → Option Exs
total_keys ReprKind.Function1D d a = Some (more_exs a no_exs)
total_keys ReprKind.FunctionND (tuple_dom ds) a = tuple_items a
total_keys k d a = None

-- The same of a function with flags.
abbrev pub partial_keys : ReprKind → Dom → Ex → Option Exs
partial_keys ReprKind.Function1DPartial d a = Some (more_exs a no_exs)
partial_keys ReprKind.FunctionNDPartial (tuple_dom ds) a = tuple_items a
partial_keys k d a = None

-- The same of a member of a set or relation that is kept as a truth value for each possible member.
abbrev pub member_keys : ReprKind → Dom → Ex → Option Exs
member_keys ReprKind.Occurrence (set_dom ms es d) a = Some (more_exs a no_exs)
member_keys ReprKind.RelationAsMatrix (relation_dom ms es ds) a = tuple_items a
member_keys k d a = None
