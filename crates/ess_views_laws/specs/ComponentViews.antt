-- A component of a view of a tuple, and a field of a view of a record, is the view of a child: its tables are those behind the tables
-- of the children before it.
use Rattle.std.specs.Prelude.{ℕ, zero, suc, List, [], ◌∷◌, take, drop, Option, Some, None, if◌then◌else◌}
use Rattle.ess_semantics.specs.declared.words.ReprKind.{ReprKind}
use Rattle.ess_semantics.specs.Values.{Text}
use Rattle.ess_semantics.specs.Order.{same_text}
use Rattle.ess_semantics.specs.Trees.{repr, Reprs, more_reprs, index, to_component, to_field, Ex, Exs, node_ex, seen_ex, no_exs, more_exs, Doms, more_doms, tuple_dom, record_dom}
use Rattle.ess_semantics.specs.Representations.{width}

-- The k-th child, from 1.
abbrev pub child_at : ℕ → Reprs → Doms → List Text → Exs → Option Ex
child_at (suc zero) (more_reprs r rs) (more_doms d ds) ns js = Some (seen_ex r d (take (width r) ns) js)
child_at (suc (suc k)) (more_reprs r rs) (more_doms d ds) ns js = child_at (suc k) rs ds (drop (width r) ns) js
child_at k rs ds ns js = None

-- The child of a field.
abbrev pub child_of_field : Text → List Text → Reprs → Doms → List Text → Exs → Option Ex
child_of_field a (f ∷ fs) (more_reprs r rs) (more_doms d ds) ns js =
    if same_text f a then Some (seen_ex r d (take (width r) ns) js) else child_of_field a fs rs ds (drop (width r) ns) js
child_of_field a fs rs ds ns js = None

-- `v[k]` of a view of a tuple, `v[a]` of one of a record.
abbrev pub component_view : Ex → Option Ex
component_view (node_ex b (index (to_component k ∷ [])) (more_exs (seen_ex (repr ReprKind.Tuple rs) (tuple_dom ds) ns js) no_exs)) =
    child_at k rs ds ns js
component_view (node_ex b (index (to_field a ∷ [])) (more_exs (seen_ex (repr ReprKind.Rec rs) (record_dom fs ds) ns js) no_exs)) =
    child_of_field a fs rs ds ns js
component_view e = None
