-- Views of matrices by their first index domain.
use Rattle.std.proofs.Common.{◌≡◌, refl, false, [], ◌∷◌}
use Rattle.ess_semantics.specs.declared.words.ReprKind.{ReprKind}
use Rattle.ess_semantics.specs.Lists.{and_then}
use Rattle.ess_semantics.specs.Values.{Text}
use Rattle.ess_semantics.specs.Trees.{by_value, index, repr, no_reprs, more_reprs, Ex, node_ex, seen_ex, no_exs, more_exs, more_doms, no_doms, matrix_dom, at1}
use Rattle.ess_kind_rules_laws.specs.ViewListings.{matrix_listing}
use Rattle.ess_kind_rules_laws.specs.TermLookups.{view_item_lookup}
use Rattle.ess_rules_kinds.specs.ViewParts.{nested, nested_view}
use Rattle.ess_rules_picked.specs.Picked.{indexed}
use Rattle.ess_rules_offers.specs.Axes.{first_axis, listed_over, item_where}

-- The items in order.
pub listed_by_axis : (x : Text) (v : Ex) → matrix_listing x v ≡ and_then (first_axis v) (λ i. listed_over x i v)
listed_by_axis x (seen_ex (repr ReprKind.Matrix (more_reprs r no_reprs)) (matrix_dom (more_doms i is) d) ns js) = refl
listed_by_axis x (seen_ex (repr ReprKind.Matrix (more_reprs r no_reprs)) (matrix_dom no_doms d) ns js) = refl
listed_by_axis x (seen_ex (repr ReprKind.Matrix (more_reprs r (more_reprs q rs))) (matrix_dom (more_doms i is) d) ns js) = refl
listed_by_axis x (seen_ex (repr ReprKind.Matrix no_reprs) (matrix_dom (more_doms i is) d) ns js) = refl
listed_by_axis x v = refl

-- The first index domain by the parts of the view.
pub axis_by_parts : (v : Ex) → first_axis v ≡ and_then (nested v) (λ p. first_axis (nested_view p))
axis_by_parts (seen_ex (repr k (more_reprs r no_reprs)) d ns js) = refl
axis_by_parts (seen_ex (repr ReprKind.Matrix no_reprs) d ns js) = refl
axis_by_parts (seen_ex (repr ReprKind.Matrix (more_reprs r (more_reprs q rs))) d ns js) = refl
axis_by_parts v = refl

-- An item by the index.
pub item_by_index : (x : Text) (e : Ex) → view_item_lookup x e ≡ and_then (indexed e) (λ p. view_item_lookup x (at1 false p.0 p.1))
item_by_index x (node_ex b (index (by_value ∷ [])) (more_exs (seen_ex (repr ReprKind.Matrix (more_reprs r no_reprs))
    (matrix_dom (more_doms i is) d) ns js) (more_exs a no_exs))) = refl
item_by_index x (node_ex b (index (by_value ∷ [])) (more_exs (seen_ex (repr ReprKind.Matrix (more_reprs r no_reprs))
    (matrix_dom (more_doms i is) d) ns js) no_exs)) = refl
item_by_index x (node_ex b (index (by_value ∷ [])) (more_exs (seen_ex (repr ReprKind.Matrix (more_reprs r no_reprs))
    (matrix_dom (more_doms i is) d) ns js) (more_exs a (more_exs u us)))) = refl
item_by_index x (node_ex b (index (by_value ∷ [])) (more_exs v (more_exs a no_exs))) = refl
item_by_index x e = refl

-- And by the first index domain.
pub item_by_axis : (x : Text) (v a : Ex) → view_item_lookup x (at1 false v a) ≡ and_then (first_axis v) (λ i. item_where x i v a)
item_by_axis x (seen_ex (repr ReprKind.Matrix (more_reprs r no_reprs)) (matrix_dom (more_doms i is) d) ns js) a = refl
item_by_axis x (seen_ex (repr ReprKind.Matrix (more_reprs r no_reprs)) (matrix_dom no_doms d) ns js) a = refl
item_by_axis x (seen_ex (repr ReprKind.Matrix (more_reprs r (more_reprs q rs))) (matrix_dom (more_doms i is) d) ns js) a = refl
item_by_axis x (seen_ex (repr ReprKind.Matrix no_reprs) (matrix_dom (more_doms i is) d) ns js) a = refl
item_by_axis x v a = refl
