-- Items of views of matrices, by the operands and by the parts of the view.
use Rattle.std.proofs.Common.{◌≡◌, refl, ap, None, Bool, true, false, List, [], ◌∷◌, ◌++◌}
use Rattle.ess_semantics.specs.declared.words.ReprKind.{ReprKind}
use Rattle.ess_semantics.specs.Lists.{and_then}
use Rattle.ess_semantics.specs.Trees.{Step, by_value, to_component, to_field, repr, no_reprs, more_reprs, index, Ex, Exs, node_ex, seen_ex, no_exs, more_exs, matrix_dom, more_doms}
use Rattle.ess_core_nodes.specs.declared.nodes.Node.{Node}
use Rattle.ess_core_nodes.specs.NodeViews.{pure_node, pure_nodes}
use Rattle.ess_rules_forms.specs.Forms.{both_operands}
use Rattle.ess_rules_laws.specs.SetListings.{put_last}
use Rattle.ess_views_laws.specs.MatrixViews.{item_view}
use Rattle.ess_rules_kinds.specs.ViewParts.{nested, nested_view}
use Rattle.ess_rules_items.specs.Indexed.{by_value_alone, indexed, item_of}

-- By the operands.
pub item_by_operands : (e : Ex) → item_view e ≡ and_then (indexed e) (λ p. item_of p.0 p.1)
item_by_operands (node_ex b (index (by_value ∷ [])) (more_exs (seen_ex (repr ReprKind.Matrix (more_reprs r no_reprs))
    (matrix_dom (more_doms i is) d) ns js) (more_exs a no_exs))) = refl
item_by_operands (node_ex b (index (by_value ∷ [])) (more_exs (seen_ex (repr ReprKind.Matrix (more_reprs r no_reprs))
    (matrix_dom (more_doms i is) d) ns js) no_exs)) = refl
item_by_operands (node_ex b (index (by_value ∷ [])) (more_exs (seen_ex (repr ReprKind.Matrix (more_reprs r no_reprs))
    (matrix_dom (more_doms i is) d) ns js) (more_exs a (more_exs u us)))) = refl
item_by_operands (node_ex b (index (by_value ∷ [])) (more_exs v (more_exs a no_exs))) = refl
item_by_operands e = refl

-- The operands of a term at one index.
pub indexed_by_value : (b : Bool) (qs : List Step) (es : Exs) → by_value_alone qs ≡ true → both_operands es ≡ indexed (node_ex b (index qs) es)
indexed_by_value b (by_value ∷ []) (more_exs v (more_exs a no_exs)) h = refl
indexed_by_value b (by_value ∷ []) no_exs h = refl
indexed_by_value b (by_value ∷ []) (more_exs v no_exs) h = refl
indexed_by_value b (by_value ∷ []) (more_exs v (more_exs a (more_exs u us))) h = refl
indexed_by_value b [] es h = cc
indexed_by_value b (by_value ∷ q ∷ qs) es h = cc
indexed_by_value b (to_component k ∷ qs) es h = cc
indexed_by_value b (to_field f ∷ qs) es h = cc

-- Of other steps there are none.
pub indexed_otherwise : (b : Bool) (qs : List Step) (es : Exs) → by_value_alone qs ≡ false → indexed (node_ex b (index qs) es) ≡ None
indexed_otherwise b (by_value ∷ []) es h = cc
indexed_otherwise b [] es h = refl
indexed_otherwise b (by_value ∷ q ∷ qs) es h = refl
indexed_otherwise b (to_component k ∷ qs) es h = refl
indexed_otherwise b (to_field f ∷ qs) es h = refl

-- By the parts of the view.
pub item_by_parts : (v a : Ex) → item_of v a ≡ and_then (nested v) (λ p. item_of (nested_view p) a)
item_by_parts (seen_ex (repr k (more_reprs r no_reprs)) d ns js) a = refl
item_by_parts (seen_ex (repr ReprKind.Matrix no_reprs) d ns js) a = refl
item_by_parts (seen_ex (repr ReprKind.Matrix (more_reprs r (more_reprs q rs))) d ns js) a = refl
item_by_parts v a = refl

-- One more index stands last in the row.
pub index_behind : (es : List Node) (e : Node) → pure_nodes (es ++ e ∷ []) ≡ put_last (pure_nodes es) (pure_node e)
index_behind [] e = refl
index_behind (a ∷ es) e = ap (more_exs (pure_node a)) (index_behind es e)
