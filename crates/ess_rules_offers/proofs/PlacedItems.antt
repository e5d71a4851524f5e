-- Items of literals over an index domain, one by one.
use Rattle.std.proofs.Common.{◌≡◌, refl, sym, ap, ◌∙◌, arith, ℕ, suc, ◌+◌, ◌<◌, false, List, [], ◌∷◌, ◌++◌, length, map, drop, get_or}
use Rattle.std.proofs.lemmas.List.{append_assoc, map_push, drop_more}
use Rattle.ess_semantics.specs.Lists.{and_then}
use Rattle.ess_semantics.specs.Values.{Text}
use Rattle.ess_semantics.specs.Trees.{by_value, index, Ex, node_ex, matrix_ex, no_exs, more_exs, Dom, at1}
use Rattle.ess_core_nodes.specs.declared.nodes.Node.{Node}
use Rattle.ess_core_nodes.specs.NodeViews.{pure_node, pure_nodes}
use Rattle.ess_rules_laws.specs.Listings as listings
use Rattle.ess_rules_forms.specs.declared.alternatives.Alternative.{Alternative}
use Rattle.ess_rules_forms.specs.PureAlternatives.{pure_alternative}
use Rattle.ess_kind_rules_laws.specs.TermLookups.{item_at_place, items_at_places, domain_list_lookup}
use Rattle.ess_rules_picked.specs.Picked.{indexed}

-- A literal by the list and the index.
pub literal_by_index : (x : Text) (e : Ex) → domain_list_lookup x e ≡ and_then (indexed e) (λ p. domain_list_lookup x (at1 false p.0 p.1))
literal_by_index x (node_ex b (index (by_value ∷ [])) (more_exs (matrix_ex es d) (more_exs i no_exs))) = refl
literal_by_index x (node_ex b (index (by_value ∷ [])) (more_exs (matrix_ex es d) no_exs)) = refl
literal_by_index x (node_ex b (index (by_value ∷ [])) (more_exs (matrix_ex es d) (more_exs i (more_exs u us)))) = refl
literal_by_index x (node_ex b (index (by_value ∷ [])) (more_exs v (more_exs i no_exs))) = refl
literal_by_index x e = refl

placed-more : (x : Text) (d : Dom) (i : Ex) (ns : List Node) (k : ℕ) (n : Node) → k < length ns → n ≡ get_or ns k n
    → items_at_places x d i k (pure_nodes (drop k ns))
    ≡ item_at_place x d i k (pure_node n) ∷ items_at_places x d i (k + 1) (pure_nodes (drop (k + 1) ns))
placed-more x d i ns k n lt is =
    let e : suc k ≡ k + 1 = omega arith in
    ap (λ l. items_at_places x d i k (pure_nodes l)) (drop_more ns k n lt ∙ ap (λ z. z ∷ drop (k + 1) ns) (sym is))
    ∙ ap (λ j. item_at_place x d i k (pure_node n) ∷ items_at_places x d i j (pure_nodes (drop (k + 1) ns))) e

-- One more item, behind those that are there.
pub placed_behind : (x : Text) (d : Dom) (i : Ex) (all : List Alternative) (a : Alternative) (ns : List Node) (k : ℕ) (n : Node)
    (r : List listings.Alternative) → k < length ns → n ≡ get_or ns k n
    → pure_alternative a ≡ item_at_place x d i k (pure_node n)
    → map pure_alternative all ++ items_at_places x d i k (pure_nodes (drop k ns)) ≡ r
    → map pure_alternative (all ++ a ∷ []) ++ items_at_places x d i (k + 1) (pure_nodes (drop (k + 1) ns)) ≡ r
placed_behind x d i all a ns k n r lt is here before =
    ap (λ l. l ++ items_at_places x d i (k + 1) (pure_nodes (drop (k + 1) ns))) (map_push pure_alternative all a)
    ∙ append_assoc (map pure_alternative all) (pure_alternative a ∷ []) (items_at_places x d i (k + 1) (pure_nodes (drop (k + 1) ns)))
    ∙ ap (λ z. map pure_alternative all ++ z ∷ items_at_places x d i (k + 1) (pure_nodes (drop (k + 1) ns))) here
    ∙ ap (λ l. map pure_alternative all ++ l) (sym (placed-more x d i ns k n lt is))
    ∙ before
