-- The types of the members of domains with several parts.
use Rattle.std.proofs.Common.{◌≡◌, refl, sym, ap, ◌∙◌, ℕ, ◌+◌, ◌<◌, List, [], ◌∷◌, length, map, drop, get_or}
use Rattle.std.proofs.lemmas.List.{at_drop_more}
use Rattle.ess_semantics.specs.Values.{a_matrix}
use Rattle.ess_semantics.specs.Types as pure
use Rattle.ess_semantics.specs.Types.{compound2, tys_of, more_tys, type_of_dom, types_of_doms, nested_ty}
use Rattle.ess_core.specs.TypeViews.{pure_ty, pure_tys}
use Rattle.ess_core.specs.declared.types.Ty.{Ty}
use Rattle.ess_core_nodes.specs.NodeViews.{pure_dom, pure_doms}
use Rattle.ess_core_nodes.specs.declared.nodes.NodeDom.{NodeDom}

dom-types : (ds : List NodeDom) → types_of_doms (pure_doms ds) ≡ tys_of (map (λ d. type_of_dom (pure_dom d)) ds)
dom-types [] = refl
dom-types (d ∷ ds) = ap (more_tys (type_of_dom (pure_dom d))) (dom-types ds)

-- The types one by one are those of the domains together.
pub all_types : (ds : List NodeDom) (ts : List Ty) → map pure_ty ts ≡ map (λ d. type_of_dom (pure_dom d)) ds
    → pure_tys ts ≡ types_of_doms (pure_doms ds)
all_types ds ts e = ap tys_of e ∙ sym (dom-types ds)

-- One more index domain around a matrix.
pub nested_more : (ds : List NodeDom) (i : ℕ) (d : NodeDom) (t : pure.Ty) → i < length ds → d ≡ get_or ds i d
    → nested_ty (pure_doms (drop i ds)) t ≡ compound2 a_matrix (type_of_dom (pure_dom d)) (nested_ty (pure_doms (drop (i + 1) ds)) t)
nested_more ds i d t h is =
    at_drop_more (λ l. nested_ty (pure_doms l) t) ds i d h
    ∙ ap (λ e. compound2 a_matrix (type_of_dom (pure_dom e)) (nested_ty (pure_doms (drop (i + 1) ds)) t)) (sym is)
