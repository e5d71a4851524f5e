-- Lists of domains, and tables with further axes.
use Rattle.std.proofs.Common.{◌≡◌, refl, sym, ap, ◌∙◌, ℕ, List, [], ◌∷◌, ◌++◌, map}
use Rattle.std.proofs.lemmas.List.{map-append}
use Rattle.ess_semantics.specs.Kinds.{dom_list, doms_of}
use Rattle.ess_semantics.specs.Values.{Text}
use Rattle.ess_semantics.specs.Trees.{Mark, Dom, Ex, Exs}
use Rattle.ess_core_nodes.specs.declared.nodes.NodeDom.{NodeDom}
use Rattle.ess_core_nodes.specs.NodeViews.{pure_dom, pure_doms}
use Rattle.ess_repr_laws.specs.RelationParts.{relation_ex}
use Rattle.conjure_model_laws.specs.ToldApart.{reserved}

listed-back : (ds : List Dom) → dom_list (doms_of ds) ≡ ds
listed-back [] = refl
listed-back (d ∷ ds) = ap (λ l. d ∷ l) (listed-back ds)

-- Which tuples occur, where the axes are the components as a list.
pub relation_listed : (e v : Ex) (l : ℕ) (ms : List Mark) (es : Exs) (ds : List NodeDom) (n : Text) (is : Exs) →
    e ≡ relation_ex reserved l ms es (pure_doms ds) (map pure_dom ds) n is v →
    e ≡ relation_ex reserved l ms es (pure_doms ds) (dom_list (pure_doms ds)) n is v
relation_listed e v l ms es ds n is h =
    h ∙ ap (λ x. relation_ex reserved l ms es (pure_doms ds) x n is v) (sym (listed-back (map pure_dom ds)))

-- Rows of domains one behind the other.
pub axes_joined : (as' bs : List NodeDom) → map pure_dom (as' ++ bs) ≡ map pure_dom as' ++ map pure_dom bs
axes_joined as' bs = map-append pure_dom as' bs
