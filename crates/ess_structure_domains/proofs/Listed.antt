-- Lists of domains.
use Rattle.std.proofs.Common.{◌≡◌, refl, sym, ap, ◌∙◌, List, [], ◌∷◌, map}
use Rattle.ess_semantics.specs.Kinds.{dom_list, doms_of}
use Rattle.ess_semantics.specs.Trees.{Dom}
use Rattle.ess_core_nodes.specs.declared.nodes.NodeDom.{NodeDom}
use Rattle.ess_core_nodes.specs.NodeViews.{pure_dom, pure_doms}

-- Components as a list are the list that they were made of.
pub listed_back : (ds : List Dom) → dom_list (doms_of ds) ≡ ds
listed_back [] = refl
listed_back (d ∷ ds) = ap (λ l. d ∷ l) (listed_back ds)

-- The same of copies of rows.
pub copies_listed : (xs ys : List NodeDom) → xs ≡ ys → map pure_dom xs ≡ dom_list (pure_doms ys)
copies_listed xs ys h = ap (map pure_dom) h ∙ sym (listed_back (map pure_dom ys))
