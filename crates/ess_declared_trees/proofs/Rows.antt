-- Rows of domains and of tables, one behind the other.
use Rattle.std.proofs.Common.{◌≡◌, refl, sym, ap, ◌∙◌, List, [], ◌∷◌, ◌++◌, map}
use Rattle.std.proofs.lemmas.List.{map-append}
use Rattle.ess_semantics.specs.Kinds.{dom_list, doms_of}
use Rattle.ess_semantics.specs.Trees.{Dom}
use Rattle.ess_core_nodes.specs.declared.nodes.NodeDom.{NodeDom}
use Rattle.ess_core_nodes.specs.NodeViews.{pure_dom, pure_doms}
use Rattle.ess_repr_declare_laws.specs.DeclaredTrees.{axis_dom}
use Rattle.ess_declared_trees.specs.declared.tables.Declared.{Declared}
use Rattle.ess_declared_trees.specs.TableViews.{pure_declared}

-- Domains behind others.
pub axes_joined : (as' bs : List NodeDom) → map pure_dom (as' ++ bs) ≡ map pure_dom as' ++ map pure_dom bs
axes_joined as' bs = map-append pure_dom as' bs

-- Tables behind others.
pub tables_joined : (ts us : List Declared) → map pure_declared (ts ++ us) ≡ map pure_declared ts ++ map pure_declared us
tables_joined ts us = map-append pure_declared ts us

-- Components as a list are the list that they were made of.
pub listed_back : (ds : List Dom) → dom_list (doms_of ds) ≡ ds
listed_back [] = refl
listed_back (d ∷ ds) = ap (λ l. d ∷ l) (listed_back ds)

-- The same of axes over them.
pub axes_listed : (as' : List NodeDom) (ds : List NodeDom) → map pure_dom as' ≡ map axis_dom (map pure_dom ds)
    → map pure_dom as' ≡ map axis_dom (dom_list (pure_doms ds))
axes_listed as' ds h = h ∙ ap (map axis_dom) (sym (listed_back (map pure_dom ds)))
