-- What stands between the names of a layer and of its children.
use Rattle.std.proofs.Common.{◌≡◌, refl, sym, ap, ◌∙◌, ℕ, suc, ◌+◌, ◌-◌, ◌<◌, Bool, List, [], ◌∷◌, ◌++◌, map, length, append_assoc, arith, codes, decimal, ◌||◌, Result, IfOk}
use Rattle.std.proofs.lemmas.List.{length-map}
use Rattle.std.proofs.lemmas.Result.{IfOk-weaker}
use Rattle.ess_semantics.specs.declared.words.ReprKind.{ReprKind}
use Rattle.ess_semantics.specs.Choice.{reprs_of}
use Rattle.ess_semantics.specs.Kinds.{dom_list}
use Rattle.ess_semantics.specs.Lists.{zip}
use Rattle.ess_semantics.specs.Names.{keys}
use Rattle.ess_semantics.specs.Values.{Text}
use Rattle.ess_semantics.specs.Trees.{Reprs, no_reprs, more_reprs, Dom}
use Rattle.ess_semantics.specs.TableNames.{Named, numbered_names, child_names}
use Rattle.ess_semantics.specs.DeclaredTables.{TableDecl}
use Rattle.ess_core.specs.declared.representations.Repr as code
use Rattle.ess_core.specs.declared.representations.Repr.TheViews.{out-Repr}
use Rattle.ess_core.specs.TreeViews.{pure_repr}
use Rattle.ess_core.proofs.RepresentationEquations.{pure_repr_is}
use Rattle.ess_core_nodes.specs.declared.nodes.NodeDom.{NodeDom}
use Rattle.ess_core_nodes.specs.NodeViews.{pure_dom, pure_doms}
use Rattle.ess_repr_declare_laws.specs.ChildDomains.{child_doms}
use Rattle.ess_repr_declare_laws.specs.DeclaredTrees.{below_layer, own_trees, layer_axes, frees_children, trees_below, trees_of_children}
use Rattle.ess_declared_trees.specs.declared.tables.Declared.{Declared}
use Rattle.ess_declared_trees.specs.TableViews.{pure_declared}
use Rattle.ess_declared_trees.specs.Endings.{numbered_from, numbered, field_endings, ending, trees_from}
use Rattle.ess_declared_trees.proofs.Rows.{listed_back}

-- ---- components

from-are : (ds : List Dom) (k : ℕ) → numbered_from k (length ds) ≡ keys (numbered_names k ds)
from-are [] k = refl
from-are (d ∷ ds) k = ap (λ l. (codes "_" ++ decimal k) ∷ l) (from-are ds (suc k))

-- The names of components are their numbers.
pub numbered_are : (ns : List Text) (ds : List NodeDom) → ns ≡ numbered (length ds) → ns ≡ keys (numbered_names 1 (dom_list (pure_doms ds)))
numbered_are ns ds h =
    h ∙ ap numbered (sym (length-map ds pure_dom)) ∙ from-are (map pure_dom ds) 1
    ∙ ap (λ l. keys (numbered_names 1 l)) (sym (listed_back (map pure_dom ds)))

next-numbered : (i n : ℕ) → i < n
    → numbered_from (suc i) (n - i) ≡ (codes "_" ++ decimal (i + 1)) ∷ numbered_from (suc (i + 1)) (n - (i + 1))
next-numbered i n h =
    let left : n - i ≡ suc (n - (i + 1)) = omega (arith, h) in
    let one : suc i ≡ i + 1 = omega arith in
    ap (numbered_from (suc i)) left
    ∙ ap (λ k. (codes "_" ++ decimal k) ∷ numbered_from (suc k) (n - (i + 1))) one

-- One number more.
pub one_more_numbered : (i n : ℕ) (done new all : List Text) (a : Text) → i < n → a ≡ codes "_" ++ decimal (i + 1) → new ≡ done ++ a ∷ []
    → done ++ numbered_from (suc i) (n - i) ≡ all → new ++ numbered_from (suc (i + 1)) (n - (i + 1)) ≡ all
one_more_numbered i n done new all a lt e p h =
    ap (λ l. l ++ numbered_from (suc (i + 1)) (n - (i + 1))) p
    ∙ append_assoc done (a ∷ []) (numbered_from (suc (i + 1)) (n - (i + 1)))
    ∙ ap (λ x. done ++ x ∷ numbered_from (suc (i + 1)) (n - (i + 1))) e
    ∙ ap (λ l. done ++ l) (sym (next-numbered i n lt)) ∙ h

-- ---- fields

behind-bars : (fs : List Text) → map (λ f. codes "_" ++ f) fs ≡ keys (field_endings fs)
behind-bars [] = refl
behind-bars (f ∷ fs) = ap (λ l. (codes "_" ++ f) ∷ l) (behind-bars fs)

-- The names of fields behind `_`.
pub fields_are : (ns fs : List Text) → ns ≡ map (λ f. codes "_" ++ f) fs → ns ≡ keys (field_endings fs)
fields_are ns fs h = h ∙ behind-bars fs

-- ---- children

-- The numbers of axes don't count.
by-names : (out : Bool) (rs : Reprs) (ns : List Named) (ds as' : List Dom) →
    trees_of_children out rs (zip (map ending (keys ns)) ds) as' ≡ trees_of_children out rs (zip ns ds) as'
by-names out no_reprs ns ds as' = refl
by-names out (more_reprs r rs) [] ds as' = refl
by-names out (more_reprs r rs) (n ∷ ns) [] as' = refl
by-names out (more_reprs r rs) (n ∷ ns) (d ∷ ds) as' =
    ap (λ l. map (below_layer n.0 as') (trees_below out r d) ++ l) (by-names out rs ns ds as')

-- The tables of a representation are its own ones and those of its children.
pub trees_are : {E : Type 0} (o : Result (List Declared) E) (out free : Bool) (x : code.Repr) (d : Dom) (own others : List TableDecl)
    (ns ms : List Text) (ds es as' bs : List NodeDom) (cs : List code.Repr) → own ≡ own_trees out (out-Repr x).kind d →
    map pure_dom as' ≡ layer_axes (out-Repr x).kind d → ns ≡ keys (child_names (out-Repr x).kind d) →
    map pure_dom ds ≡ child_doms (out-Repr x).kind d → free ≡ (out || frees_children (out-Repr x).kind) →
    cs ≡ (out-Repr x).children → ms ≡ ns → es ≡ ds → bs ≡ as' →
    others ≡ trees_from free (reprs_of (map pure_repr cs)) ms (map pure_dom es) (map pure_dom bs) →
    IfOk o (λ ts. map pure_declared ts ≡ own ++ others) → IfOk o (λ ts. map pure_declared ts ≡ trees_below out (pure_repr x) d)
trees_are o out free x d own others ns ms ds es as' bs cs h a n e f p q r s c =
    let k : ReprKind = (out-Repr x).kind in
    let ys : List code.Repr = (out-Repr x).children in
    let rs : Reprs = reprs_of (map pure_repr ys) in
    let below : others ≡ trees_of_children (out || frees_children k) rs (zip (child_names k d) (child_doms k d)) (layer_axes k d) =
    c ∙ ap (λ l. trees_from free (reprs_of (map pure_repr l)) ms (map pure_dom es) (map pure_dom bs)) p
    ∙ ap (λ b. trees_from b rs ms (map pure_dom es) (map pure_dom bs)) f
    ∙ ap (λ l. trees_from (out || frees_children k) rs l (map pure_dom es) (map pure_dom bs)) (q ∙ n)
    ∙ ap (λ l. trees_from (out || frees_children k) rs (keys (child_names k d)) l (map pure_dom bs)) (ap (map pure_dom) r ∙ e)
    ∙ ap (λ l. trees_from (out || frees_children k) rs (keys (child_names k d)) (child_doms k d) l) (ap (map pure_dom) s ∙ a)
    ∙ by-names (out || frees_children k) rs (child_names k d) (child_doms k d) (layer_axes k d) in
    IfOk-weaker o (λ ts. map pure_declared ts ≡ own ++ others) (λ ts. map pure_declared ts ≡ trees_below out (pure_repr x) d)
    (λ ts w. w ∙ ap (λ l. l ++ others) h ∙ ap (λ l. own_trees out k d ++ l) below ∙ ap (λ r. trees_below out r d) (sym (pure_repr_is x)))
