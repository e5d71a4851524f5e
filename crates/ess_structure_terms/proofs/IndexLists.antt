-- Index lists, and generators over axes.
use Rattle.std.proofs.Common.{◌≡◌, refl, sym, ap, ◌∙◌, ℕ, suc, ◌+◌, ◌<◌, ◌≤◌, List, [], ◌∷◌, ◌++◌, map, drop, length, get_or}
use Rattle.std.proofs.lemmas.List.{map-append, at_drop_more, at_drop_all}
use Rattle.ess_semantics.specs.Trees.{Ex, Exs, name_ex, name_pat, more_exs, Dom, over}
use Rattle.ess_core.specs.TreeViews.{exs_of, gens_of}
use Rattle.ess_core_nodes.specs.declared.nodes.Node.{Node}
use Rattle.ess_core_nodes.specs.declared.nodes.NodeDom.{NodeDom}
use Rattle.ess_core_nodes.specs.NodeViews.{pure_node, pure_nodes, pure_dom}
use Rattle.ess_repr_laws.specs.StructureParts.{add_ex, level_behind, row_gens, row_index}
use Rattle.conjure_model_laws.specs.ToldApart.{reserved}
use Rattle.ess_structure_terms.specs.RowItems.{row_items}

-- One more operand behind others.
behind : (es : List Ex) (e : Ex) → exs_of (es ++ e ∷ []) ≡ add_ex (exs_of es) e
behind [] e = refl
behind (x ∷ es) e = ap (more_exs x) (behind es e)

-- The same of rows of nodes.
pub added : (xs ys : List Node) (n : Node) → ys ≡ xs ++ n ∷ [] → pure_nodes ys ≡ add_ex (pure_nodes xs) (pure_node n)
added xs ys n h = ap pure_nodes h ∙ ap exs_of (map-append pure_node xs (n ∷ [])) ∙ behind (map pure_node xs) (pure_node n)

-- The same where what the node stands for is known.
pub index_more : (xs ys : List Node) (n : Node) (e : Ex) → ys ≡ xs ++ n ∷ [] → pure_node n ≡ e → pure_nodes ys ≡ add_ex (pure_nodes xs) e
index_more xs ys n e h p = added xs ys n h ∙ ap (add_ex (pure_nodes xs)) p

-- From one axis to the next one.
pub index_step : (as' : List NodeDom) (i l m : ℕ) (x : NodeDom) (xs ys : List Node) (whole : Exs) → i < length as' →
    x ≡ get_or as' i x → pure_nodes ys ≡ add_ex (pure_nodes xs) (name_ex (reserved l)) → m ≡ suc l →
    row_index reserved l (map pure_dom (drop i as')) (pure_nodes xs) ≡ whole →
    row_index reserved m (map pure_dom (drop (i + 1) as')) (pure_nodes ys) ≡ whole
index_step as' i l m x xs ys whole h is p e k =
    ap (λ z. row_index reserved z (map pure_dom (drop (i + 1) as')) (pure_nodes ys)) e
    ∙ ap (row_index reserved (suc l) (map pure_dom (drop (i + 1) as'))) p
    ∙ sym (at_drop_more (λ zs. row_index reserved l (map pure_dom zs) (pure_nodes xs)) as' i x h) ∙ k

-- Behind the last axis.
pub index_all : (as' : List NodeDom) (i l : ℕ) (xs : List Node) (whole : Exs) → length as' ≤ i →
    row_index reserved l (map pure_dom (drop i as')) (pure_nodes xs) ≡ whole → pure_nodes xs ≡ whole
index_all as' i l xs whole h k = sym (at_drop_all (λ zs. row_index reserved l (map pure_dom zs) (pure_nodes xs)) as' i h) ∙ k

-- The same of numbers of names.
pub level_step : (as' : List NodeDom) (i l m whole : ℕ) (x : NodeDom) → i < length as' → x ≡ get_or as' i x → m ≡ suc l →
    level_behind l (map pure_dom (drop i as')) ≡ whole → level_behind m (map pure_dom (drop (i + 1) as')) ≡ whole
level_step as' i l m whole x h is e k =
    ap (λ z. level_behind z (map pure_dom (drop (i + 1) as'))) e
    ∙ sym (at_drop_more (λ zs. level_behind l (map pure_dom zs)) as' i x h) ∙ k

pub level_all : (as' : List NodeDom) (i l whole : ℕ) → length as' ≤ i → level_behind l (map pure_dom (drop i as')) ≡ whole → l ≡ whole
level_all as' i l whole h k = sym (at_drop_all (λ zs. level_behind l (map pure_dom zs)) as' i h) ∙ k

-- Generators over axes one by one are those over the axes.
pub row_items_are : (l : ℕ) (as' : List Dom) → gens_of (row_items l as') ≡ row_gens reserved l as'
row_items_are l [] = refl
row_items_are l (a ∷ as') = ap (over (name_pat (reserved l)) a) (row_items_are (suc l) as')
