-- One operand or domain more, and all of them, where each is made as the definition says.
use Rattle.std.proofs.Common.{◌≡◌, sym, ap, ◌∙◌, ℕ, ◌+◌, ◌<◌, ◌≤◌, List, [], ◌∷◌, ◌++◌, length, map, drop, get_or}
use Rattle.std.proofs.lemmas.List.{map_push, drop_more, drop_all}
use Rattle.ess_semantics.specs.Values.{Text}
use Rattle.ess_semantics.specs.Names.{Names}
use Rattle.ess_semantics.specs.Trees as pure
use Rattle.ess_semantics.specs.Trees.{Pats, no_pats, more_pats, Exs, no_exs, more_exs, Doms, no_doms, more_doms}
use Rattle.ess_semantics.specs.Kinds.{doms_of}
use Rattle.ess_core.specs.declared.expressions.Pat.{Pat}
use Rattle.ess_core.specs.TreeViews.{exs_of, pats_of, pure_pat}
use Rattle.ess_core_nodes.specs.declared.nodes.Node.{Node}
use Rattle.ess_core_nodes.specs.declared.nodes.NodeDom.{NodeDom}
use Rattle.ess_core_nodes.specs.NodeViews.{pure_node, pure_dom}
use Rattle.ess_model_names.specs.Before.{pats_before, exs_before, doms_before}
use Rattle.ess_model_names.proofs.Before.{pats_pushed, pats_all, exs_pushed, exs_all, doms_pushed, doms_all}

-- What is left at a place is the item there and what is left behind it.
pub left_at : {A : Type 0} (xs : List A) (i : ℕ) (x : A) → i < length xs → x ≡ get_or xs i x → drop i xs ≡ x ∷ drop (i + 1) xs
left_at xs i x lt is = drop_more xs i x lt ∙ ap (λ z. z ∷ drop (i + 1) xs) (sym is)

-- One operand more: f makes the operands that are left, which begin with that of x.
pub node_more : (f : Exs → Exs) (ns : List Node) (i : ℕ) (x y : Node) (done new : List Node) (rest : Exs)
    → i < length ns → x ≡ get_or ns i x → new ≡ done ++ y ∷ []
    → f (more_exs (pure_node x) (exs_of (map pure_node (drop (i + 1) ns)))) ≡ more_exs (pure_node y) rest
    → exs_before (map pure_node new) rest ≡ exs_before (map pure_node done) (f (exs_of (map pure_node (drop i ns))))
node_more f ns i x y done new rest lt is p e =
    ap (λ m. exs_before (map pure_node m) rest) p
    ∙ ap (λ m. exs_before m rest) (map_push pure_node done y)
    ∙ exs_pushed (map pure_node done) (pure_node y) rest
    ∙ ap (exs_before (map pure_node done)) (sym e)
    ∙ sym (ap (λ m. exs_before (map pure_node done) (f (exs_of (map pure_node m)))) (left_at ns i x lt is))

-- All operands.
pub nodes_all : (f : Exs → Exs) (ns : List Node) (i : ℕ) (done : List Node) (all : Exs) → length ns ≤ i → f no_exs ≡ no_exs
    → exs_before (map pure_node done) (f (exs_of (map pure_node (drop i ns)))) ≡ all → exs_of (map pure_node done) ≡ all
nodes_all f ns i done all e z h =
    sym (exs_all (map pure_node done)) ∙ sym (ap (exs_before (map pure_node done)) z)
    ∙ sym (ap (λ m. exs_before (map pure_node done) (f (exs_of (map pure_node m)))) (drop_all i ns e)) ∙ h

-- One domain more.
pub dom_more : (f : Doms → Doms) (ds : List NodeDom) (i : ℕ) (x y : NodeDom) (done new : List NodeDom) (rest : Doms)
    → i < length ds → x ≡ get_or ds i x → new ≡ done ++ y ∷ []
    → f (more_doms (pure_dom x) (doms_of (map pure_dom (drop (i + 1) ds)))) ≡ more_doms (pure_dom y) rest
    → doms_before (map pure_dom new) rest ≡ doms_before (map pure_dom done) (f (doms_of (map pure_dom (drop i ds))))
dom_more f ds i x y done new rest lt is p e =
    ap (λ m. doms_before (map pure_dom m) rest) p
    ∙ ap (λ m. doms_before m rest) (map_push pure_dom done y)
    ∙ doms_pushed (map pure_dom done) (pure_dom y) rest
    ∙ ap (doms_before (map pure_dom done)) (sym e)
    ∙ sym (ap (λ m. doms_before (map pure_dom done) (f (doms_of (map pure_dom m)))) (left_at ds i x lt is))

-- All domains.
pub doms_done : (f : Doms → Doms) (ds : List NodeDom) (i : ℕ) (done : List NodeDom) (all : Doms) → length ds ≤ i → f no_doms ≡ no_doms
    → doms_before (map pure_dom done) (f (doms_of (map pure_dom (drop i ds)))) ≡ all → doms_of (map pure_dom done) ≡ all
doms_done f ds i done all e z h =
    sym (doms_all (map pure_dom done)) ∙ sym (ap (doms_before (map pure_dom done)) z)
    ∙ sym (ap (λ m. doms_before (map pure_dom done) (f (doms_of (map pure_dom m)))) (drop_all i ds e)) ∙ h

-- One pattern more.
pub pat_more : (f : Pats → Pats) (ps : List Pat) (i : ℕ) (x y : Pat) (done new : List Pat) (rest : Pats)
    → i < length ps → x ≡ get_or ps i x → new ≡ done ++ y ∷ []
    → f (more_pats (pure_pat x) (pats_of (map pure_pat (drop (i + 1) ps)))) ≡ more_pats (pure_pat y) rest
    → pats_before (map pure_pat new) rest ≡ pats_before (map pure_pat done) (f (pats_of (map pure_pat (drop i ps))))
pat_more f ps i x y done new rest lt is p e =
    ap (λ m. pats_before (map pure_pat m) rest) p
    ∙ ap (λ m. pats_before m rest) (map_push pure_pat done y)
    ∙ pats_pushed (map pure_pat done) (pure_pat y) rest
    ∙ ap (pats_before (map pure_pat done)) (sym e)
    ∙ sym (ap (λ m. pats_before (map pure_pat done) (f (pats_of (map pure_pat m)))) (left_at ps i x lt is))

-- All patterns.
pub pats_done : (f : Pats → Pats) (ps : List Pat) (i : ℕ) (done : List Pat) (all : Pats) → length ps ≤ i → f no_pats ≡ no_pats
    → pats_before (map pure_pat done) (f (pats_of (map pure_pat (drop i ps)))) ≡ all → pats_of (map pure_pat done) ≡ all
pats_done f ps i done all e z h =
    sym (pats_all (map pure_pat done)) ∙ sym (ap (pats_before (map pure_pat done)) z)
    ∙ sym (ap (λ m. pats_before (map pure_pat done) (f (pats_of (map pure_pat m)))) (drop_all i ps e)) ∙ h
