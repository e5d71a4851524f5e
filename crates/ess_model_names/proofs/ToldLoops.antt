-- One operand or domain more, with its bound names told apart.
use Rattle.std.proofs.Common.{◌≡◌, sym, ap, ◌∙◌, ℕ, ◌+◌, ◌<◌, List, [], ◌∷◌, ◌++◌, length, map, drop, get_or}
use Rattle.ess_semantics.specs.Values.{Text}
use Rattle.ess_semantics.specs.Names.{Names}
use Rattle.ess_semantics.specs.Trees.{Pats, more_pats, Exs, more_exs, Doms, more_doms}
use Rattle.ess_semantics.specs.Kinds.{doms_of}
use Rattle.ess_core.specs.TreeViews.{exs_of, pats_of, pure_pat}
use Rattle.ess_core.specs.declared.expressions.Pat.{Pat}
use Rattle.ess_core_nodes.specs.declared.nodes.Node.{Node}
use Rattle.ess_core_nodes.specs.declared.nodes.NodeDom.{NodeDom}
use Rattle.ess_core_nodes.specs.NodeViews.{pure_node, pure_dom}
use Rattle.conjure_model_laws.specs.ToldApart.{told_pat, told_pats, told, told_all, told_dom, told_doms}
use Rattle.ess_model_names.specs.Before.{pats_before, exs_before, doms_before}
use Rattle.ess_model_names.proofs.Loops.{left_at, pat_more, node_more, dom_more}

-- An operand.
pub told_node_more : (ns : List Node) (i : ℕ) (x y : Node) (done new : List Node) (r s : Names Text) (k l : ℕ)
    → i < length ns → x ≡ get_or ns i x → new ≡ done ++ y ∷ []
    → pure_node y ≡ (told (pure_node x) r k).0 → l ≡ (told (pure_node x) r k).1 → s ≡ r
    → exs_before (map pure_node new) (told_all (exs_of (map pure_node (drop (i + 1) ns))) s l).0
    ≡ exs_before (map pure_node done) (told_all (exs_of (map pure_node (drop i ns))) r k).0
told_node_more ns i x y done new r s k l lt is p e n q =
    let rest = exs_of (map pure_node (drop (i + 1) ns)) in
    node_more (λ es. (told_all es r k).0) ns i x y done new (told_all rest s l).0 lt is p
    (sym (ap (λ z. more_exs z (told_all rest s l).0) e
    ∙ ap (λ s. more_exs (told (pure_node x) r k).0 (told_all rest s l).0) q
    ∙ ap (λ l. more_exs (told (pure_node x) r k).0 (told_all rest r l).0) n))

-- A domain.
pub told_dom_more : (ds : List NodeDom) (i : ℕ) (x y : NodeDom) (done new : List NodeDom) (r s : Names Text) (k l : ℕ)
    → i < length ds → x ≡ get_or ds i x → new ≡ done ++ y ∷ []
    → pure_dom y ≡ (told_dom (pure_dom x) r k).0 → l ≡ (told_dom (pure_dom x) r k).1 → s ≡ r
    → doms_before (map pure_dom new) (told_doms (doms_of (map pure_dom (drop (i + 1) ds))) s l).0
    ≡ doms_before (map pure_dom done) (told_doms (doms_of (map pure_dom (drop i ds))) r k).0
told_dom_more ds i x y done new r s k l lt is p e n q =
    let rest = doms_of (map pure_dom (drop (i + 1) ds)) in
    dom_more (λ cs. (told_doms cs r k).0) ds i x y done new (told_doms rest s l).0 lt is p
    (sym (ap (λ z. more_doms z (told_doms rest s l).0) e
    ∙ ap (λ s. more_doms (told_dom (pure_dom x) r k).0 (told_doms rest s l).0) q
    ∙ ap (λ l. more_doms (told_dom (pure_dom x) r k).0 (told_doms rest r l).0) n))

-- A pattern.
pub told_pat_more : (ps : List Pat) (i : ℕ) (x y : Pat) (done new : List Pat) (r s : Names Text) (k l : ℕ)
    → i < length ps → x ≡ get_or ps i x → new ≡ done ++ y ∷ []
    → pure_pat y ≡ (told_pat (pure_pat x) r k).0 → s ≡ (told_pat (pure_pat x) r k).1 → l ≡ (told_pat (pure_pat x) r k).2
    → pats_before (map pure_pat new) (told_pats (pats_of (map pure_pat (drop (i + 1) ps))) s l).0
    ≡ pats_before (map pure_pat done) (told_pats (pats_of (map pure_pat (drop i ps))) r k).0
told_pat_more ps i x y done new r s k l lt is p e q n =
    let rest = pats_of (map pure_pat (drop (i + 1) ps)) in
    pat_more (λ qs. (told_pats qs r k).0) ps i x y done new (told_pats rest s l).0 lt is p
    (sym (ap (λ z. more_pats z (told_pats rest s l).0) e
    ∙ ap (λ s. more_pats (told_pat (pure_pat x) r k).0 (told_pats rest s l).0) q
    ∙ ap (λ l. more_pats (told_pat (pure_pat x) r k).0 (told_pats rest (told_pat (pure_pat x) r k).1 l).0) n))

-- ---- the names and the number behind them

-- The number behind an operand.
pub told_node_next : (ns : List Node) (i : ℕ) (x : Node) (r s : Names Text) (k l : ℕ) → i < length ns → x ≡ get_or ns i x
    → l ≡ (told (pure_node x) r k).1 → s ≡ r
    → (told_all (exs_of (map pure_node (drop (i + 1) ns))) s l).1 ≡ (told_all (exs_of (map pure_node (drop i ns))) r k).1
told_node_next ns i x r s k l lt is n q =
    let rest = exs_of (map pure_node (drop (i + 1) ns)) in
    ap (λ s. (told_all rest s l).1) q ∙ ap (λ l. (told_all rest r l).1) n
    ∙ sym (ap (λ m. (told_all (exs_of (map pure_node m)) r k).1) (left_at ns i x lt is))

-- The number behind a domain.
pub told_dom_next : (ds : List NodeDom) (i : ℕ) (x : NodeDom) (r s : Names Text) (k l : ℕ) → i < length ds → x ≡ get_or ds i x
    → l ≡ (told_dom (pure_dom x) r k).1 → s ≡ r
    → (told_doms (doms_of (map pure_dom (drop (i + 1) ds))) s l).1 ≡ (told_doms (doms_of (map pure_dom (drop i ds))) r k).1
told_dom_next ds i x r s k l lt is n q =
    let rest = doms_of (map pure_dom (drop (i + 1) ds)) in
    ap (λ s. (told_doms rest s l).1) q ∙ ap (λ l. (told_doms rest r l).1) n
    ∙ sym (ap (λ m. (told_doms (doms_of (map pure_dom m)) r k).1) (left_at ds i x lt is))

-- The names behind a pattern.
pub told_pat_names : (ps : List Pat) (i : ℕ) (x : Pat) (r s : Names Text) (k l : ℕ) → i < length ps → x ≡ get_or ps i x
    → s ≡ (told_pat (pure_pat x) r k).1 → l ≡ (told_pat (pure_pat x) r k).2
    → (told_pats (pats_of (map pure_pat (drop (i + 1) ps))) s l).1 ≡ (told_pats (pats_of (map pure_pat (drop i ps))) r k).1
told_pat_names ps i x r s k l lt is q n =
    let rest = pats_of (map pure_pat (drop (i + 1) ps)) in
    ap (λ s. (told_pats rest s l).1) q ∙ ap (λ l. (told_pats rest (told_pat (pure_pat x) r k).1 l).1) n
    ∙ sym (ap (λ m. (told_pats (pats_of (map pure_pat m)) r k).1) (left_at ps i x lt is))

-- The number behind a pattern.
pub told_pat_next : (ps : List Pat) (i : ℕ) (x : Pat) (r s : Names Text) (k l : ℕ) → i < length ps → x ≡ get_or ps i x
    → s ≡ (told_pat (pure_pat x) r k).1 → l ≡ (told_pat (pure_pat x) r k).2
    → (told_pats (pats_of (map pure_pat (drop (i + 1) ps))) s l).2 ≡ (told_pats (pats_of (map pure_pat (drop i ps))) r k).2
told_pat_next ps i x r s k l lt is q n =
    let rest = pats_of (map pure_pat (drop (i + 1) ps)) in
    ap (λ s. (told_pats rest s l).2) q ∙ ap (λ l. (told_pats rest (told_pat (pure_pat x) r k).1 l).2) n
    ∙ sym (ap (λ m. (told_pats (pats_of (map pure_pat m)) r k).2) (left_at ps i x lt is))
