-- The loop that multiplies the bounds of domains.
use Rattle.std.proofs.Common.{◌≡◌, refl, sym, ap, ◌∙◌, ℕ, ◌+◌, ◌<◌, ◌≤◌, List, [], ◌∷◌, drop, length, get_or, pos}
use Rattle.std.proofs.lemmas.List.{at_drop_more, at_drop_all}
use Rattle.ess_semantics.specs.Trees.{Ex, number_ex, more_doms}
use Rattle.ess_core_nodes.specs.declared.nodes.NodeDom.{NodeDom}
use Rattle.ess_core_nodes.specs.NodeViews.{pure_dom, pure_doms}
use Rattle.ess_repr_declare_laws.specs.SizeTerms.{times_ex, bound_ex, product_ex, product_behind}

pub product_none : (ds : List NodeDom) → length ds ≡ 0 → product_ex (pure_doms ds) ≡ number_ex (pos 1)
product_none [] h = refl
product_none (d ∷ ds) h = cc

pub product_first : (ds : List NodeDom) (d : NodeDom) (e : Ex) → (length ds ≡ 0 → ⊥) → d ≡ get_or ds 0 d → e ≡ bound_ex (pure_dom d) →
    product_behind e (pure_doms (drop 1 ds)) ≡ product_ex (pure_doms ds)
product_first [] d e h is p = absurd (h refl)
product_first (x ∷ ds) d e h is p = ap (λ t. product_behind t (pure_doms ds)) (p ∙ ap (λ z. bound_ex (pure_dom z)) is)

pub product_more : (ds : List NodeDom) (i : ℕ) (d : NodeDom) (t e u : Ex) → i < length ds → d ≡ get_or ds i d → e ≡ bound_ex (pure_dom d) → u ≡ times_ex t e →
    product_behind t (pure_doms (drop i ds)) ≡ product_ex (pure_doms ds) → product_behind u (pure_doms (drop (i + 1) ds)) ≡ product_ex (pure_doms ds)
product_more ds i d t e u h is p q k =
    ap (λ z. product_behind z (pure_doms (drop (i + 1) ds))) (q ∙ ap (times_ex t) p)
    ∙ sym (at_drop_more (λ l. product_behind t (pure_doms l)) ds i d h
    ∙ ap (λ y. product_behind t (more_doms (pure_dom y) (pure_doms (drop (i + 1) ds)))) (sym is)) ∙ k

pub product_all : (ds : List NodeDom) (i : ℕ) (t : Ex) → length ds ≤ i → product_behind t (pure_doms (drop i ds)) ≡ product_ex (pure_doms ds) → t ≡ product_ex (pure_doms ds)
product_all ds i t h k = sym (at_drop_all (λ l. product_behind t (pure_doms l)) ds i h) ∙ k
