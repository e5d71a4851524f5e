-- Relations of two components of one type.
use Rattle.std.proofs.Common.{◌≡◌, refl, sym, ap, ◌∙◌, false, eqb, List, [], ◌∷◌, length, get_or, arith}
use Rattle.std.specs.Prelude.{is_some}
use Rattle.std.proofs.lemmas.Bool.{false≢true}
use Rattle.ess_semantics.specs.Types.{join, type_of_dom}
use Rattle.ess_semantics.specs.Kinds.{dom_list}
use Rattle.ess_semantics.specs.DomainJudgements.{is_binary}
use Rattle.ess_core.specs.TreeViews.{pure_dom, pure_doms}
use Rattle.ess_core.specs.declared.domains.Dom.{Dom}

pub binary_there : (ds : List Dom) (d e : Dom) → length ds ≡ 2 → d ≡ get_or ds 0 d → e ≡ get_or ds 1 e →
    is_binary (dom_list (pure_doms ds)) ≡ is_some (join (type_of_dom (pure_dom d)) (type_of_dom (pure_dom e)))
binary_there [] d e h is it = absurd (omega (arith, h))
binary_there (x ∷ []) d e h is it = absurd (omega (arith, h))
binary_there (x ∷ y ∷ []) d e h is it =
    ap (λ z. is_some (join (type_of_dom (pure_dom z)) (type_of_dom (pure_dom y)))) (sym is)
    ∙ ap (λ z. is_some (join (type_of_dom (pure_dom d)) (type_of_dom (pure_dom z)))) (sym it)
binary_there (x ∷ y ∷ z ∷ zs) d e h is it = absurd (omega (arith, h))

pub binary_elsewhere : (ds : List Dom) → eqb (length ds) 2 ≡ false → is_binary (dom_list (pure_doms ds)) ≡ false
binary_elsewhere [] h = refl
binary_elsewhere (x ∷ []) h = refl
binary_elsewhere (x ∷ y ∷ []) h = absurd (false≢true (sym h))
binary_elsewhere (x ∷ y ∷ z ∷ zs) h = refl
