-- That `==` knows each expression of a model, each domain and each part of these.
use Rattle.std.proofs.Common.{◌≡◌, subst}
use Rattle.ess_core_equality.proofs.Known.{Knows}
use Rattle.eprime_equality.proofs.ExpressionLayers.{Of_known, Of_trees, dom_same, ex_same, gen_same, list_same, range_same}
use Rattle.eprime_equality.proofs.ExpressionLayers.{of_dom, of_ex, of_gen, of_list, of_range}
use Rattle.eprime_equality.proofs.ExpressionLayers.{made_dom, made_ex, made_gen, made_list, made_range}
use Rattle.eprime_tree.specs.declared.expressions.PDom.{PDom}
use Rattle.eprime_tree.specs.declared.expressions.PEx.{PEx}
use Rattle.eprime_tree.specs.declared.expressions.PDom.TheOpen.{PDom-F, PEx-F, PGen-F, PList-F, PRange-F}
use Rattle.eprime_tree.specs.declared.expressions.PDom.TheViews.{roll-PDom, roll-PEx, roll-PGen, roll-PList, roll-PRange}
use Rattle.eprime_tree.specs.declared.expressions.PDom.TheFolds.{ind-PDom, ind-PEx}

step_dom : (x : Of_trees PDom-F) (y : Of_known PDom-F) → of_dom y ≡ x → Knows dom_same (roll-PDom x)
step_dom x y p = subst (λ z. Knows dom_same (roll-PDom z)) p (made_dom y)

step_ex : (x : Of_trees PEx-F) (y : Of_known PEx-F) → of_ex y ≡ x → Knows ex_same (roll-PEx x)
step_ex x y p = subst (λ z. Knows ex_same (roll-PEx z)) p (made_ex y)

step_gen : (x : Of_trees PGen-F) (y : Of_known PGen-F) → of_gen y ≡ x → Knows gen_same (roll-PGen x)
step_gen x y p = subst (λ z. Knows gen_same (roll-PGen z)) p (made_gen y)

step_list : (x : Of_trees PList-F) (y : Of_known PList-F) → of_list y ≡ x → Knows list_same (roll-PList x)
step_list x y p = subst (λ z. Knows list_same (roll-PList z)) p (made_list y)

step_range : (x : Of_trees PRange-F) (y : Of_known PRange-F) → of_range y ≡ x → Knows range_same (roll-PRange x)
step_range x y p = subst (λ z. Knows range_same (roll-PRange z)) p (made_range y)

-- Each domain is known.
pub known_dom : (x : PDom) → Knows dom_same x
known_dom = ind-PDom (Knows dom_same) (Knows ex_same) (Knows gen_same) (Knows list_same) (Knows range_same)
    step_dom step_ex step_gen step_list step_range

-- Each expression is known.
pub known_ex : (x : PEx) → Knows ex_same x
known_ex = ind-PEx (Knows dom_same) (Knows ex_same) (Knows gen_same) (Knows list_same) (Knows range_same)
    step_dom step_ex step_gen step_list step_range
