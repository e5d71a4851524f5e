-- That `==` decides which expressions, domains and parts of these are equal.
use Rattle.std.proofs.Common.{◌≡◌, subst, ◌↔◌, IsTrue}
use Rattle.ess_core_equality.proofs.Known.{Knows, decides}
use Rattle.ess_core_equality.proofs.TreeLayers.{Of_known, Of_trees, dom_same, range_same, ex_same, gen_same, step_same, attr_same, field_dom_same, field_ex_same, pair_ex_same, view_same, of_dom, of_range, of_ex, of_gen, of_step, of_attr, of_field_dom, of_field_ex, of_pair_ex, of_view, made_dom, made_range, made_ex, made_gen, made_step, made_attr, made_field_dom, made_field_ex, made_pair_ex, made_view}
use Rattle.ess_core.specs.declared.domains.Dom.{Dom}
use Rattle.ess_core.specs.declared.domains.Range.{Range}
use Rattle.ess_core.specs.declared.expressions.Ex.{Ex}
use Rattle.ess_core.specs.declared.expressions.Gen.{Gen}
use Rattle.ess_core.specs.declared.expressions.Step.{Step}
use Rattle.ess_core.specs.declared.domains.Attr.{Attr}
use Rattle.ess_core.specs.declared.domains.FieldDom.{FieldDom}
use Rattle.ess_core.specs.declared.expressions.FieldEx.{FieldEx}
use Rattle.ess_core.specs.declared.expressions.PairEx.{PairEx}
use Rattle.ess_core.specs.declared.expressions.View.{View}
use Rattle.ess_core.specs.declared.domains.Dom.TheOpen.{Dom-F, Range-F, Ex-F, Gen-F, Step-F, Attr-F, FieldDom-F, FieldEx-F, PairEx-F, View-F}
use Rattle.ess_core.specs.declared.domains.Dom.TheViews.{roll-Dom, roll-Range, roll-Ex, roll-Gen, roll-Step, roll-Attr, roll-FieldDom, roll-FieldEx, roll-PairEx, roll-View}
use Rattle.ess_core.specs.declared.domains.Dom.TheFolds.{ind-Dom, ind-Range, ind-Ex, ind-Gen, ind-Step, ind-Attr, ind-FieldDom, ind-FieldEx, ind-PairEx, ind-View}

step_dom : (x : Of_trees Dom-F) (y : Of_known Dom-F) → of_dom y ≡ x → Knows dom_same (roll-Dom x)
step_dom x y p = subst (λ z. Knows dom_same (roll-Dom z)) p (made_dom y)

step_range : (x : Of_trees Range-F) (y : Of_known Range-F) → of_range y ≡ x → Knows range_same (roll-Range x)
step_range x y p = subst (λ z. Knows range_same (roll-Range z)) p (made_range y)

step_ex : (x : Of_trees Ex-F) (y : Of_known Ex-F) → of_ex y ≡ x → Knows ex_same (roll-Ex x)
step_ex x y p = subst (λ z. Knows ex_same (roll-Ex z)) p (made_ex y)

step_gen : (x : Of_trees Gen-F) (y : Of_known Gen-F) → of_gen y ≡ x → Knows gen_same (roll-Gen x)
step_gen x y p = subst (λ z. Knows gen_same (roll-Gen z)) p (made_gen y)

step_step : (x : Of_trees Step-F) (y : Of_known Step-F) → of_step y ≡ x → Knows step_same (roll-Step x)
step_step x y p = subst (λ z. Knows step_same (roll-Step z)) p (made_step y)

step_attr : (x : Of_trees Attr-F) (y : Of_known Attr-F) → of_attr y ≡ x → Knows attr_same (roll-Attr x)
step_attr x y p = subst (λ z. Knows attr_same (roll-Attr z)) p (made_attr y)

step_field_dom : (x : Of_trees FieldDom-F) (y : Of_known FieldDom-F) → of_field_dom y ≡ x → Knows field_dom_same (roll-FieldDom x)
step_field_dom x y p = subst (λ z. Knows field_dom_same (roll-FieldDom z)) p (made_field_dom y)

step_field_ex : (x : Of_trees FieldEx-F) (y : Of_known FieldEx-F) → of_field_ex y ≡ x → Knows field_ex_same (roll-FieldEx x)
step_field_ex x y p = subst (λ z. Knows field_ex_same (roll-FieldEx z)) p (made_field_ex y)

step_pair_ex : (x : Of_trees PairEx-F) (y : Of_known PairEx-F) → of_pair_ex y ≡ x → Knows pair_ex_same (roll-PairEx x)
step_pair_ex x y p = subst (λ z. Knows pair_ex_same (roll-PairEx z)) p (made_pair_ex y)

step_view : (x : Of_trees View-F) (y : Of_known View-F) → of_view y ≡ x → Knows view_same (roll-View x)
step_view x y p = subst (λ z. Knows view_same (roll-View z)) p (made_view y)

pub known_dom : (x : Dom) → Knows dom_same x
known_dom = ind-Dom (Knows dom_same) (Knows range_same) (Knows ex_same) (Knows gen_same) (Knows step_same) (Knows attr_same) (Knows field_dom_same) (Knows field_ex_same) (Knows pair_ex_same) (Knows view_same) step_dom step_range step_ex step_gen step_step step_attr step_field_dom step_field_ex step_pair_ex step_view

pub known_range : (x : Range) → Knows range_same x
known_range = ind-Range (Knows dom_same) (Knows range_same) (Knows ex_same) (Knows gen_same) (Knows step_same) (Knows attr_same) (Knows field_dom_same) (Knows field_ex_same) (Knows pair_ex_same) (Knows view_same) step_dom step_range step_ex step_gen step_step step_attr step_field_dom step_field_ex step_pair_ex step_view

pub known_ex : (x : Ex) → Knows ex_same x
known_ex = ind-Ex (Knows dom_same) (Knows range_same) (Knows ex_same) (Knows gen_same) (Knows step_same) (Knows attr_same) (Knows field_dom_same) (Knows field_ex_same) (Knows pair_ex_same) (Knows view_same) step_dom step_range step_ex step_gen step_step step_attr step_field_dom step_field_ex step_pair_ex step_view

pub known_gen : (x : Gen) → Knows gen_same x
known_gen = ind-Gen (Knows dom_same) (Knows range_same) (Knows ex_same) (Knows gen_same) (Knows step_same) (Knows attr_same) (Knows field_dom_same) (Knows field_ex_same) (Knows pair_ex_same) (Knows view_same) step_dom step_range step_ex step_gen step_step step_attr step_field_dom step_field_ex step_pair_ex step_view

pub known_step : (x : Step) → Knows step_same x
known_step = ind-Step (Knows dom_same) (Knows range_same) (Knows ex_same) (Knows gen_same) (Knows step_same) (Knows attr_same) (Knows field_dom_same) (Knows field_ex_same) (Knows pair_ex_same) (Knows view_same) step_dom step_range step_ex step_gen step_step step_attr step_field_dom step_field_ex step_pair_ex step_view

pub known_attr : (x : Attr) → Knows attr_same x
known_attr = ind-Attr (Knows dom_same) (Knows range_same) (Knows ex_same) (Knows gen_same) (Knows step_same) (Knows attr_same) (Knows field_dom_same) (Knows field_ex_same) (Knows pair_ex_same) (Knows view_same) step_dom step_range step_ex step_gen step_step step_attr step_field_dom step_field_ex step_pair_ex step_view

pub known_field_dom : (x : FieldDom) → Knows field_dom_same x
known_field_dom = ind-FieldDom (Knows dom_same) (Knows range_same) (Knows ex_same) (Knows gen_same) (Knows step_same) (Knows attr_same) (Knows field_dom_same) (Knows field_ex_same) (Knows pair_ex_same) (Knows view_same) step_dom step_range step_ex step_gen step_step step_attr step_field_dom step_field_ex step_pair_ex step_view

pub known_field_ex : (x : FieldEx) → Knows field_ex_same x
known_field_ex = ind-FieldEx (Knows dom_same) (Knows range_same) (Knows ex_same) (Knows gen_same) (Knows step_same) (Knows attr_same) (Knows field_dom_same) (Knows field_ex_same) (Knows pair_ex_same) (Knows view_same) step_dom step_range step_ex step_gen step_step step_attr step_field_dom step_field_ex step_pair_ex step_view

pub known_pair_ex : (x : PairEx) → Knows pair_ex_same x
known_pair_ex = ind-PairEx (Knows dom_same) (Knows range_same) (Knows ex_same) (Knows gen_same) (Knows step_same) (Knows attr_same) (Knows field_dom_same) (Knows field_ex_same) (Knows pair_ex_same) (Knows view_same) step_dom step_range step_ex step_gen step_step step_attr step_field_dom step_field_ex step_pair_ex step_view

pub known_view : (x : View) → Knows view_same x
known_view = ind-View (Knows dom_same) (Knows range_same) (Knows ex_same) (Knows gen_same) (Knows step_same) (Knows attr_same) (Knows field_dom_same) (Knows field_ex_same) (Knows pair_ex_same) (Knows view_same) step_dom step_range step_ex step_gen step_step step_attr step_field_dom step_field_ex step_pair_ex step_view

pub decides_dom : (x y : Dom) → IsTrue (dom_same x y) ↔ (x ≡ y)
decides_dom x y = decides (known_dom x) y

pub decides_range : (x y : Range) → IsTrue (range_same x y) ↔ (x ≡ y)
decides_range x y = decides (known_range x) y

pub decides_ex : (x y : Ex) → IsTrue (ex_same x y) ↔ (x ≡ y)
decides_ex x y = decides (known_ex x) y

pub decides_gen : (x y : Gen) → IsTrue (gen_same x y) ↔ (x ≡ y)
decides_gen x y = decides (known_gen x) y

pub decides_step : (x y : Step) → IsTrue (step_same x y) ↔ (x ≡ y)
decides_step x y = decides (known_step x) y

pub decides_attr : (x y : Attr) → IsTrue (attr_same x y) ↔ (x ≡ y)
decides_attr x y = decides (known_attr x) y

pub decides_field_dom : (x y : FieldDom) → IsTrue (field_dom_same x y) ↔ (x ≡ y)
decides_field_dom x y = decides (known_field_dom x) y

pub decides_field_ex : (x y : FieldEx) → IsTrue (field_ex_same x y) ↔ (x ≡ y)
decides_field_ex x y = decides (known_field_ex x) y

pub decides_pair_ex : (x y : PairEx) → IsTrue (pair_ex_same x y) ↔ (x ≡ y)
decides_pair_ex x y = decides (known_pair_ex x) y

pub decides_view : (x y : View) → IsTrue (view_same x y) ↔ (x ≡ y)
decides_view x y = decides (known_view x) y
