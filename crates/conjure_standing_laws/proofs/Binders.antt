-- A part that binds no more names leaves the number of those of the whole; and a rule that fires at a bare tree binds no more.
use Rattle.std.proofs.Common.{◌≡◌, ap, ◌∙◌, subst, ℕ, zero, suc, ◌+◌, ◌≤◌, le_refl, Bool, true, false, ◌&&◌, if◌then◌else◌, pos, Option, Some, None, arith}
use Rattle.ess_semantics.specs.declared.words.Op2.{Op2}
use Rattle.ess_semantics.specs.declared.words.Fun.{Fun}
use Rattle.ess_semantics.specs.Values.{Text}
use Rattle.ess_semantics.specs.Names.{Names}
use Rattle.ess_semantics.specs.Refined.{is_refined, are_refined_gens}
use Rattle.ess_semantics.specs.Trees.{Ex, number_ex, comp_ex, ex2, fun1, Gens, no_gens, over, from, cond}
use Rattle.ess_semantics.specs.Contexts.{In, hole, in_operand, in_item, in_index_domain, in_body, in_generators, in_cell_index, in_view_domain, in_view_index, Ins, in_first, in_later, InGens, in_generator_domain, behind_over, in_source, behind_from, in_condition, behind_condition, InDom, in_bound, in_component, in_field, in_index, in_element, in_set_number, in_set_member, in_mset_number, in_mset_member, in_function_number, in_argument, in_result, in_relation_number, in_relation_component, in_partition_number, in_partition_member, fill, fill_exs, fill_gens, fill_dom}
use Rattle.ess_rules_laws.specs.ChoiceRules.{choice_shorter}
use Rattle.ess_rules_laws.specs.FoldRules.{fold_alone, fold_bare}
use Rattle.ess_rules_laws.specs.SourceRules.{is_marked}
use Rattle.ess_rules_laws.specs.SpliceRules.{append_gens}
use Rattle.ess_refine_laws.specs.LeavingConditions.{Parted, at_last_condition, under_condition, condition_leaves}
use Rattle.ess_refine_laws.proofs.LeavingConditions.{MakesUp, made-up}
use Rattle.conjure_model_laws.specs.Printed.{binders, binders_of_all, binders_of_gens, binders_of_dom}
use Rattle.ess_flat_laws.specs.Flat.{denied, both}
use Rattle.ess_bare_laws.specs.Bare.{before, Bare, truth, named, cell, one, two, folded, ordered}
use Rattle.ess_bare_laws.specs.Fires.{Fires, without_generators, over_one_condition, as_a_condition_leaves, as_one_choice}

-- ---- numbers

both-less : (x y z w : ℕ) → x ≤ y → z ≤ w → x + z ≤ y + w
both-less x y z w p q = omega (arith, p, q)

one-more : (x y : ℕ) → x ≤ y → suc x ≤ suc y
one-more x y p = omega (arith, p)

-- ---- at a part

module _ (a b : Ex) (f : binders b ≤ binders a) where
  mutual
    pub at-part : (c : In) → binders (fill c b) ≤ binders (fill c a)
    at-part hole = f
    at-part (in_operand m op c) = at-exs c
    at-part (in_item c d) = at-exs c
    at-part (in_index_domain es c) = le_refl (binders_of_all es)
    at-part (in_body c gs) = both-less (binders_of_gens gs) (binders_of_gens gs) (binders (fill c b)) (binders (fill c a))
        (le_refl (binders_of_gens gs)) (at-part c)
    at-part (in_generators x c) = both-less (binders_of_gens (fill_gens c b)) (binders_of_gens (fill_gens c a)) (binders x) (binders x)
        (at-gens c) (le_refl (binders x))
    at-part (in_cell_index m n c) = at-exs c
    at-part (in_view_domain r c ns es) = le_refl 0
    at-part (in_view_index r d ns c) = le_refl 0

    at-exs : (c : Ins) → binders_of_all (fill_exs c b) ≤ binders_of_all (fill_exs c a)
    at-exs (in_first c es) = both-less (binders (fill c b)) (binders (fill c a)) (binders_of_all es) (binders_of_all es) (at-part c)
        (le_refl (binders_of_all es))
    at-exs (in_later x c) = both-less (binders x) (binders x) (binders_of_all (fill_exs c b)) (binders_of_all (fill_exs c a))
        (le_refl (binders x)) (at-exs c)

    at-gens : (c : InGens) → binders_of_gens (fill_gens c b) ≤ binders_of_gens (fill_gens c a)
    at-gens (in_generator_domain p c gs) =
        one-more (binders_of_dom (fill_dom c b) + binders_of_gens gs) (binders_of_dom (fill_dom c a) + binders_of_gens gs)
        (both-less (binders_of_dom (fill_dom c b)) (binders_of_dom (fill_dom c a)) (binders_of_gens gs) (binders_of_gens gs) (at-dom c)
        (le_refl (binders_of_gens gs)))
    at-gens (behind_over p d c) =
        one-more (binders_of_dom d + binders_of_gens (fill_gens c b)) (binders_of_dom d + binders_of_gens (fill_gens c a))
        (both-less (binders_of_dom d) (binders_of_dom d) (binders_of_gens (fill_gens c b)) (binders_of_gens (fill_gens c a))
        (le_refl (binders_of_dom d)) (at-gens c))
    at-gens (in_source p c gs) = one-more (binders (fill c b) + binders_of_gens gs) (binders (fill c a) + binders_of_gens gs)
        (both-less (binders (fill c b)) (binders (fill c a)) (binders_of_gens gs) (binders_of_gens gs) (at-part c)
        (le_refl (binders_of_gens gs)))
    at-gens (behind_from p x c) = one-more (binders x + binders_of_gens (fill_gens c b)) (binders x + binders_of_gens (fill_gens c a))
        (both-less (binders x) (binders x) (binders_of_gens (fill_gens c b)) (binders_of_gens (fill_gens c a)) (le_refl (binders x))
        (at-gens c))
    at-gens (in_condition c gs) = both-less (binders (fill c b)) (binders (fill c a)) (binders_of_gens gs) (binders_of_gens gs) (at-part c)
        (le_refl (binders_of_gens gs))
    at-gens (behind_condition x c) = both-less (binders x) (binders x) (binders_of_gens (fill_gens c b)) (binders_of_gens (fill_gens c a))
        (le_refl (binders x)) (at-gens c)

    at-dom : (c : InDom) → binders_of_dom (fill_dom c b) ≤ binders_of_dom (fill_dom c a)
    at-dom (in_bound rs c) = at-exs c
    at-dom (in_component c) = le_refl 0
    at-dom (in_field fs c) = le_refl 0
    at-dom (in_index c d) = le_refl 0
    at-dom (in_element is c) = le_refl 0
    at-dom (in_set_number ms c d) = le_refl 0
    at-dom (in_set_member ms es c) = le_refl 0
    at-dom (in_mset_number ms c d) = le_refl 0
    at-dom (in_mset_member ms es c) = le_refl 0
    at-dom (in_function_number ms c d x) = le_refl 0
    at-dom (in_argument ms es c x) = le_refl 0
    at-dom (in_result ms es d c) = le_refl 0
    at-dom (in_relation_number ms c ds) = le_refl 0
    at-dom (in_relation_component ms es c) = le_refl 0
    at-dom (in_partition_number ms c d) = le_refl 0
    at-dom (in_partition_member ms es c) = le_refl 0

-- ---- at the root

no-more : (x : ℕ) → x ≡ 0 + x
no-more x = omega arith

-- Generators in two parts.
two-parts : (gs hs : Gens) → binders_of_gens (append_gens gs hs) ≡ binders_of_gens gs + binders_of_gens hs
two-parts no_gens hs = no-more (binders_of_gens hs)
two-parts (over p d gs) hs = more (binders_of_dom d) (binders_of_gens gs) (binders_of_gens hs) (binders_of_gens (append_gens gs hs))
    (two-parts gs hs)
  where
    more : (x y z w : ℕ) → w ≡ y + z → suc (x + w) ≡ suc (x + y) + z
    more x y z w q = omega (arith, q)
two-parts (from p e gs) hs = more (binders e) (binders_of_gens gs) (binders_of_gens hs) (binders_of_gens (append_gens gs hs))
    (two-parts gs hs)
  where
    more : (x y z w : ℕ) → w ≡ y + z → suc (x + w) ≡ suc (x + y) + z
    more x y z w q = omega (arith, q)
two-parts (cond e gs) hs = more (binders e) (binders_of_gens gs) (binders_of_gens hs) (binders_of_gens (append_gens gs hs))
    (two-parts gs hs)
  where
    more : (x y z w : ℕ) → w ≡ y + z → x + w ≡ (x + y) + z
    more x y z w q = omega (arith, q)

-- What is made binds at most so many names.
abbrev AtMost : ℕ → Option Ex → Type 0
AtMost k None = Unit {0}
AtMost k (Some f) = binders f ≤ k

item-less : (x : ℕ) → x ≤ (0 + x) + 0
item-less x = omega arith

without : (e : Ex) → AtMost (binders e) (fold_bare e)
without (fun1 true Fun.And (comp_ex e no_gens)) = item-less (binders e)
without (fun1 true Fun.Or (comp_ex e no_gens)) = item-less (binders e)
without (fun1 false Fun.Sum (comp_ex e no_gens)) = item-less (binders e)
without (fun1 false Fun.Product (comp_ex e no_gens)) = item-less (binders e)
without _ = tt

item-less-behind : (x : ℕ) → x ≤ x + 0
item-less-behind x = omega arith

two-less : (x y : ℕ) → x + (y + 0) ≤ ((x + 0) + y) + 0
two-less x y = omega arith

alone : (e : Ex) → AtMost (binders e) (fold_alone e)
alone (fun1 true Fun.And (comp_ex e (cond c no_gens))) = two-less (binders c) (binders e)
alone (fun1 true Fun.Or (comp_ex e (cond c no_gens))) = two-less (binders c) (binders e)
alone _ = tt

choice-less : (x y : ℕ) → (x + (y + 0)) + 0 ≤ (x + 0) + ((y + 0) + 0)
choice-less x y = omega arith

shorter : (e : Ex) → AtMost (binders e) (choice_shorter e)
shorter (ex2 false Op2.Times (fun1 false Fun.ToInt c) (fun1 false Fun.ToInt d)) = choice-less (binders c) (binders d)
shorter (ex2 false Op2.Times (fun1 false Fun.ToInt c) (number_ex (pos (suc zero)))) = item-less-behind (binders c + 0)
shorter _ = tt

either-way : (k : ℕ) (b : Bool) (f : Ex) → binders f ≤ k → AtMost k (if b then Some f else None)
either-way k true f h = h
either-way k false f h = tt

-- In the order in which they stand: before the condition, in it, behind it, in the item.
moved-less : (x c y e g : ℕ) → g ≡ x + (c + y) → (x + (c + (((y + e) + 0) + 0))) + 0 ≤ (g + e) + 0
moved-less x c y e g q = omega (arith, q)

leaves-fold : (w : Fun) (e : Ex) (gs : Gens) → (p : Option Parted) → MakesUp p gs → AtMost (binders (fun1 true w (comp_ex e gs))) (elim p [
  | None ↦ None
  | Some t ↦ if is_marked true w && (is_refined t.condition && (is_refined e && are_refined_gens t.after))
      then Some (fun1 true w (comp_ex (under_condition w t.condition (fun1 true w (comp_ex e t.after))) t.before)) else None
])
leaves-fold w e gs None m = tt
leaves-fold Fun.And e gs (Some t) m =
    either-way (binders (fun1 true Fun.And (comp_ex e gs))) (is_refined t.condition && (is_refined e && are_refined_gens t.after))
    (fun1 true Fun.And (comp_ex (under_condition Fun.And t.condition (fun1 true Fun.And (comp_ex e t.after))) t.before))
    (moved-less (binders_of_gens t.before) (binders t.condition) (binders_of_gens t.after) (binders e) (binders_of_gens gs)
    (ap binders_of_gens m ∙ two-parts t.before (cond t.condition t.after)))
leaves-fold Fun.Or e gs (Some t) m =
    either-way (binders (fun1 true Fun.Or (comp_ex e gs))) (is_refined t.condition && (is_refined e && are_refined_gens t.after))
    (fun1 true Fun.Or (comp_ex (under_condition Fun.Or t.condition (fun1 true Fun.Or (comp_ex e t.after))) t.before))
    (moved-less (binders_of_gens t.before) (binders t.condition) (binders_of_gens t.after) (binders e) (binders_of_gens gs)
    (ap binders_of_gens m ∙ two-parts t.before (cond t.condition t.after)))
leaves-fold w e gs (Some t) m = tt

leaves : {cells : Text → Option (Bool × ℕ)} {r : Names Bool} {e : Ex} → Bare cells r e true → AtMost (binders e) (condition_leaves e)
leaves truth = tt
leaves (named p) = tt
leaves (cell p i) = tt
leaves (one denied f) = tt
leaves (two both f k) = tt
leaves (folded {f = w} {e = e} {gs = gs} v k f) = leaves-fold w e gs (at_last_condition gs) (made-up gs)
leaves (ordered before f k) = tt
leaves f = tt

-- A rule binds no more names.
pub fired-binds : (cells : Text → Option (Bool × ℕ)) (r : Names Bool) (e f : Ex) (m : Bool) → Bare cells r e m → Fires e f m →
    binders f ≤ binders e
fired-binds cells r e f m b (without_generators q) = subst (λ x. AtMost (binders e) x) q (without e)
fired-binds cells r e f m b (over_one_condition q) = subst (λ x. AtMost (binders e) x) q (alone e)
fired-binds cells r e f m b (as_a_condition_leaves q) = subst (λ x. AtMost (binders e) x) q (leaves b)
fired-binds cells r e f m b (as_one_choice q) = subst (λ x. AtMost (binders e) x) q (shorter e)
