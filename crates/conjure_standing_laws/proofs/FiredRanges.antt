-- Where the ranges of a bare tree have their bounds, those of what a rule makes of it have theirs.
use Rattle.std.proofs.Common.{subst, ℕ, zero, suc, Bool, true, false, ◌&&◌, if◌then◌else◌, pos, Option, Some, None}
use Rattle.ess_semantics.specs.declared.words.Op2.{Op2}
use Rattle.ess_semantics.specs.declared.words.Fun.{Fun}
use Rattle.ess_semantics.specs.Values.{Text}
use Rattle.ess_semantics.specs.Names.{Names}
use Rattle.ess_semantics.specs.Refined.{is_refined, are_refined_gens}
use Rattle.ess_semantics.specs.Trees.{Ex, number_ex, comp_ex, ex2, fun1, Gens, no_gens, over, from, cond}
use Rattle.ess_rules_laws.specs.ChoiceRules.{choice_shorter}
use Rattle.ess_rules_laws.specs.FoldRules.{fold_alone, fold_bare}
use Rattle.ess_rules_laws.specs.SourceRules.{is_marked}
use Rattle.ess_rules_laws.specs.SpliceRules.{append_gens}
use Rattle.ess_refine_laws.specs.LeavingConditions.{Parted, at_last_condition, under_condition, condition_leaves}
use Rattle.ess_refine_laws.proofs.LeavingConditions.{MakesUp, made-up}
use Rattle.ess_flat_laws.specs.Flat.{denied, both}
use Rattle.ess_bare_laws.specs.Bare.{before, TruthWord, all_hold, some_holds, Bare, truth, named, cell, one, two, folded, ordered}
use Rattle.ess_bare_laws.specs.Fires.{Fires, without_generators, over_one_condition, as_a_condition_leaves, as_one_choice}
use Rattle.ess_lowered_laws.specs.Ranges.{RangesFit, GensFit}

-- The ranges of generators in two parts.
first-gens : (gs hs : Gens) → GensFit (append_gens gs hs) → GensFit gs × GensFit hs
first-gens no_gens hs h = (tt, h)
first-gens (over p d gs) hs h = let k = first-gens gs hs h.1 in ((h.0, k.0), k.1)
first-gens (from p e gs) hs h = let k = first-gens gs hs h.1 in ((h.0, k.0), k.1)
first-gens (cond e gs) hs h = let k = first-gens gs hs h.1 in ((h.0, k.0), k.1)

-- The ranges of what is made have their bounds.
abbrev Fit : Option Ex → Type 0
Fit None = Unit {0}
Fit (Some f) = RangesFit f

without : (e : Ex) → RangesFit e → Fit (fold_bare e)
without (fun1 true Fun.And (comp_ex e no_gens)) h = h.0.0
without (fun1 true Fun.Or (comp_ex e no_gens)) h = h.0.0
without (fun1 false Fun.Sum (comp_ex e no_gens)) h = h.0.0
without (fun1 false Fun.Product (comp_ex e no_gens)) h = h.0.0
without _ h = tt

alone : (e : Ex) → RangesFit e → Fit (fold_alone e)
alone (fun1 true Fun.And (comp_ex e (cond c no_gens))) h = (h.0.1.0, (h.0.0, tt))
alone (fun1 true Fun.Or (comp_ex e (cond c no_gens))) h = (h.0.1.0, (h.0.0, tt))
alone _ h = tt

shorter : (e : Ex) → RangesFit e → Fit (choice_shorter e)
shorter (ex2 false Op2.Times (fun1 false Fun.ToInt c) (fun1 false Fun.ToInt d)) h = ((h.0.0, (h.1.0.0, tt)), tt)
shorter (ex2 false Op2.Times (fun1 false Fun.ToInt c) (number_ex (pos (suc zero)))) h = h.0
shorter _ h = tt

either-way : (b : Bool) (f : Ex) → RangesFit f → Fit (if b then Some f else None)
either-way true f h = h
either-way false f h = tt

leaves-fold : {w : Fun} (e : Ex) (gs : Gens) → TruthWord w → RangesFit e → GensFit gs → (p : Option Parted) → MakesUp p gs →
    Fit (elim p [
      | None ↦ None
      | Some t ↦ if is_marked true w && (is_refined t.condition && (is_refined e && are_refined_gens t.after))
          then Some (fun1 true w (comp_ex (under_condition w t.condition (fun1 true w (comp_ex e t.after))) t.before)) else None
    ])
leaves-fold e gs v h k None m = tt
leaves-fold e gs all_hold h k (Some t) m =
    let s = first-gens t.before (cond t.condition t.after) (subst (λ x. GensFit x) m k) in
    either-way (is_marked true Fun.And && (is_refined t.condition && (is_refined e && are_refined_gens t.after))) _
    (((s.1.0, (((h, s.1.1), tt), tt)), s.0), tt)
leaves-fold e gs some_holds h k (Some t) m =
    let s = first-gens t.before (cond t.condition t.after) (subst (λ x. GensFit x) m k) in
    either-way (is_marked true Fun.Or && (is_refined t.condition && (is_refined e && are_refined_gens t.after))) _
    (((s.1.0, (((h, s.1.1), tt), tt)), s.0), tt)

leaves : {cells : Text → Option (Bool × ℕ)} {r : Names Bool} {e : Ex} → Bare cells r e true → RangesFit e → Fit (condition_leaves e)
leaves truth h = tt
leaves (named q) h = tt
leaves (cell q i) h = tt
leaves (one denied f) h = tt
leaves (two both f k) h = tt
leaves (folded {f = w} {e = e} {gs = gs} v k f) h = leaves-fold e gs v h.0.0 h.0.1 (at_last_condition gs) (made-up gs)
leaves (ordered before f k) h = tt
leaves f h = tt

-- The ranges of what one of the four rules makes have their bounds.
pub fired-fits : (cells : Text → Option (Bool × ℕ)) (r : Names Bool) (e f : Ex) (m : Bool) → Bare cells r e m → Fires e f m →
    RangesFit e → RangesFit f
fired-fits cells r e f m b (without_generators q) h = subst (λ x. Fit x) q (without e h)
fired-fits cells r e f m b (over_one_condition q) h = subst (λ x. Fit x) q (alone e h)
fired-fits cells r e f m b (as_a_condition_leaves q) h = subst (λ x. Fit x) q (leaves b h)
fired-fits cells r e f m b (as_one_choice q) h = subst (λ x. Fit x) q (shorter e h)
