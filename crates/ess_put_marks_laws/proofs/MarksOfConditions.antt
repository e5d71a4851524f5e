-- Rules of conditions that read cells keep marks.
use Rattle.std.proofs.Common.{◌≡◌, refl, sym, subst, Bool, true, false, not, ◌&&◌, if◌then◌else◌, Option, Some, None, option_map}
use Rattle.ess_semantics.specs.declared.words.Fun.{Fun}
use Rattle.ess_semantics.specs.Names.{Names}
use Rattle.ess_semantics.specs.Trees.{Ex, comp_ex, fun1, Gens, no_gens, over, from, cond}
use Rattle.ess_semantics.specs.Types.{Ty, type_of_dom, bind_types}
use Rattle.ess_semantics.specs.Typing.{source_ty}
use Rattle.ess_semantics.specs.NamesAt.{names_behind}
use Rattle.ess_semantics.specs.Refined.{is_refined, are_refined_gens}
use Rattle.ess_semantics.proofs.Tests.{and-left}
use Rattle.ess_rules_laws.specs.SourceRules.{is_marked}
use Rattle.ess_rules_laws.specs.SpliceRules.{append_gens}
use Rattle.ess_refine_laws.specs.Everywhere.{everywhere, everywhere_gens, everywhere_dom}
use Rattle.ess_refine_laws.specs.LeavingConditions.{Parted, at_last_condition, under_condition, condition_leaves}
use Rattle.ess_refine_laws.specs.MovingConditions.{one_later, condition_later}
use Rattle.ess_refine_laws.specs.ExtremeRules.{is_extreme, are_none, either_number, extreme_condition}
use Rattle.ess_refine_laws.specs.AllRules.{Rule, condition, condition_behind, least_under_a_condition, Supply, opposite_copied, rewrite}
use Rattle.ess_refine_laws.specs.MarksStay.{HasMarks, GensHaveMarks}
use Rattle.ess_refine_laws.proofs.LeavingConditions.{MakesUp, made-up}
use Rattle.ess_refine_types_laws.proofs.MarksBehind.{marks-same}
use Rattle.ess_rules_types_laws.proofs.PutListed.{past-pattern}
use Rattle.ess_rules_types_laws.proofs.EverywhereTyped.{dom-everywhere}
use Rattle.ess_rules_marks_laws.proofs.Grows.{Grows, as_it_is, a_node, a_comp, none_grow, more_grow, GensGrow, over_grows, from_grows, cond_grows, gens-are, MarksGrow, grows-when, grown}
use Rattle.ess_put_marks_laws.specs.MarksOfConditions.{is_of_conditions, BoundsNumbers, LeavesBounds, StaysMarked, LaterMarked, OppositeMarked, ConditionsMarked, ConditionRulesKeepMarks}
use Rattle.ess_put_marks_laws.proofs.MarksOfListed.{append-behind, before-marks}
use Rattle.ess_put_marks_laws.proofs.MarksOfTerms.{fold-fit, extreme-fit}
use Rattle.ess_put_marks_laws.proofs.EverywhereMarked.{behind-everywhere, number-grows, list-grows, gens-grow, dom-grows}

-- Marked generators before others.
append-grows : (ks hs : Gens) (g : Names Ty) → GensHaveMarks ks g → GensGrow (names_behind ks g) hs → GensGrow g (append_gens ks hs)
append-grows no_gens hs g h k = k
append-grows (over p d ks) hs g h k = over_grows h.0 (append-grows ks hs (bind_types p (type_of_dom d) g) h.1 k)
append-grows (from p e ks) hs g h k = from_grows (as_it_is h.1) (append-grows ks hs (bind_types p (source_ty e g) g) h.2 k)
append-grows (cond e ks) hs g h k = cond_grows (as_it_is h.0) (append-grows ks hs g h.1 k)

-- The marks of a comprehension at a condition.
record AtCondition (g : Names Ty) (e : Ex) (t : Parted) : Type 0 where
  before : GensHaveMarks t.before g
  test : HasMarks t.condition (names_behind t.before g)
  after : GensHaveMarks t.after (names_behind t.before g)
  body : HasMarks e (names_behind t.after (names_behind t.before g))

at-condition : (g : Names Ty) (e : Ex) (gs : Gens) (t : Parted) → gs ≡ append_gens t.before (cond t.condition t.after) →
    HasMarks (comp_ex e gs) g → AtCondition g e t
at-condition g e gs t u h =
    let r = before-marks t.before (cond t.condition t.after) g (subst (λ z. GensHaveMarks z g) u h.0) in record {
      before = r.0;
      test = r.1.0;
      after = r.1.1;
      body = subst (HasMarks e) (append-behind t.before (cond t.condition t.after) g) (subst (λ z. HasMarks e (names_behind z g)) u h.1);
    }

module _ (g : Names Ty) where
  -- ---- a condition leaves

  -- What is folded under the condition.
  under-grows : (m : Bool) (f : Fun) → is_marked m f ≡ true → (e c : Ex) (hs : Gens) (k : Names Ty) → BoundsNumbers (comp_ex e hs) k →
      HasMarks c k → HasMarks (comp_ex e hs) k → Grows k (under_condition f c (fun1 m f (comp_ex e hs)))
  under-grows true Fun.And i e c hs k b mc h =
      a_node refl (more_grow (as_it_is mc) (more_grow (a_node refl (more_grow (as_it_is h) none_grow)) none_grow))
  under-grows true Fun.Or i e c hs k b mc h =
      a_node refl (more_grow (as_it_is mc) (more_grow (a_node refl (more_grow (as_it_is h) none_grow)) none_grow))
  under-grows false Fun.Sum i e c hs k b mc h = a_node refl (more_grow (a_node refl (more_grow (as_it_is mc) none_grow))
      (more_grow (a_node refl (more_grow (list-grows (comp_ex e hs) k b h) none_grow)) none_grow))
  under-grows false Fun.Product i e c hs k b mc h = a_node refl (more_grow (a_node refl (more_grow (a_node refl (more_grow
      (as_it_is mc) none_grow))
      (more_grow (a_node refl (more_grow (a_node refl (more_grow (list-grows (comp_ex e hs) k b h) none_grow)) (more_grow
      (as_it_is tt) none_grow)))
      none_grow))) (more_grow (as_it_is tt) none_grow))
  under-grows true _ i e c hs k b mc h = cc
  under-grows false _ i e c hs k b mc h = cc

  pub leaves : (e : Ex) (m : Bool) (f : Fun) (gs : Gens) → LeavesBounds g e (at_last_condition gs) →
      MarksGrow g (fun1 m f (comp_ex e gs)) (condition_leaves (fun1 m f (comp_ex e gs)))
  leaves e m f gs n = go (at_last_condition gs) (made-up gs) n
    where
      go : (o : Option Parted) → MakesUp o gs → LeavesBounds g e o → MarksGrow g (fun1 m f (comp_ex e gs)) (elim o [
        | None ↦ None
        | Some t ↦ if is_marked m f && (is_refined t.condition && (is_refined e && are_refined_gens t.after))
            then Some (fun1 m f (comp_ex (under_condition f t.condition (fun1 m f (comp_ex e t.after))) t.before)) else None
      ])
      go None u n = tt
      go (Some t) u n = grows-when g (is_marked m f && (is_refined t.condition && (is_refined e && are_refined_gens t.after)))
          (fun1 m f (comp_ex e gs)) (fun1 m f (comp_ex (under_condition f t.condition (fun1 m f (comp_ex e t.after))) t.before)) (λ c h.
          let i = and-left (is_marked m f) (is_refined t.condition && (is_refined e && are_refined_gens t.after)) c in
          let a = at-condition g e gs t u h.1.0 in
          a_node (fold-fit m f i) (more_grow (a_comp (gens-are g t.before a.before)
          (under-grows m f i e t.condition t.after (names_behind t.before g) n a.test (a.after, a.body))) none_grow))

  -- ---- a condition moves

  yes-not : (b : Bool) → not b ≡ true → b ≡ false
  yes-not true h = cc
  yes-not false h = refl

  -- The generators once the condition has moved, and the names behind them.
  moved : (k : Names Ty) (hs ks : Gens) (c e : Ex) → StaysMarked k c hs → one_later c hs ≡ Some ks → HasMarks c k → GensHaveMarks hs k →
      HasMarks e (names_behind hs k) → GensGrow k ks × HasMarks e (names_behind ks k)
  moved k (over p d hs) ks c e n q mc mh me =
      let i : over p (everywhere_dom d) (cond c hs) ≡ ks = cc in
      let past : HasMarks c (bind_types p (type_of_dom d) k) = marks-same (λ a. not (n.0 a)) c k (bind_types p (type_of_dom d) k) n.2
      (λ a z. sym (past-pattern n.0 p (type_of_dom d) k a n.1 (yes-not (n.0 a) z))) mc in
      let rest : GensGrow (bind_types p (type_of_dom d) k) (cond c hs) =
      cond_grows (as_it_is past) (gens-are (bind_types p (type_of_dom d) k) hs mh.1) in
      subst (λ z. GensGrow k z × HasMarks e (names_behind z k)) i (
        over_grows (dom-grows d k n.3 mh.0) (subst (λ t. GensGrow (bind_types p t k) (cond c hs)) (sym (dom-everywhere d)) rest),
        subst (λ t. HasMarks e (names_behind hs (bind_types p t k))) (sym (dom-everywhere d)) me,
      )
  moved k (cond a hs) ks c e n q mc mh me =
      let i : cond a (cond c hs) ≡ ks = cc in
      subst (λ z. GensGrow k z × HasMarks e (names_behind z k)) i
      (cond_grows (as_it_is mh.0) (cond_grows (as_it_is mc) (gens-are k hs mh.1)), me)
  moved k (from p a hs) ks c e n q mc mh me = cc
  moved k no_gens ks c e n q mc mh me = cc

  pub later : (e : Ex) (f : Fun) (gs : Gens) → LaterMarked g (at_last_condition gs) →
      MarksGrow g (fun1 false f (comp_ex e gs)) (condition_later (fun1 false f (comp_ex e gs)))
  later e f gs n = go (at_last_condition gs) (made-up gs) n
    where
      root : Ex
      root = fun1 false f (comp_ex e gs)

      moves : (t : Parted) → is_extreme f ≡ true → gs ≡ append_gens t.before (cond t.condition t.after) →
          StaysMarked (names_behind t.before g) t.condition t.after → (o : Option Gens) → one_later t.condition t.after ≡ o →
          MarksGrow g root (option_map (λ hs. fun1 false f (comp_ex e (append_gens t.before hs))) o)
      moves t x u n None i = tt
      moves t x u n (Some ks) i = λ h.
          let a = at-condition g e gs t u h.1.0 in
          let r = moved (names_behind t.before g) t.after ks t.condition e n i a.test a.after a.body in
          a_node (extreme-fit f x) (more_grow (a_comp (append-grows t.before ks g a.before r.0)
          (as_it_is (subst (HasMarks e) (sym (append-behind t.before ks g)) r.1))) none_grow)

      under : (c : Bool) (r : Option Ex) → (c ≡ true → MarksGrow g root r) → MarksGrow g root (if c then r else None)
      under true r h = h refl
      under false r h = tt

      go : (o : Option Parted) → MakesUp o gs → LaterMarked g o → MarksGrow g root (elim o [
        | None ↦ None
        | Some t ↦ if is_extreme f && (is_refined t.condition && (is_refined e && are_refined_gens t.after))
            then option_map (λ hs. fun1 false f (comp_ex e (append_gens t.before hs))) (one_later t.condition t.after) else None
      ])
      go None u n = tt
      go (Some t) u n = under (is_extreme f && (is_refined t.condition && (is_refined e && are_refined_gens t.after)))
          (option_map (λ hs. fun1 false f (comp_ex e (append_gens t.before hs))) (one_later t.condition t.after)) (λ c.
          moves t (and-left (is_extreme f) (is_refined t.condition && (is_refined e && are_refined_gens t.after)) c) u n
          (one_later t.condition t.after) refl)

  -- ---- the least under a condition

  either-grows : (k : Names Ty) (c n m : Ex) → HasMarks c k → Grows k n → HasMarks m k → Grows k (either_number c n m)
  either-grows k c n m mc j mm = a_node refl (more_grow (a_node refl (more_grow (a_node refl (more_grow (as_it_is mc) none_grow))
      (more_grow j none_grow))) (more_grow (a_node refl (more_grow (a_node refl (more_grow (a_node refl (more_grow (as_it_is mc) none_grow))
      none_grow)) (more_grow (as_it_is mm) none_grow))) none_grow))

  pub least-under : (m e : Ex) (f : Fun) (gs : Gens) → OppositeMarked g m e (at_last_condition gs) →
      MarksGrow g (fun1 false f (comp_ex e gs)) (extreme_condition m (fun1 false f (comp_ex e gs)))
  least-under m e f gs n = go (at_last_condition gs) (made-up gs) n
    where
      built : (t : Parted) → is_extreme f ≡ true → are_none t.after ≡ true → OppositeMarked g m e (Some t) → AtCondition g e t →
          Grows g (fun1 false f (comp_ex (either_number t.condition (everywhere e) m) (everywhere_gens t.before)))
      built t x y n a = a_node (extreme-fit f x) (more_grow (a_comp (gens-grow t.before g n.1 a.before)
          (subst (λ k. Grows k (either_number t.condition (everywhere e) m)) (sym (behind-everywhere t.before g))
          (either-grows (names_behind t.before g) t.condition (everywhere e) m a.test
          (number-grows e (names_behind t.before g) n.2 (item t.after y a.body)) n.0))) none_grow)
        where
          item : (hs : Gens) → are_none hs ≡ true → HasMarks e (names_behind hs (names_behind t.before g)) →
              HasMarks e (names_behind t.before g)
          item no_gens y h = h
          item (over p d hs) y h = cc
          item (from p c hs) y h = cc
          item (cond c hs) y h = cc

      go : (o : Option Parted) → MakesUp o gs → OppositeMarked g m e o → MarksGrow g (fun1 false f (comp_ex e gs)) (elim o [
        | None ↦ None
        | Some t ↦ if (is_extreme f && are_none t.after) && (is_refined t.condition && (is_refined e && (is_refined m
            && are_refined_gens t.before)))
            then Some (fun1 false f (comp_ex (either_number t.condition (everywhere e) m) (everywhere_gens t.before))) else None
      ])
      go None u n = tt
      go (Some t) u n = grows-when g ((is_extreme f && are_none t.after) && (is_refined t.condition && (is_refined e && (is_refined m
          && are_refined_gens t.before)))) (fun1 false f (comp_ex e gs))
          (fun1 false f (comp_ex (either_number t.condition (everywhere e) m) (everywhere_gens t.before))) (λ c h.
          let d = and-left (is_extreme f && are_none t.after) (is_refined t.condition && (is_refined e && (is_refined m
          && are_refined_gens t.before))) c in
          built t (and-left (is_extreme f) (are_none t.after) d) (right (is_extreme f) (are_none t.after) d) n
          (at-condition g e gs t u h.1.0))
        where
          right : (x y : Bool) → x && y ≡ true → y ≡ true
          right true y h = h
          right false y h = cc

module _ (s : Supply) (g : Names Ty) where
  leaving : (e : Ex) → ConditionsMarked s g condition e → MarksGrow g e (condition_leaves e)
  leaving (fun1 m f (comp_ex e gs)) h = leaves g e m f gs h
  leaving _ h = tt

  moving : (e : Ex) → ConditionsMarked s g condition_behind e → MarksGrow g e (condition_later e)
  moving (fun1 false f (comp_ex e gs)) h = later g e f gs h
  moving _ h = tt

  leasting : (e : Ex) → ConditionsMarked s g least_under_a_condition e → MarksGrow g e (extreme_condition (opposite_copied s e) e)
  leasting (fun1 false f (comp_ex e gs)) h = least-under g (opposite_copied s (fun1 false f (comp_ex e gs))) e f gs h
  leasting _ h = tt

  each-grows : (r : Rule) (e : Ex) → is_of_conditions r ≡ true → ConditionsMarked s g r e → MarksGrow g e (rewrite s g r e)
  each-grows condition e k h = leaving e h
  each-grows condition_behind e k h = moving e h
  each-grows least_under_a_condition e k h = leasting e h
  each-grows _ e k h = cc

-- Marks stay.
pub condition-rules-keep-marks : ConditionRulesKeepMarks
condition-rules-keep-marks s g r e f q k h t i m = grown g f (subst (λ z. MarksGrow g e z) q (each-grows s g r e k h) m) t i
