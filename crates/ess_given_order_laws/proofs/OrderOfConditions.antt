-- Conditions that leave keep comprehensions in order where order counts.
use Rattle.std.proofs.Common.{◌≡◌, refl, ap, Bool, true, false, ◌&&◌, if◌then◌else◌, ◌∷◌, map, Option, Some, None, option_map}
use Rattle.ess_semantics.specs.declared.words.Fun.{Fun}
use Rattle.ess_semantics.specs.Values.{Text}
use Rattle.ess_semantics.specs.Trees.{word, Ex, comp_ex, fun1, Gens, no_gens, over, from, cond}
use Rattle.ess_semantics.specs.Types.{Ty}
use Rattle.ess_semantics.specs.ExpressionJudgements.{forgets_order}
use Rattle.ess_semantics.specs.Refined.{is_refined, are_refined_gens}
use Rattle.ess_semantics.proofs.Tests.{and-left}
use Rattle.ess_rules_laws.specs.SourceRules.{is_marked}
use Rattle.ess_rules_laws.specs.SpliceRules.{append_gens}
use Rattle.ess_refine_laws.specs.LeavingConditions.{Parted, at_last_condition, under_condition, condition_leaves}
use Rattle.ess_refine_laws.specs.MovingConditions.{one_later, condition_later}
use Rattle.ess_refine_laws.specs.ExtremeRules.{is_extreme, are_none, either_number, extreme_condition}
use Rattle.ess_refine_laws.specs.Everywhere.{everywhere, everywhere_gens}
use Rattle.ess_given_order_laws.specs.InOrder.{Ordered, GensOrdered, InOrder}
use Rattle.ess_given_order_laws.proofs.OrderedParts.{append-order}
use Rattle.ess_given_order_laws.proofs.OrderOfListings.{of-word, worded, PartedOrder, parted-order, every-kept, every-gens}
use Rattle.ess_given_order_laws.proofs.OrderOfFolds.{Answered, marked-forgets}

extreme-forgets : (f : Fun) → is_extreme f ≡ true → forgets_order (word f) ≡ true
extreme-forgets Fun.Min q = refl
extreme-forgets Fun.Max q = refl
extreme-forgets f q = cc

module _ (u : Text → Bool) where
  abbrev A : Option Ex → Type 0
  A r = Answered u r

  -- ---- conditions that read cells

  under-kept : (f : Fun) (c e : Ex) → InOrder u c → InOrder u e → InOrder u (under_condition f c e)
  under-kept Fun.And c e h k = (refl, (h, (k, tt)))
  under-kept Fun.Or c e h k = (refl, (h, (k, tt)))
  under-kept Fun.Sum c e h k = (refl, ((refl, (h, tt)), (every-kept u e k, tt)))
  under-kept _ c e h k =
      (refl, ((refl, ((refl, (h, tt)), ((refl, (every-kept u e k, ((refl, tt), tt))), tt))), ((refl, tt), tt)))

  pub leaves : (e : Ex) → Ordered u e → A (condition_leaves e)
  leaves (fun1 b f (comp_ex e gs)) h = go (at_last_condition gs) (parted-order u gs k.1)
    where
      k : Ordered u (comp_ex e gs)
      k = of-word u (forgets_order (word f)) (comp_ex e gs) h

      fired : (t : Parted) (c : Bool) → is_marked b f && (is_refined t.condition && (is_refined e && are_refined_gens t.after)) ≡ c →
          GensOrdered u t.before × InOrder u t.condition × GensOrdered u t.after →
          A (if c then Some (fun1 b f (comp_ex (under_condition f t.condition (fun1 b f (comp_ex e t.after))) t.before)) else None)
      fired t true q p =
          let l = marked-forgets b f (and-left (is_marked b f) (is_refined t.condition && (is_refined e && are_refined_gens t.after)) q) in
          worded u b f (comp_ex (under_condition f t.condition (fun1 b f (comp_ex e t.after))) t.before) l
          (under-kept f t.condition (fun1 b f (comp_ex e t.after)) p.1 (worded u b f (comp_ex e t.after) l (k.0, p.2)), p.0)
      fired t false q p = tt

      go : (r : Option Parted) → PartedOrder u r → A (elim r [
        | None ↦ None
        | Some t ↦ if is_marked b f && (is_refined t.condition && (is_refined e && are_refined_gens t.after))
            then Some (fun1 b f (comp_ex (under_condition f t.condition (fun1 b f (comp_ex e t.after))) t.before)) else None
      ])
      go None p = tt
      go (Some t) p = fired t (is_marked b f && (is_refined t.condition && (is_refined e && are_refined_gens t.after))) refl p
  leaves _ h = tt

  later-gens : (c : Ex) (gs ks : Gens) → InOrder u c → GensOrdered u gs → GensOrdered u ks → (f : Fun) → forgets_order (word f) ≡ true →
      (e : Ex) → InOrder u e → A (option_map (λ hs. fun1 false f (comp_ex e (append_gens ks hs))) (one_later c gs))
  later-gens c no_gens ks h k l f q e j = tt
  later-gens c (over p d gs) ks h k l f q e j =
      worded u false f (comp_ex e (append_gens ks (over p _ (cond c gs)))) q (j, append-order u ks (over p _ (cond c gs)) l (h, k))
  later-gens c (from p x gs) ks h k l f q e j = tt
  later-gens c (cond b gs) ks h k l f q e j =
      worded u false f (comp_ex e (append_gens ks (cond b (cond c gs)))) q (j, append-order u ks (cond b (cond c gs)) l (k.0, (h, k.1)))

  pub later : (e : Ex) → Ordered u e → A (condition_later e)
  later (fun1 false f (comp_ex e gs)) h = go (at_last_condition gs) (parted-order u gs k.1)
    where
      k : Ordered u (comp_ex e gs)
      k = of-word u (forgets_order (word f)) (comp_ex e gs) h

      fired : (t : Parted) (c : Bool) → is_extreme f && (is_refined t.condition && (is_refined e && are_refined_gens t.after)) ≡ c →
          GensOrdered u t.before × InOrder u t.condition × GensOrdered u t.after →
          A (if c then option_map (λ hs. fun1 false f (comp_ex e (append_gens t.before hs))) (one_later t.condition t.after) else None)
      fired t true q p = later-gens t.condition t.after t.before p.1 p.2 p.0 f
          (extreme-forgets f (and-left (is_extreme f) (is_refined t.condition && (is_refined e && are_refined_gens t.after)) q)) e k.0
      fired t false q p = tt

      go : (r : Option Parted) → PartedOrder u r → A (elim r [
        | None ↦ None
        | Some t ↦ if is_extreme f && (is_refined t.condition && (is_refined e && are_refined_gens t.after))
            then option_map (λ hs. fun1 false f (comp_ex e (append_gens t.before hs))) (one_later t.condition t.after) else None
      ])
      go None p = tt
      go (Some t) p = fired t (is_extreme f && (is_refined t.condition && (is_refined e && are_refined_gens t.after))) refl p
  later _ h = tt

  pub opposed : (m : Ex) → InOrder u m → (e : Ex) → Ordered u e → A (extreme_condition m e)
  opposed m j (fun1 false f (comp_ex e gs)) h = go (at_last_condition gs) (parted-order u gs k.1)
    where
      k : Ordered u (comp_ex e gs)
      k = of-word u (forgets_order (word f)) (comp_ex e gs) h

      fired : (t : Parted) (c : Bool) → (is_extreme f && are_none t.after) && (is_refined t.condition && (is_refined e && (is_refined m
          && are_refined_gens t.before))) ≡ c → GensOrdered u t.before × InOrder u t.condition × GensOrdered u t.after →
          A (if c then Some (fun1 false f (comp_ex (either_number t.condition (everywhere e) m) (everywhere_gens t.before))) else None)
      fired t true q p =
          let l = extreme-forgets f (and-left (is_extreme f) (are_none t.after) (and-left (is_extreme f && are_none t.after)
          (is_refined t.condition && (is_refined e && (is_refined m && are_refined_gens t.before))) q)) in
          worded u false f (comp_ex (either_number t.condition (everywhere e) m) (everywhere_gens t.before)) l (
            (
              refl,
              (
                (refl, ((refl, (p.1, tt)), (every-kept u e k.0, tt))),
                ((refl, ((refl, ((refl, (p.1, tt)), tt)), (j, tt))), tt),
              ),
            ),
            every-gens u t.before p.0,
          )
      fired t false q p = tt

      go : (r : Option Parted) → PartedOrder u r → A (elim r [
        | None ↦ None
        | Some t ↦ if (is_extreme f && are_none t.after) && (is_refined t.condition && (is_refined e && (is_refined m
            && are_refined_gens t.before)))
            then Some (fun1 false f (comp_ex (either_number t.condition (everywhere e) m) (everywhere_gens t.before))) else None
      ])
      go None p = tt
      go (Some t) p = fired t ((is_extreme f && are_none t.after) && (is_refined t.condition && (is_refined e && (is_refined m
          && are_refined_gens t.before)))) refl p
  opposed m j _ h = tt
