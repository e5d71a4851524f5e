-- A condition that moves behind the generators after it keeps the least and the greatest.
use Rattle.std.proofs.Common.{◌≡◌, refl, sym, ap, ◌∙◌, subst, Bool, true, false, ◌&&◌, if◌then◌else◌, List, [], ◌∷◌, ◌++◌, Option, Some, None, option_map}
use Rattle.std.specs.Prelude.{is_some}
use Rattle.ess_semantics.specs.declared.words.Fun.{Fun}
use Rattle.ess_semantics.specs.Lists.{and_then}
use Rattle.ess_semantics.specs.Values.{Text, Value, number, truth, item, node}
use Rattle.ess_semantics.specs.Trees.{word, Ex, comp_ex, fun1, Pat, name_pat, Gens, no_gens, over, from, cond, Dom, bool_dom, int_dom, name_dom}
use Rattle.ess_semantics.specs.Kinds.{is_bounded}
use Rattle.ess_semantics.specs.Refined.{is_refined, are_refined, are_refined_gens}
use Rattle.ess_semantics.specs.Operators.{list_value, value_of_node}
use Rattle.ess_semantics.specs.Meaning.{Env, bind, meaning, items_under, domain_of, members_in, with_pat, collect, where_true}
use Rattle.ess_semantics.specs.Contexts.{Each, AtEach}
use Rattle.ess_semantics.specs.Kept.{Keeps}
use Rattle.ess_semantics.specs.Substitution.{NamesAre, Binds}
use Rattle.ess_semantics.proofs.Tests.{and-left, and-right, and-both}
use Rattle.ess_rules_laws.specs.SpliceRules.{append_gens}
use Rattle.ess_rules_laws.proofs.Agreement.{outside, meaning-agree}
use Rattle.ess_rules_laws.proofs.Simulation.{any, collect-same}
use Rattle.ess_rules_laws.proofs.Splices.{bind-outside}
use Rattle.ess_rules_laws.proofs.Places.{at-each-join}
use Rattle.ess_rules_laws.proofs.RuleAnswers.{AnswerKeeps, fires, each-any}
use Rattle.ess_rules_laws.proofs.SourceRules.{list-there}
use Rattle.ess_rules_laws.proofs.Tails.{tails-congruent}
use Rattle.ess_refine_laws.specs.Everywhere.{everywhere_exs, everywhere_dom}
use Rattle.ess_refine_laws.specs.LeavingConditions.{Parted, at_last_condition}
use Rattle.ess_refine_laws.specs.ExtremeRules.{is_extreme}
use Rattle.ess_refine_laws.specs.MovingConditions.{one_later, condition_later, BoundsRead, ConditionApart, LaterApart, LaterRead, LaterFits, ConditionsMove}
use Rattle.ess_refine_laws.proofs.Everywhere.{bounded}
use Rattle.ess_refine_laws.proofs.RefinedTrees.{refined-met, gens-met, gens-refined}
use Rattle.ess_refine_laws.proofs.LeavingConditions.{MakesUp, made-up, inner-there}

-- ---- lists under a condition

-- The list without items.
abbrev no_items : Option (List Value)
no_items = Some []

-- Nothing is collected where no item gives any.
collect-none : (vs : List Value) (F : Value → Option (List Value)) → Each vs (λ v. F v ≡ Some []) → collect vs F ≡ Some []
collect-none [] F h = refl
collect-none (v ∷ vs) F h =
    ap (λ o. and_then o (λ xs. option_map (λ ys. xs ++ ys) (collect vs F))) h.0 ∙ ap (option_map (λ ys. [] ++ ys)) (collect-none vs F h.1)

-- What holds of reading on and of leaving out holds of a condition.
where-split : (P : ((Unit {0} → Option (List Value)) → Option (List Value)) → Type 0) → P (λ f. f tt) → P (λ f. Some []) →
    (o : Option Value) → P (where_true o)
where-split P y n (Some (truth true)) = y
where-split P y n (Some (truth false)) = n
where-split P y n None = n
where-split P y n (Some (number k)) = n
where-split P y n (Some (item t k)) = n
where-split P y n (Some (node t vs)) = n

-- Two conditions in either order.
swapped : (c b : Option Value) (o : Option (List Value)) →
    where_true c (λ u. where_true b (λ w. o)) ≡ where_true b (λ u. where_true c (λ w. o))
swapped c b o =
    where-split (λ W. W (λ u. where_true b (λ w. o)) ≡ where_true b (λ u. W (λ w. o))) refl
    (where-split (λ W. Some [] ≡ W (λ u. Some [])) refl refl b) c

-- A condition before a list or at each of its items, where the list is there under it.
behind-list : (c : Option Value) (o p : Option (List Value)) (F : Value → Option (List Value)) → is_some p ≡ true →
    ((vs : List Value) → o ≡ Some vs → p ≡ Some vs) → is_some (where_true c (λ u. and_then o (λ vs. collect vs F))) ≡ true →
    where_true c (λ u. and_then o (λ vs. collect vs F)) ≡ and_then p (λ vs. collect vs (λ v. where_true c (λ u. F v)))
behind-list c o p F t h =
    where-split (λ W. is_some (W (λ u. and_then o (λ vs. collect vs F))) ≡ true →
    W (λ u. and_then o (λ vs. collect vs F)) ≡ and_then p (λ vs. collect vs (λ v. W (λ u. F v)))) (read o h) (left p t) c
  where
    read : (o : Option (List Value)) → ((vs : List Value) → o ≡ Some vs → p ≡ Some vs) →
        is_some (and_then o (λ vs. collect vs F)) ≡ true → and_then o (λ vs. collect vs F) ≡ and_then p (λ vs. collect vs (λ v. F v))
    read None h q = cc
    read (Some vs) h q = sym (ap (λ z. and_then z (λ vs. collect vs (λ v. F v))) (h vs refl))

    left : (p : Option (List Value)) → is_some p ≡ true → is_some no_items ≡ true → no_items ≡ and_then p (λ vs. collect vs (λ v. no_items))
    left None t q = cc
    left (Some vs) t q = sym (collect-none vs (λ v. no_items) (each-any vs (λ v. no_items ≡ no_items) (λ v. refl)))

-- ---- one generator later

module _ (r : Text → Bool) (c : Ex) (env : Env) where
  abbrev At : Pat → Value → Env
  At p v = with_pat p v env

  -- The condition means the same behind the generator.
  same-condition : (p : Pat) (v : Value) → Binds r p → NamesAre (outside r) any c → meaning c (At p v) ≡ meaning c env
  same-condition p v b n =
      meaning-agree env.positions env.types env.cells (outside r) c env.vals (bind p v env.vals) n (bind-outside r p v env.vals b)

  abbrev Later : Gens → Gens → (Env → Option (List Value)) → Type 0
  Later gs hs k = items_under (cond c gs) env k ≡ items_under hs env k

  later-items : (gs hs : Gens) (k : Env → Option (List Value)) → one_later c gs ≡ Some hs → ConditionApart r c gs → BoundsRead gs env →
      is_some (items_under (cond c gs) env k) ≡ true → Later gs hs k
  later-items (over p d gs) hs k q n b t =
      let w = bounded d env b in
      subst (λ z. Later (over p d gs) (elim z [ None ↦ hs | Some z ↦ z ]) k) q
      (behind-list (meaning c env) (members_in (domain_of d env)) (members_in (domain_of (everywhere_dom d) env))
      (λ v. items_under gs (At p v) k) w.0 w.1 t
      ∙ each-same (members_in (domain_of (everywhere_dom d) env)))
    where
      each-same : (o : Option (List Value)) → and_then o (λ vs. collect vs (λ v. where_true (meaning c env) (λ u. items_under gs (At p v) k)))
          ≡ and_then o (λ vs. collect vs (λ v. where_true (meaning c (At p v)) (λ u. items_under gs (At p v) k)))
      each-same None = refl
      each-same (Some vs) =
          collect-same vs (λ v. where_true (meaning c env) (λ u. items_under gs (At p v) k))
          (λ v. where_true (meaning c (At p v)) (λ u. items_under gs (At p v) k))
          (λ v. ap (λ o. where_true o (λ u. items_under gs (At p v) k)) (sym (same-condition p v n.0 n.1)))
  later-items (cond b gs) hs k q n m t =
      subst (λ z. Later (cond b gs) (elim z [ None ↦ hs | Some z ↦ z ]) k) q
      (swapped (meaning c env) (meaning b env) (items_under gs env k))
  later-items no_gens hs k q n m t = cc
  later-items (from p e gs) hs k q n m t = cc

-- What comes out is refined.
later-refined : (c : Ex) (gs hs : Gens) → one_later c gs ≡ Some hs → is_refined c ≡ true → are_refined_gens gs ≡ true →
    are_refined_gens hs ≡ true
later-refined c (over p d gs) hs q rc h =
    subst (λ z. are_refined_gens (elim z [ None ↦ hs | Some z ↦ z ]) ≡ true) q (go p d h)
  where
    go : (p : Pat) (d : Dom) → are_refined_gens (over p d gs) ≡ true → are_refined_gens (over p (everywhere_dom d) (cond c gs)) ≡ true
    go (name_pat a) bool_dom h = and-both (is_refined c) (are_refined_gens gs) rc h
    go (name_pat a) (name_dom t) h = and-both (is_refined c) (are_refined_gens gs) rc h
    go (name_pat a) (int_dom rs es) h =
        let k = gens-refined (over (name_pat a) (int_dom rs es) no_gens)
        (and-both (is_bounded rs && are_refined es) true (and-left (is_bounded rs && are_refined es) (are_refined_gens gs) h) refl) in
        and-both (is_bounded rs && are_refined (everywhere_exs es)) (is_refined c && are_refined_gens gs)
        (and-left (is_bounded rs && are_refined (everywhere_exs es)) true k)
        (and-both (is_refined c) (are_refined_gens gs) rc (and-right (is_bounded rs && are_refined es) (are_refined_gens gs) h))
    go _ d h = cc
later-refined c (cond b gs) hs q rc h =
    subst (λ z. are_refined_gens (elim z [ None ↦ hs | Some z ↦ z ]) ≡ true) q
    (and-both (is_refined b) (is_refined c && are_refined_gens gs) (and-left (is_refined b) (are_refined_gens gs) h)
    (and-both (is_refined c) (are_refined_gens gs) rc (and-right (is_refined b) (are_refined_gens gs) h)))
later-refined c no_gens hs q rc h = cc
later-refined c (from p e gs) hs q rc h = cc

-- ---- the whole

abbrev Items : Ex → Gens → Env → Option (List Value)
Items e gs env = items_under gs env (λ h. option_map (λ v. v ∷ []) (meaning e h))

module _ (r : Text → Bool) (e c : Ex) (gs hs : Gens) (q : one_later c gs ≡ Some hs) (rc : is_refined c ≡ true)
    (re : is_refined e ≡ true) (rg : are_refined_gens gs ≡ true) (n : ConditionApart r c gs) where
  tail-kept : (env : Env) → is_some (Items e (cond c gs) env) ≡ true → BoundsRead gs env →
      Keeps (comp_ex e (cond c gs)) (comp_ex e hs) env
  tail-kept env t b m = (
    ap (option_map list_value) (later-items r c env gs hs (λ h. option_map (λ v. v ∷ []) (meaning e h)) q n b t),
    gens-met hs (later-refined c gs hs q rc rg) e (λ here. refined-met e re here) env,
  )

  whole-kept : (f : Fun) (bs : Gens) (env : Env) → is_some (meaning (comp_ex e (append_gens bs (cond c gs))) env) ≡ true →
      AtEach bs env (λ here. BoundsRead gs here) →
      Keeps (fun1 false f (comp_ex e (append_gens bs (cond c gs)))) (fun1 false f (comp_ex e (append_gens bs hs))) env
  whole-kept f bs env t b m =
      let l = list-there (Items e (append_gens bs (cond c gs)) env) t in
      let i = inner-there (cond c gs) (λ h. option_map (λ v. v ∷ []) (meaning e h)) bs env (ap is_some l.1) in
      let k = tails-congruent bs (cond c gs) hs e e env
      (at-each-join bs env (λ here. is_some (Items e (cond c gs) here) ≡ true) (λ here. BoundsRead gs here)
      (Keeps (comp_ex e (cond c gs)) (comp_ex e hs)) (λ here x y. tail-kept here x y) i b) m.0 in
      (ap (λ o. value_of_node (word f) (o ∷ [])) k.0, (k.1, tt))

module _ (r : Text → Bool) (e : Ex) (f : Fun) (gs : Gens) (env : Env) where
  abbrev Whole : Option Ex → Type 0
  Whole o = AnswerKeeps o (fun1 false f (comp_ex e gs)) env

  parted-answer : (o : Option Parted) → MakesUp o gs → is_some (meaning (comp_ex e gs) env) ≡ true → LaterApart r o → LaterRead o env →
      Whole (elim o [
        | None ↦ None
        | Some t ↦ if is_extreme f && (is_refined t.condition && (is_refined e && are_refined_gens t.after))
            then option_map (λ hs. fun1 false f (comp_ex e (append_gens t.before hs))) (one_later t.condition t.after) else None
      ])
  parted-answer None u v n b = tt
  parted-answer (Some t) u v n b =
      go (is_extreme f && (is_refined t.condition && (is_refined e && are_refined_gens t.after))) refl (one_later t.condition t.after) refl
    where
      go : (x : Bool) → is_extreme f && (is_refined t.condition && (is_refined e && are_refined_gens t.after)) ≡ x → (o : Option Gens) →
          one_later t.condition t.after ≡ o →
          Whole (if x then option_map (λ hs. fun1 false f (comp_ex e (append_gens t.before hs))) o else None)
      go false x o q = tt
      go true x None q = tt
      go true x (Some hs) q =
          let y = and-right (is_extreme f) (is_refined t.condition && (is_refined e && are_refined_gens t.after)) x in
          let z = and-right (is_refined t.condition) (is_refined e && are_refined_gens t.after) y in
          subst (λ g. Keeps (fun1 false f (comp_ex e g)) (fun1 false f (comp_ex e (append_gens t.before hs))) env) (sym u)
          (whole-kept r e t.condition t.after hs q (and-left (is_refined t.condition) (is_refined e && are_refined_gens t.after) y)
          (and-left (is_refined e) (are_refined_gens t.after) z) (and-right (is_refined e) (are_refined_gens t.after) z) n f t.before env
          (subst (λ g. is_some (meaning (comp_ex e g) env) ≡ true) u v) b)

later-answer : (r : Text → Bool) (e : Ex) (env : Env) → LaterFits r e env → AnswerKeeps (condition_later e) e env
later-answer r (fun1 false f (comp_ex e gs)) env h = parted-answer r e f gs env (at_last_condition gs) (made-up gs) h.0 h.1 h.2
later-answer r _ env h = tt

-- What it keeps.
pub conditions-move : ConditionsMove
conditions-move r e f q env h = fires (condition_later e) e f env (later-answer r e env h) q
