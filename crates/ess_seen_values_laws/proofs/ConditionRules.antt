-- A condition that leaves a fold over views keeps it. Under `sum` nothing guards any more what is added up: of that then the number stands
-- that has a value whatever conditions hold.
use Rattle.std.proofs.Common.{◌≡◌, refl, sym, ap, ◌∙◌, subst, ℕ, Bool, true, false, ◌&&◌, if◌then◌else◌, List, [], ◌∷◌, Option, Some, None, option_map}
use Rattle.std.specs.Prelude.{IsTrue, is_some}
use Rattle.ess_semantics.specs.declared.words.Op2.{Op2}
use Rattle.ess_semantics.specs.declared.words.Fun.{Fun}
use Rattle.ess_semantics.specs.Values.{Text, Value, number, truth, item, node}
use Rattle.ess_semantics.specs.Names.{Names}
use Rattle.ess_semantics.specs.Refined.{is_refined, are_refined_gens}
use Rattle.ess_semantics.specs.Operators.{value_of_node, as_truth}
use Rattle.ess_semantics.specs.Trees.{binary, word, Ex, comp_ex, ex2, fun1, no_exs, more_exs, Gens, no_gens, cond}
use Rattle.ess_semantics.specs.Meaning.{Env, meaning, items_under, where_true}
use Rattle.ess_semantics.specs.Contexts.{AtEach, hole, in_operand, in_body, in_first}
use Rattle.ess_semantics.specs.Meets.{Meets}
use Rattle.ess_semantics.specs.Kept.{Keeps}
use Rattle.ess_semantics.proofs.Tests.{and-left, and-right}
use Rattle.ess_rules_laws.specs.Rules.{IsTruth}
use Rattle.ess_rules_laws.specs.SourceRules.{is_marked}
use Rattle.ess_rules_laws.specs.SpliceRules.{append_gens}
use Rattle.ess_rules_laws.proofs.Bindings.{at-each-map}
use Rattle.ess_rules_laws.proofs.Places.{at-each-join}
use Rattle.ess_rules_laws.proofs.SourceRules.{list-there}
use Rattle.ess_rules_laws.proofs.Folds.{folded as folded_value, fold-means}
use Rattle.ess_rules_laws.proofs.KeptUnder.{step-here}
use Rattle.ess_rules_laws.proofs.ConditionRules.{conditions-keep}
use Rattle.ess_refine_laws.specs.Everywhere.{chosen as chosen_number, everywhere, Replaces}
use Rattle.ess_refine_laws.specs.LeavingConditions.{Parted, at_last_condition, under_condition, condition_leaves}
use Rattle.ess_refine_laws.specs.AllRules.{Supply, condition}
use Rattle.ess_refine_laws.proofs.LeavingConditions.{MakesUp, made-up, inner-there, conditions-leave}
use Rattle.ess_refine_laws.proofs.RefinedTrees.{refined-met, everywhere-refined}
use Rattle.ess_values_along_laws.specs.Valued.{Valued}
use Rattle.ess_values_terms_laws.proofs.ValuedForms.{there, node-valued, word-valued}
use Rattle.ess_values_sources_laws.proofs.CollectedLists.{some-list, list-some}
use Rattle.ess_values_sources_laws.proofs.PutValues.{fold-valued, inner}
use Rattle.ess_seen_laws.proofs.ess_values_bindings_laws.BindingsKeepValues.{bindings-keep-values}
use Rattle.ess_seen_laws.specs.ess_bare_laws.Lean.{of_all, of_some, of_sum}
use Rattle.ess_seen_laws.specs.Seen.{Bound, bound_types, Seen, counted, chosen, folded, Going, where_holds}
use Rattle.ess_seen_everywhere_laws.specs.Laws.{IsFilled, SeenNumbersAreEverywhere}
use Rattle.ess_seen_values_laws.specs.Laws.{IsMet, StaysAlike}
use Rattle.ess_seen_values_laws.proofs.Tails.{append-none, Tail, tails-valued}
use Rattle.ess_seen_values_laws.proofs.Marks.{seen-mark, truth-said}
use Rattle.ess_seen_values_laws.proofs.FilledGens.{filled-behind, InTwo, in-two}

-- What generators go through, added up.
abbrev summed : Ex → Gens → Ex
summed e gs = fun1 false Fun.Sum (comp_ex e gs)

-- ---- what is chosen

-- The number that is there everywhere, times the condition as a number.
abbrev chosen_so : Ex → Ex → Ex
chosen_so c n = ex2 false Op2.Times (chosen_number c) (everywhere n)

times-there : (x y : Ex) (env : Env) → IsTrue (is_some (meaning x env)) → IsTrue (is_some (meaning y env)) →
    IsTrue (is_some (meaning (ex2 false Op2.Times x y) env))
times-there x y env h k = go (meaning x env) (meaning y env) h k
  where
    go : (o p : Option Value) → IsTrue (is_some o) → IsTrue (is_some p) →
        IsTrue (is_some (value_of_node (binary Op2.Times) (o ∷ p ∷ [])))
    go None p h k = cc
    go (Some v) None h k = cc
    go (Some v) (Some u) h k = refl

one-item : (o : Option Value) → IsTrue (is_some o) → IsTrue (is_some (option_map (λ v. v ∷ []) o))
one-item None h = h
one-item (Some v) h = refl

-- It has values where both have.
so-valued : (e c n : Ex) (hs : Gens) (env : Env) → Valued false c env → Valued false (everywhere n) env →
    Tail e (chosen_so c n) hs no_gens (chosen_so c n) no_gens env
so-valued e c n hs env v u =
    let x = word-valued false Fun.ToInt c env (λ z. refl) v in
    let t = times-there (chosen_number c) (everywhere n) env (there (chosen_number c) env x) (there (everywhere n) env u) in (
      one-item (meaning (chosen_so c n) env) t,
      node-valued false false (binary Op2.Times) (more_exs (chosen_number c) (more_exs (everywhere n) no_exs)) env refl t (x, (u, tt)),
    )

-- ---- what is there behind a condition that holds

where-there : (c : Option Value) (o : Option (List Value)) → as_truth c ≡ true → is_some (where_true c (λ u. o)) ≡ true →
    is_some o ≡ true
where-there (Some (truth true)) o t h = h
where-there (Some (truth false)) o t h = cc
where-there None o t h = cc
where-there (Some (number n)) o t h = cc
where-there (Some (item a n)) o t h = cc
where-there (Some (node a vs)) o t h = cc

both-kept : (a b c : Ex) (env : Env) → Keeps a b env → Keeps b c env → Keeps a c env
both-kept a b c env f g m = let r = f m in let s = g r.1 in (r.0 ∙ s.0, s.1)

-- ---- a sum behind a condition

module _ (e c : Ex) (hs : Gens) (re : is_refined e ≡ true) (rh : are_refined_gens hs ≡ true) where
  abbrev Behind : Ex
  Behind = fun1 false Fun.Sum (comp_ex e hs)

  behind-refined : is_refined Behind ≡ true
  behind-refined = ap (λ x. (x && are_refined_gens hs) && true) re ∙ ap (λ y. y && true) rh

  -- The items behind the generators.
  abbrev Under : Gens → Env → Option (List Value)
  Under gs here = items_under gs here (λ h. option_map (λ v. v ∷ []) (meaning e h))

  -- It is kept as the number that is chosen.
  sum-kept : (here : Env) → IsTruth (meaning c here) → Replaces (meaning Behind here) (meaning (everywhere Behind) here) →
      is_some (Under (cond c hs) here) ≡ true → Keeps (fun1 false Fun.Sum (comp_ex e (cond c hs))) (chosen_so c Behind) here
  sum-kept here t s h = conditions-keep.out_of_the_generators (everywhere Behind) (fun1 false Fun.Sum (comp_ex e (cond c hs)))
      (chosen_so c Behind) refl here (
        t,
        s.is_number,
        (λ w.
            let a = list-there (Under hs here)
            (some-list (Under hs here) (where-there (meaning c here) (Under hs here) w h)) in
            let g = fold-means false Fun.Sum refl (Under hs here) a.0 a.1 in
            s.is_same (folded_value Fun.Sum a.0) g ∙ sym g),
        refined-met (everywhere Behind) (everywhere-refined Behind behind-refined) here,
      )

-- ---- a condition that leaves

module _ (every : SeenNumbersAreEverywhere) (cells : Text → Option (Bool × List ℕ)) where
  -- What stands behind a condition.
  tested : {r u : Names Bound} {c : Ex} {hs : Gens} → Going cells r (cond c hs) u → Seen cells r c true × Going cells r hs u
  tested (where_holds f k) = (f, k)

  module _ {r u : Names Bound} {e : Ex} (seen : Seen cells u e false) (env : Env) (w : Bool) where
    module _ (before : Gens) (c : Ex) (after : Gens) (going : Going cells r (append_gens before (cond c after)) u)
        (rc : is_refined c ≡ true) (re : is_refined e ≡ true) (rh : are_refined_gens after ≡ true)
        (i : IsMet cells r (summed e (append_gens before (cond c after))) env)
        (v : Valued w (summed e (append_gens before (cond c after))) env)
      where
        abbrev Whole : Gens
        Whole = append_gens before (cond c after)

        parts : InTwo cells r before (cond c after) u
        parts = in-two cells before (cond c after) going

        holds : AtEach before env (IsFilled cells parts.around)
        holds = let m = i.met in filled-behind cells parts.before (cond c after) (Meets e) env i.holds m.0

        behind : Seen cells parts.around c true × Going cells parts.around after u
        behind = tested parts.after

        -- The sum behind the condition, as a number of the tree.
        added : Seen cells parts.around (summed e after) false
        added = folded of_sum behind.1 seen

        listed : Valued false (comp_ex e Whole) env
        listed = inner [] e Whole env false w Fun.Sum (comp_ex e Whole) v

        -- The condition has a truth value.
        condition-valued : (here : Env) → IsFilled cells parts.around here → Valued false c here
        condition-valued here f = every.truths cells parts.around c behind.0 rc here f

        is-truth : (here : Env) → IsFilled cells parts.around here → IsTruth (meaning c here)
        is-truth here f = truth-said (meaning c here) (seen-mark cells parts.around here f.typed behind.0 (refined-met c rc here))
            (there c here (condition-valued here f))

        abbrev New : Ex
        New = fun1 false Fun.Sum (comp_ex (chosen_so c (summed e after)) before)

        kept : Keeps (summed e Whole) New env
        kept =
            let y = listed in
            let l = list-there (items_under Whole env (λ h. option_map (λ v. v ∷ []) (meaning e h))) y.0 in
            let a = inner-there (cond c after) (λ h. option_map (λ v. v ∷ []) (meaning e h)) before env (ap is_some l.1) in
            both-kept (summed e Whole) (fun1 false Fun.Sum (comp_ex (summed e (cond c after)) before)) New env
            (conditions-keep.within false Fun.Sum e before (cond c after) env refl y.0)
            (step-here (in_operand false (word Fun.Sum) (in_first (in_body hole before) no_exs)) (summed e (cond c after))
            (chosen_so c (summed e after)) env
            (at-each-join before env
            (λ here. is_some (items_under (cond c after) here (λ h. option_map (λ v. v ∷ []) (meaning e h))) ≡ true)
            (IsFilled cells parts.around) (Keeps (summed e (cond c after)) (chosen_so c (summed e after)))
            (λ here h f. sum-kept e c after re rh here (is-truth here f)
            (every.serves cells parts.around (summed e after) added (behind-refined e c after re rh) here f) h) a holds))

        new-valued : Valued w New env
        new-valued =
            let y = listed in
            let n = chosen_so c (summed e after) in
            let t = tails-valued e n (cond c after) no_gens before env
            (at-each-map before env (IsFilled cells parts.around)
            (λ here. Tail e n (cond c after) no_gens e (cond c after) here → Tail e n (cond c after) no_gens n no_gens here)
            (λ here f z. so-valued e c (summed e after) (cond c after) here (condition-valued here f)
            (every.valued cells parts.around (summed e after) added (behind-refined e c after re rh) here f)) holds)
            (list-some _ y.0, y.1) in
            fold-valued [] e before env (λ z. true) (λ z. true) false w Fun.Sum (comp_ex n before) refl
            (subst (λ z. Valued false (comp_ex n z) env) (append-none before) (some-list _ t.0, t.1))

        sum-leaves : StaysAlike w (summed e Whole) New env
        sum-leaves = let k = kept i.met in record { means = k.0; met = k.1; valued = new-valued }

    -- So it is of the generators that are taken apart there.
    module _ (gs : Gens) (going : Going cells r gs u) (i : IsMet cells r (summed e gs) env) (v : Valued w (summed e gs) env) (f : Ex) where
      abbrev Left : Parted → Ex
      Left t = fun1 false Fun.Sum (comp_ex (chosen_so t.condition (summed e t.after)) t.before)

      at-parts : (t : Parted) → gs ≡ append_gens t.before (cond t.condition t.after) → is_refined t.condition ≡ true →
          is_refined e ≡ true → are_refined_gens t.after ≡ true → StaysAlike w (summed e gs) (Left t) env
      at-parts t q rc re rh =
          subst (λ z. Going cells r z u → IsMet cells r (summed e z) env → Valued w (summed e z) env →
          StaysAlike w (summed e z) (Left t) env) (sym q)
          (λ g j k. sum-leaves t.before t.condition t.after g rc re rh j k) going i v

      pub leaves : (o : Option Parted) → MakesUp o gs → elim o [
        | None ↦ None
        | Some t ↦ if is_marked false Fun.Sum && (is_refined t.condition && (is_refined e && are_refined_gens t.after))
            then Some (fun1 false Fun.Sum (comp_ex (under_condition Fun.Sum t.condition (summed e t.after)) t.before)) else None
      ] ≡ Some f → StaysAlike w (summed e gs) f env
      leaves None p q = cc
      leaves (Some t) p q = go (is_refined t.condition && (is_refined e && are_refined_gens t.after)) refl q
        where
          go : (b : Bool) → is_refined t.condition && (is_refined e && are_refined_gens t.after) ≡ b →
              (if b then Some (Left t) else None) ≡ Some f → StaysAlike w (summed e gs) f env
          go true h q =
              let k = and-right (is_refined t.condition) (is_refined e && are_refined_gens t.after) h in
              subst (λ z. StaysAlike w (summed e gs) z env) (let z : Left t ≡ f = cc in z)
              (at-parts t p (and-left (is_refined t.condition) (is_refined e && are_refined_gens t.after) h)
              (and-left (is_refined e) (are_refined_gens t.after) k) (and-right (is_refined e) (are_refined_gens t.after) k))
          go false h q = cc

  -- Under `and` and `or` nothing has to be there.
  truths-leave : (s : Supply) {r : Names Bound} (x : Fun) (e : Ex) (gs : Gens) (f : Ex) (env : Env) →
      IsMet cells r (fun1 true x (comp_ex e gs)) env → (w : Bool) → Valued w (fun1 true x (comp_ex e gs)) env →
      condition_leaves (fun1 true x (comp_ex e gs)) ≡ Some f → StaysAlike w (fun1 true x (comp_ex e gs)) f env
  truths-leave s {r = r} x e gs f env i w v q =
      let t = v.1.0 in
      let k = conditions-leave.keeps (fun1 true x (comp_ex e gs)) f q env (t.0, tt) i.met in
      record {
        means = k.0;
        met = k.1;
        valued = bindings-keep-values s (bound_types r) condition (fun1 true x (comp_ex e gs)) f q refl refl env i.met k.0 w v;
      }

  pub condition-keeps : (s : Supply) {r : Names Bound} (e f : Ex) {m : Bool} → Seen cells r e m → (env : Env) → IsMet cells r e env →
      (w : Bool) → Valued w e env → condition_leaves e ≡ Some f → StaysAlike w e f env
  condition-keeps s (fun1 k x (comp_ex e gs)) f (folded of_all g h) env i w v q = truths-leave s Fun.And e gs f env i w v q
  condition-keeps s (fun1 k x (comp_ex e gs)) f (folded of_some g h) env i w v q = truths-leave s Fun.Or e gs f env i w v q
  condition-keeps s (fun1 k x (comp_ex e gs)) f (folded of_sum g h) env i w v q =
      leaves h env w gs g i v f (at_last_condition gs) (made-up gs) q
  condition-keeps s (fun1 k x (comp_ex e gs)) f (chosen g) env i w v q = elim g [ ]
  condition-keeps s (fun1 k x (comp_ex e gs)) f (counted c) env i w v q = elim c [ ]
  condition-keeps s _ f h env i w v q = cc
