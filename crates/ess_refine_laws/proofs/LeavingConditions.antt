-- A condition that leaves the generators of a fold for its body keeps the fold.
use Rattle.std.proofs.Common.{◌≡◌, refl, sym, ap, ◌∙◌, subst, Bool, true, false, ◌&&◌, if◌then◌else◌, List, [], ◌∷◌, ◌++◌, Option, Some, None, option_map}
use Rattle.std.specs.Prelude.{is_some}
use Rattle.ess_semantics.specs.declared.words.Fun.{Fun}
use Rattle.ess_semantics.specs.Lists.{and_then}
use Rattle.ess_semantics.specs.Values.{Value, number, truth, item, node, items_of}
use Rattle.ess_semantics.specs.Trees.{word, Ex, comp_ex, fun1, no_exs, Gens, no_gens, over, from, cond}
use Rattle.ess_semantics.specs.Occurrences.{has_cells}
use Rattle.ess_semantics.specs.Refined.{is_refined, are_refined_gens}
use Rattle.ess_semantics.specs.Operators.{list_value, as_truth}
use Rattle.ess_semantics.specs.Meaning.{Env, meaning, items_under, domain_of, members_in, with_pat, collect, where_true}
use Rattle.ess_semantics.specs.Contexts.{Each, EachOf, EachIn, AtEach, hole, in_operand, in_body, in_first}
use Rattle.ess_semantics.specs.Meets.{Meets}
use Rattle.ess_semantics.specs.Kept.{Keeps}
use Rattle.ess_semantics.proofs.Tests.{and-left, and-right}
use Rattle.ess_rules_laws.specs.Rules.{IsTruth}
use Rattle.ess_rules_laws.specs.SourceRules.{is_marked}
use Rattle.ess_rules_laws.specs.SpliceRules.{append_gens}
use Rattle.ess_rules_laws.specs.ConditionRules.{ConditionFits}
use Rattle.ess_rules_laws.proofs.Bindings.{at-each-map}
use Rattle.ess_rules_laws.proofs.Places.{at-each-join}
use Rattle.ess_rules_laws.proofs.RuleAnswers.{AnswerKeeps, fires, when-so, each-any, each-in-any}
use Rattle.ess_rules_laws.proofs.SourceRules.{list-there}
use Rattle.ess_rules_laws.proofs.Folds.{folded, fold-means}
use Rattle.ess_rules_laws.proofs.KeptUnder.{step-here}
use Rattle.ess_rules_laws.proofs.ConditionRules.{conditions-keep}
use Rattle.ess_refine_laws.specs.Everywhere.{everywhere, ReadsNumbers}
use Rattle.ess_refine_laws.specs.LeavingConditions.{Parted, with_before, at_last_condition, under_condition, condition_leaves, NumbersRead, LeavesFits, ConditionsLeave}
use Rattle.ess_refine_laws.proofs.Everywhere.{everywhere-serves}
use Rattle.ess_refine_laws.proofs.RefinedTrees.{refined-met, everywhere-refined}

-- ---- the generators, taken apart

-- The parts of generators make them up.
abbrev pub MakesUp : Option Parted → Gens → Type 0
MakesUp None gs = Unit {0}
MakesUp (Some t) gs = gs ≡ append_gens t.before (cond t.condition t.after)

made-up-behind : (f : Gens → Gens) → ((gs hs : Gens) → append_gens (f gs) hs ≡ f (append_gens gs hs)) → (o : Option Parted) (gs : Gens) →
    MakesUp o gs → MakesUp (option_map (with_before f) o) (f gs)
made-up-behind f h None gs m = tt
made-up-behind f h (Some t) gs m = ap f m ∙ sym (h t.before (cond t.condition t.after))

pub made-up : (gs : Gens) → MakesUp (at_last_condition gs) gs
made-up no_gens = tt
made-up (over p d gs) = made-up-behind (over p d) (λ gs hs. refl) (at_last_condition gs) gs (made-up gs)
made-up (from p e gs) = made-up-behind (from p e) (λ gs hs. refl) (at_last_condition gs) gs (made-up gs)
made-up (cond c gs) = go (at_last_condition gs) (made-up gs)
  where
    last : (b : Bool) → MakesUp (if b then Some (record { before = no_gens; condition = c; after = gs }) else None) (cond c gs)
    last true = refl
    last false = tt

    go : (o : Option Parted) → MakesUp o gs → MakesUp (elim o [
      | Some t ↦ Some (with_before (cond c) t)
      | None ↦ if has_cells c then Some (record { before = no_gens; condition = c; after = gs }) else None
    ]) (cond c gs)
    go None m = last (has_cells c)
    go (Some t) m = ap (cond c) m

-- ---- where the whole list is there, the inner lists are

module _ (hs : Gens) (k : Env → Option (List Value)) where
  each-there : (vs : List Value) (F : Value → Option (List Value)) (P : Value → Type 0) → ((v : Value) → is_some (F v) ≡ true → P v) →
      is_some (collect vs F) ≡ true → Each vs P
  each-there [] F P f h = tt
  each-there (v ∷ vs) F P f h = go (F v) (collect vs F) refl refl h (λ t. each-there vs F P f t)
    where
      go : (o p : Option (List Value)) → F v ≡ o → collect vs F ≡ p →
          is_some (and_then o (λ xs. option_map (λ ys. xs ++ ys) p)) ≡ true → (is_some (collect vs F) ≡ true → Each vs P) →
          P v × Each vs P
      go None p a b t r = cc
      go (Some xs) None a b t r = cc
      go (Some xs) (Some ys) a b t r = (f v (ap is_some a), r (ap is_some b))

  over-there : (o : Option (List Value)) (F : Value → Option (List Value)) (P : Value → Type 0) →
      ((v : Value) → is_some (F v) ≡ true → P v) → is_some (and_then o (λ vs. collect vs F)) ≡ true → EachOf o P
  over-there None F P f h = tt
  over-there (Some vs) F P f h = each-there vs F P f h

  from-there : (o : Option Value) (F : Value → Option (List Value)) (P : Value → Type 0) →
      ((v : Value) → is_some (F v) ≡ true → P v) → is_some (and_then o (λ s. collect (items_of s) F)) ≡ true → EachIn o P
  from-there None F P f h = tt
  from-there (Some s) F P f h = each-there (items_of s) F P f h

  where-there : (c : Option Value) (o : Option (List Value)) → as_truth c ≡ true → is_some (where_true c (λ u. o)) ≡ true → is_some o ≡ true
  where-there (Some (truth true)) o t h = h
  where-there (Some (truth false)) o t h = cc
  where-there None o t h = cc
  where-there (Some (number n)) o t h = cc
  where-there (Some (item a n)) o t h = cc
  where-there (Some (node a vs)) o t h = cc

  -- At each binding of the first generators.
  pub inner-there : (gs : Gens) (env : Env) → is_some (items_under (append_gens gs hs) env k) ≡ true →
      AtEach gs env (λ here. is_some (items_under hs here k) ≡ true)
  inner-there no_gens env h = h
  inner-there (over p d gs) env h =
      over-there (members_in (domain_of d env)) _ _ (λ v t. inner-there gs (with_pat p v env) t) h
  inner-there (from p e gs) env h = from-there (meaning e env) _ _ (λ v t. inner-there gs (with_pat p v env) t) h
  inner-there (cond c gs) env h = λ t. inner-there gs env (where-there (meaning c env) _ t h)

-- ---- the body

-- A fold over a condition has its parts there: it is kept as its body under the condition.
module _ (e c : Ex) (hs : Gens) (re : is_refined e ≡ true) (rh : are_refined_gens hs ≡ true) (here : Env) where
  abbrev Items : Option (List Value)
  Items = items_under hs here (λ h. option_map (λ v. v ∷ []) (meaning e h))

  behind-there : as_truth (meaning c here) ≡ true →
      is_some (items_under (cond c hs) here (λ h. option_map (λ v. v ∷ []) (meaning e h))) ≡ true → is_some Items ≡ true
  behind-there t h = where-there hs (λ h. None) (meaning c here) Items t h

  -- The number of the fold that is there everywhere is met.
  number-met : (f : Fun) → is_marked false f ≡ true → Meets (everywhere (fun1 false f (comp_ex e hs))) here
  number-met f q = refined-met (everywhere (fun1 false f (comp_ex e hs))) (everywhere-refined (fun1 false f (comp_ex e hs)) (go f q)) here
    where
      go : (f : Fun) → is_marked false f ≡ true → is_refined (fun1 false f (comp_ex e hs)) ≡ true
      go Fun.Sum q = ap (λ x. (x && are_refined_gens hs) && true) re ∙ ap (λ y. y && true) rh
      go Fun.Product q = ap (λ x. (x && are_refined_gens hs) && true) re ∙ ap (λ y. y && true) rh
      go _ q = cc

  number-fits : (f : Fun) → is_marked false f ≡ true → IsTruth (meaning c here) → ReadsNumbers (fun1 false f (comp_ex e hs)) here →
      is_some (items_under (cond c hs) here (λ h. option_map (λ v. v ∷ []) (meaning e h))) ≡ true →
      ConditionFits (everywhere (fun1 false f (comp_ex e hs))) (fun1 false f (comp_ex e (cond c hs))) here
  number-fits f q t r h =
      let s = everywhere-serves (fun1 false f (comp_ex e hs)) here r in (
        t,
        s.is_number,
        (λ w.
            let a = list-there Items (some-list Items (behind-there w h)) in
            let g = fold-means false f q Items a.0 a.1 in
            s.is_same (folded f a.0) g ∙ sym g),
        number-met f q,
      )
    where
      some-list : (o : Option (List Value)) → is_some o ≡ true → is_some (option_map list_value o) ≡ true
      some-list None e = cc
      some-list (Some xs) e = refl

  -- The fold over the condition is kept.
  body-kept : (m : Bool) (f : Fun) → is_marked m f ≡ true →
      is_some (items_under (cond c hs) here (λ h. option_map (λ v. v ∷ []) (meaning e h))) ≡ true →
      (m ≡ false → IsTruth (meaning c here) × ReadsNumbers (fun1 m f (comp_ex e hs)) here) →
      Keeps (fun1 m f (comp_ex e (cond c hs))) (under_condition f c (fun1 m f (comp_ex e hs))) here
  body-kept true Fun.And q h n =
      conditions-keep.out_of_the_generators c (fun1 true Fun.And (comp_ex e (cond c hs)))
      (under_condition Fun.And c (fun1 true Fun.And (comp_ex e hs))) refl here tt
  body-kept true Fun.Or q h n =
      conditions-keep.out_of_the_generators c (fun1 true Fun.Or (comp_ex e (cond c hs)))
      (under_condition Fun.Or c (fun1 true Fun.Or (comp_ex e hs))) refl here tt
  body-kept false Fun.Sum q h n =
      conditions-keep.out_of_the_generators (everywhere (fun1 false Fun.Sum (comp_ex e hs)))
      (fun1 false Fun.Sum (comp_ex e (cond c hs))) (under_condition Fun.Sum c (fun1 false Fun.Sum (comp_ex e hs))) refl here
      (number-fits Fun.Sum q (n refl).0 (n refl).1 h)
  body-kept false Fun.Product q h n =
      conditions-keep.out_of_the_generators (everywhere (fun1 false Fun.Product (comp_ex e hs)))
      (fun1 false Fun.Product (comp_ex e (cond c hs))) (under_condition Fun.Product c (fun1 false Fun.Product (comp_ex e hs))) refl here
      (number-fits Fun.Product q (n refl).0 (n refl).1 h)
  body-kept _ _ q h n = cc

-- ---- the whole

kept-both : (a b c : Ex) (env : Env) → Keeps a b env → Keeps b c env → Keeps a c env
kept-both a b c env f g m = let r = f m in let s = g r.1 in (r.0 ∙ s.0, s.1)

-- What is read at each binding before the condition.
abbrev Read : Bool → Fun → Ex → Ex → Gens → Env → Type 0
Read m f e c hs here = m ≡ false → IsTruth (meaning c here) × ReadsNumbers (fun1 m f (comp_ex e hs)) here

pub all-bindings : (gs : Gens) (env : Env) (P : Env → Type 0) → ((here : Env) → P here) → AtEach gs env P
all-bindings no_gens env P h = h env
all-bindings (over p d gs) env P h = of-any (members_in (domain_of d env)) _ (λ v. all-bindings gs (with_pat p v env) P h)
  where
    of-any : (o : Option (List Value)) (Q : Value → Type 0) → ((v : Value) → Q v) → EachOf o Q
    of-any None Q f = tt
    of-any (Some vs) Q f = each-any vs Q f
all-bindings (from p e gs) env P h = each-in-any (meaning e env) _ (λ v. all-bindings gs (with_pat p v env) P h)
all-bindings (cond c gs) env P h = λ t. all-bindings gs env P h

read-at-each : (m : Bool) (f : Fun) (e : Ex) (t : Parted) (env : Env) → NumbersRead m f e (Some t) env →
    AtEach t.before env (Read m f e t.condition t.after)
read-at-each true f e t env n = all-bindings t.before env (Read true f e t.condition t.after) (λ here q. absurd (let z : true ≡ false =
    q in never z))
  where
    never : true ≡ false → ⊥
    never z = cc
read-at-each false f e t env n = at-each-map t.before env
    (λ here. IsTruth (meaning t.condition here) × ReadsNumbers (fun1 false f (comp_ex e t.after)) here) (Read false f e t.condition t.after)
    (λ here k q. k) n

module _ (m : Bool) (f : Fun) (e : Ex) (gs : Gens) (env : Env) where
  parted-kept : (t : Parted) → is_marked m f ≡ true → gs ≡ append_gens t.before (cond t.condition t.after) → is_refined e ≡ true →
      are_refined_gens t.after ≡ true → is_some (meaning (comp_ex e gs) env) ≡ true → NumbersRead m f e (Some t) env →
      Keeps (fun1 m f (comp_ex e gs)) (fun1 m f (comp_ex (under_condition f t.condition (fun1 m f (comp_ex e t.after))) t.before)) env
  parted-kept t q u re rh v n =
      let w = subst (λ hs. is_some (meaning (comp_ex e hs) env) ≡ true) u v in
      let l = list-there (items_under (append_gens t.before (cond t.condition t.after)) env (λ h. option_map (λ v. v ∷ [])
      (meaning e h))) w in
      let i = inner-there (cond t.condition t.after) (λ h. option_map (λ v. v ∷ []) (meaning e h)) t.before env (ap is_some l.1) in
      subst (λ hs. Keeps (fun1 m f (comp_ex e hs)) (fun1 m f (comp_ex (under_condition f t.condition (fun1 m f
      (comp_ex e t.after))) t.before)) env)
      (sym u)
      (kept-both (fun1 m f (comp_ex e (append_gens t.before (cond t.condition t.after))))
      (fun1 m f (comp_ex (fun1 m f (comp_ex e (cond t.condition t.after))) t.before))
      (fun1 m f (comp_ex (under_condition f t.condition (fun1 m f (comp_ex e t.after))) t.before)) env
      (conditions-keep.within m f e t.before (cond t.condition t.after) env q w)
      (step-here (in_operand m (word f) (in_first (in_body hole t.before) no_exs)) (fun1 m f (comp_ex e (cond t.condition t.after)))
      (under_condition f t.condition (fun1 m f (comp_ex e t.after))) env
      (at-each-join t.before env
      (λ here. is_some (items_under (cond t.condition t.after) here (λ h. option_map (λ v. v ∷ []) (meaning e h))) ≡ true)
      (Read m f e t.condition t.after)
      (Keeps (fun1 m f (comp_ex e (cond t.condition t.after))) (under_condition f t.condition (fun1 m f (comp_ex e t.after))))
      (λ here a b. body-kept e t.condition t.after re rh here m f q a b) i (read-at-each m f e t env n))))

  parted-answer : (o : Option Parted) → MakesUp o gs → is_some (meaning (comp_ex e gs) env) ≡ true → NumbersRead m f e o env →
      AnswerKeeps (elim o [
        | None ↦ None
        | Some t ↦ if is_marked m f && (is_refined t.condition && (is_refined e && are_refined_gens t.after))
            then Some (fun1 m f (comp_ex (under_condition f t.condition (fun1 m f (comp_ex e t.after))) t.before)) else None
      ]) (fun1 m f (comp_ex e gs)) env
  parted-answer None u v n = tt
  parted-answer (Some t) u v n = when-so (is_marked m f && (is_refined t.condition && (is_refined e && are_refined_gens t.after)))
      (fun1 m f (comp_ex (under_condition f t.condition (fun1 m f (comp_ex e t.after))) t.before)) (fun1 m f (comp_ex e gs)) env
      (λ h.
      let k = and-right (is_marked m f) (is_refined t.condition && (is_refined e && are_refined_gens t.after)) h in
      let l = and-right (is_refined t.condition) (is_refined e && are_refined_gens t.after) k in
      parted-kept t (and-left (is_marked m f) (is_refined t.condition && (is_refined e && are_refined_gens t.after)) h) u
      (and-left (is_refined e) (are_refined_gens t.after) l) (and-right (is_refined e) (are_refined_gens t.after) l) v n)

leaves-answer : (e : Ex) (env : Env) → LeavesFits e env → AnswerKeeps (condition_leaves e) e env
leaves-answer (fun1 m f (comp_ex e gs)) env h = parted-answer m f e gs env (at_last_condition gs) (made-up gs) h.0 h.1
leaves-answer _ env h = tt

-- What it keeps.
pub conditions-leave : ConditionsLeave
conditions-leave = record {
  keeps = λ e f q env h. fires (condition_leaves e) e f env (leaves-answer e env h) q;
  stays_refined = everywhere-refined;
}
