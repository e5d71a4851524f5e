-- The least and the greatest under a condition that reads cells keep their meaning with another number for what is left out.
use Rattle.std.proofs.Common.{◌≡◌, refl, sym, ap, ◌∙◌, subst, true, false, ◌&&◌, if◌then◌else◌, List, [], ◌∷◌, ◌++◌, ℤ, pos, Option, Some, None, option_map, arith}
use Rattle.std.proofs.lemmas.Int.{ints}
use Rattle.std.specs.Prelude.{is_some, ◌+ℤ◌, ◌*ℤ◌}
use Rattle.ess_semantics.specs.declared.words.Op1.{Op1}
use Rattle.ess_semantics.specs.declared.words.Op2.{Op2}
use Rattle.ess_semantics.specs.declared.words.Fun.{Fun}
use Rattle.ess_semantics.specs.Lists.{and_then}
use Rattle.ess_semantics.specs.Values.{Value, number, truth, item, node}
use Rattle.ess_semantics.specs.Trees.{unary, binary, word, Ex, comp_ex, fun1, Gens, no_gens, over, from, cond}
use Rattle.ess_semantics.specs.Refined.{is_refined, are_refined_gens}
use Rattle.ess_semantics.specs.Operators.{as_truth, list_value, least, greatest, value_of_node, false_where_undefined}
use Rattle.ess_semantics.specs.Meaning.{Env, meaning, items_under, domain_of, members_in, with_pat, collect, where_true}
use Rattle.ess_semantics.specs.Contexts.{Each, EachOf}
use Rattle.ess_semantics.specs.Kept.{Keeps}
use Rattle.ess_semantics.proofs.Orders.{to_list-of_list}
use Rattle.ess_semantics.proofs.Tests.{and-left, and-right}
use Rattle.ess_rules_laws.specs.Rules.{IsTruth}
use Rattle.ess_rules_laws.specs.SpliceRules.{append_gens}
use Rattle.ess_rules_laws.proofs.Bindings.{each-of-map}
use Rattle.ess_rules_laws.proofs.RuleAnswers.{AnswerKeeps, fires, when-so}
use Rattle.ess_rules_laws.proofs.SourceRules.{both-lists}
use Rattle.ess_refine_laws.specs.Everywhere.{everywhere, everywhere_gens, everywhere_dom, ReadsNumbers, ReadsUnder}
use Rattle.ess_refine_laws.specs.LeavingConditions.{Parted, at_last_condition}
use Rattle.ess_refine_laws.specs.ExtremeRules.{is_extreme, opposite, are_none, either_number, extreme_condition, OppositeFits, ExtremeFits, ExtremesKeep}
use Rattle.ess_refine_laws.proofs.Replaced.{number-of}
use Rattle.ess_refine_laws.proofs.Everywhere.{everywhere-serves, bounded}
use Rattle.ess_refine_laws.proofs.RefinedTrees.{refined-met, gens-met, everywhere-refined, gens-refined}
use Rattle.ess_refine_laws.proofs.LeavingConditions.{MakesUp, made-up}
use Rattle.ess_refine_laws.proofs.MixedLists.{Mix, mix_none, mix_taken, mix_left, mix-append, least-stays, greatest-stays}

-- ---- three lists

-- All numbers are there, and so are they with k for what the condition leaves out, where some are left.
record Mixed (k : Value) (o a p : Option (List Value)) : Type 0 where
  pub all : List Value
  pub mixed : List Value
  pub all_there : a ≡ Some all
  pub mixed_there : p ≡ Some mixed
  pub mixes : (xs : List Value) → o ≡ Some xs → Mix k xs all mixed

mixed-nothing : (k : Value) → Mixed k (Some []) (Some []) (Some [])
mixed-nothing k = record {
  all = [];
  mixed = [];
  all_there = refl;
  mixed_there = refl;
  mixes = λ xs e. subst (λ z. Mix k z [] []) (let j : [] ≡ xs = cc in j) mix_none;
}

abbrev Both : Option (List Value) → Option (List Value) → Option (List Value)
Both o p = and_then o (λ us. option_map (λ ws. us ++ ws) p)

module _ (k : Value) where
  mixed-collect : (vs : List Value) (F A P : Value → Option (List Value)) → Each vs (λ v. Mixed k (F v) (A v) (P v)) →
      Mixed k (collect vs F) (collect vs A) (collect vs P)
  mixed-collect [] F A P h = mixed-nothing k
  mixed-collect (v ∷ vs) F A P h =
      let s = h.0 in
      let t = mixed-collect vs F A P h.1 in
      record {
        all = s.all ++ t.all;
        mixed = s.mixed ++ t.mixed;
        all_there = ap (λ o. Both o (collect vs A)) s.all_there ∙ ap (Both (Some s.all)) t.all_there;
        mixed_there = ap (λ o. Both o (collect vs P)) s.mixed_there ∙ ap (Both (Some s.mixed)) t.mixed_there;
        mixes = λ xs e.
            let b = both-lists (F v) (collect vs F) xs e in
            subst (λ z. Mix k z (s.all ++ t.all) (s.mixed ++ t.mixed)) b.4
            (mix-append k b.0 s.all s.mixed b.1 t.all t.mixed (s.mixes b.0 b.2) (t.mixes b.1 b.3));
      }

  mixed-over : (o p : Option (List Value)) (F A P : Value → Option (List Value)) → is_some p ≡ true →
      ((vs : List Value) → o ≡ Some vs → p ≡ Some vs) → EachOf p (λ v. Mixed k (F v) (A v) (P v)) →
      Mixed k (and_then o (λ vs. collect vs F)) (and_then p (λ vs. collect vs A)) (and_then p (λ vs. collect vs P))
  mixed-over o None F A P t h e = cc
  mixed-over o (Some vs) F A P t h e =
      let c = mixed-collect vs F A P e in
      record {
        all = c.all;
        mixed = c.mixed;
        all_there = c.all_there;
        mixed_there = c.mixed_there;
        mixes =
            λ xs q. c.mixes xs (go o h xs q);
      }
    where
      go : (o : Option (List Value)) → ((ws : List Value) → o ≡ Some ws → Some vs ≡ Some ws) → (xs : List Value) →
          and_then o (λ vs. collect vs F) ≡ Some xs → collect vs F ≡ Some xs
      go None h xs q = cc
      go (Some ws) h xs q = ap (λ z. and_then z (λ us. collect us F)) (h ws refl) ∙ q

  mixed-where : (c : Option Value) (o a p : Option (List Value)) → (as_truth c ≡ true → Mixed k o a p) →
      Mixed k (where_true c (λ u. o)) (where_true c (λ u. a)) (where_true c (λ u. p))
  mixed-where (Some (truth true)) o a p h = h refl
  mixed-where (Some (truth false)) o a p h = mixed-nothing k
  mixed-where None o a p h = mixed-nothing k
  mixed-where (Some (number n)) o a p h = mixed-nothing k
  mixed-where (Some (item t n)) o a p h = mixed-nothing k
  mixed-where (Some (node t vs)) o a p h = mixed-nothing k

-- ---- one binding

-- The number where the condition is true, else the other one.
abbrev Chooses : Option Value → Option Value → Option Value → Option Value
Chooses c n m = value_of_node (binary Op2.Plus)
    (value_of_node (binary Op2.Times) (value_of_node (word Fun.ToInt) (c ∷ []) ∷ n ∷ [])
    ∷ value_of_node (binary Op2.Times)
    (value_of_node (word Fun.ToInt) (false_where_undefined true (value_of_node (unary Op1.Not) (c ∷ [])) ∷ []) ∷ m ∷ []) ∷ [])

abbrev Alone : Option Value → Option (List Value)
Alone o = option_map (λ v. v ∷ []) o

one-binding : (c o n m : Option Value) (i k : ℤ) → IsTruth c → n ≡ Some (number i) → m ≡ Some (number k) →
    ((v : Value) → o ≡ Some v → n ≡ Some v) → Mixed (number k) (where_true c (λ u. Alone o)) (Alone n) (Alone (Chooses c n m))
one-binding (Some (truth true)) o n m i k t p q s = record {
  all = number i ∷ [];
  mixed = number i ∷ [];
  all_there = ap Alone p;
  mixed_there = ap (λ z. Alone (Chooses (Some (truth true)) z m)) p ∙ ap (λ z. Alone (Chooses (Some (truth true)) (Some (number i)) z)) q
      ∙ ap (λ z. Some (number z ∷ [])) (let e : (pos 1 *ℤ i) +ℤ (pos 0 *ℤ k) ≡ i = omega (arith, ints) in e);
  mixes = λ xs e. go o s xs e;
}
  where
    go : (o : Option Value) → ((v : Value) → o ≡ Some v → n ≡ Some v) → (xs : List Value) → Alone o ≡ Some xs →
        Mix (number k) xs (number i ∷ []) (number i ∷ [])
    go None s xs e = cc
    go (Some v) s xs e =
        subst (λ z. Mix (number k) z (number i ∷ []) (number i ∷ []))
        (ap (λ o. elim o [ None ↦ xs | Some z ↦ z ]) (ap Alone (sym p ∙ s v refl) ∙ e)) (mix_taken (number i) [] [] [] mix_none)
one-binding (Some (truth false)) o n m i k t p q s = record {
  all = number i ∷ [];
  mixed = number k ∷ [];
  all_there = ap Alone p;
  mixed_there = ap (λ z. Alone (Chooses (Some (truth false)) z m)) p ∙ ap (λ z. Alone (Chooses (Some (truth false)) (Some (number i)) z)) q
      ∙ ap (λ z. Some (number z ∷ [])) (let e : (pos 0 *ℤ i) +ℤ (pos 1 *ℤ k) ≡ k = omega (arith, ints) in e);
  mixes = λ xs e. subst (λ z. Mix (number k) z (number i ∷ []) (number k ∷ [])) (let j : [] ≡ xs =
      cc in j) (mix_left (number i) [] [] [] mix_none);
}
one-binding None o n m i k t p q s = absurd t
one-binding (Some (number j)) o n m i k t p q s = absurd t
one-binding (Some (item a j)) o n m i k t p q s = absurd t
one-binding (Some (node a vs)) o n m i k t p q s = absurd t

-- ---- all bindings

module _ (e c m : Ex) (k : ℤ) where
  abbrev Read : Env → Type 0
  Read here = IsTruth (meaning c here) × ReadsNumbers e here × (meaning m here ≡ Some (number k))

  abbrev Old : Env → Option (List Value)
  Old here = where_true (meaning c here) (λ u. Alone (meaning e here))

  abbrev All : Env → Option (List Value)
  All here = Alone (meaning (everywhere e) here)

  abbrev New : Env → Option (List Value)
  New here = Alone (meaning (either_number c (everywhere e) m) here)

  mixed-here : (here : Env) → Read here → Mixed (number k) (Old here) (All here) (New here)
  mixed-here here r =
      let s = everywhere-serves e here r.1 in
      let n = number-of (meaning (everywhere e) here) s.is_number in
      one-binding (meaning c here) (meaning e here) (meaning (everywhere e) here) (meaning m here) n.0 k r.0 n.1 r.2 s.is_same

  mixed-under : (gs : Gens) (env : Env) → ReadsUnder gs env (λ here. Read here) →
      Mixed (number k) (items_under (append_gens gs (cond c no_gens)) env (λ h. Alone (meaning e h))) (items_under
      (everywhere_gens gs) env All)
      (items_under (everywhere_gens gs) env New)
  mixed-under no_gens env h = mixed-here env h
  mixed-under (over p d gs) env h =
      let b = bounded d env h.0 in
      mixed-over (number k) (members_in (domain_of d env)) (members_in (domain_of (everywhere_dom d) env))
      (λ v. items_under (append_gens gs (cond c no_gens)) (with_pat p v env) (λ h. Alone (meaning e h)))
      (λ v. items_under (everywhere_gens gs) (with_pat p v env) All) (λ v. items_under (everywhere_gens gs) (with_pat p v env) New) b.0 b.1
      (each-of-map (members_in (domain_of (everywhere_dom d) env)) (λ v. ReadsUnder gs (with_pat p v env) (λ here. Read here))
      (λ v. Mixed (number k) (items_under (append_gens gs (cond c no_gens)) (with_pat p v env) (λ h. Alone (meaning e h)))
      (items_under (everywhere_gens gs) (with_pat p v env) All) (items_under (everywhere_gens gs) (with_pat p v env) New))
      (λ v. mixed-under gs (with_pat p v env)) h.1)
  mixed-under (from p x gs) env h = absurd h
  mixed-under (cond d gs) env h =
      mixed-where (number k) (meaning d env) (items_under (append_gens gs (cond c no_gens)) env (λ h. Alone (meaning e h)))
      (items_under (everywhere_gens gs) env All) (items_under (everywhere_gens gs) env New) (λ t. mixed-under gs env (h t))

-- What a word makes of a list.
abbrev Made : Fun → Option (List Value) → Option Value
Made f o = value_of_node (word f) (option_map list_value o ∷ [])

made-least : (o : Option (List Value)) (xs : List Value) → o ≡ Some xs → Made Fun.Min o ≡ least xs
made-least o xs e = ap (Made Fun.Min) e ∙ ap least (to_list-of_list xs)

made-greatest : (o : Option (List Value)) (xs : List Value) → o ≡ Some xs → Made Fun.Max o ≡ greatest xs
made-greatest o xs e = ap (Made Fun.Max) e ∙ ap greatest (to_list-of_list xs)

there : (o : Option Value) → is_some o ≡ true → (v : Value) × (o ≡ Some v)
there None t = cc
there (Some v) t = (v, refl)

list-of : (f : Fun) → is_extreme f ≡ true → (o : Option (List Value)) → is_some (Made f o) ≡ true → (xs : List Value) × (o ≡ Some xs)
list-of Fun.Min q None t = cc
list-of Fun.Max q None t = cc
list-of Fun.Min q (Some xs) t = (xs, refl)
list-of Fun.Max q (Some xs) t = (xs, refl)
list-of _ q o t = cc

-- The word makes the same of the mixed list.
made-stays : (f : Fun) → is_extreme f ≡ true → (k : ℤ) (o a p : Option (List Value)) → Mixed (number k) o a p →
    Made (opposite f) a ≡ Some (number k) → is_some (Made f o) ≡ true → Made f o ≡ Made f p
made-stays Fun.Min q k o a p m e t =
    let x = list-of Fun.Min q o t in
    let v = there (Made Fun.Min o) t in
    v.1 ∙ sym (made-least p m.mixed m.mixed_there ∙ least-stays (number k) x.0 m.all m.mixed (m.mixes x.0 x.1)
    (sym (made-greatest a m.all m.all_there) ∙ e) v.0 (sym (made-least o x.0 x.1) ∙ v.1))
made-stays Fun.Max q k o a p m e t =
    let x = list-of Fun.Max q o t in
    let v = there (Made Fun.Max o) t in
    v.1 ∙ sym (made-greatest p m.mixed m.mixed_there ∙ greatest-stays (number k) x.0 m.all m.mixed (m.mixes x.0 x.1)
    (sym (made-least a m.all m.all_there) ∙ e) v.0 (sym (made-greatest o x.0 x.1) ∙ v.1))
made-stays _ q k o a p m e t = cc

-- ---- the rule

extreme-kept : (m e c : Ex) (f : Fun) (gs : Gens) (env : Env) → is_extreme f ≡ true → is_refined c ≡ true → is_refined e ≡ true →
    is_refined m ≡ true → are_refined_gens gs ≡ true → (k : ℤ) →
    meaning (fun1 false (opposite f) (comp_ex (everywhere e) (everywhere_gens gs))) env ≡ Some (number k) →
    ReadsUnder gs env (λ here. IsTruth (meaning c here) × ReadsNumbers e here × (meaning m here ≡ Some (number k))) →
    is_some (meaning (fun1 false f (comp_ex e (append_gens gs (cond c no_gens)))) env) ≡ true →
    Keeps (fun1 false f (comp_ex e (append_gens gs (cond c no_gens))))
    (fun1 false f (comp_ex (either_number c (everywhere e) m) (everywhere_gens gs))) env
extreme-kept m e c f gs env q rc re rm rg k w r t n = (
  made-stays f q k _ _ _ (mixed-under e c m k gs env r) w t,
  (
    gens-met (everywhere_gens gs) (gens-refined gs rg) (either_number c (everywhere e) m)
        (λ here. (
          ((refined-met c rc here, tt), (refined-met (everywhere e) (everywhere-refined e re) here, tt)),
          ((((refined-met c rc here, tt), tt), (refined-met m rm here, tt)), tt),
        )) env,
    tt,
  ),
)

no-generators : (hs : Gens) → are_none hs ≡ true → hs ≡ no_gens
no-generators no_gens h = refl
no-generators (over p d gs) h = cc
no-generators (from p e gs) h = cc
no-generators (cond c gs) h = cc

module _ (m e : Ex) (f : Fun) (gs : Gens) (env : Env) where
  parted-answer : (o : Option Parted) → MakesUp o gs → is_some (meaning (fun1 false f (comp_ex e gs)) env) ≡ true →
      OppositeFits m f e o env →
      AnswerKeeps (elim o [
        | None ↦ None
        | Some t ↦ if (is_extreme f && are_none t.after) && (is_refined t.condition && (is_refined e && (is_refined m
            && are_refined_gens t.before)))
            then Some (fun1 false f (comp_ex (either_number t.condition (everywhere e) m) (everywhere_gens t.before))) else None
      ]) (fun1 false f (comp_ex e gs)) env
  parted-answer None u v n = tt
  parted-answer (Some t) u v n =
      when-so ((is_extreme f && are_none t.after) && (is_refined t.condition && (is_refined e && (is_refined m
      && are_refined_gens t.before))))
      (fun1 false f (comp_ex (either_number t.condition (everywhere e) m) (everywhere_gens t.before))) (fun1 false f (comp_ex e gs)) env
      (λ h.
      let x = and-left (is_extreme f && are_none t.after) (is_refined t.condition && (is_refined e && (is_refined m
      && are_refined_gens t.before))) h in
      let y = and-right (is_extreme f && are_none t.after) (is_refined t.condition && (is_refined e && (is_refined m
      && are_refined_gens t.before))) h in
      let y1 = and-right (is_refined t.condition) (is_refined e && (is_refined m && are_refined_gens t.before)) y in
      let y2 = and-right (is_refined e) (is_refined m && are_refined_gens t.before) y1 in
      let w = u ∙ ap (λ z. append_gens t.before (cond t.condition z)) (no-generators t.after (and-right (is_extreme f)
      (are_none t.after) x)) in
      subst (λ z. Keeps (fun1 false f (comp_ex e z))
      (fun1 false f (comp_ex (either_number t.condition (everywhere e) m) (everywhere_gens t.before))) env) (sym w)
      (extreme-kept m e t.condition f t.before env (and-left (is_extreme f) (are_none t.after) x)
      (and-left (is_refined t.condition) (is_refined e && (is_refined m && are_refined_gens t.before)) y)
      (and-left (is_refined e) (is_refined m && are_refined_gens t.before) y1) (and-left (is_refined m) (are_refined_gens t.before) y2)
      (and-right (is_refined m) (are_refined_gens t.before) y2) n.0 n.1 n.2
      (subst (λ z. is_some (meaning (fun1 false f (comp_ex e z)) env) ≡ true) w v)))

extreme-answer : (m e : Ex) (env : Env) → ExtremeFits m e env → AnswerKeeps (extreme_condition m e) e env
extreme-answer m (fun1 false f (comp_ex e gs)) env h = parted-answer m e f gs env (at_last_condition gs) (made-up gs) h.0 h.1
extreme-answer m _ env h = tt

-- What it keeps.
pub extremes-keep : ExtremesKeep
extremes-keep m e f q env h = fires (extreme_condition m e) e f env (extreme-answer m e env h) q
