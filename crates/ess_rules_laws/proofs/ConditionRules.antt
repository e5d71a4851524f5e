-- Folds within folds, and conditions in their bodies, keep what they rewrite.
use Rattle.std.proofs.Common.{◌≡◌, refl, sym, ap, ◌∙◌, Bool, true, false, List, [], ◌∷◌, ◌++◌, pos, Option, Some, None, option_map, arith}
use Rattle.std.proofs.lemmas.Int.{ints}
use Rattle.std.specs.Prelude.{is_some, ◌+ℤ◌, ◌-ℤ◌, ◌*ℤ◌}
use Rattle.ess_semantics.specs.declared.words.Op2.{Op2}
use Rattle.ess_semantics.specs.declared.words.Fun.{Fun}
use Rattle.ess_semantics.specs.Lists.{and_then, list_or_none}
use Rattle.ess_semantics.specs.Values.{Value, number, truth, item, node, items_of}
use Rattle.ess_semantics.specs.Trees.{binary, word, Ex, comp_ex, fun1, Gens, no_gens, over, from, cond}
use Rattle.ess_semantics.specs.Operators.{list_value, value_of_node, false_where_undefined}
use Rattle.ess_semantics.specs.Meaning.{Env, meaning, items_under, domain_of, members_in, with_pat, collect, where_true}
use Rattle.ess_semantics.specs.Contexts.{WhenTrue}
use Rattle.ess_semantics.specs.Meets.{Meets, MeetsGens}
use Rattle.ess_rules_laws.specs.Rules.{IsTruth, IsNumber}
use Rattle.ess_rules_laws.specs.SourceRules.{is_marked}
use Rattle.ess_rules_laws.specs.SpliceRules.{append_gens}
use Rattle.ess_rules_laws.specs.ConditionRules.{fold_at_once, fold_within, fold_condition, ConditionFits, ConditionRulesKeep}
use Rattle.ess_rules_laws.proofs.Bindings.{each-of-map, each-in-map}
use Rattle.ess_rules_laws.proofs.RuleAnswers.{AnswerKeeps, fires}
use Rattle.ess_rules_laws.proofs.Splices.{items-append}
use Rattle.ess_rules_laws.proofs.SourceRules.{both-lists, list-there}
use Rattle.ess_rules_laws.proofs.Folds.{folded, fold-means, folded-append}

-- ---- one fold within the other

module _ (m : Bool) (f : Fun) (q : is_marked m f ≡ true) where
  -- Where the first list is there the second is, and has the same fold.
  abbrev Folds : Option (List Value) → Option (List Value) → Type 0
  Folds o p = (xs : List Value) → o ≡ Some xs → (ys : List Value) × (p ≡ Some ys) × (folded f xs ≡ folded f ys)

  folds-collect : (vs : List Value) (F G : Value → Option (List Value)) → ((v : Value) → Folds (F v) (G v)) →
      Folds (collect vs F) (collect vs G)
  folds-collect [] F G h xs e = ([], refl, ap (folded f) (sym (ap list_or_none e)))
  folds-collect (v ∷ vs) F G h xs e =
      let b = both-lists (F v) (collect vs F) xs e in
      let c = h v b.0 b.2 in
      let d = folds-collect vs F G h b.1 b.3 in (
        c.0 ++ d.0,
        ap (λ o. and_then o (λ us. option_map (λ zs. us ++ zs) (collect vs G))) c.1 ∙ ap (option_map (λ zs. c.0 ++ zs)) d.1,
        ap (folded f) (sym b.4) ∙ folded-append m f q b.0 b.1 d.0 d.2 ∙ ap (λ z. folded f (z ∷ d.0)) c.2
            ∙ sym (folded-append m f q c.0 d.0 d.0 refl),
      )

  folds-then : (o : Option (List Value)) (F G : Value → Option (List Value)) → ((v : Value) → Folds (F v) (G v)) →
      Folds (and_then o (λ vs. collect vs F)) (and_then o (λ vs. collect vs G))
  folds-then None F G h xs e = cc
  folds-then (Some vs) F G h xs e = folds-collect vs F G h xs e

  folds-from : (o : Option Value) (F G : Value → Option (List Value)) → ((v : Value) → Folds (F v) (G v)) →
      Folds (and_then o (λ s. collect (items_of s) F)) (and_then o (λ s. collect (items_of s) G))
  folds-from None F G h xs e = cc
  folds-from (Some s) F G h xs e = folds-collect (items_of s) F G h xs e

  folds-where : (c : Option Value) (o p : Option (List Value)) → Folds o p → Folds (where_true c (λ u. o)) (where_true c (λ u. p))
  folds-where (Some (truth true)) o p h xs e = h xs e
  folds-where _ o p h xs e = ([], refl, ap (folded f) (sym (ap list_or_none e)))

  -- Bodies whose lists have the same folds give lists that have.
  folds-under : (gs : Gens) (env : Env) (k k' : Env → Option (List Value)) → ((here : Env) → Folds (k here) (k' here)) →
      Folds (items_under gs env k) (items_under gs env k')
  folds-under no_gens env k k' h = h env
  folds-under (over p d gs) env k k' h =
      folds-then (members_in (domain_of d env)) _ _ (λ v. folds-under gs (with_pat p v env) k k' h)
  folds-under (from p e gs) env k k' h = folds-from (meaning e env) _ _ (λ v. folds-under gs (with_pat p v env) k k' h)
  folds-under (cond c gs) env k k' h = folds-where (meaning c env) _ _ (folds-under gs env k k' h)

  -- A fold by itself as the one item of a list.
  folds-alone : (o : Option (List Value)) →
      Folds o (option_map (λ v. v ∷ []) (false_where_undefined m (value_of_node (word f) (option_map list_value o ∷ []))))
  folds-alone o xs e = (
    folded f xs ∷ [],
    ap (option_map (λ v. v ∷ [])) (fold-means m f q o xs e),
    ap (folded f) (sym (append-nil xs)) ∙ folded-append m f q xs [] [] refl,
  )
    where
      append-nil : (xs : List Value) → xs ++ [] ≡ xs
      append-nil [] = refl
      append-nil (x ∷ xs) = ap (λ ys. x ∷ ys) (append-nil xs)

  module _ (e : Ex) (gs hs : Gens) (env : Env) where
    abbrev K : Env → Option (List Value)
    K here = option_map (λ v. v ∷ []) (meaning e here)

    abbrev Inner : Ex
    Inner = fun1 m f (comp_ex e hs)

    -- Both mean the same where the list of the whole is there.
    within-means : is_some (meaning (comp_ex e (append_gens gs hs)) env) ≡ true →
        meaning (fold_at_once m f e gs hs) env ≡ meaning (fold_within m f e gs hs) env
    within-means t =
        let a = list-there (items_under (append_gens gs hs) env K) t in
        let i : items_under gs env (λ here. items_under hs here K)
        ≡ Some a.0 = sym (items-append env.positions env.types env.cells gs hs env.vals K) ∙ a.1 in
        let b = folds-under gs env (λ here. items_under hs here K) (λ here. option_map (λ v. v ∷ []) (meaning Inner here))
        (λ here. folds-alone (items_under hs here K)) a.0 i in
        fold-means m f q (items_under (append_gens gs hs) env K) a.0 a.1 ∙ ap Some b.2
        ∙ sym (fold-means m f q (items_under gs env (λ here. option_map (λ v. v ∷ []) (meaning Inner here))) b.0 b.1)

-- ---- structures

module _ (hs : Gens) (P Q : Env → Type 0) where
  -- Of generators behind others.
  within-met : (gs : Gens) (env : Env) → ((here : Env) → MeetsGens hs here P → Q here) → MeetsGens (append_gens gs hs) env P →
      MeetsGens gs env Q
  within-met no_gens env h m = h env m
  within-met (over p d gs) env h m = (m.0, each-of-map (members_in (domain_of d env)) _ _ (λ v. within-met gs (with_pat p v env) h) m.1)
  within-met (from p e gs) env h m = (m.0, each-in-map (meaning e env) _ _ (λ v. within-met gs (with_pat p v env) h) m.1)
  within-met (cond c gs) env h m = (m.0, λ t. within-met gs env h (m.1 t))

  at-once-met : (gs : Gens) (env : Env) → ((here : Env) → Q here → MeetsGens hs here P) → MeetsGens gs env Q →
      MeetsGens (append_gens gs hs) env P
  at-once-met no_gens env h m = h env m
  at-once-met (over p d gs) env h m = (m.0, each-of-map (members_in (domain_of d env)) _ _ (λ v. at-once-met gs (with_pat p v env) h) m.1)
  at-once-met (from p e gs) env h m = (m.0, each-in-map (meaning e env) _ _ (λ v. at-once-met gs (with_pat p v env) h) m.1)
  at-once-met (cond c gs) env h m = (m.0, λ t. at-once-met gs env h (m.1 t))

-- ---- conditions

-- The fold of a list.
abbrev Fold : Bool → Fun → Option (List Value) → Option Value
Fold m f o = false_where_undefined m (value_of_node (word f) (option_map list_value o ∷ []))

and-out : (c : Option Value) (o : Option (List Value)) →
    Fold true Fun.And (where_true c (λ u. o))
    ≡ false_where_undefined true (value_of_node (binary Op2.Implies) (c ∷ Fold true Fun.And o ∷ []))
and-out (Some (truth true)) o = refl
and-out None o = refl
and-out (Some (truth false)) o = refl
and-out (Some (number n)) o = refl
and-out (Some (item t n)) o = refl
and-out (Some (node k vs)) o = refl

or-out : (c : Option Value) (o : Option (List Value)) →
    Fold true Fun.Or (where_true c (λ u. o)) ≡ false_where_undefined true (value_of_node (binary Op2.And) (c ∷ Fold true Fun.Or o ∷ []))
or-out (Some (truth true)) o = refl
or-out None o = refl
or-out (Some (truth false)) o = refl
or-out (Some (number n)) o = refl
or-out (Some (item t n)) o = refl
or-out (Some (node k vs)) o = refl

-- Whether the condition is true, as a number.
abbrev Chosen : Option Value → Option Value
Chosen c = value_of_node (word Fun.ToInt) (c ∷ [])

sum-out : (c s : Option Value) (o : Option (List Value)) → IsTruth c → IsNumber s → WhenTrue c (s ≡ Fold false Fun.Sum o) →
    Fold false Fun.Sum (where_true c (λ u. o)) ≡ value_of_node (binary Op2.Times) (Chosen c ∷ s ∷ [])
sum-out (Some (truth true)) (Some (number n)) o t k h = sym (h refl)
    ∙ ap (λ z. Some (number z)) (let e : n ≡ pos 1 *ℤ n = omega (arith, ints) in e)
sum-out (Some (truth false)) (Some (number n)) o t k h = ap (λ z. Some (number z)) (let e : pos 0 ≡ pos 0 *ℤ n = omega (arith, ints) in e)
sum-out (Some (truth b)) None o t k h = absurd k
sum-out (Some (truth b)) (Some (truth c)) o t k h = absurd k
sum-out (Some (truth b)) (Some (item a n)) o t k h = absurd k
sum-out (Some (truth b)) (Some (node a vs)) o t k h = absurd k
sum-out _ s o t k h = absurd t

abbrev Shifted : Option Value → Option Value → Option Value
Shifted c s = value_of_node (binary Op2.Plus)
    (value_of_node (binary Op2.Times) (Chosen c ∷ value_of_node (binary Op2.Minus) (s ∷ Some (number (pos 1)) ∷ []) ∷ []) ∷ Some
    (number (pos 1)) ∷ [])

product-out : (c s : Option Value) (o : Option (List Value)) → IsTruth c → IsNumber s → WhenTrue c (s ≡ Fold false Fun.Product o) →
    Fold false Fun.Product (where_true c (λ u. o)) ≡ Shifted c s
product-out (Some (truth true)) (Some (number n)) o t k h =
    sym (h refl) ∙ ap (λ z. Some (number z)) (let e : n ≡ (pos 1 *ℤ (n -ℤ pos 1)) +ℤ pos 1 = omega (arith, ints) in e)
product-out (Some (truth false)) (Some (number n)) o t k h =
    ap (λ z. Some (number z)) (let e : pos 1 ≡ (pos 0 *ℤ (n -ℤ pos 1)) +ℤ pos 1 = omega (arith, ints) in e)
product-out (Some (truth b)) None o t k h = absurd k
product-out (Some (truth b)) (Some (truth c)) o t k h = absurd k
product-out (Some (truth b)) (Some (item a n)) o t k h = absurd k
product-out (Some (truth b)) (Some (node a vs)) o t k h = absurd k
product-out _ s o t k h = absurd t

condition-answer : (s e : Ex) (env : Env) → ConditionFits s e env → AnswerKeeps (fold_condition s e) e env
condition-answer s (fun1 true Fun.And (comp_ex e (cond c hs))) env t =
    λ m. (
      and-out (meaning c env) (items_under hs env (λ here. option_map (λ v. v ∷ []) (meaning e here))),
      (m.0.0, λ z. ((m.0.1 z, tt), tt)),
    )
condition-answer s (fun1 true Fun.Or (comp_ex e (cond c hs))) env t =
    λ m. (
      or-out (meaning c env) (items_under hs env (λ here. option_map (λ v. v ∷ []) (meaning e here))),
      (m.0.0, λ z. ((m.0.1 z, tt), tt)),
    )
condition-answer s (fun1 false Fun.Sum (comp_ex e (cond c hs))) env t =
    λ m. (
      sum-out (meaning c env) (meaning s env) (items_under hs env (λ here. option_map (λ v. v ∷ []) (meaning e here))) t.0 t.1 t.2,
      ((m.0.0, tt), (t.3, tt)),
    )
condition-answer s (fun1 false Fun.Product (comp_ex e (cond c hs))) env t =
    λ m. (
      product-out (meaning c env) (meaning s env) (items_under hs env (λ here. option_map (λ v. v ∷ []) (meaning e here))) t.0 t.1 t.2,
      (((m.0.0, tt), ((t.3, (tt, tt)), tt)), (tt, tt)),
    )
condition-answer s _ env t = tt

-- Folds within folds, and conditions taken out of them.
pub conditions-keep : ConditionRulesKeep
conditions-keep = record {
  within = λ m f e gs hs env q t k. (
    within-means m f q e gs hs env t,
    (within-met hs (λ here. Meets e here) (λ here. Meets (fun1 m f (comp_ex e hs)) here) gs env (λ here h. (h, tt)) k.0, tt),
  );
  at_once = λ m f e gs hs env q t k. (
    sym (within-means m f q e gs hs env t),
    (at-once-met hs (λ here. Meets e here) (λ here. Meets (fun1 m f (comp_ex e hs)) here) gs env (λ here h. h.0) k.0, tt),
  );
  out_of_the_generators = λ s e f q env t. fires (fold_condition s e) e f env (condition-answer s e env t) q;
}
