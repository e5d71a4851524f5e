-- An item of a comprehension over one domain by its number: what a condition on the number leaves is that item, or nothing.
use Rattle.std.proofs.Common.{◌≡◌, refl, sym, ap, ◌∙◌, subst, ℕ, zero, suc, ◌+◌, ◌<◌, Bool, true, false, if◌then◌else◌, List, [], ◌∷◌, ◌++◌, map, pos, ◌+ℤ◌, Option, Some, None, option_map, arith}
use Rattle.std.proofs.lemmas.Int.{ints}
use Rattle.ess_semantics.specs.declared.words.Op2.{Op2}
use Rattle.ess_semantics.specs.declared.words.Fun.{Fun}
use Rattle.ess_semantics.specs.Lists.{and_then}
use Rattle.ess_semantics.specs.Values.{Text, Value, number, truth, of_list}
use Rattle.ess_semantics.specs.Order.{same, same_text}
use Rattle.ess_semantics.specs.Names.{look}
use Rattle.ess_semantics.specs.Numbers.{run_from}
use Rattle.ess_semantics.specs.Trees.{binary, word, index, by_value, name_pat, Ex, number_ex, name_ex, node_ex, comp_ex, no_exs, more_exs, ex2, no_gens, over, cond, Dom}
use Rattle.ess_semantics.specs.Operators.{value_of_node, false_where_undefined, sum_of, list_value, item_at, numbers_from}
use Rattle.ess_semantics.specs.Meaning.{Env, meaning, domain_of, members_in, collect, where_true}
use Rattle.ess_semantics.specs.Contexts.{EachOf}
use Rattle.ess_semantics.specs.Meets.{Meets, MeetsDom}
use Rattle.ess_semantics.proofs.Orders.{to_list-of_list, same-equal}
use Rattle.ess_rules_laws.specs.Rules.{Unused}
use Rattle.ess_rules_laws.specs.MatrixRules.{UnusedDom}
use Rattle.ess_rules_laws.specs.Listings.{Alternative, all_listed}
use Rattle.ess_rules_laws.specs.Lookups.{found}
use Rattle.ess_rules_laws.specs.AlternativeLookups.{LookedBy}
use Rattle.ess_rules_laws.proofs.Connectives.{binary-means}
use Rattle.ess_rules_laws.proofs.Simulation.{but}
use Rattle.ess_rules_laws.proofs.Agreement.{agree-but, domain-agree}
use Rattle.ess_rules_laws.proofs.MeetsSimulation.{meets-agree-dom}
use Rattle.ess_rules_laws.proofs.Bindings.{each-of-map}
use Rattle.ess_rules_laws.proofs.RuleAnswers.{behind, each-any, meaning-behind, meets-behind, name-behind}
use Rattle.ess_kind_rules_laws.specs.TermLookups.{count_below}
use Rattle.ess_kinds_kept_laws.proofs.PlacesBelow.{below_count, ones, ones-sum, collect-ones}
use Rattle.ess_ordered_laws.specs.NumberedItems.{is_from_one}
use Rattle.ess_ordered_laws.proofs.Places.{members-rise, Numbered, ranked, from-one}

no : {A : Type 0} → false ≡ true → A
no h = cc

-- ---- items at numbers

same-number : (j k : ℕ) → same (number (pos j)) (number (pos k)) ≡ true → j ≡ k
same-number j k e = ap (λ v. elim v [ number (pos n) ↦ n | _ ↦ j ]) (same-equal (number (pos j)) (number (pos k)) e)

-- An item that is numbered from j on has no number below.
pub later-none : (zs : List Value) (j k : ℕ) → k < j → item_at (of_list (numbers_from j zs)) (of_list zs) (number (pos k)) ≡ None
later-none [] j k h = refl
later-none (z ∷ zs) j k h = go (same (number (pos j)) (number (pos k))) refl (later-none zs (suc j) k (omega (arith, h)))
  where
    go : (b : Bool) → same (number (pos j)) (number (pos k)) ≡ b
        → item_at (of_list (numbers_from (suc j) zs)) (of_list zs) (number (pos k)) ≡ None
        → (if b then Some z else item_at (of_list (numbers_from (suc j) zs)) (of_list zs) (number (pos k))) ≡ None
    go true e r = let q : j ≡ k = same-number j k e in let z : ⊥ = omega arith in absurd z
    go false e r = r

-- `[e | x : d][i]`.
abbrev pub Picked : Text → Dom → Ex → Ex → Ex
Picked x d e i = node_ex false (index (by_value ∷ [])) (more_exs (comp_ex e (over (name_pat x) d no_gens)) (more_exs i no_exs))

module _ (x : Text) (e i p : Ex) (env : Env) (new-i : Unused x i) where
  abbrev Q : Ex
  Q = ex2 true Op2.Eq p i

  -- The item at a value, and the same where the number is i.
  abbrev pub G : Value → Option (List Value)
  G v = option_map (λ w. w ∷ []) (meaning e (behind x v env))

  abbrev F : Value → Option (List Value)
  F v = where_true (meaning Q (behind x v env)) (λ u. G v)

  -- p numbers the values from k on.
  abbrev Told : ℕ → List Value → Type 0
  Told k [] = Unit {0}
  Told k (v ∷ vs) = (meaning p (behind x v env) ≡ Some (number (pos k))) × Told (suc k) vs

  module _ (w : Value) (q : meaning i env ≡ Some w) where
    test-is : (v : Value) (k : ℕ) → meaning p (behind x v env) ≡ Some (number (pos k))
        → meaning Q (behind x v env) ≡ Some (truth (same (number (pos k)) w))
    test-is v k h = binary-means (behind x v env) true Op2.Eq p i (number (pos k)) w h (meaning-behind x v i env new-i ∙ q)

    chosen-is : (v u : Value) (k : ℕ) → meaning p (behind x v env) ≡ Some (number (pos k)) → meaning e (behind x v env) ≡ Some u
        → F v ≡ Some (if same (number (pos k)) w then u ∷ [] else [])
    chosen-is v u k h a = ap (λ o. where_true o (λ z. G v)) (test-is v k h)
        ∙ ap (λ o. where_true (Some (truth (same (number (pos k)) w))) (λ z. option_map (λ w. w ∷ []) o)) a
        ∙ bit (same (number (pos k)) w)
      where
        bit : (b : Bool) → where_true (Some (truth b)) (λ z. Some (u ∷ [])) ≡ Some (if b then u ∷ [] else [])
        bit true = refl
        bit false = refl

    one-of : (u : Value) (zs : List Value) (k : ℕ) (b : Bool) → same (number (pos k)) w ≡ b
        → (if b then u ∷ [] else []) ++ found (item_at (of_list (numbers_from (suc k) zs)) (of_list zs) w)
        ≡ found (if b then Some u else item_at (of_list (numbers_from (suc k) zs)) (of_list zs) w)
    one-of u zs k true s = ap (λ o. u ∷ found o) (ap (item_at (of_list (numbers_from (suc k) zs)) (of_list zs)) (sym (same-equal (number (pos k)) w s))
        ∙ later-none zs (suc k) k (omega arith))
    one-of u zs k false s = refl

    -- What is left is the item at the number.
    picked : (k : ℕ) (vs us : List Value) → Told k vs → collect vs G ≡ Some us
        → collect vs F ≡ Some (found (item_at (of_list (numbers_from k us)) (of_list us) w))
    picked k [] us h c = ap (λ l. Some (found (item_at (of_list (numbers_from k l)) (of_list l) w))) (let z : [] ≡ us = cc in z)
    picked k (v ∷ vs) us h c = go (meaning e (behind x v env)) refl (collect vs G) refl c (λ zs r. picked (suc k) vs zs h.1 r)
      where
        go : (o : Option Value) → meaning e (behind x v env) ≡ o → (r : Option (List Value)) → collect vs G ≡ r
            → and_then (option_map (λ w. w ∷ []) o) (λ xs. option_map (λ ys. xs ++ ys) r) ≡ Some us
            → ((zs : List Value) → collect vs G ≡ Some zs
            → collect vs F ≡ Some (found (item_at (of_list (numbers_from (suc k) zs)) (of_list zs) w)))
            → and_then (F v) (λ xs. option_map (λ ys. xs ++ ys) (collect vs F))
            ≡ Some (found (item_at (of_list (numbers_from k us)) (of_list us) w))
        go None a r b c f = cc
        go (Some u) a None b c f = cc
        go (Some u) a (Some zs) b c f =
            ap (λ o. and_then o (λ xs. option_map (λ ys. xs ++ ys) (collect vs F))) (chosen-is v u k h.0 a)
            ∙ ap (option_map (λ ys. (if same (number (pos k)) w then u ∷ [] else []) ++ ys)) (f zs b)
            ∙ ap Some (one-of u zs k (same (number (pos k)) w) refl)
            ∙ ap (λ l. Some (found (item_at (of_list (numbers_from k l)) (of_list l) w))) (let z : u ∷ zs ≡ us = cc in z)

  -- Where i has no value nothing is left.
  nowhere : meaning i env ≡ None → (k : ℕ) (vs : List Value) → Told k vs → collect vs F ≡ Some []
  nowhere q k [] h = refl
  nowhere q k (v ∷ vs) h =
      ap (λ o. and_then (where_true o (λ z. G v)) (λ xs. option_map (λ ys. xs ++ ys) (collect vs F)))
      (ap (λ o. false_where_undefined true (value_of_node (binary Op2.Eq) (o ∷ meaning i (behind x v env) ∷ []))) h.0
      ∙ ap (λ o. false_where_undefined true (value_of_node (binary Op2.Eq) (Some (number (pos k)) ∷ o ∷ []))) (meaning-behind x v i env new-i ∙ q))
      ∙ ap (option_map (λ ys. ys)) (nowhere q (suc k) vs h.1)

  module _ (d : Dom) (vs us : List Value) (members-are : members_in (domain_of d env) ≡ Some vs) (items-are : collect vs G ≡ Some us)
      (told : Told 1 vs) where
    abbrev Whole : Ex
    Whole = Picked x d e i

    value-is : meaning (comp_ex e (over (name_pat x) d no_gens)) env ≡ Some (list_value us)
    value-is = ap (option_map list_value) (ap (λ o. and_then o (λ vs. collect vs G)) members-are ∙ items-are)

    whole-means : (w : Value) → meaning i env ≡ Some w → meaning Whole env ≡ item_at (of_list (numbers_from 1 us)) (of_list us) w
    whole-means w q = ap (λ o. value_of_node (index (by_value ∷ [])) (o ∷ meaning i env ∷ [])) value-is
        ∙ ap (λ o. value_of_node (index (by_value ∷ [])) (Some (list_value us) ∷ o ∷ [])) q
        ∙ itself-again (item_at (of_list (numbers_from 1 us)) (of_list us) w)
      where
        itself-again : (o : Option Value) → and_then o (λ z. Some z) ≡ o
        itself-again None = refl
        itself-again (Some z) = refl

    whole-nowhere : meaning i env ≡ None → meaning Whole env ≡ None
    whole-nowhere q = ap (λ o. value_of_node (index (by_value ∷ [])) (o ∷ meaning i env ∷ [])) value-is
        ∙ ap (λ o. value_of_node (index (by_value ∷ [])) (Some (list_value us) ∷ o ∷ [])) q

    found-alone : (o : Option Value) → found o ++ [] ≡ found o
    found-alone None = refl
    found-alone (Some v) = refl

    abbrev One : Alternative
    One = record { gens = over (name_pat x) d (cond Q no_gens); item = e }

    -- The alternative has the item, or none.
    listed : all_listed (One ∷ []) env ≡ Some (found (meaning Whole env))
    listed = ap (λ o. and_then (and_then o (λ vs. collect vs F)) (λ xs. option_map (λ ys. xs ++ ys) (Some []))) members-are
        ∙ go (meaning i env) refl
      where
        go : (o : Option Value) → meaning i env ≡ o
            → and_then (collect vs F) (λ xs. option_map (λ ys. xs ++ ys) (Some [])) ≡ Some (found (meaning Whole env))
        go None q = ap (λ o. and_then o (λ xs. option_map (λ ys. xs ++ ys) (Some []))) (nowhere q 1 vs told)
            ∙ sym (ap (λ o. Some (found o)) (whole-nowhere q))
        go (Some w) q = ap (λ o. and_then o (λ xs. option_map (λ ys. xs ++ ys) (Some []))) (picked w q 1 vs us told items-are)
            ∙ ap Some (found-alone (item_at (of_list (numbers_from 1 us)) (of_list us) w))
            ∙ sym (ap (λ o. Some (found o)) (whole-means w q))

    looked : ((v : Value) → Meets p (behind x v env)) → Meets Whole env → LookedBy Whole (One ∷ []) env
    looked mp m = record {
      items = listed;
      met = (
        (
          m.0.0,
          each-of-map (members_in (domain_of d env)) _ _
              (λ v me. ((mp v, (meets-behind x v i env new-i m.1.0, tt)), λ y. me)) m.0.1,
        ),
        tt,
      );
    }

-- ---- the number of a member

module _ (x z : Text) (d : Dom) (env : Env) (new-x : UnusedDom x d) (new-z : UnusedDom z d) (apart : same_text z x ≡ false) (us : List Value)
    (members-are : members_in (domain_of d env) ≡ Some us) where
  abbrev Lower : Ex
  Lower = ex2 true Op2.Lt (name_ex z) (name_ex x)

  members-here : (v : Value) → members_in (domain_of d (behind x v env)) ≡ Some us
  members-here v = ap members_in (domain-agree env.positions env.types env.cells (but x) d env.vals ((x, v) ∷ env.vals) new-x (agree-but x v env.vals))
      ∙ members-are

  bound-is : (v u : Value) → meaning (name_ex x) (behind z u (behind x v env)) ≡ Some v
  bound-is v u = ap (λ b. if b then Some u else look ((x, v) ∷ env.vals) x) apart ∙ name-behind x v env

  -- How many members are below.
  count-means : (v : Value) → meaning (count_below z d (name_ex x)) (behind x v env) ≡ Some (number (pos (below_count us v)))
  count-means v = ap (λ o. value_of_node (word Fun.Sum) (option_map list_value o ∷ []))
      (ap (λ o. and_then o (λ vs. collect vs AtLower)) (members-here v) ∙ collect-ones v AtLower
      (λ u. ap (λ o. where_true o (λ y. Some (number (pos 1) ∷ [])))
      (binary-means (behind z u (behind x v env)) true Op2.Lt (name_ex z) (name_ex x) u v (name-behind z u (behind x v env)) (bound-is v u))) us)
      ∙ ap (λ l. Some (number (sum_of l))) (to_list-of_list (ones us v)) ∙ ap (λ y. Some (number y)) (ones-sum us v)
    where
      AtLower : Value → Option (List Value)
      AtLower u = where_true (meaning Lower (behind z u (behind x v env))) (λ y. Some (number (pos 1) ∷ []))

  place-means : (v : Value) → meaning (ex2 false Op2.Plus (count_below z d (name_ex x)) (number_ex (pos 1))) (behind x v env)
      ≡ Some (number (pos (1 + below_count us v)))
  place-means v = binary-means (behind x v env) false Op2.Plus (count_below z d (name_ex x)) (number_ex (pos 1))
      (number (pos (below_count us v))) (number (pos 1)) (count-means v) refl
      ∙ ap (λ y. Some (number y)) (let e : pos (below_count us v) +ℤ pos 1 ≡ pos (1 + below_count us v) = omega (arith, ints) in e)

  place-met : MeetsDom d env → (v : Value) → Meets (ex2 false Op2.Plus (count_below z d (name_ex x)) (number_ex (pos 1))) (behind x v env)
  place-met md v = (
    (
      (
        meets-agree-dom env.positions env.types env.cells (but x) d env.vals ((x, v) ∷ env.vals) new-x (agree-but x v env.vals) md,
        each-of-any (members_in (domain_of d (behind x v env))) _ (λ u. ((tt, (tt, tt)), λ y. tt)),
      ),
      tt,
    ),
    (tt, tt),
  )
    where
      each-of-any : (o : Option (List Value)) (P : Value → Type 0) → ((v : Value) → P v) → EachOf o P
      each-of-any None P f = tt
      each-of-any (Some vs) P f = each-any vs P f

-- ---- the lookup

module _ (z x : Text) (e i : Ex) (d : Dom) (env : Env) (new-i : Unused x i) (new-x : UnusedDom x d) (new-z : UnusedDom z d)
    (apart : same_text z x ≡ false) (vs us : List Value) (members-are : members_in (domain_of d env) ≡ Some vs)
    (items-are : collect vs (G x e i (name_ex x) env new-i) ≡ Some us)
    (m : Meets (Picked x d e i) env) where
  abbrev Counted : Ex
  Counted = ex2 false Op2.Plus (count_below z d (name_ex x)) (number_ex (pos 1))

  run-told : (n k : ℕ) → Told x e i (name_ex x) env new-i k (map number (run_from k n))
  run-told zero k = tt
  run-told (suc n) k = (name-behind x (number (pos k)) env, run-told n (suc k))

  counted-told : (ws : List Value) (k : ℕ) → Numbered (λ v. 1 + below_count vs v) k ws → Told x e i Counted env new-i k ws
  counted-told [] k n = tt
  counted-told (w ∷ ws) k n = (
    place-means x z d env new-x new-z apart vs members-are w ∙ ap (λ j. Some (number (pos j))) n.0,
    counted-told ws (suc k) n.1,
  )

  -- The number is told by the bound name, or by counting.
  pub by-place : (c : Bool) → is_from_one d ≡ c → LookedBy (Picked x d e i)
      (record { gens = over (name_pat x) d (cond (ex2 true Op2.Eq (if c then name_ex x else Counted) i) no_gens); item = e } ∷ []) env
  by-place true h = let r = from-one d env vs h members-are in looked x e i (name_ex x) env new-i d vs us members-are items-are
      (subst (λ l. Told x e i (name_ex x) env new-i 1 l) (sym r.1) (run-told r.0 1)) (λ v. tt) m
  by-place false h = looked x e i Counted env new-i d vs us members-are items-are
      (counted-told vs 1 (ranked vs (members-rise (domain_of d env) vs members-are) 1))
      (place-met x z d env new-x new-z apart vs members-are m.0.0) m
