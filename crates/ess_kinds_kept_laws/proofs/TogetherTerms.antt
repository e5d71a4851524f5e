-- Of a partition by numbers: terms of a literal lie together where they have one number.
use Rattle.std.proofs.Common.{◌≡◌, refl, sym, ap, ◌∙◌, subst, ℕ, zero, suc, ◌+◌, ◌≤◌, ◌<◌, Bool, true, false, ◌&&◌, ◌||◌, if◌then◌else◌, List, [], ◌∷◌, ℤ, pos, ◌<ℤ◌, Option, Some, None, option_map, arith, eq-or-lt_of_le, ◌⊎◌, inl, inr}
use Rattle.std.proofs.lemmas.Int.{ints}
use Rattle.std.specs.Ordering.{is_lt}
use Rattle.std.specs.Cmp.{int_cmp_is}
use Rattle.std.specs.declared.cmp.Ordering.TheVariants.{Less}
use Rattle.std.specs.Prelude.{is_some}
use Rattle.std.specs.List.{list_all, list_any}
use Rattle.ess_semantics.specs.declared.words.Op2.{Op2}
use Rattle.ess_semantics.specs.declared.words.Fun.{Fun}
use Rattle.ess_semantics.specs.Lists.{and_then, all_some}
use Rattle.ess_semantics.specs.Values.{Text, Value, number, truth, items_of}
use Rattle.ess_semantics.specs.Order.{same, same_int, below}
use Rattle.ess_semantics.specs.Collections.{holds, set_of, sorted_once}
use Rattle.ess_semantics.specs.Numbers.{run_from, one_to}
use Rattle.ess_semantics.specs.Trees.{binary, word, set_literal, Mark, name_pat, Ex, Exs, number_ex, name_ex, node_ex, cell_ex, ex2, no_exs, more_exs, no_gens, over, Dom}
use Rattle.ess_semantics.specs.Operators.{value_of_node, false_where_undefined}
use Rattle.ess_semantics.specs.Meaning.{Env, meaning, meanings, members_in, collect}
use Rattle.ess_semantics.specs.Meets.{Meets, MeetsAll}
use Rattle.ess_semantics.proofs.Tests.{and-left, and-right, and-both, both-ways, or-yes}
use Rattle.ess_semantics.proofs.Orders.{to_list-of_list, same_int-equal, same_int-itself, same-itself}
use Rattle.ess_semantics.proofs.Sorting.{all-sorted_once}
use Rattle.ess_rules_laws.specs.Rules.{Unused}
use Rattle.ess_rules_laws.proofs.Connectives.{and-means, binary-means, any-means, bits, collect-bits, any-bits}
use Rattle.ess_rules_laws.proofs.RuleAnswers.{behind, each-any, meaning-behind, name-behind}
use Rattle.ess_views_laws.specs.PartitionViews.{is_one_of, have_number_of}
use Rattle.ess_views_kept_laws.proofs.MatrixPlaces.{put-met}
use Rattle.ess_kinds_kept_laws.specs.PartitionAsks.{NumbersEnough, Tells, MembersTold}
use Rattle.ess_kinds_kept_laws.proofs.PartNumbering.{number-of, any-each}
use Rattle.ess_kinds_kept_laws.proofs.NumberingView.{PartsView, PartsSeen}
use Rattle.ess_kinds_kept_laws.proofs.PartyRules.{NumberOf, cell-held, cell-missing, marker-means}
use Rattle.ess_kinds_kept_laws.proofs.TogetherNumbers.{N, Has, together-means}

no : {A : Type 0} → false ≡ true → A
no h = cc

and-true : (b : Bool) → b ≡ b && true
and-true true = refl
and-true false = refl

-- ---- runs of numbers

any-run : (f : ℤ → Bool) (a n k : ℕ) → a ≤ k → k < a + n → f (pos k) ≡ true → list_any f (run_from a n) ≡ true
any-run f a zero k p q h = absurd (omega arith)
any-run f a (suc n) k p q h = go (eq-or-lt_of_le p) (λ l. any-run f (suc a) n k l (omega arith) h)
  where
    go : (a ≡ k) ⊎ (a < k) → (a < k → list_any f (run_from (suc a) n) ≡ true) → f (pos a) || list_any f (run_from (suc a) n) ≡ true
    go (inl e) r = ap (λ b. b || list_any f (run_from (suc a) n)) (ap (λ j. f (pos j)) e ∙ h)
    go (inr l) r = ap (λ b. f (pos a) || b) (r l) ∙ or-yes (f (pos a))

any-none : (f : ℤ → Bool) (ks : List ℤ) → ((k : ℤ) → f k ≡ false) → list_any f ks ≡ false
any-none f [] h = refl
any-none f (k ∷ ks) h = ap (λ b. b || list_any f ks) (h k) ∙ any-none f ks h

found-number : (f : ℤ → Bool) (ks : List ℤ) → list_any f ks ≡ true → (k : ℤ) × (f k ≡ true)
found-number f [] h = no h
found-number f (k ∷ ks) h = go (f k) refl h (found-number f ks)
  where
    go : (b : Bool) → f k ≡ b → b || list_any f ks ≡ true → (list_any f ks ≡ true → (k : ℤ) × (f k ≡ true)) → (k : ℤ) × (f k ≡ true)
    go true e h r = (k, e)
    go false e h r = r h

any-same : (us : List Value) (w : Value) → list_any (λ v. same v w) us ≡ holds us w
any-same [] w = refl
any-same (u ∷ us) w = ap (λ b. same u w || b) (any-same us w)

module _ (ms : List Mark) (es : Exs) (dd : Dom) (m w : Text) (js : Exs) (env : Env) (met : Meets (PartsView ms es dd m w js env) env)
    (s : PartsSeen ms es dd m w js env) (n : Ex) (enough : NumbersEnough n (PartsView ms es dd m w js env) env) where
  abbrev V : Ex
  V = PartsView ms es dd m w js env

  abbrev W : Value → ℤ
  W v = N ms es dd m w js env met s n enough v

  abbrev Have : Value → ℤ → Bool
  Have y k = Has ms es dd m w js env met s n enough y k

  -- ---- no term, and one

  pub nothing-means : MembersTold (node_ex false set_literal no_exs) dd env →
      meaning (node_ex true (word Fun.Together) (more_exs (node_ex false set_literal no_exs) (more_exs V no_exs))) env ≡
      meaning (ex2 true Op2.Gt (cell_ex false m js) (number_ex (pos 0))) env
  nothing-means told = together-means ms es dd m w js env met s n enough (node_ex false set_literal no_exs) (set_of []) refl told
      ∙ ap (λ b. Some (truth b)) (go s.c)
      ∙ sym (binary-means env true Op2.Gt (cell_ex false m js) (number_ex (pos 0)) (number (pos s.c)) (number (pos 0))
      (marker-means ms es dd m w js env met s n enough) refl)
    where
      go : (c : ℕ) → list_any (λ k. true) (one_to c) ≡ below (number (pos 0)) (number (pos c))
      go zero = refl
      go (suc c) = ap is_lt (int_cmp_is (pos 0) (pos (suc c)) Less (let e : pos 0 <ℤ pos (suc c) = omega (arith, ints) in e))

  some-number : (y : Value) → list_any (λ k. Have y k && true) (one_to s.c) ≡ holds s.xs y
  some-number y = go (holds s.xs y) refl
    where
      go : (b : Bool) → holds s.xs y ≡ b → list_any (λ k. Have y k && true) (one_to s.c) ≡ b
      go true h = let t = number-of s.xs W s.c s.in_range y h in
          any-run (λ k. Have y k && true) 1 s.c t.0 t.2 t.3
          (ap (λ b. (b && same_int (W y) (pos t.0)) && true) h ∙ ap (λ b. b && true) (ap (λ z. same_int z (pos t.0)) t.1
          ∙ same_int-itself (pos t.0)))
      go false h = any-none (λ k. Have y k && true) (one_to s.c) (λ k. ap (λ b. (b && same_int (W y) k) && true) h)

  pub one-means : (x : Text) (a : Ex) (y : Value) → Unused x a → meaning a env ≡ Some y →
      MembersTold (node_ex false set_literal (more_exs a no_exs)) dd env →
      meaning (node_ex true (word Fun.Together) (more_exs (node_ex false set_literal (more_exs a no_exs)) (more_exs V no_exs))) env ≡
      meaning (is_one_of x dd a) env
  one-means x a y new q told = together-means ms es dd m w js env met s n enough (node_ex false set_literal (more_exs a no_exs)) (set_of (y ∷ []))
      (ap (λ o. value_of_node set_literal (o ∷ [])) q) told
      ∙ ap (λ b. Some (truth b)) (some-number y)
      ∙ sym (any-means env (ex2 true Op2.Eq (name_ex x) a) (over (name_pat x) dd no_gens) (bits (λ v. same v y) s.xs)
      (ap (λ o. and_then o (λ vs. collect vs At)) (ap members_in s.inner_is ∙ s.members_are) ∙ collect-bits s.xs At (λ v. same v y)
      (each-any s.xs _ (λ v. ap (option_map (λ w. w ∷ []))
      (binary-means (behind x v env) true Op2.Eq (name_ex x) a v y (name-behind x v env) (meaning-behind x v a env new ∙ q)))))
      ∙ ap (λ b. Some (truth b)) (any-bits (λ v. same v y) s.xs ∙ any-same s.xs y))
    where
      At : Value → Option (List Value)
      At v = option_map (λ w. w ∷ []) (meaning (ex2 true Op2.Eq (name_ex x) a) (behind x v env))

  -- ---- several terms

  -- Whether two values are members with one number.
  abbrev SameNumber : Value → Value → Bool
  SameNumber y z = (holds s.xs y && holds s.xs z) && same_int (W y) (W z)

  -- The number of a term that is told, where it is a member.
  cell-of : (a : Ex) (y : Value) → meaning a env ≡ Some y → Tells y dd env → (b : Bool) → holds s.xs y ≡ b →
      meaning (NumberOf ms es dd m w js env met s n enough a) env ≡ (if b then Some (number (W y)) else None)
  cell-of a y q told true h = cell-held ms es dd m w js env met s n enough a y q h
  cell-of a y q told false h = cell-missing ms es dd m w js env met s n enough a y q told h

  equal-means : (a b : Ex) (y z : Value) → meaning a env ≡ Some y → meaning b env ≡ Some z → Tells y dd env → Tells z dd env →
      meaning (ex2 true Op2.Eq (NumberOf ms es dd m w js env met s n enough a) (NumberOf ms es dd m w js env met s n enough b)) env ≡
      Some (truth (SameNumber y z))
  equal-means a b y z p q ty tz =
      ap (λ o. false_where_undefined true (value_of_node (binary Op2.Eq)
      (o ∷ meaning (NumberOf ms es dd m w js env met s n enough b) env ∷ []))) (cell-of a y p ty (holds s.xs y) refl)
      ∙ ap (λ o. false_where_undefined true (value_of_node (binary Op2.Eq)
      ((if holds s.xs y then Some (number (W y)) else None) ∷ o ∷ []))) (cell-of b z q tz (holds s.xs z) refl)
      ∙ go (holds s.xs y) (holds s.xs z)
    where
      go : (c d : Bool) → false_where_undefined true (value_of_node (binary Op2.Eq)
          ((if c then Some (number (W y)) else None) ∷ (if d then Some (number (W z)) else None) ∷ [])) ≡
          Some (truth ((c && d) && same_int (W y) (W z)))
      go true true = refl
      go true false = refl
      go false true = refl
      go false false = refl

  -- Terms with their values, which are told.
  abbrev pub Valued : Exs → List Value → Type 0
  Valued no_exs [] = Unit {0}
  Valued no_exs (v ∷ vs) = ⊥
  Valued (more_exs b bs) [] = ⊥
  Valued (more_exs b bs) (v ∷ vs) = (meaning b env ≡ Some v) × Tells v dd env × Valued bs vs

  have-means : (a : Ex) (y : Value) → meaning a env ≡ Some y → Tells y dd env → (bs : Exs) (zs : List Value) → Valued bs zs →
      meaning (have_number_of w js a bs) env ≡ Some (truth (list_all (SameNumber y) zs))
  have-means a y q t no_exs [] u = refl
  have-means a y q t no_exs (z ∷ zs) u = absurd u
  have-means a y q t (more_exs b bs) [] u = absurd u
  have-means a y q t (more_exs b no_exs) (z ∷ []) u = equal-means a b y z q u.0 t u.1
      ∙ ap (λ c. Some (truth c)) (and-true (SameNumber y z))
  have-means a y q t (more_exs b no_exs) (z ∷ x ∷ zs) u = absurd u.2
  have-means a y q t (more_exs b (more_exs c cs)) (z ∷ zs) u = and-means env
      (ex2 true Op2.Eq (NumberOf ms es dd m w js env met s n enough a) (NumberOf ms es dd m w js env met s n enough b))
      (have_number_of w js a (more_exs c cs)) (SameNumber y z) (list_all (SameNumber y) zs)
      (equal-means a b y z q u.0 t u.1) (have-means a y q t (more_exs c cs) zs u.2)

  -- Structures of its terms.
  pub have-met : (a : Ex) → Meets a env → (bs : Exs) → MeetsAll false bs env → Meets (have_number_of w js a bs) env
  have-met a ma no_exs mb = tt
  have-met a ma (more_exs b no_exs) mb = (put-met js a env met.2 ma, (put-met js b env met.2 mb.0, tt))
  have-met a ma (more_exs b (more_exs c cs)) mb = (
    (put-met js a env met.2 ma, (put-met js b env met.2 mb.0, tt)),
    λ z. (have-met a ma (more_exs c cs) mb.1, tt),
  )

  -- All have the number of the first.
  same-numbers : (y z : Value) (zs : List Value) →
      list_any (λ k. list_all (λ u. Have u k) (y ∷ z ∷ zs)) (one_to s.c) ≡ list_all (SameNumber y) (z ∷ zs)
  same-numbers y z zs = both-ways _ _ forth back
    where
      each : (k : ℤ) → holds s.xs y ≡ true → W y ≡ k → (us : List Value) → list_all (λ u. Have u k) us ≡ true →
          list_all (SameNumber y) us ≡ true
      each k h e [] a = refl
      each k h e (u ∷ us) a = and-both (SameNumber y u) (list_all (SameNumber y) us)
          (and-both (holds s.xs y && holds s.xs u) (same_int (W y) (W u))
          (and-both (holds s.xs y) (holds s.xs u) h (and-left (holds s.xs u) (same_int (W u) k) (and-left (Have u k) _ a)))
          (ap (λ i. same_int (W y) i) (same_int-equal (W u) k (and-right (holds s.xs u) (same_int (W u) k) (and-left (Have u k) _ a)) ∙ sym e)
          ∙ same_int-itself (W y))) (each k h e us (and-right (Have u k) _ a))

      forth : list_any (λ k. list_all (λ u. Have u k) (y ∷ z ∷ zs)) (one_to s.c) ≡ true → list_all (SameNumber y) (z ∷ zs) ≡ true
      forth h = let f = found-number (λ k. list_all (λ u. Have u k) (y ∷ z ∷ zs)) (one_to s.c) h in
          each f.0 (and-left (holds s.xs y) (same_int (W y) f.0) (and-left (Have y f.0) _ f.1))
          (same_int-equal (W y) f.0 (and-right (holds s.xs y) (same_int (W y) f.0) (and-left (Have y f.0) _ f.1)))
          (z ∷ zs) (and-right (Have y f.0) _ f.1)

      there : (us : List Value) → list_all (SameNumber y) us ≡ true → list_all (λ u. Have u (W y)) us ≡ true
      there [] a = refl
      there (u ∷ us) a = and-both (Have u (W y)) (list_all (λ u. Have u (W y)) us)
          (and-both (holds s.xs u) (same_int (W u) (W y))
          (and-right (holds s.xs y) (holds s.xs u) (and-left (holds s.xs y && holds s.xs u) _ (and-left (SameNumber y u) _ a)))
          (ap (λ i. same_int i (W y)) (sym (same_int-equal (W y) (W u)
          (and-right (holds s.xs y && holds s.xs u) (same_int (W y) (W u)) (and-left (SameNumber y u) _ a)))) ∙ same_int-itself (W y)))
          (there us (and-right (SameNumber y u) _ a))

      back : list_all (SameNumber y) (z ∷ zs) ≡ true → list_any (λ k. list_all (λ u. Have u k) (y ∷ z ∷ zs)) (one_to s.c) ≡ true
      back h = let a = and-left (holds s.xs y) (holds s.xs z) (and-left (holds s.xs y && holds s.xs z) _ (and-left (SameNumber y z) _ h)) in
          let t = number-of s.xs W s.c s.in_range y a in
          any-run (λ k. list_all (λ u. Have u k) (y ∷ z ∷ zs)) 1 s.c t.0 t.2 t.3
          (ap (λ i. list_all (λ u. Have u i) (y ∷ z ∷ zs)) (sym t.1)
          ∙ and-both (Have y (W y)) _ (and-both (holds s.xs y) (same_int (W y) (W y)) a (same_int-itself (W y))) (there (z ∷ zs) h))

  pub several-means : (a b : Ex) (bs : Exs) (y z : Value) (zs : List Value) → Valued (more_exs a (more_exs b bs)) (y ∷ z ∷ zs) →
      MembersTold (node_ex false set_literal (more_exs a (more_exs b bs))) dd env →
      meaning (node_ex true (word Fun.Together) (more_exs (node_ex false set_literal (more_exs a (more_exs b bs))) (more_exs V no_exs))) env
      ≡ meaning (have_number_of w js a (more_exs b bs)) env
  several-means a b bs y z zs u told = together-means ms es dd m w js env met s n enough (node_ex false set_literal (more_exs a (more_exs b bs))) (set_of (y ∷ z ∷ zs))
      (ap (λ o. and_then o (λ vs. Some (set_of vs))) (all-valued (more_exs a (more_exs b bs)) (y ∷ z ∷ zs) u)) told
      ∙ ap (λ b. Some (truth b)) (any-each (λ k. list_all (λ u. Have u k) (items_of (set_of (y ∷ z ∷ zs)))) _ (one_to s.c)
      (λ k. ap (list_all (λ u. Have u k)) (to_list-of_list (sorted_once (y ∷ z ∷ zs))) ∙ all-sorted_once (λ u. Have u k) (y ∷ z ∷ zs))
      ∙ same-numbers y z zs)
      ∙ sym (have-means a y u.0 u.1 (more_exs b bs) (z ∷ zs) u.2)
    where
      all-valued : (bs : Exs) (vs : List Value) → Valued bs vs → all_some (meanings bs env) ≡ Some vs
      all-valued no_exs [] u = refl
      all-valued no_exs (v ∷ vs) u = absurd u
      all-valued (more_exs b bs) [] u = absurd u
      all-valued (more_exs b bs) (v ∷ vs) u = ap (λ o. and_then o (λ x. option_map (λ xs. x ∷ xs) (all_some (meanings bs env)))) u.0
          ∙ ap (option_map (λ xs. v ∷ xs)) (all-valued bs vs u.2)

  -- The values of terms that are there.
  pub valued-of : (bs : Exs) (vs : List Value) → all_some (meanings bs env) ≡ Some vs → ((v : Value) → holds vs v ≡ true → Tells v dd env) →
      Valued bs vs
  valued-of no_exs [] q t = tt
  valued-of no_exs (v ∷ vs) q t = cc
  valued-of (more_exs b bs) vs q t = go (meaning b env) refl (all_some (meanings bs env)) refl q
      (λ us e r. valued-of bs us e r)
    where
      go : (o : Option Value) → meaning b env ≡ o → (p : Option (List Value)) → all_some (meanings bs env) ≡ p →
          and_then o (λ x. option_map (λ xs. x ∷ xs) p) ≡ Some vs →
          ((us : List Value) → all_some (meanings bs env) ≡ Some us → ((v : Value) → holds us v ≡ true → Tells v dd env) → Valued bs us) →
          Valued (more_exs b bs) vs
      go None a p e q r = cc
      go (Some u) a None e q r = cc
      go (Some u) a (Some us) e q r = let z : u ∷ us ≡ vs = cc in subst (Valued (more_exs b bs)) z (
        a,
        t u (ap (λ l. holds l u) (sym z) ∙ ap (λ b. b || holds us u) (same-itself u)),
        r us e (λ v h. t v (ap (λ l. holds l v) (sym z) ∙ ap (λ b. same u v || b) h ∙ or-yes (same u v))),
      )

-- ---- the rule

-- A value that is there.
pub there : (o : Option Value) → is_some o ≡ true → (v : Value) × (o ≡ Some v)
there None h = no h
there (Some v) h = (v, refl)

-- The values of a set of terms that is there.
pub set-there : (es : Exs) (env : Env) → is_some (meaning (node_ex false set_literal es) env) ≡ true →
    (vs : List Value) × (all_some (meanings es env) ≡ Some vs)
set-there es env h = go (all_some (meanings es env)) refl h
  where
    go : (o : Option (List Value)) → all_some (meanings es env) ≡ o → is_some (and_then o (λ vs. Some (set_of vs))) ≡ true →
        (vs : List Value) × (all_some (meanings es env) ≡ Some vs)
    go None e h = no h
    go (Some vs) e h = (vs, e)
