-- Each find of a specification of the class has one plan.
use Rattle.std.proofs.Common.{◌≡◌, refl, sym, ap, ◌∙◌, subst, Bool, true, false, ◌||◌, if◌then◌else◌, List, [], ◌∷◌, ◌++◌, ◌⊎◌, inl, inr, filter, codes}
use Rattle.std.specs.List.{list_all}
use Rattle.ess_semantics.specs.Values.{Text}
use Rattle.ess_semantics.specs.Order.{same_text}
use Rattle.ess_semantics.specs.Names.{keys, is_among, all_distinct, without}
use Rattle.ess_semantics.specs.Trees.{Stm, given, given_enum, let_ex, let_dom, let_enum, let_unnamed, needs, find, such_that, minimise, maximise}
use Rattle.ess_semantics.specs.Prepared.{prepared}
use Rattle.ess_semantics.specs.Parameters.{all_declared}
use Rattle.ess_semantics.specs.Solutions.{finds, find_of}
use Rattle.ess_semantics.specs.Plans.{Options, Plan, plans, plans_from, plans_of_stm, names_of_plans, is_plan_of}
use Rattle.ess_semantics.proofs.Tests.{and-left, and-right}
use Rattle.ess_semantics.proofs.Texts.{same_text-itself}
use Rattle.conjure_laws.specs.Members.{In}
use Rattle.conjure_laws.proofs.Lists.{at-item, in-either}
use Rattle.conjure_laws.proofs.FreeNames.{halves}
use Rattle.conjure_laws.proofs.NamedTables.{among-in, in-among}
use Rattle.conjure_laws.proofs.Statements.{finds-prepared}
use Rattle.ess_mixed_models_laws.specs.MixedSpecifications.{is_mixed_statement, are_mixed_statements}
use Rattle.ess_mixed_models_laws.proofs.NamedKinds.{no-yes}
use Rattle.ess_mixed_models_laws.proofs.MixedPlans.{filter-append, find-fact, find-plan, given-kept}

module _ (S : List Stm) (o : Options) where
  -- ---- the plan of a find

  -- The plans of a find among those of a statement: one, where the statement declares it, else none.
  record OfStm (s : Stm) (Qs : List Plan) (x : Text) : Type 0 where
    pub none : is_among (find_of s) x ≡ false → filter (is_plan_of x) Qs ≡ []
    pub one : In x (find_of s) → (P : Plan) × (filter (is_plan_of x) Qs ≡ P ∷ [])

  stm-found : (s : Stm) (declared done : List Text) (x : Text) → is_mixed_statement S o s ≡ true →
      OfStm s (plans_of_stm s o declared done) x
  stm-found (given y d) declared done x h = record {
    none = λ n. ap (filter (is_plan_of x)) (given-kept S o y d (without y declared ++ done) h);
    one = λ i. absurd i;
  }
  stm-found (find y d) declared done x h =
      let r = find-plan S o y d (without y declared ++ done) (find-fact S o y d h) in
      let e : filter (is_plan_of x) (plans_of_stm (find y d) o declared done) ≡ (if same_text y x then r.0 ∷ [] else []) =
      ap (filter (is_plan_of x)) r.1 ∙ ap (λ b. if b then r.0 ∷ [] else []) (r.3 x) in record {
        none = λ n. e ∙ ap (λ b. if b then r.0 ∷ [] else []) (left-no (same_text y x) n);
        one = λ i. (r.0, e ∙ ap (λ b. if b then r.0 ∷ [] else []) (at i));
      }
    where
      left-no : (b : Bool) → b || false ≡ false → b ≡ false
      left-no false e = refl
      left-no true e = e

      at : (x ≡ y) ⊎ ⊥ → same_text y x ≡ true
      at (inl e) = ap (λ z. same_text z x) (sym e) ∙ same_text-itself x
      at (inr e) = absurd e
  stm-found (given_enum t) declared done x h = record { none = λ n. refl; one = λ i. absurd i }
  stm-found (let_enum t ns) declared done x h = record { none = λ n. refl; one = λ i. absurd i }
  stm-found (let_unnamed t e) declared done x h = record { none = λ n. refl; one = λ i. absurd i }
  stm-found (let_ex y e) declared done x h = record { none = λ n. refl; one = λ i. absurd i }
  stm-found (let_dom y d) declared done x h = record { none = λ n. refl; one = λ i. absurd i }
  stm-found (needs e) declared done x h = record { none = λ n. refl; one = λ i. absurd i }
  stm-found (such_that e) declared done x h = record { none = λ n. refl; one = λ i. absurd i }
  stm-found (minimise e) declared done x h = record { none = λ n. refl; one = λ i. absurd i }
  stm-found (maximise e) declared done x h = record { none = λ n. refl; one = λ i. absurd i }

  not-in : (ns : List Text) (x : Text) → is_among ns x ≡ false → In x ns → ⊥
  not-in ns x n i = let z : false ≡ true = sym n ∙ in-among ns x i in no-yes z

  among-no : (ns : List Text) (x : Text) → (In x ns → ⊥) → is_among ns x ≡ false
  among-no ns x f = go (is_among ns x) refl
    where
      go : (b : Bool) → is_among ns x ≡ b → is_among ns x ≡ false
      go false e = e
      go true e = absurd (f (among-in ns x e))

  no-plan : (T : List Stm) (declared done : List Text) (x : Text) → list_all (is_mixed_statement S o) T ≡ true → (In x (finds T) → ⊥) →
      filter (is_plan_of x) (plans_from T o declared done) ≡ []
  no-plan [] declared done x h n = refl
  no-plan (s ∷ T) declared done x h n =
      let Qs : List Plan = plans_of_stm s o declared done in
      let rest : List Plan = plans_from T o declared (keys (names_of_plans Qs) ++ done) in
      filter-append (is_plan_of x) Qs rest
      ∙ ap (λ l. l ++ filter (is_plan_of x) rest)
      ((stm-found s declared done x (and-left (is_mixed_statement S o s) (list_all (is_mixed_statement S o) T) h)).none
      (among-no (find_of s) x (λ i. n (in-left' (find_of s) (finds T) i))))
      ∙ no-plan T declared (keys (names_of_plans Qs) ++ done) x (and-right (is_mixed_statement S o s) (list_all
      (is_mixed_statement S o) T) h)
      (λ i. n (in-right' (find_of s) (finds T) i))
    where
      in-left' : (xs ys : List Text) → In x xs → In x (xs ++ ys)
      in-left' [] ys i = absurd i
      in-left' (y ∷ xs) ys (inl e) = inl e
      in-left' (y ∷ xs) ys (inr i) = inr (in-left' xs ys i)

      in-right' : (xs ys : List Text) → In x ys → In x (xs ++ ys)
      in-right' [] ys i = i
      in-right' (y ∷ xs) ys i = inr (in-right' xs ys i)

  one-plan : (T : List Stm) (declared done : List Text) (x : Text) → list_all (is_mixed_statement S o) T ≡ true →
      all_distinct (finds T) ≡ true → In x (finds T) → (P : Plan) × (filter (is_plan_of x) (plans_from T o declared done) ≡ P ∷ [])
  one-plan [] declared done x h d i = absurd i
  one-plan (s ∷ T) declared done x h d i =
      let Qs : List Plan = plans_of_stm s o declared done in
      let rest : List Plan = plans_from T o declared (keys (names_of_plans Qs) ++ done) in
      let a = and-left (is_mixed_statement S o s) (list_all (is_mixed_statement S o) T) h in
      let b = and-right (is_mixed_statement S o s) (list_all (is_mixed_statement S o) T) h in
      let c = halves (find_of s) (finds T) d in
      go Qs rest (stm-found s declared done x a) (λ i. at-item (λ x. is_among (finds T) x ≡ false) (find_of s) x c.2 i)
      (λ n. no-plan T declared (keys (names_of_plans Qs) ++ done) x b n)
      (one-plan T declared (keys (names_of_plans Qs) ++ done) x b c.1)
      (in-either x (find_of s) (finds T) i)
    where
      go : (Qs rest : List Plan) → OfStm s Qs x → (In x (find_of s) → is_among (finds T) x ≡ false) →
          ((In x (finds T) → ⊥) → filter (is_plan_of x) rest ≡ []) →
          (In x (finds T) → (P : Plan) × (filter (is_plan_of x) rest ≡ P ∷ [])) → In x (find_of s) ⊎ In x (finds T) →
          (P : Plan) × (filter (is_plan_of x) (Qs ++ rest) ≡ P ∷ [])
      go Qs rest w n f g (inl i) =
          let r = w.one i in (
            r.0,
            filter-append (is_plan_of x) Qs rest ∙ ap (λ l. l ++ filter (is_plan_of x) rest) r.1
                ∙ ap (λ l. r.0 ∷ l) (f (not-in (finds T) x (n i))),
          )
      go Qs rest w n f g (inr i) =
          let r = g i in (
            r.0,
            filter-append (is_plan_of x) Qs rest
                ∙ ap (λ l. l ++ filter (is_plan_of x) rest)
                (w.none (among-no (find_of s) x (λ j. not-in (finds T) x (n j) i))) ∙ r.1,
          )

  module _ (h : are_mixed_statements S o ≡ true) where
    abbrev Ps : List Plan
    Ps = plans S o

    -- A find has one plan.
    pub found-plan : (x : Text) → all_distinct (finds S) ≡ true → In x (finds S) → (P : Plan) × (filter (is_plan_of x) Ps ≡ P ∷ [])
    found-plan x n i = one-plan (prepared S) (all_declared S) (codes "alldifferent_except" ∷ []) x h
        (subst (λ l. all_distinct l ≡ true) (sym (finds-prepared S)) n) (subst (In x) (sym (finds-prepared S)) i)
