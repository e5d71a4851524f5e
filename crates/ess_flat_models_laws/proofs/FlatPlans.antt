-- The plans of a specification of the class: atoms, one for each given and find.
use Rattle.std.proofs.Common.{◌≡◌, refl, sym, ap, ◌∙◌, subst, Bool, true, false, ◌||◌, not, if◌then◌else◌, List, [], ◌∷◌, ◌++◌, ◌⊎◌, inl, inr, filter, map, codes, None}
use Rattle.std.specs.List.{list_all}
use Rattle.ess_semantics.specs.declared.words.ReprKind.{ReprKind}
use Rattle.ess_semantics.specs.Lists.{append_all, is_empty}
use Rattle.ess_semantics.specs.Values.{Text}
use Rattle.ess_semantics.specs.Order.{same_text}
use Rattle.ess_semantics.specs.Names.{keys, is_among, all_distinct, without}
use Rattle.ess_semantics.specs.Trees.{Repr, repr, no_reprs, Dom, Stm, given, let_ex, let_dom, needs, find, such_that, minimise, maximise}
use Rattle.ess_semantics.specs.Contexts.{Each}
use Rattle.ess_semantics.specs.TableNames.{free_name}
use Rattle.ess_semantics.specs.Meaning.{is_bool_dom}
use Rattle.ess_semantics.specs.Prepared.{prepared}
use Rattle.ess_semantics.specs.Parameters.{all_declared}
use Rattle.ess_semantics.specs.Solutions.{finds}
use Rattle.ess_semantics.specs.Judgements.{fault}
use Rattle.ess_semantics.specs.Plans.{Options, Side, givens_side, finds_side, Plan, value_plan, chosen_reprs, plans, plans_from, plans_of_name, names_of_plans, domain_of_stm, is_plan_of}
use Rattle.ess_semantics.proofs.Tests.{and-left, and-right}
use Rattle.ess_rules_laws.proofs.Agreement.{same_text-equal, same_text-itself}
use Rattle.conjure_laws.specs.Members.{In}
use Rattle.conjure_laws.specs.Premises.{here, PlanFits, Ground}
use Rattle.conjure_laws.proofs.Lists.{at-item, all-items, in-filter, each-map}
use Rattle.conjure_laws.proofs.Statements.{finds-prepared}
use Rattle.conjure_settled_laws.proofs.SettledStatements.{typed-is-settled}
use Rattle.ess_flat_models_laws.specs.FlatSpecifications.{given_mark, is_scalar_dom, is_atom_alone, is_flat_statement, are_flat_statements}
use Rattle.ess_flat_models_laws.proofs.ScalarDomains.{Atom, is_shape, shape-of, closed-scalar, atom-fits, one-table}

-- A plan of a scalar.
pub record AtomPlan (P : Plan) : Type 0 where
  pub f : Side
  pub x : Text
  pub d : Dom
  pub n : Text
  pub is : P ≡ value_plan f x Atom d ((n, 0) ∷ [])
  pub scalar : is_shape d ≡ true

-- The name of the cell.
abbrev pub cell_name : Text → List Text → Text
cell_name x taken = free_name taken (x ++ [])

-- The plans of a given or find.
pub one-atom : (f : Side) (x : Text) (d : Dom) (rs : List Repr) (taken : List Text) → is_atom_alone rs ≡ true →
    plans_of_name f x d rs taken ≡ value_plan f x Atom d ((cell_name x taken, 0) ∷ []) ∷ []
one-atom f x d (repr ReprKind.Atom no_reprs ∷ []) taken h = refl
one-atom f x d rs taken h = cc

no : false ≡ true → ⊥
no e = cc

not-empty : (rs : List Repr) → is_atom_alone rs ≡ true → is_empty rs ≡ false
not-empty (r ∷ rs) h = refl
not-empty [] h = cc

filter-append : {A : Type 0} (f : A → Bool) (xs ys : List A) → filter f (xs ++ ys) ≡ filter f xs ++ filter f ys
filter-append f [] ys = refl
filter-append f (x ∷ xs) ys = go (f x) (filter-append f xs ys)
  where
    go : (b : Bool) → filter f (xs ++ ys) ≡ filter f xs ++ filter f ys →
        (if b then x ∷ filter f (xs ++ ys) else filter f (xs ++ ys)) ≡ (if b then x ∷ filter f xs else filter f xs) ++ filter f ys
    go true e = ap (λ l. x ∷ l) e
    go false e = e

module _ (Ps : List Plan) (o : Options) where
  abbrev flat : Stm → Bool
  flat = is_flat_statement Ps o

  head : (s : Stm) (T : List Stm) → list_all flat (s ∷ T) ≡ true → flat s ≡ true
  head s T h = and-left (flat s) (list_all flat T) h

  tail : (s : Stm) (T : List Stm) → list_all flat (s ∷ T) ≡ true → list_all flat T ≡ true
  tail s T h = and-right (flat s) (list_all flat T) h

  -- The plans from a given or find on.
  pub plans-of-one : (f : Side) (x : Text) (d : Dom) (T : List Stm) (declared done : List Text) → is_atom_alone
      (chosen_reprs o x d) ≡ true →
      plans_of_name f x d (chosen_reprs o x d) (without x declared ++ done)
      ++ plans_from T o declared (keys (names_of_plans (plans_of_name f x d (chosen_reprs o x d) (without x declared ++ done))) ++ done)
      ≡ value_plan f x Atom d ((cell_name x (without x declared ++ done), 0) ∷ [])
      ∷ plans_from T o declared (cell_name x (without x declared ++ done) ∷ done)
  plans-of-one f x d T declared done h =
      ap (λ l. l ++ plans_from T o declared (keys (names_of_plans l) ++ done))
      (one-atom f x d (chosen_reprs o x d) (without x declared ++ done) h)

  facts-from : (T : List Stm) (declared done : List Text) → list_all flat T ≡ true → Each (plans_from T o declared done) AtomPlan
  facts-from [] declared done h = tt
  facts-from (given x d ∷ T) declared done h =
      let i = head (given x d) T h in
      let s = shape-of (given_mark Ps) d (and-left (is_scalar_dom (given_mark Ps) d) (is_atom_alone (chosen_reprs o x d)) i) in
      let a = and-right (is_scalar_dom (given_mark Ps) d) (is_atom_alone (chosen_reprs o x d)) i in
      subst (λ l. Each l AtomPlan) (sym (plans-of-one givens_side x d T declared done a)) (
        record { f = givens_side; x = x; d = d; n = cell_name x (without x declared ++ done); is = refl; scalar = s },
        facts-from T declared (cell_name x (without x declared ++ done) ∷ done) (tail (given x d) T h),
      )
  facts-from (find x d ∷ T) declared done h =
      let i = head (find x d) T h in
      let s = shape-of (given_mark Ps) d (and-left (is_scalar_dom (given_mark Ps) d) (is_atom_alone (chosen_reprs o x d)) i) in
      let a = and-right (is_scalar_dom (given_mark Ps) d) (is_atom_alone (chosen_reprs o x d)) i in
      subst (λ l. Each l AtomPlan) (sym (plans-of-one finds_side x d T declared done a)) (
        record { f = finds_side; x = x; d = d; n = cell_name x (without x declared ++ done); is = refl; scalar = s },
        facts-from T declared (cell_name x (without x declared ++ done) ∷ done) (tail (find x d) T h),
      )
  facts-from (needs e ∷ T) declared done h = facts-from T declared done (tail (needs e) T h)
  facts-from (let_ex y e ∷ T) declared done h = facts-from T declared done (tail (let_ex y e) T h)
  facts-from (let_dom y d ∷ T) declared done h = facts-from T declared done (tail (let_dom y d) T h)
  facts-from (minimise e ∷ T) declared done h = facts-from T declared done (tail (minimise e) T h)
  facts-from (maximise e ∷ T) declared done h = facts-from T declared done (tail (maximise e) T h)
  facts-from (such_that e ∷ T) declared done h = facts-from T declared done (tail (such_that e) T h)
  facts-from (s ∷ T) declared done h = absurd (no h)

  -- ---- the plan of a find

  no-plan : (T : List Stm) (declared done : List Text) (x : Text) → list_all flat T ≡ true → is_among (finds T) x ≡ false →
      filter (is_plan_of x) (plans_from T o declared done) ≡ []
  no-plan [] declared done x h n = refl
  no-plan (given y d ∷ T) declared done x h n =
      let a = and-right (is_scalar_dom (given_mark Ps) d) (is_atom_alone (chosen_reprs o y d)) (head (given y d) T h) in
      ap (filter (is_plan_of x)) (plans-of-one givens_side y d T declared done a)
      ∙ no-plan T declared (cell_name y (without y declared ++ done) ∷ done) x (tail (given y d) T h) n
  no-plan (find y d ∷ T) declared done x h n =
      let a = and-right (is_scalar_dom (given_mark Ps) d) (is_atom_alone (chosen_reprs o y d)) (head (find y d) T h) in
      ap (filter (is_plan_of x)) (plans-of-one finds_side y d T declared done a)
      ∙ go (same_text y x) (is_among (finds T) x) n
      (no-plan T declared (cell_name y (without y declared ++ done) ∷ done) x (tail (find y d) T h))
    where
      rest : List Plan
      rest = plans_from T o declared (cell_name y (without y declared ++ done) ∷ done)

      P : Plan
      P = value_plan finds_side y Atom d ((cell_name y (without y declared ++ done), 0) ∷ [])

      go : (b c : Bool) → b || c ≡ false → (c ≡ false → filter (is_plan_of x) rest ≡ []) →
          (if b then P ∷ filter (is_plan_of x) rest else filter (is_plan_of x) rest) ≡ []
      go true c e i = cc
      go false c e i = i e
  no-plan (needs e ∷ T) declared done x h n = no-plan T declared done x (tail (needs e) T h) n
  no-plan (let_ex y e ∷ T) declared done x h n = no-plan T declared done x (tail (let_ex y e) T h) n
  no-plan (let_dom y d ∷ T) declared done x h n = no-plan T declared done x (tail (let_dom y d) T h) n
  no-plan (minimise e ∷ T) declared done x h n = no-plan T declared done x (tail (minimise e) T h) n
  no-plan (maximise e ∷ T) declared done x h n = no-plan T declared done x (tail (maximise e) T h) n
  no-plan (such_that e ∷ T) declared done x h n = no-plan T declared done x (tail (such_that e) T h) n
  no-plan (s ∷ T) declared done x h n = let z : false ≡ true = h in cc

  -- Each find has one plan.
  one-plan : (T : List Stm) (declared done : List Text) (x : Text) → list_all flat T ≡ true → all_distinct (finds T) ≡ true →
      In x (finds T) → (P : Plan) × (filter (is_plan_of x) (plans_from T o declared done) ≡ P ∷ [])
  one-plan [] declared done x h n i = absurd i
  one-plan (given y d ∷ T) declared done x h n i =
      let a = and-right (is_scalar_dom (given_mark Ps) d) (is_atom_alone (chosen_reprs o y d)) (head (given y d) T h) in
      let r = one-plan T declared (cell_name y (without y declared ++ done) ∷ done) x (tail (given y d) T h) n i in
      (r.0, ap (filter (is_plan_of x)) (plans-of-one givens_side y d T declared done a) ∙ r.1)
  one-plan (find y d ∷ T) declared done x h n i =
      let a = and-right (is_scalar_dom (given_mark Ps) d) (is_atom_alone (chosen_reprs o y d)) (head (find y d) T h) in
      let r = go (same_text y x) refl i (and-left (not (is_among (finds T) y)) (all_distinct (finds T)) n)
      (no-plan T declared (cell_name y (without y declared ++ done) ∷ done) x (tail (find y d) T h))
      (one-plan T declared (cell_name y (without y declared ++ done) ∷ done) x (tail (find y d) T h)
      (and-right (not (is_among (finds T) y)) (all_distinct (finds T)) n)) in
      (r.0, ap (filter (is_plan_of x)) (plans-of-one finds_side y d T declared done a) ∙ r.1)
    where
      rest : List Plan
      rest = plans_from T o declared (cell_name y (without y declared ++ done) ∷ done)

      P : Plan
      P = value_plan finds_side y Atom d ((cell_name y (without y declared ++ done), 0) ∷ [])

      no-true : (b : Bool) → not b ≡ true → b ≡ false
      no-true false e = refl
      no-true true e = cc

      go : (b : Bool) → same_text y x ≡ b → (x ≡ y) ⊎ In x (finds T) → not (is_among (finds T) y) ≡ true →
          (is_among (finds T) x ≡ false → filter (is_plan_of x) rest ≡ []) →
          (In x (finds T) → (Q : Plan) × (filter (is_plan_of x) rest ≡ Q ∷ [])) →
          (Q : Plan) × ((if same_text y x then P ∷ filter (is_plan_of x) rest else filter (is_plan_of x) rest) ≡ Q ∷ [])
      go true q i m f g = (
        P,
        ap (λ b. if b then P ∷ filter (is_plan_of x) rest else filter (is_plan_of x) rest) q
            ∙ ap (λ l. P ∷ l) (f (ap (is_among (finds T)) (sym (same_text-equal y x q)) ∙ no-true (is_among (finds T) y) m)),
      )
      go false q (inl e) m f g = let z : false ≡ true = sym q ∙ ap (λ w. same_text w x) (sym e) ∙ same_text-itself x in cc
      go false q (inr i) m f g = let r = g i in (
        r.0,
        ap (λ b. if b then P ∷ filter (is_plan_of x) rest else filter (is_plan_of x) rest) q ∙ r.1,
      )
  one-plan (needs e ∷ T) declared done x h n i = one-plan T declared done x (tail (needs e) T h) n i
  one-plan (let_ex y e ∷ T) declared done x h n i = one-plan T declared done x (tail (let_ex y e) T h) n i
  one-plan (let_dom y d ∷ T) declared done x h n i = one-plan T declared done x (tail (let_dom y d) T h) n i
  one-plan (minimise e ∷ T) declared done x h n i = one-plan T declared done x (tail (minimise e) T h) n i
  one-plan (maximise e ∷ T) declared done x h n i = one-plan T declared done x (tail (maximise e) T h) n i
  one-plan (such_that e ∷ T) declared done x h n i = one-plan T declared done x (tail (such_that e) T h) n i
  one-plan (s ∷ T) declared done x h n i = absurd (no h)

  chosen-from : (T : List Stm) → list_all flat T ≡ true →
      Each (append_all (map domain_of_stm T)) (λ x. is_empty (chosen_reprs o x.0 x.1) ≡ false)
  chosen-from [] h = tt
  chosen-from (given x d ∷ T) h = (
    not-empty (chosen_reprs o x d)
        (and-right (is_scalar_dom (given_mark Ps) d) (is_atom_alone (chosen_reprs o x d)) (head (given x d) T h)),
    chosen-from T (tail (given x d) T h),
  )
  chosen-from (find x d ∷ T) h = (
    not-empty (chosen_reprs o x d) (and-right (is_scalar_dom (given_mark Ps) d) (is_atom_alone (chosen_reprs o x d)) (head (find x d) T h)),
    chosen-from T (tail (find x d) T h),
  )
  chosen-from (needs e ∷ T) h = chosen-from T (tail (needs e) T h)
  chosen-from (let_ex y e ∷ T) h = chosen-from T (tail (let_ex y e) T h)
  chosen-from (let_dom y d ∷ T) h = chosen-from T (tail (let_dom y d) T h)
  chosen-from (minimise e ∷ T) h = chosen-from T (tail (minimise e) T h)
  chosen-from (maximise e ∷ T) h = chosen-from T (tail (maximise e) T h)
  chosen-from (such_that e ∷ T) h = chosen-from T (tail (such_that e) T h)
  chosen-from (s ∷ T) h = absurd (no h)

-- ---- the whole specification

module _ (S : List Stm) (o : Options) (h : are_flat_statements S o ≡ true) where
  abbrev Ps : List Plan
  Ps = plans S o

  -- Each plan is one of a scalar.
  pub all-atoms : Each Ps AtomPlan
  all-atoms = facts-from Ps o (prepared S) (all_declared S) (codes "alldifferent_except" ∷ []) h

  -- So is each of some plans.
  pub some-atoms : (g : Plan → Bool) → Each (filter g Ps) AtomPlan
  some-atoms g = all-items AtomPlan (filter g Ps) (λ P i. at-item AtomPlan Ps P all-atoms (in-filter g P Ps i).0)

  -- A find has one plan.
  pub found-plan : (x : Text) → all_distinct (finds S) ≡ true → In x (finds S) → (P : Plan) × (filter (is_plan_of x) Ps ≡ P ∷ [])
  found-plan x n i = one-plan Ps o (prepared S) (all_declared S) (codes "alldifferent_except" ∷ []) x h
      (subst (λ l. all_distinct l ≡ true) (sym (finds-prepared S)) n) (subst (In x) (sym (finds-prepared S)) i)

  fits : (P : Plan) → AtomPlan P → PlanFits S P
  fits P a = subst (PlanFits S) (sym a.is) (λ p e Q c.
      let z = closed-scalar a.d (here S p) e a.scalar c in
      (atom-fits e (is_bool_dom a.d) z, sym (one-table e (is_bool_dom a.d) z)))

  -- What speaks of no model.
  pub ground : fault S ≡ None → Ground S o
  ground t = record {
    settled = typed-is-settled S t;
    chosen = chosen-from Ps o (prepared S) h;
    fit = each-map Ps AtomPlan (PlanFits S) fits all-atoms;
  }
