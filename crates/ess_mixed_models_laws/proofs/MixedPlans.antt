-- The plans of a specification of the class: sizes of given types, atoms, sets by which members occur, and nested sets. Their
-- representations fit.
use Rattle.std.proofs.Common.{◌≡◌, refl, sym, ap, ◌∙◌, subst, Bool, true, false, ◌&&◌, ◌||◌, not, if◌then◌else◌, List, [], ◌∷◌, ◌++◌, ◌⊎◌, inl, inr, filter, map, codes, length, Some, None, is_some}
use Rattle.std.specs.List.{list_all}
use Rattle.ess_semantics.specs.declared.words.ReprKind.{ReprKind}
use Rattle.ess_semantics.specs.Lists.{append_all, is_empty}
use Rattle.ess_semantics.specs.Values.{Text}
use Rattle.ess_semantics.specs.Order.{same_text}
use Rattle.ess_semantics.specs.Names.{keys, without}
use Rattle.ess_semantics.specs.Trees.{Repr, repr, no_reprs, no_exs, Dom, bool_dom, int_dom, set_dom, Stm, given, given_enum, let_ex, let_dom, let_enum, let_unnamed, needs, find, such_that, minimise, maximise}
use Rattle.ess_semantics.specs.Domains.{Domain, sets}
use Rattle.ess_semantics.specs.Contexts.{Each}
use Rattle.ess_semantics.specs.TableNames.{free_name, table_names, named_tables}
use Rattle.ess_semantics.specs.Kinds.{fits}
use Rattle.ess_semantics.specs.Meaning.{is_bool_dom}
use Rattle.ess_semantics.specs.Positions.{domain_with_positions}
use Rattle.ess_semantics.specs.Declarations.{declarations}
use Rattle.ess_semantics.specs.Prepared.{prepared}
use Rattle.ess_semantics.specs.Parameters.{all_declared}
use Rattle.ess_semantics.specs.Judgements.{fault}
use Rattle.ess_semantics.specs.Plans.{Options, Side, givens_side, finds_side, Plan, size_plan, value_plan, chosen_reprs, plans, plans_from, plans_of_stm, plans_of_name, names_of_plans, domain_of_stm, is_plan_of}
use Rattle.ess_semantics.proofs.Tests.{and-left, and-right, and-both}
use Rattle.conjure_laws.specs.Premises.{here, PlanFits, Ground, RepresentationFits}
use Rattle.conjure_laws.proofs.Lists.{at-item, all-items, in-filter, each-map, each-append}
use Rattle.conjure_laws.proofs.SetPlans.{Occ}
use Rattle.conjure_settled_laws.proofs.SettledStatements.{typed-is-settled}
use Rattle.ess_flat_models_laws.specs.FlatSpecifications.{given_mark, is_scalar_dom, is_atom_alone}
use Rattle.ess_flat_models_laws.proofs.ScalarDomains.{Atom, is_shape, shape-of, closed-scalar, atom-fits, one-table}
use Rattle.ess_flat_models_laws.proofs.FlatPlans.{AtomPlan, cell_name, one-atom}
use Rattle.ess_mixed_models_laws.specs.MixedSpecifications.{kinds, is_member_dom, is_set_dom, is_occurrence_alone, is_one_fitting, has_few_tables, is_nested_plan, is_nested_kept, is_scalar_kept, is_set_kept, is_mixed_statement, are_mixed_statements}
use Rattle.ess_nested_laws.specs.NestedDomains.{is_nested_dom}
use Rattle.ess_nested_laws.proofs.NestedForms.{nested-form}
use Rattle.ess_mixed_models_laws.proofs.NestedPlans.{nested-plan-fits}
use Rattle.ess_mixed_models_laws.proofs.NamedKinds.{no-yes, MemberDom, of_numbers, of_truths, of_type, member-dom, closed_members, atom-with, atom-typed, sets-closed}

-- ---- tests

-- One of two tests holds.
pub either-test : (b c : Bool) → b || c ≡ true → (b ≡ true) ⊎ (c ≡ true)
either-test true c h = inl refl
either-test false c h = inr h

pub filter-append : {A : Type 0} (f : A → Bool) (xs ys : List A) → filter f (xs ++ ys) ≡ filter f xs ++ filter f ys
filter-append f [] ys = refl
filter-append f (x ∷ xs) ys = go (f x) (filter-append f xs ys)
  where
    go : (b : Bool) → filter f (xs ++ ys) ≡ filter f xs ++ filter f ys →
        (if b then x ∷ filter f (xs ++ ys) else filter f (xs ++ ys)) ≡ (if b then x ∷ filter f xs else filter f xs) ++ filter f ys
    go true e = ap (λ l. x ∷ l) e
    go false e = e

-- ---- plans

-- The name of the table of a set.
abbrev pub set_table : Text → List Text → Text
set_table x taken = free_name taken (x ++ codes "_Occurrence")

module _ (S : List Stm) (o : Options) where
  -- A plan: the size of a given type, an atom, a set by which members occur, or nested sets.
  pub data PlanFact (P : Plan) : Type 0 where
    size_fact : (t n : Text) → P ≡ size_plan t n → PlanFact P
    atom_fact : AtomPlan P → PlanFact P
    set_fact : (x : Text) (A : Dom) (n : Text) → P ≡ value_plan finds_side x Occ (set_dom [] no_exs A) ((n, 1) ∷ []) →
        MemberDom (kinds S) A → is_occurrence_alone (chosen_reprs o x (set_dom [] no_exs A)) ≡ true → PlanFact P
    nested_fact : (x : Text) (r : Repr) (d : Dom) (taken : List Text) →
        P ≡ value_plan finds_side x r d (named_tables x (table_names r d) taken) → is_nested_dom d ≡ true → fits r d ≡ true →
        is_nested_plan (kinds S) P ≡ true → chosen_reprs o x d ≡ r ∷ [] → PlanFact P

  -- A find is a scalar, a set by which members occur, or nested sets.
  pub data FindFact (x : Text) (d : Dom) : Type 0 where
    scalar_find : is_scalar_dom (given_mark (plans S o)) d ≡ true → is_atom_alone (chosen_reprs o x d) ≡ true → FindFact x d
    set_find : (A : Dom) → d ≡ set_dom [] no_exs A → MemberDom (kinds S) A → is_occurrence_alone (chosen_reprs o x d) ≡ true → FindFact x d
    nested_find : (r : Repr) → chosen_reprs o x d ≡ r ∷ [] → is_nested_dom d ≡ true → fits r d ≡ true →
        is_set_dom (kinds S) d && is_occurrence_alone (r ∷ []) ≡ false → FindFact x d

  set-form : (d : Dom) → is_set_dom (kinds S) d ≡ true → (A : Dom) × (d ≡ set_dom [] no_exs A) × MemberDom (kinds S) A
  set-form (set_dom [] no_exs A) h = (A, refl, member-dom (kinds S) A h)
  set-form d h = absurd (no-yes h)

  one-fitting : (d : Dom) (rs : List Repr) → is_one_fitting d rs ≡ true → (r : Repr) × (rs ≡ r ∷ []) × (fits r d ≡ true)
  one-fitting d (r ∷ []) h = (r, refl, h)
  one-fitting d [] h = absurd (no-yes h)
  one-fitting d (r ∷ q ∷ rs) h = absurd (no-yes h)

  nested-kept : (x : Text) (d : Dom) → is_set_kept S o x d ≡ false → is_nested_kept S o x d ≡ true → FindFact x d
  nested-kept x d n h =
      let u : Bool = is_one_fitting d (chosen_reprs o x d) in
      let w : Bool = has_few_tables S o in
      let r = one-fitting d (chosen_reprs o x d) (and-left u w (and-right (is_nested_dom d) (u && w) h)) in
      nested_find r.0 r.1 (and-left (is_nested_dom d) (u && w) h) r.2
      (ap (λ rs. is_set_dom (kinds S) d && is_occurrence_alone rs) (sym r.1) ∙ n)

  pub find-fact : (x : Text) (d : Dom) → is_mixed_statement S o (find x d) ≡ true → FindFact x d
  find-fact x d h = go (either-test (is_scalar_kept S o x d) (is_set_kept S o x d || is_nested_kept S o x d) h)
    where
      set : is_set_kept S o x d ≡ true → FindFact x d
      set k =
          let r = set-form d (and-left (is_set_dom (kinds S) d) (is_occurrence_alone (chosen_reprs o x d)) k) in
          set_find r.0 r.1 r.2 (and-right (is_set_dom (kinds S) d) (is_occurrence_alone (chosen_reprs o x d)) k)

      others : (b : Bool) → is_set_kept S o x d ≡ b → b || is_nested_kept S o x d ≡ true → FindFact x d
      others true e k = set e
      others false e k = nested-kept x d e k

      go : (is_scalar_kept S o x d ≡ true) ⊎ (is_set_kept S o x d || is_nested_kept S o x d ≡ true) → FindFact x d
      go (inl k) = scalar_find (and-left (is_scalar_dom (given_mark (plans S o)) d) (is_atom_alone (chosen_reprs o x d)) k)
          (and-right (is_scalar_dom (given_mark (plans S o)) d) (is_atom_alone (chosen_reprs o x d)) k)
      go (inr k) = others (is_set_kept S o x d) refl k

  -- The plan of a set.
  pub one-set : (x : Text) {A : Dom} (m : MemberDom (kinds S) A) (rs : List Repr) (taken : List Text) → is_occurrence_alone rs ≡ true →
      plans_of_name finds_side x (set_dom [] no_exs A) rs taken
      ≡ value_plan finds_side x Occ (set_dom [] no_exs A) ((set_table x taken, 1) ∷ []) ∷ []
  one-set x of_numbers (repr ReprKind.Occurrence no_reprs ∷ []) taken h = refl
  one-set x of_truths (repr ReprKind.Occurrence no_reprs ∷ []) taken h = refl
  one-set x (of_type e) (repr ReprKind.Occurrence no_reprs ∷ []) taken h = refl
  one-set x m rs taken h = absurd (no-yes h)

  -- The plans of a find.
  pub find-plan : (x : Text) (d : Dom) (taken : List Text) → FindFact x d →
      (P : Plan) × (plans_of_name finds_side x d (chosen_reprs o x d) taken ≡ P ∷ []) × PlanFact P × ((y : Text) →
      is_plan_of y P ≡ same_text x y)
  find-plan x d taken (scalar_find s a) = (
    value_plan finds_side x Atom d ((cell_name x taken, 0) ∷ []),
    one-atom finds_side x d (chosen_reprs o x d) taken a,
    atom_fact (record { f = finds_side; x = x; d = d; n = cell_name x taken; is = refl; scalar = shape-of (given_mark (plans S o)) d s }),
    λ y. refl,
  )
  find-plan x d taken (set_find A e m a) = (
    value_plan finds_side x Occ (set_dom [] no_exs A) ((set_table x taken, 1) ∷ []),
    ap (λ c. plans_of_name finds_side x c (chosen_reprs o x d) taken) e ∙ one-set x m (chosen_reprs o x d) taken a,
    set_fact x A (set_table x taken) refl m (ap (λ c. is_occurrence_alone (chosen_reprs o x c)) (sym e) ∙ a),
    λ y. refl,
  )
  find-plan x d taken (nested_find r e n f k) = (
    value_plan finds_side x r d (named_tables x (table_names r d) taken),
    ap (λ rs. plans_of_name finds_side x d rs taken) e,
    nested_fact x r d taken refl n f
        (and-both (is_nested_dom d) (not (is_set_dom (kinds S) d && is_occurrence_alone (r ∷ []))) n (ap not k)) e,
    λ y. refl,
  )

  -- The plan of a given.
  pub given-kept : (x : Text) (d : Dom) (taken : List Text) → is_scalar_kept S o x d ≡ true →
      plans_of_name givens_side x d (chosen_reprs o x d) taken ≡ value_plan givens_side x Atom d ((cell_name x taken, 0) ∷ []) ∷ []
  given-kept x d taken h = one-atom givens_side x d (chosen_reprs o x d) taken (and-right (is_scalar_dom (given_mark (plans S o)) d)
      (is_atom_alone (chosen_reprs o x d)) h)

  -- The plans of a statement.
  stm-plans : (s : Stm) (declared done : List Text) → is_mixed_statement S o s ≡ true → Each (plans_of_stm s o declared done) PlanFact
  stm-plans (given x d) declared done h = subst (λ l. Each l PlanFact) (sym (given-kept x d (without x declared ++ done) h)) (
    atom_fact (record {
      f = givens_side;
      x = x;
      d = d;
      n = cell_name x (without x declared ++ done);
      is = refl;
      scalar = shape-of (given_mark (plans S o)) d (and-left (is_scalar_dom (given_mark (plans S o)) d) (is_atom_alone
          (chosen_reprs o x d)) h);
    }),
    tt,
  )
  stm-plans (find x d) declared done h =
      let r = find-plan x d (without x declared ++ done) (find-fact x d h) in subst (λ l. Each l PlanFact) (sym r.1) (r.2, tt)
  stm-plans (given_enum t) declared done h = (size_fact t (free_name (declared ++ done) (t ++ codes "_Size")) refl, tt)
  stm-plans (let_enum t ns) declared done h = tt
  stm-plans (let_unnamed t e) declared done h = tt
  stm-plans (let_ex x e) declared done h = tt
  stm-plans (let_dom x d) declared done h = tt
  stm-plans (needs e) declared done h = tt
  stm-plans (such_that e) declared done h = tt
  stm-plans (minimise e) declared done h = tt
  stm-plans (maximise e) declared done h = tt

  facts-from : (T : List Stm) (declared done : List Text) → list_all (is_mixed_statement S o) T ≡ true →
      Each (plans_from T o declared done) PlanFact
  facts-from [] declared done h = tt
  facts-from (s ∷ T) declared done h =
      let Qs : List Plan = plans_of_stm s o declared done in
      each-append PlanFact Qs (plans_from T o declared (keys (names_of_plans Qs) ++ done))
      (stm-plans s declared done (and-left (is_mixed_statement S o s) (list_all (is_mixed_statement S o) T) h))
      (facts-from T declared (keys (names_of_plans Qs) ++ done)
      (and-right (is_mixed_statement S o s) (list_all (is_mixed_statement S o) T) h))

  -- ---- nested plans

  member-true : {A : Dom} → MemberDom (kinds S) A → is_member_dom (kinds S) A ≡ true
  member-true of_numbers = refl
  member-true of_truths = refl
  member-true (of_type e) = ap is_some e

  not-both : (b c : Bool) → c ≡ true → b && not (c && true) ≡ false
  not-both true c e = ap (λ c. not (c && true)) e
  not-both false c e = refl

  -- A plan of a set by which members occur is no nested one.
  pub set-single : (x : Text) {A : Dom} (n : Text) → MemberDom (kinds S) A →
      is_nested_plan (kinds S) (value_plan finds_side x Occ (set_dom [] no_exs A) ((n, 1) ∷ [])) ≡ false
  set-single x {A = A} n m = not-both (is_nested_dom (set_dom [] no_exs A)) (is_member_dom (kinds S) A) (member-true m)

  -- A domain of scalars is none of nested sets.
  pub shape-single : (d : Dom) → is_shape d ≡ true → is_nested_dom d ≡ false
  shape-single bool_dom s = refl
  shape-single (int_dom rs es) s = refl
  shape-single d s = absurd (no-yes s)

  -- Nor is one of an atom.
  pub atom-single : (f : Side) (x : Text) (d : Dom) (n : Text) → is_shape d ≡ true →
      is_nested_plan (kinds S) (value_plan f x Atom d ((n, 0) ∷ [])) ≡ false
  atom-single f x d n s = ap (λ b. b && not (is_set_dom (kinds S) d && is_occurrence_alone (Atom ∷ []))) (shape-single d s)

  -- ---- representations

  not-empty : (rs : List Repr) → is_atom_alone rs ≡ true → is_empty rs ≡ false
  not-empty (r ∷ rs) h = refl
  not-empty [] h = cc

  not-empty-set : (rs : List Repr) → is_occurrence_alone rs ≡ true → is_empty rs ≡ false
  not-empty-set (r ∷ rs) h = refl
  not-empty-set [] h = cc

  chosen-find : (x : Text) (d : Dom) → FindFact x d → is_empty (chosen_reprs o x d) ≡ false
  chosen-find x d (scalar_find s a) = not-empty (chosen_reprs o x d) a
  chosen-find x d (set_find A e m a) = not-empty-set (chosen_reprs o x d) a
  chosen-find x d (nested_find r e n f k) = ap is_empty e

  stm-chosen : (s : Stm) → is_mixed_statement S o s ≡ true → Each (domain_of_stm s) (λ x. is_empty (chosen_reprs o x.0 x.1) ≡ false)
  stm-chosen (given x d) h = (
    not-empty (chosen_reprs o x d) (and-right (is_scalar_dom (given_mark (plans S o)) d) (is_atom_alone
        (chosen_reprs o x d)) h),
    tt,
  )
  stm-chosen (find x d) h = (chosen-find x d (find-fact x d h), tt)
  stm-chosen (given_enum t) h = tt
  stm-chosen (let_enum t ns) h = tt
  stm-chosen (let_unnamed t e) h = tt
  stm-chosen (let_ex x e) h = tt
  stm-chosen (let_dom x d) h = tt
  stm-chosen (needs e) h = tt
  stm-chosen (such_that e) h = tt
  stm-chosen (minimise e) h = tt
  stm-chosen (maximise e) h = tt

  chosen-from : (T : List Stm) → list_all (is_mixed_statement S o) T ≡ true →
      Each (append_all (map domain_of_stm T)) (λ x. is_empty (chosen_reprs o x.0 x.1) ≡ false)
  chosen-from [] h = tt
  chosen-from (s ∷ T) h = each-append (λ x. is_empty (chosen_reprs o x.0 x.1) ≡ false) (domain_of_stm s) (append_all (map domain_of_stm T))
      (stm-chosen s (and-left (is_mixed_statement S o s) (list_all (is_mixed_statement S o) T) h))
      (chosen-from T (and-right (is_mixed_statement S o s) (list_all (is_mixed_statement S o) T) h))

  -- ---- the whole specification

  module _ (h : are_mixed_statements S o ≡ true) where
    abbrev Ps : List Plan
    Ps = plans S o

    -- Each plan is one.
    pub all-facts : Each Ps PlanFact
    all-facts = facts-from (prepared S) (all_declared S) (codes "alldifferent_except" ∷ []) h

    -- So is each of some plans.
    pub some-facts : (g : Plan → Bool) → Each (filter g Ps) PlanFact
    some-facts g = all-items PlanFact (filter g Ps) (λ P i. at-item PlanFact Ps P all-facts (in-filter g P Ps i).0)

    module _ (f : fault S ≡ None) where
      plan-fits : (P : Plan) → PlanFact P → PlanFits S P
      plan-fits P (size_fact t n e) = subst (PlanFits S) (sym e) tt
      plan-fits P (atom_fact a) = subst (PlanFits S) (sym a.is) (λ p e Q c.
          let z = closed-scalar a.d (here S p) e a.scalar c in
          (atom-fits e (is_bool_dom a.d) z, sym (one-table e (is_bool_dom a.d) z)))
      plan-fits P (set_fact x A n e m a) = subst (PlanFits S) (sym e) (λ p d Q c.
          subst (λ d. RepresentationFits Occ d × (1 ≡ length (declarations Occ (domain_with_positions d))))
          (one (sets [] (closed_members p m)) d (sym (sets-closed S f p Q m) ∙ c))
          (record { typed = atom-typed p m; roomy = atom-with p m }, refl))
        where
          one : (d e : Domain) → Some d ≡ Some e → d ≡ e
          one d e c = cc
      plan-fits P (nested_fact x r d taken e n g k c) =
          subst (PlanFits S) (sym e) (nested-plan-fits S finds_side x r d taken (nested-form 250 d n) g)

      -- What speaks of no model.
      pub ground : Ground S o
      ground = record {
        settled = typed-is-settled S f;
        chosen = chosen-from (prepared S) h;
        fit = each-map Ps PlanFact (PlanFits S) plan-fits all-facts;
      }
