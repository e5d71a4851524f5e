-- The sets of a specification of the class: the find, its domain, and its plan, of each name that is asked about.
use Rattle.std.proofs.Common.{◌≡◌, refl, sym, ap, ◌∙◌, subst, ℕ, Bool, true, false, ◌&&◌, not, if◌then◌else◌, List, [], ◌∷◌, ◌++◌, ◌⊎◌, inl, inr, map, codes, Option, Some, None}
use Rattle.ess_semantics.specs.Lists.{append_all, is_some_and}
use Rattle.ess_semantics.specs.Values.{Text}
use Rattle.ess_semantics.specs.Order.{same_text}
use Rattle.ess_semantics.specs.Names.{Names, look, keys, is_among, all_distinct, without}
use Rattle.ess_semantics.specs.Trees.{Repr, no_exs, Ex, number_ex, truth_ex, name_ex, Dom, bool_dom, name_dom, set_dom, Stm, given, find}
use Rattle.ess_semantics.specs.TableNames.{Named, table_names, named_tables}
use Rattle.ess_semantics.specs.Kinds.{fits}
use Rattle.ess_semantics.specs.Prepared.{prepared}
use Rattle.ess_semantics.specs.Parameters.{all_declared}
use Rattle.ess_semantics.specs.Judgements.{fault}
use Rattle.ess_semantics.specs.Plans.{Options, Side, givens_side, finds_side, Plan, size_plan, value_plan, chosen_reprs, kept_names, plans, plans_from, plans_of_stm, names_of_plans, domain_of_stm}
use Rattle.ess_semantics.proofs.Tests.{and-left, and-right}
use Rattle.ess_semantics.proofs.Texts.{same_text-equal, same_text-itself}
use Rattle.conjure_laws.specs.Members.{In}
use Rattle.conjure_laws.specs.SetsOfAtoms.{range_dom}
use Rattle.conjure_laws.specs.ModelsOfSets.{first_name, table_of}
use Rattle.conjure_laws.proofs.Lists.{at-item, each-of-list, in-left, in-right, in-either}
use Rattle.conjure_laws.proofs.Lookups.{look-in}
use Rattle.conjure_laws.proofs.NamedTables.{in-among}
use Rattle.conjure_laws.proofs.Givens.{given-from}
use Rattle.conjure_laws.proofs.JudgedDistinct.{kept-distinct}
use Rattle.conjure_laws.proofs.SetPlans.{Occ}
use Rattle.conjure_laws.proofs.Statements.{plan-is-found}
use Rattle.ess_flat_models_laws.specs.FlatSpecifications.{given_mark, is_scalar_dom, is_atom_alone}
use Rattle.ess_flat_models_laws.proofs.ScalarDomains.{is_shape}
use Rattle.ess_nested_laws.specs.NestedDomains.{is_nested_dom}
use Rattle.ess_mixed_models_laws.specs.MixedSpecifications.{kinds, is_member_dom, is_set_dom, members_of, is_of_kind, is_occurrence_alone, is_kept_by_members, is_nested_plan, is_mixed_statement, are_mixed_statements}
use Rattle.ess_mixed_models_laws.proofs.NamedKinds.{no-yes, no-some, MemberDom, of_numbers, of_truths, of_type}
use Rattle.ess_mixed_models_laws.proofs.NestedPlans.{nested-apart}
use Rattle.ess_mixed_models_laws.proofs.MixedPlans.{PlanFact, size_fact, atom_fact, set_fact, nested_fact, FindFact, scalar_find, set_find, nested_find, find-fact, one-set, set_table, all-facts}

-- ---- values that may be members

-- A value that may be a member of sets with this domain of members.
pub data MemberValue (vs : Names (Text × ℕ)) : Ex → Dom → Type 0 where
  a_number : {k a b : _} → MemberValue vs (number_ex k) (range_dom a b)
  a_truth : {b : Bool} → MemberValue vs (truth_ex b) bool_dom
  a_value : {n t : Text} {j : ℕ} → look vs n ≡ Some (t, j) → MemberValue vs (name_ex n) (name_dom t)

pub member-value : {ks : _} (vs : Names (Text × ℕ)) (e : Ex) {A : Dom} → MemberDom ks A → is_of_kind vs e A ≡ true → MemberValue vs e A
member-value vs (number_ex k) of_numbers h = a_number
member-value vs (truth_ex b) of_truths h = a_truth
member-value vs (name_ex n) (of_type {t = t} e) h = go (look vs n) refl h
  where
    go : (o : Option (Text × ℕ)) → look vs n ≡ o → is_some_and o (λ v. same_text v.0 t) ≡ true →
        MemberValue vs (name_ex n) (name_dom t)
    go None q h = absurd (no-yes h)
    go (Some v) q h = a_value (q ∙ ap (λ z. Some (z, v.1)) (same_text-equal v.0 t h))
member-value vs e m h = absurd (no-yes h)

-- ---- names with their domains

members-form : (o : Option Dom) (A : Dom) → members_of o ≡ Some A → o ≡ Some (set_dom [] no_exs A)
members-form (Some (set_dom [] no_exs B)) A e = let z : B ≡ A = cc in ap (λ z. Some (set_dom [] no_exs z)) z
members-form o A e = absurd (no-some e)

in-all : {A B : Type 0} (f : A → List B) (T : List A) (x : B) → In x (append_all (map f T)) → (s : A) × In s T × In x (f s)
in-all f [] x i = absurd i
in-all {A = A} {B = B} f (s ∷ T) x i = go (in-either x (f s) (append_all (map f T)) i) (in-all f T x)
  where
    go : In x (f s) ⊎ In x (append_all (map f T)) → (In x (append_all (map f T)) → (u : A) × In u T × In x (f u)) →
        (u : A) × In u (s ∷ T) × In x (f u)
    go (inl j) g = (s, inl refl, j)
    go (inr j) g = let r = g j in (r.0, inr r.1, r.2)

-- What is of one of them is among those of all.
pub of-all : {A B : Type 0} (f : A → List B) (T : List A) (x : B) (s : A) → In s T → In x (f s) → In x (append_all (map f T))
of-all f [] x s i j = absurd i
of-all f (t ∷ T) x s (inl e) j = in-left x (f t) (append_all (map f T)) (subst (λ z. In x (f z)) e j)
of-all f (t ∷ T) x s (inr i) j = in-right x (f t) (append_all (map f T)) (of-all f T x s i j)

-- What a map without a name twice has for a name.
pub look-of : {A : Type 0} (g : Names A) (x : Text) (d : A) → all_distinct (keys g) ≡ true → In (x, d) g → look g x ≡ Some d
look-of [] x d n i = absurd i
look-of {A = A} (b ∷ g) x d n (inl e) =
    let p : b.0 ≡ x = ap (λ w. w.0) (sym e) in
    ap (λ c. if c then Some b.1 else look g x) (ap (λ z. same_text z x) p ∙ same_text-itself x) ∙ ap (λ w. Some w.1) (sym e)
look-of {A = A} (b ∷ g) x d n (inr i) =
    ap (λ c. if c then Some b.1 else look g x) (other (same_text b.0 x) refl)
    ∙ look-of g x d (and-right (not (is_among (keys g) b.0)) (all_distinct (keys g)) n) i
  where
    key-in : (g : Names A) → In (x, d) g → In x (keys g)
    key-in [] i = absurd i
    key-in (b ∷ g) (inl e) = inl (ap (λ w. w.0) e)
    key-in (b ∷ g) (inr i) = inr (key-in g i)

    other : (c : Bool) → same_text b.0 x ≡ c → same_text b.0 x ≡ false
    other false q = q
    other true q =
        let z : is_among (keys g) b.0 ≡ true = in-among (keys g) b.0 (subst (λ y. In y (keys g)) (sym (same_text-equal b.0 x q))
        (key-in g i)) in
        let y : false ≡ true = ap not (sym z) ∙ and-left (not (is_among (keys g) b.0)) (all_distinct (keys g)) n in absurd (no-yes y)

-- The first plan of a name has its table.
first-of : (Qs : List Plan) (f : Side) (x : Text) (r : Repr) (d : Dom) (ns : List Named) → In (value_plan f x r d ns) Qs →
    (g : Side) × (s : Repr) × (e : Dom) × (ms : List Named) × In (value_plan g x s e ms) Qs × (table_of Qs x ≡ first_name ms)
first-of [] f x r d ns i = absurd i
first-of (size_plan t n ∷ Qs) f x r d ns (inl e) = cc
first-of (size_plan t n ∷ Qs) f x r d ns (inr i) =
    let w = first-of Qs f x r d ns i in (w.0, w.1, w.2, w.3, inr w.4, w.5)
first-of (value_plan g y s e ms ∷ Qs) f x r d ns i = go (same_text y x) refl i (first-of Qs f x r d ns)
  where
    go : (b : Bool) → same_text y x ≡ b → (value_plan f x r d ns ≡ value_plan g y s e ms) ⊎ In (value_plan f x r d ns) Qs →
        (In (value_plan f x r d ns) Qs → (g : Side) × (s : Repr) × (e : Dom) × (ms : List Named) × In (value_plan g x s e ms) Qs ×
        (table_of Qs x ≡ first_name ms)) →
        (h : Side) × (t : Repr) × (c : Dom) × (ls : List Named) × In (value_plan h x t c ls) (value_plan g y s e ms ∷ Qs)
        × ((if same_text y x then first_name ms else table_of Qs x) ≡ first_name ls)
    go true q i k = (
      g,
      s,
      e,
      ms,
      inl (ap (λ z. value_plan g z s e ms) (sym (same_text-equal y x q))),
      ap (λ b. if b then first_name ms else table_of Qs x) q,
    )
    go false q (inl p) k = let w : x ≡ y = cc in let z : false ≡ true = sym q ∙ ap (λ v. same_text v x) (sym w)
        ∙ same_text-itself x in absurd (no-yes z)
    go false q (inr j) k =
        let w = k j in (w.0, w.1, w.2, w.3, inr w.4, ap (λ b. if b then first_name ms else table_of Qs x) q ∙ w.5)

module _ (S : List Stm) (o : Options) (h : are_mixed_statements S o ≡ true) where
  abbrev Ps : List Plan
  Ps = plans S o

  -- A set of the specification.
  pub record SetFind (x : Text) (A : Dom) : Type 0 where
    pub declared : In (find x (set_dom [] no_exs A)) (prepared S)
    pub members : MemberDom (kinds S) A
    pub alone : is_occurrence_alone (chosen_reprs o x (set_dom [] no_exs A)) ≡ true

  statement-test : (s : Stm) → In s (prepared S) → is_mixed_statement S o s ≡ true
  statement-test s i = at-item (λ s. is_mixed_statement S o s
      ≡ true) (prepared S) s (each-of-list (prepared S) (is_mixed_statement S o) h) i

  members-of-fact : (x : Text) (A : Dom) → FindFact S o x (set_dom [] no_exs A) →
      is_occurrence_alone (chosen_reprs o x (set_dom [] no_exs A)) ≡ true → MemberDom (kinds S) A
  members-of-fact x A (scalar_find s a) c = absurd (no-yes s)
  members-of-fact x A (set_find B q m a) c = subst (MemberDom (kinds S)) (same (sym q)) m
    where
      same : {B A : Dom} → set_dom [] no_exs B ≡ set_dom [] no_exs A → B ≡ A
      same e = cc
  members-of-fact x A (nested_find r e n f k) c = absurd (nested-apart (kinds S) A r n f k (ap is_occurrence_alone (sym e) ∙ c))

  -- A find whose domain is that of sets, and which is kept as the members that occur, is one.
  pub set-declared : (x : Text) (A : Dom) → In (find x (set_dom [] no_exs A)) (prepared S) →
      is_occurrence_alone (chosen_reprs o x (set_dom [] no_exs A)) ≡ true → SetFind x A
  set-declared x A i c = record {
    declared = i;
    members = members-of-fact x A (find-fact S o x (set_dom [] no_exs A) (statement-test (find x (set_dom [] no_exs A)) i)) c;
    alone = c;
  }

  -- So is a name with such a domain.
  pub set-of : (x : Text) (A : Dom) → members_of (look (kept_names S) x) ≡ Some A → is_kept_by_members S o x ≡ true → SetFind x A
  set-of x A e b =
      let l = members-form (look (kept_names S) x) A e in
      let i = look-in (kept_names S) x (set_dom [] no_exs A) l in
      let r = in-all domain_of_stm (prepared S) (x, set_dom [] no_exs A) i in
      go (ap (λ z. is_some_and z (λ d. is_occurrence_alone (chosen_reprs o x d))) (sym l) ∙ b) r.0 r.1 r.2
    where
      go : is_occurrence_alone (chosen_reprs o x (set_dom [] no_exs A)) ≡ true → (s : Stm) → In s (prepared S) →
          In (x, set_dom [] no_exs A) (domain_of_stm s) → SetFind x A
      go c (find y d) j (inl q) =
          let z : y ≡ x = ap (λ w. w.0) (sym q) in
          let w : d ≡ set_dom [] no_exs A = ap (λ w. w.1) (sym q) in
          set-declared x A (subst (λ d. In (find x d) (prepared S)) w (subst (λ y. In (find y d) (prepared S)) z j)) c
      go c (given y d) j (inl q) =
          let w : d ≡ set_dom [] no_exs A = ap (λ w. w.1) (sym q) in
          let z : false ≡ true = ap (is_scalar_dom (given_mark Ps)) (sym w)
          ∙ and-left (is_scalar_dom (given_mark Ps) d) (is_atom_alone (chosen_reprs o y d)) (statement-test (given y d) j) in absurd
          (no-yes z)
      go c (find y d) j (inr q) = absurd q
      go c (given y d) j (inr q) = absurd q
      go c s j q = absurd q

  -- ---- its plan

  set-from : (T : List Stm) (declared done : List Text) (x : Text) (A : Dom) → In (find x (set_dom [] no_exs A)) T → MemberDom (kinds S) A →
      is_occurrence_alone (chosen_reprs o x (set_dom [] no_exs A)) ≡ true →
      (n : Text) × In (value_plan finds_side x Occ (set_dom [] no_exs A) ((n, 1) ∷ [])) (plans_from T o declared done)
  set-from [] declared done x A i m a = absurd i
  set-from (s ∷ T) declared done x A (inl e) m a =
      let taken : List Text = without x declared ++ done in
      subst (λ s. (n : Text) × In (value_plan finds_side x Occ (set_dom [] no_exs A) ((n, 1) ∷ [])) (plans_from
      (s ∷ T) o declared done)) e (
        set_table x taken,
        in-left (value_plan finds_side x Occ (set_dom [] no_exs A) ((set_table x taken, 1) ∷ []))
            (plans_of_stm (find x (set_dom [] no_exs A)) o declared done) _
            (subst (In (value_plan finds_side x Occ (set_dom [] no_exs A) ((set_table x taken, 1) ∷ [])))
            (sym (one-set S o x m (chosen_reprs o x (set_dom [] no_exs A)) taken a)) (inl refl)),
      )
  set-from (s ∷ T) declared done x A (inr i) m a =
      let Qs : List Plan = plans_of_stm s o declared done in
      let r = set-from T declared (keys (names_of_plans Qs) ++ done) x A i m a in (
        r.0,
        in-right (value_plan finds_side x Occ (set_dom [] no_exs A) ((r.0, 1) ∷ [])) Qs
            (plans_from T o declared (keys (names_of_plans Qs) ++ done)) r.1,
      )

  module _ (f : fault S ≡ None) where
    -- Givens and finds have names of their own.
    pub distinct : all_distinct (keys (kept_names S)) ≡ true
    distinct = kept-distinct S (ap (λ z. elim z [ None ↦ true | Some g ↦ false ]) f)

    -- A plan is that of a given or find with its domain.
    pub kept-plan : (s : Side) (x : Text) (r : Repr) (d : Dom) (ns : List Named) → In (value_plan s x r d ns) Ps → In (x, d) (kept_names S)
    kept-plan givens_side x r d ns i = of-all domain_of_stm (prepared S) (x, d) (given x d)
        (given-from (prepared S) o (all_declared S) _ x r d ns i) (inl refl)
    kept-plan finds_side x r d ns i = of-all domain_of_stm (prepared S) (x, d) (find x d) (plan-is-found S o x r d ns i) (inl refl)

    -- Plans of one name have one domain.
    pub one-dom : (s t : Side) (x : Text) (q r : Repr) (d e : Dom) (ns ms : List Named) → In (value_plan s x q d ns) Ps →
        In (value_plan t x r e ms) Ps → d ≡ e
    one-dom s t x q r d e ns ms i j =
        same (sym (look-of (kept_names S) x d distinct (kept-plan s x q d ns i))
        ∙ look-of (kept_names S) x e distinct (kept-plan t x r e ms j))
      where
        same : Some d ≡ Some e → d ≡ e
        same q = cc

    -- The plan of a set has the table of its name.
    pub set-planned : (x : Text) (A : Dom) → SetFind x A →
        In (value_plan finds_side x Occ (set_dom [] no_exs A) ((table_of Ps x, 1) ∷ [])) Ps
    set-planned x A w =
        let n = set-from (prepared S) (all_declared S) (codes "alldifferent_except" ∷ []) x A w.declared w.members w.alone in
        let r = first-of Ps finds_side x Occ (set_dom [] no_exs A) ((n.0, 1) ∷ []) n.1 in
        let k = look-of (kept_names S) x (set_dom [] no_exs A) distinct
        (kept-plan finds_side x Occ (set_dom [] no_exs A) ((n.0, 1) ∷ []) n.1) in
        let l = look-of (kept_names S) x r.2 distinct (kept-plan r.0 x r.1 r.2 r.3 r.4) in
        at r.0 r.1 r.2 r.3 (one (sym l ∙ k)) r.4 r.5
        (at-item (PlanFact S o) Ps (value_plan r.0 x r.1 r.2 r.3) (all-facts S o h) r.4)
      where
        one : {d e : Dom} → Some d ≡ Some e → d ≡ e
        one q = cc

        at : (g : Side) (s : Repr) (e : Dom) (ms : List Named) → e ≡ set_dom [] no_exs A → In (value_plan g x s e ms) Ps →
            table_of Ps x ≡ first_name ms → PlanFact S o (value_plan g x s e ms) →
            In (value_plan finds_side x Occ (set_dom [] no_exs A) ((table_of Ps x, 1) ∷ [])) Ps
        at g s e ms q i t (size_fact u n z) = cc
        at g s e ms q i t (nested_fact y r d taken z n k l c') =
            let a : y ≡ x = sym (name-is z) in
            let b : d ≡ set_dom [] no_exs A = sym (dom-is z) ∙ q in
            let l' : is_nested_plan (kinds S) (value_plan finds_side y r d (named_tables y (table_names r d) taken)) ≡ true =
            ap (is_nested_plan (kinds S)) (sym z) ∙ l in
            absurd (nested-apart (kinds S) A r (subst (λ d. is_nested_dom d ≡ true) b n) (subst (λ d. fits r d ≡ true) b k)
            (turned (is_member_dom (kinds S) A && is_occurrence_alone (r ∷ []))
            (and-right (is_nested_dom (set_dom [] no_exs A)) (not (is_member_dom (kinds S) A && is_occurrence_alone (r ∷ [])))
            (subst (λ d. is_nested_dom d && not (is_set_dom (kinds S) d && is_occurrence_alone (r ∷ [])) ≡ true) b l')))
            (ap is_occurrence_alone (sym (subst (λ d. chosen_reprs o x d ≡ r ∷ []) b
            (subst (λ y. chosen_reprs o y d ≡ r ∷ []) a c'))) ∙ w.alone))
          where
            name-is : {h f : Side} {y u : Text} {r v : Repr} {d c : Dom} {ns ls : List Named} →
                value_plan h y r d ns ≡ value_plan f u v c ls → y ≡ u
            name-is e = cc

            dom-is : {h f : Side} {y u : Text} {r v : Repr} {d c : Dom} {ns ls : List Named} →
                value_plan h y r d ns ≡ value_plan f u v c ls → d ≡ c
            dom-is e = cc

            turned : (b : Bool) → not b ≡ true → b ≡ false
            turned false e = refl
            turned true e = absurd (no-yes e)
        at g s e ms q i t (atom_fact a) =
            let y : e ≡ a.d = dom-of a.is in
            let z : false ≡ true = ap is_shape (sym q ∙ y) ∙ a.scalar in absurd (no-yes z)
          where
            dom-of : {h f : Side} {y u : Text} {r v : Repr} {d c : Dom} {ns ls : List Named} →
                value_plan h y r d ns ≡ value_plan f u v c ls → d ≡ c
            dom-of e = cc
        at g s e ms q i t (set_fact y B n z m c') =
            let a : g ≡ finds_side = side-is z in
            let b : s ≡ Occ = repr-is z in
            let c : ms ≡ (n, 1) ∷ [] = names-are z in
            let d : table_of Ps x ≡ n = t ∙ ap first_name c in
            subst (λ k. In (value_plan finds_side x Occ (set_dom [] no_exs A) ((k, 1) ∷ [])) Ps) (sym d)
            (subst (λ l. In (value_plan finds_side x Occ (set_dom [] no_exs A) l) Ps) c
            (subst (λ d. In (value_plan finds_side x Occ d ms) Ps) q
            (subst (λ r. In (value_plan finds_side x r e ms) Ps) b (subst (λ f. In (value_plan f x s e ms) Ps) a i))))
          where
            side-is : {h f : Side} {y u : Text} {r v : Repr} {d c : Dom} {ns ls : List Named} →
                value_plan h y r d ns ≡ value_plan f u v c ls → h ≡ f
            side-is e = cc

            repr-is : {h f : Side} {y u : Text} {r v : Repr} {d c : Dom} {ns ls : List Named} →
                value_plan h y r d ns ≡ value_plan f u v c ls → r ≡ v
            repr-is e = cc

            names-are : {h f : Side} {y u : Text} {r v : Repr} {d c : Dom} {ns ls : List Named} →
                value_plan h y r d ns ≡ value_plan f u v c ls →
                ns ≡ ls
            names-are e = cc
