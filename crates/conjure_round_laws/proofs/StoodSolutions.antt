-- Found tables that satisfy a model stand for a solution: what they stand for by the plans of a find is the value that the model's
-- solution gives it, and each find has a plan, since nothing else would say its value.
use Rattle.std.proofs.Common.{◌≡◌, refl, sym, ap, ◌∙◌, subst, Bool, true, false, ◌&&◌, if◌then◌else◌, List, [], ◌∷◌, ◌++◌, map, filter, inl, inr, Option, Some, None, is_some}
use Rattle.std.specs.List.{list_all}
use Rattle.ess_semantics.specs.Lists.{append_all, and_then, when, is_some_and}
use Rattle.ess_semantics.specs.Values.{Text, Value}
use Rattle.ess_semantics.specs.Order.{same_text}
use Rattle.ess_semantics.specs.Names.{Names, look, keys, all_distinct}
use Rattle.ess_semantics.specs.Trees.{Dom, Stm, find}
use Rattle.ess_semantics.specs.Domains.{Domain}
use Rattle.ess_semantics.specs.Tables.{Table}
use Rattle.ess_semantics.specs.Meaning.{Env, domain_of, tables_in}
use Rattle.ess_semantics.specs.Prepared.{prepared}
use Rattle.ess_semantics.specs.Assignments.{Assignment, value_of}
use Rattle.ess_semantics.specs.Parameters.{Param, is_member}
use Rattle.ess_semantics.specs.Solutions.{Sol, finds, find_is_member}
use Rattle.ess_semantics.specs.Plans.{Options, Plan, size_plan, value_plan, plans, plans_for, domain_of_stm, kept_names, same_value, plan_stands, value_names, Stands, is_plan_of, value_by_plan, value_with_types, common_value, values_stood_for, finds_side, stands_for_member, givens_side}
use Rattle.ess_semantics.specs.Models.{Represents}
use Rattle.ess_semantics.specs.ModelTrees.{Model}
use Rattle.ess_semantics.specs.Satisfaction.{Sat}
use Rattle.ess_semantics.proofs.Tests.{some-and}
use Rattle.ess_semantics.proofs.Orders.{same-itself}
use Rattle.ess_semantics.proofs.Texts.{same_text-equal}
use Rattle.ess_semantics.proofs.Verdicts.{Sol-verdict}
use Rattle.ess_repr_laws.specs.TypedDomains.{Typed}
use Rattle.ess_repr_laws.proofs.PlansStand.{stood-back}
use Rattle.conjure_laws.specs.Members.{In}
use Rattle.conjure_laws.specs.Premises.{here, is_on}
use Rattle.conjure_laws.proofs.Lists.{at-item, all-items, each-of-list, list-of-each, in-filtered, in-filter, in-right}
use Rattle.conjure_laws.proofs.Statements.{finds-prepared, plan-is-found, name-is-find}
use Rattle.conjure_laws.proofs.PlacedStatements.{at-place}
use Rattle.conjure_laws.proofs.NamedValues.{look-made, keys-made, no-keys, one-map, value_in}
use Rattle.ess_translate_given_laws.specs.Ready.{Ready}
use Rattle.conjure_round_laws.specs.Stood.{is_there, stood, StandForSolution}
use Rattle.conjure_round_laws.specs.Laws.{SatisfyingTablesStandForSolutions}

-- ---- a name that loses its value

-- The entry without its value, where it is that of x.
abbrev emptied : Text → Text × Option Value → Text × Option Value
emptied x b = if same_text b.0 x then (b.0, None) else b

-- The names stay.
emptied-keys : (x : Text) (bs : Names (Option Value)) → keys (map (emptied x) bs) ≡ keys bs
emptied-keys x [] = refl
emptied-keys x (b ∷ bs) = ap (λ k. k ∷ keys (map (emptied x) bs)) (go (same_text b.0 x)) ∙ ap (λ ks. b.0 ∷ ks) (emptied-keys x bs)
  where
    go : (t : Bool) → (if t then (b.0, None) else b).0 ≡ b.0
    go true = refl
    go false = refl

-- The name has no value.
emptied-none : (x : Text) (bs : Names (Option Value)) → value_in (map (emptied x) bs) x ≡ None
emptied-none x [] = refl
emptied-none x (b ∷ bs) = go (same_text b.0 x) refl (emptied-none x bs)
  where
    go : (t : Bool) → same_text b.0 x ≡ t → value_in (map (emptied x) bs) x ≡ None →
        value_in ((if t then (b.0, None) else b) ∷ map (emptied x) bs) x ≡ None
    go true e h = ap (λ t. and_then (if t then Some None else look (map (emptied x) bs) x) (λ o. o)) e
    go false e h = ap (λ t. and_then (if t then Some b.1 else look (map (emptied x) bs) x) (λ o. o)) e ∙ h

-- Other names keep theirs.
emptied-others : (x y : Text) → same_text y x ≡ false → (bs : Names (Option Value)) → value_in (map (emptied x) bs) y ≡ value_in bs y
emptied-others x y n [] = refl
emptied-others x y n (b ∷ bs) = go (same_text b.0 x) (same_text b.0 y) refl refl (emptied-others x y n bs)
  where
    go : (t u : Bool) → same_text b.0 x ≡ t → same_text b.0 y ≡ u → value_in (map (emptied x) bs) y ≡ value_in bs y →
        value_in ((if t then (b.0, None) else b) ∷ map (emptied x) bs) y ≡ value_in (b ∷ bs) y
    go false true e f h =
        ap (λ t. and_then (if t then Some b.1 else look (map (emptied x) bs) y) (λ o. o)) f
        ∙ sym (ap (λ t. and_then (if t then Some b.1 else look bs y) (λ o. o)) f)
    go false false e f h =
        ap (λ t. and_then (if t then Some b.1 else look (map (emptied x) bs) y) (λ o. o)) f ∙ h
        ∙ sym (ap (λ t. and_then (if t then Some b.1 else look bs y) (λ o. o)) f)
    go true false e f h =
        ap (λ t. and_then (if t then Some None else look (map (emptied x) bs) y) (λ o. o)) f ∙ h
        ∙ sym (ap (λ t. and_then (if t then Some b.1 else look bs y) (λ o. o)) f)
    go true true e f h =
        let z : true ≡ false = sym e ∙ ap (λ a. same_text a x) (same_text-equal b.0 y f) ∙ n in cc

-- ---- finds among the names with domains

find-kept : (T : List Stm) (x : Text) (d : Dom) → In (find x d) T → In (x, d) (append_all (map domain_of_stm T))
find-kept [] x d i = absurd i
find-kept (s ∷ T) x d (inl e) = subst (λ t. In (x, d) (domain_of_stm t ++ append_all (map domain_of_stm T))) e (inl refl)
find-kept (s ∷ T) x d (inr i) = in-right (x, d) (domain_of_stm s) (append_all (map domain_of_stm T)) (find-kept T x d i)

module _ (S : List Stm) (o : Options) (E : Model) (p : Assignment) (q c : Names Table) (R : Ready S) (P : Param S p)
    (M : Represents S o E p q) (s : Sat E q c) where
  abbrev Z : Env
  Z = here S p

  -- the solution for which the model says that the tables stand
  abbrev a : Assignment
  a = (M.one_solution c s).0

  stands : Stands S o p a c
  stands = (M.one_solution c s).1

  solution : Sol S p a
  solution = (M.one_solution c s).2

  abbrev group : Text → List Plan
  group x = filter (is_plan_of x) (plans S o)

  -- each plan of a find stands for its value
  plan-value : (x : Text) (v : Value) → value_of a x ≡ Some v → (Q : Plan) → In Q (group x) → value_by_plan Z c Q ≡ Some v
  plan-value x v e Q i = let h = in-filter (is_plan_of x) Q (plans S o) i in go Q h.0 h.1
    where
      go : (Q : Plan) → In Q (plans S o) → is_plan_of x Q ≡ true → value_by_plan Z c Q ≡ Some v
      go (size_plan t n) i t' = cc
      go (value_plan givens_side y r d ns) i t = cc
      go (value_plan finds_side y r d ns) i t =
          let w : value_of a y ≡ Some v = ap (value_of a) (same_text-equal y x t) ∙ e in
          let b : plan_stands Z a c (value_plan finds_side y r d ns) ≡ true =
          at-item (λ Q. plan_stands Z a c Q ≡ true) (plans_for finds_side S o) (value_plan finds_side y r d ns)
          (each-of-list (plans_for finds_side S o) (plan_stands Z a c) stands.each_stands)
          (in-filtered (is_on finds_side) (value_plan finds_side y r d ns) (plans S o) i refl) in
          let f = some-and (domain_of d Z) (λ e. is_some_and (tables_in c (keys ns)) (λ ts. stands_for_member r e ts v))
          (sym (ap (λ o. is_some_and o (λ v. is_some_and (domain_of d Z)
          (λ e. is_some_and (tables_in c (keys ns)) (λ ts. stands_for_member r e ts v)))) w) ∙ b) in
          let g = some-and (tables_in c (keys ns)) (λ ts. stands_for_member r f.0 ts v) f.2 in
          let k : Typed f.0 = at-item (λ x. (p : Assignment) (e : Domain) → Param S p → domain_of x.1 (here S p) ≡ Some e → Typed e)
          (kept_names S) (y, d) R.typed (find-kept (prepared S) y d (plan-is-found S o y r d ns i)) p f.0 P f.1 in
          ap (λ o. and_then o (λ e. and_then (tables_in c (keys ns)) (λ ts. value_with_types r e ts))) f.1
          ∙ ap (λ o. and_then o (λ ts. value_with_types r f.0 ts)) g.1 ∙ stood-back r f.0 k g.0 v g.2

  -- a without the value of x
  abbrev without_value : Text → Assignment
  without_value x = record { types = a.types; vals = map (emptied x) a.vals }

  -- without a plan of x the tables would stand for it too
  stands-without : (x : Text) → group x ≡ [] → Stands S o p (without_value x) c
  stands-without x n = record {
    names = emptied-keys x a.vals ∙ stands.names;
    types = stands.types;
    tables = stands.tables;
    each_stands = list-of-each (plans_for finds_side S o) (plan_stands Z (without_value x) c)
        (all-items (λ Q. plan_stands Z (without_value x) c Q ≡ true) (plans_for finds_side S o) (λ Q i. go Q
        (in-filter (is_on finds_side) Q (plans S o) i)
        (at-item (λ Q. plan_stands Z a c Q ≡ true) (plans_for finds_side S o) Q
        (each-of-list (plans_for finds_side S o) (plan_stands Z a c) stands.each_stands) i)));
  }
    where
      go : (Q : Plan) → In Q (plans S o) × (is_on finds_side Q ≡ true) → plan_stands Z a c Q ≡ true →
          plan_stands Z (without_value x) c Q ≡ true
      go (size_plan t m) h b = b
      go (value_plan givens_side y r d ns) h b = cc
      go (value_plan finds_side y r d ns) h b = other (same_text y x) refl
        where
          other : (t : Bool) → same_text y x ≡ t → plan_stands Z (without_value x) c (value_plan finds_side y r d ns) ≡ true
          other true e = absurd (subst (In (value_plan finds_side y r d ns)) n
              (in-filtered (is_plan_of x) (value_plan finds_side y r d ns) (plans S o) h.0 e))
          other false e =
              ap (λ o. is_some_and o (λ v. is_some_and (domain_of d Z)
              (λ e. is_some_and (tables_in c (keys ns)) (λ ts. stands_for_member r e ts v)))) (emptied-others x y e a.vals) ∙ b

  -- the common value of a find's plans
  common : (x : Text) (v : Value) → value_of a x ≡ Some v → common_value Z c (group x) ≡ Some v
  common x v e = go (group x) refl (plan-value x v e)
    where
      go : (G : List Plan) → group x ≡ G → ((Q : Plan) → In Q G → value_by_plan Z c Q ≡ Some v) → common_value Z c G ≡ Some v
      go [] n h =
          let z : without_value x ≡ a = (M.one_solution c s).3 (without_value x) (stands-without x n) in
          let y : None ≡ Some v = sym (emptied-none x a.vals) ∙ ap (λ b. value_of b x) z ∙ e in cc
      go (Q ∷ Qs) n h =
          ap (λ y. and_then y (λ u. when (list_all (λ z. same_value u (value_by_plan Z c z)) Qs) u)) (h Q (inl refl))
          ∙ ap (λ b. when b v) (list-of-each Qs (λ u. same_value v (value_by_plan Z c u))
          (all-items (λ Q. same_value v (value_by_plan Z c Q) ≡ true) Qs
          (λ Q i. ap (same_value v) (h Q (inr i)) ∙ same-itself v)))

  -- each find has a value in the solution
  find-value : (x : Text) → In x (finds S) → (v : Value) × (value_of a x ≡ Some v)
  find-value x i =
      let d = name-is-find (prepared S) x (subst (In x) (sym (finds-prepared S)) i) in
      let z = at-place S p a (λ t env. find_is_member a t env ≡ true) (find x d.0) d.1
      (each-of-list _ (λ l. find_is_member a l.stm l.env) solution.in_domains.are_members) in
      let v = some-and (value_of a x) (is_member d.0 z.0) z.1 in (v.0, v.1)

  -- the solution is what the tables stand for
  same-values : a.vals ≡ values_stood_for S o p c
  same-values =
      one-map a.vals (values_stood_for S o p c)
      (stands.names ∙ sym (keys-made (λ x. common_value Z c (group x)) (value_names finds_side S)))
      (ap all_distinct stands.names ∙ R.settled.distinct)
      (all-items (λ x. (v : Value) × (value_in a.vals x ≡ Some v) × (value_in (values_stood_for S o p c) x ≡ Some v)) (keys a.vals)
      (λ x i. go x (subst (In x) stands.names i)))
    where
      go : (x : Text) → In x (value_names finds_side S) →
          (v : Value) × (value_in a.vals x ≡ Some v) × (value_in (values_stood_for S o p c) x ≡ Some v)
      go x i =
          let v = find-value x i in (
            v.0,
            v.1,
            ap (λ y. and_then y (λ z. z)) (look-made (λ x. common_value Z c (group x)) (value_names finds_side S) x i)
                ∙ common x v.0 v.1,
          )

  same-assignment : a ≡ stood S o p c
  same-assignment = ap (λ ts. record { types = ts; vals = a.vals }) (no-keys a.types stands.types)
      ∙ ap (λ vs. record { types = []; vals = vs }) same-values

  all-there : (xs : List Text) → ((x : Text) → In x xs → In x (value_names finds_side S)) →
      list_all is_there (map (λ x. (x, common_value Z c (group x))) xs) ≡ true
  all-there [] f = refl
  all-there (x ∷ xs) f =
      let v = find-value x (f x (inl refl)) in
      ap (λ o. is_some o && list_all is_there (map (λ x. (x, common_value Z c (group x))) xs)) (common x v.0 v.1)
      ∙ all-there xs (λ x i. f x (inr i))

  stand-for : StandForSolution S o p c
  stand-for = record {
    there = all-there (value_names finds_side S) (λ x i. i);
    stands = subst (λ b. Stands S o p b c) same-assignment stands;
    solution = subst (Sol S p) same-assignment solution;
    judged = Sol-verdict S p (stood S o p c) (subst (Sol S p) same-assignment solution);
  }

-- Found tables that satisfy a model of a specification stand for a solution of it.
pub satisfying-stand : SatisfyingTablesStandForSolutions
satisfying-stand S o H E p q c R M P g s = stand-for S o E p q c R P (M.represents p q P g) s
