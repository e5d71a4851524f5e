-- Each plan of a given, and of the size of a given enumerated type, has its tables under a parameter.
use Rattle.std.proofs.Common.{◌≡◌, refl, sym, ap, ◌∙◌, true, false, ◌&&◌, ◌||◌, not, List, [], ◌∷◌, ◌++◌, length, pos, ◌⊎◌, inl, inr, Some, option_map, arith}
use Rattle.std.proofs.lemmas.Bool.{le-leb}
use Rattle.ess_semantics.specs.Lists.{is_empty, list_or_none}
use Rattle.ess_semantics.specs.Values.{Text}
use Rattle.ess_semantics.specs.Names.{look, keys, without}
use Rattle.ess_semantics.specs.Trees.{Repr, Dom, Stm, given, given_enum, let_ex, let_dom, let_enum, let_unnamed, needs, find, such_that, minimise, maximise}
use Rattle.ess_semantics.specs.Membership.{member}
use Rattle.ess_semantics.specs.Tables.{Tables, one_cell}
use Rattle.ess_semantics.specs.Declarations.{declarations}
use Rattle.ess_semantics.specs.TableNames.{Named, table_names, named_tables}
use Rattle.ess_semantics.specs.Meaning.{Env, domain_of}
use Rattle.ess_semantics.specs.Positions.{domain_with_positions}
use Rattle.ess_semantics.specs.Prepared.{prepared}
use Rattle.ess_semantics.specs.Assignments.{Assignment, value_of, nothing_given, placed}
use Rattle.ess_semantics.specs.Parameters.{Param, is_member, given_is_member, all_declared}
use Rattle.ess_semantics.specs.Plans.{Options, chosen_reprs, Side, givens_side, finds_side, Plan, size_plan, value_plan, names_of_plan, names_of_plans, plans_of_name, plans_of_stm, plans_from, plans, from_one, declared_by_plan, name_tables, canonical_by_plan}
use Rattle.ess_semantics.specs.Contexts.{Each}
use Rattle.ess_semantics.proofs.Tests.{some-and}
use Rattle.conjure_laws.specs.Members.{In}
use Rattle.conjure_laws.specs.Premises.{is_on, here, IsSettled, Settled, PlanFits, tables_are}
use Rattle.conjure_laws.proofs.Lists.{each-both, each-of-list, at-item, in-either}
use Rattle.conjure_laws.proofs.PlacedStatements.{at-place}
use Rattle.conjure_laws.proofs.Matching.{Match, match-of, canonical-chunk}
use Rattle.conjure_laws.proofs.Givens.{given-from}

-- ---- sizes of given types

size-of-name : (f : Side) (x : Text) (d : Dom) (rs : List Repr) (taken : List Text) (t a : Text) →
    In (size_plan t a) (plans_of_name f x d rs taken) → ⊥
size-of-name f x d [] taken t a i = absurd i
size-of-name f x d (r ∷ rs) taken t a (inl q) = cc
size-of-name f x d (r ∷ rs) taken t a (inr i) =
    size-of-name f x d rs (keys (named_tables x (table_names r d) taken) ++ taken) t a i

size-of-stm : (s : Stm) (o : Options) (declared done : List Text) (t a : Text) → In (size_plan t a) (plans_of_stm s o declared done) →
    given_enum t ≡ s
size-of-stm (given x d) o declared done t a i =
    absurd (size-of-name givens_side x d (chosen_reprs o x d) (without x declared ++ done) t a i)
size-of-stm (find x d) o declared done t a i =
    absurd (size-of-name finds_side x d (chosen_reprs o x d) (without x declared ++ done) t a i)
size-of-stm (given_enum u) o declared done t a (inl q) = cc
size-of-stm (given_enum u) o declared done t a (inr i) = absurd i
size-of-stm (let_ex x d) o declared done t a i = absurd i
size-of-stm (let_dom x d) o declared done t a i = absurd i
size-of-stm (let_enum u d) o declared done t a i = absurd i
size-of-stm (let_unnamed u d) o declared done t a i = absurd i
size-of-stm (needs d) o declared done t a i = absurd i
size-of-stm (such_that d) o declared done t a i = absurd i
size-of-stm (minimise d) o declared done t a i = absurd i
size-of-stm (maximise d) o declared done t a i = absurd i

-- A plan of a size is one of a declared given type.
pub size-from : (T : List Stm) (o : Options) (declared done : List Text) (t a : Text) →
    In (size_plan t a) (plans_from T o declared done) → In (given_enum t) T
size-from [] o declared done t a i = absurd i
size-from (s ∷ T) o declared done t a i =
    let ps = plans_of_stm s o declared done in
    go (in-either (size_plan t a) ps (plans_from T o declared (keys (names_of_plans ps) ++ done)) i)
    (size-from T o declared (keys (names_of_plans ps) ++ done) t a)
  where
    go : In (size_plan t a) (plans_of_stm s o declared done) ⊎ In (size_plan t a)
        (plans_from T o declared (keys (names_of_plans (plans_of_stm s o declared done)) ++ done)) →
        (In (size_plan t a) (plans_from T o declared (keys (names_of_plans (plans_of_stm s o declared done)) ++ done)) →
        In (given_enum t) T) → (given_enum t ≡ s) ⊎ In (given_enum t) T
    go (inl j) k = inl (size-of-stm s o declared done t a j)
    go (inr j) k = inr (k j)

-- The number of values of a type with a value is from 1 on.
size-is : (ns : List Text) → not (is_empty ns) ≡ true →
    tables_are (record { axes = []; cell = from_one } ∷ []) (one_cell (pos (length ns)) ∷ []) ≡ true
size-is [] h = cc
size-is (n ∷ ns) h = ap (λ b. (((b && true) || false) && true) && true) (le-leb 1 (length (n ∷ ns)) (omega arith))

-- ---- tables of one plan

-- The tables of a plan of a given: they are as declared, and the canonical ones.
pub record PlanTables (S : List Stm) (p : Assignment) (P : Plan) (ts : Tables) : Type 0 where
  pub canonical : canonical_by_plan (here S p) p P ≡ Some (name_tables (names_of_plan P) ts)
  pub declared : tables_are (declared_by_plan (here S p) P) ts ≡ true
  pub long : length (names_of_plan P) ≡ length ts

module _ (S : List Stm) (o : Options) (settled : Settled S) (fit : Each (plans S o) (PlanFits S)) (p : Assignment) (P : Param S p) where
  -- What holds of a declared statement in its place: it says there what it says behind all, and it is met.
  placed-given : (s : Stm) → In s (prepared S) →
      (z : Env) × (IsSettled S p nothing_given s z × (given_is_member p s z ≡ true))
  placed-given s j = at-place S p nothing_given (λ s env. IsSettled S p nothing_given s env × (given_is_member p s env ≡ true)) s j
      (each-both (placed S p nothing_given) (λ l. IsSettled S p nothing_given l.stm l.env) (λ l. given_is_member p l.stm l.env ≡ true) _
      (λ l s n. (s, n)) (settled.settled p nothing_given P)
      (each-of-list (placed S p nothing_given) (λ l. given_is_member p l.stm l.env) P.are_members))

  value-tables : (x : Text) (r : Repr) (d : Dom) (ns : List Named) → In (value_plan givens_side x r d ns) (plans S o) →
      (ts : Tables) × Match S p p x r d ns ts
  value-tables x r d ns i =
      let h = placed-given (given x d) (given-from (prepared S) o (all_declared S) _ x r d ns i) in
      let u = some-and (value_of p x) (is_member d h.0) h.1.1 in
      let w = some-and (domain_of d h.0) (λ e. member e u.0) u.2 in
      let k : domain_of d (here S p) ≡ Some w.0 = sym h.1.0 ∙ w.1 in
      let f = at-item (PlanFits S) (plans S o) (value_plan givens_side x r d ns) fit i p w.0 P k in
      match-of S p p x r d ns w.0 u.0 f k u.1 w.2

  matched : (x : Text) (r : Repr) (d : Dom) (ns : List Named) (ts : Tables) → Match S p p x r d ns ts →
      PlanTables S p (value_plan givens_side x r d ns) ts
  matched x r d ns ts m = record {
    canonical = canonical-chunk S p p (value_plan givens_side x r d ns) ts m;
    declared =
        ap (λ z. tables_are (list_or_none (option_map (declarations r) (option_map domain_with_positions z))) ts) m.closed ∙ m.are;
    long = m.long;
  }

  size-tables : (t a : Text) → In (size_plan t a) (plans S o) → (ts : Tables) × PlanTables S p (size_plan t a) ts
  size-tables t a i =
      let h = placed-given (given_enum t) (size-from (prepared S) o (all_declared S) _ t a i) in
      let u = some-and (look p.types t) (λ ns. not (is_empty ns)) h.1.1 in (
        one_cell (pos (length u.0)) ∷ [],
        record {
          canonical = ap (option_map (λ ns. (a, one_cell (pos (length ns))) ∷ [])) u.1;
          declared = size-is u.0 u.2;
          long = refl;
        },
      )

  -- Each plan of a given has its tables.
  pub plan-tables : (Q : Plan) → In Q (plans S o) → is_on givens_side Q ≡ true → (ts : Tables) × PlanTables S p Q ts
  plan-tables (size_plan t a) i e = size-tables t a i
  plan-tables (value_plan finds_side x r d ns) i e = cc
  plan-tables (value_plan givens_side x r d ns) i e = let m = value-tables x r d ns i in (m.0, matched x r d ns m.0 m.1)
