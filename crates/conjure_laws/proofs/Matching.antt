-- The tables of one plan match the values of an assignment: they are the canonical tables of its value. Members have matching
-- tables.
use Rattle.std.proofs.Common.{◌≡◌, refl, sym, ap, ◌∙◌, subst, true, List, [], ◌∷◌, length, Some, option_map, is_some}
use Rattle.ess_semantics.specs.Lists.{append_all, and_then}
use Rattle.ess_semantics.specs.Values.{Text, Value}
use Rattle.ess_semantics.specs.Names.{Names}
use Rattle.ess_semantics.specs.Trees.{Repr, Dom, Stm, find}
use Rattle.ess_semantics.specs.Domains.{Domain}
use Rattle.ess_semantics.specs.Membership.{member}
use Rattle.ess_semantics.specs.Tables.{Table, Tables}
use Rattle.ess_semantics.specs.Cells.{cells_of}
use Rattle.ess_semantics.specs.Representations.{value_of_cells, value_of_tables}
use Rattle.ess_semantics.specs.Declarations.{declarations}
use Rattle.ess_semantics.specs.Canonical.{tables_of_value}
use Rattle.ess_semantics.specs.CanonicalTest.{canonical}
use Rattle.ess_semantics.specs.TableNames.{Named}
use Rattle.ess_semantics.specs.Meaning.{Env, domain_of}
use Rattle.ess_semantics.specs.Prepared.{prepared}
use Rattle.ess_semantics.specs.Assignments.{Assignment, value_of, nothing_given, placed}
use Rattle.ess_semantics.specs.Parameters.{is_member, numbers_have_meaning}
use Rattle.ess_semantics.specs.Solutions.{InDomains, find_is_member}
use Rattle.ess_semantics.specs.Plans.{Options, Plan, size_plan, value_plan, names_of_plan, plans, plans_for, name_tables, canonical_by_plan, canonical_tables, finds_side, plan_domain, Side, givens_side}
use Rattle.conjure_laws.specs.Premises.{is_on, Instance, here, IsSettled, tables_are, RepresentationFits, PlanFits}
use Rattle.conjure_laws.specs.ModelPremises.{Base}
use Rattle.ess_semantics.specs.ModelTrees.{Model}
use Rattle.ess_semantics.proofs.Tests.{and-left, some-and}
use Rattle.ess_repr_laws.proofs.Behind.{behind-none}
use Rattle.conjure_laws.proofs.Lists.{each-both, each-of-list, at-item, all-items, in-filter, along-found, each-along}
use Rattle.conjure_laws.specs.Members.{In}
use Rattle.conjure_laws.specs.SideBySide.{Along}
use Rattle.conjure_laws.proofs.NamedTables.{chunks, AsMany, are-long, over-are}
use Rattle.conjure_laws.proofs.Statements.{plan-is-found}
use Rattle.conjure_laws.proofs.PlacedStatements.{at-place}
use Rattle.ess_semantics.specs.Positions.{domain_with_positions, with_positions}
use Rattle.ess_repr_laws.proofs.MembersWithPositions.{members-matched}
use Rattle.conjure_laws.proofs.NamedValues.{found, one-of}
use Rattle.ess_repr_laws.proofs.MembersHaveTables.{one-form}

-- Tables stand at no index for what their cells do.
pub stands-at : (r : Repr) (e : Domain) (ts : Tables) → value_of_tables r e ts [] ≡ value_of_cells r e (cells_of ts)
stands-at r e ts = ap (value_of_cells r e) (behind-none (cells_of ts))

-- ---- what the tables of one plan are at values a

-- The domain e of the plan is closed, v is the value of its name, and ts are the canonical tables of v with positions.
pub record Match (S : List Stm) (p a : Assignment) (x : Text) (r : Repr) (d : Dom) (ns : List Named) (ts : Tables) : Type 0 where
  pub e : Domain
  pub v : Value
  pub closed : domain_of d (here S p) ≡ Some e
  pub value : value_of a x ≡ Some v
  pub fit : RepresentationFits r e
  pub inside : member e v ≡ true
  pub there : tables_of_value r (domain_with_positions e) (with_positions v) ≡ Some ts
  pub passes : canonical r (domain_with_positions e) (cells_of ts) ≡ true
  pub stands : value_of_cells r (domain_with_positions e) (cells_of ts) ≡ Some (with_positions v)
  pub are : tables_are (declarations r (domain_with_positions e)) ts ≡ true
  pub long : length ns ≡ length ts

-- The representation fits the domain, and there are as many tables as names.
abbrev pub Fits : Repr → List Named → Domain → Type 0
Fits r ns e = RepresentationFits r e × (length ns ≡ length (declarations r (domain_with_positions e)))

-- A member has tables that match it.
pub match-of : (S : List Stm) (p a : Assignment) (x : Text) (r : Repr) (d : Dom) (ns : List Named) (e : Domain) (v : Value) →
    Fits r ns e →
    domain_of d (here S p) ≡ Some e → value_of a x ≡ Some v → member e v ≡ true → (ts : Tables) × Match S p a x r d ns ts
match-of S p a x r d ns e v f k w h =
    let m = members-matched e f.0.typed in
    let t = one-form r (domain_with_positions e) f.0.roomy (with_positions v) (m.up v h) in
    let b = over-are (declarations r (domain_with_positions e)) t.tables t.over t.fit in (
      t.tables,
      record {
        e = e;
        v = v;
        closed = k;
        value = w;
        fit = f.0;
        inside = h;
        there = t.there;
        passes = t.passes;
        stands = sym (stands-at r (domain_with_positions e) t.tables) ∙ t.stands;
        are = b;
        long = f.1 ∙ are-long (declarations r (domain_with_positions e)) t.tables b;
      },
    )

-- The same by the plan.
abbrev pub PlanMatch : List Stm → Assignment → Assignment → Plan → Tables → Type 0
PlanMatch S p a (size_plan t n) ts = ⊥
PlanMatch S p a (value_plan f x r d ns) ts = Match S p a x r d ns ts

-- The tables c are those of the plans of finds, and match a.
pub record Matched (S : List Stm) (o : Options) (p a : Assignment) (c : Names Table) : Type 0 where
  pub tss : List Tables
  pub each : Along (plans_for finds_side S o) tss (PlanMatch S p a)
  pub all : c ≡ append_all (chunks (plans_for finds_side S o) tss)

-- There are as many tables as names.
pub match-long : (S : List Stm) (p a : Assignment) (P : Plan) (ts : Tables) → PlanMatch S p a P ts → AsMany P ts
match-long S p a (size_plan t n) ts m = absurd m
match-long S p a (value_plan f x r d ns) ts m = m.long

-- ---- canonical tables

-- The tables of a plan are the canonical ones.
pub canonical-chunk : (S : List Stm) (p a : Assignment) (P : Plan) (ts : Tables) → PlanMatch S p a P ts →
    canonical_by_plan (here S p) a P ≡ Some (name_tables (names_of_plan P) ts)
canonical-chunk S p a (size_plan t n) ts m = absurd m
canonical-chunk S p a (value_plan f x r d ns) ts m =
    ap (λ o. and_then o (λ v. and_then (plan_domain d (here S p))
    (λ e. option_map (name_tables ns) (tables_of_value r e (with_positions v))))) m.value
    ∙ ap (λ o. and_then (option_map domain_with_positions o)
    (λ e. option_map (name_tables ns) (tables_of_value r e (with_positions m.v))))
    m.closed
    ∙ ap (option_map (name_tables ns)) m.there

along-chunks : (S : List Stm) (p a : Assignment) (Ps : List Plan) (tss : List Tables) → Along Ps tss (PlanMatch S p a) →
    Along Ps (chunks Ps tss) (λ P c. canonical_by_plan (here S p) a P ≡ Some c)
along-chunks S p a [] [] h = tt
along-chunks S p a (P ∷ Ps) (ts ∷ tss) h = (canonical-chunk S p a P ts h.0, along-chunks S p a Ps tss h.1)
along-chunks S p a [] (ts ∷ tss) h = absurd h
along-chunks S p a (P ∷ Ps) [] h = absurd h

-- Tables that match are the canonical ones.
pub matched-canonical : (S : List Stm) (o : Options) (p a : Assignment) (c : Names Table) → Matched S o p a c →
    canonical_tables finds_side S o p a ≡ Some c
matched-canonical S o p a c m =
    ap (option_map append_all) (each-along (canonical_by_plan (here S p) a) (plans_for finds_side S o)
    (chunks (plans_for finds_side S o) m.tss) (along-chunks S p a (plans_for finds_side S o) m.tss m.each))
    ∙ ap (λ x. Some x) (sym m.all)

-- ---- at a specification with its layers

module _ (S : List Stm) (o : Options) (E : Model) (L : Base S o E) (p : Assignment) (q : Names Table) (I : Instance S o p q) where
  abbrev Z : Env
  Z = here S p

  abbrev Ps : List Plan
  Ps = plans_for finds_side S o

  -- A plan of a find.
  pub record FindPlan (P : Plan) : Type 0 where
    pub x : Text
    pub r : Repr
    pub d : Dom
    pub ns : List Named
    pub is : P ≡ value_plan finds_side x r d ns
    pub planned : In P (plans S o)
    pub declared : In (find x d) (prepared S)

  -- Each plan of the finds is one.
  pub find-plan : (P : Plan) → In P Ps → FindPlan P
  find-plan P i = let h = in-filter (is_on finds_side) P (plans S o) i in go P h.0 h.1
    where
      go : (P : Plan) → In P (plans S o) → is_on finds_side P ≡ true → FindPlan P
      go (size_plan t n) i e = cc
      go (value_plan finds_side x r d ns) i e = record {
        x = x;
        r = r;
        d = d;
        ns = ns;
        is = refl;
        planned = i;
        declared = plan-is-found S o x r d ns i;
      }
      go (value_plan givens_side x r d ns) i e = cc

  -- Each find's domain is closed.
  pub closed : (x : Text) (d : Dom) → In (find x d) (prepared S) → (e : Domain) × (domain_of d Z ≡ Some e)
  closed x d i =
      let h = at-place S p nothing_given (λ s env. IsSettled S p nothing_given s env × (numbers_have_meaning s env ≡ true)) (find x d)
      i
      (each-both (placed S p nothing_given) (λ l. IsSettled S p nothing_given l.stm l.env)
      (λ l. numbers_have_meaning l.stm l.env ≡ true) _
      (λ l s n. (s, n))
      (L.ground.settled.settled p nothing_given I.param)
      (each-of-list (placed S p nothing_given) (λ l. numbers_have_meaning l.stm l.env) I.param.have_meaning)) in
      found (domain_of d Z) (ap is_some (sym h.1.0) ∙ and-left (is_some (domain_of d h.0)) true h.1.1)

  -- The representation of a plan fits.
  pub fits : (f : Side) (x : Text) (r : Repr) (d : Dom) (ns : List Named) (e : Domain) → In (value_plan f x r d ns) (plans S o) →
      domain_of d Z ≡ Some e → Fits r ns e
  fits f x r d ns e i q = at-item (PlanFits S) (plans S o) (value_plan f x r d ns) L.ground.fit i p e I.param q

  -- ---- from members to tables

  member-match : (a : Assignment) → InDomains S p a → (x : Text) (r : Repr) (d : Dom) (ns : List Named) →
      In (value_plan finds_side x r d ns) (plans S o) → In (find x d) (prepared S) → (ts : Tables) × Match S p a x r d ns ts
  member-match a D x r d ns i j =
      let h = at-place S p a (λ s env. IsSettled S p a s env × (find_is_member a s env ≡ true)) (find x d) j
      (each-both (placed S p a) (λ l. IsSettled S p a l.stm l.env) (λ l. find_is_member a l.stm l.env ≡ true) _ (λ l s n. (s, n))
      (L.ground.settled.settled p a I.param) (each-of-list (placed S p a) (λ l. find_is_member a l.stm l.env) D.are_members)) in
      let u = some-and (value_of a x) (is_member d h.0) h.1.1 in
      let w = some-and (domain_of d h.0) (λ e. member e u.0) u.2 in
      let k : domain_of d Z ≡ Some w.0 = sym h.1.0 ∙ w.1 in
      match-of S p a x r d ns w.0 u.0 (fits finds_side x r d ns w.0 i k) k u.1 w.2

  -- Members have matching tables.
  pub members-match : (a : Assignment) → InDomains S p a → (c : Names Table) × Matched S o p a c
  members-match a D =
      let f = along-found Ps (PlanMatch S p a) (all-items (λ P. (ts : Tables) × PlanMatch S p a P ts) Ps
      (λ P i. go P (find-plan P i))) in
      (append_all (chunks Ps f.0), record { tss = f.0; each = f.1; all = refl })
    where
      go : (P : Plan) → FindPlan P → (ts : Tables) × PlanMatch S p a P ts
      go P F = subst (λ P. (ts : Tables) × PlanMatch S p a P ts) (sym F.is)
          (member-match a D F.x F.r F.d F.ns (subst (λ P. In P (plans S o)) F.is F.planned) F.declared)

  -- The canonical tables of members match them.
  pub canonical-matched : (a : Assignment) (c : Names Table) → InDomains S p a → canonical_tables finds_side S o p a ≡ Some c →
      Matched S o p a c
  canonical-matched a c D e = let m = members-match a D in
      subst (Matched S o p a) (one-of m.0 c (canonical_tables finds_side S o p a) (matched-canonical S o p a m.0 m.1) e) m.1
