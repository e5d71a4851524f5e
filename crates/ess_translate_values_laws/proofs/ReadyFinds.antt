-- Tables that stand under the names of the plans of finds, as they are declared: there each plan is ready.
use Rattle.std.proofs.Common.{◌≡◌, refl, sym, ap, ◌∙◌, subst, true, ◌&&◌, List, [], ◌∷◌, map, length, Some, option_map, is_some}
use Rattle.ess_semantics.specs.Lists.{append_all, zip, list_or_none}
use Rattle.ess_semantics.specs.Values.{Text}
use Rattle.ess_semantics.specs.Names.{Names, keys, all_distinct}
use Rattle.ess_semantics.specs.Trees.{Repr, Dom, Stm, find}
use Rattle.ess_semantics.specs.Domains.{Domain}
use Rattle.ess_semantics.specs.Tables.{Table, Tables}
use Rattle.ess_semantics.specs.Declarations.{declarations}
use Rattle.ess_semantics.specs.TableNames.{Named}
use Rattle.ess_semantics.specs.Contexts.{Each}
use Rattle.ess_semantics.specs.Meaning.{Env, domain_of, tables_in}
use Rattle.ess_semantics.specs.Positions.{domain_with_positions}
use Rattle.ess_semantics.specs.Prepared.{prepared}
use Rattle.ess_semantics.specs.Assignments.{Assignment, nothing_given, placed}
use Rattle.ess_semantics.specs.Parameters.{Param, numbers_have_meaning}
use Rattle.ess_semantics.specs.Plans.{Options, Plan, size_plan, value_plan, names_of_plan, finds_side, givens_side, plans, plans_for, table_list, declared_by_plan, declared_under}
use Rattle.ess_semantics.proofs.Tests.{and-left}
use Rattle.ess_repr_laws.proofs.MembersHaveTables.{roomy-covered}
use Rattle.conjure_laws.specs.Members.{In}
use Rattle.conjure_laws.specs.SideBySide.{Along}
use Rattle.conjure_laws.specs.Premises.{is_on, here, IsSettled, Settled, PlanFits, tables_are, RepresentationFits}
use Rattle.conjure_laws.proofs.Lists.{each-both, each-of-list, at-item, all-items, in-filter, along-map, along-both, along-left, left-of}
use Rattle.conjure_laws.proofs.PlacedStatements.{at-place}
use Rattle.conjure_laws.proofs.Statements.{plan-is-found}
use Rattle.conjure_laws.proofs.NamedValues.{found}
use Rattle.conjure_laws.proofs.NamedTables.{chunks, AsMany, chunks-named, chunks-zip, all-split, are-long, are-over}
use Rattle.conjure_laws.proofs.FreeNames.{names-differ}
use Rattle.ess_translate_given_laws.proofs.ChosenReprs.{header-plans-fit}
use Rattle.ess_translate_values_laws.specs.ReadyPlans.{AreReady, IsReady, tables_of}
use Rattle.ess_translate_values_laws.specs.Laws.{FindsAreReady}

-- A map is its names side by side with its tables.
by-names : (c : Names Table) → c ≡ zip (keys c) (tables_of c)
by-names [] = refl
by-names (b ∷ c) = ap (λ l. b ∷ l) (by-names c)

module _ (S : List Stm) (o : Options) (settled : Settled S) (fit : Each (plans S o) (PlanFits S)) (p : Assignment) (P : Param S p) where
  abbrev Z : Env
  Z = here S p

  abbrev Ps : List Plan
  Ps = plans_for finds_side S o

  -- Each find's domain is closed.
  closed : (x : Text) (d : Dom) → In (find x d) (prepared S) → (e : Domain) × (domain_of d Z ≡ Some e)
  closed x d i =
      let h = at-place S p nothing_given (λ s env. IsSettled S p nothing_given s env × (numbers_have_meaning s env ≡ true)) (find x d) i
      (each-both (placed S p nothing_given) (λ l. IsSettled S p nothing_given l.stm l.env) (λ l. numbers_have_meaning l.stm l.env ≡ true) _
      (λ l s n. (s, n)) (settled.settled p nothing_given P)
      (each-of-list (placed S p nothing_given) (λ l. numbers_have_meaning l.stm l.env) P.have_meaning)) in
      found (domain_of d Z) (ap is_some (sym h.1.0) ∙ and-left (is_some (domain_of d h.0)) true h.1.1)

  -- What is known of the plan of a find: its domain, that its representation fits, and that it has a name for each declared table.
  record Known (r : Repr) (d : Dom) (ns : List Named) : Type 0 where
    e : Domain
    closed : domain_of d Z ≡ Some e
    fits : RepresentationFits r e
    long : length ns ≡ length (declarations r (domain_with_positions e))

  abbrev PlanKnown : Plan → Type 0
  PlanKnown (size_plan t a) = ⊥
  PlanKnown (value_plan f x r d ns) = Known r d ns

  known : (Q : Plan) → In Q (plans S o) → is_on finds_side Q ≡ true → PlanKnown Q
  known (size_plan t a) i e = cc
  known (value_plan givens_side x r d ns) i e = cc
  known (value_plan finds_side x r d ns) i e =
      let c = closed x d (plan-is-found S o x r d ns i) in
      let f = at-item (PlanFits S) (plans S o) (value_plan finds_side x r d ns) fit i p c.0 P c.1 in
      record { e = c.0; closed = c.1; fits = f.0; long = f.1 }

  all-known : Each Ps PlanKnown
  all-known = all-items PlanKnown Ps (λ Q i. let h = in-filter (is_on finds_side) Q (plans S o) i in known Q h.0 h.1)

  -- The same with the plan's tables, which are as declared.
  record Shaped (r : Repr) (d : Dom) (ns : List Named) (ts : Tables) : Type 0 where
    known : Known r d ns
    are : tables_are (declarations r (domain_with_positions known.e)) ts ≡ true

  abbrev PlanShaped : Plan → Tables → Type 0
  PlanShaped (size_plan t a) ts = ⊥
  PlanShaped (value_plan f x r d ns) ts = Shaped r d ns ts

  shaped : (Q : Plan) (ts : Tables) → PlanKnown Q → tables_are (declared_by_plan Z Q) ts ≡ true → PlanShaped Q ts
  shaped (size_plan t a) ts k h = absurd k
  shaped (value_plan f x r d ns) ts k h = record {
    known = k;
    are = sym (ap (λ y. tables_are (list_or_none (option_map (declarations r) (option_map domain_with_positions y))) ts) k.closed) ∙ h;
  }

  as-many : (Q : Plan) (ts : Tables) → PlanShaped Q ts → AsMany Q ts
  as-many (size_plan t a) ts s = absurd s
  as-many (value_plan f x r d ns) ts s = s.known.long ∙ are-long (declarations r (domain_with_positions s.known.e)) ts s.are

  same-found : {A : Type 0} (o : _) (x y : A) → o ≡ Some x → o ≡ Some y → x ≡ y
  same-found o x y h k = let z : Some x ≡ Some y = sym h ∙ k in cc

  -- A plan whose tables are found by their names is ready.
  ready : (c : Names Table) (Q : Plan) (ts : Tables) → PlanShaped Q ts × (tables_in c (keys (names_of_plan Q)) ≡ Some ts) → IsReady Z c Q
  ready c (size_plan t a) ts h = tt
  ready c (value_plan f x r d ns) ts h = λ e us at there.
      let same : h.0.known.e ≡ e = same-found (domain_of d Z) h.0.known.e e h.0.known.closed at in
      let all : ts ≡ us = same-found (tables_in c (keys ns)) ts us h.1 there in
      subst (λ us. AreReady r e us) all (subst (λ e. AreReady r e ts) same (record {
        covered = roomy-covered r (domain_with_positions h.0.known.e) h.0.known.fits.roomy;
        over = are-over (declarations r (domain_with_positions h.0.known.e)) ts h.0.are;
      }))

  -- Each plan of the finds is ready.
  pub each-ready : (c : Names Table) → keys c ≡ keys (table_list finds_side S o) →
      tables_are (declared_under finds_side S o p) (tables_of c) ≡ true →
      Each Ps (IsReady Z c)
  each-ready c k h =
      let u = all-split (declared_by_plan Z) Ps (tables_of c) h in
      let shapes : Along Ps u.0 PlanShaped =
      along-left Ps u.0 PlanKnown (λ Q us. tables_are (declared_by_plan Z Q) us ≡ true) PlanShaped shaped all-known u.2 in
      let many : Along Ps u.0 AsMany = along-map Ps u.0 PlanShaped AsMany as-many shapes in
      let all : c ≡ append_all (chunks Ps u.0) =
      by-names c ∙ ap (λ l. zip l (tables_of c)) k ∙ ap (zip (keys (table_list finds_side S o))) u.1 ∙ chunks-zip Ps u.0 many in
      let named = chunks-named c (ap all_distinct k ∙ names-differ finds_side S o) [] Ps u.0 many all in
      left-of Ps u.0 (IsReady Z c) (λ Q ts. PlanShaped Q ts × (tables_in c (keys (names_of_plan Q)) ≡ Some ts)) (ready c)
      (along-both Ps u.0 PlanShaped (λ Q ts. tables_in c (keys (names_of_plan Q)) ≡ Some ts) _ (λ Q ts x y. (x, y)) shapes named)

-- Under a parameter of a header of this tool.
pub finds_ready : FindsAreReady
finds_ready H p c h R P k t =
    each-ready H.statements H.reprs R.settled (header-plans-fit H.statements H.reprs h.typed h.represented R) p P c k t
