-- Under a parameter each plan of a header has its domain, and each plan of a given a member of it.
use Rattle.std.proofs.Common.{◌≡◌, sym, ap, ◌∙◌, true, ◌&&◌, not, List, [], ◌∷◌, ◌++◌, map, None, Some}
use Rattle.ess_semantics.specs.Lists.{append_all, is_empty, is_some_and}
use Rattle.ess_semantics.specs.Values.{Text}
use Rattle.ess_semantics.specs.Names.{Names, look, keys, without}
use Rattle.ess_semantics.specs.Trees.{Repr, Dom, Stm, given, given_enum, let_ex, let_dom, let_enum, let_unnamed, needs, find, such_that, minimise, maximise}
use Rattle.ess_semantics.specs.Domains.{Domain}
use Rattle.ess_semantics.specs.Kinds.{fits}
use Rattle.ess_semantics.specs.Membership.{member, no_negative_attribute}
use Rattle.ess_semantics.specs.Contexts.{Each}
use Rattle.ess_semantics.specs.TableNames.{Named, table_names, named_tables}
use Rattle.ess_semantics.specs.Meaning.{Env, domain_of}
use Rattle.ess_semantics.specs.Prepared.{prepared}
use Rattle.ess_semantics.specs.Judgements.{fault}
use Rattle.ess_semantics.specs.Assignments.{Assignment, nothing_given, placed, value_of}
use Rattle.ess_semantics.specs.Parameters.{Param, all_declared, numbers_not_below_0, given_is_member, is_member}
use Rattle.ess_semantics.specs.Plans.{Options, chosen_reprs, domain_of_stm, kept_names, Side, givens_side, finds_side, Plan, size_plan, value_plan, names_of_plans, plans_of_name, plans_of_stm, plans_from, plans, plans_for}
use Rattle.ess_semantics.proofs.Tests.{and-left, some-and}
use Rattle.ess_repr_laws.specs.Laws.{Fitting}
use Rattle.ess_repr_laws.proofs.DenotedDomains.{fitting-roomy}
use Rattle.ess_repr_laws.proofs.MembersHaveTables.{roomy-covered}
use Rattle.ess_repr_laws.proofs.MembersWithPositions.{members-matched}
use Rattle.conjure_laws.specs.Members.{In}
use Rattle.conjure_laws.specs.Premises.{is_on, here, IsSettled, PlanFits}
use Rattle.conjure_laws.proofs.Lists.{each-map, each-both, each-of-list, each-append, at-item, all-items, in-filter}
use Rattle.conjure_laws.proofs.PlacedStatements.{at-place}
use Rattle.conjure_laws.proofs.Statements.{plan-is-found}
use Rattle.conjure_laws.proofs.Givens.{given-from}
use Rattle.conjure_laws.proofs.JudgedNames.{IsRight, judged-right}
use Rattle.ess_translate_header_laws.specs.Headers.{are_reprs_of}
use Rattle.ess_translate_given_laws.specs.Ready.{Ready}
use Rattle.ess_translate_given_laws.proofs.ChosenReprs.{well-typed, chosen-fit, header-plans-fit}
use Rattle.ess_translate_given_laws.proofs.GivenPlans.{size-from}
use Rattle.ess_translate_ready_laws.specs.PlanFacts.{PlanDomain, HasDomain, HasMember}
use Rattle.ess_translate_ready_laws.specs.Laws.{PlansAreKnown}

-- ---- the representations of plans

-- The representation of a plan has the property.
abbrev ReprHas : (Repr → Dom → Type 0) → Plan → Type 0
ReprHas P (size_plan t a) = Unit {0}
ReprHas P (value_plan f x r d ns) = P r d

module _ (P : Repr → Dom → Type 0) (o : Options) where
  -- Each chosen representation of the name has the property.
  abbrev Chosen : Text × Dom → Type 0
  Chosen x = Each (chosen_reprs o x.0 x.1) (λ r. P r x.1)

  of-name : (f : Side) (x : Text) (d : Dom) (rs : List Repr) (taken : List Text) → Each rs (λ r. P r d) →
      Each (plans_of_name f x d rs taken) (ReprHas P)
  of-name f x d [] taken h = tt
  of-name f x d (r ∷ rs) taken h = (h.0, of-name f x d rs (keys (named_tables x (table_names r d) taken) ++ taken) h.1)

  of-stm : (s : Stm) (declared done : List Text) → Each (domain_of_stm s) Chosen → Each (plans_of_stm s o declared done) (ReprHas P)
  of-stm (given x d) declared done h = of-name givens_side x d (chosen_reprs o x d) (without x declared ++ done) h.0
  of-stm (find x d) declared done h = of-name finds_side x d (chosen_reprs o x d) (without x declared ++ done) h.0
  of-stm (given_enum t) declared done h = (tt, tt)
  of-stm (let_ex x e) declared done h = tt
  of-stm (let_dom x d) declared done h = tt
  of-stm (let_enum t ns) declared done h = tt
  of-stm (let_unnamed t e) declared done h = tt
  of-stm (needs e) declared done h = tt
  of-stm (such_that e) declared done h = tt
  of-stm (minimise e) declared done h = tt
  of-stm (maximise e) declared done h = tt

  halves : (xs ys : Names Dom) → Each (xs ++ ys) Chosen → Each xs Chosen × Each ys Chosen
  halves [] ys h = (tt, h)
  halves (x ∷ xs) ys h = let r = halves xs ys h.1 in ((h.0, r.0), r.1)

  of-plans : (T : List Stm) (declared done : List Text) → Each (append_all (map domain_of_stm T)) Chosen →
      Each (plans_from T o declared done) (ReprHas P)
  of-plans [] declared done h = tt
  of-plans (s ∷ T) declared done h =
      let ps : List Plan = plans_of_stm s o declared done in
      let r = halves (domain_of_stm s) (append_all (map domain_of_stm T)) h in
      each-append (ReprHas P) ps (plans_from T o declared (keys (names_of_plans ps) ++ done)) (of-stm s declared done r.0)
      (of-plans T declared (keys (names_of_plans ps) ++ done) r.1)

-- The representation of each plan of a header fits its domain expression.
plans-fitting : (S : List Stm) (o : Options) → fault S ≡ None → are_reprs_of (kept_names S) o ≡ true → Each (plans S o) (ReprHas Fitting)
plans-fitting S o e h =
    of-plans Fitting o (prepared S) (all_declared S) _
    (each-both (kept_names S) IsRight (λ x. Each (chosen_reprs o x.0 x.1) (λ r. fits r x.1 ≡ true)) (Chosen Fitting o)
    (λ x k f. each-map (chosen_reprs o x.0 x.1) (λ r. fits r x.1 ≡ true) (λ r. Fitting r x.1)
    (λ r g. record { well = k.0; known = k.1; fit = g }) f)
    (judged-right S (well-typed S e)) (chosen-fit S o (well-typed S e) h))

-- ---- at a parameter

module _ (S : List Stm) (o : Options) (e : fault S ≡ None) (h : are_reprs_of (kept_names S) o ≡ true) (R : Ready S) (p : Assignment)
    (P : Param S p) where
  -- What is known of a declared statement in its place.
  placed-known : (s : Stm) → In s (prepared S) →
      (z : Env) × (IsSettled S p nothing_given s z × (numbers_not_below_0 s z ≡ true) × (given_is_member p s z ≡ true))
  placed-known s i =
      at-place S p nothing_given
      (λ s z. IsSettled S p nothing_given s z × (numbers_not_below_0 s z ≡ true) × (given_is_member p s z ≡ true)) s i
      (each-both (placed S p nothing_given) (λ l. IsSettled S p nothing_given l.stm l.env × (numbers_not_below_0 l.stm l.env ≡ true))
      (λ l. given_is_member p l.stm l.env ≡ true) _ (λ l a b. (a.0, a.1, b))
      (each-both (placed S p nothing_given) (λ l. IsSettled S p nothing_given l.stm l.env) (λ l. numbers_not_below_0 l.stm l.env ≡ true) _
      (λ l a b. (a, b)) (R.settled.settled p nothing_given P)
      (each-of-list (placed S p nothing_given) (λ l. numbers_not_below_0 l.stm l.env) P.not_below_0))
      (each-of-list (placed S p nothing_given) (λ l. given_is_member p l.stm l.env) P.are_members))

  -- The domain that a given or find has in its place, and behind all statements.
  domain-there : (d : Dom) (z : Env) → domain_of d z ≡ domain_of d (here S p) →
      is_some_and (domain_of d z) no_negative_attribute && true ≡ true →
      (c : Domain) × (domain_of d (here S p) ≡ Some c) × (no_negative_attribute c ≡ true)
  domain-there d z q n =
      let u = some-and (domain_of d z) no_negative_attribute (and-left (is_some_and (domain_of d z) no_negative_attribute) true n) in
      (u.0, sym q ∙ u.1, u.2)

  plan-domain : (f : Side) (x : Text) (r : Repr) (d : Dom) (ns : List Named) → In (value_plan f x r d ns) (plans S o) → (c : Domain) →
      domain_of d (here S p) ≡ Some c → no_negative_attribute c ≡ true → PlanDomain S p r d ns c
  plan-domain f x r d ns i c q n =
      let g : Fitting r d = at-item (ReprHas Fitting) (plans S o) (value_plan f x r d ns) (plans-fitting S o e h) i in
      let k = at-item (PlanFits S) (plans S o) (value_plan f x r d ns) (header-plans-fit S o e h R) i p c P q in
      let m = fitting-roomy r d (here S p) c g.well g.known g.fit q in
      record {
        closed = q;
        not_negative = n;
        typed = k.0.typed;
        fitting = g;
        roomy = m;
        covered = roomy-covered r c m;
        roomy_positions = k.0.roomy;
        covered_positions = roomy-covered r _ k.0.roomy;
        long = k.1;
      }

  plan-known : (Q : Plan) → In Q (plans S o) → HasDomain S p Q
  plan-known (size_plan t a) i =
      let s = placed-known (given_enum t) (size-from (prepared S) o (all_declared S) _ t a i) in
      some-and (look p.types t) (λ ns. not (is_empty ns)) s.1.2
  plan-known (value_plan givens_side x r d ns) i =
      let s = placed-known (given x d) (given-from (prepared S) o (all_declared S) _ x r d ns i) in
      let u = domain-there d s.0 s.1.0 s.1.1 in
      (u.0, plan-domain givens_side x r d ns i u.0 u.1 u.2)
  plan-known (value_plan finds_side x r d ns) i =
      let s = placed-known (find x d) (plan-is-found S o x r d ns i) in
      let u = domain-there d s.0 s.1.0 s.1.1 in
      (u.0, plan-domain finds_side x r d ns i u.0 u.1 u.2)

  plan-member : (Q : Plan) → In Q (plans S o) → is_on givens_side Q ≡ true → HasMember S p Q
  plan-member (size_plan t a) i g = plan-known (size_plan t a) i
  plan-member (value_plan finds_side x r d ns) i g = cc
  plan-member (value_plan givens_side x r d ns) i g =
      let s = placed-known (given x d) (given-from (prepared S) o (all_declared S) _ x r d ns i) in
      let u = some-and (value_of p x) (is_member d s.0) s.1.2 in
      let w = some-and (domain_of d s.0) (λ c. member c u.0) u.2 in
      let q : domain_of d (here S p) ≡ Some w.0 = sym s.1.0 ∙ w.1 in
      let n : no_negative_attribute w.0 ≡ true =
      sym (ap (λ c. is_some_and c no_negative_attribute) w.1)
      ∙ and-left (is_some_and (domain_of d s.0) no_negative_attribute) true s.1.1 in
      let k = plan-domain givens_side x r d ns i w.0 q n in
      let m = members-matched w.0 k.typed in (
        w.0,
        u.0,
        record { domain = k; value = u.1; inside = w.2; positions = m.up u.0 w.2 },
      )

-- Plans are known.
pub plans-are-known : PlansAreKnown
plans-are-known = record {
  domains = λ H p h R P. all-items (HasDomain H.statements p) (plans H.statements H.reprs)
      (plan-known H.statements H.reprs h.typed h.represented R p P);
  members = λ H p h R P. all-items (HasMember H.statements p) (plans_for givens_side H.statements H.reprs)
      (λ Q i. let j = in-filter (is_on givens_side) Q (plans H.statements H.reprs) i in
      plan-member H.statements H.reprs h.typed h.represented R p P Q j.0 j.1);
}
