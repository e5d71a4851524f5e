-- The plans of a header of this tool are ready for a parameter: each given's value is a member of its domain.
use Rattle.std.proofs.Common.{◌≡◌, sym, ap, ◌∙◌, subst, true, List, map, Option, Some, option_map}
use Rattle.ess_semantics.specs.Values.{Text}
use Rattle.ess_semantics.specs.Trees.{Repr, Dom, Stm, given}
use Rattle.ess_semantics.specs.Domains.{Domain}
use Rattle.ess_semantics.specs.Membership.{member}
use Rattle.ess_semantics.specs.TableNames.{Named}
use Rattle.ess_semantics.specs.Meaning.{Env, domain_of}
use Rattle.ess_semantics.specs.ModelTrees.{Header}
use Rattle.ess_semantics.specs.Prepared.{prepared}
use Rattle.ess_semantics.specs.Contexts.{Each}
use Rattle.ess_semantics.specs.Assignments.{Assignment, value_of, nothing_given, env_of, placed}
use Rattle.ess_semantics.specs.Parameters.{Param, is_member, given_is_member, all_declared}
use Rattle.ess_semantics.specs.Plans as pure
use Rattle.ess_semantics.specs.Plans.{Options, givens_side, finds_side, Plan, size_plan, value_plan, plans, given_tables}
use Rattle.ess_semantics.proofs.Tests.{some-and}
use Rattle.ess_core.specs.declared.tables.NamedTable.{NamedTable}
use Rattle.ess_core.specs.TableViews.{pure_named_table}
use Rattle.ess_repr_laws.proofs.MembersWithPositions.{members-matched}
use Rattle.conjure_laws.specs.Members.{In}
use Rattle.conjure_laws.specs.Premises.{here, IsSettled, Settled, PlanFits}
use Rattle.conjure_laws.proofs.Lists.{all-items, each-both, each-of-list, at-item}
use Rattle.conjure_laws.proofs.PlacedStatements.{at-place}
use Rattle.conjure_laws.proofs.Givens.{given-from}
use Rattle.ess_translate_header_laws.specs.Headers.{IsOurs}
use Rattle.ess_translate_members_laws.specs.PlanDomains.{plan_closed}
use Rattle.ess_translate_given_laws.specs.Ready.{Ready}
use Rattle.ess_translate_given_laws.specs.ByPlans.{tables_by_plans}
use Rattle.ess_translate_given_laws.proofs.ChosenReprs.{header-plans-fit}
use Rattle.ess_translate_given_laws.proofs.ByPlans.{plans-add-one-by-one}
use Rattle.ess_translate_given.specs.ReadyPlans.{PlanReady}
use Rattle.ess_translate_given.specs.TablesBehind.{AreTables}

-- what is there is one
there-one : {A : Type 0} (x y : A) → Some x ≡ Some y → x ≡ y
there-one x y e = cc

module _ (S : List Stm) (o : Options) (settled : Settled S) (fit : Each (plans S o) (PlanFits S)) (p : Assignment) (P : Param S p) where
  -- What a declared given says in its place: it says it behind all statements, and its value is a member.
  placed-given : (s : Stm) → In s (prepared S) → (z : Env) × (IsSettled S p nothing_given s z × (given_is_member p s z ≡ true))
  placed-given s j = at-place S p nothing_given (λ s env. IsSettled S p nothing_given s env × (given_is_member p s env ≡ true)) s j
      (each-both (placed S p nothing_given) (λ l. IsSettled S p nothing_given l.stm l.env) (λ l. given_is_member p l.stm l.env ≡ true) _
      (λ l s n. (s, n)) (settled.settled p nothing_given P)
      (each-of-list (placed S p nothing_given) (λ l. given_is_member p l.stm l.env) P.are_members))

  has-room : (x : Text) (r : Repr) (d : Dom) (ns : List Named) → In (value_plan givens_side x r d ns) (plans S o) →
      PlanReady (here S p) p (value_plan givens_side x r d ns)
  has-room x r d ns i e v k w =
      let h = placed-given (given x d) (given-from (prepared S) o (all_declared S) _ x r d ns i) in
      let u = some-and (value_of p x) (is_member d h.0) h.1.1 in
      let m = some-and (domain_of d h.0) (λ e. member e u.0) u.2 in
      let same : e ≡ m.0 = there-one e m.0 (sym k ∙ sym h.1.0 ∙ m.1) in
      let one : v ≡ u.0 = there-one v u.0 (sym w ∙ u.1) in
      let f = at-item (PlanFits S) (plans S o) (value_plan givens_side x r d ns) fit i p e P k in
      let inside : member e v ≡ true = ap (λ y. member y v) same ∙ ap (member m.0) one ∙ m.2 in
      let matched = members-matched e f.0.typed in
      record { roomy = f.0.roomy; member = matched.up v inside }

  ready : (Q : Plan) → In Q (plans S o) → PlanReady (here S p) p Q
  ready (size_plan t a) i = tt
  ready (value_plan finds_side x r d ns) i = tt
  ready (value_plan givens_side x r d ns) i = has-room x r d ns i

  pub plans-ready : Each (plans S o) (PlanReady (here S p) p)
  plans-ready = all-items (PlanReady (here S p) p) (plans S o) ready

-- The tables of plans are the given tables.
pub tables_given : (a : Assignment) (ps : List Plan) (os : List (Option Domain)) (ts : Option (List NamedTable)) → AreTables a ps os ts →
    (H : Header) → IsOurs H → Ready H.statements → Param H.statements a → ps ≡ plans H.statements H.reprs →
    os ≡ map (plan_closed (env_of H.statements a nothing_given)) (plans H.statements H.reprs) →
    option_map (map pure_named_table) ts ≡ given_tables H.statements H.reprs a
tables_given a ps os ts t H h R P is at =
    let S = H.statements in let o = H.reprs in
    let fit = header-plans-fit S o h.typed h.represented R in
    t.are (here S a) (record {
      closed = at ∙ ap (map (plan_closed (here S a))) (sym is);
      each = subst (λ l. Each l (PlanReady (here S a) a)) (sym is) (plans-ready S o R.settled fit a P);
    })
    ∙ ap (tables_by_plans givens_side (here S a) a) is ∙ sym (plans-add-one-by-one.tables givens_side S o a a)
