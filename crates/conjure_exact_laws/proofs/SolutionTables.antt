-- Tables that satisfy an exact model are the canonical ones of what they stand for. So a solution has one list of tables.
use Rattle.std.proofs.Common.{◌≡◌, refl, sym, ap, ◌∙◌, subst, true, false, List, [], map, Some, None}
use Rattle.ess_semantics.specs.Lists.{and_then}
use Rattle.ess_semantics.specs.Values.{Text}
use Rattle.ess_semantics.specs.Names.{Names}
use Rattle.ess_semantics.specs.Trees.{Stm}
use Rattle.ess_semantics.specs.Tables.{Table, Tables}
use Rattle.ess_semantics.specs.Judgements.{fault, is_well_typed}
use Rattle.ess_semantics.specs.ChosenOptions.{OptionsFit}
use Rattle.ess_semantics.specs.Prepared.{prepared}
use Rattle.ess_semantics.specs.Assignments.{Assignment, value_of}
use Rattle.ess_semantics.specs.Parameters.{Param}
use Rattle.ess_semantics.specs.Solutions.{Sol, finds}
use Rattle.ess_semantics.specs.Plans.{Options, Plan, size_plan, value_plan, plans, plans_for, finds_side, givens_side, Stands, canonical_tables, given_tables}
use Rattle.ess_semantics.specs.ModelTrees.{Header, Model}
use Rattle.ess_semantics.specs.Models.{Ordered, Models, IsExact}
use Rattle.ess_semantics.specs.Satisfaction.{Sat}
use Rattle.ess_grammar.specs.Readable.{ReadableStms}
use Rattle.conjure_laws.specs.Members.{In}
use Rattle.conjure_laws.specs.Premises.{Instance, is_on}
use Rattle.conjure_laws.specs.ModelPremises.{Base}
use Rattle.conjure_laws.proofs.Lists.{all-items, along-left, in-filter}
use Rattle.conjure_laws.proofs.Statements.{finds-prepared, plan-is-found, find-is-named}
use Rattle.conjure_laws.proofs.NamedValues.{look-made, keys-made}
use Rattle.conjure_laws.proofs.Matching.{PlanMatch, Matched, matched-canonical, canonical-matched}
use Rattle.conjure_laws.proofs.MatchedTables.{matched-stands}
use Rattle.conjure_laws.proofs.FittingPlans.{well-typed-plans}
use Rattle.conjure_laws.proofs.ChosenFit.{options-choose}
use Rattle.ess_translate_given_laws.specs.Ready.{Ready}
use Rattle.conjure_round_laws.specs.Stood.{stood, StandForSolution}
use Rattle.conjure_round_laws.proofs.StoodSolutions.{satisfying-stand}
use Rattle.conjure_round_laws.proofs.ReadableReady.{readable-ready}
use Rattle.conjure_exact_laws.specs.OneTables.{HasItsTables}
use Rattle.conjure_exact_laws.specs.Laws.{EachSolutionHasItsTables}

is-clean : (S : List Stm) → fault S ≡ None → is_well_typed S ≡ true
is-clean S e = ap (λ o. elim o [ None ↦ true | Some f ↦ false ]) e

-- What speaks of no rule of a model that stands for a well typed specification.
base-of : (S : List Stm) (o : Options) (H : Header) (E : Model) → fault S ≡ None → Ready S → OptionsFit S o → Models S o H E → Base S o E
base-of S o H E e R f M = record {
  ground = record {
    settled = R.settled;
    chosen = options-choose S o f;
    fit = well-typed-plans S o (is-clean S e) f R.fields R.typed;
  };
  declares = record {
    given_names = M.given_names;
    find_names = M.find_names;
    given_domains = λ p q I. M.given_domains p q I.param I.tables;
    find_domains = λ p q I. M.find_domains p q I.param I.tables;
  };
}

one-of-two : (c d : Names Table) → Some c ≡ Some d → c ≡ d
one-of-two c d e = cc

module _ (S : List Stm) (o : Options) (H : Header) (E : Model) (p : Assignment) (q : Names Table) (e : fault S ≡ None) (r : ReadableStms S)
    (f : OptionsFit S o) (M : Models S o H E) (X : IsExact S o E) (P : Param S p) (g : given_tables S o p ≡ Some q) where
  base : Base S o E
  base = base-of S o H E e (readable-ready S e r) f M

  instance_of : Instance S o p q
  instance_of = record { param = P; tables = g }

  abbrev Ps : List Plan
  Ps = plans_for finds_side S o

  -- The values of the finds in order of declaration.
  abbrev in_order : Assignment → Assignment
  in_order a = record { types = []; vals = map (λ x. (x, value_of a x)) (finds S) }

  same-value : (a : Assignment) (x : Text) → In x (finds S) → value_of (in_order a) x ≡ value_of a x
  same-value a x i = ap (λ y. and_then y (λ v. v)) (look-made (λ y. value_of a y) (finds S) x i)

  plan-match : (a : Assignment) (Q : Plan) (ts : Tables) → In Q Ps → PlanMatch S p a Q ts → PlanMatch S p (in_order a) Q ts
  plan-match a (size_plan t n) ts i m = m
  plan-match a (value_plan givens_side x s d ns) ts i m =
      let z = (in-filter (is_on finds_side) (value_plan givens_side x s d ns) (plans S o) i).1 in cc
  plan-match a (value_plan finds_side x s d ns) ts i m =
      let j = (in-filter (is_on finds_side) (value_plan finds_side x s d ns) (plans S o) i).0 in
      let n : In x (finds S) = subst (In x) (finds-prepared S) (find-is-named (prepared S) x d (plan-is-found S o x s d ns j)) in record {
        e = m.e;
        v = m.v;
        closed = m.closed;
        value = same-value a x n ∙ m.value;
        fit = m.fit;
        inside = m.inside;
        there = m.there;
        passes = m.passes;
        stands = m.stands;
        are = m.are;
        long = m.long;
      }

  in-order-matched : (a : Assignment) (c : Names Table) → Matched S o p a c → Matched S o p (in_order a) c
  in-order-matched a c m = record {
    tss = m.tss;
    each = along-left Ps m.tss (λ Q. In Q Ps) (PlanMatch S p a) (PlanMatch S p (in_order a)) (λ Q ts i h. plan-match a Q ts i h)
        (all-items (λ Q. In Q Ps) Ps (λ Q i. i)) m.each;
    all = m.all;
  }

  stand-for : (c : Names Table) → Sat E q c → StandForSolution S o p c
  stand-for c s = satisfying-stand S o H E p q c (readable-ready S e r) M P g s

  -- Tables that stand for an assignment stand for no other one.
  one-stood : (c : Names Table) → Sat E q c → (a : Assignment) → Stands S o p a c → stood S o p c ≡ a
  one-stood c s a h =
      let u = (M.represents p q P g).one_solution c s in u.3 (stood S o p c) (stand-for c s).stands ∙ sym (u.3 a h)

  -- Satisfying tables are the canonical ones of what they stand for.
  canonical-stood : (c : Names Table) → Sat E q c → canonical_tables finds_side S o p (stood S o p c) ≡ Some c
  canonical-stood c s =
      let x = X.canonical p q c P g s in
      let m = in-order-matched x.0 c (canonical-matched S o E base p q instance_of x.0 c x.1.in_domains x.2) in
      let h : Stands S o p (in_order x.0) c =
      matched-stands S o E base p q instance_of (in_order x.0) c m (keys-made (λ y. value_of x.0 y) (finds S)) refl in
      ap (canonical_tables finds_side S o p) (one-stood c s (in_order x.0) h) ∙ matched-canonical S o p (in_order x.0) c m

  its-tables : (a : Assignment) → Sol S p a → Ordered S a → HasItsTables S o E p q a
  its-tables a s k =
      let x = (M.represents p q P g).each_solution a s k in
      let t : stood S o p x.0 ≡ a = one-stood x.0 x.1 a x.2 in record {
        tables = x.0;
        satisfy = x.1;
        stood_for = ap (λ b. b.vals) t;
        only = λ d h v. one-of-two d x.0
            (sym (canonical-stood d h)
            ∙ ap (λ vs. canonical_tables finds_side S o p (record { types = []; vals = vs })) (v ∙ sym (ap (λ b. b.vals) t))
            ∙ canonical-stood x.0 x.1);
      }

-- Exactly one list of found tables satisfies the model and stands for a solution.
pub each-has-its-tables : EachSolutionHasItsTables
each-has-its-tables S o H E p a q e r f M X P g s k = its-tables S o H E p q e r f M X P g a s k
