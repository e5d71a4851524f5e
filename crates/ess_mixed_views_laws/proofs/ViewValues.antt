-- Over the tables of an instance the view of a find that is a nested set has its value, and its structures are met.
use Rattle.std.proofs.Common.{◌≡◌, refl, sym, ap, ◌∙◌, true, List, [], ◌++◌, Some, None, option_map}
use Rattle.ess_semantics.specs.Values.{Text, Value}
use Rattle.ess_semantics.specs.Names.{Names, look, keys}
use Rattle.ess_semantics.specs.Trees.{Repr, Ex, seen_ex, no_exs, Dom, Stm, find}
use Rattle.ess_semantics.specs.Domains.{Domain}
use Rattle.ess_semantics.specs.Membership.{member}
use Rattle.ess_semantics.specs.Tables.{Table}
use Rattle.ess_semantics.specs.TableNames.{Named}
use Rattle.ess_semantics.specs.Meaning.{Env, meaning}
use Rattle.ess_semantics.specs.Meets.{Meets}
use Rattle.ess_semantics.specs.Positions.{domain_with_positions}
use Rattle.ess_semantics.specs.Prepared.{prepared}
use Rattle.ess_semantics.specs.Assignments.{Assignment, env_of}
use Rattle.ess_semantics.specs.Judgements.{fault}
use Rattle.ess_semantics.specs.Plans.{Options, Side, finds_side, value_plan, plans}
use Rattle.ess_semantics.specs.ModelTrees.{no_goal}
use Rattle.conjure_laws.specs.Members.{In}
use Rattle.conjure_laws.specs.Premises.{Instance, here}
use Rattle.conjure_laws.specs.ModelPremises.{Canonical}
use Rattle.conjure_laws.specs.Views.{over_tables}
use Rattle.conjure_laws.proofs.Lists.{at-item}
use Rattle.conjure_laws.proofs.Statements.{plan-is-found}
use Rattle.conjure_model_laws.specs.Shown.{view_by}
use Rattle.conjure_model_laws.proofs.ViewValues.{views-have-values}
use Rattle.conjure_settled_laws.specs.EndValues.{IsInEnv}
use Rattle.conjure_settled_laws.proofs.EndValues.{typed-has-end-values}
use Rattle.ess_nested_laws.proofs.NestedForms.{written_truths, written_numbers, NestedSet, KeptAs, as_atom, by_occurrence, with_a_dummy, in_slots, with_a_marker, with_flags}
use Rattle.ess_nested_laws.proofs.NestedDenoted.{written_domain, nested-denoted, nested-placed}
use Rattle.ess_mixed_models_laws.specs.MixedSpecifications.{are_mixed_statements}
use Rattle.ess_mixed_models_laws.proofs.MixedLayers.{model_with, base}
use Rattle.ess_mixed_models_laws.proofs.ScalarValues.{plan-found}
use Rattle.ess_mixed_views_laws.proofs.PlainMembers.{nested-own, nested-met}

-- The view by a plan of nested sets is no cell.
pub view-is : {r : Repr} {d : Dom} → NestedSet d → KeptAs r d → (c : Dom) (f : Side) (x : Text) (ns : List Named) →
    view_by c (value_plan f x r d ns) ≡ seen_ex r c (keys ns) no_exs
view-is n (as_atom written_truths) c f x ns = elim n [ ]
view-is n (as_atom written_numbers) c f x ns = elim n [ ]
view-is n (by_occurrence s a) c f x ns = refl
view-is n (with_a_dummy s) c f x ns = refl
view-is n (in_slots s k w) c f x ns = refl
view-is n (with_a_marker s w) c f x ns = refl
view-is n (with_flags s w) c f x ns = refl

same-value : (v w : Value) → Some v ≡ Some w → v ≡ w
same-value v w e = cc

same-domain : (d e : Domain) → Some d ≡ Some e → d ≡ e
same-domain d e q = cc

module _ (S : List Stm) (o : Options) (h : are_mixed_statements S o ≡ true) (f : fault S ≡ None) (p a : Assignment) (q c : Names Table)
    (I : Instance S o p q) (C : Canonical S o p a c) where
  abbrev there : Env
  there = over_tables S p (q ++ c)

  -- The expression has the value of the name, and its structures are met.
  pub record StandsForName (x : Text) (w : Ex) : Type 0 where
    pub value : meaning w there ≡ look (env_of S p a).vals x
    pub met : Meets w there

  -- So does the view of a nested set by its plan.
  pub view-stands : (x : Text) (r : Repr) (d : Dom) (ns : List Named) → In (value_plan finds_side x r d ns) (plans S o) → NestedSet d →
      StandsForName x (view_by d (value_plan finds_side x r d ns))
  view-stands x r d ns i n =
      let V = views-have-values S o (model_with S o h no_goal []) (base S o h f no_goal []) p a q c I C finds_side x r d ns i d []
      (nested-denoted n there ∙ ap (λ z. Some z) (sym (nested-placed n))
      ∙ ap (option_map domain_with_positions) (sym (nested-denoted n (here S p)))) (nested-met n there) in
      let F = (plan-found S o h f no_goal [] p a q c I C x r d ns i).1 in
      let same : F.v ≡ V.0 = same-value F.v V.0 (sym F.value ∙ V.1) in
      let inside : member (written_domain d) V.0 ≡ true =
      ap (λ e. member e V.0) (same-domain (written_domain d) F.e (sym (nested-denoted n (here S p)) ∙ F.closed))
      ∙ ap (member F.e) (sym same) ∙ F.inside in
      record {
        value = V.2.0 ∙ ap (λ v. Some v) (nested-own n V.0 inside) ∙ sym V.1
            ∙ sym (at-item (IsInEnv S p a (env_of S p a)) (prepared S) (find x d) (typed-has-end-values S p a f I.param).declared
            (plan-is-found S o x r d ns i));
        met = V.2.1;
      }
