-- Rules of components, and of views that are kept as another value, have what they count on, and keep what they rewrite.
use Rattle.std.proofs.Common.{◌≡◌, subst, true, false, [], ◌∷◌, Some, None}
use Rattle.ess_semantics.specs.declared.words.Op1.{Op1}
use Rattle.ess_semantics.specs.declared.words.Op2.{Op2}
use Rattle.ess_semantics.specs.declared.words.Fun.{Fun}
use Rattle.ess_semantics.specs.declared.words.ReprKind.{ReprKind}
use Rattle.ess_semantics.specs.Lists.{and_then}
use Rattle.ess_semantics.specs.Names.{Names}
use Rattle.ess_semantics.specs.Trees.{to_component, to_field, index, repr, Ex, node_ex, seen_ex, no_exs, more_exs, ex1, ex2, fun1, tuple_dom, record_dom}
use Rattle.ess_semantics.specs.Types.{Ty}
use Rattle.ess_semantics.specs.Typing.{path_ty}
use Rattle.ess_semantics.specs.Meaning.{Env}
use Rattle.ess_semantics.specs.Meets.{Meets}
use Rattle.ess_refine_laws.specs.AllRules.{Supply, OfSome}
use Rattle.ess_refine_laws.specs.MarksStay.{MarkFits}
use Rattle.ess_views_laws.specs.ComponentViews.{component_view}
use Rattle.ess_views_kept_laws.specs.ComponentsKept.{FitsMark, ChildrenCovered}
use Rattle.ess_views_kept_laws.specs.ChildrenKept.{asked_view}
use Rattle.ess_kind_rules_laws.specs.KindRules.{KindRule, component_of_a_view, asked_of_its_child, kind_rewrite}
use Rattle.ess_kinds_kept_laws.specs.KindAsks.{KindAsks}
use Rattle.ess_kinds_kept_laws.proofs.KindRulesKeep.{kind-rules-keep}
use Rattle.ess_kind_views_laws.specs.PartsAtHand.{is_of_parts, PartsAtHand, PartRulesHaveWhatTheyAsk, KeptViewsAreListed}
use Rattle.ess_kind_views_laws.proofs.KnownChildren.{known-child}
use Rattle.ess_kind_views_laws.proofs.ComponentsFit.{child-fits, field-fits, components-covered, fields-covered}

no : {A : Type 0} → false ≡ true → A
no h = cc

-- A rule that doesn't fire.
absent : {A : Type 0} (f : Ex) → None ≡ Some f → A
absent f q = cc

-- ---- components

component-asked : (g : Names Ty) (e f : Ex) → component_view e ≡ Some f → (env : Env) → PartsAtHand g component_of_a_view e env →
    OfSome (component_view e) (FitsMark e) × ChildrenCovered e env
component-asked g (node_ex b (index (to_component k ∷ [])) (more_exs (seen_ex (repr ReprKind.Tuple rs) (tuple_dom ds) ns js) no_exs)) f q
    env h = (
      child-fits k rs ds ns js b h.2
          (λ t i. subst (λ o. MarkFits b (index (to_component k ∷ [])) (and_then o (λ v. path_ty v [] [] []))) i h.0.0),
      components-covered rs ds env h.1,
    )
component-asked g (node_ex b (index (to_field a ∷ [])) (more_exs (seen_ex (repr ReprKind.Rec rs) (record_dom fs ds) ns js) no_exs)) f q env
    h = (
      field-fits a fs rs ds ns js b h.2
          (λ t i. subst (λ o. MarkFits b (index (to_field a ∷ [])) (and_then o (λ v. path_ty v [] [] []))) i h.0.0),
      fields-covered rs fs ds env h.1,
    )
component-asked g _ f q env h = absent f q

-- ---- children

-- Tables meet the structure of the view that is asked.
asked-met : (e : Ex) (env : Env) → Meets e env → Meets (asked_view e) env
asked-met (ex2 true Op2.Member a (fun1 false Fun.ToRelation v)) env m = m.1.0.0
asked-met (ex2 true Op2.Member a v) env m = m.1.0
asked-met (ex1 false Op1.Bar (fun1 false Fun.Parts v)) env m = m.0.0
asked-met (ex1 false Op1.Bar v) env m = m.0
asked-met _ env m = m

-- ---- each rule

asked : (s : Supply) (g : Names Ty) (r : KindRule) (e f : Ex) → kind_rewrite s g r e ≡ Some f → is_of_parts r ≡ true → (env : Env) →
    PartsAtHand g r e env → Meets e env → KindAsks s g r e env
asked s g component_of_a_view e f q i env h m = component-asked g e f q env h
asked s g asked_of_its_child e f q i env h m = known-child (asked_view e) env h.0 h.1 (asked-met e env m)
asked s g _ e f q i env h m = no i

-- What is proved of them.
pub part-rules-have : PartRulesHaveWhatTheyAsk
part-rules-have = record {
  asked = asked;
  kept = λ s g r e f q i env t h m. kind-rules-keep.each s g r e f q env t (asked s g r e f q i env h m) m;
}

-- And of views that are kept as another value.
pub kept-views-are-listed : KeptViewsAreListed
kept-views-are-listed x y zs (seen_ex (repr ReprKind.RelationAsSet rs) d ns js) a q i env j can m =
    known-child (seen_ex (repr ReprKind.RelationAsSet rs) d ns js) env j can m
kept-views-are-listed x y zs (seen_ex (repr ReprKind.FunctionAsRelation rs) d ns js) a q i env j can m =
    known-child (seen_ex (repr ReprKind.FunctionAsRelation rs) d ns js) env j can m
kept-views-are-listed x y zs (seen_ex (repr ReprKind.PartitionAsSet rs) d ns js) a q i env j can m =
    known-child (seen_ex (repr ReprKind.PartitionAsSet rs) d ns js) env j can m
kept-views-are-listed x y zs _ a q i env j can m = no i
