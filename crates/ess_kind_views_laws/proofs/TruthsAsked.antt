-- Rules of items and results at places for truth values have what they count on, and keep what they rewrite.
use Rattle.std.proofs.Common.{◌≡◌, refl, ap, Bool, true, false, if◌then◌else◌, [], ◌∷◌, Option, Some, None, option_map}
use Rattle.std.specs.Prelude.{is_some}
use Rattle.ess_semantics.specs.declared.words.Fun.{Fun}
use Rattle.ess_semantics.specs.declared.words.ReprKind.{ReprKind}
use Rattle.ess_semantics.specs.Lists.{and_then, all_some}
use Rattle.ess_semantics.specs.Names.{Names}
use Rattle.ess_semantics.specs.Operators.{value_of_op}
use Rattle.ess_semantics.specs.Trees.{by_value, index, word, application, tuple_literal, Op, repr, no_reprs, more_reprs, Ex, node_ex, seen_ex, no_exs, more_exs, tuple_dom, function_dom, matrix_dom, more_doms}
use Rattle.ess_semantics.specs.Domains.{tuples}
use Rattle.ess_semantics.specs.Types.{Ty, type_of_dom, nested_ty}
use Rattle.ess_semantics.specs.Typing.{static, type_of}
use Rattle.ess_semantics.specs.Meaning.{Env, meaning}
use Rattle.ess_semantics.specs.Meets.{Meets}
use Rattle.ess_repr_laws.proofs.Enumerables.{atom-enumerable}
use Rattle.ess_rules_laws.specs.FunctionKeys.{view_at, result_at_argument, HeldBy, ArgumentHeld}
use Rattle.ess_rules_laws.specs.SetListings.{put_last}
use Rattle.ess_refine_laws.specs.AllRules.{Supply, OfSome}
use Rattle.ess_values_along_laws.proofs.ValuesAlong.{values-along}
use Rattle.ess_views_laws.specs.MatrixViews.{item_view}
use Rattle.ess_views_kept_laws.specs.ComponentsKept.{FitsMark}
use Rattle.ess_views_kept_laws.specs.ItemsKept.{IndexHeld}
use Rattle.ess_kind_rules_laws.specs.KindRules.{KindRule, truth_in_a_matrix, truth_at_an_argument, asks_truth, kind_rewrite}
use Rattle.ess_kinds_kept_laws.specs.KindAsks.{KindAsks}
use Rattle.ess_kinds_kept_laws.proofs.KindRulesKeep.{kind-rules-keep}
use Rattle.ess_kind_steps_laws.specs.JudgedItems.{IsJudged}
use Rattle.ess_kind_functions_laws.proofs.JudgedFunctions.{total-arguments}
use Rattle.ess_kind_views_laws.proofs.JudgedTuples.{FiniteTuples, total-tuples, tuples-enumerated}
use Rattle.ess_kind_views_laws.specs.TruthsAtHand.{is_of_truths, TruthsAtHand, TruthRulesHaveWhatTheyAsk, TotalTreesHaveOwnValues}
use Rattle.ess_kind_views_laws.proofs.IndicesHeld.{item-mark, item-fits, index-held}
use Rattle.ess_kind_views_laws.proofs.ArgumentsHeld.{takes_argument, argument-held}

no : {A : Type 0} → false ≡ true → A
no h = cc

-- A rule that doesn't fire.
absent : {A : Type 0} (f : Ex) → None ≡ Some f → A
absent f q = cc

-- A rule at places for truth values fires.
fires : (b : Bool) (o : Option Ex) (f : Ex) → (if b then o else None) ≡ Some f → o ≡ Some f
fires true o f q = q
fires false o f q = absent f q

-- ---- items

item-asked : (g : Names Ty) (e f : Ex) → item_view e ≡ Some f → (env : Env) → TruthsAtHand g truth_in_a_matrix e env → Meets e env →
    OfSome (item_view e) (FitsMark e) × IndexHeld e env
item-asked g (node_ex b (index (by_value ∷ []))
    (more_exs (seen_ex (repr ReprKind.Matrix (more_reprs r no_reprs)) (matrix_dom (more_doms i is) d) ns js) (more_exs a no_exs))) f q env h
    m = (
      item-fits b r is d ns (put_last js a) h.2
          (item-mark b (static a) (type_of a g) (type_of_dom i) (nested_ty is (type_of_dom d)) h.1.0),
      index-held r i is d ns js a env m.0 h.0,
    )
item-asked g _ f q env h m = absent f q

-- ---- results

argument-at : (v a f : Ex) (b : Bool) (op : Op) → view_at b v a ≡ Some f → takes_argument op ≡ true → (env : Env) → IsJudged v env →
    Meets v env → is_some (and_then (all_some (meaning v env ∷ meaning a env ∷ [])) (value_of_op op)) ≡ true → HeldBy v a env
argument-at (seen_ex (repr ReprKind.Function1D (more_reprs r no_reprs)) (function_dom ms es d c) ns js) a f b op q t env j m h =
    let x = total-arguments r ms es d c env j in
    argument-held (repr ReprKind.Function1D (more_reprs r no_reprs)) ms es d c ns js a env x.0 x.1 (atom-enumerable x.0 x.2) op t m h
argument-at (seen_ex (repr ReprKind.FunctionND (more_reprs r no_reprs)) (function_dom ms es (tuple_dom ds) c) ns js)
    (node_ex false tuple_literal as') f b op q t env j m h =
    let x : FiniteTuples ds env = total-tuples r ms es ds c env j in
    argument-held (repr ReprKind.FunctionND (more_reprs r no_reprs)) ms es (tuple_dom ds) c ns js (node_ex false tuple_literal as') env
    (tuples x.parts) (ap (option_map tuples) x.are_parts) (tuples-enumerated ds env x) op t m h
argument-at _ a f b op q t env j m h = absent f q

result-asked : (g : Names Ty) (e f : Ex) → result_at_argument e ≡ Some f → (env : Env) → TruthsAtHand g truth_at_an_argument e env →
    Meets e env → ArgumentHeld e env
result-asked g (node_ex b application (more_exs v (more_exs a no_exs))) f q env h m =
    argument-at v a f b application q refl env h.1 m.0 h.0
result-asked g (node_ex b (word Fun.Image) (more_exs v (more_exs a no_exs))) f q env h m =
    argument-at v a f b (word Fun.Image) q refl env h.1 m.0 h.0
result-asked g _ f q env h m = absent f q

-- ---- each rule

asked : (s : Supply) (g : Names Ty) (r : KindRule) (e f : Ex) → kind_rewrite s g r e ≡ Some f → is_of_truths r ≡ true → (env : Env) →
    TruthsAtHand g r e env → Meets e env → KindAsks s g r e env
asked s g truth_in_a_matrix e f q i env h m = item-asked g e f (fires (asks_truth e) (item_view e) f q) env h m
asked s g truth_at_an_argument e f q i env h m = result-asked g e f (fires (asks_truth e) (result_at_argument e) f q) env h m
asked s g _ e f q i env h m = no i

-- What is proved of them.
pub truth-rules-have : TruthRulesHaveWhatTheyAsk
truth-rules-have = record {
  asked = asked;
  kept = λ s g r e f q i env t h m. kind-rules-keep.each s g r e f q env t (asked s g r e f q i env h m) m;
}

-- And of values by themselves.
pub total-own-values : TotalTreesHaveOwnValues
total-own-values w op es env g o t v = t.0 (values-along.operands w true op es env g o v)
