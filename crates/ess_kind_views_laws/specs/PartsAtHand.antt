-- What rules of components of views, and of views that are kept as another value, count on follows from what refining has at hand: marks of
-- the tree, structures met, views of judged domains, and tables that are canonical.
use Rattle.std.specs.Prelude.{◌≡◌, Bool, true, false, List, Some}
use Rattle.ess_semantics.specs.declared.words.ReprKind.{ReprKind}
use Rattle.ess_semantics.specs.Values.{Text}
use Rattle.ess_semantics.specs.Names.{Names}
use Rattle.ess_semantics.specs.Trees.{repr, Ex, node_ex, seen_ex, more_exs, Dom, no_doms, matrix_dom}
use Rattle.ess_semantics.specs.Types.{Ty}
use Rattle.ess_semantics.specs.Typed.{Typed}
use Rattle.ess_semantics.specs.Meaning.{Env}
use Rattle.ess_semantics.specs.Meets.{Meets}
use Rattle.ess_semantics.specs.Kept.{Keeps}
use Rattle.ess_rules_laws.specs.Listings.{Alternative}
use Rattle.ess_refine_laws.specs.AllRules.{Supply, OfSome}
use Rattle.ess_refine_laws.specs.MarksStay.{HasMarks}
use Rattle.ess_views_laws.specs.ComponentViews.{component_view}
use Rattle.ess_views_kept_laws.specs.ChildrenKept.{asked_view}
use Rattle.ess_kind_rules_laws.specs.ViewListings.{dom_seen, view_listing}
use Rattle.ess_kind_rules_laws.specs.KindRules.{KindRule, component_of_a_view, asked_of_its_child, kind_rewrite}
use Rattle.ess_kinds_kept_laws.specs.CanonicalChildren.{IsCanonical}
use Rattle.ess_kinds_kept_laws.specs.ViewAsks.{ViewAsks}
use Rattle.ess_kinds_kept_laws.specs.KindAsks.{KindAsks}
use Rattle.ess_kind_steps_laws.specs.JudgedItems.{IsJudged}

-- ---- rules

-- The rules: of components and fields, and of what asks the child as which a value is kept.
abbrev pub is_of_parts : KindRule → Bool
is_of_parts component_of_a_view = true
is_of_parts asked_of_its_child = true
is_of_parts r = false

-- Whether the domain is one of matrices without an index, which no text has.
abbrev pub has_no_index : Dom → Bool
has_no_index (matrix_dom no_doms d) = true
has_no_index d = false

-- What each rule has at hand: marks, a view of a judged domain, and a component that isn't such a matrix; of a view that is kept as
-- another value that its tables are canonical.
abbrev pub PartsAtHand : Names Ty → KindRule → Ex → Env → Type 0
PartsAtHand g component_of_a_view (node_ex b op (more_exs v es)) env =
    HasMarks (node_ex b op (more_exs v es)) g × IsJudged v env
    × OfSome (component_view (node_ex b op (more_exs v es))) (λ f. has_no_index (dom_seen f) ≡ false)
PartsAtHand g asked_of_its_child e env = IsJudged (asked_view e) env × IsCanonical (asked_view e) env
PartsAtHand g r e env = Unit {0}

-- So each of these rules that fires has what it counts on where structures are met, and keeps what it rewrites.
pub record PartRulesHaveWhatTheyAsk : Type 0 where
  pub asked : (s : Supply) (g : Names Ty) (r : KindRule) (e f : Ex) → kind_rewrite s g r e ≡ Some f → is_of_parts r ≡ true →
      (env : Env) → PartsAtHand g r e env → Meets e env → KindAsks s g r e env
  pub kept : (s : Supply) (g : Names Ty) (r : KindRule) (e f : Ex) → kind_rewrite s g r e ≡ Some f → is_of_parts r ≡ true →
      (env : Env) → Typed g env → PartsAtHand g r e env → Keeps e f env

-- ---- listings

-- Whether the expression is a view that is kept as another value.
abbrev pub is_kept_view : Ex → Bool
is_kept_view (seen_ex (repr ReprKind.RelationAsSet rs) d ns js) = true
is_kept_view (seen_ex (repr ReprKind.FunctionAsRelation rs) d ns js) = true
is_kept_view (seen_ex (repr ReprKind.PartitionAsSet rs) d ns js) = true
is_kept_view e = false

-- So what such a view offers has what it counts on, where structures are met and tables canonical.
abbrev pub KeptViewsAreListed : Type 0
KeptViewsAreListed =
    (x y : Text) (zs : List Text) (t : Ex) (a : Alternative) → view_listing x y zs t ≡ Some a → is_kept_view t ≡ true → (env : Env) →
    IsJudged t env → IsCanonical t env → Meets t env → ViewAsks x y zs t env
