-- What rules of items of matrices and of results of total functions count on at places for truth values follows from what refining has at
-- hand: marks of the tree, structures met, views of judged domains, and that the root has a value by itself. A Boolean is false where it
-- has none; then the view at the index has no place to stand for.
use Rattle.std.specs.Prelude.{◌≡◌, Bool, true, false, Some, IsTrue, is_some}
use Rattle.ess_semantics.specs.Names.{Names}
use Rattle.ess_semantics.specs.Operators.{value_of_node}
use Rattle.ess_semantics.specs.Trees.{Op, Ex, Exs, node_ex, more_exs}
use Rattle.ess_semantics.specs.Types.{Ty}
use Rattle.ess_semantics.specs.Typed.{Typed}
use Rattle.ess_semantics.specs.Meaning.{Env, meanings}
use Rattle.ess_semantics.specs.Meets.{Meets}
use Rattle.ess_semantics.specs.Kept.{Keeps}
use Rattle.ess_semantics.specs.Contexts.{guards}
use Rattle.ess_guard_natural_laws.specs.TotalButNatural.{opens_places, TotalButNatural}
use Rattle.ess_refine_laws.specs.AllRules.{Supply, OfSome}
use Rattle.ess_refine_laws.specs.MarksStay.{HasMarks}
use Rattle.ess_values_along_laws.specs.Valued.{Valued}
use Rattle.ess_views_laws.specs.MatrixViews.{item_view}
use Rattle.ess_kind_rules_laws.specs.ViewListings.{dom_seen}
use Rattle.ess_kind_rules_laws.specs.KindRules.{KindRule, truth_in_a_matrix, truth_at_an_argument, kind_rewrite}
use Rattle.ess_kinds_kept_laws.specs.KindAsks.{KindAsks}
use Rattle.ess_kind_steps_laws.specs.JudgedItems.{IsJudged}
use Rattle.ess_kind_views_laws.specs.PartsAtHand.{has_no_index}

-- The rules: of items, and of results.
abbrev pub is_of_truths : KindRule → Bool
is_of_truths truth_in_a_matrix = true
is_of_truths truth_at_an_argument = true
is_of_truths r = false

-- The root has a value by itself: it isn't false for want of one.
abbrev pub HasOwnValue : Ex → Env → Type 0
HasOwnValue (node_ex b op es) env = IsTrue (is_some (value_of_node op (meanings es env)))
HasOwnValue e env = Unit {0}

-- What each rule has at hand: such a root, and of items marks and that what is picked isn't a matrix without an index, which no text has;
-- of results that the function is a view of a judged domain.
abbrev pub TruthsAtHand : Names Ty → KindRule → Ex → Env → Type 0
TruthsAtHand g truth_in_a_matrix e env =
    HasOwnValue e env × HasMarks e g × OfSome (item_view e) (λ f. has_no_index (dom_seen f) ≡ false)
TruthsAtHand g truth_at_an_argument (node_ex b op (more_exs f es)) env =
    HasOwnValue (node_ex b op (more_exs f es)) env × IsJudged f env
TruthsAtHand g r e env = Unit {0}

-- So each of these rules that fires has what it counts on where structures are met, and keeps what it rewrites.
pub record TruthRulesHaveWhatTheyAsk : Type 0 where
  pub asked : (s : Supply) (g : Names Ty) (r : KindRule) (e f : Ex) → kind_rewrite s g r e ≡ Some f → is_of_truths r ≡ true →
      (env : Env) → TruthsAtHand g r e env → Meets e env → KindAsks s g r e env
  pub kept : (s : Supply) (g : Names Ty) (r : KindRule) (e f : Ex) → kind_rewrite s g r e ≡ Some f → is_of_truths r ≡ true →
      (env : Env) → Typed g env → TruthsAtHand g r e env → Keeps e f env

-- A Boolean that is total but for plain operators in natural places has such a value, as conditions make it, where its operands have values
-- and stand in no natural place.
abbrev pub TotalTreesHaveOwnValues : Type 0
TotalTreesHaveOwnValues = (w : Bool) (op : Op) (es : Exs) (env : Env) → guards op ≡ false → opens_places w true op ≡ false →
    TotalButNatural w (node_ex true op es) env → Valued w (node_ex true op es) env → HasOwnValue (node_ex true op es) env
