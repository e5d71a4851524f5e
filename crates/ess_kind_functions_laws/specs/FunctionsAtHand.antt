-- What rules of views of functions of atoms count on follows from what refining has at hand: types and values of the tree, and views of
-- judged domains.
use Rattle.std.specs.Prelude.{◌≡◌, Bool, true, false, Some}
use Rattle.ess_semantics.specs.declared.words.ReprKind.{ReprKind}
use Rattle.ess_semantics.specs.Names.{Names}
use Rattle.ess_semantics.specs.Trees.{repr, Ex, node_ex, seen_ex, ex1, ex2, fun1, no_exs, more_exs}
use Rattle.ess_semantics.specs.Types.{Ty}
use Rattle.ess_semantics.specs.Meaning.{Env}
use Rattle.ess_semantics.specs.Meets.{Meets}
use Rattle.ess_semantics.specs.Kept.{Keeps}
use Rattle.ess_refine_laws.specs.AllRules.{Supply}
use Rattle.ess_values_along_laws.specs.Valued.{Valued}
use Rattle.ess_kind_rules_laws.specs.KindRules.{KindRule, argument_with_a_flag, size_of_a_function, truth_behind_a_flag, kind_rewrite}
use Rattle.ess_kinds_kept_laws.specs.KindAsks.{KindAsks}
use Rattle.ess_kind_steps_laws.specs.JudgedItems.{IsJudged}
use Rattle.ess_kind_steps_laws.specs.SetsAtHand.{AtHand}

-- The rules: of arguments by their flags, of results behind a flag at a place for truth values, and of sizes.
abbrev pub is_of_functions : KindRule → Bool
is_of_functions argument_with_a_flag = true
is_of_functions truth_behind_a_flag = true
is_of_functions size_of_a_function = true
is_of_functions r = false

-- Whether the view is one of a function whose arguments are atoms.
abbrev pub is_by_atom : Ex → Bool
is_by_atom (seen_ex (repr ReprKind.Function1D rs) d ns js) = true
is_by_atom (seen_ex (repr ReprKind.Function1DPartial rs) d ns js) = true
is_by_atom e = false

-- What each rule has at hand: the view that it rewrites is such a one of a judged domain.
abbrev pub FunctionsAtHand : KindRule → Ex → Env → Type 0
FunctionsAtHand argument_with_a_flag (ex2 b o a (fun1 m w f)) env = (is_by_atom f ≡ true) × IsJudged f env
FunctionsAtHand truth_behind_a_flag (node_ex b op (more_exs f (more_exs a no_exs))) env = (is_by_atom f ≡ true) × IsJudged f env
FunctionsAtHand size_of_a_function (ex1 b o v) env = (is_by_atom v ≡ true) × IsJudged v env
FunctionsAtHand r e env = Unit {0}

-- So each of these rules that fires has what it counts on where structures are met and each part of the tree has a value wherever its
-- context holds, but for numbers in natural places, and keeps what it rewrites. w says that the tree stands in one.
pub record FunctionRulesHaveWhatTheyAsk : Type 0 where
  pub asked : (s : Supply) (g : Names Ty) (r : KindRule) (e f : Ex) → kind_rewrite s g r e ≡ Some f → is_of_functions r ≡ true →
      (env : Env) → AtHand s g r e env → FunctionsAtHand r e env → (w : Bool) → Valued w e env → Meets e env → KindAsks s g r e env
  pub kept : (s : Supply) (g : Names Ty) (r : KindRule) (e f : Ex) → kind_rewrite s g r e ≡ Some f → is_of_functions r ≡ true →
      (env : Env) → AtHand s g r e env → FunctionsAtHand r e env → (w : Bool) → Valued w e env → Keeps e f env
