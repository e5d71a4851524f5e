-- From which tree over tables each rule and each bound of a model comes: it is printed for a refined tree that keeps that one.
use Rattle.std.specs.Prelude.{◌≡◌, true, List, [], ◌∷◌, ◌++◌, IsTrue}
use Rattle.ess_semantics.specs.Lists.{append_all}
use Rattle.ess_semantics.specs.Values.{Text}
use Rattle.ess_semantics.specs.Trees.{Ex, Exs, truth_ex, no_exs, more_exs, Dom, bool_dom, int_dom, Stm}
use Rattle.ess_semantics.specs.Kept.{Kept}
use Rattle.ess_semantics.specs.Refined.{is_refined}
use Rattle.ess_semantics.specs.DeclaredTables.{TableDecl}
use Rattle.ess_semantics.specs.Plans.{Options, givens_side, finds_side, plans_for}
use Rattle.ess_semantics.specs.Prepared.{prepared}
use Rattle.ess_semantics.specs.ModelTrees.{Goal, no_goal, least, greatest, Model, goal_of}
use Rattle.ess_semantics.specs.Models.{constraints_of}
use Rattle.conjure_laws.specs.SideBySide.{Along}
use Rattle.conjure_model_laws.specs.Shown.{Shows, shows_of}
use Rattle.conjure_model_laws.specs.Printed.{printed}
use Rattle.conjure_model_laws.specs.IsBuiltFrom.{tree_of, condition_tree, structure_tree, all_channel_trees, all_declared_of, taken_names}

-- The expression is printed for a refined tree that keeps the first one.
abbrev pub IsPrintedFor : List Text → Ex → Ex → Type 0
IsPrintedFor taken old r = (t : Ex) × Kept [] old t × IsTrue (is_refined t) × (r ≡ printed taken t [])

-- The same, but that nothing is printed where `true` keeps it.
abbrev pub ArePrintedFor : List Text → Ex → List Ex → Type 0
ArePrintedFor taken old [] = Kept [] old (truth_ex true)
ArePrintedFor taken old (r ∷ []) = IsPrintedFor taken old r
ArePrintedFor taken old rs = ⊥

-- Bounds are printed for bounds.
abbrev pub BoundsArePrintedFor : List Text → Exs → Exs → Type 0
BoundsArePrintedFor taken no_exs no_exs = Unit {0}
BoundsArePrintedFor taken (more_exs e es) (more_exs f fs) = IsPrintedFor taken e f × BoundsArePrintedFor taken es fs
BoundsArePrintedFor taken es fs = ⊥

-- A domain of numbers or truth values is printed for one.
abbrev pub DomIsPrintedFor : List Text → Dom → Dom → Type 0
DomIsPrintedFor taken bool_dom bool_dom = Unit {0}
DomIsPrintedFor taken (int_dom rs es) (int_dom ss fs) = (rs ≡ ss) × BoundsArePrintedFor taken es fs
DomIsPrintedFor taken d e = ⊥

-- A declaration is printed for one.
abbrev pub DeclIsPrintedFor : List Text → TableDecl → TableDecl → Type 0
DeclIsPrintedFor taken t u = (t.name ≡ u.name) × Along t.axes u.axes (DomIsPrintedFor taken) × DomIsPrintedFor taken t.cell u.cell

-- The declarations of a model, in order: those of each plan of a given, and of each plan of a find.
pub record DeclarationsComeFrom (S : List Stm) (o : Options) (E : Model) : Type 0 where
  pub givens_come : Along (all_declared_of givens_side S o) E.givens (DeclIsPrintedFor (taken_names S o))
  pub finds_come : Along (all_declared_of finds_side S o) E.finds (DeclIsPrintedFor (taken_names S o))

-- The objective is printed for that of the specification, and a rule for its having a value.
abbrev pub GoalIsPrintedFor : List Text → Shows → Goal → Goal → List Ex → Type 0
GoalIsPrintedFor taken sh no_goal no_goal rs = rs ≡ []
GoalIsPrintedFor taken sh (least e) (least f) (r ∷ []) = IsPrintedFor taken (condition_tree sh e) r × IsPrintedFor taken (tree_of sh e) f
GoalIsPrintedFor taken sh (greatest e) (greatest f) (r ∷ []) = IsPrintedFor taken (condition_tree sh e) r ×
    IsPrintedFor taken (tree_of sh e) f
GoalIsPrintedFor taken sh g h rs = ⊥

-- The rules of a model, in order: one at most for each plan of a find, one for each further view, one for an objective, and one for
-- each constraint.
pub record RulesComeFrom (S : List Stm) (o : Options) (E : Model) : Type 0 where
  pub structures : List (List Ex)
  pub channels : List Ex
  pub goals : List Ex
  pub constraints : List Ex
  pub all : E.rules ≡ append_all structures ++ channels ++ goals ++ constraints
  pub structures_come : Along (plans_for finds_side S o) structures
      (λ P rs. ArePrintedFor (taken_names S o) (structure_tree (shows_of S o) P) rs)
  pub channels_come : Along (all_channel_trees S o) channels (IsPrintedFor (taken_names S o))
  pub goal_comes : GoalIsPrintedFor (taken_names S o) (shows_of S o) (goal_of (prepared S)) E.goal goals
  pub constraints_come : Along (constraints_of (prepared S)) constraints
      (λ e r. IsPrintedFor (taken_names S o) (tree_of (shows_of S o) e) r)
