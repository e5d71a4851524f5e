-- Models in Essence Prime, as the manual's chapter on its output describes it, as trees: a header, declared tables, an objective and constraints. A model's expressions are
-- expressions whose declared names are cells; each cell has the truth value that its declaration gives it.
use Rattle.std.specs.Prelude.{Bool, true, false, List, [], ◌∷◌, ◌++◌, filter}
use Rattle.ess_semantics.specs.DeclaredTables.{TableDecl}
use Rattle.ess_semantics.specs.Names.{Names}
use Rattle.ess_semantics.specs.Trees.{Repr, Ex, Stm, such_that, minimise, maximise}
use Rattle.ess_semantics.specs.Plans.{Options, all_chosen}

-- The statements of the specification but constraints and objectives, and the representations of each given and find.
pub record Header : Type 0 where
  pub statements : List Stm
  pub reprs : Names (List Repr)

-- An objective with its direction, or none.
pub data Goal : Type 0 where
  no_goal : Goal
  least greatest : Ex → Goal

-- A model without its header.
pub record Model : Type 0 where
  pub givens : List TableDecl
  pub finds : List TableDecl
  pub goal : Goal
  pub rules : List Ex

-- Whether a statement is a constraint.
abbrev pub is_constraint : Stm → Bool
is_constraint (such_that e) = true
is_constraint s = false

-- Whether a statement stands in the header.
abbrev pub in_header : Stm → Bool
in_header (such_that e) = false
in_header (minimise e) = false
in_header (maximise e) = false
in_header s = true

-- The header of a model of S with these options.
abbrev pub header_of : List Stm → Options → Header
header_of S o = record { statements = filter in_header S; reprs = all_chosen S o }

-- All declarations, givens first.
abbrev pub all_decls : Model → List TableDecl
all_decls E = E.givens ++ E.finds

-- The objective of a specification.
abbrev pub goal_of : List Stm → Goal
goal_of [] = no_goal
goal_of (minimise e ∷ ss) = least e
goal_of (maximise e ∷ ss) = greatest e
goal_of (s ∷ ss) = goal_of ss

-- Whether two objectives have one direction, or both are none.
abbrev pub same_direction : Goal → Goal → Bool
same_direction no_goal no_goal = true
same_direction (least e) (least f) = true
same_direction (greatest e) (greatest f) = true
same_direction g h = false
