-- What a verdict on the command line is worth: the status says whether the specification holds of the parameter and the solution.
use Rattle.std.specs.Prelude.{◌≡◌, ℕ, List, Option, Some}
use Rattle.ess_semantics.specs.Trees.{Stm}
use Rattle.ess_semantics.specs.Assignments.{Assignment}
use Rattle.ess_semantics.specs.Parameters.{Param}
use Rattle.ess_semantics.specs.Solutions.{Sol}
use Rattle.ess_io.specs.Trees.{Tree}
use Rattle.ess_translate_laws.specs.FileAssignments.{solution_in}
use Rattle.ess_translate.specs.Texts.{SpellsLettings}
use Rattle.conjure_cli.specs.Seen.{FilesSeen, Took}
use Rattle.conjure_cli.specs.Tasks.{Task, judge}
use Rattle.conjure_cli.specs.Judging.{EssenceRead, ParamRead}

-- the file is one of lettings that stands for the assignment a of the finds, under the parameter p of S
abbrev pub FindsRead : Option Tree → List ℕ → List Stm → Assignment → Assignment → Type 0
FindsRead tree file S p a = (text : List ℕ) × (G : List Stm) × Took tree file text × SpellsLettings text G × (a ≡ solution_in S p G)

-- The three files are a well typed specification S, a parameter p of it and an assignment a of its finds, and `Holds` says
-- something of the three.
pub record FilesSay (tree : Option Tree) (essence param solution : List ℕ) (Holds : List Stm → Assignment → Assignment → Type 0) : Type 0 where
  pub S : List Stm
  pub p : Assignment
  pub a : Assignment
  pub specification : EssenceRead tree essence S
  pub parameter : ParamRead tree param S p
  pub is_param : Param S p
  pub assignment : FindsRead tree solution S p a
  pub holds : Holds S p a

-- Where a solution is judged: on status 0 it is one, on status 1 it is none.
abbrev pub SaysWhetherSolution : ℕ → Option Task → FilesSeen → Type 0
SaysWhetherSolution status (Some (judge essence param solution)) before =
    (status ≡ 0 → FilesSay before.tree essence param solution Sol) ×
    (status ≡ 1 → FilesSay before.tree essence param solution (λ S p a. Sol S p a → ⊥))
SaysWhetherSolution status _ before = Unit {0}
