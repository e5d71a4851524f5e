-- What is answered on all texts of a translation: a text is looked at where those before it aren't refused.
use Rattle.std.specs.Prelude.{◌≡◌, ◌⊎◌, List}
use Rattle.ess_semantics.specs.Values.{Text}
use Rattle.ess_semantics.specs.Names.{Names}
use Rattle.ess_semantics.specs.Trees.{Stm}
use Rattle.ess_semantics.specs.Tables.{Table}
use Rattle.ess_semantics.specs.Assignments.{Assignment}
use Rattle.ess_semantics.specs.ModelTrees.{Header, Model}
use Rattle.eprime_cells_laws.specs.CellsText.{cells_text}
use Rattle.ess_translate.specs.declared.refusal.TransNo.{TransNo}
use Rattle.ess_translate_files.specs.ModelFiles.{IsModelFile, IsNoModelFile}
use Rattle.ess_translate_files.specs.GivenFiles.{IsGiven, IsNotGiven}
use Rattle.ess_translate_solutions.specs.CellFiles.{IsSolved, IsNotSolved}

-- The two texts are a model with its header and a parameter for it, whose tables are these.
pub record AreGiven (model param : Text) : Type 0 where
  pub H : Header
  pub E : Model
  pub F : List Stm
  pub p : Assignment
  pub q : Names Table
  pub file : IsModelFile model H E
  pub given : IsGiven H E param F p q

-- The first of the two texts that is refused, and why.
abbrev pub AreNotGiven : Text → Text → TransNo → Type 0
AreNotGiven model param why =
    IsNoModelFile model why ⊎ ((H : Header) × (E : Model) × IsModelFile model H E × IsNotGiven H E param why)

-- The bytes are the text of the parameter's tables.
pub record IsParameterText (model param bytes : Text) : Type 0 where
  pub are : AreGiven model param
  pub text : bytes ≡ cells_text are.E.givens are.q

-- The bytes are the text of the solution for which the cells stand.
pub record IsSolutionText (model param cells bytes : Text) : Type 0 where
  pub are : AreGiven model param
  pub solved : IsSolved are.H are.E are.p are.q cells bytes

-- The first of the three texts that is refused, and why.
abbrev pub IsNoSolutionText : Text → Text → Text → TransNo → Type 0
IsNoSolutionText model param cells why =
    AreNotGiven model param why ⊎
    ((g : AreGiven model param) × IsNotSolved g.H g.E g.p g.q cells why)
