-- The steps of a translation, one after the other.
use Rattle.std.proofs.Common.{◌≡◌, List, inl, inr}
use Rattle.std.specs.Prelude.{Ok, Err, IfOk, IfErr}
use Rattle.std.specs.declared.result.Result.{Result}
use Rattle.ess_semantics.specs.Values.{Text}
use Rattle.ess_semantics.specs.Names.{Names}
use Rattle.ess_semantics.specs.Trees.{Stm}
use Rattle.ess_semantics.specs.Tables.{Table}
use Rattle.ess_semantics.specs.Assignments.{Assignment}
use Rattle.ess_semantics.specs.ModelTrees.{Header, Model}
use Rattle.eprime_cells_laws.specs.CellsText.{cells_text}
use Rattle.ess_translate.specs.declared.refusal.TransNo.{TransNo}
use Rattle.ess_translate_files.specs.ModelFiles.{IsModelFile}
use Rattle.ess_translate_files.specs.GivenFiles.{IsGiven}
use Rattle.ess_translate_solutions.specs.CellFiles.{IsSolved, IsNotSolved}
use Rattle.ess_translate_solutions.specs.Translations.{AreGiven, IsParameterText, IsSolutionText, IsNoSolutionText}

-- A model and a parameter that are read.
abbrev pub both_given : (model param : Text) (H : Header) (E : Model) (p : Assignment) (q : Names Table) → IsModelFile model H E →
    ((F : List Stm) × IsGiven H E param F p q) → AreGiven model param
both_given model param H E p q m i = record { H = H; E = E; F = i.0; p = p; q = q; file = m; given = i.1 }

-- The text of the tables of a parameter.
pub parameter_joined : {B : Type 0} (f : B → Text) (model param : Text) (H : Header) (E : Model) (p : Assignment) (q : Names Table)
    (r : Result B TransNo) → IsModelFile model H E → ((F : List Stm) × IsGiven H E param F p q) →
    IfOk r (λ b. f b ≡ cells_text E.givens q) → IfOk r (λ b. IsParameterText model param (f b))
parameter_joined f model param H E p q (Ok b) m i h = record { are = both_given model param H E p q m i; text = h }
parameter_joined f model param H E p q (Err why) m i h = tt

-- The text of the solution for which cells stand.
pub solution_joined : {B : Type 0} (f : B → Text) (model param cells : Text) (H : Header) (E : Model) (p : Assignment) (q : Names Table)
    (r : Result B TransNo) → IsModelFile model H E → ((F : List Stm) × IsGiven H E param F p q) →
    IfOk r (λ b. IsSolved H E p q cells (f b)) → IfOk r (λ b. IsSolutionText model param cells (f b))
solution_joined f model param cells H E p q (Ok b) m i h = record { are = both_given model param H E p q m i; solved = h }
solution_joined f model param cells H E p q (Err why) m i h = tt

-- Cells that stand for none.
pub solution_refused : {B : Type 0} (model param cells : Text) (H : Header) (E : Model) (p : Assignment) (q : Names Table)
    (r : Result B TransNo) → IsModelFile model H E → ((F : List Stm) × IsGiven H E param F p q) →
    IfErr r (IsNotSolved H E p q cells) → IfErr r (IsNoSolutionText model param cells)
solution_refused model param cells H E p q (Ok b) m i h = tt
solution_refused model param cells H E p q (Err why) m i h = inr (both_given model param H E p q m i, h)
