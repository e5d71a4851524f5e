-- What the reader of texts of cells answers.
use Rattle.std.specs.Prelude.{◌≡◌, List, Ok, Err}
use Rattle.std.specs.declared.result.Result.{Result}
use Rattle.ess_semantics.specs.Values.{Text}
use Rattle.ess_semantics.specs.Names.{Names}
use Rattle.ess_semantics.specs.Trees.{Ex}
use Rattle.ess_grammar.specs.Texts.{Reads, IsWithinLimits}
use Rattle.ess_grammar.specs.CellTexts.{IsCells}
use Rattle.ess_core.specs.declared.tables.Cells.{Cells}
use Rattle.ess_parse.specs.declared.refusal.ReadNo.{ReadNo}
use Rattle.eprime_tree.specs.declared.models.PDecl.{PDecl}
use Rattle.eprime_cells_machine.specs.declared.values.CellLetting.{CellLetting}
use Rattle.eprime_cells_machine.specs.ValueViews.{pure_lettings}
use Rattle.eprime_cells_judging.specs.declared.judging.FitNo.{FitNo}
use Rattle.eprime_cells_judging.specs.Fitting.{IsFit}
use Rattle.eprime_read_cells.specs.declared.cells.CellsNo.{CellsNo}

-- A refusal of the reader of lettings.
abbrev pub read_no : ReadNo → CellsNo
read_no ReadNo.NoMemory = CellsNo.NoMemory
read_no why = CellsNo.Read why

-- A refusal of lettings as tables.
abbrev pub fit_no : FitNo → CellsNo
fit_no (FitNo.Missing a) = CellsNo.Missing a
fit_no (FitNo.Extra a) = CellsNo.Extra a
fit_no (FitNo.OutOfDomain a) = CellsNo.OutOfDomain a
fit_no FitNo.Big = CellsNo.Big
fit_no FitNo.NoMemory = CellsNo.NoMemory

-- The answer where the lettings are read.
abbrev pub behind_fit : Result Cells FitNo → Result Cells CellsNo
behind_fit (Ok c) = Ok c
behind_fit (Err why) = Err (fit_no why)

-- The answer behind the reader of lettings.
abbrev pub IsOutcome : List PDecl → Cells → List PDecl → Result (List CellLetting) ReadNo → Result Cells CellsNo → Type 0
IsOutcome ks q ds (Ok ls) x = (r : Result Cells FitNo) × IsFit ks q ds (pure_lettings ls) r × (x ≡ behind_fit r)
IsOutcome ks q ds (Err why) x = x ≡ Err (read_no why)

-- The answer as one of a reader that looks at the text alone: a text that is refused for what its lettings are is read.
abbrev pub as_read : Result Cells CellsNo → Result (Unit {0}) ReadNo
as_read (Ok c) = Ok tt
as_read (Err (CellsNo.Read why)) = Err why
as_read (Err CellsNo.NoMemory) = Err ReadNo.NoMemory
as_read (Err why) = Ok tt

-- What the values cs of names are for the declarations is this answer.
abbrev pub IsAnswerFor : List PDecl → Cells → List PDecl → Names Ex → Result Cells CellsNo → Type 0
IsAnswerFor ks q ds cs (Ok c) = IsFit ks q ds cs (Ok c)
IsAnswerFor ks q ds cs (Err (CellsNo.Missing a)) = IsFit ks q ds cs (Err (FitNo.Missing a))
IsAnswerFor ks q ds cs (Err (CellsNo.Extra a)) = IsFit ks q ds cs (Err (FitNo.Extra a))
IsAnswerFor ks q ds cs (Err (CellsNo.OutOfDomain a)) = IsFit ks q ds cs (Err (FitNo.OutOfDomain a))
IsAnswerFor ks q ds cs (Err CellsNo.Big) = IsFit ks q ds cs (Err FitNo.Big)
IsAnswerFor ks q ds cs (Err CellsNo.NoMemory) = Unit {0}
IsAnswerFor ks q ds cs (Err (CellsNo.Read why)) = ⊥

-- Where the text is read, the rules derive values of names for it, and the answer is what they are.
abbrev pub IsFitted : List PDecl → Cells → List PDecl → Text → Result Cells CellsNo → Type 0
IsFitted ks q ds text (Err (CellsNo.Read why)) = Unit {0}
IsFitted ks q ds text (Err CellsNo.NoMemory) = Unit {0}
IsFitted ks q ds text r = (cs : Names Ex) × Reads text (IsCells cs) × IsAnswerFor ks q ds cs r

-- Values of names that the rules derive for a text within the limits are judged, but for want of memory.
abbrev pub IsJudged : List PDecl → Cells → List PDecl → Text → Result Cells CellsNo → Type 0
IsJudged ks q ds text r = (cs : Names Ex) → Reads text (IsCells cs) → IsWithinLimits text → IsAnswerFor ks q ds cs r
