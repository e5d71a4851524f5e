-- Why a run that translates a parameter or cells ends so, and what it leaves. The files are looked at one after another: that of the
-- model, that of the parameter, that of the cells.
use Rattle.std.specs.Prelude.{◌≡◌, ℕ, ◌⊎◌, List, [], Option, Some, None}
use Rattle.ess_semantics.specs.Names.{Names}
use Rattle.ess_semantics.specs.Trees.{Stm}
use Rattle.ess_semantics.specs.Tables.{Table}
use Rattle.ess_semantics.specs.Assignments.{Assignment}
use Rattle.ess_semantics.specs.ModelTrees.{Header, Model}
use Rattle.ess_io.specs.Counts.{Rose}
use Rattle.ess_io.specs.Trees.{Tree, with_file, LeavesPrefix}
use Rattle.ess_io.specs.Sinks.{grown, GrewByPrefix}
use Rattle.eprime_cells_laws.specs.CellsText.{cells_text}
use Rattle.ess_translate.specs.declared.refusal.Which.{Which}
use Rattle.ess_translate.specs.declared.refusal.TransNo.{TransNo}
use Rattle.ess_translate_files.specs.ModelFiles.{IsModelFile, IsNoModelFile}
use Rattle.ess_translate_files.specs.GivenFiles.{IsGiven, IsNotGiven}
use Rattle.ess_translate_solutions.specs.CellFiles.{IsSolved, IsNotSolved}
use Rattle.conjure_cli.specs.Seen.{FilesSeen, SinkSeen, Took, LeavesLine}
use Rattle.conjure_cli.specs.Ending.{out_line, LeavesErr}
use Rattle.conjure_cli.specs.Reasons.{refusal_line}
use Rattle.conjure_cli.specs.Tasks.{Task, translate}
use Rattle.conjure_cli.specs.Judging.{StopsLater}
use Rattle.conjure_cli.specs.declared.ending.Ending.{Ending}
use Rattle.conjure_cli.specs.declared.outcome.Outcome.{Outcome}

-- ---- the files

-- the file of cells, where there is one
abbrev pub cells_file : Option (List ℕ) → List ℕ
cells_file None = []
cells_file (Some file) = file

-- the file that is looked at
abbrev pub source_of : Which → List ℕ → List ℕ → Option (List ℕ) → List ℕ
source_of Which.Model model param cells = model
source_of Which.Param model param cells = param
source_of Which.Solution model param cells = cells_file cells
source_of Which.Essence model param cells = model

-- the file that is told: that of the model where it has no header of this tool, else the one that is looked at
abbrev pub told_source : Outcome → Which → List ℕ → List ℕ → Option (List ℕ) → List ℕ
told_source (Outcome.Refused TransNo.HeaderBad) at model param cells = model
told_source outcome at model param cells = source_of at model param cells

-- the file is that of the model E with the header H
abbrev pub ModelRead : Option Tree → List ℕ → Header → Model → Type 0
ModelRead tree file H E = (text : List ℕ) × Took tree file text × IsModelFile text H E

-- the file is that of a parameter p, with the given tables q
abbrev pub GivenRead : Option Tree → List ℕ → Header → Model → Assignment → Names Table → Type 0
GivenRead tree file H E p q = (text : List ℕ) × (F : List Stm) × Took tree file text × IsGiven H E text F p q

-- the file is that of cells, and the bytes are the text of the solution for which they stand
abbrev pub SolvedRead : Option Tree → List ℕ → Header → Model → Assignment → Names Table → List ℕ → Type 0
SolvedRead tree file H E p q bytes = (text : List ℕ) × Took tree file text × IsSolved H E p q text bytes

-- ---- the translation

-- The bytes are the translation of the parameter, where there is no file of cells: the text of the given tables.
abbrev pub IsTranslation : Option Tree → Option (List ℕ) → Header → Model → Assignment → Names Table → List ℕ → Type 0
IsTranslation tree None H E p q bytes = bytes ≡ cells_text E.givens q
IsTranslation tree (Some cells) H E p q bytes = SolvedRead tree cells H E p q bytes

-- The file is that of a parameter of the model E with the header H, and the bytes are the translation.
abbrev pub TranslatesFor : Option Tree → List ℕ → Option (List ℕ) → Header → Model → List ℕ → Type 0
TranslatesFor tree param cells H E bytes =
    (p : Assignment) × (q : Names Table) × GivenRead tree param H E p q × IsTranslation tree cells H E p q bytes

-- The files are those of a model and of a parameter of it, and the bytes are the translation.
pub record Translates (tree : Option Tree) (model param : List ℕ) (cells : Option (List ℕ)) (bytes : List ℕ) : Type 0 where
  pub H : Header
  pub E : Model
  pub p : Assignment
  pub q : Names Table
  pub header : ModelRead tree model H E
  pub given : GivenRead tree param H E p q
  pub translation : IsTranslation tree cells H E p q bytes

-- Why the run stops at a file of cells, where there is one.
abbrev pub CellsStop : Outcome → Option (List ℕ) → FilesSeen → FilesSeen → Header → Model → Assignment → Names Table → Type 0
CellsStop outcome None before after H E p q = ⊥
CellsStop outcome (Some cells) before after H E p q = StopsLater outcome cells before after (IsNotSolved H E p q)

-- Why there is no translation where the model and the parameter are read: for want of memory, or it stops at the file of cells.
abbrev pub BytesStop : Which → Outcome → Option (List ℕ) → FilesSeen → FilesSeen → Header → Model → Assignment → Names Table → Type 0
BytesStop Which.Param outcome c before after H E p q = outcome ≡ Outcome.Plain Ending.NoMemory
BytesStop Which.Solution outcome c before after H E p q = CellsStop outcome c before after H E p q
BytesStop _ outcome c before after H E p q = ⊥

-- Why the run stops at one of the files behind that of the model E with the header H.
abbrev pub StopsFor : Which → Outcome → List ℕ → Option (List ℕ) → FilesSeen → FilesSeen → Header → Model → Type 0
StopsFor Which.Param outcome p c before after H E = StopsLater outcome p before after (IsNotGiven H E)
StopsFor Which.Solution outcome p c before after H E =
    (a : Assignment) × (q : Names Table) × GivenRead before.tree p H E a q × CellsStop outcome c before after H E a q
StopsFor _ outcome p c before after H E = ⊥

-- Why the run stops at one of the files: those before it are read, and nothing stands against them.
abbrev pub SourceCause : Which → Outcome → List ℕ → List ℕ → Option (List ℕ) → FilesSeen → FilesSeen → Type 0
SourceCause Which.Model outcome m p c before after = StopsLater outcome m before after IsNoModelFile
SourceCause Which.Param outcome m p c before after =
    (H : Header) × (E : Model) × ModelRead before.tree m H E × StopsLater outcome p before after (IsNotGiven H E)
SourceCause Which.Solution outcome m p c before after =
    (H : Header) × (E : Model) × (a : Assignment) × (q : Names Table) × ModelRead before.tree m H E × GivenRead before.tree p H E a q ×
    CellsStop outcome c before after H E a q
SourceCause Which.Essence outcome m p c before after = ⊥

-- ---- how the run ends

-- some bytes are the translation, and P holds of them
abbrev pub SomeTranslation : Option Tree → List ℕ → List ℕ → Option (List ℕ) → (List ℕ → Type 0) → Type 0
SomeTranslation tree m p c P = (bytes : List ℕ) × Translates tree m p c bytes × P bytes

-- Why the run ends so: since the work is done, since the write or `out` failed behind it, for want of memory, or since it stops at a
-- file.
abbrev pub TranslateCause : Outcome → Which → List ℕ → List ℕ → Option (List ℕ) → FilesSeen → FilesSeen → SinkSeen → SinkSeen → Type 0
TranslateCause (Outcome.Plain Ending.Done) at m p c before after out_before out_after =
    SomeTranslation before.tree m p c (λ bytes. Unit {0})
TranslateCause (Outcome.Plain Ending.OutputFailed) at m p c before after out_before out_after =
    SomeTranslation before.tree m p c (λ bytes. Rose out_before.faults out_after.faults)
TranslateCause (Outcome.Plain Ending.Unwritable) at m p c before after out_before out_after =
    SomeTranslation before.tree m p c (λ bytes. Rose before.faults after.faults)
TranslateCause (Outcome.Plain Ending.NoMemory) at m p c before after out_before out_after = Unit {0}
TranslateCause outcome at m p c before after out_before out_after = SourceCause at outcome m p c before after

-- What the run leaves of the files: the translation at its place, a prefix of it where its write failed, else nothing new.
abbrev pub TranslateFiles : Outcome → List ℕ → List ℕ → Option (List ℕ) → List ℕ → FilesSeen → FilesSeen → Type 0
TranslateFiles (Outcome.Plain Ending.Done) m p c place before after =
    SomeTranslation before.tree m p c (λ bytes. after.tree ≡ with_file before.tree place bytes)
TranslateFiles (Outcome.Plain Ending.OutputFailed) m p c place before after =
    SomeTranslation before.tree m p c (λ bytes. after.tree ≡ with_file before.tree place bytes)
TranslateFiles (Outcome.Plain Ending.Unwritable) m p c place before after =
    SomeTranslation before.tree m p c (LeavesPrefix before.tree after.tree place)
TranslateFiles (Outcome.Plain Ending.NoMemory) m p c place before after =
    (after.tree ≡ before.tree) ⊎ SomeTranslation before.tree m p c (LeavesPrefix before.tree after.tree place)
TranslateFiles outcome m p c place before after = after.tree ≡ before.tree

-- What it leaves on `out`: its line, a prefix of it after a fault, or nothing new.
abbrev pub TranslateOut : Outcome → List ℕ → SinkSeen → SinkSeen → Type 0
TranslateOut (Outcome.Plain Ending.Done) place before after = after.bytes ≡ grown before.bytes (out_line place)
TranslateOut (Outcome.Plain Ending.OutputFailed) place before after = GrewByPrefix before.bytes after.bytes (out_line place)
TranslateOut _ place before after = after.bytes ≡ before.bytes

-- What it leaves on `err`: nothing new where the work is done, else the outcome's line.
abbrev pub TranslateErr : Outcome → List ℕ → List ℕ → SinkSeen → SinkSeen → Type 0
TranslateErr (Outcome.Judged v) file place before after = ⊥
TranslateErr (Outcome.Refused why) file place before after = LeavesLine (refusal_line file why) before after
TranslateErr (Outcome.Plain ending) file place before after = LeavesErr ending file place before after
TranslateErr (Outcome.BadItem k) file place before after = ⊥

-- ---- what is written

-- How the bytes were written to their place, and what was said of it on `out`.
abbrev pub Written : Ending → List ℕ → List ℕ → FilesSeen → FilesSeen → SinkSeen → SinkSeen → Type 0
Written Ending.Done place bytes before after out_before out_after =
    (after.tree ≡ with_file before.tree place bytes) × (out_after.bytes ≡ grown out_before.bytes (out_line place))
Written Ending.OutputFailed place bytes before after out_before out_after =
    (after.tree ≡ with_file before.tree place bytes) × Rose out_before.faults out_after.faults ×
    GrewByPrefix out_before.bytes out_after.bytes (out_line place)
Written Ending.Unwritable place bytes before after out_before out_after =
    LeavesPrefix before.tree after.tree place bytes × Rose before.faults after.faults × (out_after.bytes ≡ out_before.bytes)
Written Ending.NoMemory place bytes before after out_before out_after =
    LeavesPrefix before.tree after.tree place bytes × (out_after.bytes ≡ out_before.bytes)
Written _ place bytes before after out_before out_after = ⊥

-- ---- what follows, without the ending

-- Where something is translated: on status 0 its place holds the translation of what the files were before.
abbrev pub SaysTranslation : ℕ → Option Task → FilesSeen → FilesSeen → Type 0
SaysTranslation status (Some (translate m p c place)) before after =
    status ≡ 0 → SomeTranslation before.tree m p c (λ bytes. after.tree ≡ with_file before.tree place bytes)
SaysTranslation status _ before after = Unit {0}
