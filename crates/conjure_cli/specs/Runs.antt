-- How a run of any command ends: with which status, why, and what it leaves.
use Rattle.std.specs.Prelude.{◌≡◌, ℕ, Bool, true, false, ◌⊎◌, List, Option, Some, None}
use Rattle.ess_io.specs.Trees.{KeepsOthers}
use Rattle.ess_translate.specs.declared.refusal.Which.{Which}
use Rattle.conjure_cli.specs.Seen.{FilesSeen, SinkSeen}
use Rattle.conjure_cli.specs.Ending.{status_of, LeavesOut, LeavesErr, MissingIsFour, TextDecides}
use Rattle.conjure_cli.specs.Refining.{CauseTo, FilesTo, OutTo, ErrTo}
use Rattle.conjure_cli.specs.Reasons.{refusal_status, verdict_status}
use Rattle.conjure_cli.specs.Tasks.{Task, refine, judge, translate, test, name_told, place_told}
use Rattle.conjure_cli.specs.Judging.{file_of, JudgeCause, JudgeOut, JudgeErr}
use Rattle.conjure_cli.specs.Decided.{FilesDecide}
use Rattle.conjure_cli.specs.Testing.{TestCause, TestOut}
use Rattle.conjure_cli.specs.Translating.{told_source, TranslateCause, TranslateFiles, TranslateOut, TranslateErr}
use Rattle.conjure_cli.specs.TranslationDecided.{TranslationDecides}
use Rattle.conjure_cli.specs.declared.ending.Ending.{Ending}
use Rattle.conjure_cli.specs.declared.outcome.Outcome.{Outcome}

-- The status of the program.
abbrev pub outcome_status : Outcome → ℕ
outcome_status (Outcome.Plain ending) = status_of ending
outcome_status (Outcome.Judged v) = verdict_status v
outcome_status (Outcome.Refused why) = refusal_status why
outcome_status (Outcome.BadItem k) = 3

-- a property of an ending that any command may have
abbrev pub IfPlain : Outcome → (Ending → Type 0) → Type 0
IfPlain (Outcome.Plain ending) P = P ending
IfPlain _ P = ⊥

-- The cause where a file is refined. Where the words take memory, want of it may come while they are read.
abbrev pub RefineCause : Bool → Option (List ℕ) → List ℕ → FilesSeen → FilesSeen → SinkSeen → SinkSeen → Outcome → Type 0
RefineCause false list file before after out_before out_after outcome = CauseTo outcome list file before after out_before out_after
RefineCause true list file before after out_before out_after outcome =
    CauseTo outcome list file before after out_before out_after ⊎ (outcome ≡ Outcome.Plain Ending.NoMemory)

-- The cause by the task. The file that is looked at counts where a solution is judged.
abbrev pub HasCause : Outcome → Which → Option Task → Bool → FilesSeen → FilesSeen → SinkSeen → SinkSeen → Type 0
HasCause outcome at None takes before after out_before out_after =
    IfPlain outcome (λ ending. (ending ≡ Ending.Usage) ⊎ (ending ≡ Ending.NoMemory))
HasCause outcome at (Some (test n)) takes before after out_before out_after = TestCause outcome out_before out_after
HasCause outcome at (Some (refine file place list)) takes before after out_before out_after =
    RefineCause takes list file before after out_before out_after outcome
HasCause outcome at (Some (judge e p s)) takes before after out_before out_after =
    JudgeCause outcome at e p s before after out_before out_after
HasCause outcome at (Some (translate m p c place)) takes before after out_before out_after =
    TranslateCause outcome at m p c before after out_before out_after

-- What a run leaves of the files: one that refines and translates nothing touches none.
abbrev pub LeavesBy : Outcome → Option Task → FilesSeen → FilesSeen → Type 0
LeavesBy outcome (Some (refine file place list)) before after = FilesTo outcome list file place before after
LeavesBy outcome (Some (translate m p c place)) before after = TranslateFiles outcome m p c place before after
LeavesBy outcome _ before after = after.tree ≡ before.tree

-- no file is touched but that of the model or of the translation
abbrev pub KeepsAllElse : Option Task → FilesSeen → FilesSeen → Type 0
KeepsAllElse (Some (refine file place list)) before after = KeepsOthers before.tree after.tree place
KeepsAllElse (Some (translate m p c place)) before after = KeepsOthers before.tree after.tree place
KeepsAllElse _ before after = after.tree ≡ before.tree

-- What a run leaves on `out`.
abbrev pub LeavesOutBy : Outcome → Option Task → FilesSeen → SinkSeen → SinkSeen → Type 0
LeavesOutBy outcome (Some (refine file place list)) seen before after = OutTo outcome place before after
LeavesOutBy outcome (Some (judge e p s)) seen before after = JudgeOut outcome seen.tree e p s before after
LeavesOutBy outcome (Some (translate m p c place)) seen before after = TranslateOut outcome place before after
LeavesOutBy outcome (Some (test n)) seen before after = TestOut outcome n before after
LeavesOutBy outcome task seen before after = IfPlain outcome (λ ending. LeavesOut ending (place_told task) before after)

-- What a run leaves on `err`.
abbrev pub LeavesErrBy : Outcome → Which → Option Task → SinkSeen → SinkSeen → Type 0
LeavesErrBy outcome at (Some (refine file place list)) before after = ErrTo outcome file place before after
LeavesErrBy outcome at (Some (judge e p s)) before after = JudgeErr outcome (file_of at e p s) before after
LeavesErrBy outcome at (Some (translate m p c place)) before after = TranslateErr outcome (told_source outcome at m p c) place before after
LeavesErrBy outcome at task before after = IfPlain outcome (λ ending. LeavesErr ending (name_told task) (place_told task) before after)

-- A run of this task, whose words take memory or don't, ends so: with this status, by this cause, and it leaves this.
pub record Ends (outcome : Outcome) (status : ℕ) (task : Option Task) (takes : Bool) (before after : FilesSeen)
    (out_before out_after err_before err_after : SinkSeen) : Type 0 where
  -- the file that is looked at
  pub at : Which
  pub status_is : status ≡ outcome_status outcome
  pub cause : HasCause outcome at task takes before after out_before out_after
  pub files : LeavesBy outcome task before after
  pub out : LeavesOutBy outcome task before out_before out_after
  pub err : LeavesErrBy outcome at task err_before err_after

-- ---- What follows, without the ending.

-- the words don't fit, and status 2 says so, but for want of memory
abbrev pub UsageIsTwo : ℕ → Option Task → Type 0
UsageIsTwo status task = (status ≡ 2 → task ≡ None) × (task ≡ None → (status ≡ 2) ⊎ (status ≡ 6))

-- A missing file that is to be refined gives 4. Where the words take memory, 6 may come in place of 4.
abbrev pub MissingBy : ℕ → Option Task → Bool → FilesSeen → FilesSeen → Type 0
MissingBy status (Some (refine file place list)) false before after = MissingIsFour status file before after
MissingBy status (Some (refine file place list)) true before after = MissingIsFour status file before after ⊎ (status ≡ 6)
MissingBy status _ takes before after = Unit

-- What is read decides, by the task.
abbrev pub DecidesBy : ℕ → Option Task → FilesSeen → FilesSeen → SinkSeen → SinkSeen → Type 0
DecidesBy status (Some (refine file place list)) before after out_before out_after =
    TextDecides status list file before after out_before out_after
DecidesBy status (Some (judge e p s)) before after out_before out_after = FilesDecide status e p s before after out_before out_after
DecidesBy status (Some (translate m p c place)) before after out_before out_after =
    TranslationDecides status m p c before after out_before out_after
DecidesBy status _ before after out_before out_after = Unit
