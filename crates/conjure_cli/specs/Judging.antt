-- Why a run that judges a solution ends so, and what it says. The files are looked at one after another: that of the
-- specification, that of the parameter, that of the solution.
use Rattle.std.specs.Prelude.{◌≡◌, ℕ, ◌+◌, ◌⊎◌, List, [], length, Option}
use Rattle.ess_semantics.specs.Trees.{Stm}
use Rattle.ess_semantics.specs.Assignments.{Assignment}
use Rattle.ess_io.specs.Counts.{Rose}
use Rattle.ess_io.specs.Trees.{Tree}
use Rattle.ess_io.specs.Sinks.{grown, GrewByPrefix}
use Rattle.ess_domains.specs.declared.verdicts.Verdict.{Verdict}
use Rattle.ess_translate.specs.declared.refusal.Which.{Which}
use Rattle.ess_translate.specs.declared.refusal.TransNo.{TransNo}
use Rattle.ess_translate.specs.Answers.{IsEssence, IsNoEssence, IsParameter, IsNoParameter, IsJudged, IsNotJudged}
use Rattle.conjure_cli.specs.Seen.{FilesSeen, SinkSeen, limit, IsAbsent, WasRead, Took, IsLater, LeavesLine}
use Rattle.conjure_cli.specs.Reasons.{refusal_line, verdict_line}
use Rattle.conjure_cli.specs.Ending.{LeavesErr}
use Rattle.conjure_cli.specs.declared.ending.Ending.{Ending}
use Rattle.conjure_cli.specs.declared.outcome.Outcome.{Outcome}

-- the file that is looked at
abbrev pub file_of : Which → List ℕ → List ℕ → List ℕ → List ℕ
file_of Which.Essence essence param solution = essence
file_of Which.Param essence param solution = param
file_of Which.Solution essence param solution = solution
file_of Which.Model essence param solution = essence

-- the outcome of a refusal
abbrev pub refused : TransNo → Outcome
refused TransNo.NoMemory = Outcome.Plain Ending.NoMemory
refused why = Outcome.Refused why

-- a refusal that is told; want of memory is another outcome
abbrev pub IsTold : TransNo → Type 0
IsTold TransNo.NoMemory = ⊥
IsTold _ = Unit {0}

-- Why a file stops the run: it isn't there, can't be read, or is too long, or there is no room for it.
abbrev pub FileStops : Ending → List ℕ → FilesSeen → FilesSeen → Type 0
FileStops Ending.Missing file before after = Rose before.misses after.misses × IsAbsent before after file
FileStops Ending.Unreadable file before after = Rose before.faults after.faults
FileStops Ending.TooLong file before after = (text : List ℕ) × WasRead before.tree file text × (length text ≡ limit + 1)
FileStops Ending.NoMemory file before after = Unit {0}
FileStops _ file before after = ⊥

-- The same of a file and its text; P says why the text is refused.
abbrev pub StopsAt : Outcome → List ℕ → FilesSeen → FilesSeen → (List ℕ → TransNo → Type 0) → Type 0
StopsAt (Outcome.Plain ending) file before after P = FileStops ending file before after
StopsAt (Outcome.Refused why) file before after P = (text : List ℕ) × Took before.tree file text × IsTold why × P text why
StopsAt (Outcome.Judged v) file before after P = ⊥
StopsAt (Outcome.BadItem k) file before after P = ⊥

-- The same from a later moment, at which the file was read.
abbrev pub StopsLater : Outcome → List ℕ → FilesSeen → FilesSeen → (List ℕ → TransNo → Type 0) → Type 0
StopsLater outcome file before after P = (middle : FilesSeen) × IsLater before middle × StopsAt outcome file middle after P

-- the file is that of the well typed specification S
abbrev pub EssenceRead : Option Tree → List ℕ → List Stm → Type 0
EssenceRead tree file S = (text : List ℕ) × Took tree file text × IsEssence text S

-- the file is that of a parameter p of S
abbrev pub ParamRead : Option Tree → List ℕ → List Stm → Assignment → Type 0
ParamRead tree file S p = (text : List ℕ) × (F : List Stm) × Took tree file text × IsParameter S text F p

-- the file is that of a solution with this verdict, under the parameter p of S
abbrev pub SolutionRead : Option Tree → List ℕ → List Stm → Assignment → Verdict → Type 0
SolutionRead tree file S p v = (text : List ℕ) × Took tree file text × IsJudged S p text v

-- Why the run stops at one of the files: those before it are read, and nothing stands against them.
abbrev pub StopCause : Which → Outcome → List ℕ → List ℕ → List ℕ → FilesSeen → FilesSeen → Type 0
StopCause Which.Essence outcome e p s before after = StopsLater outcome e before after IsNoEssence
StopCause Which.Param outcome e p s before after =
    (S : List Stm) × EssenceRead before.tree e S × StopsLater outcome p before after (IsNoParameter S)
StopCause Which.Solution outcome e p s before after =
    (S : List Stm) × (a : Assignment) × EssenceRead before.tree e S × ParamRead before.tree p S a ×
    StopsLater outcome s before after (IsNotJudged S a)
StopCause Which.Model outcome e p s before after = ⊥

-- the files are those of a specification, a parameter and a solution with this verdict
abbrev pub VerdictFound : Option Tree → List ℕ → List ℕ → List ℕ → Verdict → Type 0
VerdictFound tree e p s v =
    (S : List Stm) × (a : Assignment) × EssenceRead tree e S × ParamRead tree p S a × SolutionRead tree s S a v

-- Why the run ends so: with a verdict, since `out` failed behind one, for want of memory, or since it stops at a file.
abbrev pub JudgeCause : Outcome → Which → List ℕ → List ℕ → List ℕ → FilesSeen → FilesSeen → SinkSeen → SinkSeen → Type 0
JudgeCause (Outcome.Judged v) at e p s before after out_before out_after = VerdictFound before.tree e p s v
JudgeCause (Outcome.Plain Ending.OutputFailed) at e p s before after out_before out_after = Rose out_before.faults out_after.faults
JudgeCause (Outcome.Plain Ending.NoMemory) at e p s before after out_before out_after = Unit {0}
JudgeCause outcome at e p s before after out_before out_after = StopCause at outcome e p s before after

-- What the run leaves on `out`: the verdict's line, a prefix of it after a fault, or nothing new.
abbrev pub JudgeOut : Outcome → Option Tree → List ℕ → List ℕ → List ℕ → SinkSeen → SinkSeen → Type 0
JudgeOut (Outcome.Judged v) tree e p s before after = after.bytes ≡ grown before.bytes (verdict_line v)
JudgeOut (Outcome.Plain Ending.OutputFailed) tree e p s before after =
    (v : Verdict) × VerdictFound tree e p s v × GrewByPrefix before.bytes after.bytes (verdict_line v)
JudgeOut _ tree e p s before after = after.bytes ≡ before.bytes

-- What it leaves on `err`: nothing new behind a verdict, else the outcome's line.
abbrev pub JudgeErr : Outcome → List ℕ → SinkSeen → SinkSeen → Type 0
JudgeErr (Outcome.Judged v) file before after = after.bytes ≡ before.bytes
JudgeErr (Outcome.Refused why) file before after = LeavesLine (refusal_line file why) before after
JudgeErr (Outcome.Plain ending) file before after = LeavesErr ending file [] before after
JudgeErr (Outcome.BadItem k) file before after = after.bytes ≡ before.bytes

-- ---- what is told

-- What was told of a verdict, and how the run ends behind it.
abbrev pub VerdictTold : Verdict → Outcome → SinkSeen → SinkSeen → SinkSeen → SinkSeen → Type 0
VerdictTold v (Outcome.Judged w) out_before out_after err_before err_after =
    (w ≡ v) × (out_after.bytes ≡ grown out_before.bytes (verdict_line v)) × (err_after.bytes ≡ err_before.bytes)
VerdictTold v (Outcome.Plain Ending.OutputFailed) out_before out_after err_before err_after =
    Rose out_before.faults out_after.faults × GrewByPrefix out_before.bytes out_after.bytes (verdict_line v) ×
    LeavesErr Ending.OutputFailed [] [] err_before err_after
VerdictTold v (Outcome.Plain Ending.NoMemory) out_before out_after err_before err_after =
    (out_after.bytes ≡ out_before.bytes) × LeavesErr Ending.NoMemory [] [] err_before err_after
VerdictTold v _ out_before out_after err_before err_after = ⊥

-- What was told of an outcome, and how the run ends behind it.
abbrev pub StopTold : Outcome → Outcome → List ℕ → SinkSeen → SinkSeen → Type 0
StopTold outcome told file before after =
    ((told ≡ outcome) × JudgeErr outcome file before after) ⊎ ((told
    ≡ Outcome.Plain Ending.NoMemory) × LeavesErr Ending.NoMemory [] [] before after)
