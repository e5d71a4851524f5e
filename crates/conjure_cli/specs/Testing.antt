-- How a run of the self-test ends, and what it tells.
use Rattle.std.specs.Prelude.{◌≡◌, ℕ, ◌⊎◌, List, [], Option, Some}
use Rattle.ess_io.specs.Counts.{Rose}
use Rattle.ess_io.specs.Sinks.{grown, GrewByPrefix}
use Rattle.conjure_cli.specs.Told.{IsTestLine}
use Rattle.conjure_cli.specs.Seen.{SinkSeen}
use Rattle.conjure_cli.specs.Ending.{LeavesErr}
use Rattle.conjure_cli.specs.Tasks.{Task, test}
use Rattle.conjure_cli.specs.declared.ending.Ending.{Ending}
use Rattle.conjure_cli.specs.declared.outcome.Outcome.{Outcome}

-- some line tells the counts of the self-test with the number n, and P holds of it
abbrev pub SomeTestLine : ℕ → (List ℕ → Type 0) → Type 0
SomeTestLine n P = (line : List ℕ) × IsTestLine n line × P line

-- Why the run ends so: since the work is done, since `out` failed, or for want of memory. Nothing else stands against it.
abbrev pub TestCause : Outcome → SinkSeen → SinkSeen → Type 0
TestCause (Outcome.Plain Ending.Done) out_before out_after = Unit {0}
TestCause (Outcome.Plain Ending.OutputFailed) out_before out_after = Rose out_before.faults out_after.faults
TestCause (Outcome.Plain Ending.NoMemory) out_before out_after = Unit {0}
TestCause outcome out_before out_after = ⊥

-- What the run leaves on `out`: the line of its counts, a prefix of it after a fault, or nothing new.
abbrev pub TestOut : Outcome → ℕ → SinkSeen → SinkSeen → Type 0
TestOut (Outcome.Plain Ending.Done) n before after = SomeTestLine n (λ line. after.bytes ≡ grown before.bytes line)
TestOut (Outcome.Plain Ending.OutputFailed) n before after = SomeTestLine n (GrewByPrefix before.bytes after.bytes)
TestOut outcome n before after = after.bytes ≡ before.bytes

-- What it leaves on `err`: nothing new where the work is done, else the outcome's line, which speaks of no file.
abbrev pub TestErr : Outcome → SinkSeen → SinkSeen → Type 0
TestErr (Outcome.Plain ending) before after = LeavesErr ending [] [] before after
TestErr outcome before after = ⊥

-- The self-test with the number n came to this outcome, and this was told.
pub record TestTold (n : ℕ) (outcome : Outcome) (out_before out_after err_before err_after : SinkSeen) : Type 0 where
  pub cause : TestCause outcome out_before out_after
  pub out : TestOut outcome n out_before out_after
  pub err : TestErr outcome err_before err_after

-- ---- what follows, without the ending

-- A self-test meets no limit, and no input is refused: it gives 0, or 4 for a fault of `out`, or 6 for want of memory.
abbrev pub TestEnds : ℕ → Option Task → SinkSeen → SinkSeen → Type 0
TestEnds status (Some (test n)) out_before out_after =
    (status ≡ 0) ⊎ ((status ≡ 4) × Rose out_before.faults out_after.faults) ⊎ (status ≡ 6)
TestEnds status _ out_before out_after = Unit {0}

-- Where a self-test is run: on status 0 `out` has grown by a line of its counts.
abbrev pub SaysTest : ℕ → Option Task → SinkSeen → SinkSeen → Type 0
SaysTest status (Some (test n)) out_before out_after =
    status ≡ 0 → SomeTestLine n (λ line. out_after.bytes ≡ grown out_before.bytes line)
SaysTest status _ out_before out_after = Unit {0}
