-- Laws of runs of the self-test.
use Rattle.std.proofs.Common.{◌≡◌, refl, ℕ, inl, inr, List, [], arith, Some}
use Rattle.ess_io.specs.Counts.{Rose}
use Rattle.ess_io.specs.Sinks.{grown, GrewByPrefix}
use Rattle.conjure_cli.specs.Told.{IsTestLine}
use Rattle.conjure_cli.specs.Seen.{SinkSeen}
use Rattle.conjure_cli.specs.Ending.{LeavesErr}
use Rattle.conjure_cli.specs.Tasks.{test}
use Rattle.conjure_cli.specs.Testing.{SomeTestLine, TestCause, TestOut, TestTold, TestEnds}
use Rattle.conjure_cli.specs.Runs.{outcome_status}
use Rattle.conjure_cli.specs.declared.ending.Ending.{Ending}
use Rattle.conjure_cli.specs.declared.outcome.Outcome.{Outcome}

-- ---- what is told

-- the line is told
pub told_all : (n : ℕ) (line : List ℕ) (o o' e : SinkSeen) → IsTestLine n line → o'.bytes ≡ grown o.bytes line
    → TestTold n (Outcome.Plain Ending.Done) o o' e e
told_all n line o o' e is grew = record { cause = tt; out = (line, is, grew); err = refl }

-- `out` failed
pub told_part : (n : ℕ) (line : List ℕ) (o o' e e' : SinkSeen) → IsTestLine n line → GrewByPrefix o.bytes o'.bytes line
    → Rose o.faults o'.faults → LeavesErr Ending.OutputFailed [] [] e e' → TestTold n (Outcome.Plain Ending.OutputFailed) o o' e e'
told_part n line o o' e e' is grew rose left = record { cause = rose; out = (line, is, grew); err = left }

-- memory ran out
pub told_none : (n : ℕ) (o e e' : SinkSeen) → LeavesErr Ending.NoMemory [] [] e e' → TestTold n (Outcome.Plain Ending.NoMemory) o o e e'
told_none n o e e' left = record { cause = tt; out = refl; err = left }

-- ---- the status

-- 0, or 4 for a fault of `out`, or 6
pub test_ends : (outcome : Outcome) (n : ℕ) (o o' : SinkSeen) → TestCause outcome o o'
    → TestEnds (outcome_status outcome) (Some (test n)) o o'
test_ends (Outcome.Plain Ending.Done) n o o' cause = inl refl
test_ends (Outcome.Plain Ending.OutputFailed) n o o' cause = inr (inl (refl, cause))
test_ends (Outcome.Plain Ending.NoMemory) n o o' cause = inr (inr refl)
test_ends (Outcome.Plain Ending.Usage) n o o' cause = absurd cause
test_ends (Outcome.Plain Ending.Missing) n o o' cause = absurd cause
test_ends (Outcome.Plain Ending.Unreadable) n o o' cause = absurd cause
test_ends (Outcome.Plain Ending.TooLong) n o o' cause = absurd cause
test_ends (Outcome.Plain Ending.NotYet) n o o' cause = absurd cause
test_ends (Outcome.Plain Ending.Unwritable) n o o' cause = absurd cause
test_ends (Outcome.Judged v) n o o' cause = absurd cause
test_ends (Outcome.Refused why) n o o' cause = absurd cause
test_ends (Outcome.BadItem k) n o o' cause = absurd cause

-- never 2
pub test_not_two : (outcome : Outcome) (o o' : SinkSeen) → TestCause outcome o o' → outcome_status outcome ≡ 2 → ⊥
test_not_two outcome o o' cause two = elim (test_ends outcome 0 o o' cause) [
  | inl zero ↦ omega (arith, zero, two)
  | inr h ↦ elim h [ inl four ↦ omega (arith, four.0, two) | inr six ↦ omega (arith, six, two) ]
]

-- on status 0 the line is told
pub test_is_told : (outcome : Outcome) (n : ℕ) (o o' : SinkSeen) → TestCause outcome o o' → TestOut outcome n o o'
    → outcome_status outcome ≡ 0 → SomeTestLine n (λ line. o'.bytes ≡ grown o.bytes line)
test_is_told (Outcome.Plain Ending.Done) n o o' cause told zero = told
test_is_told (Outcome.Plain Ending.OutputFailed) n o o' cause told zero = absurd (omega (arith, zero))
test_is_told (Outcome.Plain Ending.NoMemory) n o o' cause told zero = absurd (omega (arith, zero))
test_is_told (Outcome.Plain Ending.Usage) n o o' cause told zero = absurd cause
test_is_told (Outcome.Plain Ending.Missing) n o o' cause told zero = absurd cause
test_is_told (Outcome.Plain Ending.Unreadable) n o o' cause told zero = absurd cause
test_is_told (Outcome.Plain Ending.TooLong) n o o' cause told zero = absurd cause
test_is_told (Outcome.Plain Ending.NotYet) n o o' cause told zero = absurd cause
test_is_told (Outcome.Plain Ending.Unwritable) n o o' cause told zero = absurd cause
test_is_told (Outcome.Judged v) n o o' cause told zero = absurd cause
test_is_told (Outcome.Refused why) n o o' cause told zero = absurd cause
test_is_told (Outcome.BadItem k) n o o' cause told zero = absurd cause
