-- Why there is no answer on membership.
use Rattle.std.specs.Prelude.{Bool, true, false}
use Rattle.ess_eval.specs.declared.calls.EvalNo.{EvalNo}
use Rattle.ess_eval.specs.declared.calls.EvalNo.TheVariants.{Undefined, Big, TooManyCells, NoMemory}

-- A domain without a meaning, a number outside 64 bits, or want of memory: never a count of cells.
abbrev pub is_no_count : EvalNo → Bool
is_no_count Undefined = true
is_no_count Big = true
is_no_count NoMemory = true
is_no_count (TooManyCells n) = false
