-- Why evaluation stops.
use Rattle.std.specs.Prelude.{Bool, true, false}
use Rattle.ess_eval.specs.declared.calls.EvalNo.{EvalNo}
use Rattle.ess_eval.specs.declared.calls.EvalNo.TheVariants.{Undefined, Big, TooManyCells, NoMemory}

-- A number outside 64 bits, or want of memory.
abbrev pub is_big_or_memory : EvalNo → Bool
is_big_or_memory Big = true
is_big_or_memory NoMemory = true
is_big_or_memory Undefined = false
is_big_or_memory (TooManyCells n) = false
