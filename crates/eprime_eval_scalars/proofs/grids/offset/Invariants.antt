use Rattle.std.proofs.Common.{◌≡◌, ◌<◌, ◌^◌, map, drop, length}
use Rattle.ess_semantics.specs.Tables.{code}
use Rattle.eprime_eval_scalars.specs.ScalarViews.{pure_scalar}
use Rattle.eprime_eval_scalars.specs.Grids.{axis_numbers, offset_from}
use Rattle.eprime_eval_scalars.proofs.grids.offset.Given as goal

abbrev pub invariant-loop-k : goal.invariant-loop-k
invariant-loop-k l = record {
  same : length l.axes ≡ length l.index;
  small : l.at < 2 ^ 64;
  left : offset_from l.at (map axis_numbers (drop l.k l.axes)) (map code (map pure_scalar (drop l.k l.index)))
      ≡ offset_from 0 (map axis_numbers l.axes) (map code (map pure_scalar l.index));
}
