use Rattle.std.proofs.Common.{◌≡◌, map, take}
use Rattle.eprime_cells_parts.specs.Sweeping.{ends_of}
use Rattle.eprime_cells_parts.proofs.sweeping.all_ends.Given as goal

abbrev pub invariant-loop-range : goal.invariant-loop-range
invariant-loop-range l = l.ends ≡ map ends_of (take l.range-index l.ranges)
