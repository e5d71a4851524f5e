use Rattle.std.proofs.Common.{◌≡◌, ◌++◌, drop, option_map}
use Rattle.ess_repr_rows_laws.specs.RowLayers.{times_of}
use Rattle.ess_repr_sets.proofs.repeats.all_times.Given as goal

abbrev pub invariant-loop-count : goal.invariant-loop-count
invariant-loop-count l = times_of l.counts ≡ option_map (λ ns. l.times ++ ns) (times_of (drop l.count-index l.counts))
