use Rattle.std.proofs.Common.{◌≡◌, ◌++◌, codes, map, take}
use Rattle.ess_declared_trees.proofs.names.behind_bars.Given as goal

abbrev pub invariant-loop-field : goal.invariant-loop-field
invariant-loop-field l = l.names ≡ map (λ f. codes "_" ++ f) (take l.field-index l.fields)
