use Rattle.std.proofs.Common.{◌≡◌, take, map}
use Rattle.ess_core.specs.TreeViews.{pure_ex}
use Rattle.ess_parse_frames.specs.Patterns.{view_pats}
use Rattle.ess_parse_frames.proofs.operands.+pattern.Given as goal

abbrev pub invariant-expressions_of-loop-pattern : goal.invariant-expressions_of-loop-pattern
invariant-expressions_of-loop-pattern l = map pure_ex l.expressions ≡ view_pats (take l.pattern-index l.pattern-items)
