use Rattle.std.proofs.Common.{◌≡◌, length, false}
use Rattle.ess_parse_laws.specs.Reducing.{reduce}
use Rattle.ess_parse_frames.specs.Patterns.{view_operand, is_pattern_operand}
use Rattle.ess_parse_frames.specs.Views.{view_frames}
use Rattle.ess_parse_frames.proofs.reducing.reduce.Given as goal

abbrev pub invariant-loop-frame : goal.invariant-loop-frame
invariant-loop-frame l = reduce l.fn.least (view_frames l.frames) l.ends_in_body (is_pattern_operand l.operand) l.level (view_operand l.operand) ≡ reduce l.fn.least (view_frames l.fn.frames) false (is_pattern_operand l.fn.operand) 10 (view_operand l.fn.operand)

abbrev pub decreases-loop-frame : goal.decreases-loop-frame
decreases-loop-frame l = length l.frames
