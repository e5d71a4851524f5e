use Rattle.std.proofs.Common.{◌≡◌, ◌≤◌, length, take}
use Rattle.ess_parse_laws.specs.Items.{may_quantify}
use Rattle.ess_parse_frames.specs.Views.{view_frames}
use Rattle.ess_parse_expressions.proofs.items.may_quantify.Given as goal

abbrev pub invariant-loop-depth : goal.invariant-loop-depth
invariant-loop-depth l = record { within : l.depth ≤ length l.frames; same : may_quantify (view_frames (take l.depth l.frames)) ≡ may_quantify (view_frames l.frames) }

abbrev pub decreases-loop-depth : goal.decreases-loop-depth
decreases-loop-depth l = l.depth
