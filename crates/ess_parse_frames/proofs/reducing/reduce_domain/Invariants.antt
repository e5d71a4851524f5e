use Rattle.std.proofs.Common.{◌≡◌, length}
use Rattle.ess_parse_laws.specs.Reducing.{reduce_domain}
use Rattle.ess_core.specs.TreeViews.{pure_dom}
use Rattle.ess_parse_frames.specs.Views.{view_frames}
use Rattle.ess_parse_frames.proofs.reducing.reduce_domain.Given as goal

abbrev pub invariant-loop-frame : goal.invariant-loop-frame
invariant-loop-frame l = reduce_domain (view_frames l.frames) (pure_dom l.domain) ≡ reduce_domain (view_frames l.fn.frames) (pure_dom l.fn.domain)

abbrev pub decreases-loop-frame : goal.decreases-loop-frame
decreases-loop-frame l = length l.frames
