use Rattle.std.proofs.Common.{length}
use Rattle.eprime_read_headers.proofs.MarkedLines.{HasLines}
use Rattle.eprime_read_headers.proofs.lines.header_lines.Given as goal

abbrev pub invariant-loop-bytes : goal.invariant-loop-bytes
invariant-loop-bytes l = HasLines l.lines l.rest l.text

abbrev pub decreases-loop-bytes : goal.decreases-loop-bytes
decreases-loop-bytes l = length l.rest
