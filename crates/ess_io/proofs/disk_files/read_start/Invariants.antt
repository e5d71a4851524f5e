-- No more was read than was asked for.
use Rattle.std.proofs.Common.{◌≤◌, ◌+◌, vec_len}
use Rattle.ess_io.proofs.disk_files.read_start.Given as goal

abbrev pub invariant-loop : goal.invariant-loop
invariant-loop g l = vec_len l.bytes ≤ l.max + 1
