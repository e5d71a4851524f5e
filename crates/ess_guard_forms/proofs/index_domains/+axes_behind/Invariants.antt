use Rattle.std.proofs.Common.{length}
use Rattle.ess_guard_forms.proofs.index_domains.+axes_behind.Given as goal

abbrev pub decreases-axes_behind : goal.decreases-axes_behind
decreases-axes_behind l = length l.path.now
