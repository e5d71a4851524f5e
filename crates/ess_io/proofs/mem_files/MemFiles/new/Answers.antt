-- No call was made, and none failed.
use Rattle.ess_io.proofs.Listed.{FaultsAreListed-new}
use Rattle.ess_io.proofs.mem_files.MemFiles.new.Goals as goal

pub invariant_of-result : goal.invariant_of-result
invariant_of-result c = FaultsAreListed-new _ _
