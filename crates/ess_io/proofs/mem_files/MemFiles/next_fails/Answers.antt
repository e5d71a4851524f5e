-- The faults stay few over a call.
use Rattle.std.proofs.Common.{sym, ◌∙◌}
use Rattle.ess_io.proofs.Listed.{FaultsAreListed-called, FaultsAreListed-failed}
use Rattle.ess_io.proofs.mem_files.MemFiles.next_fails.Goals as goal

pub invariant_of-self : goal.invariant_of-self
invariant_of-self c =
    let listed = sym c.next-fails.ensures.listed ∙ c.if-fails.true in
    rw c.next-fails.ensures.counted (FaultsAreListed-failed _ _ _ c.self.invariant listed)

pub invariant_of-self-else-fails : goal.invariant_of-self-else-fails
invariant_of-self-else-fails c =
    rw c.next-fails.ensures.counted (FaultsAreListed-called _ _ _ c.next-fails.ensures.in_range c.self.invariant)
