use Rattle.std.proofs.Common.{take}
use Rattle.eprime_verdicts.specs.Denoting.{AreClosed}
use Rattle.eprime_verdicts.proofs.domains.closed_decls.Given as goal

abbrev pub invariant-loop-decl : goal.invariant-loop-decl
invariant-loop-decl l = AreClosed l.under (take l.decl-index l.decls) l.closed
