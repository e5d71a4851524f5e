use Rattle.std.proofs.Common.{take}
use Rattle.eprime_read_convert.specs.Lines.{scope_of}
use Rattle.ess_model_written.proofs.DomainSteps.{DomsOf}
use Rattle.ess_model_written.proofs.domains.doms_written.Given as goal

abbrev pub invariant-loop-dom : goal.invariant-loop-dom
invariant-loop-dom l = DomsOf (scope_of l.lines) l.taken l.number (take l.dom-index l.doms) l.written
