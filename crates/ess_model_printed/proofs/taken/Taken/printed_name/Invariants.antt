use Rattle.std.proofs.Common.{◌≡◌, ◌-◌}
use Rattle.conjure_model_laws.specs.Printed.{printed_name}
use Rattle.ess_model_printed.specs.PrintedNames.{found}
use Rattle.ess_model_printed.proofs.taken.Taken.printed_name.Given as goal

abbrev pub invariant-loop-number : goal.invariant-loop-number
invariant-loop-number l = found l.self (l.last - l.number) l.number l.left ≡ printed_name l.self l.depth
