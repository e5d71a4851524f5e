use Rattle.std.proofs.Common.{arith}
use Rattle.std.proofs.lemmas.Int.{ints}
use Rattle.ess_eval_operators.proofs.Steps.{component_past}
use Rattle.ess_eval_operators.proofs.indices.component.Goals as goal

pub returns-then-place-parts : goal.returns-then-place-parts
returns-then-place-parts c = component_past c.args.parts.now c.args.k (omega (arith, ints))
