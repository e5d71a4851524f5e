use Rattle.std.proofs.Common.{◌∙◌}
use Rattle.ess_lex.proofs.stack.Stack.push_bracket.Goals as goal
use Rattle.ess_lex.proofs.StackLaws.{length-items_of}

pub returns-then-self-eq-LARGEST_LOAD-clause-full : goal.returns-then-self-eq-LARGEST_LOAD-clause-full
returns-then-self-eq-LARGEST_LOAD-clause-full c = length-items_of c.args.self.now ∙ c.if-self-eq-LARGEST_LOAD.true
