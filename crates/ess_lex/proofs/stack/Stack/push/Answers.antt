use Rattle.std.proofs.Common.{◌∙◌, ◌+◌, reverse, take, arith}
use Rattle.ess_lex.proofs.stack.Stack.push.Goals as goal
use Rattle.ess_lex.proofs.StackLaws.{length-items_of, items_from-plain, falls-more}

pub returns-then-self-eq-LARGEST_LOAD-clause-full : goal.returns-then-self-eq-LARGEST_LOAD-clause-full
returns-then-self-eq-LARGEST_LOAD-clause-full c = length-items_of c.args.self.now ∙ c.if-self-eq-LARGEST_LOAD.true

pub invariant_of-self : goal.invariant_of-self
invariant_of-self c =
    let stack = c.args.self.now in
    record {
      room = omega (arith, stack.room, c.if-self-eq-LARGEST_LOAD.false);
      nested = omega (arith, stack.nested);
      falling = falls-more (reverse (take stack.brackets stack.below)) stack.height (stack.height + 1) (omega arith) stack.falling;
    }

pub returns-clause-pushed : goal.returns-clause-pushed
returns-clause-pushed c = let stack = c.args.self.now in
    items_from-plain (reverse (take stack.brackets stack.below)) stack.height stack.falling
