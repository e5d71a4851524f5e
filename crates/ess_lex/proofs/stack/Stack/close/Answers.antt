use Rattle.std.proofs.Common.{◌≡◌, sym, ap, ◌∙◌, ◌-◌, reverse, take, get_or, length, arith, rules}
use Rattle.ess_grammar.specs.Load.{closed}
use Rattle.ess_lex.specs.Stacks.{items_from}
use Rattle.ess_lex.proofs.stack.Stack.close.Goals as goal
use Rattle.ess_lex.proofs.StackLaws.{innermost, closed-plain, closed-bracket, no_bracket}

pub invariant_of-self : goal.invariant_of-self
invariant_of-self c =
    let stack = c.args.self.now in
    let size : length stack.below ≡ 250 = search rules in
    let top = innermost stack.brackets stack.height stack.below c.if-self-gt0.true (omega arith) stack.falling in
    record { room = omega (arith, top.lower, stack.room); nested = top.nested; falling = top.falling }

pub returns-then-self-gt0-clause-items : goal.returns-then-self-gt0-clause-items
returns-then-self-gt0-clause-items c =
    let stack = c.args.self.now in
    let size : length stack.below ≡ 250 = search rules in
    let top = innermost stack.brackets stack.height stack.below c.if-self-gt0.true (omega arith) stack.falling in
    sym (ap (λ below. closed (items_from below stack.height)) top.shown
    ∙ closed-bracket (get_or stack.below (stack.brackets - 1) 0) stack.height (reverse (take (stack.brackets - 1) stack.below)))

pub returns-else-self-gt0-clause-items : goal.returns-else-self-gt0-clause-items
returns-else-self-gt0-clause-items c =
    let stack = c.args.self.now in
    let none = no_bracket stack.brackets stack.height stack.below c.if-self-gt0.false in
    none ∙ sym (ap closed none ∙ closed-plain stack.height)
