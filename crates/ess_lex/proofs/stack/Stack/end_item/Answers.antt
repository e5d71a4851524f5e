use Rattle.std.proofs.Common.{◌≡◌, length, arith, rules}
use Rattle.ess_lex.proofs.stack.Stack.end_item.Goals as goal
use Rattle.ess_lex.proofs.stack.Stack.end_item.Goals.{then-self-gt0, else-self-gt0}
use Rattle.ess_lex.proofs.StackLaws.{Ended, ended-bracket, ended-plain}

pub invariant_of-self : goal.invariant_of-self
invariant_of-self c =
    let stack = c.args.self.now in
    let size : length stack.below ≡ 250 = search rules in
    let done : Ended stack.brackets stack.height c.if-self-gt0.self stack.below = elim c.if-self-gt0.branch [
      | then-self-gt0 w ↦
          ended-bracket stack.brackets stack.height c.if-self-gt0.self stack.below w.if-self-gt0.true (omega arith) stack.falling w.self-is
      | else-self-gt0 w ↦ ended-plain stack.brackets stack.height c.if-self-gt0.self stack.below w.if-self-gt0.false w.self-is
    ] in
    record { room = omega (arith, done.room, stack.room); nested = done.nested; falling = done.falling }

pub returns-clause-items : goal.returns-clause-items
returns-clause-items c =
    let stack = c.args.self.now in
    let size : length stack.below ≡ 250 = search rules in
    let done : Ended stack.brackets stack.height c.if-self-gt0.self stack.below = elim c.if-self-gt0.branch [
      | then-self-gt0 w ↦
          ended-bracket stack.brackets stack.height c.if-self-gt0.self stack.below w.if-self-gt0.true (omega arith) stack.falling w.self-is
      | else-self-gt0 w ↦ ended-plain stack.brackets stack.height c.if-self-gt0.self stack.below w.if-self-gt0.false w.self-is
    ] in
    done.items
