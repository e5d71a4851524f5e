use Rattle.ess_parse.proofs.representations.machine.close_children.Goals as goal
use Rattle.ess_parse.proofs.RepresentationSteps.{closed-children}

pub returns : goal.returns
returns c =
    closed-children c.args.frames c.pop.new.self c.in-Some.field-0 c.args.repr c.push.new.self (cc (c.in-Some.ensures)) (cc (c.in_ok-push.ensures.ok))
