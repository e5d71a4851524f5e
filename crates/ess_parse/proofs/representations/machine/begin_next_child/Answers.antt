use Rattle.ess_parse.proofs.representations.machine.begin_next_child.Goals as goal
use Rattle.ess_parse.proofs.RepresentationSteps.{next-child}

pub returns : goal.returns
returns c =
    next-child c.args.frames c.pop.new.self c.push-2.new.self c.in-Some.field-0 (record { kind = c.in-Some.field-0.kind; children = c.push.new.self }) c.args.repr
    (cc (c.in-Some.ensures)) (cc (c.in_ok-push-2.ensures.ok)) (cc) (cc (c.in_ok-push.ensures.ok))
