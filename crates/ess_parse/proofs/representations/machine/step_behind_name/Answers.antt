use Rattle.std.proofs.Common.{ap, ◌∙◌}
use Rattle.ess_grammar.specs.Kinds.{token}
use Rattle.ess_parse_laws.specs.RepresentationMachine.{step_kind_read}
use Rattle.ess_parse.specs.RepresentationViews.{view_frames}
use Rattle.ess_parse.proofs.representations.machine.step_behind_name.Goals as goal
use Rattle.ess_parse.proofs.RepresentationSteps.{first-child}

pub returns-in_ok-push-in-OpenSquare : goal.returns-in_ok-push-in-OpenSquare
returns-in_ok-push-in-OpenSquare c =
    ap (λ k. step_kind_read (token k c.args.text.now) c.args.read (view_frames c.args.frames)) c.in-OpenSquare.is
    ∙ first-child c.args.frames c.push.new.self (record { kind = c.args.read; children = c.new.result }) c.args.read (cc (c.in_ok-push-in-OpenSquare.ensures.ok)) (cc) c.new.ensures
