use Rattle.std.proofs.Common.{refl, ◌∙◌, Some, None}
use Rattle.ess_core.specs.StatementViews.{pure_stm}
use Rattle.ess_types.proofs.Steps.{judged_there, new_there}
use Rattle.ess_types.proofs.progress.step.Goals as goal

pub bring_in-requires-clause-new : goal.bring_in-requires-clause-new
bring_in-requires-clause-new c =
    new_there (pure_stm c.args.written.now) c.in_ok-put.put c.get-2.result.now c.args.progress.now.scope c.findings_of-2.new.scope
    c.in_ok-judgement.field-0 None c.get-2.ensures
    c.in_ok-put.ensures.ok
    (c.in_ok-found.ensures.kept ∙ c.in_ok-fresh.ensures.kept ∙ c.in_ok-put.ensures.kept) c.in_ok-judgement.ensures c.in-None.is refl

pub returns-in-Some-clause-judged : goal.returns-in-Some-clause-judged
returns-in-Some-clause-judged c =
    judged_there (pure_stm c.args.written.now) c.in_ok-put.put c.get-2.result.now c.args.progress.now.scope c.findings_of-2.new.scope
    c.in_ok-judgement.field-0
    (Some c.in-Some.judgement) c.get-2.ensures
    c.in_ok-put.ensures.ok
    (c.in_ok-found.ensures.kept ∙ c.in_ok-fresh.ensures.kept ∙ c.in_ok-put.ensures.kept) c.in_ok-judgement.ensures c.in-Some.is

pub returns-in_ok-bring_in-in-None-clause-judged : goal.returns-in_ok-bring_in-in-None-clause-judged
returns-in_ok-bring_in-in-None-clause-judged c =
    judged_there (pure_stm c.args.written.now) c.in_ok-put.put c.get-2.result.now c.args.progress.now.scope c.findings_of-2.new.scope
    c.in_ok-judgement.field-0 None c.get-2.ensures
    c.in_ok-put.ensures.ok
    (c.in_ok-found.ensures.kept ∙ c.in_ok-fresh.ensures.kept ∙ c.in_ok-put.ensures.kept) c.in_ok-judgement.ensures c.in-None.is
