use Rattle.std.proofs.Common.{◌≡◌, ◌∷◌, sym, subst}
use Rattle.std.specs.Prelude.{None}
use Rattle.ess_core_parts.specs.Parts.{Steps, at, filled, hole}
use Rattle.ess_core_parts.proofs.Plugs.{step-in, filled-in, no-step, nothing-filled}
use Rattle.ess_core_parts.proofs.paths.+edit_at.Goals as goal

pub returns-in-Some-take_part-clause-step : goal.returns-in-Some-take_part-clause-step
returns-in-Some-take_part-clause-step g t c =
    subst (λ ks. Steps g.E.Edit.step c.args.edit.now (at c.args.ex.now ks) c.edit_at-answer.result c.edit_at-answer.new.edit (at c.put_back.new.ex ks)) (sym c.in-Some.ensures.cases.0)
    (step-in c.args.ex.now c.in-Some.k.now c.in-Some.rest.now c.in-Some-take_part.part hole (sym c.in-Some-take_part.ensures.part)
    c.take_part.new.ex c.take_part.ensures.after c.edit_at-answer.new.ex c.put_back.new.ex c.put_back.ensures
    g.E.Edit.step c.args.edit.now c.edit_at-answer.result c.edit_at-answer.new.edit c.edit_at-answer.ensures.step)

pub returns-in-Some-take_part-clause-filled : goal.returns-in-Some-take_part-clause-filled
returns-in-Some-take_part-clause-filled g t c =
    subst (λ ks. c.put_back.new.ex ≡ filled c.args.ex.now ks (at c.put_back.new.ex ks)) (sym c.in-Some.ensures.cases.0)
    (filled-in c.args.ex.now c.in-Some.k.now c.in-Some.rest.now c.in-Some-take_part.part hole (sym c.in-Some-take_part.ensures.part)
    c.take_part.new.ex c.take_part.ensures.after c.edit_at-answer.new.ex c.put_back.new.ex c.put_back.ensures c.edit_at-answer.ensures.filled)

pub returns-in-None-take_part-clause-step : goal.returns-in-None-take_part-clause-step
returns-in-None-take_part-clause-step g t c =
    subst (λ ks. Steps g.E.Edit.step c.args.edit.now (at c.args.ex.now ks) None c.args.edit.now (at c.take_part.new.ex ks)) (sym c.in-Some.ensures.cases.0)
    (no-step c.args.ex.now c.in-Some.k.now c.in-Some.rest.now hole (sym c.in-None-take_part.ensures.part) c.take_part.new.ex c.take_part.ensures.after
    g.E.Edit.step c.args.edit.now)

pub returns-in-None-take_part-clause-filled : goal.returns-in-None-take_part-clause-filled
returns-in-None-take_part-clause-filled g t c =
    subst (λ ks. c.take_part.new.ex ≡ filled c.args.ex.now ks (at c.take_part.new.ex ks)) (sym c.in-Some.ensures.cases.0)
    (nothing-filled c.args.ex.now c.in-Some.k.now c.in-Some.rest.now hole (sym c.in-None-take_part.ensures.part) c.take_part.new.ex c.take_part.ensures.after)
