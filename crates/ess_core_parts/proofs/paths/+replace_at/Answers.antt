use Rattle.std.proofs.Common.{◌≡◌, ◌∷◌, ap, sym, ◌∙◌}
use Rattle.ess_core_parts.specs.Parts.{edited, hole}
use Rattle.ess_core_parts.proofs.Plugs.{changed, edited-out, nothing-there, unchanged}
use Rattle.ess_core_parts.proofs.paths.+replace_at.Goals as goal

pub returns-in-Some-take_part-clause-after : goal.returns-in-Some-take_part-clause-after
returns-in-Some-take_part-clause-after t c =
    let split = c.in-Some.ensures.cases.0 in
    changed (λ x. c.args.new) c.args.ex.now c.in-Some.k.now c.in-Some.rest.now c.in-Some-take_part.part hole (sym c.in-Some-take_part.ensures.part)
    c.take_part.new.ex c.take_part.ensures.after c.replace_at-answer.new.ex c.replace_at-answer.ensures.after c.put_back.new.ex c.put_back.ensures
    ∙ ap (edited (λ x. c.args.new) c.args.ex.now) (sym split)

pub returns-in-Some-take_part-clause-unchanged : goal.returns-in-Some-take_part-clause-unchanged
returns-in-Some-take_part-clause-unchanged t c =
    let split = c.in-Some.ensures.cases.0 in
    let whole = changed (λ x. c.args.new) c.args.ex.now c.in-Some.k.now c.in-Some.rest.now c.in-Some-take_part.part hole (sym c.in-Some-take_part.ensures.part)
    c.take_part.new.ex c.take_part.ensures.after c.replace_at-answer.new.ex c.replace_at-answer.ensures.after c.put_back.new.ex c.put_back.ensures in
    unchanged (λ x. c.args.new) c.args.ex.now c.in-Some.k.now c.in-Some.rest.now c.in-Some-take_part.part (sym c.in-Some-take_part.ensures.part)
    c.replace_at-answer.result c.replace_at-answer.ensures.outside c.put_back.new.ex whole

pub returns-in-None-take_part-clause-after : goal.returns-in-None-take_part-clause-after
returns-in-None-take_part-clause-after t c =
    let split = c.in-Some.ensures.cases.0 in
    let nothing = sym c.in-None-take_part.ensures.part in
    c.take_part.ensures.after ∙ nothing-there c.args.ex.now c.in-Some.k.now hole nothing
    ∙ sym (ap (edited (λ x. c.args.new) c.args.ex.now) split ∙ edited-out (λ x. c.args.new) c.args.ex.now c.in-Some.k.now c.in-Some.rest.now nothing)

pub returns-in-None-take_part-clause-unchanged : goal.returns-in-None-take_part-clause-unchanged
returns-in-None-take_part-clause-unchanged t c =
    c.take_part.ensures.after ∙ nothing-there c.args.ex.now c.in-Some.k.now hole (sym c.in-None-take_part.ensures.part)
