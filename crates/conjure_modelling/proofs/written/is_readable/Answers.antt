use Rattle.conjure_modelling.proofs.DerivedAgain.{is_other, is_none, answered_model, answered_head, answered_none, told_apart}
use Rattle.conjure_modelling.proofs.written.is_readable.Goals as goal

-- src/written.rt
pub returns-in-Some-clause-no : goal.returns-in-Some-clause-no
returns-in-Some-clause-no c = λ no.
    is_other c.args.text.now c.in-Some.derived c.args.model.now c.requires.text c.requires.head
    (answered_model c.args.text.now c.in_ok-derived.field-0 c.in-Some.derived c.in-Some.is c.in_ok-derived.ensures.derived)
    (answered_head c.args.text.now c.in_ok-derived.field-0 c.in-Some.derived c.in-Some.is c.in_ok-derived.ensures.head)
    (told_apart c.same_model-same.result c.in-Some.derived c.args.model.now c.same_model-same.ensures.model.1 no)

-- src/written.rt
pub returns-in-None-clause-no : goal.returns-in-None-clause-no
returns-in-None-clause-no c = λ no.
    is_none c.args.text.now c.args.model.now c.requires.text c.requires.head
    (answered_none c.args.text.now c.in_ok-derived.field-0 c.in-None.is c.in_ok-derived.ensures.derived)
