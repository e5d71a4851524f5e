use Rattle.eprime_read.proofs.DerivedModels.{refused_text, not_derived}
use Rattle.eprime_read.proofs.models.derived_model.Goals as goal

pub returns-then-not-is_inside-clause-derived : goal.returns-then-not-is_inside-clause-derived
returns-then-not-is_inside-clause-derived c = refused_text c.args.text.now (c.is_inside.ensures.no c.if-not-is_inside.true)

pub returns-in_ok-of_text-in-Err-clause-derived : goal.returns-in_ok-of_text-in-Err-clause-derived
returns-in_ok-of_text-in-Err-clause-derived c =
    not_derived c.args.text.now c.in-Err.why c.in_ok-of_text-in-Err.ensures c.in-Err.ensures.reading
