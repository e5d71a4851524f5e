use Rattle.std.proofs.Common.{sym, ◌∙◌, ap, Err}
use Rattle.conjure_cli.proofs.WholeLaws.{unlisted_refused, unlisted_modelled}
use Rattle.conjure_cli.proofs.whole.model_for.Goals as goal

pub returns-in-Err-NotYet-clause-refused : goal.returns-in-Err-NotYet-clause-refused
returns-in-Err-NotYet-clause-refused c =
    unlisted_refused (λ l. l.now) c.args.list c.model_of-in-Err-NotYet.result c.args.text.now (sym c.is_some.ensures ∙ c.if-is_some.false)
    (c.in-Err-NotYet.ensures.not_yet (ap Err c.in-Err-NotYet.field-0-is)) c.model_of-in-Err-NotYet.ensures.refused

pub returns-in-Err-NotYet-clause-model : goal.returns-in-Err-NotYet-clause-model
returns-in-Err-NotYet-clause-model c =
    unlisted_modelled (λ l. l.now) (λ m. m.items) c.args.list c.model_of-in-Err-NotYet.result c.args.text.now
    (sym c.is_some.ensures ∙ c.if-is_some.false) (c.in-Err-NotYet.ensures.not_yet (ap Err c.in-Err-NotYet.field-0-is))
    c.model_of-in-Err-NotYet.ensures.ok
