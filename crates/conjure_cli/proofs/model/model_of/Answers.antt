use Rattle.std.proofs.Common.{sym, ◌≡◌, ◌∙◌, ap, [], rules, Err}
use Rattle.std.specs.Result.{IsErrOf}
use Rattle.std.proofs.lemmas.Result.{err_from_is_err_and}
use Rattle.conjure_cli.specs.Reading.{fit_from}
use Rattle.conjure_cli.specs.Writing.{plain_text}
use Rattle.conjure_cli.specs.Lines.{statements}
use Rattle.conjure_cli.proofs.NamingLaws.{unread, unfit, written_model, written_only}
use Rattle.conjure_cli.proofs.model.model_of.Goals as goal

-- an error stays, whatever the value would have been
same_error : {X Y E : Type 0} (a b : E) → IsErrOf {T = X} {E = E} (Err a) b → IsErrOf {T = Y} {E = E} (Err a) b
same_error a b h = let e : a ≡ b = cc in ap Err e

pub returns-in_err-lines-clause-not_yet : goal.returns-in_err-lines-clause-not_yet
returns-in_err-lines-clause-not_yet c =
    let p = err_from_is_err_and c.from_residual.result c.from_residual.ensures.1 in rw (p.1, p.2) (λ is here. unread c.args.text.now (c.in_err-lines.ensures.not_yet (same_error _ _ is)) here)

pub returns-then-not-branch-clause-not_yet : goal.returns-then-not-branch-clause-not_yet
returns-then-not-branch-clause-not_yet c = λ _. unfit c.args.text.now (statements c.in_ok-lines.lines.items) c.in_ok-lines.ensures.ok
    (ap (λ lines. fit_from [] (statements lines)) (sym c.deref.ensures.value) ∙ sym c.in_ok-are_well_named.ensures ∙ search rules)

pub returns-clause-model : goal.returns-clause-model
returns-clause-model c = written_model c.args.text.now _ (statements c.in_ok-lines.lines.items) c.in_ok-lines.ensures.ok
    (ap (λ lines. fit_from [] (statements lines)) (sym c.deref.ensures.value) ∙ sym c.in_ok-are_well_named.ensures ∙ search rules)
    (c.in_ok-print_model.ensures ∙ ap (λ lines. plain_text (statements lines)) c.deref-2.ensures.value)

pub returns-clause-only : goal.returns-clause-only
returns-clause-only c = written_only c.args.text.now _ (statements c.in_ok-lines.lines.items) c.in_ok-lines.ensures.ok
    (c.in_ok-print_model.ensures ∙ ap (λ lines. plain_text (statements lines)) c.deref-2.ensures.value)
