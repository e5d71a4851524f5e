use Rattle.std.proofs.Common.{◌≡◌, ◌∙◌, ap, refl, sym, Some, None, Err, option_and_then, option_map}
use Rattle.conjure_cli_words.specs.Commands.{first_operand, number_of, selftest_form, selftest_of}
use Rattle.conjure_cli_words.specs.declared.command.Command.TheVariants.{Selftest}
use Rattle.conjure_cli_words.proofs.Found.{operand-found, same_no}
use Rattle.conjure_cli_words.proofs.words.selftest.Goals as goal

pub returns-in_err-found-clause-usage : goal.returns-in_err-found-clause-usage
returns-in_err-found-clause-usage c = λ usage.
    ap (option_and_then selftest_of) (c.in_err-found.ensures.usage selftest_form c.in_ok-selftest.ensures refl
    (ap (λ no. Err no) (same_no c.from_residual-in_err-found.result c.in_err-found.field-0.0 c.from_residual-in_err-found.ensures.1 usage)))

pub returns-in-Some-clause-ok : goal.returns-in-Some-clause-ok
returns-in-Some-clause-ok c =
    let read = c.in_ok-found.ensures.ok selftest_form c.in_ok-selftest.ensures refl in
    let text_is : first_operand read.0 ≡ c.in_ok-text.text = operand-found c.in_ok-found.found read.0 c.in_ok-text.text read.2
    c.in_ok-text.ensures in
    let number_is : number_of c.in_ok-text.text ≡ Some c.in-Some.number = ap number_of (sym c.as_str.ensures) ∙ sym c.number_of.ensures
    ∙ c.in-Some.is in
    ap (option_and_then selftest_of) read.1 ∙ ap (λ text. option_map Selftest (number_of text)) text_is ∙ ap (option_map Selftest) number_is

pub returns-clause-usage : goal.returns-clause-usage
returns-clause-usage c = λ usage.
    let read = c.in_ok-found.ensures.ok selftest_form c.in_ok-selftest.ensures refl in
    let text_is : first_operand read.0 ≡ c.in_ok-text.text = operand-found c.in_ok-found.found read.0 c.in_ok-text.text read.2
    c.in_ok-text.ensures in
    let number_is : number_of c.in_ok-text.text ≡ None = ap number_of (sym c.as_str.ensures) ∙ sym c.number_of.ensures ∙ c.in-None.is in
    ap (option_and_then selftest_of) read.1 ∙ ap (λ text. option_map Selftest (number_of text)) text_is ∙ ap (option_map Selftest) number_is
