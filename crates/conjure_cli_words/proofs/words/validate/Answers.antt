use Rattle.std.proofs.Common.{◌∙◌, ap, refl, [], Some, Err, option_map}
use Rattle.conjure_cli_words.specs.Commands.{validate_form, validate_of, essence, param, solution}
use Rattle.conjure_cli_words.specs.declared.command.Command.TheVariants.{Validate}
use Rattle.conjure_cli_words.proofs.Found.{same_no, value-found}
use Rattle.conjure_cli_words.proofs.words.validate.Goals as goal

pub returns-in_err-found-clause-usage : goal.returns-in_err-found-clause-usage
returns-in_err-found-clause-usage c = λ usage.
    ap (option_map validate_of) (c.in_err-found.ensures.usage validate_form c.in_ok-validate.ensures refl
    (ap (λ no. Err no) (same_no c.from_residual-in_err-found.result c.in_err-found.field-0.0 c.from_residual-in_err-found.ensures.1 usage)))

pub returns-clause-ok : goal.returns-clause-ok
returns-clause-ok c =
    let found = c.in_ok-found.found in
    let read = c.in_ok-found.ensures.ok validate_form c.in_ok-validate.ensures refl in
    let essence_is = value-found found read.0 essence [] c.in_ok-essence.essence read.2 c.in_ok-essence.ensures in
    let param_is = value-found found read.0 param [] c.in_ok-param.param read.2 c.in_ok-param.ensures in
    let solution_is = value-found found read.0 solution [] c.in_ok-solution.solution read.2 c.in_ok-solution.ensures in
    ap (option_map validate_of) read.1 ∙ (λ i. Some (Validate (essence_is i) (param_is i) (solution_is i)))
