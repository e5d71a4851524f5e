use Rattle.std.proofs.Common.{◌∙◌, ap, refl, [], Some, Err, option_map}
use Rattle.conjure_cli_words.specs.Commands.{solution_form, solution_of, eprime, eprime_solution, essence_param, essence_solution}
use Rattle.conjure_cli_words.specs.declared.command.Command.TheVariants.{Solution}
use Rattle.conjure_cli_words.proofs.Found.{same_no, value-found}
use Rattle.conjure_cli_words.proofs.words.solution.Goals as goal

pub returns-in_err-found-clause-usage : goal.returns-in_err-found-clause-usage
returns-in_err-found-clause-usage c = λ usage.
    ap (option_map solution_of) (c.in_err-found.ensures.usage solution_form c.in_ok-solution.ensures refl
    (ap (λ no. Err no) (same_no c.from_residual-in_err-found.result c.in_err-found.field-0.0 c.from_residual-in_err-found.ensures.1 usage)))

pub returns-clause-ok : goal.returns-clause-ok
returns-clause-ok c =
    let found = c.in_ok-found.found in
    let read = c.in_ok-found.ensures.ok solution_form c.in_ok-solution.ensures refl in
    let model_is = value-found found read.0 eprime [] c.in_ok-model.model read.2 c.in_ok-model.ensures in
    let param_is = value-found found read.0 essence_param [] c.in_ok-param.param read.2 c.in_ok-param.ensures in
    let from_is = value-found found read.0 eprime_solution [] c.in_ok-from.from read.2 c.in_ok-from.ensures in
    let to_is = value-found found read.0 essence_solution [] c.in_ok-to.to read.2 c.in_ok-to.ensures in
    ap (option_map solution_of) read.1 ∙ (λ i. Some (Solution (model_is i) (param_is i) (from_is i) (to_is i)))
