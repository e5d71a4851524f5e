use Rattle.std.proofs.Common.{◌≡◌, ◌∙◌, ap, refl, sym, Some, Err, codes, option_map}
use Rattle.conjure_cli_words.specs.Forms.{value_in}
use Rattle.conjure_cli_words.specs.Commands.{folder, modelling_form, modelling_of, use_repr}
use Rattle.conjure_cli_words.specs.declared.command.Command.TheVariants.{Modelling}
use Rattle.conjure_cli_words.proofs.Found.{operand-found, same_no, value-found}
use Rattle.conjure_cli_words.proofs.words.modelling.Goals as goal

pub returns-in_err-found-clause-usage : goal.returns-in_err-found-clause-usage
returns-in_err-found-clause-usage c = λ usage.
    ap (option_map modelling_of) (c.in_err-found.ensures.usage modelling_form c.in_ok-modelling.ensures refl
    (ap (λ no. Err no) (same_no c.from_residual-in_err-found.result c.in_err-found.field-0.0 c.from_residual-in_err-found.ensures.1 usage)))

pub returns-clause-ok : goal.returns-clause-ok
returns-clause-ok c =
    let found = c.in_ok-found.found in
    let read = c.in_ok-found.ensures.ok modelling_form c.in_ok-modelling.ensures refl in
    let folder_is = value-found found read.0 folder (codes "conjure-output") c.in_ok-folder.folder read.2 c.in_ok-folder.ensures in
    let file_is = operand-found found read.0 c.in_ok-file.file read.2 c.in_ok-file.ensures in
    let repr_is : value_in read.0 use_repr ≡ c.in_ok-use_repr.use_repr = sym (c.in_ok-use_repr.ensures ∙ read.2.0 use_repr) in
    ap (option_map modelling_of) read.1 ∙ (λ i. Some (Modelling (folder_is i) (file_is i) (record { use_repr = repr_is i })))
