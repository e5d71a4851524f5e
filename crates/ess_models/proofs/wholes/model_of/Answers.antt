use Rattle.std.proofs.Common.{map, ◌∙◌}
use Rattle.ess_parse.specs.NamedReprViews.{pure_named_reprs}
use Rattle.ess_models.proofs.Fitting.{fits_beside}
use Rattle.ess_models.proofs.wholes.model_of.Goals as goal

pub returns-then-are_reprs_of : goal.returns-then-are_reprs_of
returns-then-are_reprs_of c = λ i.
    c.fitting_model.ensures i
    (fits_beside c.args.spec.now c.as_slice.result.now (map pure_named_reprs c.args.reprs.now) c.are_reprs_of.result c.as_slice.ensures
    c.are_reprs_of.ensures i ∙ c.if-are_reprs_of.true)

pub returns-else-are_reprs_of : goal.returns-else-are_reprs_of
returns-else-are_reprs_of c = λ i.
    fits_beside c.args.spec.now c.as_slice.result.now (map pure_named_reprs c.args.reprs.now) c.are_reprs_of.result c.as_slice.ensures
    c.are_reprs_of.ensures i ∙ c.if-are_reprs_of.false
