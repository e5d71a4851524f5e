use Rattle.std.proofs.Common.{map}
use Rattle.ess_core.specs.StatementViews.{pure_spec}
use Rattle.ess_parse.specs.NamedReprViews.{pure_named_reprs}
use Rattle.ess_model_shown.specs.Tables.{pure_shows}
use Rattle.ess_translate_plans.specs.Views.{pure_plan}
use Rattle.ess_models.proofs.Modelling.{is_modelled}
use Rattle.ess_models.proofs.wholes.fitting_model.Goals as goal

pub returns : goal.returns
returns c = λ i f.
    is_modelled c.planned_model-model.result (pure_spec c.args.spec.now.spec) (pure_spec c.args.spec.now.prepared)
    (map pure_named_reprs c.args.reprs.now) c.in_ok-taken.taken (pure_shows c.in_ok-shows.shows) (map pure_plan c.in_ok-plans.plans)
    c.in_ok-head.head i.typed i.prepared f (c.in_ok-plans.ensures i f)
    (rw c.as_slice-3.ensures at (rw c.as_slice-4.ensures at c.in_ok-shows.ensures)) (rw c.as_slice.ensures at c.in_ok-taken.ensures)
    (rw c.as_slice-2.ensures at c.in_ok-head.ensures) (rw c.as_slice-5.ensures at c.planned_model-model.ensures)
