use Rattle.std.proofs.Common.{map, subst}
use Rattle.ess_core.specs.StatementViews.{pure_spec}
use Rattle.ess_parse.specs.NamedReprViews.{pure_named_reprs}
use Rattle.ess_models.specs.Modelled.{IsModelled}
use Rattle.ess_models.proofs.Spelling.{text_of}
use Rattle.ess_models.proofs.texts.model_text.Goals as goal

pub returns-in_ok-text-in-Model : goal.returns-in_ok-text-in-Model
returns-in_ok-text-in-Model c = λ i.
    let S = pure_spec c.args.spec.now.spec in
    let o = map pure_named_reprs c.args.reprs.now in
    text_of S o c.in-Model.model c.in_ok-text-in-Model.text.items (subst (IsModelled S o) c.in-Model.is (c.in_ok-model.ensures i))
    (rw c.get.ensures at c.in_ok-text-in-Model.ensures.text) (rw c.get.ensures at c.in_ok-text-in-Model.ensures.read)
