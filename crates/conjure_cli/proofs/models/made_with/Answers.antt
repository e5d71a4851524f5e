use Rattle.std.proofs.Common.{map, subst}
use Rattle.ess_core.specs.StatementViews.{pure_spec}
use Rattle.ess_parse.specs.NamedReprViews.{pure_named_reprs}
use Rattle.ess_models.specs.Modelled.{IsModelled}
use Rattle.conjure_cli.proofs.Made.{checked, made_with}
use Rattle.conjure_cli.proofs.models.made_with.Goals as goal

-- src/models.rt
pub returns-in_ok-printed-in-Model-clause-ok : goal.returns-in_ok-printed-in-Model-clause-ok
returns-in_ok-printed-in-Model-clause-ok c =
    let S = pure_spec c.args.typed.now.spec in
    let o = map pure_named_reprs c.args.reprs.now in
    let made = c.in_ok-printed-in-Model.field-0 in
    made_with S o c.in-Model.model made.text.items made.rules
    (subst (IsModelled S o) c.in-Model.is (c.in_ok-model.ensures (checked c.args.typed.now c.requires)))
    (rw c.get.ensures at c.in_ok-printed-in-Model.ensures)
