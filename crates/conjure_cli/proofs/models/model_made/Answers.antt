use Rattle.ess_core.specs.StatementViews.{pure_spec}
use Rattle.conjure_cli.proofs.Made.{made_for}
use Rattle.conjure_cli.proofs.models.model_made.Goals as goal

-- src/models.rt
pub returns-in-Ok-clause-ok : goal.returns-in-Ok-clause-ok
returns-in-Ok-clause-ok c =
    made_for (λ m. m.text.items) (λ m. m.rules) c.args.text.now (pure_spec c.in-Ok.typed.spec) c.made_for-made.result c.in-Ok.ensures.ok
    c.made_for-made.ensures.ok
