use Rattle.ess_grammar.specs.Statements.{IsSpecification}
use Rattle.ess_core.specs.StatementViews.{pure_spec}
use Rattle.ess_translate.proofs.Spelled.{read_as}
use Rattle.ess_translate.proofs.texts.read_essence.Goals as goal

-- src/texts.rt
pub returns : goal.returns
returns c =
    let e = c.read_spec.ensures in
    read_as IsSpecification pure_spec c.args.text.now c.read_spec.result e.refused e.derived e.answered e.unread e.placed
