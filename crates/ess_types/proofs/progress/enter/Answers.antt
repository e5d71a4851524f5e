use Rattle.std.proofs.Common.{subst}
use Rattle.ess_core.specs.StatementViews.{pure_stm}
use Rattle.ess_types.specs.ValueNames.{StemsAdded}
use Rattle.ess_types.proofs.Steps.{between_behind}
use Rattle.ess_types.proofs.progress.enter.Goals as goal

pub returns-clause-between : goal.returns-clause-between
returns-clause-between c =
    between_behind (pure_stm c.args.put.now) c.args.scope.now c.enter_statement.new.scope c.args.stems.now c.add_stems.new.stems
    c.in_ok-names.names c.requires.between
    c.in_ok-enter_statement.ensures.outside c.in_ok-enter_statement.ensures.ok c.in_ok-names.ensures
    (subst (λ l. StemsAdded l c.args.stems.now c.add_stems.new.stems) c.as_slice.ensures c.in_ok-add_stems.ensures)
