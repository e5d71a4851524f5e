use Rattle.ess_types.proofs.Declaring.{new_names, new_letting_exs, new_letting_doms}
use Rattle.ess_types.proofs.entering.enter_statement.Goals as goal
use Rattle.ess_core.specs.StatementViews.{pure_stm}

pub enter_types-requires-clause-new : goal.enter_types-requires-clause-new
enter_types-requires-clause-new c = new_names c.args.scope.now (pure_stm c.args.put.now) c.requires.outside c.requires.new

pub enter_lettings-requires-clause-exs : goal.enter_lettings-requires-clause-exs
enter_lettings-requires-clause-exs c =
    new_letting_exs c.args.scope.now (pure_stm c.args.put.now) c.requires.outside c.requires.typed c.requires.new

pub enter_lettings-requires-clause-doms : goal.enter_lettings-requires-clause-doms
enter_lettings-requires-clause-doms c = new_letting_doms c.args.scope.now (pure_stm c.args.put.now) c.requires.outside c.requires.new
