use Rattle.ess_rules_laws.proofs.laws.selecting_keeps.Goals as goal
use Rattle.ess_rules_laws.proofs.Lookups.{select-keeps, select_whole-keeps}

pub returns : goal.returns
returns c = record { of_an_operand = select-keeps; of_the_whole = select_whole-keeps }
