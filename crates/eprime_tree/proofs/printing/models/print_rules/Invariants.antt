use Rattle.eprime_tree.proofs.printing.models.print_rules.Given as goal
use Rattle.eprime_tree.proofs.PrintedModels.{RulesListed}

abbrev pub invariant-loop-index : goal.invariant-loop-index
invariant-loop-index l = RulesListed l.initial.out l.out l.index l.rule-items
