use Rattle.eprime_verdicts.proofs.RulesInOrder.{RulesBehind}
use Rattle.eprime_verdicts.proofs.ruling.first_false.Given as goal

abbrev pub invariant-loop-place : goal.invariant-loop-place
invariant-loop-place l = RulesBehind l.under l.rules l.place
