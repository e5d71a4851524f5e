use Rattle.conjure_cli.proofs.reasons.+push_u128.Given as goal

abbrev pub decreases-push_u128 : goal.decreases-push_u128
decreases-push_u128 l = l.number
