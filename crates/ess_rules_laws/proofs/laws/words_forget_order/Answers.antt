use Rattle.ess_rules_laws.proofs.laws.words_forget_order.Goals as goal
use Rattle.ess_rules_laws.proofs.SameItems.{word-forgets}

pub returns : goal.returns
returns c = λ f h b e p gs hs env. word-forgets f h b e p gs hs env
