use Rattle.std.proofs.Common.{◌≡◌, ◌∷◌, take}
use Rattle.ess_eval_domains.proofs.products.with_head.Given as goal

abbrev pub invariant-loop-val : goal.invariant-loop-val
invariant-loop-val l = l.row ≡ l.head ∷ take l.val-index l.list
