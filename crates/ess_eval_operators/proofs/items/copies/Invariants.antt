use Rattle.std.proofs.Common.{◌≡◌, take}
use Rattle.ess_eval_operators.proofs.items.copies.Given as goal

abbrev pub invariant-loop-item : goal.invariant-loop-item
invariant-loop-item l = l.copies ≡ take l.item-index l.items
