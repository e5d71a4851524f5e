use Rattle.std.proofs.Common.{◌≡◌, ◌∷◌, ◌++◌, map, take}
use Rattle.ess_eval_domains.proofs.products.add_head.Given as goal

abbrev pub invariant-loop-list : goal.invariant-loop-list
invariant-loop-list l = l.all ≡ l.initial.all ++ map (λ vs. l.head ∷ vs) (take l.list-index l.lists)
