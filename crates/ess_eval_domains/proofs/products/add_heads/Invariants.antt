use Rattle.std.proofs.Common.{◌≡◌, take}
use Rattle.ess_semantics.specs.Domains.{add_heads}
use Rattle.ess_eval_domains.proofs.products.add_heads.Given as goal

abbrev pub invariant-loop-head : goal.invariant-loop-head
invariant-loop-head l = l.all ≡ add_heads (take l.head-index l.heads) l.lists
