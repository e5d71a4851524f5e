use Rattle.std.proofs.Common.{◌≡◌, ◌-◌, drop, length}
use Rattle.ess_semantics.specs.Domains.{lists_of}
use Rattle.ess_eval_domains.proofs.products.lists_of.Given as goal

abbrev pub invariant-loop-k : goal.invariant-loop-k
invariant-loop-k l = l.lists ≡ lists_of (drop (length l.choices - l.k) l.choices)
