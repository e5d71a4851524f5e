-- What is given stays where terms get conditions.
use Rattle.std.proofs.Common.{[]}
use Rattle.ess_guard_laws.specs.Guard.{guarded}
use Rattle.ess_given_order_laws.proofs.OrderInScope.{given-stays-in-conditions}
use Rattle.ess_given_guard_laws.specs.GuardKeepsGiven.{GuardKeepsGiven}
use Rattle.ess_given_guard_laws.proofs.GuardFixed.{guard-fixed}
use Rattle.ess_given_guard_laws.proofs.GuardGiven.{guard-given}

-- What is proved of trees with conditions.
pub guard-keeps-given : GuardKeepsGiven
guard-keeps-given = record {
  given = λ u natural x y e i h. (guard-given u natural x y e u [] (λ a q. q) i h).0;
  ordered = λ u natural x y e i h. (guard-given u natural x y e u [] (λ a q. q) i h).1;
  fixed = λ u natural x y e h. guard-fixed u natural x y e u [] (λ a q. q) h;
  told_apart = λ u natural x y n e f l i h. let r = guard-given u natural x y e u [] (λ a q. q) i h in
      given-stays-in-conditions.apart u n (guarded natural x y [] e) f l r.0 r.1;
}
