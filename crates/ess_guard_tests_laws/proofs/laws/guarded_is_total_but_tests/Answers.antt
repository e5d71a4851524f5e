use Rattle.ess_guard_tests_laws.proofs.laws.guarded_is_total_but_tests.Goals as goal
use Rattle.std.specs.Prelude.{[]}
use Rattle.ess_guard_laws.specs.Guard.{there, make_total}
use Rattle.ess_guard_laws.proofs.KnownNames.{known-none}
use Rattle.ess_guard_tests_laws.specs.TotalButTests.{TotalButTests}
use Rattle.ess_guard_tests_laws.proofs.Behind.{behind-hold, all-of-total, summed-total}
use Rattle.ess_guard_tests_laws.proofs.Totals.{total, asked-none}

pub returns : goal.returns
returns c = record {
  boolean = λ x y e env v t. asked-none x y env.positions env.types env.cells e [] env (TotalButTests ⊥ (make_total x y e) env) t
      (total x y env.positions env.types env.cells e [] env.vals (known-none env.positions env.types env.cells env.vals) v);
  conditions = λ x y e env v. all-of-total (there x y e) env (TotalButTests ⊥ (make_total x y e) env)
      (total x y env.positions env.types env.cells e [] env.vals (known-none env.positions env.types env.cells env.vals) v);
  number = λ x y e env v. summed-total (there x y e) (make_total x y e) env
      (total x y env.positions env.types env.cells e [] env.vals (known-none env.positions env.types env.cells env.vals) v);
  term = λ x y e env v t. behind-hold (there x y e) env (TotalButTests ⊥ (make_total x y e) env)
      (total x y env.positions env.types env.cells e [] env.vals (known-none env.positions env.types env.cells env.vals) v) t;
}
