use Rattle.ess_guard_places_laws.proofs.laws.natural_is_total_but_tests.Goals as goal
use Rattle.std.specs.Prelude.{true, false, []}
use Rattle.ess_guard_laws.specs.Guard.{make_natural, conditions}
use Rattle.ess_guard_laws.proofs.KnownNames.{known-none}
use Rattle.ess_guard_places_laws.specs.TotalInPlaces.{TotalInPlaces}
use Rattle.ess_guard_places_laws.proofs.Behind.{behind-hold}
use Rattle.ess_guard_places_laws.proofs.Totals.{total, asked-none}

pub returns : goal.returns
returns c = record {
  boolean = λ x y e env v t. asked-none x y env.positions env.types env.cells e [] false env
      (TotalInPlaces false ⊥ (make_natural x y e) env) t
      (total x y env.positions env.types env.cells e [] false env.vals (known-none env.positions env.types env.cells env.vals) v);
  term = λ x y w e env v t. behind-hold (conditions true x y [] w e) env (TotalInPlaces w ⊥ (make_natural x y e) env)
      (total x y env.positions env.types env.cells e [] w env.vals (known-none env.positions env.types env.cells env.vals) v) t;
}
