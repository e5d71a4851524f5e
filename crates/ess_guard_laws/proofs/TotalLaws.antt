-- Totality under no names known, in any env.
use Rattle.std.proofs.Common.{◌≡◌, true, []}
use Rattle.ess_semantics.specs.Values.{Text}
use Rattle.ess_semantics.specs.Trees.{Ex}
use Rattle.ess_semantics.specs.Meaning.{Env}
use Rattle.ess_semantics.specs.Totality.{Total}
use Rattle.ess_guard_laws.specs.Guard.{there, make_total}
use Rattle.ess_guard_laws.specs.Covered.{asks_nothing, Covered}
use Rattle.ess_guard_laws.proofs.Behind.{Behind}
use Rattle.ess_guard_laws.proofs.KnownNames.{known-none}
use Rattle.ess_guard_laws.proofs.Totals.{total, asked-none}

-- Under its conditions a covered tree is total.
pub behind-there : (x y : Text) (e : Ex) (env : Env) → Covered e → Behind (there x y e) env (Total (make_total x y e) env)
behind-there x y e env v = total x y env.positions env.types env.cells e [] env.vals (known-none env.positions env.types env.cells env.vals) v

-- A covered Boolean.
pub boolean-total : (x y : Text) (e : Ex) (env : Env) → Covered e → asks_nothing e ≡ true → Total (make_total x y e) env
boolean-total x y e env v t = asked-none x y env.positions env.types env.cells e [] env (Total (make_total x y e) env) t (behind-there x y e env v)
