-- Worked examples: a quotient whose conditions tell whether it has a value.
use Rattle.std.proofs.Common.{◌≡◌, refl, true, false, [], ◌∷◌, ℤ, pos, Some}
use Rattle.std.specs.Prelude.{codes}
use Rattle.ess_semantics.specs.declared.words.Op2.{Op2}
use Rattle.ess_semantics.specs.Values.{number, truth}
use Rattle.ess_semantics.specs.Trees.{Ex, number_ex, name_ex, ex2}
use Rattle.ess_semantics.specs.Types.{int_ty}
use Rattle.ess_semantics.specs.Scopes.{Scope, empty_scope, every}
use Rattle.ess_semantics.specs.Resolving.{resolve}
use Rattle.ess_semantics.specs.Meaning.{Env, empty_env, meaning}
use Rattle.ess_types_laws.specs.SoundParts.{sound_parts}
use Rattle.ess_guard_laws.specs.Guard.{has_value}
use Rattle.ess_guard_supplied_laws.specs.Applications.{ApplicationsAreTold}
use Rattle.ess_guard_supplied_laws.specs.Present.{Present}

-- A number x is in scope.
abbrev of_x : Scope
of_x = record empty_scope { tys = (codes "x", int_ty) ∷ [] }

abbrev x_is : ℤ → Env
x_is n = record empty_env { vals = (codes "x", number n) ∷ [] }

-- `6 / x`
abbrev quotient : Ex
quotient = ex2 false Op2.Div (number_ex (pos 6)) (name_ex (codes "x"))

pub of-quotient : every sound_parts quotient of_x ≡ true
of-quotient = refl

pub of-quotient-told : ApplicationsAreTold (resolve quotient of_x.tys) of_x.tys
of-quotient-told = (refl, (tt, (tt, tt)))

pub of-quotient-there : Present (resolve quotient of_x.tys) (x_is (pos 0))
of-quotient-there = (tt, (refl, tt))

pub at-two : meaning (has_value (codes "p") (codes "q") (resolve quotient of_x.tys)) (x_is (pos 2)) ≡ Some (truth true)
at-two = refl

pub at-none : meaning (has_value (codes "p") (codes "q") (resolve quotient of_x.tys)) (x_is (pos 0)) ≡ Some (truth false)
at-none = refl
