-- What the conditions of a term tell, under no names known, in any env.
use Rattle.std.proofs.Common.{◌≡◌, sym, ap, ◌∙◌, true, false, [], Some, is_some}
use Rattle.ess_semantics.specs.Values.{Text, truth}
use Rattle.ess_semantics.specs.Trees.{Ex}
use Rattle.ess_semantics.specs.Operators.{as_truth}
use Rattle.ess_semantics.specs.Meaning.{Env, meaning}
use Rattle.ess_semantics.specs.Meets.{Meets}
use Rattle.ess_semantics.proofs.Tests.{both-ways}
use Rattle.ess_guard_laws.specs.Guard.{there, has_value}
use Rattle.ess_guard_laws.specs.Holds.{Hold}
use Rattle.ess_guard_laws.specs.Supplied.{Supplied}
use Rattle.ess_guard_laws.proofs.Holding.{all-of-truth, hold-tested, tested-hold}
use Rattle.ess_guard_laws.proofs.Rows.{own-holds}
use Rattle.ess_guard_laws.proofs.LiteralRows.{matrix-holds}
use Rattle.ess_guard_laws.proofs.Meanings.{hold}
use Rattle.ess_guard_laws.proofs.MetRows.{all-of-met}
use Rattle.ess_guard_laws.proofs.StructuresMet.{asked}
use Rattle.ess_guard_laws.proofs.KnownNames.{known-none}
use Rattle.ess_guard_laws.proofs.Exact.{tell}
use Rattle.ess_guard_laws.proofs.TruthRows.{all-truth, term-truths}

-- Where a term has a value its conditions hold.
pub held : (x y : Text) (e : Ex) (env : Env) → is_some (meaning e env) ≡ true → Hold (there x y e) env
held x y e env h = hold false x y (own-holds x y) (matrix-holds x) e [] false env h

-- Where they hold it has a value.
pub told : (x y : Text) (e : Ex) (env : Env) → Supplied e env → Hold (there x y e) env → is_some (meaning e env) ≡ true
told x y e env s h = tell x y env.positions env.types env.cells e [] env.vals (known-none env.positions env.types env.cells env.vals) s h

-- So they say whether it has one.
pub tells-values : (x y : Text) (e : Ex) (env : Env) → Supplied e env →
    meaning (has_value x y e) env ≡ Some (truth (is_some (meaning e env)))
tells-values x y e env s = all-truth (there x y e) env (term-truths x y e [] env)
    ∙ ap (λ b. Some (truth b)) (both-ways (as_truth (meaning (has_value x y e) env)) (is_some (meaning e env))
    (λ t. told x y e env s (tested-hold (there x y e) env (sym (all-of-truth (there x y e) env) ∙ t)))
    (λ h. all-of-truth (there x y e) env ∙ hold-tested (there x y e) env (held x y e env h)))

-- Tables that meet the structures of a term meet those of its conditions.
pub told-met : (x y : Text) (e : Ex) (env : Env) → Meets e env → Meets (has_value x y e) env
told-met x y e env m = all-of-met (there x y e) env (asked false x y e [] false env m)
