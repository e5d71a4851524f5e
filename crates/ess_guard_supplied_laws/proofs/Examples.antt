-- Worked examples: applications of names that are relations, and of a name of an empty literal's members.
use Rattle.std.proofs.Common.{◌≡◌, refl, true, false, [], ◌∷◌, pos, Some}
use Rattle.std.specs.Prelude.{codes}
use Rattle.ess_semantics.specs.declared.words.Op2.{Op2}
use Rattle.ess_semantics.specs.Values.{a_relation, number}
use Rattle.ess_semantics.specs.Names.{Names}
use Rattle.ess_semantics.specs.Trees.{application, Ex, number_ex, name_ex, node_ex, no_exs, more_exs, ex2}
use Rattle.ess_semantics.specs.Types.{Ty, any_ty, int_ty, compound1}
use Rattle.ess_semantics.specs.Typing.{type_of}
use Rattle.ess_semantics.specs.Meaning.{Env, empty_env}
use Rattle.ess_refine_laws.specs.MarksStay.{HasMarks}
use Rattle.ess_guard_supplied_laws.specs.Present.{Present}
use Rattle.ess_guard_supplied_laws.specs.Applications.{ApplicationsAreTold}

-- A number, a relation and a member of an empty literal.
abbrev names : Names Ty
names = (codes "x", int_ty) ∷ (codes "r", compound1 a_relation int_ty) ∷ (codes "u", any_ty) ∷ []

abbrev one : Ex
one = number_ex (pos 1)

-- `r(1)` has the type bool, so nothing is asked of it.
abbrev holds : Ex
holds = node_ex true application (more_exs (name_ex (codes "r")) (more_exs one no_exs))

pub holds-told : HasMarks holds names × ApplicationsAreTold holds names × Present holds empty_env
holds-told = ((refl, (tt, (tt, tt))), (refl, (tt, (tt, tt))), tt)

-- `u(1)` has the type of u, so it isn't told to be a truth value.
abbrev unknown : Ex
unknown = node_ex false application (more_exs (name_ex (codes "u")) (more_exs one no_exs))

pub unknown-type : type_of unknown names ≡ Some any_ty
unknown-type = refl

pub unknown-untold : ApplicationsAreTold unknown names → ⊥
unknown-untold t = let r = t.0 in cc

-- `1 / x` reads x, which must have a value.
abbrev quotient : Ex
quotient = ex2 false Op2.Div one (name_ex (codes "x"))

abbrev at_zero : Env
at_zero = record empty_env { vals = (codes "x", number (pos 0)) ∷ [] }

pub quotient-present : Present quotient at_zero
quotient-present = (tt, (refl, tt))

pub quotient-absent : Present quotient empty_env → ⊥
quotient-absent p = let r = p.1.0 in cc
