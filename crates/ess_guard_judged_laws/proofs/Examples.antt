-- Worked examples: what judgements let through and types don't.
use Rattle.std.proofs.Common.{◌≡◌, refl, true, false, [], ◌∷◌, pos}
use Rattle.std.specs.Prelude.{codes}
use Rattle.ess_semantics.specs.declared.words.Op2.{Op2}
use Rattle.ess_semantics.specs.Trees.{by_value, index, matrix_literal, Ex, number_ex, name_ex, node_ex, no_exs, more_exs, ex2, such_that}
use Rattle.ess_semantics.specs.Types.{int_ty}
use Rattle.ess_semantics.specs.Scopes.{Scope, empty_scope, every}
use Rattle.ess_semantics.specs.Judgements.{ill_typed, meets}
use Rattle.ess_semantics.specs.Resolving.{resolve}
use Rattle.ess_guard_types_laws.specs.HasTypes.{HasTypes}
use Rattle.ess_guard_judged_laws.specs.IndexedItems.{indexing}

abbrev one : Ex
one = number_ex (pos 1)

-- A number x is in scope.
abbrev of_x : Scope
of_x = record empty_scope { tys = (codes "x", int_ty) ∷ [] }

-- `1 / x = 1`, as it is read
abbrev quotient : Ex
quotient = ex2 true Op2.Eq (ex2 false Op2.Div one (name_ex (codes "x"))) one

-- It is judged to be well typed, and indexes nothing.
pub of-quotient : meets ill_typed (such_that quotient) (such_that quotient) of_x ≡ true
of-quotient = refl

pub of-quotient-indexed : every indexing quotient of_x ≡ true
of-quotient-indexed = refl

pub of-quotient-types : HasTypes (resolve quotient of_x.tys) of_x.tys
of-quotient-types = (refl, refl, ((refl, refl, (tt, (refl, tt))), (tt, tt)))

-- `[][1] = 1` is judged to be well typed as well, and is left out.
abbrev of_nothing : Ex
of_nothing = ex2 true Op2.Eq (node_ex false (index (by_value ∷ []))
    (more_exs (node_ex false matrix_literal no_exs) (more_exs one no_exs))) one

pub of-nothing : meets ill_typed (such_that of_nothing) (such_that of_nothing) empty_scope ≡ true
of-nothing = refl

pub of-nothing-indexed : every indexing of_nothing empty_scope ≡ false
of-nothing-indexed = refl
