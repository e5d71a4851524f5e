-- Worked examples: an index and an application of names, whose truth values are told.
use Rattle.std.proofs.Common.{◌≡◌, refl, true, false, [], ◌∷◌, pos}
use Rattle.std.specs.Prelude.{codes}
use Rattle.ess_semantics.specs.declared.words.Op2.{Op2}
use Rattle.ess_semantics.specs.Values.{a_matrix, a_relation}
use Rattle.ess_semantics.specs.Trees.{by_value, index, application, Ex, number_ex, name_ex, node_ex, no_exs, more_exs, ex2}
use Rattle.ess_semantics.specs.Types.{int_ty, compound1, compound2}
use Rattle.ess_semantics.specs.Scopes.{Scope, empty_scope, every}
use Rattle.ess_semantics.specs.Resolving.{resolve}
use Rattle.ess_types_laws.specs.SoundParts.{sound_parts}
use Rattle.ess_guard_told_laws.specs.TruthsTold.{TruthsAreTold}

-- A matrix m and a relation r are in scope.
abbrev two_names : Scope
two_names = record empty_scope {
  tys = (codes "m", compound2 a_matrix int_ty int_ty) ∷ (codes "r", compound1 a_relation int_ty) ∷ [];
}

abbrev one : Ex
one = number_ex (pos 1)

-- `m[1] = 1 /\ r(1)`, as it is read
abbrev of_both : Ex
of_both = ex2 true Op2.And
    (ex2 true Op2.Eq (node_ex false (index (by_value ∷ [])) (more_exs (name_ex (codes "m")) (more_exs one no_exs))) one)
    (node_ex false application (more_exs (name_ex (codes "r")) (more_exs one no_exs)))

-- It is judged, and its truth values are told; no form tells the index domain, nor that r is a relation.
pub of-both-judged : every sound_parts of_both two_names ≡ true
of-both-judged = refl

pub of-both-told : TruthsAreTold (resolve of_both two_names.tys) two_names.tys
of-both-told = (refl, (refl, (refl, tt)), ((refl, tt, ((refl, tt, (tt, (tt, tt))), (tt, tt))), ((refl, tt, (tt, (tt, tt))), tt)))
