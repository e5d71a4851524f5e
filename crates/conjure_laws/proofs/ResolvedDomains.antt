-- Resolving changes the numbers in a domain alone: it stays well formed, and needs slots of a known number where it did.
use Rattle.std.proofs.Common.{◌≡◌, refl, ap, ◌∙◌, Bool, ◌&&◌}
use Rattle.ess_semantics.specs.Names.{Names}
use Rattle.ess_semantics.specs.Trees.{Dom, Doms, bool_dom, int_dom, name_dom, tuple_dom, record_dom, matrix_dom, set_dom, mset_dom, function_dom, relation_dom, partition_dom, no_doms, more_doms}
use Rattle.ess_semantics.specs.Types.{Ty}
use Rattle.ess_semantics.specs.Kinds.{is_atom, are_atoms}
use Rattle.ess_semantics.specs.DomainJudgements.{bounds_occurrences, is_finite, are_finite, is_enumerable, are_enumerable, needs_known_slots, all_need_known_slots}
use Rattle.ess_semantics.specs.Resolving.{resolve_dom, resolve_doms}
use Rattle.ess_repr_laws.specs.WellFormed.{Well, AllWell}

both : (a b c d : Bool) → a ≡ b → c ≡ d → (a && c) ≡ (b && d)
both a b c d e f = ap (λ x. x && c) e ∙ ap (λ x. b && x) f

atom-kept : (d : Dom) (g : Names Ty) → is_atom (resolve_dom d g) ≡ is_atom d
atom-kept bool_dom g = refl
atom-kept (int_dom rs es) g = refl
atom-kept (name_dom a) g = refl
atom-kept _ g = refl

atoms-kept : (ds : Doms) (g : Names Ty) → are_atoms (resolve_doms ds g) ≡ are_atoms ds
atoms-kept no_doms g = refl
atoms-kept (more_doms d ds) g =
    both (is_atom (resolve_dom d g)) (is_atom d) (are_atoms (resolve_doms ds g)) (are_atoms ds) (atom-kept d g) (atoms-kept ds g)

mutual
  finite-kept : (d : Dom) (g : Names Ty) → is_finite (resolve_dom d g) ≡ is_finite d
  finite-kept bool_dom g = refl
  finite-kept (int_dom rs es) g = refl
  finite-kept (name_dom a) g = refl
  finite-kept (tuple_dom ds) g = all-finite-kept ds g
  finite-kept (record_dom fs ds) g = all-finite-kept ds g
  finite-kept (matrix_dom is d) g =
      both (are_finite (resolve_doms is g)) (are_finite is) (is_finite (resolve_dom d g)) (is_finite d)
      (all-finite-kept is g) (finite-kept d g)
  finite-kept (set_dom ms es d) g = finite-kept d g
  finite-kept (mset_dom ms es d) g = ap (λ b. b && bounds_occurrences ms) (finite-kept d g)
  finite-kept (function_dom ms es d c) g =
      both (is_finite (resolve_dom d g)) (is_finite d) (is_finite (resolve_dom c g)) (is_finite c) (finite-kept d g) (finite-kept c g)
  finite-kept (relation_dom ms es ds) g = all-finite-kept ds g
  finite-kept (partition_dom ms es d) g = finite-kept d g

  all-finite-kept : (ds : Doms) (g : Names Ty) → are_finite (resolve_doms ds g) ≡ are_finite ds
  all-finite-kept no_doms g = refl
  all-finite-kept (more_doms d ds) g =
      both (is_finite (resolve_dom d g)) (is_finite d) (are_finite (resolve_doms ds g)) (are_finite ds)
      (finite-kept d g) (all-finite-kept ds g)

mutual
  enumerable-kept : (d : Dom) (g : Names Ty) → is_enumerable (resolve_dom d g) ≡ is_enumerable d
  enumerable-kept bool_dom g = refl
  enumerable-kept (int_dom rs es) g = refl
  enumerable-kept (name_dom a) g = refl
  enumerable-kept (tuple_dom ds) g = all-enumerable-kept ds g
  enumerable-kept (record_dom fs ds) g = all-enumerable-kept ds g
  enumerable-kept (matrix_dom is d) g = refl
  enumerable-kept (set_dom ms es d) g = refl
  enumerable-kept (mset_dom ms es d) g = refl
  enumerable-kept (function_dom ms es d c) g = refl
  enumerable-kept (relation_dom ms es ds) g = refl
  enumerable-kept (partition_dom ms es d) g = refl

  all-enumerable-kept : (ds : Doms) (g : Names Ty) → are_enumerable (resolve_doms ds g) ≡ are_enumerable ds
  all-enumerable-kept no_doms g = refl
  all-enumerable-kept (more_doms d ds) g =
      both (is_enumerable (resolve_dom d g)) (is_enumerable d) (are_enumerable (resolve_doms ds g)) (are_enumerable ds)
      (enumerable-kept d g) (all-enumerable-kept ds g)

mutual
  -- Slots are of a known number as before.
  pub known-kept : (d : Dom) (g : Names Ty) → needs_known_slots (resolve_dom d g) ≡ needs_known_slots d
  known-kept bool_dom g = refl
  known-kept (int_dom rs es) g = refl
  known-kept (name_dom a) g = refl
  known-kept (tuple_dom ds) g = all-known-kept ds g
  known-kept (record_dom fs ds) g = all-known-kept ds g
  known-kept (matrix_dom is d) g =
      both (are_finite (resolve_doms is g)) (are_finite is) (needs_known_slots (resolve_dom d g)) (needs_known_slots d)
      (all-finite-kept is g) (known-kept d g)
  known-kept (set_dom ms es d) g = finite-kept d g
  known-kept (mset_dom ms es d) g = finite-kept (mset_dom ms es d) g
  known-kept (function_dom ms es d c) g =
      both (is_finite (resolve_dom d g)) (is_finite d) (needs_known_slots (resolve_dom c g)) (needs_known_slots c)
      (finite-kept d g) (known-kept c g)
  known-kept (relation_dom ms es ds) g = all-finite-kept ds g
  known-kept (partition_dom ms es d) g = finite-kept d g

  all-known-kept : (ds : Doms) (g : Names Ty) → all_need_known_slots (resolve_doms ds g) ≡ all_need_known_slots ds
  all-known-kept no_doms g = refl
  all-known-kept (more_doms d ds) g =
      both (needs_known_slots (resolve_dom d g)) (needs_known_slots d) (all_need_known_slots (resolve_doms ds g)) (all_need_known_slots ds)
      (known-kept d g) (all-known-kept ds g)

mutual
  -- A well-formed domain stays so.
  pub well-kept : (d : Dom) (g : Names Ty) → Well d → Well (resolve_dom d g)
  well-kept bool_dom g w = tt
  well-kept (int_dom rs es) g w = tt
  well-kept (name_dom a) g w = tt
  well-kept (tuple_dom ds) g w = all-well-kept ds g w
  well-kept (record_dom fs ds) g w = all-well-kept ds g w
  well-kept (matrix_dom is d) g w = (atoms-kept is g ∙ w.0, all-well-kept is g w.1, well-kept d g w.2)
  well-kept (set_dom ms es d) g w = (w.0, well-kept d g w.1)
  well-kept (mset_dom ms es d) g w = (w.0, well-kept d g w.1)
  well-kept (function_dom ms es d c) g w = (w.0, (λ t. enumerable-kept d g ∙ w.1 t), well-kept d g w.2, well-kept c g w.3)
  well-kept (relation_dom ms es ds) g w = (w.0, all-well-kept ds g w.1)
  well-kept (partition_dom ms es d) g w = (w.0, well-kept d g w.1)

  all-well-kept : (ds : Doms) (g : Names Ty) → AllWell ds → AllWell (resolve_doms ds g)
  all-well-kept no_doms g w = tt
  all-well-kept (more_doms d ds) g w = (well-kept d g w.0, all-well-kept ds g w.1)
