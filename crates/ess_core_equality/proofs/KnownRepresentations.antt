-- That `==` decides which representations are equal.
use Rattle.std.proofs.Common.{◌≡◌, subst, Bool, ◌↔◌, IsTrue}
use Rattle.ess_core_equality.proofs.Known.{Knows, Known, decides, known_last, known_field, known_struct, known_row}
use Rattle.ess_core_equality.proofs.KnownWords.{known_kind}
use Rattle.ess_core.specs.declared.representations.Repr.{Repr}
use Rattle.ess_core.specs.declared.representations.Repr.TheOpen.{Repr-F}
use Rattle.ess_core.specs.declared.representations.Repr.TheViews.{roll-Repr, parts-Repr, whole-Repr, whole_parts-Repr, parts_whole-Repr}
use Rattle.ess_core.specs.declared.representations.Repr.TheFolds.{map-Repr, ind-Repr}
use Rattle.ess_core.specs.contracts.representations.ReprPartialEq.TheImpl as repr_test
use Rattle.ess_core.specs.contracts.representations.ReprPartialEq.TheImpl.Laws as repr_laws

-- ---- the derived tests

abbrev pub repr_same : Repr → Repr → Bool
repr_same = repr_test.ghosts.eq

-- ---- one layer, with parts that are known

abbrev of_repr : Repr-F (Known Repr repr_same) → Repr-F Repr
of_repr = map-Repr _ _ (λ e. e.0)

made_repr : (y : Repr-F (Known Repr repr_same)) → Knows repr_same (roll-Repr (of_repr y))
made_repr y = known_struct parts-Repr whole-Repr whole_parts-Repr parts_whole-Repr repr_laws.is (known_field (known_kind y.kind) (known_last (known_row y.children)))

-- ---- all values

step_repr : (x : Repr-F Repr) (y : Repr-F (Known Repr repr_same)) → of_repr y ≡ x → Knows repr_same (roll-Repr x)
step_repr x y p = subst (λ z. Knows repr_same (roll-Repr z)) p (made_repr y)

pub known_repr : (x : Repr) → Knows repr_same x
known_repr = ind-Repr (Knows repr_same) step_repr

pub decides_repr : (x y : Repr) → IsTrue (repr_same x y) ↔ (x ≡ y)
decides_repr x y = decides (known_repr x) y
