-- That `==` decides which types are equal.
use Rattle.std.proofs.Common.{◌≡◌, sym, subst, Bool, true, ◌&&◌, ◌↔◌, IsTrue}
use Rattle.std.specs.Cmp.Lexicographic.{pointwise}
use denote.Enum.Declared.{Choice}
use denote.Enum.Compared.{Each}
use Rattle.ess_core_equality.proofs.Known.{Knows, Known, decides, known_none, known_last, known_field, known_struct, known_text, known_row, Chooses, here, later, later5, ◌▹◌, known_enum, text_same}
use Rattle.ess_core.specs.declared.types.Ty.{Ty}
use Rattle.ess_core.specs.declared.types.FieldTy.{FieldTy}
use Rattle.ess_core.specs.declared.types.Ty.TheOpen.{Ty-F, FieldTy-F}
use Rattle.ess_core.specs.declared.types.Ty.TheBlock.{the_family, join-Ty}
use Rattle.ess_core.specs.declared.types.Ty.TheViews.{roll-Ty, whole-Ty, whole_is-Ty, parts_whole-Ty, roll-FieldTy, parts-FieldTy, whole-FieldTy, whole_parts-FieldTy, parts_whole-FieldTy}
use Rattle.ess_core.specs.declared.types.Ty.TheFolds.{map-Ty, map-FieldTy, ind-Ty, ind-FieldTy}
use Rattle.ess_core.specs.contracts.types.Ty as ty_of
use Rattle.ess_core.specs.contracts.types.TyPartialEq.TheImpl as ty_test
use Rattle.ess_core.specs.contracts.types.FieldTyPartialEq.TheImpl as field_ty_test
use Rattle.ess_core.specs.contracts.types.TyPartialEq.TheImpl.Laws as ty_laws
use Rattle.ess_core.specs.contracts.types.FieldTyPartialEq.TheImpl.Laws as field_ty_laws

-- ---- the derived tests

abbrev pub ty_same : Ty → Ty → Bool
ty_same = ty_test.ghosts.eq

abbrev pub field_ty_same : FieldTy → FieldTy → Bool
field_ty_same = field_ty_test.ghosts.eq

-- ---- one layer, with parts that are known

abbrev of_ty : Ty-F (Known Ty ty_same) (Known FieldTy field_ty_same) → Ty-F Ty FieldTy
of_ty = map-Ty _ _ _ _ (λ e. e.0) (λ e. e.0)

abbrev of_field_ty : FieldTy-F (Known Ty ty_same) (Known FieldTy field_ty_same) → FieldTy-F Ty FieldTy
of_field_ty = map-FieldTy _ _ _ _ (λ e. e.0) (λ e. e.0)

abbrev ty_tests : Each Bool ty_of.enum.parts
ty_tests =
    (λ a b. true) ▹
    (λ a b. true) ▹
    (λ a b. true) ▹
    (λ a b. text_same a.0 b.0) ▹
    (λ a b. pointwise ty_same a.0 b.0) ▹
    (λ a b. pointwise field_ty_same a.0 b.0) ▹
    (λ a b. ty_same a.0 b.0 && ty_same a.1.0 b.1.0) ▹
    (λ a b. ty_same a.0 b.0) ▹
    (λ a b. ty_same a.0 b.0) ▹
    (λ a b. ty_same a.0 b.0 && ty_same a.1.0 b.1.0) ▹
    (λ a b. pointwise ty_same a.0 b.0) ▹
    (λ a b. ty_same a.0 b.0) ▹
    tt

layer_ty : (c : Choice ty_of.enum.parts) → Chooses ty_of.enum.parts ty_tests c → Knows ty_same (roll-Ty (join-Ty the_family c))
layer_ty c k = subst (Knows ty_same) (whole_is-Ty c) (known_enum ty_of.enum ty_tests ty_laws.is (whole-Ty c) (subst (Chooses ty_of.enum.parts ty_tests) (sym (parts_whole-Ty c)) k))

made_ty : (y : Ty-F (Known Ty ty_same) (Known FieldTy field_ty_same)) → Knows ty_same (roll-Ty (of_ty y))
made_ty Ty-F.Any = layer_ty _ (here known_none)
made_ty Ty-F.Bool = layer_ty _ (later (here known_none))
made_ty Ty-F.Int = layer_ty _ (later (later (here known_none)))
made_ty (Ty-F.Named a) = layer_ty _ (later (later (later (here (known_last (known_text a))))))
made_ty (Ty-F.Tuple a) = layer_ty _ (later (later (later (later (here (known_last (known_row a)))))))
made_ty (Ty-F.Rec a) = layer_ty _ (later5 (here (known_last (known_row a))))
made_ty (Ty-F.Matrix a b) = layer_ty _ (later5 (later (here (known_field a.1 (known_last b.1)))))
made_ty (Ty-F.Set a) = layer_ty _ (later5 (later (later (here (known_last a.1)))))
made_ty (Ty-F.MSet a) = layer_ty _ (later5 (later (later (later (here (known_last a.1))))))
made_ty (Ty-F.Function a b) = layer_ty _ (later5 (later (later (later (later (here (known_field a.1 (known_last b.1))))))))
made_ty (Ty-F.Relation a) = layer_ty _ (later5 (later5 (here (known_last (known_row a)))))
made_ty (Ty-F.Partition a) = layer_ty _ (later5 (later5 (later (here (known_last a.1)))))

made_field_ty : (y : FieldTy-F (Known Ty ty_same) (Known FieldTy field_ty_same)) → Knows field_ty_same (roll-FieldTy (of_field_ty y))
made_field_ty y = known_struct parts-FieldTy whole-FieldTy whole_parts-FieldTy parts_whole-FieldTy field_ty_laws.is (known_field (known_text y.name) (known_last y.ty.1))

-- ---- all values

step_ty : (x : Ty-F Ty FieldTy) (y : Ty-F (Known Ty ty_same) (Known FieldTy field_ty_same)) → of_ty y ≡ x → Knows ty_same (roll-Ty x)
step_ty x y p = subst (λ z. Knows ty_same (roll-Ty z)) p (made_ty y)

step_field_ty : (x : FieldTy-F Ty FieldTy) (y : FieldTy-F (Known Ty ty_same) (Known FieldTy field_ty_same)) → of_field_ty y ≡ x → Knows field_ty_same (roll-FieldTy x)
step_field_ty x y p = subst (λ z. Knows field_ty_same (roll-FieldTy z)) p (made_field_ty y)

pub known_ty : (x : Ty) → Knows ty_same x
known_ty = ind-Ty (Knows ty_same) (Knows field_ty_same) step_ty step_field_ty

pub known_field_ty : (x : FieldTy) → Knows field_ty_same x
known_field_ty = ind-FieldTy (Knows ty_same) (Knows field_ty_same) step_ty step_field_ty

pub decides_ty : (x y : Ty) → IsTrue (ty_same x y) ↔ (x ≡ y)
decides_ty x y = decides (known_ty x) y

pub decides_field_ty : (x y : FieldTy) → IsTrue (field_ty_same x y) ↔ (x ≡ y)
decides_field_ty x y = decides (known_field_ty x) y
