-- That `==` decides which values are equal.
use Rattle.std.proofs.Common.{◌≡◌, sym, subst, Bool, ◌&&◌, ◌↔◌, IsTrue, nat_eq, int_eq}
use Rattle.std.specs.Cmp.Lexicographic.{pointwise}
use mathlib.Core.Bool.{beq}
use denote.Enum.Declared.{Choice}
use denote.Enum.Compared.{Each}
use Rattle.ess_core_equality.proofs.Known.{Knows, Known, decides, known_last, known_field, known_struct, known_text, known_bool, known_int, known_nat, known_row, Chooses, here, later, later5, ◌▹◌, known_enum, text_same}
use Rattle.ess_core.specs.declared.values.Val.{Val}
use Rattle.ess_core.specs.declared.values.FieldVal.{FieldVal}
use Rattle.ess_core.specs.declared.values.Pair.{Pair}
use Rattle.ess_core.specs.declared.values.Val.TheOpen.{Val-F, FieldVal-F, Pair-F}
use Rattle.ess_core.specs.declared.values.Val.TheBlock.{the_family, join-Val}
use Rattle.ess_core.specs.declared.values.Val.TheViews.{roll-Val, whole-Val, whole_is-Val, parts_whole-Val, roll-FieldVal, parts-FieldVal, whole-FieldVal, whole_parts-FieldVal, parts_whole-FieldVal, roll-Pair, parts-Pair, whole-Pair, whole_parts-Pair, parts_whole-Pair}
use Rattle.ess_core.specs.declared.values.Val.TheFolds.{map-Val, map-FieldVal, map-Pair, ind-Val, ind-FieldVal, ind-Pair}
use Rattle.ess_core.specs.contracts.values.Val as val_of
use Rattle.ess_core.specs.contracts.values.ValPartialEq.TheImpl as val_test
use Rattle.ess_core.specs.contracts.values.FieldValPartialEq.TheImpl as field_val_test
use Rattle.ess_core.specs.contracts.values.PairPartialEq.TheImpl as pair_test
use Rattle.ess_core.specs.contracts.values.ValPartialEq.TheImpl.Laws as val_laws
use Rattle.ess_core.specs.contracts.values.FieldValPartialEq.TheImpl.Laws as field_val_laws
use Rattle.ess_core.specs.contracts.values.PairPartialEq.TheImpl.Laws as pair_laws

-- ---- the derived tests

abbrev pub val_same : Val → Val → Bool
val_same = val_test.ghosts.eq

abbrev pub field_val_same : FieldVal → FieldVal → Bool
field_val_same = field_val_test.ghosts.eq

abbrev pub pair_same : Pair → Pair → Bool
pair_same = pair_test.ghosts.eq

-- ---- one layer, with parts that are known

abbrev of_val : Val-F (Known Val val_same) (Known FieldVal field_val_same) (Known Pair pair_same) → Val-F Val FieldVal Pair
of_val = map-Val _ _ _ _ _ _ (λ e. e.0) (λ e. e.0) (λ e. e.0)

abbrev of_field_val : FieldVal-F (Known Val val_same) (Known FieldVal field_val_same) (Known Pair pair_same) → FieldVal-F Val FieldVal Pair
of_field_val = map-FieldVal _ _ _ _ _ _ (λ e. e.0) (λ e. e.0) (λ e. e.0)

abbrev of_pair : Pair-F (Known Val val_same) (Known FieldVal field_val_same) (Known Pair pair_same) → Pair-F Val FieldVal Pair
of_pair = map-Pair _ _ _ _ _ _ (λ e. e.0) (λ e. e.0) (λ e. e.0)

abbrev val_tests : Each Bool val_of.enum.parts
val_tests =
    (λ a b. int_eq a.0 b.0) ▹
    (λ a b. beq a.0 b.0) ▹
    (λ a b. text_same a.0 b.0 && nat_eq a.1.0 b.1.0) ▹
    (λ a b. pointwise val_same a.0 b.0) ▹
    (λ a b. pointwise field_val_same a.0 b.0) ▹
    (λ a b. pointwise val_same a.0 b.0 && pointwise val_same a.1.0 b.1.0) ▹
    (λ a b. pointwise val_same a.0 b.0) ▹
    (λ a b. pointwise val_same a.0 b.0) ▹
    (λ a b. pointwise pair_same a.0 b.0) ▹
    (λ a b. pointwise val_same a.0 b.0) ▹
    (λ a b. pointwise val_same a.0 b.0) ▹
    tt

layer_val : (c : Choice val_of.enum.parts) → Chooses val_of.enum.parts val_tests c → Knows val_same (roll-Val (join-Val the_family c))
layer_val c k = subst (Knows val_same) (whole_is-Val c) (known_enum val_of.enum val_tests val_laws.is (whole-Val c) (subst (Chooses val_of.enum.parts val_tests) (sym (parts_whole-Val c)) k))

made_val : (y : Val-F (Known Val val_same) (Known FieldVal field_val_same) (Known Pair pair_same)) → Knows val_same (roll-Val (of_val y))
made_val (Val-F.Num a) = layer_val _ (here (known_last (known_int a)))
made_val (Val-F.Truth a) = layer_val _ (later (here (known_last (known_bool a))))
made_val (Val-F.Item a b) = layer_val _ (later (later (here (known_field (known_text a) (known_last (known_nat b))))))
made_val (Val-F.Tuple a) = layer_val _ (later (later (later (here (known_last (known_row a))))))
made_val (Val-F.Rec a) = layer_val _ (later (later (later (later (here (known_last (known_row a)))))))
made_val (Val-F.Matrix a b) = layer_val _ (later5 (here (known_field (known_row a) (known_last (known_row b)))))
made_val (Val-F.Set a) = layer_val _ (later5 (later (here (known_last (known_row a)))))
made_val (Val-F.MSet a) = layer_val _ (later5 (later (later (here (known_last (known_row a))))))
made_val (Val-F.Function a) = layer_val _ (later5 (later (later (later (here (known_last (known_row a)))))))
made_val (Val-F.Relation a) = layer_val _ (later5 (later (later (later (later (here (known_last (known_row a))))))))
made_val (Val-F.Partition a) = layer_val _ (later5 (later5 (here (known_last (known_row a)))))

made_field_val : (y : FieldVal-F (Known Val val_same) (Known FieldVal field_val_same) (Known Pair pair_same)) → Knows field_val_same (roll-FieldVal (of_field_val y))
made_field_val y = known_struct parts-FieldVal whole-FieldVal whole_parts-FieldVal parts_whole-FieldVal field_val_laws.is (known_field (known_text y.name) (known_last y.val.1))

made_pair : (y : Pair-F (Known Val val_same) (Known FieldVal field_val_same) (Known Pair pair_same)) → Knows pair_same (roll-Pair (of_pair y))
made_pair y = known_struct parts-Pair whole-Pair whole_parts-Pair parts_whole-Pair pair_laws.is (known_field y.from.1 (known_last y.to.1))

-- ---- all values

step_val : (x : Val-F Val FieldVal Pair) (y : Val-F (Known Val val_same) (Known FieldVal field_val_same) (Known Pair pair_same)) → of_val y ≡ x → Knows val_same (roll-Val x)
step_val x y p = subst (λ z. Knows val_same (roll-Val z)) p (made_val y)

step_field_val : (x : FieldVal-F Val FieldVal Pair) (y : FieldVal-F (Known Val val_same) (Known FieldVal field_val_same) (Known Pair pair_same)) → of_field_val y ≡ x → Knows field_val_same (roll-FieldVal x)
step_field_val x y p = subst (λ z. Knows field_val_same (roll-FieldVal z)) p (made_field_val y)

step_pair : (x : Pair-F Val FieldVal Pair) (y : Pair-F (Known Val val_same) (Known FieldVal field_val_same) (Known Pair pair_same)) → of_pair y ≡ x → Knows pair_same (roll-Pair x)
step_pair x y p = subst (λ z. Knows pair_same (roll-Pair z)) p (made_pair y)

pub known_val : (x : Val) → Knows val_same x
known_val = ind-Val (Knows val_same) (Knows field_val_same) (Knows pair_same) step_val step_field_val step_pair

pub known_field_val : (x : FieldVal) → Knows field_val_same x
known_field_val = ind-FieldVal (Knows val_same) (Knows field_val_same) (Knows pair_same) step_val step_field_val step_pair

pub known_pair : (x : Pair) → Knows pair_same x
known_pair = ind-Pair (Knows val_same) (Knows field_val_same) (Knows pair_same) step_val step_field_val step_pair

pub decides_val : (x y : Val) → IsTrue (val_same x y) ↔ (x ≡ y)
decides_val x y = decides (known_val x) y

pub decides_field_val : (x y : FieldVal) → IsTrue (field_val_same x y) ↔ (x ≡ y)
decides_field_val x y = decides (known_field_val x) y

pub decides_pair : (x y : Pair) → IsTrue (pair_same x y) ↔ (x ≡ y)
decides_pair x y = decides (known_pair x) y
