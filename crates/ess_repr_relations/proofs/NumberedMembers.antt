-- Members by the numbers of their parts.
use Rattle.std.proofs.Common.{◌≡◌, refl, sym, ap, ◌∙◌, ℕ, ◌+◌, ◌<◌, Bool, true, false, ◌&&◌, if◌then◌else◌, List, [], ◌∷◌, ◌++◌}
use Rattle.std.proofs.Common.{map, length, take, drop, get_or, ℤ, pos, negsuc, int_le, Option, Some, None, option_map}
use Rattle.std.specs.Prelude.{nat_abs}
use Rattle.std.specs.List.{list_all}
use Rattle.std.specs.Int.{FitsUnsignedBits}
use Rattle.std.proofs.lemmas.List.{take_more, map-append}
use Rattle.ess_semantics.specs.Lists.{and_then, only_of}
use Rattle.ess_semantics.specs.Values.{Value}
use Rattle.ess_semantics.specs.Order.{same_int}
use Rattle.ess_semantics.specs.Trees.{partition_literal}
use Rattle.ess_semantics.specs.Collections.{set_of, partition_of}
use Rattle.ess_semantics.specs.Numbers.{one_to}
use Rattle.ess_semantics.specs.Operators.{value_of_node}
use Rattle.ess_semantics.specs.Tables.{truth_of, truth_number}
use Rattle.ess_semantics.specs.PartitionLayers.{members_numbered, partition_from_numbers}
use Rattle.ess_core.specs.declared.values.Val.{Val}
use Rattle.ess_core.specs.declared.tables.Table.{Table}
use Rattle.ess_core.specs.ValueViews.{pure_val}
use Rattle.ess_repr_rows_laws.specs.RowLayers.{picked}
use Rattle.ess_repr_tables.specs.SlotViews.{pure_tables}
use Rattle.ess_repr_relations.proofs.OnlyParts.{all-there}

-- ---- the number of parts

pub one_number : {A : Type 0} (is : List ℤ) (d : ℤ) (f : ℤ → Option A) → length is ≡ 1 → and_then (only_of is) f ≡ f (get_or is 0 d)
one_number [] d f h = cc
one_number (i ∷ []) d f h = refl
one_number (i ∷ j ∷ is) d f h = cc

pub no_number : {A : Type 0} (is : List ℤ) (f : ℤ → Option A) → (length is ≡ 1 → ⊥) → None ≡ and_then (only_of is) f
no_number [] f h = refl
no_number (i ∷ []) f h = absurd (h refl)
no_number (i ∷ j ∷ is) f h = refl

-- The tables behind the first one.
pub others_are : (ts : List Table) → pure_tables (drop 1 ts) ≡ drop 1 (pure_tables ts)
others_are [] = refl
others_are (t ∷ ts) = refl

pub others_none : (ts : List Table) → length ts ≡ 0 → pure_tables ts ≡ drop 1 (pure_tables ts)
others_none [] h = refl
others_none (t ∷ ts) h = cc

-- ---- the members of one part

picked-numbered : (xs : List Value) (ws : List ℤ) (k : ℤ) →
    picked (map (λ w. truth_number (same_int w k)) ws) xs ≡ Some (members_numbered xs ws k)
picked-numbered [] [] k = refl
picked-numbered [] (w ∷ ws) k = refl
picked-numbered (x ∷ xs) [] k = refl
picked-numbered (x ∷ xs) (w ∷ ws) k = go (same_int w k) (picked xs' xs) (picked-numbered xs ws k)
  where
    xs' : List ℤ
    xs' = map (λ w. truth_number (same_int w k)) ws

    go : (b : Bool) (o : Option (List Value)) → o ≡ Some (members_numbered xs ws k) →
        and_then (truth_of (truth_number b))
        (λ b. option_map (λ ys. if b then x ∷ ys else ys) o) ≡ Some (if b then x ∷ members_numbered xs ws k else members_numbered xs ws k)
    go true o e = ap (option_map (λ ys. x ∷ ys)) e
    go false o e = ap (option_map (λ ys. ys)) e

-- The picked members are those with the number.
pub picked_set : (xs : List Value) (ws ms : List ℤ) (k : ℤ) (own : List Val) (o : Option (List Val)) (w : Value) → o ≡ Some own →
    ms ≡ map (λ w. truth_number (same_int w k)) ws →
    option_map (map pure_val) o ≡ picked ms xs → w ≡ set_of (map pure_val own) → w ≡ set_of (members_numbered xs ws k)
picked_set xs ws ms k own o w e m h p =
    let q : Some (map pure_val own) ≡ Some (members_numbered xs ws k) = ap (option_map (map pure_val)) (sym e) ∙ h
    ∙ ap (λ l. picked l xs) m ∙ picked-numbered xs ws k in
    let z : map pure_val own ≡ members_numbered xs ws k = cc in
    p ∙ ap set_of z

-- One part more.
pub sets_more : (xs : List Value) (ws axis : List ℤ) (i : ℕ) (n : ℤ) (ps qs : List (Option Val)) (v : Val) → i < length axis →
    n ≡ get_or axis i n →
    map (option_map pure_val) ps ≡ map (λ k. Some (set_of (members_numbered xs ws k))) (take i axis) →
    pure_val v ≡ set_of (members_numbered xs ws n) → qs ≡ ps ++ Some v ∷ [] →
    map (option_map pure_val) qs ≡ map (λ k. Some (set_of (members_numbered xs ws k))) (take (i + 1) axis)
sets_more xs ws axis i n ps qs v h is e o q =
    ap (map (option_map pure_val)) q ∙ map-append (option_map pure_val) ps (Some v ∷ []) ∙ ap (λ l. l ++ Some (pure_val v) ∷ []) e
    ∙ ap (λ x. map F (take i axis) ++ Some x ∷ []) o
    ∙ sym (ap (map F) (take_more axis i n h) ∙ map-append F (take i axis) (get_or axis i n ∷ [])
    ∙ ap (λ x. map F (take i axis) ++ F x ∷ []) (sym is))
  where
    F : ℤ → Option Value
    F k = Some (set_of (members_numbered xs ws k))

-- ---- all parts

-- A number of parts that isn't below 0.
pub count_is : (count : ℤ) (n : ℕ) → FitsUnsignedBits 64 count → n ≡ nat_abs count → count ≡ pos n
count_is (pos m) n f e = ap (λ k. pos k) (sym e)
count_is (negsuc m) n f e = absurd f

module _ (xs : List Value) (ws : List ℤ) (count : ℤ) (n : ℕ) (is : count ≡ pos n) where
  -- A number that is none of a part.
  pub numbers_wrong : list_all (λ w. int_le (pos 1) w && int_le w count) ws ≡ false → None ≡ partition_from_numbers xs ws count
  numbers_wrong h =
      ap (λ b. if b then partition_of (map (λ k. set_of (members_numbered xs ws k)) (one_to n)) else None)
      (sym (ap (λ c. list_all (λ w. int_le (pos 1) w && int_le w c) ws) (sym is) ∙ h))
      ∙ ap (partition_from_numbers xs ws) (sym is)

  -- The sets of the members of all parts.
  pub parts_from : list_all (λ w. int_le (pos 1) w && int_le w count) ws ≡ true →
      (axis : List ℤ) (qs : List (Option Value)) (o : Option Value) → axis ≡ one_to n →
      qs ≡ map (λ k. Some (set_of (members_numbered xs ws k))) axis → o ≡ value_of_node partition_literal qs →
      o ≡ partition_from_numbers xs ws count
  parts_from h axis qs o a e p =
      p ∙ ap (value_of_node partition_literal) e ∙ all-there (λ k. set_of (members_numbered xs ws k)) axis
      ∙ ap (λ l. partition_of (map (λ k. set_of (members_numbered xs ws k)) l)) a
      ∙ ap (λ b. if b then partition_of (map (λ k. set_of (members_numbered xs ws k)) (one_to n)) else None)
      (sym (ap (λ c. list_all (λ w. int_le (pos 1) w && int_le w c) ws) (sym is) ∙ h))
      ∙ ap (partition_from_numbers xs ws) (sym is)

-- A number of parts below 0.
pub parts_below : (xs : List Value) (ws : List ℤ) (count : ℤ) (n : ℕ) → count ≡ negsuc n → None ≡ partition_from_numbers xs ws count
parts_below xs ws count n is = ap (partition_from_numbers xs ws) (sym is)
