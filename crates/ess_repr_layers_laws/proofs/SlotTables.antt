-- The tables of the slots in use are over the axes of the child's tables.
use Rattle.std.proofs.Common.{◌≡◌, refl, sym, ap, ◌∙◌, ℕ, zero, suc, ◌+◌, ◌*◌, ◌<◌, ◌≤◌, Bool, true, false, ◌&&◌, if◌then◌else◌, List, [], ◌∷◌, ◌++◌, map, length, take, drop, ℤ, pos, negsuc, Option, Some, None, nat_le, option_map, add-mul, suc-mul, one-mul, mul_assoc, ◌-◌, subst, arith}
use Rattle.std.proofs.lemmas.Bool.{eqb-true, eq-eqb, leb-true}
use Rattle.std.specs.List.{list_all}
use Rattle.ess_semantics.specs.Lists.{and_then, only_of}
use Rattle.ess_semantics.specs.Order.{same_ints}
use Rattle.ess_semantics.specs.Numbers.{not_below_0}
use Rattle.ess_semantics.specs.Tables.{Table, Tables, volume, same_axes, is_filled, truth_of}
use Rattle.ess_semantics.specs.Cells.{Axes}
use Rattle.ess_semantics.specs.Layers.{Use, everywhere, all_slots, up_to_marker, where_flagged, where_counted, within_slots, if_positive}
use Rattle.ess_semantics.specs.Tidy.{over_axes}
use Rattle.ess_semantics.proofs.Tests.{and-left, and-right, and-both}
use Rattle.ess_semantics.proofs.Orders.{same_ints-itself}
use Rattle.ess_repr_laws.proofs.CanonicalPlaces.{AllOf}
use Rattle.ess_repr_rows_laws.specs.Cutting.{part_at, parts_at, numbers_from, flagged_from, counted_from, first_items, used_numbers}
use Rattle.ess_repr_rows_laws.proofs.Stacked.{axes-equal}
use Rattle.ess_repr_rows_laws.proofs.UsedSlots.{UseOver}

-- ---- the numbers in use

-- A run of numbers is below its end.
numbers-below : (k m n : ℕ) → k + m ≤ n → AllOf (numbers_from k m) (λ i. i < n)
numbers-below k zero n h = tt
numbers-below k (suc m) n h = (omega (arith, h), numbers-below (suc k) m n (omega (arith, h)))

flagged-below : (k n : ℕ) (xs : List ℤ) (ks : List ℕ) → k + length xs ≤ n → flagged_from k xs ≡ Some ks → AllOf ks (λ i. i < n)
flagged-below k n [] [] h e = tt
flagged-below k n [] (j ∷ ks) h e = cc
flagged-below k n (x ∷ xs) ks h e = go (truth_of x) (λ js q. flagged-below (suc k) n xs js (omega (arith, h)) q) e
  where
    pick : (b : Bool) (o : Option (List ℕ)) → ((js : List ℕ) → o ≡ Some js → AllOf js (λ i. i < n)) →
        option_map (λ js. if b then k ∷ js else js) o ≡ Some ks → AllOf ks (λ i. i < n)
    pick b None f q = cc
    pick true (Some js) f q =
        let w : k ∷ js ≡ ks = cc in subst (λ l. AllOf l (λ i. i < n)) w (omega (arith, h), f js refl)
    pick false (Some js) f q = let w : js ≡ ks = cc in subst (λ l. AllOf l (λ i. i < n)) w (f js refl)

    go : (o : Option Bool) → ((js : List ℕ) → flagged_from (suc k) xs ≡ Some js → AllOf js (λ i. i < n)) →
        and_then o (λ b. option_map (λ js. if b then k ∷ js else js) (flagged_from (suc k) xs)) ≡ Some ks → AllOf ks (λ i. i < n)
    go None later q = cc
    go (Some b) later q = pick b (flagged_from (suc k) xs) later q

counted-below : (k n : ℕ) (xs : List ℤ) (ks : List ℕ) → k + length xs ≤ n → counted_from k xs ≡ Some ks → AllOf ks (λ i. i < n)
counted-below k n [] [] h e = tt
counted-below k n [] (j ∷ ks) h e = cc
counted-below k n (x ∷ xs) ks h e = go (not_below_0 x) (λ js q. counted-below (suc k) n xs js (omega (arith, h)) q) e
  where
    pick : (m : ℕ) (o : Option (List ℕ)) → ((js : List ℕ) → o ≡ Some js → AllOf js (λ i. i < n)) →
        option_map (if_positive m k) o ≡ Some ks → AllOf ks (λ i. i < n)
    pick m None f q = cc
    pick (suc m) (Some js) f q =
        let w : k ∷ js ≡ ks = cc in subst (λ l. AllOf l (λ i. i < n)) w (omega (arith, h), f js refl)
    pick zero (Some js) f q = let w : js ≡ ks = cc in subst (λ l. AllOf l (λ i. i < n)) w (f js refl)

    go : (o : Option ℕ) → ((js : List ℕ) → counted_from (suc k) xs ≡ Some js → AllOf js (λ i. i < n)) →
        and_then o (λ m. option_map (if_positive m k) (counted_from (suc k) xs)) ≡ Some ks → AllOf ks (λ i. i < n)
    go None later q = cc
    go (Some m) later q = pick m (counted_from (suc k) xs) later q

marked-below : (n : ℕ) (o : Option ℤ) (ks : List ℕ) → and_then o (λ m. option_map (numbers_from 0) (within_slots m n)) ≡ Some ks → AllOf ks (λ i. i < n)
marked-below n None ks e = cc
marked-below n (Some (negsuc m)) ks e = cc
marked-below n (Some (pos m)) ks e = go (nat_le m n) refl e
  where
    go : (b : Bool) → nat_le m n ≡ b → option_map (numbers_from 0) (if b then Some m else None) ≡ Some ks → AllOf ks (λ i. i < n)
    go false p q = cc
    go true p q =
        let w : numbers_from 0 m ≡ ks = cc in
        let l = leb-true m n p in
        subst (λ l. AllOf l (λ i. i < n)) w (numbers-below 0 m n (omega (arith, l)))

-- The numbers of the slots in use are below the number of places.
pub used-below : (u : Use) (bs : Axes) (ts : Tables) (ks : List ℕ) → UseOver u bs ts → used_numbers u (volume bs) ts ≡ Some ks → AllOf ks (λ i. i < volume bs)
used-below everywhere bs ts ks h e =
    let w : numbers_from 0 (volume bs) ≡ ks = cc in subst (λ l. AllOf l (λ i. i < volume bs)) w (numbers-below 0 (volume bs) (volume bs) (omega arith))
used-below (all_slots n) bs ts ks h e =
    let w : numbers_from 0 (volume bs) ≡ ks = cc in subst (λ l. AllOf l (λ i. i < volume bs)) w (numbers-below 0 (volume bs) (volume bs) (omega arith))
used-below up_to_marker bs ts ks h e = marked-below (volume bs) (only_of (first_items ts)) ks e
used-below where_flagged bs [] ks h e = absurd h
used-below where_flagged bs (t ∷ ts) ks h e = let l : length t.items ≡ volume bs = h.1 in flagged-below 0 (volume bs) t.items ks (omega (arith, l)) e
used-below where_counted bs [] ks h e = absurd h
used-below where_counted bs (t ∷ ts) ks h e = let l : length t.items ≡ volume bs = h.1 in counted-below 0 (volume bs) t.items ks (omega (arith, l)) e

-- ---- parts of tables

drop-front : (bs as' : Axes) → drop (length bs) (bs ++ as') ≡ as'
drop-front [] as' = refl
drop-front (b ∷ bs) as' = drop-front bs as'

take-long : (v m : ℕ) (xs : List ℤ) → length xs ≡ v + m → length (take v xs) ≡ v
take-long zero m xs e = refl
take-long (suc v) m [] e = let z : 0 ≡ suc v + m = e in absurd (omega arith)
take-long (suc v) m (x ∷ xs) e = let z : suc (length xs) ≡ suc v + m = e in let f : length xs ≡ v + m = omega arith in ap suc (take-long v m xs f)

drop-long : (v m : ℕ) (xs : List ℤ) → length xs ≡ v + m → length (drop v xs) ≡ m
drop-long zero m xs e = omega (arith, e)
drop-long (suc v) m [] e = let z : 0 ≡ suc v + m = e in absurd (omega arith)
drop-long (suc v) m (x ∷ xs) e = let z : suc (length xs) ≡ suc v + m = e in let f : length xs ≡ v + m = omega arith in drop-long v m xs f

-- a part of so many equal ones is as long
part-long : (k n v : ℕ) (xs : List ℤ) → k < n → length xs ≡ n * v → length (take v (drop (k * v) xs)) ≡ v
part-long k n v xs h e = take-long v rest (drop (k * v) xs) (drop-long (k * v) (v + rest) xs long)
  where
    rest : ℕ
    rest = (n - suc k) * v

    long : length xs ≡ k * v + (v + rest)
    long =
        let q : n ≡ suc k + (n - suc k) = omega (arith, h) in
        let p = ap (λ m. m * v) q in
        let a = add-mul (suc k) (n - suc k) v in
        let b = suc-mul k v in omega (arith, e, p, a, b)

volume-both : (bs as' : Axes) → volume (bs ++ as') ≡ volume bs * volume as'
volume-both [] as' = sym (one-mul (volume as'))
volume-both (b ∷ bs) as' = ap (λ n. length b * n) (volume-both bs as') ∙ sym (mul_assoc (length b) (volume bs) (volume as'))

axes-itself : (as' : Axes) → same_axes as' as' ≡ true
axes-itself [] = refl
axes-itself (a ∷ as') = and-both (same_ints a a) (same_axes as' as') (same_ints-itself a) (axes-itself as')

part-over : (bs as' : Axes) (k : ℕ) (t : Table) → k < volume bs → is_filled t && same_axes t.axes (bs ++ as') ≡ true →
    is_filled (part_at (length bs) k t) && same_axes (drop (length bs) t.axes) as' ≡ true
part-over bs as' k t l h =
    let a = axes-equal t.axes (bs ++ as') (and-right (is_filled t) (same_axes t.axes (bs ++ as')) h) in
    let n = eqb-true (length t.items) (volume t.axes) (and-left (is_filled t) (same_axes t.axes (bs ++ as')) h) in
    let x : drop (length bs) t.axes ≡ as' = ap (drop (length bs)) a ∙ drop-front bs as' in
    let v : length t.items ≡ volume bs * volume (drop (length bs) t.axes) =
    n ∙ ap volume a ∙ volume-both bs as' ∙ ap (λ y. volume bs * volume y) (sym x) in
    and-both (is_filled (part_at (length bs) k t)) (same_axes (drop (length bs) t.axes) as')
    (eq-eqb (length (part_at (length bs) k t).items) (volume (drop (length bs) t.axes)) (part-long k (volume bs) (volume (drop (length bs) t.axes)) t.items l v))
    (ap (λ y. same_axes y as') x ∙ axes-itself as')

-- The tables of one slot.
parts-over : (bs : Axes) (ass : List Axes) (ts : Tables) (k : ℕ) → k < volume bs → over_axes [] (map (λ as'. bs ++ as') ass) ts ≡ true →
    over_axes [] ass (parts_at (length bs) ts k) ≡ true
parts-over bs [] [] k l h = refl
parts-over bs [] (t ∷ ts) k l h = cc
parts-over bs (as' ∷ ass) [] k l h = cc
parts-over bs (as' ∷ ass) (t ∷ ts) k l h =
    and-both (is_filled (part_at (length bs) k t) && same_axes (drop (length bs) t.axes) as') (over_axes [] ass (parts_at (length bs) ts k))
    (part-over bs as' k t l (and-left (is_filled t && same_axes t.axes (bs ++ as')) (over_axes [] (map (λ as'. bs ++ as') ass) ts) h))
    (parts-over bs ass ts k l (and-right (is_filled t && same_axes t.axes (bs ++ as')) (over_axes [] (map (λ as'. bs ++ as') ass) ts) h))

-- The tables of several slots.
pub slots-over : (bs : Axes) (ass : List Axes) (ts : Tables) (ks : List ℕ) → AllOf ks (λ i. i < volume bs) → over_axes [] (map (λ as'. bs ++ as') ass) ts ≡ true →
    list_all (over_axes [] ass) (map (parts_at (length bs) ts) ks) ≡ true
slots-over bs ass ts [] a h = refl
slots-over bs ass ts (k ∷ ks) a h =
    and-both (over_axes [] ass (parts_at (length bs) ts k)) (list_all (over_axes [] ass) (map (parts_at (length bs) ts) ks)) (parts-over bs ass ts k a.0 h) (slots-over bs ass ts ks a.1 h)
