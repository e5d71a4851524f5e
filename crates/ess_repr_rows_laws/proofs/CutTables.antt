-- The tables of the slots are parts of the tables under the layer's axes, cut out in turn.
use Rattle.std.proofs.Common.{◌≡◌, refl, sym, ap, ◌∙◌, ℕ, zero, suc, ◌+◌, ◌*◌, ◌<◌, ◌≤◌, true, false, ◌&&◌, if◌then◌else◌, List, [], ◌∷◌, ◌++◌, map, length, take, drop, ℤ, Option, Some, mul_assoc, one-mul, add-mul, mul-le-mul_right, arith}
use Rattle.std.proofs.lemmas.Bool.{eqb-true}
use Rattle.ess_semantics.specs.Lists.{and_then, or_default}
use Rattle.ess_semantics.specs.Order.{same_int}
use Rattle.ess_semantics.specs.Domains.{add_heads, lists_of}
use Rattle.ess_semantics.specs.Tables.{Table, Tables, volume, chunk, is_filled, same_axes}
use Rattle.ess_semantics.specs.Cells.{Axes}
use Rattle.ess_semantics.specs.OneLayer.{slice_in, no_cells, slice, slices}
use Rattle.ess_semantics.specs.Tidy.{over_axes}
use Rattle.ess_semantics.proofs.Tests.{and-left, and-right}
use Rattle.ess_semantics.proofs.Orders.{same_int-itself}
use Rattle.ess_repr_laws.proofs.RowsOfCells.{EachOf}
use Rattle.ess_repr_laws.proofs.TablesAndCells.{NumbersDiffer, AxesDiffer}
use Rattle.ess_repr_laws.proofs.SideBySide.{Along, along-both}
use Rattle.ess_repr_rows_laws.specs.Cutting.{part_at, parts_at, numbers_from}
use Rattle.ess_repr_rows_laws.proofs.Blocks.{map-twice, map-both, block-more}
use Rattle.ess_repr_rows_laws.proofs.Stacked.{axes-equal, places-count}

-- ---- parts of lists

-- What is dropped twice.
pub drop-twice : {A : Type 0} (n m : ℕ) (xs : List A) → drop n (drop m xs) ≡ drop (m + n) xs
drop-twice n zero xs = let q : 0 + n ≡ n = omega arith in ap (λ k. drop k xs) (sym q)
drop-twice zero (suc m) [] = let q : suc m + 0 ≡ suc m = omega arith in ap (λ k. drop k []) (sym q)
drop-twice (suc n) (suc m) [] = let q : suc m + suc n ≡ suc (m + suc n) = omega arith in ap (λ k. drop k []) (sym q)
drop-twice n (suc m) (x ∷ xs) = let q : suc m + n ≡ suc (m + n) = omega arith in drop-twice n m xs ∙ ap (λ k. drop k (x ∷ xs)) (sym q)

take-of-first : {A : Type 0} (v n : ℕ) (xs : List A) → v ≤ n → take v (take n xs) ≡ take v xs
take-of-first zero n xs h = refl
take-of-first (suc v) zero xs h = absurd (omega (arith, h))
take-of-first (suc v) (suc n) [] h = refl
take-of-first (suc v) (suc n) (x ∷ xs) h = ap (λ l. x ∷ l) (take-of-first v n xs (omega (arith, h)))

-- A part of the first items is a part of all.
pub part-of-first : {A : Type 0} (k v n : ℕ) (xs : List A) → k + v ≤ n → take v (drop k (take n xs)) ≡ take v (drop k xs)
part-of-first zero v n xs h = take-of-first v n xs (omega (arith, h))
part-of-first (suc k) v zero xs h = absurd (omega (arith, h))
part-of-first (suc k) v (suc n) [] h = refl
part-of-first (suc k) v (suc n) (x ∷ xs) h = part-of-first k v n xs (omega (arith, h))

take-exact : (n m : ℕ) (xs : List ℤ) → length xs ≡ n + m → length (take n xs) ≡ n
take-exact zero m xs e = refl
take-exact (suc n) m [] e = let z : 0 ≡ suc n + m = e in absurd (omega arith)
take-exact (suc n) m (x ∷ xs) e = let z : suc (length xs) ≡ suc n + m = e in let f : length xs ≡ n + m = omega arith in ap suc (take-exact n m xs f)

drop-exact : (n m : ℕ) (xs : List ℤ) → length xs ≡ n + m → length (drop n xs) ≡ m
drop-exact zero m xs e = omega arith
drop-exact (suc n) m [] e = let z : 0 ≡ suc n + m = e in absurd (omega arith)
drop-exact (suc n) m (x ∷ xs) e = let z : suc (length xs) ≡ suc n + m = e in let f : length xs ≡ n + m = omega arith in drop-exact n m xs f

take-all : (n : ℕ) (xs : List ℤ) → length xs ≡ n → take n xs ≡ xs
take-all zero [] e = refl
take-all zero (x ∷ xs) e = cc
take-all (suc n) [] e = cc
take-all (suc n) (x ∷ xs) e = let q : length xs ≡ n = cc in ap (λ l. x ∷ l) (take-all n xs q)

-- ---- numbers in turn

-- Two runs of numbers.
pub numbers-both : (k n m : ℕ) → numbers_from k (n + m) ≡ numbers_from k n ++ numbers_from (k + n) m
numbers-both k zero m = let q : 0 + m ≡ m = omega arith in let r : k + 0 ≡ k = omega arith in ap (numbers_from k) q ∙ ap (λ j. numbers_from j m) (sym r)
numbers-both k (suc n) m =
    let q : suc n + m ≡ suc (n + m) = omega arith in
    let r : suc k + n ≡ k + suc n = omega arith in
    ap (numbers_from k) q ∙ ap (λ l. k ∷ l) (numbers-both (suc k) n m ∙ ap (λ j. numbers_from (suc k) n ++ numbers_from j m) r)

-- A run that begins later.
pub numbers-later : (j k n : ℕ) → numbers_from (j + k) n ≡ map (λ i. j + i) (numbers_from k n)
numbers-later j k zero = refl
numbers-later j k (suc n) = let q : suc (j + k) ≡ j + suc k = omega arith in ap (λ l. (j + k) ∷ l) (ap (λ i. numbers_from i n) q ∙ numbers-later j (suc k) n)

-- Maps that agree on the numbers of a run.
pub numbers-same : {A : Type 0} (f g : ℕ → A) (k n : ℕ) → ((i : ℕ) → i < k + n → f i ≡ g i) → map f (numbers_from k n) ≡ map g (numbers_from k n)
numbers-same f g k zero h = refl
numbers-same f g k (suc n) h = ap (λ x. x ∷ map f (numbers_from (suc k) n)) (h k (omega arith)) ∙ ap (λ l. g k ∷ l) (numbers-same f g (suc k) n (λ i l. h i (omega (arith, l))))

-- ---- one table

module _ (as' : Axes) where
  abbrev v : ℕ
  v = volume as'

  -- The part with k parts before it.
  abbrev pub cut : List ℤ → ℕ → Option Table
  cut is k = Some (record { axes = as'; items = take v (drop (k * v) is) })

  volume-both : (cs : Axes) → volume (cs ++ as') ≡ volume cs * v
  volume-both [] = sym (one-mul v)
  volume-both (c ∷ cs) = ap (λ n. length c * n) (volume-both cs) ∙ sym (mul_assoc (length c) (volume cs) v)

  -- parts of the items behind one member of the first axis
  cut-first : (V : ℕ) (is : List ℤ) (n : ℕ) → V ≡ n * v → map (cut (take V is)) (numbers_from 0 n) ≡ map (cut is) (numbers_from 0 n)
  cut-first V is n e = numbers-same (cut (take V is)) (cut is) 0 n (λ i l. ap (λ xs. Some (record { axes = as'; items = xs })) (part-of-first (i * v) v V is (below i (omega (arith, l)))))
    where
      below : (i : ℕ) → i < n → i * v + v ≤ V
      below i l = let a : suc i * v ≤ n * v = mul-le-mul_right v l in let b = block-more i v in omega (arith, a, b, e)

  -- and those behind the later ones
  cut-later : (V : ℕ) (is : List ℤ) (n m : ℕ) → V ≡ n * v → map (cut (drop V is)) (numbers_from 0 m) ≡ map (cut is) (numbers_from (0 + n) m)
  cut-later V is n m e =
      numbers-same (cut (drop V is)) (λ i. cut is (n + i)) 0 m (λ i l. ap (λ xs. Some (record { axes = as'; items = take v xs })) (drop-twice (i * v) V is ∙ ap (λ j. drop j is) (sum i)))
      ∙ sym (map-twice (cut is) (λ i. n + i) (numbers_from 0 m))
      ∙ ap (map (cut is)) (sym (numbers-later n 0 m) ∙ ap (λ j. numbers_from j m) zeroth)
    where
      zeroth : n + 0 ≡ 0 + n
      zeroth = omega arith

      sum : (i : ℕ) → V + i * v ≡ (n + i) * v
      sum i = let a = add-mul n i v in omega (arith, a, e)

  -- The parts of a table at the places of its first axes.
  pub slices-in : (bs : Axes) (is : List ℤ) → AxesDiffer bs → length is ≡ volume (bs ++ as') → map (slice_in (bs ++ as') is) (lists_of bs) ≡ map (cut is) (numbers_from 0 (volume bs))
  slices-in [] is d e =
      let q : 0 * v ≡ 0 = omega arith in
      ap (λ xs. Some (record { axes = as'; items = xs }) ∷ []) (sym (take-all v is e)) ∙ ap (λ k. Some (record { axes = as'; items = take v (drop k is) }) ∷ []) (sym q)
  slices-in (b ∷ bs) is d e = go b is d.0 e (λ js. slices-in bs js d.1)
    where
      V : ℕ
      V = volume (bs ++ as')

      at : List ℤ → List ℤ → List ℤ → Option Table
      at ks is = slice_in (ks ∷ (bs ++ as')) is

      apart : (k : ℤ) (ks : List ℤ) (is : List ℤ) (qs : List ℤ) → EachOf qs (λ j. same_int k j ≡ false) →
          map (at (k ∷ ks) is) (add_heads qs (lists_of bs)) ≡ map (at ks (drop V is)) (add_heads qs (lists_of bs))
      apart k ks is [] h = refl
      apart k ks is (q ∷ qs) h =
          map-both (at (k ∷ ks) is) (map (λ l. q ∷ l) (lists_of bs)) (add_heads qs (lists_of bs))
          ∙ ap (λ l. l ++ map (at (k ∷ ks) is) (add_heads qs (lists_of bs))) (one (lists_of bs))
          ∙ ap (λ l. map (at ks (drop V is)) (map (λ l. q ∷ l) (lists_of bs)) ++ l) (apart k ks is qs h.1)
          ∙ sym (map-both (at ks (drop V is)) (map (λ l. q ∷ l) (lists_of bs)) (add_heads qs (lists_of bs)))
        where
          one : (ms : List (List ℤ)) → map (at (k ∷ ks) is) (map (λ l. q ∷ l) ms) ≡ map (at ks (drop V is)) (map (λ l. q ∷ l) ms)
          one [] = refl
          one (m ∷ ms) =
              ap (λ b. and_then (if b then Some (take V is) else chunk ks V (drop V is) q) (λ c. slice_in (bs ++ as') c m) ∷ map (at (k ∷ ks) is) (map (λ l. q ∷ l) ms)) h.0
              ∙ ap (λ l. and_then (chunk ks V (drop V is) q) (λ c. slice_in (bs ++ as') c m) ∷ l) (one ms)

      first : (k : ℤ) (ks : List ℤ) (is : List ℤ) (ms : List (List ℤ)) → map (at (k ∷ ks) is) (map (λ l. k ∷ l) ms) ≡ map (slice_in (bs ++ as') (take V is)) ms
      first k ks is [] = refl
      first k ks is (m ∷ ms) =
          ap (λ b. and_then (if b then Some (take V is) else chunk ks V (drop V is) k) (λ c. slice_in (bs ++ as') c m) ∷ map (at (k ∷ ks) is) (map (λ l. k ∷ l) ms)) (same_int-itself k)
          ∙ ap (λ l. slice_in (bs ++ as') (take V is) m ∷ l) (first k ks is ms)

      go : (ks : List ℤ) (is : List ℤ) → NumbersDiffer ks → length is ≡ length ks * V → ((js : List ℤ) → length js ≡ V → map (slice_in (bs ++ as') js) (lists_of bs) ≡ map (cut js) (numbers_from 0 (volume bs))) →
          map (at ks is) (add_heads ks (lists_of bs)) ≡ map (cut is) (numbers_from 0 (length ks * volume bs))
      go [] is d e ih = let q : 0 * volume bs ≡ 0 = omega arith in ap (λ n. map (cut is) (numbers_from 0 n)) (sym q)
      go (k ∷ ks) is d e ih =
          let long : length is ≡ V + length ks * V = e ∙ block-more (length ks) V in
          map-both (at (k ∷ ks) is) (map (λ l. k ∷ l) (lists_of bs)) (add_heads ks (lists_of bs))
          ∙ ap (λ l. l ++ map (at (k ∷ ks) is) (add_heads ks (lists_of bs))) (first k ks is (lists_of bs) ∙ ih (take V is) (take-exact V (length ks * V) is long) ∙ cut-first V is (volume bs) (volume-both bs))
          ∙ ap (λ l. map (cut is) (numbers_from 0 (volume bs)) ++ l)
          (apart k ks is ks d.0 ∙ go ks (drop V is) d.1 (drop-exact V (length ks * V) is long) ih ∙ cut-later V is (volume bs) (length ks * volume bs) (volume-both bs))
          ∙ sym (map-both (cut is) (numbers_from 0 (volume bs)) (numbers_from (0 + volume bs) (length ks * volume bs)))
          ∙ ap (map (cut is)) (sym (numbers-both 0 (volume bs) (length ks * volume bs)) ∙ ap (numbers_from 0) (sym (block-more (length ks) (volume bs))))

-- ---- all tables

-- Lists with the same answers stand side by side.
pub map-along : {A B C : Type 0} (f : A → C) (g : B → C) (xs : List A) (ys : List B) → map f xs ≡ map g ys → Along xs ys (λ x y. f x ≡ g y)
map-along f g [] [] e = tt
map-along f g [] (y ∷ ys) e = cc
map-along f g (x ∷ xs) [] e = cc
map-along f g (x ∷ xs) (y ∷ ys) e = let p : f x ≡ g y = cc in let q : map f xs ≡ map g ys = cc in (p, map-along f g xs ys q)

-- And the other way round.
pub along-maps : {A B C : Type 0} (f : A → C) (g : B → C) (xs : List A) (ys : List B) → Along xs ys (λ x y. f x ≡ g y) → map f xs ≡ map g ys
along-maps f g [] [] h = refl
along-maps f g [] (y ∷ ys) h = absurd h
along-maps f g (x ∷ xs) [] h = absurd h
along-maps f g (x ∷ xs) (y ∷ ys) h = ap (λ z. z ∷ map f xs) h.0 ∙ ap (λ l. g y ∷ l) (along-maps f g xs ys h.1)

numbers-length : (k n : ℕ) → length (numbers_from k n) ≡ n
numbers-length k zero = refl
numbers-length k (suc n) = ap suc (numbers-length (suc k) n)

drop-front : (bs as' : Axes) → drop (length bs) (bs ++ as') ≡ as'
drop-front [] as' = refl
drop-front (b ∷ bs) as' = drop-front bs as'

-- The parts of one table over the layer's axes and others.
pub slices-of-table : (bs as' : Axes) (t : Table) → AxesDiffer bs → is_filled t && same_axes t.axes (bs ++ as') ≡ true →
    map (λ js. slice js t) (lists_of bs) ≡ map (λ k. part_at (length bs) k t) (numbers_from 0 (volume bs))
slices-of-table bs as' t d h =
    ap (λ x. map (λ js. or_default (slice_in x t.items js) no_cells) (lists_of bs)) a
    ∙ sym (map-twice (λ o. or_default o no_cells) (slice_in (bs ++ as') t.items) (lists_of bs))
    ∙ ap (map (λ o. or_default o no_cells)) (slices-in as' bs t.items d (n ∙ ap volume a))
    ∙ map-twice (λ o. or_default o no_cells) (cut as' t.items) (numbers_from 0 (volume bs))
    ∙ ap (λ x. map (λ k. part x (take (volume x) (drop (k * volume x) t.items))) (numbers_from 0 (volume bs))) (sym (ap (drop (length bs)) a ∙ drop-front bs as'))
  where
    part : Axes → List ℤ → Table
    part x is = record { axes = x; items = is }

    a : t.axes ≡ bs ++ as'
    a = axes-equal t.axes (bs ++ as') (and-right (is_filled t) (same_axes t.axes (bs ++ as')) h)

    n : length t.items ≡ volume t.axes
    n = eqb-true (length t.items) (volume t.axes) (and-left (is_filled t) (same_axes t.axes (bs ++ as')) h)

slices-along : (bs : Axes) (ass : List Axes) (ts : Tables) → AxesDiffer bs → over_axes [] (map (λ as'. bs ++ as') ass) ts ≡ true →
    Along (lists_of bs) (numbers_from 0 (volume bs)) (λ js k. slices ts js ≡ parts_at (length bs) ts k)
slices-along bs [] [] d h =
    none (lists_of bs) (numbers_from 0 (volume bs)) (places-count bs ∙ sym (numbers-length 0 (volume bs)))
  where
    none : (xs : List (List ℤ)) (ys : List ℕ) → length xs ≡ length ys → Along xs ys (λ js k. slices [] js ≡ parts_at (length bs) [] k)
    none [] [] e = tt
    none [] (y ∷ ys) e = cc
    none (x ∷ xs) [] e = cc
    none (x ∷ xs) (y ∷ ys) e = let q : length xs ≡ length ys = cc in (refl, none xs ys q)
slices-along bs [] (t ∷ ts) d h = cc
slices-along bs (as' ∷ ass) [] d h = cc
slices-along bs (as' ∷ ass) (t ∷ ts) d h =
    along-both (lists_of bs) (numbers_from 0 (volume bs)) (λ js k. slice js t ≡ part_at (length bs) k t) (λ js k. slices ts js ≡ parts_at (length bs) ts k) (λ js k. slices (t ∷ ts) js ≡ parts_at (length bs) (t ∷ ts) k)
    (λ js k p q. ap (λ x. x ∷ slices ts js) p ∙ ap (λ l. part_at (length bs) k t ∷ l) q)
    (map-along (λ js. slice js t) (λ k. part_at (length bs) k t) (lists_of bs) (numbers_from 0 (volume bs))
    (slices-of-table bs as' t d (and-left (is_filled t && same_axes t.axes (bs ++ as')) (over_axes [] (map (λ as'. bs ++ as') ass) ts) h)))
    (slices-along bs ass ts d (and-right (is_filled t && same_axes t.axes (bs ++ as')) (over_axes [] (map (λ as'. bs ++ as') ass) ts) h))

-- The tables of the slots, in the order of their places.
pub slices-in-turn : (bs : Axes) (ass : List Axes) (ts : Tables) → AxesDiffer bs → over_axes [] (map (λ as'. bs ++ as') ass) ts ≡ true →
    map (slices ts) (lists_of bs) ≡ map (parts_at (length bs) ts) (numbers_from 0 (volume bs))
slices-in-turn bs ass ts d h = along-maps (slices ts) (parts_at (length bs) ts) (lists_of bs) (numbers_from 0 (volume bs)) (slices-along bs ass ts d h)
