-- A list that is sorted by rows, where items with the same rows keep their order, is one.
use Rattle.std.proofs.Common.{◌≡◌, refl, sym, ap, ◌∙◌, subst, ℕ, suc, ◌<◌, Bool, true, false, ◌&&◌, not, if◌then◌else◌, List, [], ◌∷◌, length, filter, ℤ, arith}
use Rattle.std.specs.Prelude.{slice_index_or}
use Rattle.std.specs.List.Sorted.{IsStableBy, ties}
use Rattle.std.specs.Ordering.{is_lt, ordering_reverse}
use Rattle.std.specs.declared.cmp.Ordering.{Ordering}
use Rattle.std.specs.declared.cmp.Ordering.TheVariants.{Less, Equal, Greater}
use Rattle.ess_semantics.specs.Cells.{order_rows}
use Rattle.ess_semantics.proofs.Tests.{and-right}
use Rattle.ess_semantics.proofs.Orders.{rows_exact, rows_total}
use Rattle.ess_repr_laws.proofs.CanonicalPlaces.{AllOf, all-of-map}
use Rattle.ess_repr_rows_laws.specs.SlotOrder.{put_by, put_in, by_rows}

-- ---- the order of rows

-- Rows of which none is below the other are equal.
tied-rows : (x y : List (List ℤ)) → not (is_lt (order_rows x y)) && not (is_lt (order_rows y x)) ≡ true → x ≡ y
tied-rows x y h = go (order_rows x y) refl h
  where
    go : (o : Ordering) → order_rows x y ≡ o → not (is_lt (order_rows x y)) && not (is_lt (order_rows y x)) ≡ true → x ≡ y
    go Less e q = let z : false ≡ true = sym (ap (λ o. not (is_lt o) && not (is_lt (order_rows y x))) e) ∙ q in cc
    go Equal e q = rows_exact x y e
    go Greater e q =
        let t : order_rows y x ≡ Less = rows_total.antisymm y x ∙ ap ordering_reverse e in
        let z : false ≡ true = sym (ap (λ o. not (is_lt o)) t) ∙ and-right (not (is_lt (order_rows x y))) (not (is_lt (order_rows y x))) q in cc

same-rows : (x : List (List ℤ)) → order_rows x x ≡ Equal
same-rows x = go (order_rows x x) refl
  where
    go : (o : Ordering) → order_rows x x ≡ o → o ≡ Equal
    go Less e = let z : Less ≡ Greater = sym e ∙ rows_total.antisymm x x ∙ ap ordering_reverse e in cc
    go Equal e = refl
    go Greater e = let z : Greater ≡ Less = sym e ∙ rows_total.antisymm x x ∙ ap ordering_reverse e in cc

-- what isn't above x isn't above what is above x
not-below : (w y x : List (List ℤ)) → is_lt (order_rows w y) ≡ false → is_lt (order_rows y x) ≡ false → is_lt (order_rows w x) ≡ false
not-below w y x p q = go (order_rows w x) refl
  where
    back : (o : Ordering) → order_rows y x ≡ o → order_rows w x ≡ Less → is_lt (order_rows w x) ≡ false
    back Less e l = let z : true ≡ false = ap is_lt (sym e) ∙ q in cc
    back Equal e l = let s = rows_exact y x e in let z : is_lt (order_rows w x) ≡ false = ap (λ v. is_lt (order_rows w v)) (sym s) ∙ p in z
    back Greater e l =
        let t : order_rows x y ≡ Less = rows_total.antisymm x y ∙ ap ordering_reverse e in
        let u : order_rows w y ≡ Less = rows_total.trans w x y l t in
        let z : true ≡ false = ap is_lt (sym u) ∙ p in cc

    go : (o : Ordering) → order_rows w x ≡ o → is_lt (order_rows w x) ≡ false
    go Less e = back (order_rows y x) refl e
    go Equal e = ap is_lt e
    go Greater e = ap is_lt e

-- ---- lists

-- P of each item, by its index
all-by-index : {A : Type 0} (P : A → Type 0) (xs : List A) → ((k : ℕ) (d : A) → k < length xs → P (slice_index_or xs k d)) → AllOf xs P
all-by-index P [] h = tt
all-by-index P (x ∷ xs) h = (h 0 x (omega arith), all-by-index P xs (λ k d l. h (suc k) d (omega (arith, l))))

-- The first item that passes a test is one of the list.
first-passes : {A : Type 0} (p : A → Bool) (Q : A → Type 0) (ys : List A) (x : A) (xs : List A) → AllOf ys Q → filter p ys ≡ x ∷ xs → Q x
first-passes p Q [] x xs h e = cc
first-passes p Q (y ∷ ys) x xs h e = go (p y) refl e (λ r. first-passes p Q ys x xs h.1 r)
  where
    go : (b : Bool) → p y ≡ b → (if b then y ∷ filter p ys else filter p ys) ≡ x ∷ xs → (filter p ys ≡ x ∷ xs → Q x) → Q x
    go true q e ih = let s : y ≡ x = cc in subst Q s h.0
    go false q e ih = ih e

module _ {A : Type 0} (f : A → List (List ℤ)) where
  abbrev pub by : A → A → Ordering
  by x y = order_rows (f x) (f y)

  abbrev pub below : A → A → Bool
  below x y = is_lt (by x y)

  -- Nothing stands behind something above it.
  abbrev pub Climbs : List A → Type 0
  Climbs [] = Unit {0}
  Climbs (x ∷ xs) = AllOf xs (λ y. below y x ≡ false) × Climbs xs

  put-all : (Q : A → Type 0) (x : A) (ys : List A) → Q x → AllOf ys Q → AllOf (put_in f x ys) Q
  put-all Q x [] q h = (q, tt)
  put-all Q x (y ∷ ys) q h = go (by x y) (put-all Q x ys q h.1)
    where
      go : (o : Ordering) → AllOf (put_in f x ys) Q → AllOf (put_by o x y ys (put_in f x ys)) Q
      go Less r = (q, h)
      go Equal r = (q, h)
      go Greater r = (h.0, r)

  -- What holds of each item holds of each sorted one.
  pub by-rows-all : (Q : A → Type 0) (xs : List A) → AllOf xs Q → AllOf (by_rows f xs) Q
  by-rows-all Q [] h = tt
  by-rows-all Q (x ∷ xs) h = put-all Q x (by_rows f xs) h.0 (by-rows-all Q xs h.1)

  above-turned : (x y : A) → by x y ≡ Greater → below x y ≡ false
  above-turned x y e = ap is_lt e

  not-above : (x y : A) → (o : Ordering) → by x y ≡ o → is_lt (ordering_reverse o) ≡ false → below y x ≡ false
  not-above x y o e q = ap is_lt (rows_total.antisymm (f y) (f x) ∙ ap ordering_reverse e) ∙ q

  put-climbs : (x : A) (ys : List A) → Climbs ys → Climbs (put_in f x ys)
  put-climbs x [] h = (tt, tt)
  put-climbs x (y ∷ ys) h = go (by x y) refl (put-climbs x ys h.1)
    where
      front : below y x ≡ false → Climbs (x ∷ y ∷ ys)
      front b = ((b, all-of-map ys (λ w. below w y ≡ false) (λ w. below w x ≡ false) (λ w q. not-below (f w) (f y) (f x) q b) h.0), h)

      go : (o : Ordering) → by x y ≡ o → Climbs (put_in f x ys) → Climbs (put_by o x y ys (put_in f x ys))
      go Less e c = front (not-above x y Less e refl)
      go Equal e c = front (not-above x y Equal e refl)
      go Greater e c = (put-all (λ w. below w y ≡ false) x ys (above-turned x y e) h.0, c)

  -- Sorted items climb.
  pub by-rows-climb : (xs : List A) → Climbs (by_rows f xs)
  by-rows-climb [] = tt
  by-rows-climb (x ∷ xs) = put-climbs x (by_rows f xs) (by-rows-climb xs)

  -- items that both tie with one have the same rows
  both-tied : (z x y : A) → ties below z x ≡ true → ties below z y ≡ true → by x y ≡ Equal
  both-tied z x y p q = ap (λ r. order_rows r (f y)) (sym (tied-rows (f z) (f x) p)) ∙ ap (order_rows (f z)) (sym (tied-rows (f z) (f y) q)) ∙ same-rows (f z)

  put-ties : (z x : A) (ys : List A) → filter (ties below z) (put_in f x ys) ≡ filter (ties below z) (x ∷ ys)
  put-ties z x [] = refl
  put-ties z x (y ∷ ys) = go (by x y) refl (put-ties z x ys)
    where
      swapped : (b c : Bool) → ties below z x ≡ b → ties below z y ≡ c → by x y ≡ Greater →
          (if c then y ∷ (if b then x ∷ filter (ties below z) ys else filter (ties below z) ys) else (if b then x ∷ filter (ties below z) ys else filter (ties below z) ys)) ≡
          (if b then x ∷ (if c then y ∷ filter (ties below z) ys else filter (ties below z) ys) else (if c then y ∷ filter (ties below z) ys else filter (ties below z) ys))
      swapped true true p q e = let w : Equal ≡ Greater = sym (both-tied z x y p q) ∙ e in cc
      swapped true false p q e = refl
      swapped false true p q e = refl
      swapped false false p q e = refl

      go : (o : Ordering) → by x y ≡ o → filter (ties below z) (put_in f x ys) ≡ filter (ties below z) (x ∷ ys) → filter (ties below z) (put_by o x y ys (put_in f x ys)) ≡ filter (ties below z) (x ∷ y ∷ ys)
      go Less e ih = refl
      go Equal e ih = refl
      go Greater e ih =
          ap (λ l. if ties below z y then y ∷ l else l) ih ∙ swapped (ties below z x) (ties below z y) refl refl e

  -- Items with the same rows keep their order.
  pub by-rows-ties : (z : A) (xs : List A) → filter (ties below z) (by_rows f xs) ≡ filter (ties below z) xs
  by-rows-ties z [] = refl
  by-rows-ties z (x ∷ xs) = put-ties z x (by_rows f xs) ∙ ap (λ l. if ties below z x then x ∷ l else l) (by-rows-ties z xs)

  -- ---- one sorted list

  tied-itself : (x : A) → ties below x x ≡ true
  tied-itself x = let e = same-rows (f x) in ap (λ o. not (is_lt o) && not (is_lt o)) e

  tied-or-apart : (x y : A) → ties below x y ≡ false → (below x y ≡ false → below y x ≡ true)
  tied-or-apart x y e b = go (below y x) refl
    where
      go : (c : Bool) → below y x ≡ c → below y x ≡ true
      go true q = q
      go false q = let z : true ≡ false = sym (ap (λ c. not c && not (below y x)) b ∙ ap (λ c. true && not c) q) ∙ e in cc

  drop-tied : (z x : A) (xs ys : List A) → filter (ties below z) (x ∷ xs) ≡ filter (ties below z) (x ∷ ys) → filter (ties below z) xs ≡ filter (ties below z) ys
  drop-tied z x xs ys e = go (ties below z x) e
    where
      go : (b : Bool) → (if b then x ∷ filter (ties below z) xs else filter (ties below z) xs) ≡ (if b then x ∷ filter (ties below z) ys else filter (ties below z) ys) →
          filter (ties below z) xs ≡ filter (ties below z) ys
      go true e = cc
      go false e = e

  -- the first of one list isn't apart from that of the other
  first-tied : (x y : A) (xs ys : List A) → Climbs (x ∷ xs) → Climbs (y ∷ ys) →
      ((z : A) → filter (ties below z) (x ∷ xs) ≡ filter (ties below z) (y ∷ ys)) → ties below x y ≡ true
  first-tied x y xs ys c d h = go (ties below x y) refl
    where
      own : (x : A) (xs : List A) → filter (ties below x) (x ∷ xs) ≡ x ∷ filter (ties below x) xs
      own x xs = ap (λ b. if b then x ∷ filter (ties below x) xs else filter (ties below x) xs) (tied-itself x)

      turned : (x y : A) → ties below x y ≡ false → ties below y x ≡ false
      turned x y e = swap (below x y) (below y x) e
        where
          swap : (a b : Bool) → not a && not b ≡ false → not b && not a ≡ false
          swap true true e = refl
          swap true false e = refl
          swap false true e = refl
          swap false false e = e

      -- x stands somewhere behind y, so it isn't below it
      behind : (x y : A) (xs ys : List A) → AllOf ys (λ w. below w y ≡ false) → filter (ties below x) (x ∷ xs) ≡ filter (ties below x) (y ∷ ys) → ties below x y ≡ false → below x y ≡ false
      behind x y xs ys a e t =
          first-passes (ties below x) (λ w. below w y ≡ false) ys x (filter (ties below x) xs) a
          (sym (ap (λ b. if b then y ∷ filter (ties below x) ys else filter (ties below x) ys) t) ∙ sym e ∙ own x xs)

      go : (b : Bool) → ties below x y ≡ b → ties below x y ≡ true
      go true e = e
      go false e =
          let p = behind x y xs ys d.0 (h x) e in
          let q = behind y x ys xs c.0 (sym (h y)) (turned x y e) in
          let r : true ≡ false = sym (tied-or-apart x y e p) ∙ q in cc

  -- Two lists that climb are one, where of each item those with the same rows are the same in both.
  pub one-order : (xs ys : List A) → Climbs xs → Climbs ys → ((z : A) → filter (ties below z) xs ≡ filter (ties below z) ys) → xs ≡ ys
  one-order [] [] c d h = refl
  one-order [] (y ∷ ys) c d h = let z : [] ≡ y ∷ filter (ties below y) ys = h y ∙ ap (λ b. if b then y ∷ filter (ties below y) ys else filter (ties below y) ys) (tied-itself y) in cc
  one-order (x ∷ xs) [] c d h = let z : [] ≡ x ∷ filter (ties below x) xs = sym (h x) ∙ ap (λ b. if b then x ∷ filter (ties below x) xs else filter (ties below x) xs) (tied-itself x) in cc
  one-order (x ∷ xs) (y ∷ ys) c d h =
      let t = first-tied x y xs ys c d h in
      let own : filter (ties below x) (x ∷ xs) ≡ x ∷ filter (ties below x) xs = ap (λ b. if b then x ∷ filter (ties below x) xs else filter (ties below x) xs) (tied-itself x) in
      let other : filter (ties below x) (y ∷ ys) ≡ y ∷ filter (ties below x) ys = ap (λ b. if b then y ∷ filter (ties below x) ys else filter (ties below x) ys) t in
      let both : x ∷ filter (ties below x) xs ≡ y ∷ filter (ties below x) ys = sym own ∙ h x ∙ other in
      let q : x ≡ y = cc in
      ap (λ l. x ∷ l) (one-order xs ys c.1 d.1 (λ z. drop-tied z x xs ys (h z ∙ ap (λ w. filter (ties below z) (w ∷ ys)) (sym q)))) ∙ ap (λ w. w ∷ ys) q

  -- ---- what a sort gives

  -- The list that a stable sort by rows gives.
  pub sorted-by-rows : (xs ys : List A) → Climbs ys → IsStableBy below xs ys → ys ≡ by_rows f xs
  sorted-by-rows xs ys c s = one-order ys (by_rows f xs) c (by-rows-climb xs) (λ z. s z ∙ sym (by-rows-ties z xs))
