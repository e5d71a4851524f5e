-- Two lists are one where they rise and where items that tie stand in the same order. So a stable sort has one answer, and
-- it is what putting the items in one after another gives.
use Rattle.std.proofs.Common.{◌≡◌, refl, sym, ap, ◌∙◌, suc, ◌+◌, Bool, true, false, not, cond, List, [], ◌∷◌, arith}
use Rattle.std.specs.Prelude.{slice_index_or}
use Rattle.std.specs.List.{filter}
use Rattle.std.specs.List.Sorted.{IsSortedBy, IsStableBy, ties}
use Rattle.std.specs.Cmp.{IsStrictWeakOrder}
use Rattle.ess_semantics.proofs.Tests.{and-left, and-right, and-both, not-true}

module _ {A : Type 0} (lt : A → A → Bool) (o : IsStrictWeakOrder lt) where
  -- ---- ties

  lt-itself : (x : A) → lt x x ≡ false
  lt-itself x = go (lt x x) refl
    where
      go : (b : Bool) → lt x x ≡ b → lt x x ≡ false
      go true e = o.one_way x x e
      go false e = e

  ties-forward : (x y : A) → ties lt x y ≡ true → lt x y ≡ false
  ties-forward x y t = not-true (lt x y) (and-left (not (lt x y)) (not (lt y x)) t)

  ties-back : (x y : A) → ties lt x y ≡ true → lt y x ≡ false
  ties-back x y t = not-true (lt y x) (and-right (not (lt x y)) (not (lt y x)) t)

  tie : (x y : A) → lt x y ≡ false → lt y x ≡ false → ties lt x y ≡ true
  tie x y p q = and-both (not (lt x y)) (not (lt y x)) (ap not p) (ap not q)

  -- the items that tie with a first item
  with-tied : (x y : A) (ys : List A) → ties lt x y ≡ true → filter (ties lt x) (y ∷ ys) ≡ y ∷ filter (ties lt x) ys
  with-tied x y ys t = ap (λ b. cond b (y ∷ filter (ties lt x) ys) (filter (ties lt x) ys)) t

  -- ---- rising lists

  -- no item is below x
  abbrev pub Under : A → List A → Type 0
  Under x [] = Unit {0}
  Under x (y ∷ ys) = (lt y x ≡ false) × Under x ys

  abbrev pub Rising : List A → Type 0
  Rising [] = Unit {0}
  Rising (x ∷ xs) = Under x xs × Rising xs

  under-on : (x y : A) (zs : List A) → lt y x ≡ false → Under y zs → Under x zs
  under-on x y [] h u = tt
  under-on x y (z ∷ zs) h u = (o.chain z y x u.0 h, under-on x y zs h u.1)

  sorted-more : (x y : A) (ys : List A) → lt y x ≡ false → Rising (y ∷ ys) → Rising (x ∷ y ∷ ys)
  sorted-more x y ys h r = ((h, under-on x y ys h r.0), r)

  sorted-rises : (xs : List A) → IsSortedBy lt xs → Rising xs
  sorted-rises [] h = tt
  sorted-rises (x ∷ []) h = (tt, tt)
  sorted-rises (x ∷ y ∷ ys) h =
      sorted-more x y ys (h 0 x (omega arith) (omega arith))
      (sorted-rises (y ∷ ys) (λ k d a b. let at : suc (k + 1) ≡ suc k + 1 = omega arith in
      ap (λ j. lt (slice_index_or (x ∷ y ∷ ys) j d) (slice_index_or (y ∷ ys) k d)) at ∙ h (suc k) d (omega arith) (omega arith)))

  -- ---- two rising lists in which ties stand in the same order

  -- an item that ties with y isn't below z, where z is the first of a rising list
  found-above : (z y : A) (ws : List A) (x : A) (rest : List A) → Under z ws → filter (ties lt y) ws ≡ x ∷ rest → lt y z ≡ false
  found-above z y [] x rest u e = cc
  found-above z y (w ∷ ws) x rest u e = go (ties lt y w) refl e (found-above z y ws x rest u.1)
    where
      go : (b : Bool) → ties lt y w ≡ b → cond b (w ∷ filter (ties lt y) ws) (filter (ties lt y) ws) ≡ x ∷ rest → (filter (ties lt y) ws ≡ x ∷ rest → lt y z ≡ false) → lt y z ≡ false
      go true t e ih = o.chain y w z (ties-forward y w t) u.0
      go false t e ih = ih e

  abbrev Alike : List A → List A → Type 0
  Alike xs ys = (x : A) → filter (ties lt x) xs ≡ filter (ties lt x) ys

  first-ties : (y z : A) (ys zs : List A) → Under y ys → Under z zs → Alike (y ∷ ys) (z ∷ zs) → ties lt y z ≡ true
  first-ties y z ys zs p q h =
      tie y z
      (found-above z y (z ∷ zs) y (filter (ties lt y) ys) (lt-itself z, q) (sym (h y) ∙ with-tied y y ys (tie y y (lt-itself y) (lt-itself y))))
      (found-above y z (y ∷ ys) z (filter (ties lt z) zs) (lt-itself y, p) (h z ∙ with-tied z z zs (tie z z (lt-itself z) (lt-itself z))))

  same-first : (y z : A) (ys zs : List A) → ties lt y z ≡ true → Alike (y ∷ ys) (z ∷ zs) → y ≡ z
  same-first y z ys zs t h =
      let e : y ∷ filter (ties lt y) ys ≡ z ∷ filter (ties lt y) zs = sym (with-tied y y ys (tie y y (lt-itself y) (lt-itself y))) ∙ h y ∙ with-tied y z zs t in
      cc

  alike-rest : (y : A) (ys zs : List A) → Alike (y ∷ ys) (y ∷ zs) → Alike ys zs
  alike-rest y ys zs h x = go (ties lt x y) (h x)
    where
      go : (b : Bool) → cond b (y ∷ filter (ties lt x) ys) (filter (ties lt x) ys) ≡ cond b (y ∷ filter (ties lt x) zs) (filter (ties lt x) zs) → filter (ties lt x) ys ≡ filter (ties lt x) zs
      go true e = cc
      go false e = e

  one-list : (ys zs : List A) → Rising ys → Rising zs → Alike ys zs → ys ≡ zs
  one-list [] [] p q h = refl
  one-list [] (z ∷ zs) p q h = let e : [] ≡ z ∷ filter (ties lt z) zs = h z ∙ with-tied z z zs (tie z z (lt-itself z) (lt-itself z)) in cc
  one-list (y ∷ ys) [] p q h = let e : [] ≡ y ∷ filter (ties lt y) ys = sym (h y) ∙ with-tied y y ys (tie y y (lt-itself y) (lt-itself y)) in cc
  one-list (y ∷ ys) (z ∷ zs) p q h =
      let e : y ≡ z = same-first y z ys zs (first-ties y z ys zs p.0 q.0 h) h in
      let rest : ys ≡ zs = one-list ys zs p.1 q.1 (alike-rest y ys zs (λ x. h x ∙ ap (λ w. filter (ties lt x) (w ∷ zs)) (sym e))) in
      ap (λ w. w ∷ ys) e ∙ ap (λ ws. z ∷ ws) rest

  -- ---- items put in one after another

  abbrev pub put : A → List A → List A
  put x [] = x ∷ []
  put x (y ∷ ys) = cond (lt y x) (y ∷ put x ys) (x ∷ y ∷ ys)

  abbrev pub put_all : List A → List A
  put_all [] = []
  put_all (x ∷ xs) = put x (put_all xs)

  under-put : (w x : A) (ys : List A) → lt x w ≡ false → Under w ys → Under w (put x ys)
  under-put w x [] h u = (h, tt)
  under-put w x (y ∷ ys) h u = go (lt y x) (under-put w x ys h u.1)
    where
      go : (b : Bool) → Under w (put x ys) → Under w (cond b (y ∷ put x ys) (x ∷ y ∷ ys))
      go true v = (u.0, v)
      go false v = (h, u)

  put-rises : (x : A) (ys : List A) → Rising ys → Rising (put x ys)
  put-rises x [] r = (tt, tt)
  put-rises x (y ∷ ys) r = go (lt y x) refl (put-rises x ys r.1)
    where
      go : (b : Bool) → lt y x ≡ b → Rising (put x ys) → Rising (cond b (y ∷ put x ys) (x ∷ y ∷ ys))
      go true e ih = (under-put y x ys (o.one_way y x e) r.0, ih)
      go false e ih = sorted-more x y ys e r

  -- two items that don't tie, under a test
  exchanged : (x y z : A) (zs : List A) → lt z y ≡ true → filter (ties lt x) (z ∷ y ∷ zs) ≡ filter (ties lt x) (y ∷ z ∷ zs)
  exchanged x y z zs h = go (ties lt x z) (ties lt x y) refl refl
    where
      go : (a b : Bool) → ties lt x z ≡ a → ties lt x y ≡ b
          → cond a (z ∷ cond b (y ∷ filter (ties lt x) zs) (filter (ties lt x) zs)) (cond b (y ∷ filter (ties lt x) zs) (filter (ties lt x) zs))
          ≡ cond b (y ∷ cond a (z ∷ filter (ties lt x) zs) (filter (ties lt x) zs)) (cond a (z ∷ filter (ties lt x) zs) (filter (ties lt x) zs))
      go true true p q = let e : true ≡ false = sym h ∙ o.chain z x y (ties-back x z p) (ties-forward x y q) in cc
      go true false p q = refl
      go false b p q = refl

  put-alike : (x y : A) (ys : List A) → filter (ties lt x) (put y ys) ≡ filter (ties lt x) (y ∷ ys)
  put-alike x y [] = refl
  put-alike x y (z ∷ zs) = go (lt z y) refl (put-alike x y zs)
    where
      go : (b : Bool) → lt z y ≡ b → filter (ties lt x) (put y zs) ≡ filter (ties lt x) (y ∷ zs) → filter (ties lt x) (cond b (z ∷ put y zs) (y ∷ z ∷ zs)) ≡ filter (ties lt x) (y ∷ z ∷ zs)
      go true e ih = ap (λ ws. cond (ties lt x z) (z ∷ ws) ws) ih ∙ exchanged x y z zs e
      go false e ih = refl

  put_all-rises : (xs : List A) → Rising (put_all xs)
  put_all-rises [] = tt
  put_all-rises (x ∷ xs) = put-rises x (put_all xs) (put_all-rises xs)

  put_all-alike : (xs : List A) → Alike (put_all xs) xs
  put_all-alike [] x = refl
  put_all-alike (y ∷ ys) x = put-alike x y (put_all ys) ∙ ap (λ ws. cond (ties lt x y) (y ∷ ws) ws) (put_all-alike ys x)

  pub stable-sort : (xs ys : List A) → IsSortedBy lt ys → IsStableBy lt xs ys → ys ≡ put_all xs
  stable-sort xs ys s t = one-list ys (put_all xs) (sorted-rises ys s) (put_all-rises xs) (λ x. t x ∙ sym (put_all-alike xs x))
