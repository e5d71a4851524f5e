-- Items that are repeated: they rise, tell how often each is repeated, and meet what attributes ask of numbers of times.
use Rattle.std.proofs.Common.{◌≡◌, refl, sym, ap, ◌∙◌, ℕ, zero, suc, ◌+◌, Bool, true, false, ◌&&◌, ◌||◌, not, if◌then◌else◌, List, [], ◌∷◌, ◌++◌, map, length, replicate, ℤ, pos, int_le, arith}
use Rattle.std.specs.List.{list_all}
use Rattle.std.specs.Ordering.{ordering_reverse, is_lt, is_le}
use Rattle.std.specs.declared.cmp.Ordering.{Ordering}
use Rattle.std.specs.declared.cmp.Ordering.TheVariants.{Less, Equal, Greater}
use Rattle.std.proofs.lemmas.Cmp.{tied_itself}
use Rattle.ess_semantics.specs.declared.words.Key.{Key}
use Rattle.ess_semantics.specs.Values.{Value}
use Rattle.ess_semantics.specs.Order.{order, same, same_int, below}
use Rattle.ess_semantics.specs.Collections.{holds, count, rises_weakly}
use Rattle.ess_semantics.specs.Domains.{Attribute, numbered, flagged}
use Rattle.ess_semantics.specs.Attributes.{each_number_holds, attribute_holds, size_holds, occurs_holds, set_attributes_hold, mset_attributes_hold}
use Rattle.ess_semantics.specs.Layers.{total, each_repeated}
use Rattle.ess_semantics.specs.MultisetLayers.{times_hold, counts_hold}
use Rattle.ess_semantics.proofs.Tests.{and-left, and-right, and-both}
use Rattle.ess_semantics.proofs.Orders.{order_total, order_exact, same-itself, same-equal, same_int-equal}
use Rattle.ess_semantics.proofs.Sorting.{Below, Rising, below-has, holds-has, not-itself, holds-all, Distinct}
use Rattle.ess_semantics.proofs.Multisets.{Under, WeaklyRising, holds-count}

-- ---- attributes from numbers of times

pub list-both : {A : Type 0} (f g h : A → Bool) (xs : List A) → ((x : A) → f x ≡ true → g x ≡ true → h x ≡ true) → list_all f xs ≡ true → list_all g xs ≡ true → list_all h xs ≡ true
list-both f g h [] k p q = refl
list-both f g h (x ∷ xs) k p q =
    and-both (h x) (list_all h xs) (k x (and-left (f x) (list_all f xs) p) (and-left (g x) (list_all g xs) q)) (list-both f g h xs k (and-right (f x) (list_all f xs) p) (and-right (g x) (list_all g xs) q))

-- a number of times above 0 that an attribute allows
times-min : (z : ℤ) (m : ℕ) → times_hold Key.MinOccur z (pos (suc m)) ≡ true → int_le z (pos (suc m)) ≡ true
times-min z m h = go (same_int (pos (suc m)) (pos 0)) refl h
  where
    go : (b : Bool) → same_int (pos (suc m)) (pos 0) ≡ b → b || int_le z (pos (suc m)) ≡ true → int_le z (pos (suc m)) ≡ true
    go true q h = let e : pos (suc m) ≡ pos 0 = same_int-equal (pos (suc m)) (pos 0) q in let e' : suc m ≡ 0 = cc in absurd (omega arith)
    go false q h = h

times-max : (z : ℤ) (m : ℕ) → times_hold Key.MaxOccur z (pos (suc m)) ≡ true → int_le (pos (suc m)) z ≡ true
times-max z m h = go (same_int (pos (suc m)) (pos 0)) refl h
  where
    go : (b : Bool) → same_int (pos (suc m)) (pos 0) ≡ b → b || int_le (pos (suc m)) z ≡ true → int_le (pos (suc m)) z ≡ true
    go true q h = let e : pos (suc m) ≡ pos 0 = same_int-equal (pos (suc m)) (pos 0) q in let e' : suc m ≡ 0 = cc in absurd (omega arith)
    go false q h = h

-- a property of the count of each item
each-count : (f : ℕ → Bool) (ys : List Value) → ((v : Value) (m : ℕ) → count ys v ≡ suc m → f (suc m) ≡ true) → list_all (λ v. f (count ys v)) ys ≡ true
each-count f ys h = holds-all (λ v. f (count ys v)) ys (λ v e. go v (count ys v) refl e)
  where
    go : (v : Value) (n : ℕ) → count ys v ≡ n → holds ys v ≡ true → f (count ys v) ≡ true
    go v zero q e = let z : false ≡ true = sym (holds-count ys v q) ∙ e in cc
    go v (suc m) q e = ap f q ∙ h v m q

occurs-of : (k : Key) (z : ℤ) (ys : List Value) → ((v : Value) (m : ℕ) → count ys v ≡ suc m → times_hold k z (pos (suc m)) ≡ true) → occurs_holds k z ys ≡ true
occurs-of Key.MinOccur z ys h = each-count (λ n. int_le z (pos n)) ys (λ v m e. times-min z m (h v m e))
occurs-of Key.MaxOccur z ys h = each-count (λ n. int_le (pos n) z) ys (λ v m e. times-max z m (h v m e))
occurs-of _ z ys h = refl

-- What the attributes ask of numbers of times they ask of the multiset.
pub attributes-of : (ks : List Attribute) (ys : List Value) (ns : List ℤ) → length ys ≡ total ns →
    ((k : Key) (z : ℤ) → list_all (times_hold k z) ns ≡ true → (v : Value) (m : ℕ) → count ys v ≡ suc m → times_hold k z (pos (suc m)) ≡ true) → counts_hold ks ns ≡ true → mset_attributes_hold ks ys ≡ true
attributes-of ks ys ns l h c =
    list-both (attribute_holds (λ k z. size_holds k z (total ns)) (λ k. true)) (attribute_holds (λ k z. list_all (times_hold k z) ns) (λ k. true)) (attribute_holds (λ k z. size_holds k z (length ys) && occurs_holds k z ys) (λ k. true)) ks each
    (and-left (set_attributes_hold ks (total ns)) (each_number_holds ks (λ k z. list_all (times_hold k z) ns)) c) (and-right (set_attributes_hold ks (total ns)) (each_number_holds ks (λ k z. list_all (times_hold k z) ns)) c)
  where
    each : (a : Attribute) → attribute_holds (λ k z. size_holds k z (total ns)) (λ k. true) a ≡ true → attribute_holds (λ k z. list_all (times_hold k z) ns) (λ k. true) a ≡ true →
        attribute_holds (λ k z. size_holds k z (length ys) && occurs_holds k z ys) (λ k. true) a ≡ true
    each (numbered k z) p q = and-both (size_holds k z (length ys)) (occurs_holds k z ys) (ap (size_holds k z) l ∙ p) (occurs-of k z ys (h k z q))
    each (flagged k) p q = refl

-- ---- items that are repeated

pub count-append : (xs ys : List Value) (w : Value) → count (xs ++ ys) w ≡ count xs w + count ys w
count-append [] ys w = omega arith
count-append (x ∷ xs) ys w = go (same x w) (count-append xs ys w)
  where
    go : (b : Bool) → count (xs ++ ys) w ≡ count xs w + count ys w → (if b then suc (count (xs ++ ys) w) else count (xs ++ ys) w) ≡ (if b then suc (count xs w) else count xs w) + count ys w
    go true e = omega arith
    go false e = e

pub count-replicate : (n : ℕ) (x w : Value) → count (replicate n x) w ≡ (if same x w then n else 0)
count-replicate zero x w = go (same x w)
  where
    go : (b : Bool) → count [] w ≡ (if b then 0 else 0)
    go true = refl
    go false = refl
count-replicate (suc n) x w = go (same x w) (count-replicate n x w)
  where
    go : (b : Bool) → count (replicate n x) w ≡ (if b then n else 0) → (if b then suc (count (replicate n x) w) else count (replicate n x) w) ≡ (if b then suc n else 0)
    go true e = ap suc e
    go false e = e

pub sorted-distinct : (xs : List Value) → Rising order_total xs → Distinct xs
sorted-distinct [] r = tt
sorted-distinct (x ∷ xs) r = (go (holds xs x) refl, sorted-distinct xs r.1)
  where
    go : (b : Bool) → holds xs x ≡ b → holds xs x ≡ false
    go false e = e
    go true e = absurd (not-itself order_total x (below-has order_total x x xs r.0 (holds-has xs x e)))

-- an item that isn't in the list isn't repeated
none-repeated : (ns : List ℕ) (xs : List Value) (w : Value) → holds xs w ≡ false → count (each_repeated ns xs) w ≡ 0
none-repeated [] xs w h = refl
none-repeated (n ∷ ns) [] w h = refl
none-repeated (n ∷ ns) (x ∷ xs) w h = go (same x w) refl h (λ q. none-repeated ns xs w q)
  where
    go : (b : Bool) → same x w ≡ b → b || holds xs w ≡ false → (holds xs w ≡ false → count (each_repeated ns xs) w ≡ 0) → count (replicate n x ++ each_repeated ns xs) w ≡ 0
    go true q h ih = cc
    go false q h ih =
        let a : count (replicate n x) w ≡ 0 = count-replicate n x w ∙ ap (λ b. if b then n else 0) q in
        let b : count (each_repeated ns xs) w ≡ 0 = ih h in
        let c : count (replicate n x ++ each_repeated ns xs) w ≡ count (replicate n x) w + count (each_repeated ns xs) w = count-append (replicate n x) (each_repeated ns xs) w in omega arith

-- how often the first item is repeated
pub first-repeated : (n : ℕ) (ns : List ℕ) (x : Value) (xs : List Value) → holds xs x ≡ false → count (each_repeated (n ∷ ns) (x ∷ xs)) x ≡ n
first-repeated n ns x xs h =
    let a : count (replicate n x) x ≡ n = count-replicate n x x ∙ ap (λ b. if b then n else 0) (same-itself x) in
    let b : count (each_repeated ns xs) x ≡ 0 = none-repeated ns xs x h in
    let c : count (replicate n x ++ each_repeated ns xs) x ≡ count (replicate n x) x + count (each_repeated ns xs) x = count-append (replicate n x) (each_repeated ns xs) x in omega arith

append-cancel : (as' xs ys : List Value) → as' ++ xs ≡ as' ++ ys → xs ≡ ys
append-cancel [] xs ys e = e
append-cancel (a ∷ as') xs ys e = let e' : as' ++ xs ≡ as' ++ ys = cc in append-cancel as' xs ys e'

-- Repeated items that differ tell how often each is repeated.
pub repeated-once : (xs : List Value) → Distinct xs → (ns ms : List ℕ) → length ns ≡ length xs → length ms ≡ length xs → each_repeated ns xs ≡ each_repeated ms xs → ns ≡ ms
repeated-once [] d [] [] l m e = refl
repeated-once [] d (n ∷ ns) ms l m e = cc
repeated-once [] d [] (m' ∷ ms) l m e = cc
repeated-once (x ∷ xs) d [] ms l m e = cc
repeated-once (x ∷ xs) d (n ∷ ns) [] l m e = cc
repeated-once (x ∷ xs) d (n ∷ ns) (k ∷ ms) l m e =
    let l' : length ns ≡ length xs = cc in
    let m' : length ms ≡ length xs = cc in
    let nk : n ≡ k = sym (first-repeated n ns x xs d.0) ∙ ap (λ q. count q x) e ∙ first-repeated k ms x xs d.0 in
    let t = append-cancel (replicate n x) (each_repeated ns xs) (each_repeated ms xs) (e ∙ ap (λ j. replicate j x ++ each_repeated ms xs) (sym nk)) in
    ap (λ j. j ∷ ns) nk ∙ ap (λ q. k ∷ q) (repeated-once xs d.1 ns ms l' m' t)

-- ---- repeated items rise

under-append : (v : Value) (xs ys : List Value) → Under order_total order_exact v xs → Under order_total order_exact v ys → Under order_total order_exact v (xs ++ ys)
under-append v [] ys a b = b
under-append v (x ∷ xs) ys a b = (a.0, under-append v xs ys a.1 b)

le-self : (x : Value) → is_le (order x x) ≡ true
le-self x = ap is_le (tied_itself order_total x)

under-replicate : (v x : Value) (n : ℕ) → is_le (order v x) ≡ true → Under order_total order_exact v (replicate n x)
under-replicate v x zero h = tt
under-replicate v x (suc n) h = (h, under-replicate v x n h)

under-repeated : (v : Value) (ns : List ℕ) (xs : List Value) → Below order_total v xs → Under order_total order_exact v (each_repeated ns xs)
under-repeated v [] xs b = tt
under-repeated v (n ∷ ns) [] b = tt
under-repeated v (n ∷ ns) (x ∷ xs) b = under-append v (replicate n x) (each_repeated ns xs) (under-replicate v x n (ap is_le b.0)) (under-repeated v ns xs b.1)

pub repeated-weakly : (ns : List ℕ) (xs : List Value) → Rising order_total xs → WeaklyRising order_total order_exact (each_repeated ns xs)
repeated-weakly [] xs r = tt
repeated-weakly (n ∷ ns) [] r = tt
repeated-weakly (n ∷ ns) (x ∷ xs) r = go n (repeated-weakly ns xs r.1)
  where
    go : (n : ℕ) → WeaklyRising order_total order_exact (each_repeated ns xs) → WeaklyRising order_total order_exact (replicate n x ++ each_repeated ns xs)
    go zero h = h
    go (suc n) h = (under-append x (replicate n x) (each_repeated ns xs) (under-replicate x x n (le-self x)) (under-repeated x ns xs r.0), go n h)

not-below-of : (x y : Value) → is_le (order x y) ≡ true → not (below y x) ≡ true
not-below-of x y h = go (order x y) refl h
  where
    go : (p : Ordering) → order x y ≡ p → is_le p ≡ true → not (below y x) ≡ true
    go Less e h = ap (λ o. not (is_lt o)) (order_total.antisymm y x ∙ ap ordering_reverse e)
    go Equal e h = ap (λ o. not (is_lt o)) (order_total.antisymm y x ∙ ap ordering_reverse e)
    go Greater e h = cc

pub of-weakly : (xs : List Value) → WeaklyRising order_total order_exact xs → rises_weakly xs ≡ true
of-weakly [] r = refl
of-weakly (x ∷ []) r = refl
of-weakly (x ∷ y ∷ ys) r = and-both (not (below y x)) (rises_weakly (y ∷ ys)) (not-below-of x y r.0.0) (of-weakly (y ∷ ys) r.1)

pub all-repeated : (f : Value → Bool) (ns : List ℕ) (xs : List Value) → list_all f xs ≡ true → list_all f (each_repeated ns xs) ≡ true
all-repeated f [] xs h = refl
all-repeated f (n ∷ ns) [] h = refl
all-repeated f (n ∷ ns) (x ∷ xs) h = go n (all-repeated f ns xs (and-right (f x) (list_all f xs) h))
  where
    go : (n : ℕ) → list_all f (each_repeated ns xs) ≡ true → list_all f (replicate n x ++ each_repeated ns xs) ≡ true
    go zero r = r
    go (suc n) r = and-both (f x) (list_all f (replicate n x ++ each_repeated ns xs)) (and-left (f x) (list_all f xs) h) (go n r)

pub repeated-length : (ns : List ℕ) (xs : List Value) → length ns ≡ length xs → length (each_repeated ns xs) ≡ total (map pos ns)
repeated-length [] [] l = refl
repeated-length [] (x ∷ xs) l = cc
repeated-length (n ∷ ns) [] l = cc
repeated-length (n ∷ ns) (x ∷ xs) l = let l' : length ns ≡ length xs = cc in go n (repeated-length ns xs l')
  where
    go : (n : ℕ) → length (each_repeated ns xs) ≡ total (map pos ns) → length (replicate n x ++ each_repeated ns xs) ≡ n + total (map pos ns)
    go zero e = omega arith
    go (suc n) e = let r = go n e in omega arith

-- what is asked of each number of times is asked of each item that is there
pub repeated-times : (f : ℤ → Bool) (ns : List ℕ) (xs : List Value) → Distinct xs → list_all f (map pos ns) ≡ true → (v : Value) (m : ℕ) → count (each_repeated ns xs) v ≡ suc m → f (pos (suc m)) ≡ true
repeated-times f [] xs d h v m e = let z : 0 ≡ suc m = e in absurd (omega arith)
repeated-times f (n ∷ ns) [] d h v m e = let z : 0 ≡ suc m = e in absurd (omega arith)
repeated-times f (n ∷ ns) (x ∷ xs) d h v m e = go (same x v) refl (λ q. repeated-times f ns xs d.1 (and-right (f (pos n)) (list_all f (map pos ns)) h) v m q)
  where
    go : (b : Bool) → same x v ≡ b → (count (each_repeated ns xs) v ≡ suc m → f (pos (suc m)) ≡ true) → f (pos (suc m)) ≡ true
    go true q ih =
        let k : n ≡ suc m = sym (first-repeated n ns x xs d.0) ∙ ap (count (each_repeated (n ∷ ns) (x ∷ xs))) (same-equal x v q) ∙ e in
        ap (λ j. f (pos j)) (sym k) ∙ and-left (f (pos n)) (list_all f (map pos ns)) h
    go false q ih =
        let a : count (replicate n x) v ≡ 0 = count-replicate n x v ∙ ap (λ b. if b then n else 0) q in
        let c : count (replicate n x ++ each_repeated ns xs) v ≡ count (replicate n x) v + count (each_repeated ns xs) v = count-append (replicate n x) (each_repeated ns xs) v in
        ih (omega arith)
