-- Lists that rise with repeats: two with the same items equally often are one. So a multiset has one canonical list.
use Rattle.std.proofs.Common.{◌≡◌, refl, sym, ap, ◌∙◌, ℕ, zero, suc, Bool, true, false, ◌&&◌, ◌||◌, not, if◌then◌else◌, List, [], ◌∷◌, length, arith}
use Rattle.std.specs.List.{list_all}
use Rattle.std.specs.Cmp.{IsTotalOrder}
use Rattle.std.specs.Ordering.{ordering_reverse, is_eq, is_lt, is_le}
use Rattle.std.proofs.lemmas.Cmp.{tied_itself}
use Rattle.std.proofs.lemmas.Map.Lookups.{CmpEqualImpliesEq}
use Rattle.std.specs.declared.cmp.Ordering.{Ordering}
use Rattle.std.specs.declared.cmp.Ordering.TheVariants.{Less, Equal, Greater}
use Rattle.ess_semantics.specs.Values.{Value}
use Rattle.ess_semantics.specs.Order.{order, same, below}
use Rattle.ess_semantics.specs.Collections.{holds, count, add, add_by, sorted, rises_weakly}
use Rattle.ess_semantics.proofs.Tests.{and-left, and-right, and-both}
use Rattle.ess_semantics.proofs.Orders.{order_total, order_exact, equal-of}

-- ---- over any order

module _ {A : Type 0} {c : A → A → Ordering} (o : IsTotalOrder c) (exact : CmpEqualImpliesEq c) where
  -- how often x is in the list
  abbrev pub times : List A → A → ℕ
  times [] x = 0
  times (y ∷ ys) x = if is_eq (c y x) then suc (times ys x) else times ys x

  -- x isn't above any item
  abbrev pub Under : A → List A → Type 0
  Under x [] = Unit {0}
  Under x (y ∷ ys) = (is_le (c x y) ≡ true) × Under x ys

  abbrev pub WeaklyRising : List A → Type 0
  WeaklyRising [] = Unit {0}
  WeaklyRising (x ∷ xs) = Under x xs × WeaklyRising xs

  le-itself : (x : A) → is_le (c x x) ≡ true
  le-itself x = ap is_le (tied_itself o x)

  pub le-on : (x y z : A) → is_le (c x y) ≡ true → is_le (c y z) ≡ true → is_le (c x z) ≡ true
  le-on x y z p q = go (c x y) (c y z) refl refl p q
    where
      go : (s t : Ordering) → c x y ≡ s → c y z ≡ t → is_le s ≡ true → is_le t ≡ true → is_le (c x z) ≡ true
      go Less Less a b p q = ap is_le (o.trans x y z a b)
      go Less Equal a b p q = ap is_le (ap (c x) (sym (exact y z b)) ∙ a)
      go Equal t a b p q = ap is_le (ap (λ w. c w z) (exact x y a) ∙ b) ∙ q
      go Less Greater a b p q = cc
      go Greater t a b p q = cc

  pub under-on : (x y : A) (zs : List A) → is_le (c x y) ≡ true → Under y zs → Under x zs
  under-on x y [] l u = tt
  under-on x y (z ∷ zs) l u = (le-on x y z l u.0, under-on x y zs l u.1)

  times-itself : (x : A) (xs : List A) → times (x ∷ xs) x ≡ suc (times xs x)
  times-itself x xs = ap (λ b. if b then suc (times xs x) else times xs x) (ap is_eq (tied_itself o x))

  -- x isn't above an item that is there
  under-times : (x y : A) (ys : List A) (n : ℕ) → Under x ys → times ys y ≡ suc n → is_le (c x y) ≡ true
  under-times x y [] n u e = absurd (omega arith)
  under-times x y (z ∷ zs) n u e = go (is_eq (c z y)) refl e (λ m q. under-times x y zs m u.1 q)
    where
      go : (b : Bool) → is_eq (c z y) ≡ b → (if b then suc (times zs y) else times zs y) ≡ suc n → ((m : ℕ) → times zs y ≡ suc m → is_le (c x y) ≡ true) → is_le (c x y) ≡ true
      go true q e ih = ap (λ w. is_le (c x w)) (sym (exact z y (equal-of (c z y) q))) ∙ u.0
      go false q e ih = ih n e

  both-le : (x y : A) → is_le (c x y) ≡ true → is_le (c y x) ≡ true → x ≡ y
  both-le x y p q = go (c x y) refl p (ap is_le (sym (o.antisymm y x)) ∙ q)
    where
      go : (r : Ordering) → c x y ≡ r → is_le r ≡ true → is_le (ordering_reverse (c x y)) ≡ true → x ≡ y
      go Less e p q = let z : is_le (ordering_reverse Less) ≡ true = ap (λ r. is_le (ordering_reverse r)) (sym e) ∙ q in cc
      go Equal e p q = exact x y e
      go Greater e p q = cc

  -- Two rising lists with the same items equally often are one.
  pub one-bag : (xs ys : List A) → WeaklyRising xs → WeaklyRising ys → ((x : A) → times xs x ≡ times ys x) → xs ≡ ys
  one-bag [] [] p q h = refl
  one-bag [] (y ∷ ys) p q h = let e = h y ∙ times-itself y ys in absurd (omega arith)
  one-bag (x ∷ xs) [] p q h = let e = sym (h x) ∙ times-itself x xs in absurd (omega arith)
  one-bag (x ∷ xs) (y ∷ ys) p q h =
      let e : x ≡ y = both-le x y (heads x y xs p.0 (times ys y) (h y ∙ times-itself y ys)) (heads y x ys q.0 (times xs x) (sym (h x) ∙ times-itself x xs)) in
      let t = one-bag xs ys p.1 q.1 (λ w. less w e) in
      ap (λ z. z ∷ xs) e ∙ ap (λ l. y ∷ l) t
    where
      -- the first item isn't above one that is there
      heads : (x y : A) (xs : List A) → Under x xs → (n : ℕ) → times (x ∷ xs) y ≡ suc n → is_le (c x y) ≡ true
      heads x y xs u n e = under-times x y (x ∷ xs) n (le-itself x, u) e

      less : (w : A) → x ≡ y → times xs w ≡ times ys w
      less w e = go (is_eq (c y w)) (ap (λ z. if is_eq (c z w) then suc (times xs w) else times xs w) (sym e) ∙ h w)
        where
          go : (b : Bool) → (if b then suc (times xs w) else times xs w) ≡ (if b then suc (times ys w) else times ys w) → times xs w ≡ times ys w
          go true e = omega arith
          go false e = e

-- ---- values

le-not : (p q : Ordering) → p ≡ ordering_reverse q → is_le p ≡ not (is_lt q)
le-not p Less e = ap is_le e
le-not p Equal e = ap is_le e
le-not p Greater e = ap is_le e

pub weakly-of : (xs : List Value) → rises_weakly xs ≡ true → WeaklyRising order_total order_exact xs
weakly-of [] h = tt
weakly-of (x ∷ []) h = (tt, tt)
weakly-of (x ∷ y ∷ ys) h =
    let r = weakly-of (y ∷ ys) (and-right (not (below y x)) (rises_weakly (y ∷ ys)) h) in
    let l : is_le (order x y) ≡ true = le-not (order x y) (order y x) (order_total.antisymm x y) ∙ and-left (not (below y x)) (rises_weakly (y ∷ ys)) h in
    ((l, under-on order_total order_exact x y ys l r.0), r)

-- Two rising lists of values with the same items equally often are one.
pub one-sorted-bag : (xs ys : List Value) → rises_weakly xs ≡ true → rises_weakly ys ≡ true → ((v : Value) → count xs v ≡ count ys v) → xs ≡ ys
one-sorted-bag xs ys p q h = one-bag order_total order_exact xs ys (weakly-of xs p) (weakly-of ys q) h

-- ---- the rising list of items

pub count-add : (v w : Value) (xs : List Value) → count (add v xs) w ≡ (if same v w then suc (count xs w) else count xs w)
count-add v w [] = refl
count-add v w (x ∷ xs) = go (order v x) (count-add v w xs)
  where
    swap : (a b : Bool) (n m : ℕ) → m ≡ (if a then suc n else n) → (if b then suc m else m) ≡ (if a then suc (if b then suc n else n) else (if b then suc n else n))
    swap true true n m e = ap suc e
    swap true false n m e = e
    swap false true n m e = ap suc e
    swap false false n m e = e

    go : (p : Ordering) → count (add v xs) w ≡ (if same v w then suc (count xs w) else count xs w) → count (add_by p v x xs (add v xs)) w ≡ (if same v w then suc (count (x ∷ xs) w) else count (x ∷ xs) w)
    go Less ih = refl
    go Equal ih = refl
    go Greater ih = swap (same v w) (same x w) (count xs w) (count (add v xs) w) ih

-- A multiset's canonical list has exactly the given members, equally often.
pub count-sorted : (xs : List Value) (w : Value) → count (sorted xs) w ≡ count xs w
count-sorted [] w = refl
count-sorted (x ∷ xs) w = count-add x w (sorted xs) ∙ ap (λ n. if same x w then suc n else n) (count-sorted xs w)

not-below : (v x : Value) (p : Ordering) → order v x ≡ p → is_le p ≡ true → not (below x v) ≡ true
not-below v x p e h = sym (le-not (order v x) (order x v) (order_total.antisymm v x)) ∙ ap is_le e ∙ h

add-rises : (v : Value) (xs : List Value) → rises_weakly xs ≡ true → rises_weakly (add v xs) ≡ true
add-rises v [] h = refl
add-rises v (x ∷ []) h = go (order v x) refl
  where
    go : (p : Ordering) → order v x ≡ p → rises_weakly (add_by p v x [] (v ∷ [])) ≡ true
    go Less q = ap (λ b. b && true) (not-below v x Less q refl)
    go Equal q = ap (λ b. b && true) (not-below v x Equal q refl)
    go Greater q = ap (λ b. b && true) (not-below x v Less (order_total.antisymm x v ∙ ap ordering_reverse q) refl)
add-rises v (x ∷ y ∷ ys) h = go (order v x) refl (add-rises v (y ∷ ys) (and-right (not (below y x)) (rises_weakly (y ∷ ys)) h))
  where
    behind-first : (p : Ordering) → order v y ≡ p → not (below v x) ≡ true → rises_weakly (add_by p v y ys (add v ys)) ≡ true → rises_weakly (x ∷ add_by p v y ys (add v ys)) ≡ true
    behind-first Less q a r = and-both (not (below v x)) (rises_weakly (v ∷ y ∷ ys)) a r
    behind-first Equal q a r = and-both (not (below v x)) (rises_weakly (v ∷ y ∷ ys)) a r
    behind-first Greater q a r = first (add v ys) r
      where
        first : (zs : List Value) → rises_weakly (y ∷ zs) ≡ true → rises_weakly (x ∷ y ∷ zs) ≡ true
        first zs r = and-both (not (below y x)) (rises_weakly (y ∷ zs)) (and-left (not (below y x)) (rises_weakly (y ∷ ys)) h) r

    go : (p : Ordering) → order v x ≡ p → rises_weakly (add v (y ∷ ys)) ≡ true → rises_weakly (add_by p v x (y ∷ ys) (add v (y ∷ ys))) ≡ true
    go Less q r = and-both (not (below x v)) (rises_weakly (x ∷ y ∷ ys)) (not-below v x Less q refl) h
    go Equal q r = and-both (not (below x v)) (rises_weakly (x ∷ y ∷ ys)) (not-below v x Equal q refl) h
    go Greater q r = behind-first (order v y) refl (not-below x v Less (order_total.antisymm x v ∙ ap ordering_reverse q) refl) r

pub sorted-rises : (xs : List Value) → rises_weakly (sorted xs) ≡ true
sorted-rises [] = refl
sorted-rises (x ∷ xs) = add-rises x (sorted xs) (sorted-rises xs)

pub sorted-itself : (xs : List Value) → rises_weakly xs ≡ true → sorted xs ≡ xs
sorted-itself xs h = one-sorted-bag (sorted xs) xs (sorted-rises xs) h (count-sorted xs)

-- ---- sorting keeps what holds of all items, and their number

add-length : (v : Value) (xs : List Value) → length (add v xs) ≡ suc (length xs)
add-length v [] = refl
add-length v (x ∷ xs) = go (order v x) (add-length v xs)
  where
    go : (p : Ordering) → length (add v xs) ≡ suc (length xs) → length (add_by p v x xs (add v xs)) ≡ suc (suc (length xs))
    go Less ih = refl
    go Equal ih = refl
    go Greater ih = ap suc ih

pub sorted-length : (xs : List Value) → length (sorted xs) ≡ length xs
sorted-length [] = refl
sorted-length (x ∷ xs) = add-length x (sorted xs) ∙ ap suc (sorted-length xs)

add-all : (f : Value → Bool) (v : Value) (xs : List Value) → list_all f (add v xs) ≡ f v && list_all f xs
add-all f v [] = refl
add-all f v (x ∷ xs) = go (order v x) (add-all f v xs)
  where
    swap : (a b r : Bool) → a && (b && r) ≡ b && (a && r)
    swap true true r = refl
    swap true false r = refl
    swap false true r = refl
    swap false false r = refl

    go : (p : Ordering) → list_all f (add v xs) ≡ f v && list_all f xs → list_all f (add_by p v x xs (add v xs)) ≡ f v && (f x && list_all f xs)
    go Less ih = refl
    go Equal ih = refl
    go Greater ih = ap (λ b. f x && b) ih ∙ swap (f x) (f v) (list_all f xs)

pub sorted-all : (f : Value → Bool) (xs : List Value) → list_all f (sorted xs) ≡ list_all f xs
sorted-all f [] = refl
sorted-all f (x ∷ xs) = add-all f x (sorted xs) ∙ ap (λ b. f x && b) (sorted-all f xs)

-- An item is in the list exactly where it is there at least once.
pub count-holds : (xs : List Value) (v : Value) (n : ℕ) → count xs v ≡ suc n → holds xs v ≡ true
count-holds [] v n e = absurd (omega arith)
count-holds (x ∷ xs) v n e = go (same x v) e (λ q. count-holds xs v n q)
  where
    go : (b : Bool) → (if b then suc (count xs v) else count xs v) ≡ suc n → (count xs v ≡ suc n → holds xs v ≡ true) → b || holds xs v ≡ true
    go true e ih = refl
    go false e ih = ih e

pub holds-count : (xs : List Value) (v : Value) → count xs v ≡ 0 → holds xs v ≡ false
holds-count [] v e = refl
holds-count (x ∷ xs) v e = go (same x v) e (λ q. holds-count xs v q)
  where
    go : (b : Bool) → (if b then suc (count xs v) else count xs v) ≡ 0 → (count xs v ≡ 0 → holds xs v ≡ false) → b || holds xs v ≡ false
    go true e ih = absurd (omega arith)
    go false e ih = ih e

-- Lists with the same items equally often have the same members.
pub same-members : (xs ys : List Value) → ((v : Value) → count xs v ≡ count ys v) → (v : Value) → holds xs v ≡ holds ys v
same-members xs ys h v = go (count xs v) refl
  where
    go : (n : ℕ) → count xs v ≡ n → holds xs v ≡ holds ys v
    go zero e = holds-count xs v e ∙ sym (holds-count ys v (sym (h v) ∙ e))
    go (suc n) e = count-holds xs v n e ∙ sym (count-holds ys v n (sym (h v) ∙ e))
