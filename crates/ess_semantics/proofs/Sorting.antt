-- Lists that rise: two with the same items are one. So a set has one canonical list, and a multiset has one.
use Rattle.std.proofs.Common.{◌≡◌, refl, sym, ap, ◌∙◌, subst, suc, Bool, true, false, ◌&&◌, ◌||◌, not, List, [], ◌∷◌, length, ◌⊎◌, inl, inr}
use Rattle.std.specs.List.{list_all, list_any}
use Rattle.std.specs.Cmp.{IsTotalOrder}
use Rattle.std.specs.Ordering.{ordering_reverse, is_lt}
use Rattle.std.proofs.lemmas.Cmp.{tied_itself}
use Rattle.std.specs.declared.cmp.Ordering.{Ordering}
use Rattle.std.specs.declared.cmp.Ordering.TheVariants.{Less, Equal, Greater}
use Rattle.ess_semantics.specs.Values.{Value, itself}
use Rattle.ess_semantics.specs.Order.{order, same, below}
use Rattle.ess_semantics.specs.Collections.{holds, place, place_by, sorted_once, rises, no_twice}
use Rattle.ess_semantics.proofs.Tests.{and-left, and-right, and-both, or-yes, or-left-no, or-right-no, not-true, both-ways}
use Rattle.ess_semantics.proofs.Orders.{order_total, order_exact, same-itself, same-equal}

-- ---- over any order

module _ {A : Type 0} {c : A → A → Ordering} (o : IsTotalOrder c) where
  -- x is below each item
  abbrev pub Below : A → List A → Type 0
  Below x [] = Unit {0}
  Below x (y ∷ ys) = (c x y ≡ Less) × Below x ys

  abbrev pub Rising : List A → Type 0
  Rising [] = Unit {0}
  Rising (x ∷ xs) = Below x xs × Rising xs

  abbrev pub Has : List A → A → Type 0
  Has [] x = ⊥
  Has (y ∷ ys) x = (y ≡ x) ⊎ Has ys x

  pub below-has : (x y : A) (ys : List A) → Below x ys → Has ys y → c x y ≡ Less
  below-has x y [] b h = absurd h
  below-has x y (z ∷ zs) b (inl e) = ap (λ w. c x w) (sym e) ∙ b.0
  below-has x y (z ∷ zs) b (inr h) = below-has x y zs b.1 h

  pub below-on : (x y : A) (ys : List A) → c x y ≡ Less → Below y ys → Below x ys
  below-on x y [] l b = tt
  below-on x y (z ∷ zs) l b = (o.trans x y z l b.0, below-on x y zs l b.1)

  pub not-both : (x y : A) → c x y ≡ Less → c y x ≡ Less → ⊥
  not-both x y p q = let r = o.antisymm x y in let e : ordering_reverse (c y x) ≡ Greater = ap ordering_reverse q in cc

  pub not-itself : (x : A) → c x x ≡ Less → ⊥
  not-itself x p = let e = tied_itself o x in cc

  -- Two strictly rising lists with the same items are one.
  pub one-list : (xs ys : List A) → Rising xs → Rising ys → ((x : A) → Has xs x → Has ys x) → ((x : A) → Has ys x → Has xs x) → xs ≡ ys
  one-list [] [] p q f g = refl
  one-list [] (y ∷ ys) p q f g = absurd (g y (inl refl))
  one-list (x ∷ xs) [] p q f g = absurd (f x (inl refl))
  one-list (x ∷ xs) (y ∷ ys) p q f g =
      let e = heads (f x (inl refl)) (g y (inl refl)) in
      let t = one-list xs ys p.1 q.1 (λ z h. rest z h (f z (inr h)) e) (λ z h. back z h (g z (inr h)) e) in cc
    where
      heads : (y ≡ x) ⊎ Has ys x → (x ≡ y) ⊎ Has xs y → x ≡ y
      heads (inl e) h = sym e
      heads (inr a) (inl e) = e
      heads (inr a) (inr b) = absurd (not-both x y (below-has x y xs p.0 b) (below-has y x ys q.0 a))

      rest : (z : A) → Has xs z → (y ≡ z) ⊎ Has ys z → x ≡ y → Has ys z
      rest z h (inl e) xy = absurd (not-itself x (below-has x x xs p.0 (subst (Has xs) (sym e ∙ sym xy) h)))
      rest z h (inr k) xy = k

      back : (z : A) → Has ys z → (x ≡ z) ⊎ Has xs z → x ≡ y → Has xs z
      back z h (inl e) xy = absurd (not-itself y (below-has y y ys q.0 (subst (Has ys) (sym e ∙ xy) h)))
      back z h (inr k) xy = k

-- ---- values

pub less-of : (p : Ordering) → is_lt p ≡ true → p ≡ Less
less-of Less e = refl
less-of Equal e = cc
less-of Greater e = cc

pub below-less : (a b : Value) → below a b ≡ true → order a b ≡ Less
below-less a b e = less-of (order a b) e

pub less-below : (a b : Value) → order a b ≡ Less → below a b ≡ true
less-below a b e = ap is_lt e

-- a test of the next item says it of all that follow
pub sorted-of : (xs : List Value) → rises itself xs ≡ true → Rising order_total xs
sorted-of [] e = tt
sorted-of (x ∷ []) e = (tt, tt)
sorted-of (x ∷ y ∷ ys) e =
    let r = sorted-of (y ∷ ys) (and-right (below x y) (rises itself (y ∷ ys)) e) in
    let l = below-less x y (and-left (below x y) (rises itself (y ∷ ys)) e) in
    ((l, below-on order_total x y ys l r.0), r)

pub holds-has : (xs : List Value) (v : Value) → holds xs v ≡ true → Has order_total xs v
holds-has [] v e = cc
holds-has (x ∷ xs) v e = go (holds-has xs v) (same x v) refl e
  where
    go : (holds xs v ≡ true → Has order_total xs v) → (b : Bool) → same x v ≡ b → b || holds xs v ≡ true → (x ≡ v) ⊎ Has order_total xs v
    go ih true q e = inl (same-equal x v q)
    go ih false q e = inr (ih e)

pub has-holds : (xs : List Value) (v : Value) → Has order_total xs v → holds xs v ≡ true
has-holds [] v h = absurd h
has-holds (x ∷ xs) v (inl e) = ap (λ b. b || holds xs v) (ap (λ y. same x y) (sym e) ∙ same-itself x)
has-holds (x ∷ xs) v (inr h) = ap (λ b. same x v || b) (has-holds xs v h) ∙ or-yes (same x v)

-- Two lists of values that rise strictly and have the same items are one.
pub one-sorted-list : (xs ys : List Value) → rises itself xs ≡ true → rises itself ys ≡ true → ((v : Value) → holds xs v ≡ holds ys v) → xs ≡ ys
one-sorted-list xs ys p q h =
    one-list order_total xs ys (sorted-of xs p) (sorted-of ys q)
    (λ v e. holds-has ys v (sym (h v) ∙ has-holds xs v e)) (λ v e. holds-has xs v (h v ∙ has-holds ys v e))

-- ---- the strictly rising list of items

or-idem : (a b : Bool) → a || b ≡ a || (a || b)
or-idem true b = refl
or-idem false b = refl

or-swap : (a b c : Bool) → a || (b || c) ≡ b || (a || c)
or-swap true true c = refl
or-swap true false c = refl
or-swap false true c = refl
or-swap false false c = refl

pub holds-place : (v w : Value) (xs : List Value) → holds (place v xs) w ≡ same v w || holds xs w
holds-place v w [] = refl
holds-place v w (x ∷ xs) = go (holds-place v w xs) (order v x) refl
  where
    go : holds (place v xs) w ≡ same v w || holds xs w → (p : Ordering) → order v x ≡ p → holds (place_by p v x xs (place v xs)) w ≡ same v w || (same x w || holds xs w)
    go ih Less q = refl
    go ih Equal q = or-idem (same x w) (holds xs w) ∙ ap (λ y. same y w || (same x w || holds xs w)) (sym (order_exact v x q))
    go ih Greater q = ap (λ b. same x w || b) ih ∙ or-swap (same x w) (same v w) (holds xs w)

-- A set's canonical list has exactly the given members.
pub holds-sorted_once : (xs : List Value) (w : Value) → holds (sorted_once xs) w ≡ holds xs w
holds-sorted_once [] w = refl
holds-sorted_once (x ∷ xs) w = holds-place x w (sorted_once xs) ∙ ap (λ b. same x w || b) (holds-sorted_once xs w)

turned : (v x : Value) → order v x ≡ Greater → below x v ≡ true
turned v x q = ap is_lt (order_total.antisymm x v ∙ ap ordering_reverse q)

pub place-rises : (v : Value) (xs : List Value) → rises itself xs ≡ true → rises itself (place v xs) ≡ true
place-rises v [] h = refl
place-rises v (x ∷ []) h = go (order v x) refl
  where
    go : (p : Ordering) → order v x ≡ p → rises itself (place_by p v x [] (v ∷ [])) ≡ true
    go Less q = ap (λ b. b && true) (less-below v x q)
    go Equal q = refl
    go Greater q = ap (λ b. b && true) (turned v x q)
place-rises v (x ∷ y ∷ ys) h = go (order v x) refl (place-rises v (y ∷ ys) (and-right (below x y) (rises itself (y ∷ ys)) h))
  where
    behind-first : (p : Ordering) → order v y ≡ p → below x v ≡ true → rises itself (place_by p v y ys (place v ys)) ≡ true → rises itself (x ∷ place_by p v y ys (place v ys)) ≡ true
    behind-first Less q a r = and-both (below x v) (rises itself (v ∷ y ∷ ys)) a r
    behind-first Equal q a r = and-both (below x y) (rises itself (y ∷ ys)) (and-left (below x y) (rises itself (y ∷ ys)) h) r
    behind-first Greater q a r = first (place v ys) r
      where
        first : (zs : List Value) → rises itself (y ∷ zs) ≡ true → rises itself (x ∷ y ∷ zs) ≡ true
        first zs r = and-both (below x y) (rises itself (y ∷ zs)) (and-left (below x y) (rises itself (y ∷ ys)) h) r

    go : (p : Ordering) → order v x ≡ p → rises itself (place v (y ∷ ys)) ≡ true → rises itself (place_by p v x (y ∷ ys) (place v (y ∷ ys))) ≡ true
    go Less q r = and-both (below v x) (rises itself (x ∷ y ∷ ys)) (less-below v x q) h
    go Equal q r = h
    go Greater q r = behind-first (order v y) refl (turned v x q) r

pub sorted_once-rises : (xs : List Value) → rises itself (sorted_once xs) ≡ true
sorted_once-rises [] = refl
sorted_once-rises (x ∷ xs) = place-rises x (sorted_once xs) (sorted_once-rises xs)

-- Lists with the same items have one strictly rising list.
pub one-set : (xs ys : List Value) → ((v : Value) → holds xs v ≡ holds ys v) → sorted_once xs ≡ sorted_once ys
one-set xs ys h = one-sorted-list (sorted_once xs) (sorted_once ys) (sorted_once-rises xs) (sorted_once-rises ys) (λ v. holds-sorted_once xs v ∙ h v ∙ sym (holds-sorted_once ys v))

-- A list that rises strictly is its own strictly rising list.
pub sorted_once-itself : (xs : List Value) → rises itself xs ≡ true → sorted_once xs ≡ xs
sorted_once-itself xs h = one-sorted-list (sorted_once xs) xs (sorted_once-rises xs) h (holds-sorted_once xs)

-- ---- tests of all items

pub all-holds : (f : Value → Bool) (xs : List Value) (v : Value) → list_all f xs ≡ true → holds xs v ≡ true → f v ≡ true
all-holds f [] v e h = cc
all-holds f (x ∷ xs) v e h = go (all-holds f xs v (and-right (f x) (list_all f xs) e)) (same x v) refl h
  where
    go : (holds xs v ≡ true → f v ≡ true) → (b : Bool) → same x v ≡ b → b || holds xs v ≡ true → f v ≡ true
    go ih true q h = ap f (sym (same-equal x v q)) ∙ and-left (f x) (list_all f xs) e
    go ih false q h = ih h

pub holds-all : (f : Value → Bool) (xs : List Value) → ((v : Value) → holds xs v ≡ true → f v ≡ true) → list_all f xs ≡ true
holds-all f [] h = refl
holds-all f (x ∷ xs) h =
    and-both (f x) (list_all f xs) (h x (ap (λ b. b || holds xs x) (same-itself x)))
    (holds-all f xs (λ v e. h v (ap (λ b. same x v || b) e ∙ or-yes (same x v))))

pub all-sorted_once : (f : Value → Bool) (xs : List Value) → list_all f (sorted_once xs) ≡ list_all f xs
all-sorted_once f xs =
    both-ways (list_all f (sorted_once xs)) (list_all f xs)
    (λ e. holds-all f xs (λ v h. all-holds f (sorted_once xs) v e (holds-sorted_once xs v ∙ h)))
    (λ e. holds-all f (sorted_once xs) (λ v h. all-holds f xs v e (sym (holds-sorted_once xs v) ∙ h)))

-- ---- no value twice

-- no value stands twice
abbrev pub Distinct : List Value → Type 0
Distinct [] = Unit {0}
Distinct (x ∷ xs) = (holds xs x ≡ false) × Distinct xs

pub place-length : (v : Value) (xs : List Value) → holds xs v ≡ false → length (place v xs) ≡ suc (length xs)
place-length v [] h = refl
place-length v (x ∷ xs) h = go (λ q. place-length v xs q) (order v x) refl
  where
    go : (holds xs v ≡ false → length (place v xs) ≡ suc (length xs)) → (p : Ordering) → order v x ≡ p → length (place_by p v x xs (place v xs)) ≡ suc (suc (length xs))
    go ih Less q = refl
    go ih Equal q = let e : same x v ≡ true = ap (λ y. same y v) (sym (order_exact v x q)) ∙ same-itself v in let f = or-left-no (same x v) (holds xs v) h in cc
    go ih Greater q = ap suc (ih (or-right-no (same x v) (holds xs v) h))

-- Sorting keeps the number of items that differ.
pub sorted_once-length : (xs : List Value) → Distinct xs → length (sorted_once xs) ≡ length xs
sorted_once-length [] d = refl
sorted_once-length (x ∷ xs) d = place-length x (sorted_once xs) (holds-sorted_once xs x ∙ d.0) ∙ ap suc (sorted_once-length xs d.1)

same-turned : (x y : Value) → same x y ≡ same y x
same-turned x y = both-ways (same x y) (same y x) (λ e. go x y (same-equal x y e)) (λ e. go y x (same-equal y x e))
  where
    go : (x y : Value) → x ≡ y → same y x ≡ true
    go x y e = ap (λ z. same z x) (sym e) ∙ same-itself x

any-holds : (x : Value) (xs : List Value) → list_any (λ y. same x y) xs ≡ holds xs x
any-holds x [] = refl
any-holds x (y ∷ ys) = ap (λ b. b || list_any (λ z. same x z) ys) (same-turned x y) ∙ ap (λ b. same y x || b) (any-holds x ys)

pub distinct-twice : (xs : List Value) → Distinct xs → no_twice itself xs ≡ true
distinct-twice [] d = refl
distinct-twice (x ∷ xs) d = and-both _ _ (ap not (any-holds x xs ∙ d.0)) (distinct-twice xs d.1)

pub twice-distinct : (xs : List Value) → no_twice itself xs ≡ true → Distinct xs
twice-distinct [] e = tt
twice-distinct (x ∷ xs) e =
    (sym (any-holds x xs) ∙ not-true _ (and-left (not (list_any (λ y. same x y) xs)) (no_twice itself xs) e), twice-distinct xs (and-right (not (list_any (λ y. same x y) xs)) (no_twice itself xs) e))
