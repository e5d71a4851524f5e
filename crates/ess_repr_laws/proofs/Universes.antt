-- Lists that have each member of a domain, and are no longer than its bound: lists of choices.
use Rattle.std.proofs.Common.{◌≡◌, refl, sym, ap, ◌∙◌, subst, ℕ, zero, suc, ◌*◌, ◌^◌, ◌≤◌, ◌<◌, Bool, true, false, ◌||◌, if◌then◌else◌, List, [], ◌∷◌, ◌++◌, map, length, replicate, arith, length-append, suc-mul, zero-mul, pow-suc, le_trans, mul_comm, ◌⊎◌, inl, inr}
use Rattle.std.proofs.Math.Nat.{pow-zero, pow-le-pow_left, pow-le-pow_right}
use Rattle.ess_semantics.specs.Values.{Value, itself}
use Rattle.ess_semantics.specs.Order.{same}
use Rattle.ess_semantics.specs.Collections.{holds, sorted_once, rises}
use Rattle.ess_semantics.specs.Domains.{Domain, add_heads, lists_of}
use Rattle.ess_semantics.specs.Membership.{member}
use Rattle.ess_semantics.specs.Sizes.{bound}
use Rattle.ess_repr_laws.specs.Finite.{Bounded}
use Rattle.ess_semantics.proofs.Tests.{or-yes}
use Rattle.ess_semantics.proofs.Orders.{same-itself, same-equal}
use Rattle.ess_semantics.proofs.Sorting.{Distinct, sorted-of, sorted_once-rises, holds-sorted_once, all-holds}
use Rattle.ess_semantics.proofs.Repeats.{sorted-distinct}
use Rattle.ess_repr_laws.proofs.CanonicalPlaces.{AllOf}
use Rattle.ess_repr_laws.proofs.CellsOfMembers.{map-long}
use Rattle.ess_repr_laws.proofs.Times.{sorted_once-most}

-- ---- items of lists

-- The item is in the list.
abbrev pub In : {A : Type 0} → A → List A → Type 0
In x [] = ⊥
In x (y ∷ ys) = (y ≡ x) ⊎ In x ys

-- An image is among the images.
pub in-map : {A B : Type 0} (f : A → B) (x : A) (xs : List A) → In x xs → In (f x) (map f xs)
in-map f x [] h = absurd h
in-map f x (y ∷ ys) (inl e) = inl (ap f e)
in-map f x (y ∷ ys) (inr h) = inr (in-map f x ys h)

-- In the first of two lists.
pub in-left : {A : Type 0} (x : A) (xs ys : List A) → In x xs → In x (xs ++ ys)
in-left x [] ys h = absurd h
in-left x (z ∷ zs) ys (inl e) = inl e
in-left x (z ∷ zs) ys (inr h) = inr (in-left x zs ys h)

-- In the second.
pub in-right : {A : Type 0} (x : A) (xs ys : List A) → In x ys → In x (xs ++ ys)
in-right x [] ys h = h
in-right x (z ∷ zs) ys h = inr (in-right x zs ys h)

-- A value that a list holds is in it.
pub in-holds : (xs : List Value) (v : Value) → holds xs v ≡ true → In v xs
in-holds [] v h = cc
in-holds (x ∷ xs) v h = go (same x v) refl h (in-holds xs v)
  where
    go : (b : Bool) → same x v ≡ b → b || holds xs v ≡ true → (holds xs v ≡ true → In v xs) → (x ≡ v) ⊎ In v xs
    go true e h ih = inl (same-equal x v e)
    go false e h ih = inr (ih h)

-- And the other way round.
pub holds-in : (xs : List Value) (v : Value) → In v xs → holds xs v ≡ true
holds-in [] v h = absurd h
holds-in (x ∷ xs) v (inl e) = ap (λ b. b || holds xs v) (ap (λ w. same w v) e ∙ same-itself v)
holds-in (x ∷ xs) v (inr h) = ap (λ b. same x v || b) (holds-in xs v h) ∙ or-yes (same x v)

-- ---- lists of choices

-- each item is among its choices
abbrev pub AllIn : {A : Type 0} → List A → List (List A) → Type 0
AllIn [] [] = Unit {0}
AllIn (x ∷ xs) (cs ∷ css) = In x cs × AllIn xs css
AllIn _ _ = ⊥

-- A list with one item from each is among all such lists.
pub lists-in : {A : Type 0} (xs : List A) (css : List (List A)) → AllIn xs css → In xs (lists_of css)
lists-in [] [] h = inl refl
lists-in [] (cs ∷ css) h = absurd h
lists-in (x ∷ xs) [] h = absurd h
lists-in {A = A} (x ∷ xs) (cs ∷ css) h = go cs h.0 (lists-in xs css h.1)
  where
    go : (cs : List A) → In x cs → In xs (lists_of css) → In (x ∷ xs) (add_heads cs (lists_of css))
    go [] h i = absurd h
    go (c ∷ cs) (inl e) i = in-left (x ∷ xs) (map (λ l. c ∷ l) (lists_of css)) (add_heads cs (lists_of css)) (subst (λ y. In (y ∷ xs) (map (λ l. c ∷ l) (lists_of css))) e (in-map (λ l. c ∷ l) xs (lists_of css) i))
    go (c ∷ cs) (inr h) i = in-right (x ∷ xs) (map (λ l. c ∷ l) (lists_of css)) (add_heads cs (lists_of css)) (go cs h i)

-- How many lists begin with one of the items.
pub heads-length : {A : Type 0} (cs : List A) (ls : List (List A)) → length (add_heads cs ls) ≡ length cs * length ls
heads-length [] ls = sym (zero-mul (length ls))
heads-length (c ∷ cs) ls =
    let a = length-append (map (λ l. c ∷ l) ls) (add_heads cs ls) in
    let b = map-long (λ l. c ∷ l) ls in
    let d = heads-length cs ls in
    let e = suc-mul (length cs) (length ls) in omega (arith, a, b, d, e)

-- How many lists of n items there are.
pub lists-length : {A : Type 0} (n : ℕ) (cs : List A) → length (lists_of (replicate n cs)) ≡ length cs ^ n
lists-length zero cs = sym (pow-zero (length cs))
lists-length (suc n) cs = heads-length cs (lists_of (replicate n cs)) ∙ ap (λ k. length cs * k) (lists-length n cs) ∙ mul_comm (length cs) (length cs ^ n) ∙ sym (pow-suc (length cs) n)

-- Each item is one of these.
pub all-in : {A : Type 0} (cs : List A) (xs : List A) → AllOf xs (λ x. In x cs) → AllIn xs (replicate (length xs) cs)
all-in cs [] h = tt
all-in cs (x ∷ xs) h = (h.0, all-in cs xs h.1)

-- powers of numbers that are less
pub power-most : (a b n m : ℕ) → a ≤ b → n ≤ m → 0 < b → a ^ n ≤ b ^ m
power-most a b n m p q r = le_trans (pow-le-pow_left p n) (pow-le-pow_right r q)

-- ---- lists without repeats

-- the list without the first v
abbrev drop_one : Value → List Value → List Value
drop_one v [] = []
drop_one v (x ∷ xs) = if same x v then xs else x ∷ drop_one v xs

drop-length : (v : Value) (xs : List Value) → holds xs v ≡ true → length xs ≡ suc (length (drop_one v xs))
drop-length v [] h = cc
drop-length v (x ∷ xs) h = go (same x v) h (drop-length v xs)
  where
    go : (b : Bool) → b || holds xs v ≡ true → (holds xs v ≡ true → length xs ≡ suc (length (drop_one v xs))) → suc (length xs) ≡ suc (length (if b then xs else x ∷ drop_one v xs))
    go true h ih = refl
    go false h ih = ap suc (ih h)

drop-holds : (v : Value) (xs : List Value) (w : Value) → same v w ≡ false → holds xs w ≡ true → holds (drop_one v xs) w ≡ true
drop-holds v [] w n h = h
drop-holds v (x ∷ xs) w n h = go (same x v) refl (same x w) refl h (drop-holds v xs w n)
  where
    go : (b : Bool) → same x v ≡ b → (c : Bool) → same x w ≡ c → c || holds xs w ≡ true → (holds xs w ≡ true → holds (drop_one v xs) w ≡ true) → holds (if b then xs else x ∷ drop_one v xs) w ≡ true
    go true e true f h ih = let z : true ≡ false = sym (ap (λ y. same y w) (sym (same-equal x v e)) ∙ f) ∙ n in cc
    go true e false f h ih = h
    go false e true f h ih = ap (λ b. b || holds (drop_one v xs) w) f
    go false e false f h ih = ap (λ b. b || holds (drop_one v xs) w) f ∙ ih h

-- A list without repeats whose items another list has is no longer.
pub no-longer : (xs ys : List Value) → Distinct xs → ((w : Value) → holds xs w ≡ true → holds ys w ≡ true) → length xs ≤ length ys
no-longer [] ys d inc = omega arith
no-longer (x ∷ xs) ys d inc =
    let a = drop-length x ys (inc x (ap (λ b. b || holds xs x) (same-itself x))) in
    let b = no-longer xs (drop_one x ys) d.1 (λ w h. drop-holds x ys w (apart w h (same x w) refl) (inc w (ap (λ b. same x w || b) h ∙ or-yes (same x w)))) in omega (arith, a, b)
  where
    apart : (w : Value) → holds xs w ≡ true → (b : Bool) → same x w ≡ b → same x w ≡ false
    apart w h false e = e
    apart w h true e = let z : true ≡ false = sym h ∙ ap (holds xs) (sym (same-equal x w e)) ∙ d.0 in cc

-- ---- universes

-- A list with each value that f holds of, no longer than n.
pub record Universe (f : Value → Bool) (n : ℕ) : Type 0 where
  pub us : List Value
  pub short : length us ≤ n
  pub all : (v : Value) → f v ≡ true → holds us v ≡ true

-- the same in rising order
pub sorted : (f : Value → Bool) (n : ℕ) → Universe f n → (us : List Value) × (length us ≤ n) × ((v : Value) → f v ≡ true → holds us v ≡ true) × (rises itself us ≡ true)
sorted f n u = (sorted_once u.us, (let a = sorted_once-most u.us in let b = u.short in omega (arith, a, b)), λ v h. holds-sorted_once u.us v ∙ u.all v h, sorted_once-rises u.us)

-- A list that has each member bounds their number.
pub universe-bounds : (d : Domain) → Universe (member d) (bound d) → Bounded d
universe-bounds d u xs r i = le_trans (no-longer xs u.us (sorted-distinct xs (sorted-of xs r)) (λ w h. u.all w (all-holds (member d) xs w i h))) u.short
