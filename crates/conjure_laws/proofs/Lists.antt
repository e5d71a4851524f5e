-- Small laws of lists, of items that stand in them, and of lists side by side.
use Rattle.std.proofs.Common.{◌≡◌, refl, sym, ap, ◌∙◌, subst, ℕ, suc, ◌+◌, ◌-◌, Bool, true, false, ◌&&◌, if◌then◌else◌, List, [], ◌∷◌, ◌++◌, map, drop, filter, length, ◌⊎◌, inl, inr, Option, Some, option_map, length-append, arith}
use Rattle.std.specs.List.{list_all}
use Rattle.ess_semantics.specs.Lists.{append_all, and_then, each_of}
use Rattle.ess_semantics.proofs.Tests.{and-left, and-right, and-both}
use Rattle.ess_semantics.specs.Contexts.{Each}
use Rattle.conjure_laws.specs.Members.{In}
use Rattle.conjure_laws.specs.SideBySide.{Along}

-- ---- items

-- What holds of each item holds of one.
pub at-item : {A : Type 0} (P : A → Type 0) (xs : List A) (a : A) → Each xs P → In a xs → P a
at-item P [] a h i = absurd i
at-item P (x ∷ xs) a h (inl e) = subst P (sym e) h.0
at-item P (x ∷ xs) a h (inr i) = at-item P xs a h.1 i

-- What holds of any item holds of each.
pub all-items : {A : Type 0} (P : A → Type 0) (xs : List A) → ((a : A) → In a xs → P a) → Each xs P
all-items P [] f = tt
all-items P (x ∷ xs) f = (f x (inl refl), all-items P xs (λ a i. f a (inr i)))

-- An item of the first list is one of both.
pub in-left : {A : Type 0} (a : A) (xs ys : List A) → In a xs → In a (xs ++ ys)
in-left a [] ys i = absurd i
in-left a (x ∷ xs) ys (inl e) = inl e
in-left a (x ∷ xs) ys (inr i) = inr (in-left a xs ys i)

-- So is one of the second list.
pub in-right : {A : Type 0} (a : A) (xs ys : List A) → In a ys → In a (xs ++ ys)
in-right a [] ys i = i
in-right a (x ∷ xs) ys i = inr (in-right a xs ys i)

-- An item of both is one of either.
pub in-either : {A : Type 0} (a : A) (xs ys : List A) → In a (xs ++ ys) → In a xs ⊎ In a ys
in-either a [] ys i = inr i
in-either a (x ∷ xs) ys (inl e) = inl (inl e)
in-either a (x ∷ xs) ys (inr i) = go (in-either a xs ys i)
  where
    go : In a xs ⊎ In a ys → ((a ≡ x) ⊎ In a xs) ⊎ In a ys
    go (inl j) = inl (inr j)
    go (inr j) = inr j

-- The image of an item is one of the images.
pub in-map : {A B : Type 0} (f : A → B) (a : A) (xs : List A) → In a xs → In (f a) (map f xs)
in-map f a [] i = absurd i
in-map f a (x ∷ xs) (inl e) = inl (ap f e)
in-map f a (x ∷ xs) (inr i) = inr (in-map f a xs i)

-- An item that passes a test is one of those that do.
pub in-filtered : {A : Type 0} (f : A → Bool) (a : A) (xs : List A) → In a xs → f a ≡ true → In a (filter f xs)
in-filtered f a [] i t = absurd i
in-filtered f a (x ∷ xs) (inl e) t = go (f x) (ap f (sym e) ∙ t)
  where
    go : (b : Bool) → b ≡ true → In a (if b then x ∷ filter f xs else filter f xs)
    go true q = inl e
    go false q = cc
in-filtered f a (x ∷ xs) (inr i) t = go (f x) (in-filtered f a xs i t)
  where
    go : (b : Bool) → In a (filter f xs) → In a (if b then x ∷ filter f xs else filter f xs)
    go true j = inr j
    go false j = j

-- One of those is an item, and passes the test.
pub in-filter : {A : Type 0} (f : A → Bool) (a : A) (xs : List A) → In a (filter f xs) → In a xs × (f a ≡ true)
in-filter f a [] i = absurd i
in-filter f a (x ∷ xs) i = go (f x) refl i (in-filter f a xs)
  where
    go : (b : Bool) → f x ≡ b → In a (if b then x ∷ filter f xs else filter f xs) → (In a (filter f xs) → In a xs × (f a ≡ true)) →
        In a (x ∷ xs) × (f a ≡ true)
    go true q (inl e) k = (inl e, ap f e ∙ q)
    go true q (inr j) k = let r = k j in (inr r.0, r.1)
    go false q j k = let r = k j in (inr r.0, r.1)

-- ---- of each item

-- A test of each item.
pub each-of-list : {A : Type 0} (xs : List A) (f : A → Bool) → list_all f xs ≡ true → Each xs (λ x. f x ≡ true)
each-of-list [] f e = tt
each-of-list (x ∷ xs) f e = (and-left (f x) (list_all f xs) e, each-of-list xs f (and-right (f x) (list_all f xs) e))

-- And the other way round.
pub list-of-each : {A : Type 0} (xs : List A) (f : A → Bool) → Each xs (λ x. f x ≡ true) → list_all f xs ≡ true
list-of-each [] f h = refl
list-of-each (x ∷ xs) f h = and-both (f x) (list_all f xs) h.0 (list-of-each xs f h.1)

-- What holds of an item gives something else of it.
pub each-map : {A : Type 0} (xs : List A) (P Q : A → Type 0) → ((x : A) → P x → Q x) → Each xs P → Each xs Q
each-map [] P Q f h = tt
each-map (x ∷ xs) P Q f h = (f x h.0, each-map xs P Q f h.1)

-- Two things that hold of an item.
pub each-both : {A : Type 0} (xs : List A) (P Q R : A → Type 0) → ((x : A) → P x → Q x → R x) → Each xs P → Each xs Q → Each xs R
each-both [] P Q R f h i = tt
each-both (x ∷ xs) P Q R f h i = (f x h.0 i.0, each-both xs P Q R f h.1 i.1)

-- What holds of each item of two lists holds of each of both.
pub each-append : {A : Type 0} (P : A → Type 0) (xs ys : List A) → Each xs P → Each ys P → Each (xs ++ ys) P
each-append P [] ys h i = i
each-append P (x ∷ xs) ys h i = (h.0, each-append P xs ys h.1 i)

-- ---- tests

-- A test of both lists is one of each.
pub test-append : {A : Type 0} (f : A → Bool) (xs ys : List A) → list_all f (xs ++ ys) ≡ list_all f xs && list_all f ys
test-append f [] ys = refl
test-append f (x ∷ xs) ys = ap (λ b. f x && b) (test-append f xs ys) ∙ go (f x) (list_all f xs) (list_all f ys)
  where
    go : (a b c : Bool) → a && (b && c) ≡ (a && b) && c
    go true b c = refl
    go false b c = refl

-- ---- lists side by side

-- What stands side by side gives something else that does.
pub along-map : {A B : Type 0} (xs : List A) (ys : List B) (Q R : A → B → Type 0) → ((x : A) (y : B) → Q x y → R x y) →
    Along xs ys Q →
    Along xs ys R
along-map [] [] Q R f h = tt
along-map (x ∷ xs) (y ∷ ys) Q R f h = (f x y h.0, along-map xs ys Q R f h.1)
along-map [] (y ∷ ys) Q R f h = absurd h
along-map (x ∷ xs) [] Q R f h = absurd h

-- Two things that stand side by side.
pub along-both : {A B : Type 0} (xs : List A) (ys : List B) (P Q R : A → B → Type 0) → ((x : A) (y : B) → P x y → Q x y → R x y) →
    Along xs ys P → Along xs ys Q → Along xs ys R
along-both [] [] P Q R f h i = tt
along-both (x ∷ xs) (y ∷ ys) P Q R f h i = (f x y h.0 i.0, along-both xs ys P Q R f h.1 i.1)
along-both [] (y ∷ ys) P Q R f h i = absurd h
along-both (x ∷ xs) [] P Q R f h i = absurd h

-- What holds of each item of the first list, beside what stands side by side.
pub along-left : {A B : Type 0} (xs : List A) (ys : List B) (P : A → Type 0) (Q R : A → B → Type 0) →
    ((x : A) (y : B) → P x → Q x y → R x y) → Each xs P → Along xs ys Q → Along xs ys R
along-left [] [] P Q R f h i = tt
along-left (x ∷ xs) (y ∷ ys) P Q R f h i = (f x y h.0 i.0, along-left xs ys P Q R f h.1 i.1)
along-left [] (y ∷ ys) P Q R f h i = absurd i
along-left (x ∷ xs) [] P Q R f h i = absurd i

-- What side by side gives of each item of the first list.
pub left-of : {A B : Type 0} (xs : List A) (ys : List B) (P : A → Type 0) (R : A → B → Type 0) → ((x : A) (y : B) → R x y → P x) →
    Along xs ys R → Each xs P
left-of [] [] P R f h = tt
left-of (x ∷ xs) (y ∷ ys) P R f h = (f x y h.0, left-of xs ys P R f h.1)
left-of [] (y ∷ ys) P R f h = absurd h
left-of (x ∷ xs) [] P R f h = absurd h

-- One list from another, item by item.
pub along-found : {A B : Type 0} (xs : List A) (R : A → B → Type 0) → Each xs (λ x. (y : B) × R x y) → (ys : List B) × Along xs ys R
along-found [] R h = ([], tt)
along-found (x ∷ xs) R h = let t = along-found xs R h.1 in (h.0.0 ∷ t.0, (h.0.1, t.1))

-- Lists side by side are as long.
pub length-along : {A B : Type 0} (xs : List A) (ys : List B) (R : A → B → Type 0) → Along xs ys R → length xs ≡ length ys
length-along [] [] R h = refl
length-along (x ∷ xs) (y ∷ ys) R h = ap suc (length-along xs ys R h.1)
length-along [] (y ∷ ys) R h = absurd h
length-along (x ∷ xs) [] R h = absurd h

-- Tests of the lists one behind the other, where each list's test is that of its partner.
pub tests-along : {A B : Type 0} (f : A → Bool) (xs : List B) (ls : List (List A)) → Along xs ls (λ x l. list_all f l ≡ true) →
    list_all f (append_all ls) ≡ true
tests-along f [] [] h = refl
tests-along f (x ∷ xs) (l ∷ ls) h = test-append f l (append_all ls)
    ∙ and-both (list_all f l) (list_all f (append_all ls)) h.0 (tests-along f xs ls h.1)
tests-along f [] (l ∷ ls) h = absurd h
tests-along f (x ∷ xs) [] h = absurd h

-- The other way round: each list's test is passed where that of all is.
pub along-tests : {A B : Type 0} (f : A → Bool) (xs : List B) (ls : List (List A)) → length xs ≡ length ls →
    list_all f (append_all ls) ≡ true → Along xs ls (λ x l. list_all f l ≡ true)
along-tests f [] [] e h = tt
along-tests f (x ∷ xs) (l ∷ ls) e h =
    let t = sym (test-append f l (append_all ls)) ∙ h in
    let e' : length xs ≡ length ls = cc in (
      and-left (list_all f l) (list_all f (append_all ls)) t,
      along-tests f xs ls e' (and-right (list_all f l) (list_all f (append_all ls)) t),
    )
along-tests f [] (l ∷ ls) e h = cc
along-tests f (x ∷ xs) [] e h = cc

-- Images stand beside what their originals stand beside.
pub along-over : {A B C : Type 0} (g : B → C) (xs : List A) (ys : List B) (R : A → C → Type 0) → Along xs ys (λ x y. R x (g y)) →
    Along xs (map g ys) R
along-over g [] [] R h = tt
along-over g (x ∷ xs) (y ∷ ys) R h = (h.0, along-over g xs ys R h.1)
along-over g [] (y ∷ ys) R h = absurd h
along-over g (x ∷ xs) [] R h = absurd h

-- And the other way round.
pub over-along : {A B C : Type 0} (g : B → C) (xs : List A) (ys : List B) (R : A → C → Type 0) → Along xs (map g ys) R →
    Along xs ys (λ x y. R x (g y))
over-along g [] [] R h = tt
over-along g (x ∷ xs) (y ∷ ys) R h = (h.0, over-along g xs ys R h.1)
over-along g [] (y ∷ ys) R h = absurd h
over-along g (x ∷ xs) [] R h = absurd h

-- There are as many images.
pub map-length : {A B : Type 0} (g : A → B) (xs : List A) → length (map g xs) ≡ length xs
map-length g [] = refl
map-length g (x ∷ xs) = ap suc (map-length g xs)

-- ---- the last items

-- What stands behind the first list is the second one.
pub drop-front : {A : Type 0} (xs ys : List A) → drop (length xs) (xs ++ ys) ≡ ys
drop-front [] ys = refl
drop-front (x ∷ xs) ys = drop-front xs ys

-- The last items, as many as the second list has, are that list.
pub last-items : {A : Type 0} (xs ys : List A) → drop (length (xs ++ ys) - length ys) (xs ++ ys) ≡ ys
last-items xs ys = ap (λ n. drop n (xs ++ ys)) (ap (λ n. n - length ys) (length-append xs ys) ∙ go (length xs) (length ys))
    ∙ drop-front xs ys
  where
    go : (a b : ℕ) → (a + b) - b ≡ a
    go a b = omega arith

-- ---- options

-- Answers that stand beside items are those of all.
pub each-along : {A B : Type 0} (f : A → Option B) (xs : List A) (ys : List B) → Along xs ys (λ x y. f x ≡ Some y) →
    each_of xs f ≡ Some ys
each-along f [] [] h = refl
each-along f (x ∷ xs) (y ∷ ys) h = ap (λ o. and_then o (λ z. option_map (λ zs. z ∷ zs) (each_of xs f))) h.0
    ∙ ap (option_map (λ zs. y ∷ zs)) (each-along f xs ys h.1)
each-along f [] (y ∷ ys) h = absurd h
each-along f (x ∷ xs) [] h = absurd h
