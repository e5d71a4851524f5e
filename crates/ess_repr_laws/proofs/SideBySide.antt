-- Two lists side by side.
use Rattle.std.proofs.Common.{◌≡◌, refl, ap, suc, Bool, true, List, [], ◌∷◌, map, length, ℤ}
use Rattle.std.specs.List.{list_all}
use Rattle.ess_semantics.proofs.Tests.{and-both}
use Rattle.ess_repr_laws.proofs.CanonicalPlaces.{AllOf}

-- R of each two items side by side, where the lists are of one length
abbrev pub Along : {A B : Type 0} → List A → List B → (A → B → Type 0) → Type 0
Along [] [] R = Unit {0}
Along (x ∷ xs) (y ∷ ys) R = R x y × Along xs ys R
Along _ _ R = ⊥

-- What holds of each pair gives something else of it.
pub along-map : {A B : Type 0} (xs : List A) (ys : List B) (P Q : A → B → Type 0) → ((x : A) (y : B) → P x y → Q x y) → Along xs ys P → Along xs ys Q
along-map [] [] P Q f h = tt
along-map (x ∷ xs) (y ∷ ys) P Q f h = (f x y h.0, along-map xs ys P Q f h.1)
along-map [] (y ∷ ys) P Q f h = absurd h
along-map (x ∷ xs) [] P Q f h = absurd h

-- Two things that hold of each pair.
pub along-both : {A B : Type 0} (xs : List A) (ys : List B) (P Q R : A → B → Type 0) → ((x : A) (y : B) → P x y → Q x y → R x y) → Along xs ys P → Along xs ys Q → Along xs ys R
along-both [] [] P Q R f h i = tt
along-both (x ∷ xs) (y ∷ ys) P Q R f h i = (f x y h.0 i.0, along-both xs ys P Q R f h.1 i.1)
along-both [] (y ∷ ys) P Q R f h i = absurd h
along-both (x ∷ xs) [] P Q R f h i = absurd h

-- what holds of each item on the left
pub along-left : {A B : Type 0} (xs : List A) (ys : List B) (P : A → Type 0) (Q R : A → B → Type 0) → ((x : A) (y : B) → P x → Q x y → R x y) → AllOf xs P → Along xs ys Q → Along xs ys R
along-left [] [] P Q R f h i = tt
along-left (x ∷ xs) (y ∷ ys) P Q R f h i = (f x y h.0 i.0, along-left xs ys P Q R f h.1 i.1)
along-left [] (y ∷ ys) P Q R f h i = absurd i
along-left (x ∷ xs) [] P Q R f h i = absurd i

-- what holds of each item on the right
pub along-right : {A B : Type 0} (xs : List A) (ys : List B) (P : B → Type 0) (Q R : A → B → Type 0) → ((x : A) (y : B) → P y → Q x y → R x y) → AllOf ys P → Along xs ys Q → Along xs ys R
along-right [] [] P Q R f h i = tt
along-right (x ∷ xs) (y ∷ ys) P Q R f h i = (f x y h.0 i.0, along-right xs ys P Q R f h.1 i.1)
along-right [] (y ∷ ys) P Q R f h i = absurd i
along-right (x ∷ xs) [] P Q R f h i = absurd i

-- What holds of each item of the first list, beside one as long.
pub along-length : {A B : Type 0} (xs : List A) (ys : List B) → length xs ≡ length ys → (P : A → Type 0) → AllOf xs P → Along xs ys (λ x y. P x)
along-length [] [] e P h = tt
along-length (x ∷ xs) (y ∷ ys) e P h = let e' : length xs ≡ length ys = cc in (h.0, along-length xs ys e' P h.1)
along-length [] (y ∷ ys) e P h = cc
along-length (x ∷ xs) [] e P h = cc

-- Lists side by side are as long.
pub length-along : {A B : Type 0} (xs : List A) (ys : List B) (P : A → B → Type 0) → Along xs ys P → length xs ≡ length ys
length-along [] [] P h = refl
length-along (x ∷ xs) (y ∷ ys) P h = ap suc (length-along xs ys P h.1)
length-along [] (y ∷ ys) P h = absurd h
length-along (x ∷ xs) [] P h = absurd h

-- under functions
pub along-under : {A B C D : Type 0} (f : A → C) (g : B → D) (xs : List A) (ys : List B) (R : C → D → Type 0) → Along (map f xs) (map g ys) R → Along xs ys (λ x y. R (f x) (g y))
along-under f g [] [] R h = tt
along-under f g (x ∷ xs) (y ∷ ys) R h = (h.0, along-under f g xs ys R h.1)
along-under f g [] (y ∷ ys) R h = absurd h
along-under f g (x ∷ xs) [] R h = absurd h

-- Images side by side.
pub under-along : {A B C D : Type 0} (f : A → C) (g : B → D) (xs : List A) (ys : List B) (R : C → D → Type 0) → Along xs ys (λ x y. R (f x) (g y)) → Along (map f xs) (map g ys) R
under-along f g [] [] R h = tt
under-along f g (x ∷ xs) (y ∷ ys) R h = (h.0, under-along f g xs ys R h.1)
under-along f g [] (y ∷ ys) R h = absurd h
under-along f g (x ∷ xs) [] R h = absurd h

-- Images on the right.
pub right-under : {A B D : Type 0} (g : B → D) (xs : List A) (ys : List B) (R : A → D → Type 0) → Along xs (map g ys) R → Along xs ys (λ x y. R x (g y))
right-under g [] [] R h = tt
right-under g (x ∷ xs) (y ∷ ys) R h = (h.0, right-under g xs ys R h.1)
right-under g [] (y ∷ ys) R h = absurd h
right-under g (x ∷ xs) [] R h = absurd h

-- Images on the left.
pub left-under : {A B C : Type 0} (f : A → C) (xs : List A) (ys : List B) (R : C → B → Type 0) → Along (map f xs) ys R → Along xs ys (λ x y. R (f x) y)
left-under f [] [] R h = tt
left-under f (x ∷ xs) (y ∷ ys) R h = (h.0, left-under f xs ys R h.1)
left-under f [] (y ∷ ys) R h = absurd h
left-under f (x ∷ xs) [] R h = absurd h

-- a list beside itself
pub along-itself : {A : Type 0} (xs : List A) (R : A → A → Type 0) → AllOf xs (λ x. R x x) → Along xs xs R
along-itself [] R h = tt
along-itself (x ∷ xs) R h = (h.0, along-itself xs R h.1)

-- a test of all items on the left
pub along-all : {A B : Type 0} (f : A → Bool) (xs : List A) (ys : List B) → Along xs ys (λ x y. f x ≡ true) → list_all f xs ≡ true
along-all f [] [] h = refl
along-all f (x ∷ xs) (y ∷ ys) h = and-both (f x) (list_all f xs) h.0 (along-all f xs ys h.1)
along-all f [] (y ∷ ys) h = absurd h
along-all f (x ∷ xs) [] h = absurd h

-- Items beside their images.
pub along-equal : {A : Type 0} (F : A → ℤ) (ps : List A) (xs : List ℤ) → map F ps ≡ xs → Along ps xs (λ p x. F p ≡ x)
along-equal F [] [] e = tt
along-equal F [] (x ∷ xs) e = cc
along-equal F (p ∷ ps) [] e = cc
along-equal F (p ∷ ps) (x ∷ xs) e = let h : F p ≡ x = cc in let t : map F ps ≡ xs = cc in (h, along-equal F ps xs t)
