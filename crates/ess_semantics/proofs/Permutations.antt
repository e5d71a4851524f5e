-- Lists with the same items equally often.
use Rattle.std.proofs.Common.{◌≡◌, refl, ap, ◌∙◌, subst, ℕ, suc, Bool, true, false, ◌||◌, if◌then◌else◌, List, [], ◌∷◌, ◌++◌}
use Rattle.ess_semantics.specs.Values.{Value}
use Rattle.ess_semantics.specs.Order.{same}
use Rattle.ess_semantics.specs.Collections.{holds, count}

-- The second list is the first one in some order.
pub data Perm {A : Type 0} : List A → List A → Type 0 where
  same_list : {xs : List A} → Perm xs xs
  skip : {x : A} {xs ys : List A} → Perm xs ys → Perm (x ∷ xs) (x ∷ ys)
  swap : {x y : A} {xs : List A} → Perm (x ∷ y ∷ xs) (y ∷ x ∷ xs)
  chain : {xs ys zs : List A} → Perm xs ys → Perm ys zs → Perm xs zs

-- Equal lists.
pub perm-of : {A : Type 0} {xs ys : List A} → xs ≡ ys → Perm xs ys
perm-of {xs = xs} e = subst (λ zs. Perm xs zs) e same_list

-- The other way round.
pub perm-sym : {A : Type 0} {xs ys : List A} → Perm xs ys → Perm ys xs
perm-sym same_list = same_list
perm-sym (skip p) = skip (perm-sym p)
perm-sym swap = swap
perm-sym (chain p q) = chain (perm-sym q) (perm-sym p)

-- Behind the same items.
pub perm-behind : {A : Type 0} (a : List A) {b c : List A} → Perm b c → Perm (a ++ b) (a ++ c)
perm-behind [] p = p
perm-behind (x ∷ a) p = skip (perm-behind a p)

move : {A : Type 0} (x : A) (b c : List A) → Perm (x ∷ (b ++ c)) (b ++ (x ∷ c))
move x [] c = same_list
move x (y ∷ b) c = chain swap (skip (move x b c))

-- Two lists exchanged.
pub perm-across : {A : Type 0} (a b c : List A) → Perm (a ++ (b ++ c)) (b ++ (a ++ c))
perm-across [] b c = same_list
perm-across (x ∷ a) b c = chain (skip (perm-across a b c)) (move x b (a ++ c))

-- ---- the same items equally often

-- A choice of three with the first two exchanged.
pub or-swap : (a b c : Bool) → a || (b || c) ≡ b || (a || c)
or-swap true true c = refl
or-swap true false c = refl
or-swap false true c = refl
or-swap false false c = refl

-- They have the same items.
pub holds-perm : {xs ys : List Value} → Perm xs ys → (v : Value) → holds xs v ≡ holds ys v
holds-perm same_list v = refl
holds-perm (skip {x = x} p) v = ap (λ b. same x v || b) (holds-perm p v)
holds-perm (swap {x = x} {y = y} {xs = xs}) v = or-swap (same x v) (same y v) (holds xs v)
holds-perm (chain p q) v = holds-perm p v ∙ holds-perm q v

-- Equally often.
pub count-perm : {xs ys : List Value} → Perm xs ys → (v : Value) → count xs v ≡ count ys v
count-perm same_list v = refl
count-perm (skip {x = x} p) v = ap (λ n. if same x v then suc n else n) (count-perm p v)
count-perm (swap {x = x} {y = y} {xs = xs}) v = go (same x v) (same y v) (count xs v)
  where
    go : (a b : Bool) (n : ℕ) → (if a then suc (if b then suc n else n) else (if b then suc n else n)) ≡ (if b then suc (if a then suc n else n) else (if a then suc n else n))
    go true true n = refl
    go true false n = refl
    go false true n = refl
    go false false n = refl
count-perm (chain p q) v = count-perm p v ∙ count-perm q v
