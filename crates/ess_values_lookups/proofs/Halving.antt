-- Lists that rise strictly, gone through by halves.
use Rattle.std.proofs.Common.{◌≡◌, refl, sym, subst, ℕ, zero, suc, ◌+◌, ◌<◌, ◌≤◌, add-one, arith}
use Rattle.std.proofs.Common.{Bool, true, false, List, [], ◌∷◌, length, get_or, take, drop, ◌⊎◌, inl, inr}
use Rattle.std.specs.declared.cmp.Ordering.TheVariants.{Less, Equal, Greater}
use Rattle.std.proofs.lemmas.Cmp.{tied_itself}
use Rattle.ess_semantics.specs.Values.{Value, itself}
use Rattle.ess_semantics.specs.Order.{order}
use Rattle.ess_semantics.specs.Collections.{holds, rises}
use Rattle.ess_semantics.proofs.Orders.{order_total, order_exact}
use Rattle.ess_semantics.proofs.Sorting.{Rising, Has, below-has, not-itself, sorted-of, has-holds, holds-has}

-- ---- lists of values that rise

-- The value at an index is one of the list.
pub has-at : (ks : List Value) (i : ℕ) (d : Value) → i < length ks → Has order_total ks (get_or ks i d)
has-at [] i d l = absurd (omega arith)
has-at (k ∷ ks) zero d l = inl refl
has-at (k ∷ ks) (suc i) d l = inr (has-at ks i d (omega arith))

-- From a higher one on none is the value.
none-from : (ks : List Value) (i : ℕ) (d v : Value) → Rising order_total ks → i < length ks → order (get_or ks i d) v ≡ Greater
    → Has order_total (drop i ks) v → ⊥
none-from [] i d v r l g h = absurd (omega arith)
none-from (k ∷ ks) zero d v r l g (inl e) =
    let t : order k v ≡ Equal = subst (λ w. order w v ≡ Equal) (sym e) (tied_itself order_total v) in cc
none-from (k ∷ ks) zero d v r l g (inr h) = let b = below-has order_total k v ks r.0 h in cc
none-from (k ∷ ks) (suc i) d v r l g h = none-from ks i d v r.1 (omega arith) g h

-- Up to a lower one none is the value.
none-to : (ks : List Value) (i : ℕ) (d v : Value) → Rising order_total ks → i < length ks → order (get_or ks i d) v ≡ Less
    → Has order_total (take (suc i) ks) v → ⊥
none-to [] i d v r l g h = absurd (omega arith)
none-to (k ∷ ks) zero d v r l g (inl e) =
    let t : order k v ≡ Equal = subst (λ w. order w v ≡ Equal) (sym e) (tied_itself order_total v) in cc
none-to (k ∷ ks) zero d v r l g (inr h) = absurd h
none-to (k ∷ ks) (suc i) d v r l g (inl e) =
    let m : i < length ks = omega arith in
    let b = below-has order_total k (get_or ks i d) ks r.0 (has-at ks i d m) in
    not-itself order_total v (subst (λ w. order w v ≡ Less) e (order_total.trans k (get_or ks i d) v b g))
none-to (k ∷ ks) (suc i) d v r l g (inr h) = none-to ks i d v r.1 (omega arith) g h

-- What a list has, it has before an index or from there on.
has-split : (ks : List Value) (i : ℕ) (v : Value) → Has order_total ks v → Has order_total (take i ks) v ⊎ Has order_total (drop i ks) v
has-split [] i v h = absurd h
has-split (k ∷ ks) zero v h = inr h
has-split (k ∷ ks) (suc i) v (inl e) = inl (inl e)
has-split (k ∷ ks) (suc i) v (inr h) = go (has-split ks i v h)
  where
    go : Has order_total (take i ks) v ⊎ Has order_total (drop i ks) v
        → (Has order_total (take (suc i) (k ∷ ks)) v) ⊎ Has order_total (drop i ks) v
    go (inl a) = inl (inr a)
    go (inr b) = inr b

-- From a later index on a list has no more.
has-later : (ks : List Value) (i j : ℕ) (v : Value) → i ≤ j → Has order_total (drop j ks) v → Has order_total (drop i ks) v
has-later [] zero zero v l h = h
has-later [] zero (suc j) v l h = h
has-later [] (suc i) zero v l h = h
has-later [] (suc i) (suc j) v l h = h
has-later (k ∷ ks) zero zero v l h = h
has-later (k ∷ ks) zero (suc j) v l h = inr (has-later ks zero j v (omega arith) h)
has-later (k ∷ ks) (suc i) zero v l h = absurd (omega arith)
has-later (k ∷ ks) (suc i) (suc j) v l h = has-later ks i j v (omega arith) h

-- ---- the same as tests

lacks : (ks : List Value) (v : Value) → (Has order_total ks v → ⊥) → holds ks v ≡ false
lacks ks v n = go (holds ks v) refl
  where
    go : (b : Bool) → holds ks v ≡ b → b ≡ false
    go true e = absurd (n (holds-has ks v e))
    go false e = refl

has-not : (ks : List Value) (v : Value) → holds ks v ≡ false → Has order_total ks v → ⊥
has-not ks v e h = let t = has-holds ks v h in cc

pub lacks-from : (ks : List Value) (i : ℕ) (d v : Value) → rises itself ks ≡ true → i < length ks → order (get_or ks i d) v ≡ Greater
    → holds (drop i ks) v ≡ false
lacks-from ks i d v r l g = lacks (drop i ks) v (λ h. none-from ks i d v (sorted-of ks r) l g h)

pub lacks-to : (ks : List Value) (i : ℕ) (d v : Value) → rises itself ks ≡ true → i < length ks → order (get_or ks i d) v ≡ Less
    → holds (take (i + 1) ks) v ≡ false
lacks-to ks i d v r l g = rw (add-one i) (lacks (take (suc i) ks) v (λ h. none-to ks i d v (sorted-of ks r) l g h))

-- Before low and from high on it isn't there, so it isn't there.
pub lacks-all : (ks : List Value) (low high : ℕ) (v : Value) → high ≤ low → holds (take low ks) v ≡ false
    → holds (drop high ks) v ≡ false → holds ks v ≡ false
lacks-all ks low high v l a b = lacks ks v (λ h. go (has-split ks low v h))
  where
    go : Has order_total (take low ks) v ⊎ Has order_total (drop low ks) v → ⊥
    go (inl h) = has-not (take low ks) v a h
    go (inr h) = has-not (drop high ks) v b (has-later ks high low v l h)

pub holds-at : (ks : List Value) (i : ℕ) (d v : Value) → i < length ks → order (get_or ks i d) v ≡ Equal → holds ks v ≡ true
holds-at ks i d v l e =
    has-holds ks v (subst (Has order_total ks) (order_exact (get_or ks i d) v e) (has-at ks i d l))
