-- Lists that are collected have at most as many items, and items with as many parts, as a sum of numbers says.
use Rattle.std.proofs.Common.{◌≡◌, refl, sym, ap, ◌∙◌, subst, ℕ, zero, suc, ◌+◌, ◌*◌, ◌≤◌, Bool, true, List, [], ◌∷◌, ◌++◌, length, pos, Option, Some, None, option_map, arith}
use Rattle.std.specs.Prelude.{◌+ℤ◌, nat_le}
use Rattle.std.specs.List.{list_all}
use Rattle.std.proofs.lemmas.Int.{ints}
use Rattle.std.proofs.Math.Nat.{suc-mul}
use Rattle.std.proofs.lemmas.Bool.{leb-true, le-leb}
use Rattle.ess_semantics.specs.Lists.{and_then}
use Rattle.ess_semantics.specs.Values.{Value, number}
use Rattle.ess_semantics.specs.Operators.{number_in, sum_of}
use Rattle.ess_semantics.specs.Meaning.{collect}
use Rattle.ess_semantics.specs.Contexts.{Each}
use Rattle.ess_semantics.proofs.Tests.{and-left, and-right, and-both}
use Rattle.ess_numbered_laws.specs.MostItems.{Pick}
use Rattle.ess_numbered_laws.specs.BoundLaws.{reach_at_most}
use Rattle.ess_numbered_laws.proofs.MostNumbers.{Natural, sum-natural, collect-each, one-each}
use Rattle.ess_numbered_laws.proofs.ReachedValues.{all-weaker, reach-more}

-- A test of a list by a number, which lists one behind the other pass with the sum of their numbers.
pub record Adds (f : ℕ → List Value → Bool) : Type 0 where
  pub nothing : (n : ℕ) → f n [] ≡ true
  pub joined : (m n : ℕ) (xs ys : List Value) → f m xs ≡ true → f n ys ≡ true → f (m + n) (xs ++ ys) ≡ true
  pub more : (m n : ℕ) (xs : List Value) → m ≤ n → f m xs ≡ true → f n xs ≡ true

-- How many items there are.
abbrev pub so_many : ℕ → List Value → Bool
so_many n xs = nat_le (length xs) n

append-length : (xs ys : List Value) → length (xs ++ ys) ≡ length xs + length ys
append-length [] ys = omega arith
append-length (x ∷ xs) ys = let e : length (xs ++ ys) ≡ length xs + length ys = append-length xs ys in omega arith

-- Numbers of items add up.
pub so-many-adds : Adds so_many
so-many-adds = record {
  nothing = λ n. le-leb zero n (omega arith);
  joined = λ m n xs ys h k. let i : length xs ≤ m = leb-true (length xs) m h in let j : length ys ≤ n = leb-true (length ys) n k in
      let e = append-length xs ys in le-leb (length (xs ++ ys)) (m + n) (omega arith);
  more = λ m n xs l h. let i : length xs ≤ m = leb-true (length xs) m h in le-leb (length xs) n (omega arith);
}

-- How many items each one has that steps reach.
abbrev pub each_reach : List Pick → ℕ → List Value → Bool
each_reach ps n xs = list_all (reach_at_most ps n) xs

all-joined : (f : Value → Bool) (xs ys : List Value) → list_all f xs ≡ true → list_all f ys ≡ true → list_all f (xs ++ ys) ≡ true
all-joined f [] ys h k = k
all-joined f (x ∷ xs) ys h k = and-both (f x) (list_all f (xs ++ ys)) (and-left (f x) (list_all f xs) h)
    (all-joined f xs ys (and-right (f x) (list_all f xs) h) k)

-- Numbers of items of each item add up, too.
pub each-reach-adds : (ps : List Pick) → Adds (each_reach ps)
each-reach-adds ps = record {
  nothing = λ n. refl;
  joined = λ m n xs ys h k. all-joined (reach_at_most ps (m + n)) xs ys
      (all-weaker (reach_at_most ps m) (reach_at_most ps (m + n)) xs (λ v. reach-more ps m (m + n) (omega arith) v) h)
      (all-weaker (reach_at_most ps n) (reach_at_most ps (m + n)) ys (λ v. reach-more ps n (m + n) (omega arith) v) k);
  more = λ m n xs l h. all-weaker (reach_at_most ps m) (reach_at_most ps n) xs (λ v. reach-more ps m n l v) h;
}

-- ---- what is collected

module _ (f : ℕ → List Value → Bool) (adds : Adds f) (F : Value → Option (List Value)) where
  -- At each value the number bounds what is collected there.
  abbrev Bounded : (Value → Option Value) → List Value → Type 0
  Bounded g vs = Each vs (λ v. (m : ℕ) → g v ≡ Some (number (pos m)) → (ys : List Value) → F v ≡ Some ys → f m ys ≡ true)

  -- The sum of the numbers bounds all.
  pub sum-bounds : (g : Value → Option Value) → ((v w : Value) → g v ≡ Some w → Natural w) → (vs ws xs : List Value) (n : ℕ) →
      collect vs (λ v. option_map (λ w. w ∷ []) (g v)) ≡ Some ws → sum_of ws ≡ pos n → Bounded g vs → collect vs F ≡ Some xs → f n xs ≡ true
  sum-bounds g nat [] ws xs n c s h e = subst (λ l. f n l ≡ true) (let z : [] ≡ xs = cc in z) (adds.nothing n)
  sum-bounds g nat (v ∷ vs) ws xs n c s h e =
      go (g v) refl (collect vs (λ v. option_map (λ w. w ∷ []) (g v))) refl c (F v) refl (collect vs F) refl e
      (λ us ys k i j l. sum-bounds g nat vs us ys k i j h.1 l)
    where
      go : (o : Option Value) → g v ≡ o → (p : Option (List Value)) → collect vs (λ v. option_map (λ w. w ∷ []) (g v)) ≡ p →
          and_then (option_map (λ w. w ∷ []) o) (λ xs. option_map (λ ys. xs ++ ys) p) ≡ Some ws →
          (q : Option (List Value)) → F v ≡ q → (r : Option (List Value)) → collect vs F ≡ r →
          and_then q (λ xs. option_map (λ ys. xs ++ ys) r) ≡ Some xs →
          ((us ys : List Value) (k : ℕ) → collect vs (λ v. option_map (λ w. w ∷ []) (g v)) ≡ Some us → sum_of us ≡ pos k → collect vs F
          ≡ Some ys →
          f k ys ≡ true) → f n xs ≡ true
      go None i p j c q k r l e rec = cc
      go (Some w) i None j c q k r l e rec = cc
      go (Some w) i (Some us) j c None k r l e rec = cc
      go (Some w) i (Some us) j c (Some as1) k None l e rec = cc
      go (Some w) i (Some us) j c (Some as1) k (Some bs) l e rec =
          let m = nat v w i in
          let r = sum-natural us (collect-each Natural vs (λ v. option_map (λ w. w ∷ []) (g v)) us
          (λ u ys q. one-each Natural (g u) ys q (λ y t. nat u y t)) j) in
          let z : w ∷ us ≡ ws = cc in
          let t : pos m.0 +ℤ pos r.0 ≡ pos n = sym (ap (λ a. number_in a +ℤ sum_of us) m.1 ∙ ap (λ a. pos m.0 +ℤ a) r.1) ∙ ap sum_of z
          ∙ s in
          let y : m.0 + r.0 ≡ n = omega (arith, ints) in
          subst (λ l. f n l ≡ true) (let a : as1 ++ bs ≡ xs = cc in a)
          (subst (λ a. f a (as1 ++ bs) ≡ true) y (adds.joined m.0 r.0 as1 bs (h.0 m.0 (i ∙ ap Some m.1) as1 k) (rec us bs r.0 j r.1 l)))

  -- So does their product, where the number is one at all.
  pub times-bounds : (m : ℕ) (vs xs : List Value) → Each vs (λ v. (ys : List Value) → F v ≡ Some ys → f m ys ≡ true) → collect vs F
      ≡ Some xs →
      f (length vs * m) xs ≡ true
  times-bounds m [] xs h e = subst (λ l. f (zero * m) l ≡ true) (let z : [] ≡ xs = cc in z) (adds.nothing (zero * m))
  times-bounds m (v ∷ vs) xs h e = go (F v) refl (collect vs F) refl e (λ ys i. times-bounds m vs ys h.1 i)
    where
      go : (q : Option (List Value)) → F v ≡ q → (r : Option (List Value)) → collect vs F ≡ r →
          and_then q (λ xs. option_map (λ ys. xs ++ ys) r) ≡ Some xs → ((ys : List Value) → collect vs F ≡ Some ys → f (length vs * m) ys
          ≡ true) →
          f (suc (length vs) * m) xs ≡ true
      go None i r j e rec = cc
      go (Some ys) i None j e rec = cc
      go (Some ys) i (Some zs) j e rec = subst (λ l. f (suc (length vs) * m) l ≡ true) (let z : ys ++ zs ≡ xs = cc in z)
          (subst (λ k. f k (ys ++ zs) ≡ true) (let e = suc-mul (length vs) m in let z : m + length vs * m
          ≡ suc (length vs) * m = omega arith in z)
          (adds.joined m (length vs * m) ys zs (h.0 ys i) (rec zs j)))
