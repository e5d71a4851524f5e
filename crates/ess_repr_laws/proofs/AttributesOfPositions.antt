-- What attributes ask of a member they ask of its value with positions.
use Rattle.std.proofs.Common.{◌≡◌, refl, ap, ◌∙◌, Bool, true, false, ◌&&◌, ◌||◌, not, List, [], ◌∷◌, map, length, ℤ, pos, int_le, Option, Some, None, option_map}
use Rattle.std.specs.List.{list_all, list_any}
use Rattle.ess_semantics.specs.declared.words.Key.{Key}
use Rattle.ess_semantics.specs.Lists.{is_some_and}
use Rattle.ess_semantics.specs.Values.{Value, pair, from_of, to_of}
use Rattle.ess_semantics.specs.Order.{same}
use Rattle.ess_semantics.specs.Collections.{holds, count}
use Rattle.ess_semantics.specs.Domains.{Attribute, numbered, flagged}
use Rattle.ess_semantics.specs.Attributes.{each_holds, size_holds, occurs_holds, is_injective, is_surjective, is_total, function_holds, related, relation_holds, mset_attributes_hold}
use Rattle.ess_semantics.specs.Membership.{is_pair}
use Rattle.ess_semantics.specs.Positions.{with_positions}
use Rattle.ess_semantics.proofs.Tests.{and-left, and-right, and-both}
use Rattle.ess_repr_laws.specs.TypedDomains.{is_unnumbered}
use Rattle.ess_repr_laws.proofs.OrderOfPositions.{Agree}
use Rattle.ess_repr_laws.proofs.ListsOfPositions.{with_each, from-with, to-with, map-with, length-with, all-with, same-with, holds-with, count-with, twice-with}

-- Attributes hold alike where each does.
pub each-same : (ks : List Attribute) (f f' : Key → ℤ → Bool) (g g' : Key → Bool) → ((k : Key) (n : ℤ) → f k n ≡ f' k n) →
    ((k : Key) → g k ≡ g' k) → each_holds ks f g ≡ each_holds ks f' g'
each-same [] f f' g g' a b = refl
each-same (numbered k n ∷ ks) f f' g g' a b = ap (λ x. x && each_holds ks f g) (a k n) ∙ ap (λ x. f' k n && x) (each-same ks f f' g g' a b)
each-same (flagged k ∷ ks) f f' g g' a b = ap (λ x. x && each_holds ks f g) (b k) ∙ ap (λ x. g' k && x) (each-same ks f f' g g' a b)

-- Where all stand with numbers, only these count.
pub numbered-same : (ks : List Attribute) (f f' : Key → ℤ → Bool) (g g' : Key → Bool) → list_any is_unnumbered ks ≡ false →
    ((k : Key) (n : ℤ) → f k n ≡ f' k n) → each_holds ks f g ≡ each_holds ks f' g'
numbered-same [] f f' g g' u a = refl
numbered-same (numbered k n ∷ ks) f f' g g' u a =
    ap (λ x. x && each_holds ks f g) (a k n) ∙ ap (λ x. f' k n && x) (numbered-same ks f f' g g' u a)
numbered-same (flagged k ∷ ks) f f' g g' u a = cc

sizes-same : (k : Key) (n : ℤ) (xs : List Value) → size_holds k n (length (with_each xs)) ≡ size_holds k n (length xs)
sizes-same k n xs = ap (size_holds k n) (length-with xs)

-- ---- multisets

module _ (p : Value → Bool) (agree : Agree p p) where
  occurs-same : (k : Key) (n : ℤ) (xs : List Value) → list_all p xs ≡ true → occurs_holds k n (with_each xs) ≡ occurs_holds k n xs
  occurs-same k n xs h = go k
    where
      least : list_all (λ x. int_le n (pos (count (with_each xs) x))) (with_each xs) ≡ list_all (λ x. int_le n (pos (count xs x))) xs
      least =
          all-with p (λ x. int_le n (pos (count (with_each xs) x))) (λ x. int_le n (pos (count xs x)))
          (λ v k. ap (λ m. int_le n (pos m)) (count-with p p agree xs v h k)) xs h

      most : list_all (λ x. int_le (pos (count (with_each xs) x)) n) (with_each xs) ≡ list_all (λ x. int_le (pos (count xs x)) n) xs
      most =
          all-with p (λ x. int_le (pos (count (with_each xs) x)) n) (λ x. int_le (pos (count xs x)) n)
          (λ v k. ap (λ m. int_le (pos m) n) (count-with p p agree xs v h k)) xs h

      go : (k : Key) → occurs_holds k n (with_each xs) ≡ occurs_holds k n xs
      go Key.MinOccur = least
      go Key.MaxOccur = most
      go _ = refl

  -- The attributes of a multiset.
  pub mset-attributes : (ks : List Attribute) (xs : List Value) → list_all p xs ≡ true →
      mset_attributes_hold ks (with_each xs) ≡ mset_attributes_hold ks xs
  mset-attributes ks xs h =
      each-same ks (λ k n. size_holds k n (length (with_each xs)) && occurs_holds k n (with_each xs))
      (λ k n. size_holds k n (length xs) && occurs_holds k n xs) (λ k. true) (λ k. true)
      (λ k n. ap (λ b. b && occurs_holds k n (with_each xs)) (sizes-same k n xs) ∙ ap (λ b. size_holds k n (length xs) && b) (occurs-same k n xs h)) (λ k. refl)

-- ---- lists of members that are there

-- A test of the members of a domain, where these are listed.
listed-same : (p f g : Value → Bool) (o : Option (List Value)) → ((vs : List Value) → o ≡ Some vs → list_all p vs ≡ true) →
    ((v : Value) → p v ≡ true → f (with_positions v) ≡ g v) →
    is_some_and (option_map with_each o) (λ vs. list_all f vs) ≡ is_some_and o (λ vs. list_all g vs)
listed-same p f g None i h = refl
listed-same p f g (Some vs) i h = all-with p f g h vs (i vs refl)

-- The test holds of f of each value.
on-map : (p : Value → Bool) (f : Value → Value) (xs : List Value) → list_all (λ x. p (f x)) xs ≡ true → list_all p (map f xs) ≡ true
on-map p f [] h = refl
on-map p f (x ∷ xs) h =
    and-both (p (f x)) (list_all p (map f xs)) (and-left (p (f x)) (list_all (λ x. p (f x)) xs) h)
    (on-map p f xs (and-right (p (f x)) (list_all (λ x. p (f x)) xs) h))

-- ---- functions

module _ (p q : Value → Bool) (agree : Agree p p) (also : Agree q q) (xs ys : Option (List Value))
    (inside : (vs : List Value) → xs ≡ Some vs → list_all p vs ≡ true)
    (within : (vs : List Value) → ys ≡ Some vs → list_all q vs ≡ true) where
  -- What an attribute without a number asks of pairs of p's and q's.
  pub function-same : (k : Key) (ps : List Value) → list_all (λ v. p (from_of v)) ps ≡ true → list_all (λ v. q (to_of v)) ps ≡ true →
      function_holds k (option_map with_each xs) (option_map with_each ys) (with_each ps) ≡ function_holds k xs ys ps
  function-same k ps h j = go k
    where
      total : is_total (option_map with_each xs) (with_each ps) ≡ is_total xs ps
      total =
          ap (λ l. is_some_and (option_map with_each xs) (λ vs. list_all (λ x. holds l x) vs)) (map-with from_of from-with ps)
          ∙ listed-same p (λ x. holds (with_each (map from_of ps)) x) (λ x. holds (map from_of ps) x) xs inside
          (λ v i. holds-with p p agree (map from_of ps) v (on-map p from_of ps h) i)

      onto : is_surjective (option_map with_each ys) (with_each ps) ≡ is_surjective ys ps
      onto =
          ap (λ l. is_some_and (option_map with_each ys) (λ vs. list_all (λ y. holds l y) vs)) (map-with to_of to-with ps)
          ∙ listed-same q (λ x. holds (with_each (map to_of ps)) x) (λ x. holds (map to_of ps) x) ys within
          (λ v i. holds-with q q also (map to_of ps) v (on-map q to_of ps j) i)

      into : is_injective (with_each ps) ≡ is_injective ps
      into = twice-with q also to_of to-with ps j

      go : (k : Key) → function_holds k (option_map with_each xs) (option_map with_each ys) (with_each ps) ≡ function_holds k xs ys ps
      go Key.Total = total
      go Key.Injective = into
      go Key.Surjective = onto
      go Key.Bijective = ap (λ b. b && is_surjective (option_map with_each ys) (with_each ps)) into ∙ ap (λ b. is_injective ps && b) onto
      go _ = refl

-- ---- relations

-- Pairs of f's.
abbrev pub pairs_of : (Value → Bool) → Value → Bool
pairs_of f v = is_pair v && f (from_of v) && f (to_of v)

module _ (f : Value → Bool) (agree : Agree f f) (paired : Agree (pairs_of f) (pairs_of f)) (xs : Option (List Value))
    (inside : (vs : List Value) → xs ≡ Some vs → list_all f vs ≡ true) where
  first-of : (v : Value) → pairs_of f v ≡ true → f (from_of v) ≡ true
  first-of v h = and-right (is_pair v) (f (from_of v)) (and-left (is_pair v && f (from_of v)) (f (to_of v)) h)

  last-of : (v : Value) → pairs_of f v ≡ true → f (to_of v) ≡ true
  last-of v h = and-right (is_pair v && f (from_of v)) (f (to_of v)) h

  related-with : (ps : List Value) (a b : Value) → list_all (pairs_of f) ps ≡ true → f a ≡ true → f b ≡ true →
      related (with_each ps) (with_positions a) (with_positions b) ≡ related ps a b
  related-with ps a b h i j = holds-with (pairs_of f) (pairs_of f) paired ps (pair a b) h (and-both (f a) (f b) i j)

  -- the parts of a pair with positions
  ends : (g : Value → Value → Bool) (v : Value) →
      g (from_of (with_positions v)) (to_of (with_positions v)) ≡ g (with_positions (from_of v)) (with_positions (to_of v))
  ends g v = ap (λ a. g a (to_of (with_positions v))) (from-with v) ∙ ap (g (with_positions (from_of v))) (to-with v)

  turned : (ps : List Value) (v : Value) → list_all (pairs_of f) ps ≡ true → pairs_of f v ≡ true →
      related (with_each ps) (to_of (with_positions v)) (from_of (with_positions v)) ≡ related ps (to_of v) (from_of v)
  turned ps v h k = ends (λ a b. related (with_each ps) b a) v ∙ related-with ps (to_of v) (from_of v) h (last-of v k) (first-of v k)

  equal : (v : Value) → pairs_of f v ≡ true → same (from_of (with_positions v)) (to_of (with_positions v)) ≡ same (from_of v) (to_of v)
  equal v k = ends same v ∙ same-with f f agree (from_of v) (to_of v) (first-of v k) (last-of v k)

  -- What an attribute without a number asks of such pairs.
  pub relation-same : (k : Key) (ps : List Value) → list_all (pairs_of f) ps ≡ true →
      relation_holds k (option_map with_each xs) (with_each ps) ≡ relation_holds k xs ps
  relation-same k ps h = go k
    where
      onward : (v w : Value) → pairs_of f v ≡ true → pairs_of f w ≡ true →
          not (same (to_of (with_positions v)) (from_of (with_positions w))) || related (with_each ps) (from_of (with_positions v))
          (to_of (with_positions w)) ≡
          not (same (to_of v) (from_of w)) || related ps (from_of v) (to_of w)
      onward v w i j =
          ap (λ a. not (same a (from_of (with_positions w))) || related (with_each ps) (from_of (with_positions v)) (to_of (with_positions w))) (to-with v)
          ∙ ap (λ a. not (same (with_positions (to_of v)) a) || related (with_each ps) (from_of (with_positions v)) (to_of (with_positions w))) (from-with w)
          ∙ ap (λ b. not b || related (with_each ps) (from_of (with_positions v)) (to_of (with_positions w)))
          (same-with f f agree (to_of v) (from_of w) (last-of v i) (first-of w j))
          ∙ ap (λ a. not (same (to_of v) (from_of w)) || related (with_each ps) a (to_of (with_positions w))) (from-with v)
          ∙ ap (λ a. not (same (to_of v) (from_of w)) || related (with_each ps) (with_positions (from_of v)) a) (to-with w)
          ∙ ap (λ b. not (same (to_of v) (from_of w)) || b) (related-with ps (from_of v) (to_of w) h (first-of v i) (last-of w j))

      go : (k : Key) → relation_holds k (option_map with_each xs) (with_each ps) ≡ relation_holds k xs ps
      go Key.Reflexive = listed-same f (λ x. related (with_each ps) x x) (λ x. related ps x x) xs inside (λ v i. related-with ps v v h i i)
      go Key.Irreflexive =
          all-with (pairs_of f) (λ v. not (same (from_of v) (to_of v))) (λ v. not (same (from_of v) (to_of v)))
          (λ v i. ap not (equal v i)) ps h
      go Key.Symmetric =
          all-with (pairs_of f) (λ v. related (with_each ps) (to_of v) (from_of v)) (λ v. related ps (to_of v) (from_of v))
          (λ v i. turned ps v h i) ps h
      go Key.AntiSymmetric =
          all-with (pairs_of f) (λ v. not (related (with_each ps) (to_of v) (from_of v)) || same (from_of v) (to_of v))
          (λ v. not (related ps (to_of v) (from_of v)) || same (from_of v) (to_of v))
          (λ v i. ap (λ b. not b || same (from_of (with_positions v)) (to_of (with_positions v))) (turned ps v h i) ∙ ap (λ b. not (related ps (to_of v) (from_of v)) || b) (equal v i)) ps h
      go Key.ASymmetric =
          all-with (pairs_of f) (λ v. not (related (with_each ps) (to_of v) (from_of v))) (λ v. not (related ps (to_of v) (from_of v)))
          (λ v i. ap not (turned ps v h i)) ps h
      go Key.Transitive =
          all-with (pairs_of f)
          (λ v. list_all (λ w. not (same (to_of v) (from_of w)) || related (with_each ps) (from_of v) (to_of w)) (with_each ps))
          (λ v. list_all (λ w. not (same (to_of v) (from_of w)) || related ps (from_of v) (to_of w)) ps)
          (λ v i. all-with (pairs_of f) (λ w. not (same (to_of (with_positions v)) (from_of w)) || related (with_each ps) (from_of (with_positions v)) (to_of w))
          (λ w. not (same (to_of v) (from_of w)) || related ps (from_of v) (to_of w)) (λ w j. onward v w i j) ps h) ps h
      go _ = refl
