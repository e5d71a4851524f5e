-- Members with part numbers: where each number lies in range and comes after the one before it, and the greatest is taken, the members
-- with one number are the parts of a partition.
use Rattle.std.proofs.Common.{◌≡◌, refl, sym, ap, ◌∙◌, subst, ℕ, zero, suc, Bool, true, false, ◌&&◌, ◌||◌, List, [], ◌∷◌, ◌++◌, map, length, ℤ, pos, negsuc, ◌+ℤ◌, ◌≤ℤ◌, int_le, int_lt, nat_le, arith, ◌⊎◌, inl, inr, Some}
use Rattle.std.proofs.lemmas.Bool.{le-leb, leb-true}
use Rattle.std.proofs.lemmas.Int.{ints}
use Rattle.std.proofs.lemmas.Cmp.{tied_itself}
use Rattle.std.specs.List.{list_all, list_any}
use Rattle.std.specs.Ordering.{is_eq}
use Rattle.ess_semantics.specs.Lists.{is_empty}
use Rattle.ess_semantics.specs.Values.{Value, of_list, itself, items_of}
use Rattle.ess_semantics.specs.Order.{same, same_int}
use Rattle.ess_semantics.specs.Collections.{holds, rises, sorted_once, set_of, has_empty_part}
use Rattle.ess_semantics.specs.Numbers.{run_from, one_to}
use Rattle.ess_semantics.specs.Domains.{Domain, members}
use Rattle.ess_semantics.specs.Membership.{covers, same_list, member}
use Rattle.ess_semantics.specs.PartitionLayers.{members_numbered, is_part_number}
use Rattle.ess_semantics.specs.Tables.{code}
use Rattle.ess_semantics.proofs.Orders.{to_list-of_list, same-itself, same-equal, same_int-equal, same_int-itself, orders_total}
use Rattle.ess_semantics.proofs.Overlaps.{all_members, holds-append, apart-distinct}
use Rattle.ess_semantics.proofs.Repeats.{sorted-distinct}
use Rattle.ess_semantics.proofs.Sorting.{Distinct, sorted-of, sorted_once-rises, sorted_once-length, holds-sorted_once, all-sorted_once, all-holds, one-set}
use Rattle.ess_semantics.proofs.Tests.{and-left, and-right, and-both, or-yes, or-left-no, or-right-no, if-not, both-ways}
use Rattle.ess_repr_laws.proofs.CanonicalPlaces.{AllOf}
use Rattle.ess_repr_laws.proofs.Numberings.{Before, ByLeast, taken}
use Rattle.ess_repr_laws.proofs.OnceHeld.{SetOf}
use Rattle.ess_repr_laws.proofs.PartNumbers.{le-is, lt-is, numbered-holds, numbered-all, parts-from, from-parts, parts-length}

-- ---- members of several sets

-- A member of one of the sets is one of all.
pub of-one : (ps : List Value) (p v : Value) → holds ps p ≡ true → holds (items_of p) v ≡ true → holds (all_members ps) v ≡ true
of-one [] p v h k = cc
of-one (q ∷ qs) p v h k = holds-append (items_of q) (all_members qs) v ∙ go (same q p) refl h (λ e. of-one qs p v e k)
  where
    go : (b : Bool) → same q p ≡ b → b || holds qs p ≡ true → (holds qs p ≡ true → holds (all_members qs) v ≡ true) →
        holds (items_of q) v || holds (all_members qs) v ≡ true
    go true e h ih = ap (λ b. b || holds (all_members qs) v) (ap (λ z. holds (items_of z) v) (same-equal q p e) ∙ k)
    go false e h ih = ap (λ b. holds (items_of q) v || b) (ih h) ∙ or-yes (holds (items_of q) v)

-- A set among these with this member.
abbrev pub InOne : List Value → Value → Type 0
InOne ps v = (p : Value) × (holds ps p ≡ true) × (holds (items_of p) v ≡ true)

-- What is a member of them is one of one of them.
pub in-one : (ps : List Value) (v : Value) → holds (all_members ps) v ≡ true → InOne ps v
in-one [] v h = cc
in-one (p ∷ ps) v h = go (holds (items_of p) v) refl (sym (holds-append (items_of p) (all_members ps) v) ∙ h) (λ e. in-one ps v e)
  where
    go : (b : Bool) → holds (items_of p) v ≡ b → b || holds (all_members ps) v ≡ true → (holds (all_members ps) v ≡ true → InOne ps v) →
        InOne (p ∷ ps) v
    go true e h ih = (p, ap (λ b. b || holds ps p) (same-itself p), e)
    go false e h ih = let r = ih h in (r.0, ap (λ b. same p r.0 || b) r.1 ∙ or-yes (same p r.0), r.2)

-- Sorted sets have the same members.
pub all-sorted : (ps : List Value) (v : Value) → holds (all_members (sorted_once ps)) v ≡ holds (all_members ps) v
all-sorted ps v =
    both-ways (holds (all_members (sorted_once ps)) v) (holds (all_members ps) v)
    (λ h. let r = in-one (sorted_once ps) v h in of-one ps r.0 v (sym (holds-sorted_once ps r.0) ∙ r.1) r.2)
    (λ h. let r = in-one ps v h in of-one (sorted_once ps) r.0 v (holds-sorted_once ps r.0 ∙ r.1) r.2)

append-distinct : (xs ys : List Value) → Distinct xs → Distinct ys → ((v : Value) → holds xs v ≡ true → holds ys v ≡ true → ⊥) → Distinct
    (xs ++ ys)
append-distinct [] ys d e f = e
append-distinct (x ∷ xs) ys d e f = (
  holds-append xs ys x ∙ ap (λ b. b || holds ys x) d.0 ∙ none (holds ys x) refl,
  append-distinct xs ys d.1 e (λ v h k. f v (ap (λ b. same x v || b) h ∙ or-yes (same x v)) k),
)
  where
    none : (b : Bool) → holds ys x ≡ b → holds ys x ≡ false
    none false q = q
    none true q = absurd (f x (ap (λ b. b || holds xs x) (same-itself x)) q)

-- ---- tests of lists

-- An item that passes a test.
pub any-held : (f : Value → Bool) (xs : List Value) (v : Value) → holds xs v ≡ true → f v ≡ true → list_any f xs ≡ true
any-held f [] v h e = cc
any-held f (x ∷ xs) v h e = go (same x v) refl h (λ k. any-held f xs v k e)
  where
    go : (b : Bool) → same x v ≡ b → b || holds xs v ≡ true → (holds xs v ≡ true → list_any f xs ≡ true) → f x || list_any f xs ≡ true
    go true q h ih = ap (λ b. b || list_any f xs) (ap f (same-equal x v q) ∙ e)
    go false q h ih = ap (λ b. f x || b) (ih h) ∙ or-yes (f x)

-- An item that a test finds.
pub found-value : (f : Value → Bool) (xs : List Value) → list_any f xs ≡ true → (y : Value) × (holds xs y ≡ true) × (f y ≡ true)
found-value f [] h = cc
found-value f (x ∷ xs) h = go (f x) refl h (λ e. found-value f xs e)
  where
    go : (b : Bool) → f x ≡ b → b || list_any f xs ≡ true → (list_any f xs ≡ true → (y : Value) × (holds xs y ≡ true) × (f y ≡ true)) →
        (y : Value) × (holds (x ∷ xs) y ≡ true) × (f y ≡ true)
    go true q h ih = (x, ap (λ b. b || holds xs x) (same-itself x), q)
    go false q h ih = let r = ih h in (r.0, ap (λ b. same x r.0 || b) r.1 ∙ or-yes (same x r.0), r.2)

-- None of the sets is empty where each has a member.
all-filled : (ps : List Value) → ((p : Value) → holds ps p ≡ true → is_empty (items_of p) ≡ false) → has_empty_part ps ≡ false
all-filled [] h = refl
all-filled (p ∷ ps) h =
    ap (λ b. b || has_empty_part ps) (h p (ap (λ b. b || holds ps p) (same-itself p)))
    ∙ all-filled ps (λ q k. h q (ap (λ b. same p q || b) k ∙ or-yes (same p q)))

-- So has each.
each-filled : (ps : List Value) (p : Value) → has_empty_part ps ≡ false → holds ps p ≡ true → is_empty (items_of p) ≡ false
each-filled [] p e h = cc
each-filled (q ∷ qs) p e h = go (same q p) refl h (λ k. each-filled qs p (or-right-no (is_empty (items_of q)) (has_empty_part qs) e) k)
  where
    go : (b : Bool) → same q p ≡ b → b || holds qs p ≡ true → (holds qs p ≡ true → is_empty (items_of p) ≡ false) → is_empty
        (items_of p) ≡ false
    go true k h ih = ap (λ z. is_empty (items_of z)) (sym (same-equal q p k)) ∙ or-left-no (is_empty (items_of q)) (has_empty_part qs) e
    go false k h ih = ih h

held-filled : (xs : List Value) (v : Value) → holds xs v ≡ true → is_empty xs ≡ false
held-filled [] v h = cc
held-filled (x ∷ xs) v h = refl

first-held : (xs : List Value) → is_empty xs ≡ false → (v : Value) × (holds xs v ≡ true)
first-held [] h = cc
first-held (x ∷ xs) h = (x, ap (λ b. b || holds xs x) (same-itself x))

not-none : (n : ℕ) → same_int (pos (suc n)) (pos 0) ≡ false
not-none n = go (same_int (pos (suc n)) (pos 0)) refl
  where
    go : (b : Bool) → same_int (pos (suc n)) (pos 0) ≡ b → same_int (pos (suc n)) (pos 0) ≡ false
    go false e = e
    go true e = let z : pos (suc n) ≡ pos 0 = same_int-equal (pos (suc n)) (pos 0) e in cc

-- What holds of each value that stands in the list.
pub all-of-held : (zs : List Value) (P : Value → Type 0) → ((z : Value) → holds zs z ≡ true → P z) → AllOf zs P
all-of-held [] P h = tt
all-of-held (z ∷ zs) P h = (
  h z (ap (λ b. b || holds zs z) (same-itself z)),
  all-of-held zs P (λ u k. h u (ap (λ b. same z u || b) k ∙ or-yes (same z u))),
)

-- ---- members with part numbers

module _ (xs : List Value) (w : Value → ℤ) where
  -- The members with a number.
  abbrev pub numbered_part : ℤ → Value
  numbered_part k = set_of (members_numbered xs (map w xs) k)

  -- Those with the numbers 1 to n, one by one.
  abbrev pub numbered_parts : ℕ → List Value
  numbered_parts n = map numbered_part (one_to n)

  part-holds : (k : ℤ) (v : Value) → holds (items_of (numbered_part k)) v ≡ holds xs v && same_int (w v) k
  part-holds k v =
      ap (λ l. holds l v) (to_list-of_list (sorted_once (members_numbered xs (map w xs) k)))
      ∙ holds-sorted_once (members_numbered xs (map w xs) k) v ∙ numbered-holds w xs k v

  in-part : (k : ℤ) (v : Value) → holds xs v ≡ true → w v ≡ k → holds (items_of (numbered_part k)) v ≡ true
  in-part k v h e = part-holds k v ∙ and-both (holds xs v) (same_int (w v) k) h (ap (λ z. same_int z k) e ∙ same_int-itself k)

  of-part : (k : ℤ) (v : Value) → holds (items_of (numbered_part k)) v ≡ true → (holds xs v ≡ true) × (w v ≡ k)
  of-part k v h =
      let z = sym (part-holds k v) ∙ h in
      (and-left (holds xs v) (same_int (w v) k) z, same_int-equal (w v) k (and-right (holds xs v) (same_int (w v) k) z))

  -- No two parts share a member.
  pub parts-apart : (a n : ℕ) → Distinct (all_members (map numbered_part (run_from a n)))
  parts-apart a zero = tt
  parts-apart a (suc n) =
      append-distinct (items_of (numbered_part (pos a))) (all_members (map numbered_part (run_from (suc a) n)))
      (subst Distinct (sym (to_list-of_list S))
      (sorted-distinct S (sorted-of S (sorted_once-rises (members_numbered xs (map w xs) (pos a))))))
      (parts-apart (suc a) n)
      (λ v h k.
      let one = of-part (pos a) v h in
      let r = in-one (map numbered_part (run_from (suc a) n)) v k in
      let f = from-parts numbered_part (suc a) n r.0 r.1 in
      let other = of-part (pos f.0) v (ap (λ p. holds (items_of p) v) f.3 ∙ r.2) in
      let e : pos a ≡ pos f.0 = sym one.1 ∙ other.1 in
      let low = f.1 in
      let eq : a ≡ f.0 = cc in
      omega arith)
    where
      S : List Value
      S = sorted_once (members_numbered xs (map w xs) (pos a))

  -- Their members are those with a number in range.
  pub parts-members : (n : ℕ) (v : Value) → holds (all_members (numbered_parts n)) v ≡ holds xs v && is_part_number n (w v)
  parts-members n v =
      both-ways (holds (all_members (numbered_parts n)) v) (holds xs v && is_part_number n (w v))
      (λ h.
      let r = in-one (numbered_parts n) v h in
      let f = from-parts numbered_part 1 n r.0 r.1 in
      let o = of-part (pos f.0) v (ap (λ p. holds (items_of p) v) f.3 ∙ r.2) in
      and-both (holds xs v) (is_part_number n (w v)) o.0
      (ap (is_part_number n) o.1
      ∙ and-both (nat_le 1 f.0) (nat_le f.0 n) (le-leb 1 f.0 f.1) (le-leb f.0 n (let b = f.2 in omega arith))))
      (λ h. go (w v) refl (and-left (holds xs v) (is_part_number n (w v)) h) (and-right (holds xs v) (is_part_number n (w v)) h))
    where
      go : (z : ℤ) → w v ≡ z → holds xs v ≡ true → is_part_number n (w v) ≡ true → holds (all_members (numbered_parts n)) v ≡ true
      go (negsuc m) e h p = let z : int_le (pos 1) (negsuc m) && int_le (negsuc m) (pos n) ≡ true = sym (ap (is_part_number n) e) ∙ p in cc
      go (pos m) e h p =
          let z : nat_le 1 m && nat_le m n ≡ true = sym (ap (is_part_number n) e) ∙ p in
          let lo = leb-true 1 m (and-left (nat_le 1 m) (nat_le m n) z) in
          let hi = leb-true m n (and-right (nat_le 1 m) (nat_le m n) z) in
          of-one (numbered_parts n) (numbered_part (pos m)) v (parts-from numbered_part 1 n m lo (omega arith)) (in-part (pos m) v h e)

  -- Whether n is 0 or a number that is taken.
  abbrev pub is_taken : ℕ → Bool
  is_taken n = same_int (pos n) (pos 0) || list_any (λ x. same_int (w x) (pos n)) xs

  -- Whether x has number 1, or stands after one with the number before its own.
  abbrev pub is_numbered_on : Value → Bool
  is_numbered_on x = same_int (pos 1) (w x) || list_any (λ y. int_lt (code y) (code x) && same_int (w x) (w y +ℤ pos 1)) xs

  -- Whether x has a number in range, and so.
  abbrev pub is_numbered_well : ℕ → Value → Bool
  is_numbered_well n x = is_part_number n (w x) && is_numbered_on x

  -- Numbers that come so are numbers by least members.
  pub well-by-least : (n : ℕ) → ((x : Value) → holds xs x ≡ true → is_numbered_well n x ≡ true) → ByLeast xs w
  well-by-least n h = record {
    least = λ x k. le-is (pos 1) (w x) (and-left (int_le (pos 1) (w x)) (int_le (w x) (pos n)) (and-left (is_part_number n (w x))
        (is_numbered_on x) (h x k)));
    next = λ x k. go x (same_int (pos 1) (w x)) refl (and-right (is_part_number n (w x)) (is_numbered_on x) (h x k));
  }
    where
      after : Value → Value → Bool
      after x y = int_lt (code y) (code x) && same_int (w x) (w y +ℤ pos 1)

      go : (x : Value) (b : Bool) → same_int (pos 1) (w x) ≡ b → b || list_any (after x) xs ≡ true →
          (w x ≡ pos 1) ⊎ ((y : Value) × (holds xs y ≡ true) × Before y x × (w x ≡ w y +ℤ pos 1))
      go x true e h = inl (sym (same_int-equal (pos 1) (w x) e))
      go x false e h =
          let r = found-value (after x) xs h in
          inr (
            r.0,
            r.1,
            lt-is (code r.0) (code x) (and-left (int_lt (code r.0) (code x)) (same_int (w x) (w r.0 +ℤ pos 1)) r.2),
            same_int-equal (w x) (w r.0 +ℤ pos 1) (and-right (int_lt (code r.0) (code x)) (same_int (w x) (w r.0 +ℤ pos 1)) r.2),
          )

  -- Where the greatest number is taken, each is.
  pub taken-filled : (n : ℕ) → ByLeast xs w → is_taken n ≡ true → has_empty_part (numbered_parts n) ≡ false
  taken-filled zero b t = refl
  taken-filled (suc n) b t =
      let y = found-value (λ x. same_int (w x) (pos (suc n))) xs
      (if-not (same_int (pos (suc n)) (pos 0)) (list_any (λ x. same_int (w x) (pos (suc n))) xs) (not-none n) t) in
      let top : w y.0 ≡ pos (suc n) = same_int-equal (w y.0) (pos (suc n)) y.2 in
      all-filled (numbered_parts (suc n))
      (λ p h.
      let f = from-parts numbered_part 1 (suc n) p h in
      let lo : pos 1 ≤ℤ pos f.0 = (let a = f.1 in omega (arith, ints)) in
      let hi : pos f.0 ≤ℤ w y.0 = subst (λ z. pos f.0 ≤ℤ z) (sym top) (let a = f.2 in omega (arith, ints)) in
      let z = taken xs w b y.0 y.1 (pos f.0) lo hi in
      held-filled (items_of p) z.0 (ap (λ p. holds (items_of p) z.0) (sym f.3) ∙ in-part (pos f.0) z.0 z.1 z.3))

  -- And the other way round.
  pub filled-taken : (n : ℕ) → has_empty_part (numbered_parts n) ≡ false → is_taken n ≡ true
  filled-taken zero h = refl
  filled-taken (suc n) h =
      let p = numbered_part (pos (suc n)) in
      let there = parts-from numbered_part 1 (suc n) (suc n) (omega arith) (omega arith) in
      let v = first-held (items_of p) (each-filled (numbered_parts (suc n)) p h there) in
      let o = of-part (pos (suc n)) v.0 v.1 in
      ap (λ b. same_int (pos (suc n)) (pos 0) || b)
      (any-held (λ x. same_int (w x) (pos (suc n))) xs v.0 o.0 (ap (λ z. same_int z (pos (suc n))) o.1 ∙ same_int-itself (pos (suc n))))
      ∙ or-yes (same_int (pos (suc n)) (pos 0))

  -- They are so many, also sorted.
  pub parts-count : (n : ℕ) → has_empty_part (numbered_parts n) ≡ false → length (sorted_once (numbered_parts n)) ≡ n
  parts-count n h = sorted_once-length (numbered_parts n) (apart-distinct (numbered_parts n) h (parts-apart 1 n))
      ∙ parts-length numbered_part 1 n

  -- Each is a set of members.
  pub parts-sets : (n : ℕ) (d : Domain) → list_all (member d) xs ≡ true → AllOf (sorted_once (numbered_parts n)) (SetOf d)
  parts-sets n d h =
      all-of-held (sorted_once (numbered_parts n)) (SetOf d)
      (λ p k.
      let f = from-parts numbered_part 1 n p (sym (holds-sorted_once (numbered_parts n) p) ∙ k) in
      let ms = members_numbered xs (map w xs) (pos f.0) in (
        of_list (sorted_once ms),
        sym f.3,
        ap (rises itself) (to_list-of_list (sorted_once ms)) ∙ sorted_once-rises ms,
        ap (list_all (member d)) (to_list-of_list (sorted_once ms)) ∙ all-sorted_once (member d) ms
            ∙ numbered-all (member d) w xs (pos f.0) h,
      ))

  -- They cover the domain whose members these are.
  pub parts-cover : (n : ℕ) (d : Domain) → members d ≡ Some xs → list_all (λ x. is_part_number n (w x)) xs ≡ true →
      covers (members d) (sorted_once (numbered_parts n)) ≡ true
  parts-cover n d me h =
      ap (λ m. covers m (sorted_once (numbered_parts n))) me ∙ ap (λ l. same_list l (sorted_once A)) (one-set xs A same-members)
      ∙ ap is_eq (tied_itself orders_total (of_list (sorted_once A)))
    where
      A : List Value
      A = all_members (sorted_once (numbered_parts n))

      inside : (v : Value) → holds xs v ≡ holds xs v && is_part_number n (w v)
      inside v = go (holds xs v) refl
        where
          go : (b : Bool) → holds xs v ≡ b → b ≡ b && is_part_number n (w v)
          go false e = refl
          go true e = sym (all-holds (λ x. is_part_number n (w x)) xs v h e)

      same-members : (v : Value) → holds xs v ≡ holds A v
      same-members v = inside v ∙ sym (parts-members n v) ∙ sym (all-sorted (numbered_parts n) v)
