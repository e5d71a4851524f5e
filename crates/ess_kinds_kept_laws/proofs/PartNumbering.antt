-- Partitions by the number of each member's part: which part a member is in, and which members lie together.
use Rattle.std.proofs.Common.{◌≡◌, refl, sym, ap, ◌∙◌, ℕ, suc, ◌+◌, ◌≤◌, ◌<◌, Bool, true, false, ◌&&◌, ◌||◌, if◌then◌else◌, List, [], ◌∷◌, map, filter, ℤ, pos, negsuc, Some, None, nat_le, arith}
use Rattle.std.proofs.lemmas.Int.{ints}
use Rattle.std.specs.Prelude.{int_le}
use Rattle.std.specs.List.{list_all, list_any}
use Rattle.ess_semantics.specs.Values.{Value, number, items_of, pair, from_of, to_of, itself}
use Rattle.ess_semantics.specs.Order.{same, same_int}
use Rattle.ess_semantics.specs.Collections.{holds, count, set_of, sorted_once, no_twice}
use Rattle.ess_semantics.specs.Numbers.{one_to}
use Rattle.ess_semantics.specs.Operators.{part_with, within}
use Rattle.ess_semantics.specs.FunctionLayers.{with_arguments}
use Rattle.ess_semantics.specs.PartitionLayers.{members_numbered, is_part_number}
use Rattle.ess_semantics.proofs.Tests.{and-left, and-right, and-both, or-left-no, or-right-no, or-yes, both-ways}
use Rattle.ess_semantics.proofs.Orders.{to_list-of_list, same-equal, same-itself, same_int-equal, same_int-itself}
use Rattle.ess_semantics.proofs.Sorting.{Distinct, holds-sorted_once, all-holds, twice-distinct}
use Rattle.ess_repr_laws.proofs.PartNumbers.{le-is, numbered-holds, parts-from, from-parts}
use Rattle.ess_repr_laws.proofs.NumberedParts.{any-held, found-value}
use Rattle.ess_rules_laws.proofs.ListedItems.{count-sorted_once}

no : {A : Type 0} → false ≡ true → A
no h = cc

-- ---- the part with a member

-- The only item that has a member is the part with it.
pub found-part : (ps : List Value) (a q : Value) → ((p : Value) → holds ps p ≡ true → holds (items_of p) a ≡ true → p ≡ q) →
    holds ps q ≡ true → holds (items_of q) a ≡ true → part_with ps a ≡ Some q
found-part [] a q only h i = no h
found-part (p ∷ ps) a q only h i = go (holds (items_of p) a) refl (same p q) refl h
    (λ h. found-part ps a q (λ r z y. only r (ap (λ b. same p r || b) z ∙ or-yes (same p r)) y) h i)
  where
    go : (b : Bool) → holds (items_of p) a ≡ b → (c : Bool) → same p q ≡ c → c || holds ps q ≡ true →
        (holds ps q ≡ true → part_with ps a ≡ Some q) → (if b then Some p else part_with ps a) ≡ Some q
    go true e c s h r = ap Some (only p (ap (λ b. b || holds ps p) (same-itself p)) e)
    go false e true s h r = no (sym e ∙ ap (λ z. holds (items_of z) a) (same-equal p q s) ∙ i)
    go false e false s h r = r h

-- Where none has it there is none.
pub no-part : (ps : List Value) (a : Value) → ((p : Value) → holds ps p ≡ true → holds (items_of p) a ≡ false) → part_with ps a ≡ None
no-part [] a h = refl
no-part (p ∷ ps) a h = ap (λ b. if b then Some p else part_with ps a) (h p (ap (λ b. b || holds ps p) (same-itself p)))
    ∙ no-part ps a (λ r z. h r (ap (λ b. same p r || b) z ∙ or-yes (same p r)))

-- The arguments of the pairs whose second part is a number.
pub arguments-numbered : (xs : List Value) (ws : List ℤ) (k : ℤ) →
    map from_of (filter (λ p. same (to_of p) (number k)) (with_arguments xs (map number ws))) ≡ members_numbered xs ws k
arguments-numbered [] ws k = refl
arguments-numbered (x ∷ xs) [] k = refl
arguments-numbered (x ∷ xs) (w ∷ ws) k = go (same_int w k) (arguments-numbered xs ws k)
  where
    F : List Value
    F = filter (λ p. same (to_of p) (number k)) (with_arguments xs (map number ws))

    go : (b : Bool) → map from_of F ≡ members_numbered xs ws k →
        map from_of (if b then pair x (number w) ∷ F else F) ≡
        (if b then x ∷ members_numbered xs ws k else members_numbered xs ws k)
    go true h = ap (λ l. x ∷ l) h
    go false h = h

-- ---- lists without repeats

none-there : (xs : List Value) (v : Value) → holds xs v ≡ false → count xs v ≡ 0
none-there [] v h = refl
none-there (x ∷ xs) v h = ap (λ b. if b then suc (count xs v) else count xs v) (or-left-no (same x v) (holds xs v) h)
    ∙ none-there xs v (or-right-no (same x v) (holds xs v) h)

once-there : (xs : List Value) → Distinct xs → (v : Value) → holds xs v ≡ true → count xs v ≡ 1
once-there [] d v h = no h
once-there (x ∷ xs) d v h = go (same x v) refl h (once-there xs d.1 v)
  where
    go : (b : Bool) → same x v ≡ b → b || holds xs v ≡ true → (holds xs v ≡ true → count xs v ≡ 1) →
        (if b then suc (count xs v) else count xs v) ≡ 1
    go true s h r = ap suc (none-there xs v (ap (holds xs) (sym (same-equal x v s)) ∙ d.0))
    go false s h r = r h

-- Tests that agree on a list hold of the same lists within it.
pub all-same : (f g : Value → Bool) (xs ys : List Value) → ((v : Value) → holds ys v ≡ true → f v ≡ g v) →
    ((v : Value) → holds xs v ≡ true → holds ys v ≡ true) → list_all f xs ≡ list_all g xs
all-same f g [] ys h s = refl
all-same f g (x ∷ xs) ys h s = ap (λ b. b && list_all f xs) (h x (s x (ap (λ b. b || holds xs x) (same-itself x))))
    ∙ ap (λ b. g x && b) (all-same f g xs ys h (λ v z. s v (ap (λ b. same x v || b) z ∙ or-yes (same x v))))

-- A list without repeats lies within a set where each of its items does.
pub within-set : (s : Value) (ms : List Value) → no_twice itself (items_of s) ≡ true →
    within s (set_of ms) ≡ list_all (λ y. holds ms y) (items_of s)
within-set s ms d = all-same (λ x. nat_le (count (items_of s) x) (count (items_of (set_of ms)) x)) (λ y. holds ms y) (items_of s) (items_of s)
    (λ v h. ap (λ n. nat_le n (count (items_of (set_of ms)) v)) (once-there (items_of s) (twice-distinct (items_of s) d) v h)
    ∙ ap (λ l. nat_le 1 (count l v)) (to_list-of_list (sorted_once ms)) ∙ ap (nat_le 1) (count-sorted_once ms v) ∙ bit (holds ms v))
    (λ v h. h)
  where
    bit : (b : Bool) → nat_le 1 (if b then 1 else 0) ≡ b
    bit true = refl
    bit false = refl

any-map : (f : Value → Bool) (g : ℤ → Value) (ks : List ℤ) → list_any f (map g ks) ≡ list_any (λ k. f (g k)) ks
any-map f g [] = refl
any-map f g (k ∷ ks) = ap (λ b. f (g k) || b) (any-map f g ks)

any-sorted : (f : Value → Bool) (xs : List Value) → list_any f (sorted_once xs) ≡ list_any f xs
any-sorted f xs = both-ways (list_any f (sorted_once xs)) (list_any f xs)
    (λ h. let t = found-value f (sorted_once xs) h in any-held f xs t.0 (sym (holds-sorted_once xs t.0) ∙ t.1) t.2)
    (λ h. let t = found-value f xs h in any-held f (sorted_once xs) t.0 (holds-sorted_once xs t.0 ∙ t.1) t.2)

-- Tests that agree.
pub any-each : (f g : ℤ → Bool) (ks : List ℤ) → ((k : ℤ) → f k ≡ g k) → list_any f ks ≡ list_any g ks
any-each f g [] h = refl
any-each f g (k ∷ ks) h = ap (λ b. b || list_any f ks) (h k) ∙ ap (λ b. g k || b) (any-each f g ks h)

all-each : (f g : Value → Bool) (xs : List Value) → ((v : Value) → f v ≡ g v) → list_all f xs ≡ list_all g xs
all-each f g [] h = refl
all-each f g (x ∷ xs) h = ap (λ b. b && list_all f xs) (h x) ∙ ap (λ b. g x && b) (all-each f g xs h)

all-map : (f : ℤ → Bool) (w : Value → ℤ) (xs : List Value) → list_all f (map w xs) ≡ list_all (λ x. f (w x)) xs
all-map f w [] = refl
all-map f w (x ∷ xs) = ap (λ b. f (w x) && b) (all-map f w xs)

-- ---- parts by number

module _ (xs : List Value) (w : Value → ℤ) (c : ℕ) where
  -- The members with a number.
  abbrev pub Part : ℤ → Value
  Part k = set_of (members_numbered xs (map w xs) k)

  abbrev pub Parts : List Value
  Parts = map (λ k. set_of (members_numbered xs (map w xs) k)) (one_to c)

  -- Whether a value is one of them.
  pub in-part : (k : ℤ) (v : Value) → holds (items_of (Part k)) v ≡ holds xs v && same_int (w v) k
  in-part k v = ap (λ l. holds l v) (to_list-of_list (sorted_once (members_numbered xs (map w xs) k)))
      ∙ holds-sorted_once (members_numbered xs (map w xs) k) v ∙ numbered-holds w xs k v

  -- A value of a part is a member, and the part is that with its number.
  pub only-part : (q v : Value) → holds Parts q ≡ true → holds (items_of q) v ≡ true → (holds xs v ≡ true) × (q ≡ Part (w v))
  only-part q v h i = let t = from-parts Part 1 c q h in
      let e : holds xs v && same_int (w v) (pos t.0) ≡ true = sym (in-part (pos t.0) v) ∙ ap (λ z. holds (items_of z) v) t.3 ∙ i in
      (and-left _ _ e, sym t.3 ∙ ap Part (sym (same_int-equal (w v) (pos t.0) (and-right _ _ e))))

  module _ (ranged : list_all (is_part_number c) (map w xs) ≡ true) where
    in-range : (z : ℤ) → is_part_number c z ≡ true → (n : ℕ) × (z ≡ pos n) × (1 ≤ n) × (n < 1 + c)
    in-range (pos n) h = let a = le-is (pos 1) (pos n) (and-left (int_le (pos 1) (pos n)) (int_le (pos n) (pos c)) h) in
        let b = le-is (pos n) (pos c) (and-right (int_le (pos 1) (pos n)) (int_le (pos n) (pos c)) h) in
        (n, refl, omega (arith, ints), omega (arith, ints))
    in-range (negsuc n) h =
        let a = le-is (pos 1) (negsuc n) (and-left (int_le (pos 1) (negsuc n)) (int_le (negsuc n) (pos c)) h) in absurd (omega (arith, ints))

    -- The number of a member is that of a part.
    pub number-of : (v : Value) → holds xs v ≡ true → (n : ℕ) × (w v ≡ pos n) × (1 ≤ n) × (n < 1 + c)
    number-of v h = in-range (w v) (all-holds (λ x. is_part_number c (w x)) xs v (sym (all-map (is_part_number c) w xs) ∙ ranged) h)

    -- The part of a member is one of them.
    pub own-part : (v : Value) → holds xs v ≡ true → holds Parts (Part (w v)) ≡ true
    own-part v h = let t = in-range (w v) (all-holds (λ x. is_part_number c (w x)) xs v (sym (all-map (is_part_number c) w xs) ∙ ranged) h) in
        ap (λ z. holds Parts (Part z)) t.1 ∙ parts-from Part 1 c t.0 t.2 t.3

    -- It is the part with the member.
    pub party-held : (v : Value) → holds xs v ≡ true → part_with (sorted_once Parts) v ≡ Some (Part (w v))
    party-held v h = found-part (sorted_once Parts) v (Part (w v))
        (λ p z y. (only-part p v (sym (holds-sorted_once Parts p) ∙ z) y).1) (holds-sorted_once Parts (Part (w v)) ∙ own-part v h)
        (in-part (w v) v ∙ and-both (holds xs v) (same_int (w v) (w v)) h (same_int-itself (w v)))

  -- What is no member has none.
  pub party-none : (v : Value) → holds xs v ≡ false → part_with (sorted_once Parts) v ≡ None
  party-none v h = no-part (sorted_once Parts) v (λ p z. go p z (holds (items_of p) v) refl)
    where
      go : (p : Value) → holds (sorted_once Parts) p ≡ true → (b : Bool) → holds (items_of p) v ≡ b → b ≡ false
      go p z true e = no (sym h ∙ (only-part p v (sym (holds-sorted_once Parts p) ∙ z) e).0)
      go p z false e = refl

  -- Values lie in one part where some number is that of all.
  pub together-numbered : (s : Value) → no_twice itself (items_of s) ≡ true → list_any (λ q. within s q) (sorted_once Parts) ≡
      list_any (λ k. list_all (λ y. holds xs y && same_int (w y) k) (items_of s)) (one_to c)
  together-numbered s d = any-sorted (λ q. within s q) Parts ∙ any-map (λ q. within s q) Part (one_to c)
      ∙ any-each (λ k. within s (Part k)) _ (one_to c) (λ k. within-set s (members_numbered xs (map w xs) k) d
      ∙ all-each (λ y. holds (members_numbered xs (map w xs) k) y) (λ y. holds xs y && same_int (w y) k) (items_of s)
      (λ y. numbered-holds w xs k y))
