-- Lists one behind the other: the item at a number is that of one of them, at the number less how many items the lists before it have.
use Rattle.std.proofs.Common.{◌≡◌, refl, sym, ap, ◌∙◌, ℕ, suc, ◌+◌, ◌<◌, Bool, true, false, ◌||◌, not, if◌then◌else◌, List, [], ◌∷◌, ◌++◌, map, length, pos, ◌+ℤ◌, ◌-ℤ◌, Option, Some, None, option_map, arith}
use Rattle.std.specs.Prelude.{filter}
use Rattle.std.proofs.lemmas.Int.{ints}
use Rattle.std.proofs.lemmas.List.{map-append}
use Rattle.ess_semantics.specs.declared.words.Op2.{Op2}
use Rattle.ess_semantics.specs.Lists.{and_then, append_all, list_or_none}
use Rattle.ess_semantics.specs.Values.{Value, number, truth, item, node, to_list, of_list, items_of, itself}
use Rattle.ess_semantics.specs.Order.{same, same_int, below}
use Rattle.ess_semantics.specs.Collections.{holds, rises}
use Rattle.ess_semantics.specs.Operators.{number_in, numbers_from, item_at, sum_of, value_of_binary}
use Rattle.ess_semantics.specs.Meaning.{collect, where_true}
use Rattle.ess_semantics.specs.Contexts.{Each}
use Rattle.ess_semantics.proofs.Orders.{order_total, same-equal, same-itself, same_int-equal, same_int-itself}
use Rattle.ess_semantics.proofs.Sorting.{below-less, not-both}
use Rattle.ess_semantics.proofs.Tests.{both-ways, or-yes}
use Rattle.ess_rules_laws.specs.Lookups.{found}
use Rattle.ess_ordered_laws.proofs.Places.{first-below, never-below-itself, rest-rises}
use Rattle.ess_ordered_laws.proofs.NumberedItems.{later-none}

-- ---- an item of a list

-- The item at a value, of those that are numbered from k on.
abbrev pub at_from : ℕ → List Value → Value → List Value
at_from k us w = found (item_at (of_list (numbers_from k us)) (of_list us) w)

-- The item at a value that may be there.
abbrev pub at_number : List Value → Option Value → List Value
at_number us None = []
at_number us (Some w) = at_from 1 us w

-- Of two lists, one behind the other.
at-both : (us vs : List Value) (k : ℕ) (w : Value) → at_from k (us ++ vs) w ≡ at_from k us w ++ at_from (k + length us) vs w
at-both [] vs k w = ap (λ n. at_from n vs w) (let e : k ≡ k + 0 = omega arith in e)
at-both (u ∷ us) vs k w = go (same (number (pos k)) w) refl (at-both us vs (suc k) w)
  where
    go : (b : Bool) → same (number (pos k)) w ≡ b → at_from (suc k) (us ++ vs) w ≡ at_from (suc k) us w ++ at_from (suc k + length us) vs w
        → found (if b then Some u else item_at (of_list (numbers_from (suc k) (us ++ vs))) (of_list (us ++ vs)) w)
        ≡ found (if b then Some u else item_at (of_list (numbers_from (suc k) us)) (of_list us) w) ++ at_from (k + suc (length us)) vs w
    go true s h = ap (λ o. u ∷ found o) (sym (
        ap (item_at (of_list (numbers_from (k + suc (length us)) vs)) (of_list vs)) (sym (same-equal (number (pos k)) w s))
        ∙ later-none vs (k + suc (length us)) k (omega arith)))
    go false s h = h ∙ ap (λ n. at_from (suc k) us w ++ at_from n vs w) (let e : suc k + length us ≡ k + suc (length us) = omega arith in e)

-- ---- a number less another one

-- The value less a number, as the operator has it.
abbrev pub less : Value → ℕ → Value
less (node k xs) c = node k (of_list (filter (λ x. not (holds (items_of (number (pos c))) x)) (to_list xs)))
less v c = number (number_in v -ℤ pos c)

-- So the operator has it.
pub less-is : (v : Value) (c : ℕ) → value_of_binary Op2.Minus v (number (pos c)) ≡ Some (less v c)
less-is (number n) c = refl
less-is (truth b) c = refl
less-is (item a n) c = refl
less-is (node k xs) c = refl

-- No number from 1 on is below 0.
never : (k c : ℕ) → 0 < k → same_int (pos k) (pos 0 -ℤ pos c) ≡ false
never k c h = go (same_int (pos k) (pos 0 -ℤ pos c)) refl
  where
    go : (b : Bool) → same_int (pos k) (pos 0 -ℤ pos c) ≡ b → b ≡ false
    go true q = let p : pos k ≡ pos 0 -ℤ pos c = same_int-equal (pos k) (pos 0 -ℤ pos c) q in let z : ⊥ = omega (arith, ints) in absurd z
    go false q = refl

-- A value is a number from 1 on where, less c, it is the one less c.
same-less : (j k c : ℕ) → j ≡ k + c → 0 < k → (w : Value) → same (number (pos j)) w ≡ same (number (pos k)) (less w c)
same-less j k c e h (number n) = both-ways (same_int (pos j) n) (same_int (pos k) (n -ℤ pos c))
    (λ q. let p : pos j ≡ n = same_int-equal (pos j) n q in let z : n -ℤ pos c ≡ pos k = omega (arith, ints) in
    ap (same_int (pos k)) z ∙ same_int-itself (pos k))
    (λ q. let p : pos k ≡ n -ℤ pos c = same_int-equal (pos k) (n -ℤ pos c) q in let z : n ≡ pos j = omega (arith, ints) in
    ap (same_int (pos j)) z ∙ same_int-itself (pos j))
same-less j k c e h (truth b) = sym (never k c h)
same-less j k c e h (item a n) = sym (never k c h)
same-less j k c e h (node a xs) = refl

-- The item at a number, of those that are numbered from c more on, is that at c less.
at-less : (us : List Value) (j k c : ℕ) → j ≡ k + c → 0 < k → (w : Value) → at_from j us w ≡ at_from k us (less w c)
at-less [] j k c e h w = refl
at-less (u ∷ us) j k c e h w =
    ap (λ b. found (if b then Some u else item_at (of_list (numbers_from (suc j) us)) (of_list us) w)) (same-less j k c e h w)
    ∙ go (same (number (pos k)) (less w c)) (at-less us (suc j) (suc k) c (omega arith) (omega arith) w)
  where
    go : (b : Bool) → at_from (suc j) us w ≡ at_from (suc k) us (less w c)
        → found (if b then Some u else item_at (of_list (numbers_from (suc j) us)) (of_list us) w)
        ≡ found (if b then Some u else item_at (of_list (numbers_from (suc k) us)) (of_list us) (less w c))
    go true q = refl
    go false q = q

-- ---- a list for each value

not-back : (a b : Value) → below a b ≡ true → below b a ≡ false
not-back a b p = go (below b a) refl
  where
    go : (c : Bool) → below b a ≡ c → c ≡ false
    go true q = absurd (not-both order_total a b (below-less a b p) (below-less b a q))
    go false q = refl

module _ (f : Value → List Value) where
  -- How many items the lists of the values below w have.
  abbrev pub count_at : List Value → Value → ℕ
  count_at [] w = 0
  count_at (u ∷ us) w = if below u w then length (f u) + count_at us w else count_at us w

  -- c says how many items are before each list, where there are k before the first.
  abbrev Counted : (Value → ℕ) → ℕ → List Value → Type 0
  Counted c k [] = Unit {0}
  Counted c k (v ∷ vs) = (c v ≡ k) × Counted c (k + length (f v)) vs

  -- So does what is the same at each value.
  same-counts : (c d : Value → ℕ) (vs : List Value) (k : ℕ) → ((v : Value) → holds vs v ≡ true → c v ≡ d v)
      → Counted c k vs → Counted d k vs
  same-counts c d [] k h n = tt
  same-counts c d (v ∷ vs) k h n = (
    sym (h v (ap (λ b. b || holds vs v) (same-itself v))) ∙ n.0,
    same-counts c d vs (k + length (f v)) (λ u q. h u (ap (λ b. same v u || b) q ∙ or-yes (same v u))) n.1,
  )

  -- None of those behind a value counts at it.
  none-counted : (u : Value) (us : List Value) → rises itself (u ∷ us) ≡ true → (ys : List Value)
      → ((v : Value) → holds ys v ≡ true → holds us v ≡ true) → count_at ys u ≡ 0
  none-counted u us r [] s = refl
  none-counted u us r (y ∷ ys) s = ap (λ b. if b then length (f y) + count_at ys u else count_at ys u)
      (not-back u y (first-below u us r y (s y (ap (λ b. b || holds ys y) (same-itself y)))))
      ∙ none-counted u us r ys (λ v h. s v (ap (λ b. same y v || b) h ∙ or-yes (same y v)))

  counted : (us : List Value) → rises itself us ≡ true → (k : ℕ) → Counted (λ v. k + count_at us v) k us
  counted [] r k = tt
  counted (u ∷ us) r k = (
    ap (λ n. k + n) (ap (λ b. if b then length (f u) + count_at us u else count_at us u) (never-below-itself u)
        ∙ none-counted u us r us (λ v h. h)) ∙ (let e : k + 0 ≡ k = omega arith in e),
    same-counts (λ v. (k + length (f u)) + count_at us v) (λ v. k + count_at (u ∷ us) v) us (k + length (f u))
        (λ v h. (let e : (k + length (f u)) + count_at us v ≡ k + (length (f u) + count_at us v) = omega arith in e)
        ∙ sym (ap (λ b. k + (if b then length (f u) + count_at us v else count_at us v)) (first-below u us r v h)))
        (counted us (rest-rises u us r) (k + length (f u))),
  )

  -- The item at a number less what is before, list for list.
  joined : (c : Value → ℕ) (w : Value) (vs : List Value) (k : ℕ) → Counted c k vs
      → append_all (map (λ v. at_from 1 (f v) (less w (c v))) vs) ≡ at_from (suc k) (append_all (map f vs)) w
  joined c w [] k h = refl
  joined c w (v ∷ vs) k h =
      ap (λ l. at_from 1 (f v) (less w (c v)) ++ l) (joined c w vs (k + length (f v)) h.1)
      ∙ ap (λ l. l ++ at_from (suc (k + length (f v))) (append_all (map f vs)) w)
      (ap (λ n. at_from 1 (f v) (less w n)) h.0 ∙ sym (at-less (f v) (suc k) 1 k (omega arith) (omega arith) w))
      ∙ ap (λ n. at_from (suc k) (f v) w ++ at_from n (append_all (map f vs)) w)
      (let e : suc (k + length (f v)) ≡ suc k + length (f v) = omega arith in e)
      ∙ sym (at-both (f v) (append_all (map f vs)) (suc k) w)

  abbrev Nothing : Value → List Value
  Nothing v = []

  nothing-joined : (vs : List Value) → append_all (map Nothing vs) ≡ []
  nothing-joined [] = refl
  nothing-joined (v ∷ vs) = nothing-joined vs

  -- Of the lists of values that rise, the item at a number is what each list has at that number less how many items are before it.
  pub all-joined : (vs : List Value) → rises itself vs ≡ true → (o : Option Value)
      → append_all (map (λ v. at_number (f v) (option_map (λ w. less w (count_at vs v)) o)) vs) ≡ at_number (append_all (map f vs)) o
  all-joined vs r None = nothing-joined vs
  all-joined vs r (Some w) = joined (count_at vs) w vs 0
      (same-counts (λ v. 0 + count_at vs v) (count_at vs) vs 0 (λ v h. let e : 0 + count_at vs v ≡ count_at vs v = omega arith in e)
      (counted vs r 0))

-- ---- what is collected

-- A list for each value.
pub collect-is : (vs : List Value) (G : Value → Option (List Value)) (g : Value → List Value) → Each vs (λ v. G v ≡ Some (g v))
    → collect vs G ≡ Some (append_all (map g vs))
collect-is [] G g h = refl
collect-is (v ∷ vs) G g h = ap (λ o. and_then o (λ xs. option_map (λ ys. xs ++ ys) (collect vs G))) h.0
    ∙ ap (option_map (λ ys. g v ++ ys)) (collect-is vs G g h.1)

-- Where all is collected, each list is there.
pub each-collected : (vs : List Value) (G : Value → Option (List Value)) (us : List Value) → collect vs G ≡ Some us
    → Each vs (λ v. G v ≡ Some (list_or_none (G v)))
each-collected [] G us q = tt
each-collected (v ∷ vs) G us q = go (G v) (collect vs G) refl q (λ ws r. each-collected vs G ws r)
  where
    go : (o r : Option (List Value)) → collect vs G ≡ r → and_then o (λ xs. option_map (λ ys. xs ++ ys) r) ≡ Some us
        → ((ws : List Value) → collect vs G ≡ Some ws → Each vs (λ v. G v ≡ Some (list_or_none (G v))))
        → (o ≡ Some (list_or_none o)) × Each vs (λ v. G v ≡ Some (list_or_none (G v)))
    go None r p q k = cc
    go (Some xs) None p q k = cc
    go (Some xs) (Some ws) p q k = (refl, k ws p)

-- ---- what is counted

-- A 1 for each value.
abbrev pub a_one : Value → Value
a_one u = number (pos 1)

-- A 1 for each item of the lists of the values below w.
abbrev pub ones_at : (Value → List Value) → List Value → Value → List Value
ones_at f [] w = []
ones_at f (u ∷ us) w = if below u w then map a_one (f u) ++ ones_at f us w else ones_at f us w

sum-ones : (xs ys : List Value) → sum_of (map a_one xs ++ ys) ≡ pos (length xs) +ℤ sum_of ys
sum-ones [] ys = let e : sum_of ys ≡ pos 0 +ℤ sum_of ys = omega (arith, ints) in e
sum-ones (x ∷ xs) ys = ap (λ z. pos 1 +ℤ z) (sum-ones xs ys)
    ∙ (let e : pos 1 +ℤ (pos (length xs) +ℤ sum_of ys) ≡ pos (suc (length xs)) +ℤ sum_of ys = omega (arith, ints) in e)

-- Their sum.
pub ones_at-sum : (f : Value → List Value) (us : List Value) (w : Value) → sum_of (ones_at f us w) ≡ pos (count_at f us w)
ones_at-sum f [] w = refl
ones_at-sum f (u ∷ us) w = go (below u w) (ones_at-sum f us w)
  where
    go : (b : Bool) → sum_of (ones_at f us w) ≡ pos (count_at f us w)
        → sum_of (if b then map a_one (f u) ++ ones_at f us w else ones_at f us w)
        ≡ pos (if b then length (f u) + count_at f us w else count_at f us w)
    go true h = sum-ones (f u) (ones_at f us w) ∙ ap (λ z. pos (length (f u)) +ℤ z) h
        ∙ (let e : pos (length (f u)) +ℤ pos (count_at f us w) ≡ pos (length (f u) + count_at f us w) = omega (arith, ints) in e)
    go false h = h

-- What is collected.
pub collect-ones_at : (f : Value → List Value) (w : Value) (G : Value → Option (List Value)) (us : List Value)
    → Each us (λ u. G u ≡ where_true (Some (truth (below u w))) (λ z. Some (map a_one (f u)))) → collect us G ≡ Some (ones_at f us w)
collect-ones_at f w G [] h = refl
collect-ones_at f w G (u ∷ us) h = ap (λ o. and_then o (λ xs. option_map (λ ys. xs ++ ys) (collect us G))) h.0
    ∙ go (below u w) (collect-ones_at f w G us h.1)
  where
    go : (b : Bool) → collect us G ≡ Some (ones_at f us w)
        → and_then (where_true (Some (truth b)) (λ z. Some (map a_one (f u)))) (λ xs. option_map (λ ys. xs ++ ys) (collect us G))
        ≡ Some (if b then map a_one (f u) ++ ones_at f us w else ones_at f us w)
    go true r = ap (option_map (λ ys. map a_one (f u) ++ ys)) r
    go false r = ap (option_map (λ ys. ys)) r

-- Where f gives items, g gives a 1 for each; so it is of what is collected.
pub ones-collected : (vs : List Value) (f g : Value → Option (List Value))
    → ((v : Value) (xs : List Value) → f v ≡ Some xs → g v ≡ Some (map a_one xs))
    → (xs : List Value) → collect vs f ≡ Some xs → collect vs g ≡ Some (map a_one xs)
ones-collected [] f g h xs q = ap (λ l. Some (map a_one l)) (let z : [] ≡ xs = cc in z)
ones-collected (v ∷ vs) f g h xs q = go (f v) refl (collect vs f) refl q (λ zs r. ones-collected vs f g h zs r)
  where
    go : (o : Option (List Value)) → f v ≡ o → (r : Option (List Value)) → collect vs f ≡ r
        → and_then o (λ ys. option_map (λ zs. ys ++ zs) r) ≡ Some xs
        → ((zs : List Value) → collect vs f ≡ Some zs → collect vs g ≡ Some (map a_one zs))
        → and_then (g v) (λ ys. option_map (λ zs. ys ++ zs) (collect vs g)) ≡ Some (map a_one xs)
    go None p r s q k = cc
    go (Some ys) p None s q k = cc
    go (Some ys) p (Some zs) s q k =
        ap (λ o. and_then o (λ ys. option_map (λ zs. ys ++ zs) (collect vs g))) (h v ys p)
        ∙ ap (option_map (λ zs. map a_one ys ++ zs)) (k zs s)
        ∙ ap Some (sym (map-append a_one ys zs) ∙ ap (map a_one) (let z : ys ++ zs ≡ xs = cc in z))
