-- The members of ranges that are gone through in the order of their lower ends are those of the domain of the ranges.
use Rattle.std.proofs.Common.{◌≡◌, refl, sym, ap, ◌∙◌, ℕ, zero, suc, ◌+◌, ℤ, pos, negsuc, ◌+ℤ◌, ◌-ℤ◌, ◌≤ℤ◌, int_le, Bool, true, false, ◌&&◌, ◌||◌, not, if◌then◌else◌, List, [], ◌∷◌, ◌++◌, map, length, slice_get, slice_index_or, Some, None, option_map, subst, IsPermutation, is_lt, arith}
use Rattle.std.specs.List.{list_any}
use Rattle.std.specs.Ordering.{int_cmp}
use Rattle.std.proofs.lemmas.Int.{ints}
use Rattle.std.proofs.lemmas.List.{map-append}
use Rattle.std.proofs.lemmas.List.Sorted.{list_any-IsPermutation, length_permutation}
use Rattle.ess_semantics.specs.Lists.{all_some, append_all}
use Rattle.ess_semantics.specs.Numbers.{natural}
use Rattle.ess_semantics.specs.Values.{Value, number, truth, item, node, itself}
use Rattle.ess_semantics.specs.Order.{same, same_int, same_ints, below}
use Rattle.ess_semantics.specs.Collections.{holds, rises, sorted_once}
use Rattle.ess_semantics.specs.Domains.{numbers_up, interval, span_members, int_members}
use Rattle.ess_semantics.specs.Trees.{int_dom}
use Rattle.ess_semantics.proofs.Tests.{and-both}
use Rattle.ess_semantics.proofs.Sorting.{one-sorted-list, sorted_once-rises, holds-sorted_once}
use Rattle.eprime_read_cells_laws.specs.CellMachine.{listed}
use Rattle.eprime_cells_laws.specs.TableReading.{is_index_of}
use Rattle.eprime_cells_machine.specs.declared.values.CellRange.{CellRange}
use Rattle.eprime_cells_machine.specs.ValueViews.{all_ends, all_bounds}
use Rattle.eprime_cells_parts.specs.declared.sweeping.Ends.{Ends}
use Rattle.eprime_cells_parts.specs.Numbers.{number_of, span_of}
use Rattle.eprime_cells_parts.specs.Sweeping.{ends_of, LowsRise, up_from, greater, swept}
use Rattle.eprime_cells_parts.proofs.ListsOver.{index_members}

-- ---- which numbers are held

holds-append : (xs ys : List Value) (v : Value) → holds (xs ++ ys) v ≡ holds xs v || holds ys v
holds-append [] ys v = refl
holds-append (x ∷ xs) ys v = ap (λ b. same x v || b) (holds-append xs ys v) ∙ or-assoc (same x v) (holds xs v) (holds ys v)
  where
    or-assoc : (a b c : Bool) → a || (b || c) ≡ (a || b) || c
    or-assoc true b c = refl
    or-assoc false b c = refl

up-is : (a : ℤ) (n : ℕ) (z : ℤ) → holds (numbers_up a n) (number z) ≡ int_le a z && int_le ((z -ℤ a) +ℤ pos 1) (pos n)
up-is a zero z = grind (arith, ints)
up-is a (suc n) z = ap (λ b. same_int a z || b) (up-is (a +ℤ pos 1) n z) ∙ grind (arith, ints)

before-end : (a e z : ℤ) → holds (numbers_up a (natural (e -ℤ a))) (number z) ≡ int_le a z && int_le (z +ℤ pos 1) e
before-end a e z = go (e -ℤ a) refl
  where
    go : (m : ℤ) → e -ℤ a ≡ m → holds (numbers_up a (natural m)) (number z) ≡ int_le a z && int_le (z +ℤ pos 1) e
    go (pos n) h = up-is a n z ∙ grind (arith, ints)
    go (negsuc n) h = grind (arith, ints)

interval-is : (a b z : ℤ) → holds (interval a b) (number z) ≡ int_le a z && int_le z b
interval-is a b z =
    ap (λ d. holds (numbers_up a (natural d)) (number z)) (let e : (b -ℤ a) +ℤ pos 1 ≡ (b +ℤ pos 1) -ℤ a = omega (arith, ints) in e)
    ∙ before-end a (b +ℤ pos 1) z
    ∙ ap (λ c. int_le a z && c) (let e : int_le (z +ℤ pos 1) (b +ℤ pos 1) ≡ int_le z b = grind (arith, ints) in e)

up-values : (a : ℤ) (n : ℕ) → map number (up_from a n) ≡ numbers_up a n
up-values a zero = refl
up-values a (suc n) = ap (λ l. number a ∷ l) (up-values (a +ℤ pos 1) n)

-- Whether a range has the number, and whether some range has it.
abbrev has : ℤ → Ends → Bool
has z r = int_le r.from z && int_le z r.to

-- No later range has a number below the lower end of an earlier one.
abbrev Rise : List Ends → Type 0
Rise [] = Unit {0}
Rise (r ∷ rs) = ((z : ℤ) → list_any (has z) rs ≡ true → r.from ≤ℤ z) × Rise rs

greater-le : (k a z : ℤ) → int_le (greater k a) z ≡ int_le k z && int_le a z
greater-le k a z = go (int_le k a) refl
  where
    go : (b : Bool) → int_le k a ≡ b → int_le (if b then a else k) z ≡ int_le k z && int_le a z
    go true h = grind (arith, ints)
    go false h = grind (arith, ints)

table : (K A B C : Bool) → (C ≡ true → A ≡ true) → ((K && A) && B) || ((K && not B) && C) ≡ K && ((A && B) || C)
table false A B C h = refl
table true true true C h = refl
table true true false C h = refl
table true false true true h = let e : false ≡ true = h refl in cc
table true false true false h = refl
table true false false true h = let e : false ≡ true = h refl in cc
table true false false false h = refl

swept-is : (k : ℤ) (rs : List Ends) (z : ℤ) → Rise rs → holds (map number (swept k rs)) (number z) ≡ int_le k z && list_any (has z) rs
swept-is k [] z h = and-no (int_le k z)
  where
    and-no : (b : Bool) → false ≡ b && false
    and-no true = refl
    and-no false = refl
swept-is k (r ∷ rs) z h =
    let g = greater k r.from in let e = r.to +ℤ pos 1 in
    ap (λ l. holds l (number z)) (map-append number (up_from g (natural (e -ℤ g))) (swept (greater k e) rs)
    ∙ ap (λ l. l ++ map number (swept (greater k e) rs)) (up-values g (natural (e -ℤ g))))
    ∙ holds-append (numbers_up g (natural (e -ℤ g))) (map number (swept (greater k e) rs)) (number z)
    ∙ ap (λ b. b || holds (map number (swept (greater k e) rs)) (number z))
    (before-end g e z ∙ ap (λ b. b && int_le (z +ℤ pos 1) e) (greater-le k r.from z)
    ∙ ap (λ b. (int_le k z && int_le r.from z) && b)
    (let y : int_le (z +ℤ pos 1) (r.to +ℤ pos 1) ≡ int_le z r.to = grind (arith, ints) in y))
    ∙ ap (λ b. ((int_le k z && int_le r.from z) && int_le z r.to) || b)
    (swept-is (greater k e) rs z h.1 ∙ ap (λ b. b && list_any (has z) rs)
    (greater-le k e z ∙ ap (λ b. int_le k z && b) (let y : int_le (r.to +ℤ pos 1) z ≡ not (int_le z r.to) = grind (arith, ints) in y)))
    ∙ table (int_le k z) (int_le r.from z) (int_le z r.to) (list_any (has z) rs) (λ c. let l : r.from ≤ℤ z = h.0 z c in grind (arith, ints))

-- ---- the members rise

-- A list of numbers from k on, each above the one before.
abbrev RisesFrom : ℤ → List ℤ → Type 0
RisesFrom k [] = Unit {0}
RisesFrom k (x ∷ xs) = (k ≤ℤ x) × RisesFrom (x +ℤ pos 1) xs

from-lower : (j k : ℤ) (xs : List ℤ) → j ≤ℤ k → RisesFrom k xs → RisesFrom j xs
from-lower j k [] h r = tt
from-lower j k (x ∷ xs) h r = (let l = r.0 in omega (arith, ints, h, l), r.1)

up-rises : (a : ℤ) (n : ℕ) (ys : List ℤ) → RisesFrom (a +ℤ pos n) ys → RisesFrom a (up_from a n ++ ys)
up-rises a zero ys h = from-lower a (a +ℤ pos 0) ys (omega (arith, ints)) h
up-rises a (suc n) ys h = (
  omega (arith, ints),
  up-rises (a +ℤ pos 1) n ys
      (from-lower ((a +ℤ pos 1) +ℤ pos n) (a +ℤ pos (suc n)) ys (omega (arith, ints)) h),
)

greater-first : (k a : ℤ) → k ≤ℤ greater k a
greater-first k a = go (int_le k a) refl
  where
    go : (b : Bool) → int_le k a ≡ b → k ≤ℤ (if b then a else k)
    go true h = grind (arith, ints)
    go false h = omega (arith, ints)

greater-second : (k a : ℤ) → a ≤ℤ greater k a
greater-second k a = go (int_le k a) refl
  where
    go : (b : Bool) → int_le k a ≡ b → a ≤ℤ (if b then a else k)
    go true h = omega (arith, ints)
    go false h = grind (arith, ints)

swept-rises : (k : ℤ) (rs : List Ends) → RisesFrom k (swept k rs)
swept-rises k [] = tt
swept-rises k (r ∷ rs) = go ((r.to +ℤ pos 1) -ℤ greater k r.from) refl (greater-first k r.from) (greater-first k (r.to +ℤ pos 1))
    (greater-second k (r.to +ℤ pos 1)) (swept-rises (greater k (r.to +ℤ pos 1)) rs)
  where
    go : (d : ℤ) → (r.to +ℤ pos 1) -ℤ greater k r.from ≡ d → k ≤ℤ greater k r.from → k ≤ℤ greater k (r.to +ℤ pos 1) →
        (r.to +ℤ pos 1) ≤ℤ greater k (r.to +ℤ pos 1) →
        RisesFrom (greater k (r.to +ℤ pos 1)) (swept (greater k (r.to +ℤ pos 1)) rs) →
        RisesFrom k (up_from (greater k r.from) (natural d) ++ swept (greater k (r.to +ℤ pos 1)) rs)
    go (pos n) e l m u h =
        from-lower k (greater k r.from) (up_from (greater k r.from) n ++ swept (greater k (r.to +ℤ pos 1)) rs) l
        (up-rises (greater k r.from) n (swept (greater k (r.to +ℤ pos 1)) rs)
        (from-lower (greater k r.from +ℤ pos n) (greater k (r.to +ℤ pos 1)) (swept (greater k (r.to +ℤ pos 1)) rs)
        (omega (arith, ints, e, u)) h))
    go (negsuc n) e l m u h = from-lower k (greater k (r.to +ℤ pos 1)) (swept (greater k (r.to +ℤ pos 1)) rs) m h

next-below : (x y : ℤ) → (x +ℤ pos 1) ≤ℤ y → below (number x) (number y) ≡ true
next-below x y h = grind (arith, ints)

values-rise : (k : ℤ) (xs : List ℤ) → RisesFrom k xs → rises itself (map number xs) ≡ true
values-rise k [] h = refl
values-rise k (x ∷ []) h = refl
values-rise k (x ∷ y ∷ ys) h = and-both (below (number x) (number y)) (rises itself (map number (y ∷ ys))) (next-below x y h.1.0)
    (values-rise (x +ℤ pos 1) (y ∷ ys) h.1)

-- ---- ranges in order

lows-tail : (r : Ends) (rs : List Ends) → LowsRise (r ∷ rs) → LowsRise rs
lows-tail r rs h k d a b =
    let at : suc (k + 1) ≡ suc k + 1 = omega arith in
    ap (λ j. is_lt (int_cmp (slice_index_or (r ∷ rs) j d).from (slice_index_or rs k d).from)) at
    ∙ h (suc k) d (omega arith) (omega (arith, b))

not-below : (x y : ℤ) → is_lt (int_cmp x y) ≡ false → y ≤ℤ x
not-below x y h = grind (arith, ints)

lows-first : (r : Ends) (rs : List Ends) (z : ℤ) → LowsRise (r ∷ rs) → list_any (has z) rs ≡ true → r.from ≤ℤ z
lows-first r [] z h e = cc
lows-first r (s ∷ ss) z h e = go (has z s) refl e (λ m. lows-first s ss z (lows-tail r (s ∷ ss) h) m)
  where
    next : r.from ≤ℤ s.from
    next = not-below s.from r.from (h 0 s (omega arith) (omega arith))

    go : (b : Bool) → has z s ≡ b → b || list_any (has z) ss ≡ true → (list_any (has z) ss ≡ true → s.from ≤ℤ z) → r.from ≤ℤ z
    go true k m f = let l = next in grind (arith, ints)
    go false k m f = let l = next in let u = f m in omega (arith, ints, l, u)

lows-rise : (rs : List Ends) → LowsRise rs → Rise rs
lows-rise [] h = tt
lows-rise (r ∷ rs) h = ((λ z e. lows-first r rs z h e), lows-rise rs (lows-tail r rs h))

-- ---- the domain of the ranges

all-listed : (rs : List CellRange) → all_some (map span_members (map span_of rs))
    ≡ Some (map (λ r. interval (ends_of r).from (ends_of r).to) rs)
all-listed [] = refl
all-listed (CellRange.One a ∷ rs) = ap (option_map (λ ls. interval (number_of a) (number_of a) ∷ ls)) (all-listed rs)
all-listed (CellRange.Span a b ∷ rs) = ap (option_map (λ ls. interval (number_of a) (number_of b) ∷ ls)) (all-listed rs)

intervals-are : (rs : List CellRange) (z : ℤ) → holds (append_all (map (λ r. interval (ends_of r).from (ends_of r).to) rs)) (number z)
    ≡ list_any (has z) (map ends_of rs)
intervals-are [] z = refl
intervals-are (r ∷ rs) z =
    holds-append (interval (ends_of r).from (ends_of r).to) (append_all (map (λ r. interval (ends_of r).from (ends_of r).to) rs)) (number z)
    ∙ ap (λ b. b || holds (append_all (map (λ r. interval (ends_of r).from (ends_of r).to) rs)) (number z))
    (interval-is (ends_of r).from (ends_of r).to z)
    ∙ ap (λ b. has z (ends_of r) || b) (intervals-are rs z)

-- ---- lists of numbers hold nothing else

abbrev is_number : Value → Bool
is_number (number z) = true
is_number (truth b) = false
is_number (item a n) = false
is_number (node k vs) = false

not-number : (a : ℤ) (v : Value) → is_number v ≡ false → same (number a) v ≡ false
not-number a (number z) h = cc
not-number a (truth b) h = refl
not-number a (item t n) h = refl
not-number a (node k vs) h = refl

none-up : (a : ℤ) (n : ℕ) (v : Value) → is_number v ≡ false → holds (numbers_up a n) v ≡ false
none-up a zero v h = refl
none-up a (suc n) v h = ap (λ b. b || holds (numbers_up (a +ℤ pos 1) n) v) (not-number a v h) ∙ none-up (a +ℤ pos 1) n v h

none-in : (ns : List ℤ) (v : Value) → is_number v ≡ false → holds (map number ns) v ≡ false
none-in [] v h = refl
none-in (n ∷ ns) v h = ap (λ b. b || holds (map number ns) v) (not-number n v h) ∙ none-in ns v h

-- The members of ranges, range by range.
abbrev by_range : List CellRange → List Value
by_range rs = append_all (map (λ r. interval (ends_of r).from (ends_of r).to) rs)

none-by-range : (rs : List CellRange) (v : Value) → is_number v ≡ false → holds (by_range rs) v ≡ false
none-by-range [] v h = refl
none-by-range (r ∷ rs) v h =
    holds-append (interval (ends_of r).from (ends_of r).to) (by_range rs) v
    ∙ ap (λ b. b || holds (by_range rs) v) (none-up (ends_of r).from (natural (((ends_of r).to -ℤ (ends_of r).from) +ℤ pos 1)) v h)
    ∙ none-by-range rs v h

same-held : (ns : List ℤ) (rs : List CellRange) → ((z : ℤ) → holds (map number ns) (number z) ≡ holds (by_range rs) (number z)) →
    (v : Value) → holds (map number ns) v ≡ holds (by_range rs) v
same-held ns rs h (number z) = h z
same-held ns rs h (truth b) = none-in ns (truth b) refl ∙ sym (none-by-range rs (truth b) refl)
same-held ns rs h (item t n) = none-in ns (item t n) refl ∙ sym (none-by-range rs (item t n) refl)
same-held ns rs h (node k vs) = none-in ns (node k vs) refl ∙ sym (none-by-range rs (node k vs) refl)

from-first : (f z : ℤ) (b : Bool) → (b ≡ true → f ≤ℤ z) → int_le f z && b ≡ b
from-first f z true h = let l = h refl in grind (arith, ints)
from-first f z false h = no (int_le f z)
  where
    no : (b : Bool) → b && false ≡ false
    no true = refl
    no false = refl

-- The members of ranges in order, from the lowest end on, are those of their domain.
swept-members : (r : CellRange) (rs : List CellRange) (es ss : List Ends) (f : ℤ) → es ≡ map ends_of (r ∷ rs) → IsPermutation es ss →
    LowsRise ss →
    ((z : ℤ) → list_any (has z) ss ≡ true → f ≤ℤ z) → Some (map number (swept f ss)) ≡ int_members (map span_of (r ∷ rs))
swept-members r rs es ss f e p l h =
    ap (λ vs. Some vs) (one-sorted-list (map number (swept f ss)) (sorted_once (by_range (r ∷ rs)))
    (values-rise f (swept f ss) (swept-rises f ss)) (sorted_once-rises (by_range (r ∷ rs)))
    (λ v. same-held (swept f ss) (r ∷ rs) numbers v ∙ sym (holds-sorted_once (by_range (r ∷ rs)) v)))
    ∙ sym (ap (option_map (λ ls. sorted_once (append_all ls))) (all-listed (r ∷ rs)))
  where
    numbers : (z : ℤ) → holds (map number (swept f ss)) (number z) ≡ holds (by_range (r ∷ rs)) (number z)
    numbers z =
        swept-is f ss z (lows-rise ss l)
        ∙ from-first f z (list_any (has z) ss) (h z)
        ∙ sym (list_any-IsPermutation (has z) es ss p)
        ∙ ap (list_any (has z)) e
        ∙ sym (intervals-are (r ∷ rs) z)

-- ---- index domains

first-lowest : (s : Ends) (ss : List Ends) (z : ℤ) → LowsRise (s ∷ ss) → list_any (has z) (s ∷ ss) ≡ true → s.from ≤ℤ z
first-lowest s ss z h e = go (has z s) refl e
  where
    go : (b : Bool) → has z s ≡ b → b || list_any (has z) ss ≡ true → s.from ≤ℤ z
    go true k m = grind (arith, ints)
    go false k m = lows-first s ss z h m

-- Ranges of which there is a lowest one have the members of an axis where the sweep from there on gives it.
pub index_swept : (axis : List ℤ) (rs : List CellRange) (es ss : List Ends) (s : Ends) → es ≡ map ends_of rs → IsPermutation es ss →
    LowsRise ss → slice_get ss 0 ≡ Some s →
    is_index_of axis (int_dom (all_ends rs) (listed (all_bounds rs))) ≡ same_ints (swept s.from ss) axis
index_swept axis rs es [] s e p l h = cc
index_swept axis [] es (t ∷ ss) s e p l h = absurd
    (let n = length_permutation es (t ∷ ss) p in let m : length es ≡ 0 = ap length e in omega (arith, n, m))
index_swept axis (r ∷ rs) es (t ∷ ss) s e p l h =
    let same : t ≡ s = cc in
    index_members axis (r ∷ rs) (Some (swept s.from (t ∷ ss)))
    (swept-members r rs es (t ∷ ss) s.from e p l (λ z k. subst (λ (u : Ends). u.from ≤ℤ z) same (first-lowest t ss z l k)))

-- No ranges have no list of members.
pub index_empty : (axis : List ℤ) (rs : List CellRange) (es ss : List Ends) → es ≡ map ends_of rs → IsPermutation es ss → slice_get ss 0
    ≡ None →
    is_index_of axis (int_dom (all_ends rs) (listed (all_bounds rs))) ≡ false
index_empty axis [] es ss e p h = index_members axis [] None refl
index_empty axis (r ∷ rs) es [] e p h = absurd
    (let n = length_permutation es [] p in let m : length es ≡ suc (length (map ends_of rs)) = ap length e in omega (arith, n, m))
index_empty axis (r ∷ rs) es (t ∷ ss) e p h = cc
