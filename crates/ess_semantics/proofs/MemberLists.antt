-- The list of an atom's members rises, and each item is a member.
use Rattle.std.proofs.Common.{◌≡◌, refl, sym, ap, ◌∙◌, ℕ, zero, suc, ◌+◌, ◌≤◌, Bool, true, ◌&&◌, ◌||◌, List, [], ◌∷◌, ◌++◌, map, ℤ, pos, negsuc, ◌+ℤ◌, ◌-ℤ◌, ◌≤ℤ◌, Option, Some, None, option_map, int_le, nat_le, arith, le_refl}
use Rattle.std.proofs.lemmas.Bool.{le-leb}
use Rattle.std.proofs.lemmas.Int.{ints}
use Rattle.std.specs.List.{list_all, list_any}
use Rattle.std.specs.Ordering.{is_lt, is_eq, ordering_then, nat_cmp}
use Rattle.std.specs.Cmp.{nat_cmp_is}
use Rattle.std.specs.declared.cmp.Ordering.TheVariants.{Less}
use Rattle.std.proofs.lemmas.Cmp.{tied_itself}
use Rattle.ess_semantics.specs.Lists.{and_then, all_some, append_all, is_none_or, list_or_none}
use Rattle.ess_semantics.specs.Values.{Text, Value, number, item, itself}
use Rattle.ess_semantics.specs.Order.{below, same_text}
use Rattle.ess_semantics.specs.Collections.{sorted_once, rises}
use Rattle.ess_semantics.specs.Numbers.{natural}
use Rattle.ess_semantics.specs.Domains.{Span, Domain, booleans, integers, named, numbers_up, interval, span_members, items_from}
use Rattle.ess_semantics.specs.Membership.{in_span, member}
use Rattle.ess_semantics.specs.Atoms.{IsAtom, Listed}
use Rattle.ess_semantics.proofs.Tests.{and-left, and-right, and-both, or-yes}
use Rattle.ess_semantics.proofs.Orders.{text_total}
use Rattle.ess_semantics.proofs.Sorting.{sorted_once-rises, all-sorted_once}

pub booleans-listed : Listed booleans
booleans-listed = record { sorted = refl; members = refl }

-- ---- named types

next-item : (t : Text) (k : ℕ) → below (item t k) (item t (suc k)) ≡ true
next-item t k =
    ap (λ o. is_lt (ordering_then o (nat_cmp k (suc k)))) (tied_itself text_total t)
    ∙ ap is_lt (sym (nat_cmp_is k (suc k) Less (omega arith)))

items-rise : (t : Text) (k n : ℕ) → rises itself (items_from t k n) ≡ true
items-rise t k zero = refl
items-rise t k (suc zero) = refl
items-rise t k (suc (suc n)) = and-both (below (item t k) (item t (suc k))) (rises itself (items_from t (suc k) (suc n))) (next-item t k) (items-rise t (suc k) (suc n))

items-members : (t : Text) (k n m : ℕ) → 1 ≤ k → k + n ≤ m + 1 → list_all (member (named t m)) (items_from t k n) ≡ true
items-members t k zero m p q = refl
items-members t k (suc n) m p q =
    and-both (same_text t t && nat_le 1 k && nat_le k m) (list_all (member (named t m)) (items_from t (suc k) n))
    (and-both (same_text t t && nat_le 1 k) (nat_le k m) (and-both (same_text t t) (nat_le 1 k) (ap is_eq (tied_itself text_total t)) (le-leb 1 k p)) (le-leb k m (omega arith)))
    (items-members t (suc k) n m (omega arith) (omega arith))

pub named-listed : (t : Text) (n : ℕ) → Listed (named t n)
named-listed t n = record { sorted = items-rise t 1 n; members = items-members t 1 n n (le_refl 1) (omega arith) }

-- ---- numbers

le-test : (a b : ℤ) → a ≤ℤ b → int_le a b ≡ true
le-test a b h = grind (arith, ints)

numbers-within : (lo b a : ℤ) (n : ℕ) → lo ≤ℤ a → (a +ℤ pos n) ≤ℤ (b +ℤ pos 1) → (f : Value → Bool) → ((k : ℤ) → int_le lo k ≡ true → int_le k b ≡ true → f (number k) ≡ true) → list_all f (numbers_up a n) ≡ true
numbers-within lo b a zero p q f h = refl
numbers-within lo b a (suc n) p q f h =
    and-both (f (number a)) (list_all f (numbers_up (a +ℤ pos 1) n)) (h a (le-test lo a p) (le-test a b (omega (arith, ints))))
    (numbers-within lo b (a +ℤ pos 1) n (omega (arith, ints)) (omega (arith, ints)) f h)

-- The numbers from a bound to a bound lie between them.
interval-within : (a b : ℤ) (f : Value → Bool) → ((k : ℤ) → int_le a k ≡ true → int_le k b ≡ true → f (number k) ≡ true) → list_all f (interval a b) ≡ true
interval-within a b f h = go ((b -ℤ a) +ℤ pos 1) refl
  where
    go : (m : ℤ) → (b -ℤ a) +ℤ pos 1 ≡ m → list_all f (numbers_up a (natural m)) ≡ true
    go (pos n) e = numbers-within a b a n (omega (arith, ints)) (omega (arith, ints)) f h
    go (negsuc n) e = refl

all-append : (f : Value → Bool) (xs ys : List Value) → list_all f xs ≡ true → list_all f ys ≡ true → list_all f (xs ++ ys) ≡ true
all-append f [] ys p q = q
all-append f (x ∷ xs) ys p q = and-both (f x) (list_all f (xs ++ ys)) (and-left (f x) (list_all f xs) p) (all-append f xs ys (and-right (f x) (list_all f xs) p) q)

span-within : (s : Span) (f : Value → Bool) → ((k : ℤ) → in_span k s ≡ true → f (number k) ≡ true) → (vs : List Value) → span_members s ≡ Some vs → list_all f vs ≡ true
span-within s f h vs q = go s.low s.high h q
  where
    go : (lo hi : Option ℤ) → ((k : ℤ) → is_none_or lo (λ a. int_le a k) && is_none_or hi (λ b. int_le k b) ≡ true → f (number k) ≡ true) →
        and_then lo (λ a. and_then hi (λ b. Some (interval a b))) ≡ Some vs → list_all f vs ≡ true
    go None hi h q = cc
    go (Some a) None h q = cc
    go (Some a) (Some b) h q =
        let e : interval a b ≡ vs = cc in
        ap (list_all f) (sym e) ∙ interval-within a b f (λ k p r. h k (and-both (int_le a k) (int_le k b) p r))

-- Each number of the ranges ss lies in one of them.
spans-within : (ss : List Span) (f : Value → Bool) → ((k : ℤ) → list_any (in_span k) ss ≡ true → f (number k) ≡ true) → (ls : List (List Value)) → all_some (map span_members ss) ≡ Some ls → list_all f (append_all ls) ≡ true
spans-within [] f h ls q = let e : [] ≡ ls = cc in ap (λ l. list_all f (append_all l)) (sym e)
spans-within (s ∷ ss) f h ls q = go (span_members s) (all_some (map span_members ss)) refl refl q (spans-within ss f (λ k e. h k (ap (λ b. in_span k s || b) e ∙ or-yes (in_span k s))))
  where
    go : (o : Option (List Value)) (p : Option (List (List Value))) → span_members s ≡ o → all_some (map span_members ss) ≡ p → and_then o (λ x. option_map (λ xs. x ∷ xs) p) ≡ Some ls →
        ((ls : List (List Value)) → all_some (map span_members ss) ≡ Some ls → list_all f (append_all ls) ≡ true) → list_all f (append_all ls) ≡ true
    go None p a b q ih = cc
    go (Some vs) None a b q ih = cc
    go (Some vs) (Some us) a b q ih =
        let e : vs ∷ us ≡ ls = cc in
        ap (λ l. list_all f (append_all l)) (sym e)
        ∙ all-append f vs (append_all us) (span-within s f (λ k r. h k (ap (λ b. b || list_any (in_span k) ss) r)) vs a) (ih us b)

pub integers-listed : (ss : List Span) → Listed (integers ss)
integers-listed [] = record { sorted = refl; members = refl }
integers-listed (s ∷ ss) = go (all_some (map span_members (s ∷ ss))) refl
  where
    go : (o : Option (List (List Value))) → all_some (map span_members (s ∷ ss)) ≡ o → Listed (integers (s ∷ ss))
    go None q = record {
      sorted = ap (λ o. rises itself (list_or_none (option_map (λ ls. sorted_once (append_all ls)) o))) q;
      members = ap (λ o. list_all (member (integers (s ∷ ss))) (list_or_none (option_map (λ ls. sorted_once (append_all ls)) o))) q;
    }
    go (Some ls) q = record {
      sorted = ap (λ o. rises itself (list_or_none (option_map (λ ls. sorted_once (append_all ls)) o))) q ∙ sorted_once-rises (append_all ls);
      members = ap (λ o. list_all (member (integers (s ∷ ss))) (list_or_none (option_map (λ ls. sorted_once (append_all ls)) o))) q
          ∙ all-sorted_once (member (integers (s ∷ ss))) (append_all ls) ∙ spans-within (s ∷ ss) (member (integers (s ∷ ss))) (λ k e. e) ls q;
    }

-- ---- atoms

pub atom-listed : (d : Domain) → IsAtom d → Listed d
atom-listed booleans a = booleans-listed
atom-listed (integers ss) a = integers-listed ss
atom-listed (named t n) a = named-listed t n
atom-listed _ a = absurd a
