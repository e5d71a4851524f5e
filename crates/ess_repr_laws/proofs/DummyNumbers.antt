-- Numbers and the dummy above them.
use Rattle.std.proofs.Common.{◌≡◌, refl, sym, ap, ◌∙◌, subst, ℕ, ◌≤◌, ◌<◌, Bool, true, false, ◌&&◌, ◌||◌, [], ◌∷◌, ℤ, pos, ◌+ℤ◌, ◌≤ℤ◌, ◌<ℤ◌, Some, option_map, nat_le, int_le, int_lt, arith, eq-or-lt_of_le, ◌⊎◌, inl, inr}
use Rattle.std.proofs.lemmas.Int.{ints}
use Rattle.std.proofs.lemmas.Bool.{leb-true, cases_lt}
use Rattle.std.specs.Ordering.{int_cmp, nat_cmp, is_lt, ordering_then}
use Rattle.std.specs.Ordering.{MatchOrdering}
use Rattle.std.specs.Cmp.{int_ranks, nat_cmp_is}
use Rattle.std.specs.declared.cmp.Ordering.TheVariants.{Less, Equal, Greater}
use Rattle.std.proofs.lemmas.Cmp.{tied_itself}
use Rattle.ess_semantics.specs.Lists.{is_none_or}
use Rattle.ess_semantics.specs.Values.{Text, Value, number, truth, item, node}
use Rattle.ess_semantics.specs.Order.{below, same_int, same_text, order_text}
use Rattle.ess_semantics.specs.Domains.{Span, Domain, integers, named}
use Rattle.ess_semantics.specs.Membership.{in_span, member}
use Rattle.ess_semantics.specs.Tables.{code, atom_value, is_cell}
use Rattle.ess_semantics.specs.Layers.{as_numbers}
use Rattle.ess_semantics.specs.SetLayers.{dummy_of, with_number}
use Rattle.ess_semantics.proofs.Tests.{and-left, and-right, and-both, or-yes}
use Rattle.ess_semantics.proofs.Orders.{same_int-equal, text_exact, text_total, equal-of}
use Rattle.ess_semantics.proofs.Sorting.{less-of}
use Rattle.ess_repr_laws.proofs.Dummies.{le-of}
use Rattle.ess_repr_laws.proofs.CellsOfOccurrences.{integer-coded, named-coded}

-- m is the dummy of d: no member's number, and above each.
pub record DummyOf (d : Domain) (m : ℤ) : Type 0 where
  pub is : dummy_of d ≡ Some m
  pub fits : is_cell (with_number (Some m) (as_numbers d)) m ≡ true
  pub inside : (x : Value) → member d x ≡ true → is_cell (with_number (Some m) (as_numbers d)) (code x) ≡ true
  pub apart : (x : Value) → member d x ≡ true → same_int m (code x) ≡ false
  pub back : (x : Value) → member d x ≡ true → atom_value d (code x) ≡ Some x
  pub low : (x y : Value) → member d x ≡ true → member d y ≡ true → below x y ≡ true → int_lt (code x) (code y) ≡ true

-- ---- numbers

-- The test of a smaller number.
pub lt-test : (a b : ℤ) → a <ℤ b → int_lt a b ≡ true
lt-test a b h = grind (arith, ints)

le-itself : (a : ℤ) → int_le a a ≡ true
le-itself a = grind (arith, ints)

-- The same of the order of numbers.
pub below-numbers : (a b : ℤ) → is_lt (int_cmp a b) ≡ true → int_lt a b ≡ true
below-numbers a b h = lt-test a b (subst (λ o. MatchOrdering o (a <ℤ b) (a ≡ b) (b <ℤ a)) (less-of (int_cmp a b) h) (int_ranks a b))

-- The same of natural numbers.
pub nat-less : (k j : ℕ) → nat_cmp k j ≡ Less → k < j
nat-less k j e = go (cases_lt k j)
  where
    last : (j ≡ k) ⊎ (j < k) → k < j
    last (inl q) = let z : Equal ≡ Less = nat_cmp_is k j Equal (sym q) ∙ e in cc
    last (inr q) = let z : Greater ≡ Less = nat_cmp_is k j Greater q ∙ e in cc

    go : (k < j) ⊎ (j ≤ k) → k < j
    go (inl h) = h
    go (inr h) = last (eq-or-lt_of_le h)

not-same : (m k : ℤ) → k <ℤ m → same_int m k ≡ false
not-same m k l = go (same_int m k) refl
  where
    go : (b : Bool) → same_int m k ≡ b → same_int m k ≡ false
    go false e = e
    go true e = let q : m ≡ k = same_int-equal m k e in absurd (omega (arith, ints))

-- The dummy of one range is the number above its bound.
pub integers-dummy : (s : Span) (b : ℤ) → s.high ≡ Some b → DummyOf (integers (s ∷ [])) (b +ℤ pos 1)
integers-dummy s b q = record {
  is = ap (option_map (λ b. b +ℤ pos 1)) q;
  fits = ap (λ c. in_span m s || ((c && c) || false)) (le-itself m) ∙ or-yes (in_span m s);
  inside = inside';
  apart = apart';
  back = back';
  low = low';
}
  where
    m : ℤ
    m = b +ℤ pos 1

    inside' : (x : Value) → member (integers (s ∷ [])) x ≡ true → is_cell (with_number (Some m) (integers (s ∷ []))) (code x) ≡ true
    inside' (number n) h = go (in_span n s) h
      where
        go : (c : Bool) → c || false ≡ true → c || ((int_le m n && int_le n m) || false) ≡ true
        go true h = refl
        go false h = cc
    inside' (truth c) h = cc
    inside' (item t k) h = cc
    inside' (node k vs) h = cc

    apart' : (x : Value) → member (integers (s ∷ [])) x ≡ true → same_int m (code x) ≡ false
    apart' (number n) h =
        let t : in_span n s ≡ true = go (in_span n s) h in
        let l : n ≤ℤ b = le-of n b (sym (ap (λ o. is_none_or o (λ b. int_le n b)) q) ∙ and-right (is_none_or s.low (λ a. int_le a n)) (is_none_or s.high (λ b. int_le n b)) t) in
        not-same m n (omega (arith, ints))
      where
        go : (c : Bool) → c || false ≡ true → c ≡ true
        go true h = refl
        go false h = h
    apart' (truth c) h = cc
    apart' (item t k) h = cc
    apart' (node k vs) h = cc

    back' : (x : Value) → member (integers (s ∷ [])) x ≡ true → atom_value (integers (s ∷ [])) (code x) ≡ Some x
    back' x h = let c = integer-coded (s ∷ []) x h in c.back

    low' : (x y : Value) → member (integers (s ∷ [])) x ≡ true → member (integers (s ∷ [])) y ≡ true → below x y ≡ true → int_lt (code x) (code y) ≡ true
    low' (number a) (number b) h k l = below-numbers a b l
    low' (number a) (truth c) h k l = cc
    low' (number a) (item t j) h k l = cc
    low' (number a) (node j vs) h k l = cc
    low' (truth c) y h k l = cc
    low' (item t j) y h k l = cc
    low' (node j vs) y h k l = cc

-- The dummy of a type of n values is n + 1.
pub named-dummy : (t : Text) (n : ℕ) → DummyOf (named t n) (pos n +ℤ pos 1)
named-dummy t n = record {
  is = refl;
  fits = ap (λ c. (int_le (pos 1) m && int_le m (pos n)) || ((c && c) || false)) (le-itself m) ∙ or-yes (int_le (pos 1) m && int_le m (pos n));
  inside = inside';
  apart = apart';
  back = λ x h. let c = named-coded t n x h in c.back;
  low = low';
}
  where
    m : ℤ
    m = pos n +ℤ pos 1

    inside' : (x : Value) → member (named t n) x ≡ true → is_cell (with_number (Some m) (as_numbers (named t n))) (code x) ≡ true
    inside' (item u k) h =
        ap (λ c. c || ((int_le m (pos k) && int_le (pos k) m) || false))
        (and-both (nat_le 1 k) (nat_le k n) (and-right (same_text t u) (nat_le 1 k) (and-left (same_text t u && nat_le 1 k) (nat_le k n) h)) (and-right (same_text t u && nat_le 1 k) (nat_le k n) h))
    inside' (number k) h = cc
    inside' (truth c) h = cc
    inside' (node k vs) h = cc

    apart' : (x : Value) → member (named t n) x ≡ true → same_int m (code x) ≡ false
    apart' (item u k) h = let l : k ≤ n = leb-true k n (and-right (same_text t u && nat_le 1 k) (nat_le k n) h) in not-same m (pos k) (omega (arith, ints))
    apart' (number k) h = cc
    apart' (truth c) h = cc
    apart' (node k vs) h = cc

    low' : (x y : Value) → member (named t n) x ≡ true → member (named t n) y ≡ true → below x y ≡ true → int_lt (code x) (code y) ≡ true
    low' (item u k) (item w j) h g l = lt-test (pos k) (pos j) (let s = smaller in omega (arith, ints))
      where
        type : (u : Text) (k : ℕ) → same_text t u && nat_le 1 k && nat_le k n ≡ true → t ≡ u
        type u k p = text_exact t u (equal-of (order_text t u) (and-left (same_text t u) (nat_le 1 k) (and-left (same_text t u && nat_le 1 k) (nat_le k n) p)))

        names : u ≡ w
        names = sym (type u k h) ∙ type w j g

        smaller : k < j
        smaller =
            nat-less k j (less-of (nat_cmp k j) (sym (ap (λ o. is_lt (ordering_then o (nat_cmp k j))) (ap (λ v. order_text u v) (sym names) ∙ tied_itself text_total u)) ∙ l))
    low' (item u k) (number j) h g l = cc
    low' (item u k) (truth c) h g l = cc
    low' (item u k) (node j vs) h g l = cc
    low' (number k) y h g l = cc
    low' (truth c) y h g l = cc
    low' (node k vs) y h g l = cc
