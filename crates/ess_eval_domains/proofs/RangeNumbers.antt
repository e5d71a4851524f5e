-- The numbers of ranges, number by number and range by range.
use Rattle.std.proofs.Common.{◌≡◌, refl, sym, ap, ◌∙◌, ℕ, zero, suc, ◌+◌, ◌<◌, Bool, true, false, ◌&&◌, List, [], ◌∷◌, ◌++◌, length, map, take, get_or, ℤ, pos, negsuc, ◌+ℤ◌, ◌-ℤ◌, ◌≤ℤ◌, Option, Some, None, option_map, is_some, arith}
use Rattle.std.proofs.lemmas.List.{append_assoc, append-nil, map_more, map_push}
use Rattle.std.proofs.lemmas.Int.{ints}
use Rattle.std.specs.List.{list_all}
use Rattle.std.specs.Ordering.{int_cmp, is_lt}
use Rattle.ess_semantics.specs.Lists.{and_then, all_some, append_all, list_or_none}
use Rattle.ess_semantics.specs.Values.{Value, number, itself}
use Rattle.ess_semantics.specs.Order.{below}
use Rattle.ess_semantics.specs.Numbers.{natural}
use Rattle.ess_semantics.specs.Collections.{sorted_once, rises}
use Rattle.ess_semantics.specs.Domains as pure
use Rattle.ess_semantics.specs.Domains.{numbers_up, interval, span_members, int_members}
use Rattle.ess_semantics.proofs.Tests.{and-both}
use Rattle.ess_semantics.proofs.Sorting.{sorted_once-itself}
use Rattle.ess_eval_domains.specs.declared.closed.Span.{Span}
use Rattle.ess_eval_domains.specs.ClosedViews.{pure_span}
use Rattle.ess_eval_domains.specs.Ranges.{is_bounded, all_bounded, span_numbers, numbers_of_spans}

-- ---- one range

-- One number more at the end.
up_push : (a : ℤ) (n : ℕ) → numbers_up a (suc n) ≡ numbers_up a n ++ number (a +ℤ pos n) ∷ []
up_push a zero = ap (λ z. number z ∷ []) (omega (arith, ints))
up_push a (suc n) =
    ap (λ l. number a ∷ l) (up_push (a +ℤ pos 1) n)
    ∙ ap (λ z. number a ∷ (numbers_up (a +ℤ pos 1) n ++ number z ∷ [])) (omega (arith, ints))

up_at : (a i j d e : ℤ) → a ≤ℤ i → j ≡ i +ℤ pos 1 → d ≡ i -ℤ a → e ≡ j -ℤ a → numbers_up a (natural e) ≡ numbers_up a (natural d) ++ number i ∷ []
up_at a i j (pos n) (pos zero) h p q r = absurd (omega (arith, ints))
up_at a i j (pos n) (pos (suc m)) h p q r =
    let same : m ≡ n = omega (arith, ints) in
    ap (λ k. numbers_up a (suc k)) same ∙ up_push a n ∙ ap (λ z. numbers_up a n ++ number z ∷ []) (omega (arith, ints))
up_at a i j (pos n) (negsuc m) h p q r = absurd (omega (arith, ints))
up_at a i j (negsuc n) e h p q r = absurd (omega (arith, ints))

-- The numbers before i and i itself are those before the next one.
pub interval_more : (a i j : ℤ) (before ns ms : List ℤ) → a ≤ℤ i → j ≡ i +ℤ pos 1 → map number ns ≡ map number before ++ numbers_up a (natural (i -ℤ a)) → ms ≡ ns ++ i ∷ []
    → map number ms ≡ map number before ++ numbers_up a (natural (j -ℤ a))
interval_more a i j before ns ms h q e p =
    ap (map number) p ∙ map_push number ns i ∙ ap (λ l. l ++ number i ∷ []) e
    ∙ append_assoc (map number before) (numbers_up a (natural (i -ℤ a))) (number i ∷ [])
    ∙ ap (λ l. map number before ++ l) (sym (up_at a i j (i -ℤ a) (j -ℤ a) h q refl refl))

-- The numbers before the last one and the last one are those of the range.
pub interval_all : (a b i j : ℤ) (before ns ms : List ℤ) → a ≤ℤ b → i ≡ b → j ≡ b → map number ns ≡ map number before ++ numbers_up a (natural (i -ℤ a)) → ms ≡ ns ++ j ∷ []
    → map number ms ≡ map number before ++ interval a b
interval_all a b i j before ns ms h q r e p =
    let same : (b +ℤ pos 1) -ℤ a ≡ (b -ℤ a) +ℤ pos 1 = omega (arith, ints) in
    interval_more a b (b +ℤ pos 1) before ns ms h refl (e ∙ ap (λ z. map number before ++ numbers_up a (natural (z -ℤ a))) q) (p ∙ ap (λ z. ns ++ z ∷ []) r)
    ∙ ap (λ z. map number before ++ numbers_up a (natural z)) same

none-up : (a d : ℤ) → d ≤ℤ pos 0 → numbers_up a (natural d) ≡ []
none-up a (pos zero) h = refl
none-up a (pos (suc n)) h = absurd (omega (arith, ints))
none-up a (negsuc n) h = refl

-- A range whose upper bound is lower has none.
pub interval_empty : (a b : ℤ) (ns : List ℤ) → (b +ℤ pos 1) ≤ℤ a → map number ns ≡ map number ns ++ interval a b
interval_empty a b ns h = sym (ap (λ l. map number ns ++ l) (none-up a ((b -ℤ a) +ℤ pos 1) (omega (arith, ints))) ∙ append-nil (map number ns))

-- A range without a bound has none.
pub no_low : (s : Span) (ns : List ℤ) → s.low ≡ None → map number ns ≡ map number ns ++ span_numbers (pure_span s)
no_low s ns e = sym (ap (λ o. map number ns ++ list_or_none (and_then o (λ a. and_then s.high (λ b. Some (interval a b))))) e ∙ append-nil (map number ns))

pub no_high : (s : Span) (a : ℤ) (ns : List ℤ) → s.low ≡ Some a → s.high ≡ None → map number ns ≡ map number ns ++ span_numbers (pure_span s)
no_high s a ns e f =
    sym (ap (λ o. map number ns ++ list_or_none (and_then o (λ a. and_then s.high (λ b. Some (interval a b))))) e
    ∙ ap (λ o. map number ns ++ list_or_none (and_then o (λ b. Some (interval a b)))) f ∙ append-nil (map number ns))

pub both_bounds : (s : Span) (a b : ℤ) (ns ms : List ℤ) → s.low ≡ Some a → s.high ≡ Some b → map number ms ≡ map number ns ++ interval a b
    → map number ms ≡ map number ns ++ span_numbers (pure_span s)
both_bounds s a b ns ms e f p =
    p ∙ sym (ap (λ o. map number ns ++ list_or_none (and_then o (λ a. and_then s.high (λ b. Some (interval a b))))) e
    ∙ ap (λ o. map number ns ++ list_or_none (and_then o (λ b. Some (interval a b)))) f)

-- ---- all ranges

numbers-push : (ss : List pure.Span) (s : pure.Span) → numbers_of_spans (ss ++ s ∷ []) ≡ numbers_of_spans ss ++ span_numbers s
numbers-push [] s = append-nil (span_numbers s)
numbers-push (t ∷ ss) s = ap (λ l. span_numbers t ++ l) (numbers-push ss s) ∙ sym (append_assoc (span_numbers t) (numbers_of_spans ss) (span_numbers s))

pub numbers_more : (ss : List Span) (i : ℕ) (s d : Span) (ns ms : List ℤ) → i < length ss → s ≡ get_or ss i d
    → map number ns ≡ numbers_of_spans (map pure_span (take i ss)) → map number ms ≡ map number ns ++ span_numbers (pure_span s)
    → map number ms ≡ numbers_of_spans (map pure_span (take (i + 1) ss))
numbers_more ss i s d ns ms h is e p =
    p ∙ ap (λ l. l ++ span_numbers (pure_span s)) e
    ∙ sym (ap numbers_of_spans (map_more pure_span ss i d h) ∙ numbers-push (map pure_span (take i ss)) (pure_span (get_or ss i d))
    ∙ ap (λ t. numbers_of_spans (map pure_span (take i ss)) ++ span_numbers (pure_span t)) (sym is))

-- ---- the members of an int domain

span-there : (lo hi : Option ℤ) → is_some lo && is_some hi ≡ true
    → and_then lo (λ a. and_then hi (λ b. Some (interval a b))) ≡ Some (list_or_none (and_then lo (λ a. and_then hi (λ b. Some (interval a b)))))
span-there None hi h = cc
span-there (Some a) None h = cc
span-there (Some a) (Some b) h = refl

span-missing : (lo hi : Option ℤ) → is_some lo && is_some hi ≡ false → and_then lo (λ a. and_then hi (λ b. Some (interval a b))) ≡ None
span-missing None hi h = refl
span-missing (Some a) None h = refl
span-missing (Some a) (Some b) h = cc

bounded-there : (ss : List pure.Span) → all_bounded ss ≡ true → all_some (map span_members ss) ≡ Some (map span_numbers ss)
bounded-there [] h = refl
bounded-there (s ∷ ss) h = go (is_bounded s) refl h (bounded-there ss)
  where
    go : (b : Bool) → is_bounded s ≡ b → b && all_bounded ss ≡ true → (all_bounded ss ≡ true → all_some (map span_members ss) ≡ Some (map span_numbers ss))
        → and_then (span_members s) (λ x. option_map (λ xs. x ∷ xs) (all_some (map span_members ss))) ≡ Some (span_numbers s ∷ map span_numbers ss)
    go true e k ih =
        ap (λ o. and_then o (λ x. option_map (λ xs. x ∷ xs) (all_some (map span_members ss)))) (span-there s.low s.high e)
        ∙ ap (option_map (λ xs. span_numbers s ∷ xs)) (ih k)
    go false e k ih = cc

bounded-missing : (ss : List pure.Span) → all_bounded ss ≡ false → all_some (map span_members ss) ≡ None
bounded-missing [] h = cc
bounded-missing (s ∷ ss) h = go (is_bounded s) refl h (bounded-missing ss)
  where
    more : (o : Option (List Value)) (p : Option (List (List Value))) → p ≡ None → and_then o (λ x. option_map (λ xs. x ∷ xs) p) ≡ None
    more None p e = refl
    more (Some x) p e = ap (option_map (λ xs. x ∷ xs)) e

    go : (b : Bool) → is_bounded s ≡ b → b && all_bounded ss ≡ false → (all_bounded ss ≡ false → all_some (map span_members ss) ≡ None)
        → and_then (span_members s) (λ x. option_map (λ xs. x ∷ xs) (all_some (map span_members ss))) ≡ None
    go true e k ih = more (span_members s) (all_some (map span_members ss)) (ih k)
    go false e k ih = ap (λ o. and_then o (λ x. option_map (λ xs. x ∷ xs) (all_some (map span_members ss)))) (span-missing s.low s.high e)

pub int_none : (ss : List Span) → all_bounded (map pure_span ss) ≡ false → None ≡ int_members (map pure_span ss)
int_none [] h = refl
int_none (s ∷ ss) h = sym (ap (option_map (λ ls. sorted_once (append_all ls))) (bounded-missing (map pure_span (s ∷ ss)) h))

pub int_empty : (ss : List Span) → length ss ≡ 0 → None ≡ int_members (map pure_span ss)
int_empty [] h = refl
int_empty (s ∷ ss) h = cc

pub int_some : (ss : List Span) (ms ns : List ℤ) → 0 < length ss → all_bounded (map pure_span ss) ≡ true
    → map number ns ≡ numbers_of_spans (map pure_span ss) → map number ms ≡ sorted_once (map number ns) → Some (map number ms) ≡ int_members (map pure_span ss)
int_some [] ms ns z h e p = absurd (omega arith)
int_some (s ∷ ss) ms ns z h e p =
    ap Some (p ∙ ap sorted_once e) ∙ sym (ap (option_map (λ ls. sorted_once (append_all ls))) (bounded-there (map pure_span (s ∷ ss)) h))

-- ---- one range rises

next-number : (a : ℤ) → below (number a) (number (a +ℤ pos 1)) ≡ true
next-number a = grind (arith, ints)

up-rises : (a : ℤ) (n : ℕ) → rises itself (numbers_up a n) ≡ true
up-rises a zero = refl
up-rises a (suc zero) = refl
up-rises a (suc (suc n)) = and-both _ _ (next-number a) (up-rises (a +ℤ pos 1) (suc n))

span-rises : (lo hi : Option ℤ) → rises itself (list_or_none (and_then lo (λ a. and_then hi (λ b. Some (interval a b))))) ≡ true
span-rises None hi = refl
span-rises (Some a) None = refl
span-rises (Some a) (Some b) = up-rises a (natural ((b -ℤ a) +ℤ pos 1))

pub int_one : (ss : List Span) (ns : List ℤ) → length ss ≡ 1 → all_bounded (map pure_span ss) ≡ true
    → map number ns ≡ numbers_of_spans (map pure_span ss) → Some (map number ns) ≡ int_members (map pure_span ss)
int_one [] ns z h e = cc
int_one (s ∷ []) ns z h e =
    let own : map number ns ≡ span_numbers (pure_span s) = e ∙ append-nil (span_numbers (pure_span s)) in
    int_some (s ∷ []) ns ns (omega arith) h e
    (own ∙ sym (ap sorted_once own ∙ sorted_once-itself (span_numbers (pure_span s)) (span-rises s.low s.high)))
int_one (s ∷ t ∷ ss) ns z h e = cc
