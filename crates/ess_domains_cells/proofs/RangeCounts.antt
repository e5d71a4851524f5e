-- The numbers of all ranges, counted range by range from the first.
use Rattle.std.proofs.Common.{◌≡◌, refl, sym, ap, ◌∙◌, ℕ, zero, suc, ◌+◌, ◌<◌, Bool, true, false, ◌&&◌, List, [], ◌∷◌, length, map, take, drop, get_or, ℤ, Option, Some, None, option_map, is_some, arith}
use Rattle.ess_semantics.specs.Lists.{and_then, all_some, append_all, list_or_none}
use Rattle.ess_semantics.specs.Values.{Value}
use Rattle.ess_semantics.specs.Collections.{sorted_once}
use Rattle.ess_semantics.specs.Domains as pure
use Rattle.ess_semantics.specs.Domains.{interval, span_members, int_members}
use Rattle.ess_semantics.proofs.Tests.{and-left, and-right, and-both}
use Rattle.ess_eval_domains.specs.declared.closed.Span.{Span}
use Rattle.ess_eval_domains.specs.ClosedViews.{pure_span}
use Rattle.ess_eval_domains.specs.Ranges.{is_bounded, all_bounded, span_numbers}
use Rattle.ess_domains_cells.specs.Kept.{kept}
use Rattle.ess_domains_cells.specs.Uncovered.{uncovered_by, counted_once}
use Rattle.ess_domains_cells.proofs.KeptNumbers.{kept_sum, kept_twice}
use Rattle.ess_domains_cells.proofs.UncoveredNumbers.{bounded-counted}

-- ---- the members of an int domain

span-there : (lo hi : Option ℤ) → is_some lo && is_some hi ≡ true
    → and_then lo (λ a. and_then hi (λ b. Some (interval a b))) ≡ Some (list_or_none (and_then lo (λ a. and_then hi (λ b. Some (interval a b)))))
span-there None hi h = cc
span-there (Some a) None h = cc
span-there (Some a) (Some b) h = refl

span-missing : (lo hi : Option ℤ) → is_some lo && is_some hi ≡ false → and_then lo (λ a. and_then hi (λ b. Some (interval a b))) ≡ None
span-missing None hi h = refl
span-missing (Some a) None h = refl
span-missing (Some a) (Some b) h = cc

bounded-there : (ss : List pure.Span) → all_bounded ss ≡ true → all_some (map span_members ss) ≡ Some (map span_numbers ss)
bounded-there [] h = refl
bounded-there (s ∷ ss) h =
    ap (λ o. and_then o (λ x. option_map (λ xs. x ∷ xs) (all_some (map span_members ss)))) (span-there s.low s.high (and-left (is_bounded s) (all_bounded ss) h))
    ∙ ap (option_map (λ xs. span_numbers s ∷ xs)) (bounded-there ss (and-right (is_bounded s) (all_bounded ss) h))

bounded-missing : (ss : List pure.Span) → all_bounded ss ≡ false → all_some (map span_members ss) ≡ None
bounded-missing [] h = cc
bounded-missing (s ∷ ss) h = go (is_bounded s) refl h (bounded-missing ss)
  where
    more : (o : Option (List Value)) (p : Option (List (List Value))) → p ≡ None → and_then o (λ x. option_map (λ xs. x ∷ xs) p) ≡ None
    more None p e = refl
    more (Some x) p e = ap (option_map (λ xs. x ∷ xs)) e

    go : (b : Bool) → is_bounded s ≡ b → b && all_bounded ss ≡ false → (all_bounded ss ≡ false → all_some (map span_members ss) ≡ None)
        → and_then (span_members s) (λ x. option_map (λ xs. x ∷ xs) (all_some (map span_members ss))) ≡ None
    go true e k ih = more (span_members s) (all_some (map span_members ss)) (ih k)
    go false e k ih = ap (λ o. and_then o (λ x. option_map (λ xs. x ∷ xs) (all_some (map span_members ss)))) (span-missing s.low s.high e)

-- The members of bounded ranges, counted once each.
pub members-counted : (ss : List pure.Span) → all_bounded ss ≡ true → length (list_or_none (int_members ss)) ≡ counted_once ss
members-counted [] h = refl
members-counted (s ∷ ss) h =
    ap (λ o. length (list_or_none (option_map (λ ls. sorted_once (append_all ls)) o))) (bounded-there (s ∷ ss) h) ∙ bounded-counted (s ∷ ss) h

-- Ranges of which one lacks a bound have none that can be listed.
pub count_unbounded : (ss : List pure.Span) → all_bounded ss ≡ false → 0 ≡ kept (length (list_or_none (int_members ss)))
count_unbounded [] h = cc
count_unbounded (s ∷ ss) h = sym (ap (λ o. kept (length (list_or_none (option_map (λ ls. sorted_once (append_all ls)) o)))) (bounded-missing (s ∷ ss) h))

-- ---- range by range

-- Before the first range.
pub count_none : (ss : List pure.Span) → kept (0 + counted_once ss) ≡ kept (counted_once ss)
count_none ss = let z : 0 + counted_once ss ≡ counted_once ss = omega arith in ap kept z

split-at : (ss : List Span) (k : ℕ) (s d : Span) → k < length ss → s ≡ get_or ss k d → drop k ss ≡ s ∷ drop (k + 1) ss
split-at [] k s d h e = absurd (omega arith)
split-at (t ∷ ss) zero s d h e = ap (λ u. u ∷ ss) (sym e)
split-at (t ∷ ss) (suc k) s d h e =
    let more : suc (k + 1) ≡ suc k + 1 = omega arith in
    split-at ss k s d (omega arith) e ∙ ap (λ j. s ∷ drop j (t ∷ ss)) more

-- One range more.
pub count_more : (ss : List Span) (k c c' n : ℕ) (s d : Span) → k < length ss → s ≡ get_or ss k d
    → n ≡ kept (uncovered_by (map pure_span (drop (k + 1) ss)) s.low s.high) → c' ≡ kept (c + n)
    → kept (c + counted_once (map pure_span (drop k ss))) ≡ kept (counted_once (map pure_span ss))
    → kept (c' + counted_once (map pure_span (drop (k + 1) ss))) ≡ kept (counted_once (map pure_span ss))
count_more ss k c c' n s d h e a g p =
    let later : ℕ = counted_once (map pure_span (drop (k + 1) ss)) in
    let own : ℕ = uncovered_by (map pure_span (drop (k + 1) ss)) s.low s.high in
    let assoc : (c + own) + later ≡ c + (own + later) = omega arith in
    let split : counted_once (map pure_span (drop k ss)) ≡ own + later = ap (λ l. counted_once (map pure_span l)) (split-at ss k s d h e) in
    let added : kept (c + n) ≡ kept (c + own) =
    ap (λ j. kept (c + j)) a ∙ sym (kept_sum c (kept own)) ∙ ap (λ j. kept (kept c + j)) (kept_twice own) ∙ kept_sum c own in
    ap (λ j. kept (j + later)) (g ∙ added) ∙ sym (kept_sum (kept (c + own)) later) ∙ ap (λ j. kept (j + kept later)) (kept_twice (c + own)) ∙ kept_sum (c + own) later
    ∙ ap kept (assoc ∙ ap (λ j. c + j) (sym split)) ∙ p

none-behind : (ss : List Span) (k : ℕ) → length ss ≡ k → counted_once (map pure_span (drop k ss)) ≡ 0
none-behind [] k e = ap (λ j. counted_once (map pure_span (drop j []))) (sym e)
none-behind (s ∷ ss) zero e = absurd (omega arith)
none-behind (s ∷ ss) (suc k) e = none-behind ss k (omega arith)

-- Behind the last one.
pub count_all : (ss : List Span) (k c : ℕ) → length ss ≡ k → all_bounded (map pure_span ss) ≡ true → kept c ≡ c
    → kept (c + counted_once (map pure_span (drop k ss))) ≡ kept (counted_once (map pure_span ss)) → c ≡ kept (length (list_or_none (int_members (map pure_span ss))))
count_all ss k c e h t p =
    let z : c + 0 ≡ c = omega arith in
    sym t ∙ sym (ap kept z) ∙ sym (ap (λ j. kept (c + j)) (none-behind ss k e)) ∙ p ∙ ap kept (sym (members-counted (map pure_span ss) h))

-- Ranges behind others are bounded where all are, and so are the first of these.
bounded-rest : (ss : List Span) (k : ℕ) → all_bounded (map pure_span ss) ≡ true → all_bounded (map pure_span (drop k ss)) ≡ true
bounded-rest [] zero h = refl
bounded-rest [] (suc k) h = refl
bounded-rest (s ∷ ss) zero h = h
bounded-rest (s ∷ ss) (suc k) h = bounded-rest ss k (and-right (is_bounded (pure_span s)) (all_bounded (map pure_span ss)) h)

bounded-first : (ss : List Span) (k : ℕ) → all_bounded (map pure_span ss) ≡ true → all_bounded (map pure_span (take k ss)) ≡ true
bounded-first [] zero h = refl
bounded-first [] (suc k) h = refl
bounded-first (s ∷ ss) zero h = refl
bounded-first (s ∷ ss) (suc k) h =
    and-both (is_bounded (pure_span s)) (all_bounded (map pure_span (take k ss))) (and-left (is_bounded (pure_span s)) (all_bounded (map pure_span ss)) h)
    (bounded-first ss k (and-right (is_bounded (pure_span s)) (all_bounded (map pure_span ss)) h))

pub bounded_rest : (ss : List Span) (n k : ℕ) → all_bounded (map pure_span ss) ≡ true → all_bounded (map pure_span (take n (drop k ss))) ≡ true
bounded_rest ss n k h = bounded-first (drop k ss) n (bounded-rest ss k h)
