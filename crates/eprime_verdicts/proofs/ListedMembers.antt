-- A list of members has each member, so numbers without one are no such list.
use Rattle.std.proofs.Common.{◌≡◌, refl, sym, ap, ◌∙◌, ℕ, zero, suc, Bool, true, false, ◌&&◌, ◌||◌, List, [], ◌∷◌, ◌++◌, map, ℤ, pos, negsuc, ◌+ℤ◌, ◌-ℤ◌, ◌≤ℤ◌, int_le, Option, Some, None, option_map, arith}
use Rattle.std.proofs.lemmas.Int.{ints}
use Rattle.std.specs.List.{list_any}
use Rattle.ess_semantics.specs.Lists.{and_then, all_some, append_all, is_none_or, is_some_and}
use Rattle.ess_semantics.specs.Values.{Value, number}
use Rattle.ess_semantics.specs.Order.{same, same_int, same_ints}
use Rattle.ess_semantics.specs.Collections.{holds, sorted_once}
use Rattle.ess_semantics.specs.Numbers.{natural}
use Rattle.ess_semantics.specs.DeclaredTables.{axis_members}
use Rattle.ess_semantics.specs.Domains.{Span, Domain, booleans, integers, numbers_up, interval, span_members}
use Rattle.ess_semantics.specs.Membership.{in_span, in_spans}
use Rattle.ess_semantics.specs.Tables.{is_cell, code}
use Rattle.ess_semantics.proofs.Tests.{and-left, and-right, or-yes, if-not}
use Rattle.ess_semantics.proofs.Orders.{same-itself, same-equal, same_int-itself, same_ints-equal}
use Rattle.ess_semantics.proofs.Sorting.{holds-sorted_once}
use Rattle.ess_semantics.proofs.Overlaps.{holds-append}
use Rattle.std.proofs.lemmas.Bool.{leb-true}
use Rattle.eprime_eval_scalars.specs.Runs.{pure_run}
use Rattle.eprime_eval_scalars.specs.declared.running.Run.{Run}
use Rattle.eprime_eval.specs.declared.members.Closed.{Closed}
use Rattle.eprime_eval.specs.declared.members.Closed.TheVariants.{Truths, Numbers}
use Rattle.eprime_eval.specs.ClosedDomains.{pure_closed}
use Rattle.eprime_verdicts.specs.ClosedDecls.{has_axis}

-- ---- the members of ranges

-- The test of a number that is at most another one.
le-of : (a b : ℤ) → int_le a b ≡ true → a ≤ℤ b
le-of a b h = grind (arith, ints)

numbers-hold : (a b k : ℤ) (n : ℕ) → (a +ℤ pos n) ≡ (b +ℤ pos 1) → a ≤ℤ k → k ≤ℤ b → holds (numbers_up a n) (number k) ≡ true
numbers-hold a b k zero e p q = absurd (omega (arith, ints))
numbers-hold a b k (suc n) e p q = go (same (number a) (number k)) refl (λ h. numbers-hold (a +ℤ pos 1) b k n (omega (arith, ints)) h q)
  where
    above : same (number a) (number k) ≡ false → (a +ℤ pos 1) ≤ℤ k
    above f = let n : a ≡ k → ⊥ = (λ w. let z : true ≡ false = sym (same-itself (number k)) ∙ ap (λ j. same (number j) (number k)) (sym w) ∙ f in cc) in omega (arith, ints)

    go : (c : Bool) → same (number a) (number k) ≡ c → ((a +ℤ pos 1) ≤ℤ k → holds (numbers_up (a +ℤ pos 1) n) (number k) ≡ true) → c || holds (numbers_up (a +ℤ pos 1) n) (number k) ≡ true
    go true f r = refl
    go false f r = r (above f)

interval-holds : (a b k : ℤ) → a ≤ℤ k → k ≤ℤ b → holds (interval a b) (number k) ≡ true
interval-holds a b k p q = go ((b -ℤ a) +ℤ pos 1) refl
  where
    go : (m : ℤ) → (b -ℤ a) +ℤ pos 1 ≡ m → holds (numbers_up a (natural m)) (number k) ≡ true
    go (pos n) e = numbers-hold a b k n (omega (arith, ints)) p q
    go (negsuc n) e = absurd (omega (arith, ints))

span-holds : (s : Span) (k : ℤ) (vs : List Value) → in_span k s ≡ true → span_members s ≡ Some vs → holds vs (number k) ≡ true
span-holds s k vs h q = go s.low s.high h q
  where
    go : (lo hi : Option ℤ) → is_none_or lo (λ a. int_le a k) && is_none_or hi (λ b. int_le k b) ≡ true → and_then lo (λ a. and_then hi (λ b. Some (interval a b))) ≡ Some vs → holds vs (number k) ≡ true
    go None hi h q = cc
    go (Some a) None h q = cc
    go (Some a) (Some b) h q =
        let e : interval a b ≡ vs = cc in
        ap (λ l. holds l (number k)) (sym e) ∙ interval-holds a b k (le-of a k (and-left (int_le a k) (int_le k b) h)) (le-of k b (and-right (int_le a k) (int_le k b) h))

spans-hold : (ss : List Span) (k : ℤ) (ls : List (List Value)) → list_any (in_span k) ss ≡ true → all_some (map span_members ss) ≡ Some ls → holds (append_all ls) (number k) ≡ true
spans-hold [] k ls h q = cc
spans-hold (s ∷ ss) k ls h q = go (span_members s) (all_some (map span_members ss)) refl refl q (λ us e r. spans-hold ss k us e r)
  where
    go : (o : Option (List Value)) (p : Option (List (List Value))) → span_members s ≡ o → all_some (map span_members ss) ≡ p → and_then o (λ x. option_map (λ xs. x ∷ xs) p) ≡ Some ls →
        ((us : List (List Value)) → list_any (in_span k) ss ≡ true → all_some (map span_members ss) ≡ Some us → holds (append_all us) (number k) ≡ true) → holds (append_all ls) (number k) ≡ true
    go None p a b q ih = cc
    go (Some vs) None a b q ih = cc
    go (Some vs) (Some us) a b q ih =
        let e : vs ∷ us ≡ ls = cc in
        ap (λ l. holds (append_all l) (number k)) (sym e) ∙ holds-append vs (append_all us) (number k) ∙ here (in_span k s) refl
      where
        here : (c : Bool) → in_span k s ≡ c → holds vs (number k) || holds (append_all us) (number k) ≡ true
        here true e = ap (λ x. x || holds (append_all us) (number k)) (span-holds s k vs e a)
        here false e = ap (λ x. holds vs (number k) || x) (ih us (if-not (in_span k s) (list_any (in_span k) ss) e h) b) ∙ or-yes (holds vs (number k))

-- ---- as numbers

holds-code : (vs : List Value) (k : ℤ) → holds vs (number k) ≡ true → list_any (same_int k) (map code vs) ≡ true
holds-code [] k h = cc
holds-code (v ∷ vs) k h = go (same v (number k)) refl (λ g. holds-code vs k g)
  where
    go : (b : Bool) → same v (number k) ≡ b → (holds vs (number k) ≡ true → list_any (same_int k) (map code vs) ≡ true)
        → same_int k (code v) || list_any (same_int k) (map code vs) ≡ true
    go true e r =
        ap (λ w. same_int k (code w) || list_any (same_int k) (map code vs)) (same-equal v (number k) e)
        ∙ ap (λ b. b || list_any (same_int k) (map code vs)) (same_int-itself k)
    go false e r =
        ap (λ b. same_int k (code v) || b) (r (if-not (same v (number k)) (holds vs (number k)) e h)) ∙ or-yes (same_int k (code v))

-- The list of the members of ranges has each number that one of them holds.
ranges-listed : (ss : List Span) (k : ℤ) (ns : List ℤ) → in_spans ss k ≡ true → axis_members (Some (integers ss)) ≡ Some ns → list_any (same_int k) ns ≡ true
ranges-listed [] k ns h e = cc
ranges-listed (s ∷ ss) k ns h e = go (all_some (map span_members (s ∷ ss))) refl e
  where
    go : (o : Option (List (List Value))) → all_some (map span_members (s ∷ ss)) ≡ o → option_map (map code) (option_map (λ ls. sorted_once (append_all ls)) o) ≡ Some ns
        → list_any (same_int k) ns ≡ true
    go None q f = cc
    go (Some ls) q f =
        let is : map code (sorted_once (append_all ls)) ≡ ns = cc in
        ap (list_any (same_int k)) (sym is)
        ∙ holds-code (sorted_once (append_all ls)) k (holds-sorted_once (append_all ls) (number k) ∙ spans-hold (s ∷ ss) k ls h q)

-- Numbers among which a member isn't are no list of the members.
pub other_axis : (d : Closed) (rs : List Run) (xs : List ℤ) (k : ℤ) → d ≡ Numbers rs → is_cell (pure_closed d) k ≡ true → list_any (same_int k) xs ≡ false → has_axis d xs ≡ false
other_axis d rs xs k z h f = rw z (go (axis_members (Some (integers (map pure_run rs)))) refl)
  where
    inside : in_spans (map pure_run rs) k ≡ true
    inside = rw z at h

    go : (o : Option (List ℤ)) → axis_members (Some (integers (map pure_run rs))) ≡ o → is_some_and o (λ ns. same_ints ns xs) ≡ false
    go None e = refl
    go (Some ns) e = differ (same_ints ns xs) refl
      where
        differ : (b : Bool) → same_ints ns xs ≡ b → b ≡ false
        differ false q = refl
        differ true q =
            let a : list_any (same_int k) xs ≡ true = ap (list_any (same_int k)) (sym (same_ints-equal ns xs q)) ∙ ranges-listed (map pure_run rs) k ns inside e in
            sym a ∙ f
