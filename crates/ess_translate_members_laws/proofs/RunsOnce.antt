-- Two lists of maximal runs with the same members are one.
use Rattle.std.proofs.Common.{◌≡◌, refl, sym, ap, ◌∙◌, Bool, true, false, ◌&&◌, ◌||◌, List, [], ◌∷◌, ℤ, pos, ◌+ℤ◌, ◌-ℤ◌, ◌≤ℤ◌, int_le, Option, Some, None, arith}
use Rattle.std.proofs.lemmas.Int.{ints}
use Rattle.std.specs.List.{list_any}
use Rattle.ess_semantics.specs.Lists.{is_none_or, is_some_and}
use Rattle.ess_semantics.specs.Domains.{Span, Domain}
use Rattle.ess_semantics.specs.Membership.{in_span}
use Rattle.ess_semantics.specs.Tables.{is_cell}
use Rattle.ess_semantics.specs.Satisfaction.{is_run, runs_rise, AreRuns}
use Rattle.ess_semantics.proofs.Tests.{and-left, and-right, and-both, if-not}

-- ---- bounds

le-of : (a b : ℤ) → int_le a b ≡ true → a ≤ℤ b
le-of a b h = grind (arith, ints)

le-test : (a b : ℤ) → a ≤ℤ b → int_le a b ≡ true
le-test a b h = grind (arith, ints)

abbrev from_low : Option ℤ → ℤ → Bool
from_low lo n = is_none_or lo (λ a. int_le a n)

abbrev to_high : Option ℤ → ℤ → Bool
to_high hi n = is_none_or hi (λ b. int_le n b)

low-of : (s : Span) (a n : ℤ) → s.low ≡ Some a → in_span n s ≡ true → a ≤ℤ n
low-of s a n e k = le-of a n (sym (ap (λ o. from_low o n) e) ∙ and-left (from_low s.low n) (to_high s.high n) k)

high-of : (s : Span) (b n : ℤ) → s.high ≡ Some b → in_span n s ≡ true → n ≤ℤ b
high-of s b n e k = le-of n b (sym (ap (λ o. to_high o n) e) ∙ and-right (from_low s.low n) (to_high s.high n) k)

-- A number within bounds is a member.
within : (s : Span) (n : ℤ) (lo hi : Option ℤ) → s.low ≡ lo → s.high ≡ hi → from_low lo n ≡ true → to_high hi n ≡ true → in_span n s ≡ true
within s n lo hi p q h k =
    and-both (from_low s.low n) (to_high s.high n) (ap (λ o. from_low o n) p ∙ h) (ap (λ o. to_high o n) q ∙ k)

run-bounds : (s : Span) (a b : ℤ) → is_run s ≡ true → s.low ≡ Some a → s.high ≡ Some b → a ≤ℤ b
run-bounds s a b h p q =
    le-of a b (sym (ap (λ o. is_none_or o (λ a. is_none_or s.high (λ b. int_le a b))) p ∙ ap (λ o. is_none_or o (λ b. int_le a b)) q) ∙ h)

-- ---- rising runs

-- What is behind the first run.
abbrev Next : Option ℤ → Span → List Span → Type 0
Next hi s rs = (b : ℤ) × (c : ℤ) × (hi ≡ Some b) × (s.low ≡ Some c) × ((b +ℤ pos 2) ≤ℤ c) × (runs_rise (s ∷ rs) ≡ true)

next-run : (r s : Span) (rs : List Span) → runs_rise (r ∷ s ∷ rs) ≡ true → Next r.high s rs
next-run r s rs h = go r.high s.low refl refl (and-left (is_some_and r.high (λ b. is_none_or r.low
    (λ a. int_le a b) && is_some_and s.low (λ c. int_le (b +ℤ pos 2) c))) (runs_rise (s ∷ rs)) h)
  where
    rest : runs_rise (s ∷ rs) ≡ true
    rest = and-right (is_some_and r.high (λ b. is_none_or r.low (λ a. int_le a b) && is_some_and s.low (λ c. int_le (b +ℤ pos 2) c)))
        (runs_rise (s ∷ rs)) h

    go : (hi lo : Option ℤ) → r.high ≡ hi → s.low ≡ lo →
        is_some_and hi (λ b. is_none_or r.low (λ a. int_le a b) && is_some_and lo (λ c. int_le (b +ℤ pos 2) c)) ≡ true → Next r.high s rs
    go None lo p q k = cc
    go (Some b) None p q k = absurd (no (and-right (is_none_or r.low (λ a. int_le a b)) false k))
      where
        no : false ≡ true → ⊥
        no e = cc
    go (Some b) (Some c) p q k =
        (b, c, p, q, le-of (b +ℤ pos 2) c (and-right (is_none_or r.low (λ a. int_le a b)) (int_le (b +ℤ pos 2) c) k), rest)

-- The first of rising runs has a member.
first-run : (r : Span) (rs : List Span) → runs_rise (r ∷ rs) ≡ true → is_run r ≡ true
first-run r [] h = h
first-run r (s ∷ rs) h =
    go r.low r.high (and-left (is_some_and r.high (λ b. is_none_or r.low (λ a. int_le a b) && is_some_and s.low (λ c. int_le
    (b +ℤ pos 2) c))) (runs_rise (s ∷ rs)) h)
  where
    go : (lo hi : Option ℤ) → is_some_and hi (λ b. is_none_or lo (λ a. int_le a b) && is_some_and s.low (λ c. int_le
        (b +ℤ pos 2) c)) ≡ true →
        is_none_or lo (λ a. is_none_or hi (λ b. int_le a b)) ≡ true
    go lo None k = cc
    go None (Some b) k = refl
    go (Some a) (Some b) k = and-left (int_le a b) (is_some_and s.low (λ c. int_le (b +ℤ pos 2) c)) k

-- Behind the first run all members lie above a number that is missing.
behind-high : (r : Span) (rs : List Span) (n : ℤ) → runs_rise (r ∷ rs) ≡ true → list_any (in_span n) rs ≡ true →
    (b : ℤ) × (r.high ≡ Some b) × ((b +ℤ pos 2) ≤ℤ n)
behind-high r [] n h k = cc
behind-high r (s ∷ rs) n h k =
    let w = next-run r s rs h in (w.0, w.2, go w.0 w.1 w.3 w.4 w.5 (in_span n s) refl (λ j. behind-high s rs n w.5 j))
  where
    go : (b c : ℤ) → s.low ≡ Some c → (b +ℤ pos 2) ≤ℤ c → runs_rise (s ∷ rs) ≡ true → (q : Bool) → in_span n s ≡ q →
        (list_any (in_span n) rs ≡ true → (d : ℤ) × (s.high ≡ Some d) × ((d +ℤ pos 2) ≤ℤ n)) → (b +ℤ pos 2) ≤ℤ n
    go b c e l u true q ih = let m = low-of s c n e q in omega (arith, ints)
    go b c e l u false q ih =
        let v = ih (if-not (in_span n s) (list_any (in_span n) rs) q k) in
        let x = v.2 in let m = run-bounds s c v.0 (first-run s rs u) e v.1 in omega (arith, ints)

-- All members lie at the low end of the first run or above.
above-low : (r : Span) (rs : List Span) (a n : ℤ) → runs_rise (r ∷ rs) ≡ true → r.low ≡ Some a → list_any (in_span n) (r ∷ rs) ≡ true →
    a ≤ℤ n
above-low r rs a n h e k = go (in_span n r) refl
  where
    go : (q : Bool) → in_span n r ≡ q → a ≤ℤ n
    go true q = low-of r a n e q
    go false q =
        let v = behind-high r rs n h (if-not (in_span n r) (list_any (in_span n) rs) q k) in
        let x = v.2 in let m = run-bounds r a v.0 (first-run r rs h) e v.1 in omega (arith, ints)

-- What the first run has isn't behind it.
not-behind : (r : Span) (rs : List Span) (n : ℤ) → runs_rise (r ∷ rs) ≡ true → in_span n r ≡ true → list_any (in_span n) rs ≡ false
not-behind r rs n h q = go (list_any (in_span n) rs) refl
  where
    go : (b : Bool) → list_any (in_span n) rs ≡ b → b ≡ false
    go false e = refl
    go true e = let v = behind-high r rs n h e in let x = v.2 in let m = high-of r v.0 n v.1 q in absurd (omega (arith, ints))

-- ---- members that are there

-- A run without a low end has members below each number.
below-any : (s : Span) (m : ℤ) → s.low ≡ None → (n : ℤ) × (in_span n s ≡ true) × (n ≤ℤ m)
below-any s m p = go s.high refl
  where
    go : (hi : Option ℤ) → s.high ≡ hi → (n : ℤ) × (in_span n s ≡ true) × (n ≤ℤ m)
    go None q = (m, within s m None None p q refl refl, omega (arith, ints))
    go (Some b) q = least (int_le b m) refl
      where
        least : (c : Bool) → int_le b m ≡ c → (n : ℤ) × (in_span n s ≡ true) × (n ≤ℤ m)
        least true e = (b, within s b None (Some b) p q refl (le-test b b (omega (arith, ints))), le-of b m e)
        least false e = (m, within s m None (Some b) p q refl (le-test m b (grind (arith, ints))), omega (arith, ints))

-- A run has a member.
member-of : (s : Span) → is_run s ≡ true → (n : ℤ) × (in_span n s ≡ true)
member-of s h = go s.low s.high refl refl
  where
    go : (lo hi : Option ℤ) → s.low ≡ lo → s.high ≡ hi → (n : ℤ) × (in_span n s ≡ true)
    go None hi p q = let w = below-any s (pos 0) p in (w.0, w.1)
    go (Some a) None p q = (a, within s a (Some a) None p q (le-test a a (omega (arith, ints))) refl)
    go (Some a) (Some b) p q =
        (a, within s a (Some a) (Some b) p q (le-test a a (omega (arith, ints))) (le-test a b (run-bounds s a b h p q)))

some-member : (s : Span) (ss : List Span) (n : ℤ) → in_span n s ≡ true → list_any (in_span n) (s ∷ ss) ≡ true
some-member s ss n h = ap (λ b. b || list_any (in_span n) ss) h

-- ---- first runs

abbrev Below : Option ℤ → Option ℤ → Type 0
Below None o = Unit {0}
Below (Some a) None = ⊥
Below (Some a) (Some c) = a ≤ℤ c

below-both : (o q : Option ℤ) → Below o q → Below q o → o ≡ q
below-both None None h k = refl
below-both None (Some c) h k = absurd k
below-both (Some a) None h k = absurd h
below-both (Some a) (Some c) h k = ap (λ n. Some n) (equal h k)
  where
    equal : a ≤ℤ c → c ≤ℤ a → a ≡ c
    equal h k = omega (arith, ints)

-- The first run of more members begins at the low end of the other one or below.
low-below : (r s : Span) (rs ss : List Span) → runs_rise (r ∷ rs) ≡ true → runs_rise (s ∷ ss) ≡ true →
    ((n : ℤ) → list_any (in_span n) (s ∷ ss) ≡ true → list_any (in_span n) (r ∷ rs) ≡ true) → Below r.low s.low
low-below r s rs ss h k f = go r.low s.low refl refl
  where
    go : (lo co : Option ℤ) → r.low ≡ lo → s.low ≡ co → Below lo co
    go None co p q = tt
    go (Some a) None p q =
        let w = below-any s (a -ℤ pos 1) q in let x = w.2 in
        let m = above-low r rs a w.0 h p (f w.0 (some-member s ss w.0 w.1)) in absurd (omega (arith, ints))
    go (Some a) (Some c) p q = above-low r rs a c h p (f c (some-member s ss c (at s.high refl)))
      where
        at : (hi : Option ℤ) → s.high ≡ hi → in_span c s ≡ true
        at None e = within s c (Some c) None q e (le-test c c (omega (arith, ints))) refl
        at (Some d) e =
            within s c (Some c) (Some d) q e (le-test c c (omega (arith, ints))) (le-test c d (run-bounds s c d (first-run s ss k) q e))

-- The number above the high end of a run isn't a member of rising runs that begin with it.
gap : (r : Span) (rs : List Span) (b : ℤ) → runs_rise (r ∷ rs) ≡ true → r.high ≡ Some b →
    list_any (in_span (b +ℤ pos 1)) (r ∷ rs) ≡ true → ⊥
gap r rs b h e k = go (in_span (b +ℤ pos 1) r) refl
  where
    go : (q : Bool) → in_span (b +ℤ pos 1) r ≡ q → ⊥
    go true q = let m = high-of r b (b +ℤ pos 1) e q in omega (arith, ints)
    go false q =
        let v = behind-high r rs (b +ℤ pos 1) h (if-not (in_span (b +ℤ pos 1) r) (list_any (in_span (b +ℤ pos 1)) rs) q k) in
        let x = v.2 in same v.0 v.1 x
      where
        same : (d : ℤ) → r.high ≡ Some d → (d +ℤ pos 2) ≤ℤ (b +ℤ pos 1) → ⊥
        same d p x = let z : d ≡ b = some-is (sym p ∙ e) in omega (arith, ints)
          where
            some-is : ◌≡◌ {A = Option ℤ} (Some d) (Some b) → d ≡ b
            some-is e = cc

-- From one low end on, the first run of more members ends at the high end of the other one or above.
abbrev Above : Option ℤ → Option ℤ → Type 0
Above None o = Unit {0}
Above (Some b) None = ⊥
Above (Some b) (Some d) = d ≤ℤ b

above-both : (o q : Option ℤ) → Above o q → Above q o → o ≡ q
above-both None None h k = refl
above-both None (Some c) h k = absurd k
above-both (Some a) None h k = absurd h
above-both (Some a) (Some c) h k = ap (λ n. Some n) (equal h k)
  where
    equal : c ≤ℤ a → a ≤ℤ c → a ≡ c
    equal h k = omega (arith, ints)

high-above : (r s : Span) (rs ss : List Span) → runs_rise (r ∷ rs) ≡ true → r.low ≡ s.low →
    ((n : ℤ) → list_any (in_span n) (s ∷ ss) ≡ true → list_any (in_span n) (r ∷ rs) ≡ true) → Above r.high s.high
high-above r s rs ss h l f = go r.high s.high refl refl
  where
    low : (b : ℤ) → r.high ≡ Some b → (lo : Option ℤ) → r.low ≡ lo → from_low s.low (b +ℤ pos 1) ≡ true
    low b p None e = ap (λ o. from_low o (b +ℤ pos 1)) (sym l ∙ e)
    low b p (Some a) e =
        let m = run-bounds r a b (first-run r rs h) e p in
        ap (λ o. from_low o (b +ℤ pos 1)) (sym l ∙ e) ∙ le-test a (b +ℤ pos 1) (omega (arith, ints))

    beyond : (b : ℤ) → r.high ≡ Some b → (hi : Option ℤ) → s.high ≡ hi → to_high hi (b +ℤ pos 1) ≡ true → ⊥
    beyond b p hi q k =
        gap r rs b h p (f (b +ℤ pos 1) (some-member s ss (b +ℤ pos 1) (within s (b +ℤ pos 1) s.low hi refl q (low b p r.low refl) k)))

    go : (hi ho : Option ℤ) → r.high ≡ hi → s.high ≡ ho → Above hi ho
    go None ho p q = tt
    go (Some b) None p q = absurd (beyond b p None q refl)
    go (Some b) (Some d) p q = least (int_le d b) refl
      where
        least : (c : Bool) → int_le d b ≡ c → d ≤ℤ b
        least true e = le-of d b e
        least false e = absurd (beyond b p (Some d) q (le-test (b +ℤ pos 1) d (grind (arith, ints))))

spans-equal : (r s : Span) → r.low ≡ s.low → r.high ≡ s.high → r ≡ s
spans-equal r s p q = ap (λ o. record { low = o; high = r.high }) p ∙ ap (λ o. record { low = s.low; high = o }) q

-- ---- all runs

rest-rises : (r : Span) (rs : List Span) → runs_rise (r ∷ rs) ≡ true → runs_rise rs ≡ true
rest-rises r [] h = refl
rest-rises r (s ∷ rs) h = let w = next-run r s rs h in w.5

empty-only : (s : Span) (ss : List Span) → runs_rise (s ∷ ss) ≡ true → ((n : ℤ) → list_any (in_span n) (s ∷ ss) ≡ false) → ⊥
empty-only s ss h f = let w = member-of s (first-run s ss h) in no (sym (some-member s ss w.0 w.1) ∙ f w.0)
  where
    no : true ≡ false → ⊥
    no e = cc

-- Rising runs with the same members are one list.
one-list-of-runs : (rs ss : List Span) → runs_rise rs ≡ true → runs_rise ss ≡ true → ((n : ℤ) →
    list_any (in_span n) rs ≡ list_any (in_span n) ss) → rs ≡ ss
one-list-of-runs [] [] h k f = refl
one-list-of-runs [] (s ∷ ss) h k f = absurd (empty-only s ss k (λ n. sym (f n)))
one-list-of-runs (r ∷ rs) [] h k f = absurd (empty-only r rs h f)
one-list-of-runs (r ∷ rs) (s ∷ ss) h k f =
    ap (λ x. x ∷ rs) first ∙ ap (λ l. s ∷ l) (one-list-of-runs rs ss (rest-rises r rs h) (rest-rises s ss k) (λ n. rest n
    (in_span n r) refl))
  where
    low : r.low ≡ s.low
    low = below-both r.low s.low (low-below r s rs ss h k (λ n e. f n ∙ e)) (low-below s r ss rs k h (λ n e. sym (f n) ∙ e))

    first : r ≡ s
    first = spans-equal r s low
        (above-both r.high s.high (high-above r s rs ss h low (λ n e. f n ∙ e)) (high-above s r ss rs k (sym low) (λ n e. sym (f n) ∙ e)))

    rest : (n : ℤ) (b : Bool) → in_span n r ≡ b → list_any (in_span n) rs ≡ list_any (in_span n) ss
    rest n true e = not-behind r rs n h e ∙ sym (not-behind s ss n k (ap (in_span n) (sym first) ∙ e))
    rest n false e =
        sym (ap (λ b. b || list_any (in_span n) rs) e) ∙ f n ∙ ap (λ x. in_span n x || list_any (in_span n) ss) (sym first)
        ∙ ap (λ b. b || list_any (in_span n) ss) e

-- The maximal runs of domains with the same cells are one list.
pub runs_are_one : (rs ss : List Span) (d e : Domain) → AreRuns rs d → AreRuns ss e → ((n : ℤ) → is_cell d n ≡ is_cell e n) → rs ≡ ss
runs_are_one rs ss d e h k f = one-list-of-runs rs ss h.0 k.0 (λ n. h.1 n ∙ f n ∙ sym (k.1 n))

-- Domains with one list of maximal runs have the same cells.
pub cells_are_same : (rs : List Span) (d e : Domain) → AreRuns rs d → AreRuns rs e → (n : ℤ) → is_cell d n ≡ is_cell e n
cells_are_same rs d e h k n = sym (h.1 n) ∙ k.1 n
