-- A walk along ranges counts the numbers that none of them holds.
use Rattle.std.proofs.Common.{◌≡◌, refl, sym, ap, ◌∙◌, ℕ, zero, suc, ◌+◌, Bool, true, false, ◌&&◌, ◌||◌, if◌then◌else◌, List, [], ◌∷◌, ℤ, pos, negsuc, ◌+ℤ◌, ◌-ℤ◌, ◌≤ℤ◌, ◌<ℤ◌, ◌<◌, Option, Some, None, is_some, arith}
use Rattle.std.proofs.lemmas.Int.{ints}
use Rattle.ess_semantics.specs.Numbers.{natural}
use Rattle.ess_semantics.specs.Domains.{Span}
use Rattle.ess_semantics.specs.Membership.{in_span}
use Rattle.ess_semantics.proofs.Tests.{and-left, and-right, or-left-no, or-right-no, or-yes}
use Rattle.ess_eval_domains.specs.Ranges.{is_bounded, all_bounded}
use Rattle.ess_domains_cells.specs.Kept.{kept}
use Rattle.ess_domains_cells.specs.Uncovered.{is_covered, uncovered, distance}
use Rattle.ess_domains_cells.specs.Sweeps.{end_of, nearer, next_start}
use Rattle.ess_domains_cells.proofs.KeptNumbers.{kept_sum, kept_twice}

-- ---- runs of numbers

none-left : (a high : ℤ) → high <ℤ a → distance a high ≡ 0
none-left a high l = go ((high -ℤ a) +ℤ pos 1) refl
  where
    go : (d : ℤ) → (high -ℤ a) +ℤ pos 1 ≡ d → natural d ≡ 0
    go (pos zero) e = refl
    go (pos (suc n)) e = absurd (omega (arith, ints))
    go (negsuc n) e = refl

one-less : (a high : ℤ) (n : ℕ) → (high -ℤ a) +ℤ pos 1 ≡ pos (suc n) → distance (a +ℤ pos 1) high ≡ n
one-less a high n e = let f : (high -ℤ (a +ℤ pos 1)) +ℤ pos 1 ≡ pos n = omega (arith, ints) in ap natural f

-- One number that a range holds.
covered-one : (ss : List Span) (a high : ℤ) → is_covered ss a ≡ true → uncovered ss a (distance a high) ≡ uncovered ss (a +ℤ pos 1) (distance (a +ℤ pos 1) high)
covered-one ss a high c = go ((high -ℤ a) +ℤ pos 1) refl
  where
    go : (d : ℤ) → (high -ℤ a) +ℤ pos 1 ≡ d → uncovered ss a (natural d) ≡ uncovered ss (a +ℤ pos 1) (distance (a +ℤ pos 1) high)
    go (pos zero) e = sym (ap (uncovered ss (a +ℤ pos 1)) (none-left (a +ℤ pos 1) high (omega (arith, ints))))
    go (pos (suc n)) e =
        ap (λ b. if b then uncovered ss (a +ℤ pos 1) n else suc (uncovered ss (a +ℤ pos 1) n)) c
        ∙ ap (uncovered ss (a +ℤ pos 1)) (sym (one-less a high n e))
    go (negsuc n) e = sym (ap (uncovered ss (a +ℤ pos 1)) (none-left (a +ℤ pos 1) high (omega (arith, ints))))

-- One that no range holds.
uncovered-one : (ss : List Span) (a high : ℤ) → a ≤ℤ high → is_covered ss a ≡ false → uncovered ss a (distance a high) ≡ suc (uncovered ss (a +ℤ pos 1) (distance (a +ℤ pos 1) high))
uncovered-one ss a high l c = go ((high -ℤ a) +ℤ pos 1) refl
  where
    go : (d : ℤ) → (high -ℤ a) +ℤ pos 1 ≡ d → uncovered ss a (natural d) ≡ suc (uncovered ss (a +ℤ pos 1) (distance (a +ℤ pos 1) high))
    go (pos zero) e = absurd (omega (arith, ints))
    go (pos (suc n)) e =
        ap (λ b. if b then uncovered ss (a +ℤ pos 1) n else suc (uncovered ss (a +ℤ pos 1) n)) c
        ∙ ap (λ k. suc (uncovered ss (a +ℤ pos 1) k)) (sym (one-less a high n e))
    go (negsuc n) e = absurd (omega (arith, ints))

-- A run of numbers that ranges hold adds nothing.
covered-by : (ss : List Span) (k : ℕ) (a m high : ℤ) → m ≡ a +ℤ pos k → ((z : ℤ) → a ≤ℤ z → z <ℤ m → is_covered ss z ≡ true)
    → uncovered ss a (distance a high) ≡ uncovered ss m (distance m high)
covered-by ss zero a m high e h = let f : a ≡ m = omega (arith, ints) in ap (λ z. uncovered ss z (distance z high)) f
covered-by ss (suc k) a m high e h =
    covered-one ss a high (h a (omega (arith, ints)) (omega (arith, ints)))
    ∙ covered-by ss k (a +ℤ pos 1) m high (omega (arith, ints)) (λ z l u. h z (omega (arith, ints)) u)

-- A run of numbers that no range holds adds its length.
uncovered-by : (ss : List Span) (k : ℕ) (a m high : ℤ) → m ≡ a +ℤ pos k → m ≤ℤ (high +ℤ pos 1) → ((z : ℤ) → a ≤ℤ z → z <ℤ m → is_covered ss z ≡ false)
    → uncovered ss a (distance a high) ≡ k + uncovered ss m (distance m high)
uncovered-by ss zero a m high e b h = let f : a ≡ m = omega (arith, ints) in ap (λ z. uncovered ss z (distance z high)) f ∙ omega arith
uncovered-by ss (suc k) a m high e b h =
    uncovered-one ss a high (omega (arith, ints)) (h a (omega (arith, ints)) (omega (arith, ints)))
    ∙ ap suc (uncovered-by ss k (a +ℤ pos 1) m high (omega (arith, ints)) b (λ z l u. h z (omega (arith, ints)) u))
    ∙ omega arith

-- ---- what the walk finds

-- Where a range holds a, so it does each number up to its end.
end-covers : (ss : List Span) (a b z : ℤ) → all_bounded ss ≡ true → end_of ss a ≡ Some b → a ≤ℤ z → z ≤ℤ b → is_covered ss z ≡ true
end-covers [] a b z h e l u = cc
end-covers (s ∷ ss) a b z h e l u = go (in_span a s) refl e (end-covers ss a b z (and-right (is_bounded s) (all_bounded ss) h))
  where
    one : (lo hi : Option ℤ) → is_some lo && is_some hi ≡ true → in_span a (record { low = lo; high = hi }) ≡ true → hi ≡ Some b → in_span z (record { low = lo; high = hi }) ≡ true
    one None hi h c e = cc
    one (Some x) None h c e = cc
    one (Some x) (Some y) h c e = grind (arith, ints)

    go : (t : Bool) → in_span a s ≡ t → (if t then s.high else end_of ss a) ≡ Some b → (end_of ss a ≡ Some b → a ≤ℤ z → z ≤ℤ b → is_covered ss z ≡ true) → in_span z s || is_covered ss z ≡ true
    go true c e k = ap (λ t. t || is_covered ss z) (one s.low s.high (and-left (is_bounded s) (all_bounded ss) h) c e)
    go false c e k = ap (λ t. in_span z s || t) (k e l u) ∙ or-yes (in_span z s)

end-above : (ss : List Span) (a b : ℤ) → all_bounded ss ≡ true → end_of ss a ≡ Some b → a ≤ℤ b
end-above [] a b h e = cc
end-above (s ∷ ss) a b h e = go (in_span a s) refl e (end-above ss a b (and-right (is_bounded s) (all_bounded ss) h))
  where
    one : (lo hi : Option ℤ) → is_some lo && is_some hi ≡ true → in_span a (record { low = lo; high = hi }) ≡ true → hi ≡ Some b → a ≤ℤ b
    one None hi h c e = cc
    one (Some x) None h c e = cc
    one (Some x) (Some y) h c e = grind (arith, ints)

    go : (t : Bool) → in_span a s ≡ t → (if t then s.high else end_of ss a) ≡ Some b → (end_of ss a ≡ Some b → a ≤ℤ b) → a ≤ℤ b
    go true c e k = one s.low s.high (and-left (is_bounded s) (all_bounded ss) h) c e
    go false c e k = k e

no-end : (ss : List Span) (a : ℤ) → all_bounded ss ≡ true → end_of ss a ≡ None → is_covered ss a ≡ false
no-end [] a h e = refl
no-end (s ∷ ss) a h e = go (in_span a s) refl e (no-end ss a (and-right (is_bounded s) (all_bounded ss) h))
  where
    one : (lo hi : Option ℤ) → is_some lo && is_some hi ≡ true → hi ≡ None → true ≡ false
    one None hi h e = cc
    one (Some x) None h e = cc
    one (Some x) (Some y) h e = cc

    go : (t : Bool) → in_span a s ≡ t → (if t then s.high else end_of ss a) ≡ None → (end_of ss a ≡ None → is_covered ss a ≡ false) → in_span a s || is_covered ss a ≡ false
    go true c e k = let f = one s.low s.high (and-left (is_bounded s) (all_bounded ss) h) e in cc
    go false c e k = ap (λ t. t || is_covered ss a) c ∙ k e

nearer-within : (l : Option ℤ) (a m : ℤ) → nearer l a m ≤ℤ m
nearer-within None a m = omega (arith, ints)
nearer-within (Some l) a m = grind (arith, ints)

nearer-behind : (l : Option ℤ) (a m : ℤ) → a <ℤ m → a <ℤ nearer l a m
nearer-behind None a m h = h
nearer-behind (Some l) a m h = grind (arith, ints)

next-within : (ss : List Span) (a m : ℤ) → next_start ss a m ≤ℤ m
next-within [] a m = omega (arith, ints)
next-within (s ∷ ss) a m =
    let p = next-within ss a (nearer s.low a m) in
    let q = nearer-within s.low a m in omega (arith, ints)

next-behind : (ss : List Span) (a m : ℤ) → a <ℤ m → a <ℤ next_start ss a m
next-behind [] a m h = h
next-behind (s ∷ ss) a m h = next-behind ss a (nearer s.low a m) (nearer-behind s.low a m h)

-- Where no range holds a, none holds a number before the next range begins.
next-uncovered : (ss : List Span) (a m z : ℤ) → all_bounded ss ≡ true → is_covered ss a ≡ false → a ≤ℤ z → z <ℤ next_start ss a m → is_covered ss z ≡ false
next-uncovered [] a m z h c l u = refl
next-uncovered (s ∷ ss) a m z h c l u =
    ap (λ t. t || is_covered ss z) (one s.low s.high (and-left (is_bounded s) (all_bounded ss) h) (or-left-no (in_span a s) (is_covered ss a) c) (next-within ss a (nearer s.low a m)))
    ∙ next-uncovered ss a (nearer s.low a m) z (and-right (is_bounded s) (all_bounded ss) h) (or-right-no (in_span a s) (is_covered ss a) c) l u
  where
    one : (lo hi : Option ℤ) → is_some lo && is_some hi ≡ true → in_span a (record { low = lo; high = hi }) ≡ false → next_start ss a (nearer s.low a m) ≤ℤ nearer lo a m → in_span z (record { low = lo; high = hi }) ≡ false
    one None hi h c n = cc
    one (Some x) None h c n = cc
    one (Some x) (Some y) h c n = grind (arith, ints)

-- ---- the walk

-- Behind a range that holds the number.
pub walk_covered : (ss : List Span) (a b m high : ℤ) (c t : ℕ) → all_bounded ss ≡ true → Some b ≡ end_of ss a → m ≡ b +ℤ pos 1
    → kept (c + uncovered ss a (distance a high)) ≡ kept t → kept (c + uncovered ss m (distance m high)) ≡ kept t
walk_covered ss a b m high c t h e q p =
    let up : a ≤ℤ b = end-above ss a b h (sym e) in
    let k : ℕ = natural (m -ℤ a) in
    let same : m ≡ a +ℤ pos k = from-natural (m -ℤ a) refl (omega (arith, ints)) in
    sym (ap (λ j. kept (c + j)) (covered-by ss k a m high same (λ z l u. end-covers ss a b z h (sym e) l (omega (arith, ints))))) ∙ p
  where
    from-natural : (d : ℤ) → m -ℤ a ≡ d → pos 0 ≤ℤ d → m ≡ a +ℤ pos (natural d)
    from-natural (pos k) f l = omega (arith, ints)
    from-natural (negsuc k) f l = absurd (omega (arith, ints))

-- A range that holds the number and ends behind the last one.
pub walk_end : (ss : List Span) (a b high : ℤ) (c t : ℕ) → all_bounded ss ≡ true → Some b ≡ end_of ss a → high ≤ℤ b → kept c ≡ c
    → kept (c + uncovered ss a (distance a high)) ≡ kept t → c ≡ kept t
walk_end ss a b high c t h e l k p =
    let z : c + 0 ≡ c = omega arith in
    let behind : high <ℤ (b +ℤ pos 1) = omega (arith, ints) in
    sym k ∙ sym (ap kept z) ∙ sym (ap (λ n. kept (c + uncovered ss (b +ℤ pos 1) n)) (none-left (b +ℤ pos 1) high behind))
    ∙ walk_covered ss a b (b +ℤ pos 1) high c t h e refl p

-- Where no range holds the number, up to where the next one begins.
pub walk_uncovered : (ss : List Span) (a m high : ℤ) (d c c' t : ℕ) → all_bounded ss ≡ true → None ≡ end_of ss a → m ≡ next_start ss a high → a <ℤ high
    → pos d ≡ m -ℤ a → c' ≡ kept (c + d) → kept (c + uncovered ss a (distance a high)) ≡ kept t → kept (c' + uncovered ss m (distance m high)) ≡ kept t
walk_uncovered ss a m high d c c' t h e q l f g p =
    let within : next_start ss a high ≤ℤ high = next-within ss a high in
    let run : uncovered ss a (distance a high) ≡ d + uncovered ss m (distance m high) =
    uncovered-by ss d a m high (omega (arith, ints)) (omega (arith, ints))
    (λ z b u. next-uncovered ss a high z h (no-end ss a h (sym e)) b (omega (arith, ints))) in
    let u : ℕ = uncovered ss m (distance m high) in
    let assoc : (c + d) + u ≡ c + (d + u) = omega arith in
    ap (λ j. kept (j + u)) g ∙ sym (kept_sum (kept (c + d)) u) ∙ ap (λ j. kept (j + kept u)) (kept_twice (c + d)) ∙ kept_sum (c + d) u
    ∙ ap kept (assoc ∙ ap (λ j. c + j) (sym run)) ∙ p

-- The next range begins behind the number.
pub walk_on : (ss : List Span) (a m high : ℤ) → m ≡ next_start ss a high → a <ℤ high → a <ℤ m
walk_on ss a m high q l = let p = next-behind ss a high l in omega (arith, ints)

pub walk_within : (ss : List Span) (a m high : ℤ) → m ≡ next_start ss a high → m ≤ℤ high
walk_within ss a m high q = let p = next-within ss a high in omega (arith, ints)

-- A range that holds the number ends at it or behind it.
pub walk_up : (ss : List Span) (a b : ℤ) → all_bounded ss ≡ true → Some b ≡ end_of ss a → a ≤ℤ b
walk_up ss a b h e = end-above ss a b h (sym e)

-- At the last number, which a range holds.
pub walk_held : (ss : List Span) (a high : ℤ) (c t : ℕ) → a ≡ high → all_bounded ss ≡ true → is_some (end_of ss high) ≡ true → kept c ≡ c
    → kept (c + uncovered ss a (distance a high)) ≡ kept t → c ≡ kept t
walk_held ss a high c t q h e k p = go (end_of ss a) refl (ap (λ z. is_some (end_of ss z)) q ∙ e)
  where
    go : (o : Option ℤ) → end_of ss a ≡ o → is_some o ≡ true → c ≡ kept t
    go None f g = cc
    go (Some b) f g = let up = end-above ss a b h f in walk_end ss a b high c t h (sym f) (omega (arith, ints)) k p

-- At the last number, which no range holds.
pub walk_free : (ss : List Span) (a high : ℤ) (c c' t : ℕ) → a ≡ high → all_bounded ss ≡ true → is_some (end_of ss high) ≡ false → c' ≡ kept (c + 1)
    → kept (c + uncovered ss a (distance a high)) ≡ kept t → c' ≡ kept t
walk_free ss a high c c' t q h e g p = go (end_of ss a) refl (ap (λ z. is_some (end_of ss z)) q ∙ e)
  where
    go : (o : Option ℤ) → end_of ss a ≡ o → is_some o ≡ false → c' ≡ kept t
    go None f e =
        let dist : (high -ℤ a) +ℤ pos 1 ≡ pos 1 = omega (arith, ints) in
        let one : distance a high ≡ 1 = ap natural dist in
        let free : uncovered ss a 1 ≡ 1 = ap (λ b. if b then 0 else 1) (no-end ss a h f) in
        g ∙ sym (ap (λ n. kept (c + n)) (ap (uncovered ss a) one ∙ free)) ∙ p
    go (Some b) f e = cc

-- There are none from a number to a lower one.
pub walk_nothing : (ss : List Span) (a high : ℤ) → high <ℤ a → 0 ≡ kept (uncovered ss a (distance a high))
walk_nothing ss a high l = sym (ap (λ n. kept (uncovered ss a n)) (none-left a high l))

-- From a greater number there are fewer.
pub walk_shorter : (a m high : ℤ) → a <ℤ m → m ≤ℤ high → distance m high < distance a high
walk_shorter a m high l u = go ((high -ℤ a) +ℤ pos 1) ((high -ℤ m) +ℤ pos 1) refl refl
  where
    go : (d e : ℤ) → (high -ℤ a) +ℤ pos 1 ≡ d → (high -ℤ m) +ℤ pos 1 ≡ e → natural e < natural d
    go (pos n) (pos k) p q = omega (arith, ints)
    go (pos n) (negsuc k) p q = absurd (omega (arith, ints))
    go (negsuc n) e p q = absurd (omega (arith, ints))
