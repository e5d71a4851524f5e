-- Slots that say how often their values occur: which are in use, and what their numbers make of the values.
use Rattle.std.proofs.Common.{◌≡◌, refl, sym, ap, ◌∙◌, ℕ, zero, suc, ◌+◌, ◌≤◌, ◌<◌, Bool, true, false, ◌||◌, not, if◌then◌else◌, List, [], ◌∷◌, ◌++◌, map, length, replicate, ℤ, pos, Option, Some, None, option_map, nat_le, int_le, arith, le_refl, eq-or-lt_of_le, ◌⊎◌, inl, inr, subst}
use Rattle.std.proofs.lemmas.Bool.{leb-true, leb-false, le-leb, lt-leb}
use Rattle.std.specs.List.{list_all}
use Rattle.ess_semantics.specs.Lists.{and_then, each_of, is_some_and, or_default}
use Rattle.ess_semantics.specs.Values.{Value}
use Rattle.ess_semantics.specs.Order.{same}
use Rattle.ess_semantics.specs.Collections.{holds, count}
use Rattle.ess_semantics.specs.Numbers.{run_from, one_to, not_below_0}
use Rattle.ess_semantics.specs.Domains.{lists_of}
use Rattle.ess_semantics.specs.Tables.{is_cell}
use Rattle.ess_semantics.specs.Cells.{Grid, every_cell, gather}
use Rattle.ess_semantics.specs.Layers.{where_counted, up_to, if_positive, counted, total, repeated, each_repeated}
use Rattle.ess_semantics.specs.Representations.{is_used}
use Rattle.ess_semantics.specs.CanonicalTest.{next_slot}
use Rattle.ess_semantics.proofs.Tests.{and-left, and-right, and-both, if-so, all-run}
use Rattle.ess_semantics.proofs.Orders.{same-equal}
use Rattle.ess_semantics.proofs.Sorting.{Distinct}
use Rattle.ess_repr_laws.proofs.SlotsUsed.{SlotsUsed, as_place, slots-are, each-slot, first-ones, marker-cell}
use Rattle.ess_repr_laws.proofs.OneForm.{value-held}
use Rattle.ess_semantics.proofs.Runs.{from_to}
use Rattle.ess_semantics.proofs.Repeats.{first-repeated, count-append, count-replicate}

-- ---- which slots are in use

-- the items of a run whose number is above 0 are the first t
counted-run : (f : List ℤ → Option ℤ) (m : ℕ → ℕ) (a s t : ℕ) → t ≤ s → ((k : ℕ) → a ≤ k → k < a + s → f (pos k ∷ []) ≡ Some (pos (m k))) → ((k : ℕ) → a ≤ k → k < a + t → 1 ≤ m k) →
    ((k : ℕ) → a + t ≤ k → k < a + s → m k ≡ 0) → counted (map as_place (run_from a s)) f ≡ Some (map as_place (run_from a t))
counted-run f m a zero zero h c p q = refl
counted-run f m a zero (suc t) h c p q = absurd (omega arith)
counted-run f m a (suc s) zero h c p q =
    ap (λ o. and_then (and_then o not_below_0) (λ n. option_map (if_positive n (pos a ∷ [])) (counted (map as_place (run_from (suc a) s)) f))) (c a (le_refl a) (omega arith) ∙ ap (λ n. Some (pos n)) (q a (omega arith) (omega arith)))
    ∙ ap (option_map (λ ys. ys)) (counted-run f m (suc a) s zero (omega arith) (λ k x y. c k (omega arith) (omega arith)) (λ k x y. absurd (omega arith)) (λ k x y. q k (omega arith) (omega arith)))
counted-run f m a (suc s) (suc t) h c p q =
    ap (λ o. and_then (and_then o not_below_0) (λ n. option_map (if_positive n (pos a ∷ [])) (counted (map as_place (run_from (suc a) s)) f))) (c a (le_refl a) (omega arith))
    ∙ go (m a) (p a (le_refl a) (omega arith)) (counted-run f m (suc a) s t (omega arith) (λ k x y. c k (omega arith) (omega arith)) (λ k x y. p k (omega arith) (omega arith)) (λ k x y. q k (omega arith) (omega arith)))
  where
    go : (n : ℕ) → 1 ≤ n → counted (map as_place (run_from (suc a) s)) f ≡ Some (map as_place (run_from (suc a) t)) →
        option_map (if_positive n (pos a ∷ [])) (counted (map as_place (run_from (suc a) s)) f) ≡ Some ((pos a ∷ []) ∷ map as_place (run_from (suc a) t))
    go zero h e = absurd (omega arith)
    go (suc n) h e = ap (option_map (λ ys. (pos a ∷ []) ∷ ys)) e

-- numbers that are above 0 up to n
pub record Counts (f : Grid) (S : ℕ) : Type 0 where
  pub times : ℕ → ℕ
  pub cell : (k : ℕ) → 1 ≤ k → k ≤ S → f (pos k ∷ []) ≡ Some (pos (times k))
  pub n : ℕ
  pub room : n ≤ S
  pub above : (k : ℕ) → 1 ≤ k → k ≤ n → 1 ≤ times k
  pub none : (k : ℕ) → n < k → k ≤ S → times k ≡ 0
  pub slots : SlotsUsed where_counted (f ∷ []) S n

abbrev natural_of : Option ℤ → ℕ
natural_of (Some (pos n)) = n
natural_of _ = 0

abbrev is_counted : Grid → ℕ → Bool
is_counted f k = is_used where_counted (f ∷ []) (pos k ∷ [])

-- The slots whose number is above 0 are those in use.
pub counts-used : (f : Grid) (S o : ℕ) → every_cell (one_to S ∷ []) (is_cell (up_to o)) f ≡ true →
    list_all (λ js. not (is_used where_counted (f ∷ []) (next_slot js)) || is_used where_counted (f ∷ []) js) (lists_of (one_to S ∷ [])) ≡ true → Counts f S
counts-used f S o e d =
    let r = first-ones (is_counted f) S (λ k p q h. if-so (is_counted f (k + 1)) (is_counted f k) h (each-slot (λ js. not (is_used where_counted (f ∷ []) (next_slot js)) || is_used where_counted (f ∷ []) js) S k d p (omega arith))) in
    let cell = λ (k : ℕ) (p : 1 ≤ k) (q : k ≤ S). natural (f (pos k ∷ [])) (all-run (λ k. is_some_and (f (k ∷ [])) (is_cell (up_to o))) 1 S k e p (omega arith)) in
    let above = λ (k : ℕ) (p : 1 ≤ k) (q : k ≤ r.0). yes (natural_of (f (pos k ∷ []))) (ap (λ o. is_some_and o (int_le (pos 1))) (sym (cell k p (let m = r.1 in omega arith))) ∙ r.2 k p (let m = r.1 in omega arith) ∙ le-leb k r.0 q) in
    let none = λ (k : ℕ) (p : r.0 < k) (q : k ≤ S). no (natural_of (f (pos k ∷ []))) (ap (λ o. is_some_and o (int_le (pos 1))) (sym (cell k (omega arith) q)) ∙ r.2 k (omega arith) q ∙ lt-leb k r.0 p) in
    record {
      times = λ k. natural_of (f (pos k ∷ []));
      cell = cell;
      n = r.0;
      room = r.1;
      above = above;
      none = none;
      slots = record {
        room = r.1;
        used = r.2;
        found =
            ap (λ js. counted js f) (slots-are (one_to S))
            ∙ counted-run f (λ k. natural_of (f (pos k ∷ []))) 1 S r.0 r.1 (λ k p q. cell k p (omega arith)) (λ k p q. above k p (omega arith)) (λ k p q. none k (omega arith) (omega arith))
            ∙ ap Some (sym (slots-are (one_to r.0)));
      };
    }
  where
    natural : (x : Option ℤ) → is_some_and x (is_cell (up_to o)) ≡ true → x ≡ Some (pos (natural_of x))
    natural x h = let m = marker-cell x o h in m.1 ∙ ap (λ n. Some (pos n)) (ap natural_of (sym m.1))

    yes : (n : ℕ) → nat_le 1 n ≡ true → 1 ≤ n
    yes n e = leb-true 1 n e

    no : (n : ℕ) → nat_le 1 n ≡ false → n ≡ 0
    no n e = let x = leb-false 1 n e in omega arith

-- ---- the numbers as lists

-- The numbers of all slots.
pub each-number : (f : Grid) (m : ℕ → ℕ) (a s : ℕ) → ((k : ℕ) → a ≤ k → k < a + s → f (pos k ∷ []) ≡ Some (pos (m k))) → each_of (run_from a s) (λ k. and_then (f (k ∷ [])) not_below_0) ≡ Some (from_to m a s)
each-number f m a zero h = refl
each-number f m a (suc s) h =
    ap (λ o. and_then (and_then o not_below_0) (λ y. option_map (λ ys. y ∷ ys) (each_of (run_from (suc a) s) (λ k. and_then (f (k ∷ [])) not_below_0)))) (h a (le_refl a) (omega arith))
    ∙ ap (option_map (λ ys. m a ∷ ys)) (each-number f m (suc a) s (λ k x y. h k (omega arith) (omega arith)))

-- The row of these numbers.
pub number-row : (f : Grid) (m : ℕ → ℕ) (a s : ℕ) → ((k : ℕ) → a ≤ k → k < a + s → f (pos k ∷ []) ≡ Some (pos (m k))) → gather (run_from a s) (λ k. or_default (f (k ∷ [])) (pos 0) ∷ []) ≡ map pos (from_to m a s)
number-row f m a zero h = refl
number-row f m a (suc s) h =
    ap (λ o. or_default o (pos 0) ∷ gather (run_from (suc a) s) (λ k. or_default (f (k ∷ [])) (pos 0) ∷ [])) (h a (le_refl a) (omega arith))
    ∙ ap (λ l. pos (m a) ∷ l) (number-row f m (suc a) s (λ k x y. h k (omega arith) (omega arith)))

-- numbers 0 repeat nothing
pub repeated-first : (m : ℕ → ℕ) (a s t : ℕ) (vs : List Value) → length vs ≡ t → t ≤ s → ((k : ℕ) → a ≤ k → k < a + t → 1 ≤ m k) → ((k : ℕ) → a + t ≤ k → k < a + s → m k ≡ 0) → repeated (from_to m a s) vs ≡ each_repeated (from_to m a t) vs
repeated-first m a zero zero [] l h p q = refl
repeated-first m a zero zero (v ∷ vs) l h p q = absurd (omega arith)
repeated-first m a zero (suc t) vs l h p q = absurd (omega arith)
repeated-first m a (suc s) zero (v ∷ vs) l h p q = absurd (omega arith)
repeated-first m a (suc s) zero [] l h p q =
    ap (λ n. repeated (n ∷ from_to m (suc a) s) []) (q a (omega arith) (omega arith)) ∙ repeated-first m (suc a) s zero [] refl (omega arith) (λ k x y. absurd (omega arith)) (λ k x y. q k (omega arith) (omega arith))
repeated-first m a (suc s) (suc t) [] l h p q = absurd (omega arith)
repeated-first m a (suc s) (suc t) (v ∷ vs) l h p q = go (m a) (p a (le_refl a) (omega arith)) (repeated-first m (suc a) s t vs (omega arith) (omega arith) (λ k x y. p k (omega arith) (omega arith)) (λ k x y. q k (omega arith) (omega arith)))
  where
    go : (n : ℕ) → 1 ≤ n → repeated (from_to m (suc a) s) vs ≡ each_repeated (from_to m (suc a) t) vs → repeated (n ∷ from_to m (suc a) s) (v ∷ vs) ≡ replicate n v ++ each_repeated (from_to m (suc a) t) vs
    go zero h e = absurd (omega arith)
    go (suc n) h e = ap (λ l. replicate (suc n) v ++ l) e

-- The numbers behind the first t are 0, so these sum up to all.
pub total-first : (m : ℕ → ℕ) (a s t : ℕ) → t ≤ s → ((k : ℕ) → a + t ≤ k → k < a + s → m k ≡ 0) → total (map pos (from_to m a s)) ≡ total (map pos (from_to m a t))
total-first m a zero zero h q = refl
total-first m a zero (suc t) h q = absurd (omega arith)
total-first m a (suc s) zero h q = let x = q a (omega arith) (omega arith) in let y = total-first m (suc a) s zero (omega arith) (λ k u v. q k (omega arith) (omega arith)) in omega arith
total-first m a (suc s) (suc t) h q = ap (λ n. m a + n) (total-first m (suc a) s t (omega arith) (λ k u v. q k (omega arith) (omega arith)))

-- A test of the first numbers.
pub all-first : (f : ℤ → Bool) (m : ℕ → ℕ) (a s t : ℕ) → t ≤ s → list_all f (map pos (from_to m a s)) ≡ true → list_all f (map pos (from_to m a t)) ≡ true
all-first f m a s zero h e = refl
all-first f m a zero (suc t) h e = absurd (omega arith)
all-first f m a (suc s) (suc t) h e =
    and-both (f (pos (m a))) (list_all f (map pos (from_to m (suc a) t))) (and-left (f (pos (m a))) (list_all f (map pos (from_to m (suc a) s))) e)
    (all-first f m (suc a) s t (omega arith) (and-right (f (pos (m a))) (list_all f (map pos (from_to m (suc a) s))) e))

-- ---- how often a slot's value occurs

-- a value that stands in a slot occurs as often as the slot says
pub count-at : (st : ℤ → Option Value) (m : ℕ → ℕ) (a n k : ℕ) (vs : List Value) (w : Value) → each_of (run_from a n) st ≡ Some vs → Distinct vs → a ≤ k → k < a + n → st (pos k) ≡ Some w → count (each_repeated (from_to m a n) vs) w ≡ m k
count-at st m a zero k vs w e d p q h = absurd (omega arith)
count-at st m a (suc n) k vs w e d p q h = go (st (pos a)) (each_of (run_from (suc a) n) st) refl refl e (eq-or-lt_of_le p) (λ zs r c s. count-at st m (suc a) n k zs w r c s (omega arith) h)
  where
    go : (o : Option Value) (c : Option (List Value)) → st (pos a) ≡ o → each_of (run_from (suc a) n) st ≡ c → and_then o (λ y. option_map (λ ys. y ∷ ys) c) ≡ Some vs → (a ≡ k) ⊎ (a < k) →
        ((zs : List Value) → each_of (run_from (suc a) n) st ≡ Some zs → Distinct zs → a < k → count (each_repeated (from_to m (suc a) n) zs) w ≡ m k) → count (each_repeated (from_to m a (suc n)) vs) w ≡ m k
    go None c x y e s r = cc
    go (Some v) None x y e s r = cc
    go (Some v) (Some zs) x y e s r =
        let z : v ∷ zs ≡ vs = cc in
        ap (λ l. count (each_repeated (from_to m a (suc n)) l) w) (sym z) ∙ here (subst Distinct (sym z) d) s
      where
        here : Distinct (v ∷ zs) → (a ≡ k) ⊎ (a < k) → count (each_repeated (from_to m a (suc n)) (v ∷ zs)) w ≡ m k
        here d (inl u) =
            let vw : v ≡ w = let t : Some v ≡ Some w = sym x ∙ ap (λ j. st (pos j)) u ∙ h in cc in
            ap (count (each_repeated (from_to m a (suc n)) (v ∷ zs))) (sym vw) ∙ first-repeated (m a) (from_to m (suc a) n) v zs d.0 ∙ ap m u
        here d (inr u) =
            let held : holds zs w ≡ true = value-held st (suc a) n k zs w y u (omega arith) h in
            let apart : same v w ≡ false = no (same v w) refl held in
            let a' : count (replicate (m a) v) w ≡ 0 = count-replicate (m a) v w ∙ ap (λ b. if b then m a else 0) apart in
            let c' : count (replicate (m a) v ++ each_repeated (from_to m (suc a) n) zs) w ≡ count (replicate (m a) v) w + count (each_repeated (from_to m (suc a) n) zs) w = count-append (replicate (m a) v) (each_repeated (from_to m (suc a) n) zs) w in
            let ih = r zs y d.1 u in omega arith
          where
            no : (b : Bool) → same v w ≡ b → holds zs w ≡ true → same v w ≡ false
            no false q t = q
            no true q t = let e : holds zs v ≡ true = ap (holds zs) (same-equal v w q) ∙ t in let f = d.0 in cc

-- items that occur are those that are repeated
pub repeated-holds : (m : ℕ → ℕ) (a n : ℕ) (vs : List Value) (w : Value) → length vs ≡ n → ((k : ℕ) → a ≤ k → k < a + n → 1 ≤ m k) → holds (each_repeated (from_to m a n) vs) w ≡ holds vs w
repeated-holds m a zero [] w l p = refl
repeated-holds m a zero (v ∷ vs) w l p = absurd (omega arith)
repeated-holds m a (suc n) [] w l p = absurd (omega arith)
repeated-holds m a (suc n) (v ∷ vs) w l p = go (m a) (p a (le_refl a) (omega arith)) ∙ ap (λ b. same v w || b) (repeated-holds m (suc a) n vs w (omega arith) (λ k x y. p k (omega arith) (omega arith)))
  where
    rest : List Value
    rest = each_repeated (from_to m (suc a) n) vs

    idem : (b c : Bool) → b || (b || c) ≡ b || c
    idem true c = refl
    idem false c = refl

    more : (j : ℕ) → same v w || holds (replicate j v ++ rest) w ≡ same v w || holds rest w
    more zero = refl
    more (suc j) = idem (same v w) (holds (replicate j v ++ rest) w) ∙ more j

    go : (j : ℕ) → 1 ≤ j → holds (replicate j v ++ rest) w ≡ same v w || holds rest w
    go zero h = absurd (omega arith)
    go (suc j) h = more j
