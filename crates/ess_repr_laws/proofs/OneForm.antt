-- Two canonical forms of a set as slots are one, where the values of its slots have one: as many slots are in use, and all
-- slots agree. The heart is that two strictly rising lists with the same items are one.
use Rattle.std.proofs.Common.{◌≡◌, refl, sym, ap, ◌∙◌, subst, ℕ, zero, suc, ◌+◌, ◌≤◌, ◌<◌, Bool, true, false, ◌&&◌, ◌||◌, List, [], ◌∷◌, length, ℤ, pos, Option, Some, None, option_map, arith, le_refl, eq-or-lt_of_le, ◌⊎◌, inl, inr}
use Rattle.std.proofs.lemmas.Bool.{cases_lt}
use Rattle.std.specs.List.{list_all}
use Rattle.std.specs.declared.cmp.Ordering.TheVariants.{Less}
use Rattle.ess_semantics.specs.Lists.{and_then, each_of}
use Rattle.ess_semantics.specs.Values.{Value}
use Rattle.ess_semantics.specs.Order.{same}
use Rattle.ess_semantics.specs.Collections.{holds}
use Rattle.ess_semantics.specs.Numbers.{run_from, one_to}
use Rattle.ess_semantics.specs.Cells.{Cells, Axes, are_zero, rows, order_rows}
use Rattle.ess_semantics.proofs.Tests.{or-yes}
use Rattle.ess_semantics.proofs.Orders.{rows_total, same-itself, same-equal}
use Rattle.ess_semantics.proofs.Sorting.{Rising, Has, one-list, not-itself, Distinct}
use Rattle.ess_semantics.proofs.Runs.{from_to, sorted-from, has-at, found, same-at, below-at, apart-at}
use Rattle.ess_repr_laws.proofs.RowsOfCells.{zeros-same}

-- The rows of a value's cells.
abbrev pub Rows : Type 0
Rows = List (List ℤ)

-- ---- the values of slots

-- The value of a slot is among those of all.
pub value-held : (f : ℤ → Option Value) (a n k : ℕ) (vs : List Value) (w : Value) → each_of (run_from a n) f ≡ Some vs → a ≤ k → k < a + n → f (pos k) ≡ Some w → holds vs w ≡ true
value-held f a zero k vs w e p q h = absurd (omega arith)
value-held f a (suc n) k vs w e p q h = go (f (pos a)) (each_of (run_from (suc a) n) f) refl refl e (eq-or-lt_of_le p) (λ zs r s. value-held f (suc a) n k zs w r s (omega arith) h)
  where
    go : (o : Option Value) (c : Option (List Value)) → f (pos a) ≡ o → each_of (run_from (suc a) n) f ≡ c → and_then o (λ y. option_map (λ ys. y ∷ ys) c) ≡ Some vs → (a ≡ k) ⊎ (a < k) →
        ((zs : List Value) → each_of (run_from (suc a) n) f ≡ Some zs → a < k → holds zs w ≡ true) → holds vs w ≡ true
    go None c x y e s r = cc
    go (Some v) None x y e s r = cc
    go (Some v) (Some zs) x y e (inl s) r =
        let eq : v ∷ zs ≡ vs = cc in let vw : v ≡ w = let u : f (pos a) ≡ f (pos k) = ap (λ j. f (pos j)) s in cc in
        ap (λ l. holds l w) (sym eq) ∙ ap (λ u. same u w || holds zs w) vw ∙ ap (λ b. b || holds zs w) (same-itself w)
    go (Some v) (Some zs) x y e (inr s) r = let eq : v ∷ zs ≡ vs = cc in ap (λ l. holds l w) (sym eq) ∙ ap (λ b. same v w || b) (r zs y s) ∙ or-yes (same v w)

-- w is the value of one of the slots
abbrev pub InSlot : (ℤ → Option Value) → ℕ → ℕ → Value → Type 0
InSlot f a n w = (k : ℕ) × (a ≤ k) × (k < a + n) × (f (pos k) ≡ Some w)

-- A value among them is one of a slot.
pub held-value : (f : ℤ → Option Value) (a n : ℕ) (vs : List Value) (w : Value) → each_of (run_from a n) f ≡ Some vs → holds vs w ≡ true → InSlot f a n w
held-value f a zero vs w e h = let eq : [] ≡ vs = cc in let z : false ≡ true = ap (λ l. holds l w) eq ∙ h in cc
held-value f a (suc n) vs w e h = go (f (pos a)) (each_of (run_from (suc a) n) f) refl refl e (λ zs r s. held-value f (suc a) n zs w r s)
  where
    go : (o : Option Value) (c : Option (List Value)) → f (pos a) ≡ o → each_of (run_from (suc a) n) f ≡ c → and_then o (λ y. option_map (λ ys. y ∷ ys) c) ≡ Some vs →
        ((zs : List Value) → each_of (run_from (suc a) n) f ≡ Some zs → holds zs w ≡ true → InSlot f (suc a) n w) → InSlot f a (suc n) w
    go None c x y e r = cc
    go (Some v) None x y e r = cc
    go (Some v) (Some zs) x y e r = let eq : v ∷ zs ≡ vs = cc in here (same v w) refl (ap (λ l. holds l w) eq ∙ h)
      where
        here : (b : Bool) → same v w ≡ b → (same v w || holds zs w) ≡ true → InSlot f a (suc n) w
        here true s t = let vw = same-equal v w s in (a, le_refl a, omega arith, x ∙ ap Some vw)
        here false s t = let u = r zs y (ap (λ b. b || holds zs w) (sym s) ∙ t) in (u.0, (let m = u.1 in omega arith), (let m = u.2 in omega arith), u.3)

-- Where each slot has a value, all are there.
pub values-there : (f : ℤ → Option Value) (a n : ℕ) → ((k : ℕ) → a ≤ k → k < a + n → (v : Value) × (f (pos k) ≡ Some v)) → (vs : List Value) × (each_of (run_from a n) f ≡ Some vs)
values-there f a zero h = ([], refl)
values-there f a (suc n) h =
    let v = h a (le_refl a) (omega arith) in
    let r = values-there f (suc a) n (λ k p q. h k (omega arith) (omega arith)) in
    (v.0 ∷ r.0, ap (λ o. and_then o (λ y. option_map (λ ys. y ∷ ys) (each_of (run_from (suc a) n) f))) v.1 ∙ ap (option_map (λ ys. v.0 ∷ ys)) r.1)

-- They are as many.
pub values-length : {A B : Type 0} (f : A → Option B) (ks : List A) (vs : List B) → each_of ks f ≡ Some vs → length vs ≡ length ks
values-length {B = B} f [] vs e = let q : [] ≡ vs = cc in ap length (sym q)
values-length {B = B} f (k ∷ ks) vs e = go (f k) (each_of ks f) refl e (λ zs q. values-length f ks zs q)
  where
    go : (o : Option B) (c : Option (List B)) → each_of ks f ≡ c → and_then o (λ y. option_map (λ ys. y ∷ ys) c) ≡ Some vs → ((zs : List B) → each_of ks f ≡ Some zs → length zs ≡ length ks) → length vs ≡ suc (length ks)
    go None c q e r = cc
    go (Some v) None q e r = cc
    go (Some v) (Some zs) q e r = let w : v ∷ zs ≡ vs = cc in ap length (sym w) ∙ ap suc (r zs q)

-- A test of each value.
pub each-value : (f : ℤ → Option Value) (g : Value → Bool) (a n : ℕ) (vs : List Value) → each_of (run_from a n) f ≡ Some vs → ((k : ℕ) → a ≤ k → k < a + n → (v : Value) → f (pos k) ≡ Some v → g v ≡ true) → list_all g vs ≡ true
each-value f g a zero vs e h = let q : [] ≡ vs = cc in ap (list_all g) (sym q)
each-value f g a (suc n) vs e h = go (f (pos a)) (each_of (run_from (suc a) n) f) refl refl e (λ zs q. each-value f g (suc a) n zs q (λ k p s v w. h k (omega arith) (omega arith) v w))
  where
    go : (o : Option Value) (c : Option (List Value)) → f (pos a) ≡ o → each_of (run_from (suc a) n) f ≡ c → and_then o (λ y. option_map (λ ys. y ∷ ys) c) ≡ Some vs → ((zs : List Value) → each_of (run_from (suc a) n) f ≡ Some zs → list_all g zs ≡ true) → list_all g vs ≡ true
    go None c x y e r = cc
    go (Some v) None x y e r = cc
    go (Some v) (Some zs) x y e r = let w : v ∷ zs ≡ vs = cc in ap (list_all g) (sym w) ∙ ap (λ b. b && list_all g zs) (h a (le_refl a) (omega arith) v x) ∙ r zs y

-- ---- one canonical form

-- p: a test of a slot's cells; st: what they stand for. Cells that p holds of stand for something, and where two stand for
-- one value their rows agree.
module _ (ass : List Axes) (p : Cells → Bool) (st : Cells → Option Value)
    (sound : (c : Cells) → p c ≡ true → (v : Value) × (st c ≡ Some v))
    (unique : (c c' : Cells) → p c ≡ true → p c' ≡ true → st c ≡ st c' → rows ass c ≡ rows ass c') where
  -- Of the slots g 1 to g S the first n have the property, rise, and stand for vs; all else is out of use.
  pub record Filled (g : ℤ → Cells) (S n : ℕ) (vs : List Value) : Type 0 where
    pub room : n ≤ S
    pub inside : (k : ℕ) → 1 ≤ k → k ≤ n → p (g (pos k)) ≡ true
    pub rise : (k : ℕ) → 1 ≤ k → k + 1 ≤ n → order_rows (rows ass (g (pos k))) (rows ass (g (pos (k + 1)))) ≡ Less
    pub free : (k : ℕ) → n < k → k ≤ S → are_zero ass (g (pos k)) ≡ true
    pub values : each_of (one_to n) (λ k. st (g k)) ≡ Some vs

  abbrev R : (ℤ → Cells) → ℕ → Rows
  R g k = rows ass (g (pos k))

  -- The cells of the slots in use rise.
  pub sorted : (g : ℤ → Cells) (S n : ℕ) (vs : List Value) → Filled g S n vs → Rising rows_total (from_to (R g) 1 n)
  sorted g S n vs f = sorted-from rows_total (R g) 1 n (λ k a b. f.rise k a (omega arith))

  within : (g g' : ℤ → Cells) (S S' n n' : ℕ) (vs vs' : List Value) → Filled g S n vs → Filled g' S' n' vs' → ((w : Value) → holds vs w ≡ true → holds vs' w ≡ true) →
      (x : Rows) → Has rows_total (from_to (R g) 1 n) x → Has rows_total (from_to (R g') 1 n') x
  within g g' S S' n n' vs vs' f f' inc x h =
      let r = found rows_total (R g) 1 n x h in
      let a : r.0 ≤ n = let m = r.2 in omega arith in
      let w = sound (g (pos r.0)) (f.inside r.0 r.1 a) in
      let k = held-value (λ j. st (g' j)) 1 n' vs' w.0 f'.values (inc w.0 (value-held (λ j. st (g j)) 1 n r.0 vs w.0 f.values r.1 r.2 w.1)) in
      let b : k.0 ≤ n' = let m = k.2 in omega arith in
      let e = unique (g (pos r.0)) (g' (pos k.0)) (f.inside r.0 r.1 a) (f'.inside k.0 k.1 b) (w.1 ∙ sym k.3) in
      let same : R g' k.0 ≡ x = sym e ∙ r.3 in
      subst (Has rows_total (from_to (R g') 1 n')) same (has-at rows_total (R g') 1 n' k.0 k.1 k.2)

  -- Two canonical forms with the same values are one.
  pub filled-once : (g g' : ℤ → Cells) (S n n' : ℕ) (vs vs' : List Value) → Filled g S n vs → Filled g' S n' vs' → ((w : Value) → holds vs w ≡ holds vs' w) →
      (n ≡ n') × ((k : ℕ) → 1 ≤ k → k ≤ S → rows ass (g (pos k)) ≡ rows ass (g' (pos k)))
  filled-once g g' S n n' vs vs' f f' h =
      let e = one-list rows_total (from_to (R g) 1 n) (from_to (R g') 1 n') (sorted g S n vs f) (sorted g' S n' vs' f')
      (within g g' S S n n' vs vs' f f' (λ w q. sym (h w) ∙ q)) (within g' g S S n' n vs' vs f' f (λ w q. h w ∙ q)) in
      let r = same-at (R g) (R g') 1 n n' e in
      (r.0, λ k a b. go r.0 r.1 k a b (cases_lt n k))
    where
      go : n ≡ n' → ((k : ℕ) → 1 ≤ k → k < 1 + n → R g k ≡ R g' k) → (k : ℕ) → 1 ≤ k → k ≤ S → (n < k) ⊎ (k ≤ n) → rows ass (g (pos k)) ≡ rows ass (g' (pos k))
      go m r k a b (inl c) = zeros-same ass (g (pos k)) (g' (pos k)) (f.free k c b) (f'.free k (omega arith) b)
      go m r k a b (inr c) = r k a (omega arith)

  -- the values of slots that rise differ
  distinct-from : (f : ℤ → Option Value) (R : ℕ → Rows) (a n : ℕ) (vs : List Value) → each_of (run_from a n) f ≡ Some vs → Rising rows_total (from_to R a n) →
      ((j k : ℕ) → a ≤ j → j < a + n → a ≤ k → k < a + n → f (pos j) ≡ f (pos k) → R j ≡ R k) → Distinct vs
  distinct-from f R a zero vs e r u = let q : [] ≡ vs = cc in subst Distinct q tt
  distinct-from f R a (suc n) vs e r u = go (f (pos a)) (each_of (run_from (suc a) n) f) refl refl e
      (λ zs q. distinct-from f R (suc a) n zs q r.1 (λ j k p1 p2 p3 p4. u j k (omega arith) (omega arith) (omega arith) (omega arith)))
    where
      no : (v : Value) (zs : List Value) → f (pos a) ≡ Some v → each_of (run_from (suc a) n) f ≡ Some zs → (b : Bool) → holds zs v ≡ b → holds zs v ≡ false
      no v zs x y false q = q
      no v zs x y true q =
          let s = held-value f (suc a) n zs v y q in
          let e = u a s.0 (le_refl a) (omega arith) (let m = s.1 in omega arith) (let m = s.2 in omega arith) (x ∙ sym s.3) in
          let l = below-at rows_total R (R a) (suc a) n s.0 r.0 s.1 s.2 in
          absurd (not-itself rows_total (R a) (ap (order_rows (R a)) e ∙ l))

      go : (o : Option Value) (c : Option (List Value)) → f (pos a) ≡ o → each_of (run_from (suc a) n) f ≡ c → and_then o (λ y. option_map (λ ys. y ∷ ys) c) ≡ Some vs →
          ((zs : List Value) → each_of (run_from (suc a) n) f ≡ Some zs → Distinct zs) → Distinct vs
      go None c x y e ih = cc
      go (Some v) None x y e ih = cc
      go (Some v) (Some zs) x y e ih = let w : v ∷ zs ≡ vs = cc in subst Distinct w (no v zs x y (holds zs v) refl, ih zs y)

  -- The values of slots that rise differ.
  pub filled-distinct : (g : ℤ → Cells) (S n : ℕ) (vs : List Value) → Filled g S n vs → Distinct vs
  filled-distinct g S n vs f =
      distinct-from (λ j. st (g j)) (R g) 1 n vs f.values (sorted g S n vs f)
      (λ j k p1 p2 p3 p4 q. unique (g (pos j)) (g (pos k)) (f.inside j p1 (omega arith)) (f.inside k p3 (omega arith)) q)

  -- the rows of two slots in use that are one are those of one slot
  pub filled-apart : (g : ℤ → Cells) (S n : ℕ) (vs : List Value) → Filled g S n vs → (j k : ℕ) → 1 ≤ j → j ≤ n → 1 ≤ k → k ≤ n → rows ass (g (pos j)) ≡ rows ass (g (pos k)) → j ≡ k
  filled-apart g S n vs f j k a b c d e = apart-at rows_total (R g) 1 n (sorted g S n vs f) j k a (omega arith) c (omega arith) e
