-- Two canonical forms of a multiset as slots are one, where the values of its slots have one: rows that rise with repeats
-- are as the values are, equally often.
use Rattle.std.proofs.Common.{◌≡◌, refl, sym, ap, ◌∙◌, subst, ℕ, zero, suc, ◌+◌, ◌≤◌, ◌<◌, Bool, true, false, ◌||◌, if◌then◌else◌, List, [], ◌∷◌, map, ℤ, pos, Option, Some, None, option_map, arith, le_refl, ◌⊎◌, inl, inr}
use Rattle.std.proofs.lemmas.Bool.{cases_lt}
use Rattle.std.specs.Ordering.{is_eq, is_le}
use Rattle.std.specs.declared.cmp.Ordering.{Ordering}
use Rattle.std.specs.declared.cmp.Ordering.TheVariants.{Less, Equal, Greater}
use Rattle.ess_semantics.specs.Lists.{and_then, each_of}
use Rattle.ess_semantics.specs.Values.{Value}
use Rattle.ess_semantics.specs.Order.{order, same}
use Rattle.ess_semantics.specs.Collections.{holds, count, add, add_by, sorted}
use Rattle.ess_semantics.specs.Numbers.{run_from, one_to}
use Rattle.ess_semantics.specs.Cells.{Cells, Axes, are_zero, rows, order_rows}
use Rattle.ess_semantics.proofs.Orders.{rows_total, rows_exact, same-equal}
use Rattle.ess_repr_laws.proofs.RowsOfCells.{zeros-same}
use Rattle.ess_repr_laws.proofs.OneForm.{Rows, value-held}
use Rattle.ess_semantics.proofs.Runs.{from_to, same-at}
use Rattle.ess_semantics.proofs.Multisets.{times, WeaklyRising, under-on, one-bag, one-sorted-bag, count-sorted, sorted-rises, same-members}

-- ---- rows of values

-- how often a row is that of one of the values
times-add : (f : Value → Rows) (v : Value) (xs : List Value) (x : Rows) → times rows_total rows_exact (map f (add v xs)) x ≡ times rows_total rows_exact (f v ∷ map f xs) x
times-add f v [] x = refl
times-add f v (y ∷ ys) x = go (order v y) (times-add f v ys x)
  where
    swap : (a b : Bool) (n m : ℕ) → m ≡ (if a then suc n else n) → (if b then suc m else m) ≡ (if a then suc (if b then suc n else n) else (if b then suc n else n))
    swap true true n m e = ap suc e
    swap true false n m e = e
    swap false true n m e = ap suc e
    swap false false n m e = e

    go : (p : Ordering) → times rows_total rows_exact (map f (add v ys)) x ≡ times rows_total rows_exact (f v ∷ map f ys) x →
        times rows_total rows_exact (map f (add_by p v y ys (add v ys))) x ≡ times rows_total rows_exact (f v ∷ f y ∷ map f ys) x
    go Less ih = refl
    go Equal ih = refl
    go Greater ih = swap (is_eq (order_rows (f v) x)) (is_eq (order_rows (f y) x)) (times rows_total rows_exact (map f ys) x) (times rows_total rows_exact (map f (add v ys)) x) ih

times-sorted : (f : Value → Rows) (xs : List Value) (x : Rows) → times rows_total rows_exact (map f (sorted xs)) x ≡ times rows_total rows_exact (map f xs) x
times-sorted f [] x = refl
times-sorted f (v ∷ vs) x = times-add f v (sorted vs) x ∙ ap (λ n. if is_eq (order_rows (f v) x) then suc n else n) (times-sorted f vs x)

-- values that occur equally often have rows that do
times-same : (f : Value → Rows) (vs ws : List Value) → ((w : Value) → count vs w ≡ count ws w) → (x : Rows) → times rows_total rows_exact (map f vs) x ≡ times rows_total rows_exact (map f ws) x
times-same f vs ws h x =
    sym (times-sorted f vs x)
    ∙ ap (λ l. times rows_total rows_exact (map f l) x) (one-sorted-bag (sorted vs) (sorted ws) (sorted-rises vs) (sorted-rises ws) (λ w. count-sorted vs w ∙ h w ∙ sym (count-sorted ws w)))
    ∙ times-sorted f ws x

-- the row that stands beside a value
abbrev row_beside : List Value → List Rows → Value → Rows
row_beside (v ∷ vs) (x ∷ xs) w = if same v w then x else row_beside vs xs w
row_beside _ _ w = []

-- rows that rise weakly one by one
weakly-from : (f : ℕ → Rows) (a n : ℕ) → ((k : ℕ) → a ≤ k → k + 1 < a + n → is_le (order_rows (f k) (f (k + 1))) ≡ true) → WeaklyRising rows_total rows_exact (from_to f a n)
weakly-from f a zero h = tt
weakly-from f a (suc zero) h = (tt, tt)
weakly-from f a (suc (suc n)) h =
    let r = weakly-from f (suc a) (suc n) (λ k u v. h k (omega arith) (omega arith)) in
    let s : is_le (order_rows (f a) (f (suc a))) ≡ true = let e : a + 1 ≡ suc a = omega arith in subst (λ j. is_le (order_rows (f a) (f j)) ≡ true) e (h a (le_refl a) (omega arith)) in
    ((s, under-on rows_total rows_exact (f a) (f (suc a)) (from_to f (suc (suc a)) n) s r.0), r)

-- ---- one canonical form

module _ (ass : List Axes) (p : Cells → Bool) (st : Cells → Option Value) (unique : (c c' : Cells) → p c ≡ true → p c' ≡ true → st c ≡ st c' → rows ass c ≡ rows ass c') where
  -- Of the slots g 1 to g S the first n have the property, rise with repeats, and stand for vs; all else is out of use.
  pub record Heaped (g : ℤ → Cells) (S n : ℕ) (vs : List Value) : Type 0 where
    pub room : n ≤ S
    pub inside : (k : ℕ) → 1 ≤ k → k ≤ n → p (g (pos k)) ≡ true
    pub rise : (k : ℕ) → 1 ≤ k → k + 1 ≤ n → is_le (order_rows (rows ass (g (pos k))) (rows ass (g (pos (k + 1))))) ≡ true
    pub free : (k : ℕ) → n < k → k ≤ S → are_zero ass (g (pos k)) ≡ true
    pub values : each_of (one_to n) (λ k. st (g k)) ≡ Some vs

  abbrev R : (ℤ → Cells) → ℕ → Rows
  R g k = rows ass (g (pos k))

  -- the row beside a value is that of any cells that stand for it
  beside : (g : ℤ → Cells) (a n : ℕ) (vs : List Value) → each_of (run_from a n) (λ k. st (g k)) ≡ Some vs → ((k : ℕ) → a ≤ k → k < a + n → p (g (pos k)) ≡ true) →
      (w : Value) (c : Cells) → p c ≡ true → st c ≡ Some w → holds vs w ≡ true → row_beside vs (from_to (R g) a n) w ≡ rows ass c
  beside g a zero vs e i w c h q o = let z : [] ≡ vs = cc in let y : false ≡ true = ap (λ l. holds l w) z ∙ o in cc
  beside g a (suc n) vs e i w c h q o = go (st (g (pos a))) (each_of (run_from (suc a) n) (λ k. st (g k))) refl refl e (λ zs r s. beside g (suc a) n zs r (λ k x y. i k (omega arith) (omega arith)) w c h q s)
    where
      go : (x : Option Value) (y : Option (List Value)) → st (g (pos a)) ≡ x → each_of (run_from (suc a) n) (λ k. st (g k)) ≡ y → and_then x (λ v. option_map (λ l. v ∷ l) y) ≡ Some vs →
          ((zs : List Value) → each_of (run_from (suc a) n) (λ k. st (g k)) ≡ Some zs → holds zs w ≡ true → row_beside zs (from_to (R g) (suc a) n) w ≡ rows ass c) → row_beside vs (from_to (R g) a (suc n)) w ≡ rows ass c
      go None y s t e ih = cc
      go (Some v) None s t e ih = cc
      go (Some v) (Some zs) s t e ih = let z : v ∷ zs ≡ vs = cc in ap (λ l. row_beside l (from_to (R g) a (suc n)) w) (sym z) ∙ here (same v w) refl (ap (λ l. holds l w) z ∙ o)
        where
          here : (b : Bool) → same v w ≡ b → b || holds zs w ≡ true → (if b then R g a else row_beside zs (from_to (R g) (suc a) n) w) ≡ rows ass c
          here true r o = unique (g (pos a)) c (i a (le_refl a) (omega arith)) h (s ∙ ap Some (same-equal v w r) ∙ sym q)
          here false r o = ih zs t o

  -- the rows are those of the values
  rows-of : (f : Value → Rows) (g : ℤ → Cells) (a n : ℕ) (vs : List Value) → each_of (run_from a n) (λ k. st (g k)) ≡ Some vs → ((k : ℕ) → a ≤ k → k < a + n → (w : Value) → st (g (pos k)) ≡ Some w → f w ≡ R g k) → map f vs ≡ from_to (R g) a n
  rows-of f g a zero vs e h = let z : [] ≡ vs = cc in ap (map f) (sym z)
  rows-of f g a (suc n) vs e h = go (st (g (pos a))) (each_of (run_from (suc a) n) (λ k. st (g k))) refl refl e (λ zs r. rows-of f g (suc a) n zs r (λ k x y. h k (omega arith) (omega arith)))
    where
      go : (x : Option Value) (y : Option (List Value)) → st (g (pos a)) ≡ x → each_of (run_from (suc a) n) (λ k. st (g k)) ≡ y → and_then x (λ v. option_map (λ l. v ∷ l) y) ≡ Some vs →
          ((zs : List Value) → each_of (run_from (suc a) n) (λ k. st (g k)) ≡ Some zs → map f zs ≡ from_to (R g) (suc a) n) → map f vs ≡ from_to (R g) a (suc n)
      go None y s t e ih = cc
      go (Some v) None s t e ih = cc
      go (Some v) (Some zs) s t e ih = let z : v ∷ zs ≡ vs = cc in ap (map f) (sym z) ∙ ap (λ r. r ∷ map f zs) (h a (le_refl a) (omega arith) v s) ∙ ap (λ l. R g a ∷ l) (ih zs t)

  -- Two canonical forms with the same values equally often are one.
  pub heaped-once : (g g' : ℤ → Cells) (S n n' : ℕ) (vs vs' : List Value) → Heaped g S n vs → Heaped g' S n' vs' → ((w : Value) → count vs w ≡ count vs' w) →
      (n ≡ n') × ((k : ℕ) → 1 ≤ k → k ≤ S → rows ass (g (pos k)) ≡ rows ass (g' (pos k)))
  heaped-once g g' S n n' vs vs' f f' h =
      let inside = f.inside in
      let inside' = f'.inside in
      let beside-of = λ (w : Value) (c : Cells) (x : p c ≡ true) (q : st c ≡ Some w) (o : holds vs w ≡ true). beside g 1 n vs f.values (λ k a b. inside k a (omega arith)) w c x q o in
      let one = rows-of (row_beside vs (from_to (R g) 1 n)) g 1 n vs f.values (λ k a b w q. beside-of w (g (pos k)) (inside k a (omega arith)) q (value-held (λ j. st (g j)) 1 n k vs w f.values a b q)) in
      let two = rows-of (row_beside vs (from_to (R g) 1 n)) g' 1 n' vs' f'.values (λ k a b w q. beside-of w (g' (pos k)) (inside' k a (omega arith)) q (same-members vs vs' h w ∙ value-held (λ j. st (g' j)) 1 n' k vs' w f'.values a b q)) in
      let rise = f.rise in
      let rise' = f'.rise in
      let e = one-bag rows_total rows_exact (from_to (R g) 1 n) (from_to (R g') 1 n') (weakly-from (R g) 1 n (λ k a b. rise k a (omega arith))) (weakly-from (R g') 1 n' (λ k a b. rise' k a (omega arith)))
      (λ x. ap (λ l. times rows_total rows_exact l x) (sym one) ∙ times-same (row_beside vs (from_to (R g) 1 n)) vs vs' h x ∙ ap (λ l. times rows_total rows_exact l x) two) in
      let r = same-at (R g) (R g') 1 n n' e in
      (r.0, λ k a b. go r.0 r.1 k a b (cases_lt n k))
    where
      go : n ≡ n' → ((k : ℕ) → 1 ≤ k → k < 1 + n → R g k ≡ R g' k) → (k : ℕ) → 1 ≤ k → k ≤ S → (n < k) ⊎ (k ≤ n) → rows ass (g (pos k)) ≡ rows ass (g' (pos k))
      go m r k a b (inl c) = zeros-same ass (g (pos k)) (g' (pos k)) (f.free k c b) (f'.free k (omega arith) b)
      go m r k a b (inr c) = r k a (omega arith)
