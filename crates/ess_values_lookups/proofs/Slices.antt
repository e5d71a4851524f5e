-- Slices of values and of pairs that rise strictly, gone through by halves.
use Rattle.std.proofs.Common.{◌≡◌, refl, sym, ap, ◌∙◌, ℕ, zero, suc, ◌+◌, ◌<◌, ◌≤◌, arith, Bool, true}
use Rattle.std.proofs.Common.{false, ◌&&◌, ◌||◌, List, [], ◌∷◌, map, length, get_or, take, drop, Some, None, if◌then◌else◌}
use Rattle.std.specs.Ordering.{is_eq}
use Rattle.std.specs.declared.cmp.Ordering.{Ordering}
use Rattle.std.specs.declared.cmp.Ordering.TheVariants.{Less, Equal, Greater}
use Rattle.ess_semantics.specs.Values.{Value, itself, from_of, to_of}
use Rattle.ess_semantics.specs.Order.{order, same, below}
use Rattle.ess_semantics.specs.Collections.{holds, rises, value_at}
use Rattle.ess_semantics.proofs.Orders.{order_total, order_exact}
use Rattle.ess_semantics.proofs.Sorting.{Rising, below-has, sorted-of}
use Rattle.ess_core.specs.ValueViews.{pure_val, pure_pair}
use Rattle.ess_core.specs.declared.values.Val.{Val}
use Rattle.ess_core.specs.declared.values.Pair.{Pair}
use Rattle.ess_core.specs.declared.values.Val.TheViews.{out-Pair}
use Rattle.ess_core.proofs.ValueEquations.{pure_pair_is}
use Rattle.ess_values_lookups.proofs.Halving.{has-at, lacks-from, lacks-to, lacks-all, holds-at}

at-map : {A B : Type 0} (f : A → B) (xs : List A) (i : ℕ) (x : A) → i < length xs → get_or (map f xs) i (f x) ≡ f (get_or xs i x)
at-map f [] i x l = absurd (omega arith)
at-map f (y ∷ xs) zero x l = refl
at-map f (y ∷ xs) (suc i) x l = at-map f xs i x (omega arith)

within-map : {A B : Type 0} (f : A → B) (xs : List A) (i : ℕ) → i < length xs → i < length (map f xs)
within-map f [] i l = absurd (omega arith)
within-map f (y ∷ xs) zero l = omega arith
within-map f (y ∷ xs) (suc i) l = let h = within-map f xs i (omega arith) in omega (arith, h)

-- Behind the last item nothing is left.
behind_map : {A : Type 0} (f : A → Value) (xs : List A) (v : Value) (n : ℕ) → n ≡ length xs → holds (drop n (map f xs)) v ≡ false
behind_map f [] v zero e = refl
behind_map f [] v (suc n) e = refl
behind_map f (x ∷ xs) v zero e = absurd (omega (arith, e))
behind_map f (x ∷ xs) v (suc n) e = behind_map f xs v n (omega (arith, e))

-- ---- values

key-val : (items : List Val) (v : Value) (i : ℕ) (x : Val) (o : Ordering) → i < length items → x ≡ get_or items i x
    → o ≡ order (pure_val x) v → order (get_or (map pure_val items) i (pure_val x)) v ≡ o
key-val items v i x o l g e =
    ap (λ w. order w v) (at-map pure_val items i x l ∙ ap pure_val (sym g)) ∙ sym e

pub val_to : (items : List Val) (v : Val) (i : ℕ) (x : Val) (o : Ordering) → rises itself (map pure_val items) ≡ true → i < length items
    → x ≡ get_or items i x → o ≡ order (pure_val x) (pure_val v) → o ≡ Less → holds (take (i + 1) (map pure_val items)) (pure_val v) ≡ false
val_to items v i x o r l g e n =
    lacks-to (map pure_val items) i (pure_val x) (pure_val v) r (within-map pure_val items i l) (key-val items (pure_val v) i x o l g e ∙ n)

pub val_from : (items : List Val) (v : Val) (i : ℕ) (x : Val) (o : Ordering) → rises itself (map pure_val items) ≡ true → i < length items
    → x ≡ get_or items i x → o ≡ order (pure_val x) (pure_val v) → o ≡ Greater → holds (drop i (map pure_val items)) (pure_val v) ≡ false
val_from items v i x o r l g e n =
    lacks-from (map pure_val items) i (pure_val x) (pure_val v) r (within-map pure_val items i l)
    (key-val items (pure_val v) i x o l g e ∙ n)

pub val_at : (items : List Val) (v : Val) (i : ℕ) (x : Val) (o : Ordering) → i < length items
    → x ≡ get_or items i x → o ≡ order (pure_val x) (pure_val v) → o ≡ Equal → true ≡ holds (map pure_val items) (pure_val v)
val_at items v i x o l g e n =
    sym (holds-at (map pure_val items) i (pure_val x) (pure_val v) (within-map pure_val items i l)
    (key-val items (pure_val v) i x o l g e ∙ n))

pub val_none : (items : List Val) (v : Val) (low high : ℕ) → high ≤ low → holds (take low (map pure_val items)) (pure_val v) ≡ false
    → holds (drop high (map pure_val items)) (pure_val v) ≡ false → false ≡ holds (map pure_val items) (pure_val v)
val_none items v low high l a b = sym (lacks-all (map pure_val items) low high (pure_val v) l a b)

pub val_behind : (items : List Val) (v : Val) (n : ℕ) → n ≡ length items → holds (drop n (map pure_val items)) (pure_val v) ≡ false
val_behind items v n e = behind_map pure_val items (pure_val v) n e

pub ruleset vals = (val_to, val_from, val_at, val_none, val_behind)

-- ---- pairs, by their first parts

-- The first part of a pair.
abbrev pub key : Pair → Value
key p = from_of (pure_pair p)

-- A list of pairs rises by its first parts where these rise.
rises-keys : (ps : List Pair) → rises from_of (map pure_pair ps) ≡ true → rises itself (map key ps) ≡ true
rises-keys [] h = refl
rises-keys (p ∷ []) h = refl
rises-keys (p ∷ q ∷ ps) h = go (below (key p) (key q)) (rises-keys (q ∷ ps)) h
  where
    go : (b : Bool) → (rises from_of (map pure_pair (q ∷ ps)) ≡ true → rises itself (map key (q ∷ ps)) ≡ true)
        → b && rises from_of (map pure_pair (q ∷ ps)) ≡ true → b && rises itself (map key (q ∷ ps)) ≡ true
    go true r e = r e
    go false r e = cc

key-pair : (ps : List Pair) (v : Value) (i : ℕ) (x : Pair) (k : Val) (o : Ordering) → i < length ps → x ≡ get_or ps i x
    → k ≡ (out-Pair x).from → o ≡ order (pure_val k) v → order (get_or (map key ps) i (key x)) v ≡ o
key-pair ps v i x k o l g f e =
    ap (λ w. order w v) (at-map key ps i x l ∙ ap key (sym g) ∙ ap from_of (pure_pair_is x) ∙ ap pure_val (sym f)) ∙ sym e

pub pair_to : (ps : List Pair) (v : Val) (i : ℕ) (x : Pair) (k : Val) (o : Ordering) → rises from_of (map pure_pair ps) ≡ true
    → i < length ps → x ≡ get_or ps i x → k ≡ (out-Pair x).from → o ≡ order (pure_val k) (pure_val v) → o ≡ Less
    → holds (take (i + 1) (map key ps)) (pure_val v) ≡ false
pair_to ps v i x k o r l g f e n =
    lacks-to (map key ps) i (key x) (pure_val v) (rises-keys ps r) (within-map key ps i l) (key-pair ps (pure_val v) i x k o l g f e ∙ n)

pub pair_from : (ps : List Pair) (v : Val) (i : ℕ) (x : Pair) (k : Val) (o : Ordering) → rises from_of (map pure_pair ps) ≡ true
    → i < length ps → x ≡ get_or ps i x → k ≡ (out-Pair x).from → o ≡ order (pure_val k) (pure_val v) → o ≡ Greater
    → holds (drop i (map key ps)) (pure_val v) ≡ false
pair_from ps v i x k o r l g f e n =
    lacks-from (map key ps) i (key x) (pure_val v) (rises-keys ps r) (within-map key ps i l) (key-pair ps (pure_val v) i x k o l g f e ∙ n)

-- The value at the pair whose first part is the argument.
value-there : (ps : List Pair) (i : ℕ) (d : Pair) (v : Value) → Rising order_total (map key ps) → i < length ps
    → order (key (get_or ps i d)) v ≡ Equal → value_at (map pure_pair ps) v ≡ Some (to_of (pure_pair (get_or ps i d)))
value-there [] i d v r l e = absurd (omega arith)
value-there (p ∷ ps) zero d v r l e = ap (λ o. if is_eq o then Some (to_of (pure_pair p)) else value_at (map pure_pair ps) v) e
value-there (p ∷ ps) (suc i) d v r l e =
    let m : i < length ps = omega arith in
    let h = has-at (map key ps) i (key d) (within-map key ps i m) in
    let b = below-has order_total (key p) (get_or (map key ps) i (key d)) (map key ps) r.0 h in
    let q : get_or (map key ps) i (key d) ≡ v = at-map key ps i d m ∙ order_exact (key (get_or ps i d)) v e in
    let n : order (key p) v ≡ Less = ap (λ w. order (key p) w) (sym q) ∙ b in
    ap (λ o. if is_eq o then Some (to_of (pure_pair p)) else value_at (map pure_pair ps) v) n ∙ value-there ps i d v r.1 m e

-- Where no first part is the argument, there is no value.
value-none : (ps : List Pair) (v : Value) → holds (map key ps) v ≡ false → value_at (map pure_pair ps) v ≡ None
value-none [] v h = refl
value-none (p ∷ ps) v h = go (same (key p) v) (value-none ps v) h
  where
    go : (b : Bool) → (holds (map key ps) v ≡ false → value_at (map pure_pair ps) v ≡ None) → b || holds (map key ps) v ≡ false
        → (if b then Some (to_of (pure_pair p)) else value_at (map pure_pair ps) v) ≡ None
    go true r e = cc
    go false r e = r e

same-at : {A : Type 0} (xs : List A) (i : ℕ) (x y : A) → i < length xs → get_or xs i x ≡ get_or xs i y
same-at [] i x y l = absurd (omega arith)
same-at (w ∷ xs) zero x y l = refl
same-at (w ∷ xs) (suc i) x y l = same-at xs i x y (omega arith)

pub pair_at : (ps : List Pair) (v : Val) (i : ℕ) (x y : Pair) (k : Val) (o : Ordering) → rises from_of (map pure_pair ps) ≡ true
    → i < length ps → x ≡ get_or ps i x → k ≡ (out-Pair x).from → o ≡ order (pure_val k) (pure_val v) → o ≡ Equal
    → Some (pure_val (out-Pair (get_or ps i y)).to) ≡ value_at (map pure_pair ps) (pure_val v)
pair_at ps v i x y k o r l g f e n =
    let a : key (get_or ps i y) ≡ get_or (map key ps) i (key x) = ap key (same-at ps i y x l) ∙ sym (at-map key ps i x l) in
    let q : order (key (get_or ps i y)) (pure_val v) ≡ Equal =
    ap (λ w. order w (pure_val v)) a ∙ key-pair ps (pure_val v) i x k o l g f e ∙ n in
    sym (value-there ps i y (pure_val v) (sorted-of (map key ps) (rises-keys ps r)) l q ∙ ap Some (ap to_of (pure_pair_is (get_or ps i y))))

pub pair_none : (ps : List Pair) (v : Val) (low high : ℕ) → high ≤ low → holds (take low (map key ps)) (pure_val v) ≡ false
    → holds (drop high (map key ps)) (pure_val v) ≡ false → None ≡ value_at (map pure_pair ps) (pure_val v)
pair_none ps v low high l a b = sym (value-none ps (pure_val v) (lacks-all (map key ps) low high (pure_val v) l a b))

pub pair_behind : (ps : List Pair) (v : Val) (n : ℕ) → n ≡ length ps → holds (drop n (map key ps)) (pure_val v) ≡ false
pair_behind ps v n e = behind_map key ps (pure_val v) n e

pub ruleset pairs = (pair_to, pair_from, pair_at, pair_none, pair_behind)
