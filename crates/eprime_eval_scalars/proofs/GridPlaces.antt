-- Where an index list lies in a table, by arithmetic.
use Rattle.std.proofs.Common.{◌≡◌, refl, sym, ap, ◌∙◌, ℕ, zero, suc, ◌+◌, ◌*◌, ◌^◌, ◌<◌, ◌≤◌, Bool, true, false, if◌then◌else◌, List, [], ◌∷◌, map, length, get_or, take, drop, ℤ, Option, Some, None, option_map, arith, ltb-true, ltb-false, le-ltb, lt-ltb}
use Rattle.std.specs.Prelude.{nat_lt, slice_get}
use Rattle.std.proofs.lemmas.Option.{slice_get_past}
use Rattle.std.proofs.Math.Nat.{mul_assoc, add-mul, le-mul_of_pos_right, mul-le-mul_right}
use Rattle.std.proofs.lemmas.List.{at_drop_more, drop_all, length-map}
use Rattle.ess_semantics.specs.Lists.{and_then, only_of}
use Rattle.ess_semantics.specs.Order.{same_int}
use Rattle.ess_semantics.specs.Tables.{volume, chunk, item_in, cell_at, code}
use Rattle.eprime_eval_scalars.specs.declared.scalars.Scalar.{Scalar}
use Rattle.eprime_eval_scalars.specs.declared.grids.Axis.{Axis}
use Rattle.eprime_eval_scalars.specs.declared.grids.Grid.{Grid}
use Rattle.eprime_eval_scalars.specs.ScalarViews.{pure_scalar}
use Rattle.eprime_eval_scalars.specs.Grids.{axis_numbers, pure_grid, place_of, offset_from, in_memory}
use Rattle.eprime_eval_scalars.proofs.ListParts.{drop-drop, taken-behind, get-behind}

-- ---- chunks

place-less : (a : List ℤ) (i : ℤ) (p : ℕ) → place_of a i ≡ Some p → p < length a
place-less [] i p e = cc
place-less (x ∷ xs) i p e = go (same_int x i) refl e (λ q h. place-less xs i q h)
  where
    more : (o : Option ℕ) → place_of xs i ≡ o → option_map suc o ≡ Some p → ((q : ℕ) → place_of xs i ≡ Some q → q < length xs) → p < suc (length xs)
    more None h e f = cc
    more (Some q) h e f = let l = f q h in let m : suc q ≡ p = cc in omega arith

    go : (t : Bool) → same_int x i ≡ t → (if t then Some 0 else option_map suc (place_of xs i)) ≡ Some p
        → ((q : ℕ) → place_of xs i ≡ Some q → q < length xs) → p < suc (length xs)
    go true h e f = let m : 0 ≡ p = cc in omega arith
    go false h e f = more (place_of xs i) refl e f

map-map : (v : ℕ) (is : List ℤ) (o : Option ℕ) → option_map (λ p. take v (drop (p * v) (drop v is))) o ≡ option_map (λ p. take v (drop (p * v) is)) (option_map suc o)
map-map v is None = refl
map-map v is (Some p) =
    let e : v + p * v ≡ suc p * v = omega arith in ap (λ ys. Some (take v ys)) (drop-drop (p * v) v is ∙ ap (λ n. drop n is) e)

chunk-place : (a : List ℤ) (v : ℕ) (is : List ℤ) (i : ℤ) → chunk a v is i ≡ option_map (λ p. take v (drop (p * v) is)) (place_of a i)
chunk-place [] v is i = refl
chunk-place (x ∷ xs) v is i = go (same_int x i) (chunk-place xs v (drop v is) i)
  where
    go : (t : Bool) → chunk xs v (drop v is) i ≡ option_map (λ p. take v (drop (p * v) (drop v is))) (place_of xs i)
        → (if t then Some (take v is) else chunk xs v (drop v is) i) ≡ option_map (λ p. take v (drop (p * v) is)) (if t then Some 0 else option_map suc (place_of xs i))
    go true h = let e : 0 ≡ 0 * v = omega arith in ap (λ n. Some (take v (drop n is))) e
    go false h = h ∙ map-map v is (place_of xs i)

-- ---- offsets

spread : (k n v p o : ℕ) → (k * n + p) * v + o ≡ k * (n * v) + ((0 * n + p) * v + o)
spread k n v p o =
    let a : (k * n + p) * v ≡ (k * n) * v + p * v = add-mul (k * n) p v in
    let b : (k * n) * v ≡ k * (n * v) = mul_assoc k n v in
    let z : 0 * n + p ≡ p = omega arith in
    let c : (0 * n + p) * v ≡ p * v = ap (λ q. q * v) z in
    omega (arith, a, b, c)

at-least : (k n p : ℕ) → p < n → k ≤ k * n + p
at-least k zero p l = absurd (omega arith)
at-least k (suc n) p l = let m : k ≤ k * suc n = le-mul_of_pos_right k (omega arith) in omega (arith, m)

fits : (p n v : ℕ) → p < n → p * v + v ≤ n * v
fits p n v l = let m : suc p * v ≤ n * v = mul-le-mul_right v l in omega (arith, m)

offset-shift : (k : ℕ) (as' : List (List ℤ)) (js : List ℤ) → offset_from k as' js ≡ option_map (λ o. k * volume as' + o) (offset_from 0 as' js)
offset-shift k [] [] = let e : k ≡ k * 1 + 0 = omega arith in ap Some e
offset-shift k [] (j ∷ js) = refl
offset-shift k (a ∷ as') [] = refl
offset-shift k (a ∷ as') (i ∷ js) = go (place_of a i) (λ m. offset-shift m as' js)
  where
    sum : (p : ℕ) (o : Option ℕ)
        → option_map (λ o. (k * length a + p) * volume as' + o) o ≡ option_map (λ o. k * (length a * volume as') + o) (option_map (λ o. (0 * length a + p) * volume as' + o) o)
    sum p None = refl
    sum p (Some o) = ap Some (spread k (length a) (volume as') p o)

    go : (o : Option ℕ) → ((m : ℕ) → offset_from m as' js ≡ option_map (λ o. m * volume as' + o) (offset_from 0 as' js))
        → and_then o (λ p. offset_from (k * length a + p) as' js)
        ≡ option_map (λ o. k * (length a * volume as') + o) (and_then o (λ p. offset_from (0 * length a + p) as' js))
    go None f = refl
    go (Some p) f =
        f (k * length a + p) ∙ sum p (offset_from 0 as' js)
        ∙ ap (option_map (λ o. k * (length a * volume as') + o)) (sym (f (0 * length a + p)))

get-offset : (is : List ℤ) (p v : ℕ) (o : Option ℕ) → and_then o (slice_get (drop (p * v) is)) ≡ and_then (option_map (λ o. p * v + o) o) (slice_get is)
get-offset is p v None = refl
get-offset is p v (Some o) = get-behind (p * v) o is

behind-place : (a : List ℤ) (as' : List (List ℤ)) (is js : List ℤ) (o : Option ℕ)
    → ((ys : List ℤ) → item_in as' (take (volume as') ys) js ≡ and_then (offset_from 0 as' js) (slice_get ys))
    → and_then (option_map (λ p. take (volume as') (drop (p * volume as') is)) o) (λ c. item_in as' c js)
    ≡ and_then (and_then o (λ p. offset_from (0 * length a + p) as' js)) (slice_get is)
behind-place a as' is js None h = refl
behind-place a as' is js (Some p) h =
    h (drop (p * volume as') is) ∙ get-offset is p (volume as') (offset_from 0 as' js)
    ∙ (let e : p ≡ 0 * length a + p = omega arith in
    ap (λ o. and_then o (slice_get is)) (sym (offset-shift p as' js) ∙ ap (λ k. offset_from k as' js) e))

within-taken : (a : List ℤ) (v : ℕ) (is : List ℤ) (i : ℤ) (o : Option ℕ) → place_of a i ≡ o
    → option_map (λ p. take v (drop (p * v) (take (length a * v) is))) o ≡ option_map (λ p. take v (drop (p * v) is)) o
within-taken a v is i None e = refl
within-taken a v is i (Some p) e =
    let l = place-less a i p e in ap Some (taken-behind v (p * v) (length a * v) is (fits p (length a) v l))

only-first : (is : List ℤ) → only_of (take 1 is) ≡ slice_get is 0
only-first [] = refl
only-first (x ∷ xs) = refl

-- The item at an index list of those that axes have in all.
taken-item : (as' : List (List ℤ)) (is js : List ℤ) → item_in as' (take (volume as') is) js ≡ and_then (offset_from 0 as' js) (slice_get is)
taken-item [] is [] = only-first is
taken-item [] is (j ∷ js) = refl
taken-item (a ∷ as') is [] = refl
taken-item (a ∷ as') is (i ∷ js) =
    ap (λ o. and_then o (λ c. item_in as' c js)) (chunk-place a (volume as') (take (length a * volume as') is) i ∙ within-taken a (volume as') is i (place_of a i) refl)
    ∙ behind-place a as' is js (place_of a i) (λ ys. taken-item as' ys js)

-- The item at an index list, over one axis or more.
item-offset : (as' : List (List ℤ)) (is js : List ℤ) → 0 < length as' → item_in as' is js ≡ and_then (offset_from 0 as' js) (slice_get is)
item-offset [] is js l = absurd (omega arith)
item-offset (a ∷ as') is [] l = refl
item-offset (a ∷ as') is (i ∷ js) l =
    ap (λ o. and_then o (λ c. item_in as' c js)) (chunk-place a (volume as') is i) ∙ behind-place a as' is js (place_of a i) (λ ys. taken-item as' ys js)

-- ---- in memory

memory-some : (n : ℕ) → n < 2 ^ 64 → in_memory (Some n) ≡ Some n
memory-some n l = ap (λ b. if b then Some n else None) (lt-ltb n (2 ^ 64) l)

memory-none : (n : ℕ) → 2 ^ 64 ≤ n → in_memory (Some n) ≡ None
memory-none n l = ap (λ b. if b then Some n else None) (le-ltb n (2 ^ 64) l)

memory-get : (is : List ℤ) (o : Option ℕ) → length is < 2 ^ 64 → and_then (in_memory o) (slice_get is) ≡ and_then o (slice_get is)
memory-get is None l = refl
memory-get is (Some n) l = go (nat_lt n (2 ^ 64)) refl
  where
    go : (b : Bool) → nat_lt n (2 ^ 64) ≡ b → and_then (if b then Some n else None) (slice_get is) ≡ slice_get is n
    go true e = refl
    go false e = let m : 2 ^ 64 ≤ n = ltb-false n (2 ^ 64) e in sym (slice_get_past is n (omega arith))

-- The item of a grid with one axis or more.
pub grid_item : (g : Grid) (js : List Scalar) (o : Option ℕ) (n : ℕ) → length g.axes ≡ n → 0 < n → length g.items < 2 ^ 64
    → o ≡ in_memory (offset_from 0 (map axis_numbers g.axes) (map code (map pure_scalar js)))
    → and_then o (slice_get g.items) ≡ cell_at (pure_grid g) (map code (map pure_scalar js))
grid_item g js o n e z l h =
    let long = length-map g.axes axis_numbers in
    ap (λ p. and_then p (slice_get g.items)) h ∙ memory-get g.items (offset_from 0 (map axis_numbers g.axes) (map code (map pure_scalar js))) l
    ∙ sym (item-offset (map axis_numbers g.axes) g.items (map code (map pure_scalar js)) (omega (arith, long)))

-- The item of a grid without axes.
pub grid_alone : (g : Grid) (js : List Scalar) (o : Option ℤ) → length g.axes ≡ 0
    → o ≡ cell_at (record { axes = []; items = g.items }) (map code (map pure_scalar js)) → o ≡ cell_at (pure_grid g) (map code (map pure_scalar js))
grid_alone g js o e h = h ∙ go g.axes e
  where
    go : (as' : List Axis) → length as' ≡ 0 → item_in [] g.items (map code (map pure_scalar js)) ≡ item_in (map axis_numbers as') g.items (map code (map pure_scalar js))
    go [] e = refl
    go (a ∷ as') e = absurd (omega arith)

-- ---- the loop

offset-grows : (k : ℕ) (as' : List (List ℤ)) (js : List ℤ) (n : ℕ) → offset_from k as' js ≡ Some n → k ≤ n
offset-grows k [] [] n e = let m : k ≡ n = cc in omega arith
offset-grows k [] (j ∷ js) n e = cc
offset-grows k (a ∷ as') [] n e = cc
offset-grows k (a ∷ as') (i ∷ js) n e = go (place_of a i) refl e (λ m q. offset-grows m as' js n q)
  where
    go : (o : Option ℕ) → place_of a i ≡ o → and_then o (λ p. offset_from (k * length a + p) as' js) ≡ Some n
        → ((m : ℕ) → offset_from m as' js ≡ Some n → m ≤ n) → k ≤ n
    go None h e f = cc
    go (Some p) h e f =
        let l = at-least k (length a) p (place-less a i p h) in
        let m = f (k * length a + p) e in omega (arith, l, m)

-- The place with one more axis.
one-more : (k : ℕ) (a : List ℤ) (as' : List (List ℤ)) (i : ℤ) (js : List ℤ) (m : ℕ) → Some m ≡ in_memory (offset_from k (a ∷ []) (i ∷ []))
    → offset_from k (a ∷ as') (i ∷ js) ≡ offset_from m as' js
one-more k a as' i js m h = go (place_of a i) h
  where
    same : (n : ℕ) (b : Bool) → Some m ≡ (if b then Some n else None) → n ≡ m
    same n true h = cc
    same n false h = cc

    go : (o : Option ℕ) → Some m ≡ in_memory (and_then o (λ p. Some (k * length a + p)))
        → and_then o (λ p. offset_from (k * length a + p) as' js) ≡ offset_from m as' js
    go None h = cc
    go (Some p) h = ap (λ n. offset_from n as' js) (same (k * length a + p) (nat_lt (k * length a + p) (2 ^ 64)) h)

none-more : (k : ℕ) (a : List ℤ) (as' : List (List ℤ)) (i : ℤ) (js : List ℤ) → None ≡ in_memory (offset_from k (a ∷ []) (i ∷ []))
    → None ≡ in_memory (offset_from k (a ∷ as') (i ∷ js))
none-more k a as' i js h = go (place_of a i) h
  where
    far : (n : ℕ) (b : Bool) → nat_lt n (2 ^ 64) ≡ b → None ≡ (if b then Some n else None) → 2 ^ 64 ≤ n
    far n true e h = cc
    far n false e h = ltb-false n (2 ^ 64) e

    beyond : (n : ℕ) (o : Option ℕ) → 2 ^ 64 ≤ n → offset_from n as' js ≡ o → None ≡ in_memory o
    beyond n None l e = refl
    beyond n (Some z) l e = let m = offset-grows n as' js z e in sym (memory-none z (omega (arith, l, m)))

    go : (o : Option ℕ) → None ≡ in_memory (and_then o (λ p. Some (k * length a + p)))
        → None ≡ in_memory (and_then o (λ p. offset_from (k * length a + p) as' js))
    go None h = refl
    go (Some p) h = beyond (k * length a + p) (offset_from (k * length a + p) as' js) (far (k * length a + p) (nat_lt (k * length a + p) (2 ^ 64)) refl h) refl

-- The loop over the axes: one more, none, and the end.
pub offset_more : (as' : List Axis) (js : List Scalar) (i : ℕ) (a : Axis) (j d : Scalar) (k m : ℕ) (all : Option ℕ) → i < length as' → i < length js
    → a ≡ get_or as' i a → j ≡ get_or js i d → offset_from k (map axis_numbers (drop i as')) (map code (map pure_scalar (drop i js))) ≡ all
    → Some m ≡ in_memory (offset_from k (axis_numbers a ∷ []) (code (pure_scalar j) ∷ []))
    → offset_from m (map axis_numbers (drop (i + 1) as')) (map code (map pure_scalar (drop (i + 1) js))) ≡ all
offset_more as' js i a j d k m all l u g e h n =
    sym (one-more k (axis_numbers a) (map axis_numbers (drop (i + 1) as')) (code (pure_scalar j)) (map code (map pure_scalar (drop (i + 1) js))) m n)
    ∙ ap (λ z. offset_from k (axis_numbers z ∷ map axis_numbers (drop (i + 1) as')) (code (pure_scalar j) ∷ map code (map pure_scalar (drop (i + 1) js)))) g
    ∙ sym (at_drop_more (λ xs. offset_from k (map axis_numbers xs) (code (pure_scalar j) ∷ map code (map pure_scalar (drop (i + 1) js)))) as' i a l)
    ∙ ap (λ z. offset_from k (map axis_numbers (drop i as')) (code (pure_scalar z) ∷ map code (map pure_scalar (drop (i + 1) js)))) e
    ∙ sym (at_drop_more (λ ys. offset_from k (map axis_numbers (drop i as')) (map code (map pure_scalar ys))) js i d u) ∙ h

pub offset_none : (as' : List Axis) (js : List Scalar) (i : ℕ) (a : Axis) (j d : Scalar) (k : ℕ) (all : Option ℕ) → i < length as' → i < length js
    → a ≡ get_or as' i a → j ≡ get_or js i d → offset_from k (map axis_numbers (drop i as')) (map code (map pure_scalar (drop i js))) ≡ all
    → None ≡ in_memory (offset_from k (axis_numbers a ∷ []) (code (pure_scalar j) ∷ [])) → None ≡ in_memory all
offset_none as' js i a j d k all l u g e h n =
    none-more k (axis_numbers a) (map axis_numbers (drop (i + 1) as')) (code (pure_scalar j)) (map code (map pure_scalar (drop (i + 1) js))) n
    ∙ ap in_memory (ap (λ z. offset_from k (axis_numbers z ∷ map axis_numbers (drop (i + 1) as')) (code (pure_scalar j) ∷ map code (map pure_scalar (drop (i + 1) js)))) g
    ∙ sym (at_drop_more (λ xs. offset_from k (map axis_numbers xs) (code (pure_scalar j) ∷ map code (map pure_scalar (drop (i + 1) js)))) as' i a l)
    ∙ ap (λ z. offset_from k (map axis_numbers (drop i as')) (code (pure_scalar z) ∷ map code (map pure_scalar (drop (i + 1) js)))) e
    ∙ sym (at_drop_more (λ ys. offset_from k (map axis_numbers (drop i as')) (map code (map pure_scalar ys))) js i d u) ∙ h)

pub offset_end : (as' : List Axis) (js : List Scalar) (i k : ℕ) (all : Option ℕ) → length as' ≤ i → length as' ≡ length js → k < 2 ^ 64
    → offset_from k (map axis_numbers (drop i as')) (map code (map pure_scalar (drop i js))) ≡ all → Some k ≡ in_memory all
offset_end as' js i k all l e z h =
    sym (memory-some k z)
    ∙ ap in_memory (sym (ap (λ xs. offset_from k (map axis_numbers xs) (map code (map pure_scalar (drop i js)))) (drop_all i as' l)
    ∙ ap (λ ys. offset_from k [] (map code (map pure_scalar ys))) (drop_all i js (omega (arith, e, l)))) ∙ h)

offset-uneven : (k : ℕ) (as' : List Axis) (js : List Scalar) → (length as' ≡ length js → ⊥)
    → None ≡ offset_from k (map axis_numbers as') (map code (map pure_scalar js))
offset-uneven k [] [] h = absurd (h refl)
offset-uneven k [] (j ∷ js) h = refl
offset-uneven k (a ∷ as') [] h = refl
offset-uneven k (a ∷ as') (j ∷ js) h = go (place_of (axis_numbers a) (code (pure_scalar j))) (λ m. offset-uneven m as' js (λ e. h (ap suc e)))
  where
    go : (o : Option ℕ) → ((m : ℕ) → None ≡ offset_from m (map axis_numbers as') (map code (map pure_scalar js)))
        → None ≡ and_then o (λ p. offset_from (k * length (axis_numbers a) + p) (map axis_numbers as') (map code (map pure_scalar js)))
    go None f = refl
    go (Some p) f = f (k * length (axis_numbers a) + p)

-- Lists of different lengths have no place.
pub offset_uneven : (as' : List Axis) (js : List Scalar) → (length as' ≡ length js → ⊥)
    → None ≡ in_memory (offset_from 0 (map axis_numbers as') (map code (map pure_scalar js)))
offset_uneven as' js h = ap in_memory (offset-uneven 0 as' js h)

-- The item of a table without axes.
pub alone : (is : List ℤ) (js : List Scalar) (d : ℤ) → length js ≡ 0 → length is ≡ 1
    → Some (get_or is 0 d) ≡ item_in [] is (map code (map pure_scalar js))
alone is (j ∷ js) d e h = absurd (omega arith)
alone [] [] d e h = absurd (omega arith)
alone (x ∷ []) [] d e h = refl
alone (x ∷ y ∷ is) [] d e h = absurd (omega arith)

pub alone_not : (is : List ℤ) (js : List Scalar) → (length is ≡ 1 → ⊥) → None ≡ item_in [] is (map code (map pure_scalar js))
alone_not is (j ∷ js) h = refl
alone_not [] [] h = refl
alone_not (x ∷ []) [] h = absurd (h refl)
alone_not (x ∷ y ∷ is) [] h = refl

pub alone_indexed : (is : List ℤ) (js : List Scalar) → (length js ≡ 0 → ⊥) → None ≡ item_in [] is (map code (map pure_scalar js))
alone_indexed is (j ∷ js) h = refl
alone_indexed is [] h = absurd (h refl)

pub ruleset only_cell = (alone, alone_not, alone_indexed)

pub ruleset cells = (grid_item, grid_alone)

-- What is in memory is small.
pub memory_small : (o : Option ℕ) (m : ℕ) → Some m ≡ in_memory o → m < 2 ^ 64
memory_small None m h = cc
memory_small (Some n) m h = go (nat_lt n (2 ^ 64)) refl h
  where
    go : (b : Bool) → nat_lt n (2 ^ 64) ≡ b → Some m ≡ (if b then Some n else None) → m < 2 ^ 64
    go true e h = let k : m ≡ n = cc in let l = ltb-true n (2 ^ 64) e in omega (arith, k, l)
    go false e h = cc

pub ruleset offsets = (memory_small, offset_more, offset_none, offset_end, offset_uneven)
