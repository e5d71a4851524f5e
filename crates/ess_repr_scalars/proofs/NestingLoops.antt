-- Nested matrices, made one after the other.
use Rattle.std.proofs.Common.{◌≡◌, refl, sym, ap, ◌∙◌, ℕ, zero, suc, ◌+◌, ◌-◌, ◌*◌, ◌<◌, ◌≤◌, List, [], ◌∷◌, ◌++◌, map, length, take, drop, get_or, Option, Some, None, option_map, arith}
use Rattle.std.proofs.Math.Nat.{mul_assoc, mul-one, one-mul}
use Rattle.std.proofs.lemmas.List.{append_assoc, append-nil, at_drop_more, at_drop_all, map_push}
use Rattle.ess_semantics.specs.Lists.{and_then, each_of, only_of}
use Rattle.ess_semantics.specs.Values.{Value, matrix, of_list}
use Rattle.ess_semantics.specs.ScalarLayers.{in_lists_of}
use Rattle.ess_core.specs.declared.values.Val.{Val}
use Rattle.ess_core.specs.declared.values.Val.TheVariants as val
use Rattle.ess_core.specs.ValueViews.{pure_val}
use Rattle.ess_core.proofs.ValueEquations.{pure_matrix}
use Rattle.ess_repr_scalars.specs.NestedMatrices.{places_in, nested_in}

-- The members of index domains.
abbrev pub pure_index : List (List Val) → List (List Value)
pure_index mss = map (map pure_val) mss

-- ---- one element

pub element_there : (mss : List (List Val)) (vs : List Val) (v e : Val) → length mss ≡ 0 → length vs ≡ 1 → v ≡ get_or vs 0 e →
    Some (pure_val v) ≡ nested_in (pure_index mss) (map pure_val vs)
element_there [] [] v e h k is = cc
element_there [] (w ∷ []) v e h k is = ap (λ u. Some (pure_val u)) is
element_there [] (w ∷ u ∷ vs) v e h k is = cc
element_there (ms ∷ mss) vs v e h k is = cc

pub element_not : (mss : List (List Val)) (vs : List Val) → length mss ≡ 0 → (length vs ≡ 1 → ⊥) → None ≡ nested_in (pure_index mss) (map pure_val vs)
element_not [] [] h k = refl
element_not [] (w ∷ []) h k = absurd (k refl)
element_not [] (w ∷ u ∷ vs) h k = refl
element_not (ms ∷ mss) vs h k = cc

-- ---- a matrix of matrices

first-rest : (mss : List (List Val)) (ms e : List Val) → (length mss ≡ 0 → ⊥) → ms ≡ get_or mss 0 e → mss ≡ ms ∷ drop 1 mss
first-rest [] ms e h is = absurd (h refl)
first-rest (ns ∷ mss) ms e h is = ap (λ l. l ∷ mss) (sym is)

one-first : (mss : List (List Val)) (ms ns e f : List Val) → (length mss ≡ 0 → ⊥) → ms ≡ get_or mss 0 e → ns ≡ get_or mss 0 f → ns ≡ ms
one-first [] ms ns e f h is js = absurd (h refl)
one-first (ps ∷ mss) ms ns e f h is js = js ∙ sym is

pub matrix_made : (mss : List (List Val)) (ms ns ps e f : List Val) (n : ℕ) (vs items : List Val) → (length mss ≡ 0 → ⊥) → ms ≡ get_or mss 0 e → n ≡ length ms →
    ps ≡ get_or mss 0 f → ns ≡ ps →
    Some (map pure_val items) ≡ each_of (in_lists_of n (places_in (pure_index (drop 1 mss))) (map pure_val vs)) (nested_in (pure_index (drop 1 mss))) →
    Some (pure_val (val.Matrix ns items)) ≡ nested_in (pure_index mss) (map pure_val vs)
matrix_made mss ms ns ps e f n vs items h is long js copied p =
    let same : ns ≡ ms = copied ∙ one-first mss ms ps e f h is js in
    ap Some (pure_matrix ns items ∙ ap (λ l. matrix (of_list (map pure_val l)) (of_list (map pure_val items))) same)
    ∙ ap (option_map (λ ys. matrix (of_list (map pure_val ms)) (of_list ys)))
    (p ∙ ap (λ k. each_of (in_lists_of k (places_in (pure_index (drop 1 mss))) (map pure_val vs)) (nested_in (pure_index (drop 1 mss)))) (long ∙ sym (map-long ms)))
    ∙ ap (λ l. nested_in (pure_index l) (map pure_val vs)) (sym (first-rest mss ms e h is))
  where
    map-long : (xs : List Val) → length (map pure_val xs) ≡ length xs
    map-long [] = refl
    map-long (x ∷ xs) = ap suc (map-long xs)

pub matrix_none : (mss : List (List Val)) (ms e : List Val) (n : ℕ) (vs : List Val) → (length mss ≡ 0 → ⊥) → ms ≡ get_or mss 0 e → n ≡ length ms →
    None ≡ each_of (in_lists_of n (places_in (pure_index (drop 1 mss))) (map pure_val vs)) (nested_in (pure_index (drop 1 mss))) →
    None ≡ nested_in (pure_index mss) (map pure_val vs)
matrix_none mss ms e n vs h is long p =
    ap (option_map (λ ys. matrix (of_list (map pure_val ms)) (of_list ys)))
    (p ∙ ap (λ k. each_of (in_lists_of k (places_in (pure_index (drop 1 mss))) (map pure_val vs)) (nested_in (pure_index (drop 1 mss)))) (long ∙ sym (map-long ms)))
    ∙ ap (λ l. nested_in (pure_index l) (map pure_val vs)) (sym (first-rest mss ms e h is))
  where
    map-long : (xs : List Val) → length (map pure_val xs) ≡ length xs
    map-long [] = refl
    map-long (x ∷ xs) = ap suc (map-long xs)

-- ---- several matrices in turn

-- Items that are found, in front of those that are still to be found.
abbrev pub ahead : List Value → Option (List Value) → Option (List Value)
ahead xs None = None
ahead xs (Some ys) = Some (xs ++ ys)

ahead-one : (xs : List Value) (x : Value) (o : Option (List Value)) → ahead xs (option_map (λ ys. x ∷ ys) o) ≡ ahead (xs ++ x ∷ []) o
ahead-one xs x None = refl
ahead-one xs x (Some ys) = ap Some (sym (append_assoc xs (x ∷ []) ys))

ahead-nothing : (o : Option (List Value)) → o ≡ ahead [] o
ahead-nothing None = refl
ahead-nothing (Some ys) = refl

-- The matrices of the elements, n of them.
abbrev pub in_turn : List (List Val) → ℕ → List Val → Option (List Value)
in_turn mss n vs = each_of (in_lists_of n (places_in (pure_index mss)) (map pure_val vs)) (nested_in (pure_index mss))

map-take : (n : ℕ) (xs : List Val) → map pure_val (take n xs) ≡ take n (map pure_val xs)
map-take zero xs = refl
map-take (suc n) [] = refl
map-take (suc n) (x ∷ xs) = ap (λ l. pure_val x ∷ l) (map-take n xs)

map-drop : (n : ℕ) (xs : List Val) → map pure_val (drop n xs) ≡ drop n (map pure_val xs)
map-drop zero xs = refl
map-drop (suc n) [] = refl
map-drop (suc n) (x ∷ xs) = map-drop n xs

pub each_none : (mss : List (List Val)) (n : ℕ) (vs : List Val) → in_turn mss n vs ≡ ahead [] (in_turn mss (n - 0) vs)
each_none mss n vs = let q : n - 0 ≡ n = omega arith in ahead-nothing (in_turn mss n vs) ∙ ap (λ k. ahead [] (in_turn mss k vs)) (sym q)

one-more : (mss : List (List Val)) (n i s : ℕ) (rest first : List Val) (items : List Val) → i < n → s ≡ places_in (pure_index mss) → first ≡ take s rest →
    ahead (map pure_val items) (in_turn mss (n - i) rest) ≡
    ahead (map pure_val items) (and_then (nested_in (pure_index mss) (map pure_val first)) (λ y. option_map (λ ys. y ∷ ys) (in_turn mss (n - (i + 1)) (drop s rest))))
one-more mss n i s rest first items h e f =
    let q : n - i ≡ suc (n - (i + 1)) = omega (arith, h) in
    ap (λ k. ahead (map pure_val items) (in_turn mss k rest)) q
    ∙ ap (λ l. ahead (map pure_val items) (and_then (nested_in (pure_index mss) l) (λ y. option_map (λ ys. y ∷ ys) (each_of (in_lists_of (n - (i + 1)) (places_in (pure_index mss)) (drop (places_in (pure_index mss)) (map pure_val rest))) (nested_in (pure_index mss))))))
    (ap (λ k. take k (map pure_val rest)) (sym e) ∙ sym (map-take s rest) ∙ ap (map pure_val) (sym f))
    ∙ ap (λ l. ahead (map pure_val items) (and_then (nested_in (pure_index mss) (map pure_val first)) (λ y. option_map (λ ys. y ∷ ys) (each_of (in_lists_of (n - (i + 1)) (places_in (pure_index mss)) l) (nested_in (pure_index mss))))))
    (ap (λ k. drop k (map pure_val rest)) (sym e) ∙ sym (map-drop s rest))

pub each_more : (mss : List (List Val)) (n i s : ℕ) (vs rest first rest' : List Val) (items items' : List Val) (v : Val) → i < n → s ≡ places_in (pure_index mss) → first ≡ take s rest →
    Some (pure_val v) ≡ nested_in (pure_index mss) (map pure_val first) → items' ≡ items ++ v ∷ [] → rest' ≡ drop s rest →
    in_turn mss n vs ≡ ahead (map pure_val items) (in_turn mss (n - i) rest) → in_turn mss n vs ≡ ahead (map pure_val items') (in_turn mss (n - (i + 1)) rest')
each_more mss n i s vs rest first rest' items items' v h e f found g q p =
    p ∙ one-more mss n i s rest first items h e f
    ∙ ap (λ o. ahead (map pure_val items) (and_then o (λ y. option_map (λ ys. y ∷ ys) (in_turn mss (n - (i + 1)) (drop s rest))))) (sym found)
    ∙ ahead-one (map pure_val items) (pure_val v) (in_turn mss (n - (i + 1)) (drop s rest))
    ∙ ap (λ l. ahead l (in_turn mss (n - (i + 1)) (drop s rest))) (sym (ap (map pure_val) g ∙ map_push pure_val items v))
    ∙ ap (λ l. ahead (map pure_val items') (in_turn mss (n - (i + 1)) l)) (sym q)

pub each_stop : (mss : List (List Val)) (n i s : ℕ) (vs rest first : List Val) (items : List Val) → i < n → s ≡ places_in (pure_index mss) → first ≡ take s rest →
    None ≡ nested_in (pure_index mss) (map pure_val first) → in_turn mss n vs ≡ ahead (map pure_val items) (in_turn mss (n - i) rest) → None ≡ in_turn mss n vs
each_stop mss n i s vs rest first items h e f found p =
    ap (λ o. ahead (map pure_val items) (and_then o (λ y. option_map (λ ys. y ∷ ys) (in_turn mss (n - (i + 1)) (drop s rest))))) found
    ∙ sym (p ∙ one-more mss n i s rest first items h e f)

pub each_all : (mss : List (List Val)) (n : ℕ) (vs rest items : List Val) → in_turn mss n vs ≡ ahead (map pure_val items) (in_turn mss (n - n) rest) → Some (map pure_val items) ≡ in_turn mss n vs
each_all mss n vs rest items p =
    let q : n - n ≡ 0 = omega arith in
    sym (p ∙ ap (λ k. ahead (map pure_val items) (in_turn mss k rest)) q ∙ ap Some (append-nil (map pure_val items)))

-- ---- places

pub places_none : (mss : List (List Val)) → 1 * places_in (pure_index mss) ≡ places_in (pure_index mss)
places_none mss = one-mul (places_in (pure_index mss))

long : (xs : List Val) → length (map pure_val xs) ≡ length xs
long [] = refl
long (x ∷ xs) = ap suc (long xs)

pub places_more : (mss : List (List Val)) (i : ℕ) (ms : List Val) (t t' : ℕ) → i < length mss → ms ≡ get_or mss i ms → t' ≡ t * length ms →
    t * places_in (pure_index (drop i mss)) ≡ places_in (pure_index mss) → t' * places_in (pure_index (drop (i + 1) mss)) ≡ places_in (pure_index mss)
places_more mss i ms t t' h is g p =
    ap (λ k. k * places_in (pure_index (drop (i + 1) mss))) g ∙ mul_assoc t (length ms) (places_in (pure_index (drop (i + 1) mss)))
    ∙ ap (λ k. t * k) (ap (λ k. k * places_in (pure_index (drop (i + 1) mss))) (sym (long ms)) ∙ ap (λ l. length (map pure_val l) * places_in (pure_index (drop (i + 1) mss))) is
    ∙ sym (at_drop_more (λ l. places_in (pure_index l)) mss i ms h)) ∙ p

pub places_all : (mss : List (List Val)) (i t : ℕ) → length mss ≤ i → t * places_in (pure_index (drop i mss)) ≡ places_in (pure_index mss) → t ≡ places_in (pure_index mss)
places_all mss i t h p = sym (mul-one t) ∙ ap (λ k. t * k) (sym (at_drop_all (λ l. places_in (pure_index l)) mss i h)) ∙ p
