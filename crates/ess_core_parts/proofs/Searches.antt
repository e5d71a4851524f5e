-- A search for a part through a row of trees, tree by tree.
use Rattle.std.proofs.Common.{◌≡◌, ℕ, ◌+◌, ◌-◌, ◌<◌, ◌≤◌, Bool, true, false, zero, suc, List, [], ◌∷◌, ◌++◌, length, take, drop, Option, Some, None, Result, Ok, Err, refl, sym, ap, ◌∙◌, subst, nat_lt, slice_get, get_or, append_assoc, IfOk, IfErr, Bor, arith}
use Rattle.std.proofs.Math.ListN.{set}
use Rattle.std.proofs.Math.Numerals.{add-one}
use Rattle.std.proofs.Math.Seq.{drop-cons, take-suc-set}
use Rattle.std.proofs.lemmas.Grind.{common_steps}
use Rattle.std.proofs.lemmas.List.{drop-set-lt, length-append, length-set}
use Rattle.std.proofs.lemmas.Bool.{lt-ltb, le-ltb}
use Rattle.std.proofs.lemmas.Option.{slice_get_within, get_or_from_slice_get}
use Rattle.std.specs.Prelude.{if◌then◌else◌}
use native.Mathlib.Numerals.{unary_clauses}
use Rattle.ess_core.specs.declared.expressions.Ex.{Ex}
use Rattle.ess_core_parts.specs.Numbered.{Parted, both, row, found, found_or}

-- ---- what a search in a list answers

hit : (o : Option Ex) (n : ℕ) (w was : Ex) → Ok was ≡ found_or o n w → o ≡ Some was
hit None n w was h = cc
hit (Some e) n w was h = cc

miss : (o : Option Ex) (n : ℕ) (w : Ex) (j : ℕ) (v : Ex) → Err (j, v) ≡ found_or o n w → (o ≡ None) × (◌≡◌ {A = ℕ × Ex} (j, v) (n, w))
miss None n w j v h = (refl, cc)
miss (Some e) n w j v h = cc

pub none-past : (ps : List Ex) (k : ℕ) → slice_get ps k ≡ None → length ps ≤ k
none-past [] k h = omega arith
none-past (p ∷ ps) zero h = cc
none-past (p ∷ ps) (suc k) h = let i = none-past ps k h in omega arith

pub found-within : (ps : List Ex) (k : ℕ) (w was : Ex) → Ok was ≡ found ps k w → (slice_get ps k ≡ Some was) × (k < length ps)
found-within ps k w was h = let e = hit (slice_get ps k) (k - length ps) w was h in (e, slice_get_within ps k was e)

pub found-past : (ps : List Ex) (k : ℕ) (w : Ex) (j : ℕ) (v : Ex) → Err (j, v) ≡ found ps k w → (k ≡ j + length ps) × (v ≡ w)
found-past ps k w j v h =
    let m = miss (slice_get ps k) (k - length ps) w j v h in
    let past = none-past ps k m.0 in
    let left : j ≡ k - length ps = ap (λ x. x.0) m.1 in
    (omega arith, ap (λ x. x.1) m.1)

-- ---- one list of parts behind another

pub get-first : (ps qs : List Ex) (k : ℕ) (e : Ex) → slice_get ps k ≡ Some e → slice_get (ps ++ qs) k ≡ Some e
get-first [] qs k e h = cc
get-first (p ∷ ps) qs zero e h = h
get-first (p ∷ ps) qs (suc k) e h = get-first ps qs k e h

pub get-behind : (ps qs : List Ex) (j : ℕ) → slice_get (ps ++ qs) (j + length ps) ≡ slice_get qs j
get-behind [] qs j = simp unary_clauses
get-behind (p ∷ ps) qs j = simp unary_clauses (get-behind ps qs j)

-- the same of a search whose answer is not known yet, in a list that is ps and qs behind it
pub seen-first : (all ps qs : List Ex) → all ≡ ps ++ qs → (k : ℕ) (e : Ex) → slice_get ps k ≡ Some e → slice_get all k ≡ Some e
seen-first all ps qs is k e h = ap (λ es. slice_get es k) is ∙ get-first ps qs k e h

pub seen-behind : (all ps qs : List Ex) → all ≡ ps ++ qs → (k j : ℕ) → k ≡ j + length ps → (r : Result (Bor Ex) ℕ) → IfOk r (λ e. slice_get qs j ≡ Some e.now) → IfOk r (λ e. slice_get all k ≡ Some e.now)
seen-behind all ps qs is k j past (Ok e) h = ap (λ es. slice_get es k) is ∙ ap (slice_get (ps ++ qs)) past ∙ get-behind ps qs j ∙ h
seen-behind all ps qs is k j past (Err n) h = h

pub past-behind : (all ps qs : List Ex) → all ≡ ps ++ qs → (k j : ℕ) → k ≡ j + length ps → (r : Result (Bor Ex) ℕ) → IfErr r (λ n. j ≡ n + length qs) → IfErr r (λ n. k ≡ n + length all)
past-behind all ps qs is k j past (Ok e) h = h
past-behind all ps qs is k j past (Err n) h = omega (arith, past, h, ap length is, length-append ps qs)

pub found-first : (ps qs : List Ex) (k : ℕ) (w was : Ex) → Ok was ≡ found ps k w → found (ps ++ qs) k w ≡ Ok was
found-first ps qs k w was h =
    ap (λ o. found_or o (k - length (ps ++ qs)) w) (get-first ps qs k was (found-within ps k w was h).0)

pub found-behind : (ps qs : List Ex) (k : ℕ) (w : Ex) (j : ℕ) (v : Ex) → Err (j, v) ≡ found ps k w → found (ps ++ qs) k w ≡ found qs j v
found-behind ps qs k w j v h =
    let p = found-past ps k w j v h in
    let left : k - length (ps ++ qs) ≡ j - length qs = omega (arith, p.0, length-append ps qs) in
    ap (λ o. found_or o (k - length (ps ++ qs)) w) (ap (slice_get (ps ++ qs)) p.0 ∙ get-behind ps qs j)
    ∙ ap (λ n. found_or (slice_get qs j) n w) left ∙ ap (found_or (slice_get qs j) (j - length qs)) (sym p.1)

pub if-true : {A : Type 0} (b : Bool) (x y : A) → b ≡ true → (if b then x else y) ≡ x
if-true true x y h = refl
if-true false x y h = cc

pub if-false : {A : Type 0} (b : Bool) (x y : A) → b ≡ false → (if b then x else y) ≡ y
if-false true x y h = cc
if-false false x y h = refl

-- ---- two trees beside each other

pub pair-same : {A B : Type 0} (a a' : A) (b b' : B) → a ≡ a' → b ≡ b' → ◌≡◌ {A = A × B} (a, b) (a', b')
pair-same a a' b b' p q = ap (λ x. (x, b)) p ∙ ap (λ y. (a', y)) q

pub put-first : {A B C : Type 0} (f : A → B → C) (p : Parted A) (b : B) (q : Parted B) (k : ℕ) (w was : Ex) → Ok was ≡ found p.parts k w
    → (x : A) → x ≡ p.put k w → (y : B) → y ≡ b → f x y ≡ (both f p b q).put k w
put-first f p b q k w was h x e y d =
    let n = length p.parts in
    ap (λ z. f z y) e ∙ ap (f (p.put k w)) (d ∙ sym (if-true (nat_lt k n) b (q.put (k - n) w) (lt-ltb k n (found-within p.parts k w was h).1)))

pub put-behind : {A B C : Type 0} (f : A → B → C) (p : Parted A) (b : B) (q : Parted B) (k : ℕ) (w : Ex) (j : ℕ) (v : Ex) → Err (j, v) ≡ found p.parts k w
    → (x : A) → x ≡ p.put k w → (y : B) → y ≡ q.put j v → f x y ≡ (both f p b q).put k w
put-behind f p b q k w j v h x e y d =
    let n = length p.parts in
    let past = found-past p.parts k w j v h in
    let left : j ≡ k - n = omega (arith, past.0) in
    ap (λ z. f z y) e
    ∙ ap (f (p.put k w)) (d ∙ ap (λ m. q.put m v) left ∙ ap (q.put (k - n)) past.1 ∙ sym (if-false (nat_lt k n) b (q.put (k - n) w) (le-ltb k n (omega (arith, past.0)))))

-- ---- the tree at an index of a row

module _ {A : Type 0} (split : A → Parted A) where
  pub drop-at : (xs : List A) (i : ℕ) (x : A) → i < length xs → x ≡ get_or xs i x → drop i xs ≡ x ∷ drop (i + 1) xs
  drop-at xs i x h e = rw add-one (drop-cons xs i x h ∙ ap (λ y. y ∷ drop (suc i) xs) (sym e))

  pub part-here : (xs : List A) (i : ℕ) (x : A) → i < length xs → x ≡ get_or xs i x → (k : ℕ) (p : Ex) → slice_get (split x).parts k ≡ Some p → slice_get (row split (drop i xs)).parts k ≡ Some p
  part-here xs i x h e k p f =
      ap (λ ys. slice_get (row split ys).parts k) (drop-at xs i x h e) ∙ get-first (split x).parts (row split (drop (i + 1) xs)).parts k p f

  pub part-next : (xs : List A) (i : ℕ) (x : A) → i < length xs → x ≡ get_or xs i x → (k j : ℕ) → k ≡ j + length (split x).parts → slice_get (row split (drop i xs)).parts k ≡ slice_get (row split (drop (i + 1) xs)).parts j
  part-next xs i x h e k j f =
      ap (λ ys. slice_get (row split ys).parts k) (drop-at xs i x h e)
      ∙ ap (slice_get ((split x).parts ++ (row split (drop (i + 1) xs)).parts)) f
      ∙ get-behind (split x).parts (row split (drop (i + 1) xs)).parts j

  pub length-next : (xs : List A) (i : ℕ) (x : A) → i < length xs → x ≡ get_or xs i x → length (row split (drop i xs)).parts ≡ length (split x).parts + length (row split (drop (i + 1) xs)).parts
  length-next xs i x h e =
      ap (λ ys. length (row split ys).parts) (drop-at xs i x h e) ∙ length-append (split x).parts (row split (drop (i + 1) xs)).parts

  pub found-here : (xs : List A) (i : ℕ) (x : A) → i < length xs → x ≡ get_or xs i x → (k : ℕ) (w was : Ex) → Ok was ≡ found (split x).parts k w → found (row split (drop i xs)).parts k w ≡ Ok was
  found-here xs i x h e k w was f =
      ap (λ ys. found (row split ys).parts k w) (drop-at xs i x h e) ∙ found-first (split x).parts (row split (drop (i + 1) xs)).parts k w was f

  pub found-next : (xs : List A) (i : ℕ) (x : A) → i < length xs → x ≡ get_or xs i x → (k : ℕ) (w : Ex) (j : ℕ) (v : Ex) → Err (j, v) ≡ found (split x).parts k w → found (row split (drop i xs)).parts k w ≡ found (row split (drop (i + 1) xs)).parts j v
  found-next xs i x h e k w j v f =
      ap (λ ys. found (row split ys).parts k w) (drop-at xs i x h e) ∙ found-behind (split x).parts (row split (drop (i + 1) xs)).parts k w j v f

  set-at : (xs : List A) (i : ℕ) (y : A) → i < length xs → take i xs ++ y ∷ drop (suc i) xs ≡ set xs i y
  set-at [] i y h = absurd (omega arith)
  set-at (x ∷ xs) zero y h = refl
  set-at (x ∷ xs) (suc i) y h = ap (λ ys. x ∷ ys) (set-at xs i y (omega arith))

  pub put-here : (xs : List A) (i : ℕ) (x : A) → i < length xs → x ≡ get_or xs i x → (k : ℕ) (w was : Ex) → Ok was ≡ found (split x).parts k w → take i xs ++ (row split (drop i xs)).put k w ≡ set xs i ((split x).put k w)
  put-here xs i x h e k w was f =
      let y = (split x).put k w in
      let rest = drop (i + 1) xs in
      let n = length (split x).parts in
      let within = lt-ltb k n (found-within (split x).parts k w was f).1 in
      ap (λ ys. take i xs ++ (row split ys).put k w) (drop-at xs i x h e)
      ∙ ap (λ r. take i xs ++ (y ∷ r)) (if-true (nat_lt k n) rest ((row split rest).put (k - n) w) within)
      ∙ ap (λ m. take i xs ++ (y ∷ drop m xs)) (add-one i) ∙ set-at xs i y h

  pub put-next : (xs : List A) (i : ℕ) (x : A) → i < length xs → x ≡ get_or xs i x → (k : ℕ) (w : Ex) (j : ℕ) (v : Ex) → Err (j, v) ≡ found (split x).parts k w → take i xs ++ (row split (drop i xs)).put k w ≡ take (i + 1) (set xs i ((split x).put k w)) ++ (row split (drop (i + 1) xs)).put j v
  put-next xs i x h e k w j v f =
      let y = (split x).put k w in
      let rest = drop (i + 1) xs in
      let n = length (split x).parts in
      let past = found-past (split x).parts k w j v f in
      let left : k - n ≡ j = omega (arith, past.0) in
      let beyond = le-ltb k n (omega (arith, past.0)) in
      ap (λ ys. take i xs ++ (row split ys).put k w) (drop-at xs i x h e)
      ∙ ap (λ r. take i xs ++ (y ∷ r)) (if-false (nat_lt k n) rest ((row split rest).put (k - n) w) beyond)
      ∙ ap (λ m. take i xs ++ (y ∷ (row split rest).put m w)) left
      ∙ ap (λ u. take i xs ++ (y ∷ (row split rest).put j u)) (sym past.1)
      ∙ sym (append_assoc (take i xs) (y ∷ []) ((row split rest).put j v))
      ∙ ap (λ ys. ys ++ (row split rest).put j v) (sym (take-suc-set xs i y h) ∙ ap (λ m. take m (set xs i y)) (sym (add-one i)))

  -- ---- the same, at the tree that a row lends at an index

  sits : (xs : List A) (i : ℕ) (x : A) → slice_get xs i ≡ Some x → (i < length xs) × (x ≡ get_or xs i x)
  sits xs i x h = (slice_get_within xs i x h, sym (get_or_from_slice_get xs i x x h))

  pub lent-found : (xs : List A) (i : ℕ) (x : A) → slice_get xs i ≡ Some x → (k : ℕ) (w was : Ex) → Ok was ≡ found (split x).parts k w → found (row split (drop i xs)).parts k w ≡ Ok was
  lent-found xs i x h k w was f = let s = sits xs i x h in found-here xs i x s.0 s.1 k w was f

  pub lent-put : (xs : List A) (i : ℕ) (x y : A) → slice_get xs i ≡ Some x → (k : ℕ) (w was : Ex) → Ok was ≡ found (split x).parts k w → y ≡ (split x).put k w → take i xs ++ (row split (drop i xs)).put k w ≡ set xs i y
  lent-put xs i x y h k w was f e = let s = sits xs i x h in put-here xs i x s.0 s.1 k w was f ∙ ap (set xs i) (sym e)

  pub lent-found-next : (xs : List A) (i : ℕ) (x y : A) → slice_get xs i ≡ Some x → (k : ℕ) (w : Ex) (j : ℕ) (v : Ex) → Err (j, v) ≡ found (split x).parts k w → found (row split (drop i xs)).parts k w ≡ found (row split (drop (i + 1) (set xs i y))).parts j v
  lent-found-next xs i x y h k w j v f =
      let s = sits xs i x h in
      found-next xs i x s.0 s.1 k w j v f ∙ ap (λ ys. found (row split ys).parts j v) (sym (drop-set-lt (i + 1) xs i y (omega arith)))

  pub lent-put-next : (xs : List A) (i : ℕ) (x y : A) → slice_get xs i ≡ Some x → (k : ℕ) (w : Ex) (j : ℕ) (v : Ex) → Err (j, v) ≡ found (split x).parts k w → y ≡ (split x).put k w → take i xs ++ (row split (drop i xs)).put k w ≡ take (i + 1) (set xs i y) ++ (row split (drop (i + 1) (set xs i y))).put j v
  lent-put-next xs i x y h k w j v f e =
      let s = sits xs i x h in
      put-next xs i x s.0 s.1 k w j v f
      ∙ ap (λ z. take (i + 1) (set xs i z) ++ (row split (drop (i + 1) xs)).put j v) (sym e)
      ∙ ap (λ ys. take (i + 1) (set xs i y) ++ (row split ys).put j v) (sym (drop-set-lt (i + 1) xs i y (omega arith)))

  -- a turn of the loop that goes on behind the tree at an index
  pub turn : (xs : List A) (i : ℕ) (x y : A) → slice_get xs i ≡ Some x → (k : ℕ) (w : Ex) (j : ℕ) (v : Ex) → Err (j, v) ≡ found (split x).parts k w → y ≡ (split x).put k w
      → (ys : List A) (l : ℕ) (u : Ex) → ys ≡ set xs i y → l ≡ j → u ≡ v
      → (found (row split (drop i xs)).parts k w ≡ found (row split (drop (i + 1) ys)).parts l u)
      × (take i xs ++ (row split (drop i xs)).put k w ≡ take (i + 1) ys ++ (row split (drop (i + 1) ys)).put l u)
      × (length ys ≡ length xs)
  turn xs i x y h k w j v f e ys l u p q r =
      rw (p, q, r) (lent-found-next xs i x y h k w j v f, lent-put-next xs i x y h k w j v f e, length-set xs i y)

  pub none-lent : (xs : List A) (i : ℕ) → slice_get xs i ≡ None → i < length xs → ⊥
  none-lent [] i h l = omega arith
  none-lent (x ∷ xs) zero h l = cc
  none-lent (x ∷ xs) (suc i) h l = none-lent xs i h (omega arith)
