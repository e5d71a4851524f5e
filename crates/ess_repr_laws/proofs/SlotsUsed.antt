-- Which slots canonical cells use: the first n of them, for each way to say so.
use Rattle.std.proofs.Common.{◌≡◌, refl, sym, ap, ◌∙◌, ℕ, zero, suc, ◌+◌, ◌≤◌, ◌<◌, Bool, true, false, ◌&&◌, ◌||◌, not, if◌then◌else◌, List, [], ◌∷◌, map, take, length, ℤ, pos, negsuc, Option, Some, None, option_map, nat_le, int_le, arith, le_refl, eq-or-lt_of_le, ◌⊎◌, inl, inr}
use Rattle.std.proofs.lemmas.Bool.{leb-true, le-leb, lt-leb}
use Rattle.std.specs.List.{list_all}
use Rattle.ess_semantics.specs.Lists.{and_then, each_of, is_some_and}
use Rattle.ess_semantics.specs.Order.{same_int}
use Rattle.ess_semantics.specs.Numbers.{run_from, one_to}
use Rattle.ess_semantics.specs.Domains.{lists_of, booleans}
use Rattle.ess_semantics.specs.Tables.{is_cell, truth_of}
use Rattle.ess_semantics.specs.Cells.{Grid, Cells, every_cell}
use Rattle.ess_semantics.specs.Layers.{Use, all_slots, up_to_marker, where_flagged, up_to, own_cell, within_slots, chosen}
use Rattle.ess_semantics.specs.Representations.{places_by, is_used}
use Rattle.ess_semantics.specs.CanonicalTest.{next_slot}
use Rattle.ess_semantics.proofs.Tests.{if-so, some-and, all-run}
use Rattle.ess_semantics.proofs.Orders.{same_int-equal}
use Rattle.ess_repr_laws.proofs.RowsOfCells.{EachOf}

-- ---- the places of slots

-- a slot as a place
abbrev pub as_place : ℤ → List ℤ
as_place k = k ∷ []

-- The places of slots are their numbers.
pub slots-are : (ks : List ℤ) → lists_of (ks ∷ []) ≡ map as_place ks
slots-are [] = refl
slots-are (k ∷ ks) = ap (λ l. (k ∷ []) ∷ l) (slots-are ks)

-- A test of each image.
pub all-map : {A B : Type 0} (f : B → Bool) (g : A → B) (xs : List A) → list_all f (map g xs) ≡ list_all (λ x. f (g x)) xs
all-map f g [] = refl
all-map f g (x ∷ xs) = ap (λ b. f (g x) && b) (all-map f g xs)

-- The answers on images.
pub each_of-map : {A B C : Type 0} (f : B → Option C) (g : A → B) (xs : List A) → each_of (map g xs) f ≡ each_of xs (λ x. f (g x))
each_of-map f g [] = refl
each_of-map f g (x ∷ xs) = ap (λ o. and_then (f (g x)) (λ y. option_map (λ ys. y ∷ ys) o)) (each_of-map f g xs)

-- what a test of all slots says of each
pub each-slot : (f : List ℤ → Bool) (S k : ℕ) → list_all f (lists_of (one_to S ∷ [])) ≡ true → 1 ≤ k → k ≤ S → f (pos k ∷ []) ≡ true
each-slot f S k e p q = all-run (λ j. f (as_place j)) 1 S k (sym (all-map f as_place (one_to S)) ∙ ap (list_all f) (sym (slots-are (one_to S))) ∙ e) p (omega arith)

-- What holds of each number of a run.
pub each-run : (P : ℤ → Type 0) (a n : ℕ) → ((k : ℕ) → a ≤ k → k < a + n → P (pos k)) → EachOf (run_from a n) P
each-run P a zero f = tt
each-run P a (suc n) f = (f a (le_refl a) (omega arith), each-run P (suc a) n (λ k x y. f k (omega arith) (omega arith)))

run-length : (a n : ℕ) → length (map as_place (run_from a n)) ≡ n
run-length a zero = refl
run-length a (suc n) = ap suc (run-length (suc a) n)

run-take : (a n m : ℕ) → n ≤ m → take n (map as_place (run_from a m)) ≡ map as_place (run_from a n)
run-take a zero m h = refl
run-take a (suc n) zero h = absurd (omega arith)
run-take a (suc n) (suc m) h = ap (λ l. (pos a ∷ []) ∷ l) (run-take (suc a) n m (omega arith))

-- ---- the first n slots are in use

-- Of S slots the first n are in use.
pub record SlotsUsed (use_of_slots : Use) (own : Cells) (S n : ℕ) : Type 0 where
  pub room : n ≤ S
  pub used : (k : ℕ) → 1 ≤ k → k ≤ S → is_used use_of_slots own (pos k ∷ []) ≡ nat_le k n
  pub found : places_by use_of_slots own (lists_of (one_to S ∷ [])) ≡ Some (lists_of (one_to n ∷ []))

-- All slots.
pub all_slots-used : (own : Cells) (S : ℕ) → SlotsUsed (all_slots S) own S S
all_slots-used own S = record { room = le_refl S; used = λ k p q. refl; found = refl }

-- ---- up to a marker

-- A marker is a number of slots.
pub marker-cell : (o : Option ℤ) (S : ℕ) → is_some_and o (is_cell (up_to S)) ≡ true → (n : ℕ) × (o ≡ Some (pos n)) × (n ≤ S)
marker-cell o S e = let r = some-and o (is_cell (up_to S)) e in go r.0 r.1 r.2
  where
    go : (m : ℤ) → o ≡ Some m → is_cell (up_to S) m ≡ true → (n : ℕ) × (o ≡ Some (pos n)) × (n ≤ S)
    go (pos n) q e = (n, q, leb-true n S (within (nat_le 0 n) (nat_le n S) e))
      where
        within : (a b : Bool) → (a && b) || false ≡ true → b ≡ true
        within true true e = refl
        within true false e = cc
        within false b e = cc
    go (negsuc n) q e = cc

-- The slots up to a marker.
pub marker-used : (own : Cells) (S n : ℕ) → own_cell own [] ≡ Some (pos n) → n ≤ S → SlotsUsed up_to_marker own S n
marker-used own S n there room = record {
  room = room;
  used = λ k p q. ap (λ o. is_some_and o (int_le (pos k))) there;
  found =
      ap (λ o. and_then o (λ m. option_map (λ n. take n (lists_of (one_to S ∷ []))) (within_slots m (length (lists_of (one_to S ∷ [])))))) there
      ∙ ap (λ l. option_map (λ n. take n (lists_of (one_to S ∷ []))) (if nat_le n l then Some n else None)) (ap length (slots-are (one_to S)) ∙ run-length 1 S)
      ∙ ap (λ b. option_map (λ n. take n (lists_of (one_to S ∷ []))) (if b then Some n else None)) (le-leb n S room)
      ∙ ap Some (ap (take n) (slots-are (one_to S)) ∙ run-take 1 n S room ∙ sym (slots-are (one_to n)));
}

-- ---- where a test says so, and slots in use stand first

-- a test that holds of a number where it holds of the next one holds of the first n
pub first-ones : (u : ℕ → Bool) (S : ℕ) → ((k : ℕ) → 1 ≤ k → k + 1 ≤ S → u (k + 1) ≡ true → u k ≡ true) →
    (n : ℕ) × (n ≤ S) × ((k : ℕ) → 1 ≤ k → k ≤ S → u k ≡ nat_le k n)
first-ones u zero h = (0, le_refl 0, λ k p q. absurd (omega arith))
first-ones u (suc S) h = let r = first-ones u S (λ k p q e. h k p (omega arith) e) in go (u (suc S)) refl r.0 r.1 r.2
  where
    go : (b : Bool) → u (suc S) ≡ b → (n : ℕ) → n ≤ S → ((k : ℕ) → 1 ≤ k → k ≤ S → u k ≡ nat_le k n) → (n : ℕ) × (n ≤ suc S) × ((k : ℕ) → 1 ≤ k → k ≤ suc S → u k ≡ nat_le k n)
    go false e n q f = (n, omega arith, λ k p r. at k p (eq-or-lt_of_le r))
      where
        at : (k : ℕ) → 1 ≤ k → (k ≡ suc S) ⊎ (k < suc S) → u k ≡ nat_le k n
        at k p (inl s) = ap u s ∙ e ∙ sym (lt-leb (suc S) n (omega arith)) ∙ ap (λ j. nat_le j n) (sym s)
        at k p (inr s) = f k p (omega arith)
    go true e n q f = (suc S, le_refl (suc S), λ k p r. at k p (eq-or-lt_of_le r))
      where
        -- the last one of the first S is in use
        whole : (S' : ℕ) → S ≡ suc S' → n ≡ S
        whole S' s =
            let one : 1 ≤ S = omega arith in
            let last : u S ≡ true = h S one (omega arith) (ap u (let x : S + 1 ≡ suc S = omega arith in x) ∙ e) in
            let le : S ≤ n = leb-true S n (sym (f S one (le_refl S)) ∙ last) in omega arith

        all : (S' : ℕ) → S ≡ S' → (k : ℕ) → 1 ≤ k → k ≤ S → u k ≡ true
        all zero s k p r = absurd (omega arith)
        all (suc S') s k p r = f k p r ∙ le-leb k n (let x = whole S' s in omega arith)

        at : (k : ℕ) → 1 ≤ k → (k ≡ suc S) ⊎ (k < suc S) → u k ≡ nat_le k (suc S)
        at k p (inl s) = ap u s ∙ e ∙ sym (le-leb k (suc S) (omega arith))
        at k p (inr s) = all S refl k p (omega arith) ∙ sym (le-leb k (suc S) (omega arith))

-- ---- where a flag is true

-- a cell of bool is 0 or 1
pub bit-cell : (o : Option ℤ) → is_some_and o (is_cell booleans) ≡ true → (o ≡ Some (pos 0)) ⊎ (o ≡ Some (pos 1))
bit-cell o e = let r = some-and o (is_cell booleans) e in go r.0 r.1 (same_int r.0 (pos 0)) refl r.2
  where
    go : (m : ℤ) → o ≡ Some m → (b : Bool) → same_int m (pos 0) ≡ b → b || same_int m (pos 1) ≡ true → (o ≡ Some (pos 0)) ⊎ (o ≡ Some (pos 1))
    go m q true s e = inl (q ∙ ap Some (same_int-equal m (pos 0) s))
    go m q false s e = inr (q ∙ ap Some (same_int-equal m (pos 1) e))

-- the items of a run whose cell is true are the first t
pub chosen-run : (f : List ℤ → Option ℤ) (a s t : ℕ) → t ≤ s → ((k : ℕ) → a ≤ k → k < a + t → f (pos k ∷ []) ≡ Some (pos 1)) →
    ((k : ℕ) → a + t ≤ k → k < a + s → f (pos k ∷ []) ≡ Some (pos 0)) → chosen (map as_place (run_from a s)) f ≡ Some (map as_place (run_from a t))
chosen-run f a zero zero h p q = refl
chosen-run f a zero (suc t) h p q = absurd (omega arith)
chosen-run f a (suc s) zero h p q =
    ap (λ o. and_then (and_then o truth_of) (λ b. option_map (λ ys. if b then (pos a ∷ []) ∷ ys else ys) (chosen (map as_place (run_from (suc a) s)) f))) (q a (omega arith) (omega arith))
    ∙ ap (option_map (λ ys. ys)) (chosen-run f (suc a) s zero (omega arith) (λ k x y. absurd (omega arith)) (λ k x y. q k (omega arith) (omega arith)))
chosen-run f a (suc s) (suc t) h p q =
    ap (λ o. and_then (and_then o truth_of) (λ b. option_map (λ ys. if b then (pos a ∷ []) ∷ ys else ys) (chosen (map as_place (run_from (suc a) s)) f))) (p a (le_refl a) (omega arith))
    ∙ ap (option_map (λ ys. (pos a ∷ []) ∷ ys)) (chosen-run f (suc a) s t (omega arith) (λ k x y. p k (omega arith) (omega arith)) (λ k x y. q k (omega arith) (omega arith)))

-- flags that are true up to n
pub record FlagsUsed (f : Grid) (S : ℕ) : Type 0 where
  pub n : ℕ
  pub room : n ≤ S
  pub on : (k : ℕ) → 1 ≤ k → k ≤ n → f (pos k ∷ []) ≡ Some (pos 1)
  pub off : (k : ℕ) → n < k → k ≤ S → f (pos k ∷ []) ≡ Some (pos 0)
  pub slots : SlotsUsed where_flagged (f ∷ []) S n

abbrev is_flagged : Grid → ℕ → Bool
is_flagged f k = is_used where_flagged (f ∷ []) (pos k ∷ [])

-- The slots whose flag is true are those in use.
pub flags-used : (f : Grid) (S : ℕ) → every_cell (one_to S ∷ []) (is_cell booleans) f ≡ true →
    list_all (λ js. not (is_used where_flagged (f ∷ []) (next_slot js)) || is_used where_flagged (f ∷ []) js) (lists_of (one_to S ∷ [])) ≡ true → FlagsUsed f S
flags-used f S e d =
    let r = first-ones (is_flagged f) S (λ k p q h. if-so (is_flagged f (k + 1)) (is_flagged f k) h (each-slot (λ js. not (is_used where_flagged (f ∷ []) (next_slot js)) || is_used where_flagged (f ∷ []) js) S k d p (omega arith))) in
    let bit = λ (k : ℕ) (p : 1 ≤ k) (q : k ≤ S). bit-cell (f (pos k ∷ [])) (all-run (λ k. is_some_and (f (k ∷ [])) (is_cell booleans)) 1 S k e p (omega arith)) in
    let on = λ (k : ℕ) (p : 1 ≤ k) (q : k ≤ r.0). yes (f (pos k ∷ [])) (bit k p (let m = r.1 in omega arith)) (r.2 k p (let m = r.1 in omega arith) ∙ le-leb k r.0 q) in
    let off = λ (k : ℕ) (p : r.0 < k) (q : k ≤ S). no (f (pos k ∷ [])) (bit k (omega arith) q) (r.2 k (omega arith) q ∙ lt-leb k r.0 p) in
    record {
      n = r.0;
      room = r.1;
      on = on;
      off = off;
      slots = record {
        room = r.1;
        used = r.2;
        found =
            ap (λ js. chosen js f) (slots-are (one_to S)) ∙ chosen-run f 1 S r.0 r.1 (λ k p q. on k p (omega arith)) (λ k p q. off k (omega arith) (omega arith))
            ∙ ap Some (sym (slots-are (one_to r.0)));
      };
    }
  where
    yes : (o : Option ℤ) → (o ≡ Some (pos 0)) ⊎ (o ≡ Some (pos 1)) → is_some_and o (same_int (pos 1)) ≡ true → o ≡ Some (pos 1)
    yes o (inl q) e = let z : false ≡ true = sym (ap (λ o. is_some_and o (same_int (pos 1))) q) ∙ e in cc
    yes o (inr q) e = q

    no : (o : Option ℤ) → (o ≡ Some (pos 0)) ⊎ (o ≡ Some (pos 1)) → is_some_and o (same_int (pos 1)) ≡ false → o ≡ Some (pos 0)
    no o (inl q) e = q
    no o (inr q) e = let z : true ≡ false = sym (ap (λ o. is_some_and o (same_int (pos 1))) q) ∙ e in cc
