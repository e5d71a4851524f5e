-- The slots in use, by the numbers in the layer's own tables.
use Rattle.std.proofs.Common.{◌≡◌, refl, sym, ap, ◌∙◌, ℕ, zero, suc, ◌≤◌, Bool, true, false, if◌then◌else◌, List, [], ◌∷◌, map, length, take, ℤ, pos, negsuc, Option, Some, None, nat_le, option_map, arith}
use Rattle.std.proofs.lemmas.Bool.{leb-true}
use Rattle.ess_semantics.specs.Lists.{and_then, only_of}
use Rattle.ess_semantics.specs.Domains.{lists_of}
use Rattle.ess_semantics.specs.Numbers.{not_below_0}
use Rattle.ess_semantics.specs.Tables.{Tables, volume, item_in, truth_of}
use Rattle.ess_semantics.specs.Cells.{Grid, Axes, cells_of}
use Rattle.ess_semantics.specs.Layers.{Use, everywhere, all_slots, up_to_marker, where_flagged, where_counted, within_slots, chosen, counted, if_positive}
use Rattle.ess_semantics.specs.Representations.{places_by}
use Rattle.ess_repr_laws.proofs.TablesAndCells.{AxesDiffer}
use Rattle.ess_repr_laws.proofs.SideBySide.{Along}
use Rattle.ess_repr_laws.proofs.PlacesOfTables.{items-along}
use Rattle.ess_repr_rows_laws.specs.Cutting.{numbers_from, flagged_from, counted_from, used_numbers}
use Rattle.ess_repr_rows_laws.proofs.Stacked.{places-count}

-- The layer's own tables are over the axes that say what is in use: one cell for a marker, else the layer's axes.
abbrev pub UseOver : Use → Axes → Tables → Type 0
UseOver everywhere bs ts = Unit {0}
UseOver (all_slots n) bs ts = Unit {0}
UseOver u bs [] = ⊥
UseOver up_to_marker bs (t ∷ ts) = t.axes ≡ []
UseOver where_flagged bs (t ∷ ts) = (t.axes ≡ bs) × (length t.items ≡ volume bs)
UseOver where_counted bs (t ∷ ts) = (t.axes ≡ bs) × (length t.items ≡ volume bs)

module _ {B : Type 0} (F : List ℤ → B) (G : ℕ → B) where
  -- one item more on both sides
  step : (b : Bool) (p : List ℤ) (k : ℕ) (o : Option (List (List ℤ))) (q : Option (List ℕ)) → F p ≡ G k → option_map (map F) o ≡ option_map (map G) q →
      option_map (map F) (option_map (λ ys. if b then p ∷ ys else ys) o) ≡ option_map (map G) (option_map (λ ks. if b then k ∷ ks else ks) q)
  step b p k None None e h = refl
  step b p k None (Some ks) e h = cc
  step b p k (Some ys) None e h = cc
  step false p k (Some ys) (Some ks) e h = h
  step true p k (Some ys) (Some ks) e h = let q : map F ys ≡ map G ks = cc in ap (λ x. Some (x ∷ map F ys)) e ∙ ap (λ l. Some (G k ∷ l)) q

  chosen-flagged : (f : Grid) (ps : List (List ℤ)) (xs : List ℤ) (k : ℕ) → Along ps xs (λ p x. f p ≡ Some x) → map F ps ≡ map G (numbers_from k (length xs)) →
      option_map (map F) (chosen ps f) ≡ option_map (map G) (flagged_from k xs)
  chosen-flagged f [] [] k a e = refl
  chosen-flagged f [] (x ∷ xs) k a e = absurd a
  chosen-flagged f (p ∷ ps) [] k a e = absurd a
  chosen-flagged f (p ∷ ps) (x ∷ xs) k a e =
      let one : F p ≡ G k = cc in
      let more : map F ps ≡ map G (numbers_from (suc k) (length xs)) = cc in
      ap (λ o. option_map (map F) (and_then (and_then o truth_of) (λ b. option_map (λ ys. if b then p ∷ ys else ys) (chosen ps f)))) a.0
      ∙ go (truth_of x) one (chosen-flagged f ps xs (suc k) a.1 more)
    where
      go : (o : Option Bool) → F p ≡ G k → option_map (map F) (chosen ps f) ≡ option_map (map G) (flagged_from (suc k) xs) →
          option_map (map F) (and_then o (λ b. option_map (λ ys. if b then p ∷ ys else ys) (chosen ps f))) ≡ option_map (map G) (and_then o (λ b. option_map (λ ks. if b then k ∷ ks else ks) (flagged_from (suc k) xs)))
      go None one ih = refl
      go (Some b) one ih = step b p k (chosen ps f) (flagged_from (suc k) xs) one ih

  counted-numbers : (f : Grid) (ps : List (List ℤ)) (xs : List ℤ) (k : ℕ) → Along ps xs (λ p x. f p ≡ Some x) → map F ps ≡ map G (numbers_from k (length xs)) →
      option_map (map F) (counted ps f) ≡ option_map (map G) (counted_from k xs)
  counted-numbers f [] [] k a e = refl
  counted-numbers f [] (x ∷ xs) k a e = absurd a
  counted-numbers f (p ∷ ps) [] k a e = absurd a
  counted-numbers f (p ∷ ps) (x ∷ xs) k a e =
      let one : F p ≡ G k = cc in
      let more : map F ps ≡ map G (numbers_from (suc k) (length xs)) = cc in
      ap (λ o. option_map (map F) (and_then (and_then o not_below_0) (λ n. option_map (if_positive n p) (counted ps f)))) a.0
      ∙ go (not_below_0 x) one (counted-numbers f ps xs (suc k) a.1 more)
    where
      go : (o : Option ℕ) → F p ≡ G k → option_map (map F) (counted ps f) ≡ option_map (map G) (counted_from (suc k) xs) →
          option_map (map F) (and_then o (λ n. option_map (if_positive n p) (counted ps f))) ≡ option_map (map G) (and_then o (λ n. option_map (if_positive n k) (counted_from (suc k) xs)))
      go None one ih = refl
      go (Some zero) one ih = step false p k (counted ps f) (counted_from (suc k) xs) one ih
      go (Some (suc n)) one ih = step true p k (counted ps f) (counted_from (suc k) xs) one ih

  first-same : (m k n : ℕ) (ps : List (List ℤ)) → m ≤ n → map F ps ≡ map G (numbers_from k n) → map F (take m ps) ≡ map G (numbers_from k m)
  first-same zero k n ps l e = refl
  first-same (suc m) k zero ps l e = absurd (omega (arith, l))
  first-same (suc m) k (suc n) [] l e = cc
  first-same (suc m) k (suc n) (p ∷ ps) l e =
      let one : F p ≡ G k = cc in
      let more : map F ps ≡ map G (numbers_from (suc k) n) = cc in
      ap (λ x. x ∷ map F (take m ps)) one ∙ ap (λ l. G k ∷ l) (first-same m (suc k) n ps (omega (arith, l)) more)

  marked : (z : ℤ) (n : ℕ) (ps : List (List ℤ)) → map F ps ≡ map G (numbers_from 0 n) →
      option_map (map F) (option_map (λ m. take m ps) (within_slots z n)) ≡ option_map (map G) (option_map (numbers_from 0) (within_slots z n))
  marked (negsuc k) n ps e = refl
  marked (pos k) n ps e = go (nat_le k n) refl
    where
      go : (b : Bool) → nat_le k n ≡ b → option_map (map F) (option_map (λ m. take m ps) (if b then Some k else None)) ≡ option_map (map G) (option_map (numbers_from 0) (if b then Some k else None))
      go false q = refl
      go true q = ap Some (first-same k 0 n ps (leb-true k n q) e)

  -- The places in use are those with the numbers in use.
  pub used-places : (u : Use) (bs : Axes) (ts : Tables) → AxesDiffer bs → UseOver u bs ts → map F (lists_of bs) ≡ map G (numbers_from 0 (volume bs)) →
      option_map (map F) (places_by u (cells_of ts) (lists_of bs)) ≡ option_map (map G) (used_numbers u (volume bs) ts)
  used-places everywhere bs ts d o e = ap Some e
  used-places (all_slots n) bs ts d o e = ap Some e
  used-places up_to_marker bs [] d o e = absurd o
  used-places where_flagged bs [] d o e = absurd o
  used-places where_counted bs [] d o e = absurd o
  used-places up_to_marker bs (t ∷ ts) d o e =
      ap (λ x. option_map (map F) (and_then (item_in x t.items []) (λ m. option_map (λ n. take n (lists_of bs)) (within_slots m (length (lists_of bs)))))) o
      ∙ ap (λ n. option_map (map F) (and_then (only_of t.items) (λ m. option_map (λ n. take n (lists_of bs)) (within_slots m n)))) (places-count bs)
      ∙ go (only_of t.items)
    where
      go : (q : Option ℤ) → option_map (map F) (and_then q (λ m. option_map (λ n. take n (lists_of bs)) (within_slots m (volume bs)))) ≡ option_map (map G) (and_then q (λ m. option_map (numbers_from 0) (within_slots m (volume bs))))
      go None = refl
      go (Some z) = marked z (volume bs) (lists_of bs) e
  used-places where_flagged bs (t ∷ ts) d o e =
      ap (λ x. option_map (map F) (chosen (lists_of bs) (λ js. item_in x t.items js))) o.0
      ∙ chosen-flagged (item_in bs t.items) (lists_of bs) t.items 0 (items-along bs d t.items o.1) (e ∙ ap (λ n. map G (numbers_from 0 n)) (sym o.1))
  used-places where_counted bs (t ∷ ts) d o e =
      ap (λ x. option_map (map F) (counted (lists_of bs) (λ js. item_in x t.items js))) o.0
      ∙ counted-numbers (item_in bs t.items) (lists_of bs) t.items 0 (items-along bs d t.items o.1) (e ∙ ap (λ n. map G (numbers_from 0 n)) (sym o.1))

-- What asks only whether something is there.
pub there-alike : {A B C D : Type 0} (f : A → C) (g : B → C) (o : Option A) (q : Option B) (x : Option D) → option_map f o ≡ option_map g q → and_then o (λ y. x) ≡ and_then q (λ y. x)
there-alike f g None None x e = refl
there-alike f g None (Some b) x e = cc
there-alike f g (Some a) None x e = cc
there-alike f g (Some a) (Some b) x e = refl
