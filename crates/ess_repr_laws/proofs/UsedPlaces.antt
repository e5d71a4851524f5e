-- Which places own cells say to be in use: up to a marker, with a true flag, with a number above 0.
use Rattle.std.proofs.Common.{◌≡◌, refl, sym, ap, ◌∙◌, subst, ℕ, zero, suc, ◌+◌, ◌<◌, Bool, true, false, if◌then◌else◌, List, [], ◌∷◌, map, take, length, replicate, ℤ, pos, Option, Some, None, option_map, is_some, int_le, arith}
use Rattle.std.proofs.lemmas.Bool.{le-leb, lt-leb}
use Rattle.ess_semantics.specs.Lists.{and_then, is_some_and}
use Rattle.ess_semantics.specs.Order.{same_int}
use Rattle.ess_semantics.specs.Numbers.{run_from}
use Rattle.ess_semantics.specs.Domains.{lists_of, booleans}
use Rattle.ess_semantics.specs.Tables.{Table, volume, cell_at, truth_of, truth_number, is_cell}
use Rattle.ess_semantics.specs.Cells.{Axes, row, every_cell}
use Rattle.ess_semantics.specs.Layers.{Slot, chosen, count_true, flags_table}
use Rattle.ess_semantics.specs.Representations.{slot_number}
use Rattle.ess_semantics.specs.Canonical.{somes}
use Rattle.ess_repr_laws.proofs.SlotsUsed.{as_place}
use Rattle.ess_repr_laws.proofs.CanonicalPlaces.{AllOf, all-of-list, places-index}
use Rattle.ess_repr_laws.proofs.TablesAndCells.{AxesDiffer, row-of-items}
use Rattle.ess_repr_laws.proofs.ExactCells.{Exact, exact-items}
use Rattle.ess_repr_laws.proofs.SideBySide.{Along, along-map, along-all, right-under}
use Rattle.ess_repr_laws.proofs.PlacesOfTables.{items-along}
use Rattle.ess_repr_laws.proofs.CellsOfMembers.{picked, map-long}
use Rattle.ess_repr_laws.proofs.SortedSlots.{padded}
use Rattle.ess_repr_laws.proofs.ArgumentTables.{places-volume, index-cell}

-- ---- up to a number

run-off : (m a n : ℕ) → m < a → Along (map as_place (run_from a n)) (replicate n None) (λ p (s : Option Slot). int_le (slot_number p) (pos m) ≡ is_some s)
run-off m a zero h = tt
run-off m a (suc n) h = (lt-leb a m h, run-off m (suc a) n (omega arith))

-- The first m places are those of slots.
pub run-used : (m a n j : ℕ) (ts : List Slot) → a + length ts ≡ suc m → length ts + j ≡ n → Along (map as_place (run_from a n)) (padded j ts) (λ p s. int_le (slot_number p) (pos m) ≡ is_some s)
run-used m a n j [] e q = let p : j ≡ n = omega arith in subst (λ i. Along (map as_place (run_from a n)) (replicate i None) (λ p (s : Option Slot). int_le (slot_number p) (pos m) ≡ is_some s)) (sym p) (run-off m a n (omega arith))
run-used m a zero j (t ∷ ts) e q = absurd (omega arith)
run-used m a (suc n) j (t ∷ ts) e q = (le-leb a m (omega arith), run-used m (suc a) n j ts (omega arith) (omega arith))

picked-none : {A : Type 0} (js : List A) (j : ℕ) → picked {B = Slot} js (replicate j None) ≡ []
picked-none [] j = refl
picked-none (p ∷ js) zero = refl
picked-none (p ∷ js) (suc j) = picked-none js j

-- The first places are those of the slots that stand first.
pub take-picked : {A : Type 0} (js : List A) (j : ℕ) (ts : List Slot) → length js ≡ length ts + j → take (length ts) js ≡ picked js (padded j ts)
take-picked js j [] e = sym (picked-none js j)
take-picked [] j (t ∷ ts) e = absurd (omega arith)
take-picked (p ∷ js) j (t ∷ ts) e = ap (λ l. p ∷ l) (take-picked js j ts (omega arith))

-- ---- with a true flag

-- The places whose flag is true are those of the slots that are there.
pub chosen-picked : {A : Type 0} (F : A → Option ℤ) (ps : List A) (ss : List (Option Slot)) → Along ps ss (λ p s. F p ≡ Some (truth_number (is_some s))) → chosen ps F ≡ Some (picked ps ss)
chosen-picked F [] [] h = refl
chosen-picked F (p ∷ ps) (None ∷ ss) h = ap (λ o. and_then (and_then o truth_of) (λ b. option_map (λ ys. if b then p ∷ ys else ys) (chosen ps F))) h.0 ∙ ap (option_map (λ ys. ys)) (chosen-picked F ps ss h.1)
chosen-picked F (p ∷ ps) (Some s ∷ ss) h = ap (λ o. and_then (and_then o truth_of) (λ b. option_map (λ ys. if b then p ∷ ys else ys) (chosen ps F))) h.0 ∙ ap (option_map (λ ys. p ∷ ys)) (chosen-picked F ps ss h.1)
chosen-picked F [] (s ∷ ss) h = absurd h
chosen-picked F (p ∷ ps) [] h = absurd h

-- A flag is true where there is a slot.
pub flag-used : (o : Option ℤ) (b : Bool) → o ≡ Some (truth_number b) → is_some_and o (same_int (pos 1)) ≡ b
flag-used o true e = ap (λ o. is_some_and o (same_int (pos 1))) e
flag-used o false e = ap (λ o. is_some_and o (same_int (pos 1))) e

flags-count : (ss : List (Option Slot)) → count_true (map (λ s. truth_number (is_some s)) ss) ≡ length (somes ss)
flags-count [] = refl
flags-count (None ∷ ss) = flags-count ss
flags-count (Some s ∷ ss) = ap suc (flags-count ss)

-- ---- a table with an item for each place

module _ (as' : Axes) (differ : AxesDiffer as') (F : Option Slot → ℤ) (ss : List (Option Slot)) (count : length (lists_of as') ≡ length ss) where
  -- A table with a number for each slot.
  abbrev pub slot_table : Table
  slot_table = record { axes = as'; items = map F ss }

  filled : length (map F ss) ≡ volume as'
  filled = map-long F ss ∙ sym count ∙ places-volume as'

  -- It has exactly the cells of its axes.
  pub table-exact : Exact as' (cell_at slot_table)
  table-exact = exact-items as' (map F ss) filled

  -- Its cells are the numbers of the slots.
  pub table-cells : Along (lists_of as') ss (λ p s. cell_at slot_table p ≡ Some (F s))
  table-cells = right-under F (lists_of as') ss (λ p x. cell_at slot_table p ≡ Some x) (items-along as' differ (map F ss) filled)

  -- Its items are these numbers.
  pub table-row : row as' (cell_at slot_table) ≡ map F ss
  table-row = row-of-items as' differ (map F ss) filled

  -- Its cells have a property that these numbers have.
  pub table-fit : (p : ℤ → Bool) → AllOf ss (λ s. p (F s) ≡ true) → every_cell as' p (cell_at slot_table) ≡ true
  table-fit p h =
      index-cell as' p (cell_at slot_table)
      (places-index as' (λ js. is_some_and (cell_at slot_table js) p ≡ true)
      (all-of-list (lists_of as') (λ js. is_some_and (cell_at slot_table js) p)
      (along-all (λ js. is_some_and (cell_at slot_table js) p) (lists_of as') ss (go (lists_of as') ss h table-cells))))
    where
      go : (ps : List (List ℤ)) (zs : List (Option Slot)) → AllOf zs (λ s. p (F s) ≡ true) → Along ps zs (λ q s. cell_at slot_table q ≡ Some (F s)) → Along ps zs (λ q s. is_some_and (cell_at slot_table q) p ≡ true)
      go [] [] a b = tt
      go (q ∷ ps) (s ∷ zs) a b = (ap (λ o. is_some_and o p) b.0 ∙ a.0, go ps zs a.1 b.1)
      go [] (s ∷ zs) a b = absurd b
      go (q ∷ ps) [] a b = absurd b

-- flags of slots
module _ (as' : Axes) (differ : AxesDiffer as') (ss : List (Option Slot)) (count : length (lists_of as') ≡ length ss) where
  abbrev flag : Option Slot → ℤ
  flag s = truth_number (is_some s)

  bits : (zs : List (Option Slot)) → AllOf zs (λ s. is_cell booleans (flag s) ≡ true)
  bits [] = tt
  bits (None ∷ zs) = (refl, bits zs)
  bits (Some s ∷ zs) = (refl, bits zs)

  -- The table of flags has exactly the cells of its axes.
  pub flags-exact : Exact as' (cell_at (flags_table as' ss))
  flags-exact = table-exact as' differ flag ss count

  -- Its cells say whether there is a slot.
  pub flags-cells : Along (lists_of as') ss (λ p s. cell_at (flags_table as' ss) p ≡ Some (truth_number (is_some s)))
  flags-cells = table-cells as' differ flag ss count

  -- They are truth values.
  pub flags-fit : every_cell as' (is_cell booleans) (cell_at (flags_table as' ss)) ≡ true
  flags-fit = table-fit as' differ flag ss count (is_cell booleans) (bits ss)

  -- A place is in use where there is a slot.
  pub flags-used : Along (lists_of as') ss (λ p s. is_some_and (cell_at (flags_table as' ss) p) (same_int (pos 1)) ≡ is_some s)
  flags-used =
      along-map (lists_of as') ss (λ p s. cell_at (flags_table as' ss) p ≡ Some (truth_number (is_some s))) (λ p s. is_some_and (cell_at (flags_table as' ss) p) (same_int (pos 1)) ≡ is_some s)
      (λ p s e. flag-used (cell_at (flags_table as' ss) p) (is_some s) e) flags-cells

  -- The places with a true flag are those of the slots that are there.
  pub flags-found : chosen (lists_of as') (cell_at (flags_table as' ss)) ≡ Some (picked (lists_of as') ss)
  flags-found = chosen-picked (cell_at (flags_table as' ss)) (lists_of as') ss flags-cells

  -- As many flags are true as slots are there.
  pub flags-many : count_true (row as' (cell_at (flags_table as' ss))) ≡ length (somes ss)
  flags-many = ap count_true (table-row as' differ flag ss count) ∙ flags-count ss
