-- Slots in the order of their cells: from what the layer does with slots that are permuted and padded.
use Rattle.std.proofs.Common.{◌≡◌, refl, sym, ap, ◌∙◌, subst, ℕ, ◌+◌, ◌-◌, ◌≤◌, Bool, true, false, ◌||◌, not, List, [], ◌∷◌, map, length, pos, Option, Some, None, is_some, arith}
use Rattle.std.specs.List.{list_all}
use Rattle.ess_semantics.specs.declared.words.ReprKind.{ReprKind}
use Rattle.ess_semantics.specs.Values.{Value}
use Rattle.ess_semantics.specs.Numbers.{one_to}
use Rattle.ess_semantics.specs.Trees.{Repr, repr, no_reprs, more_reprs}
use Rattle.ess_semantics.specs.Domains.{Domain, lists_of}
use Rattle.ess_semantics.specs.Membership.{member}
use Rattle.ess_semantics.specs.Tables.{Tables}
use Rattle.ess_semantics.specs.Cells.{Cells, Axes, cells_of, behind, zero_cells, rows}
use Rattle.ess_semantics.specs.Layers.{OwnTable, Layer, Use, Slot, some_each}
use Rattle.ess_semantics.specs.Representations.{layer, own_width, is_used, places_by}
use Rattle.ess_semantics.specs.Declarations.{axes_of}
use Rattle.ess_semantics.specs.Canonical.{somes, by_cells, cells_or}
use Rattle.ess_semantics.specs.CanonicalTest.{own_cells_fit, next_slot, in_order}
use Rattle.ess_semantics.proofs.Tests.{and-left, and-right, run-length}
use Rattle.ess_repr_laws.proofs.RowsOfCells.{own_axes}
use Rattle.ess_semantics.proofs.Permutations.{Perm}
use Rattle.ess_repr_laws.proofs.SlotsUsed.{as_place, slots-are}
use Rattle.ess_repr_laws.proofs.CanonicalPlaces.{AllOf, all-of-map}
use Rattle.ess_repr_laws.proofs.TablesAndCells.{AxesDiffer}
use Rattle.ess_repr_laws.proofs.AxesOfTables.{run-differs}
use Rattle.ess_repr_laws.proofs.ExactCells.{AllExact}
use Rattle.ess_repr_laws.proofs.SideBySide.{Along, along-both}
use Rattle.ess_repr_laws.proofs.PlacedSlots.{SlotExact, placed, placed-behind}
use Rattle.ess_repr_laws.proofs.CellsOfMembers.{HasCells, MembersHaveCells, GoodSlot, Good, Inside, Slots, slots-there, kept-good, kept-values, picked, map-long}
use Rattle.ess_repr_laws.proofs.CellsOfOneChild.{Laid, layer-cells}
use Rattle.ess_repr_laws.proofs.SortedSlots.{by-perm, Climbs, by-climbs, Ordered, all-perm, perm-map, perm-length, padded, padded-somes, padded-length, padded-good, used-first, used-rise, Held}

-- The numbers of slots differ.
pub slots-differ : (n : ℕ) → AxesDiffer (one_to n ∷ [])
slots-differ n = (run-differs 1 n, tt)

-- They are so many.
pub slots-length : (n : ℕ) → length (lists_of (one_to n ∷ [])) ≡ n
slots-length n = ap length (slots-are (one_to n)) ∙ map-long as_place (one_to n) ∙ run-length 1 n

-- The values that are there, where all are.
pub some-somes : (xs : List Value) → somes (some_each xs) ≡ xs
some-somes [] = refl
some-somes (x ∷ xs) = ap (λ l. x ∷ l) (some-somes xs)

-- Members that are all there.
pub some-inside : (e : Domain) (xs : List Value) → list_all (member e) xs ≡ true → AllOf (some_each xs) (Inside e)
some-inside e [] h = tt
some-inside e (x ∷ xs) h = (and-left (member e x) (list_all (member e) xs) h, some-inside e xs (and-right (member e x) (list_all (member e) xs) h))

somes-good : (r : Repr) (e : Domain) (ss : List (Option Slot)) → AllOf ss (Good r e) → AllOf (somes ss) (GoodSlot r e)
somes-good r e [] h = tt
somes-good r e (None ∷ ss) h = somes-good r e ss h.1
somes-good r e (Some s ∷ ss) h = (h.0, somes-good r e ss h.1)

good-exact : (r : Repr) (e : Domain) (s : Option Slot) → Good r e s → SlotExact (axes_of r e) s
good-exact r e None h = tt
good-exact r e (Some s) h = h.0

module _ (k : ReprKind) (r : Repr) (d e : Domain) (own : List OwnTable) (n : ℕ) (u : Use) (distinct : Bool) (ct : Value → List Value) (ot : Value → List (Option Slot) → Tables)
    (b : Cells → List (List Value) → Option Value) (ic : Cells → List (List Value) → Bool) (td : Cells → Bool) where
  abbrev bs : Axes
  bs = one_to n ∷ []

  abbrev ass : List Axes
  ass = axes_of r e

  -- The layer.
  abbrev pub slotted : Layer
  slotted = record {
    own = own;
    children = e ∷ [];
    axes = one_to n ∷ [];
    in_use = u;
    is_sorted = true;
    is_distinct = distinct;
    contents = λ v. some_each (ct v) ∷ [];
    own_tables = ot;
    built = b;
    is_canonical = ic;
    is_tidy = td;
  }

  -- What the layer does with slots ts, padded by j slots out of use.
  pub record Slotted (v : Value) (j : ℕ) (ts : List Slot) : Type 0 where
    pub exact : AllExact (own_axes own) (cells_of (ot v (padded j ts)))
    pub fit : own_cells_fit own (cells_of (ot v (padded j ts))) ≡ true
    pub used : Along (lists_of (one_to n ∷ [])) (padded j ts) (λ p s. is_used u (cells_of (ot v (padded j ts))) p ≡ is_some s)
    pub ends : is_used u (cells_of (ot v (padded j ts))) (pos (1 + n) ∷ []) ≡ false
    pub found : places_by u (cells_of (ot v (padded j ts))) (lists_of (one_to n ∷ [])) ≡ Some (picked (lists_of (one_to n ∷ [])) (padded j ts))
    pub built : b (cells_of (ot v (padded j ts))) (map (λ s. s.0) ts ∷ []) ≡ Some v
    pub asked : ic (cells_of (ot v (padded j ts))) (map (λ s. s.0) ts ∷ []) ≡ true

  module _ (child : MembersHaveCells r e) where
    laid : (v : Value) (j : ℕ) (ts : List Slot) → length ts + j ≡ n → AllOf ts (GoodSlot r e) → Ordered ass distinct ts → Slotted v j ts → Laid k r d e own bs u true distinct (λ v. some_each (ct v)) ot b ic td v (padded j ts)
    laid v j ts sum good order h = record {
      count = count;
      good = padded-good r e j ts good;
      exact = h.exact;
      fit = h.fit;
      used = h.used;
      found = h.found;
      first = ap (list_all (λ js. not (is_used u mine (next_slot js)) || is_used u mine js)) (slots-are (one_to n))
          ∙ used-first u mine 1 n j ts (subst (λ l. Along l (padded j ts) (λ p s. is_used u mine p ≡ is_some s)) (slots-are (one_to n)) h.used) h.ends;
      rise = ap (list_all (λ js. not (is_used u mine (next_slot js)) || in_order distinct (rows ass (behind js inner)) (rows ass (behind (next_slot js) inner)))) (slots-are (one_to n))
          ∙ used-rise u mine ass distinct inner 1 n j ts (subst (λ l. Along l (padded j ts) (Held u mine ass distinct inner)) (slots-are (one_to n)) held) h.ends order;
      built = ap (λ l. b mine (map (λ s. s.0) l ∷ [])) (padded-somes j ts) ∙ h.built;
      asked = ap (λ l. ic mine (map (λ s. s.0) l ∷ [])) (padded-somes j ts) ∙ h.asked;
    }
      where
        mine : Cells
        mine = cells_of (ot v (padded j ts))

        inner : Cells
        inner = placed ass bs (padded j ts)

        count : length (lists_of bs) ≡ length (padded j ts)
        count = slots-length n ∙ sym sum ∙ sym (padded-length j ts)

        held : Along (lists_of bs) (padded j ts) (Held u mine ass distinct inner)
        held =
            along-both (lists_of bs) (padded j ts) (λ p s. is_used u mine p ≡ is_some s) (λ p s. behind p inner ≡ cells_or (zero_cells ass) s) (Held u mine ass distinct inner) (λ p s x y. (x, y)) h.used
            (placed-behind ass bs (padded j ts) (slots-differ n) count (all-of-map (padded j ts) (Good r e) (SlotExact ass) (good-exact r e) (padded-good r e j ts good)))

    -- A member has canonical cells where the layer does what is asked with slots that are permuted and padded.
    pub slots-cells : layer k d ≡ Some slotted → length own ≡ own_width k → (v : Value) → list_all (member e) (ct v) ≡ true → length (ct v) ≤ n →
        ((ts : List Slot) → Perm (ct v) (map (λ s. s.0) ts) → AllOf ts (GoodSlot r e) → Climbs ass ts → Ordered ass distinct ts) →
        ((j : ℕ) (ts : List Slot) → length ts + j ≡ n → Perm (ct v) (map (λ s. s.0) ts) → Slotted v j ts) → HasCells (repr k (more_reprs r no_reprs)) d v
    slots-cells at ow v inside room order kind =
        layer-cells k r d e own bs u true distinct (λ v. some_each (ct v)) ot b ic td at ow child (slots-differ n) v x
        (laid v j ts sum good (order ts perm good (by-climbs ass (somes x.slots))) (kind j ts sum perm))
      where
        x : Slots r e (some_each (ct v))
        x = slots-there r e child.of_member (some_each (ct v)) (some-inside e (ct v) inside)

        ts : List Slot
        ts = by_cells ass (somes x.slots)

        j : ℕ
        j = length (lists_of bs) - length (somes x.slots)

        values : map (λ s. s.0) (somes x.slots) ≡ ct v
        values = kept-values r e (some_each (ct v)) x.slots x.kept ∙ some-somes (ct v)

        perm : Perm (ct v) (map (λ s. s.0) ts)
        perm = subst (λ l. Perm l (map (λ s. s.0) ts)) values (perm-map (λ (s : Slot). s.0) (by-perm ass (somes x.slots)))

        good : AllOf ts (GoodSlot r e)
        good = all-perm (GoodSlot r e) (by-perm ass (somes x.slots)) (somes-good r e x.slots (kept-good r e (some_each (ct v)) x.slots x.kept))

        sum : length ts + j ≡ n
        sum =
            let a : length (somes x.slots) ≡ length ts = perm-length (by-perm ass (somes x.slots)) in
            let c : length (somes x.slots) ≡ length (ct v) = sym (map-long (λ (s : Slot). s.0) (somes x.slots)) ∙ ap length values in
            let l = slots-length n in
            omega (arith, a, c, l, room)
