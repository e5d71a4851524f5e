-- The test of canonical cells of slots, as tests of each slot.
use Rattle.std.proofs.Common.{◌≡◌, refl, sym, ap, ◌∙◌, ℕ, ◌+◌, ◌≤◌, ◌<◌, Bool, true, false, ◌&&◌, ◌||◌, not, List, [], ◌∷◌, drop, length, ℤ, pos, ◌+ℤ◌, Option, Some, int_le, nat_le, arith}
use Rattle.std.proofs.lemmas.Bool.{leb-true, le-leb, eq-eqb}
use Rattle.std.specs.List.{list_all}
use Rattle.std.specs.Ordering.{is_lt}
use Rattle.ess_semantics.specs.declared.words.ReprKind.{ReprKind}
use Rattle.ess_semantics.specs.Lists.{and_then, each_of, is_some_and}
use Rattle.ess_semantics.specs.Values.{Value}
use Rattle.ess_semantics.specs.Numbers.{one_to}
use Rattle.ess_semantics.specs.Trees.{Repr, Reprs, no_reprs, more_reprs}
use Rattle.ess_semantics.specs.Domains.{Domain, lists_of}
use Rattle.ess_semantics.specs.Tables.{Tables}
use Rattle.ess_semantics.specs.Cells.{Cells, Axes, behind, are_zero, rows, order_rows}
use Rattle.ess_semantics.specs.Layers.{OwnTable, Layer, Use, Slot}
use Rattle.ess_semantics.specs.Representations.{width, slot_number, is_used, places_by, value_of_cells, values_of_children}
use Rattle.ess_semantics.specs.Declarations.{axes_of}
use Rattle.ess_semantics.specs.CanonicalTest.{own_cells_fit, next_slot, child_is_canonical, children_are_canonical, canonical}
use Rattle.ess_semantics.proofs.Tests.{and-left, and-right, and-both, both-ways, some-and, if-so, all-run, run-all, or-yes}
use Rattle.ess_repr_laws.proofs.SlotsUsed.{as_place, slots-are, all-map, each_of-map}
use Rattle.ess_repr_laws.proofs.OneForm.{values-there}
use Rattle.ess_repr_laws.specs.CanonicalTables.{Right}
use Rattle.ess_repr_laws.proofs.CanonicalParts.{asked_of}
use Rattle.ess_repr_laws.proofs.CellsOfMembers.{take-whole, drop-whole}
use Rattle.ess_repr_laws.proofs.CellsOfSlots.{slotted}

-- ---- slots

module _ (r : Repr) (e : Domain) (right : Right r e) (wide : length (axes_of r e) ≡ width r) (k : ReprKind) (d : Domain) (own : List OwnTable) (s : ℕ) (u : Use) (ct : Value → List Value) (ot : Value → List (Option Slot) → Tables)
    (b : Cells → List (List Value) → Option Value) (ic : Cells → List (List Value) → Bool) (td : Cells → Bool) where
  abbrev L : Layer
  L = slotted k r d e own s u true ct ot b ic td

  abbrev ass : List Axes
  ass = axes_of r e

  abbrev used_part : Cells → ℕ → Bool
  used_part inner n = list_all (λ k. not (int_le k (pos n)) || canonical r e (behind (k ∷ []) inner)) (one_to s)

  abbrev rise_part : Cells → ℕ → Bool
  rise_part inner n = list_all (λ k. not (int_le (k +ℤ pos 1) (pos n)) || is_lt (order_rows (rows ass (behind (k ∷ []) inner)) (rows ass (behind ((k +ℤ pos 1) ∷ []) inner)))) (one_to s)

  abbrev zero_part : Cells → ℕ → Bool
  zero_part inner n = list_all (λ k. int_le k (pos n) || are_zero ass (behind (k ∷ []) inner)) (one_to s)

  -- What is asked of slots of which the first n are in use.
  pub slots-asked : (mine inner : Cells) (n : ℕ) (F : Bool) → n ≤ s → own_cells_fit own mine ≡ true → length inner ≡ width r →
      ((js : List ℤ) → is_used u mine js ≡ int_le (slot_number js) (pos n)) → places_by u mine (lists_of (one_to s ∷ [])) ≡ Some (lists_of (one_to n ∷ [])) → ((vss : List (List Value)) → ic mine vss ≡ F) →
      asked_of L (more_reprs r no_reprs) mine inner ≡ F && (used_part inner n && (rise_part inner n && zero_part inner n))
  slots-asked mine inner n F room ok long used found asked = both-ways (asked_of L (more_reprs r no_reprs) mine inner) (F && (used_part inner n && (rise_part inner n && zero_part inner n))) forth back
    where
      rs : Reprs
      rs = more_reprs r no_reprs

      -- a test of places as one of numbers
      as-numbers : (f : List ℤ → Bool) → list_all f (lists_of (one_to s ∷ [])) ≡ list_all (λ k. f (k ∷ [])) (one_to s)
      as-numbers f = ap (list_all f) (slots-are (one_to s)) ∙ all-map f as_place (one_to s)

      list-same : (ks : List ℤ) (f g : ℤ → Bool) → ((k : ℤ) → f k ≡ g k) → list_all f ks ≡ list_all g ks
      list-same [] f g h = refl
      list-same (k ∷ ks) f g h = ap (λ b. b && list_all f ks) (h k) ∙ ap (λ b. g k && b) (list-same ks f g h)

      I : list_all (λ js. not (is_used u mine js) || canonical r e (behind js inner)) (lists_of (one_to s ∷ [])) ≡ used_part inner n
      I = as-numbers (λ js. not (is_used u mine js) || canonical r e (behind js inner)) ∙ list-same (one_to s) (λ k. not (is_used u mine (k ∷ [])) || canonical r e (behind (k ∷ []) inner)) (λ k. not (int_le k (pos n)) || canonical r e (behind (k ∷ []) inner)) (λ k. ap (λ b. not b || canonical r e (behind (k ∷ []) inner)) (used (k ∷ [])))

      R : list_all (λ js. not (is_used u mine (next_slot js)) || is_lt (order_rows (rows ass (behind js inner)) (rows ass (behind (next_slot js) inner)))) (lists_of (one_to s ∷ [])) ≡ rise_part inner n
      R = as-numbers (λ js. not (is_used u mine (next_slot js)) || is_lt (order_rows (rows ass (behind js inner)) (rows ass (behind (next_slot js) inner))))
          ∙ list-same (one_to s) (λ k. not (is_used u mine ((k +ℤ pos 1) ∷ [])) || is_lt (order_rows (rows ass (behind (k ∷ []) inner)) (rows ass (behind ((k +ℤ pos 1) ∷ []) inner)))) (λ k. not (int_le (k +ℤ pos 1) (pos n)) || is_lt (order_rows (rows ass (behind (k ∷ []) inner)) (rows ass (behind ((k +ℤ pos 1) ∷ []) inner)))) (λ k. ap (λ b. not b || is_lt (order_rows (rows ass (behind (k ∷ []) inner)) (rows ass (behind ((k +ℤ pos 1) ∷ []) inner)))) (used ((k +ℤ pos 1) ∷ [])))

      Z : list_all (λ js. is_used u mine js || are_zero ass (behind js inner)) (lists_of (one_to s ∷ [])) ≡ zero_part inner n
      Z = as-numbers (λ js. is_used u mine js || are_zero ass (behind js inner)) ∙ list-same (one_to s) (λ k. is_used u mine (k ∷ []) || are_zero ass (behind (k ∷ []) inner)) (λ k. int_le k (pos n) || are_zero ass (behind (k ∷ []) inner)) (λ k. ap (λ b. b || are_zero ass (behind (k ∷ []) inner)) (used (k ∷ [])))

      raw_first : Bool
      raw_first = list_all (λ js. not (is_used u mine (next_slot js)) || is_used u mine js) (lists_of (one_to s ∷ []))

      first : raw_first ≡ true
      first =
          as-numbers (λ js. not (is_used u mine (next_slot js)) || is_used u mine js)
          ∙ list-same (one_to s) (λ k. not (is_used u mine ((k +ℤ pos 1) ∷ [])) || is_used u mine (k ∷ [])) (λ k. not (int_le (k +ℤ pos 1) (pos n)) || int_le k (pos n)) (λ k. ap (λ b. not b || is_used u mine (k ∷ [])) (used ((k +ℤ pos 1) ∷ [])) ∙ ap (λ b. not (int_le (k +ℤ pos 1) (pos n)) || b) (used (k ∷ [])))
          ∙ run-all (λ k. not (int_le (k +ℤ pos 1) (pos n)) || int_le k (pos n)) 1 s (λ k p q. next k (nat_le (k + 1) n) refl)
        where
          next : (k : ℕ) (c : Bool) → nat_le (k + 1) n ≡ c → not (nat_le (k + 1) n) || nat_le k n ≡ true
          next k false h = ap (λ b. not b || nat_le k n) h
          next k true h = let l : k + 1 ≤ n = leb-true (k + 1) n h in ap (λ b. not (nat_le (k + 1) n) || b) (le-leb k n (omega arith)) ∙ or-yes (not (nat_le (k + 1) n))

      raw_used : Bool
      raw_used = list_all (λ js. not (is_used u mine js) || canonical r e (behind js inner)) (lists_of (one_to s ∷ []))

      raw_rise : Bool
      raw_rise = list_all (λ js. not (is_used u mine (next_slot js)) || is_lt (order_rows (rows ass (behind js inner)) (rows ass (behind (next_slot js) inner)))) (lists_of (one_to s ∷ []))

      raw_zero : Bool
      raw_zero = list_all (λ js. is_used u mine js || are_zero ass (behind js inner)) (lists_of (one_to s ∷ []))

      whole : Bool
      whole = child_is_canonical L mine ass (canonical r e) inner

      of-whole : whole ≡ (used_part inner n && rise_part inner n) && zero_part inner n
      of-whole =
          ap (λ b. ((b && raw_used) && raw_rise) && raw_zero) (eq-eqb (length inner) (length ass) (long ∙ sym wide))
          ∙ ap (λ b. (b && raw_rise) && raw_zero) I ∙ ap (λ b. (used_part inner n && b) && raw_zero) R ∙ ap (λ b. (used_part inner n && rise_part inner n) && b) Z

      children : children_are_canonical L mine rs (e ∷ []) inner ≡ whole && true
      children =
          ap (λ c. child_is_canonical L mine ass (canonical r e) c && children_are_canonical L mine no_reprs [] (drop (width r) inner)) (take-whole (width r) inner long)
          ∙ ap (λ c. whole && children_are_canonical L mine no_reprs [] c) (drop-whole (width r) inner long)

      value_at : ℤ → Option Value
      value_at k = value_of_cells r e (behind (k ∷ []) inner)

      -- canonical slots have values
      there : used_part inner n ≡ true → (vs : List Value) × (values_of_children rs (e ∷ []) inner (lists_of (one_to n ∷ [])) ≡ Some (vs ∷ []))
      there h =
          let x = values-there value_at 1 n (λ k p q. sound k p q) in (
            x.0,
            ap (λ c. and_then (each_of (lists_of (one_to n ∷ [])) (λ j. value_of_cells r e (behind j c))) (λ vs. Some (vs ∷ []))) (take-whole (width r) inner long)
                ∙ ap (λ o. and_then o (λ vs. Some (vs ∷ []))) (ap (λ l. each_of l (λ j. value_of_cells r e (behind j inner))) (slots-are (one_to n)) ∙ each_of-map (λ j. value_of_cells r e (behind j inner)) as_place (one_to n) ∙ x.1),
          )
        where
          sound : (k : ℕ) → 1 ≤ k → k < 1 + n → (v : Value) × (value_at (pos k) ≡ Some v)
          sound k p q =
              right.sound (behind (pos k ∷ []) inner)
              (if-so (int_le (pos k) (pos n)) (canonical r e (behind (pos k ∷ []) inner)) (le-leb k n (omega arith)) (all-run (λ k. not (int_le k (pos n)) || canonical r e (behind (k ∷ []) inner)) 1 s k h p (omega arith)))

      forth : asked_of L rs mine inner ≡ true → F && (used_part inner n && (rise_part inner n && zero_part inner n)) ≡ true
      forth h =
          let A : Bool = is_some_and (and_then (places_by u mine (lists_of (one_to s ∷ []))) (values_of_children rs (e ∷ []) inner)) (ic mine) in
          let c = and-left ((own_cells_fit own mine && raw_first) && children_are_canonical L mine rs (e ∷ []) inner) A h in
          let w = sym children ∙ and-right (own_cells_fit own mine && raw_first) (children_are_canonical L mine rs (e ∷ []) inner) c in
          let w' = sym of-whole ∙ and-left whole true w in
          let iu = and-left (used_part inner n && rise_part inner n) (zero_part inner n) w' in
          let x = some-and (and_then (places_by u mine (lists_of (one_to s ∷ []))) (values_of_children rs (e ∷ []) inner)) (ic mine) (and-right ((own_cells_fit own mine && raw_first) && children_are_canonical L mine rs (e ∷ []) inner) A h) in
          and-both F (used_part inner n && (rise_part inner n && zero_part inner n)) (sym (asked x.0) ∙ x.2)
          (and-both (used_part inner n) (rise_part inner n && zero_part inner n) (and-left (used_part inner n) (rise_part inner n) iu)
          (and-both (rise_part inner n) (zero_part inner n) (and-right (used_part inner n) (rise_part inner n) iu) (and-right (used_part inner n && rise_part inner n) (zero_part inner n) w')))

      back : F && (used_part inner n && (rise_part inner n && zero_part inner n)) ≡ true → asked_of L rs mine inner ≡ true
      back h =
          let f = and-left F (used_part inner n && (rise_part inner n && zero_part inner n)) h in
          let p = and-right F (used_part inner n && (rise_part inner n && zero_part inner n)) h in
          let i = and-left (used_part inner n) (rise_part inner n && zero_part inner n) p in
          let rz = and-right (used_part inner n) (rise_part inner n && zero_part inner n) p in
          let v = there i in
          and-both ((own_cells_fit own mine && raw_first) && children_are_canonical L mine rs (e ∷ []) inner) (is_some_and (and_then (places_by u mine (lists_of (one_to s ∷ []))) (values_of_children rs (e ∷ []) inner)) (ic mine))
          (and-both (own_cells_fit own mine && raw_first) (children_are_canonical L mine rs (e ∷ []) inner) (and-both (own_cells_fit own mine) raw_first ok first)
          (children ∙ ap (λ b. b && true) (of-whole ∙ and-both (used_part inner n && rise_part inner n) (zero_part inner n) (and-both (used_part inner n) (rise_part inner n) i (and-left (rise_part inner n) (zero_part inner n) rz)) (and-right (rise_part inner n) (zero_part inner n) rz))))
          (ap (λ o. is_some_and (and_then o (values_of_children rs (e ∷ []) inner)) (ic mine)) found ∙ ap (λ o. is_some_and o (ic mine)) v.1 ∙ asked (v.0 ∷ []) ∙ f)
