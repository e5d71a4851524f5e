-- The structure constraint of slots that rise, with a table over the slots that says which are in use: what is asked of the slots.
use Rattle.std.proofs.Common.{◌≡◌, refl, sym, ap, ◌∙◌, ℕ, suc, ◌+◌, ◌≤◌, ◌<◌, Bool, true, false, ◌&&◌, ◌||◌, not, if◌then◌else◌, List, [], ◌∷◌, ◌++◌, map, ℤ, pos, ◌+ℤ◌, Option, Some, None, option_map, arith}
use Rattle.std.specs.List.{list_all}
use Rattle.ess_semantics.specs.declared.words.ReprKind.{ReprKind}
use Rattle.ess_semantics.specs.Lists.{and_then, is_some_and}
use Rattle.ess_semantics.specs.Values.{Text, Value, number, truth}
use Rattle.ess_semantics.specs.Order.{same_int, same_text}
use Rattle.ess_semantics.specs.Numbers.{one_to}
use Rattle.ess_semantics.specs.Trees.{Exs, Repr, Ex, Exs, name_ex, Dom}
use Rattle.ess_semantics.specs.Domains.{Domain, booleans, lists_of}
use Rattle.ess_semantics.specs.Tables.{Tables, truth_of, is_cell}
use Rattle.ess_semantics.specs.Cells.{Cells, Axes, behind, cells_of, are_zero, rows}
use Rattle.ess_semantics.specs.Layers.{OwnTable, Layer, Use, Slot, chosen}
use Rattle.ess_semantics.specs.Representations.{is_used}
use Rattle.ess_semantics.specs.Declarations.{declarations_below, under, axes_of}
use Rattle.ess_semantics.specs.CanonicalTest.{in_order, next_slot, in_use_first, slots_rise, canonical}
use Rattle.ess_semantics.specs.Meaning.{Env, meaning}
use Rattle.ess_semantics.proofs.Connectives.{and-means}
use Rattle.ess_semantics.proofs.Orders.{same_int-equal}
use Rattle.ess_semantics.proofs.Tests.{and-left, and-right}
use Rattle.ess_repr_laws.specs.StructureParts.{Shape, Terms, add_ex, and_ex, upto, next_ex, rise_ex, use_ex, first_ex, on_axes}
use Rattle.ess_repr_laws.specs.Structure.{shapes, structure}
use Rattle.ess_repr_laws.specs.StructureMeaning.{Number, Bound, M, Placed, axes_members, on_members, slot_numbers}
use Rattle.ess_repr_laws.proofs.Behind.{behind-append}
use Rattle.ess_repr_laws.proofs.CanonicalPlaces.{AllOf}
use Rattle.ess_repr_laws.proofs.CellsOfOneChild.{one_child}
use Rattle.ess_repr_laws.proofs.StructureFits.{Fit}
use Rattle.ess_repr_laws.proofs.StructureLayers.{all-alike, used_part, zero_part}
use Rattle.ess_repr_laws.proofs.StructureOf.{StructureOf}
use Rattle.ess_repr_laws.proofs.StructureRows.{Steady, all_codes, less-means, at-most-means, There, steady-name}
use Rattle.ess_repr_laws.proofs.StructureSlotted.{slots-placed, slot-there, slot-means}
use Rattle.ess_repr_laws.proofs.StructureUse.{Slots, first-means, use-means, next-steady, places-numbers}
use Rattle.ess_repr_laws.proofs.CanonicalForms.{right}
use Rattle.ess_repr_laws.proofs.CellDomains.{axes-wide}

-- Items whose cell is a truth value are chosen, and each of these is one whose cell is true.
pub chosen-found : {A : Type 0} (ps : List A) (f : A → Option ℤ) → AllOf ps (λ j. is_some_and (f j) (is_cell booleans) ≡ true) →
    (ys : List A) × (chosen ps f ≡ Some ys) × ((p : A → Bool) → list_all (λ j. not (is_some_and (f j) (same_int (pos 1))) || p j) ps ≡ true → AllOf ys (λ j. p j ≡ true))
chosen-found [] f h = ([], refl, λ p x. tt)
chosen-found {A} (j ∷ ps) f h = go (f j) refl h.0 (chosen-found ps f h.1)
  where
    Found : Type 0
    Found = (ys : List A) × (chosen (j ∷ ps) f ≡ Some ys) × ((p : A → Bool) → list_all (λ j. not (is_some_and (f j) (same_int (pos 1))) || p j) (j ∷ ps) ≡ true → AllOf ys (λ j. p j ≡ true))

    Rest : Type 0
    Rest = (ys : List A) × (chosen ps f ≡ Some ys) × ((p : A → Bool) → list_all (λ j. not (is_some_and (f j) (same_int (pos 1))) || p j) ps ≡ true → AllOf ys (λ j. p j ≡ true))

    bit : (z : ℤ) → f j ≡ Some z → (b : Bool) → same_int z (pos 0) ≡ b → b || same_int z (pos 1) ≡ true → Rest → Found
    bit z e true s o r = (
      r.0,
      ap (λ o. and_then (and_then o truth_of) (λ b. option_map (λ ys. if b then j ∷ ys else ys) (chosen ps f))) (e ∙ ap Some (same_int-equal z (pos 0) s)) ∙ ap (option_map (λ ys. ys)) r.1,
      λ p x. r.2 p (and-right (not (is_some_and (f j) (same_int (pos 1))) || p j) (list_all (λ j. not (is_some_and (f j) (same_int (pos 1))) || p j) ps) x),
    )
    bit z e false s o r =
        let c : f j ≡ Some (pos 1) = e ∙ ap Some (same_int-equal z (pos 1) o) in (
          j ∷ r.0,
          ap (λ o. and_then (and_then o truth_of) (λ b. option_map (λ ys. if b then j ∷ ys else ys) (chosen ps f))) c ∙ ap (option_map (λ ys. j ∷ ys)) r.1,
          λ p x. (
            ap (λ o. not (is_some_and o (same_int (pos 1))) || p j) (sym c) ∙ and-left (not (is_some_and (f j) (same_int (pos 1))) || p j) (list_all (λ j. not (is_some_and (f j) (same_int (pos 1))) || p j) ps) x,
            r.2 p (and-right (not (is_some_and (f j) (same_int (pos 1))) || p j) (list_all (λ j. not (is_some_and (f j) (same_int (pos 1))) || p j) ps) x),
          ),
        )

    go : (o : Option ℤ) → f j ≡ o → is_some_and o (is_cell booleans) ≡ true → Rest → Found
    go None e c r = cc
    go (Some z) e c r = bit z e (same_int z (pos 0)) refl c r

module _ (env0 : Env) (q : ℕ → Text) (q-apart : (m l : ℕ) → l < m → same_text (q m) (q l) ≡ false) where
  -- Slots rise, or rise weakly.
  rise-means : (distinct : Bool) (l : ℕ) (ss : List Shape) (vsss : List (List (List Value))) (ts : Tables) (is js : Exs) (i j : List ℤ) (bs : Bound env0 q q-apart) →
      Placed env0 q q-apart ss vsss ts → There env0 q q-apart ss vsss ts i → There env0 q q-apart ss vsss ts j → Steady env0 q q-apart l is i bs → Steady env0 q q-apart l js j bs →
      meaning (rise_ex q distinct l ss is js) (M env0 q q-apart bs) ≡ Some (truth (in_order distinct (rows (all_codes env0 q q-apart vsss) (behind i (cells_of ts))) (rows (all_codes env0 q q-apart vsss) (behind j (cells_of ts)))))
  rise-means true l ss vsss ts is js i j bs p a b c d = less-means env0 q q-apart l ss vsss ts is js i j bs p a b c d
  rise-means false l ss vsss ts is js i j bs p a b c d = at-most-means env0 q q-apart l ss vsss ts is js i j bs p a b c d

module _ (env0 : Env) (q : ℕ → Text) (q-apart : (m l : ℕ) → l < m → same_text (q m) (q l) ≡ false) (terms : Terms)
    (r : Repr) (d : Dom) (e : Domain) (child : StructureOf env0 q q-apart terms r d e) (size : Ex) (S : ℕ) (sl : (bs : Bound env0 q q-apart) → Number size (M env0 q q-apart bs) (pos S))
    (k : ReprKind) (D : Domain) (own : List OwnTable) (u : Use) (distinct : Bool) (ct : Value → List (Option Value)) (ot : Value → List (Option Slot) → Tables) (b : Cells → List (List Value) → Option Value) (ic : Cells → List (List Value) → Bool) (td : Cells → Bool) where
  abbrev L : Layer
  L = one_child k r D e own (one_to S ∷ []) u true distinct ct ot b ic td

  abbrev bs0 : Axes
  bs0 = one_to S ∷ []

  -- What is asked of slots, but that those in use stand first.
  abbrev pub used_asked : Cells → Cells → Bool
  used_asked mine inner =
      used_part r e (right r e child.covered) (axes-wide r e child.covered) k D own bs0 u true distinct ct ot b ic td mine inner
      && (slots_rise L mine (axes_of r e) inner && zero_part r e (right r e child.covered) (axes-wide r e child.covered) k D own bs0 u true distinct ct ot b ic td mine inner)

  -- What is asked of slots that rise.
  abbrev pub sorted_asked : Cells → Cells → Bool
  sorted_asked mine inner = in_use_first L mine && used_asked mine inner

  -- The constraints of slots of which those in use stand first and rise mean that this is so, each.
  pub parts-mean : (out : Bool) (ns : List Text) (ts : Tables) (l : ℕ) (is : Exs) (i : List ℤ) (bs : Bound env0 q q-apart)
      (p : Placed env0 q q-apart (map (on_axes (upto size ∷ [])) (shapes q terms r d ns)) (on_members (slot_numbers S) (axes_members r e)) ts)
      (c : Fit (under (one_to S ∷ []) (declarations_below out r e) ++ []) (behind i (cells_of ts))) → Steady env0 q q-apart l is i bs → (mine : Cells) (here next : Ex) →
      is_used u mine (pos (S + 1) ∷ []) ≡ false →
      ((j : ℕ) → 1 ≤ j → j ≤ S → meaning here (M env0 q q-apart ((l, number (pos j)) ∷ bs)) ≡ Some (truth (is_used u mine (pos j ∷ [])))) →
      ((j : ℕ) → 1 ≤ j → j + 1 ≤ S → meaning next (M env0 q q-apart ((l, number (pos j)) ∷ bs)) ≡ Some (truth (is_used u mine (pos (j + 1) ∷ [])))) →
      (meaning (first_ex q l size here next) (M env0 q q-apart bs) ≡ Some (truth (in_use_first L mine))) ×
      (meaning (use_ex q l size here next (rise_ex q distinct (suc l) (shapes q terms r d ns) (add_ex is (name_ex (q l))) (add_ex is (next_ex q l))) (shapes q terms r d ns) is
      (structure q terms r d ns (suc l) (add_ex is (name_ex (q l))))) (M env0 q q-apart bs) ≡ Some (truth (used_asked mine (behind i (cells_of ts)))))
  parts-mean out ns ts l is i bs p c st mine here next ends hh hn = (
    first-means env0 q q-apart l size here next rise ss vsss ts is i bs part S U X P v ∙ ap (λ b. Some (truth b)) (sym (places-numbers S (λ js. not (is_used u mine (next_slot js)) || is_used u mine js))),
    use-means env0 q q-apart l size here next rise ss vsss ts is i bs part S U X P v ∙ ap (λ b. Some (truth b)) (sym all),
  )
    where
      inner : Cells
      inner = behind i (cells_of ts)

      vsss : List (List (List Value))
      vsss = axes_members r e

      ss : List Shape
      ss = shapes q terms r d ns

      part : Ex
      part = structure q terms r d ns (suc l) (add_ex is (name_ex (q l)))

      rise : Ex
      rise = rise_ex q distinct (suc l) (shapes q terms r d ns) (add_ex is (name_ex (q l))) (add_ex is (next_ex q l))

      U : ℤ → Bool
      U j = is_used u mine (j ∷ [])

      P : ℤ → Bool
      P j = canonical r e (behind (i ++ (j ∷ [])) (cells_of ts))

      X : ℤ → Bool
      X j = in_order distinct (rows (all_codes env0 q q-apart (axes_members r e)) (behind (i ++ (j ∷ [])) (cells_of ts))) (rows (all_codes env0 q q-apart (axes_members r e)) (behind (i ++ ((j +ℤ pos 1) ∷ [])) (cells_of ts)))

      Z : ℤ → Bool
      Z j = are_zero (all_codes env0 q q-apart (axes_members r e)) (behind (i ++ (j ∷ [])) (cells_of ts))

      placed : Placed env0 q q-apart (shapes q terms r d ns) (axes_members r e) ts
      placed = slots-placed env0 q q-apart terms r d e child size S out ns ts i p c

      v : Slots env0 q q-apart l size here next rise ss vsss ts is i bs part S U X P
      v = record {
        size_is = sl bs;
        size_at = λ j. sl ((l, number j) ∷ bs);
        ends = ends;
        here_is = hh;
        next_is = hn;
        rise_is = λ j x y.
            rise-means env0 q q-apart distinct (suc l) (shapes q terms r d ns) (axes_members r e) ts (add_ex is (name_ex (q l))) (add_ex is (next_ex q l)) (i ++ (pos j ∷ [])) (i ++ (pos (j + 1) ∷ [])) ((l, number (pos j)) ∷ bs) placed
            (slot-there env0 q q-apart terms r d e child size S out ns ts i p c j x (omega arith)) (slot-there env0 q q-apart terms r d e child size S out ns ts i p c (j + 1) (omega arith) y)
            (steady-name env0 q q-apart l (number (pos j)) is i bs st) (next-steady env0 q q-apart l (pos j) is i bs st);
        placed = placed;
        there = slot-there env0 q q-apart terms r d e child size S out ns ts i p c;
        steady = st;
        inside = slot-means env0 q q-apart terms r d e child size S out ns ts i p c l is bs st;
      }

      three : (b b' c c' d d' : Bool) → b ≡ b' → c ≡ c' → d ≡ d' → b && (c && d) ≡ b' && (c' && d')
      three b b' c c' d d' q r s = ap (λ x. x && (c && d)) q ∙ ap (λ x. b' && (x && d)) r ∙ ap (λ x. b' && (c' && x)) s

      B : ℤ → Cells
      B j = behind (j ∷ []) (behind i (cells_of ts))

      at : (j : ℤ) → B j ≡ behind (i ++ (j ∷ [])) (cells_of ts)
      at j = sym (behind-append i (j ∷ []) (cells_of ts))

      all : used_asked mine inner ≡ list_all (λ j. not (U j) || P j) (one_to S) && (list_all (λ j. not (U (j +ℤ pos 1)) || X j) (one_to S) && list_all (λ j. U j || Z j) (one_to S))
      all =
          three (list_all (λ js. not (is_used u mine js) || canonical r e (behind js inner)) (lists_of bs0)) (list_all (λ j. not (U j) || P j) (one_to S))
          (slots_rise L mine (axes_of r e) inner) (list_all (λ j. not (U (j +ℤ pos 1)) || X j) (one_to S)) (list_all (λ js. is_used u mine js || are_zero (axes_of r e) (behind js inner)) (lists_of bs0)) (list_all (λ j. U j || Z j) (one_to S))
          (places-numbers S (λ js. not (is_used u mine js) || canonical r e (behind js inner))
          ∙ all-alike (one_to S) (λ j. not (U j) || canonical r e (B j)) (λ j. not (U j) || P j) (λ j. ap (λ x. not (U j) || canonical r e x) (at j)))
          (places-numbers S (λ js. not (is_used u mine (next_slot js)) || in_order distinct (rows (axes_of r e) (behind js inner)) (rows (axes_of r e) (behind (next_slot js) inner)))
          ∙ all-alike (one_to S) (λ j. not (U (j +ℤ pos 1)) || in_order distinct (rows (axes_of r e) (B j)) (rows (axes_of r e) (B (j +ℤ pos 1)))) (λ j. not (U (j +ℤ pos 1)) || X j)
          (λ j. ap (λ a. not (U (j +ℤ pos 1)) || in_order distinct (rows a (B j)) (rows a (B (j +ℤ pos 1)))) (sym child.axes)
          ∙ ap (λ x. not (U (j +ℤ pos 1)) || in_order distinct (rows (all_codes env0 q q-apart (axes_members r e)) x) (rows (all_codes env0 q q-apart (axes_members r e)) (B (j +ℤ pos 1)))) (at j)
          ∙ ap (λ x. not (U (j +ℤ pos 1)) || in_order distinct (rows (all_codes env0 q q-apart (axes_members r e)) (behind (i ++ (j ∷ [])) (cells_of ts))) (rows (all_codes env0 q q-apart (axes_members r e)) x)) (at (j +ℤ pos 1))))
          (places-numbers S (λ js. is_used u mine js || are_zero (axes_of r e) (behind js inner))
          ∙ all-alike (one_to S) (λ j. U j || are_zero (axes_of r e) (B j)) (λ j. U j || Z j)
          (λ j. ap (λ a. U j || are_zero a (B j)) (sym child.axes) ∙ ap (λ x. U j || are_zero (all_codes env0 q q-apart (axes_members r e)) x) (at j)))

  -- The constraint of slots of which those in use stand first and rise means that this is so.
  pub sorted-means : (out : Bool) (ns : List Text) (ts : Tables) (l : ℕ) (is : Exs) (i : List ℤ) (bs : Bound env0 q q-apart)
      (p : Placed env0 q q-apart (map (on_axes (upto size ∷ [])) (shapes q terms r d ns)) (on_members (slot_numbers S) (axes_members r e)) ts)
      (c : Fit (under (one_to S ∷ []) (declarations_below out r e) ++ []) (behind i (cells_of ts))) → Steady env0 q q-apart l is i bs → (mine : Cells) (here next : Ex) →
      is_used u mine (pos (S + 1) ∷ []) ≡ false →
      ((j : ℕ) → 1 ≤ j → j ≤ S → meaning here (M env0 q q-apart ((l, number (pos j)) ∷ bs)) ≡ Some (truth (is_used u mine (pos j ∷ [])))) →
      ((j : ℕ) → 1 ≤ j → j + 1 ≤ S → meaning next (M env0 q q-apart ((l, number (pos j)) ∷ bs)) ≡ Some (truth (is_used u mine (pos (j + 1) ∷ [])))) →
      meaning (and_ex (first_ex q l size here next) (use_ex q l size here next (rise_ex q distinct (suc l) (shapes q terms r d ns) (add_ex is (name_ex (q l))) (add_ex is (next_ex q l))) (shapes q terms r d ns) is
      (structure q terms r d ns (suc l) (add_ex is (name_ex (q l)))))) (M env0 q q-apart bs) ≡ Some (truth (sorted_asked mine (behind i (cells_of ts))))
  sorted-means out ns ts l is i bs p c st mine here next ends hh hn =
      let x = parts-mean out ns ts l is i bs p c st mine here next ends hh hn in
      and-means (M env0 q q-apart bs) (first_ex q l size here next) (use_ex q l size here next (rise_ex q distinct (suc l) (shapes q terms r d ns) (add_ex is (name_ex (q l))) (add_ex is (next_ex q l))) (shapes q terms r d ns) is
      (structure q terms r d ns (suc l) (add_ex is (name_ex (q l))))) (in_use_first L mine) (used_asked mine (behind i (cells_of ts))) x.0 x.1
