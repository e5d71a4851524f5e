-- The structure constraint of slots of which those in use rise means the test of each slot.
use Rattle.std.proofs.Common.{◌≡◌, refl, sym, ap, ◌∙◌, ℕ, zero, suc, ◌+◌, ◌≤◌, ◌<◌, Bool, true, false, ◌&&◌, ◌||◌, not, List, [], ◌∷◌, ◌++◌, ℤ, pos, ◌+ℤ◌, Option, Some, None, option_map, arith}
use Rattle.std.specs.List.{list_all}
use Rattle.ess_semantics.specs.declared.words.Op1.{Op1}
use Rattle.ess_semantics.specs.declared.words.Op2.{Op2}
use Rattle.ess_semantics.specs.Lists.{is_some_and}
use Rattle.ess_semantics.specs.Values.{Text, Value, number, truth}
use Rattle.ess_semantics.specs.Order.{same_int, same_text}
use Rattle.ess_semantics.specs.Names.{look}
use Rattle.ess_semantics.specs.Numbers.{run_from, one_to}
use Rattle.ess_semantics.specs.Trees.{both_ends, Ex, Exs, number_ex, name_ex, cell_ex, ex1}
use Rattle.ess_semantics.specs.Domains.{booleans, integers, lists_of}
use Rattle.ess_semantics.specs.Tables.{Table, Tables, cell_at, is_cell}
use Rattle.ess_semantics.specs.Cells.{behind, cells_of, are_zero}
use Rattle.ess_semantics.specs.Meaning.{Env, cell_in, cell_value, indices, members_in, spans_of, meaning, meanings}
use Rattle.ess_semantics.specs.Operators.{false_where_undefined}
use Rattle.ess_semantics.proofs.Connectives.{and-means, not-means, implies-means, binary-means}
use Rattle.ess_repr_laws.specs.StructureParts.{Shape, add_ex, and_ex, implies_ex, upto, zeros_ex, over_slots, each_pair, next_ex, use_ex, first_ex}
use Rattle.ess_repr_laws.specs.StructureMeaning.{Number, Bound, M, AxesAre, Placed, slot_numbers}
use Rattle.ess_repr_laws.proofs.ExactCells.{same_int-turned}
use Rattle.ess_repr_laws.proofs.SlotsUsed.{as_place, all-map, each-run, slots-are}
use Rattle.ess_repr_laws.proofs.StructureOccurrences.{bit-one}
use Rattle.ess_repr_laws.proofs.StructureRows.{From, Steady, There, all_codes, looked, steady-more, steady-name, steady-add, zeros-means}
use Rattle.ess_repr_laws.proofs.StructureSlots.{members-ones, over-slots-means, each-pair-means}

-- ---- tests of numbers in a row

-- Tests that agree on each number of a run.
pub run-alike : (f g : ℤ → Bool) (a n : ℕ) → ((k : ℕ) → a ≤ k → k < a + n → f (pos k) ≡ g (pos k)) → list_all f (run_from a n) ≡ list_all g (run_from a n)
run-alike f g a zero h = refl
run-alike f g a (suc n) h =
    ap (λ b. b && list_all f (run_from (suc a) n)) (h a (omega arith) (omega arith))
    ∙ ap (λ b. g (pos a) && b) (run-alike f g (suc a) n (λ k x y. h k (omega arith) (omega arith)))

-- A test of places as one of numbers.
pub places-numbers : (s : ℕ) (f : List ℤ → Bool) → list_all f (lists_of (one_to s ∷ [])) ≡ list_all (λ k. f (k ∷ [])) (one_to s)
places-numbers s f = ap (list_all f) (slots-are (one_to s)) ∙ all-map f as_place (one_to s)

module _ (env0 : Env) (q : ℕ → Text) (q-apart : (m l : ℕ) → l < m → same_text (q m) (q l) ≡ false) where
  -- The axis of slots has their numbers.
  pub slots-axis : (size : Ex) (s : ℕ) → ((bs : Bound env0 q q-apart) → Number size (M env0 q q-apart bs) (pos s)) → AxesAre env0 q q-apart (upto size ∷ []) (slot_numbers s)
  slots-axis size s h = (λ bs. ap (λ o. members_in (option_map integers (spans_of (both_ends ∷ []) (Some (number (pos 1)) ∷ o ∷ [])))) (h bs) ∙ ap Some (members-ones s), tt)

  -- A cell that is there.
  pub cell-means : (b : Bool) (n : Text) (t : Table) (is : Exs) (js : List ℤ) (bs : Bound env0 q q-apart) (z : ℤ) → look env0.cells n ≡ Some t → indices (meanings is (M env0 q q-apart bs)) ≡ Some js →
      cell_at t js ≡ Some z → meaning (cell_ex b n is) (M env0 q q-apart bs) ≡ Some (cell_value b z)
  cell-means b n t is js bs z ht hi c =
      ap (λ o. false_where_undefined b (cell_in b o (indices (meanings is (M env0 q q-apart bs))))) ht ∙ ap (λ o. false_where_undefined b (cell_in b (Some t) o)) hi
      ∙ ap (λ o. false_where_undefined b (option_map (cell_value b) o)) c ∙ settled b z
    where
      settled : (b : Bool) (z : ℤ) → false_where_undefined b (Some (cell_value b z)) ≡ Some (cell_value b z)
      settled true z = refl
      settled false z = refl

  -- A flag.
  pub flag-means : (n : Text) (t : Table) (is : Exs) (js : List ℤ) (bs : Bound env0 q q-apart) → look env0.cells n ≡ Some t → indices (meanings is (M env0 q q-apart bs)) ≡ Some js →
      is_some_and (cell_at t js) (is_cell booleans) ≡ true → meaning (cell_ex true n is) (M env0 q q-apart bs) ≡ Some (truth (is_some_and (cell_at t js) (same_int (pos 1))))
  flag-means n t is js bs ht hi ok = go (cell_at t js) refl ok
    where
      go : (o : Option ℤ) → cell_at t js ≡ o → is_some_and o (is_cell booleans) ≡ true → meaning (cell_ex true n is) (M env0 q q-apart bs) ≡ Some (truth (is_some_and (cell_at t js) (same_int (pos 1))))
      go None e h = cc
      go (Some z) e h =
          cell-means true n t is js bs z ht hi e ∙ ap (λ b. Some (truth b)) (bit-one z h ∙ same_int-turned z (pos 1) ∙ ap (λ o. is_some_and o (same_int (pos 1))) (sym e))

  -- The index lists of a slot and of the next one.
  pub here-index : (l : ℕ) (k : ℤ) (is : Exs) (i : List ℤ) (bs : Bound env0 q q-apart) → Steady env0 q q-apart l is i bs →
      indices (meanings (add_ex is (name_ex (q l))) (M env0 q q-apart ((l, number k) ∷ bs))) ≡ Some (i ++ (k ∷ []))
  here-index l k is i bs st = steady-name env0 q q-apart l (number k) is i bs st [] tt

  -- The number of the next slot, under further names.
  pub next-number : (l : ℕ) (k : ℤ) (bs cs : Bound env0 q q-apart) → From env0 q q-apart (suc l) cs → Number (next_ex q l) (M env0 q q-apart (cs ++ ((l, number k) ∷ bs))) (k +ℤ pos 1)
  next-number l k bs cs f = binary-means (M env0 q q-apart (cs ++ ((l, number k) ∷ bs))) false Op2.Plus (name_ex (q l)) (number_ex (pos 1)) (number k) (number (pos 1)) (looked env0 q q-apart l (number k) bs cs f) refl

  -- The next slot's index list.
  pub next-steady : (l : ℕ) (k : ℤ) (is : Exs) (i : List ℤ) (bs : Bound env0 q q-apart) → Steady env0 q q-apart l is i bs →
      Steady env0 q q-apart (suc l) (add_ex is (next_ex q l)) (i ++ ((k +ℤ pos 1) ∷ [])) ((l, number k) ∷ bs)
  next-steady l k is i bs st =
      steady-add env0 q q-apart (suc l) (next_ex q l) (number (k +ℤ pos 1)) is i ((l, number k) ∷ bs) (steady-more env0 q q-apart l (number k) is i bs st) (λ cs f. next-number l k bs cs f)

  -- What is known of the parts of the constraint of s slots: U says which slots are in use, X that a slot and the next one rise.
  pub record Slots (l : ℕ) (size here next rise : Ex) (ss : List Shape) (vsss : List (List (List Value))) (ts : Tables) (is : Exs) (i : List ℤ) (bs : Bound env0 q q-apart) (part : Ex) (s : ℕ) (U X P : ℤ → Bool) : Type 0 where
    pub size_is : Number size (M env0 q q-apart bs) (pos s)
    pub size_at : (k : ℤ) → Number size (M env0 q q-apart ((l, number k) ∷ bs)) (pos s)
    pub ends : U (pos (s + 1)) ≡ false
    pub here_is : (k : ℕ) → 1 ≤ k → k ≤ s → meaning here (M env0 q q-apart ((l, number (pos k)) ∷ bs)) ≡ Some (truth (U (pos k)))
    pub next_is : (k : ℕ) → 1 ≤ k → k + 1 ≤ s → meaning next (M env0 q q-apart ((l, number (pos k)) ∷ bs)) ≡ Some (truth (U (pos (k + 1))))
    pub rise_is : (k : ℕ) → 1 ≤ k → k + 1 ≤ s → meaning rise (M env0 q q-apart ((l, number (pos k)) ∷ bs)) ≡ Some (truth (X (pos k)))
    pub placed : Placed env0 q q-apart ss vsss ts
    pub there : (k : ℕ) → 1 ≤ k → k ≤ s → There env0 q q-apart ss vsss ts (i ++ (pos k ∷ []))
    pub steady : Steady env0 q q-apart l is i bs
    pub inside : (k : ℕ) → 1 ≤ k → k ≤ s → meaning part (M env0 q q-apart ((l, number (pos k)) ∷ bs)) ≡ Some (truth (P (pos k)))

  module _ (l : ℕ) (size here next rise : Ex) (ss : List Shape) (vsss : List (List (List Value))) (ts : Tables) (is : Exs) (i : List ℤ) (bs : Bound env0 q q-apart) (part : Ex) (s : ℕ) (U X P : ℤ → Bool)
      (v : Slots l size here next rise ss vsss ts is i bs part s U X P) where
    -- a constraint of a slot where the next one is in use
    of-next : (e : Ex) (Y : ℤ → Bool) → ((k : ℕ) → 1 ≤ k → k + 1 ≤ s → meaning e (M env0 q q-apart ((l, number (pos k)) ∷ bs)) ≡ Some (truth (Y (pos k)))) →
        meaning (each_pair q l size (implies_ex next e)) (M env0 q q-apart bs) ≡ Some (truth (list_all (λ k. not (U (k +ℤ pos 1)) || Y k) (one_to s)))
    of-next e Y h =
        each-pair-means env0 q q-apart l size (implies_ex next e) s (λ k. not (U (k +ℤ pos 1)) || Y k) bs v.size_is (ap (λ b. not b || Y (pos s)) v.ends)
        (λ k a x. implies-means (M env0 q q-apart ((l, number (pos k)) ∷ bs)) next e (U (pos (k + 1))) (Y (pos k)) (v.next_is k a x) (h k a x))

    -- The slots in use stand first.
    pub first-means : meaning (first_ex q l size here next) (M env0 q q-apart bs) ≡ Some (truth (list_all (λ k. not (U (k +ℤ pos 1)) || U k) (one_to s)))
    first-means = of-next here U (λ k a b. v.here_is k a (omega arith))

    abbrev Z : ℤ → Bool
    Z k = are_zero (all_codes env0 q q-apart vsss) (behind (i ++ (k ∷ [])) (cells_of ts))

    -- Those in use are canonical and rise, all others hold 0 or false.
    pub use-means : meaning (use_ex q l size here next rise ss is part) (M env0 q q-apart bs)
        ≡ Some (truth (list_all (λ k. not (U k) || P k) (one_to s) && (list_all (λ k. not (U (k +ℤ pos 1)) || X k) (one_to s) && list_all (λ k. U k || Z k) (one_to s))))
    use-means =
        and-means (M env0 q q-apart bs) (over_slots q l size here part) (and_ex rise_part zero_part) (list_all (λ k. not (U k) || P k) (one_to s)) (list_all (λ k. not (U (k +ℤ pos 1)) || X k) (one_to s) && list_all (λ k. U k || Z k) (one_to s))
        (over-slots-means env0 q q-apart l size here part s U P bs v.size_is (each-run _ 1 s (λ k a b. (v.here_is k a (omega arith), λ t. v.inside k a (omega arith)))))
        (and-means (M env0 q q-apart bs) rise_part zero_part (list_all (λ k. not (U (k +ℤ pos 1)) || X k) (one_to s)) (list_all (λ k. U k || Z k) (one_to s)) (of-next rise X v.rise_is)
        (over-slots-means env0 q q-apart l size (ex1 true Op1.Not here) (zeros_ex q (suc l) ss (add_ex is (name_ex (q l)))) s (λ k. not (U k)) Z bs v.size_is
        (each-run _ 1 s (λ k a b. (
          not-means (M env0 q q-apart ((l, number (pos k)) ∷ bs)) here (U (pos k)) (v.here_is k a (omega arith)),
          λ t. zeros-means env0 q q-apart (suc l) ss vsss ts (add_ex is (name_ex (q l))) (i ++ (pos k ∷ [])) ((l, number (pos k)) ∷ bs) v.placed (v.there k a (omega arith))
              (steady-name env0 q q-apart l (number (pos k)) is i bs v.steady),
        )))
        ∙ ap (λ b. Some (truth b)) (run-alike (λ k. not (not (U k)) || Z k) (λ k. U k || Z k) 1 s (λ k x y. not-not (U (pos k)) (Z (pos k))))))
      where
        rise_part : Ex
        rise_part = each_pair q l size (implies_ex next rise)

        zero_part : Ex
        zero_part = over_slots q l size (ex1 true Op1.Not here) (zeros_ex q (suc l) ss (add_ex is (name_ex (q l))))

        not-not : (b c : Bool) → not (not b) || c ≡ b || c
        not-not true c = refl
        not-not false c = refl
