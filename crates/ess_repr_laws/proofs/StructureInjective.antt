-- The constraint that values of one cell each differ means that a function is injective.
use Rattle.std.proofs.Common.{◌≡◌, refl, sym, ap, ◌∙◌, subst, ℕ, ◌<◌, Bool, true, false, List, [], ◌∷◌, ◌++◌, map, length, ℤ, pos, Option, Some, None, option_map, append-nil}
use Rattle.std.specs.List.{list_all}
use Rattle.ess_semantics.specs.declared.words.Fun.{Fun}
use Rattle.ess_semantics.specs.Lists.{each_of, or_default, is_some_and}
use Rattle.ess_semantics.specs.Values.{Text, Value, truth}
use Rattle.ess_semantics.specs.Order.{same_text}
use Rattle.ess_semantics.specs.Names.{look}
use Rattle.ess_semantics.specs.Trees.{Repr, word, Exs, cell_ex, comp_ex, Dom, fun1}
use Rattle.ess_semantics.specs.Domains.{Domain, lists_of}
use Rattle.ess_semantics.specs.Attributes.{is_injective}
use Rattle.ess_semantics.specs.Operators.{all_different, list_value, false_where_undefined, value_of_node}
use Rattle.ess_semantics.specs.Tables.{Table, Tables, cell_at}
use Rattle.ess_semantics.specs.Cells.{Axes, behind, cells_of}
use Rattle.ess_semantics.specs.FunctionLayers.{with_arguments}
use Rattle.ess_semantics.specs.Representations.{value_of_cells}
use Rattle.ess_semantics.specs.CanonicalTest.{canonical}
use Rattle.ess_semantics.specs.Meaning.{Env, is_bool_dom, cell_value, meaning}
use Rattle.ess_semantics.proofs.Orders.{to_list-of_list}
use Rattle.ess_semantics.proofs.Tests.{and-both}
use Rattle.ess_repr_laws.specs.StructureParts.{Terms, row_gens, row_index, level_behind, first_name}
use Rattle.ess_repr_laws.specs.FunctionParts.{differ_ex}
use Rattle.ess_repr_laws.specs.Structure.{shapes}
use Rattle.ess_repr_laws.specs.StructureMeaning.{fit, Bound, M, AxesAre, Placed, axes_members}
use Rattle.ess_repr_laws.specs.Rooms.{Covered}
use Rattle.ess_repr_laws.proofs.CanonicalPlaces.{AllOf, all-of-map}
use Rattle.ess_repr_laws.proofs.DifferentCells.{atom, numbers_differ, cells-differ, values-differ, place-values}
use Rattle.ess_repr_laws.proofs.StructurePlaces.{ValueAt, places-run}
use Rattle.ess_repr_laws.proofs.StructureRows.{Steady, There, codes}
use Rattle.ess_repr_laws.proofs.StructureUse.{cell-means}

module _ (env0 : Env) (q : ℕ → Text) (q-apart : (m l : ℕ) → l < m → same_text (q m) (q l) ≡ false) (terms : Terms)
    (l : ℕ) (as' : List Dom) (uss : List (List Value)) (bs0 : Axes) (same : codes env0 q q-apart uss ≡ bs0) (ax : AxesAre env0 q q-apart as' uss) (is : Exs) (i : List ℤ) (bs : Bound env0 q q-apart)
    (st : Steady env0 q q-apart l is i bs) where
  module _ (b : Bool) (n : Text) (t : Table) (ht : look env0.cells n ≡ Some t) where
    -- The number at a place.
    abbrev pub number_at : List ℤ → ℤ
    number_at js = or_default (cell_at t (i ++ (js ++ []))) (pos 0)

    place-cell : (js : List ℤ) → is_some_and (cell_at t ((i ++ js) ++ [])) (fit b) ≡ true → (z : ℤ) × (cell_at t (i ++ js) ≡ Some z) × (fit b z ≡ true) × (number_at js ≡ z)
    place-cell js h = go (cell_at t (i ++ js)) refl (ap (λ k. is_some_and (cell_at t k) (fit b)) (sym (append-nil (i ++ js))) ∙ h)
      where
        go : (o : Option ℤ) → cell_at t (i ++ js) ≡ o → is_some_and (cell_at t (i ++ js)) (fit b) ≡ true → (z : ℤ) × (cell_at t (i ++ js) ≡ Some z) × (fit b z ≡ true) × (number_at js ≡ z)
        go None e h = let c : false ≡ true = sym (ap (λ o. is_some_and o (fit b)) e) ∙ h in cc
        go (Some z) e h = (
          z,
          e,
          sym (ap (λ o. is_some_and o (fit b)) e) ∙ h,
          ap (λ k. or_default (cell_at t (i ++ k)) (pos 0)) (append-nil js) ∙ ap (λ o. or_default o (pos 0)) e,
        )

    -- The cells at the places differ.
    pub differ-means : AllOf (lists_of (codes env0 q q-apart uss)) (λ js. is_some_and (cell_at t ((i ++ js) ++ [])) (fit b) ≡ true) →
        meaning (fun1 true Fun.AllDiff (comp_ex (cell_ex b n (row_index q l as' is)) (row_gens q l as'))) (M env0 q q-apart bs) ≡ Some (truth (numbers_differ (map number_at (lists_of (codes env0 q q-apart uss)))))
    differ-means th =
        ap (λ o. false_where_undefined true (value_of_node (word Fun.AllDiff) (option_map list_value o ∷ [])))
        (places-run env0 q q-apart l as' uss is i bs (cell_ex b n (row_index q l as' is)) (λ js. cell_value b (number_at js)) ax st
        (all-of-map (lists_of (codes env0 q q-apart uss)) (λ js. is_some_and (cell_at t ((i ++ js) ++ [])) (fit b) ≡ true)
        (λ js. ValueAt env0 q q-apart (level_behind l as') (row_index q l as' is) (cell_ex b n (row_index q l as' is)) (i ++ js) (cell_value b (number_at js)))
        (λ js h. λ cs s. let p = place-cell js h in cell-means env0 q q-apart b n t (row_index q l as' is) (i ++ js) cs p.0 ht (s [] tt) p.1 ∙ ap (λ z. Some (cell_value b z)) (sym p.3)) th))
        ∙ ap (λ vs. Some (truth (all_different vs))) (to_list-of_list (map (λ js. cell_value b (number_at js)) (lists_of (codes env0 q q-apart uss))) ∙ under (lists_of (codes env0 q q-apart uss)))
        ∙ ap (λ c. Some (truth c)) (cells-differ b (map number_at (lists_of (codes env0 q q-apart uss))) (fits (lists_of (codes env0 q q-apart uss)) th))
      where
        under : (ps : List (List ℤ)) → map (λ js. cell_value b (number_at js)) ps ≡ map (cell_value b) (map number_at ps)
        under [] = refl
        under (p ∷ ps) = ap (λ vs. cell_value b (number_at p) ∷ vs) (under ps)

        fits : (ps : List (List ℤ)) → AllOf ps (λ js. is_some_and (cell_at t ((i ++ js) ++ [])) (fit b) ≡ true) → list_all (fit b) (map number_at ps) ≡ true
        fits [] h = refl
        fits (p ∷ ps) h = let x = place-cell p h.0 in and-both (fit b (number_at p)) (list_all (fit b) (map number_at ps)) (ap (fit b) x.3 ∙ x.2) (fits ps h.1)

  module _ (c : Dom) (y : Domain) (ns : List Text) (ts : Tables) where
    -- The constraint that the values differ says whether they do.
    abbrev pub Differs : Repr → Type 0
    Differs r =
        (b : Bool) × (meaning (differ_ex q l as' (shapes q terms r c ns) is) (M env0 q q-apart bs) ≡ Some (truth b)) ×
        ((xs vs : List Value) → length vs ≡ length xs → AllOf (lists_of bs0) (λ j. canonical r y (behind j (behind i (cells_of ts))) ≡ true) →
        each_of (lists_of bs0) (λ j. value_of_cells r y (behind j (behind i (cells_of ts)))) ≡ Some vs →
        is_injective (with_arguments xs vs) ≡ b)

    abbrev Given : Repr → Type 0
    Given r = Covered r y → Placed env0 q q-apart (shapes q terms r c ns) (axes_members r y) ts → AllOf (lists_of bs0) (λ js. There env0 q q-apart (shapes q terms r c ns) (axes_members r y) ts (i ++ js)) → Differs r

    differs-atoms : (ts' : Tables) → ts' ≡ ts → Given atom
    differs-atoms [] e a p th = absurd (subst (λ ts. Placed env0 q q-apart (shapes q terms atom c ns) ([] ∷ []) ts) (sym e) p)
    differs-atoms (t ∷ u ∷ us) e a p th = let z = subst (λ ts. Placed env0 q q-apart (shapes q terms atom c ns) ([] ∷ []) ts) (sym e) p in absurd z.2
    differs-atoms (t ∷ []) e a p th =
        subst (λ ts. Covered atom y → Placed env0 q q-apart (shapes q terms atom c ns) ([] ∷ []) ts → AllOf (lists_of bs0) (λ js. There env0 q q-apart (shapes q terms atom c ns) ([] ∷ []) ts (i ++ js)) →
        (b : Bool) × (meaning (differ_ex q l as' (shapes q terms atom c ns) is) (M env0 q q-apart bs) ≡ Some (truth b)) ×
        ((xs vs : List Value) → length vs ≡ length xs → AllOf (lists_of bs0) (λ j. canonical atom y (behind j (behind i (cells_of ts))) ≡ true) →
        each_of (lists_of bs0) (λ j. value_of_cells atom y (behind j (behind i (cells_of ts)))) ≡ Some vs →
        is_injective (with_arguments xs vs) ≡ b)) e
        (λ a p th. (
          numbers_differ (map (number_at (is_bool_dom c) (first_name ns) t p.0) (lists_of bs0)),
          differ-means (is_bool_dom c) (first_name ns) t p.0
              (subst (λ a. AllOf (lists_of a) (λ js. is_some_and (cell_at t ((i ++ js) ++ [])) (fit (is_bool_dom c)) ≡ true)) (sym same)
              (all-of-map (lists_of bs0) (λ js. There env0 q q-apart (shapes q terms atom c ns) ([] ∷ []) (t ∷ []) (i ++ js)) (λ js. is_some_and (cell_at t ((i ++ js) ++ [])) (fit (is_bool_dom c)) ≡ true) (λ js x. x.0) th))
              ∙ ap (λ a. Some (truth (numbers_differ (map (number_at (is_bool_dom c) (first_name ns) t p.0) (lists_of a))))) same,
          λ xs vs n k v.
              let z = place-values y a (λ js. cell_at t (i ++ js)) (lists_of bs0) vs k v in
              values-differ y a xs vs n z.0 ∙ ap numbers_differ z.1,
        )) a p th

    -- So for a function whose values are atoms.
    pub differs : (r : Repr) → r ≡ atom → Given r
    differs r one = subst Given (sym one) (differs-atoms ts refl)
