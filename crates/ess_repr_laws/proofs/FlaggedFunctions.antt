-- The structure constraint of a function with flags means what is asked of its layer: where a flag is true that of its value, elsewhere 0
-- or false; its size, and what is asked of its pairs.
use Rattle.std.proofs.Common.{◌≡◌, refl, sym, ap, ◌∙◌, subst, ℕ, ◌<◌, Bool, true, false, ◌&&◌, ◌||◌, not, List, [], ◌∷◌, ◌++◌, map, drop, length, ℤ, pos, Some, option_map}
use Rattle.std.specs.List.{list_all}
use Rattle.ess_semantics.specs.declared.words.Op1.{Op1}
use Rattle.ess_semantics.specs.declared.words.ReprKind.{ReprKind}
use Rattle.ess_semantics.specs.Lists.{each_of, is_some_and}
use Rattle.ess_semantics.specs.Values.{Text, Value, truth, items_of}
use Rattle.ess_semantics.specs.Order.{same_int, same_text}
use Rattle.ess_semantics.specs.Names.{look}
use Rattle.ess_semantics.specs.Trees.{Mark, Repr, repr, no_reprs, more_reprs, Ex, Exs, cell_ex, Dom, ex1}
use Rattle.ess_semantics.specs.Domains.{Attribute, Domain, booleans, functions, members, member_list, lists_of}
use Rattle.ess_semantics.specs.Attributes.{each_holds, is_injective, is_surjective, function_holds, function_attributes_hold, set_attributes_hold}
use Rattle.ess_semantics.specs.Operators.{as_truth}
use Rattle.ess_semantics.specs.declared.words.Key.{Key}
use Rattle.ess_semantics.specs.Collections.{value_at}
use Rattle.ess_semantics.specs.Tables.{Table, Tables, cell_at, is_cell}
use Rattle.ess_semantics.specs.Cells.{Grid, Cells, Axes, behind, cells_of, every_cell, are_zero, row}
use Rattle.ess_semantics.specs.Layers.{only_child, where_flagged, fixed_table, flags_table, always_tidy, chosen, count_true, own_cell}
use Rattle.ess_semantics.specs.FunctionLayers.{partial_layer, function_with, with_arguments}
use Rattle.ess_semantics.specs.Representations.{width, own_width, layer, value_of_cells}
use Rattle.ess_semantics.specs.Declarations.{Declaration, under, declarations_below, axes_of}
use Rattle.ess_semantics.specs.CanonicalTest.{canonical}
use Rattle.ess_semantics.specs.Meaning.{Env, meaning, meanings}
use Rattle.ess_semantics.proofs.Connectives.{and-means, not-means, implies-means}
use Rattle.ess_semantics.proofs.Orders.{to_list-of_list}
use Rattle.ess_semantics.proofs.Tests.{and-both}
use Rattle.ess_repr_laws.specs.StructureParts.{Terms, and_ex, implies_ex, first_name, own_shape, row_index, each_ex, size_ex, keys_ex, true_count_ex, zeros_ex, level_behind, on_axes}
use Rattle.ess_repr_laws.specs.FunctionParts.{bare_function_dom, flag_key_ex, partial_ex}
use Rattle.ess_repr_laws.specs.ViewParts.{view_ex}
use Rattle.ess_repr_laws.specs.Structure.{shapes, structure}
use Rattle.ess_repr_laws.specs.StructureMeaning.{Bound, M, AxesAre, Placed, Attributes, axes_members, on_members, EachFlag, DomainIs, FlagKeyReady}
use Rattle.ess_repr_laws.proofs.Arguments.{Arguments, chosen-map, index-places, cell-index}
use Rattle.ess_repr_laws.proofs.Behind.{behind-append}
use Rattle.ess_repr_laws.proofs.CanonicalForms.{right}
use Rattle.ess_repr_laws.proofs.CanonicalParts.{asked_of}
use Rattle.ess_repr_laws.proofs.CanonicalPlaces.{AllOf, all-of-map, all-of-both}
use Rattle.ess_repr_laws.proofs.CellDomains.{axes-wide}
use Rattle.ess_repr_laws.proofs.CellsOfMembers.{map-long}
use Rattle.ess_repr_laws.proofs.StructureAttributes.{arguments-long}
use Rattle.ess_repr_laws.proofs.StructureFits.{Fit, first-fit}
use Rattle.ess_repr_laws.proofs.StructureKeys.{chosen-total}
use Rattle.ess_repr_laws.proofs.StructureConversions.{flags-means, all-flags, each-flag}
use Rattle.ess_repr_laws.proofs.FunctionViews.{values-members, partial-view, flag-key-settled}
use Rattle.ess_repr_laws.proofs.PairsOfViews.{PairTo, function-pairs, function-attributes-apart, seconds-means, all-taken-means, one-to-one-means}
use Rattle.ess_repr_laws.proofs.ViewsOfCells.{Stands, view-stands}
use Rattle.ess_repr_laws.proofs.StructureLayers.{all-alike, all-two, layer-asked}
use Rattle.ess_repr_laws.proofs.StructureMatrices.{axes-even}
use Rattle.ess_repr_laws.proofs.StructureNumbers.{size-means}
use Rattle.ess_repr_laws.proofs.StructureOccurrences.{true-count-means}
use Rattle.ess_repr_laws.proofs.StructureOf.{StructureOf, child-placed, child-there, child-there-each, child-long, child-means}
use Rattle.ess_repr_laws.proofs.StructurePlaces.{MeansAt, each-means}
use Rattle.ess_repr_laws.proofs.StructureRelations.{arguments-chosen}
use Rattle.ess_repr_laws.proofs.StructureRows.{Steady, There, codes, all_codes, grid_at, zeros-means}
use Rattle.ess_repr_laws.proofs.StructureSortedSlots.{chosen-found}
use Rattle.ess_repr_laws.proofs.StructureUse.{flag-means}

module _ (env0 : Env) (q : ℕ → Text) (q-apart : (m l : ℕ) → l < m → same_text (q m) (q l) ≡ false) (terms : Terms) where
  module _ (K : ReprKind) (r : Repr) (ms : List Mark) (es : Exs) (c : Dom) (ks : List Attribute) (x y : Domain)
      (child : StructureOf env0 q q-apart terms r c y)
      (as' : List Dom) (uss : List (List Value)) (bs0 : Axes) (same : codes env0 q q-apart uss ≡ bs0) (ax : AxesAre env0 q q-apart as' uss)
      (index : Value → List ℤ) (args : Arguments x bs0 index)
      (at : Attributes env0 q q-apart terms ms es ks) (d : Dom) (keys : EachFlag (FlagKeyReady env0 q q-apart d c x y) ks)
      (lay : layer K (functions [] x y) ≡ Some (partial_layer [] bs0 index x y)) (one : own_width K ≡ 1) where
    even : length as' ≡ length uss
    even = axes-even env0 q q-apart as' uss ax

    abbrev own_declared : Declaration
    own_declared = record { axes = bs0; cell = booleans }

    abbrev inner_declared : Bool → List Declaration
    inner_declared out = under bs0 (declarations_below (out || true) r y) ++ []

    -- The cells are there.
    pub partial-there : (out : Bool) (ns : List Text) (t : Table) (ts : Tables) (i : List ℤ) →
        Placed env0 q q-apart (map (on_axes as') (shapes q terms r c (drop 1 ns))) (on_members uss (axes_members r y)) ts →
        Fit (own_declared ∷ inner_declared out) (behind i (cells_of (t ∷ ts))) →
        There env0 q q-apart (own_shape ns true as' ∷ map (on_axes as') (shapes q terms r c (drop 1 ns)))
        (uss ∷ on_members uss (axes_members r y)) (t ∷ ts) i
    partial-there out ns t ts i p h =
        let f = first-fit own_declared (inner_declared out) (grid_at env0 q q-apart t i) (behind i (cells_of ts)) h in (
          ap (λ a. every_cell a (is_cell booleans) (grid_at env0 q q-apart t i)) same ∙ f.inside,
          child-there env0 q q-apart terms r c y child as' uss bs0 same even (out || true) (drop 1 ns) ts i p f.others,
        )

    -- a place whose flag is true
    abbrev flagged_at : Grid → List ℤ → Bool
    flagged_at g js = is_some_and (g js) (same_int (pos 1))

    -- what the attributes without a number ask
    abbrev keys_hold : (Key → Bool) → Bool
    keys_hold F = each_holds ks (λ k n. true) F

    asked-attributes : (F : Key → Bool) (g : Grid) (ys : List Value) → chosen (member_list x) (λ v. g (index v)) ≡ Some ys → (n : ℕ) →
        n ≡ length ys → (vs : List Value) → length vs ≡ length ys →
        ((k : Key) → FlagKeyReady env0 q q-apart d c x y k → function_holds k (members x) (members y) (with_arguments ys vs) ≡ F k) →
        is_some_and (option_map (λ xs. function_with xs vs) (chosen (member_list x) (λ v. g (index v))))
        (λ v. function_attributes_hold ks x y (items_of v)) ≡ set_attributes_hold ks n && keys_hold F
    asked-attributes F g ys e n m vs long h =
        ap (λ o. is_some_and (option_map (λ xs. function_with xs vs) o) (λ v. function_attributes_hold ks x y (items_of v))) e
        ∙ ap (function_attributes_hold ks x y) (to_list-of_list (with_arguments ys vs))
        ∙ function-attributes-apart ks x y (with_arguments ys vs) F (each-flag (FlagKeyReady env0 q q-apart d c x y)
        (λ k. function_holds k (members x) (members y) (with_arguments ys vs) ≡ F k) ks h keys)
        ∙ ap (λ k. set_attributes_hold ks k && keys_hold F) (arguments-long ys vs long ∙ sym m)

    module _ (out : Bool) (ns : List Text) (t : Table) (ts : Tables) (l : ℕ) (is : Exs) (i : List ℤ) (bs : Bound env0 q q-apart)
        (p : Placed env0 q q-apart (own_shape ns true as' ∷ map (on_axes as') (shapes q terms r c (drop 1 ns)))
        (uss ∷ on_members uss (axes_members r y)) (t ∷ ts))
        (h : Fit (own_declared ∷ inner_declared out) (behind i (cells_of (t ∷ ts)))) (st : Steady env0 q q-apart l is i bs) where
      abbrev grid : Grid
      grid = grid_at env0 q q-apart t i

      abbrev inner : Cells
      inner = behind i (cells_of ts)

      -- its view
      abbrev seen : Ex
      seen = view_ex (repr K (more_reprs r no_reprs)) (bare_function_dom d c)
          (own_shape ns true as' ∷ map (on_axes as') (shapes q terms r c (drop 1 ns))) is

      abbrev key_ex : Key → Ex
      key_ex = flag_key_ex q l as' (first_name ns) is c seen

      abbrev F : Key → Bool
      F k = as_truth (meaning (key_ex k) (M env0 q q-apart bs))

      abbrev flag : Ex
      flag = cell_ex true (first_name ns) (row_index q l as' is)

      fits : (every_cell bs0 (is_cell booleans) grid ≡ true) × Fit (inner_declared out) inner
      fits = let f = first-fit own_declared (inner_declared out) grid inner h in (f.inside, f.others)

      inner-long : length inner ≡ width r
      inner-long = child-long env0 q q-apart terms r c y child as' uss bs0 same even (out || true) (drop 1 ns) ts i p.2 fits.1

      bits : AllOf (lists_of bs0) (λ js. is_some_and (cell_at t (i ++ js)) (is_cell booleans) ≡ true)
      bits = index-places bs0 (λ js. is_some_and (cell_at t (i ++ js)) (is_cell booleans) ≡ true)
          (cell-index bs0 (is_cell booleans) grid fits.0)

      -- whether the flag at a place is true
      abbrev U : List ℤ → Bool
      U js = is_some_and (cell_at t (i ++ js)) (same_int (pos 1))

      -- Each flag is true.
      flags-mean : meaning (each_ex q l as' flag) (M env0 q q-apart bs) ≡ Some (truth (list_all U (lists_of bs0)))
      flags-mean =
          each-means env0 q q-apart l as' uss is i bs flag U ax st
          (subst (λ a. AllOf (lists_of a) (λ js. MeansAt env0 q q-apart (level_behind l as') (row_index q l as' is) flag (i ++ js) (U js)))
          (sym same)
          (all-of-map (lists_of bs0) (λ js. is_some_and (cell_at t (i ++ js)) (is_cell booleans) ≡ true)
          (λ js. MeansAt env0 q q-apart (level_behind l as') (row_index q l as' is) flag (i ++ js) (U js))
          (λ js b. λ cs s. flag-means env0 q q-apart (first_name ns) t (row_index q l as' is) (i ++ js) cs p.0 (s [] tt) b) bits))
          ∙ ap (λ a. Some (truth (list_all U (lists_of a)))) same

      -- What an attribute without a number asks is asked of the values vs of the arguments ys, whose flags are true, at the places js.
      module _ (js : List (List ℤ)) (ys vs : List Value) (found : chosen (lists_of bs0) grid ≡ Some js)
          (ch : chosen (member_list x) (λ v. grid (index v)) ≡ Some ys)
          (e : each_of js (λ j. value_of_cells r y (behind j inner)) ≡ Some vs) (u : AllOf js (λ j. canonical r y (behind j inner) ≡ true))
          (long : length vs ≡ length ys) where
        abbrev v : Value
        v = function_with ys vs

        pairs : AllOf (items_of v) (PairTo y)
        pairs = function-pairs y ys vs (values-members r y (right r y child.covered) inner js vs u e)

        items : with_arguments ys vs ≡ items_of v
        items = sym (to_list-of_list (with_arguments ys vs))

        stands : DomainIs env0 q q-apart (bare_function_dom d c) (functions [] x y) → Stands env0 q q-apart l seen v bs
        stands dm =
            view-stands env0 q q-apart (repr K (more_reprs r no_reprs)) (bare_function_dom d c) (functions [] x y)
            (own_shape ns true as' ∷ map (on_axes as') (shapes q terms r c (drop 1 ns))) (uss ∷ on_members uss (axes_members r y))
            (t ∷ ts) l is i bs v refl dm p st
            (partial-view K r x y bs0 index lay one grid inner js ys vs inner-long found ch e)

        key-asked : (k : Key) → FlagKeyReady env0 q q-apart d c x y k →
            function_holds k (members x) (members y) (with_arguments ys vs) ≡ F k
        key-asked Key.Total me = chosen-total x bs0 index args grid ys vs me fits.0 ch long ∙ sym (ap as_truth flags-mean)
        key-asked Key.Injective h = ap is_injective items ∙ sym (ap as_truth
            (seconds-means env0 q q-apart c y h.1 l bs seen v (stands h.0) pairs))
        key-asked Key.Surjective h = ap (is_surjective (members y)) items
            ∙ sym (ap as_truth (all-taken-means env0 q q-apart c y h.0.1 l bs seen v (stands h.0.0) pairs h.1))
        key-asked Key.Bijective h =
            ap (λ l. is_injective l && is_surjective (members y) l) items
            ∙ sym (ap as_truth (one-to-one-means env0 q q-apart c y h.0.1 l bs seen v (stands h.0.0) pairs h.1))
        key-asked _ h = refl

      same-some : {a b : List (List ℤ)} → Some a ≡ Some b → a ≡ b
      same-some e = cc

      abbrev part : Ex
      part = structure q terms r c (drop 1 ns) (level_behind l as') (row_index q l as' is)

      abbrev zeros : Ex
      zeros = zeros_ex q (level_behind l as') (shapes q terms r c (drop 1 ns)) (row_index q l as' is)

      abbrev place_part : Ex
      place_part = and_ex (implies_ex flag part) (implies_ex (ex1 true Op1.Not flag) zeros)

      abbrev attribute_part : Ex
      attribute_part = and_ex (size_ex ms es (true_count_ex q l as' (first_name ns) is)) (keys_ex key_ex ms)

      abbrev sizes_hold : Axes → Bool
      sizes_hold a = set_attributes_hold ks (count_true (row a (grid_at env0 q q-apart t i)))

      abbrev T : List ℤ → Bool
      T js = (not (U js) || canonical r y (behind (i ++ js) (cells_of ts))) &&
          (not (not (U js)) || are_zero (all_codes env0 q q-apart (axes_members r y)) (behind (i ++ js) (cells_of ts)))

      abbrev C : List ℤ → Bool
      C js = not (U js) || canonical r y (behind js (behind i (cells_of ts)))

      abbrev Z : List ℤ → Bool
      Z js = U js || are_zero (axes_of r y) (behind js (behind i (cells_of ts)))

      not-not : (b c : Bool) → not (not b) || c ≡ b || c
      not-not true c = refl
      not-not false c = refl

      plain : (js : List ℤ) → T js ≡ C js && Z js
      plain js =
          ap (λ c. (not (U js) || canonical r y c) && (not (not (U js)) || are_zero (all_codes env0 q q-apart (axes_members r y)) c))
          (behind-append i js (cells_of ts))
          ∙ ap (λ a. C js && (not (not (U js)) || are_zero a (behind js (behind i (cells_of ts))))) child.axes
          ∙ ap (λ b. C js && b) (not-not (U js) (are_zero (axes_of r y) (behind js (behind i (cells_of ts)))))

      at-place : (js : List ℤ) (cs : Bound env0 q q-apart) → look env0.cells (first_name ns) ≡ Some t →
          Placed env0 q q-apart (shapes q terms r c (drop 1 ns)) (axes_members r y) ts →
          There env0 q q-apart (shapes q terms r c (drop 1 ns)) (axes_members r y) ts (i ++ js) →
          is_some_and (cell_at t (i ++ js)) (is_cell booleans) ≡ true →
          meaning part (M env0 q q-apart cs) ≡ Some (truth (canonical r y (behind (i ++ js) (cells_of ts)))) →
          Steady env0 q q-apart (level_behind l as') (row_index q l as' is) (i ++ js) cs →
          meaning place_part (M env0 q q-apart cs) ≡ Some (truth (T js))
      at-place js cs ht pl th b m s =
          let u = flag-means env0 q q-apart (first_name ns) t (row_index q l as' is) (i ++ js) cs ht (s [] tt) b in
          and-means (M env0 q q-apart cs) (implies_ex flag part) (implies_ex (ex1 true Op1.Not flag) zeros)
          (not (U js) || canonical r y (behind (i ++ js) (cells_of ts)))
          (not (not (U js)) || are_zero (all_codes env0 q q-apart (axes_members r y)) (behind (i ++ js) (cells_of ts)))
          (implies-means (M env0 q q-apart cs) flag part (U js) (canonical r y (behind (i ++ js) (cells_of ts))) u m)
          (implies-means (M env0 q q-apart cs) (ex1 true Op1.Not flag) zeros (not (U js))
          (are_zero (all_codes env0 q q-apart (axes_members r y)) (behind (i ++ js) (cells_of ts)))
          (not-means (M env0 q q-apart cs) flag (U js) u)
          (zeros-means env0 q q-apart (level_behind l as') (shapes q terms r c (drop 1 ns)) (axes_members r y) ts (row_index q l as' is)
          (i ++ js) cs pl th s))

      -- The constraint of a function with flags means what is asked of its layer.
      pub partial-means : meaning (partial_ex q l ms es as' (first_name ns) is (shapes q terms r c (drop 1 ns)) c seen part)
          (M env0 q q-apart bs)
          ≡ Some (truth (asked_of (partial_layer ks bs0 index x y) (more_reprs r no_reprs) (grid ∷ []) inner))
      partial-means =
          let a = at bs in
          let placed = child-placed env0 q q-apart terms r c y child as' uss bs0 same even (out || true) (drop 1 ns) ts i p.2 fits.1 in
          let there = child-there-each env0 q q-apart terms r c y child as' uss bs0 same even (out || true) (drop 1 ns) ts i p.2 fits.1 in
          let ys = arguments-chosen x bs0 index args grid fits.0 in
          let found = chosen-found (lists_of bs0) grid bits in
          let js-are : found.0 ≡ map index ys.0 = same-some (sym found.1 ∙ ap (λ ps. chosen ps grid) args.places
          ∙ chosen-map index grid (member_list x) ∙ ap (option_map (map index)) ys.1) in
          and-means (M env0 q q-apart bs) (each_ex q l as' place_part) attribute_part (list_all T (lists_of (codes env0 q q-apart uss)))
          (sizes_hold (codes env0 q q-apart uss) && keys_hold F)
          (each-means env0 q q-apart l as' uss is i bs place_part T ax st
          (all-of-both (lists_of (codes env0 q q-apart uss)) (λ js. There env0 q q-apart (shapes q terms r c (drop 1 ns))
          (axes_members r y) ts (i ++ js) × (is_some_and (cell_at t (i ++ js)) (is_cell booleans) ≡ true))
          (λ js. MeansAt env0 q q-apart (level_behind l as') (row_index q l as' is) part (i ++ js)
          (canonical r y (behind (i ++ js) (cells_of ts))))
          (λ js. MeansAt env0 q q-apart (level_behind l as') (row_index q l as' is) place_part (i ++ js) (T js))
          (λ js z m. λ cs s. at-place js cs p.0 placed z.0 z.1 (m cs s) s)
          (subst (λ a. AllOf (lists_of a) (λ js. There env0 q q-apart (shapes q terms r c (drop 1 ns)) (axes_members r y) ts (i ++ js) ×
          (is_some_and (cell_at t (i ++ js)) (is_cell booleans) ≡ true))) (sym same)
          (all-of-both (lists_of bs0) (λ js. There env0 q q-apart (shapes q terms r c (drop 1 ns)) (axes_members r y) ts (i ++ js))
          (λ js. is_some_and (cell_at t (i ++ js)) (is_cell booleans) ≡ true)
          (λ js. There env0 q q-apart (shapes q terms r c (drop 1 ns)) (axes_members r y) ts (i ++ js) ×
          (is_some_and (cell_at t (i ++ js)) (is_cell booleans) ≡ true)) (λ js u v. (u, v)) there bits))
          (child-means env0 q q-apart terms r c y child as' uss bs0 same even (out || true) (drop 1 ns) ts i p.2 fits.1 l is)))
          (and-means (M env0 q q-apart bs) (size_ex ms es (true_count_ex q l as' (first_name ns) is)) (keys_ex key_ex ms)
          (sizes_hold (codes env0 q q-apart uss)) (keys_hold F)
          (size-means (M env0 q q-apart bs) ms es (true_count_ex q l as' (first_name ns) is)
          (count_true (row (codes env0 q q-apart uss) grid)) ks a.0 a.1
          (true-count-means env0 q q-apart l as' uss (first_name ns) is i bs t ax p.0
          (ap (λ a. every_cell a (is_cell booleans) grid) same ∙ fits.0) st))
          (flags-means (M env0 q q-apart bs) key_ex F ms (meanings es (M env0 q q-apart bs)) ks a.1
          (all-flags (λ k. meaning (key_ex k) (M env0 q q-apart bs) ≡ Some (truth (F k))) ks
          (flag-key-settled q l as' (first_name ns) is c seen (M env0 q q-apart bs)))))
          ∙ ap (λ b. Some (truth b))
          (ap (λ a. list_all T (lists_of a) && (sizes_hold a && keys_hold F)) same
          ∙ ap (λ b. b && (sizes_hold bs0 && keys_hold F)) (all-alike (lists_of bs0) T (λ js. C js && Z js) plain
          ∙ all-two (lists_of bs0) C Z)
          ∙ sym (layer-asked r y (right r y child.covered) (axes-wide r y child.covered) K x (fixed_table bs0 booleans ∷ []) bs0
          where_flagged false false (λ v. map (value_at (items_of v)) (member_list x)) (λ v ss. flags_table bs0 ss ∷ [])
          (λ cs vss. option_map (λ xs. function_with xs (only_child vss)) (chosen (member_list x) (λ x. own_cell cs (index x))))
          (λ cs vss. is_some_and (option_map (λ xs. function_with xs (only_child vss))
          (chosen (member_list x) (λ x. own_cell cs (index x)))) (λ v. function_attributes_hold ks x y (items_of v))) always_tidy
          (grid ∷ []) inner (sizes_hold bs0 && keys_hold F)
          (and-both (every_cell bs0 (is_cell booleans) grid) true fits.0 refl)
          (child-long env0 q q-apart terms r c y child as' uss bs0 same even (out || true) (drop 1 ns) ts i p.2 fits.1)
          found.0 found.1 (found.2 (λ js. canonical r y (behind js inner)))
          (λ vs n z u.
          let long = n ∙ ap length js-are ∙ map-long index ys.0 in
          asked-attributes F grid ys.0 ys.1 (count_true (row bs0 grid)) ys.2 vs long
          (key-asked found.0 ys.0 vs found.1 ys.1 z (found.2 (λ js. canonical r y (behind js inner)) u) long))))
