-- The structure constraint of a function with a value for each argument: that of each value, its size, and what is asked of its pairs.
use Rattle.std.proofs.Common.{◌≡◌, refl, sym, ap, ◌∙◌, ℕ, ◌+◌, ◌<◌, Bool, true, false, ◌&&◌, ◌||◌, if◌then◌else◌, List, [], ◌∷◌, ◌++◌, map, length, ℤ, Some, append-nil, arith}
use Rattle.std.specs.List.{list_all}
use Rattle.ess_semantics.specs.declared.words.ReprKind.{ReprKind}
use Rattle.ess_semantics.specs.Lists.{each_of, is_some_and}
use Rattle.ess_semantics.specs.Values.{Text, Value, truth, items_of}
use Rattle.ess_semantics.specs.Order.{same_text}
use Rattle.ess_semantics.specs.Kinds.{dom_list}
use Rattle.ess_semantics.specs.Trees.{Mark, Repr, repr, no_reprs, more_reprs, Ex, Exs, Dom, Doms, tuple_dom, function_dom}
use Rattle.ess_semantics.specs.Domains.{Attribute, Domain, Domains, functions, tuples, domain_list, members, member_list, lists_of}
use Rattle.ess_semantics.specs.Attributes.{each_holds, is_injective, is_surjective, function_holds, function_attributes_hold, set_attributes_hold}
use Rattle.ess_semantics.specs.Operators.{as_truth}
use Rattle.ess_semantics.specs.declared.words.Key.{Key}
use Rattle.ess_semantics.specs.Collections.{value_at}
use Rattle.ess_semantics.specs.Tables.{Tables, code}
use Rattle.ess_semantics.specs.Cells.{Axes, behind, cells_of}
use Rattle.ess_semantics.specs.Layers.{codes_of, only_child}
use Rattle.ess_semantics.specs.FunctionLayers.{total_layer, function_with, with_arguments}
use Rattle.ess_semantics.specs.Representations.{width, own_width, layer, value_of_cells}
use Rattle.ess_semantics.specs.Declarations.{under, declarations_below, axes_of}
use Rattle.ess_semantics.specs.CanonicalTest.{canonical}
use Rattle.ess_semantics.specs.Meaning.{Env, meaning, meanings}
use Rattle.ess_semantics.specs.Atoms.{IsAtom, AreAtoms}
use Rattle.ess_semantics.proofs.Connectives.{and-means}
use Rattle.ess_semantics.proofs.MemberLists.{atom-listed}
use Rattle.ess_semantics.proofs.Orders.{to_list-of_list}
use Rattle.ess_repr_laws.specs.StructureParts.{Terms, and_ex, row_index, each_ex, size_ex, keys_ex, place_count_ex, level_behind, on_axes}
use Rattle.ess_repr_laws.specs.FunctionParts.{bare_function_dom, is_one_cell, differ_ex, value_key_ex, total_ex}
use Rattle.ess_repr_laws.specs.ViewParts.{view_ex, components_differ_ex}
use Rattle.ess_repr_laws.specs.Structure.{shapes, structure}
use Rattle.ess_repr_laws.specs.StructureMeaning.{Bound, M, AxesAre, Placed, Attributes, axes_members, on_members, index_members, EachFlag, DomainIs, ValueKeyReady}
use Rattle.ess_repr_laws.proofs.Arguments.{Arguments, atom-arguments, tuple-arguments}
use Rattle.ess_repr_laws.proofs.Behind.{behind-append}
use Rattle.ess_repr_laws.proofs.CanonicalForms.{right, atoms-listed}
use Rattle.ess_repr_laws.proofs.CanonicalParts.{asked_of}
use Rattle.ess_repr_laws.proofs.CellDomains.{axes-wide}
use Rattle.ess_repr_laws.proofs.CellsOfMembers.{map-long}
use Rattle.ess_repr_laws.proofs.RowsOfCells.{axes-of-layer}
use Rattle.ess_repr_laws.proofs.StructureAttributes.{all-arguments, arguments-long}
use Rattle.ess_repr_laws.proofs.StructureFits.{Fit}
use Rattle.ess_repr_laws.proofs.StructureInjective.{differs}
use Rattle.ess_repr_laws.proofs.StructureConversions.{flags-means, all-flags, each-flag}
use Rattle.ess_repr_laws.proofs.FunctionViews.{values-members, total-view, is_one_cell-atom, value-key-settled}
use Rattle.ess_repr_laws.proofs.PairsOfViews.{PairTo, function-pairs, function-attributes-apart, seconds-means, all-taken-means, one-to-one-means}
use Rattle.ess_repr_laws.proofs.ViewsOfCells.{Stands, view-stands}
use Rattle.ess_repr_laws.proofs.CanonicalPlaces.{AllOf}
use Rattle.ess_repr_laws.proofs.StructureLayers.{all-alike, everywhere-valued}
use Rattle.ess_repr_laws.proofs.StructureMatrices.{index-codes, axes-even}
use Rattle.ess_repr_laws.proofs.StructureNumbers.{size-means}
use Rattle.ess_repr_laws.proofs.StructureOf.{StructureOf, child-found, under-codes, child-placed, child-there, child-there-each, child-long, child-means}
use Rattle.ess_repr_laws.proofs.StructurePlaces.{each-means, place-count-means}
use Rattle.ess_repr_laws.proofs.StructureRows.{Steady, codes, all_codes}
use Rattle.ess_repr_laws.proofs.TupleMembers.{place_of}

module _ (env0 : Env) (q : ℕ → Text) (q-apart : (m l : ℕ) → l < m → same_text (q m) (q l) ≡ false) (terms : Terms) where
  -- The arguments x stand along the axes as', whose members are uss and whose numbers are bs0.
  module _ (K : ReprKind) (r : Repr) (ms : List Mark) (es : Exs) (c : Dom) (ks : List Attribute) (x y : Domain) (child : StructureOf env0 q q-apart terms r c y)
      (as' : List Dom) (uss : List (List Value)) (bs0 : Axes) (same : codes env0 q q-apart uss ≡ bs0) (ax : AxesAre env0 q q-apart as' uss) (index : Value → List ℤ) (args : Arguments x bs0 index)
      (me : members x ≡ Some (member_list x)) (at : Attributes env0 q q-apart terms ms es ks) (d : Dom)
      (keys : EachFlag (ValueKeyReady env0 q q-apart r d c x y) ks)
      (lay : layer K (functions [] x y) ≡ Some (total_layer [] bs0 x y)) (none : own_width K ≡ 0) where
    even : length as' ≡ length uss
    even = axes-even env0 q q-apart as' uss ax

    -- what the attributes without a number ask
    abbrev keys_hold : (Key → Bool) → Bool
    keys_hold F = each_holds ks (λ k n. true) F

    asked-attributes : (F : Key → Bool) (vs : List Value) → length vs ≡ length (lists_of bs0) →
        (length vs ≡ length (member_list x) → (k : Key) → ValueKeyReady env0 q q-apart r d c x y k →
        function_holds k (members x) (members y) (with_arguments (member_list x) vs) ≡ F k) →
        is_some_and (Some (function_with (member_list x) vs)) (λ v. function_attributes_hold ks x y (items_of v)) ≡ set_attributes_hold ks
        (length (lists_of bs0)) && keys_hold F
    asked-attributes F vs n h =
        ap (function_attributes_hold ks x y) (to_list-of_list (with_arguments (member_list x) vs))
        ∙ function-attributes-apart ks x y (with_arguments (member_list x) vs) F
        (each-flag (ValueKeyReady env0 q q-apart r d c x y) (λ k. function_holds k (members x) (members y)
        (with_arguments (member_list x) vs) ≡ F k) ks (h long) keys)
        ∙ ap (λ k. set_attributes_hold ks k && keys_hold F) (arguments-long (member_list x) vs long ∙ sym long ∙ n)
      where
        long : length vs ≡ length (member_list x)
        long = n ∙ ap length args.places ∙ map-long index (member_list x)

    module _ (out : Bool) (ns : List Text) (ts : Tables) (l : ℕ) (is : Exs) (i : List ℤ) (bs : Bound env0 q q-apart)
        (p : Placed env0 q q-apart (map (on_axes as') (shapes q terms r c ns)) (on_members uss (axes_members r y)) ts)
        (f : Fit (under bs0 (declarations_below out r y) ++ []) (behind i (cells_of ts))) (st : Steady env0 q q-apart l is i bs) where
      -- its view
      abbrev seen : Ex
      seen = view_ex (repr K (more_reprs r no_reprs)) (bare_function_dom d c) (map (on_axes as') (shapes q terms r c ns)) is

      abbrev key_ex : Key → Ex
      key_ex = value_key_ex q l as' (shapes q terms r c ns) is r c seen

      abbrev F : Key → Bool
      F k = as_truth (meaning (key_ex k) (M env0 q q-apart bs))

      inner-long : length (behind i (cells_of ts)) ≡ width r
      inner-long = child-long env0 q q-apart terms r c y child as' uss bs0 same even out ns ts i p f

      -- What an attribute without a number asks is asked of the values.
      module _ (vs : List Value) (e : each_of (lists_of bs0) (λ j. value_of_cells r y (behind j (behind i (cells_of ts)))) ≡ Some vs)
          (u : AllOf (lists_of bs0) (λ j. canonical r y (behind j (behind i (cells_of ts))) ≡ true))
          (long : length vs ≡ length (member_list x)) where
        abbrev v : Value
        v = function_with (member_list x) vs

        pairs : AllOf (items_of v) (PairTo y)
        pairs = function-pairs y (member_list x) vs (values-members r y (right r y child.covered) (behind i (cells_of ts)) (lists_of bs0)
            vs u e)

        items : with_arguments (member_list x) vs ≡ items_of v
        items = sym (to_list-of_list (with_arguments (member_list x) vs))

        stands : DomainIs env0 q q-apart (bare_function_dom d c) (functions [] x y) → Stands env0 q q-apart l seen v bs
        stands dm =
            view-stands env0 q q-apart (repr K (more_reprs r no_reprs)) (bare_function_dom d c) (functions [] x y)
            (map (on_axes as') (shapes q terms r c ns)) (on_members uss (axes_members r y)) ts l is i bs v refl dm p st
            (total-view K r x y bs0 lay none (behind i (cells_of ts)) vs inner-long e)

        values-differ : (ValueKeyReady env0 q q-apart r d c x y Key.Injective) →
            is_injective (with_arguments (member_list x) vs) ≡ F Key.Injective
        values-differ h = go (is_one_cell r) refl
          where
            test : Bool → Ex
            test b = if b then differ_ex q l as' (shapes q terms r c ns) is else components_differ_ex q l c 2 seen

            go : (b : Bool) → is_one_cell r ≡ b → is_injective (with_arguments (member_list x) vs) ≡ as_truth
                (meaning (test (is_one_cell r)) (M env0 q q-apart bs))
            go true o =
                let g = differs env0 q q-apart terms l as' uss bs0 same ax is i bs st c y ns ts r (is_one_cell-atom r o) child.covered
                (child-placed env0 q q-apart terms r c y child as' uss bs0 same even out ns ts i p f)
                (child-there-each env0 q q-apart terms r c y child as' uss bs0 same even out ns ts i p f) in
                g.2 (member_list x) vs long u e ∙ sym (ap as_truth (ap (λ b. meaning (test b) (M env0 q q-apart bs)) o ∙ g.1))
            go false o =
                let b = h o in
                ap is_injective items ∙ sym (ap as_truth (ap (λ b. meaning (test b) (M env0 q q-apart bs)) o
                ∙ seconds-means env0 q q-apart c y b.1 l bs seen v (stands b.0) pairs))

        key-asked : (k : Key) → ValueKeyReady env0 q q-apart r d c x y k →
            function_holds k (members x) (members y) (with_arguments (member_list x) vs) ≡ F k
        key-asked Key.Total h = all-arguments x vs me long
        key-asked Key.Injective h = values-differ h
        key-asked Key.Surjective h = ap (is_surjective (members y)) items
            ∙ sym (ap as_truth (all-taken-means env0 q q-apart c y h.0.1 l bs seen v (stands h.0.0) pairs h.1))
        key-asked Key.Bijective h =
            ap (λ l. is_injective l && is_surjective (members y) l) items
            ∙ sym (ap as_truth (one-to-one-means env0 q q-apart c y h.0.1 l bs seen v (stands h.0.0) pairs h.1))
        key-asked _ h = refl

      abbrev part : Ex
      part = structure q terms r c ns (level_behind l as') (row_index q l as' is)

      abbrev key_part : Ex
      key_part = keys_ex key_ex ms

      abbrev attribute_part : Ex
      attribute_part = and_ex (size_ex ms es (place_count_ex q l as')) key_part

      -- The constraint of a total function means what is asked of its layer.
      pub total-means : meaning (total_ex q l ms es as' (shapes q terms r c ns) is r c seen part) (M env0 q q-apart bs)
          ≡ Some (truth (asked_of (total_layer ks bs0 x y) (more_reprs r no_reprs) [] (behind i (cells_of ts))))
      total-means =
          let a = at bs in
          and-means (M env0 q q-apart bs) (each_ex q l as' part) attribute_part
          (list_all (λ js. canonical r y (behind (i ++ js) (cells_of ts))) (lists_of (codes env0 q q-apart uss)))
          (set_attributes_hold ks (length (lists_of (codes env0 q q-apart uss))) && keys_hold F)
          (each-means env0 q q-apart l as' uss is i bs part (λ js. canonical r y (behind (i ++ js) (cells_of ts))) ax st
          (child-means env0 q q-apart terms r c y child as' uss bs0 same even out ns ts i p f l is))
          (and-means (M env0 q q-apart bs) (size_ex ms es (place_count_ex q l as')) key_part
          (set_attributes_hold ks (length (lists_of (codes env0 q q-apart uss)))) (keys_hold F)
          (size-means (M env0 q q-apart bs) ms es (place_count_ex q l as') (length (lists_of (codes env0 q q-apart uss))) ks a.0 a.1
          (place-count-means env0 q q-apart l as' uss bs ax))
          (flags-means (M env0 q q-apart bs) key_ex F ms (meanings es (M env0 q q-apart bs)) ks a.1
          (all-flags (λ k. meaning (key_ex k) (M env0 q q-apart bs) ≡ Some (truth (F k))) ks
          (value-key-settled q l as' (shapes q terms r c ns) is r c seen (M env0 q q-apart bs)))))
          ∙ ap (λ b. Some (truth b))
          (ap (λ a. list_all (λ js. canonical r y (behind (i ++ js) (cells_of ts))) (lists_of a) &&
          (set_attributes_hold ks (length (lists_of a)) && keys_hold F)) same
          ∙ ap (λ b. b && (set_attributes_hold ks (length (lists_of bs0)) && keys_hold F))
          (all-alike (lists_of bs0) (λ js. canonical r y (behind (i ++ js) (cells_of ts)))
          (λ js. canonical r y (behind js (behind i (cells_of ts)))) (λ js. ap (canonical r y) (behind-append i js (cells_of ts))))
          ∙ sym (everywhere-valued r y (right r y child.covered) (axes-wide r y child.covered) K x bs0
          (λ v. map (value_at (items_of v)) (member_list x)) (λ cs vss. Some (function_with (member_list x) (only_child vss)))
          (λ cs vss. is_some_and (Some (function_with (member_list x) (only_child vss)))
          (λ v. function_attributes_hold ks x y (items_of v))) (behind i (cells_of ts))
          (set_attributes_hold ks (length (lists_of bs0)) && keys_hold F)
          inner-long (λ vs n v u. asked-attributes F vs n (λ long. key-asked vs v u long))))

    -- The axes of its tables.
    pub total-axes : all_codes env0 q q-apart (on_members uss (axes_members r y)) ≡ map (λ a. bs0 ++ a) (axes_of r y) ++ []
    total-axes = under-codes env0 q q-apart terms uss bs0 (axes_members r y) same ∙ ap (map (λ (a : Axes). bs0 ++ a)) child.axes ∙ sym (append-nil (map (λ (a : Axes). bs0 ++ a) (axes_of r y)))

    -- As many tables as the child has.
    pub total-long : (ns : List Text) → length (map (on_axes as') (shapes q terms r c ns)) ≡ 0 + (width r + 0)
    total-long ns = map-long _ (shapes q terms r c ns) ∙ child.long ns ∙ (let z : width r ≡ 0 + (width r + 0) = omega arith in z)

  -- The structure constraint of a function from an atom.
  pub function-1d-structure : (r : Repr) (ms : List Mark) (es : Exs) (d c : Dom) (ks : List Attribute) (x y : Domain) → IsAtom x →
      members x ≡ Some (member_list x) → EachFlag (ValueKeyReady env0 q q-apart r d c x y) ks →
      AxesAre env0 q q-apart (d ∷ []) (member_list x ∷ []) → Attributes env0 q q-apart terms ms es ks → StructureOf env0 q q-apart terms r c y →
      StructureOf env0 q q-apart terms (repr ReprKind.Function1D (more_reprs r no_reprs)) (function_dom ms es d c) (functions ks x y)
  function-1d-structure r ms es d c ks x y a me keys ax at child = record {
    covered = (a, child.covered);
    long = λ ns. total-long ReprKind.Function1D r ms es c ks x y child (d ∷ []) (member_list x ∷ []) (codes_of x ∷ []) refl ax
        (λ x. code x ∷ []) args me at d keys refl refl ns;
    axes = total-axes ReprKind.Function1D r ms es c ks x y child (d ∷ []) (member_list x ∷ []) (codes_of x ∷ []) refl ax (λ x. code x ∷ [])
        args me at d keys refl refl
        ∙ sym (axes-of-layer (total_layer ks (codes_of x ∷ []) x y) (more_reprs r no_reprs));
    found = child-found env0 q q-apart terms r c y child (d ∷ []) (member_list x ∷ []) ax;
    there = λ out ns ts i p f. child-there env0 q q-apart terms r c y child (d ∷ []) (member_list x ∷ []) (codes_of x ∷ []) refl refl (out || false) ns ts i p f;
    means = λ out ns ts l is i bs p f st. total-means ReprKind.Function1D r ms es c ks x y child (d ∷ []) (member_list x ∷ [])
        (codes_of x ∷ []) refl ax (λ x. code x ∷ []) args me at d keys refl refl (out || false) ns ts l is i bs p f st;
  }
    where
      args : Arguments x (codes_of x ∷ []) (λ x. code x ∷ [])
      args = atom-arguments x (atom-listed x a)

  -- The structure constraint of a function from a tuple of atoms.
  pub function-nd-structure : (r : Repr) (ms : List Mark) (es : Exs) (ds : Doms) (c : Dom) (ks : List Attribute) (xs : Domains) (y : Domain) → AreAtoms xs → members (tuples xs) ≡ Some (member_list (tuples xs)) →
      EachFlag (ValueKeyReady env0 q q-apart r (tuple_dom ds) c (tuples xs) y) ks →
      AxesAre env0 q q-apart (dom_list ds) (index_members xs) → Attributes env0 q q-apart terms ms es ks →
      StructureOf env0 q q-apart terms r c y →
      StructureOf env0 q q-apart terms (repr ReprKind.FunctionND (more_reprs r no_reprs)) (function_dom ms es (tuple_dom ds) c) (functions ks (tuples xs) y)
  function-nd-structure r ms es ds c ks xs y a me keys ax at child = record {
    covered = (a, child.covered);
    long = λ ns. total-long ReprKind.FunctionND r ms es c ks (tuples xs) y child (dom_list ds) (index_members xs)
        (map codes_of (domain_list xs)) same ax place_of args me at (tuple_dom ds) keys refl refl ns;
    axes = total-axes ReprKind.FunctionND r ms es c ks (tuples xs) y child (dom_list ds) (index_members xs) (map codes_of (domain_list xs))
        same ax place_of args me at (tuple_dom ds) keys refl refl
        ∙ sym (axes-of-layer (total_layer ks (map codes_of (domain_list xs)) (tuples xs) y) (more_reprs r no_reprs));
    found = child-found env0 q q-apart terms r c y child (dom_list ds) (index_members xs) ax;
    there = λ out ns ts i p f. child-there env0 q q-apart terms r c y child (dom_list ds) (index_members xs) (map codes_of (domain_list xs)) same (axes-even env0 q q-apart (dom_list ds) (index_members xs) ax) (out || false) ns ts i p f;
    means = λ out ns ts l is i bs p f st.
        total-means ReprKind.FunctionND r ms es c ks (tuples xs) y child (dom_list ds) (index_members xs) (map codes_of (domain_list xs))
        same ax place_of args me at (tuple_dom ds) keys refl refl (out || false) ns ts l is i bs p f st;
  }
    where
      same : codes env0 q q-apart (index_members xs) ≡ map codes_of (domain_list xs)
      same = index-codes env0 q q-apart xs

      args : Arguments (tuples xs) (map codes_of (domain_list xs)) place_of
      args = tuple-arguments xs (atoms-listed xs a)
