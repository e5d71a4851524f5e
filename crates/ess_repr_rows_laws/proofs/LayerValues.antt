-- The value of one layer on rows, kind by kind: built of the items of its own tables and of the values of the slots in use.
use Rattle.std.proofs.Common.{◌≡◌, refl, sym, ap, ◌∙◌, subst, true, List, [], ◌∷◌, ◌++◌, map, take, drop, ℤ, Option, Some, None, option_map}
use Rattle.ess_semantics.specs.declared.words.ReprKind.{ReprKind}
use Rattle.ess_semantics.specs.Lists.{and_then, each_of, append_all, only_of}
use Rattle.ess_semantics.specs.Values.{Value, a_set, a_mset, a_relation, node, of_list, items_of}
use Rattle.ess_semantics.specs.Trees.{Repr}
use Rattle.ess_semantics.specs.Collections.{set_of, mset_of}
use Rattle.ess_semantics.specs.Numbers.{one_to, not_below_0}
use Rattle.ess_semantics.specs.Domains.{Attribute, Domain, Domains, tuples, sets, msets, relations, partitions, domain_list, member_list}
use Rattle.ess_semantics.specs.Sizes.{slots_of_set, slots_of_mset}
use Rattle.ess_semantics.specs.Tables.{Table, Tables, volume, code, item_in, cell_at}
use Rattle.ess_semantics.specs.Cells.{Axes, cells_of}
use Rattle.ess_semantics.specs.Layers.{codes_of, up_to_marker, where_flagged, own_cell, chosen, each_repeated}
use Rattle.ess_semantics.specs.SetLayers.{dummy_of, but_dummy, set_in_slots, explicit_layer, marker_layer, flags_layer}
use Rattle.ess_semantics.specs.MultisetLayers.{repetition_layer}
use Rattle.ess_semantics.specs.FunctionLayers.{function_with, total_layer, partial_layer}
use Rattle.ess_semantics.specs.PartitionLayers.{partition_from_numbers}
use Rattle.ess_semantics.specs.Representations.{layer, own_width}
use Rattle.ess_semantics.specs.OneLayer.{layer_value}
use Rattle.ess_semantics.specs.Tidy.{over_axes}
use Rattle.ess_repr_laws.proofs.TablesAndCells.{AxesDiffer}
use Rattle.ess_repr_laws.proofs.AxesOfTables.{run-differs}
use Rattle.ess_repr_laws.proofs.Arguments.{Arguments}
use Rattle.ess_repr_rows_laws.specs.Cutting.{used_numbers}
use Rattle.ess_repr_rows_laws.specs.RowLayers.{picked, times_of}
use Rattle.ess_repr_rows_laws.proofs.UsedSlots.{UseOver}
use Rattle.ess_repr_rows_laws.proofs.LayerUpRows.{value-with-child}
use Rattle.ess_repr_rows_laws.proofs.OwnCells.{TableOver, cells-along, slots-along, chosen-picked, each-item, each-there}

as-map : {A B : Type 0} (o : Option A) (x : B) → and_then o (λ y. Some x) ≡ option_map (λ y. x) o
as-map None x = refl
as-map (Some y) x = refl

-- ---- sets

-- The members whose item is true.
pub occurrence-value : (ks : List Attribute) (d : Domain) (t : Table) (vs : List Value) → Arguments d (codes_of d ∷ []) (λ x. code x ∷ []) → AxesDiffer (codes_of d ∷ []) →
    TableOver (codes_of d ∷ []) t → layer_value ReprKind.Occurrence (sets ks d) (t ∷ []) vs ≡ option_map (λ xs. node a_set (of_list xs)) (picked t.items (member_list d))
occurrence-value ks d t vs args differ o =
    ap (option_map (λ xs. node a_set (of_list xs))) (chosen-picked (member_list d) t.items (λ x. cell_at t (code x ∷ [])) (cells-along d (codes_of d ∷ []) (λ x. code x ∷ []) args differ t o))

-- The numbers in the slots that aren't the dummy.
pub dummy-value : (ks : List Attribute) (d : Domain) (m : ℤ) (t : Table) (vs : List Value) → dummy_of d ≡ Some m → TableOver (one_to (slots_of_set ks d) ∷ []) t →
    layer_value ReprKind.ExplicitVarSizeWithDummy (sets ks d) (t ∷ []) vs ≡ option_map (λ ls. set_of (append_all ls)) (each_of t.items (but_dummy d m))
dummy-value ks d m t vs dummy o =
    ap (λ x. and_then x (λ m. set_in_slots (slots_of_set ks d) d m (cell_at t))) dummy
    ∙ ap (option_map (λ ls. set_of (append_all ls)))
    (each-item (one_to (slots_of_set ks d)) t.items (λ k. cell_at t (k ∷ [])) (but_dummy d m) (slots-along (one_to (slots_of_set ks d)) (run-differs 1 (slots_of_set ks d), tt) t o))

-- ---- multisets

-- Each member as often as its item says.
pub mset-occurrence-value : (ks : List Attribute) (d : Domain) (t : Table) (vs : List Value) → Arguments d (codes_of d ∷ []) (λ x. code x ∷ []) → AxesDiffer (codes_of d ∷ []) →
    TableOver (codes_of d ∷ []) t →
    layer_value ReprKind.MSetOccurrence (msets ks d) (t ∷ []) vs ≡ option_map (λ ns. node a_mset (of_list (each_repeated ns (member_list d)))) (times_of t.items)
mset-occurrence-value ks d t vs args differ o =
    ap (option_map (λ ns. node a_mset (of_list (each_repeated ns (member_list d)))))
    (each-item (member_list d) t.items (λ x. cell_at t (code x ∷ [])) not_below_0 (cells-along d (codes_of d ∷ []) (λ x. code x ∷ []) args differ t o))

-- ---- relations

-- The tuples whose item is true.
pub relation-matrix-value : (ks : List Attribute) (ds : Domains) (t : Table) (vs : List Value) → Arguments (tuples ds) (map codes_of (domain_list ds)) (λ x. map code (items_of x)) →
    AxesDiffer (map codes_of (domain_list ds)) → TableOver (map codes_of (domain_list ds)) t →
    layer_value ReprKind.RelationAsMatrix (relations ks ds) (t ∷ []) vs ≡ option_map (λ xs. node a_relation (of_list xs)) (picked t.items (member_list (tuples ds)))
relation-matrix-value ks ds t vs args differ o =
    ap (option_map (λ xs. node a_relation (of_list xs)))
    (chosen-picked (member_list (tuples ds)) t.items (λ x. cell_at t (map code (items_of x))) (cells-along (tuples ds) (map codes_of (domain_list ds)) (λ x. map code (items_of x)) args differ t o))

-- ---- partitions

-- The members with the numbers of their parts, and how many parts there are.
pub partition-occurrence-value : (ks : List Attribute) (d : Domain) (n t : Table) (vs : List Value) → Arguments d (codes_of d ∷ []) (λ x. code x ∷ []) → AxesDiffer (codes_of d ∷ []) →
    n.axes ≡ [] → TableOver (codes_of d ∷ []) t →
    layer_value ReprKind.PartitionOccurrence (partitions ks d) (n ∷ t ∷ []) vs ≡ and_then (only_of n.items) (partition_from_numbers (member_list d) t.items)
partition-occurrence-value ks d n t vs args differ bare o =
    ap (λ x. and_then (item_in x n.items []) (λ m. and_then (each_of (member_list d) (λ x. cell_at t (code x ∷ []))) (λ ws. partition_from_numbers (member_list d) ws m))) bare
    ∙ ap (λ q. and_then (only_of n.items) (λ m. and_then q (λ ws. partition_from_numbers (member_list d) ws m)))
    (each-there (member_list d) t.items (λ x. cell_at t (code x ∷ [])) (cells-along d (codes_of d ∷ []) (λ x. code x ∷ []) args differ t o))

-- ---- kinds with slots

module _ (r : Repr) (ks : List Attribute) (e : Domain) (ass : List Axes) (ts : Tables) (vs : List Value) where
  -- All slots in use.
  pub explicit-value : over_axes [] (map (λ as'. (one_to (slots_of_set ks e) ∷ []) ++ as') ass) ts ≡ true → layer_value ReprKind.Explicit (sets ks e) ts vs ≡ Some (set_of vs)
  explicit-value over = value-with-child ReprKind.Explicit (sets ks e) e (explicit_layer ks e) ass ts refl refl (run-differs 1 (slots_of_set ks e), tt) tt over vs

module _ (r : Repr) (ks : List Attribute) (e : Domain) (ass : List Axes) (t : Table) (ts : Tables) (vs : List Value) where
  -- Up to a marker.
  pub marker-value : t.axes ≡ [] → over_axes [] (map (λ as'. (one_to (slots_of_set ks e) ∷ []) ++ as') ass) ts ≡ true →
      layer_value ReprKind.ExplicitVarSizeWithMarker (sets ks e) (t ∷ ts) vs ≡
      option_map (λ ns. set_of vs) (used_numbers up_to_marker (volume (one_to (slots_of_set ks e) ∷ [])) (t ∷ []))
  marker-value bare over =
      value-with-child ReprKind.ExplicitVarSizeWithMarker (sets ks e) e (marker_layer ks e) ass (t ∷ ts) refl refl (run-differs 1 (slots_of_set ks e), tt) bare over vs
      ∙ as-map (used_numbers up_to_marker (volume (one_to (slots_of_set ks e) ∷ [])) (t ∷ [])) (set_of vs)

  -- With flags.
  pub flags-value : TableOver (one_to (slots_of_set ks e) ∷ []) t → over_axes [] (map (λ as'. (one_to (slots_of_set ks e) ∷ []) ++ as') ass) ts ≡ true →
      layer_value ReprKind.ExplicitVarSizeWithFlags (sets ks e) (t ∷ ts) vs ≡
      option_map (λ ns. set_of vs) (used_numbers where_flagged (volume (one_to (slots_of_set ks e) ∷ [])) (t ∷ []))
  flags-value o over =
      value-with-child ReprKind.ExplicitVarSizeWithFlags (sets ks e) e (flags_layer ks e) ass (t ∷ ts) refl refl (run-differs 1 (slots_of_set ks e), tt) (o.over, o.filled) over vs
      ∙ as-map (used_numbers where_flagged (volume (one_to (slots_of_set ks e) ∷ [])) (t ∷ [])) (set_of vs)

  -- Multisets up to a marker.
  pub repetition-value : t.axes ≡ [] → over_axes [] (map (λ as'. (one_to (slots_of_mset ks e) ∷ []) ++ as') ass) ts ≡ true →
      layer_value ReprKind.MSetExplicitWithRepetition (msets ks e) (t ∷ ts) vs ≡
      option_map (λ ns. mset_of vs) (used_numbers up_to_marker (volume (one_to (slots_of_mset ks e) ∷ [])) (t ∷ []))
  repetition-value bare over =
      value-with-child ReprKind.MSetExplicitWithRepetition (msets ks e) e (repetition_layer ks e) ass (t ∷ ts) refl refl (run-differs 1 (slots_of_mset ks e), tt) bare over vs
      ∙ as-map (used_numbers up_to_marker (volume (one_to (slots_of_mset ks e) ∷ [])) (t ∷ [])) (mset_of vs)

-- ---- functions by argument

module _ (k : ReprKind) (f : Domain) (ks : List Attribute) (d c : Domain) (as' : Axes) (index : Value → List ℤ) (differ : AxesDiffer as') (ass : List Axes) (vs : List Value) where
  -- A value for each argument.
  pub total-value : layer k f ≡ Some (total_layer ks as' d c) → own_width k ≡ 0 → (ts : Tables) → over_axes [] (map (λ bs. as' ++ bs) ass) ts ≡ true →
      layer_value k f ts vs ≡ Some (function_with (member_list d) vs)
  total-value at none ts over =
      value-with-child k f c (total_layer ks as' d c) ass ts at refl differ tt (subst (λ n. over_axes [] (map (λ bs. as' ++ bs) ass) (drop n ts) ≡ true) (sym none) over) vs

  -- A value for each argument whose flag is true.
  pub partial-value : layer k f ≡ Some (partial_layer ks as' index d c) → own_width k ≡ 1 → Arguments d as' index → (t : Table) (ts : Tables) → TableOver as' t →
      over_axes [] (map (λ bs. as' ++ bs) ass) ts ≡ true →
      layer_value k f (t ∷ ts) vs ≡ and_then (used_numbers where_flagged (volume as') (t ∷ [])) (λ ns. option_map (λ xs. function_with xs vs) (picked t.items (member_list d)))
  partial-value at one args t ts o over =
      value-with-child k f c (partial_layer ks as' index d c) ass (t ∷ ts) at refl differ (subst (λ n. UseOver where_flagged as' (take n (t ∷ ts))) (sym one) (o.over, o.filled))
      (subst (λ n. over_axes [] (map (λ bs. as' ++ bs) ass) (drop n (t ∷ ts)) ≡ true) (sym one) over) vs
      ∙ ap (λ n. and_then (used_numbers where_flagged (volume as') (take n (t ∷ ts))) (λ ns. option_map (λ xs. function_with xs vs) (chosen (member_list d) (λ x. own_cell (cells_of (take n (t ∷ ts))) (index x))))) one
      ∙ ap (λ q. and_then (used_numbers where_flagged (volume as') (t ∷ [])) (λ ns. option_map (λ xs. function_with xs vs) q))
      (chosen-picked (member_list d) t.items (λ x. cell_at t (index x)) (cells-along d as' index args differ t o))
