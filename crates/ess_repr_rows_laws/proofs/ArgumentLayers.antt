-- Layers whose places have an order of their own, on rows: functions by argument, matrices, and values that are kept as another one.
use Rattle.std.proofs.Common.{◌≡◌, refl, sym, ap, ◌∙◌, ℕ, zero, suc, ◌+◌, Bool, true, ◌&&◌, List, [], ◌∷◌, ◌++◌, map, length, drop, ℤ, pos, Option, Some, None, is_some, append-nil, arith}
use Rattle.std.proofs.lemmas.Bool.{eqb-true, eq-eqb}
use Rattle.ess_semantics.specs.declared.words.ReprKind.{ReprKind}
use Rattle.ess_semantics.specs.Values.{Value, a_set, a_relation, node, of_list, items_of}
use Rattle.ess_semantics.specs.Collections.{value_at}
use Rattle.ess_semantics.specs.Order.{same_ints}
use Rattle.ess_semantics.specs.Trees.{Repr, repr, no_reprs, more_reprs}
use Rattle.ess_semantics.specs.Domains.{Attribute, Domain, Domains, matrices, functions, relations, partitions, domain_list, member_list}
use Rattle.ess_semantics.specs.Sizes.{child_relation, child_set, child_parts}
use Rattle.ess_semantics.specs.Tables.{Table, Tables, volume, truth_number, is_filled, same_axes}
use Rattle.ess_semantics.specs.Cells.{Axes}
use Rattle.ess_semantics.specs.Layers.{Slot, codes_of, some_each, flags_table}
use Rattle.ess_semantics.specs.ScalarLayers.{elements, matrix_layer}
use Rattle.ess_semantics.specs.FunctionLayers.{total_layer, partial_layer, function_as_relation_layer}
use Rattle.ess_semantics.specs.RelationLayers.{relation_as_set_layer}
use Rattle.ess_semantics.specs.PartitionLayers.{partition_as_set_layer}
use Rattle.ess_semantics.specs.Representations.{layer}
use Rattle.ess_semantics.specs.Tidy.{over_axes}
use Rattle.ess_semantics.specs.Declarations.{axes_of}
use Rattle.ess_semantics.specs.OneLayer.{layer_tables}
use Rattle.ess_semantics.proofs.Tests.{and-left, and-right, and-both}
use Rattle.ess_semantics.proofs.Orders.{same_ints-itself}
use Rattle.ess_repr_laws.proofs.CanonicalPlaces.{AllOf}
use Rattle.ess_repr_laws.proofs.TablesAndCells.{AxesDiffer, AllAxesDiffer, tables-themselves}
use Rattle.ess_repr_laws.proofs.Arguments.{Arguments}
use Rattle.ess_repr_laws.proofs.ArgumentTables.{places-volume}
use Rattle.ess_repr_rows_laws.specs.SlotOrder.{Filled, filled, tables_in}
use Rattle.ess_repr_rows_laws.specs.Stacking.{fitted, items_of_table, stacked_from, stacked}
use Rattle.ess_repr_rows_laws.specs.RowLayers.{all_used, spread, flagged_tables}
use Rattle.ess_repr_rows_laws.proofs.Blocks.{map-length, fitted-behind, fitted-zero}
use Rattle.ess_repr_rows_laws.proofs.Stacked.{slots_of, axes-equal}
use Rattle.ess_repr_rows_laws.proofs.LayerDownRows.{tables-with-child}

-- ---- slots as they stand

-- The tables of the slots stand where the values do.
pub tables-spread : (vs : List (Option Value)) (tss : List Tables) → tables_in (filled vs tss) ≡ spread (map is_some vs) tss
tables-spread [] tss = refl
tables-spread (None ∷ vs) tss = ap (λ l. None ∷ l) (tables-spread vs tss)
tables-spread (Some v ∷ vs) [] = ap (λ l. None ∷ l) (tables-spread vs [])
tables-spread (Some v ∷ vs) (ts ∷ tss) = ap (λ l. Some ts ∷ l) (tables-spread vs tss)

-- Where there is a value everywhere, all are in use.
pub tables-everywhere : (xs : List Value) (tss : List Tables) → length tss ≡ length xs → tables_in (filled (some_each xs) tss) ≡ all_used tss
tables-everywhere [] [] e = refl
tables-everywhere [] (ts ∷ tss) e = cc
tables-everywhere (x ∷ xs) [] e = cc
tables-everywhere (x ∷ xs) (ts ∷ tss) e = let q : length tss ≡ length xs = cc in ap (λ l. Some ts ∷ l) (tables-everywhere xs tss q)

flags-spread : (fs : List (Option Filled)) → map (λ s. truth_number (is_some s)) (slots_of fs) ≡ map (λ s. truth_number (is_some s)) (tables_in fs)
flags-spread [] = refl
flags-spread (None ∷ fs) = ap (λ l. pos 0 ∷ l) (flags-spread fs)
flags-spread (Some s ∷ fs) = ap (λ l. pos 1 ∷ l) (flags-spread fs)

filled-length : (vs : List (Option Value)) (tss : List Tables) → length (slots_of (filled vs tss)) ≡ length vs
filled-length [] tss = refl
filled-length (None ∷ vs) tss = ap suc (filled-length vs tss)
filled-length (Some v ∷ vs) [] = ap suc (filled-length vs [])
filled-length (Some v ∷ vs) (ts ∷ tss) = ap suc (filled-length vs tss)

-- ---- tables that are over their axes

axes-itself : (as' : Axes) → same_axes as' as' ≡ true
axes-itself [] = refl
axes-itself (a ∷ as') = and-both (same_ints a a) (same_axes as' as') (same_ints-itself a) (axes-itself as')

-- A table with an item for each list of members.
pub one-over : (as' : Axes) (is : List ℤ) → length is ≡ volume as' → over_axes [] (as' ∷ []) (record { axes = as'; items = is } ∷ []) ≡ true
one-over as' is e =
    and-both (is_filled t && same_axes as' as') true (and-both (is_filled t) (same_axes as' as') (eq-eqb (length is) (volume as') e) (axes-itself as')) refl
  where
    t : Table
    t = record { axes = as'; items = is }

-- ---- by argument

module _ (r : Repr) (tss : List Tables) (v : Value) where
  module _ (ks : List Attribute) (d c : Domain) (as' : Axes) (index : Value → List ℤ) (differ : AxesDiffer as') (inner : AllAxesDiffer (axes_of r c)) (over : AllOf tss (λ ts. over_axes [] (axes_of r c) ts ≡ true)) where
    -- Which arguments have a value.
    abbrev pub has_value : List Bool
    has_value = map is_some (map (value_at (items_of v)) (member_list d))

    -- A value for each argument.
    pub total-rows : (k : ReprKind) (e : Domain) → layer k e ≡ Some (total_layer ks as' d c) →
        layer_tables (repr k (more_reprs r no_reprs)) e v tss ≡ Some (stacked as' (axes_of r c) (spread has_value tss))
    total-rows k e at =
        tables-with-child k r e c (total_layer ks as' d c) v (map (value_at (items_of v)) (member_list d)) tss at refl refl differ inner over refl
        ∙ ap (λ ss. Some (stacked as' (axes_of r c) ss)) (tables-spread (map (value_at (items_of v)) (member_list d)) tss)

    -- A flag and a value for each argument.
    pub partial-rows : (k : ReprKind) (e : Domain) → layer k e ≡ Some (partial_layer ks as' index d c) → length (member_list d) ≡ volume as' →
        layer_tables (repr k (more_reprs r no_reprs)) e v tss ≡ Some (flagged_tables as' (axes_of r c) (spread has_value tss))
    partial-rows k e at count =
        tables-with-child k r e c (partial_layer ks as' index d c) v vs tss at refl refl differ inner over refl
        ∙ ap (λ ts. Some (ts ++ stacked as' (axes_of r c) (tables_in fs)))
        (tables-themselves (as' ∷ []) (flags_table as' (slots_of fs) ∷ []) (differ, tt) (one-over as' (map (λ s. truth_number (is_some s)) (slots_of fs)) flags-count))
        ∙ ap (λ is. Some (record { axes = as'; items = is } ∷ stacked as' (axes_of r c) (tables_in fs))) (flags-spread fs)
        ∙ ap (λ ss. Some (flagged_tables as' (axes_of r c) ss)) (tables-spread vs tss)
      where
        vs : List (Option Value)
        vs = map (value_at (items_of v)) (member_list d)

        fs : List (Option Filled)
        fs = filled vs tss

        flags-count : length (map (λ s. truth_number (is_some s)) (slots_of fs)) ≡ volume as'
        flags-count = map-length (λ (s : Option Slot). truth_number (is_some s)) (slots_of fs) ∙ filled-length vs tss ∙ map-length (value_at (items_of v)) (member_list d) ∙ count

  -- There are as many arguments as places.
  pub arguments-count : (d : Domain) (as' : Axes) (index : Value → List ℤ) → Arguments d as' index → length (member_list d) ≡ volume as'
  arguments-count d as' index args = sym (map-length index (member_list d)) ∙ ap length (sym args.places) ∙ places-volume as'

  -- ---- matrices

  -- The elements, row by row.
  pub matrix-rows : (is : Domains) (d : Domain) → AxesDiffer (map codes_of (domain_list is)) → AllAxesDiffer (axes_of r d) → AllOf tss (λ ts. over_axes [] (axes_of r d) ts ≡ true) →
      length tss ≡ length (elements is v) →
      layer_tables (repr ReprKind.Matrix (more_reprs r no_reprs)) (matrices is d) v tss ≡ Some (stacked (map codes_of (domain_list is)) (axes_of r d) (all_used tss))
  matrix-rows is d differ inner over long =
      tables-with-child ReprKind.Matrix r (matrices is d) d (matrix_layer is d) v (some_each (elements is v)) tss refl refl refl differ inner over refl
      ∙ ap (λ ss. Some (stacked (map codes_of (domain_list is)) (axes_of r d) ss)) (tables-everywhere (elements is v) tss long)

-- ---- values that are kept as another one

take-whole : (n : ℕ) (xs : List ℤ) → length xs ≡ n → fitted n xs ≡ xs
take-whole n xs e =
    let q : n ≡ length xs + 0 = omega (arith, e) in
    ap (λ m. fitted m xs) q ∙ ap (fitted (length xs + 0)) (sym (append-nil xs)) ∙ fitted-behind xs [] 0 ∙ ap (λ l. xs ++ l) (fitted-zero []) ∙ append-nil xs

drop-one : {A : Type 0} (k : ℕ) (xs : List A) (y : A) (ys : List A) → drop k xs ≡ y ∷ ys → drop (suc k) xs ≡ ys
drop-one zero [] y ys e = cc
drop-one zero (x ∷ xs) y ys e = cc
drop-one (suc k) [] y ys e = cc
drop-one (suc k) (x ∷ xs) y ys e = drop-one k xs y ys e

-- One slot under no axes has its own tables.
stacked-one : (k : ℕ) (ass : List Axes) (ts us : Tables) → drop k ts ≡ us → over_axes [] ass us ≡ true → stacked_from k [] ass (Some ts ∷ []) ≡ us
stacked-one k [] ts [] e h = refl
stacked-one k [] ts (u ∷ us) e h = cc
stacked-one k (as' ∷ ass) ts [] e h = cc
stacked-one k (as' ∷ ass) ts (u ∷ us) e h =
    let one = and-left (is_filled u && same_axes u.axes as') (over_axes [] ass us) h in
    let a = axes-equal u.axes as' (and-right (is_filled u) (same_axes u.axes as') one) in
    let n = eqb-true (length u.items) (volume u.axes) (and-left (is_filled u) (same_axes u.axes as') one) in
    ap (λ is. record { axes = as'; items = is } ∷ stacked_from (suc k) [] ass (Some ts ∷ []))
    (ap (fitted (volume as')) (append-nil (items_of_table k ts) ∙ at k ts u us e) ∙ take-whole (volume as') u.items (n ∙ ap volume a))
    ∙ ap (λ x. record { axes = x; items = u.items } ∷ stacked_from (suc k) [] ass (Some ts ∷ [])) (sym a)
    ∙ ap (λ l. u ∷ l) (stacked-one (suc k) ass ts us (drop-one k ts u us e) (and-right (is_filled u && same_axes u.axes as') (over_axes [] ass us) h))
  where
    at : (k : ℕ) (ts : Tables) (u : Table) (us : Tables) → drop k ts ≡ u ∷ us → items_of_table k ts ≡ u.items
    at zero [] u us e = cc
    at zero (t ∷ ts) u us e = let q : t ≡ u = cc in ap (λ (x : Table). x.items) q
    at (suc k) [] u us e = cc
    at (suc k) (t ∷ ts) u us e = at k ts u us e

module _ (r : Repr) (v : Value) (ts : Tables) where
  -- A function as a relation.
  pub function-as-relation-rows : (ks : List Attribute) (d c : Domain) → AllAxesDiffer (axes_of r (child_relation ks d c)) → over_axes [] (axes_of r (child_relation ks d c)) ts ≡ true →
      layer_tables (repr ReprKind.FunctionAsRelation (more_reprs r no_reprs)) (functions ks d c) v (ts ∷ []) ≡ Some ts
  function-as-relation-rows ks d c inner over =
      tables-with-child ReprKind.FunctionAsRelation r (functions ks d c) (child_relation ks d c) (function_as_relation_layer ks d c) v (Some (node a_relation (of_list (items_of v))) ∷ []) (ts ∷ []) refl refl refl tt inner (over, tt) refl
      ∙ ap Some (stacked-one 0 (axes_of r (child_relation ks d c)) ts ts refl over)

  -- A relation as a set.
  pub relation-as-set-rows : (ks : List Attribute) (ds : Domains) → AllAxesDiffer (axes_of r (child_set ks ds)) → over_axes [] (axes_of r (child_set ks ds)) ts ≡ true →
      layer_tables (repr ReprKind.RelationAsSet (more_reprs r no_reprs)) (relations ks ds) v (ts ∷ []) ≡ Some ts
  relation-as-set-rows ks ds inner over =
      tables-with-child ReprKind.RelationAsSet r (relations ks ds) (child_set ks ds) (relation_as_set_layer ks ds) v (Some (node a_set (of_list (items_of v))) ∷ []) (ts ∷ []) refl refl refl tt inner (over, tt) refl
      ∙ ap Some (stacked-one 0 (axes_of r (child_set ks ds)) ts ts refl over)

  -- A partition as a set of its parts.
  pub partition-as-set-rows : (ks : List Attribute) (d : Domain) → AllAxesDiffer (axes_of r (child_parts ks d)) → over_axes [] (axes_of r (child_parts ks d)) ts ≡ true →
      layer_tables (repr ReprKind.PartitionAsSet (more_reprs r no_reprs)) (partitions ks d) v (ts ∷ []) ≡ Some ts
  partition-as-set-rows ks d inner over =
      tables-with-child ReprKind.PartitionAsSet r (partitions ks d) (child_parts ks d) (partition_as_set_layer ks d) v (Some (node a_set (of_list (items_of v))) ∷ []) (ts ∷ []) refl refl refl tt inner (over, tt) refl
      ∙ ap Some (stacked-one 0 (axes_of r (child_parts ks d)) ts ts refl over)
