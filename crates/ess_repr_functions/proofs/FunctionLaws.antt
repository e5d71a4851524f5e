-- One layer of a function on rows is its layer on cells: parts, tables, values.
use Rattle.std.proofs.Common.{◌≡◌, refl, sym, ap, ◌∙◌, subst, true, List, [], ◌∷◌, ◌++◌, map, length, take, drop, ℤ, Some, option_map}
use Rattle.std.proofs.Common.{append-nil}
use Rattle.std.specs.List.{list_all}
use Rattle.ess_semantics.specs.declared.words.ReprKind.{ReprKind}
use Rattle.ess_semantics.specs.Lists.{and_then}
use Rattle.ess_semantics.specs.Values.{Value, a_function, node, nil, items_of}
use Rattle.ess_semantics.specs.Collections.{value_at}
use Rattle.ess_semantics.specs.Trees.{Repr, Reprs, repr, no_reprs, more_reprs}
use Rattle.ess_semantics.specs.Domains.{Attribute, Domain, functions, tuples, domain_list, member_list}
use Rattle.ess_semantics.specs.Sizes.{child_relation}
use Rattle.ess_semantics.specs.Tables.{Tables, code, volume}
use Rattle.ess_semantics.specs.Cells.{Axes}
use Rattle.ess_semantics.specs.Layers.{codes_of, everywhere, where_flagged}
use Rattle.ess_semantics.specs.FunctionLayers.{total_layer, partial_layer, function_with, function_as_relation_layer}
use Rattle.ess_semantics.specs.Canonical.{somes}
use Rattle.ess_semantics.specs.Representations.{layer, own_width}
use Rattle.ess_semantics.specs.Declarations.{axes_of}
use Rattle.ess_semantics.specs.Tidy.{over_axes}
use Rattle.ess_semantics.specs.OneLayer.{inner_values, layer_tables, layer_value}
use Rattle.ess_repr_laws.specs.Rooms.{Covered}
use Rattle.ess_repr_laws.proofs.CanonicalPlaces.{AllOf, all-of-list}
use Rattle.ess_repr_laws.proofs.TablesAndCells.{AxesDiffer}
use Rattle.ess_repr_laws.proofs.AxesOfTables.{axes-differ}
use Rattle.ess_repr_laws.proofs.Arguments.{Arguments}
use Rattle.ess_repr_laws.proofs.TupleMembers.{place_of}
use Rattle.ess_repr_rows_laws.specs.Stacking.{stacked}
use Rattle.ess_repr_rows_laws.specs.Cutting.{parts_at, used_numbers}
use Rattle.ess_repr_rows_laws.proofs.ArgumentLayers.{tables-spread, total-rows, partial-rows, arguments-count}
use Rattle.ess_repr_rows_laws.proofs.LayerDownRows.{tables-with-child}
use Rattle.ess_repr_rows_laws.proofs.UsedSlots.{UseOver}
use Rattle.ess_repr_rows_laws.proofs.LayerUpRows.{inner-with-child}
use Rattle.ess_repr_rows_laws.proofs.LayerValues.{total-value, partial-value}
use Rattle.ess_repr_functions.specs.declared.forms.Form.TheVariants.{ForEach, Flagged, AsRelation}
use Rattle.ess_repr_functions.specs.FunctionForms.{form_of}
use Rattle.ess_repr_functions.specs.FunctionRows.{relation_of_pairs, parts_by, tables_by, value_by}
use Rattle.ess_repr_functions.specs.FunctionPremises.{children_of, PartsOver, ChildOver}
use Rattle.ess_repr_functions.proofs.FunctionArguments.{atom-places, atom-differ, tuple-places, tuple-differ, over-declared, first-over}
use Rattle.ess_repr_functions.proofs.FunctionArguments.{others-over, no-child, second-child}
use Rattle.ess_repr_functions.proofs.FunctionPicks.{flagged-picked}

-- ---- parts

-- The values at the arguments are the inner values.
by-argument : (d : Domain) (v : Value) →
    somes (map (value_at (items_of v)) (member_list d)) ≡ somes (map (value_at (items_of v)) (member_list d)) ++ []
by-argument d v = sym (append-nil (somes (map (value_at (items_of v)) (member_list d))))

-- The parts of a function.
pub parts-layer : (k : ReprKind) (ks : List Attribute) (d c : Domain) (v : Value) →
    option_map (λ f. parts_by f d v) (form_of k d) ≡ option_map (λ l. inner_values l v) (layer k (functions ks d c))
parts-layer ReprKind.Function1D ks d c v = ap Some (by-argument d v)
parts-layer ReprKind.Function1DPartial ks d c v = ap Some (by-argument d v)
parts-layer ReprKind.FunctionND ks (tuples ds) c v = ap Some (by-argument (tuples ds) v)
parts-layer ReprKind.FunctionNDPartial ks (tuples ds) c v = ap Some (by-argument (tuples ds) v)
parts-layer ReprKind.FunctionAsRelation ks d c v = refl
parts-layer _ ks d c v = refl

-- ---- tables

-- The tables of each part are over the child's axes.
each-over : (r : Repr) (e : Domain) (ass : List Axes) (tss : List Tables) → PartsOver r e ass tss →
    AllOf tss (λ ts. over_axes [] (axes_of r e) ts ≡ true)
each-over r e ass tss p =
    all-of-list tss (over_axes [] (axes_of r e)) (subst (λ as''. list_all (over_axes [] as'') tss ≡ true) (sym p.axes) p.over)

module _ (k : ReprKind) (r : Repr) (ks : List Attribute) (d c : Domain) (v : Value) (ass : List Axes) (tss : List Tables)
    (covered : Covered r c) (p : PartsOver r c ass tss) (as' : Axes) (index : Value → List ℤ) (differ : AxesDiffer as') where
  total-tables : layer k (functions ks d c) ≡ Some (total_layer ks as' d c) →
      Some (tables_by (ForEach as') d v ass tss) ≡ layer_tables (repr k (more_reprs r no_reprs)) (functions ks d c) v tss
  total-tables at =
      ap (λ as''. Some (tables_by (ForEach as') d v as'' tss)) (sym p.axes)
      ∙ sym (total-rows r tss v ks d c as' index differ (axes-differ r c covered) (each-over r c ass tss p) k (functions ks d c) at)

  partial-tables : Arguments d as' index → layer k (functions ks d c) ≡ Some (partial_layer ks as' index d c) →
      Some (tables_by (Flagged as') d v ass tss) ≡ layer_tables (repr k (more_reprs r no_reprs)) (functions ks d c) v tss
  partial-tables args at =
      ap (λ as''. Some (tables_by (Flagged as') d v as'' tss)) (sym p.axes)
      ∙ sym (partial-rows r tss v ks d c as' index differ (axes-differ r c covered) (each-over r c ass tss p) k (functions ks d c) at
      (arguments-count r tss v d as' index args))

relation-tables : (r : Repr) (ks : List Attribute) (d c : Domain) (v : Value) (ass : List Axes) (tss : List Tables) →
    Covered r (child_relation ks d c) → PartsOver r (child_relation ks d c) ass tss →
    Some (tables_by AsRelation d v ass tss)
    ≡ layer_tables (repr ReprKind.FunctionAsRelation (more_reprs r no_reprs)) (functions ks d c) v tss
relation-tables r ks d c v ass tss covered p =
    ap (λ as''. Some (tables_by AsRelation d v as'' tss)) (sym p.axes)
    ∙ ap (λ ss. Some (stacked [] (axes_of r e) ss)) (sym (tables-spread (Some (relation_of_pairs v) ∷ []) tss))
    ∙ sym (tables-with-child ReprKind.FunctionAsRelation r (functions ks d c) e (function_as_relation_layer ks d c) v
    (Some (relation_of_pairs v) ∷ []) tss refl refl refl tt (axes-differ r e covered)
    (each-over r e ass tss p) refl)
  where
    e : Domain
    e = child_relation ks d c

-- The tables of a function.
pub tables-layer : (k : ReprKind) (rs : Reprs) (ks : List Attribute) (d c : Domain) (v : Value) (ass : List Axes) (tss : List Tables) →
    Covered (repr k rs) (functions ks d c) → ChildOver rs (children_of k (functions ks d c)) ass tss →
    option_map (λ f. tables_by f d v ass tss) (form_of k d) ≡ layer_tables (repr k rs) (functions ks d c) v tss
tables-layer ReprKind.Function1D (more_reprs r no_reprs) ks d c v ass tss h p =
    total-tables ReprKind.Function1D r ks d c v ass tss h.1 p (codes_of d ∷ []) (λ x. code x ∷ []) (atom-differ d h.0) refl
tables-layer ReprKind.Function1DPartial (more_reprs r no_reprs) ks d c v ass tss h p =
    partial-tables ReprKind.Function1DPartial r ks d c v ass tss h.1 p (codes_of d ∷ []) (λ x. code x ∷ []) (atom-differ d h.0)
    (atom-places d h.0) refl
tables-layer ReprKind.FunctionND (more_reprs r no_reprs) ks (tuples ds) c v ass tss h p =
    total-tables ReprKind.FunctionND r ks (tuples ds) c v ass tss h.1 p (map codes_of (domain_list ds)) place_of (tuple-differ ds h.0) refl
tables-layer ReprKind.FunctionNDPartial (more_reprs r no_reprs) ks (tuples ds) c v ass tss h p =
    partial-tables ReprKind.FunctionNDPartial r ks (tuples ds) c v ass tss h.1 p (map codes_of (domain_list ds)) place_of
    (tuple-differ ds h.0) (tuple-places ds h.0) refl
tables-layer ReprKind.FunctionAsRelation (more_reprs r no_reprs) ks d c v ass tss h p = relation-tables r ks d c v ass tss h p
tables-layer k no_reprs ks d c v ass tss h p = absurd (no-child k ks d c h)
tables-layer _ (more_reprs r no_reprs) ks d c v ass tss h p = absurd h
tables-layer k (more_reprs r (more_reprs s rs)) ks d c v ass tss h p = absurd (second-child k r s rs ks d c h)

-- ---- values

module _ (k : ReprKind) (r : Repr) (ks : List Attribute) (d c : Domain) (as' : Axes) (index : Value → List ℤ)
    (differ : AxesDiffer as') where
  -- the child's tables, under the arguments
  abbrev under_arguments : List Axes
  under_arguments = map (λ bs. as' ++ bs) (axes_of r c)

  -- the axes of all tables
  abbrev all_axes : List Axes
  all_axes = axes_of (repr k (more_reprs r no_reprs)) (functions ks d c)

  module _ (at : layer k (functions ks d c) ≡ Some (total_layer ks as' d c)) (none : own_width k ≡ 0) (ts : Tables)
      (over : over_axes [] all_axes ts ≡ true) where
    rest : over_axes [] under_arguments (drop (own_width k) ts) ≡ true
    rest =
        subst (λ n. over_axes [] under_arguments (drop n ts) ≡ true) (sym none)
        (over-declared k r (functions ks d c) c (total_layer ks as' d c) at refl ts over)

    total-up : (vs : List Value) → value_by (ForEach as') d ts vs ≡ layer_value k (functions ks d c) ts vs
    total-up vs =
        sym (total-value k (functions ks d c) ks d c as' index differ (axes_of r c) vs at none ts
        (subst (λ n. over_axes [] under_arguments (drop n ts) ≡ true) none rest))

  module _ (args : Arguments d as' index) (at : layer k (functions ks d c) ≡ Some (partial_layer ks as' index d c))
      (one : own_width k ≡ 1) where
    flagged : (ts : Tables) → over_axes [] all_axes ts ≡ true → over_axes [] (as' ∷ under_arguments) ts ≡ true
    flagged ts over = over-declared k r (functions ks d c) c (partial_layer ks as' index d c) at refl ts over

    partial-up : (ts : Tables) (vs : List Value) → over_axes [] all_axes ts ≡ true →
        value_by (Flagged as') d ts vs ≡ layer_value k (functions ks d c) ts vs
    partial-up [] vs over = let h = flagged [] over in cc
    partial-up (t ∷ ts) vs over =
        let h = flagged (t ∷ ts) over in
        let o = first-over as' under_arguments t ts h in
        sym (flagged-picked (λ xs. function_with xs vs) 0 t.items (member_list d)
        (o.filled ∙ sym (arguments-count r [] (node a_function nil) d as' index args)))
        ∙ sym (partial-value k (functions ks d c) ks d c as' index differ (axes_of r c) vs at one args t ts o
        (others-over as' under_arguments t ts h))

-- The value that the tables of a function stand for.
pub value-layer : (k : ReprKind) (rs : Reprs) (ks : List Attribute) (d c : Domain) (ts : Tables) (vs : List Value) →
    Covered (repr k rs) (functions ks d c) →
    over_axes [] (axes_of (repr k rs) (functions ks d c)) ts ≡ true →
    and_then (form_of k d) (λ f. value_by f d ts vs) ≡ layer_value k (functions ks d c) ts vs
value-layer ReprKind.Function1D (more_reprs r no_reprs) ks d c ts vs h o =
    total-up ReprKind.Function1D r ks d c (codes_of d ∷ []) (λ x. code x ∷ []) (atom-differ d h.0) refl refl ts o vs
value-layer ReprKind.Function1DPartial (more_reprs r no_reprs) ks d c ts vs h o =
    partial-up ReprKind.Function1DPartial r ks d c (codes_of d ∷ []) (λ x. code x ∷ []) (atom-differ d h.0) (atom-places d h.0)
    refl refl ts vs o
value-layer ReprKind.FunctionND (more_reprs r no_reprs) ks (tuples ds) c ts vs h o =
    total-up ReprKind.FunctionND r ks (tuples ds) c (map codes_of (domain_list ds)) place_of (tuple-differ ds h.0) refl refl ts o vs
value-layer ReprKind.FunctionNDPartial (more_reprs r no_reprs) ks (tuples ds) c ts vs h o =
    partial-up ReprKind.FunctionNDPartial r ks (tuples ds) c (map codes_of (domain_list ds)) place_of (tuple-differ ds h.0)
    (tuple-places ds h.0) refl refl ts vs o
value-layer ReprKind.FunctionAsRelation (more_reprs r no_reprs) ks d c ts vs h o = refl
value-layer k no_reprs ks d c ts vs h o = absurd (no-child k ks d c h)
value-layer _ (more_reprs r no_reprs) ks d c ts vs h o = absurd h
value-layer k (more_reprs r (more_reprs s rs)) ks d c ts vs h o = absurd (second-child k r s rs ks d c h)
