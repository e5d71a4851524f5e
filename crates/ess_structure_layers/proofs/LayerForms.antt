-- The tables and the structure of a layer with one child, by what stands below it.
use Rattle.std.proofs.Common.{◌≡◌, refl, sym, ap, ℕ, false, List, [], ◌∷◌, ◌++◌, map, drop, Option, Some, None}
use Rattle.ess_semantics.specs.declared.words.ReprKind.{ReprKind}
use Rattle.ess_semantics.specs.Kinds.{dom_list}
use Rattle.ess_semantics.specs.Representations.{own_width}
use Rattle.ess_semantics.specs.Values.{Text}
use Rattle.ess_semantics.specs.Trees.{Repr, repr, no_reprs, more_reprs, Ex, Exs, truth_ex, Dom, tuple_dom, matrix_dom, set_dom, mset_dom, function_dom, relation_dom, partition_dom, Mark}
use Rattle.ess_repr_laws.specs.CanonicalTables.{is_compound}
use Rattle.ess_repr_laws.specs.StructureParts.{Shape, on_axes, level_behind, row_index, first_name, upto, tuple_set_dom}
use Rattle.ess_repr_laws.specs.FunctionParts.{bare_function_dom, total_ex, partial_ex}
use Rattle.ess_repr_laws.specs.MultisetParts.{bare_mset_dom, repetition_ex}
use Rattle.ess_repr_laws.specs.ViewParts.{shape_names, pair_relation_dom, part_set_dom}
use Rattle.ess_repr_laws.specs.Structure.{shapes, structure}
use Rattle.ess_repr_declare_laws.specs.SizeTerms.{slots_ex, size_terms}
use Rattle.conjure_model_laws.specs.ToldApart.{reserved}
use Rattle.ess_structure_domains.specs.Inner.{Inner, inner_of}
use Rattle.ess_structure_layers.specs.Over.{shapes_over, structure_over}
use Rattle.ess_structure_layers.specs.Layers.{own_shapes, view_over, layer_structure}

-- ---- tables

-- No further axes.
no-axes : (ss : List Shape) → map (on_axes []) ss ≡ ss
no-axes [] = refl
no-axes (s ∷ ss) = ap (λ l. s ∷ l) (no-axes ss)

-- The tables of a layer, by what stands below it.
pub shapes_are : (k : ReprKind) (r : Repr) (d : Dom) (ns : List Text) → is_compound k ≡ false →
    shapes reserved size_terms (repr k (more_reprs r no_reprs)) d ns ≡ shapes_over (inner_of k d) k r ns
shapes_are ReprKind.Tuple r d ns h = cc
shapes_are ReprKind.Rec r d ns h = cc
shapes_are ReprKind.RelationAsSet r (relation_dom ms es ds) ns h =
    sym (no-axes (shapes reserved size_terms r (tuple_set_dom ms es ds) ns))
shapes_are ReprKind.FunctionAsRelation r (function_dom ms es d c) ns h =
    sym (no-axes (shapes reserved size_terms r (pair_relation_dom size_terms ms es d c) ns))
shapes_are ReprKind.PartitionAsSet r (partition_dom ms es d) ns h =
    sym (no-axes (shapes reserved size_terms r (part_set_dom size_terms ms es d) ns))
shapes_are ReprKind.FunctionND r (function_dom ms es (tuple_dom ds) c) ns h = refl
shapes_are ReprKind.FunctionNDPartial r (function_dom ms es (tuple_dom ds) c) ns h = refl
shapes_are ReprKind.Matrix r (matrix_dom is d) ns h = refl
shapes_are ReprKind.Explicit r (set_dom ms es d) ns h = refl
shapes_are ReprKind.ExplicitVarSizeWithMarker r (set_dom ms es d) ns h = refl
shapes_are ReprKind.ExplicitVarSizeWithFlags r (set_dom ms es d) ns h = refl
shapes_are ReprKind.MSetExplicitWithFlags r (mset_dom ms es d) ns h = refl
shapes_are ReprKind.MSetExplicitWithRepetition r (mset_dom ms es d) ns h = refl
shapes_are ReprKind.Function1D r (function_dom ms es d c) ns h = refl
shapes_are ReprKind.Function1DPartial r (function_dom ms es d c) ns h = refl
shapes_are _ r d ns h = refl

-- ---- the structure

-- Further axes leave names.
names-stay : (as' : List Dom) (ss : List Shape) → shape_names (map (on_axes as') ss) ≡ shape_names ss
names-stay as' [] = refl
names-stay as' (s ∷ ss) = ap (λ l. s.name ∷ l) (names-stay as' ss)

total-names : (k : ReprKind) (r : Repr) (ms : List Mark) (es : Exs) (d c : Dom) (as' : List Dom) (ss : List Shape) (l : ℕ) (is : Exs) (part : Ex) →
    total_ex reserved l ms es as' ss is r c (view_over k r (bare_function_dom d c) (shape_names (map (on_axes as') ss)) is) part
    ≡ total_ex reserved l ms es as' ss is r c (view_over k r (bare_function_dom d c) (shape_names ss) is) part
total-names k r ms es d c as' ss l is part =
    ap (λ ns. total_ex reserved l ms es as' ss is r c (view_over k r (bare_function_dom d c) ns is) part) (names-stay as' ss)

partial-names : (k : ReprKind) (r : Repr) (ms : List Mark) (es : Exs) (d c : Dom) (as' : List Dom) (ss : List Shape) (n : Text) (l : ℕ) (is : Exs) (part : Ex) →
    partial_ex reserved l ms es as' n is ss c (view_over k r (bare_function_dom d c) (n ∷ shape_names (map (on_axes as') ss)) is) part
    ≡ partial_ex reserved l ms es as' n is ss c (view_over k r (bare_function_dom d c) (n ∷ shape_names ss) is) part
partial-names k r ms es d c as' ss n l is part =
    ap (λ ns. partial_ex reserved l ms es as' n is ss c (view_over k r (bare_function_dom d c) (n ∷ ns) is) part) (names-stay as' ss)

repetition-names : (r : Repr) (ms : List Mark) (es : Exs) (size : Ex) (d : Dom) (as' : List Dom) (ss : List Shape) (n : Text) (l : ℕ) (is : Exs) (part : Ex) →
    repetition_ex reserved l ms es size n ss is
    (view_over ReprKind.MSetExplicitWithRepetition r (bare_mset_dom size d) (n ∷ shape_names (map (on_axes as') ss)) is) part
    ≡ repetition_ex reserved l ms es size n ss is
    (view_over ReprKind.MSetExplicitWithRepetition r (bare_mset_dom size d) (n ∷ shape_names ss) is) part
repetition-names r ms es size d as' ss n l is part =
    ap (λ ns. repetition_ex reserved l ms es size n ss is (view_over ReprKind.MSetExplicitWithRepetition r (bare_mset_dom size d) (n ∷ ns) is) part)
    (names-stay as' ss)

-- The tables of the child.
abbrev tables-of : Repr → Dom → List Text → List Shape
tables-of r d ns = shapes reserved size_terms r d ns

-- Its structure at the places of the axes.
abbrev part-of : Repr → Dom → List Text → ℕ → List Dom → Exs → Ex
part-of r d ns l as' is = structure reserved size_terms r d ns (level_behind l as') (row_index reserved l as' is)

-- The structure of a layer, by what stands below it.
pub structure_is : (k : ReprKind) (r : Repr) (d : Dom) (ns : List Text) (l : ℕ) (is : Exs) → is_compound k ≡ false →
    structure reserved size_terms (repr k (more_reprs r no_reprs)) d ns l is ≡ structure_over (inner_of k d) k r d ns l is
structure_is ReprKind.Tuple r d ns l is h = cc
structure_is ReprKind.Rec r d ns l is h = cc
structure_is ReprKind.FunctionND r (function_dom ms es (tuple_dom ds) c) ns l is h =
    total-names ReprKind.FunctionND r ms es (tuple_dom ds) c (dom_list ds) (tables-of r c ns) l is (part-of r c ns l (dom_list ds) is)
structure_is ReprKind.FunctionNDPartial r (function_dom ms es (tuple_dom ds) c) ns l is h =
    partial-names ReprKind.FunctionNDPartial r ms es (tuple_dom ds) c (dom_list ds) (tables-of r c (drop 1 ns)) (first_name ns) l is
    (part-of r c (drop 1 ns) l (dom_list ds) is)
structure_is ReprKind.Function1D r (function_dom ms es d c) ns l is h =
    total-names ReprKind.Function1D r ms es d c (d ∷ []) (tables-of r c ns) l is (part-of r c ns l (d ∷ []) is)
structure_is ReprKind.Function1DPartial r (function_dom ms es d c) ns l is h =
    partial-names ReprKind.Function1DPartial r ms es d c (d ∷ []) (tables-of r c (drop 1 ns)) (first_name ns) l is
    (part-of r c (drop 1 ns) l (d ∷ []) is)
structure_is ReprKind.MSetExplicitWithRepetition r (mset_dom ms es d) ns l is h =
    let size : Ex = slots_ex (mset_dom ms es d) in
    repetition-names r ms es size d (upto size ∷ []) (tables-of r d (drop 1 ns)) (first_name ns) l is (part-of r d (drop 1 ns) l (upto size ∷ []) is)
structure_is ReprKind.Matrix r (matrix_dom is d) ns l js h = refl
structure_is ReprKind.Explicit r (set_dom ms es d) ns l is h = refl
structure_is ReprKind.ExplicitVarSizeWithMarker r (set_dom ms es d) ns l is h = refl
structure_is ReprKind.ExplicitVarSizeWithFlags r (set_dom ms es d) ns l is h = refl
structure_is ReprKind.MSetExplicitWithFlags r (mset_dom ms es d) ns l is h = refl
structure_is ReprKind.RelationAsSet r (relation_dom ms es ds) ns l is h = refl
structure_is ReprKind.FunctionAsRelation r (function_dom ms es d c) ns l is h = refl
structure_is ReprKind.PartitionAsSet r (partition_dom ms es d) ns l is h = refl
structure_is _ r d ns l is h = refl
