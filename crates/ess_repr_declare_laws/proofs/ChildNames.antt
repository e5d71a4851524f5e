-- The attributes of children have the right names.
use Rattle.std.proofs.Common.{◌≡◌, refl, sym, ap, ◌∙◌, Bool, true, false, ◌&&◌, if◌then◌else◌, List, [], ◌∷◌, map, Some, None}
use Rattle.ess_semantics.specs.declared.words.Key.{Key}
use Rattle.ess_semantics.specs.declared.words.ReprKind.{ReprKind}
use Rattle.ess_semantics.specs.Kinds.{has_key, dom_list, is_atom, is_atom_tuple, has_dummy, are_atoms, size_marks, child_forms}
use Rattle.ess_semantics.specs.Trees.{Mark, Exs, no_exs, Dom, Doms, bool_dom, int_dom, name_dom, tuple_dom, record_dom, matrix_dom, set_dom, mset_dom, function_dom, relation_dom, partition_dom, no_doms, more_doms}
use Rattle.ess_semantics.specs.Children.{without_sizes}
use Rattle.ess_repr_laws.specs.WellFormed.{Well}
use Rattle.ess_repr_declare_laws.specs.SizeTerms.{number_of}
use Rattle.ess_repr_declare_laws.specs.ChildDomains.{child_doms}
use Rattle.ess_repr_declare_laws.specs.Laws.{has_numbers}
use Rattle.ess_repr_declare_laws.proofs.ChildTrees.{three, sets-are, pairs-are, part-is, parts_greatest, parts-are}
use Rattle.ess_repr_declare_laws.proofs.ChildSizes.{Whole, set-marks, pair-marks, part-marks, parts-marks}

-- ---- the names of attributes

-- The children have the names of attributes that they should.
abbrev Formed : ReprKind → Dom → Type 0
Formed k d = child_forms k d ≡ Some (map (without_sizes k) (child_doms k d))

if-some : {A : Type 0} (b : Bool) (x y : A) → (if b then Some x else None) ≡ Some y → (if b then Some x else None) ≡ Some x
if-some true x y h = refl
if-some false x y h = cc

tuple-same : (ds : List Dom) → map (without_sizes ReprKind.Tuple) ds ≡ ds
tuple-same [] = refl
tuple-same (d ∷ ds) = ap (λ l. d ∷ l) (tuple-same ds)

record-same : (ds : List Dom) → map (without_sizes ReprKind.Rec) ds ≡ ds
record-same [] = refl
record-same (d ∷ ds) = ap (λ l. d ∷ l) (record-same ds)

pairs-formed : (ms : List Mark) (es : Exs) (d c : Dom) → Whole ms es → Formed ReprKind.FunctionAsRelation (function_dom ms es d c)
pairs-formed ms es d c h =
    ap (λ l. Some (relation_dom l no_exs (more_doms d (more_doms c no_doms)) ∷ [])) (sym (pair-marks ms es d h))
    ∙ ap (λ r. Some (without_sizes ReprKind.FunctionAsRelation r ∷ [])) (sym (pairs-are ms es d c))

tuples-formed : (ms : List Mark) (es : Exs) (ts : Doms) → Whole ms es → Formed ReprKind.RelationAsSet (relation_dom ms es ts)
tuples-formed ms es ts h =
    ap (λ l. Some (set_dom l no_exs (tuple_dom ts) ∷ [])) (sym (set-marks ms es h))
    ∙ ap (λ r. Some (without_sizes ReprKind.RelationAsSet r ∷ [])) (sym (sets-are ms es ts))

parts-formed : (ms : List Mark) (es : Exs) (d : Dom) → Whole ms es → Formed ReprKind.PartitionAsSet (partition_dom ms es d)
parts-formed ms es d h =
    ap (λ l. Some (set_dom l no_exs (set_dom (size_marks (has_key Key.PartSize ms) (has_key Key.MinPartSize ms) (has_key Key.MaxPartSize ms)) no_exs d) ∷ [])) (sym (parts-marks ms es d h))
    ∙ ap (λ l. Some (set_dom outer.0 no_exs (set_dom l no_exs d) ∷ [])) (sym (part-marks ms es h))
    ∙ ap (λ r. Some (without_sizes ReprKind.PartitionAsSet (set_dom outer.0 outer.1 r) ∷ [])) (sym (part-is ms es d))
    ∙ ap (λ r. Some (without_sizes ReprKind.PartitionAsSet r ∷ [])) (sym (parts-are ms es d))
  where
    outer : List Mark × Exs
    outer = three (number_of Key.NumParts ms es) (number_of Key.MinNumParts ms es) (parts_greatest ms es d)

pub formed : (k : ReprKind) (d : Dom) (ds : List Dom) → Well d → has_numbers d ≡ true → child_forms k d ≡ Some ds → Formed k d
formed ReprKind.Atom bool_dom ds w n h = refl
formed ReprKind.Atom (int_dom rs es) ds w n h = refl
formed ReprKind.Atom (name_dom a) ds w n h = refl
formed ReprKind.Atom (tuple_dom ts) ds w n h = cc
formed ReprKind.Atom (record_dom fs ts) ds w n h = cc
formed ReprKind.Atom (matrix_dom is d) ds w n h = cc
formed ReprKind.Atom (set_dom ms es d) ds w n h = cc
formed ReprKind.Atom (mset_dom ms es d) ds w n h = cc
formed ReprKind.Atom (function_dom ms es d c) ds w n h = cc
formed ReprKind.Atom (relation_dom ms es ts) ds w n h = cc
formed ReprKind.Atom (partition_dom ms es d) ds w n h = cc
formed ReprKind.Tuple bool_dom ds w n h = cc
formed ReprKind.Tuple (int_dom rs es) ds w n h = cc
formed ReprKind.Tuple (name_dom a) ds w n h = cc
formed ReprKind.Tuple (tuple_dom ts) ds w n h = ap Some (sym (tuple-same (dom_list ts)))
formed ReprKind.Tuple (record_dom fs ts) ds w n h = cc
formed ReprKind.Tuple (matrix_dom is d) ds w n h = cc
formed ReprKind.Tuple (set_dom ms es d) ds w n h = cc
formed ReprKind.Tuple (mset_dom ms es d) ds w n h = cc
formed ReprKind.Tuple (function_dom ms es d c) ds w n h = cc
formed ReprKind.Tuple (relation_dom ms es ts) ds w n h = cc
formed ReprKind.Tuple (partition_dom ms es d) ds w n h = cc
formed ReprKind.Rec bool_dom ds w n h = cc
formed ReprKind.Rec (int_dom rs es) ds w n h = cc
formed ReprKind.Rec (name_dom a) ds w n h = cc
formed ReprKind.Rec (tuple_dom ts) ds w n h = cc
formed ReprKind.Rec (record_dom fs ts) ds w n h = ap Some (sym (record-same (dom_list ts)))
formed ReprKind.Rec (matrix_dom is d) ds w n h = cc
formed ReprKind.Rec (set_dom ms es d) ds w n h = cc
formed ReprKind.Rec (mset_dom ms es d) ds w n h = cc
formed ReprKind.Rec (function_dom ms es d c) ds w n h = cc
formed ReprKind.Rec (relation_dom ms es ts) ds w n h = cc
formed ReprKind.Rec (partition_dom ms es d) ds w n h = cc
formed ReprKind.Matrix bool_dom ds w n h = cc
formed ReprKind.Matrix (int_dom rs es) ds w n h = cc
formed ReprKind.Matrix (name_dom a) ds w n h = cc
formed ReprKind.Matrix (tuple_dom ts) ds w n h = cc
formed ReprKind.Matrix (record_dom fs ts) ds w n h = cc
formed ReprKind.Matrix (matrix_dom is d) ds w n h = refl
formed ReprKind.Matrix (set_dom ms es d) ds w n h = cc
formed ReprKind.Matrix (mset_dom ms es d) ds w n h = cc
formed ReprKind.Matrix (function_dom ms es d c) ds w n h = cc
formed ReprKind.Matrix (relation_dom ms es ts) ds w n h = cc
formed ReprKind.Matrix (partition_dom ms es d) ds w n h = cc
formed ReprKind.Occurrence bool_dom ds w n h = cc
formed ReprKind.Occurrence (int_dom rs es) ds w n h = cc
formed ReprKind.Occurrence (name_dom a) ds w n h = cc
formed ReprKind.Occurrence (tuple_dom ts) ds w n h = cc
formed ReprKind.Occurrence (record_dom fs ts) ds w n h = cc
formed ReprKind.Occurrence (matrix_dom is d) ds w n h = cc
formed ReprKind.Occurrence (set_dom ms es d) ds w n h = if-some (is_atom d) [] ds h
formed ReprKind.Occurrence (mset_dom ms es d) ds w n h = cc
formed ReprKind.Occurrence (function_dom ms es d c) ds w n h = cc
formed ReprKind.Occurrence (relation_dom ms es ts) ds w n h = cc
formed ReprKind.Occurrence (partition_dom ms es d) ds w n h = cc
formed ReprKind.Explicit bool_dom ds w n h = cc
formed ReprKind.Explicit (int_dom rs es) ds w n h = cc
formed ReprKind.Explicit (name_dom a) ds w n h = cc
formed ReprKind.Explicit (tuple_dom ts) ds w n h = cc
formed ReprKind.Explicit (record_dom fs ts) ds w n h = cc
formed ReprKind.Explicit (matrix_dom is d) ds w n h = cc
formed ReprKind.Explicit (set_dom ms es d) ds w n h = if-some (has_key Key.Size ms) (d ∷ []) ds h
formed ReprKind.Explicit (mset_dom ms es d) ds w n h = cc
formed ReprKind.Explicit (function_dom ms es d c) ds w n h = cc
formed ReprKind.Explicit (relation_dom ms es ts) ds w n h = cc
formed ReprKind.Explicit (partition_dom ms es d) ds w n h = cc
formed ReprKind.ExplicitVarSizeWithMarker bool_dom ds w n h = cc
formed ReprKind.ExplicitVarSizeWithMarker (int_dom rs es) ds w n h = cc
formed ReprKind.ExplicitVarSizeWithMarker (name_dom a) ds w n h = cc
formed ReprKind.ExplicitVarSizeWithMarker (tuple_dom ts) ds w n h = cc
formed ReprKind.ExplicitVarSizeWithMarker (record_dom fs ts) ds w n h = cc
formed ReprKind.ExplicitVarSizeWithMarker (matrix_dom is d) ds w n h = cc
formed ReprKind.ExplicitVarSizeWithMarker (set_dom ms es d) ds w n h = refl
formed ReprKind.ExplicitVarSizeWithMarker (mset_dom ms es d) ds w n h = cc
formed ReprKind.ExplicitVarSizeWithMarker (function_dom ms es d c) ds w n h = cc
formed ReprKind.ExplicitVarSizeWithMarker (relation_dom ms es ts) ds w n h = cc
formed ReprKind.ExplicitVarSizeWithMarker (partition_dom ms es d) ds w n h = cc
formed ReprKind.ExplicitVarSizeWithFlags bool_dom ds w n h = cc
formed ReprKind.ExplicitVarSizeWithFlags (int_dom rs es) ds w n h = cc
formed ReprKind.ExplicitVarSizeWithFlags (name_dom a) ds w n h = cc
formed ReprKind.ExplicitVarSizeWithFlags (tuple_dom ts) ds w n h = cc
formed ReprKind.ExplicitVarSizeWithFlags (record_dom fs ts) ds w n h = cc
formed ReprKind.ExplicitVarSizeWithFlags (matrix_dom is d) ds w n h = cc
formed ReprKind.ExplicitVarSizeWithFlags (set_dom ms es d) ds w n h = refl
formed ReprKind.ExplicitVarSizeWithFlags (mset_dom ms es d) ds w n h = cc
formed ReprKind.ExplicitVarSizeWithFlags (function_dom ms es d c) ds w n h = cc
formed ReprKind.ExplicitVarSizeWithFlags (relation_dom ms es ts) ds w n h = cc
formed ReprKind.ExplicitVarSizeWithFlags (partition_dom ms es d) ds w n h = cc
formed ReprKind.ExplicitVarSizeWithDummy bool_dom ds w n h = cc
formed ReprKind.ExplicitVarSizeWithDummy (int_dom rs es) ds w n h = cc
formed ReprKind.ExplicitVarSizeWithDummy (name_dom a) ds w n h = cc
formed ReprKind.ExplicitVarSizeWithDummy (tuple_dom ts) ds w n h = cc
formed ReprKind.ExplicitVarSizeWithDummy (record_dom fs ts) ds w n h = cc
formed ReprKind.ExplicitVarSizeWithDummy (matrix_dom is d) ds w n h = cc
formed ReprKind.ExplicitVarSizeWithDummy (set_dom ms es d) ds w n h = if-some (has_dummy d) [] ds h
formed ReprKind.ExplicitVarSizeWithDummy (mset_dom ms es d) ds w n h = cc
formed ReprKind.ExplicitVarSizeWithDummy (function_dom ms es d c) ds w n h = cc
formed ReprKind.ExplicitVarSizeWithDummy (relation_dom ms es ts) ds w n h = cc
formed ReprKind.ExplicitVarSizeWithDummy (partition_dom ms es d) ds w n h = cc
formed ReprKind.MSetOccurrence bool_dom ds w n h = cc
formed ReprKind.MSetOccurrence (int_dom rs es) ds w n h = cc
formed ReprKind.MSetOccurrence (name_dom a) ds w n h = cc
formed ReprKind.MSetOccurrence (tuple_dom ts) ds w n h = cc
formed ReprKind.MSetOccurrence (record_dom fs ts) ds w n h = cc
formed ReprKind.MSetOccurrence (matrix_dom is d) ds w n h = cc
formed ReprKind.MSetOccurrence (set_dom ms es d) ds w n h = cc
formed ReprKind.MSetOccurrence (mset_dom ms es d) ds w n h = if-some (is_atom d) [] ds h
formed ReprKind.MSetOccurrence (function_dom ms es d c) ds w n h = cc
formed ReprKind.MSetOccurrence (relation_dom ms es ts) ds w n h = cc
formed ReprKind.MSetOccurrence (partition_dom ms es d) ds w n h = cc
formed ReprKind.MSetExplicitWithRepetition bool_dom ds w n h = cc
formed ReprKind.MSetExplicitWithRepetition (int_dom rs es) ds w n h = cc
formed ReprKind.MSetExplicitWithRepetition (name_dom a) ds w n h = cc
formed ReprKind.MSetExplicitWithRepetition (tuple_dom ts) ds w n h = cc
formed ReprKind.MSetExplicitWithRepetition (record_dom fs ts) ds w n h = cc
formed ReprKind.MSetExplicitWithRepetition (matrix_dom is d) ds w n h = cc
formed ReprKind.MSetExplicitWithRepetition (set_dom ms es d) ds w n h = cc
formed ReprKind.MSetExplicitWithRepetition (mset_dom ms es d) ds w n h = refl
formed ReprKind.MSetExplicitWithRepetition (function_dom ms es d c) ds w n h = cc
formed ReprKind.MSetExplicitWithRepetition (relation_dom ms es ts) ds w n h = cc
formed ReprKind.MSetExplicitWithRepetition (partition_dom ms es d) ds w n h = cc
formed ReprKind.MSetExplicitWithFlags bool_dom ds w n h = cc
formed ReprKind.MSetExplicitWithFlags (int_dom rs es) ds w n h = cc
formed ReprKind.MSetExplicitWithFlags (name_dom a) ds w n h = cc
formed ReprKind.MSetExplicitWithFlags (tuple_dom ts) ds w n h = cc
formed ReprKind.MSetExplicitWithFlags (record_dom fs ts) ds w n h = cc
formed ReprKind.MSetExplicitWithFlags (matrix_dom is d) ds w n h = cc
formed ReprKind.MSetExplicitWithFlags (set_dom ms es d) ds w n h = cc
formed ReprKind.MSetExplicitWithFlags (mset_dom ms es d) ds w n h = refl
formed ReprKind.MSetExplicitWithFlags (function_dom ms es d c) ds w n h = cc
formed ReprKind.MSetExplicitWithFlags (relation_dom ms es ts) ds w n h = cc
formed ReprKind.MSetExplicitWithFlags (partition_dom ms es d) ds w n h = cc
formed ReprKind.Function1D bool_dom ds w n h = cc
formed ReprKind.Function1D (int_dom rs es) ds w n h = cc
formed ReprKind.Function1D (name_dom a) ds w n h = cc
formed ReprKind.Function1D (tuple_dom ts) ds w n h = cc
formed ReprKind.Function1D (record_dom fs ts) ds w n h = cc
formed ReprKind.Function1D (matrix_dom is d) ds w n h = cc
formed ReprKind.Function1D (set_dom ms es d) ds w n h = cc
formed ReprKind.Function1D (mset_dom ms es d) ds w n h = cc
formed ReprKind.Function1D (function_dom ms es d c) ds w n h = if-some (has_key Key.Total ms && is_atom d) (c ∷ []) ds h
formed ReprKind.Function1D (relation_dom ms es ts) ds w n h = cc
formed ReprKind.Function1D (partition_dom ms es d) ds w n h = cc
formed ReprKind.Function1DPartial bool_dom ds w n h = cc
formed ReprKind.Function1DPartial (int_dom rs es) ds w n h = cc
formed ReprKind.Function1DPartial (name_dom a) ds w n h = cc
formed ReprKind.Function1DPartial (tuple_dom ts) ds w n h = cc
formed ReprKind.Function1DPartial (record_dom fs ts) ds w n h = cc
formed ReprKind.Function1DPartial (matrix_dom is d) ds w n h = cc
formed ReprKind.Function1DPartial (set_dom ms es d) ds w n h = cc
formed ReprKind.Function1DPartial (mset_dom ms es d) ds w n h = cc
formed ReprKind.Function1DPartial (function_dom ms es d c) ds w n h = if-some (is_atom d) (c ∷ []) ds h
formed ReprKind.Function1DPartial (relation_dom ms es ts) ds w n h = cc
formed ReprKind.Function1DPartial (partition_dom ms es d) ds w n h = cc
formed ReprKind.FunctionND bool_dom ds w n h = cc
formed ReprKind.FunctionND (int_dom rs es) ds w n h = cc
formed ReprKind.FunctionND (name_dom a) ds w n h = cc
formed ReprKind.FunctionND (tuple_dom ts) ds w n h = cc
formed ReprKind.FunctionND (record_dom fs ts) ds w n h = cc
formed ReprKind.FunctionND (matrix_dom is d) ds w n h = cc
formed ReprKind.FunctionND (set_dom ms es d) ds w n h = cc
formed ReprKind.FunctionND (mset_dom ms es d) ds w n h = cc
formed ReprKind.FunctionND (function_dom ms es d c) ds w n h = if-some (has_key Key.Total ms && is_atom_tuple d) (c ∷ []) ds h
formed ReprKind.FunctionND (relation_dom ms es ts) ds w n h = cc
formed ReprKind.FunctionND (partition_dom ms es d) ds w n h = cc
formed ReprKind.FunctionNDPartial bool_dom ds w n h = cc
formed ReprKind.FunctionNDPartial (int_dom rs es) ds w n h = cc
formed ReprKind.FunctionNDPartial (name_dom a) ds w n h = cc
formed ReprKind.FunctionNDPartial (tuple_dom ts) ds w n h = cc
formed ReprKind.FunctionNDPartial (record_dom fs ts) ds w n h = cc
formed ReprKind.FunctionNDPartial (matrix_dom is d) ds w n h = cc
formed ReprKind.FunctionNDPartial (set_dom ms es d) ds w n h = cc
formed ReprKind.FunctionNDPartial (mset_dom ms es d) ds w n h = cc
formed ReprKind.FunctionNDPartial (function_dom ms es d c) ds w n h = if-some (is_atom_tuple d) (c ∷ []) ds h
formed ReprKind.FunctionNDPartial (relation_dom ms es ts) ds w n h = cc
formed ReprKind.FunctionNDPartial (partition_dom ms es d) ds w n h = cc
formed ReprKind.FunctionAsRelation bool_dom ds w n h = cc
formed ReprKind.FunctionAsRelation (int_dom rs es) ds w n h = cc
formed ReprKind.FunctionAsRelation (name_dom a) ds w n h = cc
formed ReprKind.FunctionAsRelation (tuple_dom ts) ds w n h = cc
formed ReprKind.FunctionAsRelation (record_dom fs ts) ds w n h = cc
formed ReprKind.FunctionAsRelation (matrix_dom is d) ds w n h = cc
formed ReprKind.FunctionAsRelation (set_dom ms es d) ds w n h = cc
formed ReprKind.FunctionAsRelation (mset_dom ms es d) ds w n h = cc
formed ReprKind.FunctionAsRelation (function_dom ms es d c) ds w n h = pairs-formed ms es d c (record { right = w.0; full = n })
formed ReprKind.FunctionAsRelation (relation_dom ms es ts) ds w n h = cc
formed ReprKind.FunctionAsRelation (partition_dom ms es d) ds w n h = cc
formed ReprKind.RelationAsMatrix bool_dom ds w n h = cc
formed ReprKind.RelationAsMatrix (int_dom rs es) ds w n h = cc
formed ReprKind.RelationAsMatrix (name_dom a) ds w n h = cc
formed ReprKind.RelationAsMatrix (tuple_dom ts) ds w n h = cc
formed ReprKind.RelationAsMatrix (record_dom fs ts) ds w n h = cc
formed ReprKind.RelationAsMatrix (matrix_dom is d) ds w n h = cc
formed ReprKind.RelationAsMatrix (set_dom ms es d) ds w n h = cc
formed ReprKind.RelationAsMatrix (mset_dom ms es d) ds w n h = cc
formed ReprKind.RelationAsMatrix (function_dom ms es d c) ds w n h = cc
formed ReprKind.RelationAsMatrix (relation_dom ms es ts) ds w n h = if-some (are_atoms ts) [] ds h
formed ReprKind.RelationAsMatrix (partition_dom ms es d) ds w n h = cc
formed ReprKind.RelationAsSet bool_dom ds w n h = cc
formed ReprKind.RelationAsSet (int_dom rs es) ds w n h = cc
formed ReprKind.RelationAsSet (name_dom a) ds w n h = cc
formed ReprKind.RelationAsSet (tuple_dom ts) ds w n h = cc
formed ReprKind.RelationAsSet (record_dom fs ts) ds w n h = cc
formed ReprKind.RelationAsSet (matrix_dom is d) ds w n h = cc
formed ReprKind.RelationAsSet (set_dom ms es d) ds w n h = cc
formed ReprKind.RelationAsSet (mset_dom ms es d) ds w n h = cc
formed ReprKind.RelationAsSet (function_dom ms es d c) ds w n h = cc
formed ReprKind.RelationAsSet (relation_dom ms es ts) ds w n h = tuples-formed ms es ts (record { right = w.0; full = n })
formed ReprKind.RelationAsSet (partition_dom ms es d) ds w n h = cc
formed ReprKind.PartitionOccurrence bool_dom ds w n h = cc
formed ReprKind.PartitionOccurrence (int_dom rs es) ds w n h = cc
formed ReprKind.PartitionOccurrence (name_dom a) ds w n h = cc
formed ReprKind.PartitionOccurrence (tuple_dom ts) ds w n h = cc
formed ReprKind.PartitionOccurrence (record_dom fs ts) ds w n h = cc
formed ReprKind.PartitionOccurrence (matrix_dom is d) ds w n h = cc
formed ReprKind.PartitionOccurrence (set_dom ms es d) ds w n h = cc
formed ReprKind.PartitionOccurrence (mset_dom ms es d) ds w n h = cc
formed ReprKind.PartitionOccurrence (function_dom ms es d c) ds w n h = cc
formed ReprKind.PartitionOccurrence (relation_dom ms es ts) ds w n h = cc
formed ReprKind.PartitionOccurrence (partition_dom ms es d) ds w n h = if-some (is_atom d) [] ds h
formed ReprKind.PartitionAsSet bool_dom ds w n h = cc
formed ReprKind.PartitionAsSet (int_dom rs es) ds w n h = cc
formed ReprKind.PartitionAsSet (name_dom a) ds w n h = cc
formed ReprKind.PartitionAsSet (tuple_dom ts) ds w n h = cc
formed ReprKind.PartitionAsSet (record_dom fs ts) ds w n h = cc
formed ReprKind.PartitionAsSet (matrix_dom is d) ds w n h = cc
formed ReprKind.PartitionAsSet (set_dom ms es d) ds w n h = cc
formed ReprKind.PartitionAsSet (mset_dom ms es d) ds w n h = cc
formed ReprKind.PartitionAsSet (function_dom ms es d c) ds w n h = cc
formed ReprKind.PartitionAsSet (relation_dom ms es ts) ds w n h = cc
formed ReprKind.PartitionAsSet (partition_dom ms es d) ds w n h = parts-formed ms es d (record { right = w.0; full = n })
