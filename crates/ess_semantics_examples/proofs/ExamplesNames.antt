-- Worked examples of the names of tables, of default representations, and of sizes.
use Rattle.std.specs.Prelude.{◌≡◌, refl, ℕ, true, false, List, [], ◌∷◌, map, pos, codes}
use Rattle.std.specs.Fmt.{digits}
use Rattle.ess_semantics.specs.declared.words.Key.{Key}
use Rattle.ess_semantics.specs.declared.words.ReprKind.{ReprKind}
use Rattle.ess_semantics.specs.Values.{Text}
use Rattle.ess_semantics.specs.Trees.{both_ends, flag, valued, Mark, Repr, Exs, number_ex, no_exs, more_exs, Dom, Doms, bool_dom, int_dom, name_dom, tuple_dom, record_dom, matrix_dom, set_dom, mset_dom, function_dom, relation_dom, partition_dom, no_doms, more_doms}
use Rattle.ess_semantics.specs.Kinds.{fits}
use Rattle.ess_semantics.specs.Choice.{alone, over_child, default_repr}
use Rattle.ess_semantics.specs.TableNames.{Named, table_names, named_tables}
use Rattle.ess_semantics.specs.Domains.{booleans, numbered, flagged, tuples, matrices, sets, msets, functions, relations, partitions}
use Rattle.ess_semantics.specs.Sizes.{bound, slots_of_set, slots_of_mset, child_relation, child_set, child_parts}
use Rattle.ess_semantics.proofs.CellWords.{upto, with, of2, atom, both}

abbrev e : ℕ → Exs
e k = more_exs (number_ex (pos k)) no_exs

abbrev int_to : ℕ → Dom
int_to k = int_dom (both_ends ∷ []) (more_exs (number_ex (pos 1)) (e k))

abbrev set : Dom → Dom
set d = set_dom [] no_exs d

abbrev sized : Key → ℕ → Dom → Dom
sized k n d = set_dom (valued k ∷ []) (e n) d

abbrev two : Dom → Dom → Doms
two a b = more_doms a (more_doms b no_doms)

abbrev named_from : List Text → Text → Repr → Dom → List Named
named_from taken x r d = named_tables x (table_names r d) taken

-- ---- names with their numbers of axes

sets_of_sets : named_from [] (codes "t") (over_child ReprKind.Explicit (alone ReprKind.Occurrence)) (sized Key.Size 2 (set (int_to 2))) ≡ (codes "t_Explicit_Occurrence", 2) ∷ []
sets_of_sets = refl

set_of_tuples : named_from [] (codes "s") (over_child ReprKind.ExplicitVarSizeWithMarker (of2 ReprKind.Tuple atom atom)) (sized Key.MaxSize 0 (tuple_dom (two (int_to 2) bool_dom))) ≡
    (codes "s_ExplicitVarSizeWithMarker_Marker", 0) ∷ (codes "s_ExplicitVarSizeWithMarker_Values_1", 1) ∷ (codes "s_ExplicitVarSizeWithMarker_Values_2", 1) ∷ []
unfolding digits
set_of_tuples = refl

multisets : map (λ r. named_from [] (codes "m") r (mset_dom (valued Key.MaxSize ∷ []) (e 3) (int_to 2)))
    (alone ReprKind.MSetOccurrence ∷ over_child ReprKind.MSetExplicitWithRepetition atom ∷ over_child ReprKind.MSetExplicitWithFlags atom ∷ []) ≡
    ((codes "m_MSetOccurrence", 1) ∷ []) ∷
    ((codes "m_MSetExplicitWithRepetition_Marker", 0) ∷ (codes "m_MSetExplicitWithRepetition_Values", 1) ∷ []) ∷
    ((codes "m_MSetExplicitWithFlags_Flags", 1) ∷ (codes "m_MSetExplicitWithFlags_Values", 1) ∷ []) ∷ []
multisets = refl

other_sets : map (λ r. named_from [] (codes "s") r (set (int_to 2))) (over_child ReprKind.ExplicitVarSizeWithFlags atom ∷ alone ReprKind.ExplicitVarSizeWithDummy ∷ []) ≡
    ((codes "s_ExplicitVarSizeWithFlags_Flags", 1) ∷ (codes "s_ExplicitVarSizeWithFlags_Values", 1) ∷ []) ∷ ((codes "s_ExplicitVarSizeWithDummy", 1) ∷ []) ∷ []
other_sets = refl

partitions_named : named_from [] (codes "p") (alone ReprKind.PartitionOccurrence) (partition_dom [] no_exs (int_to 3)) ≡
    (codes "p_PartitionOccurrence_NumParts", 0) ∷ (codes "p_PartitionOccurrence_WhichPart", 1) ∷ []
partitions_named = refl

partition_of_sets : named_from [] (codes "p") (over_child ReprKind.PartitionAsSet (over_child ReprKind.Explicit (alone ReprKind.Occurrence))) (partition_dom (valued Key.NumParts ∷ []) (e 2) (int_to 3)) ≡
    (codes "p_PartitionAsSet_Explicit_Occurrence", 2) ∷ []
partition_of_sets = refl

abbrev total : List Mark
total = flag Key.Total ∷ []

functions_named : named_from [] (codes "f") (over_child ReprKind.Function1D atom) (function_dom total no_exs (name_dom (codes "C")) bool_dom) ≡ (codes "f_Function1D", 1) ∷ []
functions_named = refl

partial_named : named_from [] (codes "f") (over_child ReprKind.Function1DPartial atom) (function_dom [] no_exs (int_to 2) bool_dom) ≡
    (codes "f_Function1DPartial_Flags", 1) ∷ (codes "f_Function1DPartial_Values", 1) ∷ []
partial_named = refl

several_axes : map (λ r. named_from [] (codes "f") r (function_dom total no_exs (tuple_dom (two (int_to 2) bool_dom)) bool_dom)) (over_child ReprKind.FunctionND atom ∷ over_child ReprKind.FunctionNDPartial atom ∷ []) ≡
    ((codes "f_FunctionND", 2) ∷ []) ∷ ((codes "f_FunctionNDPartial_Flags", 2) ∷ (codes "f_FunctionNDPartial_Values", 2) ∷ []) ∷ []
several_axes = refl

function_of_pairs : named_from [] (codes "f") (over_child ReprKind.FunctionAsRelation (over_child ReprKind.RelationAsSet (over_child ReprKind.ExplicitVarSizeWithMarker (of2 ReprKind.Tuple atom atom)))) (function_dom [] no_exs (int_to 2) bool_dom) ≡
    (codes "f_FunctionAsRelation_RelationAsSet_ExplicitVarSizeWithMarker_Marker", 0) ∷
    (codes "f_FunctionAsRelation_RelationAsSet_ExplicitVarSizeWithMarker_Values_1", 1) ∷
    (codes "f_FunctionAsRelation_RelationAsSet_ExplicitVarSizeWithMarker_Values_2", 1) ∷ []
unfolding digits
function_of_pairs = refl

relations_named : named_from [] (codes "r") (alone ReprKind.RelationAsMatrix) (relation_dom [] no_exs (two (int_to 2) bool_dom)) ≡ (codes "r_RelationAsMatrix", 2) ∷ []
relations_named = refl

tuples_named : named_from [] (codes "t") (of2 ReprKind.Tuple atom atom) (tuple_dom (two (int_to 2) bool_dom)) ≡ (codes "t_1", 0) ∷ (codes "t_2", 0) ∷ []
unfolding digits
tuples_named = refl

records_named : named_from [] (codes "r") (of2 ReprKind.Rec atom (alone ReprKind.Occurrence)) (record_dom (codes "a" ∷ codes "b" ∷ []) (two bool_dom (set bool_dom))) ≡ (codes "r_a", 0) ∷ (codes "r_b_Occurrence", 1) ∷ []
records_named = refl

matrices_named : named_from [] (codes "m") (over_child ReprKind.Matrix (alone ReprKind.Occurrence)) (matrix_dom (two (int_to 2) (int_to 3)) (set bool_dom)) ≡ (codes "m_Occurrence", 3) ∷ []
matrices_named = refl

-- ---- names that are taken

taken : named_from (codes "s_Occurrence" ∷ []) (codes "s") (alone ReprKind.Occurrence) (set (int_to 2)) ≡ (codes "s_Occurrence_", 1) ∷ []
taken = refl

taken_twice : named_from (codes "s_Occurrence" ∷ codes "s_Occurrence_" ∷ []) (codes "s") (alone ReprKind.Occurrence) (set (int_to 2)) ≡ (codes "s_Occurrence__", 1) ∷ []
taken_twice = refl

-- the second component's name is that of the first one's second part
taken_by_itself : named_from [] (codes "r") (of2 ReprKind.Rec (of2 ReprKind.Rec atom atom) atom)
    (record_dom (codes "a" ∷ codes "a_b" ∷ []) (two (record_dom (codes "a" ∷ codes "b" ∷ []) (two bool_dom bool_dom)) bool_dom)) ≡
    (codes "r_a_a", 0) ∷ (codes "r_a_b", 0) ∷ (codes "r_a_b_", 0) ∷ []
taken_by_itself = refl

-- ---- defaults

sets_by_default : map default_repr (set (int_to 2) ∷ set (set (int_to 2)) ∷ sized Key.Size 2 (set (int_to 2)) ∷ sized Key.MaxSize 0 (tuple_dom (two (int_to 2) bool_dom)) ∷ []) ≡
    alone ReprKind.Occurrence ∷ over_child ReprKind.ExplicitVarSizeWithMarker (alone ReprKind.Occurrence) ∷ over_child ReprKind.Explicit (alone ReprKind.Occurrence) ∷
    over_child ReprKind.ExplicitVarSizeWithMarker (of2 ReprKind.Tuple atom atom) ∷ []
sets_by_default = refl

golfers_by_default : default_repr (sized Key.Size 2 (partition_dom (flag Key.Regular ∷ []) no_exs (name_dom (codes "G")))) ≡ over_child ReprKind.Explicit (alone ReprKind.PartitionOccurrence)
golfers_by_default = refl

-- the parts of a partition over sets
parts_by_default : default_repr (partition_dom [] no_exs (set bool_dom)) ≡
    over_child ReprKind.PartitionAsSet (over_child ReprKind.ExplicitVarSizeWithMarker (over_child ReprKind.ExplicitVarSizeWithMarker (alone ReprKind.Occurrence)))
parts_by_default = refl

dummies_fit : map (fits (alone ReprKind.ExplicitVarSizeWithDummy)) (set (int_to 2) ∷ set (name_dom (codes "C")) ∷ set bool_dom ∷ set (int_dom (both_ends ∷ both_ends ∷ []) no_exs) ∷ []) ≡ true ∷ true ∷ false ∷ false ∷ []
dummies_fit = refl

slots_want_a_size : map (fits (over_child ReprKind.Explicit atom)) (set (int_to 2) ∷ sized Key.MaxSize 2 (int_to 2) ∷ sized Key.Size 2 (int_to 2) ∷ []) ≡ false ∷ false ∷ true ∷ []
slots_want_a_size = refl

-- ---- sizes

-- (2 + 1) ** (2 * 3)
matrix_bound : bound (matrices (both (upto 2) (upto 3)) booleans) ≡ 729
matrix_bound = refl

bounds : map bound (sets [] (upto 3) ∷ msets (with Key.MaxSize 3) (upto 2) ∷ functions [] (upto 2) (upto 3) ∷ relations [] (both (upto 2) booleans) ∷ partitions [] (upto 2) ∷ []) ≡ 8 ∷ 16 ∷ 16 ∷ 16 ∷ 9 ∷ []
bounds = refl

slots_of_sets : map (λ ks. slots_of_set ks (sets [] (upto 2))) ([] ∷ with Key.MaxSize 3 ∷ (numbered Key.MaxSize (pos 3) ∷ numbered Key.Size (pos 2) ∷ []) ∷ []) ≡ 4 ∷ 3 ∷ 2 ∷ []
slots_of_sets = refl

slots_of_msets : map (λ ks. slots_of_mset ks (upto 2)) (with Key.MaxOccur 3 ∷ with Key.MaxSize 3 ∷ (numbered Key.MaxOccur (pos 3) ∷ numbered Key.MaxSize (pos 4) ∷ []) ∷ []) ≡ 6 ∷ 3 ∷ 4 ∷ []
slots_of_msets = refl

-- the set of the parts has a bound of its own only without `numParts` and `maxNumParts`
sets_of_parts : map (λ ks. child_parts ks (upto 3)) ([] ∷ with Key.NumParts 2 ∷ with Key.MaxNumParts 2 ∷ with Key.MinNumParts 2 ∷ with Key.MinPartSize 2 ∷ with Key.MaxPartSize 2 ∷ with Key.PartSize 2 ∷ []) ≡
    sets (with Key.MaxSize 3) (sets [] (upto 3)) ∷ sets (with Key.Size 2) (sets [] (upto 3)) ∷ sets (with Key.MaxSize 2) (sets [] (upto 3)) ∷
    sets (numbered Key.MinSize (pos 2) ∷ numbered Key.MaxSize (pos 3) ∷ []) (sets [] (upto 3)) ∷ sets (with Key.MaxSize 3) (sets (with Key.MinSize 2) (upto 3)) ∷
    sets (with Key.MaxSize 3) (sets (with Key.MaxSize 2) (upto 3)) ∷ sets (with Key.MaxSize 3) (sets (with Key.Size 2) (upto 3)) ∷ []
sets_of_parts = refl

-- the set of a relation's tuples has the relation's sizes
sets_of_tuples : map (λ ks. child_set ks (both (upto 2) booleans)) ([] ∷ with Key.Size 2 ∷ with Key.MinSize 2 ∷ with Key.MaxSize 2 ∷ (flagged Key.Symmetric ∷ []) ∷ []) ≡
    map (λ ks. sets ks (tuples (both (upto 2) booleans))) ([] ∷ with Key.Size 2 ∷ with Key.MinSize 2 ∷ with Key.MaxSize 2 ∷ [] ∷ [])
sets_of_tuples = refl

relations_of_pairs : map (λ ks. child_relation ks (upto 2) booleans) ([] ∷ (flagged Key.Total ∷ []) ∷ with Key.Size 1 ∷ with Key.MinSize 1 ∷ (flagged Key.Total ∷ numbered Key.Size (pos 1) ∷ []) ∷ []) ≡
    relations (with Key.MaxSize 2) (both (upto 2) booleans) ∷ relations (with Key.Size 2) (both (upto 2) booleans) ∷ relations (with Key.Size 1) (both (upto 2) booleans) ∷
    relations (numbered Key.MinSize (pos 1) ∷ numbered Key.MaxSize (pos 2) ∷ []) (both (upto 2) booleans) ∷ relations (with Key.Size 2) (both (upto 2) booleans) ∷ []
relations_of_pairs = refl
