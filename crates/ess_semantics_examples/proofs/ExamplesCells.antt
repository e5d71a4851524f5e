-- Worked examples of tables: declarations, canonical cells, and the values that cells stand for.
use Rattle.std.specs.Prelude.{◌≡◌, refl, ℕ, Bool, true, false, List, [], ◌∷◌, map, pos, negsuc, Option, Some, None, codes}
use Rattle.ess_semantics.specs.declared.words.Key.{Key}
use Rattle.ess_semantics.specs.declared.words.ReprKind.{ReprKind}
use Rattle.ess_semantics.specs.Values.{a_partition, Value, truth, item, node, nil, cons, pair, matrix}
use Rattle.ess_semantics.specs.Collections.{set_of, mset_of, relation_of}
use Rattle.ess_semantics.specs.Trees.{Repr}
use Rattle.ess_semantics.specs.Domains.{Attribute, flagged, Domain, booleans, integers, named, tuples, matrices, sets, msets, functions, relations, partitions, between}
use Rattle.ess_semantics.specs.Tables.{Tables}
use Rattle.ess_semantics.specs.Representations.{value_of_tables}
use Rattle.ess_semantics.specs.Declarations.{declarations, cell_count}
use Rattle.ess_semantics.specs.Canonical.{tables_of_value}
use Rattle.ess_semantics.specs.Tidy.{tidy}
use Rattle.ess_semantics.specs.Choice.{alone}
use Rattle.ess_semantics.proofs.CellWords.{n, upto, with, ints, of1, of2, atom, both, one, table, table2, function}

-- the value that the canonical cells of a value stand for
abbrev back : Domain → Value → Repr → Option Value
back d v r = elim (tables_of_value r d v) [ None ↦ None | Some c ↦ value_of_tables r d c [] ]

-- whether they are tidy
abbrev is_tidy : Domain → Value → Repr → Bool
is_tidy d v r = elim (tables_of_value r d v) [ None ↦ false | Some c ↦ tidy r d c [] ]

-- ---- a set of two sets

abbrev t_dom : Domain
t_dom = sets (with Key.Size 2) (sets [] (upto 2))

abbrev t_repr : Repr
t_repr = of1 ReprKind.Explicit (alone ReprKind.Occurrence)

abbrev t_value : Value
t_value = set_of (set_of (n 1 ∷ []) ∷ set_of (n 2 ∷ []) ∷ [])

abbrev t_cells : Tables
t_cells = table2 (1 ∷ 2 ∷ []) (1 ∷ 2 ∷ []) (0 ∷ 1 ∷ 1 ∷ 0 ∷ []) ∷ []

abbrev t_swapped : Tables
t_swapped = table2 (1 ∷ 2 ∷ []) (1 ∷ 2 ∷ []) (1 ∷ 0 ∷ 0 ∷ 1 ∷ []) ∷ []

set_of_sets : tables_of_value t_repr t_dom t_value ≡ Some t_cells
set_of_sets = refl

set_of_sets_back : value_of_tables t_repr t_dom t_swapped [] ≡ Some t_value
set_of_sets_back = refl

set_of_sets_tidy : tidy t_repr t_dom t_swapped [] ≡ true
set_of_sets_tidy = refl

set_of_sets_count : cell_count t_repr t_dom ≡ 4
set_of_sets_count = refl

set_of_sets_declared : declarations t_repr t_dom ≡
    record { axes = ints (1 ∷ 2 ∷ []) ∷ ints (1 ∷ 2 ∷ []) ∷ []; cell = booleans } ∷ []
set_of_sets_declared = refl

-- ---- an empty set of tuples

abbrev s_dom : ℕ → Domain → Domain
s_dom k d = sets (with Key.MaxSize k) (tuples (both d booleans))

abbrev s_repr : Repr
s_repr = of1 ReprKind.ExplicitVarSizeWithMarker (of2 ReprKind.Tuple atom atom)

abbrev zero_slots : Tables
zero_slots = one 0 ∷ table [] [] ∷ table [] [] ∷ []

no_slots : tables_of_value s_repr (s_dom 0 (upto 2)) (set_of []) ≡ Some zero_slots
no_slots = refl

no_slots_back : value_of_tables s_repr (s_dom 0 (upto 2)) zero_slots [] ≡ Some (set_of [])
no_slots_back = refl

-- ---- the same over an empty domain: what is out of use needs no member

abbrev empty : Domain
empty = between (pos 1) (pos 0)

abbrev two_slots : Tables
two_slots = one 0 ∷ table (1 ∷ 2 ∷ []) (0 ∷ 0 ∷ []) ∷ table (1 ∷ 2 ∷ []) (0 ∷ 0 ∷ []) ∷ []

over_empty : tables_of_value s_repr (s_dom 2 empty) (set_of []) ≡ Some two_slots
over_empty = refl

over_empty_back : value_of_tables s_repr (s_dom 2 empty) two_slots [] ≡ Some (set_of [])
over_empty_back = refl

over_empty_cells : map (λ d. d.cell) (declarations s_repr (s_dom 2 empty)) ≡
    between (pos 0) (pos 2) ∷
    integers (record { low = Some (pos 0); high = Some (pos 0) } ∷ record { low = Some (pos 1); high = Some (pos 0) } ∷ []) ∷ booleans ∷ []
over_empty_cells = refl

-- ---- a dummy above an empty domain

abbrev d_dom : Domain
d_dom = sets (with Key.MaxSize 2) (between (pos 5) (pos 3))

dummy : tables_of_value (alone ReprKind.ExplicitVarSizeWithDummy) d_dom (set_of []) ≡ Some (table (1 ∷ 2 ∷ []) (4 ∷ 4 ∷ []) ∷ [])
dummy = refl

dummy_back : value_of_tables (alone ReprKind.ExplicitVarSizeWithDummy) d_dom (table (1 ∷ 2 ∷ []) (4 ∷ 4 ∷ []) ∷ []) [] ≡ Some (set_of [])
dummy_back = refl

-- ---- a total function over an empty domain

abbrev far_empty : Domain
far_empty = between (pos 1) (negsuc 1)

no_pairs : back (functions (flagged Key.Total ∷ []) far_empty far_empty) (function []) (of1 ReprKind.Function1D atom) ≡ Some (function [])
no_pairs = refl

-- ---- three representations of a multiset

abbrev m_dom : Domain
m_dom = msets (with Key.MaxSize 3) (upto 2)

abbrev m_value : Value
m_value = mset_of (n 1 ∷ n 1 ∷ n 2 ∷ [])

abbrev m_reprs : List Repr
m_reprs = alone ReprKind.MSetOccurrence ∷ of1 ReprKind.MSetExplicitWithRepetition atom ∷ of1 ReprKind.MSetExplicitWithFlags atom ∷ []

multisets : map (λ r. tables_of_value r m_dom m_value) m_reprs ≡
    Some (table (1 ∷ 2 ∷ []) (2 ∷ 1 ∷ []) ∷ []) ∷
    Some (one 3 ∷ table (1 ∷ 2 ∷ 3 ∷ []) (1 ∷ 1 ∷ 2 ∷ []) ∷ []) ∷
    Some (table (1 ∷ 2 ∷ 3 ∷ []) (2 ∷ 1 ∷ 0 ∷ []) ∷ table (1 ∷ 2 ∷ 3 ∷ []) (1 ∷ 2 ∷ 0 ∷ []) ∷ []) ∷ []
multisets = refl

multisets_back : map (back m_dom m_value) m_reprs ≡ Some m_value ∷ Some m_value ∷ Some m_value ∷ []
multisets_back = refl

multisets_tidy : map (is_tidy m_dom m_value) m_reprs ≡ true ∷ true ∷ true ∷ []
multisets_tidy = refl

-- ---- partitions

abbrev p_dom : Domain
p_dom = partitions [] (upto 3)

abbrev p_value : Value
p_value = node a_partition (cons (set_of (n 1 ∷ n 3 ∷ [])) (cons (set_of (n 2 ∷ [])) nil))

abbrev whole : Value
whole = node a_partition (cons (set_of (n 1 ∷ n 2 ∷ n 3 ∷ [])) nil)

abbrev p_reprs : List Repr
p_reprs =
    alone ReprKind.PartitionOccurrence ∷
    of1 ReprKind.PartitionAsSet (of1 ReprKind.ExplicitVarSizeWithMarker (alone ReprKind.Occurrence)) ∷
    of1 ReprKind.PartitionAsSet (of1 ReprKind.ExplicitVarSizeWithFlags (alone ReprKind.ExplicitVarSizeWithDummy)) ∷ []

parts : tables_of_value (alone ReprKind.PartitionOccurrence) p_dom p_value ≡ Some (one 2 ∷ table (1 ∷ 2 ∷ 3 ∷ []) (1 ∷ 2 ∷ 1 ∷ []) ∷ [])
parts = refl

parts_whole : tables_of_value (alone ReprKind.PartitionOccurrence) p_dom whole ≡ Some (one 1 ∷ table (1 ∷ 2 ∷ 3 ∷ []) (1 ∷ 1 ∷ 1 ∷ []) ∷ [])
parts_whole = refl

parts_back : map (back p_dom p_value) p_reprs ≡ Some p_value ∷ Some p_value ∷ Some p_value ∷ []
parts_back = refl

parts_tidy : map (is_tidy p_dom p_value) p_reprs ≡ true ∷ true ∷ true ∷ []
parts_tidy = refl

-- ---- functions

abbrev colours : Domain
colours = named (codes "C") 2

abbrev f_value : Value
f_value = function (pair (item (codes "C") 1) (truth false) ∷ pair (item (codes "C") 2) (truth true) ∷ [])

abbrev f_cells : Tables
f_cells = table (1 ∷ 2 ∷ []) (0 ∷ 1 ∷ []) ∷ []

total : tables_of_value (of1 ReprKind.Function1D atom) (functions (flagged Key.Total ∷ []) colours booleans) f_value ≡ Some f_cells
total = refl

total_back : value_of_tables (of1 ReprKind.Function1D atom) (functions (flagged Key.Total ∷ []) colours booleans) f_cells [] ≡ Some f_value
total_back = refl

abbrev g_dom : Domain
g_dom = functions [] (upto 2) booleans

abbrev g_value : Value
g_value = function (pair (n 1) (truth false) ∷ [])

abbrev tuple_atoms : Repr
tuple_atoms = of2 ReprKind.Tuple atom atom

abbrev g_reprs : List Repr
g_reprs =
    of1 ReprKind.Function1DPartial atom ∷
    of1 ReprKind.FunctionAsRelation (of1 ReprKind.RelationAsSet (of1 ReprKind.ExplicitVarSizeWithMarker tuple_atoms)) ∷
    of1 ReprKind.FunctionAsRelation (alone ReprKind.RelationAsMatrix) ∷ []

partial : map (back g_dom g_value) g_reprs ≡ Some g_value ∷ Some g_value ∷ Some g_value ∷ []
partial = refl

partial_tidy : map (is_tidy g_dom g_value) g_reprs ≡ true ∷ true ∷ true ∷ []
partial_tidy = refl

partial_cells : tables_of_value (of1 ReprKind.Function1DPartial atom) g_dom g_value ≡ Some (table (1 ∷ 2 ∷ []) (1 ∷ 0 ∷ []) ∷ table (1 ∷ 2 ∷ []) (0 ∷ 0 ∷ []) ∷ [])
partial_cells = refl

-- from a tuple of atoms
abbrev h_dom : List Attribute → Domain
h_dom ks = functions ks (tuples (both (upto 2) booleans)) (upto 9)

abbrev h_value : Value
h_value = function (pair (pair (n 1) (truth true)) (n 7) ∷ pair (pair (n 2) (truth false)) (n 5) ∷ [])

several_axes : tables_of_value (of1 ReprKind.FunctionNDPartial atom) (h_dom []) h_value ≡
    Some (table2 (1 ∷ 2 ∷ []) (0 ∷ 1 ∷ []) (0 ∷ 1 ∷ 1 ∷ 0 ∷ []) ∷ table2 (1 ∷ 2 ∷ []) (0 ∷ 1 ∷ []) (0 ∷ 7 ∷ 5 ∷ 0 ∷ []) ∷ [])
several_axes = refl

several_axes_back : back (h_dom []) h_value (of1 ReprKind.FunctionNDPartial atom) ≡ Some h_value
several_axes_back = refl

abbrev total_value : Value
total_value = function (pair (pair (n 1) (truth false)) (n 1) ∷ pair (pair (n 1) (truth true)) (n 2) ∷ pair (pair (n 2) (truth false)) (n 3) ∷ pair (pair (n 2) (truth true)) (n 4) ∷ [])

several_axes_total : back (h_dom (flagged Key.Total ∷ [])) total_value (of1 ReprKind.FunctionND atom) ≡ Some total_value
several_axes_total = refl

-- ---- sets, relations, matrices

abbrev s3 : Domain
s3 = sets [] (upto 3)

abbrev s3_value : Value
s3_value = set_of (n 1 ∷ n 3 ∷ [])

abbrev s3_reprs : List Repr
s3_reprs =
    alone ReprKind.Occurrence ∷ of1 ReprKind.ExplicitVarSizeWithMarker atom ∷ of1 ReprKind.ExplicitVarSizeWithFlags atom ∷
    alone ReprKind.ExplicitVarSizeWithDummy ∷ []

set_kinds : map (back s3 s3_value) s3_reprs ≡ Some s3_value ∷ Some s3_value ∷ Some s3_value ∷ Some s3_value ∷ []
set_kinds = refl

set_kinds_tidy : map (is_tidy s3 s3_value) s3_reprs ≡ true ∷ true ∷ true ∷ true ∷ []
set_kinds_tidy = refl

-- two equal slots, and a slot in use behind one that isn't, aren't tidy
equal_slots : tidy (of1 ReprKind.ExplicitVarSizeWithMarker atom) s3 (one 2 ∷ table (1 ∷ 2 ∷ 3 ∷ []) (1 ∷ 1 ∷ 2 ∷ []) ∷ []) [] ≡ false
equal_slots = refl

late_slots : tidy (of1 ReprKind.ExplicitVarSizeWithFlags atom) s3 (table (1 ∷ 2 ∷ 3 ∷ []) (1 ∷ 0 ∷ 1 ∷ []) ∷ table (1 ∷ 2 ∷ 3 ∷ []) (1 ∷ 2 ∷ 3 ∷ []) ∷ []) [] ≡ false
late_slots = refl

late_dummy : tidy (alone ReprKind.ExplicitVarSizeWithDummy) s3 (table (1 ∷ 2 ∷ 3 ∷ []) (4 ∷ 2 ∷ 4 ∷ []) ∷ []) [] ≡ false
late_dummy = refl

-- a slot past the marker may hold anything
past_marker : tidy (of1 ReprKind.ExplicitVarSizeWithMarker atom) s3 (one 1 ∷ table (1 ∷ 2 ∷ 3 ∷ []) (2 ∷ 2 ∷ 9 ∷ []) ∷ []) [] ≡ true
past_marker = refl

abbrev r_dom : Domain
r_dom = relations [] (both (upto 2) booleans)

abbrev r_value : Value
r_value = relation_of (pair (n 1) (truth true) ∷ pair (n 2) (truth false) ∷ [])

abbrev r_reprs : List Repr
r_reprs = alone ReprKind.RelationAsMatrix ∷ of1 ReprKind.RelationAsSet (of1 ReprKind.ExplicitVarSizeWithFlags tuple_atoms) ∷ []

relation_kinds : map (back r_dom r_value) r_reprs ≡ Some r_value ∷ Some r_value ∷ []
relation_kinds = refl

abbrev grid_dom : Domain
grid_dom = matrices (both (upto 2) booleans) (sets [] (upto 2))

abbrev row : Value → Value → Value
row a b = matrix (cons (truth false) (cons (truth true) nil)) (cons a (cons b nil))

abbrev grid : Value
grid = matrix (cons (n 1) (cons (n 2) nil)) (cons (row (set_of []) (set_of (n 1 ∷ []))) (cons (row (set_of (n 2 ∷ [])) (set_of (n 1 ∷ n 2 ∷ []))) nil))

matrix_back : back grid_dom grid (of1 ReprKind.Matrix (alone ReprKind.Occurrence)) ≡ Some grid
matrix_back = refl

matrix_tidy : is_tidy grid_dom grid (of1 ReprKind.Matrix (alone ReprKind.Occurrence)) ≡ true
matrix_tidy = refl

-- a representation over another one: sets of sets keep every order of inner cells
abbrev nested_dom : Domain
nested_dom = sets (with Key.MaxSize 2) (sets [] (upto 2))

nested : tables_of_value (of1 ReprKind.ExplicitVarSizeWithMarker (of1 ReprKind.ExplicitVarSizeWithMarker atom)) nested_dom (set_of (set_of [] ∷ set_of (n 2 ∷ []) ∷ [])) ≡
    Some (one 2 ∷ table (1 ∷ 2 ∷ []) (0 ∷ 1 ∷ []) ∷ table2 (1 ∷ 2 ∷ []) (1 ∷ 2 ∷ []) (0 ∷ 0 ∷ 2 ∷ 0 ∷ []) ∷ [])
nested = refl
