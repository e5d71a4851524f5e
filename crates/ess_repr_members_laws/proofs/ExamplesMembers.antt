-- Worked examples of the members of declared tables, as trees under an env and as declarations of the domain.
use Rattle.std.proofs.Common.{◌≡◌, refl, ℕ, true, false, List, [], ◌∷◌, map, codes, ℤ, pos, negsuc, Option, Some}
use Rattle.std.specs.Fmt.{digits}
use Rattle.ess_semantics.specs.declared.words.Key.{Key}
use Rattle.ess_semantics.specs.declared.words.ReprKind.{ReprKind}
use Rattle.ess_semantics.specs.Values.{number}
use Rattle.ess_semantics.specs.Lists.{each_of}
use Rattle.ess_semantics.specs.Trees.{both_ends, valued, Repr, repr, no_reprs, more_reprs, Ex, name_ex, no_exs, Dom, bool_dom, int_dom, name_dom, tuple_dom, record_dom, matrix_dom, set_dom, mset_dom, function_dom, partition_dom, no_doms, more_doms}
use Rattle.ess_semantics.specs.Domains.{Span, numbered, Domain, booleans, integers, named, tuples, matrices, sets, msets, functions, partitions, no_domains, more_domains, between}
use Rattle.ess_semantics.specs.Cells.{Axes}
use Rattle.ess_semantics.specs.Layers.{up_to}
use Rattle.ess_semantics.specs.Choice.{alone, over_child}
use Rattle.ess_semantics.specs.Declarations.{Declaration, declarations}
use Rattle.ess_semantics.specs.DeclaredTables.{TableDecl, axis_members}
use Rattle.ess_semantics.specs.Meaning.{Env, empty_env, domain_of}
use Rattle.ess_semantics.proofs.Shorthands.{n, es1, es2, ds2}
use Rattle.ess_repr_declare_laws.specs.DeclaredTrees.{declared_trees}
use Rattle.ess_repr_members_laws.specs.Fields.{are_paired}

-- ---- words

-- The axes' members and the cells' domain of a table.
abbrev Told : Type 0
Told = Option Axes × Option Domain

-- Those of trees under an env, and those of declarations.
abbrev told : Env → List TableDecl → List Told
told env ts = map (λ t. (each_of t.axes (λ a. axis_members (domain_of a env)), domain_of t.cell env)) ts

abbrev tables : List Declaration → List Told
tables ds = map (λ d. (Some d.axes, Some d.cell)) ds

-- A parameter n is k, and t is a type of three values. Under tables these are positions.
abbrev with_n : ℤ → Env
with_n k = record empty_env {
  positions = true;
  types = record { name = codes "t"; count = 3; names = [] } ∷ [];
  vals = (codes "n", number k) ∷ [];
}

abbrev two : Env
two = with_n (pos 2)

abbrev N : Ex
N = name_ex (codes "n")

abbrev range : Ex → Ex → Dom
range a b = int_dom (both_ends ∷ []) (es2 a b)

abbrev t : Dom
t = name_dom (codes "t")

-- One number, and 1 to k.
abbrev only : ℕ → Span
only k = record { low = Some (pos k); high = Some (pos k) }

abbrev to : ℕ → ℕ → Span
to a b = record { low = Some (pos a); high = Some (pos b) }

abbrev one_two : List ℤ
one_two = pos 1 ∷ pos 2 ∷ []

-- ---- sets and multisets

-- set (maxSize n) of (int(3..5), bool) with a marker: two slots, whose numbers may also be 0; truth values stay.
abbrev marked : Repr
marked = over_child ReprKind.ExplicitVarSizeWithMarker (repr ReprKind.Tuple
    (more_reprs (alone ReprKind.Atom) (more_reprs (alone ReprKind.Atom) no_reprs)))

marker : told two (declared_trees marked (set_dom (valued Key.MaxSize ∷ []) (es1 N) (tuple_dom (ds2 (range (n 3) (n 5)) bool_dom)))
    (codes "s") [])
    ≡ (Some [], Some (between (pos 0) (pos 2))) ∷ (Some (one_two ∷ []), Some (integers (only 0 ∷ to 3 5 ∷ []))) ∷
    (Some (one_two ∷ []), Some booleans) ∷ []
unfolding digits
marker = refl

marker_declared : tables (declarations marked (sets (numbered Key.MaxSize (pos 2) ∷ [])
    (tuples (more_domains (between (pos 3) (pos 5)) (more_domains booleans no_domains)))))
    ≡ (Some [], Some (between (pos 0) (pos 2))) ∷ (Some (one_two ∷ []), Some (integers (only 0 ∷ to 3 5 ∷ []))) ∷
    (Some (one_two ∷ []), Some booleans) ∷ []
marker_declared = refl

-- set of set (maxSize n) of t with a dummy inside: 4 stands for no value, and 0 for a slot out of use.
abbrev dummy : Repr
dummy = over_child ReprKind.ExplicitVarSizeWithMarker (alone ReprKind.ExplicitVarSizeWithDummy)

abbrev dummy_told : List Told
dummy_told = (Some [], Some (between (pos 0) (pos 1))) ∷
    (Some ((pos 1 ∷ []) ∷ one_two ∷ []), Some (integers (only 0 ∷ to 1 3 ∷ only 4 ∷ []))) ∷ []

dummies : told two (declared_trees dummy (set_dom (valued Key.MaxSize ∷ []) (es1 (n 1)) (set_dom (valued Key.MaxSize ∷ []) (es1 N) t))
    (codes "s") []) ≡ dummy_told
dummies = refl

dummies_declared : tables (declarations dummy (sets (numbered Key.MaxSize (pos 1) ∷ [])
    (sets (numbered Key.MaxSize (pos 2) ∷ []) (named (codes "t") 3)))) ≡ dummy_told
dummies_declared = refl

-- mset (maxOccur n) of bool by occurrence: bool is 0 and 1 as an axis.
times : told two (declared_trees (alone ReprKind.MSetOccurrence) (mset_dom (valued Key.MaxOccur ∷ []) (es1 N) bool_dom) (codes "m") [])
    ≡ (Some ((pos 0 ∷ pos 1 ∷ []) ∷ []), Some (between (pos 0) (pos 2))) ∷ []
times = refl

times_declared : tables (declarations (alone ReprKind.MSetOccurrence) (msets (numbered Key.MaxOccur (pos 2) ∷ []) booleans))
    ≡ (Some ((pos 0 ∷ pos 1 ∷ []) ∷ []), Some (between (pos 0) (pos 2))) ∷ []
times_declared = refl

-- ---- functions, relations, partitions

-- function (t, bool) --> int(1..n): flags, and values of which those out of use may be 0.
abbrev partial : Repr
partial = over_child ReprKind.FunctionNDPartial (alone ReprKind.Atom)

abbrev arguments : Axes
arguments = (pos 1 ∷ pos 2 ∷ pos 3 ∷ []) ∷ (pos 0 ∷ pos 1 ∷ []) ∷ []

abbrev partial_told : List Told
partial_told = (Some arguments, Some booleans) ∷ (Some arguments, Some (integers (only 0 ∷ to 1 2 ∷ []))) ∷ []

partials : told two (declared_trees partial (function_dom [] no_exs (tuple_dom (ds2 t bool_dom)) (range (n 1) N)) (codes "f") [])
    ≡ partial_told
partials = refl

partials_declared : tables (declarations partial (functions []
    (tuples (more_domains (named (codes "t") 3) (more_domains booleans no_domains))) (between (pos 1) (pos 2)))) ≡ partial_told
partials_declared = refl

-- partition from int(4..5) by part numbers, in a set with flags.
abbrev parts : Repr
parts = over_child ReprKind.ExplicitVarSizeWithFlags (alone ReprKind.PartitionOccurrence)

abbrev part_told : List Told
part_told = (Some (one_two ∷ []), Some booleans) ∷ (Some (one_two ∷ []), Some (up_to 2)) ∷
    (Some (one_two ∷ (pos 4 ∷ pos 5 ∷ []) ∷ []), Some (integers (only 0 ∷ to 1 2 ∷ []))) ∷ []

part_numbers : told two (declared_trees parts (set_dom (valued Key.MaxSize ∷ []) (es1 N) (partition_dom [] no_exs (range (n 4) (n 5))))
    (codes "p") []) ≡ part_told
part_numbers = refl

part_numbers_declared : tables (declarations parts (sets (numbered Key.MaxSize (pos 2) ∷ []) (partitions [] (between (pos 4) (pos 5)))))
    ≡ part_told
part_numbers_declared = refl

-- matrix indexed by [t] of set (size n) of int(4..5): the axis of the indices stands before that of the slots, and no cell is out of use.
abbrev rows : Repr
rows = over_child ReprKind.Matrix (over_child ReprKind.Explicit (alone ReprKind.Atom))

abbrev rows_told : List Told
rows_told = (Some ((pos 1 ∷ pos 2 ∷ pos 3 ∷ []) ∷ one_two ∷ []), Some (between (pos 4) (pos 5))) ∷ []

matrix_of_sets : told two (declared_trees rows (matrix_dom (more_doms t no_doms)
    (set_dom (valued Key.Size ∷ []) (es1 N) (range (n 4) (n 5)))) (codes "m") [])
    ≡ rows_told
matrix_of_sets = refl

matrix_of_sets_declared : tables (declarations rows
    (matrices (more_domains (named (codes "t") 3) no_domains) (sets (numbered Key.Size (pos 2) ∷ []) (between (pos 4) (pos 5)))))
    ≡ rows_told
matrix_of_sets_declared = refl

-- function int(1..n) --> bool as a relation as a matrix, and as a set with a marker: it has at most n pairs.
abbrev as_matrix : Repr
as_matrix = over_child ReprKind.FunctionAsRelation (alone ReprKind.RelationAsMatrix)

abbrev as_set : Repr
as_set = over_child ReprKind.FunctionAsRelation (over_child ReprKind.RelationAsSet
    (over_child ReprKind.ExplicitVarSizeWithMarker (repr ReprKind.Tuple
    (more_reprs (alone ReprKind.Atom) (more_reprs (alone ReprKind.Atom) no_reprs)))))

abbrev map_of_n : Dom
map_of_n = function_dom [] no_exs (range (n 1) N) bool_dom

pairs_in_matrix : told two (declared_trees as_matrix map_of_n (codes "f") []) ≡
    (Some (one_two ∷ (pos 0 ∷ pos 1 ∷ []) ∷ []), Some booleans) ∷ []
pairs_in_matrix = refl

pairs_in_set : told two (declared_trees as_set map_of_n (codes "f") [])
    ≡ (Some [], Some (up_to 2)) ∷ (Some (one_two ∷ []), Some (integers (only 0 ∷ to 1 2 ∷ []))) ∷ (Some (one_two ∷ []), Some booleans) ∷ []
unfolding digits
pairs_in_set = refl

pairs_declared : tables (declarations as_set (functions [] (between (pos 1) (pos 2)) booleans))
    ≡ (Some [], Some (up_to 2)) ∷ (Some (one_two ∷ []), Some (integers (only 0 ∷ to 1 2 ∷ []))) ∷ (Some (one_two ∷ []), Some booleans) ∷ []
pairs_declared = refl

-- ---- what is asked

-- An attribute below 0 counts as 0, but not as a bound: the marker of a set (maxSize n) where n is -1 has no value as it is declared.
below_0 : told (with_n (negsuc 0)) (declared_trees (over_child ReprKind.ExplicitVarSizeWithMarker (alone ReprKind.Atom))
    (set_dom (valued Key.MaxSize ∷ []) (es1 N) bool_dom) (codes "s") [])
    ≡ (Some [], Some (between (pos 0) (negsuc 0))) ∷ (Some ([] ∷ []), Some booleans) ∷ []
below_0 = refl

below_0_declared : tables (declarations (over_child ReprKind.ExplicitVarSizeWithMarker (alone ReprKind.Atom))
    (sets (numbered Key.MaxSize (negsuc 0) ∷ []) booleans))
    ≡ (Some [], Some (between (pos 0) (pos 0))) ∷ (Some ([] ∷ []), Some booleans) ∷ []
below_0_declared = refl

-- A record has a component for each field. One without a field, which no tree has, would have no table.
paired : are_paired (codes "a" ∷ codes "b" ∷ []) (ds2 bool_dom t) ≡ true
paired = refl

too_few_fields : are_paired (codes "a" ∷ []) (ds2 bool_dom t) ≡ false
too_few_fields = refl

too_many_fields : are_paired (codes "a" ∷ []) no_doms ≡ false
too_many_fields = refl

no_field : told two (declared_trees (repr ReprKind.Rec (more_reprs (alone ReprKind.Atom) no_reprs))
    (record_dom [] (more_doms bool_dom no_doms)) (codes "r") []) ≡ []
no_field = refl
