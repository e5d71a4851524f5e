-- Worked examples of what a plan says before any value is known: names of tables, sizes, and representations in order.
use Rattle.std.specs.Prelude.{◌≡◌, refl, ℕ, true, false, List, [], ◌∷◌, map, Option, Some, None, codes, ◌++◌, length, option_map}
use Rattle.ess_semantics.specs.declared.words.Key.{Key}
use Rattle.ess_semantics.specs.declared.words.ReprKind.{ReprKind}
use Rattle.ess_semantics.specs.Trees.{one_value, both_ends, flag, valued, no_exs, more_exs, Dom, bool_dom, int_dom, name_dom, tuple_dom, record_dom, matrix_dom, set_dom, mset_dom, function_dom, relation_dom, partition_dom, no_doms, more_doms, Stm, given, given_enum, let_enum, find, Repr, repr, no_reprs, more_reprs}
use Rattle.std.specs.Fmt.{digits}
use Rattle.ess_semantics.specs.Lists.{and_then, item_number}
use Rattle.ess_semantics.specs.Domains.{Domain, sets, msets}
use Rattle.ess_semantics.specs.Sizes.{bound, slots_of_set, slots_of_mset}
use Rattle.ess_semantics.specs.Choice.{default_repr, all_reprs, alone, over_child}
use Rattle.ess_semantics.specs.TableNames.{Named}
use Rattle.ess_semantics.specs.Meaning.{empty_env, domain_of}
use Rattle.ess_semantics.specs.Plans.{Options, table_list, all_lists, finds_side, givens_side}
use Rattle.ess_semantics.proofs.Shorthands.{n, es1, es2, ds2, range, upto, set, sized}

-- ---- names of tables with their numbers of axes, given ones first

abbrev NamedRow : Type 0
NamedRow = List Stm × Options × List Named

abbrev named : List NamedRow
named =
    -- find s : set of int(1..2) / find s_Occurrence : bool
    ((find (codes "s") (set (upto 2)) ∷ find (codes "s_Occurrence") bool_dom ∷ []), [], (codes "s_Occurrence_", 1) ∷ (codes "s_Occurrence", 0) ∷ []) ∷
    -- find s_Occurrence : bool / find s : set of int(1..2)
    ((find (codes "s_Occurrence") bool_dom ∷ find (codes "s") (set (upto 2)) ∷ []), [], (codes "s_Occurrence", 0) ∷ (codes "s_Occurrence_", 1) ∷ []) ∷
    -- letting C be new type enum {s_Occurrence, s_Occurrence_} / find s : set of int(1..2)
    ((let_enum (codes "C") (codes "s_Occurrence" ∷ codes "s_Occurrence_" ∷ []) ∷ find (codes "s") (set (upto 2)) ∷ []), [], (codes "s_Occurrence__", 1) ∷ []) ∷
    -- find t : (bool, bool) / find t_1 : (bool, bool)
    ((find (codes "t") (tuple_dom (ds2 bool_dom bool_dom)) ∷ find (codes "t_1") (tuple_dom (ds2 bool_dom bool_dom)) ∷ []), [], (codes "t_1_", 0) ∷ (codes "t_2", 0) ∷ (codes "t_1_1", 0) ∷ (codes "t_1_2", 0) ∷ []) ∷
    -- given E new type enum / find E_Size : bool / find s : set of E
    ((given_enum (codes "E") ∷ find (codes "E_Size") bool_dom ∷ find (codes "s") (set (name_dom (codes "E"))) ∷ []), [], (codes "E_Size_", 0) ∷ (codes "E_Size", 0) ∷ (codes "s_Occurrence", 1) ∷ []) ∷
    -- find s : set (size 1) of int(1..2) with `s:Explicit+Occurrence`
    ((find (codes "s") (sized Key.Size 1 (upto 2)) ∷ []), (codes "s", over_child ReprKind.Explicit (alone ReprKind.Atom) ∷ alone ReprKind.Occurrence ∷ []) ∷ [], (codes "s_Explicit", 1) ∷ (codes "s_Occurrence", 1) ∷ []) ∷
    -- find r : record {x_1 : bool, x : (bool, bool)}
    ((find (codes "r") (record_dom (codes "x" ∷ codes "x_1" ∷ []) (ds2 (tuple_dom (ds2 bool_dom bool_dom)) bool_dom)) ∷ []), [], (codes "r_x_1", 0) ∷ (codes "r_x_2", 0) ∷ (codes "r_x_1_", 0) ∷ []) ∷
    -- find a : (int(1..2), (bool, set of bool))
    ((find (codes "a") (tuple_dom (ds2 (upto 2) (tuple_dom (ds2 bool_dom (set bool_dom))))) ∷ []), [], (codes "a_1", 0) ∷ (codes "a_2_1", 0) ∷ (codes "a_2_2_Occurrence", 1) ∷ []) ∷
    -- given m : matrix indexed by [bool] of set (maxSize 1) of (bool, bool) / find f : function (bool, bool) --> set of bool
    ((given (codes "m") (matrix_dom (more_doms bool_dom no_doms) (sized Key.MaxSize 1 (tuple_dom (ds2 bool_dom bool_dom)))) ∷ find (codes "f") (function_dom [] no_exs (tuple_dom (ds2 bool_dom bool_dom)) (set bool_dom)) ∷ []), [], (codes "m_ExplicitVarSizeWithMarker_Marker", 1) ∷ (codes "m_ExplicitVarSizeWithMarker_Values_1", 2) ∷ (codes "m_ExplicitVarSizeWithMarker_Values_2", 2) ∷ (codes "f_FunctionNDPartial_Flags", 2) ∷ (codes "f_FunctionNDPartial_Values_Occurrence", 3) ∷ []) ∷
    []

abbrev all_names : NamedRow → List Named
all_names r = table_list givens_side r.0 r.1 ++ table_list finds_side r.0 r.1

names_are_free : map all_names named ≡ map (λ r. r.2) named
unfolding digits
names_are_free = refl

-- ---- bounds of domains, and slots

abbrev BoundRow : Type 0
BoundRow = Dom × ℕ

abbrev bounded : List BoundRow
bounded =
    -- int(1..3, 2..5): 5
    (int_dom (both_ends ∷ both_ends ∷ []) (more_exs (n 1) (more_exs (n 3) (es2 (n 2) (n 5)))), 5) ∷
    -- int(5..1): 0
    (range (n 5) (n 1), 0) ∷
    -- bool: 2
    (bool_dom, 2) ∷
    -- (int(1..3), bool): 6
    (tuple_dom (ds2 (upto 3) bool_dom), 6) ∷
    -- set of int(1..3): 8
    (set (upto 3), 8) ∷
    -- mset (maxOccur 2) of int(1..3): 27
    (mset_dom (valued Key.MaxOccur ∷ []) (es1 (n 2)) (upto 3), 27) ∷
    -- mset (maxSize 4) of bool: 25
    (mset_dom (valued Key.MaxSize ∷ []) (es1 (n 4)) bool_dom, 25) ∷
    -- function int(1..3) --> bool: 27
    (function_dom [] no_exs (upto 3) bool_dom, 27) ∷
    -- function (total) bool --> int(1..4): 25
    (function_dom (flag Key.Total ∷ []) no_exs bool_dom (upto 4), 25) ∷
    -- relation of (int(1..3) * bool): 64
    (relation_dom [] no_exs (ds2 (upto 3) bool_dom), 64) ∷
    -- partition from int(1..3): 64
    (partition_dom [] no_exs (upto 3), 64) ∷
    -- matrix indexed by [int(1..2), bool] of int(1..4): 625
    (matrix_dom (ds2 (upto 2) bool_dom) (upto 4), 625) ∷
    -- matrix indexed by [int(1..2)] of matrix indexed by [bool] of int(1..4): 676
    (matrix_dom (more_doms (upto 2) no_doms) (matrix_dom (more_doms bool_dom no_doms) (upto 4)), 676) ∷
    -- set of set of int(1..2): 16
    (set (set (upto 2)), 16) ∷
    -- matrix indexed by [int(1..0)] of int(1..4): 1
    (matrix_dom (more_doms (upto 0) no_doms) (upto 4), 1) ∷
    -- function int(1..0) --> int(1..0): 1
    (function_dom [] no_exs (upto 0) (upto 0), 1) ∷
    []

bounds_are_right : map (λ r. option_map bound (domain_of r.0 empty_env)) bounded ≡ map (λ r. Some r.1) bounded
bounds_are_right = refl

abbrev slotted : List BoundRow
slotted =
    -- set of set of int(1..3): 8
    (set (set (upto 3)), 8) ∷
    -- set (minSize 1, maxSize 4) of (bool, bool): 4
    (set_dom (valued Key.MinSize ∷ valued Key.MaxSize ∷ []) (es2 (n 1) (n 4)) (tuple_dom (ds2 bool_dom bool_dom)), 4) ∷
    -- set (size 2, maxSize 9) of int(1..3): 2
    (set_dom (valued Key.Size ∷ valued Key.MaxSize ∷ []) (es2 (n 2) (n 9)) (upto 3), 2) ∷
    -- mset (maxOccur 2) of int(1..3): 6
    (mset_dom (valued Key.MaxOccur ∷ []) (es1 (n 2)) (upto 3), 6) ∷
    -- mset (maxOccur 2, maxSize 3) of int(1..3): 3
    (mset_dom (valued Key.MaxOccur ∷ valued Key.MaxSize ∷ []) (es2 (n 2) (n 3)) (upto 3), 3) ∷
    -- mset (size 3) of bool: 3
    (mset_dom (valued Key.Size ∷ []) (es1 (n 3)) bool_dom, 3) ∷
    []

abbrev slots_of : Domain → Option ℕ
slots_of (sets ks d) = Some (slots_of_set ks d)
slots_of (msets ks d) = Some (slots_of_mset ks d)
slots_of d = None

slots_are_right : map (λ r. and_then (domain_of r.0 empty_env) slots_of) slotted ≡ map (λ r. Some r.1) slotted
slots_are_right = refl

-- ---- all representations of a domain: how many there are, the first, the last, and the default

abbrev ReprRow : Type 0
ReprRow = Dom × ℕ × Repr × Repr × Repr

abbrev represented : List ReprRow
represented =
    -- set (size 2) of set of int(1..2): 12
    (sized Key.Size 2 (set (upto 2)), 12, over_child ReprKind.Explicit (alone ReprKind.Occurrence), over_child ReprKind.ExplicitVarSizeWithFlags (alone ReprKind.ExplicitVarSizeWithDummy), over_child ReprKind.Explicit (alone ReprKind.Occurrence)) ∷
    -- set of int(1..3): 4
    (set (upto 3), 4, alone ReprKind.Occurrence, alone ReprKind.ExplicitVarSizeWithDummy, alone ReprKind.Occurrence) ∷
    -- set of int(1, 3): 3
    (set (int_dom (one_value ∷ one_value ∷ []) (es2 (n 1) (n 3))), 3, alone ReprKind.Occurrence, over_child ReprKind.ExplicitVarSizeWithFlags (alone ReprKind.Atom), alone ReprKind.Occurrence) ∷
    -- set of bool: 3
    (set bool_dom, 3, alone ReprKind.Occurrence, over_child ReprKind.ExplicitVarSizeWithFlags (alone ReprKind.Atom), alone ReprKind.Occurrence) ∷
    -- set (size 1) of bool: 4
    (sized Key.Size 1 bool_dom, 4, alone ReprKind.Occurrence, over_child ReprKind.ExplicitVarSizeWithFlags (alone ReprKind.Atom), alone ReprKind.Occurrence) ∷
    -- mset (maxSize 1) of (bool, bool): 2
    (mset_dom (valued Key.MaxSize ∷ []) (es1 (n 1)) (tuple_dom (ds2 bool_dom bool_dom)), 2, over_child ReprKind.MSetExplicitWithRepetition (repr ReprKind.Tuple (more_reprs (alone ReprKind.Atom) (more_reprs (alone ReprKind.Atom) no_reprs))), over_child ReprKind.MSetExplicitWithFlags (repr ReprKind.Tuple (more_reprs (alone ReprKind.Atom) (more_reprs (alone ReprKind.Atom) no_reprs))), over_child ReprKind.MSetExplicitWithRepetition (repr ReprKind.Tuple (more_reprs (alone ReprKind.Atom) (more_reprs (alone ReprKind.Atom) no_reprs)))) ∷
    -- function (total) int(1..2) --> bool: 6
    (function_dom (flag Key.Total ∷ []) no_exs (upto 2) bool_dom, 6, over_child ReprKind.Function1D (alone ReprKind.Atom), over_child ReprKind.FunctionAsRelation (over_child ReprKind.RelationAsSet (over_child ReprKind.ExplicitVarSizeWithFlags (repr ReprKind.Tuple (more_reprs (alone ReprKind.Atom) (more_reprs (alone ReprKind.Atom) no_reprs))))), over_child ReprKind.Function1D (alone ReprKind.Atom)) ∷
    -- function (total) (bool, bool) --> bool: 5
    (function_dom (flag Key.Total ∷ []) no_exs (tuple_dom (ds2 bool_dom bool_dom)) bool_dom, 5, over_child ReprKind.FunctionND (alone ReprKind.Atom), over_child ReprKind.FunctionAsRelation (over_child ReprKind.RelationAsSet (over_child ReprKind.ExplicitVarSizeWithFlags (repr ReprKind.Tuple (more_reprs (repr ReprKind.Tuple (more_reprs (alone ReprKind.Atom) (more_reprs (alone ReprKind.Atom) no_reprs))) (more_reprs (alone ReprKind.Atom) no_reprs))))), over_child ReprKind.FunctionND (alone ReprKind.Atom)) ∷
    -- function set of bool --> bool: 6
    (function_dom [] no_exs (set bool_dom) bool_dom, 6, over_child ReprKind.FunctionAsRelation (over_child ReprKind.RelationAsSet (over_child ReprKind.ExplicitVarSizeWithMarker (repr ReprKind.Tuple (more_reprs (alone ReprKind.Occurrence) (more_reprs (alone ReprKind.Atom) no_reprs))))), over_child ReprKind.FunctionAsRelation (over_child ReprKind.RelationAsSet (over_child ReprKind.ExplicitVarSizeWithFlags (repr ReprKind.Tuple (more_reprs (over_child ReprKind.ExplicitVarSizeWithFlags (alone ReprKind.Atom)) (more_reprs (alone ReprKind.Atom) no_reprs))))), over_child ReprKind.FunctionAsRelation (over_child ReprKind.RelationAsSet (over_child ReprKind.ExplicitVarSizeWithMarker (repr ReprKind.Tuple (more_reprs (alone ReprKind.Occurrence) (more_reprs (alone ReprKind.Atom) no_reprs)))))) ∷
    -- relation of (bool * bool): 3
    (relation_dom [] no_exs (ds2 bool_dom bool_dom), 3, alone ReprKind.RelationAsMatrix, over_child ReprKind.RelationAsSet (over_child ReprKind.ExplicitVarSizeWithFlags (repr ReprKind.Tuple (more_reprs (alone ReprKind.Atom) (more_reprs (alone ReprKind.Atom) no_reprs)))), alone ReprKind.RelationAsMatrix) ∷
    -- relation (size 1) of (bool * set of bool): 9
    (relation_dom (valued Key.Size ∷ []) (es1 (n 1)) (ds2 bool_dom (set bool_dom)), 9, over_child ReprKind.RelationAsSet (over_child ReprKind.Explicit (repr ReprKind.Tuple (more_reprs (alone ReprKind.Atom) (more_reprs (alone ReprKind.Occurrence) no_reprs)))), over_child ReprKind.RelationAsSet (over_child ReprKind.ExplicitVarSizeWithFlags (repr ReprKind.Tuple (more_reprs (alone ReprKind.Atom) (more_reprs (over_child ReprKind.ExplicitVarSizeWithFlags (alone ReprKind.Atom)) no_reprs)))), over_child ReprKind.RelationAsSet (over_child ReprKind.Explicit (repr ReprKind.Tuple (more_reprs (alone ReprKind.Atom) (more_reprs (alone ReprKind.Occurrence) no_reprs))))) ∷
    -- partition from bool: 7
    (partition_dom [] no_exs bool_dom, 7, alone ReprKind.PartitionOccurrence, over_child ReprKind.PartitionAsSet (over_child ReprKind.ExplicitVarSizeWithFlags (over_child ReprKind.ExplicitVarSizeWithFlags (alone ReprKind.Atom))), alone ReprKind.PartitionOccurrence) ∷
    -- partition (numParts 1) from (bool, bool): 6
    (partition_dom (valued Key.NumParts ∷ []) (es1 (n 1)) (tuple_dom (ds2 bool_dom bool_dom)), 6, over_child ReprKind.PartitionAsSet (over_child ReprKind.Explicit (over_child ReprKind.ExplicitVarSizeWithMarker (repr ReprKind.Tuple (more_reprs (alone ReprKind.Atom) (more_reprs (alone ReprKind.Atom) no_reprs))))), over_child ReprKind.PartitionAsSet (over_child ReprKind.ExplicitVarSizeWithFlags (over_child ReprKind.ExplicitVarSizeWithFlags (repr ReprKind.Tuple (more_reprs (alone ReprKind.Atom) (more_reprs (alone ReprKind.Atom) no_reprs))))), over_child ReprKind.PartitionAsSet (over_child ReprKind.Explicit (over_child ReprKind.ExplicitVarSizeWithMarker (repr ReprKind.Tuple (more_reprs (alone ReprKind.Atom) (more_reprs (alone ReprKind.Atom) no_reprs)))))) ∷
    -- (set of bool, set of bool): 9
    (tuple_dom (ds2 (set bool_dom) (set bool_dom)), 9, repr ReprKind.Tuple (more_reprs (alone ReprKind.Occurrence) (more_reprs (alone ReprKind.Occurrence) no_reprs)), repr ReprKind.Tuple (more_reprs (over_child ReprKind.ExplicitVarSizeWithFlags (alone ReprKind.Atom)) (more_reprs (over_child ReprKind.ExplicitVarSizeWithFlags (alone ReprKind.Atom)) no_reprs)), repr ReprKind.Tuple (more_reprs (alone ReprKind.Occurrence) (more_reprs (alone ReprKind.Occurrence) no_reprs))) ∷
    []

abbrev last_of : {A : Type 0} → List A → Option A
last_of [] = None
last_of (a ∷ []) = Some a
last_of (a ∷ b ∷ as') = last_of (b ∷ as')

numbers_are_right : map (λ r. length (all_reprs r.0)) represented ≡ map (λ r. r.1) represented
numbers_are_right = refl

first_ones_are_right : map (λ r. item_number (all_reprs r.0) 0) represented ≡ map (λ r. Some r.2) represented
first_ones_are_right = refl

last_ones_are_right : map (λ r. last_of (all_reprs r.0)) represented ≡ map (λ r. Some r.3) represented
last_ones_are_right = refl

defaults_are_right : map (λ r. default_repr r.0) represented ≡ map (λ r. r.4) represented
defaults_are_right = refl

-- lists of several names: each combination once
abbrev two_sets : List Stm
two_sets = find (codes "s") (set (upto 3)) ∷ find (codes "t") (set (upto 3)) ∷ []

sixteen : length (all_lists two_sets) ≡ 16
sixteen = refl

no_names : length (all_lists []) ≡ 1
no_names = refl
