-- Worked examples: one layer of functions down and up on rows, by argument, with flags, over tuples, and as a relation.
use Rattle.std.specs.Prelude.{◌≡◌, refl, true, false, List, [], ◌∷◌, Some, None}
use Rattle.ess_semantics.specs.declared.words.ReprKind.{ReprKind}
use Rattle.ess_semantics.specs.Values.{Value, truth, pair, node, a_relation, of_list}
use Rattle.ess_semantics.specs.Domains.{Domain, booleans, sets, functions, tuples}
use Rattle.ess_semantics.specs.Tables.{Tables}
use Rattle.ess_semantics.specs.Cells.{Axes}
use Rattle.ess_semantics.specs.OneLayer.{layer_value}
use Rattle.ess_semantics.proofs.CellWords.{n, upto, ints, both, one, table, table2, set, function}
use Rattle.ess_repr_functions.specs.declared.forms.Form.TheVariants.{ForEach, Flagged, AsRelation}
use Rattle.ess_repr_functions.specs.FunctionForms.{form_of, over_functions}
use Rattle.ess_repr_functions.specs.FunctionRows.{values_at_members, has_values, relation_of_pairs, parts_by, tables_by, value_by}
use Rattle.ess_repr_functions.specs.FunctionPremises.{children_of}

-- ---- the forms

abbrev truths : Axes
truths = ints (0 ∷ 1 ∷ []) ∷ []

abbrev places : Axes
places = ints (0 ∷ 1 ∷ []) ∷ ints (1 ∷ 2 ∷ []) ∷ []

-- tuples of a truth value and a number
abbrev tupled : Domain
tupled = tuples (both booleans (upto 2))

form_1d : form_of ReprKind.Function1D booleans ≡ Some (ForEach truths)
form_1d = refl

form_partial : form_of ReprKind.Function1DPartial booleans ≡ Some (Flagged truths)
form_partial = refl

form_nd : form_of ReprKind.FunctionND tupled ≡ Some (ForEach places)
form_nd = refl

form_nd_partial : form_of ReprKind.FunctionNDPartial tupled ≡ Some (Flagged places)
form_nd_partial = refl

-- an atom has no components
form_nd_atom : form_of ReprKind.FunctionND booleans ≡ None
form_nd_atom = refl

form_relation : form_of ReprKind.FunctionAsRelation tupled ≡ Some AsRelation
form_relation = refl

-- no kind of functions
form_set : form_of ReprKind.Explicit booleans ≡ None
form_set = refl

over_sets : over_functions (sets [] booleans) (Some true) ≡ None
over_sets = refl

over_function : over_functions (functions [] booleans booleans) (Some true) ≡ Some true
over_function = refl

child_by_argument : children_of ReprKind.Function1D (functions [] booleans (upto 3)) ≡ upto 3 ∷ []
child_by_argument = refl

-- no layer, no child
child_none : children_of ReprKind.FunctionND (functions [] booleans (upto 3)) ≡ []
child_none = refl

-- ---- a function in part: function(true --> 5)

abbrev in_part : Value
in_part = function (pair (truth true) (n 5) ∷ [])

part_values : values_at_members booleans in_part ≡ n 5 ∷ []
part_values = refl

part_marks : has_values booleans in_part ≡ false ∷ true ∷ []
part_marks = refl

part_parts : parts_by (Flagged truths) booleans in_part ≡ n 5 ∷ []
part_parts = refl

part_tables : tables_by (Flagged truths) booleans in_part ([] ∷ []) ((one 5 ∷ []) ∷ [])
    ≡ table (0 ∷ 1 ∷ []) (0 ∷ 1 ∷ []) ∷ table (0 ∷ 1 ∷ []) (0 ∷ 5 ∷ []) ∷ []
part_tables = refl

part_value : value_by (Flagged truths) booleans (table (0 ∷ 1 ∷ []) (0 ∷ 1 ∷ []) ∷ table (0 ∷ 1 ∷ []) (0 ∷ 5 ∷ []) ∷ []) (n 5 ∷ [])
    ≡ Some in_part
part_value = refl

part_no_value : value_by (Flagged truths) booleans (table (0 ∷ 1 ∷ []) (0 ∷ 2 ∷ []) ∷ table (0 ∷ 1 ∷ []) (0 ∷ 5 ∷ []) ∷ []) (n 5 ∷ [])
    ≡ None
part_no_value = refl

-- ---- a total function from tuples: (false, 1) --> {}, (false, 2) --> {1}, (true, 1) --> {2}, (true, 2) --> {1, 2}

abbrev sets_of_tuples : Value
sets_of_tuples =
    function (pair (pair (truth false) (n 1)) (set []) ∷ pair (pair (truth false) (n 2)) (set (1 ∷ [])) ∷
    pair (pair (truth true) (n 1)) (set (2 ∷ [])) ∷
    pair (pair (truth true) (n 2)) (set (1 ∷ 2 ∷ [])) ∷ [])

-- each set by its members that occur
abbrev each_set : List Tables
each_set =
    (table (1 ∷ 2 ∷ []) (0 ∷ 0 ∷ []) ∷ []) ∷ (table (1 ∷ 2 ∷ []) (1 ∷ 0 ∷ []) ∷ []) ∷ (table (1 ∷ 2 ∷ []) (0 ∷ 1 ∷ []) ∷ []) ∷
    (table (1 ∷ 2 ∷ []) (1 ∷ 1 ∷ []) ∷ []) ∷ []

abbrev all_sets : Tables
all_sets =
    record { axes = ints (0 ∷ 1 ∷ []) ∷ ints (1 ∷ 2 ∷ []) ∷ ints (1 ∷ 2 ∷ []) ∷ []; items = ints (0 ∷ 0 ∷ 1 ∷ 0 ∷ 0 ∷ 1 ∷ 1 ∷ 1 ∷ []) } ∷ []

total_parts : parts_by (ForEach places) tupled sets_of_tuples ≡ set [] ∷ set (1 ∷ []) ∷ set (2 ∷ []) ∷ set (1 ∷ 2 ∷ []) ∷ []
total_parts = refl

total_tables : tables_by (ForEach places) tupled sets_of_tuples ((ints (1 ∷ 2 ∷ []) ∷ []) ∷ []) each_set ≡ all_sets
total_tables = refl

total_value : value_by (ForEach places) tupled all_sets (set [] ∷ set (1 ∷ []) ∷ set (2 ∷ []) ∷ set (1 ∷ 2 ∷ []) ∷ []) ≡ Some sets_of_tuples
total_value = refl

-- the same by the definitions of layers
total_layer : layer_value ReprKind.FunctionND (functions [] tupled (sets [] (upto 2))) all_sets
    (set [] ∷ set (1 ∷ []) ∷ set (2 ∷ []) ∷ set (1 ∷ 2 ∷ []) ∷ []) ≡ Some sets_of_tuples
total_layer = refl

-- ---- as a relation

abbrev pairs : Value
pairs = node a_relation (of_list (pair (truth true) (n 5) ∷ []))

relation_pairs : relation_of_pairs in_part ≡ pairs
relation_pairs = refl

relation_parts : parts_by AsRelation booleans in_part ≡ pairs ∷ []
relation_parts = refl

relation_tables : tables_by AsRelation booleans in_part ((ints (0 ∷ 1 ∷ []) ∷ ints (4 ∷ 5 ∷ []) ∷ []) ∷ [])
    ((table2 (0 ∷ 1 ∷ []) (4 ∷ 5 ∷ []) (0 ∷ 0 ∷ 0 ∷ 1 ∷ []) ∷ []) ∷ []) ≡
    table2 (0 ∷ 1 ∷ []) (4 ∷ 5 ∷ []) (0 ∷ 0 ∷ 0 ∷ 1 ∷ []) ∷ []
relation_tables = refl

relation_value : value_by AsRelation booleans [] (pairs ∷ []) ≡ Some in_part
relation_value = refl

-- two values at one argument
relation_double : value_by AsRelation booleans [] (node a_relation (of_list (pair (truth true) (n 4) ∷ pair (truth true) (n 5) ∷ [])) ∷ [])
    ≡ None
relation_double = refl

-- no relation
relation_none : value_by AsRelation booleans [] (set [] ∷ []) ≡ None
relation_none = refl
