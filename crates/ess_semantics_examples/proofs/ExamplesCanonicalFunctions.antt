-- Worked examples: the same for functions, relations and partitions.
use Rattle.std.specs.Prelude.{◌≡◌, refl, ℕ, Bool, true, false, List, [], ◌∷◌, ◌++◌, map, filter, pos, negsuc, codes}
use Rattle.ess_semantics.specs.declared.words.Key.{Key}
use Rattle.ess_semantics.specs.declared.words.ReprKind.{ReprKind}
use Rattle.ess_semantics.specs.Values.{Value, truth, item, pair}
use Rattle.ess_semantics.specs.Trees.{Repr}
use Rattle.ess_semantics.specs.Choice.{alone, over_child}
use Rattle.ess_semantics.specs.Domains.{Attribute, numbered, flagged, Domain, booleans, named, tuples, sets, functions, between}
use Rattle.ess_semantics.specs.Membership.{member}
use Rattle.ess_semantics.proofs.CellWords.{n, upto, with, of2, atom, both, function, key, set, counts, checked}

-- ---- functions from int(1..2) to bool

abbrev to_bool : List Attribute → Domain
to_bool ks = functions ks (upto 2) booleans

-- all pairs of some arguments and values
abbrev some_functions : List Value → List Value → List Value
some_functions xs ys = map function (some_pairs xs)
  where
    some_pairs : List Value → List (List Value)
    some_pairs [] = [] ∷ []
    some_pairs (x ∷ xs) = some_pairs xs ++ with_head x ys (some_pairs xs)
      where
        with_head : Value → List Value → List (List Value) → List (List Value)
        with_head x [] ls = []
        with_head x (y ∷ ys) ls = map (λ l. pair x y ∷ l) ls ++ with_head x ys ls

abbrev bools : List Value
bools = truth false ∷ truth true ∷ []

-- those that are members
abbrev in_domain : Domain → List Value → List Value
in_domain d vs = filter (member d) vs

abbrev bool_functions : List Attribute → List Value
bool_functions ks = in_domain (to_bool ks) (some_functions (n 1 ∷ n 2 ∷ []) bools)

total : checked (over_child ReprKind.Function1D atom) (to_bool (key Key.Total)) (bool_functions (key Key.Total)) ≡ (4, 4, true)
total = refl

partial : checked (over_child ReprKind.Function1DPartial atom) (to_bool []) (bool_functions []) ≡ (16, 9, true)
partial = refl

abbrev as_matrix : Repr
as_matrix = over_child ReprKind.FunctionAsRelation (alone ReprKind.RelationAsMatrix)

as_relation : checked as_matrix (to_bool []) (bool_functions []) ≡ (16, 9, true)
as_relation = refl

-- each attribute in each of three representations
abbrev kept_ways : List Attribute → List (ℕ × Bool)
kept_ways ks = map (λ r. counts (checked r (to_bool ks) (bool_functions ks))) (over_child ReprKind.Function1DPartial atom ∷ as_matrix ∷ [])

total_ones : kept_ways (key Key.Total) ≡ (4, true) ∷ (4, true) ∷ []
total_ones = refl

injective : kept_ways (key Key.Injective) ≡ (7, true) ∷ (7, true) ∷ []
injective = refl

surjective : kept_ways (key Key.Surjective) ≡ (2, true) ∷ (2, true) ∷ []
surjective = refl

bijective : kept_ways (key Key.Bijective) ≡ (2, true) ∷ (2, true) ∷ []
bijective = refl

of_one_pair : kept_ways (with Key.Size 1) ≡ (4, true) ∷ (4, true) ∷ []
of_one_pair = refl

total_of_one_pair : kept_ways (flagged Key.Total ∷ numbered Key.Size (pos 1) ∷ []) ≡ (0, true) ∷ (0, true) ∷ []
total_of_one_pair = refl

at_least_one_pair : kept_ways (with Key.MinSize 1) ≡ (8, true) ∷ (8, true) ∷ []
at_least_one_pair = refl

total_injective : checked (over_child ReprKind.Function1D atom) (to_bool (flagged Key.Total ∷ flagged Key.Injective ∷ [])) (bool_functions (flagged Key.Total ∷ flagged Key.Injective ∷ [])) ≡ (4, 2, true)
total_injective = refl

-- ---- from tuples of atoms, from a named type, from an empty domain

abbrev tuple_args : List Value
tuple_args = pair (n 1) (truth false) ∷ pair (n 1) (truth true) ∷ []

abbrev from_tuples : List Attribute → Domain
from_tuples ks = functions ks (tuples (both (upto 1) booleans)) booleans

several_axes : checked (over_child ReprKind.FunctionNDPartial atom) (from_tuples []) (some_functions tuple_args bools) ≡ (16, 9, true)
several_axes = refl

several_axes_total : checked (over_child ReprKind.FunctionND atom) (from_tuples (key Key.Total)) (in_domain (from_tuples (key Key.Total)) (some_functions tuple_args bools)) ≡ (4, 4, true)
several_axes_total = refl

abbrev colours : Domain
colours = named (codes "C") 2

from_colours : checked (over_child ReprKind.Function1D atom) (functions (key Key.Total) colours booleans)
    (in_domain (functions (key Key.Total) colours booleans) (some_functions (item (codes "C") 1 ∷ item (codes "C") 2 ∷ []) bools)) ≡ (4, 4, true)
from_colours = refl

from_nothing : checked (over_child ReprKind.Function1D atom) (functions (key Key.Total) (between (pos 1) (negsuc 1)) (between (pos 1) (negsuc 1))) (function [] ∷ []) ≡ (1, 1, true)
from_nothing = refl

-- values out of use are empty sets with the marker 0
abbrev to_sets : Domain
to_sets = functions [] (upto 2) (sets [] (upto 1))

sets_as_values : checked (over_child ReprKind.Function1DPartial (over_child ReprKind.ExplicitVarSizeWithMarker atom)) to_sets
    (some_functions (n 1 ∷ n 2 ∷ []) (set [] ∷ set (1 ∷ []) ∷ [])) ≡ (64, 9, true)
sets_as_values = refl

-- over a set of pairs
abbrev as_pairs : ReprKind → Repr
as_pairs k = over_child ReprKind.FunctionAsRelation (over_child ReprKind.RelationAsSet (over_child k (of2 ReprKind.Tuple atom atom)))

pairs_in_slots : checked (as_pairs ReprKind.ExplicitVarSizeWithMarker) (functions [] (upto 2) (upto 1)) (some_functions (n 1 ∷ n 2 ∷ []) (n 1 ∷ [])) ≡ (108, 4, true)
pairs_in_slots = refl

total_pairs : checked (as_pairs ReprKind.Explicit) (to_bool (key Key.Total)) (bool_functions (key Key.Total)) ≡ (16, 4, true)
total_pairs = refl
