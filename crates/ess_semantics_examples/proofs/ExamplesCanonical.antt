-- Worked examples: over tiny domains, of all tables exactly the canonical ones of the members are canonical, one for
-- each member, for every kind of representation.
use Rattle.std.specs.Prelude.{◌≡◌, refl, ℕ, Bool, true, false, List, [], ◌∷◌, map, pos, codes}
use Rattle.ess_semantics.specs.declared.words.Key.{Key}
use Rattle.ess_semantics.specs.declared.words.ReprKind.{ReprKind}
use Rattle.ess_semantics.specs.Values.{Value, truth, item, nil, cons, pair, matrix}
use Rattle.ess_semantics.specs.Collections.{set_of, mset_of}
use Rattle.ess_semantics.specs.Trees.{Repr}
use Rattle.ess_semantics.specs.Choice.{alone, over_child}
use Rattle.ess_semantics.specs.Domains.{Attribute, numbered, Domain, booleans, named, tuples, matrices, sets, msets, no_domains, more_domains, between}
use Rattle.ess_semantics.proofs.CellWords.{n, upto, with, of2, atom, both, set, counts, checked}

abbrev size2 : List Attribute
size2 = with Key.Size 2

abbrev most : ℕ → List Attribute
most k = with Key.MaxSize k

abbrev least1 : List Attribute
least1 = with Key.MinSize 1

abbrev bag : List ℕ → Value
bag ks = mset_of (map n ks)

-- ---- atoms, tuples, records, matrices

atoms : checked atom (named (codes "C") 2) (item (codes "C") 1 ∷ item (codes "C") 2 ∷ []) ≡ (2, 2, true)
atoms = refl

abbrev no_yes : Value → List Value
no_yes v = pair v (truth false) ∷ pair v (truth true) ∷ []

tuples_of_atoms : checked (of2 ReprKind.Tuple atom atom) (tuples (both (upto 1) booleans)) (no_yes (n 1)) ≡ (2, 2, true)
tuples_of_atoms = refl

abbrev row2 : Bool → Bool → Value
row2 a b = matrix (cons (n 1) (cons (n 2) nil)) (cons (truth a) (cons (truth b) nil))

matrices_of_bool : checked (over_child ReprKind.Matrix atom) (matrices (more_domains (upto 2) no_domains) booleans)
    (row2 false false ∷ row2 false true ∷ row2 true false ∷ row2 true true ∷ []) ≡ (4, 4, true)
matrices_of_bool = refl

-- ---- sets

abbrev subsets : List Value
subsets = set [] ∷ set (1 ∷ []) ∷ set (2 ∷ []) ∷ set (1 ∷ 2 ∷ []) ∷ []

occurrence : checked (alone ReprKind.Occurrence) (sets [] (upto 2)) subsets ≡ (4, 4, true)
occurrence = refl

explicit : checked (over_child ReprKind.Explicit atom) (sets size2 (upto 3)) (set (1 ∷ 2 ∷ []) ∷ set (1 ∷ 3 ∷ []) ∷ set (2 ∷ 3 ∷ []) ∷ []) ≡ (9, 3, true)
explicit = refl

marker : checked (over_child ReprKind.ExplicitVarSizeWithMarker atom) (sets [] (upto 2)) subsets ≡ (27, 4, true)
marker = refl

flags : checked (over_child ReprKind.ExplicitVarSizeWithFlags atom) (sets [] (upto 2)) subsets ≡ (36, 4, true)
flags = refl

dummy : checked (alone ReprKind.ExplicitVarSizeWithDummy) (sets [] (upto 2)) subsets ≡ (9, 4, true)
dummy = refl

abbrev colours : List ℕ → Value
colours ks = set_of (map (item (codes "C")) ks)

dummy_above_colours : checked (alone ReprKind.ExplicitVarSizeWithDummy) (sets [] (named (codes "C") 2)) (colours [] ∷ colours (1 ∷ []) ∷ colours (2 ∷ []) ∷ colours (1 ∷ 2 ∷ []) ∷ []) ≡ (9, 4, true)
dummy_above_colours = refl

-- ---- multisets

abbrev bags : List Value
bags = bag [] ∷ bag (1 ∷ []) ∷ bag (2 ∷ []) ∷ bag (1 ∷ 1 ∷ []) ∷ bag (1 ∷ 2 ∷ []) ∷ bag (2 ∷ 2 ∷ []) ∷ []

mset_occurrence : checked (alone ReprKind.MSetOccurrence) (msets (most 2) (upto 2)) bags ≡ (9, 6, true)
mset_occurrence = refl

repetition : checked (over_child ReprKind.MSetExplicitWithRepetition atom) (msets (most 2) (upto 2)) bags ≡ (27, 6, true)
repetition = refl

mset_flags : checked (over_child ReprKind.MSetExplicitWithFlags atom) (msets (most 2) (upto 2)) bags ≡ (81, 6, true)
mset_flags = refl

abbrev msets_checked : List Attribute → List Value → List (ℕ × ℕ × Bool)
msets_checked ks vs = map (λ r. checked r (msets ks (upto 2)) vs) (alone ReprKind.MSetOccurrence ∷ over_child ReprKind.MSetExplicitWithRepetition atom ∷ over_child ReprKind.MSetExplicitWithFlags atom ∷ [])

at_least_twice : msets_checked (numbered Key.MaxSize (pos 2) ∷ numbered Key.MinOccur (pos 2) ∷ []) (bag [] ∷ bag (1 ∷ 1 ∷ []) ∷ bag (2 ∷ 2 ∷ []) ∷ [])
    ≡ (9, 3, true) ∷ (27, 3, true) ∷ (81, 3, true) ∷ []
at_least_twice = refl

at_most_once : msets_checked (numbered Key.MaxSize (pos 2) ∷ numbered Key.MaxOccur (pos 1) ∷ []) (bag [] ∷ bag (1 ∷ []) ∷ bag (2 ∷ []) ∷ bag (1 ∷ 2 ∷ []) ∷ [])
    ≡ (4, 4, true) ∷ (27, 4, true) ∷ (36, 4, true) ∷ []
at_most_once = refl

of_size_two : msets_checked size2 (bag (1 ∷ 1 ∷ []) ∷ bag (1 ∷ 2 ∷ []) ∷ bag (2 ∷ 2 ∷ []) ∷ []) ≡ (9, 3, true) ∷ (27, 3, true) ∷ (81, 3, true) ∷ []
of_size_two = refl

-- ---- sizes of sets, in each representation

abbrev sets_checked : List Repr → List Attribute → List Value → List (ℕ × Bool)
sets_checked rs ks vs = map (λ r. counts (checked r (sets ks (upto 2)) vs)) rs

abbrev any_set : List Repr
any_set = alone ReprKind.Occurrence ∷ over_child ReprKind.ExplicitVarSizeWithMarker atom ∷ over_child ReprKind.ExplicitVarSizeWithFlags atom ∷ alone ReprKind.ExplicitVarSizeWithDummy ∷ []

abbrev sized_set : List Repr
sized_set = over_child ReprKind.Explicit atom ∷ any_set

not_empty : sets_checked any_set least1 (set (1 ∷ []) ∷ set (2 ∷ []) ∷ set (1 ∷ 2 ∷ []) ∷ []) ≡ (3, true) ∷ (3, true) ∷ (3, true) ∷ (3, true) ∷ []
not_empty = refl

at_most_one : sets_checked any_set (most 1) (set [] ∷ set (1 ∷ []) ∷ set (2 ∷ []) ∷ []) ≡ (3, true) ∷ (3, true) ∷ (3, true) ∷ (3, true) ∷ []
at_most_one = refl

of_one : sets_checked sized_set (with Key.Size 1) (set (1 ∷ []) ∷ set (2 ∷ []) ∷ []) ≡ (2, true) ∷ (2, true) ∷ (2, true) ∷ (2, true) ∷ (2, true) ∷ []
of_one = refl

-- attributes that no set meets together
none_of_one : sets_checked sized_set (numbered Key.Size (pos 1) ∷ numbered Key.MinSize (pos 2) ∷ []) [] ≡ (0, true) ∷ (0, true) ∷ (0, true) ∷ (0, true) ∷ (0, true) ∷ []
none_of_one = refl

above_most : sets_checked sized_set (numbered Key.Size (pos 2) ∷ numbered Key.MaxSize (pos 1) ∷ []) [] ≡ (0, true) ∷ (0, true) ∷ (0, true) ∷ (0, true) ∷ (0, true) ∷ []
above_most = refl

-- more members than the inner domain has
too_many : sets_checked sized_set (with Key.Size 3) [] ≡ (0, true) ∷ (0, true) ∷ (0, true) ∷ (0, true) ∷ (0, true) ∷ []
too_many = refl

-- ---- sets of sets

abbrev pairs_of_sets : List Value
pairs_of_sets =
    set_of (set [] ∷ set (1 ∷ []) ∷ []) ∷ set_of (set [] ∷ set (2 ∷ []) ∷ []) ∷ set_of (set [] ∷ set (1 ∷ 2 ∷ []) ∷ []) ∷
    set_of (set (1 ∷ []) ∷ set (2 ∷ []) ∷ []) ∷ set_of (set (1 ∷ []) ∷ set (1 ∷ 2 ∷ []) ∷ []) ∷ set_of (set (1 ∷ 2 ∷ []) ∷ set (2 ∷ []) ∷ []) ∷ []

abbrev set_of_sets : List Attribute → Domain
set_of_sets ks = sets ks (sets [] (upto 2))

sets_in_slots : checked (over_child ReprKind.Explicit (alone ReprKind.Occurrence)) (set_of_sets size2) pairs_of_sets ≡ (16, 6, true)
sets_in_slots = refl

dummies_in_slots : checked (over_child ReprKind.Explicit (alone ReprKind.ExplicitVarSizeWithDummy)) (set_of_sets size2) pairs_of_sets ≡ (81, 6, true)
dummies_in_slots = refl

-- a slot out of use holds 0 and not the dummy
dummies_out_of_use : checked (over_child ReprKind.ExplicitVarSizeWithMarker (alone ReprKind.ExplicitVarSizeWithDummy)) (sets (most 1) (sets [] (upto 1)))
    (set_of [] ∷ set_of (set [] ∷ []) ∷ set_of (set (1 ∷ []) ∷ []) ∷ []) ≡ (6, 3, true)
dummies_out_of_use = refl

markers_in_slots : checked (over_child ReprKind.ExplicitVarSizeWithFlags (over_child ReprKind.ExplicitVarSizeWithMarker atom)) (sets (most 2) (sets [] (upto 1)))
    (set_of [] ∷ set_of (set [] ∷ []) ∷ set_of (set (1 ∷ []) ∷ []) ∷ set_of (set [] ∷ set (1 ∷ []) ∷ []) ∷ []) ≡ (64, 4, true)
markers_in_slots = refl

-- ---- over an empty domain

abbrev of_tuples : ℕ → Domain
of_tuples k = sets (most 2) (tuples (both (upto k) booleans))

abbrev tuples_in_slots : Repr
tuples_in_slots = over_child ReprKind.ExplicitVarSizeWithMarker (of2 ReprKind.Tuple atom atom)

no_tuple : checked tuples_in_slots (of_tuples 0) (set_of [] ∷ []) ≡ (12, 1, true)
no_tuple = refl

two_tuples : checked tuples_in_slots (of_tuples 1) (set_of [] ∷ set_of (pair (n 1) (truth false) ∷ []) ∷ set_of (pair (n 1) (truth true) ∷ []) ∷ set_of (no_yes (n 1)) ∷ []) ≡ (48, 4, true)
two_tuples = refl

above_nothing : checked (alone ReprKind.ExplicitVarSizeWithDummy) (sets (most 2) (between (pos 5) (pos 3))) (set_of [] ∷ []) ≡ (1, 1, true)
above_nothing = refl

no_slots : checked tuples_in_slots (sets (most 0) (tuples (both (upto 2) booleans))) (set_of [] ∷ []) ≡ (1, 1, true)
no_slots = refl
