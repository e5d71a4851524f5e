-- How many solutions there are under attributes of relations, functions, multisets and partitions.
use Rattle.std.specs.Prelude.{◌≡◌, refl, List, [], ◌∷◌, map}
use Rattle.ess_semantics.specs.declared.words.Key.{Key}
use Rattle.ess_semantics.specs.Lists.{append_all}
use Rattle.ess_semantics.specs.Values.{a_partition, Value, node, of_list, pair}
use Rattle.ess_semantics.specs.Collections.{sorted_once, set_of, relation_of}
use Rattle.ess_semantics.specs.Trees.{relation_dom, mset_dom, function_dom, partition_dom, flag, valued, no_exs, find}
use Rattle.ess_semantics.specs.Assignments.{nothing_given}
use Rattle.ess_semantics.proofs.Shorthands.{n, es2, ds2, upto, v, v2, v3}
use Rattle.ess_semantics_examples.proofs.ExamplesSolutions.{solutions, subsets, all_functions, pairs_of, ones_and_twos, s, f}

abbrev all_pairs : List Value → List Value → List Value
all_pairs as' bs = map (λ q. pair q.0 q.1) (pairs_of as' bs)

abbrev all_relations : List Value → List Value
all_relations ps = map relation_of (subsets ps)

thirteen_transitive : solutions (find s (relation_dom (flag Key.Transitive ∷ []) no_exs (ds2 (upto 2) (upto 2))) ∷ []) nothing_given s (all_relations (all_pairs v2 v2)) ≡ 13
thirteen_transitive = refl

-- no relation with an equal pair is irreflexive
abbrev unequal_pairs : List Value
unequal_pairs = pair (v 1) (v 2) ∷ pair (v 1) (v 3) ∷ pair (v 2) (v 1) ∷ pair (v 2) (v 3) ∷ pair (v 3) (v 1) ∷ pair (v 3) (v 2) ∷ []

eight_graphs : solutions (find s (relation_dom (flag Key.Symmetric ∷ flag Key.Irreflexive ∷ []) no_exs (ds2 (upto 3) (upto 3))) ∷ []) nothing_given s (all_relations unequal_pairs) ≡ 8
eight_graphs = refl

twelve_surjections : solutions (find f (function_dom (flag Key.Surjective ∷ []) no_exs (upto 3) (upto 2)) ∷ []) nothing_given f (all_functions v3 v2) ≡ 12
twelve_surjections = refl

seven_injections : solutions (find f (function_dom (flag Key.Injective ∷ []) no_exs (upto 2) (upto 2)) ∷ []) nothing_given f (all_functions v2 v2) ≡ 7
seven_injections = refl

nine_multisets : solutions (find s (mset_dom (valued Key.MinOccur ∷ valued Key.MaxOccur ∷ []) (es2 (n 2) (n 3)) (upto 2)) ∷ []) nothing_given s
    (map (λ q. ones_and_twos q.0 q.1) (pairs_of (0 ∷ 1 ∷ 2 ∷ 3 ∷ 4 ∷ []) (0 ∷ 1 ∷ 2 ∷ 3 ∷ 4 ∷ []))) ≡ 9
nine_multisets = refl

-- the partitions of a list: the last value goes into each part of a partition of the others, or stands alone
abbrev into_each : Value → List (List Value) → List (List (List Value))
into_each w [] = []
into_each w (p ∷ ps) = ((w ∷ p) ∷ ps) ∷ map (λ qs. p ∷ qs) (into_each w ps)

abbrev partitions_of : List Value → List (List (List Value))
partitions_of [] = [] ∷ []
partitions_of (w ∷ ws) = append_all (map (λ ps. ((w ∷ []) ∷ ps) ∷ into_each w ps) (partitions_of ws))

abbrev as_partition : List (List Value) → Value
as_partition ps = node a_partition (of_list (sorted_once (map set_of ps)))

five_regular : solutions (find s (partition_dom (flag Key.Regular ∷ []) no_exs (upto 4)) ∷ []) nothing_given s (map as_partition (partitions_of (v 1 ∷ v 2 ∷ v 3 ∷ v 4 ∷ []))) ≡ 5
five_regular = refl

fifteen_partitions : solutions (find s (partition_dom [] no_exs (upto 4)) ∷ []) nothing_given s (map as_partition (partitions_of (v 1 ∷ v 2 ∷ v 3 ∷ v 4 ∷ []))) ≡ 15
fifteen_partitions = refl
