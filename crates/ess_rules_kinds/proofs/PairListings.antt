-- Listings of views over two tables, by the parts of the view.
use Rattle.std.proofs.Common.{◌≡◌, refl, [], ◌∷◌}
use Rattle.ess_semantics.specs.declared.words.ReprKind.{ReprKind}
use Rattle.ess_semantics.specs.Lists.{and_then}
use Rattle.ess_semantics.specs.Values.{Text}
use Rattle.ess_semantics.specs.Trees.{repr, no_reprs, more_reprs, Ex, seen_ex, partition_dom}
use Rattle.ess_views_laws.specs.PartitionViews.{partition_parts}
use Rattle.ess_rules_kinds.specs.ViewParts.{pair_leaf, pair_view}

-- The parts of a partition.
pub parts_by_parts : (x : Text) (n e : Ex) → partition_parts x n e ≡ and_then (pair_leaf e) (λ p. partition_parts x n (pair_view p))
parts_by_parts x n (seen_ex (repr k no_reprs) d (m ∷ w ∷ []) js) = refl
parts_by_parts x n (seen_ex (repr ReprKind.PartitionOccurrence no_reprs) (partition_dom ms es d) [] js) = refl
parts_by_parts x n (seen_ex (repr ReprKind.PartitionOccurrence no_reprs) (partition_dom ms es d) (m ∷ []) js) = refl
parts_by_parts x n (seen_ex (repr ReprKind.PartitionOccurrence no_reprs) (partition_dom ms es d) (m ∷ w ∷ v ∷ ns) js) = refl
parts_by_parts x n (seen_ex (repr ReprKind.PartitionOccurrence (more_reprs r rs)) d ns js) = refl
parts_by_parts x n e = refl
