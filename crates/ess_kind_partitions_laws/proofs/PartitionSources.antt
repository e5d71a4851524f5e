-- What views of partitions of judged domains offer has what it counts on, where they are kept by part numbers.
use Rattle.std.proofs.Common.{◌≡◌, refl, true, false, not, [], ◌∷◌, Some, None}
use Rattle.ess_semantics.specs.declared.words.ReprKind.{ReprKind}
use Rattle.ess_semantics.specs.Order.{same_text}
use Rattle.ess_semantics.specs.Trees.{repr, no_reprs, more_reprs, seen_ex, partition_dom}
use Rattle.ess_rules_laws.specs.Listings.{Alternative}
use Rattle.ess_kind_partitions_laws.specs.PartitionsAtHand.{PartitionsAreListed}
use Rattle.ess_kind_partitions_laws.proofs.JudgedPartitions.{partition-denoted, bound-named, numbers-enough}

no : {A : Type 0} → false ≡ true → A
no h = cc

-- A source that offers nothing.
absent : {A : Type 0} (a : Alternative) → None ≡ Some a → A
absent a q = cc

-- What is said of each view.
pub partitions-are-listed : PartitionsAreListed
partitions-are-listed x y zs (seen_ex (repr ReprKind.PartitionOccurrence no_reprs) (partition_dom ms es d) (m ∷ w ∷ []) js) a q i u env j h =
    let n = u.0 in (
      u,
      bound-named (λ a. not (same_text x a)) (λ a. true) refl d n.1,
      numbers-enough ms es d (m ∷ w ∷ []) js env (partition-denoted ms es d env j) h,
    )
partitions-are-listed x y zs (seen_ex (repr ReprKind.PartitionOccurrence no_reprs) (partition_dom ms es d) [] js) a q i u env j h = absent a q
partitions-are-listed x y zs (seen_ex (repr ReprKind.PartitionOccurrence no_reprs) (partition_dom ms es d) (m ∷ []) js) a q i u env j h =
    absent a q
partitions-are-listed x y zs (seen_ex (repr ReprKind.PartitionOccurrence no_reprs) (partition_dom ms es d) (m ∷ w ∷ n ∷ ns) js) a q i u env
    j h =
    absent a q
partitions-are-listed x y zs (seen_ex (repr ReprKind.PartitionOccurrence (more_reprs r rs)) (partition_dom ms es d) ns js) a q i u env j h =
    absent a q
partitions-are-listed x y zs _ a q i u env j h = no i
