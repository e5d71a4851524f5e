-- Views of partitions by the parts of views over two tables, and over any.
use Rattle.std.proofs.Common.{◌≡◌, refl, List, [], ◌∷◌}
use Rattle.ess_semantics.specs.declared.words.ReprKind.{ReprKind}
use Rattle.ess_semantics.specs.Lists.{and_then}
use Rattle.ess_semantics.specs.Values.{Text}
use Rattle.ess_semantics.specs.Trees.{Repr, repr, no_reprs, more_reprs, Ex, Exs, seen_ex, Dom, partition_dom}
use Rattle.ess_rules_kinds.specs.ViewParts.{leaf_kind, pair_leaf, pair_view}
use Rattle.ess_rules_partitions.specs.NumberedViews.{numbered, members_of, members_in}

-- Over two tables.
pub numbered_by_pair : (e : Ex) → numbered e ≡ and_then (pair_leaf e) (λ p. numbered (pair_view p))
numbered_by_pair (seen_ex (repr k no_reprs) d (m ∷ w ∷ []) js) = refl
numbered_by_pair (seen_ex (repr ReprKind.PartitionOccurrence no_reprs) (partition_dom ms es d) [] js) = refl
numbered_by_pair (seen_ex (repr ReprKind.PartitionOccurrence no_reprs) (partition_dom ms es d) (m ∷ []) js) = refl
numbered_by_pair (seen_ex (repr ReprKind.PartitionOccurrence no_reprs) (partition_dom ms es d) (m ∷ w ∷ v ∷ ns) js) = refl
numbered_by_pair (seen_ex (repr ReprKind.PartitionOccurrence (more_reprs r rs)) d ns js) = refl
numbered_by_pair e = refl

-- Over any tables.
pub members_by_kind : (r : Repr) (d : Dom) (ns : List Text) (js : Exs) → members_of (seen_ex r d ns js) ≡ members_in (leaf_kind r) d
members_by_kind (repr ReprKind.PartitionOccurrence no_reprs) (partition_dom ms es d) ns js = refl
members_by_kind (repr ReprKind.PartitionOccurrence (more_reprs r rs)) d ns js = refl
members_by_kind (repr k no_reprs) d ns js = refl
members_by_kind r d ns js = refl
