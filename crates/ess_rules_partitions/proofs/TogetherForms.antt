-- That members lie together, by the operands and by the parts of the view.
use Rattle.std.proofs.Common.{◌≡◌, refl, true, false, [], ◌∷◌, option_map}
use Rattle.ess_semantics.specs.declared.words.Fun.{Fun}
use Rattle.ess_semantics.specs.declared.words.ReprKind.{ReprKind}
use Rattle.ess_semantics.specs.Lists.{and_then}
use Rattle.ess_semantics.specs.Values.{Text}
use Rattle.ess_semantics.specs.Trees.{repr, no_reprs, word, set_literal, Ex, node_ex, seen_ex, no_exs, more_exs, partition_dom}
use Rattle.ess_views_laws.specs.PartitionViews.{are_together}
use Rattle.ess_rules_partitions.specs.Asked.{a_together, together_of}
use Rattle.ess_rules_partitions.specs.NumberedViews.{numbered, lie_together}

-- By the operands.
pub together_by_operands : (x y : Text) (n e : Ex)
    → are_together x y n e ≡ and_then (a_together e) (λ p. are_together x y n (together_of p.0 p.1))
together_by_operands x y n (node_ex true (word Fun.Together) (more_exs s (more_exs v no_exs))) = refl
together_by_operands x y n (node_ex true (word Fun.Together) (more_exs (node_ex false set_literal no_exs) no_exs)) = refl
together_by_operands x y n (node_ex true (word Fun.Together) (more_exs (node_ex false set_literal (more_exs a no_exs)) no_exs)) = refl
together_by_operands x y n (node_ex true (word Fun.Together)
    (more_exs (node_ex false set_literal (more_exs a (more_exs b bs))) no_exs)) = refl
together_by_operands x y n (node_ex true (word Fun.Together) (more_exs (node_ex false set_literal no_exs) (more_exs
    (seen_ex (repr ReprKind.PartitionOccurrence no_reprs) (partition_dom ms es d) (m ∷ w ∷ []) js) (more_exs u us)))) = refl
together_by_operands x y n (node_ex true (word Fun.Together) (more_exs (node_ex false set_literal (more_exs a no_exs)) (more_exs
    (seen_ex (repr ReprKind.PartitionOccurrence no_reprs) (partition_dom ms es d) (m ∷ w ∷ []) js) (more_exs u us)))) = refl
together_by_operands x y n (node_ex true (word Fun.Together) (more_exs (node_ex false set_literal (more_exs a (more_exs b bs))) (more_exs
    (seen_ex (repr ReprKind.PartitionOccurrence no_reprs) (partition_dom ms es d) (m ∷ w ∷ []) js) (more_exs u us)))) = refl
together_by_operands x y n (node_ex true (word Fun.Together) (more_exs s (more_exs
    (seen_ex (repr ReprKind.PartitionOccurrence no_reprs) (partition_dom ms es d) (m ∷ w ∷ []) js) (more_exs u us)))) = refl
together_by_operands x y n e = refl

-- By the parts of the view.
pub together_by_parts : (x y : Text) (n s v : Ex)
    → are_together x y n (together_of s v) ≡ option_map (lie_together x y n s) (numbered v)
together_by_parts x y n (node_ex false set_literal no_exs)
    (seen_ex (repr ReprKind.PartitionOccurrence no_reprs) (partition_dom ms es d) (m ∷ w ∷ []) js) = refl
together_by_parts x y n (node_ex false set_literal (more_exs a no_exs))
    (seen_ex (repr ReprKind.PartitionOccurrence no_reprs) (partition_dom ms es d) (m ∷ w ∷ []) js) = refl
together_by_parts x y n (node_ex false set_literal (more_exs a (more_exs b bs)))
    (seen_ex (repr ReprKind.PartitionOccurrence no_reprs) (partition_dom ms es d) (m ∷ w ∷ []) js) = refl
together_by_parts x y n s
    (seen_ex (repr ReprKind.PartitionOccurrence no_reprs) (partition_dom ms es d) (m ∷ w ∷ []) js) = refl
together_by_parts x y n s v = refl
