use Rattle.std.proofs.Common.{◌≡◌, sym, ap, ◌∙◌, option_map}
use Rattle.ess_semantics.specs.declared.words.ReprKind.{ReprKind}
use Rattle.ess_semantics.specs.Domains.{partitions}
use Rattle.ess_semantics.specs.Representations.{layer}
use Rattle.ess_semantics.specs.OneLayer.{inner_values}
use Rattle.ess_core.specs.ValueViews.{pure_val}
use Rattle.ess_repr_relations.proofs.PartitionCalls.{part_sets}
use Rattle.ess_repr_relations.proofs.partition_kinds.partition_parts.Goals as goal

pub returns-in_ok-as_set-in-PartitionAsSet : goal.returns-in_ok-as_set-in-PartitionAsSet
returns-in_ok-as_set-in-PartitionAsSet c ks d =
    let is = c.in-PartitionAsSet.is in
    let e : c.args.kind ≡ ReprKind.PartitionAsSet = cc in
    part_sets c.in_ok-as_set-in-PartitionAsSet.field-0 (pure_val c.args.val.now) c.in_ok-as_set-in-PartitionAsSet.ensures ks d
    ∙ ap (λ k. option_map (λ l. inner_values l (pure_val c.args.val.now)) (layer k (partitions ks d))) (sym e)
