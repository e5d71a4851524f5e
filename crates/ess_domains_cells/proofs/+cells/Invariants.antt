use Rattle.std.proofs.Common.{◌≡◌, ◌+◌, map, drop}
use Rattle.ess_semantics.specs.Choice.{reprs_of}
use Rattle.ess_semantics.specs.Domains.{domain_list}
use Rattle.ess_core.specs.TreeViews.{pure_repr}
use Rattle.ess_eval_domains.specs.ClosedViews.{pure_closeds, pure_field_closed, domains_of}
use Rattle.ess_domains_cells.specs.Kept.{kept}
use Rattle.ess_domains_cells.specs.Counted.{counted_children}
use Rattle.ess_domains_cells.proofs.+cells.Given as goal

abbrev pub invariant-representations::each_cells-loop-index : goal.invariant-representations::each_cells-loop-index
invariant-representations::each_cells-loop-index l = record {
  so_far :
      kept (l.total + counted_children (reprs_of (map pure_repr (drop l.index l.reprs))) (domain_list (pure_closeds (drop l.index l.parts))) l.volume l.longest)
      ≡ kept (counted_children (reprs_of (map pure_repr l.reprs)) (domain_list (pure_closeds l.parts)) l.volume l.longest);
  counted : kept l.total ≡ l.total;
}

abbrev pub invariant-representations::each_field_cells-loop-index : goal.invariant-representations::each_field_cells-loop-index
invariant-representations::each_field_cells-loop-index l = record {
  so_far :
      kept (l.total + counted_children (reprs_of (map pure_repr (drop l.index l.reprs))) (domain_list (domains_of (map (λ f. f.1) (map pure_field_closed (drop l.index l.fields))))) l.volume l.longest)
      ≡ kept (counted_children (reprs_of (map pure_repr l.reprs)) (domain_list (domains_of (map (λ f. f.1) (map pure_field_closed l.fields)))) l.volume l.longest);
  counted : kept l.total ≡ l.total;
}
