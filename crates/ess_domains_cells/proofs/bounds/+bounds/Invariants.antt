use Rattle.std.proofs.Common.{◌≡◌, ◌*◌, map, drop}
use Rattle.ess_eval_domains.specs.ClosedViews.{pure_closeds, pure_field_closed, domains_of}
use Rattle.ess_domains_cells.specs.Kept.{kept}
use Rattle.ess_semantics.specs.Sizes.{product_bound}
use Rattle.ess_domains_cells.proofs.bounds.+bounds.Given as goal

abbrev pub invariant-bounds_product-loop-domain : goal.invariant-bounds_product-loop-domain
invariant-bounds_product-loop-domain l = record {
  so_far : kept (l.total * product_bound (pure_closeds (drop l.domain-index l.domains))) ≡ kept (product_bound (pure_closeds l.domains));
  counted : kept l.total ≡ l.total;
}

abbrev pub invariant-bounds_product_of_fields-loop-field : goal.invariant-bounds_product_of_fields-loop-field
invariant-bounds_product_of_fields-loop-field l = record {
  so_far :
      kept (l.total * product_bound (domains_of (map (λ f. f.1) (map pure_field_closed (drop l.field-index l.fields)))))
      ≡ kept (product_bound (domains_of (map (λ f. f.1) (map pure_field_closed l.fields))));
  counted : kept l.total ≡ l.total;
}
