use Rattle.std.proofs.Common.{◌≡◌, ◌*◌, map, drop}
use Rattle.ess_eval_domains.specs.ClosedViews.{pure_closeds, pure_field_closed, domains_of}
use Rattle.ess_domains_cells.specs.Kept.{kept}
use Rattle.ess_domains_cells.specs.Products.{member_product}
use Rattle.ess_domains_cells.proofs.members.+members.Given as goal

abbrev pub invariant-members_product-loop-domain : goal.invariant-members_product-loop-domain
invariant-members_product-loop-domain l = record {
  so_far : kept (l.total * member_product (pure_closeds (drop l.domain-index l.domains))) ≡ kept (member_product (pure_closeds l.domains));
  counted : kept l.total ≡ l.total;
}

abbrev pub invariant-members_product_of_fields-loop-field : goal.invariant-members_product_of_fields-loop-field
invariant-members_product_of_fields-loop-field l = record {
  so_far :
      kept (l.total * member_product (domains_of (map (λ f. f.1) (map pure_field_closed (drop l.field-index l.fields)))))
      ≡ kept (member_product (domains_of (map (λ f. f.1) (map pure_field_closed l.fields))));
  counted : kept l.total ≡ l.total;
}
