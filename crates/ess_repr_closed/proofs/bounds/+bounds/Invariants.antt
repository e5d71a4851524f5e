use Rattle.std.proofs.Common.{◌≡◌, ◌*◌, map, drop}
use Rattle.ess_semantics.specs.Sizes.{product_bound}
use Rattle.ess_eval_domains.specs.ClosedViews.{pure_closeds, pure_field_closed, domains_of}
use Rattle.ess_repr_closed.proofs.bounds.+bounds.Given as goal

abbrev pub invariant-bounds_product-loop-domain : goal.invariant-bounds_product-loop-domain
invariant-bounds_product-loop-domain l = l.total * product_bound (pure_closeds (drop l.domain-index l.domains)) ≡ product_bound (pure_closeds l.domains)

abbrev pub invariant-bounds_product_of_fields-loop-field : goal.invariant-bounds_product_of_fields-loop-field
invariant-bounds_product_of_fields-loop-field l =
    l.total * product_bound (domains_of (map (λ f. f.1) (map pure_field_closed (drop l.field-index l.fields))))
    ≡ product_bound (domains_of (map (λ f. f.1) (map pure_field_closed l.fields)))
