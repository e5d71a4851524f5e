use Rattle.std.proofs.Common.{◌≡◌, map, drop}
use Rattle.ess_eval_domains.specs.ClosedViews.{pure_closeds, pure_field_closed, domains_of}
use Rattle.ess_eval_domains.specs.Negatives.{no_negative_attribute_in}
use Rattle.ess_eval_domains.proofs.layers.+layers.Given as goal

abbrev pub invariant-none_in-loop-domain : goal.invariant-none_in-loop-domain
invariant-none_in-loop-domain l = no_negative_attribute_in (pure_closeds l.domains) ≡ no_negative_attribute_in (pure_closeds (drop l.domain-index l.domains))

abbrev pub invariant-none_in_fields-loop-field : goal.invariant-none_in_fields-loop-field
invariant-none_in_fields-loop-field l =
    no_negative_attribute_in (domains_of (map (λ f. f.1) (map pure_field_closed l.fields)))
    ≡ no_negative_attribute_in (domains_of (map (λ f. f.1) (map pure_field_closed (drop l.field-index l.fields))))
