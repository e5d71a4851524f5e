use Rattle.std.proofs.Common.{◌≡◌, map, drop}
use Rattle.ess_semantics.specs.Lists.{all_some}
use Rattle.ess_semantics.specs.Domains.{members_of_each}
use Rattle.ess_core.specs.ValueViews.{pure_val}
use Rattle.ess_values.proofs.Ahead.{ahead}
use Rattle.ess_eval_domains.specs.ClosedViews.{pure_closeds, pure_field_closed, domains_of}
use Rattle.ess_eval_domains.proofs.listing.+members.Given as goal

abbrev pub invariant-members_of_each-loop-domain : goal.invariant-members_of_each-loop-domain
invariant-members_of_each-loop-domain l =
    all_some (members_of_each (pure_closeds l.domains))
    ≡ ahead (map (map pure_val) l.each) (all_some (members_of_each (pure_closeds (drop l.domain-index l.domains))))

abbrev pub invariant-members_of_fields-loop-field : goal.invariant-members_of_fields-loop-field
invariant-members_of_fields-loop-field l =
    all_some (members_of_each (domains_of (map (λ f. f.1) (map pure_field_closed l.fields))))
    ≡ ahead (map (map pure_val) l.each) (all_some (members_of_each (domains_of (map (λ f. f.1) (map pure_field_closed (drop l.field-index l.fields))))))
