use Rattle.std.proofs.Common.{◌∙◌}
use Rattle.ess_eval_domains.proofs.Listed.{lists_records}
use Rattle.ess_eval_domains.proofs.tuples.all_records.Goals as goal

pub returns : goal.returns
returns c =
    lists_records c.args.fields.now c.args.choices.now c.as_slice.result.now c.in_ok-records.field-0
    (c.as_slice.ensures ∙ c.in_ok-lists.ensures) c.in_ok-records.ensures
