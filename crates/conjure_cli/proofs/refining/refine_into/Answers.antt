use Rattle.std.proofs.Common.{option_map, string_bytes}
use Rattle.conjure_cli.proofs.RefiningLaws.{ends_in_folder}
use Rattle.conjure_cli.proofs.refining.refine_into.Goals as goal

pub returns-in-Ok-clause-ended : goal.returns-in-Ok-clause-ended
returns-in-Ok-clause-ended g c =
    ends_in_folder c.modelling-outcome.result c.tell_refined.result (option_map (λ l. l.now) c.args.list) c.args.file.now
    (string_bytes c.in-Ok.place) c.as_str.result.now c.as_str-in-Ok.result.now c.args.folder.now _ _ _ _ _ _
    c.as_str.ensures.value c.as_str-in-Ok.ensures.value c.in-Ok.ensures c.modelling-outcome.ensures.ran c.tell_refined.ensures
