use Rattle.std.proofs.Common.{sym, ap, ◌∙◌, map, option_map}
use Rattle.ess_core.specs.TableViews.{pure_named_table}
use Rattle.ess_translate_plans.specs.Views.{pure_plan}
use Rattle.ess_translate_files.specs.Wholes.{file_header}
use Rattle.ess_translate_files.proofs.tables.canonical_tables.Goals as goal

-- src/tables.rt
pub returns-in-Ok-Some-clause-ok : goal.returns-in-Ok-Some-clause-ok
returns-in-Ok-Some-clause-ok c =
    let w = c.requires.whole in
    sym (c.in-Ok-Some.ensures (file_header c.args.file.now) w.header.ours w.ready c.requires.fits
    (ap (map pure_plan) c.as_slice.ensures ∙ w.plans) c.requires.closed)
    ∙ ap (option_map (map pure_named_table)) c.in-Ok-Some.field-0-is
