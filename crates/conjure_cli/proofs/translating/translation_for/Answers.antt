use Rattle.std.proofs.Common.{option_map}
use Rattle.std.proofs.lemmas.Result.{IfOk-weaker}
use Rattle.ess_core.specs.TableViews.{pure_cells}
use Rattle.ess_domains.specs.Assignments.{pure_assignment}
use Rattle.ess_translate_files.specs.Wholes.{file_header, file_model}
use Rattle.conjure_cli.specs.Seen.{files_at}
use Rattle.conjure_cli.proofs.TaskLaws.{more_reads}
use Rattle.conjure_cli.proofs.TranslatingLaws.{made_behind_param}
use Rattle.conjure_cli.proofs.translating.translation_for.Goals as goal

pub returns-in-Ok-clause-ok : goal.returns-in-Ok-clause-ok
returns-in-Ok-clause-ok g c =
    IfOk-weaker c.bytes_for-bytes.result _ _
    (λ bytes h. made_behind_param c.args.sources.param.now (option_map (λ name. name.now) c.args.sources.cells)
    (files_at (g.F.Files.tree c.args.files.now) (g.F.Files.faults c.args.files.now) (g.F.Files.misses c.args.files.now))
    (files_at (g.F.Files.tree c.param_in.new.files) (g.F.Files.faults c.param_in.new.files) (g.F.Files.misses c.param_in.new.files))
    (file_header c.args.file.now) (file_model c.args.file.now) (pure_assignment c.in-Ok.given.param) (pure_cells c.in-Ok.given.tables)
    bytes.items c.in-Ok.ensures.ok c.in-Ok.ensures.later h)
    c.bytes_for-bytes.ensures.ok

pub returns-in-Ok-clause-reads : goal.returns-in-Ok-clause-reads
returns-in-Ok-clause-reads g c = more_reads 1 _ _ _ c.param_in.ensures.reads c.bytes_for-bytes.ensures.reads
