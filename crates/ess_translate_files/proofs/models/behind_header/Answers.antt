use Rattle.ess_translate_files.proofs.Files.{file_in}
use Rattle.ess_translate_files.proofs.models.behind_header.Goals as goal

-- src/models.rt
pub returns-in-Ok-clause-ok : goal.returns-in-Ok-clause-ok
returns-in-Ok-clause-ok c =
    let e = c.with_plans.ensures in
    file_in c.args.text.now c.args.header c.in-Ok.model c.with_plans.result c.requires.begins c.in-Ok.ensures.read e.header e.model e.whole
