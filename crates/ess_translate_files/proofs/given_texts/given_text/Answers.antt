use Rattle.ess_translate_files.proofs.Solved.{given_reads}
use Rattle.ess_translate_files.proofs.Transported.{given_written}
use Rattle.ess_translate_files.proofs.given_texts.given_text.Goals as goal

-- src/given_texts.rt
pub returns-in-Ok-clause-ok : goal.returns-in-Ok-clause-ok
returns-in-Ok-clause-ok c =
    given_written c.args.file.now.model c.get.result.now c.args.given.now.tables c.in-Ok.text.items c.get.ensures c.in-Ok.ensures.text

-- src/given_texts.rt
pub returns-in-Ok-clause-read : goal.returns-in-Ok-clause-read
returns-in-Ok-clause-read c = λ w h k.
    given_reads c.args.file.now c.args.given.now c.in-Ok.text.items w h
    (given_written c.args.file.now.model c.get.result.now c.args.given.now.tables c.in-Ok.text.items c.get.ensures c.in-Ok.ensures.text) k
