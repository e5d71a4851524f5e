use Rattle.ess_grammar.specs.ModelTexts.{IsModel}
use Rattle.eprime_tree.specs.Views.{pure_model}
use Rattle.ess_translate.proofs.Spelled.{read_as}
use Rattle.ess_translate_files.proofs.Files.{readable-answer}
use Rattle.ess_translate_files.proofs.models.read_in.Goals as goal

-- src/models.rt
pub returns : goal.returns
returns c =
    let e = c.read_model.ensures in
    record {
      read = read_as IsModel pure_model c.args.text.now c.read_model.result e.refused e.derived e.answered e.unread e.placed;
      readable = readable-answer c.read_model.result e.readable;
    }
