use Rattle.std.proofs.Common.{◌≡◌, sym, subst, true}
use Rattle.ess_grammar.specs.ModelTexts.{IsModel}
use Rattle.ess_grammar.specs.Models.{is_readable_model}
use Rattle.eprime_tree.specs.Views.{pure_model}
use Rattle.ess_translate.specs.Texts.{Spells}
use Rattle.ess_translate_files.proofs.models.model_in.Goals as goal

-- src/models.rt
pub returns-in_ok-new-in-Ok-clause-read : goal.returns-in_ok-new-in-Ok-clause-read
returns-in_ok-new-in-Ok-clause-read c =
    subst (λ m. Spells IsModel c.args.text.now (pure_model m)) (sym c.in_ok-new-in-Ok.ensures) c.in-Ok.ensures.read

-- src/models.rt
pub returns-in_ok-new-in-Ok-clause-readable : goal.returns-in_ok-new-in-Ok-clause-readable
returns-in_ok-new-in-Ok-clause-readable c =
    subst (λ m. is_readable_model (pure_model m) ≡ true) (sym c.in_ok-new-in-Ok.ensures) c.in-Ok.ensures.readable
