-- The text that is written for a text of the small grammar is a model with its header that stands for the specification.
use Rattle.std.proofs.Common.{sym, ◌∙◌, subst}
use Rattle.ess_semantics.specs.Values.{Text}
use Rattle.ess_semantics.specs.Contexts.{Each}
use Rattle.ess_semantics.specs.ModelTrees.{header_of}
use Rattle.ess_grammar.specs.Texts.{IsWithinLimits}
use Rattle.ess_grammar.specs.ModelTexts.{header_lines}
use Rattle.ess_grammar.specs.HeaderTexts.{ReadsModelWithHeader}
use Rattle.eprime_tree.proofs.WholeModels.{text-read}
use Rattle.conjure_laws.specs.ModelsOfSets.{no_options}
use Rattle.conjure_cli_laws.specs.SmallGrammar.{Reads, lines_of}
use Rattle.conjure_cli_laws.specs.ModelText.{IsModelOf}
use Rattle.conjure_cli_laws.specs.SmallSets as sets
use Rattle.conjure_cli_laws.specs.SmallSets.{small_model, small_head}
use Rattle.conjure_cli_laws.specs.Laws.{StandsForText}
use Rattle.conjure_cli_laws.proofs.SmallStatements.{named, spelled}
use Rattle.conjure_cli_laws.proofs.SmallPlans.{small-stands, small-exact}
use Rattle.conjure_cli_laws.proofs.ReadableSmall.{small-readable}
use Rattle.conjure_cli_laws.proofs.SmallTexts.{small-text}
use Rattle.conjure_cli_laws.proofs.SmallHeaders.{small-header, small-within, small-head-lines}
use Rattle.conjure_cli_laws.proofs.SmallSpecifications.{small-specification}

-- What is written stands for what is read.
pub written-stands : (text model : Text) → IsModelOf text model → StandsForText text model
written-stands text model w =
    let ss = w.0 in
    let r : Reads text ss = w.1 in
    let n = named ss r.names in
    let s = spelled (lines_of text) ss r.lines in
    let is = sym (w.2 ∙ small-text ss n s) in
    let again = text-read (small_head ss) (small_model ss) (small-readable ss n s) (small-head-lines ss s) in
    record {
      S = sets.specification ss;
      H = header_of (sets.specification ss) no_options;
      E = small_model ss;
      specification = small-specification ss text r.lines s;
      is_model = subst (λ t. ReadsModelWithHeader t (header_of (sets.specification ss) no_options) (small_model ss)) is
          (small_head ss, small-header ss s, again);
      limits = subst (λ t. Each (header_lines t) IsWithinLimits) is
          (subst (λ ls. Each ls IsWithinLimits) (sym again.0) (small-within ss s));
      models = small-stands ss n s;
      exact = small-exact ss n s;
    }
