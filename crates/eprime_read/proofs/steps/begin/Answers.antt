use Rattle.std.proofs.Common.{sym, ap, ◌∙◌}
use Rattle.std.specs.Option.{option_map}
use Rattle.ess_parse_machine.specs.Parsers.{view_parser}
use Rattle.eprime_read_laws.specs.ModelMachine.{in_state}
use Rattle.eprime_read.specs.Openings.{word_of}
use Rattle.eprime_read.specs.Views.{view_draft}
use Rattle.eprime_read.proofs.PartTokens.{has_read_word, begins_so}
use Rattle.eprime_read.proofs.steps.begin.Goals as goal

pub returns-in-Some-clause-holds : goal.returns-in-Some-clause-holds
returns-in-Some-clause-holds c =
    record {
      fits = c.requires;
      read =
          has_read_word c.args.opening _ (view_parser c.specification-before.result) (view_parser c.in-Some.parser) c.specification-before.ensures (c.kind_of.ensures.word _)
          (sym (c.in_ok-parser.ensures ∙ ap (option_map view_parser) c.in-Some.is));
    }

pub returns-in-Some-clause-stage : goal.returns-in-Some-clause-stage
returns-in-Some-clause-stage c =
    ap (in_state (word_of c.args.opening) (view_draft c.args.draft))
    (begins_so c.args.opening _ (view_parser c.specification-before.result) c.specification-before.ensures (c.kind_of.ensures.word _) ∙ (c.in_ok-parser.ensures ∙ ap (option_map view_parser) c.in-Some.is))
