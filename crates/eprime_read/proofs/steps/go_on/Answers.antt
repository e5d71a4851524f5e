use Rattle.std.proofs.Common.{ap, ◌∙◌}
use Rattle.std.specs.Option.{option_map}
use Rattle.ess_grammar.specs.Kinds.{token}
use Rattle.ess_parse_machine.specs.Parsers.{view_parser}
use Rattle.eprime_read.proofs.PartTokens.{has_read_more}
use Rattle.eprime_read.proofs.steps.go_on.Goals as goal

pub returns-in-Some-clause-holds : goal.returns-in-Some-clause-holds
returns-in-Some-clause-holds c =
    record {
      fits = c.requires.holds.fits;
      read =
          has_read_more (view_parser c.args.part.parser) (view_parser c.in-Some.parser) (token c.args.kind c.args.text.now) c.requires.holds.read c.requires.fit
          (c.in_ok-parser.ensures ∙ ap (option_map view_parser) c.in-Some.is);
    }
