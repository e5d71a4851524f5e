use Rattle.std.proofs.Common.{subst}
use Rattle.ess_parse.specs.Readers.{IsAnswered}
use Rattle.ess_parse.specs.NamedRepresentations.{IsRepresentationLine}
use Rattle.ess_parse.specs.NamedReprViews.{pure_named_reprs}
use Rattle.ess_translate_header_lines.proofs.ReadLines.{named_refused}
use Rattle.ess_translate_header_lines.proofs.lines.reprs_of.Goals as goal

pub returns-in_ok-of_text-in-Err : goal.returns-in_ok-of_text-in-Err
returns-in_ok-of_text-in-Err c =
    named_refused c.args.line.now c.in-Err.no c.read_named_reprs.result c.in-Err.is c.in_ok-of_text-in-Err.ensures
    (subst (λ t. IsAnswered IsRepresentationLine pure_named_reprs t c.read_named_reprs.result) c.as_bytes.ensures
    c.read_named_reprs.ensures.answered)
