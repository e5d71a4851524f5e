use Rattle.std.proofs.Common.{◌≡◌, Err, Ok, map, string_bytes}
use Rattle.clap.specs.Words.{app_of}
use Rattle.conjure_cli_words.proofs.Parsed.{parsed_err, parsed_ok}
use Rattle.conjure_cli_words.proofs.parsers.read.Goals as goal

pub returns-in-Ok-clause-ok : goal.returns-in-Ok-clause-ok
returns-in-Ok-clause-ok c = λ form is small.
    parsed_ok (app_of c.args.parser) form (map string_bytes c.args.words.now) (Ok c.in-Ok.matches) is small c.in-Ok.ensures.matches
    c.in-Ok.ensures.kinds

pub returns-in-Err-clause-usage : goal.returns-in-Err-clause-usage
returns-in-Err-clause-usage c = λ form is small usage.
    parsed_err (app_of c.args.parser) form (map string_bytes c.args.words.now) c.in-Err.error is small c.in-Err.ensures.kinds
    (λ e. let none = c.no_of.ensures e in cc)
