use Rattle.std.proofs.Common.{◌≡◌, ◌<◌, length, rules, true}
use Rattle.std.specs.List.{list_all}
use Rattle.conjure_cli_words.specs.Commands.{is_digit}
use Rattle.conjure_cli_words.proofs.Digits.{number_refused}
use Rattle.conjure_cli_words.proofs.numbers.number_of.Goals as goal

pub returns-in-Err : goal.returns-in-Err
returns-in-Err c =
    let some : 0 < length c.args.text.now = search rules in
    let digits : list_all is_digit c.args.text.now ≡ true = search rules in
    number_refused c.args.text.now c.in-Err.field-0 c.in-Err.ensures.value.0 some digits
