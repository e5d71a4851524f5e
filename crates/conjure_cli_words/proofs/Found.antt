-- What was found of an option or an operand is what the items say of it.
use Rattle.std.proofs.Common.{◌≡◌, ◌∙◌, ap, sym, List, [], unwrap_or, Result, Ok, Err, IsErrAnd}
use Rattle.clap.specs.Matches.{first_value, found_of}
use Rattle.clap.specs.declared.parser.matches.ArgMatches.{ArgMatches}
use Rattle.conjure_cli_words.specs.Items.{Text, Item, Name}
use Rattle.conjure_cli_words.specs.Commands.{first_operand, value_or}
use Rattle.conjure_cli_words.specs.declared.command.Command.{Command}
use Rattle.conjure_cli_words.specs.declared.no.WordsNo.{WordsNo}
use Rattle.conjure_cli_words.specs.declared.no.WordsNo.TheVariants.{Usage}
use Rattle.conjure_cli_words.specs.Parsers.{Finds, id_of, operand_id}

pub value-found : (m : ArgMatches) (items : List Item) (name : Name) (other text : Text) → Finds m items
    → text ≡ unwrap_or (first_value (found_of m) (id_of name)) other → value_or other items name ≡ text
value-found m items name other text finds e = sym (e ∙ ap (λ o. unwrap_or o other) (finds.0 name))

pub operand-found : (m : ArgMatches) (items : List Item) (text : Text) → Finds m items
    → text ≡ unwrap_or (first_value (found_of m) operand_id) [] → first_operand items ≡ text
operand-found m items text finds e = sym (e ∙ ap (λ o. unwrap_or o []) finds.1)

-- an error that goes up as it is
pub same_no : (r : Result Command WordsNo) (cause : WordsNo) → IsErrAnd r (λ up. up ≡ cause) → r ≡ Err Usage → cause ≡ Usage
same_no (Ok command) cause is usage = cc
same_no (Err up) cause is usage = let same : up ≡ Usage = cc in sym is ∙ same
