-- A form as a command of `clap`, and what it finds in words that fit.
use Rattle.std.specs.Prelude.{◌≡◌, ℕ, ◌==◌, not, Bool, cond, true, false, List, [], ◌∷◌, ◌++◌, map, Option, Some, None, codes, slice_get}
use Rattle.clap.specs.Walk.{Rule}
use Rattle.clap.specs.Simple.{App, new_rule, new_shape, with_rule}
use Rattle.clap.specs.Matches.{first_value, found_of}
use Rattle.clap.specs.declared.parser.matches.ArgMatches.{ArgMatches}
use Rattle.clap.specs.declared.builder.action.ArgAction.TheVariants.{Set}
use Rattle.conjure_cli_words.specs.Items.{Text, Item, Name, long, short}
use Rattle.conjure_cli_words.specs.Forms.{Form, operands_of, read_as, value_in}

-- the id of an option
abbrev pub id_of : Name → Text
id_of (short x) = x ∷ []
id_of (long n) = 45 ∷ 45 ∷ n

-- the id of the operand
abbrev pub operand_id : Text
operand_id = codes "operand"

-- the rule of an option, which may or must stand
abbrev pub option_rule : Bool → Name → Rule
option_rule required (short x) = record (new_rule (id_of (short x))) { short = Some x; action = Some Set; required = required }
option_rule required (long n) = record (new_rule (id_of (long n))) { long = Some n; action = Some Set; required = required }

-- the rule of the operand
abbrev pub operand_rule : Rule
operand_rule = record (new_rule operand_id) { action = Some Set; required = true }

-- options, and whether each must stand
abbrev pub Entries : Type 0
Entries = List (Name × Bool)

-- the options of a form
abbrev pub entries_of : Form → Entries
entries_of form = map (λ name. (name, false)) form.optional ++ map (λ name. (name, true)) form.required

-- the rule of an operand, where there is one
abbrev pub operand_rules : Bool → List Rule
operand_rules false = []
operand_rules true = operand_rule ∷ []

-- the rules of options and of an operand, in this order
abbrev pub rules_in : Entries → Bool → List Rule
rules_in [] has_operand = operand_rules has_operand
rules_in (e ∷ es) has_operand = option_rule e.1 e.0 ∷ rules_in es has_operand

-- a command with no options yet, which reads all its words, and knows no words for help and version
abbrev pub bare : App
bare = record {
  top = record (new_shape (codes "conjure")) { no_binary_name = true; disable_help_flag = true; disable_version_flag = true };
  subs = [];
}

-- the command of a form that wants one operand or none
abbrev pub parser_of : Form → App
parser_of form = record bare { top = record bare.top { rules = rules_in (entries_of form) (not (form.operands == 0)) } }

-- the form wants one operand or none
abbrev pub IsSmall : Form → Type 0
IsSmall form = cond (not (form.operands == 0)) 1 0 ≡ form.operands

-- what was found is what the items say
abbrev pub Finds : ArgMatches → List Item → Type 0
Finds m items = ((name : Name) → first_value (found_of m) (id_of name) ≡ value_in items name)
    × (first_value (found_of m) operand_id ≡ slice_get (operands_of items) 0)

-- the words fit the form, and what was found is what their items say
abbrev pub ReadsAs : Form → List Text → ArgMatches → Type 0
ReadsAs form words m = (items : List Item) × (read_as form words ≡ Some items) × Finds m items
