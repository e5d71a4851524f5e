-- The commands, and the words that ask for each.
use Rattle.std.specs.Prelude.{ℕ, ◌+◌, ◌*◌, ◌-◌, ◌&&◌, Bool, List, [], ◌∷◌, Option, Some, None, if◌then◌else◌, nat_le, nat_lt, option_map}
use Rattle.std.specs.Prelude.{option_and_then, unwrap_or, codes, length, slice_get}
use Rattle.std.specs.List.{list_all}
use Rattle.std.specs.Str.{bytes_eq}
use Rattle.std.specs.Str.Parse.{digits_value}
use Rattle.conjure_cli_words.specs.Items.{Text, Name, short, long, Item}
use Rattle.conjure_cli_words.specs.Forms.{Form, read_as, value_in, operands_of}
use Rattle.conjure_cli_words.specs.declared.command.Command.{Command}
use Rattle.conjure_cli_words.specs.declared.command.Command.TheVariants.{Modelling, Parameter, Solution, Validate, Selftest}

-- `-o`
abbrev pub folder : Name
folder = short 111

-- `--use-repr`
abbrev pub use_repr : Name
use_repr = long (codes "use-repr")

-- `--eprime`
abbrev pub eprime : Name
eprime = long (codes "eprime")

-- `--essence-param`
abbrev pub essence_param : Name
essence_param = long (codes "essence-param")

-- `--eprime-param`
abbrev pub eprime_param : Name
eprime_param = long (codes "eprime-param")

-- `--eprime-solution`
abbrev pub eprime_solution : Name
eprime_solution = long (codes "eprime-solution")

-- `--essence-solution`
abbrev pub essence_solution : Name
essence_solution = long (codes "essence-solution")

-- `--essence`
abbrev pub essence : Name
essence = long (codes "essence")

-- `--param`
abbrev pub param : Name
param = long (codes "param")

-- `--solution`
abbrev pub solution : Name
solution = long (codes "solution")

-- `modelling [-o DIR] [--use-repr LIST] FILE`
abbrev pub modelling_form : Form
modelling_form = record { optional = folder ∷ use_repr ∷ []; required = []; operands = 1 }

-- `translate-parameter --eprime M --essence-param P --eprime-param Q`
abbrev pub parameter_form : Form
parameter_form = record { optional = []; required = eprime ∷ essence_param ∷ eprime_param ∷ []; operands = 0 }

-- `translate-solution --eprime M --essence-param P --eprime-solution C --essence-solution S`
abbrev pub solution_form : Form
solution_form = record { optional = []; required = eprime ∷ essence_param ∷ eprime_solution ∷ essence_solution ∷ []; operands = 0 }

-- `validate-solution --essence E --param P --solution S`
abbrev pub validate_form : Form
validate_form = record { optional = []; required = essence ∷ param ∷ solution ∷ []; operands = 0 }

-- `selftest N`
abbrev pub selftest_form : Form
selftest_form = record { optional = []; required = []; operands = 1 }

-- the value of an option, and another text where it isn't given
abbrev pub value_or : Text → List Item → Name → Text
value_or other items name = unwrap_or (value_in items name) other

-- the first operand, or the empty text where there is none
abbrev pub first_operand : List Item → Text
first_operand items = unwrap_or (slice_get (operands_of items) 0) []

-- the byte is an ASCII digit
abbrev pub is_digit : ℕ → Bool
is_digit byte = nat_le 48 byte && nat_le byte 57

-- the number that a text writes: one or more digits, of a value below 2^63
abbrev pub number_of : Text → Option ℕ
number_of text = if nat_lt 0 (length text) && (list_all is_digit text && nat_le (digits_value 10 text) 9223372036854775807)
    then Some (digits_value 10 text) else None

-- the commands that items ask for which fit the form
abbrev pub modelling_of : List Item → Command
modelling_of items =
    Modelling (value_or (codes "conjure-output") items folder) (first_operand items) (record { use_repr = value_in items use_repr })

-- the same of `translate-parameter`
abbrev pub parameter_of : List Item → Command
parameter_of items = Parameter (value_or [] items eprime) (value_or [] items essence_param) (value_or [] items eprime_param)

-- of `translate-solution`
abbrev pub solution_of : List Item → Command
solution_of items = Solution (value_or [] items eprime) (value_or [] items essence_param) (value_or [] items eprime_solution)
    (value_or [] items essence_solution)

-- of `validate-solution`
abbrev pub validate_of : List Item → Command
validate_of items = Validate (value_or [] items essence) (value_or [] items param) (value_or [] items solution)

-- and of `selftest`, where the operand is a number
abbrev pub selftest_of : List Item → Option Command
selftest_of items = option_map Selftest (number_of (first_operand items))

-- the command of this name with these words behind it
abbrev pub command_named : Text → List Text → Option Command
command_named name words =
    if bytes_eq name (codes "modelling") then option_map modelling_of (read_as modelling_form words)
    else (if bytes_eq name (codes "translate-parameter") then option_map parameter_of (read_as parameter_form words)
    else (if bytes_eq name (codes "translate-solution") then option_map solution_of (read_as solution_form words)
    else (if bytes_eq name (codes "validate-solution") then option_map validate_of (read_as validate_form words)
    else (if bytes_eq name (codes "selftest") then option_and_then selftest_of (read_as selftest_form words)
    else None))))

-- the command that the words ask for, where they fit
abbrev pub command_of : List Text → Option Command
command_of [] = None
command_of (name ∷ words) = command_named name words
