-- Worked examples of the words.
use Rattle.std.specs.Prelude.{◌≡◌, ◌++◌, List, [], ◌∷◌, Option, Some, None, codes, refl}
use Rattle.std.specs.Char.{encode_utf8}
use Rattle.std.specs.Str.{chars}
use Rattle.conjure_cli_words.specs.Items.{Text, Name, short, long, named, ends, plain, option, operand, look_of, items_of}
use Rattle.conjure_cli_words.specs.Commands.{command_of, folder, number_of, use_repr}
use Rattle.conjure_cli_words.specs.declared.command.Command.{Command}
use Rattle.conjure_cli_words.specs.declared.command.Command.TheVariants.{Modelling, Parameter, Selftest, Solution, Validate}

-- looks
hyphen_is_plain : look_of (codes "-") ≡ plain
hyphen_is_plain = refl

empty_is_plain : look_of [] ≡ plain
empty_is_plain = refl

two_hyphens_end : look_of (codes "--") ≡ ends
two_hyphens_end = refl

short_alone : look_of (codes "-o") ≡ named (short 111) None
unfolding chars encode_utf8
short_alone = refl

on_to_short : look_of (codes "-oa") ≡ named (short 111) (Some (codes "a"))
unfolding chars encode_utf8
on_to_short = refl

one_equals_is_taken_off : look_of (codes "-o==a") ≡ named (short 111) (Some (codes "=a"))
unfolding chars encode_utf8
one_equals_is_taken_off = refl

nothing_behind_equals : look_of (codes "-o=") ≡ named (short 111) (Some [])
unfolding chars encode_utf8
nothing_behind_equals = refl

wide_short : look_of (45 ∷ 195 ∷ 169 ∷ []) ≡ named (short 233) None
unfolding chars encode_utf8
wide_short = refl

long_to_first_equals : look_of (codes "--a=b=c") ≡ named (long (codes "a")) (Some (codes "b=c"))
long_to_first_equals = refl

-- items
known : List Name
known = folder ∷ use_repr ∷ []

behind_the_end : items_of known (codes "--" ∷ codes "-o" ∷ codes "--" ∷ []) ≡ Some (operand (codes "-o") ∷ operand (codes "--") ∷ [])
unfolding known chars encode_utf8
behind_the_end = refl

value_may_be_hyphen : items_of known (codes "-o" ∷ codes "-" ∷ []) ≡ Some (option folder (codes "-") ∷ [])
unfolding known chars encode_utf8
value_may_be_hyphen = refl

value_may_be_empty : items_of known (codes "--use-repr" ∷ [] ∷ []) ≡ Some (option use_repr [] ∷ [])
unfolding known
value_may_be_empty = refl

end_is_no_value : items_of known (codes "-o" ∷ codes "--" ∷ codes "a" ∷ []) ≡ None
unfolding known chars encode_utf8
end_is_no_value = refl

option_is_no_value : items_of known (codes "--use-repr" ∷ codes "-x" ∷ []) ≡ None
unfolding known chars encode_utf8
option_is_no_value = refl

no_word_behind : items_of known (codes "-o" ∷ []) ≡ None
unfolding known chars encode_utf8
no_word_behind = refl

-- commands
abbrev spoken : List Text → Option Command
spoken words = command_of words

only_file : spoken (codes "modelling" ∷ codes "a" ∷ []) ≡ Some (Modelling (codes "conjure-output") (codes "a") (record { use_repr = None }))
only_file = refl

any_order : spoken (codes "modelling" ∷ codes "a" ∷ codes "--use-repr=s:Occurrence" ∷ codes "-od" ∷ [])
    ≡ Some (Modelling (codes "d") (codes "a") (record { use_repr = Some (codes "s:Occurrence") }))
unfolding chars encode_utf8
any_order = refl

no_file : spoken (codes "modelling" ∷ codes "-o" ∷ codes "a" ∷ []) ≡ None
unfolding chars encode_utf8
no_file = refl

two_files : spoken (codes "modelling" ∷ codes "a" ∷ codes "b" ∷ []) ≡ None
two_files = refl

twice : spoken (codes "modelling" ∷ codes "-oa" ∷ codes "-ob" ∷ codes "c" ∷ []) ≡ None
unfolding chars encode_utf8
twice = refl

parameter : spoken (codes "translate-parameter" ∷ codes "--essence-param" ∷ codes "p" ∷ codes "--eprime-param=q" ∷ codes "--eprime" ∷ codes
    "m" ∷ [])
    ≡ Some (Parameter (codes "m") (codes "p") (codes "q"))
parameter = refl

one_is_missing : spoken (codes "translate-parameter" ∷ codes "--essence-param" ∷ codes "p" ∷ codes "--eprime-param=q" ∷ []) ≡ None
one_is_missing = refl

no_operand : spoken (codes "validate-solution" ∷ codes "--essence=e" ∷ codes "--param=p" ∷ codes "--solution=s" ∷ codes "x" ∷ []) ≡ None
no_operand = refl

help_is_no_word : spoken (codes "modelling" ∷ codes "--help" ∷ []) ≡ None
help_is_no_word = refl

largest : spoken (codes "selftest" ∷ codes "9223372036854775807" ∷ []) ≡ Some (Selftest 9223372036854775807)
largest = refl

too_large : number_of (codes "9223372036854775808") ≡ None
too_large = refl

zeros_before : number_of (codes "007") ≡ Some 7
zeros_before = refl

plus_is_no_digit : number_of (codes "+7") ≡ None
plus_is_no_digit = refl

no_digit : number_of [] ≡ None
no_digit = refl

no_word : spoken [] ≡ None
no_word = refl

unknown_command : spoken (codes "help" ∷ []) ≡ None
unknown_command = refl
