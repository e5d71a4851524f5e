-- Which items a command takes.
use Rattle.std.specs.Prelude.{ℕ, ◌==◌, ◌&&◌, Bool, true, false, not, List, [], ◌∷◌, ◌++◌, length, Option, Some, None, if◌then◌else◌}
use Rattle.std.specs.Prelude.{option_and_then}
use Rattle.std.specs.List.{list_any, list_all}
use Rattle.conjure_cli_words.specs.Items.{Text, Name, same_name, Item, option, operand, knows, items_of}

-- the options that may stand, those that must, and how many operands there are
pub record Form : Type 0 where
  pub optional : List Name
  pub required : List Name
  pub operands : ℕ

-- the item gives this option
abbrev pub is_option : Name → Item → Bool
is_option name (option other value) = same_name other name
is_option name (operand word) = false

-- the option is given
abbrev pub gives : List Item → Name → Bool
gives items name = list_any (is_option name) items

-- no option stands twice, and none of those that were seen stands again
abbrev pub once_after : List Name → List Item → Bool
once_after seen [] = true
once_after seen (option name value ∷ rest) = not (knows seen name) && once_after (name ∷ seen) rest
once_after seen (operand word ∷ rest) = once_after seen rest

-- the words that stand by themselves
abbrev pub operands_of : List Item → List Text
operands_of [] = []
operands_of (option name value ∷ rest) = operands_of rest
operands_of (operand word ∷ rest) = word ∷ operands_of rest

-- the value of an option that is given
abbrev pub value_in : List Item → Name → Option Text
value_in [] name = None
value_in (option other value ∷ rest) name = if same_name other name then Some value else value_in rest name
value_in (operand word ∷ rest) name = value_in rest name

-- each option stands once, those that must stand do, and there are as many operands as the form wants
abbrev pub fits : Form → List Item → Bool
fits form items = once_after [] items && (list_all (gives items) form.required && length (operands_of items) == form.operands)

-- the items, where they fit
abbrev pub fitting : Form → List Item → Option (List Item)
fitting form items = if fits form items then Some items else None

-- the items of the words, where they fit the form
abbrev pub read_as : Form → List Text → Option (List Item)
read_as form words = option_and_then (fitting form) (items_of (form.optional ++ form.required) words)
