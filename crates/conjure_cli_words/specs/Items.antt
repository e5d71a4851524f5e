-- The words behind a command's name, read as options with their values and as operands.
use Rattle.std.specs.Prelude.{ℕ, ◌+◌, ◌==◌, ◌&&◌, Bool, true, false, List, [], ◌∷◌, map, length, drop, Option, Some, None, if◌then◌else◌}
use Rattle.std.specs.Prelude.{option_map, slice_get}
use Rattle.std.specs.Prelude.{encode_utf8}
use Rattle.std.specs.List.{list_any, before_first, after_first}
use Rattle.std.specs.Str.{bytes_eq, chars}

-- a text, as its bytes
abbrev pub Text : Type 0
Text = List ℕ

-- an option's name: one character behind `-`, or a text behind `--`
pub data Name : Type 0 where
  short : ℕ → Name
  long : Text → Name

-- two names are one
abbrev pub same_name : Name → Name → Bool
same_name (short x) (short y) = x == y
same_name (long x) (long y) = bytes_eq x y
same_name _ _ = false

-- what a word is by its looks: `--`, an option with the value that is written on to it, or plain
pub data Look : Type 0 where
  ends : Look
  named : Name → Option Text → Look
  plain : Look

-- what follows a first `=` (61), where there is one
abbrev pub value_after : Text → Option Text
value_after text = if list_any (λ x. x == 61) text then Some (after_first (λ x. x == 61) text) else None

-- a word behind `--`
abbrev pub look_of_long : Text → Look
look_of_long [] = ends
look_of_long (x ∷ xs) = named (long (before_first (λ y. y == 61) (x ∷ xs))) (value_after (x ∷ xs))

-- what is written on to a short name, with one `=` taken off
abbrev pub written_on : Text → Option Text
written_on [] = None
written_on (x ∷ xs) = Some (if x == 61 then xs else x ∷ xs)

-- a word behind `-`, which isn't `-`, by its first character
abbrev pub look_of_first : Option ℕ → Text → Look
look_of_first None text = plain
look_of_first (Some x) text = named (short x) (written_on (drop (length (encode_utf8 x)) text))

-- a word behind `-`, which isn't `-` and doesn't begin with another
abbrev pub look_of_short : Text → Look
look_of_short text = look_of_first (slice_get (chars text) 0) text

-- a word behind its first byte, which is a hyphen (45): a hyphen alone is plain
abbrev pub look_behind : Text → Look
look_behind [] = plain
look_behind (x ∷ xs) = if x == 45 then look_of_long xs else look_of_short (x ∷ xs)

-- the look of a word; the empty word is plain
abbrev pub look_of : Text → Look
look_of [] = plain
look_of (x ∷ xs) = if x == 45 then look_behind xs else plain

-- an option with its value, or an operand
pub data Item : Type 0 where
  option : Name → Text → Item
  operand : Text → Item

-- the name is one of these
abbrev pub knows : List Name → Name → Bool
knows names name = list_any (λ other. same_name other name) names

-- what is read next: an item, or the value of an option
pub data Next : Type 0 where
  item : Next
  value_of : Name → Next

-- an item before others
abbrev pub then_item : Item → Option (List Item) → Option (List Item)
then_item i = option_map (λ its. i ∷ its)

-- the items from an option on, where its name is known: its value is written on to it, or is the next word
abbrev pub items_of_option : Bool → Name → Option Text → (Next → Option (List Item)) → Option (List Item)
items_of_option false name value rest = None
items_of_option true name (Some value) rest = then_item (option name value) (rest item)
items_of_option true name None rest = rest (value_of name)

-- the items from a word on; `rest` reads the words behind it, `last` holds them
abbrev pub items_of_word : List Name → Next → Look → Text → List Text → (Next → Option (List Item)) → Option (List Item)
items_of_word names item ends word last rest = Some (map operand last)
items_of_word names item (named name value) word last rest = items_of_option (knows names name) name value rest
items_of_word names item plain word last rest = then_item (operand word) (rest item)
items_of_word names (value_of name) plain word last rest = then_item (option name word) (rest item)
items_of_word names (value_of name) _ word last rest = None

-- the items of the words, where each option has a name that is known and a value; `--` makes all words behind it operands
abbrev pub items_from : List Name → List Text → Next → Option (List Item)
items_from names [] item = Some []
items_from names [] (value_of name) = None
items_from names (word ∷ rest) next = items_of_word names next (look_of word) word rest (items_from names rest)

-- the items of words
abbrev pub items_of : List Name → List Text → Option (List Item)
items_of names words = items_from names words item
