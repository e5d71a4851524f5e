-- Laws of printed literals, each stated at a function that does nothing, so that its proof is checked with the code.
use Rattle.std.specs.Prelude.{◌≡◌, false, true, map, Some, IsTrue}
use Rattle.ess_semantics.specs.Values.{Text, Value}
use Rattle.ess_semantics.specs.Names.{all_distinct}
use Rattle.ess_semantics.specs.Trees.{Ex}
use Rattle.ess_semantics.specs.Types.{Ty}
use Rattle.ess_semantics.specs.Meaning.{Env}
use Rattle.ess_semantics.specs.Literals.{literal_value}
use Rattle.ess_grammar.specs.Readable.{ReadableEx}
use Rattle.ess_grammar.specs.ValueTexts.{value_text, literal_of}
use Rattle.ess_print_laws.specs.Spelled.{is_spelled}
use Rattle.ess_print_laws.specs.Laws.{ReadsInSubset, IsClosedExpression, IsLettingOf}
use Rattle.ess_values_laws.specs.ItemNames.{item_name}
use Rattle.ess_values_laws.specs.Spellable.{numbers_fit, parts_fit, have_name_tokens}

-- Values of named types have names of their own: they don't count as positions, and no two types have one name.
abbrev pub HasItemNames : Env → Type 0
HasItemNames env = (env.positions ≡ false) × (all_distinct (map (λ t. t.name) env.types) ≡ true)

-- A value that some literal of a type has is printed as a literal of that type that has it.
abbrev pub PrintedLiteralsKeepValues : Type 0
PrintedLiteralsKeepValues = (e : Ex) (t : Ty) (v : Value) (env : Env) → HasItemNames env → literal_value e t env ≡ Some v →
    literal_value (literal_of (item_name env.types) v) t env ≡ Some v

-- A value of a literal is spelled where its numbers fit, and its names do: those of a literal that some text has, or those of an
-- env whose names are name tokens.
pub record ValuesOfLiteralsAreSpelled : Type 0 where
  pub of_readable : (e : Ex) (t : Ty) (v : Value) (env : Env) → HasItemNames env → ReadableEx e → literal_value e t env ≡ Some v →
      IsTrue (numbers_fit v) → IsTrue (is_spelled (item_name env.types) v)
  pub of_named : (e : Ex) (t : Ty) (v : Value) (env : Env) → HasItemNames env → IsTrue (have_name_tokens env.types) → literal_value e t env ≡ Some v →
      IsTrue (numbers_fit v) → IsTrue (parts_fit v) → IsTrue (is_spelled (item_name env.types) v)

-- The text is read as the literal that is printed for the value, alone and in a file of lettings behind `letting NAME be `, and
-- this literal of type t has the value.
abbrev pub ReadsAsValue : Text → Env → Ty → Value → Type 0
ReadsAsValue text env t v =
    ReadsInSubset text (IsClosedExpression (literal_of (item_name env.types) v)) × IsLettingOf (literal_of (item_name env.types) v) text × (literal_value (literal_of (item_name env.types) v) t env ≡ Some v)

-- The text of a value is read as a literal of type t that has it.
abbrev pub IsReadBack : Env → Ty → Value → Type 0
IsReadBack env t v = ReadsAsValue (value_text (item_name env.types) v) env t v

-- A text of a value is read as the value, in each type in which a literal that some text has has the value.
abbrev pub ReadsBack : Env → Value → Text → Type 0
ReadsBack env v text = (e : Ex) (t : Ty) → HasItemNames env → ReadableEx e → literal_value e t env ≡ Some v → IsTrue (numbers_fit v) → ReadsAsValue text env t v

-- So its text is read back as that value.
pub record PrintedValuesAreReadBack : Type 0 where
  pub of_readable : (e : Ex) (t : Ty) (v : Value) (env : Env) → HasItemNames env → ReadableEx e → literal_value e t env ≡ Some v →
      IsTrue (numbers_fit v) → IsReadBack env t v
  pub of_named : (e : Ex) (t : Ty) (v : Value) (env : Env) → HasItemNames env → IsTrue (have_name_tokens env.types) → literal_value e t env ≡ Some v →
      IsTrue (numbers_fit v) → IsTrue (parts_fit v) → IsReadBack env t v
