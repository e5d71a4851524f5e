-- Laws of texts of lettings, each stated at a function that does nothing, so that its proof is checked with the code.
use Rattle.std.specs.Prelude.{ℕ, IsTrue}
use Rattle.ess_semantics.specs.Values.{Text, Value}
use Rattle.ess_semantics.specs.Names.{Names}
use Rattle.ess_semantics.specs.Contexts.{Each}
use Rattle.ess_grammar.specs.Statements.{IsLettingsFile}
use Rattle.ess_grammar.specs.Readable.{is_name_token}
use Rattle.ess_print_laws.specs.Laws.{ReadsInSubset}
use Rattle.ess_print_laws.specs.Spelled.{is_spelled}
use Rattle.ess_letting_texts_laws.specs.LettingTexts.{lettings_text, lettings_of}

-- A text of lettings of values whose names are name tokens and which are spelled is a file of the lettings of their literals.
abbrev pub LettingTextsAreRead : Type 0
LettingTextsAreRead = (name_of : Text → ℕ → Text) (vs : Names Value) →
    Each vs (λ b. IsTrue (is_name_token b.0) × IsTrue (is_spelled name_of b.1)) →
    ReadsInSubset (lettings_text name_of vs) (IsLettingsFile (lettings_of name_of vs))
