-- What it means that a text is read: its tokens are what the rules say, no word of it stands outside the subset, and its load
-- is within the limit.
use Rattle.std.specs.Prelude.{◌≡◌, List, Some, None}
use Rattle.ess_semantics.specs.Values.{Text}
use Rattle.ess_semantics.specs.Trees.{Repr, Dom, Stm}
use Rattle.ess_grammar.specs.Words.{Token}
use Rattle.ess_grammar.specs.Tokens.{tokens, lexed, first_outside}
use Rattle.ess_grammar.specs.Load.{too_deep}
use Rattle.ess_grammar.specs.Statements.{IsSpecification, IsLettingsFile, IsDomain}
use Rattle.ess_grammar.specs.Representations.{IsRepresentation}

-- No byte and no number of the text is refused, and P holds of its tokens.
abbrev pub Reads : Text → (List Token → Type 0) → Type 0
Reads text P = (ts : List Token) × (tokens text ≡ Some ts) × P ts

-- No word of the text stands outside the subset, and its load is within the limit.
abbrev pub IsWithinLimits : Text → Type 0
IsWithinLimits text = (first_outside (lexed text) ≡ None) × (too_deep (lexed text) ≡ None)

-- The text is derived as a specification with these statements.
abbrev pub ReadsSpecification : Text → List Stm → Type 0
ReadsSpecification text ss = Reads text (IsSpecification ss)

-- The text is derived as a file of lettings with these.
abbrev pub ReadsLettings : Text → List Stm → Type 0
ReadsLettings text ss = Reads text (IsLettingsFile ss)

-- The text is derived as this domain.
abbrev pub ReadsDomain : Text → Dom → Type 0
ReadsDomain text d = Reads text (IsDomain d)

-- The text is derived as this representation.
abbrev pub ReadsRepresentation : Text → Repr → Type 0
ReadsRepresentation text r = Reads text (IsRepresentation r)
