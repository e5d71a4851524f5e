-- The lines of a header one by one: a statement, the representations of a name, the end, or none of these.
use Rattle.std.specs.Prelude.{◌≡◌, Bool, true, false, List, [], ◌∷◌, codes}
use Rattle.ess_semantics.specs.Values.{Text}
use Rattle.ess_semantics.specs.Names.{Names}
use Rattle.ess_semantics.specs.Trees.{Repr, Stm}
use Rattle.ess_grammar.specs.Words.{word, language_word}
use Rattle.ess_grammar.specs.Tokens.{Lexed, next_token}
use Rattle.ess_grammar.specs.Statements.{Statement}
use Rattle.ess_grammar.specs.HeaderTexts.{RepresentationLine, RepresentationLines, StatementLines}
use Rattle.ess_grammar.specs.Texts.{Reads, IsWithinLimits}

-- What a line is.
pub data HeadLine : Type 0 where
  statement_line : Stm → HeadLine
  reprs_line : Text → List Repr → HeadLine
  last_line other_line : HeadLine

-- The rules derive this statement for the line.
abbrev pub DerivesStatement : Text → Stm → Type 0
DerivesStatement l s = Reads l (λ ts. Statement (s ∷ []) ts [])

-- They derive the representations of this name for it.
abbrev pub DerivesReprs : Text → Text → List Repr → Type 0
DerivesReprs l a rs = Reads l (RepresentationLine a rs)

-- The line is read as this statement: the rules derive it, and the line is within the limits.
abbrev pub IsStatementLine : Text → Stm → Type 0
IsStatementLine l s = DerivesStatement l s × IsWithinLimits l

-- It is read as the representations of this name.
abbrev pub IsReprsLine : Text → Text → List Repr → Type 0
IsReprsLine l a rs = DerivesReprs l a rs × IsWithinLimits l

-- It isn't read as a statement.
abbrev pub IsNoStatementLine : Text → Type 0
IsNoStatementLine l = (s : Stm) → IsStatementLine l s → ⊥

-- It isn't read as the representations of a name.
abbrev pub IsNoReprsLine : Text → Type 0
IsNoReprsLine l = (a : Text) (rs : List Repr) → IsReprsLine l a rs → ⊥

-- The line is what is said of it.
abbrev pub IsHeadLine : Text → HeadLine → Type 0
IsHeadLine l (statement_line s) = IsStatementLine l s
IsHeadLine l (reprs_line a rs) = IsReprsLine l a rs
IsHeadLine l last_line = l ≡ codes "end-header"
IsHeadLine l other_line = IsNoStatementLine l × IsNoReprsLine l × (l ≡ codes "end-header" → ⊥)

-- Whether the first token is the word `language`.
abbrev pub begins_with_language : Lexed → Bool
begins_with_language (next_token (word language_word) bytes p more) = true
begins_with_language _ = false

-- ---- reading line by line

-- Which lines are wanted: statements and then the rest, or representations to the end.
pub data Wanted : Type 0 where
  statements_wanted reprs_wanted : Wanted

-- The lines from a place of the header on, where these are wanted, however deeply they are nested.
abbrev pub LinesFrom : Wanted → List Stm → Names (List Repr) → List Text → Type 0
LinesFrom statements_wanted ss cs ls = StatementLines ss cs ls
LinesFrom reprs_wanted ss cs ls = (ss ≡ []) × RepresentationLines cs ls
