-- The header with which a model begins, and whether it is one that this tool writes: a well typed specification without
-- constraints and objectives, and for each given and find with a domain, in order, representations that fit it.
use Rattle.std.specs.Prelude.{◌≡◌, Bool, true, false, ◌&&◌, List, [], ◌∷◌, ◌++◌, None, IsTrue}
use Rattle.std.specs.List.{list_all}
use Rattle.ess_semantics.specs.Values.{Text}
use Rattle.ess_semantics.specs.Order.{same_text}
use Rattle.ess_semantics.specs.Names.{Names}
use Rattle.ess_semantics.specs.Trees.{Repr, Dom}
use Rattle.ess_semantics.specs.Kinds.{fits}
use Rattle.ess_semantics.specs.Contexts.{Each}
use Rattle.ess_semantics.specs.Judgements.{fault}
use Rattle.ess_semantics.specs.Plans.{kept_names}
use Rattle.ess_semantics.specs.ModelTrees.{Header, in_header}
use Rattle.ess_grammar.specs.Words.{Token, number, prime_word, word, symbol, language_word, dot}
use Rattle.ess_grammar.specs.Tokens.{Lexed, next_token, lexed}
use Rattle.ess_grammar.specs.ModelTexts.{header_lines}
use Rattle.ess_grammar.specs.Texts.{IsWithinLimits}
use Rattle.ess_grammar.specs.HeaderTexts.{IsHeader}

-- The tokens of a model's language line.
abbrev pub language_line : List Token
language_line = word language_word ∷ prime_word ∷ number 1 ∷ symbol dot ∷ number 0 ∷ []

-- The first tokens of a text are these.
abbrev pub BeginsWithTokens : List Token → Lexed → Type 0
BeginsWithTokens [] l = Unit {0}
BeginsWithTokens (t ∷ ts) (next_token u bytes p more) = (u ≡ t) × BeginsWithTokens ts more
BeginsWithTokens (t ∷ ts) l = ⊥

-- Each line is within the limits of readers.
abbrev pub AreWithinLimits : List Text → Type 0
AreWithinLimits ls = Each ls IsWithinLimits

-- The lines of this header stand first among these, each within the limits; other lines may stand behind them.
pub record StandsFirst (H : Header) (lines : List Text) : Type 0 where
  pub own : List Text
  pub others : List Text
  pub all : lines ≡ own ++ others
  pub header : IsHeader H own
  pub limits : AreWithinLimits own

-- The text begins with the language line, and the comments under it with the lines of this header.
pub record BeginsWith (text : Text) (H : Header) : Type 0 where
  pub language : BeginsWithTokens language_line (lexed text)
  pub lines : StandsFirst H (header_lines text)

-- Whether each representation fits the domain.
abbrev pub all_fit : List Repr → Dom → Bool
all_fit rs d = list_all (λ r. fits r d) rs

-- Whether the representations are of exactly these names, in order, and fit their domains.
abbrev pub are_reprs_of : Names Dom → Names (List Repr) → Bool
are_reprs_of [] [] = true
are_reprs_of (x ∷ xs) (r ∷ rs) = same_text x.0 r.0 && all_fit r.1 x.1 && are_reprs_of xs rs
are_reprs_of _ _ = false

-- The header is one that this tool writes.
pub record IsOurs (H : Header) : Type 0 where
  pub declares : IsTrue (list_all in_header H.statements)
  pub typed : fault H.statements ≡ None
  pub represented : IsTrue (are_reprs_of (kept_names H.statements) H.reprs)

-- The text begins with this header, and it is one of this tool.
abbrev pub HasHeader : Text → Header → Type 0
HasHeader text H = BeginsWith text H × IsOurs H
