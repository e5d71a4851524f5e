-- Laws of printed texts, each stated at a function that does nothing, so that its proof is checked with the code. Each list of
-- tokens is at most one tree, so what is derived is the tree that was printed and no other.
use Rattle.std.specs.Prelude.{◌≡◌, ℕ, true, false, List, [], ◌∷◌, ◌++◌, Some, None, IsTrue, codes}
use Rattle.ess_semantics.specs.Values.{Text, Value}
use Rattle.ess_semantics.specs.Trees.{Repr, Ex, Dom, Stm, let_ex}
use Rattle.ess_grammar.specs.Words.{Token}
use Rattle.ess_grammar.specs.Tokens.{tokens, lexed, first_outside}
use Rattle.ess_grammar.specs.Patterns.{Shape}
use Rattle.ess_grammar.specs.Grammar.{Expression}
use Rattle.ess_grammar.specs.Statements.{Statement, IsSpecification, IsLettingsFile, IsDomain}
use Rattle.ess_grammar.specs.Representations.{IsRepresentation}
use Rattle.ess_grammar.specs.Readable.{is_name_token, is_plain_letting, ReadableEx, ReadableDom, ReadableStm}
use Rattle.ess_grammar.specs.Texts.{Reads}
use Rattle.ess_grammar.specs.ValueTexts.{value_text, literal_of}
use Rattle.ess_print_laws.specs.Pieces.{Piece, text_of, tokens_of}
use Rattle.ess_print_laws.specs.Touching.{Separate}
use Rattle.ess_print_laws.specs.Expressions.{ex_pieces, dom_pieces}
use Rattle.ess_print_laws.specs.Statements.{stm_pieces, repr_pieces}
use Rattle.ess_print_laws.specs.Spelled.{is_spelled}
use Rattle.ess_print_laws.specs.Texts.{ex_text, dom_text, stm_text, repr_text}

-- No byte and no number of the text is refused, P holds of its tokens, and no word of it stands outside the subset.
abbrev pub ReadsInSubset : Text → (List Token → Type 0) → Type 0
ReadsInSubset text P = Reads text P × (first_outside (lexed text) ≡ None)

-- The tokens are this expression, which doesn't end in a quantifier's body.
abbrev pub IsClosedExpression : Ex → List Token → Type 0
IsClosedExpression e ts = (s : Shape) × (l : ℕ) × Expression false s l e ts []

-- The tokens of separate pieces are read back.
abbrev pub PiecesAreRead : Type 0
PiecesAreRead = (ps : List Piece) → Separate ps → (tokens (text_of ps) ≡ Some (tokens_of ps)) × (first_outside (lexed (text_of ps)) ≡ None)

-- A readable expression's text is derived as that expression.
abbrev pub ExpressionsAreRead : Type 0
ExpressionsAreRead = (e : Ex) → ReadableEx e → ReadsInSubset (ex_text e) (IsClosedExpression e)

-- A readable domain's text is derived as that domain.
abbrev pub DomainsAreRead : Type 0
DomainsAreRead = (d : Dom) → ReadableDom d → ReadsInSubset (dom_text d) (IsDomain d)

-- A readable statement's text is derived as that statement, and as a specification of it alone.
abbrev pub StatementsAreRead : Type 0
StatementsAreRead = (s : Stm) → ReadableStm s → ReadsInSubset (stm_text s) (λ ts. Statement (s ∷ []) ts [] × IsSpecification (s ∷ []) ts)

-- What stands before the value in a letting of this name.
abbrev pub letting_of : Text → Text
letting_of a = codes "letting " ++ (a ++ codes " be ")

-- Behind `letting NAME be ` the text is a file of lettings with this expression alone, whatever name it is.
abbrev pub IsLettingOf : Ex → Text → Type 0
IsLettingOf e text = (a : Text) → IsTrue (is_name_token a) → ReadsInSubset (letting_of a ++ text) (IsLettingsFile (let_ex a e ∷ []))

-- A readable letting's text is a file of lettings with it alone, and so is a readable expression's text behind `letting NAME be `.
pub record LettingsAreRead : Type 0 where
  pub statements : (s : Stm) → is_plain_letting s ≡ true → ReadableStm s → ReadsInSubset (stm_text s) (IsLettingsFile (s ∷ []))
  pub expressions : (e : Ex) → ReadableEx e → IsLettingOf e (ex_text e)

-- Each representation's text is derived as that representation.
abbrev pub RepresentationsAreRead : Type 0
RepresentationsAreRead = (r : Repr) → ReadsInSubset (repr_text r) (IsRepresentation r)

-- The text of a value that is spelled is that of its literal, which is readable, and is derived as that literal; behind
-- `letting NAME be ` it is a file of lettings with the literal.
pub record ValuesAreRead : Type 0 where
  pub texts : (name_of : Text → ℕ → Text) (v : Value) → IsTrue (is_spelled name_of v) → value_text name_of v ≡ ex_text (literal_of name_of v)
  pub readable : (name_of : Text → ℕ → Text) (v : Value) → IsTrue (is_spelled name_of v) → ReadableEx (literal_of name_of v)
  pub reads : (name_of : Text → ℕ → Text) (v : Value) → IsTrue (is_spelled name_of v) →
      ReadsInSubset (value_text name_of v) (IsClosedExpression (literal_of name_of v))
  pub letting : (name_of : Text → ℕ → Text) (v : Value) → IsTrue (is_spelled name_of v) → IsLettingOf (literal_of name_of v) (value_text name_of v)

-- What is printed before pieces is the tree's own text, and then theirs.
pub record TextsStandFirst : Type 0 where
  pub expressions : (e : Ex) (us : List Piece) → text_of (ex_pieces e us) ≡ ex_text e ++ text_of us
  pub domains : (d : Dom) (us : List Piece) → text_of (dom_pieces d us) ≡ dom_text d ++ text_of us
  pub statements : (s : Stm) (us : List Piece) → text_of (stm_pieces s us) ≡ stm_text s ++ text_of us
  pub representations : (r : Repr) (us : List Piece) → text_of (repr_pieces r us) ≡ repr_text r ++ text_of us
