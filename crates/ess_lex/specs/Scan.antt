-- What the code finds at the front of a text.
use Rattle.std.specs.Prelude.{◌≡◌, ℕ, ◌≤◌, ◌<◌, true, false, length, take, Option, Some, None}
use Rattle.std.specs.Option.{option_map}
use Rattle.ess_grammar.specs.declared.kind.Kind.{Kind}
use Rattle.ess_grammar.specs.Words.{Text, Token}
use Rattle.ess_grammar.specs.Kinds.{token}
use Rattle.ess_grammar.specs.Places.{lines_before}
use Rattle.ess_grammar.specs.Tokens.{longest_token, is_wide}
use Rattle.ess_lex.specs.Lexing.{IsNatural}
use Rattle.ess_lex.specs.declared.scan.Found.{Found}

-- the token of a kind that stands in the first n bytes, and n
abbrev pub token_at : Text → Option (Kind × ℕ) → Option (Token × ℕ)
token_at text found = option_map (λ p. (token p.0 (take p.1 text), p.1)) found

-- the longest token of a text has n bytes
pub record IsFirstToken (t : Token) (n : ℕ) (text : Text) : Type 0 where
  pub longest : longest_token text ≡ Some (t, n)
  pub narrow : is_wide t ≡ false
  pub begun : 0 < n
  pub within : n ≤ length text
  pub one_line : lines_before (take n text) ≡ 0

-- the longest token of a text is a number that is too large
pub record BeginsWide (text : Text) : Type 0 where
  pub found : Token × ℕ
  pub longest : longest_token text ≡ Some found
  pub wide : is_wide found.0 ≡ true

abbrev pub IsFound : Found → Text → Type 0
IsFound (Found.Token k n) text = IsFirstToken (token k (take n text)) n text × IsNatural k
IsFound Found.BadByte text = longest_token text ≡ None
IsFound Found.WideNumber text = BeginsWide text
