-- The token at the front of a text that the lexer doesn't refuse there.
use Rattle.std.specs.Prelude.{◌≡◌, ℕ, zero, suc, ◌<◌, ◌≤◌, Bool, true, false, length, drop, Some}
use Rattle.ess_semantics.specs.Values.{Text}
use Rattle.ess_grammar.specs.Words.{Token}
use Rattle.ess_grammar.specs.Tokens.{longest_token, Lexed, the_end, bad_byte, wide_number, next_token, lexed, BeginsPlain}

-- Whether the lexer refuses nothing before so many tokens have come, or the end.
abbrev pub is_free_for : ℕ → Lexed → Bool
is_free_for zero l = true
is_free_for (suc m) the_end = true
is_free_for (suc m) (bad_byte p) = false
is_free_for (suc m) (wide_number p) = false
is_free_for (suc m) (next_token t bytes p more) = is_free_for m more

-- The text begins with a token of n bytes, behind which one token less is free.
pub record FrontToken (text : Text) (n : ℕ) : Type 0 where
  pub plain : BeginsPlain text
  pub token : Token
  pub longest : longest_token text ≡ Some (token, n)
  pub begun : 0 < n
  pub within : n ≤ length text
  pub free : (m : ℕ) → is_free_for (suc m) (lexed text) ≡ true → is_free_for m (lexed (drop n text)) ≡ true
