-- Which token comes next.
use Rattle.std.specs.Prelude.{◌≡◌}
use Rattle.ess_rows.specs.declared.place.Place.{Place}
use Rattle.ess_semantics.specs.Values.{Text}
use Rattle.ess_grammar.specs.Words.{Token}
use Rattle.ess_grammar.specs.Tokens.{Lexed, next_token}

-- The next token of the first is t, and then comes the second.
abbrev pub IsNext : Token → Lexed → Lexed → Type 0
IsNext t l m = (bytes : Text) × (p : Place) × (l ≡ next_token t bytes p m)

-- The next token isn't t.
abbrev pub IsNotNext : Token → Lexed → Type 0
IsNotNext t l = (bytes : Text) (p : Place) (m : Lexed) → l ≡ next_token t bytes p m → ⊥
