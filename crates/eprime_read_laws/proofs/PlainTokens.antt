-- Tokens that begin no statement, and what the first token of others decides.
use Rattle.std.proofs.Common.{◌≡◌, refl, ap, subst, Bool, true, ◌&&◌, not, List, [], ◌∷◌, Option, Some, None}
use Rattle.ess_grammar.specs.Words.{Token, name, word, symbol, open_round}
use Rattle.ess_grammar.specs.Patterns.{starts_round}
use Rattle.ess_grammar.specs.Grammar.{starts_attributes}
use Rattle.ess_parse_laws.specs.StatementEnds.{begins_statement}

-- Whether the token is no word that begins a statement.
abbrev pub is_plain : Token → Bool
is_plain (word w) = not (begins_statement w)
is_plain t = true

-- Whether all are such.
abbrev pub all_plain : List Token → Bool
all_plain [] = true
all_plain (t ∷ ts) = is_plain t && all_plain ts

-- The first token.
abbrev pub first_token : List Token → Option Token
first_token [] = None
first_token (t ∷ ts) = Some t

from-some : {t u : Token} → Some t ≡ Some u → t ≡ u
from-some h = cc

second-alone : (t : Token) (us vs : List Token) → starts_attributes (symbol open_round ∷ t ∷ us) ≡ starts_attributes (symbol open_round ∷ t ∷ vs)
second-alone (name a) us vs = refl
second-alone _ us vs = refl

same-second : {t u : Token} (us vs : List Token) → t ≡ u → starts_attributes (symbol open_round ∷ t ∷ us) ≡ starts_attributes (symbol open_round ∷ u ∷ vs)
same-second {t = t} us vs h = subst (λ u. starts_attributes (symbol open_round ∷ t ∷ us) ≡ starts_attributes (symbol open_round ∷ u ∷ vs)) h (second-alone t us vs)

round-alone : (t : Token) (us vs : List Token) → starts_round (t ∷ us) ≡ starts_round (t ∷ vs)
round-alone (symbol open_round) us vs = refl
round-alone _ us vs = refl

same-round : {t u : Token} (us vs : List Token) → t ≡ u → starts_round (t ∷ us) ≡ starts_round (u ∷ vs)
same-round {t = t} us vs h = subst (λ u. starts_round (t ∷ us) ≡ starts_round (u ∷ vs)) h (round-alone t us vs)

-- Whether attributes start behind a token, the first of the others decides.
pub starts-same : (t : Token) (us vs : List Token) → first_token us ≡ first_token vs → starts_attributes (t ∷ us) ≡ starts_attributes (t ∷ vs)
starts-same (symbol open_round) [] [] h = refl
starts-same (symbol open_round) [] (v ∷ vs) h = cc
starts-same (symbol open_round) (u ∷ us) [] h = cc
starts-same (symbol open_round) (u ∷ us) (v ∷ vs) h = same-second us vs (from-some h)
starts-same _ us vs h = refl

-- Whether a round bracket starts them, the first token decides.
pub round-same : (us vs : List Token) → first_token us ≡ first_token vs → starts_round us ≡ starts_round vs
round-same [] [] h = refl
round-same [] (v ∷ vs) h = cc
round-same (u ∷ us) [] h = cc
round-same (u ∷ us) (v ∷ vs) h = same-round us vs (from-some h)

-- A token that begins no statement before others changes nothing.
pub plain-before : (t : Token) (us : List Token) → is_plain t ≡ true → all_plain (t ∷ us) ≡ all_plain us
plain-before t us h = ap (λ b. b && all_plain us) h
