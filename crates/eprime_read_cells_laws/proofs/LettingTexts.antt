-- The tokens down to a place are a language line, or none, and lettings.
use Rattle.std.proofs.Common.{◌≡◌, sym, subst, ℕ, List, [], ◌∷◌, ◌++◌, append_assoc, append-nil}
use Rattle.ess_semantics.specs.Values.{Text}
use Rattle.ess_semantics.specs.Names.{Names}
use Rattle.ess_semantics.specs.Trees.{Ex}
use Rattle.ess_grammar.specs.Words.{Token, number, name, prime_word, word, symbol, language_word, letting_word, be_word, dot}
use Rattle.ess_grammar.specs.CellTexts.{CellValue, CellLettings, no_cells, more_cells, no_prime_line, prime_line, IsCells, cells}

-- The tokens t0 down to ts are a language line or none and the lettings cs.
abbrev pub Texts : List Token → Names Ex → List Token → Type 0
Texts t0 cs ts = (ds : Names Ex) → CellLettings ds ts → IsCells (cs ++ ds) t0

-- Without a language line.
pub no-line : {t0 : List Token} (cs : Names Ex) (ts : List Token) → t0 ≡ ts → cs ≡ [] → Texts t0 cs ts
no-line {t0 = t0} cs ts h i ds d = subst (λ bs. IsCells (bs ++ ds) t0) (sym i) (subst (λ us. IsCells ds us) (sym h) (cells no_prime_line d))

-- With a language line.
pub with-line : {t0 : List Token} (cs : Names Ex) (m n : ℕ) (ts : List Token) → t0 ≡ word language_word ∷ prime_word ∷ number m ∷ symbol dot ∷ number n ∷ ts → cs ≡ [] → Texts t0 cs ts
with-line {t0 = t0} cs m n ts h i ds d = subst (λ bs. IsCells (bs ++ ds) t0) (sym i) (subst (λ us. IsCells ds us) (sym h) (cells (prime_line {m = m} {n = n} {ts = ts}) d))

-- A letting with its value.
pub letting-read : {t0 : List Token} (cs : Names Ex) (a : Text) (ts : List Token) → Texts t0 cs (word letting_word ∷ name a ∷ word be_word ∷ ts) → (e : Ex) (us : List Token) → CellValue e ts us → Texts t0 (cs ++ (a, e) ∷ []) us
letting-read {t0 = t0} cs a ts p e us d ds l = subst (λ bs. IsCells bs t0) (sym (append_assoc cs ((a, e) ∷ []) ds)) (p ((a, e) ∷ ds) (more_cells d l))

-- No token is left.
pub whole-text : {t0 : List Token} (cs : Names Ex) → Texts t0 cs [] → IsCells cs t0
whole-text {t0 = t0} cs p = subst (λ bs. IsCells bs t0) (append-nil cs) (p [] no_cells)
