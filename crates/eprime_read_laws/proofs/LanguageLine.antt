-- The language line, as the machine of models reads it token by token.
use Rattle.std.proofs.Common.{◌≡◌, refl, ap, ◌∙◌, ℕ, nat_eq, eqb-true, Bool, true, false, List, [], ◌∷◌, ◌++◌, Option, Some, None}
use Rattle.ess_semantics.specs.ModelTrees.{Model}
use Rattle.ess_grammar.specs.Words.{Token, number, name, prime_word, word, operator, function, symbol, language_word, dot}
use Rattle.eprime_read_laws.specs.ModelMachine.{Stage, at_begin, behind_language, behind_prime, behind_first_number, behind_dot, first_part, then_model, model_run}

number-is : (n k : ℕ) (s : Stage) (ts : List Token) (m : Model) (b : Bool) → nat_eq n k ≡ b → then_model (elim b as (λ b. Option Stage) [ true ↦ Some s | false ↦ None ]) (model_run ts) ≡ Some m → (n ≡ k) × (model_run ts s ≡ Some m)
number-is n k s ts m true q h = (eqb-true n k q, h)
number-is n k s ts m false q h = cc

-- The tokens go on with these, behind which the machine stands at the stage s.
pub record LineRead (ts : List Token) (front : List Token) (s : Stage) (m : Model) : Type 0 where
  pub us : List Token
  pub is : ts ≡ front ++ us
  pub run : model_run us s ≡ Some m

line-from-dot : (ts : List Token) (m : Model) → model_run ts behind_dot ≡ Some m → LineRead ts (number 0 ∷ []) first_part m
line-from-dot [] m h = cc
line-from-dot (number n ∷ ts) m h = let r = number-is n 0 first_part ts m (nat_eq n 0) refl h in record { us = ts; is = ap (λ n. number n ∷ ts) r.0; run = r.1 }
line-from-dot (name a ∷ ts) m h = cc
line-from-dot (prime_word ∷ ts) m h = cc
line-from-dot (word w ∷ ts) m h = cc
line-from-dot (operator o ∷ ts) m h = cc
line-from-dot (function f ∷ ts) m h = cc
line-from-dot (symbol c ∷ ts) m h = cc

line-from-number : (ts : List Token) (m : Model) → model_run ts behind_first_number ≡ Some m → LineRead ts (symbol dot ∷ number 0 ∷ []) first_part m
line-from-number [] m h = cc
line-from-number (symbol dot ∷ ts) m h = let r = line-from-dot ts m h in record { us = r.us; is = ap (λ ts. symbol dot ∷ ts) r.is; run = r.run }
line-from-number (_ ∷ ts) m h = cc

line-from-prime : (ts : List Token) (m : Model) → model_run ts behind_prime ≡ Some m → LineRead ts (number 1 ∷ symbol dot ∷ number 0 ∷ []) first_part m
line-from-prime [] m h = cc
line-from-prime (number n ∷ ts) m h =
    let q = number-is n 1 behind_first_number ts m (nat_eq n 1) refl h in
    let r = line-from-number ts m q.1 in
    record { us = r.us; is = ap (λ n. number n ∷ ts) q.0 ∙ ap (λ ts. number 1 ∷ ts) r.is; run = r.run }
line-from-prime (name a ∷ ts) m h = cc
line-from-prime (prime_word ∷ ts) m h = cc
line-from-prime (word w ∷ ts) m h = cc
line-from-prime (operator o ∷ ts) m h = cc
line-from-prime (function f ∷ ts) m h = cc
line-from-prime (symbol c ∷ ts) m h = cc

line-from-language : (ts : List Token) (m : Model) → model_run ts behind_language ≡ Some m → LineRead ts (prime_word ∷ number 1 ∷ symbol dot ∷ number 0 ∷ []) first_part m
line-from-language [] m h = cc
line-from-language (prime_word ∷ ts) m h = let r = line-from-prime ts m h in record { us = r.us; is = ap (λ ts. prime_word ∷ ts) r.is; run = r.run }
line-from-language (_ ∷ ts) m h = cc

-- The first line is the language line.
pub line-read : (ts : List Token) (m : Model) → model_run ts at_begin ≡ Some m → LineRead ts (word language_word ∷ prime_word ∷ number 1 ∷ symbol dot ∷ number 0 ∷ []) first_part m
line-read [] m h = cc
line-read (word language_word ∷ ts) m h = let r = line-from-language ts m h in record { us = r.us; is = ap (λ ts. word language_word ∷ ts) r.is; run = r.run }
line-read (_ ∷ ts) m h = cc
