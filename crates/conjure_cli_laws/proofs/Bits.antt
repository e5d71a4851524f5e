-- A text as tokens with the bytes that spell them, and white bytes between: what is read of it.
use Rattle.std.proofs.Common.{◌≡◌, refl, sym, ap, ◌∙◌, subst, ℕ, Bool, true, false, ◌&&◌, not, List, [], ◌∷◌, ◌++◌, length, take, Some, None, option_map, nat_lt}
use Rattle.std.proofs.Math.Seq.{drop-append_seam}
use Rattle.ess_semantics.specs.Values.{Text}
use Rattle.ess_semantics.proofs.Tests.{and-left, and-right, not-true}
use Rattle.ess_grammar.specs.Words.{Token, is_outside}
use Rattle.ess_grammar.specs.Places.{place}
use Rattle.ess_grammar.specs.Tokens.{is_white, is_wide, Lexed, lexed_after, tokens_in, first_outside}
use Rattle.ess_grammar.specs.Load.{Item, loaded_by, closes_operand, largest_load, too_deep_after}
use Rattle.ess_grammar.proofs.Lexing.{later, lexed_after-white, lexed_after-token}
use Rattle.ess_print_laws.specs.Touching.{ends_before}
use Rattle.ess_print_laws.proofs.TokensBack.{ReadBack}

-- A token with the bytes that spell it, or a white byte.
pub data Bit : Type 0 where
  bit : Token → Text → Bit
  gap : ℕ → Bit

-- The bytes, before others.
abbrev pub bits_text : List Bit → Text → Text
bits_text [] r = r
bits_text (bit t s ∷ bs) r = s ++ bits_text bs r
bits_text (gap b ∷ bs) r = b ∷ bits_text bs r

-- The tokens, before others.
abbrev pub bits_tokens : List Bit → List Token → List Token
bits_tokens [] ts = ts
bits_tokens (bit t s ∷ bs) ts = t ∷ bits_tokens bs ts
bits_tokens (gap b ∷ bs) ts = bits_tokens bs ts

-- The bytes spell the token.
pub record Spells (t : Token) (s : Text) : Type 0 where
  pub back : ReadBack t s
  pub narrow : is_wide t ≡ false
  pub inside : is_outside t ≡ false

-- Each token is spelled, and ends before what follows it.
abbrev pub Apart : List Bit → Text → Type 0
Apart [] r = Unit {0}
Apart (bit t s ∷ bs) r = Spells t s × (ends_before s (bits_text bs r) ≡ true) × Apart bs r
Apart (gap b ∷ bs) r = (is_white b ≡ true) × Apart bs r

-- Whether no token is loaded too much.
abbrev pub is_shallow : Bool → List Item → List Token → Bool
is_shallow b items [] = true
is_shallow b items (t ∷ ts) = not (nat_lt largest_load (length (loaded_by t b items))) && is_shallow (closes_operand t)
    (loaded_by t b items) ts

-- These tokens are read, none of them outside the subset, and no more than a load that they have.
pub record IsRead (l : Lexed) (ts : List Token) : Type 0 where
  pub tokens : tokens_in l ≡ Some ts
  pub inside : first_outside l ≡ None
  pub load : (b : Bool) (items : List Item) → is_shallow b items ts ≡ true → too_deep_after b items l ≡ None

first-token : {ts : List Token} (before r : Text) (t : Token) (s : Text) → Spells t s → ends_before s r ≡ true →
    IsRead (lexed_after (before ++ take (length s) (s ++ r)) r) ts → IsRead (lexed_after before (s ++ r)) (t ∷ ts)
first-token {ts = ts} before r t s p e h =
    let n : Text = before ++ take (length s) (s ++ r) in
    subst (λ l. IsRead l (t ∷ ts)) (sym (lexed_after-token before (s ++ r) t (length s) (p.back.plain r) (p.back.longest r e) p.narrow))
    (record {
      tokens = ap (λ u. option_map (λ ts. t ∷ ts) (tokens_in (lexed_after n u))) (drop-append_seam s r)
          ∙ ap (option_map (λ ts. t ∷ ts)) h.tokens;
      inside = ap (λ i. elim i [ true ↦ Some (place before) | false ↦ first_outside (later before (s ++ r) (length s)) ]) p.inside
          ∙ ap (λ u. first_outside (lexed_after n u)) (drop-append_seam s r) ∙ h.inside;
      load = λ b items k.
          let d : Bool = nat_lt largest_load (length (loaded_by t b items)) in
          let c : Bool = is_shallow (closes_operand t) (loaded_by t b items) ts in
          ap (λ i. elim i [
            | true ↦ Some (place before)
            | false ↦ too_deep_after (closes_operand t) (loaded_by t b items)
                (later before (s ++ r) (length s))
          ]) (not-true d (and-left (not d) c k))
          ∙ ap (λ u. too_deep_after (closes_operand t) (loaded_by t b items) (lexed_after n u)) (drop-append_seam s r)
          ∙ h.load (closes_operand t) (loaded_by t b items) (and-right (not d) c k);
    })

-- What is read of a text of bits that stand apart, before others.
pub bits-read : (bs : List Bit) (r : Text) (ts : List Token) → Apart bs r → ((before : Text) → IsRead (lexed_after before r) ts) →
    (before : Text) → IsRead (lexed_after before (bits_text bs r)) (bits_tokens bs ts)
bits-read [] r ts h k before = k before
bits-read (bit t s ∷ bs) r ts h k before = first-token before (bits_text bs r) t s h.0 h.1 (bits-read bs r ts h.2 k _)
bits-read (gap b ∷ bs) r ts h k before =
    subst (λ l. IsRead l (bits_tokens bs ts)) (sym (lexed_after-white before b (bits_text bs r) h.0))
    (bits-read bs r ts h.1 k (before ++ b ∷ []))

-- Nothing is read of no text.
pub nothing-read : (before : Text) → IsRead (lexed_after before []) []
nothing-read before = record { tokens = refl; inside = refl; load = λ b items h. refl }
