-- Laws of scanning.
use Rattle.std.proofs.Common.{◌≡◌, refl, ℕ, suc, ◌+◌, ◌*◌, ◌-◌, ◌≤◌, ◌<◌, ◌^◌, Bool, true, false, ◌&&◌, not, List, [], ◌∷◌, length, get_or, take, drop, arith, le_trans, drop-cons, Option, Some, None, sym, ap, ◌∙◌, leb, inl, inr, le-leb}
use Rattle.std.proofs.lemmas.Bool.Decides.{leb_tells}
use Rattle.std.specs.Prelude.{MatchOption, if◌then◌else◌, nat_eq}
use Rattle.std.specs.List.{list_all}
use Rattle.std.specs.Cmp.Lexicographic.{pointwise}
use Rattle.std.specs.Option.{option_map}
use Rattle.std.proofs.Common.{Bor}
use Rattle.conjure_cli_laws.specs.SmallGrammar.{value_from, is_name, is_letter, is_name_byte}
use Rattle.conjure_cli_laws.specs.Words.{is_among, language_words}
use Rattle.conjure_cli.specs.Reading.{behind, number_from, at_end}

-- a number's value only rises
pub value-rises : (front : ℕ) (digits : List ℕ) → front ≤ value_from front digits
value-rises front [] = omega arith
value-rises front (d ∷ digits) = let h = value-rises (10 * front + (d - 48)) digits in omega arith

drop-at : (i : ℕ) (ds : List ℕ) → i < length ds → drop i ds ≡ get_or ds i 0 ∷ drop (suc i) ds
drop-at i ds h = drop-cons ds i 0 h

-- a value that is large after one more digit is large
pub over : (front i : ℕ) (digits : List ℕ) → i < length digits → 2 ^ 63 ≤ 10 * front + (get_or digits i 0 - 48) → 2 ^ 63 ≤ value_from front (drop i digits)
over front i digits h k = rw (drop-at i digits h) (le_trans k (value-rises (10 * front + (get_or digits i 0 - 48)) (drop (suc i) digits)))

abbrev chosen : Bool → List ℕ → Option (List ℕ)
chosen true bytes = Some bytes
chosen false bytes = None

-- to look behind a piece is to compare the front with it
behind_compared : (piece bytes : List ℕ) → behind piece bytes ≡ chosen (pointwise nat_eq (take (length piece) bytes) piece) (drop (length piece) bytes)
behind_compared [] bytes = refl
behind_compared (c ∷ piece) [] = refl
behind_compared (c ∷ piece) (b ∷ bytes) = step (nat_eq b c) (behind_compared piece bytes)
  where
    step : (same : Bool) → behind piece bytes ≡ chosen (pointwise nat_eq (take (length piece) bytes) piece) (drop (length piece) bytes)
        → (if same then behind piece bytes else None)
        ≡ chosen (same && pointwise nat_eq (take (length piece) bytes) piece) (drop (length piece) bytes)
    step true h = h
    step false h = refl

-- what `strip_prefix` answers
pub stripped : (bytes piece : List ℕ) (result : Option (Bor (List ℕ)))
    → MatchOption result (pointwise nat_eq (take (length piece) bytes) piece ≡ false)
    (λ rest. (pointwise nat_eq (take (length piece) bytes) piece ≡ true) × (rest.now ≡ drop (length piece) bytes) × (length rest.now + length piece ≡ length bytes))
    → option_map (λ rest. rest.now) result ≡ behind piece bytes
stripped bytes piece None h = sym (behind_compared piece bytes ∙ ap (λ b. chosen b (drop (length piece) bytes)) h)
stripped bytes piece (Some rest) h = ap Some h.1 ∙ sym (behind_compared piece bytes ∙ ap (λ b. chosen b (drop (length piece) bytes)) h.0)

leb-above : (a b : ℕ) → b < a → leb a b ≡ false
leb-above a b above = elim (leb_tells a b) [ inl h ↦ absurd (omega (arith, h.1)) | inr h ↦ h.0 ]

-- a number that is written with some digits, and not too large
pub number_from_fits : (digits rest : List ℕ) → 0 < length digits → value_from 0 digits < 2 ^ 63 → number_from digits rest ≡ Some (value_from 0 digits, rest)
number_from_fits [] rest some small = absurd (omega arith)
number_from_fits (d ∷ digits) rest some small = ap (λ large. if large then None else Some (value_from 0 (d ∷ digits), rest)) (leb-above (2 ^ 63) (value_from 0 (d ∷ digits)) small)

pub number_from_large : (digits rest : List ℕ) → 2 ^ 63 ≤ value_from 0 digits → number_from digits rest ≡ None
number_from_large [] rest large = refl
number_from_large (d ∷ digits) rest large = ap (λ large. if large then None else Some (value_from 0 (d ∷ digits), rest)) (le-leb (2 ^ 63) (value_from 0 (d ∷ digits)) large)

pub number_from_none : (digits rest : List ℕ) → length digits ≡ 0 → number_from digits rest ≡ None
number_from_none [] rest none = refl
number_from_none (d ∷ digits) rest none = absurd (omega arith)

-- something follows
pub at_end_not : {A : Type 0} (bytes : List ℕ) (x : A) → 0 < length bytes → at_end bytes x ≡ None
at_end_not [] x some = absurd (omega arith)
at_end_not (b ∷ bytes) x some = refl

-- a name that isn't empty
pub name_of : (name rest : List ℕ) (first : ℕ) → name ≡ first ∷ rest
    → is_name name ≡ ((is_letter first && list_all is_name_byte rest) && not (is_among language_words name))
name_of name rest first h = ap is_name h ∙ ap (λ n. (is_letter first && list_all is_name_byte rest) && not (is_among language_words n)) (sym h)
