-- Digits that std's `parse` reads are the digits of a number in words.
use Rattle.std.proofs.Common.{◌≡◌, ◌∙◌, ◌<◌, ◌≤◌, ◌-◌, ◌^◌, ℕ, Bool, cond, ◌&&◌, true, false, List, [], ◌∷◌, length, Option, Some, None}
use Rattle.std.proofs.Common.{Result, Ok, Err, refl, sym, ap, ap₂, subst, arith, lt_of_le_of_lt, nat_lt, leb-true, get_or, ne_eqb, lt-ltb}
use Rattle.std.proofs.Common.{le-leb, le-ltb}
use Rattle.std.proofs.lemmas.Bool.{lt-leb}
use Rattle.std.specs.Prelude.{nat_le}
use Rattle.std.specs.List.{list_all}
use Rattle.std.specs.Char.{digit_value}
use Rattle.std.specs.Str.Parse.{AllDigits, IsNumeral, ParsesUnsigned, digits_value, without_leading_plus}
use Rattle.std.proofs.lemmas.Str.Parse.{without_leading_plus_none}
use Rattle.clap.proofs.WalkLemmas.{both}
use Rattle.conjure_cli_words.specs.Items.{Text}
use Rattle.conjure_cli_words.specs.Commands.{is_digit, number_of}

is_digit-bounds : (c : ℕ) → is_digit c ≡ true → (48 ≤ c) × (c ≤ 57)
is_digit-bounds c e = let h = both (nat_le 48 c) (nat_le c 57) e in (leb-true 48 c h.0, leb-true c 57 h.1)

is_digit-value : (c : ℕ) → is_digit c ≡ true → digit_value c < 10
is_digit-value c e =
    let b = is_digit-bounds c e in
    let low : nat_lt c 48 ≡ false = le-ltb c 48 b.0 in
    let high : nat_lt c 58 ≡ true = lt-ltb c 58 (omega arith) in
    rw (low, high) (omega arith)

all_digits : (text : Text) → list_all is_digit text ≡ true → AllDigits 10 text
all_digits [] e = tt
all_digits (c ∷ rest) e = let h = both (is_digit c) (list_all is_digit rest) e in (is_digit-value c h.0, all_digits rest h.1)

no_plus : (text : Text) → list_all is_digit text ≡ true → without_leading_plus text ≡ text
no_plus [] e = refl
no_plus (c ∷ rest) e = without_leading_plus_none (c ∷ rest)
    (λ plus. let b = is_digit-bounds c (both (is_digit c) (list_all is_digit rest) e).0 in omega (arith, b.0, b.1, plus))

abbrev MOST : ℕ
MOST = 9223372036854775807

number_at : (text : Text) (b : Bool) → 0 < length text → list_all is_digit text ≡ true → nat_le (digits_value 10 text) MOST ≡ b
    → number_of text ≡ cond b (Some (digits_value 10 text)) None
number_at text b some digits e =
    (λ i. cond (lt-ltb 0 (length text) some i && (digits i && e i)) (Some (digits_value 10 text)) None)

number_either : (text : Text) (b : Bool) → 0 < length text → list_all is_digit text ≡ true
    → (IsNumeral 10 (without_leading_plus text) × (digits_value 10 (without_leading_plus text) < 2 ^ 64) → ⊥)
    → nat_le (digits_value 10 text) MOST ≡ b → None ≡ number_of text
number_either text false some digits fails e = sym (number_at text false some digits e)
number_either text true some digits fails e =
    let small : digits_value 10 text < 2 ^ 64 = lt_of_le_of_lt (leb-true (digits_value 10 text) MOST e) (omega arith) in
    absurd (fails (subst (λ (ds : Text). IsNumeral 10 ds × (digits_value 10 ds < 2 ^ 64)) (sym (no_plus text digits))
    ((some, all_digits text digits), small)))

-- digits that `parse` refuses are too large
pub number_refused : {E : Type 0} (text : Text) (e : E) → ParsesUnsigned {E = E} 64 10 text (Err e) → 0 < length text
    → list_all is_digit text ≡ true → None ≡ number_of text
number_refused text e parsed some digits = number_either text (nat_le (digits_value 10 text) MOST) some digits parsed refl
