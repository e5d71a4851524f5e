-- The decimal digits of a number are digits, and their value is the number.
use Rattle.std.proofs.Common.{◌≡◌, refl, ◌∙◌, ℕ, ◌+◌, ◌*◌, ◌-◌, ◌%◌, ◌<◌, ◌^◌, true, List, [], ◌∷◌, ◌++◌, length, arith, length-append}
use Rattle.std.specs.Fmt.{decimal}
use Rattle.std.specs.List.{list_all}
use Rattle.std.proofs.lemmas.Fmt.{decimal_by_steps}
use Rattle.std.proofs.lemmas.Bool.{and_from, and_parts}
use Rattle.std.proofs.lemmas.Bool.Decides.{nat_tests}
use Rattle.ess_grammar.specs.Tokens.{is_digit, value_after, value_of}

one-more : (high d : ℕ) (ds : List ℕ) → value_after high (ds ++ d ∷ []) ≡ 10 * value_after high ds + (d - 48)
one-more high d [] = refl
one-more high d (b ∷ ds) = one-more (10 * high + (b - 48)) d ds

all-more : (d : ℕ) (ds : List ℕ) → list_all is_digit ds ≡ true → is_digit d ≡ true → list_all is_digit (ds ++ d ∷ []) ≡ true
all-more d [] h k = and_from (is_digit d) true k refl
all-more d (b ∷ ds) h k =
    let parts = and_parts (is_digit b) (list_all is_digit ds) h in
    and_from (is_digit b) (list_all is_digit (ds ++ d ∷ [])) parts.0 (all-more d ds parts.1 k)

a-digit : (d : ℕ) → d < 10 → is_digit (48 + d) ≡ true
a-digit d h = grind (arith, nat_tests)

-- digits, one or more, of this value
pub record Writes (n : ℕ) (ds : List ℕ) : Type 0 where
  pub digits : list_all is_digit ds ≡ true
  pub some : 0 < length ds
  pub value : value_of ds ≡ n

pub decimal-writes : (n : ℕ) → n < 2 ^ 64 → Writes n (decimal n)
decimal-writes = decimal_by_steps Writes
    (λ n h. record { digits = and_from (is_digit (48 + n)) true (a-digit n h) refl; some = omega arith; value = omega arith })
    (λ n ds h w. record {
      digits = all-more (48 + n % 10) ds w.digits (a-digit (n % 10) (omega arith));
      some = omega (arith, length-append ds ((48 + n % 10) ∷ []));
      value = one-more 0 (48 + n % 10) ds ∙ omega (arith, w.value);
    })
