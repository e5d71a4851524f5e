-- How a number's digits come from those of its tenth part, and that they are ASCII.
use Rattle.std.specs.Prelude.{◌≡◌, ℕ, ◌+◌, ◌-◌, ◌/◌, ◌%◌, ◌^◌, ◌<◌, ◌≤◌, List, [], ◌∷◌, ◌++◌, length, take, drop}
use Rattle.std.specs.Fmt.{decimal}
use Rattle.std.proofs.Common.{sym, ◌∙◌, ap, subst, append_assoc, length-append}
use Rattle.std.proofs.lemmas.Fmt.{decimal_step}
use Rattle.std.proofs.lemmas.List.{take_rest}

-- the last digit, put before what follows the number
pub last_digit-rest : (n : ℕ) (rest : List ℕ) → 10 ≤ n → n < 2 ^ 64 → decimal (n / 10) ++ (48 + n % 10) ∷ rest ≡ decimal n ++ rest
last_digit-rest n rest ten small = sym (ap (λ ds. ds ++ rest) (decimal_step n ten small) ∙ append_assoc (decimal (n / 10)) ((48 + n % 10) ∷ []) rest)

pub length-tenth : (n : ℕ) → 10 ≤ n → n < 2 ^ 64 → length (decimal (n / 10)) + 1 ≡ length (decimal n)
length-tenth n ten small = sym (ap length (decimal_step n ten small) ∙ length-append (decimal (n / 10)) ((48 + n % 10) ∷ []))

-- the end of a buffer, as a slice of it
pub slice-drop : (buffer : List ℕ) (room start : ℕ) → length buffer ≡ room → take (room - start) (drop start buffer) ≡ drop start buffer
slice-drop buffer room start long = subst (λ n. take (n - start) (drop start buffer) ≡ drop start buffer) long (take_rest buffer start)
