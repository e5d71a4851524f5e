-- The digits of a wide number, one after another.
use Rattle.std.proofs.Common.{◌≡◌, sym, ap, ◌∙◌, ℕ, ◌≤◌, ◌<◌, ◌/◌, ◌%◌, ◌^◌, arith, List, ◌++◌, append_assoc}
use Rattle.std.specs.Fmt.{decimal}
use Rattle.std.proofs.lemmas.Fmt.{decimal_digit, decimal_step_wide}

-- the last digit behind those before it
pub last_pushed : (n : ℕ) (line ten new : List ℕ) → 10 ≤ n → n < 10 ^ 64 → ten ≡ line ++ decimal (n / 10) → new ≡ ten ++ decimal (n % 10)
    → new ≡ line ++ decimal n
last_pushed n line ten new big wide h k =
    k ∙ ap (λ t. t ++ decimal (n % 10)) h ∙ append_assoc line (decimal (n / 10)) (decimal (n % 10))
    ∙ ap (λ t. line ++ t) (ap (λ t. decimal (n / 10) ++ t) (decimal_digit (n % 10) (omega arith)) ∙ sym (decimal_step_wide n big wide))
