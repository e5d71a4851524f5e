-- Printed names are found one after the other.
use Rattle.std.proofs.Common.{◌≡◌, refl, sym, ap, ◌∙◌, ℕ, zero, suc, ◌+◌, ◌-◌, ◌<◌, Bool, true, false, not, if◌then◌else◌, List, [], ◌∷◌, length, filter, Some, None, arith}
use Rattle.ess_semantics.specs.Values.{Text}
use Rattle.ess_semantics.specs.Lists.{or_default, item_number}
use Rattle.ess_semantics.specs.Names.{is_among}
use Rattle.conjure_model_laws.specs.Printed.{q_names, printed_name}
use Rattle.ess_model_printed.specs.PrintedNames.{q, found, passed}

split : (n k : ℕ) → k < n → n - k ≡ suc (n - (k + 1))
split n k h = omega (arith, h)

start : (n d c : ℕ) → n ≡ d + c + 2 → n - 1 ≡ suc d + c
start n d c h = omega (arith, h)

next_is : (k : ℕ) → k + 1 ≡ suc k
next_is k = omega arith

-- One that isn't the one leaves out one fewer.
pub passed_less : (d : ℕ) → 0 < d → Some (d - 1) ≡ passed false d
passed_less zero h = absurd (omega (arith, h))
passed_less (suc d) h = ap Some (omega arith)

module _ (taken : List Text) where
  step : (b : Bool) (m k d : ℕ) → is_among taken (q k) ≡ b
      → found taken (suc m) k d
      ≡ or_default (item_number (if not b then q k ∷ filter (λ a. not (is_among taken a)) (q_names (suc k) m)
      else filter (λ a. not (is_among taken a)) (q_names (suc k) m)) d) []
  step b m k d e =
      ap (λ b. or_default (item_number (if not b then q k ∷ filter (λ a. not (is_among taken a)) (q_names (suc k) m)
      else filter (λ a. not (is_among taken a)) (q_names (suc k) m)) d) []) e

  -- All names that are asked.
  pub found_first : (n d c : ℕ) → n ≡ d + c + 2 → c ≡ length taken → found taken (n - 1) 1 d ≡ printed_name taken d
  found_first n d c h e = ap (λ m. found taken m 1 d) (start n d c h) ∙ ap (λ c. found taken (suc d + c) 1 d) e

  -- Where a name isn't the one, the others are asked.
  pub found_on : (n k d c : ℕ) → k < n → Some c ≡ passed (is_among taken (q k)) d →
      found taken (n - (k + 1)) (k + 1) c ≡ found taken (n - k) k d
  found_on n k d c h e =
      ap (λ j. found taken (n - (k + 1)) j c) (next_is k)
      ∙ sym (ap (λ m. found taken m k d) (split n k h) ∙ go (is_among taken (q k)) refl d e)
    where
      go : (b : Bool) → is_among taken (q k) ≡ b → (d : ℕ) → Some c ≡ passed b d
          → found taken (suc (n - (k + 1))) k d ≡ found taken (n - (k + 1)) (suc k) c
      go true p d e = step true (n - (k + 1)) k d p ∙ ap (λ o. found taken (n - (k + 1)) (suc k) (or_default o d)) (sym e)
      go false p zero e = cc
      go false p (suc d) e = step false (n - (k + 1)) k (suc d) p ∙ ap (λ o. found taken (n - (k + 1)) (suc k) (or_default o d)) (sym e)

  -- Where it is the one, it is found.
  pub found_is : (n k d : ℕ) → k < n → None ≡ passed (is_among taken (q k)) d → q k ≡ found taken (n - k) k d
  found_is n k d h e = sym (ap (λ m. found taken m k d) (split n k h) ∙ go (is_among taken (q k)) refl d e)
    where
      go : (b : Bool) → is_among taken (q k) ≡ b → (d : ℕ) → None ≡ passed b d → found taken (suc (n - (k + 1))) k d ≡ q k
      go true p d e = cc
      go false p zero e = step false (n - (k + 1)) k 0 p
      go false p (suc d) e = cc

  -- Behind the last there is none.
  pub found_none : (n k d : ℕ) → n - k ≡ 0 → [] ≡ found taken (n - k) k d
  found_none n k d e = sym (ap (λ m. found taken m k d) e)
