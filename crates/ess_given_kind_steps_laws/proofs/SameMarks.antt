-- Reserved names that all belong to a set, or none of them.
use Rattle.std.proofs.Common.{◌≡◌, refl, subst, ◌∙◌, ℕ, zero, suc, ◌+◌, ◌≤◌, Bool, true, false, ◌&&◌, List, [], ◌∷◌, length, arith}
use Rattle.std.specs.List.{list_all}
use Rattle.ess_semantics.specs.Values.{Text}
use Rattle.ess_semantics.proofs.Tests.{and-both}
use Rattle.conjure_model_laws.specs.ToldApart.{reserved}
use Rattle.ess_chain_names_laws.specs.Steps.{reserved_from, supply_at}
use Rattle.ess_given_conditions_laws.proofs.Assigned.{Assigned}
use Rattle.ess_given_kinds_laws.specs.ess_given_offers_laws.GivenOffers.{NoneIn}
use Rattle.ess_given_kinds_laws.specs.GivenKinds.{new_names}

-- So many that belong to the set, or don't.
abbrev pub repeated : Bool → ℕ → List Bool
repeated b zero = []
repeated b (suc k) = b ∷ repeated b k

-- Three names, and k for components.
abbrev pub taken : Bool → ℕ → List Bool
taken b k = b ∷ b ∷ b ∷ repeated b k

-- How many they are.
pub repeated-number : (b : Bool) (k : ℕ) → length (repeated b k) ≡ k
repeated-number b zero = refl
repeated-number b (suc k) = let r = repeated-number b k in omega (arith, r)

-- They fit below m.
pub taken-fit : (n k m t : ℕ) → t ≡ k → n + 3 + k ≤ m → n + suc (suc (suc t)) ≤ m
taken-fit n k m t p l = omega (arith, p, l)

module _ (v : Text → Bool) where
  -- All reserved names from the n-th on are of v, or none.
  pub all-true : (n k : ℕ) (b : Bool) → b ≡ true → Assigned v n (repeated b k) → list_all v (reserved_from n k) ≡ true
  all-true n zero b q h = refl
  all-true n (suc k) b q h =
      and-both (v (reserved n)) (list_all v (reserved_from (suc n) k)) (h.0 ∙ q) (all-true (suc n) k b q h.1)

  -- None is.
  pub none-true : (n k : ℕ) (b : Bool) → b ≡ false → Assigned v n (repeated b k) → NoneIn v (reserved_from n k)
  none-true n zero b q h = tt
  none-true n (suc k) b q h = (h.0 ∙ q, none-true (suc n) k b q h.1)

  at-number : (i j : ℕ) (b : Bool) → i ≡ j → v (reserved i) ≡ b → v (reserved j) ≡ b
  at-number i j b q h = subst (λ x. v (reserved x) ≡ b) q h

  behind-three : (n k : ℕ) (b : Bool) → Assigned v (suc (suc (suc n))) (repeated b k) → Assigned v (n + 3) (repeated b k)
  behind-three n k b h = subst (λ x. Assigned v x (repeated b k)) three h
    where
      three : suc (suc (suc n)) ≡ n + 3
      three = omega arith

  -- All names that a step takes are of v, or none.
  pub all-new : (n k : ℕ) (b : Bool) → b ≡ true → Assigned v n (taken b k) → list_all v (new_names (supply_at n k)) ≡ true
  all-new n k b q h =
      let ps = list_all v (reserved_from (n + 3) k) in
      and-both (v (reserved n)) (v (reserved (n + 1)) && (v (reserved (n + 2)) && ps)) (h.0 ∙ q)
      (and-both (v (reserved (n + 1))) (v (reserved (n + 2)) && ps) (at-number (suc n) (n + 1) b (omega arith) h.1.0 ∙ q)
      (and-both (v (reserved (n + 2))) ps (at-number (suc (suc n)) (n + 2) b (omega arith) h.1.1.0 ∙ q)
      (all-true (n + 3) k b q (behind-three n k b h.1.1.1))))

  -- None is.
  pub none-new : (n k : ℕ) (b : Bool) → b ≡ false → Assigned v n (taken b k) → NoneIn v (new_names (supply_at n k))
  none-new n k b q h = (
    h.0 ∙ q,
    (
      at-number (suc n) (n + 1) b (omega arith) h.1.0 ∙ q,
      (
        at-number (suc (suc n)) (n + 2) b (omega arith) h.1.1.0 ∙ q,
        none-true (n + 3) k b q (behind-three n k b h.1.1.1),
      ),
    ),
  )
