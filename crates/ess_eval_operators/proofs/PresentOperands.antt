-- Operands, each with a value or none.
use Rattle.std.proofs.Common.{◌≡◌, refl, ap, sym, ◌∙◌, ℕ, zero, suc, ◌<◌, ◌≤◌, List, [], ◌∷◌, length, get_or, take, map, Option, Some, None, option_map, arith}
use Rattle.std.proofs.lemmas.List.{take_all}
use Rattle.ess_semantics.specs.Lists.{all_some, and_then}
use Rattle.ess_core.specs.declared.values.Val.{Val}
use Rattle.ess_core.specs.declared.values.Pair.{Pair}
use Rattle.ess_core.specs.ValueViews.{pure_val, pure_pair}

-- Where one of the operands has no value, not all have one.
pub none_there : (os : List (Option Val)) (i : ℕ) (o : Option Val) → i < length os → o ≡ get_or os i o → o ≡ None
    → None ≡ all_some (map (option_map pure_val) os)
none_there [] i o h is n = absurd (omega arith)
none_there (p ∷ os) zero o h is n =
    sym (ap (λ q. and_then (option_map pure_val q) (λ x. option_map (λ xs. x ∷ xs) (all_some (map (option_map pure_val) os))))
    (sym is ∙ n))
none_there (p ∷ os) (suc i) o h is n = go p (sym (none_there os i o (omega arith) is n))
  where
    go : (p : Option Val) → all_some (map (option_map pure_val) os) ≡ None → None ≡ all_some (map (option_map pure_val) (p ∷ os))
    go None e = refl
    go (Some x) e = sym (ap (option_map (λ xs. pure_val x ∷ xs)) e)

-- Operands with the values of a list.
pub all_given : (os : List (Option Val)) (vs : List Val) → os ≡ map Some vs
    → Some (map pure_val vs) ≡ all_some (map (option_map pure_val) os)
all_given os vs e = go vs ∙ ap (λ l. all_some (map (option_map pure_val) l)) (sym e)
  where
    go : (vs : List Val) → Some (map pure_val vs) ≡ all_some (map (option_map pure_val) (map Some vs))
    go [] = refl
    go (v ∷ vs) = ap (option_map (λ xs. pure_val v ∷ xs)) (go vs)

-- ---- the same of pairs

pub none_there_pair : (os : List (Option Pair)) (i : ℕ) (o : Option Pair) → i < length os → o ≡ get_or os i o → o ≡ None
    → None ≡ all_some (map (option_map pure_pair) os)
none_there_pair [] i o h is n = absurd (omega arith)
none_there_pair (p ∷ os) zero o h is n =
    sym (ap (λ q. and_then (option_map pure_pair q) (λ x. option_map (λ xs. x ∷ xs) (all_some (map (option_map pure_pair) os))))
    (sym is ∙ n))
none_there_pair (p ∷ os) (suc i) o h is n = go p (sym (none_there_pair os i o (omega arith) is n))
  where
    go : (p : Option Pair) → all_some (map (option_map pure_pair) os) ≡ None → None ≡ all_some (map (option_map pure_pair) (p ∷ os))
    go None e = refl
    go (Some x) e = sym (ap (option_map (λ xs. pure_pair x ∷ xs)) e)

pub all_given_pair : (os : List (Option Pair)) (vs : List Pair) → os ≡ map Some vs
    → Some (map pure_pair vs) ≡ all_some (map (option_map pure_pair) os)
all_given_pair os vs e = go vs ∙ ap (λ l. all_some (map (option_map pure_pair) l)) (sym e)
  where
    go : (vs : List Pair) → Some (map pure_pair vs) ≡ all_some (map (option_map pure_pair) (map Some vs))
    go [] = refl
    go (v ∷ vs) = ap (option_map (λ xs. pure_pair v ∷ xs)) (go vs)

pub all_taken : (os : List (Option Val)) (vs : List Val) (i : ℕ) → length os ≤ i → map Some vs ≡ take i os
    → Some (map pure_val vs) ≡ all_some (map (option_map pure_val) os)
all_taken os vs i h e = all_given os vs (sym (e ∙ take_all i os h))

pub all_taken_pair : (os : List (Option Pair)) (vs : List Pair) (i : ℕ) → length os ≤ i → map Some vs ≡ take i os
    → Some (map pure_pair vs) ≡ all_some (map (option_map pure_pair) os)
all_taken_pair os vs i h e = all_given_pair os vs (sym (e ∙ take_all i os h))

pub ruleset operands = (none_there, all_taken, none_there_pair, all_taken_pair)
