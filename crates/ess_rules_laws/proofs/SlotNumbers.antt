-- The numbers of slots: the members of `int(1..n)`, and the slots that a test leaves.
use Rattle.std.proofs.Common.{◌≡◌, refl, sym, ap, ◌∙◌, ℕ, zero, suc, true, List, [], ◌∷◌, ◌++◌, map, ℤ, pos, ◌<ℤ◌, ◌+ℤ◌, ◌-ℤ◌, Some, option_map, arith}
use Rattle.std.proofs.lemmas.Int.{ints}
use Rattle.std.specs.Ordering.{is_lt}
use Rattle.std.specs.Cmp.{int_cmp_is}
use Rattle.std.specs.declared.cmp.Ordering.TheVariants.{Less}
use Rattle.ess_semantics.specs.Values.{Value, number, itself}
use Rattle.ess_semantics.specs.Order.{below}
use Rattle.ess_semantics.specs.Collections.{rises, sorted_once}
use Rattle.ess_semantics.specs.Numbers.{natural, run_from, one_to}
use Rattle.ess_semantics.specs.Trees.{both_ends, Ex}
use Rattle.ess_semantics.specs.Domains.{integers, numbers_up, interval, lists_of}
use Rattle.ess_semantics.specs.Meaning.{Env, meaning, domain_of, members_in, spans_of}
use Rattle.ess_semantics.proofs.Tests.{and-both}
use Rattle.ess_semantics.proofs.Sorting.{sorted_once-itself}
use Rattle.ess_rules_laws.specs.SlotListings.{slots_dom}

-- A slot as a place.
abbrev pub as_place : ℤ → List ℤ
as_place k = k ∷ []

-- The places of slots are their numbers.
pub slots-are : (ks : List ℤ) → lists_of (ks ∷ []) ≡ map as_place ks
slots-are [] = refl
slots-are (k ∷ ks) = ap (λ l. (k ∷ []) ∷ l) (slots-are ks)

up-run : (a n : ℕ) → numbers_up (pos a) n ≡ map number (run_from a n)
up-run a zero = refl
up-run a (suc n) = ap (λ z. number (pos a) ∷ numbers_up z n) (let e : pos a +ℤ pos 1 ≡ pos (suc a) = omega (arith, ints) in e)
    ∙ ap (λ l. number (pos a) ∷ l) (up-run (suc a) n)

less : (a : ℕ) → pos a <ℤ pos (suc a)
less a = omega (arith, ints)

run-rises : (a n : ℕ) → rises itself (map number (run_from a n)) ≡ true
run-rises a zero = refl
run-rises a (suc zero) = refl
run-rises a (suc (suc n)) = and-both (below (number (pos a)) (number (pos (suc a)))) (rises itself (map number (run_from (suc a) (suc n))))
    (ap is_lt (sym (int_cmp_is (pos a) (pos (suc a)) Less (less a)))) (run-rises (suc a) (suc n))

interval-run : (n : ℕ) → interval (pos 1) (pos n) ≡ map number (one_to n)
interval-run n = ap (λ z. numbers_up (pos 1) (natural z)) (let e : (pos n -ℤ pos 1) +ℤ pos 1 ≡ pos n = omega (arith, ints) in e)
    ∙ up-run 1 n

append-nil : (xs : List Value) → xs ++ [] ≡ xs
append-nil [] = refl
append-nil (x ∷ xs) = ap (λ ys. x ∷ ys) (append-nil xs)

-- The members of `int(1..n)`.
pub slots-members : (e : Ex) (env : Env) (n : ℕ) → meaning e env ≡ Some (number (pos n)) → members_in (domain_of (slots_dom e) env) ≡
    Some (map number (one_to n))
slots-members e env n q =
    ap (λ o. members_in (option_map integers (spans_of (both_ends ∷ []) (Some (number (pos 1)) ∷ o ∷ [])))) q
    ∙ ap (λ l. Some (sorted_once l)) (append-nil (interval (pos 1) (pos n)) ∙ interval-run n)
    ∙ ap Some (sorted_once-itself (map number (one_to n)) (run-rises 1 n))
