-- Numbers of slots: a term of numerals that is a number has it as its value, no name stands in it, and what a name over slots takes are the
-- numbers of these.
use Rattle.std.proofs.Common.{◌≡◌, refl, sym, ap, ◌∙◌, subst, ℕ, zero, suc, ◌+◌, ◌≤◌, ◌^◌, Bool, false, if◌then◌else◌, [], ◌∷◌, map, pos, ◌+ℤ◌, ◌-ℤ◌, Option, Some, arith}
use Rattle.std.proofs.lemmas.Int.{ints}
use Rattle.std.specs.Int.{int_pow}
use Rattle.std.specs.Cmp.{int_cmp_is}
use Rattle.std.specs.Ordering.{int_cmp, is_lt}
use Rattle.std.specs.declared.cmp.Ordering.TheVariants.{Greater}
use Rattle.ess_semantics.specs.declared.words.Op2.{Op2}
use Rattle.ess_semantics.specs.declared.words.Fun.{Fun}
use Rattle.ess_semantics.specs.Values.{Text, Value, number}
use Rattle.ess_semantics.specs.Order.{below}
use Rattle.ess_semantics.specs.Numbers.{run_from}
use Rattle.ess_semantics.specs.Operators.{value_of_node, false_where_undefined}
use Rattle.ess_semantics.specs.Trees.{binary, word, matrix_literal, Ex}
use Rattle.ess_semantics.specs.Meaning.{Env, meaning, domain_of, members_in}
use Rattle.ess_semantics.specs.Substitution.{substitute, NamesAre}
use Rattle.ess_semantics.specs.FreeNames.{FreeNamesAre}
use Rattle.ess_semantics.specs.Contexts.{Each, EachOf}
use Rattle.ess_rules_laws.specs.SlotListings.{slots_dom}
use Rattle.ess_rules_laws.proofs.SlotNumbers.{slots-members}
use Rattle.ess_seen_laws.specs.Seen.{Counted, so_many, from_to, from_0, subsets, none_below}

-- ---- names

-- What is put into such a term leaves it such a term.
pub counted-put : {e : Ex} {n : ℕ} (f : Text → Ex) → Counted e n → Counted (substitute f e) n
counted-put f so_many = so_many
counted-put f (from_to q) = from_to q
counted-put f from_0 = from_0
counted-put f (subsets c) = subsets (counted-put f c)
counted-put f (none_below c) = none_below (counted-put f c)

-- No name stands in it.
pub counted-named : {e : Ex} {n : ℕ} (u b : Text → Bool) → Counted e n → NamesAre u b e
counted-named u b so_many = tt
counted-named u b (from_to q) = ((tt, (tt, tt)), (tt, tt))
counted-named u b from_0 = (tt, (tt, tt))
counted-named u b (subsets c) = (tt, (counted-named u b c, tt))
counted-named u b (none_below c) = ((counted-named u b c, (tt, tt)), tt)

-- No name is free in it.
pub counted-free : {e : Ex} {n : ℕ} (u : Text → Bool) → Counted e n → FreeNamesAre u e
counted-free u so_many = tt
counted-free u (from_to q) = ((tt, (tt, tt)), (tt, tt))
counted-free u from_0 = (tt, (tt, tt))
counted-free u (subsets c) = (tt, (counted-free u c, tt))
counted-free u (none_below c) = ((counted-free u c, (tt, tt)), tt)

-- ---- values

-- The value of a power of 2, and of the greater of a number and 0.
abbrev on_power : Option Value → Option Value
on_power o = false_where_undefined false (value_of_node (binary Op2.Pow) (Some (number (pos 2)) ∷ o ∷ []))

abbrev on_greater : Option Value → Option Value
on_greater o =
    false_where_undefined false (value_of_node (word Fun.Max)
    (false_where_undefined false (value_of_node matrix_literal (o ∷ Some (number (pos 0)) ∷ [])) ∷ []))

from-to : (a b n : ℕ) → suc b ≡ a + n → (pos 1 -ℤ pos a) +ℤ pos b ≡ pos n
from-to a b n q = omega (arith, ints)

next : (b : ℕ) → pos b +ℤ pos 1 ≡ pos (suc b)
next b = omega (arith, ints)

int-pow : (n : ℕ) → int_pow (pos 2) n ≡ pos (2 ^ n)
int-pow n = refl

not-below-0 : (n : ℕ) → (if below (number (pos n)) (number (pos 0)) then number (pos 0) else number (pos n)) ≡ number (pos n)
not-below-0 zero = refl
not-below-0 (suc n) =
    let l : int_cmp (pos (suc n)) (pos 0) ≡ Greater = sym (int_cmp_is (pos (suc n)) (pos 0) Greater (omega (arith, ints))) in
    ap (λ o. if is_lt o then number (pos 0) else number (pos (suc n))) l

-- Such a term has the number as its value, under each env.
pub counted-means : {e : Ex} {n : ℕ} → Counted e n → (env : Env) → meaning e env ≡ Some (number (pos n))
counted-means so_many env = refl
counted-means (from_to {a = a} {b = b} {n = n} q) env = ap (λ k. Some (number k)) (from-to a b n q)
counted-means (from_0 {b = b}) env = ap (λ k. Some (number k)) (next b)
counted-means (subsets {n = n} c) env = ap on_power (counted-means c env) ∙ ap (λ k. Some (number k)) (int-pow n)
counted-means (none_below {n = n} c) env = ap on_greater (counted-means c env) ∙ ap Some (not-below-0 n)

-- ---- slots

run-each : (P : Value → Type 0) (a n : ℕ) → ((i : ℕ) → a ≤ i → suc i ≤ a + n → P (number (pos i))) → Each (map number (run_from a n)) P
run-each P a zero f = tt
run-each P a (suc n) f = (
  f a (omega arith) (omega arith),
  run-each P (suc a) n (λ i l h. f i (lower i l) (higher i h)),
)
  where
    lower : (i : ℕ) → suc a ≤ i → a ≤ i
    lower i l = omega arith

    higher : (i : ℕ) → suc i ≤ suc a + n → suc i ≤ a + suc n
    higher i h = omega arith

-- What is so of the number of each slot is so of each value that a name over the slots takes.
pub slots-each : {e : Ex} {k : ℕ} (P : Value → Type 0) → Counted e k → (env : Env) →
    ((i : ℕ) → 1 ≤ i → i ≤ k → P (number (pos i))) → EachOf (members_in (domain_of (slots_dom e) env)) P
slots-each {e} {k} P c env f =
    subst (λ o. EachOf o P) (sym (slots-members e env k (counted-means c env))) (run-each P 1 k (λ i l h. f i l (below-next i h)))
  where
    below-next : (i : ℕ) → suc i ≤ 1 + k → i ≤ k
    below-next i h = omega arith
