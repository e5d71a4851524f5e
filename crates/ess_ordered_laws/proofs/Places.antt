-- The members of the domain of an atom, numbered from 1: each has one member less below it than its number says.
use Rattle.std.proofs.Common.{◌≡◌, refl, sym, ap, ◌∙◌, ℕ, suc, ◌+◌, Bool, true, false, ◌||◌, if◌then◌else◌, List, [], ◌∷◌, ◌++◌, map, ℤ, pos, negsuc, ◌+ℤ◌, ◌-ℤ◌, Option, Some, None, option_map, arith}
use Rattle.std.proofs.lemmas.Bool.Decides.{Decides-int_eq}
use Rattle.std.proofs.lemmas.Cmp.{tied_itself}
use Rattle.std.proofs.lemmas.Int.{ints}
use Rattle.std.specs.Ordering.{is_lt}
use Rattle.ess_semantics.specs.Lists.{list_or_none}
use Rattle.ess_semantics.specs.Values.{Value, number, itself}
use Rattle.ess_semantics.specs.Order.{same, below}
use Rattle.ess_semantics.specs.Collections.{holds, rises, sorted_once}
use Rattle.ess_semantics.specs.Numbers.{natural, run_from}
use Rattle.ess_semantics.specs.Trees.{both_ends, Ex, number_ex, more_exs, no_exs, Dom, int_dom}
use Rattle.ess_semantics.specs.Domains.{Domain, integers, numbers_up}
use Rattle.ess_semantics.specs.Operators.{number_in}
use Rattle.ess_semantics.specs.Meaning.{Env, meaning, domain_of, members_in, spans_of}
use Rattle.ess_semantics.proofs.Tests.{and-left, and-right, or-yes}
use Rattle.ess_semantics.proofs.Orders.{order_total, same-equal, same-itself}
use Rattle.ess_semantics.proofs.Sorting.{below-less, less-below}
use Rattle.ess_repr_laws.proofs.AllMembersListed.{domain-listed}
use Rattle.ess_rules_laws.specs.SlotListings.{slots_dom}
use Rattle.ess_rules_laws.proofs.SlotNumbers.{slots-members}
use Rattle.ess_kinds_kept_laws.proofs.PlacesBelow.{below_count}
use Rattle.ess_ordered_laws.specs.NumberedItems.{is_one, is_from_one}

no : {A : Type 0} → false ≡ true → A
no h = cc

-- ---- order

-- The members of a domain rise.
pub members-rise : (o : Option Domain) (vs : List Value) → members_in o ≡ Some vs → rises itself vs ≡ true
members-rise None vs q = cc
members-rise (Some c) vs q = ap (rises itself) (sym (ap list_or_none q)) ∙ (domain-listed c).sorted

below-through : (a b c : Value) → below a b ≡ true → below b c ≡ true → below a c ≡ true
below-through a b c p q = less-below a c (order_total.trans a b c (below-less a b p) (below-less b c q))

-- No value is below itself.
pub never-below-itself : (v : Value) → below v v ≡ false
never-below-itself v = ap is_lt (tied_itself order_total v)

-- The first of a list that rises is below all others.
pub first-below : (u : Value) (us : List Value) → rises itself (u ∷ us) ≡ true → (v : Value) → holds us v ≡ true → below u v ≡ true
first-below u [] r v h = no h
first-below u (y ∷ ys) r v h = go (same y v) refl h (first-below y ys (and-right (below u y) _ r) v)
  where
    go : (b : Bool) → same y v ≡ b → b || holds ys v ≡ true → (holds ys v ≡ true → below y v ≡ true) → below u v ≡ true
    go true e h k = ap (below u) (sym (same-equal y v e)) ∙ and-left (below u y) _ r
    go false e h k = below-through u y v (and-left (below u y) _ r) (k h)

-- What rises does so behind its first item.
pub rest-rises : (u : Value) (us : List Value) → rises itself (u ∷ us) ≡ true → rises itself us ≡ true
rest-rises u [] r = refl
rest-rises u (y ∷ ys) r = and-right (below u y) _ r

-- None of those behind an item is below it.
none-below : (u : Value) (us : List Value) → rises itself (u ∷ us) ≡ true → (ys : List Value) →
    ((v : Value) → holds ys v ≡ true → holds us v ≡ true) → below_count ys u ≡ 0
none-below u us r [] s = refl
none-below u us r (y ∷ ys) s = ap (λ b. if b then suc (below_count ys u) else below_count ys u) (go (below y u) refl)
    ∙ none-below u us r ys (λ v h. s v (ap (λ b. same y v || b) h ∙ or-yes (same y v)))
  where
    go : (b : Bool) → below y u ≡ b → b ≡ false
    go true e = no (sym (never-below-itself u)
        ∙ below-through u y u (first-below u us r y (s y (ap (λ b. b || holds ys y) (same-itself y)))) e)
    go false e = refl

-- ---- numbers of values

-- f numbers the values from k on.
abbrev pub Numbered : (Value → ℕ) → ℕ → List Value → Type 0
Numbered f k [] = Unit {0}
Numbered f k (v ∷ vs) = (f v ≡ k) × Numbered f (suc k) vs

-- So does what is the same at each of them.
same-numbers : (f g : Value → ℕ) (vs : List Value) (k : ℕ) → ((v : Value) → holds vs v ≡ true → f v ≡ g v) → Numbered f k vs → Numbered g k vs
same-numbers f g [] k h n = tt
same-numbers f g (v ∷ vs) k h n = (
  sym (h v (ap (λ b. b || holds vs v) (same-itself v))) ∙ n.0,
  same-numbers f g vs (suc k) (λ u q. h u (ap (λ b. same v u || b) q ∙ or-yes (same v u))) n.1,
)

-- How many are below, of values that rise.
pub ranked : (us : List Value) → rises itself us ≡ true → (k : ℕ) → Numbered (λ v. k + below_count us v) k us
ranked [] r k = tt
ranked (u ∷ us) r k = (
  ap (λ n. k + n) (ap (λ b. if b then suc (below_count us u) else below_count us u) (never-below-itself u) ∙ none-below u us r us (λ v h. h))
      ∙ (let e : k + 0 ≡ k = omega arith in e),
  same-numbers (λ v. suc k + below_count us v) (λ v. k + below_count (u ∷ us) v) us (suc k)
      (λ v h. (let e : suc k + below_count us v ≡ k + suc (below_count us v) = omega arith in e)
      ∙ sym (ap (λ b. k + (if b then suc (below_count us v) else below_count us v)) (first-below u us r v h)))
      (ranked us (rest-rises u us r) (suc k)),
)

-- ---- one range from 1

-- The members of `int(1..n)`, whatever n is.
one-up : (z : ℤ) (env : Env) (vs : List Value) → members_in (domain_of (slots_dom (number_ex z)) env) ≡ Some vs → (n : ℕ) × (vs ≡ map number (run_from 1 n))
one-up (pos n) env vs q = (n, let e : Some vs ≡ Some (map number (run_from 1 n)) = sym q ∙ slots-members (number_ex (pos n)) env n refl in cc)
one-up (negsuc n) env vs q = (
  0,
  let h : Some [] ≡ Some vs = sym (ap (λ z. Some (sorted_once (numbers_up (pos 1) (natural z) ++ [])))
      (let e : (negsuc n -ℤ pos 1) +ℤ pos 1 ≡ negsuc n = omega (arith, ints) in e)) ∙ q in cc,
)

one-range : (a n : Ex) (env : Env) (vs : List Value) → is_one a ≡ true
    → members_in (domain_of (int_dom (both_ends ∷ []) (more_exs a (more_exs n no_exs))) env) ≡ Some vs
    → (m : ℕ) × (vs ≡ map number (run_from 1 m))
one-range (number_ex z) n env vs h q = go (meaning n env)
    (ap (λ y. members_in (domain_of (int_dom (both_ends ∷ []) (more_exs (number_ex y) (more_exs n no_exs))) env)) (sym ((Decides-int_eq z (pos 1)).0 h)) ∙ q)
  where
    go : (o : Option Value) → members_in (option_map integers (spans_of (both_ends ∷ []) (Some (number (pos 1)) ∷ o ∷ []))) ≡ Some vs
        → (m : ℕ) × (vs ≡ map number (run_from 1 m))
    go None q = cc
    go (Some v) q = one-up (number_in v) env vs q
one-range _ n env vs h q = no h

-- The same of a domain that is one range from 1.
pub from-one : (d : Dom) (env : Env) (vs : List Value) → is_from_one d ≡ true → members_in (domain_of d env) ≡ Some vs
    → (m : ℕ) × (vs ≡ map number (run_from 1 m))
from-one (int_dom (both_ends ∷ []) (more_exs a (more_exs n no_exs))) env vs h q = one-range a n env vs h q
from-one _ env vs h q = no h
