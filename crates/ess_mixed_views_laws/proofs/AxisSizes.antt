-- How many slots a declared axis has: the number of the term of numerals that it goes up to. Of an axis that isn't one of slots it is 0.
use Rattle.std.proofs.Common.{◌≡◌, refl, sym, ap, ◌∙◌, subst, ℕ, zero, suc, ◌+◌, ◌≤◌, ◌^◌, Bool, true, false, if◌then◌else◌, List, [], ◌∷◌, ℤ, pos, negsuc, ◌+ℤ◌, ◌-ℤ◌, ◌<ℤ◌, Option, Some, None, option_map, arith}
use Rattle.std.proofs.lemmas.Int.{ints}
use Rattle.std.specs.Ordering.{MatchOrdering, int_cmp}
use Rattle.std.specs.Cmp.{int_ranks}
use Rattle.std.specs.declared.cmp.Ordering.{Ordering}
use Rattle.std.specs.declared.cmp.Ordering.TheVariants.{Less, Equal, Greater}
use Rattle.ess_semantics.specs.declared.words.Op2.{Op2}
use Rattle.ess_semantics.specs.declared.words.Key.{Key}
use Rattle.ess_semantics.specs.Lists.{or_else, or_default}
use Rattle.ess_semantics.specs.Domains.{same_key}
use Rattle.ess_semantics.specs.Trees.{both_ends, Mark, Repr, Ex, Exs, number_ex, no_exs, more_exs, Dom, int_dom, set_dom, ex2}
use Rattle.ess_repr_declare_laws.specs.SizeTerms.{is_numeral, span_ex, span_by, next_ex, number_of, greatest_size_of, bound_ex, slots_ex}
use Rattle.ess_nested_laws.proofs.NestedForms.{written_range, Sizes, no_sizes, one_size, WrittenAtom, written_truths, written_numbers, KeptAs, as_atom, by_occurrence, with_a_dummy, in_slots, with_a_marker, with_flags}
use Rattle.ess_mixed_models_laws.specs.ess_seen_laws.Seen.{Counted, so_many, from_to, from_0, subsets}

-- ---- terms of numerals

-- A term of numerals as domains of nested sets tell how many slots there are, and the number that it is.
pub data SlotTerm : Ex → ℕ → Type 0 where
  numeral_term : {n : ℕ} → SlotTerm (number_ex (pos n)) n
  next_term : {b : ℕ} → SlotTerm (ex2 false Op2.Plus (number_ex (pos b)) (number_ex (pos 1))) (suc b)
  span_term : {a b n : ℕ} → suc b ≡ a + n →
      SlotTerm (ex2 false Op2.Plus (ex2 false Op2.Minus (number_ex (pos 1)) (number_ex (pos a))) (number_ex (pos b))) n
  power_term : {t : Ex} {n : ℕ} → SlotTerm t n → SlotTerm (ex2 false Op2.Pow (number_ex (pos 2)) t) (2 ^ n)

-- It is counted.
pub slot-counted : {t : Ex} {n : ℕ} → SlotTerm t n → Counted t n
slot-counted numeral_term = so_many
slot-counted next_term = from_0
slot-counted (span_term q) = from_to q
slot-counted (power_term w) = subsets (slot-counted w)

-- The number of a natural one.
abbrev natural_of : ℤ → Option ℕ
natural_of (pos n) = Some n
natural_of (negsuc n) = None

-- The number of a sum of two operands.
abbrev sum_of : Ex → Ex → Option ℕ
sum_of (number_ex (pos b)) (number_ex (pos (suc zero))) = Some (suc b)
sum_of (ex2 false Op2.Minus (number_ex (pos (suc zero))) (number_ex (pos a))) (number_ex (pos b)) = natural_of ((pos 1 -ℤ pos a) +ℤ pos b)
sum_of x y = None

-- The number of such a term.
abbrev pub count_of : Ex → Option ℕ
count_of (number_ex (pos n)) = Some n
count_of (ex2 false Op2.Plus x y) = sum_of x y
count_of (ex2 false Op2.Pow (number_ex (pos (suc (suc zero)))) t) = option_map (λ n. 2 ^ n) (count_of t)
count_of e = None

-- How many slots the axis has.
abbrev pub axis_size : Dom → ℕ
axis_size (int_dom (both_ends ∷ []) (more_exs (number_ex (pos (suc zero))) (more_exs t no_exs))) = or_default (count_of t) 0
axis_size d = 0

no-number : {n : ℕ} → None ≡ Some n → ⊥
no-number q = cc

one-number : (m n : ℕ) → Some m ≡ Some n → m ≡ n
one-number m n q = cc

-- ---- from the term to its number

span-number : (a b n : ℕ) → suc b ≡ a + n → (pos 1 -ℤ pos a) +ℤ pos b ≡ pos n
span-number a b n q = omega (arith, ints)

pub count-is : {t : Ex} {n : ℕ} → SlotTerm t n → count_of t ≡ Some n
count-is numeral_term = refl
count-is next_term = refl
count-is (span_term {a = a} {b = b} {n = n} q) = ap natural_of (span-number a b n q)
count-is (power_term w) = ap (option_map (λ n. 2 ^ n)) (count-is w)

-- ---- from the number to the term

number-span : (a b n : ℕ) → (pos 1 -ℤ pos a) +ℤ pos b ≡ pos n → suc b ≡ a + n
number-span a b n q = omega (arith, ints, q)

sum-term : (x y : Ex) (n : ℕ) → sum_of x y ≡ Some n → SlotTerm (ex2 false Op2.Plus x y) n
sum-term (number_ex (pos b)) (number_ex (pos (suc zero))) n q =
    subst (SlotTerm (ex2 false Op2.Plus (number_ex (pos b)) (number_ex (pos 1)))) (one-number (suc b) n q) next_term
sum-term (ex2 false Op2.Minus (number_ex (pos (suc zero))) (number_ex (pos a))) (number_ex (pos b)) n q =
    go ((pos 1 -ℤ pos a) +ℤ pos b) refl q
  where
    go : (z : ℤ) → (pos 1 -ℤ pos a) +ℤ pos b ≡ z → natural_of z ≡ Some n →
        SlotTerm (ex2 false Op2.Plus (ex2 false Op2.Minus (number_ex (pos 1)) (number_ex (pos a))) (number_ex (pos b))) n
    go (pos k) e q = span_term (number-span a b n (e ∙ ap pos (one-number k n q)))
    go (negsuc k) e q = absurd (no-number q)
sum-term x y n q = absurd (no-number q)

-- Each term with a number is such a one.
pub count-term : (t : Ex) (n : ℕ) → count_of t ≡ Some n → SlotTerm t n
count-term (number_ex (pos k)) n q = subst (SlotTerm (number_ex (pos k))) (one-number k n q) numeral_term
count-term (ex2 false Op2.Plus x y) n q = sum-term x y n q
count-term (ex2 false Op2.Pow (number_ex (pos (suc (suc zero)))) t) n q = go (count_of t) q (count-term t)
  where
    go : (o : Option ℕ) → option_map (λ k. 2 ^ k) o ≡ Some n → ((k : ℕ) → o ≡ Some k → SlotTerm t k) →
        SlotTerm (ex2 false Op2.Pow (number_ex (pos 2)) t) n
    go None q f = absurd (no-number q)
    go (Some k) q f = subst (SlotTerm (ex2 false Op2.Pow (number_ex (pos 2)) t)) (one-number (2 ^ k) n q) (power_term (f k refl))
count-term e n q = absurd (no-number q)

-- ---- slots of nested sets

-- Some number is that of the term.
pub record HasSlots (t : Ex) : Type 0 where
  pub slots : ℕ
  pub term : SlotTerm t slots

numeral-slots : (n : ℕ) → HasSlots (number_ex (pos n))
numeral-slots n = record { slots = n; term = numeral_term }

choice : (b : Bool) (x y : Ex) → HasSlots x → HasSlots y → HasSlots (if b then x else y)
choice true x y p q = p
choice false x y p q = q

rest-of : (a b : ℕ) → a ≤ b → (n : ℕ) × (b ≡ a + n)
rest-of zero b p = (b, omega arith)
rest-of (suc a) zero p = absurd (omega (arith, p))
rest-of (suc a) (suc b) p = let r = rest-of a b (omega (arith, p)) in let e : b ≡ a + r.0 = r.1 in (r.0, omega (arith, e))

span-slots : (a b : ℕ) → a ≤ suc b → HasSlots (span_ex (number_ex (pos a)) (number_ex (pos b)))
span-slots a b p =
    choice (is_numeral (pos 0) (number_ex (pos a))) (next_ex (number_ex (pos b)))
    (if is_numeral (pos 1) (number_ex (pos a)) then number_ex (pos b)
    else ex2 false Op2.Plus (ex2 false Op2.Minus (number_ex (pos 1)) (number_ex (pos a))) (number_ex (pos b)))
    (record { slots = suc b; term = next_term })
    (choice (is_numeral (pos 1) (number_ex (pos a))) (number_ex (pos b))
    (ex2 false Op2.Plus (ex2 false Op2.Minus (number_ex (pos 1)) (number_ex (pos a))) (number_ex (pos b)))
    (numeral-slots b) (let r = rest-of a (suc b) p in record { slots = r.0; term = span_term r.1 }))

below-it : (a b : ℕ) → int_cmp (pos a) (pos b) ≡ Less → a ≤ suc b
below-it a b q =
    let p : pos a <ℤ pos b = subst (λ r. MatchOrdering r (pos a <ℤ pos b) (pos a ≡ pos b) (pos b <ℤ pos a)) q (int_ranks (pos a) (pos b)) in
    omega (arith, ints, p)

between-slots : (o : Ordering) (a b : ℕ) → int_cmp (pos a) (pos b) ≡ o → HasSlots (span_by (Some o) (number_ex (pos a)) (number_ex (pos b)))
between-slots Less a b q = span-slots a b (below-it a b q)
between-slots Equal a b q = numeral-slots 1
between-slots Greater a b q = numeral-slots 0

atom-slots : {d : Dom} → WrittenAtom d → HasSlots (bound_ex d)
atom-slots written_truths = numeral-slots 2
atom-slots (written_numbers {a = a} {b = b}) = between-slots (int_cmp (pos a) (pos b)) a b refl

power-slots : (t : Ex) → HasSlots t → HasSlots (ex2 false Op2.Pow (number_ex (pos 2)) t)
power-slots t w = record { slots = 2 ^ w.slots; term = power_term w.term }

-- The bound of a domain that is kept.
pub kept-slots : {r : Repr} {d : Dom} → KeptAs r d → HasSlots (bound_ex d)
kept-slots (as_atom a) = atom-slots a
kept-slots (by_occurrence {d = d} s a) = power-slots (bound_ex d) (atom-slots a)
kept-slots (with_a_dummy {a = a} {b = b} s) = power-slots _ (atom-slots (written_numbers {a = a} {b = b}))
kept-slots (in_slots {d = d} s k w) = power-slots (bound_ex d) (kept-slots w)
kept-slots (with_a_marker {d = d} s w) = power-slots (bound_ex d) (kept-slots w)
kept-slots (with_flags {d = d} s w) = power-slots (bound_ex d) (kept-slots w)

-- The number of an attribute, if there is one.
data Digits : Option Ex → Type 0 where
  no_digits : Digits None
  some_digits : {n : ℕ} → Digits (Some (number_ex (pos n)))

choose-digits : (b : Bool) (o p : Option Ex) → Digits o → Digits p → Digits (if b then o else p)
choose-digits true o p w v = w
choose-digits false o p w v = v

sizes-digits : (k : Key) {ms : List Mark} {es : Exs} → Sizes ms es → Digits (number_of k ms es)
sizes-digits k no_sizes = no_digits
sizes-digits k (one_size {k = j} {n = n} {ms = ms} {es = es} h s) =
    choose-digits (same_key j k) (Some (number_ex (pos n))) (number_of k ms es) some_digits (sizes-digits k s)

else-digits : (o p : Option Ex) → Digits o → Digits p → Digits (or_else o p)
else-digits o p no_digits v = v
else-digits o p some_digits v = some_digits

default-slots : (o : Option Ex) (e : Ex) → Digits o → HasSlots e → HasSlots (or_default o e)
default-slots o e no_digits v = v
default-slots o e (some_digits {n = n}) v = numeral-slots n

-- The slots of sets with written sizes over such a bound.
set-slots : {ms : List Mark} {es : Exs} (d : Dom) → Sizes ms es → HasSlots (bound_ex d) → HasSlots (slots_ex (set_dom ms es d))
set-slots {ms} {es} d s w =
    default-slots (greatest_size_of ms es) (bound_ex d)
    (else-digits (number_of Key.Size ms es) (number_of Key.MaxSize ms es) (sizes-digits Key.Size s) (sizes-digits Key.MaxSize s)) w

-- So many slots as the axis of them tells.
slots-of : (t : Ex) → HasSlots t → Counted t (or_default (count_of t) 0)
slots-of t w = subst (Counted t) (sym (ap (λ o. or_default o 0) (count-is w.term))) (slot-counted w.term)

pub slots-counted : {ms : List Mark} {es : Exs} (d : Dom) → Sizes ms es → HasSlots (bound_ex d) →
    Counted (slots_ex (set_dom ms es d)) (or_default (count_of (slots_ex (set_dom ms es d))) 0)
slots-counted {ms} {es} d s w = slots-of (slots_ex (set_dom ms es d)) (set-slots d s w)

-- The slots of numbers between two that are written.
pub dummy-counted : {ms : List Mark} {es : Exs} (a b : ℕ) → Sizes ms es →
    Counted (slots_ex (set_dom ms es (written_range a b))) (or_default (count_of (slots_ex (set_dom ms es (written_range a b)))) 0)
dummy-counted a b s = slots-counted (written_range a b) s (atom-slots (written_numbers {a = a} {b = b}))
