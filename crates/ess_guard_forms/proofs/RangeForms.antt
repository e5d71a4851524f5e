-- What is said of domains by their ranges.
use Rattle.std.proofs.Common.{◌≡◌, refl, arith, false, ◌&&◌, List, [], ◌∷◌, ℕ, zero, suc, ◌-◌, ℤ, pos, ◌+ℤ◌, Some}
use Rattle.std.specs.Ordering.{int_eq}
use Rattle.ess_semantics.specs.Names.{Names}
use Rattle.ess_semantics.specs.Trees.{Ends, both_ends, Ex, Exs, number_ex, no_exs, more_exs, Dom, int_dom}
use Rattle.ess_guard_laws.specs.Origins.{Origin, same_ends, same_bounds, lies_within, is_sure}
use Rattle.ess_guard_laws.specs.Conditions.{has_size}
use Rattle.ess_guard_forms.specs.PartForms.{one_range, two_bounds, two_numbers, range_within, number_within, size_is}

-- ---- one domain within another

-- What is to be shown of two domains of numbers.
abbrev Within : List Ends → List Ends → Exs → Exs → Type 0
Within rs ss es fs = lies_within (int_dom rs es) (int_dom ss fs)
    ≡ range_within (two_numbers (two_bounds rs es)) (two_numbers (two_bounds ss fs)) (same_ends rs ss && same_bounds es fs)

-- The first is a range of numbers: then it depends on the second.
within-one : (a b : ℤ) (e : Ex) → Within (both_ends ∷ []) (both_ends ∷ []) (more_exs (number_ex a) (more_exs (number_ex b) no_exs)) (more_exs e no_exs)
within-one a b (number_ex c) = refl
within-one a b e = refl

within-two : (a b : ℤ) (e f : Ex)
    → Within (both_ends ∷ []) (both_ends ∷ []) (more_exs (number_ex a) (more_exs (number_ex b) no_exs)) (more_exs e (more_exs f no_exs))
within-two a b (number_ex c) (number_ex d) = refl
within-two a b e f = refl

within-more : (a b : ℤ) (e f g : Ex) (fs : Exs)
    → Within (both_ends ∷ []) (both_ends ∷ []) (more_exs (number_ex a) (more_exs (number_ex b) no_exs)) (more_exs e (more_exs f (more_exs g fs)))
within-more a b (number_ex c) (number_ex d) g fs = refl
within-more a b e f g fs = refl

within-numbers : (a b : ℤ) (ss : List Ends) (fs : Exs) → Within (both_ends ∷ []) ss (more_exs (number_ex a) (more_exs (number_ex b) no_exs)) fs
within-numbers a b (both_ends ∷ []) no_exs = refl
within-numbers a b (both_ends ∷ []) (more_exs e no_exs) = within-one a b e
within-numbers a b (both_ends ∷ []) (more_exs e (more_exs f no_exs)) = within-two a b e f
within-numbers a b (both_ends ∷ []) (more_exs e (more_exs f (more_exs g fs))) = within-more a b e f g fs
within-numbers a b ss fs = refl

-- The first may be one.
within-first : (ss : List Ends) (fs : Exs) (e : Ex) → Within (both_ends ∷ []) ss (more_exs e no_exs) fs
within-first ss fs (number_ex a) = refl
within-first ss fs e = refl

within-both : (ss : List Ends) (fs : Exs) (e f : Ex) → Within (both_ends ∷ []) ss (more_exs e (more_exs f no_exs)) fs
within-both ss fs (number_ex a) (number_ex b) = within-numbers a b ss fs
within-both ss fs e f = refl

within-many : (ss : List Ends) (fs : Exs) (e f g : Ex) (es : Exs) → Within (both_ends ∷ []) ss (more_exs e (more_exs f (more_exs g es))) fs
within-many ss fs (number_ex a) (number_ex b) g es = refl
within-many ss fs e f g es = refl

-- One domain of numbers lies within another by its numbers, else by its form.
pub within_ranges : (rs ss : List Ends) (es fs : Exs) → lies_within (int_dom rs es) (int_dom ss fs)
    ≡ range_within (two_numbers (two_bounds rs es)) (two_numbers (two_bounds ss fs)) (same_ends rs ss && same_bounds es fs)
within_ranges (both_ends ∷ []) ss no_exs fs = refl
within_ranges (both_ends ∷ []) ss (more_exs e no_exs) fs = within-first ss fs e
within_ranges (both_ends ∷ []) ss (more_exs e (more_exs f no_exs)) fs = within-both ss fs e f
within_ranges (both_ends ∷ []) ss (more_exs e (more_exs f (more_exs g es))) fs = within-many ss fs e f g es
within_ranges rs ss es fs = refl

-- ---- a number in a domain

sure-one : (k : Names Origin) (n : ℤ) (e : Ex)
    → is_sure k (number_ex n) (int_dom (both_ends ∷ []) (more_exs e no_exs)) ≡ false
sure-one k n (number_ex a) = refl
sure-one k n e = refl

sure-two : (k : Names Origin) (n : ℤ) (e f : Ex)
    → is_sure k (number_ex n) (int_dom (both_ends ∷ []) (more_exs e (more_exs f no_exs))) ≡ number_within n (two_numbers (Some (e, f)))
sure-two k n (number_ex a) (number_ex b) = refl
sure-two k n e f = refl

sure-more : (k : Names Origin) (n : ℤ) (e f g : Ex) (es : Exs)
    → is_sure k (number_ex n) (int_dom (both_ends ∷ []) (more_exs e (more_exs f (more_exs g es)))) ≡ false
sure-more k n (number_ex a) (number_ex b) g es = refl
sure-more k n e f g es = refl

-- A number is sure to lie in a range of numbers that holds it.
pub sure_number : (k : Names Origin) (n : ℤ) (d : Dom) → is_sure k (number_ex n) d ≡ number_within n (two_numbers (one_range d))
sure_number k n (int_dom (both_ends ∷ []) no_exs) = refl
sure_number k n (int_dom (both_ends ∷ []) (more_exs e no_exs)) = sure-one k n e
sure_number k n (int_dom (both_ends ∷ []) (more_exs e (more_exs f no_exs))) = sure-two k n e f
sure_number k n (int_dom (both_ends ∷ []) (more_exs e (more_exs f (more_exs g es)))) = sure-more k n e f g es
sure_number k n d = refl

-- ---- the size of a domain

sized-one : (e : Ex) (n : ℕ) → has_size (int_dom (both_ends ∷ []) (more_exs e no_exs)) n ≡ false
sized-one (number_ex a) n = refl
sized-one e n = refl

sized-two : (e f : Ex) (n : ℕ)
    → has_size (int_dom (both_ends ∷ []) (more_exs e (more_exs f no_exs))) n ≡ size_is (two_numbers (Some (e, f))) n
sized-two (number_ex a) (number_ex b) (suc n) = refl
sized-two e f n = refl

sized-more : (e f g : Ex) (es : Exs) (n : ℕ) → has_size (int_dom (both_ends ∷ []) (more_exs e (more_exs f (more_exs g es)))) n ≡ false
sized-more (number_ex a) (number_ex b) g es n = refl
sized-more e f g es n = refl

-- The size of a domain is that of its range.
pub size_of_range : (d : Dom) (n : ℕ) → has_size d n ≡ size_is (two_numbers (one_range d)) n
size_of_range (int_dom (both_ends ∷ []) no_exs) n = refl
size_of_range (int_dom (both_ends ∷ []) (more_exs e no_exs)) n = sized-one e n
size_of_range (int_dom (both_ends ∷ []) (more_exs e (more_exs f no_exs))) n = sized-two e f n
size_of_range (int_dom (both_ends ∷ []) (more_exs e (more_exs f (more_exs g es)))) n = sized-more e f g es n
size_of_range d n = refl

-- No range of two numbers has none.
pub size_none : (a b : ℤ) (n : ℕ) → n ≡ 0 → false ≡ size_is (Some (a, b)) n
size_none a b zero e = refl
size_none a b (suc k) e = absurd (omega (arith, e))

-- A range has a number more than its ends are apart.
pub size_there : (a b : ℤ) (n m : ℕ) → (n ≡ 0 → ⊥) → m ≡ n - 1 → int_eq b (a +ℤ pos m) ≡ size_is (Some (a, b)) n
size_there a b zero m h e = absurd (h refl)
size_there a b (suc k) m h e = let q : m ≡ k = omega (arith, e) in rw q refl
