-- Worked examples of equality by the numbers of items.
use Rattle.std.specs.Prelude.{◌≡◌, refl, true, false, ℕ, [], Option, Some, None}
use Rattle.ess_semantics.specs.declared.words.Op2.{Op2}
use Rattle.ess_semantics.specs.Lists.{and_then}
use Rattle.ess_semantics.specs.Values.{Value, truth}
use Rattle.ess_semantics.specs.Trees.{name_pat, Ex, matrix_ex, comp_ex, no_exs, no_gens, from, ex2}
use Rattle.ess_semantics.specs.Types.{int_ty}
use Rattle.ess_semantics.specs.Meaning.{meaning}
use Rattle.ess_semantics.proofs.Shorthands.{N, n, es1, es2, bi, range, upto}
use Rattle.ess_rules_laws.specs.SourceRules.{list_of}
use Rattle.ess_numbered_laws.specs.CountedSources.{counted_list}
use Rattle.ess_numbered_laws.specs.EqualByNumber.{other_side, equal_lists, equal_over, equal_by_number}
use Rattle.ess_numbered_laws.proofs.ExamplesCounted.{y, w, o, k, names, with_cell, uneven, three}

-- `[y * 2 | y <- [[1, 2], [3]][k]]`: so it is `[2, 4]` where the cell has 1, and `[6]` where that has 2.
abbrev doubled : Ex
doubled = comp_ex (bi Op2.Times (N y) (n 2)) (from (name_pat y) (uneven k) no_gens)

-- It has `sum([2, 1]) * 1` items at most.
abbrev most_doubled : Ex
most_doubled = bi Op2.Times three (n 1)

at_most : (counted_list names [] doubled ≡ Some most_doubled) × (counted_list names [] (list_of (es1 (n 6))) ≡ None)
at_most = (refl, refl)

-- ---- of lists

abbrev equal : Ex → Ex
equal b = ex2 true Op2.Eq doubled b

abbrev pair : Ex
pair = list_of (es2 (n 2) (n 4))

of_lists : equal_by_number names [] (equal pair) ≡ Some (equal_lists w o most_doubled int_ty int_ty doubled pair)
of_lists = refl

-- The same turned; and nothing without such a comprehension.
turned : (equal_by_number names [] (ex2 true Op2.Eq pair doubled) ≡ Some (equal_lists w o most_doubled int_ty int_ty doubled pair))
    × (equal_by_number names [] (ex2 true Op2.Eq pair pair) ≡ None)
turned = (refl, refl)

-- What the cell says.
abbrev says : Ex → ℕ → Option Value
says b i = and_then (equal_by_number names [] (equal b)) (λ f. meaning f (with_cell i))

-- `[2, 4]` is the one, `[6]` the other; `[2]` begins as the first does, and `[2, 4, 6]` goes on: neither is equal to it.
one_of_two : (says pair 1 ≡ Some (truth true)) × (says pair 2 ≡ Some (truth false)) × (says (list_of (es1 (n 6))) 1 ≡ Some (truth false))
    × (says (list_of (es1 (n 6))) 2 ≡ Some (truth true)) × (says (list_of (es1 (n 2))) 1 ≡ Some (truth false))
    × (says (list_of no_exs) 2 ≡ Some (truth false))
one_of_two = (refl, refl, refl, refl, refl, refl)

-- ---- of a list and a matrix

abbrev over_range : ℕ → ℕ → Ex
over_range a b = matrix_ex (es2 (n 2) (n 4)) (range (n a) (n b))

told : (other_side pair ≡ Some None) × (other_side (over_range 1 2) ≡ Some (Some (upto 2))) × (other_side (N y) ≡ None)
told = (refl, refl, refl)

over_a_domain : equal_by_number names [] (equal (over_range 0 1))
    ≡ Some (equal_over (range (n 0) (n 1)) w o most_doubled int_ty int_ty doubled (over_range 0 1))
over_a_domain = refl

-- A matrix of the same items is equal where its indices are the numbers, too.
by_indices : (says (over_range 1 2) 1 ≡ Some (truth true)) × (says (over_range 1 2) 2 ≡ Some (truth false))
    × (says (over_range 0 1) 1 ≡ Some (truth false)) × (says (over_range 2 3) 1 ≡ Some (truth false))
by_indices = (refl, refl, refl, refl)

-- So says the equality itself.
as_it_was : (meaning (equal (over_range 1 2)) (with_cell 1) ≡ Some (truth true))
    × (meaning (equal (over_range 0 1)) (with_cell 1) ≡ Some (truth false))
    × (meaning (equal pair) (with_cell 1) ≡ Some (truth true)) × (meaning (equal pair) (with_cell 2) ≡ Some (truth false))
as_it_was = (refl, refl, refl, refl)
