-- Flat total trees over scalars that are truth values, numbers or values of named types: two values of one type may be compared, and
-- nothing else is done with them.
use Rattle.std.specs.Prelude.{Bool, true, false, ◌&&◌, if◌then◌else◌, ℕ, ℤ, Option, Some, None, option_map, ◌≡◌}
use Rattle.ess_semantics.specs.declared.words.Op1.{Op1}
use Rattle.ess_semantics.specs.declared.words.Op2.{Op2}
use Rattle.ess_semantics.specs.declared.words.Fun.{Fun}
use Rattle.ess_semantics.specs.Lists.{and_then}
use Rattle.ess_semantics.specs.Values.{Text, Value, item}
use Rattle.ess_semantics.specs.Values.{number as a_number_value, truth as a_truth_value}
use Rattle.ess_semantics.specs.Order.{same_text}
use Rattle.ess_semantics.specs.Trees.{Ex, number_ex, truth_ex, name_ex, cell_ex, no_exs, ex1, ex2, fun1}
use Rattle.ess_flat_laws.specs.Flat.{OneOp, TwoOp, is_choice, compares, as_marked, one_mark, two_mark}

-- What a scalar is: a truth value, a number, or a value of the type with this name.
pub data Sort : Type 0 where
  truths numbers : Sort
  values_of : Text → Sort

-- The sort of scalars with this mark, which says whether they are truth values.
abbrev pub sort_of : Bool → Sort
sort_of true = truths
sort_of false = numbers

-- The mark of a scalar over tables: a value of a named type is there as its position.
abbrev pub mark_of : Sort → Bool
mark_of truths = true
mark_of m = false

-- A value of the sort.
pub data OfSort : Sort → Value → Type 0 where
  a_truth : {b : Bool} → OfSort truths (a_truth_value b)
  a_number : {k : ℤ} → OfSort numbers (a_number_value k)
  an_item : {t : Text} {k : ℕ} → OfSort (values_of t) (item t k)

-- ---- the test

-- The mark of a scalar that is no value of a named type.
abbrev pub mark_alone : Sort → Option Bool
mark_alone truths = Some true
mark_alone numbers = Some false
mark_alone (values_of t) = None

-- The sort of an operator on an operand of this sort.
abbrev pub one_sort : Bool → Op1 → Sort → Option Sort
one_sort b o m = and_then (mark_alone m) (λ i. option_map sort_of (and_then (one_mark o i) (as_marked b)))

-- That of an operator on two.
abbrev pub two_sort : Bool → Op2 → Sort → Sort → Option Sort
two_sort b o (values_of t) (values_of u) = if compares o && (b && same_text t u) then Some truths else None
two_sort b o m k =
    and_then (mark_alone m) (λ i. and_then (mark_alone k) (λ j. option_map sort_of (and_then (two_mark o i j) (as_marked b))))

-- That of `toInt` of an operand.
abbrev pub chosen_sort : Bool → Sort → Option Sort
chosen_sort false truths = Some numbers
chosen_sort b m = None

-- The sorts of names: of givens and finds, and of the values of enumerated types.
module _ (names : Text → Option Sort) where
  -- The tree is flat and total, and of this sort.
  pub data NamedFlat : Ex → Sort → Type 0 where
    number : {k : ℤ} → NamedFlat (number_ex k) numbers
    truth : {b : Bool} → NamedFlat (truth_ex b) truths
    named : {a : Text} {m : Sort} → names a ≡ Some m → NamedFlat (name_ex a) m
    one : {b m : Bool} {o : Op1} {x : Ex} → OneOp b o m → NamedFlat x (sort_of m) → NamedFlat (ex1 b o x) (sort_of b)
    two : {b m k : Bool} {o : Op2} {x y : Ex} → TwoOp b o m k → NamedFlat x (sort_of m) → NamedFlat y (sort_of k) → is_choice o x ≡ false →
        NamedFlat (ex2 b o x y) (sort_of b)
    alike : {t : Text} {o : Op2} {x y : Ex} → compares o ≡ true → NamedFlat x (values_of t) → NamedFlat y (values_of t) →
        NamedFlat (ex2 true o x y) truths
    chosen : {x : Ex} → NamedFlat x truths → NamedFlat (fun1 false Fun.ToInt x) numbers

  -- The sort of the tree, where it is flat and total.
  abbrev pub named_sort : Ex → Option Sort
  named_sort (number_ex k) = Some numbers
  named_sort (truth_ex b) = Some truths
  named_sort (name_ex a) = names a
  named_sort (ex1 b o x) = and_then (named_sort x) (one_sort b o)
  named_sort (ex2 b o x y) =
      if is_choice o x then None else and_then (named_sort x) (λ m. and_then (named_sort y) (λ k. two_sort b o m k))
  named_sort (fun1 b Fun.ToInt x) = and_then (named_sort x) (chosen_sort b)
  named_sort e = None

-- What stands for a scalar over tables: a position, or a single cell of its mark.
pub data IsScalarView (cells : Text → Option Bool) : Ex → Bool → Type 0 where
  position : {k : ℤ} → IsScalarView cells (number_ex k) false
  single : {n : Text} {b : Bool} → cells n ≡ Some b → IsScalarView cells (cell_ex b n no_exs) b
