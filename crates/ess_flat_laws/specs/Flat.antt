-- Flat total trees: numbers, truth values, names and single cells of scalars, arithmetic, comparisons and connectives, with operands of the
-- kinds that they ask for. Each has a value where its names and cells have values. A mark says whether a scalar is a truth value.
use Rattle.std.specs.Prelude.{Bool, true, false, if◌then◌else◌, ℤ, Option, Some, None, ◌≡◌, is_some}
use Rattle.ess_semantics.specs.declared.words.Op1.{Op1}
use Rattle.ess_semantics.specs.declared.words.Op2.{Op2}
use Rattle.ess_semantics.specs.declared.words.Fun.{Fun}
use Rattle.ess_semantics.specs.Lists.{and_then}
use Rattle.ess_semantics.specs.Values.{Text}
use Rattle.ess_semantics.specs.Trees.{Ex, number_ex, truth_ex, name_ex, cell_ex, no_exs, ex1, ex2, fun1}

-- ---- operators

-- An operator on one operand: its mark, and that of the operand.
pub data OneOp : Bool → Op1 → Bool → Type 0 where
  denied : OneOp true Op1.Not true
  negative : OneOp false Op1.Minus false
  absolute : OneOp false Op1.Bar false

-- An operator on two operands: its mark, and those of the operands. Two truth values may be compared, and two numbers.
pub data TwoOp : Bool → Op2 → Bool → Bool → Type 0 where
  both : TwoOp true Op2.And true true
  either : TwoOp true Op2.Or true true
  implied : TwoOp true Op2.Implies true true
  agreeing : TwoOp true Op2.Iff true true
  equal : {m : Bool} → TwoOp true Op2.Eq m m
  unequal : {m : Bool} → TwoOp true Op2.Ne m m
  below : {m : Bool} → TwoOp true Op2.Lt m m
  at_most : {m : Bool} → TwoOp true Op2.Le m m
  above : {m : Bool} → TwoOp true Op2.Gt m m
  at_least : {m : Bool} → TwoOp true Op2.Ge m m
  sum : TwoOp false Op2.Plus false false
  difference : TwoOp false Op2.Minus false false
  product : TwoOp false Op2.Times false false

-- Whether the operator multiplies a number that a condition chooses. Such a product has a shorter form.
abbrev pub is_choice : Op2 → Ex → Bool
is_choice Op2.Times (fun1 b Fun.ToInt c) = true
is_choice o x = false

-- ---- trees

-- The marks of names and of the single cells of tables that are scalars.
module _ (names cells : Text → Option Bool) where
  -- The tree is flat and total, and has this mark.
  pub data Flat : Ex → Bool → Type 0 where
    number : {k : ℤ} → Flat (number_ex k) false
    truth : {b : Bool} → Flat (truth_ex b) true
    named : {a : Text} {m : Bool} → names a ≡ Some m → Flat (name_ex a) m
    cell : {b : Bool} {a : Text} → cells a ≡ Some b → Flat (cell_ex b a no_exs) b
    one : {b m : Bool} {o : Op1} {x : Ex} → OneOp b o m → Flat x m → Flat (ex1 b o x) b
    two : {b m k : Bool} {o : Op2} {x y : Ex} → TwoOp b o m k → Flat x m → Flat y k → is_choice o x ≡ false → Flat (ex2 b o x y) b
    chosen : {x : Ex} → Flat x true → Flat (fun1 false Fun.ToInt x) false

-- ---- the test

-- The mark m, where b is the same.
abbrev pub as_marked : Bool → Bool → Option Bool
as_marked true true = Some true
as_marked false false = Some false
as_marked b m = None

-- The mark of an operator on an operand with this mark.
abbrev pub one_mark : Op1 → Bool → Option Bool
one_mark Op1.Not true = Some true
one_mark Op1.Minus false = Some false
one_mark Op1.Bar false = Some false
one_mark o m = None

-- What compares two scalars.
abbrev pub compares : Op2 → Bool
compares Op2.Eq = true
compares Op2.Ne = true
compares Op2.Lt = true
compares Op2.Le = true
compares Op2.Gt = true
compares Op2.Ge = true
compares o = false

-- What connects two truth values.
abbrev pub joins : Op2 → Bool
joins Op2.And = true
joins Op2.Or = true
joins Op2.Implies = true
joins Op2.Iff = true
joins o = false

-- What makes a number of two.
abbrev pub reckons : Op2 → Bool
reckons Op2.Plus = true
reckons Op2.Minus = true
reckons Op2.Times = true
reckons o = false

-- The mark of an operator on two operands with these marks.
abbrev pub two_mark : Op2 → Bool → Bool → Option Bool
two_mark o true true = if compares o then Some true else (if joins o then Some true else None)
two_mark o false false = if compares o then Some true else (if reckons o then Some false else None)
two_mark o m k = None

-- The mark of `toInt` of an operand with this mark.
abbrev pub chosen_mark : Bool → Option Bool
chosen_mark true = Some false
chosen_mark false = None

module _ (names cells : Text → Option Bool) where
  -- The mark of the tree, where it is flat and total.
  abbrev pub flat_mark : Ex → Option Bool
  flat_mark (number_ex k) = Some false
  flat_mark (truth_ex b) = Some true
  flat_mark (name_ex a) = names a
  flat_mark (cell_ex b a no_exs) = and_then (cells a) (as_marked b)
  flat_mark (ex1 b o x) = and_then (and_then (flat_mark x) (one_mark o)) (as_marked b)
  flat_mark (ex2 b o x y) =
      if is_choice o x then None else
      and_then (and_then (flat_mark x) (λ m. and_then (flat_mark y) (two_mark o m))) (as_marked b)
  flat_mark (fun1 b Fun.ToInt x) = and_then (and_then (flat_mark x) chosen_mark) (as_marked b)
  flat_mark e = None

  -- Whether it is flat and total.
  abbrev pub is_flat_total : Ex → Bool
  is_flat_total e = is_some (flat_mark e)

-- No name, or no cell, is one.
abbrev pub none_marked : Text → Option Bool
none_marked a = None
