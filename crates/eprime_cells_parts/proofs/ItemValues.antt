-- What values of a text of cells are as items of tables.
use Rattle.std.proofs.Common.{◌≡◌, refl, ap, ◌∙◌, Bool, true, false, List, map, length, Option, Some, None, nat_eq}
use Rattle.std.proofs.Math.IntN.{neg_ℤ-neg_ℤ}
use Rattle.ess_semantics.specs.Lists.{and_then, when, all_some}
use Rattle.ess_semantics.specs.Values.{Value, number, matrix, of_list}
use Rattle.ess_semantics.specs.Trees.{matrix_literal, Ex}
use Rattle.ess_semantics.specs.Operators.{value_of_op}
use Rattle.ess_semantics.specs.Meaning.{meaning, meanings, empty_env, matrix_value, members_in, domain_of}
use Rattle.ess_semantics.specs.Trees.{int_dom}
use Rattle.eprime_read_cells_laws.specs.CellMachine.{listed}
use Rattle.eprime_cells_laws.specs.TableReading.{item_of_value}
use Rattle.eprime_cells_machine.specs.declared.values.Number.{Number}
use Rattle.eprime_cells_machine.specs.declared.values.CellRange.{CellRange}
use Rattle.eprime_cells_machine.specs.declared.values.CellList.{CellList}
use Rattle.eprime_cells_machine.specs.declared.values.CellValue.TheVariants as value
use Rattle.eprime_cells_machine.specs.declared.values.CellValue.TheViews.{out-CellList}
use Rattle.eprime_cells_machine.specs.ValueViews.{pure_number, list_of, all_ends, all_bounds, pure_value}
use Rattle.eprime_cells_machine.proofs.ValueEquations.{pure_value_list, pure_list_is}
use Rattle.eprime_cells_parts.specs.Numbers.{number_of}

-- A number means itself.
pub meaning_number : (n : Number) → meaning (pure_number n) empty_env ≡ Some (number (number_of n))
meaning_number (Number.Plain n) = refl
meaning_number (Number.Minus n) = ap (λ k. Some (number k)) (neg_ℤ-neg_ℤ n)

-- In a table of truth values it is no item, in any other it is one.
pub no_truth : (n : Number) → item_of_value true (meaning (pure_number n) empty_env) ≡ None
no_truth n = ap (item_of_value true) (meaning_number n)

pub item_number : (n : Number) → item_of_value false (meaning (pure_number n) empty_env) ≡ Some (number_of n)
item_number n = ap (item_of_value false) (meaning_number n)

literal-nothing : (b : Bool) (o : Option (List Value)) → item_of_value b (and_then o (value_of_op matrix_literal)) ≡ None
literal-nothing true None = refl
literal-nothing false None = refl
literal-nothing true (Some vs) = refl
literal-nothing false (Some vs) = refl

node-nothing : (b : Bool) (is xs : List Value) → item_of_value b (Some (matrix (of_list is) (of_list xs))) ≡ None
node-nothing true is xs = refl
node-nothing false is xs = refl

sized-nothing : (b c : Bool) (v : Value) → item_of_value b (Some v) ≡ None → item_of_value b (when c v) ≡ None
sized-nothing true true v h = h
sized-nothing false true v h = h
sized-nothing true false v h = refl
sized-nothing false false v h = refl

indexed-nothing : (b : Bool) (o ms : Option (List Value)) → item_of_value b (and_then o (matrix_value ms)) ≡ None
indexed-nothing true None ms = refl
indexed-nothing false None ms = refl
indexed-nothing true (Some xs) None = refl
indexed-nothing false (Some xs) None = refl
indexed-nothing b (Some xs) (Some is) = sized-nothing b (nat_eq (length is) (length xs)) (matrix (of_list is) (of_list xs)) (node-nothing b is xs)

-- A list is no item.
pub list_nothing : (b : Bool) (es : List Ex) (o : Option (List CellRange)) → item_of_value b (meaning (list_of es o) empty_env) ≡ None
list_nothing b es None = literal-nothing b (all_some (meanings (listed es) empty_env))
list_nothing b es (Some rs) = indexed-nothing b (all_some (meanings (listed es) empty_env)) (members_in (domain_of (int_dom (all_ends rs) (listed (all_bounds rs))) empty_env))

pub value_nothing : (b : Bool) (l : CellList) → item_of_value b (meaning (pure_value (value.List l)) empty_env) ≡ None
value_nothing b l =
    ap (λ e. item_of_value b (meaning e empty_env)) (pure_value_list l ∙ pure_list_is l) ∙ list_nothing b (map pure_value (out-CellList l).items) (out-CellList l).ranges
