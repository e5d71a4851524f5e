-- Worked examples: which trees are expressions of models.
use Rattle.std.specs.Prelude.{◌≡◌, refl, true, false, [], ◌∷◌, pos, negsuc, codes}
use Rattle.ess_semantics.specs.declared.words.Op1.{Op1}
use Rattle.ess_semantics.specs.declared.words.Op2.{Op2}
use Rattle.ess_semantics.specs.declared.words.Fun.{Fun}
use Rattle.ess_semantics.specs.Trees.{Op, matrix_literal, both_ends, low_end, name_pat, Ex, number_ex, truth_ex, name_ex, node_ex, comp_ex, cell_ex, no_exs, more_exs, Gens, no_gens, over, from, cond, Dom, bool_dom, int_dom, name_dom, ex1, ex2, fun1}
use Rattle.ess_grammar.specs.Models.{Scope}
use Rattle.eprime_lowering_laws.specs.Lowerable.{is_lowerable, is_lowerable_dom}
use Rattle.eprime_lowering_laws.specs.Formed.{is_formed}

-- A table of truth values and one of numbers are declared.
abbrev tables : Scope
tables = record { tables = (codes "b", true) ∷ (codes "n", false) ∷ []; finds = [] }

abbrev one : Ex
one = number_ex (pos 1)

-- ---- cells

-- A cell is a truth value where its table has truth values, and a number elsewhere.
truth_cell : is_lowerable tables (cell_ex true (codes "b") (more_exs one no_exs)) ≡ true
truth_cell = refl

number_where_truths_are : is_lowerable tables (cell_ex false (codes "b") (more_exs one no_exs)) ≡ false
number_where_truths_are = refl

truth_where_numbers_are : is_lowerable tables (cell_ex true (codes "n") no_exs) ≡ false
truth_where_numbers_are = refl

undeclared_cell : is_lowerable tables (cell_ex false (codes "undeclared") no_exs) ≡ true
undeclared_cell = refl

-- ---- operators

-- A negative number is a tree of its own, a number under `-` another.
negative_number : is_lowerable tables (number_ex (negsuc 0)) ≡ true
negative_number = refl

negative_of_number : is_lowerable tables (ex1 false Op1.Minus one) ≡ true
negative_of_number = refl

-- An operator isn't Boolean where it gives a number, and lacks no operand.
marked_wrong : is_lowerable tables (ex1 true Op1.Minus one) ≡ false
marked_wrong = refl

one_operand_lacks : is_lowerable tables (node_ex false (Op.binary Op2.Plus) (more_exs one no_exs)) ≡ false
one_operand_lacks = refl

plus : is_lowerable tables (ex2 false Op2.Plus one one) ≡ true
plus = refl

-- `in` is none of a model's.
member : is_lowerable tables (ex2 true Op2.Member one one) ≡ false
member = refl

-- ---- lists

abbrev items : Ex
items = node_ex false matrix_literal (more_exs one (more_exs one no_exs))

sum_of_items : is_lowerable tables (fun1 false Fun.Sum items) ≡ true
sum_of_items = refl

-- A list alone is no expression, and a word takes no expression that isn't a list.
list_alone : is_lowerable tables items ≡ false
list_alone = refl

sum_of_number : is_lowerable tables (fun1 false Fun.Sum one) ≡ false
sum_of_number = refl

to_int : is_lowerable tables (fun1 false Fun.ToInt (truth_ex true)) ≡ true
to_int = refl

lex_of_lists : is_lowerable tables (ex2 true Op2.LexLt items items) ≡ true
lex_of_lists = refl

lex_of_numbers : is_lowerable tables (ex2 true Op2.LexLt one one) ≡ false
lex_of_numbers = refl

-- ---- generators

abbrev to_two : Dom
to_two = int_dom (both_ends ∷ []) (more_exs one (more_exs (number_ex (pos 2)) no_exs))

abbrev sum_over : Gens → Ex
sum_over gs = fun1 false Fun.Sum (comp_ex (name_ex (codes "q1")) gs)

sum_over_range : is_lowerable tables (sum_over (over (name_pat (codes "q1")) to_two no_gens)) ≡ true
sum_over_range = refl

sum_over_bool_under_condition : is_lowerable tables (sum_over (over (name_pat (codes "q1")) bool_dom (cond (truth_ex true) no_gens))) ≡ true
sum_over_bool_under_condition = refl

-- A named type, a value and a range without its bounds are none of a model's.
sum_over_named_type : is_lowerable tables (sum_over (over (name_pat (codes "q1")) (name_dom (codes "E")) no_gens)) ≡ false
sum_over_named_type = refl

sum_over_value : is_lowerable tables (sum_over (from (name_pat (codes "q1")) items no_gens)) ≡ false
sum_over_value = refl

range_without_bound : is_lowerable tables
    (sum_over (over (name_pat (codes "q1")) (int_dom (both_ends ∷ []) (more_exs one no_exs)) no_gens)) ≡ false
range_without_bound = refl

range_without_highest : is_lowerable tables
    (sum_over (over (name_pat (codes "q1")) (int_dom (low_end ∷ []) (more_exs one no_exs)) no_gens)) ≡ false
range_without_highest = refl

-- A declared table may have numbers without a highest.
open_table : is_lowerable_dom tables true (int_dom (low_end ∷ []) (more_exs one no_exs)) ≡ true
open_table = refl

closed_table : is_lowerable_dom tables false (int_dom (low_end ∷ []) (more_exs one no_exs)) ≡ false
closed_table = refl

table_of_named_type : is_lowerable_dom tables true (name_dom (codes "E")) ≡ false
table_of_named_type = refl

-- ---- what refined trees need

plus_formed : is_formed tables (ex2 false Op2.Plus one one) ≡ true
plus_formed = refl

plus_without_operands : is_formed tables (node_ex false (Op.binary Op2.Plus) no_exs) ≡ false
plus_without_operands = refl

cell_of_other_kind : is_formed tables (cell_ex false (codes "b") no_exs) ≡ false
cell_of_other_kind = refl

generator_of_named_type : is_formed tables (sum_over (over (name_pat (codes "q1")) (name_dom (codes "E")) no_gens)) ≡ false
generator_of_named_type = refl
