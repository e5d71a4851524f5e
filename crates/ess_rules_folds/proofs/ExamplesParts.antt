-- Worked examples of the parts of roots, and of what the rules make of them.
use Rattle.std.specs.Prelude.{◌≡◌, refl, true, false, codes, pos, Some, None}
use Rattle.ess_semantics.specs.declared.words.Op2.{Op2}
use Rattle.ess_semantics.specs.declared.words.Fun.{Fun}
use Rattle.ess_semantics.specs.Values.{Text}
use Rattle.ess_semantics.specs.Trees.{matrix_literal, mset_literal, name_pat, tuple_pat, no_pats, Ex, Exs, number_ex, node_ex, comp_ex, ex2, fun1, no_exs, no_gens, from, cond}
use Rattle.ess_semantics.proofs.Shorthands.{N, n, es1, es2}
use Rattle.ess_rules_folds.specs.Forms.{only_operand, word_parts, list_items, written_items, made_set_of, only_condition, source_parts, fold_parts}
use Rattle.ess_rules_folds.specs.FoldParts.{is_quantifier, one_item, bare_body, nothing_made, alone_body, item_fold}

abbrev x : Text
x = codes "x"

abbrev y : Text
y = codes "y"

-- A list of these.
abbrev list : Exs → Ex
list es = node_ex false matrix_literal es

-- ---- parts

-- The first operand is the only one where there is no second.
one_operand : only_operand (es1 (N x)) ≡ Some (N x)
one_operand = refl

two_operands : only_operand (es2 (N x) (N y)) ≡ None
two_operands = refl

-- A sum has its operands; a number has none.
of_a_word : word_parts (fun1 false Fun.Sum (N x)) ≡ Some (false, Fun.Sum, es1 (N x))
of_a_word = refl

of_no_word : word_parts (n 3) ≡ None
of_no_word = refl

-- A multiset is no list, but its items are written.
of_a_multiset : list_items (node_ex false mset_literal (es1 (n 3))) ≡ None
of_a_multiset = refl

written : written_items (node_ex false mset_literal (es1 (n 3))) ≡ Some (es1 (n 3))
written = refl

-- A set that is made of x.
made : made_set_of (fun1 false Fun.ToSet (N x)) ≡ Some (N x)
made = refl

-- A condition before another generator isn't alone.
alone : only_condition (cond (N x) no_gens) ≡ Some (N x)
alone = refl

not_alone : only_condition (cond (N x) (cond (N y) no_gens)) ≡ None
not_alone = refl

-- A pattern that is no name has no source.
named : source_parts (from (name_pat x) (N y) no_gens) ≡ Some (x, N y, no_gens)
named = refl

unnamed : source_parts (from (tuple_pat no_pats) (N y) no_gens) ≡ None
unnamed = refl

-- A fold over a source has its parts.
of_a_fold : fold_parts (fun1 true Fun.And (comp_ex (N x) (from (name_pat x) (N y) no_gens))) ≡
    Some (record { mark = true; fun = Fun.And; body = N x; name = x; source = N y; rest = no_gens; others = no_exs })
of_a_fold = refl

-- ---- what rules make of them

-- The unit of a product is 1, and only of lists without items.
unit : nothing_made (false, Fun.Product, es1 (list no_exs)) ≡ Some (number_ex (pos 1))
unit = refl

no_unit : nothing_made (false, Fun.Product, es1 (list (es1 (n 3)))) ≡ None
no_unit = refl

-- A conjunction of truth values alone is a quantifier.
no_quantifier : is_quantifier true Fun.AllDiff ≡ false
no_quantifier = refl

-- The one item, and not the first of two.
one : one_item (es1 (list (es1 (n 3)))) ≡ Some (n 3)
one = refl

not_one : one_item (es1 (list (es2 (n 3) (n 4)))) ≡ None
not_one = refl

-- The body of a comprehension without generators.
bare : bare_body (es1 (comp_ex (n 3) no_gens)) ≡ Some (n 3)
bare = refl

-- A disjunction over a condition alone is a conjunction.
under : alone_body Fun.Or (es1 (comp_ex (N x) (cond (N y) no_gens))) ≡ Some (ex2 true Op2.And (N y) (N x))
under = refl

-- The item of a literal stands in the place of the name.
put : item_fold true Fun.And x (N x) no_gens (n 3) ≡ fun1 true Fun.And (comp_ex (n 3) no_gens)
put = refl
