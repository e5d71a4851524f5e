-- What is left of a tree where it is one of a model: the tree itself, else nothing. The same of its parts.
use Rattle.std.specs.Prelude.{Bool, false, ◌&&◌, not, List, [], ◌∷◌, Option, None, option_map}
use Rattle.ess_semantics.specs.Lists.{when}
use Rattle.ess_semantics.specs.Trees.{Op, matrix_literal, name_pat, Ex, Dom, plain_node}
use Rattle.ess_grammar.specs.Grammar.{one_ex, two_exs}
use Rattle.ess_grammar.specs.Models.{Scope}
use Rattle.ess_core.specs.TreeViews.{Item, over_item, cond_item, exs_of}
use Rattle.eprime_tree.specs.Views as P
use Rattle.eprime_lowering_laws.specs.Lowerable.{is_over_list, is_lex, is_lowerable, has_lowerable, is_lowerable_list, is_lowerable_dom}

-- Of an expression.
abbrev pub lowered : Scope → Ex → Option Ex
lowered s e = when (is_lowerable s e) e

-- Of a list.
abbrev pub lowered_list : Scope → Ex → Option Ex
lowered_list s e = when (is_lowerable_list s e) e

-- Of a domain, in which a bound may be left out where h is true.
abbrev pub lowered_dom : Scope → Bool → Dom → Option Dom
lowered_dom s h d = when (is_lowerable_dom s h d) d

-- Of an operator with its operands, which is Boolean where it gives truth values.
abbrev pub lowered_node : Scope → Op → List Ex → Option Ex
lowered_node s op es = when (has_lowerable s op (exs_of es)) (plain_node op (exs_of es))

-- Of a word over a list.
abbrev pub lowered_fold : Scope → Op → Ex → Option Ex
lowered_fold s op a = when (is_over_list op && is_lowerable_list s a) (plain_node op (one_ex a))

-- Of an operator with two operands; with others nothing is.
abbrev pub lowered_two : Scope → Op → List Ex → Option Ex
lowered_two s op (a ∷ b ∷ []) = lowered_node s op (a ∷ b ∷ [])
lowered_two s op es = None

-- Of a sign between two lists.
abbrev pub lowered_lex : Scope → Op → List Ex → Option Ex
lowered_lex s op (a ∷ b ∷ []) = when (is_lex op && (is_lowerable_list s a && is_lowerable_list s b)) (plain_node op (two_exs a b))
lowered_lex s op es = None

-- Whether a literal with this mark is a list.
abbrev pub is_list_literal : Bool → Op → Bool
is_list_literal b matrix_literal = not b
is_list_literal b op = false

-- Of an item of a comprehension.
abbrev pub lowered_item : Scope → Item → Option P.Item
lowered_item s (over_item (name_pat a) d) = option_map (P.over_item a) (lowered_dom s false d)
lowered_item s (cond_item e) = option_map P.cond_item (lowered s e)
lowered_item s i = None
