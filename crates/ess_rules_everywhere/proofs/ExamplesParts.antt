-- Worked examples: operators on numbers that are there everywhere, and what reads a table.
use Rattle.std.proofs.Common.{◌≡◌, refl, true, false, [], ◌∷◌, pos}
use Rattle.ess_semantics.specs.declared.words.Op1.{Op1}
use Rattle.ess_semantics.specs.declared.words.Op2.{Op2}
use Rattle.ess_semantics.specs.Trees.{unary, binary, name_pat, number_ex, name_ex, cell_ex, ex2, no_exs, more_exs, bool_dom}
use Rattle.ess_core.specs.TreeViews.{over_item, cond_item}
use Rattle.ess_rules_everywhere.specs.NumberNodes.{guarded_op, is_number_op}
use Rattle.ess_rules_everywhere.specs.TableParts.{any_reads, any_item_reads}

-- `x / 2` stays; `x union y` is of no numbers, nor is `-` of two operands.
quotient_stays : guarded_op (binary Op2.Div) (more_exs (name_ex (120 ∷ [])) (more_exs (number_ex (pos 2)) no_exs))
    ≡ ex2 false Op2.Div (name_ex (120 ∷ [])) (number_ex (pos 2))
quotient_stays = refl

union_is_none : is_number_op (binary Op2.Union) (more_exs (name_ex (120 ∷ [])) (more_exs (name_ex (121 ∷ [])) no_exs)) ≡ false
union_is_none = refl

of_one_alone : is_number_op (unary Op1.Minus) (more_exs (name_ex (120 ∷ [])) (more_exs (name_ex (121 ∷ [])) no_exs)) ≡ false
of_one_alone = refl

-- A cell behind a number is found; a condition without one has none.
cell_behind : any_reads (more_exs (number_ex (pos 1)) (more_exs (cell_ex false (116 ∷ []) no_exs) no_exs)) ≡ true
cell_behind = refl

no_cell : any_item_reads (over_item (name_pat (120 ∷ [])) bool_dom ∷ cond_item (name_ex (120 ∷ [])) ∷ []) ≡ false
no_cell = refl
