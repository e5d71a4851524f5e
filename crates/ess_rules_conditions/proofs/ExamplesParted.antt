-- Worked examples: conditions that read a table.
use Rattle.std.proofs.Common.{◌≡◌, refl, true, [], ◌∷◌, Some, None}
use Rattle.ess_semantics.specs.Trees.{name_pat, name_ex, cell_ex, no_exs, bool_dom}
use Rattle.ess_core.specs.TreeViews.{over_item, cond_item}
use Rattle.ess_rules_conditions.specs.PartedViews.{read_condition}

-- A condition with a cell is one; a name alone isn't, nor is a generator.
of_a_cell : read_condition (cond_item (cell_ex true (116 ∷ []) no_exs)) ≡ Some (cell_ex true (116 ∷ []) no_exs)
of_a_cell = refl

of_a_name : read_condition (cond_item (name_ex (120 ∷ []))) ≡ None
of_a_name = refl

of_a_generator : read_condition (over_item (name_pat (120 ∷ [])) bool_dom) ≡ None
of_a_generator = refl
