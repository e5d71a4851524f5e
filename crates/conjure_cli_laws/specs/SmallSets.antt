-- The specification that a text of the small grammar stands for, and its model.
use Rattle.std.specs.Prelude.{ℕ, List, [], ◌∷◌, ◌++◌, pos, codes, true}
use Rattle.ess_semantics.specs.Values.{Text}
use Rattle.ess_semantics.specs.Trees.{Ex, Stm, cell_ex, number_ex, bool_dom, no_exs, more_exs}
use Rattle.ess_semantics.specs.DeclaredTables.{TableDecl}
use Rattle.ess_semantics.specs.ModelTrees.{Model, no_goal}
use Rattle.conjure_laws.specs.SetsOfAtoms.{Line, set_find, holds_lit, range, num, spec, range_dom}
use Rattle.std.specs.List.{concat}
use Rattle.conjure_cli_laws.specs.ModelText.{domain}
use Rattle.conjure_cli_laws.specs.SmallGrammar.{Statement, find, such_that, each_find, each_constraint}

-- The statements as those of a specification of sets.
abbrev pub lines : List Statement → List Line
lines [] = []
lines (find x a b ∷ ss) = set_find x (range (pos a) (pos b)) ∷ lines ss
lines (such_that k x ∷ ss) = holds_lit (num (pos k)) x ∷ lines ss

-- The specification.
abbrev pub specification : List Statement → List Stm
specification ss = spec (lines ss)

-- The name of the table of a find: no name of a text has `_`, so it is free.
abbrev pub table_name : Text → Text
table_name x = x ++ codes "_Occurrence"

-- The table of a find.
abbrev pub table_decl : Text → ℕ → ℕ → TableDecl
table_decl x a b = record { name = table_name x; axes = range_dom (pos a) (pos b) ∷ []; cell = bool_dom }

-- The cell of a number.
abbrev pub cell_rule : ℕ → Text → Ex
cell_rule k x = cell_ex true (table_name x) (more_exs (number_ex (pos k)) no_exs)

-- The model.
abbrev pub small_model : List Statement → Model
small_model ss = record { givens = []; finds = each_find table_decl ss; goal = no_goal; rules = each_constraint cell_rule ss }

-- The line of the header for a find, and for its representation.
abbrev pub head_find : Text → ℕ → ℕ → Text
head_find x a b = concat (codes "find " ∷ x ∷ codes " : set of " ∷ domain a b ∷ [])

-- The line for its representation.
abbrev pub head_repr : Text → ℕ → ℕ → Text
head_repr x a b = concat (codes "repr " ∷ x ∷ codes " Occurrence" ∷ [])

-- The lines of the header.
abbrev pub small_head : List Statement → List Text
small_head ss = codes "conjure-header 1" ∷ (each_find head_find ss ++ (each_find head_repr ss ++ (codes "end-header" ∷ [])))
