-- Models whose parts, as they are read, are trees of the grammar and stand for the model again. Which names may stand in conditions of
-- generators is left open.
use Rattle.std.specs.Prelude.{◌≡◌, true, List, map}
use Rattle.ess_semantics.specs.Names.{Names}
use Rattle.ess_semantics.specs.Trees.{Dom}
use Rattle.ess_semantics.specs.Contexts.{Each}
use Rattle.ess_semantics.specs.DeclaredTables.{TableDecl}
use Rattle.ess_semantics.specs.ModelTrees.{Goal, no_goal, least, greatest, Model}
use Rattle.ess_grammar.specs.Models.{ReadModel, model_of}
use Rattle.ess_grammar.specs.Readable.{is_name_token, ReadableEx, ReadableDom}
use Rattle.eprime_tree.specs.Written.{written, table_written}

-- Declared names with their domains as they are read.
abbrev pub read_tables : List TableDecl → Names Dom
read_tables ts = map (λ t. (t.name, table_written t)) ts

-- The objective as it is read.
abbrev pub read_goal : Goal → Goal
read_goal no_goal = no_goal
read_goal (least e) = least (written e)
read_goal (greatest e) = greatest (written e)

-- The parts of the model as they are read.
abbrev pub parts_of : Model → ReadModel
parts_of E = record { givens = read_tables E.givens; finds = read_tables E.finds; goal = read_goal E.goal; rules = map written E.rules }

-- The name of a declared table is a token, and its domain as it is read is one of the grammar.
pub record IsSpelledTable (t : TableDecl) : Type 0 where
  pub named : is_name_token t.name ≡ true
  pub domain : ReadableDom (table_written t)

-- The objective as it is read is an expression of the grammar.
abbrev pub IsSpelledGoal : Goal → Type 0
IsSpelledGoal no_goal = Unit {0}
IsSpelledGoal (least e) = ReadableEx (written e)
IsSpelledGoal (greatest e) = ReadableEx (written e)

-- The parts as they are read are trees of the grammar, and with cells for declared names they are the model.
pub record IsSpelled (E : Model) : Type 0 where
  pub givens : Each E.givens IsSpelledTable
  pub finds : Each E.finds IsSpelledTable
  pub goal : IsSpelledGoal E.goal
  pub rules : Each E.rules (λ e. ReadableEx (written e))
  pub back : model_of (parts_of E) ≡ E
