-- Trees each part of which has what is wanted of it: names, tables, what generators bind and draw from, and domains.
use Rattle.std.specs.Prelude.{Bool, List, [], ◌∷◌, IsTrue}
use Rattle.ess_semantics.specs.Values.{Text}
use Rattle.ess_semantics.specs.Trees.{Pat, Ex, Exs, number_ex, truth_ex, name_ex, node_ex, matrix_ex, comp_ex, cell_ex, seen_ex, no_exs, more_exs, Gens, no_gens, over, from, cond, Dom}

-- What is wanted: of a name, of the name of a table, of the pattern of a generator over a domain, of pattern and source of a generator
-- over an expression, and of a domain.
pub record Wanted : Type 0 where
  pub name : Text → Bool
  pub table : Text → Bool
  pub binds : Pat → Bool
  pub draws : Pat → Ex → Bool
  pub dom : Dom → Bool

module _ (w : Wanted) where
  -- Each of these tables has it.
  abbrev pub TablesHave : List Text → Type 0
  TablesHave [] = Unit {0}
  TablesHave (n ∷ ns) = IsTrue (w.table n) × TablesHave ns

  abbrev mutual
    -- Each part of the expression has it. Inside of domains nothing else is asked.
    pub PartsHave : Ex → Type 0
    PartsHave (number_ex n) = Unit {0}
    PartsHave (truth_ex b) = Unit {0}
    PartsHave (name_ex a) = IsTrue (w.name a)
    PartsHave (node_ex b op es) = AllHave es
    PartsHave (matrix_ex es d) = AllHave es × IsTrue (w.dom d)
    PartsHave (comp_ex e gs) = PartsHave e × GensHave gs
    PartsHave (cell_ex b n es) = IsTrue (w.table n) × AllHave es
    PartsHave (seen_ex r d ns es) = TablesHave ns × IsTrue (w.dom d) × AllHave es

    -- The same of several expressions.
    pub AllHave : Exs → Type 0
    AllHave no_exs = Unit {0}
    AllHave (more_exs e es) = PartsHave e × AllHave es

    -- The same of generators.
    pub GensHave : Gens → Type 0
    GensHave no_gens = Unit {0}
    GensHave (over p d gs) = IsTrue (w.binds p) × IsTrue (w.dom d) × GensHave gs
    GensHave (from p e gs) = IsTrue (w.draws p e) × PartsHave e × GensHave gs
    GensHave (cond e gs) = PartsHave e × GensHave gs
