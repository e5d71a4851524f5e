-- When tables are full for a tree whose siblings share names. `IsFull` asks of all names that generators bind over expressions, wherever
-- they do, that none stands in any index list of the tree. So it is false for a structure whose slots have the name q in one part, where q
-- runs over the items of a view in another. Here a name is asked for only under the generator that binds it.
use Rattle.std.specs.Prelude.{Bool, true, ◌&&◌, List, ◌++◌, IsTrue}
use Rattle.std.specs.List.{list_all}
use Rattle.ess_semantics.specs.Trees.{Ex, comp_ex, Gens, no_gens, over, from, cond}
use Rattle.ess_semantics.specs.Names.{Names}
use Rattle.ess_semantics.specs.Types.{Ty, pattern_names}
use Rattle.ess_semantics.specs.Meaning.{Env}
use Rattle.ess_semantics.specs.Occurrences.{parts_of, parts_of_gens}
use Rattle.ess_semantics.specs.Full.{Full, index_is_free}

-- No name that one of the generators binds over an expression stands in the index list of a cell or view under it: in a later generator,
-- or among the parts es that stand behind them all.
abbrev pub are_free_under : Gens → List Ex → Bool
are_free_under no_gens es = true
are_free_under (over p d gs) es = are_free_under gs es
are_free_under (from p e gs) es = list_all (index_is_free (pattern_names p)) (parts_of_gens gs ++ es) && are_free_under gs es
are_free_under (cond e gs) es = are_free_under gs es

-- So it is, where the expression is a comprehension.
abbrev pub is_free_under : Ex → Bool
is_free_under (comp_ex e gs) = are_free_under gs (parts_of e)
is_free_under e = true

-- So it is under each generator of the tree.
abbrev pub indices_are_free_under : Ex → Bool
indices_are_free_under e = list_all is_free_under (parts_of e)

-- The tables of the env are full for the tree, whose free names have the types g.
abbrev pub IsFullUnder : Ex → Names Ty → Env → Type 0
IsFullUnder e g env = IsTrue (indices_are_free_under e) × Full e g env
