-- What the names of a tree have: those that it uses, those that it binds, and the tables of its cells, in domains too.
use Rattle.std.specs.Prelude.{Bool, List, [], ◌∷◌, IsTrue}
use Rattle.ess_semantics.specs.Values.{Text}
use Rattle.ess_semantics.specs.Trees.{Ex, Exs, number_ex, truth_ex, name_ex, node_ex, matrix_ex, comp_ex, cell_ex, seen_ex, no_exs, more_exs, Gens, no_gens, over, from, cond, Dom, Doms, bool_dom, int_dom, name_dom, tuple_dom, record_dom, matrix_dom, set_dom, mset_dom, function_dom, relation_dom, partition_dom, no_doms, more_doms}
use Rattle.ess_semantics.specs.Substitution.{Binds}

module _ (u : Text → Bool) where
  abbrev mutual
    -- Each name of the expression has the property u.
    pub NamesHave : Ex → Type 0
    NamesHave (number_ex n) = Unit {0}
    NamesHave (truth_ex b) = Unit {0}
    NamesHave (name_ex a) = IsTrue (u a)
    NamesHave (node_ex b op es) = AllNamesHave es
    NamesHave (matrix_ex es d) = AllNamesHave es × DomNamesHave d
    NamesHave (comp_ex e gs) = NamesHave e × GensNamesHave gs
    NamesHave (cell_ex b n es) = IsTrue (u n) × AllNamesHave es
    NamesHave (seen_ex r d ns es) = DomNamesHave d × AllNamesHave es

    -- The same of several expressions.
    pub AllNamesHave : Exs → Type 0
    AllNamesHave no_exs = Unit {0}
    AllNamesHave (more_exs e es) = NamesHave e × AllNamesHave es

    -- The same of generators.
    pub GensNamesHave : Gens → Type 0
    GensNamesHave no_gens = Unit {0}
    GensNamesHave (over p d gs) = Binds u p × DomNamesHave d × GensNamesHave gs
    GensNamesHave (from p e gs) = Binds u p × NamesHave e × GensNamesHave gs
    GensNamesHave (cond e gs) = NamesHave e × GensNamesHave gs

    -- The same of a domain. The name of a type isn't used in this sense.
    pub DomNamesHave : Dom → Type 0
    DomNamesHave bool_dom = Unit {0}
    DomNamesHave (int_dom rs es) = AllNamesHave es
    DomNamesHave (name_dom a) = Unit {0}
    DomNamesHave (tuple_dom ds) = DomsNamesHave ds
    DomNamesHave (record_dom fs ds) = DomsNamesHave ds
    DomNamesHave (matrix_dom is d) = DomsNamesHave is × DomNamesHave d
    DomNamesHave (set_dom ms es d) = AllNamesHave es × DomNamesHave d
    DomNamesHave (mset_dom ms es d) = AllNamesHave es × DomNamesHave d
    DomNamesHave (function_dom ms es d c) = AllNamesHave es × DomNamesHave d × DomNamesHave c
    DomNamesHave (relation_dom ms es ds) = AllNamesHave es × DomsNamesHave ds
    DomNamesHave (partition_dom ms es d) = AllNamesHave es × DomNamesHave d

    -- The same of several domains.
    pub DomsNamesHave : Doms → Type 0
    DomsNamesHave no_doms = Unit {0}
    DomsNamesHave (more_doms d ds) = DomNamesHave d × DomsNamesHave ds

  -- Each of these names has it.
  abbrev pub EachHas : List Text → Type 0
  EachHas [] = Unit {0}
  EachHas (y ∷ ys) = IsTrue (u y) × EachHas ys
