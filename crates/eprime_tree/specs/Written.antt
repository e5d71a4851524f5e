-- The tree as it is read of an expression of a model: there a declared name is a name, and an access to a table an index. What
-- earlier lines declare makes cells of them again.
use Rattle.std.specs.Prelude.{List, [], ◌∷◌}
use Rattle.ess_semantics.specs.Trees.{Ex, Exs, name_ex, node_ex, comp_ex, cell_ex, no_exs, more_exs, Gens, no_gens, over, from, cond, Dom, int_dom, matrix_dom, Doms, no_doms, more_doms}
use Rattle.ess_semantics.specs.DeclaredTables.{TableDecl}
use Rattle.ess_grammar.specs.Grammar.{indexed}

abbrev mutual
  -- Of an expression.
  pub written : Ex → Ex
  written (cell_ex b a no_exs) = name_ex a
  written (cell_ex b a (more_exs e es)) = indexed (name_ex a) (more_exs (written e) (all_written es))
  written (node_ex b op es) = node_ex b op (all_written es)
  written (comp_ex e gs) = comp_ex (written e) (gens_written gs)
  written e = e

  -- Of several.
  pub all_written : Exs → Exs
  all_written no_exs = no_exs
  all_written (more_exs e es) = more_exs (written e) (all_written es)

  -- Of generators and conditions.
  pub gens_written : Gens → Gens
  gens_written no_gens = no_gens
  gens_written (over p d gs) = over p (dom_written d) (gens_written gs)
  gens_written (from p e gs) = from p (written e) (gens_written gs)
  gens_written (cond e gs) = cond (written e) (gens_written gs)

  -- Of a domain of a model.
  pub dom_written : Dom → Dom
  dom_written (int_dom rs es) = int_dom rs (all_written es)
  dom_written d = d

-- Several domains.
abbrev pub doms_written : List Dom → Doms
doms_written [] = no_doms
doms_written (d ∷ ds) = more_doms (dom_written d) (doms_written ds)

-- The domain of a declared name: a matrix where it has axes.
abbrev pub matrix_over : List Dom → Dom → Dom
matrix_over [] d = dom_written d
matrix_over (a ∷ axes) d = matrix_dom (doms_written (a ∷ axes)) (dom_written d)

-- The domain of a declared table as it is read.
abbrev pub table_written : TableDecl → Dom
table_written t = matrix_over t.axes t.cell
