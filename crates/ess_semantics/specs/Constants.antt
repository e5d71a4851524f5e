-- The numbers that a model may spell: 0, 1 and 2, the specification's own, the positions and the numbers of values of its
-- enumerated types, and the numbers from 1 to the number of items of each of its literals.
use Rattle.std.specs.Prelude.{ℕ, suc, Bool, true, false, if◌then◌else◌, List, [], ◌∷◌, ◌++◌, map, length, ℤ, pos}
use Rattle.std.specs.List.{list_all, list_any}
use Rattle.ess_semantics.specs.DeclaredTables.{TableDecl}
use Rattle.ess_semantics.specs.Lists.{append_all}
use Rattle.ess_semantics.specs.Order.{same_int}
use Rattle.ess_semantics.specs.Numbers.{one_to}
use Rattle.ess_semantics.specs.declared.words.Op2.{Op2}
use Rattle.ess_semantics.specs.declared.words.Fun.{Fun}
use Rattle.ess_semantics.specs.Trees.{Op, binary, word, truth_ex, name_ex, comp_ex, cell_ex, seen_ex, Gens, no_gens, over, from, cond, Doms, bool_dom, int_dom, name_dom, tuple_dom, record_dom, matrix_dom, set_dom, mset_dom, function_dom, relation_dom, partition_dom, no_doms, more_doms, tuple_literal, set_literal, mset_literal, function_literal, relation_literal, partition_literal, matrix_literal, record_literal, Ex, Exs, number_ex, node_ex, matrix_ex, no_exs, more_exs, Dom, Stm, given, given_enum, let_ex, let_dom, let_enum, let_unnamed, needs, find, such_that, minimise, maximise}
use Rattle.ess_semantics.specs.Occurrences.{parts_of, parts_of_dom}
use Rattle.ess_semantics.specs.ModelTrees.{Goal, no_goal, least, greatest, Model, all_decls}

-- How many operands there are.
abbrev pub operand_count : Exs → ℕ
operand_count no_exs = 0
operand_count (more_exs e es) = suc (operand_count es)

-- The numbers from 1 to the number of items of a literal.
abbrev pub counts_of_op : Op → ℕ → List ℤ
counts_of_op tuple_literal n = one_to n
counts_of_op set_literal n = one_to n
counts_of_op mset_literal n = one_to n
counts_of_op function_literal n = one_to n
counts_of_op relation_literal n = one_to n
counts_of_op partition_literal n = one_to n
counts_of_op matrix_literal n = one_to n
counts_of_op (record_literal fs) n = one_to n
counts_of_op op n = []

-- The numbers that an expression spells.
abbrev pub numbers_of_part : Ex → List ℤ
numbers_of_part (number_ex n) = n ∷ []
numbers_of_part e = []

-- These, and the numbers from 1 to the number of items of a literal.
abbrev pub constants_of_part : Ex → List ℤ
constants_of_part (number_ex n) = n ∷ []
constants_of_part (node_ex b op es) = counts_of_op op (operand_count es)
constants_of_part (matrix_ex es d) = one_to (operand_count es)
constants_of_part e = []

-- The expressions of a statement, with all of their parts.
abbrev pub parts_of_stm : Stm → List Ex
parts_of_stm (given x d) = parts_of_dom d
parts_of_stm (given_enum t) = []
parts_of_stm (let_ex x e) = parts_of e
parts_of_stm (let_dom x d) = parts_of_dom d
parts_of_stm (let_enum t ns) = []
parts_of_stm (let_unnamed t e) = parts_of e
parts_of_stm (needs e) = parts_of e
parts_of_stm (find x d) = parts_of_dom d
parts_of_stm (such_that e) = parts_of e
parts_of_stm (minimise e) = parts_of e
parts_of_stm (maximise e) = parts_of e

-- The constants of a statement.
abbrev pub constants_of_stm : Stm → List ℤ
constants_of_stm (let_enum t ns) = one_to (length ns)
constants_of_stm s = append_all (map constants_of_part (parts_of_stm s))

-- The constants of a specification.
abbrev pub constants_of : List Stm → List ℤ
constants_of S = pos 0 ∷ pos 1 ∷ pos 2 ∷ append_all (map constants_of_stm S)

-- The expressions of a declaration, with all of their parts.
abbrev pub parts_of_decl : TableDecl → List Ex
parts_of_decl d = append_all (map parts_of_dom d.axes) ++ parts_of_dom d.cell

-- The objective with all of its parts.
abbrev pub parts_of_goal : Goal → List Ex
parts_of_goal no_goal = []
parts_of_goal (least e) = parts_of e
parts_of_goal (greatest e) = parts_of e

-- All expressions of a model.
abbrev pub parts_of_model : Model → List Ex
parts_of_model E = append_all (map parts_of_decl (all_decls E)) ++ parts_of_goal E.goal ++ append_all (map parts_of E.rules)

-- Each number that the model spells is a constant of the specification.
abbrev pub spells_constants : List Stm → Model → Bool
spells_constants S E = list_all (λ n. list_any (same_int n) (constants_of S)) (append_all (map numbers_of_part (parts_of_model E)))

-- ---- the numbers that a tree may spell after a rewriting

-- Whether a list that stands directly in the operator may lose its items.
abbrev pub drops_items : Op → Bool
drops_items (word Fun.Sum) = true
drops_items (word Fun.Product) = true
drops_items (word Fun.And) = true
drops_items (word Fun.Or) = true
drops_items (word Fun.Min) = true
drops_items (word Fun.Max) = true
drops_items (word Fun.AllDiff) = true
drops_items (binary Op2.LexLt) = true
drops_items (binary Op2.LexLe) = true
drops_items (binary Op2.LexGt) = true
drops_items (binary Op2.LexGe) = true
drops_items op = false

-- Tuples and records aren't counted, and neither are lists, sets and multisets without an index domain that stand
-- directly in a fold or beside a lexicographic sign. `inside` says that the literal stands in such a place.
abbrev pub counted_op : Bool → Op → ℕ → List ℤ
counted_op inside tuple_literal n = []
counted_op inside (record_literal fs) n = []
counted_op inside op n = if inside then [] else counts_of_op op n

abbrev mutual
  -- The numbers of a resolved tree, and the numbers from 1 to the number of items of its counted literals.
  pub tree_constants : Bool → Ex → List ℤ
  tree_constants inside (number_ex n) = n ∷ []
  tree_constants inside (truth_ex b) = []
  tree_constants inside (name_ex a) = []
  tree_constants inside (node_ex b op es) = counted_op inside op (operand_count es) ++ operand_constants (drops_items op) es
  tree_constants inside (matrix_ex es d) = one_to (operand_count es) ++ operand_constants false es ++ dom_constants d
  tree_constants inside (comp_ex e gs) = tree_constants false e ++ gens_constants gs
  tree_constants inside (cell_ex b n es) = operand_constants false es
  tree_constants inside (seen_ex r d ns es) = dom_constants d ++ operand_constants false es

  -- The constants of operands.
  pub operand_constants : Bool → Exs → List ℤ
  operand_constants inside no_exs = []
  operand_constants inside (more_exs e es) = tree_constants inside e ++ operand_constants inside es

  -- The constants of generators.
  pub gens_constants : Gens → List ℤ
  gens_constants no_gens = []
  gens_constants (over p d gs) = dom_constants d ++ gens_constants gs
  gens_constants (from p e gs) = tree_constants false e ++ gens_constants gs
  gens_constants (cond e gs) = tree_constants false e ++ gens_constants gs

  -- The constants of a domain.
  pub dom_constants : Dom → List ℤ
  dom_constants bool_dom = []
  dom_constants (int_dom rs es) = operand_constants false es
  dom_constants (name_dom a) = []
  dom_constants (tuple_dom ds) = doms_constants ds
  dom_constants (record_dom fs ds) = doms_constants ds
  dom_constants (matrix_dom is d) = doms_constants is ++ dom_constants d
  dom_constants (set_dom ms es d) = operand_constants false es ++ dom_constants d
  dom_constants (mset_dom ms es d) = operand_constants false es ++ dom_constants d
  dom_constants (function_dom ms es d c) = operand_constants false es ++ dom_constants d ++ dom_constants c
  dom_constants (relation_dom ms es ds) = operand_constants false es ++ doms_constants ds
  dom_constants (partition_dom ms es d) = operand_constants false es ++ dom_constants d

  -- The constants of several domains.
  pub doms_constants : Doms → List ℤ
  doms_constants no_doms = []
  doms_constants (more_doms d ds) = dom_constants d ++ doms_constants ds

-- The constants of a tree: 0, 1 and 2 too.
abbrev pub constants_of_tree : Ex → List ℤ
constants_of_tree e = pos 0 ∷ pos 1 ∷ pos 2 ∷ tree_constants false e

-- Each number that one tree spells is a constant of another.
abbrev pub among_constants : List ℤ → List ℤ → Bool
among_constants ns ms = list_all (λ n. list_any (same_int n) ms) ns
