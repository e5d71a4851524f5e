-- Expressions and declarations of models in Essence Prime (the Conjure manual, chapter on its output; the Essence Prime
-- description of Savile Row): which trees they are, and how a tree as it is read becomes one of a model, where declared
-- names and tables are cells.
use Rattle.std.specs.Prelude.{Bool, true, false, ◌&&◌, ◌||◌, not, if◌then◌else◌, List, [], ◌∷◌, ◌++◌, map, Option, Some, None}
use Rattle.std.specs.Option.{is_some}
use Rattle.std.specs.List.{list_all}
use Rattle.ess_semantics.specs.declared.words.Op2.{Op2}
use Rattle.ess_semantics.specs.declared.words.Fun.{Fun}
use Rattle.ess_semantics.specs.Values.{Text}
use Rattle.ess_semantics.specs.Names.{Names, look, is_among}
use Rattle.ess_semantics.specs.Trees.{Op, unary, binary, index, matrix_literal, Pat, name_pat, Ex, Exs, number_ex, truth_ex, name_ex, node_ex, comp_ex, cell_ex, no_exs, more_exs, Gens, no_gens, over, from, cond, Dom, bool_dom, int_dom, matrix_dom, is_truth_op}
use Rattle.ess_semantics.specs.Kinds.{dom_list, is_bounded}
use Rattle.ess_semantics.specs.Meaning.{is_bool_dom}
use Rattle.ess_semantics.specs.DeclaredTables.{TableDecl}
use Rattle.ess_semantics.specs.ModelTrees.{Goal, no_goal, least, greatest, Model}
use Rattle.ess_grammar.specs.Readable.{is_name_token, is_number_token, some_gens, fit_ranges}

-- What earlier lines declare: each name with whether its cells are truth values, and the names that are found.
pub record Scope : Type 0 where
  pub tables : Names Bool
  pub finds : List Text

-- Before the first line.
abbrev pub empty_scope : Scope
empty_scope = record { tables = []; finds = [] }

-- With a given, or a find, more.
abbrev pub with_given : Scope → TableDecl → Scope
with_given s t = record { tables = (t.name, is_bool_dom t.cell) ∷ s.tables; finds = s.finds }

-- The same for a find.
abbrev pub with_find : Scope → TableDecl → Scope
with_find s t = record { tables = (t.name, is_bool_dom t.cell) ∷ s.tables; finds = t.name ∷ s.finds }

-- Whether the cells of a table are truth values; those of a name that isn't declared count as numbers.
abbrev pub is_truth_table : Scope → Text → Bool
is_truth_table s a = elim (look s.tables a) [ Some b ↦ b | None ↦ false ]

-- The names that generators of models bind.
abbrev pub names_of_gens : Gens → List Text
names_of_gens no_gens = []
names_of_gens (over (name_pat a) d gs) = a ∷ names_of_gens gs
names_of_gens (over p d gs) = names_of_gens gs
names_of_gens (from p e gs) = names_of_gens gs
names_of_gens (cond e gs) = names_of_gens gs

-- ---- from trees as they are read

-- A name that is declared, or not.
abbrev pub cell_or_name : Text → Option Bool → Ex
cell_or_name a (Some b) = cell_ex b a no_exs
cell_or_name a None = name_ex a

-- What a name stands for inside generators that bind the names g: one of these, else a declared cell.
abbrev pub named_cell : Scope → List Text → Text → Ex
named_cell s g a = if is_among g a then name_ex a else cell_or_name a (look s.tables a)

-- A node whose operands have their cells: a name with indices is an access to the table of that name.
abbrev pub cell_or_node : Scope → Bool → Op → Exs → Ex
cell_or_node s b (index ss) (more_exs (name_ex a) es) = cell_ex (is_truth_table s a) a es
cell_or_node s b (index ss) (more_exs (cell_ex c a no_exs) es) = cell_ex c a es
cell_or_node s b op es = node_ex b op es

-- The pattern's name, where it is one.
abbrev pub name_of_pat : Pat → List Text
name_of_pat (name_pat a) = a ∷ []
name_of_pat p = []

abbrev mutual
  -- The tree with cells, inside generators that bind the names g.
  pub with_cells : Scope → List Text → Ex → Ex
  with_cells s g (name_ex a) = named_cell s g a
  with_cells s g (node_ex b op es) = cell_or_node s b op (all_with_cells s g es)
  with_cells s g (comp_ex e gs) = comp_ex (with_cells s (names_of_gens gs ++ g) e) (gens_with_cells s g gs)
  with_cells s g e = e

  -- The same of several.
  pub all_with_cells : Scope → List Text → Exs → Exs
  all_with_cells s g no_exs = no_exs
  all_with_cells s g (more_exs e es) = more_exs (with_cells s g e) (all_with_cells s g es)

  -- The same of generators: a name is bound in those behind its own.
  pub gens_with_cells : Scope → List Text → Gens → Gens
  gens_with_cells s g no_gens = no_gens
  gens_with_cells s g (over p d gs) = over p (dom_with_cells s g d) (gens_with_cells s (name_of_pat p ++ g) gs)
  gens_with_cells s g (from p e gs) = from p (with_cells s g e) (gens_with_cells s (name_of_pat p ++ g) gs)
  gens_with_cells s g (cond e gs) = cond (with_cells s g e) (gens_with_cells s g gs)

  -- The same of a domain.
  pub dom_with_cells : Scope → List Text → Dom → Dom
  dom_with_cells s g (int_dom rs es) = int_dom rs (all_with_cells s g es)
  dom_with_cells s g d = d

-- ---- forms

-- Operators between two expressions of models.
abbrev pub is_plain_operator : Op2 → Bool
is_plain_operator Op2.Member = false
is_plain_operator Op2.Subset = false
is_plain_operator Op2.SubsetEq = false
is_plain_operator Op2.Supset = false
is_plain_operator Op2.SupsetEq = false
is_plain_operator Op2.Union = false
is_plain_operator Op2.Intersect = false
is_plain_operator Op2.LexLt = false
is_plain_operator Op2.LexLe = false
is_plain_operator Op2.LexGt = false
is_plain_operator Op2.LexGe = false
is_plain_operator _ = true

-- Signs between two lists.
abbrev pub is_lex_operator : Op2 → Bool
is_lex_operator Op2.LexLt = true
is_lex_operator Op2.LexLe = true
is_lex_operator Op2.LexGt = true
is_lex_operator Op2.LexGe = true
is_lex_operator _ = false

-- Words over a list.
abbrev pub is_fold : Fun → Bool
is_fold Fun.And = true
is_fold Fun.Or = true
is_fold Fun.Sum = true
is_fold Fun.Product = true
is_fold Fun.Min = true
is_fold Fun.Max = true
is_fold Fun.AllDiff = true
is_fold _ = false

-- Whether two truth values are the same.
abbrev pub same_truth : Bool → Bool → Bool
same_truth true b = b
same_truth false b = not b

-- Whether the name may stand: where f is false, no name that an earlier line declares as a find.
abbrev pub may_stand : Scope → Bool → Text → Bool
may_stand s f a = is_name_token a && (f || not (is_among s.finds a))

-- Whether a cell without indices is a declared name that no generator around it binds.
abbrev pub is_plain_cell : List Text → Text → Bool → Option Bool → Bool
is_plain_cell g a b (Some c) = same_truth b c && not (is_among g a)
is_plain_cell g a b None = false

abbrev mutual
  -- Whether the tree is an expression of a model, inside generators that bind g; f says whether a find may stand in it.
  pub is_model_ex : Scope → Bool → List Text → Ex → Bool
  is_model_ex s f g (number_ex n) = is_number_token n
  is_model_ex s f g (truth_ex b) = true
  is_model_ex s f g (name_ex a) = is_name_token a && (is_among g a || not (is_some (look s.tables a)))
  is_model_ex s f g (cell_ex b a no_exs) = may_stand s f a && is_plain_cell g a b (look s.tables a)
  is_model_ex s f g (cell_ex b a (more_exs e es)) =
      may_stand s f a && same_truth b (is_truth_table s a) && is_model_ex s f g e && are_model_exs s f g es
  is_model_ex s f g (node_ex b op es) = same_truth b (is_truth_op op) && is_model_node s f g op es
  is_model_ex s f g e = false

  -- Whether a model may have an operator with these operands.
  pub is_model_node : Scope → Bool → List Text → Op → Exs → Bool
  is_model_node s f g (unary o) (more_exs a no_exs) = is_model_ex s f g a
  is_model_node s f g (Op.word Fun.ToInt) (more_exs a no_exs) = is_model_ex s f g a
  is_model_node s f g (Op.word o) (more_exs a no_exs) = is_fold o && is_model_list s f g a
  is_model_node s f g (binary o) (more_exs a (more_exs b no_exs)) =
      if is_lex_operator o then is_model_list s f g a && is_model_list s f g b
      else is_plain_operator o && is_model_ex s f g a && is_model_ex s f g b
  is_model_node s f g op es = false

  -- Whether the tree is a list: items, of which there may be none, or a comprehension.
  pub is_model_list : Scope → Bool → List Text → Ex → Bool
  is_model_list s f g (node_ex b matrix_literal es) = not b && are_model_exs s f g es
  is_model_list s f g (comp_ex e gs) = some_gens gs && is_model_ex s f (names_of_gens gs ++ g) e && are_model_gens s g gs
  is_model_list s f g e = false

  -- Whether all are expressions of a model.
  pub are_model_exs : Scope → Bool → List Text → Exs → Bool
  are_model_exs s f g no_exs = true
  are_model_exs s f g (more_exs e es) = is_model_ex s f g e && are_model_exs s f g es

  -- Whether they are generators over bool or bounded ranges and conditions, without finds.
  pub are_model_gens : Scope → List Text → Gens → Bool
  are_model_gens s g no_gens = true
  are_model_gens s g (over (name_pat a) d gs) = may_stand s false a && is_model_dom s false g d && are_model_gens s (a ∷ g) gs
  are_model_gens s g (cond e gs) = is_model_ex s false g e && are_model_gens s g gs
  are_model_gens s g gs = false

  -- Whether the tree is bool or int with ranges whose bounds have no find; where h is true a bound may be left out.
  pub is_model_dom : Scope → Bool → List Text → Dom → Bool
  is_model_dom s h g bool_dom = true
  is_model_dom s h g (int_dom rs es) = (h || is_bounded rs) && fit_ranges rs es && are_model_exs s false g es
  is_model_dom s h g d = false

-- ---- declarations and models

-- A declared table of a domain as it is read: a matrix has axes.
abbrev pub table_of : Scope → Text → Dom → TableDecl
table_of s a (matrix_dom ds d) = record { name = a; axes = map (dom_with_cells s []) (dom_list ds); cell = dom_with_cells s [] d }
table_of s a d = record { name = a; axes = []; cell = dom_with_cells s [] d }

-- A model as it is read: the domains of its names in order, its objective and its constraints.
pub record ReadModel : Type 0 where
  pub givens : Names Dom
  pub finds : Names Dom
  pub goal : Goal
  pub rules : List Ex

-- The declared tables, in scopes that grow from line to line.
abbrev pub tables_of : (Scope → TableDecl → Scope) → Scope → Names Dom → List TableDecl
tables_of add s [] = []
tables_of add s (d ∷ ds) = let t : TableDecl = table_of s d.0 d.1 in t ∷ tables_of add (add s t) ds

-- The scope behind declared tables.
abbrev pub scope_behind : (Scope → TableDecl → Scope) → Scope → List TableDecl → Scope
scope_behind add s [] = s
scope_behind add s (t ∷ ts) = scope_behind add (add s t) ts

-- An objective with cells.
abbrev pub goal_with_cells : Scope → Goal → Goal
goal_with_cells s no_goal = no_goal
goal_with_cells s (least e) = least (with_cells s [] e)
goal_with_cells s (greatest e) = greatest (with_cells s [] e)

-- The model that is read.
abbrev pub model_of : ReadModel → Model
model_of m =
    let gs : List TableDecl = tables_of with_given empty_scope m.givens in
    let s : Scope = scope_behind with_given empty_scope gs in
    let fs : List TableDecl = tables_of with_find s m.finds in
    let t : Scope = scope_behind with_find s fs in
    record { givens = gs; finds = fs; goal = goal_with_cells t m.goal; rules = map (with_cells t []) m.rules }

-- Whether the declarations are those of a model, in scopes that grow: each name is new, axes and cells are bool or int.
abbrev pub are_model_tables : (Scope → TableDecl → Scope) → Scope → List TableDecl → Bool
are_model_tables add s [] = true
are_model_tables add s (t ∷ ts) =
    is_name_token t.name && not (is_some (look s.tables t.name)) && list_all (is_model_dom s true []) t.axes
    && is_model_dom s true [] t.cell
    && are_model_tables add (add s t) ts

-- Whether the objective is one of a model.
abbrev pub is_model_goal : Scope → Goal → Bool
is_model_goal s no_goal = true
is_model_goal s (least e) = is_model_ex s true [] e
is_model_goal s (greatest e) = is_model_ex s true [] e

-- Whether the tree is a model that some text has.
abbrev pub is_readable_model : Model → Bool
is_readable_model m =
    let s : Scope = scope_behind with_given empty_scope m.givens in
    let t : Scope = scope_behind with_find s m.finds in
    are_model_tables with_given empty_scope m.givens && are_model_tables with_find s m.finds && is_model_goal t m.goal
    && list_all (is_model_ex t true []) m.rules
