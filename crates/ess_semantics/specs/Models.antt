-- What it is that a model stands for a specification: it declares the tables of the specification's representations, and
-- under each parameter the tables that satisfy it stand for exactly the solutions.
--
-- One letter stands for one thing here and in what builds on it:
--   S  the statements of the specification      o  the options, which representations are named
--   H  the header of the model                  E  the model
--   p  a parameter: the values of the givens    q  the given tables
--   a  an assignment: the values of the finds   c  the found tables
use Rattle.std.specs.Prelude.{◌≡◌, ℕ, ◌-◌, Bool, true, false, ◌&&◌, not, if◌then◌else◌, List, [], ◌∷◌, map, length, drop, filter, ℤ, Option, Some, None, IsTrue, is_some}
use Rattle.ess_semantics.specs.DeclaredTables.{decl_name, DeclaredAs}
use Rattle.ess_semantics.specs.declared.words.Op1.{Op1}
use Rattle.ess_semantics.specs.declared.words.Op2.{Op2}
use Rattle.ess_semantics.specs.declared.words.Fun.{Fun}
use Rattle.ess_semantics.specs.Lists.{and_then, append_all, item_number, or_else}
use Rattle.ess_semantics.specs.Values.{Text}
use Rattle.ess_semantics.specs.Order.{same_text}
use Rattle.ess_semantics.specs.Names.{Names, keys}
use Rattle.ess_semantics.specs.Trees.{Op, unary, binary, word, Ex, Exs, number_ex, name_ex, node_ex, cell_ex, no_exs, more_exs, bool_dom, int_dom, Stm, such_that, minimise, maximise}
use Rattle.ess_semantics.specs.Operators.{int_of}
use Rattle.ess_semantics.specs.Tables.{Table}
use Rattle.ess_semantics.specs.Meaning.{Env, meaning}
use Rattle.ess_semantics.specs.LargeModels.{declares_large}
use Rattle.ess_semantics.specs.Assignments.{Assignment, Placed, placed}
use Rattle.ess_semantics.specs.Parameters.{Param}
use Rattle.ess_semantics.specs.Solutions.{InDomains, Sol, constraint_holds}
use Rattle.ess_semantics.specs.Plans.{value_names, Options, Plan, value_plan, plans, table_list, declared_under, Stands, canonical_tables, given_tables, finds_side, givens_side}
use Rattle.ess_semantics.specs.ModelTrees.{Header, Model, is_constraint, header_of, all_decls, goal_of, same_direction}
use Rattle.ess_semantics.specs.ModelMeaning.{model_domain}
use Rattle.ess_semantics.specs.Satisfaction.{rule_holds, Sat, goal_value}
use Rattle.ess_semantics.specs.Constants.{spells_constants}
use Rattle.ess_semantics.specs.SizeNumbers.{are_plain, numbers_are_small}

-- ---- flat constraints

-- The operators of flat constraints.
abbrev pub is_flat_op : Op → Bool
is_flat_op (unary o) = true
is_flat_op (binary Op2.Minus) = true
is_flat_op (binary Op2.Plus) = true
is_flat_op (binary Op2.Times) = true
is_flat_op (binary Op2.Eq) = true
is_flat_op (binary Op2.Ne) = true
is_flat_op (binary Op2.Lt) = true
is_flat_op (binary Op2.Le) = true
is_flat_op (binary Op2.Gt) = true
is_flat_op (binary Op2.Ge) = true
is_flat_op (binary Op2.And) = true
is_flat_op (binary Op2.Or) = true
is_flat_op (binary Op2.Implies) = true
is_flat_op (binary Op2.Iff) = true
is_flat_op (word Fun.ToInt) = true
is_flat_op op = false

-- Whether the operator is `!`.
abbrev pub is_not : Op → Bool
is_not (unary Op1.Not) = true
is_not op = false

-- Whether the operand is a negation.
abbrev pub begins_with_not : Exs → Bool
begins_with_not (more_exs (node_ex b op es) fs) = is_not op
begins_with_not es = false

-- A given or find of type int or bool: its cell, and whether that is a Boolean.
abbrev pub scalar_cell : List Plan → Text → Option (Bool × Text)
scalar_cell [] x = None
scalar_cell (value_plan f y r bool_dom (n ∷ ns) ∷ ps) x = if same_text y x then Some (true, n.0) else scalar_cell ps x
scalar_cell (value_plan f y r (int_dom rs es) (n ∷ ns) ∷ ps) x = if same_text y x then Some (false, n.0) else scalar_cell ps x
scalar_cell (p ∷ ps) x = scalar_cell ps x

abbrev mutual
  -- Numbers, such names, arithmetic, comparisons and connectives alone, with no `!` directly under a `!`.
  pub is_flat : List Plan → Ex → Bool
  is_flat ps (number_ex n) = true
  is_flat ps (name_ex a) = is_some (scalar_cell ps a)
  is_flat ps (node_ex b op es) = is_flat_op op && not (is_not op && begins_with_not es) && are_flat ps es
  is_flat ps e = false

  -- The same of operands.
  pub are_flat : List Plan → Exs → Bool
  are_flat ps no_exs = true
  are_flat ps (more_exs e es) = is_flat ps e && are_flat ps es

-- A name, or its cell.
abbrev pub cell_for : Text → Option (Bool × Text) → Ex
cell_for a None = name_ex a
cell_for a (Some c) = cell_ex c.0 c.1 no_exs

abbrev mutual
  -- The expression with each name's cell in place of the name.
  pub with_cells : List Plan → Ex → Ex
  with_cells ps (name_ex a) = cell_for a (scalar_cell ps a)
  with_cells ps (node_ex b op es) = node_ex b op (all_with_cells ps es)
  with_cells ps e = e

  -- The same of operands.
  pub all_with_cells : List Plan → Exs → Exs
  all_with_cells ps no_exs = no_exs
  all_with_cells ps (more_exs e es) = more_exs (with_cells ps e) (all_with_cells ps es)

-- ---- constraints and objectives, in order

-- The constraint of a statement.
abbrev pub constraint_of : Stm → List Ex
constraint_of (such_that e) = e ∷ []
constraint_of s = []

-- The constraints, in order.
abbrev pub constraints_of : List Stm → List Ex
constraints_of S = append_all (map constraint_of S)

-- As many of the model's last constraints as the specification has.
abbrev pub last_rules : List Stm → Model → List Ex
last_rules S E = drop (length E.rules - length (constraints_of S)) E.rules

-- Whether each constraint holds under the parameter p and the values a.
abbrev pub constraint_truths : List Stm → Assignment → Assignment → List Bool
constraint_truths S p a = map (λ l. constraint_holds l.stm l.env) (filter (λ l. is_constraint l.stm) (placed S p a))

-- Whether each of the model's last constraints holds.
abbrev pub rule_truths : List Stm → Model → Names Table → Names Table → List Bool
rule_truths S E q c = map (rule_holds E q c) (last_rules S E)

-- The value of a statement that is an objective, or nothing.
abbrev pub objective_value : Stm → Env → Option ℤ
objective_value (minimise e) env = and_then (meaning e env) int_of
objective_value (maximise e) env = and_then (meaning e env) int_of
objective_value s env = None

-- The objective's value under p and a, or nothing.
abbrev pub objective_at : List Placed → Option ℤ
objective_at [] = None
objective_at (l ∷ ls) = or_else (objective_value l.stm l.env) (objective_at ls)

-- ---- models

-- The values stand in order of declaration, and no types beside them.
abbrev pub Ordered : List Stm → Assignment → Type 0
Ordered S a = (keys a.vals ≡ value_names finds_side S) × (a.types ≡ [])

-- Under the parameter p with the given tables q, the tables that satisfy the model stand for exactly the solutions.
pub record Represents (S : List Stm) (o : Options) (E : Model) (p : Assignment) (q : Names Table) : Type 0 where
  -- each satisfying assignment stands for exactly one assignment of the finds, and that one is a solution
  pub one_solution : (c : Names Table) → Sat E q c →
      (a : Assignment) × Stands S o p a c × Sol S p a × ((b : Assignment) → Stands S o p b c → b ≡ a)
  -- each solution is stood for; solutions are in order of declaration
  pub each_solution : (a : Assignment) → Sol S p a → Ordered S a → (c : Names Table) × Sat E q c × Stands S o p a c
  -- the objectives agree
  pub same_goal : (c : Names Table) (a : Assignment) → Sat E q c → Stands S o p a c → goal_value E q c ≡ objective_at (placed S p a)
  -- at the canonical tables of members each constraint has its truth
  pub same_constraints : (a : Assignment) (c : Names Table) → InDomains S p a → canonical_tables finds_side S o p a ≡ Some c →
      rule_truths S E q c ≡ constraint_truths S p a

-- The model with this header stands for the specification.
pub record Models (S : List Stm) (o : Options) (H : Header) (E : Model) : Type 0 where
  pub header : H ≡ header_of S o
  pub given_names : map decl_name E.givens ≡ table_list givens_side S o
  pub find_names : map decl_name E.finds ≡ table_list finds_side S o
  pub given_domains : (p : Assignment) (q : Names Table) → Param S p → given_tables S o p ≡ Some q →
      DeclaredAs (model_domain (all_decls E) q) E.givens (declared_under givens_side S o p)
  pub find_domains : (p : Assignment) (q : Names Table) → Param S p → given_tables S o p ≡ Some q →
      DeclaredAs (model_domain (all_decls E) q) E.finds (declared_under finds_side S o p)
  pub goal_direction : IsTrue (same_direction E.goal (goal_of S))
  pub constants : IsTrue (spells_constants S E)
  pub flat : (k : ℕ) (e : Ex) → item_number (constraints_of S) k ≡ Some e → IsTrue (is_flat (plans S o) e) →
      item_number (last_rules S E) k ≡ Some (with_cells (plans S o) e)
  pub represents : (p : Assignment) (q : Names Table) → Param S p → given_tables S o p ≡ Some q → Represents S o E p q
  pub small_domains : (p : Assignment) (q : Names Table) → Param S p → given_tables S o p ≡ Some q →
      IsTrue (are_plain S) → IsTrue (numbers_are_small S o p) → IsTrue (not (declares_large E q))

-- Under each parameter the satisfying assignments are exactly the canonical tables of solutions. So each solution has
-- exactly one.
pub record IsExact (S : List Stm) (o : Options) (E : Model) : Type 0 where
  pub canonical : (p : Assignment) (q c : Names Table) → Param S p → given_tables S o p ≡ Some q → Sat E q c →
      (a : Assignment) × Sol S p a × (canonical_tables finds_side S o p a ≡ Some c)
  pub satisfies : (p a : Assignment) (q : Names Table) → Param S p → given_tables S o p ≡ Some q → Sol S p a → Ordered S a →
      (c : Names Table) × (canonical_tables finds_side S o p a ≡ Some c) × Sat E q c
