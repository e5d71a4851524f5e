-- What the layers deliver of a model, each fact of one plan, one find or one constraint alone. From these it follows that the
-- model stands for its specification.
use Rattle.std.specs.Prelude.{◌≡◌, Bool, true, not, List, [], ◌∷◌, ◌++◌, map, filter, Some}
use Rattle.std.specs.List.{list_all, list_any}
use Rattle.ess_semantics.specs.Lists.{append_all}
use Rattle.ess_semantics.specs.Values.{Value}
use Rattle.ess_semantics.specs.Order.{same, same_int}
use Rattle.ess_semantics.specs.Names.{Names}
use Rattle.ess_semantics.specs.Trees.{Ex, Stm}
use Rattle.ess_semantics.specs.Domains.{Domain}
use Rattle.ess_semantics.specs.Tables.{Table, Tables}
use Rattle.ess_semantics.specs.Cells.{cells_of}
use Rattle.ess_semantics.specs.CanonicalTest.{canonical}
use Rattle.ess_semantics.specs.DeclaredTables.{decl_name, DeclaredAs}
use Rattle.ess_semantics.specs.Contexts.{Each}
use Rattle.ess_semantics.specs.Meaning.{meaning, is_true}
use Rattle.ess_semantics.specs.Prepared.{prepared}
use Rattle.ess_semantics.specs.Assignments.{Assignment, placed, env_of}
use Rattle.ess_semantics.specs.Solutions.{InDomains, objective_has_value}
use Rattle.ess_semantics.specs.Plans.{Options, finds_side, givens_side, Plan, size_plan, value_plan, plans, plans_for, table_list, declared_under, value_names, is_plan_of, canonical_tables}
use Rattle.ess_semantics.specs.ModelTrees.{Header, Model, all_decls, header_of, goal_of, same_direction}
use Rattle.ess_semantics.specs.ModelMeaning.{model_domain}
use Rattle.ess_semantics.specs.Satisfaction.{tables_fit, rule_holds, goal_value}
use Rattle.ess_semantics.specs.Occurrences.{parts_of}
use Rattle.ess_semantics.specs.Constants.{numbers_of_part, constants_of, parts_of_decl, parts_of_goal}
use Rattle.ess_semantics.specs.SizeNumbers.{are_plain, numbers_are_small}
use Rattle.ess_semantics.specs.LargeModels.{declares_large}
use Rattle.ess_semantics.specs.Models.{constraints_of, objective_at, is_flat, with_cells}
use Rattle.conjure_laws.specs.SideBySide.{Along}
use Rattle.conjure_laws.specs.Premises.{Instance, Ground, TablesOf, PlanHolds}

-- ---- of declarations: from the layer that declares tables

-- The model declares the tables of the plans, by name and with their members under each parameter.
pub record DeclaresTables (S : List Stm) (o : Options) (E : Model) : Type 0 where
  pub given_names : map decl_name E.givens ≡ table_list givens_side S o
  pub find_names : map decl_name E.finds ≡ table_list finds_side S o
  pub given_domains : (p : Assignment) (q : Names Table) → Instance S o p q →
      DeclaredAs (model_domain (all_decls E) q) E.givens (declared_under givens_side S o p)
  pub find_domains : (p : Assignment) (q : Names Table) → Instance S o p q →
      DeclaredAs (model_domain (all_decls E) q) E.finds (declared_under finds_side S o p)

-- What speaks of no rule: so it may be used for what is said of them.
pub record Base (S : List Stm) (o : Options) (E : Model) : Type 0 where
  pub ground : Ground S o
  pub declares : DeclaresTables S o E

-- ---- of one plan's structure, and of one pair of plans (ess_repr_laws: structures_mean_canonical, by `structure-from-chain`)

-- Over tables that fit the declarations, the plan's rules say that its tables are canonical.
abbrev pub StructureMeans : List Stm → Options → Model → Plan → List Ex → Type 0
StructureMeans S o E (size_plan t n) rs = Unit {0}
StructureMeans S o E (value_plan f x r d ns) rs =
    (p : Assignment) (q c : Names Table) (e : Domain) (ts : Tables) → Instance S o p q → tables_fit (all_decls E) q E.finds c ≡ true →
    TablesOf S p c r d ns e ts → list_all (rule_holds E q c) rs ≡ canonical r e (cells_of ts)

-- Where both structures hold, the rules of a pair of plans say that both stand for one value.
abbrev pub ChannelMeans : List Stm → Options → Model → Plan → Plan → List Ex → Type 0
ChannelMeans S o E P Q rs =
    (p : Assignment) (q c : Names Table) (v w : Value) → Instance S o p q → tables_fit (all_decls E) q E.finds c ≡ true →
    PlanHolds S p c P v → PlanHolds S p c Q w → list_all (rule_holds E q c) rs ≡ same v w

-- The channelling of a find: of its first representation with each further one.
abbrev pub ChannelsMean : List Stm → Options → Model → List Plan → List (List Ex) → Type 0
ChannelsMean S o E [] css = ⊥
ChannelsMean S o E (P ∷ Qs) css = Along Qs css (ChannelMeans S o E P)

-- ---- of one constraint, and of the objective (ess_rules_laws and ess_guard_laws, by `rule-from-chain`)

-- c are the canonical tables of members a.
pub record Canonical (S : List Stm) (o : Options) (p a : Assignment) (c : Names Table) : Type 0 where
  pub members : InDomains S p a
  pub tables : canonical_tables finds_side S o p a ≡ Some c

-- The rule is true at canonical tables where the constraint is at what they stand for.
abbrev pub RuleMeans : List Stm → Options → Model → Ex → Ex → Type 0
RuleMeans S o E e r =
    (p a : Assignment) (q c : Names Table) → Instance S o p q → Canonical S o p a c →
    rule_holds E q c r ≡ is_true (meaning e (env_of S p a))

-- The same of the objective: its rules say that it has a value, and where it has one it is the model's.
pub record GoalMeans (S : List Stm) (o : Options) (E : Model) (rs : List Ex) : Type 0 where
  pub has_value : (p a : Assignment) (q c : Names Table) → Instance S o p q → Canonical S o p a c →
      list_all (rule_holds E q c) rs ≡ list_all (λ l. objective_has_value l.stm l.env) (placed S p a)
  pub value : (p a : Assignment) (q c : Names Table) → Instance S o p q → Canonical S o p a c →
      list_all (λ l. objective_has_value l.stm l.env) (placed S p a) ≡ true → goal_value E q c ≡ objective_at (placed S p a)

-- ---- the rules of a model

-- The rules of a model stand in this order: structures, channels, the objective's, and those of constraints.
pub record Rules (S : List Stm) (o : Options) (E : Model) : Type 0 where
  pub structures : List (List Ex)
  pub channels : List (List (List Ex))
  pub goals : List Ex
  pub rules : List Ex
  pub all : E.rules ≡ (append_all structures ++ append_all (map append_all channels) ++ goals) ++ rules
  pub structures_mean : Along (plans_for finds_side S o) structures (StructureMeans S o E)
  pub channels_mean : Along (value_names finds_side S) channels (λ x css. ChannelsMean S o E (filter (is_plan_of x) (plans S o)) css)
  pub goals_mean : GoalMeans S o E goals
  pub rules_mean : Along (constraints_of (prepared S)) rules (RuleMeans S o E)

-- The layers at a specification and a model.
pub record Layers (S : List Stm) (o : Options) (E : Model) : Type 0 where
  pub base : Base S o E
  pub rules : Rules S o E

-- ---- of the text of a model: from the top call

-- Each number in these parts is a constant of the specification.
abbrev pub spelled : List Stm → List Ex → Bool
spelled S ps = list_all (λ n. list_any (same_int n) (constants_of S)) (append_all (map numbers_of_part ps))

-- The header, the direction of the objective, the numbers that are spelled, flat constraints, and that domains stay small.
pub record Texts (S : List Stm) (o : Options) (H : Header) (E : Model) (rules : List Ex) : Type 0 where
  pub header : H ≡ header_of S o
  pub direction : same_direction E.goal (goal_of S) ≡ true
  pub decls : Each (all_decls E) (λ d. spelled S (parts_of_decl d) ≡ true)
  pub goal : spelled S (parts_of_goal E.goal) ≡ true
  pub spells : Each E.rules (λ r. spelled S (parts_of r) ≡ true)
  -- a flat constraint keeps its form
  pub flat : Along (constraints_of S) rules (λ e r. is_flat (plans S o) e ≡ true → r ≡ with_cells (plans S o) e)
  pub small : (p : Assignment) (q : Names Table) → Instance S o p q → are_plain S ≡ true → numbers_are_small S o p ≡ true →
      not (declares_large E q) ≡ true
