-- Views in the place of names, and the way from a constraint to its rule. Over tables a value of a named type counts as its position.
use Rattle.std.specs.Prelude.{◌≡◌, ℕ, Bool, true, List, [], ◌++◌, pos, Some, None, IsTrue, false}
use Rattle.ess_semantics.specs.Lists.{or_default}
use Rattle.ess_semantics.specs.Values.{Text, Value, item}
use Rattle.ess_semantics.specs.Names.{Names, look, keys, is_among}
use Rattle.ess_semantics.specs.Trees.{Repr, Ex, number_ex, name_ex, seen_ex, no_exs, Dom, Stm, given, find}
use Rattle.ess_semantics.specs.Tables.{Table}
use Rattle.ess_semantics.specs.TableNames.{Named}
use Rattle.ess_semantics.specs.Substitution.{substitute}
use Rattle.ess_semantics.specs.Meaning.{Env, meaning, domain_of, is_true}
use Rattle.ess_semantics.specs.Positions.{with_tables}
use Rattle.ess_semantics.specs.Meets.{Meets, MeetsDom}
use Rattle.ess_semantics.specs.Kept.{KeptWhere}
use Rattle.ess_semantics.specs.Prepared.{prepared}
use Rattle.ess_semantics.specs.Assignments.{Assignment, value_of, env_of}
use Rattle.ess_semantics.specs.Parameters.{Param}
use Rattle.ess_semantics.specs.Solutions.{InDomains}
use Rattle.ess_semantics.specs.Plans.{Options, Side, value_plan, plans, plan_domain}
use Rattle.ess_semantics.specs.ModelTrees.{Model, all_decls}
use Rattle.ess_semantics.specs.ModelMeaning.{model_value}
use Rattle.ess_semantics.specs.Satisfaction.{tables_fit}
use Rattle.conjure_laws.specs.Members.{In}
use Rattle.conjure_laws.specs.Premises.{Instance, here}
use Rattle.conjure_laws.specs.ModelPremises.{Canonical}

-- ---- envs over tables

-- The env over tables: values count as positions, and these names have values.
abbrev pub tables_with : List Stm → Assignment → Names Table → Names Value → Env
tables_with S p cs h = record { positions = true; types = (here S p).types; vals = h; cells = cs }

-- No name has a value.
abbrev pub over_tables : List Stm → Assignment → Names Table → Env
over_tables S p cs = tables_with S p cs []

-- What rules of rewriting may count on: the tables are the given tables of a parameter and tables that fit the declarations.
pub record AtTables (S : List Stm) (o : Options) (M : Model) (env : Env) : Type 0 where
  pub p : Assignment
  pub q : Names Table
  pub c : Names Table
  pub instance : Instance S o p q
  pub fit : tables_fit (all_decls M) q M.finds c ≡ true
  pub is : env ≡ over_tables S p (q ++ c)

-- ---- views

-- The expression is the view of a given or find by one of its plans. Its domain, with views put in, is that of the plan.
pub record ViewOf (S : List Stm) (o : Options) (x : Text) (w : Ex) : Type 0 where
  pub f : Side
  pub r : Repr
  pub d : Dom
  pub ns : List Named
  pub e : Dom
  pub planned : In (value_plan f x r d ns) (plans S o)
  pub is : w ≡ seen_ex r e (keys ns) no_exs
  pub domain : (p : Assignment) (q c : Names Table) (h : Names Value) → Instance S o p q →
      domain_of e (tables_with S p (q ++ c) h) ≡ plan_domain d (here S p)
  pub meets : (p : Assignment) (q c : Names Table) (h : Names Value) → Instance S o p q → MeetsDom e (tables_with S p (q ++ c) h)

-- The expression is the position of a value of an enumerated type, in the place of its name.
pub record PositionOf (S : List Stm) (x : Text) (w : Ex) : Type 0 where
  pub t : Text
  pub k : ℕ
  pub is : w ≡ number_ex (pos k)
  pub value : (p a : Assignment) → Param S p → look (env_of S p a).vals x ≡ Some (item t k)

-- What may be put in the place of a name.
pub data Shown (S : List Stm) (o : Options) (x : Text) (w : Ex) : Type 0 where
  by_view : ViewOf S o x w → Shown S o x w
  by_position : PositionOf S x w → Shown S o x w

-- What stands for a name: its view or position, or the name itself.
abbrev pub view_or_name : Names Ex → Text → Ex
view_or_name vs a = or_default (look vs a) (name_ex a)

-- The tree with views and positions in the place of names.
abbrev pub viewed : Names Ex → Ex → Ex
viewed vs e = substitute (view_or_name vs) e

-- Names that are in use (n) have a value where they are givens or finds, and no others have one but those in vs; the types
-- are those of
-- the parameter. (From the judgements on scope.)
pub record NamesHaveValues (S : List Stm) (vs : Names Ex) (n : Text → Bool) : Type 0 where
  pub types : (p a : Assignment) → Param S p → (env_of S p a).types ≡ (here S p).types
  pub of_given : (p a : Assignment) (x : Text) (d : Dom) (v : Value) → Param S p → In (given x d) (prepared S) →
      value_of p x ≡ Some v →
      look (env_of S p a).vals x ≡ Some v
  pub of_find : (p a : Assignment) (x : Text) (d : Dom) (v : Value) → Param S p → In (find x d) (prepared S) → value_of a x ≡ Some v →
      look (env_of S p a).vals x ≡ Some v
  pub of_no_other : (p a : Assignment) (x : Text) → Param S p → IsTrue (n x) → is_among (keys vs) x ≡ false →
      look (env_of S p a).vals x ≡ None

-- The viewed tree means over tables what the tree means over values with positions, and its structures are met.
abbrev pub ViewKept : List Stm → Options → Names Ex → Ex → Type 0
ViewKept S o vs e =
    (p a : Assignment) (q c : Names Table) → Instance S o p q → Canonical S o p a c →
    (meaning (viewed vs e) (over_tables S p (q ++ c)) ≡ meaning e (with_tables (env_of S p a) (q ++ c))) ×
    Meets (viewed vs e) (over_tables S p (q ++ c))

-- A constraint is true over values with positions where it is over values. (From types: values that are compared are of one type.)
abbrev pub PositionsKeepTruth : List Stm → Ex → Type 0
PositionsKeepTruth S e =
    (p a : Assignment) (cs : Names Table) → Param S p → InDomains S p a →
    is_true (meaning e (with_tables (env_of S p a) cs)) ≡ is_true (meaning e (env_of S p a))

-- ---- from a constraint to its rule

-- The rule means over the tables of a model what the tree that it is lowered from means. (From the tree of models.)
abbrev pub Lowered : List Stm → Options → Model → Ex → Ex → Type 0
Lowered S o M r e =
    (p : Assignment) (q c : Names Table) → Instance S o p q → tables_fit (all_decls M) q M.finds c ≡ true →
    model_value (all_decls M) (q ++ c) r ≡ meaning e (over_tables S p (q ++ c))

-- The way of one constraint: e as the specification has it, r as the model has it.
pub record Chain (S : List Stm) (o : Options) (M : Model) (vs : Names Ex) (e r : Ex) : Type 0 where
  -- bound names told apart
  pub told : Ex
  pub same : (env : Env) → meaning told env ≡ meaning e env
  -- positions in the place of values of named types
  pub positions : PositionsKeepTruth S told
  -- views in the place of names (`view-kept`)
  pub kept : ViewKept S o vs told
  -- made total, refined, simplified: a chain of rewritings (ess_guard_laws, ess_rules_laws)
  pub refined : Ex
  pub rewritten : KeptWhere (AtTables S o M) (viewed vs told) refined
  -- lowered
  pub lowered : Lowered S o M r refined

-- The way of one rule of a plan's structure: as a tree over views it says t of the tables, its structures are met by any
-- tables, and rewritings and lowering lead to the rule.
pub record StructureChain (S : List Stm) (o : Options) (M : Model) (says : Env → Bool) (r : Ex) : Type 0 where
  pub tree : Ex
  -- the structure constraint (ess_repr_laws)
  pub means : (env : Env) → AtTables S o M env → is_true (meaning tree env) ≡ says env
  pub met : (env : Env) → AtTables S o M env → Meets tree env
  pub refined : Ex
  pub rewritten : KeptWhere (AtTables S o M) tree refined
  pub lowered : Lowered S o M r refined
