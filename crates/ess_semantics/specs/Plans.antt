-- How a whole specification is kept in tables: of each given and find the representations, their tables' names, and the
-- size of each given enumerated type; and what tables stand for an assignment.
use Rattle.std.specs.Prelude.{◌≡◌, ℕ, ◌+◌, Bool, true, false, ◌&&◌, not, if◌then◌else◌, List, [], ◌∷◌, ◌++◌, map, length, filter, pos, Option, Some, None, option_map, IsTrue, codes}
use Rattle.std.specs.List.{list_all}
use Rattle.ess_semantics.specs.Lists.{and_then, when, each_of, or_default, append_all, zip, is_some_and, list_or_none}
use Rattle.ess_semantics.specs.Values.{Text, Value}
use Rattle.ess_semantics.specs.Order.{same, same_int, same_text}
use Rattle.ess_semantics.specs.Names.{Names, look, keys, without}
use Rattle.ess_semantics.specs.Trees.{Repr, Dom, Stm, given, given_enum, find}
use Rattle.ess_semantics.specs.Domains.{Domain, integers}
use Rattle.ess_semantics.specs.Membership.{member}
use Rattle.ess_semantics.specs.Tables.{Table, Tables, one_cell, cell_at}
use Rattle.ess_semantics.specs.Representations.{value_of_tables}
use Rattle.ess_semantics.specs.Declarations.{Declaration, declarations, cell_count}
use Rattle.ess_semantics.specs.Canonical.{tables_of_value}
use Rattle.ess_semantics.specs.Choice.{default_repr, all_reprs}
use Rattle.ess_semantics.specs.TableNames.{Named, table_names, named_tables, free_name}
use Rattle.ess_semantics.specs.Meaning.{Env, domain_of, tables_in}
use Rattle.ess_semantics.specs.Positions.{with_positions, domain_with_positions, with_types}
use Rattle.ess_semantics.specs.Prepared.{prepared}
use Rattle.ess_semantics.specs.Assignments.{Assignment, nothing_given, value_of, env_of}
use Rattle.ess_semantics.specs.Parameters.{all_declared, value_givens, given_enums}
use Rattle.ess_semantics.specs.Solutions.{finds}

-- ---- representations

-- The representations that an option names, for some of the names.
abbrev pub Options : Type 0
Options = Names (List Repr)

-- The representations of a name with this domain: those that the option names, else the default.
abbrev pub chosen_reprs : Options → Text → Dom → List Repr
chosen_reprs o x d = or_default (look o x) (default_repr d ∷ [])

-- The given or find of a statement, with its domain.
abbrev pub domain_of_stm : Stm → List (Text × Dom)
domain_of_stm (given x d) = (x, d) ∷ []
domain_of_stm (find x d) = (x, d) ∷ []
domain_of_stm s = []

-- The givens and finds with a domain, in order of declaration, with lettings put in and resolved.
abbrev pub kept_names : List Stm → Names Dom
kept_names S = append_all (map domain_of_stm (prepared S))

-- The representations of all givens and finds.
abbrev pub all_chosen : List Stm → Options → Names (List Repr)
all_chosen S o = map (λ x. (x.0, chosen_reprs o x.0 x.1)) (kept_names S)

-- ---- all lists of representations, one tree for each given and find

-- All lists with one item from each.
abbrev pub choices : List (List Repr) → List (List Repr)
choices [] = [] ∷ []
choices (rs ∷ rss) = append_all (map (λ r. map (λ l. r ∷ l) (choices rss)) rs)

-- All lists of one fitting representation for each given and find with a domain, in lexicographic order.
abbrev pub all_lists : List Stm → List (List Repr)
all_lists S = choices (map (λ x. all_reprs x.1) (kept_names S))

-- ---- plans

-- The givens, or the finds.
pub data Side : Type 0 where
  givens_side finds_side : Side

-- Whether the two are one.
abbrev pub same_side : Side → Side → Bool
same_side givens_side givens_side = true
same_side finds_side finds_side = true
same_side a b = false

-- A given or find with one of its representations, and the names of its tables with their numbers of axes; or a given
-- enumerated type with the name of the cell for its number of values.
pub data Plan : Type 0 where
  size_plan : Text → Text → Plan
  value_plan : Side → Text → Repr → Dom → List Named → Plan

-- The names of a plan's tables.
abbrev pub names_of_plan : Plan → List Named
names_of_plan (size_plan t a) = (a, 0) ∷ []
names_of_plan (value_plan f x r d ns) = ns

-- Each representation of a name gets free names.
abbrev pub plans_of_name : Side → Text → Dom → List Repr → List Text → List Plan
plans_of_name f x d [] taken = []
plans_of_name f x d (r ∷ rs) taken =
    let ns : List Named = named_tables x (table_names r d) taken in
    value_plan f x r d ns ∷ plans_of_name f x d rs (keys ns ++ taken)

-- The plans of a statement.
abbrev pub plans_of_stm : Stm → Options → List Text → List Text → List Plan
plans_of_stm (given x d) o declared done = plans_of_name givens_side x d (chosen_reprs o x d) (without x declared ++ done)
plans_of_stm (given_enum t) o declared done = size_plan t (free_name (declared ++ done) (t ++ codes "_Size")) ∷ []
plans_of_stm (find x d) o declared done = plans_of_name finds_side x d (chosen_reprs o x d) (without x declared ++ done)
plans_of_stm s o declared done = []

-- The names of the tables of several plans.
abbrev pub names_of_plans : List Plan → List Named
names_of_plans ps = append_all (map names_of_plan ps)

-- A name is taken where a statement declares it for something else, and where an earlier table has it.
abbrev pub plans_from : List Stm → Options → List Text → List Text → List Plan
plans_from [] o declared done = []
plans_from (s ∷ ss) o declared done =
    let ps : List Plan = plans_of_stm s o declared done in
    ps ++ plans_from ss o declared (keys (names_of_plans ps) ++ done)

-- The plan of all givens and finds, in order of declaration.
abbrev pub plans : List Stm → Options → List Plan
plans S o = plans_from (prepared S) o (all_declared S) (codes "alldifferent_except" ∷ [])

-- Whether a plan is one of the givens, or of the finds.
abbrev pub side_of : Plan → Side
side_of (size_plan t a) = givens_side
side_of (value_plan f x r d ns) = f

-- The plans of the finds, or of the givens.
abbrev pub plans_for : Side → List Stm → Options → List Plan
plans_for f S o = filter (λ p. same_side (side_of p) f) (plans S o)

-- The tables' names with their numbers of axes.
abbrev pub table_list : Side → List Stm → Options → List Named
table_list f S o = names_of_plans (plans_for f S o)

-- ---- what the tables are under a parameter

-- At least 1.
abbrev pub from_one : Domain
from_one = integers (record { low = Some (pos 1); high = None } ∷ [])

-- The closed domain at which a plan speaks: views over tables have the same one.
abbrev pub plan_domain : Dom → Env → Option Domain
plan_domain d env = option_map domain_with_positions (domain_of d env)

-- The declarations of a plan's tables.
abbrev pub declared_by_plan : Env → Plan → List Declaration
declared_by_plan env (size_plan t a) = record { axes = []; cell = from_one } ∷ []
declared_by_plan env (value_plan f x r d ns) = list_or_none (option_map (declarations r) (plan_domain d env))

-- The axes and cell domains of the tables, under the parameter p.
abbrev pub declared_under : Side → List Stm → Options → Assignment → List Declaration
declared_under f S o p = append_all (map (declared_by_plan (env_of S p nothing_given)) (plans_for f S o))

-- The number of cells of a plan.
abbrev pub cells_of_plan : Env → Plan → ℕ
cells_of_plan env (size_plan t a) = 1
cells_of_plan env (value_plan f x r d ns) = or_default (option_map (cell_count r) (plan_domain d env)) 0

-- The number of cells of several plans.
abbrev pub cells_of_plans : Env → List Plan → ℕ
cells_of_plans env [] = 0
cells_of_plans env (q ∷ qs) = cells_of_plan env q + cells_of_plans env qs

-- Whether a plan is one of this given or find.
abbrev pub is_plan_for : Text → Plan → Bool
is_plan_for x (size_plan t a) = false
is_plan_for x (value_plan f y r d ns) = same_text y x

-- The number of cells of a given or find under the parameter p, over all of its representations.
abbrev pub cells_of_name : List Stm → Options → Assignment → Text → ℕ
cells_of_name S o p x = cells_of_plans (env_of S p nothing_given) (filter (is_plan_for x) (plans S o))

-- ---- what tables stand for

-- Whether there is a value, and it is v.
abbrev pub same_value : Value → Option Value → Bool
same_value v o = is_some_and o (same v)

-- Whether there is a table with the one item n.
abbrev pub same_number : ℕ → Option Table → Bool
same_number n o = is_some_and o (λ t. is_some_and (cell_at t []) (λ k. same_int k (pos n)))

-- The value is a member of the domain, and the tables stand for it: at the domain with positions for the value with
-- positions.
abbrev pub stands_for_member : Repr → Domain → Tables → Value → Bool
stands_for_member r e ts v = member e v && same_value (with_positions v) (value_of_tables r (domain_with_positions e) ts [])

-- Under one plan the tables stand for what the assignment gives.
abbrev pub plan_stands : Env → Assignment → Names Table → Plan → Bool
plan_stands env a c (size_plan t n) = is_some_and (look a.types t) (λ ns. same_number (length ns) (look c n))
plan_stands env a c (value_plan f x r d ns) =
    is_some_and (value_of a x) (λ v. is_some_and (domain_of d env) (λ e. is_some_and (tables_in c (keys ns)) (λ ts. stands_for_member r e ts v)))

-- The names that have values in an assignment of the finds, or of the givens.
abbrev pub value_names : Side → List Stm → List Text
value_names givens_side S = value_givens S
value_names finds_side S = finds S

-- The given enumerated types, where givens are asked for.
abbrev pub type_names : Side → List Stm → List Text
type_names givens_side S = given_enums S
type_names finds_side S = []

-- The tables c stand for the assignment a of the finds, or of the givens, under the parameter p, and hold nothing else.
-- Assignments and tables are in order of declaration.
pub record StandsFor (f : Side) (S : List Stm) (o : Options) (p a : Assignment) (c : Names Table) : Type 0 where
  pub names : keys a.vals ≡ value_names f S
  pub types : keys a.types ≡ type_names f S
  pub tables : keys c ≡ keys (table_list f S o)
  pub each_stands : IsTrue (list_all (plan_stands (env_of S p nothing_given) a c) (plans_for f S o))

-- The tables of the finds stand for the values a.
abbrev pub Stands : List Stm → Options → Assignment → Assignment → Names Table → Type 0
Stands S o p a c = StandsFor finds_side S o p a c

-- ---- the assignment that tables stand for

-- Whether a plan is one of this find.
abbrev pub is_plan_of : Text → Plan → Bool
is_plan_of x (size_plan t a) = false
is_plan_of x (value_plan f y r d ns) = same_side f finds_side && same_text y x

-- The value that tables stand for at the domain with positions, with the domain's types put back.
abbrev pub value_with_types : Repr → Domain → Tables → Option Value
value_with_types r e ts = and_then (value_of_tables r (domain_with_positions e) ts []) (with_types e)

-- The value that the tables of one plan stand for.
abbrev pub value_by_plan : Env → Names Table → Plan → Option Value
value_by_plan env c (size_plan t a) = None
value_by_plan env c (value_plan f x r d ns) =
    and_then (domain_of d env) (λ e. and_then (tables_in c (keys ns)) (λ ts. value_with_types r e ts))

-- The value for which the tables stand by all of these plans.
abbrev pub common_value : Env → Names Table → List Plan → Option Value
common_value env c [] = None
common_value env c (p ∷ ps) =
    and_then (value_by_plan env c p) (λ v. when (list_all (λ q. same_value v (value_by_plan env c q)) ps) v)

-- Of each find, in order of declaration, the value for which the tables stand by all of its representations, if any.
abbrev pub values_stood_for : List Stm → Options → Assignment → Names Table → Names (Option Value)
values_stood_for S o p c =
    map (λ x. (x, common_value (env_of S p nothing_given) c (filter (is_plan_of x) (plans S o)))) (value_names finds_side S)

-- ---- the canonical tables of an assignment

-- The tables by their names.
abbrev pub name_tables : List Named → Tables → Names Table
name_tables ns ts = zip (keys ns) ts

-- The canonical tables of one plan.
abbrev pub canonical_by_plan : Env → Assignment → Plan → Option (Names Table)
canonical_by_plan env a (size_plan t n) = option_map (λ ns. (n, one_cell (pos (length ns))) ∷ []) (look a.types t)
canonical_by_plan env a (value_plan f x r d ns) =
    and_then (value_of a x) (λ v. and_then (plan_domain d env) (λ e. option_map (name_tables ns) (tables_of_value r e (with_positions v))))

-- The canonical tables of the finds, or of the givens, in the assignment a under the parameter p.
abbrev pub canonical_tables : Side → List Stm → Options → Assignment → Assignment → Option (Names Table)
canonical_tables f S o p a = option_map append_all (each_of (plans_for f S o) (canonical_by_plan (env_of S p nothing_given) a))

-- The given tables of a parameter.
abbrev pub given_tables : List Stm → Options → Assignment → Option (Names Table)
given_tables S o p = canonical_tables givens_side S o p p
