-- What the layers deliver of a specification and its plans, each fact of one statement or one plan alone, and none of a model.
use Rattle.std.specs.Prelude.{◌≡◌, Bool, true, false, ◌&&◌, List, [], ◌∷◌, length, Some}
use Rattle.std.specs.List.{list_all}
use Rattle.ess_semantics.specs.Lists.{is_empty}
use Rattle.ess_semantics.specs.Names.{Names, keys, all_distinct}
use Rattle.ess_semantics.specs.Values.{Value}
use Rattle.ess_semantics.specs.Trees.{Repr, Dom, Stm, given, find, such_that, minimise, maximise}
use Rattle.ess_semantics.specs.Domains.{Domain}
use Rattle.ess_semantics.specs.Tables.{Table, Tables, same_axes, is_filled, is_cell}
use Rattle.ess_semantics.specs.Cells.{cells_of}
use Rattle.ess_semantics.specs.Representations.{value_of_cells}
use Rattle.ess_semantics.specs.Declarations.{Declaration, declarations}
use Rattle.ess_semantics.specs.CanonicalTest.{canonical}
use Rattle.ess_semantics.specs.TableNames.{Named}
use Rattle.ess_semantics.specs.Contexts.{Each}
use Rattle.ess_semantics.specs.Meaning.{Env, meaning, domain_of, tables_in}
use Rattle.ess_semantics.specs.Positions.{domain_with_positions}
use Rattle.ess_semantics.specs.Assignments.{Assignment, nothing_given, placed, env_of}
use Rattle.ess_semantics.specs.Parameters.{Param}
use Rattle.ess_semantics.specs.Plans.{Options, Side, finds_side, same_side, chosen_reprs, kept_names, Plan, size_plan, value_plan, side_of, plans, plan_domain, value_names, given_tables}
use Rattle.ess_repr_laws.specs.Rooms.{Roomy}
use Rattle.ess_repr_laws.specs.TypedDomains.{Typed}

-- ---- an instance

-- p is a parameter, and q are its given tables.
pub record Instance (S : List Stm) (o : Options) (p : Assignment) (q : Names Table) : Type 0 where
  pub param : Param S p
  pub tables : given_tables S o p ≡ Some q

-- What the parameter gives, behind all statements: there the domains of declarations are closed.
abbrev pub here : List Stm → Assignment → Env
here S p = env_of S p nothing_given

-- ---- of statements: from the judgements on scope

-- A statement says at its place what it says behind all statements, and the domain of a given or find depends on no find.
abbrev pub IsSettled : List Stm → Assignment → Assignment → Stm → Env → Type 0
IsSettled S p a (given x d) env = domain_of d env ≡ domain_of d (here S p)
IsSettled S p a (find x d) env = domain_of d env ≡ domain_of d (here S p)
IsSettled S p a (such_that e) env = meaning e env ≡ meaning e (env_of S p a)
IsSettled S p a (minimise e) env = meaning e env ≡ meaning e (env_of S p a)
IsSettled S p a (maximise e) env = meaning e env ≡ meaning e (env_of S p a)
IsSettled S p a s env = Unit {0}

-- So does each statement, and no find is declared twice.
pub record Settled (S : List Stm) : Type 0 where
  pub distinct : all_distinct (value_names finds_side S) ≡ true
  pub settled : (p a : Assignment) → Param S p → Each (placed S p a) (λ l. IsSettled S p a l.stm l.env)

-- ---- of options: from the choice of representations

-- Each given and find has a representation.
abbrev pub AreChosen : List Stm → Options → Type 0
AreChosen S o = Each (kept_names S) (λ x. is_empty (chosen_reprs o x.0 x.1) ≡ false)

-- ---- of one plan: from representations (ess_repr_laws)

-- The representation has room for the members of the plan's domain (members_have_canonical_tables), and positions stand for the
-- named types of the domain (positions_stand_for_types).
pub record RepresentationFits (r : Repr) (e : Domain) : Type 0 where
  pub typed : Typed e
  pub roomy : Roomy r (domain_with_positions e)

-- The representation of a plan fits its domain, and there are as many tables as names (plans_fit_their_domains).
abbrev pub PlanFits : List Stm → Plan → Type 0
PlanFits S (size_plan t n) = Unit {0}
PlanFits S (value_plan f x r d ns) =
    (p : Assignment) (e : Domain) → Param S p → domain_of d (here S p) ≡ Some e →
    RepresentationFits r e × (length ns ≡ length (declarations r (domain_with_positions e)))

-- What speaks of no model.
pub record Ground (S : List Stm) (o : Options) : Type 0 where
  pub settled : Settled S
  pub chosen : AreChosen S o
  pub fit : Each (plans S o) (PlanFits S)

-- ---- the tables of one plan

-- Whether a plan is one of the finds, or of the givens.
abbrev pub is_on : Side → Plan → Bool
is_on f P = same_side (side_of P) f

-- The table is over these axes, and its items lie in this domain.
abbrev pub table_is : Declaration → Table → Bool
table_is d t = is_filled t && same_axes d.axes t.axes && list_all (is_cell d.cell) t.items

-- The same of several tables.
abbrev pub tables_are : List Declaration → Tables → Bool
tables_are [] [] = true
tables_are (d ∷ ds) (t ∷ ts) = table_is d t && tables_are ds ts
tables_are _ _ = false

-- The domain of a plan, and the tables of its names, which are over the declared axes with items in the declared domains.
pub record TablesOf (S : List Stm) (p : Assignment) (c : Names Table) (r : Repr) (d : Dom) (ns : List Named) (e : Domain)
    (ts : Tables) : Type 0 where
  pub closed : plan_domain d (here S p) ≡ Some e
  pub named : tables_in c (keys ns) ≡ Some ts
  pub are : tables_are (declarations r e) ts ≡ true

-- A plan's tables are canonical, and stand for this value with positions.
abbrev pub PlanHolds : List Stm → Assignment → Names Table → Plan → Value → Type 0
PlanHolds S p c (size_plan t n) v = ⊥
PlanHolds S p c (value_plan f x r d ns) v =
    (e : Domain) × (ts : Tables) × TablesOf S p c r d ns e ts × (canonical r e (cells_of ts) ≡ true) ×
    (value_of_cells r e (cells_of ts) ≡ Some v)
