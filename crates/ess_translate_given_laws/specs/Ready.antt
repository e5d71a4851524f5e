-- What the statements of a header have beyond its judgements, and what it is that a parameter has its given tables.
use Rattle.std.specs.Prelude.{◌≡◌, true, List, Some}
use Rattle.ess_semantics.specs.Names.{Names}
use Rattle.ess_semantics.specs.Trees.{Stm}
use Rattle.ess_semantics.specs.Domains.{Domain}
use Rattle.ess_semantics.specs.Tables.{Table, Tables}
use Rattle.ess_semantics.specs.Contexts.{Each}
use Rattle.ess_semantics.specs.Meaning.{domain_of}
use Rattle.ess_semantics.specs.Assignments.{Assignment}
use Rattle.ess_semantics.specs.Parameters.{Param}
use Rattle.ess_semantics.specs.Plans.{Options, givens_side, kept_names, Plan, plans_for, table_list, declared_under, name_tables, canonical_by_plan, given_tables}
use Rattle.ess_repr_laws.specs.TypedDomains.{Typed}
use Rattle.conjure_laws.specs.Premises.{here, Settled, tables_are}
use Rattle.conjure_laws.specs.Fields.{HasItsFields}

-- Statements say at their places what they say behind all of them, records have a name for each component, as the grammar reads them,
-- and domains are typed under each parameter, as they are where no relation has an attribute without a number.
pub record Ready (S : List Stm) : Type 0 where
  pub settled : Settled S
  pub fields : Each S HasItsFields
  pub typed : Each (kept_names S) (λ x. (p : Assignment) (e : Domain) → Param S p → domain_of x.1 (here S p) ≡ Some e → Typed e)

-- The plan has canonical tables under the parameter p.
abbrev pub HasCanonical : List Stm → Assignment → Plan → Type 0
HasCanonical S p P = (c : Names Table) × (canonical_by_plan (here S p) p P ≡ Some c)

-- The given tables of the parameter p: they stand in order under the names of the plans of givens, are over the declared axes with
-- items in the declared domains, and each plan of a given has its own.
pub record GivenTables (S : List Stm) (o : Options) (p : Assignment) : Type 0 where
  pub tables : Tables
  pub there : given_tables S o p ≡ Some (name_tables (table_list givens_side S o) tables)
  pub declared : tables_are (declared_under givens_side S o p) tables ≡ true
  pub each : Each (plans_for givens_side S o) (HasCanonical S p)
