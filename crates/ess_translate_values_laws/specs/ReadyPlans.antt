-- What is asked of the plan of a find, so that the value for which its tables stand can be found layer by layer.
use Rattle.std.specs.Prelude.{◌≡◌, true, List, [], map, Some}
use Rattle.ess_semantics.specs.Names.{Names, keys}
use Rattle.ess_semantics.specs.Trees.{Repr}
use Rattle.ess_semantics.specs.Domains.{Domain}
use Rattle.ess_semantics.specs.Tables.{Table, Tables}
use Rattle.ess_semantics.specs.Declarations.{axes_of}
use Rattle.ess_semantics.specs.Tidy.{over_axes}
use Rattle.ess_semantics.specs.Meaning.{Env, domain_of, tables_in}
use Rattle.ess_semantics.specs.Positions.{domain_with_positions}
use Rattle.ess_semantics.specs.Plans.{Plan, size_plan, value_plan}
use Rattle.ess_repr_laws.specs.Rooms.{Covered}

-- The representation is one for the domain with positions, and the tables are over its axes.
pub record AreReady (r : Repr) (e : Domain) (ts : Tables) : Type 0 where
  pub covered : Covered r (domain_with_positions e)
  pub over : over_axes [] (axes_of r (domain_with_positions e)) ts ≡ true

-- So is the plan's representation under env, at the tables that stand in c under the plan's names.
abbrev pub IsReady : Env → Names Table → Plan → Type 0
IsReady env c (size_plan t a) = Unit {0}
IsReady env c (value_plan f x r d ns) =
    (e : Domain) (ts : Tables) → domain_of d env ≡ Some e → tables_in c (keys ns) ≡ Some ts → AreReady r e ts

-- The tables of a map, in its order.
abbrev pub tables_of : Names Table → Tables
tables_of c = map (λ b. b.1) c
