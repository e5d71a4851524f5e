-- What is known of each plan of a header under a parameter: its domain, and of a given's plan its value.
use Rattle.std.specs.Prelude.{◌≡◌, true, not, List, length, Some}
use Rattle.ess_semantics.specs.Lists.{is_empty}
use Rattle.ess_semantics.specs.Values.{Text, Value}
use Rattle.ess_semantics.specs.Names.{look}
use Rattle.ess_semantics.specs.Trees.{Repr, Dom, Stm}
use Rattle.ess_semantics.specs.Domains.{Domain}
use Rattle.ess_semantics.specs.Membership.{member, no_negative_attribute}
use Rattle.ess_semantics.specs.Declarations.{declarations}
use Rattle.ess_semantics.specs.TableNames.{Named}
use Rattle.ess_semantics.specs.Meaning.{domain_of}
use Rattle.ess_semantics.specs.Positions.{with_positions, domain_with_positions}
use Rattle.ess_semantics.specs.Assignments.{Assignment, value_of}
use Rattle.ess_semantics.specs.Plans.{Plan, size_plan, value_plan}
use Rattle.ess_repr_laws.specs.Rooms.{Covered, Roomy}
use Rattle.ess_repr_laws.specs.TypedDomains.{Typed}
use Rattle.ess_repr_laws.specs.Laws.{Fitting}
use Rattle.conjure_laws.specs.Premises.{here}

-- The plan's domain denotes e under the parameter p. No attribute of it is below 0, it is typed, its representation fits and has room
-- for its members, with positions and without, and there is a name for each table.
pub record PlanDomain (S : List Stm) (p : Assignment) (r : Repr) (d : Dom) (ns : List Named) (e : Domain) : Type 0 where
  pub closed : domain_of d (here S p) ≡ Some e
  pub not_negative : no_negative_attribute e ≡ true
  pub typed : Typed e
  pub fitting : Fitting r d
  pub roomy : Roomy r e
  pub covered : Covered r e
  pub roomy_positions : Roomy r (domain_with_positions e)
  pub covered_positions : Covered r (domain_with_positions e)
  pub long : length ns ≡ length (declarations r (domain_with_positions e))

-- Each plan has its domain; a given enumerated type has a value.
abbrev pub HasDomain : List Stm → Assignment → Plan → Type 0
HasDomain S p (size_plan t a) = (ns : List Text) × (look p.types t ≡ Some ns) × (not (is_empty ns) ≡ true)
HasDomain S p (value_plan f x r d ns) = (e : Domain) × PlanDomain S p r d ns e

-- The parameter p gives x the value v, which is a member of the plan's domain; so it is with positions.
pub record PlanMember (S : List Stm) (p : Assignment) (x : Text) (r : Repr) (d : Dom) (ns : List Named) (e : Domain) (v : Value) :
    Type 0 where
  pub domain : PlanDomain S p r d ns e
  pub value : value_of p x ≡ Some v
  pub inside : member e v ≡ true
  pub positions : member (domain_with_positions e) (with_positions v) ≡ true

-- The plan of a given has a member.
abbrev pub HasMember : List Stm → Assignment → Plan → Type 0
HasMember S p (size_plan t a) = (ns : List Text) × (look p.types t ≡ Some ns) × (not (is_empty ns) ≡ true)
HasMember S p (value_plan f x r d ns) = (e : Domain) × (v : Value) × PlanMember S p x r d ns e v
