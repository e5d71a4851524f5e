-- A view has a value of its domain's type, where tables meet its structure.
use Rattle.std.specs.Prelude.{◌≡◌, true, List, Some, IsTrue}
use Rattle.ess_semantics.specs.Values.{Text, Value}
use Rattle.ess_semantics.specs.Names.{Names}
use Rattle.ess_semantics.specs.Trees.{Repr, Exs, seen_ex, Dom}
use Rattle.ess_semantics.specs.Types.{Ty, type_of_dom}
use Rattle.ess_semantics.specs.Typing.{type_of}
use Rattle.ess_semantics.specs.Meaning.{Env, meaning, domain_of}
use Rattle.ess_semantics.specs.Membership.{member}
use Rattle.ess_semantics.specs.Domains.{Domain}
use Rattle.ess_semantics.specs.Meets.{Meets}
use Rattle.ess_semantics.specs.TypeMembers.{is_of_type}
use Rattle.ess_types_laws.specs.ProperDomains.{is_proper}

-- The value of a view: a member of what the domain denotes, of the domain's type.
pub record ViewHasValue (r : Repr) (d : Dom) (ns : List Text) (es : Exs) (env : Env) : Type 0 where
  pub value : Value
  pub is_value : meaning (seen_ex r d ns es) env ≡ Some value
  pub domain : Domain
  pub denotes : domain_of d env ≡ Some domain
  pub is_member : member domain value ≡ true
  pub typed : IsTrue (is_of_type (type_of_dom d) env value)

-- Where tables meet the structure of a view whose index domains are atoms and whose relations have a component, as those of judged
-- texts are, it has such a value; and whatever value it has there is of the type that the view has as an expression.
pub record ViewsHaveTheirType : Type 0 where
  pub has_value : (r : Repr) (d : Dom) (ns : List Text) (es : Exs) (env : Env) → is_proper d ≡ true → Meets (seen_ex r d ns es) env →
      ViewHasValue r d ns es env
  pub has_type : (r : Repr) (d : Dom) (ns : List Text) (es : Exs) (g : Names Ty) (env : Env) → is_proper d ≡ true →
      Meets (seen_ex r d ns es) env → (t : Ty) → type_of (seen_ex r d ns es) g ≡ Some t → (v : Value) →
      meaning (seen_ex r d ns es) env ≡ Some v → IsTrue (is_of_type t env v)
