-- What tables stand for at a plan's domain is a member of the domain with types, and comes back.
use Rattle.std.proofs.Common.{◌≡◌, refl, sym, ap, ◌∙◌, true, [], Some}
use Rattle.ess_semantics.specs.Lists.{and_then}
use Rattle.ess_semantics.specs.Values.{Value}
use Rattle.ess_semantics.specs.Order.{same}
use Rattle.ess_semantics.specs.Trees.{Repr}
use Rattle.ess_semantics.specs.Domains.{Domain}
use Rattle.ess_semantics.specs.Membership.{member}
use Rattle.ess_semantics.specs.Tables.{Tables}
use Rattle.ess_semantics.specs.Representations.{value_of_tables}
use Rattle.ess_semantics.specs.Canonical.{tables_of_value}
use Rattle.ess_semantics.specs.Positions.{with_positions, domain_with_positions, with_types}
use Rattle.ess_semantics.specs.Plans.{same_value, stands_for_member, value_with_types}
use Rattle.ess_semantics.proofs.Tests.{and-left, and-right, and-both, some-and}
use Rattle.ess_semantics.proofs.Orders.{same-itself, same-equal}
use Rattle.ess_repr_laws.specs.Rooms.{Roomy}
use Rattle.ess_repr_laws.specs.TypedDomains.{Typed}
use Rattle.ess_repr_laws.proofs.MembersHaveTables.{one-form}
use Rattle.ess_repr_laws.proofs.TypesBack.{types-back}
use Rattle.ess_repr_laws.proofs.MembersWithPositions.{members-matched}

-- Members with one value with positions are one.
pub one-member : (e : Domain) → Typed e → (v w : Value) → member e v ≡ true → member e w ≡ true → with_positions v ≡ with_positions w →
    v ≡ w
one-member e t v w h k q = let z : Some v ≡ Some w = sym (types-back e t v h) ∙ ap (with_types e) q ∙ types-back e t w k in some v w z
  where
    some : (v w : Value) → Some v ≡ Some w → v ≡ w
    some v w z = cc

-- Tables stand for a member, where what they stand for with positions is its value with positions.
stands-of : (r : Repr) (e : Domain) (ts : Tables) (v w : Value) → member e v ≡ true →
    value_of_tables r (domain_with_positions e) ts [] ≡ Some w → with_positions v ≡ w →
    stands_for_member r e ts v ≡ true
stands-of r e ts v w h q s =
    and-both (member e v) (same_value (with_positions v) (value_of_tables r (domain_with_positions e) ts [])) h
    (ap (same_value (with_positions v)) q ∙ ap (λ u. same u w) s ∙ same-itself w)

-- What is a member with positions is one.
pub stands-member : (r : Repr) (e : Domain) → Typed e → (ts : Tables) (w : Value) →
    value_of_tables r (domain_with_positions e) ts [] ≡ Some w →
    member (domain_with_positions e) w ≡ true → (v : Value) × (stands_for_member r e ts v ≡ true)
stands-member r e t ts w q h = let m = members-matched e t in let x = m.back w h in (x.0, stands-of r e ts x.0 w x.1 q x.2)

-- The value with types comes back.
pub stood-back : (r : Repr) (e : Domain) → Typed e → (ts : Tables) (v : Value) → stands_for_member r e ts v ≡ true →
    value_with_types r e ts ≡ Some v
stood-back r e t ts v h =
    let a = and-left (member e v) (same_value (with_positions v) (value_of_tables r (domain_with_positions e) ts [])) h in
    let x = some-and (value_of_tables r (domain_with_positions e) ts []) (same (with_positions v))
    (and-right (member e v) (same_value (with_positions v) (value_of_tables r (domain_with_positions e) ts [])) h) in
    ap (λ o. and_then o (with_types e)) x.1 ∙ ap (with_types e) (sym (same-equal (with_positions v) x.0 x.2)) ∙ types-back e t v a

-- The canonical tables of a member stand for it.
pub canonical-stands : (r : Repr) (e : Domain) → Typed e → Roomy r (domain_with_positions e) → (v : Value) → member e v ≡ true →
    (ts : Tables) →
    tables_of_value r (domain_with_positions e) (with_positions v) ≡ Some ts → stands_for_member r e ts v ≡ true
canonical-stands r e t room v h ts q =
    let m = members-matched e t in
    let f = one-form r (domain_with_positions e) room (with_positions v) (m.up v h) in
    let s : f.tables ≡ ts = some f.tables ts (sym f.there ∙ q) in
    stands-of r e ts v (with_positions v) h (sym (ap (λ x. value_of_tables r (domain_with_positions e) x []) s) ∙ f.stands) refl
  where
    some : (x y : Tables) → Some x ≡ Some y → x ≡ y
    some x y z = cc
