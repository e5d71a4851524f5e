-- Views have values of their domains' types.
use Rattle.std.proofs.Common.{◌≡◌, refl, sym, ap, ◌∙◌, subst, true, false, List, ℤ, Option, Some, None}
use Rattle.std.specs.Prelude.{IsTrue}
use Rattle.ess_semantics.specs.Lists.{is_some_and, or_default}
use Rattle.ess_semantics.specs.Values.{Text, Value, truth}
use Rattle.ess_semantics.specs.Trees.{Repr, Exs, seen_ex, Dom, bool_dom}
use Rattle.ess_semantics.specs.Types.{Ty, type_of_dom}
use Rattle.ess_semantics.specs.Operators.{false_where_undefined, as_truth}
use Rattle.ess_semantics.specs.Meaning.{Env, meanings, domain_of, tables_in, indices, seen_in, is_bool_dom}
use Rattle.ess_semantics.specs.Membership.{member}
use Rattle.ess_semantics.specs.Domains.{Domain, booleans}
use Rattle.ess_semantics.specs.Tables.{Tables}
use Rattle.ess_semantics.specs.Cells.{cells_at}
use Rattle.ess_semantics.specs.Declarations.{axes_of}
use Rattle.ess_semantics.specs.Representations.{value_of_tables, value_of_cells}
use Rattle.ess_semantics.specs.Tidy.{tidy, tidy_cells, over_axes, is_orderly}
use Rattle.ess_semantics.specs.Meets.{Meets, tidy_in}
use Rattle.ess_semantics.specs.TypeMembers.{is_of_type}
use Rattle.ess_semantics.proofs.Tests.{and-left, and-right}
use Rattle.ess_types_laws.specs.ProperDomains.{is_proper}
use Rattle.ess_types_laws.proofs.MembersTyped.{member-fits}
use Rattle.ess_view_types_laws.specs.ViewTypes.{ViewHasValue, ViewsHaveTheirType}

-- The parts of a tidy view.
pub record Opened (r : Repr) (o : Option Domain) (c : Option Tables) (i : Option (List ℤ)) : Type 0 where
  pub domain : Domain
  pub denotes : o ≡ Some domain
  pub value : Value
  pub is_seen : seen_in r o c i ≡ Some value
  pub is_member : member domain value ≡ true

-- Tidy tables stand for a member.
tidy-value : (r : Repr) (d : Domain) (ts : Tables) (i : List ℤ) → tidy r d ts i ≡ true →
    (v : Value) × (value_of_tables r d ts i ≡ Some v) × (member d v ≡ true)
tidy-value r d ts i h = go (value_of_cells r d (cells_at ts i)) refl
    (and-left (is_some_and (value_of_cells r d (cells_at ts i)) (member d)) (is_orderly r d (cells_at ts i))
    (and-right (over_axes i (axes_of r d) ts) (tidy_cells r d (cells_at ts i)) h))
  where
    go : (o : Option Value) → value_of_cells r d (cells_at ts i) ≡ o → is_some_and o (member d) ≡ true →
        (v : Value) × (value_of_tables r d ts i ≡ Some v) × (member d v ≡ true)
    go None q k = cc
    go (Some v) q k = (v, q, k)

-- What false is true of.
no : {X : Type 0} → false ≡ true → X
no q = cc

opened : (r : Repr) (o : Option Domain) (c : Option Tables) (i : Option (List ℤ)) → IsTrue (tidy_in r o c i) → Opened r o c i
opened r None c i h = no h
opened r (Some d) None i h = no h
opened r (Some d) (Some ts) None h = no h
opened r (Some d) (Some ts) (Some i) h = let x = tidy-value r d ts i h in
    record { domain = d; denotes = refl; value = x.0; is_seen = x.1; is_member = x.2 }

-- A member of bool is a truth value, so that a view of bool has it too.
settled : (d : Dom) (env : Env) (c : Domain) (v : Value) → domain_of d env ≡ Some c → member c v ≡ true →
    false_where_undefined (is_bool_dom d) (Some v) ≡ Some v
settled bool_dom env c v q h = go c v q h
  where
    go : (c : Domain) (v : Value) → Some booleans ≡ Some c → member c v ≡ true → Some (truth (as_truth (Some v))) ≡ Some v
    go booleans (truth b) q h = refl
    go booleans v q h = cc
    go c v q h = cc
settled d env c v q h = refl

view-value : (r : Repr) (d : Dom) (ns : List Text) (es : Exs) (env : Env) → is_proper d ≡ true → Meets (seen_ex r d ns es) env →
    ViewHasValue r d ns es env
view-value r d ns es env p h =
    let o = opened r (domain_of d env) (tables_in env.cells ns) (indices (meanings es env)) h.0 in record {
      value = o.value;
      is_value = ap (false_where_undefined (is_bool_dom d)) o.is_seen ∙ settled d env o.domain o.value o.denotes o.is_member;
      domain = o.domain;
      denotes = o.denotes;
      is_member = o.is_member;
      typed = member-fits env d o.domain p o.denotes o.value o.is_member;
    }

-- What is proved of views.
pub views-have-their-type : ViewsHaveTheirType
views-have-their-type = record {
  has_value = view-value;
  has_type = λ r d ns es g env p h t q v k. let w = view-value r d ns es env p h in
      subst (λ z. IsTrue (is_of_type z env v)) (same (type_of_dom d) t q)
      (subst (λ z. IsTrue (is_of_type (type_of_dom d) env z)) (one w.value v (sym w.is_value ∙ k)) w.typed);
}
  where
    same : (a b : Ty) → Some a ≡ Some b → a ≡ b
    same a b q = ap (λ o. or_default o a) q

    one : (a b : Value) → Some a ≡ Some b → a ≡ b
    one a b q = ap (λ o. or_default o a) q
