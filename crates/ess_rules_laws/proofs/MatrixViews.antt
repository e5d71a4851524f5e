-- A view of a matrix is indexed by the first index domain.
use Rattle.std.proofs.Common.{◌≡◌, refl, ap, ◌∙◌, Bool, true, false, List, [], ◌∷◌, ℤ, length, Option, Some, None, option_map}
use Rattle.std.specs.Prelude.{IsTrue, is_some}
use Rattle.ess_semantics.specs.declared.words.ReprKind.{ReprKind}
use Rattle.ess_semantics.specs.Lists.{and_then, each_of, is_some_and, list_or_none}
use Rattle.ess_semantics.specs.Values.{Text, Value, matrix, of_list}
use Rattle.ess_semantics.specs.Trees.{Reprs, repr, Exs, seen_ex, Dom, Doms, more_doms, matrix_dom}
use Rattle.ess_semantics.specs.Domains.{Domain, Domains, matrices, more_domains, members, member_list}
use Rattle.ess_semantics.specs.Membership.{member}
use Rattle.ess_semantics.specs.Tables.{Tables}
use Rattle.ess_semantics.specs.Cells.{cells_at}
use Rattle.ess_semantics.specs.Layers.{only_child}
use Rattle.ess_semantics.specs.ScalarLayers.{nested_of, in_lists_of, count_of_places, matrix_layer}
use Rattle.ess_semantics.specs.Representations.{own_part, child_part, places_in_use, values_of_children, value_of_tables}
use Rattle.ess_semantics.specs.Tidy.{over_axes, is_orderly}
use Rattle.ess_semantics.specs.Declarations.{axes_of}
use Rattle.ess_semantics.specs.Meaning.{Env, meanings, domain_of, domains_of, members_in, indices, tables_in, seen_in}
use Rattle.ess_semantics.specs.Meets.{Meets, tidy_in}
use Rattle.ess_semantics.proofs.Tests.{and-left, and-right}
use Rattle.ess_semantics.proofs.Orders.{to_list-of_list}
use Rattle.ess_rules_laws.specs.PartLookups.{indices_of, IndexedBy}

no : {A : Type 0} → false ≡ true → A
no h = cc

-- The indices of a value that is there.
abbrev Indices : Option Value → List Value → Type 0
Indices o is = is_some o ≡ true → option_map indices_of o ≡ Some is

nested-indices : (d : Domain) (ds : Domains) (vs : List Value) → Indices (nested_of (more_domains d ds) vs) (member_list d)
nested-indices d ds vs = go (each_of (in_lists_of (length (member_list d)) (count_of_places ds) vs) (nested_of ds))
  where
    go : (o : Option (List Value)) → Indices (option_map (λ ys. matrix (of_list (member_list d)) (of_list ys)) o) (member_list d)
    go None h = no h
    go (Some ys) h = ap Some (to_list-of_list (member_list d))

then-indices : {A : Type 0} (o : Option A) (f : A → Option Value) (is : List Value) → ((x : A) → Indices (f x) is) →
    Indices (and_then o f) is
then-indices None f is h t = no t
then-indices (Some x) f is h t = h x t

view-indices : (rs : Reprs) (d : Domain) (ds : Domains) (e : Domain) (ts : Tables) (i : List ℤ) →
    Indices (value_of_tables (repr ReprKind.Matrix rs) (matrices (more_domains d ds) e) ts i) (member_list d)
view-indices rs d ds e ts i = then-indices (places_in_use (matrix_layer (more_domains d ds) e) (own_part ReprKind.Matrix (cells_at ts i)))
    _ (member_list d)
    (λ js. then-indices (values_of_children rs (e ∷ []) (child_part ReprKind.Matrix (cells_at ts i)) js) _ (member_list d)
    (λ vss. nested-indices d ds (only_child vss)))

value-there : (o : Option Value) (f : Value → Bool) → is_some_and o f ≡ true → is_some o ≡ true
value-there None f h = no h
value-there (Some v) f h = refl

listed-members : (o : Option (List Value)) → is_some o ≡ true → Some (list_or_none o) ≡ o
listed-members None h = no h
listed-members (Some vs) h = refl

module _ (rs : Reprs) where
  parts-indexed : (a : Option Domain) (b : Option Domains) (c : Option Domain) (t : Option Tables) (i : Option (List ℤ)) →
      IsTrue (tidy_in (repr ReprKind.Matrix rs)
      (and_then (and_then a (λ x. option_map (more_domains x) b)) (λ js. option_map (matrices js) c)) t i) →
      IsTrue (is_some (members_in a)) →
      option_map indices_of (seen_in (repr ReprKind.Matrix rs)
      (and_then (and_then a (λ x. option_map (more_domains x) b)) (λ js. option_map (matrices js) c)) t i) ≡ members_in a
  parts-indexed (Some d) (Some ds) (Some e) (Some ts) (Some i) h m =
      view-indices rs d ds e ts i (value-there (value_of_tables (repr ReprKind.Matrix rs) (matrices (more_domains d ds) e) ts i)
      (member (matrices (more_domains d ds) e))
      (and-left _ (is_orderly (repr ReprKind.Matrix rs) (matrices (more_domains d ds) e) (cells_at ts i))
      (and-right (over_axes i (axes_of (repr ReprKind.Matrix rs) (matrices (more_domains d ds) e)) ts) _ h)))
      ∙ listed-members (members d) m
  parts-indexed (Some d) (Some ds) (Some e) (Some ts) None h m = no h
  parts-indexed (Some d) (Some ds) (Some e) None i h m = no h
  parts-indexed (Some d) (Some ds) None t i h m = no h
  parts-indexed (Some d) None c t i h m = no h
  parts-indexed None b c t i h m = no h

-- A view of a matrix has its first index domain's members as indices.
pub view-indexed : (rs : Reprs) (d e : Dom) (ds : Doms) (ns : List Text) (js : Exs) (env : Env) →
    IsTrue (is_some (members_in (domain_of d env))) →
    Meets (seen_ex (repr ReprKind.Matrix rs) (matrix_dom (more_doms d ds) e) ns js) env →
    IndexedBy (seen_ex (repr ReprKind.Matrix rs) (matrix_dom (more_doms d ds) e) ns js) d env
view-indexed rs d e ds ns js env h m = record {
  indices = parts-indexed rs (domain_of d env) (domains_of ds env) (domain_of e env) (tables_in env.cells ns) (indices (meanings js env))
      m.0 h;
  met = m.1.0.0;
}
