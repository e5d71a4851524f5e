-- A view whose structure is met has a domain, tables and numbers, at which the tables are tidy.
use Rattle.std.proofs.Common.{◌≡◌, refl, ap, ◌∙◌, true, false, List, ℤ, Option, Some, None}
use Rattle.std.specs.Prelude.{IsTrue}
use Rattle.ess_semantics.specs.Values.{Text, Value}
use Rattle.ess_semantics.specs.Trees.{Repr, Ex, Exs, seen_ex, Dom}
use Rattle.ess_semantics.specs.Domains.{Domain}
use Rattle.ess_semantics.specs.Membership.{member}
use Rattle.ess_semantics.specs.Operators.{false_where_undefined}
use Rattle.ess_semantics.specs.Tables.{Tables}
use Rattle.ess_semantics.specs.Cells.{cells_at}
use Rattle.ess_semantics.specs.Representations.{value_of_tables}
use Rattle.ess_semantics.specs.Declarations.{axes_of}
use Rattle.ess_semantics.specs.Tidy.{over_axes, is_orderly, tidy}
use Rattle.ess_semantics.specs.Meaning.{Env, meaning, meanings, domain_of, indices, tables_in, is_bool_dom, seen_in}
use Rattle.ess_semantics.specs.Meets.{Meets, tidy_in}
use Rattle.ess_semantics.proofs.Tests.{and-left, and-right, some-and}

no : {A : Type 0} → false ≡ true → A
no h = cc

module _ (R : Repr) (dom : Dom) (ns : List Text) (js : Exs) (env : Env) where
  abbrev Seen : Ex
  Seen = seen_ex R dom ns js

  -- These parts.
  pub record Opened : Type 0 where
    pub d : Domain
    pub ts : Tables
    pub i : List ℤ
    pub domain_is : domain_of dom env ≡ Some d
    pub tables_are : tables_in env.cells ns ≡ Some ts
    pub index_is : indices (meanings js env) ≡ Some i
    pub is_tidy : tidy R d ts i ≡ true

  open-parts : (o : Option Domain) (t : Option Tables) (i : Option (List ℤ)) → domain_of dom env ≡ o → tables_in env.cells ns ≡ t →
      indices (meanings js env) ≡ i → IsTrue (tidy_in R o t i) → Opened
  open-parts (Some d) (Some ts) (Some i) p q s h =
      record { d = d; ts = ts; i = i; domain_is = p; tables_are = q; index_is = s; is_tidy = h }
  open-parts (Some d) (Some ts) None p q s h = no h
  open-parts (Some d) None i p q s h = no h
  open-parts None t i p q s h = no h

  -- They are there.
  pub opened : Meets Seen env → Opened
  opened m = open-parts (domain_of dom env) (tables_in env.cells ns) (indices (meanings js env)) refl refl refl m.0

  -- The view means what its tables stand for.
  pub opened-means : is_bool_dom dom ≡ false → (o : Opened) → meaning Seen env ≡ value_of_tables R o.d o.ts o.i
  opened-means q o =
      ap (λ b. false_where_undefined b (seen_in R (domain_of dom env) (tables_in env.cells ns) (indices (meanings js env)))) q
      ∙ ap (λ z. seen_in R z (tables_in env.cells ns) (indices (meanings js env))) o.domain_is
      ∙ ap (λ z. seen_in R (Some o.d) z (indices (meanings js env))) o.tables_are
      ∙ ap (seen_in R (Some o.d) (Some o.ts)) o.index_is

  -- That is a member of the domain.
  pub opened-value : (o : Opened) → (w : Value) × (value_of_tables R o.d o.ts o.i ≡ Some w) × (member o.d w ≡ true)
  opened-value o = some-and (value_of_tables R o.d o.ts o.i) (member o.d)
      (and-left _ (is_orderly R o.d (cells_at o.ts o.i)) (and-right (over_axes o.i (axes_of R o.d) o.ts) _ o.is_tidy))
