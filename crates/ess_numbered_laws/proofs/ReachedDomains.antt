-- What a domain passes on to its parts it passes on to the index domain of what steps reach.
use Rattle.std.proofs.Common.{ℕ, zero, suc, Bool, true, false, if◌then◌else◌, List, [], ◌∷◌, Option, Some, None}
use Rattle.ess_semantics.specs.Values.{Text}
use Rattle.ess_semantics.specs.Order.{same_text}
use Rattle.ess_semantics.specs.Trees.{Mark, Exs, Dom, Doms, bool_dom, int_dom, name_dom, tuple_dom, record_dom, matrix_dom, function_dom, no_doms, more_doms}
use Rattle.ess_refine_laws.specs.AllRules.{OfSome}
use Rattle.ess_guard_laws.specs.IndexDomains.{first_index, plain_axis, are_plain_bounds}
use Rattle.ess_ordered_laws.specs.ToldAxes.{dom_at, dom_of_field, results_of, component_dom, field_dom, items_dom}
use Rattle.ess_numbered_laws.specs.MostItems.{Pick, an_item, a_result, a_component, a_field, dom_along}

-- What each of several domains has where Q holds of them passes to parts.
pub record PassesOn (P : Dom → Type 0) (Q : Doms → Type 0) : Type 0 where
  pub of_several : (d : Dom) (ds : Doms) → Q (more_doms d ds) → P d × Q ds
  pub of_tuple : (ds : Doms) → P (tuple_dom ds) → Q ds
  pub of_record : (fs : List Text) (ds : Doms) → P (record_dom fs ds) → Q ds
  pub of_matrix : (is : Doms) (d : Dom) → P (matrix_dom is d) → Q is × P d
  pub to_matrix : (is : Doms) (d : Dom) → Q is → P d → P (matrix_dom is d)
  pub of_results : (ms : List Mark) (es : Exs) (d c : Dom) → P (function_dom ms es d c) → P c

module _ (P : Dom → Type 0) (Q : Doms → Type 0) (pass : PassesOn P Q) where
  at-passed : (k : ℕ) (ds : Doms) → Q ds → OfSome (dom_at k ds) P
  at-passed k no_doms h = tt
  at-passed zero (more_doms d ds) h = tt
  at-passed (suc zero) (more_doms d ds) h = (pass.of_several d ds h).0
  at-passed (suc (suc k)) (more_doms d ds) h = at-passed (suc k) ds (pass.of_several d ds h).1

  of-field-passed : (a : Text) (fs : List Text) (ds : Doms) → Q ds → OfSome (dom_of_field a fs ds) P
  of-field-passed a (f ∷ fs) (more_doms d ds) h =
      go (same_text f a) (of-field-passed a fs ds (pass.of_several d ds h).1)
    where
      go : (b : Bool) → OfSome (dom_of_field a fs ds) P → OfSome (if b then Some d else dom_of_field a fs ds) P
      go true k = (pass.of_several d ds h).0
      go false k = k
  of-field-passed a [] ds h = tt
  of-field-passed a (f ∷ fs) no_doms h = tt

  results-passed : (o : Option Dom) → OfSome o P → OfSome (results_of o) P
  results-passed (Some (function_dom ms es d c)) h = pass.of_results ms es d c h
  results-passed _ h = tt

  component-passed : (k : ℕ) (o : Option Dom) → OfSome o P → OfSome (component_dom k o) P
  component-passed k (Some (tuple_dom ds)) h = at-passed k ds (pass.of_tuple ds h)
  component-passed k _ h = tt

  field-passed : (a : Text) (o : Option Dom) → OfSome o P → OfSome (field_dom a o) P
  field-passed a (Some (record_dom fs ds)) h = of-field-passed a fs ds (pass.of_record fs ds h)
  field-passed a _ h = tt

  items-passed : (o : Option Dom) → OfSome o P → OfSome (items_dom o) P
  items-passed (Some (matrix_dom (more_doms i no_doms) d)) h = (pass.of_matrix (more_doms i no_doms) d h).1
  items-passed (Some (matrix_dom (more_doms i (more_doms j is)) d)) h =
      let r = pass.of_matrix (more_doms i (more_doms j is)) d h in
      pass.to_matrix (more_doms j is) d (pass.of_several i (more_doms j is) r.0).1 r.1
  items-passed _ h = tt

  -- Along the steps.
  pub along-passed : (ps : List Pick) (o : Option Dom) → OfSome o P → OfSome (dom_along ps o) P
  along-passed [] o h = h
  along-passed (an_item ∷ ps) o h = along-passed ps (items_dom o) (items-passed o h)
  along-passed (a_result ∷ ps) o h = along-passed ps (results_of o) (results-passed o h)
  along-passed (a_component k ∷ ps) o h = along-passed ps (component_dom k o) (component-passed k o h)
  along-passed (a_field a ∷ ps) o h = along-passed ps (field_dom a o) (field-passed a o h)

  first-passed : (o : Option Dom) → OfSome o P → OfSome (first_index o) P
  first-passed (Some (matrix_dom (more_doms i is) d)) h = (pass.of_several i is (pass.of_matrix (more_doms i is) d h).0).0
  first-passed _ h = tt

  plain-passed : (o : Option Dom) → OfSome o P → OfSome (plain_axis o) P
  plain-passed (Some bool_dom) h = h
  plain-passed (Some (int_dom rs es)) h = go (are_plain_bounds es)
    where
      go : (b : Bool) → OfSome (if b then Some (int_dom rs es) else None) P
      go true = h
      go false = tt
  plain-passed (Some (name_dom a)) h = h
  plain-passed _ h = tt

  -- To the index domain of what they reach.
  pub axis-passed : (ps : List Pick) (d : Dom) → P d → OfSome (plain_axis (first_index (dom_along ps (Some d)))) P
  axis-passed ps d h =
      plain-passed (first_index (dom_along ps (Some d))) (first-passed (dom_along ps (Some d)) (along-passed ps (Some d) h))
