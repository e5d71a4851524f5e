-- Index domains that are told have marks, where the term has them; of one by the number of items that is asked.
use Rattle.std.proofs.Common.{◌≡◌, refl, ℕ, zero, suc, Bool, true, false, if◌then◌else◌, List, [], ◌∷◌, Option, Some, None}
use Rattle.std.specs.Prelude.{is_some}
use Rattle.ess_semantics.specs.declared.words.Fun.{Fun}
use Rattle.ess_semantics.specs.Lists.{or_else}
use Rattle.ess_semantics.specs.Values.{Text}
use Rattle.ess_semantics.specs.Order.{same_text}
use Rattle.ess_semantics.specs.Names.{Names}
use Rattle.ess_semantics.specs.Trees.{Step, by_value, to_component, to_field, index, application, word, matrix_literal, Ex, Exs, node_ex, matrix_ex, comp_ex, seen_ex, no_exs, more_exs, Dom, Doms, bool_dom, int_dom, name_dom, tuple_dom, record_dom, matrix_dom, function_dom, no_doms, more_doms}
use Rattle.ess_semantics.specs.Types.{Ty}
use Rattle.ess_guard_laws.specs.IndexDomains.{item_dom, dom_behind, dom_followed, first_index, are_plain_bounds, plain_axis, index_dom}
use Rattle.ess_refine_laws.specs.MarksStay.{HasMarks, DomHasMarks, DomsHaveMarks}
use Rattle.ess_refine_laws.specs.AllRules.{OfSome}
use Rattle.ess_kind_rules_laws.specs.TermLookups.{picks}
use Rattle.ess_ordered_laws.specs.IndexedSources.{is_by_index}
use Rattle.ess_ordered_laws.specs.ToldAxes.{dom_at, dom_of_field, results_of, component_dom, field_dom, items_dom, dom_told, counted_axis, told_axis}
use Rattle.ess_ordered_types_laws.specs.OrderedTyped.{axis_by_count}

no : {A : Type 0} → false ≡ true → A
no h = cc

-- Whether the expression is no comprehension. Such a source isn't told by its indices.
abbrev pub isnt_comprehension : Ex → Bool
isnt_comprehension (comp_ex e gs) = false
isnt_comprehension e = true

by-index-isnt : (e : Ex) → is_by_index e ≡ true → isnt_comprehension e ≡ true
by-index-isnt (comp_ex e gs) h = h
by-index-isnt _ h = refl

module _ (g : Names Ty) where
  -- The domain has marks, where there is one.
  abbrev pub DomMarked : Option Dom → Type 0
  DomMarked o = OfSome o (λ d. DomHasMarks d g)

  -- ---- parts of domains

  first-marked : (o : Option Dom) → DomMarked o → DomMarked (first_index o)
  first-marked (Some (matrix_dom (more_doms i is) d)) h = h.0.0
  first-marked _ h = tt

  item-marked : (o : Option Dom) → DomMarked o → DomMarked (item_dom o)
  item-marked (Some (matrix_dom (more_doms i (more_doms j is)) d)) h = (h.0.1, h.1)
  item-marked _ h = tt

  items-marked : (o : Option Dom) → DomMarked o → DomMarked (items_dom o)
  items-marked (Some (matrix_dom (more_doms i no_doms) d)) h = h.1
  items-marked (Some (matrix_dom (more_doms i (more_doms j is)) d)) h = (h.0.1, h.1)
  items-marked _ h = tt

  results-marked : (o : Option Dom) → DomMarked o → DomMarked (results_of o)
  results-marked (Some (function_dom ms es d c)) h = h.2
  results-marked _ h = tt

  at-marked : (k : ℕ) (ds : Doms) → DomsHaveMarks ds g → DomMarked (dom_at k ds)
  at-marked k no_doms h = tt
  at-marked zero (more_doms d ds) h = tt
  at-marked (suc zero) (more_doms d ds) h = h.0
  at-marked (suc (suc k)) (more_doms d ds) h = at-marked (suc k) ds h.1

  component-marked : (k : ℕ) (o : Option Dom) → DomMarked o → DomMarked (component_dom k o)
  component-marked k (Some (tuple_dom ds)) h = at-marked k ds h
  component-marked k _ h = tt

  of-field-marked : (a : Text) (fs : List Text) (ds : Doms) → DomsHaveMarks ds g → DomMarked (dom_of_field a fs ds)
  of-field-marked a (f ∷ fs) (more_doms d ds) h = go (same_text f a) (of-field-marked a fs ds h.1)
    where
      go : (b : Bool) → DomMarked (dom_of_field a fs ds) → DomMarked (if b then Some d else dom_of_field a fs ds)
      go true k = h.0
      go false k = k
  of-field-marked a [] ds h = tt
  of-field-marked a (f ∷ fs) no_doms h = tt

  field-marked : (a : Text) (o : Option Dom) → DomMarked o → DomMarked (field_dom a o)
  field-marked a (Some (record_dom fs ds)) h = of-field-marked a fs ds h
  field-marked a _ h = tt

  plain-marked : (o : Option Dom) → DomMarked o → DomMarked (plain_axis o)
  plain-marked (Some bool_dom) h = tt
  plain-marked (Some (int_dom rs es)) h = go (are_plain_bounds es)
    where
      go : (b : Bool) → DomMarked (if b then Some (int_dom rs es) else None)
      go true = h
      go false = tt
  plain-marked (Some (name_dom a)) h = tt
  plain-marked _ h = tt

  -- ---- domains that terms follow

  behind-marked : (o : Option Dom) (qs : List Step) (es : Exs) → DomMarked o → DomMarked (dom_behind o qs es)
  behind-marked o [] no_exs h = h
  behind-marked o (by_value ∷ qs) (more_exs i is) h = behind-marked (item_dom o) qs is (item-marked o h)
  behind-marked o _ _ h = tt

  followed-marked : (e : Ex) → HasMarks e g → DomMarked (dom_followed e)
  followed-marked (seen_ex r d ns es) h = h.0
  followed-marked (node_ex false (index qs) (more_exs m is)) h = behind-marked (dom_followed m) qs is (followed-marked m h.1.0)
  followed-marked _ h = tt

  told-marked : (e : Ex) → HasMarks e g → DomMarked (dom_told e)
  told-marked (seen_ex r d ns es) h = h.0
  told-marked (node_ex b application (more_exs f (more_exs a no_exs))) h = results-marked (dom_told f) (told-marked f h.1.0)
  told-marked (node_ex b (word Fun.Image) (more_exs f (more_exs a no_exs))) h = results-marked (dom_told f) (told-marked f h.1.0)
  told-marked (node_ex b (index (to_component k ∷ [])) (more_exs t no_exs)) h = component-marked k (dom_told t) (told-marked t h.1.0)
  told-marked (node_ex b (index (to_field a ∷ [])) (more_exs t no_exs)) h = field-marked a (dom_told t) (told-marked t h.1.0)
  told-marked (node_ex b (index (by_value ∷ [])) (more_exs m (more_exs i no_exs))) h = items-marked (dom_told m) (told-marked m h.1.0)
  told-marked _ h = tt

  -- That of a comprehension isn't asked for.
  index-marked : (e : Ex) → isnt_comprehension e ≡ true → HasMarks e g → DomMarked (index_dom e)
  index-marked (node_ex false matrix_literal es) i h = (tt, (tt, tt))
  index-marked (matrix_ex es d) i h = h.1
  index-marked (comp_ex e gs) i h = no i
  index-marked e i h = plain-marked (first_index (dom_followed e)) (first-marked (dom_followed e) (followed-marked e h))

  either-marked : (a b c : Option Dom) (p : Bool) → DomMarked a → DomMarked b →
      DomMarked (if is_some (or_else a b) then None else c) → DomMarked (or_else a (if p then or_else b c else None))
  either-marked (Some d) b c p h k l = h
  either-marked None b c false h k l = tt
  either-marked None (Some d) c true h k l = k
  either-marked None None c true h k l = l

  -- The index domain that is told of what is no comprehension.
  pub told-axis-marked : (e : Ex) → isnt_comprehension e ≡ true → DomMarked (axis_by_count e) → HasMarks e g → DomMarked (told_axis e)
  told-axis-marked e i k h =
      either-marked (index_dom e) (plain_axis (first_index (dom_told e))) (counted_axis e) (picks e) (index-marked e i h)
      (plain-marked (first_index (dom_told e)) (first-marked (dom_told e) (told-marked e h))) k

  -- That of a source by its indices.
  pub axis-marked : (e : Ex) → is_by_index e ≡ true → DomMarked (axis_by_count e) → HasMarks e g → DomMarked (told_axis e)
  axis-marked e i k h = told-axis-marked e (by-index-isnt e i) k h
