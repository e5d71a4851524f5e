-- Index domains of lists by their indices are given where the lists are: pieces of what a view is over are, and where written lists are
-- counted it is asked.
use Rattle.std.proofs.Common.{◌≡◌, refl, ℕ, zero, suc, Bool, true, false, ◌&&◌, if◌then◌else◌, List, [], ◌∷◌, Option, Some, None}
use Rattle.ess_semantics.specs.declared.words.Fun.{Fun}
use Rattle.ess_semantics.specs.declared.words.ReprKind.{ReprKind}
use Rattle.ess_semantics.specs.Lists.{or_else, or_default}
use Rattle.ess_semantics.specs.Order.{same_text}
use Rattle.ess_semantics.specs.Values.{Text}
use Rattle.ess_semantics.specs.Trees.{by_value, to_component, to_field, index, application, word, repr, no_reprs, Ex, node_ex, seen_ex, no_exs, more_exs, Dom, Doms, bool_dom, tuple_dom, record_dom, matrix_dom, function_dom, no_doms, more_doms}
use Rattle.ess_semantics.proofs.Tests.{and-left, and-right, and-both}
use Rattle.ess_refine_laws.specs.AllRules.{OfSome}
use Rattle.ess_guard_laws.specs.IndexDomains.{first_index, plain_axis, index_dom}
use Rattle.ess_kind_rules_laws.specs.TermLookups.{picks}
use Rattle.ess_ordered_laws.specs.ToldAxes.{dom_at, dom_of_field, results_of, component_dom, field_dom, items_dom, dom_told, counted_axis, picked_axis, told_axis}
use Rattle.ess_given_laws.specs.Given.{is_fixed, are_fixed, is_fixed_dom, are_fixed_doms, GivenIn}
use Rattle.ess_given_conditions_laws.specs.GivenAxes.{counts_items}
use Rattle.ess_given_conditions_laws.proofs.GivenAxes.{axis-of-others}
use Rattle.ess_given_ordered_laws.proofs.CountedGiven.{counted-fixed}

module _ (u : Text → Bool) where
  -- The domain is fixed, if there is one.
  abbrev pub AxisFixed : Option Dom → Type 0
  AxisFixed o = OfSome o (λ d. is_fixed_dom u d ≡ true)

  -- ---- pieces of domains

  results-fixed : (o : Option Dom) → AxisFixed o → AxisFixed (results_of o)
  results-fixed (Some (function_dom ms es d c)) h =
      and-right (is_fixed_dom u d) (is_fixed_dom u c) (and-right (are_fixed u es) (is_fixed_dom u d && is_fixed_dom u c) h)
  results-fixed _ h = tt

  at-fixed : (k : ℕ) (ds : Doms) → are_fixed_doms u ds ≡ true → AxisFixed (dom_at k ds)
  at-fixed k no_doms h = tt
  at-fixed zero (more_doms d ds) h = tt
  at-fixed (suc zero) (more_doms d ds) h = and-left (is_fixed_dom u d) (are_fixed_doms u ds) h
  at-fixed (suc (suc k)) (more_doms d ds) h = at-fixed (suc k) ds (and-right (is_fixed_dom u d) (are_fixed_doms u ds) h)

  component-fixed : (k : ℕ) (o : Option Dom) → AxisFixed o → AxisFixed (component_dom k o)
  component-fixed k (Some (tuple_dom ds)) h = at-fixed k ds h
  component-fixed k _ h = tt

  named-fixed : (a : Text) (fs : List Text) (ds : Doms) → are_fixed_doms u ds ≡ true → AxisFixed (dom_of_field a fs ds)
  named-fixed a (f ∷ fs) (more_doms d ds) h =
      go (same_text f a) (named-fixed a fs ds (and-right (is_fixed_dom u d) (are_fixed_doms u ds) h))
    where
      go : (b : Bool) → AxisFixed (dom_of_field a fs ds) → AxisFixed (if b then Some d else dom_of_field a fs ds)
      go true k = and-left (is_fixed_dom u d) (are_fixed_doms u ds) h
      go false k = k
  named-fixed a [] ds h = tt
  named-fixed a (f ∷ fs) no_doms h = tt

  field-fixed : (a : Text) (o : Option Dom) → AxisFixed o → AxisFixed (field_dom a o)
  field-fixed a (Some (record_dom fs ds)) h = named-fixed a fs ds h
  field-fixed a _ h = tt

  items-fixed : (o : Option Dom) → AxisFixed o → AxisFixed (items_dom o)
  items-fixed (Some (matrix_dom (more_doms i no_doms) d)) h = and-right (are_fixed_doms u (more_doms i no_doms)) (is_fixed_dom u d) h
  items-fixed (Some (matrix_dom (more_doms i (more_doms j is)) d)) h =
      let k = and-left (are_fixed_doms u (more_doms i (more_doms j is))) (is_fixed_dom u d) h in
      and-both (are_fixed_doms u (more_doms j is)) (is_fixed_dom u d) (and-right (is_fixed_dom u i) (are_fixed_doms u (more_doms j is)) k)
      (and-right (are_fixed_doms u (more_doms i (more_doms j is))) (is_fixed_dom u d) h)
  items-fixed _ h = tt

  -- The domain that a term follows.
  told-fixed : (e : Ex) → GivenIn u e → AxisFixed (dom_told e)
  told-fixed (seen_ex r d ns es) h = h.1
  told-fixed (node_ex b application (more_exs f (more_exs a no_exs))) h = results-fixed (dom_told f) (told-fixed f h.0)
  told-fixed (node_ex b (word Fun.Image) (more_exs f (more_exs a no_exs))) h = results-fixed (dom_told f) (told-fixed f h.0)
  told-fixed (node_ex b (index (to_component k ∷ [])) (more_exs t no_exs)) h = component-fixed k (dom_told t) (told-fixed t h.0)
  told-fixed (node_ex b (index (to_field a ∷ [])) (more_exs t no_exs)) h = field-fixed a (dom_told t) (told-fixed t h.0)
  told-fixed (node_ex b (index (by_value ∷ [])) (more_exs m (more_exs i no_exs))) h = items-fixed (dom_told m) (told-fixed m h.0)
  told-fixed _ h = tt

  -- ---- index domains

  axis-there : (o : Option Dom) → is_fixed_dom u (or_default o bool_dom) ≡ true → AxisFixed o
  axis-there None h = tt
  axis-there (Some d) h = h

  -- That of a domain of matrices is the one of a view over it.
  plain-fixed : (o : Option Dom) → AxisFixed o → AxisFixed (plain_axis (first_index o))
  plain-fixed None h = tt
  plain-fixed (Some d) h = axis-there (plain_axis (first_index (Some d)))
      (axis-of-others u (seen_ex (repr ReprKind.Atom no_reprs) d [] no_exs) refl (tt, h, tt))

  either-fixed : (o p : Option Dom) → AxisFixed o → AxisFixed p → AxisFixed (or_else o p)
  either-fixed None p h k = k
  either-fixed (Some d) p h k = h

  counted : (t : Ex) → (is_fixed u t ≡ false → AxisFixed (counted_axis t)) → AxisFixed (counted_axis t)
  counted t k = go (is_fixed u t) refl
    where
      go : (b : Bool) → is_fixed u t ≡ b → AxisFixed (counted_axis t)
      go true q = counted-fixed u t q
      go false q = k q

  picked-fixed : (t : Ex) → (is_fixed u t ≡ false → AxisFixed (counted_axis t)) → GivenIn u t → AxisFixed (picked_axis t)
  picked-fixed t k h = go (picks t)
    where
      go : (b : Bool) → AxisFixed (if b then or_else (plain_axis (first_index (dom_told t))) (counted_axis t) else None)
      go true = either-fixed (plain_axis (first_index (dom_told t))) (counted_axis t)
          (plain-fixed (dom_told t) (told-fixed t h)) (counted t k)
      go false = tt

  -- Of what is no comprehension, where it is given.
  pub told-given : (t : Ex) → counts_items t ≡ false → (is_fixed u t ≡ false → AxisFixed (counted_axis t)) → GivenIn u t →
      AxisFixed (told_axis t)
  told-given t q k h = either-fixed (index_dom t) (picked_axis t) (axis-there (index_dom t) (axis-of-others u t q h)) (picked-fixed t k h)
