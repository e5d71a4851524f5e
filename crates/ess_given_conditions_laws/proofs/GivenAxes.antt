-- Index domains are given where the matrix is.
use Rattle.std.proofs.Common.{◌≡◌, refl, Bool, true, false, ◌&&◌, if◌then◌else◌, List, [], ◌∷◌, Option, Some, None}
use Rattle.ess_semantics.specs.Lists.{or_default}
use Rattle.ess_semantics.specs.Values.{Text}
use Rattle.ess_semantics.specs.Trees.{Step, by_value, to_component, to_field, index, matrix_literal, Ex, Exs, node_ex, matrix_ex, comp_ex, seen_ex, no_exs, more_exs, Dom, bool_dom, int_dom, name_dom, matrix_dom, more_doms}
use Rattle.ess_semantics.proofs.Tests.{and-left, and-right, and-both}
use Rattle.ess_guard_laws.specs.IndexDomains.{item_dom, dom_behind, dom_followed, first_index, plain_axis, are_plain_bounds, index_dom}
use Rattle.ess_given_laws.specs.ess_chain_names_laws.Steps.{told_axis}
use Rattle.ess_given_laws.specs.Given.{is_fixed, are_fixed_gens, is_fixed_dom, are_fixed_doms, GivenIn}
use Rattle.ess_given_laws.proofs.FixedTrees.{fixed-has, given-has}
use Rattle.ess_given_conditions_laws.specs.GivenAxes.{counts_items, CountsFixed, IndexDomainsAreGiven}

module _ (u : Text → Bool) where
  abbrev SomeFixed : Option Dom → Type 0
  SomeFixed None = Unit {0}
  SomeFixed (Some d) = is_fixed_dom u d ≡ true

  item-fixed : (o : Option Dom) → SomeFixed o → SomeFixed (item_dom o)
  item-fixed (Some (matrix_dom (more_doms i (more_doms j is)) d)) h =
      let k = and-left (are_fixed_doms u (more_doms i (more_doms j is))) (is_fixed_dom u d) h in
      and-both (are_fixed_doms u (more_doms j is)) (is_fixed_dom u d) (and-right (is_fixed_dom u i) (are_fixed_doms u (more_doms j is)) k)
      (and-right (are_fixed_doms u (more_doms i (more_doms j is))) (is_fixed_dom u d) h)
  item-fixed _ h = tt

  behind-fixed : (o : Option Dom) (qs : List Step) (es : Exs) → SomeFixed o → SomeFixed (dom_behind o qs es)
  behind-fixed o [] no_exs h = h
  behind-fixed o (by_value ∷ qs) (more_exs i is) h = behind-fixed (item_dom o) qs is (item-fixed o h)
  behind-fixed o [] (more_exs i is) h = tt
  behind-fixed o (by_value ∷ qs) no_exs h = tt
  behind-fixed o (to_component k ∷ qs) es h = tt
  behind-fixed o (to_field a ∷ qs) es h = tt

  followed-fixed : (e : Ex) → GivenIn u e → SomeFixed (dom_followed e)
  followed-fixed (seen_ex r d ns es) h = h.1
  followed-fixed (node_ex false (index qs) (more_exs m is)) h = behind-fixed (dom_followed m) qs is (followed-fixed m h.0)
  followed-fixed _ h = tt

  first-fixed : (o : Option Dom) → SomeFixed o → SomeFixed (first_index o)
  first-fixed (Some (matrix_dom (more_doms i is) d)) h =
      and-left (is_fixed_dom u i) (are_fixed_doms u is) (and-left (are_fixed_doms u (more_doms i is)) (is_fixed_dom u d) h)
  first-fixed _ h = tt

  plain-fixed : (o : Option Dom) → SomeFixed o → SomeFixed (plain_axis o)
  plain-fixed (Some bool_dom) h = refl
  plain-fixed (Some (int_dom rs es)) h = go (are_plain_bounds es)
    where
      go : (b : Bool) → SomeFixed (if b then Some (int_dom rs es) else None)
      go true = h
      go false = tt
  plain-fixed (Some (name_dom a)) h = refl
  plain-fixed _ h = tt

  index-fixed : (e : Ex) → GivenIn u e → CountsFixed u e → SomeFixed (index_dom e)
  index-fixed (node_ex false matrix_literal es) h k = refl
  index-fixed (matrix_ex es d) h k = h.1
  index-fixed (comp_ex e gs) h k = and-both (are_fixed_gens u gs && true) true (and-both (are_fixed_gens u gs) true k refl) refl
  index-fixed e h k = plain-fixed (first_index (dom_followed e)) (first-fixed (dom_followed e) (followed-fixed e h))

  pub axis-fixed : (e : Ex) → GivenIn u e → CountsFixed u e → is_fixed_dom u (told_axis e) ≡ true
  axis-fixed e h k = go (index_dom e) (index-fixed e h k)
    where
      go : (o : Option Dom) → SomeFixed o → is_fixed_dom u (or_default o bool_dom) ≡ true
      go None k = refl
      go (Some d) k = k

  -- Of what counts no items.
  pub axis-of-others : (e : Ex) → counts_items e ≡ false → GivenIn u e → is_fixed_dom u (told_axis e) ≡ true
  axis-of-others (comp_ex e gs) q h = cc
  axis-of-others e q h = axis-fixed e h tt

  -- Of what is fixed.
  counts-fixed : (e : Ex) → is_fixed u e ≡ true → CountsFixed u e
  counts-fixed (comp_ex e gs) h = and-right (is_fixed u e) (are_fixed_gens u gs) h
  counts-fixed e h = tt

  pub axis-of-fixed : (e : Ex) → is_fixed u e ≡ true → is_fixed_dom u (told_axis e) ≡ true
  axis-of-fixed e h = axis-fixed e (given-has u e (fixed-has u e h)) (counts-fixed e h)

-- What is proved of index domains.
pub index-domains-are-given : IndexDomainsAreGiven
index-domains-are-given = axis-fixed
