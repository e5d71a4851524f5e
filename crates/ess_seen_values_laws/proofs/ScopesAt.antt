-- A part of a tree outside of views is in the scope of its place.
use Rattle.std.proofs.Common.{◌≡◌, Bool, true}
use Rattle.ess_semantics.specs.Values.{Text}
use Rattle.ess_semantics.specs.Trees.{Ex, Gens, no_gens, over, from, cond}
use Rattle.ess_semantics.specs.Scoped.{with_names, Scoped, ScopedExs, ScopedGens, ScopedDom, ScopedDoms}
use Rattle.ess_semantics.specs.Contexts.{In, hole, in_operand, in_item, in_index_domain, in_body, in_generators, in_cell_index, in_view_domain, in_view_index, Ins, in_first, in_later, InGens, in_generator_domain, behind_over, in_source, behind_from, in_condition, behind_condition, InDom, in_bound, in_component, in_field, in_index, in_element, in_set_number, in_set_member, in_mset_number, in_mset_member, in_function_number, in_argument, in_result, in_relation_number, in_relation_component, in_partition_number, in_partition_member, InDoms, in_first_domain, in_later_domain, fill, fill_exs, fill_gens, fill_dom, fill_doms}
use Rattle.ess_refine_laws.specs.ScopesStay.{Scope, scope_behind, scope_at, scope_at_exs, scope_at_gens, scope_at_dom, scope_at_doms, is_outside_views, are_outside_views, gens_outside_views, dom_outside_views, doms_outside_views}

module _ (z : Text → Bool) where
  -- In the scope.
  abbrev Inside : Scope → Ex → Type 0
  Inside s e = Scoped z s.all s.over_domains e

  -- What stands behind generators.
  behind : (gs : Gens) (s : Scope) (e : Ex) → ScopedGens z s.all s.over_domains gs (λ p q. Scoped z p q e) → Inside (scope_behind gs s) e
  behind no_gens s e h = h
  behind (over p d gs) s e h =
      behind gs (record { all = with_names s.all p; over_domains = with_names s.over_domains p }) e h.2
  behind (from p x gs) s e h = behind gs (record { all = with_names s.all p; over_domains = s.over_domains }) e h.2
  behind (cond c gs) s e h = behind gs s e h.1

  module _ (a : Ex) where
    mutual
      -- The part is in the scope of its place.
      pub scoped-at : (c : In) (s : Scope) → is_outside_views c ≡ true → Inside s (fill c a) → Inside (scope_at c s) a
      scoped-at hole s o h = h
      scoped-at (in_operand b op c) s o h = exs-at c s o h
      scoped-at (in_item c d) s o h = exs-at c s o h.0
      scoped-at (in_index_domain es c) s o h = dom-at c s o h.1
      scoped-at (in_body c gs) s o h = scoped-at c (scope_behind gs s) o (behind gs s (fill c a) h)
      scoped-at (in_generators x c) s o h = gens-at c s x o h
      scoped-at (in_cell_index b n c) s o h = exs-at c s o h
      scoped-at (in_view_domain r c ns es) s o h = cc
      scoped-at (in_view_index r d ns c) s o h = cc

      exs-at : (c : Ins) (s : Scope) → are_outside_views c ≡ true → ScopedExs z s.all s.over_domains (fill_exs c a) →
          Inside (scope_at_exs c s) a
      exs-at (in_first c es) s o h = scoped-at c s o h.0
      exs-at (in_later x c) s o h = exs-at c s o h.1

      gens-at : (c : InGens) (s : Scope) (x : Ex) → gens_outside_views c ≡ true →
          ScopedGens z s.all s.over_domains (fill_gens c a) (λ p q. Scoped z p q x) → Inside (scope_at_gens c s) a
      gens-at (in_generator_domain p c gs) s x o h = dom-at c s o h.1
      gens-at (behind_over p d c) s x o h =
          gens-at c (record { all = with_names s.all p; over_domains = with_names s.over_domains p }) x o h.2
      gens-at (in_source p c gs) s x o h = scoped-at c s o h.1
      gens-at (behind_from p y c) s x o h = gens-at c (record { all = with_names s.all p; over_domains = s.over_domains }) x o h.2
      gens-at (in_condition c gs) s x o h = scoped-at c s o h.0
      gens-at (behind_condition y c) s x o h = gens-at c s x o h.1

      dom-at : (c : InDom) (s : Scope) → dom_outside_views c ≡ true → ScopedDom z s.all s.over_domains (fill_dom c a) →
          Inside (scope_at_dom c s) a
      dom-at (in_bound rs c) s o h = exs-at c s o h
      dom-at (in_component c) s o h = doms-at c s o h
      dom-at (in_field fs c) s o h = doms-at c s o h
      dom-at (in_index c d) s o h = doms-at c s o h.0
      dom-at (in_element is c) s o h = dom-at c s o h.1
      dom-at (in_set_number ms c d) s o h = exs-at c s o h.0
      dom-at (in_set_member ms es c) s o h = dom-at c s o h.1
      dom-at (in_mset_number ms c d) s o h = exs-at c s o h.0
      dom-at (in_mset_member ms es c) s o h = dom-at c s o h.1
      dom-at (in_function_number ms c d r) s o h = exs-at c s o h.0
      dom-at (in_argument ms es c r) s o h = dom-at c s o h.1
      dom-at (in_result ms es d c) s o h = dom-at c s o h.2
      dom-at (in_relation_number ms c ds) s o h = exs-at c s o h.0
      dom-at (in_relation_component ms es c) s o h = doms-at c s o h.1
      dom-at (in_partition_number ms c d) s o h = exs-at c s o h.0
      dom-at (in_partition_member ms es c) s o h = dom-at c s o h.1

      doms-at : (c : InDoms) (s : Scope) → doms_outside_views c ≡ true → ScopedDoms z s.all s.over_domains (fill_doms c a) →
          Inside (scope_at_doms c s) a
      doms-at (in_first_domain c ds) s o h = dom-at c s o h.0
      doms-at (in_later_domain d c) s o h = doms-at c s o h.1
