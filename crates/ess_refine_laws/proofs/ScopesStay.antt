-- A part outside of views that keeps its scope keeps that of the whole.
use Rattle.std.proofs.Common.{◌≡◌, Bool, true, false}
use Rattle.ess_semantics.specs.Values.{Text}
use Rattle.ess_semantics.specs.Names.{Names}
use Rattle.ess_semantics.specs.Trees.{Ex, Gens, no_gens, over, from, cond}
use Rattle.ess_semantics.specs.Types.{Ty}
use Rattle.ess_semantics.specs.Scoped.{with_names, Scoped, ScopedExs, ScopedGens, ScopedDom, ScopedDoms}
use Rattle.ess_semantics.specs.Contexts.{In, Ins, InGens, InDom, InDoms, hole, in_operand, in_item, in_index_domain, in_body, in_generators, in_cell_index, in_view_domain, in_view_index, in_first, in_later, in_generator_domain, behind_over, in_source, behind_from, in_condition, behind_condition, in_bound, in_component, in_field, in_index, in_element, in_set_number, in_set_member, in_mset_number, in_mset_member, in_function_number, in_argument, in_result, in_relation_number, in_relation_component, in_partition_number, in_partition_member, in_first_domain, in_later_domain, fill, fill_exs, fill_gens, fill_dom, fill_doms}
use Rattle.ess_semantics.specs.Kept.{Kept}
use Rattle.ess_rules_laws.proofs.Kept.{kept-itself, kept-chain}
use Rattle.ess_semantics.specs.Typed.{Typed}
use Rattle.ess_refine_laws.specs.ScopesStay.{Scope, scope_behind, scope_at, scope_at_exs, scope_at_gens, scope_at_dom, scope_at_doms, is_outside_views, are_outside_views, gens_outside_views, dom_outside_views, doms_outside_views, KeepsScope, ScopedRewriting, same_scope, scoped_at, WholesKeepScopes}

no : {A : Type 0} → false ≡ true → A
no h = cc

module _ (z : Text → Bool) where
  -- What holds of the names behind generators.
  body-scope : (gs : Gens) (s : Scope) (e f : Ex) → KeepsScope z (scope_behind gs s) e f →
      ScopedGens z s.all s.over_domains gs (λ t p. Scoped z t p e) → ScopedGens z s.all s.over_domains gs (λ t p. Scoped z t p f)
  body-scope no_gens s e f k h = k h
  body-scope (over p d gs) s e f k h =
      (h.0, h.1, body-scope gs (record { all = with_names s.all p; over_domains = with_names s.over_domains p }) e f k h.2)
  body-scope (from p x gs) s e f k h =
      (h.0, h.1, body-scope gs (record { all = with_names s.all p; over_domains = s.over_domains }) e f k h.2)
  body-scope (cond c gs) s e f k h = (h.0, body-scope gs s e f k h.1)

  module _ (a b : Ex) where
    mutual
      part-scope : (c : In) (s : Scope) → is_outside_views c ≡ true → KeepsScope z (scope_at c s) a b → KeepsScope z s (fill c a) (fill c b)
      part-scope hole s v k h = k h
      part-scope (in_operand m op c) s v k h = exs-scope c s v k h
      part-scope (in_item c d) s v k h = (exs-scope c s v k h.0, h.1)
      part-scope (in_index_domain es c) s v k h = (h.0, dom-scope c s v k h.1)
      part-scope (in_body c gs) s v k h = body-scope gs s (fill c a) (fill c b) (λ u. part-scope c (scope_behind gs s) v k u) h
      part-scope (in_generators x c) s v k h = gens-scope c x s v k h
      part-scope (in_cell_index m n c) s v k h = exs-scope c s v k h
      part-scope (in_view_domain r c ns es) s v k h = no v
      part-scope (in_view_index r d ns c) s v k h = no v

      exs-scope : (c : Ins) (s : Scope) → are_outside_views c ≡ true → KeepsScope z (scope_at_exs c s) a b →
          ScopedExs z s.all s.over_domains (fill_exs c a) → ScopedExs z s.all s.over_domains (fill_exs c b)
      exs-scope (in_first c es) s v k h = (part-scope c s v k h.0, h.1)
      exs-scope (in_later x c) s v k h = (h.0, exs-scope c s v k h.1)

      gens-scope : (c : InGens) (x : Ex) (s : Scope) → gens_outside_views c ≡ true → KeepsScope z (scope_at_gens c s) a b →
          ScopedGens z s.all s.over_domains (fill_gens c a) (λ t p. Scoped z t p x) →
          ScopedGens z s.all s.over_domains (fill_gens c b) (λ t p. Scoped z t p x)
      gens-scope (in_generator_domain p c gs) x s v k h = (h.0, dom-scope c s v k h.1, h.2)
      gens-scope (behind_over p d c) x s v k h =
          (h.0, h.1, gens-scope c x (record { all = with_names s.all p; over_domains = with_names s.over_domains p }) v k h.2)
      gens-scope (in_source p c gs) x s v k h = (h.0, part-scope c s v k h.1, h.2)
      gens-scope (behind_from p y c) x s v k h =
          (h.0, h.1, gens-scope c x (record { all = with_names s.all p; over_domains = s.over_domains }) v k h.2)
      gens-scope (in_condition c gs) x s v k h = (part-scope c s v k h.0, h.1)
      gens-scope (behind_condition y c) x s v k h = (h.0, gens-scope c x s v k h.1)

      dom-scope : (c : InDom) (s : Scope) → dom_outside_views c ≡ true → KeepsScope z (scope_at_dom c s) a b →
          ScopedDom z s.all s.over_domains (fill_dom c a) → ScopedDom z s.all s.over_domains (fill_dom c b)
      dom-scope (in_bound rs c) s v k h = exs-scope c s v k h
      dom-scope (in_component c) s v k h = doms-scope c s v k h
      dom-scope (in_field fs c) s v k h = doms-scope c s v k h
      dom-scope (in_index c d) s v k h = (doms-scope c s v k h.0, h.1)
      dom-scope (in_element is c) s v k h = (h.0, dom-scope c s v k h.1)
      dom-scope (in_set_number ms c d) s v k h = (exs-scope c s v k h.0, h.1)
      dom-scope (in_set_member ms es c) s v k h = (h.0, dom-scope c s v k h.1)
      dom-scope (in_mset_number ms c d) s v k h = (exs-scope c s v k h.0, h.1)
      dom-scope (in_mset_member ms es c) s v k h = (h.0, dom-scope c s v k h.1)
      dom-scope (in_function_number ms c d r) s v k h = (exs-scope c s v k h.0, h.1, h.2)
      dom-scope (in_argument ms es c r) s v k h = (h.0, dom-scope c s v k h.1, h.2)
      dom-scope (in_result ms es d c) s v k h = (h.0, h.1, dom-scope c s v k h.2)
      dom-scope (in_relation_number ms c ds) s v k h = (exs-scope c s v k h.0, h.1)
      dom-scope (in_relation_component ms es c) s v k h = (h.0, doms-scope c s v k h.1)
      dom-scope (in_partition_number ms c d) s v k h = (exs-scope c s v k h.0, h.1)
      dom-scope (in_partition_member ms es c) s v k h = (h.0, dom-scope c s v k h.1)

      doms-scope : (c : InDoms) (s : Scope) → doms_outside_views c ≡ true → KeepsScope z (scope_at_doms c s) a b →
          ScopedDoms z s.all s.over_domains (fill_doms c a) → ScopedDoms z s.all s.over_domains (fill_doms c b)
      doms-scope (in_first_domain c ds) s v k h = (dom-scope c s v k h.0, h.1)
      doms-scope (in_later_domain d c) s v k h = (h.0, doms-scope c s v k h.1)

  -- Any number of rules, each at some part.
  rewritten-scope : (g : Names Ty) (s : Scope) (old new : Ex) → ScopedRewriting z g s old new → KeepsScope z s old new
  rewritten-scope g s e d same_scope h = h
  rewritten-scope g s old e (scoped_at a b c v k r u) h =
      rewritten-scope g s (fill c b) e u (part-scope a b c s v k h)

  rewritten-kept-too : (g : Names Ty) (s : Scope) (old new : Ex) → ScopedRewriting z g s old new → Kept g old new
  rewritten-kept-too g s e d same_scope = kept-itself (Typed g) e
  rewritten-kept-too g s old e (scoped_at a b c v k r u) =
      kept-chain (Typed g) (fill c a) (fill c b) e r (rewritten-kept-too g s (fill c b) e u)

-- What stays.
pub scopes-stay : WholesKeepScopes
scopes-stay = record {
  at_a_part = λ z c s a b v k. part-scope z a b c s v k;
  by_any_rules = λ z g s old new u. (rewritten-kept-too z g s old new u, rewritten-scope z g s old new u);
}
