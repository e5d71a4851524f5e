-- Names that have a type at a part are in scope there.
use Rattle.std.proofs.Common.{◌≡◌, refl, Bool, true, false, ◌||◌, if◌then◌else◌, Some}
use Rattle.std.specs.Prelude.{IsTrue, is_some}
use Rattle.ess_semantics.specs.Values.{Text}
use Rattle.ess_semantics.specs.Order.{same_text}
use Rattle.ess_semantics.specs.Names.{Names, look}
use Rattle.ess_semantics.specs.Trees.{Pat, Pats, name_pat, tuple_pat, no_pats, more_pats, Gens, no_gens, over, from, cond}
use Rattle.ess_semantics.specs.Types.{Ty, Tys, no_tys, more_tys, any_ty, parts_of_ty, type_of_dom, bind_types, bind_all_types}
use Rattle.ess_semantics.specs.Typing.{source_ty}
use Rattle.ess_semantics.specs.Scoped.{is_bound, is_bound_by_some, with_names}
use Rattle.ess_semantics.specs.Contexts.{In, hole, in_operand, in_item, in_index_domain, in_body, in_generators, in_cell_index, in_view_domain, in_view_index, Ins, in_first, in_later, InGens, in_generator_domain, behind_over, in_source, behind_from, in_condition, behind_condition, InDom, in_bound, in_component, in_field, in_index, in_element, in_set_number, in_set_member, in_mset_number, in_mset_member, in_function_number, in_argument, in_result, in_relation_number, in_relation_component, in_partition_number, in_partition_member, InDoms, in_first_domain, in_later_domain}
use Rattle.ess_semantics.specs.NamesAt.{names_behind, names_at, names_at_exs, names_at_gens, names_at_dom, names_at_doms}
use Rattle.ess_semantics.proofs.Tests.{or-yes}
use Rattle.ess_refine_laws.specs.ScopesStay.{Scope, scope_behind, scope_at, scope_at_exs, scope_at_gens, scope_at_dom, scope_at_doms, is_outside_views, are_outside_views, gens_outside_views, dom_outside_views, doms_outside_views}

-- Each name with a type is in scope.
abbrev pub Known : Names Ty → (Text → Bool) → Type 0
Known g s = (a : Text) → IsTrue (is_some (look g a)) → s a ≡ true

first-of : (a b : Bool) → a ≡ true → a || b ≡ true
first-of true b q = refl
first-of false b q = cc

apart : (a b c : Bool) → (a || b) || c ≡ true → a || (b || c) ≡ true
apart true b c q = refl
apart false b c q = q

mutual
  pattern-known : (p : Pat) (t : Ty) (g : Names Ty) (s : Text → Bool) → Known g s → Known (bind_types p t g) (with_names s p)
  pattern-known (name_pat b) t g s h a q = go (same_text b a) (h a) q
    where
      go : (c : Bool) → (IsTrue (is_some (look g a)) → s a ≡ true) → IsTrue (is_some (if c then Some t else look g a)) → s a || c ≡ true
      go true k q = or-yes (s a)
      go false k q = first-of (s a) false (k q)
  pattern-known (tuple_pat ps) t g s h a q = patterns-known ps (parts_of_ty t) g s h a q

  patterns-known : (ps : Pats) (ts : Tys) (g : Names Ty) (s : Text → Bool) → Known g s →
      Known (bind_all_types ps ts g) (λ a. s a || is_bound_by_some ps a)
  patterns-known no_pats ts g s h a q = first-of (s a) false (h a q)
  patterns-known (more_pats p ps) no_tys g s h a q = apart (s a) (is_bound p a) (is_bound_by_some ps a)
      (patterns-known ps no_tys (bind_types p any_ty g) (with_names s p) (pattern-known p any_ty g s h) a q)
  patterns-known (more_pats p ps) (more_tys t ts) g s h a q = apart (s a) (is_bound p a) (is_bound_by_some ps a)
      (patterns-known ps ts (bind_types p t g) (with_names s p) (pattern-known p t g s h) a q)

behind-known : (gs : Gens) (g : Names Ty) (s : Scope) → Known g s.all → Known (names_behind gs g) (scope_behind gs s).all
behind-known no_gens g s h = h
behind-known (over p d gs) g s h = behind-known gs (bind_types p (type_of_dom d) g)
    (record { all = with_names s.all p; over_domains = with_names s.over_domains p }) (pattern-known p (type_of_dom d) g s.all h)
behind-known (from p e gs) g s h = behind-known gs (bind_types p (source_ty e g) g)
    (record { all = with_names s.all p; over_domains = s.over_domains }) (pattern-known p (source_ty e g) g s.all h)
behind-known (cond e gs) g s h = behind-known gs g s h

mutual
  -- So it is at an open part outside of views.
  pub known-at : (c : In) (g : Names Ty) (s : Scope) → is_outside_views c ≡ true → Known g s.all → Known (names_at c g) (scope_at c s).all
  known-at hole g s o h = h
  known-at (in_operand b op c) g s o h = known-exs c g s o h
  known-at (in_item c d) g s o h = known-exs c g s o h
  known-at (in_index_domain es c) g s o h = known-dom c g s o h
  known-at (in_body c gs) g s o h = known-at c (names_behind gs g) (scope_behind gs s) o (behind-known gs g s h)
  known-at (in_generators x c) g s o h = known-gens c g s o h
  known-at (in_cell_index b n c) g s o h = known-exs c g s o h
  known-at (in_view_domain r c ns es) g s o h = cc
  known-at (in_view_index r d ns c) g s o h = cc

  known-exs : (c : Ins) (g : Names Ty) (s : Scope) → are_outside_views c ≡ true → Known g s.all →
      Known (names_at_exs c g) (scope_at_exs c s).all
  known-exs (in_first c es) g s o h = known-at c g s o h
  known-exs (in_later x c) g s o h = known-exs c g s o h

  known-gens : (c : InGens) (g : Names Ty) (s : Scope) → gens_outside_views c ≡ true → Known g s.all →
      Known (names_at_gens c g) (scope_at_gens c s).all
  known-gens (in_generator_domain p c gs) g s o h = known-dom c g s o h
  known-gens (behind_over p d c) g s o h = known-gens c (bind_types p (type_of_dom d) g)
      (record { all = with_names s.all p; over_domains = with_names s.over_domains p }) o (pattern-known p (type_of_dom d) g s.all h)
  known-gens (in_source p c gs) g s o h = known-at c g s o h
  known-gens (behind_from p x c) g s o h = known-gens c (bind_types p (source_ty x g) g)
      (record { all = with_names s.all p; over_domains = s.over_domains }) o (pattern-known p (source_ty x g) g s.all h)
  known-gens (in_condition c gs) g s o h = known-at c g s o h
  known-gens (behind_condition x c) g s o h = known-gens c g s o h

  known-dom : (c : InDom) (g : Names Ty) (s : Scope) → dom_outside_views c ≡ true → Known g s.all →
      Known (names_at_dom c g) (scope_at_dom c s).all
  known-dom (in_bound rs c) g s o h = known-exs c g s o h
  known-dom (in_component c) g s o h = known-doms c g s o h
  known-dom (in_field fs c) g s o h = known-doms c g s o h
  known-dom (in_index c d) g s o h = known-doms c g s o h
  known-dom (in_element is c) g s o h = known-dom c g s o h
  known-dom (in_set_number ms c d) g s o h = known-exs c g s o h
  known-dom (in_set_member ms es c) g s o h = known-dom c g s o h
  known-dom (in_mset_number ms c d) g s o h = known-exs c g s o h
  known-dom (in_mset_member ms es c) g s o h = known-dom c g s o h
  known-dom (in_function_number ms c d x) g s o h = known-exs c g s o h
  known-dom (in_argument ms es c x) g s o h = known-dom c g s o h
  known-dom (in_result ms es d c) g s o h = known-dom c g s o h
  known-dom (in_relation_number ms c ds) g s o h = known-exs c g s o h
  known-dom (in_relation_component ms es c) g s o h = known-doms c g s o h
  known-dom (in_partition_number ms c d) g s o h = known-exs c g s o h
  known-dom (in_partition_member ms es c) g s o h = known-dom c g s o h

  known-doms : (c : InDoms) (g : Names Ty) (s : Scope) → doms_outside_views c ≡ true → Known g s.all →
      Known (names_at_doms c g) (scope_at_doms c s).all
  known-doms (in_first_domain c ds) g s o h = known-dom c g s o h
  known-doms (in_later_domain d c) g s o h = known-doms c g s o h
