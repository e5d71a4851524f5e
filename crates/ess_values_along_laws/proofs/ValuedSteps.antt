-- A rule that keeps at its root that each part has a value keeps it in the whole.
use Rattle.std.proofs.Common.{◌≡◌, refl, ap, ◌∙◌, subst, Bool, true, false, ◌||◌, Option}
use Rattle.std.specs.Prelude.{IsTrue, is_some}
use Rattle.ess_semantics.specs.Values.{Value}
use Rattle.ess_semantics.specs.Trees.{Ex, no_exs, Gens, no_gens, over, from, cond}
use Rattle.ess_semantics.specs.Operators.{as_truth}
use Rattle.ess_semantics.specs.Meaning.{Env, with_pat, meaning, domain_of, members_in}
use Rattle.ess_semantics.specs.Contexts.{In, Ins, InGens, InDom, InDoms, hole, in_operand, in_item, in_index_domain, in_body, in_generators, in_cell_index, in_view_domain, in_view_index, in_first, in_later, in_generator_domain, behind_over, in_source, behind_from, in_condition, behind_condition, in_bound, in_component, in_field, in_index, in_element, in_set_number, in_set_member, in_mset_number, in_mset_member, in_function_number, in_argument, in_result, in_relation_number, in_relation_component, in_partition_number, in_partition_member, in_first_domain, in_later_domain, fill, fill_exs, fill_gens, fill_dom, fill_doms, guards, Guarded, EachOf, EachIn, AtEach, Where, WhereIn, WhereGens, WhereDom, WhereDoms}
use Rattle.ess_guard_laws.specs.Supplied.{Unless}
use Rattle.ess_guard_natural_laws.specs.TotalButNatural.{opens_places}
use Rattle.ess_rules_laws.proofs.Bindings.{each-of-join, each-in-join}
use Rattle.ess_rules_laws.proofs.Places.{where-map}
use Rattle.ess_rules_laws.proofs.Replacement.{filled, filled-dom}
use Rattle.ess_refine_laws.specs.ScopesStay.{is_outside_views, are_outside_views, gens_outside_views, dom_outside_views, doms_outside_views}
use Rattle.ess_values_along_laws.specs.Valued.{lacks, Valued, AllValued, UnderValued, DomValued, DomsValued}
use Rattle.ess_values_along_laws.specs.ValuesAlong.{natural_at, natural_in, natural_in_gens, natural_in_dom, natural_in_doms, KeepsValues}

-- ---- generators

under-join : (gs : Gens) (env : Env) (P Q R : Env → Type 0) → ((h : Env) → P h → Q h → R h) → AtEach gs env P → UnderValued gs env Q →
    UnderValued gs env R
under-join no_gens env P Q R f p q = f env p q
under-join (over x d gs) env P Q R f p q =
    (q.0, each-of-join (members_in (domain_of d env)) _ _ _ (λ v. under-join gs (with_pat x v env) P Q R f) p q.1)
under-join (from x e gs) env P Q R f p q =
    (q.0, each-in-join (meaning e env) _ _ _ (λ v. under-join gs (with_pat x v env) P Q R f) p q.1)
under-join (cond e gs) env P Q R f p q = (q.0, λ t. under-join gs env P Q R f (p t) (q.1 t))

-- ---- one step

module _ (a b : Ex) where
  -- What is said at the open part, without values.
  pub same : (c : In) (w : Bool) (env : Env) → Where c env (KeepsValues w a b) → meaning (fill c a) env ≡ meaning (fill c b) env
  same c w env p = filled a b c env (where-map c env (KeepsValues w a b) (λ here. meaning a here ≡ meaning b here) (λ h k. k.0) p)

  same-dom : (c : InDom) (w : Bool) (env : Env) → WhereDom c env (KeepsValues w a b) → domain_of (fill_dom c a) env ≡ domain_of
      (fill_dom c b) env
  same-dom c w env p = filled-dom a b c env (where-map (in_index_domain no_exs c) env (KeepsValues w a b)
      (λ here. meaning a here ≡ meaning b here) (λ h k. k.0) p)

  there : (x y : Option Value) → x ≡ y → IsTrue (is_some x) → IsTrue (is_some y)
  there x y q h = subst (λ z. IsTrue (is_some z)) q h

  unless-there : (l m : Bool) (x y : Option Value) → l ≡ m → x ≡ y → Unless l (IsTrue (is_some x)) → Unless m (IsTrue (is_some y))
  unless-there l m x y q r h = subst (λ z. Unless z (IsTrue (is_some y))) q (subst (λ z. Unless l (IsTrue (is_some z))) r h)

  mutual
    pub step-valued : (c : In) (w : Bool) (env : Env) → is_outside_views c ≡ true → Where c env (KeepsValues (natural_at a c w) a b) →
        Valued w (fill c a) env → Valued w (fill c b) env
    step-valued hole w env o p v = p.1 v
    step-valued (in_operand t op c) w env o p v = (
      unless-there (lacks w t op) (lacks w t op) _ _ refl
          (same (in_operand t op c) (natural_at a (in_operand t op c) w) env p) v.0,
      step-all c (guards op) (opens_places w t op) env o p v.1,
    )
    step-valued (in_item c d) w env o p v =
        (there _ _ (same (in_item c d) (natural_at a (in_item c d) w) env p) v.0, step-all c false false env o p v.1, v.2)
    step-valued (in_index_domain es c) w env o p v =
        (there _ _ (same (in_index_domain es c) (natural_at a (in_index_domain es c) w) env p) v.0, v.1, step-dom c env o p v.2)
    step-valued (in_body c gs) w env o p v = (
      there _ _ (same (in_body c gs) (natural_at a (in_body c gs) w) env p) v.0,
      under-join gs env _ _ _ (λ h q n. step-valued c false h o q n) p v.1,
    )
    step-valued (in_generators x c) w env o p v = (
      there _ _ (same (in_generators x c) (natural_at a (in_generators x c) w) env p) v.0,
      step-gens c env x o p v.1,
    )
    step-valued (in_cell_index t n c) w env o p v = (
      unless-there (t || w) (t || w) _ _ refl (same (in_cell_index t n c) (natural_at a (in_cell_index t n c) w) env p) v.0,
      step-all c false false env o p v.1,
    )
    step-valued (in_view_domain r c ns es) w env o p v = cc
    step-valued (in_view_index r d ns c) w env o p v = cc

    step-all : (c : Ins) (g w : Bool) (env : Env) → are_outside_views c ≡ true → WhereIn g c env (KeepsValues (natural_in a c w) a b) →
        AllValued g w (fill_exs c a) env → AllValued g w (fill_exs c b) env
    step-all (in_first c es) g w env o p v = (
      step-valued c w env o p v.0,
      subst (λ z. Guarded g z (AllValued false w es env)) (same c (natural_at a c w) env p) v.1,
    )
    step-all (in_later x c) true w env o p v = (v.0, λ t. step-all c false w env o (p t) (v.1 t))
    step-all (in_later x c) false w env o p v = (v.0, step-all c false w env o p v.1)

    step-gens : (c : InGens) (env : Env) (e : Ex) → gens_outside_views c ≡ true → WhereGens c env (KeepsValues (natural_in_gens a c) a b) →
        UnderValued (fill_gens c a) env (λ here. Valued false e here) → UnderValued (fill_gens c b) env (λ here. Valued false e here)
    step-gens (in_generator_domain x c gs) env e o p v = (
      step-dom c env o p v.0,
      subst (λ z. EachOf (members_in z) (λ y. UnderValued gs (with_pat x y env) (λ here. Valued false e here))) (same-dom c
          (natural_in_dom a c) env p) v.1,
    )
    step-gens (behind_over x d c) env e o p v =
        (v.0, each-of-join (members_in (domain_of d env)) _ _ _ (λ y q n. step-gens c (with_pat x y env) e o q n) p v.1)
    step-gens (in_source x c gs) env e o p v = (
      step-valued c false env o p v.0,
      subst (λ z. EachIn z (λ y. UnderValued gs (with_pat x y env) (λ here. Valued false e here))) (same c
          (natural_at a c false) env p) v.1,
    )
    step-gens (behind_from x s c) env e o p v =
        (v.0, each-in-join (meaning s env) _ _ _ (λ y q n. step-gens c (with_pat x y env) e o q n) p v.1)
    step-gens (in_condition c gs) env e o p v = (
      step-valued c false env o p v.0,
      λ t. v.1 (ap as_truth (same c (natural_at a c false) env p) ∙ t),
    )
    step-gens (behind_condition x c) env e o p v = (v.0, λ t. step-gens c env e o (p t) (v.1 t))

    step-dom : (c : InDom) (env : Env) → dom_outside_views c ≡ true → WhereDom c env (KeepsValues (natural_in_dom a c) a b) →
        DomValued (fill_dom c a) env → DomValued (fill_dom c b) env
    step-dom (in_bound rs c) env o p v = step-all c false false env o p v
    step-dom (in_component c) env o p v = step-doms c env o p v
    step-dom (in_field fs c) env o p v = step-doms c env o p v
    step-dom (in_index c d) env o p v = (step-doms c env o p v.0, v.1)
    step-dom (in_element is c) env o p v = (v.0, step-dom c env o p v.1)
    step-dom (in_set_number ms c d) env o p v = (step-all c false false env o p v.0, v.1)
    step-dom (in_set_member ms es c) env o p v = (v.0, step-dom c env o p v.1)
    step-dom (in_mset_number ms c d) env o p v = (step-all c false false env o p v.0, v.1)
    step-dom (in_mset_member ms es c) env o p v = (v.0, step-dom c env o p v.1)
    step-dom (in_function_number ms c d r) env o p v = (step-all c false false env o p v.0, v.1, v.2)
    step-dom (in_argument ms es c r) env o p v = (v.0, step-dom c env o p v.1, v.2)
    step-dom (in_result ms es d c) env o p v = (v.0, v.1, step-dom c env o p v.2)
    step-dom (in_relation_number ms c ds) env o p v = (step-all c false false env o p v.0, v.1)
    step-dom (in_relation_component ms es c) env o p v = (v.0, step-doms c env o p v.1)
    step-dom (in_partition_number ms c d) env o p v = (step-all c false false env o p v.0, v.1)
    step-dom (in_partition_member ms es c) env o p v = (v.0, step-dom c env o p v.1)

    step-doms : (c : InDoms) (env : Env) → doms_outside_views c ≡ true → WhereDoms c env (KeepsValues (natural_in_doms a c) a b) →
        DomsValued (fill_doms c a) env → DomsValued (fill_doms c b) env
    step-doms (in_first_domain c ds) env o p v = (step-dom c env o p v.0, v.1)
    step-doms (in_later_domain d c) env o p v = (v.0, step-doms c env o p v.1)
