-- Wherever the context of a part holds, names have values of their types, and positions stand for the values of named types.
use Rattle.std.proofs.Common.{◌≡◌, refl, Bool, true, false, List, Option, Some, None}
use Rattle.ess_semantics.specs.Names.{Names}
use Rattle.ess_semantics.specs.Trees.{Pat, Ex, Gens, no_gens, over, from, cond}
use Rattle.ess_semantics.specs.Types.{Ty, type_of_dom, bind_types}
use Rattle.ess_semantics.specs.Typing.{source_ty}
use Rattle.ess_semantics.specs.Typed.{Typed}
use Rattle.ess_semantics.specs.Values.{Value}
use Rattle.ess_semantics.specs.Meaning.{Env, meaning, domain_of, members_in, with_pat}
use Rattle.ess_semantics.specs.Meets.{Meets, MeetsAll, MeetsGens, MeetsDom}
use Rattle.ess_semantics.specs.NamesAt.{names_behind, names_at, names_at_exs, names_at_gens, names_at_dom}
use Rattle.ess_semantics.specs.Contexts.{In, hole, in_operand, in_item, in_index_domain, in_body, in_generators, in_cell_index, in_view_domain, in_view_index, Ins, in_first, in_later, InGens, in_generator_domain, behind_over, in_source, behind_from, in_condition, behind_condition, InDom, in_bound, in_component, in_field, in_index, in_element, in_set_number, in_set_member, in_mset_number, in_mset_member, in_function_number, in_argument, in_result, in_relation_number, in_relation_component, in_partition_number, in_partition_member, InDoms, in_first_domain, in_later_domain, fill, fill_exs, fill_gens, fill_dom, guards, Guarded, EachOf, EachIn, AtEach, Where, WhereIn, WhereGens, WhereDom, WhereDoms}
use Rattle.ess_rules_laws.proofs.Bindings.{each-of-join, each-in-join, guarded-map}
use Rattle.ess_rules_laws.proofs.RuleAnswers.{each-any, each-in-any}
use Rattle.ess_refine_laws.specs.ScopesStay.{is_outside_views, are_outside_views, gens_outside_views, dom_outside_views}
use Rattle.ess_seen_values_laws.proofs.DrawnNames.{Drawn, DrawnExs, DrawnGens, DrawnDom}

outside : {A : Type 0} → false ≡ true → A
outside q = cc

-- ---- types

-- What stands behind generators.
behind : (gs : Gens) (g : Names Ty) (env : Env) (K : Names Ty → Type 0) (Q R : Env → Type 0) → DrawnGens g gs K → Typed g env →
    MeetsGens gs env Q → ((here : Env) → K (names_behind gs g) → Typed (names_behind gs g) here → Q here → R here) → AtEach gs env R
behind no_gens g env K Q R d t m f = f env d t m
behind (over p x gs) g env K Q R d t m f = each-of-join (members_in (domain_of x env)) _ _ _
    (λ v u w. behind gs (bind_types p (type_of_dom x) g) (with_pat p v env) K Q R d.2 u w f) (d.0 env t) m.1
behind (from p x gs) g env K Q R d t m f = each-in-join (meaning x env) _ _ _
    (λ v u w. behind gs (bind_types p (source_ty x g) g) (with_pat p v env) K Q R d.2 u w f) (d.0 env t m.0) m.1
behind (cond c gs) g env K Q R d t m f = λ h. behind gs g env K Q R d.1 t (m.1 h) f

module _ (a : Ex) where
  mutual
    -- Names have values of their types at the part.
    pub where-typed : (c : In) (g : Names Ty) (env : Env) → Drawn g (fill c a) → is_outside_views c ≡ true → Typed g env →
        Meets (fill c a) env → Where c env (Typed (names_at c g))
    where-typed hole g env d o t m = t
    where-typed (in_operand b op c) g env d o t m = exs-typed (guards op) c g env d o t m
    where-typed (in_item c x) g env d o t m = absurd d
    where-typed (in_index_domain es c) g env d o t m = absurd d
    where-typed (in_body c gs) g env d o t m =
        behind gs g env (λ h. Drawn h (fill c a)) (Meets (fill c a)) _ d t m
        (λ here k u n. where-typed c (names_behind gs g) here k o u n)
    where-typed (in_generators x c) g env d o t m = gens-typed c g env x d o t m
    where-typed (in_cell_index b n c) g env d o t m = exs-typed false c g env d o t m
    where-typed (in_view_domain r c ns es) g env d o t m = outside o
    where-typed (in_view_index r x ns c) g env d o t m = outside o

    exs-typed : (b : Bool) (c : Ins) (g : Names Ty) (env : Env) → DrawnExs g (fill_exs c a) → are_outside_views c ≡ true → Typed g env →
        MeetsAll b (fill_exs c a) env → WhereIn b c env (Typed (names_at_exs c g))
    exs-typed b (in_first c es) g env d o t m = where-typed c g env d.0 o t m.0
    exs-typed b (in_later x c) g env d o t m = guarded-map b (meaning x env) (meaning x env) _ _ refl
        (λ n. exs-typed false c g env d.1 o t n) m.1

    gens-typed : (c : InGens) (g : Names Ty) (env : Env) (y : Ex) → DrawnGens g (fill_gens c a) (λ h. Drawn h y) →
        gens_outside_views c ≡ true → Typed g env → MeetsGens (fill_gens c a) env (Meets y) → WhereGens c env (Typed (names_at_gens c g))
    gens-typed (in_generator_domain p c gs) g env y d o t m = dom-typed c g env d.1 o t m.0
    gens-typed (behind_over p x c) g env y d o t m = each-of-join (members_in (domain_of x env)) _ _ _
        (λ v u w. gens-typed c (bind_types p (type_of_dom x) g) (with_pat p v env) y d.2 o u w) (d.0 env t) m.1
    gens-typed (in_source p c gs) g env y d o t m = where-typed c g env d.1 o t m.0
    gens-typed (behind_from p x c) g env y d o t m = each-in-join (meaning x env) _ _ _
        (λ v u w. gens-typed c (bind_types p (source_ty x g) g) (with_pat p v env) y d.2 o u w) (d.0 env t m.0) m.1
    gens-typed (in_condition c gs) g env y d o t m = where-typed c g env d.0 o t m.0
    gens-typed (behind_condition x c) g env y d o t m = λ h. gens-typed c g env y d.1 o t (m.1 h)

    dom-typed : (c : InDom) (g : Names Ty) (env : Env) → DrawnDom g (fill_dom c a) → dom_outside_views c ≡ true → Typed g env →
        MeetsDom (fill_dom c a) env → WhereDom c env (Typed (names_at_dom c g))
    dom-typed (in_bound rs c) g env d o t m = exs-typed false c g env d o t m
    dom-typed (in_component c) g env d o t m = absurd d
    dom-typed (in_field fs c) g env d o t m = absurd d
    dom-typed (in_index c x) g env d o t m = absurd d
    dom-typed (in_element is c) g env d o t m = absurd d
    dom-typed (in_set_number ms c x) g env d o t m = absurd d
    dom-typed (in_set_member ms es c) g env d o t m = absurd d
    dom-typed (in_mset_number ms c x) g env d o t m = absurd d
    dom-typed (in_mset_member ms es c) g env d o t m = absurd d
    dom-typed (in_function_number ms c x y) g env d o t m = absurd d
    dom-typed (in_argument ms es c y) g env d o t m = absurd d
    dom-typed (in_result ms es x c) g env d o t m = absurd d
    dom-typed (in_relation_number ms c ds) g env d o t m = absurd d
    dom-typed (in_relation_component ms es c) g env d o t m = absurd d
    dom-typed (in_partition_number ms c x) g env d o t m = absurd d
    dom-typed (in_partition_member ms es c) g env d o t m = absurd d

-- ---- what bindings don't change

module _ (P : Env → Type 0) (f : (p : Pat) (v : Value) (env : Env) → P env → P (with_pat p v env)) where
  each-of : (o : Option (List Value)) (p : Pat) (env : Env) (Q : Env → Type 0) → ((here : Env) → P here → Q here) → P env →
      EachOf o (λ v. Q (with_pat p v env))
  each-of None p env Q k h = tt
  each-of (Some vs) p env Q k h = each-any vs (λ v. Q (with_pat p v env)) (λ v. k (with_pat p v env) (f p v env h))

  each-in : (o : Option Value) (p : Pat) (env : Env) (Q : Env → Type 0) → ((here : Env) → P here → Q here) → P env →
      EachIn o (λ v. Q (with_pat p v env))
  each-in o p env Q k h = each-in-any o (λ v. Q (with_pat p v env)) (λ v. k (with_pat p v env) (f p v env h))

  -- At each binding.
  pub at-bindings : (gs : Gens) (env : Env) (Q : Env → Type 0) → ((here : Env) → P here → Q here) → P env → AtEach gs env Q
  at-bindings no_gens env Q k h = k env h
  at-bindings (over p d gs) env Q k h =
      each-of (members_in (domain_of d env)) p env (λ z. AtEach gs z Q) (λ here i. at-bindings gs here Q k i) h
  at-bindings (from p e gs) env Q k h = each-in (meaning e env) p env (λ z. AtEach gs z Q) (λ here i. at-bindings gs here Q k i) h
  at-bindings (cond c gs) env Q k h = λ t. at-bindings gs env Q k h

  guarded : (b : Bool) (o : Option Value) (Q : Type 0) → Q → Guarded b o Q
  guarded true o Q h = λ t. h
  guarded false o Q h = h

  mutual
    -- What no binding changes holds wherever the context of a part does.
    pub wherever : (c : In) (env : Env) → P env → Where c env P
    wherever hole env h = h
    wherever (in_operand b op c) env h = wherever-exs (guards op) c env h
    wherever (in_item c d) env h = wherever-exs false c env h
    wherever (in_index_domain es c) env h = wherever-dom c env h
    wherever (in_body c gs) env h = at-bindings gs env (λ here. Where c here P) (λ here i. wherever c here i) h
    wherever (in_generators x c) env h = wherever-gens c env h
    wherever (in_cell_index b n c) env h = wherever-exs false c env h
    wherever (in_view_domain r c ns es) env h = wherever-dom c env h
    wherever (in_view_index r d ns c) env h = wherever-exs false c env h

    wherever-exs : (b : Bool) (c : Ins) (env : Env) → P env → WhereIn b c env P
    wherever-exs b (in_first c es) env h = wherever c env h
    wherever-exs b (in_later x c) env h = guarded b (meaning x env) (WhereIn false c env P) (wherever-exs false c env h)

    wherever-gens : (c : InGens) (env : Env) → P env → WhereGens c env P
    wherever-gens (in_generator_domain p c gs) env h = wherever-dom c env h
    wherever-gens (behind_over p d c) env h =
        each-of (members_in (domain_of d env)) p env (λ z. WhereGens c z P) (λ here i. wherever-gens c here i) h
    wherever-gens (in_source p c gs) env h = wherever c env h
    wherever-gens (behind_from p x c) env h =
        each-in (meaning x env) p env (λ z. WhereGens c z P) (λ here i. wherever-gens c here i) h
    wherever-gens (in_condition c gs) env h = wherever c env h
    wherever-gens (behind_condition x c) env h = λ t. wherever-gens c env h

    wherever-dom : (c : InDom) (env : Env) → P env → WhereDom c env P
    wherever-dom (in_bound rs c) env h = wherever-exs false c env h
    wherever-dom (in_component c) env h = wherever-doms c env h
    wherever-dom (in_field fs c) env h = wherever-doms c env h
    wherever-dom (in_index c d) env h = wherever-doms c env h
    wherever-dom (in_element is c) env h = wherever-dom c env h
    wherever-dom (in_set_number ms c d) env h = wherever-exs false c env h
    wherever-dom (in_set_member ms es c) env h = wherever-dom c env h
    wherever-dom (in_mset_number ms c d) env h = wherever-exs false c env h
    wherever-dom (in_mset_member ms es c) env h = wherever-dom c env h
    wherever-dom (in_function_number ms c d r) env h = wherever-exs false c env h
    wherever-dom (in_argument ms es c r) env h = wherever-dom c env h
    wherever-dom (in_result ms es d c) env h = wherever-dom c env h
    wherever-dom (in_relation_number ms c ds) env h = wherever-exs false c env h
    wherever-dom (in_relation_component ms es c) env h = wherever-doms c env h
    wherever-dom (in_partition_number ms c d) env h = wherever-exs false c env h
    wherever-dom (in_partition_member ms es c) env h = wherever-dom c env h

    wherever-doms : (c : InDoms) (env : Env) → P env → WhereDoms c env P
    wherever-doms (in_first_domain c ds) env h = wherever-dom c env h
    wherever-doms (in_later_domain d c) env h = wherever-doms c env h
