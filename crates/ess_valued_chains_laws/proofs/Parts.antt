-- What a tree has its parts have wherever their contexts hold: values, and that structures are met.
use Rattle.std.proofs.Common.{◌≡◌, Bool, true, false}
use Rattle.ess_semantics.specs.Trees.{Ex, Gens, no_gens, over, from, cond}
use Rattle.ess_semantics.specs.Meaning.{Env, with_pat, meaning, domain_of, members_in}
use Rattle.ess_semantics.specs.Meets.{Meets, MeetsAll, MeetsGens, MeetsDom, MeetsDoms}
use Rattle.ess_semantics.specs.Contexts.{In, Ins, InGens, InDom, InDoms, hole, in_operand, in_item, in_index_domain, in_body, in_generators, in_cell_index, in_view_domain, in_view_index, in_first, in_later, in_generator_domain, behind_over, in_source, behind_from, in_condition, behind_condition, in_bound, in_component, in_field, in_index, in_element, in_set_number, in_set_member, in_mset_number, in_mset_member, in_function_number, in_argument, in_result, in_relation_number, in_relation_component, in_partition_number, in_partition_member, in_first_domain, in_later_domain, fill, fill_exs, fill_gens, fill_dom, fill_doms, guards, AtEach, Where, WhereIn, WhereGens, WhereDom, WhereDoms}
use Rattle.ess_guard_natural_laws.specs.TotalButNatural.{opens_places}
use Rattle.ess_rules_laws.proofs.Bindings.{each-of-map, each-in-map}
use Rattle.ess_refine_laws.specs.ScopesStay.{is_outside_views, are_outside_views, gens_outside_views, dom_outside_views, doms_outside_views}
use Rattle.ess_values_along_laws.specs.Valued.{Valued, AllValued, UnderValued, DomValued, DomsValued}
use Rattle.ess_values_along_laws.specs.ValuesAlong.{natural_at, natural_in, natural_in_gens, natural_in_dom, natural_in_doms}

-- At each binding, without what is asked of the generators.
under-each : (gs : Gens) (env : Env) (P Q : Env → Type 0) → ((h : Env) → P h → Q h) → UnderValued gs env P → AtEach gs env Q
under-each no_gens env P Q f v = f env v
under-each (over x d gs) env P Q f v = each-of-map (members_in (domain_of d env)) _ _ (λ y. under-each gs (with_pat x y env) P Q f) v.1
under-each (from x e gs) env P Q f v = each-in-map (meaning e env) _ _ (λ y. under-each gs (with_pat x y env) P Q f) v.1
under-each (cond e gs) env P Q f v = λ t. under-each gs env P Q f (v.1 t)

met-each : (gs : Gens) (env : Env) (P Q : Env → Type 0) → ((h : Env) → P h → Q h) → MeetsGens gs env P → AtEach gs env Q
met-each no_gens env P Q f v = f env v
met-each (over x d gs) env P Q f v = each-of-map (members_in (domain_of d env)) _ _ (λ y. met-each gs (with_pat x y env) P Q f) v.1
met-each (from x e gs) env P Q f v = each-in-map (meaning e env) _ _ (λ y. met-each gs (with_pat x y env) P Q f) v.1
met-each (cond e gs) env P Q f v = λ t. met-each gs env P Q f (v.1 t)

module _ (a : Ex) where
  mutual
    pub valued-part : (c : In) (w : Bool) (env : Env) → is_outside_views c ≡ true → Valued w (fill c a) env →
        Where c env (Valued (natural_at a c w) a)
    valued-part hole w env o v = v
    valued-part (in_operand b op c) w env o v = valued-exs c (guards op) (opens_places w b op) env o v.1
    valued-part (in_item c d) w env o v = valued-exs c false false env o v.1
    valued-part (in_index_domain es c) w env o v = valued-dom c env o v.2
    valued-part (in_body c gs) w env o v = under-each gs env _ _ (λ h n. valued-part c false h o n) v.1
    valued-part (in_generators x c) w env o v = valued-gens c env x o v.1
    valued-part (in_cell_index b n c) w env o v = valued-exs c false false env o v.1
    valued-part (in_view_domain r c ns es) w env o v = cc
    valued-part (in_view_index r d ns c) w env o v = cc

    valued-exs : (c : Ins) (g w : Bool) (env : Env) → are_outside_views c ≡ true → AllValued g w (fill_exs c a) env →
        WhereIn g c env (Valued (natural_in a c w) a)
    valued-exs (in_first c es) g w env o v = valued-part c w env o v.0
    valued-exs (in_later x c) true w env o v = λ t. valued-exs c false w env o (v.1 t)
    valued-exs (in_later x c) false w env o v = valued-exs c false w env o v.1

    valued-gens : (c : InGens) (env : Env) (e : Ex) → gens_outside_views c ≡ true → UnderValued (fill_gens c a) env
        (λ here. Valued false e here) →
        WhereGens c env (Valued (natural_in_gens a c) a)
    valued-gens (in_generator_domain x c gs) env e o v = valued-dom c env o v.0
    valued-gens (behind_over x d c) env e o v =
        each-of-map (members_in (domain_of d env)) _ _ (λ y n. valued-gens c (with_pat x y env) e o n) v.1
    valued-gens (in_source x c gs) env e o v = valued-part c false env o v.0
    valued-gens (behind_from x s c) env e o v = each-in-map (meaning s env) _ _ (λ y n. valued-gens c (with_pat x y env) e o n) v.1
    valued-gens (in_condition c gs) env e o v = valued-part c false env o v.0
    valued-gens (behind_condition x c) env e o v = λ t. valued-gens c env e o (v.1 t)

    valued-dom : (c : InDom) (env : Env) → dom_outside_views c ≡ true → DomValued (fill_dom c a) env →
        WhereDom c env (Valued (natural_in_dom a c) a)
    valued-dom (in_bound rs c) env o v = valued-exs c false false env o v
    valued-dom (in_component c) env o v = valued-doms c env o v
    valued-dom (in_field fs c) env o v = valued-doms c env o v
    valued-dom (in_index c d) env o v = valued-doms c env o v.0
    valued-dom (in_element is c) env o v = valued-dom c env o v.1
    valued-dom (in_set_number ms c d) env o v = valued-exs c false false env o v.0
    valued-dom (in_set_member ms es c) env o v = valued-dom c env o v.1
    valued-dom (in_mset_number ms c d) env o v = valued-exs c false false env o v.0
    valued-dom (in_mset_member ms es c) env o v = valued-dom c env o v.1
    valued-dom (in_function_number ms c d r) env o v = valued-exs c false false env o v.0
    valued-dom (in_argument ms es c r) env o v = valued-dom c env o v.1
    valued-dom (in_result ms es d c) env o v = valued-dom c env o v.2
    valued-dom (in_relation_number ms c ds) env o v = valued-exs c false false env o v.0
    valued-dom (in_relation_component ms es c) env o v = valued-doms c env o v.1
    valued-dom (in_partition_number ms c d) env o v = valued-exs c false false env o v.0
    valued-dom (in_partition_member ms es c) env o v = valued-dom c env o v.1

    valued-doms : (c : InDoms) (env : Env) → doms_outside_views c ≡ true → DomsValued (fill_doms c a) env →
        WhereDoms c env (Valued (natural_in_doms a c) a)
    valued-doms (in_first_domain c ds) env o v = valued-dom c env o v.0
    valued-doms (in_later_domain d c) env o v = valued-doms c env o v.1

  mutual
    pub met-part : (c : In) (env : Env) → Meets (fill c a) env → Where c env (Meets a)
    met-part hole env v = v
    met-part (in_operand b op c) env v = met-exs c (guards op) env v
    met-part (in_item c d) env v = met-exs c false env v.0
    met-part (in_index_domain es c) env v = met-dom c env v.1
    met-part (in_body c gs) env v = met-each gs env _ _ (λ h n. met-part c h n) v
    met-part (in_generators x c) env v = met-gens c env x v
    met-part (in_cell_index b n c) env v = met-exs c false env v
    met-part (in_view_domain r c ns es) env v = met-dom c env v.1
    met-part (in_view_index r d ns c) env v = met-exs c false env v.2

    met-exs : (c : Ins) (g : Bool) (env : Env) → MeetsAll g (fill_exs c a) env → WhereIn g c env (Meets a)
    met-exs (in_first c es) g env v = met-part c env v.0
    met-exs (in_later x c) true env v = λ t. met-exs c false env (v.1 t)
    met-exs (in_later x c) false env v = met-exs c false env v.1

    met-gens : (c : InGens) (env : Env) (e : Ex) → MeetsGens (fill_gens c a) env (λ here. Meets e here) → WhereGens c env (Meets a)
    met-gens (in_generator_domain x c gs) env e v = met-dom c env v.0
    met-gens (behind_over x d c) env e v = each-of-map (members_in (domain_of d env)) _ _ (λ y n. met-gens c (with_pat x y env) e n) v.1
    met-gens (in_source x c gs) env e v = met-part c env v.0
    met-gens (behind_from x s c) env e v = each-in-map (meaning s env) _ _ (λ y n. met-gens c (with_pat x y env) e n) v.1
    met-gens (in_condition c gs) env e v = met-part c env v.0
    met-gens (behind_condition x c) env e v = λ t. met-gens c env e (v.1 t)

    met-dom : (c : InDom) (env : Env) → MeetsDom (fill_dom c a) env → WhereDom c env (Meets a)
    met-dom (in_bound rs c) env v = met-exs c false env v
    met-dom (in_component c) env v = met-doms c env v
    met-dom (in_field fs c) env v = met-doms c env v
    met-dom (in_index c d) env v = met-doms c env v.0
    met-dom (in_element is c) env v = met-dom c env v.1
    met-dom (in_set_number ms c d) env v = met-exs c false env v.0
    met-dom (in_set_member ms es c) env v = met-dom c env v.1
    met-dom (in_mset_number ms c d) env v = met-exs c false env v.0
    met-dom (in_mset_member ms es c) env v = met-dom c env v.1
    met-dom (in_function_number ms c d r) env v = met-exs c false env v.0
    met-dom (in_argument ms es c r) env v = met-dom c env v.1
    met-dom (in_result ms es d c) env v = met-dom c env v.2
    met-dom (in_relation_number ms c ds) env v = met-exs c false env v.0
    met-dom (in_relation_component ms es c) env v = met-doms c env v.1
    met-dom (in_partition_number ms c d) env v = met-exs c false env v.0
    met-dom (in_partition_member ms es c) env v = met-dom c env v.1

    met-doms : (c : InDoms) (env : Env) → MeetsDoms (fill_doms c a) env → WhereDoms c env (Meets a)
    met-doms (in_first_domain c ds) env v = met-dom c env v.0
    met-doms (in_later_domain d c) env v = met-doms c env v.1
