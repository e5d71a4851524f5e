-- Properties that hold wherever the context of an open part does: what follows from two of them holds there too.
use Rattle.std.proofs.Common.{Bool, true, false}
use Rattle.ess_semantics.specs.Trees.{Gens, no_gens, over, from, cond}
use Rattle.ess_semantics.specs.Meaning.{Env, with_pat, meaning, domain_of, members_in}
use Rattle.ess_semantics.specs.Contexts.{In, Ins, InGens, InDom, InDoms, hole, in_operand, in_item, in_index_domain, in_body, in_generators, in_cell_index, in_view_domain, in_view_index, in_first, in_later, in_generator_domain, behind_over, in_source, behind_from, in_condition, behind_condition, in_bound, in_component, in_field, in_index, in_element, in_set_number, in_set_member, in_mset_number, in_mset_member, in_function_number, in_argument, in_result, in_relation_number, in_relation_component, in_partition_number, in_partition_member, in_first_domain, in_later_domain, guards, AtEach, Where, WhereIn, WhereGens, WhereDom, WhereDoms}
use Rattle.ess_rules_laws.proofs.Bindings.{each-of-join, each-in-join}
use Rattle.ess_rules_laws.proofs.Kept.{where-stays}

-- At each binding of generators.
pub at-each-join : (gs : Gens) (env : Env) (P Q R : Env → Type 0) → ((h : Env) → P h → Q h → R h) → AtEach gs env P → AtEach gs env Q → AtEach gs env R
at-each-join no_gens env P Q R f p q = f env p q
at-each-join (over x d gs) env P Q R f p q = each-of-join (members_in (domain_of d env)) _ _ _ (λ v. at-each-join gs (with_pat x v env) P Q R f) p q
at-each-join (from x e gs) env P Q R f p q = each-in-join (meaning e env) _ _ _ (λ v. at-each-join gs (with_pat x v env) P Q R f) p q
at-each-join (cond e gs) env P Q R f p q = λ t. at-each-join gs env P Q R f (p t) (q t)

module _ (P Q R : Env → Type 0) (f : (h : Env) → P h → Q h → R h) where
  mutual
    -- Wherever the context of the open part holds.
    pub where-join : (c : In) (env : Env) → Where c env P → Where c env Q → Where c env R
    where-join hole env p q = f env p q
    where-join (in_operand b op c) env p q = exs-join (guards op) c env p q
    where-join (in_item c d) env p q = exs-join false c env p q
    where-join (in_index_domain es c) env p q = dom-join c env p q
    where-join (in_body c gs) env p q = at-each-join gs env _ _ _ (λ here. where-join c here) p q
    where-join (in_generators x c) env p q = gens-join c env p q
    where-join (in_cell_index b n c) env p q = exs-join false c env p q
    where-join (in_view_domain r c ns es) env p q = dom-join c env p q
    where-join (in_view_index r d ns c) env p q = exs-join false c env p q

    exs-join : (g : Bool) (c : Ins) (env : Env) → WhereIn g c env P → WhereIn g c env Q → WhereIn g c env R
    exs-join g (in_first c es) env p q = where-join c env p q
    exs-join true (in_later x c) env p q = λ t. exs-join false c env (p t) (q t)
    exs-join false (in_later x c) env p q = exs-join false c env p q

    gens-join : (c : InGens) (env : Env) → WhereGens c env P → WhereGens c env Q → WhereGens c env R
    gens-join (in_generator_domain x c gs) env p q = dom-join c env p q
    gens-join (behind_over x d c) env p q = each-of-join (members_in (domain_of d env)) _ _ _ (λ v. gens-join c (with_pat x v env)) p q
    gens-join (in_source x c gs) env p q = where-join c env p q
    gens-join (behind_from x e c) env p q = each-in-join (meaning e env) _ _ _ (λ v. gens-join c (with_pat x v env)) p q
    gens-join (in_condition c gs) env p q = where-join c env p q
    gens-join (behind_condition x c) env p q = λ t. gens-join c env (p t) (q t)

    dom-join : (c : InDom) (env : Env) → WhereDom c env P → WhereDom c env Q → WhereDom c env R
    dom-join (in_bound rs c) env p q = exs-join false c env p q
    dom-join (in_component c) env p q = doms-join c env p q
    dom-join (in_field fs c) env p q = doms-join c env p q
    dom-join (in_index c d) env p q = doms-join c env p q
    dom-join (in_element is c) env p q = dom-join c env p q
    dom-join (in_set_number ms c d) env p q = exs-join false c env p q
    dom-join (in_set_member ms es c) env p q = dom-join c env p q
    dom-join (in_mset_number ms c d) env p q = exs-join false c env p q
    dom-join (in_mset_member ms es c) env p q = dom-join c env p q
    dom-join (in_function_number ms c d r) env p q = exs-join false c env p q
    dom-join (in_argument ms es c r) env p q = dom-join c env p q
    dom-join (in_result ms es d c) env p q = dom-join c env p q
    dom-join (in_relation_number ms c ds) env p q = exs-join false c env p q
    dom-join (in_relation_component ms es c) env p q = doms-join c env p q
    dom-join (in_partition_number ms c d) env p q = exs-join false c env p q
    dom-join (in_partition_member ms es c) env p q = dom-join c env p q

    doms-join : (c : InDoms) (env : Env) → WhereDoms c env P → WhereDoms c env Q → WhereDoms c env R
    doms-join (in_first_domain c ds) env p q = dom-join c env p q
    doms-join (in_later_domain d c) env p q = doms-join c env p q

-- What follows from P holds wherever P does.
pub where-map : (c : In) (env : Env) (P Q : Env → Type 0) → ((h : Env) → P h → Q h) → Where c env P → Where c env Q
where-map c env P Q f p = where-join P (λ h. Unit {0}) Q (λ h p t. f h p) c env p (where-stays (λ h. Unit {0}) (λ x v h t. tt) c env tt)
