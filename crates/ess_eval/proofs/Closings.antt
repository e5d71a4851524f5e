-- Domains, fields, ranges and attributes that are there as lists.
use Rattle.std.proofs.Common.{◌≡◌, Bool, true, false, List, [], ◌∷◌, ◌++◌, map, Option, Some, None, option_map, refl, ap, sym, ◌∙◌}
use Rattle.ess_semantics.specs.Values.{Text}
use Rattle.ess_semantics.specs.Lists.{and_then}
use Rattle.ess_semantics.specs.Names.{Names, keys}
use Rattle.ess_semantics.specs.Kinds.{doms_of}
use Rattle.ess_semantics.specs.Trees as pure
use Rattle.ess_semantics.specs.Trees.{record_dom, function_dom}
use Rattle.ess_semantics.specs.Domains.{Attribute, Domain, Domains, functions, records, more_domains, no_domains}
use Rattle.ess_semantics.specs.Meaning.{Env, domain_of}
use Rattle.ess_semantics.specs.Meaning as meaning
use Rattle.ess_core.specs.TreeViews.{pure_dom, pure_doms, pure_field_dom, field_values}
use Rattle.ess_core.specs.declared.domains.Dom.{Dom}
use Rattle.ess_core.specs.declared.domains.FieldDom.{FieldDom}
use Rattle.ess_eval_domains.specs.ClosedViews.{pure_closed, pure_closeds, pure_field_closed, domains_of, record_domain}
use Rattle.ess_eval_domains.specs.declared.closed.Closed.{Closed}
use Rattle.ess_eval_domains.specs.declared.closed.FieldClosed.{FieldClosed}
use Rattle.ess_eval.specs.Items.{Gathered}
use Rattle.ess_eval.specs.ClosedDomains.{listed_domains, listed_fields}
use Rattle.ess_eval.proofs.Gathering.{gathered_all}

-- The domains as a list are the domains.
pub all_listed : (ds : List pure.Dom) (env : Env) → option_map domains_of (listed_domains ds env) ≡ meaning.domains_of (doms_of ds) env
all_listed [] env = refl
all_listed (d ∷ ds) env = go (domain_of d env) (listed_domains ds env) (meaning.domains_of (doms_of ds) env) (all_listed ds env)
  where
    go : (x : Option Domain) (o : Option (List Domain)) (m : Option Domains) → option_map domains_of o ≡ m
        → option_map domains_of (and_then x (λ y. option_map (λ xs. y ∷ xs) o)) ≡ and_then x (λ y. option_map (more_domains y) m)
    go None o m h = refl
    go (Some y) None m h = ap (option_map (more_domains y)) h
    go (Some y) (Some xs) m h = ap (option_map (more_domains y)) h

-- The domains that were put behind nothing are those of the expressions.
pub closeds_there : (ds : List Dom) (env : Env) (t : Bool) (old new : List Closed) → old ≡ [] → t ≡ true
    → Gathered t (map pure_closed old) (map pure_closed new) (listed_domains (map pure_dom ds) env)
    → Some (pure_closeds new) ≡ meaning.domains_of (pure_doms ds) env
closeds_there ds env t old new p q h =
    let k = rw (p, q) at h in
    sym (ap (option_map domains_of) (gathered_all (map pure_closed new) (listed_domains (map pure_dom ds) env) k)) ∙ all_listed (map pure_dom ds) env

-- Where they aren't all there, one of the expressions has none.
pub closeds_missing : (ds : List Dom) (env : Env) (t : Bool) (old new : List Closed) → t ≡ false
    → Gathered t (map pure_closed old) (map pure_closed new) (listed_domains (map pure_dom ds) env)
    → None ≡ meaning.domains_of (pure_doms ds) env
closeds_missing ds env t old new q h = let k = rw q at h in sym (ap (option_map domains_of) k) ∙ all_listed (map pure_dom ds) env

keys_added : (a : Text) (fs : Names pure.Dom) (x : Option Domain) (o : Option (Names Domain)) (m : Option Domains)
    → option_map record_domain o ≡ option_map (records (keys fs)) m
    → option_map record_domain (and_then x (λ y. option_map (λ gs. (a, y) ∷ gs) o)) ≡ option_map (records (a ∷ keys fs)) (and_then x (λ y. option_map (more_domains y) m))
keys_added a fs None o m h = refl
keys_added a fs (Some y) None None h = refl
keys_added a fs (Some y) None (Some ds) h = cc
keys_added a fs (Some y) (Some gs) None h = cc
keys_added a fs (Some y) (Some gs) (Some ds) h =
    let k : keys gs ≡ keys fs = cc in
    let d : domains_of (map (λ f. f.1) gs) ≡ ds = cc in
    rw (k, d) refl

-- The fields as a list are those of the record.
pub all_fields_listed : (fs : Names pure.Dom) (env : Env)
    → option_map record_domain (listed_fields fs env) ≡ domain_of (record_dom (keys fs) (doms_of (field_values fs))) env
all_fields_listed [] env = refl
all_fields_listed (f ∷ fs) env =
    keys_added f.0 fs (domain_of f.1 env) (listed_fields fs env) (meaning.domains_of (doms_of (field_values fs)) env) (all_fields_listed fs env)

pub fields_there : (fs : List FieldDom) (env : Env) (t : Bool) (old new : List FieldClosed) → old ≡ [] → t ≡ true
    → Gathered t (map pure_field_closed old) (map pure_field_closed new) (listed_fields (map pure_field_dom fs) env)
    → Some (record_domain (map pure_field_closed new)) ≡ domain_of (record_dom (keys (map pure_field_dom fs)) (doms_of (field_values (map pure_field_dom fs)))) env
fields_there fs env t old new p q h =
    let k = rw (p, q) at h in
    sym (ap (option_map record_domain) (gathered_all (map pure_field_closed new) (listed_fields (map pure_field_dom fs) env) k)) ∙ all_fields_listed (map pure_field_dom fs) env

pub fields_missing : (fs : List FieldDom) (env : Env) (t : Bool) (old new : List FieldClosed) → t ≡ false
    → Gathered t (map pure_field_closed old) (map pure_field_closed new) (listed_fields (map pure_field_dom fs) env)
    → None ≡ domain_of (record_dom (keys (map pure_field_dom fs)) (doms_of (field_values (map pure_field_dom fs)))) env
fields_missing fs env t old new q h =
    let k = rw q at h in sym (ap (option_map record_domain) k) ∙ all_fields_listed (map pure_field_dom fs) env

-- A domain of functions, from its three parts.
pub functions_there : (ms : List pure.Mark) (es : pure.Exs) (d c : pure.Dom) (env : Env) (own : Option (List Attribute)) (from to : Option Domain)
    → own ≡ meaning.attributes_of ms (meaning.meanings es env) → from ≡ domain_of d env → to ≡ domain_of c env
    → and_then own (λ ks. and_then from (λ x. option_map (functions ks x) to)) ≡ domain_of (function_dom ms es d c) env
functions_there ms es d c env own from to e f g = rw (e, f, g) refl
