-- Views of functions from a tuple of atoms offer their pairs, and are looked up.
use Rattle.std.proofs.Common.{◌≡◌, refl, sym, ap, ◌∙◌, subst, Bool, true, false, if◌then◌else◌, length, List, Some, None}
use Rattle.std.specs.Prelude.{is_some}
use Rattle.ess_semantics.specs.declared.words.ReprKind.{ReprKind}
use Rattle.ess_semantics.specs.declared.words.Fun.{Fun}
use Rattle.ess_semantics.specs.Values.{Text}
use Rattle.ess_semantics.specs.Trees.{Op, word, application, repr, no_reprs, more_reprs, Ex, node_ex, seen_ex, no_exs, more_exs, tuple_dom, function_dom}
use Rattle.ess_semantics.specs.Domains.{tuples, functions, members}
use Rattle.ess_semantics.specs.FunctionLayers.{total_layer}
use Rattle.ess_semantics.specs.Representations.{layer}
use Rattle.ess_semantics.specs.Meaning.{Env, members_in}
use Rattle.ess_semantics.specs.Meets.{Meets}
use Rattle.ess_rules_laws.specs.ComponentRules.{has_text}
use Rattle.ess_rules_laws.specs.Listings.{Alternative}
use Rattle.ess_rules_laws.specs.ListedSources.{OffersInOrder}
use Rattle.ess_rules_laws.specs.SetListings.{InOrderWhereMet}
use Rattle.ess_rules_laws.specs.FunctionLookups.{unmarked}
use Rattle.ess_rules_laws.specs.FunctionViews.{by_names, names_fit, total_pairs, total_result, FirstThere, AppliedThere, NamesUnused}
use Rattle.ess_rules_laws.specs.FunctionNDViews.{function_nd_listing, function_nd_result, function_nd_lookup}
use Rattle.ess_rules_laws.proofs.Agreement.{outside}
use Rattle.ess_rules_laws.proofs.FunctionLookups.{AnswerLooks}
use Rattle.ess_rules_laws.proofs.PartLookups.{looks-so}
use Rattle.ess_rules_laws.proofs.FunctionViewParts.{opened}
use Rattle.ess_rules_laws.proofs.FunctionResults.{RunsOver}
use Rattle.ess_rules_laws.proofs.FunctionViews.{total-offers}
use Rattle.ess_rules_laws.proofs.FunctionViewLookups.{Applies, application-applies, image-applies}
use Rattle.ess_rules_laws.proofs.FunctionViewResults.{total-looked}
use Rattle.ess_rules_laws.proofs.TupleRuns.{tuple_index, axes_over, tuple-parts, runs-over_tuple}

in-order-so : (b : Bool) (a : Alternative) (e : Ex) (env : Env) → (b ≡ true → OffersInOrder e a env) →
    InOrderWhereMet (if b then Some a else None) e env
in-order-so true a e env h = h refl
in-order-so false a e env h = tt

-- Their pairs.
pub function_nd-listed : (xs : List Text) (e : Ex) (env : Env) → NamesUnused xs e → Meets e env → FirstThere e env →
    InOrderWhereMet (function_nd_listing xs e) e env
function_nd-listed xs (seen_ex (repr ReprKind.FunctionND (more_reprs r no_reprs)) (function_dom ms es (tuple_dom ds) c) ns js) env new m h =
    in-order-so (names_fit xs ds) (total_pairs (by_names xs) r (tuple_dom ds) c ns js) _ env (λ q.
    let o = opened (repr ReprKind.FunctionND (more_reprs r no_reprs)) ms es (tuple_dom ds) c ns js env m in
    let p = tuple-parts ds env o.d o.first_is in
    let t : is_some (members (tuples p.0)) ≡ true = subst (λ z. is_some (members_in z) ≡ true) (o.first_is ∙ ap Some (sym p.2)) h in
    total-offers (outside (has_text xs)) (by_names xs) tuple_index ReprKind.FunctionND r ms es (tuple_dom ds) c js env new.0.2 new.1
    (axes_over p.0) ns o
    (subst (λ z. layer ReprKind.FunctionND (functions o.ks z o.c) ≡ Some (total_layer o.ks (axes_over p.0) z o.c)) p.2 refl) refl
    (subst (λ z. RunsOver (outside (has_text xs)) (by_names xs) tuple_index (length (axes_over p.0)) env z (axes_over p.0)) p.2
    (runs-over_tuple xs env ds p.0 q p.1 t)) m)
function_nd-listed xs _ env new m h = tt

-- Their results.
looked : (op : Op) → Applies op → (xs : List Text) (f a : Ex) (env : Env) → NamesUnused xs f → NamesUnused xs a → Meets f env →
    Meets a env → FirstThere f env →
    AnswerLooks (function_nd_result xs f a) (node_ex false op (more_exs f (more_exs a no_exs))) env
looked op k xs (seen_ex (repr ReprKind.FunctionND (more_reprs r no_reprs)) (function_dom ms es (tuple_dom ds) c) ns js) a env new new-a m
    ma h =
    looks-so (names_fit xs ds) (total_result (by_names xs) r (tuple_dom ds) c ns js a) _ env (λ q.
    let o = opened (repr ReprKind.FunctionND (more_reprs r no_reprs)) ms es (tuple_dom ds) c ns js env m in
    let p = tuple-parts ds env o.d o.first_is in
    let t : is_some (members (tuples p.0)) ≡ true = subst (λ z. is_some (members_in z) ≡ true) (o.first_is ∙ ap Some (sym p.2)) h in
    total-looked (outside (has_text xs)) (by_names xs) tuple_index ReprKind.FunctionND r ms es (tuple_dom ds) c js env new.0.2 new.1
    (axes_over p.0) a new-a op k ma ns o
    (subst (λ z. layer ReprKind.FunctionND (functions o.ks z o.c) ≡ Some (total_layer o.ks (axes_over p.0) z o.c)) p.2 refl) refl
    (subst (λ z. RunsOver (outside (has_text xs)) (by_names xs) tuple_index (length (axes_over p.0)) env z (axes_over p.0)) p.2
    (runs-over_tuple xs env ds p.0 q p.1 t)) m)
looked op k xs _ a env new new-a m ma h = tt

pub function_nd-looked : (xs : List Text) (e : Ex) (env : Env) → NamesUnused xs e → Meets e env → AppliedThere e env →
    AnswerLooks (function_nd_lookup xs e) (unmarked e) env
function_nd-looked xs (node_ex b application (more_exs f (more_exs a no_exs))) env new m h =
    looked application application-applies xs f a env new.0 new.1.0 m.0 m.1.0 h
function_nd-looked xs (node_ex b (word Fun.Image) (more_exs f (more_exs a no_exs))) env new m h =
    looked (word Fun.Image) image-applies xs f a env new.0 new.1.0 m.0 m.1.0 h
function_nd-looked xs _ env new m h = tt
