-- A domain is judged by its own layer and by the domains in it.
use Rattle.std.proofs.Common.{◌≡◌, sym, ap, ◌∙◌, []}
use Rattle.ess_semantics.specs.Trees.{Exs, Dom, bool_dom, int_dom, name_dom, tuple_dom, record_dom, matrix_dom, set_dom, mset_dom, function_dom, relation_dom, partition_dom}
use Rattle.ess_semantics.specs.Scopes.{Scope}
use Rattle.ess_types_judging_laws.specs.Found.{Found, all_well, both}
use Rattle.ess_types_judging_laws.specs.Judged.{judged_all, judged_dom, judged_doms}
use Rattle.ess_types_judging_laws.specs.Combined.{dom_layer, numbered_layer}
use Rattle.ess_types_judging_laws.specs.Accumulated.{Numbers, numbers, no_number, layer_with}
use Rattle.ess_types_judging_laws.proofs.Truths.{both_assoc, both_well}
use Rattle.ess_types_judging_laws.proofs.DomainLayers.{judged_bool_dom, judged_name_dom, judged_int_dom, judged_tuple_dom, judged_record_dom, judged_matrix_dom, judged_set_dom, judged_mset_dom, judged_function_dom, judged_relation_dom, judged_partition_dom}
use Rattle.ess_types_judging_laws.proofs.Accumulated.{numbered_by}
use Rattle.ess_types_judging.specs.declared.scope.Scope as code
use Rattle.ess_types_judging.specs.Forms.{numbers_of, parts_found}
use Rattle.ess_types_judging.specs.ScopeViews.{pure_scope}

-- A domain is judged by its layer with its numbers, and by the domains in it.
abbrev layered : Dom → Scope → Found
layered x s = both (layer_with x (numbers (judged_all (numbers_of x) s)) s) (parts_found x s)

plain-layer : (x : Dom) (s : Scope) → dom_layer x [] s ≡ layer_with x no_number s
plain-layer x s = sym (both_well (dom_layer x [] s))

behind-plain : (x : Dom) (s : Scope) (f g : Found) → f ≡ both (dom_layer x [] s) g → f ≡ both (layer_with x no_number s) g
behind-plain x s f g p = p ∙ ap (λ l. both l g) (plain-layer x s)

behind-numbered : (x : Dom) (es : Exs) (s : Scope) (f g : Found) → f ≡ both (numbered_layer x (judged_all es s) s) g →
    f ≡ both (layer_with x (numbers (judged_all es s)) s) g
behind-numbered x es s f g p = p ∙ ap (λ l. both l g) (numbered_by x (judged_all es s) s)

pub layer-and-parts : (x : Dom) (s : Scope) → judged_dom x s ≡ layered x s
layer-and-parts bool_dom s = behind-plain bool_dom s _ all_well (judged_bool_dom s ∙ sym (both_well (dom_layer bool_dom [] s)))
layer-and-parts (name_dom a) s = behind-plain (name_dom a) s _ all_well (judged_name_dom a s
    ∙ sym (both_well (dom_layer (name_dom a) [] s)))
layer-and-parts (int_dom rs es) s =
    behind-numbered (int_dom rs es) es s _ all_well
    (judged_int_dom rs es s ∙ sym (both_well (numbered_layer (int_dom rs es) (judged_all es s) s)))
layer-and-parts (tuple_dom ds) s = behind-plain (tuple_dom ds) s _ (judged_doms ds s) (judged_tuple_dom ds s)
layer-and-parts (record_dom fs ds) s = behind-plain (record_dom fs ds) s _ (judged_doms ds s) (judged_record_dom fs ds s)
layer-and-parts (matrix_dom is d) s =
    behind-plain (matrix_dom is d) s _ (both (judged_doms is s) (judged_dom d s))
    (judged_matrix_dom is d s ∙ both_assoc (dom_layer (matrix_dom is d) [] s) (judged_doms is s) (judged_dom d s))
layer-and-parts (set_dom ms es d) s = behind-numbered (set_dom ms es d) es s _ (judged_dom d s) (judged_set_dom ms es d s)
layer-and-parts (mset_dom ms es d) s = behind-numbered (mset_dom ms es d) es s _ (judged_dom d s) (judged_mset_dom ms es d s)
layer-and-parts (function_dom ms es d c) s =
    behind-numbered (function_dom ms es d c) es s _ (both (judged_dom d s) (judged_dom c s))
    (judged_function_dom ms es d c s ∙ both_assoc (numbered_layer (function_dom ms es d c) (judged_all es s) s) (judged_dom d s)
    (judged_dom c s))
layer-and-parts (relation_dom ms es ds) s = behind-numbered (relation_dom ms es ds) es s _ (judged_doms ds s)
    (judged_relation_dom ms es ds s)
layer-and-parts (partition_dom ms es d) s = behind-numbered (partition_dom ms es d) es s _ (judged_dom d s) (judged_partition_dom ms es d s)

-- A domain in a scope that is as it was, where n is found of its numbers, l of its layer and p of the domains in it.
pub dom_by : (x : Dom) (s t : code.Scope) (n : Numbers) (l p : Found) → t ≡ s → n ≡ numbers (judged_all (numbers_of x) (pure_scope s)) →
    l ≡ layer_with x n (pure_scope t) → p ≡ parts_found x (pure_scope t) → both l p ≡ judged_dom x (pure_scope s)
dom_by x s t n l p e f g h =
    ap (λ y. both y p) (g ∙ ap (λ m. layer_with x m (pure_scope t)) f)
    ∙ ap (both (layer_with x (numbers (judged_all (numbers_of x) (pure_scope s))) (pure_scope t))) h
    ∙ ap (λ z. both (layer_with x (numbers (judged_all (numbers_of x) (pure_scope s))) (pure_scope z)) (parts_found x (pure_scope z))) e
    ∙ sym (layer-and-parts x (pure_scope s))
