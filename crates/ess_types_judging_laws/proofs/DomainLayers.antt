-- What is found of a domain, layer by layer.
use Rattle.std.proofs.Common.{◌≡◌, refl, sym, ap, ◌∙◌, true, ◌&&◌, List, []}
use Rattle.std.specs.List.{list_all}
use Rattle.ess_semantics.specs.Values.{Text}
use Rattle.ess_semantics.specs.Trees.{Ends, Mark, Exs, Dom, Doms, bool_dom, int_dom, name_dom, tuple_dom, record_dom, matrix_dom, set_dom, mset_dom, function_dom, relation_dom, partition_dom}
use Rattle.ess_semantics.specs.Kinds.{is_atom}
use Rattle.ess_semantics.specs.Scopes.{Scope, every_operand, every_dom, every_doms}
use Rattle.ess_semantics.specs.DomainJudgements.{numbers_of, is_enumerable, listed_domains, ranges_fit, ranges_of, marks_fit, index_domains, fields_distinct, dom_fits, dom_is_enumerable}
use Rattle.ess_semantics.specs.ExpressionJudgements.{doms_orders_fit, operands_fit}
use Rattle.ess_semantics.specs.Judgements.{domain_is_known}
use Rattle.ess_types_judging_laws.specs.Found.{Found, all_well, both}
use Rattle.ess_types_judging_laws.specs.Judged.{judged_all, judged_dom, judged_doms, fitting_types, finite_domains, enumerable_domains}
use Rattle.ess_types_judging_laws.specs.Combined.{operands_found, dom_layer, numbered_layer}
use Rattle.ess_types_judging_laws.proofs.Truths.{and_same, found-same}
use Rattle.ess_types_judging_laws.proofs.Fixed.{no_known_finds}
use Rattle.ess_types_judging_laws.proofs.Operands.{ints-judged, fixed-judged, operands-judged, operands-order, operands-unordered, doms-judged, doms-order, doms-unordered}
use Rattle.ess_types_judging_laws.proofs.Answered.{known_names_asking, new_names_asking, known-answers, new-answers, fits-answers, fixed-answers, finite-answers, enumerable-answers}

-- What is found of a domain, where names that depend on finds are known in the whole of it.
abbrev pub dom_asking : Dom → Scope → Found
dom_asking d s =
    record (judged_dom d s) { known = every_dom known_names_asking d s; new = every_dom new_names_asking d s; fixed = every_dom no_known_finds d s }

-- It is the same.
pub dom-asking : (d : Dom) (s : Scope) → judged_dom d s ≡ dom_asking d s
dom-asking d s =
    found-same (judged_dom d s) (dom_asking d s) (known-answers.doms d s) (new-answers.doms d s) refl (fixed-answers.doms d s) refl refl refl
    refl

-- The layer of a domain, as the definitions have it.
abbrev asked_layer : Dom → Scope → Found
asked_layer d s = record all_well { known = domain_is_known d s; fits = dom_fits d s; enumerable = dom_is_enumerable d s }

layer-judged : (d : Dom) (s : Scope) → asked_layer d s ≡ dom_layer d (judged_all (numbers_of d) s) s
layer-judged d s =
    ap (λ b. record all_well { known = domain_is_known d s; fits = b && ranges_fit (ranges_of d) && marks_fit d && list_all is_atom (index_domains d) && fields_distinct d; enumerable = dom_is_enumerable d s })
    (sym (ints-judged (numbers_of d) s))
    ∙ ap (λ b. record (dom_layer d (judged_all (numbers_of d) s) s) { enumerable = list_all is_enumerable (listed_domains d) && b })
    (sym (fixed-judged (numbers_of d) s))

-- A layer with its numbers, as the definitions ask it.
abbrev asked_numbered : Dom → Exs → Scope → Found
asked_numbered d es s =
    record {
      known = domain_is_known d s && every_operand known_names_asking [] es s;
      new = every_operand new_names_asking [] es s;
      fits = dom_fits d s && every_operand fitting_types [] es s;
      fixed = every_operand no_known_finds [] es s;
      in_order = operands_fit true [] es s;
      unordered = operands_fit true [] es s;
      finite = every_operand finite_domains [] es s;
      enumerable = dom_is_enumerable d s && every_operand enumerable_domains [] es s;
    }

numbers-judged : (d : Dom) (es : Exs) (s : Scope) → asked_numbered d es s ≡ both (asked_layer d s) (operands_found true [] (judged_all es s))
numbers-judged d es s =
    found-same (asked_numbered d es s) (both (asked_layer d s) (operands_found true [] (judged_all es s)))
    (and_same _ _ _ _ refl (sym (operands-judged (λ f. f.known) known_names_asking known-answers true [] es s)))
    (sym (operands-judged (λ f. f.new) new_names_asking new-answers true [] es s))
    (and_same _ _ _ _ refl (sym (operands-judged (λ f. f.fits) fitting_types fits-answers true [] es s)))
    (sym (operands-judged (λ f. f.fixed) no_known_finds fixed-answers true [] es s))
    (sym (operands-order true [] es s)) (sym (operands-unordered true [] es s))
    (sym (operands-judged (λ f. f.finite) finite_domains finite-answers true [] es s))
    (and_same _ _ _ _ refl (sym (operands-judged (λ f. f.enumerable) enumerable_domains enumerable-answers true [] es s)))

-- A layer with its numbers, from what is found of these.
numbered : (d : Dom) (s : Scope) → asked_numbered d (numbers_of d) s ≡ numbered_layer d (judged_all (numbers_of d) s) s
numbered d s =
    numbers-judged d (numbers_of d) s ∙ ap (λ l. both l (operands_found true [] (judged_all (numbers_of d) s))) (layer-judged d s)

-- Several domains, where names that depend on finds are known in the whole of them.
abbrev doms_asking : Doms → Scope → Found
doms_asking ds s =
    record {
      known = every_doms known_names_asking ds s;
      new = every_doms new_names_asking ds s;
      fits = every_doms fitting_types ds s;
      fixed = every_doms no_known_finds ds s;
      in_order = doms_orders_fit ds s;
      unordered = doms_orders_fit ds s;
      finite = every_doms finite_domains ds s;
      enumerable = every_doms enumerable_domains ds s;
    }

doms-asking : (ds : Doms) (s : Scope) → doms_asking ds s ≡ judged_doms ds s
doms-asking ds s =
    found-same (doms_asking ds s) (judged_doms ds s) (sym (doms-judged (λ f. f.known) known_names_asking known-answers ds s))
    (sym (doms-judged (λ f. f.new) new_names_asking new-answers ds s)) (sym (doms-judged (λ f. f.fits) fitting_types fits-answers ds s))
    (sym (doms-judged (λ f. f.fixed) no_known_finds fixed-answers ds s)) (sym (doms-order ds s)) (sym (doms-unordered ds s))
    (sym (doms-judged (λ f. f.finite) finite_domains finite-answers ds s))
    (sym (doms-judged (λ f. f.enumerable) enumerable_domains enumerable-answers ds s))

-- ---- each kind of domain

pub judged_bool_dom : (s : Scope) → judged_dom bool_dom s ≡ dom_layer bool_dom [] s
judged_bool_dom s = dom-asking bool_dom s ∙ layer-judged bool_dom s

pub judged_name_dom : (a : Text) (s : Scope) → judged_dom (name_dom a) s ≡ dom_layer (name_dom a) [] s
judged_name_dom a s = dom-asking (name_dom a) s ∙ layer-judged (name_dom a) s

pub judged_int_dom : (rs : List Ends) (es : Exs) (s : Scope) → judged_dom (int_dom rs es) s ≡ numbered_layer (int_dom rs es) (judged_all es s) s
judged_int_dom rs es s = dom-asking (int_dom rs es) s ∙ numbered (int_dom rs es) s

pub judged_tuple_dom : (ds : Doms) (s : Scope) → judged_dom (tuple_dom ds) s ≡ both (dom_layer (tuple_dom ds) [] s) (judged_doms ds s)
judged_tuple_dom ds s =
    dom-asking (tuple_dom ds) s ∙ ap (λ l. both l (doms_asking ds s)) (layer-judged (tuple_dom ds) s)
    ∙ ap (both (dom_layer (tuple_dom ds) [] s)) (doms-asking ds s)

pub judged_record_dom : (fs : List Text) (ds : Doms) (s : Scope) →
    judged_dom (record_dom fs ds) s ≡ both (dom_layer (record_dom fs ds) [] s) (judged_doms ds s)
judged_record_dom fs ds s =
    dom-asking (record_dom fs ds) s ∙ ap (λ l. both l (doms_asking ds s)) (layer-judged (record_dom fs ds) s)
    ∙ ap (both (dom_layer (record_dom fs ds) [] s)) (doms-asking ds s)

pub judged_matrix_dom : (is : Doms) (d : Dom) (s : Scope) →
    judged_dom (matrix_dom is d) s ≡ both (both (dom_layer (matrix_dom is d) [] s) (judged_doms is s)) (judged_dom d s)
judged_matrix_dom is d s =
    dom-asking (matrix_dom is d) s ∙ ap (λ l. both (both l (doms_asking is s)) (dom_asking d s)) (layer-judged (matrix_dom is d) s)
    ∙ ap (λ f. both (both (dom_layer (matrix_dom is d) [] s) f) (dom_asking d s)) (doms-asking is s)
    ∙ ap (both (both (dom_layer (matrix_dom is d) [] s) (judged_doms is s))) (sym (dom-asking d s))

pub judged_set_dom : (ms : List Mark) (es : Exs) (d : Dom) (s : Scope) →
    judged_dom (set_dom ms es d) s ≡ both (numbered_layer (set_dom ms es d) (judged_all es s) s) (judged_dom d s)
judged_set_dom ms es d s =
    dom-asking (set_dom ms es d) s ∙ ap (λ l. both l (dom_asking d s)) (numbered (set_dom ms es d) s)
    ∙ ap (both (numbered_layer (set_dom ms es d) (judged_all es s) s)) (sym (dom-asking d s))

pub judged_mset_dom : (ms : List Mark) (es : Exs) (d : Dom) (s : Scope) →
    judged_dom (mset_dom ms es d) s ≡ both (numbered_layer (mset_dom ms es d) (judged_all es s) s) (judged_dom d s)
judged_mset_dom ms es d s =
    dom-asking (mset_dom ms es d) s ∙ ap (λ l. both l (dom_asking d s)) (numbered (mset_dom ms es d) s)
    ∙ ap (both (numbered_layer (mset_dom ms es d) (judged_all es s) s)) (sym (dom-asking d s))

pub judged_function_dom : (ms : List Mark) (es : Exs) (d c : Dom) (s : Scope) →
    judged_dom (function_dom ms es d c) s
    ≡ both (both (numbered_layer (function_dom ms es d c) (judged_all es s) s) (judged_dom d s)) (judged_dom c s)
judged_function_dom ms es d c s =
    dom-asking (function_dom ms es d c) s
    ∙ ap (λ l. both (both l (dom_asking d s)) (dom_asking c s)) (numbered (function_dom ms es d c) s)
    ∙ ap (λ f. both (both (numbered_layer (function_dom ms es d c) (judged_all es s) s) f) (dom_asking c s)) (sym (dom-asking d s))
    ∙ ap (both (both (numbered_layer (function_dom ms es d c) (judged_all es s) s) (judged_dom d s))) (sym (dom-asking c s))

pub judged_relation_dom : (ms : List Mark) (es : Exs) (ds : Doms) (s : Scope) →
    judged_dom (relation_dom ms es ds) s ≡ both (numbered_layer (relation_dom ms es ds) (judged_all es s) s) (judged_doms ds s)
judged_relation_dom ms es ds s =
    dom-asking (relation_dom ms es ds) s ∙ ap (λ l. both l (doms_asking ds s)) (numbered (relation_dom ms es ds) s)
    ∙ ap (both (numbered_layer (relation_dom ms es ds) (judged_all es s) s)) (doms-asking ds s)

pub judged_partition_dom : (ms : List Mark) (es : Exs) (d : Dom) (s : Scope) →
    judged_dom (partition_dom ms es d) s ≡ both (numbered_layer (partition_dom ms es d) (judged_all es s) s) (judged_dom d s)
judged_partition_dom ms es d s =
    dom-asking (partition_dom ms es d) s ∙ ap (λ l. both l (dom_asking d s)) (numbered (partition_dom ms es d) s)
    ∙ ap (both (numbered_layer (partition_dom ms es d) (judged_all es s) s)) (sym (dom-asking d s))
