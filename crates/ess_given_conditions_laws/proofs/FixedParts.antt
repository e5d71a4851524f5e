-- Each part of a fixed tree is fixed.
use Rattle.std.proofs.Common.{◌≡◌, Bool, true, ◌&&◌}
use Rattle.std.specs.List.{list_all}
use Rattle.ess_semantics.specs.Values.{Text}
use Rattle.ess_semantics.specs.Trees.{Ex}
use Rattle.ess_semantics.specs.Contexts.{In, Ins, InGens, InDom, InDoms, hole, in_operand, in_item, in_index_domain, in_body, in_generators, in_cell_index, in_view_domain, in_view_index, in_first, in_later, in_generator_domain, behind_over, in_source, behind_from, in_condition, behind_condition, in_bound, in_component, in_field, in_index, in_element, in_set_number, in_set_member, in_mset_number, in_mset_member, in_function_number, in_argument, in_result, in_relation_number, in_relation_component, in_partition_number, in_partition_member, in_first_domain, in_later_domain, fill, fill_exs, fill_gens, fill_dom, fill_doms}
use Rattle.ess_semantics.proofs.Tests.{and-left, and-right}
use Rattle.ess_given_laws.specs.Given.{all_bound, is_fixed, are_fixed, are_fixed_gens, is_fixed_dom, are_fixed_doms}

module _ (u : Text → Bool) (a : Ex) where
  mutual
    -- The part of a fixed tree is fixed.
    pub of-part : (c : In) → is_fixed u (fill c a) ≡ true → is_fixed u a ≡ true
    of-part hole h = h
    of-part (in_operand t op c) h = of-exs c h
    of-part (in_item c d) h = of-exs c (and-left (are_fixed u (fill_exs c a)) (is_fixed_dom u d) h)
    of-part (in_index_domain es c) h = of-dom c (and-right (are_fixed u es) (is_fixed_dom u (fill_dom c a)) h)
    of-part (in_body c gs) h = of-part c (and-left (is_fixed u (fill c a)) (are_fixed_gens u gs) h)
    of-part (in_generators x c) h = of-gens c (and-right (is_fixed u x) (are_fixed_gens u (fill_gens c a)) h)
    of-part (in_cell_index t n c) h = of-exs c (and-right (u n) (are_fixed u (fill_exs c a)) h)
    of-part (in_view_domain r c ns es) h = of-dom c (and-left (is_fixed_dom u (fill_dom c a)) (are_fixed u es)
        (and-right (list_all u ns) (is_fixed_dom u (fill_dom c a) && are_fixed u es) h))
    of-part (in_view_index r d ns c) h = of-exs c (and-right (is_fixed_dom u d) (are_fixed u (fill_exs c a))
        (and-right (list_all u ns) (is_fixed_dom u d && are_fixed u (fill_exs c a)) h))

    of-exs : (c : Ins) → are_fixed u (fill_exs c a) ≡ true → is_fixed u a ≡ true
    of-exs (in_first c es) h = of-part c (and-left (is_fixed u (fill c a)) (are_fixed u es) h)
    of-exs (in_later x c) h = of-exs c (and-right (is_fixed u x) (are_fixed u (fill_exs c a)) h)

    of-gens : (c : InGens) → are_fixed_gens u (fill_gens c a) ≡ true → is_fixed u a ≡ true
    of-gens (in_generator_domain p c gs) h = of-dom c (and-left (is_fixed_dom u (fill_dom c a)) (are_fixed_gens u gs)
        (and-right (all_bound u p) (is_fixed_dom u (fill_dom c a) && are_fixed_gens u gs) h))
    of-gens (behind_over p d c) h = of-gens c (and-right (is_fixed_dom u d) (are_fixed_gens u (fill_gens c a))
        (and-right (all_bound u p) (is_fixed_dom u d && are_fixed_gens u (fill_gens c a)) h))
    of-gens (in_source p c gs) h = of-part c (and-left (is_fixed u (fill c a)) (are_fixed_gens u gs)
        (and-right (all_bound u p) (is_fixed u (fill c a) && are_fixed_gens u gs) h))
    of-gens (behind_from p x c) h = of-gens c (and-right (is_fixed u x) (are_fixed_gens u (fill_gens c a))
        (and-right (all_bound u p) (is_fixed u x && are_fixed_gens u (fill_gens c a)) h))
    of-gens (in_condition c gs) h = of-part c (and-left (is_fixed u (fill c a)) (are_fixed_gens u gs) h)
    of-gens (behind_condition x c) h = of-gens c (and-right (is_fixed u x) (are_fixed_gens u (fill_gens c a)) h)

    of-dom : (c : InDom) → is_fixed_dom u (fill_dom c a) ≡ true → is_fixed u a ≡ true
    of-dom (in_bound rs c) h = of-exs c h
    of-dom (in_component c) h = of-doms c h
    of-dom (in_field fs c) h = of-doms c h
    of-dom (in_index c d) h = of-doms c (and-left (are_fixed_doms u (fill_doms c a)) (is_fixed_dom u d) h)
    of-dom (in_element is c) h = of-dom c (and-right (are_fixed_doms u is) (is_fixed_dom u (fill_dom c a)) h)
    of-dom (in_set_number ms c d) h = of-exs c (and-left (are_fixed u (fill_exs c a)) (is_fixed_dom u d) h)
    of-dom (in_set_member ms es c) h = of-dom c (and-right (are_fixed u es) (is_fixed_dom u (fill_dom c a)) h)
    of-dom (in_mset_number ms c d) h = of-exs c (and-left (are_fixed u (fill_exs c a)) (is_fixed_dom u d) h)
    of-dom (in_mset_member ms es c) h = of-dom c (and-right (are_fixed u es) (is_fixed_dom u (fill_dom c a)) h)
    of-dom (in_function_number ms c d r) h =
        of-exs c (and-left (are_fixed u (fill_exs c a)) (is_fixed_dom u d && is_fixed_dom u r) h)
    of-dom (in_argument ms es c r) h = of-dom c (and-left (is_fixed_dom u (fill_dom c a)) (is_fixed_dom u r)
        (and-right (are_fixed u es) (is_fixed_dom u (fill_dom c a) && is_fixed_dom u r) h))
    of-dom (in_result ms es d c) h = of-dom c (and-right (is_fixed_dom u d) (is_fixed_dom u (fill_dom c a))
        (and-right (are_fixed u es) (is_fixed_dom u d && is_fixed_dom u (fill_dom c a)) h))
    of-dom (in_relation_number ms c ds) h = of-exs c (and-left (are_fixed u (fill_exs c a)) (are_fixed_doms u ds) h)
    of-dom (in_relation_component ms es c) h = of-doms c (and-right (are_fixed u es) (are_fixed_doms u (fill_doms c a)) h)
    of-dom (in_partition_number ms c d) h = of-exs c (and-left (are_fixed u (fill_exs c a)) (is_fixed_dom u d) h)
    of-dom (in_partition_member ms es c) h = of-dom c (and-right (are_fixed u es) (is_fixed_dom u (fill_dom c a)) h)

    of-doms : (c : InDoms) → are_fixed_doms u (fill_doms c a) ≡ true → is_fixed u a ≡ true
    of-doms (in_first_domain c ds) h = of-dom c (and-left (is_fixed_dom u (fill_dom c a)) (are_fixed_doms u ds) h)
    of-doms (in_later_domain d c) h = of-doms c (and-right (is_fixed_dom u d) (are_fixed_doms u (fill_doms c a)) h)
