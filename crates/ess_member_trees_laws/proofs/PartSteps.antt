-- A step at an open part of a tree is a step by the form of the tree.
use Rattle.std.proofs.Common.{refl, inl, inr}
use Rattle.ess_semantics.specs.Names.{Names}
use Rattle.ess_semantics.specs.Trees.{Ex, number_ex, truth_ex, name_ex, node_ex, matrix_ex, comp_ex, cell_ex, seen_ex}
use Rattle.ess_semantics.specs.Types.{Ty, type_of_dom, bind_types}
use Rattle.ess_semantics.specs.Typing.{source_ty}
use Rattle.ess_semantics.specs.Contexts.{In, hole, in_operand, in_item, in_index_domain, in_body, in_generators, in_cell_index, in_view_domain, in_view_index, Ins, in_first, in_later, InGens, in_generator_domain, behind_over, in_source, behind_from, in_condition, behind_condition, InDom, in_bound, in_component, in_field, in_index, in_element, in_set_number, in_set_member, in_mset_number, in_mset_member, in_function_number, in_argument, in_result, in_relation_number, in_relation_component, in_partition_number, in_partition_member, InDoms, in_first_domain, in_later_domain, fill, fill_exs, fill_gens, fill_dom, fill_doms}
use Rattle.ess_semantics.specs.NamesAt.{names_behind, names_at, names_at_exs, names_at_gens, names_at_dom, names_at_doms}
use Rattle.ess_member_trees_laws.specs.PartSteps.{Step, Steps, GensStep, DomStep, DomsStep}

module _ (R : Names Ty → Ex → Ex → Type 0) where
  -- At the root.
  at-root : (g : Names Ty) (a b : Ex) → R g a b → Step R g a b
  at-root g (number_ex n) b r = r
  at-root g (truth_ex v) b r = r
  at-root g (name_ex x) b r = r
  at-root g (node_ex v op es) b r = inl r
  at-root g (matrix_ex es d) b r = inl r
  at-root g (comp_ex e gs) b r = inl r
  at-root g (cell_ex v n es) b r = inl r
  at-root g (seen_ex s d ns es) b r = inl r

  mutual
    -- A step at the open part is a step of the tree.
    pub part-step : (c : In) (g : Names Ty) (a b : Ex) → R (names_at c g) a b → Step R g (fill c a) (fill c b)
    part-step hole g a b r = at-root g a b r
    part-step (in_operand v op c) g a b r = inr (fill_exs c b, refl, part-steps c g a b r)
    part-step (in_item c d) g a b r = inr (inl (fill_exs c b, refl, part-steps c g a b r))
    part-step (in_index_domain es c) g a b r = inr (inr (fill_dom c b, refl, part-dom c g a b r))
    part-step (in_body c gs) g a b r = inr (inl (fill c b, refl, part-step c (names_behind gs g) a b r))
    part-step (in_generators x c) g a b r = inr (inr (fill_gens c b, refl, part-gens c g a b r))
    part-step (in_cell_index v n c) g a b r = inr (fill_exs c b, refl, part-steps c g a b r)
    part-step (in_view_domain s c ns es) g a b r = inr (inl (fill_dom c b, refl, part-dom c g a b r))
    part-step (in_view_index s d ns c) g a b r = inr (inr (fill_exs c b, refl, part-steps c g a b r))

    part-steps : (c : Ins) (g : Names Ty) (a b : Ex) → R (names_at_exs c g) a b → Steps R g (fill_exs c a) (fill_exs c b)
    part-steps (in_first c es) g a b r = inl (fill c b, refl, part-step c g a b r)
    part-steps (in_later x c) g a b r = inr (fill_exs c b, refl, part-steps c g a b r)

    part-gens : (c : InGens) (g : Names Ty) (a b : Ex) → R (names_at_gens c g) a b → GensStep R g (fill_gens c a) (fill_gens c b)
    part-gens (in_generator_domain p c gs) g a b r = inl (fill_dom c b, refl, part-dom c g a b r)
    part-gens (behind_over p d c) g a b r = inr (fill_gens c b, refl, part-gens c (bind_types p (type_of_dom d) g) a b r)
    part-gens (in_source p c gs) g a b r = inl (fill c b, refl, part-step c g a b r)
    part-gens (behind_from p x c) g a b r = inr (fill_gens c b, refl, part-gens c (bind_types p (source_ty x g) g) a b r)
    part-gens (in_condition c gs) g a b r = inl (fill c b, refl, part-step c g a b r)
    part-gens (behind_condition x c) g a b r = inr (fill_gens c b, refl, part-gens c g a b r)

    part-dom : (c : InDom) (g : Names Ty) (a b : Ex) → R (names_at_dom c g) a b → DomStep R g (fill_dom c a) (fill_dom c b)
    part-dom (in_bound rs c) g a b r = (fill_exs c b, refl, part-steps c g a b r)
    part-dom (in_component c) g a b r = (fill_doms c b, refl, part-doms c g a b r)
    part-dom (in_field fs c) g a b r = (fill_doms c b, refl, part-doms c g a b r)
    part-dom (in_index c d) g a b r = inl (fill_doms c b, refl, part-doms c g a b r)
    part-dom (in_element is c) g a b r = inr (fill_dom c b, refl, part-dom c g a b r)
    part-dom (in_set_number ms c d) g a b r = inl (fill_exs c b, refl, part-steps c g a b r)
    part-dom (in_set_member ms es c) g a b r = inr (fill_dom c b, refl, part-dom c g a b r)
    part-dom (in_mset_number ms c d) g a b r = inl (fill_exs c b, refl, part-steps c g a b r)
    part-dom (in_mset_member ms es c) g a b r = inr (fill_dom c b, refl, part-dom c g a b r)
    part-dom (in_function_number ms c d e) g a b r = inl (fill_exs c b, refl, part-steps c g a b r)
    part-dom (in_argument ms es c e) g a b r = inr (inl (fill_dom c b, refl, part-dom c g a b r))
    part-dom (in_result ms es d c) g a b r = inr (inr (fill_dom c b, refl, part-dom c g a b r))
    part-dom (in_relation_number ms c ds) g a b r = inl (fill_exs c b, refl, part-steps c g a b r)
    part-dom (in_relation_component ms es c) g a b r = inr (fill_doms c b, refl, part-doms c g a b r)
    part-dom (in_partition_number ms c d) g a b r = inl (fill_exs c b, refl, part-steps c g a b r)
    part-dom (in_partition_member ms es c) g a b r = inr (fill_dom c b, refl, part-dom c g a b r)

    part-doms : (c : InDoms) (g : Names Ty) (a b : Ex) → R (names_at_doms c g) a b → DomsStep R g (fill_doms c a) (fill_doms c b)
    part-doms (in_first_domain c ds) g a b r = inl (fill_dom c b, refl, part-dom c g a b r)
    part-doms (in_later_domain d c) g a b r = inr (fill_doms c b, refl, part-doms c g a b r)
