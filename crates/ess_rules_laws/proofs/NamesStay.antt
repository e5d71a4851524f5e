-- A part that brings no new free names brings none to the whole.
use Rattle.std.proofs.Common.{◌≡◌, refl, subst, Bool}
use Rattle.ess_semantics.specs.Values.{Text}
use Rattle.ess_semantics.specs.Names.{Names}
use Rattle.ess_semantics.specs.Trees.{Ex}
use Rattle.ess_semantics.specs.Types.{Ty}
use Rattle.ess_semantics.specs.Typed.{Typed}
use Rattle.ess_semantics.specs.Scoped.{with_names}
use Rattle.ess_semantics.specs.FreeNames.{with_bound_names, FreeNamesAre, FreeNamesAreExs, FreeNamesAreGens, FreeNamesAreDom, FreeNamesAreDoms}
use Rattle.ess_semantics.specs.Contexts.{In, Ins, InGens, InDom, InDoms, hole, in_operand, in_item, in_index_domain, in_body, in_generators, in_cell_index, in_view_domain, in_view_index, in_first, in_later, in_generator_domain, behind_over, in_source, behind_from, in_condition, behind_condition, in_bound, in_component, in_field, in_index, in_element, in_set_number, in_set_member, in_mset_number, in_mset_member, in_function_number, in_argument, in_result, in_relation_number, in_relation_component, in_partition_number, in_partition_member, in_first_domain, in_later_domain, fill, fill_exs, fill_gens, fill_dom, fill_doms}
use Rattle.ess_rules_laws.specs.Rewriting.{Rewritten, as_it_was, rewritten_at}
use Rattle.ess_rules_laws.specs.NamesStay.{AddsNoNames, KeptWithin, NamesStay}
use Rattle.ess_rules_laws.proofs.KeptUnder.{rewritten-kept}

-- Generators bind the same names, whatever stands in their open part.
bound-same : (c : InGens) (a b : Ex) (u : Text → Bool) → with_bound_names u (fill_gens c a) ≡ with_bound_names u (fill_gens c b)
bound-same (in_generator_domain p c gs) a b u = refl
bound-same (behind_over p d c) a b u = bound-same c a b (with_names u p)
bound-same (in_source p c gs) a b u = refl
bound-same (behind_from p x c) a b u = bound-same c a b (with_names u p)
bound-same (in_condition c gs) a b u = refl
bound-same (behind_condition x c) a b u = bound-same c a b u

module _ (a b : Ex) (k : AddsNoNames a b) where
  mutual
    in-part : (c : In) (u : Text → Bool) → FreeNamesAre u (fill c a) → FreeNamesAre u (fill c b)
    in-part hole u h = k u h
    in-part (in_operand m op c) u h = in-exs c u h
    in-part (in_item c d) u h = (in-exs c u h.0, h.1)
    in-part (in_index_domain es c) u h = (h.0, in-dom c u h.1)
    in-part (in_body c gs) u h = (h.0, in-part c (with_bound_names u gs) h.1)
    in-part (in_generators x c) u h = (in-gens c u h.0, subst (λ v. FreeNamesAre v x) (bound-same c a b u) h.1)
    in-part (in_cell_index m n c) u h = in-exs c u h
    in-part (in_view_domain r c ns es) u h = (in-dom c u h.0, h.1)
    in-part (in_view_index r d ns c) u h = (h.0, in-exs c u h.1)

    in-exs : (c : Ins) (u : Text → Bool) → FreeNamesAreExs u (fill_exs c a) → FreeNamesAreExs u (fill_exs c b)
    in-exs (in_first c es) u h = (in-part c u h.0, h.1)
    in-exs (in_later x c) u h = (h.0, in-exs c u h.1)

    in-gens : (c : InGens) (u : Text → Bool) → FreeNamesAreGens u (fill_gens c a) → FreeNamesAreGens u (fill_gens c b)
    in-gens (in_generator_domain p c gs) u h = (in-dom c u h.0, h.1)
    in-gens (behind_over p d c) u h = (h.0, in-gens c (with_names u p) h.1)
    in-gens (in_source p c gs) u h = (in-part c u h.0, h.1)
    in-gens (behind_from p x c) u h = (h.0, in-gens c (with_names u p) h.1)
    in-gens (in_condition c gs) u h = (in-part c u h.0, h.1)
    in-gens (behind_condition x c) u h = (h.0, in-gens c u h.1)

    in-dom : (c : InDom) (u : Text → Bool) → FreeNamesAreDom u (fill_dom c a) → FreeNamesAreDom u (fill_dom c b)
    in-dom (in_bound rs c) u h = in-exs c u h
    in-dom (in_component c) u h = in-doms c u h
    in-dom (in_field fs c) u h = in-doms c u h
    in-dom (in_index c d) u h = (in-doms c u h.0, h.1)
    in-dom (in_element is c) u h = (h.0, in-dom c u h.1)
    in-dom (in_set_number ms c d) u h = (in-exs c u h.0, h.1)
    in-dom (in_set_member ms es c) u h = (h.0, in-dom c u h.1)
    in-dom (in_mset_number ms c d) u h = (in-exs c u h.0, h.1)
    in-dom (in_mset_member ms es c) u h = (h.0, in-dom c u h.1)
    in-dom (in_function_number ms c d r) u h = (in-exs c u h.0, h.1, h.2)
    in-dom (in_argument ms es c r) u h = (h.0, in-dom c u h.1, h.2)
    in-dom (in_result ms es d c) u h = (h.0, h.1, in-dom c u h.2)
    in-dom (in_relation_number ms c ds) u h = (in-exs c u h.0, h.1)
    in-dom (in_relation_component ms es c) u h = (h.0, in-doms c u h.1)
    in-dom (in_partition_number ms c d) u h = (in-exs c u h.0, h.1)
    in-dom (in_partition_member ms es c) u h = (h.0, in-dom c u h.1)

    in-doms : (c : InDoms) (u : Text → Bool) → FreeNamesAreDoms u (fill_doms c a) → FreeNamesAreDoms u (fill_doms c b)
    in-doms (in_first_domain c ds) u h = (in-dom c u h.0, h.1)
    in-doms (in_later_domain d c) u h = (h.0, in-doms c u h.1)

-- Any number of rules, each at some part.
rewritten-names : (g : Names Ty) (old new : Ex) → Rewritten Typed KeptWithin g old new → AddsNoNames old new
rewritten-names g e d as_it_was u h = h
rewritten-names g old e (rewritten_at {a = a} {b = b} c s r t) u h = rewritten-names g (fill c b) e t u (in-part a b r.names c u h)

-- Free names stay, at a part and by any rules.
pub names-stay : NamesStay
names-stay = record {
  at_a_part = λ c a b k u h. in-part a b k c u h;
  by_any_rules = λ g old new t. record {
    kept = rewritten-kept Typed KeptWithin (λ g a b k. k.kept) g old new t;
    names = rewritten-names g old new t;
  };
}
