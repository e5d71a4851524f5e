-- A part that keeps its names keeps those of the whole, and a name that is new to the whole is new at each part.
use Rattle.std.proofs.Common.{Bool, true, not}
use Rattle.std.specs.Prelude.{IsTrue}
use Rattle.ess_semantics.specs.Values.{Text}
use Rattle.ess_semantics.specs.Order.{same_text}
use Rattle.ess_semantics.specs.Trees.{Ex, Gens, no_gens, over, from, cond}
use Rattle.ess_semantics.specs.Substitution.{NamesAre, NamesAreExs, NamesAreGens, NamesAreDom, NamesAreDoms}
use Rattle.ess_semantics.specs.Contexts.{In, Ins, InGens, InDom, InDoms, hole, in_operand, in_item, in_index_domain, in_body, in_generators, in_cell_index, in_view_domain, in_view_index, in_first, in_later, in_generator_domain, behind_over, in_source, behind_from, in_condition, behind_condition, in_bound, in_component, in_field, in_index, in_element, in_set_number, in_set_member, in_mset_number, in_mset_member, in_function_number, in_argument, in_result, in_relation_number, in_relation_component, in_partition_number, in_partition_member, in_first_domain, in_later_domain, fill, fill_exs, fill_gens, fill_dom, fill_doms}
use Rattle.ess_refine_laws.specs.ScopesStay.{Scope, scope_behind, scope_at, scope_at_exs, scope_at_gens, scope_at_dom, scope_at_doms}
use Rattle.ess_refine_laws.specs.ScopesOfRules.{IsNew}
use Rattle.ess_seen_names_laws.specs.Laws.{Within}
use Rattle.ess_seen_names_laws.proofs.NewNames.{new-behind, within-domain, within-source}

-- ---- a part that is replaced

module _ (u v : Text → Bool) where
  module _ (a b : Ex) (k : NamesAre u v a → NamesAre u v b) where
    mutual
      pub part-are : (c : In) → NamesAre u v (fill c a) → NamesAre u v (fill c b)
      part-are hole h = k h
      part-are (in_operand t op c) h = exs-are c h
      part-are (in_item c d) h = (exs-are c h.0, h.1)
      part-are (in_index_domain es c) h = (h.0, dom-are c h.1)
      part-are (in_body c gs) h = (part-are c h.0, h.1)
      part-are (in_generators x c) h = (h.0, gens-are c h.1)
      part-are (in_cell_index t n c) h = exs-are c h
      part-are (in_view_domain r c ns es) h = (dom-are c h.0, h.1)
      part-are (in_view_index r d ns c) h = (h.0, exs-are c h.1)

      exs-are : (c : Ins) → NamesAreExs u v (fill_exs c a) → NamesAreExs u v (fill_exs c b)
      exs-are (in_first c es) h = (part-are c h.0, h.1)
      exs-are (in_later x c) h = (h.0, exs-are c h.1)

      gens-are : (c : InGens) → NamesAreGens u v (fill_gens c a) → NamesAreGens u v (fill_gens c b)
      gens-are (in_generator_domain p c gs) h = (h.0, dom-are c h.1, h.2)
      gens-are (behind_over p d c) h = (h.0, h.1, gens-are c h.2)
      gens-are (in_source p c gs) h = (h.0, part-are c h.1, h.2)
      gens-are (behind_from p x c) h = (h.0, h.1, gens-are c h.2)
      gens-are (in_condition c gs) h = (part-are c h.0, h.1)
      gens-are (behind_condition x c) h = (h.0, gens-are c h.1)

      dom-are : (c : InDom) → NamesAreDom u v (fill_dom c a) → NamesAreDom u v (fill_dom c b)
      dom-are (in_bound rs c) h = exs-are c h
      dom-are (in_component c) h = doms-are c h
      dom-are (in_field fs c) h = doms-are c h
      dom-are (in_index c d) h = (doms-are c h.0, h.1)
      dom-are (in_element is c) h = (h.0, dom-are c h.1)
      dom-are (in_set_number ms c d) h = (exs-are c h.0, h.1)
      dom-are (in_set_member ms es c) h = (h.0, dom-are c h.1)
      dom-are (in_mset_number ms c d) h = (exs-are c h.0, h.1)
      dom-are (in_mset_member ms es c) h = (h.0, dom-are c h.1)
      dom-are (in_function_number ms c d r) h = (exs-are c h.0, h.1, h.2)
      dom-are (in_argument ms es c r) h = (h.0, dom-are c h.1, h.2)
      dom-are (in_result ms es d c) h = (h.0, h.1, dom-are c h.2)
      dom-are (in_relation_number ms c ds) h = (exs-are c h.0, h.1)
      dom-are (in_relation_component ms es c) h = (h.0, doms-are c h.1)
      dom-are (in_partition_number ms c d) h = (exs-are c h.0, h.1)
      dom-are (in_partition_member ms es c) h = (h.0, dom-are c h.1)

      doms-are : (c : InDoms) → NamesAreDoms u v (fill_doms c a) → NamesAreDoms u v (fill_doms c b)
      doms-are (in_first_domain c ds) h = (dom-are c h.0, h.1)
      doms-are (in_later_domain d c) h = (h.0, doms-are c h.1)

  -- ---- a part

  module _ (a : Ex) where
    mutual
      pub of-part : (c : In) → NamesAre u v (fill c a) → NamesAre u v a
      of-part hole h = h
      of-part (in_operand t op c) h = of-exs c h
      of-part (in_item c d) h = of-exs c h.0
      of-part (in_index_domain es c) h = of-dom c h.1
      of-part (in_body c gs) h = of-part c h.0
      of-part (in_generators x c) h = of-gens c h.1
      of-part (in_cell_index t n c) h = of-exs c h
      of-part (in_view_domain r c ns es) h = of-dom c h.0
      of-part (in_view_index r d ns c) h = of-exs c h.1

      of-exs : (c : Ins) → NamesAreExs u v (fill_exs c a) → NamesAre u v a
      of-exs (in_first c es) h = of-part c h.0
      of-exs (in_later x c) h = of-exs c h.1

      of-gens : (c : InGens) → NamesAreGens u v (fill_gens c a) → NamesAre u v a
      of-gens (in_generator_domain p c gs) h = of-dom c h.1
      of-gens (behind_over p d c) h = of-gens c h.2
      of-gens (in_source p c gs) h = of-part c h.1
      of-gens (behind_from p x c) h = of-gens c h.2
      of-gens (in_condition c gs) h = of-part c h.0
      of-gens (behind_condition x c) h = of-gens c h.1

      of-dom : (c : InDom) → NamesAreDom u v (fill_dom c a) → NamesAre u v a
      of-dom (in_bound rs c) h = of-exs c h
      of-dom (in_component c) h = of-doms c h
      of-dom (in_field fs c) h = of-doms c h
      of-dom (in_index c d) h = of-doms c h.0
      of-dom (in_element is c) h = of-dom c h.1
      of-dom (in_set_number ms c d) h = of-exs c h.0
      of-dom (in_set_member ms es c) h = of-dom c h.1
      of-dom (in_mset_number ms c d) h = of-exs c h.0
      of-dom (in_mset_member ms es c) h = of-dom c h.1
      of-dom (in_function_number ms c d r) h = of-exs c h.0
      of-dom (in_argument ms es c r) h = of-dom c h.1
      of-dom (in_result ms es d c) h = of-dom c h.2
      of-dom (in_relation_number ms c ds) h = of-exs c h.0
      of-dom (in_relation_component ms es c) h = of-doms c h.1
      of-dom (in_partition_number ms c d) h = of-exs c h.0
      of-dom (in_partition_member ms es c) h = of-dom c h.1

      of-doms : (c : InDoms) → NamesAreDoms u v (fill_doms c a) → NamesAre u v a
      of-doms (in_first_domain c ds) h = of-dom c h.0
      of-doms (in_later_domain d c) h = of-doms c h.1

-- ---- names over domains are in scope

gens-within : (gs : Gens) (s : Scope) → Within s → Within (scope_behind gs s)
gens-within no_gens s w = w
gens-within (over p d gs) s w = gens-within gs _ (within-domain s p w)
gens-within (from p e gs) s w = gens-within gs _ (within-source s p w)
gens-within (cond e gs) s w = gens-within gs s w

mutual
  pub within-at : (c : In) (s : Scope) → Within s → Within (scope_at c s)
  within-at hole s w = w
  within-at (in_operand b op c) s w = within-exs c s w
  within-at (in_item c d) s w = within-exs c s w
  within-at (in_index_domain es c) s w = within-dom c s w
  within-at (in_body c gs) s w = within-at c (scope_behind gs s) (gens-within gs s w)
  within-at (in_generators x c) s w = within-gens c s w
  within-at (in_cell_index b n c) s w = within-exs c s w
  within-at (in_view_domain r c ns es) s w = w
  within-at (in_view_index r d ns c) s w = w

  within-exs : (c : Ins) (s : Scope) → Within s → Within (scope_at_exs c s)
  within-exs (in_first c es) s w = within-at c s w
  within-exs (in_later x c) s w = within-exs c s w

  within-gens : (c : InGens) (s : Scope) → Within s → Within (scope_at_gens c s)
  within-gens (in_generator_domain p c gs) s w = within-dom c s w
  within-gens (behind_over p d c) s w = within-gens c _ (within-domain s p w)
  within-gens (in_source p c gs) s w = within-at c s w
  within-gens (behind_from p x c) s w = within-gens c _ (within-source s p w)
  within-gens (in_condition c gs) s w = within-at c s w
  within-gens (behind_condition x c) s w = within-gens c s w

  within-dom : (c : InDom) (s : Scope) → Within s → Within (scope_at_dom c s)
  within-dom (in_bound rs c) s w = within-exs c s w
  within-dom (in_component c) s w = within-doms c s w
  within-dom (in_field fs c) s w = within-doms c s w
  within-dom (in_index c d) s w = within-doms c s w
  within-dom (in_element is c) s w = within-dom c s w
  within-dom (in_set_number ms c d) s w = within-exs c s w
  within-dom (in_set_member ms es c) s w = within-dom c s w
  within-dom (in_mset_number ms c d) s w = within-exs c s w
  within-dom (in_mset_member ms es c) s w = within-dom c s w
  within-dom (in_function_number ms c d r) s w = within-exs c s w
  within-dom (in_argument ms es c r) s w = within-dom c s w
  within-dom (in_result ms es d c) s w = within-dom c s w
  within-dom (in_relation_number ms c ds) s w = within-exs c s w
  within-dom (in_relation_component ms es c) s w = within-doms c s w
  within-dom (in_partition_number ms c d) s w = within-exs c s w
  within-dom (in_partition_member ms es c) s w = within-dom c s w

  within-doms : (c : InDoms) (s : Scope) → Within s → Within (scope_at_doms c s)
  within-doms (in_first_domain c ds) s w = within-dom c s w
  within-doms (in_later_domain d c) s w = within-doms c s w

-- ---- a name that is new to the whole

module _ (x : Text) where
  abbrev other : Text → Bool
  other a = not (same_text x a)

  abbrev yes : Text → Bool
  yes a = true

  gens-new : (gs : Gens) (s : Scope) → NamesAreGens yes other gs → IsTrue (not (s.all x)) → IsTrue (not ((scope_behind gs s).all x))
  gens-new no_gens s h n = n
  gens-new (over p d gs) s h n = gens-new gs _ h.2 (new-behind s.all x p n h.0)
  gens-new (from p e gs) s h n = gens-new gs _ h.2 (new-behind s.all x p n h.0)
  gens-new (cond e gs) s h n = gens-new gs s h.1 n

  module _ (a : Ex) where
    mutual
      new-at : (c : In) (s : Scope) → NamesAre yes other (fill c a) → IsTrue (not (s.all x)) → IsTrue (not ((scope_at c s).all x))
      new-at hole s h n = n
      new-at (in_operand b op c) s h n = new-exs c s h n
      new-at (in_item c d) s h n = new-exs c s h.0 n
      new-at (in_index_domain es c) s h n = new-dom c s h.1 n
      new-at (in_body c gs) s h n = new-at c (scope_behind gs s) h.0 (gens-new gs s h.1 n)
      new-at (in_generators e c) s h n = new-gens c s h.1 n
      new-at (in_cell_index b m c) s h n = new-exs c s h n
      new-at (in_view_domain r c ns es) s h n = n
      new-at (in_view_index r d ns c) s h n = n

      new-exs : (c : Ins) (s : Scope) → NamesAreExs yes other (fill_exs c a) → IsTrue (not (s.all x)) →
          IsTrue (not ((scope_at_exs c s).all x))
      new-exs (in_first c es) s h n = new-at c s h.0 n
      new-exs (in_later e c) s h n = new-exs c s h.1 n

      new-gens : (c : InGens) (s : Scope) → NamesAreGens yes other (fill_gens c a) → IsTrue (not (s.all x)) →
          IsTrue (not ((scope_at_gens c s).all x))
      new-gens (in_generator_domain p c gs) s h n = new-dom c s h.1 n
      new-gens (behind_over p d c) s h n = new-gens c _ h.2 (new-behind s.all x p n h.0)
      new-gens (in_source p c gs) s h n = new-at c s h.1 n
      new-gens (behind_from p e c) s h n = new-gens c _ h.2 (new-behind s.all x p n h.0)
      new-gens (in_condition c gs) s h n = new-at c s h.0 n
      new-gens (behind_condition e c) s h n = new-gens c s h.1 n

      new-dom : (c : InDom) (s : Scope) → NamesAreDom yes other (fill_dom c a) → IsTrue (not (s.all x)) →
          IsTrue (not ((scope_at_dom c s).all x))
      new-dom (in_bound rs c) s h n = new-exs c s h n
      new-dom (in_component c) s h n = new-doms c s h n
      new-dom (in_field fs c) s h n = new-doms c s h n
      new-dom (in_index c d) s h n = new-doms c s h.0 n
      new-dom (in_element is c) s h n = new-dom c s h.1 n
      new-dom (in_set_number ms c d) s h n = new-exs c s h.0 n
      new-dom (in_set_member ms es c) s h n = new-dom c s h.1 n
      new-dom (in_mset_number ms c d) s h n = new-exs c s h.0 n
      new-dom (in_mset_member ms es c) s h n = new-dom c s h.1 n
      new-dom (in_function_number ms c d r) s h n = new-exs c s h.0 n
      new-dom (in_argument ms es c r) s h n = new-dom c s h.1 n
      new-dom (in_result ms es d c) s h n = new-dom c s h.2 n
      new-dom (in_relation_number ms c ds) s h n = new-exs c s h.0 n
      new-dom (in_relation_component ms es c) s h n = new-doms c s h.1 n
      new-dom (in_partition_number ms c d) s h n = new-exs c s h.0 n
      new-dom (in_partition_member ms es c) s h n = new-dom c s h.1 n

      new-doms : (c : InDoms) (s : Scope) → NamesAreDoms yes other (fill_doms c a) → IsTrue (not (s.all x)) →
          IsTrue (not ((scope_at_doms c s).all x))
      new-doms (in_first_domain c ds) s h n = new-dom c s h.0 n
      new-doms (in_later_domain d c) s h n = new-doms c s h.1 n

  -- So it is new at each part.
  pub new-there : (c : In) (s : Scope) (a : Ex) → IsNew s x (fill c a) → IsNew (scope_at c s) x a
  new-there c s a n = (new-at a c s n.1 n.0, of-part yes other a c n.1)
