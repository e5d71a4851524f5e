-- Rewriting that spells no new numbers but 0, 1 and 2: at a part and so in the whole.
use Rattle.std.specs.Prelude.{◌≡◌, Bool, true, false, ℤ, pos}
use Rattle.std.specs.List.{list_all}
use Rattle.ess_semantics.specs.Names.{Names}
use Rattle.ess_semantics.specs.Trees.{Ex}
use Rattle.ess_semantics.specs.Types.{Ty}
use Rattle.ess_semantics.specs.Constants.{drops_items, tree_constants}
use Rattle.ess_semantics.specs.Contexts.{In, Ins, InGens, InDom, InDoms, hole, in_operand, in_item, in_index_domain, in_body, in_generators, in_cell_index, in_view_domain, in_view_index, in_first, in_later, in_generator_domain, behind_over, in_source, behind_from, in_condition, behind_condition, in_bound, in_component, in_field, in_index, in_element, in_set_number, in_set_member, in_mset_number, in_mset_member, in_function_number, in_argument, in_result, in_relation_number, in_relation_component, in_partition_number, in_partition_member, in_first_domain, in_later_domain, fill}
use Rattle.ess_semantics.specs.Kept.{Kept}

abbrev mutual
  -- Whether the open part stands directly in an operator that may drop the items of a list; so says the flag of a part that is the
  -- whole.
  pub dropping_at : In → Bool → Bool
  dropping_at hole m = m
  dropping_at (in_operand b op c) m = dropping_at_exs c (drops_items op)
  dropping_at (in_item c d) m = dropping_at_exs c false
  dropping_at (in_index_domain es c) m = dropping_at_dom c
  dropping_at (in_body c gs) m = dropping_at c false
  dropping_at (in_generators x c) m = dropping_at_gens c
  dropping_at (in_cell_index b n c) m = dropping_at_exs c false
  dropping_at (in_view_domain r c ns es) m = dropping_at_dom c
  dropping_at (in_view_index r d ns c) m = dropping_at_exs c false

  -- The same of several expressions.
  pub dropping_at_exs : Ins → Bool → Bool
  dropping_at_exs (in_first c es) m = dropping_at c m
  dropping_at_exs (in_later x c) m = dropping_at_exs c m

  -- The same of generators.
  pub dropping_at_gens : InGens → Bool
  dropping_at_gens (in_generator_domain p c gs) = dropping_at_dom c
  dropping_at_gens (behind_over p d c) = dropping_at_gens c
  dropping_at_gens (in_source p c gs) = dropping_at c false
  dropping_at_gens (behind_from p x c) = dropping_at_gens c
  dropping_at_gens (in_condition c gs) = dropping_at c false
  dropping_at_gens (behind_condition x c) = dropping_at_gens c

  -- The same of a domain.
  pub dropping_at_dom : InDom → Bool
  dropping_at_dom (in_bound rs c) = dropping_at_exs c false
  dropping_at_dom (in_component c) = dropping_at_doms c
  dropping_at_dom (in_field fs c) = dropping_at_doms c
  dropping_at_dom (in_index c d) = dropping_at_doms c
  dropping_at_dom (in_element is c) = dropping_at_dom c
  dropping_at_dom (in_set_number ms c d) = dropping_at_exs c false
  dropping_at_dom (in_set_member ms es c) = dropping_at_dom c
  dropping_at_dom (in_mset_number ms c d) = dropping_at_exs c false
  dropping_at_dom (in_mset_member ms es c) = dropping_at_dom c
  dropping_at_dom (in_function_number ms c d r) = dropping_at_exs c false
  dropping_at_dom (in_argument ms es c r) = dropping_at_dom c
  dropping_at_dom (in_result ms es d c) = dropping_at_dom c
  dropping_at_dom (in_relation_number ms c ds) = dropping_at_exs c false
  dropping_at_dom (in_relation_component ms es c) = dropping_at_doms c
  dropping_at_dom (in_partition_number ms c d) = dropping_at_exs c false
  dropping_at_dom (in_partition_member ms es c) = dropping_at_dom c

  -- The same of several domains.
  pub dropping_at_doms : InDoms → Bool
  dropping_at_doms (in_first_domain c ds) = dropping_at_dom c
  dropping_at_doms (in_later_domain d c) = dropping_at_doms c

-- What all numbers that the first tree spells have, those of the second one have, where 0, 1 and 2 have it. The flag says that the
-- tree stands directly in an operator that may drop items.
abbrev pub SpellsNoMore : Bool → Ex → Ex → Type 0
SpellsNoMore m a b = (q : ℤ → Bool) → q (pos 0) ≡ true → q (pos 1) ≡ true → q (pos 2) ≡ true → list_all q (tree_constants m a) ≡ true →
    list_all q (tree_constants m b) ≡ true

-- The second tree comes from the first one by rules that keep what they rewrite, each at some part, where it spells no more.
pub data SparingRewriting : Names Ty → Ex → Ex → Type 0 where
  same_numbers : {g : Names Ty} {e : Ex} → SparingRewriting g e e
  sparing_at : {g : Names Ty} {e : Ex} (a b : Ex) (c : In) → SpellsNoMore (dropping_at c false) a b → Kept g (fill c a) (fill c b) →
      SparingRewriting g (fill c b) e → SparingRewriting g (fill c a) e

-- A part that spells no more makes the whole spell no more, and so do any number of such rules.
pub record WholesKeepConstants : Type 0 where
  pub at_a_part : (c : In) (m : Bool) (a b : Ex) → SpellsNoMore (dropping_at c m) a b → SpellsNoMore m (fill c a) (fill c b)
  pub by_any_rules : (g : Names Ty) (old new : Ex) → SparingRewriting g old new → Kept g old new × SpellsNoMore false old new
