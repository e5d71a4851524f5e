-- Values along chains of rules: where each rule keeps at its root that each part has a value, the whole keeps it; and what rules count on
-- that operands, sources and comprehensions have values follows.
use Rattle.std.specs.Prelude.{◌≡◌, Bool, true, false, ◌&&◌, not, IsTrue, is_some}
use Rattle.ess_semantics.specs.Trees.{Op, Ex, Exs, node_ex, comp_ex, cell_ex, no_exs, more_exs, Gens}
use Rattle.ess_semantics.specs.Meaning.{Env, meaning}
use Rattle.ess_semantics.specs.Contexts.{In, Ins, InGens, InDom, InDoms, hole, in_operand, in_item, in_index_domain, in_body, in_generators, in_cell_index, in_view_domain, in_view_index, in_first, in_later, in_generator_domain, behind_over, in_source, behind_from, in_condition, behind_condition, in_bound, in_component, in_field, in_index, in_element, in_set_number, in_set_member, in_mset_number, in_mset_member, in_function_number, in_argument, in_result, in_relation_number, in_relation_component, in_partition_number, in_partition_member, in_first_domain, in_later_domain, fill, guards, Where}
use Rattle.ess_guard_laws.specs.Guard.{counts}
use Rattle.ess_guard_natural_laws.specs.TotalButNatural.{opens_places}
use Rattle.ess_rules_laws.specs.Rules.{OperandsThere}
use Rattle.ess_rules_laws.specs.SpliceRules.{SourceThere}
use Rattle.ess_refine_laws.specs.ScopesStay.{is_outside_views}
use Rattle.ess_values_along_laws.specs.Valued.{Valued}

-- ---- the open part

-- a stands in the open part.
module _ (a : Ex) where
  abbrev mutual
    -- Whether the open part stands in a natural place, where w says so of the whole.
    pub natural_at : In → Bool → Bool
    natural_at hole w = w
    natural_at (in_operand b op c) w = natural_in c (opens_places w b op)
    natural_at (in_item c d) w = natural_in c false
    natural_at (in_index_domain es c) w = natural_in_dom c
    natural_at (in_body c gs) w = natural_at c false
    natural_at (in_generators x c) w = natural_in_gens c
    natural_at (in_cell_index b n c) w = natural_in c false
    natural_at (in_view_domain r c ns es) w = natural_in_dom c
    natural_at (in_view_index r d ns c) w = natural_in c false

    -- The same of operands.
    pub natural_in : Ins → Bool → Bool
    natural_in (in_first c es) w = natural_at c w
    natural_in (in_later x c) w = natural_in c w

    -- The same of generators.
    pub natural_in_gens : InGens → Bool
    natural_in_gens (in_generator_domain p c gs) = natural_in_dom c
    natural_in_gens (behind_over p d c) = natural_in_gens c
    natural_in_gens (in_source p c gs) = natural_at c false
    natural_in_gens (behind_from p x c) = natural_in_gens c
    natural_in_gens (in_condition c gs) = natural_at c false
    natural_in_gens (behind_condition x c) = natural_in_gens c

    -- The same of a domain.
    pub natural_in_dom : InDom → Bool
    natural_in_dom (in_bound rs c) = natural_in c false
    natural_in_dom (in_component c) = natural_in_doms c
    natural_in_dom (in_field fs c) = natural_in_doms c
    natural_in_dom (in_index c d) = natural_in_doms c
    natural_in_dom (in_element is c) = natural_in_dom c
    natural_in_dom (in_set_number ms c d) = natural_in c false
    natural_in_dom (in_set_member ms es c) = natural_in_dom c
    natural_in_dom (in_mset_number ms c d) = natural_in c false
    natural_in_dom (in_mset_member ms es c) = natural_in_dom c
    natural_in_dom (in_function_number ms c d r) = natural_in c false
    natural_in_dom (in_argument ms es c r) = natural_in_dom c
    natural_in_dom (in_result ms es d c) = natural_in_dom c
    natural_in_dom (in_relation_number ms c ds) = natural_in c false
    natural_in_dom (in_relation_component ms es c) = natural_in_doms c
    natural_in_dom (in_partition_number ms c d) = natural_in c false
    natural_in_dom (in_partition_member ms es c) = natural_in_dom c

    -- The same of several domains.
    pub natural_in_doms : InDoms → Bool
    natural_in_doms (in_first_domain c ds) = natural_in_dom c
    natural_in_doms (in_later_domain d c) = natural_in_doms c

-- ---- at a part, and along a chain

-- Both mean the same, and where each part of the first one has a value each of the second one has.
abbrev pub KeepsValues : Bool → Ex → Ex → Env → Type 0
KeepsValues w a b env = (meaning a env ≡ meaning b env) × (Valued w a env → Valued w b env)

-- The second tree comes from the first one by rules, each at some part outside of views, where it keeps values wherever the
-- context of the part holds under the env; w says that the trees stand in a natural place.
pub data ValuedChain (env : Env) (w : Bool) : Ex → Ex → Type 0 where
  as_valued : {e : Ex} → ValuedChain env w e e
  valued_at : {e : Ex} (a b : Ex) (c : In) → is_outside_views c ≡ true →
      Where c env (KeepsValues (natural_at a c w) a b) → ValuedChain env w (fill c b) e → ValuedChain env w (fill c a) e

-- ---- operands

-- Whether an operand may have nothing in a natural place: an operator on numbers, or a cell.
abbrev pub may_lack_there : Ex → Bool
may_lack_there (node_ex false op es) = counts op
may_lack_there (cell_ex false n es) = true
may_lack_there e = false

-- Whether none of the operands may.
abbrev pub none_may_lack : Exs → Bool
none_may_lack no_exs = true
none_may_lack (more_exs e es) = not (may_lack_there e) && none_may_lack es

-- ---- what is said

-- A part that keeps values keeps those of the whole, and so does a chain. An expression has a value, unless it stands in a natural place
-- and may have none there. So have the operands of an operator that doesn't open natural places and doesn't guard; those of one that opens
-- them, where by their form none may lack one; the first source of a comprehension; and the comprehension. What has values in no natural
-- place has them in one.
pub record ValuesAlong : Type 0 where
  pub at_a_part : (c : In) (w : Bool) (a b : Ex) (env : Env) → is_outside_views c ≡ true →
      Where c env (KeepsValues (natural_at a c w) a b) → KeepsValues w (fill c a) (fill c b) env
  pub along : (env : Env) (w : Bool) (old new : Ex) → ValuedChain env w old new → KeepsValues w old new env
  pub value : (w : Bool) (e : Ex) (env : Env) → w && may_lack_there e ≡ false → Valued w e env → IsTrue (is_some (meaning e env))
  pub operands : (w b : Bool) (op : Op) (es : Exs) (env : Env) → guards op ≡ false → opens_places w b op ≡ false →
      Valued w (node_ex b op es) env → OperandsThere (node_ex b op es) env
  pub compared : (w b : Bool) (op : Op) (es : Exs) (env : Env) → guards op ≡ false → none_may_lack es ≡ true →
      Valued w (node_ex b op es) env → OperandsThere (node_ex b op es) env
  pub source : (w : Bool) (e : Ex) (gs : Gens) (env : Env) → Valued w (comp_ex e gs) env → SourceThere (comp_ex e gs) env
  pub in_places : (w : Bool) (e : Ex) (env : Env) → Valued false e env → Valued w e env
