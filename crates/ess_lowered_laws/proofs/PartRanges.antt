-- Where the ranges of a whole have their bounds, and those of what stands in the place of a part have them where the part's have, the
-- ranges of the new whole have theirs.
use Rattle.std.proofs.Common.{sym, ◌∙◌}
use Rattle.ess_semantics.specs.Trees.{Ex, Exs, no_exs, more_exs}
use Rattle.ess_semantics.specs.Contexts.{In, hole, in_operand, in_item, in_index_domain, in_body, in_generators, in_cell_index, in_view_domain, in_view_index, Ins, in_first, in_later, InGens, in_generator_domain, behind_over, in_source, behind_from, in_condition, behind_condition, InDom, in_bound, fill, fill_exs, fill_gens, fill_dom}
use Rattle.ess_lowered_laws.specs.Ranges.{RangesFit, AllRangesFit, GensFit, DomFits}
use Rattle.ess_lowered_laws.proofs.Alongside.{Along, none_left, one_beside, fit-along}

-- Any two trees.
abbrev pub Any : Ex → Ex → Type 0
Any e f = Unit {0}

-- Operands stand beside themselves.
beside-itself : (es : Exs) → Along Any es es
beside-itself no_exs = none_left
beside-itself (more_exs e es) = one_beside tt (beside-itself es)

module _ (a b : Ex) where
  -- With one part or the other there are as many operands.
  beside-filled : (c : Ins) → Along Any (fill_exs c a) (fill_exs c b)
  beside-filled (in_first c es) = one_beside tt (beside-itself es)
  beside-filled (in_later x c) = one_beside tt (beside-filled c)

  module _ (f : RangesFit a → RangesFit b) where
    mutual
      -- The ranges of the new whole have their bounds.
      pub part-fits : (c : In) → RangesFit (fill c a) → RangesFit (fill c b)
      part-fits hole h = f h
      part-fits (in_operand m op c) h = operand-fits c h
      part-fits (in_item c d) h = operand-fits c h
      part-fits (in_index_domain es c) h = h
      part-fits (in_body c gs) h = (part-fits c h.0, h.1)
      part-fits (in_generators x c) h = (h.0, generator-fits c h.1)
      part-fits (in_cell_index m n c) h = operand-fits c h
      part-fits (in_view_domain r c ns es) h = tt
      part-fits (in_view_index r d ns c) h = tt

      operand-fits : (c : Ins) → AllRangesFit (fill_exs c a) → AllRangesFit (fill_exs c b)
      operand-fits (in_first c es) h = (part-fits c h.0, h.1)
      operand-fits (in_later x c) h = (h.0, operand-fits c h.1)

      generator-fits : (c : InGens) → GensFit (fill_gens c a) → GensFit (fill_gens c b)
      generator-fits (in_generator_domain p c gs) h = (domain-fits c h.0, h.1)
      generator-fits (behind_over p d c) h = (h.0, generator-fits c h.1)
      generator-fits (in_source p c gs) h = (part-fits c h.0, h.1)
      generator-fits (behind_from p x c) h = (h.0, generator-fits c h.1)
      generator-fits (in_condition c gs) h = (part-fits c h.0, h.1)
      generator-fits (behind_condition x c) h = (h.0, generator-fits c h.1)

      domain-fits : (c : InDom) → DomFits (fill_dom c a) → DomFits (fill_dom c b)
      domain-fits (in_bound rs c) h = (sym (fit-along Any rs (beside-filled c)) ∙ h.0, operand-fits c h.1)
      domain-fits c h = tt
