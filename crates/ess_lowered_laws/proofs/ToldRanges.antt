-- Where ranges have their bounds they have them when bound names are told apart.
use Rattle.std.proofs.Common.{sym, ◌∙◌, ℕ}
use Rattle.ess_semantics.specs.Values.{Text}
use Rattle.ess_semantics.specs.Names.{Names}
use Rattle.ess_semantics.specs.Trees.{Ex, Exs, number_ex, truth_ex, name_ex, node_ex, matrix_ex, comp_ex, cell_ex, seen_ex, no_exs, more_exs, Gens, no_gens, over, from, cond, Dom, int_dom}
use Rattle.conjure_model_laws.specs.ToldApart.{told_pat, told, told_all, told_gens, told_dom}
use Rattle.ess_lowered_laws.specs.Ranges.{RangesFit, AllRangesFit, GensFit, DomFits}
use Rattle.ess_lowered_laws.proofs.Alongside.{Along, none_left, one_beside, fit-along}
use Rattle.ess_lowered_laws.proofs.PartRanges.{Any}

-- There are as many operands.
beside-told : (es : Exs) (r : Names Text) (k : ℕ) → Along Any es (told_all es r k).0
beside-told no_exs r k = none_left
beside-told (more_exs e es) r k = one_beside tt (beside-told es r (told e r k).1)

mutual
  -- The ranges of a tree.
  pub told-fits : (e : Ex) (r : Names Text) (k : ℕ) → RangesFit e → RangesFit (told e r k).0
  told-fits (number_ex n) r k h = tt
  told-fits (truth_ex b) r k h = tt
  told-fits (name_ex a) r k h = tt
  told-fits (node_ex b op es) r k h = all-told-fit es r k h
  told-fits (matrix_ex es d) r k h = all-told-fit es r k h
  told-fits (comp_ex e gs) r k h =
      let q = told_gens gs r k in (told-fits e q.1 q.2 h.0, gens-told-fit gs r k h.1)
  told-fits (cell_ex b n es) r k h = all-told-fit es r k h
  told-fits (seen_ex s d ns es) r k h = tt

  all-told-fit : (es : Exs) (r : Names Text) (k : ℕ) → AllRangesFit es → AllRangesFit (told_all es r k).0
  all-told-fit no_exs r k h = tt
  all-told-fit (more_exs e es) r k h = (told-fits e r k h.0, all-told-fit es r (told e r k).1 h.1)

  gens-told-fit : (gs : Gens) (r : Names Text) (k : ℕ) → GensFit gs → GensFit (told_gens gs r k).0
  gens-told-fit no_gens r k h = tt
  gens-told-fit (over p d gs) r k h =
      let q = told_pat p r (told_dom d r k).1 in (dom-told-fits d r k h.0, gens-told-fit gs q.1 q.2 h.1)
  gens-told-fit (from p e gs) r k h =
      let q = told_pat p r (told e r k).1 in (told-fits e r k h.0, gens-told-fit gs q.1 q.2 h.1)
  gens-told-fit (cond e gs) r k h = (told-fits e r k h.0, gens-told-fit gs r (told e r k).1 h.1)

  dom-told-fits : (d : Dom) (r : Names Text) (k : ℕ) → DomFits d → DomFits (told_dom d r k).0
  dom-told-fits (int_dom rs es) r k h = (sym (fit-along Any rs (beside-told es r k)) ∙ h.0, all-told-fit es r k h.1)
  dom-told-fits d r k h = tt
