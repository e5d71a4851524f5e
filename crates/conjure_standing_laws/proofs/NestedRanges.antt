-- In what is asked of the tables of a nested set ranges have their bounds.
use Rattle.std.proofs.Common.{refl, subst, ℕ, ◌+◌, ◌≤◌, ◌^◌, Bool, List, [], ◌∷◌, Option, arith}
use Rattle.ess_semantics.specs.Values.{Text}
use Rattle.ess_semantics.specs.Trees.{unary, binary, word, both_ends, name_pat, Repr, Ex, Exs, number_ex, truth_ex, name_ex, node_ex, matrix_ex, comp_ex, cell_ex, seen_ex, no_exs, more_exs, Gens, no_gens, over, from, cond, Dom, bool_dom, int_dom}
use Rattle.ess_repr_laws.specs.Structure.{structure}
use Rattle.ess_repr_declare_laws.specs.SizeTerms.{size_terms}
use Rattle.conjure_model_laws.specs.ToldApart.{reserved}
use Rattle.ess_nested_laws.proofs.NestedForms.{KeptAs, kept-form}
use Rattle.ess_seen_values_laws.specs.ess_bare_structures_laws.Laws.{told_structure, structure_from, IsNestedView}
use Rattle.ess_seen_values_laws.proofs.ess_bare_structures_laws.Ranged.{Ranged, AllRanged, RangedGens, RangedDom}
use Rattle.ess_seen_values_laws.proofs.ess_bare_structures_laws.BareLevels.{held-none}
use Rattle.ess_seen_values_laws.proofs.ess_bare_structures_laws.BareStructures.{structure-fine}
use Rattle.ess_seen_values_laws.proofs.ess_bare_structures_laws.MarkedShapes.{shapes-fine}
use Rattle.ess_seen_values_laws.proofs.ess_bare_structures_laws.SpreadNames.{spread, spread-low, spread-apart}
use Rattle.ess_seen_values_laws.proofs.ess_bare_structures_laws.LevelsAlike.{layers, structure-same}
use Rattle.ess_seen_values_laws.proofs.ess_bare_structures_laws.NestedDepths.{nested-at, layers-low}
use Rattle.ess_lowered_laws.specs.Ranges.{RangesFit, AllRangesFit, GensFit, DomFits}
use Rattle.ess_lowered_laws.proofs.ToldRanges.{told-fits}

-- ---- trees over ranges from one number to another

mutual
  -- Their ranges have their bounds.
  pub ranged-fits : (e : Ex) → Ranged e → RangesFit e
  ranged-fits (number_ex n) x = tt
  ranged-fits (truth_ex b) x = tt
  ranged-fits (name_ex a) x = tt
  ranged-fits (node_ex b (unary o) es) x = operands-fit es x
  ranged-fits (node_ex b (binary o) es) x = operands-fit es x
  ranged-fits (node_ex b (word f) es) x = operands-fit es x
  ranged-fits (node_ex b op es) x = absurd x
  ranged-fits (matrix_ex es d) x = absurd x
  ranged-fits (comp_ex e gs) x = (ranged-fits e x.1, gens-fit gs x.0)
  ranged-fits (cell_ex b n es) x = operands-fit es x
  ranged-fits (seen_ex r d ns es) x = tt

  operands-fit : (es : Exs) → AllRanged es → AllRangesFit es
  operands-fit no_exs x = tt
  operands-fit (more_exs e es) x = (ranged-fits e x.0, operands-fit es x.1)

  gens-fit : (gs : Gens) → RangedGens gs → GensFit gs
  gens-fit no_gens x = tt
  gens-fit (over (name_pat a) d gs) x = (dom-fits d x.0, gens-fit gs x.1)
  gens-fit (over p d gs) x = absurd x
  gens-fit (from p e gs) x = absurd x
  gens-fit (cond e gs) x = (ranged-fits e x.0, gens-fit gs x.1)

  dom-fits : (d : Dom) → RangedDom d → DomFits d
  dom-fits bool_dom x = tt
  dom-fits (int_dom (both_ends ∷ []) (more_exs a (more_exs b no_exs))) x = (refl, (ranged-fits a x.0, (ranged-fits b x.1, tt)))
  dom-fits d x = absurd x

-- ---- structures

few-levels : (n l : ℕ) → n ≤ 2 ^ 62 → l ≤ 251 → n + l ≤ 2 ^ 64
few-levels n l p q = omega (arith, p, q)

module _ (cells : Text → Option (Bool × ℕ)) (r : Repr) (d : Dom) (ns : List Text) (n : ℕ) (v : IsNestedView cells r d ns n) where
  kept : KeptAs r d
  kept = kept-form 250 r d v.nested v.fit

  -- With names that differ everywhere.
  spread-fits : RangesFit (structure spread size_terms r d ns n no_exs)
  spread-fits = ranged-fits (structure spread size_terms r d ns n no_exs)
      (structure-fine cells spread spread-apart kept ns n 0 [] no_exs (shapes-fine cells spread spread-apart kept ns v.named v.marked)
      (λ j h. refl) (held-none cells spread spread-apart n [])).ranged

  -- The ranges of the structure of nested sets, told apart, have their bounds.
  pub nested-fits : RangesFit (told_structure r d ns n)
  nested-fits = told-fits (structure_from r d ns n) [] n
      (subst (λ e. RangesFit e) (structure-same spread reserved (2 ^ 64) spread-low kept ns n no_exs
      (few-levels n (layers r) v.low (layers-low 250 kept (nested-at 250 d v.nested)))) spread-fits)
