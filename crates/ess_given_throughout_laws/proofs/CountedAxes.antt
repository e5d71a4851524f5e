-- A comprehension over domains alone counts what is fixed.
use Rattle.std.proofs.Common.{◌≡◌, refl, Bool, true, ◌&&◌}
use Rattle.ess_semantics.specs.Values.{Text}
use Rattle.ess_semantics.specs.Trees.{Ex, comp_ex, Gens, no_gens, over, from, cond}
use Rattle.ess_semantics.proofs.Tests.{and-left, and-right, and-both}
use Rattle.ess_open_rules_laws.specs.OpenGenerators.{are_over_domains, has_no_source}
use Rattle.ess_given_laws.specs.PartsHave.{GensHave}
use Rattle.ess_given_laws.specs.Given.{all_bound, is_fixed, are_fixed_gens, is_fixed_dom, given, GivenIn}
use Rattle.ess_given_conditions_laws.specs.GivenAxes.{CountsFixed}
use Rattle.ess_given_order_laws.specs.InOrder.{in_order, gens_in_order}
use Rattle.ess_given_throughout_laws.specs.CountedAxes.{OverFixed, BindsFixed, AxesCountFixed}

module _ (u : Text → Bool) where
  gens-fixed : (gs : Gens) → are_over_domains gs ≡ true → gens_in_order u gs ≡ true → GensHave (given u) gs → OverFixed u gs →
      are_fixed_gens u gs ≡ true
  gens-fixed no_gens q o h b = refl
  gens-fixed (over p d gs) q o h b = and-both (all_bound u p) (is_fixed_dom u d && are_fixed_gens u gs) b.0
      (and-both (is_fixed_dom u d) (are_fixed_gens u gs) h.1 (gens-fixed gs q o h.2 b.1))
  gens-fixed (from p e gs) q o h b = cc
  gens-fixed (cond c gs) q o h b = and-both (is_fixed u c) (are_fixed_gens u gs) (and-left (is_fixed u c) (gens_in_order u gs) o)
      (gens-fixed gs q (and-right (is_fixed u c) (gens_in_order u gs) o) h.1 b)

  counts-fixed : (e : Ex) → has_no_source e ≡ true → in_order u e ≡ true → GivenIn u e → BindsFixed u e → CountsFixed u e
  counts-fixed (comp_ex e gs) q o h b = gens-fixed gs q o h.1 b
  counts-fixed _ q o h b = tt

-- So it is with two operands.
pub axes-count-fixed : AxesCountFixed
axes-count-fixed u m o a b q r h k i j = (counts-fixed u a q k.0.0 h.0 i, counts-fixed u b r k.1.0.0 h.1.0 j)
