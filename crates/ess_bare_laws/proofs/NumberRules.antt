-- No rule of sources whose items are counted fires at a bare tree, or at a list of bare items: rows of cells run over domains.
use Rattle.std.proofs.Common.{◌≡◌, sym, subst, ℕ, Bool, Option, None}
use Rattle.ess_semantics.specs.Values.{Text}
use Rattle.ess_semantics.specs.Names.{Names}
use Rattle.ess_semantics.specs.Trees.{Ex, comp_ex, Gens}
use Rattle.ess_semantics.specs.Types.{Ty}
use Rattle.ess_refine_laws.specs.AllRules.{Supply}
use Rattle.ess_numbered_laws.specs.NumberRules.{NumberRule, number_rewrite}
use Rattle.ess_number_rest_laws.specs.Uncounted.{OpensUnpicked, Uncounted, OperandsUncounted}
use Rattle.ess_number_rest_laws.proofs.Uncounted.{uncounted-operands-rest}
use Rattle.ess_bare_laws.specs.Bare.{Bare, number, truth, named, cell, one, two, power, chosen, folded, added, ordered, Row, row}
use Rattle.ess_bare_laws.proofs.Picks.{none-open, axes-ranging}

module _ (cells : Text → Option (Bool × ℕ)) (r : Names Bool) where
  -- A bare tree is no comprehension.
  bare-uncounted : {e : Ex} {m : Bool} → Bare cells r e m → Uncounted e
  bare-uncounted number = tt
  bare-uncounted truth = tt
  bare-uncounted (named h) = tt
  bare-uncounted (cell h i) = tt
  bare-uncounted (one o f) = tt
  bare-uncounted (two o f h) = tt
  bare-uncounted (power f h) = tt
  bare-uncounted (chosen f) = tt
  bare-uncounted (folded w k f) = tt
  bare-uncounted (added k f) = tt
  bare-uncounted (ordered w f h) = tt

  -- A row runs over no source.
  row-uncounted : {e : Ex} {m : Bool} → Row cells r e m → Uncounted e
  row-uncounted (row k f) = subst OpensUnpicked (sym (none-open cells (axes-ranging cells k))) tt

  operands-uncounted : {e : Ex} {m : Bool} → Bare cells r e m → OperandsUncounted e
  operands-uncounted number = tt
  operands-uncounted truth = tt
  operands-uncounted (named h) = tt
  operands-uncounted (cell h i) = tt
  operands-uncounted (one o f) = tt
  operands-uncounted (two o f h) = (bare-uncounted f, bare-uncounted h)
  operands-uncounted (power f h) = (bare-uncounted f, bare-uncounted h)
  operands-uncounted (chosen f) = tt
  operands-uncounted (folded w k f) = tt
  operands-uncounted (added k f) = tt
  operands-uncounted (ordered w f h) = (row-uncounted f, row-uncounted h)

  -- None of them at a bare tree.
  pub no-number-rule : (s : Supply) (g : Names Ty) (u : NumberRule) {e : Ex} {m : Bool} → Bare cells r e m → number_rewrite s g u e ≡ None
  no-number-rule s g u {e} f = uncounted-operands-rest s g u e (operands-uncounted f)

-- None at a list: it is no operator.
pub no-number-list : (s : Supply) (g : Names Ty) (u : NumberRule) (e : Ex) (gs : Gens) → number_rewrite s g u (comp_ex e gs) ≡ None
no-number-list s g u e gs = uncounted-operands-rest s g u (comp_ex e gs) tt
