-- No rule of sources whose items are counted fires at a flat tree over cells.
use Rattle.std.proofs.Common.{◌≡◌, Bool, Option, None}
use Rattle.ess_semantics.specs.Values.{Text}
use Rattle.ess_semantics.specs.Names.{Names}
use Rattle.ess_semantics.specs.Trees.{Ex}
use Rattle.ess_semantics.specs.Types.{Ty}
use Rattle.ess_refine_laws.specs.AllRules.{Supply}
use Rattle.ess_flat_laws.specs.Flat.{Flat, number, truth, named, cell, one, two, chosen, none_marked}
use Rattle.ess_numbered_laws.specs.NumberRules.{NumberRule, number_rewrite}
use Rattle.ess_number_rest_laws.specs.Uncounted.{Uncounted, OperandsUncounted}
use Rattle.ess_number_rest_laws.proofs.Uncounted.{uncounted-operands-rest}
use Rattle.ess_ordered_flat_laws.specs.FlatNumbered.{FlatTreesHaveNoNumbers}

module _ (cells : Text → Option Bool) where
  -- Such a tree is no comprehension.
  flat-uncounted : {e : Ex} {m : Bool} → Flat none_marked cells e m → Uncounted e
  flat-uncounted number = tt
  flat-uncounted truth = tt
  flat-uncounted (named h) = tt
  flat-uncounted (cell h) = tt
  flat-uncounted (one o f) = tt
  flat-uncounted (two o f h c) = tt
  flat-uncounted (chosen f) = tt

  -- Nor is an operand of one.
  operands-uncounted : {e : Ex} {m : Bool} → Flat none_marked cells e m → OperandsUncounted e
  operands-uncounted number = tt
  operands-uncounted truth = tt
  operands-uncounted (named h) = tt
  operands-uncounted (cell h) = tt
  operands-uncounted (one o f) = tt
  operands-uncounted (two o f h c) = (flat-uncounted f, flat-uncounted h)
  operands-uncounted (chosen f) = tt

  -- So none of these rules fires.
  pub no-number-rule : (s : Supply) (g : Names Ty) (r : NumberRule) {e : Ex} {m : Bool} → Flat none_marked cells e m →
      number_rewrite s g r e ≡ None
  no-number-rule s g r {e} f = uncounted-operands-rest s g r e (operands-uncounted f)

pub flat-trees-have-no-numbers : FlatTreesHaveNoNumbers
flat-trees-have-no-numbers cells s g r e m f = no-number-rule cells s g r f
