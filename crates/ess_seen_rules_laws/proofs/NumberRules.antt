-- No rule of sources whose items are counted fires at a tree over views, at a set, at a list, or where a part is still: no operand of
-- two there is a comprehension.
use Rattle.std.proofs.Common.{◌≡◌, ℕ, Bool, List, Option, None}
use Rattle.ess_semantics.specs.Values.{Text}
use Rattle.ess_semantics.specs.Names.{Names}
use Rattle.ess_semantics.specs.Trees.{Ex, Exs, comp_ex, Gens}
use Rattle.ess_semantics.specs.Types.{Ty}
use Rattle.ess_rules_laws.specs.SourceRules.{list_of}
use Rattle.ess_refine_laws.specs.AllRules.{Supply}
use Rattle.ess_numbered_laws.specs.NumberRules.{NumberRule, number_rewrite}
use Rattle.ess_number_rest_laws.specs.Uncounted.{Uncounted, OperandsUncounted}
use Rattle.ess_number_rest_laws.proofs.Uncounted.{uncounted-operands-rest}
use Rattle.ess_seen_laws.specs.Seen.{Kind, Bound, Counted, so_many, from_to, from_0, subsets, none_below, SetTerm, view, drawn, combined, Seen, Listed, last_item, item_before, number, truth, named, counted, figure, flag, atom, one, two, chosen, folded, of_items, size, within, set_within, compared}
use Rattle.ess_seen_laws.specs.SeenParts.{IsStill, numeral, slot, count, start, pair}

-- A number of slots is no comprehension, and neither is an operand of one.
counted-uncounted : {e : Ex} {n : ℕ} → Counted e n → Uncounted e
counted-uncounted so_many = tt
counted-uncounted (from_to q) = tt
counted-uncounted from_0 = tt
counted-uncounted (subsets t) = tt
counted-uncounted (none_below t) = tt

counted-operands : {e : Ex} {n : ℕ} → Counted e n → OperandsUncounted e
counted-operands so_many = tt
counted-operands (from_to q) = (tt, tt)
counted-operands from_0 = (tt, tt)
counted-operands (subsets t) = (tt, counted-uncounted t)
counted-operands (none_below t) = tt

still-operands : {r : Names Bound} {e : Ex} → IsStill r e → OperandsUncounted e
still-operands numeral = tt
still-operands (slot h) = tt
still-operands (count c) = counted-operands c
still-operands start = (tt, tt)
still-operands (pair c) = (counted-uncounted c, tt)

-- None fires where a part is still.
pub no-number-still : (s : Supply) (g : Names Ty) {r : Names Bound} {e : Ex} → IsStill r e → (u : NumberRule) →
    number_rewrite s g u e ≡ None
no-number-still s g {e = e} h u = uncounted-operands-rest s g u e (still-operands h)

-- None at a comprehension: it is no operator.
pub no-number-list : (s : Supply) (g : Names Ty) (e : Ex) (gs : Gens) (u : NumberRule) → number_rewrite s g u (comp_ex e gs) ≡ None
no-number-list s g e gs u = uncounted-operands-rest s g u (comp_ex e gs) tt

module _ (cells : Text → Option (Bool × List ℕ)) (r : Names Bound) where
  -- A set is no comprehension.
  set-uncounted : {e : Ex} {k : Kind} → SetTerm cells r e k → Uncounted e
  set-uncounted (view a b c d) = tt
  set-uncounted (drawn h) = tt
  set-uncounted (combined o h k) = tt

  set-operands : {e : Ex} {k : Kind} → SetTerm cells r e k → OperandsUncounted e
  set-operands (view a b c d) = tt
  set-operands (drawn h) = tt
  set-operands (combined o h k) = (set-uncounted h, set-uncounted k)

  -- Nor is a tree over views.
  seen-uncounted : {e : Ex} {m : Bool} → Seen cells r e m → Uncounted e
  seen-uncounted number = tt
  seen-uncounted truth = tt
  seen-uncounted (named h k) = tt
  seen-uncounted (counted c) = counted-uncounted c
  seen-uncounted (figure h i) = tt
  seen-uncounted (flag h i) = tt
  seen-uncounted (atom h p) = tt
  seen-uncounted (one o f) = tt
  seen-uncounted (two o f h) = tt
  seen-uncounted (chosen f) = tt
  seen-uncounted (folded w k f) = tt
  seen-uncounted (of_items w l) = tt
  seen-uncounted (size h) = tt
  seen-uncounted (within f h) = tt
  seen-uncounted (set_within h k) = tt
  seen-uncounted (compared o h k) = tt

  seen-operands : {e : Ex} {m : Bool} → Seen cells r e m → OperandsUncounted e
  seen-operands number = tt
  seen-operands truth = tt
  seen-operands (named h k) = tt
  seen-operands (counted c) = counted-operands c
  seen-operands (figure h i) = tt
  seen-operands (flag h i) = tt
  seen-operands (atom h p) = tt
  seen-operands (one o f) = tt
  seen-operands (two o f h) = (seen-uncounted f, seen-uncounted h)
  seen-operands (chosen f) = tt
  seen-operands (folded w k f) = tt
  seen-operands (of_items w l) = tt
  seen-operands (size h) = tt
  seen-operands (within f h) = (seen-uncounted f, set-uncounted h)
  seen-operands (set_within h k) = (set-uncounted h, set-uncounted k)
  seen-operands (compared o h k) = (set-uncounted h, set-uncounted k)

  -- Two items of a list.
  list-operands : {es : Exs} {m : Bool} → Listed cells r es m → OperandsUncounted (list_of es)
  list-operands (last_item f) = tt
  list-operands (item_before f (last_item h)) = (seen-uncounted f, seen-uncounted h)
  list-operands (item_before f (item_before h (last_item k))) = tt
  list-operands (item_before f (item_before h (item_before k l))) = tt

  module _ (s : Supply) (g : Names Ty) where
    -- None fires at a tree over views.
    pub no-number : {e : Ex} {m : Bool} → Seen cells r e m → (u : NumberRule) → number_rewrite s g u e ≡ None
    no-number {e} f u = uncounted-operands-rest s g u e (seen-operands f)

    -- None at a set.
    pub no-number-set : {e : Ex} {k : Kind} → SetTerm cells r e k → (u : NumberRule) → number_rewrite s g u e ≡ None
    no-number-set {e} h u = uncounted-operands-rest s g u e (set-operands h)

    -- None at a list of items.
    pub no-number-items : {es : Exs} {m : Bool} → Listed cells r es m → (u : NumberRule) → number_rewrite s g u (list_of es) ≡ None
    no-number-items {es} l u = uncounted-operands-rest s g u (list_of es) (list-operands l)
