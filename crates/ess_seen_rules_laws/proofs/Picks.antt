-- A tree over views picks no value out of a term, nor does a set or a list, so that no operand is looked up.
use Rattle.std.proofs.Common.{◌≡◌, refl, ℕ, Bool, false, List, Option, None}
use Rattle.ess_semantics.specs.Values.{Text}
use Rattle.ess_semantics.specs.Names.{Names}
use Rattle.ess_semantics.specs.Trees.{Ex, Exs, node_ex}
use Rattle.ess_semantics.specs.Types.{Ty}
use Rattle.ess_refine_laws.specs.AllRules.{Supply}
use Rattle.ess_kind_rules_laws.specs.TermLookups.{picks}
use Rattle.ess_kind_rules_laws.specs.KindRules.{over_picked}
use Rattle.ess_open_rules_laws.specs.OpenRules.{over_a_pick}
use Rattle.ess_seen_laws.specs.ess_bare_laws.Lean.{of_all, of_some, of_sum}
use Rattle.ess_seen_laws.proofs.ess_bare_laws.Picks.{PickNothing, no-kind, no-open}
use Rattle.ess_seen_laws.specs.Seen.{Kind, Bound, Counted, so_many, from_to, from_0, subsets, none_below, Seen, SetTerm, Listed, last_item, item_before, number, truth, named, counted, figure, flag, atom, one, two, chosen, folded, of_items, size, within, set_within, compared, view, drawn, combined}

-- What stands in a node picks nothing.
abbrev pub NodePicksNothing : Ex → Type 0
NodePicksNothing (node_ex b op es) = PickNothing es
NodePicksNothing e = Unit {0}

-- A number of slots picks nothing.
pub counted-picks : {e : Ex} {n : ℕ} → Counted e n → picks e ≡ false
counted-picks so_many = refl
counted-picks (from_to q) = refl
counted-picks from_0 = refl
counted-picks (subsets t) = refl
counted-picks (none_below t) = refl

module _ (cells : Text → Option (Bool × List ℕ)) (r : Names Bound) where
  -- Nor does a tree over views.
  pub seen-picks : {e : Ex} {m : Bool} → Seen cells r e m → picks e ≡ false
  seen-picks number = refl
  seen-picks truth = refl
  seen-picks (named h k) = refl
  seen-picks (figure h i) = refl
  seen-picks (flag h i) = refl
  seen-picks (atom h p) = refl
  seen-picks (one o f) = refl
  seen-picks (two o f h) = refl
  seen-picks (chosen f) = refl
  seen-picks (folded of_all g f) = refl
  seen-picks (folded of_some g f) = refl
  seen-picks (folded of_sum g f) = refl
  seen-picks (counted c) = counted-picks c
  seen-picks (of_items of_all l) = refl
  seen-picks (of_items of_some l) = refl
  seen-picks (of_items of_sum l) = refl
  seen-picks (size h) = refl
  seen-picks (within f h) = refl
  seen-picks (set_within h k) = refl
  seen-picks (compared o h k) = refl

  -- A set picks nothing.
  pub set-picks : {e : Ex} {k : Kind} → SetTerm cells r e k → picks e ≡ false
  set-picks (view a b c d) = refl
  set-picks (drawn h) = refl
  set-picks (combined o h k) = refl

  -- Nor does an item of a list.
  pub items-pick : {es : Exs} {m : Bool} → Listed cells r es m → PickNothing es
  items-pick (last_item f) = (seen-picks f, tt)
  items-pick (item_before f l) = (seen-picks f, items-pick l)

  -- So operands of a node of one pick nothing.
  pub operands-pick : {e : Ex} {m : Bool} → Seen cells r e m → NodePicksNothing e
  operands-pick number = tt
  operands-pick truth = tt
  operands-pick (named h k) = tt
  operands-pick (figure h i) = tt
  operands-pick (flag h i) = tt
  operands-pick (atom h p) = tt
  operands-pick (one o f) = (seen-picks f, tt)
  operands-pick (two o f h) = (seen-picks f, (seen-picks h, tt))
  operands-pick (chosen f) = (seen-picks f, tt)
  operands-pick (folded w g f) = (refl, tt)
  operands-pick (counted so_many) = tt
  operands-pick (counted (from_to q)) = (refl, (refl, tt))
  operands-pick (counted from_0) = (refl, (refl, tt))
  operands-pick (counted (subsets t)) = (refl, (counted-picks t, tt))
  operands-pick (counted (none_below t)) = (refl, tt)
  operands-pick (of_items w l) = (refl, tt)
  operands-pick (size h) = (set-picks h, tt)
  operands-pick (within f h) = (seen-picks f, (set-picks h, tt))
  operands-pick (set_within h k) = (set-picks h, (set-picks k, tt))
  operands-pick (compared o h k) = (set-picks h, (set-picks k, tt))

  -- So do those of a set that is made of two.
  pub set-operands-pick : {e : Ex} {k : Kind} → SetTerm cells r e k → NodePicksNothing e
  set-operands-pick (view a b c d) = tt
  set-operands-pick (drawn h) = tt
  set-operands-pick (combined o h k) = (set-picks h, (set-picks k, tt))

-- Where operands pick nothing the rule of what is picked doesn't fire that reads kinds.
pub picks-no-kind : (s : Supply) (g : Names Ty) (e : Ex) → NodePicksNothing e → over_picked s g e ≡ None
picks-no-kind s g (node_ex b op es) p = no-kind s g b op es p
picks-no-kind s g e p = refl

-- So it is of those at the first generator that isn't plain.
pub picks-no-open : (s : Supply) (g : Names Ty) (e : Ex) → NodePicksNothing e → over_a_pick s g e ≡ None
picks-no-open s g (node_ex b op es) p = no-open s g b op es p
picks-no-open s g e p = refl
