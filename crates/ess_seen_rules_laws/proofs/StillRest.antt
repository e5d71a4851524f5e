-- No rule fires at an index of a view, or in a number of slots: at numerals, names over slots, and what numbers of slots are made of.
use Rattle.std.proofs.Common.{◌≡◌, refl, ℕ, Bool, false, List, Option, None}
use Rattle.ess_semantics.specs.Values.{Text}
use Rattle.ess_semantics.specs.Names.{Names}
use Rattle.ess_semantics.specs.Trees.{Ex}
use Rattle.ess_semantics.specs.Types.{Ty}
use Rattle.ess_refine_laws.specs.AllRules.{Supply, Rule, rewrite, over_nothing}
use Rattle.ess_gathered_laws.specs.GatheredConditions.{conditions_gathered}
use Rattle.ess_kind_rules_laws.specs.KindRules.{KindRule, kind_rewrite, cell_of_an_atom, of_what_is_picked}
use Rattle.ess_open_rules_laws.specs.OpenRules.{KindRuling, of_kind, of_opening, kind_ruled, OpenRule, open_rewrite, step_by_step, of_a_pick}
use Rattle.ess_ordered_laws.specs.OrderedRules.{OrderedRule, ordered_rewrite}
use Rattle.ess_flat_laws.specs.Flat.{difference}
use Rattle.ess_seen_laws.specs.Seen.{Bound, so_many, from_to, from_0, subsets, none_below, number, named, counted, two, last_item, item_before}
use Rattle.ess_seen_laws.specs.SeenParts.{IsStill, numeral, slot, count, start, pair}
use Rattle.ess_seen_rules_laws.specs.Laws.{NoneFires}
use Rattle.ess_seen_rules_laws.proofs.Allowed.{Allowed, allowed-not}
use Rattle.ess_seen_rules_laws.proofs.Picks.{NodePicksNothing, counted-picks, operands-pick, picks-no-kind, picks-no-open}
use Rattle.ess_seen_rules_laws.proofs.SetsRest.{NoKind, NoOpen}
use Rattle.ess_seen_rules_laws.proofs.OrderRules.{no-order, no-order-items}
use Rattle.ess_seen_rules_laws.proofs.NumberRules.{no-number-still}

-- No table.
abbrev no_tables : Text → Option (Bool × List ℕ)
no_tables a = None

module _ (r : Names Bound) where
  plain-still : (s : Supply) (g : Names Ty) {e : Ex} → IsStill r e → (u : Rule) → Allowed false (rewrite s g u e)
  plain-still s g numeral over_nothing = tt
  plain-still s g (slot h) over_nothing = tt
  plain-still s g (count so_many) over_nothing = tt
  plain-still s g (count (from_to q)) over_nothing = tt
  plain-still s g (count from_0) over_nothing = tt
  plain-still s g (count (subsets t)) over_nothing = tt
  plain-still s g (count (none_below t)) over_nothing = tt
  plain-still s g start over_nothing = tt
  plain-still s g (pair c) over_nothing = tt
  plain-still s g h u = tt

  -- But for what is picked, which is looked at by itself.
  kind-still : (s : Supply) (g : Names Ty) {e : Ex} → IsStill r e → (u : KindRule) → NoKind u (kind_rewrite s g u e)
  kind-still s g numeral cell_of_an_atom = tt
  kind-still s g (slot h) cell_of_an_atom = tt
  kind-still s g (count so_many) cell_of_an_atom = tt
  kind-still s g (count (from_to q)) cell_of_an_atom = tt
  kind-still s g (count from_0) cell_of_an_atom = tt
  kind-still s g (count (subsets t)) cell_of_an_atom = tt
  kind-still s g (count (none_below t)) cell_of_an_atom = tt
  kind-still s g start cell_of_an_atom = tt
  kind-still s g (pair c) cell_of_an_atom = tt
  kind-still s g h u = tt

  open-still : (s : Supply) (g : Names Ty) {e : Ex} → IsStill r e → (u : OpenRule) → NoOpen u (open_rewrite s g u e)
  open-still s g numeral step_by_step = tt
  open-still s g (slot h) step_by_step = tt
  open-still s g (count so_many) step_by_step = tt
  open-still s g (count (from_to q)) step_by_step = tt
  open-still s g (count from_0) step_by_step = tt
  open-still s g (count (subsets t)) step_by_step = tt
  open-still s g (count (none_below t)) step_by_step = tt
  open-still s g start step_by_step = tt
  open-still s g (pair c) step_by_step = tt
  open-still s g h u = tt

  -- All but a pair are trees over views.
  still-picks : {e : Ex} → IsStill r e → NodePicksNothing e
  still-picks numeral = tt
  still-picks (slot h) = tt
  still-picks (count c) = operands-pick no_tables r (counted c)
  still-picks start = (refl, (refl, tt))
  still-picks (pair c) = (counted-picks c, (refl, tt))

  kinds-still : (s : Supply) (g : Names Ty) {e : Ex} → IsStill r e → (u : KindRuling) → kind_ruled s g u e ≡ None
  kinds-still s g {e} h (of_kind of_what_is_picked) = picks-no-kind s g e (still-picks h)
  kinds-still s g h (of_kind u) = allowed-not _ (kind-still s g h u)
  kinds-still s g {e} h (of_opening of_a_pick) = picks-no-open s g e (still-picks h)
  kinds-still s g h (of_opening u) = allowed-not _ (open-still s g h u)

  gathers-still : {e : Ex} → IsStill r e → conditions_gathered e ≡ None
  gathers-still numeral = refl
  gathers-still (slot h) = refl
  gathers-still (count so_many) = refl
  gathers-still (count (from_to q)) = refl
  gathers-still (count from_0) = refl
  gathers-still (count (subsets t)) = refl
  gathers-still (count (none_below t)) = refl
  gathers-still start = refl
  gathers-still (pair c) = refl

  orders-still : (s : Supply) (g : Names Ty) {e : Ex} → IsStill r e → (u : OrderedRule) → ordered_rewrite s g u e ≡ None
  orders-still s g numeral u = no-order s g no_tables r number u
  orders-still s g (slot h) u = no-order s g no_tables r (named h refl) u
  orders-still s g (count c) u = no-order s g no_tables r (counted c) u
  orders-still s g start u = no-order s g no_tables r (two difference number number) u
  orders-still s g (pair c) u = no-order-items s g no_tables r (item_before (counted c) (last_item number)) u

  -- None fires there.
  pub still-rest : (e : Ex) → IsStill r e → NoneFires e
  still-rest e h = record {
    plainly = λ s g u. allowed-not _ (plain-still s g h u);
    by_kind = λ s g u. kinds-still s g h u;
    gathering = gathers-still h;
    in_order = λ s g u. orders-still s g h u;
    by_number = λ s g u. no-number-still s g h u;
  }
