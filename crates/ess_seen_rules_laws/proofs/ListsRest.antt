-- No rule fires at a list: of what generators go through, or of items.
use Rattle.std.proofs.Common.{◌≡◌, refl, ap, ℕ, Bool, false, List, Option, Some, None}
use Rattle.ess_semantics.specs.Lists.{and_then}
use Rattle.ess_semantics.specs.Values.{Text}
use Rattle.ess_semantics.specs.Names.{Names}
use Rattle.ess_semantics.specs.NamesAt.{names_behind}
use Rattle.ess_semantics.specs.Trees.{matrix_literal, Ex, Exs, comp_ex, Gens}
use Rattle.ess_semantics.specs.Types.{Ty}
use Rattle.ess_rules_laws.specs.SourceRules.{list_of}
use Rattle.ess_refine_laws.specs.AllRules.{Supply, Rule, rewrite, over_nothing}
use Rattle.ess_kind_rules_laws.specs.KindRules.{KindRule, kind_rewrite, cell_of_an_atom, of_what_is_picked}
use Rattle.ess_open_rules_laws.specs.OpenGenerators.{Opened, at_first_open, put_before}
use Rattle.ess_open_rules_laws.specs.OpenSources.{kept_behind, kept_in_order}
use Rattle.ess_open_rules_laws.specs.OpenRules.{KindRuling, of_kind, of_opening, kind_ruled, OpenRule, open_rewrite, step_by_step, of_a_pick, in_order_of_its_source}
use Rattle.ess_seen_laws.proofs.ess_bare_laws.Picks.{PickNothing, no-kind, no-open}
use Rattle.ess_seen_laws.specs.Seen.{Bound, Listed, view, drawn, combined, Going, at_end, through, through_slots, among, where_holds, truths, numbers}
use Rattle.ess_seen_laws.specs.SeenParts.{Items, gone_through, items_listed}
use Rattle.ess_seen_rules_laws.specs.Laws.{NoneFires}
use Rattle.ess_seen_rules_laws.proofs.Allowed.{Allowed, allowed-not}
use Rattle.ess_seen_rules_laws.proofs.Picks.{items-pick}
use Rattle.ess_seen_rules_laws.proofs.Sources.{OpensAtSet, opens-at-set, not-kept}
use Rattle.ess_seen_rules_laws.proofs.OrderRules.{no-order-list, no-order-items}
use Rattle.ess_seen_rules_laws.proofs.NumberRules.{no-number-list, no-number-items}

-- ---- generators

module _ (cells : Text → Option (Bool × List ℕ)) where
  module _ (s : Supply) (g : Names Ty) (r : Names Bound) where
    plain-list : {t : Names Bound} {gs : Gens} (e : Ex) → Going cells r gs t → (u : Rule) → Allowed false (rewrite s g u (comp_ex e gs))
    plain-list e at_end over_nothing = tt
    plain-list e (through truths k) over_nothing = tt
    plain-list e (through (numbers b es) k) over_nothing = tt
    plain-list e (through_slots c k) over_nothing = tt
    plain-list e (among (view a b c d) k) over_nothing = tt
    plain-list e (among (drawn h) k) over_nothing = tt
    plain-list e (among (combined o h l) k) over_nothing = tt
    plain-list e (where_holds f k) over_nothing = tt
    plain-list e k u = tt

    kind-list : {t : Names Bound} {gs : Gens} (e : Ex) → Going cells r gs t → (u : KindRule) →
        Allowed false (kind_rewrite s g u (comp_ex e gs))
    kind-list e k cell_of_an_atom = tt
    kind-list e k u = tt

    -- But of what is opened in order, which is looked at by itself.
    abbrev NotInOrder : OpenRule → Option Ex → Type 0
    NotInOrder in_order_of_its_source o = Unit {0}
    NotInOrder u o = Allowed false o

    open-list : {t : Names Bound} {gs : Gens} (e : Ex) → Going cells r gs t → (u : OpenRule) →
        NotInOrder u (open_rewrite s g u (comp_ex e gs))
    open-list e k step_by_step = tt
    open-list e k u = tt

    in-order : (e : Ex) (gs : Gens) → OpensAtSet (at_first_open gs) → kept_behind s g (comp_ex e gs) ≡ None
    in-order e gs h = go (at_first_open gs) h
      where
        go : (o : Option Opened) → OpensAtSet o →
            and_then o (λ t. and_then (kept_in_order s (names_behind t.before g) (comp_ex e t.after)) (put_before t.before)) ≡ None
        go None h = refl
        go (Some t) h = ap (λ o. and_then o (put_before t.before)) (not-kept s (names_behind t.before g) e t.after h)

    opens-list : {t : Names Bound} {gs : Gens} (e : Ex) → Going cells r gs t → (u : OpenRule) → open_rewrite s g u (comp_ex e gs) ≡ None
    opens-list {gs = gs} e k in_order_of_its_source = in-order e gs (opens-at-set cells k)
    opens-list e k u = allowed-not _ (open-list e k u)

    kinds-list : {t : Names Bound} {gs : Gens} (e : Ex) → Going cells r gs t → (u : KindRuling) → kind_ruled s g u (comp_ex e gs) ≡ None
    kinds-list e k (of_kind u) = allowed-not _ (kind-list e k u)
    kinds-list e k (of_opening u) = opens-list e k u

  -- None fires at a comprehension.
  comps-rest : {r t : Names Bound} {gs : Gens} (e : Ex) → Going cells r gs t → NoneFires (comp_ex e gs)
  comps-rest {r} {gs = gs} e k = record {
    plainly = λ s g u. allowed-not _ (plain-list s g r e k u);
    by_kind = λ s g u. kinds-list s g r e k u;
    gathering = refl;
    in_order = λ s g u. no-order-list s g e gs (opens-at-set cells k) u;
    by_number = λ s g u. no-number-list s g e gs u;
  }

-- ---- items

module _ (s : Supply) (g : Names Ty) (es : Exs) (p : PickNothing es) where
  plain-items : (u : Rule) → Allowed false (rewrite s g u (list_of es))
  plain-items over_nothing = tt
  plain-items u = tt

  kind-items : (u : KindRule) → kind_rewrite s g u (list_of es) ≡ None
  kind-items of_what_is_picked = no-kind s g false matrix_literal es p
  kind-items u = refl

  open-items : (u : OpenRule) → open_rewrite s g u (list_of es) ≡ None
  open-items of_a_pick = no-open s g false matrix_literal es p
  open-items u = refl

  kinds-items : (u : KindRuling) → kind_ruled s g u (list_of es) ≡ None
  kinds-items (of_kind u) = kind-items u
  kinds-items (of_opening u) = open-items u

module _ (cells : Text → Option (Bool × List ℕ)) (r : Names Bound) where
  items-rest : {es : Exs} {m : Bool} → Listed cells r es m → NoneFires (list_of es)
  items-rest {es} l = record {
    plainly = λ s g u. allowed-not _ (plain-items s g es (items-pick cells r l) u);
    by_kind = λ s g u. kinds-items s g es (items-pick cells r l) u;
    gathering = refl;
    in_order = λ s g u. no-order-items s g cells r l u;
    by_number = λ s g u. no-number-items cells r s g l u;
  }

  -- None fires at a list.
  pub lists-rest : (e : Ex) (m : Bool) → Items cells r e m → NoneFires e
  lists-rest e m (gone_through {e = x} k f) = comps-rest cells x k
  lists-rest e m (items_listed l) = items-rest l
