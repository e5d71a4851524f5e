-- No rule fires at a set.
use Rattle.std.proofs.Common.{◌≡◌, refl, ℕ, Bool, true, false, List, Option, None}
use Rattle.ess_semantics.specs.Values.{Text}
use Rattle.ess_semantics.specs.Names.{Names}
use Rattle.ess_semantics.specs.Trees.{Ex}
use Rattle.ess_semantics.specs.Types.{Ty}
use Rattle.ess_refine_laws.specs.AllRules.{Supply, Rule, rewrite, over_nothing}
use Rattle.ess_gathered_laws.specs.GatheredConditions.{conditions_gathered}
use Rattle.ess_kind_rules_laws.specs.KindRules.{KindRule, kind_rewrite, cell_of_an_atom, of_what_is_picked}
use Rattle.ess_open_rules_laws.specs.OpenRules.{KindRuling, of_kind, of_opening, kind_ruled, OpenRule, open_rewrite, step_by_step, of_a_pick}
use Rattle.ess_seen_laws.specs.Seen.{Kind, Bound, united, shared, lessened, as_an_atom, by_occurrence, with_a_dummy, in_slots, with_a_marker, with_flags, SetTerm, view, drawn, combined}
use Rattle.ess_seen_rules_laws.specs.Laws.{NoneFires}
use Rattle.ess_seen_rules_laws.proofs.Allowed.{Allowed, allowed-not}
use Rattle.ess_seen_rules_laws.proofs.Picks.{set-operands-pick, picks-no-kind, picks-no-open}
use Rattle.ess_seen_rules_laws.proofs.OrderRules.{no-order-set}
use Rattle.ess_seen_rules_laws.proofs.NumberRules.{no-number-set}

-- No answer, but of what operands pick, which is looked at by itself.
abbrev pub NoKind : KindRule → Option Ex → Type 0
NoKind of_what_is_picked o = Unit {0}
NoKind u o = Allowed false o

abbrev pub NoOpen : OpenRule → Option Ex → Type 0
NoOpen of_a_pick o = Unit {0}
NoOpen u o = Allowed false o

module _ (cells : Text → Option (Bool × List ℕ)) (r : Names Bound) where
  plain-set : (s : Supply) (g : Names Ty) {e : Ex} {k : Kind} → SetTerm cells r e k → (u : Rule) → Allowed false (rewrite s g u e)
  plain-set s g (view a b c d) over_nothing = tt
  plain-set s g (drawn h) over_nothing = tt
  plain-set s g (combined united h k) over_nothing = tt
  plain-set s g (combined shared h k) over_nothing = tt
  plain-set s g (combined lessened h k) over_nothing = tt
  plain-set s g h u = tt

  -- A set isn't kept as an atom.
  kind-set : (s : Supply) (g : Names Ty) {e : Ex} {k : Kind} → SetTerm cells r e k → (u : KindRule) → NoKind u (kind_rewrite s g u e)
  kind-set s g (view a b (as_an_atom h c) d) u = absurd (no-atom h)
    where
      no-atom : false ≡ true → ⊥
      no-atom q = cc
  kind-set s g (view a b (by_occurrence n w h c) d) cell_of_an_atom = tt
  kind-set s g (view a b (with_a_dummy w h q l c) d) cell_of_an_atom = tt
  kind-set s g (view a b (in_slots w l k) d) cell_of_an_atom = tt
  kind-set s g (view a b (with_a_marker w l c k) d) cell_of_an_atom = tt
  kind-set s g (view a b (with_flags w l c k) d) cell_of_an_atom = tt
  kind-set s g (drawn h) cell_of_an_atom = tt
  kind-set s g (combined o h k) cell_of_an_atom = tt
  kind-set s g h u = tt

  open-set : (s : Supply) (g : Names Ty) {e : Ex} {k : Kind} → SetTerm cells r e k → (u : OpenRule) → NoOpen u (open_rewrite s g u e)
  open-set s g (view a b c d) step_by_step = tt
  open-set s g (drawn h) step_by_step = tt
  open-set s g (combined o h k) step_by_step = tt
  open-set s g h u = tt

  kinds-set : (s : Supply) (g : Names Ty) {e : Ex} {k : Kind} → SetTerm cells r e k → (u : KindRuling) → kind_ruled s g u e ≡ None
  kinds-set s g {e} h (of_kind of_what_is_picked) = picks-no-kind s g e (set-operands-pick cells r h)
  kinds-set s g h (of_kind u) = allowed-not _ (kind-set s g h u)
  kinds-set s g {e} h (of_opening of_a_pick) = picks-no-open s g e (set-operands-pick cells r h)
  kinds-set s g h (of_opening u) = allowed-not _ (open-set s g h u)

  gathers-set : {e : Ex} {k : Kind} → SetTerm cells r e k → conditions_gathered e ≡ None
  gathers-set (view a b c d) = refl
  gathers-set (drawn h) = refl
  gathers-set (combined o h k) = refl

  -- None fires at a set.
  pub sets-rest : (e : Ex) (k : Kind) → SetTerm cells r e k → NoneFires e
  sets-rest e k h = record {
    plainly = λ s g u. allowed-not _ (plain-set s g h u);
    by_kind = λ s g u. kinds-set s g h u;
    gathering = gathers-set h;
    in_order = λ s g u. no-order-set s g cells r h u;
    by_number = λ s g u. no-number-set cells r s g h u;
  }
