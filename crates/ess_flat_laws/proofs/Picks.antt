-- A flat tree picks no value out of a term, so that none of its operands is looked up.
use Rattle.std.proofs.Common.{◌≡◌, refl, ap, ◌∙◌, Bool, true, false, ◌&&◌, ◌||◌, if◌then◌else◌, ℕ, suc, ◌∷◌, Option, Some, None}
use Rattle.ess_semantics.specs.Lists.{and_then}
use Rattle.ess_semantics.specs.Values.{Text}
use Rattle.ess_semantics.specs.Names.{Names}
use Rattle.ess_semantics.specs.Trees.{Op, Ex, Exs, node_ex, no_exs, more_exs}
use Rattle.ess_semantics.specs.Types.{Ty}
use Rattle.ess_semantics.specs.Typing.{type_of}
use Rattle.ess_rules_laws.specs.AlternativeLookups.{select_each}
use Rattle.ess_rules_laws.specs.Progress.{is_parted}
use Rattle.ess_refine_laws.specs.AllRules.{Supply}
use Rattle.ess_kind_rules_laws.specs.TermLookups.{picks, looked_up}
use Rattle.ess_kind_rules_laws.specs.KindRules.{first_picked, over_picked}
use Rattle.ess_open_rules_laws.specs.OpenRules.{is_compound_ty, compares_values, gives_scalar, over_a_pick, first_picked as first_pick}
use Rattle.ess_flat_laws.specs.Flat.{Flat, number, truth, named, cell, one, two, chosen}

-- Every operand picks nothing.
abbrev PickNothing : Exs → Type 0
PickNothing no_exs = Unit {0}
PickNothing (more_exs e es) = (picks e ≡ false) × PickNothing es

either-way : (b : Bool) (o : Option Ex) → o ≡ None → (if b then o else None) ≡ None
either-way true o p = p
either-way false o p = refl

module _ (s : Supply) (g : Names Ty) where
  none-picked : (k : ℕ) (es : Exs) → PickNothing es → first_picked g k es ≡ None
  none-picked k no_exs p = refl
  none-picked k (more_exs e es) p =
      ap (λ c. if c && is_parted (type_of e g) then Some (k, e) else first_picked g (suc k) es) p.0 ∙ none-picked (suc k) es p.1

  no-pick : (any : Bool) (k : ℕ) (es : Exs) → PickNothing es → first_pick any g k es ≡ None
  no-pick any k no_exs p = refl
  no-pick any k (more_exs e es) p =
      ap (λ c. if c && (any || is_compound_ty (type_of e g)) then Some (k, e) else first_pick any g (suc k) es) p.0
      ∙ no-pick any (suc k) es p.1

  -- The rules of what operands pick don't fire.
  no-kind : (b : Bool) (op : Op) (es : Exs) → PickNothing es → over_picked s g (node_ex b op es) ≡ None
  no-kind b op es p =
      ap (λ o. and_then o (λ q. and_then (looked_up g s.third (s.other ∷ s.parts) q.1) (λ l. select_each s.one q.0 l (node_ex b op es))))
      (none-picked 1 es p)

  no-open : (b : Bool) (op : Op) (es : Exs) → PickNothing es → over_a_pick s g (node_ex b op es) ≡ None
  no-open b op es p = either-way (gives_scalar g (node_ex b op es))
      (and_then (first_pick (compares_values b op) g 1 es)
      (λ q. and_then (looked_up g s.third s.parts q.1) (λ l. select_each s.one q.0 l (node_ex b op es))))
      (ap (λ o. and_then o (λ q. and_then (looked_up g s.third s.parts q.1) (λ l. select_each s.one q.0 l (node_ex b op es))))
      (no-pick (compares_values b op) 1 es p))

  module _ (names cells : Text → Option Bool) where
    flat-picks : {e : Ex} {m : Bool} → Flat names cells e m → picks e ≡ false
    flat-picks number = refl
    flat-picks truth = refl
    flat-picks (named h) = refl
    flat-picks (cell h) = refl
    flat-picks (one o f) = refl
    flat-picks (two o f h c) = refl
    flat-picks (chosen f) = refl

    -- So on one flat operand, and on two.
    pub one-kind : (b : Bool) (op : Op) (x : Ex) (m : Bool) → Flat names cells x m → over_picked s g
        (node_ex b op (more_exs x no_exs)) ≡ None
    one-kind b op x m f = no-kind b op (more_exs x no_exs) (flat-picks f, tt)

    pub two-kind : (b : Bool) (op : Op) (x y : Ex) (m k : Bool) → Flat names cells x m → Flat names cells y k
        → over_picked s g (node_ex b op (more_exs x (more_exs y no_exs))) ≡ None
    two-kind b op x y m k f h = no-kind b op (more_exs x (more_exs y no_exs)) (flat-picks f, (flat-picks h, tt))

    pub one-open : (b : Bool) (op : Op) (x : Ex) (m : Bool) → Flat names cells x m → over_a_pick s g
        (node_ex b op (more_exs x no_exs)) ≡ None
    one-open b op x m f = no-open b op (more_exs x no_exs) (flat-picks f, tt)

    pub two-open : (b : Bool) (op : Op) (x y : Ex) (m k : Bool) → Flat names cells x m → Flat names cells y k
        → over_a_pick s g (node_ex b op (more_exs x (more_exs y no_exs))) ≡ None
    two-open b op x y m k f h = no-open b op (more_exs x (more_exs y no_exs)) (flat-picks f, (flat-picks h, tt))
