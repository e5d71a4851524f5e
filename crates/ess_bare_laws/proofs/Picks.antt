-- A bare tree picks no value out of a term, and a list of bare items doesn't, so that no operand is looked up. No generator of a bare tree
-- runs over a source, and no condition stands among axes.
use Rattle.std.proofs.Common.{◌≡◌, refl, ap, ◌∙◌, ℕ, suc, Bool, true, false, ◌&&◌, ◌||◌, if◌then◌else◌, ◌∷◌, Option, Some, None, option_map}
use Rattle.ess_semantics.specs.Lists.{and_then}
use Rattle.ess_semantics.specs.Values.{Text}
use Rattle.ess_semantics.specs.Names.{Names}
use Rattle.ess_semantics.specs.Trees.{Op, name_pat, Ex, Exs, node_ex, no_exs, more_exs, Gens, over, cond}
use Rattle.ess_semantics.specs.Types.{Ty}
use Rattle.ess_semantics.specs.Typing.{type_of}
use Rattle.ess_rules_laws.specs.AlternativeLookups.{select_each}
use Rattle.ess_rules_laws.specs.Progress.{is_parted}
use Rattle.ess_refine_laws.specs.AllRules.{Supply}
use Rattle.ess_refine_laws.specs.LeavingConditions.{with_before, at_last_condition}
use Rattle.ess_kind_rules_laws.specs.TermLookups.{picks, looked_up}
use Rattle.ess_kind_rules_laws.specs.KindRules.{first_picked, over_picked}
use Rattle.ess_open_rules_laws.specs.OpenGenerators.{with_first, at_first_open}
use Rattle.ess_open_rules_laws.specs.OpenRules.{is_compound_ty, compares_values, gives_scalar, over_a_pick, first_picked as first_pick}
use Rattle.ess_bare_laws.specs.Bare.{all_hold, some_holds, Bare, number, truth, named, cell, one, two, power, chosen, folded, added, ordered, Row, row, Ranging, at_end, through, where_holds, Axes, no_axis, along, truths, numbers}

-- Every operand picks nothing.
abbrev pub PickNothing : Exs → Type 0
PickNothing no_exs = Unit {0}
PickNothing (more_exs e es) = (picks e ≡ false) × PickNothing es

-- An answer that isn't there either way.
pub either-way : {A : Type 0} (b : Bool) (o : Option A) → o ≡ None → (if b then o else None) ≡ None
either-way true o p = p
either-way false o p = refl

module _ (s : Supply) (g : Names Ty) where
  none-picked : (k : ℕ) (es : Exs) → PickNothing es → first_picked g k es ≡ None
  none-picked k no_exs p = refl
  none-picked k (more_exs e es) p =
      ap (λ c. if c && is_parted (type_of e g) then Some (k, e) else first_picked g (suc k) es) p.0 ∙ none-picked (suc k) es p.1

  no-pick : (any : Bool) (k : ℕ) (es : Exs) → PickNothing es → first_pick any g k es ≡ None
  no-pick any k no_exs p = refl
  no-pick any k (more_exs e es) p =
      ap (λ c. if c && (any || is_compound_ty (type_of e g)) then Some (k, e) else first_pick any g (suc k) es) p.0
      ∙ no-pick any (suc k) es p.1

  -- The rules of what operands pick don't fire.
  pub no-kind : (b : Bool) (op : Op) (es : Exs) → PickNothing es → over_picked s g (node_ex b op es) ≡ None
  no-kind b op es p =
      ap (λ o. and_then o (λ q. and_then (looked_up g s.third (s.other ∷ s.parts) q.1) (λ l. select_each s.one q.0 l (node_ex b op es))))
      (none-picked 1 es p)

  pub no-open : (b : Bool) (op : Op) (es : Exs) → PickNothing es → over_a_pick s g (node_ex b op es) ≡ None
  no-open b op es p = either-way (gives_scalar g (node_ex b op es))
      (and_then (first_pick (compares_values b op) g 1 es)
      (λ q. and_then (looked_up g s.third s.parts q.1) (λ l. select_each s.one q.0 l (node_ex b op es))))
      (ap (λ o. and_then o (λ q. and_then (looked_up g s.third s.parts q.1) (λ l. select_each s.one q.0 l (node_ex b op es))))
      (no-pick (compares_values b op) 1 es p))

module _ (cells : Text → Option (Bool × ℕ)) where
  -- A bare tree picks nothing.
  pub bare-picks : {r : Names Bool} {e : Ex} {m : Bool} → Bare cells r e m → picks e ≡ false
  bare-picks number = refl
  bare-picks truth = refl
  bare-picks (named h) = refl
  bare-picks (cell h i) = refl
  bare-picks (one o f) = refl
  bare-picks (two o f h) = refl
  bare-picks (power f h) = refl
  bare-picks (chosen f) = refl
  bare-picks (folded all_hold g f) = refl
  bare-picks (folded some_holds g f) = refl
  bare-picks (added g f) = refl
  bare-picks (ordered w f h) = refl

  row-picks : {r : Names Bool} {e : Ex} {m : Bool} → Row cells r e m → picks e ≡ false
  row-picks (row g f) = refl

  -- What stands in a node of a bare tree.
  abbrev pub NodePicksNothing : Ex → Type 0
  NodePicksNothing (node_ex b op es) = PickNothing es
  NodePicksNothing e = Unit {0}

  -- So its operands pick nothing.
  pub node-picks : {r : Names Bool} {e : Ex} {m : Bool} → Bare cells r e m → NodePicksNothing e
  node-picks number = tt
  node-picks truth = tt
  node-picks (named h) = tt
  node-picks (cell h i) = tt
  node-picks (one o f) = (bare-picks f, tt)
  node-picks (two o f h) = (bare-picks f, (bare-picks h, tt))
  node-picks (power f h) = (bare-picks f, (bare-picks h, tt))
  node-picks (chosen f) = (bare-picks f, tt)
  node-picks (folded w g f) = (refl, tt)
  node-picks (added g f) = (refl, tt)
  node-picks (ordered w f h) = (row-picks f, (row-picks h, tt))

  -- Rules of what is picked don't fire at it.
  pub bare-kind : {r : Names Bool} {e : Ex} {m : Bool} → (s : Supply) (g : Names Ty) → Bare cells r e m → over_picked s g e ≡ None
  bare-kind {e = e} s g f = go e (node-picks f)
    where
      go : (e : Ex) → NodePicksNothing e → over_picked s g e ≡ None
      go (node_ex b op es) p = no-kind s g b op es p
      go e p = refl

  pub bare-open : {r : Names Bool} {e : Ex} {m : Bool} → (s : Supply) (g : Names Ty) → Bare cells r e m → over_a_pick s g e ≡ None
  bare-open {e = e} s g f = go e (node-picks f)
    where
      go : (e : Ex) → NodePicksNothing e → over_a_pick s g e ≡ None
      go (node_ex b op es) p = no-open s g b op es p
      go e p = refl

  -- ---- generators

  -- No generator runs over a source.
  pub none-open : {r t : Names Bool} {gs : Gens} → Ranging cells r gs t → at_first_open gs ≡ None
  none-open at_end = refl
  none-open (through {a = a} {d = d} truths g) = ap (option_map (with_first (over (name_pat a) d))) (none-open g)
  none-open (through {a = a} {d = d} (numbers b es) g) = ap (option_map (with_first (over (name_pat a) d))) (none-open g)
  none-open (where_holds {c = c} f g) = ap (option_map (with_first (cond c))) (none-open g)

  -- No condition stands among axes.
  pub no-condition : {r t : Names Bool} {gs : Gens} → Axes cells r gs t → at_last_condition gs ≡ None
  no-condition no_axis = refl
  no-condition (along {a = a} {d = d} n g) = ap (option_map (with_before (over (name_pat a) d))) (no-condition g)

  -- Axes are generators of bare trees.
  pub axes-ranging : {r t : Names Bool} {gs : Gens} → Axes cells r gs t → Ranging cells r gs t
  axes-ranging no_axis = at_end
  axes-ranging (along n g) = through n (axes-ranging g)
