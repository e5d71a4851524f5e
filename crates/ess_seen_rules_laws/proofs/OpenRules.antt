-- Of the rules of sources at the first generator that isn't plain, of what is picked, of relations applied and of several steps only those
-- that are told fire at the root of a tree over views.
use Rattle.std.proofs.Common.{◌≡◌, refl, ap, ℕ, Bool, false, List, Option, Some, None, option_map}
use Rattle.ess_semantics.specs.declared.words.Fun.{Fun}
use Rattle.ess_semantics.specs.Lists.{and_then}
use Rattle.ess_semantics.specs.Values.{Text}
use Rattle.ess_semantics.specs.Names.{Names}
use Rattle.ess_semantics.specs.Trees.{Ex, comp_ex, fun1, Gens}
use Rattle.ess_semantics.specs.Types.{Ty}
use Rattle.ess_rules_laws.specs.SpliceRules.{append_gens}
use Rattle.ess_refine_laws.specs.AllRules.{Supply}
use Rattle.ess_open_rules_laws.specs.OpenGenerators.{Opened, at_first_open}
use Rattle.ess_open_rules_laws.specs.OpenSources.{forgets_repeats, loose_source, seen_loosely}
use Rattle.ess_open_rules_laws.specs.OpenRules.{OpenRule, open_rewrite, step_by_step, of_a_pick, without_repeats}
use Rattle.ess_flat_laws.specs.Flat.{denied, negative, absolute, both, either, implied, agreeing, equal, unequal, below, at_most, above, at_least, sum, difference, product}
use Rattle.ess_seen_laws.specs.ess_bare_laws.Lean.{FoldWord, of_all, of_some, of_sum}
use Rattle.ess_seen_laws.proofs.ess_bare_laws.Picks.{either-way}
use Rattle.ess_seen_laws.specs.Seen.{Bound, alike, apart, included, properly_included, including, properly_including, so_many, from_to, from_0, subsets, none_below, view, drawn, combined, Seen, number, truth, named, counted, figure, flag, atom, one, two, chosen, folded, of_items, size, within, set_within, compared, Going, at_end, through, through_slots, among, where_holds}
use Rattle.ess_seen_laws.specs.MayFire.{may_fire_at_sources}
use Rattle.ess_seen_rules_laws.proofs.Allowed.{Allowed, allowed-none}
use Rattle.ess_seen_rules_laws.proofs.Picks.{operands-pick, picks-no-open}
use Rattle.ess_seen_rules_laws.proofs.Sources.{OpensAtSet, opens-at-set, not-loose}

-- An answer that may be, but of the rules that are looked at by themselves.
abbrev Told : OpenRule → Option Ex → Type 0
Told of_a_pick o = Unit {0}
Told without_repeats o = Unit {0}
Told u o = Allowed (may_fire_at_sources u) o

-- At words of comprehensions whose first source is a set.
loosely : (m : Bool) (f : Fun) (e : Ex) (gs : Gens) → OpensAtSet (at_first_open gs) → seen_loosely (fun1 m f (comp_ex e gs)) ≡ None
loosely m f e gs h = either-way (forgets_repeats m f) _ (go (at_first_open gs) h)
  where
    go : (o : Option Opened) → OpensAtSet o →
        and_then o (λ t. option_map (λ hs. fun1 m f (comp_ex e (append_gens t.before hs))) (loose_source t.after)) ≡ None
    go None h = refl
    go (Some t) h = ap (option_map (λ hs. fun1 m f (comp_ex e (append_gens t.before hs)))) (not-loose t.after h)

module _ (cells : Text → Option (Bool × List ℕ)) (s : Supply) (g : Names Ty) (r : Names Bound) where
  abbrev F : Ex → Bool → Type 0
  F = Seen cells r

  abbrev A : Ex → OpenRule → Type 0
  A e u = Told u (open_rewrite s g u e)

  -- At `toInt`.
  at-chosen : {x : Ex} {m : Bool} → F x m → (u : OpenRule) → A (fun1 false Fun.ToInt x) u
  at-chosen number step_by_step = tt
  at-chosen truth step_by_step = tt
  at-chosen (named h k) step_by_step = tt
  at-chosen (figure h i) step_by_step = tt
  at-chosen (flag h i) step_by_step = tt
  at-chosen (atom h p) step_by_step = tt
  at-chosen (one o f) step_by_step = tt
  at-chosen (two o f h) step_by_step = tt
  at-chosen (chosen f) step_by_step = tt
  at-chosen (folded w k f) step_by_step = tt
  at-chosen (counted so_many) step_by_step = tt
  at-chosen (counted (from_to q)) step_by_step = tt
  at-chosen (counted from_0) step_by_step = tt
  at-chosen (counted (subsets t)) step_by_step = tt
  at-chosen (counted (none_below t)) step_by_step = tt
  at-chosen (of_items w l) step_by_step = tt
  at-chosen (size h) step_by_step = tt
  at-chosen (within f h) step_by_step = tt
  at-chosen (set_within h k) step_by_step = tt
  at-chosen (compared o h k) step_by_step = tt
  at-chosen f u = tt

  -- At a fold.
  at-fold : {t : Names Bound} {m : Bool} {w : Fun} {gs : Gens} (e : Ex) → FoldWord m w → Going cells r gs t → (u : OpenRule) →
      A (fun1 m w (comp_ex e gs)) u
  at-fold e of_all at_end step_by_step = tt
  at-fold e of_all (through n k) step_by_step = tt
  at-fold e of_all (through_slots c k) step_by_step = tt
  at-fold e of_all (among (view a b c d) k) step_by_step = tt
  at-fold e of_all (among (drawn h) k) step_by_step = tt
  at-fold e of_all (among (combined o h l) k) step_by_step = tt
  at-fold e of_all (where_holds f k) step_by_step = tt
  at-fold e of_some at_end step_by_step = tt
  at-fold e of_some (through n k) step_by_step = tt
  at-fold e of_some (through_slots c k) step_by_step = tt
  at-fold e of_some (among (view a b c d) k) step_by_step = tt
  at-fold e of_some (among (drawn h) k) step_by_step = tt
  at-fold e of_some (among (combined o h l) k) step_by_step = tt
  at-fold e of_some (where_holds f k) step_by_step = tt
  at-fold e of_sum at_end step_by_step = tt
  at-fold e of_sum (through n k) step_by_step = tt
  at-fold e of_sum (through_slots c k) step_by_step = tt
  at-fold e of_sum (among (view a b c d) k) step_by_step = tt
  at-fold e of_sum (among (drawn h) k) step_by_step = tt
  at-fold e of_sum (among (combined o h l) k) step_by_step = tt
  at-fold e of_sum (where_holds f k) step_by_step = tt
  at-fold e w k u = tt

  at-root : {e : Ex} {m : Bool} → F e m → (u : OpenRule) → A e u
  at-root number step_by_step = tt
  at-root truth step_by_step = tt
  at-root (named h k) step_by_step = tt
  at-root (figure h i) step_by_step = tt
  at-root (flag h i) step_by_step = tt
  at-root (atom h p) step_by_step = tt
  at-root (one denied f) step_by_step = tt
  at-root (one negative f) step_by_step = tt
  at-root (one absolute f) step_by_step = tt
  at-root (two both f h) step_by_step = tt
  at-root (two either f h) step_by_step = tt
  at-root (two implied f h) step_by_step = tt
  at-root (two agreeing f h) step_by_step = tt
  at-root (two equal f h) step_by_step = tt
  at-root (two unequal f h) step_by_step = tt
  at-root (two below f h) step_by_step = tt
  at-root (two at_most f h) step_by_step = tt
  at-root (two above f h) step_by_step = tt
  at-root (two at_least f h) step_by_step = tt
  at-root (two sum f h) step_by_step = tt
  at-root (two difference f h) step_by_step = tt
  at-root (two product f h) step_by_step = tt
  at-root (chosen f) u = at-chosen f u
  at-root (folded {e = e} w k f) u = at-fold e w k u
  at-root (counted so_many) step_by_step = tt
  at-root (counted (from_to q)) step_by_step = tt
  at-root (counted from_0) step_by_step = tt
  at-root (counted (subsets t)) step_by_step = tt
  at-root (counted (none_below t)) step_by_step = tt
  at-root (of_items of_all l) step_by_step = tt
  at-root (of_items of_some l) step_by_step = tt
  at-root (of_items of_sum l) step_by_step = tt
  at-root (size h) step_by_step = tt
  at-root (within f h) step_by_step = tt
  at-root (set_within h k) step_by_step = tt
  at-root (compared alike h k) step_by_step = tt
  at-root (compared apart h k) step_by_step = tt
  at-root (compared included h k) step_by_step = tt
  at-root (compared properly_included h k) step_by_step = tt
  at-root (compared including h k) step_by_step = tt
  at-root (compared properly_including h k) step_by_step = tt
  at-root f u = tt

  -- No source is made of another container.
  chosen-loose : {x : Ex} {m : Bool} → F x m → seen_loosely (fun1 false Fun.ToInt x) ≡ None
  chosen-loose number = refl
  chosen-loose truth = refl
  chosen-loose (named h k) = refl
  chosen-loose (figure h i) = refl
  chosen-loose (flag h i) = refl
  chosen-loose (atom h p) = refl
  chosen-loose (one o f) = refl
  chosen-loose (two o f h) = refl
  chosen-loose (chosen f) = refl
  chosen-loose (folded w k f) = refl
  chosen-loose (counted so_many) = refl
  chosen-loose (counted (from_to q)) = refl
  chosen-loose (counted from_0) = refl
  chosen-loose (counted (subsets t)) = refl
  chosen-loose (counted (none_below t)) = refl
  chosen-loose (of_items w l) = refl
  chosen-loose (size h) = refl
  chosen-loose (within f h) = refl
  chosen-loose (set_within h k) = refl
  chosen-loose (compared o h k) = refl

  no-loose : {e : Ex} {m : Bool} → F e m → seen_loosely e ≡ None
  no-loose (chosen f) = chosen-loose f
  no-loose (folded {m = m} {f = f} {e = e} {gs = gs} w k h) = loosely m f e gs (opens-at-set cells k)
  no-loose (counted so_many) = refl
  no-loose (counted (from_to q)) = refl
  no-loose (counted from_0) = refl
  no-loose (counted (subsets t)) = refl
  no-loose (counted (none_below t)) = refl
  no-loose f = refl

  -- What each answers.
  pub open-allowed : {e : Ex} {m : Bool} → F e m → (u : OpenRule) → Allowed (may_fire_at_sources u) (open_rewrite s g u e)
  open-allowed {e} f of_a_pick = allowed-none false _ (picks-no-open s g e (operands-pick cells r f))
  open-allowed f without_repeats = allowed-none false _ (no-loose f)
  open-allowed f u = at-root f u
