-- What the rules that read no kind make of a tree over views is one with the same mark.
use Rattle.std.proofs.Common.{◌≡◌, refl, sym, ap, subst, ℕ, Bool, true, false, ◌&&◌, if◌then◌else◌, List, ◌∷◌, Option, Some, None, option_map}
use Rattle.ess_semantics.specs.declared.words.Fun.{Fun}
use Rattle.ess_semantics.specs.Values.{Text}
use Rattle.ess_semantics.specs.Names.{Names}
use Rattle.ess_semantics.specs.Occurrences.{has_cells}
use Rattle.ess_semantics.specs.Refined.{is_refined, are_refined_gens}
use Rattle.ess_semantics.specs.Trees.{name_pat, Ex, Exs, comp_ex, fun1, Gens, no_gens, over, from, cond}
use Rattle.ess_semantics.proofs.Tests.{and-right}
use Rattle.ess_rules_laws.specs.FoldRules.{fold_alone, fold_bare, fold_one}
use Rattle.ess_rules_laws.specs.SourceRules.{is_marked, list_of}
use Rattle.ess_rules_laws.specs.SlotListings.{slots_dom}
use Rattle.ess_refine_laws.specs.Everywhere.{everywhere}
use Rattle.ess_refine_laws.specs.LeavingConditions.{Parted, with_before, at_last_condition, under_condition, condition_leaves}
use Rattle.ess_flat_laws.specs.Flat.{denied, both, implied, product}
use Rattle.ess_seen_laws.specs.ess_bare_laws.Lean.{FoldWord, of_all, of_some, of_sum}
use Rattle.ess_seen_laws.specs.Seen.{Bound, over_a_range, over_slots, from_a_set, so_many, Seen, number, one, two, counted, chosen, folded, of_items, Listed, last_item, item_before, Going, at_end, through, through_slots, among, where_holds}

-- In the place of a refined number the one that is there everywhere is a tree over views.
abbrev pub StayEverywhere : (Text → Option (Bool × List ℕ)) → Type 0
StayEverywhere cells =
    (r : Names Bound) (e : Ex) → Seen cells r e false → is_refined e ≡ true → Seen cells r (everywhere e) false

-- A sum of what is refined is refined.
refined-sum : (e : Ex) (gs : Gens) → is_refined e && are_refined_gens gs ≡ true → is_refined (fun1 false Fun.Sum (comp_ex e gs)) ≡ true
refined-sum e gs h = ap (λ b. b && true) h

module _ (cells : Text → Option (Bool × List ℕ)) where
  -- What is made is a tree over views.
  abbrev pub Made : Names Bound → Bool → Option Ex → Type 0
  Made r m None = Unit {0}
  Made r m (Some f) = Seen cells r f m

  -- What is made under a condition is one, and so is what isn't made.
  pub made-either : {r : Names Bound} {m : Bool} (b : Bool) (f : Ex) → Seen cells r f m → Made r m (if b then Some f else None)
  made-either true f h = h
  made-either false f h = tt

  -- So it is where it is one because of the condition.
  made-when : {r : Names Bound} {m : Bool} (b : Bool) (f : Ex) → (b ≡ true → Seen cells r f m) → Made r m (if b then Some f else None)
  made-when true f h = h refl
  made-when false f h = tt

  -- Nothing is made.
  pub made-none : (r : Names Bound) (m : Bool) (o : Option Ex) → o ≡ None → Made r m o
  made-none r m o q = subst (Made r m) (sym q) tt

  -- ---- folds

  -- Of a list of one item that item is left; of longer ones nothing is made.
  of-items : {r : Names Bound} {m : Bool} {w : Fun} {es : Exs} → FoldWord m w → Listed cells r es m →
      Made r m (fold_one (fun1 m w (list_of es)))
  of-items of_all (last_item f) = f
  of-items of_all (item_before f (last_item g)) = tt
  of-items of_all (item_before f (item_before g l)) = tt
  of-items of_some (last_item f) = f
  of-items of_some (item_before f (last_item g)) = tt
  of-items of_some (item_before f (item_before g l)) = tt
  of-items of_sum (last_item f) = f
  of-items of_sum (item_before f (last_item g)) = tt
  of-items of_sum (item_before f (item_before g l)) = tt

  -- So of a fold of one item its item is left.
  pub of-one : {r : Names Bound} {e : Ex} {m : Bool} → Seen cells r e m → Made r m (fold_one e)
  of-one (one denied f) = tt
  of-one (two both f h) = tt
  of-one (counted so_many) = tt
  of-one (folded of_all k f) = tt
  of-one (of_items w l) = of-items w l
  of-one f = tt

  -- Of a fold without generators its body.
  pub without : {r : Names Bound} {e : Ex} {m : Bool} → Seen cells r e m → Made r m (fold_bare e)
  without (one denied f) = tt
  without (two both f h) = tt
  without (counted so_many) = tt
  without (folded of_all at_end f) = f
  without (folded of_some at_end f) = f
  without (folded of_sum at_end f) = f
  without (of_items of_all l) = tt
  without f = tt

  -- A fold over a condition alone is a connective.
  pub alone : {r : Names Bound} {e : Ex} {m : Bool} → Seen cells r e m → Made r m (fold_alone e)
  alone (one denied f) = tt
  alone (two both f h) = tt
  alone (counted so_many) = tt
  alone (folded of_all (where_holds c at_end) f) = two implied c f
  alone (folded of_some (where_holds c at_end) f) = two both c f
  alone (of_items of_all l) = tt
  alone f = tt

  -- ---- a condition that leaves

  -- The parts of generators.
  abbrev PartsGo : Names Bound → Option Parted → Names Bound → Type 0
  PartsGo r None t = Unit {0}
  PartsGo r (Some p) t =
      (u : Names Bound) × Going cells r p.before u × Seen cells u p.condition true × Going cells u p.after t

  parts-go : {r t : Names Bound} {gs : Gens} → Going cells r gs t → PartsGo r (at_last_condition gs) t
  parts-go at_end = tt
  parts-go {r} {t} (through {m = m} {a = a} {d = d} {gs = gs} n k) = go (at_last_condition gs) (parts-go k)
    where
      go : (o : Option Parted) → PartsGo ((a, over_a_range m) ∷ r) o t → PartsGo r (option_map (with_before (over (name_pat a) d)) o) t
      go None p = tt
      go (Some q) p = (p.0, through n p.1, p.2, p.3)
  parts-go {r} {t} (through_slots {k = j} {a = a} {e = e} {gs = gs} c k) = go (at_last_condition gs) (parts-go k)
    where
      go : (o : Option Parted) → PartsGo ((a, over_slots j) ∷ r) o t →
          PartsGo r (option_map (with_before (over (name_pat a) (slots_dom e))) o) t
      go None p = tt
      go (Some q) p = (p.0, through_slots c p.1, p.2, p.3)
  parts-go {r} {t} (among {k = k} {a = a} {s = s} {gs = gs} h g) = go (at_last_condition gs) (parts-go g)
    where
      go : (o : Option Parted) → PartsGo ((a, from_a_set k) ∷ r) o t → PartsGo r (option_map (with_before (from (name_pat a) s)) o) t
      go None p = tt
      go (Some q) p = (p.0, among h p.1, p.2, p.3)
  parts-go {r} {t} (where_holds {c = c} {gs = gs} f k) = go (at_last_condition gs) (parts-go k)
    where
      here : (b : Bool) → PartsGo r (if b then Some (record { before = no_gens; condition = c; after = gs }) else None) t
      here true = (r, at_end, f, k)
      here false = tt

      go : (o : Option Parted) → PartsGo r o t → PartsGo r (elim o [
        | Some p ↦ Some (with_before (cond c) p)
        | None ↦ if has_cells c then Some (record { before = no_gens; condition = c; after = gs }) else None
      ]) t
      go None p = here (has_cells c)
      go (Some q) p = (p.0, where_holds f p.1, p.2, p.3)

  chosen-leaves : {r : Names Bound} {x : Ex} {m : Bool} → Seen cells r x m → Made r false (condition_leaves (fun1 false Fun.ToInt x))
  chosen-leaves number = tt
  chosen-leaves (counted so_many) = tt
  chosen-leaves f = tt

  module _ (stays : StayEverywhere cells) where
    -- Under `sum` the condition chooses a number that is there everywhere.
    leaves-fold : (r t : Names Bound) {m : Bool} {w : Fun} (e : Ex) (gs : Gens) → FoldWord m w → (o : Option Parted) → PartsGo r o t →
        Seen cells t e m → Made r m (elim o [
          | None ↦ None
          | Some p ↦ if is_marked m w && (is_refined p.condition && (is_refined e && are_refined_gens p.after))
              then Some (fun1 m w (comp_ex (under_condition w p.condition (fun1 m w (comp_ex e p.after))) p.before)) else None
        ])
    leaves-fold r t e gs v None p f = tt
    leaves-fold r t e gs of_all (Some q) p f =
        made-either (is_marked true Fun.And && (is_refined q.condition && (is_refined e && are_refined_gens q.after))) _
        (folded of_all p.1 (two implied p.2 (folded of_all p.3 f)))
    leaves-fold r t e gs of_some (Some q) p f =
        made-either (is_marked true Fun.Or && (is_refined q.condition && (is_refined e && are_refined_gens q.after))) _
        (folded of_some p.1 (two both p.2 (folded of_some p.3 f)))
    leaves-fold r t e gs of_sum (Some q) p f =
        made-when (is_marked false Fun.Sum && (is_refined q.condition && (is_refined e && are_refined_gens q.after))) _
        (λ h. folded of_sum p.1 (two product (chosen p.2)
        (stays p.0 (fun1 false Fun.Sum (comp_ex e q.after)) (folded of_sum p.3 f)
        (refined-sum e q.after (and-right (is_refined q.condition) (is_refined e && are_refined_gens q.after) h)))))

    -- So a condition leaves a fold.
    pub leaves : {r : Names Bound} {e : Ex} {m : Bool} → Seen cells r e m → Made r m (condition_leaves e)
    leaves (one denied f) = tt
    leaves (two both f h) = tt
    leaves (counted so_many) = tt
    leaves (chosen f) = chosen-leaves f
    leaves {r} (folded {t = t} {e = e} {gs = gs} w k f) = leaves-fold r t e gs w (at_last_condition gs) (parts-go k) f
    leaves f = tt
