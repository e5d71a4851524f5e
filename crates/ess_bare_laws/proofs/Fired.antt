-- What a rule makes of a bare tree is bare and has the same mark.
use Rattle.std.proofs.Common.{◌≡◌, refl, subst, ℕ, zero, suc, Bool, true, false, ◌&&◌, if◌then◌else◌, ◌∷◌, pos, Option, Some, None, option_map}
use Rattle.ess_semantics.specs.declared.words.Op2.{Op2}
use Rattle.ess_semantics.specs.declared.words.Fun.{Fun}
use Rattle.ess_semantics.specs.Values.{Text}
use Rattle.ess_semantics.specs.Names.{Names}
use Rattle.ess_semantics.specs.Occurrences.{has_cells}
use Rattle.ess_semantics.specs.Refined.{is_refined, are_refined_gens}
use Rattle.ess_semantics.specs.Trees.{name_pat, Ex, number_ex, comp_ex, ex2, fun1, Gens, no_gens, over, cond}
use Rattle.ess_rules_laws.specs.ChoiceRules.{choice_shorter}
use Rattle.ess_rules_laws.specs.FoldRules.{fold_alone, fold_bare}
use Rattle.ess_rules_laws.specs.SourceRules.{is_marked}
use Rattle.ess_refine_laws.specs.LeavingConditions.{Parted, with_before, at_last_condition, under_condition, condition_leaves}
use Rattle.ess_flat_laws.specs.Flat.{denied, both, implied, product}
use Rattle.ess_bare_laws.specs.Bare.{before, TruthWord, all_hold, some_holds, Bare, number, truth, named, cell, one, two, power, chosen, folded, added, ordered, Ranging, at_end, through, where_holds, no_axis, along}
use Rattle.ess_bare_laws.specs.Fires.{Fires, without_generators, over_one_condition, as_a_condition_leaves, as_one_choice}

module _ (cells : Text → Option (Bool × ℕ)) where
  -- What is made is bare.
  abbrev Made : Names Bool → Bool → Option Ex → Type 0
  Made r m None = Unit {0}
  Made r m (Some f) = Bare cells r f m

  without : {r : Names Bool} {e : Ex} {m : Bool} → Bare cells r e m → Made r m (fold_bare e)
  without number = tt
  without truth = tt
  without (named h) = tt
  without (cell h i) = tt
  without (one denied f) = tt
  without (two both f h) = tt
  without (power f h) = tt
  without (chosen f) = tt
  without (folded all_hold at_end f) = f
  without (folded all_hold (through n k) f) = tt
  without (folded all_hold (where_holds c k) f) = tt
  without (folded some_holds at_end f) = f
  without (folded some_holds (through n k) f) = tt
  without (folded some_holds (where_holds c k) f) = tt
  without (added no_axis f) = f
  without (added (along n k) f) = tt
  without (ordered before f h) = tt
  without f = tt

  alone : {r : Names Bool} {e : Ex} {m : Bool} → Bare cells r e m → Made r m (fold_alone e)
  alone number = tt
  alone truth = tt
  alone (named h) = tt
  alone (cell h i) = tt
  alone (one denied f) = tt
  alone (two both f h) = tt
  alone (power f h) = tt
  alone (chosen f) = tt
  alone (folded all_hold (where_holds c at_end) f) = two implied c f
  alone (folded all_hold k f) = tt
  alone (folded some_holds (where_holds c at_end) f) = two both c f
  alone (folded some_holds k f) = tt
  alone (added k f) = tt
  alone (ordered before f h) = tt
  alone f = tt

  -- ---- a condition that leaves

  -- The parts of generators are bare.
  abbrev PartsBare : Names Bool → Option Parted → Names Bool → Type 0
  PartsBare r None t = Unit {0}
  PartsBare r (Some p) t =
      (u : Names Bool) × Ranging cells r p.before u × Bare cells u p.condition true × Ranging cells u p.after t

  parts-bare : {r t : Names Bool} {gs : Gens} → Ranging cells r gs t → PartsBare r (at_last_condition gs) t
  parts-bare at_end = tt
  parts-bare {r} {t} (through {m = m} {a = a} {d = d} {gs = gs} n k) = go (at_last_condition gs) (parts-bare k)
    where
      go : (o : Option Parted) → PartsBare ((a, m) ∷ r) o t → PartsBare r (option_map (with_before (over (name_pat a) d)) o) t
      go None p = tt
      go (Some q) p = (p.0, through n p.1, p.2, p.3)
  parts-bare {r} {t} (where_holds {c = c} {gs = gs} f k) = go (at_last_condition gs) (parts-bare k)
    where
      here : (b : Bool) → PartsBare r (if b then Some (record { before = no_gens; condition = c; after = gs }) else None) t
      here true = (r, at_end, f, k)
      here false = tt

      go : (o : Option Parted) → PartsBare r o t → PartsBare r (elim o [
        | Some p ↦ Some (with_before (cond c) p)
        | None ↦ if has_cells c then Some (record { before = no_gens; condition = c; after = gs }) else None
      ]) t
      go None p = here (has_cells c)
      go (Some q) p = (p.0, where_holds f p.1, p.2, p.3)

  either-way : {r : Names Bool} (b : Bool) (f : Ex) → Bare cells r f true → Made r true (if b then Some f else None)
  either-way true f h = h
  either-way false f h = tt

  leaves-fold : (r t : Names Bool) {w : Fun} (e : Ex) (gs : Gens) → TruthWord w → (o : Option Parted) → PartsBare r o t →
      Bare cells t e true → Made r true (elim o [
        | None ↦ None
        | Some p ↦ if is_marked true w && (is_refined p.condition && (is_refined e && are_refined_gens p.after))
            then Some (fun1 true w (comp_ex (under_condition w p.condition (fun1 true w (comp_ex e p.after))) p.before)) else None
      ])
  leaves-fold r t e gs v None p f = tt
  leaves-fold r t e gs all_hold (Some q) p f =
      either-way (is_marked true Fun.And && (is_refined q.condition && (is_refined e && are_refined_gens q.after))) _
      (folded all_hold p.1 (two implied p.2 (folded all_hold p.3 f)))
  leaves-fold r t e gs some_holds (Some q) p f =
      either-way (is_marked true Fun.Or && (is_refined q.condition && (is_refined e && are_refined_gens q.after))) _
      (folded some_holds p.1 (two both p.2 (folded some_holds p.3 f)))

  leaves : {r : Names Bool} {e : Ex} → Bare cells r e true → Made r true (condition_leaves e)
  leaves truth = tt
  leaves (named h) = tt
  leaves (cell h i) = tt
  leaves (one denied f) = tt
  leaves (two both f h) = tt
  leaves {r} (folded {t = t} {e = e} {gs = gs} w k f) = leaves-fold r t e gs w (at_last_condition gs) (parts-bare k) f
  leaves (ordered before f h) = tt
  leaves f = tt

  -- ---- numbers that conditions choose

  -- A product is a number, and its factors are bare.
  pub factors : {r : Names Bool} {x y : Ex} {m : Bool} → Bare cells r (ex2 false Op2.Times x y) m →
      (m ≡ false) × Bare cells r x false × Bare cells r y false
  factors (two product f h) = (refl, f, h)

  -- The condition that chooses a number is bare.
  pub condition-of : {r : Names Bool} {c : Ex} {m : Bool} → Bare cells r (fun1 false Fun.ToInt c) m → Bare cells r c true
  condition-of (chosen f) = f

  shorter : {r : Names Bool} (e : Ex) → Bare cells r e false → Made r false (choice_shorter e)
  shorter (ex2 false Op2.Times (fun1 false Fun.ToInt c) (fun1 false Fun.ToInt d)) b =
      let p = factors b in chosen (two both (condition-of p.1) (condition-of p.2))
  shorter (ex2 false Op2.Times (fun1 false Fun.ToInt c) (number_ex (pos (suc zero)))) b = (factors b).1
  shorter _ b = tt

  -- What a rule makes of it is bare.
  pub stays-bare : (r : Names Bool) (e f : Ex) (m : Bool) → Bare cells r e m → Fires e f m → Bare cells r f m
  stays-bare r e f m b (without_generators q) = subst (λ o. Made r m o) q (without b)
  stays-bare r e f m b (over_one_condition q) = subst (λ o. Made r true o) q (alone b)
  stays-bare r e f m b (as_a_condition_leaves q) = subst (λ o. Made r true o) q (leaves b)
  stays-bare r e f m b (as_one_choice q) = subst (λ o. Made r false o) q (shorter e b)
