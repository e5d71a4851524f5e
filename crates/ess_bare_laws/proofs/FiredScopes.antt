-- What a rule makes of a bare tree keeps scopes.
use Rattle.std.proofs.Common.{subst, ℕ, zero, suc, Bool, true, false, ◌&&◌, if◌then◌else◌, pos, Option, Some, None}
use Rattle.ess_semantics.specs.declared.words.Op2.{Op2}
use Rattle.ess_semantics.specs.declared.words.Fun.{Fun}
use Rattle.ess_semantics.specs.Values.{Text}
use Rattle.ess_semantics.specs.Names.{Names}
use Rattle.ess_semantics.specs.Refined.{is_refined, are_refined_gens}
use Rattle.ess_semantics.specs.Scoped.{with_names, Scoped, ScopedGens}
use Rattle.ess_semantics.specs.Trees.{Ex, number_ex, comp_ex, ex2, fun1, Gens, no_gens, over, from, cond}
use Rattle.ess_rules_laws.specs.ChoiceRules.{choice_shorter}
use Rattle.ess_rules_laws.specs.FoldRules.{fold_alone, fold_bare}
use Rattle.ess_rules_laws.specs.SourceRules.{is_marked}
use Rattle.ess_rules_laws.specs.SpliceRules.{append_gens}
use Rattle.ess_refine_laws.specs.LeavingConditions.{Parted, at_last_condition, under_condition, condition_leaves}
use Rattle.ess_refine_laws.proofs.LeavingConditions.{MakesUp, made-up}
use Rattle.ess_flat_laws.specs.Flat.{denied, both}
use Rattle.ess_bare_laws.specs.Bare.{before, Bare, truth, named, cell, one, two, folded, ordered}
use Rattle.ess_bare_laws.specs.Fires.{Fires, without_generators, over_one_condition, as_a_condition_leaves, as_one_choice}

module _ (z : Text → Bool) where
  -- What is in scope behind generators.
  gens-map : (gs : Gens) (K L : (Text → Bool) → (Text → Bool) → Type 0) → ((u i : Text → Bool) → K u i → L u i) →
      (s o : Text → Bool) → ScopedGens z s o gs K → ScopedGens z s o gs L
  gens-map no_gens K L f s o h = f s o h
  gens-map (over p d gs) K L f s o h = (h.0, h.1, gens-map gs K L f (with_names s p) (with_names o p) h.2)
  gens-map (from p e gs) K L f s o h = (h.0, h.1, gens-map gs K L f (with_names s p) o h.2)
  gens-map (cond e gs) K L f s o h = (h.0, gens-map gs K L f s o h.1)

  -- Behind the first generators are the others.
  behind-first : (gs hs : Gens) (K : (Text → Bool) → (Text → Bool) → Type 0) (s o : Text → Bool) → ScopedGens z s o (append_gens gs hs) K →
      ScopedGens z s o gs (λ u i. ScopedGens z u i hs K)
  behind-first no_gens hs K s o h = h
  behind-first (over p d gs) hs K s o h = (h.0, h.1, behind-first gs hs K (with_names s p) (with_names o p) h.2)
  behind-first (from p e gs) hs K s o h = (h.0, h.1, behind-first gs hs K (with_names s p) o h.2)
  behind-first (cond e gs) hs K s o h = (h.0, behind-first gs hs K s o h.1)

  module _ (s o : Text → Bool) where
    -- What is made is in scope.
    abbrev InScope : Option Ex → Type 0
    InScope None = Unit {0}
    InScope (Some f) = Scoped z s o f

    without : (e : Ex) → Scoped z s o e → InScope (fold_bare e)
    without (fun1 true Fun.And (comp_ex e no_gens)) h = h.0
    without (fun1 true Fun.Or (comp_ex e no_gens)) h = h.0
    without (fun1 false Fun.Sum (comp_ex e no_gens)) h = h.0
    without (fun1 false Fun.Product (comp_ex e no_gens)) h = h.0
    without _ h = tt

    alone : (e : Ex) → Scoped z s o e → InScope (fold_alone e)
    alone (fun1 true Fun.And (comp_ex e (cond c no_gens))) h = (h.0.0, (h.0.1, tt))
    alone (fun1 true Fun.Or (comp_ex e (cond c no_gens))) h = (h.0.0, (h.0.1, tt))
    alone _ h = tt

    shorter : (e : Ex) → Scoped z s o e → InScope (choice_shorter e)
    shorter (ex2 false Op2.Times (fun1 false Fun.ToInt c) (fun1 false Fun.ToInt d)) h = ((h.0.0, (h.1.0.0, tt)), tt)
    shorter (ex2 false Op2.Times (fun1 false Fun.ToInt c) (number_ex (pos (suc zero)))) h = h.0
    shorter _ h = tt

    either-way : (b : Bool) (f : Ex) → Scoped z s o f → InScope (if b then Some f else None)
    either-way true f h = h
    either-way false f h = tt

    leaves-fold : (w : Fun) (e : Ex) (gs : Gens) → ScopedGens z s o gs (λ u i. Scoped z u i e) → (p : Option Parted) → MakesUp p gs →
        InScope (elim p [
          | None ↦ None
          | Some t ↦ if is_marked true w && (is_refined t.condition && (is_refined e && are_refined_gens t.after))
              then Some (fun1 true w (comp_ex (under_condition w t.condition (fun1 true w (comp_ex e t.after))) t.before)) else None
        ])
    leaves-fold w e gs h None m = tt
    leaves-fold Fun.And e gs h (Some t) m =
        either-way (is_refined t.condition && (is_refined e && are_refined_gens t.after))
        (fun1 true Fun.And (comp_ex (under_condition Fun.And t.condition (fun1 true Fun.And (comp_ex e t.after))) t.before)) (
          gens-map t.before _ _ (λ u i k. (k.0, ((k.1, tt), tt))) s o (behind-first t.before (cond t.condition t.after) _ s o
              (subst (λ x. ScopedGens z s o x (λ u i. Scoped z u i e)) m h)),
          tt,
        )
    leaves-fold Fun.Or e gs h (Some t) m =
        either-way (is_refined t.condition && (is_refined e && are_refined_gens t.after))
        (fun1 true Fun.Or (comp_ex (under_condition Fun.Or t.condition (fun1 true Fun.Or (comp_ex e t.after))) t.before)) (
          gens-map t.before _ _ (λ u i k. (k.0, ((k.1, tt), tt))) s o (behind-first t.before (cond t.condition t.after) _ s o
              (subst (λ x. ScopedGens z s o x (λ u i. Scoped z u i e)) m h)),
          tt,
        )
    leaves-fold w e gs h (Some t) m = tt

    leaves : {cells : Text → Option (Bool × ℕ)} {r : Names Bool} {e : Ex} → Bare cells r e true → Scoped z s o e →
        InScope (condition_leaves e)
    leaves truth h = tt
    leaves (named q) h = tt
    leaves (cell q i) h = tt
    leaves (one denied f) h = tt
    leaves (two both f k) h = tt
    leaves (folded {f = w} {e = e} {gs = gs} v k f) h = leaves-fold w e gs h.0 (at_last_condition gs) (made-up gs)
    leaves (ordered before f k) h = tt
    leaves f h = tt

-- Scopes are kept.
pub fired-scoped : (cells : Text → Option (Bool × ℕ)) (r : Names Bool) (e f : Ex) (m : Bool) → Bare cells r e m → Fires e f m →
    (z s o : Text → Bool) → Scoped z s o e → Scoped z s o f
fired-scoped cells r e f m b (without_generators q) z s o h = subst (λ x. InScope z s o x) q (without z s o e h)
fired-scoped cells r e f m b (over_one_condition q) z s o h = subst (λ x. InScope z s o x) q (alone z s o e h)
fired-scoped cells r e f m b (as_a_condition_leaves q) z s o h = subst (λ x. InScope z s o x) q (leaves z s o b h)
fired-scoped cells r e f m b (as_one_choice q) z s o h = subst (λ x. InScope z s o x) q (shorter z s o e h)
