-- The env behind all statements, one statement after the other.
use Rattle.std.proofs.Common.{◌≡◌, refl, sym, ap, ◌∙◌, ℕ, suc, ◌+◌, ◌<◌, ◌≤◌, Bool, true, false, ◌||◌, List, [], ◌∷◌, map, drop, length, get_or}
use Rattle.std.specs.List.{list_any}
use Rattle.std.proofs.lemmas.List.{at_drop_more, at_drop_all}
use Rattle.ess_semantics.specs.Trees as pure
use Rattle.ess_semantics.specs.Meaning.{Env, empty_env}
use Rattle.ess_semantics.specs.Prepared.{prepared}
use Rattle.ess_semantics.specs.Assignments.{Assignment, nothing_given, env_after, env_behind, env_of, placed_from}
use Rattle.ess_semantics.specs.LargeSpecifications.{declares_large_number, parameter_is_large}
use Rattle.ess_core.specs.declared.statements.Stm.{Stm}
use Rattle.ess_core.specs.StatementViews.{pure_stm}
use Rattle.ess_translate_env.specs.Behind.{declare_large, behind_all, large_in}

-- ---- the whole specification

pub whole_env : (stms : List Stm) (p a : Assignment) (env : Env) → a ≡ nothing_given → env ≡ behind_all stms p a →
    (S : List pure.Stm) → map pure_stm stms ≡ prepared S → env ≡ env_of S p nothing_given
whole_env stms p a env e h S q = h ∙ ap (behind_all stms p) e ∙ ap (λ T. env_behind T p nothing_given empty_env) q

placed-large : (T : List pure.Stm) (k : ℕ) (p a : Assignment) (env : Env) →
    list_any (λ l. declares_large_number l.stm l.env) (placed_from k T p a env) ≡ declare_large T p a env
placed-large [] k p a env = refl
placed-large (s ∷ T) k p a env = ap (λ b. declares_large_number s env || b) (placed-large T (suc k) p a (env_after s p a env))

pub whole_large : (stms : List Stm) (p a : Assignment) → a ≡ nothing_given → large_in stms p a ≡ true →
    (S : List pure.Stm) → map pure_stm stms ≡ prepared S → parameter_is_large S p ≡ true
whole_large stms p a e h S q =
    placed-large (prepared S) 1 p nothing_given empty_env ∙ ap (λ T. declare_large T p nothing_given empty_env) (sym q)
    ∙ ap (large_in stms p) (sym e) ∙ h

-- ---- statement by statement

-- The env behind the statements from an index on.
abbrev pub behind_from : List Stm → ℕ → Assignment → Assignment → Env → Env
behind_from stms i p a env = env_behind (map pure_stm (drop i stms)) p a env

-- Whether one from an index on declares a number outside 64 bits.
abbrev pub large_from : List Stm → ℕ → Assignment → Assignment → Env → Bool
large_from stms i p a env = declare_large (map pure_stm (drop i stms)) p a env

-- What holds of the env on the way.
pub record IsOnWay (stms : List Stm) (i : ℕ) (p a : Assignment) (env : Env) : Type 0 where
  pub left : behind_from stms i p a env ≡ behind_all stms p a
  pub large : large_from stms i p a env ≡ true → large_in stms p a ≡ true

pub way_none : (stms : List Stm) (p a : Assignment) (env : Env) → env ≡ empty_env → IsOnWay stms 0 p a env
way_none stms p a env e = record { left = ap (λ x. behind_from stms 0 p a x) e; large = λ h. ap (λ x. large_from stms 0 p a x) (sym e) ∙ h }

or-later : (b c : Bool) → c ≡ true → (b || c) ≡ true
or-later true c h = refl
or-later false c h = h

pub way_more : (stms : List Stm) (i : ℕ) (s : Stm) (p a : Assignment) (env new : Env) → i < length stms → s ≡ get_or stms i s →
    new ≡ env_after (pure_stm s) p a env → IsOnWay stms i p a env → IsOnWay stms (i + 1) p a new
way_more stms i s p a env new h is e w = record {
  left = ap (λ x. behind_from stms (i + 1) p a x) e ∙ ap (λ t. behind_from stms (i + 1) p a (env_after (pure_stm t) p a env)) is
      ∙ sym (at_drop_more (λ l. env_behind (map pure_stm l) p a env) stms i s h) ∙ w.left;
  large = λ k. w.large (at_drop_more (λ l. declare_large (map pure_stm l) p a env) stms i s h
      ∙ or-later (declares_large_number (pure_stm (get_or stms i s)) env) (large_from stms (i + 1) p a (env_after (pure_stm (get_or stms i s)) p a env))
      (ap (λ t. large_from stms (i + 1) p a (env_after (pure_stm t) p a env)) (sym is) ∙ ap (λ x. large_from stms (i + 1) p a x) (sym e) ∙ k));
}

pub way_large : (stms : List Stm) (i : ℕ) (s : Stm) (p a : Assignment) (env : Env) → i < length stms → s ≡ get_or stms i s →
    declares_large_number (pure_stm s) env ≡ true → IsOnWay stms i p a env → large_in stms p a ≡ true
way_large stms i s p a env h is k w =
    w.large (at_drop_more (λ l. declare_large (map pure_stm l) p a env) stms i s h
    ∙ ap (λ b. b || large_from stms (i + 1) p a (env_after (pure_stm (get_or stms i s)) p a env))
    (ap (λ t. declares_large_number (pure_stm t) env) (sym is) ∙ k))

pub way_all : (stms : List Stm) (i : ℕ) (p a : Assignment) (env : Env) → length stms ≤ i → IsOnWay stms i p a env → env ≡ behind_all stms p a
way_all stms i p a env h w = sym (at_drop_all (λ l. env_behind (map pure_stm l) p a env) stms i h) ∙ w.left

-- The walk over the statements.
pub ruleset env_walk = (way_none, way_more, way_large, way_all)
