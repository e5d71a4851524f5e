-- The steps of an index, resolved: they lead to the same type, and resolved again they stay.
use Rattle.std.proofs.Common.{◌≡◌, refl, sym, ap, ◌∙◌, ℕ, List, [], ◌∷◌, Option, Some, None}
use Rattle.ess_semantics.specs.Lists.{and_then}
use Rattle.ess_semantics.specs.Values.{Text, a_tuple, a_record}
use Rattle.ess_semantics.specs.Names.{Names}
use Rattle.ess_semantics.specs.Trees.{Step, by_value, to_component, to_field, Ex, Exs, no_exs, more_exs}
use Rattle.ess_semantics.specs.Types.{Ty, compound}
use Rattle.ess_semantics.specs.Typing.{Static, a_number, a_name, other, statics, static, step_ty, part_ty, type_behind, part_behind, path_ty, type_of, types_of}
use Rattle.ess_semantics.specs.Resolving.{step_at, steps_from, kept_indices}

-- ---- operands that are kept

-- None of none are kept.
pub kept-none : (qs rs : List Step) → kept_indices qs rs no_exs ≡ no_exs
kept-none [] rs = refl
kept-none (by_value ∷ qs) [] = refl
kept-none (to_component k ∷ qs) [] = refl
kept-none (to_field a ∷ qs) [] = refl
kept-none (by_value ∷ qs) (by_value ∷ rs) = kept-none qs rs
kept-none (by_value ∷ qs) (to_component k ∷ rs) = kept-none qs rs
kept-none (by_value ∷ qs) (to_field a ∷ rs) = kept-none qs rs
kept-none (to_component k ∷ qs) (r ∷ rs) = kept-none qs rs
kept-none (to_field a ∷ qs) (r ∷ rs) = kept-none qs rs

-- Where the steps stay all operands are kept.
pub kept-same : (qs : List Step) (es : Exs) → kept_indices qs qs es ≡ es
kept-same [] es = refl
kept-same (by_value ∷ qs) (more_exs e es) = ap (more_exs e) (kept-same qs es)
kept-same (by_value ∷ qs) no_exs = kept-none qs qs
kept-same (to_component k ∷ qs) es = kept-same qs es
kept-same (to_field a ∷ qs) es = kept-same qs es

-- ---- one step

component-step : (t : Ty) (s : Static) (k : ℕ) (u : Option Ty) → step_at (Some t) s ≡ to_component k →
    part_ty t (a_number k) ≡ step_ty t s u
component-step (compound a_tuple ts) (a_number m) k u e = let f : m ≡ k = cc in
    ap (λ i. part_ty (compound a_tuple ts) (a_number i)) (sym f)
component-step (compound (a_record fs) ts) (a_number m) k u e = cc
component-step (compound (a_record fs) ts) (a_name b) k u e = cc
component-step (compound (a_record fs) ts) other k u e = cc
component-step _ s k u e = cc

field-step : (t : Ty) (s : Static) (a : Text) (u : Option Ty) → step_at (Some t) s ≡ to_field a → part_ty t (a_name a) ≡ step_ty t s u
field-step (compound (a_record fs) ts) (a_name b) a u e = let f : b ≡ a = cc in
    ap (λ i. part_ty (compound (a_record fs) ts) (a_name i)) (sym f)
field-step (compound a_tuple ts) (a_number m) a u e = cc
field-step (compound a_tuple ts) (a_name b) a u e = cc
field-step (compound a_tuple ts) other a u e = cc
field-step _ s a u e = cc

-- No step leads to a component or a field that doesn't do so again.
component-again : (t : Option Ty) (s : Static) (k : ℕ) (u : Option Ty) → step_at t s ≡ to_component k →
    part_behind t (a_number k) ≡ type_behind t s u
component-again None s k u e = cc
component-again (Some t) s k u e = component-step t s k u e

field-again : (t : Option Ty) (s : Static) (a : Text) (u : Option Ty) → step_at t s ≡ to_field a →
    part_behind t (a_name a) ≡ type_behind t s u
field-again None s a u e = cc
field-again (Some t) s a u e = field-step t s a u e

-- ---- all steps, where operands say what they say and have the types that they have under g

module _ (g : Names Ty) where
  -- The steps of an index from a place of this type, resolved.
  abbrev pub resolved_from : Option Ty → List Step → Exs → List Step
  resolved_from t qs es = steps_from t qs (statics es) (types_of es g)

  -- The type behind steps from a place of this type.
  abbrev pub type_at : Option Ty → List Step → Exs → Option Ty
  type_at t qs es = and_then t (λ u. path_ty u qs (statics es) (types_of es g))

  value-type : (t : Option Ty) (qs : List Step) (e : Ex) (es : Exs) →
      type_at t (by_value ∷ qs) (more_exs e es) ≡ type_at (type_behind t (static e) (type_of e g)) qs es
  value-type None qs e es = refl
  value-type (Some t) qs e es = refl

  component-type : (t : Option Ty) (k : ℕ) (qs : List Step) (es : Exs) →
      type_at t (to_component k ∷ qs) es ≡ type_at (part_behind t (a_number k)) qs es
  component-type None k qs es = refl
  component-type (Some t) k qs es = refl

  field-type : (t : Option Ty) (a : Text) (qs : List Step) (es : Exs) →
      type_at t (to_field a ∷ qs) es ≡ type_at (part_behind t (a_name a)) qs es
  field-type None a qs es = refl
  field-type (Some t) a qs es = refl

  -- The place behind the first step, and the steps from there.
  abbrev pub Behind : Option Ty → Ex → Option Ty
  Behind t e = type_behind t (static e) (type_of e g)

  abbrev pub rest_of : Option Ty → List Step → Ex → Exs → List Step
  rest_of t qs e es = resolved_from (Behind t e) qs es

  one-type : (t : Option Ty) (qs : List Step) (e : Ex) (es : Exs) →
      type_at (Behind t e) (rest_of t qs e es) (kept_indices qs (rest_of t qs e es) es) ≡ type_at (Behind t e) qs es →
      (r : Step) → step_at t (static e) ≡ r →
      type_at t (r ∷ rest_of t qs e es) (kept_indices (by_value ∷ qs) (r ∷ rest_of t qs e es) (more_exs e es)) ≡ type_at t
      (by_value ∷ qs) (more_exs e es)
  one-type t qs e es ih by_value q = value-type t (rest_of t qs e es) e (kept_indices qs (rest_of t qs e es) es) ∙ ih
      ∙ sym (value-type t qs e es)
  one-type t qs e es ih (to_component k) q =
      component-type t k (rest_of t qs e es) (kept_indices qs (rest_of t qs e es) es)
      ∙ ap (λ u. type_at u (rest_of t qs e es) (kept_indices qs (rest_of t qs e es) es)) (component-again t (static e) k (type_of e g) q)
      ∙ ih ∙ sym (value-type t qs e es)
  one-type t qs e es ih (to_field a) q =
      field-type t a (rest_of t qs e es) (kept_indices qs (rest_of t qs e es) es)
      ∙ ap (λ u. type_at u (rest_of t qs e es) (kept_indices qs (rest_of t qs e es) es)) (field-again t (static e) a (type_of e g) q) ∙ ih
      ∙ sym (value-type t qs e es)

  -- Resolved, the steps lead to the same type.
  pub steps-type : (t : Option Ty) (qs : List Step) (es : Exs) →
      type_at t (resolved_from t qs es) (kept_indices qs (resolved_from t qs es) es) ≡ type_at t qs es
  steps-type t [] es = refl
  steps-type t (by_value ∷ qs) no_exs = ap (type_at t (by_value ∷ qs)) (kept-none qs qs)
  steps-type t (by_value ∷ qs) (more_exs e es) = one-type t qs e es (steps-type (Behind t e) qs es) (step_at t (static e)) refl
  steps-type t (to_component k ∷ qs) es =
      component-type t k (resolved_from (part_behind t (a_number k)) qs es)
      (kept_indices qs (resolved_from (part_behind t (a_number k)) qs es) es)
      ∙ steps-type (part_behind t (a_number k)) qs es ∙ sym (component-type t k qs es)
  steps-type t (to_field a ∷ qs) es =
      field-type t a (resolved_from (part_behind t (a_name a)) qs es)
      (kept_indices qs (resolved_from (part_behind t (a_name a)) qs es) es)
      ∙ steps-type (part_behind t (a_name a)) qs es ∙ sym (field-type t a qs es)

  one-again : (t : Option Ty) (qs : List Step) (e : Ex) (es : Exs) →
      resolved_from (Behind t e) (rest_of t qs e es) (kept_indices qs (rest_of t qs e es) es) ≡ rest_of t qs e es →
      (r : Step) → step_at t (static e) ≡ r →
      resolved_from t (r ∷ rest_of t qs e es) (kept_indices (by_value ∷ qs) (r ∷ rest_of t qs e es) (more_exs e es))
      ≡ r ∷ rest_of t qs e es
  one-again t qs e es ih by_value q =
      ap (λ r. r ∷ resolved_from (Behind t e) (rest_of t qs e es) (kept_indices qs (rest_of t qs e es) es)) q ∙ ap (λ rs. by_value ∷ rs) ih
  one-again t qs e es ih (to_component k) q =
      ap (λ u. to_component k ∷ resolved_from u (rest_of t qs e es) (kept_indices qs (rest_of t qs e es) es))
      (component-again t (static e) k (type_of e g) q)
      ∙ ap (λ rs. to_component k ∷ rs) ih
  one-again t qs e es ih (to_field a) q =
      ap (λ u. to_field a ∷ resolved_from u (rest_of t qs e es) (kept_indices qs (rest_of t qs e es) es))
      (field-again t (static e) a (type_of e g) q)
      ∙ ap (λ rs. to_field a ∷ rs) ih

  -- Resolved again they stay.
  pub steps-again : (t : Option Ty) (qs : List Step) (es : Exs) →
      resolved_from t (resolved_from t qs es) (kept_indices qs (resolved_from t qs es) es) ≡ resolved_from t qs es
  steps-again t [] es = refl
  steps-again t (by_value ∷ qs) no_exs = ap (resolved_from t (by_value ∷ qs)) (kept-none qs qs)
  steps-again t (by_value ∷ qs) (more_exs e es) = one-again t qs e es (steps-again (Behind t e) qs es) (step_at t (static e)) refl
  steps-again t (to_component k ∷ qs) es = ap (λ rs. to_component k ∷ rs) (steps-again (part_behind t (a_number k)) qs es)
  steps-again t (to_field a ∷ qs) es = ap (λ rs. to_field a ∷ rs) (steps-again (part_behind t (a_name a)) qs es)
