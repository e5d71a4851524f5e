-- The name of a type's table is that of the first plan for it.
use Rattle.std.proofs.Common.{◌≡◌, refl, sym, ap, ◌∙◌, ℕ, ◌+◌, ◌<◌, Bool, true, false, List, ◌∷◌, length, map, drop, get_or, Some, None, if◌then◌else◌}
use Rattle.std.proofs.lemmas.List.{drop_more}
use Rattle.ess_semantics.specs.Values.{Text}
use Rattle.ess_semantics.specs.Lists.{or_default, when}
use Rattle.ess_semantics.specs.Order.{same_text}
use Rattle.ess_semantics.specs.Plans as pure
use Rattle.ess_semantics.specs.Plans.{size_plan, value_plan}
use Rattle.conjure_laws.specs.ModelsOfSets.{size_name}
use Rattle.ess_translate_plans.specs.declared.plans.Plan.{Plan}
use Rattle.ess_translate_plans.specs.Views.{pure_plan}
use Rattle.ess_model_views.specs.Sizes.{size_cell}

first_cell : (p : pure.Plan) (Ps : List pure.Plan) (t : Text) → size_name (p ∷ Ps) t ≡ or_default (size_cell p t) (size_name Ps t)
first_cell (size_plan u n) Ps t = go (same_text u t)
  where
    go : (b : Bool) → (if b then n else size_name Ps t) ≡ or_default (when b n) (size_name Ps t)
    go true = refl
    go false = refl
first_cell (value_plan f x r d ns) Ps t = refl

here : (ps : List Plan) (i : ℕ) (p : Plan) (t : Text) → i < length ps → p ≡ get_or ps i p
    → size_name (map pure_plan (drop i ps)) t ≡ or_default (size_cell (pure_plan p) t) (size_name (map pure_plan (drop (i + 1) ps)) t)
here ps i p t lt is =
    ap (λ l. size_name (map pure_plan l) t) (drop_more ps i p lt ∙ ap (λ q. q ∷ drop (i + 1) ps) (sym is))
    ∙ first_cell (pure_plan p) (map pure_plan (drop (i + 1) ps)) t

-- Where a plan has one, it is that.
pub size_there : (ps : List Plan) (i : ℕ) (p : Plan) (t c all : Text) → i < length ps → p ≡ get_or ps i p
    → Some c ≡ size_cell (pure_plan p) t → size_name (map pure_plan (drop i ps)) t ≡ all → c ≡ all
size_there ps i p t c all lt is e h =
    ap (λ o. or_default o (size_name (map pure_plan (drop (i + 1) ps)) t)) e ∙ sym (here ps i p t lt is) ∙ h

-- Where it has none, it is that of the others.
pub size_behind : (ps : List Plan) (i : ℕ) (p : Plan) (t all : Text) → i < length ps → p ≡ get_or ps i p
    → None ≡ size_cell (pure_plan p) t → size_name (map pure_plan (drop i ps)) t ≡ all
    → size_name (map pure_plan (drop (i + 1) ps)) t ≡ all
size_behind ps i p t all lt is e h =
    ap (λ o. or_default o (size_name (map pure_plan (drop (i + 1) ps)) t)) e ∙ sym (here ps i p t lt is) ∙ h
