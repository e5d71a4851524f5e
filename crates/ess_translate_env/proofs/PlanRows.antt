-- The domains of plans, plan by plan.
use Rattle.std.proofs.Common.{◌≡◌, refl, sym, ap, ◌∙◌, ℕ, zero, suc, ◌+◌, ◌<◌, ◌≤◌, Bool, true, false, ◌||◌, List, [], ◌∷◌, ◌++◌, map, take, length, get_or, Option, option_map, arith}
use Rattle.std.specs.List.{list_any}
use Rattle.std.proofs.lemmas.List.{map-append, take_more, take_all}
use Rattle.ess_semantics.specs.Trees as pure
use Rattle.ess_semantics.specs.Trees.{Repr}
use Rattle.ess_semantics.specs.Domains.{Domain}
use Rattle.ess_semantics.specs.Meaning.{Env}
use Rattle.ess_semantics.specs.Large.{is_large_dom}
use Rattle.ess_semantics.specs.LargeSpecifications.{plan_is_large}
use Rattle.ess_semantics.specs.Large.{is_large_with}
use Rattle.ess_eval_domains.specs.declared.closed.Closed.{Closed}
use Rattle.ess_eval_domains.specs.ClosedViews.{pure_closed}
use Rattle.ess_translate_plans.specs.declared.plans.Plan.{Plan}
use Rattle.ess_translate_plans.specs.Views.{pure_plan}
use Rattle.ess_translate_members_laws.specs.PlanDomains.{plan_closed}

-- The domain of a plan of the code.
abbrev pub domain_at : Env → Plan → Option Domain
domain_at env p = plan_closed env (pure_plan p)

each-plan : (env : Env) (ps : List Plan) → map (domain_at env) ps ≡ map (plan_closed env) (map pure_plan ps)
each-plan env [] = refl
each-plan env (p ∷ ps) = ap (λ l. domain_at env p ∷ l) (each-plan env ps)

pub plans_more : (env : Env) (ps : List Plan) (i : ℕ) (p : Plan) (o : Option Closed) (xs ys : List (Option Closed)) → i < length ps → p ≡ get_or ps i p →
    option_map pure_closed o ≡ plan_closed env (pure_plan p) → ys ≡ xs ++ o ∷ [] → map (option_map pure_closed) xs ≡ map (domain_at env) (take i ps) →
    map (option_map pure_closed) ys ≡ map (domain_at env) (take (i + 1) ps)
plans_more env ps i p o xs ys h is e q w =
    ap (map (option_map pure_closed)) q ∙ map-append (option_map pure_closed) xs (o ∷ []) ∙ ap (λ l. l ++ option_map pure_closed o ∷ []) w
    ∙ ap (λ y. map (domain_at env) (take i ps) ++ y ∷ []) (e ∙ ap (domain_at env) is)
    ∙ sym (map-append (domain_at env) (take i ps) (get_or ps i p ∷ [])) ∙ sym (ap (map (domain_at env)) (take_more ps i p h))

pub plans_all : (env : Env) (ps : List Plan) (i : ℕ) (xs : List (Option Closed)) → length ps ≤ i → map (option_map pure_closed) xs ≡ map (domain_at env) (take i ps) →
    map (option_map pure_closed) xs ≡ map (plan_closed env) (map pure_plan ps)
plans_all env ps i xs h w = w ∙ ap (map (domain_at env)) (take_all i ps h) ∙ each-plan env ps

-- ---- numbers outside 64 bits

or-first : (b c : Bool) → b ≡ true → (b || c) ≡ true
or-first true c h = refl
or-first false c h = let k : false ≡ true = h in cc

or-second : (b c : Bool) → c ≡ true → (b || c) ≡ true
or-second true c h = refl
or-second false c h = h

pub large_with : (r : Repr) (d : pure.Dom) (env : Env) → is_large_dom d env ≡ true → is_large_with r d env ≡ true
large_with r d env h = or-first (is_large_dom d env) _ h

pub large_here : (env : Env) (ps : List Plan) (i : ℕ) (p : Plan) → i < length ps → p ≡ get_or ps i p → plan_is_large env (pure_plan p) ≡ true →
    list_any (plan_is_large env) (map pure_plan ps) ≡ true
large_here env [] i p h is k = absurd (omega (arith, h))
large_here env (q ∷ ps) zero p h is k =
    or-first (plan_is_large env (pure_plan q)) (list_any (plan_is_large env) (map pure_plan ps)) (ap (λ x. plan_is_large env (pure_plan x)) (sym is) ∙ k)
large_here env (q ∷ ps) (suc i) p h is k =
    or-second (plan_is_large env (pure_plan q)) (list_any (plan_is_large env) (map pure_plan ps)) (large_here env ps i p (omega (arith, h)) is k)
