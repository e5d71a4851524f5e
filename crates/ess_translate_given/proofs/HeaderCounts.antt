-- The numbers that are kept are those of the header's plans.
use Rattle.std.proofs.Common.{◌≡◌, refl, sym, ap, ◌∙◌, ℕ, ◌+◌, Bool, true, false, if◌then◌else◌, List, [], ◌∷◌, map, nat_le, Option, Some, None, option_map, arith}
use Rattle.std.proofs.lemmas.Bool.Decides.{nat_tests}
use Rattle.ess_semantics.specs.Lists.{or_default}
use Rattle.ess_semantics.specs.Values.{Text}
use Rattle.ess_semantics.specs.Trees.{Repr}
use Rattle.ess_semantics.specs.Domains.{Domain}
use Rattle.ess_semantics.specs.Declarations.{cell_count}
use Rattle.ess_semantics.specs.Positions.{domain_with_positions}
use Rattle.ess_semantics.specs.Meaning.{Env, domain_of}
use Rattle.ess_semantics.specs.ModelTrees.{Header}
use Rattle.ess_semantics.specs.Assignments.{Assignment, nothing_given, env_of}
use Rattle.ess_semantics.specs.Plans.{Plan, size_plan, value_plan, plans, cells_of_plan, is_plan_for}
use Rattle.ess_semantics.proofs.Texts.{same_text-itself}
use Rattle.ess_domains_cells.specs.Kept.{kept}
use Rattle.ess_domains_cells.proofs.KeptNumbers.{kept_sum}
use Rattle.ess_translate_header_laws.specs.Headers.{IsOurs}
use Rattle.ess_translate_members_laws.specs.PlanDomains.{plan_closed}
use Rattle.ess_translate_members_laws.proofs.PlainDeclarations.{counts_kept}
use Rattle.ess_translate_given_laws.specs.Counts.{cell_limit, too_many}
use Rattle.ess_translate_counts_laws.specs.Runs.{run_count, first_run_above}
use Rattle.ess_translate_counts_laws.proofs.NamesInRuns.{too_many_by_runs}
use Rattle.ess_translate_given.specs.KeptCounts.{count_at, counts_of, run_from, first_kept_above, kept_beside}

-- ---- the numbers of plans

count-so : (r : Repr) (o : Option Domain) → or_default (option_map (cell_count r) o) 0 ≡ or_default (option_map (cell_count r) (option_map domain_with_positions o)) 0
count-so r None = refl
count-so r (Some e) = sym (counts_kept r e)

plan-count : (env : Env) (p : Plan) → count_at p (plan_closed env p) ≡ cells_of_plan env p
plan-count env (size_plan t a) = refl
plan-count env (value_plan f x r d ns) = count-so r (domain_of d env)

-- The number of cells of a plan, kept.
abbrev kept_by : (Plan → ℕ) → Plan → ℕ
kept_by f p = kept (f p)

pub plan-counts : (env : Env) (ps : List Plan) → counts_of ps (map (plan_closed env) ps) ≡ map (kept_by (cells_of_plan env)) ps
plan-counts env [] = refl
plan-counts env (p ∷ ps) =
    ap (λ n. kept n ∷ counts_of ps (map (plan_closed env) ps)) (plan-count env p) ∙ ap (λ l. kept (cells_of_plan env p) ∷ l) (plan-counts env ps)

-- ---- runs

add-assoc : (a b c : ℕ) → (a + b) + c ≡ a + (b + c)
add-assoc a b c = omega arith

run-kept : (f : Plan → ℕ) (x : Text) (n : ℕ) (ps : List Plan) → run_from x (kept n) ps (map (kept_by f) ps) ≡ kept (n + run_count f x ps)
run-kept f x n [] = let e : n ≡ n + 0 = omega arith in ap kept e
run-kept f x n (p ∷ ps) = go (is_plan_for x p) (run-kept f x (n + f p) ps)
  where
    go : (b : Bool) → run_from x (kept (n + f p)) ps (map (kept_by f) ps) ≡ kept ((n + f p) + run_count f x ps) →
        (if b then run_from x (kept (kept n + kept (f p))) ps (map (kept_by f) ps) else kept n)
        ≡ kept (n + (if b then f p + run_count f x ps else 0))
    go true h = ap (λ m. run_from x m ps (map (kept_by f) ps)) (kept_sum n (f p)) ∙ h ∙ ap kept (add-assoc n (f p) (run_count f x ps))
    go false h = let e : n ≡ n + 0 = omega arith in ap kept e

few-same : (n : ℕ) → nat_le (kept n) cell_limit ≡ nat_le n cell_limit
few-same n = grind (arith, nat_tests)

pub first-kept : (f : Plan → ℕ) (ps : List Plan) → first_kept_above ps (map (kept_by f) ps) ≡ option_map kept_beside (first_run_above f ps)
first-kept f [] = refl
first-kept f (size_plan t a ∷ ps) = first-kept f ps
first-kept f (value_plan s x r d ns ∷ ps) =
    ap (λ n. if nat_le n cell_limit then first_kept_above ps (map (kept_by f) ps) else Some (x, n))
    (run-kept f x (f p) ps ∙ ap kept (sym one))
    ∙ ap (λ b. if b then first_kept_above ps (map (kept_by f) ps) else Some (x, kept N)) (few-same N)
    ∙ go (nat_le N cell_limit) (first-kept f ps)
  where
    p : Plan
    p = value_plan s x r d ns

    N : ℕ
    N = run_count f x (p ∷ ps)

    one : N ≡ f p + run_count f x ps
    one = ap (λ b. if b then f p + run_count f x ps else 0) (same_text-itself x)

    go : (b : Bool) → first_kept_above ps (map (kept_by f) ps) ≡ option_map kept_beside (first_run_above f ps) →
        (if b then first_kept_above ps (map (kept_by f) ps) else Some (x, kept N))
        ≡ option_map kept_beside (if b then first_run_above f ps else Some (x, N))
    go true h = h
    go false h = refl

-- ---- the header

pub first_found : (ps : List Plan) (os : List (Option Domain)) (ns : List ℕ) (o : Option (Text × ℕ)) → ns ≡ counts_of ps os → o ≡ first_kept_above ps ns →
    (H : Header) (p : Assignment) → IsOurs H → ps ≡ plans H.statements H.reprs →
    os ≡ map (plan_closed (env_of H.statements p nothing_given)) (plans H.statements H.reprs) → o ≡ option_map kept_beside (too_many H p)
first_found ps os ns o e q H p h is at =
    let Ps = plans H.statements H.reprs in
    let env = env_of H.statements p nothing_given in
    q ∙ ap (first_kept_above ps) (e ∙ ap (counts_of ps) at ∙ ap (λ l. counts_of l (map (plan_closed env) Ps)) is ∙ plan-counts env Ps)
    ∙ ap (λ l. first_kept_above l (map (kept_by (cells_of_plan env)) Ps)) is ∙ first-kept (cells_of_plan env) Ps
    ∙ ap (option_map kept_beside) (sym (too_many_by_runs H p h))
