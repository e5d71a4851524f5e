-- Names of tables, plan by plan, as a loop goes over them.
use Rattle.std.proofs.Common.{◌≡◌, sym, ap, ◌∙◌, ℕ, ◌+◌, ◌<◌, ◌≤◌, List, ◌∷◌, ◌++◌, map, drop, length, get_or, append_assoc, append-nil}
use Rattle.std.proofs.lemmas.List.{drop_more, drop_all}
use Rattle.ess_semantics.specs.Values.{Text}
use Rattle.ess_semantics.specs.Names.{keys}
use Rattle.ess_semantics.specs.Plans.{names_of_plan, names_of_plans}
use Rattle.conjure_laws.proofs.NamedTables.{keys-append}
use Rattle.ess_translate_plans.specs.declared.plans.Plan.{Plan}
use Rattle.ess_translate_plans.specs.Views.{pure_plan}

abbrev all_names : List Plan → List Text
all_names ps = keys (names_of_plans (map pure_plan ps))

-- From one turn to the next.
pub names_more : (ps : List Plan) (i : ℕ) (p : Plan) (old new all : List Text) → i < length ps → p ≡ get_or ps i p
    → new ≡ old ++ keys (names_of_plan (pure_plan p)) → old ++ keys (names_of_plans (map pure_plan (drop i ps))) ≡ all
    → new ++ keys (names_of_plans (map pure_plan (drop (i + 1) ps))) ≡ all
names_more ps i p old new all lt is n h =
    let own = names_of_plan (pure_plan p) in
    let rest = names_of_plans (map pure_plan (drop (i + 1) ps)) in
    let e : drop i ps ≡ p ∷ drop (i + 1) ps = drop_more ps i p lt ∙ ap (λ q. q ∷ drop (i + 1) ps) (sym is) in
    ap (λ l. l ++ keys rest) n ∙ append_assoc old (keys own) (keys rest)
    ∙ ap (λ l. old ++ l) (sym (keys-append own rest))
    ∙ sym (ap (λ l. old ++ all_names l) e) ∙ h

-- Behind the last turn.
pub names_all : (ps : List Plan) (i : ℕ) (now all : List Text) → length ps ≤ i
    → now ++ keys (names_of_plans (map pure_plan (drop i ps))) ≡ all → now ≡ all
names_all ps i now all le h = sym (append-nil now) ∙ ap (λ l. now ++ all_names l) (sym (drop_all i ps le)) ∙ h
