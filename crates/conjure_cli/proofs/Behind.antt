-- What is counted behind each call of the self-test: where it answers a text, and where it refuses.
use Rattle.std.proofs.Common.{◌≡◌, refl, ap, ◌∙◌, subst, ◌++◌, ℕ, true, false, inl, inr, None}
use Rattle.std.specs.Prelude.{Ok, Err, IfOk, codes}
use Rattle.std.specs.declared.result.Result.{Result}
use Rattle.ess_semantics.specs.Values.{Text}
use Rattle.ess_rows.specs.declared.memory.NoMemory.{NoMemory}
use Rattle.ess_domains.specs.declared.verdicts.Verdict.{Verdict}
use Rattle.ess_translate.specs.declared.refusal.TransNo.{TransNo}
use Rattle.ess_translate.specs.Answers.{IsValidated, IsNotValidated}
use Rattle.ess_translate_solutions.specs.Translations.{IsParameterText, IsSolutionText, IsNoSolutionText}
use Rattle.conjure_modelling.specs.declared.refusal.ModelNo.{ModelNo}
use Rattle.conjure_modelling.specs.Modelled.{IsTold, IsUnmodelled}
use Rattle.conjure_cli.specs.Texts.{specification_text, parameter_text}
use Rattle.conjure_cli.specs.CellTexts.{cells_text}
use Rattle.conjure_cli.specs.Counted.{is_valid, IsToldOfModel, IsMadeFor, HasMembers, HasCounts}
use Rattle.conjure_cli.specs.Counted.{CountsValid, CountsSolution, CountsMembers, CountsModel}
use Rattle.conjure_cli.specs.declared.counts_line.Counts.{Counts}
use Rattle.conjure_cli.specs.Line.{text_of_counts}
use Rattle.conjure_cli.specs.Told.{IsTestLine}

-- ---- behind `validate`

-- The one verdict that a solution is valid.
is_valid-Valid : (v : Verdict) → is_valid v ≡ true → v ≡ Verdict.Valid
is_valid-Valid Verdict.Valid h = refl
is_valid-Valid (Verdict.Missing x) h = let k : false ≡ true = h in cc
is_valid-Valid (Verdict.Extra x) h = let k : false ≡ true = h in cc
is_valid-Valid (Verdict.NotMember x) h = let k : false ≡ true = h in cc
is_valid-Valid (Verdict.False n) h = let k : false ≡ true = h in cc
is_valid-Valid Verdict.NoObjective h = let k : false ≡ true = h in cc

-- The solution is valid.
pub valid : (N : ℕ) (sol essence bytes : Text) (v : Verdict) (r : Result ℕ NoMemory) → essence ≡ specification_text N → bytes ≡ essence
    → is_valid v ≡ true → IsValidated bytes parameter_text sol v → IfOk r (HasMembers N sol) → IfOk r (CountsValid N sol)
valid N sol essence bytes v (Ok n) e b is i h =
    let judged = subst (λ t. IsValidated t parameter_text sol v) (b ∙ e) i in
    inl (subst (λ w. IsValidated (specification_text N) parameter_text sol w) (is_valid-Valid v is) judged, h)
valid N sol essence bytes v (Err _) e b is i h = tt

-- It isn't.
pub not_valid : (N : ℕ) (sol essence bytes : Text) (v : Verdict) → essence ≡ specification_text N → bytes ≡ essence → is_valid v ≡ false
    → IsValidated bytes parameter_text sol v → CountsValid N sol 0
not_valid N sol essence bytes v e b fault i =
    inr (refl, inl (v, fault, subst (λ t. IsValidated t parameter_text sol v) (b ∙ e) i))

-- One of the texts is refused.
pub not_judged : (N : ℕ) (sol essence bytes : Text) (why : TransNo) (r : Result ℕ NoMemory) → essence ≡ specification_text N
    → bytes ≡ essence → IsNotValidated bytes parameter_text sol why → IfOk r (λ n. (n ≡ 0) × IsTold why) → IfOk r (CountsValid N sol)
not_judged N sol essence bytes why (Ok n) e b i h =
    inr (h.0, inr (why, h.1, subst (λ t. IsNotValidated t parameter_text sol why) (b ∙ e) i))
not_judged N sol essence bytes why (Err _) e b i h = tt

-- ---- behind `solution`

-- The cells stand for a solution.
pub solved : (N : ℕ) (model sol s cells bytes : Text) (r : Result ℕ NoMemory) → cells ≡ cells_text N → bytes ≡ cells
    → IsSolutionText model parameter_text bytes sol → s ≡ sol → IfOk r (CountsValid N s) → IfOk r (CountsSolution N model)
solved N model sol s cells bytes (Ok n) e b i is h =
    inl (sol, subst (λ t. IsSolutionText model parameter_text t sol) (b ∙ e) i, subst (λ t. CountsValid N t n) is h)
solved N model sol s cells bytes (Err _) e b i is h = tt

-- They stand for none.
pub not_solved : (N : ℕ) (model cells bytes : Text) (why : TransNo) (r : Result ℕ NoMemory) → cells ≡ cells_text N → bytes ≡ cells
    → IsNoSolutionText model parameter_text bytes why → IfOk r (λ n. (n ≡ 0) × IsTold why) → IfOk r (CountsSolution N model)
not_solved N model cells bytes why (Ok n) e b i h =
    inr (h.0, (why, h.1, subst (λ t. IsNoSolutionText model parameter_text t why) (b ∙ e) i))
not_solved N model cells bytes why (Err _) e b i h = tt

-- ---- behind `parameter`

-- The parameter has tables.
pub given : (N : ℕ) (model tables : Text) (r : Result ℕ NoMemory) → IsParameterText model parameter_text tables
    → IfOk r (CountsSolution N model) → IfOk r (CountsMembers N model)
given N model tables (Ok n) i h = inl (tables, i, h)
given N model tables (Err _) i h = tt

-- ---- behind `modelling`

-- The model is built.
pub modelled : (N : ℕ) (essence bytes model s : Text) (rules n : ℕ) → essence ≡ specification_text N → bytes ≡ essence
    → IsMadeFor bytes model rules → s ≡ model → CountsMembers N s n → CountsModel N rules n
modelled N essence bytes model s rules n e b i is h =
    inl (model, subst (λ t. IsMadeFor t model rules) (b ∙ e) i, subst (λ t. CountsMembers N t n) is h)

-- There is none.
pub not_modelled : (N : ℕ) (essence bytes : Text) (why : ModelNo) (r : Result (ℕ × ℕ) NoMemory) → essence ≡ specification_text N
    → bytes ≡ essence → IsUnmodelled bytes None why → IfOk r (λ n. (n.0 ≡ 0) × (n.1 ≡ 0) × IsToldOfModel why)
    → IfOk r (λ n. CountsModel N n.0 n.1)
not_modelled N essence bytes why (Ok n) e b i h = inr (h.0, h.1, (why, h.2, subst (λ t. IsUnmodelled t None why) (b ∙ e) i))
not_modelled N essence bytes why (Err _) e b i h = tt

-- ---- behind all of them

-- The counts are told.
pub told : (N : ℕ) (c : Counts) (text line : Text) → HasCounts N c → text ≡ text_of_counts c → line ≡ text ++ codes "\n" → IsTestLine N line
told N c text line has is ends = record { counts = c; has = has; told = ends ∙ ap (λ t. t ++ codes "\n") is }
