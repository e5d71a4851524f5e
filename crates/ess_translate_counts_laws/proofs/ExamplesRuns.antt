-- Worked examples of numbers of cells, run by run.
use Rattle.std.proofs.Common.{◌≡◌, refl, ℕ, [], ◌∷◌, Some, None}
use Rattle.ess_semantics.specs.Trees.{repr, no_reprs, bool_dom}
use Rattle.ess_semantics.specs.declared.words.ReprKind.{ReprKind}
use Rattle.ess_semantics.specs.Plans.{Plan, givens_side, value_plan}
use Rattle.ess_translate_counts_laws.specs.Runs.{run_count, first_run_above}

-- A plan of a given that is named by one byte.
abbrev plan_of : ℕ → Plan
plan_of n = value_plan givens_side (n ∷ []) (repr ReprKind.Atom no_reprs) bool_dom []

-- Each plan has half as many cells as may be, and one more.
abbrev half : Plan → ℕ
half p = 8388609

-- two representations of one name are too many together
are-two : first_run_above half (plan_of 97 ∷ plan_of 98 ∷ plan_of 98 ∷ []) ≡ Some (98 ∷ [], 16777218)
are-two = refl

-- two names with one each aren't
are-apart : first_run_above half (plan_of 97 ∷ plan_of 98 ∷ plan_of 99 ∷ []) ≡ None
are-apart = refl

-- exactly as many as may be are few
are-few : first_run_above (λ p. 8388608) (plan_of 97 ∷ plan_of 97 ∷ []) ≡ None
are-few = refl

-- a run ends where another name begins
is-run : run_count half (97 ∷ []) (plan_of 97 ∷ plan_of 98 ∷ plan_of 97 ∷ []) ≡ 8388609
is-run = refl
