-- Worked examples: `true` isn't written, anything else is once and in its place.
use Rattle.std.proofs.Common.{◌≡◌, refl, true, false, [], ◌∷◌, Option, Some, None, codes}
use Rattle.ess_semantics.specs.Trees.{Ex, truth_ex, name_ex, such_that, minimise}
use Rattle.ess_semantics.specs.ModelTrees.{no_goal, least, greatest}
use Rattle.ess_grammar.specs.Models.{empty_scope}
use Rattle.conjure_model_laws.specs.Shown.{shows_nothing}
use Rattle.ess_model_written.specs.Answered.{AllCome, AllUsed}
use Rattle.ess_model_written.specs.RulesWritten.{unless_true, GoalComes}
use Rattle.ess_model_written.specs.Statements.{constraint_in}

no_rule : unless_true (truth_ex true) ≡ []
no_rule = refl

false_is_one : unless_true (truth_ex false) ≡ truth_ex false ∷ []
false_is_one = refl

a_name : unless_true (name_ex (codes "x")) ≡ name_ex (codes "x") ∷ []
a_name = refl

-- what comes of a tree is the tree
abbrev Stays : Ex → Option Ex → Type 0
Stays c None = ⊥
Stays c (Some e) = c ≡ e

-- of two trees come two rules, and of `true` none
two_come : AllCome Stays (truth_ex true ∷ truth_ex false ∷ []) (truth_ex true ∷ truth_ex false ∷ [])
two_come = record { each = (refl, (refl, tt)) }

one_used : AllUsed Stays unless_true (truth_ex true ∷ truth_ex false ∷ []) (truth_ex false ∷ [])
one_used = record {
  rows = [] ∷ (truth_ex false ∷ []) ∷ [];
  each = (record { new = truth_ex true; comes = refl; is = refl }, (record { new = truth_ex false; comes = refl; is = refl }, tt));
  all = refl;
}

-- a rule is neither dropped nor doubled
dropped : AllCome Stays (truth_ex false ∷ []) [] → ⊥
dropped a = absurd a.each

doubled : AllCome Stays (truth_ex false ∷ []) (truth_ex false ∷ truth_ex false ∷ []) → ⊥
doubled a = absurd a.each.1

-- an objective isn't turned, nor left without its rule
turned : (e f r : Ex) → GoalComes empty_scope [] shows_nothing (least e) (greatest f) (r ∷ []) → ⊥
turned e f r h = h

bare : (e f : Ex) → GoalComes empty_scope [] shows_nothing (least e) (least f) [] → ⊥
bare e f h = h

none_needed : GoalComes empty_scope [] shows_nothing no_goal no_goal []
none_needed = refl

a_constraint : constraint_in (such_that (truth_ex true)) ≡ Some (truth_ex true)
a_constraint = refl

no_constraint : constraint_in (minimise (truth_ex true)) ≡ None
no_constraint = refl
