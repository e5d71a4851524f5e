-- Shorter forms of numbers that a condition chooses keep their meaning.
use Rattle.std.proofs.Common.{◌≡◌, refl, true, false, [], ◌∷◌, pos, suc, zero, Option, Some}
use Rattle.ess_semantics.specs.declared.words.Op2.{Op2}
use Rattle.ess_semantics.specs.declared.words.Fun.{Fun}
use Rattle.ess_semantics.specs.Values.{Value, number, truth}
use Rattle.ess_semantics.specs.Trees.{binary, word, Ex, number_ex, ex2, fun1}
use Rattle.ess_semantics.specs.Operators.{value_of_node, false_where_undefined}
use Rattle.ess_semantics.specs.Meaning.{Env, meaning}
use Rattle.ess_rules_laws.specs.Rules.{IsTruth}
use Rattle.ess_rules_laws.specs.ChoiceRules.{choice_shorter, ChoicesFit, ChoicesKeep}
use Rattle.ess_rules_laws.proofs.RuleAnswers.{AnswerKeeps, fires}

-- Whether the value is true, as a number.
abbrev Chosen : Option Value → Option Value
Chosen c = value_of_node (word Fun.ToInt) (c ∷ [])

both-chosen : (c d : Option Value) → IsTruth c → IsTruth d →
    value_of_node (binary Op2.Times) (Chosen c ∷ Chosen d ∷ []) ≡ Chosen (false_where_undefined true (value_of_node (binary Op2.And) (c ∷ d ∷ [])))
both-chosen (Some (truth true)) (Some (truth true)) t s = refl
both-chosen (Some (truth true)) (Some (truth false)) t s = refl
both-chosen (Some (truth false)) (Some (truth true)) t s = refl
both-chosen (Some (truth false)) (Some (truth false)) t s = refl
both-chosen (Some (truth c)) _ t s = absurd s
both-chosen _ d t s = absurd t

one-chosen : (c : Option Value) → IsTruth c → value_of_node (binary Op2.Times) (Chosen c ∷ Some (number (pos 1)) ∷ []) ≡ Chosen c
one-chosen (Some (truth true)) t = refl
one-chosen (Some (truth false)) t = refl
one-chosen _ t = absurd t

choice-answer : (e : Ex) (env : Env) → ChoicesFit e env → AnswerKeeps (choice_shorter e) e env
choice-answer (ex2 false Op2.Times (fun1 false Fun.ToInt c) (fun1 false Fun.ToInt d)) env t =
    λ m. (both-chosen (meaning c env) (meaning d env) t.0 t.1, ((m.0.0, λ z. (m.1.0.0, tt)), tt))
choice-answer (ex2 false Op2.Times (fun1 false Fun.ToInt c) (number_ex (pos (suc zero)))) env t =
    λ m. (one-chosen (meaning c env) t, m.0)
choice-answer _ env t = tt

-- Products of chosen numbers.
pub choices-keep : ChoicesKeep
choices-keep e f q env t = fires (choice_shorter e) e f env (choice-answer e env t) q
