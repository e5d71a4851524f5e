-- Constraints, one after the other.
use Rattle.std.proofs.Common.{◌≡◌, refl, sym, ap, ◌∙◌, ℕ, suc, ◌+◌, ◌<◌, ◌≤◌, Bool, true, false, List, [], ◌∷◌, ◌++◌, map, length, get_or, drop, min, Option, Some, None, option_map, if◌then◌else◌, arith}
use Rattle.std.proofs.lemmas.List.{at_drop_more, drop_all}
use Rattle.ess_semantics.specs.Names.{Names}
use Rattle.ess_semantics.specs.Tables as pure
use Rattle.ess_semantics.specs.Meaning.{is_true}
use Rattle.ess_semantics.specs.ModelMeaning.{model_value}
use Rattle.ess_semantics.specs.ModelTrees.{Model, all_decls}
use Rattle.ess_semantics.specs.Satisfaction.{rule_holds, first_false}
use Rattle.ess_grammar.specs.Models.{Scope}
use Rattle.eprime_tree.specs.declared.expressions.PEx.{PEx}
use Rattle.eprime_tree.specs.Views.{pure_ex}
use Rattle.eprime_eval_kinds.specs.Shapes.{shape_of}
use Rattle.eprime_eval.specs.declared.under.Under.{Under}
use Rattle.eprime_eval.specs.UnderTables.{IsUnder}

-- What is left to try behind i constraints.
abbrev pub RulesBehind : Under → List PEx → ℕ → Type 0
RulesBehind u rs i = (E : Model) (q c : Names pure.Table) (s : Scope) → IsUnder u (map shape_of (all_decls E)) (q ++ c)
    → first_false E q c 1 (map (pure_ex s) rs) ≡ first_false E q c (1 + i) (map (pure_ex s) (drop i rs))

-- The constraint has this truth value.
abbrev pub HasTruth : Under → PEx → Bool → Type 0
HasTruth u e b = (E : Model) (q c : Names pure.Table) (s : Scope) → IsUnder u (map shape_of (all_decls E)) (q ++ c) → rule_holds E q c (pure_ex s e) ≡ b

next-rule : (E : Model) (q c : Names pure.Table) (s : Scope) (rs : List PEx) (i : ℕ) (e : PEx) → i < length rs → e ≡ get_or rs i e
    → first_false E q c (1 + i) (map (pure_ex s) (drop i rs))
    ≡ (if rule_holds E q c (pure_ex s e) then first_false E q c (suc (1 + i)) (map (pure_ex s) (drop (i + 1) rs)) else Some (1 + i))
next-rule E q c s rs i e l g =
    at_drop_more (λ us. first_false E q c (1 + i) (map (pure_ex s) us)) rs i e l
    ∙ ap (λ u. first_false E q c (1 + i) (map (pure_ex s) (u ∷ drop (i + 1) rs))) (sym g)

pub rules_none : (u : Under) (rs : List PEx) → RulesBehind u rs 0
rules_none u rs E q c s h = refl

pub rules_more : (u : Under) (rs : List PEx) (i : ℕ) (e : PEx) → RulesBehind u rs i → i < length rs → e ≡ get_or rs i e → HasTruth u e true → RulesBehind u rs (i + 1)
rules_more u rs i e k l g t E q c s h =
    k E q c s h ∙ next-rule E q c s rs i e l g
    ∙ ap (λ b. if b then first_false E q c (suc (1 + i)) (map (pure_ex s) (drop (i + 1) rs)) else Some (1 + i)) (t E q c s h)
    ∙ ap (λ n. first_false E q c n (map (pure_ex s) (drop (i + 1) rs))) (omega arith)

pub rules_false : (u : Under) (rs : List PEx) (i : ℕ) (e : PEx) → RulesBehind u rs i → i < length rs → e ≡ get_or rs i e → HasTruth u e false
    → (E : Model) (q c : Names pure.Table) (s : Scope) → IsUnder u (map shape_of (all_decls E)) (q ++ c) → first_false E q c 1 (map (pure_ex s) rs) ≡ Some (1 + i)
rules_false u rs i e k l g t E q c s h =
    k E q c s h ∙ next-rule E q c s rs i e l g
    ∙ ap (λ b. if b then first_false E q c (suc (1 + i)) (map (pure_ex s) (drop (i + 1) rs)) else Some (1 + i)) (t E q c s h)

pub rules_all : (u : Under) (rs : List PEx) (i : ℕ) → RulesBehind u rs i → length rs ≤ i
    → (E : Model) (q c : Names pure.Table) (s : Scope) → IsUnder u (map shape_of (all_decls E)) (q ++ c) → first_false E q c 1 (map (pure_ex s) rs) ≡ None
rules_all u rs i k l E q c s h = k E q c s h ∙ ap (λ us. first_false E q c (1 + i) (map (pure_ex s) us)) (drop_all i rs l)
