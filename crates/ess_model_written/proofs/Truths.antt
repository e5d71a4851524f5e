-- `true` isn't written.
use Rattle.std.proofs.Common.{◌≡◌, sym, ap, ◌∙◌, Bool, true, false, if◌then◌else◌, List, [], ◌∷◌, ◌++◌, map, append-nil}
use Rattle.std.proofs.lemmas.List.{map_push}
use Rattle.ess_semantics.specs.Trees.{Ex}
use Rattle.ess_grammar.specs.Models.{Scope}
use Rattle.eprime_tree.specs.declared.expressions.PEx.{PEx}
use Rattle.eprime_tree.specs.Views.{pure_ex}
use Rattle.ess_model_written.specs.RulesWritten.{is_true, unless_true}

by_truth : (e : Ex) (b : Bool) → b ≡ is_true e → unless_true e ≡ (if b then [] else e ∷ [])
by_truth e b h = ap (λ b. if b then [] else e ∷ []) (sym h)

-- `true` adds nothing.
pub used_not : (rule : PEx) (rules : List PEx) → ((s : Scope) → true ≡ is_true (pure_ex s rule))
    → (s : Scope) → map (pure_ex s) rules ≡ map (pure_ex s) rules ++ unless_true (pure_ex s rule)
used_not rule rules h s =
    sym (append-nil (map (pure_ex s) rules)) ∙ ap (λ l. map (pure_ex s) rules ++ l) (sym (by_truth (pure_ex s rule) true (h s)))

-- Another expression is put behind the others.
pub used_one : (rule : PEx) (old new : List PEx) → ((s : Scope) → false ≡ is_true (pure_ex s rule)) → new ≡ old ++ rule ∷ []
    → (s : Scope) → map (pure_ex s) new ≡ map (pure_ex s) old ++ unless_true (pure_ex s rule)
used_one rule old new h n s =
    ap (map (pure_ex s)) n ∙ map_push (pure_ex s) old rule
    ∙ ap (λ l. map (pure_ex s) old ++ l) (sym (by_truth (pure_ex s rule) false (h s)))
