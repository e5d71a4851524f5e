-- Folds within folds, and a condition that leaves the generators of a fold for its body.
use Rattle.std.specs.Prelude.{◌≡◌, Bool, true, false, pos, Option, Some, None, IsTrue, is_some}
use Rattle.ess_semantics.specs.declared.words.Op2.{Op2}
use Rattle.ess_semantics.specs.declared.words.Fun.{Fun}
use Rattle.ess_semantics.specs.Trees.{Ex, number_ex, comp_ex, ex2, fun1, Gens, cond}
use Rattle.ess_semantics.specs.Meaning.{Env, meaning}
use Rattle.ess_semantics.specs.Contexts.{WhenTrue}
use Rattle.ess_semantics.specs.Meets.{Meets}
use Rattle.ess_semantics.specs.Kept.{Keeps}
use Rattle.ess_rules_laws.specs.Rules.{IsTruth, IsNumber}
use Rattle.ess_rules_laws.specs.SourceRules.{is_marked}
use Rattle.ess_rules_laws.specs.SpliceRules.{append_gens}

-- `F([e | gs, hs])`, over two lists of generators at once.
abbrev pub fold_at_once : Bool → Fun → Ex → Gens → Gens → Ex
fold_at_once m f e gs hs = fun1 m f (comp_ex e (append_gens gs hs))

-- `F([F([e | hs]) | gs])`, over the second list within the first.
abbrev pub fold_within : Bool → Fun → Ex → Gens → Gens → Ex
fold_within m f e gs hs = fun1 m f (comp_ex (fun1 m f (comp_ex e hs)) gs)

-- With s for `F([e | hs])`: `and([e | c, hs])` is `c -> and([e | hs])`, `or([e | c, hs])` is `c /\ or([e | hs])`,
-- `sum([e | c, hs])` is `toInt(c) * s`, and `product([e | c, hs])` is `toInt(c) * (s - 1) + 1`.
abbrev pub fold_condition : Ex → Ex → Option Ex
fold_condition s (fun1 true Fun.And (comp_ex e (cond c hs))) = Some (ex2 true Op2.Implies c (fun1 true Fun.And (comp_ex e hs)))
fold_condition s (fun1 true Fun.Or (comp_ex e (cond c hs))) = Some (ex2 true Op2.And c (fun1 true Fun.Or (comp_ex e hs)))
fold_condition s (fun1 false Fun.Sum (comp_ex e (cond c hs))) = Some (ex2 false Op2.Times (fun1 false Fun.ToInt c) s)
fold_condition s (fun1 false Fun.Product (comp_ex e (cond c hs))) =
    Some (ex2 false Op2.Plus (ex2 false Op2.Times (fun1 false Fun.ToInt c) (ex2 false Op2.Minus s (number_ex (pos 1)))) (number_ex (pos 1)))
fold_condition s e = None

-- What it counts on where numbers are folded: the condition has a truth value, s has a number everywhere, which is that of the
-- fold where the condition is true, and the tables meet the structures of s.
abbrev pub ConditionFits : Ex → Ex → Env → Type 0
ConditionFits s (fun1 false f (comp_ex e (cond c hs))) env =
    IsTruth (meaning c env) × IsNumber (meaning s env) ×
    WhenTrue (meaning c env) (meaning s env ≡ meaning (fun1 false f (comp_ex e hs)) env) × Meets s env
ConditionFits s e env = Unit {0}

-- So folds keep what they rewrite: one within the other where the whole comprehension has a value, both ways.
pub record ConditionRulesKeep : Type 0 where
  pub within : (m : Bool) (f : Fun) (e : Ex) (gs hs : Gens) (env : Env) → is_marked m f ≡ true →
      IsTrue (is_some (meaning (comp_ex e (append_gens gs hs)) env)) → Keeps (fold_at_once m f e gs hs) (fold_within m f e gs hs) env
  pub at_once : (m : Bool) (f : Fun) (e : Ex) (gs hs : Gens) (env : Env) → is_marked m f ≡ true →
      IsTrue (is_some (meaning (comp_ex e (append_gens gs hs)) env)) → Keeps (fold_within m f e gs hs) (fold_at_once m f e gs hs) env
  pub out_of_the_generators : (s e f : Ex) → fold_condition s e ≡ Some f → (env : Env) → ConditionFits s e env → Keeps e f env
