-- The rule of `=` between partitions keeps what it rewrites.
use Rattle.std.proofs.Common.{◌≡◌, refl, sym, ap, ◌∙◌, true, ◌&&◌, [], ◌∷◌, Some}
use Rattle.std.specs.List.{list_all, list_any}
use Rattle.ess_semantics.specs.declared.words.Op2.{Op2}
use Rattle.ess_semantics.specs.declared.words.Fun.{Fun}
use Rattle.ess_semantics.specs.Values.{Text, Value, truth, items_of}
use Rattle.ess_semantics.specs.Names.{Names}
use Rattle.ess_semantics.specs.Trees.{word, Ex, name_ex, ex2}
use Rattle.ess_semantics.specs.Types.{Ty}
use Rattle.ess_semantics.specs.Typing.{type_of}
use Rattle.ess_semantics.specs.Typed.{Typed}
use Rattle.ess_semantics.specs.Operators.{as_truth, within, value_of_node, false_where_undefined}
use Rattle.ess_semantics.specs.Meaning.{Env, meaning}
use Rattle.ess_rules_laws.specs.Rules.{RuleKeepsTyped, Unused, SoundOperands}
use Rattle.ess_rules_laws.specs.InclusionRules.{every}
use Rattle.ess_rules_laws.specs.PartitionRules.{both_partitions, lie_together, equal_parts}
use Rattle.ess_rules_laws.proofs.RuleAnswers.{AnswerKeeps, fires, when-so, behind, meaning-behind, name-behind, meets-behind, all-over, all-nowhere}
use Rattle.ess_rules_laws.proofs.InclusionRules.{every-met, equal-means}
use Rattle.ess_rules_laws.proofs.SharedParts.{partitions-of, partition-equal}

-- That the new name lies in a part of a partition.
together-body : (x : Text) (b : Ex) (env : Env) (w : Value) → Unused x b → meaning b env ≡ Some w → (v : Value) →
    meaning (lie_together (name_ex x) b) (behind x v env) ≡ Some (truth (list_any (within v) (items_of w)))
together-body x b env w o q v =
    ap (λ z. false_where_undefined true (value_of_node (word Fun.Together) (z ∷ meaning b (behind x v env) ∷ []))) (name-behind x v env)
    ∙ ap (λ z. false_where_undefined true (value_of_node (word Fun.Together) (Some v ∷ z ∷ []))) (meaning-behind x v b env o ∙ q)

parts-answer : (g : Names Ty) (x : Text) (e : Ex) → Unused x e → SoundOperands g e → (env : Env) → Typed g env →
    AnswerKeeps (equal_parts g x e) e env
parts-answer g x (ex2 true Op2.Eq a b) o s env t = when-so (both_partitions (type_of a g) (type_of b g)) _ (ex2 true Op2.Eq a b) env
    (λ q m. (
      equal-means a b A B env (meaning a env) (meaning b env) refl refl (all-nowhere x a A1 env) (all-nowhere x b B1 env) (λ v w j k.
          let r = partitions-of env.positions env.types (type_of a g) (type_of b g) v w q (λ y p. s.0 y p env t v j)
          (λ y p. s.1.0 y p env t w k) in
          partition-equal v w r.0 r.1
          ∙ sym (ap (λ z. as_truth z && as_truth (meaning B env))
          (all-over x a A1 env (λ y. list_any (within y) (items_of w)) (together-body x b env w o.1.0 k) v j)
          ∙ ap (λ z. list_all (λ y. list_any (within y) (items_of w)) (items_of v) && as_truth z)
          (all-over x b B1 env (λ y. list_any (within y) (items_of v)) (together-body x a env v o.0 j) w k))),
      (
        every-met x a A1 env m.0 (λ v. (tt, (meets-behind x v b env o.1.0 m.1.0, tt))),
        λ z.
            (every-met x b B1 env m.1.0 (λ v. (tt, (meets-behind x v a env o.0 m.0, tt))), tt),
      ),
    ))
  where
    A1 : Ex
    A1 = lie_together (name_ex x) b

    B1 : Ex
    B1 = lie_together (name_ex x) a

    A : Ex
    A = every x a A1

    B : Ex
    B = every x b B1
parts-answer g x _ o s env t = tt

-- `=` of partitions.
pub equal_parts-keeps : RuleKeepsTyped equal_parts
equal_parts-keeps g x e f q o s env t = fires (equal_parts g x e) e f env (parts-answer g x e o s env t) q
