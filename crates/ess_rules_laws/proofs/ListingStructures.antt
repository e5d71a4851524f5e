-- Tables that meet the structures of a term meet those of the alternatives that the term offers.
use Rattle.std.proofs.Common.{subst, Bool, true, false, if◌then◌else◌, List, [], ◌∷◌, Option, Some, None}
use Rattle.ess_semantics.specs.declared.words.Op1.{Op1}
use Rattle.ess_semantics.specs.declared.words.Op2.{Op2}
use Rattle.ess_semantics.specs.declared.words.Fun.{Fun}
use Rattle.ess_semantics.specs.Values.{Text, Value}
use Rattle.ess_semantics.specs.Names.{Names}
use Rattle.ess_semantics.specs.Trees.{set_literal, mset_literal, relation_literal, matrix_literal, Ex, Exs, name_ex, node_ex, comp_ex, ex1, ex2, fun1, no_exs, more_exs, no_gens, cond}
use Rattle.ess_semantics.specs.Types.{Ty}
use Rattle.ess_semantics.specs.Typing.{type_of}
use Rattle.ess_semantics.specs.Meaning.{Env, meaning}
use Rattle.ess_semantics.specs.Meets.{Meets, MeetsAll}
use Rattle.ess_rules_laws.specs.Rules.{Unused}
use Rattle.ess_rules_laws.specs.InclusionRules.{both_sets}
use Rattle.ess_rules_laws.specs.Listings.{Alternative, each_item, each_first, those, is_strict, listing}
use Rattle.ess_rules_laws.specs.ListedSources.{laid_out, AllMet, ListingsAreMet}
use Rattle.ess_rules_laws.proofs.RuleAnswers.{behind, meets-behind, each-in-any}
use Rattle.ess_rules_laws.proofs.NoneOf.{AllMeet, none_of-met}

-- Each item by itself.
items-met : (es : Exs) (env : Env) → MeetsAll false es env → AllMet (each_item es) env
items-met no_exs env m = tt
items-met (more_exs a es) env m = (m.0, items-met es env m.1)

firsts-met : (bs : List Ex) (es : Exs) (env : Env) → AllMeet bs env → MeetsAll false es env → AllMet (each_first bs es) env
firsts-met bs no_exs env k m = tt
firsts-met bs (more_exs a es) env k m = (none_of-met bs a env (λ here. Meets a here) k m.0 m.0, firsts-met (a ∷ bs) es env (m.0, k) m.1)

-- The members of a term.
all-met : (x : Text) (s : Ex) (env : Env) → Meets s env → Meets (laid_out (those x s no_gens)) env
all-met x s env m = (m, each-in-any (meaning s env) _ (λ v. tt))

-- The members under a condition.
tested-met : (x : Text) (s c : Ex) (env : Env) → Meets s env → ((v : Value) → Meets c (behind x v env)) →
    Meets (laid_out (those x s (cond c no_gens))) env
tested-met x s c env m k = (m, each-in-any (meaning s env) _ (λ v. (k v, λ z. tt)))

abbrev AnswerMet : Option (List Alternative) → Env → Type 0
AnswerMet None env = Unit {0}
AnswerMet (Some l) env = AllMet l env

met-so : (c : Bool) (l : List Alternative) (env : Env) → AllMet l env → AnswerMet (if c then Some l else None) env
met-so true l env h = h
met-so false l env h = tt

met-answer : (g : Names Ty) (x : Text) (e : Ex) → Unused x e → (env : Env) → Meets e env → AnswerMet (listing g x e) env
met-answer g x (comp_ex e gs) o env m = (m, tt)
met-answer g x (node_ex false matrix_literal es) o env m = items-met es env m
met-answer g x (node_ex false mset_literal es) o env m = items-met es env m
met-answer g x (node_ex false set_literal es) o env m = firsts-met [] es env tt m
met-answer g x (node_ex false relation_literal es) o env m = firsts-met [] es env tt m
met-answer g x (ex2 false Op2.Union a b) o env m = met-so (both_sets (type_of a g) (type_of b g)) _ env (
  all-met x a env m.0,
  (
    tested-met x b (ex1 true Op1.Not (ex2 true Op2.Member (name_ex x) a)) env m.1.0
        (λ v. ((tt, (meets-behind x v a env o.0 m.0, tt)), tt)),
    tt,
  ),
)
met-answer g x (ex2 false Op2.Intersect a b) o env m = met-so (both_sets (type_of a g) (type_of b g)) _ env
    (tested-met x a (ex2 true Op2.Member (name_ex x) b) env m.0 (λ v. (tt, (meets-behind x v b env o.1.0 m.1.0, tt))), tt)
met-answer g x (ex2 false Op2.Minus a b) o env m = met-so (both_sets (type_of a g) (type_of b g)) _ env (
  tested-met x a (ex1 true Op1.Not (ex2 true Op2.Member (name_ex x) b)) env m.0
      (λ v. ((tt, (meets-behind x v b env o.1.0 m.1.0, tt)), tt)),
  tt,
)
met-answer g x (fun1 false Fun.ToMSet s) o env m = (all-met x s env m.0, tt)
met-answer g x (fun1 false Fun.ToSet s) o env m = met-so (is_strict (type_of s g)) _ env (all-met x s env m.0, tt)
met-answer g x (fun1 false Fun.Parts s) o env m = met-so (is_strict (type_of s g)) _ env (all-met x s env m.0, tt)
met-answer g x _ o env m = tt

-- What a term offers is met where the term is.
pub listings-met : ListingsAreMet
listings-met g x e l q o env m = subst (λ z. AnswerMet z env) q (met-answer g x e o env m)
