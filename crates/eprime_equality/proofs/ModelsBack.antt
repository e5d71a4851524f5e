-- Two models with the same lines of their headers and the same pure model are one.
use Rattle.std.proofs.Common.{◌≡◌, refl, sym, ap, ◌∙◌, List, [], ◌∷◌, map, IsTrue, ◌↔◌}
use Rattle.ess_semantics.specs.DeclaredTables.{TableDecl}
use Rattle.ess_grammar.specs.Models.{Scope, empty_scope, with_given, with_find}
use Rattle.eprime_tree.specs.declared.expressions.PDom.{PDom}
use Rattle.eprime_tree.specs.declared.expressions.PEx.{PEx}
use Rattle.eprime_tree.specs.declared.models.PDecl.{PDecl}
use Rattle.eprime_tree.specs.declared.models.PGoal.{PGoal}
use Rattle.eprime_tree.specs.declared.models.PGoal.TheVariants.{Free, Minimise, Maximise}
use Rattle.eprime_tree.specs.declared.models.PModel.{PModel}
use Rattle.eprime_tree.specs.Views.{pure_ex, pure_dom, pure_decl, pure_decls, pure_goal, scope_of_givens, scope_of, pure_model}
use Rattle.eprime_equality.proofs.PureBack.{back_ex, back_dom, back_decl, back_goal, back_model}
use Rattle.eprime_equality.proofs.TreesBack.{each-dom-back, each-ex-back}
use Rattle.eprime_equality.specs.SameModels.{AreOneModel}
use Rattle.eprime_equality.proofs.KnownModels.{model_same, decides_model}

doms-back : (s : Scope) (ds : List PDom) → map back_dom (map (pure_dom s) ds) ≡ ds
doms-back s [] = refl
doms-back s (d ∷ ds) = λ i. (each-dom-back s d).back i ∷ doms-back s ds i

exs-back : (s : Scope) (es : List PEx) → map back_ex (map (pure_ex s) es) ≡ es
exs-back s [] = refl
exs-back s (e ∷ es) = λ i. (each-ex-back s e).back i ∷ exs-back s es i

decl-back : (s : Scope) (d : PDecl) → back_decl (pure_decl s d) ≡ d
decl-back s d = λ i. record { name = d.name; axes = doms-back s d.axes i; cell = (each-dom-back s d.cell).back i }

decls-back : (add : Scope → TableDecl → Scope) (s : Scope) (ds : List PDecl) → map back_decl (pure_decls add s ds) ≡ ds
decls-back add s [] = refl
decls-back add s (d ∷ ds) = λ i. decl-back s d i ∷ decls-back add (add s (pure_decl s d)) ds i

goal-back : (s : Scope) (g : PGoal) → back_goal (pure_goal s g) ≡ g
goal-back s Free = refl
goal-back s (Minimise e) = ap Minimise (each-ex-back s e).back
goal-back s (Maximise e) = ap Maximise (each-ex-back s e).back

-- The pure model of a model leads back to it.
pub model-back : (m : PModel) → back_model m.head (pure_model m) ≡ m
model-back m = λ i. record {
  head = m.head;
  givens = decls-back with_given empty_scope m.givens i;
  finds = decls-back with_find (scope_of_givens m) m.finds i;
  goal = goal-back (scope_of m) m.goal i;
  rules = exs-back (scope_of m) m.rules i;
}

-- So models are one where their headers' lines and their pure models are.
pub one-model : (m n : PModel) → AreOneModel m n → m ≡ n
one-model m n one =
    sym (model-back m) ∙ ap (λ h. back_model h (pure_model m)) one.head ∙ ap (back_model n.head) one.model ∙ model-back n

-- And `==` says so.
pub decides_pure : (m n : PModel) → IsTrue (model_same m n) ↔ AreOneModel m n
decides_pure m n = (
  λ e. let same : m ≡ n = (decides_model m n).0 e in record { head = ap (λ m. m.head) same; model = ap pure_model same },
  λ one. (decides_model m n).1 (one-model m n one),
)
