-- Each variant of the read trees becomes what the definitions say, where its parts do.
use Rattle.std.proofs.Common.{◌≡◌, sym, ap, ◌∙◌, ℤ, Bool, List, [], ◌∷◌, map, Option}
use Rattle.ess_semantics.specs.Values.{Text}
use Rattle.ess_semantics.specs.Names.{Names, look}
use Rattle.ess_semantics.specs.Trees as pure
use Rattle.ess_semantics.specs.Trees.{binary, word, matrix_literal, number_ex, truth_ex, name_ex, comp_ex, no_exs, more_exs, no_gens, plain_node}
use Rattle.ess_semantics.specs.Types.{Ty, bool_ty, int_ty}
use Rattle.ess_semantics.specs.OperatorTypes.{type_of_op, type_of_list}
use Rattle.ess_semantics.specs.DeclaredTables.{TableDecl}
use Rattle.ess_semantics.specs.ModelMeaning as model
use Rattle.ess_semantics.specs.ModelMeaning.{kinded_node, kinded_name, kinded_cell, declaration_of}
use Rattle.eprime_tree.specs.declared.words.POp1.{POp1}
use Rattle.eprime_tree.specs.declared.words.POp2.{POp2}
use Rattle.eprime_tree.specs.declared.words.PFun.{PFun}
use Rattle.eprime_tree.specs.declared.expressions.PEx.{PEx}
use Rattle.eprime_tree.specs.declared.expressions.PList.{PList}
use Rattle.eprime_tree.specs.declared.expressions.PEx.TheVariants as ex
use Rattle.eprime_tree.specs.declared.expressions.PList.TheVariants as list
use Rattle.eprime_tree.specs.Views.{pure_op1, pure_op2, pure_fun, exs_of, pure_ex, pure_list}
use Rattle.eprime_tree.proofs.Equations.{pure_ex-Num, pure_ex-Truth, pure_ex-Name, pure_ex-Cell, pure_ex-One, pure_ex-Two, pure_ex-Fold, pure_ex-Lex, pure_list-Items}
use Rattle.eprime_eval_kinds.specs.declared.declared.Shape.{Shape}
use Rattle.eprime_eval_kinds.specs.declared.nodes.KindedEx.{KindedEx}
use Rattle.eprime_eval_kinds.specs.declared.lists.KindedList.{KindedList}
use Rattle.eprime_eval_kinds.specs.declared.lists.KindedRow.{KindedRow}
use Rattle.eprime_eval_kinds.specs.declared.tree.Kind.{Kind}
use Rattle.eprime_eval_kinds.specs.declared.tree.KEx.{KEx}
use Rattle.eprime_eval_kinds.specs.declared.tree.KEx.TheVariants as kex
use Rattle.eprime_eval_kinds.specs.KindedViews.{pure_kex, pure_kind, pure_kinded}
use Rattle.eprime_eval_kinds.specs.KindedLists.{pure_listed, pure_row}
use Rattle.eprime_eval_kinds.specs.Shapes.{shape_of, names_of}
use Rattle.eprime_eval_kinds.specs.Kinding.{IsKinded, AreKinded, IsKindedList}
use Rattle.eprime_eval_kinds.proofs.KindedEquations.{pure_kex_num}
use Rattle.eprime_eval_kinds.proofs.NodeForms.{node-types, one-node, items-node}

-- ---- expressions

pub number_kinded : (ss : List Shape) (g : Names Ty) (n : ℤ) (e : KEx) → e ≡ kex.Num n
    → IsKinded ss g (ex.Num n) (record { ex = e; kind = Kind.Int })
number_kinded ss g n e p = record {
  means = λ ds s h. ap (λ x. (pure_kex (names_of ss) x, int_ty)) p ∙ ap (λ x. (x, int_ty)) (pure_kex_num (names_of ss) n)
      ∙ sym (ap (λ e. model.kinded ds e g) (pure_ex-Num s n));
}

pub truth_kinded : (ss : List Shape) (g : Names Ty) (b : Bool) (k : KindedEx)
    → ((names : List Text) → pure_kinded names k ≡ (truth_ex b, bool_ty)) → IsKinded ss g (ex.Truth b) k
truth_kinded ss g b k p = record { means = λ ds s h. p (names_of ss) ∙ sym (ap (λ e. model.kinded ds e g) (pure_ex-Truth s b)) }

pub name_kinded : (ss : List Shape) (g : Names Ty) (a : Text) (k : KindedEx)
    → ((names : List Text) → pure_kinded names k ≡ kinded_name a (look g a)) → IsKinded ss g (ex.Name a) k
name_kinded ss g a k p = record { means = λ ds s h. p (names_of ss) ∙ sym (ap (λ e. model.kinded ds e g) (pure_ex-Name s a)) }

pub cell_kinded : (ss : List Shape) (g : Names Ty) (a : Text) (es : List PEx) (r : KindedRow) (k : KindedEx) → AreKinded ss g es r
    → ((ds : List TableDecl) → map shape_of ds ≡ ss
    → pure_kinded (names_of ss) k ≡ kinded_cell a (pure_row (names_of ss) r).0 (pure_row (names_of ss) r).1 (declaration_of ds a))
    → IsKinded ss g (ex.Cell a es) k
cell_kinded ss g a es r k q p = record {
  means = λ ds s h. p ds h ∙ ap (λ ks. kinded_cell a ks.0 ks.1 (declaration_of ds a)) (q.means ds s h)
      ∙ sym (ap (λ e. model.kinded ds e g) (pure_ex-Cell s a es));
}

pub one_kinded : (ss : List Shape) (g : Names Ty) (o : POp1) (a : PEx) (x k : KindedEx) → IsKinded ss g a x
    → ((names : List Text) → pure_kinded names k
    ≡ kinded_node (pure_op1 o) (more_exs (pure_kex names x.ex) no_exs) [] (type_of_op (pure_op1 o) (pure_kind x.kind ∷ [])))
    → IsKinded ss g (ex.One o a) k
one_kinded ss g o a x k q p = record {
  means = λ ds s h.
      p (names_of ss) ∙ ap (λ y. kinded_node (pure_op1 o) (more_exs y.0 no_exs) [] (type_of_op (pure_op1 o) (y.1 ∷ []))) (q.means ds s h)
      ∙ sym (one-node o (model.kinded ds (pure_ex s a) g)) ∙ sym (ap (λ e. model.kinded ds e g) (pure_ex-One s o a));
}

pub two_kinded : (ss : List Shape) (g : Names Ty) (o : POp2) (a b : PEx) (x y k : KindedEx) → IsKinded ss g a x → IsKinded ss g b y
    → ((names : List Text) → pure_kinded names k
    ≡ kinded_node (binary (pure_op2 o)) (more_exs (pure_kex names x.ex) (more_exs (pure_kex names y.ex) no_exs)) []
    (type_of_op (binary (pure_op2 o)) (pure_kind x.kind ∷ pure_kind y.kind ∷ [])))
    → IsKinded ss g (ex.Two o a b) k
two_kinded ss g o a b x y k q r p = record {
  means = λ ds s h.
      let u : model.Kinded = model.kinded ds (pure_ex s a) g in
      let v : model.Kinded = model.kinded ds (pure_ex s b) g in
      p (names_of ss) ∙ ap (λ w. kinded_node (binary (pure_op2 o)) (more_exs w.0 (more_exs (pure_kinded (names_of ss) y).0 no_exs)) []
      (type_of_op (binary (pure_op2 o)) (w.1 ∷ (pure_kinded (names_of ss) y).1 ∷ []))) (q.means ds s h)
      ∙ ap (λ w. kinded_node (binary (pure_op2 o)) (more_exs u.0 (more_exs w.0 no_exs)) []
      (type_of_op (binary (pure_op2 o)) (u.1 ∷ w.1 ∷ []))) (r.means ds s h)
      ∙ sym (node-types (binary (pure_op2 o)) (more_exs u.0 (more_exs v.0 no_exs)) (u.1 ∷ v.1 ∷ [])
      (type_of_op (binary (pure_op2 o)) (u.1 ∷ v.1 ∷ [])))
      ∙ sym (ap (λ e. model.kinded ds e g) (pure_ex-Two s o a b));
}

pub fold_kinded : (ss : List Shape) (g : Names Ty) (f : PFun) (l : PList) (x : Option KindedList) (k : KindedEx) → IsKindedList ss g l x
    → ((names : List Text) → pure_kinded names k
    ≡ kinded_node (word (pure_fun f)) (more_exs (pure_listed names x).0 no_exs) []
    (type_of_op (word (pure_fun f)) ((pure_listed names x).1 ∷ [])))
    → IsKinded ss g (ex.Fold f l) k
fold_kinded ss g f l x k q p = record {
  means = λ ds s h.
      let u : model.Kinded = model.kinded ds (pure_list s l) g in
      p (names_of ss) ∙ ap (λ w. kinded_node (word (pure_fun f)) (more_exs w.0 no_exs) [] (type_of_op (word (pure_fun f)) (w.1 ∷ [])))
      (q.means ds s h)
      ∙ sym (node-types (word (pure_fun f)) (more_exs u.0 no_exs) (u.1 ∷ []) (type_of_op (word (pure_fun f)) (u.1 ∷ [])))
      ∙ sym (ap (λ e. model.kinded ds e g) (pure_ex-Fold s f l));
}

pub lex_kinded : (ss : List Shape) (g : Names Ty) (o : POp2) (a b : PList) (x y : Option KindedList) (k : KindedEx) → IsKindedList ss g a x
    → IsKindedList ss g b y
    → ((names : List Text) → pure_kinded names k
    ≡ kinded_node (binary (pure_op2 o)) (more_exs (pure_listed names x).0 (more_exs (pure_listed names y).0 no_exs)) []
    (type_of_op (binary (pure_op2 o)) ((pure_listed names x).1 ∷ (pure_listed names y).1 ∷ [])))
    → IsKinded ss g (ex.Lex o a b) k
lex_kinded ss g o a b x y k q r p = record {
  means = λ ds s h.
      let u : model.Kinded = model.kinded ds (pure_list s a) g in
      let v : model.Kinded = model.kinded ds (pure_list s b) g in
      p (names_of ss) ∙ ap (λ w. kinded_node (binary (pure_op2 o)) (more_exs w.0 (more_exs (pure_listed (names_of ss) y).0 no_exs)) []
      (type_of_op (binary (pure_op2 o)) (w.1 ∷ (pure_listed (names_of ss) y).1 ∷ []))) (q.means ds s h)
      ∙ ap (λ w. kinded_node (binary (pure_op2 o)) (more_exs u.0 (more_exs w.0 no_exs)) []
      (type_of_op (binary (pure_op2 o)) (u.1 ∷ w.1 ∷ []))) (r.means ds s h)
      ∙ sym (node-types (binary (pure_op2 o)) (more_exs u.0 (more_exs v.0 no_exs)) (u.1 ∷ v.1 ∷ [])
      (type_of_op (binary (pure_op2 o)) (u.1 ∷ v.1 ∷ [])))
      ∙ sym (ap (λ e. model.kinded ds e g) (pure_ex-Lex s o a b));
}

-- ---- items

pub items_kinded : (ss : List Shape) (g : Names Ty) (es : List PEx) (r : KindedRow) (o : Option KindedList) → AreKinded ss g es r
    → ((names : List Text) → pure_listed names o ≡ kinded_node matrix_literal (pure_row names r).0 [] (type_of_list (pure_row names r).1))
    → IsKindedList ss g (list.Items es) o
items_kinded ss g es r o q p = record {
  means = λ ds s h.
      let ks : pure.Exs × List Ty = model.kinded_all ds (exs_of (map (pure_ex s) es)) g in
      p (names_of ss) ∙ ap (λ y. kinded_node matrix_literal y.0 [] (type_of_list y.1)) (q.means ds s h)
      ∙ sym (items-node ks.0 ks.1) ∙ sym (ap (λ e. model.kinded ds e g) (pure_list-Items s es));
}
