-- The rule of equal matrices keeps values.
use Rattle.std.proofs.Common.{◌≡◌, refl, sym, ap, ◌∙◌, subst, zero, suc, Bool, true, false, ◌&&◌, ◌||◌, if◌then◌else◌, length, List, [], ◌∷◌, Option, Some, None, option_map, arith}
use Rattle.std.specs.Prelude.{IsTrue, is_some}
use Rattle.std.specs.List.{list_all}
use Rattle.ess_semantics.specs.declared.words.Op2.{Op2}
use Rattle.ess_semantics.specs.Lists.{and_then}
use Rattle.ess_semantics.specs.Values.{Text, Value, truth, Values, nil, cons, to_list, matrix, a_matrix}
use Rattle.ess_semantics.specs.Order.{same, same_text}
use Rattle.ess_semantics.specs.Collections.{holds}
use Rattle.ess_semantics.specs.Names.{Names, look}
use Rattle.ess_semantics.specs.Trees.{by_value, index, name_pat, Ex, name_ex, node_ex, comp_ex, ex2, no_exs, more_exs, no_gens, over, Dom}
use Rattle.ess_semantics.specs.Types.{Ty, compound2, is_bool}
use Rattle.ess_semantics.specs.Typing.{type_of}
use Rattle.ess_semantics.specs.TypeMembers.{is_of_type}
use Rattle.ess_semantics.specs.Typed.{Typed}
use Rattle.ess_semantics.specs.Operators.{item_at, as_truth, value_of_node, list_value}
use Rattle.ess_semantics.specs.Meaning.{Env, meaning, collect, domain_of, members_in}
use Rattle.ess_semantics.specs.Contexts.{Each, EachOf}
use Rattle.ess_semantics.proofs.Orders.{same-itself}
use Rattle.ess_semantics.proofs.Tests.{and-left, and-right, or-yes}
use Rattle.ess_rules_laws.specs.Rules.{Unused}
use Rattle.ess_rules_laws.specs.MatrixRules.{some_over, item_of, lies_in, equal_each_at, both_matrices, equal_matrices, UnusedDom}
use Rattle.ess_rules_laws.specs.PartLookups.{indices_of, IndexedBy}
use Rattle.ess_rules_laws.proofs.Simulation.{but}
use Rattle.ess_rules_laws.proofs.Agreement.{look-itself, agree-but, domain-agree}
use Rattle.ess_rules_laws.proofs.Bindings.{each-map}
use Rattle.ess_rules_laws.proofs.Connectives.{and-means}
use Rattle.ess_rules_laws.proofs.RuleAnswers.{both-there, behind, meaning-behind, name-behind, each-any}
use Rattle.ess_rules_laws.proofs.TupleRuns.{each-held}
use Rattle.ess_rules_laws.proofs.MatrixItems.{MatrixOf, matrix-value}
use Rattle.ess_rules_laws.proofs.MatrixRules.{lies-means}
use Rattle.ess_refine_laws.specs.AllRules.{equal_matrices_at, Supply, matrices_at}
use Rattle.ess_refine_laws.specs.WhatRulesCountOn.{CountsOn}
use Rattle.ess_values_along_laws.specs.Valued.{Valued, DomValued}
use Rattle.ess_rules_values_laws.proofs.ValuedAgreement.{valued-behind}
use Rattle.ess_values_terms_laws.specs.TermsKeepValues.{is_compound}
use Rattle.ess_values_terms_laws.proofs.ValuedForms.{there, by-compound, node-valued}
use Rattle.ess_values_terms_laws.proofs.ValuedLists.{name-valued, item-there}
use Rattle.ess_values_sources_laws.proofs.ValuedSimulation.{dom-valued-agree}
use Rattle.ess_values_sources_laws.proofs.CollectedLists.{some-each, some-list}
use Rattle.ess_values_matrices_laws.specs.MatricesKeepValues.{ComparesMatrices, AxesValued, MatricesKeepValues}

-- ---- values that are held

held-each : (P : Value → Type 0) (xs : List Value) → ((v : Value) → holds xs v ≡ true → P v) → Each xs P
held-each P [] f = tt
held-each P (x ∷ xs) f =
    (f x (ap (λ b. b || holds xs x) (same-itself x)), held-each P xs (λ v h. f v (ap (λ b. same x v || b) h ∙ or-yes (same x v))))

each-so : (f : Value → Bool) (xs : List Value) → list_all f xs ≡ true → Each xs (λ v. f v ≡ true)
each-so f [] h = tt
each-so f (x ∷ xs) h = (and-left (f x) (list_all f xs) h, each-so f xs (and-right (f x) (list_all f xs) h))

-- The item at an index that the matrix has.
item-held : (is xs : Values) (w : Value) → length (to_list is) ≡ length (to_list xs) → holds (to_list is) w ≡ true →
    IsTrue (is_some (item_at is xs w))
item-held (cons i is) (cons x xs) w n h = go (same i w) h (λ z. item-held is xs w (omega (arith, n)) z)
  where
    go : (b : Bool) → b || holds (to_list is) w ≡ true → (holds (to_list is) w ≡ true → IsTrue (is_some (item_at is xs w))) →
        IsTrue (is_some (if b then Some x else item_at is xs w))
    go true h r = refl
    go false h r = r h
item-held (cons i is) nil w n h = absurd (let z : suc (length (to_list is)) ≡ zero = n in omega arith)
item-held nil xs w n h = cc

-- ---- quantifiers over a domain

module _ (x : Text) (d : Dom) (body : Ex) (env : Env) where
  -- A list over a domain.
  over-there : (o : Option (List Value)) → IsTrue (is_some o) → EachOf o (λ v. Valued false body (behind x v env)) →
      IsTrue (is_some (option_map list_value (and_then o (λ vs. collect vs (λ v. option_map (λ u. u ∷ []) (meaning body
      (behind x v env)))))))
  over-there None h e = h
  over-there (Some vs) h e = some-list (collect vs (λ v. option_map (λ u. u ∷ []) (meaning body (behind x v env))))
      (some-each vs (λ v. option_map (λ u. u ∷ []) (meaning body (behind x v env)))
      (each-map vs _ _ (λ v k. item-there (meaning body (behind x v env)) (there body (behind x v env) k)) e))

  over-valued : (w : Bool) → DomValued d env → IsTrue (is_some (members_in (domain_of d env))) →
      EachOf (members_in (domain_of d env)) (λ v. Valued false body (behind x v env)) →
      Valued w (comp_ex body (over (name_pat x) d no_gens)) env
  over-valued w h i e = (over-there (members_in (domain_of d env)) i e, (h, e))

of-any : (o : Option (List Value)) (P : Value → Type 0) → ((v : Value) → P v) → EachOf o P
of-any None P f = tt
of-any (Some vs) P f = each-any vs P f

module _ (x y : Text) (env : Env) where
  -- The first name behind the second one.
  name-still : (w : Bool) (v u : Value) → Valued w (name_ex x) (behind y u (behind x v env))
  name-still w v u = go (same_text y x)
    where
      go : (b : Bool) → IsTrue (is_some (if b then Some u else look ((x, v) ∷ env.vals) x))
      go true = refl
      go false = subst (λ o. IsTrue (is_some o)) (sym (look-itself x v env.vals)) refl

  -- That a domain lies in another one.
  lies-valued : (w : Bool) (d c : Dom) → UnusedDom x c → DomValued d env → DomValued c env →
      IsTrue (is_some (members_in (domain_of d env))) → IsTrue (is_some (members_in (domain_of c env))) → Valued w (lies_in x y d c) env
  lies-valued w d c n h k i j = (
    tt,
    (
      over-valued x d (some_over y c (ex2 true Op2.Eq (name_ex y) (name_ex x))) env false h i
          (of-any (members_in (domain_of d env)) _ (λ v. (
            tt,
            (
              over-valued y c (ex2 true Op2.Eq (name_ex y) (name_ex x)) (behind x v env) false
                  (dom-valued-agree env.positions env.types env.cells (but x) c env.vals ((x, v) ∷ env.vals) n (agree-but x v env.vals) k)
                  (subst (λ z. IsTrue (is_some (members_in z)))
                  (sym (domain-agree env.positions env.types env.cells (but x) c env.vals ((x, v) ∷ env.vals) n
                  (agree-but x v env.vals))) j)
                  (of-any (members_in (domain_of c (behind x v env))) _
                  (λ u. (tt, (name-valued y u (behind x v env) true, (name-still true v u, tt))))),
              tt,
            ),
          ))),
      tt,
    ),
  )

-- ---- items at an index

index-there : (o p : Option Value) (is xs : Values) (i : Value) → o ≡ Some (matrix is xs) → p ≡ Some i →
    IsTrue (is_some (item_at is xs i)) → IsTrue (is_some (value_of_node (index (by_value ∷ [])) (o ∷ p ∷ [])))
index-there o p is xs i q r h = subst (λ z. IsTrue (is_some (value_of_node (index (by_value ∷ [])) (z ∷ p ∷ [])))) (sym q)
    (subst (λ z. IsTrue (is_some (value_of_node (index (by_value ∷ [])) (Some (matrix is xs) ∷ z ∷ [])))) (sym r) (one (item_at is xs i) h))
  where
    one : (o : Option Value) → IsTrue (is_some o) → IsTrue (is_some (and_then o (λ w. Some w)))
    one None h = h
    one (Some w) h = refl

item-valued : (x : Text) (t : Ty) (a : Ex) (env : Env) (is xs : Values) (i : Value) (w : Bool) → Unused x a → Valued false a env →
    meaning a env ≡ Some (matrix is xs) → IsTrue (is_some (item_at is xs i)) → Valued w (item_of t a (name_ex x)) (behind x i env)
item-valued x t a env is xs i w n v q h =
    node-valued (is_bool (Some t)) w (index (by_value ∷ [])) (more_exs a (more_exs (name_ex x) no_exs)) (behind x i env) refl
    (at (is_bool (Some t))) (valued-behind x i a env false n v, (name-valued x i env false, tt))
  where
    at : (b : Bool) →
        IsTrue (is_some (meaning (node_ex b (index (by_value ∷ [])) (more_exs a (more_exs (name_ex x) no_exs))) (behind x i env)))
    at true = refl
    at false = index-there (meaning a (behind x i env)) (meaning (name_ex x) (behind x i env)) is xs i (meaning-behind x i a env n ∙ q)
        (name-behind x i env) h

-- ---- the rule

module _ (x y : Text) (apart : same_text y x ≡ false) (d c : Dom) (a b : Ex) (env : Env) (v w : Value) (new-a : Unused x a)
    (new-b : Unused x b) (new-d : UnusedDom x d) (new-c : UnusedDom x c) (j : meaning a env ≡ Some v) (k : meaning b env ≡ Some w)
    (by : IndexedBy a d env) (other : IndexedBy b c env) (va : Valued false a env) (vb : Valued false b env) (vd : DomValued d env)
    (vc : DomValued c env) where
  some-so : (o : Option (List Value)) (us : List Value) → o ≡ Some us → IsTrue (is_some o)
  some-so None us q = cc
  some-so (Some vs) us q = refl

  -- Of two matrices.
  both : (z : Bool) (t u : Ty) → MatrixOf env.positions env.types t v → MatrixOf env.positions env.types u w →
      Valued z (ex2 true Op2.And (ex2 true Op2.And (lies_in x y d c) (lies_in x y c d)) (equal_each_at x d t u a b)) env
  both z t u m n = (
    tt,
    (
      (tt, (lies-valued x y env false d c new-c vd vc i l, λ s. (lies-valued x y env false c d new-d vc vd l i, tt))),
      λ s. (equal (and-left inside outside (ap as_truth (sym tested) ∙ s)), tt),
    ),
  )
    where
      left : members_in (domain_of d env) ≡ Some (to_list m.indices)
      left = sym by.indices ∙ ap (option_map indices_of) (j ∙ ap Some m.is_matrix)

      right : members_in (domain_of c env) ≡ Some (to_list n.indices)
      right = sym other.indices ∙ ap (option_map indices_of) (k ∙ ap Some n.is_matrix)

      i : IsTrue (is_some (members_in (domain_of d env)))
      i = some-so (members_in (domain_of d env)) (to_list m.indices) left

      l : IsTrue (is_some (members_in (domain_of c env)))
      l = some-so (members_in (domain_of c env)) (to_list n.indices) right

      inside : Bool
      inside = list_all (holds (to_list n.indices)) (to_list m.indices)

      outside : Bool
      outside = list_all (holds (to_list m.indices)) (to_list n.indices)

      tested : meaning (ex2 true Op2.And (lies_in x y d c) (lies_in x y c d)) env ≡ Some (truth (inside && outside))
      tested = and-means env (lies_in x y d c) (lies_in x y c d) inside outside
          (lies-means x y apart d c env new-c (to_list m.indices) (to_list n.indices) left right)
          (lies-means x y apart c d env new-d (to_list n.indices) (to_list m.indices) right left)

      equal : inside ≡ true → Valued false (equal_each_at x d t u a b) env
      equal h = (
        tt,
        (
          over-valued x d (ex2 true Op2.Eq (item_of t a (name_ex x)) (item_of u b (name_ex x))) env false vd i
              (subst (λ o. EachOf o
              (λ i. Valued false (ex2 true Op2.Eq (item_of t a (name_ex x)) (item_of u b (name_ex x))) (behind x i env)))
              (sym left) (held-each _ (to_list m.indices) (λ i e. (
                tt,
                (
                  item-valued x t a env m.indices m.parts i true new-a va (j ∙ ap Some m.is_matrix)
                      (item-held m.indices m.parts i m.as_many e),
                  (
                    item-valued x u b env n.indices n.parts i true new-b vb (k ∙ ap Some n.is_matrix)
                        (item-held n.indices n.parts i n.as_many (each-held (to_list m.indices)
                        (λ v. holds (to_list n.indices) v ≡ true) i (each-so (holds (to_list n.indices)) (to_list m.indices) h) e)),
                    tt,
                  ),
                ),
              )))),
          tt,
        ),
      )

-- What is answered has values.
abbrev Answered : Bool → Option Ex → Env → Type 0
Answered w None env = Unit {0}
Answered w (Some f) env = Valued w f env

of-types : (o q : Option Ty) (x y : Text) → same_text y x ≡ false → (d c : Dom) (a b : Ex) (env : Env) (v u : Value) → Unused x a →
    Unused x b → UnusedDom x d → UnusedDom x c → meaning a env ≡ Some v → meaning b env ≡ Some u → IndexedBy a d env → IndexedBy b c env →
    Valued false a env → Valued false b env → DomValued d env → DomValued c env →
    ((s : Ty) → o ≡ Some s → IsTrue (is_of_type s env v)) → ((s : Ty) → q ≡ Some s → IsTrue (is_of_type s env u)) → (w : Bool) →
    Answered w (both_matrices o q
    (λ t u. ex2 true Op2.And (ex2 true Op2.And (lies_in x y d c) (lies_in x y c d)) (equal_each_at x d t u a b))) env
of-types (Some (compound2 a_matrix i t)) (Some (compound2 a_matrix l r)) x y p d c a b env v u na nb nd nc j k by other va vb vd vc f g w =
    both x y p d c a b env v u na nb nd nc j k by other va vb vd vc w t r
    (matrix-value env.positions env.types i t v (f (compound2 a_matrix i t) refl))
    (matrix-value env.positions env.types l r u (g (compound2 a_matrix l r) refl))
of-types _ _ x y p d c a b env v u na nb nd nc j k by other va vb vd vc f g w = tt

of-two : (s : Supply) (g : Names Ty) (m : Bool) (o : Op2) (a b : Ex) (env : Env) → Typed g env → ComparesMatrices (ex2 m o a b) →
    CountsOn s g equal_matrices_at (ex2 m o a b) env → AxesValued s (ex2 m o a b) env → (w : Bool) → Valued w (ex2 m o a b) env →
    Answered w (equal_matrices (s.index_domain a) (s.index_domain b) g s.one s.other (ex2 m o a b)) env
of-two s g true Op2.Eq a b env t n c x w h =
    let r = both-there (meaning a env) (meaning b env) c.2 in
    let va = by-compound a env true (and-left (is_compound a) (is_compound b && true) n) h.1.0 in
    let vb = by-compound b env true (and-left (is_compound b) true (and-right (is_compound a) (is_compound b && true) n)) h.1.1.0 in
    of-types (type_of a g) (type_of b g) s.one s.other c.3.0 (s.index_domain a) (s.index_domain b) a b env r.0 r.1 c.0.0 c.0.1.0 c.3.1 c.3.2
    r.2 r.3 c.3.3.0 c.3.3.1 va vb x.0 x.1 (λ y p. c.1.0 y p env t r.0 r.2) (λ y p. c.1.1.0 y p env t r.1 r.3) w
of-two s g _ _ a b env t n c x w h = tt

answer : (s : Supply) (g : Names Ty) (e : Ex) (env : Env) → Typed g env → ComparesMatrices e → CountsOn s g equal_matrices_at e env →
    AxesValued s e env → (w : Bool) → Valued w e env → Answered w (matrices_at s g e) env
answer s g (ex2 m o a b) env t n c x w h = of-two s g m o a b env t n c x w h
answer s g _ env t n c x w h = tt

-- What is proved of equal matrices and values.
pub matrices-keep-values : MatricesKeepValues
matrices-keep-values = λ s g e f q n env t c x w h.
    subst (λ z. Answered w z env) q (answer s g e env t n c x w h)
