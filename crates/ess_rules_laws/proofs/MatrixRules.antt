-- The rules of `=` between matrices keep what they rewrite.
use Rattle.std.proofs.Common.{◌≡◌, refl, sym, ap, ◌∙◌, subst, Bool, true, false, not, if◌then◌else◌, List, [], ◌∷◌, length, zero, suc, Option, Some, None, option_map, arith}
use Rattle.std.specs.Prelude.{IsTrue}
use Rattle.std.specs.List.{list_all, list_any}
use Rattle.ess_semantics.specs.declared.words.Op1.{Op1}
use Rattle.ess_semantics.specs.declared.words.Op2.{Op2}
use Rattle.ess_semantics.specs.declared.words.Fun.{Fun}
use Rattle.ess_semantics.specs.Lists.{and_then}
use Rattle.ess_semantics.specs.Values.{Text, a_matrix, Value, truth, Values, nil, cons, matrix, to_list, of_list, items_of}
use Rattle.ess_semantics.specs.Order.{same, same_text}
use Rattle.ess_semantics.specs.Collections.{holds}
use Rattle.ess_semantics.specs.Names.{Names}
use Rattle.ess_semantics.specs.Trees.{binary, by_value, index, matrix_literal, name_pat, Ex, truth_ex, name_ex, node_ex, comp_ex, ex1, ex2, fun1, no_exs, no_gens, over, from, Dom}
use Rattle.ess_semantics.specs.Types.{Ty, compound2, is_bool}
use Rattle.ess_semantics.specs.Typing.{type_of}
use Rattle.ess_semantics.specs.Typed.{Typed}
use Rattle.ess_semantics.specs.TypeMembers.{is_of, is_of_type}
use Rattle.ess_semantics.specs.Operators.{item_at, value_of_node, false_where_undefined}
use Rattle.ess_semantics.specs.Meaning.{Env, TypeEntry, meaning, domain_of, members_in, collect}
use Rattle.ess_semantics.specs.Contexts.{EachOf}
use Rattle.ess_semantics.specs.Meets.{Meets, MeetsDom}
use Rattle.ess_semantics.proofs.Orders.{of_list-to_list}
use Rattle.ess_rules_laws.specs.Rules.{Unused, SoundOperands, OperandsThere}
use Rattle.ess_rules_laws.specs.PartLookups.{indices_of, IndexedBy}
use Rattle.ess_rules_laws.specs.MatrixRules.{every_over, some_over, item_of, lies_in, equal_each_at, both_matrices, equal_items, equal_matrices, is_matrix, equal_to_nothing, BothIndexed, UnusedDom, MatrixRulesKeep}
use Rattle.ess_rules_laws.proofs.Simulation.{but}
use Rattle.ess_rules_laws.proofs.Agreement.{agree-but, domain-agree}
use Rattle.ess_rules_laws.proofs.MeetsSimulation.{meets-agree-dom}
use Rattle.ess_rules_laws.proofs.RuleAnswers.{AnswerKeeps, fires, both-there, behind, meaning-behind, name-behind, meets-behind, each-any, each-in-any, any-over}
use Rattle.ess_rules_laws.proofs.Connectives.{binary-means, and-means, not-means, all-means, any-means, bits, collect-bits, all-bits, any-bits}
use Rattle.ess_rules_laws.proofs.Horizontal.{any-holds}
use Rattle.ess_rules_laws.proofs.Unordered.{same-turned}
use Rattle.ess_rules_laws.proofs.ListIndices.{list-indexed}
use Rattle.ess_rules_laws.proofs.MatrixItems.{MatrixOf, matrix-value, equal_options, equal-there, matrices-equal}

-- ---- quantifiers over a domain

module _ (x : Text) (d : Dom) (body : Ex) (env : Env) (f : Value → Bool) (vs : List Value) (q : members_in (domain_of d env) ≡ Some vs)
    (means : (v : Value) → meaning body (behind x v env) ≡ Some (truth (f v))) where
  collected : and_then (members_in (domain_of d env)) (λ us. collect us (λ v. option_map (λ u. u ∷ []) (meaning body (behind x v env))))
      ≡ Some (bits f vs)
  collected =
      ap (λ o. and_then o (λ us. collect us (λ v. option_map (λ u. u ∷ []) (meaning body (behind x v env))))) q
      ∙ collect-bits vs _ f (each-any vs _ (λ v. ap (option_map (λ u. u ∷ [])) (means v)))

  -- `and([body | x : d])`.
  pub every-means : meaning (every_over x d body) env ≡ Some (truth (list_all f vs))
  every-means = all-means env body (over (name_pat x) d no_gens) (bits f vs) collected ∙ ap (λ b. Some (truth b)) (all-bits f vs)

  -- `or([body | x : d])`.
  pub some-means : meaning (some_over x d body) env ≡ Some (truth (list_any f vs))
  some-means = any-means env body (over (name_pat x) d no_gens) (bits f vs) collected ∙ ap (λ b. Some (truth b)) (any-bits f vs)

-- What holds of any value holds at each value.
pub each-of-any : (o : Option (List Value)) (P : Value → Type 0) → ((v : Value) → P v) → EachOf o P
each-of-any None P f = tt
each-of-any (Some vs) P f = each-any vs P f

-- The structures of such a quantifier are met where those of its domain and of its body are.
pub over-met : (x : Text) (d : Dom) (body : Ex) (env : Env) → MeetsDom d env → ((v : Value) → Meets body (behind x v env)) →
    Meets (every_over x d body) env
over-met x d body env m f = ((m, each-of-any (members_in (domain_of d env)) (λ v. Meets body (behind x v env)) f), tt)

-- ---- a domain in another one

module _ (x y : Text) (apart : same_text y x ≡ false) (d c : Dom) (env : Env) (new : UnusedDom x c) where
  -- The value of x behind y.
  other-name : (v w : Value) → meaning (name_ex x) (behind y w (behind x v env)) ≡ Some v
  other-name v w = ap (λ b. if b then Some w else meaning (name_ex x) (behind x v env)) apart ∙ name-behind x v env

  domain-behind : (v : Value) → domain_of c (behind x v env) ≡ domain_of c env
  domain-behind v = domain-agree env.positions env.types env.cells (but x) c env.vals ((x, v) ∷ env.vals) new (agree-but x v env.vals)

  pub lies-means : (us vs : List Value) → members_in (domain_of d env) ≡ Some us → members_in (domain_of c env) ≡ Some vs →
      meaning (lies_in x y d c) env ≡ Some (truth (list_all (holds vs) us))
  lies-means us vs q r = every-means x d (some_over y c (ex2 true Op2.Eq (name_ex y) (name_ex x))) env (holds vs) us q
      (λ v. some-means y c (ex2 true Op2.Eq (name_ex y) (name_ex x)) (behind x v env) (λ w. same w v) vs
      (ap members_in (domain-behind v) ∙ r)
      (λ w. binary-means (behind y w (behind x v env)) true Op2.Eq (name_ex y) (name_ex x) w v (name-behind y w (behind x v env))
      (other-name v w))
      ∙ ap (λ b. Some (truth b)) (any-holds vs v))

  pub lies-met : MeetsDom d env → MeetsDom c env → Meets (lies_in x y d c) env
  lies-met m n = over-met x d (some_over y c (ex2 true Op2.Eq (name_ex y) (name_ex x))) env m
      (λ v. (
        (
          meets-agree-dom env.positions env.types env.cells (but x) c env.vals ((x, v) ∷ env.vals) new (agree-but x v env.vals) n,
          each-of-any (members_in (domain_of c (behind x v env))) _ (λ w. (tt, (tt, tt))),
        ),
        tt,
      ))

-- ---- items at an index

-- The item at the new name.
item-behind : (x : Text) (t : Ty) (a : Ex) (env : Env) (is xs : Values) → Unused x a → meaning a env ≡ Some (matrix is xs) → (v : Value) →
    meaning (item_of t a (name_ex x)) (behind x v env) ≡ false_where_undefined (is_bool (Some t)) (item_at is xs v)
item-behind x t a env is xs new q v =
    ap (λ o. false_where_undefined (is_bool (Some t))
    (value_of_node (index (by_value ∷ [])) (o ∷ meaning (name_ex x) (behind x v env) ∷ []))) (meaning-behind x v a env new ∙ q)
    ∙ ap (λ o. false_where_undefined (is_bool (Some t)) (value_of_node (index (by_value ∷ [])) (Some (matrix is xs) ∷ o ∷ [])))
    (name-behind x v env)
    ∙ ap (false_where_undefined (is_bool (Some t))) (itself (item_at is xs v))
  where
    itself : (o : Option Value) → and_then o (λ w. Some w) ≡ o
    itself None = refl
    itself (Some w) = refl

-- Two matrices that are there, with the index domains d and c.
module _ (x : Text) (d : Dom) (t u : Ty) (a b : Ex) (env : Env) (v w : Value) (new-a : Unused x a) (new-b : Unused x b)
    (j : meaning a env ≡ Some v) (k : meaning b env ≡ Some w) (m : MatrixOf env.positions env.types t v)
    (n : MatrixOf env.positions env.types u w)
    (by : IndexedBy a d env) where
  at-each : (i : Value) → meaning (ex2 true Op2.Eq (item_of t a (name_ex x)) (item_of u b (name_ex x))) (behind x i env)
      ≡ Some (truth (equal_options t u (item_at m.indices m.parts i) (item_at n.indices n.parts i)))
  at-each i =
      ap (λ o. false_where_undefined true (value_of_node (binary Op2.Eq) (o ∷ meaning (item_of u b (name_ex x)) (behind x i env) ∷ [])))
      (item-behind x t a env m.indices m.parts new-a (j ∙ ap Some m.is_matrix) i)
      ∙ ap (λ o. false_where_undefined true
      (value_of_node (binary Op2.Eq) (false_where_undefined (is_bool (Some t)) (item_at m.indices m.parts i) ∷ o ∷ [])))
      (item-behind x u b env n.indices n.parts new-b (k ∙ ap Some n.is_matrix) i)

  left-domain : members_in (domain_of d env) ≡ Some (to_list m.indices)
  left-domain = sym by.indices ∙ ap (option_map indices_of) (j ∙ ap Some m.is_matrix)

  each-means : meaning (equal_each_at x d t u a b) env
      ≡ Some (truth (list_all (λ i. equal_options t u (item_at m.indices m.parts i) (item_at n.indices n.parts i)) (to_list m.indices)))
  each-means = every-means x d (ex2 true Op2.Eq (item_of t a (name_ex x)) (item_of u b (name_ex x))) env
      (λ i. equal_options t u (item_at m.indices m.parts i) (item_at n.indices n.parts i)) (to_list m.indices) left-domain at-each

  each-met : Meets a env → Meets b env → Meets (equal_each_at x d t u a b) env
  each-met p q = over-met x d (ex2 true Op2.Eq (item_of t a (name_ex x)) (item_of u b (name_ex x))) env by.met
      (λ i. ((meets-behind x i a env new-a p, (tt, tt)), ((meets-behind x i b env new-b q, (tt, tt)), tt)))

  one-domain : IndexedBy b d env → meaning (ex2 true Op2.Eq a b) env ≡ meaning (equal_each_at x d t u a b) env
  one-domain other =
      let e : Some (to_list m.indices) ≡ Some (to_list n.indices) = sym left-domain ∙ sym other.indices
      ∙ ap (option_map indices_of) (k ∙ ap Some n.is_matrix) in
      let l : m.indices ≡ n.indices = sym (of_list-to_list m.indices) ∙ ap of_list (some-same (to_list m.indices) (to_list n.indices) e)
      ∙ of_list-to_list n.indices in
      binary-means env true Op2.Eq a b v w j k ∙ ap (λ z. Some (truth (same z w))) m.is_matrix
      ∙ ap (λ z. Some (truth (same (matrix m.indices m.parts) z))) n.is_matrix
      ∙ ap (λ z. Some (truth z)) (at-one n.indices l n.parts n.as_many n.typed) ∙ sym each-means
    where
      some-same : (xs ys : List Value) → Some xs ≡ Some ys → xs ≡ ys
      some-same xs ys e = ap (λ o. elim o [ Some zs ↦ zs | None ↦ [] ]) e

      at-one : (js : Values) → m.indices ≡ js → (ys : Values) → length (to_list js) ≡ length (to_list ys) →
          list_all (is_of env.positions env.types u) (to_list ys) ≡ true →
          same (matrix m.indices m.parts) (matrix js ys)
          ≡ list_all (λ i. equal_options t u (item_at m.indices m.parts i) (item_at js ys i)) (to_list m.indices)
      at-one js e ys len h = subst
          (λ z. same (matrix m.indices m.parts) (matrix z ys)
          ≡ list_all (λ i. equal_options t u (item_at m.indices m.parts i) (item_at z ys i)) (to_list m.indices)) e
          (equal-there env.positions env.types t u m.indices m.parts ys m.rising m.as_many (ap (λ z. length (to_list z)) e ∙ len) m.typed h)

  module _ (y : Text) (apart : same_text y x ≡ false) (c : Dom) (other : IndexedBy b c env) (new-d : UnusedDom x d)
      (new-c : UnusedDom x c) where
    right-domain : members_in (domain_of c env) ≡ Some (to_list n.indices)
    right-domain = sym other.indices ∙ ap (option_map indices_of) (k ∙ ap Some n.is_matrix)

    abbrev Inside : Ex
    Inside = ex2 true Op2.And (lies_in x y d c) (lies_in x y c d)

    two-domains : meaning (ex2 true Op2.Eq a b) env ≡ meaning (ex2 true Op2.And Inside (equal_each_at x d t u a b)) env
    two-domains =
        binary-means env true Op2.Eq a b v w j k ∙ ap (λ z. Some (truth (same z w))) m.is_matrix
        ∙ ap (λ z. Some (truth (same (matrix m.indices m.parts) z))) n.is_matrix
        ∙ ap (λ z. Some (truth z))
        (matrices-equal env.positions env.types t u m.indices n.indices m.parts n.parts m.rising n.rising m.as_many n.as_many m.typed n.typed)
        ∙ sym (and-means env Inside (equal_each_at x d t u a b) _ _
        (and-means env (lies_in x y d c) (lies_in x y c d) _ _
        (lies-means x y apart d c env new-c (to_list m.indices) (to_list n.indices) left-domain right-domain)
        (lies-means x y apart c d env new-d (to_list n.indices) (to_list m.indices) right-domain left-domain))
        each-means)

-- ---- the rules

one-answer : (o q : Option Ty) (d : Dom) (x : Text) (a b : Ex) (env : Env) (v w : Value) → Unused x a → Unused x b →
    meaning a env ≡ Some v → meaning b env ≡ Some w →
    ((s : Ty) → o ≡ Some s → IsTrue (is_of_type s env v)) → ((s : Ty) → q ≡ Some s → IsTrue (is_of_type s env w)) → IndexedBy a d env →
    IndexedBy b d env →
    AnswerKeeps (both_matrices o q (λ t u. equal_each_at x d t u a b)) (ex2 true Op2.Eq a b) env
one-answer (Some (compound2 a_matrix i t)) (Some (compound2 a_matrix l u)) d x a b env v w new-a new-b j k f g by other =
    let m = matrix-value env.positions env.types i t v (f (compound2 a_matrix i t) refl) in
    let n = matrix-value env.positions env.types l u w (g (compound2 a_matrix l u) refl) in
    λ h. (one-domain x d t u a b env v w new-a new-b j k m n by other, each-met x d t u a b env v w new-a new-b j k m n by h.0 h.1.0)
one-answer _ _ d x a b env v w new-a new-b j k f g by other = tt

items-answer : (d : Dom) (g : Names Ty) (x : Text) (e : Ex) → Unused x e → SoundOperands g e → (env : Env) → Typed g env →
    OperandsThere e env →
    BothIndexed d d e env → AnswerKeeps (equal_items d g x e) e env
items-answer d g x (ex2 true Op2.Eq a b) o s env t h by = let r = both-there (meaning a env) (meaning b env) h in
    one-answer (type_of a g) (type_of b g) d x a b env r.0 r.1 o.0 o.1.0 r.2 r.3 (λ y p. s.0 y p env t r.0 r.2)
    (λ y p. s.1.0 y p env t r.1 r.3) by.0 by.1
items-answer d g x _ o s env t h by = tt

two-answer : (o q : Option Ty) (d c : Dom) (x y : Text) → same_text y x ≡ false → (a b : Ex) (env : Env) (v w : Value) → Unused x a →
    Unused x b → UnusedDom x d → UnusedDom x c →
    meaning a env ≡ Some v → meaning b env ≡ Some w →
    ((s : Ty) → o ≡ Some s → IsTrue (is_of_type s env v)) → ((s : Ty) → q ≡ Some s → IsTrue (is_of_type s env w)) → IndexedBy a d env →
    IndexedBy b c env →
    AnswerKeeps (both_matrices o q
    (λ t u. ex2 true Op2.And (ex2 true Op2.And (lies_in x y d c) (lies_in x y c d)) (equal_each_at x d t u a b)))
    (ex2 true Op2.Eq a b) env
two-answer (Some (compound2 a_matrix i t))
    (Some (compound2 a_matrix l u)) d c x y apart a b env v w new-a new-b new-d new-c j k f g by other =
    let m = matrix-value env.positions env.types i t v (f (compound2 a_matrix i t) refl) in
    let n = matrix-value env.positions env.types l u w (g (compound2 a_matrix l u) refl) in
    λ h. (
      two-domains x d t u a b env v w new-a new-b j k m n by y apart c other new-d new-c,
      (
        (lies-met x y apart d c env new-c by.met other.met, λ z. (lies-met x y apart c d env new-d other.met by.met, tt)),
        λ z. (each-met x d t u a b env v w new-a new-b j k m n by h.0 h.1.0, tt),
      ),
    )
two-answer _ _ d c x y apart a b env v w new-a new-b new-d new-c j k f g by other = tt

matrices-answer : (d c : Dom) (g : Names Ty) (x y : Text) (e : Ex) → same_text y x ≡ false → Unused x e → UnusedDom x d → UnusedDom x c →
    SoundOperands g e →
    (env : Env) → Typed g env → OperandsThere e env → BothIndexed d c e env → AnswerKeeps (equal_matrices d c g x y e) e env
matrices-answer d c g x y (ex2 true Op2.Eq a b) apart o new-d new-c s env t h by = let r = both-there (meaning a env) (meaning b env) h in
    two-answer (type_of a g) (type_of b g) d c x y apart a b env r.0 r.1 o.0 o.1.0 new-d new-c r.2 r.3 (λ z p. s.0 z p env t r.0 r.2)
    (λ z p. s.1.0 z p env t r.1 r.3) by.0 by.1
matrices-answer d c g x y _ apart o new-d new-c s env t h by = tt

-- ---- the empty list

-- Whether some item is there.
abbrev There : Text → Ex → Ex
There x a = fun1 true Fun.Or (comp_ex (truth_ex true) (from (name_pat x) a no_gens))

-- That a matrix has no item.
abbrev Nothing : Text → Ex → Ex
Nothing x a = ex1 true Op1.Not (There x a)

nothing-means : (x : Text) (a : Ex) (env : Env) (p : Bool) (es : List TypeEntry) (t : Ty) (v : Value) → meaning a env ≡ Some v →
    MatrixOf p es t v →
    meaning (Nothing x a) env ≡ Some (truth (same v (matrix nil nil)))
nothing-means x a env p es t v j m =
    not-means env (There x a) (list_any (λ w. true) (items_of v)) (any-over x a (truth_ex true) env (λ w. true) (λ w. refl) v j)
    ∙ ap (λ z. Some (truth (not (list_any (λ w. true) (items_of z))))) m.is_matrix
    ∙ ap (λ z. Some (truth z)) (go m.indices m.parts m.as_many)
    ∙ sym (ap (λ z. Some (truth (same z (matrix nil nil)))) m.is_matrix)
  where
    go : (is xs : Values) → length (to_list is) ≡ length (to_list xs) →
        not (list_any (λ w. true) (to_list xs)) ≡ same (matrix is xs) (matrix nil nil)
    go nil nil n = refl
    go nil (cons y ys) n = absurd (let z : zero ≡ suc (length (to_list ys)) = n in omega arith)
    go (cons i is) nil n = absurd (let z : suc (length (to_list is)) ≡ zero = n in omega arith)
    go (cons i is) (cons y ys) n = refl

nothing-met : (x : Text) (a : Ex) (env : Env) → Meets a env → Meets (Nothing x a) env
nothing-met x a env m = (((m, each-in-any (meaning a env) _ (λ v. tt)), tt), tt)

-- With the type of the matrix.
empty-answer : (o : Option Ty) (x : Text) (a e : Ex) (env : Env) (v : Value) → meaning a env ≡ Some v →
    ((s : Ty) → o ≡ Some s → IsTrue (is_of_type s env v)) →
    (Meets e env → Meets a env) → meaning e env ≡ Some (truth (same v (matrix nil nil))) →
    AnswerKeeps (if is_matrix o then Some (Nothing x a) else None) e env
empty-answer (Some (compound2 a_matrix i t)) x a e env v j f met h =
    λ m. (
      h ∙ sym (nothing-means x a env env.positions env.types t v j
          (matrix-value env.positions env.types i t v (f (compound2 a_matrix i t) refl))),
      nothing-met x a env (met m),
    )
empty-answer _ x a e env v j f met h = tt

nothing-answer : (g : Names Ty) (x : Text) (e : Ex) → SoundOperands g e → (env : Env) → Typed g env → OperandsThere e env →
    AnswerKeeps (equal_to_nothing g x e) e env
nothing-answer g x (ex2 true Op2.Eq a (node_ex false matrix_literal no_exs)) s env t h =
    let r = both-there (meaning a env) (meaning (node_ex false matrix_literal no_exs) env) h in
    empty-answer (type_of a g) x a (ex2 true Op2.Eq a (node_ex false matrix_literal no_exs)) env r.0 r.2 (λ y p. s.0 y p env t r.0 r.2)
    (λ m. m.0)
    (binary-means env true Op2.Eq a (node_ex false matrix_literal no_exs) r.0 (matrix nil nil) r.2 refl)
nothing-answer g x (ex2 true Op2.Eq (node_ex false matrix_literal no_exs) a) s env t h =
    let r = both-there (meaning (node_ex false matrix_literal no_exs) env) (meaning a env) h in
    empty-answer (type_of a g) x a (ex2 true Op2.Eq (node_ex false matrix_literal no_exs) a) env r.1 r.3 (λ y p. s.1.0 y p env t r.1 r.3)
    (λ m. m.1.0)
    (binary-means env true Op2.Eq (node_ex false matrix_literal no_exs) a (matrix nil nil) r.1 refl r.3
    ∙ ap (λ z. Some (truth z)) (same-turned (matrix nil nil) r.1))
nothing-answer g x _ s env t h = tt

-- `=` of matrices.
pub matrices-keep : MatrixRulesKeep
matrices-keep = record {
  over_one_domain = λ d g x e f q o s env t h by. fires (equal_items d g x e) e f env (items-answer d g x e o s env t h by) q;
  over_two_domains = λ d c g x y e f q apart o new-d new-c s env t h by.
      fires (equal_matrices d c g x y e) e f env (matrices-answer d c g x y e apart o new-d new-c s env t h by) q;
  with_nothing = λ g x e f q o s env t h. fires (equal_to_nothing g x e) e f env (nothing-answer g x e s env t h) q;
  lists_are_indexed = list-indexed;
}
