-- Rules of sizes, frequencies and `together` keep what they rewrite.
use Rattle.std.proofs.Common.{◌≡◌, refl, sym, ap, ◌∙◌, ℕ, suc, ◌+◌, Bool, true, false, ◌&&◌, ◌||◌, not, if◌then◌else◌, List, [], ◌∷◌, ◌++◌, pos, Option, Some, None, option_map, arith}
use Rattle.std.specs.Prelude.{IsTrue, ◌+ℤ◌}
use Rattle.std.specs.List.{list_all, list_any}
use Rattle.ess_semantics.specs.declared.words.Op1.{Op1}
use Rattle.ess_semantics.specs.declared.words.Op2.{Op2}
use Rattle.ess_semantics.specs.declared.words.Fun.{Fun}
use Rattle.ess_semantics.specs.Lists.{and_then}
use Rattle.ess_semantics.specs.Values.{Text, Kind, a_set, a_mset, a_function, a_relation, Value, number, truth, node, Values, to_list, items_of}
use Rattle.ess_semantics.specs.Order.{same}
use Rattle.ess_semantics.specs.Collections.{count, sorted_once, set_of}
use Rattle.ess_semantics.specs.Names.{Names}
use Rattle.ess_semantics.specs.Trees.{binary, word, name_pat, Ex, number_ex, name_ex, node_ex, comp_ex, ex1, ex2, fun1, no_exs, more_exs, no_gens, from, cond}
use Rattle.ess_semantics.specs.Types.{Ty, Tys, no_tys, more_tys, compound}
use Rattle.ess_semantics.specs.Typing.{type_of}
use Rattle.ess_semantics.specs.TypeMembers.{is_of}
use Rattle.ess_semantics.specs.Typed.{Typed}
use Rattle.ess_semantics.specs.Operators.{sum_of, within, list_value, value_of_node, false_where_undefined}
use Rattle.ess_semantics.specs.Meaning.{Env, TypeEntry, meaning, collect, where_true}
use Rattle.ess_semantics.specs.Meets.{Meets}
use Rattle.ess_semantics.proofs.Orders.{to_list-of_list}
use Rattle.ess_semantics.proofs.Sorting.{all-sorted_once}
use Rattle.ess_rules_laws.specs.Rules.{RuleKeepsTyped, RuleKeepsNew, RuleKeepsNewThere, Unused, SoundOperands, OperandsThere}
use Rattle.ess_rules_laws.specs.SizeRules.{is_counted, size_term, frequency_term, together_term}
use Rattle.ess_rules_laws.proofs.RuleAnswers.{AnswerKeeps, fires, when-so, both-there, behind, meaning-behind, meets-behind, name-behind, each-in-any, any-over, any-nowhere}
use Rattle.ess_rules_laws.proofs.Connectives.{binary-means}
use Rattle.ess_rules_laws.proofs.Horizontal.{size-is-sum, any-never}

-- ---- values of containers

-- A value whose items are its parts.
abbrev pub Counted : Value → Type 0
Counted v = (k : Kind) × (vs : Values) × (v ≡ node k vs) × ((us : Values) → items_of (node k us) ≡ to_list us)

module _ (p : Bool) (es : List TypeEntry) where
  set-counted : (ts : Tys) (v : Value) → is_of p es (compound a_set ts) v ≡ true → Counted v
  set-counted (more_tys t no_tys) (node a_set vs) h = (a_set, vs, refl, λ us. refl)
  set-counted _ _ h = cc

  mset-counted : (ts : Tys) (v : Value) → is_of p es (compound a_mset ts) v ≡ true → Counted v
  mset-counted (more_tys t no_tys) (node a_mset vs) h = (a_mset, vs, refl, λ us. refl)
  mset-counted _ _ h = cc

  function-counted : (ts : Tys) (v : Value) → is_of p es (compound a_function ts) v ≡ true → Counted v
  function-counted (more_tys t (more_tys u no_tys)) (node a_function vs) h = (a_function, vs, refl, λ us. refl)
  function-counted _ _ h = cc

  relation-counted : (ts : Tys) (v : Value) → is_of p es (compound a_relation ts) v ≡ true → Counted v
  relation-counted ts (node a_relation vs) h = (a_relation, vs, refl, λ us. refl)
  relation-counted _ _ h = cc

  -- A value of a type of containers.
  pub counted-of : (t : Option Ty) (v : Value) → is_counted t ≡ true → ((s : Ty) → t ≡ Some s → IsTrue (is_of p es s v)) → Counted v
  counted-of (Some (compound a_set ts)) v h f = set-counted ts v (f (compound a_set ts) refl)
  counted-of (Some (compound a_mset ts)) v h f = mset-counted ts v (f (compound a_mset ts) refl)
  counted-of (Some (compound a_function ts)) v h f = function-counted ts v (f (compound a_function ts) refl)
  counted-of (Some (compound a_relation ts)) v h f = relation-counted ts v (f (compound a_relation ts) refl)
  counted-of _ v h f = cc

-- ---- sizes

size-answer : (g : Names Ty) (x : Text) (e : Ex) → SoundOperands g e → (env : Env) → Typed g env → AnswerKeeps (size_term g x e) e env
size-answer g x (ex1 false Op1.Bar s) h env t = when-so (is_counted (type_of s g)) _ (ex1 false Op1.Bar s) env
    (λ q m. (sym (go q (meaning s env) refl), ((m.0, each-in-any (meaning s env) (λ v. Meets (number_ex (pos 1)) (behind x v env)) (λ v. tt)), tt)))
  where
    go : is_counted (type_of s g) ≡ true → (o : Option Value) → meaning s env ≡ o →
        meaning (fun1 false Fun.Sum (comp_ex (number_ex (pos 1)) (from (name_pat x) s no_gens))) env ≡ meaning (ex1 false Op1.Bar s) env
    go q None j = size-is-sum x s env a_set None (λ us. refl) j
    go q (Some v) j = let c = counted-of env.positions env.types (type_of s g) v q (λ y p. h.0 y p env t v j) in size-is-sum x s env c.0 (Some c.1) c.3 (j ∙ ap Some c.2)
size-answer g x _ h env t = tt

-- `|..|` of a container.
pub size_term-keeps : RuleKeepsTyped size_term
size_term-keeps g x e f q o h env t = fires (size_term g x e) e f env (size-answer g x e h env t) q

-- ---- frequencies

-- Ones for the values that are equal to w.
ones-counted : (w : Value) (vs : List Value) (F : Value → Option (List Value)) → ((v : Value) → F v ≡ where_true (Some (truth (same v w))) (λ u. Some (number (pos 1) ∷ []))) →
    (xs : List Value) × (collect vs F ≡ Some xs) × (sum_of xs ≡ pos (count vs w))
ones-counted w [] F h = ([], refl, refl)
ones-counted w (v ∷ vs) F h = go (same v w) refl (ones-counted w vs F h)
  where
    go : (b : Bool) → same v w ≡ b → ((xs : List Value) × (collect vs F ≡ Some xs) × (sum_of xs ≡ pos (count vs w))) →
        (xs : List Value) × (and_then (F v) (λ xs. option_map (λ ys. xs ++ ys) (collect vs F)) ≡ Some xs) × (sum_of xs ≡ pos (if b then suc (count vs w) else count vs w))
    go true q r = (
      number (pos 1) ∷ r.0,
      ap (λ o. and_then o (λ xs. option_map (λ ys. xs ++ ys) (collect vs F))) (h v ∙ ap (λ b. where_true (Some (truth b)) (λ u. Some (number (pos 1) ∷ []))) q) ∙ ap (option_map (λ ys. number (pos 1) ∷ ys)) r.1,
      ap (λ n. pos 1 +ℤ n) r.2 ∙ one-more (count vs w),
    )
      where
        one-more : (n : ℕ) → pos 1 +ℤ pos n ≡ pos (suc n)
        one-more n = let e : 1 + n ≡ suc n = omega arith in ap pos e
    go false q r = (
      r.0,
      ap (λ o. and_then o (λ xs. option_map (λ ys. xs ++ ys) (collect vs F))) (h v ∙ ap (λ b. where_true (Some (truth b)) (λ u. Some (number (pos 1) ∷ []))) q) ∙ ap (option_map (λ ys. ys)) r.1,
      r.2,
    )

frequency-answer : (x : Text) (e : Ex) → Unused x e → (env : Env) → OperandsThere e env → AnswerKeeps (frequency_term x e) e env
frequency-answer x (node_ex false (word Fun.Freq) (more_exs m (more_exs a no_exs))) o env h = λ k. (
  let r = both-there (meaning m env) (meaning a env) h in
      ap (λ z. false_where_undefined false (value_of_node (word Fun.Freq) (z ∷ meaning a env ∷ []))) r.2 ∙ ap (λ z. false_where_undefined false (value_of_node (word Fun.Freq) (Some r.0 ∷ z ∷ []))) r.3
      ∙ sym (new r.0 r.1 r.2 r.3),
  ((k.0, each-in-any (meaning m env) _ (λ v. ((tt, (meets-behind x v a env o.1.0 k.1.0, tt)), λ z. tt))), tt),
)
  where
    F : Value → Option (List Value)
    F v = where_true (meaning (ex2 true Op2.Eq (name_ex x) a) (behind x v env)) (λ u. Some (number (pos 1) ∷ []))

    new : (s w : Value) → meaning m env ≡ Some s → meaning a env ≡ Some w →
        meaning (fun1 false Fun.Sum (comp_ex (number_ex (pos 1)) (from (name_pat x) m (cond (ex2 true Op2.Eq (name_ex x) a) no_gens)))) env ≡ Some (number (pos (count (items_of s) w)))
    new s w j l = let c = ones-counted w (items_of s) F
        (λ v. ap (λ z. where_true z (λ u. Some (number (pos 1) ∷ []))) (binary-means (behind x v env) true Op2.Eq (name_ex x) a v w (name-behind x v env) (meaning-behind x v a env o.1.0 ∙ l))) in
        ap (λ z. false_where_undefined false (value_of_node (word Fun.Sum) (option_map list_value (and_then z (λ s. collect (items_of s) F)) ∷ []))) j
        ∙ ap (λ z. false_where_undefined false (value_of_node (word Fun.Sum) (option_map list_value z ∷ []))) c.1
        ∙ ap (λ l. Some (number (sum_of l))) (to_list-of_list c.0) ∙ ap (λ n. Some (number n)) c.2
frequency-answer x _ o env h = tt

-- `freq`.
pub frequency_term-keeps : RuleKeepsNewThere frequency_term
frequency_term-keeps x e f q o env h = fires (frequency_term x e) e f env (frequency-answer x e o env h) q

-- ---- together

-- Some item has the property where not all lack it.
any-all : (f : Value → Bool) (xs : List Value) → list_any f xs ≡ not (list_all (λ x. not (f x)) xs)
any-all f [] = refl
any-all f (x ∷ xs) = go (f x) (any-all f xs)
  where
    go : (b : Bool) → list_any f xs ≡ not (list_all (λ x. not (f x)) xs) → b || list_any f xs ≡ not (not b && list_all (λ x. not (f x)) xs)
    go true h = refl
    go false h = h

-- Sorting doesn't change whether some item has the property.
any-sorted_once : (f : Value → Bool) (xs : List Value) → list_any f (sorted_once xs) ≡ list_any f xs
any-sorted_once f xs = any-all f (sorted_once xs) ∙ ap not (all-sorted_once (λ x. not (f x)) xs) ∙ sym (any-all f xs)

together-answer : (q : Text) (e : Ex) → Unused q e → (env : Env) → AnswerKeeps (together_term q e) e env
together-answer q (node_ex true (word Fun.Together) (more_exs s (more_exs p no_exs))) o env = λ m. (
  go (meaning s env) (meaning p env) refl refl,
  (((m.1.0, tt), each-in-any (meaning (fun1 false Fun.Parts p) env) _ (λ v. (meets-behind q v s env o.0 m.0, (tt, tt)))), tt),
)
  where
    parts : Ex
    parts = fun1 false Fun.Parts p

    body : Ex
    body = ex2 true Op2.SubsetEq s (name_ex q)

    New : Ex
    New = fun1 true Fun.Or (comp_ex body (from (name_pat q) parts no_gens))

    go : (u v : Option Value) → meaning s env ≡ u → meaning p env ≡ v → false_where_undefined true (value_of_node (word Fun.Together) (u ∷ v ∷ [])) ≡ meaning New env
    go None None j k = sym (any-nowhere q parts body env (ap (λ z. value_of_node (word Fun.Parts) (z ∷ [])) k))
    go (Some u) None j k = sym (any-nowhere q parts body env (ap (λ z. value_of_node (word Fun.Parts) (z ∷ [])) k))
    go None (Some v) j k = sym (any-over q parts body env (λ w. false)
        (λ w. ap (λ z. false_where_undefined true (value_of_node (binary Op2.SubsetEq) (z ∷ meaning (name_ex q) (behind q w env) ∷ []))) (meaning-behind q w s env o.0 ∙ j))
        (set_of (items_of v)) (ap (λ z. value_of_node (word Fun.Parts) (z ∷ [])) k) ∙ ap (λ z. Some (truth z)) (any-never (items_of (set_of (items_of v)))))
    go (Some u) (Some v) j k = sym (any-over q parts body env (within u)
        (λ w. binary-means (behind q w env) true Op2.SubsetEq s (name_ex q) u w (meaning-behind q w s env o.0 ∙ j) (name-behind q w env))
        (set_of (items_of v)) (ap (λ z. value_of_node (word Fun.Parts) (z ∷ [])) k)
        ∙ ap (λ z. Some (truth z)) (ap (list_any (within u)) (to_list-of_list (sorted_once (items_of v))) ∙ any-sorted_once (within u) (items_of v)))
together-answer q _ o env = tt

-- `together`.
pub together_term-keeps : RuleKeepsNew together_term
together_term-keeps q e f k o env = fires (together_term q e) e f env (together-answer q e o env) k
