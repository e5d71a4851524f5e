-- Rules of inclusion and of equality between containers keep what they rewrite.
use Rattle.std.proofs.Common.{◌≡◌, refl, sym, ap, ◌∙◌, ℕ, Bool, true, false, ◌&&◌, ◌||◌, not, [], ◌∷◌, pos, Option, Some, None, nat_le, ◌<◌, arith, eq-or-lt_of_le, ◌⊎◌, inl, inr}
use Rattle.std.specs.Prelude.{IsTrue, is_some}
use Rattle.std.specs.List.{list_all}
use Rattle.std.specs.Prelude.{◌<ℤ◌}
use Rattle.std.specs.Ordering.{is_lt, MatchOrdering}
use Rattle.std.specs.Cmp.{int_cmp_is}
use Rattle.std.proofs.lemmas.Bool.{leb-true, leb-false}
use Rattle.std.proofs.lemmas.Int.{ints}
use Rattle.std.specs.declared.cmp.Ordering.{Ordering}
use Rattle.std.specs.declared.cmp.Ordering.TheVariants.{Less, Equal, Greater}
use Rattle.ess_semantics.specs.declared.words.Op1.{Op1}
use Rattle.ess_semantics.specs.declared.words.Op2.{Op2}
use Rattle.ess_semantics.specs.declared.words.Fun.{Fun}
use Rattle.ess_semantics.specs.Values.{Text, Value, number, truth, items_of}
use Rattle.ess_semantics.specs.Order.{same, below}
use Rattle.ess_semantics.specs.Collections.{holds, count, sorted_once, set_of}
use Rattle.ess_semantics.specs.Names.{Names}
use Rattle.ess_semantics.specs.Trees.{unary, binary, word, Ex, name_ex, ex2, fun1}
use Rattle.ess_semantics.specs.Types.{Ty}
use Rattle.ess_semantics.specs.Typing.{type_of}
use Rattle.ess_semantics.specs.Typed.{Typed}
use Rattle.ess_semantics.specs.Operators.{as_truth, within, value_of_node, false_where_undefined}
use Rattle.ess_semantics.specs.Meaning.{Env, meaning}
use Rattle.ess_semantics.specs.Meets.{Meets}
use Rattle.ess_semantics.proofs.Orders.{to_list-of_list}
use Rattle.ess_semantics.proofs.Multisets.{one-sorted-bag}
use Rattle.ess_rules_laws.specs.Rules.{RuleKeeps, RuleKeepsWhere, RuleKeepsTyped, RuleKeepsTypedThere, RuleKeepsNewThere, Unused, SoundOperands, OperandsThere}
use Rattle.ess_rules_laws.specs.InclusionRules.{every, frequency, both_sets, both_msets, unequal, included_turned, included_strictly, included_members, included_often, equal_members, equal_often}
use Rattle.ess_rules_laws.proofs.RuleAnswers.{AnswerKeeps, fires, when-so, both-there, behind, meaning-behind, meets-behind, name-behind, each-in-any, all-over, all-nowhere}
use Rattle.ess_rules_laws.proofs.Unordered.{same-turned}
use Rattle.ess_rules_laws.proofs.Connectives.{binary-means}
use Rattle.ess_rules_laws.proofs.ContainerValues.{Strictly, Weakly, one-strictly, pair-strictly, set-within, set-equal, mset-equal, sets-of, msets-of}

-- ---- the signs that are other signs

unequal-means : (o p : Option Value) → IsTrue (list_all is_some (o ∷ p ∷ [])) →
    false_where_undefined true (value_of_node (binary Op2.Ne) (o ∷ p ∷ []))
    ≡ false_where_undefined true (value_of_node (unary Op1.Not) (false_where_undefined true (value_of_node (binary Op2.Eq) (o ∷ p ∷ [])) ∷ []))
unequal-means None p t = cc
unequal-means (Some a) None t = cc
unequal-means (Some a) (Some b) t = refl

unequal-answer : (e : Ex) (env : Env) → OperandsThere e env → AnswerKeeps (unequal e) e env
unequal-answer (ex2 true Op2.Ne a b) env t = λ m. (unequal-means (meaning a env) (meaning b env) t, (m, tt))
unequal-answer _ env t = tt

-- `!=`.
pub unequal-keeps : RuleKeepsWhere OperandsThere unequal
unequal-keeps e f q env t = fires (unequal e) e f env (unequal-answer e env t) q

superset : (o p : Option Value) →
    false_where_undefined true (value_of_node (binary Op2.SupsetEq) (o ∷ p ∷ [])) ≡ false_where_undefined true (value_of_node (binary Op2.SubsetEq) (p ∷ o ∷ []))
superset None None = refl
superset None (Some b) = refl
superset (Some a) None = refl
superset (Some a) (Some b) = refl

proper-superset : (o p : Option Value) → ((a b : Value) → same a b ≡ same b a) →
    false_where_undefined true (value_of_node (binary Op2.Supset) (o ∷ p ∷ [])) ≡ false_where_undefined true (value_of_node (binary Op2.Subset) (p ∷ o ∷ []))
proper-superset None None h = refl
proper-superset None (Some b) h = refl
proper-superset (Some a) None h = refl
proper-superset (Some a) (Some b) h = ap (λ t. Some (truth (within b a && not t))) (h a b)

turned-answer : (e : Ex) (env : Env) → AnswerKeeps (included_turned e) e env
turned-answer (ex2 true Op2.SupsetEq a b) env = λ m. (superset (meaning a env) (meaning b env), (m.1.0, (m.0, tt)))
turned-answer (ex2 true Op2.Supset a b) env = λ m. (proper-superset (meaning a env) (meaning b env) same-turned, (m.1.0, (m.0, tt)))
turned-answer _ env = tt

-- `supsetEq` and `supset`.
pub turned-keeps : RuleKeeps included_turned
turned-keeps e f q env = fires (included_turned e) e f env (turned-answer e env) q

-- ---- strict inclusion

strictly-means : (o p : Option Value) → ((a b : Value) → o ≡ Some a → p ≡ Some b → within a b && not (same a b) ≡ within a b && not (within b a)) →
    false_where_undefined true (value_of_node (binary Op2.Subset) (o ∷ p ∷ []))
    ≡ Some (truth (as_truth (false_where_undefined true (value_of_node (binary Op2.SubsetEq) (o ∷ p ∷ []))) && not (as_truth (false_where_undefined true (value_of_node (binary Op2.SubsetEq) (p ∷ o ∷ []))))))
strictly-means None p h = refl
strictly-means (Some a) None h = refl
strictly-means (Some a) (Some b) h = ap (λ t. Some (truth t)) (h a b refl refl)

strictly-answer : (g : Names Ty) (x : Text) (e : Ex) → SoundOperands g e → (env : Env) → Typed g env → AnswerKeeps (included_strictly g x e) e env
strictly-answer g x (ex2 true Op2.Subset a b) s env t = when-so (both_sets (type_of a g) (type_of b g) || both_msets (type_of a g) (type_of b g)) _ (ex2 true Op2.Subset a b) env
    (λ q m. (strictly-means (meaning a env) (meaning b env) (λ v w j k. go v w j k (both_sets (type_of a g) (type_of b g)) refl q), ((m.0, (m.1.0, tt)), λ z. (((m.1.0, (m.0, tt)), tt), tt))))
  where
    go : (v w : Value) → meaning a env ≡ Some v → meaning b env ≡ Some w → (r : Bool) → both_sets (type_of a g) (type_of b g) ≡ r → r || both_msets (type_of a g) (type_of b g) ≡ true →
        within v w && not (same v w) ≡ within v w && not (within w v)
    go v w j k true r q = pair-strictly Strictly one-strictly v w
        (sets-of env.positions env.types (type_of a g) (type_of b g) v w r (λ y p. s.0 y p env t v j) (λ y p. s.1.0 y p env t w k))
    go v w j k false r q = pair-strictly Weakly one-sorted-bag v w
        (msets-of env.positions env.types (type_of a g) (type_of b g) v w q (λ y p. s.0 y p env t v j) (λ y p. s.1.0 y p env t w k))
strictly-answer g x _ s env t = tt

-- `subset`.
pub strictly-keeps : RuleKeepsTyped included_strictly
strictly-keeps g x e f q new s env t = fires (included_strictly g x e) e f env (strictly-answer g x e s env t) q

-- ---- bodies over one name

-- That the new name is in a container.
pub member-body : (x : Text) (b : Ex) (env : Env) (w : Value) → Unused x b → meaning b env ≡ Some w → (v : Value) →
    meaning (ex2 true Op2.Member (name_ex x) b) (behind x v env) ≡ Some (truth (holds (items_of w) v))
member-body x b env w o q v = binary-means (behind x v env) true Op2.Member (name_ex x) b v w (name-behind x v env) (meaning-behind x v b env o ∙ q)

-- How often the new name is in a container.
pub frequency-body : (x : Text) (b : Ex) (env : Env) (w : Value) → Unused x b → meaning b env ≡ Some w → (v : Value) →
    meaning (frequency b (name_ex x)) (behind x v env) ≡ Some (number (pos (count (items_of w) v)))
frequency-body x b env w o q v =
    ap (λ z. false_where_undefined false (value_of_node (word Fun.Freq) (z ∷ meaning (name_ex x) (behind x v env) ∷ []))) (meaning-behind x v b env o ∙ q)
    ∙ ap (λ z. false_where_undefined false (value_of_node (word Fun.Freq) (Some w ∷ z ∷ []))) (name-behind x v env)

-- The structures of `every` are met.
pub every-met : (x : Text) (a body : Ex) (env : Env) → Meets a env → ((v : Value) → Meets body (behind x v env)) → Meets (every x a body) env
every-met x a body env m f = ((m, each-in-any (meaning a env) _ f), tt)

-- The comparison of numbers of occurrences.
compared : (m n : ℕ) → not (below (number (pos n)) (number (pos m))) ≡ nat_le m n
compared m n = go (nat_le m n) refl
  where
    turned : (o : Ordering) → MatchOrdering o (pos n <ℤ pos m) (pos n ≡ pos m) (pos m <ℤ pos n) → not (below (number (pos n)) (number (pos m))) ≡ not (is_lt o)
    turned o h = ap (λ r. not (is_lt r)) (sym (int_cmp_is (pos n) (pos m) o h))

    above : (m ≡ n) ⊎ (m < n) → not (below (number (pos n)) (number (pos m))) ≡ true
    above (inl e) = turned Equal (ap pos (sym e))
    above (inr l) = turned Greater (omega (arith, ints))

    go : (b : Bool) → nat_le m n ≡ b → not (below (number (pos n)) (number (pos m))) ≡ b
    go true e = above (eq-or-lt_of_le (leb-true m n e))
    go false e = let l = leb-false m n e in turned Less (omega (arith, ints))

-- ---- inclusion

members-answer : (g : Names Ty) (x : Text) (e : Ex) → Unused x e → SoundOperands g e → (env : Env) → Typed g env → OperandsThere e env → AnswerKeeps (included_members g x e) e env
members-answer g x (ex2 true Op2.SubsetEq a b) o s env t h = when-so (both_sets (type_of a g) (type_of b g)) _ (ex2 true Op2.SubsetEq a b) env
    (λ q m. (
      let r = both-there (meaning a env) (meaning b env) h in
          binary-means env true Op2.SubsetEq a b r.0 r.1 r.2 r.3
          ∙ ap (λ z. Some (truth z)) (set-within r.0 r.1 (sets-of env.positions env.types (type_of a g) (type_of b g) r.0 r.1 q (λ y p. s.0 y p env t r.0 r.2) (λ y p. s.1.0 y p env t r.1 r.3)))
          ∙ sym (all-over x a (ex2 true Op2.Member (name_ex x) b) env (holds (items_of r.1)) (member-body x b env r.1 o.1.0 r.3) r.0 r.2),
      every-met x a (ex2 true Op2.Member (name_ex x) b) env m.0 (λ v. (tt, (meets-behind x v b env o.1.0 m.1.0, tt))),
    ))
members-answer g x _ o s env t h = tt

-- `subsetEq` of sets and relations.
pub included_members-keeps : RuleKeepsTypedThere included_members
included_members-keeps g x e f q o s env t h = fires (included_members g x e) e f env (members-answer g x e o s env t h) q

often-answer : (x : Text) (e : Ex) → Unused x e → (env : Env) → OperandsThere e env → AnswerKeeps (included_often x e) e env
often-answer x (ex2 true Op2.SubsetEq a b) o env h = λ m. (
  let r = both-there (meaning a env) (meaning b env) h in
      binary-means env true Op2.SubsetEq a b r.0 r.1 r.2 r.3
      ∙ sym (all-over x a (ex2 true Op2.Le (frequency a (name_ex x)) (frequency b (name_ex x))) env (λ v. nat_le (count (items_of r.0) v) (count (items_of r.1) v))
      (λ v. binary-means (behind x v env) true Op2.Le (frequency a (name_ex x)) (frequency b (name_ex x)) _ _ (frequency-body x a env r.0 o.0 r.2 v) (frequency-body x b env r.1 o.1.0 r.3 v)
      ∙ ap (λ z. Some (truth z)) (compared (count (items_of r.0) v) (count (items_of r.1) v))) r.0 r.2),
  every-met x a (ex2 true Op2.Le (frequency a (name_ex x)) (frequency b (name_ex x))) env m.0 (λ v. ((meets-behind x v a env o.0 m.0, (tt, tt)), ((meets-behind x v b env o.1.0 m.1.0, (tt, tt)), tt))),
)
often-answer x _ o env h = tt

-- `subsetEq` of any containers.
pub included_often-keeps : RuleKeepsNewThere included_often
included_often-keeps x e f q o env h = fires (included_often x e) e f env (often-answer x e o env h) q

-- ---- equality

no-right : (b : Bool) → b && false ≡ false
no-right true = refl
no-right false = refl

-- An equation of containers as two quantifiers, of which each is false where its container has no value.
pub equal-means : (a b A B : Ex) (env : Env) (o p : Option Value) → meaning a env ≡ o → meaning b env ≡ p →
    (o ≡ None → meaning A env ≡ Some (truth false)) → (p ≡ None → meaning B env ≡ Some (truth false)) →
    ((v w : Value) → o ≡ Some v → p ≡ Some w → same v w ≡ as_truth (meaning A env) && as_truth (meaning B env)) →
    meaning (ex2 true Op2.Eq a b) env ≡ meaning (ex2 true Op2.And A B) env
equal-means a b A B env None p j k f h r =
    ap (λ z. false_where_undefined true (value_of_node (binary Op2.Eq) (z ∷ meaning b env ∷ []))) j
    ∙ sym (ap (λ z. Some (truth (as_truth z && as_truth (meaning B env)))) (f refl))
equal-means a b A B env (Some v) None j k f h r =
    ap (λ z. false_where_undefined true (value_of_node (binary Op2.Eq) (z ∷ meaning b env ∷ []))) j
    ∙ ap (λ z. false_where_undefined true (value_of_node (binary Op2.Eq) (Some v ∷ z ∷ []))) k
    ∙ sym (ap (λ z. Some (truth (as_truth (meaning A env) && as_truth z))) (h refl) ∙ ap (λ z. Some (truth z)) (no-right (as_truth (meaning A env))))
equal-means a b A B env (Some v) (Some w) j k f h r = binary-means env true Op2.Eq a b v w j k ∙ ap (λ z. Some (truth z)) (r v w refl refl)

equal-answer : (g : Names Ty) (x : Text) (e : Ex) → Unused x e → SoundOperands g e → (env : Env) → Typed g env → AnswerKeeps (equal_members g x e) e env
equal-answer g x (ex2 true Op2.Eq a b) o s env t = when-so (both_sets (type_of a g) (type_of b g)) _ (ex2 true Op2.Eq a b) env
    (λ q m. (
      equal-means a b A B env (meaning a env) (meaning b env) refl refl (all-nowhere x a A1 env) (all-nowhere x b B1 env) (λ v w j k.
          set-equal v w (sets-of env.positions env.types (type_of a g) (type_of b g) v w q (λ y p. s.0 y p env t v j) (λ y p. s.1.0 y p env t w k))
          ∙ sym (ap (λ z. as_truth z && as_truth (meaning B env)) (all-over x a A1 env (holds (items_of w)) (member-body x b env w o.1.0 k) v j)
          ∙ ap (λ z. list_all (holds (items_of w)) (items_of v) && as_truth z) (all-over x b B1 env (holds (items_of v)) (member-body x a env v o.0 j) w k))),
      (every-met x a (ex2 true Op2.Member (name_ex x) b) env m.0 (λ v. (tt, (meets-behind x v b env o.1.0 m.1.0, tt))), λ z. (every-met x b (ex2 true Op2.Member (name_ex x) a) env m.1.0 (λ v. (tt, (meets-behind x v a env o.0 m.0, tt))), tt)),
    ))
  where
    A1 : Ex
    A1 = ex2 true Op2.Member (name_ex x) b

    B1 : Ex
    B1 = ex2 true Op2.Member (name_ex x) a

    A : Ex
    A = every x a A1

    B : Ex
    B = every x b B1
equal-answer g x _ o s env t = tt

-- `=` of sets and relations.
pub equal_members-keeps : RuleKeepsTyped equal_members
equal_members-keeps g x e f q o s env t = fires (equal_members g x e) e f env (equal-answer g x e o s env t) q

mset-answer : (g : Names Ty) (x : Text) (e : Ex) → Unused x e → SoundOperands g e → (env : Env) → Typed g env → AnswerKeeps (equal_often g x e) e env
mset-answer g x (ex2 true Op2.Eq a b) o s env t = when-so (both_msets (type_of a g) (type_of b g)) _ (ex2 true Op2.Eq a b) env
    (λ q m. (
      equal-means a b A B env (meaning a env) (meaning b env) refl refl
          (λ n. all-nowhere x (fun1 false Fun.ToSet a) A1 env (ap (λ z. value_of_node (word Fun.ToSet) (z ∷ [])) n)) (all-nowhere x b B1 env) (λ v w j k.
          mset-equal v w (msets-of env.positions env.types (type_of a g) (type_of b g) v w q (λ y p. s.0 y p env t v j) (λ y p. s.1.0 y p env t w k))
          ∙ sym (ap (λ z. as_truth z && as_truth (meaning B env)) (all-over x (fun1 false Fun.ToSet a) A1 env (λ u. same (number (pos (count (items_of v) u))) (number (pos (count (items_of w) u))))
          (λ u. binary-means (behind x u env) true Op2.Eq (frequency a (name_ex x)) (frequency b (name_ex x)) (number (pos (count (items_of v) u))) (number (pos (count (items_of w) u)))
          (frequency-body x a env v o.0 j u) (frequency-body x b env w o.1.0 k u)) (set_of (items_of v)) (ap (λ z. value_of_node (word Fun.ToSet) (z ∷ [])) j)
          ∙ ap (λ l. Some (truth (list_all (λ u. same (number (pos (count (items_of v) u))) (number (pos (count (items_of w) u)))) l))) (to_list-of_list (sorted_once (items_of v))))
          ∙ ap (λ z. list_all (λ u. same (number (pos (count (items_of v) u))) (number (pos (count (items_of w) u)))) (sorted_once (items_of v)) && as_truth z) (all-over x b B1 env (holds (items_of v)) (member-body x a env v o.0 j) w k))),
      (
        every-met x (fun1 false Fun.ToSet a) A1 env (m.0, tt) (λ v. ((meets-behind x v a env o.0 m.0, (tt, tt)), ((meets-behind x v b env o.1.0 m.1.0, (tt, tt)), tt))),
        λ z. (every-met x b B1 env m.1.0 (λ v. (tt, (meets-behind x v a env o.0 m.0, tt))), tt),
      ),
    ))
  where
    A1 : Ex
    A1 = ex2 true Op2.Eq (frequency a (name_ex x)) (frequency b (name_ex x))

    B1 : Ex
    B1 = ex2 true Op2.Member (name_ex x) a

    A : Ex
    A = every x (fun1 false Fun.ToSet a) A1

    B : Ex
    B = every x b B1
mset-answer g x _ o s env t = tt

-- `=` of multisets.
pub equal_often-keeps : RuleKeepsTyped equal_often
equal_often-keeps g x e f q o s env t = fires (equal_often g x e) e f env (mset-answer g x e o s env t) q
