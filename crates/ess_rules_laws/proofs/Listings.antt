-- The listing of each container term lists its members.
use Rattle.std.proofs.Common.{◌≡◌, refl, sym, ap, ◌∙◌, subst, ◌+◌, Bool, true, false, ◌||◌, not, if◌then◌else◌, List, [], ◌∷◌, ◌++◌, filter, Option, Some, None, option_map}
use Rattle.std.specs.Prelude.{IsTrue}
use Rattle.ess_semantics.specs.declared.words.Op1.{Op1}
use Rattle.ess_semantics.specs.declared.words.Op2.{Op2}
use Rattle.ess_semantics.specs.declared.words.Fun.{Fun}
use Rattle.ess_semantics.specs.Lists.{and_then, all_some}
use Rattle.ess_semantics.specs.Values.{Text, a_set, a_relation, a_partition, Value, truth, node, to_list, of_list, items_of}
use Rattle.ess_semantics.specs.Collections.{holds, count, sorted, sorted_once, set_of, mset_of, relation_of}
use Rattle.ess_semantics.specs.Names.{Names}
use Rattle.ess_semantics.specs.Trees.{word, set_literal, mset_literal, relation_literal, matrix_literal, Ex, name_ex, node_ex, comp_ex, ex1, ex2, fun1, no_gens, cond}
use Rattle.ess_semantics.specs.Types.{Ty, Tys, no_tys, more_tys, compound}
use Rattle.ess_semantics.specs.Typing.{type_of}
use Rattle.ess_semantics.specs.TypeMembers.{is_of}
use Rattle.ess_semantics.specs.Typed.{Typed}
use Rattle.ess_semantics.specs.Operators.{value_of_op, value_of_node, value_of_binary, value_of_word1, of_same_kind}
use Rattle.ess_semantics.specs.Meaning.{Env, TypeEntry, meaning, meanings}
use Rattle.ess_semantics.proofs.Tests.{and-left}
use Rattle.ess_semantics.proofs.Orders.{to_list-of_list}
use Rattle.ess_semantics.proofs.Sorting.{sorted_once-itself}
use Rattle.ess_semantics.proofs.Multisets.{count-sorted}
use Rattle.ess_semantics.proofs.Repeats.{count-append}
use Rattle.ess_semantics.proofs.Overlaps.{holds-append}
use Rattle.ess_rules_laws.specs.Rules.{Unused, SoundOperands, OperandsThere}
use Rattle.ess_rules_laws.specs.InclusionRules.{both_sets}
use Rattle.ess_rules_laws.specs.Listings.{Alternative, items_listed, all_listed, SameLists, Lists, each_first, those, is_strict, listing}
use Rattle.ess_rules_laws.proofs.RuleAnswers.{behind, both-there}
use Rattle.ess_rules_laws.proofs.Connectives.{binary-means, not-means}
use Rattle.ess_rules_laws.proofs.ContainerValues.{Pair, Strictly, sets-of}
use Rattle.ess_rules_laws.proofs.MembershipRules.{values, all-there}
use Rattle.ess_rules_laws.proofs.InclusionRules.{member-body}
use Rattle.ess_rules_laws.proofs.ListedItems.{same-lists, counted-same, count-filter, count-sorted_once, count-strictly, tested-listed, all-members, alone-listed, comp-lists, each-listed, firsts-list}

-- ---- unions, intersections, differences

-- What a combination of two sets means, and its items.
module _ (a b : Ex) (env : Env) (v w : Value) (j : meaning a env ≡ Some v) (k : meaning b env ≡ Some w) (p : Pair Strictly v w) where
  abbrev xs : List Value
  xs = items_of v

  abbrev ys : List Value
  ys = items_of w

  made : (us : List Value) → items_of (node p.kind (of_list us)) ≡ us
  made us = p.parts (of_list us) ∙ to_list-of_list us

  left-strictly : Strictly xs
  left-strictly = subst Strictly (sym p.left_items) p.left_rises

  right-strictly : Strictly ys
  right-strictly = subst Strictly (sym p.right_items) p.right_rises

  pub union-items : option_map items_of (meaning (ex2 false Op2.Union a b) env) ≡ Some (sorted_once (xs ++ ys))
  union-items =
      ap (option_map items_of) (binary-means env false Op2.Union a b v w j k ∙ ap (λ z. Some (of_same_kind z (sorted_once (xs ++ ys)))) p.left_is)
      ∙ ap Some (made (sorted_once (xs ++ ys)))

  pub both-items : option_map items_of (meaning (ex2 false Op2.Intersect a b) env) ≡ Some (filter (holds ys) xs)
  both-items =
      ap (option_map items_of) (binary-means env false Op2.Intersect a b v w j k ∙ ap (λ z. Some (of_same_kind z (filter (holds ys) xs))) p.left_is)
      ∙ ap Some (made (filter (holds ys) xs))

  pub rest-items : option_map items_of (meaning (ex2 false Op2.Minus a b) env) ≡ Some (filter (λ x. not (holds ys x)) xs)
  rest-items =
      ap (option_map items_of) (binary-means env false Op2.Minus a b v w j k ∙ ap (λ z. value_of_binary Op2.Minus z w) p.left_is)
      ∙ ap Some (made (filter (λ x. not (holds ys x)) (to_list p.left)) ∙ ap (filter (λ x. not (holds ys x))) (sym p.left_items))

  pub union-counts : (u : Value) → count (sorted_once (xs ++ ys)) u ≡ count (xs ++ filter (λ y. not (holds xs y)) ys) u
  union-counts u =
      count-sorted_once (xs ++ ys) u ∙ ap (λ t. if t then 1 else 0) (holds-append xs ys u)
      ∙ go (holds xs u) (holds ys u)
      ∙ sym (ap (λ n. n + (if not (holds xs u) then (if holds ys u then 1 else 0) else 0)) (count-strictly xs u left-strictly))
      ∙ sym (ap (λ n. count xs u + (if not (holds xs u) then n else 0)) (count-strictly ys u right-strictly))
      ∙ sym (count-append xs (filter (λ y. not (holds xs y)) ys) u ∙ ap (λ n. count xs u + n) (count-filter (λ y. not (holds xs y)) ys u))
    where
      go : (s t : Bool) → (if s || t then 1 else 0) ≡ (if s then 1 else 0) + (if not s then (if t then 1 else 0) else 0)
      go true t = refl
      go false true = refl
      go false false = refl

  module _ (x : Text) (new-a : Unused x a) (new-b : Unused x b) where
    abbrev in-left : Ex
    in-left = ex2 true Op2.Member (name_ex x) a

    abbrev in-right : Ex
    in-right = ex2 true Op2.Member (name_ex x) b

    not-left : (u : Value) → meaning (ex1 true Op1.Not in-left) (behind x u env) ≡ Some (truth (not (holds xs u)))
    not-left u = not-means (behind x u env) in-left (holds xs u) (member-body x a env v new-a j u)

    not-right : (u : Value) → meaning (ex1 true Op1.Not in-right) (behind x u env) ≡ Some (truth (not (holds ys u)))
    not-right u = not-means (behind x u env) in-right (holds ys u) (member-body x b env w new-b k u)

    union-lists : Lists (ex2 false Op2.Union a b) (those x a no_gens ∷ those x b (cond (ex1 true Op1.Not in-left) no_gens) ∷ []) env
    union-lists = counted-same _ _ (sorted_once (xs ++ ys)) (xs ++ filter (λ y. not (holds xs y)) ys) union-items
        (ap (λ o. and_then o (λ us. option_map (λ zs. us ++ zs) (all_listed (those x b (cond (ex1 true Op1.Not in-left) no_gens) ∷ []) env))) (all-members x a env ∙ ap (option_map items_of) j)
        ∙ ap (option_map (λ zs. xs ++ zs)) (alone-listed (items_listed (those x b (cond (ex1 true Op1.Not in-left) no_gens)) env) ∙ tested-listed x b (ex1 true Op1.Not in-left) env w (λ y. not (holds xs y)) k not-left))
        union-counts

    both-lists : Lists (ex2 false Op2.Intersect a b) (those x a (cond in-right no_gens) ∷ []) env
    both-lists = same-lists _ _ (both-items ∙ sym (alone-listed (items_listed (those x a (cond in-right no_gens)) env) ∙ tested-listed x a in-right env v (holds ys) j (member-body x b env w new-b k)))

    rest-lists : Lists (ex2 false Op2.Minus a b) (those x a (cond (ex1 true Op1.Not in-right) no_gens) ∷ []) env
    rest-lists = same-lists _ _ (rest-items ∙ sym (alone-listed (items_listed (those x a (cond (ex1 true Op1.Not in-right) no_gens)) env) ∙ tested-listed x a (ex1 true Op1.Not in-right) env v (λ y. not (holds ys y)) j not-right))

-- ---- terms with the members of another one

-- A value of a type of containers whose lists rise strictly.
module _ (p : Bool) (es : List TypeEntry) where
  set-items : (ts : Tys) (v : Value) → is_of p es (compound a_set ts) v ≡ true → Strictly (items_of v)
  set-items (more_tys t no_tys) (node a_set vs) h = and-left _ _ h
  set-items _ _ h = cc

  relation-items : (ts : Tys) (v : Value) → is_of p es (compound a_relation ts) v ≡ true → Strictly (items_of v)
  relation-items ts (node a_relation vs) h = and-left _ _ h
  relation-items _ _ h = cc

  partition-items : (ts : Tys) (v : Value) → is_of p es (compound a_partition ts) v ≡ true → Strictly (items_of v)
  partition-items (more_tys t no_tys) (node a_partition vs) h = and-left _ _ (and-left _ _ h)
  partition-items _ _ h = cc

  pub strictly-of : (t : Option Ty) (v : Value) → is_strict t ≡ true → ((s : Ty) → t ≡ Some s → IsTrue (is_of p es s v)) → Strictly (items_of v)
  strictly-of (Some (compound a_set ts)) v h f = set-items ts v (f (compound a_set ts) refl)
  strictly-of (Some (compound a_relation ts)) v h f = relation-items ts v (f (compound a_relation ts) refl)
  strictly-of (Some (compound a_partition ts)) v h f = partition-items ts v (f (compound a_partition ts) refl)
  strictly-of _ v h f = cc

-- The members of a term list another term that has the same items.
members-list : (x : Text) (e s : Ex) (env : Env) → ((o : Option Value) → meaning s env ≡ o → SameLists (option_map items_of (meaning e env)) (option_map items_of o)) → Lists e (those x s no_gens ∷ []) env
members-list x e s env h = subst (λ z. SameLists (option_map items_of (meaning e env)) z) (sym (alone-listed (items_listed (those x s no_gens) env) ∙ all-members x s env)) (h (meaning s env) refl)

-- ---- each term

-- What a term offers lists its members.
abbrev AnswerLists : Option (List Alternative) → Ex → Env → Type 0
AnswerLists None e env = Unit {0}
AnswerLists (Some l) e env = Lists e l env

lists-so : (c : Bool) (l : List Alternative) (e : Ex) (env : Env) → (c ≡ true → Lists e l env) → AnswerLists (if c then Some l else None) e env
lists-so true l e env h = h refl
lists-so false l e env h = tt

sorted-list : (o : Option Value) (s : Value → Value) → ((v : Value) → o ≡ Some v → (u : Value) → count (items_of (s v)) u ≡ count (items_of v) u) → SameLists (option_map items_of (option_map s o)) (option_map items_of o)
sorted-list None s h = tt
sorted-list (Some v) s h = h v refl

-- One operand of a word.
word-means : (f : Fun) (s : Value → Value) → ((v : Value) → value_of_word1 f v ≡ Some (s v)) → (o : Option Value) → value_of_node (word f) (o ∷ []) ≡ option_map s o
word-means f s h None = refl
word-means f s h (Some v) = h v

listing-answer : (g : Names Ty) (x : Text) (e : Ex) → Unused x e → SoundOperands g e → (env : Env) → Typed g env → OperandsThere e env → AnswerLists (listing g x e) e env
listing-answer g x (comp_ex e gs) o h env t i = comp-lists e gs env
listing-answer g x (node_ex false matrix_literal es) o h env t i = same-lists _ _ (literal (meanings es env) ∙ sym (each-listed es env))
  where
    literal : (os : List (Option Value)) → option_map items_of (value_of_node matrix_literal os) ≡ all_some os
    literal os = go (all_some os)
      where
        go : (z : Option (List Value)) → option_map items_of (and_then z (value_of_op matrix_literal)) ≡ z
        go None = refl
        go (Some xs) = ap Some (to_list-of_list xs)
listing-answer g x (node_ex false mset_literal es) o h env t i = counted-same _ _ (sorted (values (meanings es env))) (values (meanings es env))
    (ap (λ z. option_map items_of (and_then z (value_of_op mset_literal))) (all-there (meanings es env) i) ∙ ap Some (to_list-of_list (sorted (values (meanings es env)))))
    (each-listed es env ∙ all-there (meanings es env) i) (count-sorted (values (meanings es env)))
listing-answer g x (node_ex false set_literal es) o h env t i = subst (λ z. SameLists (option_map items_of (and_then z (value_of_op set_literal))) (all_listed (each_first [] es) env)) (sym (all-there (meanings es env) i))
    (firsts-list es env (set_of (values (meanings es env))) i (to_list-of_list (sorted_once (values (meanings es env)))))
listing-answer g x (node_ex false relation_literal es) o h env t i = subst (λ z. SameLists (option_map items_of (and_then z (value_of_op relation_literal))) (all_listed (each_first [] es) env)) (sym (all-there (meanings es env) i))
    (firsts-list es env (relation_of (values (meanings es env))) i (to_list-of_list (sorted_once (values (meanings es env)))))
listing-answer g x (ex2 false Op2.Union a b) o h env t i = lists-so (both_sets (type_of a g) (type_of b g)) _ (ex2 false Op2.Union a b) env
    (λ q. let r = both-there (meaning a env) (meaning b env) i in
    union-lists a b env r.0 r.1 r.2 r.3 (sets-of env.positions env.types (type_of a g) (type_of b g) r.0 r.1 q (λ y p. h.0 y p env t r.0 r.2) (λ y p. h.1.0 y p env t r.1 r.3)) x o.0 o.1.0)
listing-answer g x (ex2 false Op2.Intersect a b) o h env t i = lists-so (both_sets (type_of a g) (type_of b g)) _ (ex2 false Op2.Intersect a b) env
    (λ q. let r = both-there (meaning a env) (meaning b env) i in
    both-lists a b env r.0 r.1 r.2 r.3 (sets-of env.positions env.types (type_of a g) (type_of b g) r.0 r.1 q (λ y p. h.0 y p env t r.0 r.2) (λ y p. h.1.0 y p env t r.1 r.3)) x o.0 o.1.0)
listing-answer g x (ex2 false Op2.Minus a b) o h env t i = lists-so (both_sets (type_of a g) (type_of b g)) _ (ex2 false Op2.Minus a b) env
    (λ q. let r = both-there (meaning a env) (meaning b env) i in
    rest-lists a b env r.0 r.1 r.2 r.3 (sets-of env.positions env.types (type_of a g) (type_of b g) r.0 r.1 q (λ y p. h.0 y p env t r.0 r.2) (λ y p. h.1.0 y p env t r.1 r.3)) x o.0 o.1.0)
listing-answer g x (fun1 false Fun.ToMSet s) o h env t i = members-list x (fun1 false Fun.ToMSet s) s env (λ z q.
    subst (λ y. SameLists (option_map items_of y) (option_map items_of z)) (sym (ap (λ y. value_of_node (word Fun.ToMSet) (y ∷ [])) q ∙ word-means Fun.ToMSet (λ v. mset_of (items_of v)) (λ v. refl) z))
    (sorted-list z (λ v. mset_of (items_of v)) (λ v p u. ap (λ l. count l u) (to_list-of_list (sorted (items_of v))) ∙ count-sorted (items_of v) u)))
listing-answer g x (fun1 false Fun.ToSet s) o h env t i = lists-so (is_strict (type_of s g)) _ (fun1 false Fun.ToSet s) env
    (λ c. members-list x (fun1 false Fun.ToSet s) s env (λ z q.
    subst (λ y. SameLists (option_map items_of y) (option_map items_of z)) (sym (ap (λ y. value_of_node (word Fun.ToSet) (y ∷ [])) q ∙ word-means Fun.ToSet (λ v. set_of (items_of v)) (λ v. refl) z))
    (sorted-list z (λ v. set_of (items_of v)) (λ v p u. ap (λ l. count l u) (to_list-of_list (sorted_once (items_of v))
    ∙ sorted_once-itself (items_of v) (strictly-of env.positions env.types (type_of s g) v c (λ y r. h.0 y r env t v (q ∙ p))))))))
listing-answer g x (fun1 false Fun.Parts s) o h env t i = lists-so (is_strict (type_of s g)) _ (fun1 false Fun.Parts s) env
    (λ c. members-list x (fun1 false Fun.Parts s) s env (λ z q.
    subst (λ y. SameLists (option_map items_of y) (option_map items_of z)) (sym (ap (λ y. value_of_node (word Fun.Parts) (y ∷ [])) q ∙ word-means Fun.Parts (λ v. set_of (items_of v)) (λ v. refl) z))
    (sorted-list z (λ v. set_of (items_of v)) (λ v p u. ap (λ l. count l u) (to_list-of_list (sorted_once (items_of v))
    ∙ sorted_once-itself (items_of v) (strictly-of env.positions env.types (type_of s g) v c (λ y r. h.0 y r env t v (q ∙ p))))))))
listing-answer g x _ o h env t i = tt

-- The listing of a term lists its members.
pub listing-lists : (g : Names Ty) (x : Text) (e : Ex) (l : List Alternative) → listing g x e ≡ Some l → Unused x e → SoundOperands g e → (env : Env) → Typed g env → OperandsThere e env → Lists e l env
listing-lists g x e l q o h env t i = subst (λ z. AnswerLists z e env) q (listing-answer g x e o h env t i)
