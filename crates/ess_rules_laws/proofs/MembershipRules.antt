-- Rules of `in` keep what they rewrite.
use Rattle.std.proofs.Common.{◌≡◌, refl, sym, ap, ◌∙◌, Bool, true, false, ◌&&◌, ◌||◌, not, if◌then◌else◌, List, [], ◌∷◌, ◌++◌, filter, Option, Some, None, option_map}
use Rattle.std.specs.Prelude.{IsTrue, is_some}
use Rattle.std.specs.List.{list_all, list_any}
use Rattle.ess_semantics.specs.declared.words.Op2.{Op2}
use Rattle.ess_semantics.specs.declared.words.Fun.{Fun}
use Rattle.ess_semantics.specs.Lists.{and_then, all_some}
use Rattle.ess_semantics.specs.Values.{Text, Value, truth, node, Kind, a_set, a_relation, Values, to_list, of_list, items_of}
use Rattle.ess_semantics.specs.Order.{same}
use Rattle.ess_semantics.specs.Collections.{holds, sorted, sorted_once, set_of, mset_of, relation_of}
use Rattle.ess_semantics.specs.Trees.{binary, word, set_literal, mset_literal, relation_literal, matrix_literal, Ex, Exs, node_ex, ex2, fun1, no_exs, more_exs}
use Rattle.ess_semantics.specs.Names.{Names}
use Rattle.ess_semantics.specs.Types.{Ty}
use Rattle.ess_semantics.specs.Typing.{type_of}
use Rattle.ess_semantics.specs.Operators.{as_truth, value_of_node, value_of_binary, value_of_op, false_where_undefined, list_value, any_true}
use Rattle.ess_semantics.specs.Meaning.{Env, meaning, meanings}
use Rattle.ess_semantics.specs.Meets.{Meets, MeetsAll}
use Rattle.ess_semantics.proofs.Orders.{to_list-of_list, same-equal}
use Rattle.ess_semantics.proofs.Sorting.{holds-sorted_once}
use Rattle.ess_semantics.proofs.Overlaps.{holds-append}
use Rattle.ess_semantics.proofs.Multisets.{count-sorted, same-members}
use Rattle.ess_rules_laws.specs.Rules.{RuleKeepsWhere, RuleKeepsNew, Unused}
use Rattle.ess_rules_laws.specs.MembershipRules.{member_term, member_combined, is_asked, member_of, member_changed, member_listed, equations, IsContainer, CombinedThere, ItemsThere}
use Rattle.ess_rules_laws.proofs.RuleAnswers.{AnswerKeeps, fires, meets-behind, each-in-any}
use Rattle.ess_rules_laws.proofs.Horizontal.{in-is-or, any-holds, any-never}
use Rattle.ess_rules_laws.proofs.Unordered.{same-turned}
use Rattle.ess_rules_laws.proofs.Connectives.{bits, any-bits}

-- ---- over any term

term-answer : (y : Text) (e : Ex) (env : Env) → Unused y e → AnswerKeeps (member_term y e) e env
term-answer y (ex2 true Op2.Member a s) env o =
    λ m. (sym (in-is-or env.positions env.types env.cells env.vals y a s o.0), ((m.1.0, each-in-any (meaning s env) _ (λ v. (tt, (meets-behind y v a env o.0 m.0, tt)))), tt))
term-answer y _ env o = tt

-- `in` a term.
pub member_term-keeps : RuleKeepsNew member_term
member_term-keeps y e f q o env = fires (member_term y e) e f env (term-answer y e env o) q

-- ---- in a union, an intersection, a difference

abbrev In2 : Option Value → Option Value → Option Value
In2 o s = false_where_undefined true (value_of_node (binary Op2.Member) (o ∷ s ∷ []))

-- A value is among the items with a property where it is an item and has it.
pub holds-filter : (p : Value → Bool) (xs : List Value) (v : Value) → holds (filter p xs) v ≡ holds xs v && p v
holds-filter p [] v = refl
holds-filter p (x ∷ xs) v = go (p x) refl (same x v) refl (holds-filter p xs v)
  where
    go : (b : Bool) → p x ≡ b → (c : Bool) → same x v ≡ c → holds (filter p xs) v ≡ holds xs v && p v → holds (if b then x ∷ filter p xs else filter p xs) v ≡ (c || holds xs v) && p v
    go true q true r h = ap (λ t. t || holds (filter p xs) v) r ∙ sym q ∙ ap p (same-equal x v r)
    go true q false r h = ap (λ t. t || holds (filter p xs) v) r ∙ h
    go false q true r h = let e : p v ≡ false = ap p (sym (same-equal x v r)) ∙ q in h ∙ ap (λ t. holds xs v && t) e ∙ no (holds xs v) ∙ sym e
      where
        no : (t : Bool) → t && false ≡ false
        no true = refl
        no false = refl
    go false q false r h = h

module _ (k : Kind) (parts : (us : Values) → items_of (node k us) ≡ to_list us) where
  items-are : (xs : List Value) → items_of (node k (of_list xs)) ≡ xs
  items-are xs = parts (of_list xs) ∙ to_list-of_list xs

  in-union : (o : Option Value) (vs : Values) (b : Value) →
      In2 o (value_of_binary Op2.Union (node k vs) b) ≡ Some (truth (as_truth (In2 o (Some (node k vs))) || as_truth (In2 o (Some b))))
  in-union None vs b = refl
  in-union (Some v) vs b = ap (λ t. Some (truth t)) (ap (λ l. holds l v) (items-are (sorted_once (items_of (node k vs) ++ items_of b)))
      ∙ holds-sorted_once (items_of (node k vs) ++ items_of b) v ∙ holds-append (items_of (node k vs)) (items_of b) v)

  in-both : (o : Option Value) (vs : Values) (b : Value) →
      In2 o (value_of_binary Op2.Intersect (node k vs) b) ≡ Some (truth (as_truth (In2 o (Some (node k vs))) && as_truth (In2 o (Some b))))
  in-both None vs b = refl
  in-both (Some v) vs b = ap (λ t. Some (truth t)) (ap (λ l. holds l v) (items-are (filter (λ x. holds (items_of b) x) (items_of (node k vs))))
      ∙ holds-filter (λ x. holds (items_of b) x) (items_of (node k vs)) v)

  in-rest : (o : Option Value) (vs : Values) (b : Value) →
      In2 o (value_of_binary Op2.Minus (node k vs) b) ≡ Some (truth (as_truth (In2 o (Some (node k vs))) && not (as_truth (In2 o (Some b)))))
  in-rest None vs b = refl
  in-rest (Some v) vs b = ap (λ t. Some (truth t)) (ap (λ l. holds l v) (items-are (filter (λ x. not (holds (items_of b) x)) (to_list vs)))
      ∙ holds-filter (λ x. not (holds (items_of b) x)) (to_list vs) v ∙ ap (λ l. holds l v && not (holds (items_of b) v)) (sym (parts vs)))

-- What a combination of terms means under `in`, where it does so at sets and relations.
combined : (c : Op2) (K : Bool → Bool → Bool) → ((o : Option Value) (k : Kind) → ((us : Values) → items_of (node k us) ≡ to_list us) → (vs : Values) (b : Value) →
    In2 o (value_of_binary c (node k vs) b) ≡ Some (truth (K (as_truth (In2 o (Some (node k vs)))) (as_truth (In2 o (Some b)))))) →
    (o s r : Option Value) → IsContainer s → IsTrue (is_some r) → In2 o (and_then s (λ a. and_then r (value_of_binary c a))) ≡ Some (truth (K (as_truth (In2 o s)) (as_truth (In2 o r))))
combined c K h o (Some (node a_set vs)) (Some b) i t = h o a_set (λ us. refl) vs b
combined c K h o (Some (node a_relation vs)) (Some b) i t = h o a_relation (λ us. refl) vs b
combined c K h o s None i t = cc
combined c K h o _ (Some b) i t = absurd i

pairs : (s r : Option Value) (f : Value → Value → Option Value) (g : List Value → Option Value) → ((a b : Value) → g (a ∷ b ∷ []) ≡ f a b) →
    and_then (all_some (s ∷ r ∷ [])) g ≡ and_then s (λ a. and_then r (f a))
pairs None r f g h = refl
pairs (Some a) None f g h = refl
pairs (Some a) (Some b) f g h = h a b

combined-answer : (e : Ex) (env : Env) → CombinedThere e env → AnswerKeeps (member_combined e) e env
combined-answer (ex2 true Op2.Member x (ex2 false Op2.Union a b)) env t = λ m. (
  ap (In2 (meaning x env)) (pairs (meaning a env) (meaning b env) (value_of_binary Op2.Union) _ (λ u v. refl))
      ∙ combined Op2.Union ◌||◌ (λ o k p vs b. in-union k p o vs b) (meaning x env) (meaning a env) (meaning b env) t.0 t.1,
  ((m.0, (m.1.0.0, tt)), ((m.0, (m.1.0.1.0, tt)), tt)),
)
combined-answer (ex2 true Op2.Member x (ex2 false Op2.Intersect a b)) env t = λ m. (
  ap (In2 (meaning x env)) (pairs (meaning a env) (meaning b env) (value_of_binary Op2.Intersect) _ (λ u v. refl))
      ∙ combined Op2.Intersect ◌&&◌ (λ o k p vs b. in-both k p o vs b) (meaning x env) (meaning a env) (meaning b env) t.0 t.1,
  ((m.0, (m.1.0.0, tt)), λ z. ((m.0, (m.1.0.1.0, tt)), tt)),
)
combined-answer (ex2 true Op2.Member x (ex2 false Op2.Minus a b)) env t = λ m. (
  ap (In2 (meaning x env)) (pairs (meaning a env) (meaning b env) (value_of_binary Op2.Minus) _ (λ u v. refl))
      ∙ combined Op2.Minus (λ p q. p && not q) (λ o k p vs b. in-rest k p o vs b) (meaning x env) (meaning a env) (meaning b env) t.0 t.1,
  ((m.0, (m.1.0.0, tt)), λ z. (((m.0, (m.1.0.1.0, tt)), tt), tt)),
)
combined-answer _ env t = tt

-- `in` a union, an intersection, a difference.
pub member_combined-keeps : RuleKeepsWhere CombinedThere member_combined
member_combined-keeps e f q env t = fires (member_combined e) e f env (combined-answer e env t) q

-- ---- in a container made of another one

in-set : (o m : Option Value) → In2 o (value_of_node (word Fun.ToSet) (m ∷ [])) ≡ In2 o m
in-set o None = refl
in-set None (Some s) = refl
in-set (Some v) (Some s) = ap (λ t. Some (truth t)) (ap (λ l. holds l v) (to_list-of_list (sorted_once (items_of s))) ∙ holds-sorted_once (items_of s) v)

in-parts : (o m : Option Value) → In2 o (value_of_node (word Fun.Parts) (m ∷ [])) ≡ In2 o m
in-parts o None = refl
in-parts None (Some s) = refl
in-parts (Some v) (Some s) = ap (λ t. Some (truth t)) (ap (λ l. holds l v) (to_list-of_list (sorted_once (items_of s))) ∙ holds-sorted_once (items_of s) v)

in-mset : (o m : Option Value) → In2 o (value_of_node (word Fun.ToMSet) (m ∷ [])) ≡ In2 o m
in-mset o None = refl
in-mset None (Some s) = refl
in-mset (Some v) (Some s) =
    ap (λ t. Some (truth t)) (ap (λ l. holds l v) (to_list-of_list (sorted (items_of s))) ∙ same-members (sorted (items_of s)) (items_of s) (count-sorted (items_of s)) v)

-- In m, where `in` means at s what it means at m.
of-answer : (g : Names Ty) (y : Text) (x m s : Ex) (env : Env) → In2 (meaning x env) (meaning s env) ≡ In2 (meaning x env) (meaning m env) →
    (Meets s env → Meets m env) → Unused y (ex2 true Op2.Member x m) → AnswerKeeps (member_of g y x m) (ex2 true Op2.Member x s) env
of-answer g y x m s env q k o = go (is_asked (type_of m g)) (term-answer y (ex2 true Op2.Member x m) env o)
  where
    go : (c : Bool) → AnswerKeeps (member_term y (ex2 true Op2.Member x m)) (ex2 true Op2.Member x m) env →
        AnswerKeeps (if c then Some (ex2 true Op2.Member x m) else member_term y (ex2 true Op2.Member x m)) (ex2 true Op2.Member x s) env
    go true a = λ h. (q, (h.0, (k h.1.0, tt)))
    go false a = λ h. let r = a (h.0, (k h.1.0, tt)) in (q ∙ r.0, r.1)

changed-answer : (g : Names Ty) (y : Text) (e : Ex) (env : Env) → Unused y e → AnswerKeeps (member_changed g y e) e env
changed-answer g y (ex2 true Op2.Member x (fun1 false Fun.ToSet m)) env o =
    of-answer g y x m (fun1 false Fun.ToSet m) env (in-set (meaning x env) (meaning m env)) (λ h. h.0) (o.0, (o.1.0.0, tt))
changed-answer g y (ex2 true Op2.Member x (fun1 false Fun.ToMSet m)) env o =
    of-answer g y x m (fun1 false Fun.ToMSet m) env (in-mset (meaning x env) (meaning m env)) (λ h. h.0) (o.0, (o.1.0.0, tt))
changed-answer g y (ex2 true Op2.Member x (fun1 false Fun.Parts m)) env o =
    of-answer g y x m (fun1 false Fun.Parts m) env (in-parts (meaning x env) (meaning m env)) (λ h. h.0) (o.0, (o.1.0.0, tt))
changed-answer g y _ env o = tt

-- `in` a set, multiset or set of parts that is made of another container.
pub member_changed-keeps : (g : Names Ty) → RuleKeepsNew (member_changed g)
member_changed-keeps g y e f q o env = fires (member_changed g y e) e f env (changed-answer g y e env o) q

-- ---- in a literal

-- The values that are there.
abbrev pub values : List (Option Value) → List Value
values [] = []
values (None ∷ os) = values os
values (Some x ∷ os) = x ∷ values os

-- All values, where each is there.
pub all-there : (os : List (Option Value)) → IsTrue (list_all is_some os) → all_some os ≡ Some (values os)
all-there [] t = refl
all-there (None ∷ os) t = cc
all-there (Some x ∷ os) t = ap (option_map (λ xs. x ∷ xs)) (all-there os t)

-- The equation of an option with another one.
abbrev Eq2 : Option Value → Option Value → Option Value
Eq2 o p = false_where_undefined true (value_of_node (binary Op2.Eq) (o ∷ p ∷ []))

-- The equations, where each item is there.
equations-there : (x : Ex) (es : Exs) (env : Env) → IsTrue (list_all is_some (meanings es env)) →
    all_some (meanings (equations x es) env) ≡ Some (bits (λ a. as_truth (Eq2 (meaning x env) (Some a))) (values (meanings es env)))
equations-there x no_exs env t = refl
equations-there x (more_exs a es) env t = go (meaning a env) t (λ q. equations-there x es env q)
  where
    go : (o : Option Value) → IsTrue (list_all is_some (o ∷ meanings es env)) →
        (IsTrue (list_all is_some (meanings es env)) → all_some (meanings (equations x es) env) ≡ Some (bits (λ a. as_truth (Eq2 (meaning x env) (Some a))) (values (meanings es env)))) →
        all_some (Eq2 (meaning x env) o ∷ meanings (equations x es) env) ≡ Some (bits (λ a. as_truth (Eq2 (meaning x env) (Some a))) (values (o ∷ meanings es env)))
    go None t h = cc
    go (Some a) t h = ap (option_map (λ xs. truth (as_truth (Eq2 (meaning x env) (Some a))) ∷ xs)) (h t)

-- Some equation holds where the value is one of them.
some-equal : (o : Option Value) (xs : List Value) → list_any (λ a. as_truth (Eq2 o (Some a))) xs ≡ as_truth (In2 o (Some (node a_set (of_list xs))))
some-equal None xs = any-never xs
some-equal (Some v) xs = turned xs ∙ any-holds xs v ∙ ap (λ l. holds l v) (sym (to_list-of_list xs))
  where
    turned : (xs : List Value) → list_any (λ a. same v a) xs ≡ list_any (λ a. same a v) xs
    turned [] = refl
    turned (x ∷ xs) = ap (λ b. b || list_any (λ a. same v a) xs) (same-turned v x) ∙ ap (λ b. same x v || b) (turned xs)

-- What the list of equations means.
equations-mean : (x : Ex) (es : Exs) (env : Env) → IsTrue (list_all is_some (meanings es env)) →
    meaning (fun1 true Fun.Or (node_ex false matrix_literal (equations x es))) env ≡ Some (truth (as_truth (In2 (meaning x env) (Some (node a_set (of_list (values (meanings es env))))))))
equations-mean x es env t =
    ap (λ o. false_where_undefined true (value_of_node (word Fun.Or) (and_then o (λ xs. Some (list_value xs)) ∷ []))) (equations-there x es env t)
    ∙ ap (λ l. Some (truth (any_true l))) (to_list-of_list (bits f (values (meanings es env))))
    ∙ ap (λ b. Some (truth b)) (any-bits f (values (meanings es env)) ∙ some-equal (meaning x env) (values (meanings es env)))
  where
    f : Value → Bool
    f a = as_truth (Eq2 (meaning x env) (Some a))

-- The structures of the equations are met.
equations-met : (x : Ex) (es : Exs) (env : Env) → Meets x env → MeetsAll false es env → MeetsAll false (equations x es) env
equations-met x no_exs env m h = tt
equations-met x (more_exs a es) env m h = ((m, (h.0, tt)), equations-met x es env m h.1)

-- `in` a container with these items, in any order and with or without repeats.
in-listed : (o : Option Value) (xs ys : List Value) (s : Value) → items_of s ≡ ys → ((v : Value) → holds ys v ≡ holds xs v) →
    In2 o (Some s) ≡ Some (truth (as_truth (In2 o (Some (node a_set (of_list xs))))))
in-listed None xs ys s q h = refl
in-listed (Some v) xs ys s q h = ap (λ t. Some (truth t)) (ap (λ l. holds l v) q ∙ h v ∙ ap (λ l. holds l v) (sym (to_list-of_list xs)))

listed-answer : (e : Ex) (env : Env) → ItemsThere e env → AnswerKeeps (member_listed e) e env
listed-answer (ex2 true Op2.Member x (node_ex false set_literal es)) env t = λ m. let xs = values (meanings es env) in (
  ap (λ o. In2 (meaning x env) (and_then o (λ xs. value_of_op set_literal xs))) (all-there (meanings es env) t)
      ∙ in-listed (meaning x env) xs (sorted_once xs) (set_of xs) (to_list-of_list (sorted_once xs)) (holds-sorted_once xs)
      ∙ sym (equations-mean x es env t),
  (equations-met x es env m.0 m.1.0, tt),
)
listed-answer (ex2 true Op2.Member x (node_ex false mset_literal es)) env t = λ m. let xs = values (meanings es env) in (
  ap (λ o. In2 (meaning x env) (and_then o (λ xs. value_of_op mset_literal xs))) (all-there (meanings es env) t)
      ∙ in-listed (meaning x env) xs (sorted xs) (mset_of xs) (to_list-of_list (sorted xs)) (same-members (sorted xs) xs (count-sorted xs))
      ∙ sym (equations-mean x es env t),
  (equations-met x es env m.0 m.1.0, tt),
)
listed-answer (ex2 true Op2.Member x (node_ex false relation_literal es)) env t = λ m. let xs = values (meanings es env) in (
  ap (λ o. In2 (meaning x env) (and_then o (λ xs. value_of_op relation_literal xs))) (all-there (meanings es env) t)
      ∙ in-listed (meaning x env) xs (sorted_once xs) (relation_of xs) (to_list-of_list (sorted_once xs)) (holds-sorted_once xs)
      ∙ sym (equations-mean x es env t),
  (equations-met x es env m.0 m.1.0, tt),
)
listed-answer _ env t = tt

-- `in` a literal.
pub member_listed-keeps : RuleKeepsWhere ItemsThere member_listed
member_listed-keeps e f q env t = fires (member_listed e) e f env (listed-answer e env t) q
