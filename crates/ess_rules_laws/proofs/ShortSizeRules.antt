-- The shorter rules of `|..|` and `freq` keep what they rewrite.
use Rattle.std.proofs.Common.{◌≡◌, refl, sym, ap, ◌∙◌, subst, ℕ, suc, ◌+◌, Bool, true, false, ◌&&◌, if◌then◌else◌, List, [], ◌∷◌, map, length, pos, Option, Some, None, option_map, arith}
use Rattle.std.specs.Prelude.{IsTrue, ◌+ℤ◌}
use Rattle.ess_semantics.specs.declared.words.Op1.{Op1}
use Rattle.ess_semantics.specs.declared.words.Op2.{Op2}
use Rattle.ess_semantics.specs.declared.words.Fun.{Fun}
use Rattle.ess_semantics.specs.Lists.{and_then, all_some}
use Rattle.ess_semantics.specs.Values.{Text, Kind, a_set, a_mset, a_function, a_relation, a_partition, Value, number, node, Values, to_list, of_list, items_of, from_of, to_of, itself}
use Rattle.ess_semantics.specs.Order.{same, below}
use Rattle.ess_semantics.specs.Collections.{count, rises, sorted, sorted_once, mset_of}
use Rattle.ess_semantics.specs.Names.{Names}
use Rattle.ess_semantics.specs.Trees.{unary, word, mset_literal, matrix_literal, Ex, Exs, node_ex, ex1, ex2, fun1, no_exs, more_exs}
use Rattle.ess_semantics.specs.Types.{Ty, Tys, no_tys, more_tys, compound}
use Rattle.ess_semantics.specs.Typing.{type_of}
use Rattle.ess_semantics.specs.Typed.{Typed}
use Rattle.ess_semantics.specs.TypeMembers.{is_of}
use Rattle.ess_semantics.specs.Membership.{is_pair}
use Rattle.ess_semantics.specs.Operators.{sum_of, value_of_node, value_of_word1, value_of_op}
use Rattle.ess_semantics.specs.Meaning.{Env, TypeEntry, meaning, meanings}
use Rattle.ess_semantics.specs.Meets.{Meets, MeetsAll}
use Rattle.ess_semantics.proofs.Tests.{and-left, and-right, and-both}
use Rattle.ess_semantics.proofs.Orders.{to_list-of_list}
use Rattle.ess_semantics.proofs.Sorting.{sorted_once-itself}
use Rattle.ess_semantics.proofs.Multisets.{count-sorted, sorted-length}
use Rattle.ess_rules_laws.specs.Rules.{RuleKeepsWhere, OperandsThere}
use Rattle.ess_rules_laws.specs.InclusionRules.{both_sets, frequency}
use Rattle.ess_rules_laws.specs.SizeRules.{is_counted}
use Rattle.ess_rules_laws.specs.ShortSizeRules.{SoundWithin, RuleKeepsWithin, RuleKeepsWithinThere, is_function, is_partition, size_made, frequency_made, ones_where, frequency_listed}
use Rattle.ess_rules_laws.proofs.RuleAnswers.{AnswerKeeps, fires, when-so, both-there, each-in-any}
use Rattle.ess_rules_laws.proofs.Connectives.{binary-means}
use Rattle.ess_rules_laws.proofs.Horizontal.{size_as_sum, size-is-sum}
use Rattle.ess_rules_laws.proofs.ContainerValues.{Strictly, sets-of}
use Rattle.ess_rules_laws.proofs.FunctionRules.{pairs-rise}
use Rattle.ess_rules_laws.proofs.SizeRules.{counted-of}
use Rattle.ess_rules_laws.proofs.ListedItems.{count-strictly}
use Rattle.ess_rules_laws.proofs.Folds.{literal-means}

-- ---- lists of pairs

-- What f gives of items that rise by f rises.
rises-map : (f : Value → Value) (xs : List Value) → rises f xs ≡ true → rises itself (map f xs) ≡ true
rises-map f [] h = refl
rises-map f (x ∷ []) h = refl
rises-map f (x ∷ y ∷ ys) h = and-both (below (f x) (f y)) (rises itself (map f (y ∷ ys))) (and-left _ _ h) (rises-map f (y ∷ ys) (and-right (below (f x) (f y)) _ h))

length-map : (f : Value → Value) (xs : List Value) → length (map f xs) ≡ length xs
length-map f [] = refl
length-map f (x ∷ xs) = ap suc (length-map f xs)

-- ---- sizes

-- A value with as many parts as a list.
abbrev Sized : Value → List Value → Type 0
Sized v xs = (k : Kind) × (vs : Values) × (v ≡ node k vs) × (length xs ≡ length (to_list vs))

module _ (p : Bool) (es : List TypeEntry) where
  -- A function is defined at as many arguments as it has pairs, and has as many of them as a relation.
  function-sized : (ts : Tys) (v : Value) → is_of p es (compound a_function ts) v ≡ true → Sized v (sorted_once (map from_of (items_of v))) × Sized v (sorted_once (items_of v))
  function-sized (more_tys t (more_tys u no_tys)) (node a_function vs) h = (
    (a_function, vs, refl, ap length (sorted_once-itself (map from_of (to_list vs)) (rises-map from_of (to_list vs) (and-left _ _ h))) ∙ length-map from_of (to_list vs)),
    (
      a_function,
      vs,
      refl,
      ap length (sorted_once-itself (to_list vs) (pairs-rise (λ x. is_pair x && is_of p es t (from_of x) && is_of p es u (to_of x)) (to_list vs) (λ x q. and-left _ _ (and-left _ _ q)) (and-right _ _ h) (and-left _ _ h))),
    ),
  )
  function-sized _ _ h = cc

  function-of : (t : Option Ty) (v : Value) → is_function t ≡ true → ((s : Ty) → t ≡ Some s → IsTrue (is_of p es s v)) → Sized v (sorted_once (map from_of (items_of v))) × Sized v (sorted_once (items_of v))
  function-of (Some (compound a_function ts)) v h f = function-sized ts v (f (compound a_function ts) refl)
  function-of _ v h f = cc

  parted : (ts : Tys) (v : Value) → is_of p es (compound a_partition ts) v ≡ true → (vs : Values) × (v ≡ node a_partition vs) × Strictly (to_list vs)
  parted (more_tys t no_tys) (node a_partition vs) h = (vs, refl, and-left _ _ (and-left _ _ h))
  parted _ _ h = cc

  partition-of : (t : Option Ty) (v : Value) → is_partition t ≡ true → ((s : Ty) → t ≡ Some s → IsTrue (is_of p es s v)) → (vs : Values) × (v ≡ node a_partition vs) × Strictly (to_list vs)
  partition-of (Some (compound a_partition ts)) v h f = parted ts v (f (compound a_partition ts) refl)
  partition-of _ v h f = cc

  -- A set or relation.
  set-of : (t : Option Ty) (v : Value) → both_sets t t ≡ true → ((s : Ty) → t ≡ Some s → IsTrue (is_of p es s v)) → Strictly (items_of v) × Sized v (sorted_once (items_of v))
  set-of t v h f = let r = sets-of p es t t v v h f f in let s = subst Strictly (sym r.left_items) r.left_rises in
      (s, (r.kind, r.left, r.left_is, ap length (sorted_once-itself (items_of v) s ∙ r.left_items)))

-- The size of what a word makes of a container.
made-size : (w : Fun) (k : Kind) (s : Value → List Value) → ((v : Value) → value_of_word1 w v ≡ Some (node k (of_list (s v)))) → (o : Option Value) → ((v : Value) → o ≡ Some v → Sized v (s v)) →
    value_of_node (unary Op1.Bar) (value_of_node (word w) (o ∷ []) ∷ []) ≡ value_of_node (unary Op1.Bar) (o ∷ [])
made-size w k s q None h = refl
made-size w k s q (Some v) h = let c = h v refl in
    ap (λ z. value_of_node (unary Op1.Bar) (z ∷ [])) (q v)
    ∙ ap (λ l. Some (number (pos (length l)))) (to_list-of_list (s v)) ∙ ap (λ n. Some (number (pos n))) c.3
    ∙ sym (ap (λ z. value_of_node (unary Op1.Bar) (Some z ∷ [])) c.2)

made-answer : (g : Names Ty) (x : Text) (e : Ex) → SoundWithin g e → (env : Env) → Typed g env → AnswerKeeps (size_made g x e) e env
made-answer g x (ex1 false Op1.Bar (fun1 false Fun.Defined f)) h env t = when-so (is_function (type_of f g)) _ (ex1 false Op1.Bar (fun1 false Fun.Defined f)) env
    (λ q m. (made-size Fun.Defined a_set (λ v. sorted_once (map from_of (items_of v))) (λ v. refl) (meaning f env) (λ v j. (function-of env.positions env.types (type_of f g) v q (λ y p. h.0.0 y p env t v j)).0), m.0))
made-answer g x (ex1 false Op1.Bar (fun1 false Fun.ToRelation f)) h env t = when-so (is_function (type_of f g)) _ (ex1 false Op1.Bar (fun1 false Fun.ToRelation f)) env
    (λ q m. (made-size Fun.ToRelation a_relation (λ v. sorted_once (items_of v)) (λ v. refl) (meaning f env) (λ v j. (function-of env.positions env.types (type_of f g) v q (λ y p. h.0.0 y p env t v j)).1), m.0))
made-answer g x (ex1 false Op1.Bar (fun1 false Fun.ToMSet s)) h env t = when-so (is_counted (type_of s g)) _ (ex1 false Op1.Bar (fun1 false Fun.ToMSet s)) env
    (λ q m. (
      made-size Fun.ToMSet a_mset (λ v. sorted (items_of v)) (λ v. refl) (meaning s env)
          (λ v j. let c = counted-of env.positions env.types (type_of s g) v q (λ y p. h.0.0 y p env t v j) in (c.0, c.1, c.2, sorted-length (items_of v) ∙ ap length (ap items_of c.2 ∙ c.3 c.1))),
      m.0,
    ))
made-answer g x (ex1 false Op1.Bar (fun1 false Fun.ToSet s)) h env t = when-so (both_sets (type_of s g) (type_of s g)) _ (ex1 false Op1.Bar (fun1 false Fun.ToSet s)) env
    (λ q m. (made-size Fun.ToSet a_set (λ v. sorted_once (items_of v)) (λ v. refl) (meaning s env) (λ v j. (set-of env.positions env.types (type_of s g) v q (λ y p. h.0.0 y p env t v j)).1), m.0))
made-answer g x (ex1 false Op1.Bar (fun1 false Fun.Parts s)) h env t = when-so (is_partition (type_of s g)) _ (ex1 false Op1.Bar (fun1 false Fun.Parts s)) env
    (λ q m. (
      made-size Fun.Parts a_set (λ v. sorted_once (items_of v)) (λ v. refl) (meaning s env)
          (λ v j. let c = partition-of env.positions env.types (type_of s g) v q (λ y p. h.0.0 y p env t v j) in let i : items_of v ≡ to_list c.0 = ap items_of c.1 in
          (a_partition, c.0, c.1, ap (λ l. length (sorted_once l)) i ∙ ap length (sorted_once-itself (to_list c.0) c.2)))
          ∙ sym (sum q (meaning s env) refl),
      ((m.0.0, each-in-any (meaning s env) _ (λ v. tt)), tt),
    ))
  where
    sum : is_partition (type_of s g) ≡ true → (o : Option Value) → meaning s env ≡ o → meaning (size_as_sum x s) env ≡ meaning (ex1 false Op1.Bar s) env
    sum q None j = size-is-sum x s env a_partition None (λ us. refl) j
    sum q (Some v) j = let c = partition-of env.positions env.types (type_of s g) v q (λ y p. h.0.0 y p env t v j) in size-is-sum x s env a_partition (Some c.0) (λ us. refl) (j ∙ ap Some c.1)
made-answer g x _ h env t = tt

-- `|..|` of a container made of another one.
pub size_made-keeps : RuleKeepsWithin size_made
size_made-keeps g x e f q o h env t = fires (size_made g x e) e f env (made-answer g x e h env t) q

-- ---- frequencies

-- A value is there that a word makes of another one.
operand-there : (w : Fun) (o : Option Value) (m : Value) → value_of_node (word w) (o ∷ []) ≡ Some m → (v : Value) × (o ≡ Some v)
operand-there w None m q = cc
operand-there w (Some v) m q = (v, refl)

occurs-answer : (g : Names Ty) (x : Text) (e : Ex) → SoundWithin g e → (env : Env) → Typed g env → OperandsThere e env → AnswerKeeps (frequency_made g x e) e env
occurs-answer g x (node_ex false (word Fun.Freq) (more_exs (fun1 false Fun.ToMSet s) (more_exs a no_exs))) h env t i =
    when-so (both_sets (type_of s g) (type_of s g)) _ (frequency (fun1 false Fun.ToMSet s) a) env (λ q m. (
      let r = both-there (meaning (fun1 false Fun.ToMSet s) env) (meaning a env) i in let v = operand-there Fun.ToMSet (meaning s env) r.0 r.2 in go q v.0 r.1 v.1 r.3,
      ((m.1.0, (m.0.0, tt)), tt),
    ))
  where
    go : both_sets (type_of s g) (type_of s g) ≡ true → (v w : Value) → meaning s env ≡ Some v → meaning a env ≡ Some w → meaning (frequency (fun1 false Fun.ToMSet s) a) env ≡ meaning (fun1 false Fun.ToInt (ex2 true Op2.Member a s)) env
    go q v w j k =
        ap (λ z. value_of_node (word Fun.Freq) (value_of_node (word Fun.ToMSet) (z ∷ []) ∷ meaning a env ∷ [])) j
        ∙ ap (λ z. value_of_node (word Fun.Freq) (Some (mset_of (items_of v)) ∷ z ∷ [])) k
        ∙ ap (λ l. Some (number (pos (count l w)))) (to_list-of_list (sorted (items_of v)))
        ∙ ap (λ n. Some (number (pos n))) (count-sorted (items_of v) w ∙ count-strictly (items_of v) w (set-of env.positions env.types (type_of s g) v q (λ y p. h.0.0 y p env t v j)).0)
        ∙ sym (ap (λ z. value_of_node (word Fun.ToInt) (z ∷ [])) (binary-means env true Op2.Member a s w v k j))
occurs-answer g x _ h env t i = tt

-- `freq` in a multiset made of a set or relation.
pub frequency_made-keeps : RuleKeepsWithinThere frequency_made
frequency_made-keeps g x e f q o h env t i = fires (frequency_made g x e) e f env (occurs-answer g x e h env t i) q

-- 1 for each item that is w, 0 for each other one.
abbrev ones : Value → List Value → List Value
ones w [] = []
ones w (v ∷ vs) = number (pos (if same v w then 1 else 0)) ∷ ones w vs

sum-ones : (w : Value) (vs : List Value) → sum_of (ones w vs) ≡ pos (count vs w)
sum-ones w [] = refl
sum-ones w (v ∷ vs) = ap (λ n. pos (if same v w then 1 else 0) +ℤ n) (sum-ones w vs) ∙ go (same v w) (count vs w)
  where
    go : (b : Bool) (n : ℕ) → pos (if b then 1 else 0) +ℤ pos n ≡ pos (if b then suc n else n)
    go true n = let e : 1 + n ≡ suc n = omega arith in ap pos e
    go false n = let e : 0 + n ≡ n = omega arith in ap pos e

ones-there : (a : Ex) (es : Exs) (env : Env) (w : Value) → meaning a env ≡ Some w → (xs : List Value) → all_some (meanings es env) ≡ Some xs → all_some (meanings (ones_where a es) env) ≡ Some (ones w xs)
ones-there a no_exs env w k xs q = go xs q
  where
    go : (xs : List Value) → Some [] ≡ Some xs → Some [] ≡ Some (ones w xs)
    go [] q = refl
    go (x ∷ xs) q = cc
ones-there a (more_exs b es) env w k xs q = go (meaning b env) refl (all_some (meanings es env)) xs q (λ ys r. ones-there a es env w k ys r)
  where
    go : (o : Option Value) → meaning b env ≡ o → (p : Option (List Value)) (xs : List Value) → and_then o (λ x. option_map (λ ys. x ∷ ys) p) ≡ Some xs →
        ((ys : List Value) → p ≡ Some ys → all_some (meanings (ones_where a es) env) ≡ Some (ones w ys)) →
        all_some (meaning (fun1 false Fun.ToInt (ex2 true Op2.Eq b a)) env ∷ meanings (ones_where a es) env) ≡ Some (ones w xs)
    go None j p xs q f = cc
    go (Some v) j None xs q f = cc
    go (Some v) j (Some ys) xs q f =
        ap (λ z. all_some (value_of_node (word Fun.ToInt) (z ∷ []) ∷ meanings (ones_where a es) env)) (binary-means env true Op2.Eq b a v w j k)
        ∙ ap (option_map (λ zs. number (pos (if same v w then 1 else 0)) ∷ zs)) (f ys refl)
        ∙ ap (option_map (ones w)) q

ones-met : (a : Ex) (es : Exs) (env : Env) → Meets a env → MeetsAll false es env → MeetsAll false (ones_where a es) env
ones-met a no_exs env m h = tt
ones-met a (more_exs b es) env m h = (((h.0, (m, tt)), tt), ones-met a es env m h.1)

listed-answer : (e : Ex) (env : Env) → OperandsThere e env → AnswerKeeps (frequency_listed e) e env
listed-answer (node_ex false (word Fun.Freq) (more_exs (node_ex false mset_literal es) (more_exs a no_exs))) env i = λ m. (
  let r = both-there (meaning (node_ex false mset_literal es) env) (meaning a env) i in go (all_some (meanings es env)) refl r.0 r.1 r.2 r.3,
  (ones-met a es env m.1.0 m.0, tt),
)
  where
    go : (o : Option (List Value)) → all_some (meanings es env) ≡ o → (u w : Value) → meaning (node_ex false mset_literal es) env ≡ Some u → meaning a env ≡ Some w →
        meaning (frequency (node_ex false mset_literal es) a) env ≡ meaning (fun1 false Fun.Sum (node_ex false matrix_literal (ones_where a es))) env
    go None q u w j k = absurd (let z : None ≡ Some u = sym (ap (λ o. and_then o (value_of_op mset_literal)) q) ∙ j in cc)
    go (Some xs) q u w j k =
        ap (λ o. value_of_node (word Fun.Freq) (and_then o (value_of_op mset_literal) ∷ meaning a env ∷ [])) q
        ∙ ap (λ z. value_of_node (word Fun.Freq) (Some (mset_of xs) ∷ z ∷ [])) k
        ∙ ap (λ l. Some (number (pos (count l w)))) (to_list-of_list (sorted xs))
        ∙ ap (λ n. Some (number (pos n))) (count-sorted xs w)
        ∙ sym (literal-means false Fun.Sum refl (ones_where a es) env (ones w xs) (ones-there a es env w k xs q) ∙ ap (λ n. Some (number n)) (sum-ones w xs))
listed-answer _ env i = tt

-- `freq` in a literal.
pub frequency_listed-keeps : RuleKeepsWhere OperandsThere frequency_listed
frequency_listed-keeps e f q env i = fires (frequency_listed e) e f env (listed-answer e env i) q
