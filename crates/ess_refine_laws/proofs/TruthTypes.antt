-- Which operators have truth values, by their types.
use Rattle.std.proofs.Common.{◌≡◌, refl, Bool, true, false, List, [], ◌∷◌, Option, Some, None, option_map}
use Rattle.ess_semantics.specs.declared.words.Op1.{Op1}
use Rattle.ess_semantics.specs.declared.words.Op2.{Op2}
use Rattle.ess_semantics.specs.declared.words.Fun.{Fun}
use Rattle.ess_semantics.specs.Lists.{and_then}
use Rattle.ess_semantics.specs.Values.{a_tuple, a_matrix, a_set, a_mset, a_function, a_relation, a_partition, a_record}
use Rattle.ess_semantics.specs.Trees.{Op, unary, binary, word, index, application, tuple_literal, set_literal, mset_literal, function_literal, relation_literal, partition_literal, matrix_literal, record_literal, is_truth_op, Exs, node_ex}
use Rattle.ess_semantics.specs.Types.{Ty, any_ty, bool_ty, int_ty, named_ty, compound, compound1, compound2, join, join_all, fit, is_bool}
use Rattle.ess_semantics.specs.OperatorTypes.{sized, united, subtracted, compared, lex_compared, included, member_ty, asked_ty, list_ty, chosen_ty, extreme_ty, type_of_binary, to_set_ty, to_mset_ty, type_of_word1, type_of_word2, arguments_ty, part_ty, function_ty, relation_ty, partition_ty, type_of_op}
use Rattle.ess_refine_laws.specs.Progress.{is_picked}

-- ---- results that aren't truth values

-- No truth value.
abbrev No : Option Ty → Type 0
No o = is_bool o ≡ false

mapped : {A : Type 0} (o : Option A) (f : A → Ty) → ((a : A) → No (Some (f a))) → No (option_map f o)
mapped None f h = refl
mapped (Some a) f h = h a

then-no : {A : Type 0} (o : Option A) (F : A → Option Ty) → ((a : A) → No (F a)) → No (and_then o F)
then-no None F h = refl
then-no (Some a) F h = h a

number-no : (t : Ty) → No (fit t int_ty int_ty)
number-no t = mapped (join t int_ty) (λ v. int_ty) (λ v. refl)

sized-no : (t : Ty) → No (sized t)
sized-no int_ty = refl
sized-no any_ty = refl
sized-no (compound a_set ts) = refl
sized-no (compound a_mset ts) = refl
sized-no (compound a_function ts) = refl
sized-no (compound a_relation ts) = refl
sized-no _ = refl

united-no : (t : Ty) → No (united t)
united-no any_ty = refl
united-no (compound a_set ts) = refl
united-no (compound a_relation ts) = refl
united-no _ = refl

subtracted-no : (t : Ty) → No (subtracted t)
subtracted-no int_ty = refl
subtracted-no any_ty = refl
subtracted-no bool_ty = refl
subtracted-no (named_ty a) = refl
subtracted-no (compound a_set ts) = refl
subtracted-no (compound a_relation ts) = refl
subtracted-no (compound _ ts) = refl

chosen-no : (t : Ty) → No (chosen_ty t)
chosen-no int_ty = refl
chosen-no (named_ty a) = refl
chosen-no any_ty = refl
chosen-no _ = refl

listed-no : (t : Ty) → No (and_then (list_ty t) chosen_ty)
listed-no t = then-no (list_ty t) chosen_ty chosen-no

extreme-no : (t : Ty) → No (extreme_ty t)
extreme-no (compound1 a_set e) = chosen-no e
extreme-no (compound1 a_mset e) = chosen-no e
extreme-no (compound2 a_matrix i e) = chosen-no e
extreme-no any_ty = refl
extreme-no _ = refl

to-set-no : (t : Ty) → No (to_set_ty t)
to-set-no any_ty = refl
to-set-no bool_ty = refl
to-set-no int_ty = refl
to-set-no (named_ty a) = refl
to-set-no (compound a_set ts) = refl
to-set-no (compound a_partition ts) = refl
to-set-no (compound a_tuple ts) = mapped (member_ty (compound a_tuple ts)) (compound1 a_set) (λ a. refl)
to-set-no (compound a_matrix ts) = mapped (member_ty (compound a_matrix ts)) (compound1 a_set) (λ a. refl)
to-set-no (compound a_mset ts) = mapped (member_ty (compound a_mset ts)) (compound1 a_set) (λ a. refl)
to-set-no (compound a_function ts) = mapped (member_ty (compound a_function ts)) (compound1 a_set) (λ a. refl)
to-set-no (compound a_relation ts) = mapped (member_ty (compound a_relation ts)) (compound1 a_set) (λ a. refl)
to-set-no (compound (a_record fs) ts) = mapped (member_ty (compound (a_record fs) ts)) (compound1 a_set) (λ a. refl)

to-mset-no : (t : Ty) → No (to_mset_ty t)
to-mset-no (compound1 a_set a) = refl
to-mset-no (compound2 a_matrix i e) = refl
to-mset-no any_ty = refl
to-mset-no _ = refl

word1-no : (f : Fun) (t : Ty) → is_truth_op (word f) ≡ false → No (type_of_word1 f t)
word1-no Fun.Sum t k = then-no (list_ty t) (λ e. fit e int_ty int_ty) number-no
word1-no Fun.Product t k = then-no (list_ty t) (λ e. fit e int_ty int_ty) number-no
word1-no Fun.And t k = cc
word1-no Fun.Or t k = cc
word1-no Fun.AllDiff t k = cc
word1-no Fun.Min t k = extreme-no t
word1-no Fun.Max t k = extreme-no t
word1-no Fun.ToInt t k = mapped (join t bool_ty) (λ v. int_ty) (λ v. refl)
word1-no Fun.Defined (compound2 a_function a b) k = refl
word1-no Fun.Defined any_ty k = refl
word1-no Fun.Defined _ k = refl
word1-no Fun.Range (compound2 a_function a b) k = refl
word1-no Fun.Range any_ty k = refl
word1-no Fun.Range _ k = refl
word1-no Fun.ToSet t k = to-set-no t
word1-no Fun.ToMSet t k = to-mset-no t
word1-no Fun.ToRelation (compound2 a_function a b) k = refl
word1-no Fun.ToRelation any_ty k = refl
word1-no Fun.ToRelation _ k = refl
word1-no Fun.Parts (compound1 a_partition a) k = refl
word1-no Fun.Parts any_ty k = refl
word1-no Fun.Parts _ k = refl
word1-no Fun.Participants (compound1 a_partition a) k = refl
word1-no Fun.Participants any_ty k = refl
word1-no Fun.Participants _ k = refl
word1-no _ t k = refl

arguments-no : (t : Ty) → No (arguments_ty t)
arguments-no (compound2 a_function a b) = refl
arguments-no _ = refl

part-no : (t : Ty) → No (part_ty t)
part-no (compound1 a_partition a) = refl
part-no _ = refl

word2-no : (b : Bool) (f : Fun) (es : Exs) (t u : Ty) → is_picked (node_ex b (word f) es) ≡ false → is_truth_op (word f) ≡ false →
    No (type_of_word2 f t u)
word2-no b Fun.Image es t u p k = cc
word2-no b Fun.PreImage es t u p k = then-no (join t (compound2 a_function any_ty u)) arguments_ty arguments-no
word2-no b Fun.Freq es t u p k = mapped (join t (compound1 a_mset u)) (λ v. int_ty) (λ v. refl)
word2-no b Fun.Party es t u p k = then-no (join u (compound1 a_partition t)) part_ty part-no
word2-no b Fun.Together es t u p k = cc
word2-no b _ es t u p k = refl

function-no : (t : Ty) → No (function_ty t)
function-no (compound2 a_tuple a b) = refl
function-no any_ty = refl
function-no _ = refl

relation-no : (t : Ty) → No (relation_ty t)
relation-no (compound a_tuple ts) = refl
relation-no any_ty = refl
relation-no _ = refl

partition-no : (t : Ty) → No (partition_ty t)
partition-no (compound1 a_set a) = refl
partition-no any_ty = refl
partition-no _ = refl

binary-no : (o : Op2) (t u : Ty) → is_truth_op (binary o) ≡ false → No (type_of_binary o t u)
binary-no Op2.Intersect t u k = then-no (join t u) united united-no
binary-no Op2.Union t u k = then-no (join t u) united united-no
binary-no Op2.Minus t u k = then-no (join t u) subtracted subtracted-no
binary-no Op2.Pow t u k = then-no (join t u) (λ v. fit v int_ty int_ty) number-no
binary-no Op2.Times t u k = then-no (join t u) (λ v. fit v int_ty int_ty) number-no
binary-no Op2.Div t u k = then-no (join t u) (λ v. fit v int_ty int_ty) number-no
binary-no Op2.Mod t u k = then-no (join t u) (λ v. fit v int_ty int_ty) number-no
binary-no Op2.Plus t u k = then-no (join t u) (λ v. fit v int_ty int_ty) number-no
binary-no _ t u k = cc

-- What isn't left and has no truth value by its operator has none by its type.
pub no-truth : (b : Bool) (op : Op) (es : Exs) (ts : List Ty) → is_picked (node_ex b op es) ≡ false → is_truth_op op ≡ false →
    No (type_of_op op ts)
no-truth b (unary Op1.Minus) es (t ∷ []) p k = number-no t
no-truth b (unary Op1.Bar) es (t ∷ []) p k = sized-no t
no-truth b (unary Op1.Not) es ts p k = cc
no-truth b (unary Op1.Minus) es [] p k = refl
no-truth b (unary Op1.Minus) es (t ∷ u ∷ ts) p k = refl
no-truth b (unary Op1.Bar) es [] p k = refl
no-truth b (unary Op1.Bar) es (t ∷ u ∷ ts) p k = refl
no-truth b (binary o) es (t ∷ u ∷ []) p k = binary-no o t u k
no-truth b (binary o) es [] p k = refl
no-truth b (binary o) es (t ∷ []) p k = refl
no-truth b (binary o) es (t ∷ u ∷ v ∷ ts) p k = refl
no-truth b (word f) es (t ∷ []) p k = word1-no f t k
no-truth b (word f) es (t ∷ u ∷ []) p k = word2-no b f es t u p k
no-truth b (word f) es [] p k = refl
no-truth b (word f) es (t ∷ u ∷ v ∷ ts) p k = refl
no-truth b (index qs) es ts p k = cc
no-truth b application es ts p k = cc
no-truth b tuple_literal es ts p k = refl
no-truth b (record_literal fs) es ts p k = refl
no-truth b set_literal es ts p k = mapped (join_all ts) (compound1 a_set) (λ a. refl)
no-truth b mset_literal es ts p k = mapped (join_all ts) (compound1 a_mset) (λ a. refl)
no-truth b function_literal es ts p k = then-no (join_all ts) function_ty function-no
no-truth b relation_literal es ts p k = then-no (join_all ts) relation_ty relation-no
no-truth b partition_literal es ts p k = then-no (join_all ts) partition_ty partition-no
no-truth b matrix_literal es [] p k = refl
no-truth b matrix_literal es (t ∷ ts) p k = mapped (join_all (t ∷ ts)) (compound2 a_matrix int_ty) (λ a. refl)

-- ---- results that are truth values

-- Nothing, or a truth value.
abbrev Yes : Option Ty → Type 0
Yes o = (t : Ty) → o ≡ Some t → t ≡ bool_ty

mapped-yes : {A : Type 0} (o : Option A) → Yes (option_map (λ v. bool_ty) o)
mapped-yes None t q = cc
mapped-yes (Some a) t q = cc

then-yes : {A : Type 0} (o : Option A) (F : A → Option Ty) → ((a : A) → Yes (F a)) → Yes (and_then o F)
then-yes None F h t q = cc
then-yes (Some a) F h t q = h a t q

truth-yes : (u : Ty) → Yes (fit u bool_ty bool_ty)
truth-yes u = mapped-yes (join u bool_ty)

compared-yes : (u : Ty) → Yes (compared u)
compared-yes int_ty t q = cc
compared-yes bool_ty t q = cc
compared-yes (named_ty a) t q = cc
compared-yes any_ty t q = cc
compared-yes _ t q = cc

lex-yes : (u : Ty) → Yes (lex_compared u)
lex-yes (compound2 a_matrix i e) t q = compared-yes e t q
lex-yes any_ty t q = cc
lex-yes _ t q = cc

included-yes : (u : Ty) → Yes (included u)
included-yes (compound a_set ts) t q = cc
included-yes (compound a_mset ts) t q = cc
included-yes (compound a_relation ts) t q = cc
included-yes any_ty t q = cc
included-yes _ t q = cc

binary-yes : (o : Op2) (t u : Ty) → is_truth_op (binary o) ≡ true → Yes (type_of_binary o t u)
binary-yes Op2.Eq t u k = mapped-yes (join t u)
binary-yes Op2.Ne t u k = mapped-yes (join t u)
binary-yes Op2.Lt t u k = then-yes (join t u) compared compared-yes
binary-yes Op2.Le t u k = then-yes (join t u) compared compared-yes
binary-yes Op2.Gt t u k = then-yes (join t u) compared compared-yes
binary-yes Op2.Ge t u k = then-yes (join t u) compared compared-yes
binary-yes Op2.LexLt t u k = then-yes (join t u) lex_compared lex-yes
binary-yes Op2.LexLe t u k = then-yes (join t u) lex_compared lex-yes
binary-yes Op2.LexGt t u k = then-yes (join t u) lex_compared lex-yes
binary-yes Op2.LexGe t u k = then-yes (join t u) lex_compared lex-yes
binary-yes Op2.Member t u k = then-yes (asked_ty u) (λ m. fit t m bool_ty) (λ m. mapped-yes (join t m))
binary-yes Op2.Subset t u k = then-yes (join t u) included included-yes
binary-yes Op2.SubsetEq t u k = then-yes (join t u) included included-yes
binary-yes Op2.Supset t u k = then-yes (join t u) included included-yes
binary-yes Op2.SupsetEq t u k = then-yes (join t u) included included-yes
binary-yes Op2.And t u k = then-yes (join t u) (λ v. fit v bool_ty bool_ty) truth-yes
binary-yes Op2.Or t u k = then-yes (join t u) (λ v. fit v bool_ty bool_ty) truth-yes
binary-yes Op2.Implies t u k = then-yes (join t u) (λ v. fit v bool_ty bool_ty) truth-yes
binary-yes Op2.Iff t u k = then-yes (join t u) (λ v. fit v bool_ty bool_ty) truth-yes
binary-yes _ t u k = cc

word1-yes : (f : Fun) (t : Ty) → is_truth_op (word f) ≡ true → Yes (type_of_word1 f t)
word1-yes Fun.And t k = then-yes (list_ty t) (λ e. fit e bool_ty bool_ty) truth-yes
word1-yes Fun.Or t k = then-yes (list_ty t) (λ e. fit e bool_ty bool_ty) truth-yes
word1-yes Fun.AllDiff t k = mapped-yes (list_ty t)
word1-yes Fun.Together t k = λ u q. cc
word1-yes _ t k = cc

word2-yes : (f : Fun) (t u : Ty) → is_truth_op (word f) ≡ true → Yes (type_of_word2 f t u)
word2-yes Fun.And t u k = λ v q. cc
word2-yes Fun.Or t u k = λ v q. cc
word2-yes Fun.AllDiff t u k = λ v q. cc
word2-yes Fun.Together t u k = then-yes (join t (compound1 a_set any_ty)) (λ v. and_then (member_ty v) (λ a. fit u
    (compound1 a_partition a) bool_ty))
    (λ v. then-yes (member_ty v) (λ a. fit u (compound1 a_partition a) bool_ty) (λ a. mapped-yes (join u (compound1 a_partition a))))
word2-yes _ t u k = cc

-- What has a truth value by its operator has one by its type.
pub is-truth : (op : Op) (ts : List Ty) → is_truth_op op ≡ true → Yes (type_of_op op ts)
is-truth (unary Op1.Not) (t ∷ []) k = truth-yes t
is-truth (unary Op1.Not) [] k = λ u q. cc
is-truth (unary Op1.Not) (t ∷ v ∷ ts) k = λ u q. cc
is-truth (unary Op1.Minus) ts k = cc
is-truth (unary Op1.Bar) ts k = cc
is-truth (binary o) (t ∷ u ∷ []) k = binary-yes o t u k
is-truth (binary o) [] k = λ u q. cc
is-truth (binary o) (t ∷ []) k = λ u q. cc
is-truth (binary o) (t ∷ v ∷ w ∷ ts) k = λ u q. cc
is-truth (word f) (t ∷ []) k = word1-yes f t k
is-truth (word f) (t ∷ u ∷ []) k = word2-yes f t u k
is-truth (word f) [] k = λ u q. cc
is-truth (word f) (t ∷ v ∷ w ∷ ts) k = λ u q. cc
is-truth _ ts k = cc
