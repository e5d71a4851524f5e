-- Which operators give matrices: list literals, results of functions, and indices. All others give values of other types.
use Rattle.std.proofs.Common.{◌≡◌, refl, Bool, true, false, List, [], ◌∷◌, Option, Some, None, option_map}
use Rattle.ess_semantics.specs.declared.words.Op1.{Op1}
use Rattle.ess_semantics.specs.declared.words.Op2.{Op2}
use Rattle.ess_semantics.specs.declared.words.Fun.{Fun}
use Rattle.ess_semantics.specs.Lists.{and_then}
use Rattle.ess_semantics.specs.Values.{a_tuple, a_matrix, a_set, a_mset, a_function, a_relation, a_partition}
use Rattle.ess_semantics.specs.Trees.{Op, unary, binary, word, index, application, tuple_literal, set_literal, mset_literal, function_literal, relation_literal, partition_literal, matrix_literal, record_literal}
use Rattle.ess_semantics.specs.Types.{Ty, any_ty, bool_ty, int_ty, named_ty, compound, compound1, compound2, join, join_all, fit}
use Rattle.ess_semantics.specs.OperatorTypes.{sized, united, subtracted, compared, lex_compared, included, member_ty, asked_ty, list_ty, chosen_ty, extreme_ty, to_set_ty, to_mset_ty, arguments_ty, part_ty, function_ty, relation_ty, partition_ty, type_of_unary, type_of_binary, type_of_word1, type_of_word2, type_of_word, type_of_op}
use Rattle.ess_offered_laws.specs.InnermostPicks.{is_matrix_ty}

-- ---- through options

-- What is made of a value is no matrix where none that can be made is one.
mapped-not : {A : Type 0} (f : A → Ty) → ((v : A) → is_matrix_ty (Some (f v)) ≡ false) → (o : Option A) →
    is_matrix_ty (option_map f o) ≡ false
mapped-not f h None = refl
mapped-not f h (Some v) = h v

then-not : {A : Type 0} (f : A → Option Ty) → ((v : A) → is_matrix_ty (f v) ≡ false) → (o : Option A) → is_matrix_ty (and_then o f) ≡ false
then-not f h None = refl
then-not f h (Some v) = h v

-- Numbers and truth values, where the types agree.
number-not : (t : Ty) → is_matrix_ty (fit t int_ty int_ty) ≡ false
number-not t = mapped-not (λ v. int_ty) (λ v. refl) (join t int_ty)

truth-not : (t u : Ty) → is_matrix_ty (fit t u bool_ty) ≡ false
truth-not t u = mapped-not (λ v. bool_ty) (λ v. refl) (join t u)

-- ---- operands of one sort

sized-not : (t : Ty) → is_matrix_ty (sized t) ≡ false
sized-not int_ty = refl
sized-not any_ty = refl
sized-not (compound a_set ts) = refl
sized-not (compound a_mset ts) = refl
sized-not (compound a_function ts) = refl
sized-not (compound a_relation ts) = refl
sized-not _ = refl

united-not : (t : Ty) → is_matrix_ty (united t) ≡ false
united-not any_ty = refl
united-not (compound a_set ts) = refl
united-not (compound a_relation ts) = refl
united-not _ = refl

subtracted-not : (t : Ty) → is_matrix_ty (subtracted t) ≡ false
subtracted-not int_ty = refl
subtracted-not t = united-not t

compared-not : (t : Ty) → is_matrix_ty (compared t) ≡ false
compared-not int_ty = refl
compared-not bool_ty = refl
compared-not (named_ty t) = refl
compared-not any_ty = refl
compared-not _ = refl

lex-not : (t : Ty) → is_matrix_ty (lex_compared t) ≡ false
lex-not (compound2 a_matrix i e) = compared-not e
lex-not any_ty = refl
lex-not _ = refl

included-not : (t : Ty) → is_matrix_ty (included t) ≡ false
included-not (compound a_set ts) = refl
included-not (compound a_mset ts) = refl
included-not (compound a_relation ts) = refl
included-not any_ty = refl
included-not _ = refl

chosen-not : (t : Ty) → is_matrix_ty (chosen_ty t) ≡ false
chosen-not int_ty = refl
chosen-not (named_ty t) = refl
chosen-not any_ty = refl
chosen-not _ = refl

extreme-not : (t : Ty) → is_matrix_ty (extreme_ty t) ≡ false
extreme-not (compound1 a_set e) = chosen-not e
extreme-not (compound1 a_mset e) = chosen-not e
extreme-not t = then-not chosen_ty chosen-not (list_ty t)

-- ---- operators and words

unary-not : (o : Op1) (t : Ty) → is_matrix_ty (type_of_unary o t) ≡ false
unary-not Op1.Minus t = number-not t
unary-not Op1.Not t = truth-not t bool_ty
unary-not Op1.Bar t = sized-not t

binary-not : (o : Op2) (t u : Ty) → is_matrix_ty (type_of_binary o t u) ≡ false
binary-not Op2.Intersect t u = then-not united united-not (join t u)
binary-not Op2.Union t u = then-not united united-not (join t u)
binary-not Op2.Minus t u = then-not subtracted subtracted-not (join t u)
binary-not Op2.Eq t u = truth-not t u
binary-not Op2.Ne t u = truth-not t u
binary-not Op2.Lt t u = then-not compared compared-not (join t u)
binary-not Op2.Le t u = then-not compared compared-not (join t u)
binary-not Op2.Gt t u = then-not compared compared-not (join t u)
binary-not Op2.Ge t u = then-not compared compared-not (join t u)
binary-not Op2.LexLt t u = then-not lex_compared lex-not (join t u)
binary-not Op2.LexLe t u = then-not lex_compared lex-not (join t u)
binary-not Op2.LexGt t u = then-not lex_compared lex-not (join t u)
binary-not Op2.LexGe t u = then-not lex_compared lex-not (join t u)
binary-not Op2.Member t u = then-not (λ m. fit t m bool_ty) (λ m. truth-not t m) (asked_ty u)
binary-not Op2.Subset t u = then-not included included-not (join t u)
binary-not Op2.SubsetEq t u = then-not included included-not (join t u)
binary-not Op2.Supset t u = then-not included included-not (join t u)
binary-not Op2.SupsetEq t u = then-not included included-not (join t u)
binary-not Op2.And t u = then-not (λ v. fit v bool_ty bool_ty) (λ v. truth-not v bool_ty) (join t u)
binary-not Op2.Or t u = then-not (λ v. fit v bool_ty bool_ty) (λ v. truth-not v bool_ty) (join t u)
binary-not Op2.Implies t u = then-not (λ v. fit v bool_ty bool_ty) (λ v. truth-not v bool_ty) (join t u)
binary-not Op2.Iff t u = then-not (λ v. fit v bool_ty bool_ty) (λ v. truth-not v bool_ty) (join t u)
binary-not _ t u = then-not (λ v. fit v int_ty int_ty) number-not (join t u)

defined-not : (t : Ty) → is_matrix_ty (type_of_word1 Fun.Defined t) ≡ false
defined-not (compound2 a_function a b) = refl
defined-not any_ty = refl
defined-not _ = refl

range-not : (t : Ty) → is_matrix_ty (type_of_word1 Fun.Range t) ≡ false
range-not (compound2 a_function a b) = refl
range-not any_ty = refl
range-not _ = refl

pairs-not : (t : Ty) → is_matrix_ty (type_of_word1 Fun.ToRelation t) ≡ false
pairs-not (compound2 a_function a b) = refl
pairs-not any_ty = refl
pairs-not _ = refl

parts-not : (t : Ty) → is_matrix_ty (type_of_word1 Fun.Parts t) ≡ false
parts-not (compound1 a_partition a) = refl
parts-not any_ty = refl
parts-not _ = refl

participants-not : (t : Ty) → is_matrix_ty (type_of_word1 Fun.Participants t) ≡ false
participants-not (compound1 a_partition a) = refl
participants-not any_ty = refl
participants-not _ = refl

to_set-not : (t : Ty) → is_matrix_ty (to_set_ty t) ≡ false
to_set-not (compound a_set ts) = refl
to_set-not (compound a_partition ts) = refl
to_set-not t = mapped-not (compound1 a_set) (λ v. refl) (member_ty t)

to_mset-not : (t : Ty) → is_matrix_ty (to_mset_ty t) ≡ false
to_mset-not (compound1 a_set a) = refl
to_mset-not t = mapped-not (compound1 a_mset) (λ v. refl) (list_ty t)

word1-not : (f : Fun) (t : Ty) → is_matrix_ty (type_of_word1 f t) ≡ false
word1-not Fun.Sum t = then-not (λ e. fit e int_ty int_ty) number-not (list_ty t)
word1-not Fun.Product t = then-not (λ e. fit e int_ty int_ty) number-not (list_ty t)
word1-not Fun.And t = then-not (λ e. fit e bool_ty bool_ty) (λ e. truth-not e bool_ty) (list_ty t)
word1-not Fun.Or t = then-not (λ e. fit e bool_ty bool_ty) (λ e. truth-not e bool_ty) (list_ty t)
word1-not Fun.Min t = extreme-not t
word1-not Fun.Max t = extreme-not t
word1-not Fun.AllDiff t = mapped-not (λ e. bool_ty) (λ e. refl) (list_ty t)
word1-not Fun.ToInt t = mapped-not (λ e. int_ty) (λ e. refl) (join t bool_ty)
word1-not Fun.Defined t = defined-not t
word1-not Fun.Range t = range-not t
word1-not Fun.ToSet t = to_set-not t
word1-not Fun.ToMSet t = to_mset-not t
word1-not Fun.ToRelation t = pairs-not t
word1-not Fun.Parts t = parts-not t
word1-not Fun.Participants t = participants-not t
word1-not _ t = refl

arguments-not : (t : Ty) → is_matrix_ty (arguments_ty t) ≡ false
arguments-not (compound2 a_function a b) = refl
arguments-not _ = refl

part-not : (t : Ty) → is_matrix_ty (part_ty t) ≡ false
part-not (compound1 a_partition a) = refl
part-not _ = refl

-- Whether the word is `image`.
abbrev is_image : Fun → Bool
is_image Fun.Image = true
is_image f = false

word2-not : (f : Fun) → is_image f ≡ false → (t u : Ty) → is_matrix_ty (type_of_word2 f t u) ≡ false
word2-not Fun.Image h t u = cc
word2-not Fun.PreImage h t u = then-not arguments_ty arguments-not (join t (compound2 a_function any_ty u))
word2-not Fun.Freq h t u = mapped-not (λ v. int_ty) (λ v. refl) (join t (compound1 a_mset u))
word2-not Fun.Party h t u = then-not part_ty part-not (join u (compound1 a_partition t))
word2-not Fun.Together h t u =
    then-not (λ s. and_then (member_ty s) (λ a. fit u (compound1 a_partition a) bool_ty))
    (λ s. then-not (λ a. fit u (compound1 a_partition a) bool_ty) (λ a. truth-not u (compound1 a_partition a)) (member_ty s))
    (join t (compound1 a_set any_ty))
word2-not _ h t u = refl

word-not : (f : Fun) → is_image f ≡ false → (ts : List Ty) → is_matrix_ty (type_of_word f ts) ≡ false
word-not f h [] = refl
word-not f h (t ∷ []) = word1-not f t
word-not f h (t ∷ u ∷ []) = word2-not f h t u
word-not f h (t ∷ u ∷ v ∷ ts) = refl

-- ---- literals

function-not : (t : Ty) → is_matrix_ty (function_ty t) ≡ false
function-not (compound2 a_tuple a b) = refl
function-not any_ty = refl
function-not _ = refl

relation-not : (t : Ty) → is_matrix_ty (relation_ty t) ≡ false
relation-not (compound a_tuple ts) = refl
relation-not any_ty = refl
relation-not _ = refl

partition-not : (t : Ty) → is_matrix_ty (partition_ty t) ≡ false
partition-not (compound1 a_set a) = refl
partition-not any_ty = refl
partition-not _ = refl

-- ---- all operators

-- Whether the operator may give a matrix.
abbrev pub may_be_matrix : Op → Bool
may_be_matrix application = true
may_be_matrix matrix_literal = true
may_be_matrix (word f) = is_image f
may_be_matrix op = false

-- No other one does.
pub op-not : (op : Op) → may_be_matrix op ≡ false → (ts : List Ty) → is_matrix_ty (type_of_op op ts) ≡ false
op-not (unary o) h [] = refl
op-not (unary o) h (t ∷ []) = unary-not o t
op-not (unary o) h (t ∷ u ∷ ts) = refl
op-not (binary o) h [] = refl
op-not (binary o) h (t ∷ []) = refl
op-not (binary o) h (t ∷ u ∷ []) = binary-not o t u
op-not (binary o) h (t ∷ u ∷ v ∷ ts) = refl
op-not (word f) h ts = word-not f h ts
op-not (index qs) h ts = refl
op-not application h ts = cc
op-not tuple_literal h ts = refl
op-not (record_literal fs) h ts = refl
op-not set_literal h ts = mapped-not (compound1 a_set) (λ v. refl) (join_all ts)
op-not mset_literal h ts = mapped-not (compound1 a_mset) (λ v. refl) (join_all ts)
op-not function_literal h ts = then-not function_ty function-not (join_all ts)
op-not relation_literal h ts = then-not relation_ty relation-not (join_all ts)
op-not partition_literal h ts = then-not partition_ty partition-not (join_all ts)
op-not matrix_literal h ts = cc

-- Nor does it where the types of operands are there or not.
pub then-op-not : (op : Op) → may_be_matrix op ≡ false → (o : Option (List Ty)) → is_matrix_ty (and_then o (type_of_op op)) ≡ false
then-op-not op h None = refl
then-op-not op h (Some ts) = op-not op h ts
