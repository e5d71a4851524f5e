-- Operators that have truth values whatever their operands are have the type bool, where they have one.
use Rattle.std.proofs.Common.{◌≡◌, true, List, [], ◌∷◌, Option, Some, None, option_map}
use Rattle.ess_semantics.specs.declared.words.Op1.{Op1}
use Rattle.ess_semantics.specs.declared.words.Op2.{Op2}
use Rattle.ess_semantics.specs.declared.words.Fun.{Fun}
use Rattle.ess_semantics.specs.Lists.{and_then}
use Rattle.ess_semantics.specs.Values.{a_matrix, a_set, a_mset, a_relation, a_partition}
use Rattle.ess_semantics.specs.Trees.{Op, unary, binary, word, is_truth_op}
use Rattle.ess_semantics.specs.Types.{Ty, any_ty, bool_ty, int_ty, named_ty, compound, compound1, compound2, join, fit}
use Rattle.ess_semantics.specs.OperatorTypes.{compared, lex_compared, included, member_ty, asked_ty, list_ty, type_of_binary, type_of_word1, type_of_word2, type_of_op}

-- Nothing, or a truth value.
abbrev Yes : Option Ty → Type 0
Yes o = (t : Ty) → o ≡ Some t → t ≡ bool_ty

mapped-yes : {A : Type 0} (o : Option A) → Yes (option_map (λ v. bool_ty) o)
mapped-yes None t q = cc
mapped-yes (Some a) t q = cc

then-yes : {A : Type 0} (o : Option A) (F : A → Option Ty) → ((a : A) → Yes (F a)) → Yes (and_then o F)
then-yes None F h t q = cc
then-yes (Some a) F h t q = h a t q

truth-yes : (u : Ty) → Yes (fit u bool_ty bool_ty)
truth-yes u = mapped-yes (join u bool_ty)

compared-yes : (u : Ty) → Yes (compared u)
compared-yes int_ty t q = cc
compared-yes bool_ty t q = cc
compared-yes (named_ty a) t q = cc
compared-yes any_ty t q = cc
compared-yes _ t q = cc

lex-yes : (u : Ty) → Yes (lex_compared u)
lex-yes (compound2 a_matrix i e) t q = compared-yes e t q
lex-yes any_ty t q = cc
lex-yes _ t q = cc

included-yes : (u : Ty) → Yes (included u)
included-yes (compound a_set ts) t q = cc
included-yes (compound a_mset ts) t q = cc
included-yes (compound a_relation ts) t q = cc
included-yes any_ty t q = cc
included-yes _ t q = cc

binary-yes : (o : Op2) (t u : Ty) → is_truth_op (binary o) ≡ true → Yes (type_of_binary o t u)
binary-yes Op2.Eq t u k = mapped-yes (join t u)
binary-yes Op2.Ne t u k = mapped-yes (join t u)
binary-yes Op2.Lt t u k = then-yes (join t u) compared compared-yes
binary-yes Op2.Le t u k = then-yes (join t u) compared compared-yes
binary-yes Op2.Gt t u k = then-yes (join t u) compared compared-yes
binary-yes Op2.Ge t u k = then-yes (join t u) compared compared-yes
binary-yes Op2.LexLt t u k = then-yes (join t u) lex_compared lex-yes
binary-yes Op2.LexLe t u k = then-yes (join t u) lex_compared lex-yes
binary-yes Op2.LexGt t u k = then-yes (join t u) lex_compared lex-yes
binary-yes Op2.LexGe t u k = then-yes (join t u) lex_compared lex-yes
binary-yes Op2.Member t u k = then-yes (asked_ty u) (λ m. fit t m bool_ty) (λ m. mapped-yes (join t m))
binary-yes Op2.Subset t u k = then-yes (join t u) included included-yes
binary-yes Op2.SubsetEq t u k = then-yes (join t u) included included-yes
binary-yes Op2.Supset t u k = then-yes (join t u) included included-yes
binary-yes Op2.SupsetEq t u k = then-yes (join t u) included included-yes
binary-yes Op2.And t u k = then-yes (join t u) (λ v. fit v bool_ty bool_ty) truth-yes
binary-yes Op2.Or t u k = then-yes (join t u) (λ v. fit v bool_ty bool_ty) truth-yes
binary-yes Op2.Implies t u k = then-yes (join t u) (λ v. fit v bool_ty bool_ty) truth-yes
binary-yes Op2.Iff t u k = then-yes (join t u) (λ v. fit v bool_ty bool_ty) truth-yes
binary-yes _ t u k = cc

word1-yes : (f : Fun) (t : Ty) → is_truth_op (word f) ≡ true → Yes (type_of_word1 f t)
word1-yes Fun.And t k = then-yes (list_ty t) (λ e. fit e bool_ty bool_ty) truth-yes
word1-yes Fun.Or t k = then-yes (list_ty t) (λ e. fit e bool_ty bool_ty) truth-yes
word1-yes Fun.AllDiff t k = mapped-yes (list_ty t)
word1-yes Fun.Together t k = λ u q. cc
word1-yes _ t k = cc

word2-yes : (f : Fun) (t u : Ty) → is_truth_op (word f) ≡ true → Yes (type_of_word2 f t u)
word2-yes Fun.And t u k = λ v q. cc
word2-yes Fun.Or t u k = λ v q. cc
word2-yes Fun.AllDiff t u k = λ v q. cc
word2-yes Fun.Together t u k = then-yes (join t (compound1 a_set any_ty)) (λ v. and_then (member_ty v) (λ a. fit u
    (compound1 a_partition a) bool_ty))
    (λ v. then-yes (member_ty v) (λ a. fit u (compound1 a_partition a) bool_ty) (λ a. mapped-yes (join u (compound1 a_partition a))))
word2-yes _ t u k = cc

-- What has a truth value by its operator has one by its type.
pub is-truth : (op : Op) (ts : List Ty) → is_truth_op op ≡ true → Yes (type_of_op op ts)
is-truth (unary Op1.Not) (t ∷ []) k = truth-yes t
is-truth (unary Op1.Not) [] k = λ u q. cc
is-truth (unary Op1.Not) (t ∷ v ∷ ts) k = λ u q. cc
is-truth (unary Op1.Minus) ts k = cc
is-truth (unary Op1.Bar) ts k = cc
is-truth (binary o) (t ∷ u ∷ []) k = binary-yes o t u k
is-truth (binary o) [] k = λ u q. cc
is-truth (binary o) (t ∷ []) k = λ u q. cc
is-truth (binary o) (t ∷ v ∷ w ∷ ts) k = λ u q. cc
is-truth (word f) (t ∷ []) k = word1-yes f t k
is-truth (word f) (t ∷ u ∷ []) k = word2-yes f t u k
is-truth (word f) [] k = λ u q. cc
is-truth (word f) (t ∷ v ∷ w ∷ ts) k = λ u q. cc
is-truth _ ts k = cc
