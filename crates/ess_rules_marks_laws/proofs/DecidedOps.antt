-- Operators whose type is bool where they say so, and only there.
use Rattle.std.proofs.Common.{◌≡◌, refl, sym, ap, ◌∙◌, Bool, true, false, ◌&&◌, ◌||◌, List, [], ◌∷◌, Option, Some, None, option_map}
use Rattle.ess_semantics.specs.declared.words.Op1.{Op1}
use Rattle.ess_semantics.specs.declared.words.Op2.{Op2}
use Rattle.ess_semantics.specs.declared.words.Fun.{Fun}
use Rattle.ess_semantics.specs.Lists.{and_then, all_some}
use Rattle.ess_semantics.specs.Values.{a_matrix, a_set, a_mset, a_function, a_relation, a_partition}
use Rattle.ess_semantics.specs.Trees.{Op, unary, binary, word, index, tuple_literal, matrix_literal, record_literal, is_truth_op}
use Rattle.ess_semantics.specs.Types.{Ty, any_ty, bool_ty, int_ty, named_ty, compound, compound1, compound2, is_bool, join, join_all, fit}
use Rattle.ess_semantics.specs.OperatorTypes.{type_of_op, type_of_unary, type_of_binary, type_of_word1, type_of_word2, member_ty, list_ty, chosen_ty, extreme_ty, united, subtracted, to_set_ty, to_mset_ty}
use Rattle.ess_semantics.specs.Typing.{Static, type_of_node}
use Rattle.ess_semantics.specs.Operators.{iff}
use Rattle.ess_semantics.proofs.Tests.{and-both}

-- Whether the operator is one of these.
abbrev pub is_decided : Op → Bool
is_decided (unary o) = true
is_decided (binary o) = true
is_decided (word Fun.And) = true
is_decided (word Fun.Or) = true
is_decided (word Fun.AllDiff) = true
is_decided (word Fun.Together) = true
is_decided (word Fun.Sum) = true
is_decided (word Fun.Product) = true
is_decided (word Fun.Min) = true
is_decided (word Fun.Max) = true
is_decided (word Fun.ToInt) = true
is_decided (word Fun.ToSet) = true
is_decided (word Fun.ToMSet) = true
is_decided (word Fun.ToRelation) = true
is_decided (word Fun.Parts) = true
is_decided (word Fun.Freq) = true
is_decided tuple_literal = true
is_decided (record_literal fs) = true
is_decided matrix_literal = true
is_decided op = false

-- Nothing, or another type than bool.
abbrev NoBool : Option Ty → Type 0
NoBool o = (t : Ty) → o ≡ Some t → is_bool (Some t) ≡ false

given-no : (o : Option Ty) (r : Ty) → is_bool (Some r) ≡ false → NoBool (option_map (λ v. r) o)
given-no None r h t q = cc
given-no (Some v) r h t q = ap is_bool (sym q) ∙ h

made-no : {A : Type 0} (o : Option A) (F : A → Ty) → ((a : A) → is_bool (Some (F a)) ≡ false) → NoBool (option_map F o)
made-no None F h t q = cc
made-no (Some a) F h t q = ap is_bool (sym q) ∙ h a

then-no : (o : Option Ty) (F : Ty → Option Ty) → ((a : Ty) → NoBool (F a)) → NoBool (and_then o F)
then-no None F h t q = cc
then-no (Some a) F h t q = h a t q

is-no : (o : Option Ty) (r : Ty) → is_bool (Some r) ≡ false → o ≡ Some r → NoBool o
is-no o r h e t q = ap is_bool (sym q ∙ e) ∙ h

united-no : (t : Ty) → NoBool (united t)
united-no any_ty u q = ap is_bool (sym q)
united-no (compound a_set ts) u q = ap is_bool (sym q)
united-no (compound a_relation ts) u q = ap is_bool (sym q)
united-no _ u q = cc

subtracted-no : (t : Ty) → NoBool (subtracted t)
subtracted-no int_ty u q = ap is_bool (sym q)
subtracted-no any_ty u q = ap is_bool (sym q)
subtracted-no (compound a_set ts) u q = ap is_bool (sym q)
subtracted-no (compound a_relation ts) u q = ap is_bool (sym q)
subtracted-no _ u q = cc

sized-no : (t : Ty) → NoBool (type_of_unary Op1.Bar t)
sized-no int_ty u q = ap is_bool (sym q)
sized-no any_ty u q = ap is_bool (sym q)
sized-no (compound a_set ts) u q = ap is_bool (sym q)
sized-no (compound a_mset ts) u q = ap is_bool (sym q)
sized-no (compound a_function ts) u q = ap is_bool (sym q)
sized-no (compound a_relation ts) u q = ap is_bool (sym q)
sized-no _ u q = cc

chosen-no : (t : Ty) → NoBool (chosen_ty t)
chosen-no int_ty u q = ap is_bool (sym q)
chosen-no any_ty u q = ap is_bool (sym q)
chosen-no (named_ty a) u q = ap is_bool (sym q)
chosen-no _ u q = cc

extreme-no : (t : Ty) → NoBool (extreme_ty t)
extreme-no (compound1 a_set e) u q = chosen-no e u q
extreme-no (compound1 a_mset e) u q = chosen-no e u q
extreme-no (compound2 a_matrix i e) u q = chosen-no e u q
extreme-no any_ty u q = ap is_bool (sym q)
extreme-no _ u q = cc

relation-no : (t : Ty) → NoBool (type_of_word1 Fun.ToRelation t)
relation-no (compound2 a_function a b) u q = ap is_bool (sym q)
relation-no any_ty u q = ap is_bool (sym q)
relation-no _ u q = cc

parts-no : (t : Ty) → NoBool (type_of_word1 Fun.Parts t)
parts-no (compound1 a_partition a) u q = ap is_bool (sym q)
parts-no any_ty u q = ap is_bool (sym q)
parts-no _ u q = cc

set-no : (t : Ty) → NoBool (to_set_ty t)
set-no (compound a_set ts) u q = cc
set-no (compound a_partition ts) u q = cc
set-no (compound a_mset ts) u q = made-no (member_ty (compound a_mset ts)) (compound1 a_set) (λ a. refl) u q
set-no (compound a_function ts) u q = made-no (member_ty (compound a_function ts)) (compound1 a_set) (λ a. refl) u q
set-no (compound a_relation ts) u q = made-no (member_ty (compound a_relation ts)) (compound1 a_set) (λ a. refl) u q
set-no (compound a_matrix ts) u q = made-no (member_ty (compound a_matrix ts)) (compound1 a_set) (λ a. refl) u q
set-no any_ty u q = ap is_bool (sym q)
set-no _ u q = cc

mset-no : (t : Ty) → NoBool (to_mset_ty t)
mset-no (compound1 a_set a) u q = ap is_bool (sym q)
mset-no (compound2 a_matrix i a) u q = ap is_bool (sym q)
mset-no any_ty u q = ap is_bool (sym q)
mset-no _ u q = cc

binary-no : (o : Op2) (a b : Ty) → is_truth_op (binary o) ≡ false → NoBool (type_of_binary o a b)
binary-no Op2.Intersect a b k = then-no (join a b) united united-no
binary-no Op2.Union a b k = then-no (join a b) united united-no
binary-no Op2.Minus a b k = then-no (join a b) subtracted subtracted-no
binary-no Op2.Plus a b k = then-no (join a b) (λ t. fit t int_ty int_ty) (λ t. given-no (join t int_ty) int_ty refl)
binary-no Op2.Times a b k = then-no (join a b) (λ t. fit t int_ty int_ty) (λ t. given-no (join t int_ty) int_ty refl)
binary-no Op2.Div a b k = then-no (join a b) (λ t. fit t int_ty int_ty) (λ t. given-no (join t int_ty) int_ty refl)
binary-no Op2.Mod a b k = then-no (join a b) (λ t. fit t int_ty int_ty) (λ t. given-no (join t int_ty) int_ty refl)
binary-no Op2.Pow a b k = then-no (join a b) (λ t. fit t int_ty int_ty) (λ t. given-no (join t int_ty) int_ty refl)
binary-no _ a b k = cc

word1-no : (f : Fun) (t : Ty) → is_decided (word f) ≡ true → is_truth_op (word f) ≡ false → NoBool (type_of_word1 f t)
word1-no Fun.Sum t d k = then-no (list_ty t) (λ e. fit e int_ty int_ty) (λ e. given-no (join e int_ty) int_ty refl)
word1-no Fun.Product t d k = then-no (list_ty t) (λ e. fit e int_ty int_ty) (λ e. given-no (join e int_ty) int_ty refl)
word1-no Fun.Min t d k = extreme-no t
word1-no Fun.Max t d k = extreme-no t
word1-no Fun.ToInt t d k = given-no (join t bool_ty) int_ty refl
word1-no Fun.ToSet t d k = set-no t
word1-no Fun.ToMSet t d k = mset-no t
word1-no Fun.ToRelation t d k = relation-no t
word1-no Fun.Parts t d k = parts-no t
word1-no Fun.Freq t d k = λ u q. cc
word1-no _ t d k = cc

word2-no : (f : Fun) (t u : Ty) → is_decided (word f) ≡ true → is_truth_op (word f) ≡ false → NoBool (type_of_word2 f t u)
word2-no Fun.Freq t u d k = given-no (join t (compound1 a_mset u)) int_ty refl
word2-no Fun.Sum t u d k = λ v q. cc
word2-no Fun.Product t u d k = λ v q. cc
word2-no Fun.Min t u d k = λ v q. cc
word2-no Fun.Max t u d k = λ v q. cc
word2-no Fun.ToInt t u d k = λ v q. cc
word2-no Fun.ToSet t u d k = λ v q. cc
word2-no Fun.ToMSet t u d k = λ v q. cc
word2-no Fun.ToRelation t u d k = λ v q. cc
word2-no Fun.Parts t u d k = λ v q. cc
word2-no _ t u d k = cc

pub decided-no : (op : Op) (ts : List Ty) → is_decided op ≡ true → is_truth_op op ≡ false → NoBool (type_of_op op ts)
decided-no (unary Op1.Minus) (t ∷ []) d k = given-no (join t int_ty) int_ty refl
decided-no (unary Op1.Bar) (t ∷ []) d k = sized-no t
decided-no (unary Op1.Not) ts d k = cc
decided-no (unary Op1.Minus) [] d k = λ u q. cc
decided-no (unary Op1.Minus) (t ∷ v ∷ ts) d k = λ u q. cc
decided-no (unary Op1.Bar) [] d k = λ u q. cc
decided-no (unary Op1.Bar) (t ∷ v ∷ ts) d k = λ u q. cc
decided-no (binary o) (t ∷ u ∷ []) d k = binary-no o t u k
decided-no (binary o) [] d k = λ u q. cc
decided-no (binary o) (t ∷ []) d k = λ u q. cc
decided-no (binary o) (t ∷ u ∷ v ∷ ts) d k = λ u q. cc
decided-no (word f) (t ∷ []) d k = word1-no f t d k
decided-no (word f) (t ∷ u ∷ []) d k = word2-no f t u d k
decided-no (word f) [] d k = λ u q. cc
decided-no (word f) (t ∷ u ∷ v ∷ ts) d k = λ u q. cc
decided-no tuple_literal ts d k = λ u q. ap is_bool (sym q)
decided-no (record_literal fs) ts d k = λ u q. ap is_bool (sym q)
decided-no matrix_literal [] d k = λ u q. ap is_bool (sym q)
decided-no matrix_literal (t ∷ ts) d k = made-no (join_all (t ∷ ts)) (compound2 a_matrix int_ty) (λ a. refl)
decided-no _ ts d k = cc

-- Such a node is of its operands.
pub decided-node : (op : Op) → is_decided op ≡ true → (ss : List Static) (us : List (Option Ty)) →
    type_of_node op ss us ≡ and_then (all_some us) (type_of_op op)
decided-node (index qs) d ss us = cc
decided-node _ d ss us = refl

pub right-mark : (op : Op) (t : Ty) → (is_truth_op op ≡ false → is_bool (Some t) ≡ false) →
    is_truth_op op ≡ (is_truth_op op || is_bool (Some t))
right-mark op t h = go (is_truth_op op) h
  where
    go : (b : Bool) → (b ≡ false → is_bool (Some t) ≡ false) → b ≡ (b || is_bool (Some t))
    go true h = refl
    go false h = sym (h refl)

-- Whether the operator is decided, and the mark is the one that it decides.
abbrev pub is_fit : Bool → Op → Bool
is_fit b op = is_decided op && iff b (is_truth_op op)

pub same-marks : (b c : Bool) → iff b c ≡ true → b ≡ c
same-marks true true h = refl
same-marks false false h = refl
same-marks true false h = cc
same-marks false true h = cc

itself-mark : (b c : Bool) → b ≡ c → iff b c ≡ true
itself-mark true true h = refl
itself-mark false false h = refl
itself-mark true false h = cc
itself-mark false true h = cc

pub fit-of : (b : Bool) (op : Op) → is_decided op ≡ true → b ≡ is_truth_op op → is_fit b op ≡ true
fit-of b op d m = and-both (is_decided op) (iff b (is_truth_op op)) d (itself-mark b (is_truth_op op) m)
