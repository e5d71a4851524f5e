-- Which operators are Boolean: where the type of the result is bool the operator says so itself.
use Rattle.std.proofs.Common.{◌≡◌, refl, sym, ap, ◌∙◌, Bool, true, false, ◌||◌, not, [], ◌∷◌, Option, Some, None, option_map}
use Rattle.ess_semantics.specs.declared.words.Op1.{Op1}
use Rattle.ess_semantics.specs.declared.words.Op2.{Op2}
use Rattle.ess_semantics.specs.declared.words.Fun.{Fun}
use Rattle.ess_semantics.specs.Lists.{and_then, all_some}
use Rattle.ess_semantics.specs.Values.{Kind, a_tuple, a_matrix, a_set, a_mset, a_function, a_relation, a_partition, a_record}
use Rattle.ess_semantics.specs.Trees.{unary, binary, is_truth_op1, is_truth_op2, is_truth_word}
use Rattle.ess_semantics.specs.Types.{Ty, any_ty, bool_ty, int_ty, named_ty, compound, compound1, compound2, is_bool, join, fit}
use Rattle.ess_semantics.specs.OperatorTypes.{sized, united, subtracted, type_of_op, type_of_unary, type_of_binary}
use Rattle.ess_core.specs.TreeViews.{call_mark}

-- ---- types that are never bool

-- The result of a test is never bool where r isn't.
never-fit : (o : Option Ty) → is_bool (option_map (λ v. int_ty) o) ≡ false
never-fit None = refl
never-fit (Some t) = refl

-- A type made of one other isn't bool.
pub never-one : (k : Kind) (o : Option Ty) → is_bool (option_map (compound1 k) o) ≡ false
never-one k None = refl
never-one k (Some t) = refl

-- A type made of two others isn't bool.
pub never-two : (k : Kind) (i : Ty) (o : Option Ty) → is_bool (option_map (compound2 k i) o) ≡ false
never-two k i None = refl
never-two k i (Some t) = refl

never-sized : (t : Ty) → is_bool (sized t) ≡ false
never-sized any_ty = refl
never-sized bool_ty = refl
never-sized int_ty = refl
never-sized (named_ty a) = refl
never-sized (compound a_tuple ts) = refl
never-sized (compound a_matrix ts) = refl
never-sized (compound a_set ts) = refl
never-sized (compound a_mset ts) = refl
never-sized (compound a_function ts) = refl
never-sized (compound a_relation ts) = refl
never-sized (compound a_partition ts) = refl
never-sized (compound (a_record fs) ts) = refl

never-united : (t : Ty) → is_bool (united t) ≡ false
never-united any_ty = refl
never-united bool_ty = refl
never-united int_ty = refl
never-united (named_ty a) = refl
never-united (compound a_tuple ts) = refl
never-united (compound a_matrix ts) = refl
never-united (compound a_set ts) = refl
never-united (compound a_mset ts) = refl
never-united (compound a_function ts) = refl
never-united (compound a_relation ts) = refl
never-united (compound a_partition ts) = refl
never-united (compound (a_record fs) ts) = refl

never-subtracted : (t : Ty) → is_bool (subtracted t) ≡ false
never-subtracted any_ty = refl
never-subtracted bool_ty = refl
never-subtracted int_ty = refl
never-subtracted (named_ty a) = refl
never-subtracted (compound k ts) = never-united (compound k ts)

-- What is never bool isn't so behind a type that may be missing.
pub never-then : (f : Ty → Option Ty) → ((t : Ty) → is_bool (f t) ≡ false) → (o : Option Ty) → is_bool (and_then o f) ≡ false
never-then f h None = refl
never-then f h (Some t) = h t

-- ---- operators

unary-mark : (o : Op1) (t : Ty) → (is_truth_op1 o || is_bool (type_of_unary o t)) ≡ is_truth_op1 o
unary-mark Op1.Minus t = never-fit (join t int_ty)
unary-mark Op1.Not t = refl
unary-mark Op1.Bar t = never-sized t

number-mark : (a b : Ty) → is_bool (and_then (join a b) (λ t. fit t int_ty int_ty)) ≡ false
number-mark a b = never-then (λ t. fit t int_ty int_ty) (λ t. never-fit (join t int_ty)) (join a b)

binary-mark : (o : Op2) (a b : Ty) → (is_truth_op2 o || is_bool (type_of_binary o a b)) ≡ is_truth_op2 o
binary-mark Op2.Pow a b = number-mark a b
binary-mark Op2.Times a b = number-mark a b
binary-mark Op2.Div a b = number-mark a b
binary-mark Op2.Mod a b = number-mark a b
binary-mark Op2.Intersect a b = never-then united never-united (join a b)
binary-mark Op2.Plus a b = number-mark a b
binary-mark Op2.Minus a b = never-then subtracted never-subtracted (join a b)
binary-mark Op2.Union a b = never-then united never-united (join a b)
binary-mark Op2.Eq a b = refl
binary-mark Op2.Ne a b = refl
binary-mark Op2.Lt a b = refl
binary-mark Op2.Le a b = refl
binary-mark Op2.Gt a b = refl
binary-mark Op2.Ge a b = refl
binary-mark Op2.LexLt a b = refl
binary-mark Op2.LexLe a b = refl
binary-mark Op2.LexGt a b = refl
binary-mark Op2.LexGe a b = refl
binary-mark Op2.Member a b = refl
binary-mark Op2.Subset a b = refl
binary-mark Op2.SubsetEq a b = refl
binary-mark Op2.Supset a b = refl
binary-mark Op2.SupsetEq a b = refl
binary-mark Op2.And a b = refl
binary-mark Op2.Or a b = refl
binary-mark Op2.Implies a b = refl
binary-mark Op2.Iff a b = refl

false-or : (b : Bool) → (b || false) ≡ b
false-or true = refl
false-or false = refl

-- The mark of an operator on one operand is that of its sign.
pub one_marked : (o : Op1) (t u : Option Ty) → u ≡ and_then (all_some (t ∷ [])) (type_of_op (unary o))
    → is_truth_op1 o ≡ (is_truth_op1 o || is_bool u)
one_marked o None u e = sym (ap (λ u. is_truth_op1 o || is_bool u) e ∙ false-or (is_truth_op1 o))
one_marked o (Some t) u e = sym (ap (λ u. is_truth_op1 o || is_bool u) e ∙ unary-mark o t)

-- The same with two operands.
pub two_marked : (o : Op2) (s t u : Option Ty) → u ≡ and_then (all_some (s ∷ t ∷ [])) (type_of_op (binary o))
    → is_truth_op2 o ≡ (is_truth_op2 o || is_bool u)
two_marked o None t u e = sym (ap (λ u. is_truth_op2 o || is_bool u) e ∙ false-or (is_truth_op2 o))
two_marked o (Some s) None u e = sym (ap (λ u. is_truth_op2 o || is_bool u) e ∙ false-or (is_truth_op2 o))
two_marked o (Some s) (Some t) u e = sym (ap (λ u. is_truth_op2 o || is_bool u) e ∙ binary-mark o s t)

-- ---- function words

-- A call of a word that gives no truth value carries the mark.
pub word_marked : (f : Fun) (b : Bool) → is_truth_word f ≡ false → call_mark b f ≡ (is_truth_word f || b)
word_marked f true h = ap not h ∙ sym (ap (λ c. c || true) h)
word_marked f false h = sym (false-or (is_truth_word f))

-- One that gives a truth value carries none.
pub truth_marked : (f : Fun) (b : Bool) → is_truth_word f ≡ true → call_mark false f ≡ (is_truth_word f || b)
truth_marked f b h = h ∙ sym (ap (λ c. c || b) h)

-- A call of `image` carries the mark.
pub image_marked : (b : Bool) → call_mark b Fun.Image ≡ b
image_marked true = refl
image_marked false = refl
