-- The types of function words.
use Rattle.std.proofs.Common.{◌≡◌, refl, sym, ap, ◌∙◌, false, eqb, List, [], ◌∷◌, length, map, get_or, Option, Some, None, option_map, arith}
use Rattle.std.specs.Prelude.{is_some}
use Rattle.std.proofs.lemmas.Bool.{false≢true}
use Rattle.ess_semantics.specs.declared.words.Fun.{Fun}
use Rattle.ess_semantics.specs.Lists.{and_then, when}
use Rattle.ess_semantics.specs.Values.{a_set, a_mset, a_function, a_partition}
use Rattle.ess_semantics.specs.Types as pure
use Rattle.ess_semantics.specs.Types.{any_ty, bool_ty, int_ty, compound1, compound2, join, fit}
use Rattle.ess_semantics.specs.OperatorTypes.{type_of_word, type_of_word1, type_of_word2, value_ty, arguments_ty, part_ty, member_ty}
use Rattle.ess_core.specs.TypeViews.{pure_ty}
use Rattle.ess_core.specs.declared.types.Ty.{Ty}
use Rattle.ess_core.specs.declared.types.Ty.TheVariants as variant
use Rattle.ess_core.proofs.TypeEquations.{pure_any, pure_set, pure_mset, pure_function, pure_partition}
use Rattle.ess_types_operators.proofs.Joins.{join_any, one_joined, two_joined}
use Rattle.ess_types_operators.proofs.MemberLemmas.{fit_when}

-- ---- how many operands there are

pub one_operand : (f : Fun) (ts : List Ty) (t : Ty) → length ts ≡ 1 → t ≡ get_or ts 0 t → type_of_word f (map pure_ty ts) ≡ type_of_word1 f (pure_ty t)
one_operand f [] t h is = absurd (omega (arith, h))
one_operand f (x ∷ []) t h is = ap (λ z. type_of_word1 f (pure_ty z)) (sym is)
one_operand f (x ∷ y ∷ zs) t h is = absurd (omega (arith, h))

pub two_operands : (f : Fun) (ts : List Ty) (t u : Ty) → length ts ≡ 2 → t ≡ get_or ts 0 t → u ≡ get_or ts 1 u → type_of_word f (map pure_ty ts) ≡ type_of_word2 f (pure_ty t) (pure_ty u)
two_operands f [] t u h is it = absurd (omega (arith, h))
two_operands f (x ∷ []) t u h is it = absurd (omega (arith, h))
two_operands f (x ∷ y ∷ []) t u h is it = ap (λ z. type_of_word2 f (pure_ty z) (pure_ty y)) (sym is) ∙ ap (λ z. type_of_word2 f (pure_ty t) (pure_ty z)) (sym it)
two_operands f (x ∷ y ∷ z ∷ zs) t u h is it = absurd (omega (arith, h))

pub other_operands : (f : Fun) (ts : List Ty) → eqb (length ts) 1 ≡ false → eqb (length ts) 2 ≡ false → type_of_word f (map pure_ty ts) ≡ None
other_operands f [] h k = refl
other_operands f (x ∷ []) h k = absurd (false≢true (sym h))
other_operands f (x ∷ y ∷ []) h k = absurd (false≢true (sym k))
other_operands f (x ∷ y ∷ z ∷ zs) h k = refl

-- ---- function words on two operands

image : (a b x : pure.Ty) → and_then (join (compound2 a_function a b) (compound2 a_function x any_ty)) value_ty ≡ when (is_some (join a x)) b
image a b x =
    ap (λ o. and_then o value_ty) (two_joined a_function a b x any_ty)
    ∙ ap (λ p. and_then (and_then (join a x) (λ v. option_map (compound2 a_function v) p)) value_ty) (join_any b) ∙ go (join a x)
  where
    go : (o : Option pure.Ty) → and_then (and_then o (λ v. Some (compound2 a_function v b))) value_ty ≡ when (is_some o) b
    go None = refl
    go (Some v) = refl

pub image_at : (a b x : Ty) → type_of_word2 Fun.Image (pure_ty (variant.Function a b)) (pure_ty x) ≡ when (is_some (join (pure_ty a) (pure_ty x))) (pure_ty b)
image_at a b x = ap (λ t. type_of_word2 Fun.Image t (pure_ty x)) (pure_function a b) ∙ image (pure_ty a) (pure_ty b) (pure_ty x)

preimage : (a b y : pure.Ty) → and_then (join (compound2 a_function a b) (compound2 a_function any_ty y)) arguments_ty ≡ option_map (compound1 a_set) (when (is_some (join b y)) a)
preimage a b y =
    ap (λ o. and_then o arguments_ty) (two_joined a_function a b any_ty y)
    ∙ ap (λ p. and_then (and_then p (λ v. option_map (compound2 a_function v) (join b y))) arguments_ty) (join_any a) ∙ go (join b y)
  where
    go : (o : Option pure.Ty) → and_then (option_map (compound2 a_function a) o) arguments_ty ≡ option_map (compound1 a_set) (when (is_some o) a)
    go None = refl
    go (Some v) = refl

pub preimage_at : (a b y : Ty) → type_of_word2 Fun.PreImage (pure_ty (variant.Function a b)) (pure_ty y) ≡ option_map (compound1 a_set) (when (is_some (join (pure_ty b) (pure_ty y))) (pure_ty a))
preimage_at a b y = ap (λ t. type_of_word2 Fun.PreImage t (pure_ty y)) (pure_function a b) ∙ preimage (pure_ty a) (pure_ty b) (pure_ty y)

pub freq_of : (m x : Ty) → type_of_word2 Fun.Freq (pure_ty (variant.MSet m)) (pure_ty x) ≡ when (is_some (join (pure_ty m) (pure_ty x))) int_ty
freq_of m x =
    ap (λ t. fit t (compound1 a_mset (pure_ty x)) int_ty) (pure_mset m) ∙ ap (option_map (λ v. int_ty)) (one_joined a_mset (pure_ty m) (pure_ty x)) ∙ go (join (pure_ty m) (pure_ty x))
  where
    go : (o : Option pure.Ty) → option_map (λ v. int_ty) (option_map (compound1 a_mset) o) ≡ when (is_some o) int_ty
    go None = refl
    go (Some v) = refl

pub party_of : (x m : Ty) → type_of_word2 Fun.Party (pure_ty x) (pure_ty (variant.Partition m)) ≡ option_map (compound1 a_set) (join (pure_ty m) (pure_ty x))
party_of x m =
    ap (λ t. type_of_word2 Fun.Party (pure_ty x) t) (pure_partition m) ∙ ap (λ o. and_then o part_ty) (one_joined a_partition (pure_ty m) (pure_ty x)) ∙ go (join (pure_ty m) (pure_ty x))
  where
    go : (o : Option pure.Ty) → and_then (option_map (compound1 a_partition) o) part_ty ≡ option_map (compound1 a_set) o
    go None = refl
    go (Some v) = refl

together : (m p : pure.Ty) → type_of_word2 Fun.Together (compound1 a_set m) p ≡ when (is_some (join p (compound1 a_partition m))) bool_ty
together m p =
    ap (λ o. and_then o (λ t. and_then (member_ty t) (λ a. fit p (compound1 a_partition a) bool_ty))) (one_joined a_set m any_ty)
    ∙ ap (λ o. and_then (option_map (compound1 a_set) o) (λ t. and_then (member_ty t) (λ a. fit p (compound1 a_partition a) bool_ty))) (join_any m)
    ∙ fit_when p (compound1 a_partition m) bool_ty

pub together_of : (m p : Ty) → type_of_word2 Fun.Together (pure_ty (variant.Set m)) (pure_ty p) ≡ when (is_some (join (pure_ty p) (compound1 a_partition (pure_ty m)))) bool_ty
together_of m p = ap (λ t. type_of_word2 Fun.Together t (pure_ty p)) (pure_set m) ∙ together (pure_ty m) (pure_ty p)

pub together_any : (p : Ty) → type_of_word2 Fun.Together (pure_ty variant.Any) (pure_ty p) ≡ when (is_some (join (pure_ty p) (compound1 a_partition (pure_ty variant.Any)))) bool_ty
together_any p =
    ap (λ t. type_of_word2 Fun.Together t (pure_ty p)) pure_any ∙ fit_when (pure_ty p) (compound1 a_partition any_ty) bool_ty
    ∙ ap (λ t. when (is_some (join (pure_ty p) (compound1 a_partition t))) bool_ty) (sym pure_any)

pub partitions_fit : (q m : Ty) → is_some (join (pure_ty (variant.Partition q)) (compound1 a_partition (pure_ty m))) ≡ is_some (join (pure_ty q) (pure_ty m))
partitions_fit q m =
    ap (λ t. is_some (join t (compound1 a_partition (pure_ty m)))) (pure_partition q) ∙ ap is_some (one_joined a_partition (pure_ty q) (pure_ty m)) ∙ go (join (pure_ty q) (pure_ty m))
  where
    go : (o : Option pure.Ty) → is_some (option_map (compound1 a_partition) o) ≡ is_some o
    go None = refl
    go (Some v) = refl
