-- Words, operators and literals that make no scalar, and operands of those that do.
use Rattle.std.proofs.Common.{◌≡◌, refl, sym, ◌∙◌, Bool, true, false, ◌&&◌, ◌||◌, List, [], ◌∷◌, Option, Some, None, option_map}
use Rattle.std.specs.List.{list_all}
use Rattle.ess_semantics.specs.declared.words.Fun.{Fun}
use Rattle.ess_semantics.specs.Lists.{and_then, all_some}
use Rattle.ess_semantics.specs.Values.{Kind, a_tuple, a_matrix, a_set, a_mset, a_function, a_partition}
use Rattle.ess_semantics.specs.Operators.{iff}
use Rattle.ess_semantics.specs.Types.{Ty, Tys, any_ty, bool_ty, int_ty, compound, compound1, compound2, no_tys, more_tys, join, join_all, fit}
use Rattle.ess_semantics.specs.OperatorTypes.{included, type_of_word1, type_of_word2, member_ty, list_ty, function_ty, relation_ty, partition_ty, type_of_list, united, arguments_ty, part_ty}
use Rattle.ess_semantics.proofs.Tests.{and-left, and-right, and-both}
use Rattle.ess_rules_laws.specs.Progress.{is_parted}
use Rattle.ess_refine_laws.specs.ScalarItems.{is_scalar}
use Rattle.ess_refine_laws.specs.Progress.{is_known}
use Rattle.ess_refine_laws.proofs.ScalarOperands.{alike, no-union, included-parted, pair-scalars}

pub no : {A : Type 0} → false ≡ true → A
no h = cc

pub or-left : (p q : Bool) → p ≡ true → p || q ≡ true
or-left true q h = refl
or-left false q h = no h

pub or-right : (p q : Bool) → q ≡ true → p || q ≡ true
or-right true q h = refl
or-right false q h = h

-- A mark that is right.
pub mark-is : (b t : Bool) → iff b t ≡ true → b ≡ t
mark-is true true h = refl
mark-is true false h = no h
mark-is false false h = refl
mark-is false true h = no h

-- ---- words that make no scalars

pub never-defined : (t : Ty) → is_scalar (type_of_word1 Fun.Defined t) ≡ false
never-defined (compound a_function (more_tys a (more_tys b no_tys))) = refl
never-defined any_ty = refl
never-defined _ = refl

pub never-range : (t : Ty) → is_scalar (type_of_word1 Fun.Range t) ≡ false
never-range (compound a_function (more_tys a (more_tys b no_tys))) = refl
never-range any_ty = refl
never-range _ = refl

pub never-relation : (t : Ty) → is_scalar (type_of_word1 Fun.ToRelation t) ≡ false
never-relation (compound a_function (more_tys a (more_tys b no_tys))) = refl
never-relation any_ty = refl
never-relation _ = refl

pub never-parts : (t : Ty) → is_scalar (type_of_word1 Fun.Parts t) ≡ false
never-parts (compound a_partition (more_tys a no_tys)) = refl
never-parts any_ty = refl
never-parts _ = refl

pub never-participants : (t : Ty) → is_scalar (type_of_word1 Fun.Participants t) ≡ false
never-participants (compound a_partition (more_tys a no_tys)) = refl
never-participants any_ty = refl
never-participants _ = refl

-- A compound type made of another one.
pub made-compound : (k : Kind) (o : Option Ty) → is_scalar (option_map (λ t. compound k (more_tys t no_tys)) o) ≡ false
made-compound k None = refl
made-compound k (Some t) = refl

pub never-set : (t : Ty) → is_scalar (type_of_word1 Fun.ToSet t) ≡ false
never-set (compound a_set ts) = refl
never-set (compound a_partition ts) = refl
never-set t = made-compound a_set (member_ty t)

pub never-mset : (t : Ty) → is_scalar (type_of_word1 Fun.ToMSet t) ≡ false
never-mset (compound a_set (more_tys a no_tys)) = refl
never-mset t = made-compound a_mset (list_ty t)

pub never-preimage : (t u : Ty) → is_scalar (type_of_word2 Fun.PreImage t u) ≡ false
never-preimage t u = go (join t (compound2 a_function any_ty u))
  where
    sets : (t : Ty) → is_scalar (arguments_ty t) ≡ false
    sets (compound a_function (more_tys a (more_tys b no_tys))) = refl
    sets _ = refl

    go : (o : Option Ty) → is_scalar (and_then o arguments_ty) ≡ false
    go None = refl
    go (Some t) = sets t

pub never-party : (t u : Ty) → is_scalar (type_of_word2 Fun.Party t u) ≡ false
never-party t u = go (join u (compound1 a_partition t))
  where
    sets : (t : Ty) → is_scalar (part_ty t) ≡ false
    sets (compound a_partition (more_tys a no_tys)) = refl
    sets _ = refl

    go : (o : Option Ty) → is_scalar (and_then o part_ty) ≡ false
    go None = refl
    go (Some t) = sets t

-- ---- literals make no scalars

-- What is never a scalar, of a list of types.
pub never-list : (os : List (Option Ty)) (G : List Ty → Option Ty) → ((ts : List Ty) → is_scalar (G ts) ≡ false) →
    is_scalar (and_then (all_some os) G) ≡ true → false ≡ true
never-list os G n e = go (all_some os) e
  where
    go : (z : Option (List Ty)) → is_scalar (and_then z G) ≡ true → false ≡ true
    go None e = e
    go (Some ts) e = sym (n ts) ∙ e

pub then-compound : (F : Ty → Option Ty) → ((t : Ty) → is_scalar (F t) ≡ false) → (o : Option Ty) → is_scalar (and_then o F) ≡ false
then-compound F n None = refl
then-compound F n (Some t) = n t

pub never-function : (t : Ty) → is_scalar (function_ty t) ≡ false
never-function (compound a_tuple (more_tys a (more_tys b no_tys))) = refl
never-function any_ty = refl
never-function _ = refl

pub never-tuples : (t : Ty) → is_scalar (relation_ty t) ≡ false
never-tuples (compound a_tuple ts) = refl
never-tuples any_ty = refl
never-tuples _ = refl

pub never-partition : (t : Ty) → is_scalar (partition_ty t) ≡ false
never-partition (compound a_set (more_tys a no_tys)) = refl
never-partition any_ty = refl
never-partition _ = refl

pub never-matrix : (ts : List Ty) → is_scalar (type_of_list ts) ≡ false
never-matrix [] = refl
never-matrix (t ∷ ts) = go (join_all (t ∷ ts))
  where
    go : (o : Option Ty) → is_scalar (option_map (compound2 a_matrix int_ty) o) ≡ false
    go None = refl
    go (Some u) = refl

-- Two operands that agree.
pub two-alike : {A : Type 0} (o p : Option Ty) → is_known o ≡ true → is_known p ≡ true →
    is_scalar (and_then o (λ t. and_then p (λ u. fit t u bool_ty))) ≡ true →
    (is_scalar o ≡ true → is_scalar p ≡ true → A) → (is_parted o ≡ true → is_parted p ≡ true → A) → A
two-alike None p h k e f g = no e
two-alike (Some t) None h k e f g = no e
two-alike (Some t) (Some u) h k e f g = alike t u h k e f g

-- Two that are included.
pub two-included : (o p : Option Ty) → is_known o ≡ true → is_known p ≡ true →
    is_scalar (and_then o (λ t. and_then p (λ u. and_then (join t u) included))) ≡ true → (is_parted o ≡ true) × (is_parted p ≡ true)
two-included None p h k e = no e
two-included (Some t) None h k e = no e
two-included (Some t) (Some u) h k e = included-parted t u h k e

-- Two that are united.
pub two-united : (o p : Option Ty) → is_known o ≡ true → is_known p ≡ true →
    is_scalar (and_then o (λ t. and_then p (λ u. and_then (join t u) united))) ≡ true → false ≡ true
two-united None p h k e = e
two-united (Some t) None h k e = e
two-united (Some t) (Some u) h k e = no-union t u h k e

-- Truth values of a test on one and on two.
pub one-all : (o : Option Ty) → is_scalar o ≡ true → list_all is_scalar (o ∷ []) ≡ true
one-all o h = and-both (is_scalar o) true h refl

pub two-all : (o p : Option Ty) → is_scalar o ≡ true → is_scalar p ≡ true → list_all is_scalar (o ∷ p ∷ []) ≡ true
two-all o p h k = and-both (is_scalar o) (is_scalar p && true) h (and-both (is_scalar p) true k refl)

-- Two operands whose scalar is one of what they agree on.
pub scalars : (F : Ty → Option Ty) → ((k : Kind) (ts : Tys) → is_scalar (F (compound k ts)) ≡ false) → (o p : Option Ty) →
    list_all is_known (o ∷ p ∷ []) ≡ true → is_scalar (and_then o (λ t. and_then p (λ u. and_then (join t u) F))) ≡ true →
    list_all is_scalar (o ∷ p ∷ []) ≡ true
scalars F n o p k e =
    let r = pair-scalars F n o p (and-left (is_known o) (is_known p && true) k)
    (and-left (is_known p) true (and-right (is_known o) (is_known p && true) k)) e in
    two-all o p r.0 r.1
