-- Types of nodes and of comprehensions over one source, from the types of their parts.
use Rattle.std.proofs.Common.{◌≡◌, refl, sym, ap, ◌∙◌, Bool, true, false, if◌then◌else◌, List, [], ◌∷◌, Option, Some, None, option_map}
use Rattle.std.specs.Prelude.{is_some}
use Rattle.ess_semantics.specs.declared.words.Op2.{Op2}
use Rattle.ess_semantics.specs.declared.words.Fun.{Fun}
use Rattle.ess_semantics.specs.Lists.{and_then, all_some}
use Rattle.ess_semantics.specs.Values.{Text, a_matrix, a_set, a_mset, a_relation}
use Rattle.ess_semantics.specs.Names.{Names}
use Rattle.ess_semantics.specs.Trees.{word, binary, name_pat, Ex, name_ex, comp_ex, ex2, fun1, no_gens, from}
use Rattle.ess_semantics.specs.Types.{Ty, any_ty, bool_ty, int_ty, compound, compound2, join, fit}
use Rattle.ess_semantics.specs.OperatorTypes.{type_of_op, member_ty, asked_ty}
use Rattle.ess_semantics.specs.Typing.{type_of}
use Rattle.ess_guard_types_laws.proofs.JoinedTypes.{Agree, turned}
use Rattle.ess_rules_laws.proofs.Agreement.{look-itself}
use Rattle.ess_refine_laws.specs.TypesStay.{KeepsType}
use Rattle.ess_refine_types_laws.specs.TypeNames.{IsUntyped}
use Rattle.ess_refine_types_laws.proofs.TypeNames.{type-behind}

-- ---- options

-- What is made of one operand and of two.
pub one-is : (o : Option Ty) (F : List Ty → Option Ty) (t : Ty) → and_then (all_some (o ∷ [])) F ≡ Some t →
    (a : Ty) × (o ≡ Some a) × (F (a ∷ []) ≡ Some t)
one-is None F t q = (any_ty, cc, cc)
one-is (Some a) F t q = (a, refl, q)

pub two-is : (o p : Option Ty) (F : List Ty → Option Ty) (t : Ty) → and_then (all_some (o ∷ p ∷ [])) F ≡ Some t →
    (a : Ty) × (b : Ty) × (o ≡ Some a) × (p ≡ Some b) × (F (a ∷ b ∷ []) ≡ Some t)
two-is None p F t q = (any_ty, any_ty, cc, cc, cc)
two-is (Some a) None F t q = (any_ty, any_ty, cc, cc, cc)
two-is (Some a) (Some b) F t q = (a, b, refl, refl, q)

pub one-to : (o : Option Ty) (F : List Ty → Option Ty) (a t : Ty) → o ≡ Some a → F (a ∷ []) ≡ Some t → and_then (all_some (o ∷ [])) F ≡ Some t
one-to o F a t p q = ap (λ z. and_then (all_some (z ∷ [])) F) p ∙ q

pub two-to : (o p : Option Ty) (F : List Ty → Option Ty) (a b t : Ty) → o ≡ Some a → p ≡ Some b → F (a ∷ b ∷ []) ≡ Some t →
    and_then (all_some (o ∷ p ∷ [])) F ≡ Some t
two-to o p F a b t i j q =
    ap (λ z. and_then (all_some (z ∷ p ∷ [])) F) i ∙ ap (λ z. and_then (all_some (Some a ∷ z ∷ [])) F) j ∙ q

-- r where something is there.
pub given-is : (o : Option Ty) (r t : Ty) → option_map (λ v. r) o ≡ Some t → (is_some o ≡ true) × (t ≡ r)
given-is None r t q = (cc, cc)
given-is (Some v) r t q = (refl, cc)

pub given-to : (o : Option Ty) (r : Ty) → is_some o ≡ true → option_map (λ v. r) o ≡ Some r
given-to None r h = cc
given-to (Some v) r h = refl

pub there-is : (o : Option Ty) → is_some o ≡ true → (t : Ty) × (o ≡ Some t)
there-is None h = (any_ty, cc)
there-is (Some t) h = (t, refl)

pub no : {A : Type 0} → false ≡ true → A
no h = cc

-- ---- what rules answer

module _ (g : Names Ty) where
  -- What a rule answers has the type of the root.
  abbrev pub TypeKept : Ex → Option Ex → Type 0
  TypeKept e None = Unit {0}
  TypeKept e (Some f) = KeepsType g e f

  pub when-so : (c : Bool) (e f : Ex) → (c ≡ true → KeepsType g e f) → TypeKept e (if c then Some f else None)
  when-so true e f h = h refl
  when-so false e f h = tt

  -- A truth value in the place of one.
  pub truth-for : (e f : Ex) → ((t : Ty) → type_of e g ≡ Some t → (t ≡ bool_ty) × (type_of f g ≡ Some bool_ty)) → KeepsType g e f
  truth-for e f h t q = let r = h t q in r.1 ∙ ap Some (sym r.0)

  -- ---- comprehensions over one source

  module _ (x : Text) (s body : Ex) (m b : Ty) (p : and_then (type_of s g) member_ty ≡ Some m)
      (q : type_of body ((x, m) ∷ g) ≡ Some b) where
    pub list-over : type_of (comp_ex body (from (name_pat x) s no_gens)) g ≡ Some (compound2 a_matrix int_ty b)
    list-over = ap (λ o. and_then (and_then o (λ t. Some ((x, t) ∷ g))) (λ h. option_map (compound2 a_matrix int_ty) (type_of body h))) p
        ∙ ap (option_map (compound2 a_matrix int_ty)) q

  module _ (x : Text) (s body : Ex) (m : Ty) (p : and_then (type_of s g) member_ty ≡ Some m)
      (q : type_of body ((x, m) ∷ g) ≡ Some bool_ty) where
    -- `and([body | x <- s])` and `or([body | x <- s])`.
    pub every-over : type_of (fun1 true Fun.And (comp_ex body (from (name_pat x) s no_gens))) g ≡ Some bool_ty
    every-over = one-to _ (type_of_op (word Fun.And)) _ bool_ty (list-over x s body m bool_ty p q) refl

    pub some-over : type_of (fun1 true Fun.Or (comp_ex body (from (name_pat x) s no_gens))) g ≡ Some bool_ty
    some-over = one-to _ (type_of_op (word Fun.Or)) _ bool_ty (list-over x s body m bool_ty p q) refl

  -- The new name, and a term behind it.
  pub new-name : (x : Text) (m : Ty) → type_of (name_ex x) ((x, m) ∷ g) ≡ Some m
  new-name x m = look-itself x m g

  pub term-behind : (x : Text) (m : Ty) (e : Ex) (t : Ty) → IsUntyped x e → type_of e g ≡ Some t → type_of e ((x, m) ∷ g) ≡ Some t
  term-behind x m e t u q = type-behind x m e g u ∙ q

-- ---- membership

-- What `in` asks of.
pub asked-of : (o : Option Ty) (a t : Ty) → and_then o (λ m. fit a m bool_ty) ≡ Some t →
    (m : Ty) × (o ≡ Some m) × Agree a m × (t ≡ bool_ty)
asked-of None a t q = (any_ty, cc, cc, cc)
asked-of (Some m) a t q = let r = given-is (join a m) bool_ty t q in (m, refl, r.0, r.1)

pub asked-is : (s a t : Ty) → and_then (asked_ty s) (λ m. fit a m bool_ty) ≡ Some t →
    (m : Ty) × (member_ty s ≡ Some m) × Agree a m × (t ≡ bool_ty)
asked-is any_ty a t q = asked-of (Some any_ty) a t q
asked-is (compound a_set ts) a t q = asked-of (member_ty (compound a_set ts)) a t q
asked-is (compound a_mset ts) a t q = asked-of (member_ty (compound a_mset ts)) a t q
asked-is (compound a_relation ts) a t q = asked-of (member_ty (compound a_relation ts)) a t q
asked-is _ a t q = (any_ty, cc, cc, cc)

-- An equation of two that agree.
module _ (g : Names Ty) where
  pub equation-type : (c d : Ex) (t u : Ty) → type_of c g ≡ Some t → type_of d g ≡ Some u → Agree t u →
      type_of (ex2 true Op2.Eq c d) g ≡ Some bool_ty
  equation-type c d t u p q h =
      two-to (type_of c g) (type_of d g) (type_of_op (binary Op2.Eq)) t u bool_ty p q (given-to (join t u) bool_ty h)

  -- That some member of s is a.
  pub some-member : (y : Text) (s a : Ex) (m t : Ty) → and_then (type_of s g) member_ty ≡ Some m → type_of a g ≡ Some t → IsUntyped y a →
      Agree t m →
      type_of (fun1 true Fun.Or (comp_ex (ex2 true Op2.Eq (name_ex y) a) (from (name_pat y) s no_gens))) g ≡ Some bool_ty
  some-member y s a m t p q u h = some-over g y s (ex2 true Op2.Eq (name_ex y) a) m p
      (two-to (type_of (name_ex y) ((y, m) ∷ g)) (type_of a ((y, m) ∷ g)) (type_of_op (binary Op2.Eq)) m t bool_ty (new-name g y m)
      (term-behind g y m a t u q) (given-to (join m t) bool_ty (turned t m h)))
