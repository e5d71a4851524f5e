-- Rules of inclusion and equality keep types.
use Rattle.std.proofs.Common.{◌≡◌, refl, sym, ap, ◌∙◌, subst, true, false, ◌∷◌, Option, Some, None, option_map}
use Rattle.std.specs.Prelude.{is_some}
use Rattle.ess_semantics.specs.declared.words.Op2.{Op2}
use Rattle.ess_semantics.specs.declared.words.Fun.{Fun}
use Rattle.ess_semantics.specs.Lists.{and_then}
use Rattle.ess_semantics.specs.Values.{Text, a_set, a_mset, a_function, a_relation, a_partition, a_tuple}
use Rattle.ess_semantics.specs.Names.{Names}
use Rattle.ess_semantics.specs.Trees.{binary, word, Ex, name_ex, ex2, fun1}
use Rattle.ess_semantics.specs.Types.{Ty, any_ty, bool_ty, int_ty, no_tys, more_tys, compound, compound1, compound2, join, fit}
use Rattle.ess_semantics.specs.OperatorTypes.{type_of_op, type_of_word2, member_ty, asked_ty, included}
use Rattle.ess_semantics.specs.Typing.{type_of}
use Rattle.ess_rules_laws.specs.InclusionRules.{every, frequency, both_sets, both_msets, both_functions, included_members, included_often, equal_members, equal_often, equal_pairs}
use Rattle.ess_rules_laws.specs.PartitionRules.{both_partitions, lie_together, equal_parts}
use Rattle.ess_guard_types_laws.proofs.JoinedTypes.{Agree, turned, itself, join-any}
use Rattle.ess_refine_types_laws.specs.TypeNames.{IsUntyped}
use Rattle.ess_refine_types_laws.specs.TypesOfContainers.{HasMemberType, BothHaveMembers, AreMultisets}
use Rattle.ess_refine_types_laws.proofs.TypesThatAgree.{to-one, sets-ask, msets-agree, functions-agree, partitions-agree}
use Rattle.ess_refine_types_laws.proofs.TypeParts.{two-is, one-to, two-to, given-is, given-to, there-is, TypeKept, when-so, truth-for, every-over, new-name, term-behind}

-- What the signs of inclusion compare is compared by a truth value.
included-truth : (o : Option Ty) (t : Ty) → and_then o included ≡ Some t → (is_some o ≡ true) × (t ≡ bool_ty)
included-truth None t q = (cc, cc)
included-truth (Some any_ty) t q = (refl, cc)
included-truth (Some (compound a_set ts)) t q = (refl, cc)
included-truth (Some (compound a_mset ts)) t q = (refl, cc)
included-truth (Some (compound a_relation ts)) t q = (refl, cc)
included-truth (Some _) t q = (cc, cc)

-- ---- the rules

module _ (g : Names Ty) (x : Text) where
  -- Two operands that agree and have members.
  pub record Two (a b : Ex) : Type 0 where
    pub ta : Ty
    pub tb : Ty
    pub m : Ty
    pub n : Ty
    pub left : type_of a g ≡ Some ta
    pub right : type_of b g ≡ Some tb
    pub agree : Agree ta tb
    pub of_left : member_ty ta ≡ Some m
    pub of_right : member_ty tb ≡ Some n

  members-there : (o : Option Ty) (t : Ty) → o ≡ Some t → is_some (and_then o member_ty) ≡ true → (m : Ty) × (member_ty t ≡ Some m)
  members-there o t p h = there-is (member_ty t) (subst (λ z. is_some (and_then z member_ty) ≡ true) p h)

  two-of : (a b : Ex) (ta tb : Ty) → type_of a g ≡ Some ta → type_of b g ≡ Some tb → Agree ta tb → HasMemberType g a → HasMemberType g b →
      Two a b
  two-of a b ta tb p q h k l =
      let i = members-there (type_of a g) ta p k in let j = members-there (type_of b g) tb q l in record {
        ta = ta;
        tb = tb;
        m = i.0;
        n = j.0;
        left = p;
        right = q;
        agree = h;
        of_left = i.1;
        of_right = j.1;
      }

  -- The operands of an inclusion and of an equation.
  pub of-inclusion : (a b : Ex) (t : Ty) → BothHaveMembers g (ex2 true Op2.SubsetEq a b) → type_of (ex2 true Op2.SubsetEq a b) g ≡ Some t →
      Two a b × (t ≡ bool_ty)
  of-inclusion a b t k q =
      let r = two-is (type_of a g) (type_of b g) (type_of_op (binary Op2.SubsetEq)) t q in
      let i = included-truth (join r.0 r.1) t r.4 in (two-of a b r.0 r.1 r.2 r.3 i.0 k.0 k.1, i.1)

  pub of-equation : (a b : Ex) (t : Ty) → BothHaveMembers g (ex2 true Op2.Eq a b) → type_of (ex2 true Op2.Eq a b) g ≡ Some t →
      Two a b × (t ≡ bool_ty)
  of-equation a b t k q =
      let r = two-is (type_of a g) (type_of b g) (type_of_op (binary Op2.Eq)) t q in
      let i = given-is (join r.0 r.1) bool_ty t r.4 in (two-of a b r.0 r.1 r.2 r.3 i.0 k.0 k.1, i.1)

  pub source-members : (a : Ex) (t m : Ty) → type_of a g ≡ Some t → member_ty t ≡ Some m → and_then (type_of a g) member_ty ≡ Some m
  source-members a t m p q = ap (λ o. and_then o member_ty) p ∙ q

  pub both-and : (a b : Ex) → type_of a g ≡ Some bool_ty → type_of b g ≡ Some bool_ty → type_of (ex2 true Op2.And a b) g ≡ Some bool_ty
  both-and a b p q = two-to (type_of a g) (type_of b g) (type_of_op (binary Op2.And)) bool_ty bool_ty bool_ty p q refl

  -- `and([x in b | x <- a])`.
  pub each-in : (a b : Ex) (ta tb m n : Ty) → type_of a g ≡ Some ta → type_of b g ≡ Some tb → member_ty ta ≡ Some m → asked_ty tb ≡ Some n →
      Agree m n → IsUntyped x b →
      type_of (every x a (ex2 true Op2.Member (name_ex x) b)) g ≡ Some bool_ty
  each-in a b ta tb m n p q i j h u = every-over g x a (ex2 true Op2.Member (name_ex x) b) m (source-members a ta m p i)
      (two-to (type_of (name_ex x) ((x, m) ∷ g)) (type_of b ((x, m) ∷ g)) (type_of_op (binary Op2.Member)) m tb bool_ty (new-name g x m)
      (term-behind g x m b tb u q) (ap (λ z. and_then z (λ k. fit m k bool_ty)) j ∙ given-to (join m n) bool_ty h))

  pub members : (e : Ex) → IsUntyped x e → BothHaveMembers g e → TypeKept g e (included_members g x e)
  members (ex2 true Op2.SubsetEq a b) u k = when-so g (both_sets (type_of a g) (type_of b g)) (ex2 true Op2.SubsetEq a b)
      (every x a (ex2 true Op2.Member (name_ex x) b)) (λ c. truth-for g (ex2 true Op2.SubsetEq a b) (every x a (ex2 true Op2.Member (name_ex x) b)) (λ t q.
      let r = of-inclusion a b t k q in let w = r.0 in
      let s = sets-ask w.ta w.tb w.m w.n (ap (λ z. both_sets z (Some w.tb)) (sym w.left) ∙ ap (both_sets (type_of a g)) (sym w.right) ∙ c)
      w.agree w.of_left w.of_right in (r.1, each-in a b w.ta w.tb w.m w.n w.left w.right w.of_left s.right s.agree u.1.0)))
  members _ u k = tt

  pub same-members : (e : Ex) → IsUntyped x e → BothHaveMembers g e → TypeKept g e (equal_members g x e)
  same-members (ex2 true Op2.Eq a b) u k = when-so g (both_sets (type_of a g) (type_of b g)) (ex2 true Op2.Eq a b)
      (ex2 true Op2.And (every x a (ex2 true Op2.Member (name_ex x) b)) (every x b (ex2 true Op2.Member (name_ex x) a)))
      (λ c. truth-for g (ex2 true Op2.Eq a b)
      (ex2 true Op2.And (every x a (ex2 true Op2.Member (name_ex x) b)) (every x b (ex2 true Op2.Member (name_ex x) a))) (λ t q.
      let r = of-equation a b t k q in let w = r.0 in
      let s = sets-ask w.ta w.tb w.m w.n (ap (λ z. both_sets z (Some w.tb)) (sym w.left) ∙ ap (both_sets (type_of a g)) (sym w.right) ∙ c)
      w.agree w.of_left w.of_right in (
        r.1,
        both-and (every x a (ex2 true Op2.Member (name_ex x) b)) (every x b (ex2 true Op2.Member (name_ex x) a))
            (each-in a b w.ta w.tb w.m w.n w.left w.right w.of_left s.right s.agree u.1.0)
            (each-in b a w.tb w.ta w.n w.m w.right w.left w.of_right s.left (turned w.m w.n s.agree) u.0),
      )))
  same-members _ u k = tt

  -- ---- multisets

  -- How often the new name is in a multiset.
  counted : (a : Ex) (m n : Ty) → type_of a g ≡ Some (compound1 a_mset n) → Agree n m → IsUntyped x a →
      type_of (frequency a (name_ex x)) ((x, m) ∷ g) ≡ Some int_ty
  counted a m n p h u = two-to (type_of a ((x, m) ∷ g)) (type_of (name_ex x) ((x, m) ∷ g)) (type_of_op (word Fun.Freq)) (compound1 a_mset n) m
      int_ty (term-behind g x m a (compound1 a_mset n) u p) (new-name g x m)
      (given-to (join (compound1 a_mset n) (compound1 a_mset m)) int_ty (to-one a_mset (join n m) h))

  -- Two multisets.
  record Multisets (a b : Ex) : Type 0 where
    m : Ty
    n : Ty
    left : type_of a g ≡ Some (compound1 a_mset m)
    right : type_of b g ≡ Some (compound1 a_mset n)
    agree : Agree m n

  two-msets : (a b : Ex) → Two a b → both_msets (type_of a g) (type_of b g) ≡ true → Multisets a b
  two-msets a b w c =
      let s = msets-agree w.ta w.tb w.m w.n (ap (λ z. both_msets z (Some w.tb)) (sym w.left) ∙ ap (both_msets (type_of a g)) (sym w.right) ∙ c)
      w.agree w.of_left w.of_right in
      record { m = w.m; n = w.n; left = w.left ∙ ap Some s.0; right = w.right ∙ ap Some s.1; agree = s.2 }

  pub often : (e : Ex) → IsUntyped x e → BothHaveMembers g e → AreMultisets g e → TypeKept g e (included_often x e)
  often (ex2 true Op2.SubsetEq a b) u k c = truth-for g (ex2 true Op2.SubsetEq a b)
      (every x a (ex2 true Op2.Le (frequency a (name_ex x)) (frequency b (name_ex x)))) (λ t q.
      let r = of-inclusion a b t k q in let w = two-msets a b r.0 c in (
        r.1,
        every-over g x a (ex2 true Op2.Le (frequency a (name_ex x)) (frequency b (name_ex x))) w.m
            (source-members a (compound1 a_mset w.m) w.m w.left refl)
            (two-to (type_of (frequency a (name_ex x)) ((x, w.m) ∷ g)) (type_of (frequency b (name_ex x)) ((x, w.m) ∷ g))
            (type_of_op (binary Op2.Le)) int_ty int_ty bool_ty (counted a w.m w.m w.left (itself w.m) u.0)
            (counted b w.m w.n w.right (turned w.m w.n w.agree) u.1.0) refl),
      ))
  often _ u k c = tt

  pub same-often : (e : Ex) → IsUntyped x e → BothHaveMembers g e → TypeKept g e (equal_often g x e)
  same-often (ex2 true Op2.Eq a b) u k = when-so g (both_msets (type_of a g) (type_of b g)) (ex2 true Op2.Eq a b)
      (ex2 true Op2.And (every x (fun1 false Fun.ToSet a) (ex2 true Op2.Eq (frequency a (name_ex x)) (frequency b (name_ex x))))
      (every x b (ex2 true Op2.Member (name_ex x) a))) (λ c. truth-for g (ex2 true Op2.Eq a b)
      (ex2 true Op2.And (every x (fun1 false Fun.ToSet a) (ex2 true Op2.Eq (frequency a (name_ex x)) (frequency b (name_ex x)))) (every x b (ex2 true Op2.Member (name_ex x) a))) (λ t q.
      let r = of-equation a b t k q in let w = two-msets a b r.0 c in (
        r.1,
        both-and (every x (fun1 false Fun.ToSet a) (ex2 true Op2.Eq (frequency a (name_ex x)) (frequency b (name_ex x))))
            (every x b (ex2 true Op2.Member (name_ex x) a))
            (every-over g x (fun1 false Fun.ToSet a) (ex2 true Op2.Eq (frequency a (name_ex x)) (frequency b (name_ex x))) w.m
            (source-members (fun1 false Fun.ToSet a) (compound1 a_set w.m) w.m
            (one-to (type_of a g) (type_of_op (word Fun.ToSet)) (compound1 a_mset w.m) (compound1 a_set w.m) w.left refl) refl)
            (two-to (type_of (frequency a (name_ex x)) ((x, w.m) ∷ g)) (type_of (frequency b (name_ex x)) ((x, w.m) ∷ g))
            (type_of_op (binary Op2.Eq)) int_ty int_ty bool_ty (counted a w.m w.m w.left (itself w.m) u.0)
            (counted b w.m w.n w.right (turned w.m w.n w.agree) u.1.0) refl))
            (each-in b a (compound1 a_mset w.n) (compound1 a_mset w.m) w.n w.m w.right w.left refl refl (turned w.m w.n w.agree) u.0),
      )))
  same-often _ u k = tt

  -- ---- functions and partitions

  -- The pairs of a function as a relation.
  pairs-type : (b : Ex) (t u : Ty) → type_of b g ≡ Some (compound2 a_function t u) →
      type_of (fun1 false Fun.ToRelation b) g ≡ Some (compound2 a_relation t u)
  pairs-type b t u p = one-to (type_of b g) (type_of_op (word Fun.ToRelation)) (compound2 a_function t u) (compound2 a_relation t u) p refl

  pub same-pairs : (e : Ex) → IsUntyped x e → BothHaveMembers g e → TypeKept g e (equal_pairs g x e)
  same-pairs (ex2 true Op2.Eq a b) u k = when-so g (both_functions (type_of a g) (type_of b g)) (ex2 true Op2.Eq a b)
      (ex2 true Op2.And (every x a (ex2 true Op2.Member (name_ex x) (fun1 false Fun.ToRelation b)))
      (every x b (ex2 true Op2.Member (name_ex x) (fun1 false Fun.ToRelation a)))) (λ c. truth-for g (ex2 true Op2.Eq a b)
      (ex2 true Op2.And (every x a (ex2 true Op2.Member (name_ex x) (fun1 false Fun.ToRelation b))) (every x b (ex2 true Op2.Member (name_ex x) (fun1 false Fun.ToRelation a)))) (λ t q.
      let r = of-equation a b t k q in let w = r.0 in
      let s = functions-agree w.ta w.tb w.m w.n
      (ap (λ z. both_functions z (Some w.tb)) (sym w.left) ∙ ap (both_functions (type_of a g)) (sym w.right) ∙ c) w.agree w.of_left w.of_right in
      let p : type_of a g ≡ Some (compound2 a_function s.0 s.1) = w.left ∙ ap Some s.4 in
      let l : type_of b g ≡ Some (compound2 a_function s.2 s.3) = w.right ∙ ap Some s.5 in (
        r.1,
        both-and (every x a (ex2 true Op2.Member (name_ex x) (fun1 false Fun.ToRelation b)))
            (every x b (ex2 true Op2.Member (name_ex x) (fun1 false Fun.ToRelation a)))
            (each-in a (fun1 false Fun.ToRelation b) (compound2 a_function s.0 s.1) (compound2 a_relation s.2 s.3) (compound2 a_tuple s.0 s.1)
            (compound2 a_tuple s.2 s.3) p (pairs-type b s.2 s.3 l) refl refl s.8 (u.1.0, tt))
            (each-in b (fun1 false Fun.ToRelation a) (compound2 a_function s.2 s.3) (compound2 a_relation s.0 s.1) (compound2 a_tuple s.2 s.3)
            (compound2 a_tuple s.0 s.1) l (pairs-type a s.0 s.1 p) refl refl
            (turned (compound2 a_tuple s.0 s.1) (compound2 a_tuple s.2 s.3) s.8) (u.0, tt)),
      )))
  same-pairs _ u k = tt

  -- That a set lies in a part.
  pub together-type : (t u : Ty) → Agree u t → type_of_word2 Fun.Together (compound1 a_set t) (compound1 a_partition u) ≡ Some bool_ty
  together-type t u h =
      ap (λ o. and_then (option_map (compound a_set) (and_then o (λ v. option_map (more_tys v) (Some no_tys))))
      (λ z. and_then (member_ty z) (λ c. fit (compound1 a_partition u) (compound1 a_partition c) bool_ty))) (join-any t)
      ∙ given-to (join (compound1 a_partition u) (compound1 a_partition t)) bool_ty (to-one a_partition (join u t) h)

  each-together : (a b : Ex) (t u : Ty) → type_of a g ≡ Some (compound1 a_partition t) → type_of b g ≡ Some (compound1 a_partition u) →
      Agree u t → IsUntyped x b → type_of (every x a (lie_together (name_ex x) b)) g ≡ Some bool_ty
  each-together a b t u p q h n = every-over g x a (lie_together (name_ex x) b) (compound1 a_set t)
      (source-members a (compound1 a_partition t) (compound1 a_set t) p refl)
      (two-to (type_of (name_ex x) ((x, compound1 a_set t) ∷ g)) (type_of b ((x, compound1 a_set t) ∷ g)) (type_of_op (word Fun.Together))
      (compound1 a_set t) (compound1 a_partition u) bool_ty (new-name g x (compound1 a_set t))
      (term-behind g x (compound1 a_set t) b (compound1 a_partition u) n q) (together-type t u h))

  pub same-parts : (e : Ex) → IsUntyped x e → BothHaveMembers g e → TypeKept g e (equal_parts g x e)
  same-parts (ex2 true Op2.Eq a b) u k = when-so g (both_partitions (type_of a g) (type_of b g)) (ex2 true Op2.Eq a b)
      (ex2 true Op2.And (every x a (lie_together (name_ex x) b)) (every x b (lie_together (name_ex x) a)))
      (λ c. truth-for g (ex2 true Op2.Eq a b)
      (ex2 true Op2.And (every x a (lie_together (name_ex x) b)) (every x b (lie_together (name_ex x) a))) (λ t q.
      let r = of-equation a b t k q in let w = r.0 in
      let s = partitions-agree w.ta w.tb w.m w.n
      (ap (λ z. both_partitions z (Some w.tb)) (sym w.left) ∙ ap (both_partitions (type_of a g)) (sym w.right) ∙ c) w.agree w.of_left
      w.of_right in
      let p : type_of a g ≡ Some (compound1 a_partition s.0) = w.left ∙ ap Some s.2 in
      let l : type_of b g ≡ Some (compound1 a_partition s.1) = w.right ∙ ap Some s.3 in (
        r.1,
        both-and (every x a (lie_together (name_ex x) b)) (every x b (lie_together (name_ex x) a))
            (each-together a b s.0 s.1 p l (turned s.0 s.1 s.6) u.1.0) (each-together b a s.1 s.0 l p s.6 u.0),
      )))
  same-parts _ u k = tt
