-- Values of sets: a set has a list of members that rises, of the type of its kind, and so has one that is made of two.
use Rattle.std.proofs.Common.{◌≡◌, refl, sym, ap, subst, false, [], ◌∷◌, Option, Some, None}
use Rattle.std.specs.Prelude.{IsTrue, is_some}
use Rattle.ess_semantics.specs.declared.words.Op2.{Op2}
use Rattle.ess_semantics.specs.Lists.{and_then}
use Rattle.ess_semantics.specs.Values.{a_set, Value, number as number_value, truth as truth_value, item, node, Values}
use Rattle.ess_semantics.specs.Operators.{value_of_binary, value_of_node}
use Rattle.ess_semantics.specs.OperatorTypes.{united, subtracted, type_of_binary}
use Rattle.ess_semantics.specs.Trees.{binary, is_truth_op2}
use Rattle.ess_semantics.specs.Types.{Ty, compound1}
use Rattle.ess_semantics.specs.TypeMembers.{is_of_type}
use Rattle.ess_semantics.specs.Meaning.{Env}
use Rattle.ess_types_laws.proofs.Binaries.{binary-fits}
use Rattle.ess_seen_laws.specs.Seen.{Kind, sets_of, kind_ty}
use Rattle.ess_seen_laws.proofs.Types.{kind-join}

-- The value of a set term: a set, of the type of its kind.
pub record IsSet (k : Kind) (o : Option Value) (env : Env) : Type 0 where
  pub members : Values
  pub is_value : o ≡ Some (node a_set members)
  pub typed : IsTrue (is_of_type (kind_ty (sets_of k)) env (node a_set members))

-- A value of the type of a kind of sets is a set.
pub a-set : (k : Kind) (env : Env) (o : Option Value) (v : Value) → o ≡ Some v →
    IsTrue (is_of_type (kind_ty (sets_of k)) env v) → IsSet k o env
a-set k env o (node a_set vs) q h = record { members = vs; is_value = q; typed = h }
a-set k env o (number_value n) q h = cc
a-set k env o (truth_value n) q h = cc
a-set k env o (item a n) q h = cc
a-set k env o (node j vs) q h = cc

-- What is there is a value.
pub there : (o : Option Value) → IsTrue (is_some o) → (v : Value) × (o ≡ Some v)
there None h = cc
there (Some v) h = (v, refl)

-- ---- sets that are made of two

module _ (k : Kind) (env : Env) where
  abbrev T : Ty
  T = compound1 a_set (kind_ty k)

  abbrev Made : Op2 → Option Value → Option Value → Type 0
  Made o p q = IsSet k (value_of_node (binary o) (p ∷ q ∷ [])) env

  abbrev There : Option Value → Type 0
  There p = IsTrue (is_some p)

  -- What an operator gives for two sets is one, where it gives sets.
  of-two : (o : Op2) → is_truth_op2 o ≡ false → type_of_binary o T T ≡ Some T → (v : Values → Values → Value) →
      ((xs ys : Values) → value_of_binary o (node a_set xs) (node a_set ys) ≡ Some (v xs ys)) →
      ((xs ys : Values) → value_of_node (binary o) (Some (node a_set xs) ∷ Some (node a_set ys) ∷ []) ≡ Some (v xs ys)) →
      (p q : Option Value) → IsSet k p env → IsSet k q env → Made o p q
  of-two o n h v f g p q s t =
      subst (λ z. Made o z q) (sym s.is_value)
      (subst (λ z. Made o (Some (node a_set s.members)) z) (sym t.is_value)
      (a-set k env (value_of_node (binary o) (Some (node a_set s.members) ∷ Some (node a_set t.members) ∷ [])) (v s.members t.members)
      (g s.members t.members)
      (binary-fits env.positions env.types o T T T (node a_set s.members) (node a_set t.members) (v s.members t.members) n h s.typed t.typed
      (f s.members t.members))))

  -- A union, an intersection and a difference are sets of the kind of the two, where they are there.
  pub at-union : (p q : Option Value) → (There p → IsSet k p env) → (There q → IsSet k q env) →
      There (value_of_node (binary Op2.Union) (p ∷ q ∷ [])) → Made Op2.Union p q
  at-union None q f g h = cc
  at-union (Some v) None f g h = cc
  at-union (Some v) (Some w) f g h = of-two Op2.Union refl (ap (λ o. and_then o united) (kind-join (sets_of k))) _ (λ xs ys. refl)
      (λ xs ys. refl) (Some v) (Some w) (f refl) (g refl)

  pub at-intersection : (p q : Option Value) → (There p → IsSet k p env) → (There q → IsSet k q env) →
      There (value_of_node (binary Op2.Intersect) (p ∷ q ∷ [])) → Made Op2.Intersect p q
  at-intersection None q f g h = cc
  at-intersection (Some v) None f g h = cc
  at-intersection (Some v) (Some w) f g h = of-two Op2.Intersect refl (ap (λ o. and_then o united) (kind-join (sets_of k))) _
      (λ xs ys. refl) (λ xs ys. refl) (Some v) (Some w) (f refl) (g refl)

  pub at-difference : (p q : Option Value) → (There p → IsSet k p env) → (There q → IsSet k q env) →
      There (value_of_node (binary Op2.Minus) (p ∷ q ∷ [])) → Made Op2.Minus p q
  at-difference None q f g h = cc
  at-difference (Some v) None f g h = cc
  at-difference (Some v) (Some w) f g h = of-two Op2.Minus refl (ap (λ o. and_then o subtracted) (kind-join (sets_of k))) _
      (λ xs ys. refl) (λ xs ys. refl) (Some v) (Some w) (f refl) (g refl)
