-- An operand that says nothing to an index has a type where the node has one.
use Rattle.std.proofs.Common.{◌≡◌, refl, sym, subst, ℕ, zero, suc, Bool, true, false, List, [], ◌∷◌, Option, Some, None}
use Rattle.ess_semantics.specs.Lists.{and_then, all_some}
use Rattle.ess_semantics.specs.Values.{a_tuple, a_matrix, a_set, a_mset, a_function, a_relation, a_partition, a_record}
use Rattle.ess_semantics.specs.Names.{Names}
use Rattle.ess_semantics.specs.Trees.{Step, by_value, to_component, to_field, index, Op, Ex, Exs, node_ex, no_exs, more_exs}
use Rattle.ess_semantics.specs.Types.{Ty, any_ty, bool_ty, int_ty, named_ty, compound, compound1, compound2, no_tys, more_tys}
use Rattle.ess_semantics.specs.OperatorTypes.{type_of_op}
use Rattle.ess_semantics.specs.Typing.{a_number, a_name, other, static, statics, step_ty, part_ty, path_ty, type_of_node, type_of, types_of}
use Rattle.ess_rules_laws.specs.LiteralRules.{nth}
use Rattle.ess_refine_types_laws.proofs.TypesOfListed.{heads, all-is}

no : {A : Type 0} → false ≡ true → A
no h = cc

-- ---- the type of an operand

-- A step by value that no index type is known of leads nowhere, where the index says nothing.
step-none : (p : Ty) (v : Ty) → step_ty p other None ≡ Some v → false ≡ true
step-none any_ty v q = cc
step-none bool_ty v q = cc
step-none int_ty v q = cc
step-none (named_ty a) v q = cc
step-none (compound2 a_matrix i e) v q = cc
step-none (compound a_tuple ts) v q = cc
step-none (compound (a_record fs) ts) v q = cc
step-none (compound a_matrix no_tys) v q = cc
step-none (compound1 a_matrix i) v q = cc
step-none (compound a_matrix (more_tys i (more_tys e (more_tys w ts)))) v q = cc
step-none (compound a_set ts) v q = cc
step-none (compound a_mset ts) v q = cc
step-none (compound a_function ts) v q = cc
step-none (compound a_relation ts) v q = cc
step-none (compound a_partition ts) v q = cc

module _ (g : Names Ty) where
  abbrev pub HasType : Ex → Type 0
  HasType e = (u : Ty) × (type_of e g ≡ Some u)

  all-typed : (es : Exs) (k : ℕ) (t : Ex) → nth es k ≡ Some t → (ts : List Ty) → all_some (types_of es g) ≡ Some ts → HasType t
  all-typed (more_exs a es) (suc zero) t n ts q =
      let h = heads (type_of a g) (all_some (types_of es g)) ts q in subst HasType (let z : a ≡ t = cc in z) (h.0, h.2)
  all-typed (more_exs a es) (suc (suc k)) t n ts q =
      let h = heads (type_of a g) (all_some (types_of es g)) ts q in all-typed es (suc k) t n h.1 h.3
  all-typed (more_exs a es) zero t n ts q = no (let i : false ≡ true = cc in i)
  all-typed no_exs k t n ts q = no (let i : false ≡ true = cc in i)

  -- Along a path.
  path-typed : (o : Option Ty) (qs : List Step) (es : Exs) (k : ℕ) (t : Ex) → nth es k ≡ Some t → static t ≡ other → (v : Ty) →
      and_then o (λ p. path_ty p qs (statics es) (types_of es g)) ≡ Some v → HasType t
  path-typed None qs es k t n s v q = no (let i : false ≡ true = cc in i)
  path-typed (Some p) (by_value ∷ qs) (more_exs a es) (suc zero) t n s v q = subst HasType c (go (type_of a g) refl q)
    where
      c : a ≡ t
      c = cc

      nowhere : (o : Option Ty) → step_ty p other None ≡ o → and_then o (λ w. path_ty w qs (statics es) (types_of es g)) ≡ Some v →
          HasType a
      nowhere None i r = no (let j : false ≡ true = cc in j)
      nowhere (Some w) i r = no (step-none p w i)

      go : (o : Option Ty) → type_of a g ≡ o →
          and_then (step_ty p (static a) o) (λ w. path_ty w qs (statics es) (types_of es g)) ≡ Some v → HasType a
      go (Some u) i r = (u, i)
      go None i r = nowhere (step_ty p other None) refl
          (subst (λ z. and_then (step_ty p z None) (λ w. path_ty w qs (statics es) (types_of es g)) ≡ Some v)
          (subst (λ z. static z ≡ other) (sym c) s) r)
  path-typed (Some p) (by_value ∷ qs) (more_exs a es) (suc (suc k)) t n s v q =
      path-typed (step_ty p (static a) (type_of a g)) qs es (suc k) t n s v q
  path-typed (Some p) (to_component j ∷ qs) es k t n s v q = path-typed (part_ty p (a_number j)) qs es k t n s v q
  path-typed (Some p) (to_field a ∷ qs) es k t n s v q = path-typed (part_ty p (a_name a)) qs es k t n s v q
  path-typed (Some p) [] (more_exs a es) k t n s v q = no (let i : false ≡ true = cc in i)
  path-typed (Some p) (by_value ∷ qs) (more_exs a es) zero t n s v q = no (let i : false ≡ true = cc in i)
  path-typed (Some p) [] no_exs k t n s v q = no (let i : false ≡ true = cc in i)
  path-typed (Some p) (by_value ∷ qs) no_exs k t n s v q = no (let i : false ≡ true = cc in i)

  -- Of an index.
  index-typed : (qs : List Step) (m : Ex) (es : Exs) (k : ℕ) (t : Ex) → nth (more_exs m es) k ≡ Some t → static t ≡ other → (v : Ty) →
      (o : Option Ty) → type_of m g ≡ o →
      type_of_node (index qs) (static m ∷ statics es) (o ∷ types_of es g) ≡ Some v → HasType t
  index-typed qs m es k t n s v None i q = no (let j : false ≡ true = cc in j)
  index-typed qs m es (suc zero) t n s v (Some p) i q = subst HasType (let z : m ≡ t = cc in z) (p, i)
  index-typed qs m es (suc (suc k)) t n s v (Some p) i q = path-typed (Some p) qs es (suc k) t n s v q
  index-typed qs m es zero t n s v (Some p) i q = no (let j : false ≡ true = cc in j)

  -- An operand that says nothing to an index has a type, where the node has one.
  pub operand-typed : (b : Bool) (op : Op) (es : Exs) (k : ℕ) (t : Ex) → nth es k ≡ Some t → static t ≡ other → (v : Ty) →
      type_of (node_ex b op es) g ≡ Some v → HasType t
  operand-typed b (index qs) (more_exs m es) k t n s v q = index-typed qs m es k t n s v (type_of m g) refl q
  operand-typed b (index qs) no_exs k t n s v q = no (let i : false ≡ true = cc in i)
  operand-typed b op es k t n s v q = let r = all-is (all_some (types_of es g)) (type_of_op op) v q in all-typed es k t n r.0 r.1
