-- Types of containers that agree, and so the types of their members.
use Rattle.std.proofs.Common.{◌≡◌, refl, ap, subst, true, Option, Some, None, option_map}
use Rattle.std.specs.Prelude.{is_some}
use Rattle.ess_semantics.specs.Lists.{and_then}
use Rattle.ess_semantics.specs.Values.{Kind, a_set, a_mset, a_function, a_relation, a_partition, a_tuple}
use Rattle.ess_semantics.specs.Types.{Ty, Tys, any_ty, no_tys, more_tys, compound, compound1, compound2, join, joins}
use Rattle.ess_semantics.specs.OperatorTypes.{member_ty, asked_ty, tuple_ty}
use Rattle.ess_rules_laws.specs.InclusionRules.{both_sets, both_msets, both_functions}
use Rattle.ess_rules_laws.specs.PartitionRules.{both_partitions}
use Rattle.ess_guard_types_laws.proofs.JoinedTypes.{Agree}

-- Under one constructor and under another.
of-map : {A B : Type 0} (f : A → B) (o : Option A) → is_some (option_map f o) ≡ true → is_some o ≡ true
of-map f None h = h
of-map f (Some x) h = refl

to-map : {A B : Type 0} (f : A → B) (o : Option A) → is_some o ≡ true → is_some (option_map f o) ≡ true
to-map f None h = h
to-map f (Some x) h = refl

-- One part.
pub of-one : (k : Kind) (o : Option Ty) → is_some (option_map (compound k) (and_then o (λ v. option_map (more_tys v) (Some no_tys)))) ≡ true →
    is_some o ≡ true
of-one k None h = h
of-one k (Some v) h = refl

pub to-one : (k : Kind) (o : Option Ty) → is_some o ≡ true →
    is_some (option_map (compound k) (and_then o (λ v. option_map (more_tys v) (Some no_tys)))) ≡ true
to-one k None h = h
to-one k (Some v) h = refl

-- Types m and n of the members of a and b, of which `in` asks, agree.
pub record Asks (a b m n : Ty) : Type 0 where
  pub left : asked_ty a ≡ Some m
  pub right : asked_ty b ≡ Some n
  pub agree : Agree m n

tuples-agree : (ts us : Tys) → Agree (compound a_relation ts) (compound a_relation us) → Agree (tuple_ty ts) (tuple_ty us)
tuples-agree no_tys us h = refl
tuples-agree (more_tys t ts) no_tys h = refl
tuples-agree (more_tys t ts) (more_tys u us) h =
    to-map (compound a_tuple) (joins (more_tys t ts) (more_tys u us)) (of-map (compound a_relation) (joins (more_tys t ts) (more_tys u us)) h)

pub sets-ask : (a b m n : Ty) → both_sets (Some a) (Some b) ≡ true → Agree a b → member_ty a ≡ Some m → member_ty b ≡ Some n → Asks a b m n
sets-ask (compound1 a_set t) (compound1 a_set u) m n c h p q = record {
  left = p;
  right = q;
  agree = let i : t ≡ m = cc in let j : u ≡ n = cc in
      subst (λ z. Agree m z) j (subst (λ z. Agree z u) i (of-one a_set (join t u) h));
}
sets-ask (compound a_relation ts) (compound a_relation us) m n c h p q = record {
  left = p;
  right = q;
  agree = let i : tuple_ty ts ≡ m = cc in let j : tuple_ty us ≡ n = cc in
      subst (λ z. Agree m z) j (subst (λ z. Agree z (tuple_ty us)) i (tuples-agree ts us h));
}
sets-ask _ _ m n c h p q = record { left = cc; right = cc; agree = cc }

pub msets-agree : (a b m n : Ty) → both_msets (Some a) (Some b) ≡ true → Agree a b → member_ty a ≡ Some m → member_ty b ≡ Some n →
    (a ≡ compound1 a_mset m) × (b ≡ compound1 a_mset n) × Agree m n
msets-agree (compound1 a_mset t) (compound1 a_mset u) m n c h p q =
    let i : t ≡ m = cc in let j : u ≡ n = cc in (
      ap (compound1 a_mset) i,
      ap (compound1 a_mset) j,
      subst (λ z. Agree m z) j (subst (λ z. Agree z u) i (of-one a_mset (join t u) h)),
    )
msets-agree _ _ m n c h p q = (cc, cc, cc)

pub functions-agree : (a b m n : Ty) → both_functions (Some a) (Some b) ≡ true → Agree a b → member_ty a ≡ Some m → member_ty b ≡ Some n →
    (t : Ty) × (u : Ty) × (v : Ty) × (w : Ty) × (a ≡ compound2 a_function t u) × (b ≡ compound2 a_function v w)
    × (compound2 a_tuple t u ≡ m) × (compound2 a_tuple v w ≡ n) × Agree (compound2 a_tuple t u) (compound2 a_tuple v w)
functions-agree (compound2 a_function t u) (compound2 a_function v w) m n c h p q = (
  t,
  u,
  v,
  w,
  refl,
  refl,
  cc,
  cc,
  to-map (compound a_tuple) (joins (more_tys t (more_tys u no_tys)) (more_tys v (more_tys w no_tys)))
      (of-map (compound a_function) (joins (more_tys t (more_tys u no_tys)) (more_tys v (more_tys w no_tys))) h),
)
functions-agree _ _ m n c h p q = (any_ty, any_ty, any_ty, any_ty, cc, cc, cc, cc, cc)

pub partitions-agree : (a b m n : Ty) → both_partitions (Some a) (Some b) ≡ true → Agree a b → member_ty a ≡ Some m → member_ty b ≡ Some n →
    (t : Ty) × (u : Ty) × (a ≡ compound1 a_partition t) × (b ≡ compound1 a_partition u) × (compound1 a_set t ≡ m) × (compound1 a_set u ≡ n)
    × Agree t u
partitions-agree (compound1 a_partition t) (compound1 a_partition u) m n c h p q =
    (t, u, refl, refl, cc, cc, of-one a_partition (join t u) h)
partitions-agree _ _ m n c h p q = (any_ty, any_ty, cc, cc, cc, cc, cc)
