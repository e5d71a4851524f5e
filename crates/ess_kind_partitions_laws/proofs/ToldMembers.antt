-- The number of a value tells it from the members of an atom, by its type; so it is of each member of a set.
use Rattle.std.proofs.Common.{◌≡◌, refl, sym, ap, ◌∙◌, subst, true, false, List, [], ◌∷◌, Option, Some, None, option_map}
use Rattle.std.specs.Prelude.{IsTrue, is_some}
use Rattle.std.specs.List.{list_all}
use Rattle.ess_semantics.specs.declared.words.Fun.{Fun}
use Rattle.ess_semantics.specs.Lists.{and_then, all_some}
use Rattle.ess_semantics.specs.Values.{a_set, a_partition, Value, number, truth, item, node, to_list, items_of, itself}
use Rattle.ess_semantics.specs.Collections.{rises, no_twice}
use Rattle.ess_semantics.specs.Kinds.{is_atom}
use Rattle.ess_semantics.specs.Atoms.{Listed}
use Rattle.ess_semantics.specs.Domains.{Domain, member_list}
use Rattle.ess_semantics.specs.Membership.{member}
use Rattle.ess_semantics.specs.Trees.{word, Dom}
use Rattle.ess_semantics.specs.Types.{Ty, any_ty, bool_ty, int_ty, named_ty, compound, no_tys, more_tys, compound1, fit, join, type_of_dom}
use Rattle.ess_semantics.specs.OperatorTypes.{member_ty, part_ty, type_of_op}
use Rattle.ess_semantics.specs.TypeMembers.{is_of}
use Rattle.ess_semantics.specs.Meaning.{Env, TypeEntry, domain_of, members_in}
use Rattle.ess_semantics.proofs.MemberLists.{atom-listed}
use Rattle.ess_semantics.proofs.Repeats.{sorted-distinct}
use Rattle.ess_semantics.proofs.Sorting.{all-holds, sorted-of, distinct-twice}
use Rattle.ess_semantics.proofs.Tests.{and-left, and-right}
use Rattle.ess_repr_laws.specs.Finite.{FiniteAtom}
use Rattle.ess_repr_structure_laws.proofs.ReadyParts.{listed-is}
use Rattle.ess_guard_types_laws.proofs.JoinedTypes.{join-any, turned}
use Rattle.ess_kinds_kept_laws.specs.PartitionAsks.{Tells}
use Rattle.ess_kind_steps_laws.proofs.ToldAtoms.{Agreed, atom-told}

some-same : {A : Type 0} (o : Option A) (x y : A) → o ≡ Some x → o ≡ Some y → x ≡ y
some-same o x y h k = let q : Some x ≡ Some y = sym h ∙ k in cc

-- ---- one value

-- The number of a value whose type agrees with that of an atom tells it from the atom's members.
pub tells : (d : Dom) (env : Env) (x : Domain) → is_atom d ≡ true → env.positions ≡ true → domain_of d env ≡ Some x → FiniteAtom x →
    (t : Ty) → Agreed t (type_of_dom d) → (y : Value) → IsTrue (is_of true env.types t y) → Tells y d env
tells d env x a p q f t j y k us v e h c =
    let l : Listed x = atom-listed x f.0 in
    let s : member_list x ≡ us =
    some-same (members_in (domain_of d env)) (member_list x) us (ap members_in q ∙ listed-is x f.1) e in
    atom-told env.types d env x a p q t j v y
    (all-holds (member x) us v (subst (λ xs. list_all (member x) xs ≡ true) s l.members) h) k c

-- ---- what types say

-- The type of a term whose part is asked agrees with that of the partition's members.
pub party-agrees : (o : Option Ty) (d t : Ty) →
    and_then (all_some (o ∷ Some (compound1 a_partition d) ∷ [])) (type_of_op (word Fun.Party)) ≡ Some t →
    (u : Ty) × (o ≡ Some u) × Agreed u d
party-agrees None d t q = (any_ty, cc, cc)
party-agrees (Some u) d t q = (u, refl, turned d u (go (join d u) q))
  where
    go : (p : Option Ty) →
        and_then (option_map (compound a_partition) (and_then p (λ v. option_map (more_tys v) (Some no_tys)))) part_ty ≡ Some t →
        is_some p ≡ true
    go None q = cc
    go (Some v) q = refl

-- What is said of a type of terms that lie together.
abbrev pub lying_ty : Ty → Ty → Option Ty
lying_ty d u =
    and_then (join u (compound1 a_set any_ty))
    (λ t. and_then (member_ty t) (λ a. fit (compound1 a_partition d) (compound1 a_partition a) bool_ty))

-- It is there.
pub together-there : (o : Option Ty) (d t : Ty) →
    and_then (all_some (o ∷ Some (compound1 a_partition d) ∷ [])) (type_of_op (word Fun.Together)) ≡ Some t →
    (u : Ty) × (o ≡ Some u) × (lying_ty d u ≡ Some t)
together-there None d t q = (any_ty, cc, cc)
together-there (Some u) d t q = (u, refl, q)

-- Of sets the members' type agrees with that of the partition's.
set-agrees : (d m t : Ty) → lying_ty d (compound1 a_set m) ≡ Some t → Agreed m d
set-agrees d m t q = turned d m (go (join d m)
    (sym (ap (λ o. and_then (option_map (compound a_set) (and_then o (λ v. option_map (more_tys v) (Some no_tys))))
    (λ t. and_then (member_ty t) (λ a. fit (compound1 a_partition d) (compound1 a_partition a) bool_ty))) (join-any m)) ∙ q))
  where
    go : (p : Option Ty) →
        option_map (λ v. bool_ty) (option_map (compound a_partition) (and_then p (λ v. option_map (more_tys v) (Some no_tys)))) ≡ Some t →
        is_some p ≡ true
    go None q = cc
    go (Some v) q = refl

-- ---- members of a set

-- The items rise, and are of one type that agrees with that of the partition's members.
pub record LieIn (es : List TypeEntry) (d : Ty) (w : Value) : Type 0 where
  pub type : Ty
  pub agrees : Agreed type d
  pub rise : rises itself (items_of w) ≡ true
  pub typed : list_all (is_of true es type) (items_of w) ≡ true

no : {A : Type 0} → false ≡ true → A
no h = cc

absent : {A : Type 0} (t : Ty) → None ≡ Some t → A
absent t q = cc

-- So it is of the value of a term that has such a type.
pub lie-in : (es : List TypeEntry) (d u t : Ty) → lying_ty d u ≡ Some t → (w : Value) → IsTrue (is_of true es u w) → LieIn es d w
lie-in es d (compound a_set (more_tys m no_tys)) t q (node a_set vs) h = record {
  type = m;
  agrees = set-agrees d m t q;
  rise = and-left (rises itself (to_list vs)) (list_all (is_of true es m) (to_list vs)) h;
  typed = and-right (rises itself (to_list vs)) (list_all (is_of true es m) (to_list vs)) h;
}
lie-in es d (compound a_set (more_tys m no_tys)) t q (number n) h = no h
lie-in es d (compound a_set (more_tys m no_tys)) t q (truth b) h = no h
lie-in es d (compound a_set (more_tys m no_tys)) t q (item a k) h = no h
lie-in es d (compound a_set (more_tys m no_tys)) t q (node _ vs) h = no h
lie-in es d (compound a_set no_tys) t q w h = absent t q
lie-in es d (compound a_set (more_tys m (more_tys n ts))) t q w h = go (join m any_ty) q
  where
    go : {A : Type 0} (o : Option Ty) → and_then (option_map (compound a_set) (and_then o (λ v. option_map (more_tys v) None)))
        (λ t. and_then (member_ty t) (λ a. fit (compound1 a_partition d) (compound1 a_partition a) bool_ty)) ≡ Some t → A
    go None q = absent t q
    go (Some v) q = absent t q
lie-in es d (compound _ ts) t q w h = absent t q
lie-in es d any_ty t q w h = no h
lie-in es d bool_ty t q w h = absent t q
lie-in es d int_ty t q w h = absent t q
lie-in es d (named_ty a) t q w h = absent t q

-- None stands twice.
pub lie-once : (es : List TypeEntry) (d : Ty) (w : Value) → LieIn es d w → IsTrue (no_twice itself (items_of w))
lie-once es d w l = distinct-twice (items_of w) (sorted-distinct (items_of w) (sorted-of (items_of w) l.rise))
