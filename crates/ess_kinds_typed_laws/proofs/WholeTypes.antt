-- Types with which all that agree agree: joined with another type they stay.
use Rattle.std.proofs.Common.{◌≡◌, refl, sym, ap, ◌∙◌, Bool, true, false, [], ◌∷◌, Some, Option, None, option_map, if◌then◌else◌, not, ◌&&◌}
use Rattle.std.specs.Prelude.{is_some}
use Rattle.ess_semantics.specs.declared.words.Fun.{Fun}
use Rattle.ess_semantics.specs.Lists.{and_then, when, all_some}
use Rattle.ess_semantics.specs.OperatorTypes.{type_of_op, member_ty, arguments_ty, part_ty}
use Rattle.ess_semantics.specs.Order.{same_text, same_kind}
use Rattle.ess_semantics.specs.Trees.{word, set_literal}
use Rattle.ess_semantics.specs.Types.{Ty, Tys, no_tys, more_tys, compound, compound2, int_ty, compound1, join, any_ty, bool_ty, named_ty, is_open, joins}
use Rattle.ess_semantics.specs.Values.{Text, a_tuple, a_record, a_matrix, a_set, a_mset, a_function, a_relation, a_partition, Kind}
use Rattle.ess_semantics.proofs.Tests.{and-left, and-right}
use Rattle.ess_guard_types_laws.proofs.JoinedTypes.{join-any, Agree}
use Rattle.ess_refine_types_laws.proofs.TypeParts.{given-is}
use Rattle.ess_kinds_typed_laws.specs.KindsTyped.{is_whole, are_whole}

open-not : (b c : Bool) → not b && c ≡ true → (b ≡ false) × (c ≡ true)
open-not true c h = cc
open-not false c h = (refl, h)

kept-name : (c : Bool) (a : Text) (v : Ty) → when c (named_ty a) ≡ Some v → v ≡ named_ty a
kept-name true a v q = cc
kept-name false a v q = cc

kept-parts : (c b : Bool) (k : Kind) (ts us : Tys) (o : Option Tys) (v : Ty) → ((vs : Tys) → o ≡ Some vs → vs ≡ ts) →
    (if c then option_map (compound k) (if b then Some ts else o) else None) ≡ Some v → v ≡ compound k ts
kept-parts false b k ts us o v f q = cc
kept-parts true true k ts us o v f q = cc
kept-parts true false k ts us None v f q = cc
kept-parts true false k ts us (Some vs) v f q =
    let i : compound k vs ≡ v = cc in sym i ∙ ap (compound k) (f vs refl)

two-kept : (x : Option Ty) (y : Option Tys) (t : Ty) (ts vs : Tys) → ((v : Ty) → x ≡ Some v → v ≡ t) →
    ((ws : Tys) → y ≡ Some ws → ws ≡ ts) →
    and_then x (λ v. option_map (more_tys v) y) ≡ Some vs → vs ≡ more_tys t ts
two-kept None y t ts vs f h q = cc
two-kept (Some v) None t ts vs f h q = cc
two-kept (Some v) (Some ws) t ts vs f h q =
    let i : more_tys v ws ≡ vs = cc in let j : v ≡ t = f v refl in let k : ws ≡ ts = h ws refl in
    sym i ∙ ap (λ z. more_tys z ws) j ∙ ap (more_tys t) k

mutual
  -- Joined with another type such a type stays.
  pub whole-stays : (t u v : Ty) → is_whole t ≡ true → join t u ≡ Some v → v ≡ t
  whole-stays any_ty u v w q = cc
  whole-stays bool_ty any_ty v w q = cc
  whole-stays bool_ty bool_ty v w q = cc
  whole-stays bool_ty int_ty v w q = cc
  whole-stays bool_ty (named_ty a) v w q = cc
  whole-stays bool_ty (compound k ts) v w q = cc
  whole-stays int_ty any_ty v w q = cc
  whole-stays int_ty bool_ty v w q = cc
  whole-stays int_ty int_ty v w q = cc
  whole-stays int_ty (named_ty a) v w q = cc
  whole-stays int_ty (compound k ts) v w q = cc
  whole-stays (named_ty a) any_ty v w q = cc
  whole-stays (named_ty a) bool_ty v w q = cc
  whole-stays (named_ty a) int_ty v w q = cc
  whole-stays (named_ty a) (named_ty b) v w q = kept-name (same_text a b) a v q
  whole-stays (named_ty a) (compound k ts) v w q = cc
  whole-stays (compound k ts) any_ty v w q = cc
  whole-stays (compound k ts) bool_ty v w q = cc
  whole-stays (compound k ts) int_ty v w q = cc
  whole-stays (compound k ts) (named_ty a) v w q = cc
  whole-stays (compound k ts) (compound l us) v w q =
      let p = open-not (is_open k ts) (are_whole ts) w in
      kept-parts (same_kind k l) (is_open k us) k ts us (joins ts us) v (λ vs i. all-stay ts us vs p.1 i)
      (sym (ap (λ b. if same_kind k l then option_map (compound k) (if b then Some us else (if is_open k us then Some ts else joins ts us))
      else None) p.0) ∙ q)

  all-stay : (ts us vs : Tys) → are_whole ts ≡ true → joins ts us ≡ Some vs → vs ≡ ts
  all-stay no_tys no_tys vs w q = cc
  all-stay no_tys (more_tys u us) vs w q = cc
  all-stay (more_tys t ts) no_tys vs w q = cc
  all-stay (more_tys t ts) (more_tys u us) vs w q =
      two-kept (join t u) (joins ts us) t ts vs
      (λ v i. whole-stays t u v (and-left (is_whole t) (are_whole ts) w) i)
      (λ ws i. all-stay ts us ws (and-right (is_whole t) (are_whole ts) w) i) q

-- ---- parts of partitions

party-of : (d : Ty) (o : Option Ty) (t : Ty) → ((v : Ty) → o ≡ Some v → v ≡ d) →
    and_then (option_map (compound a_partition) (and_then o (λ v. option_map (more_tys v) (Some no_tys)))) part_ty ≡ Some t →
    t ≡ compound1 a_set d
party-of d None t f q = cc
party-of d (Some v) t f q = let i : compound1 a_set v ≡ t = cc in sym i ∙ ap (λ z. compound1 a_set z) (f v refl)

-- The part with a member has the type of sets of the members.
pub party-is : (d : Ty) (o : Option Ty) (t : Ty) → is_whole d ≡ true →
    and_then (all_some (o ∷ Some (compound1 a_partition d) ∷ [])) (type_of_op (word Fun.Party)) ≡ Some t → t ≡ compound1 a_set d
party-is d None t w q = cc
party-is d (Some a) t w q = party-of d (join d a) t (λ v i. whole-stays d a v w i) q

-- So has what has a number.
pub pre-image-to : (d : Ty) → type_of_op (word Fun.PreImage) (compound2 a_function d int_ty ∷ int_ty ∷ []) ≡ Some (compound1 a_set d)
pre-image-to d =
    ap (λ o. and_then (option_map (compound a_function) (and_then o (λ v. option_map (more_tys v) (Some (more_tys int_ty no_tys)))))
    arguments_ty) (join-any d)

-- ---- members that agree

one-agrees : (k : Kind) (o : Option Ty) →
    is_some (option_map (compound k) (and_then o (λ v. option_map (more_tys v) (Some no_tys)))) ≡ true → is_some o ≡ true
one-agrees k None h = cc
one-agrees k (Some v) h = refl

-- How often a member of a multiset is there.
pub freq-is : (d : Ty) (o : Option Ty) (t : Ty) →
    and_then (all_some (Some (compound1 a_mset d) ∷ o ∷ [])) (type_of_op (word Fun.Freq)) ≡ Some t →
    (a : Ty) × (o ≡ Some a) × Agree d a × (t ≡ int_ty)
freq-is d None t q = (any_ty, cc, cc, cc)
freq-is d (Some a) t q =
    let r = given-is (join (compound1 a_mset d) (compound1 a_mset a)) int_ty t q in (a, refl, one-agrees a_mset (join d a) r.0, r.1)

together-of : (d : Ty) (o : Option Ty) (t : Ty) →
    and_then o (λ u. and_then (member_ty u) (λ a. option_map (λ v. bool_ty) (join (compound1 a_partition d) (compound1 a_partition a))))
    ≡ Some t →
    (a : Ty) × (and_then o member_ty ≡ Some a) × Agree d a × (t ≡ bool_ty)
together-of d None t q = (any_ty, cc, cc, cc)
together-of d (Some u) t q = go (member_ty u) q
  where
    go : (p : Option Ty) →
        and_then p (λ a. option_map (λ v. bool_ty) (join (compound1 a_partition d) (compound1 a_partition a))) ≡ Some t →
        (a : Ty) × (p ≡ Some a) × Agree d a × (t ≡ bool_ty)
    go None q = (any_ty, cc, cc, cc)
    go (Some a) q =
        let r = given-is (join (compound1 a_partition d) (compound1 a_partition a)) bool_ty t q in
        (a, refl, one-agrees a_partition (join d a) r.0, r.1)

-- What `together` asks of.
pub together-is : (d : Ty) (o : Option Ty) (t : Ty) →
    and_then (all_some (o ∷ Some (compound1 a_partition d) ∷ [])) (type_of_op (word Fun.Together)) ≡ Some t →
    (s : Ty) × (a : Ty) × (o ≡ Some s) × (and_then (join s (compound1 a_set any_ty)) member_ty ≡ Some a) × Agree d a × (t ≡ bool_ty)
together-is d None t q = (any_ty, any_ty, cc, cc, cc, cc)
together-is d (Some s) t q =
    let r = together-of d (join s (compound1 a_set any_ty)) t q in (s, r.0, refl, r.1, r.2, r.3)

-- What agrees with sets has members.
pub set-members : (s a : Ty) → and_then (join s (compound1 a_set any_ty)) member_ty ≡ Some a → (m : Ty) × (member_ty s ≡ Some m)
set-members any_ty a q = (any_ty, refl)
set-members bool_ty a q = (any_ty, cc)
set-members int_ty a q = (any_ty, cc)
set-members (named_ty n) a q = (any_ty, cc)
set-members (compound a_set no_tys) a q = (any_ty, cc)
set-members (compound a_set (more_tys t no_tys)) a q = (t, refl)
set-members (compound a_set (more_tys t (more_tys u us))) a q = go (join t any_ty) q
  where
    go : (o : Option Ty) →
        and_then (option_map (compound a_set) (and_then o (λ v. option_map (more_tys v) None))) member_ty ≡ Some a →
        (m : Ty) × (member_ty (compound a_set (more_tys t (more_tys u us))) ≡ Some m)
    go None q = (any_ty, cc)
    go (Some v) q = (any_ty, cc)
set-members (compound a_tuple ts) a q = (any_ty, cc)
set-members (compound a_matrix ts) a q = (any_ty, cc)
set-members (compound a_mset ts) a q = (any_ty, cc)
set-members (compound a_function ts) a q = (any_ty, cc)
set-members (compound a_relation ts) a q = (any_ty, cc)
set-members (compound a_partition ts) a q = (any_ty, cc)
set-members (compound (a_record fs) ts) a q = (any_ty, cc)

-- ---- sets of one term

-- The type of `{a}`.
pub one-literal : (o : Option Ty) (s : Ty) → and_then (all_some (o ∷ [])) (type_of_op set_literal) ≡ Some s →
    (a : Ty) × (o ≡ Some a) × (s ≡ compound1 a_set a)
one-literal None s q = (any_ty, cc, cc)
one-literal (Some a) s q =
    let r : Some (compound1 a_set a) ≡ Some s = sym (ap (option_map (λ z. compound1 a_set z)) (join-any a)) ∙ q in (a, refl, cc)

-- Its member.
pub one-member : (t a : Ty) → and_then (join (compound1 a_set t) (compound1 a_set any_ty)) member_ty ≡ Some a → a ≡ t
one-member t a q = go (join t any_ty) (join-any t) q
  where
    go : (o : Option Ty) → o ≡ Some t →
        and_then (option_map (compound a_set) (and_then o (λ v. option_map (more_tys v) (Some no_tys)))) member_ty ≡ Some a → a ≡ t
    go None h q = cc
    go (Some v) h q = let i : v ≡ t = cc in let j : v ≡ a = cc in sym j ∙ i
