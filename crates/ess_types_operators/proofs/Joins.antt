-- The join of two compound types, kind by kind.
use Rattle.std.proofs.Common.{◌≡◌, refl, sym, ap, ◌∙◌, Bool, true, false, if◌then◌else◌, List, [], ◌∷◌, map, Option, Some, None, option_map}
use Rattle.std.proofs.lemmas.Cmp.{tied_itself, nat_cmp_total}
use Rattle.std.specs.Ordering.{is_eq, ordering_then}
use Rattle.std.specs.declared.cmp.Ordering.{Ordering}
use Rattle.std.specs.declared.cmp.Ordering.TheVariants.{Less, Equal, Greater}
use Rattle.ess_semantics.specs.Lists.{and_then}
use Rattle.ess_semantics.specs.Values.{Text, Kind, a_relation, a_record}
use Rattle.ess_semantics.specs.Order.{same_kind, same_texts, order_text, order_texts, kind_rank, kind_fields}
use Rattle.ess_semantics.specs.Names.{Names, keys}
use Rattle.ess_semantics.specs.Types as pure
use Rattle.ess_semantics.specs.Types.{Tys, any_ty, bool_ty, int_ty, named_ty, compound, compound1, compound2, no_tys, more_tys, tys_of, is_relation, is_open, join, joins}
use Rattle.ess_semantics.specs.OperatorTypes.{record_ty}
use Rattle.ess_semantics.proofs.Orders.{texts_total}
use Rattle.ess_core.specs.TypeViews.{pure_field_ty, pure_tys}
use Rattle.ess_core.specs.declared.types.Ty.{Ty}
use Rattle.ess_core.specs.declared.types.FieldTy.{FieldTy}
use Rattle.ess_types_operators.specs.Paired.{paired, ty_join, named_join, field_join, relation_parts}

both-equal : (o p : Ordering) → o ≡ Equal → p ≡ Equal → is_eq (ordering_then o p) ≡ true
both-equal o p d e = ap (λ q. is_eq (ordering_then q p)) d ∙ ap is_eq e

kind_itself : (k : Kind) → same_kind k k ≡ true
kind_itself k = both-equal _ _ (tied_itself nat_cmp_total (kind_rank k)) (tied_itself texts_total (kind_fields k))

pub join_any : (t : pure.Ty) → join t any_ty ≡ Some t
join_any any_ty = refl
join_any bool_ty = refl
join_any int_ty = refl
join_any (named_ty a) = refl
join_any (compound k ts) = refl

-- ---- one kind on both sides

pub mapped-twice : {A B C : Type 0} (f : B → C) (g : A → B) (o : Option A) → option_map f (option_map g o) ≡ option_map (λ x. f (g x)) o
mapped-twice f g None = refl
mapped-twice f g (Some x) = refl

-- neither is that of a relation of unknown arity
kinds-joined : (k : Kind) (ts us : Tys) → is_open k ts ≡ false → is_open k us ≡ false → join (compound k ts) (compound k us) ≡ option_map (compound k) (joins ts us)
kinds-joined k ts us h i =
    ap (λ b. if b then option_map (compound k) (if is_open k ts then Some us else (if is_open k us then Some ts else joins ts us)) else None) (kind_itself k)
    ∙ ap (λ b. option_map (compound k) (if b then Some us else (if is_open k us then Some ts else joins ts us))) h
    ∙ ap (λ b. option_map (compound k) (if b then Some ts else joins ts us)) i

pub one_joined : (k : Kind) (t u : pure.Ty) → join (compound1 k t) (compound1 k u) ≡ option_map (compound1 k) (join t u)
one_joined k t u = kinds-joined k (more_tys t no_tys) (more_tys u no_tys) refl refl ∙ go (join t u)
  where
    go : (o : Option pure.Ty) → option_map (compound k) (and_then o (λ v. option_map (more_tys v) (Some no_tys))) ≡ option_map (compound1 k) o
    go None = refl
    go (Some v) = refl

pub two_joined : (k : Kind) (t u v w : pure.Ty) → join (compound2 k t u) (compound2 k v w) ≡ and_then (join t v) (λ a. option_map (compound2 k a) (join u w))
two_joined k t u v w = kinds-joined k (more_tys t (more_tys u no_tys)) (more_tys v (more_tys w no_tys)) refl refl ∙ go (join t v) (join u w)
  where
    go : (o p : Option pure.Ty) → option_map (compound k) (and_then o (λ a. option_map (more_tys a) (and_then p (λ b. option_map (more_tys b) (Some no_tys))))) ≡ and_then o (λ a. option_map (compound2 k a) p)
    go None p = refl
    go (Some a) None = refl
    go (Some a) (Some b) = refl

never-open : (k : Kind) (ts : Tys) → is_relation k ≡ false → is_open k ts ≡ false
never-open k no_tys h = h
never-open k (more_tys t ts) h = refl

pub many_joined : (k : Kind) (ts us : Tys) → is_relation k ≡ false → join (compound k ts) (compound k us) ≡ option_map (compound k) (joins ts us)
many_joined k ts us h = kinds-joined k ts us (never-open k ts h) (never-open k us h)

-- ---- lists of types in pairs

pub joins_paired : (xs ys : List Ty) → joins (pure_tys xs) (pure_tys ys) ≡ option_map tys_of (paired ty_join xs ys)
joins_paired [] [] = refl
joins_paired [] (y ∷ ys) = refl
joins_paired (x ∷ xs) [] = refl
joins_paired (x ∷ xs) (y ∷ ys) = go (ty_join x y) (joins_paired xs ys)
  where
    inner : (v : pure.Ty) (o : Option (List pure.Ty)) (p : Option Tys) → p ≡ option_map tys_of o → option_map (more_tys v) p ≡ option_map tys_of (option_map (λ vs. v ∷ vs) o)
    inner v None p e = ap (option_map (more_tys v)) e
    inner v (Some vs) p e = ap (option_map (more_tys v)) e

    go : (o : Option pure.Ty) → joins (pure_tys xs) (pure_tys ys) ≡ option_map tys_of (paired ty_join xs ys)
        → and_then o (λ v. option_map (more_tys v) (joins (pure_tys xs) (pure_tys ys))) ≡ option_map tys_of (and_then o (λ v. option_map (λ vs. v ∷ vs) (paired ty_join xs ys)))
    go None e = refl
    go (Some v) e = inner v (paired ty_join xs ys) (joins (pure_tys xs) (pure_tys ys)) e

-- ---- records

-- The types of fields.
abbrev tys-in : Names pure.Ty → Tys
tys-in fs = tys_of (map {A = Text × pure.Ty} (λ f. f.1) fs)

-- names and types apart, for any c that makes something of them
fields-apart : (c : List Text → Tys → pure.Ty) (fs gs : Names pure.Ty) →
    option_map (λ r. c (keys r) (tys-in r)) (paired named_join fs gs) ≡ (if same_texts (keys fs) (keys gs) then option_map (c (keys fs)) (joins (tys-in fs) (tys-in gs)) else None)
fields-apart c [] [] = refl
fields-apart c [] (g ∷ gs) = refl
fields-apart c (f ∷ fs) [] = refl
fields-apart c (f ∷ fs) (g ∷ gs) = go (order_text f.0 g.0) (join f.1 g.1) (λ v. fields-apart (λ ns ts. c (f.0 ∷ ns) (more_tys v ts)) fs gs)
  where
    inner : (v : pure.Ty) (b : Bool) (o : Option Tys) (q : Option (Names pure.Ty))
        → option_map (λ r. c (f.0 ∷ keys r) (more_tys v (tys-in r))) q ≡ (if b then option_map (λ ts. c (f.0 ∷ keys fs) (more_tys v ts)) o else None)
        → option_map (λ r. c (keys r) (tys-in r)) (option_map (λ vs. (f.0, v) ∷ vs) q) ≡ (if b then option_map (c (f.0 ∷ keys fs)) (option_map (more_tys v) o) else None)
    inner v true o q h = mapped-twice (λ r. c (keys r) (tys-in r)) (λ vs. (f.0, v) ∷ vs) q ∙ h ∙ sym (mapped-twice (c (f.0 ∷ keys fs)) (more_tys v) o)
    inner v false o q h = mapped-twice (λ r. c (keys r) (tys-in r)) (λ vs. (f.0, v) ∷ vs) q ∙ h

    nothing : (b : Bool) → ◌≡◌ {A = Option pure.Ty} None (if b then None else None)
    nothing true = refl
    nothing false = refl

    go : (o : Ordering) (j : Option pure.Ty)
        → ((v : pure.Ty) → option_map (λ r. c (f.0 ∷ keys r) (more_tys v (tys-in r))) (paired named_join fs gs)
        ≡ (if same_texts (keys fs) (keys gs) then option_map (λ ts. c (f.0 ∷ keys fs) (more_tys v ts)) (joins (tys-in fs) (tys-in gs)) else None))
        → option_map (λ r. c (keys r) (tys-in r)) (and_then (if is_eq o then option_map (λ v. (f.0, v)) j else None) (λ v. option_map (λ vs. v ∷ vs) (paired named_join fs gs)))
        ≡ (if is_eq (ordering_then o (order_texts (keys fs) (keys gs)))
        then option_map (c (f.0 ∷ keys fs)) (and_then j (λ v. option_map (more_tys v) (joins (tys-in fs) (tys-in gs)))) else None)
    go Less j h = refl
    go Greater j h = refl
    go Equal None h = nothing (same_texts (keys fs) (keys gs))
    go Equal (Some v) h = inner v (same_texts (keys fs) (keys gs)) (joins (tys-in fs) (tys-in gs)) (paired named_join fs gs) (h v)

record-kinds : (ns ms : List Text) (ts us : Tys) → join (compound (a_record ns) ts) (compound (a_record ms) us) ≡ (if same_texts ns ms then option_map (compound (a_record ns)) (joins ts us) else None)
record-kinds ns ms no_tys no_tys = refl
record-kinds ns ms no_tys (more_tys u us) = refl
record-kinds ns ms (more_tys t ts) no_tys = refl
record-kinds ns ms (more_tys t ts) (more_tys u us) = refl

fields-named : (xs ys : List FieldTy) → paired field_join xs ys ≡ paired named_join (map pure_field_ty xs) (map pure_field_ty ys)
fields-named [] [] = refl
fields-named [] (y ∷ ys) = refl
fields-named (x ∷ xs) [] = refl
fields-named (x ∷ xs) (y ∷ ys) = ap (λ o. and_then (field_join x y) (λ v. option_map (λ vs. v ∷ vs) o)) (fields-named xs ys)

pub records_joined : (xs ys : List FieldTy) → join (record_ty (map pure_field_ty xs)) (record_ty (map pure_field_ty ys)) ≡ option_map record_ty (paired field_join xs ys)
records_joined xs ys =
    record-kinds (keys (map pure_field_ty xs)) (keys (map pure_field_ty ys)) (tys-in (map pure_field_ty xs)) (tys-in (map pure_field_ty ys)) ∙ sym (fields-apart (λ ns ts. compound (a_record ns) ts) (map pure_field_ty xs) (map pure_field_ty ys)) ∙ ap (option_map record_ty) (sym (fields-named xs ys))

-- ---- relations

-- The parts of the join of two relations.
pub relations_joined : (xs ys : List Ty) → join (compound a_relation (pure_tys xs)) (compound a_relation (pure_tys ys)) ≡ option_map (compound a_relation) (relation_parts xs ys)
relations_joined [] ys = refl
relations_joined (x ∷ xs) [] = refl
relations_joined (x ∷ xs) (y ∷ ys) = ap (option_map (compound a_relation)) (joins_paired (x ∷ xs) (y ∷ ys))
