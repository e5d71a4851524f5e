-- Types that signs compare.
use Rattle.std.proofs.Common.{◌≡◌, refl, ap, ◌∙◌, Bool, true, false, if◌then◌else◌, Option, Some, None, option_map}
use Rattle.std.specs.Prelude.{is_some}
use Rattle.ess_semantics.specs.Lists.{and_then, when}
use Rattle.ess_semantics.specs.Values.{Text, Kind, a_matrix}
use Rattle.ess_semantics.specs.Order.{same_text, same_kind}
use Rattle.ess_semantics.specs.Types.{Ty, Tys, any_ty, bool_ty, int_ty, named_ty, compound, no_tys, more_tys, is_open, join, joins}
use Rattle.ess_semantics.specs.OperatorTypes.{compared, lex_compared}
use Rattle.ess_semantics.proofs.Texts.{same_text-turned}
use Rattle.ess_guard_types_laws.proofs.JoinedTypes.{join-any}

-- The parts of two matrices.
abbrev two_joined : Option Ty → Option Ty → Option Ty
two_joined o p = option_map (compound a_matrix) (and_then o (λ v. option_map (more_tys v) (and_then p (λ w. option_map (more_tys w)
    (Some no_tys)))))

-- Of lists that are compared items are.
pub items-ordered : (o p : Option Ty) (t : Ty) → and_then (two_joined o p) lex_compared ≡ Some t → and_then p compared ≡ Some t
items-ordered None p t q = cc
items-ordered (Some v) None t q = cc
items-ordered (Some v) (Some w) t q = q

-- What is compared gives a truth value.
compared-truth : (u v : Ty) → compared u ≡ Some v → v ≡ bool_ty
compared-truth int_ty v q = cc
compared-truth bool_ty v q = cc
compared-truth (named_ty a) v q = cc
compared-truth any_ty v q = cc
compared-truth (compound k ts) v q = cc

-- So what is compared has a type, and gives that.
pub given-truth : (o : Option Ty) (v : Ty) → and_then o compared ≡ Some v → (is_some o ≡ true) × (v ≡ bool_ty)
given-truth None v q = (cc, cc)
given-truth (Some u) v q = (refl, compared-truth u v q)

-- Compound types aren't compared.
never-compared : (c : Bool) (k : Kind) (o : Option Tys) (v : Ty) →
    and_then (if c then option_map (compound k) o else None) compared ≡ Some v → ⊥
never-compared true k None v q = cc
never-compared true k (Some ts) v q = cc
never-compared false k o v q = cc

named-turned : (a b : Text) (v : Ty) (c : Bool) → same_text a b ≡ c → and_then (when c (named_ty a)) compared ≡ Some v →
    and_then (when (same_text b a) (named_ty b)) compared ≡ Some v
named-turned a b v false i q = cc
named-turned a b v true i q = ap (λ c. and_then (when c (named_ty b)) compared) (same_text-turned a b i) ∙ q

-- In either order.
pub compared-turned : (t u v : Ty) → and_then (join t u) compared ≡ Some v → and_then (join u t) compared ≡ Some v
compared-turned any_ty u v q = ap (λ o. and_then o compared) (join-any u) ∙ q
compared-turned bool_ty any_ty v q = q
compared-turned bool_ty bool_ty v q = q
compared-turned bool_ty int_ty v q = cc
compared-turned bool_ty (named_ty a) v q = cc
compared-turned bool_ty (compound k ts) v q = cc
compared-turned int_ty any_ty v q = q
compared-turned int_ty int_ty v q = q
compared-turned int_ty bool_ty v q = cc
compared-turned int_ty (named_ty a) v q = cc
compared-turned int_ty (compound k ts) v q = cc
compared-turned (named_ty a) any_ty v q = q
compared-turned (named_ty a) (named_ty b) v q = named-turned a b v (same_text a b) refl q
compared-turned (named_ty a) bool_ty v q = cc
compared-turned (named_ty a) int_ty v q = cc
compared-turned (named_ty a) (compound k ts) v q = cc
compared-turned (compound k ts) any_ty v q = q
compared-turned (compound k ts) (compound l us) v q = absurd (never-compared (same_kind k l) k
    (if is_open k ts then Some us else (if is_open k us then Some ts else joins ts us)) v q)
compared-turned (compound k ts) bool_ty v q = cc
compared-turned (compound k ts) int_ty v q = cc
compared-turned (compound k ts) (named_ty a) v q = cc
