-- Type soundness under envs: what generators bind has the types that they give.
use Rattle.std.proofs.Common.{◌≡◌, refl, sym, ap, ◌∙◌, subst, Bool, true, List, [], ◌∷◌, Option, Some, None}
use Rattle.std.specs.List.{list_all}
use Rattle.ess_semantics.specs.Lists.{and_then}
use Rattle.ess_semantics.specs.Values.{Value, items_of}
use Rattle.ess_semantics.specs.Names.{Names}
use Rattle.ess_semantics.specs.Trees.{Pat, Ex, Dom}
use Rattle.ess_semantics.specs.Types.{Ty, type_of_dom, bind_types}
use Rattle.ess_semantics.specs.OperatorTypes.{member_ty}
use Rattle.ess_semantics.specs.Typing.{type_of, source_ty}
use Rattle.ess_semantics.specs.Resolving.{resolve}
use Rattle.ess_semantics.specs.Domains.{members}
use Rattle.ess_semantics.specs.Meaning.{Env, with_pat, meaning, domain_of, members_in}
use Rattle.ess_semantics.specs.TypeMembers.{is_of, is_of_type}
use Rattle.ess_semantics.specs.Typed.{Typed}
use Rattle.ess_semantics.specs.StaysAt.{OverStays, FromStays}
use Rattle.ess_semantics.specs.Contexts.{Each, EachOf, EachIn}
use Rattle.std.specs.Prelude.{IsTrue}
use Rattle.ess_semantics.specs.ExpressionJudgements.{pattern_fits}
use Rattle.ess_semantics.proofs.Tests.{and-left, and-right}
use Rattle.ess_types_laws.specs.WellBound.{no_tables, BoundWith, WellBound, HasItsType}
use Rattle.ess_types_laws.proofs.Bound.{bind-fits}
use Rattle.ess_types_laws.proofs.Members.{members-fit}
use Rattle.ess_types_laws.proofs.Items.{items-fit}
use Rattle.ess_types_laws.proofs.SoundParts.{some-then}
use Rattle.ess_types_laws.proofs.Soundness.{source-type, sound}

-- The same under an env.
pub meaning-typed : (e : Ex) (g : Names Ty) (env : Env) → resolve e g ≡ e → WellBound e g → Typed g env → (t : Ty) →
    type_of e g ≡ Some t → (v : Value) → meaning e env ≡ Some v →
    IsTrue (is_of_type t env v)
meaning-typed e g env r w f = sound env.positions env.types env.cells no_tables (λ x h b vals k. absurd b) e g env.vals r w f

-- The same over tables whose cells and views have values of their types.
pub tables-typed : (e : Ex) (g : Names Ty) (env : Env) → resolve e g ≡ e → BoundWith (HasItsType env) e g → Typed g env → (t : Ty) →
    type_of e g ≡ Some t → (v : Value) → meaning e env ≡ Some v → IsTrue (is_of_type t env v)
tables-typed e g env r w f =
    sound env.positions env.types env.cells (HasItsType env) (λ x h b vals k t q v m. b vals k t v q m) e g env.vals r w f

each-of-all : (h : Value → Bool) (P : Value → Type 0) (vs : List Value) → ((v : Value) → h v ≡ true → P v) → list_all h vs ≡ true →
    Each vs P
each-of-all h P [] f a = tt
each-of-all h P (v ∷ vs) f a = (f v (and-left (h v) (list_all h vs) a), each-of-all h P vs f (and-right (h v) (list_all h vs) a))

-- The members that a domain lists have its type.
pub members-typed : (d : Dom) (env : Env) → EachOf (members_in (domain_of d env)) (λ v. IsTrue (is_of_type (type_of_dom d) env v))
members-typed d env = go (members_in (domain_of d env)) refl
  where
    go : (o : Option (List Value)) → members_in (domain_of d env) ≡ o → EachOf o (λ v. IsTrue (is_of_type (type_of_dom d) env v))
    go None q = tt
    go (Some vs) q =
        let c = some-then (domain_of d env) members vs q in
        each-of-all (λ v. is_of_type (type_of_dom d) env v) (λ v. IsTrue (is_of_type (type_of_dom d) env v)) vs (λ v h. h)
        (members-fit env d c.0 c.1 vs c.2)

-- A pattern that fits binds values of the types of its names.
pub bound-typed : (p : Pat) (t : Ty) (v : Value) (g : Names Ty) (env : Env) → pattern_fits p t ≡ true → IsTrue (is_of_type t env v) →
    Typed g env → Typed (bind_types p t g) (with_pat p v env)
bound-typed p t v g env h o f = bind-fits env.positions env.types p t v g env.vals h o f

-- So names keep values of their types behind a generator over a domain.
pub over-typed : (g : Names Ty) (p : Pat) (d : Dom) → pattern_fits p (type_of_dom d) ≡ true → OverStays Typed g p d
over-typed g p d h env f = go (members_in (domain_of d env)) (members-typed d env)
  where
    each : (vs : List Value) → Each vs (λ v. IsTrue (is_of_type (type_of_dom d) env v)) →
        Each vs (λ v. Typed (bind_types p (type_of_dom d) g) (with_pat p v env))
    each [] e = tt
    each (v ∷ vs) e = (bound-typed p (type_of_dom d) v g env h e.0 f, each vs e.1)

    go : (o : Option (List Value)) → EachOf o (λ v. IsTrue (is_of_type (type_of_dom d) env v)) →
        EachOf o (λ v. Typed (bind_types p (type_of_dom d) g) (with_pat p v env))
    go None e = tt
    go (Some vs) e = each vs e

-- And behind a generator from a source.
pub from-typed : (g : Names Ty) (p : Pat) (e : Ex) (t m : Ty) → resolve e g ≡ e → WellBound e g → type_of e g ≡ Some t →
    member_ty t ≡ Some m → pattern_fits p m ≡ true → FromStays Typed g p e
from-typed g p e t m r w q k h env f = go (meaning e env) refl
  where
    same : source_ty e g ≡ m
    same = source-type (and_then (type_of e g) member_ty) m (ap (λ o. and_then o member_ty) q ∙ k)

    go : (o : Option Value) → meaning e env ≡ o → EachIn o (λ v. Typed (bind_types p (source_ty e g) g) (with_pat p v env))
    go None z = tt
    go (Some s) z =
        each-of-all (is_of env.positions env.types m) (λ v. Typed (bind_types p (source_ty e g) g) (with_pat p v env)) (items_of s)
        (λ v o. subst (λ u. Typed (bind_types p u g) (with_pat p v env)) (sym same) (bound-typed p m v g env h o f))
        (items-fit env.positions env.types t m s k (meaning-typed e g env r w f t q s z))
