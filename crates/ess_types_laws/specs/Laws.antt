-- Laws on types, each stated at a function that does nothing, so that its proof is checked with the code.
use Rattle.std.specs.Prelude.{◌≡◌, true, false, not, List, [], Some, IsTrue}
use Rattle.ess_semantics.specs.Values.{Value}
use Rattle.ess_semantics.specs.Names.{Names, is_among}
use Rattle.ess_semantics.specs.Trees.{Pat, Ex, Dom, Stm}
use Rattle.ess_semantics.specs.Types.{Ty, type_of_dom, bind_types}
use Rattle.ess_semantics.specs.OperatorTypes.{member_ty}
use Rattle.ess_semantics.specs.Typing.{type_of}
use Rattle.ess_semantics.specs.Resolving.{resolve, IsResolved}
use Rattle.ess_semantics.specs.Prepared.{resolve_all, prepared}
use Rattle.ess_semantics.specs.Meaning.{Env, meaning, domain_of, members_in, with_pat}
use Rattle.ess_semantics.specs.Contexts.{EachOf}
use Rattle.ess_semantics.specs.ExpressionJudgements.{pattern_fits}
use Rattle.ess_semantics.specs.TypeMembers.{is_of_type}
use Rattle.ess_semantics.specs.Typed.{Typed}
use Rattle.ess_semantics.specs.StaysAt.{OverStays, FromStays}
use Rattle.ess_semantics.specs.Domains.{Domain}
use Rattle.ess_semantics.specs.Membership.{member}
use Rattle.ess_semantics.specs.Scopes.{Scope, every, is_fixed}
use Rattle.ess_semantics.specs.FreeNames.{FreeNamesAre}
use Rattle.ess_semantics.specs.Occurrences.{has_cells}
use Rattle.ess_types_laws.specs.SoundParts.{sound_parts}
use Rattle.ess_types_laws.specs.ProperDomains.{is_proper}
use Rattle.ess_types_laws.specs.WellBound.{BoundWith, WellBound, HasItsType}

-- A resolved expression has the type that the expression had before.
abbrev pub ResolvingKeepsTypes : Type 0
ResolvingKeepsTypes = (e : Ex) (g : Names Ty) → type_of (resolve e g) g ≡ type_of e g

-- Resolved again, a resolved expression stays as it is.
abbrev pub ResolvedTreesStay : Type 0
ResolvedTreesStay = (e : Ex) (g : Names Ty) → IsResolved (resolve e g) g

-- The statements of a specification, with lettings put in and resolved, are resolved.
abbrev pub PreparedIsResolved : Type 0
PreparedIsResolved = (S : List Stm) → resolve_all (prepared S) [] ≡ prepared S

-- The members of a closed domain have the type of the domain, where each index domain in it is an atom and each relation has
-- a component.
abbrev pub MembersHaveTheirType : Type 0
MembersHaveTheirType = (d : Dom) (c : Domain) (env : Env) → is_proper d ≡ true → domain_of d env ≡ Some c → (v : Value) → member c v ≡ true →
    IsTrue (is_of_type (type_of_dom d) env v)

-- The members that a domain lists have its type, whatever the domain is.
abbrev pub ListedMembersHaveTheirType : Type 0
ListedMembersHaveTheirType = (d : Dom) (env : Env) → EachOf (members_in (domain_of d env)) (λ v. IsTrue (is_of_type (type_of_dom d) env v))

-- A pattern that fits a type binds, at a value of the type, values of the types of its names.
abbrev pub PatternsBindTheirTypes : Type 0
PatternsBindTheirTypes = (p : Pat) (t : Ty) (v : Value) (g : Names Ty) (env : Env) → pattern_fits p t ≡ true → IsTrue (is_of_type t env v) → Typed g env →
    Typed (bind_types p t g) (with_pat p v env)

-- Under an env that gives names values of their types, a resolved, well bound expression that has a type has nothing or a
-- value of it.
abbrev pub MeaningsHaveTheirType : Type 0
MeaningsHaveTheirType = (e : Ex) (g : Names Ty) (env : Env) → IsResolved e g → WellBound e g → Typed g env → (t : Ty) → type_of e g ≡ Some t →
    (v : Value) → meaning e env ≡ Some v → IsTrue (is_of_type t env v)

-- So names keep values of their types behind generators: behind one over a domain where its pattern fits, and behind one
-- from a source that is resolved and well bound and has a type whose items its pattern fits.
pub record TypesStay : Type 0 where
  pub over_domains : (g : Names Ty) (p : Pat) (d : Dom) → pattern_fits p (type_of_dom d) ≡ true → OverStays Typed g p d
  pub from_sources : (g : Names Ty) (p : Pat) (e : Ex) (t m : Ty) → IsResolved e g → WellBound e g → type_of e g ≡ Some t → member_ty t ≡ Some m →
      pattern_fits p m ≡ true → FromStays Typed g p e

-- So it is over tables, where each cell and view in the expression has values of its type.
abbrev pub MeaningsOverTablesHaveTheirType : Type 0
MeaningsOverTablesHaveTheirType = (e : Ex) (g : Names Ty) (env : Env) → IsResolved e g → BoundWith (HasItsType env) e g → Typed g env → (t : Ty) →
    type_of e g ≡ Some t → (v : Value) → meaning e env ≡ Some v → IsTrue (is_of_type t env v)

-- So it is with each judged expression without cells and views: resolved, it has nothing or a value of its type under an env
-- that gives the names in scope values of their types.
abbrev pub JudgedExpressionsAreSound : Type 0
JudgedExpressionsAreSound = (e : Ex) (s : Scope) (env : Env) → has_cells e ≡ false → every sound_parts e s ≡ true → Typed s.tys env → (t : Ty) →
    type_of e s.tys ≡ Some t → (v : Value) → meaning (resolve e s.tys) env ≡ Some v → IsTrue (is_of_type t env v)

-- What is fixed mentions no find: a judged expression that is fixed has, resolved, no free name that depends on a find.
abbrev pub FixedMentionsNoFind : Type 0
FixedMentionsNoFind = (e : Ex) (s : Scope) → every sound_parts e s ≡ true → is_fixed e s ≡ true →
    FreeNamesAre (λ a. not (is_among s.depends_on_finds a)) (resolve e s.tys)
