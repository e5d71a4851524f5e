-- The header with which a text begins is ready.
use Rattle.std.proofs.Common.{◌≡◌, ap, List, Some, None, true, false}
use Rattle.ess_semantics.specs.Trees.{Stm}
use Rattle.ess_semantics.specs.Domains.{Domain}
use Rattle.ess_semantics.specs.Contexts.{Each}
use Rattle.ess_semantics.specs.Prepared.{prepared}
use Rattle.ess_semantics.specs.Meaning.{empty_env, domain_of}
use Rattle.ess_semantics.specs.Assignments.{Assignment, nothing_given}
use Rattle.ess_semantics.specs.Parameters.{Param}
use Rattle.ess_semantics.specs.Judgements.{fault, is_well_typed}
use Rattle.ess_semantics.specs.Plans.{kept_names}
use Rattle.ess_repr_laws.specs.TypedDomains.{Typed}
use Rattle.conjure_laws.specs.Premises.{here}
use Rattle.conjure_laws.specs.Fields.{HasItsFields}
use Rattle.conjure_laws.proofs.Lists.{each-map, each-both}
use Rattle.conjure_laws.proofs.Statements.{env-form}
use Rattle.conjure_laws.proofs.JudgedNames.{IsRight, judged-right}
use Rattle.conjure_settled_laws.proofs.SettledStatements.{typed-is-settled}
use Rattle.ess_translate_given_laws.specs.Ready.{Ready}
use Rattle.ess_translate_ready_laws.specs.Laws.{HeadersAreReady}
use Rattle.ess_translate_ready_laws.proofs.RelationParts.{HasParts, HasItsParts, written-parts}
use Rattle.ess_translate_ready_laws.proofs.JudgedFlags.{FlagsFit, flags-fit}
use Rattle.ess_translate_ready_laws.proofs.TypedByTypes.{typed-by-types}
use Rattle.ess_translate_ready_laws.proofs.ReadStatements.{header-whole}

is-clean : (S : List Stm) → fault S ≡ None → is_well_typed S ≡ true
is-clean S e = ap (λ o. elim o [ None ↦ true | Some f ↦ false ]) e

-- The domains of the givens and finds of a well typed specification are typed, where its relations have components.
kept-typed : (S : List Stm) → fault S ≡ None → Each S HasItsParts →
    Each (kept_names S) (λ x. (p : Assignment) (e : Domain) → Param S p → domain_of x.1 (here S p) ≡ Some e → Typed e)
kept-typed S e h =
    each-both (kept_names S) (λ x. IsRight x × HasParts x.1) (λ x. FlagsFit x.1) _
    (λ x r f p c P q. typed-by-types (here S p) (env-form (prepared S) p nothing_given empty_env).0 x.1 c r.0.0 r.1 f q)
    (each-both (kept_names S) IsRight (λ x. HasParts x.1) (λ x. IsRight x × HasParts x.1) (λ x r k. (r, k)) (judged-right S (is-clean S e))
    (written-parts S h))
    (flags-fit S e)

-- A well typed specification whose records have their fields and whose relations have components is ready.
pub typed-is-ready : (S : List Stm) → fault S ≡ None → Each S HasItsFields → Each S HasItsParts → Ready S
typed-is-ready S e f h = record { settled = typed-is-settled S e; fields = f; typed = kept-typed S e h }

-- The header with which a text begins is ready.
pub headers-are-ready : HeadersAreReady
headers-are-ready text H h =
    let w = header-whole h.0.lines.header in
    typed-is-ready H.statements h.1.typed (each-map H.statements _ HasItsFields (λ s k. k.0) w)
    (each-map H.statements _ HasItsParts (λ s k. k.1) w)
