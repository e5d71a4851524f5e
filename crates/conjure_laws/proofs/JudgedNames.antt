-- What the judgements say of the domains of givens and finds, as they stand with lettings put in and resolved.
use Rattle.std.proofs.Common.{◌≡◌, refl, ◌∙◌, ℕ, suc, true, false, List, [], ◌∷◌, map, Option, Some, None}
use Rattle.ess_semantics.specs.Lists.{append_all}
use Rattle.ess_semantics.specs.Values.{Text}
use Rattle.ess_semantics.specs.Names.{Names}
use Rattle.ess_semantics.specs.Trees.{Dom, Stm, given, given_enum, let_ex, let_dom, let_enum, let_unnamed, needs, find, such_that, minimise, maximise}
use Rattle.ess_semantics.specs.Types.{Ty}
use Rattle.ess_semantics.specs.Contexts.{Each}
use Rattle.ess_semantics.specs.Scopes.{Scope, empty_scope}
use Rattle.ess_semantics.specs.DomainJudgements.{needs_known_slots}
use Rattle.ess_semantics.specs.Lettings.{Lettings, put_all, types_after, lettings_after}
use Rattle.ess_semantics.specs.Resolving.{resolve_dom}
use Rattle.ess_semantics.specs.Prepared.{resolve_stm, resolve_all}
use Rattle.ess_semantics.specs.Judgements.{Judgement, unknown_name, double_name, ill_typed, not_finite, not_enumerable, open_given, meets, judgements, first_failed, put_in_scope, scope_after, first_fault, fault, is_well_typed}
use Rattle.ess_semantics.specs.Plans.{domain_of_stm, kept_names}
use Rattle.ess_repr_laws.specs.WellFormed.{Well}
use Rattle.ess_repr_laws.proofs.JudgedStatements.{stated-well, found-known, given-known}
use Rattle.conjure_laws.proofs.Lists.{each-append}
use Rattle.conjure_laws.proofs.SetScopesTyped.{passed, no-fault, later_judgements}
use Rattle.conjure_laws.proofs.ResolvedDomains.{well-kept, known-kept}

-- The domain is well formed and needs slots of a known number.
abbrev pub IsRight : Text × Dom → Type 0
IsRight x = Well x.1 × (needs_known_slots x.1 ≡ true)

-- The judgements on domains of a statement.
record Met (w t : Stm) (s : Scope) : Type 0 where
  typed : meets ill_typed w t s ≡ true
  finite : meets not_finite w t s ≡ true
  enumerable : meets not_enumerable w t s ≡ true
  closed : meets open_given w t s ≡ true

met : (w t : Stm) (s : Scope) → first_failed judgements w t s ≡ None → Met w t s
met w t s e =
    let a = passed unknown_name (double_name ∷ later_judgements) w t s e in
    let b = passed double_name later_judgements w t s a.1 in
    let c = passed ill_typed (not_finite ∷ not_enumerable ∷ open_given ∷ []) w t s b.1 in
    let d = passed not_finite (not_enumerable ∷ open_given ∷ []) w t s c.1 in
    let f = passed not_enumerable (open_given ∷ []) w t s d.1 in
    let h = passed open_given [] w t s f.1 in
    record { typed = c.0; finite = d.0; enumerable = f.0; closed = h.0 }

-- a judged domain, resolved
resolved : (x : Text) (d : Dom) (g : Names Ty) → Well d → needs_known_slots d ≡ true → IsRight (x, resolve_dom d g)
resolved x d g w k = (well-kept d g w, known-kept d g ∙ k)

of-stm : (w t : Stm) (s : Scope) → Met w t s → Each (domain_of_stm (resolve_stm t s.tys)) IsRight
of-stm w (given x d) s m = (
  resolved x d s.tys (stated-well w (given x d) s d refl m.typed m.enumerable) (given-known w (given x d) s d refl m.closed),
  tt,
)
of-stm w (find x d) s m = (
  resolved x d s.tys (stated-well w (find x d) s d refl m.typed m.enumerable) (found-known w (find x d) s d refl m.finite),
  tt,
)
of-stm w (given_enum t) s m = tt
of-stm w (let_ex x e) s m = tt
of-stm w (let_dom x d) s m = tt
of-stm w (let_enum t ns) s m = tt
of-stm w (let_unnamed t e) s m = tt
of-stm w (needs e) s m = tt
of-stm w (such_that e) s m = tt
of-stm w (minimise e) s m = tt
of-stm w (maximise e) s m = tt

-- The givens and finds of some statements, with lettings put in and resolved.
abbrev pub kept_from : List Stm → Lettings → Names Ty → Names Dom
kept_from ws l g = append_all (map domain_of_stm (resolve_all (put_all ws l g) g))

from-judged : (k : ℕ) (ws : List Stm) (s : Scope) → first_fault k ws s ≡ None → Each (kept_from ws s.lets s.tys) IsRight
from-judged k [] s e = tt
from-judged k (w ∷ ws) s e =
    let t : Stm = put_in_scope w s in
    let h = no-fault (first_failed judgements w t s) (first_fault (suc k) ws (scope_after t s)) k e in
    each-append IsRight (domain_of_stm (resolve_stm t s.tys)) (kept_from ws (lettings_after t s.lets) (types_after t s.tys))
    (of-stm w t s (met w t s h.0))
    (from-judged (suc k) ws (scope_after t s) h.1)

-- A verdict without a fault.
pub faultless : (S : List Stm) → is_well_typed S ≡ true → fault S ≡ None
faultless S e = go (fault S) e
  where
    go : (o : Option (Judgement × ℕ)) → elim o [ None ↦ true | Some f ↦ false ] ≡ true → o ≡ None
    go None e = refl
    go (Some f) e = cc

-- The domains of the givens and finds of a well typed specification are well formed, and need slots of a known number.
pub judged-right : (S : List Stm) → is_well_typed S ≡ true → Each (kept_names S) IsRight
judged-right S e = from-judged 1 S empty_scope (faultless S e)
