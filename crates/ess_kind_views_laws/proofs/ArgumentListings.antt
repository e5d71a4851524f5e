-- What views of judged domains offer has what it counts on, where they are kept by indices.
use Rattle.std.proofs.Common.{◌≡◌, refl, sym, ap, ◌∙◌, subst, Bool, true, false, ◌||◌, not, List, [], ◌∷◌, Some, None}
use Rattle.std.specs.Prelude.{IsTrue, is_some}
use Rattle.ess_semantics.specs.declared.words.ReprKind.{ReprKind}
use Rattle.ess_semantics.specs.Values.{Text}
use Rattle.ess_semantics.specs.Order.{same_text}
use Rattle.ess_semantics.specs.Domains.{Domain}
use Rattle.ess_semantics.specs.Trees.{repr, no_reprs, more_reprs, Ex, seen_ex, Dom, Doms, no_doms, more_doms, tuple_dom, function_dom, relation_dom}
use Rattle.ess_semantics.specs.Meaning.{Env, domain_of, members_in}
use Rattle.ess_repr_laws.specs.Finite.{FiniteAtom}
use Rattle.ess_rules_laws.specs.ComponentRules.{has_text}
use Rattle.ess_rules_laws.specs.FunctionViews.{NamesUnused}
use Rattle.ess_rules_laws.specs.Listings.{Alternative}
use Rattle.ess_rules_laws.proofs.UsedNames.{names-map}
use Rattle.ess_kind_rules_laws.specs.ViewListings.{one_each}
use Rattle.ess_kind_steps_laws.proofs.JudgedSets.{AtomsThere}
use Rattle.ess_kind_functions_laws.proofs.JudgedFunctions.{total-arguments, flagged-arguments}
use Rattle.ess_kind_views_laws.specs.TuplesAtHand.{ViewsByArgumentAreListed}
use Rattle.ess_kind_views_laws.proofs.JudgedTuples.{tuples-there, total-tuples, flagged-tuples, relation-tuples}

no : {A : Type 0} → false ≡ true → A
no h = cc

-- A source that offers nothing.
absent : {A : Type 0} (a : Alternative) → None ≡ Some a → A
absent a q = cc

-- ---- names

one-more : (b c d : Bool) → (IsTrue (not c) → IsTrue (not d)) → IsTrue (not (b || c)) → IsTrue (not (b || d))
one-more true c d f h = h
one-more false c d f h = f h

-- What none of the names is, none of as many as there are domains is.
few-names : (zs : List Text) (ds : Doms) (a : Text) → IsTrue (not (has_text zs a)) → IsTrue (not (has_text (one_each zs ds) a))
few-names (z ∷ zs) (more_doms d ds) a h = one-more (same_text z a) (has_text zs a) (has_text (one_each zs ds) a) (few-names zs ds a) h
few-names [] ds a h = refl
few-names (z ∷ zs) no_doms a h = refl

names-new : (zs : List Text) (ds : Doms) (e : Ex) → NamesUnused zs e → NamesUnused (one_each zs ds) e
names-new zs ds e u =
    names-map (λ a. not (has_text zs a)) (λ a. not (has_text (one_each zs ds) a)) (λ a. true) (λ a. true) (few-names zs ds) (λ a h. refl) e u

-- ---- atoms

-- The members of an atom that is finite can be listed.
atoms-listed : (d : Dom) (env : Env) → (x : Domain) × (domain_of d env ≡ Some x) × FiniteAtom x →
    IsTrue (is_some (members_in (domain_of d env)))
atoms-listed d env p = subst (λ o. IsTrue (is_some (members_in o))) (sym p.1) p.2.1

listed-atoms : (d : Dom) (env : Env) → AtomsThere d env → IsTrue (is_some (members_in (domain_of d env)))
listed-atoms d env a = ap is_some (ap members_in a.part ∙ a.listed)

-- ---- each kind

-- What is said of each view.
pub views-by-argument-are-listed : ViewsByArgumentAreListed
views-by-argument-are-listed x y zs (seen_ex (repr ReprKind.Matrix rs) d ns js) a q i u us env j = u
views-by-argument-are-listed x y zs (seen_ex (repr ReprKind.Function1D (more_reprs r no_reprs)) (function_dom ms es d c) ns js) a q i u us
    env j =
    (u, atoms-listed d env (total-arguments r ms es d c env j))
views-by-argument-are-listed x y zs (seen_ex (repr ReprKind.Function1D rs) d ns js) a q i u us env j = absent a q
views-by-argument-are-listed x y zs (seen_ex (repr ReprKind.Function1DPartial (more_reprs r no_reprs)) (function_dom ms es d c) (m ∷ ns) js)
    a q i u us env j =
    (u, listed-atoms d env (flagged-arguments r ms es d c env j))
views-by-argument-are-listed x y zs (seen_ex (repr ReprKind.Function1DPartial rs) d ns js) a q i u us env j = absent a q
views-by-argument-are-listed x y zs (seen_ex (repr ReprKind.FunctionND (more_reprs r no_reprs)) (function_dom ms es (tuple_dom ds) c) ns js)
    a q i u us env j = (
      names-new zs ds (seen_ex (repr ReprKind.FunctionND (more_reprs r no_reprs)) (function_dom ms es (tuple_dom ds) c) ns js) us,
      tuples-there ds env (total-tuples r ms es ds c env j),
    )
views-by-argument-are-listed x y zs (seen_ex (repr ReprKind.FunctionND rs) d ns js) a q i u us env j = absent a q
views-by-argument-are-listed x y zs
    (seen_ex (repr ReprKind.FunctionNDPartial (more_reprs r no_reprs)) (function_dom ms es (tuple_dom ds) c) (m ∷ ns) js) a q i u us env j = (
      names-new zs ds (seen_ex (repr ReprKind.FunctionNDPartial (more_reprs r no_reprs)) (function_dom ms es (tuple_dom ds) c) (m ∷ ns) js) us,
      tuples-there ds env (flagged-tuples r ms es ds c env j),
    )
views-by-argument-are-listed x y zs (seen_ex (repr ReprKind.FunctionNDPartial rs) d ns js) a q i u us env j = absent a q
views-by-argument-are-listed x y zs (seen_ex (repr ReprKind.RelationAsMatrix no_reprs) (relation_dom ms es ds) (n ∷ []) js) a q i u us env
    j = (
      names-new zs ds (seen_ex (repr ReprKind.RelationAsMatrix no_reprs) (relation_dom ms es ds) (n ∷ []) js) us,
      tuples-there ds env (relation-tuples ms es ds env j),
    )
views-by-argument-are-listed x y zs (seen_ex (repr ReprKind.RelationAsMatrix rs) d ns js) a q i u us env j = absent a q
views-by-argument-are-listed x y zs _ a q i u us env j = no i
