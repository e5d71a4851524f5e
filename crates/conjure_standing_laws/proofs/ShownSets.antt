-- What is shown over tables for a find that is a set of any nesting: the view by its plan, of which there is one.
use Rattle.std.proofs.Common.{◌≡◌, refl, sym, ap, ◌∙◌, subst, true, false, List, [], ◌∷◌, ◌++◌, inl, inr, filter, map, Some, None}
use Rattle.ess_semantics.specs.Values.{Text}
use Rattle.ess_semantics.specs.Names.{look, keys}
use Rattle.ess_semantics.specs.Trees.{Repr, Ex, seen_ex, no_exs, Dom, Stm, given, given_enum, let_ex, let_dom, let_enum, let_unnamed, needs, find, such_that, minimise, maximise}
use Rattle.ess_semantics.specs.Kinds.{fits}
use Rattle.ess_semantics.specs.TableNames.{Named}
use Rattle.ess_semantics.specs.Prepared.{prepared}
use Rattle.ess_semantics.specs.Judgements.{fault}
use Rattle.ess_semantics.specs.Plans.{Options, finds_side, Plan, value_plan, plans, is_plan_for, is_plan_of}
use Rattle.ess_semantics.proofs.Texts.{same_text-itself}
use Rattle.conjure_laws.specs.Members.{In}
use Rattle.conjure_laws.proofs.Lists.{in-filtered}
use Rattle.conjure_laws.proofs.NamedTables.{keys-append}
use Rattle.conjure_laws.proofs.Statements.{find-is-named, finds-prepared, plan-is-found}
use Rattle.conjure_settled_laws.proofs.SettledStatements.{typed-is-settled}
use Rattle.conjure_model_laws.specs.ToldApart.{told_dom}
use Rattle.conjure_model_laws.specs.Shown.{Shows, shown_dom, view_by, with_views, positions_from, shows_behind, shows_from, shows_of}
use Rattle.ess_nested_laws.specs.NestedDomains.{is_nested_dom}
use Rattle.ess_nested_laws.proofs.NestedForms.{NestedSet, KeptAs, nested-form, kept-form}
use Rattle.ess_flat_models_laws.proofs.ScalarDomains.{Atom}
use Rattle.ess_mixed_models_laws.specs.MixedSpecifications.{are_mixed_statements, types_come_first, have_bounds}
use Rattle.ess_mixed_models_laws.proofs.NamedKinds.{no-yes}
use Rattle.ess_mixed_models_laws.proofs.MixedPlans.{all-facts, shape-single}
use Rattle.ess_mixed_models_laws.proofs.FoundPlans.{found-plan}
use Rattle.ess_mixed_models_laws.proofs.SetFinds.{one-dom}
use Rattle.ess_mixed_views_laws.proofs.ViewValues.{view-is}
use Rattle.conjure_standing_laws.proofs.ShownNested.{told-nested, shown-nested}
use Rattle.conjure_standing_laws.proofs.ShownPlans.{same-tests}
use Rattle.conjure_standing_laws.proofs.ShownNames.{at-itself, stm-place}

module _ (S : List Stm) (o : Options) (h : are_mixed_statements S o ≡ true) (f : fault S ≡ None)
    (ts : types_come_first [] (prepared S) ≡ true) (bs : have_bounds (plans S o) [] (prepared S) ≡ true) where
  abbrev Ps : List Plan
  Ps = plans S o

  abbrev sh : Shows
  sh = shows_of S o

  module _ (x : Text) (r : Repr) (d : Dom) (ns : List Named) (i : In (value_plan finds_side x r d ns) Ps) (n : is_nested_dom d ≡ true)
      (k : fits r d ≡ true) where
    abbrev P : Plan
    P = value_plan finds_side x r d ns

    -- It has one plan.
    one-plan : filter (is_plan_for x) Ps ≡ P ∷ []
    one-plan =
        let r = found-plan S o h x (typed-is-settled S f).distinct
        (subst (In x) (finds-prepared S) (find-is-named _ x d (plan-is-found S o x r d ns i))) in
        let j : In P (r.0 ∷ []) = subst (In P) r.1 (in-filtered (is_plan_of x) P Ps i (same_text-itself x)) in
        same-tests S o h f x Ps (all-facts S o h) (λ s e m j g.
        let q : d ≡ e = one-dom S o h f finds_side s x _ Atom d e ns ((m, 0) ∷ []) i j in
        let z : false ≡ true = sym (shape-single S o e g) ∙ ap is_nested_dom (sym q) ∙ n in no-yes z)
        ∙ r.1 ∙ ap (λ Q. Q ∷ []) (only r.0 j)
      where
        only : (Q : Plan) → In P (Q ∷ []) → Q ≡ P
        only Q (inl e) = sym e
        only Q (inr i) = absurd i

    nested : NestedSet d
    nested = nested-form 250 d n

    kept : KeptAs r d
    kept = kept-form 250 r d n k

    -- The domain over tables where it is declared.
    dom-there : (u : Shows) → shown_dom u (told_dom d [] u.next).0 ≡ d
    dom-there u = ap (λ q. shown_dom u q.0) (told-nested nested u.next) ∙ shown-nested u nested

    -- The view where it is declared.
    view-there : (u : Shows) → view_by (shown_dom u (told_dom d [] u.next).0) P ≡ seen_ex r d (keys ns) no_exs
    view-there u =
        ap (λ c. view_by c P) (dom-there u) ∙ view-is nested kept d finds_side x ns

    abbrev base : Shows → Shows
    base u = record u { doms = (x, shown_dom u (told_dom d [] u.next).0) ∷ u.doms; next = (told_dom d [] u.next).1 }

    -- Its view is shown for its name, also where it is asked what is a member.
    pub set-is-shown : (look sh.first x ≡ Some (seen_ex r d (keys ns) no_exs)) × (look sh.last x ≡ Some (seen_ex r d (keys ns) no_exs))
    set-is-shown =
        let T = stm-place S o h f ts bs (find x d) (plan-is-found S o x r d ns i) in
        let u : Shows = T.sh in
        let q = T.same x (inl refl) in (
          q.first
              ∙ ap (λ Qs. look (with_views x (map (view_by (shown_dom u (told_dom d [] u.next).0)) Qs) (base u)).first x) one-plan
              ∙ at-itself x (view_by (shown_dom u (told_dom d [] u.next).0) P) u.first ∙ ap (λ z. Some z) (view-there u),
          q.last
              ∙ ap (λ Qs. look (with_views x (map (view_by (shown_dom u (told_dom d [] u.next).0)) Qs) (base u)).last x) one-plan
              ∙ at-itself x (view_by (shown_dom u (told_dom d [] u.next).0) P) u.last ∙ ap (λ z. Some z) (view-there u),
        )

-- ---- names for which something is shown

-- The same names have a first view and a last one.
abbrev Alike : Shows → Type 0
Alike u = keys u.first ≡ keys u.last

views-alike : (x : Text) (vs : List Ex) (u : Shows) → Alike u → Alike (with_views x vs u)
views-alike x [] u e = e
views-alike x (v ∷ vs) u e = ap (λ l. x ∷ l) e

stm-alike : (Qs : List Plan) (s : Stm) (u : Shows) → Alike u → Alike (shows_behind Qs s u)
stm-alike Qs (given x d) u e = views-alike x (map (view_by (shown_dom u (told_dom d [] u.next).0)) (filter (is_plan_for x) Qs))
    (record u { doms = (x, shown_dom u (told_dom d [] u.next).0) ∷ u.doms; next = (told_dom d [] u.next).1 }) e
stm-alike Qs (find x d) u e = views-alike x (map (view_by (shown_dom u (told_dom d [] u.next).0)) (filter (is_plan_for x) Qs))
    (record u { doms = (x, shown_dom u (told_dom d [] u.next).0) ∷ u.doms; next = (told_dom d [] u.next).1 }) e
stm-alike Qs (given_enum t) u e = e
stm-alike Qs (let_enum t ns) u e =
    keys-append (positions_from 1 ns) u.first ∙ ap (λ l. keys (positions_from 1 ns) ++ l) e ∙ sym (keys-append (positions_from 1 ns) u.last)
stm-alike Qs (let_unnamed t a) u e = e
stm-alike Qs (let_ex x a) u e = e
stm-alike Qs (let_dom x d) u e = e
stm-alike Qs (needs a) u e = e
stm-alike Qs (such_that a) u e = e
stm-alike Qs (minimise a) u e = e
stm-alike Qs (maximise a) u e = e

-- So it is behind all statements.
pub shown-alike : (Qs : List Plan) (T : List Stm) (u : Shows) → Alike u → Alike (shows_from Qs T u)
shown-alike Qs [] u e = e
shown-alike Qs (s ∷ T) u e = shown-alike Qs T (shows_behind Qs s u) (stm-alike Qs s u e)
