-- What rules make of generators over tuples and records of domains stays in scope.
use Rattle.std.specs.Prelude.{IsTrue}
use Rattle.std.proofs.Common.{◌≡◌, refl, ap, ◌∙◌, Bool, true, false, ◌&&◌, ◌||◌, if◌then◌else◌, List, [], ◌∷◌, Option, Some, None, not}
use Rattle.ess_semantics.specs.Values.{Text}
use Rattle.ess_semantics.specs.Order.{same_text}
use Rattle.ess_semantics.specs.Trees.{Pats, more_pats, no_pats, name_pat, tuple_pat, Ex, comp_ex, Gens, no_gens, over, Doms, no_doms, more_doms, tuple_dom, record_dom}
use Rattle.ess_rules_laws.specs.SplitRules.{as_many, each_over, split}
use Rattle.ess_rules_laws.specs.TupleNames.{named_exs, name_over_tuple, are_names}
use Rattle.ess_refine_laws.specs.RecordNames.{are_in_order, name_over_record}
use Rattle.ess_semantics.specs.Trees.{Pat}
use Rattle.ess_semantics.specs.Scoped.{is_bound, is_bound_by_some, BindsNew, AllBindNew, with_names, Scoped, ScopedExs, ScopedGens, ScopedDoms}
use Rattle.ess_semantics.proofs.Tests.{or-yes}
use Rattle.ess_rules_laws.specs.TupleNames.{named_pats}
use Rattle.ess_rules_laws.proofs.Agreement.{same_text-itself}
use Rattle.ess_refine_laws.specs.ScopesStay.{Scope}
use Rattle.ess_refine_laws.specs.ScopesOfRules.{PartsApart, AreNew}
use Rattle.ess_refine_laws.proofs.WiderScopes.{Fewer, domains-behind, equal-scopes}
use Rattle.ess_refine_laws.proofs.ScopesOfParts.{InScope, when}

module _ (z : Text → Bool) where
  -- ---- patterns

  mutual
    -- What is new among some names and among those of a pattern is new among both.
    new-both : (s : Text → Bool) (q p : Pat) → BindsNew s p → BindsNew (is_bound q) p → BindsNew (with_names s q) p
    new-both s q (name_pat a) h k = go (s a) (is_bound q a) h k
      where
        go : (x y : Bool) → IsTrue (not x) → IsTrue (not y) → IsTrue (not (x || y))
        go true y h k = h
        go false y h k = k
    new-both s q (tuple_pat ps) h k = all-both s q ps h k

    all-both : (s : Text → Bool) (q : Pat) (ps : Pats) → AllBindNew s ps → AllBindNew (is_bound q) ps → AllBindNew (with_names s q) ps
    all-both s q no_pats h k = tt
    all-both s q (more_pats p ps) h k = (new-both s q p h.0 k.0, all-both s q ps h.1 k.1)

  -- One pattern after the other.
  shift : (s : Text → Bool) (q : Pat) (ps : Pats) →
      Fewer (with_names s (tuple_pat (more_pats q ps))) (with_names (with_names s q) (tuple_pat ps))
  shift s q ps a h = go (s a) (is_bound q a) (is_bound_by_some ps a) h
    where
      go : (x y v : Bool) → x || (y || v) ≡ true → (x || y) || v ≡ true
      go true y v h = refl
      go false y v h = h

  back : (s : Text → Bool) (q : Pat) (ps : Pats) →
      Fewer (with_names (with_names s q) (tuple_pat ps)) (with_names s (tuple_pat (more_pats q ps)))
  back s q ps a h = go (s a) (is_bound q a) (is_bound_by_some ps a) h
    where
      go : (x y v : Bool) → (x || y) || v ≡ true → x || (y || v) ≡ true
      go true y v h = refl
      go false y v h = h

  none-more : (s : Text → Bool) → Fewer (with_names s (tuple_pat no_pats)) s
  none-more s a h = go (s a) h
    where
      go : (x : Bool) → x || false ≡ true → x ≡ true
      go true h = refl
      go false h = h

  none-less : (s : Text → Bool) → Fewer s (with_names s (tuple_pat no_pats))
  none-less s a h = ap (λ b. b || false) h

  -- A generator for each component.
  each-scoped : (ps : Pats) (ds : Doms) (hs : Gens) (e : Ex) (s o : Text → Bool) → as_many ps ds ≡ true → PartsApart ps ds →
      AllBindNew s ps → ScopedDoms z s o ds →
      Scoped z (with_names s (tuple_pat ps)) (with_names o (tuple_pat ps)) (comp_ex e hs) →
      Scoped z s o (comp_ex e (each_over ps ds hs))
  each-scoped no_pats no_doms hs e s o a k n d h =
      equal-scopes z (with_names s (tuple_pat no_pats)) s (with_names o (tuple_pat no_pats)) o (none-more s) (none-less s) (none-more o)
      (comp_ex e hs) h
  each-scoped (more_pats q ps) (more_doms c ds) hs e s o a k n d h = (
    n.0,
    d.0,
    each-scoped ps ds hs e (with_names s q) (with_names o q) a k.2 (all-both s q ps n.1 k.0) (domains-behind z q s o ds k.1 d.1)
        (equal-scopes z (with_names s (tuple_pat (more_pats q ps))) (with_names (with_names s q) (tuple_pat ps))
        (with_names o (tuple_pat (more_pats q ps))) (with_names (with_names o q) (tuple_pat ps)) (shift s q ps) (back s q ps) (shift o q ps)
        (comp_ex e hs) h),
  )
  each-scoped no_pats (more_doms c ds) hs e s o a k n d h = cc
  each-scoped (more_pats q ps) no_doms hs e s o a k n d h = cc

  -- ---- new names

  names-bind : (t : Scope) (ys : List Text) → AreNew t ys → AllBindNew t.all (named_pats ys)
  names-bind t [] h = tt
  names-bind t (y ∷ ys) h = (h.0, names-bind t ys h.1)

  names-scoped : (ys : List Text) (u i : Text → Bool) → Fewer (is_bound_by_some (named_pats ys)) u → ScopedExs z u i (named_exs ys)
  names-scoped [] u i k = tt
  names-scoped (y ∷ ys) u i k = (
    k y (ap (λ b. b || is_bound_by_some (named_pats ys) y) (same_text-itself y)),
    names-scoped ys u i (λ a h. k a (ap (λ b. same_text y a || b) h ∙ or-yes (same_text y a))),
  )

  module _ (t : Scope) where
    abbrev A : Option Ex → Type 0
    A r = InScope z t.all t.over_domains r

    when-so : (c : Bool) (f : Ex) → (c ≡ true → Scoped z t.all t.over_domains f) → A (if c then Some f else None)
    when-so true f h = h refl
    when-so false f h = tt

    pub splits : (e : Ex) (ps : Pats) (ds : Doms) (hs : Gens) → PartsApart ps ds →
        Scoped z t.all t.over_domains (comp_ex e (over (tuple_pat ps) (tuple_dom ds) hs)) →
        A (split (comp_ex e (over (tuple_pat ps) (tuple_dom ds) hs)))
    splits e ps ds hs k h = when-so (as_many ps ds) (comp_ex e (each_over ps ds hs))
        (λ a. each-scoped ps ds hs e t.all t.over_domains a k h.0 h.1 h.2)

    -- The new names over the components.
    over-names : (ys : List Text) → AreNew t ys → (ds : Doms) → ScopedDoms z t.all t.over_domains ds →
        ScopedGens z t.all t.over_domains (over (tuple_pat (named_pats ys)) (tuple_dom ds) no_gens) (λ u i. ScopedExs z u i (named_exs ys))
    over-names ys n ds h = (
      names-bind t ys n,
      h,
      names-scoped ys (with_names t.all (tuple_pat (named_pats ys))) (with_names t.over_domains (tuple_pat (named_pats ys)))
          (λ a k. ap (λ b. t.all a || b) k ∙ or-yes (t.all a)),
    )

    pub tuple-name : (ys : List Text) → AreNew t ys → (e : Ex) (x : Text) (ds : Doms) (hs : Gens) →
        ScopedGens z (with_names t.all (name_pat x)) t.over_domains hs (λ u i. Scoped z u i e) →
        Scoped z t.all t.over_domains (comp_ex e (over (name_pat x) (tuple_dom ds) hs)) →
        A (name_over_tuple ys (comp_ex e (over (name_pat x) (tuple_dom ds) hs)))
    tuple-name ys n e x ds hs k h = when z t.all t.over_domains (are_names ys ds) _ (h.0, over-names ys n ds h.1, k)

    pub record-name : (ys : List Text) → AreNew t ys → (e : Ex) (x : Text) (fs : List Text) (ds : Doms) (hs : Gens) →
        ScopedGens z (with_names t.all (name_pat x)) t.over_domains hs (λ u i. Scoped z u i e) →
        Scoped z t.all t.over_domains (comp_ex e (over (name_pat x) (record_dom fs ds) hs)) →
        A (name_over_record ys (comp_ex e (over (name_pat x) (record_dom fs ds) hs)))
    record-name ys n e x fs ds hs k h = when z t.all t.over_domains (are_names ys ds && are_in_order fs ds) _
        (h.0, over-names ys n ds h.1, k)
