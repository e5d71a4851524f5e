-- What a rule makes at the first generator that isn't plain is in scope behind the plain ones, too, where three new names aren't in scope.
use Rattle.std.proofs.Common.{◌≡◌, refl, subst, Bool, true, not, Option, Some, None}
use Rattle.ess_semantics.specs.Lists.{and_then}
use Rattle.ess_semantics.specs.Values.{Text}
use Rattle.ess_semantics.specs.Order.{same_text}
use Rattle.ess_semantics.specs.Trees.{Pat, Ex, comp_ex, Gens}
use Rattle.ess_semantics.specs.Scoped.{with_names, Scoped, ScopedGens}
use Rattle.ess_semantics.specs.Substitution.{Binds, NamesAreGens}
use Rattle.ess_refine_laws.specs.AllRules.{Supply, OfSome}
use Rattle.ess_refine_laws.specs.ScopesOfRules.{BindsNone}
use Rattle.ess_open_rules_laws.specs.OpenGenerators.{Opened, at_first_open, put_before, behind_plain}
use Rattle.ess_numbered_scopes_laws.proofs.ScopesBehind.{InScope, append-scoped, IsClear, clear-with, clear-map, each-binds, each-both, both-bind, OpenedScoped, both-scoped}

module _ (z : Text → Bool) (t : Supply) where
  -- None of the three names is in scope.
  abbrev pub Clear : (Text → Bool) → Type 0
  Clear u = IsClear t.one z u × IsClear t.other z u × IsClear t.third z u

  -- Behind plain generators.
  put-scoped : (before : Gens) (u o : Text → Bool) (r : Option Ex) →
      ((f : Ex) → r ≡ Some f → ScopedGens z u o before (λ s i. Scoped z s i f)) → InScope z u o (and_then r (put_before before))
  put-scoped before u o None k = tt
  put-scoped before u o (Some (comp_ex f ks)) k = append-scoped z before ks (λ s i. Scoped z s i f) u o (k (comp_ex f ks) refl)
  put-scoped before u o (Some _) k = tt

  -- A pattern binds none of them.
  abbrev Apart : Pat → Type 0
  Apart p = Binds (λ c. not (same_text t.one c)) p
      × (Binds (λ c. not (same_text t.other c)) p × Binds (λ c. not (same_text t.third c)) p)

  step : (p : Pat) (s : Text → Bool) → Apart p → Clear s → Clear (with_names s p)
  step p s b j = (clear-with t.one z s p b.0 j.0, clear-with t.other z s p b.1.0 j.1, clear-with t.third z s p b.1.1 j.2)

  -- Generators that bind no such name.
  abbrev pub NoneBound : Text → Gens → Type 0
  NoneBound x gs = NamesAreGens (λ a. true) (λ a. not (same_text x a)) gs

  module _ (R : Gens → Ex → Option Ex) (at : (before : Gens) (e : Ex) (gs : Gens) → NoneBound t.one gs → NoneBound t.third gs →
      (u o : Text → Bool) → Clear u → Scoped z u o (comp_ex e gs) → InScope z u o (R before (comp_ex e gs))) where
    -- So it is.
    pub plain-scoped : (u o : Text → Bool) → Clear u → (a : Ex) → BindsNone (same_text t.one) a → BindsNone (same_text t.other) a →
        BindsNone (same_text t.third) a → Scoped z u o a → InScope z u o (behind_plain R a)
    plain-scoped u o c (comp_ex e gs) b l d h = go (at_first_open gs) (both-bind (λ a. not (same_text t.one a)) gs b.1)
        (both-bind (λ a. not (same_text t.other a)) gs l.1) (both-bind (λ a. not (same_text t.third a)) gs d.1)
        (both-scoped z (λ s i. Scoped z s i e) gs u o h)
      where
        go : (r : Option Opened) → OfSome r (λ p. NoneBound t.one p.before × NoneBound t.one p.after) →
            OfSome r (λ p. NoneBound t.other p.before × NoneBound t.other p.after) →
            OfSome r (λ p. NoneBound t.third p.before × NoneBound t.third p.after) →
            OfSome r (OpenedScoped z (λ s i. Scoped z s i e) u o) →
            InScope z u o (and_then r (λ p. and_then (R p.before (comp_ex e p.after)) (put_before p.before)))
        go None b l d k = tt
        go (Some p) b l d k = put-scoped p.before u o (R p.before (comp_ex e p.after)) (λ f q.
            clear-map z Clear Apart step p.before (λ s i. Scoped z s i (comp_ex e p.after)) (λ s i. Scoped z s i f)
            (λ s i j m. subst (λ w. InScope z s i w) q (at p.before e p.after b.1 d.1 s i j m))
            (each-both (λ a. Binds (λ c. not (same_text t.one c)) a)
            (λ a. Binds (λ c. not (same_text t.other c)) a × Binds (λ c. not (same_text t.third c)) a) p.before
            (each-binds (λ c. not (same_text t.one c)) p.before b.0)
            (each-both (λ a. Binds (λ c. not (same_text t.other c)) a) (λ a. Binds (λ c. not (same_text t.third c)) a) p.before
            (each-binds (λ c. not (same_text t.other c)) p.before l.0) (each-binds (λ c. not (same_text t.third c)) p.before d.0)))
            u o c k)
    plain-scoped u o c _ b l d h = tt
