-- That two representations which stand for one pure representation are one: a representation is got back from its pure one.
use Rattle.std.proofs.Common.{◌≡◌, refl, sym, ap, ◌∙◌, subst, List, [], ◌∷◌, map}
use Rattle.ess_semantics.specs.Trees as pure
use Rattle.ess_semantics.specs.Choice.{reprs_of}
use Rattle.ess_core.specs.TreeViews.{repr_step, pure_repr}
use Rattle.ess_core.specs.declared.representations.Repr.{Repr}
use Rattle.ess_core.specs.declared.representations.Repr.TheOpen.{Repr-F}
use Rattle.ess_core.specs.declared.representations.Repr.TheViews.{roll-Repr}
use Rattle.ess_core.specs.declared.representations.Repr.TheFolds.{map-Repr, fold-roll-Repr, ind-Repr}

abbrev mutual
  -- The representation that stands for a pure one.
  repr_back : pure.Repr → Repr
  repr_back (pure.repr k rs) = roll-Repr (record { kind = k; children = list_back rs })

  list_back : pure.Reprs → List Repr
  list_back pure.no_reprs = []
  list_back (pure.more_reprs r rs) = repr_back r ∷ list_back rs

abbrev Comes : Repr → Type 0
Comes x = repr_back (pure_repr x) ≡ x

abbrev Back : Type 0
Back = (x : Repr) × Comes x

list-back : (hs : List Back) → list_back (reprs_of (map pure_repr (map (λ h. h.0) hs))) ≡ map (λ h. h.0) hs
list-back [] = refl
list-back (h ∷ hs) = ap (λ v. v ∷ list_back (reprs_of (map pure_repr (map (λ g. g.0) hs)))) h.1 ∙ ap (λ vs. h.0 ∷ vs) (list-back hs)

abbrev of_repr : Repr-F Back → Repr-F Repr
of_repr = map-Repr _ _ (λ h. h.0)

made : (y : Repr-F Back) → Comes (roll-Repr (of_repr y))
made y =
    ap repr_back (fold-roll-Repr pure.Repr repr_step (of_repr y))
    ∙ ap (λ cs. roll-Repr (record { kind = y.kind; children = cs })) (list-back y.children)

step : (x : Repr-F Repr) (y : Repr-F Back) → of_repr y ≡ x → Comes (roll-Repr x)
step x y p = subst (λ z. Comes (roll-Repr z)) p (made y)

comes : (x : Repr) → Comes x
comes = ind-Repr Comes step

-- Two representations that stand for one pure representation are equal.
pub pure_repr-injective : (a b : Repr) → pure_repr a ≡ pure_repr b → a ≡ b
pure_repr-injective a b e = sym (comes a) ∙ ap repr_back e ∙ comes b
