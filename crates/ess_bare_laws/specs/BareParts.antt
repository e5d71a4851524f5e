-- Parts of bare trees: each is a bare tree or a list of bare items; names around it have the types that their marks tell; and another
-- bare tree of the same mark may stand in its place.
use Rattle.std.specs.Prelude.{◌≡◌, ℕ, Bool, true, false, [], ◌∷◌, Option}
use Rattle.ess_semantics.specs.Values.{Text}
use Rattle.ess_semantics.specs.Names.{Names}
use Rattle.ess_semantics.specs.Trees.{Ex, comp_ex, Gens}
use Rattle.ess_semantics.specs.Types.{Ty, bool_ty, int_ty}
use Rattle.ess_semantics.specs.Typed.{Typed}
use Rattle.ess_semantics.specs.Contexts.{In, fill}
use Rattle.ess_semantics.specs.NamesAt.{names_at}
use Rattle.ess_semantics.specs.StaysAt.{StaysAt}
use Rattle.ess_refine_laws.specs.ScopesStay.{is_outside_views}
use Rattle.ess_bare_laws.specs.Bare.{Bare, Ranging}

-- The type of a scalar with this mark.
abbrev pub mark_ty : Bool → Ty
mark_ty true = bool_ty
mark_ty false = int_ty

-- The types of names with these marks.
abbrev pub marked_types : Names Bool → Names Ty
marked_types [] = []
marked_types (b ∷ r) = (b.0, mark_ty b.1) ∷ marked_types r

module _ (cells : Text → Option (Bool × ℕ)) where
  -- A part around which the names t are bound: a bare tree, in the place of which the whole has the property P with any bare tree of the
  -- same mark; or a list of bare items.
  pub data Part (P : Ex → Type 0) : Names Bool → Ex → Type 0 where
    scalar : {t : Names Bool} {e : Ex} (k : Bool) → Bare cells t e k → ((f : Ex) → Bare cells t f k → P f) → Part P t e
    items : {t u : Names Bool} {e : Ex} {k : Bool} {gs : Gens} → Ranging cells t gs u → Bare cells u e k → Part P t (comp_ex e gs)

  -- What is said of a place: the types of names there, that names keep values of their types on the way to it, that it stands in no view,
  -- and that the tree e which stands there is such a part.
  pub record Stands (types_at : Names Ty → Names Ty) (stays_at : Names Ty → Type 0) (is_outside : Bool) (r : Names Bool) (e : Ex)
      (P : Ex → Type 0) : Type 0 where
    pub around : Names Bool
    pub types : types_at (marked_types r) ≡ marked_types around
    pub stays : stays_at (marked_types r)
    pub outside : is_outside ≡ true
    pub part : Part P around e

  -- The same of the open part of an expression that is bare, with the mark m, where the names r are bound.
  abbrev pub StandsIn : In → Names Bool → Ex → Bool → Type 0
  StandsIn c r e m = Stands (names_at c) (StaysAt Typed c) (is_outside_views c) r e (λ f. Bare cells r (fill c f) m)
