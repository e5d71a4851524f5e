-- Parts of trees over views: each is such a tree, in the place of which another one of the same mark may stand; or a set, a list, or a part
-- at which no rule fires. Names around it have the types that their bounds tell.
use Rattle.std.specs.Prelude.{◌≡◌, ℕ, Bool, true, false, List, ℤ, pos, Option, Some, IsTrue, is_some}
use Rattle.ess_semantics.specs.declared.words.Op2.{Op2}
use Rattle.ess_semantics.specs.Values.{Text}
use Rattle.ess_semantics.specs.Names.{Names, look}
use Rattle.ess_semantics.specs.Trees.{Ex, Exs, number_ex, name_ex, comp_ex, no_exs, more_exs, Gens, ex2}
use Rattle.ess_semantics.specs.Types.{Ty}
use Rattle.ess_semantics.specs.Meaning.{Env}
use Rattle.ess_semantics.specs.Substitution.{NamesAre}
use Rattle.ess_semantics.specs.Contexts.{In, fill, Where}
use Rattle.ess_semantics.specs.NamesAt.{names_at}
use Rattle.ess_rules_laws.specs.SourceRules.{list_of}
use Rattle.ess_refine_laws.specs.ScopesStay.{is_outside_views}
use Rattle.ess_seen_laws.specs.Filled.{InSlots}
use Rattle.ess_seen_laws.specs.Seen.{Kind, Bound, over_slots, bound_types, Counted, SetTerm, Seen, Listed, Going}

-- Each name that is bound has the property.
abbrev pub AllBound : (Text → Bool) → Names Bound → Type 0
AllBound b r = (a : Text) → IsTrue (is_some (look r a)) → IsTrue (b a)

-- A part at which no rule fires: a numeral, a name that is bound over slots, or what a number of slots is made of.
pub data IsStill : Names Bound → Ex → Type 0 where
  numeral : {r : Names Bound} {i : ℤ} → IsStill r (number_ex i)
  slot : {r : Names Bound} {a : Text} {k : ℕ} → look r a ≡ Some (over_slots k) → IsStill r (name_ex a)
  count : {r : Names Bound} {e : Ex} {k : ℕ} → Counted e k → IsStill r e
  start : {r : Names Bound} {a : ℕ} → IsStill r (ex2 false Op2.Minus (number_ex (pos 1)) (number_ex (pos a)))
  pair : {r : Names Bound} {e : Ex} {k : ℕ} → Counted e k → IsStill r (list_of (more_exs e (more_exs (number_ex (pos 0)) no_exs)))

module _ (cells : Text → Option (Bool × List ℕ)) where
  -- A list of scalars of this mark: of what generators go through, or of items.
  pub data Items : Names Bound → Ex → Bool → Type 0 where
    gone_through : {r t : Names Bound} {m : Bool} {e : Ex} {gs : Gens} → Going cells r gs t → Seen cells t e m → Items r (comp_ex e gs) m
    items_listed : {r : Names Bound} {m : Bool} {es : Exs} → Listed cells r es m → Items r (list_of es) m

  -- A part around which the names t are bound, and whether it stands in no view: such a tree outside of views, in the place of which the
  -- whole has the property P with any such tree of the same mark; a set outside of views; a list outside of views; or a part at which
  -- no rule fires, in a view, in its domain or in a number of slots.
  pub data Part (P : Ex → Type 0) : Bool → Names Bound → Ex → Type 0 where
    scalar_part : {t : Names Bound} {e : Ex} (m : Bool) → Seen cells t e m → ((f : Ex) → Seen cells t f m → P f) → Part P true t e
    set_part : {t : Names Bound} {e : Ex} (k : Kind) → SetTerm cells t e k → Part P true t e
    list_part : {t : Names Bound} {e : Ex} (m : Bool) → Items t e m → Part P true t e
    still_part : {t : Names Bound} {b : Bool} {e : Ex} → IsStill t e → Part P b t e

  -- What is said of a place in a tree with all names bound in it as `names_in` says: the types of names there, that names there are bound
  -- in the tree or around it, that wherever the context of the place holds names that are bound over slots have the number of one, and that
  -- the tree e which stands there is such a part.
  pub record Stands (types_at : Names Ty → Names Ty) (where_at : Env → (Env → Type 0) → Type 0) (is_outside : Bool)
      (names_in : (Text → Bool) → (Text → Bool) → Type 0) (r : Names Bound) (e : Ex) (P : Ex → Type 0) : Type 0 where
    pub around : Names Bound
    pub types : types_at (bound_types r) ≡ bound_types around
    pub known : (u b : Text → Bool) → names_in u b → AllBound b r → AllBound b around
    pub slots : (env : Env) → InSlots r env → where_at env (InSlots around)
    pub part : Part P is_outside around e

  -- The same of the open part of an expression that is such a tree, with the mark m, where the names r are bound.
  abbrev pub StandsIn : In → Names Bound → Ex → Bool → Type 0
  StandsIn c r e m =
      Stands (names_at c) (Where c) (is_outside_views c) (λ u b. NamesAre u b (fill c e)) r e (λ f. Seen cells r (fill c f) m)
