-- The names of what a view offers are apart from those of what stands behind it, where the listing takes new names.
use Rattle.std.specs.Prelude.{◌≡◌, Bool, true, false, ◌&&◌, ◌||◌, not, ◌∷◌, IsTrue}
use Rattle.ess_semantics.specs.declared.words.ReprKind.{ReprKind}
use Rattle.ess_semantics.specs.Values.{Text}
use Rattle.ess_semantics.specs.Order.{same_text}
use Rattle.ess_semantics.specs.Substitution.{NamesAre, NamesAreGens}
use Rattle.ess_semantics.specs.Trees.{repr, Ex, node_ex, seen_ex, Gens}
use Rattle.ess_repr_declare_laws.specs.SizeTerms.{unused_name}
use Rattle.ess_rules_laws.specs.ComponentRules.{has_text}
use Rattle.ess_refine_laws.specs.AllRules.{Supply}
use Rattle.ess_kind_views_laws.specs.FoldsAtHand.{OfferedApart}

-- Whether the source has a listing of its own: a view of a matrix, a multiset, a function, a relation or a partition that isn't kept as
-- another value, or the set of a multiset's members.
abbrev pub is_own_kind : Ex → Bool
is_own_kind (seen_ex (repr ReprKind.Matrix rs) d ns js) = true
is_own_kind (seen_ex (repr ReprKind.MSetOccurrence rs) d ns js) = true
is_own_kind (seen_ex (repr ReprKind.MSetExplicitWithRepetition rs) d ns js) = true
is_own_kind (seen_ex (repr ReprKind.MSetExplicitWithFlags rs) d ns js) = true
is_own_kind (seen_ex (repr ReprKind.PartitionOccurrence rs) d ns js) = true
is_own_kind (seen_ex (repr ReprKind.Function1D rs) d ns js) = true
is_own_kind (seen_ex (repr ReprKind.Function1DPartial rs) d ns js) = true
is_own_kind (seen_ex (repr ReprKind.FunctionND rs) d ns js) = true
is_own_kind (seen_ex (repr ReprKind.FunctionNDPartial rs) d ns js) = true
is_own_kind (seen_ex (repr ReprKind.RelationAsMatrix rs) d ns js) = true
is_own_kind (node_ex b op es) = true
is_own_kind e = false

-- Whether the name is one of the new ones.
abbrev pub is_taken : Supply → Text → Bool
is_taken s a = has_text (s.one ∷ s.other ∷ s.parts) a

-- The view t stands as a source with the name y, and e and hs behind it: t uses names in scope alone, and its domain binds `bound` ones
-- alone; e and hs use `used` names, and bind such ones that aren't in scope and aren't y. Neither the bound nor the new names are used.
-- Sizes bind a name that no text has.
pub record StandsApart (s : Supply) (y : Text) (t e : Ex) (hs : Gens) : Type 0 where
  pub used : Text → Bool
  pub scope : Text → Bool
  pub bound : Text → Bool
  pub source : NamesAre scope bound t
  pub gens : NamesAreGens used (λ a. used a && not (scope a || same_text y a)) hs
  pub body : NamesAre used (λ a. used a && not (scope a || same_text y a)) e
  pub new : (a : Text) → is_taken s a ≡ true → used a ≡ false
  pub within : (a : Text) → bound a ≡ true → used a ≡ false
  pub sizes : IsTrue (bound unused_name)

-- So the names of what it offers are apart.
abbrev pub OffersAreApart : Type 0
OffersAreApart = (s : Supply) (y : Text) (t e : Ex) (hs : Gens) → is_own_kind t ≡ true → StandsApart s y t e hs → OfferedApart s y t e hs
