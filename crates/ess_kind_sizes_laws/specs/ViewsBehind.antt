-- The names of what a view offers as a listing are apart from those of what stands behind the view, where the listing takes a new name.
use Rattle.std.specs.Prelude.{◌≡◌, Bool, true, false, ◌&&◌, ◌||◌, not, List, Some}
use Rattle.ess_semantics.specs.Values.{Text}
use Rattle.ess_semantics.specs.Order.{same_text}
use Rattle.ess_semantics.specs.Trees.{name_pat, Ex, comp_ex, seen_ex, Gens, from, set_dom}
use Rattle.ess_semantics.specs.Substitution.{NamesAre, NamesAreGens}
use Rattle.ess_repr_declare_laws.specs.SizeTerms.{unused_name}
use Rattle.ess_rules_laws.specs.Listings.{Alternative}
use Rattle.ess_rules_laws.specs.ListedSources.{laid_out}
use Rattle.ess_rules_laws.specs.SpliceRules.{NamesApart}
use Rattle.ess_kind_rules_laws.specs.ViewListings.{view_listing}

-- Whether the expression is a view of a set.
abbrev pub is_view_of_set : Ex → Bool
is_view_of_set (seen_ex r (set_dom ms es d) ns js) = true
is_view_of_set e = false

-- The view t stands as a source with the name y, and e and hs behind it: t uses names of s alone, which are in scope, and its domain binds
-- names of b alone; e and hs use names of v, and bind such ones that aren't in scope and aren't y. The names of b aren't of v, nor is the
-- new name x. Sizes bind a name that no text has. Told apart, trees of specifications over their views are so: their names are those of
-- the text and reserved ones below that of the new name.
pub record ViewBehind (v s b : Text → Bool) (x y : Text) (t e : Ex) (hs : Gens) : Type 0 where
  pub source : NamesAre s b t
  pub gens : NamesAreGens v (λ a. v a && not (s a || same_text y a)) hs
  pub body : NamesAre v (λ a. v a && not (s a || same_text y a)) e
  pub new : v x ≡ false
  pub within : (a : Text) → b a ≡ true → v a ≡ false
  pub sizes : b unused_name ≡ true

-- The names that the listing binds: the new one, and those that sizes do.
abbrev pub taken : (Text → Bool) → Text → Text → Bool
taken b x a = b a || same_text x a

-- Those that its item may use, and the name y for which it is put.
abbrev pub put : (Text → Bool) → Text → Text → Text → Bool
put s x y a = (s a || same_text y a) || same_text x a

-- So the bound names of the listing are apart.
abbrev pub ListingsOfSetsAreApart : Type 0
ListingsOfSetsAreApart =
    (v s b : Text → Bool) (x y z : Text) (zs : List Text) (t e : Ex) (hs : Gens) (a : Alternative) → view_listing x z zs t ≡ Some a →
    is_view_of_set t ≡ true → ViewBehind v s b x y t e hs →
    NamesApart (taken b x) (put s x y) (comp_ex e (from (name_pat y) (laid_out a) hs))
