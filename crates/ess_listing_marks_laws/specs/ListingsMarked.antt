-- What a marked term offers as a listing has marks.
use Rattle.std.specs.Prelude.{◌≡◌, List, [], ◌∷◌, Some}
use Rattle.ess_semantics.specs.Lists.{and_then}
use Rattle.ess_semantics.specs.Values.{Text}
use Rattle.ess_semantics.specs.Names.{Names}
use Rattle.ess_semantics.specs.Trees.{Ex}
use Rattle.ess_semantics.specs.Types.{Ty}
use Rattle.ess_semantics.specs.OperatorTypes.{member_ty}
use Rattle.ess_semantics.specs.Typing.{type_of}
use Rattle.ess_rules_laws.specs.Listings.{Alternative, listing}
use Rattle.ess_rules_laws.specs.ContainerListings.{made_listing}
use Rattle.ess_refine_laws.specs.MarksStay.{HasMarks}
use Rattle.ess_refine_types_laws.specs.MarksOfContainers.{IsNewTo}
use Rattle.ess_rules_types_laws.specs.TypesOfSources.{IsAlike}
use Rattle.ess_put_marks_laws.specs.MarksOfTerms.{EachMarked}

-- The items of each alternative have the type of the members of t.
abbrev pub EachAlike : Names Ty → Ex → List Alternative → Type 0
EachAlike g t [] = Unit {0}
EachAlike g t (a ∷ l) = IsAlike g t a × EachAlike g t l

-- Where the term has members, of the type of which the items are, and marks, each alternative has marks; the name that it binds is new.
pub record ListingsHaveMarks : Type 0 where
  pub by_listing : (g : Names Ty) (x : Text) (t : Ex) (l : List Alternative) → listing g x t ≡ Some l → IsNewTo x t → (m : Ty) →
      and_then (type_of t g) member_ty ≡ Some m → EachAlike g t l → HasMarks t g → EachMarked g l
  pub by_made_listing : (g : Names Ty) (x y : Text) (t : Ex) (l : List Alternative) → made_listing g x y t ≡ Some l → IsNewTo x t →
      (m : Ty) →
      and_then (type_of t g) member_ty ≡ Some m → EachAlike g t l → HasMarks t g → EachMarked g l
