-- What is made of functions and partitions, and literals of these, as listings with items of the type of the members.
use Rattle.std.specs.Prelude.{◌≡◌, false, List, Some}
use Rattle.ess_semantics.specs.declared.words.Fun.{Fun}
use Rattle.ess_semantics.specs.Lists.{and_then}
use Rattle.ess_semantics.specs.Values.{Text}
use Rattle.ess_semantics.specs.Names.{Names}
use Rattle.ess_semantics.specs.Trees.{Ex, node_ex, matrix_ex, fun1, function_literal, partition_literal, matrix_literal, mset_literal}
use Rattle.ess_semantics.specs.Types.{Ty}
use Rattle.ess_semantics.specs.OperatorTypes.{member_ty}
use Rattle.ess_semantics.specs.Typing.{type_of}
use Rattle.ess_rules_laws.specs.Listings.{Alternative}
use Rattle.ess_rules_laws.specs.ContainerListings.{made_listing}
use Rattle.ess_refine_types_laws.specs.TypeNames.{IsUntyped}
use Rattle.ess_listing_marks_laws.specs.ListingsMarked.{EachAlike}
use Rattle.ess_alike_laws.specs.AlikeListings.{AllOfType}

-- The items of a literal are of one type.
abbrev pub ItemsAlike : Names Ty → Ty → Ex → Type 0
ItemsAlike g m (node_ex false function_literal es) = AllOfType g m es
ItemsAlike g m (node_ex false partition_literal es) = AllOfType g m es
ItemsAlike g m (fun1 false Fun.ToSet (node_ex false matrix_literal es)) = AllOfType g m es
ItemsAlike g m (fun1 false Fun.ToSet (node_ex false mset_literal es)) = AllOfType g m es
ItemsAlike g m (matrix_ex es d) = AllOfType g m es
ItemsAlike g m e = Unit {0}

-- So each alternative that such a term with members offers has items of their type; the name that it binds is new.
abbrev pub MadeListingsAreAlike : Type 0
MadeListingsAreAlike = (g : Names Ty) (x y : Text) (t : Ex) (l : List Alternative) → made_listing g x y t ≡ Some l → IsUntyped x t →
    (m : Ty) →
    and_then (type_of t g) member_ty ≡ Some m → ItemsAlike g m t → EachAlike g t l
