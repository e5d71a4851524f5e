-- That no operator on containers and no source is without a rule: of each operator that looks into a container some rule fires,
-- by the types of its operands, and each source offers a listing unless it is left to what its kind or a lookup offers.
use Rattle.std.specs.Prelude.{◌≡◌, Bool, true, false, ◌&&◌, ◌||◌, not, List, Option, Some, None, IsTrue, is_some}
use Rattle.ess_semantics.specs.declared.words.Op1.{Op1}
use Rattle.ess_semantics.specs.declared.words.Op2.{Op2}
use Rattle.ess_semantics.specs.declared.words.Fun.{Fun}
use Rattle.ess_semantics.specs.Values.{Text, a_tuple, a_matrix, a_set, a_mset, a_function, a_relation, a_partition, a_record}
use Rattle.ess_semantics.specs.Names.{Names}
use Rattle.ess_semantics.specs.Trees.{word, is_truth_op, index, application, Ex, Exs, name_ex, node_ex, seen_ex, ex1, ex2, fun1, no_exs, more_exs, Dom}
use Rattle.ess_semantics.specs.Types.{Ty, any_ty, compound, compound2}
use Rattle.ess_semantics.specs.OperatorTypes.{member_ty}
use Rattle.ess_semantics.specs.Typing.{type_of}
use Rattle.ess_rules_laws.specs.FoldRules.{fold_term, is_fold, is_laid_open}
use Rattle.ess_rules_laws.specs.MembershipRules.{member_term}
use Rattle.ess_rules_laws.specs.InclusionRules.{unequal, included_turned, included_strictly, included_often, equal_members, equal_often, equal_pairs}
use Rattle.ess_rules_laws.specs.ComponentRules.{are_fields, equal_components, equal_fields}
use Rattle.ess_rules_laws.specs.SizeRules.{size_term, frequency_term, together_term}
use Rattle.ess_rules_laws.specs.PartitionRules.{equal_parts}
use Rattle.ess_rules_laws.specs.MatrixRules.{equal_items}
use Rattle.ess_rules_laws.specs.ListRules.{is_of_list, list_term, is_lex, lex_both}
use Rattle.ess_rules_laws.specs.Listings.{Alternative, is_strict, listing}
use Rattle.ess_rules_laws.specs.ContainerListings.{made_listing, range_as_set}

-- ---- operators

-- A rule fires at the root; g are the types of names, x is a new name and d an index domain.
module _ (g : Names Ty) (x : Text) (d : Dom) where
  pub data Fires : Ex → Type 0 where
    by_unequal : {e f : Ex} → unequal e ≡ Some f → Fires e
    by_turned : {e f : Ex} → included_turned e ≡ Some f → Fires e
    by_strictly : {e f : Ex} → included_strictly g x e ≡ Some f → Fires e
    by_often : {e f : Ex} → included_often x e ≡ Some f → Fires e
    by_member : {e f : Ex} → member_term x e ≡ Some f → Fires e
    by_size : {e f : Ex} → size_term g x e ≡ Some f → Fires e
    by_frequency : {e f : Ex} → frequency_term x e ≡ Some f → Fires e
    by_together : {e f : Ex} → together_term x e ≡ Some f → Fires e
    by_fold : {e f : Ex} → fold_term x e ≡ Some f → Fires e
    by_list : {e f : Ex} → list_term x e ≡ Some f → Fires e
    by_lists : {e f : Ex} → lex_both x e ≡ Some f → Fires e
    by_components : {e f : Ex} → equal_components g x e ≡ Some f → Fires e
    by_fields : {e f : Ex} → equal_fields g x e ≡ Some f → Fires e
    by_sets : {e f : Ex} → equal_members g x e ≡ Some f → Fires e
    by_msets : {e f : Ex} → equal_often g x e ≡ Some f → Fires e
    by_functions : {e f : Ex} → equal_pairs g x e ≡ Some f → Fires e
    by_partitions : {e f : Ex} → equal_parts g x e ≡ Some f → Fires e
    by_matrices : {e f : Ex} → equal_items d g x e ≡ Some f → Fires e

-- Whether the type is of compound values: of matrices by index and item, of records with fields that differ.
abbrev pub is_parted : Option Ty → Bool
is_parted (Some (compound a_tuple ts)) = true
is_parted (Some (compound (a_record fs) ts)) = are_fields fs ts ts
is_parted (Some (compound2 a_matrix t u)) = true
is_parted (Some (compound a_set ts)) = true
is_parted (Some (compound a_mset ts)) = true
is_parted (Some (compound a_function ts)) = true
is_parted (Some (compound a_relation ts)) = true
is_parted (Some (compound a_partition ts)) = true
is_parted t = false

-- Whether the operator on these two looks into containers.
abbrev pub looks_into : Names Ty → Op2 → Ex → Ex → Bool
looks_into g Op2.Eq a b = is_parted (type_of a g) && is_parted (type_of b g)
looks_into g Op2.Ne a b = is_parted (type_of a g) && is_parted (type_of b g)
looks_into g Op2.Subset a b = is_parted (type_of a g) && is_parted (type_of b g)
looks_into g Op2.SubsetEq a b = true
looks_into g Op2.Supset a b = true
looks_into g Op2.SupsetEq a b = true
looks_into g Op2.Member a b = true
looks_into g o a b = is_lex o && (not (is_laid_open a) || not (is_laid_open b))

-- Whether the root looks into a container: a comparison of compound values, an inclusion, `in`, a size, `freq`, `together`, or a
-- word or sign of lists on a term that isn't laid open.
abbrev pub is_abstract : Names Ty → Ex → Bool
is_abstract g (ex2 true o a b) = looks_into g o a b
is_abstract g (ex1 false Op1.Bar a) = is_parted (type_of a g)
is_abstract g (node_ex false (word Fun.Freq) (more_exs m (more_exs a no_exs))) = true
is_abstract g (node_ex true (word Fun.Together) (more_exs s (more_exs p no_exs))) = true
is_abstract g (fun1 m f l) = (is_fold f || is_of_list f) && not (is_laid_open l)
is_abstract g e = false

-- So some rule fires at each of these that has a type.
abbrev pub OperatorsHaveRules : Type 0
OperatorsHaveRules = (g : Names Ty) (x : Text) (d : Dom) (e : Ex) → is_abstract g e ≡ true → IsTrue (is_some (type_of e g)) → Fires g x d e

-- ---- sources

-- Whether the members of the source are left to a kind, to a lookup, or to what binds the name: a view, a name, an index, an
-- application, `image`, `party`, and `toSet` of what has repeats.
abbrev pub is_left : Names Ty → Ex → Bool
is_left g (name_ex a) = true
is_left g (seen_ex r d ns js) = true
is_left g (node_ex b (index qs) es) = true
is_left g (node_ex b application es) = true
is_left g (node_ex b (word Fun.Image) es) = true
is_left g (node_ex b (word Fun.Party) es) = true
is_left g (fun1 b Fun.ToSet s) = not (is_strict (type_of s g))
is_left g e = false

-- The source offers a listing, is written as a set that does, or is left.
pub data HasMembers (g : Names Ty) (x y : Text) (e : Ex) : Type 0 where
  by_listing : (l : List Alternative) → listing g x e ≡ Some l → HasMembers g x y e
  by_made : (l : List Alternative) → made_listing g x y e ≡ Some l → HasMembers g x y e
  by_results : (f : Ex) → range_as_set g x e ≡ Some f → HasMembers g x y e
  is_another : is_left g e ≡ true → HasMembers g x y e

-- Whether there is a type other than that of the members of an empty literal. A term of that type never has a value.
abbrev pub is_told : Option Ty → Bool
is_told None = false
is_told (Some any_ty) = false
is_told (Some t) = true

-- Whether each operand has such a type.
abbrev pub are_told : Names Ty → Exs → Bool
are_told g no_exs = true
are_told g (more_exs e es) = is_told (type_of e g) && are_told g es

-- Whether the root isn't Boolean, and its operands have such types.
abbrev pub is_plain_source : Names Ty → Ex → Bool
is_plain_source g (node_ex b op es) = not b && not (is_truth_op op) && are_told g es
is_plain_source g e = true

-- Whether the type is one whose values have members.
abbrev pub has_members : Option Ty → Bool
has_members None = false
has_members (Some any_ty) = false
has_members (Some t) = is_some (member_ty t)

-- So each term whose type has members has a listing, or is left.
abbrev pub SourcesHaveListings : Type 0
SourcesHaveListings = (g : Names Ty) (x y : Text) (e : Ex) → has_members (type_of e g) ≡ true → is_plain_source g e ≡ true →
    HasMembers g x y e
