-- What rules of a Boolean operator between two operands make of a tree, from these.
use Rattle.std.proofs.Common.{◌≡◌, refl, true}
use Rattle.ess_semantics.specs.declared.words.Op2.{Op2}
use Rattle.ess_semantics.specs.Values.{Text}
use Rattle.ess_semantics.specs.Names.{Names}
use Rattle.ess_semantics.specs.Trees.{Ex, ex2}
use Rattle.ess_semantics.specs.Types.{Ty}
use Rattle.ess_rules_laws.specs.InclusionRules.{unequal, included_turned, included_strictly, included_members, included_often}
use Rattle.ess_rules_laws.specs.InclusionRules.{equal_members, equal_often, equal_pairs}
use Rattle.ess_rules_laws.specs.PartitionRules.{equal_parts}
use Rattle.ess_rules_laws.specs.ComponentRules.{equal_components, equal_fields}
use Rattle.ess_refine_laws.specs.AllRules.{compares_compound}
use Rattle.ess_rules_forms.specs.Forms.{truth_pair, of_pair, holds_of_pair}

-- `a != b`.
pub unequal_of_pair : (e : Ex) → unequal e ≡ of_pair unequal (truth_pair e)
unequal_of_pair (ex2 true Op2.Ne a b) = refl
unequal_of_pair (ex2 true o a b) = refl
unequal_of_pair e = refl

-- `a supsetEq b` and `a supset b`.
pub turned_of_pair : (e : Ex) → included_turned e ≡ of_pair included_turned (truth_pair e)
turned_of_pair (ex2 true Op2.SupsetEq a b) = refl
turned_of_pair (ex2 true Op2.Supset a b) = refl
turned_of_pair (ex2 true o a b) = refl
turned_of_pair e = refl

-- `a subset b`.
pub strictly_of_pair : (g : Names Ty) (x : Text) (e : Ex) → included_strictly g x e ≡ of_pair (included_strictly g x) (truth_pair e)
strictly_of_pair g x (ex2 true Op2.Subset a b) = refl
strictly_of_pair g x (ex2 true o a b) = refl
strictly_of_pair g x e = refl

-- `a subsetEq b` of sets and relations.
pub members_of_pair : (g : Names Ty) (x : Text) (e : Ex) → included_members g x e ≡ of_pair (included_members g x) (truth_pair e)
members_of_pair g x (ex2 true Op2.SubsetEq a b) = refl
members_of_pair g x (ex2 true o a b) = refl
members_of_pair g x e = refl

-- `a subsetEq b` of any containers.
pub often_of_pair : (x : Text) (e : Ex) → included_often x e ≡ of_pair (included_often x) (truth_pair e)
often_of_pair x (ex2 true Op2.SubsetEq a b) = refl
often_of_pair x (ex2 true o a b) = refl
often_of_pair x e = refl

-- `a = b` of sets and relations.
pub equal_members_of_pair : (g : Names Ty) (x : Text) (e : Ex) → equal_members g x e ≡ of_pair (equal_members g x) (truth_pair e)
equal_members_of_pair g x (ex2 true Op2.Eq a b) = refl
equal_members_of_pair g x (ex2 true o a b) = refl
equal_members_of_pair g x e = refl

-- `a = b` of multisets.
pub equal_often_of_pair : (g : Names Ty) (x : Text) (e : Ex) → equal_often g x e ≡ of_pair (equal_often g x) (truth_pair e)
equal_often_of_pair g x (ex2 true Op2.Eq a b) = refl
equal_often_of_pair g x (ex2 true o a b) = refl
equal_often_of_pair g x e = refl

-- `a = b` of functions.
pub equal_pairs_of_pair : (g : Names Ty) (x : Text) (e : Ex) → equal_pairs g x e ≡ of_pair (equal_pairs g x) (truth_pair e)
equal_pairs_of_pair g x (ex2 true Op2.Eq a b) = refl
equal_pairs_of_pair g x (ex2 true o a b) = refl
equal_pairs_of_pair g x e = refl

-- `a = b` of partitions.
pub equal_parts_of_pair : (g : Names Ty) (x : Text) (e : Ex) → equal_parts g x e ≡ of_pair (equal_parts g x) (truth_pair e)
equal_parts_of_pair g x (ex2 true Op2.Eq a b) = refl
equal_parts_of_pair g x (ex2 true o a b) = refl
equal_parts_of_pair g x e = refl

-- `a = b` of tuples.
pub components_of_pair : (g : Names Ty) (x : Text) (e : Ex) → equal_components g x e ≡ of_pair (equal_components g x) (truth_pair e)
components_of_pair g x (ex2 true Op2.Eq a b) = refl
components_of_pair g x (ex2 true o a b) = refl
components_of_pair g x e = refl

-- `a = b` of records.
pub fields_of_pair : (g : Names Ty) (x : Text) (e : Ex) → equal_fields g x e ≡ of_pair (equal_fields g x) (truth_pair e)
fields_of_pair g x (ex2 true Op2.Eq a b) = refl
fields_of_pair g x (ex2 true o a b) = refl
fields_of_pair g x e = refl

-- `a != b` of compound values.
pub compares_of_pair : (g : Names Ty) (e : Ex) → compares_compound g e ≡ holds_of_pair (compares_compound g) (truth_pair e)
compares_of_pair g (ex2 true Op2.Ne a b) = refl
compares_of_pair g (ex2 true o a b) = refl
compares_of_pair g e = refl
