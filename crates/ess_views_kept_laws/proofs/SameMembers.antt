-- Values that stand for others with the same members: a relation as a set, a function as a relation, a partition as a set.
use Rattle.std.proofs.Common.{◌≡◌, refl, sym, ap, ◌∙◌, Bool, true, false, List, Some}
use Rattle.ess_semantics.specs.Lists.{when}
use Rattle.ess_semantics.specs.Values.{a_set, a_relation, a_function, a_partition, Kind, Value, Values, node, to_list, of_list, items_of, itself}
use Rattle.ess_semantics.specs.Collections.{rises, sorted_once}
use Rattle.ess_semantics.specs.Domains.{Attribute, Domain, Domains, sets, relations}
use Rattle.ess_semantics.specs.Membership.{member}
use Rattle.ess_semantics.specs.Sizes.{child_set, child_relation, child_parts}
use Rattle.ess_semantics.specs.FunctionLayers.{function_from}
use Rattle.ess_semantics.specs.RelationLayers.{relation_from}
use Rattle.ess_semantics.specs.PartitionLayers.{partition_from}
use Rattle.ess_semantics.proofs.Tests.{and-left}
use Rattle.ess_semantics.proofs.Orders.{of_list-to_list, to_list-of_list}
use Rattle.ess_semantics.proofs.Sorting.{sorted_once-itself}

no : {A : Type 0} → false ≡ true → A
no h = cc

-- Two values with the same members, which rise.
pub record SameMembers (w v : Value) : Type 0 where
  pub kind : Kind
  pub child_kind : Kind
  pub members : List Value
  pub whole : w ≡ node kind (of_list members)
  pub part : v ≡ node child_kind (of_list members)
  pub whole_items : items_of w ≡ members
  pub part_items : items_of v ≡ members
  pub rising : rises itself members ≡ true

abbrev is_sets : Domain → Bool
is_sets (sets ks d) = true
is_sets d = false

abbrev is_relations : Domain → Bool
is_relations (relations ks ds) = true
is_relations d = false

set-form : (d : Domain) (v : Value) → is_sets d ≡ true → member d v ≡ true →
    (xs : Values) × (v ≡ node a_set xs) × (rises itself (to_list xs) ≡ true)
set-form (sets ks d) (node a_set xs) s m = (xs, refl, and-left _ _ (and-left _ _ m))
set-form (sets ks d) _ s m = cc
set-form _ v s m = no s

relation-form : (d : Domain) (v : Value) → is_relations d ≡ true → member d v ≡ true →
    (xs : Values) × (v ≡ node a_relation xs) × (rises itself (to_list xs) ≡ true)
relation-form (relations ks ds) (node a_relation xs) s m = (xs, refl, and-left _ _ (and-left _ _ m))
relation-form (relations ks ds) _ s m = cc
relation-form _ v s m = no s

when-there : (b : Bool) (x w : Value) → when b x ≡ Some w → x ≡ w
when-there true x w q = cc
when-there false x w q = cc

-- A relation as the set of its tuples.
pub relation-turns : (ks : List Attribute) (ds : Domains) (v w : Value) → member (child_set ks ds) v ≡ true → relation_from v ≡ Some w →
    SameMembers w v
relation-turns ks ds v w m q = let s = set-form (child_set ks ds) v refl m in
    let e : node a_relation s.0 ≡ w = let z : Some (node a_relation s.0) ≡ Some w = sym (ap relation_from s.1) ∙ q in cc in record {
      kind = a_relation;
      child_kind = a_set;
      members = to_list s.0;
      whole = sym e ∙ ap (node a_relation) (sym (of_list-to_list s.0));
      part = s.1 ∙ ap (node a_set) (sym (of_list-to_list s.0));
      whole_items = ap items_of (sym e);
      part_items = ap items_of s.1;
      rising = s.2;
    }

-- A function as the relation of its pairs.
pub function-turns : (ks : List Attribute) (d c : Domain) (v w : Value) → member (child_relation ks d c) v ≡ true →
    function_from v ≡ Some w → SameMembers w v
function-turns ks d c v w m q = let s = relation-form (child_relation ks d c) v refl m in
    let e : node a_function (of_list (sorted_once (to_list s.0))) ≡ w = when-there _ _ w (sym (ap function_from s.1) ∙ q) in
    let f : node a_function (of_list (to_list s.0)) ≡ w =
    ap (λ l. node a_function (of_list l)) (sym (sorted_once-itself (to_list s.0) s.2)) ∙ e in record {
      kind = a_function;
      child_kind = a_relation;
      members = to_list s.0;
      whole = sym f;
      part = s.1 ∙ ap (node a_relation) (sym (of_list-to_list s.0));
      whole_items = ap items_of (sym f) ∙ to_list-of_list (to_list s.0);
      part_items = ap items_of s.1;
      rising = s.2;
    }

-- A partition as the set of its parts.
pub partition-turns : (ks : List Attribute) (d : Domain) (v w : Value) → member (child_parts ks d) v ≡ true → partition_from v ≡ Some w →
    SameMembers w v
partition-turns ks d v w m q = let s = set-form (child_parts ks d) v refl m in
    let e : node a_partition (of_list (sorted_once (to_list s.0))) ≡ w = when-there _ _ w (sym (ap partition_from s.1) ∙ q) in
    let f : node a_partition (of_list (to_list s.0)) ≡ w =
    ap (λ l. node a_partition (of_list l)) (sym (sorted_once-itself (to_list s.0) s.2)) ∙ e in record {
      kind = a_partition;
      child_kind = a_set;
      members = to_list s.0;
      whole = sym f;
      part = s.1 ∙ ap (node a_set) (sym (of_list-to_list s.0));
      whole_items = ap items_of (sym f) ∙ to_list-of_list (to_list s.0);
      part_items = ap items_of s.1;
      rising = s.2;
    }
