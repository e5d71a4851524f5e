-- Functions that are kept as relations, relations that are kept as sets, and partitions, of the forms of their domains.
use Rattle.std.proofs.Common.{◌≡◌, refl, sym, ap, ◌∙◌, subst, Bool, true, false, ◌&&◌, not, if◌then◌else◌, List, [], ◌∷◌, map, ℤ, pos, negsuc, Option, Some, None}
use Rattle.std.specs.List.{list_all}
use Rattle.ess_semantics.specs.Lists.{when}
use Rattle.ess_semantics.specs.Order.{same_int}
use Rattle.ess_semantics.specs.Values.{Value, Values, number, truth, item, node, nil, cons, a_tuple, a_record, a_matrix, a_set, a_mset, a_function, a_relation, a_partition, of_list, to_list}
use Rattle.ess_semantics.specs.Collections.{sorted_once, set_of, has_double_argument, function_of, has_empty_part, has_overlap, partition_of}
use Rattle.ess_semantics.specs.Domains.{Domain, Domains, tuples, sets, functions, relations, partitions, no_domains, more_domains, member_list}
use Rattle.ess_semantics.specs.Layers.{chosen}
use Rattle.ess_semantics.specs.Numbers.{one_to}
use Rattle.ess_semantics.specs.FunctionLayers.{function_from}
use Rattle.ess_semantics.specs.RelationLayers.{relation_from}
use Rattle.ess_semantics.specs.PartitionLayers.{members_numbered, is_part_number, partition_from_numbers, partition_from}
use Rattle.ess_translate_positions_laws.specs.Forms.{is_pair_of, is_tuple_of, is_set_of, has_form, have_forms}
use Rattle.ess_translate_positions_laws.proofs.ListedForms.{first-of, second-of, both-hold, listed-form}
use Rattle.ess_translate_positions_laws.proofs.BuiltForms.{when-there, chosen-form, set-form}

-- what follows from each follows from all
pub all-follow : {A : Type 0} (f g : A → Bool) → ((x : A) → f x ≡ true → g x ≡ true) → (xs : List A) → list_all f xs ≡ true → list_all g xs ≡ true
all-follow f g step [] h = refl
all-follow f g step (x ∷ xs) h =
    both-hold (g x) (list_all g xs) (step x (first-of (f x) (list_all f xs) h)) (all-follow f g step xs (second-of (f x) (list_all f xs) h))

-- ---- functions

-- a tuple of two is a pair
two-is-pair : (d c : Domain) (v : Value) → is_tuple_of (have_forms (more_domains d (more_domains c no_domains))) v ≡ true
    → is_pair_of (has_form d) (has_form c) v ≡ true
two-is-pair d c (number n) h = h
two-is-pair d c (truth b) h = h
two-is-pair d c (item t k) h = h
two-is-pair d c (node a_tuple nil) h = h
two-is-pair d c (node a_tuple (cons a nil)) h = let k = second-of (has_form d a) false h in k
two-is-pair d c (node a_tuple (cons a (cons b nil))) h =
    both-hold (has_form d a) (has_form c b) (first-of (has_form d a) (has_form c b && true) h)
    (first-of (has_form c b) true (second-of (has_form d a) (has_form c b && true) h))
two-is-pair d c (node a_tuple (cons a (cons b (cons e es)))) h =
    let k : false ≡ true = second-of (has_form c b) false (second-of (has_form d a) (has_form c b && false) h) in cc
two-is-pair d c (node (a_record fs) vs) h = h
two-is-pair d c (node a_matrix vs) h = h
two-is-pair d c (node a_set vs) h = h
two-is-pair d c (node a_mset vs) h = h
two-is-pair d c (node a_function vs) h = h
two-is-pair d c (node a_relation vs) h = h
two-is-pair d c (node a_partition vs) h = h

abbrev Pairs : Domain → Domain → Domains
Pairs d c = more_domains d (more_domains c no_domains)

-- the function of a relation's pairs
pub function-from-form : (ks ls : _) (d c : Domain) (w v : Value) → has_form (relations ks (Pairs d c)) w ≡ true → function_from w ≡ Some v
    → has_form (functions ls d c) v ≡ true
function-from-form ks ls d c (number n) v h e = let k : None ≡ Some v = e in cc
function-from-form ks ls d c (truth b) v h e = let k : None ≡ Some v = e in cc
function-from-form ks ls d c (item t n) v h e = let k : None ≡ Some v = e in cc
function-from-form ks ls d c (node a_tuple ps) v h e = let k : None ≡ Some v = e in cc
function-from-form ks ls d c (node (a_record fs) ps) v h e = let k : None ≡ Some v = e in cc
function-from-form ks ls d c (node a_matrix ps) v h e = let k : None ≡ Some v = e in cc
function-from-form ks ls d c (node a_set ps) v h e = let k : None ≡ Some v = e in cc
function-from-form ks ls d c (node a_mset ps) v h e = let k : None ≡ Some v = e in cc
function-from-form ks ls d c (node a_function ps) v h e = let k : None ≡ Some v = e in cc
function-from-form ks ls d c (node a_partition ps) v h e = let k : None ≡ Some v = e in cc
function-from-form ks ls d c (node a_relation ps) v h e =
    subst (λ z. has_form (functions ls d c) z ≡ true)
    (when-there (not (has_double_argument (to_list ps))) (node a_function (of_list (sorted_once (to_list ps)))) v e)
    (set-form (is_pair_of (has_form d) (has_form c)) (to_list ps)
    (all-follow (is_tuple_of (have_forms (Pairs d c))) (is_pair_of (has_form d) (has_form c)) (two-is-pair d c) (to_list ps) h))

-- ---- relations

-- a value of a domain of tuples is a tuple
tuple-form : (ds : Domains) (v : Value) → has_form (tuples ds) v ≡ true → is_tuple_of (have_forms ds) v ≡ true
tuple-form ds (number n) h = h
tuple-form ds (truth b) h = h
tuple-form ds (item t k) h = h
tuple-form ds (node a_tuple vs) h = h
tuple-form ds (node (a_record fs) vs) h = h
tuple-form ds (node a_matrix vs) h = h
tuple-form ds (node a_set vs) h = h
tuple-form ds (node a_mset vs) h = h
tuple-form ds (node a_function vs) h = h
tuple-form ds (node a_relation vs) h = h
tuple-form ds (node a_partition vs) h = h

pub chosen-tuples : (ds : Domains) (F : Value → Option ℤ) (xs : List Value) → chosen (member_list (tuples ds)) F ≡ Some xs
    → list_all (is_tuple_of (have_forms ds)) (to_list (of_list xs)) ≡ true
chosen-tuples ds F xs e =
    all-follow (has_form (tuples ds)) (is_tuple_of (have_forms ds)) (tuple-form ds) (to_list (of_list xs)) (chosen-form (tuples ds) F xs e)

-- the relation of a set's tuples
pub relation-from-form : (ks ls : _) (ds : Domains) (w v : Value) → has_form (sets ks (tuples ds)) w ≡ true → relation_from w ≡ Some v
    → has_form (relations ls ds) v ≡ true
relation-from-form ks ls ds (number n) v h e = let k : None ≡ Some v = e in cc
relation-from-form ks ls ds (truth b) v h e = let k : None ≡ Some v = e in cc
relation-from-form ks ls ds (item t n) v h e = let k : None ≡ Some v = e in cc
relation-from-form ks ls ds (node a_tuple ps) v h e = let k : None ≡ Some v = e in cc
relation-from-form ks ls ds (node (a_record fs) ps) v h e = let k : None ≡ Some v = e in cc
relation-from-form ks ls ds (node a_matrix ps) v h e = let k : None ≡ Some v = e in cc
relation-from-form ks ls ds (node a_mset ps) v h e = let k : None ≡ Some v = e in cc
relation-from-form ks ls ds (node a_function ps) v h e = let k : None ≡ Some v = e in cc
relation-from-form ks ls ds (node a_relation ps) v h e = let k : None ≡ Some v = e in cc
relation-from-form ks ls ds (node a_partition ps) v h e = let k : None ≡ Some v = e in cc
relation-from-form ks ls ds (node a_set ts) v h e =
    subst (λ z. has_form (relations ls ds) z ≡ true) (some e)
    (all-follow (has_form (tuples ds)) (is_tuple_of (have_forms ds)) (tuple-form ds) (to_list ts) h)
  where
    some : Some (node a_relation ts) ≡ Some v → node a_relation ts ≡ v
    some k = cc

-- ---- partitions

-- a value of a domain of sets is a set
sets-form : (ks : _) (d : Domain) (v : Value) → has_form (sets ks d) v ≡ true → is_set_of (has_form d) v ≡ true
sets-form ks d (number n) h = h
sets-form ks d (truth b) h = h
sets-form ks d (item t k) h = h
sets-form ks d (node a_tuple vs) h = h
sets-form ks d (node (a_record fs) vs) h = h
sets-form ks d (node a_matrix vs) h = h
sets-form ks d (node a_set vs) h = h
sets-form ks d (node a_mset vs) h = h
sets-form ks d (node a_function vs) h = h
sets-form ks d (node a_relation vs) h = h
sets-form ks d (node a_partition vs) h = h

-- the partition with these parts
partition-form : (ls : _) (d : Domain) (parts : List Value) (v : Value) → list_all (is_set_of (has_form d)) parts ≡ true
    → partition_of parts ≡ Some v → has_form (partitions ls d) v ≡ true
partition-form ls d parts v h e =
    subst (λ z. has_form (partitions ls d) z ≡ true)
    (when-there (not (has_empty_part parts) && not (has_overlap parts)) (node a_partition (of_list (sorted_once parts))) v e)
    (set-form (is_set_of (has_form d)) parts h)

-- the partition whose parts are a set of sets
pub partition-from-form : (ks ms ls : _) (d : Domain) (w v : Value) → has_form (sets ks (sets ms d)) w ≡ true → partition_from w ≡ Some v
    → has_form (partitions ls d) v ≡ true
partition-from-form ks ms ls d (number n) v h e = let k : None ≡ Some v = e in cc
partition-from-form ks ms ls d (truth b) v h e = let k : None ≡ Some v = e in cc
partition-from-form ks ms ls d (item t n) v h e = let k : None ≡ Some v = e in cc
partition-from-form ks ms ls d (node a_tuple ps) v h e = let k : None ≡ Some v = e in cc
partition-from-form ks ms ls d (node (a_record fs) ps) v h e = let k : None ≡ Some v = e in cc
partition-from-form ks ms ls d (node a_matrix ps) v h e = let k : None ≡ Some v = e in cc
partition-from-form ks ms ls d (node a_mset ps) v h e = let k : None ≡ Some v = e in cc
partition-from-form ks ms ls d (node a_function ps) v h e = let k : None ≡ Some v = e in cc
partition-from-form ks ms ls d (node a_relation ps) v h e = let k : None ≡ Some v = e in cc
partition-from-form ks ms ls d (node a_partition ps) v h e = let k : None ≡ Some v = e in cc
partition-from-form ks ms ls d (node a_set ps) v h e =
    partition-form ls d (to_list ps) v (all-follow (has_form (sets ms d)) (is_set_of (has_form d)) (sets-form ms d) (to_list ps) h) e

-- the members of a part
one-numbered : (f : Value → Bool) (x : Value) (zs : List Value) (b : Bool) → f x ≡ true → list_all f zs ≡ true
    → list_all f (if b then x ∷ zs else zs) ≡ true
one-numbered f x zs true h k = both-hold (f x) (list_all f zs) h k
one-numbered f x zs false h k = k

numbered-hold : (f : Value → Bool) (xs : List Value) (ws : List ℤ) (k : ℤ) → list_all f xs ≡ true → list_all f (members_numbered xs ws k) ≡ true
numbered-hold f [] [] k h = refl
numbered-hold f [] (w ∷ ws) k h = refl
numbered-hold f (x ∷ xs) [] k h = refl
numbered-hold f (x ∷ xs) (w ∷ ws) k h =
    one-numbered f x (members_numbered xs ws k) (same_int w k) (first-of (f x) (list_all f xs) h)
    (numbered-hold f xs ws k (second-of (f x) (list_all f xs) h))

numbered-parts : (d : Domain) (ws ns : List ℤ)
    → list_all (is_set_of (has_form d)) (map (λ k. set_of (members_numbered (member_list d) ws k)) ns) ≡ true
numbered-parts d ws [] = refl
numbered-parts d ws (n ∷ ns) =
    both-hold (list_all (has_form d) (to_list (of_list (sorted_once (members_numbered (member_list d) ws n)))))
    (list_all (is_set_of (has_form d)) (map (λ k. set_of (members_numbered (member_list d) ws k)) ns))
    (set-form (has_form d) (members_numbered (member_list d) ws n) (numbered-hold (has_form d) (member_list d) ws n (listed-form d)))
    (numbered-parts d ws ns)

-- the partition by the numbers of the members' parts
pub numbers-form : (ls : _) (d : Domain) (ws : List ℤ) (n : ℤ) (v : Value) → partition_from_numbers (member_list d) ws n ≡ Some v
    → has_form (partitions ls d) v ≡ true
numbers-form ls d ws (negsuc n) v e = let k : None ≡ Some v = e in cc
numbers-form ls d ws (pos n) v e = go (list_all (is_part_number n) ws) e
  where
    go : (b : Bool) → (if b then partition_of (map (λ k. set_of (members_numbered (member_list d) ws k)) (one_to n)) else None) ≡ Some v
        → has_form (partitions ls d) v ≡ true
    go true k = partition-form ls d (map (λ j. set_of (members_numbered (member_list d) ws j)) (one_to n)) v (numbered-parts d ws (one_to n)) k
    go false k = let c : None ≡ Some v = k in cc
