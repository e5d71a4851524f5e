-- What each kind builds of values of its children's forms has the form of its domain.
use Rattle.std.proofs.Common.{◌≡◌, refl, sym, ap, ◌∙◌, subst, ℕ, zero, suc, Bool, true, false, ◌&&◌, if◌then◌else◌, List, [], ◌∷◌, ◌++◌, map, take, drop, replicate, length, ℤ, pos, negsuc, Option, Some, None, option_map}
use Rattle.std.specs.List.{list_all}
use Rattle.ess_semantics.specs.Lists.{and_then, when, each_of, only_of, append_all}
use Rattle.ess_semantics.specs.Values.{Value, Values, number, truth, item, node, a_tuple, a_record, a_matrix, a_set, a_mset, a_function, a_relation, a_partition, of_list, to_list, matrix, pair, tuple, cons, nil}
use Rattle.ess_semantics.specs.Collections.{sorted, sorted_once, set_of, mset_of, function_of, partition_of}
use Rattle.ess_semantics.specs.Domains.{Domain, Domains, booleans, integers, named, tuples, records, matrices, sets, msets, functions, relations, partitions, no_domains, more_domains, domain_list, member_list}
use Rattle.ess_semantics.specs.Atoms.{IsAtom}
use Rattle.ess_semantics.specs.Tables.{truth_of}
use Rattle.ess_semantics.specs.Layers.{chosen, repeated, each_repeated, first_of_each}
use Rattle.ess_semantics.specs.ScalarLayers.{in_lists_of, count_of_places, nested_of}
use Rattle.ess_semantics.specs.FunctionLayers.{with_arguments, function_from}
use Rattle.ess_semantics.specs.RelationLayers.{relation_from}
use Rattle.ess_semantics.specs.PartitionLayers.{members_numbered, is_part_number, partition_from_numbers, partition_from}
use Rattle.ess_semantics.proofs.Sorting.{all-sorted_once}
use Rattle.ess_semantics.proofs.Multisets.{sorted-all}
use Rattle.ess_repr_laws.specs.Rooms.{HasDummy}
use Rattle.ess_translate_positions_laws.specs.Forms.{is_pair_of, is_tuple_of, is_set_of, has_form, have_forms, has_matrix_form}
use Rattle.ess_translate_positions_laws.proofs.ListedForms.{all-hold, all-appended, first-of, second-of, both-hold, listed-form}

-- ---- what is there

-- where the next answer is there, so is the first one
pub then-there : {A B : Type 0} (o : Option A) (f : A → Option B) (y : B) → and_then o f ≡ Some y → (x : A) × (o ≡ Some x) × (f x ≡ Some y)
then-there None f y h = let c : None ≡ Some y = h in cc
then-there (Some x) f y h = (x, refl, h)

pub mapped-there : {A B : Type 0} (o : Option A) (f : A → B) (y : B) → option_map f o ≡ Some y → (x : A) × (o ≡ Some x) × (f x ≡ y)
mapped-there None f y h = let c : None ≡ Some y = h in cc
mapped-there (Some x) f y h = (x, refl, let c : Some (f x) ≡ Some y = h in cc)

pub when-there : {A : Type 0} (b : Bool) (x y : A) → when b x ≡ Some y → x ≡ y
when-there true x y h = let c : Some x ≡ Some y = h in cc
when-there false x y h = let c : None ≡ Some y = h in cc

to-of : (vs : List Value) → to_list (of_list vs) ≡ vs
to-of [] = refl
to-of (v ∷ vs) = ap (λ l. v ∷ l) (to-of vs)

-- a list as the parts of a value
parts-hold : (f : Value → Bool) (vs : List Value) → list_all f vs ≡ true → list_all f (to_list (of_list vs)) ≡ true
parts-hold f vs h = ap (list_all f) (to-of vs) ∙ h

sorted-parts : (f : Value → Bool) (vs : List Value) → list_all f vs ≡ true → list_all f (to_list (of_list (sorted_once vs))) ≡ true
sorted-parts f vs h = parts-hold f (sorted_once vs) (all-sorted_once f vs ∙ h)

weakly-sorted-parts : (f : Value → Bool) (vs : List Value) → list_all f vs ≡ true → list_all f (to_list (of_list (sorted vs))) ≡ true
weakly-sorted-parts f vs h = parts-hold f (sorted vs) (sorted-all f vs ∙ h)

-- ---- lists that are chosen and repeated

chosen-holds : (f : Value → Bool) (xs : List Value) (F : Value → Option ℤ) (ys : List Value) → list_all f xs ≡ true → chosen xs F ≡ Some ys
    → list_all f ys ≡ true
chosen-holds f [] F ys h e = let c : Some [] ≡ Some ys = e in subst (λ l. list_all f l ≡ true) (some c) refl
  where
    some : Some [] ≡ Some ys → [] ≡ ys
    some c = cc
chosen-holds f (x ∷ xs) F ys h e =
    let p = then-there (and_then (F x) truth_of) (λ b. option_map (λ zs. if b then x ∷ zs else zs) (chosen xs F)) ys e in
    let q = mapped-there (chosen xs F) (λ zs. if p.0 then x ∷ zs else zs) ys p.2 in
    subst (λ l. list_all f l ≡ true) q.2 (go p.0 q.0 (chosen-holds f xs F q.0 (second-of (f x) (list_all f xs) h) q.1))
  where
    go : (b : Bool) (zs : List Value) → list_all f zs ≡ true → list_all f (if b then x ∷ zs else zs) ≡ true
    go true zs k = both-hold (f x) (list_all f zs) (first-of (f x) (list_all f xs) h) k
    go false zs k = k

replicate-holds : (f : Value → Bool) (n : ℕ) (v : Value) → f v ≡ true → list_all f (replicate n v) ≡ true
replicate-holds f zero v h = refl
replicate-holds f (suc n) v h = both-hold (f v) (list_all f (replicate n v)) h (replicate-holds f n v h)

each-repeated-holds : (f : Value → Bool) (ns : List ℕ) (vs : List Value) → list_all f vs ≡ true → list_all f (each_repeated ns vs) ≡ true
each-repeated-holds f [] [] h = refl
each-repeated-holds f [] (v ∷ vs) h = refl
each-repeated-holds f (n ∷ ns) [] h = refl
each-repeated-holds f (n ∷ ns) (v ∷ vs) h =
    all-appended f (replicate n v) (each_repeated ns vs) (replicate-holds f n v (first-of (f v) (list_all f vs) h))
    (each-repeated-holds f ns vs (second-of (f v) (list_all f vs) h))

repeated-holds : (f : Value → Bool) (ns : List ℕ) (vs : List Value) → list_all f vs ≡ true → list_all f (repeated ns vs) ≡ true
repeated-holds f [] vs h = refl
repeated-holds f (zero ∷ ns) vs h = repeated-holds f ns vs h
repeated-holds f (suc n ∷ ns) [] h = refl
repeated-holds f (suc n ∷ ns) (v ∷ vs) h =
    all-appended f (replicate (suc n) v) (repeated ns vs) (replicate-holds f (suc n) v (first-of (f v) (list_all f vs) h))
    (repeated-holds f ns vs (second-of (f v) (list_all f vs) h))

-- ---- atoms, tuples, matrices

-- any value has the form of an atom
pub atom-form : (d : Domain) → IsAtom d → (v : Value) → has_form d v ≡ true
atom-form booleans a v = refl
atom-form (integers ss) a v = refl
atom-form (named t n) a v = refl
atom-form (tuples ds) a v = absurd a
atom-form (records fs ds) a v = absurd a
atom-form (matrices is d) a v = absurd a
atom-form (sets ks d) a v = absurd a
atom-form (msets ks d) a v = absurd a
atom-form (functions ks d c) a v = absurd a
atom-form (relations ks ds) a v = absurd a
atom-form (partitions ks d) a v = absurd a

-- and of a domain with a dummy
pub dummy-form : (d : Domain) → HasDummy d → (v : Value) → has_form d v ≡ true
dummy-form (integers ss) h v = refl
dummy-form (named t n) h v = refl
dummy-form booleans h v = refl
dummy-form (tuples ds) h v = absurd h
dummy-form (records fs ds) h v = absurd h
dummy-form (matrices is d) h v = absurd h
dummy-form (sets ks d) h v = absurd h
dummy-form (msets ks d) h v = absurd h
dummy-form (functions ks d c) h v = absurd h
dummy-form (relations ks ds) h v = absurd h
dummy-form (partitions ks d) h v = absurd h

-- Values of children: of each child as many as there are places, each of its domain's form.
abbrev pub Forms : ℕ → List Domain → List (List Value) → Type 0
Forms n [] [] = Unit {0}
Forms n (d ∷ ds) (vs ∷ vss) = (length vs ≡ n) × (list_all (has_form d) vs ≡ true) × Forms n ds vss
Forms n _ _ = ⊥

-- the components of a tuple
pub components-form : (ds : Domains) (vss : List (List Value)) → Forms 1 (domain_list ds) vss → have_forms ds (of_list (first_of_each vss)) ≡ true
components-form no_domains [] h = refl
components-form no_domains (vs ∷ vss) h = absurd h
components-form (more_domains d ds) [] h = absurd h
components-form (more_domains d ds) ([] ∷ vss) h = let c : 0 ≡ 1 = h.0 in cc
components-form (more_domains d ds) ((v ∷ vs) ∷ vss) h =
    both-hold (has_form d v) (have_forms ds (of_list (first_of_each vss))) (first-of (has_form d v) (list_all (has_form d) vs) h.1)
    (components-form ds vss h.2)

take-holds : (f : Value → Bool) (n : ℕ) (vs : List Value) → list_all f vs ≡ true → list_all f (take n vs) ≡ true
take-holds f zero vs h = refl
take-holds f (suc n) [] h = refl
take-holds f (suc n) (v ∷ vs) h =
    both-hold (f v) (list_all f (take n vs)) (first-of (f v) (list_all f vs) h) (take-holds f n vs (second-of (f v) (list_all f vs) h))

drop-holds : (f : Value → Bool) (n : ℕ) (vs : List Value) → list_all f vs ≡ true → list_all f (drop n vs) ≡ true
drop-holds f zero vs h = h
drop-holds f (suc n) [] h = refl
drop-holds f (suc n) (v ∷ vs) h = drop-holds f n vs (second-of (f v) (list_all f vs) h)

-- what holds of all holds of the only one
pub only-holds : (f : Value → Bool) (vs : List Value) (v : Value) → list_all f vs ≡ true → only_of vs ≡ Some v → f v ≡ true
only-holds f [] v h e = let c : None ≡ Some v = e in cc
only-holds f (x ∷ []) v h e = subst (λ z. f z ≡ true) (some e) (first-of (f x) true h)
  where
    some : Some x ≡ Some v → x ≡ v
    some c = cc
only-holds f (x ∷ y ∷ ys) v h e = let c : None ≡ Some v = e in cc

-- rows of elements that are so, where each row gives what is
rows-form : (g : List Value → Option Value) (f t : Value → Bool)
    → ((vs : List Value) (v : Value) → list_all f vs ≡ true → g vs ≡ Some v → t v ≡ true) → (k n : ℕ) (vs ys : List Value)
    → list_all f vs ≡ true → each_of (in_lists_of k n vs) g ≡ Some ys → list_all t ys ≡ true
rows-form g f t step zero n vs ys h e = subst (λ l. list_all t l ≡ true) (some e) refl
  where
    some : Some [] ≡ Some ys → [] ≡ ys
    some c = cc
rows-form g f t step (suc k) n vs ys h e =
    let p = then-there (g (take n vs)) (λ y. option_map (λ zs. y ∷ zs) (each_of (in_lists_of k n (drop n vs)) g)) ys e in
    let q = mapped-there (each_of (in_lists_of k n (drop n vs)) g) (λ zs. p.0 ∷ zs) ys p.2 in
    subst (λ l. list_all t l ≡ true) q.2
    (both-hold (t p.0) (list_all t q.0) (step (take n vs) p.0 (take-holds f n vs h) p.1)
    (rows-form g f t step k n (drop n vs) q.0 (drop-holds f n vs h) q.1))

-- a matrix of elements that are so
pub nested-form : (is : Domains) (f : Value → Bool) (vs : List Value) (v : Value) → list_all f vs ≡ true → nested_of is vs ≡ Some v
    → has_matrix_form is f v ≡ true
nested-form no_domains f vs v h e = only-holds f vs v h e
nested-form (more_domains i is) f vs v h e =
    let p = mapped-there (each_of (in_lists_of (length (member_list i)) (count_of_places is) vs) (nested_of is))
    (λ ys. matrix (of_list (member_list i)) (of_list ys)) v e in
    subst (λ z. has_matrix_form (more_domains i is) f z ≡ true) p.2
    (both-hold (list_all (has_form i) (to_list (of_list (member_list i)))) (list_all (has_matrix_form is f) (to_list (of_list p.0)))
    (parts-hold (has_form i) (member_list i) (listed-form i))
    (parts-hold (has_matrix_form is f) p.0 (rows-form (nested_of is) f (has_matrix_form is f) (nested-form is f)
    (length (member_list i)) (count_of_places is) vs p.0 h p.1)))

-- ---- sets and multisets

pub set-form : (f : Value → Bool) (vs : List Value) → list_all f vs ≡ true → list_all f (to_list (of_list (sorted_once vs))) ≡ true
set-form = sorted-parts

pub mset-form : (f : Value → Bool) (vs : List Value) → list_all f vs ≡ true → list_all f (to_list (of_list (sorted vs))) ≡ true
mset-form = weakly-sorted-parts

pub chosen-form : (d : Domain) (F : Value → Option ℤ) (xs : List Value) → chosen (member_list d) F ≡ Some xs
    → list_all (has_form d) (to_list (of_list xs)) ≡ true
chosen-form d F xs e = parts-hold (has_form d) xs (chosen-holds (has_form d) (member_list d) F xs (listed-form d) e)

pub counted-form : (d : Domain) (ns : List ℕ) → list_all (has_form d) (to_list (of_list (each_repeated ns (member_list d)))) ≡ true
counted-form d ns = parts-hold (has_form d) (each_repeated ns (member_list d)) (each-repeated-holds (has_form d) ns (member_list d) (listed-form d))

pub repeated-form : (d : Domain) (ns : List ℕ) (vs : List Value) → list_all (has_form d) vs ≡ true
    → list_all (has_form d) (to_list (of_list (sorted (repeated ns vs)))) ≡ true
repeated-form d ns vs h = weakly-sorted-parts (has_form d) (repeated ns vs) (repeated-holds (has_form d) ns vs h)

-- ---- functions

arguments-hold : (f g : Value → Bool) (xs vs : List Value) → list_all f xs ≡ true → list_all g vs ≡ true
    → list_all (is_pair_of f g) (with_arguments xs vs) ≡ true
arguments-hold f g [] [] h k = refl
arguments-hold f g [] (v ∷ vs) h k = refl
arguments-hold f g (x ∷ xs) [] h k = refl
arguments-hold f g (x ∷ xs) (v ∷ vs) h k =
    both-hold (f x && g v) (list_all (is_pair_of f g) (with_arguments xs vs))
    (both-hold (f x) (g v) (first-of (f x) (list_all f xs) h) (first-of (g v) (list_all g vs) k))
    (arguments-hold f g xs vs (second-of (f x) (list_all f xs) h) (second-of (g v) (list_all g vs) k))

pub total-form : (d c : Domain) (vs : List Value) → list_all (has_form c) vs ≡ true
    → list_all (is_pair_of (has_form d) (has_form c)) (to_list (of_list (with_arguments (member_list d) vs))) ≡ true
total-form d c vs h = parts-hold (is_pair_of (has_form d) (has_form c)) (with_arguments (member_list d) vs)
    (arguments-hold (has_form d) (has_form c) (member_list d) vs (listed-form d) h)

pub partial-form : (d c : Domain) (F : Value → Option ℤ) (xs vs : List Value) → chosen (member_list d) F ≡ Some xs → list_all (has_form c) vs ≡ true
    → list_all (is_pair_of (has_form d) (has_form c)) (to_list (of_list (with_arguments xs vs))) ≡ true
partial-form d c F xs vs e h = parts-hold (is_pair_of (has_form d) (has_form c)) (with_arguments xs vs)
    (arguments-hold (has_form d) (has_form c) xs vs (chosen-holds (has_form d) (member_list d) F xs (listed-form d) e) h)
