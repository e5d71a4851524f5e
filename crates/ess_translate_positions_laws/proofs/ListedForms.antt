-- The listed members of a domain have its form.
use Rattle.std.proofs.Common.{◌≡◌, refl, sym, ap, ◌∙◌, Bool, true, false, ◌&&◌, List, [], ◌∷◌, ◌++◌, map, Option, Some, None, option_map}
use Rattle.std.specs.List.{list_all}
use Rattle.ess_semantics.specs.Lists.{and_then, all_some, list_or_none}
use Rattle.ess_semantics.specs.Values.{Value, Values, node, a_tuple, a_record, of_list, tuple}
use Rattle.ess_semantics.specs.Domains.{Domain, Domains, booleans, integers, named, tuples, records, matrices, sets, msets, functions, relations, partitions, no_domains, more_domains, add_heads, lists_of, members, members_of_each, member_list}
use Rattle.ess_translate_positions_laws.specs.Forms.{has_form, have_forms}

-- ---- lists

-- what holds of each value holds of a list
pub all-hold : {A : Type 0} (f : A → Bool) → ((x : A) → f x ≡ true) → (xs : List A) → list_all f xs ≡ true
all-hold f h [] = refl
all-hold f h (x ∷ xs) = ap (λ b. b && list_all f xs) (h x) ∙ all-hold f h xs

-- the first of a list, and the others
pub first-of : (a b : Bool) → (a && b) ≡ true → a ≡ true
first-of true b h = refl
first-of false b h = h

pub second-of : (a b : Bool) → (a && b) ≡ true → b ≡ true
second-of true b h = h
second-of false b h = let c : false ≡ true = h in cc

pub both-hold : (a b : Bool) → a ≡ true → b ≡ true → (a && b) ≡ true
both-hold true b h k = k
both-hold false b h k = h

-- what holds of two lists holds of both together
pub all-appended : {A : Type 0} (f : A → Bool) (xs ys : List A) → list_all f xs ≡ true → list_all f ys ≡ true → list_all f (xs ++ ys) ≡ true
all-appended f [] ys h k = k
all-appended f (x ∷ xs) ys h k =
    both-hold (f x) (list_all f (xs ++ ys)) (first-of (f x) (list_all f xs) h) (all-appended f xs ys (second-of (f x) (list_all f xs) h) k)

-- and of what stands for the items of a list
pub all-mapped : {A B : Type 0} (f : B → Bool) (g : A → B) (xs : List A) → list_all (λ x. f (g x)) xs ≡ true → list_all f (map g xs) ≡ true
all-mapped f g [] h = refl
all-mapped f g (x ∷ xs) h =
    both-hold (f (g x)) (list_all f (map g xs)) (first-of (f (g x)) (list_all (λ y. f (g y)) xs) h)
    (all-mapped f g xs (second-of (f (g x)) (list_all (λ y. f (g y)) xs) h))

-- ---- members

-- a member in front of components
heads-form : (d : Domain) (ds : Domains) (xs : List Value) (ls : List (List Value)) → list_all (has_form d) xs ≡ true
    → list_all (λ l. have_forms ds (of_list l)) ls ≡ true → list_all (λ l. have_forms (more_domains d ds) (of_list l)) (add_heads xs ls) ≡ true
heads-form d ds [] ls h k = refl
heads-form d ds (x ∷ xs) ls h k =
    all-appended (λ l. have_forms (more_domains d ds) (of_list l)) (map (λ l. x ∷ l) ls) (add_heads xs ls)
    (all-mapped (λ l. have_forms (more_domains d ds) (of_list l)) (λ l. x ∷ l) ls (each ls k))
    (heads-form d ds xs ls (second-of (has_form d x) (list_all (has_form d) xs) h) k)
  where
    each : (ls : List (List Value)) → list_all (λ l. have_forms ds (of_list l)) ls ≡ true
        → list_all (λ l. has_form d x && have_forms ds (of_list l)) ls ≡ true
    each [] e = refl
    each (l ∷ ls) e = both-hold (has_form d x && have_forms ds (of_list l)) (list_all (λ l. has_form d x && have_forms ds (of_list l)) ls)
        (both-hold (has_form d x) (have_forms ds (of_list l)) (first-of (has_form d x) (list_all (has_form d) xs) h)
        (first-of (have_forms ds (of_list l)) (list_all (λ l. have_forms ds (of_list l)) ls) e))
        (each ls (second-of (have_forms ds (of_list l)) (list_all (λ l. have_forms ds (of_list l)) ls) e))

-- what is listed, where something is
abbrev Listed : Option (List Value) → Domain → Type 0
Listed o d = list_all (has_form d) (list_or_none o) ≡ true

-- lists of members of components
abbrev AllListed : Option (List (List Value)) → Domains → Type 0
AllListed None ds = Unit {0}
AllListed (Some ls) ds = list_all (λ l. have_forms ds (of_list l)) (lists_of ls) ≡ true

compound-form : (d : Domain) (ds : Domains) (f : List Value → Value) (o : Option (List (List Value)))
    → ((l : List Value) → has_form d (f l) ≡ have_forms ds (of_list l)) → AllListed o ds → Listed (option_map (λ ls. map f (lists_of ls)) o) d
compound-form d ds f None same h = refl
compound-form d ds f (Some ls) same h = all-mapped (has_form d) f (lists_of ls) (turned (lists_of ls) h)
  where
    turned : (ms : List (List Value)) → list_all (λ l. have_forms ds (of_list l)) ms ≡ true → list_all (λ l. has_form d (f l)) ms ≡ true
    turned [] e = refl
    turned (m ∷ ms) e = both-hold (has_form d (f m)) (list_all (λ l. has_form d (f l)) ms)
        (same m ∙ first-of (have_forms ds (of_list m)) (list_all (λ l. have_forms ds (of_list l)) ms) e)
        (turned ms (second-of (have_forms ds (of_list m)) (list_all (λ l. have_forms ds (of_list l)) ms) e))

more-listed : (d : Domain) (ds : Domains) (o : Option (List Value)) (p : Option (List (List Value))) → Listed o d → AllListed p ds
    → AllListed (and_then o (λ x. option_map (λ xs. x ∷ xs) p)) (more_domains d ds)
more-listed d ds None p h k = tt
more-listed d ds (Some xs) None h k = tt
more-listed d ds (Some xs) (Some ls) h k = heads-form d ds xs (lists_of ls) h k

mutual
  members-form : (d : Domain) → Listed (members d) d
  members-form booleans = refl
  members-form (integers ss) = all-hold (has_form (integers ss)) (λ v. refl) (list_or_none (members (integers ss)))
  members-form (named t n) = all-hold (has_form (named t n)) (λ v. refl) (list_or_none (members (named t n)))
  members-form (tuples ds) = compound-form (tuples ds) ds (λ l. tuple (of_list l)) (all_some (members_of_each ds)) (λ l. refl) (components-form ds)
  members-form (records fs ds) =
      compound-form (records fs ds) ds (λ l. node (a_record fs) (of_list l)) (all_some (members_of_each ds)) (λ l. refl) (components-form ds)
  members-form (matrices is d) = refl
  members-form (sets ks d) = refl
  members-form (msets ks d) = refl
  members-form (functions ks d c) = refl
  members-form (relations ks ds) = refl
  members-form (partitions ks d) = refl

  components-form : (ds : Domains) → AllListed (all_some (members_of_each ds)) ds
  components-form no_domains = refl
  components-form (more_domains d ds) = more-listed d ds (members d) (all_some (members_of_each ds)) (members-form d) (components-form ds)

-- The listed members of a domain have its form.
pub listed-form : (d : Domain) → list_all (has_form d) (member_list d) ≡ true
listed-form d = members-form d
