-- The members of a domain of tuples of atoms rise, and stand in the order of their places in a table.
use Rattle.std.proofs.Common.{◌≡◌, refl, sym, ap, ◌∙◌, subst, Bool, true, ◌&&◌, List, [], ◌∷◌, ◌++◌, map, ℤ, Option, Some, None, option_map}
use Rattle.std.specs.List.{list_all}
use Rattle.std.specs.Ordering.{ordering_then}
use Rattle.std.proofs.lemmas.Cmp.{tied_itself}
use Rattle.ess_semantics.specs.Lists.{and_then, all_some, list_or_none}
use Rattle.ess_semantics.specs.Values.{Value, of_list, to_list, tuple, items_of, itself}
use Rattle.ess_semantics.specs.Order.{orders}
use Rattle.ess_semantics.specs.Collections.{rises}
use Rattle.ess_semantics.specs.Domains.{Domain, Domains, tuples, no_domains, more_domains, domain_list, members, members_of_each, member_list, add_heads, lists_of}
use Rattle.ess_semantics.specs.Membership.{member, member_of_each}
use Rattle.ess_semantics.specs.Tables.{code}
use Rattle.ess_semantics.specs.Layers.{codes_of}
use Rattle.ess_semantics.specs.Atoms.{Listed}
use Rattle.ess_semantics.proofs.Tests.{and-left, and-right, and-both}
use Rattle.ess_semantics.proofs.Orders.{order_total, to_list-of_list}
use Rattle.ess_semantics.proofs.Sorting.{Below, Rising, sorted-of}
use Rattle.ess_repr_laws.proofs.CanonicalPlaces.{AllOf}
use Rattle.ess_repr_laws.proofs.Chosen.{of-sorted}

-- Each domain's members are listed.
abbrev pub AllListed : Domains → Type 0
AllListed no_domains = Unit {0}
AllListed (more_domains d ds) = Listed d × AllListed ds

-- a tuple of a list
abbrev pub T : List Value → Value
T l = tuple (of_list l)

-- ---- rising

rise-append : (xs ys : List Value) → Rising order_total xs → Rising order_total ys → AllOf xs (λ x. Below order_total x ys) → Rising order_total (xs ++ ys)
rise-append [] ys p q b = q
rise-append (x ∷ xs) ys p q b = (below-append x xs ys p.0 b.0, rise-append xs ys p.1 q b.1)
  where
    below-append : (x : Value) (xs ys : List Value) → Below order_total x xs → Below order_total x ys → Below order_total x (xs ++ ys)
    below-append x [] ys a b = b
    below-append x (z ∷ zs) ys a b = (a.0, below-append x zs ys a.1 b)

-- The images of two lists.
pub map-append : {A B : Type 0} (f : A → B) (xs ys : List A) → map f (xs ++ ys) ≡ map f xs ++ map f ys
map-append f [] ys = refl
map-append f (x ∷ xs) ys = ap (λ l. f x ∷ l) (map-append f xs ys)

-- with one more item in front
below-cons : (v : Value) (l : List Value) (ls : List (List Value)) → Below order_total (T l) (map T ls) → Below order_total (T (v ∷ l)) (map T (map (λ m. v ∷ m) ls))
below-cons v l [] b = tt
below-cons v l (m ∷ ls) b = (ap (λ o. ordering_then o (orders (of_list l) (of_list m))) (tied_itself order_total v) ∙ b.0, below-cons v l ls b.1)

sorted-cons : (v : Value) (ls : List (List Value)) → Rising order_total (map T ls) → Rising order_total (map T (map (λ m. v ∷ m) ls))
sorted-cons v [] r = tt
sorted-cons v (l ∷ ls) r = (below-cons v l ls r.0, sorted-cons v ls r.1)

-- a lower item in front
below-heads : (v : Value) (l : List Value) (vs : List Value) (ls : List (List Value)) → Below order_total v vs → Below order_total (T (v ∷ l)) (map T (add_heads vs ls))
below-heads v l [] ls b = tt
below-heads v l (w ∷ ws) ls b = subst (Below order_total (T (v ∷ l))) (sym (map-append T (map (λ m. w ∷ m) ls) (add_heads ws ls))) (all ls (below-heads v l ws ls b.1))
  where
    all : (ms : List (List Value)) → Below order_total (T (v ∷ l)) (map T (add_heads ws ls)) → Below order_total (T (v ∷ l)) (map T (map (λ m. w ∷ m) ms) ++ map T (add_heads ws ls))
    all [] h = h
    all (m ∷ ms) h = (ap (λ o. ordering_then o (orders (of_list l) (of_list m))) b.0, all ms h)

sorted-heads : (vs : List Value) (ls : List (List Value)) → Rising order_total vs → Rising order_total (map T ls) → Rising order_total (map T (add_heads vs ls))
sorted-heads [] ls p q = tt
sorted-heads (v ∷ vs) ls p q =
    subst (Rising order_total) (sym (map-append T (map (λ m. v ∷ m) ls) (add_heads vs ls)))
    (rise-append (map T (map (λ m. v ∷ m) ls)) (map T (add_heads vs ls)) (sorted-cons v ls q) (sorted-heads vs ls p.1 q) (each ls))
  where
    each : (ms : List (List Value)) → AllOf (map T (map (λ m. v ∷ m) ms)) (λ x. Below order_total x (map T (add_heads vs ls)))
    each [] = tt
    each (m ∷ ms) = (below-heads v m vs ls p.0, each ms)

-- ---- members

all-append : {A : Type 0} (f : A → Bool) (xs ys : List A) → list_all f xs ≡ true → list_all f ys ≡ true → list_all f (xs ++ ys) ≡ true
all-append f [] ys p q = q
all-append f (x ∷ xs) ys p q = and-both (f x) (list_all f (xs ++ ys)) (and-left (f x) (list_all f xs) p) (all-append f xs ys (and-right (f x) (list_all f xs) p) q)

heads-members : (d : Domain) (ds : Domains) (vs : List Value) (ls : List (List Value)) → list_all (member d) vs ≡ true → list_all (λ l. member_of_each ds (of_list l)) ls ≡ true →
    list_all (λ l. member_of_each (more_domains d ds) (of_list l)) (add_heads vs ls) ≡ true
heads-members d ds [] ls p q = refl
heads-members d ds (v ∷ vs) ls p q =
    all-append (λ l. member_of_each (more_domains d ds) (of_list l)) (map (λ m. v ∷ m) ls) (add_heads vs ls) (each ls q) (heads-members d ds vs ls (and-right (member d v) (list_all (member d) vs) p) q)
  where
    each : (ms : List (List Value)) → list_all (λ l. member_of_each ds (of_list l)) ms ≡ true → list_all (λ l. member_of_each (more_domains d ds) (of_list l)) (map (λ m. v ∷ m) ms) ≡ true
    each [] h = refl
    each (m ∷ ms) h =
        and-both (member d v && member_of_each ds (of_list m)) _ (and-both (member d v) (member_of_each ds (of_list m)) (and-left (member d v) (list_all (member d) vs) p) (and-left (member_of_each ds (of_list m)) _ h))
        (each ms (and-right (member_of_each ds (of_list m)) (list_all (λ l. member_of_each ds (of_list l)) ms) h))

-- ls holds the members of each domain
abbrev pub Each : Domains → List (List Value) → Type 0
Each no_domains [] = Unit {0}
Each (more_domains d ds) (vs ∷ ls) = (member_list d ≡ vs) × Listed d × Each ds ls
Each _ _ = ⊥

each-domain : (ds : Domains) (ls : List (List Value)) → AllListed ds → all_some (members_of_each ds) ≡ Some ls → Each ds ls
each-domain no_domains ls a e = let z : [] ≡ ls = cc in subst (Each no_domains) z tt
each-domain (more_domains d ds) ls a e = go (members d) (all_some (members_of_each ds)) refl refl e (λ us q. each-domain ds us a.1 q)
  where
    go : (o : Option (List Value)) (p : Option (List (List Value))) → members d ≡ o → all_some (members_of_each ds) ≡ p → and_then o (λ x. option_map (λ xs. x ∷ xs) p) ≡ Some ls →
        ((us : List (List Value)) → all_some (members_of_each ds) ≡ Some us → Each ds us) → Each (more_domains d ds) ls
    go None p q r e ih = cc
    go (Some vs) None q r e ih = cc
    go (Some vs) (Some us) q r e ih = let z : vs ∷ us ≡ ls = cc in subst (Each (more_domains d ds)) z (ap list_or_none q, a.0, ih us r)

lists-rise : (ds : Domains) (ls : List (List Value)) → Each ds ls → Rising order_total (map T (lists_of ls))
lists-rise no_domains [] e = (tt, tt)
lists-rise no_domains (l ∷ ls) e = absurd e
lists-rise (more_domains d ds) [] e = absurd e
lists-rise (more_domains d ds) (vs ∷ ls) e =
    let listed = e.1 in
    sorted-heads vs (lists_of ls) (sorted-of vs (ap (rises itself) (sym e.0) ∙ listed.sorted)) (lists-rise ds ls e.2)

lists-members : (ds : Domains) (ls : List (List Value)) → Each ds ls → list_all (λ l. member_of_each ds (of_list l)) (lists_of ls) ≡ true
lists-members no_domains [] e = refl
lists-members no_domains (l ∷ ls) e = absurd e
lists-members (more_domains d ds) [] e = absurd e
lists-members (more_domains d ds) (vs ∷ ls) e =
    let listed = e.1 in
    heads-members d ds vs (lists_of ls) (ap (list_all (member d)) (sym e.0) ∙ listed.members) (lists-members ds ls e.2)

all-T : (f : Value → Bool) (ls : List (List Value)) → list_all f (map T ls) ≡ list_all (λ l. f (T l)) ls
all-T f [] = refl
all-T f (l ∷ ls) = ap (λ b. f (T l) && b) (all-T f ls)

-- The members of a domain of tuples are listed.
pub tuples-listed : (ds : Domains) → AllListed ds → Listed (tuples ds)
tuples-listed ds a = go (all_some (members_of_each ds)) refl
  where
    go : (o : Option (List (List Value))) → all_some (members_of_each ds) ≡ o → Listed (tuples ds)
    go None q = record {
      sorted = ap (λ o. rises itself (list_or_none (option_map (λ ls. map T (lists_of ls)) o))) q;
      members = ap (λ o. list_all (member (tuples ds)) (list_or_none (option_map (λ ls. map T (lists_of ls)) o))) q;
    }
    go (Some ls) q =
        let e = each-domain ds ls a q in
        record {
          sorted = ap (λ o. rises itself (list_or_none (option_map (λ ls. map T (lists_of ls)) o))) q ∙ of-sorted (map T (lists_of ls)) (lists-rise ds ls e);
          members = ap (λ o. list_all (member (tuples ds)) (list_or_none (option_map (λ ls. map T (lists_of ls)) o))) q ∙ all-T (member (tuples ds)) (lists_of ls) ∙ lists-members ds ls e;
        }

-- ---- places

heads-map : {A B : Type 0} (f : A → B) (xs : List A) (ls : List (List A)) → add_heads (map f xs) (map (map f) ls) ≡ map (map f) (add_heads xs ls)
heads-map {A = A} f [] ls = refl
heads-map {A = A} f (x ∷ xs) ls = ap (λ l. l ++ add_heads (map f xs) (map (map f) ls)) (one ls) ∙ ap (λ l. map (map f) (map (λ m. x ∷ m) ls) ++ l) (heads-map f xs ls) ∙ sym (map-append (map f) (map (λ m. x ∷ m) ls) (add_heads xs ls))
  where
    one : (ms : List (List A)) → map (λ m. f x ∷ m) (map (map f) ms) ≡ map (map f) (map (λ m. x ∷ m) ms)
    one [] = refl
    one (m ∷ ms) = ap (λ l. (f x ∷ map f m) ∷ l) (one ms)

lists-map : {A B : Type 0} (f : A → B) (ls : List (List A)) → lists_of (map (map f) ls) ≡ map (map f) (lists_of ls)
lists-map f [] = refl
lists-map f (l ∷ ls) = ap (add_heads (map f l)) (lists-map f ls) ∙ heads-map f l (lists_of ls)

codes-each : (ds : Domains) (ls : List (List Value)) → Each ds ls → map codes_of (domain_list ds) ≡ map (map code) ls
codes-each no_domains [] e = refl
codes-each no_domains (l ∷ ls) e = absurd e
codes-each (more_domains d ds) [] e = absurd e
codes-each (more_domains d ds) (vs ∷ ls) e = ap (λ l. map code l ∷ map codes_of (domain_list ds)) e.0 ∙ ap (λ l. map code vs ∷ l) (codes-each ds ls e.2)

heads-none : {A : Type 0} (xs : List A) → add_heads xs [] ≡ []
heads-none [] = refl
heads-none (x ∷ xs) = heads-none xs

no-places : (ds : Domains) → all_some (members_of_each ds) ≡ None → lists_of (map codes_of (domain_list ds)) ≡ []
no-places no_domains e = cc
no-places (more_domains d ds) e = go (members d) (all_some (members_of_each ds)) refl refl e (λ q. no-places ds q)
  where
    go : (o : Option (List Value)) (p : Option (List (List Value))) → members d ≡ o → all_some (members_of_each ds) ≡ p → and_then o (λ x. option_map (λ xs. x ∷ xs) p) ≡ None →
        (all_some (members_of_each ds) ≡ None → lists_of (map codes_of (domain_list ds)) ≡ []) → add_heads (map code (list_or_none (members d))) (lists_of (map codes_of (domain_list ds))) ≡ []
    go None p q r e ih = ap (λ o. add_heads (map code (list_or_none o)) (lists_of (map codes_of (domain_list ds)))) q
    go (Some vs) None q r e ih = ap (add_heads (map code (list_or_none (members d)))) (ih r) ∙ heads-none (map code (list_or_none (members d)))
    go (Some vs) (Some us) q r e ih = cc

-- a tuple's place
abbrev pub place_of : Value → List ℤ
place_of x = map code (items_of x)

places-T : (ls : List (List Value)) → map (map code) ls ≡ map place_of (map T ls)
places-T [] = refl
places-T (l ∷ ls) = ap (λ m. map code m ∷ map (map code) ls) (sym (to_list-of_list l)) ∙ ap (λ m. map code (to_list (of_list l)) ∷ m) (places-T ls)

-- The places of a table over the components are those of the tuples, in order.
pub tuple-places : (ds : Domains) → AllListed ds → lists_of (map codes_of (domain_list ds)) ≡ map place_of (member_list (tuples ds))
tuple-places ds a = go (all_some (members_of_each ds)) refl
  where
    go : (o : Option (List (List Value))) → all_some (members_of_each ds) ≡ o → lists_of (map codes_of (domain_list ds)) ≡ map place_of (member_list (tuples ds))
    go None q = no-places ds q ∙ sym (ap (λ o. map place_of (list_or_none (option_map (λ ls. map T (lists_of ls)) o))) q)
    go (Some ls) q =
        ap lists_of (codes-each ds ls (each-domain ds ls a q)) ∙ lists-map code ls ∙ places-T (lists_of ls)
        ∙ sym (ap (λ o. map place_of (list_or_none (option_map (λ ls. map T (lists_of ls)) o))) q)
