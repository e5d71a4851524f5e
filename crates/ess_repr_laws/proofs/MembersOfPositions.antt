-- The members of a domain with positions are the values with positions of its members.
use Rattle.std.proofs.Common.{◌≡◌, refl, sym, ap, ◌∙◌, ℕ, zero, suc, Bool, true, List, [], ◌∷◌, ◌++◌, map, pos, ◌+ℤ◌, ◌-ℤ◌, Option, Some, None, option_map, append-nil, arith}
use Rattle.std.proofs.lemmas.Int.{ints}
use Rattle.std.specs.List.{list_all}
use Rattle.ess_semantics.specs.Lists.{and_then, all_some, list_or_none}
use Rattle.ess_semantics.specs.Values.{Text, Kind, a_tuple, a_record, Value, number, node, of_list, tuple}
use Rattle.ess_semantics.specs.Collections.{sorted_once}
use Rattle.ess_semantics.specs.Numbers.{natural}
use Rattle.ess_semantics.specs.Domains.{Span, Domain, Domains, booleans, integers, named, tuples, records, matrices, sets, msets, functions, relations, partitions, no_domains, more_domains, numbers_up, items_from, add_heads, lists_of, members, members_of_each, between}
use Rattle.ess_semantics.specs.Membership.{member}
use Rattle.ess_semantics.specs.Positions.{with_positions, domain_with_positions, domains_with_positions}
use Rattle.ess_semantics.proofs.Tests.{and-left, and-right}
use Rattle.ess_semantics.proofs.Sorting.{sorted_once-itself}
use Rattle.ess_semantics.proofs.MemberLists.{integers-listed, named-listed}
use Rattle.ess_repr_laws.proofs.TypesBack.{integer-back}
use Rattle.ess_repr_laws.proofs.OrderOfPositions.{named-agree}
use Rattle.ess_repr_laws.proofs.ListsOfPositions.{with_each, list-with, sorted-with}

-- ---- atoms

-- Values that are their own values with positions.
each-itself : (p : Value → Bool) → ((v : Value) → p v ≡ true → with_positions v ≡ v) → (xs : List Value) → list_all p xs ≡ true →
    with_each xs ≡ xs
each-itself p h [] a = refl
each-itself p h (x ∷ xs) a =
    ap (λ v. v ∷ with_each xs) (h x (and-left (p x) (list_all p xs) a))
    ∙ ap (λ l. x ∷ l) (each-itself p h xs (and-right (p x) (list_all p xs) a))

integers-with : (ss : List Span) → members (integers ss) ≡ option_map with_each (members (integers ss))
integers-with ss = go (members (integers ss)) refl
  where
    go : (o : Option (List Value)) → members (integers ss) ≡ o → o ≡ option_map with_each o
    go None q = refl
    go (Some vs) q =
        let l = integers-listed ss in
        ap Some (sym (each-itself (member (integers ss)) (integer-back ss) vs (ap (λ o. list_all (member (integers ss)) (list_or_none o)) (sym q) ∙ l.members)))

-- The numbers from k on are the positions from k on.
numbers-items : (t : Text) (k n : ℕ) → numbers_up (pos k) n ≡ with_each (items_from t k n)
numbers-items t k zero = refl
numbers-items t k (suc n) =
    let e : pos k +ℤ pos 1 ≡ pos (suc k) = omega (arith, ints) in
    ap (λ a. number (pos k) ∷ numbers_up a n) e ∙ ap (λ l. number (pos k) ∷ l) (numbers-items t (suc k) n)

named-with : (t : Text) (n : ℕ) → members (between (pos 1) (pos n)) ≡ Some (with_each (items_from t 1 n))
named-with t n =
    let e : (pos n -ℤ pos 1) +ℤ pos 1 ≡ pos n = omega (arith, ints) in
    let l = named-listed t n in
    ap (λ a. Some (sorted_once (numbers_up (pos 1) (natural a) ++ []))) e
    ∙ ap (λ xs. Some (sorted_once xs)) (append-nil (numbers_up (pos 1) n) ∙ numbers-items t 1 n)
    ∙ ap Some (sorted-with (member (named t n)) (named-agree t n n) (items_from t 1 n) l.members ∙ ap with_each (sorted_once-itself (items_from t 1 n) l.sorted))

-- ---- lists with one item from each

-- The values with positions of lists.
abbrev each_list : List (List Value) → List (List Value)
each_list ls = map with_each ls

lists-append : (xs ys : List (List Value)) → each_list (xs ++ ys) ≡ each_list xs ++ each_list ys
lists-append [] ys = refl
lists-append (x ∷ xs) ys = ap (λ l. with_each x ∷ l) (lists-append xs ys)

heads-with : (vs : List Value) (ls : List (List Value)) → add_heads (with_each vs) (each_list ls) ≡ each_list (add_heads vs ls)
heads-with [] ls = refl
heads-with (v ∷ vs) ls =
    ap (λ x. map (λ l. with_positions v ∷ l) (each_list ls) ++ x) (heads-with vs ls) ∙ ap (λ x. x ++ each_list (add_heads vs ls)) (go ls)
    ∙ sym (lists-append (map (λ l. v ∷ l) ls) (add_heads vs ls))
  where
    go : (ls : List (List Value)) → map (λ l. with_positions v ∷ l) (each_list ls) ≡ each_list (map (λ l. v ∷ l) ls)
    go [] = refl
    go (l ∷ ls) = ap (λ x. (with_positions v ∷ with_each l) ∷ x) (go ls)

lists-of-with : (vss : List (List Value)) → lists_of (each_list vss) ≡ each_list (lists_of vss)
lists-of-with [] = refl
lists-of-with (vs ∷ vss) = ap (add_heads (with_each vs)) (lists-of-with vss) ∙ heads-with vs (lists_of vss)

-- Compound values of such lists.
compounds-with : (k : Kind) (ls : List (List Value)) →
    map (λ l. node k (of_list l)) (each_list ls) ≡ with_each (map (λ l. node k (of_list l)) ls)
compounds-with k [] = refl
compounds-with k (l ∷ ls) =
    ap (λ v. node k v ∷ map (λ l. node k (of_list l)) (each_list ls)) (sym (list-with l))
    ∙ ap (λ x. with_positions (node k (of_list l)) ∷ x) (compounds-with k ls)

compound-with : (k : Kind) (o : Option (List (List Value))) →
    option_map (λ ls. map (λ l. node k (of_list l)) (lists_of ls)) (option_map each_list o) ≡ option_map with_each
    (option_map (λ ls. map (λ l. node k (of_list l)) (lists_of ls)) o)
compound-with k None = refl
compound-with k (Some ls) = ap (λ x. Some (map (λ l. node k (of_list l)) x)) (lists-of-with ls) ∙ ap Some (compounds-with k (lists_of ls))

-- ---- all domains

mutual
  -- The listed members with positions.
  pub members-with : (e : Domain) → members (domain_with_positions e) ≡ option_map with_each (members e)
  members-with booleans = refl
  members-with (integers ss) = integers-with ss
  members-with (named t n) = named-with t n
  members-with (tuples ds) =
      ap (option_map (λ ls. map (λ l. tuple (of_list l)) (lists_of ls))) (each-with ds)
      ∙ compound-with a_tuple (all_some (members_of_each ds))
  members-with (records fs ds) =
      ap (option_map (λ ls. map (λ l. node (a_record fs) (of_list l)) (lists_of ls))) (each-with ds)
      ∙ compound-with (a_record fs) (all_some (members_of_each ds))
  members-with (matrices is d) = refl
  members-with (sets ks d) = refl
  members-with (msets ks d) = refl
  members-with (functions ks d c) = refl
  members-with (relations ks ds) = refl
  members-with (partitions ks d) = refl

  each-with : (ds : Domains) → all_some (members_of_each (domains_with_positions ds)) ≡ option_map each_list (all_some (members_of_each ds))
  each-with no_domains = refl
  each-with (more_domains d ds) =
      ap (λ o. and_then o (λ vs. option_map (λ ls. vs ∷ ls) (all_some (members_of_each (domains_with_positions ds))))) (members-with d)
      ∙ ap (λ o. and_then (option_map with_each (members d)) (λ vs. option_map (λ ls. vs ∷ ls) o)) (each-with ds)
      ∙ go (members d) (all_some (members_of_each ds))
    where
      go : (o : Option (List Value)) (q : Option (List (List Value))) →
          and_then (option_map with_each o) (λ vs. option_map (λ ls. vs ∷ ls) (option_map each_list q)) ≡ option_map each_list
          (and_then o (λ vs. option_map (λ ls. vs ∷ ls) q))
      go None q = refl
      go (Some vs) None = refl
      go (Some vs) (Some ls) = refl
