-- The members of enumerable domains are listed, each of them, and are as many as the bound says: tuples and records too.
use Rattle.std.proofs.Common.{◌≡◌, refl, sym, ap, ◌∙◌, ◌*◌, true, ◌&&◌, ◌||◌, List, [], ◌∷◌, map, length, Option, Some, None, option_map, is_some, IsTrue}
use Rattle.std.specs.List.{list_all}
use Rattle.std.specs.Ordering.{is_lt, is_eq, ordering_then}
use Rattle.std.proofs.lemmas.Cmp.{tied_itself}
use Rattle.ess_semantics.specs.Lists.{and_then, all_some, list_or_none}
use Rattle.ess_semantics.specs.Values.{Text, a_tuple, a_matrix, a_set, a_mset, a_function, a_relation, a_partition, a_record, Value, number, truth, item, node, Values, nil, cons, to_list, of_list, tuple, itself}
use Rattle.ess_semantics.specs.Order.{orders, order_kind, same, below, same_texts, order_texts}
use Rattle.ess_semantics.specs.Collections.{holds, rises}
use Rattle.ess_semantics.specs.Domains.{Domain, Domains, tuples, records, no_domains, more_domains, members, members_of_each, lists_of}
use Rattle.ess_semantics.specs.Membership.{member, member_of_each}
use Rattle.ess_semantics.specs.Sizes.{bound, product_bound}
use Rattle.ess_repr_laws.specs.Finite.{FiniteAtom, Complete, Enumerated}
use Rattle.ess_semantics.specs.Atoms.{Listed}
use Rattle.ess_semantics.proofs.Tests.{and-left, and-right, and-both}
use Rattle.ess_semantics.proofs.Orders.{texts_total, texts_exact, equal-of, of_list-to_list}
use Rattle.ess_semantics.proofs.MemberLists.{atom-listed}
use Rattle.ess_repr_laws.proofs.TupleMembers.{AllListed, tuples-listed}
use Rattle.ess_repr_laws.proofs.CellsOfMembers.{map-long}
use Rattle.ess_repr_laws.proofs.CompleteLists.{atom-complete, InEach, T, lists-hold}
use Rattle.ess_repr_laws.proofs.Universes.{heads-length}
use Rattle.ess_repr_laws.proofs.BoundedLists.{atom-exact}

-- A listed domain: its members are there.
pub record IsEnumerated (d : Domain) : Type 0 where
  pub there : IsTrue (is_some (members d))
  pub enumerated : Enumerated d

-- The members of a finite atom are there, and listed.
pub atom-enumerable : (d : Domain) → FiniteAtom d → IsEnumerated d
atom-enumerable d f = record { there = f.1; enumerated = record { listed = atom-listed d f.0; complete = atom-complete d f; exact = atom-exact d f } }

-- So are those of each of the domains.
abbrev pub AreEnumerated : Domains → Type 0
AreEnumerated no_domains = Unit {0}
AreEnumerated (more_domains d ds) = IsEnumerated d × AreEnumerated ds

all-listed : (ds : Domains) → AreEnumerated ds → AllListed ds
all-listed no_domains a = tt
all-listed (more_domains d ds) a = let x = a.0 in let y = x.enumerated in (y.listed, all-listed ds a.1)

record Lists (ds : Domains) : Type 0 where
  ls : List (List Value)
  are : all_some (members_of_each ds) ≡ Some ls
  each : (vs : Values) → member_of_each ds vs ≡ true → InEach ls (to_list vs)
  exact : length (lists_of ls) ≡ product_bound ds

lists : (ds : Domains) → AreEnumerated ds → Lists ds
lists no_domains a = record { ls = []; are = refl; each = none; exact = refl }
  where
    none : (vs : Values) → member_of_each no_domains vs ≡ true → InEach [] (to_list vs)
    none nil h = tt
    none (cons v vs) h = cc
lists (more_domains d ds) a = go (members d) refl h.there (lists ds a.1)
  where
    h : IsEnumerated d
    h = a.0

    e : Enumerated d
    e = h.enumerated

    go : (o : Option (List Value)) → members d ≡ o → IsTrue (is_some o) → Lists ds → Lists (more_domains d ds)
    go None q t l = cc
    go (Some vs) q t l = record {
      ls = vs ∷ l.ls;
      are = ap (λ o. and_then o (λ x. option_map (λ xs. x ∷ xs) (all_some (members_of_each ds)))) q ∙ ap (option_map (λ xs. vs ∷ xs)) l.are;
      each = each';
      exact = heads-length vs (lists_of l.ls) ∙ ap (λ n. n * length (lists_of l.ls)) (ap (λ o. length (list_or_none o)) (sym q) ∙ e.exact) ∙ ap (λ n. bound d * n) l.exact;
    }
      where
        each' : (us : Values) → member_of_each (more_domains d ds) us ≡ true → InEach (vs ∷ l.ls) (to_list us)
        each' nil h = cc
        each' (cons u us) h = (ap (λ o. holds (list_or_none o) u) (sym q) ∙ e.complete u (and-left (member d u) (member_of_each ds us) h), l.each us (and-right (member d u) (member_of_each ds us) h))

-- ---- tuples

-- The members of tuples of such domains are.
pub tuples-enumerable : (ds : Domains) → AreEnumerated ds → IsEnumerated (tuples ds)
tuples-enumerable ds a = record {
  there = ap (λ o. is_some (option_map (λ ls. map T (lists_of ls)) o)) l.are;
  enumerated = record { listed = tuples-listed ds (all-listed ds a); complete = complete; exact = ap (λ o. length (list_or_none (option_map (λ ls. map T (lists_of ls)) o))) l.are ∙ map-long T (lists_of l.ls) ∙ l.exact };
}
  where
    l : Lists ds
    l = lists ds a

    complete : Complete (tuples ds)
    complete (node a_tuple vs) h =
        ap (λ o. holds (list_or_none (option_map (λ ls. map T (lists_of ls)) o)) (tuple vs)) l.are
        ∙ ap (λ w. holds (map T (lists_of l.ls)) (tuple w)) (sym (of_list-to_list vs)) ∙ lists-hold l.ls (to_list vs) (l.each vs h)
    complete (number n) h = cc
    complete (truth b) h = cc
    complete (item t k) h = cc
    complete (node a_matrix vs) h = cc
    complete (node a_set vs) h = cc
    complete (node a_mset vs) h = cc
    complete (node a_function vs) h = cc
    complete (node a_relation vs) h = cc
    complete (node a_partition vs) h = cc
    complete (node (a_record fs) vs) h = cc

-- ---- records

module _ (fs : List Text) where
  -- The record of a list.
  abbrev pub F : List Value → Value
  F l = node (a_record fs) (of_list l)

  same-kind : order_kind (a_record fs) (a_record fs) ≡ order_kind a_tuple a_tuple
  same-kind = tied_itself texts_total fs

  -- Records of lists rise where tuples of them do.
  pub rise-same : (ms : List (List Value)) → rises itself (map F ms) ≡ rises itself (map T ms)
  rise-same [] = refl
  rise-same (m ∷ []) = refl
  rise-same (m ∷ n ∷ ms) =
      ap (λ o. is_lt (ordering_then o (orders (of_list m) (of_list n))) && rises itself (map F (n ∷ ms))) same-kind ∙ ap (λ b. below (T m) (T n) && b) (rise-same (n ∷ ms))

  holds-same : (ms : List (List Value)) (l : List Value) → holds (map F ms) (F l) ≡ holds (map T ms) (T l)
  holds-same [] l = refl
  holds-same (m ∷ ms) l = ap (λ o. is_eq (ordering_then o (orders (of_list m) (of_list l))) || holds (map F ms) (F l)) same-kind ∙ ap (λ b. same (T m) (T l) || b) (holds-same ms l)

  -- They are members where the tuples are.
  pub all-same : (ds : Domains) (ms : List (List Value)) → list_all (member (tuples ds)) (map T ms) ≡ true → list_all (member (records fs ds)) (map F ms) ≡ true
  all-same ds [] h = refl
  all-same ds (m ∷ ms) h =
      and-both (same_texts fs fs && member_of_each ds (of_list m)) (list_all (member (records fs ds)) (map F ms))
      (and-both (same_texts fs fs) (member_of_each ds (of_list m)) (ap is_eq (tied_itself texts_total fs)) (and-left (member_of_each ds (of_list m)) (list_all (member (tuples ds)) (map T ms)) h))
      (all-same ds ms (and-right (member_of_each ds (of_list m)) (list_all (member (tuples ds)) (map T ms)) h))

  -- The members of records of such domains are.
  pub records-enumerable : (ds : Domains) → AreEnumerated ds → IsEnumerated (records fs ds)
  records-enumerable ds a = record {
    there = ap (λ o. is_some (option_map (λ ls. map F (lists_of ls)) o)) l.are;
    enumerated = record {
      listed = record {
        sorted = ap (λ o. rises itself (list_or_none (option_map (λ ls. map F (lists_of ls)) o))) l.are ∙ rise-same (lists_of l.ls) ∙ sym (ap (λ o. rises itself (list_or_none (option_map (λ ls. map T (lists_of ls)) o))) l.are) ∙ t.sorted;
        members = ap (λ o. list_all (member (records fs ds)) (list_or_none (option_map (λ ls. map F (lists_of ls)) o))) l.are
            ∙ all-same ds (lists_of l.ls) (sym (ap (λ o. list_all (member (tuples ds)) (list_or_none (option_map (λ ls. map T (lists_of ls)) o))) l.are) ∙ t.members);
      };
      complete = complete;
      exact = ap (λ o. length (list_or_none (option_map (λ ls. map F (lists_of ls)) o))) l.are ∙ map-long F (lists_of l.ls) ∙ l.exact;
    };
  }
    where
      l : Lists ds
      l = lists ds a

      t : Listed (tuples ds)
      t = tuples-listed ds (all-listed ds a)

      complete : Complete (records fs ds)
      complete (node (a_record gs) vs) h =
          let e : fs ≡ gs = texts_exact fs gs (equal-of (order_texts fs gs) (and-left (same_texts fs gs) (member_of_each ds vs) h)) in
          ap (λ o. holds (list_or_none (option_map (λ ls. map F (lists_of ls)) o)) (node (a_record gs) vs)) l.are
          ∙ ap (λ us. holds (map F (lists_of l.ls)) (node (a_record us) vs)) (sym e) ∙ ap (λ w. holds (map F (lists_of l.ls)) (node (a_record fs) w)) (sym (of_list-to_list vs))
          ∙ holds-same (lists_of l.ls) (to_list vs) ∙ lists-hold l.ls (to_list vs) (l.each vs (and-right (same_texts fs gs) (member_of_each ds vs) h))
      complete (number n) h = cc
      complete (truth b) h = cc
      complete (item t k) h = cc
      complete (node a_tuple vs) h = cc
      complete (node a_matrix vs) h = cc
      complete (node a_set vs) h = cc
      complete (node a_mset vs) h = cc
      complete (node a_function vs) h = cc
      complete (node a_relation vs) h = cc
      complete (node a_partition vs) h = cc
