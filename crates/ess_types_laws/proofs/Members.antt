-- The members of an enumerable domain have the type of the domain.
use Rattle.std.proofs.Common.{◌≡◌, refl, sym, ap, ◌∙◌, subst, ℕ, Bool, true, false, ◌&&◌, ◌||◌, List, [], ◌∷◌, map, ℤ, pos, negsuc, nat_le, Option, Some, None, option_map}
use Rattle.std.specs.List.{list_all}
use Rattle.std.specs.Ordering.{is_eq}
use Rattle.std.proofs.lemmas.Cmp.{tied_itself}
use Rattle.std.proofs.lemmas.List.Folds.{list_all-append, list_all-map}
use Rattle.ess_semantics.specs.Lists.{and_then, all_some, list_or_none}
use Rattle.ess_semantics.specs.Values.{Text, a_tuple, a_record, Value, number, truth, item, node, of_list, to_list, tuple}
use Rattle.ess_semantics.specs.Order.{same_texts}
use Rattle.ess_semantics.specs.Trees.{Dom, Doms, bool_dom, int_dom, name_dom, tuple_dom, record_dom, matrix_dom, set_dom, mset_dom, function_dom, relation_dom, partition_dom, no_doms, more_doms}
use Rattle.ess_semantics.specs.Types.{Ty, Tys, bool_ty, int_ty, named_ty, compound, no_tys, more_tys, type_of_dom, types_of_doms}
use Rattle.ess_semantics.specs.Domains.{Span, Domain, Domains, booleans, integers, named, tuples, records, matrices, sets, msets, functions, relations, partitions, no_domains, more_domains, members, members_of_each, lists_of, add_heads, between}
use Rattle.ess_semantics.specs.Membership.{member}
use Rattle.ess_semantics.specs.Atoms.{IsAtom}
use Rattle.ess_semantics.specs.Meaning.{Env, TypeEntry, type_entry, named_domain, domain_of, domains_of, meanings, spans_of, attributes_of}
use Rattle.ess_semantics.specs.TypeMembers.{is_of_named, is_of, are_of}
use Rattle.ess_semantics.proofs.Tests.{and-left, and-right, and-both}
use Rattle.ess_semantics.proofs.Orders.{to_list-of_list, texts_total}
use Rattle.ess_semantics.proofs.MemberLists.{atom-listed}
use Rattle.ess_types_laws.proofs.Joins.{all-map}

-- ---- numbers

from-one : (n : ℕ) (k : ℤ) → member (between (pos 1) (pos n)) (number k) ≡ true → (a : Text) (t : TypeEntry) → t.count ≡ n →
    is_of_named true a (Some t) (number k) ≡ true
from-one n (pos j) m a t e = go (nat_le 1 j) (nat_le j n) refl refl m
  where
    go : (x y : Bool) → nat_le 1 j ≡ x → nat_le j n ≡ y → (x && y) || false ≡ true → nat_le 1 j && nat_le j t.count ≡ true
    go true true p q h = and-both (nat_le 1 j) (nat_le j t.count) p (ap (nat_le j) e ∙ q)
    go true false p q h = cc
    go false y p q h = cc
from-one n (negsuc j) m a t e = cc

module _ (env : Env) where
  abbrev pub Fits : Ty → Value → Bool
  Fits t v = is_of env.positions env.types t v

  -- ---- atoms

  -- Where each member has the type, those that are listed have it.
  atoms-fit : (d : Domain) (t : Ty) (vs : List Value) → IsAtom d → ((v : Value) → member d v ≡ true → Fits t v ≡ true) →
      members d ≡ Some vs → list_all (Fits t) vs ≡ true
  atoms-fit d t vs a f e =
      let l : list_all (member d) (list_or_none (members d)) ≡ true = (atom-listed d a).members in
      all-map (member d) (Fits t) vs f (subst (λ o. list_all (member d) (list_or_none o) ≡ true) e l)

  pub int-fits : (ss : List Span) (v : Value) → member (integers ss) v ≡ true → Fits int_ty v ≡ true
  int-fits ss (number n) m = refl
  int-fits ss _ m = cc

  pub bool-fits : (v : Value) → member booleans v ≡ true → Fits bool_ty v ≡ true
  bool-fits (truth b) m = refl
  bool-fits _ m = cc

  pub named-fits : (b : Bool) (a : Text) (o : Option TypeEntry) (d : Domain) → named_domain b a o ≡ Some d → (v : Value) →
      member d v ≡ true → is_of_named b a o v ≡ true
  named-fits b a None d e v m = cc
  named-fits true a (Some t) d e v m = let q : between (pos 1) (pos t.count) ≡ d = cc in go v (subst (λ x. member x v ≡ true) (sym q) m)
    where
      go : (v : Value) → member (between (pos 1) (pos t.count)) v ≡ true → is_of_named true a (Some t) v ≡ true
      go (number k) m = from-one t.count k m a t refl
      go _ m = cc
  named-fits false a (Some t) d e v m = let q : named a t.count ≡ d = cc in go v (subst (λ x. member x v ≡ true) (sym q) m)
    where
      go : (v : Value) → member (named a t.count) v ≡ true → is_of_named false a (Some t) v ≡ true
      go (item u k) m = m
      go _ m = cc

  pub named-atom : (b : Bool) (a : Text) (o : Option TypeEntry) (d : Domain) → named_domain b a o ≡ Some d → IsAtom d
  named-atom b a None d e = cc
  named-atom true a (Some t) d e = let q : between (pos 1) (pos t.count) ≡ d = cc in subst IsAtom q tt
  named-atom false a (Some t) d e = let q : named a t.count ≡ d = cc in subst IsAtom q tt

  -- ---- tuples and records

  -- Each value has the type at its place.
  abbrev pub EachFits : Tys → List (List Value) → Type 0
  EachFits no_tys [] = Unit {0}
  EachFits (more_tys t ts) (vs ∷ vss) = (list_all (Fits t) vs ≡ true) × EachFits ts vss
  EachFits _ _ = ⊥

  abbrev Row : Tys → List Value → Bool
  Row ts vs = are_of env.positions env.types ts vs

  heads-fit : (t : Ty) (ts : Tys) (vs : List Value) (ls : List (List Value)) → list_all (Fits t) vs ≡ true → list_all (Row ts) ls ≡ true →
      list_all (Row (more_tys t ts)) (add_heads vs ls) ≡ true
  heads-fit t ts [] ls p q = refl
  heads-fit t ts (v ∷ vs) ls p q =
      list_all-append (Row (more_tys t ts)) (map (λ l. v ∷ l) ls) (add_heads vs ls)
      ∙ and-both (list_all (Row (more_tys t ts)) (map (λ l. v ∷ l) ls)) (list_all (Row (more_tys t ts)) (add_heads vs ls))
      (list_all-map (Row (more_tys t ts)) (λ l. v ∷ l) ls
      ∙ all-map (Row ts) (λ l. Row (more_tys t ts) (v ∷ l)) ls
      (λ l r. and-both (Fits t v) (Row ts l) (and-left (Fits t v) (list_all (Fits t) vs) p) r) q)
      (heads-fit t ts vs ls (and-right (Fits t v) (list_all (Fits t) vs) p) q)

  lists-fit : (ts : Tys) (vss : List (List Value)) → EachFits ts vss → list_all (Row ts) (lists_of vss) ≡ true
  lists-fit no_tys [] h = refl
  lists-fit (more_tys t ts) (vs ∷ vss) h = heads-fit t ts vs (lists_of vss) h.0 (lists-fit ts vss h.1)
  lists-fit no_tys (vs ∷ vss) h = absurd h
  lists-fit (more_tys t ts) [] h = absurd h

  tuples-fit : (ts : Tys) (o : Option (List (List Value))) (vs : List Value) →
      ((vss : List (List Value)) → o ≡ Some vss → EachFits ts vss) →
      option_map (λ ls. map (λ l. tuple (of_list l)) (lists_of ls)) o ≡ Some vs → list_all (Fits (compound a_tuple ts)) vs ≡ true
  tuples-fit ts None vs f e = cc
  tuples-fit ts (Some vss) vs f e =
      let q : map (λ l. tuple (of_list l)) (lists_of vss) ≡ vs = cc in
      subst (λ l. list_all (Fits (compound a_tuple ts)) l ≡ true) q
      (list_all-map (Fits (compound a_tuple ts)) (λ l. tuple (of_list l)) (lists_of vss)
      ∙ all-map (Row ts) (λ l. Fits (compound a_tuple ts) (tuple (of_list l))) (lists_of vss) (λ l r. ap (Row ts) (to_list-of_list l)
      ∙ r) (lists-fit ts vss (f vss refl)))

  records-fit : (fs : List Text) (ts : Tys) (o : Option (List (List Value))) (vs : List Value) →
      ((vss : List (List Value)) → o ≡ Some vss → EachFits ts vss) →
      option_map (λ ls. map (λ l. node (a_record fs) (of_list l)) (lists_of ls)) o ≡ Some vs →
      list_all (Fits (compound (a_record fs) ts)) vs ≡ true
  records-fit fs ts None vs f e = cc
  records-fit fs ts (Some vss) vs f e =
      let q : map (λ l. node (a_record fs) (of_list l)) (lists_of vss) ≡ vs = cc in
      subst (λ l. list_all (Fits (compound (a_record fs) ts)) l ≡ true) q
      (list_all-map (Fits (compound (a_record fs) ts)) (λ l. node (a_record fs) (of_list l)) (lists_of vss)
      ∙ all-map (Row ts) (λ l. Fits (compound (a_record fs) ts) (node (a_record fs) (of_list l))) (lists_of vss)
      (λ l r. and-both (same_texts fs fs) (Row ts (to_list (of_list l))) (ap is_eq (tied_itself texts_total fs))
      (ap (Row ts) (to_list-of_list l) ∙ r)) (lists-fit ts vss (f vss refl)))

  -- ---- domains

  some-of : {A B : Type 0} (o : Option A) (f : A → B) (b : B) → option_map f o ≡ Some b → (a : A) × (o ≡ Some a) × (f a ≡ b)
  some-of None f b e = cc
  some-of (Some a) f b e = let q : f a ≡ b = cc in (a, refl, q)

  two-some : {A B : Type 0} (o : Option A) (f : A → Option B) (b : B) → and_then o f ≡ Some b → (a : A) × (f a ≡ Some b)
  two-some None f b e = cc
  two-some (Some a) f b e = (a, e)

  unlisted : {A : Type 0} (o : Option A) (f : A → Domain) (d : Domain) → ((a : A) → members (f a) ≡ None) → option_map f o ≡ Some d →
      (vs : List Value) → members d ≡ Some vs → ⊥
  unlisted o f d u e vs m =
      let r = some-of o f d e in
      let q : None ≡ Some vs = sym (u r.0) ∙ ap members r.2 ∙ m in cc

  two-both : {A B C : Type 0} (o : Option A) (q : Option B) (f : A → B → C) (c : C) → and_then o (λ a. option_map (f a) q) ≡ Some c →
      (a : A) × (b : B) × (o ≡ Some a) × (q ≡ Some b) × (f a b ≡ c)
  two-both None q f c e = cc
  two-both (Some a) None f c e = cc
  two-both (Some a) (Some b) f c e = let z : f a b ≡ c = cc in (a, b, refl, refl, z)

  mutual
    -- The members that a domain lists have the type of the domain.
    pub members-fit : (d : Dom) (c : Domain) → domain_of d env ≡ Some c → (vs : List Value) → members c ≡ Some vs →
        list_all (Fits (type_of_dom d)) vs ≡ true
    members-fit bool_dom c e vs m = let q : booleans ≡ c = cc in atoms-fit booleans bool_ty vs tt bool-fits (ap members q ∙ m)
    members-fit (int_dom rs es) c e vs m =
        let r = some-of (spans_of rs (meanings es env)) integers c e in
        atoms-fit (integers r.0) int_ty vs tt (int-fits r.0) (ap members r.2 ∙ m)
    members-fit (name_dom a) c e vs m =
        atoms-fit c (named_ty a) vs (named-atom env.positions a (type_entry env.types a) c e)
        (named-fits env.positions a (type_entry env.types a) c e) m
    members-fit (tuple_dom ds) c e vs m =
        let r = some-of (domains_of ds env) tuples c e in
        tuples-fit (types_of_doms ds) (all_some (members_of_each r.0)) vs (all-fit ds r.0 r.1) (ap members r.2 ∙ m)
    members-fit (record_dom fs ds) c e vs m =
        let r = some-of (domains_of ds env) (records fs) c e in
        records-fit fs (types_of_doms ds) (all_some (members_of_each r.0)) vs (all-fit ds r.0 r.1) (ap members r.2 ∙ m)
    members-fit (matrix_dom is d) c e vs m =
        let r = two-some (domains_of is env) (λ js. option_map (matrices js) (domain_of d env)) c e in
        absurd (unlisted (domain_of d env) (matrices r.0) c (λ x. refl) r.1 vs m)
    members-fit (set_dom ms es d) c e vs m =
        let r = two-some (attributes_of ms (meanings es env)) (λ ks. option_map (sets ks) (domain_of d env)) c e in
        absurd (unlisted (domain_of d env) (sets r.0) c (λ x. refl) r.1 vs m)
    members-fit (mset_dom ms es d) c e vs m =
        let r = two-some (attributes_of ms (meanings es env)) (λ ks. option_map (msets ks) (domain_of d env)) c e in
        absurd (unlisted (domain_of d env) (msets r.0) c (λ x. refl) r.1 vs m)
    members-fit (function_dom ms es d f) c e vs m =
        let r = two-some (attributes_of ms (meanings es env))
        (λ ks. and_then (domain_of d env) (λ x. option_map (functions ks x) (domain_of f env))) c e in
        let s = two-some (domain_of d env) (λ x. option_map (functions r.0 x) (domain_of f env)) c r.1 in
        absurd (unlisted (domain_of f env) (functions r.0 s.0) c (λ x. refl) s.1 vs m)
    members-fit (relation_dom ms es ds) c e vs m =
        let r = two-some (attributes_of ms (meanings es env)) (λ ks. option_map (relations ks) (domains_of ds env)) c e in
        absurd (unlisted (domains_of ds env) (relations r.0) c (λ x. refl) r.1 vs m)
    members-fit (partition_dom ms es d) c e vs m =
        let r = two-some (attributes_of ms (meanings es env)) (λ ks. option_map (partitions ks) (domain_of d env)) c e in
        absurd (unlisted (domain_of d env) (partitions r.0) c (λ x. refl) r.1 vs m)

    all-fit : (ds : Doms) (cs : Domains) → domains_of ds env ≡ Some cs → (vss : List (List Value)) →
        all_some (members_of_each cs) ≡ Some vss → EachFits (types_of_doms ds) vss
    all-fit no_doms cs e vss m =
        let q : no_domains ≡ cs = cc in let r : Some [] ≡ Some vss = ap (λ x. all_some (members_of_each x)) q ∙ m in
        let s : [] ≡ vss = cc in subst (EachFits no_tys) s tt
    all-fit (more_doms d ds) cs e vss m =
        let r = two-both (domain_of d env) (domains_of ds env) more_domains cs e in
        let n : all_some (members r.0 ∷ members_of_each r.1) ≡ Some vss = ap (λ x. all_some (members_of_each x)) r.4 ∙ m in
        let s = two-both (members r.0) (all_some (members_of_each r.1)) (λ v w. v ∷ w) vss n in
        subst (EachFits (more_tys (type_of_dom d) (types_of_doms ds))) s.4 (members-fit d r.0 r.2 s.0 s.2, all-fit ds r.1 r.3 s.1 s.3)
