-- The members of a closed domain, listed or not, have the type of the domain.
use Rattle.std.proofs.Common.{◌≡◌, refl, sym, ap, ◌∙◌, subst, Bool, true, false, ◌&&◌, not, List, length, nat_eq, Option, Some, option_map}
use Rattle.std.specs.List.{list_all}
use Rattle.ess_semantics.specs.Lists.{and_then, is_empty, is_some_and}
use Rattle.ess_semantics.specs.Values.{Text, a_tuple, a_set, a_mset, a_function, a_relation, a_partition, a_record, Value, node, Values, nil, cons, to_list, of_list, tuple, matrix, from_of, to_of, items_of, itself}
use Rattle.ess_semantics.specs.Order.{orders, same_texts}
use Rattle.ess_semantics.specs.Collections.{rises, rises_weakly, has_overlap}
use Rattle.ess_semantics.specs.Trees.{Dom, Doms, bool_dom, int_dom, name_dom, tuple_dom, record_dom, matrix_dom, set_dom, mset_dom, function_dom, relation_dom, partition_dom, no_doms, more_doms}
use Rattle.ess_semantics.specs.Types.{Ty, Tys, compound, no_tys, more_tys, type_of_dom, types_of_doms, nested_ty}
use Rattle.ess_semantics.specs.Domains.{Attribute, Domain, Domains, booleans, integers, tuples, records, matrices, sets, msets, functions, relations, partitions, no_domains, more_domains, members}
use Rattle.ess_semantics.specs.Membership.{same_list, nested_matrix, is_pair, is_set, is_part, covers, member, member_of_each, tuple_member}
use Rattle.ess_semantics.specs.Attributes.{set_attributes_hold, mset_attributes_hold, function_attributes_hold, relation_attributes_hold, partition_attributes_hold}
use Rattle.ess_semantics.specs.Kinds.{is_atom}
use Rattle.ess_semantics.specs.Meaning.{Env, type_entry, domain_of, domains_of, meanings, spans_of, attributes_of}
use Rattle.ess_semantics.specs.TypeMembers.{is_of, is_tuple_of, are_of}
use Rattle.ess_semantics.proofs.Tests.{and-left, and-right, and-both, some-and}
use Rattle.ess_semantics.proofs.Orders.{orders_exact, equal-of, to_list-of_list}
use Rattle.ess_types_laws.specs.ProperDomains.{each_is_atom, is_proper, are_proper}
use Rattle.ess_types_laws.proofs.Joins.{all-map, two-map}
use Rattle.ess_types_laws.proofs.Members.{bool-fits, int-fits, named-fits, members-fit}
use Rattle.ess_types_laws.proofs.SoundParts.{some-then, some-map, atom-domain, members-rise}

module _ (env : Env) where
  abbrev Ft : Ty → Value → Bool
  Ft t v = is_of env.positions env.types t v

  pair-some : (ds : Option Domain) (es : Option Domains) (c : Domains) → and_then ds (λ x. option_map (more_domains x) es) ≡ Some c →
      (a : Domain) × (b : Domains) × (ds ≡ Some a) × (es ≡ Some b) × (more_domains a b ≡ c)
  pair-some ds es c e =
      let a = some-then ds (λ x. option_map (more_domains x) es) c e in
      let b = some-map es (more_domains a.0) c a.2 in (a.0, b.0, a.1, b.1, b.2)

  -- two lists that count as equal are equal
  one-list : (xs : List Value) (ys : Values) → same_list xs (to_list ys) ≡ true → xs ≡ to_list ys
  one-list xs ys e =
      sym (to_list-of_list xs)
      ∙ ap to_list (orders_exact (of_list xs) (of_list (to_list ys)) (equal-of (orders (of_list xs) (of_list (to_list ys))) e))
      ∙ to_list-of_list (to_list ys)

  -- ---- matrices

  matrix-fits : (i : Dom) (is : Doms) (c : Domain) (cs : Domains) (t : Ty) (f : Value → Bool) → is_atom i ≡ true →
      domain_of i env ≡ Some c →
      ((w : Value) → nested_matrix cs f w ≡ true → Ft (nested_ty is t) w ≡ true) → (v : Value) →
      nested_matrix (more_domains c cs) f v ≡ true → Ft (nested_ty (more_doms i is) t) v ≡ true
  matrix-fits i is c cs t f a e h (matrix ix xs) m =
      let l = and-left (is_some_and (members c) (λ vs. same_list vs (to_list ix)) && nat_eq (length (to_list ix)) (length (to_list xs)))
      (list_all (nested_matrix cs f) (to_list xs)) m in
      let r = some-and (members c) (λ vs. same_list vs (to_list ix))
      (and-left (is_some_and (members c) (λ vs. same_list vs (to_list ix))) (nat_eq (length (to_list ix)) (length (to_list xs))) l) in
      let q : r.0 ≡ to_list ix = one-list r.0 ix r.2 in
      and-both (rises itself (to_list ix) && nat_eq (length (to_list ix)) (length (to_list xs)) && list_all (Ft (type_of_dom i))
      (to_list ix)) (list_all (Ft (nested_ty is t)) (to_list xs))
      (and-both (rises itself (to_list ix) && nat_eq (length (to_list ix)) (length (to_list xs)))
      (list_all (Ft (type_of_dom i)) (to_list ix))
      (and-both (rises itself (to_list ix)) (nat_eq (length (to_list ix)) (length (to_list xs))) (ap (rises itself) (sym q)
      ∙ members-rise c r.0 (atom-domain env i c a e) r.1)
      (and-right (is_some_and (members c) (λ vs. same_list vs (to_list ix))) (nat_eq (length (to_list ix)) (length (to_list xs))) l))
      (ap (list_all (Ft (type_of_dom i))) (sym q) ∙ members-fit env i c e r.0 r.1))
      (all-map (nested_matrix cs f) (Ft (nested_ty is t)) (to_list xs) h
      (and-right (is_some_and (members c) (λ vs. same_list vs (to_list ix)) && nat_eq (length (to_list ix)) (length (to_list xs)))
      (list_all (nested_matrix cs f) (to_list xs)) m))
  matrix-fits i is c cs t f a e h _ m = cc

  nested-fits : (is : Doms) (js : Domains) (t : Ty) (f : Value → Bool) → ((v : Value) → f v ≡ true → Ft t v ≡ true) →
      each_is_atom is ≡ true → domains_of is env ≡ Some js →
      (v : Value) → nested_matrix js f v ≡ true → Ft (nested_ty is t) v ≡ true
  nested-fits no_doms js t f h a e v m = let q : no_domains ≡ js = cc in h v (subst (λ j. nested_matrix j f v ≡ true) (sym q) m)
  nested-fits (more_doms i is) js t f h a e v m =
      let p = pair-some (domain_of i env) (domains_of is env) js e in
      matrix-fits i is p.0 p.1 t f (and-left (is_atom i) (each_is_atom is) a) p.2
      (nested-fits is p.1 t f h (and-right (is_atom i) (each_is_atom is) a) p.3) v
      (subst (λ j. nested_matrix j f v ≡ true) (sym p.4) m)

  -- ---- parts

  set-fits : (ks : List Attribute) (d : Domain) (t : Ty) (v : Value) → ((w : Value) → member d w ≡ true → Ft t w ≡ true) →
      member (sets ks d) v ≡ true → Ft (compound a_set (more_tys t no_tys)) v ≡ true
  set-fits ks d t (node a_set xs) f m =
      two-map (rises itself (to_list xs)) (list_all (member d) (to_list xs)) (rises itself (to_list xs)) (list_all (Ft t) (to_list xs))
      (λ q. q) (all-map (member d) (Ft t) (to_list xs) f)
      (and-left (rises itself (to_list xs) && list_all (member d) (to_list xs)) (set_attributes_hold ks (length (to_list xs))) m)
  set-fits ks d t _ f m = cc

  mset-fits : (ks : List Attribute) (d : Domain) (t : Ty) (v : Value) → ((w : Value) → member d w ≡ true → Ft t w ≡ true) →
      member (msets ks d) v ≡ true → Ft (compound a_mset (more_tys t no_tys)) v ≡ true
  mset-fits ks d t (node a_mset xs) f m =
      two-map (rises_weakly (to_list xs)) (list_all (member d) (to_list xs)) (rises_weakly (to_list xs)) (list_all (Ft t) (to_list xs))
      (λ q. q) (all-map (member d) (Ft t) (to_list xs) f)
      (and-left (rises_weakly (to_list xs) && list_all (member d) (to_list xs)) (mset_attributes_hold ks (to_list xs)) m)
  mset-fits ks d t _ f m = cc

  function-fits : (ks : List Attribute) (d c : Domain) (t u : Ty) (v : Value) → ((w : Value) → member d w ≡ true → Ft t w ≡ true) →
      ((w : Value) → member c w ≡ true → Ft u w ≡ true) →
      member (functions ks d c) v ≡ true → Ft (compound a_function (more_tys t (more_tys u no_tys))) v ≡ true
  function-fits ks d c t u (node a_function xs) f g m =
      two-map (rises from_of (to_list xs)) (list_all (λ p. is_pair p && member d (from_of p) && member c (to_of p)) (to_list xs))
      (rises from_of (to_list xs)) (list_all (λ p. is_pair p && Ft t (from_of p) && Ft u (to_of p)) (to_list xs)) (λ q. q)
      (all-map (λ p. is_pair p && member d (from_of p) && member c (to_of p)) (λ p. is_pair p && Ft t (from_of p) && Ft u (to_of p))
      (to_list xs)
      (λ p. two-map (is_pair p && member d (from_of p)) (member c (to_of p)) (is_pair p && Ft t (from_of p)) (Ft u (to_of p))
      (two-map (is_pair p) (member d (from_of p)) (is_pair p) (Ft t (from_of p)) (λ q. q) (f (from_of p))) (g (to_of p))))
      (and-left (rises from_of (to_list xs) && list_all (λ p. is_pair p && member d (from_of p) && member c (to_of p)) (to_list xs))
      (function_attributes_hold ks d c (to_list xs)) m)
  function-fits ks d c t u _ f g m = cc

  part-fits : (d : Domain) (t : Ty) (x : Value) → ((w : Value) → member d w ≡ true → Ft t w ≡ true) → is_part (member d) x ≡ true →
      is_part (Ft t) x ≡ true
  part-fits d t x f h =
      two-map (is_set x && rises itself (items_of x) && not (is_empty (items_of x))) (list_all (member d) (items_of x))
      (is_set x && rises itself (items_of x) && not (is_empty (items_of x))) (list_all (Ft t) (items_of x)) (λ q. q)
      (all-map (member d) (Ft t) (items_of x) f) h

  partition-fits : (ks : List Attribute) (d : Domain) (t : Ty) (v : Value) → ((w : Value) → member d w ≡ true → Ft t w ≡ true) →
      member (partitions ks d) v ≡ true →
      Ft (compound a_partition (more_tys t no_tys)) v ≡ true
  partition-fits ks d t (node a_partition ps) f m =
      two-map (rises itself (to_list ps) && list_all (is_part (member d)) (to_list ps)) (not (has_overlap (to_list ps)))
      (rises itself (to_list ps) && list_all (is_part (Ft t)) (to_list ps)) (not (has_overlap (to_list ps)))
      (two-map (rises itself (to_list ps)) (list_all (is_part (member d)) (to_list ps)) (rises itself (to_list ps))
      (list_all (is_part (Ft t)) (to_list ps)) (λ q. q)
      (all-map (is_part (member d)) (is_part (Ft t)) (to_list ps) (λ x. part-fits d t x f))) (λ q. q)
      (and-left (rises itself (to_list ps) && list_all (is_part (member d)) (to_list ps) && not (has_overlap (to_list ps)))
      (covers (members d) (to_list ps))
      (and-left
      (rises itself (to_list ps) && list_all (is_part (member d)) (to_list ps) && not (has_overlap (to_list ps)) && covers (members d)
      (to_list ps)) (partition_attributes_hold ks (to_list ps)) m))
  partition-fits ks d t _ f m = cc

  relation-fits : (ks : List Attribute) (ds : Domains) (ts : Tys) (v : Value) →
      ((x : Value) → tuple_member ds x ≡ true → is_tuple_of env.positions env.types ts x ≡ true) → member (relations ks ds) v ≡ true →
      Ft (compound a_relation ts) v ≡ true
  relation-fits ks ds ts (node a_relation xs) f m =
      two-map (rises itself (to_list xs)) (list_all (tuple_member ds) (to_list xs)) (rises itself (to_list xs))
      (list_all (is_tuple_of env.positions env.types ts) (to_list xs)) (λ q. q)
      (all-map (tuple_member ds) (is_tuple_of env.positions env.types ts) (to_list xs) f)
      (and-left (rises itself (to_list xs) && list_all (tuple_member ds) (to_list xs)) (relation_attributes_hold ks ds (to_list xs)) m)
  relation-fits ks ds ts _ f m = cc

  row-member : (d : Domain) (ds : Domains) (t : Ty) (ts : Tys) (x : Value) → ((w : Value) → member d w ≡ true → Ft t w ≡ true) →
      ((vs : Values) → member_of_each ds vs ≡ true → are_of env.positions env.types ts (to_list vs) ≡ true) →
      tuple_member (more_domains d ds) x ≡ true →
      is_tuple_of env.positions env.types (more_tys t ts) x ≡ true
  row-member d ds t ts (tuple (cons v vs)) f g m = two-map (member d v) (member_of_each ds vs) (Ft t v)
      (are_of env.positions env.types ts (to_list vs)) (f v) (g vs) m
  row-member d ds t ts _ f g m = cc

  tuple-fits : (ds : Domains) (ts : Tys) (v : Value) →
      ((vs : Values) → member_of_each ds vs ≡ true → are_of env.positions env.types ts (to_list vs) ≡ true) →
      member (tuples ds) v ≡ true →
      Ft (compound a_tuple ts) v ≡ true
  tuple-fits ds ts (tuple vs) f m = f vs m
  tuple-fits ds ts _ f m = cc

  record-fits : (fs : List Text) (ds : Domains) (ts : Tys) (v : Value) →
      ((vs : Values) → member_of_each ds vs ≡ true → are_of env.positions env.types ts (to_list vs) ≡ true) →
      member (records fs ds) v ≡ true → Ft (compound (a_record fs) ts) v ≡ true
  record-fits fs ds ts (node (a_record gs) vs) f m =
      two-map (same_texts fs gs) (member_of_each ds vs) (same_texts fs gs) (are_of env.positions env.types ts (to_list vs)) (λ q. q)
      (f vs) m
  record-fits fs ds ts _ f m = cc

  -- ---- domains

  moved : (c e : Domain) (v : Value) → e ≡ c → member c v ≡ true → member e v ≡ true
  moved c e v q m = subst (λ x. member x v ≡ true) (sym q) m

  both : (d : Domain) (ds : Domains) (t : Ty) (ts : Tys) (vs : Values) → ((w : Value) → member d w ≡ true → Ft t w ≡ true) →
      ((vs : Values) → member_of_each ds vs ≡ true → are_of env.positions env.types ts (to_list vs) ≡ true) →
      member_of_each (more_domains d ds) vs ≡ true →
      are_of env.positions env.types (more_tys t ts) (to_list vs) ≡ true
  both d ds t ts (cons v vs) f g m = two-map (member d v) (member_of_each ds vs) (Ft t v) (are_of env.positions env.types ts (to_list vs))
      (f v) (g vs) m
  both d ds t ts nil f g m = cc

  mutual
    -- A member has the type of the domain.
    pub member-fits : (d : Dom) (c : Domain) → is_proper d ≡ true → domain_of d env ≡ Some c → (v : Value) → member c v ≡ true →
        Ft (type_of_dom d) v ≡ true
    member-fits bool_dom c p e v m = let q : booleans ≡ c = cc in bool-fits env v (moved c booleans v q m)
    member-fits (int_dom rs es) c p e v m = let r = some-map (spans_of rs (meanings es env)) integers c e in
        int-fits env r.0 v (moved c (integers r.0) v r.2 m)
    member-fits (name_dom a) c p e v m = named-fits env env.positions a (type_entry env.types a) c e v m
    member-fits (tuple_dom ds) c p e v m =
        let r = some-map (domains_of ds env) tuples c e in
        tuple-fits r.0 (types_of_doms ds) v (each-fits ds r.0 p r.1) (moved c (tuples r.0) v r.2 m)
    member-fits (record_dom fs ds) c p e v m =
        let r = some-map (domains_of ds env) (records fs) c e in
        record-fits fs r.0 (types_of_doms ds) v (each-fits ds r.0 p r.1) (moved c (records fs r.0) v r.2 m)
    member-fits (matrix_dom is d) c p e v m =
        let r = some-then (domains_of is env) (λ js. option_map (matrices js) (domain_of d env)) c e in
        let s = some-map (domain_of d env) (matrices r.0) c r.2 in
        nested-fits is r.0 (type_of_dom d) (member s.0) (member-fits d s.0 (and-right (each_is_atom is) (is_proper d) p) s.1)
        (and-left (each_is_atom is) (is_proper d) p) r.1 v
        (moved c (matrices r.0 s.0) v s.2 m)
    member-fits (set_dom ms es d) c p e v m =
        let r = some-then (attributes_of ms (meanings es env)) (λ ks. option_map (sets ks) (domain_of d env)) c e in
        let s = some-map (domain_of d env) (sets r.0) c r.2 in
        set-fits r.0 s.0 (type_of_dom d) v (member-fits d s.0 p s.1) (moved c (sets r.0 s.0) v s.2 m)
    member-fits (mset_dom ms es d) c p e v m =
        let r = some-then (attributes_of ms (meanings es env)) (λ ks. option_map (msets ks) (domain_of d env)) c e in
        let s = some-map (domain_of d env) (msets r.0) c r.2 in
        mset-fits r.0 s.0 (type_of_dom d) v (member-fits d s.0 p s.1) (moved c (msets r.0 s.0) v s.2 m)
    member-fits (function_dom ms es d f) c p e v m =
        let r = some-then (attributes_of ms (meanings es env))
        (λ ks. and_then (domain_of d env) (λ x. option_map (functions ks x) (domain_of f env))) c e in
        let s = some-then (domain_of d env) (λ x. option_map (functions r.0 x) (domain_of f env)) c r.2 in
        let t = some-map (domain_of f env) (functions r.0 s.0) c s.2 in
        function-fits r.0 s.0 t.0 (type_of_dom d) (type_of_dom f) v (member-fits d s.0 (and-left (is_proper d) (is_proper f) p) s.1)
        (member-fits f t.0 (and-right (is_proper d) (is_proper f) p) t.1)
        (moved c (functions r.0 s.0 t.0) v t.2 m)
    member-fits (relation_dom ms es no_doms) c p e v m = cc
    member-fits (relation_dom ms es (more_doms d ds)) c p e v m =
        let r = some-then (attributes_of ms (meanings es env)) (λ ks. option_map (relations ks) (domains_of (more_doms d ds) env)) c e in
        let s = some-map (domains_of (more_doms d ds) env) (relations r.0) c r.2 in
        let t = pair-some (domain_of d env) (domains_of ds env) s.0 s.1 in
        relation-fits r.0 (more_domains t.0 t.1) (more_tys (type_of_dom d) (types_of_doms ds)) v
        (λ x. row-member t.0 t.1 (type_of_dom d) (types_of_doms ds) x (member-fits d t.0 (and-left (is_proper d) (are_proper ds) p) t.2)
        (each-fits ds t.1 (and-right (is_proper d) (are_proper ds) p) t.3))
        (moved c (relations r.0 (more_domains t.0 t.1)) v (ap (relations r.0) t.4 ∙ s.2) m)
    member-fits (partition_dom ms es d) c p e v m =
        let r = some-then (attributes_of ms (meanings es env)) (λ ks. option_map (partitions ks) (domain_of d env)) c e in
        let s = some-map (domain_of d env) (partitions r.0) c r.2 in
        partition-fits r.0 s.0 (type_of_dom d) v (member-fits d s.0 p s.1) (moved c (partitions r.0 s.0) v s.2 m)

    each-fits : (ds : Doms) (cs : Domains) → are_proper ds ≡ true → domains_of ds env ≡ Some cs → (vs : Values) →
        member_of_each cs vs ≡ true →
        are_of env.positions env.types (types_of_doms ds) (to_list vs) ≡ true
    each-fits no_doms cs p e nil m = refl
    each-fits no_doms cs p e (cons v vs) m = let q : no_domains ≡ cs = cc in
        let n : false ≡ true = subst (λ x. member_of_each x (cons v vs) ≡ true) (sym q) m in cc
    each-fits (more_doms d ds) cs p e vs m =
        let t = pair-some (domain_of d env) (domains_of ds env) cs e in
        both t.0 t.1 (type_of_dom d) (types_of_doms ds) vs (member-fits d t.0 (and-left (is_proper d) (are_proper ds) p) t.2)
        (each-fits ds t.1 (and-right (is_proper d) (are_proper ds) p) t.3)
        (subst (λ x. member_of_each x vs ≡ true) (sym t.4) m)
