-- Members of finite domains without a number outside 64 bits have numbers that fit.
use Rattle.std.proofs.Common.{◌≡◌, refl, sym, ap, ◌∙◌, subst, Bool, true, false, ◌&&◌, ◌||◌, List, length, nat_eq, Some, option_map}
use Rattle.std.specs.List.{list_all}
use Rattle.ess_semantics.specs.Lists.{and_then, is_some_and, list_or_none}
use Rattle.ess_semantics.specs.Values.{Value, Values, to_list, of_list, matrix}
use Rattle.ess_semantics.specs.Order.{orders}
use Rattle.ess_semantics.specs.Trees.{Dom, Doms, bool_dom, int_dom, name_dom, tuple_dom, record_dom, matrix_dom, set_dom, mset_dom, function_dom, relation_dom, partition_dom, no_doms, more_doms}
use Rattle.ess_semantics.specs.Kinds.{is_atom}
use Rattle.ess_semantics.specs.Domains.{Domain, Domains, booleans, integers, tuples, records, matrices, sets, msets, functions, relations, partitions, no_domains, more_domains, members}
use Rattle.ess_semantics.specs.Membership.{same_list, nested_matrix, member}
use Rattle.ess_semantics.specs.Meaning.{Env, spans_of, attributes_of, type_entry, named_domain, meanings, domain_of, domains_of}
use Rattle.ess_semantics.specs.Large.{any_large, is_large_dom, any_large_dom}
use Rattle.ess_semantics.specs.DomainJudgements.{bounds_occurrences, is_finite, are_finite}
use Rattle.ess_semantics.proofs.Orders.{orders_exact, equal-of, to_list-of_list}
use Rattle.ess_semantics.proofs.MemberLists.{atom-listed}
use Rattle.ess_semantics.proofs.Tests.{and-left, and-right, and-both, some-and, or-left-no, or-right-no}
use Rattle.ess_types_laws.specs.ProperDomains.{each_is_atom}
use Rattle.ess_types_laws.proofs.SoundParts.{some-then, some-map, atom-domain}
use Rattle.ess_values_laws.specs.Spellable.{numbers_fit, all_numbers_fit}
use Rattle.ess_member_literals_laws.specs.ToldDomains.{IsTold, AreTold}
use Rattle.conjure_round_laws.proofs.NumbersInside.{int-fit, named-fit, bool-fit, each-fit, set-fit, mset-fit, function-fit, partition-fit, AllFit, tuple-fit, record-fit, relation-fit}

one-list : (xs : List Value) (ys : Values) → same_list xs (to_list ys) ≡ true → xs ≡ to_list ys
one-list xs ys e =
    sym (to_list-of_list xs)
    ∙ ap to_list (orders_exact (of_list xs) (of_list (to_list ys)) (equal-of (orders (of_list xs) (of_list (to_list ys))) e))
    ∙ to_list-of_list (to_list ys)

-- Index domains are atoms, and so told.
atom-told : (d : Dom) → is_atom d ≡ true → IsTold d
atom-told bool_dom a = tt
atom-told (int_dom rs es) a = tt
atom-told (name_dom n) a = tt
atom-told (tuple_dom ds) a = cc
atom-told (record_dom fs ds) a = cc
atom-told (matrix_dom is d) a = cc
atom-told (set_dom ms es d) a = cc
atom-told (mset_dom ms es d) a = cc
atom-told (function_dom ms es d c) a = cc
atom-told (relation_dom ms es ds) a = cc
atom-told (partition_dom ms es d) a = cc

module _ (env : Env) (plain : env.positions ≡ false) where
  -- ---- matrices

  nested-fit : (is : Doms) (js : Domains) (f : Value → Bool) → AllFit env js → each_is_atom is ≡ true → domains_of is env ≡ Some js →
      ((v : Value) → f v ≡ true → numbers_fit v ≡ true) → (v : Value) → nested_matrix js f v ≡ true → numbers_fit v ≡ true
  nested-fit no_doms js f h a e g v m = let q : no_domains ≡ js = cc in g v (subst (λ j. nested_matrix j f v ≡ true) (sym q) m)
  nested-fit (more_doms i is) js f h a e g v m =
      let x = some-then (domain_of i env) (λ x. option_map (more_domains x) (domains_of is env)) js e in
      let y = some-map (domains_of is env) (more_domains x.0) js x.2 in
      let k : AllFit env (more_domains x.0 y.0) = subst (AllFit env) (sym y.2) h in
      one x.0 y.0 k x.1 (nested-fit is y.0 f k.1 (and-right (is_atom i) (each_is_atom is) a) y.1 g) v
      (subst (λ j. nested_matrix j f v ≡ true) (sym y.2) m)
    where
      one : (c : Domain) (cs : Domains) → AllFit env (more_domains c cs) → domain_of i env ≡ Some c →
          ((w : Value) → nested_matrix cs f w ≡ true → numbers_fit w ≡ true) → (v : Value) →
          nested_matrix (more_domains c cs) f v ≡ true → numbers_fit v ≡ true
      one c cs k e r (matrix ix xs) m =
          let A = is_some_and (members c) (λ vs. same_list vs (to_list ix)) in
          let B = nat_eq (length (to_list ix)) (length (to_list xs)) in
          let C = list_all (nested_matrix cs f) (to_list xs) in
          let s = some-and (members c) (λ vs. same_list vs (to_list ix)) (and-left A B (and-left (A && B) C m)) in
          let q : list_all (member c) (to_list ix) ≡ true =
          ap (list_all (member c)) (sym (one-list s.0 ix s.2)) ∙ ap (λ o. list_all (member c) (list_or_none o)) (sym s.1)
          ∙ (atom-listed c (atom-domain env i c (and-left (is_atom i) (each_is_atom is) a) e)).members in
          and-both (all_numbers_fit ix) (all_numbers_fit xs && true) (each-fit env (member c) ix k.0 q)
          (and-both (all_numbers_fit xs) true (each-fit env (nested_matrix cs f) xs r (and-right (A && B) C m)) refl)
      one c cs k e r _ m = cc

  -- ---- domains

  moved : (c e : Domain) (v : Value) → e ≡ c → member c v ≡ true → member e v ≡ true
  moved c e v q m = subst (λ x. member x v ≡ true) (sym q) m

  mutual
    -- The numbers of a member fit.
    pub member-fit : (d : Dom) (c : Domain) → IsTold d → is_finite d ≡ true → is_large_dom d env ≡ false → domain_of d env ≡ Some c →
        (v : Value) → member c v ≡ true → numbers_fit v ≡ true
    member-fit bool_dom c t f l e v m = let q : booleans ≡ c = cc in bool-fit env v (moved c booleans v q m)
    member-fit (int_dom rs es) c t f l e v m =
        let r = some-map (spans_of rs (meanings es env)) integers c e in int-fit env rs es r.0 f l r.1 v (moved c (integers r.0) v r.2 m)
    member-fit (name_dom a) c t f l e v m =
        named-fit env a (type_entry env.types a) c (ap (λ b. named_domain b a (type_entry env.types a)) (sym plain) ∙ e) v m
    member-fit (tuple_dom ds) c t f l e v m =
        let r = some-map (domains_of ds env) tuples c e in
        tuple-fit env r.0 v (all-fit ds r.0 t.1 f l r.1) (moved c (tuples r.0) v r.2 m)
    member-fit (record_dom fs ds) c t f l e v m =
        let r = some-map (domains_of ds env) (records fs) c e in
        record-fit env fs r.0 v (all-fit ds r.0 t.1 f l r.1) (moved c (records fs r.0) v r.2 m)
    member-fit (matrix_dom is d) c t f l e v m =
        let r = some-then (domains_of is env) (λ js. option_map (matrices js) (domain_of d env)) c e in
        let s = some-map (domain_of d env) (matrices r.0) c r.2 in
        nested-fit is r.0 (member s.0)
        (index-fit is r.0 (and-left (are_finite is) (is_finite d) f) (or-left-no (any_large_dom is env) (is_large_dom d env) l) t.0 r.1) t.0
        r.1
        (member-fit d s.0 t.1 (and-right (are_finite is) (is_finite d) f) (or-right-no (any_large_dom is env) (is_large_dom d env) l) s.1) v
        (moved c (matrices r.0 s.0) v s.2 m)
    member-fit (set_dom ms es d) c t f l e v m =
        let r = some-then (attributes_of ms (meanings es env)) (λ ks. option_map (sets ks) (domain_of d env)) c e in
        let s = some-map (domain_of d env) (sets r.0) c r.2 in
        set-fit env r.0 s.0 v (member-fit d s.0 t f (or-right-no (any_large es env) (is_large_dom d env) l) s.1)
        (moved c (sets r.0 s.0) v s.2 m)
    member-fit (mset_dom ms es d) c t f l e v m =
        let r = some-then (attributes_of ms (meanings es env)) (λ ks. option_map (msets ks) (domain_of d env)) c e in
        let s = some-map (domain_of d env) (msets r.0) c r.2 in
        mset-fit env r.0 s.0 v
        (member-fit d s.0 t (and-left (is_finite d) (bounds_occurrences ms) f) (or-right-no (any_large es env) (is_large_dom d env) l) s.1)
        (moved c (msets r.0 s.0) v s.2 m)
    member-fit (function_dom ms es d g) c t f l e v m =
        let r = some-then (attributes_of ms (meanings es env))
        (λ ks. and_then (domain_of d env) (λ x. option_map (functions ks x) (domain_of g env))) c e in
        let s = some-then (domain_of d env) (λ x. option_map (functions r.0 x) (domain_of g env)) c r.2 in
        let u = some-map (domain_of g env) (functions r.0 s.0) c s.2 in
        let k = or-left-no (any_large es env || is_large_dom d env) (is_large_dom g env) l in
        function-fit env r.0 s.0 u.0 v
        (member-fit d s.0 t.0 (and-left (is_finite d) (is_finite g) f) (or-right-no (any_large es env) (is_large_dom d env) k) s.1)
        (member-fit g u.0 t.1 (and-right (is_finite d) (is_finite g) f)
        (or-right-no (any_large es env || is_large_dom d env) (is_large_dom g env) l) u.1)
        (moved c (functions r.0 s.0 u.0) v u.2 m)
    member-fit (relation_dom ms es ds) c t f l e v m =
        let r = some-then (attributes_of ms (meanings es env)) (λ ks. option_map (relations ks) (domains_of ds env)) c e in
        let s = some-map (domains_of ds env) (relations r.0) c r.2 in
        relation-fit env r.0 s.0 v (all-fit ds s.0 t.1 f (or-right-no (any_large es env) (any_large_dom ds env) l) s.1)
        (moved c (relations r.0 s.0) v s.2 m)
    member-fit (partition_dom ms es d) c t f l e v m =
        let r = some-then (attributes_of ms (meanings es env)) (λ ks. option_map (partitions ks) (domain_of d env)) c e in
        let s = some-map (domain_of d env) (partitions r.0) c r.2 in
        partition-fit env r.0 s.0 v (member-fit d s.0 t f (or-right-no (any_large es env) (is_large_dom d env) l) s.1)
        (moved c (partitions r.0 s.0) v s.2 m)

    all-fit : (ds : Doms) (cs : Domains) → AreTold ds → are_finite ds ≡ true → any_large_dom ds env ≡ false → domains_of ds env ≡ Some cs →
        AllFit env cs
    all-fit no_doms cs t f l e = let q : no_domains ≡ cs = cc in subst (AllFit env) q tt
    all-fit (more_doms d ds) cs t f l e =
        let x = some-then (domain_of d env) (λ x. option_map (more_domains x) (domains_of ds env)) cs e in
        let y = some-map (domains_of ds env) (more_domains x.0) cs x.2 in
        subst (AllFit env) y.2 (
          member-fit d x.0 t.0 (and-left (is_finite d) (are_finite ds) f) (or-left-no (is_large_dom d env) (any_large_dom ds env) l) x.1,
          all-fit ds y.0 t.1 (and-right (is_finite d) (are_finite ds) f) (or-right-no (is_large_dom d env) (any_large_dom ds env) l) y.1,
        )

    -- index domains are atoms, and so told
    index-fit : (ds : Doms) (cs : Domains) → are_finite ds ≡ true → any_large_dom ds env ≡ false → each_is_atom ds ≡ true →
        domains_of ds env ≡ Some cs → AllFit env cs
    index-fit no_doms cs f l a e = let q : no_domains ≡ cs = cc in subst (AllFit env) q tt
    index-fit (more_doms d ds) cs f l a e =
        let x = some-then (domain_of d env) (λ x. option_map (more_domains x) (domains_of ds env)) cs e in
        let y = some-map (domains_of ds env) (more_domains x.0) cs x.2 in
        subst (AllFit env) y.2 (
          member-fit d x.0 (atom-told d (and-left (is_atom d) (each_is_atom ds) a)) (and-left (is_finite d) (are_finite ds) f)
              (or-left-no (is_large_dom d env) (any_large_dom ds env) l) x.1,
          index-fit ds y.0 (and-right (is_finite d) (are_finite ds) f) (or-right-no (is_large_dom d env) (any_large_dom ds env) l)
              (and-right (is_atom d) (each_is_atom ds) a) y.1,
        )
