-- A member of a domain is printed as a literal of the domain's type that has it: by the kinds of domains. Its text is read back.
use Rattle.std.proofs.Common.{◌≡◌, refl, sym, ap, ◌∙◌, subst, ℕ, true, false, ◌&&◌, not, if◌then◌else◌, List, [], ◌∷◌, ℤ, pos, negsuc, nat_le, Option, Some, None, option_map}
use Rattle.std.specs.List.{list_all}
use Rattle.std.specs.Prelude.{is_some}
use Rattle.ess_semantics.specs.Lists.{and_then, is_some_and}
use Rattle.ess_semantics.specs.Values.{Text, a_tuple, a_set, a_mset, a_function, a_relation, a_partition, a_record, Value, number, truth, item, node, Values, nil, cons, to_list, tuple, from_of, to_of, itself}
use Rattle.ess_semantics.specs.Order.{same_text, same_texts, order_texts}
use Rattle.ess_semantics.specs.Collections.{rises, rises_weakly, has_overlap}
use Rattle.ess_semantics.specs.Attributes.{set_attributes_hold, mset_attributes_hold, function_attributes_hold, relation_attributes_hold, partition_attributes_hold}
use Rattle.ess_semantics.specs.Trees.{number_ex, truth_ex, name_ex, Dom, Doms, bool_dom, int_dom, name_dom, tuple_dom, record_dom, matrix_dom, set_dom, mset_dom, function_dom, relation_dom, partition_dom, no_doms, more_doms}
use Rattle.ess_semantics.specs.Types.{Ty, bool_ty, int_ty, named_ty, compound, Tys, more_tys, compound1, compound2, type_of_dom, types_of_doms, join}
use Rattle.ess_semantics.specs.Domains.{Span, Attribute, Domain, Domains, booleans, integers, named, tuples, records, matrices, sets, msets, functions, relations, partitions, no_domains, more_domains, members}
use Rattle.ess_semantics.specs.Membership.{is_pair, is_part, covers, member, member_of_each, tuple_member}
use Rattle.ess_semantics.specs.Meaning.{Env, TypeEntry, type_entry, named_domain, domain_of, domains_of, meanings, spans_of, attributes_of}
use Rattle.ess_semantics.specs.Literals.{item_of_name, type_of_item, value_of_literal, literal_value}
use Rattle.ess_semantics.proofs.Orders.{texts_exact, equal-of}
use Rattle.ess_semantics.proofs.Texts.{same_text-equal}
use Rattle.ess_semantics.proofs.Tests.{and-left, and-right}
use Rattle.ess_grammar.specs.ValueTexts.{literal_of, number_literal}
use Rattle.ess_types_laws.proofs.SoundParts.{some-then, some-map}
use Rattle.ess_values_laws.specs.ItemNames.{item_name}
use Rattle.ess_values_laws.specs.Laws.{HasItemNames}
use Rattle.ess_values_laws.proofs.LeastJoins.{join-within}
use Rattle.ess_values_laws.proofs.TypeOrder.{Within, within-itself, within-on}
use Rattle.ess_values_laws.proofs.KeptValues.{printed}
use Rattle.ess_values_laws.proofs.ReadBack.{named-spelled}
use Rattle.ess_values_laws.proofs.NamesOfItems.{item-names}
use Rattle.ess_member_literals_laws.proofs.NamesAgree.{same-literal, same-spelled}
use Rattle.ess_member_literals_laws.specs.ToldDomains.{are_fields, IsTold, AreTold, NamesItems}
use Rattle.ess_member_literals_laws.specs.Laws.{MembersHaveLiterals, MembersAreSpelled}
use Rattle.ess_member_literals_laws.proofs.PartLiterals.{HasLiteral, HasWhole, whole-literal, literal-at, AllHave, each-has, each-whole, set-has, mset-has, tuple-has, record-has}
use Rattle.ess_member_literals_laws.proofs.EntryLiterals.{pair-has, function-has, relation-has, partition-has}
use Rattle.ess_member_literals_laws.proofs.MatrixMembers.{matrix-has}

module _ (env : Env) (name_of : Text → ℕ → Text) (names : HasItemNames env) (items : NamesItems name_of env.types) where
  -- ---- atoms

  number-has : (n : ℤ) → HasLiteral env name_of (number n) int_ty
  number-has (pos n) =
      literal-at env name_of (number (pos n)) (number (pos n)) int_ty int_ty
      (printed env names (number_ex (pos n)) int_ty (number (pos n)) refl refl) refl tt (refl, tt)
  number-has (negsuc n) =
      literal-at env name_of (number (negsuc n)) (number (negsuc n)) int_ty int_ty
      (printed env names (number_literal (negsuc n)) int_ty (number (negsuc n)) refl refl) refl tt (refl, tt)

  int-has : (ss : List Span) (v : Value) → member (integers ss) v ≡ true → HasLiteral env name_of v int_ty
  int-has ss (number n) m = number-has n
  int-has ss _ m = cc

  bool-has : (v : Value) → member booleans v ≡ true → HasLiteral env name_of v bool_ty
  bool-has (truth b) m =
      literal-at env name_of (truth b) (truth b) bool_ty bool_ty (printed env names (truth_ex b) bool_ty (truth b) refl refl) refl tt (refl, tt)
  bool-has _ m = cc

  item-has : (t : Text) (k : ℕ) → item_of_name env.types (name_of t k) ≡ Some (item t k) → HasLiteral env name_of (item t k) (named_ty t)
  item-has t k e =
      let r = item-names env.types (name_of t k) (item t k) names.1 e in
      let a : name_of t k ≡ item_name env.types t k =
      let u : t ≡ r.0 = let z = r.2 in cc in
      let w : k ≡ r.1 = let z = r.2 in cc in
      sym r.3 ∙ ap (λ x. item_name env.types x r.1) (sym u) ∙ ap (item_name env.types t) (sym w) in
      let q : item_of_name env.types (item_name env.types t k) ≡ Some (item t k) = ap (item_of_name env.types) (sym a) ∙ e in
      literal-at env name_of (item t k) (item t k) (named_ty t) (named_ty t)
      (printed env names (name_ex (item_name env.types t k)) (named_ty t) (item t k) (ap type_of_item q) q) refl refl (refl, a)

  named-has : (a : Text) (o : Option TypeEntry) (c : Domain) → type_entry env.types a ≡ o → named_domain false a o ≡ Some c → (v : Value) →
      member c v ≡ true → HasLiteral env name_of v (named_ty a)
  named-has a None c q e v m = cc
  named-has a (Some n) c q e v m = go v (subst (λ d. member d v ≡ true) (let z : named a n.count ≡ c = cc in sym z) m)
    where
      go : (v : Value) → member (named a n.count) v ≡ true → HasLiteral env name_of v (named_ty a)
      go (item t k) m =
          let l = and-left (same_text a t && nat_le 1 k) (nat_le k n.count) m in
          let s : a ≡ t = same_text-equal a t (and-left (same_text a t) (nat_le 1 k) l) in
          subst (λ x. HasLiteral env name_of (item x k) (named_ty a)) s
          (item-has a k (items a n k q (and-right (same_text a t) (nat_le 1 k) l) (and-right (same_text a t && nat_le 1 k) (nat_le k n.count) m)))
      go _ m = cc

  -- ---- parts

  set-of-has : (ks : List Attribute) (d : Domain) (s : Ty) (v : Value) → ((w : Value) → member d w ≡ true → HasLiteral env name_of w s) →
      member (sets ks d) v ≡ true → HasLiteral env name_of v (compound1 a_set s)
  set-of-has ks d s (node a_set xs) f m =
      let l = and-left (rises itself (to_list xs) && list_all (member d) (to_list xs)) (set_attributes_hold ks _) m in
      whole-literal env name_of (node a_set xs) (compound1 a_set s)
      (set-has env name_of xs s (and-left (rises itself (to_list xs)) (list_all (member d) (to_list xs)) l)
      (each-has env name_of (member d) (to_list xs) s f (and-right (rises itself (to_list xs)) (list_all (member d) (to_list xs)) l)))
  set-of-has ks d s _ f m = cc

  mset-of-has : (ks : List Attribute) (d : Domain) (s : Ty) (v : Value) → ((w : Value) → member d w ≡ true → HasLiteral env name_of w s) →
      member (msets ks d) v ≡ true → HasLiteral env name_of v (compound1 a_mset s)
  mset-of-has ks d s (node a_mset xs) f m =
      let l = and-left (rises_weakly (to_list xs) && list_all (member d) (to_list xs)) (mset_attributes_hold ks (to_list xs)) m in
      whole-literal env name_of (node a_mset xs) (compound1 a_mset s)
      (mset-has env name_of xs s (and-left (rises_weakly (to_list xs)) (list_all (member d) (to_list xs)) l)
      (each-has env name_of (member d) (to_list xs) s f (and-right (rises_weakly (to_list xs)) (list_all (member d) (to_list xs)) l)))
  mset-of-has ks d s _ f m = cc

  all-pairs : (d c : Domain) (ps : List Value) → list_all (λ p. is_pair p && member d (from_of p) && member c (to_of p)) ps ≡ true →
      list_all is_pair ps ≡ true
  all-pairs d c [] h = refl
  all-pairs d c (p ∷ ps) h =
      let a = and-left (is_pair p && member d (from_of p) && member c (to_of p)) (list_all _ ps) h in
      let b = and-left (is_pair p) (member d (from_of p)) (and-left (is_pair p && member d (from_of p)) (member c (to_of p)) a) in
      ap (λ t. t && list_all is_pair ps) b
      ∙ all-pairs d c ps (and-right (is_pair p && member d (from_of p) && member c (to_of p)) (list_all _ ps) h)

  function-of-has : (ks : List Attribute) (d c : Domain) (s u : Ty) (v : Value) → ((w : Value) → member d w ≡ true → HasLiteral env name_of w s) →
      ((w : Value) → member c w ≡ true → HasLiteral env name_of w u) → member (functions ks d c) v ≡ true → HasLiteral env name_of v (compound2 a_function s u)
  function-of-has ks d c s u (node a_function ps) f g m =
      let R = rises from_of (to_list ps) in
      let Q = list_all (λ p. is_pair p && member d (from_of p) && member c (to_of p)) (to_list ps) in
      let l = and-left (R && Q) (function_attributes_hold ks d c (to_list ps)) m in
      let q = and-right R Q l in
      function-has env name_of ps s u (all-pairs d c (to_list ps) q) (and-left R Q l)
      (each-whole env name_of (λ p. is_pair p && member d (from_of p) && member c (to_of p)) (to_list ps) (compound2 a_tuple s u) one q)
    where
      one : (p : Value) → is_pair p && member d (from_of p) && member c (to_of p) ≡ true → HasWhole env name_of p (compound2 a_tuple s u)
      one p h =
          let a = and-left (is_pair p && member d (from_of p)) (member c (to_of p)) h in
          pair-has env name_of p s u (and-left (is_pair p) (member d (from_of p)) a) (f (from_of p) (and-right (is_pair p) (member d (from_of p)) a))
          (g (to_of p) (and-right (is_pair p && member d (from_of p)) (member c (to_of p)) h))
  function-of-has ks d c s u _ f g m = cc

  row-has : (d : Domain) (ds : Domains) (s : Ty) (ss : Tys) (x : Value) → ((w : Value) → member d w ≡ true → HasLiteral env name_of w s) →
      ((vs : Values) → member_of_each ds vs ≡ true → AllHave env name_of vs ss) → tuple_member (more_domains d ds) x ≡ true →
      HasWhole env name_of x (compound a_tuple (more_tys s ss))
  row-has d ds s ss (tuple (cons v vs)) f g m =
      tuple-has env name_of (cons v vs) s ss (f v (and-left (member d v) (member_of_each ds vs) m), g vs (and-right (member d v) (member_of_each ds vs) m))
  row-has d ds s ss _ f g m = cc

  relation-of-has : (ks : List Attribute) (d : Domain) (ds : Domains) (s : Ty) (ss : Tys) (v : Value) →
      ((x : Value) → tuple_member (more_domains d ds) x ≡ true → HasWhole env name_of x (compound a_tuple (more_tys s ss))) →
      member (relations ks (more_domains d ds)) v ≡ true → HasLiteral env name_of v (compound a_relation (more_tys s ss))
  relation-of-has ks d ds s ss (node a_relation xs) f m =
      let R = rises itself (to_list xs) in
      let Q = list_all (tuple_member (more_domains d ds)) (to_list xs) in
      let l = and-left (R && Q) (relation_attributes_hold ks (more_domains d ds) (to_list xs)) m in
      relation-has env name_of xs s ss (and-left R Q l)
      (each-whole env name_of (tuple_member (more_domains d ds)) (to_list xs) (compound a_tuple (more_tys s ss)) f (and-right R Q l))
  relation-of-has ks d ds s ss _ f m = cc

  partition-of-has : (ks : List Attribute) (d : Domain) (s : Ty) (v : Value) → ((w : Value) → member d w ≡ true → HasLiteral env name_of w s) →
      member (partitions ks d) v ≡ true → HasLiteral env name_of v (compound1 a_partition s)
  partition-of-has ks d s (node a_partition ps) f m =
      let R = rises itself (to_list ps) in
      let Q = list_all (is_part (member d)) (to_list ps) in
      let O = not (has_overlap (to_list ps)) in
      let C = covers (members d) (to_list ps) in
      let a = and-left (R && Q && O && C) (partition_attributes_hold ks (to_list ps)) m in
      let b = and-left (R && Q && O) C a in
      let c = and-left (R && Q) O b in
      partition-has env name_of (member d) ps s f (and-left R Q c) (and-right R Q c) (and-right (R && Q) O b)
  partition-of-has ks d s _ f m = cc

  tuple-of-has : (d : Domain) (ds : Domains) (s : Ty) (ss : Tys) (v : Value) →
      ((vs : Values) → member_of_each (more_domains d ds) vs ≡ true → AllHave env name_of vs (more_tys s ss)) →
      member (tuples (more_domains d ds)) v ≡ true → HasLiteral env name_of v (compound a_tuple (more_tys s ss))
  tuple-of-has d ds s ss (tuple vs) f m =
      whole-literal env name_of (tuple vs) (compound a_tuple (more_tys s ss)) (tuple-has env name_of vs s ss (f vs m))
  tuple-of-has d ds s ss _ f m = cc

  record-of-has : (fs : List Text) (ds : Doms) (cs : Domains) (v : Value) → are_fields fs ds ≡ true →
      ((vs : Values) → member_of_each cs vs ≡ true → AllHave env name_of vs (types_of_doms ds)) → member (records fs cs) v ≡ true →
      HasLiteral env name_of v (compound (a_record fs) (types_of_doms ds))
  record-of-has fs ds cs (node (a_record gs) vs) w f m =
      let e : fs ≡ gs = texts_exact fs gs (equal-of (order_texts fs gs) (and-left (same_texts fs gs) (member_of_each cs vs) m)) in
      subst (λ hs. HasLiteral env name_of (node (a_record hs) vs) (compound (a_record fs) (types_of_doms ds))) e
      (record-has env name_of fs ds vs w (f vs (and-right (same_texts fs gs) (member_of_each cs vs) m)))
  record-of-has fs ds cs _ w f m = cc

  -- ---- domains

  moved : (c e : Domain) (v : Value) → e ≡ c → member c v ≡ true → member e v ≡ true
  moved c e v q m = subst (λ x. member x v ≡ true) (sym q) m

  both : (d : Domain) (ds : Domains) (s : Ty) (ss : Tys) (vs : Values) → ((w : Value) → member d w ≡ true → HasLiteral env name_of w s) →
      ((vs : Values) → member_of_each ds vs ≡ true → AllHave env name_of vs ss) → member_of_each (more_domains d ds) vs ≡ true →
      AllHave env name_of vs (more_tys s ss)
  both d ds s ss (cons v vs) f g m =
      (f v (and-left (member d v) (member_of_each ds vs) m), g vs (and-right (member d v) (member_of_each ds vs) m))
  both d ds s ss nil f g m = cc

  pair-some : (ds : Option Domain) (es : Option Domains) (c : Domains) → and_then ds (λ x. option_map (more_domains x) es) ≡ Some c →
      (a : Domain) × (b : Domains) × (ds ≡ Some a) × (es ≡ Some b) × (more_domains a b ≡ c)
  pair-some ds es c e =
      let a = some-then ds (λ x. option_map (more_domains x) es) c e in
      let b = some-map es (more_domains a.0) c a.2 in (a.0, b.0, a.1, b.1, b.2)

  mutual
    -- A member has a literal of the domain's type.
    pub member-has : (d : Dom) (c : Domain) → IsTold d → domain_of d env ≡ Some c → (v : Value) → member c v ≡ true →
        HasLiteral env name_of v (type_of_dom d)
    member-has bool_dom c p e v m = let q : booleans ≡ c = cc in bool-has v (moved c booleans v q m)
    member-has (int_dom rs es) c p e v m = let r = some-map (spans_of rs (meanings es env)) integers c e in
        int-has r.0 v (moved c (integers r.0) v r.2 m)
    member-has (name_dom a) c p e v m =
        named-has a (type_entry env.types a) c refl (ap (λ b. named_domain b a (type_entry env.types a)) (sym names.0) ∙ e) v m
    member-has (tuple_dom no_doms) c p e v m = let z = p.0 in cc
    member-has (tuple_dom (more_doms d ds)) c p e v m =
        let r = some-map (domains_of (more_doms d ds) env) tuples c e in
        let t = pair-some (domain_of d env) (domains_of ds env) r.0 r.1 in
        tuple-of-has t.0 t.1 (type_of_dom d) (types_of_doms ds) v
        (λ vs k. both t.0 t.1 (type_of_dom d) (types_of_doms ds) vs (member-has d t.0 p.1.0 t.2) (each-member ds t.1 p.1.1 t.3) k)
        (moved c (tuples (more_domains t.0 t.1)) v (ap tuples t.4 ∙ r.2) m)
    member-has (record_dom fs ds) c p e v m =
        let r = some-map (domains_of ds env) (records fs) c e in
        record-of-has fs ds r.0 v p.0 (each-member ds r.0 p.1 r.1) (moved c (records fs r.0) v r.2 m)
    member-has (matrix_dom is d) c p e v m =
        let r = some-then (domains_of is env) (λ js. option_map (matrices js) (domain_of d env)) c e in
        let s = some-map (domain_of d env) (matrices r.0) c r.2 in
        matrix-has env name_of names.0 is r.0 (type_of_dom d) (member s.0) (member-has d s.0 p.1 s.1) p.0 r.1 v (moved c (matrices r.0 s.0) v s.2 m)
    member-has (set_dom ms es d) c p e v m =
        let r = some-then (attributes_of ms (meanings es env)) (λ ks. option_map (sets ks) (domain_of d env)) c e in
        let s = some-map (domain_of d env) (sets r.0) c r.2 in
        set-of-has r.0 s.0 (type_of_dom d) v (member-has d s.0 p s.1) (moved c (sets r.0 s.0) v s.2 m)
    member-has (mset_dom ms es d) c p e v m =
        let r = some-then (attributes_of ms (meanings es env)) (λ ks. option_map (msets ks) (domain_of d env)) c e in
        let s = some-map (domain_of d env) (msets r.0) c r.2 in
        mset-of-has r.0 s.0 (type_of_dom d) v (member-has d s.0 p s.1) (moved c (msets r.0 s.0) v s.2 m)
    member-has (function_dom ms es d f) c p e v m =
        let r = some-then (attributes_of ms (meanings es env))
        (λ ks. and_then (domain_of d env) (λ x. option_map (functions ks x) (domain_of f env))) c e in
        let s = some-then (domain_of d env) (λ x. option_map (functions r.0 x) (domain_of f env)) c r.2 in
        let t = some-map (domain_of f env) (functions r.0 s.0) c s.2 in
        function-of-has r.0 s.0 t.0 (type_of_dom d) (type_of_dom f) v (member-has d s.0 p.0 s.1) (member-has f t.0 p.1 t.1)
        (moved c (functions r.0 s.0 t.0) v t.2 m)
    member-has (relation_dom ms es no_doms) c p e v m = let z = p.0 in cc
    member-has (relation_dom ms es (more_doms d ds)) c p e v m =
        let r = some-then (attributes_of ms (meanings es env)) (λ ks. option_map (relations ks) (domains_of (more_doms d ds) env)) c e in
        let s = some-map (domains_of (more_doms d ds) env) (relations r.0) c r.2 in
        let t = pair-some (domain_of d env) (domains_of ds env) s.0 s.1 in
        relation-of-has r.0 t.0 t.1 (type_of_dom d) (types_of_doms ds) v
        (λ x. row-has t.0 t.1 (type_of_dom d) (types_of_doms ds) x (member-has d t.0 p.1.0 t.2) (each-member ds t.1 p.1.1 t.3))
        (moved c (relations r.0 (more_domains t.0 t.1)) v (ap (relations r.0) t.4 ∙ s.2) m)
    member-has (partition_dom ms es d) c p e v m =
        let r = some-then (attributes_of ms (meanings es env)) (λ ks. option_map (partitions ks) (domain_of d env)) c e in
        let s = some-map (domain_of d env) (partitions r.0) c r.2 in
        partition-of-has r.0 s.0 (type_of_dom d) v (member-has d s.0 p s.1) (moved c (partitions r.0 s.0) v s.2 m)

    each-member : (ds : Doms) (cs : Domains) → AreTold ds → domains_of ds env ≡ Some cs → (vs : Values) → member_of_each cs vs ≡ true →
        AllHave env name_of vs (types_of_doms ds)
    each-member no_doms cs p e nil m = tt
    each-member no_doms cs p e (cons v vs) m = let q : no_domains ≡ cs = cc in
        let n : false ≡ true = subst (λ x. member_of_each x (cons v vs) ≡ true) (sym q) m in cc
    each-member (more_doms d ds) cs p e vs m =
        let t = pair-some (domain_of d env) (domains_of ds env) cs e in
        both t.0 t.1 (type_of_dom d) (types_of_doms ds) vs (member-has d t.0 p.0 t.2) (each-member ds t.1 p.1 t.3)
        (subst (λ x. member_of_each x vs ≡ true) (sym t.4) m)

  -- ---- the laws

  literal-has : (v : Value) (s : Ty) → HasLiteral env name_of v s → literal_value (literal_of (item_name env.types) v) s env ≡ Some v
  literal-has v s h =
      let w : Within h.printed.u s = within-on h.printed.u h.t s h.printed.within h.within in
      let j = join-within h.printed.u s s w (within-itself s) in
      ap (λ o. if is_some_and o (λ x. is_some (join x s)) then value_of_literal (literal_of (item_name env.types) v) env else None)
      h.printed.typed
      ∙ ap (λ o. if is_some o then value_of_literal (literal_of (item_name env.types) v) env else None) j.1 ∙ h.printed.valued

-- A member of a domain is printed as a literal of the domain's type that has it.
pub members-have-literals : MembersHaveLiterals
members-have-literals name_of d e v env names items w c m =
    let h = member-has env name_of names items d e w c v m in (
      ap (λ x. literal_value x (type_of_dom d) env) (same-literal name_of (item_name env.types) v h.fits.1)
          ∙ literal-has env name_of names items v (type_of_dom d) h,
      h.fits.0,
    )

-- Where its numbers fit it is spelled.
pub members-are-spelled : MembersAreSpelled
members-are-spelled name_of d e v env names items k w c m n =
    let h = member-has env name_of names items d e w c v m in
    same-spelled name_of (item_name env.types) v h.fits.1
    ∙ named-spelled (literal_of (item_name env.types) v) (type_of_dom d) v env names k (literal-has env name_of names items v (type_of_dom d) h)
    n h.fits.0
