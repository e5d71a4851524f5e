-- An orderly expression is sound, and denotes a neat domain.
use Rattle.std.proofs.Common.{◌≡◌, refl, sym, ap, ◌∙◌, subst, Bool, true, false, ◌&&◌, ◌||◌, not, if◌then◌else◌, List, [], ◌∷◌, ◌++◌, pos, Option, Some, None, option_map}
use Rattle.std.specs.List.{list_all}
use Rattle.ess_semantics.specs.declared.words.Key.{Key}
use Rattle.ess_semantics.specs.Lists.{and_then}
use Rattle.ess_semantics.specs.DomainJudgements.{is_key, size_keys, marks_among, marks_distinct, is_binary, relation_flags, is_enumerable}
use Rattle.ess_semantics.specs.Kinds.{has_key, dom_list, are_atoms, is_atom}
use Rattle.ess_semantics.specs.Membership.{no_negative_attribute, each_layer_of_all}
use Rattle.ess_semantics.specs.Trees.{Mark, Exs, Dom, Doms, bool_dom, int_dom, name_dom, tuple_dom, record_dom, matrix_dom, set_dom, mset_dom, function_dom, relation_dom, partition_dom, no_doms, more_doms}
use Rattle.ess_semantics.specs.Domains.{Attribute, Domain, Domains, booleans, integers, named, between, tuples, records, matrices, sets, msets, functions, relations, partitions, no_domains, more_domains}
use Rattle.ess_semantics.specs.Meaning.{Env, TypeEntry, type_entry, named_domain, spans_of, attributes_of, domain_of, domains_of, meanings}
use Rattle.ess_semantics.proofs.Tests.{and-left, and-right, or-yes}
use Rattle.ess_repr_laws.specs.StructureMeaning.{EachFlag}
use Rattle.ess_repr_laws.specs.WellFormed.{is_numbered, is_right, Well, AllWell}
use Rattle.ess_repr_laws.proofs.DenotedDomains.{marks-right}
use Rattle.ess_repr_laws.proofs.EnumerableDomains.{enumerable-listed, denoted-enumerable}
use Rattle.ess_repr_laws.proofs.Enumerables.{IsEnumerated}
use Rattle.ess_repr_laws.proofs.StructureConversions.{each-flag}
use Rattle.ess_repr_declare_laws.specs.Laws.{Sound, AllSound}
use Rattle.ess_repr_declare_laws.proofs.SizeNumbers.{mapped, chained, not_below}
use Rattle.ess_repr_structure_laws.specs.OrderlyDomains.{LayerIsOrderly, Orderly, AllOrderly}
use Rattle.ess_repr_structure_laws.proofs.FittingChildren.{sound-well}
use Rattle.ess_repr_structure_laws.proofs.NeatDomains.{FunctionFlag, PairFlag, RelationFlag, NeatDomain, AllNeatDomains}
use Rattle.ess_repr_structure_laws.proofs.OrderlyAttributes.{numbered-of, told-of, flags-among, flags-marked}
use Rattle.ess_repr_structure_laws.proofs.ReadyParts.{flags-both}

-- ---- soundness

marks-sound : (vs fs : List Key) (ms : List Mark) → list_all is_numbered vs ≡ true → list_all (λ k. not (is_numbered k)) fs ≡ true →
    marks_among vs fs ms && marks_distinct ms ≡ true → list_all is_right ms ≡ true
marks-sound vs fs ms v f h = marks-right vs fs v f ms (and-left (marks_among vs fs ms) (marks_distinct ms) h)

flags-unnumbered : (ds : List Dom) → list_all (λ k. not (is_numbered k)) (relation_flags ds) ≡ true
flags-unnumbered ds = go (is_binary ds)
  where
    go : (b : Bool) →
        list_all (λ k. not (is_numbered k)) (if b then Key.Reflexive ∷ Key.Irreflexive ∷ Key.Symmetric ∷ Key.AntiSymmetric ∷ Key.ASymmetric
        ∷ Key.Transitive ∷ [] else []) ≡ true
    go true = refl
    go false = refl

first-enumerable : (b c : Bool) (d e : Dom) → list_all is_enumerable ((if b then d ∷ [] else []) ++ (if c then e ∷ [] else [])) ≡ true →
    b ≡ true → is_enumerable d ≡ true
first-enumerable true c d e h t = and-left (is_enumerable d) (list_all is_enumerable (if c then e ∷ [] else [])) h
first-enumerable false c d e h t = cc

second-enumerable : (b c : Bool) (d e : Dom) → list_all is_enumerable ((if b then d ∷ [] else []) ++ (if c then e ∷ [] else [])) ≡ true →
    c ≡ true → is_enumerable e ≡ true
second-enumerable true true d e h t = and-left (is_enumerable e) true (and-right (is_enumerable d) (is_enumerable e && true) h)
second-enumerable false true d e h t = and-left (is_enumerable e) true h
second-enumerable b false d e h t = cc

atom-well : (d : Dom) → is_atom d ≡ true → Well d
atom-well bool_dom h = tt
atom-well (int_dom rs es) h = tt
atom-well (name_dom a) h = tt
atom-well d h = cc

atoms-well : (ds : Doms) → are_atoms ds ≡ true → AllWell ds
atoms-well no_doms h = tt
atoms-well (more_doms d ds) h = (
  atom-well d (and-left (is_atom d) (are_atoms ds) h),
  atoms-well ds
      (and-right (is_atom d) (are_atoms ds) h),
)

mutual
  -- An orderly expression that denotes a domain is sound.
  pub orderly-sound : (d : Dom) (env : Env) (e : Domain) → Orderly d → domain_of d env ≡ Some e → Sound d
  orderly-sound bool_dom env e o h = tt
  orderly-sound (int_dom rs es) env e o h = tt
  orderly-sound (name_dom a) env e o h = tt
  orderly-sound (tuple_dom ds) env e o h = let m = mapped tuples (domains_of ds env) e h in all-orderly-sound ds env m.0 o m.1
  orderly-sound (record_dom fs ds) env e o h = let m = mapped (records fs) (domains_of ds env) e h in all-orderly-sound ds env m.0 o m.1
  orderly-sound (matrix_dom is d) env e o h =
      let c = chained (domains_of is env) (λ js. option_map (matrices js) (domain_of d env)) e h in
      let m = mapped (matrices c.0) (domain_of d env) e c.2 in (o.0, atoms-well is o.0, orderly-sound d env m.0 o.1 m.1)
  orderly-sound (set_dom ms es d) env e o h =
      let c = chained (attributes_of ms (meanings es env)) (λ ks. option_map (sets ks) (domain_of d env)) e h in
      let m = mapped (sets c.0) (domain_of d env) e c.2 in
      (marks-sound size_keys [] ms refl refl o.0.0, numbered-of ms es env c.0 c.1, orderly-sound d env m.0 o.1 m.1)
  orderly-sound (mset_dom ms es d) env e o h =
      let c = chained (attributes_of ms (meanings es env)) (λ ks. option_map (msets ks) (domain_of d env)) e h in
      let m = mapped (msets c.0) (domain_of d env) e c.2 in (
        marks-sound (Key.MinOccur ∷ Key.MaxOccur ∷ size_keys) [] ms refl refl o.0.0,
        numbered-of ms es env c.0 c.1,
        orderly-sound d env m.0
            o.1 m.1,
      )
  orderly-sound (function_dom ms es d c) env e o h =
      let k = chained (attributes_of ms (meanings es env))
      (λ ks. and_then (domain_of d env) (λ x. option_map (functions ks x) (domain_of c env))) e h in
      let x = chained (domain_of d env) (λ x. option_map (functions k.0 x) (domain_of c env)) e k.2 in
      let y = mapped (functions k.0 x.0) (domain_of c env) e x.2 in (
        marks-sound size_keys (Key.Total ∷ Key.Injective ∷ Key.Surjective ∷ Key.Bijective ∷ []) ms refl refl o.0.0,
        numbered-of ms es env k.0 k.1,
        first-enumerable (has_key Key.Total ms) (has_key Key.Surjective ms || has_key Key.Bijective ms) d c o.0.1,
        orderly-sound d env x.0 o.1 x.1,
        orderly-sound c env y.0 o.2 y.1,
      )
  orderly-sound (relation_dom ms es ds) env e o h =
      let c = chained (attributes_of ms (meanings es env)) (λ ks. option_map (relations ks) (domains_of ds env)) e h in
      let m = mapped (relations c.0) (domains_of ds env) e c.2 in (
        marks-sound size_keys (relation_flags (dom_list ds)) ms refl (flags-unnumbered (dom_list ds)) o.0.0,
        numbered-of ms es env c.0 c.1,
        all-orderly-sound ds env m.0 o.1 m.1,
      )
  orderly-sound (partition_dom ms es d) env e o h =
      let c = chained (attributes_of ms (meanings es env)) (λ ks. option_map (partitions ks) (domain_of d env)) e h in
      let m = mapped (partitions c.0) (domain_of d env) e c.2 in (
        marks-sound (Key.NumParts ∷ Key.MinNumParts ∷ Key.MaxNumParts ∷ Key.PartSize ∷ Key.MinPartSize ∷ Key.MaxPartSize ∷ [])
            (Key.Regular ∷ []) ms refl refl o.0.0,
        numbered-of ms es env c.0 c.1,
        orderly-sound d env m.0 o.1 m.1,
      )

  all-orderly-sound : (ds : Doms) (env : Env) (es : Domains) → AllOrderly ds → domains_of ds env ≡ Some es → AllSound ds
  all-orderly-sound no_doms env es o h = tt
  all-orderly-sound (more_doms d ds) env es o h =
      let c = chained (domain_of d env) (λ x. option_map (more_domains x) (domains_of ds env)) es h in
      let m = mapped (more_domains c.0) (domains_of ds env) es c.2 in
      (orderly-sound d env c.0 o.0 c.1, all-orderly-sound ds env m.0 o.1 m.1)

-- ---- neatness

-- The members of an enumerable domain are listed.
listed-of : (d : Dom) (env : Env) (e : Domain) → Sound d → is_enumerable d ≡ true → domain_of d env ≡ Some e → IsEnumerated e
listed-of d env e s h q = enumerable-listed e (denoted-enumerable d env e (sound-well d s) h q)

function-flags : (ms : List Mark) (es : Exs) (d c : Dom) (env : Env) (ks : List Attribute) (x y : Domain) → LayerIsOrderly
    (function_dom ms es d c) →
    attributes_of ms (meanings es env) ≡ Some ks → (is_enumerable d ≡ true → IsEnumerated x) → (is_enumerable c ≡ true → IsEnumerated y) →
    EachFlag (FunctionFlag x y) ks
function-flags ms es d c env ks x y o h f g = each-flag (λ k. has_key k ms ≡ true) (FunctionFlag x y) ks one
    (flags-marked ms (meanings es env) ks h)
  where
    surely : (k : Bool) → k ≡ true → has_key Key.Surjective ms || k ≡ true
    surely k e = ap (λ b. has_key Key.Surjective ms || b) e ∙ or-yes (has_key Key.Surjective ms)

    one : (k : Key) → has_key k ms ≡ true → FunctionFlag x y k
    one Key.Total e = f (first-enumerable (has_key Key.Total ms) (has_key Key.Surjective ms || has_key Key.Bijective ms) d c o.1 e)
    one Key.Surjective e =
        g (second-enumerable (has_key Key.Total ms) (has_key Key.Surjective ms || has_key Key.Bijective ms) d c o.1
        (ap (λ b. b || has_key Key.Bijective ms) e))
    one Key.Bijective e = g (second-enumerable (has_key Key.Total ms) (has_key Key.Surjective ms || has_key Key.Bijective ms) d c o.1
        (surely (has_key Key.Bijective ms) e))
    one _ e = tt

-- A relation with an attribute without a number is one between two.
binary-two : (ds : Doms) → is_binary (dom_list ds) ≡ true → (d : Dom) × (c : Dom) × (ds ≡ more_doms d (more_doms c no_doms))
binary-two (more_doms d (more_doms c no_doms)) h = (d, c, refl)
binary-two no_doms h = cc
binary-two (more_doms d no_doms) h = cc
binary-two (more_doms d (more_doms c (more_doms b ds))) h = cc

flag-binary : (ds : List Dom) (k : Key) → is_key (relation_flags ds) k ≡ true → is_binary ds ≡ true
flag-binary ds k h = go (is_binary ds) h
  where
    go : (b : Bool) → is_key (if b then Key.Reflexive ∷ Key.Irreflexive ∷ Key.Symmetric ∷ Key.AntiSymmetric ∷ Key.ASymmetric ∷
        Key.Transitive ∷ [] else []) k ≡ true → b ≡ true
    go true h = refl
    go false h = cc

-- What is known of a relation, from which its attributes without a number are ready.
relation-flag : (ms : List Mark) (es : Exs) (ds : Doms) (env : Env) (xs : Domains) → LayerIsOrderly (relation_dom ms es ds) → AllSound ds →
    domains_of ds env ≡ Some xs →
    (k : Key) → is_key (relation_flags (dom_list ds)) k ≡ true → has_key k ms ≡ true → RelationFlag xs k
relation-flag ms es ds env xs o s h k i m = let t = binary-two ds (flag-binary (dom_list ds) k i) in go ds t.0 t.1 t.2 o s h
  where
    go : (ds : Doms) (d c : Dom) → ds ≡ more_doms d (more_doms c no_doms) → LayerIsOrderly (relation_dom ms es ds) → AllSound ds →
        domains_of ds env ≡ Some xs → RelationFlag xs k
    go ds d c q o s h = two xs (subst (λ z. LayerIsOrderly (relation_dom ms es z)) q o) (subst AllSound q s)
        (ap (λ z. domains_of z env) (sym q) ∙ h)
      where
        two : (xs : Domains) → LayerIsOrderly (relation_dom ms es (more_doms d (more_doms c no_doms))) → AllSound
            (more_doms d (more_doms c no_doms)) →
            domains_of (more_doms d (more_doms c no_doms)) env ≡ Some xs → RelationFlag xs k
        two xs o s h =
            let a = chained (domain_of d env) (λ x. option_map (more_domains x) (domains_of (more_doms c no_doms) env)) xs h in
            let b = mapped (more_domains a.0) (domains_of (more_doms c no_doms) env) xs a.2 in
            let f = chained (domain_of c env) (λ y. option_map (more_domains y) (Some no_domains)) b.0 b.1 in
            let r : more_domains f.0 no_domains ≡ b.0 = let z = f.2 in cc in
            subst (λ z. RelationFlag z k) (ap (more_domains a.0) r ∙ b.2) (one a.0 f.0 a.1 f.1 k m)
          where
            listed : (b : Bool) → list_all is_enumerable (if b then d ∷ [] else []) ≡ true → b ≡ true → is_enumerable d ≡ true
            listed true h e = and-left (is_enumerable d) true h
            listed false h e = cc

            one : (x y : Domain) → domain_of d env ≡ Some x → domain_of c env ≡ Some y → (k : Key) → has_key k ms ≡ true → PairFlag x y k
            one x y p r Key.Reflexive m = listed-of d env x s.0 (listed (has_key Key.Reflexive ms) o.1 m) p
            one x y p r _ m = tt

mutual
  -- An orderly expression denotes a neat domain.
  pub orderly-neat : (d : Dom) (env : Env) (e : Domain) → Orderly d → Sound d → domain_of d env ≡ Some e → no_negative_attribute e ≡ true →
      NeatDomain e
  orderly-neat bool_dom env e o s h n = let q : booleans ≡ e = cc in subst NeatDomain q tt
  orderly-neat (int_dom rs es) env e o s h n = let m = mapped integers (spans_of rs (meanings es env)) e h in subst NeatDomain m.2 tt
  orderly-neat (name_dom a) env e o s h n = go env.positions (type_entry env.types a) h
    where
      go : (b : Bool) (t : Option TypeEntry) → named_domain b a t ≡ Some e → NeatDomain e
      go b None h = cc
      go true (Some t) h = let q : between (pos 1) (pos t.count) ≡ e = cc in subst NeatDomain q tt
      go false (Some t) h = let q : named a t.count ≡ e = cc in subst NeatDomain q tt
  orderly-neat (tuple_dom ds) env e o s h n =
      let m = mapped tuples (domains_of ds env) e h in subst NeatDomain m.2
      (all-orderly-neat ds env m.0 o s m.1 (ap no_negative_attribute m.2 ∙ n))
  orderly-neat (record_dom fs ds) env e o s h n =
      let m = mapped (records fs) (domains_of ds env) e h in subst NeatDomain m.2
      (all-orderly-neat ds env m.0 o s m.1 (ap no_negative_attribute m.2 ∙ n))
  orderly-neat (matrix_dom is d) env e o s h n =
      let c = chained (domains_of is env) (λ js. option_map (matrices js) (domain_of d env)) e h in
      let m = mapped (matrices c.0) (domain_of d env) e c.2 in
      subst NeatDomain m.2
      (orderly-neat d env m.0 o.1 s.2 m.1 (and-right (each_layer_of_all not_below c.0) (no_negative_attribute m.0)
      (ap no_negative_attribute m.2 ∙ n)))
  orderly-neat (set_dom ms es d) env e o s h n =
      let c = chained (attributes_of ms (meanings es env)) (λ ks. option_map (sets ks) (domain_of d env)) e h in
      let m = mapped (sets c.0) (domain_of d env) e c.2 in
      let p : not_below c.0 && no_negative_attribute m.0 ≡ true = ap no_negative_attribute m.2 ∙ n in
      subst NeatDomain m.2 (
        told-of ms (meanings es env) c.0 (and-right (marks_among size_keys [] ms) (marks_distinct ms) o.0.0) c.1
            (and-left (not_below c.0) (no_negative_attribute m.0) p),
        orderly-neat d env m.0 o.1 s.2 m.1 (and-right (not_below c.0) (no_negative_attribute m.0) p),
      )
  orderly-neat (mset_dom ms es d) env e o s h n =
      let c = chained (attributes_of ms (meanings es env)) (λ ks. option_map (msets ks) (domain_of d env)) e h in
      let m = mapped (msets c.0) (domain_of d env) e c.2 in
      let p : not_below c.0 && no_negative_attribute m.0 ≡ true = ap no_negative_attribute m.2 ∙ n in
      subst NeatDomain m.2 (
        told-of ms (meanings es env) c.0 (and-right (marks_among (Key.MinOccur ∷ Key.MaxOccur ∷ size_keys) [] ms) (marks_distinct ms) o.0.0)
            c.1
            (and-left (not_below c.0) (no_negative_attribute m.0) p),
        orderly-neat d env m.0 o.1 s.2 m.1 (and-right (not_below c.0) (no_negative_attribute m.0) p),
      )
  orderly-neat (function_dom ms es d c) env e o s h n =
      let k = chained (attributes_of ms (meanings es env))
      (λ ks. and_then (domain_of d env) (λ x. option_map (functions ks x) (domain_of c env))) e h in
      let x = chained (domain_of d env) (λ x. option_map (functions k.0 x) (domain_of c env)) e k.2 in
      let y = mapped (functions k.0 x.0) (domain_of c env) e x.2 in
      let p : (not_below k.0 && no_negative_attribute x.0) && no_negative_attribute y.0 ≡ true = ap no_negative_attribute y.2 ∙ n in
      let f = and-left (not_below k.0 && no_negative_attribute x.0) (no_negative_attribute y.0) p in
      subst NeatDomain y.2 (
        told-of ms (meanings es env) k.0 (and-right
            (marks_among size_keys (Key.Total ∷ Key.Injective ∷ Key.Surjective ∷ Key.Bijective ∷ []) ms) (marks_distinct ms) o.0.0) k.1
            (and-left (not_below k.0) (no_negative_attribute x.0) f),
        function-flags ms es d c env k.0 x.0 y.0 o.0 k.1 (λ t. listed-of d env x.0 s.3 t x.1) (λ t. listed-of c env y.0 s.4 t y.1),
        orderly-neat d env x.0 o.1 s.3 x.1 (and-right (not_below k.0) (no_negative_attribute x.0) f),
        orderly-neat c env y.0 o.2 s.4 y.1 (and-right (not_below k.0 && no_negative_attribute x.0) (no_negative_attribute y.0) p),
      )
  orderly-neat (relation_dom ms es ds) env e o s h n =
      let c = chained (attributes_of ms (meanings es env)) (λ ks. option_map (relations ks) (domains_of ds env)) e h in
      let m = mapped (relations c.0) (domains_of ds env) e c.2 in
      let p : not_below c.0 && each_layer_of_all not_below m.0 ≡ true = ap no_negative_attribute m.2 ∙ n in
      subst NeatDomain m.2 (
        told-of ms (meanings es env) c.0 (and-right (marks_among size_keys (relation_flags (dom_list ds)) ms) (marks_distinct ms) o.0.0) c.1
            (and-left (not_below c.0) (each_layer_of_all not_below m.0) p),
        flags-both (λ k. is_key (relation_flags (dom_list ds)) k ≡ true) (λ k. has_key k ms ≡ true) (RelationFlag m.0) c.0
            (relation-flag ms es ds env m.0 o.0 s.2 m.1)
            (flags-among size_keys (relation_flags (dom_list ds)) ms (meanings es env) c.0
            (and-left (marks_among size_keys (relation_flags (dom_list ds)) ms) (marks_distinct ms) o.0.0) c.1)
            (flags-marked ms (meanings es env) c.0 c.1),
        all-orderly-neat ds env m.0 o.1 s.2 m.1 (and-right (not_below c.0) (each_layer_of_all not_below m.0) p),
      )
  orderly-neat (partition_dom ms es d) env e o s h n =
      let c = chained (attributes_of ms (meanings es env)) (λ ks. option_map (partitions ks) (domain_of d env)) e h in
      let m = mapped (partitions c.0) (domain_of d env) e c.2 in
      let p : not_below c.0 && no_negative_attribute m.0 ≡ true = ap no_negative_attribute m.2 ∙ n in
      subst NeatDomain m.2 (
        told-of ms (meanings es env) c.0
            (and-right (marks_among (Key.NumParts ∷ Key.MinNumParts ∷ Key.MaxNumParts ∷ Key.PartSize ∷ Key.MinPartSize ∷ Key.MaxPartSize ∷
            []) (Key.Regular ∷ []) ms) (marks_distinct ms) o.0.0) c.1
            (and-left (not_below c.0) (no_negative_attribute m.0) p),
        listed-of d env m.0 s.2 (and-left (is_enumerable d) true o.0.1) m.1,
        orderly-neat d env m.0 o.1 s.2 m.1 (and-right (not_below c.0) (no_negative_attribute m.0) p),
      )

  all-orderly-neat : (ds : Doms) (env : Env) (es : Domains) → AllOrderly ds → AllSound ds → domains_of ds env ≡ Some es →
      each_layer_of_all not_below es ≡ true → AllNeatDomains es
  all-orderly-neat no_doms env es o s h n = let q : no_domains ≡ es = cc in subst AllNeatDomains q tt
  all-orderly-neat (more_doms d ds) env es o s h n =
      let c = chained (domain_of d env) (λ x. option_map (more_domains x) (domains_of ds env)) es h in
      let m = mapped (more_domains c.0) (domains_of ds env) es c.2 in
      let p : no_negative_attribute c.0 && each_layer_of_all not_below m.0 ≡ true = ap (each_layer_of_all not_below) m.2 ∙ n in
      subst AllNeatDomains m.2 (
        orderly-neat d env c.0 o.0 s.0 c.1 (and-left (no_negative_attribute c.0) (each_layer_of_all not_below m.0) p),
        all-orderly-neat ds env m.0 o.1 s.1 m.1 (and-right (no_negative_attribute c.0) (each_layer_of_all not_below m.0) p),
      )
