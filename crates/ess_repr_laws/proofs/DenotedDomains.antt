-- What a domain expression denotes has its form; where the expression is finite, or its slots are known, so is the domain.
use Rattle.std.proofs.Common.{◌≡◌, refl, ap, ◌∙◌, subst, Bool, true, false, ◌||◌, not, List, [], ◌∷◌, Option, Some, None, option_map}
use Rattle.std.specs.List.{list_all}
use Rattle.ess_semantics.specs.declared.words.Key.{Key}
use Rattle.ess_semantics.specs.Lists.{and_then}
use Rattle.ess_semantics.specs.Values.{Value}
use Rattle.ess_semantics.specs.Trees.{Mark, flag, valued, Repr, Dom, Doms, bool_dom, int_dom, name_dom, tuple_dom, record_dom, matrix_dom, set_dom, mset_dom, function_dom, relation_dom, partition_dom, no_doms, more_doms}
use Rattle.ess_semantics.specs.Domains.{Domain, Domains, booleans, integers, tuples, records, matrices, sets, msets, functions, relations, partitions, no_domains, more_domains, same_key}
use Rattle.ess_semantics.specs.Membership.{member}
use Rattle.ess_semantics.specs.Kinds.{fits}
use Rattle.ess_semantics.specs.DomainJudgements.{is_key, marks_among, bounds_occurrences, is_finite, are_finite, is_enumerable, are_enumerable, needs_known_slots, all_need_known_slots}
use Rattle.ess_semantics.specs.Meaning.{Env, spans_of, attributes_of, named_domain, type_entry, meanings, domain_of, domains_of}
use Rattle.ess_repr_laws.specs.Rooms.{Roomy}
use Rattle.ess_repr_laws.specs.CanonicalTables.{OneForm}
use Rattle.ess_repr_laws.specs.Finite.{Finite, AllFinite}
use Rattle.ess_repr_laws.specs.WellFormed.{is_numbered, is_right, Well, AllWell}
use Rattle.ess_semantics.proofs.Tests.{and-left, and-right, and-both}
use Rattle.ess_repr_laws.proofs.Rooms.{one-key}
use Rattle.ess_repr_laws.proofs.Enumerables.{IsEnumerated, AreEnumerated, atom-enumerable, tuples-enumerable, records-enumerable}
use Rattle.ess_repr_laws.proofs.DomainForms.{Formed, AllFormed, same_form, formed-same, Known, AllKnown, finite-known, atom-finite, finite-of, atoms-finite}
use Rattle.ess_repr_laws.proofs.Fitting.{fits-roomy}
use Rattle.ess_repr_laws.proofs.MembersHaveTables.{one-form}
use Rattle.ess_repr_laws.proofs.DenotedAttributes.{marked, occurs-marked, ranges}

-- ---- enumerable domains

mutual
  -- A domain of an enumerable form is listed.
  pub enumerable : (d : Dom) (e : Domain) → Formed d e → same_form d e ≡ true → is_enumerable d ≡ true → IsEnumerated e
  enumerable (tuple_dom ds) (tuples es) f s h = tuples-enumerable es (all-enumerable ds es f h)
  enumerable (record_dom fs ds) (records gs es) f s h = records-enumerable gs es (all-enumerable ds es f h)
  enumerable bool_dom e f s h = atom-enumerable e (atom-finite bool_dom e f h)
  enumerable (int_dom rs es) e f s h = atom-enumerable e (atom-finite (int_dom rs es) e f h)
  enumerable (name_dom a) e f s h = atom-enumerable e (atom-finite (name_dom a) e f h)
  enumerable d e f s h = cc

  all-enumerable : (ds : Doms) (es : Domains) → AllFormed ds es → are_enumerable ds ≡ true → AreEnumerated es
  all-enumerable no_doms no_domains f h = tt
  all-enumerable no_doms (more_domains e es) f h = absurd f
  all-enumerable (more_doms d ds) no_domains f h = absurd f
  all-enumerable (more_doms d ds) (more_domains e es) f h = (enumerable d e f.0 (formed-same d e f.0) (and-left (is_enumerable d) (are_enumerable ds) h), all-enumerable ds es f.1 (and-right (is_enumerable d) (are_enumerable ds) h))

-- ---- well-formed expressions

-- the parts of an option that is there
map-some : {A B : Type 0} (f : A → B) (o : Option A) (y : B) → option_map f o ≡ Some y → (x : A) × (o ≡ Some x) × (f x ≡ y)
map-some f None y e = cc
map-some f (Some x) y e = let q : f x ≡ y = cc in (x, refl, q)

then-some : {A B : Type 0} (o : Option A) (f : A → Option B) (y : B) → and_then o f ≡ Some y → (x : A) × (o ≡ Some x) × (f x ≡ Some y)
then-some None f y e = cc
then-some (Some x) f y e = (x, refl, e)

mutual
  -- The domain that an expression denotes has its form.
  pub domain-formed : (d : Dom) (env : Env) (e : Domain) → Well d → domain_of d env ≡ Some e → Formed d e
  domain-formed bool_dom env e w h = let q : booleans ≡ e = cc in subst (Formed bool_dom) q tt
  domain-formed (int_dom rs es) env e w h =
      let x = map-some integers (spans_of rs (meanings es env)) e h in subst (Formed (int_dom rs es)) x.2 (ranges rs (meanings es env) x.0 x.1)
  domain-formed (name_dom a) env e w h = go env.positions (type_entry env.types a) h
    where
      go : (b : Bool) (t : Option _) → named_domain b a t ≡ Some e → Formed (name_dom a) e
      go b None h = cc
      go true (Some t) h = let q = ap (λ o. o) h in of-some _ h ((refl, refl), tt)
        where
          of-some : (x : Domain) → Some x ≡ Some e → Formed (name_dom a) x → Formed (name_dom a) e
          of-some x h f = let q : x ≡ e = cc in subst (Formed (name_dom a)) q f
      go false (Some t) h = of-some _ h tt
        where
          of-some : (x : Domain) → Some x ≡ Some e → Formed (name_dom a) x → Formed (name_dom a) e
          of-some x h f = let q : x ≡ e = cc in subst (Formed (name_dom a)) q f
  domain-formed (tuple_dom ds) env e w h = let x = map-some tuples (domains_of ds env) e h in subst (Formed (tuple_dom ds)) x.2 (domains-formed ds env x.0 w x.1)
  domain-formed (record_dom fs ds) env e w h = let x = map-some (records fs) (domains_of ds env) e h in subst (Formed (record_dom fs ds)) x.2 (domains-formed ds env x.0 w x.1)
  domain-formed (matrix_dom is d) env e w h =
      let x = then-some (domains_of is env) (λ js. option_map (matrices js) (domain_of d env)) e h in
      let y = map-some (matrices x.0) (domain_of d env) e x.2 in
      subst (Formed (matrix_dom is d)) y.2 (w.0, domains-formed is env x.0 w.1 x.1, domain-formed d env y.0 w.2 y.1)
  domain-formed (set_dom ms es d) env e w h =
      let x = then-some (attributes_of ms (meanings es env)) (λ ks. option_map (sets ks) (domain_of d env)) e h in
      let y = map-some (sets x.0) (domain_of d env) e x.2 in
      subst (Formed (set_dom ms es d)) y.2 (marked ms (meanings es env) x.0 x.1 w.0, domain-formed d env y.0 w.1 y.1)
  domain-formed (mset_dom ms es d) env e w h =
      let x = then-some (attributes_of ms (meanings es env)) (λ ks. option_map (msets ks) (domain_of d env)) e h in
      let y = map-some (msets x.0) (domain_of d env) e x.2 in
      subst (Formed (mset_dom ms es d)) y.2 (marked ms (meanings es env) x.0 x.1 w.0, occurs-marked ms (meanings es env) x.0 x.1 w.0, domain-formed d env y.0 w.1 y.1)
  domain-formed (function_dom ms es d c) env e w h =
      let x = then-some (attributes_of ms (meanings es env)) (λ ks. and_then (domain_of d env) (λ x. option_map (functions ks x) (domain_of c env))) e h in
      let y = then-some (domain_of d env) (λ z. option_map (functions x.0 z) (domain_of c env)) e x.2 in
      let z = map-some (functions x.0 y.0) (domain_of c env) e y.2 in
      let f = domain-formed d env y.0 w.2 y.1 in
      subst (Formed (function_dom ms es d c)) z.2
      (marked ms (meanings es env) x.0 x.1 w.0, (λ t. let n = enumerable d y.0 f (formed-same d y.0 f) (w.1 t) in n.enumerated), f, domain-formed c env z.0 w.3 z.1)
  domain-formed (relation_dom ms es ds) env e w h =
      let x = then-some (attributes_of ms (meanings es env)) (λ ks. option_map (relations ks) (domains_of ds env)) e h in
      let y = map-some (relations x.0) (domains_of ds env) e x.2 in
      subst (Formed (relation_dom ms es ds)) y.2 (marked ms (meanings es env) x.0 x.1 w.0, domains-formed ds env y.0 w.1 y.1)
  domain-formed (partition_dom ms es d) env e w h =
      let x = then-some (attributes_of ms (meanings es env)) (λ ks. option_map (partitions ks) (domain_of d env)) e h in
      let y = map-some (partitions x.0) (domain_of d env) e x.2 in
      subst (Formed (partition_dom ms es d)) y.2 (marked ms (meanings es env) x.0 x.1 w.0, domain-formed d env y.0 w.1 y.1)

  domains-formed : (ds : Doms) (env : Env) (es : Domains) → AllWell ds → domains_of ds env ≡ Some es → AllFormed ds es
  domains-formed no_doms env es w h = let q : no_domains ≡ es = cc in subst (AllFormed no_doms) q tt
  domains-formed (more_doms d ds) env es w h =
      let x = then-some (domain_of d env) (λ x. option_map (more_domains x) (domains_of ds env)) es h in
      let y = map-some (more_domains x.0) (domains_of ds env) es x.2 in
      subst (AllFormed (more_doms d ds)) y.2 (domain-formed d env x.0 w.0 x.1, domains-formed ds env y.0 w.1 y.1)

-- ---- finite expressions

mutual
  -- A finite expression denotes a finite domain.
  pub dom-finite : (d : Dom) (e : Domain) → Formed d e → same_form d e ≡ true → is_finite d ≡ true → Finite e
  dom-finite bool_dom e f s h = finite-of e (atom-finite bool_dom e f refl)
  dom-finite (int_dom rs es) e f s h = finite-of e (atom-finite (int_dom rs es) e f h)
  dom-finite (name_dom a) e f s h = finite-of e (atom-finite (name_dom a) e f refl)
  dom-finite (tuple_dom ds) (tuples es) f s h = doms-finite ds es f h
  dom-finite (record_dom fs ds) (records gs es) f s h = doms-finite ds es f h
  dom-finite (matrix_dom is d) (matrices js e) f s h = (atoms-finite is js f.1 f.0, dom-finite d e f.2 (formed-same d e f.2) (and-right (are_finite is) (is_finite d) h))
  dom-finite (set_dom ms es d) (sets ks e) f s h = dom-finite d e f.1 (formed-same d e f.1) h
  dom-finite (mset_dom ms es d) (msets ks e) f s h = (dom-finite d e f.2 (formed-same d e f.2) (and-left (is_finite d) (bounds_occurrences ms) h), f.1 (and-right (is_finite d) (bounds_occurrences ms) h))
  dom-finite (function_dom ms es d c) (functions ks e g) f s h =
      (dom-finite d e f.2 (formed-same d e f.2) (and-left (is_finite d) (is_finite c) h), dom-finite c g f.3 (formed-same c g f.3) (and-right (is_finite d) (is_finite c) h))
  dom-finite (relation_dom ms es ds) (relations ks gs) f s h = doms-finite ds gs f.1 h
  dom-finite (partition_dom ms es d) (partitions ks e) f s h = dom-finite d e f.1 (formed-same d e f.1) h
  dom-finite d e f s h = cc

  doms-finite : (ds : Doms) (es : Domains) → AllFormed ds es → are_finite ds ≡ true → AllFinite es
  doms-finite no_doms no_domains f h = tt
  doms-finite no_doms (more_domains e es) f h = absurd f
  doms-finite (more_doms d ds) no_domains f h = absurd f
  doms-finite (more_doms d ds) (more_domains e es) f h = (dom-finite d e f.0 (formed-same d e f.0) (and-left (is_finite d) (are_finite ds) h), doms-finite ds es f.1 (and-right (is_finite d) (are_finite ds) h))

known-of : (d : Dom) (e : Domain) → Formed d e → is_finite d ≡ true → Known e
known-of d e f h = finite-known e (dom-finite d e f (formed-same d e f) h)

mutual
  -- Where the slots of an expression are known, so are those of the domain.
  pub dom-known : (d : Dom) (e : Domain) → Formed d e → same_form d e ≡ true → needs_known_slots d ≡ true → Known e
  dom-known (int_dom rs es) (integers ss) f s h = tt
  dom-known (tuple_dom ds) (tuples es) f s h = doms-known ds es f h
  dom-known (record_dom fs ds) (records gs es) f s h = doms-known ds es f h
  dom-known (matrix_dom is d) (matrices js e) f s h = (atoms-finite is js f.1 f.0, dom-known d e f.2 (formed-same d e f.2) (and-right (are_finite is) (needs_known_slots d) h))
  dom-known (function_dom ms es d c) (functions ks e g) f s h =
      (dom-finite d e f.2 (formed-same d e f.2) (and-left (is_finite d) (needs_known_slots c) h), dom-known c g f.3 (formed-same c g f.3) (and-right (is_finite d) (needs_known_slots c) h))
  dom-known bool_dom e f s h = known-of bool_dom e f h
  dom-known (name_dom a) e f s h = known-of (name_dom a) e f h
  dom-known (set_dom ms es d) e f s h = known-of (set_dom ms es d) e f h
  dom-known (mset_dom ms es d) e f s h = known-of (mset_dom ms es d) e f h
  dom-known (relation_dom ms es ds) e f s h = known-of (relation_dom ms es ds) e f h
  dom-known (partition_dom ms es d) e f s h = known-of (partition_dom ms es d) e f h
  dom-known d e f s h = cc

  doms-known : (ds : Doms) (es : Domains) → AllFormed ds es → all_need_known_slots ds ≡ true → AllKnown es
  doms-known no_doms no_domains f h = tt
  doms-known no_doms (more_domains e es) f h = absurd f
  doms-known (more_doms d ds) no_domains f h = absurd f
  doms-known (more_doms d ds) (more_domains e es) f h = (dom-known d e f.0 (formed-same d e f.0) (and-left (needs_known_slots d) (all_need_known_slots ds) h), doms-known ds es f.1 (and-right (needs_known_slots d) (all_need_known_slots ds) h))

-- A representation that fits a well-formed expression has room for the members of the domain that it denotes.
pub fitting-roomy : (r : Repr) (d : Dom) (env : Env) (e : Domain) → Well d → needs_known_slots d ≡ true → fits r d ≡ true → domain_of d env ≡ Some e → Roomy r e
fitting-roomy r d env e w k h q = let f = domain-formed d env e w q in fits-roomy r d e f (dom-known d e f (formed-same d e f) k) h

-- So each member has one canonical form.
pub fitting-one-form : (r : Repr) (d : Dom) (env : Env) (e : Domain) → Well d → needs_known_slots d ≡ true → fits r d ≡ true → domain_of d env ≡ Some e → (v : Value) → member e v ≡ true → OneForm r e v
fitting-one-form r d env e w k h q v m = one-form r e (fitting-roomy r d env e w k h q) v m

-- The same where the expression is finite, as that of a find is.
pub finite-roomy : (r : Repr) (d : Dom) (env : Env) (e : Domain) → Well d → is_finite d ≡ true → fits r d ≡ true → domain_of d env ≡ Some e → Roomy r e
finite-roomy r d env e w k h q = let f = domain-formed d env e w q in fits-roomy r d e f (known-of d e f k) h

-- ---- marks that fit

is-key : (f : Key → Bool) (ls : List Key) (k : Key) → list_all f ls ≡ true → is_key ls k ≡ true → f k ≡ true
is-key f [] k a h = cc
is-key f (l ∷ ls) k a h = go (same_key k l) refl h (is-key f ls k (and-right (f l) (list_all f ls) a))
  where
    go : (b : Bool) → same_key k l ≡ b → b || is_key ls k ≡ true → (is_key ls k ≡ true → f k ≡ true) → f k ≡ true
    go true q h ih = ap f (one-key k l q) ∙ and-left (f l) (list_all f ls) a
    go false q h ih = ih h

-- Marks among attributes with a number and attributes without one are right.
pub marks-right : (vs fs : List Key) → list_all is_numbered vs ≡ true → list_all (λ k. not (is_numbered k)) fs ≡ true → (ms : List Mark) → marks_among vs fs ms ≡ true → list_all is_right ms ≡ true
marks-right vs fs v f [] h = refl
marks-right vs fs v f (valued k ∷ ms) h =
    and-both (is_numbered k) (list_all is_right ms) (is-key is_numbered vs k v (and-left (is_key vs k) (marks_among vs fs ms) h)) (marks-right vs fs v f ms (and-right (is_key vs k) (marks_among vs fs ms) h))
marks-right vs fs v f (flag k ∷ ms) h =
    and-both (not (is_numbered k)) (list_all is_right ms) (is-key (λ k. not (is_numbered k)) fs k f (and-left (is_key fs k) (marks_among vs fs ms) h)) (marks-right vs fs v f ms (and-right (is_key fs k) (marks_among vs fs ms) h))
