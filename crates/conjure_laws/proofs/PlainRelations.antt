-- Where no relation in a domain expression has an attribute without a number, none has in what it denotes.
use Rattle.std.proofs.Common.{◌≡◌, refl, sym, ap, ◌∙◌, Bool, true, false, not, List, [], ◌∷◌, Option, Some, None, option_map}
use Rattle.std.specs.List.{list_any}
use Rattle.ess_semantics.specs.Lists.{and_then}
use Rattle.ess_semantics.specs.Values.{Text, Value}
use Rattle.ess_semantics.specs.Trees.{Mark, flag, valued, Dom, Doms, bool_dom, int_dom, name_dom, tuple_dom, record_dom, matrix_dom, set_dom, mset_dom, function_dom, relation_dom, partition_dom, no_doms, more_doms}
use Rattle.ess_semantics.specs.Domains.{Attribute, numbered, Domain, Domains, booleans, integers, tuples, records, matrices, sets, msets, functions, relations, partitions, no_domains, more_domains}
use Rattle.ess_semantics.specs.Meaning.{Env, as_int, spans_of, attributes_of, TypeEntry, named_domain, type_entry, meanings, domain_of, domains_of}
use Rattle.ess_semantics.proofs.Tests.{and-both}
use Rattle.ess_repr_laws.specs.TypedDomains.{is_unnumbered, has_plain_relations, have_plain_relations}
use Rattle.conjure_laws.specs.Fields.{AllValued, PlainMarks, AllPlainMarks}

-- what is in an option that is there
inside : {A B : Type 0} (f : A → B) (o : Option A) (y : B) → option_map f o ≡ Some y → (x : A) × (o ≡ Some x) × (f x ≡ y)
inside f None y e = cc
inside f (Some x) y e = let q : f x ≡ y = cc in (x, refl, q)

first : {A B : Type 0} (o : Option A) (f : A → Option B) (y : B) → and_then o f ≡ Some y → (x : A) × (o ≡ Some x) × (f x ≡ Some y)
first None f y e = cc
first (Some x) f y e = (x, refl, e)

none-unnumbered : (ms : List Mark) (os : List (Option Value)) (ks : List Attribute) → attributes_of ms os ≡ Some ks → AllValued ms →
    list_any is_unnumbered ks ≡ false
none-unnumbered [] [] ks e h = let q : [] ≡ ks = cc in ap (list_any is_unnumbered) (sym q)
none-unnumbered [] (o ∷ os) ks e h = cc
none-unnumbered (flag k ∷ ms) os ks e h = absurd h
none-unnumbered (valued k ∷ ms) [] ks e h = cc
none-unnumbered (valued k ∷ ms) (v ∷ os) ks e h =
    let x = first (as_int v) (λ n. option_map (λ ks. numbered k n ∷ ks) (attributes_of ms os)) ks e in
    let y = inside (λ ks. numbered k x.0 ∷ ks) (attributes_of ms os) ks x.2 in
    ap (list_any is_unnumbered) (sym y.2) ∙ none-unnumbered ms os y.0 y.1 h

-- the same over another name of the domain
plain-at : (d e : Domain) → d ≡ e → has_plain_relations d ≡ true → has_plain_relations e ≡ true
plain-at d e q h = ap has_plain_relations (sym q) ∙ h

of-some : (x e : Domain) → Some x ≡ Some e → has_plain_relations x ≡ true → has_plain_relations e ≡ true
of-some x e h f = let q : x ≡ e = cc in plain-at x e q f

named-plain : (b : Bool) (a : Text) (t : Option TypeEntry) (e : Domain) → named_domain b a t ≡ Some e → has_plain_relations e ≡ true
named-plain b a None e h = cc
named-plain true a (Some t) e h = of-some _ e h refl
named-plain false a (Some t) e h = of-some _ e h refl

mutual
  -- What a domain expression with plain marks denotes has plain relations.
  pub denoted-plain : (d : Dom) (env : Env) (e : Domain) → PlainMarks d → domain_of d env ≡ Some e → has_plain_relations e ≡ true
  denoted-plain bool_dom env e w h = let q : booleans ≡ e = cc in plain-at booleans e q refl
  denoted-plain (int_dom rs es) env e w h =
      let x = inside integers (spans_of rs (meanings es env)) e h in plain-at (integers x.0) e x.2 refl
  denoted-plain (name_dom a) env e w h = named-plain env.positions a (type_entry env.types a) e h
  denoted-plain (tuple_dom ds) env e w h =
      let x = inside tuples (domains_of ds env) e h in plain-at (tuples x.0) e x.2 (all-plain ds env x.0 w x.1)
  denoted-plain (record_dom fs ds) env e w h =
      let x = inside (records fs) (domains_of ds env) e h in plain-at (records fs x.0) e x.2 (all-plain ds env x.0 w x.1)
  denoted-plain (matrix_dom is d) env e w h =
      let x = first (domains_of is env) (λ js. option_map (matrices js) (domain_of d env)) e h in
      let y = inside (matrices x.0) (domain_of d env) e x.2 in
      plain-at (matrices x.0 y.0) e y.2 (denoted-plain d env y.0 w y.1)
  denoted-plain (set_dom ms es d) env e w h =
      let x = first (attributes_of ms (meanings es env)) (λ ks. option_map (sets ks) (domain_of d env)) e h in
      let y = inside (sets x.0) (domain_of d env) e x.2 in
      plain-at (sets x.0 y.0) e y.2 (denoted-plain d env y.0 w y.1)
  denoted-plain (mset_dom ms es d) env e w h =
      let x = first (attributes_of ms (meanings es env)) (λ ks. option_map (msets ks) (domain_of d env)) e h in
      let y = inside (msets x.0) (domain_of d env) e x.2 in
      plain-at (msets x.0 y.0) e y.2 (denoted-plain d env y.0 w y.1)
  denoted-plain (function_dom ms es d c) env e w h =
      let x = first (attributes_of ms (meanings es env))
      (λ ks. and_then (domain_of d env) (λ x. option_map (functions ks x) (domain_of c env)))
      e h
      in
      let y = first (domain_of d env) (λ z. option_map (functions x.0 z) (domain_of c env)) e x.2 in
      let z = inside (functions x.0 y.0) (domain_of c env) e y.2 in
      plain-at (functions x.0 y.0 z.0) e z.2
      (and-both (has_plain_relations y.0) (has_plain_relations z.0) (denoted-plain d env y.0 w.0 y.1) (denoted-plain c env z.0 w.1 z.1))
  denoted-plain (relation_dom ms es ds) env e w h =
      let x = first (attributes_of ms (meanings es env)) (λ ks. option_map (relations ks) (domains_of ds env)) e h in
      let y = inside (relations x.0) (domains_of ds env) e x.2 in
      plain-at (relations x.0 y.0) e y.2
      (and-both (not (list_any is_unnumbered x.0)) (have_plain_relations y.0)
      (ap not (none-unnumbered ms (meanings es env) x.0 x.1 w.0))
      (all-plain ds env y.0 w.1 y.1))
  denoted-plain (partition_dom ms es d) env e w h =
      let x = first (attributes_of ms (meanings es env)) (λ ks. option_map (partitions ks) (domain_of d env)) e h in
      let y = inside (partitions x.0) (domain_of d env) e x.2 in
      plain-at (partitions x.0 y.0) e y.2 (denoted-plain d env y.0 w y.1)

  all-plain : (ds : Doms) (env : Env) (es : Domains) → AllPlainMarks ds → domains_of ds env ≡ Some es → have_plain_relations es ≡ true
  all-plain no_doms env es w h = let q : no_domains ≡ es = cc in ap have_plain_relations (sym q)
  all-plain (more_doms d ds) env es w h =
      let x = first (domain_of d env) (λ x. option_map (more_domains x) (domains_of ds env)) es h in
      let y = inside (more_domains x.0) (domains_of ds env) es x.2 in
      ap have_plain_relations (sym y.2)
      ∙ and-both (has_plain_relations x.0) (have_plain_relations y.0) (denoted-plain d env x.0 w.0 x.1) (all-plain ds env y.0 w.1 y.1)
