-- What a judged domain denotes is typed, also where a relation has attributes of pairs: both components of one have one type, and values
-- of one type stand in the order of their values with positions.
use Rattle.std.proofs.Common.{◌≡◌, refl, sym, ap, ◌∙◌, subst, Bool, true, false, List, [], ◌∷◌, Option, Some, None, option_map}
use Rattle.std.specs.Prelude.{is_some}
use Rattle.std.specs.List.{list_all, list_any}
use Rattle.ess_semantics.specs.Lists.{and_then}
use Rattle.ess_semantics.specs.Values.{Text, Value}
use Rattle.ess_semantics.specs.Trees.{Mark, flag, valued, Dom, Doms, bool_dom, int_dom, name_dom, tuple_dom, record_dom, matrix_dom, set_dom, mset_dom, function_dom, relation_dom, partition_dom, no_doms, more_doms}
use Rattle.ess_semantics.specs.Types.{Ty, join, type_of_dom}
use Rattle.ess_semantics.specs.Kinds.{dom_list, is_atom}
use Rattle.ess_semantics.specs.Domains.{Attribute, numbered, flagged, Domain, Domains, booleans, integers, tuples, records, matrices, sets, msets, functions, relations, partitions, no_domains, more_domains}
use Rattle.ess_semantics.specs.Membership.{member}
use Rattle.ess_semantics.specs.Atoms.{AreAtoms}
use Rattle.ess_semantics.specs.DomainJudgements.{is_binary}
use Rattle.ess_semantics.specs.Meaning.{Env, as_int, spans_of, attributes_of, TypeEntry, named_domain, type_entry, meanings, domain_of, domains_of}
use Rattle.ess_semantics.specs.TypeMembers.{is_of}
use Rattle.ess_semantics.proofs.Tests.{and-left, and-right}
use Rattle.ess_types_laws.proofs.Joins.{join-both}
use Rattle.ess_types_laws.proofs.SoundParts.{some-then, some-map, atom-domain}
use Rattle.ess_types_laws.proofs.MembersTyped.{member-fits}
use Rattle.ess_repr_laws.specs.WellFormed.{Well, AllWell}
use Rattle.ess_repr_laws.specs.TypedDomains.{is_unnumbered, SameOrder, ArePairs, Typed, AllTyped}
use Rattle.ess_translate_ready_laws.proofs.OrderOfTypes.{order-of-type}
use Rattle.ess_translate_ready_laws.proofs.RelationParts.{HasParts, AllHaveParts, proper}
use Rattle.ess_translate_ready_laws.proofs.JudgedFlags.{is_flag, FlagsFit, AllFlagsFit}

-- The same over another name of the domain.
typed-at : (d e : Domain) → d ≡ e → Typed d → Typed e
typed-at d e q h = subst Typed q h

some-typed : (d e : Domain) → Some d ≡ Some e → Typed d → Typed e
some-typed d e h f = let q : d ≡ e = cc in typed-at d e q f

named-typed : (b : Bool) (a : Text) (t : Option TypeEntry) (e : Domain) → named_domain b a t ≡ Some e → Typed e
named-typed b a None e h = cc
named-typed true a (Some t) e h = some-typed _ e h tt
named-typed false a (Some t) e h = some-typed _ e h tt

-- Attributes without a number are denoted by those that stand so.
same-flags : (ms : List Mark) (os : List (Option Value)) (ks : List Attribute) → attributes_of ms os ≡ Some ks →
    list_any is_unnumbered ks ≡ list_any is_flag ms
same-flags [] [] ks e = let q : [] ≡ ks = cc in ap (list_any is_unnumbered) (sym q)
same-flags [] (o ∷ os) ks e = cc
same-flags (flag k ∷ ms) os ks e =
    let x = some-map (attributes_of ms os) (λ ks. flagged k ∷ ks) ks e in ap (list_any is_unnumbered) (sym x.2)
same-flags (valued k ∷ ms) [] ks e = cc
same-flags (valued k ∷ ms) (v ∷ os) ks e =
    let x = some-then (as_int v) (λ n. option_map (λ ks. numbered k n ∷ ks) (attributes_of ms os)) ks e in
    let y = some-map (attributes_of ms os) (λ ks. numbered k x.0 ∷ ks) ks x.2 in
    ap (list_any is_unnumbered) (sym y.2) ∙ same-flags ms os y.0 y.1

module _ (env : Env) (plain : env.positions ≡ false) where
  -- A member has the type of its domain, where no positions stand for values.
  fits : (d : Dom) (c : Domain) → Well d → HasParts d → domain_of d env ≡ Some c → (v : Value) → member c v ≡ true →
      is_of false env.types (type_of_dom d) v ≡ true
  fits d c w h e v m = ap (λ p. is_of p env.types (type_of_dom d) v) (sym plain) ∙ member-fits env d c (proper d w h) e v m

  -- Members of two domains whose types agree stand in the order of their values with positions.
  same-order : (d e : Dom) (x y : Domain) (t : Ty) → join (type_of_dom d) (type_of_dom e) ≡ Some t → Well d → Well e → HasParts d →
      HasParts e → domain_of d env ≡ Some x → domain_of e env ≡ Some y → SameOrder x y × SameOrder y x
  same-order d e x y t j w u h k p q =
      let b = join-both false env.types (type_of_dom d) (type_of_dom e) t j in (
        λ v z m n. order-of-type env.types t v z (b.0 v (fits d x w h p v m)) (b.1 z (fits e y u k q z n)),
        λ v z m n. order-of-type env.types t v z (b.1 v (fits e y u k q v m)) (b.0 z (fits d x w h p z n)),
      )

  are-pairs : (ds : Doms) (es : Domains) → is_binary (dom_list ds) ≡ true → AllWell ds → AllHaveParts ds → domains_of ds env ≡ Some es →
      ArePairs es
  are-pairs no_doms es b w h e = cc
  are-pairs (more_doms d no_doms) es b w h e = cc
  are-pairs (more_doms d (more_doms c no_doms)) es b w h e =
      let x = some-then (domain_of d env) (λ x. option_map (more_domains x) (domains_of (more_doms c no_doms) env)) es e in
      let y = some-map (domains_of (more_doms c no_doms) env) (more_domains x.0) es x.2 in
      let u = some-then (domain_of c env) (λ x. option_map (more_domains x) (Some no_domains)) y.0 y.1 in
      let z : more_domains u.0 no_domains ≡ y.0 = of-some (more_domains u.0 no_domains) y.0 u.2 in
      subst ArePairs (ap (more_domains x.0) z ∙ y.2)
      (by-types (join (type_of_dom d) (type_of_dom c)) refl b x.0 u.0 x.1 u.1)
    where
      of-some : (x y : Domains) → Some x ≡ Some y → x ≡ y
      of-some x y h = cc

      by-types : (o : Option Ty) → join (type_of_dom d) (type_of_dom c) ≡ o → is_some o ≡ true → (x y : Domain) → domain_of d env ≡ Some x →
          domain_of c env ≡ Some y → SameOrder x y × SameOrder y x
      by-types None j b x y p q = cc
      by-types (Some t) j b x y p q = same-order d c x y t j w.0 w.1.0 h.0 h.1.0 p q
  are-pairs (more_doms d (more_doms c (more_doms b ds))) es h w k e = cc

  index-atoms : (ds : Doms) (es : Domains) → list_all is_atom (dom_list ds) ≡ true → domains_of ds env ≡ Some es → AreAtoms es
  index-atoms no_doms es a e = let q : no_domains ≡ es = cc in subst AreAtoms q tt
  index-atoms (more_doms d ds) es a e =
      let x = some-then (domain_of d env) (λ x. option_map (more_domains x) (domains_of ds env)) es e in
      let y = some-map (domains_of ds env) (more_domains x.0) es x.2 in
      subst AreAtoms y.2 (
        atom-domain env d x.0 (and-left (is_atom d) (list_all is_atom (dom_list ds)) a) x.1,
        index-atoms ds y.0 (and-right (is_atom d) (list_all is_atom (dom_list ds)) a) y.1,
      )

  mutual
    -- What a well formed domain denotes is typed, where its relations have components and its attributes fit.
    pub typed-by-types : (d : Dom) (e : Domain) → Well d → HasParts d → FlagsFit d → domain_of d env ≡ Some e → Typed e
    typed-by-types bool_dom e w p f h = let q : booleans ≡ e = cc in typed-at booleans e q tt
    typed-by-types (int_dom rs es) e w p f h =
        let x = some-map (spans_of rs (meanings es env)) integers e h in typed-at (integers x.0) e x.2 tt
    typed-by-types (name_dom a) e w p f h = named-typed env.positions a (type_entry env.types a) e h
    typed-by-types (tuple_dom ds) e w p f h =
        let x = some-map (domains_of ds env) tuples e h in typed-at (tuples x.0) e x.2 (all-by-types ds x.0 w p f x.1)
    typed-by-types (record_dom fs ds) e w p f h =
        let x = some-map (domains_of ds env) (records fs) e h in typed-at (records fs x.0) e x.2 (all-by-types ds x.0 w p f x.1)
    typed-by-types (matrix_dom is d) e w p f h =
        let x = some-then (domains_of is env) (λ js. option_map (matrices js) (domain_of d env)) e h in
        let y = some-map (domain_of d env) (matrices x.0) e x.2 in
        typed-at (matrices x.0 y.0) e y.2 (index-atoms is x.0 w.0 x.1, typed-by-types d y.0 w.2 p f y.1)
    typed-by-types (set_dom ms es d) e w p f h =
        let x = some-then (attributes_of ms (meanings es env)) (λ ks. option_map (sets ks) (domain_of d env)) e h in
        let y = some-map (domain_of d env) (sets x.0) e x.2 in
        typed-at (sets x.0 y.0) e y.2 (typed-by-types d y.0 w.1 p f y.1)
    typed-by-types (mset_dom ms es d) e w p f h =
        let x = some-then (attributes_of ms (meanings es env)) (λ ks. option_map (msets ks) (domain_of d env)) e h in
        let y = some-map (domain_of d env) (msets x.0) e x.2 in
        typed-at (msets x.0 y.0) e y.2 (typed-by-types d y.0 w.1 p f y.1)
    typed-by-types (function_dom ms es d c) e w p f h =
        let x = some-then (attributes_of ms (meanings es env))
        (λ ks. and_then (domain_of d env) (λ x. option_map (functions ks x) (domain_of c env))) e h in
        let y = some-then (domain_of d env) (λ z. option_map (functions x.0 z) (domain_of c env)) e x.2 in
        let z = some-map (domain_of c env) (functions x.0 y.0) e y.2 in
        typed-at (functions x.0 y.0 z.0) e z.2 (typed-by-types d y.0 w.2 p.0 f.0 y.1, typed-by-types c z.0 w.3 p.1 f.1 z.1)
    typed-by-types (relation_dom ms es no_doms) e w p f h = absurd p
    typed-by-types (relation_dom ms es (more_doms d ds)) e w p f h =
        let x = some-then (attributes_of ms (meanings es env)) (λ ks. option_map (relations ks) (domains_of (more_doms d ds) env)) e h in
        let y = some-map (domains_of (more_doms d ds) env) (relations x.0) e x.2 in
        typed-at (relations x.0 y.0) e y.2 (
          λ k. are-pairs (more_doms d ds) y.0 (f.0 (sym (same-flags ms (meanings es env) x.0 x.1) ∙ k)) w.1 p y.1,
          all-by-types (more_doms d ds) y.0 w.1 p f.1 y.1,
        )
    typed-by-types (partition_dom ms es d) e w p f h =
        let x = some-then (attributes_of ms (meanings es env)) (λ ks. option_map (partitions ks) (domain_of d env)) e h in
        let y = some-map (domain_of d env) (partitions x.0) e x.2 in
        typed-at (partitions x.0 y.0) e y.2 (typed-by-types d y.0 w.1 p f y.1)

    all-by-types : (ds : Doms) (es : Domains) → AllWell ds → AllHaveParts ds → AllFlagsFit ds → domains_of ds env ≡ Some es → AllTyped es
    all-by-types no_doms es w p f h = let q : no_domains ≡ es = cc in subst AllTyped q tt
    all-by-types (more_doms d ds) es w p f h =
        let x = some-then (domain_of d env) (λ x. option_map (more_domains x) (domains_of ds env)) es h in
        let y = some-map (domains_of ds env) (more_domains x.0) es x.2 in
        subst AllTyped y.2 (typed-by-types d x.0 w.0 p.0 f.0 x.1, all-by-types ds y.0 w.1 p.1 f.1 y.1)
