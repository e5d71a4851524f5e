-- What is known of a view's domain on the way down its representation, and what follows of its parts under each binding of names.
use Rattle.std.proofs.Common.{◌≡◌, refl, sym, ap, ◌∙◌, ℕ, ◌<◌, ◌*◌, true, false, List, [], ◌∷◌, pos, Option, Some, None, option_map, is_some, IsTrue}
use Rattle.ess_semantics.specs.declared.words.Key.{Key}
use Rattle.ess_semantics.specs.Lists.{and_then, list_or_none}
use Rattle.ess_semantics.specs.Values.{Text, Value}
use Rattle.ess_semantics.specs.Order.{same_text}
use Rattle.ess_semantics.specs.Kinds.{dom_list, fits, all_fit, has_dummy}
use Rattle.ess_semantics.specs.Membership.{no_negative_attribute, each_layer_of_all}
use Rattle.ess_semantics.specs.Sizes.{bound, greatest_size, slots_of_set, slots_of_mset, occurrences}
use Rattle.ess_semantics.specs.Trees.{Mark, Repr, Reprs, Exs, Dom, Doms, bool_dom, int_dom, name_dom, no_doms, more_doms, tuple_dom, record_dom, matrix_dom, set_dom, mset_dom, function_dom, relation_dom, partition_dom}
use Rattle.ess_semantics.specs.Domains.{Attribute, numbered, flagged, Domain, Domains, booleans, integers, named, functions, domain_list, no_domains, more_domains, members, member_list, tuples}
use Rattle.ess_semantics.specs.Meaning.{Env, attributes_of, is_bool_dom, domain_of, domains_of, members_in, meanings}
use Rattle.ess_semantics.specs.Atoms.{IsAtom, AreAtoms}
use Rattle.ess_repr_laws.specs.Finite.{FiniteAtom, FiniteAtoms, Enumerable, AllEnumerable}
use Rattle.ess_repr_laws.specs.Rooms.{Roomy, AllRoomy, HasDummy}
use Rattle.ess_repr_laws.specs.StructureMeaning.{AllNumbers, Bound, M, AxesAre, Attributes, SlotsAre, DomainIs, BoolIs, BareFunctionIs, ValuesListed, EachFlag, index_members}
use Rattle.ess_repr_laws.proofs.EnumerableDomains.{enumerable-listed}
use Rattle.ess_repr_laws.proofs.Enumerables.{IsEnumerated}
use Rattle.ess_repr_declare_laws.specs.Laws.{Sound, AllSound}
use Rattle.ess_repr_declare_laws.specs.SizeTerms.{bound_ex, greatest_size_of, occurrences_ex, times_ex, size_terms}
use Rattle.ess_repr_declare_laws.proofs.Readings.{times-reads}
use Rattle.ess_repr_declare_laws.proofs.SizeMeaning.{bound-is}
use Rattle.ess_repr_declare_laws.proofs.SizeNumbers.{not_below, default-numbered, greatest-reads, occurrences-reads}
use Rattle.ess_repr_structure_laws.specs.DomainNumbers.{NumbersIn, AllNumbersIn}
use Rattle.ess_repr_structure_laws.proofs.NeatDomains.{NeatDomain, AllNeatDomains}
use Rattle.ess_repr_structure_laws.proofs.Shapes.{first-of}
use Rattle.ess_repr_structure_laws.proofs.WholeNumbers.{set-slots-whole, mset-slots-whole}

-- ---- domains

-- Members that are there are these.
pub listed-is : (d : Domain) → IsTrue (is_some (members d)) → members d ≡ Some (member_list d)
listed-is d h = go (members d) h
  where
    go : (o : Option (List Value)) → IsTrue (is_some o) → o ≡ Some (list_or_none o)
    go None h = cc
    go (Some vs) h = refl

atom-listable : (d : Domain) → FiniteAtom d → Enumerable d
atom-listable booleans h = h
atom-listable (integers ss) h = h
atom-listable (named t n) h = h
atom-listable _ h = absurd h.0

atoms-listable : (ds : Domains) → FiniteAtoms ds → AllEnumerable ds
atoms-listable no_domains h = tt
atoms-listable (more_domains d ds) h = (atom-listable d h.0, atoms-listable ds h.1)

-- The members of tuples of atoms.
pub tuples-listed : (xs : Domains) → FiniteAtoms xs → members (tuples xs) ≡ Some (member_list (tuples xs))
tuples-listed xs h = let e : IsEnumerated (tuples xs) = enumerable-listed (tuples xs) (atoms-listable xs h) in listed-is (tuples xs) e.there

pub are-atoms : (xs : Domains) → FiniteAtoms xs → AreAtoms xs
are-atoms no_domains h = tt
are-atoms (more_domains d ds) h = (h.0.0, are-atoms ds h.1)

pub dummy-atom : (e : Domain) → HasDummy e → IsAtom e
dummy-atom booleans h = absurd h
dummy-atom (integers ss) h = tt
dummy-atom (named t n) h = tt
dummy-atom _ h = absurd h

pub dummy-not-bool : (d : Dom) → has_dummy d ≡ true → is_bool_dom d ≡ false
dummy-not-bool bool_dom h = cc
dummy-not-bool (int_dom rs es) h = refl
dummy-not-bool (name_dom a) h = refl
dummy-not-bool d h = cc

-- Of two things that are said of each attribute without a number.
pub flags-both : (P Q R : Key → Type 0) (ks : List Attribute) → ((k : Key) → P k → Q k → R k) → EachFlag P ks → EachFlag Q ks → EachFlag R
    ks
flags-both P Q R [] f h i = tt
flags-both P Q R (numbered k n ∷ ks) f h i = flags-both P Q R ks f h i
flags-both P Q R (flagged k ∷ ks) f h i = (f k h.0 i.0, flags-both P Q R ks f h.1 i.1)

-- Bool is the only domain of that form.
pub bool-is : (d : Dom) (env : Env) (e : Domain) → domain_of d env ≡ Some e → BoolIs d e
bool-is bool_dom env e h b = let q : booleans ≡ e = cc in sym q
bool-is (int_dom rs es) env e h b = cc
bool-is (name_dom a) env e h b = cc
bool-is (tuple_dom ds) env e h b = cc
bool-is (record_dom fs ds) env e h b = cc
bool-is (matrix_dom is d) env e h b = cc
bool-is (set_dom ms es d) env e h b = cc
bool-is (mset_dom ms es d) env e h b = cc
bool-is (function_dom ms es d c) env e h b = cc
bool-is (relation_dom ms es ds) env e h b = cc
bool-is (partition_dom ms es d) env e h b = cc

module _ (env0 : Env) (q : ℕ → Text) (q-apart : (m l : ℕ) → l < m → same_text (q m) (q l) ≡ false) where
  abbrev pub Names : Type 0
  Names = Bound env0 q q-apart

  abbrev pub N : Names → Env
  N = M env0 q q-apart

  -- What is known of a view: its domain is sound, its representation fits and has room, the domain is neat, and it means this one with
  -- numbers that are numbers, whatever names are bound.
  pub record Known (r : Repr) (d : Dom) (e : Domain) : Type 0 where
    pub sound : Sound d
    pub fit : fits r d ≡ true
    pub room : Roomy r e
    pub neat : NeatDomain e
    pub plain : no_negative_attribute e ≡ true
    pub means : (bs : Names) → domain_of d (N bs) ≡ Some e
    pub numbers : (bs : Names) → NumbersIn d (N bs)

  -- The same of components.
  pub record AllKnown (rs : Reprs) (ds : Doms) (es : Domains) : Type 0 where
    pub sound : AllSound ds
    pub fit : all_fit rs (dom_list ds) ≡ true
    pub room : AllRoomy rs (domain_list es)
    pub neat : AllNeatDomains es
    pub plain : each_layer_of_all not_below es ≡ true
    pub means : (bs : Names) → domains_of ds (N bs) ≡ Some es
    pub numbers : (bs : Names) → AllNumbersIn ds (N bs)

  -- ---- axes

  -- The members of a domain that a listed one is.
  pub axis-are : (d : Dom) (x : Domain) → DomainIs env0 q q-apart d x → members x ≡ Some (member_list x) → AxesAre env0 q q-apart (d ∷ [])
      (member_list x ∷ [])
  axis-are d x m h = (λ bs. ap members_in (m bs) ∙ h, tt)

  -- Those of several atoms.
  pub axes-are : (is : Doms) (js : Domains) → ((bs : Names) → domains_of is (N bs) ≡ Some js) → FiniteAtoms js → AxesAre env0 q q-apart
      (dom_list is) (index_members js)
  axes-are no_doms no_domains m h = tt
  axes-are no_doms (more_domains j js) m h = let x = m [] in cc
  axes-are (more_doms i is) no_domains m h = absurd (none (domain_of i (N [])) (domains_of is (N [])) (m []))
    where
      none : (o : Option Domain) (p : Option Domains) → and_then o (λ x. option_map (more_domains x) p) ≡ Some no_domains → ⊥
      none None p h = cc
      none (Some x) None h = cc
      none (Some x) (Some xs) h = cc
  axes-are (more_doms i is) (more_domains j js) m h = (
    λ bs. let f = first-of i is (N bs) j js (m bs) in ap members_in f.0 ∙ listed-is j h.0.1,
    axes-are is js (λ bs. let f = first-of i is (N bs) j js (m bs) in f.1) h.1,
  )

  -- ---- functions without attributes

  pub bare-function-is : (d c : Dom) (x y : Domain) → DomainIs env0 q q-apart d x → DomainIs env0 q q-apart c y → BareFunctionIs env0 q
      q-apart d c x y
  bare-function-is d c x y m n = (
    λ bs. ap (λ o. and_then o (λ x. option_map (functions [] x) (domain_of c (N bs)))) (m bs) ∙ ap (option_map (functions [] x)) (n bs),
    bool-is c (N []) y (n []),
  )

  pub values-listed : (c : Dom) (y : Domain) → DomainIs env0 q q-apart c y → IsEnumerated y → ValuesListed env0 q q-apart c y
  values-listed c y m e = let l = listed-is y e.there in (l, axis-are c y m l)

  -- ---- slots

  module _ (ms : List Mark) (es : Exs) (d : Dom) (ks : List Attribute) (e : Domain) (low : not_below ks ≡ true)
      (plain : no_negative_attribute e ≡ true)
      (at : (bs : Names) → attributes_of ms (meanings es (N bs)) ≡ Some ks) (means : DomainIs env0 q q-apart d e)
      (all : (bs : Names) → AllNumbers es (N bs)) (numbers : (bs : Names) → NumbersIn d (N bs)) where
    -- The attributes are these.
    pub attributes-are : Attributes env0 q q-apart size_terms ms es ks
    attributes-are bs = (all bs, at bs)

    -- A set's slots.
    pub set-slots-are : SlotsAre env0 q q-apart size_terms (set_dom ms es d) (slots_of_set ks e)
    set-slots-are bs =
        set-slots-whole (N bs) ms es d (all bs) (numbers bs) (pos (slots_of_set ks e))
        (default-numbered (N bs) (greatest_size_of ms es) (greatest_size ks) (bound_ex d) (bound e)
        (greatest-reads (N bs) ms es ks (at bs) low)
        (bound-is (N bs) d e (means bs) plain))

    -- A multiset's.
    pub mset-slots-are : SlotsAre env0 q q-apart size_terms (mset_dom ms es d) (slots_of_mset ks e)
    mset-slots-are bs =
        mset-slots-whole (N bs) ms es d (all bs) (numbers bs) (pos (slots_of_mset ks e))
        (default-numbered (N bs) (greatest_size_of ms es) (greatest_size ks) (times_ex (occurrences_ex ms es) (bound_ex d))
        (occurrences ks * bound e)
        (greatest-reads (N bs) ms es ks (at bs) low)
        (times-reads (N bs) (occurrences_ex ms es) (bound_ex d) (occurrences ks) (bound e) (occurrences-reads (N bs) ms es ks (at bs) low)
        (bound-is (N bs) d e (means bs) plain)))
