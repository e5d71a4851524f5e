-- What is asked of a view and its tables so that its structure constraint means that the cells are canonical. Reserved names
-- q 0, q 1 and so on may be bound, each to a value.
use Rattle.std.specs.Prelude.{◌≡◌, ℕ, ◌<◌, Bool, true, false, ◌&&◌, not, List, [], ◌∷◌, ◌++◌, map, ℤ, pos, Some}
use Rattle.ess_repr_laws.specs.StructureParts.{Shape, Terms}
use Rattle.ess_repr_laws.specs.MultisetParts.{bare_mset_dom}
use Rattle.ess_repr_laws.specs.FunctionParts.{bare_function_dom, is_one_cell}
use Rattle.ess_repr_laws.specs.Finite.{Enumerated}
use Rattle.ess_semantics.specs.Attributes.{each_number_holds, set_attributes_hold, size_holds}
use Rattle.ess_semantics.specs.SetLayers.{dummy_of}
use Rattle.ess_semantics.specs.Domains.{booleans, Attribute, attribute, has, numbered, flagged, Domain, Domains, no_domains, more_domains, tuples, records, matrices, sets, msets, functions, relations, partitions, domain_list, members, member_list}
use Rattle.ess_semantics.specs.Layers.{as_cell}
use Rattle.ess_semantics.specs.Meaning.{Env, members_in, cell_value, meaning, meanings, domain_of, is_bool_dom, attributes_of, as_int}
use Rattle.ess_semantics.specs.Names.{look}
use Rattle.ess_semantics.specs.Numbers.{one_to}
use Rattle.ess_semantics.specs.Order.{same_text}
use Rattle.ess_semantics.specs.Sizes.{child_parts, child_relation, child_set, pair_sizes, size_attributes, slots_of_mset, slots_of_set}
use Rattle.ess_semantics.specs.Tables.{Tables, is_cell}
use Rattle.ess_semantics.specs.Trees.{Ex, Exs, Dom, Doms, no_doms, more_doms, Mark, Repr, Reprs, repr, no_reprs, more_reprs, no_exs, more_exs}
use Rattle.ess_semantics.specs.Values.{Text, Value, number, truth}
use Rattle.ess_semantics.specs.declared.words.Key.{Key}
use Rattle.ess_semantics.specs.declared.words.ReprKind.{ReprKind}

-- The expression means this number.
abbrev pub Number : Ex → Env → ℤ → Type 0
Number e env n = meaning e env ≡ Some (number n)

-- Each number of the attributes is one.
abbrev pub AllNumbers : Exs → Env → Type 0
AllNumbers no_exs env = Unit {0}
AllNumbers (more_exs e es) env = ((z : ℤ) → as_int (meaning e env) ≡ Some z → Number e env z) × AllNumbers es env

-- whether a number is a cell of the table: a truth value is 0 or 1
abbrev pub fit : Bool → ℤ → Bool
fit true z = is_cell booleans z
fit false z = true

-- Whether the attributes without a number are among those that f picks.
abbrev pub has_flags_among : (Key → Bool) → List Attribute → Bool
has_flags_among f [] = true
has_flags_among f (numbered k n ∷ ks) = has_flags_among f ks
has_flags_among f (flagged k ∷ ks) = f k && has_flags_among f ks

-- None.
abbrev pub no_key : Key → Bool
no_key k = false

-- `minOccur` or `maxOccur`.
abbrev pub is_times_key : Key → Bool
is_times_key Key.MinOccur = true
is_times_key Key.MaxOccur = true
is_times_key k = false

-- Whether no attribute speaks of how often members occur.
abbrev pub asks_no_times : List Attribute → Bool
asks_no_times [] = true
asks_no_times (numbered k n ∷ ks) = not (is_times_key k) && asks_no_times ks
asks_no_times (flagged k ∷ ks) = asks_no_times ks

-- The attributes of the set of a relation's tuples.
abbrev pub tuple_set_sizes : List Attribute → List Attribute
tuple_set_sizes ks = size_attributes (attribute Key.Size ks) (attribute Key.MinSize ks) (attribute Key.MaxSize ks)

-- P of each attribute without a number.
abbrev pub EachFlag : (Key → Type 0) → List Attribute → Type 0
EachFlag P [] = Unit {0}
EachFlag P (numbered k n ∷ ks) = EachFlag P ks
EachFlag P (flagged k ∷ ks) = P k × EachFlag P ks

-- Where the domain is bool, this is it.
abbrev pub BoolIs : Dom → Domain → Type 0
BoolIs d e = is_bool_dom d ≡ true → e ≡ booleans

-- The sizes that the attributes as' allow are among those of ks. So where no attribute stands twice.
abbrev pub AreSizes : List Attribute → List Attribute → Type 0
AreSizes as' ks = (n : ℕ) → set_attributes_hold as' n ≡ true → set_attributes_hold ks n ≡ true

-- `size` alone of m pairs.
abbrev pub is_exact : ℕ → Key → ℤ → Bool
is_exact m Key.Size z = size_holds Key.Size z m
is_exact m k z = true

-- Each `size` is that of m pairs.
abbrev pub exact_sizes_hold : List Attribute → ℕ → Bool
exact_sizes_hold ks m = each_number_holds ks (is_exact m)

-- The sizes that the relation of the pairs of a function from x allows are among those of ks, but for `size` beside `total`. So where
-- no attribute stands twice.
abbrev pub ArePairSizes : List Attribute → Domain → Type 0
ArePairSizes ks x =
    (n : ℕ) → set_attributes_hold (pair_sizes ks x) n ≡ true → (has Key.Total ks ≡ true → exact_sizes_hold ks n ≡ true) →
    set_attributes_hold ks n ≡ true

-- Further axes in front, by their members.
abbrev pub on_members : List (List Value) → List (List (List Value)) → List (List (List Value))
on_members uss vsss = map (λ vss. uss ++ vss) vsss

-- The numbers of n slots.
abbrev pub slot_numbers : ℕ → List (List Value)
slot_numbers n = map number (one_to n) ∷ []

-- The members of index domains.
abbrev pub index_members : Domains → List (List Value)
index_members is = map member_list (domain_list is)

abbrev mutual
  -- The members of the axes of a view's tables.
  pub axes_members : Repr → Domain → List (List (List Value))
  axes_members (repr ReprKind.Atom no_reprs) e = [] ∷ []
  axes_members (repr ReprKind.Tuple rs) (tuples es) = members_of_axes rs (domain_list es)
  axes_members (repr ReprKind.Rec rs) (records fs es) = members_of_axes rs (domain_list es)
  axes_members (repr ReprKind.Matrix (more_reprs r no_reprs)) (matrices is e) = on_members (index_members is) (axes_members r e)
  axes_members (repr ReprKind.Occurrence no_reprs) (sets ks e) = (member_list e ∷ []) ∷ []
  axes_members (repr ReprKind.Explicit (more_reprs r no_reprs)) (sets ks e) =
      on_members (slot_numbers (slots_of_set ks e)) (axes_members r e)
  axes_members (repr ReprKind.ExplicitVarSizeWithMarker (more_reprs r no_reprs)) (sets ks e) =
      [] ∷ on_members (slot_numbers (slots_of_set ks e)) (axes_members r e)
  axes_members (repr ReprKind.ExplicitVarSizeWithFlags (more_reprs r no_reprs)) (sets ks e) =
      slot_numbers (slots_of_set ks e) ∷ on_members (slot_numbers (slots_of_set ks e)) (axes_members r e)
  axes_members (repr ReprKind.Function1D (more_reprs r no_reprs)) (functions ks x y) = on_members (member_list x ∷ []) (axes_members r y)
  axes_members (repr ReprKind.FunctionND (more_reprs r no_reprs)) (functions ks (tuples xs) y) =
      on_members (index_members xs) (axes_members r y)
  axes_members (repr ReprKind.RelationAsMatrix no_reprs) (relations ks xs) = index_members xs ∷ []
  axes_members (repr ReprKind.Function1DPartial (more_reprs r no_reprs)) (functions ks x y) =
      (member_list x ∷ []) ∷ on_members (member_list x ∷ []) (axes_members r y)
  axes_members (repr ReprKind.FunctionNDPartial (more_reprs r no_reprs)) (functions ks (tuples xs) y) =
      index_members xs ∷ on_members (index_members xs) (axes_members r y)
  axes_members (repr ReprKind.MSetOccurrence no_reprs) (msets ks e) = (member_list e ∷ []) ∷ []
  axes_members (repr ReprKind.MSetExplicitWithFlags (more_reprs r no_reprs)) (msets ks e) =
      slot_numbers (slots_of_mset ks e) ∷ on_members (slot_numbers (slots_of_mset ks e)) (axes_members r e)
  axes_members (repr ReprKind.MSetExplicitWithRepetition (more_reprs r no_reprs)) (msets ks e) =
      [] ∷ on_members (slot_numbers (slots_of_mset ks e)) (axes_members r e)
  axes_members (repr ReprKind.ExplicitVarSizeWithDummy no_reprs) (sets ks e) = slot_numbers (slots_of_set ks e) ∷ []
  axes_members (repr ReprKind.RelationAsSet (more_reprs r no_reprs)) (relations ks xs) = axes_members r (child_set ks xs)
  axes_members (repr ReprKind.FunctionAsRelation (more_reprs r no_reprs)) (functions ks x y) = axes_members r (child_relation ks x y)
  axes_members (repr ReprKind.PartitionAsSet (more_reprs r no_reprs)) (partitions ks x) = axes_members r (child_parts ks x)
  axes_members (repr ReprKind.PartitionOccurrence no_reprs) (partitions ks x) = [] ∷ (member_list x ∷ []) ∷ []
  axes_members _ e = []

  -- Those of the views of components.
  pub members_of_axes : Reprs → List Domain → List (List (List Value))
  members_of_axes (more_reprs r rs) (e ∷ es) = axes_members r e ++ members_of_axes rs es
  members_of_axes _ es = []

module _ (env0 : Env) (q : ℕ → Text) (q-apart : (m l : ℕ) → l < m → same_text (q m) (q l) ≡ false) where
  -- The names q with values, the last one first.
  abbrev pub Bound : Type 0
  Bound = List (ℕ × Value)

  -- The env with bound names.
  abbrev pub M : Bound → Env
  M bs = record env0 { vals = map (λ (b : ℕ × Value). (q b.0, b.1)) bs ++ env0.vals }

  -- The axes have these members, whatever is bound.
  abbrev pub AxesAre : List Dom → List (List Value) → Type 0
  AxesAre [] [] = Unit {0}
  AxesAre (a ∷ as') (vs ∷ vss) = ((bs : Bound) → members_in (domain_of a (M bs)) ≡ Some vs) × AxesAre as' vss
  AxesAre _ vss = ⊥

  -- The tables are found by these names.
  abbrev pub FoundBy : List Text → Tables → Type 0
  FoundBy [] [] = Unit {0}
  FoundBy (n ∷ ns) (t ∷ ts) = (look env0.cells n ≡ Some t) × FoundBy ns ts
  FoundBy _ ts = ⊥

  -- The tables of a part, with the members of their axes.
  abbrev pub Placed : List Shape → List (List (List Value)) → Tables → Type 0
  Placed [] [] [] = Unit {0}
  Placed (s ∷ ss) (vss ∷ vsss) (t ∷ ts) = (look env0.cells s.name ≡ Some t) × AxesAre s.axes vss × Placed ss vsss ts
  Placed _ vsss ts = ⊥

  -- The domain is this one, whatever is bound.
  abbrev pub DomainIs : Dom → Domain → Type 0
  DomainIs d e = (bs : Bound) → domain_of d (M bs) ≡ Some e

  -- What an attribute without a number asks of a function from x to y as a relation of pairs, where y is the domain c: of a total
  -- one, that `total` stands among the attributes ks, and that the members of x are listed; of a surjective one that those of y are.
  abbrev pub PairKeyReady : Dom → List Attribute → Domain → Domain → Key → Type 0
  PairKeyReady c ks x y Key.Total = (has Key.Total ks ≡ true) × (members x ≡ Some (member_list x)) × Enumerated x
  PairKeyReady c ks x y Key.Surjective = (members y ≡ Some (member_list y)) × AxesAre (c ∷ []) (member_list y ∷ [])
  PairKeyReady c ks x y Key.Bijective = (members y ≡ Some (member_list y)) × AxesAre (c ∷ []) (member_list y ∷ [])
  PairKeyReady c ks x y _ = Unit {0}

  -- The domain of functions from d to c of which nothing is asked is that from x to y, and c is bool only where y is.
  abbrev pub BareFunctionIs : Dom → Dom → Domain → Domain → Type 0
  BareFunctionIs d c x y = DomainIs (bare_function_dom d c) (functions [] x y) × BoolIs c y

  -- The members of y are listed, and c has them.
  abbrev pub ValuesListed : Dom → Domain → Type 0
  ValuesListed c y = (members y ≡ Some (member_list y)) × AxesAre (c ∷ []) (member_list y ∷ [])

  -- What an attribute without a number asks of a function from x to y with a value for each argument, as the domains d and c.
  abbrev pub ValueKeyReady : Repr → Dom → Dom → Domain → Domain → Key → Type 0
  ValueKeyReady r d c x y Key.Injective = is_one_cell r ≡ false → BareFunctionIs d c x y
  ValueKeyReady r d c x y Key.Surjective = BareFunctionIs d c x y × ValuesListed c y
  ValueKeyReady r d c x y Key.Bijective = BareFunctionIs d c x y × ValuesListed c y
  ValueKeyReady r d c x y _ = Unit {0}

  -- What it asks of one with flags.
  abbrev pub FlagKeyReady : Dom → Dom → Domain → Domain → Key → Type 0
  FlagKeyReady d c x y Key.Total = members x ≡ Some (member_list x)
  FlagKeyReady d c x y Key.Injective = BareFunctionIs d c x y
  FlagKeyReady d c x y Key.Surjective = BareFunctionIs d c x y × ValuesListed c y
  FlagKeyReady d c x y Key.Bijective = BareFunctionIs d c x y × ValuesListed c y
  FlagKeyReady d c x y _ = Unit {0}

  -- What it asks of a relation between x and y, as the domain d of the one.
  abbrev pub PairRelationKeyReady : Dom → Domain → Key → Type 0
  PairRelationKeyReady d x Key.Reflexive = ValuesListed d x
  PairRelationKeyReady d x _ = Unit {0}

  -- The relation is one between two, and its view's domain v means w.
  abbrev pub RelationKeyReady : Doms → Domains → Dom → Domain → Key → Type 0
  RelationKeyReady (more_doms d (more_doms c no_doms)) (more_domains x (more_domains y no_domains)) v w k =
      (BoolIs d x × BoolIs c y) × DomainIs v w × PairRelationKeyReady d x k
  RelationKeyReady _ xs v w k = ⊥

  -- Where an attribute speaks of how often members occur, the domain of multisets of at most as many members as there are slots means
  -- this.
  abbrev pub TimesReady : Ex → Dom → List Attribute → Domain → Type 0
  TimesReady size d ks e =
      asks_no_times ks ≡ false → DomainIs (bare_mset_dom size d) (msets (numbered Key.MaxSize (pos (slots_of_mset ks e)) ∷ []) e)

module _ (env0 : Env) (q : ℕ → Text) (q-apart : (m l : ℕ) → l < m → same_text (q m) (q l) ≡ false) (terms : Terms) where
  -- The attributes are these, whatever names are bound.
  abbrev pub Attributes : List Mark → Exs → List Attribute → Type 0
  Attributes ms es ks =
      (bs : Bound env0 q q-apart) → AllNumbers es (M env0 q q-apart bs) × (attributes_of ms (meanings es (M env0 q q-apart bs)) ≡ Some ks)

  -- The slots of the domain are n, whatever names are bound.
  abbrev pub SlotsAre : Dom → ℕ → Type 0
  SlotsAre d n = (bs : Bound env0 q q-apart) → Number (terms.slots d) (M env0 q q-apart bs) (pos n)

  -- The term for an atom says whether a cell lies in its domain, whatever names are bound.
  abbrev pub AtomReady : Dom → Domain → Type 0
  AtomReady d e =
      (x : Ex) (bs : Bound env0 q q-apart) (z : ℤ) → fit (is_bool_dom d) z ≡ true →
      meaning x (M env0 q q-apart bs) ≡ Some (cell_value (is_bool_dom d) z) →
      meaning (terms.atom d x) (M env0 q q-apart bs) ≡ Some (truth (is_cell (as_cell e) z))

  -- The term for the dummy is its number, whatever names are bound.
  abbrev pub DummyIs : Dom → Domain → Type 0
  DummyIs d e = (m : ℤ) × (dummy_of e ≡ Some m) × ((bs : Bound env0 q q-apart) → Number (terms.dummy d) (M env0 q q-apart bs) m)
