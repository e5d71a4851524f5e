-- Members of functions as a value at each argument, total or with flags.
use Rattle.std.proofs.Common.{◌≡◌, refl, sym, ap, ◌∙◌, subst, Bool, true, false, ◌&&◌, List, [], ◌∷◌, map, length, ℤ, Option, Some, None, option_map, is_some}
use Rattle.ess_semantics.specs.declared.words.ReprKind.{ReprKind}
use Rattle.ess_semantics.specs.declared.words.Key.{Key}
use Rattle.ess_semantics.specs.Lists.{is_some_and}
use Rattle.ess_semantics.specs.Values.{a_function, Value, node, of_list, items_of}
use Rattle.ess_semantics.specs.Collections.{value_at}
use Rattle.ess_semantics.specs.Trees.{Repr, repr, no_reprs, more_reprs}
use Rattle.ess_semantics.specs.Domains.{Attribute, Domain, Domains, booleans, tuples, functions, domain_list, member_list, lists_of}
use Rattle.ess_semantics.specs.Attributes.{function_attributes_hold}
use Rattle.ess_semantics.specs.Membership.{member}
use Rattle.ess_semantics.specs.Tables.{Tables, code, truth_number, cell_at}
use Rattle.ess_semantics.specs.Cells.{Cells, Axes}
use Rattle.ess_semantics.specs.Layers.{OwnTable, Layer, everywhere, where_flagged, Slot, codes_of, fixed_table, no_own_tables, own_cell, chosen, only_child, flags_table, always_tidy}
use Rattle.ess_semantics.specs.FunctionLayers.{function_with}
use Rattle.ess_semantics.specs.Representations.{layer, own_width}
use Rattle.ess_semantics.specs.Canonical.{somes}
use Rattle.ess_repr_laws.specs.Finite.{FiniteAtom, FiniteAtoms, Complete, IsFlagged}
use Rattle.ess_semantics.proofs.Orders.{to_list-of_list}
use Rattle.ess_semantics.proofs.Sorting.{sorted-of, all-holds}
use Rattle.ess_repr_laws.proofs.CanonicalPlaces.{AllOf}
use Rattle.ess_semantics.proofs.MemberLists.{atom-listed}
use Rattle.ess_repr_laws.proofs.TupleMembers.{place_of}
use Rattle.ess_repr_laws.proofs.Arguments.{Arguments, atom-arguments, tuple-arguments}
use Rattle.ess_repr_laws.proofs.TablesAndCells.{AxesDiffer}
use Rattle.ess_repr_laws.proofs.SideBySide.{Along, left-under, length-along}
use Rattle.ess_repr_laws.proofs.CellsOfMembers.{HasCells, MembersHaveCells, Kept, Slots, slots-there, kept-good, kept-values, values_in, picked, map-long}
use Rattle.ess_repr_laws.proofs.CellsOfOneChild.{Laid, layer-cells, layer-wide}
use Rattle.ess_repr_laws.proofs.CellsOfOccurrences.{atom-axis, atom-axes, are-atoms, atoms-listed}
use Rattle.ess_repr_laws.proofs.CompleteLists.{atom-complete, tuples-complete}
use Rattle.ess_repr_laws.proofs.UsedPlaces.{chosen-picked, flags-exact, flags-fit, flags-cells, flags-used, flags-found}
use Rattle.ess_repr_laws.proofs.FunctionPairs.{FunctionMember, function-member, rises-firsts, firsts, each-pair, each-first, values-inside, paired-again, total-values}

-- ---- slots of values

-- The places picked for values and for their slots are the same.
pub kept-picked : {A : Type 0} (r : Repr) (e : Domain) (xs : List A) (vs : List (Option Value)) (ss : List (Option Slot)) → Along vs ss (Kept r e) → picked xs ss ≡ picked xs vs
kept-picked r e [] vs ss h = refl
kept-picked r e (x ∷ xs) [] [] h = refl
kept-picked r e (x ∷ xs) (None ∷ vs) (None ∷ ss) h = kept-picked r e xs vs ss h.1
kept-picked r e (x ∷ xs) (Some v ∷ vs) (Some s ∷ ss) h = ap (λ l. x ∷ l) (kept-picked r e xs vs ss h.1)
kept-picked r e (x ∷ xs) (None ∷ vs) (Some s ∷ ss) h = absurd h.0
kept-picked r e (x ∷ xs) (Some v ∷ vs) (None ∷ ss) h = absurd h.0
kept-picked r e (x ∷ xs) [] (s ∷ ss) h = absurd h
kept-picked r e (x ∷ xs) (v ∷ vs) [] h = absurd h

-- Where all items are there, all places are picked.
pub all-picked : {A B : Type 0} (xs : List A) (os : List (Option B)) → length xs ≡ length os → AllOf os (λ o. is_some o ≡ true) → picked xs os ≡ xs
all-picked [] os e h = refl
all-picked (x ∷ xs) [] e h = cc
all-picked (x ∷ xs) (None ∷ os) e h = cc
all-picked (x ∷ xs) (Some y ∷ os) e h = let e' : length xs ≡ length os = cc in ap (λ l. x ∷ l) (all-picked xs os e' h.1)

-- Where all values are there, so are all slots.
pub all-kept : (r : Repr) (e : Domain) (vs : List (Option Value)) (ss : List (Option Slot)) → Along vs ss (Kept r e) → AllOf vs (λ o. is_some o ≡ true) → AllOf ss (λ o. is_some o ≡ true)
all-kept r e [] [] h a = tt
all-kept r e (None ∷ vs) (s ∷ ss) h a = cc
all-kept r e (Some v ∷ vs) (None ∷ ss) h a = absurd h.0
all-kept r e (Some v ∷ vs) (Some s ∷ ss) h a = (refl, all-kept r e vs ss h.1 a.1)
all-kept r e [] (s ∷ ss) h a = absurd h
all-kept r e (v ∷ vs) [] h a = absurd h

-- Where all items are there, each place is in use.
pub all-used : {A B : Type 0} (xs : List A) (os : List (Option B)) → length xs ≡ length os → AllOf os (λ o. is_some o ≡ true) → Along xs os (λ x o. true ≡ is_some o)
all-used [] [] e h = tt
all-used [] (o ∷ os) e h = cc
all-used (x ∷ xs) [] e h = cc
all-used (x ∷ xs) (o ∷ os) e h = let e' : length xs ≡ length os = cc in (sym h.0, all-used xs os e' h.1)

module _ (r : Repr) (ks : List Attribute) (d c : Domain) (as' : Axes) (index : Value → List ℤ) (args : Arguments d as' index) (differ : AxesDiffer as') (complete : Complete d) (child : MembersHaveCells r c) where
  abbrev xs : List Value
  xs = member_list d

  abbrev values_at : Value → List (Option Value)
  values_at v = map (value_at (items_of v)) xs

  abbrev value : List Value → Value
  value ps = node a_function (of_list ps)

  items : (ps : List Value) → items_of (value ps) ≡ ps
  items ps = to_list-of_list ps

  module _ (ps : List Value) (m : FunctionMember ks d c ps) where
    x : Slots r c (values_at (value ps))
    x = slots-there r c child.of_member (values_at (value ps)) (subst (λ l. AllOf (map (value_at l) xs) (λ o. Rattle.ess_repr_laws.proofs.CellsOfMembers.Inside c o)) (sym (items ps)) (values-inside d c ps xs m.pairs))

    count : length xs ≡ length x.slots
    count = sym (map-long (value_at (items_of (value ps))) xs) ∙ length-along (values_at (value ps)) x.slots (Kept r c) x.kept

    places : length (lists_of as') ≡ length x.slots
    places = ap length args.places ∙ map-long index xs ∙ count

    again : function_with (picked xs x.slots) (values_in x.slots) ≡ value ps
    again =
        let l = args.listed in
        ap (λ ys. function_with ys (values_in x.slots)) (kept-picked r c xs (values_at (value ps)) x.slots x.kept) ∙ ap (function_with (picked xs (values_at (value ps)))) (kept-values r c (values_at (value ps)) x.slots x.kept)
        ∙ ap (λ l. function_with (picked xs (map (value_at l) xs)) (somes (map (value_at l) xs))) (items ps)
        ∙ ap (λ l. node a_function (of_list l))
        (paired-again xs ps (sorted-of xs l.sorted) (sorted-of (firsts ps) (rises-firsts ps m.rise)) (each-pair d c ps m.pairs)
        (λ w h. complete w (all-holds (member d) (firsts ps) w (each-first d c ps m.pairs) h)))

    -- ---- total

    abbrev total_built : Cells → List (List Value) → Option Value
    total_built cs vss = Some (function_with xs (only_child vss))

    abbrev total_asked : Cells → List (List Value) → Bool
    total_asked cs vss = is_some_and (total_built cs vss) (λ v. function_attributes_hold ks d c (items_of v))

    total-laid : (k : ReprKind) → IsFlagged Key.Total ks → Laid k r (functions ks d c) c [] as' everywhere false false values_at no_own_tables total_built total_asked always_tidy (value ps) x.slots
    total-laid k t =
        let all = all-kept r c (values_at (value ps)) x.slots x.kept (subst (λ l. AllOf (map (value_at l) xs) (λ o. is_some o ≡ true)) (sym (items ps)) (total-values ks d c ps t m.attributes)) in
        let built = ap Some (ap (λ ys. function_with ys (values_in x.slots)) (sym (all-picked xs x.slots count all)) ∙ again) in
        record {
          count = places;
          good = kept-good r c (values_at (value ps)) x.slots x.kept;
          exact = tt;
          fit = refl;
          used = all-used (lists_of as') x.slots places all;
          found = ap Some (sym (all-picked (lists_of as') x.slots places all));
          first = refl;
          rise = refl;
          built = built;
          asked = ap (λ o. is_some_and o (λ v. function_attributes_hold ks d c (items_of v))) built ∙ ap (function_attributes_hold ks d c) (items ps) ∙ m.attributes;
        }

    -- ---- with flags

    abbrev flags_own : List OwnTable
    flags_own = fixed_table as' booleans ∷ []

    abbrev flags_tables : Value → List (Option Slot) → Tables
    flags_tables v ss = flags_table as' ss ∷ []

    abbrev partial_built : Cells → List (List Value) → Option Value
    partial_built cs vss = option_map (λ ys. function_with ys (only_child vss)) (chosen xs (λ y. own_cell cs (index y)))

    abbrev partial_asked : Cells → List (List Value) → Bool
    partial_asked cs vss = is_some_and (partial_built cs vss) (λ v. function_attributes_hold ks d c (items_of v))

    partial-laid : (k : ReprKind) → Laid k r (functions ks d c) c flags_own as' where_flagged false false values_at flags_tables partial_built partial_asked always_tidy (value ps) x.slots
    partial-laid k =
        let f = cell_at (flags_table as' x.slots) in
        let cells : Along xs x.slots (λ y s. f (index y) ≡ Some (truth_number (is_some s))) =
        left-under index xs x.slots (λ p s. f p ≡ Some (truth_number (is_some s))) (subst (λ l. Along l x.slots (λ p s. f p ≡ Some (truth_number (is_some s)))) args.places (flags-cells as' differ x.slots places)) in
        let built = ap (option_map (λ ys. function_with ys (values_in x.slots))) (chosen-picked (λ y. f (index y)) xs x.slots cells) ∙ ap Some again in
        record {
          count = places;
          good = kept-good r c (values_at (value ps)) x.slots x.kept;
          exact = (flags-exact as' differ x.slots places, tt);
          fit = ap (λ b. b && true) (flags-fit as' differ x.slots places);
          used = flags-used as' differ x.slots places;
          found = flags-found as' differ x.slots places;
          first = refl;
          rise = refl;
          built = built;
          asked = ap (λ o. is_some_and o (λ v. function_attributes_hold ks d c (items_of v))) built ∙ ap (function_attributes_hold ks d c) (items ps) ∙ m.attributes;
        }

  -- ---- kinds of such layers

  -- The layer of total functions.
  abbrev pub total_whole : Layer
  total_whole = record {
    own = [];
    children = c ∷ [];
    axes = as';
    in_use = everywhere;
    is_sorted = false;
    is_distinct = false;
    contents = λ v. values_at v ∷ [];
    own_tables = no_own_tables;
    built = λ cs vss. Some (function_with xs (only_child vss));
    is_canonical = λ cs vss. is_some_and (Some (function_with xs (only_child vss))) (λ v. function_attributes_hold ks d c (items_of v));
    is_tidy = always_tidy;
  }

  -- Members of total functions.
  pub total-members : (k : ReprKind) → layer k (functions ks d c) ≡ Some total_whole → 0 ≡ own_width k → IsFlagged Key.Total ks → MembersHaveCells (repr k (more_reprs r no_reprs)) (functions ks d c)
  total-members k at ow t = record {
    wide = layer-wide k r (functions ks d c) c [] as' everywhere false false values_at no_own_tables (λ cs vss. Some (function_with xs (only_child vss)))
        (λ cs vss. is_some_and (Some (function_with xs (only_child vss))) (λ v. function_attributes_hold ks d c (items_of v))) always_tidy at ow child.wide;
    of_member = λ v h. let m = function-member ks d c v h in subst (HasCells (repr k (more_reprs r no_reprs)) (functions ks d c)) (sym m.1)
        (layer-cells k r (functions ks d c) c [] as' everywhere false false values_at no_own_tables (λ cs vss. Some (function_with xs (only_child vss)))
        (λ cs vss. is_some_and (Some (function_with xs (only_child vss))) (λ v. function_attributes_hold ks d c (items_of v))) always_tidy at ow child differ (value m.0) (x m.0 m.2) (total-laid m.0 m.2 k t));
  }

  -- The layer of functions with flags.
  abbrev pub partial_whole : Layer
  partial_whole = record {
    own = fixed_table as' booleans ∷ [];
    children = c ∷ [];
    axes = as';
    in_use = where_flagged;
    is_sorted = false;
    is_distinct = false;
    contents = λ v. values_at v ∷ [];
    own_tables = λ v ss. flags_table as' ss ∷ [];
    built = λ cs vss. option_map (λ ys. function_with ys (only_child vss)) (chosen xs (λ y. own_cell cs (index y)));
    is_canonical = λ cs vss. is_some_and (option_map (λ ys. function_with ys (only_child vss)) (chosen xs (λ y. own_cell cs (index y)))) (λ v. function_attributes_hold ks d c (items_of v));
    is_tidy = always_tidy;
  }

  -- Members of functions with flags.
  pub partial-members : (k : ReprKind) → layer k (functions ks d c) ≡ Some partial_whole → 1 ≡ own_width k → MembersHaveCells (repr k (more_reprs r no_reprs)) (functions ks d c)
  partial-members k at ow = record {
    wide = layer-wide k r (functions ks d c) c (fixed_table as' booleans ∷ []) as' where_flagged false false values_at (λ v ss. flags_table as' ss ∷ []) (λ cs vss. option_map (λ ys. function_with ys (only_child vss)) (chosen xs (λ y. own_cell cs (index y))))
        (λ cs vss. is_some_and (option_map (λ ys. function_with ys (only_child vss)) (chosen xs (λ y. own_cell cs (index y)))) (λ v. function_attributes_hold ks d c (items_of v))) always_tidy at ow child.wide;
    of_member = λ v h. let m = function-member ks d c v h in subst (HasCells (repr k (more_reprs r no_reprs)) (functions ks d c)) (sym m.1)
        (layer-cells k r (functions ks d c) c (fixed_table as' booleans ∷ []) as' where_flagged false false values_at (λ v ss. flags_table as' ss ∷ []) (λ cs vss. option_map (λ ys. function_with ys (only_child vss)) (chosen xs (λ y. own_cell cs (index y))))
        (λ cs vss. is_some_and (option_map (λ ys. function_with ys (only_child vss)) (chosen xs (λ y. own_cell cs (index y)))) (λ v. function_attributes_hold ks d c (items_of v))) always_tidy at ow child differ (value m.0) (x m.0 m.2) (partial-laid m.0 m.2 k));
  }

-- ---- from an atom, and from tuples of atoms

module _ (r : Repr) (ks : List Attribute) (d c : Domain) (finite : FiniteAtom d) (child : MembersHaveCells r c) where
  -- Members of total functions from an atom.
  pub function-1d-members : IsFlagged Key.Total ks → MembersHaveCells (repr ReprKind.Function1D (more_reprs r no_reprs)) (functions ks d c)
  function-1d-members t = total-members r ks d c (codes_of d ∷ []) (λ x. code x ∷ []) (atom-arguments d (atom-listed d finite.0)) (atom-axis d finite.0, tt) (atom-complete d finite) child ReprKind.Function1D refl refl t

  -- Members of functions from an atom, with flags.
  pub function-1d-partial-members : MembersHaveCells (repr ReprKind.Function1DPartial (more_reprs r no_reprs)) (functions ks d c)
  function-1d-partial-members = partial-members r ks d c (codes_of d ∷ []) (λ x. code x ∷ []) (atom-arguments d (atom-listed d finite.0)) (atom-axis d finite.0, tt) (atom-complete d finite) child ReprKind.Function1DPartial refl refl

module _ (r : Repr) (ks : List Attribute) (ds : Domains) (c : Domain) (finite : FiniteAtoms ds) (child : MembersHaveCells r c) where
  -- Members of total functions from tuples of atoms.
  pub function-nd-members : IsFlagged Key.Total ks → MembersHaveCells (repr ReprKind.FunctionND (more_reprs r no_reprs)) (functions ks (tuples ds) c)
  function-nd-members t =
      total-members r ks (tuples ds) c (map codes_of (domain_list ds)) place_of (tuple-arguments ds (atoms-listed ds (are-atoms ds finite))) (atom-axes ds (are-atoms ds finite)) (tuples-complete ds finite) child ReprKind.FunctionND refl refl t

  -- Members of functions from tuples of atoms, with flags.
  pub function-nd-partial-members : MembersHaveCells (repr ReprKind.FunctionNDPartial (more_reprs r no_reprs)) (functions ks (tuples ds) c)
  function-nd-partial-members =
      partial-members r ks (tuples ds) c (map codes_of (domain_list ds)) place_of (tuple-arguments ds (atoms-listed ds (are-atoms ds finite))) (atom-axes ds (are-atoms ds finite)) (tuples-complete ds finite) child ReprKind.FunctionNDPartial refl refl
