-- Cells in their domains: widened ones, tables side by side, tables under further axes, and one layer.
use Rattle.std.proofs.Common.{◌≡◌, refl, sym, ap, ◌∙◌, subst, ℕ, zero, suc, ◌+◌, ◌≤◌, Bool, true, false, ◌&&◌, ◌||◌, if◌then◌else◌, List, [], ◌∷◌, ◌++◌, map, take, drop, length, ℤ, pos, Option, Some, None, arith}
use Rattle.std.proofs.lemmas.Bool.{le-leb}
use Rattle.std.specs.List.{list_all}
use Rattle.ess_semantics.specs.declared.words.ReprKind.{ReprKind}
use Rattle.ess_semantics.specs.Lists.{is_some_and}
use Rattle.ess_semantics.specs.Order.{same_int}
use Rattle.ess_semantics.specs.Numbers.{run_from, one_to}
use Rattle.ess_semantics.specs.Trees.{Reprs, repr, no_reprs, more_reprs}
use Rattle.ess_semantics.specs.Domains.{Domain, booleans, integers, named, tuples, records, matrices, sets, msets, functions, relations, partitions, lists_of, add_heads}
use Rattle.ess_semantics.specs.Membership.{in_span}
use Rattle.ess_semantics.specs.Sizes.{slots_of_set, slots_of_mset, occurrences, bound}
use Rattle.ess_semantics.specs.Tables.{is_cell}
use Rattle.ess_semantics.specs.Cells.{Grid, Cells, Axes, behind, every_cell, are_zero}
use Rattle.ess_semantics.specs.Layers.{OwnTable, Layer, all_slots, as_cell, as_numbers, up_to}
use Rattle.ess_semantics.specs.ScalarLayers.{atom_layer, tuple_layer, record_layer, matrix_layer}
use Rattle.ess_semantics.specs.SetLayers.{dummy_of, with_number, occurrence_layer, explicit_layer, marker_layer, flags_layer, dummy_layer}
use Rattle.ess_semantics.specs.MultisetLayers.{mset_occurrence_layer, repetition_layer, mset_flags_layer}
use Rattle.ess_semantics.specs.FunctionLayers.{function_1d_layer, function_1d_partial_layer, function_nd_layer, function_nd_partial_layer, function_as_relation_layer}
use Rattle.ess_semantics.specs.RelationLayers.{relation_matrix_layer, relation_as_set_layer}
use Rattle.ess_semantics.specs.PartitionLayers.{partition_occurrence_layer, partition_as_set_layer}
use Rattle.ess_semantics.specs.Representations.{layer, own_width, places, is_used}
use Rattle.ess_semantics.specs.Declarations.{Declaration, widened, declared_own, under, leaves_out}
use Rattle.ess_semantics.specs.CanonicalTest.{own_cells_fit}
use Rattle.ess_repr_laws.specs.Rooms.{HasDummy, Covered, AllCovered}
use Rattle.ess_semantics.specs.Atoms.{IsAtom}
use Rattle.ess_semantics.proofs.Tests.{and-left, and-right, and-both, or-yes}
use Rattle.ess_repr_laws.proofs.RowsOfCells.{own_axes}
use Rattle.ess_repr_laws.proofs.SlotsUsed.{as_place, slots-are}
use Rattle.ess_repr_laws.proofs.CanonicalPlaces.{AllOf, all-of-map, all-of-both}
use Rattle.ess_semantics.proofs.Orders.{same_int-equal}

-- Each cell over the axes lies in the declared domain.
abbrev pub cells_fit : List Declaration → Cells → Bool
cells_fit [] [] = true
cells_fit (t ∷ ts) (f ∷ fs) = every_cell t.axes (is_cell t.cell) f && cells_fit ts fs
cells_fit _ _ = false

-- ---- widened domains

wider : (d : Domain) (n : ℤ) → is_cell d n ≡ true → is_cell (widened d) n ≡ true
wider (integers []) n h = h
wider (integers (s ∷ ss)) n h = ap (λ b. in_span n (record { low = Some (pos 0); high = Some (pos 0) }) || b) h ∙ or-yes (in_span n (record { low = Some (pos 0); high = Some (pos 0) }))
wider booleans n h = h
wider (named t k) n h = h
wider (tuples ds) n h = h
wider (records fs ds) n h = h
wider (matrices is d) n h = h
wider (sets ks d) n h = h
wider (msets ks d) n h = h
wider (functions ks d c) n h = h
wider (relations ks ds) n h = h
wider (partitions ks d) n h = h

own-wider : (out : Bool) (t : OwnTable) (n : ℤ) → is_cell t.cell n ≡ true → is_cell ((declared_own out t).cell) n ≡ true
own-wider false t n h = h
own-wider true t n h = go t.widens
  where
    go : (b : Bool) → is_cell (if b then widened t.cell else t.cell) n ≡ true
    go true = wider t.cell n h
    go false = h

every-imply : (as' : Axes) (p q : ℤ → Bool) (f : Grid) → ((n : ℤ) → p n ≡ true → q n ≡ true) → every_cell as' p f ≡ true → every_cell as' q f ≡ true
every-imply [] p q f i h = go (f []) h
  where
    go : (o : Option ℤ) → is_some_and o p ≡ true → is_some_and o q ≡ true
    go None h = cc
    go (Some n) h = i n h
every-imply (a ∷ as') p q f i h = go a (λ k e. every-imply as' p q (λ js. f (k ∷ js)) i e) h
  where
    go : (ks : List ℤ) → ((k : ℤ) → every_cell as' p (λ js. f (k ∷ js)) ≡ true → every_cell as' q (λ js. f (k ∷ js)) ≡ true) → list_all (λ k. every_cell as' p (λ js. f (k ∷ js))) ks ≡ true → list_all (λ k. every_cell as' q (λ js. f (k ∷ js))) ks ≡ true
    go [] ih h = refl
    go (k ∷ ks) ih h =
        and-both (every_cell as' q (λ js. f (k ∷ js))) (list_all (λ k. every_cell as' q (λ js. f (k ∷ js))) ks) (ih k (and-left (every_cell as' p (λ js. f (k ∷ js))) (list_all (λ k. every_cell as' p (λ js. f (k ∷ js))) ks) h))
        (go ks ih (and-right (every_cell as' p (λ js. f (k ∷ js))) (list_all (λ k. every_cell as' p (λ js. f (k ∷ js))) ks) h))

-- A layer's own cells that fit lie in the declared domains.
pub own-fits : (out : Bool) (ts : List OwnTable) (c : Cells) → own_cells_fit ts c ≡ true → cells_fit (map (declared_own out) ts) c ≡ true
own-fits out [] [] h = refl
own-fits out [] (f ∷ fs) h = cc
own-fits out (t ∷ ts) [] h = cc
own-fits out (t ∷ ts) (f ∷ fs) h =
    and-both (every_cell t.axes (is_cell ((declared_own out t).cell)) f) (cells_fit (map (declared_own out) ts) fs)
    (every-imply t.axes (is_cell t.cell) (is_cell ((declared_own out t).cell)) f (own-wider out t) (and-left (every_cell t.axes (is_cell t.cell) f) (own_cells_fit ts fs) h))
    (own-fits out ts fs (and-right (every_cell t.axes (is_cell t.cell) f) (own_cells_fit ts fs) h))

-- 0 lies in the widened domain of each own table
abbrev pub ZeroFits : List OwnTable → Type 0
ZeroFits ts = AllOf ts (λ t. is_cell ((declared_own true t).cell) (pos 0) ≡ true)

-- Own cells that are 0 lie in the widened ones.
pub zero-own : (ts : List OwnTable) (c : Cells) → ZeroFits ts → are_zero (own_axes ts) c ≡ true → cells_fit (map (declared_own true) ts) c ≡ true
zero-own [] [] z h = refl
zero-own [] (f ∷ fs) z h = cc
zero-own (t ∷ ts) [] z h = cc
zero-own (t ∷ ts) (f ∷ fs) z h =
    and-both (every_cell t.axes (is_cell ((declared_own true t).cell)) f) (cells_fit (map (declared_own true) ts) fs)
    (every-imply t.axes (same_int (pos 0)) (is_cell ((declared_own true t).cell)) f (λ n e. ap (is_cell ((declared_own true t).cell)) (sym (same_int-equal (pos 0) n e)) ∙ z.0) (and-left (every_cell t.axes (same_int (pos 0)) f) (are_zero (own_axes ts) fs) h))
    (zero-own ts fs z.1 (and-right (every_cell t.axes (same_int (pos 0)) f) (are_zero (own_axes ts) fs) h))

-- ---- tables side by side, and under further axes

-- Two lists of tables.
pub fit-append : (ts us : List Declaration) (c : Cells) → cells_fit ts (take (length ts) c) ≡ true → cells_fit us (drop (length ts) c) ≡ true → cells_fit (ts ++ us) c ≡ true
fit-append [] us c h k = k
fit-append (t ∷ ts) us [] h k = cc
fit-append (t ∷ ts) us (f ∷ fs) h k =
    and-both (every_cell t.axes (is_cell t.cell) f) (cells_fit (ts ++ us) fs) (and-left (every_cell t.axes (is_cell t.cell) f) (cells_fit ts (take (length ts) fs)) h)
    (fit-append ts us fs (and-right (every_cell t.axes (is_cell t.cell) f) (cells_fit ts (take (length ts) fs)) h) k)

-- A property of each cell at each place of the first axes is one of each cell.
pub every-under : (bs as' : Axes) (p : ℤ → Bool) (f : Grid) → AllOf (lists_of bs) (λ q. every_cell as' p (λ js. f (q ++ js)) ≡ true) → every_cell (bs ++ as') p f ≡ true
every-under [] as' p f h = h.0
every-under (b ∷ bs) as' p f h = go b (λ k e. every-under bs as' p (λ js. f (k ∷ js)) e) h
  where
    split : (k : ℤ) (ls ms : List (List ℤ)) → AllOf (map (λ l. k ∷ l) ls ++ ms) (λ q. every_cell as' p (λ js. f (q ++ js)) ≡ true) →
        AllOf ls (λ q. every_cell as' p (λ js. f (k ∷ (q ++ js))) ≡ true) × AllOf ms (λ q. every_cell as' p (λ js. f (q ++ js)) ≡ true)
    split k [] ms h = (tt, h)
    split k (l ∷ ls) ms h = let r = split k ls ms h.1 in ((h.0, r.0), r.1)

    go : (ks : List ℤ) → ((k : ℤ) → AllOf (lists_of bs) (λ q. every_cell as' p (λ js. f (k ∷ (q ++ js))) ≡ true) → every_cell (bs ++ as') p (λ js. f (k ∷ js)) ≡ true) →
        AllOf (add_heads ks (lists_of bs)) (λ q. every_cell as' p (λ js. f (q ++ js)) ≡ true) → list_all (λ k. every_cell (bs ++ as') p (λ js. f (k ∷ js))) ks ≡ true
    go [] ih h = refl
    go (k ∷ ks) ih h =
        let r = split k (lists_of bs) (add_heads ks (lists_of bs)) h in
        and-both (every_cell (bs ++ as') p (λ js. f (k ∷ js))) (list_all (λ k. every_cell (bs ++ as') p (λ js. f (k ∷ js))) ks) (ih k r.0) (go ks ih r.1)

-- Tables under further axes, where those at each place lie in their domains.
pub fit-under : (bs : Axes) (ts : List Declaration) (c : Cells) → length c ≡ length ts → AllOf (lists_of bs) (λ q. cells_fit ts (behind q c) ≡ true) → cells_fit (under bs ts) c ≡ true
fit-under bs [] [] e h = refl
fit-under bs [] (f ∷ fs) e h = cc
fit-under bs (t ∷ ts) [] e h = cc
fit-under bs (t ∷ ts) (f ∷ fs) e h =
    let e' : length fs ≡ length ts = cc in
    and-both (every_cell (bs ++ t.axes) (is_cell t.cell) f) (cells_fit (under bs ts) fs)
    (every-under bs t.axes (is_cell t.cell) f (all-of-map (lists_of bs) (λ q. cells_fit (t ∷ ts) (behind q (f ∷ fs)) ≡ true) (λ q. every_cell t.axes (is_cell t.cell) (λ js. f (q ++ js)) ≡ true) (λ q r. and-left (every_cell t.axes (is_cell t.cell) (λ js. f (q ++ js))) (cells_fit ts (behind q fs)) r) h))
    (fit-under bs ts fs e' (all-of-map (lists_of bs) (λ q. cells_fit (t ∷ ts) (behind q (f ∷ fs)) ≡ true) (λ q. cells_fit ts (behind q fs) ≡ true) (λ q r. and-right (every_cell t.axes (is_cell t.cell) (λ js. f (q ++ js))) (cells_fit ts (behind q fs)) r) h))

-- Two lists of tables that hold 0.
pub zero-split : (as' bs' : List Axes) (c : Cells) → are_zero (as' ++ bs') c ≡ true → (are_zero as' (take (length as') c) ≡ true) × (are_zero bs' (drop (length as') c) ≡ true)
zero-split [] bs' c h = (refl, h)
zero-split (a ∷ as') bs' [] h = cc
zero-split (a ∷ as') bs' (f ∷ fs) h =
    let r = zero-split as' bs' fs (and-right (every_cell a (same_int (pos 0)) f) (are_zero (as' ++ bs') fs) h) in
    (and-both (every_cell a (same_int (pos 0)) f) (are_zero as' (take (length as') fs)) (and-left (every_cell a (same_int (pos 0)) f) (are_zero (as' ++ bs') fs) h) r.0, r.1)

-- A property of each cell, at each place of the first axes.
pub under-every : (bs as' : Axes) (p : ℤ → Bool) (f : Grid) → every_cell (bs ++ as') p f ≡ true → AllOf (lists_of bs) (λ q. every_cell as' p (λ js. f (q ++ js)) ≡ true)
under-every [] as' p f h = (h, tt)
under-every (b ∷ bs) as' p f h = go b (λ k e. under-every bs as' p (λ js. f (k ∷ js)) e) h
  where
    join : (k : ℤ) (ls ms : List (List ℤ)) → AllOf ls (λ q. every_cell as' p (λ js. f (k ∷ (q ++ js))) ≡ true) → AllOf ms (λ q. every_cell as' p (λ js. f (q ++ js)) ≡ true) → AllOf (map (λ l. k ∷ l) ls ++ ms) (λ q. every_cell as' p (λ js. f (q ++ js)) ≡ true)
    join k [] ms h i = i
    join k (l ∷ ls) ms h i = (h.0, join k ls ms h.1 i)

    go : (ks : List ℤ) → ((k : ℤ) → every_cell (bs ++ as') p (λ js. f (k ∷ js)) ≡ true → AllOf (lists_of bs) (λ q. every_cell as' p (λ js. f (k ∷ (q ++ js))) ≡ true)) →
        list_all (λ k. every_cell (bs ++ as') p (λ js. f (k ∷ js))) ks ≡ true → AllOf (add_heads ks (lists_of bs)) (λ q. every_cell as' p (λ js. f (q ++ js)) ≡ true)
    go [] ih h = tt
    go (k ∷ ks) ih h =
        join k (lists_of bs) (add_heads ks (lists_of bs)) (ih k (and-left (every_cell (bs ++ as') p (λ js. f (k ∷ js))) (list_all (λ k. every_cell (bs ++ as') p (λ js. f (k ∷ js))) ks) h))
        (go ks ih (and-right (every_cell (bs ++ as') p (λ js. f (k ∷ js))) (list_all (λ k. every_cell (bs ++ as') p (λ js. f (k ∷ js))) ks) h))

-- Tables under further axes that hold 0.
pub zero-under : (bs : Axes) (ass : List Axes) (c : Cells) → are_zero (map (λ as'. bs ++ as') ass) c ≡ true → AllOf (lists_of bs) (λ q. are_zero ass (behind q c) ≡ true)
zero-under bs [] [] h = each (lists_of bs)
  where
    each : (ps : List (List ℤ)) → AllOf ps (λ q. true ≡ true)
    each [] = tt
    each (p ∷ ps) = (refl, each ps)
zero-under bs [] (f ∷ fs) h = cc
zero-under bs (as' ∷ ass) [] h = cc
zero-under bs (as' ∷ ass) (f ∷ fs) h =
    all-of-both (lists_of bs) (λ q. every_cell as' (same_int (pos 0)) (λ js. f (q ++ js)) ≡ true) (λ q. are_zero ass (behind q fs) ≡ true) (λ q. are_zero (as' ∷ ass) (behind q (f ∷ fs)) ≡ true)
    (λ q x y. and-both (every_cell as' (same_int (pos 0)) (λ js. f (q ++ js))) (are_zero ass (behind q fs)) x y)
    (under-every bs as' (same_int (pos 0)) f (and-left (every_cell (bs ++ as') (same_int (pos 0)) f) (are_zero (map (λ as'. bs ++ as') ass) fs) h))
    (zero-under bs ass fs (and-right (every_cell (bs ++ as') (same_int (pos 0)) f) (are_zero (map (λ as'. bs ++ as') ass) fs) h))

-- Tables that hold 0 are as many as lists of axes.
pub zero-length : (ass : List Axes) (c : Cells) → are_zero ass c ≡ true → length c ≡ length ass
zero-length [] [] h = refl
zero-length [] (f ∷ fs) h = cc
zero-length (a ∷ ass) [] h = cc
zero-length (a ∷ ass) (f ∷ fs) h = ap suc (zero-length ass fs (and-right (every_cell a (same_int (pos 0)) f) (are_zero ass fs) h))

-- ---- the layers

-- What is asked of a layer: its own tables are so many, hold 0 where they can be out of use, and its places are in use where all are.
pub record View (k : ReprKind) (rs : Reprs) (d : Domain) : Type 0 where
  pub l : Layer
  pub at : layer k d ≡ Some l
  pub wide : length l.own ≡ own_width k
  pub zero : ZeroFits l.own
  pub used : leaves_out l.in_use ≡ false → (own : Cells) → AllOf (places l) (λ js. is_used l.in_use own js ≡ true)
  pub inner : AllCovered rs l.children

each-used : (ps : List (List ℤ)) → AllOf ps (λ js. true ≡ true)
each-used [] = tt
each-used (p ∷ ps) = (refl, each-used ps)

slots-used : (n : ℕ) → AllOf (lists_of (one_to n ∷ [])) (λ js. is_used (all_slots n) [] js ≡ true)
slots-used n = subst (λ l. AllOf l (λ js. is_used (all_slots n) [] js ≡ true)) (sym (slots-are (one_to n))) (go 1 n (omega arith))
  where
    go : (a m : ℕ) → a + m ≤ 1 + n → AllOf (map as_place (run_from a m)) (λ js. is_used (all_slots n) [] js ≡ true)
    go a zero h = tt
    go a (suc m) h = (le-leb a n (omega arith), go (suc a) m (omega arith))

-- `int(0..n)` holds 0
zero-up : (n : ℕ) → is_cell (up_to n) (pos 0) ≡ true
zero-up n = ap (λ b. (true && b) || false) (le-leb 0 n (omega arith))

-- an atom's widened domain holds 0
zero-atom : (d : Domain) → IsAtom d → is_cell (widened (as_cell d)) (pos 0) ≡ true
zero-atom booleans a = refl
zero-atom (integers []) a = refl
zero-atom (integers (s ∷ ss)) a = refl
zero-atom (named t n) a = refl
zero-atom _ a = absurd a

view-dummy : (d : Domain) → HasDummy d → is_cell (widened (with_number (dummy_of d) (as_numbers d))) (pos 0) ≡ true
view-dummy (integers (s ∷ [])) h = go (dummy_of (integers (s ∷ [])))
  where
    go : (o : Option ℤ) → is_cell (widened (with_number o (integers (s ∷ [])))) (pos 0) ≡ true
    go None = refl
    go (Some m) = refl
view-dummy (named t n) h = refl
view-dummy (integers []) h = absurd h
view-dummy (integers (s ∷ r ∷ ss)) h = absurd h
view-dummy _ h = absurd h

view-atom : (d : Domain) → IsAtom d → View ReprKind.Atom no_reprs d
view-atom booleans a = record { l = atom_layer booleans; at = refl; wide = refl; zero = (refl, tt); used = λ e own. each-used ([] ∷ []); inner = tt }
view-atom (integers ss) a = record { l = atom_layer (integers ss); at = refl; wide = refl; zero = (zero-atom (integers ss) tt, tt); used = λ e own. each-used ([] ∷ []); inner = tt }
view-atom (named t n) a = record { l = atom_layer (named t n); at = refl; wide = refl; zero = (refl, tt); used = λ e own. each-used ([] ∷ []); inner = tt }
view-atom _ a = absurd a

-- Each kind over its domain has such a layer.
pub view : (k : ReprKind) (rs : Reprs) (d : Domain) → Covered (repr k rs) d → View k rs d
view ReprKind.Atom no_reprs d h = view-atom d h
view ReprKind.Tuple rs (tuples ds) h = record { l = tuple_layer ds; at = refl; wide = refl; zero = tt; used = λ e own. each-used ([] ∷ []); inner = h }
view ReprKind.Rec rs (records fs ds) h = record { l = record_layer fs ds; at = refl; wide = refl; zero = tt; used = λ e own. each-used ([] ∷ []); inner = h }
view ReprKind.Matrix (more_reprs r no_reprs) (matrices is d) h = let l : Layer = matrix_layer is d in record { l = l; at = refl; wide = refl; zero = tt; used = λ e own. each-used (places l); inner = (h.2, tt) }
view ReprKind.Occurrence no_reprs (sets ks d) h = record { l = occurrence_layer ks d; at = refl; wide = refl; zero = (refl, tt); used = λ e own. each-used ([] ∷ []); inner = tt }
view ReprKind.Explicit (more_reprs r no_reprs) (sets ks d) h = record { l = explicit_layer ks d; at = refl; wide = refl; zero = tt; used = λ e own. slots-used (slots_of_set ks d); inner = (h, tt) }
view ReprKind.ExplicitVarSizeWithMarker (more_reprs r no_reprs) (sets ks d) h = record { l = marker_layer ks d; at = refl; wide = refl; zero = (zero-up (slots_of_set ks d), tt); used = λ e own. cc; inner = (h, tt) }
view ReprKind.ExplicitVarSizeWithFlags (more_reprs r no_reprs) (sets ks d) h = record { l = flags_layer ks d; at = refl; wide = refl; zero = (refl, tt); used = λ e own. cc; inner = (h, tt) }
view ReprKind.ExplicitVarSizeWithDummy no_reprs (sets ks d) h = record { l = dummy_layer ks d; at = refl; wide = refl; zero = (view-dummy d h, tt); used = λ e own. each-used ([] ∷ []); inner = tt }
view ReprKind.MSetOccurrence no_reprs (msets ks d) h = record { l = mset_occurrence_layer ks d; at = refl; wide = refl; zero = (zero-up (occurrences ks), tt); used = λ e own. each-used ([] ∷ []); inner = tt }
view ReprKind.MSetExplicitWithRepetition (more_reprs r no_reprs) (msets ks d) h = record { l = repetition_layer ks d; at = refl; wide = refl; zero = (zero-up (slots_of_mset ks d), tt); used = λ e own. cc; inner = (h, tt) }
view ReprKind.MSetExplicitWithFlags (more_reprs r no_reprs) (msets ks d) h = record { l = mset_flags_layer ks d; at = refl; wide = refl; zero = (zero-up (occurrences ks), tt); used = λ e own. cc; inner = (h, tt) }
view ReprKind.Function1D (more_reprs r no_reprs) (functions ks d c) h = let l : Layer = function_1d_layer ks d c in record { l = l; at = refl; wide = refl; zero = tt; used = λ e own. each-used (places l); inner = (h.1, tt) }
view ReprKind.Function1DPartial (more_reprs r no_reprs) (functions ks d c) h = record { l = function_1d_partial_layer ks d c; at = refl; wide = refl; zero = (refl, tt); used = λ e own. cc; inner = (h.1, tt) }
view ReprKind.FunctionND (more_reprs r no_reprs) (functions ks (tuples ds) c) h = let l : Layer = function_nd_layer ks ds c in record { l = l; at = refl; wide = refl; zero = tt; used = λ e own. each-used (places l); inner = (h.1, tt) }
view ReprKind.FunctionNDPartial (more_reprs r no_reprs) (functions ks (tuples ds) c) h = record { l = function_nd_partial_layer ks ds c; at = refl; wide = refl; zero = (refl, tt); used = λ e own. cc; inner = (h.1, tt) }
view ReprKind.FunctionAsRelation (more_reprs r no_reprs) (functions ks d c) h = record { l = function_as_relation_layer ks d c; at = refl; wide = refl; zero = tt; used = λ e own. each-used ([] ∷ []); inner = (h, tt) }
view ReprKind.RelationAsMatrix no_reprs (relations ks ds) h = record { l = relation_matrix_layer ks ds; at = refl; wide = refl; zero = (refl, tt); used = λ e own. each-used ([] ∷ []); inner = tt }
view ReprKind.RelationAsSet (more_reprs r no_reprs) (relations ks ds) h = record { l = relation_as_set_layer ks ds; at = refl; wide = refl; zero = tt; used = λ e own. each-used ([] ∷ []); inner = (h, tt) }
view ReprKind.PartitionOccurrence no_reprs (partitions ks d) h = record { l = partition_occurrence_layer ks d; at = refl; wide = refl; zero = (zero-up (bound d), (refl, tt)); used = λ e own. each-used ([] ∷ []); inner = tt }
view ReprKind.PartitionAsSet (more_reprs r no_reprs) (partitions ks d) h = record { l = partition_as_set_layer ks d; at = refl; wide = refl; zero = tt; used = λ e own. each-used ([] ∷ []); inner = (h, tt) }
view _ rs d h = absurd h
