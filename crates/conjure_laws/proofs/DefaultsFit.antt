-- The default representation of a domain fits it.
use Rattle.std.proofs.Common.{◌≡◌, refl, Bool, true, false, ◌&&◌, ◌||◌, not, if◌then◌else◌, List, [], ◌∷◌, Some, None}
use Rattle.ess_semantics.specs.declared.words.ReprKind.{ReprKind}
use Rattle.ess_semantics.specs.declared.words.Key.{Key}
use Rattle.ess_semantics.specs.Trees.{Mark, Repr, Reprs, repr, no_reprs, more_reprs, Exs, no_exs, Dom, Doms, bool_dom, int_dom, name_dom, tuple_dom, record_dom, matrix_dom, set_dom, mset_dom, function_dom, relation_dom, partition_dom, no_doms, more_doms}
use Rattle.ess_semantics.specs.Kinds.{has_key, dom_list, is_atom, are_atoms, is_atom_tuple, size_marks, child_relation_form, child_set_form, fits, all_fit}
use Rattle.ess_semantics.specs.Choice.{over_child, relation_is_sized, default_set, default_mset, default_relation, default_function, default_partition, default_repr, default_reprs}
use Rattle.ess_semantics.proofs.Tests.{and-both}

-- ---- conditions

-- Where a condition holds, the forms of the children are there.
met : (c : Bool) (rs : Reprs) (ds : List Dom) → c ≡ true → all_fit rs ds ≡ true →
    elim (if c then Some ds else None) [ None ↦ false | Some ds ↦ all_fit rs ds ] ≡ true
met true rs ds e h = h
met false rs ds e h = cc

-- one child that fits
one : (r : Repr) (d : Dom) → fits r d ≡ true → all_fit (more_reprs r no_reprs) (d ∷ []) ≡ true
one r d h = and-both (fits r d) true h refl

-- A size that is taken over is among the marks.
sized : (s a b : Bool) → s ≡ true → has_key Key.Size (size_marks s a b) ≡ true
sized true a b e = refl
sized false a b e = cc

-- ---- each kind of domain, where its parts' representations fit

set-fits : (a b : Bool) (ms : List Mark) (es : Exs) (d : Dom) (r : Repr) → (a ≡ true → is_atom d ≡ true) →
    (b ≡ true → has_key Key.Size ms ≡ true) → fits r d ≡ true → fits (default_set a b r) (set_dom ms es d) ≡ true
set-fits true b ms es d r at sz h = met (is_atom d) no_reprs [] (at refl) refl
set-fits false true ms es d r at sz h = met (has_key Key.Size ms) (more_reprs r no_reprs) (d ∷ []) (sz refl) (one r d h)
set-fits false false ms es d r at sz h = one r d h

mset-fits : (a : Bool) (ms : List Mark) (es : Exs) (d : Dom) (r : Repr) → (a ≡ true → is_atom d ≡ true) → fits r d ≡ true →
    fits (default_mset a r) (mset_dom ms es d) ≡ true
mset-fits true ms es d r at h = met (is_atom d) no_reprs [] (at refl) refl
mset-fits false ms es d r at h = one r d h

relation-fits : (a b : Bool) (ms : List Mark) (es : Exs) (ds : Doms) (rs : Reprs) → (a ≡ true → are_atoms ds ≡ true) →
    (b ≡ true → has_key Key.Size ms ≡ true) → all_fit rs (dom_list ds) ≡ true →
    fits (default_relation a b rs) (relation_dom ms es ds) ≡ true
relation-fits true b ms es ds rs at sz h = met (are_atoms ds) no_reprs [] (at refl) refl
relation-fits false b ms es ds rs at sz h =
    let s : Bool = has_key Key.Size ms in
    let l : Bool = has_key Key.MinSize ms in
    let u : Bool = has_key Key.MaxSize ms in
    one (default_set false b (repr ReprKind.Tuple rs)) (child_set_form ms ds)
    (set-fits false b (size_marks s l u) no_exs (tuple_dom ds) (repr ReprKind.Tuple rs) (λ e. cc) (λ e. sized s l u (sz e)) h)

-- The default of a function, where it is known what its domain is and whether it is total.
abbrev default_by : Bool → Bool → Bool → List Mark → Dom → Repr → Repr → Repr
default_by a n t ms c rd rc =
    if a then over_child (if t then ReprKind.Function1D else ReprKind.Function1DPartial) rc
    else (if n then over_child (if t then ReprKind.FunctionND else ReprKind.FunctionNDPartial) rc
    else over_child ReprKind.FunctionAsRelation
    (default_relation (a && is_atom c) (relation_is_sized ms) (more_reprs rd (more_reprs rc no_reprs))))

function-fits : (ms : List Mark) (es : Exs) (d c : Dom) (rd rc : Repr) → fits rd d ≡ true → fits rc c ≡ true →
    fits (default_function ms d c rd rc) (function_dom ms es d c) ≡ true
function-fits ms es d c rd rc h k = go (is_atom d) (is_atom_tuple d) (has_key Key.Total ms) refl refl refl
  where
    go : (a n t : Bool) → is_atom d ≡ a → is_atom_tuple d ≡ n → has_key Key.Total ms ≡ t →
        fits (default_by a n t ms c rd rc) (function_dom ms es d c) ≡ true
    go true n true e f g =
        met (has_key Key.Total ms && is_atom d) (more_reprs rc no_reprs) (c ∷ [])
        (and-both (has_key Key.Total ms) (is_atom d) g e)
        (one rc c k)
    go true n false e f g = met (is_atom d) (more_reprs rc no_reprs) (c ∷ []) e (one rc c k)
    go false true true e f g =
        met (has_key Key.Total ms && is_atom_tuple d) (more_reprs rc no_reprs) (c ∷ [])
        (and-both (has_key Key.Total ms) (is_atom_tuple d) g f)
        (one rc c k)
    go false true false e f g = met (is_atom_tuple d) (more_reprs rc no_reprs) (c ∷ []) f (one rc c k)
    go false false t e f g =
        let s : Bool = has_key Key.Total ms || has_key Key.Size ms in
        let l : Bool = has_key Key.MinSize ms in
        let u : Bool = has_key Key.MaxSize ms || not (has_key Key.Total ms || has_key Key.Size ms) in
        one (default_relation false s (more_reprs rd (more_reprs rc no_reprs))) (child_relation_form ms d c)
        (relation-fits false s (size_marks s l u) no_exs (more_doms d (more_doms c no_doms))
        (more_reprs rd (more_reprs rc no_reprs)) (λ e. cc)
        (sized s l u)
        (and-both (fits rd d) (fits rc c && true) h (one rc c k)))

-- The default of a partition, where it is known whether its domain is an atom.
abbrev partition_by : Bool → List Mark → Repr → Repr
partition_by a ms r =
    if a then repr ReprKind.PartitionOccurrence no_reprs
    else over_child ReprKind.PartitionAsSet (default_set false (has_key Key.NumParts ms) (default_set a (has_key Key.PartSize ms) r))

partition-fits : (ms : List Mark) (es : Exs) (d : Dom) (r : Repr) → fits r d ≡ true →
    fits (default_partition ms d r) (partition_dom ms es d) ≡ true
partition-fits ms es d r h = go (is_atom d) refl
  where
    go : (a : Bool) → is_atom d ≡ a → fits (partition_by a ms r) (partition_dom ms es d) ≡ true
    go true e = met (is_atom d) no_reprs [] e refl
    go false e =
        let s : Bool = has_key Key.NumParts ms in
        let l : Bool = has_key Key.MinNumParts ms in
        let u : Bool = has_key Key.MaxNumParts ms || not (has_key Key.NumParts ms) in
        let s' : Bool = has_key Key.PartSize ms in
        let l' : Bool = has_key Key.MinPartSize ms in
        let u' : Bool = has_key Key.MaxPartSize ms in
        one (default_set false s (default_set false s' r)) (set_dom (size_marks s l u) no_exs (set_dom (size_marks s' l' u') no_exs d))
        (set-fits false s (size_marks s l u) no_exs (set_dom (size_marks s' l' u') no_exs d) (default_set false s' r) (λ e. cc)
        (sized s l u)
        (set-fits false s' (size_marks s' l' u') no_exs d r (λ e. cc) (sized s' l' u') h))

-- ---- all domains

mutual
  -- The representation of a domain where none is named fits.
  pub default-fits : (d : Dom) → fits (default_repr d) d ≡ true
  default-fits bool_dom = refl
  default-fits (int_dom rs es) = refl
  default-fits (name_dom a) = refl
  default-fits (tuple_dom ds) = defaults-fit ds
  default-fits (record_dom fs ds) = defaults-fit ds
  default-fits (matrix_dom is d) = one (default_repr d) d (default-fits d)
  default-fits (set_dom ms es d) =
      set-fits (is_atom d) (has_key Key.Size ms) ms es d (default_repr d) (λ e. e) (λ e. e) (default-fits d)
  default-fits (mset_dom ms es d) = mset-fits (is_atom d) ms es d (default_repr d) (λ e. e) (default-fits d)
  default-fits (function_dom ms es d c) = function-fits ms es d c (default_repr d) (default_repr c) (default-fits d) (default-fits c)
  default-fits (relation_dom ms es ds) =
      relation-fits (are_atoms ds) (has_key Key.Size ms) ms es ds (default_reprs ds) (λ e. e) (λ e. e) (defaults-fit ds)
  default-fits (partition_dom ms es d) = partition-fits ms es d (default_repr d) (default-fits d)

  defaults-fit : (ds : Doms) → all_fit (default_reprs ds) (dom_list ds) ≡ true
  defaults-fit no_doms = refl
  defaults-fit (more_doms d ds) =
      and-both (fits (default_repr d) d) (all_fit (default_reprs ds) (dom_list ds)) (default-fits d) (defaults-fit ds)
