-- Domains of nested sets with written numbers: no name stands in one, nothing is put into it, and its type is that of its kind.
use Rattle.std.proofs.Common.{◌≡◌, refl, ap, ◌∙◌, ℕ, Bool, true, false, ◌&&◌, List, [], ◌∷◌, pos, negsuc, Option}
use Rattle.ess_semantics.specs.Values.{Text, a_set}
use Rattle.ess_semantics.specs.Trees.{both_ends, Ends, Mark, flag, valued, Repr, Ex, Exs, number_ex, truth_ex, name_ex, node_ex, matrix_ex, comp_ex, cell_ex, seen_ex, no_exs, more_exs, Dom, bool_dom, int_dom, name_dom, tuple_dom, record_dom, matrix_dom, set_dom, mset_dom, function_dom, relation_dom, partition_dom}
use Rattle.ess_semantics.specs.Types.{compound1, type_of_dom}
use Rattle.ess_semantics.specs.Meaning.{is_bool_dom}
use Rattle.ess_semantics.specs.Substitution.{substitute_exs, substitute_dom, NamesAreExs, NamesAreDom}
use Rattle.ess_semantics.specs.FreeNames.{FreeNamesAreExs, FreeNamesAreDom}
use Rattle.ess_nested_laws.specs.NestedDomains.{is_size_key, are_written_sizes, is_written_atom}
use Rattle.ess_seen_laws.specs.Seen.{scalars, kind_of, kind_ty, Keeps, as_an_atom, by_occurrence, with_a_dummy, in_slots, with_a_marker, with_flags}

-- An atom with written bounds, or sets of such, or of sets of these.
pub data Written : Dom → Type 0 where
  atom_written : {d : Dom} → is_written_atom d ≡ true → Written d
  set_written : {ms : List Mark} {es : Exs} {d : Dom} → are_written_sizes ms es ≡ true → Written d → Written (set_dom ms es d)

-- What tables keep is such a domain.
pub keeps-written : {cells : Text → Option (Bool × List ℕ)} {ks : List ℕ} {r : Repr} {d : Dom} {ns : List Text} → Keeps cells ks r d ns →
    Written d
keeps-written (as_an_atom a q) = atom_written a
keeps-written (by_occurrence k s a q) = set_written s (atom_written a)
keeps-written (with_a_dummy s a b c q) = set_written s (atom_written a)
keeps-written (in_slots s c k) = set_written s (keeps-written k)
keeps-written (with_a_marker s c q k) = set_written s (keeps-written k)
keeps-written (with_flags s c q k) = set_written s (keeps-written k)

-- ---- types

-- An atom has the type of its mark.
pub atom-type : (d : Dom) → is_written_atom d ≡ true → type_of_dom d ≡ kind_ty (scalars (is_bool_dom d))
atom-type bool_dom h = refl
atom-type (int_dom rs es) h = refl
atom-type (name_dom a) h = cc
atom-type (tuple_dom ds) h = cc
atom-type (record_dom fs ds) h = cc
atom-type (matrix_dom is d) h = cc
atom-type (set_dom ms es d) h = cc
atom-type (mset_dom ms es d) h = cc
atom-type (function_dom ms es d c) h = cc
atom-type (relation_dom ms es ds) h = cc
atom-type (partition_dom ms es d) h = cc

atom-kind : (d : Dom) → is_written_atom d ≡ true → type_of_dom d ≡ kind_ty (kind_of d)
atom-kind bool_dom h = refl
atom-kind (int_dom rs es) h = refl
atom-kind (name_dom a) h = cc
atom-kind (tuple_dom ds) h = cc
atom-kind (record_dom fs ds) h = cc
atom-kind (matrix_dom is d) h = cc
atom-kind (set_dom ms es d) h = cc
atom-kind (mset_dom ms es d) h = cc
atom-kind (function_dom ms es d c) h = cc
atom-kind (relation_dom ms es ds) h = cc
atom-kind (partition_dom ms es d) h = cc

-- Its type is that of its kind.
pub written-type : {d : Dom} → Written d → type_of_dom d ≡ kind_ty (kind_of d)
written-type {d} (atom_written h) = atom-kind d h
written-type (set_written s w) = ap (compound1 a_set) (written-type w)

-- ---- numbers alone

-- Each of the expressions is a numeral.
abbrev pub AreNumerals : Exs → Type 0
AreNumerals no_exs = Unit {0}
AreNumerals (more_exs (number_ex n) es) = AreNumerals es
AreNumerals (more_exs e es) = ⊥

second : (a b : Bool) → a && b ≡ true → b ≡ true
second true b h = h
second false b h = cc

-- The sizes that are written are numerals.
pub sizes-numerals : (ms : List Mark) (es : Exs) → are_written_sizes ms es ≡ true → AreNumerals es
sizes-numerals [] no_exs h = tt
sizes-numerals [] (more_exs e es) h = cc
sizes-numerals (flag k ∷ ms) es h = cc
sizes-numerals (valued k ∷ ms) no_exs h = cc
sizes-numerals (valued k ∷ ms) (more_exs (number_ex (pos n)) es) h =
    sizes-numerals ms es (second (is_size_key k) (are_written_sizes ms es) h)
sizes-numerals (valued k ∷ ms) (more_exs (number_ex (negsuc n)) es) h = cc
sizes-numerals (valued k ∷ ms) (more_exs (truth_ex b) es) h = cc
sizes-numerals (valued k ∷ ms) (more_exs (name_ex a) es) h = cc
sizes-numerals (valued k ∷ ms) (more_exs (node_ex b o fs) es) h = cc
sizes-numerals (valued k ∷ ms) (more_exs (matrix_ex fs d) es) h = cc
sizes-numerals (valued k ∷ ms) (more_exs (comp_ex e gs) es) h = cc
sizes-numerals (valued k ∷ ms) (more_exs (cell_ex b n fs) es) h = cc
sizes-numerals (valued k ∷ ms) (more_exs (seen_ex r d ns fs) es) h = cc

-- The bounds of a written range are numerals.
pub bounds-numerals : (rs : List Ends) (es : Exs) → is_written_atom (int_dom rs es) ≡ true → AreNumerals es
bounds-numerals (both_ends ∷ []) (more_exs (number_ex (pos a)) (more_exs (number_ex (pos b)) no_exs)) h = tt
bounds-numerals rs es h = cc

-- Nothing is put into numerals, and no name stands there.
numerals-fixed : (f : Text → Ex) (es : Exs) → AreNumerals es → substitute_exs f es ≡ es
numerals-fixed f no_exs h = refl
numerals-fixed f (more_exs (number_ex n) es) h = ap (more_exs (number_ex n)) (numerals-fixed f es h)
numerals-fixed f (more_exs (truth_ex b) es) h = absurd h
numerals-fixed f (more_exs (name_ex a) es) h = absurd h
numerals-fixed f (more_exs (node_ex b o fs) es) h = absurd h
numerals-fixed f (more_exs (matrix_ex fs d) es) h = absurd h
numerals-fixed f (more_exs (comp_ex e gs) es) h = absurd h
numerals-fixed f (more_exs (cell_ex b n fs) es) h = absurd h
numerals-fixed f (more_exs (seen_ex r d ns fs) es) h = absurd h

pub numerals-named : (u b : Text → Bool) (es : Exs) → AreNumerals es → NamesAreExs u b es
numerals-named u b no_exs h = tt
numerals-named u b (more_exs (number_ex n) es) h = (tt, numerals-named u b es h)
numerals-named u b (more_exs (truth_ex t) es) h = absurd h
numerals-named u b (more_exs (name_ex a) es) h = absurd h
numerals-named u b (more_exs (node_ex t o fs) es) h = absurd h
numerals-named u b (more_exs (matrix_ex fs d) es) h = absurd h
numerals-named u b (more_exs (comp_ex e gs) es) h = absurd h
numerals-named u b (more_exs (cell_ex t n fs) es) h = absurd h
numerals-named u b (more_exs (seen_ex r d ns fs) es) h = absurd h

atom-fixed : (f : Text → Ex) (d : Dom) → is_written_atom d ≡ true → substitute_dom f d ≡ d
atom-fixed f bool_dom h = refl
atom-fixed f (int_dom rs es) h = ap (int_dom rs) (numerals-fixed f es (bounds-numerals rs es h))
atom-fixed f (name_dom a) h = cc
atom-fixed f (tuple_dom ds) h = cc
atom-fixed f (record_dom fs ds) h = cc
atom-fixed f (matrix_dom is d) h = cc
atom-fixed f (set_dom ms es d) h = cc
atom-fixed f (mset_dom ms es d) h = cc
atom-fixed f (function_dom ms es d c) h = cc
atom-fixed f (relation_dom ms es ds) h = cc
atom-fixed f (partition_dom ms es d) h = cc

-- What is put into such a domain leaves it.
pub written-fixed : {d : Dom} (f : Text → Ex) → Written d → substitute_dom f d ≡ d
written-fixed {d} f (atom_written h) = atom-fixed f d h
written-fixed f (set_written {ms = ms} {es = es} {d = d} s w) =
    ap (λ fs. set_dom ms fs (substitute_dom f d)) (numerals-fixed f es (sizes-numerals ms es s)) ∙ ap (set_dom ms es) (written-fixed f w)

atom-named : (u b : Text → Bool) (d : Dom) → is_written_atom d ≡ true → NamesAreDom u b d
atom-named u b bool_dom h = tt
atom-named u b (int_dom rs es) h = numerals-named u b es (bounds-numerals rs es h)
atom-named u b (name_dom a) h = cc
atom-named u b (tuple_dom ds) h = cc
atom-named u b (record_dom fs ds) h = cc
atom-named u b (matrix_dom is d) h = cc
atom-named u b (set_dom ms es d) h = cc
atom-named u b (mset_dom ms es d) h = cc
atom-named u b (function_dom ms es d c) h = cc
atom-named u b (relation_dom ms es ds) h = cc
atom-named u b (partition_dom ms es d) h = cc

-- No name stands in it.
pub written-named : {d : Dom} (u b : Text → Bool) → Written d → NamesAreDom u b d
written-named {d} u b (atom_written h) = atom-named u b d h
written-named u b (set_written {ms = ms} {es = es} s w) =
    (numerals-named u b es (sizes-numerals ms es s), written-named u b w)

numerals-free : (u : Text → Bool) (es : Exs) → AreNumerals es → FreeNamesAreExs u es
numerals-free u no_exs h = tt
numerals-free u (more_exs (number_ex n) es) h = (tt, numerals-free u es h)
numerals-free u (more_exs (truth_ex t) es) h = absurd h
numerals-free u (more_exs (name_ex a) es) h = absurd h
numerals-free u (more_exs (node_ex t o fs) es) h = absurd h
numerals-free u (more_exs (matrix_ex fs d) es) h = absurd h
numerals-free u (more_exs (comp_ex e gs) es) h = absurd h
numerals-free u (more_exs (cell_ex t n fs) es) h = absurd h
numerals-free u (more_exs (seen_ex r d ns fs) es) h = absurd h

atom-free : (u : Text → Bool) (d : Dom) → is_written_atom d ≡ true → FreeNamesAreDom u d
atom-free u bool_dom h = tt
atom-free u (int_dom rs es) h = numerals-free u es (bounds-numerals rs es h)
atom-free u (name_dom a) h = cc
atom-free u (tuple_dom ds) h = cc
atom-free u (record_dom fs ds) h = cc
atom-free u (matrix_dom is d) h = cc
atom-free u (set_dom ms es d) h = cc
atom-free u (mset_dom ms es d) h = cc
atom-free u (function_dom ms es d c) h = cc
atom-free u (relation_dom ms es ds) h = cc
atom-free u (partition_dom ms es d) h = cc

-- No name is free in it.
pub written-free : {d : Dom} (u : Text → Bool) → Written d → FreeNamesAreDom u d
written-free {d} u (atom_written h) = atom-free u d h
written-free u (set_written {ms = ms} {es = es} s w) = (numerals-free u es (sizes-numerals ms es s), written-free u w)
