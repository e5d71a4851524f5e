-- The domains whose bounds are sizes: slots, markers, numbers of times, cells that can be out of use, and dummies.
use Rattle.std.proofs.Common.{◌≡◌, refl, sym, ap, ◌∙◌, ℕ, ◌*◌, Bool, true, false, if◌then◌else◌, List, [], ◌∷◌, ℤ, pos, ◌+ℤ◌, Some, None, option_map}
use Rattle.ess_semantics.specs.Lists.{and_then}
use Rattle.ess_semantics.specs.Numbers.{one_to}
use Rattle.ess_semantics.specs.Domains.{Span, Attribute, Domain, integers, between}
use Rattle.ess_semantics.specs.Membership.{no_negative_attribute}
use Rattle.ess_semantics.specs.Sizes.{greatest_size, occurrences, bound, slots_of_set, slots_of_mset}
use Rattle.ess_semantics.specs.Kinds.{has_dummy}
use Rattle.ess_semantics.specs.Trees.{Ends, one_value, both_ends, low_end, high_end, Mark, Ex, Exs, no_exs, more_exs, Dom, bool_dom, int_dom, name_dom, tuple_dom, record_dom, matrix_dom, set_dom, mset_dom, function_dom, relation_dom, partition_dom}
use Rattle.ess_semantics.specs.Layers.{as_numbers, up_to}
use Rattle.ess_semantics.specs.SetLayers.{dummy_of, with_number}
use Rattle.ess_semantics.specs.Declarations.{widened}
use Rattle.ess_semantics.specs.DeclaredTables.{axis_members}
use Rattle.ess_semantics.specs.Meaning.{Env, meaning, meanings, as_int, spans_of, with_span, attributes_of, domain_of}
use Rattle.ess_repr_laws.specs.StructureParts.{upto}
use Rattle.ess_repr_laws.proofs.DenotedDomains.{domain-formed}
use Rattle.ess_repr_declare_laws.specs.SizeTerms.{zero_ex, one_ex, next_ex, times_ex, listed_ex, greatest_size_of, occurrences_ex, bound_ex, slots_ex, bound_or_0}
use Rattle.ess_repr_declare_laws.specs.DeclaredTrees.{from_to, widened_dom, widened_if, with_dummy, slot_axis}
use Rattle.ess_repr_declare_laws.proofs.Readings.{Reads, plus-reads, times-reads}
use Rattle.ess_repr_declare_laws.proofs.SizeNumbers.{mapped, chained, default-numbered, not_below, greatest-reads, occurrences-reads}
use Rattle.ess_repr_declare_laws.proofs.IntSizes.{bound-reads-same}
use Rattle.ess_repr_declare_laws.proofs.SizeMeaning.{bound-is}
use Rattle.ess_repr_members_laws.proofs.TableLists.{Ranged, one-axis}
use Rattle.ess_repr_members_laws.proofs.AtomAxes.{one_to-members, named-as, upto-denotes, values-read}

-- ---- slots

-- From 0 to a term.
pub up_to-denotes : (env : Env) (e : Ex) (n : ℕ) → Reads e env (pos n) → domain_of (from_to zero_ex e) env ≡ Some (up_to n)
up_to-denotes env e n h = ap (λ o. option_map integers (and_then o (λ m. with_span (Some (pos 0)) (Some m) (Some [])))) h

-- The slots of a set and of a multiset are read.
pub set-slots : (env : Env) (ms : List Mark) (es : Exs) (d : Dom) (ks : List Attribute) (x : Domain) →
    attributes_of ms (meanings es env) ≡ Some ks →
    not_below ks ≡ true → domain_of d env ≡ Some x → no_negative_attribute x ≡ true →
    Reads (slots_ex (set_dom ms es d)) env (pos (slots_of_set ks x))
set-slots env ms es d ks x a n h p =
    default-numbered env (greatest_size_of ms es) (greatest_size ks) (bound_ex d) (bound x) (greatest-reads env ms es ks a n)
    (bound-is env d x h p)

pub mset-slots : (env : Env) (ms : List Mark) (es : Exs) (d : Dom) (ks : List Attribute) (x : Domain) →
    attributes_of ms (meanings es env) ≡ Some ks →
    not_below ks ≡ true → domain_of d env ≡ Some x → no_negative_attribute x ≡ true →
    Reads (slots_ex (mset_dom ms es d)) env (pos (slots_of_mset ks x))
mset-slots env ms es d ks x a n h p =
    default-numbered env (greatest_size_of ms es) (greatest_size ks) (times_ex (occurrences_ex ms es) (bound_ex d))
    (occurrences ks * bound x)
    (greatest-reads env ms es ks a n)
    (times-reads env (occurrences_ex ms es) (bound_ex d) (occurrences ks) (bound x) (occurrences-reads env ms es ks a n)
    (bound-is env d x h p))

-- The axis of slots has the numbers from 1 on.
pub slots-ranged : (env : Env) (d : Dom) (n : ℕ) → Reads (slots_ex d) env (pos n) → Ranged env (slot_axis d) (one_to n ∷ [])
slots-ranged env d n h =
    one-axis env (upto (slots_ex d)) (one_to n) (ap axis_members (upto-denotes env (slots_ex d) n h) ∙ one_to-members n)

-- ---- cells out of use

-- An int domain gets a 0 as the one that it denotes does.
pub widened-denotes : (env : Env) (rs : List Ends) (es : Exs) (e : Domain) → domain_of (int_dom rs es) env ≡ Some e →
    domain_of (widened_dom (int_dom rs es)) env ≡ Some (widened e)
widened-denotes env [] no_exs e h = let q : integers [] ≡ e = cc in ap (λ x. Some (widened x)) q
widened-denotes env [] (more_exs x es) e h = cc
widened-denotes env (r ∷ rs) es e h = let m = mapped integers (spans_of (r ∷ rs) (meanings es env)) e h in go m.0 m.1 m.2
  where
    go : (ss : List Span) → spans_of (r ∷ rs) (meanings es env) ≡ Some ss → integers ss ≡ e →
        domain_of (widened_dom (int_dom (r ∷ rs) es)) env ≡ Some (widened e)
    go [] p q = absurd (domain-formed (int_dom (r ∷ rs) es) env (integers []) tt (ap (option_map integers) p))
    go (s ∷ ss) p q = ap (λ o. option_map integers (with_span (Some (pos 0)) (Some (pos 0)) o)) p ∙ ap (λ x. Some (widened x)) q

-- A domain widened where the cell can be out of use.
abbrev pub wide_if : Bool → Domain → Domain
wide_if out e = if (if out then true else false) then widened e else e

pub widened_if-denotes : (env : Env) (out : Bool) (rs : List Ends) (es : Exs) (e : Domain) → domain_of (int_dom rs es) env ≡ Some e →
    domain_of (widened_if out (int_dom rs es)) env ≡ Some (wide_if out e)
widened_if-denotes env true rs es e h = widened-denotes env rs es e h
widened_if-denotes env false rs es e h = h

-- ---- dummies

-- One range and one number behind it.
range-and-number : (env : Env) (a b c : Ex) (x y z : ℤ) → Reads a env x → Reads b env y → Reads c env z →
    domain_of (int_dom (both_ends ∷ one_value ∷ []) (more_exs a (more_exs b (more_exs c no_exs)))) env
    ≡ Some (integers (record { low = Some x; high = Some y } ∷ record { low = Some z; high = Some z } ∷ []))
range-and-number env a b c x y z p q r =
    ap (λ o. option_map integers (and_then o (λ m. and_then (as_int (meaning b env))
    (λ n. with_span (Some m) (Some n) (and_then (as_int (meaning c env)) (λ k. with_span (Some k) (Some k) (Some []))))))) p
    ∙ ap (λ o. option_map integers (and_then o (λ n. with_span (Some x) (Some n)
    (and_then (as_int (meaning c env)) (λ k. with_span (Some k) (Some k) (Some [])))))) q
    ∙ ap (λ o. option_map integers (with_span (Some x) (Some y) (and_then o (λ k. with_span (Some k) (Some k) (Some []))))) r

-- The cells of an atom and its dummy.
pub dummy-denotes : (env : Env) (out : Bool) (d : Dom) (e : Domain) → has_dummy d ≡ true → domain_of d env ≡ Some e →
    domain_of (widened_if out (with_dummy d)) env ≡ Some (wide_if out (with_number (dummy_of e) (as_numbers e)))
dummy-denotes env out (int_dom (both_ends ∷ []) (more_exs a (more_exs b no_exs))) e t h =
    let m = mapped integers (and_then (as_int (meaning a env))
    (λ x. and_then (as_int (meaning b env)) (λ y. with_span (Some x) (Some y) (Some [])))) e h in
    let u = chained (as_int (meaning a env)) (λ x. and_then (as_int (meaning b env))
    (λ y. with_span (Some x) (Some y) (Some []))) m.0 m.1 in
    let v = chained (as_int (meaning b env)) (λ y. with_span (Some u.0) (Some y) (Some [])) m.0 u.2 in
    let q : between u.0 v.0 ≡ e = let w = v.2 in let k = m.2 in cc in
    widened_if-denotes env out (both_ends ∷ one_value ∷ []) (more_exs a (more_exs b (more_exs (next_ex (bound_or_0 b)) no_exs)))
    (with_number (dummy_of (between u.0 v.0)) (as_numbers (between u.0 v.0)))
    (range-and-number env a b (next_ex (bound_or_0 b)) u.0 v.0 (v.0 +ℤ pos 1) u.1 v.1
    (plus-reads env (bound_or_0 b) one_ex v.0 (pos 1) (bound-reads-same env b v.0 v.1) refl))
    ∙ ap (λ x. Some (wide_if out (with_number (dummy_of x) (as_numbers x)))) q
dummy-denotes env out (int_dom (both_ends ∷ []) no_exs) e t h = cc
dummy-denotes env out (int_dom (both_ends ∷ []) (more_exs a no_exs)) e t h = cc
dummy-denotes env out (int_dom (both_ends ∷ []) (more_exs a (more_exs b (more_exs c es)))) e t h =
    let m = mapped integers (and_then (as_int (meaning a env))
    (λ x. and_then (as_int (meaning b env)) (λ y. with_span (Some x) (Some y) None))) e h in
    let u = chained (as_int (meaning a env)) (λ x. and_then (as_int (meaning b env)) (λ y. with_span (Some x) (Some y) None)) m.0 m.1 in
    let v = chained (as_int (meaning b env)) (λ y. with_span (Some u.0) (Some y) None) m.0 u.2 in let w = v.2 in cc
dummy-denotes env out (int_dom (both_ends ∷ r ∷ rs) es) e t h = cc
dummy-denotes env out (int_dom (one_value ∷ rs) es) e t h = cc
dummy-denotes env out (int_dom (low_end ∷ rs) es) e t h = cc
dummy-denotes env out (int_dom (high_end ∷ rs) es) e t h = cc
dummy-denotes env out (int_dom [] es) e t h = cc
dummy-denotes env out (name_dom a) e t h =
    let k = named-as env a e h in
    let r : Reads (listed_ex (name_dom a)) env (pos k.0) = values-read env a e k.0 h k.1 in
    let l : Ex = listed_ex (name_dom a) in
    widened_if-denotes env out (both_ends ∷ one_value ∷ []) (more_exs one_ex (more_exs l (more_exs (next_ex l) no_exs)))
    (with_number (Some (pos k.0 +ℤ pos 1)) (between (pos 1) (pos k.0)))
    (range-and-number env one_ex l (next_ex l) (pos 1) (pos k.0) (pos k.0 +ℤ pos 1) refl r
    (plus-reads env l one_ex (pos k.0) (pos 1) r refl))
    ∙ ap (λ x. Some (wide_if out (with_number (Some (pos k.0 +ℤ pos 1)) x))) (sym k.1.numbers)
    ∙ ap (λ o. Some (wide_if out (with_number o (as_numbers e)))) (sym k.1.dummy)
dummy-denotes env out bool_dom e t h = cc
dummy-denotes env out (tuple_dom ds) e t h = cc
dummy-denotes env out (record_dom fs ds) e t h = cc
dummy-denotes env out (matrix_dom is d) e t h = cc
dummy-denotes env out (set_dom ms es d) e t h = cc
dummy-denotes env out (mset_dom ms es d) e t h = cc
dummy-denotes env out (function_dom ms es d c) e t h = cc
dummy-denotes env out (relation_dom ms es ds) e t h = cc
dummy-denotes env out (partition_dom ms es d) e t h = cc
