-- The layers of sets and multisets.
use Rattle.std.proofs.Common.{◌≡◌, refl, ap, ◌∙◌, subst, ℕ, true, ◌&&◌, List, [], ◌∷◌, pos, Some}
use Rattle.ess_semantics.specs.declared.words.ReprKind.{ReprKind}
use Rattle.ess_semantics.specs.Numbers.{one_to}
use Rattle.ess_semantics.specs.Domains.{Attribute, Domain, booleans, sets, msets}
use Rattle.ess_semantics.specs.Membership.{no_negative_attribute}
use Rattle.ess_semantics.specs.Sizes.{occurrences, slots_of_set, slots_of_mset}
use Rattle.ess_semantics.specs.Kinds.{is_atom, has_dummy}
use Rattle.ess_semantics.specs.Trees.{Mark, Exs, Dom, bool_dom, set_dom, mset_dom}
use Rattle.ess_semantics.specs.Layers.{codes_of, up_to}
use Rattle.ess_semantics.specs.SetLayers.{occurrence_layer, explicit_layer, marker_layer, flags_layer, dummy_layer}
use Rattle.ess_semantics.specs.MultisetLayers.{mset_occurrence_layer, repetition_layer, mset_flags_layer}
use Rattle.ess_semantics.specs.Meaning.{Env, domain_of}
use Rattle.ess_semantics.proofs.Tests.{and-left, and-right}
use Rattle.ess_repr_declare_laws.specs.SizeTerms.{zero_ex, occurrences_ex, slots_ex}
use Rattle.ess_repr_declare_laws.specs.DeclaredTrees.{axis_dom, from_to, slot_axis}
use Rattle.ess_repr_declare_laws.proofs.Readings.{Reads}
use Rattle.ess_repr_declare_laws.proofs.SizeNumbers.{not_below, occurrences-reads}
use Rattle.ess_repr_declare_laws.proofs.ChildDomainsDenoted.{only, SetOf, set-of}
use Rattle.ess_repr_members_laws.specs.Fields.{Fielded}
use Rattle.ess_repr_members_laws.proofs.TableLists.{Ranged, one-axis}
use Rattle.ess_repr_members_laws.proofs.AtomAxes.{atom-axis}
use Rattle.ess_repr_members_laws.proofs.SizeDomains.{up_to-denotes, set-slots, mset-slots, slots-ranged, dummy-denotes}
use Rattle.ess_repr_members_laws.proofs.LayerParts.{own-fixed, LaidOut}

-- What is known of the parts of a set or a multiset: neither the attributes nor the inner domain have one below 0.
record Parts (make : List Attribute → Domain → Domain) (ms : List Mark) (es : Exs) (d : Dom) (env : Env) (e : Domain) : Type 0 where
  pub set : SetOf make ms es d env e
  pub keys-plain : not_below set.keys ≡ true
  pub inner-plain : no_negative_attribute set.inner ≡ true

set-parts : (env : Env) (ms : List Mark) (es : Exs) (d : Dom) (e : Domain) → domain_of (set_dom ms es d) env ≡ Some e →
    no_negative_attribute e ≡ true → Parts sets ms es d env e
set-parts env ms es d e h n =
    let s : SetOf sets ms es d env e = set-of sets ms es d env e h in
    let p : not_below s.keys && no_negative_attribute s.inner ≡ true = ap no_negative_attribute s.whole ∙ n in
    record {
      set = s;
      keys-plain = and-left (not_below s.keys) (no_negative_attribute s.inner) p;
      inner-plain = and-right (not_below s.keys) (no_negative_attribute s.inner) p;
    }

mset-parts : (env : Env) (ms : List Mark) (es : Exs) (d : Dom) (e : Domain) → domain_of (mset_dom ms es d) env ≡ Some e →
    no_negative_attribute e ≡ true → Parts msets ms es d env e
mset-parts env ms es d e h n =
    let s : SetOf msets ms es d env e = set-of msets ms es d env e h in
    let p : not_below s.keys && no_negative_attribute s.inner ≡ true = ap no_negative_attribute s.whole ∙ n in
    record {
      set = s;
      keys-plain = and-left (not_below s.keys) (no_negative_attribute s.inner) p;
      inner-plain = and-right (not_below s.keys) (no_negative_attribute s.inner) p;
    }

-- The slots are read.
set-read : (env : Env) (ms : List Mark) (es : Exs) (d : Dom) (e : Domain) (p : Parts sets ms es d env e) →
    Reads (slots_ex (set_dom ms es d)) env (pos (slots_of_set p.set.keys p.set.inner))
set-read env ms es d e p = set-slots env ms es d p.set.keys p.set.inner p.set.denoted p.keys-plain p.set.part p.inner-plain

mset-read : (env : Env) (ms : List Mark) (es : Exs) (d : Dom) (e : Domain) (p : Parts msets ms es d env e) →
    Reads (slots_ex (mset_dom ms es d)) env (pos (slots_of_mset p.set.keys p.set.inner))
mset-read env ms es d e p = mset-slots env ms es d p.set.keys p.set.inner p.set.denoted p.keys-plain p.set.part p.inner-plain

-- ---- sets: the layer of each kind is laid out

pub occurrence-laid : (env : Env) (ms : List Mark) (es : Exs) (d : Dom) (e : Domain) → is_atom d ≡ true →
    domain_of (set_dom ms es d) env ≡ Some e →
    no_negative_attribute e ≡ true → LaidOut env ReprKind.Occurrence (set_dom ms es d) e
occurrence-laid env ms es d e a h n =
    let p : Parts sets ms es d env e = set-parts env ms es d e h n in
    subst (LaidOut env ReprKind.Occurrence (set_dom ms es d)) p.set.whole (record {
      over = occurrence_layer p.set.keys p.set.inner;
      there = refl;
      own = own-fixed env (axis_dom d ∷ []) (codes_of p.set.inner ∷ []) bool_dom booleans
          (one-axis env (axis_dom d) (codes_of p.set.inner) (atom-axis env d p.set.inner a p.set.part)) refl;
      axes = refl;
      frees = refl;
      children = refl;
      plain = tt;
      fielded = tt;
      named = tt;
    })

pub explicit-laid : (env : Env) (ms : List Mark) (es : Exs) (d : Dom) (e : Domain) → Fielded d → domain_of (set_dom ms es d) env ≡ Some e →
    no_negative_attribute e ≡ true → LaidOut env ReprKind.Explicit (set_dom ms es d) e
explicit-laid env ms es d e g h n =
    let p : Parts sets ms es d env e = set-parts env ms es d e h n in
    subst (LaidOut env ReprKind.Explicit (set_dom ms es d)) p.set.whole (record {
      over = explicit_layer p.set.keys p.set.inner;
      there = refl;
      own = λ out. tt;
      axes = slots-ranged env (set_dom ms es d) (slots_of_set p.set.keys p.set.inner) (set-read env ms es d e p);
      frees = refl;
      children = only d env p.set.inner p.set.part;
      plain = (p.inner-plain, tt);
      fielded = (g, tt);
      named = tt;
    })

pub marker-laid : (env : Env) (ms : List Mark) (es : Exs) (d : Dom) (e : Domain) → Fielded d → domain_of (set_dom ms es d) env ≡ Some e →
    no_negative_attribute e ≡ true → LaidOut env ReprKind.ExplicitVarSizeWithMarker (set_dom ms es d) e
marker-laid env ms es d e g h n =
    let p : Parts sets ms es d env e = set-parts env ms es d e h n in
    let m : ℕ = slots_of_set p.set.keys p.set.inner in
    subst (LaidOut env ReprKind.ExplicitVarSizeWithMarker (set_dom ms es d)) p.set.whole (record {
      over = marker_layer p.set.keys p.set.inner;
      there = refl;
      own = own-fixed env [] [] (from_to zero_ex (slots_ex (set_dom ms es d))) (up_to m) refl
          (up_to-denotes env (slots_ex (set_dom ms es d)) m (set-read env ms es d e p));
      axes = slots-ranged env (set_dom ms es d) m (set-read env ms es d e p);
      frees = refl;
      children = only d env p.set.inner p.set.part;
      plain = (p.inner-plain, tt);
      fielded = (g, tt);
      named = tt;
    })

pub flags-laid : (env : Env) (ms : List Mark) (es : Exs) (d : Dom) (e : Domain) → Fielded d → domain_of (set_dom ms es d) env ≡ Some e →
    no_negative_attribute e ≡ true → LaidOut env ReprKind.ExplicitVarSizeWithFlags (set_dom ms es d) e
flags-laid env ms es d e g h n =
    let p : Parts sets ms es d env e = set-parts env ms es d e h n in
    let m : ℕ = slots_of_set p.set.keys p.set.inner in
    let r : Ranged env (slot_axis (set_dom ms es d)) (one_to m ∷ []) = slots-ranged env (set_dom ms es d) m (set-read env ms es d e p) in
    subst (LaidOut env ReprKind.ExplicitVarSizeWithFlags (set_dom ms es d)) p.set.whole (record {
      over = flags_layer p.set.keys p.set.inner;
      there = refl;
      own = own-fixed env (slot_axis (set_dom ms es d)) (one_to m ∷ []) bool_dom booleans r refl;
      axes = r;
      frees = refl;
      children = only d env p.set.inner p.set.part;
      plain = (p.inner-plain, tt);
      fielded = (g, tt);
      named = tt;
    })

pub dummy-laid : (env : Env) (ms : List Mark) (es : Exs) (d : Dom) (e : Domain) → has_dummy d ≡ true →
    domain_of (set_dom ms es d) env ≡ Some e →
    no_negative_attribute e ≡ true → LaidOut env ReprKind.ExplicitVarSizeWithDummy (set_dom ms es d) e
dummy-laid env ms es d e a h n =
    let p : Parts sets ms es d env e = set-parts env ms es d e h n in
    let m : ℕ = slots_of_set p.set.keys p.set.inner in
    let r : Ranged env (slot_axis (set_dom ms es d)) (one_to m ∷ []) = slots-ranged env (set_dom ms es d) m (set-read env ms es d e p) in
    subst (LaidOut env ReprKind.ExplicitVarSizeWithDummy (set_dom ms es d)) p.set.whole (record {
      over = dummy_layer p.set.keys p.set.inner;
      there = refl;
      own = λ out. (r, dummy-denotes env out d p.set.inner a p.set.part, tt);
      axes = refl;
      frees = refl;
      children = refl;
      plain = tt;
      fielded = tt;
      named = tt;
    })

-- ---- multisets: the layer of each kind is laid out

pub mset_occurrence-laid : (env : Env) (ms : List Mark) (es : Exs) (d : Dom) (e : Domain) → is_atom d ≡ true →
    domain_of (mset_dom ms es d) env ≡ Some e →
    no_negative_attribute e ≡ true → LaidOut env ReprKind.MSetOccurrence (mset_dom ms es d) e
mset_occurrence-laid env ms es d e a h n =
    let p : Parts msets ms es d env e = mset-parts env ms es d e h n in
    subst (LaidOut env ReprKind.MSetOccurrence (mset_dom ms es d)) p.set.whole (record {
      over = mset_occurrence_layer p.set.keys p.set.inner;
      there = refl;
      own = own-fixed env (axis_dom d ∷ []) (codes_of p.set.inner ∷ []) (from_to zero_ex (occurrences_ex ms es))
          (up_to (occurrences p.set.keys))
          (one-axis env (axis_dom d) (codes_of p.set.inner) (atom-axis env d p.set.inner a p.set.part))
          (up_to-denotes env (occurrences_ex ms es) (occurrences p.set.keys)
          (occurrences-reads env ms es p.set.keys p.set.denoted p.keys-plain));
      axes = refl;
      frees = refl;
      children = refl;
      plain = tt;
      fielded = tt;
      named = tt;
    })

pub repetition-laid : (env : Env) (ms : List Mark) (es : Exs) (d : Dom) (e : Domain) → Fielded d →
    domain_of (mset_dom ms es d) env ≡ Some e →
    no_negative_attribute e ≡ true → LaidOut env ReprKind.MSetExplicitWithRepetition (mset_dom ms es d) e
repetition-laid env ms es d e g h n =
    let p : Parts msets ms es d env e = mset-parts env ms es d e h n in
    let m : ℕ = slots_of_mset p.set.keys p.set.inner in
    subst (LaidOut env ReprKind.MSetExplicitWithRepetition (mset_dom ms es d)) p.set.whole (record {
      over = repetition_layer p.set.keys p.set.inner;
      there = refl;
      own = own-fixed env [] [] (from_to zero_ex (slots_ex (mset_dom ms es d))) (up_to m) refl
          (up_to-denotes env (slots_ex (mset_dom ms es d)) m (mset-read env ms es d e p));
      axes = slots-ranged env (mset_dom ms es d) m (mset-read env ms es d e p);
      frees = refl;
      children = only d env p.set.inner p.set.part;
      plain = (p.inner-plain, tt);
      fielded = (g, tt);
      named = tt;
    })

pub mset_flags-laid : (env : Env) (ms : List Mark) (es : Exs) (d : Dom) (e : Domain) → Fielded d →
    domain_of (mset_dom ms es d) env ≡ Some e →
    no_negative_attribute e ≡ true → LaidOut env ReprKind.MSetExplicitWithFlags (mset_dom ms es d) e
mset_flags-laid env ms es d e g h n =
    let p : Parts msets ms es d env e = mset-parts env ms es d e h n in
    let m : ℕ = slots_of_mset p.set.keys p.set.inner in
    let r : Ranged env (slot_axis (mset_dom ms es d)) (one_to m ∷ []) = slots-ranged env (mset_dom ms es d) m (mset-read env ms es d e p) in
    subst (LaidOut env ReprKind.MSetExplicitWithFlags (mset_dom ms es d)) p.set.whole (record {
      over = mset_flags_layer p.set.keys p.set.inner;
      there = refl;
      own = own-fixed env (slot_axis (mset_dom ms es d)) (one_to m ∷ []) (from_to zero_ex (occurrences_ex ms es))
          (up_to (occurrences p.set.keys)) r
          (up_to-denotes env (occurrences_ex ms es) (occurrences p.set.keys)
          (occurrences-reads env ms es p.set.keys p.set.denoted p.keys-plain));
      axes = r;
      frees = refl;
      children = only d env p.set.inner p.set.part;
      plain = (p.inner-plain, tt);
      fielded = (g, tt);
      named = tt;
    })
