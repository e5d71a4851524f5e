-- What a view of a multiset of a judged domain has: its slots and how often a member may be there are numbers, and atoms can be listed.
use Rattle.std.proofs.Common.{◌≡◌, refl, sym, ap, ◌∙◌, subst, ◌*◌, ◌≤◌, Bool, true, ◌&&◌, List, [], ℕ, pos, Option, Some, None, nat_le}
use Rattle.std.proofs.lemmas.Bool.{le-leb}
use Rattle.std.specs.Prelude.{IsTrue, is_some}
use Rattle.ess_semantics.specs.declared.words.Key.{Key}
use Rattle.ess_semantics.specs.declared.words.ReprKind.{ReprKind}
use Rattle.ess_semantics.specs.Lists.{is_some_and, or_else, or_default}
use Rattle.ess_semantics.specs.Values.{Text, Value, number, items_of, itself}
use Rattle.ess_semantics.specs.Collections.{count, no_twice}
use Rattle.ess_semantics.specs.Atoms.{Listed}
use Rattle.ess_semantics.specs.Domains.{Attribute, Domain, msets, member_list}
use Rattle.ess_semantics.specs.Membership.{member, no_negative_attribute}
use Rattle.ess_semantics.specs.Sizes.{bound, greatest_size, occurrences, slots_of_mset}
use Rattle.ess_semantics.specs.Trees.{Mark, Repr, repr, no_reprs, Ex, Exs, no_exs, seen_ex, Dom, mset_dom}
use Rattle.ess_semantics.specs.Substitution.{NamesAre, NamesAreDom}
use Rattle.ess_semantics.specs.Meaning.{Env, meaning, meanings, attributes_of, domain_of, members_in}
use Rattle.ess_semantics.specs.Meets.{Meets, MeetsDom}
use Rattle.ess_semantics.proofs.MemberLists.{atom-listed}
use Rattle.ess_semantics.proofs.Orders.{to_list-of_list}
use Rattle.ess_semantics.proofs.Repeats.{sorted-distinct}
use Rattle.ess_semantics.proofs.Sorting.{sorted-of, distinct-twice}
use Rattle.ess_semantics.proofs.Tests.{and-left, and-right}
use Rattle.ess_repr_laws.specs.Finite.{OccursBound}
use Rattle.ess_repr_laws.specs.Rooms.{Roomy}
use Rattle.ess_repr_laws.specs.StructureMeaning.{AllNumbers}
use Rattle.ess_repr_laws.proofs.Times.{occurs-most, MsetMember, mset-member}
use Rattle.ess_repr_declare_laws.specs.SizeTerms.{zero_ex, times_ex, number_of, greatest_size_of, occurrences_ex, bound_ex, slots_ex, unused_name}
use Rattle.ess_repr_declare_laws.proofs.Readings.{Reads, times-reads}
use Rattle.ess_repr_declare_laws.proofs.SizeNumbers.{not_below, default-numbered, greatest-reads, occurrences-reads}
use Rattle.ess_repr_declare_laws.proofs.SizeMeaning.{bound-is}
use Rattle.ess_repr_declare_laws.proofs.ChildDomainsDenoted.{SetOf, set-of}
use Rattle.ess_repr_structure_laws.specs.DomainNumbers.{NumbersIn}
use Rattle.ess_repr_structure_laws.specs.Laws.{JudgedView}
use Rattle.ess_repr_structure_laws.proofs.ReadyParts.{Known, listed-is}
use Rattle.ess_repr_structure_laws.proofs.WholeNumbers.{WholeEx, WholeOption, number-of-whole, mset-slots-whole}
use Rattle.ess_repr_structure_laws.proofs.JudgedViews.{judged-known}
use Rattle.ess_views_kept_laws.specs.MultisetsListed.{OftenEnough, MultisetSlotsAre}
use Rattle.ess_views_kept_laws.proofs.OpenedViews.{Opened, opened, opened-means, opened-value}
use Rattle.ess_kind_sizes_laws.proofs.ViewsBehind.{slots-named}
use Rattle.ess_kind_steps_laws.specs.JudgedItems.{JudgedSeen}
use Rattle.ess_kind_steps_laws.proofs.SizesMet.{slots-met, bound-met}

pub some-same : {A : Type 0} (o : Option A) (x y : A) → o ≡ Some x → o ≡ Some y → x ≡ y
some-same o x y h k = let q : Some x ≡ Some y = sym h ∙ k in cc

-- ---- what is denoted

-- What a multiset of a judged domain denotes: no attribute is below 0, and the representation has room.
pub record MultisetDenoted (r : Repr) (ms : List Mark) (es : Exs) (d : Dom) (env : Env) : Type 0 where
  pub keys : List Attribute
  pub inner : Domain
  pub denoted : attributes_of ms (meanings es env) ≡ Some keys
  pub part : domain_of d env ≡ Some inner
  pub whole : domain_of (mset_dom ms es d) env ≡ Some (msets keys inner)
  pub low : not_below keys ≡ true
  pub plain : no_negative_attribute inner ≡ true
  pub room : Roomy r (msets keys inner)
  pub numbers : NumbersIn (mset_dom ms es d) env

-- It is there where the view is judged.
pub multiset-denoted : (r : Repr) (ms : List Mark) (es : Exs) (d : Dom) (env : Env) → JudgedSeen r (mset_dom ms es d) env →
    MultisetDenoted r ms es d env
multiset-denoted r ms es d env j =
    let v : JudgedView env j.names r (mset_dom ms es d) j.domain = j.judged in
    let s : SetOf msets ms es d env j.domain = set-of msets ms es d env j.domain v.denotes in
    let i : Known env j.names j.differ r (mset_dom ms es d) j.domain =
    judged-known env j.names j.differ r (mset_dom ms es d) j.domain j.judged in
    let q : not_below s.keys && no_negative_attribute s.inner ≡ true = ap no_negative_attribute s.whole ∙ v.plain in
    record {
      keys = s.keys;
      inner = s.inner;
      denoted = s.denoted;
      part = s.part;
      whole = v.denotes ∙ ap Some (sym s.whole);
      low = and-left (not_below s.keys) (no_negative_attribute s.inner) q;
      plain = and-right (not_below s.keys) (no_negative_attribute s.inner) q;
      room = subst (Roomy r) (sym s.whole) i.room;
      numbers = v.numbers;
    }

-- ---- names and structures of sizes

-- How often a member may be there names what the domain does.
pub occurrences-named : (u b : Text → Bool) → IsTrue (b unused_name) → (ms : List Mark) (es : Exs) (d : Dom) →
    NamesAreDom u b (mset_dom ms es d) → NamesAre u b (occurrences_ex ms es)
occurrences-named u b s ms es d h = (slots-named u b s [] no_exs (mset_dom ms es d) (tt, h)).0.0

-- Tables meet its structures where they meet those of the domain.
pub occurrences-met : (ms : List Mark) (es : Exs) (d : Dom) (env : Env) → MeetsDom (mset_dom ms es d) env → Meets (occurrences_ex ms es) env
occurrences-met ms es d env m = (bound-met env (mset_dom ms es d) m).0.0

-- And those of how many slots there are.
pub mset-slots-met : (ms : List Mark) (es : Exs) (d : Dom) (env : Env) → MeetsDom (mset_dom ms es d) env →
    Meets (slots_ex (mset_dom ms es d)) env
mset-slots-met ms es d env m = go (greatest_size_of ms es) (slots-met env ms es d m)
  where
    go : (o : Option Ex) → Meets (or_default o (bound_ex d)) env →
        Meets (or_default o (times_ex (occurrences_ex ms es) (bound_ex d))) env
    go None h = (occurrences-met ms es d env m, (h, tt))
    go (Some f) h = h

-- ---- sizes

-- How often a member may be there is a whole number.
occurrences-whole : (env : Env) (ms : List Mark) (es : Exs) → AllNumbers es env → WholeEx (occurrences_ex ms es) env
occurrences-whole env ms es h =
    go (number_of Key.MaxOccur ms es) (number_of Key.Size ms es) (number_of Key.MaxSize ms es)
    (number-of-whole env Key.MaxOccur ms es h) (number-of-whole env Key.Size ms es h) (number-of-whole env Key.MaxSize ms es h)
  where
    go : (o p q : Option Ex) → WholeOption env o → WholeOption env p → WholeOption env q →
        WholeEx (or_default (or_else o (or_else p q)) zero_ex) env
    go (Some e) p q h k l = h
    go None (Some e) q h k l = k
    go None None (Some e) h k l = l
    go None None None h k l = λ z i. let t : pos 0 ≡ z = cc in ap (λ n. Some (number n)) t

module _ (r : Repr) (ms : List Mark) (es : Exs) (d : Dom) (ns : List Text) (js : Exs) (env : Env) (m : MultisetDenoted r ms es d env) where
  abbrev View : Ex
  View = seen_ex r (mset_dom ms es d) ns js

  -- The slots are a number.
  slots-count : meaning (slots_ex (mset_dom ms es d)) env ≡ Some (number (pos (slots_of_mset m.keys m.inner)))
  slots-count =
      let n = m.numbers in
      let reads : Reads (slots_ex (mset_dom ms es d)) env (pos (slots_of_mset m.keys m.inner)) =
      default-numbered env (greatest_size_of ms es) (greatest_size m.keys) (times_ex (occurrences_ex ms es) (bound_ex d))
      (occurrences m.keys * bound m.inner) (greatest-reads env ms es m.keys m.denoted m.low)
      (times-reads env (occurrences_ex ms es) (bound_ex d) (occurrences m.keys) (bound m.inner)
      (occurrences-reads env ms es m.keys m.denoted m.low) (bound-is env d m.inner m.part m.plain)) in
      mset-slots-whole env ms es d n.0 n.1 (pos (slots_of_mset m.keys m.inner)) reads

  -- So they are what rules ask of them.
  pub mset-slots-are : MeetsDom (mset_dom ms es d) env → MultisetSlotsAre (slots_ex (mset_dom ms es d)) View env
  mset-slots-are h = record {
    counts = λ ks e q. slots-count ∙ ap (λ x. Some (number (pos (slots_in x))))
        (some-same (domain_of (mset_dom ms es d) env) (msets m.keys m.inner) (msets ks e) m.whole q);
    met = mset-slots-met ms es d env h;
  }
    where
      slots_in : Domain → ℕ
      slots_in (msets ks x) = slots_of_mset ks x
      slots_in x = 0

  -- No member is there more often than the domain says.
  pub often-enough : OccursBound m.keys → Meets View env → OftenEnough (occurrences_ex ms es) View env
  often-enough b h =
      let o : Opened r (mset_dom ms es d) ns js env = opened r (mset_dom ms es d) ns js env h in
      let w = opened-value r (mset_dom ms es d) ns js env o in
      let n = m.numbers in
      record {
        often = occurrences m.keys;
        says = occurrences-whole env ms es n.0 (pos (occurrences m.keys)) (occurrences-reads env ms es m.keys m.denoted m.low);
        enough = λ v q u.
            let k : member (msets m.keys m.inner) v ≡ true =
            ap (λ x. member x v)
            (some-same (domain_of (mset_dom ms es d) env) (msets m.keys m.inner) o.d m.whole o.domain_is)
            ∙ ap (member o.d) (some-same (meaning View env) v w.0 q (opened-means r (mset_dom ms es d) ns js env refl o ∙ w.1)) ∙ w.2 in
            often-in v u b k;
        met = occurrences-met ms es d env h.1;
      }
    where
      often-in : (v u : Value) → OccursBound m.keys → member (msets m.keys m.inner) v ≡ true →
          IsTrue (nat_le (count (items_of v) u) (occurrences m.keys))
      often-in v u b k =
          let p = mset-member m.keys m.inner v k in
          let c : MsetMember m.keys m.inner p.0 = p.2 in
          le-leb (count (items_of v) u) (occurrences m.keys)
          (subst (λ xs. count xs u ≤ occurrences m.keys) (sym (ap items_of p.1 ∙ to_list-of_list p.0))
          (occurs-most m.keys b p.0 c.attributes u))

-- ---- members that are numbered

module _ (ms : List Mark) (es : Exs) (d : Dom) (env : Env) (m : MultisetDenoted (repr ReprKind.MSetOccurrence no_reprs) ms es d env) where
  -- They can be listed.
  pub members-there : IsTrue (is_some (members_in (domain_of d env)))
  members-there = let h = m.room in subst (λ o. IsTrue (is_some (members_in o))) (sym m.part) h.0.1

  -- And differ.
  pub members-differ : IsTrue (is_some_and (members_in (domain_of d env)) (no_twice itself))
  members-differ =
      let h = m.room in
      let l : Listed m.inner = atom-listed m.inner h.0.0 in
      subst (λ o. IsTrue (is_some_and (members_in o) (no_twice itself))) (sym m.part)
      (subst (λ o. IsTrue (is_some_and o (no_twice itself))) (sym (listed-is m.inner h.0.1))
      (distinct-twice (member_list m.inner) (sorted-distinct (member_list m.inner) (sorted-of (member_list m.inner) l.sorted))))
