-- What a view of a partition of a judged domain has that is kept by part numbers: its members can be listed, and the bound of their domain
-- is a number that there are no more parts than.
use Rattle.std.proofs.Common.{◌≡◌, refl, sym, ap, ◌∙◌, subst, ◌≤◌, Bool, true, false, if◌then◌else◌, List, [], length, pos, Option, Some, None, nat_le}
use Rattle.std.proofs.lemmas.Bool.{le-leb}
use Rattle.std.specs.Prelude.{IsTrue}
use Rattle.ess_semantics.specs.declared.words.ReprKind.{ReprKind}
use Rattle.ess_semantics.specs.Values.{Text, Value, items_of}
use Rattle.ess_semantics.specs.Kinds.{is_atom, all_fit}
use Rattle.ess_semantics.specs.Domains.{Attribute, Domain, partitions}
use Rattle.ess_semantics.specs.Membership.{member, no_negative_attribute}
use Rattle.ess_semantics.specs.Sizes.{bound}
use Rattle.ess_semantics.specs.Trees.{Mark, repr, no_reprs, Ex, Exs, no_exs, seen_ex, Dom, partition_dom}
use Rattle.ess_semantics.specs.Substitution.{NamesAre, NamesAreDom}
use Rattle.ess_semantics.specs.Meaning.{Env, meaning, domain_of}
use Rattle.ess_semantics.specs.Meets.{Meets}
use Rattle.ess_semantics.proofs.Orders.{to_list-of_list}
use Rattle.ess_semantics.proofs.Tests.{and-right}
use Rattle.ess_repr_laws.specs.Finite.{FiniteAtom, Bounded}
use Rattle.ess_repr_laws.specs.Rooms.{Roomy}
use Rattle.ess_repr_laws.proofs.Parts.{PartitionMember, partition-member, parts-most}
use Rattle.ess_repr_declare_laws.specs.SizeTerms.{bound_ex, unused_name}
use Rattle.ess_repr_declare_laws.proofs.SizeNumbers.{not_below}
use Rattle.ess_repr_declare_laws.proofs.SizeMeaning.{bound-is}
use Rattle.ess_repr_declare_laws.proofs.ChildDomainsDenoted.{SetOf, set-of}
use Rattle.ess_repr_structure_laws.specs.DomainNumbers.{NumbersIn}
use Rattle.ess_repr_structure_laws.specs.Laws.{JudgedView}
use Rattle.ess_repr_structure_laws.proofs.ReadyParts.{Known}
use Rattle.ess_repr_structure_laws.proofs.WholeNumbers.{bound-whole}
use Rattle.ess_repr_structure_laws.proofs.JudgedViews.{judged-known}
use Rattle.ess_views_kept_laws.proofs.OpenedViews.{Opened, opened, opened-means, opened-value}
use Rattle.ess_kinds_kept_laws.specs.PartitionAsks.{NumbersEnough}
use Rattle.ess_kind_sizes_laws.proofs.ViewsBehind.{slots-named}
use Rattle.ess_kind_steps_laws.specs.JudgedItems.{JudgedSeen}
use Rattle.ess_kind_steps_laws.proofs.SizesMet.{bound-met}

some-same : {A : Type 0} (o : Option A) (x y : A) → o ≡ Some x → o ≡ Some y → x ≡ y
some-same o x y h k = let q : Some x ≡ Some y = sym h ∙ k in cc

-- A kind for atoms stands over an atom.
only-atoms : (b : Bool) → elim (if b then Some [] else None) [ None ↦ false | Some ds ↦ all_fit no_reprs ds ] ≡ true → b ≡ true
only-atoms true h = refl
only-atoms false h = cc

-- ---- what is denoted

-- What a partition of a judged domain denotes: its members are a finite atom, which has a bound.
pub record PartitionDenoted (ms : List Mark) (es : Exs) (d : Dom) (env : Env) : Type 0 where
  pub keys : List Attribute
  pub inner : Domain
  pub part : domain_of d env ≡ Some inner
  pub whole : domain_of (partition_dom ms es d) env ≡ Some (partitions keys inner)
  pub is_atom_dom : is_atom d ≡ true
  pub finite : FiniteAtom inner
  pub bounded : Bounded inner
  pub plain : no_negative_attribute inner ≡ true
  pub numbers : NumbersIn d env

-- It is there where the view is judged.
pub partition-denoted : (ms : List Mark) (es : Exs) (d : Dom) (env : Env) →
    JudgedSeen (repr ReprKind.PartitionOccurrence no_reprs) (partition_dom ms es d) env → PartitionDenoted ms es d env
partition-denoted ms es d env j =
    let v : JudgedView env j.names (repr ReprKind.PartitionOccurrence no_reprs) (partition_dom ms es d) j.domain = j.judged in
    let s : SetOf partitions ms es d env j.domain = set-of partitions ms es d env j.domain v.denotes in
    let i : Known env j.names j.differ (repr ReprKind.PartitionOccurrence no_reprs) (partition_dom ms es d) j.domain =
    judged-known env j.names j.differ (repr ReprKind.PartitionOccurrence no_reprs) (partition_dom ms es d) j.domain j.judged in
    let h = subst (Roomy (repr ReprKind.PartitionOccurrence no_reprs)) (sym s.whole) i.room in
    let n = v.numbers in
    record {
      keys = s.keys;
      inner = s.inner;
      part = s.part;
      whole = v.denotes ∙ ap Some (sym s.whole);
      is_atom_dom = only-atoms (is_atom d) v.fit;
      finite = h.0;
      bounded = h.1;
      plain = and-right (not_below s.keys) (no_negative_attribute s.inner) (ap no_negative_attribute s.whole ∙ v.plain);
      numbers = n.1;
    }

-- ---- the bound

-- It names what the domain does.
pub bound-named : (u b : Text → Bool) → IsTrue (b unused_name) → (d : Dom) → NamesAreDom u b d → NamesAre u b (bound_ex d)
bound-named u b s d h = slots-named u b s [] no_exs d (tt, h)

module _ (ms : List Mark) (es : Exs) (d : Dom) (ns : List Text) (js : Exs) (env : Env) (p : PartitionDenoted ms es d env) where
  abbrev View : Ex
  View = seen_ex (repr ReprKind.PartitionOccurrence no_reprs) (partition_dom ms es d) ns js

  -- There are no more parts than it says.
  pub numbers-enough : Meets View env → NumbersEnough (bound_ex d) View env
  numbers-enough h =
      let o : Opened (repr ReprKind.PartitionOccurrence no_reprs) (partition_dom ms es d) ns js env =
      opened (repr ReprKind.PartitionOccurrence no_reprs) (partition_dom ms es d) ns js env h in
      let w = opened-value (repr ReprKind.PartitionOccurrence no_reprs) (partition_dom ms es d) ns js env o in
      let m = h.1 in
      record {
        often = bound p.inner;
        says = bound-whole env d p.numbers (pos (bound p.inner)) (bound-is env d p.inner p.part p.plain);
        enough = λ v q.
            let k : member (partitions p.keys p.inner) v ≡ true =
            ap (λ x. member x v)
            (some-same (domain_of (partition_dom ms es d) env) (partitions p.keys p.inner) o.d p.whole o.domain_is)
            ∙ ap (member o.d) (some-same (meaning View env) v w.0 q
            (opened-means (repr ReprKind.PartitionOccurrence no_reprs) (partition_dom ms es d) ns js env refl o ∙ w.1)) ∙ w.2 in
            few v k;
        met = bound-met env d m.1;
      }
    where
      few : (v : Value) → member (partitions p.keys p.inner) v ≡ true → IsTrue (nat_le (length (items_of v)) (bound p.inner))
      few v k =
          let i = partition-member p.keys p.inner v k in
          let c : PartitionMember p.keys p.inner i.0 = i.2 in
          le-leb (length (items_of v)) (bound p.inner)
          (subst (λ xs. length xs ≤ bound p.inner) (sym (ap items_of i.1 ∙ to_list-of_list i.0)) (parts-most p.keys p.inner p.bounded i.0 c))
