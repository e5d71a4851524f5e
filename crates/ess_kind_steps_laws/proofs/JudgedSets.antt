-- What a view of a set of a judged domain has: its slots are a number, its kind is one of sets, and atoms can be listed.
use Rattle.std.proofs.Common.{◌≡◌, refl, sym, ap, ◌∙◌, subst, ℕ, ◌<◌, Bool, true, false, ◌&&◌, if◌then◌else◌, List, [], pos, Option, Some, None}
use Rattle.std.specs.Prelude.{IsTrue, is_some}
use Rattle.std.specs.List.{list_all}
use Rattle.ess_semantics.specs.declared.words.ReprKind.{ReprKind}
use Rattle.ess_semantics.specs.Values.{Text, number}
use Rattle.ess_semantics.specs.Order.{same_text}
use Rattle.ess_semantics.specs.Kinds.{is_atom, all_fit}
use Rattle.ess_semantics.specs.Atoms.{Listed}
use Rattle.ess_semantics.specs.Domains.{Attribute, Domain, sets, members, member_list}
use Rattle.ess_semantics.specs.SetLayers.{dummy_of}
use Rattle.ess_semantics.specs.Membership.{member, no_negative_attribute}
use Rattle.ess_semantics.specs.Sizes.{bound, greatest_size, slots_of_set}
use Rattle.ess_semantics.specs.Trees.{Mark, Repr, repr, no_reprs, Exs, seen_ex, Dom, set_dom}
use Rattle.ess_semantics.specs.Meaning.{Env, meaning, domain_of, members_in}
use Rattle.ess_semantics.specs.Meets.{MeetsDom}
use Rattle.ess_semantics.proofs.MemberLists.{atom-listed}
use Rattle.ess_semantics.proofs.Tests.{and-left, and-right}
use Rattle.ess_repr_laws.specs.StructureReady.{Ready}
use Rattle.ess_repr_declare_laws.specs.SizeTerms.{greatest_size_of, bound_ex, slots_ex, dummy_ex, size_terms}
use Rattle.ess_repr_declare_laws.proofs.Readings.{Reads}
use Rattle.ess_repr_declare_laws.proofs.SizeNumbers.{not_below, default-numbered, greatest-reads}
use Rattle.ess_repr_declare_laws.proofs.SizeMeaning.{bound-is}
use Rattle.ess_repr_declare_laws.proofs.ChildDomainsDenoted.{SetOf, set-of}
use Rattle.ess_repr_structure_laws.specs.Laws.{JudgedView}
use Rattle.ess_repr_structure_laws.proofs.WholeNumbers.{set-slots-whole}
use Rattle.ess_repr_structure_laws.proofs.JudgedViews.{judged-ready}
use Rattle.ess_rules_laws.specs.SlotListings.{SlotsAre}
use Rattle.ess_rules_laws.specs.SetListings.{InnerThere}
use Rattle.ess_rules_laws.specs.DummyListings.{DummyIs}
use Rattle.ess_kind_steps_laws.specs.JudgedItems.{JudgedSeen}
use Rattle.ess_kind_steps_laws.proofs.SizesMet.{slots-met, dummy-met}

some-same : {A : Type 0} (o : Option A) (x y : A) → o ≡ Some x → o ≡ Some y → x ≡ y
some-same o x y h k = let q : Some x ≡ Some y = sym h ∙ k in cc

-- ---- slots

-- The slots of a set of a judged domain are a number.
pub slots-count : (r : Repr) (ms : List Mark) (es : Exs) (d : Dom) (env : Env) → JudgedSeen r (set_dom ms es d) env → (ks : List Attribute)
    (e : Domain) → domain_of (set_dom ms es d) env ≡ Some (sets ks e) →
    meaning (slots_ex (set_dom ms es d)) env ≡ Some (number (pos (slots_of_set ks e)))
slots-count r ms es d env j ks e h =
    let v : JudgedView env j.names r (set_dom ms es d) j.domain = j.judged in
    let s : SetOf sets ms es d env (sets ks e) = set-of sets ms es d env (sets ks e) h in
    let plain : not_below s.keys && no_negative_attribute s.inner ≡ true =
    ap no_negative_attribute (s.whole ∙ some-same (domain_of (set_dom ms es d) env) (sets ks e) j.domain h v.denotes) ∙ v.plain in
    let reads : Reads (slots_ex (set_dom ms es d)) env (pos (slots_of_set s.keys s.inner)) =
    default-numbered env (greatest_size_of ms es) (greatest_size s.keys) (bound_ex d) (bound s.inner)
    (greatest-reads env ms es s.keys s.denoted (and-left (not_below s.keys) (no_negative_attribute s.inner) plain))
    (bound-is env d s.inner s.part (and-right (not_below s.keys) (no_negative_attribute s.inner) plain)) in
    let n = v.numbers in
    set-slots-whole env ms es d n.0 n.1 (pos (slots_of_set s.keys s.inner)) reads
    ∙ ap (λ x. Some (number (pos (slots_in x)))) s.whole
  where
    slots_in : Domain → ℕ
    slots_in (sets as' x) = slots_of_set as' x
    slots_in x = 0

module _ (r : Repr) (ms : List Mark) (es : Exs) (d : Dom) (ns : List Text) (js : Exs) (env : Env)
    (j : JudgedSeen r (set_dom ms es d) env) (m : MeetsDom (set_dom ms es d) env) where
  -- So the slots are what rules ask of them.
  pub slots-are : SlotsAre (slots_ex (set_dom ms es d)) (seen_ex r (set_dom ms es d) ns js) env
  slots-are = record { counts = λ ks e h. slots-count r ms es d env j ks e h; met = slots-met env ms es d m }

-- ---- atoms

-- A kind for atoms stands over an atom.
only-atoms : (b : Bool) → elim (if b then Some [] else None) [ None ↦ false | Some ds ↦ all_fit no_reprs ds ] ≡ true → b ≡ true
only-atoms true h = refl
only-atoms false h = cc

-- What a set of a judged domain denotes.
pub record SetDenoted (r : Repr) (ms : List Mark) (es : Exs) (d : Dom) (env : Env) (names : ℕ → Text)
    (differ : (m l : ℕ) → l < m → same_text (names m) (names l) ≡ false) : Type 0 where
  pub keys : List Attribute
  pub inner : Domain
  pub part : domain_of d env ≡ Some inner
  pub ready : Ready env names differ size_terms r (set_dom ms es d) (sets keys inner)

-- It is there where the view is judged.
pub set-denoted : (r : Repr) (ms : List Mark) (es : Exs) (d : Dom) (env : Env) (j : JudgedSeen r (set_dom ms es d) env) →
    SetDenoted r ms es d env j.names j.differ
set-denoted r ms es d env j =
    let v : JudgedView env j.names r (set_dom ms es d) j.domain = j.judged in
    let s : SetOf sets ms es d env j.domain = set-of sets ms es d env j.domain v.denotes in
    record {
      keys = s.keys;
      inner = s.inner;
      part = s.part;
      ready = subst (λ x. Ready env j.names j.differ size_terms r (set_dom ms es d) x) (sym s.whole)
          (judged-ready env j.names j.differ r (set_dom ms es d) j.domain v);
    }

-- Of a set kept by its members' occurrences: what its members are, and that they can be listed.
pub record AtomsThere (d : Dom) (env : Env) : Type 0 where
  pub inner : Domain
  pub part : domain_of d env ≡ Some inner
  pub is_atom_dom : is_atom d ≡ true
  pub listed : members inner ≡ Some (member_list inner)
  pub held : list_all (member inner) (member_list inner) ≡ true

-- So it is of a set of a judged domain.
pub atoms-there : (ms : List Mark) (es : Exs) (d : Dom) (env : Env) → JudgedSeen (repr ReprKind.Occurrence no_reprs) (set_dom ms es d) env →
    AtomsThere d env
atoms-there ms es d env j =
    let v : JudgedView env j.names (repr ReprKind.Occurrence no_reprs) (set_dom ms es d) j.domain = j.judged in
    let s : SetDenoted (repr ReprKind.Occurrence no_reprs) ms es d env j.names j.differ = set-denoted (repr ReprKind.Occurrence no_reprs) ms
    es d env j in
    let i = s.ready in
    let l : Listed s.inner = atom-listed s.inner i.0 in
    record { inner = s.inner; part = s.part; is_atom_dom = only-atoms (is_atom d) v.fit; listed = i.1; held = l.members }

-- The members of the inner domain can be listed.
pub inner-there : (ms : List Mark) (es : Exs) (d : Dom) (ns : List Text) (js : Exs) (env : Env) →
    JudgedSeen (repr ReprKind.Occurrence no_reprs) (set_dom ms es d) env →
    InnerThere (seen_ex (repr ReprKind.Occurrence no_reprs) (set_dom ms es d) ns js) env
inner-there ms es d ns js env j =
    let a : AtomsThere d env = atoms-there ms es d env j in
    subst (λ o. IsTrue (is_some (members_in o))) (sym a.part) (subst (λ o. IsTrue (is_some o)) (sym a.listed) refl)

-- The dummy is the one of the inner domain.
pub dummy-is : (ms : List Mark) (es : Exs) (d : Dom) (ns : List Text) (js : Exs) (env : Env) →
    JudgedSeen (repr ReprKind.ExplicitVarSizeWithDummy no_reprs) (set_dom ms es d) env → MeetsDom d env →
    DummyIs (dummy_ex d) (seen_ex (repr ReprKind.ExplicitVarSizeWithDummy no_reprs) (set_dom ms es d) ns js) env
dummy-is ms es d ns js env j m =
    let s : SetDenoted (repr ReprKind.ExplicitVarSizeWithDummy no_reprs) ms es d env j.names j.differ = set-denoted
    (repr ReprKind.ExplicitVarSizeWithDummy no_reprs) ms es d env j in
    let i = s.ready in
    let t = i.1 in
    record {
      marks = λ e k h q. t.2 [] ∙ ap (λ z. Some (number z))
          (some-same (dummy_of s.inner) t.0 k t.1 (ap dummy_of (some-same (domain_of d env) s.inner e s.part h) ∙ q));
      met = dummy-met env d m;
    }
