-- What a view of a function of a judged domain has whose arguments are atoms: they can be listed, and the bound says how many there are.
use Rattle.std.proofs.Common.{◌≡◌, refl, sym, ap, ◌∙◌, subst, Bool, true, false, ◌&&◌, if◌then◌else◌, List, [], ◌∷◌, pos, Option, Some, None}
use Rattle.ess_semantics.specs.declared.words.Key.{Key}
use Rattle.ess_semantics.specs.declared.words.ReprKind.{ReprKind}
use Rattle.ess_semantics.specs.Values.{number}
use Rattle.ess_semantics.specs.Kinds.{is_atom, has_key, fits, all_fit}
use Rattle.ess_semantics.specs.Atoms.{Listed}
use Rattle.ess_semantics.specs.Domains.{Domain, member_list}
use Rattle.ess_semantics.specs.Membership.{no_negative_attribute}
use Rattle.ess_semantics.specs.Sizes.{bound}
use Rattle.ess_semantics.specs.Trees.{Mark, Repr, Reprs, repr, no_reprs, more_reprs, Exs, Dom, function_dom}
use Rattle.ess_semantics.specs.Meaning.{Env, domain_of, members_in}
use Rattle.ess_semantics.specs.Meets.{MeetsDom}
use Rattle.ess_semantics.proofs.MemberLists.{atom-listed}
use Rattle.ess_semantics.proofs.Tests.{and-left, and-right}
use Rattle.ess_repr_laws.specs.Finite.{FiniteAtom, Enumerated}
use Rattle.ess_repr_laws.specs.Rooms.{Roomy}
use Rattle.ess_repr_laws.proofs.Enumerables.{IsEnumerated, atom-enumerable}
use Rattle.ess_repr_declare_laws.proofs.SizeNumbers.{not_below}
use Rattle.ess_repr_declare_laws.proofs.SizeMeaning.{bound-is}
use Rattle.ess_repr_declare_laws.proofs.ChildDomainsDenoted.{FunctionOf, function-of}
use Rattle.ess_repr_structure_laws.specs.Laws.{JudgedView}
use Rattle.ess_repr_structure_laws.proofs.ReadyParts.{Known, listed-is}
use Rattle.ess_repr_structure_laws.proofs.WholeNumbers.{bound-whole}
use Rattle.ess_repr_structure_laws.proofs.JudgedViews.{judged-known}
use Rattle.ess_kinds_kept_laws.specs.FunctionAsks.{BoundSays}
use Rattle.ess_kind_steps_laws.specs.JudgedItems.{JudgedSeen}
use Rattle.ess_kind_steps_laws.proofs.SizesMet.{bound-met}
use Rattle.ess_kind_steps_laws.proofs.JudgedSets.{AtomsThere}

-- ---- forms

-- A kind for functions of atoms stands over one, and has one child.
only-atom : (c : Dom) (rs : Reprs) (b : Bool) → elim (if b then Some (c ∷ []) else None) [ None ↦ false | Some ds ↦ all_fit rs ds ] ≡ true →
    (b ≡ true) × (all_fit rs (c ∷ []) ≡ true)
only-atom c rs true h = (refl, h)
only-atom c rs false h = (cc, cc)

-- ---- arguments

module _ (k : ReprKind) (r : Repr) (ms : List Mark) (es : Exs) (d c : Dom) (env : Env)
    (j : JudgedSeen (repr k (more_reprs r no_reprs)) (function_dom ms es d c) env) where
  abbrev Denoted : Type 0
  Denoted = FunctionOf ms es d c env j.domain

  denoted : Denoted
  denoted = let v : JudgedView env j.names (repr k (more_reprs r no_reprs)) (function_dom ms es d c) j.domain = j.judged in
      function-of ms es d c env j.domain v.denotes

  -- The representation has room.
  room : Roomy (repr k (more_reprs r no_reprs)) j.domain
  room = let i : Known env j.names j.differ (repr k (more_reprs r no_reprs)) (function_dom ms es d c) j.domain =
      judged-known env j.names j.differ (repr k (more_reprs r no_reprs)) (function_dom ms es d c) j.domain j.judged in i.room

  -- Atoms that are finite can be listed.
  pub atoms-of : is_atom d ≡ true → (x : Domain) → domain_of d env ≡ Some x → FiniteAtom x → AtomsThere d env
  atoms-of a x p f =
      let l : Listed x = atom-listed x f.0 in
      record { inner = x; part = p; is_atom_dom = a; listed = listed-is x f.1; held = l.members }

  -- The bound of the first domain.
  pub bound-says : MeetsDom d env → (x : Domain) → domain_of d env ≡ Some x → FiniteAtom x → BoundSays d env
  bound-says m x p f =
      let v : JudgedView env j.names (repr k (more_reprs r no_reprs)) (function_dom ms es d c) j.domain = j.judged in
      let o : Denoted = denoted in
      let q : (not_below o.keys && no_negative_attribute o.first) && no_negative_attribute o.second ≡ true =
      ap no_negative_attribute o.whole ∙ v.plain in
      let plain : no_negative_attribute o.first ≡ true = and-right (not_below o.keys) (no_negative_attribute o.first)
      (and-left (not_below o.keys && no_negative_attribute o.first) (no_negative_attribute o.second) q) in
      let same : o.first ≡ x = some-same (domain_of d env) o.first x o.from p in
      let i : IsEnumerated x = atom-enumerable x f in
      let e : Enumerated x = i.enumerated in
      let n = v.numbers in
      record {
        members = member_list x;
        are_members = ap members_in p ∙ listed-is x f.1;
        says = bound-whole env d n.1 (pos (bound x)) (bound-is env d x p (ap no_negative_attribute (sym same) ∙ plain))
            ∙ ap (λ z. Some (number (pos z))) (sym e.exact);
        met = bound-met env d m;
      }
    where
      some-same : {A : Type 0} (o : Option A) (x y : A) → o ≡ Some x → o ≡ Some y → x ≡ y
      some-same o x y h k = let q : Some x ≡ Some y = sym h ∙ k in cc

-- By kinds: arguments of total functions, and of those with flags.
pub total-arguments : (r : Repr) (ms : List Mark) (es : Exs) (d c : Dom) (env : Env) →
    (j : JudgedSeen (repr ReprKind.Function1D (more_reprs r no_reprs)) (function_dom ms es d c) env) →
    (x : Domain) × (domain_of d env ≡ Some x) × FiniteAtom x
total-arguments r ms es d c env j =
    let o : FunctionOf ms es d c env j.domain = denoted ReprKind.Function1D r ms es d c env j in
    let h = subst (Roomy (repr ReprKind.Function1D (more_reprs r no_reprs))) (sym o.whole) (room ReprKind.Function1D r ms es d c env j) in
    (o.first, o.from, h.0)

-- The arguments of a function with flags.
pub flagged-arguments : (r : Repr) (ms : List Mark) (es : Exs) (d c : Dom) (env : Env) →
    (j : JudgedSeen (repr ReprKind.Function1DPartial (more_reprs r no_reprs)) (function_dom ms es d c) env) → AtomsThere d env
flagged-arguments r ms es d c env j =
    let v : JudgedView env j.names (repr ReprKind.Function1DPartial (more_reprs r no_reprs)) (function_dom ms es d c) j.domain = j.judged in
    let o : FunctionOf ms es d c env j.domain = denoted ReprKind.Function1DPartial r ms es d c env j in
    let h = subst (Roomy (repr ReprKind.Function1DPartial (more_reprs r no_reprs))) (sym o.whole)
    (room ReprKind.Function1DPartial r ms es d c env j) in
    let a = only-atom c (more_reprs r no_reprs) (is_atom d) v.fit in
    atoms-of ReprKind.Function1DPartial r ms es d c env j a.0 o.first o.from h.0

-- A view of a total function that fits has one child.
pub one-child : (rs : Reprs) (ms : List Mark) (es : Exs) (d c : Dom) →
    fits (repr ReprKind.Function1D rs) (function_dom ms es d c) ≡ true → (r : Repr) × (rs ≡ more_reprs r no_reprs)
one-child rs ms es d c h = go rs (only-atom c rs (has_key Key.Total ms && is_atom d) h).1
  where
    go : (rs : Reprs) → all_fit rs (c ∷ []) ≡ true → (r : Repr) × (rs ≡ more_reprs r no_reprs)
    go no_reprs h = (repr ReprKind.Atom no_reprs, cc)
    go (more_reprs r no_reprs) h = (r, refl)
    go (more_reprs r (more_reprs q qs)) h =
        let z : false ≡ true = and-right (fits r c) false h in (repr ReprKind.Atom no_reprs, cc)
