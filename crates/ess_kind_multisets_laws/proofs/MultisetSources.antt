-- What views of multisets of judged domains offer has what it counts on.
use Rattle.std.proofs.Common.{◌≡◌, refl, true, false, not, List, [], ◌∷◌, Some, None}
use Rattle.ess_semantics.specs.declared.words.Fun.{Fun}
use Rattle.ess_semantics.specs.declared.words.ReprKind.{ReprKind}
use Rattle.ess_semantics.specs.Values.{Text}
use Rattle.ess_semantics.specs.Order.{same_text}
use Rattle.ess_semantics.specs.Kinds.{fits}
use Rattle.ess_semantics.specs.Trees.{Mark, Repr, Reprs, repr, no_reprs, more_reprs, Exs, seen_ex, Dom, mset_dom, fun1}
use Rattle.ess_semantics.specs.Meaning.{Env}
use Rattle.ess_semantics.specs.Meets.{Meets}
use Rattle.ess_repr_declare_laws.specs.SizeTerms.{occurrences_ex}
use Rattle.ess_repr_structure_laws.specs.Laws.{JudgedView}
use Rattle.ess_rules_laws.specs.Rules.{Unused}
use Rattle.ess_rules_laws.specs.Listings.{Alternative}
use Rattle.ess_kind_rules_laws.specs.ViewListings.{listing_of}
use Rattle.ess_kinds_kept_laws.specs.NewNames.{TwoNew}
use Rattle.ess_kinds_kept_laws.specs.ViewAsks.{ViewAsks}
use Rattle.ess_kind_steps_laws.specs.JudgedItems.{JudgedSeen}
use Rattle.ess_kind_multisets_laws.specs.MultisetsAtHand.{MultisetsAreListed}
use Rattle.ess_kind_multisets_laws.proofs.JudgedMultisets.{MultisetDenoted, multiset-denoted, occurrences-named, mset-slots-are, often-enough, members-there, members-differ}

no : {A : Type 0} → false ≡ true → A
no h = cc

-- A source that offers nothing.
absent : {A : Type 0} (a : Alternative) → None ≡ Some a → A
absent a q = cc

module _ (x y : Text) (zs : List Text) (ms : List Mark) (es : Exs) (d : Dom) (js : Exs) (env : Env) where
  -- How often a member may be there doesn't use the new name.
  occurrences-new : (r : Repr) (ns : List Text) → Unused x (seen_ex r (mset_dom ms es d) ns js) → Unused x (occurrences_ex ms es)
  occurrences-new r ns u = occurrences-named (λ a. not (same_text x a)) (λ a. true) refl ms es d u.0

  view-listed : (k : ReprKind) (rs : Reprs) (ns : List Text) (a : Alternative) →
      listing_of k x y zs (seen_ex (repr k rs) (mset_dom ms es d) ns js) ≡ Some a →
      TwoNew x y (seen_ex (repr k rs) (mset_dom ms es d) ns js) → JudgedSeen (repr k rs) (mset_dom ms es d) env →
      Meets (seen_ex (repr k rs) (mset_dom ms es d) ns js) env → ViewAsks x y zs (seen_ex (repr k rs) (mset_dom ms es d) ns js) env
  view-listed ReprKind.MSetOccurrence no_reprs (t ∷ []) a q u j m =
      let i : MultisetDenoted (repr ReprKind.MSetOccurrence no_reprs) ms es d env =
      multiset-denoted (repr ReprKind.MSetOccurrence no_reprs) ms es d env j in
      let h = i.room in (
        u,
        occurrences-new (repr ReprKind.MSetOccurrence no_reprs) (t ∷ []) u.first,
        members-there ms es d env i,
        often-enough (repr ReprKind.MSetOccurrence no_reprs) ms es d (t ∷ []) js env i h.1 m,
      )
  view-listed ReprKind.MSetExplicitWithRepetition (more_reprs r no_reprs) (t ∷ ns) a q u j m = (
    u.first,
    mset-slots-are (repr ReprKind.MSetExplicitWithRepetition (more_reprs r no_reprs)) ms es d (t ∷ ns) js env
        (multiset-denoted (repr ReprKind.MSetExplicitWithRepetition (more_reprs r no_reprs)) ms es d env j) m.1,
  )
  view-listed ReprKind.MSetExplicitWithFlags (more_reprs r no_reprs) (t ∷ ns) a q u j m =
      let i : MultisetDenoted (repr ReprKind.MSetExplicitWithFlags (more_reprs r no_reprs)) ms es d env =
      multiset-denoted (repr ReprKind.MSetExplicitWithFlags (more_reprs r no_reprs)) ms es d env j in
      let h = i.room in (
        u,
        occurrences-new (repr ReprKind.MSetExplicitWithFlags (more_reprs r no_reprs)) (t ∷ ns) u.first,
        mset-slots-are (repr ReprKind.MSetExplicitWithFlags (more_reprs r no_reprs)) ms es d (t ∷ ns) js env i m.1,
        often-enough (repr ReprKind.MSetExplicitWithFlags (more_reprs r no_reprs)) ms es d (t ∷ ns) js env i h.1.0 m,
      )
  view-listed ReprKind.MSetOccurrence no_reprs [] a q u j m = absent a q
  view-listed ReprKind.MSetOccurrence no_reprs (t ∷ s ∷ ns) a q u j m = absent a q
  view-listed ReprKind.MSetOccurrence (more_reprs r rs) ns a q u j m = absent a q
  view-listed ReprKind.MSetExplicitWithRepetition no_reprs ns a q u j m = absent a q
  view-listed ReprKind.MSetExplicitWithRepetition (more_reprs r no_reprs) [] a q u j m = absent a q
  view-listed ReprKind.MSetExplicitWithRepetition (more_reprs r (more_reprs s rs)) ns a q u j m = absent a q
  view-listed ReprKind.MSetExplicitWithFlags no_reprs ns a q u j m = absent a q
  view-listed ReprKind.MSetExplicitWithFlags (more_reprs r no_reprs) [] a q u j m = absent a q
  view-listed ReprKind.MSetExplicitWithFlags (more_reprs r (more_reprs s rs)) ns a q u j m = absent a q
  view-listed k rs ns a q u j m = no (fit-of k rs j)
    where
      fit-of : (k : ReprKind) (rs : Reprs) → JudgedSeen (repr k rs) (mset_dom ms es d) env → fits (repr k rs) (mset_dom ms es d) ≡ true
      fit-of k rs j = let v : JudgedView env j.names (repr k rs) (mset_dom ms es d) j.domain = j.judged in v.fit

-- What is said of each source.
pub multisets-are-listed : MultisetsAreListed
multisets-are-listed x y zs (seen_ex (repr k rs) (mset_dom ms es d) ns js) a q i u env j m = view-listed x y zs ms es d js env k rs ns a q u j m
multisets-are-listed x y zs (fun1 false Fun.ToSet (seen_ex (repr ReprKind.MSetOccurrence no_reprs) (mset_dom ms es d) (t ∷ []) js)) a q i u
    env j m =
    let n : MultisetDenoted (repr ReprKind.MSetOccurrence no_reprs) ms es d env =
    multiset-denoted (repr ReprKind.MSetOccurrence no_reprs) ms es d env j in
    let f = u.first in
    (f.0, (members-there ms es d env n, members-differ ms es d env n))
multisets-are-listed x y zs (fun1 false Fun.ToSet
    (seen_ex (repr ReprKind.MSetExplicitWithFlags (more_reprs r no_reprs)) (mset_dom ms es d) (t ∷ ns) js)) a q i u env j m =
    let f = u.first in (
      f.0,
      mset-slots-are (repr ReprKind.MSetExplicitWithFlags (more_reprs r no_reprs)) ms es d (t ∷ ns) js env
          (multiset-denoted (repr ReprKind.MSetExplicitWithFlags (more_reprs r no_reprs)) ms es d env j) m.0.1,
    )
multisets-are-listed x y zs (fun1 false Fun.ToSet v) a q i u env j m = absent a q
multisets-are-listed x y zs (seen_ex r d ns js) a q i u env j m = no i
multisets-are-listed x y zs _ a q i u env j m = absent a q
