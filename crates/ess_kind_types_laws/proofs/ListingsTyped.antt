-- What views of sets offer has items of the type of the members, and marks.
use Rattle.std.proofs.Common.{◌≡◌, refl, sym, ap, ◌∙◌, Bool, true, false, ◌||◌, not, List, [], ◌∷◌, Option, Some, None, option_map}
use Rattle.std.specs.List.{list_all}
use Rattle.std.specs.Prelude.{IsTrue}
use Rattle.ess_semantics.specs.declared.words.Op2.{Op2}
use Rattle.ess_semantics.specs.declared.words.ReprKind.{ReprKind}
use Rattle.ess_semantics.specs.Lists.{and_then}
use Rattle.ess_semantics.specs.Values.{Text, a_matrix}
use Rattle.ess_semantics.specs.Order.{same_text}
use Rattle.ess_semantics.specs.Names.{Names, look}
use Rattle.ess_semantics.specs.Trees.{binary, Mark, Repr, Reprs, repr, no_reprs, more_reprs, Ex, Exs, name_ex, comp_ex, cell_ex, seen_ex, ex2, no_exs, more_exs, Gens, Dom, Doms, bool_dom, int_dom, name_dom, tuple_dom, record_dom, matrix_dom, set_dom, mset_dom, function_dom, relation_dom, partition_dom, no_doms, more_doms}
use Rattle.ess_semantics.specs.Types.{Ty, bool_ty, int_ty, compound2, join, type_of_dom}
use Rattle.ess_semantics.specs.OperatorTypes.{type_of_op, member_ty}
use Rattle.ess_semantics.specs.Typing.{number_cell_ty, type_of, source_ty}
use Rattle.ess_semantics.proofs.Tests.{and-left}
use Rattle.ess_repr_declare_laws.specs.SizeTerms.{dummy_ex}
use Rattle.ess_rules_laws.specs.Listings.{Alternative}
use Rattle.ess_rules_laws.specs.ListedSources.{laid_out}
use Rattle.ess_rules_laws.specs.SetListings.{put_last}
use Rattle.ess_rules_laws.specs.SlotListings.{slots_dom}
use Rattle.ess_rules_laws.proofs.Agreement.{look-itself}
use Rattle.ess_refine_laws.specs.AllRules.{Supply, OfSome}
use Rattle.ess_refine_laws.specs.MarksStay.{HasMarks, HaveMarks, DomHasMarks}
use Rattle.ess_refine_types_laws.specs.MarksOfContainers.{AllUseNames, DomUsesNames, DomsUseNames, IsNewTo}
use Rattle.ess_refine_types_laws.proofs.MarksBehind.{fewer, marks-behind}
use Rattle.ess_refine_types_laws.proofs.TypeNames.{Same, type-same}
use Rattle.ess_refine_types_laws.proofs.TypeParts.{two-to}
use Rattle.ess_rules_types_laws.specs.PutTypes.{TablesAre, AllTablesAre, IsSteady}
use Rattle.ess_rules_types_laws.specs.TypesOfSources.{IsAlike, TablesFit, PutFits}
use Rattle.ess_rules_types_laws.proofs.PutTypes.{look-past}
use Rattle.ess_kind_rules_laws.specs.ViewListings.{view_listing, listing_of}
use Rattle.ess_kind_sizes_laws.specs.ViewsBehind.{taken, put}
use Rattle.ess_kind_sizes_laws.proofs.SetListings.{slots, place, of_occurrences, of_all, of_marked, of_flagged, of_dummies, OfEach, by-kind}
use Rattle.ess_kind_sizes_laws.proofs.ViewsBehind.{listings-of-sets-are-apart}
use Rattle.ess_kind_types_laws.specs.SetsTyped.{AllInts, IntsIn, AllIntsIn, OwnTyped, has_no_table, FoldTyped}
use Rattle.ess_kind_types_laws.proofs.SizesTyped.{mark-at, slots-marked, dummy-int, dummy-marked}

-- ---- ints behind a new name

module _ (u : Text → Bool) (g h : Names Ty) (s : Same u g h) where
  -- Ints stay ints where the names that they use have the same types.
  pub each-same : (es : Exs) → AllUseNames u es → AllInts g es → AllInts h es
  each-same no_exs n i = tt
  each-same (more_exs e es) n i = (sym (type-same u e g h (fewer u e n.0) s) ∙ i.0, each-same es n.1 i.1)

  mutual
    -- Numbers of domains are ints where the names that they use have the same types.
    pub ints-same : (d : Dom) → DomUsesNames u d → IntsIn g d → IntsIn h d
    ints-same bool_dom n i = tt
    ints-same (int_dom rs es) n i = each-same es n i
    ints-same (name_dom a) n i = tt
    ints-same (tuple_dom ds) n i = all-same ds n i
    ints-same (record_dom fs ds) n i = all-same ds n i
    ints-same (matrix_dom is d) n i = (all-same is n.0 i.0, ints-same d n.1 i.1)
    ints-same (set_dom ms es d) n i = (each-same es n.0 i.0, ints-same d n.1 i.1)
    ints-same (mset_dom ms es d) n i = (each-same es n.0 i.0, ints-same d n.1 i.1)
    ints-same (function_dom ms es d c) n i = (each-same es n.0 i.0, ints-same d n.1 i.1, ints-same c n.2 i.2)
    ints-same (relation_dom ms es ds) n i = (each-same es n.0 i.0, all-same ds n.1 i.1)
    ints-same (partition_dom ms es d) n i = (each-same es n.0 i.0, ints-same d n.1 i.1)

    all-same : (ds : Doms) → DomsUseNames u ds → AllIntsIn g ds → AllIntsIn h ds
    all-same no_doms n i = tt
    all-same (more_doms d ds) n i = (ints-same d n.0 i.0, all-same ds n.1 i.1)

not-so : (b : Bool) → IsTrue (not b) → b ≡ false
not-so true h = cc
not-so false h = refl

ints-behind : (g : Names Ty) (x : Text) (v : Ty) (d : Dom) → DomUsesNames (λ a. not (same_text x a)) d → IntsIn g d →
    IntsIn ((x, v) ∷ g) d
ints-behind g x v d n i =
    ints-same (λ a. not (same_text x a)) g ((x, v) ∷ g) (λ a q. sym (look-past x a v g (not-so (same_text x a) q))) d n i

-- ---- one more operand

-- One more operand with marks.
pub last-marked : (js : Exs) (a : Ex) (g : Names Ty) → HaveMarks js g → HasMarks a g → HaveMarks (put_last js a) g
last-marked no_exs a g h k = (k, tt)
last-marked (more_exs e js) a g h k = (h.0, last-marked js a g h.1 k)

-- And with such tables.
pub last-tables : (w : Text → Bool) (js : Exs) (a : Ex) → AllTablesAre w js → TablesAre w a → AllTablesAre w (put_last js a)
last-tables w no_exs a h k = (k, tt)
last-tables w (more_exs e js) a h k = (h.0, last-tables w js a h.1 k)

not-true : (b : Bool) → not b ≡ true → b ≡ false
not-true true h = cc
not-true false h = refl

-- ---- listings

module _ (g : Names Ty) (w : Text → Bool) (x : Text) (ms : List Mark) (es : Exs) (d : Dom) (js : Exs) where
  abbrev View : ReprKind → Reprs → List Text → Ex
  View k rs ns = seen_ex (repr k rs) (set_dom ms es d) ns js

  -- What is asked of the view.
  pub record Source (t : Ex) : Type 0 where
    pub tables : TablesAre w t
    pub new : IsNewTo x t
    pub new_table : has_no_table x t ≡ true
    pub own : OwnTyped g t
    pub ints : IntsIn g (set_dom ms es d)

  -- What is said of its listing.
  pub record Listed (t : Ex) (a : Alternative) : Type 0 where
    pub tables : TablesAre w a.item
    pub alike : IsAlike g t a
    pub marks : HasMarks t g → HasMarks (laid_out a) g

  -- The types behind x over numbers, and over the inner domain.
  abbrev Ints : Names Ty
  Ints = (x, int_ty) ∷ g

  abbrev Members : Names Ty
  Members = (x, type_of_dom d) ∷ g

  table-past : (n : Text) (ns : List Text) → list_all (λ m. not (same_text x m)) (n ∷ ns) ≡ true → look Ints n ≡ look g n
  table-past n ns h =
      look-past x n int_ty g (not-true (same_text x n) (and-left (not (same_text x n)) (list_all (λ m. not (same_text x m)) ns) h))

  -- A cell of ints behind x.
  cell-int : (n : Text) (ns : List Text) → list_all (λ m. not (same_text x m)) (n ∷ ns) ≡ true → number_cell_ty (look g n) ≡ int_ty →
      Some (number_cell_ty (look Ints n)) ≡ Some int_ty
  cell-int n ns h o = ap (λ z. Some (number_cell_ty z)) (table-past n ns h) ∙ ap Some o

  up-to : (m : Text) (ns : List Text) → list_all (λ n. not (same_text x n)) (m ∷ ns) ≡ true → number_cell_ty (look g m) ≡ int_ty →
      type_of (ex2 true Op2.Le (name_ex x) (cell_ex false m js)) Ints ≡ Some bool_ty
  up-to m ns h o =
      two-to (look Ints x) (Some (number_cell_ty (look Ints m))) (type_of_op (binary Op2.Le)) int_ty int_ty bool_ty (look-itself x int_ty g)
      (cell-int m ns h o) refl

  no-dummy : (t : Text) (ns : List Text) → list_all (λ n. not (same_text x n)) (t ∷ ns) ≡ true → number_cell_ty (look g t) ≡ int_ty →
      DomUsesNames (λ a. not (same_text x a)) d → IntsIn g d →
      type_of (ex2 true Op2.Ne (cell_ex false t (place x ms es d js)) (dummy_ex d)) Ints ≡ Some bool_ty
  no-dummy t ns h o u i =
      two-to (Some (number_cell_ty (look Ints t))) (type_of (dummy_ex d) Ints) (type_of_op (binary Op2.Ne)) int_ty int_ty bool_ty
      (cell-int t ns h o) (dummy-int Ints d (ints-behind g x int_ty d u i)) refl

  -- Items under a condition that is a truth value.
  alike-under : (o : Option Ty) → o ≡ Some bool_ty →
      and_then (and_then (and_then o (λ t. and_then (join t bool_ty) (λ u. Some Ints))) (λ h. option_map (compound2 a_matrix int_ty) (Some
      (type_of_dom d)))) member_ty ≡ Some (type_of_dom d)
  alike-under o q =
      ap (λ o. and_then (and_then (and_then o (λ t. and_then (join t bool_ty) (λ u. Some Ints)))
      (λ h. option_map (compound2 a_matrix int_ty) (Some (type_of_dom d)))) member_ty) q

  place-tables : AllTablesAre w js → AllTablesAre w (place x ms es d js)
  place-tables h = last-tables w js (name_ex x) h tt

  -- Marks of the view behind x.
  behind : (t : Ex) (v : Ty) → IsNewTo x t → HasMarks t g → HasMarks t ((x, v) ∷ g)
  behind t v n m = marks-behind x v t g n m

  place-marks : (v : Ty) → HaveMarks js ((x, v) ∷ g) → HaveMarks (place x ms es d js) ((x, v) ∷ g)
  place-marks v h = last-marked js (name_ex x) ((x, v) ∷ g) h tt

  slots-dom-marks : IntsIn g (set_dom ms es d) → DomHasMarks (set_dom ms es d) g → DomHasMarks (slots_dom (slots x ms es d js)) g
  slots-dom-marks i m = (tt, (slots-marked g ms es d i m, tt))

  abbrev Good : ReprKind → Reprs → List Text → Alternative → Type 0
  Good k rs ns a = Source (View k rs ns) → Listed (View k rs ns) a

  good-occurrences : (n : Text) → Good ReprKind.Occurrence no_reprs (n ∷ []) (of_occurrences x ms es d js n)
  good-occurrences n s = record {
    tables = tt;
    alike = ap (λ o. and_then (option_map (compound2 a_matrix int_ty) o) member_ty) (look-itself x (type_of_dom d) g);
    marks = λ m.
        let b = behind (View ReprKind.Occurrence no_reprs (n ∷ [])) (type_of_dom d) s.new m in
        ((m.0.1, (place-marks (type_of_dom d) b.1, tt)), tt);
  }

  good-all : (r : Repr) (ns : List Text) → Good ReprKind.Explicit (more_reprs r no_reprs) ns (of_all x ms es d js r ns)
  good-all r ns s = let q = s.tables in record {
    tables = (q.0.1, place-tables q.1);
    alike = refl;
    marks = λ m.
        let b = behind (View ReprKind.Explicit (more_reprs r no_reprs) ns) int_ty s.new m in
        ((slots-dom-marks s.ints m.0, tt), (b.0.1, place-marks int_ty b.1));
  }

  good-marked : (r : Repr) (n : Text) (ns : List Text) →
      Good ReprKind.ExplicitVarSizeWithMarker (more_reprs r no_reprs) (n ∷ ns) (of_marked x ms es d js r n ns)
  good-marked r n ns s = let q = s.tables in record {
    tables = (q.0.1, place-tables q.1);
    alike = alike-under (type_of (ex2 true Op2.Le (name_ex x) (cell_ex false n js)) Ints) (up-to n ns s.new_table s.own);
    marks = λ m.
        let b = behind (View ReprKind.ExplicitVarSizeWithMarker (more_reprs r no_reprs) (n ∷ ns)) int_ty s.new m in (
          (
            slots-dom-marks s.ints m.0,
            (
              (
                mark-at Ints true (binary Op2.Le) (more_exs (name_ex x) (more_exs (cell_ex false n js) no_exs)) bool_ty
                    (up-to n ns s.new_table s.own) refl,
                (tt, (b.1, tt)),
              ),
              tt,
            ),
          ),
          (b.0.1, place-marks int_ty b.1),
        );
  }

  good-flagged : (r : Repr) (n : Text) (ns : List Text) →
      Good ReprKind.ExplicitVarSizeWithFlags (more_reprs r no_reprs) (n ∷ ns) (of_flagged x ms es d js r n ns)
  good-flagged r n ns s = let q = s.tables in record {
    tables = (q.0.1, place-tables q.1);
    alike = refl;
    marks = λ m.
        let b = behind (View ReprKind.ExplicitVarSizeWithFlags (more_reprs r no_reprs) (n ∷ ns)) int_ty s.new m in
        ((slots-dom-marks s.ints m.0, (place-marks int_ty b.1, tt)), (b.0.1, place-marks int_ty b.1));
  }

  good-dummies : (t : Text) → Good ReprKind.ExplicitVarSizeWithDummy no_reprs (t ∷ []) (of_dummies x ms es d js t)
  good-dummies t s = let q = s.tables in let u = s.new in let i = s.ints in record {
    tables = (q.0.1, place-tables q.1);
    alike = alike-under (type_of (ex2 true Op2.Ne (cell_ex false t (place x ms es d js)) (dummy_ex d)) Ints)
        (no-dummy t [] s.new_table s.own u.0.1 i.1);
    marks = λ m.
        let b = behind (View ReprKind.ExplicitVarSizeWithDummy no_reprs (t ∷ [])) int_ty u m in (
          (
            slots-dom-marks i m.0,
            (
              (
                mark-at Ints true (binary Op2.Ne) (more_exs (cell_ex false t (place x ms es d js)) (more_exs (dummy_ex d) no_exs)) bool_ty
                    (no-dummy t [] s.new_table s.own u.0.1 i.1) refl,
                (place-marks int_ty b.1, (dummy-marked Ints d (ints-behind g x int_ty d u.0.1 i.1) b.0.1, tt)),
              ),
              tt,
            ),
          ),
          (b.0.1, place-marks int_ty b.1),
        );
  }

  goods : OfEach x ms es d js Good
  goods = record {
    occurrences = good-occurrences;
    all = good-all;
    marked = good-marked;
    flagged = good-flagged;
    dummies = good-dummies;
  }

-- ---- as folds ask

with-answer : {A : Type 0} (o : Option A) (P Q : A → Type 0) → OfSome o P → ((a : A) → o ≡ Some a → P a → Q a) → OfSome o Q
with-answer None P Q h f = tt
with-answer (Some a) P Q h f = f a refl h

module _ (s : Supply) (g : Names Ty) (y : Text) (e : Ex) (hs : Gens) (k : ReprKind) (rs : Reprs) (ms : List Mark) (es : Exs) (d : Dom)
    (ns : List Text) (js : Exs) where
  -- The view of a set.
  abbrev Seen : Ex
  Seen = seen_ex (repr k rs) (set_dom ms es d) ns js

  listed-goods : (f : FoldTyped s g y Seen e hs) →
      OfSome (view_listing s.one s.other s.parts Seen) (Listed g f.tables s.one ms es d js Seen)
  listed-goods f =
      with-answer (listing_of k s.one s.other s.parts Seen) (Good g f.tables s.one ms es d js k rs ns)
      (Listed g f.tables s.one ms es d js Seen)
      (by-kind s.one ms es d js (Good g f.tables s.one ms es d js) (goods g f.tables s.one ms es d js) s.other s.parts k rs ns)
      (λ a q h. h (record { tables = f.source; new = f.new; new_table = f.new_table; own = f.own; ints = f.ints }))

  tables-fit : (f : FoldTyped s g y Seen e hs) → TablesFit f.tables (taken f.bound s.one) (put f.scope s.one y) y
  tables-fit f n h = let a = f.apart n h in (
    ap (λ z. z || same_text s.one n) a.1 ∙ a.2,
    ap (λ z. (z || same_text y n) || same_text s.one n) a.0,
    a.3,
  )

  -- What is offered may be put for the name.
  pub listed-fits : FoldTyped s g y Seen e hs → IsSteady (comp_ex e hs) ((y, source_ty Seen g) ∷ g) →
      OfSome (view_listing s.one s.other s.parts Seen) (PutFits g y Seen e hs)
  listed-fits f c =
      with-answer (view_listing s.one s.other s.parts Seen) (Listed g f.tables s.one ms es d js Seen) (PutFits g y Seen e hs)
      (listed-goods f) (λ a q h. (
        taken f.bound s.one,
        put f.scope s.one y,
        f.tables,
        listings-of-sets-are-apart f.used f.scope f.bound s.one y s.other s.parts Seen e hs a q refl f.names,
        tables-fit f,
        f.behind,
        h.tables,
        c,
        h.alike,
      ))

  -- And has marks.
  pub listed-marked : FoldTyped s g y Seen e hs → HasMarks Seen g →
      OfSome (view_listing s.one s.other s.parts Seen) (λ a. HasMarks (laid_out a) g)
  listed-marked f m =
      with-answer (view_listing s.one s.other s.parts Seen) (Listed g f.tables s.one ms es d js Seen) (λ a. HasMarks (laid_out a) g)
      (listed-goods f) (λ a q h. h.marks m)
