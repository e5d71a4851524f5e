-- What a view of a set offers: a generator over the range of its members or over its slots, perhaps with a condition, and an item that is a
-- member of its kind behind it.
use Rattle.std.proofs.Common.{◌≡◌, refl, sym, ap, ◌∙◌, subst, ℕ, zero, suc, Bool, true, false, ◌&&◌, ◌||◌, if◌then◌else◌, List, [], ◌∷◌, ◌++◌, length, Option, Some, None}
use Rattle.ess_semantics.specs.declared.words.Key.{Key}
use Rattle.ess_semantics.specs.Values.{Text}
use Rattle.ess_semantics.specs.Names.{Names, look}
use Rattle.ess_semantics.specs.Kinds.{has_key, fits, all_fit}
use Rattle.ess_semantics.specs.Meaning.{is_bool_dom}
use Rattle.ess_semantics.specs.DomainJudgements.{marks_distinct}
use Rattle.ess_semantics.specs.declared.words.Op2.{Op2}
use Rattle.ess_semantics.specs.Trees.{Mark, Repr, no_reprs, more_reprs, Ex, Exs, name_ex, cell_ex, seen_ex, Dom, set_dom, ex2}
use Rattle.ess_semantics.proofs.Tests.{and-left, and-right, and-both}
use Rattle.ess_rules_laws.specs.Listings.{Alternative}
use Rattle.ess_rules_laws.specs.SetListings.{put_last}
use Rattle.ess_kind_rules_laws.specs.ViewListings.{view_listing}
use Rattle.ess_repr_declare_laws.specs.SizeTerms.{dummy_ex}
use Rattle.ess_flat_laws.specs.Flat.{unequal, at_most}
use Rattle.ess_nested_laws.specs.NestedDomains.{are_written_sizes, is_written_atom, is_nested_within}
use Rattle.ess_nested_laws.proofs.NestedForms.{no-yes, atom-form}
use Rattle.ess_seen_laws.specs.Seen.{Kind, kind_of, Bound, over_a_range, over_slots, Keeps, as_an_atom, by_occurrence, with_a_dummy, in_slots, with_a_marker, with_flags, Places, SetTerm, view, drawn, combined, Seen, named, figure, flag, atom, two, Indices, Going, at_end, through, through_slots, where_holds}
use Rattle.ess_seen_laws.specs.Putting.{Within, IsItem}
use Rattle.ess_seen_laws.specs.Laws.{SeenTreesStayAmongMore}
use Rattle.ess_seen_stays_laws.proofs.Terms.{atom-kind, look-here, atom-range, dummy-seen, places-last, indices-last}

-- ---- children of nested domains

either : (b c d : Bool) → (c ≡ true → d ≡ true) → b || c ≡ true → b || d ≡ true
either true c d f h = refl
either false c d f h = f h

-- A domain that is nested so deep is nested deeper at most.
nested-more : (n : ℕ) (d : Dom) → is_nested_within n d ≡ true → is_nested_within (suc n) d ≡ true
nested-more zero d h = absurd (no-yes h)
nested-more (suc n) (set_dom ms es d) h =
    let w : Bool = are_written_sizes ms es in
    let i : Bool = is_written_atom d || is_nested_within n d in
    let j : Bool = is_written_atom d || is_nested_within (suc n) d in
    let k = and-right (marks_distinct ms) (w && i) h in
    and-both (marks_distinct ms) (w && j) (and-left (marks_distinct ms) (w && i) h)
    (and-both w j (and-left w i k)
    (either (is_written_atom d) (is_nested_within n d) (is_nested_within (suc n) d) (nested-more n d) (and-right w i k)))
nested-more (suc n) d h = absurd (no-yes h)

-- The members of a nested domain are atoms, or nested sets.
inner : (n : ℕ) (ms : List Mark) (es : Exs) (d : Dom) → is_nested_within (suc n) (set_dom ms es d) ≡ true →
    is_written_atom d || is_nested_within n d ≡ true
inner n ms es d h =
    let w : Bool = are_written_sizes ms es in
    let i : Bool = is_written_atom d || is_nested_within n d in
    and-right w i (and-right (marks_distinct ms) (w && i) h)

child-fits : (b : Bool) (r : Repr) (d : Dom) →
    elim (if b then Some (d ∷ []) else None) [ None ↦ false | Some ds ↦ all_fit (more_reprs r no_reprs) ds ] ≡ true → fits r d ≡ true
child-fits true r d h = and-left (fits r d) true h
child-fits false r d h = absurd (no-yes h)

-- ---- what is offered

module _ (cells : Text → Option (Bool × List ℕ)) where
  -- The alternative binds the name x alone, and brings an item of the kind behind it.
  pub record Brings (x : Text) (r : Names Bound) (k : Kind) (a : Alternative) : Type 0 where
    pub bound : Bound
    pub going : Going cells r a.gens ((x, bound) ∷ r)
    pub item : IsItem cells ((x, bound) ∷ r) a.item k

  -- The same where anything is offered.
  abbrev pub IsListed : Text → Names Bound → Kind → Option Alternative → Type 0
  IsListed x r k None = Unit {0}
  IsListed x r k (Some a) = Brings x r k a

  -- A view in a slot: of an atom, or of a set again.
  set-item : {t : Names Bound} {p : Repr} {ms : List Mark} {es js : Exs} {d : Dom} {ns : List Text} {ks : List ℕ} →
      is_nested_within 249 (set_dom ms es d) ≡ true → fits p (set_dom ms es d) ≡ true → Keeps cells ks p (set_dom ms es d) ns →
      Places cells t js ks → IsItem cells t (seen_ex p (set_dom ms es d) ns js) (kind_of (set_dom ms es d))
  set-item {ms = ms} {es = es} {d = d} h f k p = view (nested-more 249 (set_dom ms es d) h) f k p

  child-item : {t : Names Bound} {p : Repr} {js : Exs} {d : Dom} {ns : List Text} {ks : List ℕ} →
      is_written_atom d || is_nested_within 249 d ≡ true → fits p d ≡ true → Keeps cells ks p d ns → Places cells t js ks →
      IsItem cells t (seen_ex p d ns js) (kind_of d)
  child-item {t} {p} {js} {d} {ns} n f (as_an_atom h c) q =
      subst (IsItem cells t (seen_ex p d ns js)) (sym (atom-kind (atom-form d h))) (atom (as_an_atom h c) q)
  child-item n f (by_occurrence k w h c) q = set-item n f (by_occurrence k w h c) q
  child-item n f (with_a_dummy w h b e c) q = set-item n f (with_a_dummy w h b e c) q
  child-item n f (in_slots w e k) q = set-item n f (in_slots w e k) q
  child-item n f (with_a_marker w e c k) q = set-item n f (with_a_marker w e c k) q
  child-item n f (with_flags w e c k) q = set-item n f (with_flags w e c k) q

  module _ (more : SeenTreesStayAmongMore) (x : Text) (r : Names Bound) (new : look r x ≡ None) where
    -- The names with x, which is bound so.
    abbrev T : Bound → Names Bound
    T b = (x, b) ∷ r

    wider : (b : Bound) → Within r (T b)
    wider b = more.new_name r x b new

    here : (b : Bound) → look (T b) x ≡ Some b
    here b = look-here r x b

    -- Places behind x, with it as a slot, and with it as an index.
    same : (b : Bound) {js : Exs} {ks : List ℕ} → Places cells r js ks → Places cells (T b) js ks
    same b {js} {ks} p = more.places cells r (T b) js ks (wider b) p

    last-place : (k : ℕ) {js : Exs} {ks : List ℕ} → Places cells r js ks →
        Places cells (T (over_slots k)) (put_last js (name_ex x)) (ks ++ (k ∷ []))
    last-place k p = places-last cells (T (over_slots k)) x k (here (over_slots k)) (same (over_slots k) p)

    last-index : (m : Bool) (k : ℕ) {js : Exs} {ks : List ℕ} → Places cells r js ks →
        Indices cells (T (over_a_range m)) (put_last js (name_ex x)) (length (ks ++ (k ∷ [])))
    last-index m k p = indices-last cells k (name_ex x) (named (here (over_a_range m)) refl) (same (over_a_range m) p)

    -- A cell that is no dummy, a slot up to the marker, and a slot whose flag is set.
    no-dummy : (d : Dom) {n : Text} {js : Exs} {k : ℕ} {ks : List ℕ} → is_written_atom d ≡ true → cells n ≡ Some (false, ks ++ (k ∷ [])) →
        Places cells r js ks → Seen cells (T (over_slots k)) (ex2 true Op2.Ne (cell_ex false n (put_last js (name_ex x))) (dummy_ex d)) true
    no-dummy d {k = k} h c p = two unequal (figure c (last-place k p)) (dummy-seen cells (atom-form d h))

    up-to : (k : ℕ) {m : Text} {js : Exs} {ks : List ℕ} → cells m ≡ Some (false, ks) → Places cells r js ks →
        Seen cells (T (over_slots k)) (ex2 true Op2.Le (name_ex x) (cell_ex false m js)) true
    up-to k c p = two at_most (named (here (over_slots k)) refl) (figure c (same (over_slots k) p))

    where-set : {k : ℕ} {m : Text} {js : Exs} {ks : List ℕ} → cells m ≡ Some (true, ks ++ (k ∷ [])) → Places cells r js ks →
        Seen cells (T (over_slots k)) (cell_ex true m (put_last js (name_ex x))) true
    where-set {k} {m} {js} {ks} c p =
        flag c (more.indices cells (T (over_slots k)) (put_last js (name_ex x)) (ks ++ (k ∷ [])) (last-place k p))

    -- What a view of a set offers.
    pub view-listed : {t : Ex} {k : Kind} → SetTerm cells r t k → (y : Text) (zs : List Text) → IsListed x r k (view_listing x y zs t)
    view-listed (drawn h) y zs = tt
    view-listed (combined o h k) y zs = tt
    view-listed (view n f (as_an_atom h c) p) y zs = absurd (no-yes h)
    view-listed (view {d = d} n f (by_occurrence k w h c) p) y zs =
        let a = atom-form d h in
        let b : Bound = over_a_range (is_bool_dom d) in
        record {
          bound = b;
          going = through (atom-range cells a) (where_holds (flag c (last-index (is_bool_dom d) k p)) at_end);
          item = subst (IsItem cells (T b) (name_ex x)) (sym (atom-kind a)) (named (here b) refl);
        }
    view-listed (view {d = d} n f (with_a_dummy {ks = ks} {k = k} w h b e c) p) y zs =
        let a = atom-form d h in
        let q = c ∙ ap (λ v. Some (v, ks ++ (k ∷ []))) (sym b) in
        record {
          bound = over_slots k;
          going = through_slots e (where_holds (no-dummy d h c p) at_end);
          item = subst (IsItem cells (T (over_slots k)) _) (sym (atom-kind a)) (atom (as_an_atom h q) (last-place k p));
        }
    view-listed (view {ms = ms} {es = es} {d = d} n f (in_slots {k = k} {r = q} w e i) p) y zs = record {
      bound = over_slots k;
      going = through_slots e at_end;
      item = child-item (inner 249 ms es d n) (child-fits (has_key Key.Size ms) q d f) i (last-place k p);
    }
    view-listed (view {ms = ms} {es = es} {d = d} n f (with_a_marker {k = k} {r = q} w e c i) p) y zs = record {
      bound = over_slots k;
      going = through_slots e (where_holds (up-to k c p) at_end);
      item = child-item (inner 249 ms es d n) (child-fits true q d f) i (last-place k p);
    }
    view-listed (view {ms = ms} {es = es} {d = d} n f (with_flags {k = k} {r = q} w e c i) p) y zs = record {
      bound = over_slots k;
      going = through_slots e (where_holds (where-set c p) at_end);
      item = child-item (inner 249 ms es d n) (child-fits true q d f) i (last-place k p);
    }
