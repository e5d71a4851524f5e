-- Rules that read views keep trees over views of nested sets.
use Rattle.std.proofs.Common.{◌≡◌, refl, ℕ, Bool, true, false, List, [], ◌∷◌, Option, Some, None}
use Rattle.std.specs.Prelude.{IsTrue, is_some}
use Rattle.std.specs.List.{list_all}
use Rattle.ess_semantics.specs.declared.words.Op1.{Op1}
use Rattle.ess_semantics.specs.declared.words.Fun.{Fun}
use Rattle.ess_semantics.specs.declared.words.ReprKind.{ReprKind}
use Rattle.ess_semantics.specs.Lists.{and_then}
use Rattle.ess_semantics.specs.Values.{Text}
use Rattle.ess_semantics.specs.Order.{same_text}
use Rattle.ess_semantics.specs.Names.{Names}
use Rattle.ess_semantics.specs.Trees.{name_pat, Mark, Repr, Reprs, repr, no_reprs, more_reprs, Ex, Exs, comp_ex, seen_ex, ex1, fun1, no_exs, more_exs, Gens, from, Dom, name_dom, set_dom}
use Rattle.ess_semantics.specs.Typed.{Typed}
use Rattle.ess_semantics.specs.Meaning.{Env, meaning}
use Rattle.ess_semantics.specs.Meets.{Meets}
use Rattle.ess_nested_laws.proofs.NestedForms.{nested-form}
use Rattle.ess_nested_laws.proofs.NestedDenoted.{written_domain}
use Rattle.ess_seen_laws.specs.ess_bare_laws.Lean.{of_all, of_some, of_sum}
use Rattle.ess_rules_laws.specs.Rules.{Unused}
use Rattle.ess_rules_laws.specs.SourceRules.{is_marked}
use Rattle.ess_rules_laws.specs.Listings.{Alternative}
use Rattle.ess_rules_laws.specs.ListedSources.{source_alone, source_parts}
use Rattle.ess_rules_laws.specs.AtomViews.{AtomCounts}
use Rattle.ess_rules_laws.specs.SetSizes.{SizeOf}
use Rattle.ess_refine_laws.specs.AllRules.{Supply}
use Rattle.ess_values_along_laws.specs.Valued.{Valued}
use Rattle.ess_values_terms_laws.proofs.ValuedForms.{there, all-there}
use Rattle.ess_values_sources_laws.proofs.ListedValues.{listed-sources-keep-values}
use Rattle.ess_values_sources_laws.proofs.PutValues.{inner}
use Rattle.ess_kind_values_laws.proofs.ess_values_views_laws.SetViewsKeepValues.{set-views-keep-values}
use Rattle.ess_kind_rules_laws.specs.ViewListings.{view_listing, slots_of_operand}
use Rattle.ess_kind_rules_laws.specs.KindRules.{cell_of_an_atom, over_a_view, of_one_view, size_at_the_marker, size_of_slots, kind_rewrite}
use Rattle.ess_kinds_kept_laws.specs.KindAsks.{ViewApart, SourceAsks}
use Rattle.ess_kinds_kept_laws.proofs.KindRulesKeep.{kind-rules-keep}
use Rattle.ess_kind_values_laws.proofs.ess_kind_steps_laws.JudgedSets.{slots-are}
use Rattle.ess_kind_values_laws.proofs.SizesValued.{slots-valued}
use Rattle.ess_seen_laws.specs.Seen.{Kind, Bound, from_a_set, bound_types, SetTerm, view, Seen, one, chosen, folded, counted, size, Going, among}
use Rattle.ess_seen_values_laws.specs.Laws.{IsMet, StaysAlike}
use Rattle.ess_seen_values_laws.proofs.Names.{put}
use Rattle.ess_seen_values_laws.proofs.SetViews.{judged, inner-denoted}
use Rattle.ess_seen_values_laws.proofs.SetSources.{set-asked, set-listed, set-under}
use Rattle.ess_seen_values_laws.proofs.ListsApart.{ListApart}
use Rattle.ess_seen_values_laws.proofs.SourceOffers.{source-apart}
use Rattle.ess_seen_values_laws.proofs.SourceRules.{of-some}

-- ---- words of comprehensions

module _ (cells : Text → Option (Bool × List ℕ)) where
  -- A fold of a comprehension over views: its generators, and its item.
  pub record ListRoot (r : Names Bound) (m : Bool) (f : Fun) (e : Ex) (gs : Gens) : Type 0 where
    pub behind : Names Bound
    pub mark : Bool
    pub going : Going cells r gs behind
    pub seen : Seen cells behind e mark
    pub marked : is_marked m f ≡ true

  -- So is each word of one.
  pub list-root : {r : Names Bound} {m k : Bool} {f : Fun} {e : Ex} {gs : Gens} → Seen cells r (fun1 m f (comp_ex e gs)) k →
      ListRoot r m f e gs
  list-root (folded of_all g h) = record { behind = _; mark = true; going = g; seen = h; marked = refl }
  list-root (folded of_some g h) = record { behind = _; mark = true; going = g; seen = h; marked = refl }
  list-root (folded of_sum g h) = record { behind = _; mark = false; going = g; seen = h; marked = refl }
  list-root (chosen g) = elim g [ ]
  list-root (counted c) = elim c [ ]

  -- ---- sources

  module _ (s : Supply) {r b : Names Bound} (m : Bool) (w : Fun) (y : Text) (t e : Ex) (hs : Gens) {k : Kind} {n : Bool}
      (set : SetTerm cells r t k) (going : Going cells ((y, from_a_set k) ∷ r) hs b) (seen : Seen cells b e n)
      (l : ListApart s.one r e (from (name_pat y) t hs)) (env : Env) (z : Bool)
      (met : Meets (fun1 m w (comp_ex e (from (name_pat y) t hs))) env)
      (v : Valued z (fun1 m w (comp_ex e (from (name_pat y) t hs))) env) where
    abbrev Root : Ex
    Root = fun1 m w (comp_ex e (from (name_pat y) t hs))

    used : Unused s.one t
    used = let ug = l.gens_used in ug.1

    listed : Valued false (comp_ex e (from (name_pat y) t hs)) env
    listed = inner y e hs env m z w (comp_ex e (from (name_pat y) t hs)) v

    source : Valued false t env
    source = let c = listed in c.1.0

    met-source : Meets t env
    met-source = let i = met in i.0.0

    pub source-asked : SourceAsks s Root env
    source-asked = of-some (view_listing s.one s.other s.parts t) (λ a. ViewApart s a t Root env) (λ a q. (
      same_text s.one,
      put l.scope.all s.one y,
      (source-apart cells s.one s.other y s.parts hs set going seen l a q, tt),
      there t env source,
      set-asked cells s.one s.other s.parts env set used met-source,
    ))

    pub operands : IsTrue (list_all is_some (meaning (comp_ex e (from (name_pat y) t hs)) env ∷ []))
    operands = all-there (more_exs (comp_ex e (from (name_pat y) t hs)) no_exs) env (listed, tt)

    parts-valued : (f : Ex) (o : Option Alternative) → view_listing s.one s.other s.parts t ≡ o →
        and_then o (λ a. source_parts (a ∷ []) Root) ≡ Some f → Valued z f env
    parts-valued f None p q = cc
    parts-valued f (Some a) p q = listed-sources-keep-values.in_parts (same_text s.one) (put l.scope.all s.one y) (a ∷ []) Root f q
        (source-apart cells s.one s.other y s.parts hs set going seen l a p, tt) env
        (there t env source, set-listed cells s.one s.other s.parts env set used met-source a p)
        (set-under cells s.one s.other s.parts env set used met-source source a p, tt) z v

    alone-valued : (f : Ex) → meaning Root env ≡ meaning f env → (o : Option Alternative) → view_listing s.one s.other s.parts t ≡ o →
        and_then o (λ a. source_alone a Root) ≡ Some f → Valued z f env
    alone-valued f i None p q = cc
    alone-valued f i (Some a) p q = listed-sources-keep-values.alone (same_text s.one) (put l.scope.all s.one y) a Root f q
        (source-apart cells s.one s.other y s.parts hs set going seen l a p, tt) env
        (there t env source, set-listed cells s.one s.other s.parts env set used met-source a p)
        (set-under cells s.one s.other s.parts env set used met-source source a p) i z v

    -- A fold over a view, by parts and alone.
    pub by-parts : (f : Ex) → kind_rewrite s (bound_types r) over_a_view Root ≡ Some f → Typed (bound_types r) env →
        StaysAlike z Root f env
    by-parts f q ty =
        let k = kind-rules-keep.each s (bound_types r) over_a_view Root f q env ty (source-asked, operands) met in
        record { means = k.0; met = k.1; valued = parts-valued f (view_listing s.one s.other s.parts t) refl q }

    pub by-itself : (f : Ex) → kind_rewrite s (bound_types r) of_one_view Root ≡ Some f → Typed (bound_types r) env →
        StaysAlike z Root f env
    by-itself f q ty =
        let k = kind-rules-keep.each s (bound_types r) of_one_view Root f q env ty source-asked met in
        record { means = k.0; met = k.1; valued = alone-valued f k.0 (view_listing s.one s.other s.parts t) refl q }

  -- The first generator of such a fold is one over a set.
  pub first-set : {r b : Names Bound} {y : Text} {t : Ex} {hs : Gens} → Going cells r (from (name_pat y) t hs) b →
      (k : Kind) × SetTerm cells r t k × Going cells ((y, from_a_set k) ∷ r) hs b
  first-set (among {k = k} t g) = (k, t, g)

  pub fold-by-parts : (s : Supply) {r : Names Bound} (e f : Ex) {k : Bool} → Seen cells r e k →
      ((m : Bool) (w : Fun) (x : Ex) (gs : Gens) → e ≡ fun1 m w (comp_ex x gs) → ListApart s.one r x gs) → (env : Env) →
      IsMet cells r e env →
      (z : Bool) → Valued z e env → kind_rewrite s (bound_types r) over_a_view e ≡ Some f → StaysAlike z e f env
  fold-by-parts s (fun1 m w (comp_ex e (from (name_pat y) t hs))) f h l env i z v q =
      let o = list-root h in
      let p = first-set o.going in
      by-parts s m w y t e hs p.1 p.2 o.seen (l m w e (from (name_pat y) t hs) refl) env z i.met v f q i.holds.typed
  fold-by-parts s _ f h l env i z v q = cc

  pub fold-by-itself : (s : Supply) {r : Names Bound} (e f : Ex) {k : Bool} → Seen cells r e k →
      ((m : Bool) (w : Fun) (x : Ex) (gs : Gens) → e ≡ fun1 m w (comp_ex x gs) → ListApart s.one r x gs) → (env : Env) →
      IsMet cells r e env →
      (z : Bool) → Valued z e env → kind_rewrite s (bound_types r) of_one_view e ≡ Some f → StaysAlike z e f env
  fold-by-itself s (fun1 m w (comp_ex e (from (name_pat y) t hs))) f h l env i z v q =
      let o = list-root h in
      let p = first-set o.going in
      by-itself s m w y t e hs p.1 p.2 o.seen (l m w e (from (name_pat y) t hs) refl) env z i.met v f q i.holds.typed
  fold-by-itself s _ f h l env i z v q = cc

  -- ---- atoms and sizes

  positions-count : (e : Ex) (env : Env) → IsTrue env.positions → AtomCounts e env
  positions-count (seen_ex r (name_dom a) ns js) env p = p
  positions-count _ env p = tt

  pub atoms-by-cells : (s : Supply) (r : Names Bound) (e f : Ex) → kind_rewrite s (bound_types r) cell_of_an_atom e ≡ Some f →
      (env : Env) → IsMet cells r e env → (z : Bool) → Valued z e env → StaysAlike z e f env
  atoms-by-cells s r e f q env i z v =
      let k = kind-rules-keep.each s (bound_types r) cell_of_an_atom e f q env i.holds.typed (positions-count e env i.positions) i.met in
      record { means = k.0; met = k.1; valued = set-views-keep-values.atoms_by_cells e f q env k.0 z v }

  pub sizes-by-markers : (s : Supply) (r : Names Bound) (e f : Ex) → kind_rewrite s (bound_types r) size_at_the_marker e ≡ Some f →
      (env : Env) → IsMet cells r e env → (z : Bool) → Valued z e env → StaysAlike z e f env
  sizes-by-markers s r e f q env i z v =
      let k = kind-rules-keep.each s (bound_types r) size_at_the_marker e f q env i.holds.typed tt i.met in
      record { means = k.0; met = k.1; valued = set-views-keep-values.sizes_by_markers e f q env k.0 z v }

  -- A view of a set is no scalar.
  no-scalar : {r : Names Bound} {k : Bool} {p : Reprs} {d : Dom} {ns : List Text} {js : Exs} →
      Seen cells r (seen_ex (repr ReprKind.Explicit p) d ns js) k → ⊥
  no-scalar (counted c) = elim c [ ]

  sized-set : {r : Names Bound} {k : Bool} {p : Reprs} {d : Dom} {ns : List Text} {js : Exs} →
      Seen cells r (ex1 false Op1.Bar (seen_ex (repr ReprKind.Explicit p) d ns js)) k →
      (j : Kind) × SetTerm cells r (seen_ex (repr ReprKind.Explicit p) d ns js) j
  sized-set (size {k = j} t) = (j, t)
  sized-set (one w g) = absurd (no-scalar g)
  sized-set (counted c) = elim c [ ]

  module _ (env : Env) (p : Repr) (ms : List Mark) (es : Exs) (d : Dom) (ns : List Text) (js : Exs) where
    slots-asked : {r : Names Bound} {k : Kind} → SetTerm cells r (seen_ex p (set_dom ms es d) ns js) k →
        Meets (seen_ex p (set_dom ms es d) ns js) env → SizeOf (slots_of_operand (ex1 false Op1.Bar (seen_ex p (set_dom ms es d) ns js)))
        (ex1 false Op1.Bar (seen_ex p (set_dom ms es d) ns js)) env
    slots-asked (view n f q w) m = slots-are p ms es d ns js env (judged p ms es d n f env) m.1

    slots-there : {r : Names Bound} {k : Kind} → SetTerm cells r (seen_ex p (set_dom ms es d) ns js) k →
        Valued false (seen_ex p (set_dom ms es d) ns js) env →
        Valued false (slots_of_operand (ex1 false Op1.Bar (seen_ex p (set_dom ms es d) ns js))) env
    slots-there (view n f q w) v =
        let i = inner-denoted env (nested-form 250 (set_dom ms es d) n) in slots-valued env ms es d (written_domain d) i.0 i.1 v.1

  pub sizes-of-slots : (s : Supply) {r : Names Bound} (e f : Ex) {k : Bool} → Seen cells r e k → (env : Env) → IsMet cells r e env →
      (z : Bool) → Valued z e env → kind_rewrite s (bound_types r) size_of_slots e ≡ Some f → StaysAlike z e f env
  sizes-of-slots s {r = r} (ex1 false Op1.Bar (seen_ex (repr ReprKind.Explicit (more_reprs c no_reprs)) (set_dom ms es d) ns js)) f h env i
      z v q =
      let t = sized-set h in
      let p = repr ReprKind.Explicit (more_reprs c no_reprs) in
      let e = ex1 false Op1.Bar (seen_ex p (set_dom ms es d) ns js) in
      let m = i.met in
      let k = kind-rules-keep.each s (bound_types r) size_of_slots e f q env i.holds.typed (slots-asked env p ms es d ns js t.1 m.0) m in
      record {
        means = k.0;
        met = k.1;
        valued = set-views-keep-values.sizes_by_slots (slots_of_operand e) e f q env (slots-there env p ms es d ns js t.1 v.1.0) z;
      }
  sizes-of-slots s _ f h env i z v q = cc
