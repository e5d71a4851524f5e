-- What a view of a set offers has values where the view has.
use Rattle.std.proofs.Common.{◌≡◌, refl, sym, ap, ◌∙◌, subst, Bool, true, false, ◌&&◌, ◌||◌, List, [], ◌∷◌, Option, Some, None, option_map}
use Rattle.std.specs.Prelude.{IsTrue, is_some}
use Rattle.ess_semantics.specs.declared.words.Op1.{Op1}
use Rattle.ess_semantics.specs.declared.words.Op2.{Op2}
use Rattle.ess_semantics.specs.declared.words.ReprKind.{ReprKind}
use Rattle.ess_semantics.specs.Lists.{and_then}
use Rattle.ess_semantics.specs.Values.{Text, Value, number, truth, item, node, items_of}
use Rattle.ess_semantics.specs.Trees.{tuple_literal, repr, no_reprs, more_reprs, Repr, name_pat, Ex, Exs, name_ex, node_ex, cell_ex, seen_ex, ex1, ex2, no_exs, more_exs, Gens, no_gens, over, from, cond, Dom, set_dom, relation_dom}
use Rattle.ess_semantics.specs.Operators.{as_truth}
use Rattle.ess_semantics.specs.Meaning.{Env, with_pat, meaning, items_under, collect, where_true, domain_of, members_in, is_bool_dom}
use Rattle.ess_semantics.specs.Contexts.{EachOf, EachIn, AtEach}
use Rattle.ess_semantics.specs.Substitution.{NamesAreExs, NamesAreDom}
use Rattle.ess_guard_laws.specs.Supplied.{Unless}
use Rattle.ess_rules_laws.specs.Rules.{Unused}
use Rattle.ess_rules_laws.specs.Listings.{Alternative, items_listed, all_listed, SameLists}
use Rattle.ess_rules_laws.specs.ListedSources.{Offers}
use Rattle.ess_rules_laws.specs.SetListings.{put_last, occurrence_listing}
use Rattle.ess_rules_laws.specs.SlotListings.{slots_dom, explicit_listing, marker_listing, flags_listing, OffersWhereMet}
use Rattle.ess_rules_laws.specs.DummyListings.{dummy_listing}
use Rattle.ess_rules_laws.specs.FunctionViews.{append_exs, flag_at}
use Rattle.ess_rules_laws.specs.OccurrenceViews.{cell_of_member, member_by_cell}
use Rattle.ess_rules_laws.specs.AtomViews.{atom_cell}
use Rattle.ess_rules_laws.specs.SetSizes.{size_by_marker, size_by_slots}
use Rattle.ess_rules_laws.proofs.Simulation.{any, but}
use Rattle.ess_rules_laws.proofs.Agreement.{agree-but}
use Rattle.ess_rules_laws.proofs.Bindings.{each-map, each-of-map}
use Rattle.ess_rules_laws.proofs.RuleAnswers.{behind, each-any}
use Rattle.ess_rules_laws.proofs.SourceRules.{both-lists}
use Rattle.ess_values_along_laws.specs.Valued.{Valued, AllValued, DomValued}
use Rattle.ess_values_along_laws.proofs.ValuesAlong.{values-along}
use Rattle.ess_rules_values_laws.proofs.ValuedAgreement.{valued-behind}
use Rattle.ess_values_terms_laws.proofs.ValuedForms.{there}
use Rattle.ess_values_terms_laws.proofs.ValuedLists.{name-valued}
use Rattle.ess_values_sources_laws.specs.ListedValues.{Under}
use Rattle.ess_values_sources_laws.proofs.ValuedSimulation.{dom-valued-agree}
use Rattle.ess_values_sources_laws.proofs.CollectedLists.{there-is, listed-there, each-some}
use Rattle.ess_values_views_laws.specs.SetViewsKeepValues.{OfferedUnder, SetViewsKeepValues}

-- ---- items that are there

-- Where the condition is true the list behind it is there.
behind-there : (o : Option Value) (p : Option (List Value)) → as_truth o ≡ true → IsTrue (is_some (where_true o (λ u. p))) →
    IsTrue (is_some p)
behind-there (Some (truth true)) p t h = h
behind-there (Some (truth false)) p t h = cc
behind-there (Some (number n)) p t h = cc
behind-there (Some (item a n)) p t h = cc
behind-there (Some (node k vs)) p t h = cc
behind-there None p t h = cc

one-some : (o : Option Value) → IsTrue (is_some (option_map (λ v. v ∷ []) o)) → IsTrue (is_some o)
one-some None t = t
one-some (Some v) t = refl

of-some : (o : Option (List Value)) (F : Value → Option (List Value)) (P : Value → Type 0) → ((v : Value) → IsTrue (is_some (F v)) → P v) →
    IsTrue (is_some (and_then o (λ vs. collect vs F))) → EachOf o P
of-some None F P k t = tt
of-some (Some vs) F P k t = each-map vs (λ v. IsTrue (is_some (F v))) P k (each-some vs F t)

in-some : (o : Option Value) (F : Value → Option (List Value)) (P : Value → Type 0) → ((v : Value) → IsTrue (is_some (F v)) → P v) →
    IsTrue (is_some (and_then o (λ u. collect (items_of u) F))) → EachIn o P
in-some None F P k t = tt
in-some (Some u) F P k t = each-map (items_of u) (λ v. IsTrue (is_some (F v))) P k (each-some (items_of u) F t)

-- Where the items at all bindings are there, the item is there at each.
at-some : (gs : Gens) (x : Ex) (env : Env) → IsTrue (is_some (items_under gs env (λ here. option_map (λ v. v ∷ []) (meaning x here)))) →
    AtEach gs env (λ here. IsTrue (is_some (meaning x here)))
at-some no_gens x env t = one-some (meaning x env) t
at-some (over p d gs) x env t = of-some (members_in (domain_of d env))
    (λ v. items_under gs (with_pat p v env) (λ here. option_map (λ v. v ∷ []) (meaning x here)))
    (λ v. AtEach gs (with_pat p v env) (λ here. IsTrue (is_some (meaning x here)))) (λ v. at-some gs x (with_pat p v env)) t
at-some (from p e gs) x env t = in-some (meaning e env)
    (λ v. items_under gs (with_pat p v env) (λ here. option_map (λ v. v ∷ []) (meaning x here)))
    (λ v. AtEach gs (with_pat p v env) (λ here. IsTrue (is_some (meaning x here)))) (λ v. at-some gs x (with_pat p v env)) t
at-some (cond c gs) x env t = λ q. at-some gs x env (behind-there (meaning c env)
    (items_under gs env (λ here. option_map (λ v. v ∷ []) (meaning x here))) q t)

-- The items of what is offered are there, where the term is.
offered-some : (e : Ex) (a : Alternative) (env : Env) → IsTrue (is_some (meaning e env)) → Offers e (a ∷ []) env →
    IsTrue (is_some (items_listed a env))
offered-some e a env h o =
    let v = there-is (meaning e env) h in
    let ws = listed-there (all_listed (a ∷ []) env) (items_of v.0)
    (subst (λ z. SameLists (option_map items_of z) (all_listed (a ∷ []) env)) v.1 o.lists) in
    some (items_listed a env) (both-lists (items_listed a env) (Some []) ws.0 ws.1).0
    (both-lists (items_listed a env) (Some []) ws.0 ws.1).2
  where
    some : (p : Option (List Value)) (xs : List Value) → p ≡ Some xs → IsTrue (is_some p)
    some None xs q = cc
    some (Some ys) xs q = refl

-- ---- parts behind a new name

module _ (x : Text) (v : Value) (env : Env) where
  all-behind : (js : Exs) → NamesAreExs (but x) any js → AllValued false false js env → AllValued false false js (behind x v env)
  all-behind no_exs n h = tt
  all-behind (more_exs e es) n h = (valued-behind x v e env false n.0 h.0, all-behind es n.1 h.1)

  -- With the name last.
  last-behind : (js : Exs) → NamesAreExs (but x) any js → AllValued false false js env →
      AllValued false false (put_last js (name_ex x)) (behind x v env)
  last-behind no_exs n h = (name-valued x v env false, tt)
  last-behind (more_exs e es) n h = (valued-behind x v e env false n.0 h.0, last-behind es n.1 h.1)

  dom-behind : (d : Dom) → NamesAreDom (but x) any d → DomValued d env → DomValued d (behind x v env)
  dom-behind d n h =
      dom-valued-agree env.positions env.types env.cells (but x) d env.vals ((x, v) ∷ env.vals) n (agree-but x v env.vals) h

-- Indices behind indices.
put-flag : (js ks : Exs) (n : Text) (w : Bool) (env : Env) → AllValued false false js env → AllValued false false ks env →
    Valued w (flag_at n js ks) env
put-flag js ks n w env h k = (tt, both js h)
  where
    both : (js : Exs) → AllValued false false js env → AllValued false false (append_exs js ks) env
    both no_exs h = k
    both (more_exs e es) h = (h.0, both es h.1)

-- ---- listings

module _ (env : Env) where
  occurrences : (x : Text) (e : Ex) → Unused x e → Valued false e env → OfferedUnder (occurrence_listing x e) env
  occurrences x (seen_ex (repr ReprKind.Occurrence no_reprs) (set_dom ms es d) (n ∷ []) js) u h = (
    h.1.1,
    of-any (members_in (domain_of d env)) _
        (λ v. ((tt, last-behind x v env js u.1 h.2), λ t. name-valued x v env false)),
  )
    where
      of-any : (o : Option (List Value)) (P : Value → Type 0) → ((v : Value) → P v) → EachOf o P
      of-any None P f = tt
      of-any (Some vs) P f = each-any vs P f
  occurrences x _ u h = tt

  -- The numbers of the slots.
  slots-valued : (n : Ex) → Valued false n env → DomValued (slots_dom n) env
  slots-valued n h = (tt, (h, tt))

  -- The view in a slot has values, where it has one.
  slot-valued : (x : Text) (v : Value) (r : Repr) (d : Dom) (ns : List Text) (js : Exs) → NamesAreDom (but x) any d →
      NamesAreExs (but x) any js → DomValued d env → AllValued false false js env →
      IsTrue (is_some (meaning (seen_ex r d ns (put_last js (name_ex x))) (behind x v env))) →
      Valued false (seen_ex r d ns (put_last js (name_ex x))) (behind x v env)
  slot-valued x v r d ns js a b h k s = (s, dom-behind x v env d a h, last-behind x v env js b k)

  explicit : (x : Text) (n e : Ex) → Unused x e → Valued false n env → Valued false e env → OffersWhereMet (explicit_listing x n e) e env →
      OfferedUnder (explicit_listing x n e) env
  explicit x n (seen_ex (repr ReprKind.Explicit (more_reprs r no_reprs)) (set_dom ms es d) ns js) u k h o = (
    slots-valued n k,
    each-of-map (members_in (domain_of (slots_dom n) env)) _ _ (λ v s. slot-valued x v r d ns js u.0.1 u.1 h.1.1 h.2 s)
        (at-some (over (name_pat x) (slots_dom n) no_gens) (seen_ex r d ns (put_last js (name_ex x))) env
        (offered-some (seen_ex (repr ReprKind.Explicit (more_reprs r no_reprs)) (set_dom ms es d) ns js)
        (record { gens = over (name_pat x) (slots_dom n) no_gens; item = seen_ex r d ns (put_last js (name_ex x)) }) env h.0 o)),
  )
  explicit x n _ u k h o = tt

  -- Over the slots at which a condition holds.
  where-held : (x : Text) (n c e : Ex) (r : Repr) (d : Dom) (ns : List Text) (js : Exs) → NamesAreDom (but x) any d →
      NamesAreExs (but x) any js → DomValued d env → AllValued false false js env → Valued false n env → Valued false e env →
      ((v : Value) → Valued false c (behind x v env)) →
      Offers e (record {
        gens = over (name_pat x) (slots_dom n) (cond c no_gens);
        item = seen_ex r d ns (put_last js (name_ex x));
      } ∷ []) env →
      Under (record {
        gens = over (name_pat x) (slots_dom n) (cond c no_gens);
        item = seen_ex r d ns (put_last js (name_ex x));
      }) env
  where-held x n c e r d ns js a b h k l m f o = (
    slots-valued n l,
    each-of-map (members_in (domain_of (slots_dom n) env)) _ _ (λ v s. (f v, λ t. slot-valued x v r d ns js a b h k (s t)))
        (at-some (over (name_pat x) (slots_dom n) (cond c no_gens)) (seen_ex r d ns (put_last js (name_ex x))) env
        (offered-some e (record {
          gens = over (name_pat x) (slots_dom n) (cond c no_gens);
          item = seen_ex r d ns (put_last js (name_ex x));
        }) env (there e env m) o)),
  )

  marker : (x : Text) (n e : Ex) → Unused x e → Valued false n env → Valued false e env → OffersWhereMet (marker_listing x n e) e env →
      OfferedUnder (marker_listing x n e) env
  marker x n (seen_ex (repr ReprKind.ExplicitVarSizeWithMarker (more_reprs r no_reprs)) (set_dom ms es d) (m ∷ ns) js) u k h o =
      where-held x n (ex2 true Op2.Le (name_ex x) (cell_ex false m js))
      (seen_ex (repr ReprKind.ExplicitVarSizeWithMarker (more_reprs r no_reprs)) (set_dom ms es d) (m ∷ ns) js)
      r d ns js u.0.1 u.1 h.1.1 h.2 k h
      (λ v. (tt, (name-valued x v env true, ((tt, all-behind x v env js u.1 h.2), tt)))) o
  marker x n _ u k h o = tt

  flags : (x : Text) (n e : Ex) → Unused x e → Valued false n env → Valued false e env → OffersWhereMet (flags_listing x n e) e env →
      OfferedUnder (flags_listing x n e) env
  flags x n (seen_ex (repr ReprKind.ExplicitVarSizeWithFlags (more_reprs r no_reprs)) (set_dom ms es d) (m ∷ ns) js) u k h o =
      where-held x n (cell_ex true m (put_last js (name_ex x)))
      (seen_ex (repr ReprKind.ExplicitVarSizeWithFlags (more_reprs r no_reprs)) (set_dom ms es d) (m ∷ ns) js)
      r d ns js u.0.1 u.1 h.1.1 h.2 k h
      (λ v. (tt, last-behind x v env js u.1 h.2)) o
  flags x n _ u k h o = tt

  dummy : (x : Text) (n m e : Ex) → Unused x e → Unused x m → Valued false n env → Valued false m env → Valued false e env →
      OffersWhereMet (dummy_listing x n m e) e env → OfferedUnder (dummy_listing x n m e) env
  dummy x n m (seen_ex (repr ReprKind.ExplicitVarSizeWithDummy no_reprs) (set_dom ms es d) (t ∷ []) js) u i k l h o =
      where-held x n (ex2 true Op2.Ne (cell_ex false t (put_last js (name_ex x))) m)
      (seen_ex (repr ReprKind.ExplicitVarSizeWithDummy no_reprs) (set_dom ms es d) (t ∷ []) js)
      (repr ReprKind.Atom no_reprs) d (t ∷ []) js u.0.1 u.1 h.1.1 h.2 k h
      (λ v. (
        tt,
        (
          (tt, last-behind x v env js u.1 h.2),
          (values-along.in_places true m (behind x v env) (valued-behind x v m env false i l), tt),
        ),
      )) o
  dummy x n m _ u i k l h o = tt

  -- ---- cells

  -- What is answered has values.
  abbrev Answered : Bool → Option Ex → Type 0
  Answered w None = Unit {0}
  Answered w (Some f) = Valued w f env

  cell : (w : Bool) (v a : Ex) → Valued false a env → Valued false v env → Answered w (cell_of_member v a)
  cell w (seen_ex (repr ReprKind.Occurrence no_reprs) (set_dom ms es d) (n ∷ []) js) a h k =
      put-flag js (more_exs a no_exs) n w env k.2 (h, tt)
  cell w (seen_ex (repr ReprKind.RelationAsMatrix no_reprs) (relation_dom ms es ds) (n ∷ []) js) (node_ex false tuple_literal as') h k =
      put-flag js as' n w env k.2 h.1
  cell w v a h k = tt

  member : (w : Bool) (e : Ex) → Valued w e env → Answered w (member_by_cell e)
  member w (ex2 true Op2.Member a v) h = cell w v a h.1.0 h.1.1.0
  member w _ h = tt

  answered : (w : Bool) (f : Ex) (o : Option Ex) → o ≡ Some f → Answered w o → Valued w f env
  answered w f o q k = subst (λ z. Answered w z) q k

  or-less : (b w : Bool) (P Q : Type 0) → (P → Q) → P → Unless (b || w) Q
  or-less true w P Q f h = tt
  or-less false true P Q f h = tt
  or-less false false P Q f h = f h

  -- A cell that has the value of a view.
  atom : (w : Bool) (e f : Ex) → atom_cell e ≡ Some f → meaning e env ≡ meaning f env → Valued w e env → Valued w f env
  atom w (seen_ex (repr ReprKind.Atom no_reprs) d (n ∷ []) js) f q m h = subst (λ z. Valued w z env) (taken q)
      (or-less (is_bool_dom d) w _ _ (λ s. subst (λ o. IsTrue (is_some o)) (m ∙ ap (λ z. meaning z env) (sym (taken q))) s) h.0, h.2)
    where
      taken : Some (cell_ex (is_bool_dom d) n js) ≡ Some f → cell_ex (is_bool_dom d) n js ≡ f
      taken q = ap (λ o. elim o [ Some z ↦ z | None ↦ f ]) q
  atom w e f q m h = cc

  unless-both : (w : Bool) (o p : Option Value) → o ≡ p → Unless (w && true) (IsTrue (is_some o)) → Unless (false || w) (IsTrue (is_some p))
  unless-both true o p q h = tt
  unless-both false o p q h = subst (λ z. IsTrue (is_some z)) q h

  by-marker : (w : Bool) (e f : Ex) → size_by_marker e ≡ Some f → meaning e env ≡ meaning f env → Valued w e env → Valued w f env
  by-marker w (ex1 false Op1.Bar (seen_ex (repr ReprKind.ExplicitVarSizeWithMarker (more_reprs r no_reprs)) (set_dom ms es d)
      (m ∷ ns) js)) f q i h = subst (λ z. Valued w z env) (taken q)
      (unless-both w _ _ (i ∙ ap (λ z. meaning z env) (sym (taken q))) h.0, h.1.0.2)
    where
      taken : Some (cell_ex false m js) ≡ Some f → cell_ex false m js ≡ f
      taken q = ap (λ o. elim o [ Some z ↦ z | None ↦ f ]) q
  by-marker w e f q i h = cc

  by-slots : (w : Bool) (n e f : Ex) → size_by_slots n e ≡ Some f → Valued false n env → Valued w f env
  by-slots w n (ex1 false Op1.Bar (seen_ex (repr ReprKind.Explicit (more_reprs r no_reprs)) (set_dom ms es d) ns js)) f q h =
      subst (λ z. Valued w z env) (ap (λ o. elim o [ Some z ↦ z | None ↦ f ]) q) (values-along.in_places w n env h)
  by-slots w n e f q h = cc

-- What is proved of views of sets.
pub set-views-keep-values : SetViewsKeepValues
set-views-keep-values = record {
  of_occurrences = λ x e env u h. occurrences env x e u h;
  of_slots_all_in_use = λ x n e env u k h o. explicit env x n e u k h o;
  of_slots_up_to_a_marker = λ x n e env u k h o. marker env x n e u k h o;
  of_slots_with_flags = λ x n e env u k h o. flags env x n e u k h o;
  of_slots_with_a_dummy = λ x n m e env u i k l h o. dummy env x n m e u i k l h o;
  members_by_cells = λ e f q env w h. answered env w f (member_by_cell e) q (member env w e h);
  atoms_by_cells = λ e f q env m w h. atom env w e f q m h;
  sizes_by_markers = λ e f q env m w h. by-marker env w e f q m h;
  sizes_by_slots = λ n e f q env h w. by-slots env w n e f q h;
}
