-- Which form each rule makes of a tree over views: conditions that leave, rules that read the kind of a view, rules of sources, and all.
use Rattle.std.proofs.Common.{◌≡◌, refl, sym, subst, ℕ, Bool, true, false, ◌&&◌, if◌then◌else◌, List, [], ◌∷◌, map, Option, Some, None, option_map}
use Rattle.ess_semantics.specs.declared.words.Op1.{Op1}
use Rattle.ess_semantics.specs.declared.words.Op2.{Op2}
use Rattle.ess_semantics.specs.declared.words.Fun.{Fun}
use Rattle.ess_semantics.specs.declared.words.ReprKind.{ReprKind}
use Rattle.ess_semantics.specs.Lists.{and_then}
use Rattle.ess_semantics.specs.Values.{Text}
use Rattle.ess_semantics.specs.Names.{Names}
use Rattle.ess_semantics.specs.NamesAt.{names_behind}
use Rattle.ess_semantics.specs.Refined.{is_refined, are_refined_gens}
use Rattle.ess_semantics.specs.Trees.{word, repr, no_reprs, more_reprs, name_pat, Ex, comp_ex, seen_ex, Gens, from, relation_dom, set_dom, ex1, ex2, fun1}
use Rattle.ess_semantics.specs.Types.{Ty}
use Rattle.ess_semantics.specs.ExpressionJudgements.{forgets_order}
use Rattle.ess_rules_laws.specs.SourceRules.{is_marked}
use Rattle.ess_rules_laws.specs.SpliceRules.{append_gens}
use Rattle.ess_rules_laws.specs.InclusionRules.{unequal, included_strictly, included_members, equal_members}
use Rattle.ess_rules_laws.specs.MembershipRules.{member_term}
use Rattle.ess_rules_laws.specs.SizeRules.{size_term}
use Rattle.ess_rules_laws.specs.AtomViews.{atom_cell}
use Rattle.ess_rules_laws.specs.OccurrenceViews.{cell_of_member, member_by_cell}
use Rattle.ess_rules_laws.specs.SetSizes.{size_by_marker, size_by_slots}
use Rattle.ess_rules_laws.specs.Listings.{Alternative}
use Rattle.ess_rules_laws.specs.ListedSources.{laid_out, source_alone, source_parts}
use Rattle.ess_refine_laws.specs.ExtremeAlternatives.{put_alternative}
use Rattle.ess_refine_laws.specs.LeavingConditions.{Parted, at_last_condition, under_condition, condition_leaves}
use Rattle.ess_refine_laws.specs.AllRules.{Rule, over_one, over_one_binding, over_a_condition, over_a_source, of_one_source, not_equal, turned, strictly, equal_sets, included_sets, in_two, in_a_term, size as size_rule, choice, condition, Supply, offered, source_listed, source_listed_once, only_one, compares_compound, rewrite}
use Rattle.ess_refine_laws.proofs.LeavingConditions.{MakesUp, made-up}
use Rattle.ess_kind_rules_laws.specs.ViewListings.{view_listing, slots_of_operand}
use Rattle.ess_kind_rules_laws.specs.KindRules.{KindRule, view_listed, cell_of_an_atom, over_a_view, of_one_view, member_at_a_cell, size_at_the_marker, size_of_slots, kind_rewrite}
use Rattle.ess_open_rules_laws.specs.OpenGenerators.{Opened, at_first_open, folds_nested, nested as nested_fold}
use Rattle.ess_open_rules_laws.specs.OpenSources.{behind_gens, put_opened, all_offered, over_one_opened}
use Rattle.ess_open_rules_laws.specs.OpenRules.{OpenRule, over_one_source, fold_of_folds, open_rewrite, KindRuling, of_kind, of_opening, kind_ruled}
use Rattle.ess_refine_laws.specs.ExtremeRules.{are_none}
use Rattle.ess_open_kept_laws.proofs.OpenedFolds.{opened-are}
use Rattle.ess_seen_laws.specs.Seen.{Bound, bound_types, Seen}
use Rattle.ess_seen_laws.specs.MayFire.{may_fire, may_fire_at_views, may_fire_at_sources, may_fire_by_kind}
use Rattle.ess_seen_names_laws.specs.Shapes.{by_a_view, Shape, leaving, cell_of, flag_of, marker_of, slots_of, in_a_list, alone, opened, nested}
use Rattle.ess_seen_names_laws.proofs.SeenForms.{FirstSource, OpenedSource, Forms, forms}
use Rattle.ess_seen_names_laws.proofs.SetsOffer.{ViewOf, OneLaid, SomeOffered, set-laid, set-listed, set-offered}
use Rattle.ess_seen_names_laws.proofs.PlainShapes.{Shaped, when, under, items, bindings, conditions, sizes, members, differences, turnings, strictnesses, equalities, inclusions, combinations, choices}

module _ (cells : Text → Option (Bool × List ℕ)) (x : Text) where
  -- A condition that leaves.
  leaves-fold : (m : Bool) (w : Fun) (i : Ex) (gs : Gens) (o : Option Parted) → MakesUp o gs →
      Shaped x (fun1 m w (comp_ex i gs)) (elim o [
        | None ↦ None
        | Some t ↦ if is_marked m w && (is_refined t.condition && (is_refined i && are_refined_gens t.after))
            then Some (fun1 m w (comp_ex (under_condition w t.condition (fun1 m w (comp_ex i t.after))) t.before)) else None
      ])
  leaves-fold m w i gs None p = tt
  leaves-fold m w i gs (Some t) p =
      when x (is_marked m w && (is_refined t.condition && (is_refined i && are_refined_gens t.after))) (fun1 m w (comp_ex i gs))
      (fun1 m w (comp_ex (under_condition w t.condition (fun1 m w (comp_ex i t.after))) t.before))
      (subst (λ z. Shape x (fun1 m w (comp_ex i z))
      (fun1 m w (comp_ex (under_condition w t.condition (fun1 m w (comp_ex i t.after))) t.before))) (sym p)
      (leaving t.before t.condition t.after))

  leaves : (e : Ex) → Shaped x e (condition_leaves e)
  leaves (fun1 m w (comp_ex i gs)) = leaves-fold m w i gs (at_last_condition gs) (made-up gs)
  leaves _ = tt

  -- ---- those that read the kind of a view

  atoms : (e : Ex) → Forms cells e → Shaped x e (atom_cell e)
  atoms (seen_ex (repr ReprKind.Atom no_reprs) d (n ∷ []) js) h = cell_of h
  atoms _ h = tt

  flag-at : (v a : Ex) → ViewOf v → Shaped x (ex2 true Op2.Member a v) (cell_of_member v a)
  flag-at (seen_ex (repr ReprKind.Occurrence no_reprs) (set_dom ms es d) (n ∷ []) js) a h = flag_of h.2
  flag-at (seen_ex (repr ReprKind.RelationAsMatrix no_reprs) (relation_dom ms es ds) (n ∷ []) js) a h = absurd h
  flag-at _ a h = tt

  flags : (e : Ex) → Forms cells e → Shaped x e (member_by_cell e)
  flags (ex2 true Op2.Member a v) h = flag-at v a h
  flags _ h = tt

  markers : (e : Ex) → Forms cells e → Shaped x e (size_by_marker e)
  markers (ex1 false Op1.Bar (seen_ex (repr ReprKind.ExplicitVarSizeWithMarker (more_reprs r no_reprs)) (set_dom ms es d) (m ∷ ns) js)) h =
      marker_of h.2
  markers _ h = tt

  slots : (e : Ex) → Forms cells e → Shaped x e (size_by_slots (slots_of_operand e) e)
  slots (ex1 false Op1.Bar (seen_ex (repr ReprKind.Explicit (more_reprs r no_reprs)) (set_dom ms es d) ns js)) h = slots_of h.0 h.1
  slots _ h = tt

  -- A fold over what a view offers.
  in-a-list : (m : Bool) (w : Fun) (y : Text) (i t : Ex) (hs : Gens) (o : Option Alternative) → OneLaid cells x t o →
      Shaped x (fun1 m w (comp_ex i (from (name_pat y) t hs)))
      (and_then o (λ a. source_parts (a ∷ []) (fun1 m w (comp_ex i (from (name_pat y) t hs)))))
  in-a-list m w y i t hs None l = tt
  in-a-list m w y i t hs (Some a) l = when x (is_marked m w) _ _ (in_a_list y hs (a ∷ []) (by_a_view l, tt))

  alone-listed : (m : Bool) (w : Fun) (y : Text) (i t : Ex) (hs : Gens) (o : Option Alternative) → OneLaid cells x t o →
      Shaped x (fun1 m w (comp_ex i (from (name_pat y) t hs)))
      (and_then o (λ a. source_alone a (fun1 m w (comp_ex i (from (name_pat y) t hs)))))
  alone-listed m w y i t hs None l = tt
  alone-listed m w y i t hs (Some a) l = when x (forgets_order (word w)) _ _ (alone y hs (by_a_view l))

  -- A fold over the alternatives of a source, and over the only one.
  parts-listed : (m : Bool) (w : Fun) (y : Text) (i t : Ex) (hs : Gens) (o : Option (List Alternative)) → SomeOffered cells x t o →
      Shaped x (fun1 m w (comp_ex i (from (name_pat y) t hs)))
      (and_then o (λ l. source_parts l (fun1 m w (comp_ex i (from (name_pat y) t hs)))))
  parts-listed m w y i t hs None h = tt
  parts-listed m w y i t hs (Some l) h = when x (is_marked m w) _ _ (in_a_list y hs l h)

  once-listed : (m : Bool) (w : Fun) (y : Text) (i t : Ex) (hs : Gens) (o : Option (List Alternative)) → SomeOffered cells x t o →
      Shaped x (fun1 m w (comp_ex i (from (name_pat y) t hs)))
      (and_then (only_one o) (λ a. source_alone a (fun1 m w (comp_ex i (from (name_pat y) t hs)))))
  once-listed m w y i t hs None h = tt
  once-listed m w y i t hs (Some []) h = tt
  once-listed m w y i t hs (Some (a ∷ [])) h = when x (forgets_order (word w)) _ _ (alone y hs h.0)
  once-listed m w y i t hs (Some (a ∷ b ∷ l)) h = tt

  module _ (s : Supply) (named : s.one ≡ x) where
    offered-at : (t : Ex) (o : Option (List Alternative)) → SomeOffered cells s.one t o → SomeOffered cells x t o
    offered-at t o h = subst (λ z. SomeOffered cells z t o) named h

    sources-made : (g : Names Ty) (e : Ex) → Forms cells e → Shaped x e (source_listed s g e)
    sources-made g (fun1 m w (comp_ex i (from (name_pat y) t hs))) h =
        let k = h.0 in
        parts-listed m w y i t hs (offered s g t) (offered-at t (offered s g t) (set-listed cells k.2 s g))
    sources-made g _ h = tt

    source-made-once : (g : Names Ty) (e : Ex) → Forms cells e → Shaped x e (source_listed_once s g e)
    source-made-once g (fun1 m w (comp_ex i (from (name_pat y) t hs))) h =
        let k = h.0 in
        once-listed m w y i t hs (offered s g t) (offered-at t (offered s g t) (set-listed cells k.2 s g))
    source-made-once g _ h = tt

    laid-at : (t : Ex) → OneLaid cells s.one t (view_listing s.one s.other s.parts t) →
        OneLaid cells x t (view_listing s.one s.other s.parts t)
    laid-at t h = subst (λ z. OneLaid cells z t (view_listing s.one s.other s.parts t)) named h

    lists-made : (e : Ex) → Forms cells e → Shaped x e (view_listed (λ a. source_parts (a ∷ [])) s e)
    lists-made (fun1 m w (comp_ex i (from (name_pat y) t hs))) h =
        let k = h.0 in
        in-a-list m w y i t hs (view_listing s.one s.other s.parts t) (laid-at t (set-laid cells k.2 s.one s.other s.parts))
    lists-made _ h = tt

    alone-made : (e : Ex) → Forms cells e → Shaped x e (view_listed source_alone s e)
    alone-made (fun1 m w (comp_ex i (from (name_pat y) t hs))) h =
        let k = h.0 in
        alone-listed m w y i t hs (view_listing s.one s.other s.parts t) (laid-at t (set-laid cells k.2 s.one s.other s.parts))
    alone-made _ h = tt

    -- ---- those at the first generator that isn't plain

    only-opened : (m : Bool) (w : Fun) (before : Gens) (y : Text) (i t : Ex) (hs : Gens) (o : Option (List Alternative)) →
        SomeOffered cells s.one t o → Shaped x (fun1 m w (comp_ex i (append_gens before (from (name_pat y) t hs))))
        (option_map (λ a. fun1 m w (laid_out a)) (only_one (option_map (map (λ a. behind_gens before (put_alternative y i hs a))) o)))
    only-opened m w before y i t hs None l = tt
    only-opened m w before y i t hs (Some []) l = tt
    only-opened m w before y i t hs (Some (a ∷ [])) l = opened before y hs (offered-at t (Some (a ∷ [])) l).0
    only-opened m w before y i t hs (Some (a ∷ b ∷ l')) l = tt

    opened-at : (g : Names Ty) (m : Bool) (w : Fun) (i : Ex) (before after : Gens) → FirstSource cells after →
        Shaped x (fun1 m w (comp_ex i (append_gens before after)))
        (option_map (λ a. fun1 m w (laid_out a)) (only_one (put_opened i before after (all_offered s g))))
    opened-at g m w i before (from (name_pat y) t hs) k = only-opened m w before y i t hs (all_offered s g t) (set-offered cells k.2 s g)
    opened-at g m w i before _ k = tt

    opened-list : (g : Names Ty) (m : Bool) (w : Fun) (i : Ex) (gs : Gens) (o : Option Opened) → at_first_open gs ≡ o →
        OpenedSource cells o → Shaped x (fun1 m w (comp_ex i gs)) (option_map (λ a. fun1 m w (laid_out a)) (only_one
        (and_then o (λ t. put_opened i t.before t.after (all_offered s (names_behind t.before g))))))
    opened-list g m w i gs None q k = tt
    opened-list g m w i gs (Some t) q k =
        subst (λ z. Shaped x (fun1 m w (comp_ex i z)) (option_map (λ a. fun1 m w (laid_out a))
        (only_one (put_opened i t.before t.after (all_offered s (names_behind t.before g)))))) (sym (opened-are gs t q))
        (opened-at (names_behind t.before g) m w i t.before t.after k)

    openings : (g : Names Ty) (e : Ex) → Forms cells e → Shaped x e (over_one_opened s g e)
    openings g (fun1 m w (comp_ex i gs)) h = under x (forgets_order (word w)) (fun1 m w (comp_ex i gs)) _
        (opened-list g m w i gs (at_first_open gs) refl h.1)
    openings g _ h = tt

    nested-at : (m : Bool) (w : Fun) (i : Ex) (gs : Gens) (o : Option Opened) → at_first_open gs ≡ o →
        Shaped x (fun1 m w (comp_ex i gs)) (and_then o (folds_nested m w i))
    nested-at m w i gs None q = tt
    nested-at m w i gs (Some t) q = go (are_none t.before)
      where
        go : (b : Bool) → Shaped x (fun1 m w (comp_ex i gs))
            (if b then None else Some (fun1 m w (comp_ex (fun1 m w (comp_ex i t.after)) t.before)))
        go true = tt
        go false = subst (λ z. Shape x (fun1 m w (comp_ex i z)) (fun1 m w (comp_ex (fun1 m w (comp_ex i t.after)) t.before)))
            (sym (opened-are gs t q)) (nested t.before t.after)

    nestings : (e : Ex) → Shaped x e (nested_fold e)
    nestings (fun1 m w (comp_ex i gs)) =
        under x (is_marked m w) (fun1 m w (comp_ex i gs)) _ (nested-at m w i gs (at_first_open gs) refl)
    nestings _ = tt

    -- ---- all

    plain-shapes : (g : Names Ty) (u : Rule) → may_fire u ≡ true → (e : Ex) → Forms cells e → Shaped x e (rewrite s g u e)
    plain-shapes g over_one k e h = items x e
    plain-shapes g over_one_binding k e h = bindings x e
    plain-shapes g over_a_condition k e h = conditions x e
    plain-shapes g over_a_source k e h = sources-made g e h
    plain-shapes g of_one_source k e h = source-made-once g e h
    plain-shapes g not_equal k e h = under x (compares_compound g e) e (unequal e) (differences x e)
    plain-shapes g turned k e h = turnings x e
    plain-shapes g strictly k e h = subst (λ z. Shaped x e (included_strictly g z e)) (sym named) (strictnesses x g e)
    plain-shapes g equal_sets k e h = subst (λ z. Shaped x e (equal_members g z e)) (sym named) (equalities x g e)
    plain-shapes g included_sets k e h = subst (λ z. Shaped x e (included_members g z e)) (sym named) (inclusions x g e)
    plain-shapes g in_two k e h = combinations x e
    plain-shapes g in_a_term k e h = subst (λ z. Shaped x e (member_term z e)) (sym named) (members x e)
    plain-shapes g size_rule k e h = subst (λ z. Shaped x e (size_term g z e)) (sym named) (sizes x g e)
    plain-shapes g choice k e h = choices x e
    plain-shapes g condition k e h = leaves e
    plain-shapes g _ k e h = cc

    kind-shapes : (g : Names Ty) (u : KindRule) → may_fire_at_views u ≡ true → (e : Ex) → Forms cells e →
        Shaped x e (kind_rewrite s g u e)
    kind-shapes g cell_of_an_atom k e h = atoms e h
    kind-shapes g over_a_view k e h = lists-made e h
    kind-shapes g of_one_view k e h = alone-made e h
    kind-shapes g member_at_a_cell k e h = flags e h
    kind-shapes g size_at_the_marker k e h = markers e h
    kind-shapes g size_of_slots k e h = slots e h
    kind-shapes g _ k e h = cc

    open-shapes : (g : Names Ty) (u : OpenRule) → may_fire_at_sources u ≡ true → (e : Ex) → Forms cells e →
        Shaped x e (open_rewrite s g u e)
    open-shapes g over_one_source k e h = openings g e h
    open-shapes g fold_of_folds k e h = nestings e
    open-shapes g _ k e h = cc

-- Each rule that fires makes such a form.
pub shapes-plainly : (cells : Text → Option (Bool × List ℕ)) (s : Supply) (r : Names Bound) (u : Rule) (e f : Ex) (m : Bool) →
    Seen cells r e m → may_fire u ≡ true → rewrite s (bound_types r) u e ≡ Some f → Shape s.one e f
shapes-plainly cells s r u e f m h k q =
    subst (Shaped s.one e) q (plain-shapes cells s.one s refl (bound_types r) u k e (forms cells h))

pub shapes-by-kind : (cells : Text → Option (Bool × List ℕ)) (s : Supply) (r : Names Bound) (u : KindRuling) (e f : Ex) (m : Bool) →
    Seen cells r e m → may_fire_by_kind u ≡ true → kind_ruled s (bound_types r) u e ≡ Some f → Shape s.one e f
shapes-by-kind cells s r (of_kind u) e f m h k q =
    subst (Shaped s.one e) q (kind-shapes cells s.one s refl (bound_types r) u k e (forms cells h))
shapes-by-kind cells s r (of_opening u) e f m h k q =
    subst (Shaped s.one e) q (open-shapes cells s.one s refl (bound_types r) u k e (forms cells h))
