-- What views of functions and relations offer, of values that are kept as another value, and of each member of a multiset once, has items
-- of the type of the members, and marks.
use Rattle.std.proofs.Common.{◌≡◌, refl, sym, ap, subst, Bool, true, false, List, [], ◌∷◌, pos, Some, None, if◌then◌else◌, not}
use Rattle.std.specs.List.{list_all}
use Rattle.ess_semantics.specs.declared.words.Fun.{Fun}
use Rattle.ess_semantics.specs.declared.words.Op2.{Op2}
use Rattle.ess_semantics.specs.declared.words.ReprKind.{ReprKind}
use Rattle.ess_semantics.specs.Lists.{and_then}
use Rattle.ess_semantics.specs.Names.{Names}
use Rattle.ess_semantics.specs.OperatorTypes.{type_of_op, member_ty}
use Rattle.ess_semantics.specs.Trees.{Repr, Ex, Exs, name_ex, Dom, Mark, repr, no_reprs, more_reprs, number_ex, mset_dom, Doms, more_doms, name_pat, fun1, no_exs, more_exs, no_doms, tuple_dom, function_dom, relation_dom, partition_dom, no_gens, over, cond, seen_ex, node_ex, from, tuple_literal, tuple_pat}
use Rattle.ess_semantics.specs.Types.{Ty, bind_types, type_of_dom, compound, compound2, int_ty, compound1, types_of_doms, bool_ty, bind_all_types}
use Rattle.ess_semantics.specs.Typing.{type_of}
use Rattle.ess_semantics.specs.Values.{Text, a_tuple, a_set}
use Rattle.ess_semantics.proofs.Tests.{and-left, and-right, and-both}
use Rattle.ess_kind_rules_laws.specs.ViewListings.{dom_seen, slots_seen, names_for, kept_listing, one_each}
use Rattle.ess_kind_types_laws.proofs.ListingsTyped.{last-marked, last-tables}
use Rattle.ess_kind_types_laws.proofs.SetsKeepMarks.{append-marked}
use Rattle.ess_refine_laws.specs.AllRules.{Supply, OfSome}
use Rattle.ess_refine_laws.specs.MarksStay.{HasMarks, HaveMarks, DomHasMarks}
use Rattle.ess_refine_types_laws.proofs.MarksBehind.{marks-same}
use Rattle.ess_refine_types_laws.proofs.TypeParts.{two-to}
use Rattle.ess_repr_declare_laws.specs.SizeTerms.{size_terms, slots_ex}
use Rattle.ess_repr_laws.specs.StructureParts.{tuple_set_dom}
use Rattle.ess_repr_laws.specs.ViewParts.{pair_relation_dom, part_set_dom}
use Rattle.ess_rules_laws.proofs.Agreement.{look-itself}
use Rattle.ess_rules_laws.specs.Function1DPartialViews.{function_1d_partial_listing}
use Rattle.ess_rules_laws.specs.Function1DViews.{function_1d_listing}
use Rattle.ess_rules_laws.specs.FunctionMembershipRules.{pair_ex}
use Rattle.ess_rules_laws.specs.FunctionNDPartialViews.{function_nd_partial_listing}
use Rattle.ess_rules_laws.specs.FunctionNDViews.{function_nd_listing}
use Rattle.ess_rules_laws.specs.FunctionViews.{append_exs, flag_at, Run, by_name, by_names, name_exs, name_pats, names_fit, result_at, total_pairs, flagged_pairs}
use Rattle.ess_rules_laws.specs.Listings.{those}
use Rattle.ess_rules_laws.specs.OccurrenceViews.{relation_matrix_listing}
use Rattle.ess_rules_laws.specs.SetListings.{put_last}
use Rattle.ess_rules_laws.specs.SlotListings.{slots_dom}
use Rattle.ess_rules_marks_laws.proofs.Grows.{Grows, as_it_is, a_node, a_comp, none_grow, more_grow, no_gens_grow, from_grows, all-are, cond_grows, over_grows}
use Rattle.ess_rules_types_laws.specs.PutTypes.{TablesAre, AllTablesAre}
use Rattle.ess_views_laws.specs.MultisetViews.{number_at, is_there, members_once}
use Rattle.ess_kinds_typed_laws.proofs.CountsKeepMarks.{mset-slots-marked}
use Rattle.ess_kinds_typed_laws.proofs.CountsKeepTypes.{under-source}
use Rattle.ess_kinds_typed_laws.proofs.FreshNames.{one-kept, int-kept, Kept, tuple-typed, names-tables, all-kept, names-marked}
use Rattle.ess_kinds_typed_laws.proofs.KeptMarks.{kept-marks}
use Rattle.ess_kinds_typed_laws.proofs.OfferedTypes.{view-behind, Offered}
use Rattle.ess_kinds_typed_laws.proofs.OverTyped.{pair-typed, under-condition, list-typed}
use Rattle.ess_kinds_typed_laws.proofs.PlacesTyped.{tuples-of}
use Rattle.ess_kinds_typed_laws.specs.FoldsTyped.{SourceTyped}

append-tables : (w : Text → Bool) (js ks : Exs) → AllTablesAre w js → AllTablesAre w ks → AllTablesAre w (append_exs js ks)
append-tables w no_exs ks h k = k
append-tables w (more_exs e js) ks h k = (h.0, append-tables w js ks h.1 k)

-- As many new names as there are domains.
each-fresh : (u : Text → Bool) (zs : List Text) (ds : Doms) → list_all u zs ≡ true → list_all u (one_each zs ds) ≡ true
each-fresh u [] ds h = refl
each-fresh u (z ∷ zs) no_doms h = refl
each-fresh u (z ∷ zs) (more_doms d ds) h =
    and-both (u z) (list_all u (one_each zs ds)) (and-left (u z) (list_all u zs) h)
    (each-fresh u zs ds (and-right (u z) (list_all u zs) h))

module _ (s : Supply) (g : Names Ty) (w : Text → Bool) where
  -- ---- pairs of functions

  -- A pair of an argument and the result there.
  pair-is : (h : Names Ty) (a : Ex) (t : Ty) (r : Repr) (c : Dom) (ns : List Text) (js ks : Exs) → type_of a h ≡ Some t →
      type_of (pair_ex a (result_at r c ns js ks)) h ≡ Some (compound2 a_tuple t (type_of_dom c))
  pair-is h a t r c ns js ks p =
      two-to (type_of a h) (Some (type_of_dom c)) (type_of_op tuple_literal) t (type_of_dom c) (compound2 a_tuple t (type_of_dom c)) p refl
      refl

  pair-grows : (h : Names Ty) (a : Ex) (r : Repr) (c : Dom) (ns : List Text) (js ks : Exs) → Grows h a → DomHasMarks c h →
      HaveMarks js h → HaveMarks ks h → Grows h (pair_ex a (result_at r c ns js ks))
  pair-grows h a r c ns js ks p k l n =
      a_node refl (more_grow p (more_grow (as_it_is (k, append-marked h js ks l n)) none_grow))

  module _ (q : Repr) (ms : List Mark) (es : Exs) (c : Dom) (ts : List Text) (js : Exs) where
    -- The view of the function.
    abbrev Function : Dom → Ex
    Function d = seen_ex q (function_dom ms es d c) ts js

    module _ (u : Run) (d : Dom) (h : Names Ty) (f : SourceTyped s g (Function d)) (b : TablesAre w (Function d))
        (bound : bind_types u.pattern (type_of_dom d) g ≡ h) (k : Kept f.fresh g h) (argued : type_of u.argument h ≡ Some (type_of_dom d))
        (keyed : HaveMarks u.keys h) (grown_so : Grows h u.argument) (tabled : TablesAre w u.argument) (tables : AllTablesAre w u.keys)
      where
        -- Of a total one.
        total-offered : (r : Repr) (ns : List Text) → Offered g w (Function d) (total_pairs u r d c ns js)
        total-offered r ns = record {
          item_tables = (tabled, ((b.0.2, append-tables w js u.keys b.1 tables), tt));
          item_type = compound2 a_tuple (type_of_dom d) (type_of_dom c);
          laid = list-typed g (pair_ex u.argument (result_at r c ns js u.keys)) (over u.pattern d no_gens) h
              (compound2 a_tuple (type_of_dom d) (type_of_dom c)) (ap Some bound)
              (pair-is h u.argument (type_of_dom d) r c ns js u.keys argued);
          is_member = refl;
          made = λ m.
              let n = view-behind s g w q (function_dom ms es d c) ts js f h k m in
              a_comp (over_grows m.0.1 no_gens_grow) (subst (λ z. Grows z (pair_ex u.argument (result_at r c ns js u.keys))) (sym bound)
              (pair-grows h u.argument r c ns js u.keys grown_so n.0.2 n.1 keyed));
        }

        -- Of one with flags.
        flagged-offered : (r : Repr) (m : Text) (ns : List Text) → Offered g w (Function d) (flagged_pairs u r d c m ns js)
        flagged-offered r m ns = record {
          item_tables = (tabled, ((b.0.2, append-tables w js u.keys b.1 tables), tt));
          item_type = compound2 a_tuple (type_of_dom d) (type_of_dom c);
          laid = list-typed g (pair_ex u.argument (result_at r c ns js u.keys)) (over u.pattern d (cond (flag_at m js u.keys) no_gens)) h
              (compound2 a_tuple (type_of_dom d) (type_of_dom c)) (ap Some bound)
              (pair-is h u.argument (type_of_dom d) r c ns js u.keys argued);
          is_member = refl;
          made = λ v.
              let n = view-behind s g w q (function_dom ms es d c) ts js f h k v in
              a_comp (over_grows v.0.1 (cond_grows (subst (λ z. Grows z (flag_at m js u.keys)) (sym bound)
              (as_it_is (append-marked h js u.keys n.1 keyed))) no_gens_grow))
              (subst (λ z. Grows z (pair_ex u.argument (result_at r c ns js u.keys))) (sym bound)
              (pair-grows h u.argument r c ns js u.keys grown_so n.0.2 n.1 keyed));
        }

  -- Pairs of a total function from atoms.
  pub function-1d-offered : (v : Ex) → SourceTyped s g v → TablesAre w v → OfSome (function_1d_listing s.one v) (Offered g w v)
  function-1d-offered (seen_ex (repr ReprKind.Function1D (more_reprs r no_reprs)) (function_dom ms es d c) ns js) f b =
      total-offered (repr ReprKind.Function1D (more_reprs r no_reprs)) ms es c ns js (by_name s.one) d ((s.one, type_of_dom d) ∷ g) f b refl
      (one-kept f.fresh s.one (type_of_dom d) g f.one) (look-itself s.one (type_of_dom d) g) (tt, tt) (as_it_is tt) tt (tt, tt) r ns
  function-1d-offered _ f b = tt

  -- Of one with flags.
  pub partial-1d-offered : (v : Ex) → SourceTyped s g v → TablesAre w v → OfSome (function_1d_partial_listing s.one v) (Offered g w v)
  partial-1d-offered (seen_ex (repr ReprKind.Function1DPartial (more_reprs r no_reprs)) (function_dom ms es d c) (m ∷ ns) js) f b =
      flagged-offered (repr ReprKind.Function1DPartial (more_reprs r no_reprs)) ms es c (m ∷ ns) js (by_name s.one) d
      ((s.one, type_of_dom d) ∷ g) f b refl (one-kept f.fresh s.one (type_of_dom d) g f.one) (look-itself s.one (type_of_dom d) g) (tt, tt)
      (as_it_is tt) tt (tt, tt) r m ns
  partial-1d-offered _ f b = tt

  tuple-grows : (h : Names Ty) (xs : List Text) → Grows h (node_ex false tuple_literal (name_exs xs))
  tuple-grows h xs = a_node refl (all-are h (name_exs xs) (names-marked xs h))

  -- Pairs of a total function from tuples.
  pub function-nd-offered : (v : Ex) → SourceTyped s g v → TablesAre w v →
      OfSome (function_nd_listing (names_for s.parts (dom_seen v)) v) (Offered g w v)
  function-nd-offered (seen_ex (repr ReprKind.FunctionND (more_reprs r no_reprs)) (function_dom ms es (tuple_dom ds) c) ns js) f b =
      go (names_fit xs ds) refl
    where
      xs : List Text
      xs = one_each s.parts ds

      go : (z : Bool) → names_fit xs ds ≡ z →
          OfSome (if z then Some (total_pairs (by_names xs) r (tuple_dom ds) c ns js) else None)
          (Offered g w (seen_ex (repr ReprKind.FunctionND (more_reprs r no_reprs)) (function_dom ms es (tuple_dom ds) c) ns js))
      go false q = tt
      go true q =
          total-offered (repr ReprKind.FunctionND (more_reprs r no_reprs)) ms es c ns js (by_names xs) (tuple_dom ds)
          (bind_all_types (name_pats xs) (types_of_doms ds) g) f b refl
          (all-kept f.fresh xs (types_of_doms ds) g (each-fresh f.fresh s.parts ds f.parts)) (tuple-typed xs ds g q)
          (names-marked xs (bind_all_types (name_pats xs) (types_of_doms ds) g))
          (tuple-grows (bind_all_types (name_pats xs) (types_of_doms ds) g) xs) (names-tables w xs) (names-tables w xs) r ns
  function-nd-offered _ f b = tt

  -- Of one with flags.
  pub partial-nd-offered : (v : Ex) → SourceTyped s g v → TablesAre w v →
      OfSome (function_nd_partial_listing (names_for s.parts (dom_seen v)) v) (Offered g w v)
  partial-nd-offered (seen_ex (repr ReprKind.FunctionNDPartial (more_reprs r no_reprs)) (function_dom ms es (tuple_dom ds) c) (m ∷ ns) js)
      f b =
      go (names_fit xs ds) refl
    where
      xs : List Text
      xs = one_each s.parts ds

      go : (z : Bool) → names_fit xs ds ≡ z →
          OfSome (if z then Some (flagged_pairs (by_names xs) r (tuple_dom ds) c m ns js) else None)
          (Offered g w (seen_ex (repr ReprKind.FunctionNDPartial (more_reprs r no_reprs)) (function_dom ms es (tuple_dom ds) c) (m ∷ ns)
          js))
      go false q = tt
      go true q =
          flagged-offered (repr ReprKind.FunctionNDPartial (more_reprs r no_reprs)) ms es c (m ∷ ns) js (by_names xs) (tuple_dom ds)
          (bind_all_types (name_pats xs) (types_of_doms ds) g) f b refl
          (all-kept f.fresh xs (types_of_doms ds) g (each-fresh f.fresh s.parts ds f.parts)) (tuple-typed xs ds g q)
          (names-marked xs (bind_all_types (name_pats xs) (types_of_doms ds) g))
          (tuple-grows (bind_all_types (name_pats xs) (types_of_doms ds) g) xs) (names-tables w xs) (names-tables w xs) r m ns
  partial-nd-offered _ f b = tt

  -- ---- relations

  -- Tuples of a relation.
  pub relation-offered : (v : Ex) → SourceTyped s g v → TablesAre w v →
      OfSome (relation_matrix_listing (names_for s.parts (dom_seen v)) v) (Offered g w v)
  relation-offered (seen_ex (repr ReprKind.RelationAsMatrix no_reprs) (relation_dom ms es ds) (n ∷ []) js) f b = go (names_fit xs ds) refl
    where
      xs : List Text
      xs = one_each s.parts ds

      h : Names Ty
      h = bind_all_types (name_pats xs) (types_of_doms ds) g

      go : (z : Bool) → names_fit xs ds ≡ z →
          OfSome (if z then Some (record {
            gens = over (by_names xs).pattern (tuple_dom ds) (cond (flag_at n js (by_names xs).keys) no_gens);
            item = (by_names xs).argument;
          }) else None)
          (Offered g w (seen_ex (repr ReprKind.RelationAsMatrix no_reprs) (relation_dom ms es ds) (n ∷ []) js))
      go false q = tt
      go true q = record {
        item_tables = names-tables w xs;
        item_type = compound a_tuple (types_of_doms ds);
        laid = list-typed g (node_ex false tuple_literal (name_exs xs)) (over (tuple_pat (name_pats xs)) (tuple_dom ds)
            (cond (flag_at n js (name_exs xs)) no_gens)) h (compound a_tuple (types_of_doms ds)) refl (tuple-typed xs ds g q);
        is_member = ap Some (tuples-of (types_of_doms ds) f.columns);
        made = λ m.
            let o = view-behind s g w (repr ReprKind.RelationAsMatrix no_reprs) (relation_dom ms es ds) (n ∷ []) js f h
            (all-kept f.fresh xs (types_of_doms ds) g (each-fresh f.fresh s.parts ds f.parts)) m in
            a_comp (over_grows m.0.1 (cond_grows (as_it_is (append-marked h js (name_exs xs) o.1 (names-marked xs h))) no_gens_grow))
            (tuple-grows h xs);
      }
  relation-offered _ f b = tt

  -- ---- children

  -- The members of a term, where they have the type of those of t.
  those-offered : (t c : Ex) (v : Ty) → and_then (type_of c g) member_ty ≡ Some v → and_then (type_of t g) member_ty ≡ Some v →
      (HasMarks t g → HasMarks c g) → Offered g w t (those s.one c no_gens)
  those-offered t c v p q k = record {
    item_tables = tt;
    item_type = v;
    laid = list-typed g (name_ex s.one) (from (name_pat s.one) c no_gens) ((s.one, v) ∷ g) v (under-source g s.one c g v p)
        (look-itself s.one v g);
    is_member = q;
    made = λ m. a_comp (from_grows (as_it_is (k m)) no_gens_grow) (as_it_is tt);
  }

  -- What is kept as another value.
  pub kept-offered : (v : Ex) → SourceTyped s g v → OfSome (kept_listing s.one v) (Offered g w v)
  kept-offered (seen_ex (repr ReprKind.RelationAsSet (more_reprs r no_reprs)) (relation_dom ms es ds) ns js) f =
      let t : Ex = seen_ex (repr ReprKind.RelationAsSet (more_reprs r no_reprs)) (relation_dom ms es ds) ns js in
      those-offered t (seen_ex r (tuple_set_dom ms es ds) ns js) (compound a_tuple (types_of_doms ds)) refl
      (ap Some (tuples-of (types_of_doms ds) f.columns)) (kept-marks g t f.columns)
  kept-offered (seen_ex (repr ReprKind.FunctionAsRelation (more_reprs r no_reprs)) (function_dom ms es d c) ns js) f =
      let t : Ex = seen_ex (repr ReprKind.FunctionAsRelation (more_reprs r no_reprs)) (function_dom ms es d c) ns js in
      those-offered t (seen_ex r (pair_relation_dom size_terms ms es d c) ns js)
      (compound2 a_tuple (type_of_dom d) (type_of_dom c)) refl refl
      (kept-marks g t f.ints.1)
  kept-offered (seen_ex (repr ReprKind.PartitionAsSet (more_reprs r no_reprs)) (partition_dom ms es d) ns js) f =
      let t : Ex = seen_ex (repr ReprKind.PartitionAsSet (more_reprs r no_reprs)) (partition_dom ms es d) ns js in
      those-offered t (seen_ex r (part_set_dom size_terms ms es d) ns js) (compound1 a_set (type_of_dom d)) refl refl
      (kept-marks g t f.ints.1)
  kept-offered _ f = tt

  -- ---- each member once

  -- Whether a number is above 0.
  there-kept : (h : Names Ty) (t : Text) (js : Exs) → type_of (number_at t js s.one) h ≡ Some int_ty →
      type_of (is_there t js s.one) h ≡ Some bool_ty
  there-kept h t js p = pair-typed h true Op2.Gt (number_at t js s.one) (number_ex (pos 0)) int_ty int_ty bool_ty p refl refl

  -- Each member of a multiset.
  pub once-offered : (v : Ex) → SourceTyped s g (fun1 false Fun.ToSet v) → TablesAre w v →
      OfSome (members_once s.one (slots_seen v) (fun1 false Fun.ToSet v)) (Offered g w (fun1 false Fun.ToSet v))
  once-offered (seen_ex (repr ReprKind.MSetOccurrence no_reprs) (mset_dom ms es d) (t ∷ []) js) f b =
      let x = s.one in
      let v : Ex = seen_ex (repr ReprKind.MSetOccurrence no_reprs) (mset_dom ms es d) (t ∷ []) js in
      let h : Names Ty = (x, type_of_dom d) ∷ g in
      let k = one-kept f.fresh x (type_of_dom d) g f.one in
      record {
        item_tables = tt;
        item_type = type_of_dom d;
        laid = list-typed g (name_ex x) (over (name_pat x) d (cond (is_there t js x) no_gens)) h (type_of_dom d)
            (under-condition h h (is_there t js x) no_gens (there-kept h t js (int-kept f.fresh g h t [] (put_last js (name_ex x)) k
            f.tables_told f.numbers)) refl) (look-itself x (type_of_dom d) g);
        is_member = refl;
        made = λ m.
            let n = marks-same (λ a. not (f.fresh a)) v g h f.told.0 k m.1.0 in
            a_comp (over_grows m.1.0.0.1 (cond_grows (a_node refl (more_grow (as_it_is (last-marked js (name_ex x) h n.1 tt))
            (more_grow (as_it_is tt) none_grow))) no_gens_grow)) (as_it_is tt);
      }
  once-offered (seen_ex (repr ReprKind.MSetExplicitWithFlags (more_reprs r no_reprs)) (mset_dom ms es d) (t ∷ ns) js) f b =
      let x = s.one in
      let c : Dom = mset_dom ms es d in
      let v : Ex = seen_ex (repr ReprKind.MSetExplicitWithFlags (more_reprs r no_reprs)) c (t ∷ ns) js in
      let h : Names Ty = (x, int_ty) ∷ g in
      let k = one-kept f.fresh x int_ty g f.one in
      record {
        item_tables = (b.0.1, last-tables w js (name_ex x) b.1 tt);
        item_type = type_of_dom d;
        laid = list-typed g (seen_ex r d ns (put_last js (name_ex x))) (over (name_pat x) (slots_dom (slots_ex c)) (cond (is_there t js x)
            no_gens)) h (type_of_dom d) (under-condition h h (is_there t js x) no_gens
            (there-kept h t js
            (int-kept f.fresh g h t ns (put_last js (name_ex x)) k f.tables_told f.numbers)) refl) refl;
        is_member = refl;
        made = λ m.
            let n = marks-same (λ a. not (f.fresh a)) v g h f.told.0 k m.1.0 in
            let l = last-marked js (name_ex x) h n.1 tt in
            a_comp (over_grows (tt, (mset-slots-marked g ms es d f.ints m.1.0.0, tt)) (cond_grows (a_node refl (more_grow (as_it_is l)
            (more_grow (as_it_is tt) none_grow))) no_gens_grow)) (as_it_is (n.0.1, l));
      }
  once-offered _ f b = tt
