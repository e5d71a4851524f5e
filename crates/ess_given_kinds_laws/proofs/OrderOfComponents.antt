-- Views that are parts of other views are in order where order counts: cells, components, items, children, and results at arguments.
use Rattle.std.proofs.Common.{refl, Bool, true, false, if◌then◌else◌, List, [], ◌∷◌, take, drop, ℕ, zero, suc, Option, Some, None}
use Rattle.ess_semantics.specs.declared.words.Op1.{Op1}
use Rattle.ess_semantics.specs.declared.words.Op2.{Op2}
use Rattle.ess_semantics.specs.declared.words.Fun.{Fun}
use Rattle.ess_semantics.specs.declared.words.ReprKind.{ReprKind}
use Rattle.ess_semantics.specs.Lists.{and_then}
use Rattle.ess_semantics.specs.Values.{Text}
use Rattle.ess_semantics.specs.Order.{same_text}
use Rattle.ess_semantics.specs.Representations.{width}
use Rattle.ess_semantics.specs.Trees.{to_component, to_field, by_value, index, application, word, tuple_literal, Reprs, repr, no_reprs, more_reprs, Ex, Exs, node_ex, seen_ex, ex1, ex2, fun1, no_exs, more_exs, Doms, tuple_dom, record_dom, matrix_dom, set_dom, function_dom, relation_dom, more_doms}
use Rattle.ess_rules_laws.specs.AtomViews.{atom_cell}
use Rattle.ess_rules_laws.specs.OccurrenceViews.{cell_of_member, member_by_cell}
use Rattle.ess_rules_laws.specs.FunctionViews.{result_at}
use Rattle.ess_rules_laws.specs.FunctionKeys.{fits_mark, view_at, result_at_argument, flag_of, defined_where_flagged, flagged_view_at, lookup_behind_flag}
use Rattle.ess_views_laws.specs.ComponentViews.{child_at, child_of_field, component_view}
use Rattle.ess_views_laws.specs.MatrixViews.{item_view}
use Rattle.ess_views_laws.specs.ChildViews.{kept_as, asked_of_child}
use Rattle.ess_given_order_laws.specs.InOrder.{Ordered, AllOrdered, InOrder}
use Rattle.ess_given_order_laws.proofs.OrderOfFolds.{Answered, when}
use Rattle.ess_given_offers_laws.proofs.OrderOfViews.{last-order, append-all, kept-order, behind-order}
use Rattle.ess_given_offers_laws.proofs.OrderOfLookups.{Looks}

module _ (u : Text → Bool) where
  abbrev A : Option Ex → Type 0
  A r = Answered u r

  -- A view of an atom is its cell.
  pub cell-order : (e : Ex) → Ordered u e → A (atom_cell e)
  cell-order (seen_ex (repr ReprKind.Atom no_reprs) d (n ∷ []) js) h = (refl, h)
  cell-order _ h = tt

  -- ---- components

  child-order : (k : ℕ) (rs : Reprs) (ds : Doms) (ns : List Text) (js : Exs) → AllOrdered u js false → A (child_at k rs ds ns js)
  child-order (suc zero) (more_reprs r rs) (more_doms d ds) ns js j = (refl, j)
  child-order (suc (suc k)) (more_reprs r rs) (more_doms d ds) ns js j = child-order (suc k) rs ds (drop (width r) ns) js j
  child-order _ _ _ ns js j = tt

  field-order : (a : Text) (fs : List Text) (rs : Reprs) (ds : Doms) (ns : List Text) (js : Exs) → AllOrdered u js false →
      A (child_of_field a fs rs ds ns js)
  field-order a (f ∷ fs) (more_reprs r rs) (more_doms d ds) ns js j =
      go (same_text f a) (field-order a fs rs ds (drop (width r) ns) js j)
    where
      go : (c : Bool) → A (child_of_field a fs rs ds (drop (width r) ns) js) →
          A (if c then Some (seen_ex r d (take (width r) ns) js) else child_of_field a fs rs ds (drop (width r) ns) js)
      go true q = (refl, j)
      go false q = q
  field-order a _ _ _ ns js j = tt

  -- A component of a view of a tuple, a field of one of a record.
  pub component-order : (e : Ex) → Ordered u e → A (component_view e)
  component-order (node_ex b (index (to_component k ∷ [])) (more_exs (seen_ex (repr ReprKind.Tuple rs) (tuple_dom ds) ns js) no_exs)) h =
      child-order k rs ds ns js h.0.1
  component-order (node_ex b (index (to_field a ∷ [])) (more_exs (seen_ex (repr ReprKind.Rec rs) (record_dom fs ds) ns js) no_exs)) h =
      field-order a fs rs ds ns js h.0.1
  component-order _ h = tt

  -- An item of a view of a matrix.
  pub item-order : (e : Ex) → Ordered u e → A (item_view e)
  item-order (node_ex b (index (by_value ∷ []))
      (more_exs (seen_ex (repr ReprKind.Matrix (more_reprs r no_reprs)) (matrix_dom (more_doms i is) d) ns js) (more_exs a no_exs))) h =
      behind-order u r is d ns _ (last-order u js a h.0.1 h.1.0)
  item-order _ h = tt

  -- ---- children

  asking : (f : Ex → Ex) → ((c : Ex) → InOrder u c → InOrder u (f c)) → (o : Option Ex) → A o → A (and_then o (λ c. Some (f c)))
  asking f k None h = tt
  asking f k (Some c) h = k c h

  asks : (f : Ex → Ex) → ((c : Ex) → InOrder u c → InOrder u (f c)) → (v : Ex) → Ordered u v → A (and_then (kept_as v) (λ c. Some (f c)))
  asks f k v h = asking f k (kept_as v) (kept-order u v h)

  -- What is asked of a view is asked of what it is kept as.
  pub asked-order : (e : Ex) → Ordered u e → A (asked_of_child e)
  asked-order (ex2 true Op2.Member a (fun1 false Fun.ToRelation v)) h =
      asks (λ c. ex2 true Op2.Member a c) (λ c k. (refl, (h.0, (k, tt)))) v h.1.0.1.0.1
  asked-order (ex2 true Op2.Member a v) h = asks (λ c. ex2 true Op2.Member a c) (λ c k. (refl, (h.0, (k, tt)))) v h.1.0.1
  asked-order (ex1 false Op1.Bar (fun1 false Fun.Parts v)) h = asks (λ c. ex1 false Op1.Bar c) (λ c k. (refl, (k, tt))) v h.0.1.0.1
  asked-order (ex1 false Op1.Bar v) h = asks (λ c. ex1 false Op1.Bar c) (λ c k. (refl, (k, tt))) v h.0.1
  asked-order _ h = tt

  -- ---- cells of members, flags of arguments

  cell-of : (v a : Ex) → Ordered u v → InOrder u a → A (cell_of_member v a)
  cell-of (seen_ex (repr ReprKind.Occurrence no_reprs) (set_dom ms es d) (n ∷ []) js) a h k =
      (refl, append-all u js (more_exs a no_exs) h (k, tt))
  cell-of (seen_ex (repr ReprKind.RelationAsMatrix no_reprs) (relation_dom ms es ds) (n ∷ []) js) (node_ex false tuple_literal as') h k =
      (refl, append-all u js as' h k.1)
  cell-of _ _ h k = tt

  -- The cell that says whether a member is there.
  pub member-cell : (e : Ex) → Ordered u e → A (member_by_cell e)
  member-cell (ex2 true Op2.Member a v) h = cell-of v a h.1.0.1 h.0
  member-cell _ h = tt

  flag-order : (f a : Ex) → Ordered u f → InOrder u a → A (flag_of f a)
  flag-order (seen_ex (repr ReprKind.Function1DPartial (more_reprs r no_reprs)) (function_dom ms es d c) (m ∷ ns) js) a h k =
      (refl, append-all u js (more_exs a no_exs) h (k, tt))
  flag-order (seen_ex (repr ReprKind.FunctionNDPartial (more_reprs r no_reprs)) (function_dom ms es (tuple_dom ds) c) (m ∷ ns) js)
      (node_ex false tuple_literal as') h k =
      (refl, append-all u js as' h k.1)
  flag-order _ _ h k = tt

  -- The flag that says whether a function has a result there.
  pub defined-order : (e : Ex) → Ordered u e → A (defined_where_flagged e)
  defined-order (ex2 true Op2.Member a (fun1 false Fun.Defined f)) h = flag-order f a h.1.0.1.0.1 h.0
  defined-order _ h = tt

  -- ---- results at arguments

  view-at : (b : Bool) (f a : Ex) → Ordered u f → InOrder u a → A (view_at b f a)
  view-at b (seen_ex (repr ReprKind.Function1D (more_reprs r no_reprs)) (function_dom ms es d c) ns js) a h k =
      when u (fits_mark b c) (result_at r c ns js (more_exs a no_exs)) (refl, append-all u js (more_exs a no_exs) h (k, tt))
  view-at b (seen_ex (repr ReprKind.FunctionND (more_reprs r no_reprs)) (function_dom ms es (tuple_dom ds) c) ns js)
      (node_ex false tuple_literal as') h k =
      when u (fits_mark b c) (result_at r c ns js as') (refl, append-all u js as' h k.1)
  view-at b _ _ h k = tt

  -- The result of a total function.
  pub result-order : (e : Ex) → Ordered u e → A (result_at_argument e)
  result-order (node_ex b application (more_exs f (more_exs a no_exs))) h = view-at b f a h.0.1 h.1.0
  result-order (node_ex b (word Fun.Image) (more_exs f (more_exs a no_exs))) h = view-at b f a h.0.1 h.1.0
  result-order _ h = tt

  flagged-at : (f a : Ex) → Ordered u f → InOrder u a → Looks u (flagged_view_at f a)
  flagged-at (seen_ex (repr ReprKind.Function1DPartial (more_reprs r no_reprs)) (function_dom ms es d c) (m ∷ ns) js) a h k =
      let j = append-all u js (more_exs a no_exs) h (k, tt) in ((refl, j), ((refl, j), tt))
  flagged-at (seen_ex (repr ReprKind.FunctionNDPartial (more_reprs r no_reprs)) (function_dom ms es (tuple_dom ds) c) (m ∷ ns) js)
      (node_ex false tuple_literal as') h k =
      let j = append-all u js as' h k.1 in ((refl, j), ((refl, j), tt))
  flagged-at _ _ h k = tt

  -- The lookup of one with flags.
  pub behind-flag : (e : Ex) → Ordered u e → Looks u (lookup_behind_flag e)
  behind-flag (node_ex b application (more_exs f (more_exs a no_exs))) h = flagged-at f a h.0.1 h.1.0
  behind-flag (node_ex b (word Fun.Image) (more_exs f (more_exs a no_exs))) h = flagged-at f a h.0.1 h.1.0
  behind-flag _ h = tt
