-- Views that are parts of other views have what is wanted of the parts of a tree, where these have it: cells, components, items, children,
-- and results at arguments.
use Rattle.std.proofs.Common.{◌≡◌, Bool, true, false, if◌then◌else◌, List, [], ◌∷◌, take, drop, ℕ, zero, suc, Option, Some, None}
use Rattle.std.specs.Prelude.{IsTrue}
use Rattle.ess_semantics.specs.declared.words.Op1.{Op1}
use Rattle.ess_semantics.specs.declared.words.Op2.{Op2}
use Rattle.ess_semantics.specs.declared.words.Fun.{Fun}
use Rattle.ess_semantics.specs.declared.words.ReprKind.{ReprKind}
use Rattle.ess_semantics.specs.Lists.{and_then}
use Rattle.ess_semantics.specs.Values.{Text}
use Rattle.ess_semantics.specs.Order.{same_text}
use Rattle.ess_semantics.specs.Representations.{width}
use Rattle.ess_semantics.specs.Trees.{to_component, to_field, by_value, index, application, word, tuple_literal, Reprs, repr, no_reprs, more_reprs, Ex, Exs, node_ex, seen_ex, ex1, ex2, fun1, no_exs, more_exs, Dom, Doms, tuple_dom, record_dom, matrix_dom, set_dom, function_dom, relation_dom, more_doms}
use Rattle.ess_semantics.proofs.Tests.{and-left, and-right}
use Rattle.ess_rules_laws.specs.AtomViews.{atom_cell}
use Rattle.ess_rules_laws.specs.OccurrenceViews.{cell_of_member, member_by_cell}
use Rattle.ess_rules_laws.specs.FunctionViews.{result_at}
use Rattle.ess_rules_laws.specs.FunctionKeys.{fits_mark, view_at, result_at_argument, flag_of, defined_where_flagged, flagged_view_at, lookup_behind_flag}
use Rattle.ess_views_laws.specs.ComponentViews.{child_at, child_of_field, component_view}
use Rattle.ess_views_laws.specs.MatrixViews.{item_view}
use Rattle.ess_views_laws.specs.ChildViews.{kept_as, asked_of_child}
use Rattle.ess_given_laws.specs.PartsHave.{Wanted, PartsHave, AllHave, TablesHave}
use Rattle.ess_given_laws.specs.Given.{is_fixed_dom, are_fixed_doms}
use Rattle.ess_given_laws.proofs.PartsOfFolds.{Answers, when}
use Rattle.ess_given_offers_laws.specs.Seen.{Sees}
use Rattle.ess_given_offers_laws.proofs.SeenParts.{result-inner, last-has, append-has, kept-has, behind-has}

module _ (u : Text → Bool) (w : Wanted) (s : Sees w u) where
  abbrev A : Option Ex → Type 0
  A r = Answers w r

  abbrev Dm : Dom → Type 0
  Dm d = IsTrue (w.dom d)

  -- A view of an atom is its cell.
  pub cell-has : (e : Ex) → PartsHave w e → A (atom_cell e)
  cell-has (seen_ex (repr ReprKind.Atom no_reprs) d (n ∷ []) js) h = (h.0.0, h.2)
  cell-has _ h = tt

  -- ---- components

  first-tables : (k : ℕ) (ns : List Text) → TablesHave w ns → TablesHave w (take k ns)
  first-tables zero ns h = tt
  first-tables (suc k) [] h = tt
  first-tables (suc k) (n ∷ ns) h = (h.0, first-tables k ns h.1)

  later-tables : (k : ℕ) (ns : List Text) → TablesHave w ns → TablesHave w (drop k ns)
  later-tables zero ns h = h
  later-tables (suc k) [] h = tt
  later-tables (suc k) (n ∷ ns) h = later-tables k ns h.1

  first-dom : (d : Dom) (ds : Doms) → are_fixed_doms u (more_doms d ds) ≡ true → Dm d
  first-dom d ds h = s.into d (and-left (is_fixed_dom u d) (are_fixed_doms u ds) h)

  later-doms : (d : Dom) (ds : Doms) → are_fixed_doms u (more_doms d ds) ≡ true → are_fixed_doms u ds ≡ true
  later-doms d ds h = and-right (is_fixed_dom u d) (are_fixed_doms u ds) h

  child-has : (k : ℕ) (rs : Reprs) (ds : Doms) (ns : List Text) (js : Exs) → are_fixed_doms u ds ≡ true → TablesHave w ns → AllHave w js →
      A (child_at k rs ds ns js)
  child-has (suc zero) (more_reprs r rs) (more_doms d ds) ns js h k j = (first-tables (width r) ns k, first-dom d ds h, j)
  child-has (suc (suc k)) (more_reprs r rs) (more_doms d ds) ns js h t j =
      child-has (suc k) rs ds (drop (width r) ns) js (later-doms d ds h) (later-tables (width r) ns t) j
  child-has _ _ _ ns js h k j = tt

  field-has : (a : Text) (fs : List Text) (rs : Reprs) (ds : Doms) (ns : List Text) (js : Exs) → are_fixed_doms u ds ≡ true →
      TablesHave w ns → AllHave w js → A (child_of_field a fs rs ds ns js)
  field-has a (f ∷ fs) (more_reprs r rs) (more_doms d ds) ns js h k j =
      go (same_text f a) (field-has a fs rs ds (drop (width r) ns) js (later-doms d ds h) (later-tables (width r) ns k) j)
    where
      go : (c : Bool) → A (child_of_field a fs rs ds (drop (width r) ns) js) →
          A (if c then Some (seen_ex r d (take (width r) ns) js) else child_of_field a fs rs ds (drop (width r) ns) js)
      go true q = (first-tables (width r) ns k, first-dom d ds h, j)
      go false q = q
  field-has a _ _ _ ns js h k j = tt

  -- A component of a view of a tuple, a field of one of a record.
  pub component-has : (e : Ex) → PartsHave w e → A (component_view e)
  component-has (node_ex b (index (to_component k ∷ [])) (more_exs (seen_ex (repr ReprKind.Tuple rs) (tuple_dom ds) ns js) no_exs)) h =
      child-has k rs ds ns js (s.out (tuple_dom ds) h.0.1) h.0.0 h.0.2
  component-has (node_ex b (index (to_field a ∷ [])) (more_exs (seen_ex (repr ReprKind.Rec rs) (record_dom fs ds) ns js) no_exs)) h =
      field-has a fs rs ds ns js (s.out (record_dom fs ds) h.0.1) h.0.0 h.0.2
  component-has _ h = tt

  -- An item of a view of a matrix.
  pub item-has : (e : Ex) → PartsHave w e → A (item_view e)
  item-has (node_ex b (index (by_value ∷ []))
      (more_exs (seen_ex (repr ReprKind.Matrix (more_reprs r no_reprs)) (matrix_dom (more_doms i is) d) ns js) (more_exs a no_exs))) h =
      behind-has u w s r i is d ns _ h.0.0 h.0.1 (last-has u w s js a h.0.2 h.1.0)
  item-has _ h = tt

  -- ---- children

  asking : (f : Ex → Ex) → ((c : Ex) → PartsHave w c → PartsHave w (f c)) → (o : Option Ex) → A o → A (and_then o (λ c. Some (f c)))
  asking f k None h = tt
  asking f k (Some c) h = k c h

  asks : (f : Ex → Ex) → ((c : Ex) → PartsHave w c → PartsHave w (f c)) → (v : Ex) → PartsHave w v →
      A (and_then (kept_as v) (λ c. Some (f c)))
  asks f k v h = asking f k (kept_as v) (kept-has u w s v h)

  -- What is asked of a view is asked of what it is kept as.
  pub asked-has : (e : Ex) → PartsHave w e → A (asked_of_child e)
  asked-has (ex2 true Op2.Member a (fun1 false Fun.ToRelation v)) h = asks (λ c. ex2 true Op2.Member a c) (λ c k. (h.0, (k, tt))) v h.1.0.0
  asked-has (ex2 true Op2.Member a v) h = asks (λ c. ex2 true Op2.Member a c) (λ c k. (h.0, (k, tt))) v h.1.0
  asked-has (ex1 false Op1.Bar (fun1 false Fun.Parts v)) h = asks (λ c. ex1 false Op1.Bar c) (λ c k. (k, tt)) v h.0.0
  asked-has (ex1 false Op1.Bar v) h = asks (λ c. ex1 false Op1.Bar c) (λ c k. (k, tt)) v h.0
  asked-has _ h = tt

  -- ---- cells of members, flags of arguments

  cell-of : (v a : Ex) → PartsHave w v → PartsHave w a → A (cell_of_member v a)
  cell-of (seen_ex (repr ReprKind.Occurrence no_reprs) (set_dom ms es d) (n ∷ []) js) a h k =
      (h.0.0, append-has u w s js (more_exs a no_exs) h.2 (k, tt))
  cell-of (seen_ex (repr ReprKind.RelationAsMatrix no_reprs) (relation_dom ms es ds) (n ∷ []) js) (node_ex false tuple_literal as') h k =
      (h.0.0, append-has u w s js as' h.2 k)
  cell-of _ _ h k = tt

  -- The cell that says whether a member is there.
  pub member-cell : (e : Ex) → PartsHave w e → A (member_by_cell e)
  member-cell (ex2 true Op2.Member a v) h = cell-of v a h.1.0 h.0
  member-cell _ h = tt

  flag-has : (f a : Ex) → PartsHave w f → PartsHave w a → A (flag_of f a)
  flag-has (seen_ex (repr ReprKind.Function1DPartial (more_reprs r no_reprs)) (function_dom ms es d c) (m ∷ ns) js) a h k =
      (h.0.0, append-has u w s js (more_exs a no_exs) h.2 (k, tt))
  flag-has (seen_ex (repr ReprKind.FunctionNDPartial (more_reprs r no_reprs)) (function_dom ms es (tuple_dom ds) c) (m ∷ ns) js)
      (node_ex false tuple_literal as') h k =
      (h.0.0, append-has u w s js as' h.2 k)
  flag-has _ _ h k = tt

  -- The flag that says whether a function has a result there.
  pub defined-has : (e : Ex) → PartsHave w e → A (defined_where_flagged e)
  defined-has (ex2 true Op2.Member a (fun1 false Fun.Defined f)) h = flag-has f a h.1.0.0 h.0
  defined-has _ h = tt

  -- ---- results at arguments

  view-at : (b : Bool) (f a : Ex) → PartsHave w f → PartsHave w a → A (view_at b f a)
  view-at b (seen_ex (repr ReprKind.Function1D (more_reprs r no_reprs)) (function_dom ms es d c) ns js) a h k =
      when w (fits_mark b c) (result_at r c ns js (more_exs a no_exs))
      (h.0, result-inner u w s ms es d c h.1, append-has u w s js (more_exs a no_exs) h.2 (k, tt))
  view-at b (seen_ex (repr ReprKind.FunctionND (more_reprs r no_reprs)) (function_dom ms es (tuple_dom ds) c) ns js)
      (node_ex false tuple_literal as') h k =
      when w (fits_mark b c) (result_at r c ns js as')
      (h.0, result-inner u w s ms es (tuple_dom ds) c h.1, append-has u w s js as' h.2 k)
  view-at b _ _ h k = tt

  -- The result of a total function.
  pub result-has : (e : Ex) → PartsHave w e → A (result_at_argument e)
  result-has (node_ex b application (more_exs f (more_exs a no_exs))) h = view-at b f a h.0 h.1.0
  result-has (node_ex b (word Fun.Image) (more_exs f (more_exs a no_exs))) h = view-at b f a h.0 h.1.0
  result-has _ h = tt

  flagged-at : (f a : Ex) → PartsHave w f → PartsHave w a → A (flagged_view_at f a)
  flagged-at (seen_ex (repr ReprKind.Function1DPartial (more_reprs r no_reprs)) (function_dom ms es d c) (m ∷ ns) js) a h k =
      let j = append-has u w s js (more_exs a no_exs) h.2 (k, tt) in ((h.0.1, result-inner u w s ms es d c h.1, j), ((h.0.0, j), tt))
  flagged-at (seen_ex (repr ReprKind.FunctionNDPartial (more_reprs r no_reprs)) (function_dom ms es (tuple_dom ds) c) (m ∷ ns) js)
      (node_ex false tuple_literal as') h k =
      let j = append-has u w s js as' h.2 k in ((h.0.1, result-inner u w s ms es (tuple_dom ds) c h.1, j), ((h.0.0, j), tt))
  flagged-at _ _ h k = tt

  -- The lookup of one with flags.
  pub behind-flag : (e : Ex) → PartsHave w e → A (lookup_behind_flag e)
  behind-flag (node_ex b application (more_exs f (more_exs a no_exs))) h = flagged-at f a h.0 h.1.0
  behind-flag (node_ex b (word Fun.Image) (more_exs f (more_exs a no_exs))) h = flagged-at f a h.0 h.1.0
  behind-flag _ h = tt
