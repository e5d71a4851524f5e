-- A function kept by argument with flags at a term that its number tells from other arguments: the flag there says whether it is an
-- argument, and where it is, the view there is the result.
use Rattle.std.proofs.Common.{◌≡◌, refl, sym, ap, ◌∙◌, subst, Bool, true, false, ◌||◌, if◌then◌else◌, List, [], ◌∷◌, ◌++◌, map, filter, take, drop, length, ℤ, Option, Some, None, option_map}
use Rattle.std.specs.List.{list_all}
use Rattle.ess_semantics.specs.declared.words.Op2.{Op2}
use Rattle.ess_semantics.specs.declared.words.Fun.{Fun}
use Rattle.ess_semantics.specs.declared.words.ReprKind.{ReprKind}
use Rattle.ess_semantics.specs.Lists.{and_then, each_of, list_or_none}
use Rattle.ess_semantics.specs.Values.{Text, Value, truth, items_of}
use Rattle.ess_semantics.specs.Order.{same}
use Rattle.ess_semantics.specs.Collections.{holds, value_at}
use Rattle.ess_semantics.specs.Names.{look}
use Rattle.ess_semantics.specs.Trees.{Op, Mark, Repr, repr, no_reprs, more_reprs, Ex, Exs, node_ex, seen_ex, ex2, fun1, no_exs, more_exs, Dom, function_dom}
use Rattle.ess_semantics.specs.Domains.{functions, members, member_list, lists_of}
use Rattle.ess_semantics.specs.Membership.{member}
use Rattle.ess_semantics.specs.Operators.{as_truth, list_value, value_of_node}
use Rattle.ess_semantics.specs.Tables.{Table, Tables, cell_at, same_axes}
use Rattle.ess_semantics.specs.Cells.{Axes, Cells, cells_at}
use Rattle.ess_semantics.specs.Layers.{own_cell, chosen}
use Rattle.ess_semantics.specs.FunctionLayers.{with_arguments, function_with, partial_layer}
use Rattle.ess_semantics.specs.Representations.{layer, own_width, child_part, value_of_tables}
use Rattle.ess_semantics.specs.Declarations.{axes_of}
use Rattle.ess_semantics.specs.Tidy.{over_axes, tidy}
use Rattle.ess_semantics.specs.Meaning.{Env, meaning, meanings, indices, tables_in, where_true}
use Rattle.ess_semantics.specs.Meets.{Meets, MeetsAll}
use Rattle.ess_semantics.proofs.Tests.{and-right, both-ways}
use Rattle.ess_semantics.proofs.Orders.{same-equal}
use Rattle.ess_rules_laws.specs.FunctionViews.{append_exs, result_at, flag_at}
use Rattle.ess_rules_laws.specs.FunctionKeys.{result_behind_flag}
use Rattle.ess_rules_laws.specs.Lookups.{found, Looked}
use Rattle.ess_rules_laws.proofs.Lookups.{single}
use Rattle.ess_rules_laws.proofs.SlotSets.{In, orderly_in}
use Rattle.ess_rules_laws.proofs.Results.{meanings-append, indices-append, is_flag, append-met, place-value, place-tidy, view-value, view-met, flag-value}
use Rattle.ess_rules_laws.proofs.FunctionCells.{FunctionStands, partial-stands}
use Rattle.ess_rules_laws.proofs.FunctionViewParts.{Opened, view-is, tables-split, partial-over, over-short}
use Rattle.ess_rules_laws.proofs.FunctionResults.{chosen-picked}
use Rattle.ess_rules_laws.proofs.FunctionViewLookups.{Applies}
use Rattle.ess_rules_laws.proofs.PlacesOfTables.{listed_in, cell-place, place-member}
use Rattle.ess_rules_laws.proofs.SureArguments.{Held, held, firsts-of, defined-is}

no : {A : Type 0} → false ≡ true → A
no h = cc

-- A value that passes a test is among those that pass where it is among all.
pub held-passing : (t : Value → Bool) (us : List Value) (w : Value) → (t w ≡ true → holds us w ≡ true) → holds (filter t us) w ≡ t w
held-passing t us w f = both-ways (holds (filter t us) w) (t w) (passes us) (λ h. kept us h (f h))
  where
    passes : (us : List Value) → holds (filter t us) w ≡ true → t w ≡ true
    passes [] h = no h
    passes (u ∷ us) h = go (t u) refl h (λ z. passes us z)
      where
        at : (b : Bool) → same u w ≡ b → t u ≡ true → b || holds (filter t us) w ≡ true → (holds (filter t us) w ≡ true → t w ≡ true) →
            t w ≡ true
        at true s e h r = ap t (sym (same-equal u w s)) ∙ e
        at false s e h r = r h

        go : (b : Bool) → t u ≡ b → holds (if b then u ∷ filter t us else filter t us) w ≡ true →
            (holds (filter t us) w ≡ true → t w ≡ true) →
            t w ≡ true
        go true e h r = at (same u w) refl e h r
        go false e h r = r h

    kept : (us : List Value) → t w ≡ true → holds us w ≡ true → holds (filter t us) w ≡ true
    kept [] e h = no h
    kept (u ∷ us) e h = go (t u) refl (same u w) refl h (λ z. kept us e z)
      where
        or-right : (b c : Bool) → c ≡ true → b || c ≡ true
        or-right true c h = refl
        or-right false c h = h

        go : (b : Bool) → t u ≡ b → (c : Bool) → same u w ≡ c → c || holds us w ≡ true →
            (holds us w ≡ true → holds (filter t us) w ≡ true) →
            holds (if b then u ∷ filter t us else filter t us) w ≡ true
        go true q true s h r = ap (λ z. z || holds (filter t us) w) s
        go true q false s h r = or-right (same u w) _ (r h)
        go false q true s h r = no (sym q ∙ ap t (same-equal u w s) ∙ e)
        go false q false s h r = r h

-- Where it isn't among the arguments there is no result.
no-result : (ys vs : List Value) (w : Value) → holds ys w ≡ false → value_at (with_arguments ys vs) w ≡ None
no-result [] vs w h = refl
no-result (y ∷ ys) [] w h = refl
no-result (y ∷ ys) (v ∷ vs) w h = go (same y w) h (λ z. no-result ys vs w z)
  where
    go : (b : Bool) → b || holds ys w ≡ false → (holds ys w ≡ false → value_at (with_arguments ys vs) w ≡ None) →
        (if b then Some v else value_at (with_arguments ys vs) w) ≡ None
    go true h r = no (sym h)
    go false h r = r h

module _ (index : Value → List ℤ) (k : ReprKind) (r : Repr) (ms : List Mark) (es : Exs) (dd ce : Dom) (js : Exs) (env : Env) (axes : Axes)
    (f : Text) (names : List Text) (o : Opened (repr k (more_reprs r no_reprs)) ms es dd ce (f ∷ names) js env)
    (is_layer : layer k (functions o.ks o.d o.c) ≡ Some (partial_layer o.ks axes index o.d o.c))
    (own-one : own_width k ≡ 1) (us : List Value) (us-are : members o.d ≡ Some us) (places : lists_of axes ≡ map index us)
    (m : Meets (seen_ex (repr k (more_reprs r no_reprs)) (function_dom ms es dd ce) (f ∷ names) js) env) where
  abbrev View : Ex
  View = seen_ex (repr k (more_reprs r no_reprs)) (function_dom ms es dd ce) (f ∷ names) js

  -- Whether there is a result at an argument.
  abbrev is_there : Table → Value → Bool
  is_there t v = is_flag (cell_at t (o.i ++ index v))

  -- What it has at the arguments whose flag is true.
  record Kept : Type 0 where
    pub t : Table
    pub ts : Tables
    pub vs : List Value
    pub is_table : look env.cells f ≡ Some t
    pub are_tables : tables_in env.cells names ≡ Some ts
    pub is_value : meaning View env ≡ Some (function_with (filter (is_there t) us) vs)
    pub values : each_of (map index (filter (is_there t) us)) (In r o.c (cells_at ts o.i)) ≡ Some vs
    pub typed : list_all (member o.c) vs ≡ true
    pub orderly : list_all (orderly_in r o.c (cells_at ts o.i)) (map index (filter (is_there t) us)) ≡ true
    pub flags_over : same_axes (drop (length o.i) t.axes) axes ≡ true
    pub over : (j : List ℤ) → length j ≡ length axes → over_axes (o.i ++ j) (axes_of r o.c) ts ≡ true

  abbrev Own : Tables → Cells
  Own ts = cells_at ts o.i

  made-kept : (t : Table) (ts : Tables) (ys : List Value) → look env.cells f ≡ Some t → tables_in env.cells names ≡ Some ts →
      o.tables ≡ t ∷ ts → ys ≡ filter (is_there t) us → tidy (repr k (more_reprs r no_reprs)) (functions o.ks o.d o.c) (t ∷ ts) o.i ≡ true →
      FunctionStands k r o.ks o.d o.c index (Own (t ∷ ts)) ys → Kept
  made-kept t ts ys a b e q h z = let s = subst (λ l. FunctionStands k r o.ks o.d o.c index (Own (t ∷ ts)) l) q z in
      let over = partial-over k r o.ks o.d o.c axes o.i index is_layer t ts h in
      let child : child_part k (Own (t ∷ ts)) ≡ Own ts = ap (λ w. drop w (Own (t ∷ ts))) own-one in record {
        t = t;
        ts = ts;
        vs = s.vs;
        is_table = a;
        are_tables = b;
        is_value = view-is (repr k (more_reprs r no_reprs)) ms es dd ce (f ∷ names) js env o
            ∙ ap (λ l. value_of_tables (repr k (more_reprs r no_reprs)) (functions o.ks o.d o.c) l o.i) e ∙ s.is_value;
        values = ap (λ z. each_of (map index (filter (is_there t) us)) (In r o.c z)) (sym child) ∙ s.values;
        typed = s.typed;
        orderly = ap (λ z. list_all (orderly_in r o.c z) (map index (filter (is_there t) us))) (sym child) ∙ s.orderly;
        flags_over = over.0;
        over = over.1;
      }

  kept : Kept
  kept = let list-is : member_list o.d ≡ us = ap list_or_none us-are in
      let w = tables-split f names env o.tables o.tables_are in
      let h : tidy (repr k (more_reprs r no_reprs)) (functions o.ks o.d o.c) (w.0 ∷ w.1) o.i ≡ true =
      ap (λ l. tidy (repr k (more_reprs r no_reprs)) (functions o.ks o.d o.c) l o.i) (sym w.4) ∙ o.is_tidy in
      let s = partial-stands k r o.ks o.d o.c index axes (places ∙ ap (map index) (sym list-is)) (Own (w.0 ∷ w.1)) is_layer
      (and-right _ _ h) in
      made-kept w.0 w.1 s.0 w.2 w.3 w.4
      (chosen-picked (λ x. cell_at w.0 (o.i ++ index x)) us s.0
      (ap (λ l. chosen l (λ x. cell_at w.0 (o.i ++ index x))) (sym list-is)
      ∙ ap (λ z. chosen (member_list o.d) (λ x. own_cell (take z (Own (w.0 ∷ w.1))) (index x))) (sym own-one) ∙ s.1)) h s.2

  module _ (w : Value) (a : Ex) (a-is : meaning a env ≡ Some w) (told : (v : Value) → holds us v ≡ true → index v ≡ index w → v ≡ w) where
    -- Where its flag is true it is a member of the first domain.
    flagged-held : (s : Kept) → is_there s.t w ≡ true → holds us w ≡ true
    flagged-held s h = go (cell_at s.t (o.i ++ index w)) refl h
      where
        go : (p : Option ℤ) → cell_at s.t (o.i ++ index w) ≡ p → is_flag p ≡ true → holds us w ≡ true
        go None e h = no h
        go (Some z) e h = let u = place-member index (index w) us
            (ap (listed_in (index w)) (sym places) ∙ cell-place s.t axes o.i (index w) z s.flags_over e) in
            ap (holds us) (sym (told u.0 u.1 u.2)) ∙ u.1

    among : (s : Kept) → holds (filter (is_there s.t) us) w ≡ is_there s.t w
    among s = held-passing (is_there s.t) us w (flagged-held s)

    module _ (keys : Exs) (keys-are : indices (meanings keys env) ≡ Some (index w)) (keys-met : MeetsAll false keys env) where
      index-is : indices (meanings (append_exs js keys) env) ≡ Some (o.i ++ index w)
      index-is = ap indices (meanings-append js keys env)
          ∙ indices-append (meanings js env) (meanings keys env) o.i (index w) o.index_is keys-are

      flag-here : (s : Kept) → meaning (flag_at f js keys) env ≡ Some (truth (is_there s.t w))
      flag-here s = flag-value js keys env (o.i ++ index w) f s.t index-is s.is_table

      -- The flag there says whether it is an argument.
      pub flag-defines : (meaning (ex2 true Op2.Member a (fun1 false Fun.Defined View)) env ≡ meaning (flag_at f js keys) env)
          × Meets (flag_at f js keys) env
      flag-defines = let s = kept in (
        defined-is a View env w (filter (is_there s.t) us) s.vs a-is s.is_value
            (firsts-of index (In r o.c (cells_at s.ts o.i)) (filter (is_there s.t) us) s.vs s.values)
            ∙ ap (λ b. Some (truth b)) (among s) ∙ sym (flag-here s),
        append-met js keys env m.2 keys-met,
      )

      abbrev Res : Ex
      Res = result_at r ce names js keys

      abbrev Result-in : Kept → Option Value
      Result-in s = value_at (with_arguments (filter (is_there s.t) us) s.vs) w

      held-result : (s : Kept) → is_there s.t w ≡ true →
          Held o.c index (In r o.c (cells_at s.ts o.i)) (orderly_in r o.c (cells_at s.ts o.i)) w (Result-in s)
      held-result s h = held o.c index (In r o.c (cells_at s.ts o.i)) (orderly_in r o.c (cells_at s.ts o.i)) w
          (filter (is_there s.t) us) s.vs
          s.values s.typed s.orderly (among s ∙ h)

      view-here : (s : Kept) (h : is_there s.t w ≡ true) → meaning Res env ≡ Some (held-result s h).v
      view-here s h = let q = held-result s h in
          view-value ce js names r o.c s.ts env keys (o.i ++ index w) o.second_is s.are_tables index-is q.v
          (sym (place-value r o.c s.ts o.i (over-short r o.c axes o.i s.ts s.over) (index w)) ∙ q.there) q.typed

      one-item : (s : Kept) (b : Bool) → is_there s.t w ≡ b →
          option_map items_of (option_map list_value (where_true (Some (truth b)) (λ u. single (meaning Res env)))) ≡
          Some (found (Result-in s))
      one-item s true h = ap (λ p. option_map items_of (option_map list_value (single p))) (view-here s h)
          ∙ ap (λ p. Some (found p)) (sym (held-result s h).result)
      one-item s false h = ap (λ p. Some (found p)) (sym (no-result (filter (is_there s.t) us) s.vs w (among s ∙ h)))

      met-here : (s : Kept) → length (index w) ≡ length axes → is_there s.t w ≡ true → Meets Res env
      met-here s long h = let q = held-result s h in
          view-met ce js names r o.c s.ts env keys (o.i ++ index w) o.second_is s.are_tables index-is
          (place-tidy r o.c s.ts o.i (over-short r o.c axes o.i s.ts s.over) (index w) q.v
          (s.over (index w) long) q.there q.typed q.orderly)
          m.1.2 m.2 keys-met

      -- The view behind the flag is the result, or nothing.
      pub flag-looks : ((holds us w ≡ true) → length (index w) ≡ length axes) → (op : Op) → Applies op →
          Looked (node_ex false op (more_exs View (more_exs a no_exs))) (result_behind_flag r ce f names js keys) env
      flag-looks long op p = let s = kept in record {
        items = ap (λ z. option_map items_of (option_map list_value (where_true z (λ u. single (meaning Res env))))) (flag-here s)
            ∙ one-item s (is_there s.t w) refl
            ∙ ap (λ z. Some (found z)) (sym (ap (λ z. value_of_node op (z ∷ meaning a env ∷ [])) s.is_value
            ∙ p (filter (is_there s.t) us) s.vs (meaning a env)
            ∙ ap (λ z. and_then z (value_at (with_arguments (filter (is_there s.t) us) s.vs))) a-is));
        met = (
          append-met js keys env m.2 keys-met,
          λ z. let h = sym (ap as_truth (flag-here s)) ∙ z in met-here s (long (flagged-held s h)) h,
        );
      }
