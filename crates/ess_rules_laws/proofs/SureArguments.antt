-- A total function kept by argument at one of its arguments: the view there is the result, and the argument is defined.
use Rattle.std.proofs.Common.{◌≡◌, refl, sym, ap, ◌∙◌, subst, Bool, true, false, ◌||◌, if◌then◌else◌, List, [], ◌∷◌, ◌++◌, map, drop, length, ℤ, Option, Some, None, option_map}
use Rattle.std.specs.List.{list_all}
use Rattle.ess_semantics.specs.declared.words.Op2.{Op2}
use Rattle.ess_semantics.specs.declared.words.Fun.{Fun}
use Rattle.ess_semantics.specs.declared.words.ReprKind.{ReprKind}
use Rattle.ess_semantics.specs.Lists.{and_then, each_of, list_or_none}
use Rattle.ess_semantics.specs.Values.{Text, Value, truth, from_of, to_list, of_list}
use Rattle.ess_semantics.specs.Order.{same}
use Rattle.ess_semantics.specs.Collections.{holds, value_at, sorted_once}
use Rattle.ess_semantics.specs.Trees.{Op, binary, word, Mark, Repr, repr, no_reprs, more_reprs, Ex, Exs, node_ex, seen_ex, ex2, fun1, no_exs, more_exs, Dom, function_dom}
use Rattle.ess_semantics.specs.Domains.{Domain, functions, members, member_list, lists_of}
use Rattle.ess_semantics.specs.Membership.{member}
use Rattle.ess_semantics.specs.Operators.{value_of_node, false_where_undefined}
use Rattle.ess_semantics.specs.Cells.{Axes, cells_at}
use Rattle.ess_semantics.specs.FunctionLayers.{with_arguments, function_with, total_layer}
use Rattle.ess_semantics.specs.Representations.{layer, own_width, child_part}
use Rattle.ess_semantics.specs.Meaning.{Env, meaning, meanings, domain_of, indices}
use Rattle.ess_semantics.specs.Meets.{Meets, MeetsAll}
use Rattle.ess_semantics.proofs.Tests.{and-left, and-right}
use Rattle.ess_semantics.proofs.Orders.{same-equal, to_list-of_list}
use Rattle.ess_semantics.proofs.Sorting.{holds-sorted_once}
use Rattle.ess_rules_laws.specs.FunctionViews.{append_exs, result_at}
use Rattle.ess_rules_laws.specs.FunctionKeys.{fits_mark}
use Rattle.ess_rules_laws.proofs.SlotSets.{In, orderly_in}
use Rattle.ess_rules_laws.proofs.Results.{meanings-append, indices-append, bool-fits, place-value, place-tidy, view-value, view-met}
use Rattle.ess_rules_laws.proofs.FunctionCells.{FunctionStands, total-stands}
use Rattle.ess_rules_laws.proofs.FunctionViewParts.{Opened, view-is, total-over, over-short}
use Rattle.ess_rules_laws.proofs.FunctionViewLookups.{Applies}

no : {A : Type 0} → false ≡ true → A
no h = cc

-- ---- a result among others

module _ (c : Domain) (index : Value → List ℤ) (V : List ℤ → Option Value) (O : List ℤ → Bool) (w : Value) where
  -- The result at w is what stands behind its indices.
  pub record Held (p : Option Value) : Type 0 where
    pub v : Value
    pub there : V (index w) ≡ Some v
    pub typed : member c v ≡ true
    pub orderly : O (index w) ≡ true
    pub result : p ≡ Some v

  -- So it is where w is one of the arguments.
  pub held : (ys vs : List Value) → each_of (map index ys) V ≡ Some vs → list_all (member c) vs ≡ true → list_all O (map index ys) ≡ true →
      holds ys w ≡ true → Held (value_at (with_arguments ys vs) w)
  held [] vs q m o h = no h
  held (y ∷ ys) vs q m o h = go (V (index y)) refl (each_of (map index ys) V) refl q
      (λ us j n z. held ys us j n (and-right _ _ o) z)
    where
      Rest : Type 0
      Rest = (us : List Value) → each_of (map index ys) V ≡ Some us → list_all (member c) us ≡ true → holds ys w ≡ true →
          Held (value_at (with_arguments ys us) w)

      at : (v : Value) (us : List Value) → V (index y) ≡ Some v → each_of (map index ys) V ≡ Some us → list_all (member c) (v ∷ us) ≡ true →
          (b : Bool) → same y w ≡ b → b || holds ys w ≡ true → Rest → Held (if b then Some v else value_at (with_arguments ys us) w)
      at v us e j n true s h r = record {
        v = v;
        there = ap (λ z. V (index z)) (sym (same-equal y w s)) ∙ e;
        typed = and-left _ _ n;
        orderly = ap (λ z. O (index z)) (sym (same-equal y w s)) ∙ and-left _ _ o;
        result = refl;
      }
      at v us e j n false s h r = r us j (and-right _ _ n) h

      go : (a : Option Value) → V (index y) ≡ a → (p : Option (List Value)) → each_of (map index ys) V ≡ p →
          and_then a (λ v. option_map (λ us. v ∷ us) p) ≡ Some vs → Rest → Held (value_at (with_arguments (y ∷ ys) vs) w)
      go None e p j q r = cc
      go (Some v) e None j q r = cc
      go (Some v) e (Some us) j q r = let z : v ∷ us ≡ vs = cc in
          subst (λ l. Held (value_at (with_arguments (y ∷ ys) l) w)) z
          (at v us e j (ap (list_all (member c)) z ∙ m) (same y w) refl h r)

-- Arguments of results that are there.
pub firsts-of : (index : Value → List ℤ) (V : List ℤ → Option Value) (ys vs : List Value) → each_of (map index ys) V ≡ Some vs →
    map from_of (with_arguments ys vs) ≡ ys
firsts-of index V [] vs q = refl
firsts-of index V (y ∷ ys) vs q = go (V (index y)) (each_of (map index ys) V) refl q (λ us j. firsts-of index V ys us j)
  where
    go : (a : Option Value) (p : Option (List Value)) → each_of (map index ys) V ≡ p →
        and_then a (λ v. option_map (λ us. v ∷ us) p) ≡ Some vs →
        ((us : List Value) → each_of (map index ys) V ≡ Some us → map from_of (with_arguments ys us) ≡ ys) →
        map from_of (with_arguments (y ∷ ys) vs) ≡ y ∷ ys
    go None p j q r = cc
    go (Some v) None j q r = cc
    go (Some v) (Some us) j q r = ap (λ l. map from_of (with_arguments (y ∷ ys) l)) (sym (let z : v ∷ us ≡ vs = cc in z))
        ∙ ap (λ l. y ∷ l) (r us j)

-- Whether an argument is defined, from the function.
pub defined-is : (a f : Ex) (env : Env) (w : Value) (ys vs : List Value) → meaning a env ≡ Some w →
    meaning f env ≡ Some (function_with ys vs) →
    map from_of (with_arguments ys vs) ≡ ys →
    meaning (ex2 true Op2.Member a (fun1 false Fun.Defined f)) env ≡ Some (truth (holds ys w))
defined-is a f env w ys vs j q e =
    ap (λ o. false_where_undefined true (value_of_node (binary Op2.Member)
    (o ∷ value_of_node (word Fun.Defined) (meaning f env ∷ []) ∷ []))) j
    ∙ ap (λ o. false_where_undefined true (value_of_node (binary Op2.Member) (Some w ∷ value_of_node (word Fun.Defined) (o ∷ []) ∷ []))) q
    ∙ ap (λ l. Some (truth (holds (to_list (of_list (sorted_once (map from_of l)))) w))) (to_list-of_list (with_arguments ys vs))
    ∙ ap (λ l. Some (truth (holds (to_list (of_list (sorted_once l))) w))) e
    ∙ ap (λ l. Some (truth (holds l w))) (to_list-of_list (sorted_once ys))
    ∙ ap (λ b. Some (truth b)) (holds-sorted_once ys w)

-- A result that fits the mark of its place is there as it is.
pub mark-fits : (b : Bool) (ce : Dom) (c : Domain) (env : Env) (v : Value) → fits_mark b ce ≡ true → domain_of ce env ≡ Some c →
    member c v ≡ true → false_where_undefined b (Some v) ≡ Some v
mark-fits false ce c env v h q m = refl
mark-fits true ce c env v h q m = sym (ap (λ b. false_where_undefined b (Some v)) h) ∙ bool-fits ce c env v q m

-- ---- a total function

module _ (index : Value → List ℤ) (k : ReprKind) (r : Repr) (ms : List Mark) (es : Exs) (dd ce : Dom) (js : Exs) (env : Env) (axes : Axes)
    (names : List Text) (o : Opened (repr k (more_reprs r no_reprs)) ms es dd ce names js env)
    (is_layer : layer k (functions o.ks o.d o.c) ≡ Some (total_layer o.ks axes o.d o.c))
    (own-none : own_width k ≡ 0) (us : List Value) (us-are : members o.d ≡ Some us) (places : lists_of axes ≡ map index us)
    (m : Meets (seen_ex (repr k (more_reprs r no_reprs)) (function_dom ms es dd ce) names js) env) where
  abbrev View : Ex
  View = seen_ex (repr k (more_reprs r no_reprs)) (function_dom ms es dd ce) names js

  abbrev Child : List ℤ → Option Value
  Child = In r o.c (cells_at o.tables o.i)

  -- What it has at its arguments.
  record Kept : Type 0 where
    pub vs : List Value
    pub is_value : meaning View env ≡ Some (function_with us vs)
    pub values : each_of (map index us) Child ≡ Some vs
    pub typed : list_all (member o.c) vs ≡ true
    pub orderly : list_all (orderly_in r o.c (cells_at o.tables o.i)) (map index us) ≡ true

  kept : Kept
  kept = let list-is : member_list o.d ≡ us = ap list_or_none us-are in
      let s = subst (λ l. FunctionStands k r o.ks o.d o.c index (cells_at o.tables o.i) l) list-is
      (total-stands k r o.ks o.d o.c index axes (places ∙ ap (map index) (sym list-is)) (cells_at o.tables o.i) is_layer
      (and-right _ _ o.is_tidy)) in
      let child : child_part k (cells_at o.tables o.i) ≡ cells_at o.tables o.i =
      ap (λ w. drop w (cells_at o.tables o.i)) own-none in record {
        vs = s.vs;
        is_value = view-is (repr k (more_reprs r no_reprs)) ms es dd ce names js env o ∙ s.is_value;
        values = ap (λ z. each_of (map index us) (In r o.c z)) (sym child) ∙ s.values;
        typed = s.typed;
        orderly = ap (λ z. list_all (orderly_in r o.c z) (map index us)) (sym child) ∙ s.orderly;
      }

  module _ (w : Value) (a : Ex) (a-is : meaning a env ≡ Some w) (w-held : holds us w ≡ true) where
    -- Its arguments are defined.
    pub sure-defined : meaning (ex2 true Op2.Member a (fun1 false Fun.Defined View)) env ≡ Some (truth true)
    sure-defined = let s = kept in
        defined-is a View env w us s.vs a-is s.is_value (firsts-of index Child us s.vs s.values) ∙ ap (λ b. Some (truth b)) w-held

    module _ (keys : Exs) (keys-are : indices (meanings keys env) ≡ Some (index w)) (long : length (index w) ≡ length axes)
        (keys-met : MeetsAll false keys env) where
      index-is : indices (meanings (append_exs js keys) env) ≡ Some (o.i ++ index w)
      index-is = ap indices (meanings-append js keys env)
          ∙ indices-append (meanings js env) (meanings keys env) o.i (index w) o.index_is keys-are

      -- The view there is the result.
      pub sure-result : (op : Op) → Applies op → (b : Bool) → fits_mark b ce ≡ true →
          (meaning (node_ex b op (more_exs View (more_exs a no_exs))) env ≡ meaning (result_at r ce names js keys) env)
          × Meets (result_at r ce names js keys) env
      sure-result op p b f = let s = kept in
          let h = held o.c index Child (orderly_in r o.c (cells_at o.tables o.i)) w us s.vs s.values s.typed s.orderly w-held in
          let over = total-over k r o.ks o.d o.c axes o.i is_layer o.tables o.is_tidy in
          let short = over-short r o.c axes o.i o.tables over in (
            ap (λ z. false_where_undefined b (value_of_node op (z ∷ meaning a env ∷ []))) s.is_value
                ∙ ap (false_where_undefined b) (p us s.vs (meaning a env))
                ∙ ap (λ z. false_where_undefined b (and_then z (value_at (with_arguments us s.vs)))) a-is
                ∙ ap (false_where_undefined b) h.result
                ∙ mark-fits b ce o.c env h.v f o.second_is h.typed
                ∙ sym (view-value ce js names r o.c o.tables env keys (o.i ++ index w) o.second_is o.tables_are index-is h.v
                (sym (place-value r o.c o.tables o.i short (index w)) ∙ h.there) h.typed),
            view-met ce js names r o.c o.tables env keys (o.i ++ index w) o.second_is o.tables_are index-is
                (place-tidy r o.c o.tables o.i short (index w) h.v (over (index w) long) h.there h.typed h.orderly) m.1.2 m.2 keys-met,
          )
