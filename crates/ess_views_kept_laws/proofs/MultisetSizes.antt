-- The size of a view of a multiset in slots up to a marker is the marker.
use Rattle.std.proofs.Common.{◌≡◌, refl, sym, ap, ◌∙◌, ℕ, zero, suc, ◌≤◌, Bool, true, false, if◌then◌else◌, List, [], ◌∷◌, ◌++◌, take, length, ℤ, pos, negsuc, Option, Some, None, option_map, nat_le, arith}
use Rattle.std.proofs.lemmas.Bool.{leb-true}
use Rattle.ess_semantics.specs.declared.words.Op1.{Op1}
use Rattle.ess_semantics.specs.declared.words.ReprKind.{ReprKind}
use Rattle.ess_semantics.specs.Lists.{and_then, each_of}
use Rattle.ess_semantics.specs.Values.{Text, Value, number}
use Rattle.ess_semantics.specs.Collections.{mset_of, sorted}
use Rattle.ess_semantics.specs.Numbers.{one_to}
use Rattle.ess_semantics.specs.Trees.{unary, Mark, Repr, repr, no_reprs, more_reprs, Ex, Exs, cell_ex, seen_ex, ex1, Dom, mset_dom}
use Rattle.ess_semantics.specs.Domains.{Attribute, Domain, msets, lists_of}
use Rattle.ess_semantics.specs.Operators.{value_of_node}
use Rattle.ess_semantics.specs.Sizes.{slots_of_mset}
use Rattle.ess_semantics.specs.Tables.{Table, Tables, cell_at}
use Rattle.ess_semantics.specs.Cells.{cells_at}
use Rattle.ess_semantics.specs.Layers.{within_slots, only_child}
use Rattle.ess_semantics.specs.Representations.{child_part, value_of_tables}
use Rattle.ess_semantics.specs.Meaning.{Env, meaning, meanings, attributes_of, domain_of, indices, cell_value, cell_in}
use Rattle.ess_semantics.specs.Meets.{Meets}
use Rattle.ess_semantics.proofs.Orders.{to_list-of_list}
use Rattle.ess_semantics.proofs.Multisets.{sorted-length}
use Rattle.ess_rules_laws.proofs.FunctionViewParts.{tables-split}
use Rattle.ess_rules_laws.proofs.SlotSets.{In}
use Rattle.ess_views_kept_laws.proofs.OpenedViews.{opened, opened-means, opened-value}
use Rattle.ess_views_kept_laws.proofs.NumberedMembers.{mset-parts}

each-long : (f : List ℤ → Option Value) (js : List (List ℤ)) (vs : List Value) → each_of js f ≡ Some vs → length vs ≡ length js
each-long f [] vs q = sym (ap length (let e : [] ≡ vs = cc in e))
each-long f (j ∷ js) vs q = go (f j) (each_of js f) refl q (λ us e. each-long f js us e)
  where
    go : (o : Option Value) (p : Option (List Value)) → each_of js f ≡ p → and_then o (λ v. option_map (λ us. v ∷ us) p) ≡ Some vs →
        ((us : List Value) → each_of js f ≡ Some us → length us ≡ length js) → length vs ≡ suc (length js)
    go None p e q r = cc
    go (Some v) None e q r = cc
    go (Some v) (Some us) e q r = sym (ap length (let z : v ∷ us ≡ vs = cc in z)) ∙ ap suc (r us e)

take-long : {A : Type 0} (n : ℕ) (xs : List A) → n ≤ length xs → length (take n xs) ≡ n
take-long zero xs h = refl
take-long (suc n) [] h = absurd (omega arith)
take-long (suc n) (x ∷ xs) h = ap suc (take-long n xs (omega arith))

-- A marker that is there says how many places are in use.
marker-counts : (o : Option ℤ) (ps js : List (List ℤ)) → and_then o (λ m. option_map (λ n. take n ps) (within_slots m (length ps))) ≡
    Some js →
    o ≡ Some (pos (length js))
marker-counts None ps js e = cc
marker-counts (Some (negsuc k)) ps js e = cc
marker-counts (Some (pos q)) ps js e = go (nat_le q (length ps)) refl e
  where
    go : (b : Bool) → nat_le q (length ps) ≡ b → option_map (λ n. take n ps) (if b then Some q else None) ≡ Some js →
        Some (pos q) ≡ Some (pos (length js))
    go true h e = ap (λ n. Some (pos n)) (sym (take-long q ps (leb-true q (length ps) h)) ∙ ap length (let z : take q ps ≡ js = cc in z))
    go false h e = cc

nothing-behind : (i : List ℤ) → i ++ [] ≡ i
nothing-behind [] = refl
nothing-behind (k ∷ i) = ap (λ l. k ∷ l) (nothing-behind i)

module _ (r : Repr) (ms : List Mark) (es : Exs) (dd : Dom) (m : Text) (ns : List Text) (js : Exs) (env : Env) where
  abbrev R : Repr
  R = repr ReprKind.MSetExplicitWithRepetition (more_reprs r no_reprs)

  abbrev View : Ex
  View = seen_ex R (mset_dom ms es dd) (m ∷ ns) js

  -- What the tables stand for, with its marker.
  record Counted (t : Table) (i : List ℤ) (w : Value) : Type 0 where
    pub vs : List Value
    pub whole : w ≡ mset_of vs
    pub marker : cell_at t (i ++ []) ≡ Some (pos (length vs))

  counted : (ks : List Attribute) (d : Domain) (t : Table) (ts : Tables) (i : List ℤ) (w : Value) →
      value_of_tables R (msets ks d) (t ∷ ts) i ≡ Some w → Counted t i w
  counted ks d t ts i w q = places (and_then (cell_at t (i ++ [])) (λ m. option_map (λ n. take n P) (within_slots m (length P)))) refl q
    where
      P : List (List ℤ)
      P = lists_of (one_to (slots_of_mset ks d) ∷ [])

      V : List ℤ → Option Value
      V = In r d (child_part ReprKind.MSetExplicitWithRepetition (cells_at (t ∷ ts) i))

      values : (ps : List (List ℤ)) → cell_at t (i ++ []) ≡ Some (pos (length ps)) → (o : Option (List Value)) → each_of ps V ≡ o →
          and_then (and_then o (λ vs. Some (vs ∷ []))) (λ vss. Some (mset_of (only_child vss))) ≡ Some w → Counted t i w
      values ps c None e q = cc
      values ps c (Some vs) e q = record {
        vs = vs;
        whole = sym (let z : mset_of vs ≡ w = cc in z);
        marker = c ∙ ap (λ n. Some (pos n)) (sym (each-long V ps vs e));
      }

      places : (o : Option (List (List ℤ))) →
          and_then (cell_at t (i ++ [])) (λ m. option_map (λ n. take n P) (within_slots m (length P))) ≡ o →
          and_then o (λ ps. and_then (and_then (each_of ps V) (λ vs. Some (vs ∷ []))) (λ vss. Some (mset_of (only_child vss)))) ≡ Some w →
          Counted t i w
      places None e q = cc
      places (Some ps) e q = values ps (marker-counts (cell_at t (i ++ [])) P ps e) (each_of ps V) refl q

  -- The marker is the size.
  pub marker-size : Meets View env → meaning (ex1 false Op1.Bar View) env ≡ meaning (cell_ex false m js) env
  marker-size h = let o = opened R (mset_dom ms es dd) (m ∷ ns) js env h in
      let d = mset-parts (attributes_of ms (meanings es env)) (domain_of dd env) o.d o.domain_is in
      let s = tables-split m ns env o.ts o.tables_are in
      let v = opened-value R (mset_dom ms es dd) (m ∷ ns) js env o in
      let c = counted d.0 d.1 s.0 s.1 o.i v.0
      (ap (λ z. value_of_tables R z (s.0 ∷ s.1) o.i) (sym d.2) ∙ ap (λ z. value_of_tables R o.d z o.i) (sym s.4) ∙ v.1) in
      ap (λ z. value_of_node (unary Op1.Bar) (z ∷ [])) (opened-means R (mset_dom ms es dd) (m ∷ ns) js env refl o ∙ v.1 ∙ ap Some c.whole)
      ∙ ap (λ l. Some (number (pos (length l)))) (to_list-of_list (sorted c.vs))
      ∙ ap (λ n. Some (number (pos n))) (sorted-length c.vs)
      ∙ sym (ap (λ z. cell_in false z (indices (meanings js env))) s.2 ∙ ap (cell_in false (Some s.0)) o.index_is
      ∙ ap (option_map (cell_value false)) (ap (cell_at s.0) (sym (nothing-behind o.i)) ∙ c.marker))
