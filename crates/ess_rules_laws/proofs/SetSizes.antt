-- The sizes of views of sets in slots.
use Rattle.std.proofs.Common.{◌≡◌, refl, sym, ap, ◌∙◌, ℕ, zero, suc, ◌≤◌, Bool, true, false, if◌then◌else◌, List, [], ◌∷◌, ◌++◌, map, take, length, ℤ, pos, negsuc, Option, Some, None, option_map, nat_le, arith}
use Rattle.std.proofs.lemmas.Bool.{leb-true}
use Rattle.ess_semantics.specs.declared.words.Op1.{Op1}
use Rattle.ess_semantics.specs.declared.words.ReprKind.{ReprKind}
use Rattle.ess_semantics.specs.Lists.{and_then, each_of, is_some_and}
use Rattle.ess_semantics.specs.Values.{Text, Value, number, itself}
use Rattle.ess_semantics.specs.Collections.{no_twice, set_of, sorted_once}
use Rattle.ess_semantics.specs.Names.{look}
use Rattle.ess_semantics.specs.Numbers.{natural, one_to}
use Rattle.ess_semantics.specs.Attributes.{set_attributes_hold}
use Rattle.ess_semantics.specs.Trees.{unary, Mark, Repr, repr, no_reprs, more_reprs, Ex, Exs, cell_ex, seen_ex, ex1, Dom, set_dom}
use Rattle.ess_semantics.specs.Domains.{Attribute, Domain, sets, lists_of}
use Rattle.ess_semantics.specs.Operators.{value_of_node}
use Rattle.ess_semantics.specs.Tables.{Table, Tables, cell_at}
use Rattle.ess_semantics.specs.Cells.{cells_at}
use Rattle.ess_semantics.specs.Layers.{all_slots, up_to_marker, no_own_tables, fixed_table, up_to, own_cell, within_slots}
use Rattle.ess_semantics.specs.SetLayers.{marker_table}
use Rattle.ess_semantics.specs.Sizes.{slots_of_set}
use Rattle.ess_semantics.specs.Tidy.{tidy}
use Rattle.ess_semantics.specs.Representations.{value_of_tables}
use Rattle.ess_semantics.specs.Meaning.{Env, meaning, meanings, attributes_of, domain_of, indices, tables_in, seen_in, cell_value, cell_in}
use Rattle.ess_semantics.specs.Meets.{Meets, tidy_in}
use Rattle.ess_semantics.specs.Kept.{Keeps}
use Rattle.ess_semantics.proofs.Tests.{and-right, run-length}
use Rattle.ess_semantics.proofs.Orders.{to_list-of_list}
use Rattle.ess_semantics.proofs.Sorting.{sorted_once-length, twice-distinct}
use Rattle.ess_rules_laws.specs.SlotListings.{SlotsAre}
use Rattle.ess_rules_laws.specs.SetSizes.{size_by_marker, size_by_slots, SizeOf}
use Rattle.ess_rules_laws.proofs.RuleAnswers.{AnswerKeeps, fires}
use Rattle.ess_rules_laws.proofs.SlotNumbers.{as_place, slots-are}
use Rattle.ess_rules_laws.proofs.SlotSets.{slots-stand}
use Rattle.ess_rules_laws.proofs.FunctionViewParts.{tables-split}

no : {A : Type 0} → false ≡ true → A
no h = cc

-- ---- lists

-- As many answers as items.
each-long : (f : List ℤ → Option Value) (js : List (List ℤ)) (vs : List Value) → each_of js f ≡ Some vs → length vs ≡ length js
each-long f [] vs q = sym (ap length (let e : [] ≡ vs = cc in e))
each-long f (j ∷ js) vs q = go (f j) (each_of js f) refl q (λ us e. each-long f js us e)
  where
    go : (o : Option Value) (p : Option (List Value)) → each_of js f ≡ p → and_then o (λ v. option_map (λ us. v ∷ us) p) ≡ Some vs →
        ((us : List Value) → each_of js f ≡ Some us → length us ≡ length js) → length vs ≡ suc (length js)
    go None p e q r = cc
    go (Some v) None e q r = cc
    go (Some v) (Some us) e q r = sym (ap length (let z : v ∷ us ≡ vs = cc in z)) ∙ ap suc (r us e)

take-long : {A : Type 0} (n : ℕ) (xs : List A) → n ≤ length xs → length (take n xs) ≡ n
take-long zero xs h = refl
take-long (suc n) [] h = absurd (omega arith)
take-long (suc n) (x ∷ xs) h = ap suc (take-long n xs (omega arith))

map-long : (ks : List ℤ) → length (map as_place ks) ≡ length ks
map-long [] = refl
map-long (k ∷ ks) = ap suc (map-long ks)

places-long : (n : ℕ) → length (lists_of (one_to n ∷ [])) ≡ n
places-long n = ap length (slots-are (one_to n)) ∙ map-long (one_to n) ∙ run-length 1 n

-- A marker that is there says how many places are in use.
marker-counts : (o : Option ℤ) (ps js : List (List ℤ)) → and_then o (λ m. option_map (λ n. take n ps) (within_slots m (length ps))) ≡
    Some js →
    o ≡ Some (pos (length js))
marker-counts None ps js e = cc
marker-counts (Some (negsuc k)) ps js e = cc
marker-counts (Some (pos q)) ps js e = go (nat_le q (length ps)) refl e
  where
    go : (b : Bool) → nat_le q (length ps) ≡ b → option_map (λ n. take n ps) (if b then Some q else None) ≡ Some js →
        Some (pos q) ≡ Some (pos (length js))
    go true h e = ap (λ n. Some (pos n)) (sym (take-long q ps (leb-true q (length ps) h)) ∙ ap length (let z : take q ps ≡ js = cc in z))
    go false h e = cc

-- The size of a set of different values.
size-is : (v : Ex) (env : Env) (vs : List Value) → meaning v env ≡ Some (set_of vs) → no_twice itself vs ≡ true →
    meaning (ex1 false Op1.Bar v) env ≡ Some (number (pos (length vs)))
size-is v env vs q h = ap (λ o. value_of_node (unary Op1.Bar) (o ∷ [])) q
    ∙ ap (λ l. Some (number (pos (length l)))) (to_list-of_list (sorted_once vs))
    ∙ ap (λ n. Some (number (pos n))) (sorted_once-length vs (twice-distinct vs h))

nothing-behind : (i : List ℤ) → i ++ [] ≡ i
nothing-behind [] = refl
nothing-behind (k ∷ i) = ap (λ l. k ∷ l) (nothing-behind i)

-- ---- views of sets

module _ (R : Repr) (ms : List Mark) (es : Exs) (dd : Dom) (names : List Text) (js : Exs) (env : Env) where
  abbrev View : Ex
  View = seen_ex R (set_dom ms es dd) names js

  -- The parts of a view whose structure is met.
  record Parts : Type 0 where
    pub ks : List Attribute
    pub d : Domain
    pub ts : Tables
    pub i : List ℤ
    pub attributes_are : attributes_of ms (meanings es env) ≡ Some ks
    pub domain_is : domain_of dd env ≡ Some d
    pub tables_are : tables_in env.cells names ≡ Some ts
    pub index_is : indices (meanings js env) ≡ Some i
    pub is_tidy : tidy R (sets ks d) ts i ≡ true

  parts-of : (a : Option (List Attribute)) (o : Option Domain) (t : Option Tables) (k : Option (List ℤ)) →
      attributes_of ms (meanings es env) ≡ a → domain_of dd env ≡ o → tables_in env.cells names ≡ t → indices (meanings js env) ≡ k →
      tidy_in R (and_then a (λ ks. option_map (sets ks) o)) t k ≡ true → Parts
  parts-of (Some ks) (Some d) (Some ts) (Some i) p q r s h = record {
    ks = ks;
    d = d;
    ts = ts;
    i = i;
    attributes_are = p;
    domain_is = q;
    tables_are = r;
    index_is = s;
    is_tidy = h;
  }
  parts-of (Some ks) (Some d) (Some ts) None p q r s h = no h
  parts-of (Some ks) (Some d) None k p q r s h = no h
  parts-of (Some ks) None t k p q r s h = no h
  parts-of None o t k p q r s h = no h

  parts : Meets View env → Parts
  parts m = parts-of (attributes_of ms (meanings es env)) (domain_of dd env) (tables_in env.cells names) (indices (meanings js env))
      refl refl refl refl m.0

  view-is : (p : Parts) → meaning View env ≡ value_of_tables R (sets p.ks p.d) p.ts p.i
  view-is p =
      ap (λ o. seen_in R (and_then o (λ ks. option_map (sets ks) (domain_of dd env))) (tables_in env.cells names)
      (indices (meanings js env)))
      p.attributes_are
      ∙ ap (λ o. seen_in R (option_map (sets p.ks) o) (tables_in env.cells names) (indices (meanings js env))) p.domain_is
      ∙ ap (λ o. seen_in R (Some (sets p.ks p.d)) o (indices (meanings js env))) p.tables_are
      ∙ ap (seen_in R (Some (sets p.ks p.d)) (Some p.ts)) p.index_is

  set-is : (p : Parts) → domain_of (set_dom ms es dd) env ≡ Some (sets p.ks p.d)
  set-is p = ap (λ o. and_then o (λ ks. option_map (sets ks) (domain_of dd env))) p.attributes_are ∙ ap (option_map (sets p.ks)) p.domain_is

-- ---- the marker

module _ (r : Repr) (ms : List Mark) (es : Exs) (dd : Dom) (m : Text) (ns : List Text) (js : Exs) (env : Env) where
  abbrev R : Repr
  R = repr ReprKind.ExplicitVarSizeWithMarker (more_reprs r no_reprs)

  abbrev Marked : Ex
  Marked = seen_ex R (set_dom ms es dd) (m ∷ ns) js

  marked-size : (p : Parts R ms es dd (m ∷ ns) js env) (t : Table) (ts : Tables) → look env.cells m ≡ Some t → p.ts ≡ t ∷ ts →
      tidy R (sets p.ks p.d) (t ∷ ts) p.i ≡ true → meaning (ex1 false Op1.Bar Marked) env ≡ meaning (cell_ex false m js) env
  marked-size p t ts a e h =
      let s = slots-stand ReprKind.ExplicitVarSizeWithMarker r p.ks p.d (slots_of_set p.ks p.d) up_to_marker
      (fixed_table [] (up_to (slots_of_set p.ks p.d)) ∷ []) marker_table
      (λ c vss. is_some_and (own_cell c []) (λ m. set_attributes_hold p.ks (natural m))) refl (cells_at (t ∷ ts) p.i)
      (and-right _ _ h) in
      let c : cell_at t (p.i ++ []) ≡ Some (pos (length s.js)) =
      marker-counts (cell_at t (p.i ++ [])) (lists_of (one_to (slots_of_set p.ks p.d) ∷ [])) s.js s.places in
      size-is Marked env s.vs
      (view-is R ms es dd (m ∷ ns) js env p ∙ ap (λ l. value_of_tables R (sets p.ks p.d) l p.i) e ∙ s.is_value) s.differ
      ∙ ap (λ n. Some (number (pos n))) (each-long _ s.js s.vs s.values)
      ∙ sym (ap (λ o. cell_in false o (indices (meanings js env))) a ∙ ap (cell_in false (Some t)) p.index_is
      ∙ ap (option_map (cell_value false)) (ap (cell_at t) (sym (nothing-behind p.i)) ∙ c))

  marker-size : Meets Marked env → meaning (ex1 false Op1.Bar Marked) env ≡ meaning (cell_ex false m js) env
  marker-size h = let p = parts R ms es dd (m ∷ ns) js env h in let w = tables-split m ns env p.ts p.tables_are in
      marked-size p w.0 w.1 w.2 w.4 (ap (λ l. tidy R (sets p.ks p.d) l p.i) (sym w.4) ∙ p.is_tidy)

marker-answer : (e : Ex) (env : Env) → AnswerKeeps (size_by_marker e) e env
marker-answer (ex1 false Op1.Bar (seen_ex (repr ReprKind.ExplicitVarSizeWithMarker (more_reprs r no_reprs)) (set_dom ms es d)
    (m ∷ ns) js)) env =
    λ h. (marker-size r ms es d m ns js env h.0, h.0.2)
marker-answer _ env = tt

-- The size of a set with a marker.
pub size_by_marker-keeps : (e f : Ex) → size_by_marker e ≡ Some f → (env : Env) → Keeps e f env
size_by_marker-keeps e f q env = fires (size_by_marker e) e f env (marker-answer e env) q

-- ---- all slots in use

slots-size : (r : Repr) (ms : List Mark) (es : Exs) (dd : Dom) (names : List Text) (js : Exs) (n : Ex) (env : Env) →
    Meets (seen_ex (repr ReprKind.Explicit (more_reprs r no_reprs)) (set_dom ms es dd) names js) env →
    SlotsAre n (seen_ex (repr ReprKind.Explicit (more_reprs r no_reprs)) (set_dom ms es dd) names js) env →
    meaning (ex1 false Op1.Bar (seen_ex (repr ReprKind.Explicit (more_reprs r no_reprs)) (set_dom ms es dd) names js)) env ≡ meaning n env
slots-size r ms es dd names js n env h c =
    let p = parts (repr ReprKind.Explicit (more_reprs r no_reprs)) ms es dd names js env h in
    let s = slots-stand ReprKind.Explicit r p.ks p.d (slots_of_set p.ks p.d) (all_slots (slots_of_set p.ks p.d)) [] no_own_tables
    (λ c vss. set_attributes_hold p.ks (slots_of_set p.ks p.d)) refl (cells_at p.ts p.i) (and-right _ _ p.is_tidy) in
    size-is (View (repr ReprKind.Explicit (more_reprs r no_reprs)) ms es dd names js env) env s.vs
    (view-is (repr ReprKind.Explicit (more_reprs r no_reprs)) ms es dd names js env p ∙ s.is_value) s.differ
    ∙ ap (λ n. Some (number (pos n))) (each-long _ s.js s.vs s.values
    ∙ ap length (sym (let z : lists_of (one_to (slots_of_set p.ks p.d) ∷ []) ≡ s.js =
    all-places (lists_of (one_to (slots_of_set p.ks p.d) ∷ [])) s.js s.places in z))
    ∙ places-long (slots_of_set p.ks p.d))
    ∙ sym (c.counts p.ks p.d (set-is (repr ReprKind.Explicit (more_reprs r no_reprs)) ms es dd names js env p))
  where
    all-places : (ps js : List (List ℤ)) → Some ps ≡ Some js → ps ≡ js
    all-places ps js q = cc

slots-answer : (n e : Ex) (env : Env) → SizeOf n e env → AnswerKeeps (size_by_slots n e) e env
slots-answer n (ex1 false Op1.Bar (seen_ex (repr ReprKind.Explicit (more_reprs r no_reprs)) (set_dom ms es d) ns js)) env c =
    λ h. (slots-size r ms es d ns js n env h.0 c, c.met)
slots-answer n _ env c = tt

-- The size of a set in slots all in use.
pub size_by_slots-keeps : (n e f : Ex) → size_by_slots n e ≡ Some f → (env : Env) → SizeOf n e env → Keeps e f env
size_by_slots-keeps n e f q env c = fires (size_by_slots n e) e f env (slots-answer n e env c) q
