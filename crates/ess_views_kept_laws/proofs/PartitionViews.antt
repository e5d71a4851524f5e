-- Views of partitions that are kept by the number of each member's part: the number of parts, and the members.
use Rattle.std.proofs.Common.{◌≡◌, refl, sym, ap, ◌∙◌, ℕ, Bool, true, false, ◌&&◌, not, if◌then◌else◌, List, [], ◌∷◌, ◌++◌, map, length, ℤ, pos, negsuc, Option, Some, None, option_map}
use Rattle.std.specs.List.{list_all}
use Rattle.ess_semantics.specs.declared.words.Op1.{Op1}
use Rattle.ess_semantics.specs.declared.words.Fun.{Fun}
use Rattle.ess_semantics.specs.declared.words.ReprKind.{ReprKind}
use Rattle.ess_semantics.specs.Lists.{and_then, each_of, when}
use Rattle.ess_semantics.specs.Values.{a_partition, Text, Value, number, node, of_list}
use Rattle.ess_semantics.specs.Collections.{set_of, sorted_once, partition_of, has_empty_part, has_overlap}
use Rattle.ess_semantics.specs.Names.{look}
use Rattle.ess_semantics.specs.Numbers.{one_to}
use Rattle.ess_semantics.specs.Trees.{unary, word, Mark, Repr, repr, no_reprs, Ex, Exs, cell_ex, seen_ex, ex1, fun1, Dom, partition_dom}
use Rattle.ess_semantics.specs.Domains.{member_list}
use Rattle.ess_semantics.specs.Operators.{value_of_node}
use Rattle.ess_semantics.specs.Tables.{Table, Tables, cell_at, code}
use Rattle.ess_semantics.specs.PartitionLayers.{members_numbered, is_part_number, partition_from_numbers}
use Rattle.ess_semantics.specs.Representations.{value_of_tables}
use Rattle.ess_semantics.specs.Meaning.{Env, meaning, meanings, attributes_of, domain_of, indices, tables_in, cell_value, cell_in}
use Rattle.ess_semantics.specs.Meets.{Meets}
use Rattle.ess_semantics.specs.Kept.{Keeps}
use Rattle.ess_semantics.proofs.Tests.{and-left, and-right, not-true}
use Rattle.ess_semantics.proofs.Orders.{to_list-of_list}
use Rattle.ess_semantics.proofs.Overlaps.{apart-distinct, no-overlap}
use Rattle.ess_semantics.proofs.Sorting.{sorted_once-itself, sorted_once-rises, sorted_once-length}
use Rattle.ess_repr_laws.proofs.PartNumbers.{parts-length}
use Rattle.ess_rules_laws.proofs.FunctionViewParts.{tables-split}
use Rattle.ess_rules_laws.proofs.RuleAnswers.{AnswerKeeps, fires}
use Rattle.ess_views_laws.specs.PartitionViews.{number_of_parts}
use Rattle.ess_views_kept_laws.proofs.OpenedViews.{opened, opened-means, opened-value}
use Rattle.ess_views_kept_laws.proofs.ChildViews.{partition-parts}

-- ---- numbered parts

-- A partition of so many parts.
record Parted (n : ℕ) (w : Value) : Type 0 where
  pub parts : List Value
  pub whole : w ≡ node a_partition (of_list (sorted_once parts))
  pub long : length (sorted_once parts) ≡ n

parted-by : (xs : List Value) (ws : List ℤ) (n : ℕ) (w : Value) → partition_from_numbers xs ws (pos n) ≡ Some w → Parted n w
parted-by xs ws n w q = go (list_all (is_part_number n) ws) q
  where
    P : List Value
    P = map (λ k. set_of (members_numbered xs ws k)) (one_to n)

    made : (b : Bool) → not (has_empty_part P) && not (has_overlap P) ≡ b → when b (node a_partition (of_list (sorted_once P))) ≡ Some w →
        Parted n w
    made false e q = cc
    made true e q = record {
      parts = P;
      whole = sym (let z : node a_partition (of_list (sorted_once P)) ≡ w = cc in z);
      long = sorted_once-length P (apart-distinct P (not-true (has_empty_part P) (and-left _ _ e)) (no-overlap P (and-right _ _ e)))
          ∙ parts-length (λ k. set_of (members_numbered xs ws k)) 1 n;
    }

    go : (b : Bool) → (if b then partition_of P else None) ≡ Some w → Parted n w
    go false q = cc
    go true q = made (not (has_empty_part P) && not (has_overlap P)) refl q

-- The cell of the number, and the partition of so many parts.
record Counted (o : Option ℤ) (w : Value) : Type 0 where
  pub count : ℕ
  pub cell : o ≡ Some (pos count)
  pub parted : Parted count w

counted : (o : Option ℤ) (p : Option (List ℤ)) (xs : List Value) (w : Value) →
    and_then o (λ n. and_then p (λ ws. partition_from_numbers xs ws n)) ≡ Some w → Counted o w
counted None p xs w q = cc
counted (Some z) None xs w q = cc
counted (Some (negsuc n)) (Some ws) xs w q = cc
counted (Some (pos n)) (Some ws) xs w q = record { count = n; cell = refl; parted = parted-by xs ws n w q }

nothing-behind : (i : List ℤ) → i ++ [] ≡ i
nothing-behind [] = refl
nothing-behind (k ∷ i) = ap (λ l. k ∷ l) (nothing-behind i)

-- ---- the number of parts

module _ (ms : List Mark) (es : Exs) (dd : Dom) (m w : Text) (js : Exs) (env : Env) where
  abbrev R : Repr
  R = repr ReprKind.PartitionOccurrence no_reprs

  abbrev pub View : Ex
  View = seen_ex R (partition_dom ms es dd) (m ∷ w ∷ []) js

  -- The two tables.
  two-tables : (ts : Tables) → tables_in env.cells (m ∷ w ∷ []) ≡ Some ts →
      (t : Table) × (u : Table) × (look env.cells m ≡ Some t) × (ts ≡ t ∷ u ∷ [])
  two-tables ts q = let s = tables-split m (w ∷ []) env ts q in let r = tables-split w [] env s.1 s.3 in (
    s.0,
    r.0,
    s.2,
    s.4 ∙ ap (λ l. s.0 ∷ l) (r.4 ∙ ap (λ l. r.0 ∷ l)
        (let e : [] ≡ r.1 = let z : Some [] ≡ Some r.1 = r.3 in cc in sym e)),
  )

  parts-counted : Meets View env →
      meaning (ex1 false Op1.Bar (fun1 false Fun.Parts View)) env ≡ meaning (cell_ex false m js) env
  parts-counted h = let o = opened R (partition_dom ms es dd) (m ∷ w ∷ []) js env h in
      let d = partition-parts (attributes_of ms (meanings es env)) (domain_of dd env) o.d o.domain_is in
      let t = two-tables o.ts o.tables_are in
      let v = opened-value R (partition_dom ms es dd) (m ∷ w ∷ []) js env o in
      let c = counted (cell_at t.0 (o.i ++ [])) (each_of (member_list d.1) (λ x. cell_at t.1 (o.i ++ (code x ∷ [])))) (member_list d.1) v.0
      (ap (λ z. value_of_tables R z (t.0 ∷ t.1 ∷ []) o.i) (sym d.2) ∙ ap (λ z. value_of_tables R o.d z o.i) (sym t.3) ∙ v.1) in
      let P = c.parted.parts in
      ap (λ z. value_of_node (unary Op1.Bar) (value_of_node (word Fun.Parts) (z ∷ []) ∷ []))
      (opened-means R (partition_dom ms es dd) (m ∷ w ∷ []) js env refl o ∙ v.1 ∙ ap Some c.parted.whole)
      ∙ ap (λ l. value_of_node (unary Op1.Bar) (Some (set_of l) ∷ [])) (to_list-of_list (sorted_once P))
      ∙ ap (λ l. Some (number (pos (length l)))) (to_list-of_list (sorted_once (sorted_once P))
      ∙ sorted_once-itself (sorted_once P) (sorted_once-rises P))
      ∙ ap (λ n. Some (number (pos n))) c.parted.long
      ∙ sym (ap (λ z. cell_in false z (indices (meanings js env))) t.2 ∙ ap (cell_in false (Some t.0)) o.index_is
      ∙ ap (option_map (cell_value false)) (ap (cell_at t.0) (sym (nothing-behind o.i)) ∙ c.cell))

parts-answer : (e : Ex) (env : Env) → AnswerKeeps (number_of_parts e) e env
parts-answer (ex1 false Op1.Bar (fun1 false Fun.Parts
    (seen_ex (repr ReprKind.PartitionOccurrence no_reprs) (partition_dom ms es d) (m ∷ w ∷ []) js))) env =
    λ h. (parts-counted ms es d m w js env h.0.0, h.0.0.2)
parts-answer _ env = tt

-- The number of parts.
pub number_of_parts-keeps : (e f : Ex) → number_of_parts e ≡ Some f → (env : Env) → Keeps e f env
number_of_parts-keeps e f q env = fires (number_of_parts e) e f env (parts-answer e env) q
