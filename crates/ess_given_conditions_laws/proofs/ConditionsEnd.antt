-- No condition reads a table where none can leave.
use Rattle.std.proofs.Common.{◌≡◌, refl, ap, Bool, true, false, ◌&&◌, ◌||◌, not, if◌then◌else◌, Option, Some, None, option_map}
use Rattle.std.specs.Prelude.{is_some, pos}
use Rattle.ess_semantics.specs.declared.words.Fun.{Fun}
use Rattle.ess_semantics.specs.Names.{Names}
use Rattle.ess_semantics.specs.Operators.{iff}
use Rattle.ess_semantics.specs.Trees.{Op, word, matrix_literal, is_truth_op, name_pat, Ex, Exs, number_ex, truth_ex, name_ex, node_ex, matrix_ex, comp_ex, cell_ex, seen_ex, fun1, no_exs, more_exs, Gens, no_gens, over, from, cond, bool_dom, int_dom, name_dom}
use Rattle.ess_semantics.specs.Types.{Ty}
use Rattle.ess_semantics.specs.Kinds.{is_bounded}
use Rattle.ess_semantics.specs.Refined.{is_scalar_op, is_list_op, is_refined, are_refined, is_refined_list, are_refined_lists, are_refined_gens}
use Rattle.ess_semantics.proofs.Tests.{and-left, and-right, and-both}
use Rattle.ess_refine_laws.specs.LeavingConditions.{Parted, with_before, at_last_condition}
use Rattle.ess_refine_laws.specs.AllRules.{Supply}
use Rattle.ess_open_rules_laws.specs.OpenSources.{is_counted_apart, counted_apart}
use Rattle.ess_semantics.specs.Occurrences.{has_cells}
use Rattle.ess_given_laws.specs.GivenEnds.{conditions_read_none}
use Rattle.ess_given_laws.proofs.GivenEnds.{given-ends}
use Rattle.ess_given_conditions_laws.specs.ConditionsEnd.{IsSettled, SettledIn, AllSettled, GensSettled, own_read_none, no_condition_reads, all_no_condition_reads, gens_no_condition_reads, ConditionsEnd}

-- ---- under `allDiff`

-- Where there is no last condition that reads a table, none reads one.
abbrev NoneLast : Gens → Option Parted → Type 0
NoneLast gs None = conditions_read_none gs ≡ true
NoneLast gs (Some t) = Unit {0}

none-behind : (gs ks : Gens) (f : Gens → Gens) (o : Option Parted) → (conditions_read_none gs ≡ true → conditions_read_none ks ≡ true) →
    NoneLast gs o → NoneLast ks (option_map (with_before f) o)
none-behind gs ks f None k h = k h
none-behind gs ks f (Some t) k h = tt

none-last : (gs : Gens) → NoneLast gs (at_last_condition gs)
none-last no_gens = refl
none-last (over p d gs) = none-behind gs (over p d gs) (over p d) (at_last_condition gs) (λ h. h) (none-last gs)
none-last (from p e gs) = none-behind gs (from p e gs) (from p e) (at_last_condition gs) (λ h. h) (none-last gs)
none-last (cond c gs) = go (at_last_condition gs) (none-last gs)
  where
    here : (b : Bool) → has_cells c ≡ b → conditions_read_none gs ≡ true →
        NoneLast (cond c gs) (if b then Some (record { before = no_gens; condition = c; after = gs }) else None)
    here true q h = tt
    here false q h = and-both (not (has_cells c)) (conditions_read_none gs) (ap not q) h

    go : (o : Option Parted) → NoneLast gs o → NoneLast (cond c gs) (elim o [
      | Some t ↦ Some (with_before (cond c) t)
      | None ↦ if has_cells c then Some (record { before = no_gens; condition = c; after = gs }) else None
    ])
    go (Some t) h = tt
    go None h = here (has_cells c) refl h

-- What is there isn't nothing.
absent : {A X : Type 0} (c : Bool) (a : A) → c ≡ true → (if c then Some a else None) ≡ None → X
absent true a h q = cc
absent false a h q = cc

or-first : (a b : Bool) → a ≡ true → a || b ≡ true
or-first true b h = refl
or-first false b h = cc

-- Of refined parts.
list-parts : (s l x : Bool) → (s && (false && true)) || (l && (x && true)) ≡ true → x ≡ true
list-parts true true true q = refl
list-parts true true false q = cc
list-parts true false x q = cc
list-parts false true true q = refl
list-parts false true false q = cc
list-parts false false x q = cc

list-op : (s l x : Bool) → (s && (false && true)) || (l && (x && true)) ≡ true → l ≡ true
list-op true true x q = refl
list-op true false x q = cc
list-op false true x q = refl
list-op false false x q = cc

different-none : (s : Supply) (g : Names Ty) (e : Ex) (gs : Gens) → is_refined (fun1 true Fun.AllDiff (comp_ex e gs)) ≡ true →
    counted_apart s g (fun1 true Fun.AllDiff (comp_ex e gs)) ≡ None → conditions_read_none gs ≡ true
different-none s g e gs h q = go (at_last_condition gs) refl (none-last gs)
  where
    r : is_refined e && are_refined_gens gs ≡ true
    r = list-parts false true (is_refined e && are_refined_gens gs) h

    counted : is_some (at_last_condition gs) ≡ true → is_counted_apart s g e gs ≡ true
    counted k = or-first (is_refined e && (are_refined_gens gs && is_some (at_last_condition gs))) _
        (and-both (is_refined e) (are_refined_gens gs && is_some (at_last_condition gs)) (and-left (is_refined e) (are_refined_gens gs) r)
        (and-both (are_refined_gens gs) (is_some (at_last_condition gs)) (and-right (is_refined e) (are_refined_gens gs) r) k))

    go : (o : Option Parted) → at_last_condition gs ≡ o → NoneLast gs o → conditions_read_none gs ≡ true
    go None p n = n
    go (Some t) p n = absent (is_counted_apart s g e gs) _ (counted (ap is_some p)) q

-- ---- at any word

own-none : (b : Bool) (f : Fun) (e : Ex) (gs : Gens) → is_list_op (word f) ≡ true → iff b (is_truth_op (word f)) ≡ true →
    is_refined (fun1 b f (comp_ex e gs)) ≡ true → IsSettled (fun1 b f (comp_ex e gs)) → conditions_read_none gs ≡ true
own-none true Fun.And e gs l i h s = given-ends.folds true Fun.And e gs h refl s.folds
own-none true Fun.Or e gs l i h s = given-ends.folds true Fun.Or e gs h refl s.folds
own-none false Fun.Sum e gs l i h s = given-ends.folds false Fun.Sum e gs h refl s.folds
own-none false Fun.Product e gs l i h s = given-ends.folds false Fun.Product e gs h refl s.folds
own-none false Fun.Min e gs l i h s = given-ends.extremes (number_ex (pos 0)) Fun.Min e gs h refl refl s.moves
    (s.numbers (number_ex (pos 0)) refl)
own-none false Fun.Max e gs l i h s = given-ends.extremes (number_ex (pos 0)) Fun.Max e gs h refl refl s.moves
    (s.numbers (number_ex (pos 0)) refl)
own-none true Fun.AllDiff e gs l i h s = different-none s.supply s.types e gs h s.counts
own-none b f e gs l i h s = cc

pub own-read : (b : Bool) (op : Op) (es : Exs) → is_refined (node_ex b op es) ≡ true → IsSettled (node_ex b op es) →
    own_read_none op es ≡ true
own-read b (word f) (more_exs (comp_ex e gs) no_exs) h s =
    let k = and-right (iff b (is_truth_op (word f))) _ h in
    own-none b f e gs (list-op (is_scalar_op (word f)) (is_list_op (word f)) (is_refined e && are_refined_gens gs) k)
    (and-left (iff b (is_truth_op (word f))) _ h) h s
own-read b op es h s = refl

pub either-way : {X : Type 0} (s r l t : Bool) → (r ≡ true → X) → (t ≡ true → X) → (s && r) || (l && t) ≡ true → X
either-way true true l t f g q = f refl
either-way true false true true f g q = g refl
either-way true false true false f g q = cc
either-way true false false t f g q = cc
either-way false r true true f g q = g refl
either-way false r true false f g q = cc
either-way false r false t f g q = cc

mutual
  read-none : (e : Ex) → is_refined e ≡ true → SettledIn e → no_condition_reads e ≡ true
  read-none (number_ex n) h s = refl
  read-none (truth_ex b) h s = refl
  read-none (name_ex a) h s = refl
  read-none (node_ex b op es) h s = and-both (own_read_none op es) (all_no_condition_reads es) (own-read b op es h s.0)
      (either-way (is_scalar_op op) (are_refined es) (is_list_op op) (are_refined_lists es) (λ k. all-read-none es k s.1)
      (λ k. lists-read-none es k s.1) (and-right (iff b (is_truth_op op)) _ h))
  read-none (cell_ex b n es) h s = all-read-none es h s
  read-none (matrix_ex es d) h s = cc
  read-none (comp_ex e gs) h s = cc
  read-none (seen_ex r d ns es) h s = cc

  all-read-none : (es : Exs) → are_refined es ≡ true → AllSettled es → all_no_condition_reads es ≡ true
  all-read-none no_exs h s = refl
  all-read-none (more_exs e es) h s = and-both (no_condition_reads e) (all_no_condition_reads es)
      (read-none e (and-left (is_refined e) (are_refined es) h) s.0) (all-read-none es (and-right (is_refined e) (are_refined es) h) s.1)

  lists-read-none : (es : Exs) → are_refined_lists es ≡ true → AllSettled es → all_no_condition_reads es ≡ true
  lists-read-none no_exs h s = refl
  lists-read-none (more_exs e es) h s = and-both (no_condition_reads e) (all_no_condition_reads es)
      (list-reads-none e (and-left (is_refined_list e) (are_refined_lists es) h) s.0)
      (lists-read-none es (and-right (is_refined_list e) (are_refined_lists es) h) s.1)

  list-reads-none : (e : Ex) → is_refined_list e ≡ true → SettledIn e → no_condition_reads e ≡ true
  list-reads-none (comp_ex e gs) h s = and-both (no_condition_reads e) (gens_no_condition_reads gs)
      (read-none e (and-left (is_refined e) (are_refined_gens gs) h) s.0)
      (gens-read-none gs (and-right (is_refined e) (are_refined_gens gs) h) s.1)
  list-reads-none (node_ex false matrix_literal es) h s = all-read-none es h s.1
  list-reads-none e h s = cc

  gens-read-none : (gs : Gens) → are_refined_gens gs ≡ true → GensSettled gs → gens_no_condition_reads gs ≡ true
  gens-read-none no_gens h s = refl
  gens-read-none (over (name_pat a) bool_dom gs) h s = gens-read-none gs h s
  gens-read-none (over (name_pat a) (name_dom t) gs) h s = gens-read-none gs h s
  gens-read-none (over (name_pat a) (int_dom rs es) gs) h s =
      gens-read-none gs (and-right (is_bounded rs && are_refined es) (are_refined_gens gs) h) s
  gens-read-none (cond c gs) h s = and-both (no_condition_reads c) (gens_no_condition_reads gs)
      (read-none c (and-left (is_refined c) (are_refined_gens gs) h) s.0)
      (gens-read-none gs (and-right (is_refined c) (are_refined_gens gs) h) s.1)
  gens-read-none gs h s = cc

-- What is proved of conditions.
pub conditions-end : ConditionsEnd
conditions-end = record { everywhere = read-none; different = different-none }
