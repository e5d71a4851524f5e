-- What is given where rewriting ends.
use Rattle.std.proofs.Common.{◌≡◌, refl, ap, ◌∙◌, Bool, true, false, ◌&&◌, ◌||◌, not, if◌then◌else◌, List, ◌++◌, Option, Some, None, option_map}
use Rattle.std.specs.List.{list_all}
use Rattle.std.proofs.lemmas.List.Folds.{list_all-append}
use Rattle.ess_semantics.specs.declared.words.Fun.{Fun}
use Rattle.ess_semantics.specs.Values.{Text}
use Rattle.ess_semantics.specs.Trees.{word, is_truth_op, name_pat, Ex, Exs, number_ex, truth_ex, name_ex, node_ex, matrix_ex, comp_ex, cell_ex, seen_ex, fun1, no_exs, more_exs, Gens, no_gens, over, from, cond, Dom, Doms, bool_dom, int_dom, name_dom, tuple_dom, record_dom, matrix_dom, set_dom, mset_dom, function_dom, relation_dom, partition_dom, no_doms, more_doms}
use Rattle.ess_semantics.specs.Kinds.{is_bounded}
use Rattle.ess_semantics.specs.Occurrences.{parts_of, parts_of_all, parts_of_gens, parts_of_dom, parts_of_doms, has_cells}
use Rattle.ess_semantics.specs.Operators.{iff}
use Rattle.ess_semantics.specs.Refined.{is_scalar_op, is_list_op, is_refined, are_refined, are_refined_gens}
use Rattle.ess_semantics.proofs.Tests.{and-left, and-right, and-both}
use Rattle.ess_rules_laws.specs.SourceRules.{is_marked}
use Rattle.ess_refine_laws.specs.LeavingConditions.{Parted, with_before, at_last_condition, under_condition, condition_leaves}
use Rattle.ess_refine_laws.specs.MovingConditions.{one_later, condition_later}
use Rattle.ess_refine_laws.specs.ExtremeRules.{is_extreme, are_none, either_number, extreme_condition}
use Rattle.ess_refine_laws.specs.Everywhere.{everywhere, everywhere_gens}
use Rattle.ess_rules_laws.specs.SpliceRules.{append_gens}
use Rattle.ess_given_laws.specs.PartsHave.{AllHave, GensHave}
use Rattle.ess_given_laws.specs.Given.{all_bound, is_fixed, are_fixed, are_fixed_gens, is_fixed_dom, are_fixed_doms, given, GivenIn}
use Rattle.ess_given_laws.specs.GivenEnds.{reads_given, dom_reads_given, domains_read_given, all_read_given, gens_read_given, conditions_read_none, GivenEnds}

module _ (u : Text → Bool) where
  abbrev R : List Ex → Type 0
  R es = list_all (reads_given u) es ≡ true

  joined : (xs ys : List Ex) → R xs → R ys → R (xs ++ ys)
  joined xs ys h k = list_all-append (reads_given u) xs ys ∙ and-both (list_all (reads_given u) xs) (list_all (reads_given u) ys) h k

  mutual
    parts-read : (e : Ex) → is_fixed u e ≡ true → R (parts_of e)
    parts-read (number_ex n) h = refl
    parts-read (truth_ex b) h = refl
    parts-read (name_ex a) h = refl
    parts-read (node_ex b op es) h = all-read es h
    parts-read (matrix_ex es d) h = joined (parts_of_all es) (parts_of_dom d) (all-read es (and-left (are_fixed u es) (is_fixed_dom u d) h))
        (dom-reads d (and-right (are_fixed u es) (is_fixed_dom u d) h))
    parts-read (comp_ex e gs) h = joined (parts_of e) (parts_of_gens gs) (parts-read e (and-left (is_fixed u e) (are_fixed_gens u gs) h))
        (gens-read gs (and-right (is_fixed u e) (are_fixed_gens u gs) h))
    parts-read (cell_ex b n es) h =
        and-both (u n) (list_all (reads_given u) (parts_of_all es)) (and-left (u n) (are_fixed u es) h) (all-read es (and-right (u n)
        (are_fixed u es) h))
    parts-read (seen_ex r d ns es) h = let k = and-right (list_all u ns) (is_fixed_dom u d && are_fixed u es) h in
        and-both (list_all u ns) (list_all (reads_given u) (parts_of_dom d ++ parts_of_all es))
        (and-left (list_all u ns) (is_fixed_dom u d && are_fixed u es) h)
        (joined (parts_of_dom d) (parts_of_all es) (dom-reads d (and-left (is_fixed_dom u d) (are_fixed u es) k))
        (all-read es (and-right (is_fixed_dom u d) (are_fixed u es) k)))

    all-read : (es : Exs) → are_fixed u es ≡ true → R (parts_of_all es)
    all-read no_exs h = refl
    all-read (more_exs e es) h = joined (parts_of e) (parts_of_all es) (parts-read e (and-left (is_fixed u e) (are_fixed u es) h))
        (all-read es (and-right (is_fixed u e) (are_fixed u es) h))

    gens-read : (gs : Gens) → are_fixed_gens u gs ≡ true → R (parts_of_gens gs)
    gens-read no_gens h = refl
    gens-read (over p d gs) h = let k = and-right (all_bound u p) (is_fixed_dom u d && are_fixed_gens u gs) h in
        joined (parts_of_dom d) (parts_of_gens gs) (dom-reads d (and-left (is_fixed_dom u d) (are_fixed_gens u gs) k))
        (gens-read gs (and-right (is_fixed_dom u d) (are_fixed_gens u gs) k))
    gens-read (from p e gs) h = let k = and-right (all_bound u p) (is_fixed u e && are_fixed_gens u gs) h in
        joined (parts_of e) (parts_of_gens gs) (parts-read e (and-left (is_fixed u e) (are_fixed_gens u gs) k))
        (gens-read gs (and-right (is_fixed u e) (are_fixed_gens u gs) k))
    gens-read (cond e gs) h = joined (parts_of e) (parts_of_gens gs) (parts-read e (and-left (is_fixed u e) (are_fixed_gens u gs) h))
        (gens-read gs (and-right (is_fixed u e) (are_fixed_gens u gs) h))

    dom-reads : (d : Dom) → is_fixed_dom u d ≡ true → R (parts_of_dom d)
    dom-reads bool_dom h = refl
    dom-reads (int_dom rs es) h = all-read es h
    dom-reads (name_dom a) h = refl
    dom-reads (tuple_dom ds) h = doms-read ds h
    dom-reads (record_dom fs ds) h = doms-read ds h
    dom-reads (matrix_dom is d) h = joined (parts_of_doms is) (parts_of_dom d)
        (doms-read is (and-left (are_fixed_doms u is) (is_fixed_dom u d) h)) (dom-reads d (and-right (are_fixed_doms u is)
        (is_fixed_dom u d) h))
    dom-reads (set_dom ms es d) h = joined (parts_of_all es) (parts_of_dom d) (all-read es (and-left (are_fixed u es) (is_fixed_dom u d) h))
        (dom-reads d (and-right (are_fixed u es) (is_fixed_dom u d) h))
    dom-reads (mset_dom ms es d) h = joined (parts_of_all es) (parts_of_dom d) (all-read es (and-left (are_fixed u es)
        (is_fixed_dom u d) h))
        (dom-reads d (and-right (are_fixed u es) (is_fixed_dom u d) h))
    dom-reads (function_dom ms es d c) h = let k = and-right (are_fixed u es) (is_fixed_dom u d && is_fixed_dom u c) h in
        joined (parts_of_all es ++ parts_of_dom d) (parts_of_dom c)
        (joined (parts_of_all es) (parts_of_dom d) (all-read es (and-left (are_fixed u es) (is_fixed_dom u d && is_fixed_dom u c) h))
        (dom-reads d (and-left (is_fixed_dom u d) (is_fixed_dom u c) k)))
        (dom-reads c (and-right (is_fixed_dom u d) (is_fixed_dom u c) k))
    dom-reads (relation_dom ms es ds) h = joined (parts_of_all es) (parts_of_doms ds)
        (all-read es (and-left (are_fixed u es) (are_fixed_doms u ds) h)) (doms-read ds (and-right (are_fixed u es)
        (are_fixed_doms u ds) h))
    dom-reads (partition_dom ms es d) h = joined (parts_of_all es) (parts_of_dom d) (all-read es (and-left (are_fixed u es)
        (is_fixed_dom u d) h))
        (dom-reads d (and-right (are_fixed u es) (is_fixed_dom u d) h))

    doms-read : (ds : Doms) → are_fixed_doms u ds ≡ true → R (parts_of_doms ds)
    doms-read no_doms h = refl
    doms-read (more_doms d ds) h = joined (parts_of_dom d) (parts_of_doms ds)
        (dom-reads d (and-left (is_fixed_dom u d) (are_fixed_doms u ds) h)) (doms-read ds (and-right (is_fixed_dom u d)
        (are_fixed_doms u ds) h))

  mutual
    domains-read : (e : Ex) → GivenIn u e → domains_read_given u e ≡ true
    domains-read (number_ex n) h = refl
    domains-read (truth_ex b) h = refl
    domains-read (name_ex a) h = refl
    domains-read (node_ex b op es) h = all-domains es h
    domains-read (matrix_ex es d) h = and-both (all_read_given u es) (dom_reads_given u d) (all-domains es h.0) (dom-reads d h.1)
    domains-read (comp_ex e gs) h = and-both (domains_read_given u e) (gens_read_given u gs) (domains-read e h.0) (gens-domains gs h.1)
    domains-read (cell_ex b n es) h = all-domains es h.1
    domains-read (seen_ex r d ns es) h = and-both (dom_reads_given u d) (all_read_given u es) (dom-reads d h.1) (all-domains es h.2)

    all-domains : (es : Exs) → AllHave (given u) es → all_read_given u es ≡ true
    all-domains no_exs h = refl
    all-domains (more_exs e es) h = and-both (domains_read_given u e) (all_read_given u es) (domains-read e h.0) (all-domains es h.1)

    gens-domains : (gs : Gens) → GensHave (given u) gs → gens_read_given u gs ≡ true
    gens-domains no_gens h = refl
    gens-domains (over p d gs) h = and-both (dom_reads_given u d) (gens_read_given u gs) (dom-reads d h.1) (gens-domains gs h.2)
    gens-domains (from p e gs) h = and-both (domains_read_given u e) (gens_read_given u gs) (domains-read e h.1) (gens-domains gs h.2)
    gens-domains (cond e gs) h = and-both (domains_read_given u e) (gens_read_given u gs) (domains-read e h.0) (gens-domains gs h.1)

-- ---- conditions

-- Behind a refined list of generators its last condition that reads a cell, what stands before it and what stands after it are refined;
-- where there is none, no condition reads a cell.
abbrev Parts : Gens → Option Parted → Type 0
Parts gs None = conditions_read_none gs ≡ true
Parts gs (Some t) =
    (is_refined t.condition ≡ true) × (are_refined_gens t.after ≡ true) × (are_refined_gens t.before ≡ true)

behind : (gs : Gens) (f : Gens → Gens) (o : Option Parted) → ((ks : Gens) → are_refined_gens ks ≡ true → are_refined_gens (f ks) ≡ true) →
    (conditions_read_none gs ≡ true → conditions_read_none (f gs) ≡ true) → Parts gs o → Parts (f gs) (option_map (with_before f) o)
behind gs f None k n h = n h
behind gs f (Some t) k n h = (h.0, h.1, k t.before h.2)

parted : (gs : Gens) → are_refined_gens gs ≡ true → Parts gs (at_last_condition gs)
parted no_gens h = refl
parted (over (name_pat a) bool_dom gs) h = behind gs (over (name_pat a) bool_dom) (at_last_condition gs) (λ ks k. k) (λ n. n) (parted gs h)
parted (over (name_pat a) (name_dom t) gs) h =
    behind gs (over (name_pat a) (name_dom t)) (at_last_condition gs) (λ ks k. k) (λ n. n) (parted gs h)
parted (over (name_pat a) (int_dom rs es) gs) h =
    let b = and-left (is_bounded rs && are_refined es) (are_refined_gens gs) h in
    behind gs (over (name_pat a) (int_dom rs es)) (at_last_condition gs)
    (λ ks k. and-both (is_bounded rs && are_refined es) (are_refined_gens ks) b k) (λ n. n)
    (parted gs (and-right (is_bounded rs && are_refined es) (are_refined_gens gs) h))
parted (cond c gs) h = go (at_last_condition gs) (parted gs (and-right (is_refined c) (are_refined_gens gs) h))
  where
    r : is_refined c ≡ true
    r = and-left (is_refined c) (are_refined_gens gs) h

    here : (b : Bool) → has_cells c ≡ b → conditions_read_none gs ≡ true → Parts (cond c gs)
        (if b then Some (record { before = no_gens; condition = c; after = gs }) else None)
    here true q n = (r, and-right (is_refined c) (are_refined_gens gs) h, refl)
    here false q n = and-both (not (has_cells c)) (conditions_read_none gs) (ap not q) n

    go : (o : Option Parted) → Parts gs o → Parts (cond c gs) (elim o [
      | Some t ↦ Some (with_before (cond c) t)
      | None ↦ if has_cells c then Some (record { before = no_gens; condition = c; after = gs }) else None
    ])
    go (Some t) k = (k.0, k.1, and-both (is_refined c) (are_refined_gens t.before) r k.2)
    go None n = here (has_cells c) refl n
parted gs h = cc

-- What is there isn't nothing.
no : {A X : Type 0} (c : Bool) (a : A) → c ≡ true → (if c then Some a else None) ≡ None → X
no true a h q = cc
no false a h q = cc

-- The item and the generators of a comprehension are refined where a word on it is.
refined-parts : (m : Bool) (f : Fun) (e : Ex) (gs : Gens) → is_refined (fun1 m f (comp_ex e gs)) ≡ true →
    is_refined e && are_refined_gens gs ≡ true
refined-parts m f e gs h = go (is_scalar_op (word f)) (is_list_op (word f)) (is_refined e && are_refined_gens gs)
    (and-right (iff m (is_truth_op (word f))) _ h)
  where
    go : (s l x : Bool) → (s && (false && true)) || (l && (x && true)) ≡ true → x ≡ true
    go true true true q = refl
    go true true false q = cc
    go true false x q = cc
    go false true true q = refl
    go false true false q = cc
    go false false x q = cc

folds-read-none : (m : Bool) (f : Fun) (e : Ex) (gs : Gens) → is_refined (fun1 m f (comp_ex e gs)) ≡ true → is_marked m f ≡ true →
    condition_leaves (fun1 m f (comp_ex e gs)) ≡ None → conditions_read_none gs ≡ true
folds-read-none m f e gs h k q = go (at_last_condition gs) (parted gs (and-right (is_refined e) (are_refined_gens gs) r)) q
  where
    r : is_refined e && are_refined_gens gs ≡ true
    r = refined-parts m f e gs h

    go : (o : Option Parted) → Parts gs o → ◌≡◌ {A = Option Ex} (elim o [
      | None ↦ None
      | Some t ↦ if is_marked m f && (is_refined t.condition && (is_refined e && are_refined_gens t.after))
          then Some (fun1 m f (comp_ex (under_condition f t.condition (fun1 m f (comp_ex e t.after))) t.before)) else None
    ]) None → conditions_read_none gs ≡ true
    go None n q = n
    go (Some t) n q = no (is_marked m f && (is_refined t.condition && (is_refined e && are_refined_gens t.after)))
        (fun1 m f (comp_ex (under_condition f t.condition (fun1 m f (comp_ex e t.after))) t.before))
        (and-both (is_marked m f) _ k (and-both (is_refined t.condition) _ n.0
        (and-both (is_refined e) (are_refined_gens t.after) (and-left (is_refined e) (are_refined_gens gs) r) n.1))) q

-- Behind a condition that can't move there is no generator.
last-one : (c : Ex) (gs : Gens) (k : Gens → Ex) (b : Bool) → b ≡ true → are_refined_gens gs ≡ true →
    (if b then option_map k (one_later c gs) else None) ≡ None → are_none gs ≡ true
last-one c no_gens k b h r q = refl
last-one c (over p d gs) k true h r q = cc
last-one c (over p d gs) k false h r q = cc
last-one c (cond x gs) k true h r q = cc
last-one c (cond x gs) k false h r q = cc
last-one c (from p x gs) k b h r q = cc

extremes-read-none : (m : Ex) (f : Fun) (e : Ex) (gs : Gens) → is_refined (fun1 false f (comp_ex e gs)) ≡ true → is_extreme f ≡ true →
    is_refined m ≡ true → condition_later (fun1 false f (comp_ex e gs)) ≡ None → extreme_condition m (fun1 false f (comp_ex e gs)) ≡ None →
    conditions_read_none gs ≡ true
extremes-read-none m f e gs h k j p q = go (at_last_condition gs) (parted gs (and-right (is_refined e) (are_refined_gens gs) r)) p q
  where
    r : is_refined e && are_refined_gens gs ≡ true
    r = refined-parts false f e gs h

    re : is_refined e ≡ true
    re = and-left (is_refined e) (are_refined_gens gs) r

    go : (o : Option Parted) → Parts gs o → ◌≡◌ {A = Option Ex} (elim o [
      | None ↦ None
      | Some t ↦ if is_extreme f && (is_refined t.condition && (is_refined e && are_refined_gens t.after))
          then option_map (λ hs. fun1 false f (comp_ex e (append_gens t.before hs))) (one_later t.condition t.after) else None
    ]) None → ◌≡◌ {A = Option Ex} (elim o [
      | None ↦ None
      | Some t ↦ if (is_extreme f && are_none t.after) && (is_refined t.condition && (is_refined e && (is_refined m
          && are_refined_gens t.before)))
          then Some (fun1 false f (comp_ex (either_number t.condition (everywhere e) m) (everywhere_gens t.before))) else None
    ]) None → conditions_read_none gs ≡ true
    go None n p q = n
    go (Some t) n p q =
        let a = last-one t.condition t.after (λ hs. fun1 false f (comp_ex e (append_gens t.before hs)))
        (is_extreme f && (is_refined t.condition && (is_refined e && are_refined_gens t.after)))
        (and-both (is_extreme f) _ k (and-both (is_refined t.condition) _ n.0 (and-both (is_refined e) (are_refined_gens t.after) re n.1)))
        n.1 p in
        no ((is_extreme f && are_none t.after) && (is_refined t.condition && (is_refined e && (is_refined m && are_refined_gens t.before))))
        (fun1 false f (comp_ex (either_number t.condition (everywhere e) m) (everywhere_gens t.before)))
        (and-both (is_extreme f && are_none t.after) _ (and-both (is_extreme f) (are_none t.after) k a)
        (and-both (is_refined t.condition) _ n.0 (and-both (is_refined e) _ re (and-both (is_refined m)
        (are_refined_gens t.before) j n.2)))) q

-- What is proved of the ends.
pub given-ends : GivenEnds
given-ends = record { domains = domains-read; folds = folds-read-none; extremes = extremes-read-none }
