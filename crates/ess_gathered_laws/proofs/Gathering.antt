-- The rule of gathered conditions keeps what it rewrites, and leaves one condition that reads cells.
use Rattle.std.proofs.Common.{◌≡◌, refl, ap, ◌∙◌, subst, Bool, true, false, ◌&&◌, ◌||◌, if◌then◌else◌, List, [], ◌∷◌, Option, Some, None, option_map}
use Rattle.std.specs.Prelude.{is_some}
use Rattle.ess_semantics.specs.declared.words.Fun.{Fun}
use Rattle.ess_semantics.specs.Trees.{word, name_pat, Ex, comp_ex, fun1, Gens, no_gens, over, from, cond, bool_dom, int_dom, name_dom}
use Rattle.ess_semantics.specs.Occurrences.{has_cells}
use Rattle.ess_semantics.specs.Kinds.{is_bounded}
use Rattle.ess_semantics.specs.Refined.{is_refined, are_refined, are_refined_gens}
use Rattle.ess_semantics.specs.Operators.{list_value, value_of_node}
use Rattle.ess_semantics.specs.Meaning.{Env, meaning, items_under}
use Rattle.ess_semantics.specs.Kept.{Keeps}
use Rattle.ess_semantics.proofs.Tests.{and-left, and-right, and-both}
use Rattle.ess_rules_laws.specs.SpliceRules.{append_gens}
use Rattle.ess_rules_laws.proofs.RuleAnswers.{AnswerKeeps, fires}
use Rattle.ess_rules_laws.proofs.SourceRules.{list-there}
use Rattle.ess_refine_laws.specs.Everywhere.{everywhere_gens}
use Rattle.ess_refine_laws.specs.ExtremeRules.{is_extreme}
use Rattle.ess_refine_laws.proofs.RefinedTrees.{refined-met, gens-met, gens-refined}
use Rattle.ess_gathered_laws.specs.GatheredConditions.{cell_conditions, without_conditions, all_hold, gathered_gens, gathered_under, conditions_gathered, GathersWhere, GatheredFits, ConditionsGather}
use Rattle.ess_gathered_laws.proofs.Gathered.{all-gathered}

-- ---- what is made is refined

-- Generators behind a condition or a generator, taken apart.
without-refined : (gs : Gens) → are_refined_gens gs ≡ true → are_refined_gens (without_conditions gs) ≡ true
without-refined no_gens h = refl
without-refined (over (name_pat a) bool_dom gs) h = without-refined gs h
without-refined (over (name_pat a) (name_dom t) gs) h = without-refined gs h
without-refined (over (name_pat a) (int_dom rs es) gs) h =
    and-both (is_bounded rs && are_refined es) (are_refined_gens (without_conditions gs))
    (and-left (is_bounded rs && are_refined es) (are_refined_gens gs) h)
    (without-refined gs (and-right (is_bounded rs && are_refined es) (are_refined_gens gs) h))
without-refined (cond c gs) h =
    go (has_cells c) (without-refined gs (and-right (is_refined c) (are_refined_gens gs) h))
  where
    go : (b : Bool) → are_refined_gens (without_conditions gs) ≡ true
        → are_refined_gens (if b then without_conditions gs else cond c (without_conditions gs)) ≡ true
    go true k = k
    go false k = and-both (is_refined c) (are_refined_gens (without_conditions gs)) (and-left (is_refined c) (are_refined_gens gs) h) k
without-refined _ h = cc

append-refined : (gs : Gens) (c : Ex) → are_refined_gens gs ≡ true → is_refined c ≡ true
    → are_refined_gens (append_gens gs (cond c no_gens)) ≡ true
append-refined no_gens c h k = and-both (is_refined c) true k refl
append-refined (over (name_pat a) bool_dom gs) c h k = append-refined gs c h k
append-refined (over (name_pat a) (name_dom t) gs) c h k = append-refined gs c h k
append-refined (over (name_pat a) (int_dom rs es) gs) c h k =
    and-both (is_bounded rs && are_refined es) (are_refined_gens (append_gens gs (cond c no_gens)))
    (and-left (is_bounded rs && are_refined es) (are_refined_gens gs) h)
    (append-refined gs c (and-right (is_bounded rs && are_refined es) (are_refined_gens gs) h) k)
append-refined (cond d gs) c h k =
    and-both (is_refined d) (are_refined_gens (append_gens gs (cond c no_gens))) (and-left (is_refined d) (are_refined_gens gs) h)
    (append-refined gs c (and-right (is_refined d) (are_refined_gens gs) h) k)
append-refined _ c h k = cc

-- Each of the conditions is refined.
abbrev AllRefined : List Ex → Type 0
AllRefined [] = Unit {0}
AllRefined (c ∷ cs) = (is_refined c ≡ true) × AllRefined cs

conditions-refined : (gs : Gens) → are_refined_gens gs ≡ true → AllRefined (cell_conditions gs)
conditions-refined no_gens h = tt
conditions-refined (over (name_pat a) bool_dom gs) h = conditions-refined gs h
conditions-refined (over (name_pat a) (name_dom t) gs) h = conditions-refined gs h
conditions-refined (over (name_pat a) (int_dom rs es) gs) h =
    conditions-refined gs (and-right (is_bounded rs && are_refined es) (are_refined_gens gs) h)
conditions-refined (cond c gs) h = go (has_cells c) (conditions-refined gs (and-right (is_refined c) (are_refined_gens gs) h))
  where
    go : (b : Bool) → AllRefined (cell_conditions gs) → AllRefined (if b then c ∷ cell_conditions gs else cell_conditions gs)
    go true k = (and-left (is_refined c) (are_refined_gens gs) h, k)
    go false k = k
conditions-refined _ h = cc

conjunction-refined : (c : Ex) (ds : List Ex) → is_refined c ≡ true → AllRefined ds → is_refined (all_hold c ds) ≡ true
conjunction-refined c [] h k = h
conjunction-refined c (d ∷ ds) h k = go (is_refined c) (is_refined (all_hold d ds)) h (conjunction-refined d ds k.0 k.1)
  where
    go : (a b : Bool) → a ≡ true → b ≡ true → (a && (b && true)) || false ≡ true
    go true true h k = refl
    go true false h k = cc
    go false b h k = cc

-- ---- no other condition that reads cells is left

none-left : (gs : Gens) → cell_conditions (everywhere_gens (without_conditions gs)) ≡ []
none-left no_gens = refl
none-left (over p d gs) = none-left gs
none-left (from p e gs) = none-left gs
none-left (cond c gs) = go (has_cells c) refl (none-left gs)
  where
    go : (b : Bool) → has_cells c ≡ b → cell_conditions (everywhere_gens (without_conditions gs)) ≡ []
        → cell_conditions (everywhere_gens (if b then without_conditions gs else cond c (without_conditions gs))) ≡ []
    go true e k = k
    go false e k =
        ap (λ x. if x then c ∷ cell_conditions (everywhere_gens (without_conditions gs))
        else cell_conditions (everywhere_gens (without_conditions gs))) e ∙ k

-- The only condition that the last one can be.
abbrev last_alone : Ex → List Ex
last_alone a = if has_cells a then a ∷ [] else []

only-last : (ks : Gens) (a : Ex) → cell_conditions ks ≡ [] → cell_conditions (append_gens ks (cond a no_gens)) ≡ last_alone a
only-last no_gens a h = refl
only-last (over p d ks) a h = only-last ks a h
only-last (from p e ks) a h = only-last ks a h
only-last (cond c ks) a h = go (has_cells c) h (only-last ks a)
  where
    go : (b : Bool) → (if b then c ∷ cell_conditions ks else cell_conditions ks) ≡ []
        → (cell_conditions ks ≡ [] → cell_conditions (append_gens ks (cond a no_gens)) ≡ last_alone a)
        → (if b then c ∷ cell_conditions (append_gens ks (cond a no_gens)) else cell_conditions (append_gens ks (cond a no_gens)))
        ≡ last_alone a
    go true h k = cc
    go false h k = k h

-- So the rule doesn't fire again.
not-again : (f : Fun) (e a : Ex) (gs : Gens) → conditions_gathered (fun1 false f (comp_ex e (gathered_gens gs a))) ≡ None
not-again f e a gs =
    go (is_extreme f && (is_refined e && are_refined_gens (gathered_gens gs a))) (has_cells a) (cell_conditions (gathered_gens gs a))
    (only-last (everywhere_gens (without_conditions gs)) a (none-left gs))
  where
    go : (t b : Bool) (l : List Ex) → l ≡ (if b then a ∷ [] else [])
        → ◌≡◌ {A = Option Ex} (if t then gathered_under f e (gathered_gens gs a) l else None) None
    go false b l q = refl
    go true true l q = ap (gathered_under f e (gathered_gens gs a)) q
    go true false l q = ap (gathered_under f e (gathered_gens gs a)) q

-- ---- the whole

fold-refined : (f : Fun) → is_extreme f ≡ true → (e : Ex) (hs : Gens) → is_refined e ≡ true → are_refined_gens hs ≡ true
    → is_refined (fun1 false f (comp_ex e hs)) ≡ true
fold-refined Fun.Min q e hs re rh = ap (λ x. (x && are_refined_gens hs) && true) re ∙ ap (λ y. y && true) rh
fold-refined Fun.Max q e hs re rh = ap (λ x. (x && are_refined_gens hs) && true) re ∙ ap (λ y. y && true) rh
fold-refined _ q e hs re rh = cc

-- What is known of an answer: it is refined, and the rule doesn't fire there.
abbrev Settles : Option Ex → Type 0
Settles None = Unit {0}
Settles (Some f) = (is_refined f ≡ true) × (conditions_gathered f ≡ None)

settled : (o : Option Ex) (f : Ex) → Settles o → o ≡ Some f → (is_refined f ≡ true) × (conditions_gathered f ≡ None)
settled o f s q = subst (λ z. Settles z) q s

module _ (e : Ex) (gs : Gens) (c d : Ex) (ds : List Ex) (q : cell_conditions gs ≡ c ∷ d ∷ ds) (re : is_refined e ≡ true)
    (rg : are_refined_gens gs ≡ true) where
  abbrev Made : Gens
  Made = gathered_gens gs (all_hold c (d ∷ ds))

  made-refined : are_refined_gens Made ≡ true
  made-refined =
      let k = subst (λ l. AllRefined l) q (conditions-refined gs rg) in
      append-refined (everywhere_gens (without_conditions gs)) (all_hold c (d ∷ ds))
      (gens-refined (without_conditions gs) (without-refined gs rg)) (conjunction-refined c (d ∷ ds) k.0 k.1)

  whole-kept : (f : Fun) (env : Env) → GathersWhere e gs env → Keeps (fun1 false f (comp_ex e gs)) (fun1 false f (comp_ex e Made)) env
  whole-kept f env w m =
      let l = list-there (items_under gs env (λ h. option_map (λ v. v ∷ []) (meaning e h))) w.there in (
        ap (λ o. value_of_node (word f) (option_map list_value o ∷ []))
            (all-gathered c (d ∷ ds) gs env (λ h. option_map (λ v. v ∷ []) (meaning e h)) q w.apart w.reads (ap is_some l.1)),
        (gens-met Made made-refined e (λ here. refined-met e re here) env, tt),
      )

module _ (e : Ex) (f : Fun) (gs : Gens) where
  kept-under : (env : Env) (cs : List Ex) → cell_conditions gs ≡ cs → is_refined e ≡ true → are_refined_gens gs ≡ true
      → GathersWhere e gs env → AnswerKeeps (gathered_under f e gs cs) (fun1 false f (comp_ex e gs)) env
  kept-under env [] q re rg w = tt
  kept-under env (c ∷ []) q re rg w = tt
  kept-under env (c ∷ d ∷ ds) q re rg w = whole-kept e gs c d ds q re rg f env w

  settled-under : (cs : List Ex) → cell_conditions gs ≡ cs → is_extreme f ≡ true → is_refined e ≡ true → are_refined_gens gs ≡ true
      → Settles (gathered_under f e gs cs)
  settled-under [] q x re rg = tt
  settled-under (c ∷ []) q x re rg = tt
  settled-under (c ∷ d ∷ ds) q x re rg =
      (fold-refined f x e (Made e gs c d ds q re rg) re (made-refined e gs c d ds q re rg), not-again f e (all_hold c (d ∷ ds)) gs)

  kept-where : (env : Env) (b : Bool) → is_extreme f && (is_refined e && are_refined_gens gs) ≡ b → GathersWhere e gs env
      → AnswerKeeps (if b then gathered_under f e gs (cell_conditions gs) else None) (fun1 false f (comp_ex e gs)) env
  kept-where env true h w =
      let x = and-right (is_extreme f) (is_refined e && are_refined_gens gs) h in
      kept-under env (cell_conditions gs) refl (and-left (is_refined e) (are_refined_gens gs) x)
      (and-right (is_refined e) (are_refined_gens gs) x) w
  kept-where env false h w = tt

  settled-where : (b : Bool) → is_extreme f && (is_refined e && are_refined_gens gs) ≡ b
      → Settles (if b then gathered_under f e gs (cell_conditions gs) else None)
  settled-where true h =
      let x = and-right (is_extreme f) (is_refined e && are_refined_gens gs) h in
      settled-under (cell_conditions gs) refl (and-left (is_extreme f) (is_refined e && are_refined_gens gs) h)
      (and-left (is_refined e) (are_refined_gens gs) x) (and-right (is_refined e) (are_refined_gens gs) x)
  settled-where false h = tt

gathered-answer : (e : Ex) (env : Env) → GatheredFits e env → AnswerKeeps (conditions_gathered e) e env
gathered-answer (fun1 false f (comp_ex e gs)) env w =
    kept-where e f gs env (is_extreme f && (is_refined e && are_refined_gens gs)) refl w
gathered-answer _ env w = tt

gathered-settles : (e : Ex) → Settles (conditions_gathered e)
gathered-settles (fun1 false f (comp_ex e gs)) = settled-where e f gs (is_extreme f && (is_refined e && are_refined_gens gs)) refl
gathered-settles _ = tt

-- What it keeps.
pub conditions-gather : ConditionsGather
conditions-gather = record {
  keeps = λ e f q env w. fires (conditions_gathered e) e f env (gathered-answer e env w) q;
  stays_refined = λ e f q. (settled (conditions_gathered e) f (gathered-settles e) q).0;
  none_left = none-left;
  fires_once = λ e f q. (settled (conditions_gathered e) f (gathered-settles e) q).1;
}
