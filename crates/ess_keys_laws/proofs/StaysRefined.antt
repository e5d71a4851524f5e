-- Refined trees stay so with plain keys.
use Rattle.std.proofs.Common.{◌≡◌, refl, ap, ◌∙◌, subst, Bool, true, false, ◌&&◌, ◌||◌, if◌then◌else◌, []}
use Rattle.std.proofs.Common.{Option, Some, None, ◌⊎◌, inl, inr}
use Rattle.ess_semantics.specs.declared.words.Op2.{Op2}
use Rattle.ess_semantics.specs.declared.words.Fun.{Fun}
use Rattle.ess_semantics.specs.Lists.{or_default}
use Rattle.ess_semantics.specs.Values.{Text}
use Rattle.ess_semantics.specs.Order.{same_text}
use Rattle.ess_semantics.specs.Names.{Names, look}
use Rattle.ess_semantics.specs.Trees.{word, matrix_literal, is_truth_op, Pat, name_pat, tuple_pat}
use Rattle.ess_semantics.specs.Trees.{Ex, Exs, number_ex, truth_ex, name_ex, node_ex, matrix_ex, comp_ex, cell_ex, seen_ex, no_exs}
use Rattle.ess_semantics.specs.Trees.{more_exs, Gens, no_gens, over, from, cond, Dom, bool_dom, int_dom, name_dom, ex2, fun1}
use Rattle.ess_semantics.specs.Operators.{iff}
use Rattle.ess_semantics.specs.Kinds.{is_bounded}
use Rattle.ess_semantics.specs.Refined.{is_scalar_op, is_list_op, is_refined, are_refined, is_refined_list, are_refined_lists}
use Rattle.ess_semantics.specs.Refined.{are_refined_gens}
use Rattle.ess_semantics.proofs.Tests.{and-left, and-right, and-both}
use Rattle.ess_guard_laws.specs.Origins.{Origin, is_sure}
use Rattle.ess_guard_laws.specs.Conditions.{unless}
use Rattle.ess_keys_laws.specs.KeyForms.{is_truth, as_index, as_indices, is_settled, key_of}
use Rattle.ess_keys_laws.specs.Keyed.{Around, key_for, key_now, if_sure, sure_key, entered, entered_any, conjuncts, all_conjuncts}
use Rattle.ess_keys_laws.specs.Keyed.{conditions_before}
use Rattle.ess_keys_laws.specs.Keyed.{generator_before, keyed, keyed_all, keyed_gens, keyed_behind, keyed_dom}
use Rattle.ess_keys_laws.proofs.Forms.{before-append}
use Rattle.ess_keys_laws.proofs.FoldsRefined.{scalar-node, laid-refined, folded-list, folded-scalar}

-- ---- indices

index-chosen : (e : Ex) (b : Bool) → is_refined e ≡ true → is_refined (if b then fun1 false Fun.ToInt e else e) ≡ true
index-chosen e true t = scalar-node false (word Fun.ToInt) (more_exs e no_exs) refl refl (and-both (is_refined e) true t refl)
index-chosen e false t = t

index-refined : (k : Names Origin) (e : Ex) → is_refined e ≡ true → is_refined (as_index k e) ≡ true
index-refined k (truth_ex true) t = refl
index-refined k (truth_ex false) t = refl
index-refined k (number_ex n) t = refl
index-refined k (name_ex a) t = index-chosen (name_ex a) (is_truth k (name_ex a)) t
index-refined k (node_ex b op es) t = index-chosen (node_ex b op es) b t
index-refined k (cell_ex b n es) t = index-chosen (cell_ex b n es) b t
index-refined k (matrix_ex es d) t = cc
index-refined k (comp_ex e gs) t = cc
index-refined k (seen_ex r d ns es) t = cc

indices-refined : (k : Names Origin) (es : Exs) → are_refined es ≡ true → are_refined (as_indices k es) ≡ true
indices-refined k no_exs t = refl
indices-refined k (more_exs e es) t =
    and-both (is_refined (as_index k e)) (are_refined (as_indices k es)) (index-refined k e (and-left (is_refined e) (are_refined es) t))
    (indices-refined k es (and-right (is_refined e) (are_refined es) t))

-- ---- conditions

two-parts : (x y : Bool) → (x && (y && true)) || false ≡ true → (x ≡ true) × (y ≡ true)
two-parts true true e = (refl, refl)
two-parts true false e = cc
two-parts false y e = cc

unless-refined : (b : Bool) (c : Ex) (gs : Gens) → is_refined c ≡ true → are_refined_gens gs ≡ true
    → are_refined_gens (conditions_before (unless b c) gs) ≡ true
unless-refined true c gs p q = q
unless-refined false c gs p q = and-both (is_refined c) (are_refined_gens gs) p q

mutual
  conjuncts-refined : (k : Names Origin) (c : Ex) (gs : Gens) → is_refined c ≡ true → are_refined_gens gs ≡ true
      → are_refined_gens (conditions_before (conjuncts k c) gs) ≡ true
  conjuncts-refined k (ex2 true Op2.And a b) gs p q =
      let r = two-parts (is_refined a) (is_refined b) p in
      ap are_refined_gens (before-append (conjuncts k a) (conjuncts k b) gs)
      ∙ conjuncts-refined k a (conditions_before (conjuncts k b) gs) r.0 (conjuncts-refined k b gs r.1 q)
  conjuncts-refined k (fun1 true Fun.And (node_ex false matrix_literal es)) gs p q =
      all_conjuncts-refined k es gs (and-left (are_refined es) true p) q
  conjuncts-refined k c gs p q = unless-refined (is_settled k c) c gs p q

  all_conjuncts-refined : (k : Names Origin) (es : Exs) (gs : Gens) → are_refined es ≡ true → are_refined_gens gs ≡ true
      → are_refined_gens (conditions_before (all_conjuncts k es) gs) ≡ true
  all_conjuncts-refined k no_exs gs p q = q
  all_conjuncts-refined k (more_exs e es) gs p q =
      ap are_refined_gens (before-append (conjuncts k e) (all_conjuncts k es) gs)
      ∙ conjuncts-refined k e (conditions_before (all_conjuncts k es) gs) (and-left (is_refined e) (are_refined es) p)
      (all_conjuncts-refined k es gs (and-right (is_refined e) (are_refined es) p) q)

-- ---- keys

-- All keys are refined.
abbrev Keys : Names Ex → Type 0
Keys s = (a : Text) (t : Ex) → look s a ≡ Some t → is_refined t ≡ true

key-refined : (s : Names Ex) → Keys s → (a : Text) → is_refined (key_for s a) ≡ true
key-refined s h a = go (look s a) refl
  where
    go : (o : Option Ex) → look s a ≡ o → is_refined (or_default (look s a) (name_ex a)) ≡ true
    go None q = ap (λ o. is_refined (or_default o (name_ex a))) q
    go (Some t) q = ap (λ o. is_refined (or_default o (name_ex a))) q ∙ h a t q

sure-refined : (k : Names Origin) (u : Ex) (d : Dom) → is_sure k u d ≡ true → is_refined u ≡ true
sure-refined k (number_ex n) d t = refl
sure-refined k (name_ex a) d t = refl
sure-refined k u d t = cc

asked-refined : (c : Around) (d : Dom) (o : Option Ex) (x : Ex) → if_sure c d o ≡ Some x → is_refined x ≡ true
asked-refined c d None x e = cc
asked-refined c d (Some t) x e = go (is_sure c.origins (key_now c.keys t) d) refl e
  where
    go : (b : Bool) → is_sure c.origins (key_now c.keys t) d ≡ b → (if b then Some (key_now c.keys t) else None) ≡ Some x
        → is_refined x ≡ true
    go true q e =
        subst (λ z. is_refined z
        ≡ true) (ap (λ o. elim o [ None ↦ key_now c.keys t | Some z ↦ z ]) e) (sure-refined c.origins (key_now c.keys t) d q)
    go false q e = cc

entered-keys : (c : Around) (p : Pat) (d : Dom) (gs : Gens) (o : Option Ex) → sure_key c p d gs ≡ o → Keys c.keys
    → Keys (entered c p d o).keys
entered-keys c p d gs None q h = h
entered-keys c (tuple_pat ps) d gs (Some x) q h = h
entered-keys c (name_pat j) d gs (Some x) q h = λ a t e. go (same_text j a) a t e (h a t)
  where
    go : (b : Bool) (a : Text) (t : Ex) → (if b then Some x else look c.keys a) ≡ Some t → (look c.keys a ≡ Some t → is_refined t ≡ true)
        → is_refined t ≡ true
    go true a t e f = subst (λ z. is_refined z ≡ true) (ap (λ o. elim o [ None ↦ x | Some z ↦ z ]) e) (asked-refined c d (key_of j gs) x q)
    go false a t e f = f e

behind-keys : (gs : Gens) (c : Around) → Keys c.keys → Keys (keyed_behind c gs).keys
behind-keys no_gens c h = h
behind-keys (over p d gs) c h =
    behind-keys gs (entered c p (keyed_dom c d) (sure_key c p (keyed_dom c d) gs))
    (entered-keys c p (keyed_dom c d) gs (sure_key c p (keyed_dom c d) gs) refl h)
behind-keys (from p e gs) c h = behind-keys gs (entered_any c p) h
behind-keys (cond e gs) c h = behind-keys gs c h

generator-refined : (a : Text) (d : Dom) (o : Option Ex) (gs : Gens) → are_refined_gens gs ≡ true
    → are_refined_gens (over (name_pat a) d gs) ≡ true
    → are_refined_gens (generator_before (name_pat a) d o gs) ≡ true
generator-refined a d (Some t) gs p q = p
generator-refined a d None gs p q = q

-- ---- trees

either-way : (a b c d : Bool) → (a && b) || (c && d) ≡ true → ((a ≡ true) × (b ≡ true)) ⊎ ((c ≡ true) × (d ≡ true))
either-way true true c d e = inl (refl, refl)
either-way true false true true e = inr (refl, refl)
either-way true false true false e = cc
either-way true false false d e = cc
either-way false b true true e = inr (refl, refl)
either-way false b true false e = cc
either-way false b false d e = cc

mutual
  pub keyed-refined : (e : Ex) (c : Around) → Keys c.keys → is_refined e ≡ true → is_refined (keyed c e) ≡ true
  keyed-refined (number_ex n) c h t = refl
  keyed-refined (truth_ex b) c h t = refl
  keyed-refined (name_ex a) c h t = key-refined c.keys h a
  keyed-refined (cell_ex b n es) c h t = indices-refined c.origins (keyed_all c es) (all-refined es c h t)
  keyed-refined (node_ex b op es) c h t =
      elim (either-way (is_scalar_op op) (are_refined es) (is_list_op op) (are_refined_lists es) (and-right (iff b (is_truth_op op)) _ t)) [
        | inl p ↦ folded-scalar c.origins b op (keyed_all c es) (and-left (iff b (is_truth_op op)) _ t) p.0 (all-refined es c h p.1)
        | inr p ↦ folded-list c.origins b op (keyed_all c es) (and-left (iff b (is_truth_op op)) _ t) p.0 (lists-refined es c h p.1)
      ]
  keyed-refined (matrix_ex es d) c h t = cc
  keyed-refined (comp_ex e gs) c h t = cc
  keyed-refined (seen_ex r d ns es) c h t = cc

  all-refined : (es : Exs) (c : Around) → Keys c.keys → are_refined es ≡ true → are_refined (keyed_all c es) ≡ true
  all-refined no_exs c h t = refl
  all-refined (more_exs e es) c h t =
      and-both (is_refined (keyed c e)) (are_refined (keyed_all c es)) (keyed-refined e c h (and-left (is_refined e) (are_refined es) t))
      (all-refined es c h (and-right (is_refined e) (are_refined es) t))

  list-refined : (e : Ex) (c : Around) → Keys c.keys → is_refined_list e ≡ true → is_refined_list (keyed c e) ≡ true
  list-refined (comp_ex e gs) c h t =
      laid-refined (keyed (keyed_behind c gs) e) (keyed_gens c gs)
      (keyed-refined e (keyed_behind c gs) (behind-keys gs c h) (and-left (is_refined e) (are_refined_gens gs) t))
      (gens-refined gs c h (and-right (is_refined e) (are_refined_gens gs) t))
  list-refined (node_ex false matrix_literal es) c h t = all-refined es c h t
  list-refined e c h t = cc

  lists-refined : (es : Exs) (c : Around) → Keys c.keys → are_refined_lists es ≡ true → are_refined_lists (keyed_all c es) ≡ true
  lists-refined no_exs c h t = refl
  lists-refined (more_exs e es) c h t =
      and-both (is_refined_list (keyed c e)) (are_refined_lists (keyed_all c es))
      (list-refined e c h (and-left (is_refined_list e) (are_refined_lists es) t))
      (lists-refined es c h (and-right (is_refined_list e) (are_refined_lists es) t))

  gens-refined : (gs : Gens) (c : Around) → Keys c.keys → are_refined_gens gs ≡ true → are_refined_gens (keyed_gens c gs) ≡ true
  gens-refined no_gens c h t = refl
  gens-refined (over (name_pat a) bool_dom gs) c h t =
      let n = sure_key c (name_pat a) bool_dom gs in
      let r = gens-refined gs (entered c (name_pat a) bool_dom n) (entered-keys c (name_pat a) bool_dom gs n refl h) t in
      generator-refined a bool_dom n (keyed_gens (entered c (name_pat a) bool_dom n) gs) r r
  gens-refined (over (name_pat a) (name_dom m) gs) c h t =
      let n = sure_key c (name_pat a) (name_dom m) gs in
      let r = gens-refined gs (entered c (name_pat a) (name_dom m) n) (entered-keys c (name_pat a) (name_dom m) gs n refl h) t in
      generator-refined a (name_dom m) n (keyed_gens (entered c (name_pat a) (name_dom m) n) gs) r r
  gens-refined (over (name_pat a) (int_dom rs es) gs) c h t =
      let d = int_dom rs (keyed_all c es) in
      let n = sure_key c (name_pat a) d gs in
      let b = and-left (is_bounded rs && are_refined es) (are_refined_gens gs) t in
      let r = gens-refined gs (entered c (name_pat a) d n) (entered-keys c (name_pat a) d gs n refl h)
      (and-right (is_bounded rs && are_refined es) (are_refined_gens gs) t) in
      generator-refined a d n (keyed_gens (entered c (name_pat a) d n) gs) r
      (and-both (is_bounded rs && are_refined (keyed_all c es)) (are_refined_gens (keyed_gens (entered c (name_pat a) d n) gs))
      (and-both (is_bounded rs) (are_refined (keyed_all c es)) (and-left (is_bounded rs) (are_refined es) b)
      (all-refined es c h (and-right (is_bounded rs) (are_refined es) b))) r)
  gens-refined (cond e gs) c h t =
      conjuncts-refined c.origins (keyed c e) (keyed_gens c gs) (keyed-refined e c h (and-left (is_refined e) (are_refined_gens gs) t))
      (gens-refined gs c h (and-right (is_refined e) (are_refined_gens gs) t))
  gens-refined gs c h t = cc

-- No names have keys.
pub no-keys : Keys []
no-keys a t e = cc
