-- The least and the greatest under a condition that reads cells, by the parts of the root that the code finds.
use Rattle.std.proofs.Common.{◌≡◌, refl, sym, ap, ◌∙◌, subst, ℕ, ◌≤◌, true, false, List, [], Option, Some, None, arith}
use Rattle.std.specs.Prelude.{option_map}
use Rattle.ess_semantics.specs.declared.words.Fun.{Fun}
use Rattle.ess_semantics.specs.Values.{Text}
use Rattle.ess_semantics.specs.Trees.{word, Ex, node_ex, comp_ex, more_exs, fun1, Gens, Dom}
use Rattle.ess_core_nodes.specs.declared.nodes.Node.{Node}
use Rattle.ess_core_nodes.specs.NodeViews.{pure_node}
use Rattle.conjure_model_laws.specs.ToldApart.{told_apart, told}
use Rattle.ess_refine_laws.specs.LeavingConditions.{Parted, at_last_condition}
use Rattle.ess_refine_laws.specs.Copies.{opposite_of}
use Rattle.ess_refine_laws.specs.ExtremeRules.{extreme_condition}
use Rattle.ess_refine_laws.specs.AllRules.{Supply, opposite_copied}
use Rattle.ess_rules_forms.specs.Forms.{plain_word}
use Rattle.ess_rules_folds.specs.Forms.{comp_parts}
use Rattle.ess_rules_listings.specs.Offered.{supply_of}
use Rattle.ess_rules.specs.Ruled.{behind_copy}
use Rattle.ess_rules.specs.Supplies.{IsRewrittenBehind}
use Rattle.ess_rules.specs.WaitingConditions.{may_leave}

-- ---- the parts

word-is : (a : Ex) (f : Fun) (l : Ex) → plain_word a ≡ Some (f, l) → a ≡ fun1 false f l
word-is (fun1 false f l) h k e =
    ap (λ u. elim u [ Some v ↦ fun1 false v.0 l | None ↦ fun1 false f l ]) e
    ∙ ap (λ u. elim u [ Some v ↦ fun1 false h v.1 | None ↦ fun1 false f l ]) e
word-is a h k e = cc

comp-is : (a e : Ex) (gs : Gens) → comp_parts a ≡ Some (e, gs) → a ≡ comp_ex e gs
comp-is (comp_ex e gs) f hs h =
    ap (λ u. elim u [ Some v ↦ comp_ex v.0 gs | None ↦ comp_ex e gs ]) h
    ∙ ap (λ u. elim u [ Some v ↦ comp_ex f v.1 | None ↦ comp_ex e gs ]) h
comp-is a f hs h = cc

-- ---- where the rule doesn't fire

wordless : (m a : Ex) → plain_word a ≡ None → extreme_condition m a ≡ None
wordless m (fun1 false f l) h = cc
wordless m (node_ex false (word f) (more_exs (comp_ex e gs) (more_exs x es))) h = refl
wordless m a h = refl

listless : (m : Ex) (f : Fun) (l : Ex) → comp_parts l ≡ None → extreme_condition m (fun1 false f l) ≡ None
listless m f (comp_ex e gs) h = cc
listless m f l h = refl

unconditional : (m : Ex) (f : Fun) (e : Ex) (gs : Gens) → at_last_condition gs ≡ None
    → extreme_condition m (fun1 false f (comp_ex e gs)) ≡ None
unconditional m f e gs h = on-none (at_last_condition gs) _ h
  where
    on-none : (o : Option Parted) (made : Parted → Option Ex) → o ≡ None
        → elim o as (λ x. Option Ex) [ None ↦ None | Some t ↦ made t ] ≡ None
    on-none None made k = refl
    on-none (Some t) made k = cc

module _ (s : Supply) (a : Ex) (j k : ℕ) where
  -- At what is no word.
  pub no_word : plain_word a ≡ None → IsRewrittenBehind s a None j k
  no_word h m = wordless (opposite_copied s a) a h

  -- At a word of no list of its own.
  pub no_list : (f : Fun) (l : Ex) → plain_word a ≡ Some (f, l) → comp_parts l ≡ None → IsRewrittenBehind s a None j k
  no_list f l h p m =
      ap (extreme_condition (opposite_copied s a)) (word-is a f l h) ∙ listless (opposite_copied s a) f l p

  -- Where no condition reads cells.
  pub no_condition : (f : Fun) (l e : Ex) (gs : Gens) → plain_word a ≡ Some (f, l) → comp_parts l ≡ Some (e, gs)
      → at_last_condition gs ≡ None → IsRewrittenBehind s a None j k
  no_condition f l e gs h p q m =
      ap (extreme_condition (opposite_copied s a)) (word-is a f l h ∙ ap (fun1 false f) (comp-is l e gs p))
      ∙ unconditional (opposite_copied s a) f e gs q

  -- Where it has to wait.
  pub not_yet : false ≡ may_leave a → IsRewrittenBehind s a None j k
  not_yet h m = let n : false ≡ true = h ∙ m in cc

-- ---- where it does

-- The copy that is taken, and the number behind its names.
copied : (s : Supply) (f : Fun) (e : Ex) (gs : Gens) (t : Parted) → at_last_condition gs ≡ Some t
    → opposite_copied s (fun1 false f (comp_ex e gs)) ≡ s.copy (opposite_of f e t)
copied s f e gs t h = ap (λ u. elim u [ None ↦ fun1 false f (comp_ex e gs) | Some v ↦ s.copy (opposite_of f e v) ]) h

behind : (j : ℕ) (f : Fun) (e : Ex) (gs : Gens) (t : Parted) → at_last_condition gs ≡ Some t
    → behind_copy j (fun1 false f (comp_ex e gs)) ≡ (told (opposite_of f e t) [] j).1
behind j f e gs t h = ap (λ u. elim u [ None ↦ j | Some v ↦ (told (opposite_of f e v) [] j).1 ]) h

least-of : (s : Supply) (a m : Ex) (j k : ℕ) (o : Option Node) → opposite_copied s a ≡ m → behind_copy j a ≡ k → true ≡ may_leave a
    → option_map pure_node o ≡ extreme_condition m a → IsRewrittenBehind s a (option_map pure_node o) j k
least-of s a m j k None p q w h = λ n. ap (λ v. extreme_condition v a) p ∙ sym h
least-of s a m j k (Some x) p q w h =
    (ap (λ v. extreme_condition v a) p ∙ sym h, subst (λ v. v ≤ k) (sym q) (omega arith), sym w)

-- What the rule makes, by the parts of the root and the copy.
pub least_ruled : (y z w : Text) (ys : List Text) (d : Ex → Dom) (a : Ex) (j k : ℕ) (f : Fun) (l e p m : Ex) (gs : Gens) (t : Parted)
    (o : Option Node) → plain_word a ≡ Some (f, l) → comp_parts l ≡ Some (e, gs) → at_last_condition gs ≡ Some t → true ≡ may_leave a
    → p ≡ opposite_of f e t → m ≡ (told p [] j).0 → k ≡ (told p [] j).1 → option_map pure_node o ≡ extreme_condition m a
    → IsRewrittenBehind (supply_of y z w ys d (told_apart j)) a (option_map pure_node o) j k
least_ruled y z w ys d a j k f l e p m gs t o q r u x v b c h =
    let i : a ≡ fun1 false f (comp_ex e gs) = word-is a f l q ∙ ap (fun1 false f) (comp-is l e gs r) in
    least-of (supply_of y z w ys d (told_apart j)) a m j k o
    (ap (opposite_copied (supply_of y z w ys d (told_apart j))) i ∙ copied (supply_of y z w ys d (told_apart j)) f e gs t u
    ∙ ap (told_apart j) (sym v) ∙ sym b)
    (ap (behind_copy j) i ∙ behind j f e gs t u ∙ ap (λ x. (told x [] j).1) (sym v) ∙ sym c) x h
