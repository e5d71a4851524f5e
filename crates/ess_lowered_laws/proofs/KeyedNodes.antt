-- What becomes of folds, lists, indices and conditions with plain keys is formed as expressions of models are, where their parts are.
use Rattle.std.proofs.Common.{◌≡◌, refl, sym, subst, nat_le, Bool, true, false, ◌&&◌, not, if◌then◌else◌, Option, Some, None}
use Rattle.ess_semantics.specs.declared.words.Op2.{Op2}
use Rattle.ess_semantics.specs.declared.words.Fun.{Fun}
use Rattle.ess_semantics.specs.Lists.{and_then, or_default, when}
use Rattle.ess_semantics.specs.Names.{Names}
use Rattle.ess_semantics.specs.Trees.{Op, binary, word, matrix_literal, Ex, Exs, truth_ex, node_ex, comp_ex, no_exs, more_exs, Gens, no_gens, over, from, cond, ex2, fun1}
use Rattle.ess_semantics.proofs.Tests.{and-right}
use Rattle.ess_guard_laws.specs.Origins.{Origin}
use Rattle.ess_guard_laws.specs.Conditions.{unless}
use Rattle.ess_grammar.specs.Models.{Scope}
use Rattle.ess_keys_laws.specs.KeyForms.{is_truth, as_index, as_indices, is_settled}
use Rattle.ess_keys_laws.specs.Chains.{is_of_flat_form, chain, all_under_and, has_many, conjuncts_of}
use Rattle.ess_keys_laws.specs.Keyed.{laid, is_bare, are_conditions, connected, all_of, conditions_of, how_many, joined, connective_of, is_folded, fold_of, folded, conjuncts, all_conjuncts, conditions_before}
use Rattle.ess_keys_laws.proofs.Forms.{before-append}
use Rattle.eprime_lowering_laws.specs.Formed.{has_operands}
use Rattle.ess_lowered_laws.proofs.Formed.{IsFormed, AreFormed, GensFormed}

module _ (s : Scope) where
  abbrev F : Ex → Type 0
  F = IsFormed s

  abbrev G : Gens → Type 0
  G = GensFormed s

  -- ---- folds

  -- A list of what is left.
  pub laid-formed : (e : Ex) (gs : Gens) → F e → G gs → F (laid e gs)
  laid-formed e no_gens f g = (refl, (f, tt))
  laid-formed e (over p d gs) f g = (f, g)
  laid-formed e (from p x gs) f g = (f, g)
  laid-formed e (cond c gs) f g = (f, g)

  connected-formed : (o : Op2) (gs : Gens) (e : Ex) → are_conditions gs ≡ true → G gs → F e → F (connected o gs e)
  connected-formed o no_gens e q g f = f
  connected-formed o (over p d gs) e q g f = cc
  connected-formed o (from p x gs) e q g f = cc
  connected-formed o (cond c gs) e q g f = (refl, (g.0, (connected-formed o gs e q g.1 f, tt)))

  all-formed : (gs : Gens) (e : Ex) → are_conditions gs ≡ true → G gs → F e → AreFormed s (all_of gs e)
  all-formed no_gens e q g f = (f, tt)
  all-formed (over p d gs) e q g f = cc
  all-formed (from p x gs) e q g f = cc
  all-formed (cond c gs) e q g f = (g.0, all-formed gs e q g.1 f)

  conditions-alone : (gs : Gens) → are_conditions gs ≡ true → G gs → AreFormed s (conditions_of gs)
  conditions-alone no_gens q g = tt
  conditions-alone (over p d gs) q g = cc
  conditions-alone (from p x gs) q g = cc
  conditions-alone (cond c gs) q g = (g.0, conditions-alone gs q g.1)

  either-formed : (gs : Gens) (e : Ex) (b : Bool) → are_conditions gs ≡ true → G gs → F e →
      F (if b then all_under_and (all_of gs e) else connected Op2.And gs e)
  either-formed gs e true q g f = (refl, ((refl, all-formed gs e q g f), tt))
  either-formed gs e false q g f = connected-formed Op2.And gs e q g f

  led-formed : (gs : Gens) (e : Ex) (b : Bool) → are_conditions gs ≡ true → G gs → F e →
      F (if b then ex2 true Op2.Implies (all_under_and (conditions_of gs)) e else connected Op2.Implies gs e)
  led-formed gs e true q g f = (refl, ((refl, ((refl, conditions-alone gs q g), tt)), (f, tt)))
  led-formed gs e false q g f = connected-formed Op2.Implies gs e q g f

  joined-formed : (o : Op2) (gs : Gens) (e : Ex) → are_conditions gs ≡ true → G gs → F e → F (joined o gs e)
  joined-formed Op2.And gs e q g f = either-formed gs e (nat_le 16 (how_many gs)) q g f
  joined-formed Op2.Implies gs e q g f = led-formed gs e (nat_le 16 (how_many gs)) q g f
  joined-formed o gs e q g f = connected-formed o gs e q g f

  conditions-formed : (b : Bool) (w : Fun) (gs : Gens) (e : Ex) (p : Option Op2) (c : Bool) → (c ≡ true → are_conditions gs ≡ true) →
      G gs → F e → F (or_default (and_then p (λ o. when c (joined o gs e))) (fun1 b w (comp_ex e gs)))
  conditions-formed b w gs e None c q g f = (refl, ((f, g), tt))
  conditions-formed b w gs e (Some o) true q g f = joined-formed o gs e (q refl) g f
  conditions-formed b w gs e (Some o) false q g f = (refl, ((f, g), tt))

  item-formed : (b : Bool) (w : Fun) (e : Ex) (c : Bool) → F e →
      F (or_default (when c e) (fun1 b w (node_ex false matrix_literal (more_exs e no_exs))))
  item-formed b w e true f = f
  item-formed b w e false f = (refl, ((refl, (f, tt)), tt))

  fold-formed : (k : Names Origin) (b : Bool) (w : Fun) (l : Ex) → F l → F (or_default (fold_of k b w l) (fun1 b w l))
  fold-formed k b w (comp_ex e gs) f =
      conditions-formed b w gs e (connective_of b w) (not (is_bare gs) && are_conditions gs)
      (λ q. and-right (not (is_bare gs)) (are_conditions gs) q) f.1 f.0
  fold-formed k b w (node_ex false matrix_literal (more_exs e no_exs)) f = item-formed b w e (is_folded k b w e) f.1.0
  fold-formed k b w l f = (refl, (f, tt))

  -- ---- conjunctions

  chain-formed : (e : Ex) → F e → AreFormed s (chain e)
  chain-formed (ex2 true Op2.And a r) f = (f.1.0, chain-formed r f.1.1.0)
  chain-formed e f = (f, tt)

  conjuncts_of-formed : (e : Ex) → F e → AreFormed s (conjuncts_of e)
  conjuncts_of-formed (fun1 true Fun.And (node_ex false matrix_literal es)) f = f.1.0.1
  conjuncts_of-formed e f = chain-formed e f

  listed-formed : (b : Bool) (x y : Ex) → F x → F y →
      F (or_default (when b (all_under_and (more_exs x (conjuncts_of y)))) (ex2 true Op2.And x y))
  listed-formed true x y f g = (refl, ((refl, (f, conjuncts_of-formed y g)), tt))
  listed-formed false x y f g = (refl, (f, (g, tt)))

  binary-formed : (k : Names Origin) (b : Bool) (o : Op2) (x y : Ex) → F x → F y →
      F (folded k b (binary o) (more_exs x (more_exs y no_exs)))
  binary-formed k true Op2.And x y f g = listed-formed (has_many y && not (is_of_flat_form x && is_of_flat_form y)) x y f g
  binary-formed k b o x y f g = (refl, (f, (g, tt)))

  -- What is left of an operator.
  pub folded-formed : (k : Names Origin) (b : Bool) (op : Op) (es : Exs) → has_operands op es ≡ true → AreFormed s es →
      F (folded k b op es)
  folded-formed k b (word w) (more_exs l no_exs) q f = fold-formed k b w l f.0
  folded-formed k b (word w) no_exs q f = cc
  folded-formed k b (word w) (more_exs l (more_exs m es)) q f = cc
  folded-formed k b (binary o) (more_exs x (more_exs y no_exs)) q f = binary-formed k b o x y f.0 f.1.0
  folded-formed k b (binary o) no_exs q f = cc
  folded-formed k b (binary o) (more_exs x no_exs) q f = cc
  folded-formed k b (binary o) (more_exs x (more_exs y (more_exs z es))) q f = cc
  folded-formed k b op es q f = (q, f)

  -- ---- indices and conditions

  index-formed : (k : Names Origin) (e : Ex) → F e → F (as_index k e)
  index-formed k (truth_ex true) f = tt
  index-formed k (truth_ex false) f = tt
  index-formed k e f = go (is_truth k e)
    where
      go : (b : Bool) → F (if b then fun1 false Fun.ToInt e else e)
      go true = (refl, (f, tt))
      go false = f

  -- Indices of a cell.
  pub indices-formed : (k : Names Origin) (es : Exs) → AreFormed s es → AreFormed s (as_indices k es)
  indices-formed k no_exs f = tt
  indices-formed k (more_exs e es) f = (index-formed k e f.0, indices-formed k es f.1)

  unless-formed : (b : Bool) (c : Ex) (gs : Gens) → F c → G gs → G (conditions_before (unless b c) gs)
  unless-formed true c gs f g = g
  unless-formed false c gs f g = (f, g)

  mutual
    -- A condition as its conjuncts.
    pub conjuncts-formed : (k : Names Origin) (c : Ex) (gs : Gens) → F c → G gs → G (conditions_before (conjuncts k c) gs)
    conjuncts-formed k (ex2 true Op2.And a b) gs f g =
        subst G (sym (before-append (conjuncts k a) (conjuncts k b) gs))
        (conjuncts-formed k a (conditions_before (conjuncts k b) gs) f.1.0 (conjuncts-formed k b gs f.1.1.0 g))
    conjuncts-formed k (fun1 true Fun.And (node_ex false matrix_literal es)) gs f g = all_conjuncts-formed k es gs f.1.0.1 g
    conjuncts-formed k c gs f g = unless-formed (is_settled k c) c gs f g

    all_conjuncts-formed : (k : Names Origin) (es : Exs) (gs : Gens) → AreFormed s es → G gs →
        G (conditions_before (all_conjuncts k es) gs)
    all_conjuncts-formed k no_exs gs f g = g
    all_conjuncts-formed k (more_exs e es) gs f g =
        subst G (sym (before-append (conjuncts k e) (all_conjuncts k es) gs))
        (conjuncts-formed k e (conditions_before (all_conjuncts k es) gs) f.0 (all_conjuncts-formed k es gs f.1 g))
