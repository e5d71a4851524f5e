-- What comes of writing, from what each pass does.
use Rattle.std.proofs.Common.{◌≡◌, refl, sym, ap, ◌∙◌, subst, ℕ, ◌<◌, ◌^◌, Bool, true, false, List, [], Option, Some, None}
use Rattle.std.specs.Prelude.{IfOk, Result}
use Rattle.std.proofs.lemmas.Result.{IfOk-weaker}
use Rattle.ess_semantics.specs.Lists.{when}
use Rattle.ess_semantics.specs.Values.{Text}
use Rattle.ess_semantics.specs.Trees.{Ex}
use Rattle.ess_semantics.specs.Refined.{is_refined}
use Rattle.ess_grammar.specs.Models.{Scope}
use Rattle.ess_simplify_laws.specs.Simplifying.{simplified}
use Rattle.ess_keys_laws.specs.Keyed.{nothing_around, keyed}
use Rattle.eprime_lowering_laws.specs.Lowerable.{is_lowerable}
use Rattle.eprime_lowering.specs.Lowered.{lowered}
use Rattle.conjure_model_laws.specs.Printed.{printed}
use Rattle.ess_refine.specs.ess_rules.Ruled.{IsRuled}
use Rattle.ess_refine.specs.Chains.{Leads}
use Rattle.ess_refine.specs.Refinements.{IsGivenUp}
use Rattle.ess_model_trees.specs.Written.{IsWrittenBy, Prints, PrintsFrom, stuck, unlowered, Comes, ComesFrom}

-- ---- printing

module _ (taken : List Text) (n m : ℕ) (old : Ex) where
  -- Nothing comes of a tree whose refining was given up.
  pub prints_nothing : (last : Ex) → Leads IsRuled n [] old last m → m < 2 ^ 62 → IsGivenUp last m → Prints taken n old None m
  prints_nothing last w f h = record { last = last; leads = w; few = f; given_up = h }

  -- Of a tree in which nothing abstract is left, what each pass makes.
  pub prints_last : (last simple plain again new : Ex) → Leads IsRuled n [] old last m → m < 2 ^ 62 → is_refined last ≡ true
      → simple ≡ simplified last → plain ≡ keyed nothing_around simple → again ≡ simplified plain → new ≡ printed taken again []
      → Prints taken n old (Some new) m
  prints_last last simple plain again new w f h p k a q = record {
    last = last;
    leads = w;
    few = f;
    refined = h;
    writes = q ∙ ap (λ x. printed taken x []) (a ∙ ap simplified (k ∙ ap (keyed nothing_around) p));
  }

-- ---- writing

module _ (s : Scope) (taken : List Text) (n m : ℕ) (old : Ex) where
  -- Nothing comes of a tree whose refining was given up: nothing is printed for it.
  pub comes_nothing : Prints taken n old None m → Comes s taken n old None m
  comes_nothing p = stuck p

  -- Of what is printed, that, where it is an expression of a model.
  pub comes_when : (new : Ex) (b : Bool) → IsWrittenBy taken n old new m → b ≡ is_lowerable s new → Comes s taken n old (when b new) m
  comes_when new true w t = (w, sym t)
  comes_when new false w t = unlowered record { new = new; written = w; not_lowerable = sym t }

  -- The same from what is lowered.
  pub comes_lowered : (new : Ex) (o : Option Ex) → Prints taken n old (Some new) m → o ≡ lowered s new → Comes s taken n old o m
  comes_lowered new o p r = subst (λ x. Comes s taken n old x m) (sym r) (comes_when new (is_lowerable s new) p refl)

-- What comes of writing the tree that another one is, from the number on that another one is.
pub comes_from : {A E : Type 0} (r : Result A E) (view : A → Option Ex) (s : Scope) (taken : List Text) (k n m : ℕ) (tree old : Ex)
    → k ≡ n → tree ≡ old → IfOk r (λ o. Comes s taken k tree (view o) m) → IfOk r (λ o. ComesFrom s taken n old (view o))
comes_from r view s taken k n m tree old p q h =
    IfOk-weaker r (λ o. Comes s taken k tree (view o) m) (λ o. ComesFrom s taken n old (view o))
    (λ o w. (m, subst (λ x. Comes s taken n x (view o) m) q (subst (λ x. Comes s taken x tree (view o) m) p w))) h

-- What comes of printing the tree that another one is, from the number on that another one is.
pub prints_from : {A E : Type 0} (r : Result A E) (view : A → Option Ex) (taken : List Text) (k n m : ℕ) (tree old : Ex)
    → k ≡ n → tree ≡ old → IfOk r (λ o. Prints taken k tree (view o) m) → IfOk r (λ o. PrintsFrom taken n old (view o))
prints_from r view taken k n m tree old p q h =
    IfOk-weaker r (λ o. Prints taken k tree (view o) m) (λ o. PrintsFrom taken n old (view o))
    (λ o w. (m, subst (λ x. Prints taken n x (view o) m) q (subst (λ x. Prints taken x tree (view o) m) p w))) h
