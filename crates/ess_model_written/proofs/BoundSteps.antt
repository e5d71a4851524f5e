-- What bounds become, one by one.
use Rattle.std.proofs.Common.{◌≡◌, sym, ap, ◌∙◌, subst, ℕ, zero, suc, ◌+◌, ◌<◌, ◌≤◌, inl, inr, List, [], ◌∷◌, ◌++◌, length, map, take, get_or, Some, None, arith}
use Rattle.std.proofs.lemmas.List.{take_more, map_push, take_all}
use Rattle.ess_semantics.specs.Values.{Text}
use Rattle.ess_semantics.specs.Trees.{Ex}
use Rattle.ess_core.specs.TreeViews.{exs_of}
use Rattle.ess_core_nodes.specs.declared.nodes.Node.{Node}
use Rattle.ess_core_nodes.specs.NodeViews.{pure_node, pure_nodes}
use Rattle.ess_model_written.specs.Bounds.{BoundPrints, EachPrints, OneSticks}

module _ (taken : List Text) (k : ℕ) where
  -- What these become is that.
  pub record EachOf (es fs : List Node) : Type 0 where
    pub each : EachPrints taken k (pure_nodes es) (pure_nodes fs)

  push : (es fs : List Ex) (e f : Ex) → EachPrints taken k (exs_of es) (exs_of fs) → BoundPrints taken k e (Some f)
      → EachPrints taken k (exs_of (es ++ e ∷ [])) (exs_of (fs ++ f ∷ []))
  push [] [] e f h p = (p, tt)
  push (x ∷ es) (y ∷ fs) e f h p = (h.0, push es fs e f h.1 p)
  push [] (y ∷ fs) e f h p = absurd h
  push (x ∷ es) [] e f h p = absurd h

  -- At first there are none.
  pub none_printed : EachOf [] []
  none_printed = record { each = tt }

  -- One bound more.
  pub bound_more : (es : List Node) (i : ℕ) (e f : Node) (done new : List Node) → i < length es → e ≡ get_or es i e
      → BoundPrints taken k (pure_node e) (Some (pure_node f)) → new ≡ done ++ f ∷ [] → EachOf (take i es) done
      → EachOf (take (i + 1) es) new
  bound_more es i e f done new lt is p n h =
      let more : map pure_node (take (i + 1) es) ≡ map pure_node (take i es) ++ pure_node e ∷ [] =
      ap (map pure_node) (take_more es i e lt ∙ ap (λ x. take i es ++ x ∷ []) (sym is)) ∙ map_push pure_node (take i es) e in
      let longer : map pure_node new ≡ map pure_node done ++ pure_node f ∷ [] = ap (map pure_node) n ∙ map_push pure_node done f in
      record {
        each = subst (λ l. EachPrints taken k (exs_of l) (pure_nodes new)) (sym more)
            (subst (λ l. EachPrints taken k (exs_of (map pure_node (take i es) ++ pure_node e ∷ [])) (exs_of l)) (sym longer)
            (push (map pure_node (take i es)) (map pure_node done) (pure_node e) (pure_node f) h.each p));
      }

  -- All of them.
  pub all_printed : (es done : List Node) (i : ℕ) → length es ≤ i → EachOf (take i es) done
      → EachPrints taken k (pure_nodes es) (pure_nodes done)
  all_printed es done i h p = subst (λ l. EachPrints taken k (pure_nodes l) (pure_nodes done)) (take_all i es h) p.each

  -- One sticks.
  pub bound_stuck : (es : List Node) (i : ℕ) (e : Node) → i < length es → e ≡ get_or es i e → BoundPrints taken k (pure_node e) None
      → OneSticks taken k (pure_nodes es)
  bound_stuck [] i e lt is p = absurd (omega (arith, lt))
  bound_stuck (x ∷ es) zero e lt is p = inl (subst (λ y. BoundPrints taken k (pure_node y) None) is p)
  bound_stuck (x ∷ es) (suc i) e lt is p = inr (bound_stuck es i e (omega (arith, lt)) is p)

-- The steps of the loop.
pub ruleset bound_steps = (none_printed, bound_more, all_printed)
