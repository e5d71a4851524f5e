-- What tells an index domain stays with the Booleans of a tree guarded.
use Rattle.std.proofs.Common.{◌≡◌, refl, ap, ◌∙◌, Bool, true, false, ◌&&◌, not, if◌then◌else◌, List, [], ◌∷◌, Option, None, is_some}
use Rattle.ess_semantics.specs.Values.{Text}
use Rattle.ess_semantics.specs.Names.{Names}
use Rattle.ess_semantics.specs.Trees.{Step, by_value, to_component, to_field, Op, index, application, tuple_literal, function_literal, matrix_literal, Ex, Exs, number_ex, truth_ex, name_ex, node_ex, matrix_ex, comp_ex, cell_ex, seen_ex, no_exs, more_exs, Dom}
use Rattle.ess_semantics.proofs.Tests.{and-left, and-right, and-both}
use Rattle.ess_guard_laws.specs.Origins.{Origin}
use Rattle.ess_guard_laws.specs.IndexDomains.{item_dom, dom_behind, dom_followed, first_index, plain_axis}
use Rattle.ess_guard_laws.specs.Conditions.{chained, at_step}
use Rattle.ess_guard_laws.specs.Guard.{connects, guarded, guarded_all, conditions_all}
use Rattle.ess_guard_laws.proofs.RelationTerms.{relation-kept}
use Rattle.ess_guard_laws.specs.Covered.{has_axis, path_has_axes, is_pair, are_pairs, covers}

module _ (natural : Bool) (x y : Text) where
  abbrev G : Names Origin → Ex → Ex
  G = guarded natural x y

  abbrev Gs : Names Origin → Exs → Exs
  Gs = guarded_all natural x y

  behind-kept : (o : Option Dom) (qs : List Step) (is : Exs) (k : Names Origin) → dom_behind o qs (Gs k is) ≡ dom_behind o qs is
  behind-kept o [] no_exs k = refl
  behind-kept o [] (more_exs i is) k = refl
  behind-kept o (by_value ∷ qs) no_exs k = refl
  behind-kept o (by_value ∷ qs) (more_exs i is) k = behind-kept (item_dom o) qs is k
  behind-kept o (to_component c ∷ qs) is k = refl
  behind-kept o (to_field a ∷ qs) is k = refl

  chosen : (t : Bool) (cs : List Ex) (op : Op) (es : Exs) → dom_followed (if t then chained cs (node_ex true op es) else node_ex true op es) ≡ None
  chosen true [] op es = refl
  chosen true (c ∷ cs) op es = refl
  chosen false cs op es = refl

  followed-kept : (m : Ex) (k : Names Origin) → dom_followed (G k m) ≡ dom_followed m
  followed-kept (number_ex n) k = refl
  followed-kept (truth_ex b) k = refl
  followed-kept (name_ex a) k = refl
  followed-kept (node_ex true op es) k = chosen (true && not (connects op)) _ op (Gs k es)
  followed-kept (node_ex false (index qs) no_exs) k = refl
  followed-kept (node_ex false (index qs) (more_exs m is)) k = ap (λ o. dom_behind o qs (Gs k is)) (followed-kept m k) ∙ behind-kept (dom_followed m) qs is k
  followed-kept (node_ex false op es) k = refl
  followed-kept (matrix_ex es d) k = refl
  followed-kept (comp_ex e gs) k = refl
  followed-kept (cell_ex true n es) k = go (conditions_all natural x y k false es)
    where
      go : (cs : List Ex) → dom_followed (chained cs (cell_ex true n (Gs k es))) ≡ None
      go [] = refl
      go (c ∷ cs) = refl
  followed-kept (cell_ex false n es) k = refl
  followed-kept (seen_ex r d ns es) k = refl

  axis-kept : (m : Ex) (k : Names Origin) → has_axis m ≡ true → has_axis (G k m) ≡ true
  axis-kept (node_ex false matrix_literal es) k t = refl
  axis-kept (comp_ex e gs) k t = refl
  axis-kept (matrix_ex es d) k t = refl
  axis-kept (seen_ex r d ns es) k t = t
  axis-kept (node_ex false (index qs) (more_exs m is)) k t = ap (λ o. is_some (plain_axis (first_index o))) (followed-kept (node_ex false (index qs) (more_exs m is)) k) ∙ t
  axis-kept m k t = cc

  -- Two terms that tell the same.
  abbrev Alike : Ex → Ex → Type 0
  Alike m n = (dom_followed n ≡ dom_followed m) × (has_axis m ≡ true → has_axis n ≡ true)

  step-alike : (m n i j : Ex) → Alike m n → Alike (at_step by_value m (more_exs i no_exs)) (at_step by_value n (more_exs j no_exs))
  step-alike m n i j a = (ap item_dom a.0, λ t. ap (λ o. is_some (plain_axis (first_index (item_dom o)))) a.0 ∙ t)

  path-kept : (m n : Ex) (qs : List Step) (is : Exs) (k : Names Origin) → Alike m n → path_has_axes m qs is ≡ true → path_has_axes n qs (Gs k is) ≡ true
  path-kept m n [] is k a t = refl
  path-kept m n (by_value ∷ qs) no_exs k a t = refl
  path-kept m n (by_value ∷ qs) (more_exs i is) k a t = and-both (has_axis n) (path_has_axes (at_step by_value n (more_exs (G k i) no_exs)) qs (Gs k is))
      (a.1 (and-left (has_axis m) (path_has_axes (at_step by_value m (more_exs i no_exs)) qs is) t))
      (path-kept (at_step by_value m (more_exs i no_exs)) (at_step by_value n (more_exs (G k i) no_exs)) qs is k (step-alike m n i (G k i) a) (and-right (has_axis m) (path_has_axes (at_step by_value m (more_exs i no_exs)) qs is) t))
  path-kept m n (to_component c ∷ qs) is k a t = path-kept (at_step (to_component c) m no_exs) (at_step (to_component c) n no_exs) qs is k (refl, λ z. z) t
  path-kept m n (to_field f ∷ qs) is k a t = path-kept (at_step (to_field f) m no_exs) (at_step (to_field f) n no_exs) qs is k (refl, λ z. z) t

  pair-kept : (e : Ex) (k : Names Origin) → is_pair e ≡ true → is_pair (G k e) ≡ true
  pair-kept (node_ex false tuple_literal (more_exs a (more_exs b no_exs))) k t = refl
  pair-kept e k t = cc

  -- Pairs stay pairs.
  pub pairs-kept : (es : Exs) (k : Names Origin) → are_pairs es ≡ true → are_pairs (Gs k es) ≡ true
  pairs-kept no_exs k t = refl
  pairs-kept (more_exs e es) k t = and-both (is_pair (G k e)) (are_pairs (Gs k es)) (pair-kept e k (and-left (is_pair e) (are_pairs es) t)) (pairs-kept es k (and-right (is_pair e) (are_pairs es) t))

  -- So an operator is covered still.
  pub covers-kept : (op : Op) (es : Exs) (k : Names Origin) → covers op es ≡ true → covers op (Gs k es) ≡ true
  covers-kept (index qs) no_exs k t = refl
  covers-kept (index qs) (more_exs m is) k t = path-kept m (G k m) qs is k (followed-kept m k, axis-kept m k) t
  covers-kept application (more_exs f es) k t = relation-kept natural x y f k t
  covers-kept function_literal es k t = pairs-kept es k t
  covers-kept op es k t = refl
