-- A test of trees of names and operators by which no rule fires at any part of one. For worked examples: it asks each rule.
use Rattle.std.proofs.Common.{◌≡◌, refl, sym, subst, ℕ, ◌+◌, Bool, true, false, ◌&&◌, not, List, [], ◌∷◌, Option, Some, None, is_some}
use Rattle.std.proofs.lemmas.Bool.{false≢true}
use Rattle.ess_semantics.specs.Trees.{Ex, Exs, number_ex, truth_ex, name_ex, node_ex, matrix_ex, comp_ex, cell_ex, seen_ex, no_exs, more_exs}
use Rattle.ess_semantics.specs.Contexts.{In, hole, in_operand, in_item, in_index_domain, in_body, in_generators, in_cell_index, in_view_domain, in_view_index, Ins, in_first, in_later, fill, fill_exs}
use Rattle.ess_semantics.specs.NamesAt.{names_at, names_at_exs}
use Rattle.ess_semantics.proofs.Tests.{and-left, and-right}
use Rattle.ess_refine.specs.ess_rules.Ruled.{Ruling, supply_at, ruled, root_of, rules_asked, NoneOf, NoneFires}
use Rattle.ess_refine.specs.Settled.{Settled}

-- ---- the test

-- None of the rules makes anything of the root by f.
abbrev is_none_of : (Ruling → Ex → Option Ex) → List Ruling → Ex → Bool
is_none_of f [] a = true
is_none_of f (r ∷ rs) a = not (is_some (f r a)) && is_none_of f rs a

-- What a rule makes of the root with three reserved names from the m-th on, and none for components.
abbrev made : ℕ → Ruling → Ex → Option Ex
made m r a = ruled (supply_at m 0) [] r (root_of (m + 3 + 0) r a)

abbrev mutual
  -- No rule fires at any part of the tree: it is made of names and operators alone.
  pub rests : ℕ → Ex → Bool
  rests m (name_ex a) = is_none_of (made m) rules_asked (name_ex a)
  rests m (node_ex b op es) = is_none_of (made m) rules_asked (node_ex b op es) && all_rest m es
  rests m e = false

  -- Nor at any part of one of these.
  all_rest : ℕ → Exs → Bool
  all_rest m no_exs = true
  all_rest m (more_exs e es) = rests m e && all_rest m es

-- ---- what it says

no-some : (o : Option Ex) → not (is_some o) ≡ true → o ≡ None
no-some None h = refl
no-some (Some e) h = absurd (false≢true h)

none-of : (f : Ruling → Ex → Option Ex) (rs : List Ruling) (a : Ex) → is_none_of f rs a ≡ true → NoneOf f [] rs a
none-of f [] a h = tt
none-of f (r ∷ rs) a h = (
  λ may. no-some (f r a) (and-left (not (is_some (f r a))) (is_none_of f rs a) h),
  none-of f rs a (and-right (not (is_some (f r a))) (is_none_of f rs a) h),
)

module _ (m : ℕ) where
  fires-none : (a : Ex) → is_none_of (made m) rules_asked a ≡ true → NoneFires m [] a
  fires-none a h = record { count = 0; none = none-of (made m) rules_asked a h }

  at-root : (e : Ex) → rests m e ≡ true → NoneFires m [] e
  at-root (number_ex k) h = absurd (false≢true h)
  at-root (truth_ex b) h = absurd (false≢true h)
  at-root (name_ex a) h = fires-none (name_ex a) h
  at-root (node_ex b op es) h =
      fires-none (node_ex b op es) (and-left (is_none_of (made m) rules_asked (node_ex b op es)) (all_rest m es) h)
  at-root (matrix_ex es d) h = absurd (false≢true h)
  at-root (comp_ex e gs) h = absurd (false≢true h)
  at-root (cell_ex b n es) h = absurd (false≢true h)
  at-root (seen_ex r d ns es) h = absurd (false≢true h)

  mutual
    at-part : (c : In) (a : Ex) → rests m (fill c a) ≡ true → NoneFires m (names_at c []) a
    at-part hole a h = at-root a h
    at-part (in_operand b op c) a h =
        at-one c a (and-right (is_none_of (made m) rules_asked (node_ex b op (fill_exs c a))) (all_rest m (fill_exs c a)) h)
    at-part (in_item c d) a h = absurd (false≢true h)
    at-part (in_index_domain es c) a h = absurd (false≢true h)
    at-part (in_body c gs) a h = absurd (false≢true h)
    at-part (in_generators x c) a h = absurd (false≢true h)
    at-part (in_cell_index b n c) a h = absurd (false≢true h)
    at-part (in_view_domain r c ns es) a h = absurd (false≢true h)
    at-part (in_view_index r d ns c) a h = absurd (false≢true h)

    at-one : (c : Ins) (a : Ex) → all_rest m (fill_exs c a) ≡ true → NoneFires m (names_at_exs c []) a
    at-one (in_first c es) a h = at-part c a (and-left (rests m (fill c a)) (all_rest m es) h)
    at-one (in_later x c) a h = at-one c a (and-right (rests m x) (all_rest m (fill_exs c a)) h)

  -- A tree that passes is settled.
  pub rests-settled : (e : Ex) → rests m e ≡ true → Settled m [] e
  rests-settled e h c a p = at-part c a (subst (λ x. rests m x ≡ true) (sym p) h)
