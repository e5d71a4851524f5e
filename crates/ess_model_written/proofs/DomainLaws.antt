-- What is written for a domain of numbers, of what its bounds become.
use Rattle.std.proofs.Common.{◌≡◌, refl, sym, ◌∙◌, subst, ℕ, Bool, true, false, ◌&&◌, ◌⊎◌, inl, inr, List, [], ◌∷◌, Option, Some, None, ⊎_elim, true≢false}
use Rattle.ess_semantics.specs.Lists.{when}
use Rattle.ess_semantics.specs.Values.{Text}
use Rattle.ess_semantics.specs.Trees.{Ends, one_value, both_ends, low_end, high_end, Ex, Exs, no_exs, more_exs, Dom, int_dom}
use Rattle.ess_grammar.specs.Models.{Scope}
use Rattle.ess_grammar.specs.Readable.{fit_ranges}
use Rattle.eprime_lowering_laws.specs.Lowerable.{is_lowerable, are_lowerable}
use Rattle.eprime_lowering.specs.Lowered.{lowered_dom}
use Rattle.ess_model_trees.specs.Written as trees
use Rattle.ess_model_written.specs.Bounds.{BoundPrints, EachPrints, OneSticks}
use Rattle.ess_model_written.specs.DeclarationsWritten.{BoundComes, BoundsAreWritten, OneBoundFails, DomComes}

-- ---- truth values

left-true : (a b : Bool) → (a && b) ≡ true → a ≡ true
left-true true b h = refl
left-true false b h = h

right-true : (a b : Bool) → (a && b) ≡ true → b ≡ true
right-true true b h = h
right-true false b h = absurd (true≢false (sym h))

either-false : (a b : Bool) → (a && b) ≡ false → (a ≡ false) ⊎ (b ≡ false)
either-false true b h = inr h
either-false false b h = inl refl

module _ (s : Scope) (taken : List Text) (k : ℕ) where
  -- ---- one bound

  written : (e f : Ex) → BoundPrints taken k e (Some f) → is_lowerable s f ≡ true → BoundComes s taken k e (Some f)
  written e f p h = (p.0, (p.1, h))

  stuck : (e : Ex) → BoundPrints taken k e None → BoundComes s taken k e None
  stuck e p = (p.0, trees.stuck p.1)

  refused : (e f : Ex) → BoundPrints taken k e (Some f) → is_lowerable s f ≡ false → BoundComes s taken k e None
  refused e f p h = (p.0, trees.unlowered record { new = f; written = p.1; not_lowerable = h })

  -- ---- several bounds

  all-written : (es fs : Exs) → EachPrints taken k es fs → are_lowerable s fs ≡ true → BoundsAreWritten s taken k es fs
  all-written no_exs no_exs p h = tt
  all-written (more_exs e es) (more_exs f fs) p h = (
    written e f p.0 (left-true (is_lowerable s f) (are_lowerable s fs) h),
    all-written es fs p.1 (right-true (is_lowerable s f) (are_lowerable s fs) h),
  )
  all-written no_exs (more_exs f fs) p h = absurd p
  all-written (more_exs e es) no_exs p h = absurd p

  one-refused : (es fs : Exs) → EachPrints taken k es fs → are_lowerable s fs ≡ false → OneBoundFails s taken k es
  one-refused no_exs no_exs p h = absurd (true≢false h)
  one-refused (more_exs e es) (more_exs f fs) p h =
      ⊎_elim (λ i. inl (refused e f p.0 i)) (λ i. inr (one-refused es fs p.1 i)) (either-false (is_lowerable s f) (are_lowerable s fs) h)
  one-refused no_exs (more_exs f fs) p h = absurd p
  one-refused (more_exs e es) no_exs p h = absurd p

  one-stuck : (es : Exs) → OneSticks taken k es → OneBoundFails s taken k es
  one-stuck no_exs p = absurd p
  one-stuck (more_exs e es) (inl p) = inl (stuck e p)
  one-stuck (more_exs e es) (inr p) = inr (one-stuck es p)

  -- There are as many of them.
  same-fit : (rs : List Ends) (es fs : Exs) → EachPrints taken k es fs → fit_ranges rs es ≡ fit_ranges rs fs
  same-fit rs no_exs no_exs p = refl
  same-fit rs no_exs (more_exs f fs) p = absurd p
  same-fit rs (more_exs e es) no_exs p = absurd p
  same-fit [] (more_exs e es) (more_exs f fs) p = refl
  same-fit (one_value ∷ rs) (more_exs e es) (more_exs f fs) p = same-fit rs es fs p.1
  same-fit (low_end ∷ rs) (more_exs e es) (more_exs f fs) p = same-fit rs es fs p.1
  same-fit (high_end ∷ rs) (more_exs e es) (more_exs f fs) p = same-fit rs es fs p.1
  same-fit (both_ends ∷ rs) (more_exs e no_exs) (more_exs f no_exs) p = refl
  same-fit (both_ends ∷ rs) (more_exs e no_exs) (more_exs f (more_exs b fs)) p = absurd p.1
  same-fit (both_ends ∷ rs) (more_exs e (more_exs a es)) (more_exs f no_exs) p = absurd p.1
  same-fit (both_ends ∷ rs) (more_exs e (more_exs a es)) (more_exs f (more_exs b fs)) p = same-fit rs es fs p.1.1

  -- ---- the domain

  comes-when : (rs : List Ends) (es fs : Exs) (b : Bool) → EachPrints taken k es fs → b ≡ (fit_ranges rs fs && are_lowerable s fs)
      → DomComes s taken k (int_dom rs es) (when b (int_dom rs fs))
  comes-when rs es fs true p i = (refl, all-written es fs p (right-true (fit_ranges rs fs) (are_lowerable s fs) (sym i)))
  comes-when rs es fs false p i =
      ⊎_elim (λ h. inl (same-fit rs es fs p ∙ h)) (λ h. inr (one-refused es fs p h))
      (either-false (fit_ranges rs fs) (are_lowerable s fs) (sym i))

  -- Its bounds are printed, and it is lowered.
  pub int_lowered : (rs : List Ends) (es fs : Exs) (o : Option Dom) → EachPrints taken k es fs → o ≡ lowered_dom s true (int_dom rs fs)
      → DomComes s taken k (int_dom rs es) o
  int_lowered rs es fs o p e =
      subst (λ x. DomComes s taken k (int_dom rs es) x) (sym e)
      (comes-when rs es fs (fit_ranges rs fs && are_lowerable s fs) p refl)

  -- One of its bounds sticks.
  pub int_stuck : (rs : List Ends) (es : Exs) → OneSticks taken k es → DomComes s taken k (int_dom rs es) None
  int_stuck rs es p = inr (one-stuck es p)
