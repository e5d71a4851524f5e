-- Where no rule fires at any part of a tree over views, nothing abstract is left in it.
use Rattle.std.proofs.Common.{◌≡◌, subst, ◌⊎◌, inl, inr, ℕ, Bool, true, false, List, [], Option}
use Rattle.ess_semantics.specs.Values.{Text}
use Rattle.ess_semantics.specs.Trees.{Ex}
use Rattle.ess_semantics.specs.Refined.{is_refined}
use Rattle.ess_seen_laws.specs.Seen.{bound_types, Seen}
use Rattle.ess_seen_laws.specs.Laws.{SetsStayAsTheyAre}
use Rattle.ess_refine.specs.ess_rules.Ruled.{NoneFires}
use Rattle.ess_refine.specs.Settled as parts
use Rattle.ess_refine.specs.Refinements.{IsGivenUp}
use Rattle.ess_seen_progress_laws.specs.MovesOn.{MovesWithin}
use Rattle.ess_seen_progress_laws.specs.Laws.{SeenTreesMoveOn}
use Rattle.ess_seen_settled_laws.specs.Laws.{SettledTreesAreRefined}
use Rattle.ess_seen_settled_laws.proofs.Roots.{scalar-stays}
use Rattle.ess_seen_settled_laws.proofs.Asked.{all-quiet}

module _ (move : SeenTreesMoveOn) (same : SetsStayAsTheyAre) (cells : Text → Option (Bool × List ℕ)) where
  -- At the part at which one would fire none does.
  stopped : {A : Type 0} (n : ℕ) (e : Ex) → parts.Settled n [] e → MovesWithin cells [] e → A
  stopped n e s w = absurd (all-quiet n (bound_types w.names) w.part (scalar-stays cells same w.seen)
      (subst (λ g. NoneFires n g w.part) w.types (s w.context w.part w.whole)) w.moves)

  settled-refined : (n : ℕ) (e : Ex) (m : Bool) → Seen cells [] e m → parts.Settled n [] e → is_refined e ≡ true
  settled-refined n e m f s = go (move cells [] e m (λ a k h. cc) f)
    where
      go : (is_refined e ≡ true) ⊎ MovesWithin cells [] e → is_refined e ≡ true
      go (inl h) = h
      go (inr w) = stopped n e s w

  not-given-up : (k : ℕ) (last : Ex) (m : Bool) → Seen cells [] last m → IsGivenUp last k → ⊥
  not-given-up k last m f w = both w.abstract_left (settled-refined k last m f w.settled)
    where
      both : is_refined last ≡ false → is_refined last ≡ true → ⊥
      both h q = cc

-- So it is of each.
pub settled-by : SeenTreesMoveOn → SetsStayAsTheyAre → SettledTreesAreRefined
settled-by move same = record { refined = settled-refined move same; not_given_up = not-given-up move same }
