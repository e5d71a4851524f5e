-- The law of how deep names are bound, stated at a function that does nothing.
use Rattle.std.specs.Prelude.{◌≡◌, ℕ, ◌≤◌, ◌<◌, ◌^◌, Bool, false, List, length}
use Rattle.ess_semantics.specs.Values.{Text}
use Rattle.ess_semantics.specs.Names.{is_among}
use Rattle.ess_semantics.specs.Trees.{Ex}
use Rattle.ess_semantics.specs.Substitution.{NamesAre}
use Rattle.ess_semantics.specs.Scoped.{Scoped}
use Rattle.conjure_model_laws.specs.ToldApart.{reserved}
use Rattle.conjure_model_laws.specs.Printed.{binders}
use Rattle.ess_depth_laws.specs.Depth.{NestsWithin}
use Rattle.ess_depth_laws.specs.Below.{is_below, HasNamesBelow}

-- Where no bound name hides another one, and each is one of some names, no more are bound around a place than there are names. So it is of
-- reserved names below a number. And no more are bound around a place than in the whole.
pub record DepthsAreBounded : Type 0 where
  pub by_names : (names : List Text) (z s o u : Text → Bool) (e : Ex) → Scoped z s o e → NamesAre u (is_among names) e →
      NestsWithin (length names) e
  pub by_reserved : (n : ℕ) (z s o : Text → Bool) (e : Ex) → Scoped z s o e → HasNamesBelow n e → NestsWithin n e
  pub by_binders : (e : Ex) → NestsWithin (binders e) e
  pub further : (n m : ℕ) (e : Ex) → n ≤ m → NestsWithin n e → NestsWithin m e
  pub spared : (n j : ℕ) → n ≤ j → j < 2 ^ 64 → is_below n (reserved j) ≡ false
