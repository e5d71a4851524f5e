-- A name that doesn't stand in a tree, and that no table of it has, is new to it.
use Rattle.std.proofs.Common.{◌≡◌, refl, ap, Bool, true, false, not, [], ◌∷◌}
use Rattle.std.specs.Prelude.{IsTrue}
use Rattle.ess_semantics.specs.Values.{Text}
use Rattle.ess_semantics.specs.Order.{same_text}
use Rattle.ess_semantics.specs.Occurrences.{free_of}
use Rattle.ess_semantics.specs.Trees.{Ex, no_exs, more_exs}
use Rattle.ess_semantics.proofs.Texts.{same_text-equal}
use Rattle.ess_rules_laws.proofs.Simulation.{any, but}
use Rattle.ess_refine_types_laws.specs.MarksOfContainers.{IsNewTo}
use Rattle.ess_rules_types_laws.specs.PutTypes.{TablesAre}
use Rattle.ess_rules_types_laws.proofs.PutListed.{uses}
use Rattle.ess_numbered_laws.proofs.UnnamedParts.{free-unnamed}

module _ (y : Text) (w : Text → Bool) (none : IsTrue (not (w y))) where
  -- A table has another name.
  tabled : (a : Text) → IsTrue (w a) → IsTrue (but y a)
  tabled a h = go (same_text y a) refl
    where
      apart : (b c : Bool) → IsTrue (not b) → IsTrue c → b ≡ c → IsTrue false
      apart true c n k q = n
      apart false true n k q = cc
      apart false false n k q = k

      go : (b : Bool) → same_text y a ≡ b → IsTrue (not b)
      go false q = refl
      go true q = apart (w y) (w a) none h (ap w (same_text-equal y a q))

  -- The name is new to what is free of it.
  pub free-new : (e : Ex) → free_of (y ∷ []) (more_exs e no_exs) ≡ true → TablesAre w e → IsNewTo y e
  free-new e h k = uses (but y) any w (but y) (λ a i. i) tabled e (free-unnamed y (more_exs e no_exs) h).0 k
