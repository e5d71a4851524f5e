-- What is asked of a plan, by whether it is one of a scalar.
use Rattle.std.proofs.Common.{◌≡◌, sym, ap, Bool, true, false, if◌then◌else◌, List}
use Rattle.ess_semantics.specs.Values.{Text}
use Rattle.ess_semantics.specs.Trees.{Repr, Dom, truth_ex}
use Rattle.ess_semantics.specs.TableNames.{Named}
use Rattle.ess_semantics.specs.Plans.{Side, value_plan}
use Rattle.conjure_model_laws.specs.Shown.{Shows}
use Rattle.conjure_model_laws.specs.IsBuiltFrom.{structure_tree}
use Rattle.ess_model_finds.specs.Finds.{is_atom, asked_of}

module _ (sh : Shows) (f : Side) (x : Text) (r : Repr) (d : Dom) (ns : List Named) where
  by_atom : (b : Bool) → b ≡ is_atom r
      → (if b then truth_ex true else structure_tree sh (value_plan f x r d ns)) ≡ asked_of sh (value_plan f x r d ns)
  by_atom b e = ap (λ b. if b then truth_ex true else structure_tree sh (value_plan f x r d ns)) e

  -- Nothing of a scalar.
  pub scalar_asked : true ≡ is_atom r → truth_ex true ≡ asked_of sh (value_plan f x r d ns)
  scalar_asked e = by_atom true e

  -- Of others that their tables are canonical.
  pub others_asked : false ≡ is_atom r → structure_tree sh (value_plan f x r d ns) ≡ asked_of sh (value_plan f x r d ns)
  others_asked e = by_atom false e
