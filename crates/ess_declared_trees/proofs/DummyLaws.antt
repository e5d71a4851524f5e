-- Which numbers in ranges have a dummy.
use Rattle.std.proofs.Common.{◌≡◌, refl, true, false, ◌&&◌, List, [], ◌∷◌}
use Rattle.ess_semantics.specs.Trees.{Ends, one_value, both_ends, low_end, high_end, Exs, no_exs, more_exs, int_dom}
use Rattle.ess_repr_declare_laws.specs.DeclaredTrees.{with_dummy}
use Rattle.ess_size_terms.specs.RangeForms.{is_span}
use Rattle.ess_declared_trees.specs.Dummies.{is_pair, dummy_beside}

-- Those in one range with both bounds.
pub dummy_there : (rs : List Ends) (es : Exs) → (is_span rs && is_pair es) ≡ true
    → dummy_beside es (int_dom rs es) ≡ with_dummy (int_dom rs es)
dummy_there (both_ends ∷ []) (more_exs a (more_exs b no_exs)) h = refl
dummy_there (both_ends ∷ []) (more_exs a (more_exs b (more_exs c es))) h = cc
dummy_there (both_ends ∷ []) (more_exs a no_exs) h = cc
dummy_there (both_ends ∷ []) no_exs h = cc
dummy_there (both_ends ∷ r ∷ rs) es h = cc
dummy_there [] es h = cc
dummy_there (one_value ∷ rs) es h = cc
dummy_there (low_end ∷ rs) es h = cc
dummy_there (high_end ∷ rs) es h = cc

-- No others.
pub dummy_missing : (rs : List Ends) (es : Exs) → (is_span rs && is_pair es) ≡ false → int_dom rs es ≡ with_dummy (int_dom rs es)
dummy_missing (both_ends ∷ []) (more_exs a (more_exs b no_exs)) h = cc
dummy_missing (both_ends ∷ []) (more_exs a (more_exs b (more_exs c es))) h = refl
dummy_missing (both_ends ∷ []) (more_exs a no_exs) h = refl
dummy_missing (both_ends ∷ []) no_exs h = refl
dummy_missing (both_ends ∷ r ∷ rs) es h = refl
dummy_missing [] es h = refl
dummy_missing (one_value ∷ rs) es h = refl
dummy_missing (low_end ∷ rs) es h = refl
dummy_missing (high_end ∷ rs) es h = refl
