-- What rules ask of the types of operands: of sets nothing of it is so but that they are sets.
use Rattle.std.proofs.Common.{◌≡◌, refl, ap, ◌∙◌, true, false, Option, Some, None}
use Rattle.ess_semantics.specs.declared.words.Op1.{Op1}
use Rattle.ess_semantics.specs.declared.words.Op2.{Op2}
use Rattle.ess_semantics.specs.declared.words.Fun.{Fun}
use Rattle.ess_semantics.specs.Values.{Text, a_set}
use Rattle.ess_semantics.specs.Names.{Names}
use Rattle.ess_semantics.specs.Trees.{matrix_literal, name_pat, Ex, truth_ex, node_ex, comp_ex, no_exs, no_gens, from, ex1, ex2, fun1}
use Rattle.ess_semantics.specs.Types.{Ty, compound1}
use Rattle.ess_semantics.specs.Typing.{type_of}
use Rattle.ess_rules_laws.specs.InclusionRules.{both_sets, both_msets, both_functions}
use Rattle.ess_rules_laws.specs.ComponentRules.{components, equal_where, equal_where_fields}
use Rattle.ess_rules_laws.specs.PartitionRules.{both_partitions}
use Rattle.ess_rules_laws.specs.MatrixRules.{both_matrices, is_matrix, equal_to_nothing}
use Rattle.ess_flat_laws.proofs.Asked.{unasked}

module _ {k : Ty} where
  -- A set has no components.
  pub no-set-components : (t u : Option Ty) (a b : Ex) → t ≡ Some (compound1 a_set k) →
      equal_where (components t) (components u) a b ≡ None
  no-set-components t u a b q = ap (λ v. equal_where (components v) (components u) a b) q

  -- Nor fields.
  pub no-set-fields : (t u : Option Ty) (a b : Ex) → t ≡ Some (compound1 a_set k) → equal_where_fields t u a b ≡ None
  no-set-fields t u a b q = ap (λ v. equal_where_fields v u a b) q

  -- It is no multiset.
  pub no-set-msets : (t u : Option Ty) → t ≡ Some (compound1 a_set k) → both_msets t u ≡ false
  no-set-msets t u q = ap (λ v. both_msets v u) q

  -- No function.
  pub no-set-functions : (t u : Option Ty) → t ≡ Some (compound1 a_set k) → both_functions t u ≡ false
  no-set-functions t u q = ap (λ v. both_functions v u) q

  -- No partition.
  pub no-set-partitions : (t u : Option Ty) → t ≡ Some (compound1 a_set k) → both_partitions t u ≡ false
  no-set-partitions t u q = ap (λ v. both_partitions v u) q

  -- And no matrix.
  pub no-set-matrices : (t u : Option Ty) (f : Ty → Ty → Ex) → t ≡ Some (compound1 a_set k) → both_matrices t u f ≡ None
  no-set-matrices t u f q = ap (λ v. both_matrices v u f) q

  no-set-matrix : (t : Option Ty) → t ≡ Some (compound1 a_set k) → is_matrix t ≡ false
  no-set-matrix t q = ap is_matrix q

-- Two sets are both sets.
pub are-sets : {k l : Ty} (t u : Option Ty) → t ≡ Some (compound1 a_set k) → u ≡ Some (compound1 a_set l) → both_sets t u ≡ true
are-sets {k} t u p q = ap (λ v. both_sets v u) p ∙ ap (both_sets (Some (compound1 a_set k))) q

-- That a matrix has no item.
abbrev has_none : Text → Ex → Ex
has_none x a = ex1 true Op1.Not (fun1 true Fun.Or (comp_ex (truth_ex true) (from (name_pat x) a no_gens)))

-- Neither operand of `=` is a matrix.
pub no-set-nothing : {k l : Ty} (g : Names Ty) (x : Text) (a b : Ex) → type_of a g ≡ Some (compound1 a_set k) →
    type_of b g ≡ Some (compound1 a_set l) → equal_to_nothing g x (ex2 true Op2.Eq a b) ≡ None
no-set-nothing g x a (node_ex false matrix_literal no_exs) p q = unasked (Some (has_none x a)) (no-set-matrix (type_of a g) p)
no-set-nothing g x (node_ex false matrix_literal no_exs) b p q = unasked (Some (has_none x b)) (no-set-matrix (type_of b g) q)
no-set-nothing g x a b p q = refl
