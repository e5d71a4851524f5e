-- What rules ask of the types of operands: of types that aren't of compound values nothing of it is so.
use Rattle.std.proofs.Common.{◌≡◌, refl, ap, Bool, true, false, if◌then◌else◌, Option, Some, None}
use Rattle.ess_semantics.specs.declared.words.Op1.{Op1}
use Rattle.ess_semantics.specs.declared.words.Op2.{Op2}
use Rattle.ess_semantics.specs.declared.words.Fun.{Fun}
use Rattle.ess_semantics.specs.Values.{Text}
use Rattle.ess_semantics.specs.Names.{Names}
use Rattle.ess_semantics.specs.Trees.{matrix_literal, name_pat, Ex, truth_ex, node_ex, comp_ex, no_exs, no_gens, from, ex1, ex2, fun1}
use Rattle.ess_semantics.specs.Types.{Ty, any_ty, bool_ty, int_ty, named_ty, compound}
use Rattle.ess_semantics.specs.Typing.{type_of}
use Rattle.ess_rules_laws.specs.InclusionRules.{both_sets, both_msets, both_functions}
use Rattle.ess_rules_laws.specs.ComponentRules.{components, equal_where_fields}
use Rattle.ess_rules_laws.specs.PartitionRules.{both_partitions}
use Rattle.ess_rules_laws.specs.MatrixRules.{both_matrices, is_matrix, equal_to_nothing}
use Rattle.ess_rules_laws.specs.SizeRules.{is_counted}
use Rattle.ess_rules_laws.specs.Progress.{is_parted}
use Rattle.ess_open_rules_laws.specs.OpenRules.{is_compound_ty}

-- A rule under a condition that fails.
pub unasked : {b : Bool} (o : Option Ex) → b ≡ false → (if b then o else None) ≡ None
unasked {b} o p = ap (λ c. if c then o else None) p

pub no-sets : (t u : Option Ty) → is_compound_ty t ≡ false → both_sets t u ≡ false
no-sets None u p = refl
no-sets (Some any_ty) u p = refl
no-sets (Some bool_ty) u p = refl
no-sets (Some int_ty) u p = refl
no-sets (Some (named_ty a)) u p = refl
no-sets (Some (compound k ts)) u p = cc

pub no-msets : (t u : Option Ty) → is_compound_ty t ≡ false → both_msets t u ≡ false
no-msets None u p = refl
no-msets (Some any_ty) u p = refl
no-msets (Some bool_ty) u p = refl
no-msets (Some int_ty) u p = refl
no-msets (Some (named_ty a)) u p = refl
no-msets (Some (compound k ts)) u p = cc

pub no-functions : (t u : Option Ty) → is_compound_ty t ≡ false → both_functions t u ≡ false
no-functions None u p = refl
no-functions (Some any_ty) u p = refl
no-functions (Some bool_ty) u p = refl
no-functions (Some int_ty) u p = refl
no-functions (Some (named_ty a)) u p = refl
no-functions (Some (compound k ts)) u p = cc

pub no-partitions : (t u : Option Ty) → is_compound_ty t ≡ false → both_partitions t u ≡ false
no-partitions None u p = refl
no-partitions (Some any_ty) u p = refl
no-partitions (Some bool_ty) u p = refl
no-partitions (Some int_ty) u p = refl
no-partitions (Some (named_ty a)) u p = refl
no-partitions (Some (compound k ts)) u p = cc

pub no-components : (t : Option Ty) → is_compound_ty t ≡ false → components t ≡ None
no-components None p = refl
no-components (Some any_ty) p = refl
no-components (Some bool_ty) p = refl
no-components (Some int_ty) p = refl
no-components (Some (named_ty a)) p = refl
no-components (Some (compound k ts)) p = cc

pub no-fields : (t u : Option Ty) (a b : Ex) → is_compound_ty t ≡ false → equal_where_fields t u a b ≡ None
no-fields None u a b p = refl
no-fields (Some any_ty) u a b p = refl
no-fields (Some bool_ty) u a b p = refl
no-fields (Some int_ty) u a b p = refl
no-fields (Some (named_ty x)) u a b p = refl
no-fields (Some (compound k ts)) u a b p = cc

pub no-matrices : (t u : Option Ty) (f : Ty → Ty → Ex) → is_compound_ty t ≡ false → both_matrices t u f ≡ None
no-matrices None u f p = refl
no-matrices (Some any_ty) u f p = refl
no-matrices (Some bool_ty) u f p = refl
no-matrices (Some int_ty) u f p = refl
no-matrices (Some (named_ty a)) u f p = refl
no-matrices (Some (compound k ts)) u f p = cc

no-matrix : (t : Option Ty) → is_compound_ty t ≡ false → is_matrix t ≡ false
no-matrix None p = refl
no-matrix (Some any_ty) p = refl
no-matrix (Some bool_ty) p = refl
no-matrix (Some int_ty) p = refl
no-matrix (Some (named_ty a)) p = refl
no-matrix (Some (compound k ts)) p = cc

pub no-count : (t : Option Ty) → is_compound_ty t ≡ false → is_counted t ≡ false
no-count None p = refl
no-count (Some any_ty) p = refl
no-count (Some bool_ty) p = refl
no-count (Some int_ty) p = refl
no-count (Some (named_ty a)) p = refl
no-count (Some (compound k ts)) p = cc

pub no-parts : (t : Option Ty) → is_compound_ty t ≡ false → is_parted t ≡ false
no-parts None p = refl
no-parts (Some any_ty) p = refl
no-parts (Some bool_ty) p = refl
no-parts (Some int_ty) p = refl
no-parts (Some (named_ty a)) p = refl
no-parts (Some (compound k ts)) p = cc

-- That a matrix has no item.
abbrev has_none : Text → Ex → Ex
has_none x a = ex1 true Op1.Not (fun1 true Fun.Or (comp_ex (truth_ex true) (from (name_pat x) a no_gens)))

-- Neither operand of `=` is a matrix.
pub no-nothing : (g : Names Ty) (x : Text) (a b : Ex) → is_compound_ty (type_of a g) ≡ false → is_compound_ty (type_of b g) ≡ false
    → equal_to_nothing g x (ex2 true Op2.Eq a b) ≡ None
no-nothing g x a (node_ex false matrix_literal no_exs) p q = unasked (Some (has_none x a)) (no-matrix (type_of a g) p)
no-nothing g x (node_ex false matrix_literal no_exs) b p q = unasked (Some (has_none x b)) (no-matrix (type_of b g) q)
no-nothing g x a b p q = refl
