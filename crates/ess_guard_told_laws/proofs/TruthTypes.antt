-- What has the type bool asks for no condition, where marks are right.
use Rattle.std.proofs.Common.{◌≡◌, refl, sym, ap, ◌∙◌, Bool, true, false, ◌||◌, Option, Some, None, option_map}
use Rattle.ess_semantics.specs.Lists.{and_then, all_some}
use Rattle.ess_semantics.specs.Values.{a_matrix}
use Rattle.ess_semantics.specs.Names.{Names, look}
use Rattle.ess_semantics.specs.Trees.{Op, is_truth_op, Ex, Exs, number_ex, truth_ex, name_ex, node_ex, matrix_ex, comp_ex, cell_ex, seen_ex, no_exs, more_exs}
use Rattle.ess_semantics.specs.Types.{Ty, int_ty, named_ty, compound2, is_bool, join_all, type_of_dom}
use Rattle.ess_semantics.specs.Typing.{number_cell_ty, type_of, types_of, types_under}
use Rattle.ess_guard_laws.specs.Guard.{connects}
use Rattle.ess_guard_laws.specs.Covered.{asks_nothing, AskNothing}
use Rattle.ess_refine_laws.specs.MarksStay.{MarkFits, HasMarks, HaveMarks}
use Rattle.ess_guard_told_laws.specs.TruthsTold.{is_told_truth, AreToldTruths}

-- A node of the type bool is marked as a Boolean.
pub marked : (b : Bool) (op : Op) (o : Option Ty) → MarkFits b op o → is_bool o ≡ true → b || connects op ≡ true
marked true op o m t = refl
marked false op None m t = cc
marked false op (Some u) m t = let r : false ≡ true = m ∙ ap (λ z. is_truth_op op || z) t ∙ last (is_truth_op op) in cc
  where
    last : (b : Bool) → b || true ≡ true
    last true = refl
    last false = refl

-- The type of a matrix isn't bool.
no-matrix : (o : Option Ty) (i : Ty) → is_bool (option_map (compound2 a_matrix i) o) ≡ false
no-matrix None i = refl
no-matrix (Some t) i = refl

-- Nor is that of what follows from others, where it is of none of them.
none-follows : {A : Type 0} (o : Option A) (f : A → Option Ty) → ((a : A) → is_bool (f a) ≡ false) → is_bool (and_then o f) ≡ false
none-follows None f h = refl
none-follows (Some a) f h = h a

no-cell : (o : Option Ty) → is_bool (Some (number_cell_ty o)) ≡ false
no-cell (Some (named_ty t)) = refl
no-cell o = refl

-- What has the type bool asks for nothing.
pub truth-asks : (e : Ex) (g : Names Ty) → HasMarks e g → is_told_truth e g ≡ true → asks_nothing e ≡ true
truth-asks (number_ex n) g m t = refl
truth-asks (truth_ex b) g m t = refl
truth-asks (name_ex a) g m t = refl
truth-asks (node_ex b op es) g m t = marked b op (type_of (node_ex b op es) g) m.0 t
truth-asks (matrix_ex es d) g m t =
    sym (none-follows (all_some (types_of es g)) _ (λ ts. no-matrix (join_all ts) (type_of_dom d))) ∙ t
truth-asks (comp_ex e gs) g m t = sym (none-follows (types_under gs g) _ (λ h. no-matrix (type_of e h) int_ty)) ∙ t
truth-asks (cell_ex true n es) g m t = refl
truth-asks (cell_ex false n es) g m t = sym (no-cell (look g n)) ∙ t
truth-asks (seen_ex r d ns es) g m t = refl

-- So do operands of connectives.
pub truths-ask : (b : Bool) (es : Exs) (g : Names Ty) → HaveMarks es g → AreToldTruths b es g → AskNothing b es
truths-ask true no_exs g m t = tt
truths-ask true (more_exs e es) g m t = (truth-asks e g m.0 t.0, truths-ask true es g m.1 t.1)
truths-ask false es g m t = tt
