-- Types of comprehensions over domains and under conditions, and of cells of numbers behind new names.
use Rattle.std.proofs.Common.{◌≡◌, refl, ap, ◌∙◌, Bool, true, false, List, [], ◌∷◌, Some, option_map, not}
use Rattle.std.specs.List.{list_all}
use Rattle.ess_semantics.specs.declared.words.Fun.{Fun}
use Rattle.ess_semantics.specs.declared.words.Op2.{Op2}
use Rattle.ess_semantics.specs.Lists.{and_then}
use Rattle.ess_semantics.specs.Names.{look, Names}
use Rattle.ess_semantics.specs.OperatorTypes.{type_of_op}
use Rattle.ess_semantics.specs.Order.{same_text}
use Rattle.ess_semantics.specs.Trees.{Ex, Exs, cell_ex, word, comp_ex, fun1, Gens, cond, ex2, binary}
use Rattle.ess_semantics.specs.Types.{Ty, compound2, int_ty, join, bool_ty}
use Rattle.ess_semantics.specs.Typing.{type_of, types_under, number_cell_ty}
use Rattle.ess_semantics.specs.Values.{Text, a_matrix}
use Rattle.ess_semantics.proofs.Tests.{and-left, and-right, not-true}
use Rattle.ess_refine_types_laws.proofs.TypeParts.{one-to, two-to}
use Rattle.ess_rules_types_laws.proofs.PutTypes.{look-past}

-- A comprehension has the type of lists of its body's type.
pub list-typed : (g : Names Ty) (body : Ex) (gs : Gens) (h : Names Ty) (t : Ty) → types_under gs g ≡ Some h → type_of body h ≡ Some t →
    type_of (comp_ex body gs) g ≡ Some (compound2 a_matrix int_ty t)
list-typed g body gs h t p q =
    ap (λ o. and_then o (λ h. option_map (compound2 a_matrix int_ty) (type_of body h))) p ∙ ap (option_map (compound2 a_matrix int_ty)) q

-- Names behind a condition that is a truth value.
pub under-condition : (g h : Names Ty) (c : Ex) (gs : Gens) → type_of c g ≡ Some bool_ty → types_under gs g ≡ Some h →
    types_under (cond c gs) g ≡ Some h
under-condition g h c gs p q = ap (λ o. and_then o (λ t. and_then (join t bool_ty) (λ u. types_under gs g))) p ∙ q

-- Sums of ints.
pub sum-typed : (g : Names Ty) (body : Ex) (gs : Gens) (h : Names Ty) → types_under gs g ≡ Some h → type_of body h ≡ Some int_ty →
    type_of (fun1 false Fun.Sum (comp_ex body gs)) g ≡ Some int_ty
sum-typed g body gs h p q =
    one-to (type_of (comp_ex body gs) g) (type_of_op (word Fun.Sum)) (compound2 a_matrix int_ty int_ty) int_ty
    (list-typed g body gs h int_ty p q) refl

-- Whether one of several holds.
pub some-typed : (g : Names Ty) (body : Ex) (gs : Gens) (h : Names Ty) → types_under gs g ≡ Some h → type_of body h ≡ Some bool_ty →
    type_of (fun1 true Fun.Or (comp_ex body gs)) g ≡ Some bool_ty
some-typed g body gs h p q =
    one-to (type_of (comp_ex body gs) g) (type_of_op (word Fun.Or)) (compound2 a_matrix int_ty bool_ty) bool_ty
    (list-typed g body gs h bool_ty p q) refl

-- Whether all hold.
pub every-typed : (g : Names Ty) (body : Ex) (gs : Gens) (h : Names Ty) → types_under gs g ≡ Some h → type_of body h ≡ Some bool_ty →
    type_of (fun1 true Fun.And (comp_ex body gs)) g ≡ Some bool_ty
every-typed g body gs h p q =
    one-to (type_of (comp_ex body gs) g) (type_of_op (word Fun.And)) (compound2 a_matrix int_ty bool_ty) bool_ty
    (list-typed g body gs h bool_ty p q) refl

-- An operator on two operands whose types are known.
pub pair-typed : (g : Names Ty) (m : Bool) (o : Op2) (a b : Ex) (t u v : Ty) → type_of a g ≡ Some t → type_of b g ≡ Some u →
    type_of_op (binary o) (t ∷ u ∷ []) ≡ Some v → type_of (ex2 m o a b) g ≡ Some v
pair-typed g m o a b t u v p q h = two-to (type_of a g) (type_of b g) (type_of_op (binary o)) t u v p q h

-- ---- cells of ints

-- The first table has another name.
pub first-past : (x n : Text) (ns : List Text) → list_all (λ m. not (same_text x m)) (n ∷ ns) ≡ true → same_text x n ≡ false
first-past x n ns h = not-true (same_text x n) (and-left (not (same_text x n)) (list_all (λ m. not (same_text x m)) ns) h)

-- And so has the second one.
pub second-past : (x m n : Text) (ns : List Text) → list_all (λ m. not (same_text x m)) (m ∷ n ∷ ns) ≡ true → same_text x n ≡ false
second-past x m n ns h =
    first-past x n ns (and-right (not (same_text x m)) (list_all (λ m. not (same_text x m)) (n ∷ ns)) h)

module _ (g : Names Ty) (x n : Text) (v : Ty) (js : Exs) (past : same_text x n ≡ false) where
  -- A cell of ints is one behind a new name.
  pub still-int : number_cell_ty (look g n) ≡ int_ty → number_cell_ty (look ((x, v) ∷ g) n) ≡ int_ty
  still-int o = ap number_cell_ty (look-past x n v g past) ∙ o

  -- So it has the type of ints there.
  pub cell-typed : number_cell_ty (look g n) ≡ int_ty → type_of (cell_ex false n js) ((x, v) ∷ g) ≡ Some int_ty
  cell-typed o = ap Some (still-int o)
