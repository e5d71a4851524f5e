-- The type of a node, from the types of its operands.
use Rattle.std.proofs.Common.{◌≡◌, refl, sym, ap, ◌∙◌, Bool, List, [], ◌∷◌, Option, Some, None, option_map}
use Rattle.ess_semantics.specs.declared.words.Op1.{Op1}
use Rattle.ess_semantics.specs.declared.words.Op2.{Op2}
use Rattle.ess_semantics.specs.Lists.{and_then, all_some}
use Rattle.ess_semantics.specs.Values.{a_tuple, a_matrix}
use Rattle.ess_semantics.specs.Names.{Names}
use Rattle.ess_semantics.specs.Trees.{Step, Ex, Exs, Gens, unary, binary, index, ex1, ex2, node_ex, comp_ex, application, tuple_literal, no_exs, more_exs}
use Rattle.ess_semantics.specs.Types.{Ty, compound2, int_ty}
use Rattle.ess_semantics.specs.OperatorTypes.{type_of_unary, type_of_binary, type_of_application, type_of_op}
use Rattle.ess_semantics.specs.Typing.{statics, path_ty, type_of_node, type_of, types_of, types_under}

-- An operator on one operand.
pub one_typed : (b : Bool) (o : Op1) (a : Ex) (g : Names Ty) → type_of (ex1 b o a) g ≡ and_then (type_of a g) (type_of_unary o)
one_typed b o a g = go (type_of a g)
  where
    go : (t : Option Ty) → and_then (all_some (t ∷ [])) (type_of_op (unary o)) ≡ and_then t (type_of_unary o)
    go None = refl
    go (Some t) = refl

-- An operator on two operands.
pub two_typed : (c : Bool) (o : Op2) (a b : Ex) (g : Names Ty) → type_of (ex2 c o a b) g ≡ and_then (type_of a g) (λ t. and_then (type_of b g) (λ u. type_of_binary o t u))
two_typed c o a b g = go (type_of a g) (type_of b g)
  where
    go : (t u : Option Ty) → and_then (all_some (t ∷ u ∷ [])) (type_of_op (binary o)) ≡ and_then t (λ t. and_then u (λ u. type_of_binary o t u))
    go None u = refl
    go (Some t) None = refl
    go (Some t) (Some u) = refl

-- A function or relation at its arguments.
pub application_typed : (b : Bool) (f : Ex) (es : Exs) (g : Names Ty)
    → type_of (node_ex b application (more_exs f es)) g ≡ and_then (type_of f g) (λ t. and_then (all_some (types_of es g)) (λ ts. type_of_application t ts))
application_typed b f es g = go (type_of f g) (all_some (types_of es g))
  where
    go : (t : Option Ty) (us : Option (List Ty))
        → and_then (and_then t (λ x. option_map (λ xs. x ∷ xs) us)) (type_of_op application) ≡ and_then t (λ t. and_then us (λ ts. type_of_application t ts))
    go None us = refl
    go (Some t) None = refl
    go (Some t) (Some us) = refl

-- A pair of a function literal.
pub pair_typed : (b : Bool) (x y : Ex) (g : Names Ty)
    → type_of (node_ex b tuple_literal (more_exs x (more_exs y no_exs))) g ≡ and_then (type_of x g) (λ t. and_then (type_of y g) (λ u. Some (compound2 a_tuple t u)))
pair_typed b x y g = go (type_of x g) (type_of y g)
  where
    go : (t u : Option Ty) → and_then (all_some (t ∷ u ∷ [])) (type_of_op tuple_literal) ≡ and_then t (λ t. and_then u (λ u. Some (compound2 a_tuple t u)))
    go None u = refl
    go (Some t) None = refl
    go (Some t) (Some u) = refl

-- A comprehension.
pub comp_typed : (e : Ex) (gs : Gens) (g : Names Ty) → type_of (comp_ex e gs) g ≡ option_map (compound2 a_matrix int_ty) (and_then (types_under gs g) (type_of e))
comp_typed e gs g = go (types_under gs g)
  where
    go : (o : Option (Names Ty)) → and_then o (λ h. option_map (compound2 a_matrix int_ty) (type_of e h)) ≡ option_map (compound2 a_matrix int_ty) (and_then o (type_of e))
    go None = refl
    go (Some h) = refl

-- An index of what has no type.
pub index_none : (b : Bool) (qs : List Step) (e : Ex) (es : Exs) (g : Names Ty) → None ≡ type_of e g → type_of (node_ex b (index qs) (more_exs e es)) g ≡ None
index_none b qs e es g h = ap (λ o. type_of_node (index qs) (statics (more_exs e es)) (o ∷ types_of es g)) (sym h)

-- An index of what has type t.
pub index_some : (b : Bool) (qs : List Step) (e : Ex) (es : Exs) (g : Names Ty) (t : Ty) → Some t ≡ type_of e g
    → type_of (node_ex b (index qs) (more_exs e es)) g ≡ path_ty t qs (statics es) (types_of es g)
index_some b qs e es g t h = ap (λ o. type_of_node (index qs) (statics (more_exs e es)) (o ∷ types_of es g)) (sym h)
