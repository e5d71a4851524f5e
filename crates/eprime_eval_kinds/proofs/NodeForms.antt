-- A node of an operator, by whether its operands fit and have something.
use Rattle.std.proofs.Common.{◌≡◌, refl, ap, ◌∙◌, true, false, if◌then◌else◌, List, [], ◌∷◌, map, Option, Some, None, option_map, is_some}
use Rattle.ess_semantics.specs.Lists.{and_then, all_some}
use Rattle.ess_semantics.specs.Trees.{Op, matrix_literal, Exs, no_exs, more_exs, plain_node}
use Rattle.ess_semantics.specs.Types.{Ty, any_ty}
use Rattle.ess_semantics.specs.Typing.{statics, type_of_node}
use Rattle.ess_semantics.specs.OperatorTypes.{type_of_op, type_of_list}
use Rattle.ess_semantics.specs.ModelMeaning.{Kinded, broken, kind_of_op, some_nothing, kinded_node}
use Rattle.eprime_tree.specs.declared.words.POp1.{POp1}
use Rattle.eprime_tree.specs.Views.{pure_op1}

-- The types that a node is given play no further part.
pub node-types : (op : Op) (es : Exs) (ts : List Ty) (o : Option Ty) → kinded_node op es ts o ≡ kinded_node op es [] o
node-types op es ts None = refl
node-types op es ts (Some t) = refl

-- ---- the type of a node is that of its operator

all-there : (ts : List Ty) → all_some (map (λ t. Some t) ts) ≡ Some ts
all-there [] = refl
all-there (t ∷ ts) = ap (λ o. and_then (Some t) (λ x. option_map (λ xs. x ∷ xs) o)) (all-there ts)

-- A node with one operand.
pub one-node : (o : POp1) (k : Kinded)
    → kinded_node (pure_op1 o) (more_exs k.0 no_exs) (k.1 ∷ []) (type_of_node (pure_op1 o) (statics (more_exs k.0 no_exs)) (Some k.1 ∷ []))
    ≡ kinded_node (pure_op1 o) (more_exs k.0 no_exs) [] (type_of_op (pure_op1 o) (k.1 ∷ []))
one-node POp1.Minus k = node-types (pure_op1 POp1.Minus) (more_exs k.0 no_exs) (k.1 ∷ []) (type_of_op (pure_op1 POp1.Minus) (k.1 ∷ []))
one-node POp1.Not k = node-types (pure_op1 POp1.Not) (more_exs k.0 no_exs) (k.1 ∷ []) (type_of_op (pure_op1 POp1.Not) (k.1 ∷ []))
one-node POp1.Bar k = node-types (pure_op1 POp1.Bar) (more_exs k.0 no_exs) (k.1 ∷ []) (type_of_op (pure_op1 POp1.Bar) (k.1 ∷ []))
one-node POp1.ToInt k = node-types (pure_op1 POp1.ToInt) (more_exs k.0 no_exs) (k.1 ∷ []) (type_of_op (pure_op1 POp1.ToInt) (k.1 ∷ []))

-- A list of items.
pub items-node : (es : Exs) (ts : List Ty)
    → kinded_node matrix_literal es ts (type_of_node matrix_literal (statics es) (map (λ t. Some t) ts))
    ≡ kinded_node matrix_literal es [] (type_of_list ts)
items-node es ts =
    node-types matrix_literal es ts (and_then (all_some (map (λ t. Some t) ts)) (type_of_op matrix_literal))
    ∙ ap (λ o. kinded_node matrix_literal es [] (and_then o (type_of_op matrix_literal))) (all-there ts)

-- ---- what a node becomes

-- Operands that don't fit.
pub node_misfits : (op : Op) (es : Exs) (o : Option Ty) (t : Ty) → kind_of_op op any_ty ≡ t → is_some o ≡ false
    → kinded_node op es [] o ≡ broken t
node_misfits op es None t k e = ap broken k
node_misfits op es (Some u) t k e = cc

-- An operand that has nothing.
pub node_empty : (op : Op) (es : Exs) (o : Option Ty) (t : Ty) → kind_of_op op any_ty ≡ t → some_nothing es ≡ true
    → kinded_node op es [] o ≡ broken t
node_empty op es None t k e = ap broken k
node_empty op es (Some u) t k e = ap (λ b. if b then broken (kind_of_op op any_ty) else (plain_node op es, kind_of_op op u)) e ∙ ap broken k

-- Operands that fit.
pub node_fits : (op : Op) (es : Exs) (o : Option Ty) (t : Ty) → ((u : Ty) → kind_of_op op u ≡ t) → is_some o ≡ true
    → some_nothing es ≡ false → kinded_node op es [] o ≡ (plain_node op es, t)
node_fits op es None t k e n = cc
node_fits op es (Some u) t k e n =
    ap (λ b. if b then broken (kind_of_op op any_ty) else (plain_node op es, kind_of_op op u)) n ∙ ap (λ v. (plain_node op es, v)) (k u)
