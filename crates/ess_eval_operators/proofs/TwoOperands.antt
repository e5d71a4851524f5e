-- Connectives read an operand without a value as false; any other operator has no value where an operand has none.
use Rattle.std.proofs.Common.{◌≡◌, refl, true, false, [], ◌∷◌, Option, Some, None}
use Rattle.ess_semantics.specs.declared.words.Op2.{Op2}
use Rattle.ess_semantics.specs.Values.{Value, truth}
use Rattle.ess_semantics.specs.Trees.{binary}
use Rattle.ess_semantics.specs.Operators.{value_of_node, value_of_binary, as_truth}
use Rattle.ess_eval_operators.specs.Connectives.{connects, connected}

-- A connective's node.
pub node_connected : (op : Op2) (o p : Option Value) → connects op ≡ true
    → value_of_node (binary op) (o ∷ p ∷ []) ≡ Some (truth (connected op (as_truth o) (as_truth p)))
node_connected Op2.And o p h = refl
node_connected Op2.Or o p h = refl
node_connected Op2.Implies o p h = refl
node_connected Op2.Iff o p h = refl
node_connected Op2.Pow o p h = cc
node_connected Op2.Times o p h = cc
node_connected Op2.Div o p h = cc
node_connected Op2.Mod o p h = cc
node_connected Op2.Intersect o p h = cc
node_connected Op2.Plus o p h = cc
node_connected Op2.Minus o p h = cc
node_connected Op2.Union o p h = cc
node_connected Op2.Eq o p h = cc
node_connected Op2.Ne o p h = cc
node_connected Op2.Lt o p h = cc
node_connected Op2.Le o p h = cc
node_connected Op2.Gt o p h = cc
node_connected Op2.Ge o p h = cc
node_connected Op2.LexLt o p h = cc
node_connected Op2.LexLe o p h = cc
node_connected Op2.LexGt o p h = cc
node_connected Op2.LexGe o p h = cc
node_connected Op2.Member o p h = cc
node_connected Op2.Subset o p h = cc
node_connected Op2.SubsetEq o p h = cc
node_connected Op2.Supset o p h = cc
node_connected Op2.SupsetEq o p h = cc

-- Any other operator's node, where both operands have values.
pub node_of_two : (op : Op2) (a b : Value) → connects op ≡ false → value_of_node (binary op) (Some a ∷ Some b ∷ []) ≡ value_of_binary op a b
node_of_two Op2.And a b h = cc
node_of_two Op2.Or a b h = cc
node_of_two Op2.Implies a b h = cc
node_of_two Op2.Iff a b h = cc
node_of_two Op2.Pow a b h = refl
node_of_two Op2.Times a b h = refl
node_of_two Op2.Div a b h = refl
node_of_two Op2.Mod a b h = refl
node_of_two Op2.Intersect a b h = refl
node_of_two Op2.Plus a b h = refl
node_of_two Op2.Minus a b h = refl
node_of_two Op2.Union a b h = refl
node_of_two Op2.Eq a b h = refl
node_of_two Op2.Ne a b h = refl
node_of_two Op2.Lt a b h = refl
node_of_two Op2.Le a b h = refl
node_of_two Op2.Gt a b h = refl
node_of_two Op2.Ge a b h = refl
node_of_two Op2.LexLt a b h = refl
node_of_two Op2.LexLe a b h = refl
node_of_two Op2.LexGt a b h = refl
node_of_two Op2.LexGe a b h = refl
node_of_two Op2.Member a b h = refl
node_of_two Op2.Subset a b h = refl
node_of_two Op2.SubsetEq a b h = refl
node_of_two Op2.Supset a b h = refl
node_of_two Op2.SupsetEq a b h = refl

-- Any other operator's node, where an operand has none.
pub node_without_left : (op : Op2) (p : Option Value) → connects op ≡ false → value_of_node (binary op) (None ∷ p ∷ []) ≡ None
node_without_left Op2.And p h = cc
node_without_left Op2.Or p h = cc
node_without_left Op2.Implies p h = cc
node_without_left Op2.Iff p h = cc
node_without_left Op2.Pow p h = refl
node_without_left Op2.Times p h = refl
node_without_left Op2.Div p h = refl
node_without_left Op2.Mod p h = refl
node_without_left Op2.Intersect p h = refl
node_without_left Op2.Plus p h = refl
node_without_left Op2.Minus p h = refl
node_without_left Op2.Union p h = refl
node_without_left Op2.Eq p h = refl
node_without_left Op2.Ne p h = refl
node_without_left Op2.Lt p h = refl
node_without_left Op2.Le p h = refl
node_without_left Op2.Gt p h = refl
node_without_left Op2.Ge p h = refl
node_without_left Op2.LexLt p h = refl
node_without_left Op2.LexLe p h = refl
node_without_left Op2.LexGt p h = refl
node_without_left Op2.LexGe p h = refl
node_without_left Op2.Member p h = refl
node_without_left Op2.Subset p h = refl
node_without_left Op2.SubsetEq p h = refl
node_without_left Op2.Supset p h = refl
node_without_left Op2.SupsetEq p h = refl

pub node_without_right : (op : Op2) (a : Value) → connects op ≡ false → value_of_node (binary op) (Some a ∷ None ∷ []) ≡ None
node_without_right Op2.And a h = cc
node_without_right Op2.Or a h = cc
node_without_right Op2.Implies a h = cc
node_without_right Op2.Iff a h = cc
node_without_right Op2.Pow a h = refl
node_without_right Op2.Times a h = refl
node_without_right Op2.Div a h = refl
node_without_right Op2.Mod a h = refl
node_without_right Op2.Intersect a h = refl
node_without_right Op2.Plus a h = refl
node_without_right Op2.Minus a h = refl
node_without_right Op2.Union a h = refl
node_without_right Op2.Eq a h = refl
node_without_right Op2.Ne a h = refl
node_without_right Op2.Lt a h = refl
node_without_right Op2.Le a h = refl
node_without_right Op2.Gt a h = refl
node_without_right Op2.Ge a h = refl
node_without_right Op2.LexLt a h = refl
node_without_right Op2.LexLe a h = refl
node_without_right Op2.LexGt a h = refl
node_without_right Op2.LexGe a h = refl
node_without_right Op2.Member a h = refl
node_without_right Op2.Subset a h = refl
node_without_right Op2.SubsetEq a h = refl
node_without_right Op2.Supset a h = refl
node_without_right Op2.SupsetEq a h = refl

pub ruleset connectives_read = (node_connected, node_of_two, node_without_left, node_without_right)
