-- The type of a node, from those of its parts.
use Rattle.std.proofs.Common.{◌≡◌, refl, sym, ap, ◌∙◌, Bool, false, List, [], ◌∷◌, Option, option_map}
use Rattle.ess_semantics.specs.declared.words.Op1.{Op1}
use Rattle.ess_semantics.specs.declared.words.Op2.{Op2}
use Rattle.ess_semantics.specs.declared.words.Fun.{Fun}
use Rattle.ess_semantics.specs.Lists.{and_then, all_some}
use Rattle.ess_semantics.specs.Values.{Text, a_matrix}
use Rattle.ess_semantics.specs.Names.{Names}
use Rattle.ess_semantics.specs.Trees.{Op, Ex, Exs, Gens, Dom, unary, binary, word, application, tuple_literal, record_literal, set_literal, mset_literal, function_literal, relation_literal, partition_literal, matrix_literal, ex1, ex2, node_ex, matrix_ex, comp_ex, no_exs, more_exs}
use Rattle.ess_semantics.specs.Types.{Ty, int_ty, compound2, join_all, type_of_dom}
use Rattle.ess_semantics.specs.OperatorTypes.{type_of_op}
use Rattle.ess_semantics.specs.Typing.{Static, statics, type_of_node, type_of, types_of, types_under}
use Rattle.ess_types_names.specs.declared.under.Under.{Under}
use Rattle.ess_types_names.specs.declared.under.Under.TheVariants.{Fits, Misfits}
use Rattle.ess_types_names.specs.Generators.{under}
use Rattle.ess_types_nodes.specs.Parts.{fitting}

-- Whether the type of an operation depends on the types of its operands alone.
abbrev Plain : Op → Type 0
Plain op = (ss : List Static) (us : List (Option Ty)) → type_of_node op ss us ≡ and_then (all_some us) (type_of_op op)

node_typed : (x : Ex) (b : Bool) (op : Op) (es : Exs) (t : Option (List Ty)) (u : Option Ty) (g : Names Ty) → Plain op → x ≡ node_ex b op es
    → u ≡ and_then t (type_of_op op) → t ≡ all_some (types_of es g) → u ≡ type_of x g
node_typed x b op es t u g plain p q r =
    q ∙ ap (λ o. and_then o (type_of_op op)) r ∙ sym (plain (statics es) (types_of es g)) ∙ ap (λ e. type_of e g) (sym p)

-- ---- operators, calls and applications

-- An operator on one operand.
pub one_typed : (x e : Ex) (b : Bool) (op : Op1) (t u : Option Ty) (g : Names Ty) → x ≡ ex1 b op e
    → u ≡ and_then (all_some (t ∷ [])) (type_of_op (unary op)) → t ≡ type_of e g → u ≡ type_of x g
one_typed x e b op t u g p q r =
    node_typed x b (unary op) (more_exs e no_exs) (all_some (t ∷ [])) u g (λ ss us. refl) p q (ap (λ o. all_some (o ∷ [])) r)

-- An operator on two operands.
pub two_typed : (x e f : Ex) (b : Bool) (op : Op2) (t v u : Option Ty) (g : Names Ty) → x ≡ ex2 b op e f
    → u ≡ and_then (all_some (t ∷ v ∷ [])) (type_of_op (binary op)) → t ≡ type_of e g → v ≡ type_of f g → u ≡ type_of x g
two_typed x e f b op t v u g p q r s =
    node_typed x b (binary op) (more_exs e (more_exs f no_exs)) (all_some (t ∷ v ∷ [])) u g (λ ss us. refl) p q
    (ap (λ o. all_some (o ∷ v ∷ [])) r ∙ ap (λ o. all_some (type_of e g ∷ o ∷ [])) s)

-- A call of a function word.
pub call_typed : (x : Ex) (b : Bool) (fun : Fun) (es : Exs) (t : Option (List Ty)) (u : Option Ty) (g : Names Ty)
    → x ≡ node_ex b (word fun) es → u ≡ and_then t (type_of_op (word fun)) → t ≡ all_some (types_of es g) → u ≡ type_of x g
call_typed x b fun es t u g = node_typed x b (word fun) es t u g (λ ss us. refl)

-- An application.
pub apply_typed : (x f : Ex) (b : Bool) (es : Exs) (t : Option Ty) (ts : Option (List Ty)) (u : Option Ty) (g : Names Ty)
    → x ≡ node_ex b application (more_exs f es)
    → u ≡ and_then (and_then t (λ t. option_map (λ ts. t ∷ ts) ts)) (type_of_op application) → t ≡ type_of f g
    → ts ≡ all_some (types_of es g) → u ≡ type_of x g
apply_typed x f b es t ts u g p q r s =
    node_typed x b application (more_exs f es) (and_then t (λ t. option_map (λ ts. t ∷ ts) ts)) u g (λ ss us. refl) p q
    (ap (λ o. and_then o (λ t. option_map (λ ts. t ∷ ts) ts)) r
    ∙ ap (λ o. and_then (type_of f g) (λ t. option_map (λ ts. t ∷ ts) o)) s)

-- ---- literals

-- A tuple literal.
pub tuple_typed : (x : Ex) (b : Bool) (es : Exs) (t : Option (List Ty)) (u : Option Ty) (g : Names Ty) → x ≡ node_ex b tuple_literal es
    → u ≡ and_then t (type_of_op tuple_literal) → t ≡ all_some (types_of es g) → u ≡ type_of x g
tuple_typed x b es t u g = node_typed x b tuple_literal es t u g (λ ss us. refl)

-- A pair of a function literal.
pub pair_typed : (x e f : Ex) (b : Bool) (t v u : Option Ty) (g : Names Ty) → x ≡ node_ex b tuple_literal (more_exs e (more_exs f no_exs))
    → u ≡ and_then (all_some (t ∷ v ∷ [])) (type_of_op tuple_literal) → t ≡ type_of e g → v ≡ type_of f g → u ≡ type_of x g
pair_typed x e f b t v u g p q r s =
    node_typed x b tuple_literal (more_exs e (more_exs f no_exs)) (all_some (t ∷ v ∷ [])) u g (λ ss us. refl) p q
    (ap (λ o. all_some (o ∷ v ∷ [])) r ∙ ap (λ o. all_some (type_of e g ∷ o ∷ [])) s)

-- A record literal.
pub record_typed : (x : Ex) (b : Bool) (fs : List Text) (es : Exs) (t : Option (List Ty)) (u : Option Ty) (g : Names Ty)
    → x ≡ node_ex b (record_literal fs) es → u ≡ and_then t (type_of_op (record_literal fs)) → t ≡ all_some (types_of es g)
    → u ≡ type_of x g
record_typed x b fs es t u g = node_typed x b (record_literal fs) es t u g (λ ss us. refl)

-- A set literal.
pub set_typed : (x : Ex) (b : Bool) (es : Exs) (t : Option (List Ty)) (u : Option Ty) (g : Names Ty) → x ≡ node_ex b set_literal es
    → u ≡ and_then t (type_of_op set_literal) → t ≡ all_some (types_of es g) → u ≡ type_of x g
set_typed x b es t u g = node_typed x b set_literal es t u g (λ ss us. refl)

-- A multiset literal.
pub mset_typed : (x : Ex) (b : Bool) (es : Exs) (t : Option (List Ty)) (u : Option Ty) (g : Names Ty) → x ≡ node_ex b mset_literal es
    → u ≡ and_then t (type_of_op mset_literal) → t ≡ all_some (types_of es g) → u ≡ type_of x g
mset_typed x b es t u g = node_typed x b mset_literal es t u g (λ ss us. refl)

-- A function literal.
pub function_typed : (x : Ex) (b : Bool) (es : Exs) (t : Option (List Ty)) (u : Option Ty) (g : Names Ty)
    → x ≡ node_ex b function_literal es → u ≡ and_then t (type_of_op function_literal) → t ≡ all_some (types_of es g) → u ≡ type_of x g
function_typed x b es t u g = node_typed x b function_literal es t u g (λ ss us. refl)

-- A relation literal.
pub relation_typed : (x : Ex) (b : Bool) (es : Exs) (t : Option (List Ty)) (u : Option Ty) (g : Names Ty)
    → x ≡ node_ex b relation_literal es → u ≡ and_then t (type_of_op relation_literal) → t ≡ all_some (types_of es g) → u ≡ type_of x g
relation_typed x b es t u g = node_typed x b relation_literal es t u g (λ ss us. refl)

-- A partition literal.
pub partition_typed : (x : Ex) (b : Bool) (es : Exs) (t : Option (List Ty)) (u : Option Ty) (g : Names Ty)
    → x ≡ node_ex b partition_literal es → u ≡ and_then t (type_of_op partition_literal) → t ≡ all_some (types_of es g) → u ≡ type_of x g
partition_typed x b es t u g = node_typed x b partition_literal es t u g (λ ss us. refl)

-- A matrix literal without an index domain.
pub list_typed : (x : Ex) (b : Bool) (es : Exs) (t : Option (List Ty)) (u : Option Ty) (g : Names Ty) → x ≡ node_ex b matrix_literal es
    → u ≡ and_then t (type_of_op matrix_literal) → t ≡ all_some (types_of es g) → u ≡ type_of x g
list_typed x b es t u g = node_typed x b matrix_literal es t u g (λ ss us. refl)

-- A matrix literal with its index domain.
pub matrix_typed : (x : Ex) (es : Exs) (d : Dom) (t : Option (List Ty)) (u : Option Ty) (g : Names Ty) → x ≡ matrix_ex es d
    → u ≡ and_then t (λ ts. option_map (compound2 a_matrix (type_of_dom d)) (join_all ts)) → t ≡ all_some (types_of es g) → u ≡ type_of x g
matrix_typed x es d t u g p q r =
    q ∙ ap (λ o. and_then o (λ ts. option_map (compound2 a_matrix (type_of_dom d)) (join_all ts))) r ∙ ap (λ e. type_of e g) (sym p)

-- ---- comprehensions

-- A comprehension, where its generators lead from names g to names h.
pub comp_typed : (x e : Ex) (gs : Gens) (r : Under) (t u : Option Ty) (g h : Names Ty) → x ≡ comp_ex e gs
    → u ≡ option_map (compound2 a_matrix int_ty) (fitting r t) → types_under gs g ≡ under r h → t ≡ type_of e h → u ≡ type_of x g
comp_typed x e gs r t u g h p q under-is s =
    q
    ∙ ap (λ o. option_map (compound2 a_matrix int_ty) (fitting r o)) s
    ∙ go r
    ∙ ap (λ o. and_then o (λ h. option_map (compound2 a_matrix int_ty) (type_of e h))) (sym under-is)
    ∙ ap (λ e. type_of e g) (sym p)
  where
    go : (r : Under) → option_map (compound2 a_matrix int_ty) (fitting r (type_of e h))
        ≡ and_then (under r h) (λ h. option_map (compound2 a_matrix int_ty) (type_of e h))
    go Fits = refl
    go Misfits = refl
