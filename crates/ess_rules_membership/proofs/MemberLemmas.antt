-- What the rules of `in` make of a tree, from its operands.
use Rattle.std.proofs.Common.{◌≡◌, refl, ap, true, false, List, [], ◌∷◌, map}
use Rattle.ess_semantics.specs.declared.words.Op2.{Op2}
use Rattle.ess_semantics.specs.declared.words.Fun.{Fun}
use Rattle.ess_semantics.specs.Values.{Text}
use Rattle.ess_semantics.specs.Names.{Names}
use Rattle.ess_semantics.specs.Trees.{word, set_literal, mset_literal, relation_literal, Ex, Exs, node_ex, ex2, fun1, no_exs, more_exs}
use Rattle.ess_semantics.specs.Types.{Ty}
use Rattle.ess_semantics.specs.Typing.{type_of}
use Rattle.ess_core.specs.TreeViews.{exs_of}
use Rattle.ess_core_nodes.specs.declared.nodes.Node.{Node}
use Rattle.ess_core_nodes.specs.NodeViews.{pure_node, pure_nodes}
use Rattle.ess_rules_laws.specs.MembershipRules.{member_term, member_combined, member_changed, member_listed, equations}
use Rattle.ess_rules_laws.specs.FunctionMembershipRules.{member_of_function, member_related, an_argument, a_result, a_source}
use Rattle.ess_rules_forms.specs.Forms.{only_operand, both_operands, truth_pair, plain_pair, plain_word, of_pair, of_plain_pair}
use Rattle.ess_rules_forms.specs.Forms.{of_plain_word, of_only, of_both}

-- `a in s`.
pub term_of_pair : (x : Text) (e : Ex) → member_term x e ≡ of_pair (member_term x) (truth_pair e)
term_of_pair x (ex2 true Op2.Member a s) = refl
term_of_pair x (ex2 true o a s) = refl
term_of_pair x e = refl

-- `x in` what is made of two containers.
pub combined_of_pair : (e : Ex) → member_combined e ≡ of_pair member_combined (truth_pair e)
combined_of_pair (ex2 true Op2.Member x (ex2 false Op2.Union a b)) = refl
combined_of_pair (ex2 true Op2.Member x (ex2 false Op2.Intersect a b)) = refl
combined_of_pair (ex2 true Op2.Member x (ex2 false Op2.Minus a b)) = refl
combined_of_pair (ex2 true o a s) = refl
combined_of_pair e = refl

-- By these two.
pub combined_by_parts : (x s : Ex)
    → member_combined (ex2 true Op2.Member x s) ≡ of_plain_pair (λ t. member_combined (ex2 true Op2.Member x t)) (plain_pair s)
combined_by_parts x (ex2 false Op2.Union a b) = refl
combined_by_parts x (ex2 false o a b) = refl
combined_by_parts x s = refl

-- `x in` what is made of another container.
pub changed_of_pair : (g : Names Ty) (y : Text) (e : Ex) → member_changed g y e ≡ of_pair (member_changed g y) (truth_pair e)
changed_of_pair g y (ex2 true Op2.Member x (fun1 false Fun.ToSet m)) = refl
changed_of_pair g y (ex2 true Op2.Member x (fun1 false Fun.ToMSet m)) = refl
changed_of_pair g y (ex2 true Op2.Member x (fun1 false Fun.Parts m)) = refl
changed_of_pair g y (ex2 true o a s) = refl
changed_of_pair g y e = refl

-- By the other one.
pub changed_by_word : (g : Names Ty) (y : Text) (x s : Ex)
    → member_changed g y (ex2 true Op2.Member x s) ≡ of_plain_word (λ t. member_changed g y (ex2 true Op2.Member x t)) (plain_word s)
changed_by_word g y x (fun1 false Fun.ToSet m) = refl
changed_by_word g y x (fun1 false f m) = refl
changed_by_word g y x s = refl

-- `x in` a literal.
pub listed_of_pair : (e : Ex) → member_listed e ≡ of_pair member_listed (truth_pair e)
listed_of_pair (ex2 true Op2.Member x (node_ex false set_literal es)) = refl
listed_of_pair (ex2 true Op2.Member x (node_ex false mset_literal es)) = refl
listed_of_pair (ex2 true Op2.Member x (node_ex false relation_literal es)) = refl
listed_of_pair (ex2 true o a s) = refl
listed_of_pair e = refl

-- That x is each of the items, item by item.
pub equations_of : (x : Ex) (es : List Node) → equations x (pure_nodes es) ≡ exs_of (map (λ a. ex2 true Op2.Eq x (pure_node a)) es)
equations_of x [] = refl
equations_of x (a ∷ es) = ap (more_exs (ex2 true Op2.Eq x (pure_node a))) (equations_of x es)

-- `x in` what is made of a function.
pub function_of_pair : (g : Names Ty) (y : Text) (e : Ex) → member_of_function g y e ≡ of_pair (member_of_function g y) (truth_pair e)
function_of_pair g y (ex2 true Op2.Member a (fun1 false Fun.Defined f)) = refl
function_of_pair g y (ex2 true Op2.Member a (fun1 false Fun.Range f)) = refl
function_of_pair g y (ex2 true Op2.Member a (node_ex false (word Fun.PreImage) (more_exs f (more_exs b no_exs)))) = refl
function_of_pair g y (ex2 true o a s) = refl
function_of_pair g y e = refl

-- The arguments of a function, from the operands.
pub argument_by_operand : (g : Names Ty) (y : Text) (a : Ex) (es : Exs)
    → member_of_function g y (ex2 true Op2.Member a (node_ex false (word Fun.Defined) es))
    ≡ of_only (λ f. an_argument (type_of f g) y a f) (only_operand es)
argument_by_operand g y a (more_exs f no_exs) = refl
argument_by_operand g y a es = refl

-- Its results.
pub result_by_operand : (g : Names Ty) (y : Text) (a : Ex) (es : Exs)
    → member_of_function g y (ex2 true Op2.Member a (node_ex false (word Fun.Range) es))
    ≡ of_only (λ f. a_result (type_of f g) y a f) (only_operand es)
result_by_operand g y a (more_exs f no_exs) = refl
result_by_operand g y a es = refl

-- The arguments of a result.
pub source_by_operands : (g : Names Ty) (y : Text) (a : Ex) (es : Exs)
    → member_of_function g y (ex2 true Op2.Member a (node_ex false (word Fun.PreImage) es))
    ≡ of_both (λ f b. a_source (type_of f g) a f b) (both_operands es)
source_by_operands g y a (more_exs f (more_exs b no_exs)) = refl
source_by_operands g y a es = refl

-- `p in toRelation(f)`.
pub related_of_pair : (y : Text) (e : Ex) → member_related y e ≡ of_pair (member_related y) (truth_pair e)
related_of_pair y (ex2 true Op2.Member p (fun1 false Fun.ToRelation f)) = refl
related_of_pair y (ex2 true o a s) = refl
related_of_pair y e = refl

-- By the function.
pub related_by_word : (y : Text) (p s : Ex)
    → member_related y (ex2 true Op2.Member p s) ≡ of_plain_word (λ t. member_related y (ex2 true Op2.Member p t)) (plain_word s)
related_by_word y p (fun1 false Fun.ToRelation m) = refl
related_by_word y p (fun1 false f m) = refl
related_by_word y p s = refl
