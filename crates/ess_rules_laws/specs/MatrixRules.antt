-- Rules of `=` between matrices: over the index domain that both have, over two index domains, and with the empty list.
use Rattle.std.specs.Prelude.{◌≡◌, Bool, true, false, not, [], ◌∷◌, length, pos, Option, Some, None, option_map, IsTrue, is_some, if◌then◌else◌}
use Rattle.ess_semantics.specs.declared.words.Op1.{Op1}
use Rattle.ess_semantics.specs.declared.words.Op2.{Op2}
use Rattle.ess_semantics.specs.declared.words.Fun.{Fun}
use Rattle.ess_semantics.specs.Values.{Text, a_matrix, number, items_of}
use Rattle.ess_semantics.specs.Order.{same_text}
use Rattle.ess_semantics.specs.Names.{Names}
use Rattle.ess_semantics.specs.Trees.{by_value, index, matrix_literal, name_pat, Ex, truth_ex, name_ex, node_ex, comp_ex, ex1, ex2, fun1, no_exs, more_exs, no_gens, over, from, Dom}
use Rattle.ess_semantics.specs.Types.{Ty, compound2, is_bool}
use Rattle.ess_semantics.specs.Typing.{type_of}
use Rattle.ess_semantics.specs.Typed.{Typed}
use Rattle.ess_semantics.specs.Meaning.{Env, meaning}
use Rattle.ess_semantics.specs.Meets.{Meets}
use Rattle.ess_semantics.specs.Kept.{Keeps}
use Rattle.ess_semantics.specs.Substitution.{NamesAreDom}
use Rattle.ess_rules_laws.specs.Rules.{Unused, SoundOperands, OperandsThere, RuleKeepsTypedThere}
use Rattle.ess_rules_laws.specs.FoldRules.{is_laid_open}
use Rattle.ess_rules_laws.specs.PartLookups.{IndexedBy}
use Rattle.ess_rules_laws.specs.SlotListings.{slots_dom}

-- `and([body | x : d])`.
abbrev pub every_over : Text → Dom → Ex → Ex
every_over x d body = fun1 true Fun.And (comp_ex body (over (name_pat x) d no_gens))

-- `or([body | x : d])`.
abbrev pub some_over : Text → Dom → Ex → Ex
some_over x d body = fun1 true Fun.Or (comp_ex body (over (name_pat x) d no_gens))

-- The item of a matrix at an index; t is the type of the items.
abbrev pub item_of : Ty → Ex → Ex → Ex
item_of t m i = node_ex (is_bool (Some t)) (index (by_value ∷ [])) (more_exs m (more_exs i no_exs))

-- That each member of d is one of c: `and([or([y = x | y : c]) | x : d])`.
abbrev pub lies_in : Text → Text → Dom → Dom → Ex
lies_in x y d c = every_over x d (some_over y c (ex2 true Op2.Eq (name_ex y) (name_ex x)))

-- That a and b have equal items at each member of d: `and([a[x] = b[x] | x : d])`; t and u are the types of the items.
abbrev pub equal_each_at : Text → Dom → Ty → Ty → Ex → Ex → Ex
equal_each_at x d t u a b = every_over x d (ex2 true Op2.Eq (item_of t a (name_ex x)) (item_of u b (name_ex x)))

-- Where both are matrices, that they have equal items.
abbrev pub both_matrices : Option Ty → Option Ty → (Ty → Ty → Ex) → Option Ex
both_matrices (Some (compound2 a_matrix i t)) (Some (compound2 a_matrix j u)) f = Some (f t u)
both_matrices t u f = None

-- Of matrices over one index domain d `a = b` is `and([a[x] = b[x] | x : d])`.
abbrev pub equal_items : Dom → Names Ty → Text → Ex → Option Ex
equal_items d g x (ex2 true Op2.Eq a b) = both_matrices (type_of a g) (type_of b g) (λ t u. equal_each_at x d t u a b)
equal_items d g x e = None

-- Of matrices over the index domains d and c `a = b` says too that each of these lies in the other.
abbrev pub equal_matrices : Dom → Dom → Names Ty → Text → Text → Ex → Option Ex
equal_matrices d c g x y (ex2 true Op2.Eq a b) = both_matrices (type_of a g) (type_of b g)
    (λ t u. ex2 true Op2.And (ex2 true Op2.And (lies_in x y d c) (lies_in x y c d)) (equal_each_at x d t u a b))
equal_matrices d c g x y e = None

-- Whether the type is of matrices.
abbrev pub is_matrix : Option Ty → Bool
is_matrix (Some (compound2 a_matrix i t)) = true
is_matrix t = false

-- Of a matrix `a = []` and `[] = a` are `!(or([true | x <- a]))`.
abbrev pub equal_to_nothing : Names Ty → Text → Ex → Option Ex
equal_to_nothing g x (ex2 true Op2.Eq a (node_ex false matrix_literal no_exs)) =
    if is_matrix (type_of a g) then Some
    (ex1 true Op1.Not (fun1 true Fun.Or (comp_ex (truth_ex true) (from (name_pat x) a no_gens)))) else None
equal_to_nothing g x (ex2 true Op2.Eq (node_ex false matrix_literal no_exs) a) =
    if is_matrix (type_of a g) then Some
    (ex1 true Op1.Not (fun1 true Fun.Or (comp_ex (truth_ex true) (from (name_pat x) a no_gens)))) else None
equal_to_nothing g x e = None

-- ---- what they count on

-- The domains are the index domains of the two operands.
abbrev pub BothIndexed : Dom → Dom → Ex → Env → Type 0
BothIndexed d c (ex2 m o a b) env = IndexedBy a d env × IndexedBy b c env
BothIndexed d c e env = Unit {0}

-- The expression has as its value the number of items of the list.
abbrev pub CountsItems : Ex → Ex → Env → Type 0
CountsItems n l env = meaning n env ≡ option_map (λ v. number (pos (length (items_of v)))) (meaning l env)

-- The name stands nowhere in the domain.
abbrev pub UnusedDom : Text → Dom → Type 0
UnusedDom x d = NamesAreDom (λ a. not (same_text x a)) (λ a. true) d

-- So they keep what they rewrite, where the operands have values. A list that is there has the index domain `int(1..n)`, where n
-- is the number of its items.
pub record MatrixRulesKeep : Type 0 where
  pub over_one_domain : (d : Dom) (g : Names Ty) (x : Text) (e f : Ex) → equal_items d g x e ≡ Some f → Unused x e → SoundOperands g e →
      (env : Env) → Typed g env → OperandsThere e env → BothIndexed d d e env → Keeps e f env
  pub over_two_domains : (d c : Dom) (g : Names Ty) (x y : Text) (e f : Ex) → equal_matrices d c g x y e ≡ Some f →
      same_text y x ≡ false → Unused x e → UnusedDom x d → UnusedDom x c → SoundOperands g e →
      (env : Env) → Typed g env → OperandsThere e env → BothIndexed d c e env → Keeps e f env
  pub with_nothing : RuleKeepsTypedThere equal_to_nothing
  pub lists_are_indexed : (n l : Ex) (env : Env) → is_laid_open l ≡ true → IsTrue (is_some (meaning l env)) → CountsItems n l env →
      Meets n env →
      IndexedBy l (slots_dom n) env
