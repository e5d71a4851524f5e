-- Folds over comprehensions whose generator runs over several parts: a union, or a literal. Each part has a fold of its own.
use Rattle.std.specs.Prelude.{◌≡◌, Bool, true, false, ◌&&◌, not, Option, Some, None, IsTrue, if◌then◌else◌}
use Rattle.ess_semantics.specs.declared.words.Op1.{Op1}
use Rattle.ess_semantics.specs.declared.words.Op2.{Op2}
use Rattle.ess_semantics.specs.declared.words.Fun.{Fun}
use Rattle.ess_semantics.specs.Values.{Text}
use Rattle.ess_semantics.specs.Names.{Names}
use Rattle.ess_semantics.specs.Trees.{matrix_literal, mset_literal, name_pat, Ex, Exs, name_ex, node_ex, comp_ex, ex1, ex2, fun1, no_exs, more_exs, Gens, from, cond}
use Rattle.ess_semantics.specs.Types.{Ty}
use Rattle.ess_semantics.specs.Typing.{type_of}
use Rattle.ess_semantics.specs.Typed.{Typed}
use Rattle.ess_semantics.specs.Meaning.{Env}
use Rattle.ess_semantics.specs.Kept.{Keeps}
use Rattle.ess_semantics.specs.Substitution.{substitute, substitute_gens, for_name, NamesAre, NamesAreExs, NamesAreGens}
use Rattle.ess_rules_laws.specs.Rules.{Unused, SoundExs, OperandsThere}
use Rattle.ess_rules_laws.specs.InclusionRules.{both_sets}

-- Whether the word folds lists, and the mark says whether it folds truth values.
abbrev pub is_marked : Bool → Fun → Bool
is_marked true Fun.And = true
is_marked true Fun.Or = true
is_marked false Fun.Sum = true
is_marked false Fun.Product = true
is_marked b f = false

-- A list literal.
abbrev pub list_of : Exs → Ex
list_of es = node_ex false matrix_literal es

-- `F([e | y <- a union b, hs])` is `F([F([e | y <- a, hs]), F([e | y <- b, !(y in a), hs])])`.
abbrev pub fold_union : Names Ty → Ex → Option Ex
fold_union g (fun1 m f (comp_ex e (from (name_pat y) (ex2 false Op2.Union a b) hs))) =
    if is_marked m f && both_sets (type_of a g) (type_of b g)
    then Some (fun1 m f (list_of (more_exs (fun1 m f (comp_ex e (from (name_pat y) a hs)))
    (more_exs (fun1 m f (comp_ex e (from (name_pat y) b (cond (ex1 true Op1.Not (ex2 true Op2.Member (name_ex y) a)) hs)))) no_exs))))
    else None
fold_union g e = None

-- What it counts on: the bound name is none of the source, and the operands of the source are sound.
abbrev pub UnionSound : Names Ty → Ex → Type 0
UnionSound g (fun1 m f (comp_ex e (from (name_pat y) (ex2 false o a b) hs))) = Unused y (ex2 false o a b) × SoundExs g (more_exs a (more_exs b no_exs))
UnionSound g e = Unit {0}

-- The fold for each item, with the item in the place of the name.
abbrev pub each_fold : Bool → Fun → Text → Ex → Gens → Exs → Exs
each_fold m f y e hs no_exs = no_exs
each_fold m f y e hs (more_exs a es) = more_exs (fun1 m f (comp_ex (substitute (for_name y a) e) (substitute_gens (for_name y a) hs))) (each_fold m f y e hs es)

-- `F([e | y <- [a, ..], hs])` is `F([F([e' | hs']), ..])`, with a for y, and so on. So it is with the items of a multiset.
abbrev pub fold_items : Ex → Option Ex
fold_items (fun1 m f (comp_ex e (from (name_pat y) (node_ex false matrix_literal es) hs))) = if is_marked m f then Some (fun1 m f (list_of (each_fold m f y e hs es))) else None
fold_items (fun1 m f (comp_ex e (from (name_pat y) (node_ex false mset_literal es) hs))) = if is_marked m f then Some (fun1 m f (list_of (each_fold m f y e hs es))) else None
fold_items e = None

-- What it counts on: s has y and the names of the items, none of which is bound behind them.
abbrev pub ItemsApart : (Text → Bool) → Ex → Type 0
ItemsApart s (fun1 m f (comp_ex e (from (name_pat y) (node_ex b op es) hs))) =
    IsTrue (s y) × NamesAreExs s (λ a. true) es × NamesAreGens (λ a. true) (λ a. not (s a)) hs × NamesAre (λ a. true) (λ a. not (s a)) e
ItemsApart s e = Unit {0}

-- So they keep what they rewrite, where the comprehension has a value.
pub record SourceRulesKeep : Type 0 where
  pub over_a_union : (g : Names Ty) (e f : Ex) → fold_union g e ≡ Some f → UnionSound g e → (env : Env) → Typed g env → OperandsThere e env → Keeps e f env
  pub over_a_literal : (s : Text → Bool) (e f : Ex) → fold_items e ≡ Some f → ItemsApart s e → (env : Env) → OperandsThere e env → Keeps e f env
