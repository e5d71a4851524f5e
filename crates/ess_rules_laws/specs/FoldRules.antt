-- Rules of folds over lists: `and`, `or`, `sum`, `product`.
use Rattle.std.specs.Prelude.{Bool, true, false, pos, Option, Some, None, if◌then◌else◌}
use Rattle.ess_semantics.specs.declared.words.Op2.{Op2}
use Rattle.ess_semantics.specs.declared.words.Fun.{Fun}
use Rattle.ess_semantics.specs.Values.{Text}
use Rattle.ess_semantics.specs.Trees.{matrix_literal, name_pat, Ex, number_ex, truth_ex, name_ex, node_ex, comp_ex, ex2, fun1, no_exs, more_exs, no_gens, from, cond}
use Rattle.ess_semantics.specs.Meaning.{Env, meaning}
use Rattle.ess_rules_laws.specs.Rules.{IsTruth, IsNumber}

-- Over a condition alone: `and([e | c])` is `c -> e`, and `or([e | c])` is `c /\ e`.
abbrev pub fold_alone : Ex → Option Ex
fold_alone (fun1 true Fun.And (comp_ex e (cond c no_gens))) = Some (ex2 true Op2.Implies c e)
fold_alone (fun1 true Fun.Or (comp_ex e (cond c no_gens))) = Some (ex2 true Op2.And c e)
fold_alone e = None

-- Over no items: the unit.
abbrev pub fold_nothing : Ex → Option Ex
fold_nothing (fun1 true Fun.And (node_ex false matrix_literal no_exs)) = Some (truth_ex true)
fold_nothing (fun1 true Fun.Or (node_ex false matrix_literal no_exs)) = Some (truth_ex false)
fold_nothing (fun1 false Fun.Sum (node_ex false matrix_literal no_exs)) = Some (number_ex (pos 0))
fold_nothing (fun1 false Fun.Product (node_ex false matrix_literal no_exs)) = Some (number_ex (pos 1))
fold_nothing e = None

-- Over one item: the item.
abbrev pub fold_one : Ex → Option Ex
fold_one (fun1 true Fun.And (node_ex false matrix_literal (more_exs a no_exs))) = Some a
fold_one (fun1 true Fun.Or (node_ex false matrix_literal (more_exs a no_exs))) = Some a
fold_one (fun1 false Fun.Sum (node_ex false matrix_literal (more_exs a no_exs))) = Some a
fold_one (fun1 false Fun.Product (node_ex false matrix_literal (more_exs a no_exs))) = Some a
fold_one e = None

-- What `fold_one` counts on: the item has a truth value where truth values are folded, else a number.
abbrev pub ItemFits : Ex → Env → Type 0
ItemFits (fun1 true f (node_ex false matrix_literal (more_exs a no_exs))) env = IsTruth (meaning a env)
ItemFits (fun1 false f (node_ex false matrix_literal (more_exs a no_exs))) env = IsNumber (meaning a env)
ItemFits e env = Unit {0}

-- Over a comprehension without generators: its item, as over one item.
abbrev pub fold_bare : Ex → Option Ex
fold_bare (fun1 true Fun.And (comp_ex e no_gens)) = Some e
fold_bare (fun1 true Fun.Or (comp_ex e no_gens)) = Some e
fold_bare (fun1 false Fun.Sum (comp_ex e no_gens)) = Some e
fold_bare (fun1 false Fun.Product (comp_ex e no_gens)) = Some e
fold_bare e = None

-- What it counts on.
abbrev pub BareFits : Ex → Env → Type 0
BareFits (fun1 true f (comp_ex e no_gens)) env = IsTruth (meaning e env)
BareFits (fun1 false f (comp_ex e no_gens)) env = IsNumber (meaning e env)
BareFits e env = Unit {0}

-- Whether the word folds lists.
abbrev pub is_fold : Fun → Bool
is_fold Fun.And = true
is_fold Fun.Or = true
is_fold Fun.Sum = true
is_fold Fun.Product = true
is_fold f = false

-- Whether the expression is a list literal or a comprehension.
abbrev pub is_laid_open : Ex → Bool
is_laid_open (comp_ex e gs) = true
is_laid_open (node_ex false matrix_literal es) = true
is_laid_open e = false

-- Over any other term: over a comprehension whose generator runs over the term.
abbrev pub fold_term : Text → Ex → Option Ex
fold_term x (fun1 b f l) = if is_fold f then (if is_laid_open l then None else Some (fun1 b f (comp_ex (name_ex x) (from (name_pat x) l no_gens)))) else None
fold_term x e = None
