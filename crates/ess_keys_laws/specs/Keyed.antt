-- Refined trees with plain keys. Truth values at which cells are taken become numbers. And a rule looks a value up by `[e | .., j : D, ..,
-- j = t, ..]`: where the form tells that t lies in D, it is `[e | .., ..]` with t in the place of j. A fold whose generators are all gone
-- is its item, under its conditions. A long conjunction is a list. What no refined tree has stays as it is.
use Rattle.std.specs.Prelude.{ℕ, suc, nat_le, Bool, true, false, ◌&&◌, not, if◌then◌else◌, List, [], ◌∷◌, ◌++◌, Option, Some, None}
use Rattle.ess_semantics.specs.declared.words.Op2.{Op2}
use Rattle.ess_semantics.specs.declared.words.Fun.{Fun}
use Rattle.ess_semantics.specs.Lists.{and_then, or_default, when}
use Rattle.ess_semantics.specs.Values.{Text}
use Rattle.ess_semantics.specs.Names.{Names, look}
use Rattle.ess_semantics.specs.Trees.{Op, binary, word, matrix_literal, Pat, name_pat, tuple_pat, Ex, Exs, number_ex, truth_ex, name_ex, node_ex}
use Rattle.ess_semantics.specs.Trees.{matrix_ex, comp_ex, cell_ex, seen_ex, no_exs, more_exs, Gens, no_gens, over, from, cond, Dom}
use Rattle.ess_semantics.specs.Trees.{int_dom, ex2, fun1}
use Rattle.ess_guard_laws.specs.Origins.{Origin, with_any, with_over, is_number, is_sure}
use Rattle.ess_guard_laws.specs.Conditions.{unless}
use Rattle.ess_keys_laws.specs.KeyForms.{is_truth, as_indices, key_of, is_settled}
use Rattle.ess_keys_laws.specs.Chains.{all_under_and, conjunction_fold}

-- ---- what is known around a place

-- The bound names that a key stands for, with it, and what the others run over.
pub record Around : Type 0 where
  pub keys : Names Ex
  pub origins : Names Origin

-- Nothing is bound.
abbrev pub nothing_around : Around
nothing_around = record { keys = []; origins = [] }

-- What stands for a name.
abbrev pub key_for : Names Ex → Text → Ex
key_for s a = or_default (look s a) (name_ex a)

-- What stands for a key.
abbrev pub key_now : Names Ex → Ex → Ex
key_now s (name_ex a) = key_for s a
key_now s e = e

-- The key, where it is sure to lie in the domain.
abbrev pub when_sure : Names Origin → Ex → Dom → Option Ex
when_sure k t d = if is_sure k t d then Some t else None

-- The same of a key that may be there.
abbrev pub if_sure : Around → Dom → Option Ex → Option Ex
if_sure c d None = None
if_sure c d (Some t) = when_sure c.origins (key_now c.keys t) d

-- The key that stands for the name of a generator over d, where conditions behind it say which, and it is sure to lie in d.
abbrev pub sure_key : Around → Pat → Dom → Gens → Option Ex
sure_key c (name_pat j) d gs = if_sure c d (key_of j gs)
sure_key c (tuple_pat ps) d gs = None

-- The names with one for which a key stands.
abbrev pub with_key : Pat → Ex → Names Ex → Names Ex
with_key (name_pat j) t s = (j, t) ∷ s
with_key (tuple_pat ps) t s = s

-- Behind a generator over d, whose name may have a key.
abbrev pub entered : Around → Pat → Dom → Option Ex → Around
entered c p d (Some t) = record { keys = with_key p t c.keys; origins = c.origins }
entered c p d None = record { keys = c.keys; origins = with_over p d c.origins }

-- Behind a generator over a value.
abbrev pub entered_any : Around → Pat → Around
entered_any c p = record { keys = c.keys; origins = with_any p c.origins }

-- ---- folds and lists

-- A comprehension: a literal of one item where no generator or condition is left.
abbrev pub laid : Ex → Gens → Ex
laid e no_gens = node_ex false matrix_literal (more_exs e no_exs)
laid e gs = comp_ex e gs

-- The only operand.
abbrev pub one_operand : Exs → Option Ex
one_operand (more_exs e no_exs) = Some e
one_operand es = None

-- Whether nothing is there.
abbrev pub is_bare : Gens → Bool
is_bare no_gens = true
is_bare gs = false

-- Whether there are conditions alone.
abbrev pub are_conditions : Gens → Bool
are_conditions no_gens = true
are_conditions (cond c gs) = are_conditions gs
are_conditions gs = false

-- A Boolean under conditions, each before the others.
abbrev pub connected : Op2 → Gens → Ex → Ex
connected o (cond c gs) e = ex2 true o c (connected o gs e)
connected o gs e = e

-- Conditions, and the Boolean under them, as a list.
abbrev pub all_of : Gens → Ex → Exs
all_of (cond c gs) e = more_exs c (all_of gs e)
all_of gs e = more_exs e no_exs

-- The number of generators and conditions.
abbrev pub how_many : Gens → ℕ
how_many no_gens = 0
how_many (over p d gs) = suc (how_many gs)
how_many (from p e gs) = suc (how_many gs)
how_many (cond c gs) = suc (how_many gs)

-- The conditions as a list.
abbrev pub conditions_of : Gens → Exs
conditions_of (cond c gs) = more_exs c (conditions_of gs)
conditions_of gs = no_exs

-- A Boolean under many conditions: these are a list under `and`, with the Boolean where it holds with them. A chain of `/\` or `->` is nested
-- as deep as it is long, and no text may be nested deeper than a bound.
abbrev pub joined : Op2 → Gens → Ex → Ex
joined Op2.And gs e = if nat_le 16 (how_many gs) then all_under_and (all_of gs e) else connected Op2.And gs e
joined Op2.Implies gs e =
    if nat_le 16 (how_many gs) then ex2 true Op2.Implies (all_under_and (conditions_of gs)) e else connected Op2.Implies gs e
joined o gs e = connected o gs e

-- What a condition is to the body: `c -> e` is `and([e | c])`, and `c /\ e` is `or([e | c])`.
abbrev pub connective_of : Bool → Fun → Option Op2
connective_of true Fun.And = Some Op2.Implies
connective_of true Fun.Or = Some Op2.And
connective_of b f = None

-- What is left of a fold over a comprehension that has conditions alone.
abbrev pub condition_fold : Bool → Fun → Ex → Gens → Option Ex
condition_fold b f e gs = and_then (connective_of b f) (λ o. when (not (is_bare gs) && are_conditions gs) (joined o gs e))

-- Whether the fold of one item is the item: it is of the kind that is folded.
abbrev pub is_folded : Names Origin → Bool → Fun → Ex → Bool
is_folded k true Fun.And e = is_truth k e
is_folded k true Fun.Or e = is_truth k e
is_folded k false Fun.Sum e = is_number k e
is_folded k false Fun.Product e = is_number k e
is_folded k b f e = false

-- What is left of a fold over a list.
abbrev pub fold_of : Names Origin → Bool → Fun → Ex → Option Ex
fold_of k b f (comp_ex e gs) = condition_fold b f e gs
fold_of k b f (node_ex false matrix_literal es) = and_then (one_operand es) (λ e. when (is_folded k b f e) e)
fold_of k b f l = None

-- What is left of an operator.
abbrev pub fold_left : Names Origin → Bool → Op → Exs → Option Ex
fold_left k b (word f) es = and_then (one_operand es) (fold_of k b f)
fold_left k true (binary Op2.And) (more_exs a (more_exs r no_exs)) = conjunction_fold a r
fold_left k b op es = None

-- An operator's node, if nothing else is left of it.
abbrev pub folded : Names Origin → Bool → Op → Exs → Ex
folded k b op es = or_default (fold_left k b op es) (node_ex b op es)

abbrev mutual
  -- A condition as its conjuncts. Those that hold by their form are left out.
  pub conjuncts : Names Origin → Ex → List Ex
  conjuncts k (ex2 true Op2.And a b) = conjuncts k a ++ conjuncts k b
  conjuncts k (fun1 true Fun.And (node_ex false matrix_literal es)) = all_conjuncts k es
  conjuncts k e = unless (is_settled k e) e

  -- The conjuncts of several conditions.
  pub all_conjuncts : Names Origin → Exs → List Ex
  all_conjuncts k no_exs = []
  all_conjuncts k (more_exs e es) = conjuncts k e ++ all_conjuncts k es

-- Conditions before generators.
abbrev pub conditions_before : List Ex → Gens → Gens
conditions_before [] gs = gs
conditions_before (c ∷ cs) gs = cond c (conditions_before cs gs)

-- A generator over d before others, where its name has no key.
abbrev pub generator_before : Pat → Dom → Option Ex → Gens → Gens
generator_before p d (Some t) gs = gs
generator_before p d None gs = over p d gs

-- ---- trees

abbrev mutual
  -- The tree with plain keys.
  pub keyed : Around → Ex → Ex
  keyed c (number_ex n) = number_ex n
  keyed c (truth_ex b) = truth_ex b
  keyed c (name_ex a) = key_for c.keys a
  keyed c (node_ex b op es) = folded c.origins b op (keyed_all c es)
  keyed c (matrix_ex es d) = matrix_ex es d
  keyed c (comp_ex e gs) = laid (keyed (keyed_behind c gs) e) (keyed_gens c gs)
  keyed c (cell_ex b n es) = cell_ex b n (as_indices c.origins (keyed_all c es))
  keyed c (seen_ex r d ns es) = seen_ex r d ns es

  -- The same of operands.
  pub keyed_all : Around → Exs → Exs
  keyed_all c no_exs = no_exs
  keyed_all c (more_exs e es) = more_exs (keyed c e) (keyed_all c es)

  -- Generators and conditions.
  pub keyed_gens : Around → Gens → Gens
  keyed_gens c no_gens = no_gens
  keyed_gens c (over p d gs) =
      generator_before p (keyed_dom c d) (sure_key c p (keyed_dom c d) gs)
      (keyed_gens (entered c p (keyed_dom c d) (sure_key c p (keyed_dom c d) gs)) gs)
  keyed_gens c (from p e gs) = from p (keyed c e) (keyed_gens (entered_any c p) gs)
  keyed_gens c (cond e gs) = conditions_before (conjuncts c.origins (keyed c e)) (keyed_gens c gs)

  -- What is known behind them.
  pub keyed_behind : Around → Gens → Around
  keyed_behind c no_gens = c
  keyed_behind c (over p d gs) = keyed_behind (entered c p (keyed_dom c d) (sure_key c p (keyed_dom c d) gs)) gs
  keyed_behind c (from p e gs) = keyed_behind (entered_any c p) gs
  keyed_behind c (cond e gs) = keyed_behind c gs

  -- The bounds of ranges.
  pub keyed_dom : Around → Dom → Dom
  keyed_dom c (int_dom rs es) = int_dom rs (keyed_all c es)
  keyed_dom c d = d
