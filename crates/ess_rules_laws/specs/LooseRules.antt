-- A quantifier doesn't see repeats: over the set of the members of a list, multiset or function it may run over these.
use Rattle.std.specs.Prelude.{true, false, Option, Some, None}
use Rattle.ess_semantics.specs.declared.words.Fun.{Fun}
use Rattle.ess_semantics.specs.Trees.{Ex, comp_ex, fun1, from}
use Rattle.ess_rules_laws.specs.Rules.{RuleKeeps}

-- `and([e | p <- toSet(s), hs])` is `and([e | p <- s, hs])`, and so it is with `or`.
abbrev pub fold_loosely : Ex → Option Ex
fold_loosely (fun1 true Fun.And (comp_ex e (from p (fun1 false Fun.ToSet s) hs))) = Some (fun1 true Fun.And (comp_ex e (from p s hs)))
fold_loosely (fun1 true Fun.Or (comp_ex e (from p (fun1 false Fun.ToSet s) hs))) = Some (fun1 true Fun.Or (comp_ex e (from p s hs)))
fold_loosely e = None

-- So they keep what they rewrite.
abbrev pub LooseFoldsKeep : Type 0
LooseFoldsKeep = RuleKeeps fold_loosely
