-- Rules of `min`, `max` and `allDiff` and of the signs that compare lists, on terms that aren't laid open as lists.
use Rattle.std.specs.Prelude.{Bool, true, false, ◌&&◌, ◌||◌, not, pos, Option, Some, None, if◌then◌else◌}
use Rattle.ess_semantics.specs.declared.words.Op2.{Op2}
use Rattle.ess_semantics.specs.declared.words.Fun.{Fun}
use Rattle.ess_semantics.specs.Values.{Text}
use Rattle.ess_semantics.specs.Trees.{name_pat, Ex, number_ex, name_ex, comp_ex, ex2, fun1, no_gens, from}
use Rattle.ess_rules_laws.specs.Rules.{RuleKeepsNew}
use Rattle.ess_rules_laws.specs.FoldRules.{is_laid_open}
use Rattle.ess_rules_laws.specs.InclusionRules.{every, frequency}

-- `[x | x <- s]`: the members of s as a list.
abbrev pub members_list : Text → Ex → Ex
members_list x s = comp_ex (name_ex x) (from (name_pat x) s no_gens)

-- Whether the word is of a list without being a fold.
abbrev pub is_of_list : Fun → Bool
is_of_list Fun.Min = true
is_of_list Fun.Max = true
is_of_list Fun.AllDiff = true
is_of_list f = false

-- `min(s)` is `min([x | x <- s])`, and so it is with `max` and `allDiff`.
abbrev pub list_term : Text → Ex → Option Ex
list_term x (fun1 b f s) = if is_of_list f && not (is_laid_open s) then Some (fun1 b f (members_list x s)) else None
list_term x e = None

-- Whether the sign compares lists.
abbrev pub is_lex : Op2 → Bool
is_lex Op2.LexLt = true
is_lex Op2.LexLe = true
is_lex Op2.LexGt = true
is_lex Op2.LexGe = true
is_lex o = false

-- A term as a list: itself where it is laid open, else the list of its members.
abbrev pub as_members : Text → Ex → Ex
as_members x s = if is_laid_open s then s else members_list x s

-- `a <lex b` is `[x | x <- a] <lex [x | x <- b]`, where one of them isn't laid open; so it is with the other signs. Both become lists at
-- once: matrices over one index domain have one type, and so have their lists, but not a matrix over truth values and a list.
abbrev pub lex_both : Text → Ex → Option Ex
lex_both x (ex2 true o a b) =
    if is_lex o && (not (is_laid_open a) || not (is_laid_open b)) then Some (ex2 true o (as_members x a) (as_members x b)) else None
lex_both x e = None

-- `allDiff(l)` is `and([freq(toMSet(l), x) = 1 | x <- l])`: each item is there once.
abbrev pub different_term : Text → Ex → Option Ex
different_term x (fun1 true Fun.AllDiff l) =
    Some (every x l (ex2 true Op2.Eq (frequency (fun1 false Fun.ToMSet l) (name_ex x)) (number_ex (pos 1))))
different_term x e = None

-- So they keep what they rewrite.
pub record ListRulesKeep : Type 0 where
  pub of_a_term : RuleKeepsNew list_term
  pub on_both_sides : RuleKeepsNew lex_both
  pub all_different : RuleKeepsNew different_term
