-- Worked examples of what stays along a chain: types, marks, scopes and numbers.
use Rattle.std.specs.Prelude.{◌≡◌, refl, true, false, pos, [], ◌∷◌, codes, Some, None, option_map}
use Rattle.ess_semantics.specs.declared.words.Op2.{Op2}
use Rattle.ess_semantics.specs.declared.words.Fun.{Fun}
use Rattle.ess_semantics.specs.Values.{Text, a_set, a_tuple}
use Rattle.ess_semantics.specs.Names.{Names}
use Rattle.ess_semantics.specs.Trees.{by_value, to_component, binary, word, index, matrix_literal, set_literal, name_pat, Ex, truth_ex, node_ex, no_exs, more_exs, no_gens, over, from}
use Rattle.ess_semantics.specs.declared.words.ReprKind.{ReprKind}
use Rattle.ess_semantics.specs.Choice.{alone}
use Rattle.ess_semantics.specs.Types.{Ty, bool_ty, int_ty, compound1, compound2}
use Rattle.ess_semantics.specs.Typing.{other, static, type_of}
use Rattle.ess_semantics.specs.Constants.{tree_constants}
use Rattle.ess_semantics.specs.Contexts.{In, hole, in_operand, in_body, in_view_index, in_first}
use Rattle.ess_semantics.proofs.Shorthands.{N, n, es1, es2, bi, fn, upto, set}
use Rattle.ess_refine_laws.specs.MarksStay.{HasMarks}
use Rattle.ess_refine_laws.specs.ScopesStay.{Scope, scope_at, is_outside_views}
use Rattle.ess_rules_laws.specs.FoldRules.{fold_term}
use Rattle.ess_refine_laws.specs.AllRules.{over_a_term, size}
use Rattle.ess_refine_laws.specs.SparingRules.{keeps_operands}
use Rattle.ess_refine_laws.specs.ConstantsStay.{dropping_at}

abbrev s : Text
s = codes "s"

abbrev t : Text
t = codes "t"

abbrev j : Text
j = codes "j"

-- A set s, a pair t of a truth value and a number.
abbrev types : Names Ty
types = (s, compound1 a_set int_ty) ∷ (t, compound2 a_tuple bool_ty int_ty) ∷ []

-- ---- types

-- `t[1]` as it is read has the type of the first component by what the index says. `t[toInt(true)]` has none: so a numeral may not
-- come in the place of what says nothing unless types stay, and what stands there before is never a numeral.
says : (static (n 1) ≡ other → ⊥) × (static (fn Fun.ToInt (truth_ex true)) ≡ other)
says = ((λ e. cc), refl)

type_by_a_numeral : type_of (node_ex false (index (by_value ∷ [])) (es2 (N t) (n 1))) types ≡ Some bool_ty
type_by_a_numeral = refl

no_type_by_a_number : type_of (node_ex false (index (by_value ∷ [])) (es2 (N t) (fn Fun.ToInt (truth_ex true)))) types ≡ None
no_type_by_a_number = refl

-- ---- marks

-- `t[1]` is Boolean by its type, `1 in s` by its operator.
marked : HasMarks (bi Op2.And (node_ex true (index (to_component 1 ∷ [])) (es1 (N t))) (bi Op2.Member (n 1) (N s))) types
marked = (refl, ((refl, (tt, tt)), ((refl, (tt, (tt, tt))), tt)))

wrong_mark : HasMarks (node_ex false (index (to_component 1 ∷ [])) (es1 (N t))) types → ⊥
wrong_mark h = no h.0
  where
    no : false ≡ true → ⊥
    no e = cc

-- A node without a type has no right mark.
no_mark : HasMarks (bi Op2.Plus (N s) (n 1)) types → ⊥
no_mark h = h.0

-- ---- scopes

abbrev nothing : Scope
nothing = record { all = λ a. false; over_domains = λ a. false }

-- `or([.. | s : int(1..2), j <- t])`: s and j are in scope at the open part, s bound over a domain.
abbrev inside : In
inside = in_operand true (word Fun.Or) (in_first (in_body hole (over (name_pat s) (upto 2) (from (name_pat j) (N t) no_gens))) no_exs)

in_scope : ((scope_at inside nothing).all s ≡ true) × ((scope_at inside nothing).all j ≡ true) × ((scope_at inside nothing).all t ≡ false)
    × ((scope_at inside nothing).over_domains s ≡ true) × ((scope_at inside nothing).over_domains j ≡ false)
in_scope = (refl, refl, refl, refl, refl)

closed_views : (is_outside_views inside ≡ true)
    × (is_outside_views (in_view_index (alone ReprKind.Occurrence) (set (upto 2)) [] (in_first hole no_exs)) ≡ false)
closed_views = (refl, refl)

-- ---- numbers

-- The list in `sum([7, 8])` may lose items, so their number isn't counted; the one in `[7, 8] = j` may not.
uncounted : (dropping_at (in_operand false (word Fun.Sum) (in_first hole no_exs)) false ≡ true)
    × (tree_constants true (node_ex false matrix_literal (es2 (n 7) (n 8))) ≡ pos 7 ∷ pos 8 ∷ [])
uncounted = (refl, refl)

counted : (dropping_at (in_operand true (binary Op2.Eq) (in_first hole (es1 (N j)))) true ≡ false)
    × (tree_constants false (node_ex false matrix_literal (es2 (n 7) (n 8))) ≡ pos 1 ∷ pos 2 ∷ pos 7 ∷ pos 8 ∷ [])
counted = (refl, refl)

-- ---- rules that spell no more

spared : (keeps_operands size ≡ true) × (keeps_operands over_a_term ≡ false)
spared = (refl, refl)

-- `sum({7, 7, 7})` isn't counted, but as a source the literal is: 3 is new then. So the rule of a fold over a term isn't among them.
abbrev sevens : Ex
sevens = node_ex false set_literal (more_exs (n 7) (es2 (n 7) (n 7)))

counted_as_a_source : (tree_constants false (fn Fun.Sum sevens) ≡ pos 7 ∷ pos 7 ∷ pos 7 ∷ [])
    × (option_map (tree_constants false) (fold_term j (fn Fun.Sum sevens))
    ≡ Some (pos 1 ∷ pos 2 ∷ pos 3 ∷ pos 7 ∷ pos 7 ∷ pos 7 ∷ []))
counted_as_a_source = (refl, refl)
