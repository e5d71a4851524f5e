-- Sources of words over comprehensions, at the first generator that isn't plain: what they offer by their forms, by their kinds, or by
-- what they pick.
use Rattle.std.specs.Prelude.{ℕ, suc, Bool, true, false, ◌&&◌, ◌||◌, not, if◌then◌else◌, List, [], ◌∷◌, map, Option, Some, None, option_map, is_some}
use Rattle.ess_semantics.specs.declared.words.Op2.{Op2}
use Rattle.ess_semantics.specs.declared.words.Fun.{Fun}
use Rattle.ess_semantics.specs.Lists.{and_then, or_else}
use Rattle.ess_semantics.specs.Values.{Text, a_tuple}
use Rattle.ess_semantics.specs.Names.{Names}
use Rattle.ess_semantics.specs.Trees.{word, set_literal, name_pat, Ex, node_ex, comp_ex, no_exs, Gens, over, from, cond, ex2, fun1, Pats, tuple_pat, no_pats, more_pats, name_ex, no_gens, matrix_ex}
use Rattle.ess_semantics.specs.Types.{Ty, Tys, no_tys, more_tys, compound}
use Rattle.ess_semantics.specs.Typing.{source_ty}
use Rattle.ess_semantics.specs.NamesAt.{names_behind}
use Rattle.ess_semantics.specs.ExpressionJudgements.{forgets_order}
use Rattle.ess_semantics.specs.Occurrences.{has_cells}
use Rattle.ess_semantics.specs.Refined.{is_refined, are_refined_gens}
use Rattle.ess_rules_laws.specs.ComponentRules.{component_of}
use Rattle.ess_rules_laws.specs.FoldRules.{is_laid_open, is_fold}
use Rattle.ess_rules_laws.specs.SourceRules.{list_of}
use Rattle.ess_rules_laws.specs.Listings.{Alternative}
use Rattle.ess_rules_laws.specs.ListedSources.{laid_out, source_parts, source_in_order}
use Rattle.ess_rules_laws.specs.SpliceRules.{append_gens, splice}
use Rattle.ess_rules_laws.specs.SplitRules.{split}
use Rattle.ess_rules_laws.specs.TupleNames.{name_over_tuple}
use Rattle.ess_rules_laws.specs.ListRules.{members_list, different_term, is_lex, is_of_list}
use Rattle.ess_rules_laws.specs.AlternativeLookups.{members_of_each}
use Rattle.ess_refine_laws.specs.RecordNames.{name_over_record}
use Rattle.ess_refine_laws.specs.LeavingConditions.{at_last_condition}
use Rattle.ess_refine_laws.specs.ExtremeAlternatives.{put_alternative, extreme_alternatives}
use Rattle.ess_refine_laws.specs.ExtremeRules.{is_extreme}
use Rattle.ess_refine_laws.specs.AllRules.{Supply, offered, only_one}
use Rattle.ess_kind_rules_laws.specs.ViewListings.{view_listing, matrix_listing}
use Rattle.ess_kind_rules_laws.specs.TermLookups.{picks, looked_up}
use Rattle.ess_open_rules_laws.specs.OpenGenerators.{at_first_open, behind_plain}

-- ---- what a source offers

-- The members of what is picked. The names for components serve its lookup too.
abbrev pub picked_members : Supply → Names Ty → Ex → Option (List Alternative)
picked_members s g t =
    if picks t then option_map (members_of_each s.one s.other) (looked_up g s.third s.parts t) else None

-- A view as the one alternative, else what is picked.
abbrev pub told_by_kind : Supply → Names Ty → Ex → Option (List Alternative)
told_by_kind s g t = or_else (option_map (λ a. a ∷ []) (view_listing s.one s.other s.parts t)) (picked_members s g t)

-- Whatever tells it.
abbrev pub all_offered : Supply → Names Ty → Ex → Option (List Alternative)
all_offered s g t = or_else (offered s g t) (told_by_kind s g t)

-- ---- the whole comprehension

-- The alternative behind generators.
abbrev pub behind_gens : Gens → Alternative → Alternative
behind_gens gs a = record a { gens = append_gens gs a.gens }

-- What a comprehension offers by the alternatives of its first generator that isn't plain.
abbrev pub put_opened : Ex → Gens → Gens → (Ex → Option (List Alternative)) → Option (List Alternative)
put_opened e gs (from (name_pat y) u hs) f = option_map (map (λ a. behind_gens gs (put_alternative y e hs a))) (f u)
put_opened e gs hs f = None

-- By whatever tells them.
abbrev pub comp_offered : Supply → Names Ty → Ex → Gens → Option (List Alternative)
comp_offered s g e gs = and_then (at_first_open gs) (λ t. put_opened e t.before t.after (all_offered s (names_behind t.before g)))

-- Where there isn't one alone.
abbrev pub several : Option (List Alternative) → Option (List Alternative)
several (Some (a ∷ [])) = None
several o = o

-- ---- words that forget order

-- A word that forgets order over the one alternative.
abbrev pub over_one_opened : Supply → Names Ty → Ex → Option Ex
over_one_opened s g (fun1 m f (comp_ex e gs)) =
    if forgets_order (word f) then option_map (λ a. fun1 m f (laid_out a)) (only_one (comp_offered s g e gs)) else None
over_one_opened s g e = None

-- A fold over several alternatives of what its first source picks.
abbrev pub over_each_picked : Supply → Names Ty → Ex → Option Ex
over_each_picked s g (fun1 m f (comp_ex e (from (name_pat y) t hs))) =
    and_then (picked_members s g t) (λ l. source_parts l (fun1 m f (comp_ex e (from (name_pat y) t hs))))
over_each_picked s g e = None

-- The least or the greatest over several alternatives.
abbrev pub least_of_several : Supply → Names Ty → Ex → Option Ex
least_of_several s g (fun1 false f (comp_ex e gs)) =
    if is_extreme f
    then and_then (several (comp_offered s g e gs)) (λ l. extreme_alternatives l (fun1 false f (comp_ex e gs))) else None
least_of_several s g e = None

-- The union of the sets of the items of each alternative.
abbrev pub sets_united : List Alternative → Ex
sets_united [] = node_ex false set_literal no_exs
sets_united (a ∷ []) = fun1 false Fun.ToSet (laid_out a)
sets_united (a ∷ l) = ex2 false Op2.Union (fun1 false Fun.ToSet (laid_out a)) (sets_united l)

-- The set of the items of a comprehension over several alternatives.
abbrev pub set_of_several : Supply → Names Ty → Ex → Option Ex
set_of_several s g (fun1 false Fun.ToSet (comp_ex e gs)) = option_map sets_united (several (comp_offered s g e gs))
set_of_several s g e = None

-- `toSet(t)` is `toSet([x | x <- t])`, where t isn't laid open.
abbrev pub set_of_term : Supply → Ex → Option Ex
set_of_term s (fun1 false Fun.ToSet t) = if is_laid_open t then None else Some (fun1 false Fun.ToSet (members_list s.one t))
set_of_term s e = None

-- Whether models can't have the list as it is, whatever its items are: a condition reads cells once all is refined, or there are
-- several alternatives.
abbrev pub is_counted_apart : Supply → Names Ty → Ex → Gens → Bool
is_counted_apart s g e gs =
    (is_refined e && (are_refined_gens gs && is_some (at_last_condition gs))) || is_some (several (comp_offered s g e gs))

-- `allDiff` of such a list, by how often each item is there.
abbrev pub counted_apart : Supply → Names Ty → Ex → Option Ex
counted_apart s g (fun1 true Fun.AllDiff (comp_ex e gs)) =
    if is_counted_apart s g e gs then different_term s.one (fun1 true Fun.AllDiff (comp_ex e gs)) else None
counted_apart s g e = None

-- ---- repeats and index domains that don't count

-- Whether repeats don't count in the operand of the word.
abbrev pub forgets_repeats : Bool → Fun → Bool
forgets_repeats true Fun.And = true
forgets_repeats true Fun.Or = true
forgets_repeats false Fun.Min = true
forgets_repeats false Fun.Max = true
forgets_repeats m f = false

-- A generator over what a set is made of, in the place of one over the set.
abbrev pub loose_source : Gens → Option Gens
loose_source (from p (fun1 false Fun.ToSet t) hs) = Some (from p t hs)
loose_source gs = None

-- Such a word over a set made of another term: over that term.
abbrev pub seen_loosely : Ex → Option Ex
seen_loosely (fun1 m f (comp_ex e gs)) =
    if forgets_repeats m f
    then and_then (at_first_open gs) (λ t. option_map (λ hs. fun1 m f (comp_ex e (append_gens t.before hs))) (loose_source t.after)) else None
seen_loosely e = None

-- Whether the expression is a matrix by its items over an index domain, and the list of these.
abbrev pub is_placed : Ex → Bool
is_placed (matrix_ex es d) = true
is_placed e = false

abbrev pub plain_list : Ex → Ex
plain_list (matrix_ex es d) = list_of es
plain_list e = e

-- A word of lists, or a sign between them, sees no index domain.
abbrev pub listed_plainly : Ex → Option Ex
listed_plainly (ex2 true o a b) = if is_lex o && (is_placed a || is_placed b) then Some (ex2 true o (plain_list a) (plain_list b)) else None
listed_plainly (fun1 m f t) = if (is_fold f || is_of_list f) && is_placed t then Some (fun1 m f (plain_list t)) else None
listed_plainly e = None

-- ---- comprehensions in any place: the order of items stays

-- A condition that reads a table can't stay where order counts. So what is picked is taken in order only where no table says which items
-- there are.
abbrev mutual
  -- Whether the expression is a comprehension over domains and such comprehensions, no condition of which reads a table.
  pub is_decided : Ex → Bool
  is_decided (comp_ex e gs) = are_decided gs
  is_decided e = false

  -- The same of its generators.
  pub are_decided : Gens → Bool
  are_decided no_gens = true
  are_decided (over p d gs) = are_decided gs
  are_decided (from p t gs) = is_decided t && are_decided gs
  are_decided (cond c gs) = not (has_cells c) && are_decided gs

-- Whether the first generator runs over such a comprehension.
abbrev pub is_first_decided : Gens → Bool
is_first_decided (from p t gs) = is_decided t
is_first_decided gs = false

-- The only alternative, where it begins so.
abbrev pub decided_one : Option (List Alternative) → Option Alternative
decided_one o = and_then (only_one o) (λ a. if is_first_decided a.gens then Some a else None)

-- Over a view of a matrix, or what is picked.
abbrev pub in_order_told : Supply → Names Ty → Ex → Option Alternative
in_order_told s g t = or_else (matrix_listing s.one t) (decided_one (picked_members s g t))

abbrev pub opened_in_order : Supply → Names Ty → Ex → Option Ex
opened_in_order s g (comp_ex e (from (name_pat y) t hs)) =
    and_then (in_order_told s g t) (λ a. source_in_order a (comp_ex e (from (name_pat y) t hs)))
opened_in_order s g e = None

-- The components of a tuple, if it is one.
abbrev pub tuple_parts : Ty → Option Tys
tuple_parts (compound a_tuple ts) = Some ts
tuple_parts t = None

-- A generator for each pattern, over the component of z alone, before others.
abbrev pub components_bound : Text → ℕ → Pats → Tys → Gens → Option Gens
components_bound z k no_pats no_tys hs = Some hs
components_bound z k (more_pats p ps) (more_tys t ts) hs =
    option_map (from p (comp_ex (component_of t k (name_ex z)) no_gens)) (components_bound z (suc k) ps ts hs)
components_bound z k ps ts hs = None

-- `[e | (p, q) <- s, hs]` is `[e | z <- s, p <- [z[1] | ], q <- [z[2] | ], hs]`; z is a new name.
abbrev pub pattern_opened : Names Ty → Text → Ex → Option Ex
pattern_opened g z (comp_ex e (from (tuple_pat ps) s hs)) =
    and_then (tuple_parts (source_ty s g))
    (λ ts. option_map (λ gs. comp_ex e (from (name_pat z) s gs)) (components_bound z 1 ps ts hs))
pattern_opened g z e = None

-- At the first generator.
abbrev pub kept_in_order : Supply → Names Ty → Ex → Option Ex
kept_in_order s g e =
    or_else (splice e) (or_else (split e) (or_else (name_over_tuple s.parts e) (or_else (name_over_record s.parts e)
    (or_else (pattern_opened g s.one e) (opened_in_order s g e)))))

-- At the first generator that isn't plain.
abbrev pub kept_behind : Supply → Names Ty → Ex → Option Ex
kept_behind s g e = behind_plain (λ gs. kept_in_order s (names_behind gs g)) e
