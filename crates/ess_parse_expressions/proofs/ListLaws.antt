-- Lists of operands: with no item, and with some.
use Rattle.std.proofs.Common.{◌≡◌, refl, ap, ◌∙◌, Bool, true, false, ◌&&◌, ◌<◌, ◌≤◌, length, List, [], ◌∷◌, ◌++◌, map, None, arith}
use Rattle.ess_semantics.specs.Values.{Text}
use Rattle.ess_semantics.specs.Trees as pure
use Rattle.ess_semantics.specs.Trees.{no_exs, more_exs, plain_node, tuple_literal, by_value, index, word}
use Rattle.ess_semantics.specs.declared.words.Fun.{Fun}
use Rattle.ess_grammar.specs.Words.{close_round, close_square}
use Rattle.ess_grammar.specs.Patterns.{is_one_bound, is_bound_name}
use Rattle.ess_grammar.specs.Grammar.{indexed, steps_of}
use Rattle.ess_parse_laws.specs.Frames as machine
use Rattle.ess_parse_laws.specs.Frames.{list_frame, round_list, index_list, pair_left_frame}
use Rattle.ess_parse_laws.specs.Operands.{nothing_then_close_round}
use Rattle.ess_parse_laws.specs.Modes.{at_state, operand_read}
use Rattle.ess_parse_laws.specs.Reversed.{reverse_exs}
use Rattle.ess_parse_laws.specs.AfterOperands.{operand_then_close_round, operand_then_close_square, indexed_of, end_list}
use Rattle.ess_core.specs.TreeViews.{pure_pair_ex, pure_pat, exs_of, pure_ex, pure_exs, pure_step, words_of, within}
use Rattle.ess_core.specs.declared.expressions.PairEx.{PairEx}
use Rattle.ess_core.specs.declared.expressions.Pat.{Pat}
use Rattle.ess_core.proofs.ExpressionEquations.{pure_at}
use Rattle.ess_core.proofs.PartEquations.{pure_pat_tuple}
use Rattle.ess_core.specs.declared.expressions.Ex.{Ex}
use Rattle.ess_core.specs.declared.expressions.Ex.TheVariants as ex
use Rattle.ess_core.specs.declared.expressions.Step.{Step}
use Rattle.ess_core.specs.declared.expressions.Pat.TheVariants as pat
use Rattle.ess_parse_frames.specs.Rows.{back_pairs, back_exs}
use Rattle.ess_parse_frames.specs.Patterns.{pattern_ex, view_pats, pats_in_order, back_pats, back_listed}
use Rattle.ess_parse_frames.proofs.PatternLaws.{pats_whole, pats_are_exs}
use Rattle.ess_parse_frames.specs.declared.operands.Listed.{Listed}
use Rattle.ess_parse_frames.specs.declared.operands.Listed.TheVariants as listed
use Rattle.ess_parse_frames.specs.Steps.{step_by}
use Rattle.ess_parse_expressions.specs.Lists.{has_no_items, begin_sum}

-- no items
pub no_items : (es : pure.Exs) → has_no_items es ≡ true → es ≡ no_exs
no_items no_exs h = refl
no_items (more_exs e es) h = cc

-- two or more expressions in brackets are a tuple
pub some_items : (es : pure.Exs) (j w p : Bool) (e : pure.Ex) (fs : List machine.Frame) → has_no_items es ≡ false →
    operand_then_close_round (list_frame round_list close_round j es ∷ fs) w p e ≡ at_state (operand_read (j && p) (plain_node tuple_literal (reverse_exs es (more_exs e no_exs)))) fs
some_items no_exs j w p e fs h = cc
some_items (more_exs x es) j w p e fs h = refl

-- an index has what is indexed
pub index_items : (es : pure.Exs) (j w p : Bool) (e : pure.Ex) (fs : List machine.Frame) → has_no_items es ≡ false →
    operand_then_close_square (list_frame index_list close_square j es ∷ fs) w p e ≡ at_state (operand_read false (indexed_of (reverse_exs es (more_exs e no_exs)))) fs
index_items no_exs j w p e fs h = cc
index_items (more_exs x es) j w p e fs h = refl

-- a single pattern may be a bound name
pub one_is_bound : (bs : List Text) (p : Pat) → is_one_bound bs (reverse_exs (back_pats [] no_exs) (more_exs (pattern_ex (pure_pat p)) no_exs)) ≡ is_bound_name bs (pattern_ex (pure_pat p))
unfolding back_pats
one_is_bound bs p = refl

two_are_not_bound : (bs : List Text) (x y : pure.Ex) (es : pure.Exs) → is_one_bound bs (more_exs x (more_exs y es)) ≡ false
two_are_not_bound bs x y es = refl

several : (bs : List Text) (q : Pat) (qs : List Pat) (p : Pat) → is_one_bound bs (pats_in_order (q ∷ qs ++ p ∷ [])) ≡ false
unfolding pats_in_order
several bs q [] p = refl
several bs q (r ∷ qs) p = refl

pub several_are_not_bound : (bs : List Text) (ps : List Pat) (p : Pat) → (ps ≡ [] → ⊥) → is_one_bound bs (reverse_exs (back_pats ps no_exs) (more_exs (pattern_ex (pure_pat p)) no_exs)) ≡ false
several_are_not_bound bs [] p h = absurd (h refl)
several_are_not_bound bs (q ∷ qs) p h = ap (is_one_bound bs) (pats_whole (q ∷ qs) p) ∙ several bs q qs p

-- ---- whether a row has items

reversed_some : (es before : pure.Exs) → has_no_items before ≡ false → has_no_items (reverse_exs es before) ≡ false
reversed_some no_exs before h = h
reversed_some (more_exs e es) before h = reversed_some es (more_exs e before) refl

pub no_pats_are_none : (ps : List Pat) → ps ≡ [] → has_no_items (back_pats ps no_exs) ≡ true
unfolding back_pats
no_pats_are_none [] h = refl
no_pats_are_none (p ∷ ps) h = cc

pub pats_are_some : (ps : List Pat) → (ps ≡ [] → ⊥) → has_no_items (back_pats ps no_exs) ≡ false
unfolding back_pats
pats_are_some [] h = absurd (h refl)
pats_are_some (p ∷ ps) h = reversed_some (exs_of (view_pats ps)) (more_exs (pattern_ex (pure_pat p)) no_exs) refl

pub no_exs_are_none : (es : List Ex) → es ≡ [] → has_no_items (back_exs es no_exs) ≡ true
unfolding back_exs
no_exs_are_none [] h = refl
no_exs_are_none (e ∷ es) h = cc

pub exs_are_some : (es : List Ex) → (es ≡ [] → ⊥) → has_no_items (back_exs es no_exs) ≡ false
unfolding back_exs
exs_are_some [] h = absurd (h refl)
exs_are_some (e ∷ es) h = reversed_some (pure_exs es) (more_exs (pure_ex e) no_exs) refl

pub listed_behind : (es : Listed) (a : pure.Ex) → has_no_items (back_listed es (more_exs a no_exs)) ≡ false
unfolding back_exs back_pats
listed_behind (listed.Patterns ps) a = reversed_some (exs_of (view_pats ps)) (more_exs a no_exs) refl
listed_behind (listed.Expressions es) a = reversed_some (pure_exs es) (more_exs a no_exs) refl

-- an index has what is indexed
pub index_list_closes : (es : Listed) (a : pure.Ex) (j w p : Bool) (e : pure.Ex) (fs : List machine.Frame) →
    operand_then_close_square (list_frame index_list close_square j (back_listed es (more_exs a no_exs)) ∷ fs) w p e ≡ at_state (operand_read false (indexed_of (reverse_exs (back_listed es (more_exs a no_exs)) (more_exs e no_exs)))) fs
index_list_closes es a j w p e fs = index_items (back_listed es (more_exs a no_exs)) j w p e fs (listed_behind es a)

-- ---- what lists become

-- a tuple of patterns
pub pattern_of_pats : (ps : List Pat) → pattern_ex (pure_pat (pat.Tuple ps)) ≡ plain_node tuple_literal (pats_in_order ps)
unfolding pats_in_order
pattern_of_pats ps = ap pattern_ex (pure_pat_tuple ps) ∙ ap (plain_node tuple_literal) (pats_are_exs ps)

words_by : (es : List Ex) → words_of (map step_by es) ≡ steps_of (pure_exs es)
words_by [] = refl
words_by (e ∷ es) = ap (λ ss. by_value ∷ ss) (words_by es)

within_by : (es : List Ex) → exs_of (within (map step_by es)) ≡ pure_exs es
within_by [] = refl
within_by (e ∷ es) = ap (more_exs (pure_ex e)) (within_by es)

-- an index by values
pub index_by_values : (a : Ex) (es : List Ex) (ss : List Step) → map pure_step ss ≡ map step_by es → pure_ex (ex.At false a ss) ≡ indexed (pure_ex a) (pure_exs es)
index_by_values a es ss h = pure_at false a ss
    ∙ ap (λ ws. plain_node (index (words_of ws)) (more_exs (pure_ex a) (exs_of (within ws)))) h
    ∙ ap (λ ws. plain_node (index ws) (more_exs (pure_ex a) (exs_of (within (map step_by es))))) (words_by es)
    ∙ ap (λ xs. plain_node (index (steps_of (pure_exs es))) (more_exs (pure_ex a) xs)) (within_by es)

-- ---- calls

-- a list with an item that is no pattern belongs to its word
pub call_is_held : (f : Fun) (es : pure.Exs) (fs : List machine.Frame) → end_list (word f) false es fs ≡ at_state (operand_read false (plain_node (word f) es)) fs
call_is_held Fun.Sum es fs = refl
call_is_held Fun.Product es fs = refl
call_is_held Fun.And es fs = refl
call_is_held Fun.Or es fs = refl
call_is_held Fun.Min es fs = refl
call_is_held Fun.Max es fs = refl
call_is_held Fun.AllDiff es fs = refl
call_is_held Fun.ToInt es fs = refl
call_is_held Fun.Image es fs = refl
call_is_held Fun.PreImage es fs = refl
call_is_held Fun.Defined es fs = refl
call_is_held Fun.Range es fs = refl
call_is_held Fun.ToSet es fs = refl
call_is_held Fun.ToMSet es fs = refl
call_is_held Fun.ToRelation es fs = refl
call_is_held Fun.Freq es fs = refl
call_is_held Fun.Parts es fs = refl
call_is_held Fun.Party es fs = refl
call_is_held Fun.Participants es fs = refl
call_is_held Fun.Together es fs = refl

-- a list of patterns belongs to any word but `sum`
pub call_of_patterns : (f : Fun) (es : pure.Exs) (fs : List machine.Frame) → (f ≡ Fun.Sum → ⊥) → end_list (word f) true es fs ≡ at_state (operand_read false (plain_node (word f) es)) fs
call_of_patterns Fun.Sum es fs h = absurd (h refl)
call_of_patterns Fun.Product es fs h = refl
call_of_patterns Fun.And es fs h = refl
call_of_patterns Fun.Or es fs h = refl
call_of_patterns Fun.Min es fs h = refl
call_of_patterns Fun.Max es fs h = refl
call_of_patterns Fun.AllDiff es fs h = refl
call_of_patterns Fun.ToInt es fs h = refl
call_of_patterns Fun.Image es fs h = refl
call_of_patterns Fun.PreImage es fs h = refl
call_of_patterns Fun.Defined es fs h = refl
call_of_patterns Fun.Range es fs h = refl
call_of_patterns Fun.ToSet es fs h = refl
call_of_patterns Fun.ToMSet es fs h = refl
call_of_patterns Fun.ToRelation es fs h = refl
call_of_patterns Fun.Freq es fs h = refl
call_of_patterns Fun.Parts es fs h = refl
call_of_patterns Fun.Party es fs h = refl
call_of_patterns Fun.Participants es fs h = refl
call_of_patterns Fun.Together es fs h = refl

-- the expressions that patterns are
pub exs_of_pats : (ps : List Pat) (es : List Ex) → map pure_ex es ≡ view_pats ps → pure_exs es ≡ pats_in_order ps
unfolding pats_in_order
exs_of_pats ps es h = ap exs_of h

-- a single pattern behind `sum` is an operand
pub one_is_summed : (ps : List Pat) (fs : List machine.Frame) → length ps ≤ 1 → end_list (word Fun.Sum) true (pats_in_order ps) fs ≡ at_state (operand_read false (plain_node (word Fun.Sum) (pats_in_order ps))) fs
unfolding pats_in_order
one_is_summed [] fs h = refl
one_is_summed (p ∷ []) fs h = refl
one_is_summed (p ∷ q ∷ ps) fs h = let no : ⊥ = omega arith in absurd no

-- several are the first pattern of a generator
pub several_are_drawn : (ps : List Pat) (fs : List machine.Frame) → 1 < length ps → end_list (word Fun.Sum) true (pats_in_order ps) fs ≡ begin_sum (pats_in_order ps) fs
unfolding pats_in_order
several_are_drawn [] fs h = let no : ⊥ = omega arith in absurd no
several_are_drawn (p ∷ []) fs h = let no : ⊥ = omega arith in absurd no
several_are_drawn (p ∷ q ∷ ps) fs h = refl

nothing_closes : (es : pure.Exs) (fs : List machine.Frame) → has_no_items es ≡ false → nothing_then_close_round (pair_left_frame es ∷ fs) ≡ None
nothing_closes no_exs fs h = cc
nothing_closes (more_exs e es) fs h = refl

-- pairs aren't closed where another is wanted
pub some_pairs : (ps : List PairEx) (fs : List machine.Frame) → (ps ≡ [] → ⊥) → nothing_then_close_round (pair_left_frame (back_pairs ps) ∷ fs) ≡ None
unfolding back_pairs
some_pairs [] fs h = absurd (h refl)
some_pairs (p ∷ ps) fs h = nothing_closes (reverse_exs (exs_of (map pure_pair_ex ps)) (more_exs (pure_pair_ex p) no_exs)) fs (reversed_some (exs_of (map pure_pair_ex ps)) (more_exs (pure_pair_ex p) no_exs) refl)
