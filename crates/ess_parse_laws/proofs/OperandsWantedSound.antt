-- What a token does where an operand is wanted, and behind the words of expressions, keeps the invariant.
use Rattle.std.proofs.Common.{Bool, List, None, Some, [], ap, false, not, refl, subst, true, ◌||◌, ◌∙◌, ◌∷◌, ◌≡◌}
use Rattle.ess_semantics.specs.declared.words.Fun.{Fun}
use Rattle.ess_semantics.specs.declared.words.Op2.{Op2}
use Rattle.ess_semantics.specs.Trees.{Ex, Op, low_end, matrix_literal, more_exs, mset_literal, no_exs, no_gens, partition_literal, plain_node, relation_literal, set_literal}
use Rattle.ess_semantics.specs.Values.{Text}
use Rattle.ess_grammar.specs.Grammar.{Opens, Quantifier, empty_atom, empty_function_atom, exists_quantifier, false_atom, for_all_quantifier, low_range, name_atom, number_atom, opens_call, opens_matrix, opens_mset, opens_partition, opens_relation, opens_set, opens_tuple, sum_quantifier, true_atom}
use Rattle.ess_grammar.specs.Words.{Symbol, Token, bar, close_curly, close_round, close_square, comma, dots, exclamation, exists_word, false_word, for_all_word, function, function_word, mset_word, name, number, open_curly, open_round, open_square, operator, partition_word, record_word, relation_word, symbol, true_word, tuple_word, word}
use Rattle.ess_grammar.specs.Patterns.{starts_round}
use Rattle.ess_parse_laws.proofs.Contexts.{FieldContext, ListOpens, OperandContext, bar_before, dots_before, field_before, fields_before, list_begun_before, low_bound_before, minus_before, not_before, opens_application, opens_index, opens_literal, opens_round, pairs_begun_before, quantifier_before, ranges_before}
use Rattle.ess_parse_laws.specs.Frames.{Frame, fields_frame, high_bound_frame, items_frame, list_frame, node_list, pair_left_frame, quantifier_head, ranges_frame}
use Rattle.ess_parse_laws.proofs.Invariant.{Keeps, LiteralBegun, LiteralWord, ReadAtom, mset_literal_word, partition_literal_word, relation_literal_word, tuple_literal_word}
use Rattle.ess_parse_laws.specs.Items.{begin_quantifier, may_quantify}
use Rattle.ess_parse_laws.proofs.Booleans.{by_elim, or-true}
use Rattle.ess_parse_laws.specs.Operands.{continue_atom, is_open_round, is_sum_word, nothing_then_close_curly, nothing_then_close_round, nothing_then_close_square, nothing_then_comma, nothing_then_dots, step_field_read, step_function_word_read, step_literal_begun, step_operand_wanted, then_operand_wanted}
use Rattle.ess_parse_laws.proofs.ItemsSound.{first-items-begin}
use Rattle.ess_parse_laws.proofs.ItemRuns.{in_quantifier_head}
use Rattle.ess_parse_laws.specs.Modes.{operand_wanted}
use Rattle.ess_parse_laws.proofs.OperandEndsSound.{range-end, range-next}

empty-list : {t0 : List Token} {o : Op} {c : Symbol} {j : Bool} {fs : List Frame} {ts : List Token} → ((b : Bool) (us ts : List Token) → Opens o c b us ts → Opens o c true us ts) →
    ((us ts : List Token) → ListOpens (node_list o) c no_exs us ts → (b : Bool) × Opens o c b us ts) → OperandContext t0 (list_frame (node_list o) c j no_exs ∷ fs) (symbol c ∷ ts) → ReadAtom t0 fs false (plain_node o no_exs) ts
empty-list {c = c} {ts = ts} k m (list_begun_before {us = us} og x) = let b = m us (symbol c ∷ ts) og in record { us = us; context = x; derivation = empty_atom (k b.0 us (symbol c ∷ ts) b.1) }

empty-list-opens : {o : Op} {c : Symbol} (us ts : List Token) → ListOpens (node_list o) c no_exs us ts → (b : Bool) × Opens o c b us ts
empty-list-opens us ts (opens_literal {b = b} z) = (b, z)

mset-may-be-empty : (b : Bool) (us ts : List Token) → Opens mset_literal close_round b us ts → Opens mset_literal close_round true us ts
mset-may-be-empty b us ts opens_mset = opens_mset

relation-may-be-empty : (b : Bool) (us ts : List Token) → Opens relation_literal close_round b us ts → Opens relation_literal close_round true us ts
relation-may-be-empty b us ts opens_relation = opens_relation

partition-may-be-empty : (b : Bool) (us ts : List Token) → Opens partition_literal close_round b us ts → Opens partition_literal close_round true us ts
partition-may-be-empty b us ts opens_partition = opens_partition

matrix-may-be-empty : (b : Bool) (us ts : List Token) → Opens matrix_literal close_square b us ts → Opens matrix_literal close_square true us ts
matrix-may-be-empty b us ts opens_matrix = opens_matrix

set-may-be-empty : (b : Bool) (us ts : List Token) → Opens set_literal close_curly b us ts → Opens set_literal close_curly true us ts
set-may-be-empty b us ts opens_set = opens_set

nothing-then-close-round-keeps : {t0 : List Token} (fs : List Frame) (ts : List Token) → OperandContext t0 fs (symbol close_round ∷ ts) → Keeps t0 (nothing_then_close_round fs) ts
nothing-then-close-round-keeps (list_frame (node_list mset_literal) close_round j no_exs ∷ fs) ts x = empty-list mset-may-be-empty empty-list-opens x
nothing-then-close-round-keeps (list_frame (node_list relation_literal) close_round j no_exs ∷ fs) ts x = empty-list relation-may-be-empty empty-list-opens x
nothing-then-close-round-keeps (list_frame (node_list partition_literal) close_round j no_exs ∷ fs) ts x = empty-list partition-may-be-empty empty-list-opens x
nothing-then-close-round-keeps (pair_left_frame no_exs ∷ fs) ts (pairs_begun_before c) = record { us = word function_word ∷ symbol open_round ∷ symbol close_round ∷ ts; context = c; derivation = empty_function_atom }
nothing-then-close-round-keeps (high_bound_frame rs es a ∷ fs) ts (low_bound_before p g c) = range-end rs es p (low_range g) c
nothing-then-close-round-keeps _ ts x = tt

nothing-then-close-square-keeps : {t0 : List Token} (fs : List Frame) (ts : List Token) → OperandContext t0 fs (symbol close_square ∷ ts) → Keeps t0 (nothing_then_close_square fs) ts
nothing-then-close-square-keeps (list_frame (node_list matrix_literal) close_square j no_exs ∷ fs) ts x = empty-list matrix-may-be-empty empty-list-opens x
nothing-then-close-square-keeps _ ts x = tt

nothing-then-close-curly-keeps : {t0 : List Token} (fs : List Frame) (ts : List Token) → OperandContext t0 fs (symbol close_curly ∷ ts) → Keeps t0 (nothing_then_close_curly fs) ts
nothing-then-close-curly-keeps (list_frame (node_list set_literal) close_curly j no_exs ∷ fs) ts x = empty-list set-may-be-empty empty-list-opens x
nothing-then-close-curly-keeps _ ts x = tt

nothing-then-comma-keeps : {t0 : List Token} (fs : List Frame) (ts : List Token) → OperandContext t0 fs (symbol comma ∷ ts) → Keeps t0 (nothing_then_comma fs) ts
nothing-then-comma-keeps (high_bound_frame rs es a ∷ fs) ts (low_bound_before p g c) = range-next rs es (more_exs a es) low_end p (λ gs. (more_exs a gs, (refl, low_range g))) c
nothing-then-comma-keeps _ ts x = tt

nothing-then-dots-keeps : {t0 : List Token} (fs : List Frame) (ts : List Token) → OperandContext t0 fs (symbol dots ∷ ts) → Keeps t0 (nothing_then_dots fs) ts
nothing-then-dots-keeps (ranges_frame rs es ∷ fs) ts (ranges_before p c) = dots_before p c
nothing-then-dots-keeps _ ts x = tt

begin-quantifier-keeps : {t0 : List Token} {t : Token} {f : Fun} (fs : List Frame) (ts : List Token) → ((h : Bool) → (h || not false) ≡ true → Quantifier t f h ts) → OperandContext t0 fs (t ∷ ts) → Keeps t0 (begin_quantifier f fs) ts
begin-quantifier-keeps {t0 = t0} {f = f} fs ts q x =
    by_elim (may_quantify fs) (λ r. Keeps t0 r ts) (Some (record { mode = operand_wanted; frames = items_frame (quantifier_head f) [] no_gens no_exs ∷ fs })) None (λ h. first-items-begin in_quantifier_head (quantifier_before q x)) (λ h. tt)

-- Where an operand is wanted.
pub operand-wanted-keeps : {t0 : List Token} (t : Token) (fs : List Frame) (ts : List Token) → OperandContext t0 fs (t ∷ ts) → Keeps t0 (step_operand_wanted t fs) ts
operand-wanted-keeps (number n) fs ts x = record { us = number n ∷ ts; context = x; derivation = number_atom }
operand-wanted-keeps (name a) fs ts x = record { us = name a ∷ ts; context = x; derivation = name_atom }
operand-wanted-keeps (word true_word) fs ts x = record { us = word true_word ∷ ts; context = x; derivation = true_atom }
operand-wanted-keeps (word false_word) fs ts x = record { us = word false_word ∷ ts; context = x; derivation = false_atom }
operand-wanted-keeps (word tuple_word) fs ts x = record { t = word tuple_word; is = tuple_literal_word; context = x }
operand-wanted-keeps (word mset_word) fs ts x = record { t = word mset_word; is = mset_literal_word; context = x }
operand-wanted-keeps (word relation_word) fs ts x = record { t = word relation_word; is = relation_literal_word; context = x }
operand-wanted-keeps (word partition_word) fs ts x = record { t = word partition_word; is = partition_literal_word; context = x }
operand-wanted-keeps (word function_word) fs ts x = x
operand-wanted-keeps (word record_word) fs ts x = x
operand-wanted-keeps (word for_all_word) fs ts x = begin-quantifier-keeps fs ts (λ h k. for_all_quantifier) x
operand-wanted-keeps (word exists_word) fs ts x = begin-quantifier-keeps fs ts (λ h k. exists_quantifier) x
operand-wanted-keeps (function f) fs ts x = x
operand-wanted-keeps (operator Op2.Minus) fs ts x = minus_before x
operand-wanted-keeps (symbol exclamation) fs ts x = not_before x
operand-wanted-keeps (symbol bar) fs ts x = bar_before x
operand-wanted-keeps (symbol open_round) fs ts x = list_begun_before opens_round x
operand-wanted-keeps (symbol open_square) fs ts x = list_begun_before (opens_literal opens_matrix) x
operand-wanted-keeps (symbol open_curly) fs ts x = list_begun_before (opens_literal opens_set) x
operand-wanted-keeps (symbol close_round) fs ts x = nothing-then-close-round-keeps fs ts x
operand-wanted-keeps (symbol close_square) fs ts x = nothing-then-close-square-keeps fs ts x
operand-wanted-keeps (symbol close_curly) fs ts x = nothing-then-close-curly-keeps fs ts x
operand-wanted-keeps (symbol comma) fs ts x = nothing-then-comma-keeps fs ts x
operand-wanted-keeps (symbol dots) fs ts x = nothing-then-dots-keeps fs ts x
operand-wanted-keeps _ fs ts x = tt

sum-word : (f : Fun) → is_sum_word f ≡ true → f ≡ Fun.Sum
sum-word Fun.Sum h = refl
sum-word _ h = cc

not-starts : (t : Token) (ts : List Token) → is_open_round t ≡ false → starts_round (t ∷ ts) ≡ false
not-starts (symbol open_round) ts h = h
not-starts (symbol close_round) ts h = refl
not-starts _ ts h = refl

then-operand-keeps : {t0 : List Token} (t : Token) (fs : List Frame) (ts : List Token) → is_open_round t ≡ false → OperandContext t0 fs (function Fun.Sum ∷ t ∷ ts) → Keeps t0 (then_operand_wanted t (begin_quantifier Fun.Sum fs)) ts
then-operand-keeps {t0 = t0} t fs ts h x =
    by_elim (may_quantify fs) (λ r. Keeps t0 (then_operand_wanted t r) ts) (Some (record { mode = operand_wanted; frames = items_frame (quantifier_head Fun.Sum) [] no_gens no_exs ∷ fs })) None
    (λ k. operand-wanted-keeps t (items_frame (quantifier_head Fun.Sum) [] no_gens no_exs ∷ fs) ts (first-items-begin in_quantifier_head (quantifier_before (λ b q. sum_quantifier (ap (λ c. b || not c) (not-starts t ts h) ∙ or-true b)) x))) (λ k. tt)

-- The only opening round bracket.
pub open-round : (t : Token) → is_open_round t ≡ true → t ≡ symbol open_round
open-round (symbol open_round) h = refl
open-round (symbol close_round) h = cc
open-round _ h = cc

-- Behind a function word.
pub function-word-keeps : {t0 : List Token} (t : Token) (f : Fun) (fs : List Frame) (ts : List Token) → OperandContext t0 fs (function f ∷ t ∷ ts) → Keeps t0 (step_function_word_read t f fs) ts
function-word-keeps {t0 = t0} t f fs ts x =
    by_elim (is_open_round t) (λ r. Keeps t0 r ts) (Some (record { mode = operand_wanted; frames = list_frame (node_list (Op.word f)) close_round true no_exs ∷ fs })) (elim (is_sum_word f) [ true ↦ then_operand_wanted t (begin_quantifier Fun.Sum fs) | false ↦ None ])
    (λ h. list_begun_before (opens_literal opens_call) (subst (λ u. OperandContext t0 fs (function f ∷ u ∷ ts)) (open-round t h) x))
    (λ h. by_elim (is_sum_word f) (λ r. Keeps t0 r ts) (then_operand_wanted t (begin_quantifier Fun.Sum fs)) None (λ k. then-operand-keeps t fs ts h (subst (λ g. OperandContext t0 fs (function g ∷ t ∷ ts)) (sum-word f k) x)) (λ k. tt))

literal-word-opens : {o : Op} {t : Token} {ts : List Token} → LiteralWord o t → (b : Bool) × Opens o close_round b (t ∷ symbol open_round ∷ ts) ts
literal-word-opens tuple_literal_word = (false, opens_tuple)
literal-word-opens mset_literal_word = (true, opens_mset)
literal-word-opens relation_literal_word = (true, opens_relation)
literal-word-opens partition_literal_word = (true, opens_partition)

-- Behind the word of a literal.
pub literal-begun-keeps : {t0 : List Token} (t : Token) (o : Op) (fs : List Frame) (ts : List Token) → LiteralBegun t0 fs o (t ∷ ts) → Keeps t0 (step_literal_begun t o fs) ts
literal-begun-keeps (symbol open_round) o fs ts x = list_begun_before (opens_literal (literal-word-opens x.is).1) x.context
literal-begun-keeps _ o fs ts x = tt

-- Behind the name of a record literal's field.
pub field-read-keeps : {t0 : List Token} (t : Token) (a : Text) (fs : List Frame) (ts : List Token) → FieldContext t0 fs (name a ∷ t ∷ ts) → Keeps t0 (step_field_read t a fs) ts
field-read-keeps (operator Op2.Eq) a (fields_frame as' es ∷ fs) ts (fields_before p c) = field_before p c
field-read-keeps _ a fs ts x = tt

-- Behind an atom that goes on.
pub continue-atom-keeps : {t0 : List Token} (t : Token) (p : Bool) (e : Ex) (fs : List Frame) (ts : List Token) → ReadAtom t0 fs p e (t ∷ ts) → Keeps t0 (continue_atom t e fs) ts
continue-atom-keeps (symbol open_square) p e fs ts x = list_begun_before (opens_index x.derivation) x.context
continue-atom-keeps (symbol open_round) p e fs ts x = list_begun_before (opens_application x.derivation) x.context
continue-atom-keeps _ p e fs ts x = tt
