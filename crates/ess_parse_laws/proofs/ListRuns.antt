-- Runs over the brackets of lists.
use Rattle.std.proofs.Common.{◌&&◌, Bool, List, None, Some, [], ap, false, refl, true, ℕ, ◌∷◌, ◌≡◌}
use Rattle.ess_semantics.specs.Trees.{Ex, Exs, Op, more_exs, no_exs, no_gens, plain_node, tuple_literal}
use Rattle.ess_grammar.specs.Grammar.{Opens, opens_call, opens_matrix, opens_mset, opens_partition, opens_relation, opens_set, opens_tuple}
use Rattle.ess_grammar.specs.Patterns.{Shape, are_several, is_pattern, may_hold}
use Rattle.ess_grammar.specs.Words.{Symbol, Token, close_round, close_square, symbol}
use Rattle.ess_parse_laws.specs.Frames.{Frame, index_list, items_frame, list_frame, node_list, round_list, sum_head}
use Rattle.ess_parse_laws.proofs.ExpressionEnds.{Stops, reading}
use Rattle.ess_parse_laws.proofs.EndLevels.{end_level-positive}
use Rattle.ess_parse_laws.specs.AfterOperands.{indexed_of}
use Rattle.ess_parse_laws.specs.Items.{may_quantify}
use Rattle.ess_parse_laws.specs.Modes.{operand_read, operand_wanted}
use Rattle.ess_parse_laws.specs.Reversed.{reverse_exs}
use Rattle.ess_parse_laws.specs.Machine.{run, then_run}

-- What begins a list that stands at a node opens its frame.
pub literal-opens : {o : Op} {c : Symbol} {b : Bool} {ts us : List Token} → Opens o c b ts us → (fs : List Frame) → run ts operand_wanted fs ≡ run us operand_wanted (list_frame (node_list o) c true no_exs ∷ fs)
literal-opens opens_tuple fs = refl
literal-opens opens_set fs = refl
literal-opens opens_mset fs = refl
literal-opens opens_relation fs = refl
literal-opens opens_partition fs = refl
literal-opens opens_matrix fs = refl
literal-opens opens_call fs = refl

-- Its closing symbol makes the node.
pub literal-closes : {o : Op} {c : Symbol} {b : Bool} {ts us : List Token} → Opens o c b ts us → (vs : List Token) (fs : List Frame) (i : Bool) (acc : Exs) (w : Bool) (s : Shape) (l : ℕ) (e : Ex) →
    may_hold o (i && is_pattern s) (reverse_exs acc (more_exs e no_exs)) ≡ true →
    reading (symbol c ∷ vs) (list_frame (node_list o) c i acc ∷ fs) w s l e ≡ run vs (operand_read false (plain_node o (reverse_exs acc (more_exs e no_exs)))) fs
literal-closes opens_tuple vs fs i acc w s l e h = refl
literal-closes opens_set vs fs i acc w s l e h = refl
literal-closes opens_mset vs fs i acc w s l e h = refl
literal-closes opens_relation vs fs i acc w s l e h = refl
literal-closes opens_partition vs fs i acc w s l e h = refl
literal-closes opens_matrix vs fs i acc w s l e h = refl
literal-closes (opens_call {f = f}) vs fs i acc w s l e h =
    let es = reverse_exs acc (more_exs e no_exs) in
    ap (λ b. then_run (elim b [
      | true ↦ Some (record { mode = operand_read false (plain_node (Op.word f) es); frames = fs })
      | false ↦ elim (may_quantify fs) [ true ↦ Some (record { mode = operand_read true (plain_node tuple_literal es); frames = items_frame sum_head [] no_gens no_exs ∷ fs }) | false ↦ None ]
    ]) (run vs)) h

-- Its closing symbol goes on with no expression.
pub literal-stops : {o : Op} {c : Symbol} {b : Bool} {ts us : List Token} → Opens o c b ts us → (vs : List Token) (w : Bool) (l : ℕ) → Stops w l (symbol c ∷ vs)
literal-stops opens_tuple vs w l = (end_level-positive l, refl, refl)
literal-stops opens_set vs w l = (end_level-positive l, refl, refl)
literal-stops opens_mset vs w l = (end_level-positive l, refl, refl)
literal-stops opens_relation vs w l = (end_level-positive l, refl, refl)
literal-stops opens_partition vs w l = (end_level-positive l, refl, refl)
literal-stops opens_matrix vs w l = (end_level-positive l, refl, refl)
literal-stops opens_call vs w l = (end_level-positive l, refl, refl)

-- A list without items.
pub literal-empty : {o : Op} {c : Symbol} {ts us : List Token} → Opens o c true ts us → (vs : List Token) (fs : List Frame) →
    run (symbol c ∷ vs) operand_wanted (list_frame (node_list o) c true no_exs ∷ fs) ≡ run vs (operand_read false (plain_node o no_exs)) fs
literal-empty opens_set vs fs = refl
literal-empty opens_mset vs fs = refl
literal-empty opens_relation vs fs = refl
literal-empty opens_partition vs fs = refl
literal-empty opens_matrix vs fs = refl

-- Whether there is one or more.
abbrev pub are_some : Exs → Bool
are_some no_exs = false
are_some (more_exs e es) = true

-- A round bracket behind two or more expressions makes a tuple.
pub tuple-closes : (vs : List Token) (fs : List Frame) (i : Bool) (acc : Exs) (w : Bool) (s : Shape) (l : ℕ) (e : Ex) → are_some acc ≡ true →
    reading (symbol close_round ∷ vs) (list_frame round_list close_round i acc ∷ fs) w s l e ≡ run vs (operand_read (i && is_pattern s) (plain_node tuple_literal (reverse_exs acc (more_exs e no_exs)))) fs
tuple-closes vs fs i no_exs w s l e h = cc
tuple-closes vs fs i (more_exs a as') w s l e h = refl

-- A square bracket behind an index.
pub index-closes : (vs : List Token) (fs : List Frame) (i : Bool) (acc : Exs) (w : Bool) (s : Shape) (l : ℕ) (e : Ex) → are_some acc ≡ true →
    reading (symbol close_square ∷ vs) (list_frame index_list close_square i acc ∷ fs) w s l e ≡ run vs (operand_read false (indexed_of (reverse_exs acc (more_exs e no_exs)))) fs
index-closes vs fs i no_exs w s l e h = cc
index-closes vs fs i (more_exs a as') w s l e h = refl

-- Two expressions behind others are two or more.
pub several-reversed : (acc : Exs) (a b : Ex) (es : Exs) → are_several (reverse_exs acc (more_exs a (more_exs b es))) ≡ true
several-reversed no_exs a b es = refl
several-reversed (more_exs c acc) a b es = several-reversed acc c a (more_exs b es)

-- One expression behind one or more is two or more.
pub several-behind : (acc : Exs) (e : Ex) → are_some acc ≡ true → are_several (reverse_exs acc (more_exs e no_exs)) ≡ true
several-behind no_exs e h = cc
several-behind (more_exs a acc) e h = several-reversed acc a e no_exs
