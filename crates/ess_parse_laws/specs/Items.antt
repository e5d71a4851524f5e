-- Generators and conditions of quantifiers and comprehensions. A pattern waits, since it may belong to a generator; the
-- sign behind it decides.
use Rattle.std.specs.Prelude.{◌&&◌, Bool, List, None, Option, [], false, not, true, ◌∷◌}
use Rattle.ess_semantics.specs.declared.words.Fun.{Fun}
use Rattle.ess_semantics.specs.declared.words.Op2.{Op2}
use Rattle.ess_semantics.specs.Trees.{Ex, Exs, Gens, more_exs, no_exs, no_gens}
use Rattle.ess_semantics.specs.Values.{Text}
use Rattle.ess_grammar.specs.Patterns.{is_member, is_one_bound}
use Rattle.ess_parse_laws.specs.Frames.{Frame, Head, binary_frame, body_frame, comprehension_head, field_value_frame, generator_source_frame, items_frame, letting_frame, list_frame, minus_frame, not_frame, objective_frame, pair_left_frame, pair_right_frame, quantifier_head, such_that_frame, sum_head, unnamed_frame, where_frame}
use Rattle.ess_parse_laws.specs.Modes.{State, at_state, operand_wanted}
use Rattle.ess_parse_laws.specs.Reversed.{push_conditions, reverse_exs}

-- Whether a quantifier may stand as the innermost operand: nowhere that the grammar wants an expression that doesn't end
-- in a quantifier's body.
abbrev pub may_quantify : List Frame → Bool
may_quantify [] = true
may_quantify (minus_frame ∷ fs) = may_quantify fs
may_quantify (not_frame ∷ fs) = may_quantify fs
may_quantify (binary_frame o a ∷ fs) = may_quantify fs
may_quantify (body_frame f gs ∷ fs) = may_quantify fs
may_quantify (list_frame q c j es ∷ fs) = true
may_quantify (pair_left_frame es ∷ fs) = true
may_quantify (pair_right_frame es a ∷ fs) = true
may_quantify (field_value_frame as' es ∷ fs) = true
may_quantify (letting_frame a ss ∷ fs) = true
may_quantify (unnamed_frame a ss ∷ fs) = true
may_quantify (where_frame ss ∷ fs) = true
may_quantify (such_that_frame ss ∷ fs) = true
may_quantify (objective_frame b ss ∷ fs) = true
may_quantify _ = false

-- Whether `in` behind this pattern is a generator's sign: in a quantifier, but for a single name that earlier items bind.
abbrev pub in_is_sign : List Frame → Ex → Bool
in_is_sign (items_frame (quantifier_head f) bs acc pend ∷ fs) e = not (is_one_bound bs (reverse_exs pend (more_exs e no_exs)))
in_is_sign (items_frame sum_head bs acc pend ∷ fs) e = not (is_one_bound bs (reverse_exs pend (more_exs e no_exs)))
in_is_sign _ e = false

-- Whether an operator behind an operand, a pattern or not, is a generator's sign.
abbrev pub starts_generator : Op2 → Bool → Ex → List Frame → Bool
starts_generator o p e fs = is_member o && (p && in_is_sign fs e)

-- Behind its first generator `sum` is a quantifier as any other.
abbrev pub settled_head : Head → Head
settled_head sum_head = quantifier_head Fun.Sum
settled_head (quantifier_head f) = quantifier_head f
settled_head (comprehension_head e) = comprehension_head e

-- Behind a generator's sign its value is wanted: the waiting patterns are the generator's.
abbrev pub begin_source : List Frame → Ex → Option State
begin_source (items_frame h bs acc pend ∷ fs) e = at_state operand_wanted (generator_source_frame (settled_head h) bs acc (reverse_exs pend (more_exs e no_exs)) ∷ fs)
begin_source _ e = None

-- The items behind an item that is no generator: a pattern waits, any other expression makes it and those that wait
-- conditions.
abbrev pub item_ended : Head → List Text → Gens → Exs → Bool → Ex → Frame
item_ended h bs acc pend p e = elim p [ true ↦ items_frame h bs acc (more_exs e pend) | false ↦ items_frame h bs (push_conditions (more_exs e pend) acc) no_exs ]

-- Whether an expression, a pattern or not, may be an item that is no generator.
abbrev pub may_end_item : Head → Bool → Bool
may_end_item h true = true
may_end_item sum_head false = false
may_end_item h false = true

-- A quantifier's word was read: its items are wanted.
abbrev pub begin_quantifier : Fun → List Frame → Option State
begin_quantifier f fs = elim (may_quantify fs) [ true ↦ at_state operand_wanted (items_frame (quantifier_head f) [] no_gens no_exs ∷ fs) | false ↦ None ]
