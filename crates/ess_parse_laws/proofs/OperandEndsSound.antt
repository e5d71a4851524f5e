-- What a comma or a closing bracket does behind an expression keeps the invariant.
use Rattle.std.proofs.Common.{Bool, List, None, Some, [], false, refl, subst, ℕ, ◌∷◌, ◌≡◌}
use Rattle.ess_semantics.specs.Trees.{Ends, Ex, Exs, Mark, both_ends, high_end, int_dom, let_ex, let_unnamed, more_exs, needs, no_exs, one_value, such_that, valued}
use Rattle.ess_grammar.specs.Grammar.{Attributes, Expression, Range, Ranges, both_range, function_atom, high_range, last_attribute, last_field, last_pair, last_range, next_attribute, next_field, next_pair, next_range, pair_ex, ranges_domain, record_atom, some_attributes, value_range, valued_attribute}
use Rattle.ess_grammar.specs.Patterns.{Shape, is_pattern}
use Rattle.ess_grammar.specs.Words.{Token, close_curly, close_round, close_square, comma, function_word, int_word, open_curly, open_round, record_word, symbol, word}
use Rattle.ess_grammar.specs.Statements.{plain_letting_part, such_that_part, unnamed_letting_part, value_letting, where_part}
use Rattle.ess_parse_laws.proofs.Contexts.{DomainContext, OperandContext, attribute_before, attributes_before, dots_before, field_before, fields_before, function_with_attributes, function_word_before, generator_sign_before, in_items, joining_before, letting_before, low_bound_before, owner_word, pair_left_before, pairs_before, ranges_before, relation_begun_before, size_before, such_that_before, where_before}
use Rattle.ess_parse_laws.proofs.ExpressionEnds.{Fits}
use Rattle.ess_parse_laws.specs.Frames.{Frame, Owner, attribute_value_frame, comprehension_head, field_value_frame, function_owner, generator_source_frame, high_bound_frame, index_list, inner_owner, items_frame, letting_frame, list_frame, lone_high_bound_frame, node_list, pair_right_frame, ranges_frame, relation_owner, round_list, such_that_frame, unnamed_frame, where_frame}
use Rattle.ess_parse_laws.proofs.Invariant.{Keeps, ReadDomain}
use Rattle.ess_parse_laws.proofs.ListsSound.{brackets-end, curly-list-ends, end-list-keeps, index-list-ends, list-goes-on, round-list-ends, square-list-ends}
use Rattle.ess_parse_laws.proofs.Booleans.{by_elim}
use Rattle.ess_parse_laws.proofs.ItemsSound.{comprehension-ends, condition-last, item-ended-keeps, source-last, source-next}
use Rattle.ess_parse_laws.specs.AfterOperands.{end_attributes, operand_then_close_curly, operand_then_close_round, operand_then_close_square, operand_then_comma}
use Rattle.ess_parse_laws.specs.Items.{item_ended, may_end_item}
use Rattle.ess_parse_laws.specs.Modes.{operand_wanted}
use Rattle.ess_parse_laws.proofs.StatementContexts.{part-goes-on}
use Rattle.ess_parse_laws.specs.Reversed.{reverse_exs, reverse_list}

-- Ranges behind those of the frame.
abbrev RangesFrom : List Ends → Exs → List Token → List Token → Type 0
RangesFrom qs acc us vs = (rs : List Ends) (es : Exs) (xs : List Token) → Ranges rs es vs xs → Ranges (reverse_list qs rs) (reverse_exs acc es) us xs

-- Another range follows.
pub range-next : (qs : List Ends) (acc bcc : Exs) (r : Ends) {t0 : List Token} {fs : List Frame} {us vs ts : List Token} → RangesFrom qs acc us vs →
    ((gs : Exs) → (es : Exs) × ((reverse_exs acc es ≡ reverse_exs bcc gs) × Range r gs es vs (symbol comma ∷ ts))) → DomainContext t0 fs (word int_word ∷ symbol open_round ∷ us) → OperandContext t0 (ranges_frame (r ∷ qs) bcc ∷ fs) ts
range-next qs acc bcc r {us = us} p k c =
    ranges_before (λ rs es xs ds. subst (λ fs. Ranges (reverse_list qs (r ∷ rs)) fs us xs) ((k es).1.0) (p (r ∷ rs) (k es).0 xs (next_range (k es).1.1 ds))) c

-- The ranges of an int domain end.
pub range-end : (qs : List Ends) (acc : Exs) {t0 : List Token} {fs : List Frame} {es : Exs} {r : Ends} {us vs ts : List Token} → RangesFrom qs acc us vs → Range r no_exs es vs (symbol close_round ∷ ts) →
    DomainContext t0 fs (word int_word ∷ symbol open_round ∷ us) → ReadDomain t0 fs (int_dom (reverse_list qs (r ∷ [])) (reverse_exs acc es)) ts
range-end qs acc {es = es} {r = r} {us = us} {ts = ts} p k c = record { us = word int_word ∷ symbol open_round ∷ us; context = c; derivation = ranges_domain (p (r ∷ []) es (symbol close_round ∷ ts) (last_range k)) }

-- The attributes of a domain end.
pub attributes-keep : {t0 : List Token} {ms : List Mark} {es : Exs} {us ts : List Token} (o : Owner) (fs : List Frame) → Attributes ms es us (symbol close_round ∷ ts) →
    DomainContext t0 fs (word (owner_word o) ∷ symbol open_round ∷ us) → Keeps t0 (end_attributes o ms es fs) ts
attributes-keep (inner_owner k) fs as' c = joining_before (some_attributes as') c
attributes-keep relation_owner fs as' c = relation_begun_before (some_attributes as') c
attributes-keep function_owner fs as' c = function_word_before (function_with_attributes as') c

-- A comma keeps it.
pub comma-keeps : {t0 : List Token} (fs : List Frame) (w : Bool) (s : Shape) (l : ℕ) (e : Ex) (us ts : List Token) → OperandContext t0 fs us → Expression w s l e us (symbol comma ∷ ts) → Fits fs s → Keeps t0 (operand_then_comma fs w (is_pattern s) e) ts
comma-keeps (list_frame q c j es ∷ fs) w s l e us ts x d f = list-goes-on x d
comma-keeps (pair_right_frame es a ∷ fs) w s l e us ts (pair_left_before p g c) d f = pairs_before (λ es xs ds. p (more_exs (pair_ex a e) es) xs (next_pair g d ds)) c
comma-keeps (field_value_frame (a ∷ as') es ∷ fs) w s l e us ts (field_before p c) d f = fields_before (λ bs es xs ds. p (a ∷ bs) (more_exs e es) xs (next_field d ds)) c
comma-keeps (field_value_frame [] es ∷ fs) w s l e us ts x d f = elim x [ ]
comma-keeps {t0 = t0} (items_frame h bs acc pend ∷ fs) false s l e us ts x d f =
    by_elim (may_end_item h (is_pattern s)) (λ r. Keeps t0 r ts) (Some (record { mode = operand_wanted; frames = item_ended h bs acc pend (is_pattern s) e ∷ fs })) None (λ q. item-ended-keeps s x d f q) (λ q. tt)
comma-keeps (attribute_value_frame o k ms es ∷ fs) false s l e us ts (attribute_before i p c) d f =
    attributes_before (λ ns es' xs ds. p (valued k ∷ ns) (more_exs e es') xs (next_attribute (valued_attribute i d) ds)) c
comma-keeps (letting_frame a ss ∷ fs) w s l e us ts (letting_before p) d f = part-goes-on ss (let_ex a e ∷ []) p (plain_letting_part (value_letting d))
comma-keeps (unnamed_frame a ss ∷ fs) w s l e us ts (size_before p) d f = part-goes-on ss (let_unnamed a e ∷ []) p (unnamed_letting_part d)
comma-keeps (where_frame ss ∷ fs) w s l e us ts (where_before p) d f = where_before (part-goes-on ss (needs e ∷ []) p (where_part d))
comma-keeps (such_that_frame ss ∷ fs) w s l e us ts (such_that_before p) d f = such_that_before (part-goes-on ss (such_that e ∷ []) p (such_that_part d))
comma-keeps (generator_source_frame h bs acc ps ∷ fs) false s l e us ts x d f = source-next x d
comma-keeps (ranges_frame rs es ∷ fs) false s l e us ts (ranges_before p c) d f = range-next rs es (more_exs e es) one_value p (λ gs. (more_exs e gs, (refl, value_range d))) c
comma-keeps (high_bound_frame rs es a ∷ fs) false s l e us ts (low_bound_before p g c) d f = range-next rs es (more_exs e (more_exs a es)) both_ends p (λ gs. (more_exs a (more_exs e gs), (refl, both_range g d))) c
comma-keeps (lone_high_bound_frame rs es ∷ fs) false s l e us ts (dots_before p c) d f = range-next rs es (more_exs e es) high_end p (λ gs. (more_exs e gs, (refl, high_range d))) c
comma-keeps _ w s l e us ts x d f = tt

-- A closing round bracket keeps it.
pub close-round-keeps : {t0 : List Token} (fs : List Frame) (w : Bool) (s : Shape) (l : ℕ) (e : Ex) (us ts : List Token) → OperandContext t0 fs us → Expression w s l e us (symbol close_round ∷ ts) → Keeps t0 (operand_then_close_round fs w (is_pattern s) e) ts
close-round-keeps (list_frame round_list close_round j no_exs ∷ fs) w s l e us ts x d = brackets-end x d
close-round-keeps (list_frame round_list close_round j (more_exs a es) ∷ fs) w s l e us ts x d = round-list-ends x d
close-round-keeps (list_frame (node_list o) close_round j es ∷ fs) w s l e us ts x d = end-list-keeps o j es fs s e x d
close-round-keeps (attribute_value_frame o k ms es ∷ fs) false s l e us ts (attribute_before i p c) d = attributes-keep o fs (p (valued k ∷ []) (more_exs e no_exs) (symbol close_round ∷ ts) (last_attribute (valued_attribute i d))) c
close-round-keeps (pair_right_frame es a ∷ fs) w s l e us ts (pair_left_before {us = vs} p g c) d =
    record { us = word function_word ∷ symbol open_round ∷ vs; context = c; derivation = function_atom (p (more_exs (pair_ex a e) no_exs) (symbol close_round ∷ ts) (last_pair g d)) }
close-round-keeps (ranges_frame rs es ∷ fs) false s l e us ts (ranges_before p c) d = range-end rs es p (value_range d) c
close-round-keeps (high_bound_frame rs es a ∷ fs) false s l e us ts (low_bound_before p g c) d = range-end rs es p (both_range g d) c
close-round-keeps (lone_high_bound_frame rs es ∷ fs) false s l e us ts (dots_before p c) d = range-end rs es p (high_range d) c
close-round-keeps _ w s l e us ts x d = tt

-- A closing square bracket keeps it.
pub close-square-keeps : {t0 : List Token} (fs : List Frame) (w : Bool) (s : Shape) (l : ℕ) (e : Ex) (us ts : List Token) → OperandContext t0 fs us → Expression w s l e us (symbol close_square ∷ ts) → Fits fs s → Keeps t0 (operand_then_close_square fs w (is_pattern s) e) ts
close-square-keeps (list_frame index_list close_square j (more_exs a es) ∷ fs) w s l e us ts x d f = index-list-ends x d
close-square-keeps (list_frame (node_list o) close_square j es ∷ fs) w s l e us ts x d f = square-list-ends x d
close-square-keeps (items_frame (comprehension_head y) bs acc pend ∷ fs) false s l e us ts (in_items {p = p} {us = vs} {vs = xs} z b g c hc) d f = comprehension-ends z hc (condition-last acc pend fs z c d f)
close-square-keeps (generator_source_frame (comprehension_head y) bs acc ps ∷ fs) false s l e us ts (generator_sign_before z b g hc) d f = comprehension-ends z hc (source-last bs acc ps b g d)
close-square-keeps _ w s l e us ts x d f = tt

-- A closing curly bracket keeps it.
pub close-curly-keeps : {t0 : List Token} (fs : List Frame) (w : Bool) (s : Shape) (l : ℕ) (e : Ex) (us ts : List Token) → OperandContext t0 fs us → Expression w s l e us (symbol close_curly ∷ ts) → Keeps t0 (operand_then_close_curly fs w (is_pattern s) e) ts
close-curly-keeps (list_frame (node_list o) close_curly j es ∷ fs) w s l e us ts x d = curly-list-ends x d
close-curly-keeps (field_value_frame (a ∷ as') es ∷ fs) w s l e us ts (field_before {us = vs} p c) d =
    record { us = word record_word ∷ symbol open_curly ∷ vs; context = c; derivation = record_atom (p (a ∷ []) (more_exs e no_exs) (symbol close_curly ∷ ts) (last_field d)) }
close-curly-keeps (field_value_frame [] es ∷ fs) w s l e us ts x d = elim x [ ]
close-curly-keeps _ w s l e us ts x d = tt
