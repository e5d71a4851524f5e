-- What any other token does behind an expression keeps the invariant.
use Rattle.std.proofs.Common.{◌&&◌, Bool, List, None, Some, [], false, nat_le, not, refl, subst, sym, true, ℕ, ◌∷◌, ◌≡◌, ◌≤◌}
use borrow.Author.Tests.{leb-true}
use Rattle.ess_semantics.specs.declared.words.Op2.{Op2}
use Rattle.ess_semantics.specs.Trees.{Ex, let_ex, let_unnamed, matrix_literal, maximise, minimise, more_exs, needs, no_exs, such_that}
use Rattle.ess_grammar.specs.Grammar.{Expression, bar_atom, from_generator, in_generator, last_expression}
use Rattle.ess_grammar.specs.Patterns.{Shape, binary_shape, is_member, is_one_bound, is_pattern, member_shape, other_shape, pattern_shape}
use Rattle.ess_grammar.specs.Words.{Token, bar, close_curly, close_round, close_square, colon, comma, dot, dots, drawn_from, maps_to, operator, semicolon, symbol, word}
use Rattle.ess_grammar.specs.Levels.{left_least, level}
use Rattle.ess_grammar.specs.Statements.{maximising_statement, minimising_statement, more_statements, plain_letting_part, such_that_part, unnamed_letting_part, value_letting, where_part}
use Rattle.ess_parse_laws.proofs.Contexts.{DomainContext, OperandContext, bar_before, colon_before, generator_sign_before, in_items, in_sum_items, letting_before, low_bound_before, objective_before, operator_before, pair_left_before, pairs_before, pairs_begun_before, ranges_before, size_before, such_that_before, where_before}
use Rattle.ess_parse_laws.proofs.ExpressionEnds.{Fits, level_needed}
use Rattle.ess_parse_laws.specs.Frames.{Frame, bar_frame, binary_frame, comprehension_head, generator_domain_frame, generator_source_frame, items_frame, letting_frame, list_frame, node_list, objective_frame, pair_left_frame, quantifier_head, ranges_frame, such_that_frame, sum_head, unnamed_frame, where_frame}
use Rattle.ess_parse_laws.proofs.Invariant.{Keeps, StatedBy, begin-after-keeps}
use Rattle.ess_parse_laws.specs.Reducing.{Reduced, precedence, reduced}
use Rattle.ess_parse_laws.proofs.ReducingSound.{WellReduced}
use Rattle.ess_parse_laws.proofs.Booleans.{and-left, and-right, by_elim, not-true}
use Rattle.ess_parse_laws.specs.Items.{begin_source, in_is_sign, starts_generator}
use Rattle.ess_parse_laws.proofs.OperandEndsSound.{close-curly-keeps, close-round-keeps, close-square-keeps, comma-keeps}
use Rattle.ess_parse_laws.proofs.ItemsSound.{comprehension-begins, condition-last, quantifier-items-end, source-last, sum-head}
use Rattle.ess_parse_laws.proofs.ItemRuns.{in_quantifier_head, settled-stands}
use Rattle.ess_parse_laws.specs.AfterOperands.{operand_then, operand_then_close_round, operand_then_close_square, operand_then_close_curly, operand_then_bar, operand_then_colon, operand_then_dot, operand_then_dots, operand_then_drawn_from, operand_then_maps_to, operand_then_operator, operand_then_semicolon, operand_then_comma}
use Rattle.ess_parse_laws.specs.Modes.{operand_wanted}
use Rattle.ess_parse_laws.proofs.StatementContexts.{part-ends}
use Rattle.ess_parse_laws.specs.Reversed.{reverse_exs}
use Rattle.ess_parse_laws.proofs.ListsSound.{semicolon-follows}
use Rattle.ess_parse_laws.specs.StatementEnds.{stated}

member-operator : (o : Op2) → is_member o ≡ true → o ≡ Op2.Member
member-operator Op2.Member h = refl
member-operator _ h = cc

pattern-is : (s : Shape) → is_pattern s ≡ true → s ≡ pattern_shape
pattern-is pattern_shape h = refl
pattern-is (member_shape x) h = cc
pattern-is other_shape h = cc

dot-keeps : {t0 : List Token} (fs : List Frame) (w : Bool) (s : Shape) (l : ℕ) (e : Ex) (us ts : List Token) → OperandContext t0 fs us → Expression w s l e us (symbol dot ∷ ts) → Fits fs s → Keeps t0 (operand_then_dot fs w (is_pattern s) e) ts
dot-keeps (items_frame (quantifier_head y) bs acc pend ∷ fs) false s l e us ts (in_items {vs = xs} z b g c hc) d f = quantifier-items-end z hc (condition-last acc pend fs z c d f)
dot-keeps (generator_source_frame (quantifier_head y) bs acc ps ∷ fs) false s l e us ts (generator_sign_before z b g hc) d f = quantifier-items-end z hc (source-last bs acc ps b g d)
dot-keeps _ w s l e us ts x d f = tt

bar-keeps : {t0 : List Token} (fs : List Frame) (w : Bool) (s : Shape) (l : ℕ) (e : Ex) (us ts : List Token) → OperandContext t0 fs us → Expression w s l e us (symbol bar ∷ ts) → Keeps t0 (operand_then_bar fs w (is_pattern s) e) ts
bar-keeps (bar_frame ∷ fs) false s l e us ts (bar_before c) d = record { us = symbol bar ∷ us; context = c; derivation = bar_atom d }
bar-keeps (list_frame (node_list matrix_literal) close_square j no_exs ∷ fs) w s l e us ts x d = comprehension-begins x d
bar-keeps _ w s l e us ts x d = tt

semicolon-keeps : {t0 : List Token} (fs : List Frame) (w : Bool) (s : Shape) (l : ℕ) (e : Ex) (us ts : List Token) → OperandContext t0 fs us → Expression w s l e us (symbol semicolon ∷ ts) → Keeps t0 (operand_then_semicolon fs w (is_pattern s) e) ts
semicolon-keeps (list_frame (node_list matrix_literal) close_square j es ∷ fs) w s l e us ts x d = semicolon-follows x d
semicolon-keeps _ w s l e us ts x d = tt

maps-to-keeps : {t0 : List Token} (fs : List Frame) (w : Bool) (s : Shape) (l : ℕ) (e : Ex) (us ts : List Token) → OperandContext t0 fs us → Expression w s l e us (symbol maps_to ∷ ts) → Keeps t0 (operand_then_maps_to fs w (is_pattern s) e) ts
maps-to-keeps (pair_left_frame no_exs ∷ fs) w s l e us ts (pairs_begun_before c) d = pair_left_before (λ es xs ds. ds) d c
maps-to-keeps (pair_left_frame (more_exs a es) ∷ fs) w s l e us ts (pairs_before p c) d = pair_left_before p d c
maps-to-keeps _ w s l e us ts x d = tt

colon-keeps : {t0 : List Token} (fs : List Frame) (w : Bool) (s : Shape) (l : ℕ) (e : Ex) (us ts : List Token) → OperandContext t0 fs us → Expression w s l e us (symbol colon ∷ ts) → Keeps t0 (operand_then_colon fs w (is_pattern s) e) ts
colon-keeps {t0 = t0} (items_frame h bs acc pend ∷ fs) w pattern_shape l e us ts (in_items z b g c hc) d =
    subst (λ h. DomainContext t0 (generator_domain_frame h bs acc (reverse_exs pend (more_exs e no_exs)) ∷ fs) ts) (sym (settled-stands z)) (colon_before z (b true) (g true (more_exs e no_exs) (symbol colon ∷ ts) (last_expression d)) hc)
colon-keeps (items_frame sum_head bs acc pend ∷ fs) w pattern_shape l e us ts (in_sum_items r g c) d =
    colon_before in_quantifier_head (λ gs xs i. record { h = true; ok = refl; derivation = i }) (g true (more_exs e no_exs) (symbol colon ∷ ts) (last_expression d)) (sum-head r c)
colon-keeps _ w s l e us ts x d = tt

begin-source-keeps : {t0 : List Token} (fs : List Frame) (w : Bool) (l : ℕ) (e : Ex) (us ts : List Token) → OperandContext t0 fs us → Expression w pattern_shape l e us (symbol drawn_from ∷ ts) → Keeps t0 (begin_source fs e) ts
begin-source-keeps (items_frame sum_head bs acc pend ∷ fs) w l e us ts (in_sum_items r g c) d =
    generator_sign_before in_quantifier_head (λ gs xs i. record { h = true; ok = refl; derivation = i }) (λ s m x hs xs k. from_generator (g true (more_exs e no_exs) (symbol drawn_from ∷ ts) (last_expression d)) k) (sum-head r c)
begin-source-keeps {t0 = t0} (items_frame h bs acc pend ∷ fs) w l e us ts (in_items z b g c hc) d =
    subst (λ h. OperandContext t0 (generator_source_frame h bs acc (reverse_exs pend (more_exs e no_exs)) ∷ fs) ts) (sym (settled-stands z)) (generator_sign_before z (b true) (λ s m x hs xs k. from_generator (g true (more_exs e no_exs) (symbol drawn_from ∷ ts) (last_expression d)) k) hc)
begin-source-keeps _ w l e us ts x d = tt

drawn-from-keeps : {t0 : List Token} (fs : List Frame) (w : Bool) (s : Shape) (l : ℕ) (e : Ex) (us ts : List Token) → OperandContext t0 fs us → Expression w s l e us (symbol drawn_from ∷ ts) → Keeps t0 (operand_then_drawn_from fs w (is_pattern s) e) ts
drawn-from-keeps fs w pattern_shape l e us ts x d = begin-source-keeps fs w l e us ts x d
drawn-from-keeps fs w (member_shape y) l e us ts x d = tt
drawn-from-keeps fs w other_shape l e us ts x d = tt

dots-keeps : {t0 : List Token} (fs : List Frame) (w : Bool) (s : Shape) (l : ℕ) (e : Ex) (us ts : List Token) → OperandContext t0 fs us → Expression w s l e us (symbol dots ∷ ts) → Keeps t0 (operand_then_dots fs w (is_pattern s) e) ts
dots-keeps (ranges_frame rs es ∷ fs) false s l e us ts (ranges_before p c) d = low_bound_before p d c
dots-keeps _ w s l e us ts x d = tt

member-keeps : {t0 : List Token} (fs : List Frame) (w : Bool) (l : ℕ) (e : Ex) (us ts : List Token) → OperandContext t0 fs us → Expression w pattern_shape l e us (operator Op2.Member ∷ ts) → in_is_sign fs e ≡ true → Keeps t0 (begin_source fs e) ts
member-keeps (items_frame (quantifier_head f) bs acc pend ∷ fs) w l e us ts (in_items in_quantifier_head b g c hc) d h =
    generator_sign_before in_quantifier_head (b true) (λ s m x hs xs k. in_generator (not-true (is_one_bound bs (reverse_exs pend (more_exs e no_exs))) h) (g true (more_exs e no_exs) (operator Op2.Member ∷ ts) (last_expression d)) k) hc
member-keeps (items_frame sum_head bs acc pend ∷ fs) w l e us ts (in_sum_items r g c) d h =
    generator_sign_before in_quantifier_head (λ gs xs i. record { h = true; ok = refl; derivation = i })
    (λ s m x hs xs k. in_generator (not-true (is_one_bound bs (reverse_exs pend (more_exs e no_exs))) h) (g true (more_exs e no_exs) (operator Op2.Member ∷ ts) (last_expression d)) k) (sum-head r c)
member-keeps (items_frame sum_head bs acc pend ∷ fs) w l e us ts (in_items z b g c hc) d h = elim z [ ]
member-keeps (items_frame (comprehension_head y) bs acc pend ∷ fs) w l e us ts x d h = cc
member-keeps _ w l e us ts x d h = tt

fits-binary : (fs : List Frame) (o : Op2) (s : Shape) (a : Ex) → Fits fs s → starts_generator o (is_pattern s) a fs ≡ false → Fits fs (binary_shape o s a)
fits-binary fs o (member_shape x) a f h = f
fits-binary fs o other_shape a f h = tt
fits-binary fs o pattern_shape a f h = go (is_member o) h
  where
    go : (m : Bool) → (m && (true && in_is_sign fs a)) ≡ false → Fits fs (elim m [ true ↦ member_shape a | false ↦ other_shape ])
    go true q = q
    go false q = tt

operator-keeps : {t0 : List Token} (o : Op2) (fs : List Frame) (w : Bool) (s : Shape) (l : ℕ) (e : Ex) (us ts : List Token) → OperandContext t0 fs us → Expression w s l e us (operator o ∷ ts) → level_needed fs ≤ level o → Fits fs s →
    Keeps t0 (operand_then_operator o (reduced fs w (is_pattern s) l e)) ts
operator-keeps {t0} o fs w s l e us ts x d n f =
    by_elim (nat_le (left_least o) l && not w) (λ r. Keeps t0 r ts) (elim (starts_generator o (is_pattern s) e fs) [ true ↦ begin_source fs e | false ↦ Some (record { mode = operand_wanted; frames = binary_frame o e ∷ fs }) ]) None
    (λ h. by_elim (starts_generator o (is_pattern s) e fs) (λ r. Keeps t0 r ts) (begin_source fs e) (Some (record { mode = operand_wanted; frames = binary_frame o e ∷ fs }))
    (λ k. member-keeps fs w l e us ts x
    (subst (λ z. Expression w z l e us (operator Op2.Member ∷ ts)) (pattern-is s (and-left (is_pattern s) (in_is_sign fs e) (and-right (is_member o) (is_pattern s && in_is_sign fs e) k)))
    (subst (λ p. Expression w s l e us (operator p ∷ ts)) (member-operator o (and-left (is_member o) (is_pattern s && in_is_sign fs e) k)) d))
    (and-right (is_pattern s) (in_is_sign fs e) (and-right (is_member o) (is_pattern s && in_is_sign fs e) k)))
    (λ k. operator_before (leb-true (left_least o) l (and-left (nat_le (left_least o) l) (not w) h)) n (fits-binary fs o s e f k)
    (subst (λ v. Expression v s l e us (operator o ∷ ts)) (not-true w (and-right (nat_le (left_least o) l) (not w) h)) d) x))
    (λ h. tt)

-- An expression that ends a statement derives it.
pub stated-keeps : {t0 : List Token} (fs : List Frame) (w : Bool) (s : Shape) (l : ℕ) (e : Ex) (us ts : List Token) → OperandContext t0 fs us → Expression w s l e us ts → StatedBy t0 (stated fs e) ts
stated-keeps (letting_frame a ss ∷ fs) w s l e us ts (letting_before p) d = part-ends ss (let_ex a e ∷ []) p (plain_letting_part (value_letting d))
stated-keeps (unnamed_frame a ss ∷ fs) w s l e us ts (size_before p) d = part-ends ss (let_unnamed a e ∷ []) p (unnamed_letting_part d)
stated-keeps (where_frame ss ∷ fs) w s l e us ts (where_before p) d = part-ends ss (needs e ∷ []) p (where_part d)
stated-keeps (such_that_frame ss ∷ fs) w s l e us ts (such_that_before p) d = part-ends ss (such_that e ∷ []) p (such_that_part d)
stated-keeps (objective_frame true ss ∷ fs) w s l e us ts (objective_before f) d = λ qs q. f (maximise e ∷ qs) (more_statements (maximising_statement d) q)
stated-keeps (objective_frame false ss ∷ fs) w s l e us ts (objective_before f) d = λ qs q. f (minimise e ∷ qs) (more_statements (minimising_statement d) q)
stated-keeps _ w s l e us ts x d = tt

-- What a token does behind an expression keeps the invariant.
pub operand-then-keeps : {t0 : List Token} (t : Token) (ts : List Token) (r : Reduced) → WellReduced t0 (t ∷ ts) (precedence t) r → Keeps t0 (operand_then t r) ts
operand-then-keeps {t0 = t0} (operator o) ts r g = subst (λ p. Keeps t0 (operand_then_operator o (reduced r.frames r.ends_in_body p r.level r.operand)) ts) (sym g.is) (operator-keeps o r.frames r.ends_in_body g.shape r.level r.operand g.us ts g.context g.ex g.low g.fits)
operand-then-keeps {t0 = t0} (symbol comma) ts r g = subst (λ p. Keeps t0 (operand_then_comma r.frames r.ends_in_body p r.operand) ts) (sym g.is) (comma-keeps r.frames r.ends_in_body g.shape r.level r.operand g.us ts g.context g.ex g.fits)
operand-then-keeps {t0 = t0} (symbol close_round) ts r g = subst (λ p. Keeps t0 (operand_then_close_round r.frames r.ends_in_body p r.operand) ts) (sym g.is) (close-round-keeps r.frames r.ends_in_body g.shape r.level r.operand g.us ts g.context g.ex)
operand-then-keeps {t0 = t0} (symbol close_square) ts r g = subst (λ p. Keeps t0 (operand_then_close_square r.frames r.ends_in_body p r.operand) ts) (sym g.is) (close-square-keeps r.frames r.ends_in_body g.shape r.level r.operand g.us ts g.context g.ex g.fits)
operand-then-keeps {t0 = t0} (symbol close_curly) ts r g = subst (λ p. Keeps t0 (operand_then_close_curly r.frames r.ends_in_body p r.operand) ts) (sym g.is) (close-curly-keeps r.frames r.ends_in_body g.shape r.level r.operand g.us ts g.context g.ex)
operand-then-keeps {t0 = t0} (symbol dot) ts r g = subst (λ p. Keeps t0 (operand_then_dot r.frames r.ends_in_body p r.operand) ts) (sym g.is) (dot-keeps r.frames r.ends_in_body g.shape r.level r.operand g.us ts g.context g.ex g.fits)
operand-then-keeps {t0 = t0} (symbol bar) ts r g = subst (λ p. Keeps t0 (operand_then_bar r.frames r.ends_in_body p r.operand) ts) (sym g.is) (bar-keeps r.frames r.ends_in_body g.shape r.level r.operand g.us ts g.context g.ex)
operand-then-keeps {t0 = t0} (symbol semicolon) ts r g = subst (λ p. Keeps t0 (operand_then_semicolon r.frames r.ends_in_body p r.operand) ts) (sym g.is) (semicolon-keeps r.frames r.ends_in_body g.shape r.level r.operand g.us ts g.context g.ex)
operand-then-keeps {t0 = t0} (symbol maps_to) ts r g = subst (λ p. Keeps t0 (operand_then_maps_to r.frames r.ends_in_body p r.operand) ts) (sym g.is) (maps-to-keeps r.frames r.ends_in_body g.shape r.level r.operand g.us ts g.context g.ex)
operand-then-keeps {t0 = t0} (symbol colon) ts r g = subst (λ p. Keeps t0 (operand_then_colon r.frames r.ends_in_body p r.operand) ts) (sym g.is) (colon-keeps r.frames r.ends_in_body g.shape r.level r.operand g.us ts g.context g.ex)
operand-then-keeps {t0 = t0} (symbol drawn_from) ts r g = subst (λ p. Keeps t0 (operand_then_drawn_from r.frames r.ends_in_body p r.operand) ts) (sym g.is) (drawn-from-keeps r.frames r.ends_in_body g.shape r.level r.operand g.us ts g.context g.ex)
operand-then-keeps {t0 = t0} (symbol dots) ts r g = subst (λ p. Keeps t0 (operand_then_dots r.frames r.ends_in_body p r.operand) ts) (sym g.is) (dots-keeps r.frames r.ends_in_body g.shape r.level r.operand g.us ts g.context g.ex)
operand-then-keeps {t0 = t0} (word w) ts r g = begin-after-keeps t0 ts w (stated r.frames r.operand) (stated-keeps r.frames r.ends_in_body g.shape r.level r.operand g.us (word w ∷ ts) g.context g.ex)
operand-then-keeps _ ts r g = tt
