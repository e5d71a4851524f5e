-- Generators and conditions, as the rules derive them.
use Rattle.std.proofs.Common.{◌&&◌, ◌++◌, Bool, List, [], ap, false, not, refl, subst, sym, true, ◌||◌, ℕ, ◌∙◌, ◌∷◌, ◌≡◌}
use Rattle.ess_semantics.specs.declared.words.Fun.{Fun}
use Rattle.ess_semantics.specs.Trees.{Dom, Ex, Exs, Gens, comp_ex, cond, matrix_literal, more_exs, no_exs, no_gens}
use Rattle.ess_semantics.specs.Values.{Text}
use Rattle.ess_grammar.specs.Grammar.{Domain, Expression, Expressions, Generator, Items, comprehension_atom, last_condition, last_generator, next_condition, next_expression, next_generator, opens_matrix, over_generator, sum_quantifier}
use Rattle.ess_grammar.specs.Patterns.{Place, Shape, all_bound_by, all_from, all_over, begins_as_generator, is_bound_name, may_be_condition, member_shape, other_shape, pattern_shape, starts_round, is_pattern}
use Rattle.ess_grammar.specs.Words.{Token, bar, close_square, colon, comma, dot, function, open_square, symbol}
use Rattle.ess_parse_laws.proofs.Contexts.{DomainContext, HeadContext, OperandContext, WholeItems, colon_before, comprehension_before, generator_sign_before, in_items, in_sum_items, items_before, list_begun_before, opens_literal, quantifier_before}
use Rattle.ess_parse_laws.proofs.ExpressionEnds.{Fits}
use Rattle.ess_parse_laws.specs.Frames.{Frame, Head, body_frame, comprehension_head, generator_domain_frame, generator_source_frame, items_frame, list_frame, node_list, quantifier_head}
use Rattle.ess_parse_laws.proofs.Invariant.{ReadAtom}
use Rattle.ess_parse_laws.proofs.ItemRuns.{StandsIn, in_comprehension_head, in_quantifier_head, reverse-from, reverse-over}
use Rattle.ess_parse_laws.proofs.Booleans.{and-false, not-false, or-true}
use Rattle.ess_parse_laws.proofs.ListRuns.{are_some}
use Rattle.ess_parse_laws.specs.Items.{item_ended, may_end_item}
use Rattle.ess_parse_laws.proofs.ListsSound.{not-one}
use Rattle.ess_parse_laws.specs.Reversed.{push_all_from, push_all_over, push_conditions, reverse_gens}

-- The items before these, whatever comes.
abbrev BeforeItems : Place → Bool → List Text → Gens → List Token → List Token → Type 0
BeforeItems p aa bs acc us vs = (h : Bool) (gs : Gens) (xs : List Token) → Items p bs h gs vs xs → WholeItems p aa (reverse_gens acc gs) us xs

-- The same before a generator.
abbrev BeforeGenerator : Place → Bool → List Text → Gens → List Token → List Token → Type 0
BeforeGenerator p aa bs acc us vs = (gs : Gens) (xs : List Token) → Items p bs true gs vs xs → WholeItems p aa (reverse_gens acc gs) us xs

items-begin : {t0 : List Token} {p : Place} {aa : Bool} {hd : Head} {bs : List Text} {acc : Gens} {fs : List Frame} {us ts : List Token} → StandsIn p hd → BeforeItems p aa bs acc us ts → HeadContext t0 fs hd aa us → OperandContext t0 (items_frame hd bs acc no_exs ∷ fs) ts
items-begin z b c = in_items z b (λ k es xs d. d) (λ h gs xs i q. b h gs xs i) c

-- Items begin behind their head.
pub first-items-begin : {t0 : List Token} {p : Place} {hd : Head} {fs : List Frame} {ts : List Token} → StandsIn p hd → HeadContext t0 fs hd false ts → OperandContext t0 (items_frame hd [] no_gens no_exs ∷ fs) ts
first-items-begin z c = items-begin z (λ h gs xs i. record { h = h; ok = or-true h; derivation = i }) c

-- The head of `sum` before a bracket.
pub sum-head : {t0 : List Token} {fs : List Frame} {us : List Token} → starts_round us ≡ true → OperandContext t0 fs (function Fun.Sum ∷ us) → HeadContext t0 fs (quantifier_head Fun.Sum) true us
sum-head r c = quantifier_before (λ h k. sum_quantifier (ap (λ b. h || not b) r ∙ k)) c

-- A bar behind the body of a comprehension keeps the invariant.
pub comprehension-begins : {t0 : List Token} {j w : Bool} {s : Shape} {l : ℕ} {e : Ex} {fs : List Frame} {us ts : List Token} →
    OperandContext t0 (list_frame (node_list matrix_literal) close_square j no_exs ∷ fs) us → Expression w s l e us (symbol bar ∷ ts) → OperandContext t0 (items_frame (comprehension_head e) [] no_gens no_exs ∷ fs) ts
comprehension-begins (list_begun_before (opens_literal opens_matrix) c) d = first-items-begin in_comprehension_head (comprehension_before d c)

condition-fits : {p : Place} {hd : Head} → StandsIn p hd → (bs : List Text) (acc : Gens) (pend : Exs) (fs : List Frame) (s : Shape) → Fits (items_frame hd bs acc pend ∷ fs) s →
    (may_be_condition p bs s ≡ true) × ((begins_as_generator p s && are_some pend) ≡ false)
condition-fits in_quantifier_head bs acc no_exs fs (member_shape x) h = (not-false (is_bound_name bs x) h, refl)
condition-fits in_quantifier_head bs acc (more_exs a es) fs (member_shape x) h = cc (not-one bs es a x no_exs)
condition-fits in_quantifier_head bs acc pend fs pattern_shape h = (refl, refl)
condition-fits in_quantifier_head bs acc pend fs other_shape h = (refl, refl)
condition-fits in_comprehension_head bs acc pend fs (member_shape x) h = (refl, refl)
condition-fits in_comprehension_head bs acc pend fs pattern_shape h = (refl, refl)
condition-fits in_comprehension_head bs acc pend fs other_shape h = (refl, refl)

-- All items, where the last is a condition.
pub condition-last : (acc : Gens) (pend : Exs) (fs : List Frame) {p : Place} {aa : Bool} {hd : Head} {bs : List Text} {us ts xs : List Token} {s : Shape} {l : ℕ} {e : Ex} → StandsIn p hd →
    ((h : Bool) (gs : Gens) (xs : List Token) → Items p bs h gs ts xs → (h && are_some pend) ≡ false → WholeItems p aa (reverse_gens (push_conditions pend acc) gs) us xs) →
    Expression false s l e ts xs → Fits (items_frame hd bs acc pend ∷ fs) s → WholeItems p aa (reverse_gens (push_conditions (more_exs e pend) acc) no_gens) us xs
condition-last acc pend fs {p = p} {bs = bs} {xs = xs} {s = s} {e = e} z c d f =
    let k = condition-fits z bs acc pend fs s f in c (begins_as_generator p s) (cond e no_gens) xs (last_condition k.0 d) k.1

-- A comma behind a condition or a waiting pattern keeps it.
pub item-ended-keeps : {t0 : List Token} {hd : Head} {bs : List Text} {acc : Gens} {pend : Exs} {fs : List Frame} {us ts : List Token} {l : ℕ} {e : Ex} (s : Shape) →
    OperandContext t0 (items_frame hd bs acc pend ∷ fs) us → Expression false s l e us (symbol comma ∷ ts) → Fits (items_frame hd bs acc pend ∷ fs) s → may_end_item hd (is_pattern s) ≡ true → OperandContext t0 (item_ended hd bs acc pend (is_pattern s) e ∷ fs) ts
item-ended-keeps {bs = bs} {acc = acc} {pend = pend} {fs = fs} {e = e} pattern_shape (in_items {p = p} z b g c hc) d f q' =
    let k = condition-fits z bs acc pend fs pattern_shape f in
    in_items z b (λ i es xs ds. g i (more_exs e es) xs (next_expression d ds))
    (λ h gs xs is q. c (begins_as_generator p pattern_shape) (cond e gs) xs (next_condition k.0 q d is) k.1) hc
item-ended-keeps {bs = bs} {acc = acc} {pend = pend} {fs = fs} {e = e} (member_shape x) (in_items {p = p} z b g c hc) d f q' =
    let k = condition-fits z bs acc pend fs (member_shape x) f in
    items-begin z (λ h gs xs is. c (begins_as_generator p (member_shape x)) (cond e gs) xs (next_condition k.0 (and-false h) d is) k.1) hc
item-ended-keeps {bs = bs} {acc = acc} {pend = pend} {fs = fs} {e = e} other_shape (in_items {p = p} z b g c hc) d f q' =
    let k = condition-fits z bs acc pend fs other_shape f in
    items-begin z (λ h gs xs is. c (begins_as_generator p other_shape) (cond e gs) xs (next_condition k.0 (and-false h) d is) k.1) hc
item-ended-keeps {e = e} pattern_shape (in_sum_items r g c) d f q' = in_sum_items r (λ i es xs ds. g i (more_exs e es) xs (next_expression d ds)) c
item-ended-keeps (member_shape x) (in_sum_items r g c) d f q' = cc
item-ended-keeps other_shape (in_sum_items r g c) d f q' = cc

-- All items, where the last is a generator over a value.
pub source-last : (bs : List Text) (acc : Gens) (ps : Exs) {p : Place} {aa : Bool} {us vs ts xs : List Token} {s : Shape} {l : ℕ} {e : Ex} → BeforeGenerator p aa bs acc us vs →
    ((s : Shape) (l : ℕ) (e : Ex) (hs : Gens) (xs : List Token) → Expression false s l e ts xs → Generator p bs (all_bound_by ps) hs (all_from ps e hs) vs xs) →
    Expression false s l e ts xs → WholeItems p aa (reverse_gens (push_all_from ps e acc) no_gens) us xs
source-last bs acc ps {p = p} {aa = aa} {us = us} {xs = xs} {s = s} {l = l} {e = e} b g d =
    subst (λ gs. WholeItems p aa gs us xs) (sym (reverse-from ps e acc no_gens)) (b (all_from ps e no_gens) xs (last_generator (g s l e no_gens xs d)))

-- A comma behind a generator over a value keeps it.
pub source-next : {t0 : List Token} {hd : Head} {bs : List Text} {acc : Gens} {ps : Exs} {fs : List Frame} {us ts : List Token} {s : Shape} {l : ℕ} {e : Ex} →
    OperandContext t0 (generator_source_frame hd bs acc ps ∷ fs) us → Expression false s l e us (symbol comma ∷ ts) → OperandContext t0 (items_frame hd (bs ++ all_bound_by ps) (push_all_from ps e acc) no_exs ∷ fs) ts
source-next {acc = acc} {ps = ps} {ts = ts} {s = s} {l = l} {e = e} (generator_sign_before {p = p} {aa = aa} {us = vs} z b g hc) d =
    items-begin z (λ h gs xs is. subst (λ hs. WholeItems p aa hs vs xs) (sym (reverse-from ps e acc gs)) (b (all_from ps e gs) xs (next_generator (g s l e gs (symbol comma ∷ ts) d) is))) hc

-- All items, where the last is a generator over a domain.
pub domain-last : (bs : List Text) (acc : Gens) {p : Place} {aa : Bool} {ps : Exs} {us vs ts xs : List Token} {d : Dom} → BeforeGenerator p aa bs acc us vs → Expressions true ps vs (symbol colon ∷ ts) → Domain d ts xs →
    WholeItems p aa (reverse_gens (push_all_over ps d acc) no_gens) us xs
domain-last bs acc {p = p} {aa = aa} {ps = ps} {us = us} {xs = xs} {d = d} b es k =
    subst (λ gs. WholeItems p aa gs us xs) (sym (reverse-over ps d acc no_gens)) (b (all_over ps d no_gens) xs (last_generator (over_generator es k)))

-- A comma behind a generator over a domain keeps it.
pub domain-next : {t0 : List Token} {hd : Head} {bs : List Text} {acc : Gens} {ps : Exs} {fs : List Frame} {us ts : List Token} {d : Dom} →
    DomainContext t0 (generator_domain_frame hd bs acc ps ∷ fs) us → Domain d us (symbol comma ∷ ts) → OperandContext t0 (items_frame hd (bs ++ all_bound_by ps) (push_all_over ps d acc) no_exs ∷ fs) ts
domain-next {acc = acc} {ps = ps} {d = d} (colon_before {p = p} {aa = aa} {us = vs} z b es hc) k =
    items-begin z (λ h gs xs is. subst (λ hs. WholeItems p aa hs vs xs) (sym (reverse-over ps d acc gs)) (b (all_over ps d gs) xs (next_generator (over_generator es k) is))) hc

-- A dot behind the items of a quantifier keeps it.
pub quantifier-items-end : {t0 : List Token} {p : Place} {aa : Bool} {f : Fun} {gs : Gens} {fs : List Frame} {us ts : List Token} → StandsIn p (quantifier_head f) → HeadContext t0 fs (quantifier_head f) aa us → WholeItems p aa gs us (symbol dot ∷ ts) → OperandContext t0 (body_frame f gs ∷ fs) ts
quantifier-items-end in_quantifier_head (quantifier_before q c) i = items_before (q i.h i.ok) i.derivation c

-- A square bracket behind the items of a comprehension keeps it.
pub comprehension-ends : {t0 : List Token} {p : Place} {aa : Bool} {x : Ex} {gs : Gens} {fs : List Frame} {us ts : List Token} → StandsIn p (comprehension_head x) → HeadContext t0 fs (comprehension_head x) aa us → WholeItems p aa gs us (symbol close_square ∷ ts) → ReadAtom t0 fs false (comp_ex x gs) ts
comprehension-ends in_comprehension_head (comprehension_before {us = us} d c) i = record { us = symbol open_square ∷ us; context = c; derivation = comprehension_atom d i.derivation }
