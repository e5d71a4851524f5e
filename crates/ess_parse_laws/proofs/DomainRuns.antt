-- Runs over the ends of domains and ranges.
use Rattle.std.proofs.Common.{Bool, List, Option, Some, [], ap, false, refl, true, ℕ, ◌∷◌, ◌≡◌}
use Rattle.ess_semantics.specs.Trees.{Dom, Doms, Ends, Ex, Exs, Mark, both_ends, function_dom, high_end, int_dom, low_end, matrix_dom, more_doms, more_exs, no_doms, no_exs, one_value, relation_dom, tuple_dom}
use Rattle.ess_grammar.specs.Patterns.{Shape}
use Rattle.ess_grammar.specs.Words.{Token, close_round, comma, symbol}
use Rattle.ess_parse_laws.specs.Modes.{Answer, domain_read, int_read, operand_wanted}
use Rattle.ess_parse_laws.proofs.ItemRuns.{EndsGenerator, generator_ends_at_comma, generator_ends_items, items_end_at_dot, items_end_at_square}
use Rattle.ess_parse_laws.specs.Frames.{Frame, Head, Inner, element_frame, function_to_frame, high_bound_frame, inner_domain_frame, lone_high_bound_frame, ranges_frame, relation_domains_frame, tuple_domains_frame}
use Rattle.ess_parse_laws.proofs.ExpressionEnds.{Stops, reading}
use Rattle.ess_parse_laws.proofs.EndLevels.{end_level-positive}
use Rattle.ess_parse_laws.specs.Reducing.{inner_domain, reduce_domain}
use Rattle.ess_parse_laws.specs.Operands.{is_open_round}
use Rattle.ess_parse_laws.specs.AfterDomains.{reduced_domain_then}
use Rattle.ess_parse_laws.specs.Reversed.{reverse_doms, reverse_exs, reverse_list}
use Rattle.ess_parse_laws.specs.Machine.{run, then_run}

-- No opening round bracket comes next.
abbrev pub NoBracket : List Token → Type 0
NoBracket [] = Unit {0}
NoBracket (t ∷ ts) = is_open_round t ≡ false

-- `int` without ranges.
pub int-ends : (us : List Token) (fs : List Frame) → NoBracket us → run us int_read fs ≡ run us (domain_read (int_dom [] no_exs)) fs
int-ends [] fs h = refl
int-ends (t ∷ us) fs h = ap (λ b. then_run (elim b [ true ↦ Some (record { mode = operand_wanted; frames = ranges_frame [] no_exs ∷ fs }) | false ↦ reduced_domain_then t (reduce_domain fs (int_dom [] no_exs)) ]) (run us)) h

-- The frame of a domain with one inner domain is closed.
pub inner-reduces : (k : Inner) (ms : List Mark) (es : Exs) (us : List Token) (d : Dom) (fs : List Frame) → run us (domain_read d) (inner_domain_frame k ms es ∷ fs) ≡ run us (domain_read (inner_domain k ms es d)) fs
inner-reduces k ms es [] d fs = refl
inner-reduces k ms es (t ∷ us) d fs = refl

-- The frame of a function's second domain is closed.
pub function-reduces : (ms : List Mark) (es : Exs) (us : List Token) (c d : Dom) (fs : List Frame) → run us (domain_read d) (function_to_frame ms es c ∷ fs) ≡ run us (domain_read (function_dom ms es c d)) fs
function-reduces ms es [] c d fs = refl
function-reduces ms es (t ∷ us) c d fs = refl

-- The frame of a matrix's element domain is closed.
pub matrix-reduces : (us : List Token) (ds : Doms) (d : Dom) (fs : List Frame) → run us (domain_read d) (element_frame ds ∷ fs) ≡ run us (domain_read (matrix_dom ds d)) fs
matrix-reduces [] ds d fs = refl
matrix-reduces (t ∷ us) ds d fs = refl

-- What ends a generator is no opening bracket.
pub generator-no-bracket : {h : Head} {us vs : List Token} {b : Bool} → EndsGenerator h us vs b → NoBracket us
generator-no-bracket generator_ends_at_comma = refl
generator-no-bracket (generator_ends_items items_end_at_dot) = refl
generator-no-bracket (generator_ends_items items_end_at_square) = refl

-- The token that ends a range or an attribute, and the tokens behind it. The flag says whether another follows.
pub data EndsRange : List Token → List Token → Bool → Type 0 where
  range_ends_at_comma : {vs : List Token} → EndsRange (symbol comma ∷ vs) vs true
  range_ends_at_round : {vs : List Token} → EndsRange (symbol close_round ∷ vs) vs false

-- The run behind a range.
abbrev pub range_done : Bool → List Ends → Exs → List Token → List Frame → Option Answer
range_done true rs es vs fs = run vs operand_wanted (ranges_frame rs es ∷ fs)
range_done false rs es vs fs = run vs (domain_read (int_dom (reverse_list rs []) (reverse_exs es no_exs))) fs

-- The token that ends a range goes on with no expression.
pub range-stops : {us vs : List Token} {b : Bool} → EndsRange us vs b → (w : Bool) (l : ℕ) → Stops w l us
range-stops range_ends_at_comma w l = (end_level-positive l, refl, refl)
range-stops range_ends_at_round w l = (end_level-positive l, refl, refl)

-- One value.
pub value-range-ends : {us vs : List Token} {b : Bool} → EndsRange us vs b → (rs : List Ends) (es : Exs) (fs : List Frame) (s : Shape) (l : ℕ) (a : Ex) →
    reading us (ranges_frame rs es ∷ fs) false s l a ≡ range_done b (one_value ∷ rs) (more_exs a es) vs fs
value-range-ends range_ends_at_comma rs es fs s l a = refl
value-range-ends range_ends_at_round rs es fs s l a = refl

-- A range with both bounds.
pub both-range-ends : {us vs : List Token} {b : Bool} → EndsRange us vs b → (rs : List Ends) (es : Exs) (x : Ex) (fs : List Frame) (s : Shape) (l : ℕ) (a : Ex) →
    reading us (high_bound_frame rs es x ∷ fs) false s l a ≡ range_done b (both_ends ∷ rs) (more_exs a (more_exs x es)) vs fs
both-range-ends range_ends_at_comma rs es x fs s l a = refl
both-range-ends range_ends_at_round rs es x fs s l a = refl

-- A range without an upper bound.
pub low-range-ends : {us vs : List Token} {b : Bool} → EndsRange us vs b → (rs : List Ends) (es : Exs) (x : Ex) (fs : List Frame) →
    run us operand_wanted (high_bound_frame rs es x ∷ fs) ≡ range_done b (low_end ∷ rs) (more_exs x es) vs fs
low-range-ends range_ends_at_comma rs es x fs = refl
low-range-ends range_ends_at_round rs es x fs = refl

-- A range without a lower bound.
pub high-range-ends : {us vs : List Token} {b : Bool} → EndsRange us vs b → (rs : List Ends) (es : Exs) (fs : List Frame) (s : Shape) (l : ℕ) (a : Ex) →
    reading us (lone_high_bound_frame rs es ∷ fs) false s l a ≡ range_done b (high_end ∷ rs) (more_exs a es) vs fs
high-range-ends range_ends_at_comma rs es fs s l a = refl
high-range-ends range_ends_at_round rs es fs s l a = refl

-- Whether there is one or more.
abbrev pub are_some_doms : Doms → Bool
are_some_doms no_doms = false
are_some_doms (more_doms d ds) = true

-- A tuple without its word, behind two or more domains.
pub pair-domain-closes : (acc : Doms) (d : Dom) (vs : List Token) (fs : List Frame) → are_some_doms acc ≡ true →
    run (symbol close_round ∷ vs) (domain_read d) (tuple_domains_frame true acc ∷ fs) ≡ run vs (domain_read (tuple_dom (reverse_doms acc (more_doms d no_doms)))) fs
pair-domain-closes no_doms d vs fs h = cc
pair-domain-closes (more_doms c acc) d vs fs h = refl

-- A relation, behind two or more domains.
pub relation-closes : (ms : List Mark) (es : Exs) (acc : Doms) (d : Dom) (vs : List Token) (fs : List Frame) → are_some_doms acc ≡ true →
    run (symbol close_round ∷ vs) (domain_read d) (relation_domains_frame ms es acc ∷ fs) ≡ run vs (domain_read (relation_dom ms es (reverse_doms acc (more_doms d no_doms)))) fs
relation-closes ms es no_doms d vs fs h = cc
relation-closes ms es (more_doms c acc) d vs fs h = refl
