-- Runs over the ends of generators and conditions.
use Rattle.std.proofs.Common.{◌&&◌, ◌++◌, Bool, List, None, Option, ap, false, not, refl, true, ℕ, ◌∷◌, ◌≡◌}
use Rattle.ess_semantics.specs.declared.words.Fun.{Fun}
use Rattle.ess_semantics.specs.Trees.{Dom, Ex, Exs, Gens, comp_ex, cond, from, more_exs, no_exs, no_gens, over}
use Rattle.ess_semantics.specs.Values.{Text}
use Rattle.ess_grammar.specs.Patterns.{Place, Shape, all_bound_by, all_from, all_over, as_pattern, begins_as_generator, in_comprehension, in_quantifier, may_be_condition, member_shape, other_shape, pattern_shape, is_pattern}
use Rattle.ess_grammar.specs.Words.{Token, close_square, comma, dot, symbol}
use Rattle.ess_parse_laws.specs.Modes.{Answer, domain_read, operand_read, operand_wanted}
use Rattle.ess_parse_laws.proofs.ExpressionEnds.{Fits, Stops, reading}
use Rattle.ess_parse_laws.specs.Frames.{Frame, Head, body_frame, comprehension_head, generator_domain_frame, generator_source_frame, items_frame, quantifier_head, sum_head}
use Rattle.ess_parse_laws.proofs.Booleans.{and-false}
use Rattle.ess_parse_laws.proofs.ListRuns.{are_some}
use Rattle.ess_parse_laws.proofs.EndLevels.{end_level-positive}
use Rattle.ess_parse_laws.specs.Items.{may_end_item, settled_head}
use Rattle.ess_parse_laws.specs.Reversed.{push_all_from, push_all_over, push_conditions, reverse_gens}
use Rattle.ess_parse_laws.specs.Machine.{run}

-- The head of items in a quantifier, or in a comprehension.
pub data StandsIn : Place → Head → Type 0 where
  in_quantifier_head : {f : Fun} → StandsIn in_quantifier (quantifier_head f)
  in_comprehension_head : {e : Ex} → StandsIn in_comprehension (comprehension_head e)

-- Such a head stays as it is.
pub settled-stands : {p : Place} {h : Head} → StandsIn p h → settled_head h ≡ h
settled-stands in_quantifier_head = refl
settled-stands in_comprehension_head = refl

-- Under such a head any expression may be an item.
pub ends-item : {p : Place} {h : Head} → StandsIn p h → (s : Shape) → may_end_item h (is_pattern s) ≡ true
ends-item in_quantifier_head pattern_shape = refl
ends-item in_quantifier_head (member_shape x) = refl
ends-item in_quantifier_head other_shape = refl
ends-item in_comprehension_head pattern_shape = refl
ends-item in_comprehension_head (member_shape x) = refl
ends-item in_comprehension_head other_shape = refl

-- The token that ends all items, and the tokens behind it.
pub data EndsItems : Head → List Token → List Token → Type 0 where
  items_end_at_dot : {f : Fun} {vs : List Token} → EndsItems (quantifier_head f) (symbol dot ∷ vs) vs
  items_end_at_square : {e : Ex} {vs : List Token} → EndsItems (comprehension_head e) (symbol close_square ∷ vs) vs

-- The token that ends a generator, and the tokens behind it. The flag says whether items follow.
pub data EndsGenerator : Head → List Token → List Token → Bool → Type 0 where
  generator_ends_at_comma : {h : Head} {vs : List Token} → EndsGenerator h (symbol comma ∷ vs) vs true
  generator_ends_items : {h : Head} {us vs : List Token} → EndsItems h us vs → EndsGenerator h us vs false

-- The run behind all items.
abbrev pub items_done : Head → Gens → List Token → List Frame → Option Answer
items_done (quantifier_head f) gs vs fs = run vs operand_wanted (body_frame f gs ∷ fs)
items_done (comprehension_head e) gs vs fs = run vs (operand_read false (comp_ex e gs)) fs
items_done sum_head gs vs fs = None

-- The run behind a generator.
abbrev pub generator_done : Bool → Head → List Text → Gens → List Token → List Frame → Option Answer
generator_done true h bs acc vs fs = run vs operand_wanted (items_frame h bs acc no_exs ∷ fs)
generator_done false h bs acc vs fs = items_done h (reverse_gens acc no_gens) vs fs

-- The token that ends all items goes on with no expression.
pub items-stop : {h : Head} {us vs : List Token} → EndsItems h us vs → (w : Bool) (l : ℕ) → Stops w l us
items-stop items_end_at_dot w l = (end_level-positive l, refl, refl)
items-stop items_end_at_square w l = (end_level-positive l, refl, refl)

-- The token that ends a generator goes on with no expression.
pub generator-stops : {h : Head} {us vs : List Token} {b : Bool} → EndsGenerator h us vs b → (w : Bool) (l : ℕ) → Stops w l us
generator-stops generator_ends_at_comma w l = (end_level-positive l, refl, refl)
generator-stops (generator_ends_items z) w l = items-stop z w l

-- A condition, and those that wait, end all items.
pub condition-ends : {h : Head} {us vs : List Token} → EndsItems h us vs → (bs : List Text) (acc : Gens) (pend : Exs) (fs : List Frame) (s : Shape) (l : ℕ) (e : Ex) →
    reading us (items_frame h bs acc pend ∷ fs) false s l e ≡ items_done h (reverse_gens (push_conditions (more_exs e pend) acc) no_gens) vs fs
condition-ends items_end_at_dot bs acc pend fs s l e = refl
condition-ends items_end_at_square bs acc pend fs s l e = refl

-- A generator over a value ends.
pub source-ends : {h : Head} {us vs : List Token} {b : Bool} → EndsGenerator h us vs b → (bs : List Text) (acc : Gens) (ps : Exs) (fs : List Frame) (s : Shape) (l : ℕ) (e : Ex) →
    reading us (generator_source_frame h bs acc ps ∷ fs) false s l e ≡ generator_done b h (bs ++ all_bound_by ps) (push_all_from ps e acc) vs fs
source-ends generator_ends_at_comma bs acc ps fs s l e = refl
source-ends (generator_ends_items items_end_at_dot) bs acc ps fs s l e = refl
source-ends (generator_ends_items items_end_at_square) bs acc ps fs s l e = refl

-- A generator over a domain ends.
pub domain-ends : {h : Head} {us vs : List Token} {b : Bool} → EndsGenerator h us vs b → (bs : List Text) (acc : Gens) (ps : Exs) (fs : List Frame) (d : Dom) →
    run us (domain_read d) (generator_domain_frame h bs acc ps ∷ fs) ≡ generator_done b h (bs ++ all_bound_by ps) (push_all_over ps d acc) vs fs
domain-ends generator_ends_at_comma bs acc ps fs d = refl
domain-ends (generator_ends_items items_end_at_dot) bs acc ps fs d = refl
domain-ends (generator_ends_items items_end_at_square) bs acc ps fs d = refl

-- Generators that were pushed stand in order.
pub reverse-over : (ps : Exs) (d : Dom) (acc hs : Gens) → reverse_gens (push_all_over ps d acc) hs ≡ reverse_gens acc (all_over ps d hs)
reverse-over no_exs d acc hs = refl
reverse-over (more_exs p ps) d acc hs = reverse-over ps d (over (as_pattern p) d acc) hs

-- The same of generators over a value.
pub reverse-from : (ps : Exs) (e : Ex) (acc hs : Gens) → reverse_gens (push_all_from ps e acc) hs ≡ reverse_gens acc (all_from ps e hs)
reverse-from no_exs e acc hs = refl
reverse-from (more_exs p ps) e acc hs = reverse-from ps e (from (as_pattern p) e acc) hs

-- What may be a condition fits as an item.
pub fits-items : {p : Place} {h : Head} → StandsIn p h → (bs : List Text) (acc : Gens) (pend : Exs) (fs : List Frame) (s : Shape) →
    may_be_condition p bs s ≡ true → (begins_as_generator p s && are_some pend) ≡ false → Fits (items_frame h bs acc pend ∷ fs) s
fits-items in_quantifier_head bs acc no_exs fs (member_shape x) k q = ap not k
fits-items in_quantifier_head bs acc (more_exs e es) fs (member_shape x) k q = cc
fits-items in_comprehension_head bs acc pend fs (member_shape x) k q = refl
fits-items z bs acc pend fs pattern_shape k q = tt
fits-items z bs acc pend fs other_shape k q = tt

-- Behind a condition that isn't the last, whether it waits as a pattern or not.
pub condition-waits : (h : Bool) (hd : Head) (bs : List Text) (acc : Gens) (pend : Exs) (fs : List Frame) (e : Ex) (hs : Gens) (us vs : List Token) →
    ((acc : Gens) (pend : Exs) → (h && are_some pend) ≡ false → run us operand_wanted (items_frame hd bs acc pend ∷ fs) ≡ items_done hd (reverse_gens (push_conditions pend acc) hs) vs fs) →
    (b : Bool) → (h && b) ≡ false →
    run us operand_wanted ((elim b [ true ↦ items_frame hd bs acc (more_exs e pend) | false ↦ items_frame hd bs (push_conditions (more_exs e pend) acc) no_exs ]) ∷ fs) ≡ items_done hd (reverse_gens (push_conditions pend acc) (cond e hs)) vs fs
condition-waits h hd bs acc pend fs e hs us vs ih true q = ih acc (more_exs e pend) q
condition-waits h hd bs acc pend fs e hs us vs ih false q = ih (push_conditions (more_exs e pend) acc) no_exs (and-false h)
