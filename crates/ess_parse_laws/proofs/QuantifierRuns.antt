-- Runs over the words of quantifiers, and the first pattern behind `sum`.
use Rattle.std.proofs.Common.{◌&&◌, Bool, List, None, Option, Some, [], ap, false, not, refl, true, ◌||◌, ℕ, ◌∙◌, ◌∷◌, ◌≡◌}
use Rattle.ess_semantics.specs.declared.words.Fun.{Fun}
use Rattle.ess_semantics.specs.declared.words.Op2.{Op2}
use Rattle.ess_semantics.specs.Trees.{Ex, Exs, Gens, Op, more_exs, name_ex, no_exs, no_gens, plain_node, tuple_literal}
use Rattle.ess_semantics.specs.Values.{Text}
use Rattle.ess_grammar.specs.Grammar.{quantified}
use Rattle.ess_grammar.specs.Patterns.{Shape, are_several, atom_shape, begins_as_generator, binary_shape, in_quantifier, is_member, is_one_bound, is_pattern, may_be_condition, member_shape, other_shape, pattern_shape, starts_round}
use Rattle.ess_grammar.specs.Words.{Token, close_round, open_round, operator, symbol}
use Rattle.ess_parse_laws.specs.Frames.{Frame, Head, binary_frame, body_frame, comprehension_head, generator_domain_frame, generator_source_frame, items_frame, list_frame, node_list, quantifier_head, sum_head}
use Rattle.ess_parse_laws.proofs.ListRuns.{are_some, several-behind}
use Rattle.ess_parse_laws.specs.Items.{begin_quantifier, may_quantify, settled_head}
use Rattle.ess_parse_laws.specs.Modes.{Answer, domain_wanted, function_word_read, operand_read, operand_wanted}
use Rattle.ess_parse_laws.specs.Operands.{is_open_round, then_operand_wanted}
use Rattle.ess_parse_laws.proofs.Booleans.{or-true}
use Rattle.ess_parse_laws.proofs.ExpressionEnds.{Fits, Stops, body-stops, fits-else, reading, reduce-body}
use Rattle.ess_parse_laws.specs.Reversed.{reverse_exs}
use Rattle.ess_parse_laws.specs.Machine.{run, then_run}

-- A quantifier's word, where a quantifier may stand.
pub quantifier-opens : (f : Fun) (ts : List Token) (fs : List Frame) → may_quantify fs ≡ true → then_run (begin_quantifier f fs) (run ts) ≡ run ts operand_wanted (items_frame (quantifier_head f) [] no_gens no_exs ∷ fs)
quantifier-opens f ts fs h = ap (λ b. then_run (elim b [ true ↦ Some (record { mode = operand_wanted; frames = items_frame (quantifier_head f) [] no_gens no_exs ∷ fs }) | false ↦ None ]) (run ts)) h

no-bracket-starts : (t : Token) (ts : List Token) → starts_round (t ∷ ts) ≡ false → is_open_round t ≡ false
no-bracket-starts (symbol open_round) ts h = h
no-bracket-starts (symbol close_round) ts h = refl
no-bracket-starts _ ts h = refl

-- `sum` before a token that is no bracket.
pub sum-opens : (ts : List Token) (fs : List Frame) → starts_round ts ≡ false → may_quantify fs ≡ true → run ts (function_word_read Fun.Sum) fs ≡ run ts operand_wanted (items_frame (quantifier_head Fun.Sum) [] no_gens no_exs ∷ fs)
sum-opens [] fs q h = refl
sum-opens (t ∷ ts) fs q h =
    ap (λ b. then_run (elim b [ true ↦ Some (record { mode = operand_wanted; frames = list_frame (node_list (Op.word Fun.Sum)) close_round true no_exs ∷ fs }) | false ↦ then_operand_wanted t (begin_quantifier Fun.Sum fs) ]) (run ts)) (no-bracket-starts t ts q)
    ∙ ap (λ b. then_run (then_operand_wanted t (elim b [ true ↦ Some (record { mode = operand_wanted; frames = items_frame (quantifier_head Fun.Sum) [] no_gens no_exs ∷ fs }) | false ↦ None ])) (run ts)) h

-- Behind the items of a quantifier its body is read.
pub body-read : (f : Fun) (gs : Gens) (us vs : List Token) (fs : List Frame) (w : Bool) (s : Shape) (l : ℕ) (e : Ex) → Stops true 10 vs →
    may_quantify fs ≡ true →
    (Stops w l vs → Fits (body_frame f gs ∷ fs) s → (not w || may_quantify fs) ≡ true →
    run us operand_wanted (body_frame f gs ∷ fs) ≡ reading vs (body_frame f gs ∷ fs) w s l e) →
    run us operand_wanted (body_frame f gs ∷ fs) ≡ reading vs fs true other_shape 10 (quantified f gs e)
body-read f gs us vs fs w s l e k m h =
    h (body-stops vs w l k) (fits-else (body_frame f gs ∷ fs) (λ x. refl) s) (ap (λ b. not w || b) m ∙ or-true (not w))
    ∙ reduce-body f gs vs fs w s l e k

-- The bracket behind `sum` is closed and holds two patterns or more.
pub first-pattern-closes : (vs : List Token) (fs : List Frame) (i : Bool) (acc : Exs) (w : Bool) (s : Shape) (l : ℕ) (e : Ex) →
    (i && is_pattern s) ≡ true → are_some acc ≡ true → may_quantify fs ≡ true →
    reading (symbol close_round ∷ vs) (list_frame (node_list (Op.word Fun.Sum)) close_round i acc ∷ fs) w s l e
    ≡ run vs (operand_read true (plain_node tuple_literal (reverse_exs acc (more_exs e no_exs)))) (items_frame sum_head [] no_gens no_exs ∷ fs)
first-pattern-closes vs fs i acc w s l e h c m =
    let es = reverse_exs acc (more_exs e no_exs) in
    ap (λ b. then_run (elim (not (true && b)) [
      | true ↦ Some (record { mode = operand_read false (plain_node (Op.word Fun.Sum) es); frames = fs })
      | false ↦ elim (may_quantify fs) [ true ↦ Some (record { mode = operand_read true (plain_node tuple_literal es); frames = items_frame sum_head [] no_gens no_exs ∷ fs }) | false ↦ None ]
    ]) (run vs))
    (ap (λ b. b && are_several es) h ∙ several-behind acc e c)
    ∙ ap (λ b. then_run (elim b [ true ↦ Some (record { mode = operand_read true (plain_node tuple_literal es); frames = items_frame sum_head [] no_gens no_exs ∷ fs }) | false ↦ None ]) (run vs)) m

-- A condition that is the first item of a quantifier doesn't begin as a generator.
pub no-condition : (s : Shape) → may_be_condition in_quantifier [] s ≡ true → begins_as_generator in_quantifier s ≡ true → ⊥
no-condition pattern_shape h k = cc
no-condition other_shape h k = cc
no-condition (member_shape (name_ex a)) h k = cc
no-condition (member_shape _) h k = cc

-- Before a bracket, items behind `sum` begin as a generator does.
pub follows-sum : (h b : Bool) → (h || not b) ≡ true → b ≡ true → h ≡ true
follows-sum true b p q = refl
follows-sum false true p q = cc
follows-sum false false p q = cc

-- An atom has the shape of a pattern where it is written as one.
pub atom-is-pattern : (b : Bool) → is_pattern (atom_shape b) ≡ true → b ≡ true
atom-is-pattern true h = refl
atom-is-pattern false h = cc

-- An operator's expression is no pattern.
pub operator-no-pattern : (o : Op2) (s : Shape) (a : Ex) → is_pattern (binary_shape o s a) ≡ true → ⊥
operator-no-pattern o (member_shape x) a h = cc
operator-no-pattern o other_shape a h = cc
operator-no-pattern o pattern_shape a h = go (is_member o) h
  where
    go : (m : Bool) → is_pattern (elim m [ true ↦ member_shape a | false ↦ other_shape ]) ≡ true → ⊥
    go true q = cc
    go false q = cc

-- `in` is a generator's sign.
pub in-source : (f : Fun) (bs : List Text) (acc : Gens) (pend : Exs) (fs : List Frame) (e : Ex) (us : List Token) → is_one_bound bs (reverse_exs pend (more_exs e no_exs)) ≡ false →
    run (operator Op2.Member ∷ us) (operand_read true e) (items_frame (quantifier_head f) bs acc pend ∷ fs) ≡ run us operand_wanted (generator_source_frame (quantifier_head f) bs acc (reverse_exs pend (more_exs e no_exs)) ∷ fs)
in-source f bs acc pend fs e us h =
    ap (λ b. then_run (elim (not b) [ true ↦ Some (record { mode = operand_wanted; frames = generator_source_frame (quantifier_head f) bs acc (reverse_exs pend (more_exs e no_exs)) ∷ fs }) | false ↦ Some (record { mode = operand_wanted; frames = binary_frame Op2.Member e ∷ items_frame (quantifier_head f) bs acc pend ∷ fs }) ]) (run us)) h

-- `in` behind the first pattern of `sum` is a generator's sign.
pub in-first-source : (bs : List Text) (acc : Gens) (pend : Exs) (fs : List Frame) (e : Ex) (us : List Token) → is_one_bound bs (reverse_exs pend (more_exs e no_exs)) ≡ false →
    run (operator Op2.Member ∷ us) (operand_read true e) (items_frame sum_head bs acc pend ∷ fs) ≡ run us operand_wanted (generator_source_frame (quantifier_head Fun.Sum) bs acc (reverse_exs pend (more_exs e no_exs)) ∷ fs)
in-first-source bs acc pend fs e us h =
    ap (λ b. then_run (elim (not b) [ true ↦ Some (record { mode = operand_wanted; frames = generator_source_frame (quantifier_head Fun.Sum) bs acc (reverse_exs pend (more_exs e no_exs)) ∷ fs }) | false ↦ Some (record { mode = operand_wanted; frames = binary_frame Op2.Member e ∷ items_frame sum_head bs acc pend ∷ fs }) ]) (run us)) h

-- The run in which a pattern is read: under the frame of items, or in a bracket directly behind `sum`.
pub data Entry : List Token → Head → List Text → Gens → Exs → List Frame → Option Answer → Type 0 where
  among_items : {ts : List Token} {hd : Head} {bs : List Text} {acc : Gens} {pend : Exs} {fs : List Frame} →
      Entry ts hd bs acc pend fs (run ts operand_wanted (items_frame hd bs acc pend ∷ fs))
  behind_sum : {ts : List Token} {fs : List Frame} → starts_round ts ≡ true → may_quantify fs ≡ true →
      Entry ts sum_head [] no_gens no_exs fs (run ts (function_word_read Fun.Sum) fs)

-- Behind `:` the head of the items is settled.
pub settled-domain : (h hd : Head) → settled_head h ≡ hd → (bs : List Text) (acc : Gens) (fs : List Frame) (us : List Token) {xs ps : Exs} →
    xs ≡ ps →
    run us domain_wanted (generator_domain_frame (settled_head h) bs acc xs ∷ fs)
    ≡ run us domain_wanted (generator_domain_frame hd bs acc ps ∷ fs)
settled-domain h hd t bs acc fs us {xs = xs} p =
    ap (λ k. run us domain_wanted (generator_domain_frame k bs acc xs ∷ fs)) t
    ∙ ap (λ ps. run us domain_wanted (generator_domain_frame hd bs acc ps ∷ fs)) p

-- So it is behind `<-`.
pub settled-source : (h hd : Head) → settled_head h ≡ hd → (bs : List Text) (acc : Gens) (fs : List Frame) (us : List Token) {xs ps : Exs} →
    xs ≡ ps →
    run us operand_wanted (generator_source_frame (settled_head h) bs acc xs ∷ fs)
    ≡ run us operand_wanted (generator_source_frame hd bs acc ps ∷ fs)
settled-source h hd t bs acc fs us {xs = xs} p =
    ap (λ k. run us operand_wanted (generator_source_frame k bs acc xs ∷ fs)) t
    ∙ ap (λ ps. run us operand_wanted (generator_source_frame hd bs acc ps ∷ fs)) p

-- `in` is a generator's sign behind patterns of a quantifier, the first ones of `sum` or others.
pub in-settled : (f : Fun) (h : Head) → settled_head h ≡ quantifier_head f → (bs : List Text) (acc : Gens) (pend : Exs) (fs : List Frame)
    (e : Ex) (us : List Token) (ps : Exs) → reverse_exs pend (more_exs e no_exs) ≡ ps → is_one_bound bs ps ≡ false →
    run (operator Op2.Member ∷ us) (operand_read true e) (items_frame h bs acc pend ∷ fs)
    ≡ run us operand_wanted (generator_source_frame (quantifier_head f) bs acc ps ∷ fs)
in-settled f (quantifier_head g) t bs acc pend fs e us ps p i =
    in-source g bs acc pend fs e us (ap (is_one_bound bs) p ∙ i) ∙ settled-source (quantifier_head g) (quantifier_head f) t bs acc fs us p
in-settled f sum_head t bs acc pend fs e us ps p i =
    in-first-source bs acc pend fs e us (ap (is_one_bound bs) p ∙ i) ∙ settled-source sum_head (quantifier_head f) t bs acc fs us p
in-settled f (comprehension_head x) t bs acc pend fs e us ps p i = cc
