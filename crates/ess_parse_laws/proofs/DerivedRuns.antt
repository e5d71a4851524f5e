-- What the rules derive, the machine reads: one induction over the rules of expressions and domains, which call each other.
use Rattle.std.proofs.Common.{◌&&◌, ◌++◌, Bool, List, None, Option, Some, [], ap, false, le_trans, not, refl, subst, sym, true, ◌||◌, ℕ, ◌∙◌, ◌∷◌, ◌≡◌, ◌≤◌}
use Rattle.ess_semantics.specs.declared.words.Fun.{Fun}
use Rattle.ess_semantics.specs.Trees.{Dom, Doms, Ends, Ex, Exs, Gens, Mark, Op, application, function_literal, int_dom, matrix_literal, more_doms, more_exs, no_doms, no_exs, no_gens, plain_node, record_literal, relation_dom, tuple_dom, tuple_literal}
use Rattle.ess_semantics.specs.Values.{Text}
use Rattle.ess_grammar.specs.Grammar.{Atom, Attribute, Attributes, Domain, Domains, Expression, Expressions, FieldDomains, Fields, Generator, Items, MaybeAttributes, Pairs, Range, Ranges, application_atom, atom_expression, bar_atom, binary_expression, bool_domain, both_range, bracketed_atom, comprehension_atom, empty_atom, empty_function_atom, exists_quantifier, false_atom, flag_attribute, for_all_quantifier, from_generator, function_atom, function_domain, high_range, in_generator, index_atom, indexed, int_domain, last_attribute, last_condition, last_domain, last_expression, last_field, last_field_domain, last_generator, last_pair, last_range, list_atom, low_range, matrix_atom, matrix_domain, minus_expression, mset_domain, name_atom, name_domain, next_attribute, next_condition, next_domain, next_expression, next_field, next_field_domain, next_generator, next_pair, next_range, no_attributes, not_expression, number_atom, over_generator, pair_atom, pair_domain, pair_ex, partition_domain, plain_function_domain, quantifier_expression, ranges_domain, record_atom, record_domain, relation_domain, set_domain, some_attributes, sum_quantifier, true_atom, tuple_domain, value_range, valued_attribute, sorted_record}
use Rattle.ess_grammar.specs.Patterns.{Place, Shape, in_quantifier, is_pattern, may_hold, starts_round}
use Rattle.ess_grammar.specs.Words.{Symbol, Token, close_round, close_square}
use Rattle.ess_grammar.proofs.FirstTokens.{expression-first}
use Rattle.ess_grammar.specs.Levels.{level, rank}
use Rattle.ess_parse_laws.specs.Modes.{Answer, attribute_wanted, domain_read, domain_wanted, field_name_wanted, field_wanted, function_word_read, operand_read, operand_wanted}
use Rattle.ess_parse_laws.proofs.ItemRuns.{EndsGenerator, EndsItems, StandsIn, condition-ends, condition-waits, domain-ends, ends-item, fits-items, generator-stops, generator_done, generator_ends_at_comma, generator_ends_items, in_comprehension_head, in_quantifier_head, items-stop, items_done, items_end_at_dot, items_end_at_square, reverse-from, reverse-over, settled-stands, source-ends}
use Rattle.ess_parse_laws.proofs.DomainRuns.{EndsRange, NoBracket, are_some_doms, both-range-ends, function-reduces, generator-no-bracket, high-range-ends, inner-reduces, int-ends, low-range-ends, matrix-reduces, pair-domain-closes, range-stops, range_done, range_ends_at_comma, range_ends_at_round, relation-closes, value-range-ends}
use Rattle.ess_parse_laws.proofs.ExpressionEnds.{Fits, Stops, fits-else, fits-left, from-operand, level_needed, reading, reduce-binary, reduce-minus, reduce-not, shift, stops-from}
use Rattle.ess_parse_laws.specs.Frames.{Frame, Head, Listing, Owner, attribute_value_frame, attributes_frame, axes_frame, bar_frame, binary_frame, body_frame, comprehension_head, element_frame, field_domain_frame, field_names_frame, field_value_frame, fields_frame, function_from_frame, function_owner, function_to_frame, generator_domain_frame, generator_source_frame, high_bound_frame, index_domain_frame, index_list, inner_domain_frame, inner_owner, items_frame, list_frame, lone_high_bound_frame, minus_frame, mset_inner, node_list, not_frame, pair_left_frame, pair_right_frame, partition_inner, quantifier_head, ranges_frame, relation_domains_frame, relation_owner, round_list, set_inner, sum_head, tuple_domains_frame}
use Rattle.ess_parse_laws.proofs.AttributeRuns.{MayOmit, attribute-opens, attribute_done, attributes-omitted, attributes-opened, before_attributes, behind_attributes, flag-ends, function-opens-attributes, inner_may_omit, plain-function-opens, relation_may_omit, value-ends, value-opens}
use Rattle.ess_parse_laws.proofs.Booleans.{and-assoc, and-false, and-left, and-right, by_bool, or-true, zero-le}
use Rattle.ess_parse_laws.proofs.ListRuns.{are_some, index-closes, literal-closes, literal-empty, literal-opens, literal-stops, tuple-closes}
use Rattle.ess_parse_laws.proofs.QuantifierRuns.{Entry, among_items, atom-is-pattern, behind_sum, body-read, first-pattern-closes, follows-sum, in-settled, no-condition, operator-no-pattern, quantifier-opens, settled-domain, settled-source, sum-opens}
use Rattle.ess_parse_laws.proofs.EndLevels.{end_level, end_level-above, end_level-positive, end_level-rank, ends-left, height-below-left}
use Rattle.ess_parse_laws.specs.AfterOperands.{indexed_of}
use Rattle.ess_parse_laws.specs.Operands.{is_open_round}
use Rattle.ess_parse_laws.specs.Items.{item_ended, may_quantify, settled_head}
use Rattle.ess_parse_laws.specs.Reversed.{push_all_from, push_all_over, push_conditions, reverse_doms, reverse_exs, reverse_gens, reverse_list}
use Rattle.ess_parse_laws.specs.Machine.{run, then_run}

mutual
  -- An atom.
  atom-run : {p : Bool} {e : Ex} {ts us : List Token} → Atom p e ts us → (fs : List Frame) → run ts operand_wanted fs ≡ run us (operand_read p e) fs
  atom-run number_atom fs = refl
  atom-run true_atom fs = refl
  atom-run false_atom fs = refl
  atom-run name_atom fs = refl
  atom-run (bracketed_atom {w = w} {s = s} {l = l} d) fs = expression-run d (list_frame round_list close_round true no_exs ∷ fs) zero-le (end_level-positive l, refl, refl) (fits-else (list_frame round_list close_round true no_exs ∷ fs) (λ x. refl) s) (or-true (not w))
  atom-run (pair_atom {w = w} {k = k} {s = s} {l = l} {e = e} {es = es} {vs = vs} d ds) fs =
      expression-run d (list_frame round_list close_round true no_exs ∷ fs) zero-le (end_level-positive l, refl, refl) (fits-else (list_frame round_list close_round true no_exs ∷ fs) (λ x. refl) s) (or-true (not w))
      ∙ expressions-run ds round_list close_round (is_pattern s) (more_exs e no_exs) fs (run vs (operand_read (is_pattern s && k) (plain_node tuple_literal (more_exs e es))) fs)
      (λ w' s' l' e' i acc g p r. tuple-closes vs fs i acc w' s' l' e' (g refl)
      ∙ ap (λ es. run vs (operand_read (i && is_pattern s') (plain_node tuple_literal es)) fs) p
      ∙ ap (λ b. run vs (operand_read b (plain_node tuple_literal (more_exs e es))) fs) r) (λ w' l'. (end_level-positive l', refl, refl))
  atom-run (list_atom {o = o} {c = c} {k = k} {es = es} {vs = vs} z ds h) fs = literal-opens z fs
      ∙ expressions-run ds (node_list o) c true no_exs fs (run vs (operand_read false (plain_node o es)) fs)
      (λ w' s' l' e' i acc g p r. literal-closes z vs fs i acc w' s' l' e' (ap (λ b. may_hold o b (reverse_exs acc (more_exs e' no_exs))) r ∙ ap (λ es. may_hold o k es) p ∙ h) ∙ ap (λ es. run vs (operand_read false (plain_node o es)) fs) p)
      (literal-stops z vs)
  atom-run (empty_atom {us = us} z) fs = literal-opens z fs ∙ literal-empty z us fs
  atom-run (function_atom {es = es} {us = us} ds) fs =
      pairs-run ds no_exs fs (run us (operand_read false (plain_node function_literal es)) fs) (λ w s l a b acc p. ap (λ es. run us (operand_read false (plain_node function_literal es)) fs) p) (λ w l. (end_level-positive l, refl, refl))
  atom-run empty_function_atom fs = refl
  atom-run (record_atom {fs = as'} {es = es} {us = us} ds) fs =
      fields-run ds [] no_exs fs (run us (operand_read false (plain_node (record_literal as') es)) fs)
      (λ w s l e bs acc p q. ap (λ as'. run us (operand_read false (plain_node (record_literal as') (reverse_exs acc (more_exs e no_exs)))) fs) p ∙ ap (λ es. run us (operand_read false (plain_node (record_literal as') es)) fs) q)
      (λ w l. (end_level-positive l, refl, refl))
  atom-run (matrix_atom {es = es} {us = us} ds d) fs =
      expressions-run ds (node_list matrix_literal) close_square true no_exs fs (run us domain_wanted (index_domain_frame es ∷ fs))
      (λ w' s' l' e' i acc g p r. ap (λ es. run us domain_wanted (index_domain_frame es ∷ fs)) p) (λ w' l'. (end_level-positive l', refl, refl))
      ∙ domain-run d (index_domain_frame es ∷ fs) refl
  atom-run (comprehension_atom {w = w} {s = s} {l = l} {e = e} {vs = vs} d is) fs =
      expression-run d (list_frame (node_list matrix_literal) close_square true no_exs ∷ fs) zero-le (end_level-positive l, refl, refl) (fits-else (list_frame (node_list matrix_literal) close_square true no_exs ∷ fs) (λ x. refl) s) (or-true (not w))
      ∙ items-run is (comprehension_head e) in_comprehension_head no_gens no_exs fs (and-false _) vs items_end_at_square
  atom-run (bar_atom {s = s} {l = l} d) fs = expression-run d (bar_frame ∷ fs) zero-le (end_level-positive l, refl, refl) (fits-else (bar_frame ∷ fs) (λ x. refl) s) refl
  atom-run (index_atom {e = e} {es = es} {vs = vs} d ds) fs = atom-run d fs
      ∙ expressions-run ds index_list close_square true (more_exs e no_exs) fs (run vs (operand_read false (indexed e es)) fs)
      (λ w' s' l' e' i acc g p r. index-closes vs fs i acc w' s' l' e' (g refl) ∙ ap (λ es. run vs (operand_read false (indexed_of es)) fs) p) (λ w' l'. (end_level-positive l', refl, refl))
  atom-run (application_atom {e = e} {es = es} {vs = vs} d ds) fs = atom-run d fs
      ∙ expressions-run ds (node_list application) close_round true (more_exs e no_exs) fs (run vs (operand_read false (plain_node application (more_exs e es))) fs)
      (λ w' s' l' e' i acc g p r. ap (λ es. run vs (operand_read false (plain_node application es)) fs) p) (λ w' l'. (end_level-positive l', refl, refl))

  -- An expression, where what follows goes on with none of its level and the frames let it stand.
  pub expression-run : {w : Bool} {s : Shape} {l : ℕ} {e : Ex} {ts us : List Token} → Expression w s l e ts us → (fs : List Frame) → level_needed fs ≤ l → Stops w l us → Fits fs s → (not w || may_quantify fs) ≡ true →
      run ts operand_wanted fs ≡ reading us fs w s l e
  expression-run (atom_expression {p = p} {e = e} {us = us} d) fs h k f m = atom-run d fs ∙ from-operand us p e fs k
  expression-run (minus_expression {w = w} {s = s} {l = l} {e = e} {us = us} q d) fs h k f m =
      expression-run d (minus_frame ∷ fs) q (stops-from w 9 l us (le_trans q (end_level-above l)) k) (fits-else (minus_frame ∷ fs) (λ x. refl) s) m ∙ reduce-minus us fs w w s l e k
  expression-run (not_expression {w = w} {s = s} {l = l} {e = e} {us = us} q d) fs h k f m =
      expression-run d (not_frame ∷ fs) q (stops-from w 9 l us (le_trans q (end_level-above l)) k) (fits-else (not_frame ∷ fs) (λ x. refl) s) m ∙ reduce-not us fs w w s l e k
  expression-run (binary_expression {w = w} {s = s} {z = z} {o = o} {l = l} {m = n} {a = a} {b = b} {us = us} {vs = vs} p q d g) fs h k f m =
      expression-run d fs (le_trans h (le_trans (height-below-left (rank o)) p)) (ends-left (rank o) l p, refl, refl) (fits-left fs o s a f) refl
      ∙ shift o us fs s l a h p f
      ∙ expression-run g (binary_frame o a ∷ fs) q (stops-from w (level o) n vs (subst (λ i. i ≤ end_level n) (sym (end_level-rank (rank o))) (le_trans q (end_level-above n))) k) (fits-else (binary_frame o a ∷ fs) (λ x. refl) z) m
      ∙ reduce-binary o a s vs fs w w z n b k
  expression-run (quantifier_expression {w = w} {s = s} {l = l} {e = e} {gs = gs} {us = us} {vs = vs} (for_all_quantifier {ts = ts}) is d) fs h k g m =
      quantifier-opens Fun.And ts fs m
      ∙ items-run is (quantifier_head Fun.And) in_quantifier_head no_gens no_exs fs (and-false _) us items_end_at_dot
      ∙ body-read Fun.And gs us vs fs w s l e k m (λ x y z. expression-run d (body_frame Fun.And gs ∷ fs) zero-le x y z)
  expression-run (quantifier_expression {w = w} {s = s} {l = l} {e = e} {gs = gs} {us = us} {vs = vs} (exists_quantifier {ts = ts}) is d) fs h k g m =
      quantifier-opens Fun.Or ts fs m
      ∙ items-run is (quantifier_head Fun.Or) in_quantifier_head no_gens no_exs fs (and-false _) us items_end_at_dot
      ∙ body-read Fun.Or gs us vs fs w s l e k m (λ x y z. expression-run d (body_frame Fun.Or gs ∷ fs) zero-le x y z)
  expression-run (quantifier_expression {w = w} {h = hh} {s = s} {l = l} {e = e} {gs = gs} {us = us} {vs = vs} (sum_quantifier {ts = ts} q) is d) fs h k g m =
      by_bool (starts_round ts) (λ r. sum-items-run is (follows-sum hh (starts_round ts) q r) r fs m us items_end_at_dot)
      (λ r. sum-opens ts fs r m ∙ items-run is (quantifier_head Fun.Sum) in_quantifier_head no_gens no_exs fs (and-false _) us items_end_at_dot)
      ∙ body-read Fun.Sum gs us vs fs w s l e k m (λ x y z. expression-run d (body_frame Fun.Sum gs ∷ fs) zero-le x y z)

  -- The items of `sum` whose first pattern stands in brackets.
  sum-items-run : {h : Bool} {gs : Gens} {ts us : List Token} → Items in_quantifier [] h gs ts us → h ≡ true → starts_round ts ≡ true → (fs : List Frame) → may_quantify fs ≡ true →
      (vs : List Token) → EndsItems (quantifier_head Fun.Sum) us vs → run ts (function_word_read Fun.Sum) fs ≡ items_done (quantifier_head Fun.Sum) gs vs fs
  sum-items-run (last_generator {gs = gs} g) h r fs m vs n =
      generator-run g (quantifier_head Fun.Sum) in_quantifier_head sum_head refl no_gens fs (behind_sum r m) vs false (generator_ends_items n) (items_done (quantifier_head Fun.Sum) gs vs fs) (λ bcc p. ap (λ gs. items_done (quantifier_head Fun.Sum) gs vs fs) p)
  sum-items-run (next_generator {h = h} {gs = gs} {us = us} g is) hh r fs m vs n =
      generator-run g (quantifier_head Fun.Sum) in_quantifier_head sum_head refl no_gens fs (behind_sum r m) us true generator_ends_at_comma (items_done (quantifier_head Fun.Sum) gs vs fs)
      (λ bcc p. items-run is (quantifier_head Fun.Sum) in_quantifier_head bcc no_exs fs (and-false h) vs n ∙ ap (λ gs. items_done (quantifier_head Fun.Sum) gs vs fs) p)
  sum-items-run (last_condition {s = s} k d) h r fs m vs n = absurd (no-condition s k h)
  sum-items-run (next_condition {s = s} k i d is) h r fs m vs n = absurd (no-condition s k h)

  -- Expressions, behind those that are read. `leaf` goes on behind the last.
  expressions-run : {k : Bool} {es : Exs} {ts us : List Token} → Expressions k es ts us → (q : Listing) (c : Symbol) (j : Bool) (acc : Exs) (fs : List Frame) (r : Option Answer) →
      ((w : Bool) (s : Shape) (l : ℕ) (e : Ex) (i : Bool) (bcc : Exs) → (are_some acc ≡ true → are_some bcc ≡ true) → reverse_exs bcc (more_exs e no_exs) ≡ reverse_exs acc es → (i && is_pattern s) ≡ (j && k) →
      reading us (list_frame q c i bcc ∷ fs) w s l e ≡ r) →
      ((w : Bool) (l : ℕ) → Stops w l us) → run ts operand_wanted (list_frame q c j acc ∷ fs) ≡ r
  expressions-run (last_expression {w = w} {s = s} {l = l} {e = e} d) q c j acc fs r leaf st =
      expression-run d (list_frame q c j acc ∷ fs) zero-le (st w l) (fits-else (list_frame q c j acc ∷ fs) (λ x. refl) s) (or-true (not w)) ∙ leaf w s l e j acc (λ h. h) refl refl
  expressions-run (next_expression {w = w} {k = k} {s = s} {l = l} {e = e} d ds) q c j acc fs r leaf st =
      expression-run d (list_frame q c j acc ∷ fs) zero-le (end_level-positive l, refl, refl) (fits-else (list_frame q c j acc ∷ fs) (λ x. refl) s) (or-true (not w))
      ∙ expressions-run ds q c (j && is_pattern s) (more_exs e acc) fs r (λ w' s' l' e' i bcc g p t. leaf w' s' l' e' i bcc (λ h. g refl) p (t ∙ and-assoc j (is_pattern s) k)) st

  -- Pairs of a function literal, behind those that are read.
  pairs-run : {es : Exs} {ts us : List Token} → Pairs es ts us → (acc : Exs) (fs : List Frame) (r : Option Answer) →
      ((w : Bool) (s : Shape) (l : ℕ) (a b : Ex) (bcc : Exs) → reverse_exs bcc (more_exs (pair_ex a b) no_exs) ≡ reverse_exs acc es → reading us (pair_right_frame bcc a ∷ fs) w s l b ≡ r) →
      ((w : Bool) (l : ℕ) → Stops w l us) → run ts operand_wanted (pair_left_frame acc ∷ fs) ≡ r
  pairs-run (last_pair {v = v} {w = w} {s = s} {z = z} {l = l} {m = m} {a = a} {b = b} d g) acc fs r leaf st =
      expression-run d (pair_left_frame acc ∷ fs) zero-le (end_level-positive l, refl, refl) (fits-else (pair_left_frame acc ∷ fs) (λ x. refl) s) (or-true (not v))
      ∙ expression-run g (pair_right_frame acc a ∷ fs) zero-le (st w m) (fits-else (pair_right_frame acc a ∷ fs) (λ x. refl) z) (or-true (not w)) ∙ leaf w z m a b acc refl
  pairs-run (next_pair {v = v} {w = w} {s = s} {z = z} {l = l} {m = m} {a = a} {b = b} d g ds) acc fs r leaf st =
      expression-run d (pair_left_frame acc ∷ fs) zero-le (end_level-positive l, refl, refl) (fits-else (pair_left_frame acc ∷ fs) (λ x. refl) s) (or-true (not v))
      ∙ expression-run g (pair_right_frame acc a ∷ fs) zero-le (end_level-positive m, refl, refl) (fits-else (pair_right_frame acc a ∷ fs) (λ x. refl) z) (or-true (not w))
      ∙ pairs-run ds (more_exs (pair_ex a b) acc) fs r leaf st

  -- Fields of a record literal, behind those that are read.
  fields-run : {as' : List Text} {es : Exs} {ts us : List Token} → Fields as' es ts us → (bs : List Text) (acc : Exs) (fs : List Frame) (r : Option Answer) →
      ((w : Bool) (s : Shape) (l : ℕ) (e : Ex) (cs : List Text) (bcc : Exs) → reverse_list cs [] ≡ reverse_list bs as' → reverse_exs bcc (more_exs e no_exs) ≡ reverse_exs acc es → reading us (field_value_frame cs bcc ∷ fs) w s l e ≡ r) →
      ((w : Bool) (l : ℕ) → Stops w l us) → run ts field_wanted (fields_frame bs acc ∷ fs) ≡ r
  fields-run (last_field {w = w} {s = s} {l = l} {a = a} {e = e} d) bs acc fs r leaf st =
      expression-run d (field_value_frame (a ∷ bs) acc ∷ fs) zero-le (st w l) (fits-else (field_value_frame (a ∷ bs) acc ∷ fs) (λ x. refl) s) (or-true (not w)) ∙ leaf w s l e (a ∷ bs) acc refl refl
  fields-run (next_field {w = w} {s = s} {l = l} {a = a} {e = e} d ds) bs acc fs r leaf st =
      expression-run d (field_value_frame (a ∷ bs) acc ∷ fs) zero-le (end_level-positive l, refl, refl) (fits-else (field_value_frame (a ∷ bs) acc ∷ fs) (λ x. refl) s) (or-true (not w))
      ∙ fields-run ds (a ∷ bs) (more_exs e acc) fs r leaf st

  -- Items, behind those that are read and the patterns that wait.
  items-run : {p : Place} {bs : List Text} {h : Bool} {gs : Gens} {ts us : List Token} → Items p bs h gs ts us → (hd : Head) → StandsIn p hd → (acc : Gens) (pend : Exs) (fs : List Frame) →
      (h && are_some pend) ≡ false → (vs : List Token) → EndsItems hd us vs → run ts operand_wanted (items_frame hd bs acc pend ∷ fs) ≡ items_done hd (reverse_gens (push_conditions pend acc) gs) vs fs
  items-run (last_generator {gs = gs} g) hd z acc no_exs fs q vs n =
      generator-run g hd z hd (settled-stands z) acc fs among_items vs false (generator_ends_items n) (items_done hd (reverse_gens acc gs) vs fs) (λ bcc p. ap (λ gs. items_done hd gs vs fs) p)
  items-run (last_generator g) hd z acc (more_exs e es) fs q vs n = cc
  items-run (next_generator {h = h} {gs = gs} {us = us} g is) hd z acc no_exs fs q vs n =
      generator-run g hd z hd (settled-stands z) acc fs among_items us true generator_ends_at_comma (items_done hd (reverse_gens acc gs) vs fs)
      (λ bcc p. items-run is hd z bcc no_exs fs (and-false h) vs n ∙ ap (λ gs. items_done hd gs vs fs) p)
  items-run (next_generator g is) hd z acc (more_exs e es) fs q vs n = cc
  items-run (last_condition {s = s} {l = l} {bs = bs} {e = e} k d) hd z acc pend fs q vs n =
      expression-run d (items_frame hd bs acc pend ∷ fs) zero-le (items-stop n false l) (fits-items z bs acc pend fs s k q) refl ∙ condition-ends n bs acc pend fs s l e
  items-run (next_condition {s = s} {l = l} {bs = bs} {h = h} {e = e} {hs = hs} {us = us} k i d is) hd z acc pend fs q vs n =
      expression-run d (items_frame hd bs acc pend ∷ fs) zero-le (end_level-positive l, refl, refl) (fits-items z bs acc pend fs s k q) refl
      ∙ ap (λ b. then_run (elim b [ true ↦ Some (record { mode = operand_wanted; frames = item_ended hd bs acc pend (is_pattern s) e ∷ fs }) | false ↦ None ]) (run us)) (ends-item z s)
      ∙ condition-waits h hd bs acc pend fs e hs us vs (λ acc' pend' q'. items-run is hd z acc' pend' fs q' vs n) (is_pattern s) i

  -- A generator, behind items that are read or as the first behind `sum`.
  generator-run : {p : Place} {bs cs : List Text} {hs gs : Gens} {ts us : List Token} {o : Option Answer} → Generator p bs cs hs gs ts us →
      (hd : Head) → StandsIn p hd → (h : Head) → settled_head h ≡ hd → (acc : Gens) (fs : List Frame) → Entry ts h bs acc no_exs fs o →
      (vs : List Token) (b : Bool) → EndsGenerator hd us vs b → (r : Option Answer) →
      ((bcc : Gens) → reverse_gens bcc hs ≡ reverse_gens acc gs → generator_done b hd (bs ++ cs) bcc vs fs ≡ r) → o ≡ r
  generator-run (over_generator {bs = bs} {ps = ps} {d = d} {hs = hs} {us = us} es k) hd z h t acc fs y vs b n r leaf =
      patterns-run es refl h bs acc no_exs fs y (run us domain_wanted (generator_domain_frame hd bs acc ps ∷ fs))
      (λ e pend p. settled-domain h hd t bs acc fs us p)
      ∙ domain-run k (generator_domain_frame hd bs acc ps ∷ fs) (generator-no-bracket n) ∙ domain-ends n bs acc ps fs d ∙ leaf (push_all_over ps d acc) (reverse-over ps d acc hs)
  generator-run (from_generator {s = s} {l = l} {bs = bs} {ps = ps} {e = e} {hs = hs} {us = us} es k) hd z h t acc fs y vs b n r leaf =
      patterns-run es refl h bs acc no_exs fs y (run us operand_wanted (generator_source_frame hd bs acc ps ∷ fs))
      (λ e pend p. settled-source h hd t bs acc fs us p)
      ∙ expression-run k (generator_source_frame hd bs acc ps ∷ fs) zero-le (generator-stops n false l) (fits-else (generator_source_frame hd bs acc ps ∷ fs) (λ x. refl) s) refl
      ∙ source-ends n bs acc ps fs s l e ∙ leaf (push_all_from ps e acc) (reverse-from ps e acc hs)
  generator-run (in_generator {s = s} {l = l} {bs = bs} {ps = ps} {e = e} {hs = hs} {us = us} i es k) hd (in_quantifier_head {f = f}) h t acc fs y
      vs b n r leaf =
      patterns-run es refl h bs acc no_exs fs y (run us operand_wanted (generator_source_frame (quantifier_head f) bs acc ps ∷ fs))
      (λ e pend p. in-settled f h t bs acc pend fs e us ps p i)
      ∙ expression-run k (generator_source_frame (quantifier_head f) bs acc ps ∷ fs) zero-le (generator-stops n false l) (fits-else (generator_source_frame (quantifier_head f) bs acc ps ∷ fs) (λ x. refl) s) refl
      ∙ source-ends n bs acc ps fs s l e ∙ leaf (push_all_from ps e acc) (reverse-from ps e acc hs)

  -- Patterns, behind those that wait.
  patterns-run : {k : Bool} {ps : Exs} {ts us : List Token} {o : Option Answer} → Expressions k ps ts us → k ≡ true →
      (hd : Head) (bs : List Text) (acc : Gens) (pend : Exs) (fs : List Frame) → Entry ts hd bs acc pend fs o → (r : Option Answer) →
      ((e : Ex) (qend : Exs) → reverse_exs qend (more_exs e no_exs) ≡ reverse_exs pend ps →
      run us (operand_read true e) (items_frame hd bs acc qend ∷ fs) ≡ r) → o ≡ r
  patterns-run (last_expression {e = e} d) q hd bs acc pend fs y r leaf = pattern-run y d q ∙ leaf e pend refl
  patterns-run (next_expression {k = k} {s = s} {e = e} d ds) q hd bs acc pend fs y r leaf = pattern-run y d (and-left (is_pattern s) k q)
      ∙ patterns-run ds (and-right (is_pattern s) k q) hd bs acc (more_exs e pend) fs among_items r leaf

  -- A pattern.
  pattern-run : {w : Bool} {s : Shape} {l : ℕ} {e : Ex} {ts us : List Token} {hd : Head} {bs : List Text} {acc : Gens} {pend : Exs}
      {fs : List Frame} {o : Option Answer} → Entry ts hd bs acc pend fs o → Expression w s l e ts us → is_pattern s ≡ true →
      o ≡ run us (operand_read true e) (items_frame hd bs acc pend ∷ fs)
  pattern-run (among_items {hd = hd} {bs = bs} {acc = acc} {pend = pend} {fs = fs}) (atom_expression {p = true} d) q =
      atom-run d (items_frame hd bs acc pend ∷ fs)
  pattern-run (behind_sum {fs = fs} r m) (atom_expression (pair_atom {w = w} {k = k} {s = s} {l = l} {e = e} {es = es} {vs = vs} d ds)) q =
      expression-run d (list_frame (node_list (Op.word Fun.Sum)) close_round true no_exs ∷ fs) zero-le (end_level-positive l, refl, refl) (fits-else (list_frame (node_list (Op.word Fun.Sum)) close_round true no_exs ∷ fs) (λ x. refl) s) (or-true (not w))
      ∙ expressions-run ds (node_list (Op.word Fun.Sum)) close_round (is_pattern s) (more_exs e no_exs) fs (run vs (operand_read true (plain_node tuple_literal (more_exs e es))) (items_frame sum_head [] no_gens no_exs ∷ fs))
      (λ w' s' l' e' i acc g p t. first-pattern-closes vs fs i acc w' s' l' e' (t ∙ atom-is-pattern (is_pattern s && k) q) (g refl) m
      ∙ ap (λ es. run vs (operand_read true (plain_node tuple_literal es)) (items_frame sum_head [] no_gens no_exs ∷ fs)) p)
      (λ w' l'. (end_level-positive l', refl, refl))
  pattern-run (behind_sum r m) (atom_expression {p = true} name_atom) q = cc
  pattern-run y (binary_expression {s = s} {o = o} {a = a} k i d g) q = absurd (operator-no-pattern o s a q)
  pattern-run y _ q = cc

  -- A domain, where no bracket follows.
  pub domain-run : {d : Dom} {ts us : List Token} → Domain d ts us → (fs : List Frame) → NoBracket us → run ts domain_wanted fs ≡ run us (domain_read d) fs
  domain-run bool_domain fs h = refl
  domain-run (int_domain {us = us}) fs h = int-ends us fs h
  domain-run (ranges_domain {us = us} rs) fs h = ranges-run rs [] no_exs fs us range_ends_at_round
  domain-run name_domain fs h = refl
  domain-run (pair_domain {d = d} {ds = ds} {vs = vs} k ks) fs h = domain-run k (tuple_domains_frame true no_doms ∷ fs) refl
      ∙ domains-run ks (λ acc. tuple_domains_frame true acc) (more_doms d no_doms) fs (run vs (domain_read (tuple_dom (more_doms d ds))) fs) (λ us d acc. refl) refl
      (λ c acc g p. pair-domain-closes acc c vs fs (g refl) ∙ ap (λ ds. run vs (domain_read (tuple_dom ds)) fs) p) refl
  domain-run (tuple_domain {ds = ds} {us = us} ks) fs h =
      domains-run ks (λ acc. tuple_domains_frame false acc) no_doms fs (run us (domain_read (tuple_dom ds)) fs) (λ us d acc. refl) refl (λ c acc g p. ap (λ ds. run us (domain_read (tuple_dom ds)) fs) p) refl
  domain-run (record_domain {fs = ns} {ds = ds} {us = us} ks) fs h =
      field-domains-run ks [] no_doms fs (run us (domain_read (sorted_record ns ds)) fs)
      (λ c ms acc p q. ap (λ ns. run us (domain_read (sorted_record ns (reverse_doms acc (more_doms c no_doms)))) fs) p ∙ ap (λ ds. run us (domain_read (sorted_record ns ds)) fs) q) refl
  domain-run (matrix_domain {ds = ds} {d = d} {us = us} {vs = vs} is k) fs h =
      domains-run is (λ acc. axes_frame acc) no_doms fs (run us domain_wanted (element_frame ds ∷ fs)) (λ us d acc. refl) refl (λ d acc g p. ap (λ ds. run us domain_wanted (element_frame ds ∷ fs)) p) refl
      ∙ domain-run k (element_frame ds ∷ fs) h ∙ matrix-reduces vs ds d fs
  domain-run (set_domain {ms = ms} {es = es} {d = d} {us = us} {vs = vs} as' k) fs h =
      maybe-attributes-run as' (inner_owner set_inner) inner_may_omit fs refl ∙ domain-run k (inner_domain_frame set_inner ms es ∷ fs) h ∙ inner-reduces set_inner ms es vs d fs
  domain-run (mset_domain {ms = ms} {es = es} {d = d} {us = us} {vs = vs} as' k) fs h =
      maybe-attributes-run as' (inner_owner mset_inner) inner_may_omit fs refl ∙ domain-run k (inner_domain_frame mset_inner ms es ∷ fs) h ∙ inner-reduces mset_inner ms es vs d fs
  domain-run (partition_domain {ms = ms} {es = es} {d = d} {us = us} {vs = vs} as' k) fs h =
      maybe-attributes-run as' (inner_owner partition_inner) inner_may_omit fs refl ∙ domain-run k (inner_domain_frame partition_inner ms es ∷ fs) h ∙ inner-reduces partition_inner ms es vs d fs
  domain-run (relation_domain {ms = ms} {es = es} {d = d} {ds = ds} {us = us} {vs = vs} {xs = xs} as' k ks) fs h =
      maybe-attributes-run as' relation_owner relation_may_omit fs refl ∙ domain-run k (relation_domains_frame ms es no_doms ∷ fs) refl
      ∙ domains-run ks (λ acc. relation_domains_frame ms es acc) (more_doms d no_doms) fs (run xs (domain_read (relation_dom ms es (more_doms d ds))) fs) (λ us d acc. refl) refl
      (λ c acc g p. relation-closes ms es acc c xs fs (g refl) ∙ ap (λ ds. run xs (domain_read (relation_dom ms es ds)) fs) p) refl
  domain-run (function_domain {ms = ms} {es = es} {d = d} {c = c} {ts = ts} {us = us} {vs = vs} {xs = xs} as' k j) fs h =
      function-opens-attributes as' fs ∙ attributes-run as' function_owner [] no_exs fs us range_ends_at_round
      ∙ domain-run k (function_from_frame ms es ∷ fs) refl ∙ domain-run j (function_to_frame ms es d ∷ fs) h ∙ function-reduces ms es xs d c fs
  domain-run (plain_function_domain {d = d} {c = c} {ts = ts} {us = us} {vs = vs} q k j) fs h =
      plain-function-opens ts fs q ∙ domain-run k (function_from_frame [] no_exs ∷ fs) refl ∙ domain-run j (function_to_frame [] no_exs d ∷ fs) h ∙ function-reduces [] no_exs vs d c fs

  -- Domains under the frames F, behind those that are read.
  domains-run : {t : Token} {ds : Doms} {ts us : List Token} → Domains t ds ts us → (F : Doms → Frame) (acc : Doms) (fs : List Frame) (r : Option Answer) →
      ((us : List Token) (d : Dom) (acc : Doms) → run (t ∷ us) (domain_read d) (F acc ∷ fs) ≡ run us domain_wanted (F (more_doms d acc) ∷ fs)) → is_open_round t ≡ false →
      ((d : Dom) (bcc : Doms) → (are_some_doms acc ≡ true → are_some_doms bcc ≡ true) → reverse_doms bcc (more_doms d no_doms) ≡ reverse_doms acc ds → run us (domain_read d) (F bcc ∷ fs) ≡ r) → NoBracket us →
      run ts domain_wanted (F acc ∷ fs) ≡ r
  domains-run (last_domain {d = d} k) F acc fs r st q leaf h = domain-run k (F acc ∷ fs) h ∙ leaf d acc (λ g. g) refl
  domains-run (next_domain {d = d} {us = us} k ks) F acc fs r st q leaf h =
      domain-run k (F acc ∷ fs) q ∙ st us d acc ∙ domains-run ks F (more_doms d acc) fs r st q (λ c bcc g p. leaf c bcc (λ i. g refl) p) h

  -- Fields of a record domain, behind those that are read.
  field-domains-run : {ns : List Text} {ds : Doms} {ts us : List Token} → FieldDomains ns ds ts us → (ms : List Text) (acc : Doms) (fs : List Frame) (r : Option Answer) →
      ((d : Dom) (ls : List Text) (bcc : Doms) → reverse_list ls [] ≡ reverse_list ms ns → reverse_doms bcc (more_doms d no_doms) ≡ reverse_doms acc ds → run us (domain_read d) (field_domain_frame ls bcc ∷ fs) ≡ r) → NoBracket us →
      run ts field_name_wanted (field_names_frame ms acc ∷ fs) ≡ r
  field-domains-run (last_field_domain {a = a} {d = d} k) ms acc fs r leaf h = domain-run k (field_domain_frame (a ∷ ms) acc ∷ fs) h ∙ leaf d (a ∷ ms) acc refl refl
  field-domains-run (next_field_domain {a = a} {d = d} k ks) ms acc fs r leaf h = domain-run k (field_domain_frame (a ∷ ms) acc ∷ fs) refl ∙ field-domains-run ks (a ∷ ms) (more_doms d acc) fs r leaf h

  -- Attributes in brackets, or none.
  maybe-attributes-run : {ms : List Mark} {es : Exs} {ts us : List Token} → MaybeAttributes ms es ts us → (o : Owner) → MayOmit o → (fs : List Frame) → NoBracket us →
      run ts (before_attributes o) fs ≡ behind_attributes o ms es us fs
  maybe-attributes-run (no_attributes {us = us}) o z fs h = attributes-omitted z us fs h
  maybe-attributes-run (some_attributes {ts = ts} {us = us} as') o z fs h = attributes-opened z ts fs ∙ attributes-run as' o [] no_exs fs us range_ends_at_round

  -- Attributes, behind those that are read.
  attributes-run : {ms : List Mark} {es : Exs} {ts us : List Token} → Attributes ms es ts us → (o : Owner) (ns : List Mark) (acc : Exs) (fs : List Frame) (vs : List Token) → EndsRange us vs false →
      run ts attribute_wanted (attributes_frame o ns acc ∷ fs) ≡ behind_attributes o (reverse_list ns ms) (reverse_exs acc es) vs fs
  attributes-run (last_attribute {m = m} {es = es} k) o ns acc fs vs n =
      attribute-run k o ns acc fs vs false n (behind_attributes o (reverse_list ns (m ∷ [])) (reverse_exs acc es) vs fs) (λ bcc p. ap (λ es. behind_attributes o (reverse_list ns (m ∷ [])) es vs fs) p)
  attributes-run (next_attribute {m = m} {ms = ms} {es = es} {us = us} k ks) o ns acc fs vs n =
      attribute-run k o ns acc fs us true range_ends_at_comma (behind_attributes o (reverse_list ns (m ∷ ms)) (reverse_exs acc es) vs fs)
      (λ bcc p. attributes-run ks o (m ∷ ns) bcc fs vs n ∙ ap (λ es. behind_attributes o (reverse_list ns (m ∷ ms)) es vs fs) p)

  -- An attribute.
  attribute-run : {m : Mark} {gs es : Exs} {ts us : List Token} → Attribute m gs es ts us → (o : Owner) (ns : List Mark) (acc : Exs) (fs : List Frame) (vs : List Token) (b : Bool) → EndsRange us vs b → (x : Option Answer) →
      ((bcc : Exs) → reverse_exs bcc gs ≡ reverse_exs acc es → attribute_done b o (m ∷ ns) bcc vs fs ≡ x) → run ts attribute_wanted (attributes_frame o ns acc ∷ fs) ≡ x
  attribute-run (flag_attribute {a = a} {k = k} {us = us} h) o ns acc fs vs b n x leaf = attribute-opens a us k (attributes_frame o ns acc ∷ fs) h ∙ flag-ends n k o ns acc fs ∙ leaf acc refl
  attribute-run (valued_attribute {a = a} {s = s} {l = l} {k = k} {e = e} {ts = ts} h d) o ns acc fs vs b n x leaf =
      attribute-opens a ts k (attributes_frame o ns acc ∷ fs) h ∙ value-opens ts k o ns acc fs (expression-first d)
      ∙ expression-run d (attribute_value_frame o k ns acc ∷ fs) zero-le (range-stops n false l) (fits-else (attribute_value_frame o k ns acc ∷ fs) (λ y. refl) s) refl
      ∙ value-ends n k o ns acc fs s l e ∙ leaf (more_exs e acc) refl

  -- Ranges, behind those that are read.
  ranges-run : {rs : List Ends} {es : Exs} {ts us : List Token} → Ranges rs es ts us → (qs : List Ends) (acc : Exs) (fs : List Frame) (vs : List Token) → EndsRange us vs false →
      run ts operand_wanted (ranges_frame qs acc ∷ fs) ≡ run vs (domain_read (int_dom (reverse_list qs rs) (reverse_exs acc es))) fs
  ranges-run (last_range {r = r} {es = es} k) qs acc fs vs n =
      range-run k qs acc fs vs false n (run vs (domain_read (int_dom (reverse_list qs (r ∷ [])) (reverse_exs acc es))) fs) (λ bcc p. ap (λ es. run vs (domain_read (int_dom (reverse_list qs (r ∷ [])) es)) fs) p)
  ranges-run (next_range {r = r} {rs = rs} {es = es} {fs = gs} {us = us} k ks) qs acc fs vs n =
      range-run k qs acc fs us true range_ends_at_comma (run vs (domain_read (int_dom (reverse_list qs (r ∷ rs)) (reverse_exs acc es))) fs)
      (λ bcc p. ranges-run ks (r ∷ qs) bcc fs vs n ∙ ap (λ es. run vs (domain_read (int_dom (reverse_list qs (r ∷ rs)) es)) fs) p)

  -- A range.
  range-run : {r : Ends} {gs es : Exs} {ts us : List Token} → Range r gs es ts us → (qs : List Ends) (acc : Exs) (fs : List Frame) (vs : List Token) (b : Bool) → EndsRange us vs b → (x : Option Answer) →
      ((bcc : Exs) → reverse_exs bcc gs ≡ reverse_exs acc es → range_done b (r ∷ qs) bcc vs fs ≡ x) → run ts operand_wanted (ranges_frame qs acc ∷ fs) ≡ x
  range-run (value_range {s = s} {l = l} {a = a} d) qs acc fs vs b n x leaf =
      expression-run d (ranges_frame qs acc ∷ fs) zero-le (range-stops n false l) (fits-else (ranges_frame qs acc ∷ fs) (λ y. refl) s) refl ∙ value-range-ends n qs acc fs s l a ∙ leaf (more_exs a acc) refl
  range-run (both_range {s = s} {z = z} {l = l} {m = m} {a = a} {b = e} d g) qs acc fs vs b n x leaf =
      expression-run d (ranges_frame qs acc ∷ fs) zero-le (end_level-positive l, refl, refl) (fits-else (ranges_frame qs acc ∷ fs) (λ y. refl) s) refl
      ∙ expression-run g (high_bound_frame qs acc a ∷ fs) zero-le (range-stops n false m) (fits-else (high_bound_frame qs acc a ∷ fs) (λ y. refl) z) refl
      ∙ both-range-ends n qs acc a fs z m e ∙ leaf (more_exs e (more_exs a acc)) refl
  range-run (low_range {s = s} {l = l} {a = a} d) qs acc fs vs b n x leaf =
      expression-run d (ranges_frame qs acc ∷ fs) zero-le (end_level-positive l, refl, refl) (fits-else (ranges_frame qs acc ∷ fs) (λ y. refl) s) refl ∙ low-range-ends n qs acc a fs ∙ leaf (more_exs a acc) refl
  range-run (high_range {s = s} {l = l} {b = e} d) qs acc fs vs b n x leaf =
      expression-run d (lone_high_bound_frame qs acc ∷ fs) zero-le (range-stops n false l) (fits-else (lone_high_bound_frame qs acc ∷ fs) (λ y. refl) s) refl ∙ high-range-ends n qs acc fs s l e ∙ leaf (more_exs e acc) refl
