-- Lists in brackets, as the rules derive them.
use Rattle.std.proofs.Common.{◌&&◌, Bool, List, None, Some, [], ap, false, not, refl, subst, sym, true, ℕ, ◌∙◌, ◌∷◌, ◌≡◌}
use Rattle.ess_semantics.specs.declared.words.Fun.{Fun}
use Rattle.ess_semantics.specs.Trees.{Ex, Exs, Op, application, matrix_literal, more_exs, no_exs, no_gens, plain_node, tuple_literal}
use Rattle.ess_semantics.specs.Values.{Text}
use Rattle.ess_grammar.specs.Grammar.{Atom, Expression, Expressions, application_atom, bracketed_atom, index_atom, last_expression, list_atom, next_expression, opens_call, opens_matrix, opens_mset, opens_partition, opens_relation, opens_set, opens_tuple, pair_atom}
use Rattle.ess_grammar.specs.Patterns.{Shape, are_several, is_one_bound, is_pattern, is_sum, may_hold}
use Rattle.ess_grammar.specs.Words.{Symbol, Token, close_curly, close_round, close_square, comma, function, open_round, semicolon, symbol}
use Rattle.ess_parse_laws.proofs.Contexts.{DomainContext, ListOpens, OperandContext, WholeList, in_sum_items, list_before, list_begun_before, opens_application, opens_index, opens_literal, opens_round, semicolon_before}
use Rattle.ess_parse_laws.specs.Frames.{Frame, Listing, index_domain_frame, index_list, items_frame, list_frame, node_list, round_list, sum_head}
use Rattle.ess_parse_laws.proofs.Invariant.{Keeps, ReadAtom}
use Rattle.ess_parse_laws.proofs.Booleans.{and-assoc, by_elim}
use Rattle.ess_parse_laws.specs.AfterOperands.{end_list, indexed_of}
use Rattle.ess_parse_laws.specs.Items.{may_quantify}
use Rattle.ess_parse_laws.specs.Modes.{operand_read}
use Rattle.ess_parse_laws.specs.Reversed.{reverse_exs}
use Rattle.ess_parse_laws.proofs.ListRuns.{several-reversed}

-- Two or more patterns are no single bound name.
pub not-one : (bs : List Text) (as' : Exs) (a b : Ex) (es : Exs) → is_one_bound bs (reverse_exs as' (more_exs a (more_exs b es))) ≡ false
not-one bs no_exs a b es = refl
not-one bs (more_exs c as') a b es = not-one bs as' c a (more_exs b es)

tuple-atom : {k : Bool} {es : Exs} {ts us : List Token} → Expressions k es ts (symbol close_round ∷ us) → are_several es ≡ true → Atom k (plain_node tuple_literal es) (symbol open_round ∷ ts) us
tuple-atom (last_expression d) h = cc
tuple-atom (next_expression d ds) h = pair_atom d ds

list-atom : {o : Op} {c : Symbol} {b : Bool} {base total : Exs} {vs us xs : List Token} → ListOpens (node_list o) c base vs us → may_hold o b total ≡ true → WholeList b base total us (symbol c ∷ xs) → Atom false (plain_node o total) vs xs
list-atom {o = o} {b = b} {vs = vs} {xs = xs} (opens_literal z) m g = subst (λ es. Atom false (plain_node o es) vs xs) (sym g.is) (list_atom z g.derivation (ap (may_hold o b) (sym g.is) ∙ m))
list-atom {vs = vs} {xs = xs} (opens_application d) m g = subst (λ es. Atom false (plain_node application es) vs xs) (sym g.is) (application_atom d g.derivation)

index-atom : {b : Bool} {base total : Exs} {vs us xs : List Token} → ListOpens index_list close_square base vs us → WholeList b base total us (symbol close_square ∷ xs) → Atom false (indexed_of total) vs xs
index-atom {vs = vs} {xs = xs} (opens_index d) g = subst (λ es. Atom false (indexed_of es) vs xs) (sym g.is) (index_atom d g.derivation)

square-holds : {o : Op} {base : Exs} {vs us : List Token} → ListOpens (node_list o) close_square base vs us → (k : Bool) (es : Exs) → may_hold o k es ≡ true
square-holds (opens_literal opens_matrix) k es = refl

curly-holds : {o : Op} {base : Exs} {vs us : List Token} → ListOpens (node_list o) close_curly base vs us → (k : Bool) (es : Exs) → may_hold o k es ≡ true
curly-holds (opens_literal opens_set) k es = refl

-- A list that was begun under the frames.
record ListBegun (t0 : List Token) (q : Listing) (c : Symbol) (j : Bool) (acc : Exs) (fs : List Frame) (ts : List Token) : Type 0 where
  base : Exs
  vs : List Token
  us : List Token
  opening : ListOpens q c base vs us
  grow : (k : Bool) (es : Exs) (xs : List Token) → Expressions k es ts xs → WholeList (j && k) base (reverse_exs acc es) us xs
  context : OperandContext t0 fs vs

list-begun : {t0 : List Token} {q : Listing} {c : Symbol} {j : Bool} {acc : Exs} {fs : List Frame} {ts : List Token} → OperandContext t0 (list_frame q c j acc ∷ fs) ts → ListBegun t0 q c j acc fs ts
list-begun (list_begun_before {base = base} {us = us} {ts = ts} og c) = record { base = base; vs = us; us = ts; opening = og; grow = λ k es xs d. record { es = es; is = refl; derivation = d }; context = c }
list-begun (list_before {base = base} {vs = vs} {us = us} og g c) = record { base = base; vs = vs; us = us; opening = og; grow = g; context = c }

-- A comma in a list keeps the invariant.
pub list-goes-on : {t0 : List Token} {q : Listing} {c : Symbol} {j w : Bool} {s : Shape} {l : ℕ} {acc : Exs} {e : Ex} {fs : List Frame} {us ts : List Token} →
    OperandContext t0 (list_frame q c j acc ∷ fs) us → Expression w s l e us (symbol comma ∷ ts) → OperandContext t0 (list_frame q c (j && is_pattern s) (more_exs e acc) ∷ fs) ts
list-goes-on {j = j} {s = s} {acc = acc} {e = e} x d =
    let b = list-begun x in
    list_before b.opening (λ k es xs ds. subst (λ i. WholeList i b.base (reverse_exs acc (more_exs e es)) b.us xs) (sym (and-assoc j (is_pattern s) k)) (b.grow (is_pattern s && k) (more_exs e es) xs (next_expression d ds))) b.context

list-ends : {t0 : List Token} {o : Op} {c : Symbol} {j w : Bool} {s : Shape} {l : ℕ} {acc : Exs} {e : Ex} {fs : List Frame} {us ts : List Token} →
    OperandContext t0 (list_frame (node_list o) c j acc ∷ fs) us → Expression w s l e us (symbol c ∷ ts) → may_hold o (j && is_pattern s) (reverse_exs acc (more_exs e no_exs)) ≡ true →
    ReadAtom t0 fs false (plain_node o (reverse_exs acc (more_exs e no_exs))) ts
list-ends {c = c} {s = s} {e = e} {ts = ts} x d m =
    let b = list-begun x in record { us = b.vs; context = b.context; derivation = list-atom b.opening m (b.grow (is_pattern s) (more_exs e no_exs) (symbol c ∷ ts) (last_expression d)) }

-- A square bracket behind a list keeps it.
pub square-list-ends : {t0 : List Token} {o : Op} {j w : Bool} {s : Shape} {l : ℕ} {acc : Exs} {e : Ex} {fs : List Frame} {us ts : List Token} →
    OperandContext t0 (list_frame (node_list o) close_square j acc ∷ fs) us → Expression w s l e us (symbol close_square ∷ ts) → ReadAtom t0 fs false (plain_node o (reverse_exs acc (more_exs e no_exs))) ts
square-list-ends {j = j} {s = s} {acc = acc} {e = e} x d = list-ends x d (square-holds (list-begun x).opening (j && is_pattern s) (reverse_exs acc (more_exs e no_exs)))

-- A curly bracket behind a list keeps it.
pub curly-list-ends : {t0 : List Token} {o : Op} {j w : Bool} {s : Shape} {l : ℕ} {acc : Exs} {e : Ex} {fs : List Frame} {us ts : List Token} →
    OperandContext t0 (list_frame (node_list o) close_curly j acc ∷ fs) us → Expression w s l e us (symbol close_curly ∷ ts) → ReadAtom t0 fs false (plain_node o (reverse_exs acc (more_exs e no_exs))) ts
curly-list-ends {j = j} {s = s} {acc = acc} {e = e} x d = list-ends x d (curly-holds (list-begun x).opening (j && is_pattern s) (reverse_exs acc (more_exs e no_exs)))

-- A square bracket behind an index keeps it.
pub index-list-ends : {t0 : List Token} {j w : Bool} {s : Shape} {l : ℕ} {acc : Exs} {e : Ex} {fs : List Frame} {us ts : List Token} →
    OperandContext t0 (list_frame index_list close_square j acc ∷ fs) us → Expression w s l e us (symbol close_square ∷ ts) → ReadAtom t0 fs false (indexed_of (reverse_exs acc (more_exs e no_exs))) ts
index-list-ends {s = s} {e = e} {ts = ts} x d =
    let b = list-begun x in record { us = b.vs; context = b.context; derivation = index-atom b.opening (b.grow (is_pattern s) (more_exs e no_exs) (symbol close_square ∷ ts) (last_expression d)) }

sum-operator : (f : Fun) → is_sum (Op.word f) ≡ true → f ≡ Fun.Sum
sum-operator Fun.Sum h = refl
sum-operator _ h = cc

not-held : (a b c : Bool) → not (a && (b && c)) ≡ false → (a ≡ true) × (b ≡ true) × (c ≡ true)
not-held true true true h = (refl, refl, refl)
not-held true true false h = cc
not-held true false c h = cc
not-held false b c h = cc

sum-pattern : {t0 : List Token} {o : Op} {base total : Exs} {fs : List Frame} {vs us ts : List Token} → ListOpens (node_list o) close_round base vs us → is_sum o ≡ true →
    WholeList true base total us (symbol close_round ∷ ts) → are_several total ≡ true → OperandContext t0 fs vs → ReadAtom t0 (items_frame sum_head [] no_gens no_exs ∷ fs) true (plain_node tuple_literal total) ts
sum-pattern {t0 = t0} {fs = fs} {us = us} {ts = ts} (opens_literal (opens_call {f = f})) h g q c =
    record {
      us = symbol open_round ∷ us;
      context = in_sum_items refl (λ k es xs d. d) (subst (λ f. OperandContext t0 fs (function f ∷ symbol open_round ∷ us)) (sum-operator f h) c);
      derivation = subst (λ es. Atom true (plain_node tuple_literal es) (symbol open_round ∷ us) ts) (sym g.is) (tuple-atom g.derivation (ap are_several (sym g.is) ∙ q));
    }
sum-pattern (opens_literal opens_tuple) h g q c = cc
sum-pattern (opens_literal opens_mset) h g q c = cc
sum-pattern (opens_literal opens_relation) h g q c = cc
sum-pattern (opens_literal opens_partition) h g q c = cc
sum-pattern (opens_application d) h g q c = cc

-- A round bracket behind the list of a node keeps it.
pub end-list-keeps : {t0 : List Token} (o : Op) (j : Bool) (acc : Exs) (fs : List Frame) {w : Bool} {l : ℕ} {us ts : List Token} (s : Shape) (e : Ex) →
    OperandContext t0 (list_frame (node_list o) close_round j acc ∷ fs) us → Expression w s l e us (symbol close_round ∷ ts) → Keeps t0 (end_list o (j && is_pattern s) (reverse_exs acc (more_exs e no_exs)) fs) ts
end-list-keeps {t0 = t0} o j acc fs {ts = ts} s e x d =
    let k = j && is_pattern s in
    let es = reverse_exs acc (more_exs e no_exs) in
    by_elim (may_hold o k es) (λ r. Keeps t0 r ts) (Some (record { mode = operand_read false (plain_node o es); frames = fs }))
    (elim (may_quantify fs) [ true ↦ Some (record { mode = operand_read true (plain_node tuple_literal es); frames = items_frame sum_head [] no_gens no_exs ∷ fs }) | false ↦ None ])
    (λ h. list-ends x d h)
    (λ h. by_elim (may_quantify fs) (λ r. Keeps t0 r ts) (Some (record { mode = operand_read true (plain_node tuple_literal es); frames = items_frame sum_head [] no_gens no_exs ∷ fs })) None
    (λ q. let b = list-begun x in let n = not-held (is_sum o) k (are_several es) h in
    sum-pattern b.opening n.0 (subst (λ i. WholeList i b.base es b.us (symbol close_round ∷ ts)) n.1 (b.grow (is_pattern s) (more_exs e no_exs) (symbol close_round ∷ ts) (last_expression d))) n.2 b.context)
    (λ q. tt))

-- A round bracket behind an expression in brackets keeps it.
pub brackets-end : {t0 : List Token} {j w : Bool} {s : Shape} {l : ℕ} {e : Ex} {fs : List Frame} {us ts : List Token} →
    OperandContext t0 (list_frame round_list close_round j no_exs ∷ fs) us → Expression w s l e us (symbol close_round ∷ ts) → ReadAtom t0 fs false e ts
brackets-end (list_begun_before {ts = ts} opens_round c) d = record { us = symbol open_round ∷ ts; context = c; derivation = bracketed_atom d }

round-atom : {b : Bool} {base total : Exs} {vs us xs : List Token} → ListOpens round_list close_round base vs us → WholeList b base total us (symbol close_round ∷ xs) → are_several total ≡ true → Atom b (plain_node tuple_literal total) vs xs
round-atom {b = b} {vs = vs} {xs = xs} opens_round g h = subst (λ es. Atom b (plain_node tuple_literal es) vs xs) (sym g.is) (tuple-atom g.derivation (ap are_several (sym g.is) ∙ h))

-- A round bracket behind a tuple keeps it.
pub round-list-ends : {t0 : List Token} {j w : Bool} {s : Shape} {l : ℕ} {a e : Ex} {acc : Exs} {fs : List Frame} {us ts : List Token} →
    OperandContext t0 (list_frame round_list close_round j (more_exs a acc) ∷ fs) us → Expression w s l e us (symbol close_round ∷ ts) → ReadAtom t0 fs (j && is_pattern s) (plain_node tuple_literal (reverse_exs (more_exs a acc) (more_exs e no_exs))) ts
round-list-ends {s = s} {a = a} {e = e} {acc = acc} {ts = ts} x d =
    let b = list-begun x in
    record { us = b.vs; context = b.context; derivation = round-atom b.opening (b.grow (is_pattern s) (more_exs e no_exs) (symbol close_round ∷ ts) (last_expression d)) (several-reversed acc a e no_exs) }

index-domain-follows : {t0 : List Token} {b : Bool} {base total : Exs} {fs : List Frame} {vs us ts : List Token} → ListOpens (node_list matrix_literal) close_square base vs us → WholeList b base total us (symbol semicolon ∷ ts) → OperandContext t0 fs vs → DomainContext t0 (index_domain_frame total ∷ fs) ts
index-domain-follows {t0 = t0} {fs = fs} {ts = ts} (opens_literal opens_matrix) g c = subst (λ es. DomainContext t0 (index_domain_frame es ∷ fs) ts) (sym g.is) (semicolon_before g.derivation c)

-- A semicolon behind the items of a matrix keeps it.
pub semicolon-follows : {t0 : List Token} {j w : Bool} {s : Shape} {l : ℕ} {e : Ex} {acc : Exs} {fs : List Frame} {us ts : List Token} →
    OperandContext t0 (list_frame (node_list matrix_literal) close_square j acc ∷ fs) us → Expression w s l e us (symbol semicolon ∷ ts) → DomainContext t0 (index_domain_frame (reverse_exs acc (more_exs e no_exs)) ∷ fs) ts
semicolon-follows {s = s} {e = e} {ts = ts} x d = let b = list-begun x in index-domain-follows b.opening (b.grow (is_pattern s) (more_exs e no_exs) (symbol semicolon ∷ ts) (last_expression d)) b.context
