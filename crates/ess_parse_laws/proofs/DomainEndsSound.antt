-- What a token does behind a domain keeps the invariant.
use Rattle.std.proofs.Common.{Bool, List, None, [], false, refl, subst, sym, true, ◌∷◌, ◌≡◌}
use Rattle.ess_semantics.specs.declared.words.Op2.{Op2}
use Rattle.ess_semantics.specs.Trees.{Dom, Doms, Exs, Mark, let_dom, more_doms, no_doms, relation_dom, tuple_dom}
use Rattle.ess_grammar.specs.Grammar.{Domain, Domains, MaybeAttributes, last_domain, last_field_domain, matrix_atom, next_domain, next_field_domain, pair_domain, record_domain, relation_domain, tuple_domain}
use Rattle.ess_grammar.specs.Words.{Token, close_curly, close_round, close_square, comma, dot, maps_to, of_word, open_curly, open_round, open_square, operator, record_word, relation_word, symbol, tuple_word, word}
use Rattle.ess_grammar.specs.Statements.{domain_letting_part}
use Rattle.ess_parse_laws.proofs.Contexts.{DomainContext, PartsMayBegin, StatementsMayBegin, axes_before, axes_closed_before, colon_before, declaring_word, domain_word_before, field_domains_before, field_name_before, function_arrow_before, function_word_before, names_before, relation_word_before, semicolon_before, tuple_before}
use Rattle.ess_parse_laws.proofs.ReducingSound.{DomainReduced}
use Rattle.ess_parse_laws.specs.Frames.{Frame, axes_frame, comprehension_head, declaration_frame, field_domain_frame, function_from_frame, generator_domain_frame, index_domain_frame, letting_domain_frame, quantifier_head, relation_domains_frame, tuple_domains_frame}
use Rattle.ess_parse_laws.proofs.Invariant.{Keeps, StatedBy, begin-after-keeps}
use Rattle.ess_parse_laws.specs.Modes.{State, domain_read}
use Rattle.ess_parse_laws.proofs.ItemsSound.{comprehension-ends, domain-last, domain-next, quantifier-items-end}
use Rattle.ess_parse_laws.specs.StatementEnds.{declared}
use Rattle.ess_parse_laws.proofs.StatementContexts.{declared-part, first_name_wanted, part-ends, part-goes-on}
use Rattle.ess_parse_laws.specs.AfterDomains.{domain_then, reduced_domain_then}
use Rattle.ess_parse_laws.specs.Reversed.{reverse_doms}

-- Whether there are two or more.
abbrev are_several_doms : Doms → Bool
are_several_doms (more_doms c (more_doms d ds)) = true
are_several_doms _ = false

several-doms-reversed : (acc : Doms) (c d : Dom) (ds : Doms) → are_several_doms (reverse_doms acc (more_doms c (more_doms d ds))) ≡ true
several-doms-reversed no_doms c d ds = refl
several-doms-reversed (more_doms e acc) c d ds = several-doms-reversed acc e c (more_doms d ds)

pair-domain-ends : {ds : Doms} {ts us : List Token} → Domains (symbol comma) ds ts (symbol close_round ∷ us) → are_several_doms ds ≡ true → Domain (tuple_dom ds) (symbol open_round ∷ ts) us
pair-domain-ends (last_domain d) h = cc
pair-domain-ends (next_domain d ds) h = pair_domain d ds

relation-domain-ends : {ms : List Mark} {es : Exs} {ds : Doms} {vs ts us : List Token} → MaybeAttributes ms es vs (word of_word ∷ symbol open_round ∷ ts) →
    Domains (operator Op2.Times) ds ts (symbol close_round ∷ us) → are_several_doms ds ≡ true → Domain (relation_dom ms es ds) (word relation_word ∷ vs) us
relation-domain-ends as' (last_domain d) h = cc
relation-domain-ends as' (next_domain d ds) h = relation_domain as' d ds

-- A domain that ends statements derives them.
pub declared-keeps : {t0 : List Token} (fs : List Frame) (d : Dom) (us ts : List Token) → DomainContext t0 fs us → Domain d us ts → StatedBy t0 (declared fs d) ts
declared-keeps {t0 = t0} (declaration_frame g ns ss ∷ fs) d us ts (names_before a p) k =
    let q = declared-part g ns d ss a k in subst (λ ss. StatementsMayBegin t0 ss ts) q.2 (part-ends ss q.0 p q.1)
declared-keeps (letting_domain_frame a ss ∷ fs) d us ts (domain_word_before p) k = part-ends ss (let_dom a d ∷ []) p (domain_letting_part k)
declared-keeps _ d us ts x k = tt

domain-then-keeps : {t0 : List Token} (t : Token) (fs : List Frame) (d : Dom) (us ts : List Token) → DomainContext t0 fs us → Domain d us (t ∷ ts) → Keeps t0 (domain_then t fs d) ts
domain-then-keeps (symbol comma) (generator_domain_frame h bs acc ps ∷ fs) d us ts x k = domain-next x k
domain-then-keeps (symbol comma) (axes_frame ds ∷ fs) d us ts (axes_before p c) k = axes_before (λ es xs ks. p (more_doms d es) xs (next_domain k ks)) c
domain-then-keeps (symbol comma) (tuple_domains_frame b ds ∷ fs) d us ts (tuple_before p c) k = tuple_before (λ es xs ks. p (more_doms d es) xs (next_domain k ks)) c
domain-then-keeps (symbol comma) (field_domain_frame (a ∷ ns) ds ∷ fs) d us ts (field_name_before p c) k = field_domains_before (λ ms es xs ks. p (a ∷ ms) (more_doms d es) xs (next_field_domain k ks)) c
domain-then-keeps (symbol comma) (field_domain_frame [] ds ∷ fs) d us ts x k = elim x [ ]
domain-then-keeps {t0 = t0} (symbol comma) (declaration_frame g ns ss ∷ fs) d us ts (names_before a p) k =
    let q = declared-part g ns d ss a k in first_name_wanted (subst (λ ss. PartsMayBegin t0 (declaring_word g) ss ts) q.2 (part-goes-on ss q.0 p q.1))
domain-then-keeps (symbol comma) (letting_domain_frame a ss ∷ fs) d us ts (domain_word_before p) k = part-goes-on ss (let_dom a d ∷ []) p (domain_letting_part k)
domain-then-keeps (symbol close_round) (tuple_domains_frame false ds ∷ fs) d us ts (tuple_before {us = vs} p c) k =
    record { us = word tuple_word ∷ symbol open_round ∷ vs; context = c; derivation = tuple_domain (p (more_doms d no_doms) (symbol close_round ∷ ts) (last_domain k)) }
domain-then-keeps (symbol close_round) (tuple_domains_frame true (more_doms e ds) ∷ fs) d us ts (tuple_before {us = vs} p c) k =
    record { us = symbol open_round ∷ vs; context = c; derivation = pair-domain-ends (p (more_doms d no_doms) (symbol close_round ∷ ts) (last_domain k)) (several-doms-reversed ds e d no_doms) }
domain-then-keeps (symbol close_round) (relation_domains_frame ms es (more_doms e ds) ∷ fs) d us ts (relation_word_before {us = vs} as' p c) k =
    record { us = word relation_word ∷ vs; context = c; derivation = relation-domain-ends as' (p (more_doms d no_doms) (symbol close_round ∷ ts) (last_domain k)) (several-doms-reversed ds e d no_doms) }
domain-then-keeps (symbol close_curly) (field_domain_frame (a ∷ ns) ds ∷ fs) d us ts (field_name_before {us = vs} p c) k =
    record { us = word record_word ∷ symbol open_curly ∷ vs; context = c; derivation = record_domain (p (a ∷ []) (more_doms d no_doms) (symbol close_curly ∷ ts) (last_field_domain k)) }
domain-then-keeps (symbol close_curly) (field_domain_frame [] ds ∷ fs) d us ts x k = elim x [ ]
domain-then-keeps (symbol maps_to) (function_from_frame ms es ∷ fs) d us ts (function_word_before b c) k = function_arrow_before b k c
domain-then-keeps (operator Op2.Times) (relation_domains_frame ms es ds ∷ fs) d us ts (relation_word_before as' p c) k = relation_word_before as' (λ es' xs ks. p (more_doms d es') xs (next_domain k ks)) c
domain-then-keeps {t0 = t0} (word w) fs d us ts x k = begin-after-keeps t0 ts w (declared fs d) (declared-keeps fs d us (word w ∷ ts) x k)
domain-then-keeps (symbol dot) (generator_domain_frame (quantifier_head f) bs acc ps ∷ fs) d us ts (colon_before z b es hc) k = quantifier-items-end z hc (domain-last bs acc b es k)
domain-then-keeps (symbol close_square) (generator_domain_frame (comprehension_head y) bs acc ps ∷ fs) d us ts (colon_before z b es hc) k = comprehension-ends z hc (domain-last bs acc b es k)
domain-then-keeps (symbol close_square) (index_domain_frame es ∷ fs) d us ts (semicolon_before {us = vs} ds c) k = record { us = symbol open_square ∷ vs; context = c; derivation = matrix_atom ds k }
domain-then-keeps (symbol close_square) (axes_frame ds ∷ fs) d us ts (axes_before p c) k = axes_closed_before (p (more_doms d no_doms) (symbol close_square ∷ ts) (last_domain k)) c
domain-then-keeps _ fs d us ts x k = tt

-- What a token does behind a reduced domain keeps the invariant.
pub reduced-domain-then-keeps : {t0 : List Token} (t : Token) (ts : List Token) (r : State) → DomainReduced t0 r (t ∷ ts) → Keeps t0 (reduced_domain_then t r) ts
reduced-domain-then-keeps {t0 = t0} t ts r g =
    subst (λ m. Keeps t0 (elim m [ domain_read d ↦ domain_then t r.frames d | _ ↦ None ]) ts) (sym g.is) (domain-then-keeps t r.frames g.d (g.read).us ts (g.read).context (g.read).derivation)
