-- The printed tokens of a domain are derived, where those of its parts are.
use Rattle.std.proofs.Common.{◌≡◌, refl, sym, ap, ◌∙◌, subst, Bool, true, false, List, [], ◌∷◌}
use Rattle.ess_semantics.specs.declared.words.Op2.{Op2}
use Rattle.ess_semantics.specs.Values.{Text}
use Rattle.ess_semantics.specs.Trees.{Ends, one_value, both_ends, low_end, high_end, Mark, flag, valued, Exs, no_exs, more_exs, Dom, bool_dom, int_dom, name_dom, tuple_dom, record_dom, matrix_dom, set_dom, mset_dom, function_dom, relation_dom, partition_dom, Doms, no_doms, more_doms}
use Rattle.ess_grammar.specs.Words.{Token, word, operator, symbol, of_word, from_word, tuple_word, function_word, open_round, close_round, close_square, close_curly, comma, dots, maps_to}
use Rattle.ess_grammar.specs.Grammar.{starts_attributes, Domain, Domains, FieldDomains, MaybeAttributes, Attributes, Attribute, Ranges, Range, int_domain, ranges_domain, pair_domain, tuple_domain, record_domain, matrix_domain, set_domain, mset_domain, partition_domain, relation_domain, function_domain, plain_function_domain, last_domain, next_domain, last_field_domain, next_field_domain, no_attributes, some_attributes, last_attribute, next_attribute, flag_attribute, valued_attribute, last_range, next_range, value_range, both_range, low_range, high_range}
use Rattle.ess_grammar.specs.Readable.{some_doms, several_doms, fit_domains, fit_marks, fit_ranges, names_rise}
use Rattle.ess_grammar.proofs.RecordFields.{sorted-record-itself}
use Rattle.ess_print_laws.specs.Pieces.{Piece, space, Printer, reserved, sign, named, listed, tokens_of}
use Rattle.ess_print_laws.specs.TokenTexts.{key_text}
use Rattle.ess_print_laws.specs.Brackets.{begins_as_attributes}
use Rattle.ess_print_laws.specs.Parts.{comma_space, commas, times, worded}
use Rattle.ess_print_laws.specs.Expressions.{range_printers, mark_printers, attributes_pieces, field_domains, ex_pieces, operands, dom_pieces, domains}
use Rattle.ess_print_laws.proofs.NamesBack.{key-back}
use Rattle.ess_print_laws.proofs.Derived.{never, Each, DomDerived, EachDom}

-- ---- lists of printers

abbrev some_printers : List Printer → Bool
some_printers [] = false
some_printers (p ∷ ps) = true

listed-more : (between p : Printer) (ps : List Printer) (us : List Piece) → some_printers ps ≡ true → listed between (p ∷ ps) us ≡ p (between (listed between ps us))
listed-more between p [] us h = cc
listed-more between p (q ∷ ps) us h = refl

no-exs-left : (es : Exs) → fit_ranges [] es ≡ true → es ≡ no_exs
no-exs-left no_exs h = refl
no-exs-left (more_exs e es) h = cc

no-numbers-left : (es : Exs) → fit_marks [] es ≡ true → es ≡ no_exs
no-numbers-left no_exs h = refl
no-numbers-left (more_exs e es) h = cc

-- ---- ranges

-- The first range, with its printer and the bounds of those behind it.
record FirstRange (r : Ends) (rs : List Ends) (es : Exs) : Type 0 where
  bounds : Exs
  fit : fit_ranges rs bounds ≡ true
  each : Each bounds
  printer : Printer
  printers : range_printers (r ∷ rs) (operands es) ≡ printer ∷ range_printers rs (operands bounds)
  range : (us : List Piece) → Range r bounds es (tokens_of (printer us)) (tokens_of us)

first-range : (r : Ends) (rs : List Ends) (es : Exs) → fit_ranges (r ∷ rs) es ≡ true → Each es → FirstRange r rs es
first-range one_value rs no_exs h k = cc
first-range one_value rs (more_exs a es) h k = record { bounds = es; fit = h; each = k.2; printer = ex_pieces a; printers = refl; range = λ us. value_range (k.0.reads us).derivation }
first-range both_ends rs no_exs h k = cc
first-range both_ends rs (more_exs a no_exs) h k = cc
first-range both_ends rs (more_exs a (more_exs b es)) h k = record {
  bounds = es;
  fit = h;
  each = k.2.2;
  printer = λ us. ex_pieces a (sign dots ∷ ex_pieces b us);
  printers = refl;
  range = λ us. both_range (k.0.reads (sign dots ∷ ex_pieces b us)).derivation (k.2.0.reads us).derivation;
}
first-range low_end rs no_exs h k = cc
first-range low_end rs (more_exs a es) h k = record {
  bounds = es;
  fit = h;
  each = k.2;
  printer = λ us. ex_pieces a (sign dots ∷ us);
  printers = refl;
  range = λ us. low_range (k.0.reads (sign dots ∷ us)).derivation;
}
first-range high_end rs no_exs h k = cc
first-range high_end rs (more_exs a es) h k = record { bounds = es; fit = h; each = k.2; printer = λ us. sign dots ∷ ex_pieces a us; printers = refl; range = λ us. high_range (k.0.reads us).derivation }

some-ranges : (r : Ends) (rs : List Ends) (es : Exs) → fit_ranges (r ∷ rs) es ≡ true → Each es → some_printers (range_printers (r ∷ rs) (operands es)) ≡ true
some-ranges r rs es h k = ap some_printers (first-range r rs es h k).printers

last-range : (r : Ends) (es : Exs) → FirstRange r [] es → (us : List Piece) → Ranges (r ∷ []) es (tokens_of (commas (range_printers (r ∷ []) (operands es)) us)) (tokens_of us)
last-range r es f us =
    subst (λ ps. Ranges (r ∷ []) es (tokens_of (commas ps us)) (tokens_of us)) (sym f.printers)
    (subst (λ fs. Ranges (r ∷ []) es (tokens_of (commas (f.printer ∷ range_printers [] (operands fs)) us)) (tokens_of us)) (sym (no-exs-left f.bounds f.fit))
    (last_range (subst (λ fs. Range r fs es (tokens_of (f.printer us)) (tokens_of us)) (no-exs-left f.bounds f.fit) (f.range us))))

ranges-derived : (rs : List Ends) (r : Ends) (es : Exs) → fit_ranges (r ∷ rs) es ≡ true → Each es → (us : List Piece) →
    Ranges (r ∷ rs) es (tokens_of (commas (range_printers (r ∷ rs) (operands es)) us)) (tokens_of us)
ranges-derived [] r es h k us = last-range r es (first-range r [] es h k) us
ranges-derived (q ∷ rs) r es h k us =
    let f = first-range r (q ∷ rs) es h k in
    let ps = range_printers (q ∷ rs) (operands f.bounds) in
    subst (λ ts. Ranges (r ∷ q ∷ rs) es (tokens_of ts) (tokens_of us))
    (sym (ap (λ ps. commas ps us) f.printers ∙ listed-more comma_space f.printer ps us (some-ranges q rs f.bounds f.fit f.each)))
    (next_range (f.range (comma_space (commas ps us))) (ranges-derived rs q f.bounds f.fit f.each us))

pub int-derived : (rs : List Ends) (es : Exs) → fit_ranges rs es ≡ true → Each es → DomDerived (int_dom rs es)
int-derived [] es h k us = subst (λ fs. Domain (int_dom [] fs) (tokens_of (dom_pieces (int_dom [] fs) us)) (tokens_of us)) (sym (no-exs-left es h)) int_domain
int-derived (r ∷ rs) es h k us = ranges_domain (ranges-derived rs r es h k (sign close_round ∷ us))

-- ---- attributes

-- The first attribute, with its printer and the numbers of those behind it.
record FirstMark (m : Mark) (ms : List Mark) (es : Exs) : Type 0 where
  numbers : Exs
  fit : fit_marks ms numbers ≡ true
  each : Each numbers
  printer : Printer
  printers : mark_printers (m ∷ ms) (operands es) ≡ printer ∷ mark_printers ms (operands numbers)
  attribute : (us : List Piece) → Attribute m numbers es (tokens_of (printer us)) (tokens_of us)

first-mark : (m : Mark) (ms : List Mark) (es : Exs) → fit_marks (m ∷ ms) es ≡ true → Each es → FirstMark m ms es
first-mark (flag k) ms es h e = record { numbers = es; fit = h; each = e; printer = λ us. named (key_text k) ∷ us; printers = refl; attribute = λ us. flag_attribute (key-back k) }
first-mark (valued k) ms no_exs h e = cc
first-mark (valued k) ms (more_exs a es) h e = record {
  numbers = es;
  fit = h;
  each = e.2;
  printer = λ us. named (key_text k) ∷ space ∷ ex_pieces a us;
  printers = refl;
  attribute = λ us. valued_attribute (key-back k) (e.0.reads us).derivation;
}

some-marks : (m : Mark) (ms : List Mark) (es : Exs) → fit_marks (m ∷ ms) es ≡ true → Each es → some_printers (mark_printers (m ∷ ms) (operands es)) ≡ true
some-marks m ms es h k = ap some_printers (first-mark m ms es h k).printers

last-mark : (m : Mark) (es : Exs) → FirstMark m [] es → (us : List Piece) → Attributes (m ∷ []) es (tokens_of (commas (mark_printers (m ∷ []) (operands es)) us)) (tokens_of us)
last-mark m es f us =
    subst (λ ps. Attributes (m ∷ []) es (tokens_of (commas ps us)) (tokens_of us)) (sym f.printers)
    (subst (λ fs. Attributes (m ∷ []) es (tokens_of (commas (f.printer ∷ mark_printers [] (operands fs)) us)) (tokens_of us)) (sym (no-numbers-left f.numbers f.fit))
    (last_attribute (subst (λ fs. Attribute m fs es (tokens_of (f.printer us)) (tokens_of us)) (no-numbers-left f.numbers f.fit) (f.attribute us))))

marks-derived : (ms : List Mark) (m : Mark) (es : Exs) → fit_marks (m ∷ ms) es ≡ true → Each es → (us : List Piece) →
    Attributes (m ∷ ms) es (tokens_of (commas (mark_printers (m ∷ ms) (operands es)) us)) (tokens_of us)
marks-derived [] m es h k us = last-mark m es (first-mark m [] es h k) us
marks-derived (q ∷ ms) m es h k us =
    let f = first-mark m (q ∷ ms) es h k in
    let ps = mark_printers (q ∷ ms) (operands f.numbers) in
    subst (λ ts. Attributes (m ∷ q ∷ ms) es (tokens_of ts) (tokens_of us))
    (sym (ap (λ ps. commas ps us) f.printers ∙ listed-more comma_space f.printer ps us (some-marks q ms f.numbers f.fit f.each)))
    (next_attribute (f.attribute (comma_space (commas ps us))) (marks-derived ms q f.numbers f.fit f.each us))

attributes-derived : (ms : List Mark) (es : Exs) → fit_marks ms es ≡ true → Each es → (us : List Piece) →
    MaybeAttributes ms es (tokens_of (attributes_pieces ms (operands es) us)) (tokens_of us)
attributes-derived [] es h k us = subst (λ fs. MaybeAttributes [] fs (tokens_of us) (tokens_of us)) (sym (no-numbers-left es h)) no_attributes
attributes-derived (m ∷ ms) es h k us = some_attributes (marks-derived ms m es h k (sign close_round ∷ us))

-- ---- lists of domains

list-derived : (d : Dom) (ds : Doms) → DomDerived d → EachDom ds → (us : List Piece) → Domains (symbol comma) (more_doms d ds) (tokens_of (commas (domains (more_doms d ds)) us)) (tokens_of us)
list-derived d no_doms k ks us = last_domain (k us)
list-derived d (more_doms c ds) k ks us = next_domain (k (comma_space (commas (domains (more_doms c ds)) us))) (list-derived c ds ks.0 ks.1 us)

product-derived : (d : Dom) (ds : Doms) → DomDerived d → EachDom ds → (us : List Piece) →
    Domains (operator Op2.Times) (more_doms d ds) (tokens_of (listed times (domains (more_doms d ds)) us)) (tokens_of us)
product-derived d no_doms k ks us = last_domain (k us)
product-derived d (more_doms c ds) k ks us = next_domain (k (times (listed times (domains (more_doms c ds)) us))) (product-derived c ds ks.0 ks.1 us)

fields-derived : (a : Text) (ns : List Text) (d : Dom) (ds : Doms) → fit_domains ns ds ≡ true → DomDerived d → EachDom ds → (us : List Piece) →
    FieldDomains (a ∷ ns) (more_doms d ds) (tokens_of (commas (field_domains (a ∷ ns) (domains (more_doms d ds))) us)) (tokens_of us)
fields-derived a [] d no_doms h k ks us = last_field_domain (k us)
fields-derived a [] d (more_doms c ds) h k ks us = cc
fields-derived a (b ∷ ns) d no_doms h k ks us = cc
fields-derived a (b ∷ ns) d (more_doms c ds) h k ks us =
    next_field_domain (k (comma_space (commas (field_domains (b ∷ ns) (domains (more_doms c ds))) us))) (fields-derived b ns c ds h ks.0 ks.1 us)

-- ---- each kind

pub tuple-derived : (ds : Doms) → some_doms ds ≡ true → EachDom ds → DomDerived (tuple_dom ds)
tuple-derived no_doms h k us = cc
tuple-derived (more_doms d no_doms) h k us = tuple_domain (last_domain (k.0 (sign close_round ∷ us)))
tuple-derived (more_doms d (more_doms c ds)) h k us =
    pair_domain (k.0 (comma_space (commas (domains (more_doms c ds)) (sign close_round ∷ us)))) (list-derived c ds k.1.0 k.1.1 (sign close_round ∷ us))

fields-of : (ns : List Text) (ds : Doms) → some_doms ds ≡ true → fit_domains ns ds ≡ true → EachDom ds → (us : List Piece) →
    FieldDomains ns ds (tokens_of (commas (field_domains ns (domains ds)) us)) (tokens_of us)
fields-of ns no_doms s h k us = cc
fields-of [] (more_doms d ds) s h k us = cc
fields-of (a ∷ ns) (more_doms d ds) s h k us = fields-derived a ns d ds h k.0 k.1 us

pub record-derived : (ns : List Text) (ds : Doms) → some_doms ds ≡ true → fit_domains ns ds ≡ true → names_rise ns ≡ true → EachDom ds → DomDerived (record_dom ns ds)
record-derived ns ds s h r k us =
    subst (λ d. Domain d (tokens_of (dom_pieces (record_dom ns ds) us)) (tokens_of us)) (sorted-record-itself ns ds h r) (record_domain (fields-of ns ds s h k (sign close_curly ∷ us)))

pub matrix-derived : (ds : Doms) (d : Dom) → some_doms ds ≡ true → EachDom ds → DomDerived d → DomDerived (matrix_dom ds d)
matrix-derived no_doms d h ks k us = cc
matrix-derived (more_doms c ds) d h ks k us = matrix_domain (list-derived c ds ks.0 ks.1 (sign close_square ∷ space ∷ reserved of_word ∷ space ∷ dom_pieces d us)) (k us)

pub set-derived : (ms : List Mark) (es : Exs) (d : Dom) → fit_marks ms es ≡ true → Each es → DomDerived d → DomDerived (set_dom ms es d)
set-derived ms es d h e k us = set_domain (attributes-derived ms es h e (space ∷ reserved of_word ∷ space ∷ dom_pieces d us)) (k us)

pub mset-derived : (ms : List Mark) (es : Exs) (d : Dom) → fit_marks ms es ≡ true → Each es → DomDerived d → DomDerived (mset_dom ms es d)
mset-derived ms es d h e k us = mset_domain (attributes-derived ms es h e (space ∷ reserved of_word ∷ space ∷ dom_pieces d us)) (k us)

pub partition-derived : (ms : List Mark) (es : Exs) (d : Dom) → fit_marks ms es ≡ true → Each es → DomDerived d → DomDerived (partition_dom ms es d)
partition-derived ms es d h e k us = partition_domain (attributes-derived ms es h e (space ∷ reserved from_word ∷ space ∷ dom_pieces d us)) (k us)

pub relation-derived : (ms : List Mark) (es : Exs) (ds : Doms) → fit_marks ms es ≡ true → several_doms ds ≡ true → Each es → EachDom ds → DomDerived (relation_dom ms es ds)
relation-derived ms es no_doms h s e k us = cc
relation-derived ms es (more_doms d no_doms) h s e k us = cc
relation-derived ms es (more_doms d (more_doms c ds)) h s e k us =
    relation_domain (attributes-derived ms es h e _) (k.0 (times (listed times (domains (more_doms c ds)) (sign close_round ∷ us)))) (product-derived c ds k.1.0 k.1.1 (sign close_round ∷ us))

-- ---- functions

-- A tuple of two or more may have its word.
with-word : {d : Dom} {ds : Doms} {ts us : List Token} → Domain (tuple_dom (more_doms d ds)) (symbol open_round ∷ ts) us → Domain (tuple_dom (more_doms d ds)) (word tuple_word ∷ symbol open_round ∷ ts) us
with-word (pair_domain k ks) = tuple_domain (next_domain k ks)

argument-worded : (c : Dom) → begins_as_attributes c ≡ true → DomDerived c → (us : List Piece) → Domain c (word tuple_word ∷ tokens_of (dom_pieces c us)) (tokens_of us)
argument-worded (tuple_dom no_doms) h k us = never h
argument-worded (tuple_dom (more_doms d no_doms)) h k us = never h
argument-worded (tuple_dom (more_doms d (more_doms c ds))) h k us = with-word (k us)
argument-worded bool_dom h k us = never h
argument-worded (int_dom rs es) h k us = never h
argument-worded (name_dom a) h k us = never h
argument-worded (record_dom ns ds) h k us = never h
argument-worded (matrix_dom ds d) h k us = never h
argument-worded (set_dom ms es d) h k us = never h
argument-worded (mset_dom ms es d) h k us = never h
argument-worded (function_dom ms es c d) h k us = never h
argument-worded (relation_dom ms es ds) h k us = never h
argument-worded (partition_dom ms es d) h k us = never h

starts-name : (d c : Dom) (ds : Doms) (us : List Piece) → begins_as_attributes (tuple_dom (more_doms d (more_doms c ds))) ≡ false →
    starts_attributes (symbol open_round ∷ tokens_of (dom_pieces d us)) ≡ false
starts-name (name_dom a) c ds us h = h
starts-name bool_dom c ds us h = refl
starts-name (int_dom rs es) c ds us h = refl
starts-name (tuple_dom no_doms) c ds us h = refl
starts-name (tuple_dom (more_doms e no_doms)) c ds us h = refl
starts-name (tuple_dom (more_doms e (more_doms f gs))) c ds us h = refl
starts-name (record_dom ns es) c ds us h = refl
starts-name (matrix_dom es d) c ds us h = refl
starts-name (set_dom ms es d) c ds us h = refl
starts-name (mset_dom ms es d) c ds us h = refl
starts-name (function_dom ms es e d) c ds us h = refl
starts-name (relation_dom ms es fs) c ds us h = refl
starts-name (partition_dom ms es d) c ds us h = refl

starts-no-attributes : (c : Dom) (us : List Piece) → begins_as_attributes c ≡ false → starts_attributes (tokens_of (dom_pieces c us)) ≡ false
starts-no-attributes (tuple_dom no_doms) us h = refl
starts-no-attributes (tuple_dom (more_doms d no_doms)) us h = refl
starts-no-attributes (tuple_dom (more_doms d (more_doms c ds))) us h = starts-name d c ds (comma_space (commas (domains (more_doms c ds)) (sign close_round ∷ us))) h
starts-no-attributes bool_dom us h = refl
starts-no-attributes (int_dom rs es) us h = refl
starts-no-attributes (name_dom a) us h = refl
starts-no-attributes (record_dom ns ds) us h = refl
starts-no-attributes (matrix_dom ds d) us h = refl
starts-no-attributes (set_dom ms es d) us h = refl
starts-no-attributes (mset_dom ms es d) us h = refl
starts-no-attributes (function_dom ms es c d) us h = refl
starts-no-attributes (relation_dom ms es ds) us h = refl
starts-no-attributes (partition_dom ms es d) us h = refl

plain-function : (c d : Dom) → DomDerived c → DomDerived d → (us : List Piece) → Domain (function_dom [] no_exs c d) (tokens_of (dom_pieces (function_dom [] no_exs c d) us)) (tokens_of us)
plain-function c d k g us = go (begins_as_attributes c) refl
  where
    go : (b : Bool) → begins_as_attributes c ≡ b → Domain (function_dom [] no_exs c d) (word function_word ∷ tokens_of (worded b (dom_pieces c) (space ∷ sign maps_to ∷ space ∷ dom_pieces d us))) (tokens_of us)
    go true h = plain_function_domain refl (argument-worded c h k (space ∷ sign maps_to ∷ space ∷ dom_pieces d us)) (g us)
    go false h = plain_function_domain (starts-no-attributes c (space ∷ sign maps_to ∷ space ∷ dom_pieces d us) h) (k (space ∷ sign maps_to ∷ space ∷ dom_pieces d us)) (g us)

pub function-derived : (ms : List Mark) (es : Exs) (c d : Dom) → fit_marks ms es ≡ true → Each es → DomDerived c → DomDerived d → DomDerived (function_dom ms es c d)
function-derived [] es c d h e k g us =
    subst (λ fs. Domain (function_dom [] fs c d) (tokens_of (dom_pieces (function_dom [] fs c d) us)) (tokens_of us)) (sym (no-numbers-left es h)) (plain-function c d k g us)
function-derived (m ∷ ms) es c d h e k g us =
    let rest = space ∷ sign maps_to ∷ space ∷ dom_pieces d us in
    function_domain (marks-derived ms m es h e (sign close_round ∷ space ∷ dom_pieces c rest)) (k rest) (g us)
