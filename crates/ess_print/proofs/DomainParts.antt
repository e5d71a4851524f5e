-- How a domain is printed from its parts, variant by variant.
use Rattle.std.proofs.Common.{◌≡◌, refl, sym, ap, ◌∙◌, subst, Bool, true, false, List, [], ◌∷◌, ◌++◌, map, length, codes}
use Rattle.ess_semantics.specs.Values.{Text}
use Rattle.ess_semantics.specs.Trees as pure
use Rattle.ess_semantics.specs.Trees.{Mark, matrix_dom, set_dom, mset_dom, function_dom, relation_dom, partition_dom}
use Rattle.ess_grammar.specs.Words.{int_word, matrix_word, indexed_word, by_word, set_word, of_word, mset_word, function_word, relation_word, partition_word, from_word, record_word, tuple_word, open_round, close_round, open_square, close_square, open_curly, close_curly, maps_to}
use Rattle.ess_print_laws.specs.Pieces.{Piece, space, Printer, sign, reserved, listed}
use Rattle.ess_print_laws.specs.Parts.{commas, times, worded, tuple_pieces}
use Rattle.ess_print_laws.specs.Brackets.{begins_as_attributes}
use Rattle.ess_print_laws.specs.Expressions.{dom_pieces, argument_pieces}
use Rattle.ess_core.specs.TreeViews.{words_of, within, exs_of, pure_dom, pure_doms, pure_attr, pure_range}
use Rattle.ess_core.specs.declared.domains.Dom.{Dom}
use Rattle.ess_core.specs.declared.domains.Dom.TheVariants as variant
use Rattle.ess_core.specs.declared.domains.Attr.{Attr}
use Rattle.ess_core.specs.declared.domains.Range.{Range}
use Rattle.ess_core.specs.declared.domains.FieldDom.{FieldDom}
use Rattle.ess_core.proofs.DomainEquations.{pure_matrix, pure_set, pure_mset, pure_function, pure_relation, pure_partition}
use Rattle.ess_print.specs.Written.{Puts, tuple_opening, int_pieces, record_dom_pieces, argument_opening, attrs_pieces}
use Rattle.ess_print.proofs.Writing.{puts-pieces, puts-text, puts-then, puts-as, puts-at}
use Rattle.ess_print.proofs.Items.{doms_printers, field_doms_printers, ranges_printers, attrs_printers}

-- a domain x, of which the variant y has the tree d
dom-as : {a b : Text} {p : Printer} {x y : Dom} (d : pure.Dom) → x ≡ y → pure_dom y ≡ d → ((us : List Piece) → p us ≡ dom_pieces d us) → Puts a b p → Puts a b (dom_pieces (pure_dom x))
dom-as {a} {b} {p} {x} {y} d is view same h =
    let P : pure.Dom → Type 0 = λ q. Puts a b (dom_pieces q) in
    subst P (sym (ap pure_dom is ∙ view)) (puts-as (dom_pieces d) same h)

-- a part that equals another
dom-at : {a b : Text} {x y : Dom} → x ≡ y → Puts a b (dom_pieces (pure_dom x)) → Puts a b (dom_pieces (pure_dom y))
dom-at e h = puts-at (λ x. dom_pieces (pure_dom x)) e h

-- ---- ranges and attributes

some-ranges : (rs : List Range) {a b : Text} → (rs ≡ [] → ⊥) → Puts a b (λ us. reserved int_word ∷ sign open_round ∷ commas (ranges_printers rs) (sign close_round ∷ us)) → Puts a b (int_pieces rs)
some-ranges [] n h = absurd (n refl)
some-ranges (r ∷ rs) n h = h

pub int-put : {rs : List Range} {t0 t1 t2 t3 t4 : Text} → (rs ≡ [] → ⊥) → t1 ≡ t0 ++ codes "int" → t2 ≡ t1 ++ codes "(" → Puts t2 t3 (commas (ranges_printers rs)) → t4 ≡ t3 ++ codes ")" →
    Puts t0 t4 (int_pieces rs)
int-put {rs} n f g h c =
    some-ranges rs n (puts-then (puts-pieces (reserved int_word ∷ []) f) (puts-then (puts-pieces (sign open_round ∷ []) g) (puts-then h (puts-pieces (sign close_round ∷ []) c))))

some-attrs : (ms : List Attr) {a b : Text} → (ms ≡ [] → ⊥) → Puts a b (λ us. space ∷ sign open_round ∷ commas (attrs_printers ms) (sign close_round ∷ us)) → Puts a b (attrs_pieces ms)
some-attrs [] n h = absurd (n refl)
some-attrs (m ∷ ms) n h = h

pub attrs-put : {ms : List Attr} {t0 t1 t2 t3 : Text} → (ms ≡ [] → ⊥) → t1 ≡ t0 ++ codes " (" → Puts t1 t2 (commas (attrs_printers ms)) → t3 ≡ t2 ++ codes ")" → Puts t0 t3 (attrs_pieces ms)
attrs-put {ms} n f h c = some-attrs ms n (puts-then (puts-pieces (space ∷ sign open_round ∷ []) f) (puts-then h (puts-pieces (sign close_round ∷ []) c)))

-- ---- tuples, records and matrices

pub tuple-put : (ds : List Dom) {a b c d s : Text} → s ≡ tuple_opening (length ds) → b ≡ a ++ s → Puts b c (commas (doms_printers ds)) → d ≡ c ++ codes ")" → Puts a d (tuple_pieces (doms_printers ds))
tuple-put [] k f h g =
    puts-as (tuple_pieces (doms_printers [])) (λ us. refl) (puts-then (puts-text (sign open_round ∷ []) f k) (puts-then h (puts-pieces (sign close_round ∷ []) g)))
tuple-put (x ∷ []) k f h g =
    puts-as (tuple_pieces (doms_printers (x ∷ []))) (λ us. refl)
    (puts-then (puts-text (reserved tuple_word ∷ space ∷ sign open_round ∷ []) f k) (puts-then h (puts-pieces (sign close_round ∷ []) g)))
tuple-put (x ∷ y ∷ ds) k f h g =
    puts-as (tuple_pieces (doms_printers (x ∷ y ∷ ds))) (λ us. refl) (puts-then (puts-text (sign open_round ∷ []) f k) (puts-then h (puts-pieces (sign close_round ∷ []) g)))

pub record-put : (fs : List FieldDom) {t0 t1 t2 t3 : Text} → t1 ≡ t0 ++ codes "record {" → Puts t1 t2 (commas (field_doms_printers fs)) → t3 ≡ t2 ++ codes "}" → Puts t0 t3 (record_dom_pieces fs)
record-put fs f h g =
    puts-as (record_dom_pieces fs) (λ us. refl) (puts-then (puts-pieces (reserved record_word ∷ space ∷ sign open_curly ∷ []) f) (puts-then h (puts-pieces (sign close_curly ∷ []) g)))

pub matrix-put : {x d d' : Dom} {ds ds' : List Dom} {t0 t1 t2 t3 t4 : Text} → x ≡ variant.Matrix ds d → t1 ≡ t0 ++ codes "matrix indexed by [" → ds' ≡ ds →
    Puts t1 t2 (commas (doms_printers ds')) → t3 ≡ t2 ++ codes "] of " → d' ≡ d → Puts t3 t4 (dom_pieces (pure_dom d')) → Puts t0 t4 (dom_pieces (pure_dom x))
matrix-put {x} {d} {d'} {ds} is f e h g k i =
    dom-as (matrix_dom (pure_doms ds) (pure_dom d)) is (pure_matrix ds d) (λ us. refl)
    (puts-then (puts-pieces (reserved matrix_word ∷ space ∷ reserved indexed_word ∷ space ∷ reserved by_word ∷ space ∷ sign open_square ∷ []) f)
    (puts-then (puts-at (λ ys. commas (doms_printers ys)) e h) (puts-then (puts-pieces (sign close_square ∷ space ∷ reserved of_word ∷ space ∷ []) g) (dom-at k i))))

-- ---- sets, multisets, partitions, functions and relations

pub set-put : {x d d' : Dom} {ms ms' : List Attr} {t0 t1 t2 t3 t4 : Text} → x ≡ variant.Set ms d → t1 ≡ t0 ++ codes "set" → ms' ≡ ms → Puts t1 t2 (attrs_pieces ms') →
    t3 ≡ t2 ++ codes " of " → d' ≡ d → Puts t3 t4 (dom_pieces (pure_dom d')) → Puts t0 t4 (dom_pieces (pure_dom x))
set-put {x} {d} {d'} {ms} is f e h g k i =
    dom-as (set_dom (words_of (map pure_attr ms)) (exs_of (within (map pure_attr ms))) (pure_dom d)) is (pure_set ms d) (λ us. refl)
    (puts-then (puts-pieces (reserved set_word ∷ []) f) (puts-then (puts-at attrs_pieces e h) (puts-then (puts-pieces (space ∷ reserved of_word ∷ space ∷ []) g) (dom-at k i))))

pub mset-put : {x d d' : Dom} {ms ms' : List Attr} {t0 t1 t2 t3 t4 : Text} → x ≡ variant.MSet ms d → t1 ≡ t0 ++ codes "mset" → ms' ≡ ms → Puts t1 t2 (attrs_pieces ms') →
    t3 ≡ t2 ++ codes " of " → d' ≡ d → Puts t3 t4 (dom_pieces (pure_dom d')) → Puts t0 t4 (dom_pieces (pure_dom x))
mset-put {x} {d} {d'} {ms} is f e h g k i =
    dom-as (mset_dom (words_of (map pure_attr ms)) (exs_of (within (map pure_attr ms))) (pure_dom d)) is (pure_mset ms d) (λ us. refl)
    (puts-then (puts-pieces (reserved mset_word ∷ []) f) (puts-then (puts-at attrs_pieces e h) (puts-then (puts-pieces (space ∷ reserved of_word ∷ space ∷ []) g) (dom-at k i))))

pub partition-put : {x d d' : Dom} {ms ms' : List Attr} {t0 t1 t2 t3 t4 : Text} → x ≡ variant.Partition ms d → t1 ≡ t0 ++ codes "partition" → ms' ≡ ms → Puts t1 t2 (attrs_pieces ms') →
    t3 ≡ t2 ++ codes " from " → d' ≡ d → Puts t3 t4 (dom_pieces (pure_dom d')) → Puts t0 t4 (dom_pieces (pure_dom x))
partition-put {x} {d} {d'} {ms} is f e h g k i =
    dom-as (partition_dom (words_of (map pure_attr ms)) (exs_of (within (map pure_attr ms))) (pure_dom d)) is (pure_partition ms d) (λ us. refl)
    (puts-then (puts-pieces (reserved partition_word ∷ []) f) (puts-then (puts-at attrs_pieces e h) (puts-then (puts-pieces (space ∷ reserved from_word ∷ space ∷ []) g) (dom-at k i))))

pub relation-put : {x : Dom} {ms ms' : List Attr} {ds ds' : List Dom} {t0 t1 t2 t3 t4 t5 : Text} → x ≡ variant.Relation ms ds → t1 ≡ t0 ++ codes "relation" → ms' ≡ ms → Puts t1 t2 (attrs_pieces ms') →
    t3 ≡ t2 ++ codes " of (" → ds' ≡ ds → Puts t3 t4 (listed times (doms_printers ds')) → t5 ≡ t4 ++ codes ")" → Puts t0 t5 (dom_pieces (pure_dom x))
relation-put {x} {ms} {ms'} {ds} is f e h g k i c =
    dom-as (relation_dom (words_of (map pure_attr ms)) (exs_of (within (map pure_attr ms))) (pure_doms ds)) is (pure_relation ms ds) (λ us. refl)
    (puts-then (puts-pieces (reserved relation_word ∷ []) f)
    (puts-then (puts-at attrs_pieces e h)
    (puts-then (puts-pieces (space ∷ reserved of_word ∷ space ∷ sign open_round ∷ []) g)
    (puts-then (puts-at (λ ys. listed times (doms_printers ys)) k i) (puts-pieces (sign close_round ∷ []) c)))))

word-or-none : (b : Bool) (p : Printer) {a t u s : Text} → s ≡ elim b [ true ↦ codes " tuple " | false ↦ codes " " ] → t ≡ a ++ s → Puts t u p → Puts a u (λ us. space ∷ worded b p us)
word-or-none true p k f h = puts-as (λ us. space ∷ worded true p us) (λ us. refl) (puts-then (puts-text (space ∷ reserved tuple_word ∷ space ∷ []) f k) h)
word-or-none false p k f h = puts-as (λ us. space ∷ worded false p us) (λ us. refl) (puts-then (puts-text (space ∷ []) f k) h)

-- the first domain of a function behind its attributes
argument-put : (ms : List Mark) (c : pure.Dom) {a t u s : Text} → s ≡ argument_opening ms c → t ≡ a ++ s → Puts t u (dom_pieces c) → Puts a u (λ us. space ∷ argument_pieces ms c (dom_pieces c) us)
argument-put [] c k f h = puts-as (λ us. space ∷ argument_pieces [] c (dom_pieces c) us) (λ us. refl) (word-or-none (begins_as_attributes c) (dom_pieces c) k f h)
argument-put (m ∷ ms) c k f h = puts-as (λ us. space ∷ argument_pieces (m ∷ ms) c (dom_pieces c) us) (λ us. refl) (puts-then (puts-text (space ∷ []) f k) h)

pub function-put : {x c c' c'' d d' : Dom} {ms ms' ms'' : List Attr} {t0 t1 t2 t3 t4 t5 t6 s : Text} → x ≡ variant.Function ms c d → t1 ≡ t0 ++ codes "function" → ms' ≡ ms → Puts t1 t2 (attrs_pieces ms') →
    ms'' ≡ ms → c'' ≡ c → s ≡ argument_opening (words_of (map pure_attr ms'')) (pure_dom c'') → t3 ≡ t2 ++ s → c' ≡ c → Puts t3 t4 (dom_pieces (pure_dom c')) → t5 ≡ t4 ++ codes " --> " →
    d' ≡ d → Puts t5 t6 (dom_pieces (pure_dom d')) → Puts t0 t6 (dom_pieces (pure_dom x))
function-put {x} {c} {c'} {c''} {d} {d'} {ms} is f e h em ec k w l i g m j =
    dom-as (function_dom (words_of (map pure_attr ms)) (exs_of (within (map pure_attr ms))) (pure_dom c) (pure_dom d)) is (pure_function ms c d) (λ us. refl)
    (puts-then (puts-pieces (reserved function_word ∷ []) f)
    (puts-then (puts-at attrs_pieces e h)
    (puts-then (argument-put (words_of (map pure_attr ms)) (pure_dom c) (k ∙ ap (λ ys. argument_opening (words_of (map pure_attr ys)) (pure_dom c'')) em ∙ ap (λ y. argument_opening (words_of (map pure_attr ms)) (pure_dom y)) ec) w (dom-at l i))
    (puts-then (puts-pieces (space ∷ sign maps_to ∷ space ∷ []) g) (dom-at m j)))))
