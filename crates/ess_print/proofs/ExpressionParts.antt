-- How an expression is printed from its parts, variant by variant.
use Rattle.std.proofs.Common.{◌≡◌, refl, sym, ap, ◌∙◌, subst, ℕ, Bool, true, false, ◌||◌, List, [], ◌∷◌, ◌++◌, map, length, Option, Some, None, codes}
use Rattle.std.proofs.lemmas.List.{append-nil}
use Rattle.ess_semantics.specs.declared.words.Op1.{Op1}
use Rattle.ess_semantics.specs.declared.words.Op2.{Op2}
use Rattle.ess_semantics.specs.declared.words.Fun.{Fun}
use Rattle.ess_semantics.specs.Values.{Text}
use Rattle.ess_semantics.specs.Trees as pure
use Rattle.ess_semantics.specs.Trees.{index, application, set_literal, mset_literal, relation_literal, partition_literal, matrix_literal, node_ex, matrix_ex, comp_ex, cell_ex, more_exs, ex2, is_truth_op2}
use Rattle.ess_grammar.specs.Words.{operator, function, mset_word, relation_word, partition_word, function_word, record_word, tuple_word, open_round, close_round, open_square, close_square, open_curly, close_curly, semicolon, bar}
use Rattle.ess_print_laws.specs.TokenTexts.{function_text}
use Rattle.ess_print_laws.specs.Pieces.{Piece, token, space, Printer, sign, named, reserved}
use Rattle.ess_print_laws.specs.Parts.{comma_space, commas, bracketed, tuple_pieces}
use Rattle.ess_print_laws.specs.Brackets.{begins_as_quantifier}
use Rattle.ess_print_laws.specs.Expressions.{ex_pieces, gens_pieces, dom_pieces, operands, call_printers, index_pieces}
use Rattle.ess_core.specs.TreeViews.{words_of, within, exs_of, pure_ex, pure_exs, pure_gens, pure_step, pure_dom}
use Rattle.ess_core.specs.declared.domains.Dom.{Dom}
use Rattle.ess_core.specs.declared.expressions.Ex.{Ex}
use Rattle.ess_core.specs.declared.expressions.Ex.TheVariants as variant
use Rattle.ess_core.specs.declared.expressions.Step.{Step}
use Rattle.ess_core.specs.declared.expressions.Gen.{Gen}
use Rattle.ess_core.specs.declared.expressions.FieldEx.{FieldEx}
use Rattle.ess_core.specs.declared.expressions.PairEx.{PairEx}
use Rattle.ess_core.proofs.ExpressionEquations.{pure_two, pure_at, pure_apply, pure_set, pure_mset, pure_relation, pure_partition, pure_comp, pure_cell, pure_plain_matrix, pure_matrix_on}
use Rattle.ess_print.specs.Written.{Puts, PutsBetween, spaced_operator, tuple_opening, operand_of, one_pieces, call_pieces, steps_pieces, axis_pieces, record_pieces, function_pieces}
use Rattle.ess_print.proofs.Writing.{puts-pieces, puts-text, puts-then, puts-as, puts-at, puts-between}
use Rattle.ess_print.proofs.Items.{exs_printers, fields_printers, pairs_printers, args_printers, steps_printers, name-put}

-- an expression x, of which the variant y has the tree e
ex-as : {a b : Text} {p : Printer} {x y : Ex} (e : pure.Ex) → x ≡ y → pure_ex y ≡ e → ((us : List Piece) → p us ≡ ex_pieces e us) → Puts a b p → Puts a b (ex_pieces (pure_ex x))
ex-as {a} {b} {p} {x} {y} e is view same h =
    let P : pure.Ex → Type 0 = λ q. Puts a b (ex_pieces q) in
    subst P (sym (ap pure_ex is ∙ view)) (puts-as (ex_pieces e) same h)

-- ---- operators

pub two-put : {x a b a' b' : Ex} {o : Op2} {t0 t1 t2 t3 s : Text} → x ≡ variant.Two o a b → a' ≡ a → Puts t0 t1 (operand_of (pure_ex a')) → s ≡ spaced_operator o → t2 ≡ t1 ++ s →
    b' ≡ b → Puts t2 t3 (operand_of (pure_ex b')) → Puts t0 t3 (ex_pieces (pure_ex x))
two-put {x} {a} {b} {a'} {b'} {o} is e h k f g i =
    ex-as (ex2 (is_truth_op2 o) o (pure_ex a) (pure_ex b)) is (pure_two o a b) (λ us. refl)
    (puts-then (puts-at (λ y. operand_of (pure_ex y)) e h)
    (puts-then (puts-text (space ∷ token (operator o) ∷ space ∷ []) f k) (puts-at (λ y. operand_of (pure_ex y)) g i)))

pub bar-put : {o : Op1} (a : pure.Ex) {t0 t1 t2 t3 : Text} → o ≡ Op1.Bar → t1 ≡ t0 ++ codes "|" → Puts t1 t2 (ex_pieces a) → t3 ≡ t2 ++ codes "|" → Puts t0 t3 (one_pieces o a)
bar-put {o} a {t0} {t1} {t2} {t3} is f h g =
    let P : Op1 → Type 0 = λ q. Puts t0 t3 (one_pieces q a) in
    subst P (sym is) (puts-as (one_pieces Op1.Bar a) (λ us. refl) (puts-then (puts-pieces (sign bar ∷ []) f) (puts-then h (puts-pieces (sign bar ∷ []) g))))

pub bracketed-put : {b : Bool} {p : Printer} {t0 t1 t2 t3 : Text} → b ≡ true → t1 ≡ t0 ++ codes "(" → Puts t1 t2 p → t3 ≡ t2 ++ codes ")" → Puts t0 t3 (bracketed b p)
bracketed-put {b} {p} {t0} {t1} {t2} {t3} is f h g =
    let P : Bool → Type 0 = λ q. Puts t0 t3 (bracketed q p) in
    subst P (sym is) (puts-as (bracketed true p) (λ us. refl) (puts-then (puts-pieces (sign open_round ∷ []) f) (puts-then h (puts-pieces (sign close_round ∷ []) g))))

-- ---- calls, indices and applications

pub call-put : {f : Fun} (es : List Ex) {b : Bool} {t0 t1 t2 t3 t4 s : Text} → b ≡ begins_as_quantifier f (pure_exs es) → s ≡ function_text f → t1 ≡ t0 ++ s → t2 ≡ t1 ++ codes "(" →
    Puts t2 t3 (commas (args_printers b 0 es)) → t4 ≡ t3 ++ codes ")" → Puts t0 t4 (call_pieces f (pure_exs es))
call-put {f} es {b} {t0} {t1} {t2} {t3} {t4} {s} q k w g h c =
    puts-as (call_pieces f (pure_exs es)) (λ us. refl)
    (puts-then (puts-text (token (function f) ∷ []) w (k ∙ sym (append-nil (function_text f))))
    (puts-then (puts-pieces (sign open_round ∷ []) g)
    (puts-then (puts-at (λ d. commas (args_printers d 0 es)) q h) (puts-pieces (sign close_round ∷ []) c))))

pub at-put : {x a a' : Ex} {b : Bool} {ss ss' : List Step} {t0 t1 t2 : Text} → x ≡ variant.At b a ss → a' ≡ a → Puts t0 t1 (operand_of (pure_ex a')) → ss' ≡ ss →
    Puts t1 t2 (steps_pieces ss') → Puts t0 t2 (ex_pieces (pure_ex x))
at-put {x} {a} {a'} {b} {ss} is e h f g =
    ex-as (node_ex b (index (words_of (map pure_step ss))) (more_exs (pure_ex a) (exs_of (within (map pure_step ss))))) is (pure_at b a ss) (λ us. refl)
    (puts-then (puts-at (λ y. operand_of (pure_ex y)) e h) (puts-at steps_pieces f g))

pub steps-put : (ss : List Step) {t0 t1 t2 t3 : Text} → t1 ≡ t0 ++ codes "[" → Puts t1 t2 (commas (steps_printers ss)) → t3 ≡ t2 ++ codes "]" → Puts t0 t3 (steps_pieces ss)
steps-put ss f h g = puts-as (steps_pieces ss) (λ us. refl) (puts-then (puts-pieces (sign open_square ∷ []) f) (puts-then h (puts-pieces (sign close_square ∷ []) g)))

pub apply-put : {x a a' : Ex} {b : Bool} {es es' : List Ex} {t0 t1 t2 : Text} → x ≡ variant.Apply b a es → a' ≡ a → Puts t0 t1 (operand_of (pure_ex a')) → es' ≡ es →
    PutsBetween t1 (codes "(") (commas (exs_printers es')) (codes ")") t2 → Puts t0 t2 (ex_pieces (pure_ex x))
apply-put {x} {a} {a'} {b} {es} {es'} {t0} {t1} {t2} is e h f g =
    let P : List Ex → Type 0 = λ xs. PutsBetween t1 (codes "(") (commas (exs_printers xs)) (codes ")") t2 in
    ex-as (node_ex b application (more_exs (pure_ex a) (pure_exs es))) is (pure_apply b a es) (λ us. refl)
    (puts-then (puts-at (λ y. operand_of (pure_ex y)) e h) (puts-between (sign open_round ∷ []) (sign close_round) refl refl (subst P f g)))

-- ---- literals

pub tuple-put : (es : List Ex) {a b s : Text} → s ≡ tuple_opening (length es) → PutsBetween a s (commas (exs_printers es)) (codes ")") b → Puts a b (tuple_pieces (exs_printers es))
tuple-put [] k h = puts-as (tuple_pieces (exs_printers [])) (λ us. refl) (puts-between (sign open_round ∷ []) (sign close_round) k refl h)
tuple-put (e ∷ []) k h =
    puts-as (tuple_pieces (exs_printers (e ∷ []))) (λ us. refl) (puts-between (reserved tuple_word ∷ space ∷ sign open_round ∷ []) (sign close_round) k refl h)
tuple-put (d ∷ e ∷ es) k h = puts-as (tuple_pieces (exs_printers (d ∷ e ∷ es))) (λ us. refl) (puts-between (sign open_round ∷ []) (sign close_round) k refl h)

pub set-put : {x : Ex} {es es' : List Ex} {a b : Text} → x ≡ variant.Set es → es' ≡ es → PutsBetween a (codes "{") (commas (exs_printers es')) (codes "}") b → Puts a b (ex_pieces (pure_ex x))
set-put {x} {es} {es'} {a} {b} is e h =
    let P : List Ex → Type 0 = λ xs. PutsBetween a (codes "{") (commas (exs_printers xs)) (codes "}") b in
    ex-as (node_ex false set_literal (pure_exs es)) is (pure_set es) (λ us. refl) (puts-between (sign open_curly ∷ []) (sign close_curly) refl refl (subst P e h))

pub mset-put : {x : Ex} {es es' : List Ex} {a b : Text} → x ≡ variant.MSet es → es' ≡ es → PutsBetween a (codes "mset(") (commas (exs_printers es')) (codes ")") b → Puts a b (ex_pieces (pure_ex x))
mset-put {x} {es} {es'} {a} {b} is e h =
    let P : List Ex → Type 0 = λ xs. PutsBetween a (codes "mset(") (commas (exs_printers xs)) (codes ")") b in
    ex-as (node_ex false mset_literal (pure_exs es)) is (pure_mset es) (λ us. refl) (puts-between (reserved mset_word ∷ sign open_round ∷ []) (sign close_round) refl refl (subst P e h))

pub relation-put : {x : Ex} {es es' : List Ex} {a b : Text} → x ≡ variant.Relation es → es' ≡ es → PutsBetween a (codes "relation(") (commas (exs_printers es')) (codes ")") b →
    Puts a b (ex_pieces (pure_ex x))
relation-put {x} {es} {es'} {a} {b} is e h =
    let P : List Ex → Type 0 = λ xs. PutsBetween a (codes "relation(") (commas (exs_printers xs)) (codes ")") b in
    ex-as (node_ex false relation_literal (pure_exs es)) is (pure_relation es) (λ us. refl) (puts-between (reserved relation_word ∷ sign open_round ∷ []) (sign close_round) refl refl (subst P e h))

pub partition-put : {x : Ex} {es es' : List Ex} {a b : Text} → x ≡ variant.Partition es → es' ≡ es → PutsBetween a (codes "partition(") (commas (exs_printers es')) (codes ")") b →
    Puts a b (ex_pieces (pure_ex x))
partition-put {x} {es} {es'} {a} {b} is e h =
    let P : List Ex → Type 0 = λ xs. PutsBetween a (codes "partition(") (commas (exs_printers xs)) (codes ")") b in
    ex-as (node_ex false partition_literal (pure_exs es)) is (pure_partition es) (λ us. refl) (puts-between (reserved partition_word ∷ sign open_round ∷ []) (sign close_round) refl refl (subst P e h))

pub record-put : (fs : List FieldEx) {t0 t1 t2 t3 : Text} → t1 ≡ t0 ++ codes "record {" → Puts t1 t2 (commas (fields_printers fs)) → t3 ≡ t2 ++ codes "}" → Puts t0 t3 (record_pieces fs)
record-put fs f h g =
    puts-as (record_pieces fs) (λ us. refl) (puts-then (puts-pieces (reserved record_word ∷ space ∷ sign open_curly ∷ []) f) (puts-then h (puts-pieces (sign close_curly ∷ []) g)))

pub function-put : (ps : List PairEx) {t0 t1 t2 t3 : Text} → t1 ≡ t0 ++ codes "function(" → Puts t1 t2 (commas (pairs_printers ps)) → t3 ≡ t2 ++ codes ")" → Puts t0 t3 (function_pieces ps)
function-put ps f h g =
    puts-as (function_pieces ps) (λ us. refl) (puts-then (puts-pieces (reserved function_word ∷ sign open_round ∷ []) f) (puts-then h (puts-pieces (sign close_round ∷ []) g)))

pub matrix-put : {x : Ex} {es es' : List Ex} (axis : Option Dom) {t0 t1 t2 t3 : Text} → x ≡ variant.Matrix es axis → t1 ≡ t0 ++ codes "[" → es' ≡ es → Puts t1 t2 (commas (exs_printers es')) →
    Puts t2 t3 (axis_pieces axis) → Puts t0 t3 (ex_pieces (pure_ex x))
matrix-put {x} {es} None is f e h g =
    ex-as (node_ex false matrix_literal (pure_exs es)) is (pure_plain_matrix es) (λ us. refl)
    (puts-then (puts-pieces (sign open_square ∷ []) f) (puts-then (puts-at (λ xs. commas (exs_printers xs)) e h) g))
matrix-put {x} {es} (Some d) is f e h g =
    ex-as (matrix_ex (pure_exs es) (pure_dom d)) is (pure_matrix_on es d) (λ us. refl)
    (puts-then (puts-pieces (sign open_square ∷ []) f) (puts-then (puts-at (λ xs. commas (exs_printers xs)) e h) g))

pub axis-put : {axis : Option Dom} {d d' : Dom} {t0 t1 t2 t3 : Text} → axis ≡ Some d → t1 ≡ t0 ++ codes "; " → d' ≡ d → Puts t1 t2 (dom_pieces (pure_dom d')) → t3 ≡ t2 ++ codes "]" →
    Puts t0 t3 (axis_pieces axis)
axis-put {axis} {d} {d'} {t0} {t1} {t2} {t3} is f e h g =
    let P : Option Dom → Type 0 = λ x. Puts t0 t3 (axis_pieces x) in
    subst P (sym is) (puts-as (axis_pieces (Some d)) (λ us. refl)
    (puts-then (puts-pieces (sign semicolon ∷ space ∷ []) f) (puts-then (puts-at (λ x. dom_pieces (pure_dom x)) e h) (puts-pieces (sign close_square ∷ []) g))))

-- ---- comprehensions and cells

pub comp-put : {x e e' : Ex} {gs gs' : List Gen} {t0 t1 t2 t3 t4 t5 : Text} → x ≡ variant.Comp e gs → t1 ≡ t0 ++ codes "[" → e' ≡ e → Puts t1 t2 (ex_pieces (pure_ex e')) →
    t3 ≡ t2 ++ codes " | " → gs' ≡ gs → Puts t3 t4 (gens_pieces (pure_gens gs')) → t5 ≡ t4 ++ codes "]" → Puts t0 t5 (ex_pieces (pure_ex x))
comp-put {x} {e} {e'} {gs} is f k h g l i c =
    ex-as (comp_ex (pure_ex e) (pure_gens gs)) is (pure_comp e gs) (λ us. refl)
    (puts-then (puts-pieces (sign open_square ∷ []) f)
    (puts-then (puts-at (λ y. ex_pieces (pure_ex y)) k h)
    (puts-then (puts-pieces (space ∷ sign bar ∷ space ∷ []) g)
    (puts-then (puts-at (λ ys. gens_pieces (pure_gens ys)) l i) (puts-pieces (sign close_square ∷ []) c)))))

indices-put : (es : List Ex) {a b : Text} → (es ≡ [] → ⊥) → PutsBetween a (codes "[") (commas (exs_printers es)) (codes "]") b → Puts a b (index_pieces (operands (pure_exs es)))
indices-put [] n h = absurd (n refl)
indices-put (e ∷ es) n h = puts-as (index_pieces (operands (pure_exs (e ∷ es)))) (λ us. refl) (puts-between (sign open_square ∷ []) (sign close_square) refl refl h)

pub cell-put : {x : Ex} {b : Bool} {n : Text} {es es' : List Ex} {t0 t1 t2 s : Text} → x ≡ variant.Cell b n es → t1 ≡ t0 ++ s → s ≡ n → (es ≡ [] → ⊥) → es' ≡ es →
    PutsBetween t1 (codes "[") (commas (exs_printers es')) (codes "]") t2 → Puts t0 t2 (ex_pieces (pure_ex x))
cell-put {x} {b} {n} {es} {es'} {t0} {t1} {t2} is f k some e h =
    let P : List Ex → Type 0 = λ xs. PutsBetween t1 (codes "[") (commas (exs_printers xs)) (codes "]") t2 in
    ex-as (cell_ex b n (pure_exs es)) is (pure_cell b n es) (λ us. refl) (puts-then (name-put f k) (indices-put es some (subst P e h)))
