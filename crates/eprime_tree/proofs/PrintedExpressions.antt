-- What is appended where an expression or a list of a model is printed, form by form.
use Rattle.std.proofs.Common.{◌≡◌, refl, sym, ap, ◌∙◌, subst, Bool, true, false, List, [], ◌∷◌, ◌++◌, map, append_assoc}
use Rattle.std.specs.Prelude.{ℤ, pos, negsuc, codes}
use Rattle.std.specs.Fmt.{decimal, signed_decimal}
use Rattle.ess_semantics.specs.declared.words.Op2.{Op2}
use Rattle.ess_semantics.specs.declared.words.Fun.{Fun}
use Rattle.ess_semantics.specs.Values.{Text}
use Rattle.ess_semantics.specs.Trees as pure
use Rattle.ess_semantics.specs.Trees.{binary, word, matrix_literal, Ex, number_ex, truth_ex, name_ex, node_ex, comp_ex, cell_ex, plain_node}
use Rattle.ess_grammar.specs.Grammar.{one_ex, two_exs}
use Rattle.ess_grammar.specs.Models.{Scope, is_truth_table}
use Rattle.ess_grammar.specs.Words.{operator, function, open_round, close_round, open_square, close_square, bar, exclamation}
use Rattle.ess_print_laws.specs.TokenTexts.{function_text}
use Rattle.ess_print_laws.specs.Pieces.{token, space, piece_text, text_of, sign, named}
use Rattle.ess_print_laws.specs.Parts.{commas, bracketed, number_pieces, truth_piece}
use Rattle.ess_print_laws.specs.Brackets.{is_operators}
use Rattle.ess_print_laws.specs.Expressions.{ex_pieces, gens_pieces, call_printers, operands, wholes}
use Rattle.eprime_tree.specs.declared.words.POp1.{POp1}
use Rattle.eprime_tree.specs.declared.words.POp2.{POp2}
use Rattle.eprime_tree.specs.declared.words.PFun.{PFun}
use Rattle.eprime_tree.specs.declared.expressions.PEx.{PEx}
use Rattle.eprime_tree.specs.declared.expressions.PList.{PList}
use Rattle.eprime_tree.specs.declared.expressions.PGen.{PGen}
use Rattle.eprime_tree.specs.declared.expressions.PDom.{PDom}
use Rattle.eprime_tree.specs.declared.expressions.PRange.{PRange}
use Rattle.eprime_tree.specs.declared.expressions.PEx.TheVariants.{Num, Truth, Name, Cell, One, Two, Fold, Lex}
use Rattle.eprime_tree.specs.declared.expressions.PList.TheVariants.{Items, Comp}
use Rattle.eprime_tree.specs.declared.expressions.PDom.TheOpen.{PList-F}
use Rattle.eprime_tree.specs.declared.expressions.PDom.TheViews.{out-PList, roll-PList, roll-out-PList}
use Rattle.eprime_tree.specs.declared.expressions.PDom.TheFolds.{fold-roll-PList}
use Rattle.eprime_tree.specs.Views.{Item, Bounds, pure_op1, pure_op2, pure_fun, exs_of, gens_of, ex_step, list_step, gen_step, dom_step, range_step, pure_ex, pure_list, pure_gen}
use Rattle.eprime_tree.specs.Written.{written, all_written, gens_written}
use Rattle.eprime_tree.specs.Printed.{Puts, read_ex, PrintsEx, PrintsOne, PrintsBracketed, PrintsExs, PrintsList, PrintsGens, spaced_operator, opened_call}
use Rattle.eprime_tree.proofs.Equations.{pure_ex-Num, pure_ex-Truth, pure_ex-Name, pure_ex-Cell, pure_ex-One, pure_ex-Two, pure_ex-Fold, pure_ex-Lex, pure_list-Items, pure_list-Comp}
use Rattle.eprime_tree.proofs.Putting.{puts-text, puts-then, puts-between, puts-operator, wholes-map, one_operand}

-- what a tree's printing appends, where its pure tree is known
as_tree : (t0 t1 : Text) (e : PEx) (f : Scope → Ex) → ((s : Scope) → pure_ex s e ≡ f s) → ((s : Scope) → Puts t0 t1 (ex_pieces (written (f s)))) → PrintsEx t0 t1 e
unfolding PrintsEx
as_tree t0 t1 e f eq h s = subst (λ x. Puts t0 t1 (ex_pieces (written x))) (sym (eq s)) (h s)

as_list : (t0 t1 : Text) (l : PList) (f : Scope → Ex) → ((s : Scope) → pure_list s l ≡ f s) → ((s : Scope) → Puts t0 t1 (ex_pieces (written (f s)))) → PrintsList t0 t1 l
unfolding PrintsList
as_list t0 t1 l f eq h s = subst (λ x. Puts t0 t1 (ex_pieces (written x))) (sym (eq s)) (h s)

-- of a value that is known
pub same_ex : (t0 t1 : Text) (e v : PEx) → e ≡ v → PrintsEx t0 t1 v → PrintsEx t0 t1 e
same_ex t0 t1 e v h p = subst (λ x. PrintsEx t0 t1 x) (sym h) p

pub same_list : (t0 t1 : Text) (l v : PList) → l ≡ v → PrintsList t0 t1 v → PrintsList t0 t1 l
same_list t0 t1 l v h p = subst (λ x. PrintsList t0 t1 x) (sym h) p

-- ---- what has no operands

puts-number : (t0 t1 : Text) (n : ℤ) → t1 ≡ t0 ++ signed_decimal n → Puts t0 t1 (number_pieces n)
puts-number t0 t1 (pos k) h = puts-text t0 t1 (decimal k) (number_pieces (pos k)) h (λ us. refl)
puts-number t0 t1 (negsuc k) h = puts-text t0 t1 (signed_decimal (negsuc k)) (number_pieces (negsuc k)) h (λ us. refl)

pub prints-Num : (t0 t1 : Text) (n : ℤ) → t1 ≡ t0 ++ signed_decimal n → PrintsEx t0 t1 (Num n)
prints-Num t0 t1 n h = as_tree t0 t1 (Num n) (λ s. number_ex n) (λ s. pure_ex-Num s n) (λ s. puts-number t0 t1 n h)

pub prints-Truth : (t0 t1 : Text) (b : Bool) → t1 ≡ t0 ++ piece_text (truth_piece b) → PrintsEx t0 t1 (Truth b)
prints-Truth t0 t1 b h = as_tree t0 t1 (Truth b) (λ s. truth_ex b) (λ s. pure_ex-Truth s b) (λ s. puts-text t0 t1 (piece_text (truth_piece b)) (λ us. truth_piece b ∷ us) h (λ us. refl))

pub prints-Name : (t0 t1 : Text) (a : Text) → t1 ≡ t0 ++ a → PrintsEx t0 t1 (Name a)
prints-Name t0 t1 a h = as_tree t0 t1 (Name a) (λ s. name_ex a) (λ s. pure_ex-Name s a) (λ s. puts-text t0 t1 a (λ us. named a ∷ us) h (λ us. refl))

-- ---- cells

pub prints-cell : (t0 t1 : Text) (a : Text) (es : List PEx) → es ≡ [] → t1 ≡ t0 ++ a → PrintsEx t0 t1 (Cell a es)
prints-cell t0 t1 a es n h = subst (λ es. PrintsEx t0 t1 (Cell a es)) (sym n)
    (as_tree t0 t1 (Cell a []) (λ s. cell_ex (is_truth_table s a) a (exs_of (map (pure_ex s) []))) (λ s. pure_ex-Cell s a []) (λ s. puts-text t0 t1 a (λ us. named a ∷ us) h (λ us. refl)))

puts-exs : (t0 t1 : Text) (s : Scope) (es : List PEx) → PrintsExs t0 t1 es → Puts t0 t1 (commas (map (λ e. ex_pieces (read_ex s e)) es))
unfolding PrintsExs
puts-exs t0 t1 s es h = h s

pub prints-indexed : (t0 t1 t2 t3 t4 : Text) (a : Text) (es : List PEx) → (es ≡ [] → ⊥) → t1 ≡ t0 ++ a → t2 ≡ t1 ++ codes "[" → PrintsExs t2 t3 es → t4 ≡ t3 ++ codes "]" → PrintsEx t0 t4 (Cell a es)
prints-indexed t0 t1 t2 t3 t4 a [] n h k p j = absurd (n refl)
prints-indexed t0 t1 t2 t3 t4 a (e ∷ es) n h k p j =
    as_tree t0 t4 (Cell a (e ∷ es)) (λ s. cell_ex (is_truth_table s a) a (exs_of (map (pure_ex s) (e ∷ es)))) (λ s. pure_ex-Cell s a (e ∷ es)) (λ s.
    puts-then t0 t1 t4 (λ us. named a ∷ us) (λ us. sign open_square ∷ commas (wholes (operands (all_written (exs_of (map (pure_ex s) (e ∷ es)))))) (sign close_square ∷ us))
    (puts-text t0 t1 a (λ us. named a ∷ us) h (λ us. refl))
    (subst (λ ps. Puts t1 t4 (λ us. sign open_square ∷ commas ps (sign close_square ∷ us))) (sym (wholes-map (pure_ex s) (e ∷ es)))
    (puts-between t1 t2 t3 t4 (codes "[") (codes "]") (λ us. sign open_square ∷ us) (λ us. sign close_square ∷ us) (commas (map (λ x. ex_pieces (read_ex s x)) (e ∷ es)))
    k (λ us. refl) (puts-exs t2 t3 s (e ∷ es) p) j (λ us. refl))))

-- ---- operators

-- what `PrintsBracketed` says of an operand
puts-operand : (t0 t1 : Text) (b : Bool) (e : PEx) (s : Scope) → PrintsBracketed t0 t1 b e → b ≡ is_operators (read_ex s e) →
    Puts t0 t1 (bracketed (is_operators (read_ex s e)) (ex_pieces (read_ex s e)))
unfolding PrintsBracketed
puts-operand t0 t1 b e s p h = subst (λ b. Puts t0 t1 (bracketed b (ex_pieces (read_ex s e)))) h (p s)

puts-ex : (t0 t1 : Text) (e : PEx) (s : Scope) → PrintsEx t0 t1 e → Puts t0 t1 (ex_pieces (read_ex s e))
unfolding PrintsEx
puts-ex t0 t1 e s p = p s

pub prints-Two : (t0 t1 t2 t3 : Text) (o : POp2) (a b : PEx) (i j : Bool) → PrintsBracketed t0 t1 i a → ((s : Scope) → i ≡ is_operators (read_ex s a)) → t2 ≡ t1 ++ spaced_operator (pure_op2 o) →
    PrintsBracketed t2 t3 j b → ((s : Scope) → j ≡ is_operators (read_ex s b)) → PrintsEx t0 t3 (Two o a b)
prints-Two t0 t1 t2 t3 o a b i j p hi k q hj =
    as_tree t0 t3 (Two o a b) (λ s. plain_node (binary (pure_op2 o)) (two_exs (pure_ex s a) (pure_ex s b))) (λ s. pure_ex-Two s o a b) (λ s.
    puts-then t0 t1 t3 (bracketed (is_operators (read_ex s a)) (ex_pieces (read_ex s a))) (λ us. space ∷ token (operator (pure_op2 o)) ∷ space ∷ bracketed (is_operators (read_ex s b)) (ex_pieces (read_ex s b)) us)
    (puts-operand t0 t1 i a s p (hi s))
    (puts-then t1 t2 t3 (λ us. space ∷ token (operator (pure_op2 o)) ∷ space ∷ us) (bracketed (is_operators (read_ex s b)) (ex_pieces (read_ex s b)))
    (puts-operator t1 t2 (pure_op2 o) k) (puts-operand t2 t3 j b s q (hj s))))

-- the operands are what boxes hold
pub prints-two : (t0 t1 t2 t3 : Text) (e : PEx) (o : POp2) (a b x y : PEx) (i j : Bool) → e ≡ Two o a b → x ≡ a → y ≡ b → PrintsBracketed t0 t1 i x → ((s : Scope) → i ≡ is_operators (read_ex s x)) →
    t2 ≡ t1 ++ spaced_operator (pure_op2 o) → PrintsBracketed t2 t3 j y → ((s : Scope) → j ≡ is_operators (read_ex s y)) → PrintsEx t0 t3 e
prints-two t0 t1 t2 t3 e o a b x y i j is hx hy p hi k q hj =
    same_ex t0 t3 e (Two o x y) (is ∙ ap (λ v. Two o v b) (sym hx) ∙ ap (λ v. Two o x v) (sym hy)) (prints-Two t0 t1 t2 t3 o x y i j p hi k q hj)

pub prints-minus : (t0 t1 t2 : Text) (a : PEx) (i : Bool) → t1 ≡ t0 ++ codes "-" → PrintsBracketed t1 t2 i a → ((s : Scope) → i ≡ is_operators (read_ex s a)) → PrintsOne t0 t2 POp1.Minus a
unfolding PrintsOne
prints-minus t0 t1 t2 a i h p hi =
    as_tree t0 t2 (One POp1.Minus a) (λ s. plain_node (pure_op1 POp1.Minus) (one_ex (pure_ex s a))) (λ s. pure_ex-One s POp1.Minus a) (λ s.
    puts-then t0 t1 t2 (λ us. token (operator Op2.Minus) ∷ us) (bracketed (is_operators (read_ex s a)) (ex_pieces (read_ex s a)))
    (puts-text t0 t1 (codes "-") (λ us. token (operator Op2.Minus) ∷ us) h (λ us. refl)) (puts-operand t1 t2 i a s p (hi s)))

pub prints-not : (t0 t1 t2 : Text) (a : PEx) (i : Bool) → t1 ≡ t0 ++ codes "!" → PrintsBracketed t1 t2 i a → ((s : Scope) → i ≡ is_operators (read_ex s a)) → PrintsOne t0 t2 POp1.Not a
unfolding PrintsOne
prints-not t0 t1 t2 a i h p hi =
    as_tree t0 t2 (One POp1.Not a) (λ s. plain_node (pure_op1 POp1.Not) (one_ex (pure_ex s a))) (λ s. pure_ex-One s POp1.Not a) (λ s.
    puts-then t0 t1 t2 (λ us. sign exclamation ∷ us) (bracketed (is_operators (read_ex s a)) (ex_pieces (read_ex s a)))
    (puts-text t0 t1 (codes "!") (λ us. sign exclamation ∷ us) h (λ us. refl)) (puts-operand t1 t2 i a s p (hi s)))

pub prints-bar : (t0 t1 t2 t3 : Text) (a : PEx) → t1 ≡ t0 ++ codes "|" → PrintsEx t1 t2 a → t3 ≡ t2 ++ codes "|" → PrintsOne t0 t3 POp1.Bar a
unfolding PrintsOne
prints-bar t0 t1 t2 t3 a h p k =
    as_tree t0 t3 (One POp1.Bar a) (λ s. plain_node (pure_op1 POp1.Bar) (one_ex (pure_ex s a))) (λ s. pure_ex-One s POp1.Bar a) (λ s.
    puts-between t0 t1 t2 t3 (codes "|") (codes "|") (λ us. sign bar ∷ us) (λ us. sign bar ∷ us) (ex_pieces (read_ex s a)) h (λ us. refl) (puts-ex t1 t2 a s p) k (λ us. refl))

pub prints-to_int : (t0 t1 t2 t3 : Text) (a : PEx) → t1 ≡ t0 ++ codes "toInt(" → PrintsEx t1 t2 a → t3 ≡ t2 ++ codes ")" → PrintsOne t0 t3 POp1.ToInt a
unfolding PrintsOne
prints-to_int t0 t1 t2 t3 a h p k =
    as_tree t0 t3 (One POp1.ToInt a) (λ s. plain_node (pure_op1 POp1.ToInt) (one_ex (pure_ex s a))) (λ s. pure_ex-One s POp1.ToInt a) (λ s.
    puts-between t0 t1 t2 t3 (codes "toInt(") (codes ")") (λ us. token (function Fun.ToInt) ∷ sign open_round ∷ us) (λ us. sign close_round ∷ us) (ex_pieces (read_ex s a)) h (λ us. refl) (puts-ex t1 t2 a s p) k (λ us. refl))

pub prints-One : (t0 t1 : Text) (e : PEx) (o : POp1) (a x : PEx) → e ≡ One o a → x ≡ a → PrintsOne t0 t1 o x → PrintsEx t0 t1 e
unfolding PrintsOne
prints-One t0 t1 e o a x is h p = same_ex t0 t1 e (One o x) (is ∙ ap (λ v. One o v) (sym h)) p

pub same_one : (t0 t1 : Text) (o v : POp1) (a : PEx) → o ≡ v → PrintsOne t0 t1 v a → PrintsOne t0 t1 o a
same_one t0 t1 o v a h p = subst (λ o. PrintsOne t0 t1 o a) (sym h) p

-- ---- brackets

pub prints-bracketed : (t0 t1 t2 t3 : Text) (b : Bool) (e : PEx) → b ≡ true → t1 ≡ t0 ++ codes "(" → PrintsEx t1 t2 e → t3 ≡ t2 ++ codes ")" → PrintsBracketed t0 t3 b e
unfolding PrintsBracketed
prints-bracketed t0 t1 t2 t3 b e is h p k s = subst (λ b. Puts t0 t3 (bracketed b (ex_pieces (read_ex s e)))) (sym is)
    (puts-between t0 t1 t2 t3 (codes "(") (codes ")") (λ us. sign open_round ∷ us) (λ us. sign close_round ∷ us) (ex_pieces (read_ex s e)) h (λ us. refl) (puts-ex t1 t2 e s p) k (λ us. refl))

pub prints-bare : (t0 t1 : Text) (b : Bool) (e : PEx) → b ≡ false → PrintsEx t0 t1 e → PrintsBracketed t0 t1 b e
unfolding PrintsBracketed
prints-bare t0 t1 b e is p s = subst (λ b. Puts t0 t1 (bracketed b (ex_pieces (read_ex s e)))) (sym is) (puts-ex t0 t1 e s p)

-- ---- lists

puts-list : (t0 t1 : Text) (l : PList) (s : Scope) → PrintsList t0 t1 l → Puts t0 t1 (ex_pieces (written (pure_list s l)))
unfolding PrintsList
puts-list t0 t1 l s p = p s

puts-gens : (t0 t1 : Text) (gs : List PGen) (s : Scope) → PrintsGens t0 t1 gs → Puts t0 t1 (gens_pieces (gens_written (gens_of (map (pure_gen s) gs))))
unfolding PrintsGens
puts-gens t0 t1 gs s p = p s

-- a list is no operator's expression
layer-plain : (s : Scope) (x : PList-F PDom PEx PGen PList PRange) → is_operators (written (pure_list s (roll-PList x))) ≡ false
layer-plain s (PList-F.Items es) = ap (λ e. is_operators (written e)) (fold-roll-PList pure.Dom pure.Ex Item pure.Ex Bounds dom_step (ex_step s) gen_step list_step range_step (PList-F.Items es))
layer-plain s (PList-F.Comp e gs) = ap (λ e. is_operators (written e)) (fold-roll-PList pure.Dom pure.Ex Item pure.Ex Bounds dom_step (ex_step s) gen_step list_step range_step (PList-F.Comp e gs))

list-plain : (s : Scope) (l : PList) → is_operators (written (pure_list s l)) ≡ false
list-plain s l = subst (λ l. is_operators (written (pure_list s l)) ≡ false) (roll-out-PList l) (layer-plain s (out-PList l))

-- so it stands in no brackets
puts-plain : (t0 t1 : Text) (e : Ex) → is_operators e ≡ false → Puts t0 t1 (ex_pieces e) → Puts t0 t1 (bracketed (is_operators e) (ex_pieces e))
puts-plain t0 t1 e h p = subst (λ b. Puts t0 t1 (bracketed b (ex_pieces e))) (sym h) p

pub prints-Lex : (t0 t1 t2 t3 : Text) (o : POp2) (a b : PList) → PrintsList t0 t1 a → t2 ≡ t1 ++ spaced_operator (pure_op2 o) → PrintsList t2 t3 b → PrintsEx t0 t3 (Lex o a b)
prints-Lex t0 t1 t2 t3 o a b p k q =
    as_tree t0 t3 (Lex o a b) (λ s. plain_node (binary (pure_op2 o)) (two_exs (pure_list s a) (pure_list s b))) (λ s. pure_ex-Lex s o a b) (λ s.
    let x = written (pure_list s a) in
    let y = written (pure_list s b) in
    puts-then t0 t1 t3 (bracketed (is_operators x) (ex_pieces x)) (λ us. space ∷ token (operator (pure_op2 o)) ∷ space ∷ bracketed (is_operators y) (ex_pieces y) us)
    (puts-plain t0 t1 x (list-plain s a) (puts-list t0 t1 a s p))
    (puts-then t1 t2 t3 (λ us. space ∷ token (operator (pure_op2 o)) ∷ space ∷ us) (bracketed (is_operators y) (ex_pieces y))
    (puts-operator t1 t2 (pure_op2 o) k) (puts-plain t2 t3 y (list-plain s b) (puts-list t2 t3 b s q))))

pub prints-Fold : (t0 t1 t2 t3 : Text) (f : PFun) (l : PList) → t1 ≡ t0 ++ opened_call (pure_fun f) → PrintsList t1 t2 l → t3 ≡ t2 ++ codes ")" → PrintsEx t0 t3 (Fold f l)
prints-Fold t0 t1 t2 t3 f l h p k =
    as_tree t0 t3 (Fold f l) (λ s. plain_node (word (pure_fun f)) (one_ex (pure_list s l))) (λ s. pure_ex-Fold s f l) (λ s.
    let e = written (pure_list s l) in
    subst (λ b. Puts t0 t3 (λ us. token (function (pure_fun f)) ∷ sign open_round ∷ commas (call_printers b (operands (one_ex e))) (sign close_round ∷ us))) (sym (one_operand (pure_fun f) e))
    (puts-between t0 t1 t2 t3 (opened_call (pure_fun f)) (codes ")") (λ us. token (function (pure_fun f)) ∷ sign open_round ∷ us) (λ us. sign close_round ∷ us) (ex_pieces e)
    h (λ us. sym (append_assoc (function_text (pure_fun f)) (codes "(") (text_of us))) (puts-list t1 t2 l s p) k (λ us. refl)))

pub prints-Items : (t0 t1 t2 t3 : Text) (es : List PEx) → t1 ≡ t0 ++ codes "[" → PrintsExs t1 t2 es → t3 ≡ t2 ++ codes "]" → PrintsList t0 t3 (Items es)
prints-Items t0 t1 t2 t3 es h p k =
    as_list t0 t3 (Items es) (λ s. node_ex false matrix_literal (exs_of (map (pure_ex s) es))) (λ s. pure_list-Items s es) (λ s.
    subst (λ ps. Puts t0 t3 (λ us. sign open_square ∷ commas ps (sign close_square ∷ us))) (sym (wholes-map (pure_ex s) es))
    (puts-between t0 t1 t2 t3 (codes "[") (codes "]") (λ us. sign open_square ∷ us) (λ us. sign close_square ∷ us) (commas (map (λ x. ex_pieces (read_ex s x)) es))
    h (λ us. refl) (puts-exs t1 t2 s es p) k (λ us. refl)))

pub prints-Comp : (t0 t1 t2 t3 t4 t5 : Text) (e : PEx) (gs : List PGen) → t1 ≡ t0 ++ codes "[" → PrintsEx t1 t2 e → t3 ≡ t2 ++ codes " | " → PrintsGens t3 t4 gs → t5 ≡ t4 ++ codes "]" → PrintsList t0 t5 (Comp e gs)
prints-Comp t0 t1 t2 t3 t4 t5 e gs h p k q j =
    as_list t0 t5 (Comp e gs) (λ s. comp_ex (pure_ex s e) (gens_of (map (pure_gen s) gs))) (λ s. pure_list-Comp s e gs) (λ s.
    let items = gens_pieces (gens_written (gens_of (map (pure_gen s) gs))) in
    puts-then t0 t2 t5 (λ us. sign open_square ∷ ex_pieces (read_ex s e) us) (λ us. space ∷ sign bar ∷ space ∷ items (sign close_square ∷ us))
    (puts-then t0 t1 t2 (λ us. sign open_square ∷ us) (ex_pieces (read_ex s e)) (puts-text t0 t1 (codes "[") (λ us. sign open_square ∷ us) h (λ us. refl)) (puts-ex t1 t2 e s p))
    (puts-between t2 t3 t4 t5 (codes " | ") (codes "]") (λ us. space ∷ sign bar ∷ space ∷ us) (λ us. sign close_square ∷ us) items k (λ us. refl) (puts-gens t3 t4 gs s q) j (λ us. refl)))
