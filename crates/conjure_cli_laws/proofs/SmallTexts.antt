-- The text that is written is the printed text of the small model with its header.
use Rattle.std.proofs.Common.{◌≡◌, refl, sym, ap, ◌∙◌, ℕ, List, [], ◌∷◌, ◌++◌, map, codes, append_assoc, decimal}
use Rattle.std.specs.List.{concat, flat_map}
use Rattle.std.specs.Fmt.{digits}
use Rattle.std.proofs.lemmas.List.Concat.{flat_map-append}
use Rattle.ess_semantics.specs.Values.{Text}
use Rattle.ess_semantics.specs.Trees.{Ex}
use Rattle.ess_grammar.specs.Words.{find_word}
use Rattle.ess_print_laws.specs.Pieces.{Piece, text_of}
use Rattle.eprime_tree.specs.ModelText.{language_line, head_lines, declaration_lines, such_that_lines}
use Rattle.eprime_tree.specs.ModelText as printed
use Rattle.conjure_cli_laws.specs.SmallGrammar.{Statement, find, such_that, each_find, each_constraint}
use Rattle.conjure_cli_laws.specs.ModelText.{domain, header_find, header_representation, declaration, constraint, with_commas, constraint_lines, ended, model_text}
use Rattle.conjure_cli_laws.specs.SmallSets.{table_name, table_decl, cell_rule, small_model, head_find, head_repr, small_head}
use Rattle.conjure_cli_laws.proofs.SmallStatements.{Named, Spelled}
use Rattle.conjure_cli_laws.proofs.SmallCells.{small-lines}

-- ---- lists

-- Lists one behind the other before a last one.
abbrev pub joined : List Text → Text → Text
joined [] r = r
joined (x ∷ xs) r = x ++ joined xs r

-- Lists one behind the other before a last one.
pub concat-before : (xs : List Text) (r : Text) → concat xs ++ r ≡ joined xs r
concat-before [] r = refl
concat-before (x ∷ xs) r = append_assoc x (concat xs) r ∙ ap (λ l. x ++ l) (concat-before xs r)

ended-before : (l r : Text) → ended l ++ r ≡ l ++ (10 ∷ r)
ended-before l r = append_assoc l (10 ∷ []) r

map-finds : {A B : Type 0} (f : A → B) (g : Text → ℕ → ℕ → A) (ss : List Statement) →
    map f (each_find g ss) ≡ each_find (λ x a b. f (g x a b)) ss
map-finds f g [] = refl
map-finds f g (find x a b ∷ ss) = ap (λ l. f (g x a b) ∷ l) (map-finds f g ss)
map-finds f g (such_that k x ∷ ss) = map-finds f g ss

map-append : {A B : Type 0} (f : A → B) (xs ys : List A) → map f (xs ++ ys) ≡ map f xs ++ map f ys
map-append f [] ys = refl
map-append f (x ∷ xs) ys = ap (λ l. f x ∷ l) (map-append f xs ys)

-- ---- the header

-- A line of the header behind its mark.
abbrev marked : Text → Text
marked l = codes "$ " ++ l

head-text : (ls : List Text) (us : List Piece) → text_of (head_lines ls us) ≡ flat_map ended (map marked ls) ++ text_of us
head-text [] us = refl
head-text (l ∷ ls) us =
    ap (λ t. marked l ++ (10 ∷ t)) (head-text ls us) ∙ sym (ended-before (marked l) (flat_map ended (map marked ls) ++ text_of us))
    ∙ sym (append_assoc (ended (marked l)) (flat_map ended (map marked ls)) (text_of us))

head-lines : (ss : List Statement) → map marked (small_head ss) ≡ codes "$ conjure-header 1" ∷
    (each_find header_find ss ++ (each_find header_representation ss ++ (codes "$ end-header" ∷ [])))
head-lines ss =
    ap (λ l. codes "$ conjure-header 1" ∷ l) (map-append marked (each_find head_find ss)
    (each_find head_repr ss ++ (codes "end-header" ∷ []))
    ∙ ap (λ l. l ++ map marked (each_find head_repr ss ++ (codes "end-header" ∷ []))) (map-finds marked head_find ss)
    ∙ ap (λ l. each_find header_find ss ++ l) (map-append marked (each_find head_repr ss) (codes "end-header" ∷ [])
    ∙ ap (λ l. l ++ (codes "$ end-header" ∷ [])) (map-finds marked head_repr ss)))

-- ---- declarations

decl-line : (x : Text) (a b : ℕ) (us : List Piece) →
    text_of (printed.declaration_line find_word (table_decl x a b) us) ≡ declaration (table_name x) a b ++ (10 ∷ text_of us)
decl-line x a b us = sym (
    concat-before (codes "find " ∷ table_name x ∷ codes " : matrix indexed by [" ∷ domain a b ∷ codes "] of bool" ∷ []) (10 ∷ text_of us)
    ∙ ap (λ t. codes "find " ++ (table_name x ++ (codes " : matrix indexed by [" ++ t)))
    (concat-before (codes "int(" ∷ decimal a ∷ codes ".." ∷ decimal b ∷ codes ")" ∷ []) (codes "] of bool" ++ (10 ∷ text_of us))))

decl-text : (ss : List Statement) (us : List Piece) →
    text_of (declaration_lines find_word (each_find table_decl ss) us) ≡ flat_map ended
    (each_find (λ name low high. declaration (table_name name) low high) ss) ++ text_of us
decl-text [] us = refl
decl-text (such_that k x ∷ ss) us = decl-text ss us
decl-text (find x a b ∷ ss) us =
    let D : List Text = each_find (λ name low high. declaration (table_name name) low high) ss in
    decl-line x a b (declaration_lines find_word (each_find table_decl ss) us)
    ∙ ap (λ t. declaration (table_name x) a b ++ (10 ∷ t)) (decl-text ss us)
    ∙ sym (ended-before (declaration (table_name x) a b) (flat_map ended D ++ text_of us))
    ∙ sym (append_assoc (ended (declaration (table_name x) a b)) (flat_map ended D) (text_of us))

-- ---- constraints

-- The numbers and names of the constraints.
abbrev asked : List Statement → List (ℕ × Text)
asked ss = each_constraint (λ k x. (k, x)) ss

asked-map : {A : Type 0} (f : ℕ → Text → A) (ss : List Statement) → each_constraint f ss ≡ map (λ c. f c.0 c.1) (asked ss)
asked-map f [] = refl
asked-map f (find x a b ∷ ss) = asked-map f ss
asked-map f (such_that k x ∷ ss) = ap (λ l. f k x ∷ l) (asked-map f ss)

abbrev rules : List (ℕ × Text) → List Ex
rules cs = map (λ c. cell_rule c.0 c.1) cs

abbrev rule_lines : List (ℕ × Text) → List Text
rule_lines cs = map (λ c. constraint c.0 (table_name c.1)) cs

rule-before : (c : ℕ × Text) (r : Text) → constraint c.0 (table_name c.1) ++ r ≡ codes "    " ++
    (table_name c.1 ++ (codes "[" ++ (decimal c.0 ++ (codes "]" ++ r))))
rule-before c r = concat-before (codes "    " ∷ table_name c.1 ∷ codes "[" ∷ decimal c.0 ∷ codes "]" ∷ []) r

lines-text : (c : ℕ × Text) (cs : List (ℕ × Text)) →
    text_of (printed.constraint_lines (rules (c ∷ cs)) []) ≡ 10 ∷ flat_map ended (with_commas (rule_lines (c ∷ cs)))
lines-text c [] =
    ap (λ t. 10 ∷ t) (sym (nothing (ended (constraint c.0 (table_name c.1))) ∙ rule-before c (10 ∷ [])))
  where
    nothing : (t : Text) → t ++ [] ≡ t
    nothing [] = refl
    nothing (b ∷ t) = ap (λ l. b ∷ l) (nothing t)
lines-text c (d ∷ cs) =
    let R : Text = flat_map ended (with_commas (rule_lines (d ∷ cs))) in
    ap (λ t. 10 ∷ (codes "    " ++ (table_name c.1 ++ (codes "[" ++ (decimal c.0 ++ (codes "]" ++ (codes "," ++ t))))))) (lines-text d cs)
    ∙ ap (λ t. 10 ∷ t) (sym (rule-before c (codes "," ++ (10 ∷ R)))
    ∙ sym (append_assoc (constraint c.0 (table_name c.1)) (codes ",") (10 ∷ R))
    ∙ sym (ended-before (constraint c.0 (table_name c.1) ++ codes ",") R))

asked-text : (cs : List (ℕ × Text)) → text_of (such_that_lines (rules cs) []) ≡ flat_map ended (constraint_lines (rule_lines cs))
asked-text [] = refl
asked-text (c ∷ cs) = ap (λ t. codes "such that" ++ t) (lines-text c cs)
    ∙ sym (ended-before (codes "such that") (flat_map ended (with_commas (rule_lines (c ∷ cs)))))

-- ---- all

six : (a f r e d c : List Text) → ((((a ++ f) ++ r) ++ e) ++ d) ++ c ≡ a ++ (f ++ (r ++ (e ++ (d ++ c))))
six a f r e d c =
    append_assoc (((a ++ f) ++ r) ++ e) d c ∙ append_assoc ((a ++ f) ++ r) e (d ++ c) ∙ append_assoc (a ++ f) r (e ++ (d ++ c))
    ∙ append_assoc a f (r ++ (e ++ (d ++ c)))

-- The text is the printed one.
pub small-text : (ss : List Statement) → Named [] ss → Spelled ss → model_text ss ≡ printed.model_text (small_head ss) (small_model ss)
unfolding digits model_text
small-text ss n s =
    let F : List Text = each_find header_find ss in
    let R : List Text = each_find header_representation ss in
    let D : List Text = each_find (λ name low high. declaration (table_name name) low high) ss in
    let C : List Text = constraint_lines (each_constraint (λ number name. constraint number (table_name name)) ss) in
    let L : Text = codes "language ESSENCE' 1.0" in
    let H : List Text = codes "$ conjure-header 1" ∷ (F ++ (R ++ (codes "$ end-header" ∷ []))) in
    let rest : text_of (such_that_lines (each_constraint cell_rule ss) []) ≡ flat_map ended C =
    ap (λ l. text_of (such_that_lines l [])) (asked-map cell_rule ss) ∙ asked-text (asked ss)
    ∙ ap (λ l. flat_map ended (constraint_lines l)) (sym (asked-map (λ number name. constraint number (table_name name)) ss)) in
    let whole : text_of (printed.model_pieces (small_head ss) (small_model ss)) ≡ L ++
    (10 ∷ (flat_map ended H ++ (flat_map ended D ++ flat_map ended C))) =
    ap (λ t. L ++ (10 ∷ t)) (head-text (small_head ss) (declaration_lines find_word (each_find table_decl ss)
    (such_that_lines (each_constraint cell_rule ss) []))
    ∙ ap (λ l. flat_map ended l ++ text_of (declaration_lines find_word (each_find table_decl ss)
    (such_that_lines (each_constraint cell_rule ss) []))) (head-lines ss)
    ∙ ap (λ t. flat_map ended H ++ t) (decl-text ss (such_that_lines (each_constraint cell_rule ss) [])
    ∙ ap (λ t. flat_map ended D ++ t) rest)) in
    ap (flat_map ended) (small-lines ss n s ∙ six (L ∷ codes "$ conjure-header 1" ∷ []) F R (codes "$ end-header" ∷ []) D C)
    ∙ ended-before L (flat_map ended (codes "$ conjure-header 1" ∷ (F ++ (R ++ (codes "$ end-header" ∷ (D ++ C))))))
    ∙ ap (λ t. L ++ (10 ∷ t)) (ap (λ l. flat_map ended (codes "$ conjure-header 1" ∷ l))
    (sym (append_assoc F (R ++ (codes "$ end-header" ∷ [])) (D ++ C)
    ∙ ap (λ l. F ++ l) (append_assoc R (codes "$ end-header" ∷ []) (D ++ C))))
    ∙ flat_map-append ended H (D ++ C) ∙ ap (λ t. flat_map ended H ++ t) (flat_map-append ended D C))
    ∙ sym whole
