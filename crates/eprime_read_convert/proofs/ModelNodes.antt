-- What a tree as it is read is in a model, form by form.
use Rattle.std.proofs.Common.{◌≡◌, refl, sym, ap, ◌∙◌, Bool, true, false, ◌&&◌, if◌then◌else◌, List, [], ◌∷◌, map, Option, Some, None, IsTrue}
use Rattle.std.specs.Option.{option_map}
use Rattle.std.specs.List.{list_all}
use Rattle.ess_semantics.specs.declared.words.Op1.{Op1}
use Rattle.ess_semantics.specs.declared.words.Op2.{Op2}
use Rattle.ess_semantics.specs.declared.words.Fun.{Fun}
use Rattle.ess_semantics.specs.Values.{Text}
use Rattle.ess_semantics.specs.Lists.{when, and_then, each_of}
use Rattle.ess_semantics.specs.Names.{look, is_among}
use Rattle.ess_semantics.specs.Trees.{Op, unary, binary, index, matrix_literal, Step, Ex, Exs, number_ex, truth_ex, name_ex, node_ex, matrix_ex, comp_ex, cell_ex, seen_ex, no_exs, more_exs, plain_node, is_truth_op}
use Rattle.ess_grammar.specs.Grammar.{one_ex, two_exs}
use Rattle.ess_grammar.specs.Readable.{fit_operands, fit_steps, ReadableEx, ReadableExs}
use Rattle.ess_grammar.specs.Models.{Scope, is_truth_table, named_cell, cell_or_name, cell_or_node, with_cells, all_with_cells, is_plain_operator, is_lex_operator, is_fold, same_truth, may_stand, is_model_ex, is_model_node, is_model_list, are_model_exs}
use Rattle.ess_core.specs.TreeViews.{With, words_of, within, exs_of}
use Rattle.eprime_tree.specs.Views as P
use Rattle.eprime_read_convert.specs.Converted.{model_ex, model_list, under, between, table_at, access, items_ex}

-- ---- truth values and options

same-itself : (b : Bool) → same_truth b b ≡ true
same-itself true = refl
same-itself false = refl

when-of : {A : Type 0} (b c : Bool) (x : A) → b ≡ c → when b x ≡ when c x
when-of b c x h = ap (λ b. when b x) h

-- ---- operators

under-when : (op : Op) (c : Bool) (a : Ex) → when c (plain_node op (one_ex a)) ≡ under op (when c a)
under-when op true a = refl
under-when op false a = refl

between-when : (op : Op) (c d : Bool) (a b : Ex) → when (c && d) (plain_node op (two_exs a b)) ≡ between op (when c a) (when d b)
between-when op true true a b = refl
between-when op true false a b = refl
between-when op false d a b = refl

marked : {A : Type 0} (op : Op) (c : Bool) (x : A) → when (same_truth (is_truth_op op) (is_truth_op op) && c) x ≡ when c x
marked op c x = ap (λ b. when (b && c) x) (same-itself (is_truth_op op))

-- An operator over one operand.
pub model-unary : (s : Scope) (f : Bool) (g : List Text) (o : Op1) (a : Ex) → model_ex s f g (plain_node (unary o) (one_ex a)) ≡ under (unary o) (model_ex s f g a)
model-unary s f g o a = marked (unary o) (is_model_ex s f g (with_cells s g a)) (plain_node (unary o) (one_ex (with_cells s g a))) ∙ under-when (unary o) (is_model_ex s f g (with_cells s g a)) (with_cells s g a)

chosen : (b : Bool) (x y : Bool) → b ≡ true → (if b then x else y) ≡ x
chosen b x y h = ap (λ b. if b then x else y) h

other : (b : Bool) (x y : Bool) → b ≡ false → (if b then x else y) ≡ y
other b x y h = ap (λ b. if b then x else y) h

-- A lex sign between two lists.
pub model-lex : (s : Scope) (f : Bool) (g : List Text) (o : Op2) (a b : Ex) → is_lex_operator o ≡ true →
    model_ex s f g (plain_node (binary o) (two_exs a b)) ≡ between (binary o) (model_list s f g a) (model_list s f g b)
model-lex s f g o a b h =
    marked (binary o) (is_model_node s f g (binary o) (two_exs (with_cells s g a) (with_cells s g b))) (plain_node (binary o) (two_exs (with_cells s g a) (with_cells s g b)))
    ∙ when-of _ _ (plain_node (binary o) (two_exs (with_cells s g a) (with_cells s g b))) (chosen (is_lex_operator o) _ _ h)
    ∙ between-when (binary o) (is_model_list s f g (with_cells s g a)) (is_model_list s f g (with_cells s g b)) (with_cells s g a) (with_cells s g b)

plain-both : (p c d : Bool) → p ≡ true → ((p && c) && d) ≡ (c && d)
plain-both p c d h = ap (λ p. (p && c) && d) h

-- A sign of models between two expressions.
pub model-plain : (s : Scope) (f : Bool) (g : List Text) (o : Op2) (a b : Ex) → is_lex_operator o ≡ false → is_plain_operator o ≡ true →
    model_ex s f g (plain_node (binary o) (two_exs a b)) ≡ between (binary o) (model_ex s f g a) (model_ex s f g b)
model-plain s f g o a b h p =
    marked (binary o) (is_model_node s f g (binary o) (two_exs (with_cells s g a) (with_cells s g b))) (plain_node (binary o) (two_exs (with_cells s g a) (with_cells s g b)))
    ∙ when-of _ _ (plain_node (binary o) (two_exs (with_cells s g a) (with_cells s g b)))
    (other (is_lex_operator o) _ _ h ∙ plain-both (is_plain_operator o) (is_model_ex s f g (with_cells s g a)) (is_model_ex s f g (with_cells s g b)) p)
    ∙ between-when (binary o) (is_model_ex s f g (with_cells s g a)) (is_model_ex s f g (with_cells s g b)) (with_cells s g a) (with_cells s g b)

-- ---- words

-- The word `toInt`.
pub model-to_int : (s : Scope) (f : Bool) (g : List Text) (a : Ex) → model_ex s f g (plain_node (Op.word Fun.ToInt) (one_ex a)) ≡ under (Op.word Fun.ToInt) (model_ex s f g a)
model-to_int s f g a = under-when (Op.word Fun.ToInt) (is_model_ex s f g (with_cells s g a)) (with_cells s g a)

word-node : (s : Scope) (f : Bool) (g : List Text) (w : Fun) (a : Ex) → is_fold w ≡ true → is_model_node s f g (Op.word w) (one_ex a) ≡ is_model_list s f g a
word-node s f g Fun.And a h = refl
word-node s f g Fun.Or a h = refl
word-node s f g Fun.Sum a h = refl
word-node s f g Fun.Product a h = refl
word-node s f g Fun.Min a h = refl
word-node s f g Fun.Max a h = refl
word-node s f g Fun.AllDiff a h = refl
word-node s f g _ a h = cc

-- A word over a list.
pub model-fold : (s : Scope) (f : Bool) (g : List Text) (w : Fun) (a : Ex) → is_fold w ≡ true → model_ex s f g (plain_node (Op.word w) (one_ex a)) ≡ under (Op.word w) (model_list s f g a)
model-fold s f g w a h =
    marked (Op.word w) (is_model_node s f g (Op.word w) (one_ex (with_cells s g a))) (plain_node (Op.word w) (one_ex (with_cells s g a)))
    ∙ when-of _ _ (plain_node (Op.word w) (one_ex (with_cells s g a))) (word-node s f g w (with_cells s g a) h)
    ∙ under-when (Op.word w) (is_model_list s f g (with_cells s g a)) (with_cells s g a)

-- ---- lists of expressions

-- Whether it is an expression of a model, with its cells.
abbrev pub is_one : Scope → Bool → List Text → Ex → Bool
is_one s f g e = is_model_ex s f g (with_cells s g e)

pub put-first : {A : Type 0} (b c : Bool) (x : A) (xs : List A) → and_then (when b x) (λ y. option_map (λ ys. y ∷ ys) (when c xs)) ≡ when (b && c) (x ∷ xs)
put-first true true x xs = refl
put-first true false x xs = refl
put-first false c x xs = refl

pub each-when : {A B : Type 0} (p : A → Bool) (q : A → B) (xs : List A) → each_of xs (λ x. when (p x) (q x)) ≡ when (list_all p xs) (map q xs)
each-when p q [] = refl
each-when p q (x ∷ xs) = ap (λ o. and_then (when (p x) (q x)) (λ y. option_map (λ ys. y ∷ ys) o)) (each-when p q xs) ∙ put-first (p x) (list_all p xs) (q x) (map q xs)

pub are-all : (s : Scope) (f : Bool) (g : List Text) (es : List Ex) → are_model_exs s f g (all_with_cells s g (exs_of es)) ≡ list_all (is_one s f g) es
are-all s f g [] = refl
are-all s f g (e ∷ es) = ap (λ b. is_one s f g e && b) (are-all s f g es)

pub all-cells : (s : Scope) (g : List Text) (es : List Ex) → all_with_cells s g (exs_of es) ≡ P.exs_of (map (with_cells s g) es)
all-cells s g [] = refl
all-cells s g (e ∷ es) = ap (λ xs. more_exs (with_cells s g e) xs) (all-cells s g es)

pub map-when : {A B : Type 0} (F : A → B) (b : Bool) (x : A) → when b (F x) ≡ option_map F (when b x)
map-when F true x = refl
map-when F false x = refl

-- A list of items.
pub model-items : (s : Scope) (f : Bool) (g : List Text) (es : List Ex) → model_list s f g (node_ex false matrix_literal (exs_of es)) ≡ option_map items_ex (each_of es (model_ex s f g))
model-items s f g es =
    ap (λ b. when b (node_ex false matrix_literal (all_with_cells s g (exs_of es)))) (are-all s f g es)
    ∙ ap (λ xs. when (list_all (is_one s f g) es) (node_ex false matrix_literal xs)) (all-cells s g es)
    ∙ map-when items_ex (list_all (is_one s f g) es) (map (with_cells s g) es)
    ∙ ap (option_map items_ex) (sym (each-when (is_one s f g) (with_cells s g) es))

-- ---- tables at indices

access-cell : (s : Scope) (g : List Text) (a : Text) (ss : List Step) (es : Exs) → cell_or_node s false (index ss) (more_exs (named_cell s g a) es) ≡ cell_ex (is_truth_table s a) a es
access-cell s g a ss es = go (is_among g a) (look s.tables a) refl
  where
    go : (b : Bool) (o : Option Bool) → o ≡ look s.tables a → cell_or_node s false (index ss) (more_exs (if b then name_ex a else cell_or_name a o) es) ≡ cell_ex (is_truth_table s a) a es
    go true o h = refl
    go false (Some c) h = ap (λ o. cell_ex (elim o [ Some b ↦ b | None ↦ false ]) a es) h
    go false None h = refl

table-when : (s : Scope) (m l : Bool) (a : Text) (xs : List Ex) → when (m && l) (cell_ex (is_truth_table s a) a (P.exs_of xs)) ≡ and_then (when m a) (λ a. option_map (λ es. cell_ex (is_truth_table s a) a (P.exs_of es)) (when l xs))
table-when s true true a xs = refl
table-when s true false a xs = refl
table-when s false l a xs = refl

joined-test : (m t p q : Bool) → t ≡ true → (((m && t) && p) && q) ≡ (m && (p && q))
joined-test true t true q h = ap (λ t. (t && true) && q) h
joined-test true t false q h = ap (λ t. (t && false) && q) h
joined-test false t p q h = refl

some-table : (s : Scope) (f : Bool) (g : List Text) (a : Text) (e : Ex) (es : List Ex) →
    when (is_model_ex s f g (cell_ex (is_truth_table s a) a (all_with_cells s g (exs_of (e ∷ es))))) (cell_ex (is_truth_table s a) a (all_with_cells s g (exs_of (e ∷ es)))) ≡ table_at s f a (each_of (e ∷ es) (model_ex s f g))
some-table s f g a e es =
    when-of _ _ (cell_ex (is_truth_table s a) a (all_with_cells s g (exs_of (e ∷ es))))
    (joined-test (may_stand s f a) (same_truth (is_truth_table s a) (is_truth_table s a)) (is_one s f g e) (are_model_exs s f g (all_with_cells s g (exs_of es))) (same-itself (is_truth_table s a))
    ∙ ap (λ b. may_stand s f a && (is_one s f g e && b)) (are-all s f g es))
    ∙ ap (λ xs. when (may_stand s f a && list_all (is_one s f g) (e ∷ es)) (cell_ex (is_truth_table s a) a xs)) (all-cells s g (e ∷ es))
    ∙ table-when s (may_stand s f a) (list_all (is_one s f g) (e ∷ es)) a (map (with_cells s g) (e ∷ es))
    ∙ ap (λ o. table_at s f a o) (sym (each-when (is_one s f g) (with_cells s g) (e ∷ es)))

no-steps : (ss : List Step) (e : Ex) → fit_operands (index ss) (more_exs e (exs_of [])) ≡ true → ⊥
no-steps [] e h = cc
no-steps (Step.by_value ∷ ss) e h = cc
no-steps (Step.to_component k ∷ ss) e h = cc
no-steps (Step.to_field a ∷ ss) e h = cc

table-steps : (s : Scope) (f : Bool) (g : List Text) (a : Text) (ss : List Step) (es : List Ex) → fit_operands (index ss) (more_exs (name_ex a) (exs_of es)) ≡ true →
    model_ex s f g (node_ex false (index ss) (more_exs (name_ex a) (exs_of es))) ≡ table_at s f a (each_of es (model_ex s f g))
table-steps s f g a ss [] h = absurd (no-steps ss (name_ex a) h)
table-steps s f g a ss (e ∷ es) h = ap (λ x. when (is_model_ex s f g x) x) (access-cell s g a ss (all_with_cells s g (exs_of (e ∷ es)))) ∙ some-table s f g a e es

-- A table at its indices.
pub model-access : (s : Scope) (f : Bool) (g : List Text) (a : Text) (ws : List (With Step)) → ReadableEx (access (name_ex a) ws) → model_ex s f g (access (name_ex a) ws) ≡ table_at s f a (each_of (within ws) (model_ex s f g))
model-access s f g a ws r = table-steps s f g a (words_of ws) (within ws) r.1

steps-fit : (ss : List Step) (e : Ex) (es : Exs) → fit_operands (index ss) (more_exs e es) ≡ true → fit_steps ss es ≡ true
steps-fit [] e es h = cc
steps-fit (s ∷ ss) e es h = h

-- Its steps are by value.
pub readable-steps : (e : Ex) (ws : List (With Step)) → ReadableEx (access e ws) → IsTrue (fit_steps (words_of ws) (exs_of (within ws))) × ReadableExs (exs_of (within ws))
readable-steps e ws r = (steps-fit (words_of ws) e (exs_of (within ws)) r.1, (r.2).1)

-- ---- what is no list, and what is none of a model

-- An access is no list.
pub model_no_list : (s : Scope) (f : Bool) (g : List Text) (b : Bool) (ss : List Step) (e : Ex) (es : Exs) → model_list s f g (node_ex b (index ss) (more_exs e es)) ≡ None
model_no_list s f g b ss e es = go (with_cells s g e) (all_with_cells s g es)
  where
    go : (x : Ex) (xs : Exs) → when (is_model_list s f g (cell_or_node s b (index ss) (more_exs x xs))) (cell_or_node s b (index ss) (more_exs x xs)) ≡ None
    go (number_ex n) xs = refl
    go (truth_ex c) xs = refl
    go (name_ex a) xs = refl
    go (node_ex c op fs) xs = refl
    go (matrix_ex fs d) xs = refl
    go (comp_ex e gs) xs = refl
    go (cell_ex c a no_exs) xs = refl
    go (cell_ex c a (more_exs y ys)) xs = refl
    go (seen_ex r d ns fs) xs = refl

-- Nor is a name.
pub model_list_name : (s : Scope) (f : Bool) (g : List Text) (a : Text) → model_list s f g (name_ex a) ≡ None
model_list_name s f g a = go (is_among g a) (look s.tables a)
  where
    go : (b : Bool) (o : Option Bool) → when (is_model_list s f g (if b then name_ex a else cell_or_name a o)) (if b then name_ex a else cell_or_name a o) ≡ None
    go true o = refl
    go false (Some c) = refl
    go false None = refl

word-none : (s : Scope) (f : Bool) (g : List Text) (w : Fun) → is_model_node s f g (Op.word w) no_exs ≡ false
word-none s f g Fun.ToInt = refl
word-none s f g _ = refl

word-several : (s : Scope) (f : Bool) (g : List Text) (w : Fun) (a b : Ex) (es : Exs) → is_model_node s f g (Op.word w) (more_exs a (more_exs b es)) ≡ false
word-several s f g Fun.ToInt a b es = refl
word-several s f g _ a b es = refl

-- A word over no operand or over several is none of a model.
pub model-no_operand : (s : Scope) (f : Bool) (g : List Text) (w : Fun) → model_ex s f g (plain_node (Op.word w) no_exs) ≡ None
model-no_operand s f g w =
    marked (Op.word w) (is_model_node s f g (Op.word w) no_exs) (plain_node (Op.word w) no_exs) ∙ when-of (is_model_node s f g (Op.word w) no_exs) false (plain_node (Op.word w) no_exs) (word-none s f g w)

pub model-several : (s : Scope) (f : Bool) (g : List Text) (w : Fun) (a b : Ex) (es : Exs) → model_ex s f g (plain_node (Op.word w) (more_exs a (more_exs b es))) ≡ None
model-several s f g w a b es =
    let fs : Exs = more_exs (with_cells s g a) (more_exs (with_cells s g b) (all_with_cells s g es)) in
    marked (Op.word w) (is_model_node s f g (Op.word w) fs) (plain_node (Op.word w) fs)
    ∙ when-of (is_model_node s f g (Op.word w) fs) false (plain_node (Op.word w) fs) (word-several s f g w (with_cells s g a) (with_cells s g b) (all_with_cells s g es))

-- Whether the tree is a list: items, or a comprehension.
abbrev pub is_list_form : Ex → Bool
is_list_form (node_ex b matrix_literal es) = true
is_list_form (comp_ex e gs) = true
is_list_form e = false

-- No other tree is one.
pub list_none : (s : Scope) (f : Bool) (g : List Text) (e : Ex) → is_list_form e ≡ false → model_list s f g e ≡ None
list_none s f g (number_ex n) h = refl
list_none s f g (truth_ex b) h = refl
list_none s f g (name_ex a) h = model_list_name s f g a
list_none s f g (node_ex b matrix_literal es) h = cc
list_none s f g (node_ex b (index ss) no_exs) h = refl
list_none s f g (node_ex b (index ss) (more_exs e es)) h = model_no_list s f g b ss e es
list_none s f g (node_ex b (unary o) es) h = refl
list_none s f g (node_ex b (binary o) es) h = refl
list_none s f g (node_ex b (Op.word w) es) h = refl
list_none s f g (node_ex b Op.application es) h = refl
list_none s f g (node_ex b Op.tuple_literal es) h = refl
list_none s f g (node_ex b Op.set_literal es) h = refl
list_none s f g (node_ex b Op.mset_literal es) h = refl
list_none s f g (node_ex b Op.function_literal es) h = refl
list_none s f g (node_ex b Op.relation_literal es) h = refl
list_none s f g (node_ex b Op.partition_literal es) h = refl
list_none s f g (node_ex b (Op.record_literal ns) es) h = refl
list_none s f g (matrix_ex es d) h = refl
list_none s f g (comp_ex e gs) h = cc
list_none s f g (cell_ex b a es) h = refl
list_none s f g (seen_ex r d ns es) h = refl
