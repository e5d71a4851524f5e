-- What is left of parts, put together, is what is left of the tree.
use Rattle.std.proofs.Common.{◌≡◌, refl, sym, ap, ◌∙◌, Bool, true, false, ◌&&◌, if◌then◌else◌, List, [], ◌∷◌, Option, Some, None}
use Rattle.std.specs.Option.{option_map}
use Rattle.ess_semantics.specs.Values.{Text}
use Rattle.ess_semantics.specs.Lists.{when, and_then, each_of}
use Rattle.ess_semantics.specs.Trees.{Op, Ex, node_ex, cell_ex, more_exs, plain_node, is_truth_op}
use Rattle.ess_grammar.specs.Grammar.{one_ex, two_exs}
use Rattle.ess_grammar.specs.Models.{Scope, is_truth_table, same_truth}
use Rattle.ess_core.specs.TreeViews.{exs_of}
use Rattle.eprime_tree.specs.Views as P
use Rattle.eprime_read_convert.specs.Converted.{under, between}
use Rattle.eprime_read_convert.proofs.ModelNodes.{put-first}
use Rattle.eprime_lowering_laws.specs.Lowerable.{is_prefix, is_over_list, is_infix, is_lex, is_lowerable, has_lowerable, are_lowerable, is_lowerable_list}
use Rattle.eprime_lowering.specs.Lowered.{lowered, lowered_list, lowered_node, lowered_fold, lowered_lex}

-- ---- several

pub same-exs : (es : List Ex) → P.exs_of es ≡ exs_of es
same-exs [] = refl
same-exs (e ∷ es) = ap (λ xs. more_exs e xs) (same-exs es)

-- All are left where all are those of a model.
pub each-lowered : (s : Scope) (es : List Ex) → each_of es (lowered s) ≡ when (are_lowerable s (exs_of es)) es
each-lowered s [] = refl
each-lowered s (e ∷ es) =
    ap (λ o. and_then (lowered s e) (λ y. option_map (λ ys. y ∷ ys) o)) (each-lowered s es) ∙ put-first (is_lowerable s e)
    (are_lowerable s (exs_of es)) e es

pub map-lowered : {A B : Type 0} (F : A → B) (b : Bool) (x : A) → option_map F (when b x) ≡ when b (F x)
map-lowered F true x = refl
map-lowered F false x = refl

-- ---- marks

same-equal : (b c : Bool) → same_truth b c ≡ true → b ≡ c
same-equal true c h = sym h
same-equal false true h = cc
same-equal false false h = refl

-- Where the mark is right the rest decides.
marked : {A : Type 0} (t l : Bool) (x : A) → t ≡ true → when (t && l) x ≡ when l x
marked t l x h = ap (λ t. when (t && l) x) h

unmarked : {A : Type 0} (t l : Bool) (x : A) → t ≡ false → None ≡ when (t && l) x
unmarked t l x h = sym (ap (λ t. when (t && l) x) h)

-- ---- cells

-- A cell whose mark is that of its table, as t says.
pub cell_lowered : (s : Scope) (b c t : Bool) (a : Text) (es : List Ex) (o : Option (List Ex)) (r : Option Ex) → c ≡ is_truth_table s a →
    t ≡ same_truth b c → t ≡ true → o ≡ each_of es (lowered s) →
    r ≡ option_map (λ es. cell_ex (is_truth_table s a) a (P.exs_of es)) o → r ≡ lowered s (cell_ex b a (exs_of es))
cell_lowered s b c t a es o r hc ht h ho hr =
    let m : same_truth b (is_truth_table s a) ≡ true = ap (same_truth b) (sym hc) ∙ sym ht ∙ h in
    let l : Bool = are_lowerable s (exs_of es) in
    hr
    ∙ ap (option_map (λ es. cell_ex (is_truth_table s a) a (P.exs_of es))) (ho ∙ each-lowered s es)
    ∙ map-lowered (λ es. cell_ex (is_truth_table s a) a (P.exs_of es)) l es
    ∙ ap (λ xs. when l (cell_ex (is_truth_table s a) a xs)) (same-exs es)
    ∙ ap (λ t. when l (cell_ex t a (exs_of es))) (sym (same-equal b (is_truth_table s a) m))
    ∙ sym (marked (same_truth b (is_truth_table s a)) l (cell_ex b a (exs_of es)) m)

-- One whose mark isn't.
pub cell_none : (s : Scope) (b c t : Bool) (a : Text) (es : List Ex) → c ≡ is_truth_table s a → t ≡ same_truth b c → t ≡ false →
    None ≡ lowered s (cell_ex b a (exs_of es))
cell_none s b c t a es hc ht h =
    unmarked (same_truth b (is_truth_table s a)) (are_lowerable s (exs_of es)) (cell_ex b a (exs_of es))
    (ap (same_truth b) (sym hc) ∙ sym ht ∙ h)

-- ---- operators

-- An operator whose mark is its own.
pub node_lowered : (s : Scope) (b c t : Bool) (op : Op) (es : List Ex) (r : Option Ex) → c ≡ is_truth_op op → t ≡ same_truth b c →
    t ≡ true →
    r ≡ lowered_node s op es → r ≡ lowered s (node_ex b op (exs_of es))
node_lowered s b c t op es r hc ht h hr =
    let m : same_truth b (is_truth_op op) ≡ true = ap (same_truth b) (sym hc) ∙ sym ht ∙ h in
    hr ∙ ap (λ t. when (has_lowerable s op (exs_of es)) (node_ex t op (exs_of es))) (sym (same-equal b (is_truth_op op) m))
    ∙ sym (marked (same_truth b (is_truth_op op)) (has_lowerable s op (exs_of es)) (node_ex b op (exs_of es)) m)

-- One whose mark isn't.
pub node_none : (s : Scope) (b c t : Bool) (op : Op) (es : List Ex) → c ≡ is_truth_op op → t ≡ same_truth b c → t ≡ false →
    None ≡ lowered s (node_ex b op (exs_of es))
node_none s b c t op es hc ht h =
    unmarked (same_truth b (is_truth_op op)) (has_lowerable s op (exs_of es)) (node_ex b op (exs_of es))
    (ap (same_truth b) (sym hc) ∙ sym ht ∙ h)

under-when : (op : Op) (c : Bool) (a : Ex) → under op (when c a) ≡ when c (plain_node op (one_ex a))
under-when op true a = refl
under-when op false a = refl

between-when : (op : Op) (c d : Bool) (a b : Ex) → between op (when c a) (when d b) ≡ when (c && d) (plain_node op (two_exs a b))
between-when op true true a b = refl
between-when op true false a b = refl
between-when op false d a b = refl

-- An operator that a test finds.
found : {A : Type 0} (t : Bool) (p op : A) → Some p ≡ when t op → (p ≡ op) × (t ≡ true)
found true p op h = (cc, refl)
found false p op h = cc

-- One that it doesn't find.
missed : {A : Type 0} (t : Bool) (op : A) → None ≡ when t op → t ≡ false
missed true op h = cc
missed false op h = refl

pub one_lowered : (s : Scope) (op p : Op) (a : Ex) (o r : Option Ex) → Some p ≡ when (is_prefix op) op → o ≡ lowered s a → r ≡ under p o →
    r ≡ lowered_node s op (a ∷ [])
one_lowered s op p a o r hp ho hr =
    let f : (p ≡ op) × (is_prefix op ≡ true) = found (is_prefix op) p op hp in
    hr ∙ ap (λ p. under p o) f.0 ∙ ap (under op) ho ∙ under-when op (is_lowerable s a) a
    ∙ sym (ap (λ t. when (if t then is_lowerable s a else (is_over_list op && is_lowerable_list s a)) (plain_node op (one_ex a))) f.1)

-- A word over a list, where the operator isn't one over an expression.
pub fold_node : (s : Scope) (op : Op) (a : Ex) (r : Option Ex) → None ≡ when (is_prefix op) op → r ≡ lowered_fold s op a →
    r ≡ lowered_node s op (a ∷ [])
fold_node s op a r hn hr =
    hr ∙ sym (ap (λ t. when (if t then is_lowerable s a else (is_over_list op && is_lowerable_list s a)) (plain_node op (one_ex a)))
    (missed (is_prefix op) op hn))

pub fold_lowered : (s : Scope) (op p : Op) (a : Ex) (o r : Option Ex) → Some p ≡ when (is_over_list op) op → o ≡ lowered_list s a →
    r ≡ under p o → r ≡ lowered_fold s op a
fold_lowered s op p a o r hp ho hr =
    let f : (p ≡ op) × (is_over_list op ≡ true) = found (is_over_list op) p op hp in
    hr ∙ ap (λ p. under p o) f.0 ∙ ap (under op) ho ∙ under-when op (is_lowerable_list s a) a
    ∙ sym (ap (λ t. when (t && is_lowerable_list s a) (plain_node op (one_ex a))) f.1)

pub fold_none : (s : Scope) (op : Op) (a : Ex) → None ≡ when (is_over_list op) op → None ≡ lowered_fold s op a
fold_none s op a h = sym (ap (λ t. when (t && is_lowerable_list s a) (plain_node op (one_ex a))) (missed (is_over_list op) op h))

pub two_lowered : (s : Scope) (op p : Op) (a b : Ex) (o q r : Option Ex) → Some p ≡ when (is_infix op) op → o ≡ lowered s a →
    q ≡ lowered s b →
    r ≡ between p o q → r ≡ lowered_node s op (a ∷ b ∷ [])
two_lowered s op p a b o q r hp ho hq hr =
    let f : (p ≡ op) × (is_infix op ≡ true) = found (is_infix op) p op hp in
    hr ∙ ap (λ p. between p o q) f.0 ∙ ap (λ o. between op o q) ho ∙ ap (between op (lowered s a)) hq
    ∙ between-when op (is_lowerable s a) (is_lowerable s b) a b
    ∙ sym (ap (λ t. when (if t then is_lowerable s a && is_lowerable s b else
    (is_lex op && (is_lowerable_list s a && is_lowerable_list s b)))
    (plain_node op (two_exs a b))) f.1)

-- A sign between lists, where the operator isn't one between expressions.
pub lex_node : (s : Scope) (op : Op) (a b : Ex) (r : Option Ex) → None ≡ when (is_infix op) op → r ≡ lowered_lex s op (a ∷ b ∷ []) →
    r ≡ lowered_node s op (a ∷ b ∷ [])
lex_node s op a b r hn hr =
    hr ∙ sym (ap (λ t. when
    (if t then is_lowerable s a && is_lowerable s b else (is_lex op && (is_lowerable_list s a && is_lowerable_list s b)))
    (plain_node op (two_exs a b))) (missed (is_infix op) op hn))

pub lex_lowered : (s : Scope) (op p : Op) (a b : Ex) (o q r : Option Ex) → Some p ≡ when (is_lex op) op → o ≡ lowered_list s a →
    q ≡ lowered_list s b → r ≡ between p o q → r ≡ lowered_lex s op (a ∷ b ∷ [])
lex_lowered s op p a b o q r hp ho hq hr =
    let f : (p ≡ op) × (is_lex op ≡ true) = found (is_lex op) p op hp in
    hr ∙ ap (λ p. between p o q) f.0 ∙ ap (λ o. between op o q) ho ∙ ap (between op (lowered_list s a)) hq
    ∙ between-when op (is_lowerable_list s a) (is_lowerable_list s b) a b
    ∙ sym (ap (λ t. when (t && (is_lowerable_list s a && is_lowerable_list s b)) (plain_node op (two_exs a b))) f.1)

lex-two : (s : Scope) (op : Op) (a b : Ex) → is_lex op ≡ false → None ≡ lowered_lex s op (a ∷ b ∷ [])
lex-two s op a b h = sym (ap (λ t. when (t && (is_lowerable_list s a && is_lowerable_list s b)) (plain_node op (two_exs a b))) h)

pub lex_none : (s : Scope) (op : Op) (es : List Ex) → None ≡ when (is_lex op) op → None ≡ lowered_lex s op es
lex_none s op [] h = refl
lex_none s op (a ∷ []) h = refl
lex_none s op (a ∷ b ∷ []) h = lex-two s op a b (missed (is_lex op) op h)
lex_none s op (a ∷ b ∷ c ∷ es) h = refl
