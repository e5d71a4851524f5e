-- What the parts of a tree were converted to, put together, is what the tree is converted to.
use Rattle.std.proofs.Common.{◌≡◌, refl, sym, ap, ◌∙◌, subst, Bool, true, false, ◌&&◌, ◌||◌, not, List, [], ◌∷◌, ◌++◌, map, length, get_or, Option, Some, None, Ok, Err, IfOk, arith}
use Rattle.std.specs.Option.{option_map}
use Rattle.std.specs.declared.result.Result.{Result}
use Rattle.ess_semantics.specs.declared.words.Op1.{Op1}
use Rattle.ess_semantics.specs.declared.words.Op2.{Op2}
use Rattle.ess_semantics.specs.declared.words.Fun.{Fun}
use Rattle.ess_semantics.specs.Values.{Text}
use Rattle.ess_semantics.specs.Lists.{when, and_then, each_of}
use Rattle.ess_semantics.specs.Names.{is_among}
use Rattle.ess_semantics.specs.Trees as pure
use Rattle.ess_semantics.specs.Trees.{Op, unary, binary, plain_node}
use Rattle.ess_grammar.specs.Grammar.{one_ex}
use Rattle.ess_grammar.specs.Readable.{is_name_token, ReadableEx}
use Rattle.ess_grammar.specs.Models.{Scope, is_truth_table, may_stand, names_of_gens, is_lex_operator, is_plain_operator, is_fold}
use Rattle.ess_core.specs.TreeViews.{With, within, Item, pure_ex, pure_exs, pure_gen, pure_gens, pure_dom, pure_range}
use Rattle.ess_core.specs.declared.expressions.Ex.{Ex}
use Rattle.ess_core.specs.declared.expressions.Gen.{Gen}
use Rattle.ess_core.specs.declared.expressions.Pat.{Pat}
use Rattle.ess_core.specs.declared.domains.Dom.{Dom}
use Rattle.ess_core.specs.declared.domains.Range.{Range}
use Rattle.ess_core.specs.declared.expressions.Ex.TheVariants as ex
use Rattle.ess_core.specs.declared.expressions.Gen.TheVariants as gen
use Rattle.ess_core.specs.declared.expressions.Pat.TheVariants as pat
use Rattle.ess_core.specs.declared.domains.Dom.TheVariants as dom
use Rattle.ess_core.specs.declared.domains.Range.TheVariants as range
use Rattle.ess_core.proofs.ExpressionEquations.{pure_one, pure_two, pure_comp, pure_plain_matrix}
use Rattle.ess_core.proofs.PartEquations.{pure_gen_over, pure_gen_if, pure_pat_name, pure_range_one, pure_range_span}
use Rattle.ess_core.proofs.DomainEquations.{pure_int}
use Rattle.eprime_tree.specs.declared.words.POp1.{POp1}
use Rattle.eprime_tree.specs.declared.words.POp2.{POp2}
use Rattle.eprime_tree.specs.declared.words.PFun.{PFun}
use Rattle.eprime_tree.specs.Views as P
use Rattle.eprime_tree.specs.Views.{pure_op1, pure_op2, pure_fun}
use Rattle.eprime_read_convert.specs.Converted.{bounds, model_ex, model_list, model_item, model_items, model_dom, model_range, under, between, comprehension, access, items_ex, name_in, some_ranges, as_value, as_span, as_low, as_high, ReadableItem}
use Rattle.eprime_read_convert.proofs.OnlyTables.{model-no_table}
use Rattle.eprime_read_convert.proofs.ModelNodes.{model-unary, model-lex, model-plain, model-to_int, model-fold, model-items, model-access, model-no_operand, model-several}
use Rattle.eprime_read_convert.proofs.ModelLists.{model-comp, model-int}
use Rattle.eprime_read_convert.proofs.Readables.{ranges_fit, name_is}

-- What holds of an answer holds of what follows from it.
pub if_ok : {T E : Type 0} {P Q : T → Type 0} (r : Result T E) → IfOk r P → ((o : T) → P o → Q o) → IfOk r Q
if_ok (Ok o) h f = f o h
if_ok (Err e) h f = tt

when-some : {A : Type 0} (c : Bool) (x y : A) → Some x ≡ when c y → (x ≡ y) × (c ≡ true)
when-some true x y h = (cc, refl)
when-some false x y h = cc

-- ---- expressions

pub one_converted : (s : Scope) (f : Bool) (g : List Text) (e a x : Ex) (op : Op1) (p : POp1) (o r : Option pure.Ex) → e ≡ ex.One op a → x ≡ a → pure_op1 p ≡ unary op → o ≡ model_ex s f g (pure_ex x) →
    r ≡ under (pure_op1 p) o → r ≡ model_ex s f g (pure_ex e)
one_converted s f g e a x op p o r he hx hp ho hr =
    hr ∙ ap (λ q. under q o) hp ∙ ap (under (unary op)) (ho ∙ ap (λ x. model_ex s f g (pure_ex x)) hx) ∙ sym (model-unary s f g op (pure_ex a)) ∙ ap (model_ex s f g) (sym (ap pure_ex he ∙ pure_one op a))

pub lex_converted : (s : Scope) (f : Bool) (g : List Text) (e a b x y : Ex) (op : Op2) (p : POp2) (o q r : Option pure.Ex) → e ≡ ex.Two op a b → x ≡ a → y ≡ b →
    Some (pure_op2 p) ≡ when (is_lex_operator op || is_plain_operator op) op → is_lex_operator op ≡ true → o ≡ model_list s f g (pure_ex x) → q ≡ model_list s f g (pure_ex y) →
    r ≡ between (binary (pure_op2 p)) o q → r ≡ model_ex s f g (pure_ex e)
lex_converted s f g e a b x y op p o q r he hx hy hp hl ho hq hr =
    hr
    ∙ ap (λ c. between (binary c) o q) (when-some _ _ _ hp).0
    ∙ ap (λ o. between (binary op) o q) (ho ∙ ap (λ x. model_list s f g (pure_ex x)) hx)
    ∙ ap (between (binary op) (model_list s f g (pure_ex a))) (hq ∙ ap (λ y. model_list s f g (pure_ex y)) hy)
    ∙ sym (model-lex s f g op (pure_ex a) (pure_ex b) hl)
    ∙ ap (model_ex s f g) (sym (ap pure_ex he ∙ pure_two op a b))

plain-of : (l p : Bool) → l ≡ false → (l || p) ≡ true → p ≡ true
plain-of true p h k = cc
plain-of false p h k = k

pub plain_converted : (s : Scope) (f : Bool) (g : List Text) (e a b x y : Ex) (op : Op2) (p : POp2) (o q r : Option pure.Ex) → e ≡ ex.Two op a b → x ≡ a → y ≡ b →
    Some (pure_op2 p) ≡ when (is_lex_operator op || is_plain_operator op) op → is_lex_operator op ≡ false → o ≡ model_ex s f g (pure_ex x) → q ≡ model_ex s f g (pure_ex y) →
    r ≡ between (binary (pure_op2 p)) o q → r ≡ model_ex s f g (pure_ex e)
plain_converted s f g e a b x y op p o q r he hx hy hp hl ho hq hr =
    hr
    ∙ ap (λ c. between (binary c) o q) (when-some _ _ _ hp).0
    ∙ ap (λ o. between (binary op) o q) (ho ∙ ap (λ x. model_ex s f g (pure_ex x)) hx)
    ∙ ap (between (binary op) (model_ex s f g (pure_ex a))) (hq ∙ ap (λ y. model_ex s f g (pure_ex y)) hy)
    ∙ sym (model-plain s f g op (pure_ex a) (pure_ex b) hl (plain-of (is_lex_operator op) (is_plain_operator op) hl (when-some _ _ _ hp).1))
    ∙ ap (model_ex s f g) (sym (ap pure_ex he ∙ pure_two op a b))

pub to_int_converted : (s : Scope) (f : Bool) (g : List Text) (w : Fun) (x : Ex) (o r : Option pure.Ex) → w ≡ Fun.ToInt → o ≡ model_ex s f g (pure_ex x) → r ≡ under (pure_op1 POp1.ToInt) o →
    r ≡ model_ex s f g (plain_node (Op.word w) (one_ex (pure_ex x)))
to_int_converted s f g w x o r hw ho hr =
    hr ∙ ap (under (Op.word Fun.ToInt)) ho ∙ sym (model-to_int s f g (pure_ex x)) ∙ ap (λ w. model_ex s f g (plain_node (Op.word w) (one_ex (pure_ex x)))) (sym hw)

pub fold_converted : (s : Scope) (f : Bool) (g : List Text) (w : Fun) (p : PFun) (x : Ex) (o r : Option pure.Ex) → Some (pure_fun p) ≡ when (is_fold w) w → o ≡ model_list s f g (pure_ex x) →
    r ≡ under (Op.word (pure_fun p)) o → r ≡ model_ex s f g (plain_node (Op.word w) (one_ex (pure_ex x)))
fold_converted s f g w p x o r hp ho hr =
    hr ∙ ap (λ c. under (Op.word c) o) (when-some _ _ _ hp).0 ∙ ap (under (Op.word w)) ho ∙ sym (model-fold s f g w (pure_ex x) (when-some _ _ _ hp).1)

one-item : (es : List Ex) (x : Ex) → length es ≡ 1 → x ≡ get_or es 0 x → pure_exs es ≡ one_ex (pure_ex x)
one-item [] x h k = absurd (omega (arith, h))
one-item (e ∷ []) x h k = ap (λ e. one_ex (pure_ex e)) (sym k)
one-item (e ∷ d ∷ es) x h k = absurd (omega (arith, h))

-- The operands of a word are one.
pub call_converted : (s : Scope) (f : Bool) (g : List Text) (w : Fun) (es : List Ex) (x : Ex) (r : Option pure.Ex) → length es ≡ 1 → x ≡ get_or es 0 x →
    r ≡ model_ex s f g (plain_node (Op.word w) (one_ex (pure_ex x))) → r ≡ model_ex s f g (plain_node (Op.word w) (pure_exs es))
call_converted s f g w es x r h k hr = hr ∙ ap (λ es. model_ex s f g (plain_node (Op.word w) es)) (sym (one-item es x h k))

-- Where they are none or several there is none.
pub call_none : (s : Scope) (f : Bool) (g : List Text) (w : Fun) (es : List Ex) → ¬ (length es ≡ 1) → None ≡ model_ex s f g (plain_node (Op.word w) (pure_exs es))
call_none s f g w [] h = sym (model-no_operand s f g w)
call_none s f g w (e ∷ []) h = absurd (h (omega arith))
call_none s f g w (e ∷ d ∷ es) h = sym (model-several s f g w (pure_ex e) (pure_ex d) (pure_exs es))

access-name : (s : Scope) (f : Bool) (a : Text) (ws : List (With pure.Step)) → ReadableEx (access (pure.name_ex a) ws) → may_stand s f a ≡ (f || not (is_among s.finds a))
access-name s f a ws r = ap (λ b. b && (f || not (is_among s.finds a))) ((r.2).0)

access-where : (s : Scope) (f : Bool) (g : List Text) (a : Text) (ws : List (With pure.Step)) (b c : Bool) → ReadableEx (access (pure.name_ex a) ws) → b ≡ (f || not (is_among s.finds a)) → b ≡ c →
    and_then (when c a) (λ a. option_map (λ es. pure.cell_ex (is_truth_table s a) a (P.exs_of es)) (each_of (within ws) (model_ex s f g))) ≡ model_ex s f g (access (pure.name_ex a) ws)
access-where s f g a ws b c rd hb h =
    ap (λ b. and_then (when b a) (λ a. option_map (λ es. pure.cell_ex (is_truth_table s a) a (P.exs_of es)) (each_of (within ws) (model_ex s f g)))) (sym (access-name s f a ws rd ∙ sym hb ∙ h))
    ∙ sym (model-access s f g a ws rd)

pub access_converted : (s : Scope) (f : Bool) (g : List Text) (e : pure.Ex) (a : Text) (ws : List (With pure.Step)) (b : Bool) (o : Option (List pure.Ex)) (r : Option pure.Ex) → Some a ≡ name_in e → ReadableEx (access e ws) →
    b ≡ (f || not (is_among s.finds a)) → b ≡ true → o ≡ each_of (within ws) (model_ex s f g) → r ≡ option_map (λ es. pure.cell_ex (is_truth_table s a) a (P.exs_of es)) o → r ≡ model_ex s f g (access e ws)
access_converted s f g e a ws b o r hn rd hb h ho hr =
    let k : e ≡ pure.name_ex a = name_is e a (sym hn) in
    hr ∙ ap (option_map (λ es. pure.cell_ex (is_truth_table s a) a (P.exs_of es))) ho
    ∙ access-where s f g a ws b true (subst (λ e. ReadableEx (access e ws)) k rd) hb h
    ∙ ap (λ e. model_ex s f g (access e ws)) (sym k)

pub access_none : (s : Scope) (f : Bool) (g : List Text) (e : pure.Ex) (a : Text) (ws : List (With pure.Step)) (b : Bool) → Some a ≡ name_in e → ReadableEx (access e ws) → b ≡ (f || not (is_among s.finds a)) → b ≡ false →
    None ≡ model_ex s f g (access e ws)
access_none s f g e a ws b hn rd hb h =
    let k : e ≡ pure.name_ex a = name_is e a (sym hn) in
    access-where s f g a ws b false (subst (λ e. ReadableEx (access e ws)) k rd) hb h ∙ ap (λ e. model_ex s f g (access e ws)) (sym k)

pub at_none : (s : Scope) (f : Bool) (g : List Text) (e : pure.Ex) (ws : List (With pure.Step)) → None ≡ name_in e → ReadableEx (access e ws) → None ≡ model_ex s f g (access e ws)
at_none s f g e ws hn rd = sym (model-no_table s f g e ws (sym hn) rd)

-- ---- lists

pub items_converted : (s : Scope) (f : Bool) (g : List Text) (e : Ex) (xs ys : List Ex) (d : Option Dom) (o : Option (List pure.Ex)) (r : Option pure.Ex) → e ≡ ex.Matrix xs d → d ≡ None → ys ≡ xs →
    o ≡ each_of (map pure_ex ys) (model_ex s f g) → r ≡ option_map items_ex o → r ≡ model_list s f g (pure_ex e)
items_converted s f g e xs ys d o r he hd hy ho hr =
    hr ∙ ap (option_map items_ex) (ho ∙ ap (λ ys. each_of (map pure_ex ys) (model_ex s f g)) hy) ∙ sym (model-items s f g (map pure_ex xs))
    ∙ ap (model_list s f g) (sym (ap pure_ex (he ∙ ap (ex.Matrix xs) hd) ∙ pure_plain_matrix xs))

pub comp_converted : (s : Scope) (f : Bool) (g : List Text) (e b x : Ex) (gs hs ks : List Gen) (ns : List Text) (o : Option pure.Ex) (q : Option (List P.Item)) (r : Option pure.Ex) → e ≡ ex.Comp b gs → x ≡ b → hs ≡ gs → ks ≡ gs →
    ReadableEx (pure_ex e) → ns ≡ names_of_gens (pure_gens hs) ++ g → o ≡ model_ex s f ns (pure_ex x) → q ≡ model_items s g (map pure_gen ks) → r ≡ comprehension o q → r ≡ model_list s f g (pure_ex e)
comp_converted s f g e b x gs hs ks ns o q r he hx hh hk rd hn ho hq hr =
    let m : pure_ex e ≡ pure.comp_ex (pure_ex b) (pure_gens gs) = ap pure_ex he ∙ pure_comp b gs in
    let c : ReadableEx (pure.comp_ex (pure_ex b) (pure_gens gs)) = subst ReadableEx m rd in
    hr
    ∙ ap (λ o. comprehension o q) (ho ∙ ap (λ x. model_ex s f ns (pure_ex x)) hx ∙ ap (λ ns. model_ex s f ns (pure_ex b)) (hn ∙ ap (λ gs. names_of_gens (pure_gens gs) ++ g) hh))
    ∙ ap (comprehension (model_ex s f (names_of_gens (pure_gens gs) ++ g) (pure_ex b))) (hq ∙ ap (λ ks. model_items s g (map pure_gen ks)) hk)
    ∙ sym (model-comp s f g (pure_ex b) (map pure_gen gs) c.1)
    ∙ ap (model_list s f g) (sym m)

-- ---- items of comprehensions

over-name : (s : Scope) (a : Text) (b : Bool) → is_name_token a ≡ true → b ≡ is_among s.finds a → b ≡ false → may_stand s false a ≡ true
over-name s a b t hb h = ap (λ c. c && (false || not (is_among s.finds a))) t ∙ ap (λ c. not c) (sym hb ∙ h)

pub over_converted : (s : Scope) (g : List Text) (i : Gen) (p : Pat) (a : Text) (d : Dom) (b : Bool) (o : Option pure.Dom) (r : Option P.Item) → i ≡ gen.Over p d → p ≡ pat.Name a → ReadableItem (pure_gen i) →
    b ≡ is_among s.finds a → b ≡ false → o ≡ model_dom s false g (pure_dom d) → r ≡ option_map (P.over_item a) o → r ≡ model_item s g (pure_gen i)
over_converted s g i p a d b o r hi hp rd hb h ho hr =
    let m : pure_gen i ≡ Item.over_item (pure.name_pat a) (pure_dom d) = ap pure_gen (hi ∙ ap (λ p. gen.Over p d) hp) ∙ pure_gen_over (pat.Name a) d ∙ ap (λ p. Item.over_item p (pure_dom d)) (pure_pat_name a) in
    let c : ReadableItem (Item.over_item (pure.name_pat a) (pure_dom d)) = subst ReadableItem m rd in
    hr ∙ ap (option_map (P.over_item a)) ho
    ∙ ap (λ b. and_then (when b a) (λ a. option_map (P.over_item a) (model_dom s false g (pure_dom d)))) (sym (over-name s a b c.0 hb h))
    ∙ ap (model_item s g) (sym m)

pub test_converted : (s : Scope) (g : List Text) (i : Gen) (x : Ex) (o : Option pure.Ex) (r : Option P.Item) → i ≡ gen.If x → o ≡ model_ex s false g (pure_ex x) → r ≡ option_map P.cond_item o → r ≡ model_item s g (pure_gen i)
test_converted s g i x o r hi ho hr = hr ∙ ap (option_map P.cond_item) ho ∙ ap (model_item s g) (sym (ap pure_gen hi ∙ pure_gen_if x))

-- ---- domains

pub int_converted : (s : Scope) (h : Bool) (g : List Text) (d : Dom) (rs ss ts : List Range) (b : Bool) (o : Option (List P.Bounds)) (r : Option pure.Dom) → d ≡ dom.Int rs → ss ≡ rs → ts ≡ rs →
    b ≡ (h || some_ranges (map pure_range ss)) → b ≡ true → o ≡ each_of (map pure_range ts) (model_range s h g) → r ≡ option_map P.int_of o → r ≡ model_dom s h g (pure_dom d)
int_converted s h g d rs ss ts b o r hd hs ht hb hh ho hr =
    hr ∙ ap (option_map P.int_of) (ho ∙ ap (λ ts. each_of (map pure_range ts) (model_range s h g)) ht)
    ∙ sym (model-int s h g (map pure_range rs) (ranges_fit rs) (sym (hb ∙ ap (λ ss. h || some_ranges (map pure_range ss)) hs) ∙ hh))
    ∙ ap (model_dom s h g) (sym (ap pure_dom hd ∙ pure_int rs))

value-range : (s : Scope) (h : Bool) (g : List Text) (a : pure.Ex) → as_value (model_ex s false g a) ≡ model_range s h g (pure.one_value, a ∷ [])
value-range s true g a = go (model_ex s false g a)
  where
    go : (o : Option pure.Ex) → as_value o ≡ option_map (bounds pure.one_value) (and_then o (λ y. Some (y ∷ [])))
    go None = refl
    go (Some x) = refl
value-range s false g a = go (model_ex s false g a)
  where
    go : (o : Option pure.Ex) → as_value o ≡ option_map (bounds pure.one_value) (and_then o (λ y. Some (y ∷ [])))
    go None = refl
    go (Some x) = refl

pub value_converted : (s : Scope) (h : Bool) (g : List Text) (r : Range) (x : Ex) (o : Option pure.Ex) (q : Option P.Bounds) → r ≡ range.One x → o ≡ model_ex s false g (pure_ex x) → q ≡ as_value o → q ≡ model_range s h g (pure_range r)
value_converted s h g r x o q hr ho hq = hq ∙ ap as_value ho ∙ value-range s h g (pure_ex x) ∙ ap (model_range s h g) (sym (ap pure_range hr ∙ pure_range_one x))

two-bounds : (o p : Option pure.Ex) → as_span o p ≡ option_map (bounds pure.both_ends) (and_then o (λ y. option_map (λ ys. y ∷ ys) (and_then p (λ z. Some (z ∷ [])))))
two-bounds None p = refl
two-bounds (Some a) None = refl
two-bounds (Some a) (Some b) = refl

span-range : (s : Scope) (h : Bool) (g : List Text) (a b : pure.Ex) → as_span (model_ex s false g a) (model_ex s false g b) ≡ model_range s h g (pure.both_ends, a ∷ b ∷ [])
span-range s true g a b = two-bounds (model_ex s false g a) (model_ex s false g b)
span-range s false g a b = two-bounds (model_ex s false g a) (model_ex s false g b)

pub span_converted : (s : Scope) (h : Bool) (g : List Text) (r : Range) (c d : Option Ex) (x y : Ex) (o p : Option pure.Ex) (q : Option P.Bounds) → r ≡ range.Span c d → c ≡ Some x → d ≡ Some y →
    o ≡ model_ex s false g (pure_ex x) → p ≡ model_ex s false g (pure_ex y) → q ≡ as_span o p → q ≡ model_range s h g (pure_range r)
span_converted s h g r c d x y o p q hr hc hd ho hp hq =
    hq ∙ ap (λ o. as_span o p) ho ∙ ap (as_span (model_ex s false g (pure_ex x))) hp ∙ span-range s h g (pure_ex x) (pure_ex y)
    ∙ ap (model_range s h g) (sym (ap pure_range (hr ∙ ap (λ c. range.Span c d) hc ∙ ap (range.Span (Some x)) hd) ∙ pure_range_span (Some x) (Some y)))

one-bound : (e : pure.Ends) (o : Option pure.Ex) → option_map (λ a. bounds e (a ∷ [])) o ≡ option_map (bounds e) (and_then o (λ y. Some (y ∷ [])))
one-bound e None = refl
one-bound e (Some a) = refl

pub low_converted : (s : Scope) (h : Bool) (g : List Text) (r : Range) (c d : Option Ex) (x : Ex) (o : Option pure.Ex) (q : Option P.Bounds) → r ≡ range.Span c d → c ≡ Some x → d ≡ None → h ≡ true →
    o ≡ model_ex s false g (pure_ex x) → q ≡ as_low o → q ≡ model_range s h g (pure_range r)
low_converted s h g r c d x o q hr hc hd hh ho hq =
    hq ∙ ap as_low ho ∙ one-bound pure.low_end (model_ex s false g (pure_ex x)) ∙ ap (λ h. model_range s h g (pure.low_end, pure_ex x ∷ [])) (sym hh)
    ∙ ap (model_range s h g) (sym (ap pure_range (hr ∙ ap (λ c. range.Span c d) hc ∙ ap (range.Span (Some x)) hd) ∙ pure_range_span (Some x) None))

pub high_converted : (s : Scope) (h : Bool) (g : List Text) (r : Range) (c d : Option Ex) (y : Ex) (o : Option pure.Ex) (q : Option P.Bounds) → r ≡ range.Span c d → c ≡ None → d ≡ Some y → h ≡ true →
    o ≡ model_ex s false g (pure_ex y) → q ≡ as_high o → q ≡ model_range s h g (pure_range r)
high_converted s h g r c d y o q hr hc hd hh ho hq =
    hq ∙ ap as_high ho ∙ one-bound pure.high_end (model_ex s false g (pure_ex y)) ∙ ap (λ h. model_range s h g (pure.high_end, pure_ex y ∷ [])) (sym hh)
    ∙ ap (model_range s h g) (sym (ap pure_range (hr ∙ ap (λ c. range.Span c d) hc ∙ ap (range.Span None) hd) ∙ pure_range_span None (Some y)))
