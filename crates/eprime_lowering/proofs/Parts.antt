-- What is left of lists, generators and domains, of what is left of their parts; and rows of one or two operands.
use Rattle.std.proofs.Common.{◌≡◌, refl, sym, ap, ◌∙◌, Bool, true, false, ◌&&◌, ◌||◌, List, [], ◌∷◌, map, length, get_or, Option, Some, None, arith}
use Rattle.std.specs.Option.{option_map}
use Rattle.ess_semantics.specs.Kinds.{is_bounded}
use Rattle.ess_semantics.specs.Values.{Text}
use Rattle.ess_semantics.specs.Lists.{when, and_then, each_of}
use Rattle.ess_semantics.specs.Trees.{Op, matrix_literal, Ends, name_pat, tuple_pat, Ex, node_ex, comp_ex, Gens, over, cond, Dom, int_dom}
use Rattle.ess_grammar.specs.Readable.{fit_ranges}
use Rattle.ess_grammar.specs.Models.{Scope}
use Rattle.ess_core.specs.TreeViews.{pure_pat, exs_of, Item, over_item, from_item, cond_item, gens_of}
use Rattle.ess_core.specs.declared.expressions.Pat.{Pat}
use Rattle.ess_core.specs.declared.expressions.Pat.TheVariants as pat
use Rattle.ess_core.proofs.PartEquations.{pure_pat_name}
use Rattle.ess_core_nodes.specs.declared.nodes.Node.{Node}
use Rattle.ess_core_nodes.specs.declared.nodes.Gen.{Gen}
use Rattle.ess_core_nodes.specs.declared.nodes.Node.TheVariants as node
use Rattle.ess_core_nodes.specs.declared.nodes.Gen.TheVariants as gen
use Rattle.ess_core_nodes.specs.NodeViews.{pure_node, pure_gen}
use Rattle.ess_core_nodes.proofs.NodeEquations.{pure_gen_if}
use Rattle.eprime_tree.specs.Views as P
use Rattle.eprime_read_convert.specs.Converted.{comprehension, items_ex}
use Rattle.eprime_lowering_laws.specs.Lowerable.{is_lowerable, are_lowerable, are_lowerable_gens, is_lowerable_dom}
use Rattle.eprime_lowering.specs.Lowered.{lowered, lowered_list, lowered_node, lowered_two, lowered_item, lowered_dom, is_list_literal}
use Rattle.eprime_lowering.proofs.Nodes.{comp_is}
use Rattle.eprime_lowering.proofs.Forms.{same-exs, each-lowered, map-lowered}

-- ---- lists

pub items_lowered : (s : Scope) (es : List Ex) (o : Option (List Ex)) (r : Option Ex) → o ≡ each_of es (lowered s) →
    r ≡ option_map items_ex o →
    r ≡ lowered_list s (node_ex false matrix_literal (exs_of es))
items_lowered s es o r ho hr =
    hr ∙ ap (option_map items_ex) (ho ∙ each-lowered s es) ∙ map-lowered items_ex (are_lowerable s (exs_of es)) es
    ∙ ap (λ xs. when (are_lowerable s (exs_of es)) (node_ex false matrix_literal xs)) (same-exs es)

over-when : (c r : Bool) (p : Item) (j : P.Item) (gs : Gens) (o : Option (List P.Item)) (F : Gens → Gens) →
    ((js : List P.Item) → P.gens_of (j ∷ js) ≡ F (P.gens_of js)) →
    option_map P.gens_of o ≡ when r gs →
    option_map P.gens_of (and_then (when c j) (λ j. option_map (λ js. j ∷ js) o)) ≡ when (c && r) (F gs)
over-when true true p j gs None F f h = cc
over-when true true p j gs (Some js) F f h = let e : P.gens_of js ≡ gs = cc in ap (λ g. Some g) (f js ∙ ap F e)
over-when true false p j gs None F f h = refl
over-when true false p j gs (Some js) F f h = cc
over-when false r p j gs o F f h = refl

-- Generators and conditions are left one by one.
pub gens-lowered : (s : Scope) (is : List Item) → option_map P.gens_of (each_of is (lowered_item s)) ≡ when
    (are_lowerable_gens s (gens_of is)) (gens_of is)
gens-lowered s [] = refl
gens-lowered s (over_item (name_pat a) d ∷ is) =
    ap (λ q. option_map P.gens_of (and_then q (λ j. option_map (λ js. j ∷ js) (each_of is (lowered_item s)))))
    (map-lowered (P.over_item a) (is_lowerable_dom s false d) d)
    ∙ over-when (is_lowerable_dom s false d) (are_lowerable_gens s (gens_of is)) (over_item (name_pat a) d) (P.over_item a d) (gens_of is)
    (each_of is (lowered_item s))
    (λ gs. over (name_pat a) d gs) (λ js. refl) (gens-lowered s is)
gens-lowered s (over_item (tuple_pat ps) d ∷ is) = refl
gens-lowered s (from_item p e ∷ is) = refl
gens-lowered s (cond_item e ∷ is) =
    ap (λ q. option_map P.gens_of (and_then q (λ j. option_map (λ js. j ∷ js) (each_of is (lowered_item s)))))
    (map-lowered P.cond_item (is_lowerable s e) e)
    ∙ over-when (is_lowerable s e) (are_lowerable_gens s (gens_of is)) (cond_item e) (P.cond_item e) (gens_of is)
    (each_of is (lowered_item s))
    (λ gs. cond e gs) (λ js. refl) (gens-lowered s is)

comp-when : (c r : Bool) (e : Ex) (gs : Gens) (o : Option (List P.Item)) → option_map P.gens_of o ≡ when r gs → comprehension
    (when c e) o ≡ when (c && r) (comp_ex e gs)
comp-when true true e gs None h = cc
comp-when true true e gs (Some js) h = let k : P.gens_of js ≡ gs = cc in ap (λ gs. Some (comp_ex e gs)) k
comp-when true false e gs None h = refl
comp-when true false e gs (Some js) h = cc
comp-when false r e gs o h = refl

comp-lowered : (s : Scope) (e : Ex) (is : List Item) (o r : Option Ex) (q : Option (List P.Item)) → o ≡ lowered s e →
    q ≡ each_of is (lowered_item s) → r ≡ comprehension o q → r ≡ lowered_list s (comp_ex e (gens_of is))
comp-lowered s e is o r q ho hq hr =
    hr ∙ ap (λ o. comprehension o q) ho ∙ ap (comprehension (lowered s e)) hq
    ∙ comp-when (is_lowerable s e) (are_lowerable_gens s (gens_of is)) e (gens_of is) (each_of is (lowered_item s)) (gens-lowered s is)

-- The body and the items of a comprehension, put together.
pub comp_lowered : (s : Scope) (n e b : Node) (gs hs : List Gen) (o r : Option Ex) (q : Option (List P.Item)) → n ≡ node.Comp e gs → b ≡ e →
    hs ≡ gs → o ≡ lowered s (pure_node b) → q ≡ each_of (map pure_gen hs) (lowered_item s) → r ≡ comprehension o q →
    r ≡ lowered_list s (pure_node n)
comp_lowered s n e b gs hs o r q hn hb hg ho hq hr =
    comp-lowered s (pure_node e) (map pure_gen gs) o r q (ho ∙ ap (λ b. lowered s (pure_node b)) hb)
    (hq ∙ ap (λ hs. each_of (map pure_gen hs) (lowered_item s)) hg) hr
    ∙ ap (lowered_list s) (sym (ap pure_node hn ∙ comp_is e gs))

-- ---- domains

dom-when : (b f l : Bool) (d : Dom) → b ≡ true → l ≡ true → when f d ≡ when (b && (f && l)) d
dom-when b f l d hb hl = go f ∙ ap (λ b. when (b && (f && l)) d) (sym hb)
  where
    go : (f : Bool) → when f d ≡ when (true && (f && l)) d
    go true = sym (ap (λ l. when l d) hl)
    go false = refl

some-each : (l : Bool) (xs es : List Ex) → Some xs ≡ when l es → (xs ≡ es) × (l ≡ true)
some-each true xs es h = (cc, refl)
some-each false xs es h = cc

none-each : (l : Bool) (es : List Ex) → None ≡ when l es → l ≡ false
none-each true es h = cc
none-each false es h = refl

pub int_lowered : (s : Scope) (h t : Bool) (rs : List Ends) (es xs : List Ex) (r : Option Dom) → t ≡ (h || is_bounded rs) → t ≡ true →
    Some xs ≡ each_of es (lowered s) →
    r ≡ when (fit_ranges rs (P.exs_of xs)) (int_dom rs (P.exs_of xs)) → r ≡ lowered_dom s h (int_dom rs (exs_of es))
int_lowered s h t rs es xs r ht hh hx hr =
    let f : (xs ≡ es) × (are_lowerable s (exs_of es) ≡ true) = some-each (are_lowerable s (exs_of es)) xs es (hx ∙ each-lowered s es) in
    hr ∙ ap (λ l. when (fit_ranges rs l) (int_dom rs l)) (ap P.exs_of f.0 ∙ same-exs es)
    ∙ dom-when (h || is_bounded rs) (fit_ranges rs (exs_of es)) (are_lowerable s (exs_of es)) (int_dom rs (exs_of es))
    (sym ht ∙ hh) f.1

and-false : (b f l : Bool) → l ≡ false → (b && (f && l)) ≡ false
and-false true true l h = h
and-false true false l h = refl
and-false false f l h = refl

pub int_none : (s : Scope) (h : Bool) (rs : List Ends) (es : List Ex) → None ≡ each_of es (lowered s) → None ≡ lowered_dom s h
    (int_dom rs (exs_of es))
int_none s h rs es hx =
    sym (ap (λ t. when t (int_dom rs (exs_of es)))
    (and-false (h || is_bounded rs) (fit_ranges rs (exs_of es)) (are_lowerable s (exs_of es))
    (none-each (are_lowerable s (exs_of es)) es (hx ∙ each-lowered s es))))

pub int_open : (s : Scope) (h t : Bool) (rs : List Ends) (es : List Ex) → t ≡ (h || is_bounded rs) → t ≡ false →
    None ≡ lowered_dom s h (int_dom rs (exs_of es))
int_open s h t rs es ht hh =
    sym (ap (λ t. when (t && (fit_ranges rs (exs_of es) && are_lowerable s (exs_of es))) (int_dom rs (exs_of es))) (sym ht ∙ hh))

-- ---- rows of operands

-- A row of one.
pub only-item : {A B : Type 0} (f : A → B) (xs : List A) (x : A) → length xs ≡ 1 → x ≡ get_or xs 0 x → map f xs ≡ f x ∷ []
only-item f [] x h k = absurd (omega (arith, h))
only-item f (y ∷ []) x h k = ap (λ y. f y ∷ []) (sym k)
only-item f (y ∷ z ∷ xs) x h k = absurd (omega (arith, h))

-- A row of two.
pub two-items : {A B : Type 0} (f : A → B) (xs : List A) (x y : A) → length xs ≡ 2 → x ≡ get_or xs 0 x → y ≡ get_or xs 1 y →
    map f xs ≡ f x ∷ f y ∷ []
two-items f [] x y h k l = absurd (omega (arith, h))
two-items f (a ∷ []) x y h k l = absurd (omega (arith, h))
two-items f (a ∷ b ∷ []) x y h k l = ap (λ a. f a ∷ f b ∷ []) (sym k) ∙ ap (λ b. f x ∷ f b ∷ []) (sym l)
two-items f (a ∷ b ∷ c ∷ xs) x y h k l = absurd (omega (arith, h))

-- Other rows than those of one.
pub two_node : (s : Scope) (op : Op) (es : List Ex) (r : Option Ex) → (length es ≡ 1 → ⊥) → r ≡ lowered_two s op es →
    r ≡ lowered_node s op es
two_node s op [] r h k = k
two_node s op (a ∷ []) r h k = absurd (h (omega arith))
two_node s op (a ∷ b ∷ []) r h k = k
two_node s op (a ∷ b ∷ c ∷ es) r h k = k

-- Others than those of two.
pub others_none : (s : Scope) (op : Op) (es : List Ex) → (length es ≡ 2 → ⊥) → None ≡ lowered_two s op es
others_none s op [] h = refl
others_none s op (a ∷ []) h = refl
others_none s op (a ∷ b ∷ []) h = absurd (h (omega arith))
others_none s op (a ∷ b ∷ c ∷ es) h = refl

-- As many in the pure trees as in the nodes.
pub map-length : {A B : Type 0} (f : A → B) (xs : List A) → length (map f xs) ≡ length xs
map-length f [] = refl
map-length f (x ∷ xs) = let e : length (map f xs) ≡ length xs = map-length f xs in omega (arith, e)

-- ---- lists by their items

pub literal_lowered : (s : Scope) (b t : Bool) (op : Op) (es : List Ex) (o : Option (List Ex)) (r : Option Ex) → t ≡ is_list_literal b op →
    t ≡ true →
    o ≡ each_of es (lowered s) → r ≡ option_map items_ex o → r ≡ lowered_list s (node_ex b op (exs_of es))
literal_lowered s b t op es o r ht h ho hr = go b op (sym ht ∙ h)
  where
    go : (b : Bool) (op : Op) → is_list_literal b op ≡ true → r ≡ lowered_list s (node_ex b op (exs_of es))
    go false matrix_literal k = items_lowered s es o r ho hr
    go true matrix_literal k = cc
    go b op k = cc

pub literal_none : (s : Scope) (b t : Bool) (op : Op) (es : List Ex) → t ≡ is_list_literal b op → t ≡ false →
    None ≡ lowered_list s (node_ex b op (exs_of es))
literal_none s b t op es ht h = go b op (sym ht ∙ h)
  where
    go : (b : Bool) (op : Op) → is_list_literal b op ≡ false → None ≡ lowered_list s (node_ex b op (exs_of es))
    go true matrix_literal k = refl
    go false matrix_literal k = cc
    go b op k = refl

-- ---- generators

pub over_lowered : (s : Scope) (p : Pat) (a : Text) (d : Dom) (o : Option Dom) (r : Option P.Item) → p ≡ pat.Name a →
    o ≡ lowered_dom s false d → r ≡ option_map (P.over_item a) o → r ≡ lowered_item s (over_item (pure_pat p) d)
over_lowered s p a d o r hp ho hr =
    hr ∙ ap (option_map (P.over_item a)) ho ∙ ap (λ q. lowered_item s (over_item q d)) (sym (ap pure_pat hp ∙ pure_pat_name a))

pub cond_lowered : (s : Scope) (g : Gen) (e b : Node) (o : Option Ex) (r : Option P.Item) → g ≡ gen.If e → b ≡ e →
    o ≡ lowered s (pure_node b) → r ≡ option_map P.cond_item o → r ≡ lowered_item s (pure_gen g)
cond_lowered s g e b o r hg hb ho hr =
    hr ∙ ap (option_map P.cond_item) (ho ∙ ap (λ b. lowered s (pure_node b)) hb)
    ∙ ap (lowered_item s) (sym (ap pure_gen hg ∙ pure_gen_if e))
