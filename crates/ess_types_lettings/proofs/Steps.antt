-- Lettings put into generators and indices, one step at a time.
use Rattle.std.proofs.Common.{◌≡◌, refl, sym, ap, ◌∙◌, ℕ, ◌+◌, ◌<◌, ◌≤◌, Bool, false, List, [], ◌∷◌, ◌++◌, length, map, drop, get_or, Option, option_map}
use Rattle.std.proofs.lemmas.List.{at_drop_more, at_drop_all, map_push, append_assoc, append-nil}
use Rattle.ess_semantics.specs.Names.{Names}
use Rattle.ess_semantics.specs.Types as pure
use Rattle.ess_semantics.specs.Trees as tree
use Rattle.ess_semantics.specs.Trees.{index, Exs, Gens, node_ex, comp_ex, no_exs, more_exs, over, from, cond}
use Rattle.ess_semantics.specs.Typing.{type_of}
use Rattle.ess_semantics.specs.Lettings.{Lettings, put_ex, put_gens, put_dom}
use Rattle.ess_core.specs.declared.expressions.Ex.{Ex}
use Rattle.ess_core.specs.declared.expressions.Ex.TheVariants as variant
use Rattle.ess_core.specs.declared.expressions.Gen.{Gen}
use Rattle.ess_core.specs.declared.expressions.Step.{Step}
use Rattle.ess_core.specs.declared.types.Ty.{Ty}
use Rattle.ess_core.specs.TypeViews.{pure_ty}
use Rattle.ess_core.specs.TreeViews.{With, words_of, within, Item, over_item, from_item, cond_item, exs_of, gens_of, pure_ex, pure_gen, pure_gens, pure_step}
use Rattle.ess_core.proofs.ExpressionEquations.{pure_comp}
use Rattle.ess_core.proofs.PartEquations.{pure_gen_over, pure_gen_from, pure_gen_if, pure_step_value, pure_step_component, pure_step_field}
use Rattle.ess_types_names.specs.Tables.{Types, pure_table}
use Rattle.ess_types_names.proofs.Tables.{extends_itself, extends_on}
use Rattle.ess_types_nodes.proofs.Fitting.{under_more}
use Rattle.ess_types_lettings.specs.Putting.{put_item, item_behind, put_items, names_behind, put_values, exs_before}

-- ---- generators

-- What is made of generators is made of them with lettings put in, and of the types of names behind them.
put_gens-items : (xs : List Item) (l : Lettings) (g : Names pure.Ty) (k : Gens → Names pure.Ty → tree.Ex)
    → put_gens (gens_of xs) l g k ≡ k (gens_of (put_items xs l g)) (names_behind xs l g)
put_gens-items [] l g k = refl
put_gens-items (over_item p d ∷ xs) l g k = put_gens-items xs l (item_behind (over_item p d) l g) (λ hs h. k (over p (put_dom d l g) hs) h)
put_gens-items (from_item p e ∷ xs) l g k = put_gens-items xs l (item_behind (from_item p e) l g) (λ hs h. k (from p (put_ex e l g) hs) h)
put_gens-items (cond_item e ∷ xs) l g k = put_gens-items xs l g (λ hs h. k (cond (put_ex e l g) hs) h)

-- A comprehension of e under gs has lettings put into its generators, hs, and into its body under them, f.
pub comp_put : (x e b f : Ex) (gs ss hs : List Gen) (l : Lettings) (g n : Names pure.Ty) → x ≡ variant.Comp e gs → ss ≡ gs → b ≡ e
    → map pure_gen hs ≡ put_items (map pure_gen ss) l g → n ≡ names_behind (map pure_gen ss) l g → pure_ex f ≡ put_ex (pure_ex b) l n
    → comp_ex (pure_ex f) (pure_gens hs) ≡ put_ex (pure_ex x) l g
comp_put x e b f gs ss hs l g n hx hs-is hb p q r =
    ap (λ zs. comp_ex (pure_ex f) (gens_of zs)) (p ∙ ap (λ zs. put_items (map pure_gen zs) l g) hs-is)
    ∙ ap (λ z. comp_ex z (gens_of (put_items (map pure_gen gs) l g)))
    (r ∙ ap (λ z. put_ex (pure_ex z) l n) hb ∙ ap (put_ex (pure_ex e) l) (q ∙ ap (λ zs. names_behind (map pure_gen zs) l g) hs-is))
    ∙ sym (put_gens-items (map pure_gen gs) l g (λ hs n. comp_ex (put_ex (pure_ex e) l n) hs))
    ∙ ap (λ z. put_ex z l g) (sym (ap pure_ex hx ∙ pure_comp e gs))

-- One generator more has lettings put in.
pub items_more : (xs : List Gen) (i : ℕ) (x y : Gen) (ys zs : List Gen) (l : Lettings) (g h : Names pure.Ty) → i < length xs
    → x ≡ get_or xs i x
    → pure_gen y ≡ put_item (pure_gen x) l g → h ≡ item_behind (pure_gen x) l g → zs ≡ ys ++ y ∷ []
    → map pure_gen zs ++ put_items (map pure_gen (drop (i + 1) xs)) l h ≡ map pure_gen ys ++ put_items (map pure_gen (drop i xs)) l g
items_more xs i x y ys zs l g h lt is p q r =
    ap (λ s. map pure_gen s ++ put_items (map pure_gen (drop (i + 1) xs)) l h) r
    ∙ ap (λ s. s ++ put_items (map pure_gen (drop (i + 1) xs)) l h) (map_push pure_gen ys y)
    ∙ append_assoc (map pure_gen ys) (pure_gen y ∷ []) (put_items (map pure_gen (drop (i + 1) xs)) l h)
    ∙ ap (λ s. map pure_gen ys ++ s ∷ put_items (map pure_gen (drop (i + 1) xs)) l h) p
    ∙ ap (λ n. map pure_gen ys ++ put_item (pure_gen x) l g ∷ put_items (map pure_gen (drop (i + 1) xs)) l n) q
    ∙ ap (λ s. map pure_gen ys ++ put_items (map pure_gen (s ∷ drop (i + 1) xs)) l g) is
    ∙ sym (at_drop_more (λ s. map pure_gen ys ++ put_items (map pure_gen s) l g) xs i x lt)

-- Behind one generator more.
pub names_more : (xs : List Gen) (i : ℕ) (x : Gen) (l : Lettings) (g h : Names pure.Ty) → i < length xs → x ≡ get_or xs i x
    → h ≡ item_behind (pure_gen x) l g
    → names_behind (map pure_gen (drop (i + 1) xs)) l h ≡ names_behind (map pure_gen (drop i xs)) l g
names_more xs i x l g h lt is q =
    ap (λ n. names_behind (map pure_gen (drop (i + 1) xs)) l n) q
    ∙ ap (λ s. names_behind (map pure_gen (s ∷ drop (i + 1) xs)) l g) is
    ∙ sym (at_drop_more (λ s. names_behind (map pure_gen s) l g) xs i x lt)

-- All have lettings put in.
pub items_all : (xs ys : List Gen) (i : ℕ) (l : Lettings) (g : Names pure.Ty) → length xs ≤ i
    → map pure_gen ys ++ put_items (map pure_gen (drop i xs)) l g ≡ map pure_gen ys
items_all xs ys i l g h = at_drop_all (λ s. map pure_gen ys ++ put_items (map pure_gen s) l g) xs i h ∙ append-nil (map pure_gen ys)

-- Behind all.
pub names_all : (xs : List Gen) (i : ℕ) (l : Lettings) (g : Names pure.Ty) → length xs ≤ i → names_behind (map pure_gen (drop i xs)) l g ≡ g
names_all xs i l g h = at_drop_all (λ s. names_behind (map pure_gen s) l g) xs i h

-- What a generator or condition stands for.
pub ruleset kinds_of_gens = (pure_gen_over, pure_gen_from, pure_gen_if)

-- Generators, one at a time.
pub ruleset gens_put = (items_more, names_more, items_all, names_all, under_more, extends_itself, extends_on)

-- ---- indices

exs_before-after : (xs ys : List tree.Ex) (es : Exs) → exs_before (xs ++ ys) es ≡ exs_before xs (exs_before ys es)
exs_before-after [] ys es = refl
exs_before-after (x ∷ xs) ys es = ap (more_exs x) (exs_before-after xs ys es)

exs_before-nothing : (xs : List tree.Ex) → exs_before xs no_exs ≡ exs_of xs
exs_before-nothing [] = refl
exs_before-nothing (x ∷ xs) = ap (more_exs x) (exs_before-nothing xs)

within-push : (ys : List Step) (y : Step) (es : Exs)
    → exs_before (within (map pure_step (ys ++ y ∷ []))) es ≡ exs_before (within (map pure_step ys)) (exs_before (pure_step y).1 es)
within-push [] y es = ap (λ s. exs_before s es) (append-nil (pure_step y).1)
within-push (x ∷ ys) y es =
    exs_before-after (pure_step x).1 (within (map pure_step (ys ++ y ∷ []))) es
    ∙ ap (exs_before (pure_step x).1) (within-push ys y es)
    ∙ sym (exs_before-after (pure_step x).1 (within (map pure_step ys)) (exs_before (pure_step y).1 es))

words-push : (ys : List Step) (y : Step) (ws : List tree.Step)
    → words_of (map pure_step (ys ++ y ∷ [])) ++ ws ≡ words_of (map pure_step ys) ++ (pure_step y).0 ∷ ws
words-push [] y ws = refl
words-push (x ∷ ys) y ws = ap (λ s. (pure_step x).0 ∷ s) (words-push ys y ws)

-- One step's word more.
pub words_more : (xs : List Step) (i : ℕ) (x y : Step) (ys zs : List Step) → i < length xs → x ≡ get_or xs i x
    → (pure_step y).0 ≡ (pure_step x).0 → zs ≡ ys ++ y ∷ []
    → words_of (map pure_step zs) ++ words_of (map pure_step (drop (i + 1) xs))
    ≡ words_of (map pure_step ys) ++ words_of (map pure_step (drop i xs))
words_more xs i x y ys zs lt is p r =
    ap (λ s. words_of (map pure_step s) ++ words_of (map pure_step (drop (i + 1) xs))) r
    ∙ words-push ys y (words_of (map pure_step (drop (i + 1) xs)))
    ∙ ap (λ s. words_of (map pure_step ys) ++ s ∷ words_of (map pure_step (drop (i + 1) xs))) p
    ∙ ap (λ s. words_of (map pure_step ys) ++ words_of (map pure_step (s ∷ drop (i + 1) xs))) is
    ∙ sym (at_drop_more (λ s. words_of (map pure_step ys) ++ words_of (map pure_step s)) xs i x lt)

-- The words of all steps.
pub words_all : (xs ys : List Step) (i : ℕ) → length xs ≤ i
    → words_of (map pure_step ys) ++ words_of (map pure_step (drop i xs)) ≡ words_of (map pure_step ys)
words_all xs ys i h = at_drop_all (λ s. words_of (map pure_step ys) ++ words_of (map pure_step s)) xs i h
    ∙ append-nil (words_of (map pure_step ys))

-- What a step has for an operand, whatever follows; nothing follows where b is false.
abbrev pub Puts : Bool → Option pure.Ty → Step → Step → Option pure.Ty → Lettings → Names pure.Ty → Type 0
Puts b t x y u l g = (ws : List (With tree.Step)) → (b ≡ false → ws ≡ [])
    → put_values t (pure_step x ∷ ws) l g ≡ exs_before (pure_step y).1 (put_values u ws l g)

-- The same of an equal step in an equal table.
pub puts_at : (b : Bool) (t u : Option pure.Ty) (x y d : Step) (l : Lettings) (k m : Types) → k ≡ m → y ≡ d
    → Puts b t x d u l (pure_table k)
    → Puts b t x y u l (pure_table m)
puts_at b t u x y d l k m e is p ws h =
    sym (ap (λ z. put_values t (pure_step x ∷ ws) l (pure_table z)) e)
    ∙ p ws h
    ∙ ap (λ z. exs_before (pure_step d).1 (put_values u ws l (pure_table z))) e
    ∙ ap (λ z. exs_before (pure_step z).1 (put_values u ws l (pure_table m))) (sym is)

-- One step's operand more.
pub operands_more : (xs : List Step) (i : ℕ) (b : Bool) (x y : Step) (ys zs : List Step) (t u : Option Ty) (l : Lettings)
    (g : Names pure.Ty) → i < length xs → x ≡ get_or xs i x → (b ≡ false → length xs ≤ i + 1)
    → Puts b (option_map pure_ty t) x y (option_map pure_ty u) l g → zs ≡ ys ++ y ∷ []
    → exs_before (within (map pure_step zs)) (put_values (option_map pure_ty u) (map pure_step (drop (i + 1) xs)) l g)
    ≡ exs_before (within (map pure_step ys)) (put_values (option_map pure_ty t) (map pure_step (drop i xs)) l g)
operands_more xs i b x y ys zs t u l g lt is last p r =
    ap (λ s. exs_before (within (map pure_step s)) (put_values (option_map pure_ty u) (map pure_step (drop (i + 1) xs)) l g)) r
    ∙ within-push ys y (put_values (option_map pure_ty u) (map pure_step (drop (i + 1) xs)) l g)
    ∙ ap (exs_before (within (map pure_step ys)))
    (sym (p (map pure_step (drop (i + 1) xs)) (λ h. at_drop_all (map pure_step) xs (i + 1) (last h))))
    ∙ ap (λ s. exs_before (within (map pure_step ys)) (put_values (option_map pure_ty t) (map pure_step (s ∷ drop (i + 1) xs)) l g)) is
    ∙ sym (at_drop_more (λ s. exs_before (within (map pure_step ys)) (put_values (option_map pure_ty t) (map pure_step s) l g)) xs i x lt)

-- The operands of all steps.
pub operands_all : (xs ys : List Step) (i : ℕ) (t : Option Ty) (l : Lettings) (g : Names pure.Ty) → length xs ≤ i
    → exs_before (within (map pure_step ys)) (put_values (option_map pure_ty t) (map pure_step (drop i xs)) l g)
    ≡ exs_of (within (map pure_step ys))
operands_all xs ys i t l g h =
    at_drop_all (λ s. exs_before (within (map pure_step ys)) (put_values (option_map pure_ty t) (map pure_step s) l g)) xs i h
    ∙ exs_before-nothing (within (map pure_step ys))

-- What a step stands for.
pub ruleset kinds_of_steps = (pure_step_value, pure_step_component, pure_step_field)

-- Steps, one at a time.
pub ruleset steps_put = (words_all, operands_all)

-- An index has lettings put into its place, and into its operands by the place's type.
pub index_put : (b : Bool) (e f : tree.Ex) (ws rs : List (With tree.Step)) (t : Option pure.Ty) (l : Lettings) (g : Names pure.Ty)
    → f ≡ put_ex e l g → t ≡ type_of f g → words_of rs ≡ words_of ws → exs_of (within rs) ≡ put_values t ws l g
    → node_ex b (index (words_of rs)) (more_exs f (exs_of (within rs)))
    ≡ put_ex (node_ex b (index (words_of ws)) (more_exs e (exs_of (within ws)))) l g
index_put b e f ws rs t l g p q r s =
    ap (λ qs. node_ex b (index qs) (more_exs f (exs_of (within rs)))) r
    ∙ ap (λ es. node_ex b (index (words_of ws)) (more_exs f es)) s
    ∙ ap (λ u. node_ex b (index (words_of ws)) (more_exs f (put_values u ws l g))) q
    ∙ ap (λ f. node_ex b (index (words_of ws)) (more_exs f (put_values (type_of f g) ws l g))) p
