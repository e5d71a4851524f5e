-- What comprehensions and domains are in a model.
use Rattle.std.proofs.Common.{◌≡◌, refl, sym, ap, ◌∙◌, Bool, true, false, ◌&&◌, ◌||◌, List, [], ◌∷◌, ◌++◌, map, Option, Some, None}
use Rattle.std.specs.Option.{option_map}
use Rattle.std.specs.List.{list_all}
use Rattle.ess_semantics.specs.Values.{Text}
use Rattle.ess_semantics.specs.Lists.{when, and_then, each_of, append_all}
use Rattle.ess_semantics.specs.Kinds.{is_closed_end, is_bounded}
use Rattle.ess_semantics.specs.Trees.{Ends, one_value, both_ends, low_end, high_end, name_pat, tuple_pat, Ex, Exs, comp_ex, no_exs, more_exs, Gens, no_gens, over, from, cond, Dom, int_dom}
use Rattle.ess_grammar.specs.Readable.{some_gens, fit_ranges}
use Rattle.ess_grammar.specs.Models.{Scope, names_of_gens, name_of_pat, with_cells, all_with_cells, gens_with_cells, dom_with_cells, may_stand, is_model_ex, are_model_exs, are_model_gens, is_model_dom}
use Rattle.ess_core.specs.TreeViews.{With, words_of, within, exs_of, Item, over_item, from_item, cond_item, gens_of}
use Rattle.eprime_tree.specs.Views as P
use Rattle.eprime_read_convert.specs.Converted.{bounds, model_ex, model_list, model_items, model_dom, model_range, comprehension, some_ranges}
use Rattle.eprime_read_convert.proofs.ModelNodes.{is_one, are-all, all-cells, each-when, map-when, put-first}

-- ---- generators and conditions

names-kept : (s : Scope) (g : List Text) (gs : Gens) → names_of_gens (gens_with_cells s g gs) ≡ names_of_gens gs
names-kept s g no_gens = refl
names-kept s g (over (name_pat a) d gs) = ap (λ ns. a ∷ ns) (names-kept s (a ∷ g) gs)
names-kept s g (over (tuple_pat ps) d gs) = names-kept s g gs
names-kept s g (from p e gs) = names-kept s (name_of_pat p ++ g) gs
names-kept s g (cond e gs) = names-kept s g gs

some-kept : (s : Scope) (g : List Text) (gs : Gens) → some_gens (gens_with_cells s g gs) ≡ some_gens gs
some-kept s g no_gens = refl
some-kept s g (over p d gs) = refl
some-kept s g (from p e gs) = refl
some-kept s g (cond e gs) = refl

over-when : (m c r : Bool) (a : Text) (d : Dom) (gs : Gens) (o : Option (List P.Item)) → option_map P.gens_of o ≡ when r gs →
    option_map P.gens_of (and_then (and_then (when m a) (λ a. option_map (P.over_item a) (when c d))) (λ j. option_map (λ js. j ∷ js) o)) ≡ when ((m && c) && r) (over (name_pat a) d gs)
over-when true true true a d gs None h = cc
over-when true true true a d gs (Some js) h = let e : P.gens_of js ≡ gs = cc in ap (λ gs. Some (over (name_pat a) d gs)) e
over-when true true false a d gs None h = refl
over-when true true false a d gs (Some js) h = cc
over-when true false r a d gs o h = refl
over-when false c r a d gs o h = refl

cond-when : (c r : Bool) (e : Ex) (gs : Gens) (o : Option (List P.Item)) → option_map P.gens_of o ≡ when r gs →
    option_map P.gens_of (and_then (option_map P.cond_item (when c e)) (λ j. option_map (λ js. j ∷ js) o)) ≡ when (c && r) (cond e gs)
cond-when true true e gs None h = cc
cond-when true true e gs (Some js) h = let k : P.gens_of js ≡ gs = cc in ap (λ gs. Some (cond e gs)) k
cond-when true false e gs None h = refl
cond-when true false e gs (Some js) h = cc
cond-when false r e gs o h = refl

-- The items of a model are its generators and conditions.
items-gens : (s : Scope) (g : List Text) (is : List Item) → option_map P.gens_of (model_items s g is) ≡ when (are_model_gens s g (gens_with_cells s g (gens_of is))) (gens_with_cells s g (gens_of is))
items-gens s g [] = refl
items-gens s g (over_item (name_pat a) d ∷ is) =
    over-when (may_stand s false a) (is_model_dom s false g (dom_with_cells s g d)) (are_model_gens s (a ∷ g) (gens_with_cells s (a ∷ g) (gens_of is))) a (dom_with_cells s g d) (gens_with_cells s (a ∷ g) (gens_of is))
    (model_items s (a ∷ g) is) (items-gens s (a ∷ g) is)
items-gens s g (over_item (tuple_pat ps) d ∷ is) = refl
items-gens s g (from_item p e ∷ is) = refl
items-gens s g (cond_item e ∷ is) =
    cond-when (is_model_ex s false g (with_cells s g e)) (are_model_gens s g (gens_with_cells s g (gens_of is))) (with_cells s g e) (gens_with_cells s g (gens_of is)) (model_items s g is) (items-gens s g is)

comp-when : (t c r : Bool) (e : Ex) (gs : Gens) (o : Option (List P.Item)) → t ≡ true → option_map P.gens_of o ≡ when r gs → when ((t && c) && r) (comp_ex e gs) ≡ comprehension (when c e) o
comp-when true true true e gs None q h = cc
comp-when true true true e gs (Some js) q h = let k : P.gens_of js ≡ gs = cc in ap (λ gs. Some (comp_ex e gs)) (sym k)
comp-when true true false e gs None q h = refl
comp-when true true false e gs (Some js) q h = cc
comp-when true false r e gs None q h = refl
comp-when true false r e gs (Some js) q h = refl
comp-when false c r e gs o q h = cc

-- A comprehension.
pub model-comp : (s : Scope) (f : Bool) (g : List Text) (e : Ex) (is : List Item) → some_gens (gens_of is) ≡ true →
    model_list s f g (comp_ex e (gens_of is)) ≡ comprehension (model_ex s f (names_of_gens (gens_of is) ++ g) e) (model_items s g is)
model-comp s f g e is h =
    let gs : Gens = gens_of is in
    let hs : Gens = gens_with_cells s g gs in
    let x : Ex = with_cells s (names_of_gens gs ++ g) e in
    ap (λ ns. when ((some_gens hs && is_model_ex s f (ns ++ g) x) && are_model_gens s g hs) (comp_ex x hs)) (names-kept s g gs)
    ∙ comp-when (some_gens hs) (is_model_ex s f (names_of_gens gs ++ g) x) (are_model_gens s g hs) x hs (model_items s g is) (some-kept s g gs ∙ h) (items-gens s g is)

-- ---- ranges

-- Whether the range has its bounds.
abbrev pub is_fit : With Ends → Bool
is_fit r = fit_ranges (r.0 ∷ []) (exs_of r.1)

-- Whether it is a range of a model.
abbrev is_range : Scope → Bool → List Text → With Ends → Bool
is_range s h g r = (h || is_closed_end r.0) && list_all (is_one s false g) r.1

-- The range with cells.
abbrev range_with : Scope → List Text → With Ends → P.Bounds
range_with s g r = (r.0, map (with_cells s g) r.1)

range-test : (c d : Bool) (r : Ends) (xs : List Ex) → and_then (when c r) (λ e. option_map (bounds e) (when d xs)) ≡ when (c && d) (bounds r xs)
range-test true true r xs = refl
range-test true false r xs = refl
range-test false d r xs = refl

range-when : (s : Scope) (h : Bool) (g : List Text) (r : With Ends) → model_range s h g r ≡ when (is_range s h g r) (range_with s g r)
range-when s h g r =
    ap (λ o. and_then (when (h || is_closed_end r.0) r.0) (λ e. option_map (bounds e) o)) (each-when (is_one s false g) (with_cells s g) r.1)
    ∙ range-test (h || is_closed_end r.0) (list_all (is_one s false g) r.1) r.0 (map (with_cells s g) r.1)

ranges-when : (s : Scope) (h : Bool) (g : List Text) (rs : List (With Ends)) → each_of rs (model_range s h g) ≡ when (list_all (is_range s h g) rs) (map (range_with s g) rs)
ranges-when s h g [] = refl
ranges-when s h g (r ∷ rs) =
    ap (λ o. and_then o (λ y. option_map (λ ys. y ∷ ys) (each_of rs (model_range s h g)))) (range-when s h g r)
    ∙ ap (λ o. and_then (when (is_range s h g r) (range_with s g r)) (λ y. option_map (λ ys. y ∷ ys) o)) (ranges-when s h g rs)
    ∙ put-first (is_range s h g r) (list_all (is_range s h g) rs) (range_with s g r) (map (range_with s g) rs)

-- all bounds fit together
fit-more : (r : Ends) (xs : List Ex) (ws : List Ends) (es : List Ex) → fit_ranges (r ∷ []) (exs_of xs) ≡ true → fit_ranges ws (exs_of es) ≡ true → fit_ranges (r ∷ ws) (exs_of (xs ++ es)) ≡ true
fit-more one_value [] ws es h k = cc
fit-more one_value (a ∷ []) ws es h k = k
fit-more one_value (a ∷ b ∷ xs) ws es h k = cc
fit-more both_ends [] ws es h k = cc
fit-more both_ends (a ∷ []) ws es h k = cc
fit-more both_ends (a ∷ b ∷ []) ws es h k = k
fit-more both_ends (a ∷ b ∷ c ∷ xs) ws es h k = cc
fit-more low_end [] ws es h k = cc
fit-more low_end (a ∷ []) ws es h k = k
fit-more low_end (a ∷ b ∷ xs) ws es h k = cc
fit-more high_end [] ws es h k = cc
fit-more high_end (a ∷ []) ws es h k = k
fit-more high_end (a ∷ b ∷ xs) ws es h k = cc

and-first : (a b : Bool) → (a && b) ≡ true → a ≡ true
and-first true b h = refl
and-first false b h = h

and-second : (a b : Bool) → (a && b) ≡ true → b ≡ true
and-second true b h = h
and-second false b h = cc

fit-all : (rs : List (With Ends)) → list_all is_fit rs ≡ true → fit_ranges (words_of rs) (exs_of (within rs)) ≡ true
fit-all [] h = refl
fit-all (r ∷ rs) h = fit-more r.0 r.1 (words_of rs) (within rs) (and-first (is_fit r) (list_all is_fit rs) h) (fit-all rs (and-second (is_fit r) (list_all is_fit rs) h))

-- and so with cells
fit-kept : (s : Scope) (g : List Text) (ws : List Ends) (es : Exs) → fit_ranges ws es ≡ true → fit_ranges ws (all_with_cells s g es) ≡ true
fit-kept s g [] no_exs h = refl
fit-kept s g [] (more_exs e es) h = cc
fit-kept s g (one_value ∷ ws) no_exs h = cc
fit-kept s g (one_value ∷ ws) (more_exs a es) h = fit-kept s g ws es h
fit-kept s g (both_ends ∷ ws) no_exs h = cc
fit-kept s g (both_ends ∷ ws) (more_exs a no_exs) h = cc
fit-kept s g (both_ends ∷ ws) (more_exs a (more_exs b es)) h = fit-kept s g ws es h
fit-kept s g (low_end ∷ ws) no_exs h = cc
fit-kept s g (low_end ∷ ws) (more_exs a es) h = fit-kept s g ws es h
fit-kept s g (high_end ∷ ws) no_exs h = cc
fit-kept s g (high_end ∷ ws) (more_exs a es) h = fit-kept s g ws es h

all-append : (p : Ex → Bool) (xs ys : List Ex) → list_all p (xs ++ ys) ≡ (list_all p xs && list_all p ys)
all-append p [] ys = refl
all-append p (x ∷ xs) ys = ap (λ b. p x && b) (all-append p xs ys) ∙ assoc (p x) (list_all p xs) (list_all p ys)
  where
    assoc : (a b c : Bool) → (a && (b && c)) ≡ ((a && b) && c)
    assoc true b c = refl
    assoc false b c = refl

shuffled : (c b d e : Bool) → ((c && b) && (d && e)) ≡ ((c && d) && (b && e))
shuffled true b true e = refl
shuffled true true false e = refl
shuffled true false false e = refl
shuffled false b d e = refl

range-tests : (s : Scope) (h : Bool) (g : List Text) (rs : List (With Ends)) →
    list_all (is_range s h g) rs ≡ (list_all (λ r. h || is_closed_end r.0) rs && list_all (is_one s false g) (within rs))
range-tests s h g [] = refl
range-tests s h g (r ∷ rs) =
    ap (λ b. is_range s h g r && b) (range-tests s h g rs)
    ∙ shuffled (h || is_closed_end r.0) (list_all (is_one s false g) r.1) (list_all (λ r. h || is_closed_end r.0) rs) (list_all (is_one s false g) (within rs))
    ∙ ap (λ b. ((h || is_closed_end r.0) && list_all (λ r. h || is_closed_end r.0) rs) && b) (sym (all-append (is_one s false g) r.1 (within rs)))

all-true : (rs : List (With Ends)) → list_all (λ r. true || is_closed_end r.0) rs ≡ true
all-true [] = refl
all-true (r ∷ rs) = all-true rs

closed-all : (rs : List (With Ends)) → list_all is_closed_end (words_of rs) ≡ list_all (λ r. false || is_closed_end r.0) rs
closed-all [] = refl
closed-all (r ∷ rs) = ap (λ b. is_closed_end r.0 && b) (closed-all rs)

bounded-test : (h : Bool) (rs : List (With Ends)) → (h || some_ranges rs) ≡ true → (h || is_bounded (words_of rs)) ≡ list_all (λ r. h || is_closed_end r.0) rs
bounded-test true rs k = sym (all-true rs)
bounded-test false [] k = cc
bounded-test false (r ∷ rs) k = closed-all (r ∷ rs)

words-with : (s : Scope) (g : List Text) (rs : List (With Ends)) → words_of rs ≡ map (λ r. r.0) (map (range_with s g) rs)
words-with s g [] = refl
words-with s g (r ∷ rs) = ap (λ ws. r.0 ∷ ws) (words-with s g rs)

map-more : (s : Scope) (g : List Text) (xs ys : List Ex) → map (with_cells s g) (xs ++ ys) ≡ map (with_cells s g) xs ++ map (with_cells s g) ys
map-more s g [] ys = refl
map-more s g (x ∷ xs) ys = ap (λ zs. with_cells s g x ∷ zs) (map-more s g xs ys)

bounds-with : (s : Scope) (g : List Text) (rs : List (With Ends)) → map (with_cells s g) (within rs) ≡ append_all (map (λ r. r.1) (map (range_with s g) rs))
bounds-with s g [] = refl
bounds-with s g (r ∷ rs) = map-more s g r.1 (within rs) ∙ ap (λ zs. map (with_cells s g) r.1 ++ zs) (bounds-with s g rs)

tree-with : (s : Scope) (g : List Text) (rs : List (With Ends)) → int_dom (words_of rs) (all_with_cells s g (exs_of (within rs))) ≡ P.int_of (map (range_with s g) rs)
tree-with s g rs =
    ap (λ ws. int_dom ws (all_with_cells s g (exs_of (within rs)))) (words-with s g rs)
    ∙ ap (λ es. int_dom (map (λ r. r.0) (map (range_with s g) rs)) es) (all-cells s g (within rs) ∙ ap P.exs_of (bounds-with s g rs))

middle-true : (a b c : Bool) → b ≡ true → ((a && b) && c) ≡ (a && c)
middle-true true b c h = ap (λ b. b && c) h
middle-true false b c h = refl

-- An int domain of ranges.
pub model-int : (s : Scope) (h : Bool) (g : List Text) (rs : List (With Ends)) → list_all is_fit rs ≡ true → (h || some_ranges rs) ≡ true →
    model_dom s h g (int_dom (words_of rs) (exs_of (within rs))) ≡ option_map P.int_of (each_of rs (model_range s h g))
model-int s h g rs f k =
    let es : Exs = all_with_cells s g (exs_of (within rs)) in
    ap (λ b. when b (int_dom (words_of rs) es))
    (middle-true (h || is_bounded (words_of rs)) (fit_ranges (words_of rs) es) (are_model_exs s false g es) (fit-kept s g (words_of rs) (exs_of (within rs)) (fit-all rs f))
    ∙ ap (λ b. b && are_model_exs s false g es) (bounded-test h rs k)
    ∙ ap (λ b. list_all (λ r. h || is_closed_end r.0) rs && b) (are-all s false g (within rs))
    ∙ sym (range-tests s h g rs))
    ∙ ap (λ d. when (list_all (is_range s h g) rs) d) (tree-with s g rs)
    ∙ map-when P.int_of (list_all (is_range s h g) rs) (map (range_with s g) rs)
    ∙ ap (option_map P.int_of) (sym (ranges-when s h g rs))
