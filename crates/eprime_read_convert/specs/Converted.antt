-- The trees of models that trees as they are read stand for: names with their cells, where the whole is then a model's.
use Rattle.std.specs.Prelude.{Bool, true, false, ◌||◌, ◌&&◌, List, [], ◌∷◌, ◌++◌, Option, Some, None, option_map, IsTrue}
use Rattle.std.specs.List.{list_all}
use Rattle.ess_semantics.specs.Values.{Text}
use Rattle.ess_semantics.specs.Names.{look}
use Rattle.ess_semantics.specs.DeclaredTables.{TableDecl}
use Rattle.ess_semantics.specs.Lists.{when, and_then, each_of}
use Rattle.ess_semantics.specs.Kinds.{is_closed_end}
use Rattle.ess_semantics.specs.Trees.{Op, index, matrix_literal, Ends, one_value, both_ends, low_end, high_end, Step, Ex, Dom, name_ex, comp_ex, cell_ex, node_ex, more_exs, plain_node, name_pat}
use Rattle.ess_grammar.specs.Grammar.{one_ex, two_exs}
use Rattle.ess_grammar.specs.Readable.{fit_steps, ReadablePat, ReadableEx, ReadableExs, ReadableDom}
use Rattle.ess_grammar.specs.Models.{Scope, table_of, is_truth_table, may_stand, name_of_pat, with_cells, dom_with_cells, is_model_ex, is_model_list, is_model_dom}
use Rattle.ess_core.specs.TreeViews.{With, words_of, within, exs_of, Item, over_item, from_item, cond_item}
use Rattle.eprime_tree.specs.Views as P

-- The expression of a model, inside generators that bind g; f says whether a find may stand in it.
abbrev pub model_ex : Scope → Bool → List Text → Ex → Option Ex
model_ex s f g e = when (is_model_ex s f g (with_cells s g e)) (with_cells s g e)

-- A list.
abbrev pub model_list : Scope → Bool → List Text → Ex → Option Ex
model_list s f g e = when (is_model_list s f g (with_cells s g e)) (with_cells s g e)

-- A domain, in which a bound may be left out where h says so.
abbrev pub model_dom : Scope → Bool → List Text → Dom → Option Dom
model_dom s h g d = when (is_model_dom s h g (dom_with_cells s g d)) (dom_with_cells s g d)

-- An operator over one operand, where that is there.
abbrev pub under : Op → Option Ex → Option Ex
under op o = option_map (λ a. plain_node op (one_ex a)) o

-- An operator between two operands, where both are there.
abbrev pub between : Op → Option Ex → Option Ex → Option Ex
between op (Some a) (Some b) = Some (plain_node op (two_exs a b))
between op _ _ = None

-- An item of a comprehension, inside those that bind g: a generator of a name over a domain, or a condition.
abbrev pub model_item : Scope → List Text → Item → Option P.Item
model_item s g (over_item (name_pat a) d) = and_then (when (may_stand s false a) a) (λ a. option_map (P.over_item a) (model_dom s false g d))
model_item s g (cond_item e) = option_map P.cond_item (model_ex s false g e)
model_item s g _ = None

-- The name that an item binds.
abbrev pub names_of_item : Item → List Text
names_of_item (over_item p d) = name_of_pat p
names_of_item (from_item p e) = name_of_pat p
names_of_item (cond_item e) = []

-- The items, each of them inside those before it.
abbrev pub model_items : Scope → List Text → List Item → Option (List P.Item)
model_items s g [] = Some []
model_items s g (i ∷ is) = and_then (model_item s g i) (λ j. option_map (λ js. j ∷ js) (model_items s (names_of_item i ++ g) is))

-- The form of a range with its bounds.
abbrev pub bounds : Ends → List Ex → P.Bounds
bounds e es = (e, es)

-- A range with its bounds, of which one may be left out where h says so.
abbrev pub model_range : Scope → Bool → List Text → With Ends → Option P.Bounds
model_range s h g r = and_then (when (h || is_closed_end r.0) r.0) (λ e. option_map (bounds e) (each_of r.1 (model_ex s false g)))

-- A comprehension of its body and its items, where both are there.
abbrev pub comprehension : Option Ex → Option (List P.Item) → Option Ex
comprehension (Some e) (Some is) = Some (comp_ex e (P.gens_of is))
comprehension _ _ = None

-- A table at indices, where these are there and the name may stand.
abbrev pub table_at : Scope → Bool → Text → Option (List Ex) → Option Ex
table_at s f a o = and_then (when (may_stand s f a) a) (λ a. option_map (λ es. cell_ex (is_truth_table s a) a (P.exs_of es)) o)

-- What is indexed, with its steps.
abbrev pub access : Ex → List (With Step) → Ex
access e ws = node_ex false (index (words_of ws)) (more_exs e (exs_of (within ws)))

-- Steps by value, of expressions of the grammar.
abbrev pub ReadableSteps : List (With Step) → Type 0
ReadableSteps ws = IsTrue (fit_steps (words_of ws) (exs_of (within ws))) × ReadableExs (exs_of (within ws))

-- An item of a comprehension of the grammar.
abbrev pub ReadableItem : Item → Type 0
ReadableItem (over_item p d) = ReadablePat p × ReadableDom d
ReadableItem (from_item p e) = ReadablePat p × ReadableEx e
ReadableItem (cond_item e) = ReadableEx e

-- A range of the grammar.
abbrev pub ReadableRange : With Ends → Type 0
ReadableRange r = ReadableExs (exs_of r.1)

-- Whether there are any.
abbrev pub some_ranges : List (With Ends) → Bool
some_ranges [] = false
some_ranges (r ∷ rs) = true

-- The name that a tree is, where it is one.
abbrev pub name_in : Ex → Option Text
name_in (name_ex a) = Some a
name_in e = None

-- The property of each item.
abbrev pub Each : {A : Type 0} → (A → Type 0) → List A → Type 0
Each P [] = Unit {0}
Each P (x ∷ xs) = P x × Each P xs

-- A list of items.
abbrev pub items_ex : List Ex → Ex
items_ex es = node_ex false matrix_literal (P.exs_of es)

-- Ranges of bounds that are there: one number, both bounds, the lower bound alone, the upper bound alone.
abbrev pub as_value : Option Ex → Option P.Bounds
as_value o = option_map (λ e. bounds one_value (e ∷ [])) o

abbrev pub as_span : Option Ex → Option Ex → Option P.Bounds
as_span (Some a) (Some b) = Some (bounds both_ends (a ∷ b ∷ []))
as_span _ _ = None

abbrev pub as_low : Option Ex → Option P.Bounds
as_low o = option_map (λ e. bounds low_end (e ∷ [])) o

abbrev pub as_high : Option Ex → Option P.Bounds
as_high o = option_map (λ e. bounds high_end (e ∷ [])) o

-- The declared table of a name over this domain, where its axes and its cells are those of a model.
abbrev pub table_model : Scope → Text → Dom → Option TableDecl
table_model s a d = let t : TableDecl = table_of s a d in when (list_all (is_model_dom s true []) t.axes && is_model_dom s true [] t.cell) t

-- The same where no earlier line declares the name.
abbrev pub declared_table : Scope → Text → Dom → Option TableDecl
declared_table s a d = elim (look s.tables a) [ Some b ↦ None | None ↦ table_model s a d ]

-- A declared table of its parts, where these are there.
abbrev pub table_of_parts : Text → Option (List Dom) → Option Dom → Option TableDecl
table_of_parts a (Some ds) (Some d) = Some (record { name = a; axes = ds; cell = d })
table_of_parts a _ _ = None
