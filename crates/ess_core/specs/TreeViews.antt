-- The pure trees that expressions, domains, representations and patterns stand for.
use Rattle.std.specs.Prelude.{Bool, true, false, not, List, [], ◌∷◌, map, Option, Some, None}
use Rattle.ess_semantics.specs.Values.{Text}
use Rattle.ess_semantics.specs.Names.{Names, keys}
use Rattle.ess_semantics.specs.Lists.{append_all}
use Rattle.ess_semantics.specs.Trees as pure
use Rattle.ess_semantics.specs.Trees.{by_value, to_component, to_field, Op, unary, binary, word, index, application, tuple_literal, set_literal, mset_literal, function_literal, relation_literal, partition_literal, matrix_literal, record_literal, Ends, one_value, both_ends, low_end, high_end, Mark, flag, valued, repr, no_reprs, name_pat, tuple_pat, no_pats, more_pats, number_ex, truth_ex, name_ex, node_ex, matrix_ex, comp_ex, cell_ex, seen_ex, no_exs, more_exs, no_gens, over, from, cond, bool_dom, int_dom, name_dom, tuple_dom, record_dom, matrix_dom, set_dom, mset_dom, function_dom, relation_dom, partition_dom, ex1, ex2, is_truth_op1, is_truth_op2, is_truth_word}
use Rattle.ess_semantics.specs.declared.words.Fun.{Fun}
use Rattle.ess_semantics.specs.declared.words.Key.{Key}
use Rattle.ess_semantics.specs.declared.words.ReprKind.{ReprKind}
use Rattle.ess_semantics.specs.Kinds.{doms_of}
use Rattle.ess_semantics.specs.Choice.{reprs_of}
use Rattle.ess_core.specs.declared.representations.Repr.{Repr}
use Rattle.ess_core.specs.declared.representations.Repr.TheOpen.{Repr-F}
use Rattle.ess_core.specs.declared.representations.Repr.TheFolds.{fold-Repr}
use Rattle.ess_core.specs.declared.expressions.Pat.{Pat}
use Rattle.ess_core.specs.declared.expressions.Pat.TheOpen.{Pat-F}
use Rattle.ess_core.specs.declared.expressions.Pat.TheFolds.{fold-Pat}
use Rattle.ess_core.specs.declared.domains.Dom.{Dom}
use Rattle.ess_core.specs.declared.domains.FieldDom.{FieldDom}
use Rattle.ess_core.specs.declared.domains.Range.{Range}
use Rattle.ess_core.specs.declared.domains.Attr.{Attr}
use Rattle.ess_core.specs.declared.expressions.Ex.{Ex}
use Rattle.ess_core.specs.declared.expressions.Step.{Step}
use Rattle.ess_core.specs.declared.expressions.FieldEx.{FieldEx}
use Rattle.ess_core.specs.declared.expressions.PairEx.{PairEx}
use Rattle.ess_core.specs.declared.expressions.Gen.{Gen}
use Rattle.ess_core.specs.declared.expressions.View.{View}
use Rattle.ess_core.specs.declared.domains.Dom.TheOpen.{Dom-F, FieldDom-F, Range-F, Attr-F, Ex-F, Step-F, FieldEx-F, PairEx-F, Gen-F, View-F}
use Rattle.ess_core.specs.declared.domains.Dom.TheFolds.{fold-Dom, fold-FieldDom, fold-Range, fold-Attr, fold-Ex, fold-Step, fold-FieldEx, fold-PairEx, fold-Gen, fold-View}

-- ---- representations and patterns

abbrev pub repr_step : Repr-F pure.Repr → pure.Repr
repr_step r = repr r.kind (reprs_of r.children)

-- The pure tree of a representation.
abbrev pub pure_repr : Repr → pure.Repr
pure_repr = fold-Repr pure.Repr repr_step

-- Several patterns.
abbrev pub pats_of : List pure.Pat → pure.Pats
pats_of [] = no_pats
pats_of (p ∷ ps) = more_pats p (pats_of ps)

abbrev pub pat_step : Pat-F pure.Pat → pure.Pat
pat_step (Pat-F.Name a) = name_pat a
pat_step (Pat-F.Tuple ps) = tuple_pat (pats_of ps)

-- The pure tree of a pattern.
abbrev pub pure_pat : Pat → pure.Pat
pure_pat = fold-Pat pure.Pat pat_step

-- ---- what the parts of expressions and domains become

-- A word with the expressions that stand in it: a range with its bounds, an attribute with its number, a step with its
-- value.
abbrev pub With : Type 0 → Type 0
With A = A × List pure.Ex

-- The words, in order.
abbrev pub words_of : {A : Type 0} → List (With A) → List A
words_of ws = map (λ w. w.0) ws

-- The expressions that stand in the words, from left to right.
abbrev pub within : {A : Type 0} → List (With A) → List pure.Ex
within ws = append_all (map (λ w. w.1) ws)

-- A generator or a condition by itself.
pub data Item : Type 0 where
  over_item : pure.Pat → pure.Dom → Item
  from_item : pure.Pat → pure.Ex → Item
  cond_item : pure.Ex → Item

-- Several expressions.
abbrev pub exs_of : List pure.Ex → pure.Exs
exs_of [] = no_exs
exs_of (e ∷ es) = more_exs e (exs_of es)

-- Generators and conditions, from left to right.
abbrev pub gens_of : List Item → pure.Gens
gens_of [] = no_gens
gens_of (over_item p d ∷ gs) = over p d (gens_of gs)
gens_of (from_item p e ∷ gs) = from p e (gens_of gs)
gens_of (cond_item e ∷ gs) = cond e (gens_of gs)

-- The fields' values.
abbrev pub field_values : {A : Type 0} → Names A → List A
field_values fs = map (λ f. f.1) fs

-- A matrix literal, with its index domain where it is written.
abbrev pub matrix_literal_of : List pure.Ex → Option pure.Dom → pure.Ex
matrix_literal_of es None = node_ex false matrix_literal (exs_of es)
matrix_literal_of es (Some d) = matrix_ex (exs_of es) d

-- What stands for a bound that is missing where both are: a view of a domain without a meaning, which has none itself.
abbrev pub no_bound : pure.Ex
no_bound = seen_ex (repr ReprKind.Atom no_reprs) (int_dom (both_ends ∷ []) no_exs) [] no_exs

-- A range. One without bounds is none of the grammar: it counts as one whose bounds have no meaning.
abbrev pub span : Option pure.Ex → Option pure.Ex → With Ends
span None None = (both_ends, no_bound ∷ no_bound ∷ [])
span None (Some b) = (high_end, b ∷ [])
span (Some a) None = (low_end, a ∷ [])
span (Some a) (Some b) = (both_ends, a ∷ b ∷ [])

-- An attribute without a number, or with one.
abbrev pub attribute : Key → Option pure.Ex → With Mark
attribute k None = (flag k, [])
attribute k (Some e) = (valued k, e ∷ [])

-- ---- one layer of each, with what its parts become in their places

-- A layer whose parts are what they become: domains, ranges, expressions, generators, steps, attributes, fields of domains
-- and of literals, pairs, views.
abbrev pub Level : (Type 0 → Type 0 → Type 0 → Type 0 → Type 0 → Type 0 → Type 0 → Type 0 → Type 0 → Type 0 → Type 0) → Type 0
Level F = F pure.Dom (With Ends) pure.Ex Item (With pure.Step) (With Mark) (Text × pure.Dom) (Text × pure.Ex) pure.Ex pure.Ex

abbrev pub dom_step : Level Dom-F → pure.Dom
dom_step Dom-F.Bool = bool_dom
dom_step (Dom-F.Int rs) = int_dom (words_of rs) (exs_of (within rs))
dom_step (Dom-F.Dom::Name a) = name_dom a
dom_step (Dom-F.Dom::Tuple ds) = tuple_dom (doms_of ds)
dom_step (Dom-F.Dom::Rec fs) = record_dom (keys fs) (doms_of (field_values fs))
dom_step (Dom-F.Dom::Matrix is d) = matrix_dom (doms_of is) d
dom_step (Dom-F.Dom::Set ms d) = set_dom (words_of ms) (exs_of (within ms)) d
dom_step (Dom-F.Dom::MSet ms d) = mset_dom (words_of ms) (exs_of (within ms)) d
dom_step (Dom-F.Dom::Function ms d e) = function_dom (words_of ms) (exs_of (within ms)) d e
dom_step (Dom-F.Dom::Relation ms ds) = relation_dom (words_of ms) (exs_of (within ms)) (doms_of ds)
dom_step (Dom-F.Dom::Partition ms d) = partition_dom (words_of ms) (exs_of (within ms)) d

abbrev pub field_dom_step : Level FieldDom-F → Text × pure.Dom
field_dom_step f = (f.name, f.dom)

abbrev pub range_step : Level Range-F → With Ends
range_step (Range-F.Range::One e) = (one_value, e ∷ [])
range_step (Range-F.Span low high) = span low high

abbrev pub attr_step : Level Attr-F → With Mark
attr_step a = attribute a.key a.value

-- The mark of a call. A word says itself whether it is Boolean; the mark that a call carries turns it, so that each tree has
-- a view of its own: `image` is Boolean where its call is marked, and no other call is marked.
abbrev pub call_mark : Bool → Fun → Bool
call_mark false f = is_truth_word f
call_mark true f = not (is_truth_word f)

-- The word of a node says whether it is Boolean; an index, an application and a call of `image` say so themselves.
abbrev pub ex_step : Level Ex-F → pure.Ex
ex_step (Ex-F.Num n) = number_ex n
ex_step (Ex-F.Truth b) = truth_ex b
ex_step (Ex-F.Ex::Name a) = name_ex a
ex_step (Ex-F.Ex::One o a) = ex1 (is_truth_op1 o) o a
ex_step (Ex-F.Two o a b) = ex2 (is_truth_op2 o) o a b
ex_step (Ex-F.Call b f es) = node_ex (call_mark b f) (word f) (exs_of es)
ex_step (Ex-F.At b e ss) = node_ex b (index (words_of ss)) (more_exs e (exs_of (within ss)))
ex_step (Ex-F.Apply b f es) = node_ex b application (more_exs f (exs_of es))
ex_step (Ex-F.Ex::Tuple es) = node_ex false tuple_literal (exs_of es)
ex_step (Ex-F.Ex::Rec fs) = node_ex false (record_literal (keys fs)) (exs_of (field_values fs))
ex_step (Ex-F.Ex::Set es) = node_ex false set_literal (exs_of es)
ex_step (Ex-F.Ex::MSet es) = node_ex false mset_literal (exs_of es)
ex_step (Ex-F.Ex::Function ps) = node_ex false function_literal (exs_of ps)
ex_step (Ex-F.Ex::Relation es) = node_ex false relation_literal (exs_of es)
ex_step (Ex-F.Ex::Partition es) = node_ex false partition_literal (exs_of es)
ex_step (Ex-F.Ex::Matrix es d) = matrix_literal_of es d
ex_step (Ex-F.Comp e gs) = comp_ex e (gens_of gs)
ex_step (Ex-F.Cell b n es) = cell_ex b n (exs_of es)
ex_step (Ex-F.Seen v) = v

abbrev pub step_step : Level Step-F → With pure.Step
step_step (Step-F.Value e) = (by_value, e ∷ [])
step_step (Step-F.Component k) = (to_component k, [])
step_step (Step-F.Field a) = (to_field a, [])

abbrev pub field_ex_step : Level FieldEx-F → Text × pure.Ex
field_ex_step f = (f.name, f.ex)

-- A pair of a function literal is a tuple.
abbrev pub pair_ex_step : Level PairEx-F → pure.Ex
pair_ex_step p = node_ex false tuple_literal (more_exs p.from (more_exs p.to no_exs))

abbrev pub gen_step : Level Gen-F → Item
gen_step (Gen-F.Over p d) = over_item (pure_pat p) d
gen_step (Gen-F.From p e) = from_item (pure_pat p) e
gen_step (Gen-F.If e) = cond_item e

abbrev pub view_step : Level View-F → pure.Ex
view_step v = seen_ex (pure_repr v.repr) v.dom v.cells (exs_of v.at)

-- ---- the pure trees

-- The pure tree of a domain.
abbrev pub pure_dom : Dom → pure.Dom
pure_dom = fold-Dom pure.Dom (With Ends) pure.Ex Item (With pure.Step) (With Mark) (Text × pure.Dom) (Text × pure.Ex) pure.Ex pure.Ex dom_step range_step ex_step gen_step step_step attr_step field_dom_step field_ex_step pair_ex_step view_step

-- The pure tree of a field of a record's domain.
abbrev pub pure_field_dom : FieldDom → Text × pure.Dom
pure_field_dom = fold-FieldDom pure.Dom (With Ends) pure.Ex Item (With pure.Step) (With Mark) (Text × pure.Dom) (Text × pure.Ex) pure.Ex pure.Ex dom_step range_step ex_step gen_step step_step attr_step field_dom_step field_ex_step pair_ex_step view_step

-- The pure tree of a range.
abbrev pub pure_range : Range → With Ends
pure_range = fold-Range pure.Dom (With Ends) pure.Ex Item (With pure.Step) (With Mark) (Text × pure.Dom) (Text × pure.Ex) pure.Ex pure.Ex dom_step range_step ex_step gen_step step_step attr_step field_dom_step field_ex_step pair_ex_step view_step

-- The pure tree of an attribute.
abbrev pub pure_attr : Attr → With Mark
pure_attr = fold-Attr pure.Dom (With Ends) pure.Ex Item (With pure.Step) (With Mark) (Text × pure.Dom) (Text × pure.Ex) pure.Ex pure.Ex dom_step range_step ex_step gen_step step_step attr_step field_dom_step field_ex_step pair_ex_step view_step

-- The pure tree of an expression.
abbrev pub pure_ex : Ex → pure.Ex
pure_ex = fold-Ex pure.Dom (With Ends) pure.Ex Item (With pure.Step) (With Mark) (Text × pure.Dom) (Text × pure.Ex) pure.Ex pure.Ex dom_step range_step ex_step gen_step step_step attr_step field_dom_step field_ex_step pair_ex_step view_step

-- The pure tree of a step of an index.
abbrev pub pure_step : Step → With pure.Step
pure_step = fold-Step pure.Dom (With Ends) pure.Ex Item (With pure.Step) (With Mark) (Text × pure.Dom) (Text × pure.Ex) pure.Ex pure.Ex dom_step range_step ex_step gen_step step_step attr_step field_dom_step field_ex_step pair_ex_step view_step

-- The pure tree of a field of a record literal.
abbrev pub pure_field_ex : FieldEx → Text × pure.Ex
pure_field_ex = fold-FieldEx pure.Dom (With Ends) pure.Ex Item (With pure.Step) (With Mark) (Text × pure.Dom) (Text × pure.Ex) pure.Ex pure.Ex dom_step range_step ex_step gen_step step_step attr_step field_dom_step field_ex_step pair_ex_step view_step

-- The pure tree of a pair of a function literal.
abbrev pub pure_pair_ex : PairEx → pure.Ex
pure_pair_ex = fold-PairEx pure.Dom (With Ends) pure.Ex Item (With pure.Step) (With Mark) (Text × pure.Dom) (Text × pure.Ex) pure.Ex pure.Ex dom_step range_step ex_step gen_step step_step attr_step field_dom_step field_ex_step pair_ex_step view_step

-- The pure tree of a generator or condition.
abbrev pub pure_gen : Gen → Item
pure_gen = fold-Gen pure.Dom (With Ends) pure.Ex Item (With pure.Step) (With Mark) (Text × pure.Dom) (Text × pure.Ex) pure.Ex pure.Ex dom_step range_step ex_step gen_step step_step attr_step field_dom_step field_ex_step pair_ex_step view_step

-- The pure tree of a view.
abbrev pub pure_view : View → pure.Ex
pure_view = fold-View pure.Dom (With Ends) pure.Ex Item (With pure.Step) (With Mark) (Text × pure.Dom) (Text × pure.Ex) pure.Ex pure.Ex dom_step range_step ex_step gen_step step_step attr_step field_dom_step field_ex_step pair_ex_step view_step

-- ---- rows of trees

-- The pure trees of several expressions.
abbrev pub pure_exs : List Ex → pure.Exs
pure_exs es = exs_of (map pure_ex es)

-- The pure trees of several domains.
abbrev pub pure_doms : List Dom → pure.Doms
pure_doms ds = doms_of (map pure_dom ds)

-- The pure trees of generators and conditions, from left to right.
abbrev pub pure_gens : List Gen → pure.Gens
pure_gens gs = gens_of (map pure_gen gs)
