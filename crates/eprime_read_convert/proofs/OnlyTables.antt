-- Only a table has indices: an index of what is no name is none of a model.
use Rattle.std.proofs.Common.{◌≡◌, refl, Bool, true, false, ◌&&◌, List, [], ◌∷◌, None}
use Rattle.ess_semantics.specs.Values.{Text}
use Rattle.ess_semantics.specs.Lists.{when}
use Rattle.ess_semantics.specs.Trees.{Op, unary, binary, index, matrix_literal, Step, Ex, Exs, number_ex, truth_ex, name_ex, node_ex, matrix_ex, comp_ex, cell_ex, seen_ex, no_exs, more_exs}
use Rattle.ess_grammar.specs.Readable.{fit_operands, ReadableEx}
use Rattle.ess_grammar.specs.Models.{Scope, cell_or_node, with_cells, all_with_cells, same_truth, is_model_ex}
use Rattle.ess_core.specs.TreeViews.{With, words_of, within, exs_of}
use Rattle.eprime_read_convert.specs.Converted.{model_ex, access, name_in}

-- Whether the tree is a name, or a cell without indices.
abbrev is_base : Ex → Bool
is_base (name_ex a) = true
is_base (cell_ex b a no_exs) = true
is_base e = false

and-none : {A : Type 0} (b : Bool) (x : A) → when (b && false) x ≡ None
and-none true x = refl
and-none false x = refl

outer-none : (s : Scope) (f : Bool) (g : List Text) (b : Bool) (ss : List Step) (x : Ex) (es : Exs) → is_base x ≡ false →
    when (is_model_ex s f g (cell_or_node s b (index ss) (more_exs x es))) (cell_or_node s b (index ss) (more_exs x es)) ≡ None
outer-none s f g b ss (number_ex n) es h = and-none (same_truth b false) _
outer-none s f g b ss (truth_ex c) es h = and-none (same_truth b false) _
outer-none s f g b ss (name_ex a) es h = cc
outer-none s f g b ss (node_ex c op fs) es h = and-none (same_truth b false) _
outer-none s f g b ss (matrix_ex fs d) es h = and-none (same_truth b false) _
outer-none s f g b ss (comp_ex e gs) es h = and-none (same_truth b false) _
outer-none s f g b ss (cell_ex c a no_exs) es h = cc
outer-none s f g b ss (cell_ex c a (more_exs e fs)) es h = and-none (same_truth b false) _
outer-none s f g b ss (seen_ex r d ns fs) es h = and-none (same_truth b false) _

inner-base : (s : Scope) (c : Bool) (ts : List Step) (x : Ex) (h : Ex) (hs : Exs) → is_base (cell_or_node s c (index ts) (more_exs x (more_exs h hs))) ≡ false
inner-base s c ts (number_ex n) h hs = refl
inner-base s c ts (truth_ex b) h hs = refl
inner-base s c ts (name_ex a) h hs = refl
inner-base s c ts (node_ex b op fs) h hs = refl
inner-base s c ts (matrix_ex fs d) h hs = refl
inner-base s c ts (comp_ex e gs) h hs = refl
inner-base s c ts (cell_ex b a no_exs) h hs = refl
inner-base s c ts (cell_ex b a (more_exs e fs)) h hs = refl
inner-base s c ts (seen_ex r d ns fs) h hs = refl

steps-behind : (ts : List Step) (h : Ex) → fit_operands (index ts) (more_exs h no_exs) ≡ true → ⊥
steps-behind [] h k = cc
steps-behind (Step.by_value ∷ ss) h k = cc
steps-behind (Step.to_component n ∷ ss) h k = cc
steps-behind (Step.to_field a ∷ ss) h k = cc

node-base : (s : Scope) (g : List Text) (c : Bool) (op : Op) (fs : Exs) → fit_operands op fs ≡ true → is_base (cell_or_node s c op (all_with_cells s g fs)) ≡ false
node-base s g c (index ts) no_exs h = refl
node-base s g c (index ts) (more_exs x no_exs) h = absurd (steps-behind ts x h)
node-base s g c (index ts) (more_exs x (more_exs y ys)) h = inner-base s c ts (with_cells s g x) (with_cells s g y) (all_with_cells s g ys)
node-base s g c (unary o) fs h = refl
node-base s g c (binary o) fs h = refl
node-base s g c (Op.word w) fs h = refl
node-base s g c Op.application fs h = refl
node-base s g c Op.tuple_literal fs h = refl
node-base s g c Op.set_literal fs h = refl
node-base s g c Op.mset_literal fs h = refl
node-base s g c Op.function_literal fs h = refl
node-base s g c Op.relation_literal fs h = refl
node-base s g c Op.partition_literal fs h = refl
node-base s g c matrix_literal fs h = refl
node-base s g c (Op.record_literal ns) fs h = refl

no-base : (s : Scope) (g : List Text) (e : Ex) → name_in e ≡ None → ReadableEx e → is_base (with_cells s g e) ≡ false
no-base s g (number_ex n) h r = refl
no-base s g (truth_ex b) h r = refl
no-base s g (name_ex a) h r = cc
no-base s g (node_ex c op fs) h r = node-base s g c op fs r.1
no-base s g (matrix_ex fs d) h r = refl
no-base s g (comp_ex e gs) h r = refl
no-base s g (cell_ex b a es) h r = absurd r
no-base s g (seen_ex q d ns es) h r = absurd r

-- Only a table has indices.
pub model-no_table : (s : Scope) (f : Bool) (g : List Text) (e : Ex) (ws : List (With Step)) → name_in e ≡ None → ReadableEx (access e ws) → model_ex s f g (access e ws) ≡ None
model-no_table s f g e ws h r = outer-none s f g false (words_of ws) (with_cells s g e) (all_with_cells s g (exs_of (within ws))) (no-base s g e h ((r.2).0))
