-- The tree as it is read of an expression of a model is one of the grammar, and has the expression's cells again.
use Rattle.std.proofs.Common.{◌≡◌, refl, sym, ap, ◌∙◌, Bool, true, false, ◌&&◌, ◌||◌, not, List, [], ◌∷◌, ◌++◌}
use Rattle.std.specs.Prelude.{if◌then◌else◌}
use Rattle.std.specs.Option.{is_some}
use Rattle.ess_semantics.specs.declared.words.Op2.{Op2}
use Rattle.ess_semantics.specs.declared.words.Fun.{Fun}
use Rattle.ess_semantics.specs.Values.{Text}
use Rattle.ess_semantics.specs.Names.{look, is_among}
use Rattle.ess_semantics.specs.Trees.{Op, unary, binary, index, application, tuple_literal, set_literal, mset_literal, function_literal, relation_literal, partition_literal, matrix_literal, record_literal, Ends, one_value, both_ends, low_end, high_end, name_pat, tuple_pat, Ex, Exs, number_ex, truth_ex, name_ex, node_ex, matrix_ex, comp_ex, cell_ex, seen_ex, no_exs, more_exs, Gens, no_gens, over, from, cond, Dom, bool_dom, int_dom, name_dom, tuple_dom, record_dom, matrix_dom, set_dom, mset_dom, function_dom, relation_dom, partition_dom, is_truth_op}
use Rattle.ess_semantics.specs.Kinds.{is_bounded}
use Rattle.ess_semantics.proofs.Tests.{and-left, and-right, not-true}
use Rattle.ess_grammar.specs.Grammar.{steps_of}
use Rattle.ess_grammar.specs.Models.{Scope, is_truth_table, cell_or_node, with_cells, all_with_cells, gens_with_cells, dom_with_cells, names_of_gens, same_truth, may_stand, is_plain_cell, is_lex_operator, is_plain_operator, is_model_ex, is_model_node, is_model_list, are_model_exs, are_model_gens, is_model_dom}
use Rattle.ess_grammar.specs.Readable.{is_name_token, some_gens, fit_steps, fit_ranges, fit_operands, ReadableEx, ReadableExs, ReadableGens, ReadableDom}
use Rattle.eprime_tree.specs.Written.{written, all_written, gens_written, dom_written}
use Rattle.eprime_tree.proofs.NamesAndCells.{truth-same, name-stays, cell-back, access-back}

-- ---- steps, ranges and generators

steps-fit : (es : Exs) → fit_steps (steps_of es) es ≡ true
steps-fit no_exs = refl
steps-fit (more_exs e es) = steps-fit es

ranges-written : (rs : List Ends) (es : Exs) → fit_ranges rs es ≡ true → fit_ranges rs (all_written es) ≡ true
ranges-written [] no_exs h = refl
ranges-written [] (more_exs e es) h = cc
ranges-written (one_value ∷ rs) no_exs h = cc
ranges-written (one_value ∷ rs) (more_exs e es) h = ranges-written rs es h
ranges-written (both_ends ∷ rs) no_exs h = cc
ranges-written (both_ends ∷ rs) (more_exs e no_exs) h = cc
ranges-written (both_ends ∷ rs) (more_exs e (more_exs f es)) h = ranges-written rs es h
ranges-written (low_end ∷ rs) no_exs h = cc
ranges-written (low_end ∷ rs) (more_exs e es) h = ranges-written rs es h
ranges-written (high_end ∷ rs) no_exs h = cc
ranges-written (high_end ∷ rs) (more_exs e es) h = ranges-written rs es h

names-written : (gs : Gens) → names_of_gens (gens_written gs) ≡ names_of_gens gs
names-written no_gens = refl
names-written (over (name_pat a) d gs) = ap (λ ns. a ∷ ns) (names-written gs)
names-written (over (tuple_pat ps) d gs) = names-written gs
names-written (from p e gs) = names-written gs
names-written (cond e gs) = names-written gs

some-written : (gs : Gens) → some_gens gs ≡ true → some_gens (gens_written gs) ≡ true
some-written no_gens h = cc
some-written (over p d gs) h = refl
some-written (from p e gs) h = refl
some-written (cond e gs) h = refl

-- ---- trees

-- The tree as it is read has its cells again, and is one of the grammar.
abbrev pub Back : Scope → List Text → Ex → Type 0
Back s g e = (with_cells s g (written e) ≡ e) × ReadableEx (written e)

abbrev AllBack : Scope → List Text → Exs → Type 0
AllBack s g es = (all_with_cells s g (all_written es) ≡ es) × ReadableExs (all_written es)

abbrev GensBack : Scope → List Text → Gens → Type 0
GensBack s g gs = (gens_with_cells s g (gens_written gs) ≡ gs) × ReadableGens (gens_written gs)

abbrev pub DomBack : Scope → List Text → Dom → Type 0
DomBack s g d = (dom_with_cells s g (dom_written d) ≡ d) × ReadableDom (dom_written d)

-- The same of an operator's node.
record NodeBack (s : Scope) (g : List Text) (b : Bool) (op : Op) (es : Exs) : Type 0 where
  cells : cell_or_node s b op (all_with_cells s g (all_written es)) ≡ node_ex b op es
  fit : fit_operands op (all_written es) ≡ true
  parts : ReadableExs (all_written es)

one-back : (s : Scope) (g : List Text) (a : Ex) → Back s g a → AllBack s g (more_exs a no_exs)
one-back s g a x = (ap (λ e. more_exs e no_exs) x.0, (x.1, tt))

two-back : (s : Scope) (g : List Text) (a b : Ex) → Back s g a → Back s g b → AllBack s g (more_exs a (more_exs b no_exs))
two-back s g a b x y = (ap (λ e. more_exs e (more_exs (with_cells s g (written b)) no_exs)) x.0 ∙ ap (λ e. more_exs a (more_exs e no_exs)) y.0, (x.1, (y.1, tt)))

-- a word has one operand
back-word-none : (s : Scope) (f : Bool) (g : List Text) (b : Bool) (w : Fun) → is_model_node s f g (Op.word w) no_exs ≡ true → NodeBack s g b (Op.word w) no_exs
back-word-none s f g b Fun.Sum h = cc
back-word-none s f g b Fun.Product h = cc
back-word-none s f g b Fun.And h = cc
back-word-none s f g b Fun.Or h = cc
back-word-none s f g b Fun.Min h = cc
back-word-none s f g b Fun.Max h = cc
back-word-none s f g b Fun.AllDiff h = cc
back-word-none s f g b Fun.ToInt h = cc
back-word-none s f g b Fun.Image h = cc
back-word-none s f g b Fun.PreImage h = cc
back-word-none s f g b Fun.Defined h = cc
back-word-none s f g b Fun.Range h = cc
back-word-none s f g b Fun.ToSet h = cc
back-word-none s f g b Fun.ToMSet h = cc
back-word-none s f g b Fun.ToRelation h = cc
back-word-none s f g b Fun.Freq h = cc
back-word-none s f g b Fun.Parts h = cc
back-word-none s f g b Fun.Party h = cc
back-word-none s f g b Fun.Participants h = cc
back-word-none s f g b Fun.Together h = cc

back-word-more : (s : Scope) (f : Bool) (g : List Text) (b : Bool) (w : Fun) (a c : Ex) (es : Exs) → is_model_node s f g (Op.word w) (more_exs a (more_exs c es)) ≡ true → NodeBack s g b (Op.word w) (more_exs a (more_exs c es))
back-word-more s f g b Fun.Sum a c es h = cc
back-word-more s f g b Fun.Product a c es h = cc
back-word-more s f g b Fun.And a c es h = cc
back-word-more s f g b Fun.Or a c es h = cc
back-word-more s f g b Fun.Min a c es h = cc
back-word-more s f g b Fun.Max a c es h = cc
back-word-more s f g b Fun.AllDiff a c es h = cc
back-word-more s f g b Fun.ToInt a c es h = cc
back-word-more s f g b Fun.Image a c es h = cc
back-word-more s f g b Fun.PreImage a c es h = cc
back-word-more s f g b Fun.Defined a c es h = cc
back-word-more s f g b Fun.Range a c es h = cc
back-word-more s f g b Fun.ToSet a c es h = cc
back-word-more s f g b Fun.ToMSet a c es h = cc
back-word-more s f g b Fun.ToRelation a c es h = cc
back-word-more s f g b Fun.Freq a c es h = cc
back-word-more s f g b Fun.Parts a c es h = cc
back-word-more s f g b Fun.Party a c es h = cc
back-word-more s f g b Fun.Participants a c es h = cc
back-word-more s f g b Fun.Together a c es h = cc

-- What is shown of an operand, as an expression or as a list.
record Operand (s : Scope) (f : Bool) (g : List Text) (a : Ex) : Type 0 where
  as_ex : is_model_ex s f g a ≡ true → Back s g a
  as_list : is_model_list s f g a ≡ true → Back s g a

back-two : (s : Scope) (f : Bool) (g : List Text) (o : Op2) (i : Bool) (a b : Ex) → Operand s f g a → Operand s f g b →
    (if i then is_model_list s f g a && is_model_list s f g b else is_plain_operator o && is_model_ex s f g a && is_model_ex s f g b) ≡ true → AllBack s g (more_exs a (more_exs b no_exs))
back-two s f g o true a b x y h = two-back s g a b (x.as_list (and-left (is_model_list s f g a) (is_model_list s f g b) h)) (y.as_list (and-right (is_model_list s f g a) (is_model_list s f g b) h))
back-two s f g o false a b x y h =
    let p = and-left (is_plain_operator o && is_model_ex s f g a) (is_model_ex s f g b) h in
    two-back s g a b (x.as_ex (and-right (is_plain_operator o) (is_model_ex s f g a) p)) (y.as_ex (and-right (is_plain_operator o && is_model_ex s f g a) (is_model_ex s f g b) h))

back-word : (s : Scope) (f : Bool) (g : List Text) (w : Fun) (a : Ex) → Operand s f g a → is_model_node s f g (Op.word w) (more_exs a no_exs) ≡ true → Back s g a
back-word s f g Fun.ToInt a x h = x.as_ex h
back-word s f g Fun.Sum a x h = x.as_list h
back-word s f g Fun.Product a x h = x.as_list h
back-word s f g Fun.And a x h = x.as_list h
back-word s f g Fun.Or a x h = x.as_list h
back-word s f g Fun.Min a x h = x.as_list h
back-word s f g Fun.Max a x h = x.as_list h
back-word s f g Fun.AllDiff a x h = x.as_list h
back-word s f g Fun.Image a x h = cc
back-word s f g Fun.PreImage a x h = cc
back-word s f g Fun.Defined a x h = cc
back-word s f g Fun.Range a x h = cc
back-word s f g Fun.ToSet a x h = cc
back-word s f g Fun.ToMSet a x h = cc
back-word s f g Fun.ToRelation a x h = cc
back-word s f g Fun.Freq a x h = cc
back-word s f g Fun.Parts a x h = cc
back-word s f g Fun.Party a x h = cc
back-word s f g Fun.Participants a x h = cc
back-word s f g Fun.Together a x h = cc

mutual
  pub back-ex : (s : Scope) (f : Bool) (g : List Text) (e : Ex) → is_model_ex s f g e ≡ true → Back s g e
  back-ex s f g (number_ex n) h = (refl, h)
  back-ex s f g (truth_ex b) h = (refl, tt)
  back-ex s f g (name_ex a) h = (name-stays s g a (and-right (is_name_token a) (is_among g a || not (is_some (look s.tables a))) h), and-left (is_name_token a) (is_among g a || not (is_some (look s.tables a))) h)
  back-ex s f g (cell_ex b a no_exs) h =
      (cell-back s g a b (and-right (may_stand s f a) (is_plain_cell g a b (look s.tables a)) h), and-left (is_name_token a) (f || not (is_among s.finds a)) (and-left (may_stand s f a) (is_plain_cell g a b (look s.tables a)) h))
  back-ex s f g (cell_ex b a (more_exs e es)) h =
      let p = and-left (may_stand s f a && same_truth b (is_truth_table s a) && is_model_ex s f g e) (are_model_exs s f g es) h in
      let q = and-left (may_stand s f a && same_truth b (is_truth_table s a)) (is_model_ex s f g e) p in
      let x = back-ex s f g e (and-right (may_stand s f a && same_truth b (is_truth_table s a)) (is_model_ex s f g e) p) in
      let y = back-exs s f g es (and-right (may_stand s f a && same_truth b (is_truth_table s a) && is_model_ex s f g e) (are_model_exs s f g es) h) in
      let t = truth-same b (is_truth_table s a) (and-right (may_stand s f a) (same_truth b (is_truth_table s a)) q) in (
        access-back s g a false (steps_of (more_exs (written e) (all_written es))) (more_exs (with_cells s g (written e)) (all_with_cells s g (all_written es)))
            ∙ ap (λ t. cell_ex t a (more_exs (with_cells s g (written e)) (all_with_cells s g (all_written es)))) (sym t)
            ∙ ap (λ e. cell_ex b a (more_exs e (all_with_cells s g (all_written es)))) x.0
            ∙ ap (λ es. cell_ex b a (more_exs e es)) y.0,
        (refl, steps-fit (more_exs (written e) (all_written es)), (and-left (is_name_token a) (f || not (is_among s.finds a)) (and-left (may_stand s f a) (same_truth b (is_truth_table s a)) q), (x.1, y.1))),
      )
  back-ex s f g (node_ex b op es) h =
      let n = back-node s f g b op es (and-right (same_truth b (is_truth_op op)) (is_model_node s f g op es) h) in
      (n.cells, (truth-same b (is_truth_op op) (and-left (same_truth b (is_truth_op op)) (is_model_node s f g op es) h), n.fit, n.parts))
  back-ex s f g (matrix_ex es d) h = cc
  back-ex s f g (comp_ex e gs) h = cc
  back-ex s f g (seen_ex r d ns es) h = cc

  back-node : (s : Scope) (f : Bool) (g : List Text) (b : Bool) (op : Op) (es : Exs) → is_model_node s f g op es ≡ true → NodeBack s g b op es
  back-node s f g b (unary o) no_exs h = cc
  back-node s f g b (unary o) (more_exs a no_exs) h =
      let x = one-back s g a (back-ex s f g a h) in record { cells = ap (λ es. node_ex b (unary o) es) x.0; fit = refl; parts = x.1 }
  back-node s f g b (unary o) (more_exs a (more_exs c es)) h = cc
  back-node s f g b (binary o) no_exs h = cc
  back-node s f g b (binary o) (more_exs a no_exs) h = cc
  back-node s f g b (binary o) (more_exs a (more_exs c no_exs)) h =
      let x = back-two s f g o (is_lex_operator o) a c (record { as_ex = λ h. back-ex s f g a h; as_list = λ h. back-list s f g a h }) (record { as_ex = λ h. back-ex s f g c h; as_list = λ h. back-list s f g c h }) h in record { cells = ap (λ es. node_ex b (binary o) es) x.0; fit = refl; parts = x.1 }
  back-node s f g b (binary o) (more_exs a (more_exs c (more_exs e es))) h = cc
  back-node s f g b (Op.word w) no_exs h = back-word-none s f g b w h
  back-node s f g b (Op.word w) (more_exs a no_exs) h =
      let x = one-back s g a (back-word s f g w a (record { as_ex = λ h. back-ex s f g a h; as_list = λ h. back-list s f g a h }) h) in record { cells = ap (λ es. node_ex b (Op.word w) es) x.0; fit = refl; parts = x.1 }
  back-node s f g b (Op.word w) (more_exs a (more_exs c es)) h = back-word-more s f g b w a c es h
  back-node s f g b (index ss) es h = cc
  back-node s f g b application es h = cc
  back-node s f g b tuple_literal es h = cc
  back-node s f g b set_literal es h = cc
  back-node s f g b mset_literal es h = cc
  back-node s f g b function_literal es h = cc
  back-node s f g b relation_literal es h = cc
  back-node s f g b partition_literal es h = cc
  back-node s f g b matrix_literal es h = cc
  back-node s f g b (record_literal ns) es h = cc

  back-list : (s : Scope) (f : Bool) (g : List Text) (e : Ex) → is_model_list s f g e ≡ true → Back s g e
  back-list s f g (node_ex b matrix_literal es) h =
      let x = back-exs s f g es (and-right (not b) (are_model_exs s f g es) h) in
      (ap (λ es. node_ex b matrix_literal es) x.0, (not-true b (and-left (not b) (are_model_exs s f g es) h), refl, x.1))
  back-list s f g (comp_ex e gs) h =
      let p = and-left (some_gens gs && is_model_ex s f (names_of_gens gs ++ g) e) (are_model_gens s g gs) h in
      let x = back-ex s f (names_of_gens gs ++ g) e (and-right (some_gens gs) (is_model_ex s f (names_of_gens gs ++ g) e) p) in
      let y = back-gens s g gs (and-right (some_gens gs && is_model_ex s f (names_of_gens gs ++ g) e) (are_model_gens s g gs) h) in (
        ap (λ ns. comp_ex (with_cells s (ns ++ g) (written e)) (gens_with_cells s g (gens_written gs))) (names-written gs)
            ∙ ap (λ e. comp_ex e (gens_with_cells s g (gens_written gs))) x.0 ∙ ap (λ gs. comp_ex e gs) y.0,
        (x.1, some-written gs (and-left (some_gens gs) (is_model_ex s f (names_of_gens gs ++ g) e) p), y.1),
      )
  back-list s f g (number_ex n) h = cc
  back-list s f g (truth_ex b) h = cc
  back-list s f g (name_ex a) h = cc
  back-list s f g (cell_ex b a es) h = cc
  back-list s f g (matrix_ex es d) h = cc
  back-list s f g (seen_ex r d ns es) h = cc
  back-list s f g (node_ex b (unary o) es) h = cc
  back-list s f g (node_ex b (binary o) es) h = cc
  back-list s f g (node_ex b (Op.word w) es) h = cc
  back-list s f g (node_ex b (index ss) es) h = cc
  back-list s f g (node_ex b application es) h = cc
  back-list s f g (node_ex b tuple_literal es) h = cc
  back-list s f g (node_ex b set_literal es) h = cc
  back-list s f g (node_ex b mset_literal es) h = cc
  back-list s f g (node_ex b function_literal es) h = cc
  back-list s f g (node_ex b relation_literal es) h = cc
  back-list s f g (node_ex b partition_literal es) h = cc
  back-list s f g (node_ex b (record_literal ns) es) h = cc

  back-exs : (s : Scope) (f : Bool) (g : List Text) (es : Exs) → are_model_exs s f g es ≡ true → AllBack s g es
  back-exs s f g no_exs h = (refl, tt)
  back-exs s f g (more_exs e es) h =
      let x = back-ex s f g e (and-left (is_model_ex s f g e) (are_model_exs s f g es) h) in
      let y = back-exs s f g es (and-right (is_model_ex s f g e) (are_model_exs s f g es) h) in
      (ap (λ e. more_exs e (all_with_cells s g (all_written es))) x.0 ∙ ap (λ es. more_exs e es) y.0, (x.1, y.1))

  back-gens : (s : Scope) (g : List Text) (gs : Gens) → are_model_gens s g gs ≡ true → GensBack s g gs
  back-gens s g no_gens h = (refl, tt)
  back-gens s g (over (name_pat a) d gs) h =
      let p = and-left (may_stand s false a && is_model_dom s false g d) (are_model_gens s (a ∷ g) gs) h in
      let x = back-dom s false g d (and-right (may_stand s false a) (is_model_dom s false g d) p) in
      let y = back-gens s (a ∷ g) gs (and-right (may_stand s false a && is_model_dom s false g d) (are_model_gens s (a ∷ g) gs) h) in (
        ap (λ d. over (name_pat a) d (gens_with_cells s (a ∷ g) (gens_written gs))) x.0 ∙ ap (λ gs. over (name_pat a) d gs) y.0,
        (and-left (is_name_token a) (false || not (is_among s.finds a)) (and-left (may_stand s false a) (is_model_dom s false g d) p), x.1, y.1),
      )
  back-gens s g (over (tuple_pat ps) d gs) h = cc
  back-gens s g (from p e gs) h = cc
  back-gens s g (cond e gs) h =
      let x = back-ex s false g e (and-left (is_model_ex s false g e) (are_model_gens s g gs) h) in
      let y = back-gens s g gs (and-right (is_model_ex s false g e) (are_model_gens s g gs) h) in
      (ap (λ e. cond e (gens_with_cells s g (gens_written gs))) x.0 ∙ ap (λ gs. cond e gs) y.0, (x.1, y.1))

  pub back-dom : (s : Scope) (i : Bool) (g : List Text) (d : Dom) → is_model_dom s i g d ≡ true → DomBack s g d
  back-dom s i g bool_dom h = (refl, tt)
  back-dom s i g (int_dom rs es) h =
      let p = and-left ((i || is_bounded rs) && fit_ranges rs es) (are_model_exs s false g es) h in
      let x = back-exs s false g es (and-right ((i || is_bounded rs) && fit_ranges rs es) (are_model_exs s false g es) h) in
      (ap (λ es. int_dom rs es) x.0, (ranges-written rs es (and-right (i || is_bounded rs) (fit_ranges rs es) p), x.1))
  back-dom s i g (name_dom a) h = cc
  back-dom s i g (tuple_dom ds) h = cc
  back-dom s i g (record_dom ns ds) h = cc
  back-dom s i g (matrix_dom ds d) h = cc
  back-dom s i g (set_dom ms es d) h = cc
  back-dom s i g (mset_dom ms es d) h = cc
  back-dom s i g (function_dom ms es c d) h = cc
  back-dom s i g (relation_dom ms es ds) h = cc
  back-dom s i g (partition_dom ms es d) h = cc
