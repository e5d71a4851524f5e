-- Each rule of folds by the parts of the root.
use Rattle.std.proofs.Common.{◌≡◌, refl, true, false}
use Rattle.ess_semantics.specs.declared.words.Fun.{Fun}
use Rattle.ess_semantics.specs.Lists.{and_then}
use Rattle.ess_semantics.specs.Values.{Text}
use Rattle.ess_semantics.specs.Trees.{word, matrix_literal, mset_literal, name_pat, Ex, node_ex, comp_ex, fun1, no_exs, more_exs, no_gens, from, cond}
use Rattle.ess_rules_laws.specs.FoldRules.{fold_alone, fold_nothing, fold_one, fold_bare, fold_term}
use Rattle.ess_rules_laws.specs.LooseRules.{fold_loosely}
use Rattle.ess_rules_laws.specs.SourceRules.{fold_items}
use Rattle.ess_rules_folds.specs.Forms.{word_parts, set_operand, made_set_of, fold_parts}
use Rattle.ess_rules_folds.specs.FoldParts.{nothing_made, one_made, bare_made, term_made, alone_made, loose_made, items_made}

-- Over nothing.
pub nothing_by_parts : (e : Ex) → fold_nothing e ≡ and_then (word_parts e) nothing_made
nothing_by_parts (fun1 true Fun.And (node_ex false matrix_literal no_exs)) = refl
nothing_by_parts (fun1 true Fun.Or (node_ex false matrix_literal no_exs)) = refl
nothing_by_parts (fun1 false Fun.Sum (node_ex false matrix_literal no_exs)) = refl
nothing_by_parts (fun1 false Fun.Product (node_ex false matrix_literal no_exs)) = refl
nothing_by_parts e = refl

-- Over one item.
pub one_by_parts : (e : Ex) → fold_one e ≡ and_then (word_parts e) one_made
one_by_parts (fun1 true Fun.And (node_ex false matrix_literal (more_exs a no_exs))) = refl
one_by_parts (fun1 true Fun.Or (node_ex false matrix_literal (more_exs a no_exs))) = refl
one_by_parts (fun1 false Fun.Sum (node_ex false matrix_literal (more_exs a no_exs))) = refl
one_by_parts (fun1 false Fun.Product (node_ex false matrix_literal (more_exs a no_exs))) = refl
one_by_parts e = refl

-- Over a comprehension without generators.
pub bare_by_parts : (e : Ex) → fold_bare e ≡ and_then (word_parts e) bare_made
bare_by_parts (fun1 true Fun.And (comp_ex e no_gens)) = refl
bare_by_parts (fun1 true Fun.Or (comp_ex e no_gens)) = refl
bare_by_parts (fun1 false Fun.Sum (comp_ex e no_gens)) = refl
bare_by_parts (fun1 false Fun.Product (comp_ex e no_gens)) = refl
bare_by_parts e = refl

-- Over a term.
pub term_by_parts : (x : Text) (e : Ex) → fold_term x e ≡ and_then (word_parts e) (term_made x)
term_by_parts x (fun1 b f l) = refl
term_by_parts x e = refl

-- Over a condition alone.
pub alone_by_parts : (e : Ex) → fold_alone e ≡ and_then (word_parts e) alone_made
alone_by_parts (fun1 true Fun.And (comp_ex e (cond c no_gens))) = refl
alone_by_parts (fun1 true Fun.Or (comp_ex e (cond c no_gens))) = refl
alone_by_parts (node_ex false (word f) es) = refl
alone_by_parts e = refl

-- Over a set that is made of another container.
pub loose_by_parts : (e : Ex) → fold_loosely e ≡ and_then (word_parts e) loose_made
loose_by_parts (fun1 true Fun.And (comp_ex e (from p (fun1 false Fun.ToSet s) hs))) = refl
loose_by_parts (fun1 true Fun.Or (comp_ex e (from p (fun1 false Fun.ToSet s) hs))) = refl
loose_by_parts (node_ex false (word f) es) = refl
loose_by_parts e = refl

-- What a set is made of, by its word.
pub made_set_by_word : (e : Ex) → made_set_of e ≡ and_then (word_parts e) (λ w. set_operand w.0 w.1 w.2)
made_set_by_word (node_ex true (word f) es) = refl
made_set_by_word (fun1 false Fun.ToSet s) = refl
made_set_by_word e = refl

-- Over a literal.
pub items_by_parts : (e : Ex) → fold_items e ≡ and_then (fold_parts e) items_made
items_by_parts (fun1 m f (comp_ex e (from (name_pat y) (node_ex false matrix_literal es) hs))) = refl
items_by_parts (fun1 m f (comp_ex e (from (name_pat y) (node_ex false mset_literal es) hs))) = refl
items_by_parts e = refl
