-- Terms by their indices: by their forms, the type of the items, the operands of an index, and the parts of a comprehension.
use Rattle.std.proofs.Common.{◌≡◌, refl, ap, Bool, true, false, ◌||◌, if◌then◌else◌, [], ◌∷◌, Option, Some, None, option_map, is_some}
use Rattle.ess_semantics.specs.Lists.{and_then}
use Rattle.ess_semantics.specs.Values.{Text, a_matrix}
use Rattle.ess_semantics.specs.Names.{Names}
use Rattle.ess_semantics.specs.NamesAt.{names_behind}
use Rattle.ess_semantics.specs.Trees.{by_value, index, matrix_literal, name_pat}
use Rattle.ess_semantics.specs.Trees.{Ex, Exs, node_ex, matrix_ex, comp_ex, no_exs, more_exs, Gens, from, Dom}
use Rattle.ess_semantics.specs.Types.{Ty, compound2}
use Rattle.ess_semantics.specs.Typing.{type_of}
use Rattle.ess_rules_laws.specs.SpliceRules.{append_gens}
use Rattle.ess_refine_laws.specs.IndexedLists.{of_matrix}
use Rattle.ess_open_rules_laws.specs.OpenGenerators.{Opened, at_first_open, put_before}
use Rattle.ess_rules_folds.specs.Forms.{comp_parts, source_parts}
use Rattle.ess_ordered_laws.specs.ToldAxes.{picked_axis, told_axis}
use Rattle.ess_ordered_laws.specs.IndexedSources.{has_open_index, is_by_index, items_at, indexed_term, indexed_source, indexed_behind}
use Rattle.ess_rules_ordered.specs.IndexForms.{is_written, open_at, item_of_matrix}

-- What is made of the type of a matrix is made of that of its items.
pub of_matrix-items : (o : Option Ty) (f : Ty → Ex) → of_matrix o f ≡ option_map f (item_of_matrix o)
of_matrix-items (Some (compound2 a_matrix i t)) f = refl
of_matrix-items o f = refl

by-axis : (x : Text) (t : Ex) (o : Option Ty) (p : Option Dom) → and_then p (λ d. of_matrix o (items_at x d t))
    ≡ and_then p (λ d. option_map (items_at x d t) (item_of_matrix o))
by-axis x t o None = refl
by-axis x t o (Some d) = of_matrix-items o (items_at x d t)

-- A term by its indices, by the type of its items.
pub by_type : (g : Names Ty) (x : Text) (t : Ex) → indexed_term g x t ≡ (if is_by_index t
    then and_then (told_axis t) (λ d. option_map (items_at x d t) (item_of_matrix (type_of t g))) else None)
by_type g x t = ap (λ o. if is_by_index t then o else None) (by-axis x t (type_of t g) (told_axis t))

or-by-first : (b c : Bool) → (b || c) ≡ (if b then true else c)
or-by-first true c = refl
or-by-first false c = refl

-- Whether a term is such a source, by its form.
pub index_by_form : (t : Ex) → is_by_index t ≡ (if is_written t || has_open_index t then true else is_some (picked_axis t))
index_by_form (node_ex false matrix_literal es) = refl
index_by_form (matrix_ex es d) = refl
index_by_form t = or-by-first (has_open_index t) (is_some (picked_axis t))

-- Indices that read cells, by the operands.
pub open_by_steps : (b : Bool) (es : Exs) → open_at es ≡ has_open_index (node_ex b (index (by_value ∷ [])) es)
open_by_steps b (more_exs m (more_exs i no_exs)) = refl
open_by_steps b no_exs = refl
open_by_steps b (more_exs m no_exs) = refl
open_by_steps b (more_exs m (more_exs i (more_exs u us))) = refl

-- ---- a comprehension whose source is by its indices, by its parts

-- A comprehension over a value that may be there, behind generators.
pub put-over : (e : Ex) (gs : Gens) (y : Text) (hs : Gens) (o : Option Ex)
    → and_then (option_map (λ l. comp_ex e (from (name_pat y) l hs)) o) (put_before gs)
    ≡ option_map (λ l. comp_ex e (append_gens gs (from (name_pat y) l hs))) o
put-over e gs y hs None = refl
put-over e gs y hs (Some l) = refl

at-source : (g : Names Ty) (x : Text) (e : Ex) (gs hs : Gens) → and_then (indexed_source g x (comp_ex e hs)) (put_before gs)
    ≡ and_then (source_parts hs) (λ q. option_map (λ l. comp_ex e (append_gens gs (from (name_pat q.0) l q.2))) (indexed_term g x q.1))
at-source g x e gs (from (name_pat y) t hs) = put-over e gs y hs (indexed_term g x t)
at-source g x e gs hs = refl

at-open : (g : Names Ty) (x : Text) (e : Ex) (o : Option Opened)
    → and_then o (λ t. and_then (indexed_source (names_behind t.before g) x (comp_ex e t.after)) (put_before t.before))
    ≡ and_then o (λ t. and_then (source_parts t.after)
    (λ q. option_map (λ l. comp_ex e (append_gens t.before (from (name_pat q.0) l q.2))) (indexed_term (names_behind t.before g) x q.1)))
at-open g x e None = refl
at-open g x e (Some t) = at-source (names_behind t.before g) x e t.before t.after

-- At the first generator that isn't plain.
pub behind_by_parts : (g : Names Ty) (x : Text) (e : Ex) → indexed_behind g x e
    ≡ and_then (comp_parts e) (λ c. and_then (at_first_open c.1) (λ t. and_then (source_parts t.after)
    (λ q. option_map (λ l. comp_ex c.0 (append_gens t.before (from (name_pat q.0) l q.2)))
    (indexed_term (names_behind t.before g) x q.1))))
behind_by_parts g x (comp_ex e gs) = at-open g x e (at_first_open gs)
behind_by_parts g x e = refl
