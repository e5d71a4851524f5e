-- What stands below a layer, where it is known.
use Rattle.std.proofs.Common.{◌≡◌, sym, ap, ◌∙◌, ℕ, false, List, [], ◌∷◌, Some, None, Result, IfOk}
use Rattle.std.proofs.lemmas.Result.{IfOk-weaker}
use Rattle.ess_semantics.specs.declared.words.ReprKind.{ReprKind}
use Rattle.ess_semantics.specs.Values.{Text}
use Rattle.ess_semantics.specs.Trees.{Repr, repr, no_reprs, more_reprs, Ex, Exs, truth_ex, Dom}
use Rattle.ess_core.specs.declared.representations.Repr as code
use Rattle.ess_core.specs.declared.representations.Repr.TheViews.{out-Repr}
use Rattle.ess_core.specs.TreeViews.{pure_repr}
use Rattle.ess_core_nodes.specs.declared.nodes.Node.{Node}
use Rattle.ess_core_nodes.specs.NodeViews.{pure_node}
use Rattle.ess_repr_laws.specs.CanonicalTables.{is_compound}
use Rattle.ess_repr_laws.specs.Structure.{shapes, structure}
use Rattle.ess_repr_declare_laws.specs.SizeTerms.{size_terms}
use Rattle.conjure_model_laws.specs.ToldApart.{reserved}
use Rattle.ess_structure_domains.specs.Inner.{Inner, inner_of}
use Rattle.ess_structure_layers.specs.Over.{shapes_over, structure_over}
use Rattle.ess_structure_layers.proofs.LayerForms.{shapes_are, structure_is}
use Rattle.ess_structure_layers.proofs.ChildForms.{is_over_one}

-- Its tables.
pub tables_there : (k : ReprKind) (r : Repr) (d : Dom) (ns : List Text) (i : Inner) → is_compound k ≡ false → Some i ≡ inner_of k d →
    shapes reserved size_terms (repr k (more_reprs r no_reprs)) d ns ≡ shapes_over (Some i) k r ns
tables_there k r d ns i h p = shapes_are k r d ns h ∙ ap (λ o. shapes_over o k r ns) (sym p)

pub tables_none : (k : ReprKind) (r : Repr) (d : Dom) (ns : List Text) → is_compound k ≡ false → None ≡ inner_of k d →
    shapes reserved size_terms (repr k (more_reprs r no_reprs)) d ns ≡ []
tables_none k r d ns h p = shapes_are k r d ns h ∙ ap (λ o. shapes_over o k r ns) (sym p)

-- Its structure.
structure-there : (k : ReprKind) (r : Repr) (d : Dom) (ns : List Text) (l : ℕ) (is : Exs) (i : Inner) → is_compound k ≡ false →
    Some i ≡ inner_of k d →
    structure reserved size_terms (repr k (more_reprs r no_reprs)) d ns l is ≡ structure_over (Some i) k r d ns l is
structure-there k r d ns l is i h p = structure_is k r d ns l is h ∙ ap (λ o. structure_over o k r d ns l is) (sym p)

pub structure_none : (k : ReprKind) (r : Repr) (d : Dom) (ns : List Text) (l : ℕ) (is : Exs) → is_compound k ≡ false → None ≡ inner_of k d →
    structure reserved size_terms (repr k (more_reprs r no_reprs)) d ns l is ≡ truth_ex false
structure_none k r d ns l is h p = structure_is k r d ns l is h ∙ ap (λ o. structure_over o k r d ns l is) (sym p)

-- ---- what a call answers for the structure

-- The same tree, said otherwise.
said-otherwise : {E : Type 0} (o : Result Node E) (a b : Ex) → a ≡ b → IfOk o (λ n. pure_node n ≡ a) → IfOk o (λ n. pure_node n ≡ b)
said-otherwise o a b e = IfOk-weaker o (λ n. pure_node n ≡ a) (λ n. pure_node n ≡ b) (λ n h. h ∙ e)

-- The structure of a layer with one child, where it is known what stands below it.
pub structure_answered : {E : Type 0} (o : Result Node E) (k : ReprKind) (r : Repr) (d : Dom) (ns : List Text) (l : ℕ) (is : Exs)
    (i : Inner) → is_compound k ≡ false → Some i ≡ inner_of k d →
    IfOk o (λ n. pure_node n ≡ structure_over (Some i) k r d ns l is) →
    IfOk o (λ n. pure_node n ≡ structure reserved size_terms (repr k (more_reprs r no_reprs)) d ns l is)
structure_answered o k r d ns l is i h p =
    said-otherwise o (structure_over (Some i) k r d ns l is) (structure reserved size_terms (repr k (more_reprs r no_reprs)) d ns l is)
    (sym (structure-there k r d ns l is i h p))

-- The structure of a representation that turns out to have one child.
pub only_child_answered : {E : Type 0} (o : Result Node E) (x c : code.Repr) (rs : List code.Repr) (d : Dom) (ns : List Text)
    (l : ℕ) (is : Exs) → (out-Repr x).children ≡ c ∷ rs → rs ≡ [] →
    IfOk o (λ n. pure_node n ≡ structure reserved size_terms (repr (out-Repr x).kind (more_reprs (pure_repr c) no_reprs)) d ns l is) →
    IfOk o (λ n. pure_node n ≡ structure reserved size_terms (pure_repr x) d ns l is)
only_child_answered o x c rs d ns l is i j =
    said-otherwise o (structure reserved size_terms (repr (out-Repr x).kind (more_reprs (pure_repr c) no_reprs)) d ns l is)
    (structure reserved size_terms (pure_repr x) d ns l is)
    (ap (λ r. structure reserved size_terms r d ns l is) (sym (is_over_one x c rs i j)))
