-- The constraints of statements, as a loop goes over them.
use Rattle.std.proofs.Common.{◌≡◌, refl, sym, ap, ◌∙◌, ℕ, ◌+◌, ◌<◌, List, [], ◌∷◌, ◌++◌, map, drop, length, get_or, append_assoc, Some, None, append-nil}
use Rattle.std.proofs.lemmas.List.{drop_more, map_push}
use Rattle.ess_semantics.specs.Trees as pure
use Rattle.ess_semantics.specs.Trees.{Ex, such_that}
use Rattle.ess_semantics.specs.Models.{constraint_of, constraints_of}
use Rattle.ess_core.specs.StatementViews.{pure_stm}
use Rattle.ess_core.specs.declared.statements.Stm.{Stm}
use Rattle.ess_core_nodes.specs.declared.nodes.Node.{Node}
use Rattle.ess_core_nodes.specs.NodeViews.{pure_node}
use Rattle.ess_model_written.specs.Statements.{constraint_in}

-- A statement with a constraint has that one alone.
has_one : (s : pure.Stm) (e : Ex) → Some e ≡ constraint_in s → constraint_of s ≡ e ∷ []
has_one (such_that f) e h = cc
has_one s e h = cc

-- One without has none.
has_none : (s : pure.Stm) → None ≡ constraint_in s → constraint_of s ≡ []
has_none (such_that f) h = cc
has_none s h = refl

-- It is added behind others.
pub constraint_adds : (s : pure.Stm) (e : Ex) (n : Node) (old new : List Node) → Some e ≡ constraint_in s → pure_node n ≡ e
    → new ≡ old ++ n ∷ [] → map pure_node new ≡ map pure_node old ++ constraint_of s
constraint_adds s e n old new q p h =
    ap (map pure_node) h ∙ map_push pure_node old n ∙ ap (λ x. map pure_node old ++ x ∷ []) p
    ∙ ap (λ l. map pure_node old ++ l) (sym (has_one s e q))

-- Another statement adds none.
pub none_adds : (s : pure.Stm) (old : List Ex) → None ≡ constraint_in s → old ≡ old ++ constraint_of s
none_adds s old q = sym (ap (λ l. old ++ l) (has_none s q) ∙ append-nil old)

-- From one turn to the next.
pub one_more : (ss : List Stm) (i : ℕ) (s : Stm) (old new all : List Ex) → i < length ss → s ≡ get_or ss i s
    → new ≡ old ++ constraint_of (pure_stm s) → old ++ constraints_of (map pure_stm (drop i ss)) ≡ all
    → new ++ constraints_of (map pure_stm (drop (i + 1) ss)) ≡ all
one_more ss i s old new all lt is n h =
    let own = constraint_of (pure_stm s) in
    let rest = constraints_of (map pure_stm (drop (i + 1) ss)) in
    let e : drop i ss ≡ s ∷ drop (i + 1) ss = drop_more ss i s lt ∙ ap (λ q. q ∷ drop (i + 1) ss) (sym is) in
    ap (λ l. l ++ rest) n ∙ append_assoc old own rest ∙ sym (ap (λ l. old ++ constraints_of (map pure_stm l)) e) ∙ h
