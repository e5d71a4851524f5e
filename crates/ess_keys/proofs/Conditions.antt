-- Conditions in a row: how many there are, and what comes behind others.
use Rattle.std.proofs.Common.{◌≡◌, refl, ap, ◌∙◌, suc, List, [], ◌∷◌, ◌++◌, map, length}
use Rattle.ess_semantics.specs.Trees.{Ex, Exs, no_exs, more_exs}
use Rattle.ess_core.specs.TreeViews.{Item, over_item, from_item, cond_item, exs_of, gens_of}
use Rattle.ess_core_nodes.specs.NodeViews.{pure_node, pure_nodes, pure_gen, pure_gens}
use Rattle.ess_core_nodes.specs.declared.nodes.Node.{Node}
use Rattle.ess_core_nodes.specs.declared.nodes.Gen.{Gen}
use Rattle.ess_keys_laws.specs.Keyed.{how_many}
use Rattle.ess_keys.specs.Steps.{trees_before}

-- ---- how many

items-many : (is : List Item) → how_many (gens_of is) ≡ length is
items-many [] = refl
items-many (over_item p d ∷ is) = ap suc (items-many is)
items-many (from_item p e ∷ is) = ap suc (items-many is)
items-many (cond_item e ∷ is) = ap suc (items-many is)

as-long : (gs : List Gen) → length (map pure_gen gs) ≡ length gs
as-long [] = refl
as-long (g ∷ gs) = ap suc (as-long gs)

-- There are as many generators and conditions as the row has.
pub as_many : (gs : List Gen) → how_many (pure_gens gs) ≡ length gs
as_many gs = items-many (map pure_gen gs) ∙ as-long gs

-- ---- behind others

before-one : (xs : List Ex) (e : Ex) (es : Exs) → trees_before (xs ++ e ∷ []) es ≡ trees_before xs (more_exs e es)
before-one [] e es = refl
before-one (x ∷ xs) e es = ap (more_exs x) (before-one xs e es)

before-last : (xs : List Ex) (e : Ex) → exs_of (xs ++ e ∷ []) ≡ trees_before xs (more_exs e no_exs)
before-last [] e = refl
before-last (x ∷ xs) e = ap (more_exs x) (before-last xs e)

-- One more comes behind others.
pub one_more : (old more : List Ex) (e : Ex) (es : Exs) → more ≡ old ++ e ∷ [] → trees_before more es ≡ trees_before old (more_exs e es)
one_more old more e es q = ap (λ l. trees_before l es) q ∙ before-one old e es

-- The last comes behind others.
pub the_last : (old : List Ex) (new : List Node) (e : Ex) → map pure_node new ≡ old ++ e ∷ []
    → pure_nodes new ≡ trees_before old (more_exs e no_exs)
the_last old new e q = ap exs_of q ∙ before-last old e

-- No more come behind others.
pub none_more : (ns : List Node) → pure_nodes ns ≡ trees_before (map pure_node ns) no_exs
none_more ns = go (map pure_node ns)
  where
    go : (xs : List Ex) → exs_of xs ≡ trees_before xs no_exs
    go [] = refl
    go (x ∷ xs) = ap (more_exs x) (go xs)
