-- Rows of generators, patterns and domains one by one.
use Rattle.std.proofs.Common.{◌≡◌, refl, sym, ap, ◌∙◌, ℕ, suc, arith, Bool, true, false, ◌&&◌, not, List, [], ◌∷◌, ◌++◌, map, length}
use Rattle.std.proofs.lemmas.List.{map-append}
use Rattle.ess_semantics.specs.Values.{Text}
use Rattle.ess_semantics.specs.Trees.{Pat, name_pat, more_pats, name_ex, more_exs, over, from, cond, Dom}
use Rattle.ess_semantics.specs.Kinds.{doms_of}
use Rattle.ess_core.specs.declared.expressions.Pat.{Pat as CodePat}
use Rattle.ess_core.specs.TreeViews.{Item, over_item, from_item, cond_item, exs_of, gens_of, pats_of, pure_pat}
use Rattle.ess_core_nodes.specs.declared.nodes.NodeDom.{NodeDom}
use Rattle.ess_core_nodes.specs.declared.nodes.Gen.{Gen}
use Rattle.ess_core_nodes.specs.NodeViews.{pure_gen, pure_gens, pure_dom}
use Rattle.ess_rules_laws.specs.SpliceRules.{append_gens}
use Rattle.ess_rules_laws.specs.SplitRules.{as_many, each_over}
use Rattle.ess_rules_laws.specs.ComponentRules.{has_text}
use Rattle.ess_rules_laws.specs.TupleNames.{are_names, named_exs, named_pats}
use Rattle.ess_rules_generators.specs.GeneratorParts.{items_over, do_names_differ}

-- Generators behind others.
pub appended_gens : (as' bs : List Item) → append_gens (gens_of as') (gens_of bs) ≡ gens_of (as' ++ bs)
appended_gens [] bs = refl
appended_gens (over_item p d ∷ as') bs = ap (λ l. over p d l) (appended_gens as' bs)
appended_gens (from_item p e ∷ as') bs = ap (λ l. from p e l) (appended_gens as' bs)
appended_gens (cond_item e ∷ as') bs = ap (λ l. cond e l) (appended_gens as' bs)

-- Generators of the code behind others.
pub before_put : (gens first rest : List Gen) → gens ≡ first ++ rest → pure_gens gens ≡ append_gens (pure_gens first) (pure_gens rest)
before_put gens first rest e =
    ap pure_gens e ∙ ap gens_of (map-append pure_gen first rest) ∙ sym (appended_gens (map pure_gen first) (map pure_gen rest))

-- ---- patterns over domains

tail_lengths : {m n : ℕ} → suc m ≡ suc n → m ≡ n
tail_lengths h = omega (arith, h)

-- There are as many patterns as domains where their lists are equally long.
pub as_many_lengths : (ps : List CodePat) (ds : List NodeDom) → length ps ≡ length ds
    → as_many (pats_of (map pure_pat ps)) (doms_of (map pure_dom ds)) ≡ true
as_many_lengths [] [] h = refl
as_many_lengths [] (d ∷ ds) h = cc
as_many_lengths (p ∷ ps) [] h = cc
as_many_lengths (p ∷ ps) (d ∷ ds) h = as_many_lengths ps ds (tail_lengths h)

-- Else there aren't.
pub other_lengths : (ps : List CodePat) (ds : List NodeDom) → (length ps ≡ length ds → ⊥)
    → as_many (pats_of (map pure_pat ps)) (doms_of (map pure_dom ds)) ≡ false
other_lengths [] [] h = absurd (h refl)
other_lengths [] (d ∷ ds) h = refl
other_lengths (p ∷ ps) [] h = refl
other_lengths (p ∷ ps) (d ∷ ds) h = other_lengths ps ds (λ e. h (ap suc e))

-- The generators of patterns over domains, before others.
pub over_before : (ps : List Pat) (ds : List Dom) (hs : List Item)
    → each_over (pats_of ps) (doms_of ds) (gens_of hs) ≡ gens_of (items_over ps ds ++ hs)
over_before [] [] hs = refl
over_before [] (d ∷ ds) hs = refl
over_before (p ∷ ps) [] hs = refl
over_before (p ∷ ps) (d ∷ ds) hs = ap (λ l. over p d l) (over_before ps ds hs)

-- The generators of patterns over domains, before others, in the code.
pub over_put : (ps : List CodePat) (ds : List NodeDom) (gens each rest : List Gen) → gens ≡ each ++ rest
    → map pure_gen each ≡ items_over (map pure_pat ps) (map pure_dom ds)
    → pure_gens gens ≡ each_over (pats_of (map pure_pat ps)) (doms_of (map pure_dom ds)) (pure_gens rest)
over_put ps ds gens each rest e h =
    ap pure_gens e ∙ ap gens_of (map-append pure_gen each rest) ∙ ap (λ l. gens_of (l ++ map pure_gen rest)) h
    ∙ sym (over_before (map pure_pat ps) (map pure_dom ds) (map pure_gen rest))

-- ---- names

-- Names as expressions.
pub names_as_nodes : (ys : List Text) → named_exs ys ≡ exs_of (map name_ex ys)
names_as_nodes [] = refl
names_as_nodes (y ∷ ys) = ap (λ l. more_exs (name_ex y) l) (names_as_nodes ys)

-- Names as patterns.
pub names_as_patterns : (ys : List Text) → named_pats ys ≡ pats_of (map name_pat ys)
names_as_patterns [] = refl
names_as_patterns (y ∷ ys) = ap (λ l. more_pats (name_pat y) l) (names_as_patterns ys)

and_false : (b : Bool) → (b && false) ≡ false
and_false true = refl
and_false false = refl

-- Names of as many domains are names for these where they differ.
pub names_of_lengths : (ys : List Text) (ds : List NodeDom) → length ys ≡ length ds
    → are_names ys (doms_of (map pure_dom ds)) ≡ do_names_differ ys
names_of_lengths [] [] h = refl
names_of_lengths [] (d ∷ ds) h = cc
names_of_lengths (y ∷ ys) [] h = cc
names_of_lengths (y ∷ ys) (d ∷ ds) h = ap (λ b. not (has_text ys y) && b) (names_of_lengths ys ds (tail_lengths h))

-- More or fewer names aren't.
pub names_of_others : (ys : List Text) (ds : List NodeDom) → (length ys ≡ length ds → ⊥)
    → are_names ys (doms_of (map pure_dom ds)) ≡ false
names_of_others [] [] h = absurd (h refl)
names_of_others [] (d ∷ ds) h = refl
names_of_others (y ∷ ys) [] h = refl
names_of_others (y ∷ ys) (d ∷ ds) h =
    ap (λ b. not (has_text ys y) && b) (names_of_others ys ds (λ e. h (ap suc e))) ∙ and_false (not (has_text ys y))
