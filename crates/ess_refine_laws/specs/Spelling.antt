-- The numbers that trees may spell while rules rewrite them: those that stand in a tree, and those from 1 to the number of items of
-- each of its literals. Tuples and records aren't counted, nor lists without an index domain that stand directly in a fold or beside
-- a lexicographic sign: these rules make. Sets and multisets are counted wherever they stand, since rules may make them sources.
use Rattle.std.specs.Prelude.{◌≡◌, ℕ, Bool, true, false, List, [], ℤ, pos, Some, IsTrue}
use Rattle.std.specs.List.{list_all}
use Rattle.ess_semantics.specs.Numbers.{one_to}
use Rattle.ess_semantics.specs.Names.{Names}
use Rattle.ess_semantics.specs.Trees.{Op, tuple_literal, matrix_literal, record_literal, Ex, Exs, number_ex, truth_ex, name_ex, node_ex, matrix_ex, comp_ex, cell_ex, seen_ex, ex2, fun1, no_exs, more_exs, Gens, no_gens, over, from, cond, Dom, Doms, bool_dom, int_dom, name_dom, tuple_dom, record_dom, matrix_dom, set_dom, mset_dom, function_dom, relation_dom, partition_dom, no_doms, more_doms}
use Rattle.ess_semantics.specs.Types.{Ty}
use Rattle.ess_semantics.specs.Constants.{operand_count, counts_of_op, drops_items, tree_constants}
use Rattle.ess_semantics.specs.Contexts.{In, fill}
use Rattle.ess_semantics.specs.Kept.{Kept}
use Rattle.ess_refine_laws.specs.ConstantsStay.{dropping_at}
use Rattle.ess_refine_laws.specs.AllRules.{Rule, all_different, equal_matrices_at, least_under_a_condition, Supply, opposite_copied, rewrite}

-- The numbers for which the literal counts; the first flag says that it stands where items may be dropped, the second is its mark.
abbrev pub counts_at : Op → Bool → Bool → ℕ → List ℤ
counts_at tuple_literal inside b n = []
counts_at (record_literal fs) inside b n = []
counts_at matrix_literal true false n = []
counts_at op inside b n = counts_of_op op n

module _ (q : ℤ → Bool) where
  abbrev mutual
    -- q has the numbers that the expression spells.
    pub Spells : Bool → Ex → Type 0
    Spells inside (number_ex n) = IsTrue (q n)
    Spells inside (truth_ex b) = Unit {0}
    Spells inside (name_ex a) = Unit {0}
    Spells inside (node_ex b op es) = IsTrue (list_all q (counts_at op inside b (operand_count es))) × SpellsEach (drops_items op) es
    Spells inside (matrix_ex es d) = IsTrue (list_all q (one_to (operand_count es))) × SpellsEach false es × SpellsDom d
    Spells inside (comp_ex e gs) = Spells false e × SpellsGens gs
    Spells inside (cell_ex b n es) = SpellsEach false es
    Spells inside (seen_ex r d ns es) = SpellsDom d × SpellsEach false es

    -- The same of operands.
    pub SpellsEach : Bool → Exs → Type 0
    SpellsEach inside no_exs = Unit {0}
    SpellsEach inside (more_exs e es) = Spells inside e × SpellsEach inside es

    -- The same of generators.
    pub SpellsGens : Gens → Type 0
    SpellsGens no_gens = Unit {0}
    SpellsGens (over p d gs) = SpellsDom d × SpellsGens gs
    SpellsGens (from p e gs) = Spells false e × SpellsGens gs
    SpellsGens (cond e gs) = Spells false e × SpellsGens gs

    -- The same of a domain.
    pub SpellsDom : Dom → Type 0
    SpellsDom bool_dom = Unit {0}
    SpellsDom (int_dom rs es) = SpellsEach false es
    SpellsDom (name_dom a) = Unit {0}
    SpellsDom (tuple_dom ds) = SpellsDoms ds
    SpellsDom (record_dom fs ds) = SpellsDoms ds
    SpellsDom (matrix_dom is d) = SpellsDoms is × SpellsDom d
    SpellsDom (set_dom ms es d) = SpellsEach false es × SpellsDom d
    SpellsDom (mset_dom ms es d) = SpellsEach false es × SpellsDom d
    SpellsDom (function_dom ms es d c) = SpellsEach false es × SpellsDom d × SpellsDom c
    SpellsDom (relation_dom ms es ds) = SpellsEach false es × SpellsDoms ds
    SpellsDom (partition_dom ms es d) = SpellsEach false es × SpellsDom d

    -- The same of several domains.
    pub SpellsDoms : Doms → Type 0
    SpellsDoms no_doms = Unit {0}
    SpellsDoms (more_doms d ds) = SpellsDom d × SpellsDoms ds

-- ---- rules

-- Whether the expression is a list literal.
abbrev pub is_list_literal : Ex → Bool
is_list_literal (node_ex false matrix_literal es) = true
is_list_literal e = false

-- What a rule counts on so as to spell no more: the index domains that it takes spell no more than the matrices, and so a copy; that
-- all items differ is said of pairs where they can be listed, so the general rule isn't tried at a list literal.
abbrev pub SpareSupply : Supply → Rule → Ex → (ℤ → Bool) → Type 0
SpareSupply s equal_matrices_at (ex2 m o a b) q = SpellsDom q (s.index_domain a) × SpellsDom q (s.index_domain b)
SpareSupply s least_under_a_condition e q = Spells q false (opposite_copied s e)
SpareSupply s all_different (fun1 m f l) q = is_list_literal l ≡ false
SpareSupply s r e q = Unit {0}

-- What all numbers have that the first tree spells, those of the second one have, where 0 and 1 have it.
abbrev pub SparesNumbers : (ℤ → Bool) → Bool → Ex → Ex → Type 0
SparesNumbers q m a b = q (pos 0) ≡ true → q (pos 1) ≡ true → Spells q m a → Spells q m b

-- The second tree comes from the first one by rules that keep what they rewrite, each at some part, where it spells no more.
module _ (q : ℤ → Bool) where
  pub data SpelledRewriting : Names Ty → Ex → Ex → Type 0 where
    as_spelled : {g : Names Ty} {e : Ex} → SpelledRewriting g e e
    spelled_at : {g : Names Ty} {e : Ex} (a b : Ex) (c : In) → SparesNumbers q (dropping_at c false) a b → Kept g (fill c a) (fill c b) →
        SpelledRewriting g (fill c b) e → SpelledRewriting g (fill c a) e

-- Each rule spells no more where it fires; so do any number of them at parts; and the numbers of a tree are among those it may spell.
pub record NumbersAreSpared : Type 0 where
  pub by_each_rule : (s : Supply) (g : Names Ty) (r : Rule) (m : Bool) (e f : Ex) → rewrite s g r e ≡ Some f → (q : ℤ → Bool) →
      SpareSupply s r e q → SparesNumbers q m e f
  pub at_a_part : (q : ℤ → Bool) (c : In) (m : Bool) (a b : Ex) → SparesNumbers q (dropping_at c m) a b →
      SparesNumbers q m (fill c a) (fill c b)
  pub by_any_rules : (q : ℤ → Bool) (g : Names Ty) (old new : Ex) → SpelledRewriting q g old new →
      Kept g old new × SparesNumbers q false old new
  pub has_the_constants : (q : ℤ → Bool) (m : Bool) (e : Ex) → Spells q m e → list_all q (tree_constants m e) ≡ true
