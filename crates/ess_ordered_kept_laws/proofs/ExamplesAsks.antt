-- Worked examples of what rules of comprehensions count on whose items have an order.
use Rattle.std.specs.Prelude.{◌≡◌, refl, [], ◌∷◌, codes}
use Rattle.ess_semantics.specs.declared.words.Op2.{Op2}
use Rattle.ess_semantics.specs.declared.words.Fun.{Fun}
use Rattle.ess_semantics.specs.Trees.{name_pat, Ex, comp_ex, no_gens, over, from, bool_dom}
use Rattle.ess_semantics.specs.Typed.{Typed}
use Rattle.ess_semantics.specs.Meaning.{empty_env}
use Rattle.ess_semantics.proofs.Shorthands.{N, n, es1, es2, bi, fn, upto, at}
use Rattle.ess_rules_laws.specs.Rules.{Unused}
use Rattle.ess_rules_laws.specs.SourceRules.{list_of}
use Rattle.ess_refine_laws.specs.AllRules.{Supply}
use Rattle.ess_ordered_kept_laws.specs.OrderedAsks.{OrderedLookupAsks, SourcePickedAsks, OperandAsks, AtOperandAsks, ItemBehindAsks}

abbrev names : Supply
names = record {
  one = codes "#1";
  other = codes "#2";
  third = codes "#3";
  parts = codes "#4" ∷ codes "#5" ∷ codes "#6" ∷ [];
  index_domain = λ e. bool_dom;
  copy = λ e. e;
}

-- ---- comprehensions over what is picked

-- `[q | q <- [[1, 2], [3]][2]]`.
abbrev uneven : Ex
uneven = list_of (es2 (list_of (es2 (n 1) (n 2))) (list_of (es1 (n 3))))

abbrev copied : Ex
copied = comp_ex (N (codes "q")) (from (name_pat (codes "q")) (at uneven (n 2)) no_gens)

no_names_given : Typed [] empty_env
no_names_given a t v p q = cc

-- It has what the rule counts on.
source_has : SourcePickedAsks names [] copied empty_env
source_has = (no_names_given, (refl, (refl, (((tt, (tt, tt)), ((tt, tt), tt)), (tt, tt)), tt)), refl, λ h. refl, refl)

operand_has : AtOperandAsks names [] 1 (bi Op2.Eq copied (list_of (es1 (n 3)))) empty_env
operand_has = source_has

-- A name asks nothing.
name_asks_nothing : OperandAsks names [] (N (codes "q")) empty_env ≡ Unit {0}
name_asks_nothing = refl

-- ---- items by number

-- With no names nothing is looked up, and nothing asked.
no_names : OrderedLookupAsks (codes "#3") [] (at copied (n 1)) empty_env ≡ Unit {0}
no_names = refl

-- `[q | q : int(1..3)][2]`: q stands neither in the number nor in the domain, nor does the new name, which is another one; and the
-- comprehension is there.
abbrev counted : Ex
counted = comp_ex (N (codes "q")) (over (name_pat (codes "q")) (upto 3) no_gens)

item_has : OrderedLookupAsks (codes "#3") (codes "#4" ∷ []) (at counted (n 2)) empty_env
item_has = ((tt, (tt, (tt, tt)), (tt, (tt, tt)), refl), refl)

-- `[q | q <- [[r] | r : int(1..3)][2]]`: of its source that is asked, and nothing that another lookup would ask.
abbrev rows : Ex
rows = comp_ex (list_of (es1 (N (codes "r")))) (over (name_pat (codes "r")) (upto 3) no_gens)

abbrev of_rows : Ex
of_rows = comp_ex (N (codes "q")) (from (name_pat (codes "q")) (at rows (n 2)) no_gens)

new_name_unused : Unused (codes "#2") of_rows
new_name_unused = (refl, (refl, (((refl, tt), (refl, (tt, (tt, tt)), tt)), (tt, tt)), tt))

row_has : SourcePickedAsks names [] of_rows empty_env
row_has = (no_names_given, new_name_unused, refl, λ h. refl, ((tt, (tt, (tt, tt)), (tt, (tt, tt)), refl), refl))

-- ---- sources that are items

-- The same is asked where the source is taken as the item that it is, at a word and in any place: also that it has a value.
item_source_has : ItemBehindAsks names (fn Fun.Sum of_rows) empty_env × ItemBehindAsks names of_rows empty_env
item_source_has = (
  (new_name_unused, refl, refl, ((tt, (tt, (tt, tt)), (tt, (tt, tt)), refl), refl)),
  (new_name_unused, refl, refl, ((tt, (tt, (tt, tt)), (tt, (tt, tt)), refl), refl)),
)

-- Behind a plain generator it is asked at each of its values: with p over `int(1..2)` twice.
item_behind_has : ItemBehindAsks names (comp_ex (N (codes "q")) (over (name_pat (codes "p")) (upto 2)
    (from (name_pat (codes "q")) (at rows (n 2)) no_gens))) empty_env
item_behind_has = (
  (new_name_unused, refl, refl, ((tt, (tt, (tt, tt)), (tt, (tt, tt)), refl), refl)),
  ((new_name_unused, refl, refl, ((tt, (tt, (tt, tt)), (tt, (tt, tt)), refl), refl)), tt),
)
