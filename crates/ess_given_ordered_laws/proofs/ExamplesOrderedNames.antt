-- Worked examples of which new names belong to those that are fixed. x and y are names over domains, f is a number that is found, p a place.
use Rattle.std.specs.Prelude.{◌≡◌, refl, Bool, true, false, ◌||◌, [], ◌∷◌, codes, Some, None}
use Rattle.ess_semantics.specs.declared.words.Op2.{Op2}
use Rattle.ess_semantics.specs.Values.{Text}
use Rattle.ess_semantics.specs.Order.{same_text}
use Rattle.ess_semantics.specs.Names.{Names}
use Rattle.ess_semantics.specs.Types.{Ty, int_ty}
use Rattle.ess_semantics.specs.Trees.{name_pat, Ex, comp_ex, cell_ex, no_exs, Gens, no_gens, over, from, bool_dom}
use Rattle.ess_semantics.proofs.Shorthands.{N, n, es1, es2, bi, range, upto, at}
use Rattle.ess_rules_laws.specs.SourceRules.{list_of}
use Rattle.ess_refine_laws.specs.AllRules.{Supply}
use Rattle.ess_kind_rules_laws.specs.TermLookups.{picked_within}
use Rattle.ess_ordered_laws.specs.OrderedRules.{an_item, of_an_item}
use Rattle.ess_given_laws.specs.Given.{is_fixed, GivenIn}
use Rattle.ess_given_ordered_laws.specs.OrderedNames.{rewritten_operand, NamesAlong, NewOrdered}

abbrev x : Text
x = codes "x"

abbrev y : Text
y = codes "y"

abbrev w : Text
w = codes "w"

abbrev k : Text
k = codes "k"

abbrev a : Text
a = codes "a"

abbrev b : Text
b = codes "b"

-- The new names: w is bound over all that is picked, k over what is picked within, and a and b over domains.
abbrev names : Supply
names =
    record { one = w; other = codes "o"; third = codes "z"; parts = k ∷ a ∷ b ∷ []; index_domain = λ e. bool_dom; copy = λ e. e }

-- The names over domains, and z; with a and b, or without.
abbrev over_domains : Text → Bool
over_domains c = same_text c x || (same_text c y || same_text c (codes "z"))

abbrev with_new : Text → Bool
with_new c = over_domains c || (same_text c a || same_text c b)

-- ---- several generators

-- `[f + y | x : int(1..2), y : int(1..x)][3]`, which isn't fixed.
abbrev found : Ex
found = cell_ex false (codes "f") no_exs

abbrev triangle : Text → Gens
triangle c = over (name_pat y) (range (n 1) (N c)) no_gens

abbrev pairs : Ex
pairs = comp_ex (bi Op2.Plus found (N y)) (over (name_pat x) (upto 2) (triangle x))

third_pair : is_fixed with_new (at pairs (n 3)) ≡ false
third_pair = refl

-- Its lookup is over `a : int(1..2), b : int(1..a)`. So a is a name that is fixed: else that domain isn't given any more.
domains_given : GivenIn with_new (comp_ex (n 1) (over (name_pat a) (upto 2) (over (name_pat b) (range (n 1) (N a)) no_gens)))
domains_given = (tt, (refl, refl, (refl, refl, tt)))

domains_lost : is_fixed over_domains (N a) ≡ false
domains_lost = refl

-- The first name for components isn't, though nothing is picked within; those behind it are, and the third new name.
pairs_names : NewOrdered with_new names [] an_item (at pairs (n 3))
pairs_names = (refl, record { third = refl; where_fixed = λ q. cc; else_along = λ q. (refl, refl) })

-- ---- what is picked within

-- `[[f, y] | x : int(1..2), y : int(1..x)][p][2]`: k is bound over what is picked within, and the next name isn't bound.
abbrev rows : Ex
rows = at (comp_ex (list_of (es2 found (N y))) (over (name_pat x) (upto 2) (triangle x))) (N (codes "p"))

row_within : (picked_within (at rows (n 2)) ≡ Some rows) × (picked_within rows ≡ None)
row_within = (refl, refl)

abbrev two_along : Text → Bool
two_along c = over_domains c || same_text c b

rows_along : NamesAlong two_along (k ∷ a ∷ b ∷ []) (at rows (n 2))
rows_along = (refl, (refl, refl))

-- ---- comprehensions over what is picked

-- `[y | y <- [[1, 2], [3]][p]] = [1, 2]` is rewritten at its first operand, and turned round at its second one.
abbrev picked : Ex
picked = comp_ex (N y) (from (name_pat y) (at (list_of (es2 (list_of (es2 (n 1) (n 2))) (list_of (es1 (n 3))))) (N (codes "p"))) no_gens)

abbrev pair : Ex
pair = list_of (es2 (n 1) (n 2))

abbrev types : Names Ty
types = (codes "p", int_ty) ∷ []

picked_operand : (rewritten_operand names types (bi Op2.Eq picked pair) ≡ Some picked)
    × (rewritten_operand names types (bi Op2.Eq pair picked) ≡ Some picked)
picked_operand = (refl, refl)

-- All new names are fixed where the source is, none where it isn't and is no item of a comprehension.
abbrev everything : Text → Bool
everything c = true

abbrev nothing : Text → Bool
nothing c = false

picked_names : NewOrdered everything names types of_an_item (bi Op2.Eq picked pair)
    × NewOrdered nothing names types of_an_item (bi Op2.Eq picked pair)
picked_names = ((refl, (refl, (refl, (refl, (refl, (refl, tt)))))), (refl, (refl, (refl, (refl, (refl, (refl, tt)))))))

-- `[y | y <- [[x, x] | x : int(1..2)][p]] = [1, 2]`: the source is an item of a comprehension, so z, a and b are fixed though it isn't.
abbrev of_item : Ex
of_item = comp_ex (N y) (from (name_pat y) (at (comp_ex (list_of (es2 (N x) (N x))) (over (name_pat x) (upto 2) no_gens)) (N (codes "p")))
    no_gens)

of_item_operand : rewritten_operand names types (bi Op2.Eq of_item pair) ≡ Some of_item
of_item_operand = refl

of_item_names : NewOrdered with_new names types of_an_item (bi Op2.Eq of_item pair)
    × NewOrdered everything names types of_an_item (bi Op2.Eq of_item pair)
of_item_names = (
  (refl, (refl, record { third = refl; where_fixed = λ q. cc; else_along = λ q. (refl, refl) })),
  (refl, (refl, record { third = refl; where_fixed = λ q. refl; else_along = λ q. cc })),
)
