-- Worked examples of what is asked of sources by their indices, and of sources that are items. x, k and i are names over domains, p is one
-- over what is found, f is a number that is found.
use Rattle.std.specs.Prelude.{◌≡◌, refl, Bool, true, false, ◌||◌, [], ◌∷◌, codes, Some}
use Rattle.ess_semantics.specs.declared.words.Op2.{Op2}
use Rattle.ess_semantics.specs.declared.words.Fun.{Fun}
use Rattle.ess_semantics.specs.Values.{Text}
use Rattle.ess_semantics.specs.Order.{same_text}
use Rattle.ess_semantics.specs.Trees.{name_pat, Ex, comp_ex, cell_ex, no_exs, Gens, no_gens, over, from, cond, bool_dom, fun1}
use Rattle.ess_semantics.proofs.Shorthands.{N, n, es1, es2, bi, upto, at}
use Rattle.ess_guard_laws.specs.IndexDomains.{one_up_to}
use Rattle.ess_rules_laws.specs.SourceRules.{list_of}
use Rattle.ess_refine_laws.specs.AllRules.{Supply, only_one}
use Rattle.ess_ordered_laws.specs.NumberedItems.{ordered_lookup}
use Rattle.ess_ordered_laws.specs.ToldAxes.{counted_axis}
use Rattle.ess_ordered_laws.specs.OrderedRules.{source_by_indices, source_of_an_item}
use Rattle.ess_given_laws.specs.Given.{is_fixed, is_fixed_dom}
use Rattle.ess_given_ordered_laws.specs.OrderedNames.{CountKept, ItemSourceKept, NewOrdered}

abbrev x : Text
x = codes "x"

abbrev y : Text
y = codes "y"

abbrev k : Text
k = codes "k"

abbrev p : Text
p = codes "p"

abbrev i : Text
i = codes "i"

-- The new names: i is an index, o is bound over what is picked, c over what is picked within, and a over domains.
abbrev names : Supply
names = record {
  one = i;
  other = codes "o";
  third = codes "z";
  parts = codes "c" ∷ codes "a" ∷ [];
  index_domain = λ e. bool_dom;
  copy = λ e. e;
}

-- The names that are fixed.
abbrev over_domains : Text → Bool
over_domains c = same_text c x || (same_text c k || (same_text c i || (same_text c (codes "z") || same_text c (codes "a"))))

-- A number that is found.
abbrev found : Ex
found = cell_ex false (codes "f") no_exs

-- `[y | y <- t]`
abbrev through : Ex → Gens
through t = from (name_pat y) t no_gens

-- ---- `[[f, f], [f]][k]`, by its indices

abbrev picked : Text → Ex
picked a = at (list_of (es2 (list_of (es2 found found)) (list_of (es1 found)))) (N a)

-- How many there are.
abbrev number : Text → Ex
number a = fun1 false Fun.Sum (list_of (es2 (fun1 false Fun.Sum (comp_ex (n 2) (cond (bi Op2.Eq (N a) (n 1)) no_gens)))
    (fun1 false Fun.Sum (comp_ex (n 1) (cond (bi Op2.Eq (N a) (n 2)) no_gens)))))

picked_axis : counted_axis (picked k) ≡ Some (one_up_to (number k))
picked_axis = refl

-- Its items aren't fixed, but how many they are is, where k is bound over a domain.
picked_loose : is_fixed over_domains (picked k) ≡ false
picked_loose = refl

picked_counted : NewOrdered over_domains names [] source_by_indices (comp_ex (N y) (through (picked k)))
picked_counted = (refl, λ q. refl)

-- Where p is bound over what is found it isn't.
picked_lost : is_fixed_dom over_domains (one_up_to (number p)) ≡ false
picked_lost = refl

-- Of other lists, and of what is fixed, nothing is asked.
by_views : CountKept over_domains (through (at found (N p)))
by_views = λ q. tt

by_fixed : CountKept (λ a. true) (through (picked p))
by_fixed = λ q. cc

-- ---- `[[f, x] | x : int(1..2)][k]`, an item

abbrev item_at : Ex → Ex
item_at e = at (comp_ex (list_of (es2 found (N x))) (over (name_pat x) (upto 2) no_gens)) e

abbrev item : Text → Ex
item a = item_at (N a)

-- It is picked by `x = k`.
abbrev places : Text → Gens
places a = over (name_pat x) (upto 2) (cond (bi Op2.Eq (N x) (N a)) no_gens)

item_picked : only_one (ordered_lookup names.third names.parts (item k))
    ≡ Some (record { gens = places k; item = list_of (es2 found (N x)) })
item_picked = refl

-- It isn't fixed: so o, over what is picked, isn't, nor is c. What picks it is fixed, where k is bound over a domain.
item_names : NewOrdered over_domains names [] source_of_an_item (comp_ex (N y) (through (item k)))
item_names = ((refl, record { third = refl; where_fixed = λ q. cc; else_along = λ q. (refl, refl) }), λ q. (λ c. refl, tt))

-- Where p is bound over what is found it isn't: then a word takes it, and no other place where order counts.
item_waits : is_fixed over_domains (bi Op2.Eq (N x) (N p)) ≡ false
item_waits = refl

item_at_a_word : NewOrdered over_domains names [] source_of_an_item (fun1 false Fun.Sum (comp_ex (N y) (through (item p))))
item_at_a_word = (refl, record { third = refl; where_fixed = λ q. cc; else_along = λ q. (refl, refl) })

-- Of a condition that reads a table nothing is asked: by such a one no item is picked where order counts.
cells_aside : ItemSourceKept over_domains names (through (item_at found))
cells_aside = λ q. (λ c. cc, tt)
