-- Worked examples of items: what one gives, and which give nothing.
use Rattle.std.proofs.Common.{◌≡◌, refl, sym, ap, ◌∙◌, ℕ, true, false, List, [], ◌∷◌, codes, Some, None, pos}
use Rattle.ess_semantics.specs.declared.words.ReprKind.{ReprKind}
use Rattle.ess_semantics.specs.Lists.{item_number}
use Rattle.ess_semantics.specs.Values.{Text}
use Rattle.ess_semantics.specs.Names.{Names, is_among, look}
use Rattle.ess_semantics.specs.Trees.{both_ends, Repr, Dom, number_ex, truth_ex, no_exs, more_exs, int_dom, set_dom, given_enum, find, such_that}
use Rattle.ess_semantics.specs.Choice.{alone}
use Rattle.ess_grammar.specs.Representations.{childless}
use Rattle.conjure_options.specs.Pieces.{cut}
use Rattle.conjure_options.specs.Items.{domains_of, found, IsTree, IsItem, AreItems}
use Rattle.conjure_options.specs.Chosen.{chosen_for}

-- int(1..2), and set of it
numbers : Dom
numbers = int_dom (both_ends ∷ []) (more_exs (number_ex (pos 1)) (more_exs (number_ex (pos 2)) no_exs))

sets : Dom
sets = set_dom [] no_exs numbers

-- find s : set of int(1..2), find x : int(1..2)
names : Names Dom
names = (codes "s", sets) ∷ (codes "x", numbers) ∷ []

-- only a given or find with a domain is kept
kept : domains_of (given_enum (codes "T") ∷ find (codes "s") sets ∷ such_that (truth_ex true) ∷ find (codes "x") numbers ∷ []) ≡ names
unfolding names
kept = refl

found_behind_another : found names (codes "x") ≡ Some (codes "x", numbers)
unfolding names
found_behind_another = refl

found_nowhere : found names (codes "y") ≡ None
unfolding names
found_nowhere = refl

-- ---- s:Occurrence

occurrence : IsTree sets (codes "Occurrence") (alone ReprKind.Occurrence)
unfolding sets numbers
occurrence = record {
  written = alone ReprKind.Occurrence;
  spells = ((_, refl, childless refl), (refl, refl));
  whole = refl;
  fitting = refl;
}

one_item : IsItem names [] (codes "s:Occurrence") (codes "s", alone ReprKind.Occurrence ∷ [])
unfolding names
one_item = record {
  behind = codes "Occurrence";
  dom = sets;
  cuts = refl;
  named = refl;
  new = refl;
  trees = (occurrence, tt);
  differ = ((λ k e. none k e), tt);
}
  where
    none : (k : ℕ) → item_number {A = Repr} [] k ≡ Some (alone ReprKind.Occurrence) → ⊥
    none k e = cc

one_list : AreItems names [] (codes "s:Occurrence" ∷ []) ((codes "s", alone ReprKind.Occurrence ∷ []) ∷ [])
one_list = (one_item, tt)

-- the name that an item gives is cut off it
name-is : (ds : Names Dom) (done : List Text) (item a : Text) (p : Text) (b : Text × List Repr) → cut 58 item ≡ (a, Some p)
    → IsItem ds done item b → a ≡ b.0
name-is ds done item a p b e is = ap (λ c. c.0) (sym e ∙ is.cuts)

-- an item before gives the name
twice : (b : Text × List Repr) → IsItem names (codes "s" ∷ []) (codes "s:Occurrence") b → ⊥
twice b is =
    let e : codes "s" ≡ b.0 = name-is names (codes "s" ∷ []) (codes "s:Occurrence") (codes "s") (codes "Occurrence") b refl is in
    let k : true ≡ false = ap (is_among (codes "s" ∷ [])) e ∙ is.new in cc

-- the name isn't declared
undeclared : (b : Text × List Repr) → IsItem names [] (codes "y:Atom") b → ⊥
unfolding names
undeclared b is =
    let e : codes "y" ≡ b.0 = name-is names [] (codes "y:Atom") (codes "y") (codes "Atom") b refl is in
    let k : None ≡ Some is.dom = ap (look names) e ∙ is.named in cc

-- without a `:` it is none
uncut : (b : Text × List Repr) → IsItem names [] (codes "s") b → ⊥
uncut b is = let k : None ≡ Some is.behind = ap (λ c. c.1) is.cuts in cc

-- ---- what is chosen

by_option_and_default : chosen_for ((codes "s", alone ReprKind.ExplicitVarSizeWithDummy ∷ []) ∷ []) names
    ≡ (codes "s", alone ReprKind.ExplicitVarSizeWithDummy ∷ []) ∷ (codes "x", alone ReprKind.Atom ∷ []) ∷ []
unfolding names sets numbers
by_option_and_default = refl
