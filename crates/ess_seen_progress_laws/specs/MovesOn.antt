-- The rules that fire in trees over views of sets as long as something abstract is left: some of those that may, and at least one of these.
use Rattle.std.specs.Prelude.{◌≡◌, ℕ, Bool, true, false, List, Option, Some, is_some}
use Rattle.ess_semantics.specs.Values.{Text}
use Rattle.ess_semantics.specs.Names.{Names, look}
use Rattle.ess_semantics.specs.Trees.{Ex}
use Rattle.ess_semantics.specs.Types.{Ty}
use Rattle.ess_semantics.specs.Contexts.{fill}
use Rattle.ess_semantics.specs.NamesAt.{names_at}
use Rattle.ess_refine_laws.specs.AllRules.{Rule, not_equal, turned, strictly, equal_sets, included_sets, in_a_term, size, over_a_source, Supply, rewrite}
use Rattle.ess_kind_rules_laws.specs.KindRules.{cell_of_an_atom}
use Rattle.ess_open_rules_laws.specs.OpenRules.{over_one_source, fold_of_folds, KindRuling, of_kind, of_opening, kind_ruled}
use Rattle.ess_seen_laws.specs.Seen.{Kind, Bound, from_a_set, bound_types, Seen}

-- ---- the rules

-- Of those that read no kind: signs between sets, `in` of any term, `|..|` of any term, and a fold over a set that is made of two.
abbrev pub moves_on : Rule → Bool
moves_on not_equal = true
moves_on turned = true
moves_on strictly = true
moves_on equal_sets = true
moves_on included_sets = true
moves_on in_a_term = true
moves_on size = true
moves_on over_a_source = true
moves_on u = false

-- Of those of kinds and openings: the cell of an atom, a fold over a view, and a fold of folds.
abbrev pub moves_on_by_kind : KindRuling → Bool
moves_on_by_kind (of_kind cell_of_an_atom) = true
moves_on_by_kind (of_opening over_one_source) = true
moves_on_by_kind (of_opening fold_of_folds) = true
moves_on_by_kind u = false

-- Such a rule fires at the root, where names have the types g, whatever names it takes.
pub data MovesOn (g : Names Ty) (e : Ex) : Type 0 where
  plainly : (u : Rule) → moves_on u ≡ true → ((s : Supply) → is_some (rewrite s g u e) ≡ true) → MovesOn g e
  by_kind : (u : KindRuling) → moves_on_by_kind u ≡ true → ((s : Supply) → is_some (kind_ruled s g u e) ≡ true) → MovesOn g e

-- ---- parts

-- No name is bound over members of a set.
abbrev pub NoneDrawn : Names Bound → Type 0
NoneDrawn r = (a : Text) (k : Kind) → look r a ≡ Some (from_a_set k) → ⊥

module _ (cells : Text → Option (Bool × List ℕ)) where
  -- Trees of one sort, those of them with an open part, and the types of the names at that part.
  module _ {C T : Type 0} (filled : C → Ex → T) (types_at : C → Names Ty → Names Ty) where
    -- Where the names r are bound, such a rule fires at a part of the tree, which is a tree over views itself.
    pub record MovesAt (r : Names Bound) (t : T) : Type 0 where
      pub context : C
      pub part : Ex
      pub whole : filled context part ≡ t
      pub names : Names Bound
      pub mark : Bool
      pub seen : Seen cells names part mark
      pub types : types_at context (bound_types r) ≡ bound_types names
      pub moves : MovesOn (bound_types names) part

  -- Of an expression.
  abbrev pub MovesWithin : Names Bound → Ex → Type 0
  MovesWithin = MovesAt fill names_at
