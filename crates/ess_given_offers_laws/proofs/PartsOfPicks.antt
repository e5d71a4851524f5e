-- An operator on what is picked has what is wanted of the parts of a tree, where it and what is picked have it.
use Rattle.std.proofs.Common.{Bool, true, false, ◌&&◌, if◌then◌else◌, List, [], ◌∷◌, ℕ, zero, suc, Option, Some, None}
use Rattle.std.specs.Prelude.{IsTrue, is_some}
use Rattle.ess_semantics.specs.Values.{Text}
use Rattle.ess_semantics.specs.Trees.{name_pat, Ex, Exs, name_ex, node_ex, no_exs, more_exs}
use Rattle.ess_rules_laws.specs.Listings.{Alternative}
use Rattle.ess_rules_laws.specs.ListedSources.{laid_out}
use Rattle.ess_rules_laws.specs.LiteralRules.{nth}
use Rattle.ess_rules_laws.specs.Lookups.{is_plain, put_nth, picking, select, select_whole}
use Rattle.ess_rules_laws.specs.AlternativeLookups.{each_picked, picking_each, select_each, select_whole_each, members_of_each, each_through, lookup_through_each}
use Rattle.ess_given_laws.specs.PartsHave.{Wanted, PartsHave, AllHave}
use Rattle.ess_given_laws.proofs.PartsOfFolds.{Answers, HaveAll, HaveSome, when}

module _ (w : Wanted) where
  abbrev A : Option Ex → Type 0
  A r = Answers w r

  abbrev H : Option (List Alternative) → Type 0
  H o = HaveSome w o

  -- With another operand in the place of one.
  pub nth-put : (es : Exs) (k : ℕ) (b : Ex) → PartsHave w b → AllHave w es → AllHave w (put_nth es k b)
  nth-put no_exs k b h i = tt
  nth-put (more_exs a es) zero b h i = i
  nth-put (more_exs a es) (suc zero) b h i = (h, i.1)
  nth-put (more_exs a es) (suc (suc n)) b h i = (i.0, nth-put es (suc n) b h i.1)

  module _ (x : Text) (n : IsTrue (w.name x)) (draws : (k : Ex) → IsTrue (w.draws (name_pat x) k)) where
    -- What picks the one item of a lookup.
    pub picking-has : (b : Bool) (l e : Ex) → PartsHave w l → PartsHave w e → PartsHave w (picking b x l e)
    picking-has true l e h k = ((k, (draws l, h, tt)), tt)
    picking-has false l e h k = ((k, (draws l, h, tt)), tt)

    picked-each : (b : Bool) (l : List Alternative) (e : Ex) → HaveAll w l → PartsHave w e → AllHave w (each_picked b x l e)
    picked-each b [] e h k = tt
    picked-each b (a ∷ l) e h k = (picking-has b (laid_out a) e h.0 k, picked-each b l e h.1 k)

    -- Of each alternative.
    pub picking-each : (b : Bool) (l : List Alternative) (e : Ex) → HaveAll w l → PartsHave w e → PartsHave w (picking_each b x l e)
    picking-each b l e h k = (picked-each b l e h k, tt)

    -- An operator over the lookup of an operand; the whole by its lookup; and both over alternatives.
    pub selected : (k : ℕ) (l e : Ex) → PartsHave w l → PartsHave w e → A (select x k l e)
    selected k l (node_ex b op es) h i = when w (is_plain op && is_some (nth es k)) _
        (picking-has b l (node_ex b op (put_nth es k (name_ex x))) h (nth-put es k (name_ex x) n i))
    selected k l _ h i = tt

    -- The whole by its lookup.
    pub selected-whole : (l e : Ex) → PartsHave w l → PartsHave w e → A (select_whole x l e)
    selected-whole l (node_ex b op es) h i = picking-has b l (name_ex x) h n
    selected-whole l _ h i = tt

    -- An operator over the alternatives of an operand.
    pub selected-each : (k : ℕ) (l : List Alternative) (e : Ex) → HaveAll w l → PartsHave w e → A (select_each x k l e)
    selected-each k l (node_ex b op es) h i = when w (is_plain op && is_some (nth es k)) _
        (picking-each b l (node_ex b op (put_nth es k (name_ex x))) h (nth-put es k (name_ex x) n i))
    selected-each k l _ h i = tt

    -- The whole by its alternatives.
    pub whole-each : (l : List Alternative) (e : Ex) → HaveAll w l → PartsHave w e → A (select_whole_each x l e)
    whole-each l (node_ex b op es) h i = picking-each b l (name_ex x) h n
    whole-each l _ h i = tt

    -- An operator through each alternative.
    pub through : (l : List Alternative) (e : Ex) → HaveAll w l → PartsHave w e → HaveAll w (each_through x l e)
    through [] e h k = tt
    through (a ∷ l) e h k = ((k, (draws (laid_out a), h.0, tt)), through l e h.1 k)

    -- An operator through the alternatives of an operand.
    pub through-each : (k : ℕ) (l : List Alternative) (e : Ex) → HaveAll w l → PartsHave w e → H (lookup_through_each x k l e)
    through-each k l (node_ex b op es) h i = go (is_plain op && is_some (nth es k))
      where
        go : (c : Bool) → H (if c then Some (each_through x l (node_ex b op (put_nth es k (name_ex x)))) else None)
        go true = through l (node_ex b op (put_nth es k (name_ex x))) h (nth-put es k (name_ex x) n i)
        go false = tt
    through-each k l _ h i = tt

    -- The members of what each alternative picks, called x; a member is called y.
    pub members-each : (y : Text) → IsTrue (w.name y) → ((k : Ex) → IsTrue (w.draws (name_pat y) k)) → (l : List Alternative) →
        HaveAll w l → HaveAll w (members_of_each x y l)
    members-each y m d [] h = tt
    members-each y m d (a ∷ l) h = ((m, (draws (laid_out a), h.0, (d (name_ex x), n, tt))), members-each y m d l h.1)
