-- A term in the place of a name that was bound over the members of a set.
use Rattle.std.specs.Prelude.{◌≡◌, ℕ, Bool, true, false, not, Option, Some, IsTrue, List}
use Rattle.ess_semantics.specs.Values.{Text}
use Rattle.ess_semantics.specs.Order.{same_text}
use Rattle.ess_semantics.specs.Names.{Names, look}
use Rattle.ess_semantics.specs.Trees.{Ex, Gens}
use Rattle.ess_semantics.specs.Substitution.{substitute, substitute_gens, for_name, NamesAre, NamesAreGens}
use Rattle.ess_rules_laws.specs.SpliceRules.{append_gens}
use Rattle.ess_seen_laws.specs.Seen.{Kind, scalars, sets_of, Bound, from_a_set, SetTerm, Seen, Going}
use Rattle.ess_seen_laws.specs.SeenParts.{AllBound}

-- Each name that r binds, t binds so too.
abbrev pub Within : Names Bound → Names Bound → Type 0
Within r t = (a : Text) (b : Bound) → look r a ≡ Some b → look t a ≡ Some b

-- Names that are bound in the tree have none of these names.
abbrev pub BindsNone : (Text → Bool) → Ex → Type 0
BindsNone s e = NamesAre (λ a. true) (λ a. not (s a)) e

abbrev pub BindNone : (Text → Bool) → Gens → Type 0
BindNone s gs = NamesAreGens (λ a. true) (λ a. not (s a)) gs

module _ (cells : Text → Option (Bool × List ℕ)) where
  -- A scalar or a set as a member of this kind.
  abbrev pub IsItem : Names Bound → Ex → Kind → Type 0
  IsItem r h (scalars m) = Seen cells r h m
  IsItem r h (sets_of k) = SetTerm cells r h k

  -- Among r the name y is bound over members of a kind, and h is such a member where the names `base` are bound. The other names of r, and
  -- those of `base`, are bound among t too; s has y and the names of `base`.
  pub record Puts (s : Text → Bool) (y : Text) (h : Ex) (r t : Names Bound) : Type 0 where
    pub kind : Kind
    pub bound : look r y ≡ Some (from_a_set kind)
    pub others : (a : Text) (b : Bound) → same_text y a ≡ false → look r a ≡ Some b → look t a ≡ Some b
    pub base : Names Bound
    pub item : IsItem base h kind
    pub within : Within base t
    pub covered : AllBound s base
    pub itself : IsTrue (s y)

  -- The same generators with the term in the place of the name bind the names t, among which it may be put in behind them too.
  pub record GensPut (s : Text → Bool) (y : Text) (h : Ex) (u : Names Bound) (t : Names Bound) (gs : Gens) : Type 0 where
    pub behind : Names Bound
    pub going : Going cells t (substitute_gens (for_name y h) gs) behind
    pub puts : Puts s y h u behind

  -- The same generators among more names.
  pub record GensWithin (u t : Names Bound) (gs : Gens) : Type 0 where
    pub behind : Names Bound
    pub going : Going cells t gs behind
    pub within : Within u behind

  -- A comprehension with the item of an alternative in the place of the name, and the generators of that before the others.
  pub record ListPut (r : Names Bound) (y : Text) (h : Ex) (ks hs : Gens) (e : Ex) (m : Bool) : Type 0 where
    pub behind : Names Bound
    pub going : Going cells r (append_gens ks (substitute_gens (for_name y h) hs)) behind
    pub seen : Seen cells behind (substitute (for_name y h) e) m
