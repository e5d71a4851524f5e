-- What is given in domains, and comprehensions where order counts, stay by each rule of openings, where its names belong to what is fixed
-- as what they are bound over does.
use Rattle.std.specs.Prelude.{◌≡◌, Bool, true, false, ◌||◌, List, [], ◌∷◌, Some, is_some}
use Rattle.std.specs.List.{list_all}
use Rattle.ess_semantics.specs.Values.{Text}
use Rattle.ess_semantics.specs.Names.{Names}
use Rattle.ess_semantics.specs.NamesAt.{names_behind}
use Rattle.ess_semantics.specs.Occurrences.{has_cells}
use Rattle.ess_semantics.specs.Trees.{name_pat, tuple_pat, Ex, comp_ex, fun1, Gens, no_gens, over, from, cond}
use Rattle.ess_semantics.specs.Types.{Ty}
use Rattle.ess_refine_laws.specs.AllRules.{Supply, OfSome, offered}
use Rattle.ess_kind_rules_laws.specs.ViewListings.{matrix_listing}
use Rattle.ess_kind_rules_laws.specs.TermLookups.{picked_within}
use Rattle.ess_open_rules_laws.specs.OpenGenerators.{at_first_open}
use Rattle.ess_open_rules_laws.specs.OpenSources.{in_order_told}
use Rattle.ess_open_rules_laws.specs.OpenRules.{OpenRule, of_a_pick, a_pick_alone, over_one_source, over_what_is_picked, least_over_several, set_over_several, different_by_counts, in_order_of_its_source, set_of_a_term, open_rewrite}
use Rattle.ess_given_laws.specs.Given.{is_fixed, GivenIn}
use Rattle.ess_given_offers_laws.specs.Seen.{Counts}
use Rattle.ess_given_order_laws.specs.InOrder.{in_order, Ordered}

module _ (u : Text → Bool) where
  -- ---- names

  -- Each of the names belongs to u, or none does.
  abbrev pub EachAs : Bool → List Text → Type 0
  EachAs b [] = Unit {0}
  EachAs b (z ∷ zs) = (u z ≡ b) × EachAs b zs

  -- So do all names that a rule takes.
  abbrev pub AllAs : Bool → Supply → Type 0
  AllAs b s = EachAs b (s.one ∷ s.other ∷ s.third ∷ s.parts)

  -- The names that are bound over what is picked, from within, don't belong to u.
  abbrev pub OutsideAlong : List Text → Ex → Type 0
  OutsideAlong [] e = Unit {0}
  OutsideAlong (y ∷ ys) e = (u y ≡ false) × OfSome (picked_within e) (OutsideAlong ys)

  -- ---- sources

  -- Names belong to u where the source is fixed. The third one does too where the form of the source offers what it has: then it is bound
  -- over a domain in the place of another name.
  abbrev pub SourceNames : Supply → Names Ty → Gens → Type 0
  SourceNames s g (from (name_pat y) t hs) = EachAs (is_fixed u t) (s.one ∷ s.other ∷ s.parts)
      × (u s.third ≡ is_fixed u t || is_some (offered s g t))
  SourceNames s g gs = Unit {0}

  -- So it is behind the plain generators of a comprehension under a word.
  abbrev pub OpenedNames : Supply → Names Ty → Ex → Type 0
  OpenedNames s g (fun1 m f (comp_ex e gs)) = OfSome (at_first_open gs) (λ t. SourceNames s (names_behind t.before g) t.after)
  OpenedNames s g e = Unit {0}

  -- The same of what the first source picks.
  abbrev pub PickedNames : Supply → Ex → Type 0
  PickedNames s (fun1 m f (comp_ex e (from (name_pat y) t hs))) = AllAs (is_fixed u t) s
  PickedNames s e = Unit {0}

  -- ---- comprehensions in any place

  abbrev mutual
    -- The conditions of what is picked are fixed where they read no table, as far as comprehensions run over comprehensions: the names of
    -- an index are bound over domains then, or over what is fixed.
    pub ListKept : Ex → Type 0
    ListKept (comp_ex e gs) = GensKept gs
    ListKept e = Unit {0}

    pub GensKept : Gens → Type 0
    GensKept no_gens = Unit {0}
    GensKept (over p d gs) = GensKept gs
    GensKept (from p t gs) = ListKept t × GensKept gs
    GensKept (cond c gs) = (has_cells c ≡ false → is_fixed u c ≡ true) × GensKept gs

  -- Where the source is fixed all names belong to u. The first one does too where it is the index of a matrix: it is bound over a domain.
  -- Else those that are bound over what is picked don't, and its conditions are fixed where they read no table: the third name and those
  -- for components are bound over domains then, and may belong to u.
  pub record InPlace (s : Supply) (g : Names Ty) (t : Ex) : Type 0 where
    pub one : u s.one ≡ is_fixed u t || is_some (matrix_listing s.one t)
    pub other : u s.other ≡ is_fixed u t
    pub where_fixed : is_fixed u t ≡ true → list_all u (s.third ∷ s.parts) ≡ true
    pub else_outside : is_fixed u t ≡ false → OutsideAlong s.parts t
    pub else_kept : is_fixed u t ≡ false → OfSome (in_order_told s g t) (λ a. GensKept a.gens)

  -- By the first generator: the new name of a pattern is bound over its source, those for components of a domain over parts of that.
  abbrev pub PlaceNames : Supply → Names Ty → Gens → Type 0
  PlaceNames s g (from (name_pat y) t hs) = InPlace s g t
  PlaceNames s g (from (tuple_pat ps) t hs) = u s.one ≡ is_fixed u t
  PlaceNames s g (over p d hs) = list_all u s.parts ≡ true
  PlaceNames s g gs = Unit {0}

  -- So it is behind the plain generators.
  abbrev pub NamesInPlace : Supply → Names Ty → Ex → Type 0
  NamesInPlace s g (comp_ex e gs) = OfSome (at_first_open gs) (λ t. PlaceNames s (names_behind t.before g) t.after)
  NamesInPlace s g e = Unit {0}

  -- ---- each rule

  -- Which of the names that a rule takes belong to u.
  abbrev pub NewOpened : Supply → Names Ty → OpenRule → Ex → Type 0
  NewOpened s g of_a_pick e = AllAs (is_fixed u e) s
  NewOpened s g a_pick_alone e = AllAs (is_fixed u e) s
  NewOpened s g over_one_source e = OpenedNames s g e
  NewOpened s g over_what_is_picked e = PickedNames s e
  NewOpened s g least_over_several e = OpenedNames s g e
  NewOpened s g set_over_several e = OpenedNames s g e
  NewOpened s g different_by_counts e = u s.one ≡ is_fixed u e
  NewOpened s g in_order_of_its_source e = NamesInPlace s g e
  NewOpened s g set_of_a_term e = u s.one ≡ is_fixed u e
  NewOpened s g r e = Unit {0}

-- So each rule of openings keeps what is given, and what is fixed; comprehensions where order counts stay in order, and so does one that
-- stands where order counts itself.
pub record OpenedStays : Type 0 where
  pub given : (u : Text → Bool) (s : Supply) (g : Names Ty) (r : OpenRule) (e f : Ex) → open_rewrite s g r e ≡ Some f → Counts u →
      NewOpened u s g r e → GivenIn u e → GivenIn u f
  pub fixed : (u : Text → Bool) (s : Supply) (g : Names Ty) (r : OpenRule) (e f : Ex) → open_rewrite s g r e ≡ Some f → Counts u →
      NewOpened u s g r e → is_fixed u e ≡ true → is_fixed u f ≡ true
  pub ordered : (u : Text → Bool) (s : Supply) (g : Names Ty) (r : OpenRule) (e f : Ex) → open_rewrite s g r e ≡ Some f → Counts u →
      NewOpened u s g r e → GivenIn u e → Ordered u e → Ordered u f
  pub in_its_place : (u : Text → Bool) (s : Supply) (g : Names Ty) (r : OpenRule) (e f : Ex) → open_rewrite s g r e ≡ Some f → Counts u →
      NewOpened u s g r e → GivenIn u e → Ordered u e → in_order u e ≡ true → in_order u f ≡ true
