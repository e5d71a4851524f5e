-- Which of the names that a rule of comprehensions takes belong to u: those that it binds over domains, also where the root isn't fixed,
-- since a domain behind may read them; and those that it binds over what is picked, where that is fixed. And what is asked of a source that
-- isn't fixed: that its items are counted by what is, and that its conditions are.
use Rattle.std.specs.Prelude.{◌≡◌, Bool, true, false, List, [], ◌∷◌, Option, Some, None, is_some, if◌then◌else◌}
use Rattle.std.specs.List.{list_all}
use Rattle.ess_semantics.specs.Values.{Text}
use Rattle.ess_semantics.specs.Names.{Names}
use Rattle.ess_semantics.specs.Trees.{name_pat, Ex, node_ex, comp_ex, Gens, from, fun1}
use Rattle.ess_semantics.specs.Types.{Ty}
use Rattle.ess_rules_laws.specs.LiteralRules.{nth}
use Rattle.ess_refine_laws.specs.AllRules.{Supply, OfSome, only_one}
use Rattle.ess_kind_rules_laws.specs.TermLookups.{picked_within}
use Rattle.ess_open_rules_laws.specs.OpenGenerators.{at_first_open}
use Rattle.ess_ordered_laws.specs.NumberedItems.{ordered_lookup}
use Rattle.ess_ordered_laws.specs.ToldAxes.{counted_axis}
use Rattle.ess_ordered_laws.specs.OrderedRules.{OrderedRule, an_item, of_an_item, source_by_indices, source_of_an_item, at_operand}
use Rattle.ess_given_laws.specs.Given.{is_fixed, is_fixed_dom}
use Rattle.ess_given_opened_laws.specs.OpenedStays.{EachAs, GensKept}

-- By whether there is something.
abbrev pub OfEither : {X : Type 0} → Option X → Type 0 → (X → Type 0) → Type 0
OfEither None A P = A
OfEither (Some e) A P = P e

-- The operand at which the rule rewrites the root, if it does: the first one, else the second one.
abbrev pub rewritten_operand : Supply → Names Ty → Ex → Option Ex
rewritten_operand s g (node_ex b op es) = nth es (if is_some (at_operand s g 1 (node_ex b op es)) then 1 else 2)
rewritten_operand s g e = None

-- Of the generators of a comprehension from the first on that isn't plain.
abbrev pub AtSource : (Gens → Type 0) → Ex → Type 0
AtSource P (comp_ex e gs) = OfSome (at_first_open gs) (λ t. P t.after)
AtSource P e = Unit {0}

module _ (u : Text → Bool) where
  -- The names that are bound over what is picked, from within, don't belong to u, the others do: these are bound over domains.
  abbrev pub NamesAlong : List Text → Ex → Type 0
  NamesAlong [] e = Unit {0}
  NamesAlong (y ∷ ys) e = (u y ≡ false) × OfEither (picked_within e) (list_all u ys ≡ true) (NamesAlong ys)

  -- Of what is picked out of an item: where it is fixed all names belong to u. Else those for what is picked within don't, and those behind
  -- them do, each of which a generator of the comprehension binds over its domain. So does the third one, for members that are counted.
  pub record ItemNames (s : Supply) (t : Ex) : Type 0 where
    pub third : u s.third ≡ true
    pub where_fixed : is_fixed u t ≡ true → list_all u s.parts ≡ true
    pub else_along : is_fixed u t ≡ false → NamesAlong s.parts t

  -- Of a source that is picked: out of an item it is as above. Else the names belong to u where the source is fixed, and none does where it
  -- isn't.
  abbrev pub PickedSourceNames : Supply → Ex → Type 0
  PickedSourceNames s t = OfEither (ordered_lookup s.third s.parts t) (EachAs u (is_fixed u t) (s.third ∷ s.parts)) (λ l. ItemNames s t)

  -- Of the term at which a root is rewritten: of a comprehension over what is picked, the name that takes the place of its source belongs
  -- to u where that is fixed.
  abbrev pub TermNames : Supply → Ex → Type 0
  TermNames s (comp_ex e (from (name_pat y) t hs)) = (u s.other ≡ is_fixed u t) × PickedSourceNames s t
  TermNames s t = ItemNames s t

  -- Of a source by its indices that isn't fixed: where the number of its items is told by the lists that it is picked out of, what tells it
  -- is fixed.
  abbrev pub CountKept : Gens → Type 0
  CountKept (from (name_pat y) t hs) = is_fixed u t ≡ false → OfSome (counted_axis t) (λ d. is_fixed_dom u d ≡ true)
  CountKept gs = Unit {0}

  -- Of a source that is an item: the name that is bound over what is picked belongs to u where the source is fixed.
  abbrev pub ItemSourceNames : Supply → Gens → Type 0
  ItemSourceNames s (from (name_pat y) t hs) = (u s.other ≡ is_fixed u t) × ItemNames s t
  ItemSourceNames s gs = Unit {0}

  -- Where it isn't fixed, the conditions by which it is picked are fixed where they read no table.
  abbrev pub ItemSourceKept : Supply → Gens → Type 0
  ItemSourceKept s (from (name_pat y) t hs) =
      is_fixed u t ≡ false → OfSome (only_one (ordered_lookup s.third s.parts t)) (λ a. GensKept u a.gens)
  ItemSourceKept s gs = Unit {0}

  -- Under a word that forgets order nothing is asked of conditions.
  abbrev pub SourceItemNames : Supply → Ex → Type 0
  SourceItemNames s (fun1 m f (comp_ex e gs)) = AtSource (ItemSourceNames s) (comp_ex e gs)
  SourceItemNames s (comp_ex e gs) = AtSource (ItemSourceNames s) (comp_ex e gs) × AtSource (ItemSourceKept s) (comp_ex e gs)
  SourceItemNames s e = Unit {0}

  -- Which of the names that a rule takes belong to u: the one that is bound over all that is picked does where the root is fixed. An index
  -- does, since it is bound over a domain.
  abbrev pub NewOrdered : Supply → Names Ty → OrderedRule → Ex → Type 0
  NewOrdered s g an_item e = (u s.one ≡ is_fixed u e) × TermNames s e
  NewOrdered s g of_an_item e = (u s.one ≡ is_fixed u e) × OfSome (rewritten_operand s g e) (TermNames s)
  NewOrdered s g source_by_indices e = (u s.one ≡ true) × AtSource CountKept e
  NewOrdered s g source_of_an_item e = SourceItemNames s e
