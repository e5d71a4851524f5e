-- What each expression that structures are built of has, structures have: one induction for all properties of their form. L is what is
-- known of ranges, named types and multisets beside that their numbers have the property.
use Rattle.std.proofs.Common.{◌≡◌, refl, ℕ, Bool, true, false, ◌&&◌, ◌||◌, List, [], ◌∷◌, ◌++◌, pos, if◌then◌else◌}
use Rattle.ess_semantics.specs.declared.words.Op1.{Op1}
use Rattle.ess_semantics.specs.declared.words.Op2.{Op2}
use Rattle.ess_semantics.specs.declared.words.Fun.{Fun}
use Rattle.ess_semantics.specs.declared.words.Key.{Key}
use Rattle.ess_semantics.specs.Values.{Text}
use Rattle.ess_semantics.specs.Kinds.{dom_list, has_key}
use Rattle.ess_semantics.specs.Trees.{Op, unary, binary, word, set_literal, mset_literal, function_literal, relation_literal, partition_literal, matrix_literal, Mark, valued, name_pat, tuple_pat, Ex, Exs, number_ex, truth_ex, name_ex, node_ex, comp_ex, cell_ex, no_exs, more_exs, Gens, no_gens, over, from, cond, Dom, Doms, bool_dom, int_dom, name_dom, tuple_dom, record_dom, matrix_dom, set_dom, mset_dom, function_dom, relation_dom, partition_dom, no_doms, more_doms, ex1, ex2, fun1}
use Rattle.ess_guard_laws.proofs.Safe.{is_safe}
use Rattle.ess_repr_laws.specs.StructureParts.{number_of_key, tuple_set_dom}
use Rattle.ess_repr_laws.specs.ViewParts.{pair_relation_dom, part_set_dom, part_dom, number_as}
use Rattle.ess_repr_declare_laws.specs.SizeTerms.{bound_ex, listed_ex, greatest_size_of, occurrences_ex, slots_ex, size_terms}
use Rattle.ess_repr_structure_laws.proofs.PickedNumbers as K
use Rattle.ess_repr_structure_laws.proofs.PickedNumbers.{if-have, key-picked, key-picked-as, default-has, greatest-may, occurrences-may}

-- Whether an operator isn't a literal whose items are counted.
abbrev pub counts_nothing : Op → Bool
counts_nothing set_literal = false
counts_nothing mset_literal = false
counts_nothing function_literal = false
counts_nothing relation_literal = false
counts_nothing partition_literal = false
counts_nothing matrix_literal = false
counts_nothing op = true

-- Whether structures may use the operator.
abbrev pub is_used : Op → Bool
is_used op = is_safe op && counts_nothing op

module _ (P : Ex → Type 0) where
  -- Each operand has the property.
  abbrev pub AllHave : Exs → Type 0
  AllHave = K.AllHave P

  abbrev mutual
    -- Each number in a domain has it.
    pub DomHas : Dom → Type 0
    DomHas bool_dom = Unit {0}
    DomHas (int_dom rs es) = AllHave es
    DomHas (name_dom a) = Unit {0}
    DomHas (tuple_dom ds) = DomsHave ds
    DomHas (record_dom fs ds) = DomsHave ds
    DomHas (matrix_dom is d) = DomsHave is × DomHas d
    DomHas (set_dom ms es d) = AllHave es × DomHas d
    DomHas (mset_dom ms es d) = AllHave es × DomHas d
    DomHas (function_dom ms es d c) = AllHave es × DomHas d × DomHas c
    DomHas (relation_dom ms es ds) = AllHave es × DomsHave ds
    DomHas (partition_dom ms es d) = AllHave es × DomHas d

    -- The same of several domains.
    pub DomsHave : Doms → Type 0
    DomsHave no_doms = Unit {0}
    DomsHave (more_doms d ds) = DomHas d × DomsHave ds

  -- Each of a list of domains has the property.
  abbrev pub ListHas : List Dom → Type 0
  ListHas [] = Unit {0}
  ListHas (d ∷ ds) = DomHas d × ListHas ds

  -- One list behind the other.
  pub lists-have : (as' bs : List Dom) → ListHas as' → ListHas bs → ListHas (as' ++ bs)
  lists-have [] bs a b = b
  lists-have (d ∷ as') bs a b = (a.0, lists-have as' bs a.1 b)

-- Where P has Q behind it, operands and domains that have P have Q.
module _ (P Q : Ex → Type 0) (f : (e : Ex) → P e → Q e) where
  pub have-more : (es : Exs) → AllHave P es → AllHave Q es
  have-more no_exs a = tt
  have-more (more_exs e es) a = (f e a.0, have-more es a.1)

  mutual
    pub dom-more : (d : Dom) → DomHas P d → DomHas Q d
    dom-more bool_dom h = tt
    dom-more (int_dom rs es) h = have-more es h
    dom-more (name_dom a) h = tt
    dom-more (tuple_dom ds) h = doms-more ds h
    dom-more (record_dom fs ds) h = doms-more ds h
    dom-more (matrix_dom is d) h = (doms-more is h.0, dom-more d h.1)
    dom-more (set_dom ms es d) h = (have-more es h.0, dom-more d h.1)
    dom-more (mset_dom ms es d) h = (have-more es h.0, dom-more d h.1)
    dom-more (function_dom ms es d c) h = (have-more es h.0, dom-more d h.1, dom-more c h.2)
    dom-more (relation_dom ms es ds) h = (have-more es h.0, doms-more ds h.1)
    dom-more (partition_dom ms es d) h = (have-more es h.0, dom-more d h.1)

    pub doms-more : (ds : Doms) → DomsHave P ds → DomsHave Q ds
    doms-more no_doms h = tt
    doms-more (more_doms d ds) h = (dom-more d h.0, doms-more ds h.1)

module _ (P : Ex → Type 0) (L : Dom → Type 0) where
  abbrev mutual
    -- So has each, and L holds of each range, named type and multiset.
    pub Good : Dom → Type 0
    Good bool_dom = Unit {0}
    Good (int_dom rs es) = L (int_dom rs es) × AllHave P es
    Good (name_dom a) = L (name_dom a)
    Good (tuple_dom ds) = AllGood ds
    Good (record_dom fs ds) = AllGood ds
    Good (matrix_dom is d) = AllGood is × Good d
    Good (set_dom ms es d) = AllHave P es × Good d
    Good (mset_dom ms es d) = L (mset_dom ms es d) × AllHave P es × Good d
    Good (function_dom ms es d c) = AllHave P es × Good d × Good c
    Good (relation_dom ms es ds) = AllHave P es × AllGood ds
    Good (partition_dom ms es d) = AllHave P es × Good d

    -- The same of several domains.
    pub AllGood : Doms → Type 0
    AllGood no_doms = Unit {0}
    AllGood (more_doms d ds) = Good d × AllGood ds

  mutual
    -- The numbers of a good domain have the property.
    pub good-has : (d : Dom) → Good d → DomHas P d
    good-has bool_dom g = tt
    good-has (int_dom rs es) g = g.1
    good-has (name_dom a) g = tt
    good-has (tuple_dom ds) g = all-good-have ds g
    good-has (record_dom fs ds) g = all-good-have ds g
    good-has (matrix_dom is d) g = (all-good-have is g.0, good-has d g.1)
    good-has (set_dom ms es d) g = (g.0, good-has d g.1)
    good-has (mset_dom ms es d) g = (g.1, good-has d g.2)
    good-has (function_dom ms es d c) g = (g.0, good-has d g.1, good-has c g.2)
    good-has (relation_dom ms es ds) g = (g.0, all-good-have ds g.1)
    good-has (partition_dom ms es d) g = (g.0, good-has d g.1)

    -- The same of several domains.
    pub all-good-have : (ds : Doms) → AllGood ds → DomsHave P ds
    all-good-have no_doms g = tt
    all-good-have (more_doms d ds) g = (good-has d g.0, all-good-have ds g.1)

  -- As a list.
  pub list-has : (ds : Doms) → AllGood ds → ListHas P (dom_list ds)
  list-has no_doms g = tt
  list-has (more_doms d ds) g = (good-has d g.0, list-has ds g.1)

-- So good domains are good for Q.
module _ (P Q : Ex → Type 0) (L : Dom → Type 0) (f : (e : Ex) → P e → Q e) where
  mutual
    pub good-more : (d : Dom) → Good P L d → Good Q L d
    good-more bool_dom g = tt
    good-more (int_dom rs es) g = (g.0, have-more P Q f es g.1)
    good-more (name_dom a) g = g
    good-more (tuple_dom ds) g = all-good-more ds g
    good-more (record_dom fs ds) g = all-good-more ds g
    good-more (matrix_dom is d) g = (all-good-more is g.0, good-more d g.1)
    good-more (set_dom ms es d) g = (have-more P Q f es g.0, good-more d g.1)
    good-more (mset_dom ms es d) g = (g.0, have-more P Q f es g.1, good-more d g.2)
    good-more (function_dom ms es d c) g = (have-more P Q f es g.0, good-more d g.1, good-more c g.2)
    good-more (relation_dom ms es ds) g = (have-more P Q f es g.0, all-good-more ds g.1)
    good-more (partition_dom ms es d) g = (have-more P Q f es g.0, good-more d g.1)

    pub all-good-more : (ds : Doms) → AllGood P L ds → AllGood Q L ds
    all-good-more no_doms g = tt
    all-good-more (more_doms d ds) g = (good-more d g.0, all-good-more ds g.1)

module _ (q : ℕ → Text) (P : Ex → Type 0) (F : Type 0) where
  -- Generators over domains and items, and conditions, that have it, where the names are those of q. F says whether there may be ones over
  -- items.
  abbrev pub GensHave : Gens → Type 0
  GensHave no_gens = Unit {0}
  GensHave (over (name_pat a) d gs) = ((l : ℕ) × (a ≡ q l)) × DomHas P d × GensHave gs
  GensHave (over (tuple_pat ps) d gs) = ⊥
  GensHave (from (name_pat a) e gs) = ((l : ℕ) × (a ≡ q l)) × P e × GensHave gs × F
  GensHave (from (tuple_pat ps) e gs) = ⊥
  GensHave (cond e gs) = P e × GensHave gs

module _ (P : Ex → Type 0) (L : Dom → Type 0) where
  -- Bounds of domains have the property, and what sizes are built of.
  pub record SizedBy : Type 0 where
    pub zero : P (number_ex (pos 0))
    pub one : P (number_ex (pos 1))
    pub products : (a b : Ex) → P a → P b → P (ex2 false Op2.Times a b)
    pub bounds : (d : Dom) → Good P L d → P (bound_ex d)

  module _ (S : SizedBy) where
    -- The slots of a set or multiset.
    pub set-slots : (ms : List Mark) (es : Exs) (d : Dom) → Good P L (set_dom ms es d) → P (slots_ex (set_dom ms es d))
    set-slots ms es d g = default-has P (greatest_size_of ms es) (bound_ex d) (greatest-may P ms es g.0) (S.bounds d g.1)

    pub mset-slots : (ms : List Mark) (es : Exs) (d : Dom) → Good P L (mset_dom ms es d) → P (slots_ex (mset_dom ms es d))
    mset-slots ms es d g = default-has P (greatest_size_of ms es) (ex2 false Op2.Times (occurrences_ex ms es) (bound_ex d))
        (greatest-may P ms es g.1)
        (S.products (occurrences_ex ms es) (bound_ex d) (occurrences-may P ms es g.1 S.zero) (S.bounds d g.2))

    -- The domains of children are good.
    pub tuples-good : (ms : List Mark) (es : Exs) (ds : Doms) → Good P L (relation_dom ms es ds) → Good P L (tuple_set_dom ms es ds)
    tuples-good ms es ds g =
        let a : List Mark × Exs = number_of_key Key.MaxSize ms es [] no_exs in
        let b : List Mark × Exs = number_of_key Key.MinSize ms es a.0 a.1 in (
          key-picked P Key.Size ms es b.0 b.1 g.0 (key-picked P Key.MinSize ms es a.0 a.1 g.0
              (key-picked P Key.MaxSize ms es [] no_exs g.0 tt)),
          g.1,
        )

    pub pairs-good : (ms : List Mark) (es : Exs) (d c : Dom) → Good P L (function_dom ms es d c) → Good P L
        (pair_relation_dom size_terms ms es d c)
    pairs-good ms es d c g =
        let a0 : List Mark × Exs = number_of_key Key.MaxSize ms es [] no_exs in
        let a1 : List Mark × Exs = (valued Key.MaxSize ∷ [], more_exs (bound_ex d) no_exs) in
        let a : List Mark × Exs = if has_key Key.MaxSize ms || (has_key Key.Total ms || has_key Key.Size ms) then a0 else a1 in
        let b : List Mark × Exs = number_of_key Key.MinSize ms es a.0 a.1 in
        let s0 : List Mark × Exs = (valued Key.Size ∷ b.0, more_exs (bound_ex d) b.1) in
        let s1 : List Mark × Exs = number_of_key Key.Size ms es b.0 b.1 in
        let ha : AllHave P a.1 = if-have P (has_key Key.MaxSize ms || (has_key Key.Total ms || has_key Key.Size ms)) a0 a1
        (key-picked P Key.MaxSize ms es [] no_exs g.0 tt) (S.bounds d g.1, tt) in
        let hb : AllHave P b.1 = key-picked P Key.MinSize ms es a.0 a.1 g.0 ha in
        (if-have P (has_key Key.Total ms) s0 s1 (S.bounds d g.1, hb) (key-picked P Key.Size ms es b.0 b.1 g.0 hb), (g.1, (g.2, tt)))

    part-good : (ms : List Mark) (es : Exs) (d : Dom) → Good P L (partition_dom ms es d) → Good P L (part_dom ms es d)
    part-good ms es d g =
        let a : List Mark × Exs = number_as Key.MaxPartSize Key.MaxSize ms es [] no_exs in
        let b : List Mark × Exs = number_as Key.MinPartSize Key.MinSize ms es a.0 a.1 in
        let ha : AllHave P a.1 = key-picked-as P Key.MaxPartSize Key.MaxSize ms es [] no_exs g.0 tt in
        (key-picked-as P Key.PartSize Key.Size ms es b.0 b.1 g.0 (key-picked-as P Key.MinPartSize Key.MinSize ms es a.0 a.1 g.0 ha), g.1)

    pub parts-good : (ms : List Mark) (es : Exs) (d : Dom) → Good P L (partition_dom ms es d) → Good P L
        (part_set_dom size_terms ms es d)
    parts-good ms es d g =
        let a0 : List Mark × Exs = number_as Key.MaxNumParts Key.MaxSize ms es [] no_exs in
        let a1 : List Mark × Exs = (valued Key.MaxSize ∷ [], more_exs (bound_ex d) no_exs) in
        let a : List Mark × Exs = if has_key Key.MaxNumParts ms || has_key Key.NumParts ms then a0 else a1 in
        let b : List Mark × Exs = number_as Key.MinNumParts Key.MinSize ms es a.0 a.1 in
        let ha : AllHave P a.1 = if-have P (has_key Key.MaxNumParts ms || has_key Key.NumParts ms) a0 a1
        (key-picked-as P Key.MaxNumParts Key.MaxSize ms es [] no_exs g.0 tt) (S.bounds d g.1, tt) in (
          key-picked-as P Key.NumParts Key.Size ms es b.0 b.1 g.0 (key-picked-as P Key.MinNumParts Key.MinSize ms es a.0 a.1 g.0 ha),
          part-good ms es d g,
        )

module _ (q : ℕ → Text) (P : Ex → Type 0) (L : Dom → Type 0) (F H : Type 0) where
  -- What structures are built of has the property, with generators over items where F says so, and cells where H does.
  pub record BuiltOf : Type 0 where
    pub truths : (b : Bool) → P (truth_ex b)
    pub zero : P (number_ex (pos 0))
    pub one : P (number_ex (pos 1))
    pub names : (l : ℕ) → P (name_ex (q l))
    pub nodes : (b : Bool) (op : Op) (es : Exs) → is_used op ≡ true → AllHave P es → P (node_ex b op es)
    pub comps : (e : Ex) (gs : Gens) → P e → GensHave q P F gs → P (comp_ex e gs)
    pub cells : (b : Bool) (n : Text) (es : Exs) → AllHave P es → H → P (cell_ex b n es)
    pub bounds : (d : Dom) → Good P L d → P (bound_ex d)
    pub listed : (a : Text) → Good P L (name_dom a) → P (listed_ex (name_dom a))

module _ (q : ℕ → Text) (P : Ex → Type 0) (L : Dom → Type 0) {F H : Type 0} (B : BuiltOf q P L F H) where
  -- An operator on one and on two operands.
  pub one-has : (b : Bool) (o : Op1) (a : Ex) → is_used (unary o) ≡ true → P a → P (ex1 b o a)
  one-has b o a u h = B.nodes b (unary o) (more_exs a no_exs) u (h, tt)

  pub two-have : (b : Bool) (o : Op2) (x y : Ex) → is_used (binary o) ≡ true → P x → P y → P (ex2 b o x y)
  two-have b o x y u g h = B.nodes b (binary o) (more_exs x (more_exs y no_exs)) u (g, (h, tt))

  pub word-has : (b : Bool) (f : Fun) (a : Ex) → is_used (word f) ≡ true → P a → P (fun1 b f a)
  word-has b f a u h = B.nodes b (word f) (more_exs a no_exs) u (h, tt)

  pub sized : SizedBy P L
  sized = record {
    zero = B.zero;
    one = B.one;
    products = λ a b g h. two-have false Op2.Times a b refl g h;
    bounds = B.bounds;
  }

  -- The slots of a set or multiset.
  pub set-slots-have : (ms : List Mark) (es : Exs) (d : Dom) → Good P L (set_dom ms es d) → P (slots_ex (set_dom ms es d))
  set-slots-have = set-slots P L sized

  pub mset-slots-have : (ms : List Mark) (es : Exs) (d : Dom) → Good P L (mset_dom ms es d) → P (slots_ex (mset_dom ms es d))
  mset-slots-have = mset-slots P L sized

  -- The domains of children are good.
  pub tuple-set-good : (ms : List Mark) (es : Exs) (ds : Doms) → Good P L (relation_dom ms es ds) → Good P L (tuple_set_dom ms es ds)
  tuple-set-good = tuples-good P L sized

  pub pair-relation-good : (ms : List Mark) (es : Exs) (d c : Dom) → Good P L (function_dom ms es d c) → Good P L
      (pair_relation_dom size_terms ms es d c)
  pair-relation-good = pairs-good P L sized

  pub part-set-good : (ms : List Mark) (es : Exs) (d : Dom) → Good P L (partition_dom ms es d) → Good P L
      (part_set_dom size_terms ms es d)
  part-set-good = parts-good P L sized
