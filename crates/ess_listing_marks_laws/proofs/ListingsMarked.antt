-- Listings of marked terms have marks.
use Rattle.std.proofs.Common.{◌≡◌, refl, sym, ◌∙◌, subst, Bool, true, false, if◌then◌else◌, List, [], ◌∷◌, Option, Some, None}
use Rattle.ess_semantics.specs.declared.words.Op1.{Op1}
use Rattle.ess_semantics.specs.declared.words.Op2.{Op2}
use Rattle.ess_semantics.specs.declared.words.Fun.{Fun}
use Rattle.ess_semantics.specs.Lists.{and_then}
use Rattle.ess_semantics.specs.Values.{Text, a_function}
use Rattle.ess_semantics.specs.Names.{Names}
use Rattle.ess_semantics.specs.Trees.{word, set_literal, mset_literal, function_literal, relation_literal, partition_literal, matrix_literal, Ex, Exs, name_ex, node_ex, matrix_ex, comp_ex, ex1, ex2, fun1, no_exs, more_exs, Gens, no_gens, cond}
use Rattle.ess_semantics.specs.Types.{Ty, any_ty, compound2}
use Rattle.ess_semantics.specs.OperatorTypes.{member_ty}
use Rattle.ess_semantics.specs.Typing.{type_of, source_ty}
use Rattle.ess_semantics.specs.NamesAt.{names_behind}
use Rattle.ess_rules_laws.specs.ComponentRules.{component_of}
use Rattle.ess_rules_laws.specs.InclusionRules.{both_sets}
use Rattle.ess_rules_laws.specs.ShortSizeRules.{is_partition}
use Rattle.ess_rules_laws.specs.Listings.{Alternative, each_item, none_of, each_first, those, is_strict, listing}
use Rattle.ess_rules_laws.specs.ContainerListings.{of_function, arguments_listed, members_of_parts, made_listing}
use Rattle.ess_rules_laws.specs.ListedSources.{laid_out}
use Rattle.ess_rules_laws.proofs.NoneOf.{none_of-more}
use Rattle.ess_refine_laws.specs.AllRules.{OfSome}
use Rattle.ess_refine_laws.specs.MarksStay.{HasMarks, HaveMarks}
use Rattle.ess_refine_types_laws.specs.MarksOfContainers.{IsNewTo}
use Rattle.ess_rules_marks_laws.proofs.Grows.{Grows, as_it_is, a_node, a_comp, none_grow, more_grow, GensGrow, no_gens_grow, from_grows, cond_grows, grown}
use Rattle.ess_rules_marks_laws.proofs.MarksOfMembers.{later, first-grows, second-grows}
use Rattle.ess_put_marks_laws.specs.MarksOfTerms.{EachMarked}
use Rattle.ess_listing_marks_laws.specs.ListingsMarked.{EachAlike, ListingsHaveMarks}

module _ (g : Names Ty) where
  -- Each alternative grows from what is marked.
  abbrev EachGrown : List Alternative → Type 0
  EachGrown [] = Unit {0}
  EachGrown (a ∷ l) = Grows g (laid_out a) × EachGrown l

  type-there : (o : Option Ty) (m : Ty) → and_then o member_ty ≡ Some m → (t : Ty) × (o ≡ Some t)
  type-there None m q = (any_ty, cc)
  type-there (Some t) m q = (t, refl)

  -- Where items have a type they have marks.
  each-marked : (t : Ex) (m : Ty) (l : List Alternative) → and_then (type_of t g) member_ty ≡ Some m → EachAlike g t l → EachGrown l →
      EachMarked g l
  each-marked t m [] q n k = tt
  each-marked t m (a ∷ l) q n k =
      let r = type-there (type_of (laid_out a) g) m (n.0 ∙ q) in (grown g (laid_out a) k.0 r.0 r.1, each-marked t m l q n.1 k.1)

  -- ---- literals

  each-item : (es : Exs) → HaveMarks es g → EachGrown (each_item es)
  each-item no_exs h = tt
  each-item (more_exs a es) h = (a_comp no_gens_grow (as_it_is h.0), each-item es h.1)

  abbrev AllMarked : List Ex → Type 0
  AllMarked [] = Unit {0}
  AllMarked (b ∷ bs) = HasMarks b g × AllMarked bs

  none-behind : (bs : List Ex) (a : Ex) → names_behind (none_of bs a) g ≡ g
  none-behind [] a = refl
  none-behind (b ∷ bs) a = none_of-more (λ gs. names_behind gs g ≡ g) b a bs (none-behind bs a) (λ r. r)

  none-grows : (bs : List Ex) (a : Ex) → AllMarked bs → HasMarks a g → GensGrow g (none_of bs a)
  none-grows [] a h k = no_gens_grow
  none-grows (b ∷ bs) a h k = none_of-more (GensGrow g) b a bs (none-grows bs a h.1 k)
      (cond_grows (a_node refl (more_grow (a_node refl (more_grow (as_it_is h.0) (more_grow (as_it_is k) none_grow))) none_grow)))

  each-first : (bs : List Ex) (es : Exs) → AllMarked bs → HaveMarks es g → EachGrown (each_first bs es)
  each-first bs no_exs h k = tt
  each-first bs (more_exs a es) h k = (
    a_comp (none-grows bs a h k.0) (subst (λ z. Grows z a) (sym (none-behind bs a)) (as_it_is k.0)),
    each-first (a ∷ bs) es (k.0, h) k.1,
  )

  module _ (x : Text) where
    -- ---- containers

    those-grow : (s : Ex) (gs : Gens) → HasMarks s g → GensGrow ((x, source_ty s g) ∷ g) gs → Grows g (laid_out (those x s gs))
    those-grow s gs h k = a_comp (from_grows (as_it_is h) k) (as_it_is tt)

    -- That x is in a, or isn't.
    in-grows : (s a : Ex) → IsNewTo x a → HasMarks a g →
        GensGrow ((x, source_ty s g) ∷ g) (cond (ex2 true Op2.Member (name_ex x) a) no_gens)
    in-grows s a n h = cond_grows (a_node refl (more_grow (as_it_is tt) (more_grow (later g x s a n h) none_grow))) no_gens_grow

    out-grows : (s a : Ex) → IsNewTo x a → HasMarks a g →
        GensGrow ((x, source_ty s g) ∷ g) (cond (ex1 true Op1.Not (ex2 true Op2.Member (name_ex x) a)) no_gens)
    out-grows s a n h = cond_grows (a_node refl (more_grow (a_node refl (more_grow (as_it_is tt) (more_grow (later g x s a n h) none_grow)))
        none_grow)) no_gens_grow

    when-grown : (c : Bool) (l : List Alternative) → EachGrown l → OfSome (if c then Some l else None) EachGrown
    when-grown true l h = h
    when-grown false l h = tt

    listing-grows : (e : Ex) → IsNewTo x e → HasMarks e g → OfSome (listing g x e) EachGrown
    listing-grows (comp_ex e gs) n h = (as_it_is h, tt)
    listing-grows (node_ex false matrix_literal es) n h = each-item es h.1
    listing-grows (node_ex false mset_literal es) n h = each-item es h.1
    listing-grows (node_ex false set_literal es) n h = each-first [] es tt h.1
    listing-grows (node_ex false relation_literal es) n h = each-first [] es tt h.1
    listing-grows (ex2 false Op2.Union a b) n h = when-grown (both_sets (type_of a g) (type_of b g))
        (those x a no_gens ∷ those x b (cond (ex1 true Op1.Not (ex2 true Op2.Member (name_ex x) a)) no_gens) ∷ []) (
          those-grow a no_gens h.1.0 no_gens_grow,
          (
            those-grow b (cond (ex1 true Op1.Not (ex2 true Op2.Member
                (name_ex x) a)) no_gens) h.1.1.0
                (out-grows b a n.0 h.1.0),
            tt,
          ),
        )
    listing-grows (ex2 false Op2.Intersect a b) n h = when-grown (both_sets (type_of a g) (type_of b g))
        (those x a (cond (ex2 true Op2.Member (name_ex x) b) no_gens) ∷ [])
        (those-grow a (cond (ex2 true Op2.Member (name_ex x) b) no_gens) h.1.0 (in-grows a b n.1.0 h.1.1.0), tt)
    listing-grows (ex2 false Op2.Minus a b) n h = when-grown (both_sets (type_of a g) (type_of b g))
        (those x a (cond (ex1 true Op1.Not (ex2 true Op2.Member (name_ex x) b)) no_gens) ∷ [])
        (those-grow a (cond (ex1 true Op1.Not (ex2 true Op2.Member (name_ex x) b)) no_gens) h.1.0 (out-grows a b n.1.0 h.1.1.0), tt)
    listing-grows (fun1 false Fun.ToMSet s) n h = (those-grow s no_gens h.1.0 no_gens_grow, tt)
    listing-grows (fun1 false Fun.ToSet s) n h = when-grown (is_strict (type_of s g)) (those x s no_gens ∷ [])
        (those-grow s no_gens h.1.0 no_gens_grow, tt)
    listing-grows (fun1 false Fun.Parts s) n h = when-grown (is_strict (type_of s g)) (those x s no_gens ∷ [])
        (those-grow s no_gens h.1.0 no_gens_grow, tt)
    listing-grows _ n h = tt

    -- ---- what is made of functions and partitions

    related : (f : Ex) (o : Option Ty) → HasMarks f g → OfSome (of_function o (λ t u. those x f no_gens ∷ [])) EachGrown
    related f (Some (compound2 a_function t u)) h = (those-grow f no_gens h no_gens_grow, tt)
    related f _ h = tt

    defined : (f : Ex) (o : Option Ty) → type_of f g ≡ o → HasMarks f g →
        OfSome (of_function o (λ t u. arguments_listed x t f no_gens ∷ [])) EachGrown
    defined f (Some (compound2 a_function t u)) p h = (a_comp (from_grows (as_it_is h) no_gens_grow) (first-grows g x f t u p), tt)
    defined f _ p h = tt

    sources : (f b : Ex) (o : Option Ty) → type_of f g ≡ o → IsNewTo x b → HasMarks f g → HasMarks b g →
        OfSome (of_function o (λ t u. arguments_listed x t f (cond (ex2 true Op2.Eq (component_of u 2
        (name_ex x)) b) no_gens) ∷ [])) EachGrown
    sources f b (Some (compound2 a_function t u)) p n h k = (
      a_comp (from_grows (as_it_is h) (cond_grows (a_node refl (more_grow (second-grows g x f t u p) (more_grow
          (later g x f b n k) none_grow)))
          no_gens_grow)) (first-grows g x f t u p),
      tt,
    )
    sources f b _ p n h k = tt

    made-grows : (y : Text) (e : Ex) → IsNewTo x e → HasMarks e g → OfSome (made_listing g x y e) EachGrown
    made-grows y (fun1 false Fun.ToRelation f) n h = related f (type_of f g) h.1.0
    made-grows y (fun1 false Fun.Defined f) n h = defined f (type_of f g) refl h.1.0
    made-grows y (node_ex false (word Fun.PreImage) (more_exs f (more_exs b no_exs))) n h =
        sources f b (type_of f g) refl n.1.0 h.1.0 h.1.1.0
    made-grows y (fun1 false Fun.Participants p) n h = when-grown (is_partition (type_of p g)) (members_of_parts x y p ∷ [])
        (a_comp (from_grows (as_it_is h.1.0) (from_grows (as_it_is tt) no_gens_grow)) (as_it_is tt), tt)
    made-grows y (node_ex false function_literal es) n h = each-first [] es tt h.1
    made-grows y (node_ex false partition_literal es) n h = each-item es h.1
    made-grows y (fun1 false Fun.ToSet (node_ex false matrix_literal es)) n h = each-first [] es tt h.1.0.1
    made-grows y (fun1 false Fun.ToSet (node_ex false mset_literal es)) n h = each-first [] es tt h.1.0.1
    made-grows y (matrix_ex es d) n h = each-item es h.0
    made-grows y _ n h = tt

  of-answer : (o : Option (List Alternative)) (l : List Alternative) → o ≡ Some l → OfSome o EachGrown → EachGrown l
  of-answer o l q h = subst (λ z. OfSome z EachGrown) q h

-- Listings have marks.
pub listings-have-marks : ListingsHaveMarks
listings-have-marks = record {
  by_listing = λ g x t l q n m i a h. each-marked g t m l i a (of-answer g (listing g x t) l q (listing-grows g x t n h));
  by_made_listing = λ g x y t l q n m i a h. each-marked g t m l i a (of-answer g (made_listing g x y t) l q (made-grows g x y t n h));
}
