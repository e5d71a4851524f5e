-- Comprehensions over what is picked keep types and marks where lists take the place of matrices that aren't numbered from 1.
use Rattle.std.proofs.Common.{◌≡◌, ap, ◌∙◌, zero, Bool, true, false, ◌&&◌, not, if◌then◌else◌, [], ◌∷◌, Option, Some, None, option_map, is_some}
use Rattle.ess_semantics.specs.Lists.{and_then, or_else}
use Rattle.ess_semantics.specs.Values.{Text, a_matrix}
use Rattle.ess_semantics.specs.Names.{Names}
use Rattle.ess_semantics.specs.Trees.{by_value, index, name_pat, tuple_pat, Ex, node_ex, comp_ex, no_exs, more_exs, Gens, no_gens, over, from, cond, ex2}
use Rattle.ess_semantics.specs.Types.{Ty, int_ty, compound2}
use Rattle.ess_semantics.specs.OperatorTypes.{member_ty}
use Rattle.ess_semantics.specs.Typing.{type_of, types_under}
use Rattle.ess_semantics.specs.NamesAt.{names_behind}
use Rattle.ess_refine_laws.specs.AllRules.{Supply, OfSome}
use Rattle.ess_refine_types_laws.specs.MarksOfContainers.{IsNewTo}
use Rattle.ess_refine_types_laws.proofs.TypesOfListed.{then-is}
use Rattle.ess_rules_types_laws.proofs.PutListed.{source-is}
use Rattle.ess_open_rules_laws.specs.OpenGenerators.{Opened, at_first_open}
use Rattle.ess_open_types_laws.proofs.TypesBehind.{KeepsBoth, BothKept, both-if}
use Rattle.ess_ordered_types_laws.proofs.SourcesTyped.{other-source, at-open}
use Rattle.ess_ordered_types_laws.proofs.ItemsTyped.{either}
use Rattle.ess_numbered_laws.specs.MostItems.{most_items}
use Rattle.ess_numbered_laws.specs.CountedSources.{is_counted, sees_order}
use Rattle.ess_numbered_laws.specs.ListedPicks.{with_lists, listed_source, listed_behind, lists_picked}
use Rattle.ess_numbered_laws.specs.NumberRules.{lists_of_what_is_picked}
use Rattle.ess_numbered_types_laws.specs.NumberedTyped.{SourceIsNew, FirstOpenIsNew, NumberTyped, NumberMarked}
use Rattle.ess_numbered_types_laws.proofs.ListedTyped.{with-lists-type, with-lists-marks}
use Rattle.ess_numbered_types_laws.proofs.SourcesNumbered.{at-index-of}
use Rattle.ess_numbered_types_laws.proofs.PairsNumbered.{at-first, at-second, kept-map}

-- What is kept under P is kept under what P follows from.
weaker : (g : Names Ty) (P Q : Type 0) → (Q → P) → (e : Ex) (o : Option Ex) → BothKept g P e o → BothKept g Q e o
weaker g P Q f e None h = tt
weaker g P Q f e (Some c) h = (h.0, λ q. h.1 (f q))

module _ (s : Supply) where
  -- ---- the source

  module _ (h : Names Ty) (y : Text) (e u : Ex) (hs : Gens) (new : IsNewTo s.one u) where
    -- The source has a type.
    abbrev IsTyped : Type 0
    IsTyped = (t : Ty) × (type_of u h ≡ Some t)

    -- It has one where the comprehension has.
    source-typed : (v : Ty) → type_of (comp_ex e (from (name_pat y) u hs)) h ≡ Some v → IsTyped
    source-typed v q =
        let d = source-is (and_then (type_of u h) member_ty) (λ m. types_under hs ((y, m) ∷ h))
        (λ k. option_map (compound2 a_matrix int_ty) (type_of e k)) v q in
        let r = then-is (type_of u h) member_ty d.0 d.1 in (r.0, r.1)

    with-lists-both : KeepsBoth h (Unit {0}) (comp_ex e (from (name_pat y) u hs))
        (comp_ex e (from (name_pat y) (with_lists s.one zero u) hs))
    with-lists-both =
        let k = other-source h IsTyped y e u (with_lists s.one zero u) hs
        (λ m r. ap (λ o. and_then o member_ty) (with-lists-type s.one h zero u new) ∙ r)
        (λ t m. with-lists-marks s.one h zero u t.0 t.1 new m) in
        (k.0, λ p v q m. k.1 (source-typed v q) v q m)

  at-source : (h : Names Ty) (e : Ex) (gs : Gens) → SourceIsNew s gs →
      BothKept h (Unit {0}) (comp_ex e gs) (listed_source s h (comp_ex e gs))
  at-source h e (from (name_pat y) u hs) n =
      go (is_counted s h u && (not (is_some (most_items s.third u)) && is_some (most_items s.third (with_lists s.one zero u))))
    where
      go : (c : Bool) → BothKept h (Unit {0}) (comp_ex e (from (name_pat y) u hs))
          (option_map (λ l. comp_ex e (from (name_pat y) l hs)) (if c then Some (with_lists s.one zero u) else None))
      go true = with-lists-both h y e u hs n
      go false = tt
  at-source h e (from (tuple_pat ps) u hs) n = tt
  at-source h e no_gens n = tt
  at-source h e (over p d hs) n = tt
  at-source h e (cond c hs) n = tt

  module _ (g : Names Ty) where
    -- At the first generator that isn't plain.
    behind : (a : Ex) → FirstOpenIsNew s a → BothKept g (Unit {0}) a (listed_behind s g a)
    behind (comp_ex e gs) n = weaker g (OfSome (at_first_open gs) (λ t. Unit {0})) (Unit {0}) (λ u. nothing (at_first_open gs))
        (comp_ex e gs) (listed_behind s g (comp_ex e gs))
        (at-open g (λ ks. listed_source s (names_behind ks g)) (λ k. SourceIsNew s) (λ k gs. Unit {0}) e gs
        (λ before after k. at-source (names_behind before g) e after k) n)
      where
        nothing : (o : Option Opened) → OfSome o (λ t. Unit {0})
        nothing None = tt
        nothing (Some t) = tt
    behind _ n = tt

    -- ---- where order counts

    -- The rule.
    pub lists-in-place : (e : Ex) → NumberTyped s g lists_of_what_is_picked e →
        BothKept g (NumberMarked s g lists_of_what_is_picked e) e (lists_picked s g e)
    lists-in-place (node_ex b (index (by_value ∷ [])) (more_exs a (more_exs i no_exs))) n =
        at-index-of g (Unit {0}) b i a (listed_behind s g a) (behind a n)
    lists-in-place (ex2 true o a b) n = both-if g (Unit {0}) (sees_order o) (ex2 true o a b)
        (or_else (option_map (λ c. ex2 true o c b) (listed_behind s g a)) (option_map (λ c. ex2 true o a c) (listed_behind s g b)))
        (weaker g (Unit {0} × Unit {0}) (Unit {0}) (λ u. (tt, tt)) (ex2 true o a b)
        (or_else (option_map (λ c. ex2 true o c b) (listed_behind s g a)) (option_map (λ c. ex2 true o a c) (listed_behind s g b)))
        (either s g (Unit {0}) (Unit {0}) (ex2 true o a b)
        (option_map (λ c. ex2 true o c b) (listed_behind s g a)) (option_map (λ c. ex2 true o a c) (listed_behind s g b))
        (kept-map g (Unit {0}) a (ex2 true o a b) (λ c. ex2 true o c b) (λ c. at-first g (Unit {0}) o a b c)
        (listed_behind s g a) (behind a n.0))
        (kept-map g (Unit {0}) b (ex2 true o a b) (λ c. ex2 true o a c) (λ c. at-second g (Unit {0}) o a b c)
        (listed_behind s g b) (behind b n.1))))
    lists-in-place _ n = tt
