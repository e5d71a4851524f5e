-- Comprehensions over what is picked stay what they are where lists take the place of matrices that aren't numbered from 1.
use Rattle.std.proofs.Common.{◌≡◌, refl, ap, subst, zero, Bool, true, false, ◌&&◌, not, if◌then◌else◌, [], ◌∷◌, List, Option, Some, None, option_map, is_some}
use Rattle.ess_semantics.specs.Lists.{and_then, or_else}
use Rattle.ess_semantics.specs.Values.{Text, Value, items_of}
use Rattle.ess_semantics.specs.Names.{Names}
use Rattle.ess_semantics.specs.Trees.{by_value, index, name_pat, Ex, node_ex, comp_ex, no_exs, more_exs, Gens, from, ex2}
use Rattle.ess_semantics.specs.Types.{Ty}
use Rattle.ess_semantics.specs.NamesAt.{names_behind}
use Rattle.ess_semantics.specs.Operators.{list_value}
use Rattle.ess_semantics.specs.Contexts.{Each, EachIn}
use Rattle.ess_semantics.specs.Meaning.{Env, meaning, collect, items_under, with_pat}
use Rattle.ess_semantics.specs.Meets.{Meets, MeetsGens}
use Rattle.ess_semantics.specs.Kept.{Keeps}
use Rattle.ess_rules_laws.proofs.RuleAnswers.{AnswerKeeps, fires}
use Rattle.ess_refine_laws.specs.AllRules.{Supply, OfSome}
use Rattle.ess_numbered_laws.specs.CountedSources.{is_counted, sees_order}
use Rattle.ess_numbered_laws.specs.MostItems.{most_items}
use Rattle.ess_numbered_laws.specs.ListedPicks.{with_lists, listed_source, listed_behind, lists_picked}
use Rattle.ess_numbered_laws.specs.ListedLaws.{PicksTold, SourcePicks, ListPicks, PickedAsks, PickedListsKeep}
use Rattle.ess_numbered_laws.proofs.NumberedSources.{plain-answer, item-answer, side-answer}
use Rattle.ess_numbered_laws.proofs.ListedTerms.{lists-have-the-items, with-lists-met}

-- ---- the first generator

module _ (e : Ex) (y : Text) (t l : Ex) (hs : Gens) (env : Env) where
  abbrev K : Value → Option (List Value)
  K v = items_under hs (with_pat (name_pat y) v env) (λ here. option_map (λ v. v ∷ []) (meaning e here))

  abbrev M : Value → Type 0
  M v = MeetsGens hs (with_pat (name_pat y) v env) (λ here. Meets e here)

  -- Sources with the same items, in order, bind the same.
  same-bindings : (o p : Option Value) → option_map items_of p ≡ option_map items_of o →
      (and_then o (λ s. collect (items_of s) K) ≡ and_then p (λ s. collect (items_of s) K)) × (EachIn o M → EachIn p M)
  same-bindings None None q = (refl, λ m. m)
  same-bindings None (Some w) q = cc
  same-bindings (Some v) None q = cc
  same-bindings (Some v) (Some w) q = let z : items_of v ≡ items_of w = cc in
      (ap (λ xs. collect xs K) z, λ m. subst (λ xs. Each xs M) z m)

  source-keeps : option_map items_of (meaning l env) ≡ option_map items_of (meaning t env) → (Meets t env → Meets l env) →
      Keeps (comp_ex e (from (name_pat y) t hs)) (comp_ex e (from (name_pat y) l hs)) env
  source-keeps q k m = let b = same-bindings (meaning t env) (meaning l env) q in (ap (option_map list_value) b.0, (k m.0, b.1 m.1))

source-answer : (s : Supply) (g : Names Ty) (e : Ex) (env : Env) → SourcePicks s g e env → AnswerKeeps (listed_source s g e) e env
source-answer s g (comp_ex e (from (name_pat y) t hs)) env h = go
    (is_counted s g t && (not (is_some (most_items s.third t)) && is_some (most_items s.third (with_lists s.one zero t)))) h
  where
    go : (c : Bool) → OfSome (if c then Some (with_lists s.one zero t) else None) (λ l. PicksTold s.one zero t env) →
        AnswerKeeps (option_map (λ l. comp_ex e (from (name_pat y) l hs)) (if c then Some (with_lists s.one zero t) else None))
        (comp_ex e (from (name_pat y) t hs)) env
    go false h = tt
    go true h = source-keeps e y t (with_lists s.one zero t) hs env (lists-have-the-items s.one t env h) (with-lists-met s.one env zero t h)
source-answer s g _ env h = tt

sources-keep : (s : Supply) (g : Names Ty) (e f : Ex) → listed_source s g e ≡ Some f → (env : Env) → SourcePicks s g e env → Keeps e f env
sources-keep s g e f q env h = fires (listed_source s g e) e f env (source-answer s g e env h) q

-- ---- behind plain generators

behind-answer : (s : Supply) (g : Names Ty) (e : Ex) (env : Env) → ListPicks s g e env → AnswerKeeps (listed_behind s g e) e env
behind-answer s g (comp_ex e gs) env c = plain-answer (λ gs. listed_source s (names_behind gs g)) (λ gs. SourcePicks s (names_behind gs g))
    (λ gs. sources-keep s (names_behind gs g)) (comp_ex e gs) env c
behind-answer s g _ env c = tt

-- ---- where order counts

picked-answer : (s : Supply) (g : Names Ty) (e : Ex) (env : Env) → PickedAsks s g e env → AnswerKeeps (lists_picked s g e) e env
picked-answer s g (node_ex b (index (by_value ∷ [])) (more_exs a (more_exs i no_exs))) env h =
    item-answer b a i env (listed_behind s g a) (behind-answer s g a env h)
picked-answer s g (ex2 true o a b) env h = go (sees_order o)
  where
    go : (c : Bool) → AnswerKeeps (if c then or_else (option_map (λ c. ex2 true o c b) (listed_behind s g a))
        (option_map (λ c. ex2 true o a c) (listed_behind s g b)) else None) (ex2 true o a b) env
    go true = side-answer o a b env (listed_behind s g a) (listed_behind s g b) (behind-answer s g a env h.0) (behind-answer s g b env h.1)
    go false = tt
picked-answer s g _ env h = tt

-- So an item of such a comprehension and a pair are kept.
pub picked-lists-keep : PickedListsKeep
picked-lists-keep s g e f q env h = fires (lists_picked s g e) e f env (picked-answer s g e env h) q
