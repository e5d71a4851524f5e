-- What is picked and decided is given where the term is that it is picked from: the third name is bound over domains alone, and may be
-- one that is fixed.
use Rattle.std.proofs.Common.{◌≡◌, refl, Bool, true, false, ◌&&◌, if◌then◌else◌, List, [], ◌∷◌, Option, Some, None, option_map}
use Rattle.std.specs.Prelude.{is_some}
use Rattle.ess_semantics.specs.declared.words.Fun.{Fun}
use Rattle.ess_semantics.specs.Lists.{and_then, or_else}
use Rattle.ess_semantics.specs.Values.{Text, a_matrix, a_function}
use Rattle.ess_semantics.specs.Names.{Names}
use Rattle.ess_semantics.specs.Trees.{word, application, Ex, name_ex, node_ex, comp_ex, no_exs, more_exs}
use Rattle.ess_semantics.specs.Types.{Ty, any_ty, int_ty, compound2}
use Rattle.ess_semantics.specs.Typing.{type_of, types_under}
use Rattle.ess_semantics.proofs.Tests.{and-left}
use Rattle.ess_rules_laws.specs.Listings.{Alternative}
use Rattle.ess_rules_laws.specs.LiteralRules.{nth}
use Rattle.ess_rules_laws.specs.Lookups.{put_nth, is_plain}
use Rattle.ess_rules_laws.specs.FunctionLookups.{pairs_at, function_lookup}
use Rattle.ess_rules_laws.specs.AlternativeLookups.{list_lookup, function_literal_lookup, as_alternative, each_through, lookup_through_each}
use Rattle.ess_refine_laws.specs.AllRules.{OfSome}
use Rattle.ess_kind_rules_laws.specs.TermLookups.{picked_within, view_item_lookup, domain_list_lookup, party_lookup, names_of_argument, function_view_lookup, one_lookup, looked_up_alone, looked_up}
use Rattle.ess_open_rules_laws.specs.OpenSources.{is_decided, are_decided}
use Rattle.ess_given_laws.specs.PartsHave.{PartsHave, GensHave}
use Rattle.ess_given_laws.specs.Given.{given, GivenIn}
use Rattle.ess_given_laws.proofs.PartsOfFolds.{Answers, HaveSome}
use Rattle.ess_given_offers_laws.specs.Seen.{Counts}
use Rattle.ess_given_offers_laws.proofs.GivenOffers.{sees-given, given-overs}
use Rattle.ess_given_offers_laws.proofs.PartsOfPicks.{nth-put}
use Rattle.ess_given_offers_laws.proofs.PartsOfLookups.{of-list, of-literal, of-placed, of-item, of-view, within-has, argument-names}
use Rattle.ess_given_opened_laws.specs.OpenedStays.{OutsideAlong}
use Rattle.ess_given_opened_laws.proofs.SourcesGiven.{free}

module _ (u : Text → Bool) (c : Counts u) where
  -- The one alternative is given, if it is decided.
  abbrev pub OneHas : Option (List Alternative) → Type 0
  OneHas (Some (a ∷ [])) = are_decided a.gens ≡ true → PartsHave (given u) a.item × GensHave (given u) a.gens
  OneHas o = Unit {0}

  one-of-all : (o : Option (List Alternative)) → HaveSome (given u) o → OneHas o
  one-of-all None h = tt
  one-of-all (Some []) h = tt
  one-of-all (Some (a ∷ [])) h = λ q. h.0
  one-of-all (Some (a ∷ b ∷ l)) h = tt

  either-one : (o p : Option (List Alternative)) → OneHas o → OneHas p → OneHas (or_else o p)
  either-one None p h k = k
  either-one (Some l) p h k = h

  -- The lookup is given, if it is decided.
  abbrev LooksDecided : Option Ex → Type 0
  LooksDecided None = Unit {0}
  LooksDecided (Some v) = is_decided v ≡ true → GivenIn u v

  looks-of : (o : Option Ex) → Answers (given u) o → LooksDecided o
  looks-of None h = tt
  looks-of (Some v) h = λ q. h

  either-looks : (o p : Option Ex) → LooksDecided o → LooksDecided p → LooksDecided (or_else o p)
  either-looks None p h k = k
  either-looks (Some v) p h k = h

  as-one : (y : Text) → u y ≡ false → (o : Option Ex) → LooksDecided o → OneHas (option_map (as_alternative y) o)
  as-one y n None h = tt
  as-one y n (Some v) h = λ q. (refl, (free u y n v, h (and-left (is_decided v) true q), tt))

  -- ---- lookups over sources aren't decided

  of-party : (x : Text) (e : Ex) → LooksDecided (party_lookup x e)
  of-party x (node_ex b (word Fun.Party) (more_exs a (more_exs p no_exs))) = λ q. cc
  of-party x _ = tt

  -- What is decided is a comprehension, and so a matrix.
  no-other : {A : Type 0} (g : Names Ty) (f : Ex) (w : Ty) → type_of f g ≡ Some w → ((t : Ty) → compound2 a_matrix int_ty t ≡ w → A) →
      is_decided f ≡ true → A
  no-other {A = A} g (comp_ex e gs) w q k d = go (types_under gs g) q
    where
      at : (o : Option Ty) → option_map (compound2 a_matrix int_ty) o ≡ Some w → A
      at None q = cc
      at (Some z) q = k z cc

      go : (o : Option (Names Ty)) → and_then o (λ h. option_map (compound2 a_matrix int_ty) (type_of e h)) ≡ Some w → A
      go None q = cc
      go (Some h) q = at (type_of e h) q
  no-other g _ w q k d = cc

  pairs : (g : Names Ty) (x : Text) (f a : Ex) (t : Option Ty) → type_of f g ≡ t → LooksDecided (pairs_at t x f a)
  pairs g x f a (Some (compound2 a_function t v)) q =
      λ d. no-other g f (compound2 a_function t v) q (λ z e. cc) (and-left (is_decided f) _ d)
  pairs g x f a (Some any_ty) q = λ d. no-other g f any_ty q (λ z e. cc) (and-left (is_decided f) _ d)
  pairs g x f a _ q = tt

  of-function : (g : Names Ty) (x : Text) (e : Ex) → LooksDecided (function_lookup g x e)
  of-function g x (node_ex b application (more_exs f (more_exs a no_exs))) = pairs g x f a (type_of f g) refl
  of-function g x (node_ex b (word Fun.Image) (more_exs f (more_exs a no_exs))) = pairs g x f a (type_of f g) refl
  of-function g x _ = tt

  -- ---- a selection

  one-looks : (g : Names Ty) (x : Text) (zs : List Text) (e : Ex) → GivenIn u e → LooksDecided (one_lookup g x zs e)
  one-looks g x zs e h = let s = sees-given u c in let ns = names_of_argument zs e in
      either-looks (function_view_lookup x ns e) (or_else (view_item_lookup x e) (or_else (party_lookup x e) (function_lookup g x e)))
      (looks-of (function_view_lookup x ns e)
      (of-view (given u) u s x (refl, refl) ns (argument-names (given u) u s zs e (given-overs u zs)) e h))
      (either-looks (view_item_lookup x e) (or_else (party_lookup x e) (function_lookup g x e))
      (looks-of (view_item_lookup x e) (of-item (given u) u s x (refl, refl) e h))
      (either-looks (party_lookup x e) (function_lookup g x e) (of-party x e) (of-function g x e)))

  alone-has : (g : Names Ty) (x y : Text) (zs : List Text) (e : Ex) → u y ≡ false → GivenIn u e → OneHas (looked_up_alone g x y zs e)
  alone-has g x y zs e n h = let one = option_map (as_alternative y) (one_lookup g x zs e) in
      either-one (list_lookup e) (or_else (domain_list_lookup x e) (or_else (function_literal_lookup e) one))
      (one-of-all (list_lookup e) (of-list (given u) e h))
      (either-one (domain_list_lookup x e) (or_else (function_literal_lookup e) one)
      (one-of-all (domain_list_lookup x e) (of-placed (given u) u (sees-given u c) x (refl, refl) e h))
      (either-one (function_literal_lookup e) one (one-of-all (function_literal_lookup e) (of-literal (given u) e h))
      (as-one y n (one_lookup g x zs e) (one-looks g x zs e h))))

  -- Through the alternatives of what is picked within.
  through-one : (y : Text) → u y ≡ false → (e : Ex) → GivenIn u e → (l : List Alternative) → OneHas (Some l) →
      OneHas (lookup_through_each y 1 l e)
  through-one y n (node_ex b op es) h l k = go (is_plain op && is_some (nth es 1)) l k
    where
      go : (d : Bool) (l : List Alternative) → OneHas (Some l) →
          OneHas (if d then Some (each_through y l (node_ex b op (put_nth es 1 (name_ex y)))) else None)
      go true [] k = tt
      go true (a ∷ []) k = λ q. (
        nth-put (given u) es 1 (name_ex y) refl h,
        (free u y n (comp_ex a.item a.gens), k (and-left (are_decided a.gens) true q), tt),
      )
      go true (a ∷ d ∷ l) k = tt
      go false l k = tt
  through-one y n _ h l k = tt

  pub one-picked : (g : Names Ty) (x : Text) (zs : List Text) (e : Ex) → OutsideAlong u zs e → GivenIn u e → OneHas (looked_up g x zs e)
  one-picked g x [] e o h = tt
  one-picked g x (y ∷ zs) e o h = go (picked_within e) (within-has (given u) e h) o.1 (λ t j k. one-picked g x zs t j k)
    where
      behind : (l : Option (List Alternative)) → OneHas l → OneHas (and_then l (λ l. lookup_through_each y 1 l e))
      behind None k = tt
      behind (Some l) k = through-one y o.0 e h l k

      go : (p : Option Ex) → Answers (given u) p → OfSome p (OutsideAlong u zs) →
          ((t : Ex) → OutsideAlong u zs t → GivenIn u t → OneHas (looked_up g x zs t)) → OneHas (elim p [
            | None ↦ looked_up_alone g x y zs e
            | Some t ↦ and_then (looked_up g x zs t) (λ l. lookup_through_each y 1 l e)
          ])
      go None k j r = alone-has g x y zs e o.0 h
      go (Some t) k j r = behind (looked_up g x zs t) (r t j k)
