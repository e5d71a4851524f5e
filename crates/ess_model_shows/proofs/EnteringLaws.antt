-- What is entered is what the definitions have, as far as it is looked up.
use Rattle.std.proofs.Common.{◌≡◌, refl, ap, ◌∙◌, ℕ, ◌-◌, ◌<◌, List, [], ◌∷◌, ◌++◌, length, map, get_or, pos, arith}
use Rattle.ess_semantics.specs.Values.{Text}
use Rattle.ess_semantics.specs.Names.{Names, look}
use Rattle.ess_semantics.specs.Trees.{Ex, number_ex, Dom}
use Rattle.ess_core_nodes.specs.declared.nodes.Node.{Node}
use Rattle.ess_core_nodes.specs.NodeViews.{pure_node}
use Rattle.conjure_model_laws.specs.ToldApart.{told, told_dom}
use Rattle.conjure_model_laws.specs.Shown.{Shows, shown, positions_from, last_of, with_views, with_size}
use Rattle.ess_model_shown.specs.Tables.{SameNames, SameShows}
use Rattle.ess_model_shows.specs.Entered.{domain_over, with_domain, with_number, with_values}

-- A name with what equals what stands for it.
named : {A : Type 0} (ms ns : Names A) (x : Text) (c d : A) → SameNames ms ((x, c) ∷ ns) → c ≡ d → SameNames ms ((x, d) ∷ ns)
named ms ns x c d h e a = h a ∙ ap (λ c. look ((x, c) ∷ ns) a) e

-- A domain.
pub domain_entered : (sh : Shows) (x : Text) (d c : Dom) (k : ℕ) (ds : Names Dom) → c ≡ domain_over d sh
    → k ≡ (told_dom d [] sh.next).1 → SameNames ds ((x, c) ∷ sh.doms) → SameShows (record sh { doms = ds; next = k }) (with_domain x d sh)
domain_entered sh x d c k ds e n h = record {
  first = λ a. refl;
  last = λ a. refl;
  sizes = λ a. refl;
  doms = named ds sh.doms x c (domain_over d sh) h e;
  next = n;
}

-- A size.
pub size_entered : (sh : Shows) (t : Text) (e c : Ex) (k : ℕ) (ss : Names Ex) → c ≡ shown sh (told e [] sh.next).0
    → k ≡ (told e [] sh.next).1 → SameNames ss ((t, c) ∷ sh.sizes) → SameShows (record sh { sizes = ss; next = k }) (with_size t e sh)
size_entered sh t e c k ss p n h = record {
  first = λ a. refl;
  last = λ a. refl;
  sizes = named ss sh.sizes t c (shown sh (told e [] sh.next).0) h p;
  doms = λ a. refl;
  next = n;
}

-- A number of values.
pub number_entered : (sh : Shows) (t : Text) (e : Ex) (ss : Names Ex) → SameNames ss ((t, e) ∷ sh.sizes)
    → SameShows (record sh { sizes = ss }) (with_number t e sh)
number_entered sh t e ss h = record {
  first = λ a. refl;
  last = λ a. refl;
  sizes = h;
  doms = λ a. refl;
  next = refl;
}

-- Values with their positions.
pub values_entered : (sh : Shows) (t : Text) (ns : List Text) (fs ls ss : Names Ex) (e : Ex)
    → SameNames fs (positions_from 1 ns ++ sh.first) → SameNames ls (positions_from 1 ns ++ sh.last)
    → e ≡ number_ex (pos (length ns)) → SameNames ss ((t, e) ∷ sh.sizes)
    → SameShows (record sh { first = fs; last = ls; sizes = ss }) (with_values t ns sh)
values_entered sh t ns fs ls ss e f l p h = record {
  first = f;
  last = l;
  sizes = named ss sh.sizes t e (number_ex (pos (length ns))) h p;
  doms = λ a. refl;
  next = refl;
}

-- ---- views

-- No views.
pub no_views : (sh : Shows) (x : Text) (vs : List Node) → length vs ≡ 0 → SameShows sh (with_views x (map pure_node vs) sh)
no_views sh x [] h = record {
  first = λ a. refl;
  last = λ a. refl;
  sizes = λ a. refl;
  doms = λ a. refl;
  next = refl;
}
no_views sh x (v ∷ vs) h = cc

-- The last of nodes.
last_is : (v : Node) (vs : List Node) (w : Node) → w ≡ get_or (v ∷ vs) (length vs) w → pure_node w ≡ last_of (pure_node v) (map pure_node vs)
last_is v [] w e = ap pure_node e
last_is v (u ∷ us) w e = last_is u us w e

-- A first and a last view, as copies.
pub views_entered : (sh : Shows) (x : Text) (vs : List Node) (v w y z : Node) (fs ls : Names Ex) → 0 < length vs → v ≡ get_or vs 0 v
    → w ≡ get_or vs (length vs - 1) w → y ≡ v → z ≡ w
    → SameNames fs ((x, pure_node y) ∷ sh.first) → SameNames ls ((x, pure_node z) ∷ sh.last)
    → SameShows (record sh { first = fs; last = ls }) (with_views x (map pure_node vs) sh)
views_entered sh x [] v w y z fs ls lt e h p q f l = absurd (omega (arith, lt))
views_entered sh x (u ∷ us) v w y z fs ls lt e h p q f l =
    let i : length (u ∷ us) - 1 ≡ length us = omega arith in
    record {
      first = named fs sh.first x (pure_node y) (pure_node u) f (ap pure_node (p ∙ e));
      last = named ls sh.last x (pure_node z) (last_of (pure_node u) (map pure_node us)) l
          (ap pure_node q ∙ last_is u us w (h ∙ ap (λ k. get_or (u ∷ us) k w) i));
      sizes = λ a. refl;
      doms = λ a. refl;
      next = refl;
    }
