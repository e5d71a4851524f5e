-- Where all chosen representations are given as options, the same are chosen.
use Rattle.std.proofs.Common.{◌≡◌, refl, ap, ◌∙◌, Bool, true, false, ◌&&◌, ◌||◌, not, if◌then◌else◌, List, [], ◌∷◌, ◌++◌, map, Some}
use Rattle.ess_semantics.specs.Lists.{append_all, or_default}
use Rattle.ess_semantics.specs.Values.{Text}
use Rattle.ess_semantics.specs.Order.{same_text}
use Rattle.ess_semantics.specs.Names.{Names, look, keys, is_among, all_distinct, without}
use Rattle.ess_semantics.specs.Trees.{Dom, Stm, given, given_enum, let_ex, let_dom, let_enum, let_unnamed, needs, find, such_that, minimise, maximise}
use Rattle.ess_semantics.specs.Choice.{default_repr}
use Rattle.ess_semantics.specs.Plans.{Options, Plan, chosen_reprs, domain_of_stm, plans_of_name, plans_of_stm, names_of_plans, plans_from, givens_side, finds_side}
use Rattle.ess_semantics.proofs.Texts.{same_text-itself, same_text-either}

-- These options choose for each of the names what the others do.
abbrev pub Alike : Options → Options → Names Dom → Type 0
Alike o p [] = Unit {0}
Alike o p (x ∷ xs) = (chosen_reprs o x.0 x.1 ≡ chosen_reprs p x.0 x.1) × Alike o p xs

-- The representations of all names.
abbrev pub all_of : Options → Names Dom → Options
all_of o xs = map (λ x. (x.0, chosen_reprs o x.0 x.1)) xs

-- ---- looking them up

look-first : (o : Options) (x : Text) (d : Dom) (xs : Names Dom) → look (all_of o ((x, d) ∷ xs)) x ≡ Some (chosen_reprs o x d)
look-first o x d xs = ap (λ b. if b then Some (chosen_reprs o x d) else look (all_of o xs) x) (same_text-itself x)

look-later : (o : Options) (y : Text) (e : Dom) (xs : Names Dom) (x : Text) → same_text y x ≡ false →
    look (all_of o ((y, e) ∷ xs)) x ≡ look (all_of o xs) x
look-later o y e xs x h = ap (λ b. if b then Some (chosen_reprs o y e) else look (all_of o xs) x) h

or-left : (a b : Bool) → (a || b) ≡ false → a ≡ false
or-left true b h = cc
or-left false b h = refl

or-right : (a b : Bool) → (a || b) ≡ false → b ≡ false
or-right true b h = cc
or-right false b h = h

-- Options before which stands one for another name.
later-alike : (o : Options) (y : Text) (e : Dom) (ys xs : Names Dom) → is_among (keys xs) y ≡ false → Alike (all_of o ys) o xs →
    Alike (all_of o ((y, e) ∷ ys)) o xs
later-alike o y e ys [] h a = tt
later-alike o y e ys (x ∷ xs) h a = (
  ap (λ r. or_default r (default_repr x.1 ∷ []))
      (look-later o y e ys x.0 (same_text-either y x.0 ∙ or-left (same_text x.0 y) (is_among (keys xs) y) h)) ∙ a.0,
  later-alike o y e ys xs (or-right (same_text x.0 y) (is_among (keys xs) y) h) a.1,
)

not-first : (a b : Bool) → (not a && b) ≡ true → a ≡ false
not-first true b h = cc
not-first false b h = refl

not-rest : (a b : Bool) → (not a && b) ≡ true → b ≡ true
not-rest true b h = cc
not-rest false b h = h

-- Where the names are distinct, all representations choose themselves.
pub all-alike : (o : Options) (xs : Names Dom) → all_distinct (keys xs) ≡ true → Alike (all_of o xs) o xs
all-alike o [] h = tt
all-alike o (x ∷ xs) h = (
  ap (λ r. or_default r (default_repr x.1 ∷ [])) (look-first o x.0 x.1 xs),
  later-alike o x.0 x.1 xs xs (not-first (is_among (keys xs) x.0) (all_distinct (keys xs)) h)
      (all-alike o xs (not-rest (is_among (keys xs) x.0) (all_distinct (keys xs)) h)),
)

-- ---- plans

plans-after : (ps qs : List Plan) (ss : List Stm) (o p : Options) (declared done : List Text) → ps ≡ qs →
    ((taken : List Text) → plans_from ss o declared taken ≡ plans_from ss p declared taken) →
    ps ++ plans_from ss o declared (keys (names_of_plans ps) ++ done) ≡ qs ++ plans_from ss p declared (keys (names_of_plans qs) ++ done)
plans-after ps qs ss o p declared done e f =
    ap (λ rs. rs ++ plans_from ss o declared (keys (names_of_plans rs) ++ done)) e
    ∙ ap (λ rs. qs ++ rs) (f (keys (names_of_plans qs) ++ done))

-- Options that choose alike give the same plans.
pub plans-alike : (ss : List Stm) (o p : Options) (declared done : List Text) → Alike o p (append_all (map domain_of_stm ss)) →
    plans_from ss o declared done ≡ plans_from ss p declared done
plans-alike [] o p declared done a = refl
plans-alike (given x d ∷ ss) o p declared done a =
    plans-after (plans_of_stm (given x d) o declared done) (plans_of_stm (given x d) p declared done) ss o p declared done
    (ap (λ rs. plans_of_name givens_side x d rs (without x declared ++ done)) a.0) (λ t. plans-alike ss o p declared t a.1)
plans-alike (given_enum b ∷ ss) o p declared done a =
    plans-after (plans_of_stm (given_enum b) o declared done) (plans_of_stm (given_enum b) p declared done) ss o p declared done refl
    (λ t. plans-alike ss o p declared t a)
plans-alike (let_ex x e ∷ ss) o p declared done a = plans-alike ss o p declared done a
plans-alike (let_dom x d ∷ ss) o p declared done a = plans-alike ss o p declared done a
plans-alike (let_enum b ns ∷ ss) o p declared done a = plans-alike ss o p declared done a
plans-alike (let_unnamed b e ∷ ss) o p declared done a = plans-alike ss o p declared done a
plans-alike (needs e ∷ ss) o p declared done a = plans-alike ss o p declared done a
plans-alike (find x d ∷ ss) o p declared done a =
    plans-after (plans_of_stm (find x d) o declared done) (plans_of_stm (find x d) p declared done) ss o p declared done
    (ap (λ rs. plans_of_name finds_side x d rs (without x declared ++ done)) a.0) (λ t. plans-alike ss o p declared t a.1)
plans-alike (such_that e ∷ ss) o p declared done a = plans-alike ss o p declared done a
plans-alike (minimise e ∷ ss) o p declared done a = plans-alike ss o p declared done a
plans-alike (maximise e ∷ ss) o p declared done a = plans-alike ss o p declared done a
