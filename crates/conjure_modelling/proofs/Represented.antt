-- Each name that a list gives has a representation, and so has each given and find with what is chosen for it.
use Rattle.std.proofs.Common.{◌≡◌, refl, ap, ◌∙◌, Bool, true, false, List, [], ◌∷◌, ◌++◌, if◌then◌else◌, ◌==◌}
use Rattle.std.proofs.Common.{ℕ, Option, Some, None}
use Rattle.ess_semantics.specs.Lists.{or_default}
use Rattle.ess_semantics.specs.Values.{Text}
use Rattle.ess_semantics.specs.Order.{same_text}
use Rattle.ess_semantics.specs.Names.{Names, look}
use Rattle.ess_semantics.specs.Trees.{Repr, Dom}
use Rattle.ess_semantics.specs.Plans.{Options, chosen_reprs}
use Rattle.ess_semantics.proofs.Tests.{and-left, and-right, and-both}
use Rattle.conjure_laws.specs.SideBySide.{Along}
use Rattle.conjure_options.specs.Pieces.{onto_first, pieces}
use Rattle.conjure_options.specs.Items.{AreItems}
use Rattle.conjure_options.specs.Chosen.{chosen_for}
use Rattle.conjure_modelling.specs.Modelled.{AreOptionsOf}
use Rattle.conjure_modelling.specs.Represented.{is_one_there, have_reprs}

-- ---- what a list gives

-- A text has a piece.
first-piece : (c b : ℕ) (ps : List Text) (test : Bool) → (if test then [] ∷ ps else onto_first b ps) ≡ [] → ⊥
first-piece c b ps true e = cc
first-piece c b [] false e = cc
first-piece c b (p ∷ ps) false e = cc

piece-there : (c : ℕ) (text : Text) → pieces c text ≡ [] → ⊥
piece-there c [] e = cc
piece-there c (b ∷ text) e = first-piece c b (pieces c text) (b == c) e

-- Beside an item stands one.
beside : {A : Type 0} (xs : List A) (rs : List Repr) (R : A → Repr → Type 0) → (xs ≡ [] → ⊥) → Along xs rs R → is_one_there rs ≡ true
beside [] rs R n a = absurd (n refl)
beside (x ∷ xs) [] R n a = absurd a
beside (x ∷ xs) (r ∷ rs) R n a = refl

items-have : (ds : Names Dom) (done : List Text) (is : List Text) (o : Options) → AreItems ds done is o → have_reprs o ≡ true
items-have ds done [] [] h = refl
items-have ds done [] (b ∷ bs) h = absurd h
items-have ds done (i ∷ is) [] h = absurd h
items-have ds done (i ∷ is) (b ∷ bs) h =
    and-both (is_one_there b.1) (have_reprs bs) (beside (pieces 43 h.0.behind) b.1 _ (piece-there 43 h.0.behind) h.0.trees)
    (items-have ds (done ++ b.0 ∷ []) is bs h.1)

options-have : (ds : Names Dom) (list : Option Text) (o : Options) → AreOptionsOf ds list o → have_reprs o ≡ true
options-have ds None o h = ap have_reprs h
options-have ds (Some list) o h = items-have ds [] (pieces 47 list) o h

-- ---- what is chosen

found-have : (b : Bool) (rs : List Repr) (found : Option (List Repr)) (default : Repr) → is_one_there rs ≡ true →
    is_one_there (or_default found (default ∷ [])) ≡ true → is_one_there (or_default (if b then Some rs else found) (default ∷ [])) ≡ true
found-have true rs found default h k = h
found-have false rs found default h k = k

look-have : (o : Options) (x : Text) (default : Repr) → have_reprs o ≡ true → is_one_there (or_default (look o x) (default ∷ [])) ≡ true
look-have [] x default h = refl
look-have (b ∷ o) x default h =
    found-have (same_text b.0 x) b.1 (look o x) default (and-left (is_one_there b.1) (have_reprs o) h)
    (look-have o x default (and-right (is_one_there b.1) (have_reprs o) h))

chosen-have : (o : Options) (ds : Names Dom) → have_reprs o ≡ true → have_reprs (chosen_for o ds) ≡ true
chosen-have o [] h = refl
chosen-have o (d ∷ ds) h = and-both (is_one_there (chosen_reprs o d.0 d.1)) (have_reprs (chosen_for o ds)) (look-have o d.0 _ h) (chosen-have o ds h)

-- All givens and finds have one.
pub all_have : (ds : Names Dom) (list : Option Text) (o rs : Options) → AreOptionsOf ds list o → rs ≡ chosen_for o ds → have_reprs rs ≡ true
all_have ds list o rs h e = ap have_reprs e ∙ chosen-have o ds (options-have ds list o h)
