-- Operands of connectives have truth values in lean trees, wherever they are evaluated, and tables meet the structures of lean trees. So
-- the simplified tree means the same.
use Rattle.std.proofs.Common.{◌≡◌, ℕ, Bool, true, false, if◌then◌else◌, List, [], ◌∷◌, ℤ, Option, Some, None}
use Rattle.std.specs.Prelude.{is_some}
use Rattle.ess_semantics.specs.Values.{Text, Value, truth}
use Rattle.ess_semantics.specs.Order.{same_text}
use Rattle.ess_semantics.specs.Names.{Names, look}
use Rattle.ess_semantics.specs.Trees.{Op, binary, Ex, Exs, Gens}
use Rattle.ess_semantics.specs.Operators.{connective}
use Rattle.ess_semantics.specs.Tables.{Table}
use Rattle.ess_semantics.specs.Meaning.{Env, TypeEntry, meaning}
use Rattle.ess_semantics.specs.Contexts.{Each, EachOf, guards, Guarded}
use Rattle.ess_semantics.specs.Meets.{Meets, MeetsAll, MeetsGens}
use Rattle.ess_rules_laws.specs.Rules.{IsTruth}
use Rattle.ess_rules_laws.proofs.Simulation.{Vals, E}
use Rattle.ess_simplify_laws.specs.SimplerRoots.{AreTruths}
use Rattle.ess_simplify_laws.specs.TruthsThere.{HasTruths, HaveTruths, GensHaveTruths}
use Rattle.ess_flat_laws.specs.Flat.{denied, negative, absolute, both, either, implied, agreeing, equal, unequal, below, at_most, above, at_least, sum, difference, product}
use Rattle.ess_bare_laws.specs.Bare.{before, not_behind}
use Rattle.ess_bare_laws.specs.Lean.{Lean, a_number, a_truth, a_name, a_cell, by_one, by_two, by_power, by_truth, by_fold, by_items, by_greatest, by_order, Leans, last_lean, more_leans, Terms, no_terms, more_terms, Row, listed, alone, Ranging, behind_all, over_truths, over_numbers, under}

-- What holds of each value holds of those that are there.
each-value : (vs : List Value) (P : Value → Type 0) → ((v : Value) → P v) → Each vs P
each-value [] P f = tt
each-value (v ∷ vs) P f = (f v, each-value vs P f)

pub each-there : (o : Option (List Value)) (P : Value → Type 0) → ((v : Value) → P v) → EachOf o P
each-there None P f = tt
each-there (Some vs) P f = each-value vs P f

-- What holds holds also where a value is true.
guarded : (g : Bool) (o : Option Value) (P : Type 0) → P → Guarded g o P
guarded true o P h = λ e. h
guarded false o P h = h

module _ (cells : Text → Option (Bool × ℕ)) (ok : ℤ → Bool) (fine : Text → Bool) (plain : Bool) (pl : Bool) (ts : List TypeEntry)
    (cs : Names Table) where
  abbrev M : Vals → Env
  M g = E pl ts cs g

  abbrev L : Names Bool → Ex → Bool → Type 0
  L = Lean cells ok fine plain

  -- Names of truth values have truth values.
  abbrev pub Fit : Names Bool → Vals → Type 0
  Fit r g = (a : Text) → look r a ≡ Some true → IsTruth (look g a)

  fit-truth : (r : Names Bool) (g : Vals) (x : Text) (b : Bool) → Fit r g → Fit ((x, true) ∷ r) ((x, truth b) ∷ g)
  fit-truth r g x b h a q = go (same_text x a) q
    where
      go : (c : Bool) → (if c then Some true else look r a) ≡ Some true → IsTruth (if c then Some (truth b) else look g a)
      go true q = tt
      go false q = h a q

  fit-number : (r : Names Bool) (g : Vals) (x : Text) (v : Value) → Fit r g → Fit ((x, false) ∷ r) ((x, v) ∷ g)
  fit-number r g x v h a q = go (same_text x a) q
    where
      go : (c : Bool) → (if c then Some false else look r a) ≡ Some true → IsTruth (if c then Some v else look g a)
      go true q = cc
      go false q = h a q

  -- So a tree with the mark of truth values has one.
  pub lean-truth : {r : Names Bool} {e : Ex} → L r e true → (g : Vals) → Fit r g → IsTruth (meaning e (M g))
  lean-truth a_truth g h = tt
  lean-truth (a_name {a = a} q) g h = h a q
  lean-truth (a_cell q l) g h = tt
  lean-truth (by_one w f) g h = tt
  lean-truth (by_two w f k) g h = tt
  lean-truth (by_fold w s f) g h = tt
  lean-truth (by_items w l) g h = tt
  lean-truth (by_order w f k) g h = tt

  -- ---- operands of connectives

  -- What is asked of a node.
  abbrev Node : Op → Exs → Env → Type 0
  Node op es env = (is_some (connective op) ≡ true → AreTruths (guards op) es env) × HaveTruths (guards op) es env

  mutual
    pub lean-truths : {r : Names Bool} {e : Ex} {m : Bool} → L r e m → (g : Vals) → Fit r g → HasTruths e (M g)
    lean-truths (a_number q) g h = tt
    lean-truths a_truth g h = tt
    lean-truths (a_name q) g h = tt
    lean-truths (a_cell q l) g h = terms-truths l g h
    lean-truths (by_one denied f) g h = (λ q. (lean-truth f g h, tt), (lean-truths f g h, tt))
    lean-truths (by_one negative f) g h = (λ q. cc, (lean-truths f g h, tt))
    lean-truths (by_one absolute f) g h = (λ q. cc, (lean-truths f g h, tt))
    lean-truths (by_two both f k) g h =
        (λ q. (lean-truth f g h, λ t. (lean-truth k g h, tt)), (lean-truths f g h, λ t. (lean-truths k g h, tt)))
    lean-truths (by_two either f k) g h = (λ q. (lean-truth f g h, (lean-truth k g h, tt)), (lean-truths f g h, (lean-truths k g h, tt)))
    lean-truths (by_two implied f k) g h =
        (λ q. (lean-truth f g h, λ t. (lean-truth k g h, tt)), (lean-truths f g h, λ t. (lean-truths k g h, tt)))
    lean-truths (by_two agreeing f k) g h = (λ q. (lean-truth f g h, (lean-truth k g h, tt)), (lean-truths f g h, (lean-truths k g h, tt)))
    lean-truths (by_two equal f k) g h = (λ q. cc, (lean-truths f g h, (lean-truths k g h, tt)))
    lean-truths (by_two unequal f k) g h = (λ q. cc, (lean-truths f g h, (lean-truths k g h, tt)))
    lean-truths (by_two below f k) g h = (λ q. cc, (lean-truths f g h, (lean-truths k g h, tt)))
    lean-truths (by_two at_most f k) g h = (λ q. cc, (lean-truths f g h, (lean-truths k g h, tt)))
    lean-truths (by_two above f k) g h = (λ q. cc, (lean-truths f g h, (lean-truths k g h, tt)))
    lean-truths (by_two at_least f k) g h = (λ q. cc, (lean-truths f g h, (lean-truths k g h, tt)))
    lean-truths (by_two sum f k) g h = (λ q. cc, (lean-truths f g h, (lean-truths k g h, tt)))
    lean-truths (by_two difference f k) g h = (λ q. cc, (lean-truths f g h, (lean-truths k g h, tt)))
    lean-truths (by_two product f k) g h = (λ q. cc, (lean-truths f g h, (lean-truths k g h, tt)))
    lean-truths (by_power f k) g h = (λ q. cc, (lean-truths f g h, (lean-truths k g h, tt)))
    lean-truths (by_truth f) g h = (λ q. cc, (lean-truths f g h, tt))
    lean-truths (by_fold {e = e} w s f) g h =
        (λ q. cc, (ranging-truths s g h e (λ g' h'. lean-truths f g' h'), tt))
    lean-truths (by_items w l) g h = (λ q. cc, ((λ q. cc, leans-truths l g h), tt))
    lean-truths (by_greatest f k) g h = (λ q. cc, ((λ q. cc, (lean-truths f g h, (lean-truths k g h, tt))), tt))
    lean-truths (by_order before f k) g h = (λ q. cc, (row-truths f g h, (row-truths k g h, tt)))
    lean-truths (by_order not_behind f k) g h = (λ q. cc, (row-truths f g h, (row-truths k g h, tt)))

    leans-truths : {r : Names Bool} {es : Exs} {m : Bool} → Leans cells ok fine plain r es m → (g : Vals) → Fit r g →
        HaveTruths false es (M g)
    leans-truths (last_lean f) g h = (lean-truths f g h, tt)
    leans-truths (more_leans f l) g h = (lean-truths f g h, leans-truths l g h)

    terms-truths : {w : Bool} {r : Names Bool} {es : Exs} {k : ℕ} → Terms cells ok fine plain w r es k → (g : Vals) → Fit r g →
        HaveTruths false es (M g)
    terms-truths no_terms g h = tt
    terms-truths (more_terms w f l) g h = (lean-truths f g h, terms-truths l g h)

    row-truths : {r : Names Bool} {e : Ex} {m : Bool} → Row cells ok fine plain r e m → (g : Vals) → Fit r g → HasTruths e (M g)
    row-truths (listed {e = e} s f) g h = ranging-truths s g h e (λ g' h'. lean-truths f g' h')
    row-truths (alone f) g h = (λ q. cc, (lean-truths f g h, tt))

    ranging-truths : {r t : Names Bool} {gs : Gens} → Ranging cells ok fine plain r gs t → (g : Vals) → Fit r g → (e : Ex) →
        ((g' : Vals) → Fit t g' → HasTruths e (M g')) → GensHaveTruths gs (M g) (λ here. HasTruths e here)
    ranging-truths behind_all g h e f = f g h
    ranging-truths (over_truths {r = r} {a = a} c s) g h e f = (
      tt,
      (
        ranging-truths s ((a, truth false) ∷ g) (fit-truth r g a false h) e f,
        (ranging-truths s ((a, truth true) ∷ g) (fit-truth r g a true h) e f, tt),
      ),
    )
    ranging-truths (over_numbers {r = r} {a = a} {gs = gs} c b l s) g h e f = (
      terms-truths l g h,
      each-there _ (λ v. GensHaveTruths gs (M ((a, v) ∷ g)) (λ here. HasTruths e here))
          (λ v. ranging-truths s ((a, v) ∷ g) (fit-number r g a v h) e f),
    )
    ranging-truths (under k s) g h e f = (lean-truths k g h, λ t. ranging-truths s g h e f)

  -- ---- structures

  mutual
    pub lean-meets : {r : Names Bool} {e : Ex} {m : Bool} → L r e m → (g : Vals) → Meets e (M g)
    lean-meets (a_number q) g = tt
    lean-meets a_truth g = tt
    lean-meets (a_name q) g = tt
    lean-meets (a_cell q l) g = terms-meet l g
    lean-meets (by_one w f) g = (lean-meets f g, tt)
    lean-meets (by_two {o = o} {x = x} {y = y} w f k) g =
        (lean-meets f g, guarded (guards (binary o)) (meaning x (M g)) (Meets y (M g) × Unit {0}) (lean-meets k g, tt))
    lean-meets (by_power f k) g = (lean-meets f g, (lean-meets k g, tt))
    lean-meets (by_truth f) g = (lean-meets f g, tt)
    lean-meets (by_fold {e = e} w s f) g = (ranging-meets s g e (λ g'. lean-meets f g'), tt)
    lean-meets (by_items w l) g = (leans-meet l g, tt)
    lean-meets (by_greatest f k) g = ((lean-meets f g, (lean-meets k g, tt)), tt)
    lean-meets (by_order {o = o} {x = x} {y = y} w f k) g =
        (row-meets f g, guarded (guards (binary o)) (meaning x (M g)) (Meets y (M g) × Unit {0}) (row-meets k g, tt))

    leans-meet : {r : Names Bool} {es : Exs} {m : Bool} → Leans cells ok fine plain r es m → (g : Vals) → MeetsAll false es (M g)
    leans-meet (last_lean f) g = (lean-meets f g, tt)
    leans-meet (more_leans f l) g = (lean-meets f g, leans-meet l g)

    terms-meet : {w : Bool} {r : Names Bool} {es : Exs} {k : ℕ} → Terms cells ok fine plain w r es k → (g : Vals) → MeetsAll false es (M g)
    terms-meet no_terms g = tt
    terms-meet (more_terms w f l) g = (lean-meets f g, terms-meet l g)

    row-meets : {r : Names Bool} {e : Ex} {m : Bool} → Row cells ok fine plain r e m → (g : Vals) → Meets e (M g)
    row-meets (listed {e = e} s f) g = ranging-meets s g e (λ g'. lean-meets f g')
    row-meets (alone f) g = (lean-meets f g, tt)

    ranging-meets : {r t : Names Bool} {gs : Gens} → Ranging cells ok fine plain r gs t → (g : Vals) → (e : Ex) →
        ((g' : Vals) → Meets e (M g')) → MeetsGens gs (M g) (λ here. Meets e here)
    ranging-meets behind_all g e f = f g
    ranging-meets (over_truths {a = a} c s) g e f =
        (tt, (ranging-meets s ((a, truth false) ∷ g) e f, (ranging-meets s ((a, truth true) ∷ g) e f, tt)))
    ranging-meets (over_numbers {a = a} {gs = gs} c b l s) g e f = (
      terms-meet l g,
      each-there _ (λ v. MeetsGens gs (M ((a, v) ∷ g)) (λ here. Meets e here)) (λ v. ranging-meets s ((a, v) ∷ g) e f),
    )
    ranging-meets (under k s) g e f = (lean-meets k g, λ t. ranging-meets s g e f)
