-- A set whose names are told apart, with views shown in the place of names, is a set again, whether it stands behind `in` or elsewhere.
use Rattle.std.proofs.Common.{◌≡◌, refl, sym, subst, ℕ, ◌<◌, Bool, true, false, List, ℤ, Option, Some}
use Rattle.std.specs.Prelude.{IsTrue}
use Rattle.ess_semantics.specs.declared.words.Op2.{Op2}
use Rattle.ess_semantics.specs.Values.{Text}
use Rattle.ess_semantics.specs.Order.{same_text}
use Rattle.ess_semantics.specs.Names.{Names}
use Rattle.ess_semantics.specs.Trees.{Ex, name_ex, Gens, ex2}
use Rattle.ess_semantics.specs.Occurrences.{parts_of}
use Rattle.ess_flat_laws.specs.Flat.{TwoOp, both, either, implied, agreeing, equal, unequal, below, at_most, above, at_least, sum, difference, product}
use Rattle.conjure_model_laws.specs.ToldApart.{reserved, renamed, told, told_gens}
use Rattle.conjure_model_laws.specs.Shown.{Shows, in_place, shown, shown_gens}
use Rattle.ess_chain_names_laws.proofs.ToldNames.{ex-up}
use Rattle.ess_depth_laws.specs.Below.{is_below, HasNamesBelow}
use Rattle.ess_seen_laws.specs.Seen.{Kind, sets_of, Bound, Combines, united, shared, lessened, Compares, alike, apart, included, properly_included, including, properly_including}
use Rattle.ess_setwise_laws.specs.Setwise.{kind_at}
use Rattle.ess_setwise_laws.proofs.SetwiseTrees.{named, as_shown, SetTree, stands, combined, NoneShown, no_kind, ShownFor, ShowsAll}
use Rattle.ess_setwise_laws.proofs.ShownForms.{form-names}
use Rattle.ess_setwise_laws.proofs.NameKinds.{IsAt, Kept, later}
use Rattle.ess_setwise_laws.proofs.Spellings.{Spelled, Alike, two-alike, alone-alike, node-alike}

-- ---- trees over tables

module _ (sh : Shows) where
  -- The tree over tables.
  abbrev pub made : Ex → Names Text → ℕ → Ex
  made e u k = shown sh (told e u k).0

  -- The same of generators.
  abbrev pub made_gens : Gens → Names Text → ℕ → Gens
  made_gens gs u k = shown_gens sh (told_gens gs u k).0

  -- The same of the right operand of `in`, where the last view of a name stands for it.
  abbrev pub made_right : Ex → Names Text → ℕ → Ex
  made_right (name_ex a) u k = in_place sh.last (renamed u a)
  made_right e u k = made e u k

  -- Operators on scalars stay over tables.
  pub shown-two : {b m k : Bool} {o : Op2} (x y : Ex) → TwoOp b o m k → shown sh (ex2 b o x y) ≡ ex2 b o (shown sh x) (shown sh y)
  shown-two x y both = refl
  shown-two x y either = refl
  shown-two x y implied = refl
  shown-two x y agreeing = refl
  shown-two x y equal = refl
  shown-two x y unequal = refl
  shown-two x y below = refl
  shown-two x y at_most = refl
  shown-two x y above = refl
  shown-two x y at_least = refl
  shown-two x y sum = refl
  shown-two x y difference = refl
  shown-two x y product = refl

  -- Operators on sets stay over tables.
  pub shown-combined : {o : Op2} (x y : Ex) → Combines o → shown sh (ex2 false o x y) ≡ ex2 false o (shown sh x) (shown sh y)
  shown-combined x y united = refl
  shown-combined x y shared = refl
  shown-combined x y lessened = refl

  pub shown-compared : {o : Op2} (x y : Ex) → Compares o → shown sh (ex2 true o x y) ≡ ex2 true o (shown sh x) (shown sh y)
  shown-compared x y alike = refl
  shown-compared x y apart = refl
  shown-compared x y included = refl
  shown-compared x y properly_included = refl
  shown-compared x y including = refl
  shown-compared x y properly_including = refl

-- A membership in a set.
pub shown-in : (sh : Shows) (names : Text → Option Kind) {r : Names Bound} {s : Ex} {i : Kind} → SetTree names NoneShown r s i → (e : Ex)
    (u : Names Text) (k : ℕ) →
    made sh (ex2 true Op2.Member e s) u k ≡ ex2 true Op2.Member (made sh e u k) (made_right sh s u (told e u k).1)
shown-in sh names (stands (named h)) e u k = refl
shown-in sh names (stands (as_shown h)) e u k = absurd h
shown-in sh names (combined c g h) e u k = refl

-- ---- sets

module _ (sh : Shows) (names : Text → Option Kind) (cells : Text → Option (Bool × List ℕ)) where
  -- What is shown spells such numbers alone.
  abbrev pub SpellsShown : (ℤ → Bool) → Type 0
  SpellsShown q = (e : Ex) (k : Kind) → ShownFor sh names cells e k → Spelled q (parts_of e)

  -- The tree f spells no other numbers than e and what is shown.
  abbrev pub AlikeTrees : Ex → Ex → Type 0
  AlikeTrees e f = Alike SpellsShown (parts_of e) (parts_of f)

module _ (sh : Shows) (names : Text → Option Kind) (cells : Text → Option (Bool × List ℕ)) (w : ShowsAll sh names cells) (lim : ℕ)
    (differ : (i j : ℕ) → i < j → j < lim → same_text (reserved j) (reserved i) ≡ false) where
  abbrev K : Names Bound → Names Bound → Names Text → ℕ → Type 0
  K = Kept sh names cells w lim differ

  abbrev N : (ℤ → Bool) → Type 0
  N = SpellsShown sh names cells

  abbrev At : Names Bound → Ex → Kind → Type 0
  At = IsAt sh names cells w lim differ

  -- What is shown of a name spells nothing else.
  pub at-alike : (t : Names Bound) (a : Text) (e : Ex) (i : Kind) → At t e i → AlikeTrees sh names cells (name_ex a) e
  at-alike t a e i (named {a = b} h) = record { spells = λ q c x. x }
  at-alike t a e i (as_shown h) = record { spells = λ q c x. c e i h }

  -- Its names are reserved ones below the last.
  pub at-names : (t : Names Bound) (e : Ex) (i : Kind) →
      ((b : Text) (i : Kind) → kind_at no_kind t b ≡ Some i → IsTrue (is_below lim b)) → At t e i → HasNamesBelow lim e
  at-names t e i f (named {a = b} h) = f b i h
  at-names t e i f (as_shown h) = form-names cells (is_below lim) (is_below lim) h.form

  -- The set f, made so of e.
  pub record MadeSet (t : Names Bound) (e f : Ex) (i : Kind) : Type 0 where
    pub tree : SetTree no_kind (ShownFor sh names cells) t f i
    pub alike : AlikeTrees sh names cells e f
    pub uses : HasNamesBelow lim f

  place-made : (t : Names Bound) (a : Text) (f : Ex) (i : Kind) →
      ((b : Text) (i : Kind) → kind_at no_kind t b ≡ Some i → IsTrue (is_below lim b)) → At t f (sets_of i) → MadeSet t (name_ex a) f i
  place-made t a f i g z =
      record { tree = stands z; alike = at-alike t a f (sets_of i) z; uses = at-names t f (sets_of i) g z }

  combined-made : {o : Op2} (t : Names Bound) (e f e' f' : Ex) (i : Kind) → Combines o → MadeSet t e e' i → MadeSet t f f' i →
      MadeSet t (ex2 false o e f) (ex2 false o e' f') i
  combined-made t e f e' f' i c p z = record {
    tree = combined c p.tree z.tree;
    alike = node-alike N (two-alike N p.alike (alone-alike N z.alike));
    uses = (p.uses, (z.uses, tt));
  }

  -- A set so made is one.
  pub told-set : {r : Names Bound} {e : Ex} {i : Kind} → SetTree names NoneShown r e i → (t : Names Bound) (u : Names Text) (k : ℕ) →
      K r t u k → MadeSet t e (made sh e u k) i
  told-set {i = i} (stands (named {a = a} h)) t u k x =
      place-made t a (in_place sh.first (renamed u a)) i x.used (x.firsts a (sets_of i) h)
  told-set (stands (as_shown h)) t u k x = absurd h
  told-set {r} {i = i} (combined {o = o} {s = e} {t = f} c g h) t u k x =
      let q = (told e u k).1 in
      subst (λ v. MadeSet t (ex2 false o e f) v i) (sym (shown-combined sh (told e u k).0 (told f u q).0 c))
      (combined-made t e f (made sh e u k) (made sh f u q) i c (told-set g t u k x)
      (told-set h t u q (later sh names cells w lim differ r t u k q (ex-up e u k) x)))

  -- So it is behind `in`.
  pub told-right : {r : Names Bound} {e : Ex} {i : Kind} → SetTree names NoneShown r e i → (t : Names Bound) (u : Names Text) (k : ℕ) →
      K r t u k → MadeSet t e (made_right sh e u k) i
  told-right {i = i} (stands (named {a = a} h)) t u k x =
      place-made t a (in_place sh.last (renamed u a)) i x.used (x.lasts a i h)
  told-right (stands (as_shown h)) t u k x = absurd h
  told-right (combined c g h) t u k x = told-set (combined c g h) t u k x
