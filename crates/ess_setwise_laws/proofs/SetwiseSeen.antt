-- A constraint of the class over tables is a tree over views, and in scope; and no bound name hides another one.
use Rattle.std.proofs.Common.{◌≡◌, refl, ap, ◌∙◌, ℕ, Bool, true, false, ◌||◌, not, if◌then◌else◌, List, [], ◌∷◌, Option, Some, None}
use Rattle.std.specs.Prelude.{IsTrue, is_some}
use Rattle.ess_semantics.specs.Values.{Text}
use Rattle.ess_semantics.specs.Order.{same_text}
use Rattle.ess_semantics.specs.Names.{Names, look}
use Rattle.ess_semantics.specs.Trees.{name_pat, Ex, Gens}
use Rattle.ess_semantics.specs.Scoped.{with_names, Scoped, ScopedGens}
use Rattle.ess_seen_laws.specs.Seen as S
use Rattle.ess_seen_laws.specs.Seen.{Kind, scalars, sets_of, Bound, over_a_range, over_slots, from_a_set, bound_kind}
use Rattle.ess_setwise_laws.proofs.SetwiseTrees.{Stands, named, as_shown, SetTree, stands, combined, Setwise, number, truth, scalar, one, two, chosen, folded, size, within, set_within, compared, Binding, at_end, over_truths, over_numbers, among, where_holds, no_kind, Form, a_cell, a_view}
use Rattle.ess_setwise_laws.proofs.ShownForms.{form-scoped}
use Rattle.ess_setwise_laws.proofs.NameKinds.{bound_at}

-- ---- bound names

-- What a name is bound over, by its kind.
pub record BoundOver (r : Names Bound) (a : Text) (k : Kind) : Type 0 where
  pub bound : Bound
  pub found : look r a ≡ Some bound
  pub kind : bound_kind bound ≡ k

looked : (r : Names Bound) (a : Text) (k : Kind) → bound_at r a ≡ Some k → BoundOver r a k
looked [] a k h = cc
looked (b ∷ r) a k h = go (same_text b.0 a) refl h (looked r a k)
  where
    go : (c : Bool) → same_text b.0 a ≡ c → (if c then Some (bound_kind b.1) else bound_at r a) ≡ Some k →
        (bound_at r a ≡ Some k → BoundOver r a k) → BoundOver (b ∷ r) a k
    go true q h f = record { bound = b.1; found = ap (λ c. if c then Some b.1 else look r a) q; kind = cc }
    go false q h f =
        let z = f h in
        record { bound = z.bound; found = ap (λ c. if c then Some b.1 else look r a) q ∙ z.found; kind = z.kind }

-- What has members of a set as values, which are sets, is bound over one.
from-a-set : (b : Bound) (k : Kind) → bound_kind b ≡ sets_of k → b ≡ from_a_set (sets_of k)
from-a-set (over_a_range m) k q = cc
from-a-set (over_slots n) k q = cc
from-a-set (from_a_set j) k q = ap from_a_set q

-- ---- trees

module _ (Shown : Ex → Kind → Type 0) (cells : Text → Option (Bool × List ℕ))
    (form : (e : Ex) (k : Kind) → Shown e k → Form cells e k) where
  abbrev C : Names Bound → Ex → Bool → Type 0
  C = Setwise no_kind Shown

  form-scalar : {r : Names Bound} {e : Ex} {m : Bool} → Form cells e (scalars m) → S.Seen cells r e m
  form-scalar (a_cell {m = true} q) = S.flag q S.no_index
  form-scalar (a_cell {m = false} q) = S.figure q S.no_place

  form-set : {r : Names Bound} {e : Ex} {k : Kind} → Form cells e (sets_of k) → S.SetTerm cells r e k
  form-set (a_view n f k) = S.view n f k S.no_place

  scalar-seen : {r : Names Bound} {e : Ex} {m : Bool} → Stands no_kind Shown r e (scalars m) → S.Seen cells r e m
  scalar-seen {r} {e} {m} (named {a = a} h) = let z = looked r a (scalars m) h in S.named z.found z.kind
  scalar-seen {r} {e} {m} (as_shown h) = form-scalar (form e (scalars m) h)

  place-seen : {r : Names Bound} {e : Ex} {k : Kind} → Stands no_kind Shown r e (sets_of k) → S.SetTerm cells r e k
  place-seen {r} {e} {k} (named {a = a} h) =
      let z = looked r a (sets_of k) h in S.drawn (z.found ∙ ap Some (from-a-set z.bound k z.kind))
  place-seen {r} {e} {k} (as_shown h) = form-set (form e (sets_of k) h)

  -- A set is one over views.
  set-seen : {r : Names Bound} {e : Ex} {k : Kind} → SetTree no_kind Shown r e k → S.SetTerm cells r e k
  set-seen (stands h) = place-seen h
  set-seen (combined c f h) = S.combined c (set-seen f) (set-seen h)

  mutual
    -- It is a tree over views.
    pub setwise-seen : {r : Names Bound} {e : Ex} {m : Bool} → C r e m → S.Seen cells r e m
    setwise-seen number = S.number
    setwise-seen truth = S.truth
    setwise-seen (scalar h) = scalar-seen h
    setwise-seen (one s f) = S.one s (setwise-seen f)
    setwise-seen (two s f g) = S.two s (setwise-seen f) (setwise-seen g)
    setwise-seen (chosen f) = S.chosen (setwise-seen f)
    setwise-seen (folded w g f) = S.folded w (setwise-going g) (setwise-seen f)
    setwise-seen (size h) = S.size (set-seen h)
    setwise-seen (within f h) = S.within (setwise-seen f) (set-seen h)
    setwise-seen (set_within f h) = S.set_within (set-seen f) (set-seen h)
    setwise-seen (compared c f h) = S.compared c (set-seen f) (set-seen h)

    setwise-going : {r t : Names Bound} {gs : Gens} → Binding no_kind Shown r gs t → S.Going cells r gs t
    setwise-going at_end = S.at_end
    setwise-going (over_truths n g) = S.through S.truths (setwise-going g)
    setwise-going (over_numbers n x y g) = S.through (S.numbers (setwise-seen x) (setwise-seen y)) (setwise-going g)
    setwise-going (among n h g) = S.among (set-seen h) (setwise-going g)
    setwise-going (where_holds h g) = S.where_holds (setwise-seen h) (setwise-going g)

  -- ---- scopes

  -- These names are those that are bound.
  abbrev pub Names_are : Names Bound → (Text → Bool) → Type 0
  Names_are r s = (a : Text) → s a ≡ is_some (bound_at r a)

  new-is : (r : Names Bound) (s : Text → Bool) (a : Text) → Names_are r s → bound_at r a ≡ None → IsTrue (not (s a))
  new-is r s a n h = ap not (n a ∙ ap is_some h)

  more-are : (r : Names Bound) (s : Text → Bool) (a : Text) (x : Bound) → Names_are r s →
      Names_are ((a, x) ∷ r) (with_names s (name_pat a))
  more-are r s a x n c = go (same_text a c) (s c) (bound_at r c) (n c)
    where
      go : (b d : Bool) (o : Option Kind) → d ≡ is_some o → (d || b) ≡ is_some (if b then Some (bound_kind x) else o)
      go true true o q = refl
      go true false o q = refl
      go false true o q = q
      go false false o q = q

  at-scoped : {r : Names Bound} {e : Ex} {k : Kind} → Stands no_kind Shown r e k → (z s o : Text → Bool) → Names_are r s → Scoped z s o e
  at-scoped (named {a = a} h) z s o n = n a ∙ ap is_some h
  at-scoped (as_shown {e = e} {k = k} h) z s o n = form-scoped cells z s o (form e k h)

  set-scoped : {r : Names Bound} {e : Ex} {k : Kind} → SetTree no_kind Shown r e k → (z s o : Text → Bool) → Names_are r s → Scoped z s o e
  set-scoped (stands h) z s o n = at-scoped h z s o n
  set-scoped (combined c f h) z s o n = (set-scoped f z s o n, (set-scoped h z s o n, tt))

  mutual
    -- It is in scope.
    pub setwise-scoped : {r : Names Bound} {e : Ex} {m : Bool} → C r e m → (z s o : Text → Bool) → Names_are r s → Scoped z s o e
    setwise-scoped number z s o n = tt
    setwise-scoped truth z s o n = tt
    setwise-scoped (scalar h) z s o n = at-scoped h z s o n
    setwise-scoped (one w f) z s o n = (setwise-scoped f z s o n, tt)
    setwise-scoped (two w f g) z s o n = (setwise-scoped f z s o n, (setwise-scoped g z s o n, tt))
    setwise-scoped (chosen f) z s o n = (setwise-scoped f z s o n, tt)
    setwise-scoped (folded {e = e} w g f) z s o n = (binding-scoped g e z s o n (λ t p k. setwise-scoped f z t p k), tt)
    setwise-scoped (size h) z s o n = (set-scoped h z s o n, tt)
    setwise-scoped (within f h) z s o n = (setwise-scoped f z s o n, (set-scoped h z s o n, tt))
    setwise-scoped (set_within f h) z s o n = (set-scoped f z s o n, (set-scoped h z s o n, tt))
    setwise-scoped (compared c f h) z s o n = (set-scoped f z s o n, (set-scoped h z s o n, tt))

    binding-scoped : {r t : Names Bound} {gs : Gens} → Binding no_kind Shown r gs t → (e : Ex) → (z s o : Text → Bool) →
        Names_are r s → ((s' o' : Text → Bool) → Names_are t s' → Scoped z s' o' e) → ScopedGens z s o gs (λ s' o'. Scoped z s' o' e)
    binding-scoped at_end e z s o n k = k s o n
    binding-scoped (over_truths {r = r} {a = a} w g) e z s o n k = (
      new-is r s a n w,
      tt,
      binding-scoped g e z (with_names s (name_pat a)) (with_names o (name_pat a)) (more-are r s a (over_a_range true) n) k,
    )
    binding-scoped (over_numbers {r = r} {a = a} w x y g) e z s o n k = (
      new-is r s a n w,
      (setwise-scoped x z s o n, (setwise-scoped y z s o n, tt)),
      binding-scoped g e z (with_names s (name_pat a)) (with_names o (name_pat a)) (more-are r s a (over_a_range false) n) k,
    )
    binding-scoped (among {r = r} {k = i} {a = a} w h g) e z s o n k = (
      new-is r s a n w,
      set-scoped h z s o n,
      binding-scoped g e z (with_names s (name_pat a)) o (more-are r s a (from_a_set i) n) k,
    )
    binding-scoped (where_holds h g) e z s o n k = (setwise-scoped h z s o n, binding-scoped g e z s o n k)
