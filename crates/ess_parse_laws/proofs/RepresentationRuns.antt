-- The machine of representations reads what the rules derive, answers what they derive, and stops for good.
use Rattle.std.proofs.Common.{◌≡◌, refl, sym, ap, ◌∙◌, subst, Bool, true, false, List, [], ◌∷◌, ◌++◌, Option, Some, None}
use Rattle.ess_semantics.specs.declared.words.ReprKind.{ReprKind}
use Rattle.ess_semantics.specs.Values.{Text}
use Rattle.ess_semantics.specs.Trees.{Repr, Reprs, repr, no_reprs, more_reprs}
use Rattle.ess_grammar.specs.Words.{Token, name, symbol, open_square, close_square, comma}
use Rattle.ess_grammar.specs.Representations.{kind_of, Representation, Representations, IsRepresentation, childless, with_children, last_representation, next_representation}
use Rattle.ess_parse_laws.specs.RepresentationMachine.{ReprFrame, children_frame, ReprMode, kind_wanted, kind_read, repr_read, ReprState, at_repr_state, reverse_reprs, repr_then, step_kind_wanted, step_kind_read, repr_step, repr_finish, then_repr_run, repr_run, then_repr_state_after, repr_state_after, read_representation}

-- Whether an opening square bracket comes first.
abbrev starts_square : List Token → Bool
starts_square (symbol open_square ∷ ts) = true
starts_square _ = false

kind-run : (a : Text) (k : ReprKind) (ts : List Token) (fs : List ReprFrame) → kind_of a ≡ Some k → repr_run (name a ∷ ts) kind_wanted fs ≡ repr_run ts (kind_read k) fs
kind-run a k ts fs h = ap (λ o. then_repr_run (elim o [ Some k ↦ at_repr_state (kind_read k) fs | None ↦ None ]) (repr_run ts)) h

kind-ends : (us : List Token) (k : ReprKind) (fs : List ReprFrame) → starts_square us ≡ false → repr_run us (kind_read k) fs ≡ repr_run us (repr_read (repr k no_reprs)) fs
kind-ends [] k [] h = refl
kind-ends [] k (f ∷ fs) h = refl
kind-ends (symbol open_square ∷ us) k fs h = cc
kind-ends (t ∷ us) k fs h = refl

mutual
  repr-run : {r : Repr} {ts us : List Token} → Representation r ts us → (fs : List ReprFrame) → starts_square us ≡ false → repr_run ts kind_wanted fs ≡ repr_run us (repr_read r) fs
  repr-run (childless {a = a} {k = k} {us = us} h) fs q = kind-run a k us fs h ∙ kind-ends us k fs q
  repr-run (with_children {a = a} {k = k} {rs = rs} {ts = ts} {us = us} h ds) fs q =
      kind-run a k (symbol open_square ∷ ts) fs h
      ∙ reprs-run ds k no_reprs fs (repr_run us (repr_read (repr k rs)) fs) (λ r acc p. ap (λ rs. repr_run us (repr_read (repr k rs)) fs) p) refl

  -- Children, behind those that are read.
  reprs-run : {rs : Reprs} {ts us : List Token} → Representations rs ts us → (k : ReprKind) (acc : Reprs) (fs : List ReprFrame) (x : Option Repr) →
      ((r : Repr) (bcc : Reprs) → reverse_reprs bcc (more_reprs r no_reprs) ≡ reverse_reprs acc rs → repr_run us (repr_read r) (children_frame k bcc ∷ fs) ≡ x) → starts_square us ≡ false →
      repr_run ts kind_wanted (children_frame k acc ∷ fs) ≡ x
  reprs-run (last_representation {r = r} d) k acc fs x leaf q = repr-run d (children_frame k acc ∷ fs) q ∙ leaf r acc refl
  reprs-run (next_representation {r = r} d ds) k acc fs x leaf q = repr-run d (children_frame k acc ∷ fs) refl ∙ reprs-run ds k (more_reprs r acc) fs x leaf q

-- A representation that the rules derive is read.
pub representation-complete : {r : Repr} {ts : List Token} → IsRepresentation r ts → read_representation ts ≡ Some r
representation-complete d = repr-run d [] refl

-- Each list of tokens is at most one representation.
pub one-representation : {q r : Repr} {ts : List Token} → IsRepresentation q ts → IsRepresentation r ts → q ≡ r
one-representation {q = q} {r = r} d g = let h : Some q ≡ Some r = sym (representation-complete d) ∙ representation-complete g in cc

-- ---- what the frames say of the tokens before them

-- The tokens t0 down to ts are those of the frames, and a representation follows.
data ReprContext (t0 : List Token) : List ReprFrame → List Token → Type 0 where
  no_repr_before : ReprContext t0 [] t0
  children_before : {fs : List ReprFrame} {a : Text} {k : ReprKind} {acc : Reprs} {us ts : List Token} → kind_of a ≡ Some k →
      ((rs : Reprs) (xs : List Token) → Representations rs ts xs → Representations (reverse_reprs acc rs) us xs) →
      ReprContext t0 fs (name a ∷ symbol open_square ∷ us) → ReprContext t0 (children_frame k acc ∷ fs) ts

-- The name of a kind was read under the frames.
record KindRead (t0 : List Token) (k : ReprKind) (fs : List ReprFrame) (ts : List Token) : Type 0 where
  a : Text
  is : kind_of a ≡ Some k
  context : ReprContext t0 fs (name a ∷ ts)

-- A representation was read under the frames.
record ReprRead (t0 : List Token) (r : Repr) (fs : List ReprFrame) (ts : List Token) : Type 0 where
  us : List Token
  context : ReprContext t0 fs us
  derivation : Representation r us ts

-- The tokens t0 down to ts are those of the state.
abbrev ReprInvariant : List Token → ReprMode → List ReprFrame → List Token → Type 0
ReprInvariant t0 kind_wanted fs ts = ReprContext t0 fs ts
ReprInvariant t0 (kind_read k) fs ts = KindRead t0 k fs ts
ReprInvariant t0 (repr_read r) fs ts = ReprRead t0 r fs ts

-- The same of a state that a step answers, if any.
abbrev ReprKeeps : List Token → Option ReprState → List Token → Type 0
ReprKeeps t0 None ts = Unit {0}
ReprKeeps t0 (Some r) ts = ReprInvariant t0 r.mode r.frames ts

by_kind : {X : Type 0} (o : Option ReprKind) (P : X → Type 0) (f : ReprKind → X) (y : X) → ((k : ReprKind) → o ≡ Some k → P (f k)) → P y → P (elim o [ Some k ↦ f k | None ↦ y ])
by_kind None P f y g h = h
by_kind (Some k) P f y g h = g k refl

then-keeps : {t0 : List Token} (t : Token) (r : Repr) (fs : List ReprFrame) (us ts : List Token) → ReprContext t0 fs us → Representation r us (t ∷ ts) → ReprKeeps t0 (repr_then t r fs) ts
then-keeps (symbol comma) r (children_frame k acc ∷ fs) us ts (children_before h p c) d = children_before h (λ rs xs ds. p (more_reprs r rs) xs (next_representation d ds)) c
then-keeps (symbol close_square) r (children_frame k acc ∷ fs) us ts (children_before {a = a} {us = vs} h p c) d =
    record { us = name a ∷ symbol open_square ∷ vs; context = c; derivation = with_children h (p (more_reprs r no_reprs) (symbol close_square ∷ ts) (last_representation d)) }
then-keeps _ r fs us ts c d = tt

wanted-keeps : {t0 : List Token} (t : Token) (fs : List ReprFrame) (ts : List Token) → ReprContext t0 fs (t ∷ ts) → ReprKeeps t0 (step_kind_wanted t fs) ts
wanted-keeps {t0 = t0} (name a) fs ts c = by_kind (kind_of a) (λ r. ReprKeeps t0 r ts) (λ k. at_repr_state (kind_read k) fs) None (λ k h. record { a = a; is = h; context = c }) tt
wanted-keeps _ fs ts c = tt

read-keeps : {t0 : List Token} (t : Token) (k : ReprKind) (fs : List ReprFrame) (ts : List Token) → KindRead t0 k fs (t ∷ ts) → ReprKeeps t0 (step_kind_read t k fs) ts
read-keeps (symbol open_square) k fs ts x = children_before x.is (λ rs xs ds. ds) x.context
read-keeps t k fs ts x = then-keeps t (repr k no_reprs) fs (name x.a ∷ t ∷ ts) ts x.context (childless x.is)

repr-step-keeps : (t0 : List Token) (t : Token) (m : ReprMode) (fs : List ReprFrame) (ts : List Token) → ReprInvariant t0 m fs (t ∷ ts) → ReprKeeps t0 (repr_step t m fs) ts
repr-step-keeps t0 t kind_wanted fs ts x = wanted-keeps t fs ts x
repr-step-keeps t0 t (kind_read k) fs ts x = read-keeps t k fs ts x
repr-step-keeps t0 t (repr_read r) fs ts x = then-keeps t r fs x.us ts x.context x.derivation

-- The rules derive the answer for these tokens, if there is one.
abbrev IsReprSound : List Token → Option Repr → Type 0
IsReprSound t0 None = Unit {0}
IsReprSound t0 (Some r) = IsRepresentation r t0

whole-repr : {t0 us : List Token} {r : Repr} → ReprContext t0 [] us → Representation r us [] → IsRepresentation r t0
whole-repr no_repr_before d = d

repr-finish-sound : (t0 : List Token) (m : ReprMode) (fs : List ReprFrame) → ReprInvariant t0 m fs [] → IsReprSound t0 (repr_finish m fs)
repr-finish-sound t0 (kind_read k) [] x = whole-repr x.context (childless x.is)
repr-finish-sound t0 (repr_read r) [] x = whole-repr x.context x.derivation
repr-finish-sound t0 _ fs x = tt

repr-then-sound : (t0 ts : List Token) (r : Option ReprState) → ReprKeeps t0 r ts → ((m : ReprMode) (fs : List ReprFrame) → ReprInvariant t0 m fs ts → IsReprSound t0 (repr_run ts m fs)) →
    IsReprSound t0 (then_repr_run r (repr_run ts))
repr-then-sound t0 ts None k f = tt
repr-then-sound t0 ts (Some r) k f = f r.mode r.frames k

repr-run-sound : (t0 ts : List Token) (m : ReprMode) (fs : List ReprFrame) → ReprInvariant t0 m fs ts → IsReprSound t0 (repr_run ts m fs)
repr-run-sound t0 [] m fs x = repr-finish-sound t0 m fs x
repr-run-sound t0 (t ∷ ts) m fs x = repr-then-sound t0 ts (repr_step t m fs) (repr-step-keeps t0 t m fs ts x) (λ n gs y. repr-run-sound t0 ts n gs y)

-- A representation that is read is derived.
pub representation-sound : (ts : List Token) (r : Repr) → read_representation ts ≡ Some r → IsRepresentation r ts
representation-sound ts r h = subst (λ o. IsReprSound ts o) h (repr-run-sound ts ts kind_wanted [] no_repr_before)

-- ---- where the machine stops

repr-stopped-at : (ts us : List Token) (r : Option ReprState) → ((m : ReprMode) (fs : List ReprFrame) → repr_state_after ts m fs ≡ None → repr_run (ts ++ us) m fs ≡ None) →
    then_repr_state_after r (repr_state_after ts) ≡ None → then_repr_run r (repr_run (ts ++ us)) ≡ None
repr-stopped-at ts us None k h = refl
repr-stopped-at ts us (Some r) k h = k r.mode r.frames h

repr-stopped : (ts us : List Token) (m : ReprMode) (fs : List ReprFrame) → repr_state_after ts m fs ≡ None → repr_run (ts ++ us) m fs ≡ None
repr-stopped [] us m fs h = cc
repr-stopped (t ∷ ts) us m fs h = repr-stopped-at ts us (repr_step t m fs) (λ n gs k. repr-stopped ts us n gs k) h

-- No representation begins with tokens at which the machine has stopped.
pub no-representation : (ts us : List Token) (r : Repr) → repr_state_after ts kind_wanted [] ≡ None → IsRepresentation r (ts ++ us) → ⊥
no-representation ts us r h d = let k = repr-stopped ts us kind_wanted [] h in let c = representation-complete d in cc
